-- What a machine has of a service that makes code, from what its core's call left.
use Rattle.std.proofs.Common.{◌≡◌, ℕ, ◌+◌, ◌≤◌, arith, Option, None, Some, Result, Ok, Err, refl, sym, ap, ◌∙◌}
use Rattle.std.proofs.Common.{subst}
use Rattle.host_edge.specs.declared.ending.MachineKind.TheVariants as kind
use Rattle.word32.specs.declared.map.TheConstants.{ARENA_WORDS}
use Rattle.limits.specs.declared.ops.TheConstants.{MOST_REGISTERS}
use Rattle.code_arena.specs.Arena.{Arena}
use Rattle.icode_service.specs.Served.{Did}
use Rattle.mips_model.specs.declared.bad_service.BadService.{BadService}
use Rattle.mips_model.proofs.Small.{answers-are-small}
use Rattle.mips_model.specs.Choices.{Choice}
use Rattle.mips_model.specs.CodeServices as services
use Rattle.mips_model.specs.CodeServices.{Generator, Rows, Outcome, Refused, Does}
use Rattle.mips_model.specs.declared.service.Service.{Service}
use Rattle.mips_model.specs.declared.service.Service.TheVariants.{PutInt, Exit, PutByte, GetByte, Begin, Emit, Finish}
use Rattle.mips_model.specs.declared.service.Service.TheVariants.{Flush, Publish}
use Rattle.mips_model.specs.State.{World}
use Rattle.mips_model.specs.Steps.{going}
use Rattle.mips_model.specs.Beside.{beside_state}
use Rattle.mips_core.specs.Core.{CoreKept, generated, state_of, world_of}
use Rattle.mips_machine.specs.declared.stop.Stop.{Stop}
use Rattle.mips_machine.specs.declared.stop.Stop.TheVariants.{Fault}
use Rattle.mips_machine.specs.declared.tally.Tally.{Tally}
use Rattle.mips_machine.specs.Tallies.{tallied}
use Rattle.mips_machine.specs.Progress.{Held, IsMachine, Progress, outside_of, progress_of}
use Rattle.mips_machine.specs.Served.{counted, Makes, stop_from}

-- a machine whose service answered
abbrev pub behind : Held → CoreKept → Generator → Service → ℕ → Held
behind old core g service v =
    record old { core = core; generator = g; tally = tallied service v old.tally; steps = old.steps + 1 }

abbrev IsOk : Result ℕ BadService → Type 0
IsOk (Ok v) = Unit {0}
IsOk (Err why) = ⊥

abbrev IsErr : Result ℕ BadService → Type 0
IsErr (Ok v) = ⊥
IsErr (Err why) = Unit {0}

abbrev word_of : Result ℕ BadService → ℕ
word_of (Ok v) = v
word_of (Err why) = 0

-- the place of such a machine, in a state with its counts
abbrev seen : Held → Service → ℕ → Generator → World → Progress
seen old service x m w =
    record { state = beside_state (outside_of (behind old old.core m service x)) w.state; steps = old.steps + 1 }

abbrev placed : Held → Service → ℕ → Generator → Arena → Rows → Progress
placed old service x m a t = seen old service x m (generated x a t (state_of old.core))

-- the service answered
pub answers : (old : Held) (core : CoreKept) (g : Generator) (service : Service) (v : ℕ) (arena : Arena) (table : Rows)
    (o : Outcome) →
    Did o old.generator g (state_of old.core).code.arena arena (state_of old.core).d.table table (Ok v) →
    world_of core ≡ generated v arena table (state_of old.core) → old.stopped ≡ None →
    Makes o service (progress_of old) (progress_of (behind old core g service v)) (stop_from old.stopped)
answers old core g service v arena table (Refused why) did is on = absurd (subst IsOk did.0 tt)
answers old core g service v arena table (Does answer made change set) did is on = (
  ap (seen old service v g) is
      ∙ (ap (λ (x : ℕ). placed old service x g arena table) (ap word_of did.0)
      ∙ (ap (λ (x : Generator). placed old service answer x arena table) did.1
      ∙ (ap (λ (x : Arena). placed old service answer made x table) did.2
      ∙ ap (λ (x : Rows). placed old service answer made (change (state_of old.core).code.arena) x) did.3))),
  ap stop_from on,
)

-- a machine whose core and services are as they were
same_progress : (old : Held) (core : CoreKept) (g : Generator) → world_of core ≡ going (state_of old.core) →
    g ≡ old.generator → progress_of (record old { core = core; generator = g }) ≡ progress_of old
same_progress old core g is same =
    ap (λ (w : World). let p : Progress = record {
      state = beside_state (outside_of (record old { generator = g })) w.state;
      steps = old.steps;
    } in p) is
    ∙ ap (λ (x : Generator). progress_of (record old { generator = x })) same

-- the service was refused, and the instruction is counted
pub refuses : (old : Held) (core : CoreKept) (g : Generator) (service : Service) (why : BadService) (arena : Arena)
    (table : Rows) (new : Progress) (o : Outcome) (stopped : Option Stop) →
    Did o old.generator g (state_of old.core).code.arena arena (state_of old.core).d.table table (Err why) →
    world_of core ≡ going (state_of old.core) →
    new ≡ counted (progress_of (record old { core = core; generator = g })) →
    stopped ≡ Some (Fault kind.BadService core.pc) → Makes o service (progress_of old) new (stop_from stopped)
refuses old core g service why arena table new (Refused other) stopped did is counts stops = (
  counts ∙ ap counted (same_progress old core g is did.1),
  ap stop_from stops ∙ ap (λ (w : World). Fault kind.BadService w.state.pc) is,
)
refuses old core g service why arena table new (Does answer made change set) stopped did is counts stops =
    absurd (subst IsErr did.0 tt)

-- what a refused service left: the generator, and where the core stood
pub left_alone : (old : Held) (g : Generator) (why : BadService) (arena : Arena) (table : Rows) (o : Outcome) →
    Did o old.generator g (state_of old.core).code.arena arena (state_of old.core).d.table table (Err why) →
    g ≡ old.generator
left_alone old g why arena table (Refused other) did = did.1
left_alone old g why arena table (Does answer made change set) did = absurd (subst IsErr did.0 tt)

-- ---- the invariant stays

ops_grow : (service : Service) (v : ℕ) (t : Tally) → (tallied service v t).ops ≤ t.ops + 1
ops_grow PutInt v t = omega arith
ops_grow Exit v t = omega arith
ops_grow PutByte v t = omega arith
ops_grow GetByte v t = omega arith
ops_grow Begin v t = omega arith
ops_grow Emit v t = omega arith
ops_grow Finish v t = omega arith
ops_grow Flush v t = omega arith
ops_grow Publish v t = omega arith

functions_grow : (service : Service) (v : ℕ) (t : Tally) → (tallied service v t).functions ≤ t.functions + 1
functions_grow PutInt v t = omega arith
functions_grow Exit v t = omega arith
functions_grow PutByte v t = omega arith
functions_grow GetByte v t = omega arith
functions_grow Begin v t = omega arith
functions_grow Emit v t = omega arith
functions_grow Finish v t = omega arith
functions_grow Flush v t = omega arith
functions_grow Publish v t = omega arith

flushes_grow : (service : Service) (v : ℕ) (t : Tally) → (tallied service v t).flushes ≤ t.flushes + 1
flushes_grow PutInt v t = omega arith
flushes_grow Exit v t = omega arith
flushes_grow PutByte v t = omega arith
flushes_grow GetByte v t = omega arith
flushes_grow Begin v t = omega arith
flushes_grow Emit v t = omega arith
flushes_grow Finish v t = omega arith
flushes_grow Flush v t = omega arith
flushes_grow Publish v t = omega arith

words_grow : (service : Service) (v : ℕ) (t : Tally) → (tallied service v t).words ≤ t.words + v
words_grow PutInt v t = omega arith
words_grow Exit v t = omega arith
words_grow PutByte v t = omega arith
words_grow GetByte v t = omega arith
words_grow Begin v t = omega arith
words_grow Emit v t = omega arith
words_grow Finish v t = omega arith
words_grow Flush v t = omega arith
words_grow Publish v t = omega arith

-- no service answers more than there are words in the arena
pub small_answer : (choice : Choice) (n a b c v : ℕ) (old new : Generator) (arena after : Arena) (rows later : Rows) →
    Did (services.service choice n a b c old) old new arena after rows later (Ok v) → v ≤ ARENA_WORDS
small_answer choice n a b c v old new arena after rows later did =
    by (services.service choice n a b c old) refl did
  where
    by : (o : Outcome) → services.service choice n a b c old ≡ o → Did o old new arena after rows later (Ok v) →
        v ≤ ARENA_WORDS
    by (Refused why) is did = absurd (subst IsOk did.0 tt)
    by (Does answer made change set) is did =
        let small : answer ≤ ARENA_WORDS = answers-are-small choice n a b c answer old made change set is in
        subst (λ k. k ≤ ARENA_WORDS) (sym (ap word_of did.0)) small

pub grown : (old : Held) (core : CoreKept) (g : Generator) (service : Service) (v : ℕ) (tally : Tally) →
    IsMachine old → core.stopped ≡ None → tally ≡ tallied service v old.tally → v ≤ ARENA_WORDS →
    g.spills ≤ old.generator.spills + MOST_REGISTERS →
    IsMachine (record old { core = core; generator = g; tally = tally; steps = old.steps + 1 })
grown old core g service v tally is on counts small few =
    subst (λ (t : Tally). IsMachine (record old { core = core; generator = g; tally = t; steps = old.steps + 1 }))
    (sym counts)
    (record {
      alive = λ e. on;
      stays = is.stays;
      ops_are_steps = let a = ops_grow service v old.tally in let b = is.ops_are_steps in omega (arith, a, b);
      functions_are_steps =
          let a = functions_grow service v old.tally in let b = is.functions_are_steps in omega (arith, a, b);
      flushes_are_steps =
          let a = flushes_grow service v old.tally in let b = is.flushes_are_steps in omega (arith, a, b);
      words_are_few =
          let a = words_grow service v old.tally in let b = is.words_are_few in omega (arith, a, b, small);
      spills_are_few = let b = is.spills_are_few in omega (arith, b, few);
    })

pub unmoved : (old : Held) (core : CoreKept) (g : Generator) → IsMachine old → core.stopped ≡ None →
    g ≡ old.generator → IsMachine (record old { core = core; generator = g })
unmoved old core g is on same =
    subst (λ (x : Generator). IsMachine (record old { core = core; generator = x })) (sym same)
    (record {
      alive = λ e. on;
      stays = is.stays;
      ops_are_steps = is.ops_are_steps;
      functions_are_steps = is.functions_are_steps;
      flushes_are_steps = is.flushes_are_steps;
      words_are_few = is.words_are_few;
      spills_are_few = is.spills_are_few;
    })
