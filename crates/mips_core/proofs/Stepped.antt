-- What one instruction's answer says of it, and stretches one after another.
use Rattle.std.proofs.Common.{zero, suc, inl, ◌≡◌, ◌≢◌, ◌<◌, ◌⊎◌, ℕ, ◌+◌, ◌-◌, Bool, true, false, None}
use Rattle.std.proofs.Common.{Option, if◌then◌else◌, Result, Ok, nat_eq, refl, sym, ap, arith, ◌∙◌, subst, ⊎_elim}
use Rattle.std.proofs.lemmas.Bool.Decides.{nat_tests}
use Rattle.host_edge.specs.declared.ending.MachineKind.{MachineKind}
use Rattle.mips_encoder.specs.Decoded.{instr_of}
use Rattle.mips_model.specs.State.{World}
use Rattle.mips_model.specs.Steps.{step}
use Rattle.mips_model.specs.Steps.{act, execute, faulted, found, is_hazard, word_at}
use Rattle.mips_encoder.specs.declared.instruction.Instr.{Instr}
use Rattle.mips_encoder.specs.declared.instruction.Instr.TheVariants.{Shift}
use Rattle.mips_encoder.specs.declared.instruction.ShiftOp.TheVariants.{Sll}
use Rattle.host_edge.specs.declared.ending.MachineKind.TheVariants as kind
use Rattle.mips_core.specs.declared.halt.Halt.{Halt}
use Rattle.mips_model.specs.Beside.{is_at_service, is_service}
use Rattle.mips_model.proofs.Traces.{text_stays}
use Rattle.mips_core.specs.declared.halt.Went.{Went}
use Rattle.mips_core.specs.declared.halt.Went.TheVariants as went
use Rattle.mips_core.specs.Core.{CoreKept, Executes, Follows, GoesOn, IsClear, IsPassed, Leaves, Pauses}
use Rattle.mips_core.specs.Core.{at, behind, ending_from, moved, next_of, state_of, world_of}
use Rattle.mips_core.proofs.Loops.{goes_more}
use Rattle.mips_core.proofs.Rows.{runs, two_names, zero_loaded}

-- the two clauses of a step from what was kept to what is
abbrev pub Services : Went → ℕ → CoreKept → CoreKept → Type 0
Services r pc mid new = is_at_service (state_of (at pc mid)) ≡ true → (r ≡ went.Service) × (new ≡ mid)

abbrev pub Others : Bool → Went → ℕ → CoreKept → CoreKept → Type 0
Others aside r pc mid new = is_at_service (state_of (at pc mid)) ≡ false →
    (world_of (behind r pc new) ≡ step (world_of (at pc mid))) × Leaves aside r pc new

-- what is known behind an instruction that was executed or refused
pub record More (count : ℕ) (first : CoreKept) (aside : Bool) (r : Went) (pc : ℕ) (mid new : CoreKept) : Type 0 where
  pub ran : GoesOn (count + 1) first (behind r pc new)
  pub leaves : Leaves aside r pc new
  pub text : (state_of new).code.text ≡ (state_of mid).code.text

-- they are those of a word that was executed
pub executed : {aside : Bool} {pc word : ℕ} {r : Went} {k new : CoreKept} →
    word_at (state_of (at pc k)).code pc ≡ Ok word → k.stopped ≡ None →
    Executes aside (instr_of word) word pc k r new → Services r pc k new × Others aside r pc k new
executed {aside} {pc} {word} {r} {k} {new} here on e = (
  λ is.
      let so : nat_eq word 12 ≡ true = sym (ap is_service here) ∙ is in
      e.service (grind (arith, nat_tests, so)),
  λ is.
      let so : nat_eq word 12 ≡ false = sym (ap is_service here) ∙ is in
      let not : word ≢ 12 = λ same. absurd (other (sym (ap (λ (n : ℕ). nat_eq n 12) same) ∙ so)) in
      let d = e.other not in (
        d.world
            ∙ sym (
            ap step (runs k pc on)
            ∙ ap (λ (f : Result ℕ MachineKind). execute (found f) (state_of (at pc k))) here),
        d.leaves,
      ),
)
  where
    other : true ≡ false → ⊥
    other is = absurd cc

-- the same where the address was read
pub executed_at : {aside : Bool} {there pc word : ℕ} {r : Went} {k new : CoreKept} → there ≡ pc →
    word_at (state_of (at pc k)).code pc ≡ Ok word → k.stopped ≡ None →
    Executes aside (instr_of word) word there k r new → Services r pc k new × Others aside r pc k new
executed_at {aside} {there} {pc} {word} {r} {k} {new} same here on e =
    executed here on (subst (λ (n : ℕ). Executes aside (instr_of word) word n k r new) same e)

no_service : {P Q : Type 0} (b : Bool) {r : Went} → (b ≡ true → (r ≡ went.Service) × P) → (b ≡ false → Q) →
    r ≢ went.Service → (b ≡ false) × Q
no_service true f g not = absurd (not (f refl).0)
no_service false f g not = (refl, g refl)

pub same_code : (r : Went) (pc : ℕ) (k : CoreKept) → (state_of (behind r pc k)).code.text ≡ (state_of k).code.text
same_code (went.On next) pc k = refl
same_code (went.Slot target) pc k = refl
same_code (went.Loaded n) pc k = refl
same_code (went.Pending next) pc k = refl
same_code went.Stopped pc k = refl
same_code went.Service pc k = refl

pub one_more : {count : ℕ} {first : CoreKept} (aside : Bool) (r : Went) (pc : ℕ) (mid new : CoreKept) →
    Services r pc mid new → Others aside r pc mid new → r ≢ went.Service → mid.stopped ≡ None →
    GoesOn count first (at pc mid) → More count first aside r pc mid new
one_more {count} {first} aside r pc mid new f g not on goes =
    let h = no_service (is_at_service (state_of (at pc mid))) f g not in
    record {
      ran = goes_more goes on h.0 h.1.0;
      leaves = h.1.1;
      text = sym (same_code r pc new) ∙ ap (λ (w : World). w.state.code.text) h.1.0
          ∙ text_stays 1 (world_of (at pc mid));
    }

pub on_not : (next : ℕ) → went.On next ≢ went.Service
on_not next is = absurd cc

pub pending_not : (next : ℕ) → went.Pending next ≢ went.Service
pending_not next is = absurd cc

pub stopped_not : went.Stopped ≢ went.Service
stopped_not is = absurd cc

pub pauses_stopped : (left : ℕ) (k : CoreKept) → k.stopped ≢ None → Pauses left k
pauses_stopped zero k stopped = tt
pauses_stopped (suc left) k stopped = inl stopped

-- an answer of Service is that of a SYSCALL, which was left
pub serves_by : (aside b : Bool) {P Q : Type 0} (pc : ℕ) (new : CoreKept) → (b ≡ true → P) →
    (b ≡ false → Q × Leaves aside went.Service pc new) → (b ≡ true) × P
serves_by aside true pc new f g = (refl, f refl)
serves_by aside false pc new f g = absurd (g refl).1

-- what is known where the run goes on at an address
pub record Onward (count : ℕ) (first : CoreKept) (pc : ℕ) (mid new : CoreKept) : Type 0 where
  pub ran : GoesOn (count + 1) first (at pc new)
  pub on : new.stopped ≡ None
  pub text : (state_of new).code.text ≡ (state_of mid).code.text

-- where something was pending
pub aside_on : {count : ℕ} {first : CoreKept} {r : Went} {next : ℕ} (pc : ℕ) (mid new : CoreKept) →
    Services r pc mid new → Others true r pc mid new → r ≡ went.On next → mid.stopped ≡ None →
    GoesOn count first (at pc mid) → Onward count first next mid new
aside_on {count} {first} {r} {next} pc mid new f g is on goes =
    let m = one_more true (went.On next) pc mid new (subst (λ (x : Went). Services x pc mid new) is f)
    (subst (λ (x : Went). Others true x pc mid new) is g) (on_not next) on goes in
    record { ran = m.ran; on = m.leaves.0; text = m.text }

pub aside_pending : {count : ℕ} {first : CoreKept} {r : Went} {next : ℕ} (pc : ℕ) (mid new : CoreKept) →
    Services r pc mid new → Others true r pc mid new → r ≡ went.Pending next → mid.stopped ≡ None →
    GoesOn count first (at pc mid) → Onward count first next mid new
aside_pending {count} {first} {r} {next} pc mid new f g is on goes =
    let m = one_more true (went.Pending next) pc mid new (subst (λ (x : Went). Services x pc mid new) is f)
    (subst (λ (x : Went). Others true x pc mid new) is g) (pending_not next) on goes in
    record { ran = m.ran; on = m.leaves.0; text = m.text }

-- where the count isn't spent an answer of Service is that of a SYSCALL; so any other answer says that it isn't
pub some_left : {P : Type 0} {r : Went} (left : ℕ) → (left ≡ 0 → (r ≡ went.Service) × P) → r ≢ went.Service → 0 < left
some_left zero f not = absurd (not (f refl).0)
some_left (suc n) f not = omega (arith)

-- and one that isn't Stopped, where no word is next, says that it is
pub none_left : {Q : Type 0} {r : Went} (left : ℕ) → (0 < left → (r ≡ went.Stopped) × Q) → r ≢ went.Stopped → left ≡ 0
none_left zero f not = refl
none_left (suc n) f not = absurd (not (f (omega (arith))).0)

pub some_of : (n : ℕ) → n ≢ 0 → 0 < n
some_of zero not = absurd (not refl)
some_of (suc n) not = omega (arith)

-- where something was pending, and the run goes on
pub aside_next : {count : ℕ} {first : CoreKept} {r : Went} {next : ℕ} (pc : ℕ) (mid new : CoreKept) →
    Services r pc mid new → Others true r pc mid new → (r ≡ went.On next) ⊎ (r ≡ went.Pending next) →
    mid.stopped ≡ None → GoesOn count first (at pc mid) → Onward count first next mid new
aside_next {count} {first} {r} {next} pc mid new f g is on goes =
    ⊎_elim (λ one. aside_on pc mid new f g one on goes) (λ other. aside_pending pc mid new f g other on goes) is

pub service_runs : went.Service ≢ went.Stopped
service_runs is = absurd cc

-- the machine has stopped at an instruction: its world, and what the answer says
pub halted_world : (r : Went) (pc : ℕ) (k : CoreKept) (w : World) → world_of (at pc k) ≡ w →
    (r ≡ went.Stopped) × (k.stopped ≢ None) → world_of (behind r pc k) ≡ w
halted_world (went.On next) pc k w is e = absurd cc
halted_world (went.Slot target) pc k w is e = absurd cc
halted_world (went.Loaded n) pc k w is e = absurd cc
halted_world (went.Pending next) pc k w is e = absurd cc
halted_world went.Stopped pc k w is e = is
halted_world went.Service pc k w is e = absurd cc

pub halted_leaves : (aside : Bool) (r : Went) (pc : ℕ) (k : CoreKept) → (r ≡ went.Stopped) × (k.stopped ≢ None) →
    Leaves aside r pc k
halted_leaves aside (went.On next) pc k e = absurd cc
halted_leaves aside (went.Slot target) pc k e = absurd cc
halted_leaves aside (went.Loaded n) pc k e = absurd cc
halted_leaves aside (went.Pending next) pc k e = absurd cc
halted_leaves aside went.Stopped pc k e = e.1
halted_leaves aside went.Service pc k e = absurd cc

-- a nop, which is never a hazard, goes on past what was pending
abbrev nop : Instr
nop = Shift Sll 0 0 0

quietly : (k : CoreKept) → is_hazard nop (state_of k) ≡ false
quietly k = two_names k 0 0 ∙ zero_loaded k.loaded

pub nop_moves : (k : CoreKept) → k.stopped ≡ None → word_at (state_of k).code k.pc ≡ Ok 0 →
    step (world_of k) ≡ moved (k.next + 4) false (world_of k)
nop_moves k on here =
    let s = state_of k in
    ap (λ (o : Option Halt). step (record { state = s; ending = ending_from o })) on
    ∙ ap (λ (f : Result ℕ MachineKind). execute (found f) s) here
    ∙ ap (λ (b : Bool). if b then faulted kind.Hazard s else act nop s) (quietly k)
    ∙ sym (ap (λ (o : Option Halt). moved (k.next + 4) false (record { state = s; ending = ending_from o })) on)

pub nop_is_other : (k : CoreKept) → word_at (state_of k).code k.pc ≡ Ok 0 → is_at_service (state_of k) ≡ false
nop_is_other k here = ap is_service here

-- where nothing is pending
abbrev plainly : CoreKept → (to : ℕ) → Bool → (loaded recent : ℕ) → World
plainly k to slot loaded recent = record {
  state = record (state_of (at to k)) { next = next_of slot k.next to; loaded = loaded; recent = recent; slot = slot };
  ending = ending_from k.stopped;
}

clear_at : (k : CoreKept) (to : ℕ) → IsClear k → world_of (at to k) ≡ plainly k to false 0 (k.recent - 1)
clear_at k to c =
    ap (λ (b : Bool). plainly k to b k.loaded k.recent) c.no_slot
    ∙ ap (λ (n : ℕ). plainly k to false n k.recent) c.not_loaded
    ∙ ap (plainly k to false 0) (c.not_recent ∙ sym (ap (λ (n : ℕ). n - 1) c.not_recent))

pub past_slot : {target left pc' left' : ℕ} (pc : ℕ) (k : CoreKept) → k.stopped ≡ None → IsClear k →
    word_at (state_of k).code (pc + 4) ≡ Ok 0 → 0 < left → left' ≡ left - 1 → pc' ≡ target →
    Follows (behind (went.Slot target) pc k) left true pc' left' k
past_slot {target} {left} {pc'} {left'} pc k on clear here some fewer is =
    let from = behind (went.Slot target) pc k in
    let passed : IsPassed from left pc' left' k = record {
      some = some;
      other = nop_is_other from here;
      world = ap (λ (n : ℕ). world_of (at n k)) is ∙ clear_at k target clear ∙ sym (nop_moves from on here);
      fewer = fewer;
    } in
    record { on = on; clear = λ is. clear; went = inl passed }

pub past_load : {left pc' left' : ℕ} (pc r : ℕ) (k : CoreKept) → k.stopped ≡ None → IsClear k →
    word_at (state_of k).code (pc + 4) ≡ Ok 0 → 0 < left → left' ≡ left - 1 → pc' ≡ pc + 4 + 4 →
    Follows (behind (went.Loaded r) pc k) left true pc' left' k
past_load {left} {pc'} {left'} pc r k on clear here some fewer is =
    let from = behind (went.Loaded r) pc k in
    let passed : IsPassed from left pc' left' k = record {
      some = some;
      other = nop_is_other from here;
      world = ap (λ (n : ℕ). world_of (at n k)) is
          ∙ clear_at k (pc + 4 + 4) clear
          ∙ sym (ap (λ (b : Bool). plainly k (next_of b k.next (pc + 4)) false 0 (k.recent - 1)) clear.no_slot)
          ∙ sym (nop_moves from on here);
      fewer = fewer;
    } in
    record { on = on; clear = λ is. clear; went = inl passed }

-- what is known of the core where the run went on
pub runs_on : (r : Went) (pc : ℕ) (k : CoreKept) → r ≢ went.Stopped → Leaves false r pc k → k.stopped ≡ None
runs_on (went.On next) pc k not e = e.0
runs_on (went.Slot target) pc k not e = e.0
runs_on (went.Loaded n) pc k not e = e.0
runs_on (went.Pending next) pc k not e = e.0
runs_on went.Stopped pc k not e = absurd (not refl)
runs_on went.Service pc k not e = absurd e

pub same_stop : (r : Went) (pc : ℕ) (k : CoreKept) → (behind r pc k).stopped ≡ k.stopped
same_stop (went.On next) pc k = refl
same_stop (went.Slot target) pc k = refl
same_stop (went.Loaded n) pc k = refl
same_stop (went.Pending next) pc k = refl
same_stop went.Stopped pc k = refl
same_stop went.Service pc k = refl
