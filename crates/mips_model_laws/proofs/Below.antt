-- A run on bare code is one on the code itself, and stays below the arena.
use Rattle.std.proofs.Common.{◌≡◌, ◌≢◌, ◌⊎◌, inl, inr, ℕ, zero, suc, ◌+◌, ◌-◌, ◌/◌, ◌%◌, ◌<◌, ◌≤◌, ◌==◌, Bool, true}
use Rattle.std.proofs.Common.{false}
use Rattle.std.proofs.Common.{List, [], Option, Some, None, Result, Ok, Err, refl, sym, ap, ◌∙◌, subst, arith}
use Rattle.std.proofs.Common.{nat_lt, if◌then◌else◌, is_some}
use mathlib.Core.Path.{fun_ext}
use Rattle.std.specs.Fn.{iterate}
use Rattle.std.proofs.lemmas.Bool.{false≢true, cases_Bool, lt-ltb}
use Rattle.std.proofs.lemmas.Bool.Decides.{nat_tests}
use Rattle.word32.specs.declared.width.Width.{Width}
use Rattle.word32.specs.Parts.{is_aligned, loaded_part}
use Rattle.word32.specs.declared.map.TheConstants.{ARENA}
use Rattle.code_arena.specs.Arena.{Arena, fetched}
use Rattle.code_arena.specs.declared.arena.WordState.{WordState}
use Rattle.code_arena.specs.declared.arena.WordState.TheVariants.{Unwritten, Written, Flushed}
use Rattle.host_edge.specs.declared.ending.MachineKind.{MachineKind}
use Rattle.host_edge.specs.declared.ending.MachineKind.TheVariants as kind
use Rattle.history.specs.Events.{End, Ended, Fault, Next, Given, AtEnd, Failing, next_byte}
use Rattle.mips_encoder.specs.declared.instruction.Instr.{Instr}
use Rattle.mips_encoder.specs.declared.instruction.Instr.TheVariants.{Syscall}
use Rattle.mips_model.specs.declared.service.Service.{Service}
use Rattle.mips_model.specs.declared.service.Service.TheVariants as service
use Rattle.mips_model.specs.CodeServices as services
use Rattle.mips_model.specs.CodeServices.{Outcome}
use Rattle.mips_model.specs.State.{Making, Outside, Code, State, World, register, set_register}
use Rattle.mips_model.specs.Services.{service_of, serve, get, got, read, makes, writes, generator_of, next_choice}
use Rattle.mips_model.specs.Services.{spent}
use Rattle.mips_model.specs.Services.{flushed_once}
use Rattle.mips_model.specs.Accesses.{Effect, Plain, Loads, Changes, ReadsText, ReadsArena, StoresText, Branches}
use Rattle.mips_model.specs.Accesses.{BranchesLinking, Jumps, JumpsLinking, Goes, GoesLinking, Ends, Faults, InputFails}
use Rattle.mips_model.specs.Accesses.{arena_word}
use Rattle.mips_model.specs.Effects.{effect}
use Rattle.mips_model.specs.Steps.{Fetched, Refused, Is, found, from_text, from_arena, text_word, is_arena_word}
use Rattle.mips_model.specs.Steps.{word_at}
use Rattle.mips_model.specs.Steps.{fetch, going, faulted, reads, stores_text, apply, act, is_hazard, recent_behind}
use Rattle.mips_model.specs.Steps.{checked, execute, step, ended}
use Rattle.mips_model.specs.Steps as steps
use Rattle.host_edge.specs.declared.ending.Ending.TheVariants.{Trap}
use Rattle.host_edge.specs.declared.ending.TrapKind.TheVariants as trap
use Rattle.mips_model.specs.Beside.{is_service, is_at_service}
use Rattle.mips_model.specs.Told.{Told, entry_at, entered}
use Rattle.mips_model.proofs.Aside.{step_aside}
use Rattle.mips_model.proofs.Runs.{step_stays}
use Rattle.mips_model_laws.specs.Laws.{bare, with_code, NoneIsEntered, RunsStayBelow, RunsCarryOver}
use Rattle.mips_model_laws.specs.Laws.{only, IsOf, StaysIn, RunsStayIn, RunsCarryIn}
use Rattle.mips_model_laws.proofs.Alike.{Part, Alike, IsFine, effect_fine}

-- the text is the same, and of the first code no word of the arena can be executed
record SameBut (base : Part) (bare full : Code) : Type 0 where
  text : bare.text ≡ full.text
  arena : Alike base bare.arena full.arena

abbrev pub flushes_of : State → ℕ
flushes_of s = s.d.outside.flushes

-- ---- one instruction

-- where the first code went, the second goes too
record Follows (z : Part) (w : World) (next : State) : Type 0 where
  code : Code
  does : w ≡ going (with_code code next)
  same : SameBut z next.code code

went : (z : Part) (x next : State) (c : Code) → SameBut z x.code c → going x ≡ going next →
    Follows z (going (with_code c x)) next
went z x next c h e =
    let is : x ≡ next = ap (λ (w : World). w.state) e in
    record {
      code = c;
      does = ap (λ (y : State). going (with_code c y)) is;
      same = subst (λ (y : State). SameBut z y.code c) is h;
    }

-- an ending is no state that goes on
not_going : (w : World) (e : End) (next : State) → w.ending ≡ Some e → w ≡ going next → ⊥
not_going w e next is goes = let none = ap (λ (x : World). x.ending) goes in cc

-- it goes on or has ended
either : (z : Part) (t : Bool) (x next : State) (c : Code) (e : End) (y y' : State) → SameBut z x.code c →
    (if t then going x else ended e y) ≡ going next →
    Follows z (if t then going (with_code c x) else ended e y') next
either z true x next c e y y' h goes = went z x next c h goes
either z false x next c e y y' h goes = absurd (not_going (ended e y) e next refl goes)

module _ (z : Part) (s : State) (b c : Code) (h : SameBut z b c) (next : State) where
  reads_follow : (x : Option ℕ) (r at : ℕ) (width : Width) (recent : ℕ) →
      reads x r at width recent (with_code b s) ≡ going next →
      Follows z (reads x r at width recent (with_code c s)) next
  reads_follow None r at width recent e = absurd (not_going _ _ next refl e)
  reads_follow (Some w) r at width recent e =
      either z (is_aligned at width) (record {
        pc = s.next;
        next = s.next + 4;
        loaded = r;
        recent = recent;
        slot = false;
        code = b;
        d = set_register r (loaded_part w at width) s.d;
      }) next c _ (with_code b s) (with_code c s) h e

  stores_follow : (x : Option ℕ) (at : ℕ) (width : Width) → stores_text x at width (with_code b s) ≡ going next → ⊥
  stores_follow None at width e = not_going _ _ next refl e
  stores_follow (Some w) at width e = not_going _ _ next refl e

  apply_follows : (e : Effect) (recent : ℕ) → IsFine (flushes_of s) e → apply e recent (with_code b s) ≡ going next →
      flushes_of next ≡ flushes_of s → Follows z (apply e recent (with_code c s)) next
  apply_follows (Plain d) recent fine goes same = went z _ next c h goes
  apply_follows (Loads r d) recent fine goes same = went z _ next c h goes
  apply_follows (Changes f d) recent fine goes same =
      let counted : d.outside.flushes ≡ flushes_of s = ap (λ (w : World). flushes_of w.state) goes ∙ same in
      went z _ next (record c { arena = f c.arena })
      (record { text = h.text; arena = fine counted z b.arena c.arena h.arena }) goes
  apply_follows (ReadsText r at width) recent fine goes same =
      let text = ap (λ (g : ℕ → Option ℕ). g (at / 4)) h.text in
      subst (λ x. Follows z (reads x r at width recent (with_code c s)) next) text
      (reads_follow (b.text (at / 4)) r at width recent goes)
  apply_follows (ReadsArena r at width) recent fine goes same =
      let words = ap (λ (g : ℕ → ℕ). g (arena_word at)) h.arena.words in
      subst (λ x. Follows z (reads (Some x) r at width recent (with_code c s)) next) words
      (reads_follow (Some (b.arena.words (arena_word at))) r at width recent goes)
  apply_follows (StoresText at width) recent fine goes same =
      absurd (stores_follow (b.text (at / 4)) at width goes)
  apply_follows (Branches taken offset) recent fine goes same = went z _ next c h goes
  apply_follows (BranchesLinking taken offset) recent fine goes same = went z _ next c h goes
  apply_follows (Jumps target) recent fine goes same = went z _ next c h goes
  apply_follows (JumpsLinking r target) recent fine goes same = went z _ next c h goes
  apply_follows (Goes word) recent fine goes same = went z _ next c h goes
  apply_follows (GoesLinking word) recent fine goes same = went z _ next c h goes
  apply_follows (Ends e) recent fine goes same = absurd (not_going _ _ next refl goes)
  apply_follows (Faults k) recent fine goes same = absurd (not_going _ _ next refl goes)
  apply_follows InputFails recent fine goes same = absurd (not_going _ _ next refl goes)

  checked_follows : (i : Instr) → checked i (with_code b s) ≡ going next → flushes_of next ≡ flushes_of s →
      Follows z (checked i (with_code c s)) next
  checked_follows i goes same = by (is_hazard i s) goes
    where
      by : (t : Bool) → (if t then faulted kind.Hazard (with_code b s) else act i (with_code b s)) ≡ going next →
          Follows z (if t then faulted kind.Hazard (with_code c s) else act i (with_code c s)) next
      by true goes = absurd (not_going _ _ next refl goes)
      by false goes = apply_follows (effect i s.d) (recent_behind i s.recent) (effect_fine i s.d) goes same

  execute_follows : (f : Fetched) → execute f (with_code b s) ≡ going next → flushes_of next ≡ flushes_of s →
      Follows z (execute f (with_code c s)) next
  execute_follows (Refused k) goes same = absurd (not_going _ _ next refl goes)
  execute_follows (Is i) goes same = checked_follows i goes same

  -- a word of the arena that is fetched can be executed
  is_flushed : (state : WordState) (w : ℕ) →
      execute (found (from_arena (fetched state w))) (with_code b s) ≡ going next → state ≡ Flushed
  is_flushed Flushed w goes = refl
  is_flushed Written w goes = absurd (not_going _ _ next refl goes)
  is_flushed Unwritten w goes = absurd (not_going _ _ next refl goes)

  record Steps : Type 0 where
    stands : IsOf z.can s.pc
    follows : Follows z (step (going (with_code c s))) next

  step_follows : step (going (with_code b s)) ≡ going next → flushes_of next ≡ flushes_of s → Steps
  step_follows goes same = by (nat_lt s.pc ARENA) refl goes
    where
      arena_goes : (t : Bool) → nat_lt s.pc ARENA ≡ false → is_arena_word s.pc ≡ t →
          execute (found (if t then from_arena (fetched (b.arena.states (arena_word s.pc)) (b.arena.words (arena_word
          s.pc))) else Err kind.Fetch)) (with_code b s) ≡ going next → Steps
      arena_goes true far here goes =
          let k = arena_word s.pc in
          let state : b.arena.states k ≡ Flushed = is_flushed (b.arena.states k) (b.arena.words k) goes in
          let may : z.can k ≡ true = h.arena.only k state in
          let states : b.arena.states k ≡ c.arena.states k = sym (h.arena.can k may) in
          let words : b.arena.words k ≡ c.arena.words k = ap (λ (f : ℕ → ℕ). f k) h.arena.words in
          let same_fetch : fetch c s.pc ≡ found (from_arena (fetched (c.arena.states k) (c.arena.words k))) =
          ap (λ (x : Bool). found (if x then from_text (text_word c s.pc) else
          (if is_arena_word s.pc then from_arena (fetched (c.arena.states k) (c.arena.words k)) else Err kind.Fetch)))
          far
          ∙ ap (λ (x : Bool). found (if x then from_arena (fetched (c.arena.states k) (c.arena.words k)) else Err
          kind.Fetch)) here in
          record {
            stands = inr may;
            follows = subst (λ f. Follows z (execute f (with_code c s)) next) (sym same_fetch)
                (subst (λ (o : WordState). Follows z (execute (found (from_arena (fetched o (c.arena.words k))))
                (with_code c s)) next) states
                (subst (λ (n : ℕ). Follows z (execute (found (from_arena (fetched (b.arena.states k) n)))
                (with_code c s)) next) words
                (execute_follows (found (from_arena (fetched (b.arena.states k) (b.arena.words k)))) goes same)));
          }
      arena_goes false far here goes = absurd (not_going _ _ next refl goes)

      by : (t : Bool) → nat_lt s.pc ARENA ≡ t →
          execute (found (if t then from_text (text_word b s.pc) else
          (if is_arena_word s.pc then from_arena (fetched (b.arena.states (arena_word s.pc)) (b.arena.words (arena_word
          s.pc))) else Err kind.Fetch))) (with_code b s) ≡ going next → Steps
      by true t goes =
          let same_word : text_word b s.pc ≡ text_word c s.pc =
          ap (λ (g : ℕ → Option ℕ). if (s.pc % 4 == 0) then g (s.pc / 4) else None) h.text in
          let same_fetch : fetch c s.pc ≡ found (from_text (text_word c s.pc)) =
          ap (λ (x : Bool). found (if x then from_text (text_word c s.pc) else
          (if is_arena_word s.pc then from_arena (fetched (c.arena.states (arena_word s.pc)) (c.arena.words (arena_word
          s.pc))) else Err kind.Fetch))) t in
          record {
            stands = inl (grind (arith, nat_tests, t));
            follows = subst (λ f. Follows z (execute f (with_code c s)) next) (sym same_fetch)
                (subst (λ o. Follows z (execute (found (from_text o)) (with_code c s)) next) same_word
                (execute_follows (found (from_text (text_word b s.pc))) goes same));
          }
      by false t goes = arena_goes (is_arena_word s.pc) t refl goes

-- ---- flushes are only counted up

abbrev pub flushes_in : World → ℕ
flushes_in w = flushes_of w.state

read_counts : (next : Next) (recent : ℕ) (s : State) → flushes_of s ≤ flushes_in (apply (read next s.d) recent s)
read_counts (Given b rest) recent s = omega arith
read_counts AtEnd recent s = omega arith
read_counts Failing recent s = omega arith

get_counts : (recent : ℕ) (s : State) → flushes_of s ≤ flushes_in (apply (get s.d) recent s)
get_counts recent s = by s.d.outside.at_end
  where
    by : (b : Bool) → flushes_of s ≤ flushes_in (apply (if b then got 4294967295 true s.d.outside.input s.d else
        read (next_byte s.d.outside.input) s.d) recent s)
    by true = omega arith
    by false = read_counts (next_byte s.d.outside.input) recent s

makes_counts : (o : Outcome) (note : Making → Making) (recent : ℕ) (s : State) →
    flushes_of s ≤ flushes_in (apply (makes o note s.d) recent s)
makes_counts (services.Refused why) note recent s = omega arith
makes_counts (services.Does v g change set) note recent s = omega arith

writes_counts : (o : Outcome) (note : ℕ → Outside → Outside) (recent : ℕ) (s : State) →
    ((v : ℕ) (x : Outside) → x.flushes ≤ (note v x).flushes) →
    flushes_of s ≤ flushes_in (apply (writes o note s.d) recent s)
writes_counts (services.Refused why) note recent s keeps = omega arith
writes_counts (services.Does v g change set) note recent s keeps =
    keeps v (record s.d.outside { making = record s.d.outside.making { generator = g } })

serve_counts : (x : Option Service) (recent : ℕ) (s : State) → flushes_of s ≤ flushes_in (apply (serve x s.d) recent s)
serve_counts None recent s = omega arith
serve_counts (Some service.PutInt) recent s = omega arith
serve_counts (Some service.Exit) recent s = omega arith
serve_counts (Some service.PutByte) recent s = omega arith
serve_counts (Some service.GetByte) recent s = get_counts recent s
serve_counts (Some service.Begin) recent s = makes_counts _ _ recent s
serve_counts (Some service.Emit) recent s = makes_counts _ _ recent s
serve_counts (Some service.Finish) recent s =
    writes_counts (services.finish (next_choice s.d.outside.making.row) (register 4 s.d) (register 5 s.d)
    (register 6 s.d) (generator_of s.d)) (spent (register 4 s.d)) recent s (λ v x. omega arith)
serve_counts (Some service.Flush) recent s =
    writes_counts (services.flush (register 4 s.d) (register 5 s.d) (generator_of s.d)) flushed_once recent s
    (λ v x. omega arith)
serve_counts (Some service.Publish) recent s = makes_counts _ _ recent s

syscall_counts : (s : State) → flushes_of s ≤ flushes_in (checked Syscall s)
syscall_counts s = by (is_hazard Syscall s)
  where
    by : (b : Bool) → flushes_of s ≤ flushes_in (if b then faulted kind.Hazard s else act Syscall s)
    by true = omega arith
    by false = serve_counts (service_of (register 2 s.d)) (s.recent - 1) s

found_counts : (x : Result ℕ MachineKind) (s : State) → is_service x ≡ true →
    flushes_of s ≤ flushes_in (execute (found x) s)
found_counts (Err k) s is = absurd (false≢true is)
found_counts (Ok w) s is =
    let e : 12 ≡ w = grind (arith, nat_tests, is) in
    subst (λ k. flushes_of s ≤ flushes_in (execute (found (Ok k)) s)) e (syscall_counts s)

step_counts : (w : World) → flushes_in w ≤ flushes_in (step w)
step_counts w = elim (cases_Bool (is_at_service w.state)) [
  | inl t ↦ by (is_some w.ending) t
  | inr f ↦ (let same = ap flushes_in (step_aside w w.state.d.outside f) in omega (arith, same))
]
  where
    by : (b : Bool) → is_at_service w.state ≡ true →
        flushes_in w ≤ flushes_in (if b then w else execute (fetch w.state.code w.state.pc) w.state)
    by true t = omega arith
    by false t = found_counts (word_at w.state.code w.state.pc) w.state t

pub runs_count : (n : ℕ) (w : World) → flushes_in w ≤ flushes_in (iterate step n w)
runs_count zero w = omega arith
runs_count (suc n) w =
    let first = step_counts w in
    let rest = runs_count n (step w) in
    omega (arith, first, rest)

-- ---- all of them

stays_ended : (n : ℕ) (w : World) (e : End) → w.ending ≡ Some e → iterate step n w ≡ w
stays_ended zero w e is = refl
stays_ended (suc n) w e is = ap (iterate step n) (step_stays w e is) ∙ stays_ended n w e is

pub enters_none : (w : World) → w.state.pc < ARENA → entered w ≡ []
enters_none w low =
    let t : nat_lt w.state.pc ARENA ≡ true = lt-ltb w.state.pc ARENA low in
    by (is_some w.ending) (entry_at (fetch w.state.code w.state.pc) w.state) (nat_lt w.state.pc ARENA) t
  where
    by : (o : Bool) (xs : List Told) (b : Bool) → b ≡ true → (if o then [] else (if b then [] else xs)) ≡ []
    by true xs b t = refl
    by false xs b t = ap (λ (x : Bool). if x then [] else xs) t

pub none_entered : NoneIsEntered
none_entered count s below i l = enters_none (iterate step i (going s)) (below i l)

abbrev Stands : Part → World → Type 0
Stands z w = IsOf z.can w.state.pc

-- the first instruction, and the rest of the run
record Onward (z : Part) (n : ℕ) (s : State) (b c : Code) (after : State) (h : SameBut z b c) : Type 0 where
  next : State
  steps : Steps z s b c h next
  on : iterate step n (going next) ≡ going after
  equal : flushes_of after ≡ flushes_of next

module _ (z : Part) (n : ℕ) (s : State) (b c : Code) (after : State) (h : SameBut z b c)
    (goes : iterate step (suc n) (going (with_code b s)) ≡ going after) (same : flushes_of after ≡ flushes_of s) where
  from_next : (next : State) → step (going (with_code b s)) ≡ going next → Onward z n s b c after h
  from_next next is =
      let on : iterate step n (going next) ≡ going after = ap (iterate step n) (sym is) ∙ goes in
      let up = step_counts (going (with_code b s)) in
      let more = runs_count n (going next) in
      let here : flushes_in (step (going (with_code b s))) ≡ flushes_of next = ap flushes_in is in
      let last : flushes_in (iterate step n (going next)) ≡ flushes_of after = ap flushes_in on in
      record {
        next = next;
        steps = step_follows z s b c h next is (omega (arith, up, more, here, last, same));
        on = on;
        equal = omega (arith, up, more, here, last, same);
      }

  by_ending : (o : Option End) (next : State) →
      step (going (with_code b s)) ≡ (let w : World = record { state = next; ending = o } in w) →
      Onward z n s b c after h
  by_ending (Some e) next is =
      let w : World = record { state = next; ending = Some e } in
      let stays : iterate step n w ≡ w = stays_ended n w e refl in
      let ends : w ≡ going after = sym stays ∙ ap (iterate step n) (sym is) ∙ goes in
      absurd (not_going w e after refl ends)
  by_ending None next is = from_next next is

  onward : Onward z n s b c after h
  onward = let w = step (going (with_code b s)) in by_ending w.ending w.state refl

below : (z : Part) (n : ℕ) (s : State) (b c : Code) (after : State) → SameBut z b c →
    iterate step n (going (with_code b s)) ≡ going after → flushes_of after ≡ flushes_of s → (i : ℕ) → i < n →
    Stands z (iterate step i (going (with_code c s)))
below z zero s b c after h goes same i l = absurd (omega (arith, l))
below z (suc n) s b c after h goes same zero l =
    (onward z n s b c after h goes same).steps.stands
below z (suc n) s b c after h goes same (suc j) l =
    let o = onward z n s b c after h goes same in
    let code = o.steps.follows.code in
    subst (λ w. Stands z (iterate step j w)) (sym o.steps.follows.does)
    (below z n o.next o.next.code code after o.steps.follows.same o.on o.equal j (omega (arith, l)))

-- the run on the code itself
record Carried (z : Part) (n : ℕ) (s : State) (c : Code) (after : State) : Type 0 where
  code : Code
  does : iterate step n (going (with_code c s)) ≡ going (with_code code after)
  same : SameBut z after.code code

carried : (z : Part) (n : ℕ) (s : State) (b c : Code) (after : State) → SameBut z b c →
    iterate step n (going (with_code b s)) ≡ going after → flushes_of after ≡ flushes_of s → Carried z n s c after
carried z zero s b c after h goes same =
    let is : with_code b s ≡ after = ap (λ (w : World). w.state) goes in
    record {
      code = c;
      does = ap (λ (y : State). going (with_code c y)) is;
      same = subst (λ (y : State). SameBut z y.code c) is h;
    }
carried z (suc n) s b c after h goes same =
    let o = onward z n s b c after h goes same in
    let rest = carried z n o.next o.next.code o.steps.follows.code after o.steps.follows.same o.on o.equal in
    record {
      code = rest.code;
      does = ap (iterate step n) o.steps.follows.does ∙ rest.does;
      same = rest.same;
    }

only_same : (can : ℕ → Bool) (c : Code) → SameBut (record { can = can; arena = c.arena }) (only can c) c
only_same can c = record {
  text = refl;
  arena = record {
    words = refl;
    only = λ k is. by (can k) (c.arena.states k) is;
    can = λ k is. sym (ap (λ (t : Bool). if t then c.arena.states k else Unwritten) is);
    kept = λ k f is. refl;
  };
}
  where
    by : (t : Bool) (x : WordState) → (if t then x else Unwritten) ≡ Flushed → t ≡ true
    by true x is = refl
    by false x is = absurd cc

pub runs_in : RunsStayIn
runs_in can count s after r same =
    below (record { can = can; arena = s.code.arena }) count s (only can s.code) s.code after (only_same can s.code)
    r.by same

-- where the restricted code is as it was, so is the code itself
same_arena : (a b : Arena) → a.words ≡ b.words → a.states ≡ b.states → a ≡ b
same_arena a b words states =
    ap (λ (f : ℕ → ℕ). let x : Arena = record { words = f; states = a.states } in x) words
    ∙ ap (λ (f : ℕ → WordState). let x : Arena = record { words = b.words; states = f } in x) states

pub runs_carried_in : RunsCarryIn
runs_carried_in can count s after r same =
    let z : Part = record { can = can; arena = s.code.arena } in
    let run = carried z count s (only can s.code) s.code (with_code (only can s.code) after) (only_same can s.code)
    r.by same in
    let arena : run.code.arena ≡ s.code.arena =
    same_arena run.code.arena s.code.arena (sym run.same.arena.words)
    (fun_ext (λ k. elim (cases_Bool (can k)) [
      | inl t ↦ (run.same.arena.can k t
          ∙ ap (λ (x : Bool). if x then s.code.arena.states k else Unwritten) t)
      | inr f ↦ (run.same.arena.kept k f
          (ap (λ (x : Bool). if x then s.code.arena.states k else Unwritten) f))
    ])) in
    let code : run.code ≡ s.code =
    ap (λ (t : ℕ → Option ℕ). let x : Code = record { text = t; arena = run.code.arena } in x) (sym run.same.text)
    ∙ ap (λ (x : Arena). let y : Code = record { text = s.code.text; arena = x } in y) arena in
    record { by = run.does ∙ ap (λ (x : Code). going (with_code x after)) code }

-- bare code is that of no words
abbrev none : ℕ → Bool
none k = false

pub runs_below : RunsStayBelow
runs_below count s after r same i l =
    elim (runs_in none count s after r same i l) [
      | inl low ↦ low
      | inr t ↦ absurd (false≢true t)
    ]

pub runs_carried : RunsCarryOver
runs_carried count s after r same = runs_carried_in none count s after r same

-- ---- runs that end

-- a fault of the machine is no ending that carries over: a word that can't be executed there may be one here
abbrev pub IsNoFault : End → Type 0
IsNoFault (Fault kind at) = ⊥
IsNoFault e = Unit {0}

-- the run ended so on the first code, and does on the second
record EndsToo (z : Part) (w : World) (e : End) (last : State) : Type 0 where
  code : Code
  does : w ≡ ended e (with_code code last)
  same : SameBut z last.code code

ends_so : (z : Part) (e f : End) (x last : State) (b c : Code) → SameBut z b c → ended f (with_code b x) ≡ ended e last
    → EndsToo z (ended f (with_code c x)) e last
ends_so z e f x last b c h goes =
    let is : with_code b x ≡ last = ap (λ (w : World). w.state) goes in
    let how : f ≡ e = ap (λ (w : World). ending_or f w.ending) goes in
    record {
      code = c;
      does = ap (λ (g : End). ended g (with_code c x)) how ∙ ap (λ (y : State). ended e (with_code c y)) is;
      same = subst (λ (y : State). SameBut z y.code c) is h;
    }
  where
    ending_or : End → Option End → End
    ending_or f None = f
    ending_or f (Some g) = g

still_going : (x last : State) (e : End) → going x ≡ ended e last → ⊥
still_going x last e goes = let none = ap (λ (w : World). w.ending) goes in cc

no_fault : (z : Part) (w : World) (k : MachineKind) (x last : State) (e : End) → IsNoFault e →
    faulted k x ≡ ended e last
    → EndsToo z w e last
no_fault z w k x last e fair goes =
    absurd (subst IsNoFault (sym (ap (λ (v : World). ending_or (Fault k x.pc) v.ending) goes)) fair)
  where
    ending_or : End → Option End → End
    ending_or f None = f
    ending_or f (Some g) = g

module _ (z : Part) (s : State) (b c : Code) (h : SameBut z b c) (e : End) (last : State) (fair : IsNoFault e) where
  reads_end : (x : Option ℕ) (r at : ℕ) (width : Width) (recent : ℕ)
      → reads x r at width recent (with_code b s) ≡ ended e last
      → EndsToo z (reads x r at width recent (with_code c s)) e last
  reads_end None r at width recent goes = ends_so z e _ s last b c h goes
  reads_end (Some w) r at width recent goes = by (is_aligned at width) goes
    where
      by : (t : Bool) → (if t then
          steps.onward (s.next + 4) r recent false b (set_register r (loaded_part w at width) s.d)
          (with_code b s) else ended (Ended (Trap trap.Misaligned)) (with_code b s)) ≡ ended e last
          → EndsToo z (if t then steps.onward (s.next + 4) r recent false c
          (set_register r (loaded_part w at width) s.d)
          (with_code c s) else ended (Ended (Trap trap.Misaligned)) (with_code c s)) e last
      by true goes = absurd (still_going _ last e goes)
      by false goes = ends_so z e _ s last b c h goes

  stores_end : (x : Option ℕ) (at : ℕ) (width : Width) → stores_text x at width (with_code b s) ≡ ended e last
      → EndsToo z (stores_text x at width (with_code c s)) e last
  stores_end None at width goes = ends_so z e _ s last b c h goes
  stores_end (Some w) at width goes = ends_so z e _ s last b c h goes

  apply_ends : (f : Effect) (recent : ℕ) → apply f recent (with_code b s) ≡ ended e last
      → EndsToo z (apply f recent (with_code c s)) e last
  apply_ends (Plain d) recent goes = absurd (still_going _ last e goes)
  apply_ends (Loads r d) recent goes = absurd (still_going _ last e goes)
  apply_ends (Changes f d) recent goes = absurd (still_going _ last e goes)
  apply_ends (ReadsText r at width) recent goes =
      let text = ap (λ (g : ℕ → Option ℕ). g (at / 4)) h.text in
      subst (λ x. EndsToo z (reads x r at width recent (with_code c s)) e last) text
      (reads_end (b.text (at / 4)) r at width recent goes)
  apply_ends (ReadsArena r at width) recent goes =
      let word = ap (λ (g : ℕ → ℕ). g (arena_word at)) h.arena.words in
      subst (λ x. EndsToo z (reads (Some x) r at width recent (with_code c s)) e last) word
      (reads_end (Some (b.arena.words (arena_word at))) r at width recent goes)
  apply_ends (StoresText at width) recent goes =
      let text = ap (λ (g : ℕ → Option ℕ). g (at / 4)) h.text in
      subst (λ x. EndsToo z (stores_text x at width (with_code c s)) e last) text
      (stores_end (b.text (at / 4)) at width goes)
  apply_ends (Branches taken offset) recent goes = absurd (still_going _ last e goes)
  apply_ends (BranchesLinking taken offset) recent goes = absurd (still_going _ last e goes)
  apply_ends (Jumps target) recent goes = absurd (still_going _ last e goes)
  apply_ends (JumpsLinking r target) recent goes = absurd (still_going _ last e goes)
  apply_ends (Goes word) recent goes = absurd (still_going _ last e goes)
  apply_ends (GoesLinking word) recent goes = absurd (still_going _ last e goes)
  apply_ends (Ends g) recent goes = ends_so z e _ s last b c h goes
  apply_ends (Faults k) recent goes = no_fault z _ k (with_code b s) last e fair goes
  apply_ends InputFails recent goes = ends_so z e _ s last b c h goes

  checked_ends : (i : Instr) → checked i (with_code b s) ≡ ended e last → EndsToo z (checked i (with_code c s)) e last
  checked_ends i goes = by (is_hazard i s) goes
    where
      by : (t : Bool) → (if t then faulted kind.Hazard (with_code b s) else act i (with_code b s)) ≡ ended e last
          → EndsToo z (if t then faulted kind.Hazard (with_code c s) else act i (with_code c s)) e last
      by true goes = no_fault z _ kind.Hazard (with_code b s) last e fair goes
      by false goes = apply_ends (effect i s.d) (recent_behind i s.recent) goes

  execute_ends : (f : Fetched) → execute f (with_code b s) ≡ ended e last → EndsToo z (execute f (with_code c s)) e last
  execute_ends (Refused k) goes = no_fault z _ k (with_code b s) last e fair goes
  execute_ends (Is i) goes = checked_ends i goes

  refuses : (k : MachineKind) → execute (Refused k) (with_code b s) ≡ ended e last → ⊥
  refuses k goes = subst IsNoFault (sym (ap (λ (v : World). ending_or (Fault k s.pc) v.ending) goes)) fair
    where
      ending_or : End → Option End → End
      ending_or f None = f
      ending_or f (Some g) = g

  -- a word of the arena that is fetched can be executed
  flushed_then : (state : WordState) (w : ℕ)
      → execute (found (from_arena (fetched state w))) (with_code b s) ≡ ended e last → state ≡ Flushed
  flushed_then Flushed w goes = refl
  flushed_then Written w goes = absurd (refuses kind.Stale goes)
  flushed_then Unwritten w goes = absurd (refuses kind.Stale goes)

  record LastStep : Type 0 where
    stands : IsOf z.can s.pc
    too : EndsToo z (step (going (with_code c s))) e last

  step_ends : step (going (with_code b s)) ≡ ended e last → LastStep
  step_ends goes = by (nat_lt s.pc ARENA) refl goes
    where
      arena_goes : (t : Bool) → nat_lt s.pc ARENA ≡ false → is_arena_word s.pc ≡ t →
          execute (found (if t then from_arena (fetched (b.arena.states (arena_word s.pc)) (b.arena.words (arena_word
          s.pc))) else Err kind.Fetch)) (with_code b s) ≡ ended e last → LastStep
      arena_goes true far here goes =
          let k = arena_word s.pc in
          let state : b.arena.states k ≡ Flushed = flushed_then (b.arena.states k) (b.arena.words k) goes in
          let may : z.can k ≡ true = h.arena.only k state in
          let states : b.arena.states k ≡ c.arena.states k = sym (h.arena.can k may) in
          let words : b.arena.words k ≡ c.arena.words k = ap (λ (f : ℕ → ℕ). f k) h.arena.words in
          let same_fetch : fetch c s.pc ≡ found (from_arena (fetched (c.arena.states k) (c.arena.words k))) =
          ap (λ (x : Bool). found (if x then from_text (text_word c s.pc) else
          (if is_arena_word s.pc then from_arena (fetched (c.arena.states k) (c.arena.words k)) else Err kind.Fetch)))
          far
          ∙ ap (λ (x : Bool). found (if x then from_arena (fetched (c.arena.states k) (c.arena.words k)) else Err
          kind.Fetch)) here in
          record {
            stands = inr may;
            too = subst (λ f. EndsToo z (execute f (with_code c s)) e last) (sym same_fetch)
                (subst (λ (o : WordState). EndsToo z (execute (found (from_arena (fetched o (c.arena.words k))))
                (with_code c s)) e last) states
                (subst (λ (n : ℕ). EndsToo z (execute (found (from_arena (fetched (b.arena.states k) n)))
                (with_code c s)) e last) words
                (execute_ends (found (from_arena (fetched (b.arena.states k) (b.arena.words k)))) goes)));
          }
      arena_goes false far here goes = absurd (refuses kind.Fetch goes)

      by : (t : Bool) → nat_lt s.pc ARENA ≡ t →
          execute (found (if t then from_text (text_word b s.pc) else
          (if is_arena_word s.pc then from_arena (fetched (b.arena.states (arena_word s.pc)) (b.arena.words (arena_word
          s.pc))) else Err kind.Fetch))) (with_code b s) ≡ ended e last → LastStep
      by true t goes =
          let same_word : text_word b s.pc ≡ text_word c s.pc =
          ap (λ (g : ℕ → Option ℕ). if (s.pc % 4 == 0) then g (s.pc / 4) else None) h.text in
          let same_fetch : fetch c s.pc ≡ found (from_text (text_word c s.pc)) =
          ap (λ (x : Bool). found (if x then from_text (text_word c s.pc) else
          (if is_arena_word s.pc then from_arena (fetched (c.arena.states (arena_word s.pc)) (c.arena.words (arena_word
          s.pc))) else Err kind.Fetch))) t in
          record {
            stands = inl (grind (arith, nat_tests, t));
            too = subst (λ f. EndsToo z (execute f (with_code c s)) e last) (sym same_fetch)
                (subst (λ o. EndsToo z (execute (found (from_text o)) (with_code c s)) e last) same_word
                (execute_ends (found (from_text (text_word b s.pc))) goes));
          }
      by false t goes = arena_goes (is_arena_word s.pc) t refl goes

-- before each instruction the run has ended or stands at one of these
abbrev StandsOr : Part → World → Type 0
StandsOr z w = (is_some w.ending ≡ true) ⊎ IsOf z.can w.state.pc

record RunEnds (z : Part) (n : ℕ) (s : State) (c : Code) (e : End) (last : State) : Type 0 where
  too : EndsToo z (iterate step n (going (with_code c s))) e last
  stays : (i : ℕ) → i < n → StandsOr z (iterate step i (going (with_code c s)))

ended_stays : (z : Part) (n i : ℕ) (w : World) (e : End) → w.ending ≡ Some e → StandsOr z (iterate step i w)
ended_stays z n i w e is = inl (ap (λ (v : World). is_some v.ending) (stays_ended i w e is)
    ∙ ap (λ (o : Option End). is_some o) is)

module _ (z : Part) (e : End) (last : State) (fair : IsNoFault e) where
  abbrev Again : ℕ → Type 0
  Again n = (t : State) (k : Code) → SameBut z t.code k → iterate step n (going t) ≡ ended e last
      → flushes_of last ≡ flushes_of t → RunEnds z n t k e last

  run_ends : (n : ℕ) (s : State) (b c : Code) → SameBut z b c → iterate step n (going (with_code b s)) ≡ ended e last
      → flushes_of last ≡ flushes_of s → RunEnds z n s c e last
  run_ends zero s b c h goes same = absurd (still_going (with_code b s) last e goes)
  run_ends (suc n) s b c h goes same =
      let w = step (going (with_code b s)) in
      by w.ending w.state refl (λ t k sb on fl. run_ends n t t.code k sb on fl)
    where
      from_next : (next : State) → step (going (with_code b s)) ≡ going next → Again n → RunEnds z (suc n) s c e last
      from_next next is again =
          let on : iterate step n (going next) ≡ ended e last = ap (iterate step n) (sym is) ∙ goes in
          let up = step_counts (going (with_code b s)) in
          let more = runs_count n (going next) in
          let here : flushes_in (step (going (with_code b s))) ≡ flushes_of next = ap flushes_in is in
          let there : flushes_in (iterate step n (going next)) ≡ flushes_of last = ap flushes_in on in
          let first = step_follows z s b c h next is (omega (arith, up, more, here, there, same)) in
          let code = first.follows.code in
          let rest = again next code first.follows.same on
          (omega (arith, up, more, here, there, same)) in
          let too = rest.too in
          record {
            too = record {
              code = too.code;
              does = ap (iterate step n) first.follows.does ∙ too.does;
              same = too.same;
            };
            stays = λ i l. stays_on i l first.stands first.follows.does rest.stays;
          }
        where
          stays_on : {x : World} (i : ℕ) → i < suc n → IsOf z.can s.pc → step (going (with_code c s)) ≡ x
              → ((j : ℕ) → j < n → StandsOr z (iterate step j x))
              → StandsOr z (iterate step i (going (with_code c s)))
          stays_on zero l here does rest = inr here
          stays_on (suc j) l here does rest =
              subst (λ (v : World). StandsOr z (iterate step j v)) (sym does) (rest j (omega (arith, l)))

      at_once : (f : End) (next : State)
          → step (going (with_code b s)) ≡ (let w : World = record { state = next; ending = Some f } in w)
          → RunEnds z (suc n) s c e last
      at_once f next is =
          let w : World = record { state = next; ending = Some f } in
          let stays : iterate step n w ≡ w = stays_ended n w f refl in
          let ends : step (going (with_code b s)) ≡ ended e last =
          is ∙ sym stays ∙ ap (iterate step n) (sym is) ∙ goes in
          let l = step_ends z s b c h e last fair ends in
          let too = l.too in
          record {
            too = record {
              code = too.code;
              does = ap (iterate step n) too.does ∙ stays_ended n (ended e (with_code too.code last)) e refl;
              same = too.same;
            };
            stays = λ i l'. stays_on i l.stands too.does;
          }
        where
          stays_on : {y : State} (i : ℕ) → IsOf z.can s.pc → step (going (with_code c s)) ≡ ended e y
              → StandsOr z (iterate step i (going (with_code c s)))
          stays_on zero here does = inr here
          stays_on {y} (suc j) here does =
              subst (λ (v : World). StandsOr z (iterate step j v)) (sym does) (ended_stays z n j (ended e y) e refl)

      by : (o : Option End) (next : State)
          → step (going (with_code b s)) ≡ (let w : World = record { state = next; ending = o } in w)
          → Again n → RunEnds z (suc n) s c e last
      by None next is again = from_next next is again
      by (Some f) next is again = at_once f next is

-- what is restricted as it was is as it was
code_is : (can : ℕ → Bool) (c code : Code) → SameBut (record { can = can; arena = c.arena }) (only can c) code
    → code ≡ c
code_is can c code same =
    let arena : code.arena ≡ c.arena =
    same_arena code.arena c.arena (sym same.arena.words)
    (fun_ext (λ k. elim (cases_Bool (can k)) [
      | inl t ↦ (same.arena.can k t ∙ ap (λ (x : Bool). if x then c.arena.states k else Unwritten) t)
      | inr f ↦ (same.arena.kept k f (ap (λ (x : Bool). if x then c.arena.states k else Unwritten) f))
    ])) in
    ap (λ (t : ℕ → Option ℕ). let x : Code = record { text = t; arena = code.arena } in x) (sym same.text)
    ∙ ap (λ (x : Arena). let y : Code = record { text = c.text; arena = x } in y) arena

-- A run that ends on these words alone, by no fault, and leaves the code as it was, ends so on the code itself; and
-- before each instruction it stands at one of these, or has ended.
pub ends_in_words : (can : ℕ → Bool) (count : ℕ) (s last : State) (e : End) → IsNoFault e
    → iterate step count (going (with_code (only can s.code) s)) ≡ ended e (with_code (only can s.code) last)
    → flushes_of last ≡ flushes_of s
    → (iterate step count (going s) ≡ ended e (with_code s.code last))
    × ((i : ℕ) → i < count → (is_some (iterate step i (going s)).ending ≡ true)
    ⊎ IsOf can (iterate step i (going s)).state.pc)
ends_in_words can count s last e fair goes same =
    let z : Part = record { can = can; arena = s.code.arena } in
    let run = run_ends z e (with_code (only can s.code) last) fair count s (only can s.code) s.code
    (only_same can s.code) goes same in
    let too = run.too in
    (too.does ∙ ap (λ (x : Code). ended e (with_code x last)) (code_is can s.code too.code too.same), run.stays)
