-- Linear scan has one choice of places for a function, so all rows of choices that are linear scan's give one run.
use Rattle.std.proofs.Common.{◌≡◌, inl, inr, ℕ, zero, suc, ◌+◌, ◌-◌, ◌<◌, Bool, true, false, Option, None}
use Rattle.std.proofs.Common.{Some, Result, Ok, Err, List, refl, sym, ap, ◌∙◌, subst, arith, nat_eq, is_some}
use Rattle.std.proofs.Common.{if◌then◌else◌}
use Rattle.std.specs.Fn.{iterate}
use Rattle.std.proofs.lemmas.Bool.{false≢true, cases_Bool}
use Rattle.std.proofs.lemmas.Bool.Decides.{nat_tests}
use Rattle.host_edge.specs.declared.ending.MachineKind.{MachineKind}
use Rattle.host_edge.specs.declared.ending.MachineKind.TheVariants as kind
use Rattle.history.specs.Events.{Input, Next, Given, AtEnd, Failing, next_byte}
use Rattle.image_file.specs.Image.{ImageParts}
use Rattle.icode_ops.specs.declared.op.Op.{Op}
use Rattle.icode_ir.specs.Build.{Build, finished}
use Rattle.mips_model.specs.declared.bad_service.BadService.{BadService}
use Rattle.mips_model.specs.Choices.{Choice, IsScanned, spilled}
use Rattle.mips_model.specs.CodeServices as services
use Rattle.mips_model.specs.CodeServices.{Generator, Outcome, Does}
use Rattle.icode_service.specs.Served.{ChosenFor}
use Rattle.linear_scan_spec.specs.Scan.{places_of}
use Rattle.mips_encoder.specs.declared.instruction.Instr.TheVariants.{Syscall}
use Rattle.mips_model.specs.declared.service.Service.{Service}
use Rattle.mips_model.specs.declared.service.Service.TheVariants.{PutInt, Exit, PutByte, GetByte, Begin, Emit, Finish}
use Rattle.mips_model.specs.declared.service.Service.TheVariants.{Flush, Publish}
use Rattle.mips_model.specs.State.{Outside, State, World, register}
use Rattle.mips_model.specs.Services.{service_of, serve, get, got, read, makes, writes, generator_of, next_choice}
use Rattle.mips_model.specs.Services.{later_choices, begun_with, issued_with, spent, flushed_once, published_once}
use Rattle.mips_model.specs.Steps.{found, word_at, fetch, faulted, apply, act, is_hazard, checked, execute, step, run}
use Rattle.mips_model.specs.Beside.{beside_state, beside, is_service, is_at_service}
use Rattle.mips_model.specs.Run.{begins, runs, see, is_serving, steps_within}
use Rattle.mips_model.proofs.Aside.{step_aside}
use Rattle.icode_ir.specs.Decoded.{op_of}
use Rattle.mips_machine.specs.Progress.{counts_of}
use Rattle.mips_machine.specs.Ran.{IsScannedAt}
use Rattle.image_commands.proofs.Intervals.{one_list}
use Rattle.image_commands.specs.Seen.{Account, IsScannedRun, account_at}

-- ---- one choice

one_choice : (ops : List Op) (n : ℕ) (c d : Choice) → IsScanned ops n c → IsScanned ops n d → c ≡ d
one_choice ops n c d p q =
    let same = one_list ops p.intervals q.intervals p.found q.found in
    let places : c.places ≡ d.places = p.same ∙ ap (places_of n) same ∙ sym q.same in
    let spills : c.spills ≡ d.spills =
    p.counted ∙ ap (spilled c.places) same ∙ ap (λ ps. spilled ps q.intervals) places ∙ sym q.counted in
    ap (λ ps. record { places = ps; spills = c.spills }) places
    ∙ ap (λ k. record { places = d.places; spills = k }) spills

finish_alike : (build : Option Build) (c d : Choice) (at most frame : ℕ) (g : Generator) →
    ChosenFor build at most frame c → ChosenFor build at most frame d →
    services.finish_in build c at most frame g ≡ services.finish_in build d at most frame g
finish_alike None c d at most frame g p q = refl
finish_alike (Some b) c d at most frame g p q = by (services.finish_refusal b at most frame) refl
  where
    outcome : Option BadService → Choice → Outcome
    outcome why x = services.unless why (services.write (services.words_of b x at frame) x at most g)

    by : (why : Option BadService) → services.finish_refusal b at most frame ≡ why →
        outcome (services.finish_refusal b at most frame) c ≡ outcome (services.finish_refusal b at most frame) d
    by None is =
        ap (outcome (services.finish_refusal b at most frame))
        (one_choice (finished b) b.registers c d (p is).0 (q is).0)
    by (Some why) is = ap (λ x. outcome x c) is ∙ sym (ap (λ x. outcome x d) is)

-- ---- a world with another row

abbrev with_choices : List Choice → Outside → Outside
with_choices r o = record o { making = record o.making { row = r } }

abbrev rowed_state : List Choice → State → State
rowed_state r s = beside_state (with_choices r s.d.outside) s

abbrev rowed : List Choice → World → World
rowed r w = beside (with_choices r w.state.d.outside) w

-- the same world but for its row
abbrev IsRowed : World → World → Type 0
IsRowed v w = (r : List Choice) × (v ≡ rowed r w)

read_rowed : (next : Next) (recent : ℕ) (s : State) (r : List Choice) →
    IsRowed (apply (read next (rowed_state r s).d) recent (rowed_state r s)) (apply (read next s.d) recent s)
read_rowed (Given b rest) recent s r = (r, refl)
read_rowed AtEnd recent s r = (r, refl)
read_rowed Failing recent s r = (r, refl)

get_rowed : (recent : ℕ) (s : State) (r : List Choice) →
    IsRowed (apply (get (rowed_state r s).d) recent (rowed_state r s)) (apply (get s.d) recent s)
get_rowed recent s r = by s.d.outside.at_end
  where
    by : (b : Bool) → IsRowed
        (apply (if b then got 4294967295 true s.d.outside.input (rowed_state r s).d
        else read (next_byte s.d.outside.input) (rowed_state r s).d) recent (rowed_state r s))
        (apply (if b then got 4294967295 true s.d.outside.input s.d else read (next_byte s.d.outside.input) s.d)
        recent s)
    by true = (r, refl)
    by false = read_rowed (next_byte s.d.outside.input) recent s r

begin_rowed : (o : Outcome) (parameters recent : ℕ) (s : State) (r : List Choice) →
    IsRowed (apply (makes o (begun_with parameters) (rowed_state r s).d) recent (rowed_state r s))
    (apply (makes o (begun_with parameters) s.d) recent s)
begin_rowed (services.Refused why) parameters recent s r = (r, refl)
begin_rowed (Does v g change set) parameters recent s r = (r, refl)

emit_rowed : (o : Outcome) (code first second recent : ℕ) (s : State) (r : List Choice) →
    IsRowed (apply (makes o (issued_with (op_of code first second)) (rowed_state r s).d) recent (rowed_state r s))
    (apply (makes o (issued_with (op_of code first second)) s.d) recent s)
emit_rowed (services.Refused why) code first second recent s r = (r, refl)
emit_rowed (Does v g change set) code first second recent s r = (r, refl)

publish_rowed : (o : Outcome) (recent : ℕ) (s : State) (r : List Choice) →
    IsRowed (apply (makes o published_once (rowed_state r s).d) recent (rowed_state r s))
    (apply (makes o published_once s.d) recent s)
publish_rowed (services.Refused why) recent s r = (r, refl)
publish_rowed (Does v g change set) recent s r = (r, refl)

flush_rowed : (o : Outcome) (recent : ℕ) (s : State) (r : List Choice) →
    IsRowed (apply (writes o flushed_once (rowed_state r s).d) recent (rowed_state r s))
    (apply (writes o flushed_once s.d) recent s)
flush_rowed (services.Refused why) recent s r = (r, refl)
flush_rowed (Does v g change set) recent s r = (r, refl)

finish_rowed : (o : Outcome) (at recent : ℕ) (s : State) (r : List Choice) →
    IsRowed (apply (writes o (spent at) (rowed_state r s).d) recent (rowed_state r s))
    (apply (writes o (spent at) s.d) recent s)
finish_rowed (services.Refused why) at recent s r = (r, refl)
finish_rowed (Does v g change set) at recent s r = (later_choices r, refl)

-- both rows finish a function alike
abbrev finishing : State → List Choice → Outcome
finishing s r =
    services.finish (next_choice r) (register 4 s.d) (register 5 s.d) (register 6 s.d) (generator_of s.d)

abbrev FinishesAlike : State → List Choice → Type 0
FinishesAlike s r = finishing s r ≡ finishing s s.d.outside.making.row

serve_rowed : (o : Option Service) (recent : ℕ) (s : State) (r : List Choice) → (o ≡ Some Finish → FinishesAlike s r) →
    IsRowed (apply (serve o (rowed_state r s).d) recent (rowed_state r s)) (apply (serve o s.d) recent s)
serve_rowed None recent s r alike = (r, refl)
serve_rowed (Some PutInt) recent s r alike = (r, refl)
serve_rowed (Some Exit) recent s r alike = (r, refl)
serve_rowed (Some PutByte) recent s r alike = (r, refl)
serve_rowed (Some GetByte) recent s r alike = get_rowed recent s r
serve_rowed (Some Begin) recent s r alike =
    begin_rowed (services.begin (register 4 s.d) (generator_of s.d)) (register 4 s.d) recent s r
serve_rowed (Some Emit) recent s r alike =
    emit_rowed (services.emit (register 4 s.d) (register 5 s.d) (register 6 s.d) (generator_of s.d)) (register 4 s.d)
    (register 5 s.d) (register 6 s.d) recent s r
serve_rowed (Some Finish) recent s r alike =
    subst (λ (o : Outcome). IsRowed
    (apply (writes o (spent (register 4 s.d)) (rowed_state r s).d) recent (rowed_state r s))
    (apply (writes (finishing s s.d.outside.making.row) (spent (register 4 s.d)) s.d) recent s)) (sym (alike refl))
    (finish_rowed (finishing s s.d.outside.making.row) (register 4 s.d) recent s r)
serve_rowed (Some Flush) recent s r alike =
    flush_rowed (services.flush (register 4 s.d) (register 5 s.d) (generator_of s.d)) recent s r
serve_rowed (Some Publish) recent s r alike =
    publish_rowed (services.publish (register 4 s.d) (register 5 s.d) (register 6 s.d) (generator_of s.d)) recent s r

-- only number 66 finishes
is_finish : (n : ℕ) → service_of n ≡ Some Finish → nat_eq n 66 ≡ true
is_finish n =
    by (nat_eq n 1) (nat_eq n 10) (nat_eq n 11) (nat_eq n 12) (nat_eq n 64) (nat_eq n 65) (nat_eq n 66) (nat_eq n 67)
    (nat_eq n 68)
  where
    by : (a b c d e f g h i : Bool) →
        (if a then Some PutInt else (if b then Some Exit else (if c then Some PutByte else (if d then Some GetByte
        else (if e then Some Begin else (if f then Some Emit else (if g then Some Finish else (if h then Some Flush
        else (if i then Some Publish else None))))))))) ≡ Some Finish → g ≡ true
    by true b c d e f g h i q = cc
    by false true c d e f g h i q = cc
    by false false true d e f g h i q = cc
    by false false false true e f g h i q = cc
    by false false false false true f g h i q = cc
    by false false false false false true g h i q = cc
    by false false false false false false true h i q = refl
    by false false false false false false false true i q = cc
    by false false false false false false false false true q = cc
    by false false false false false false false false false q = cc

-- ---- a step

module _ (w : World) (r : List Choice) (this : IsScannedAt w) (that : IsScannedAt (rowed r w)) where
  abbrev s : State
  s = w.state

  alike : is_some w.ending ≡ false → is_at_service s ≡ true → is_hazard Syscall s ≡ false →
      service_of (register 2 s.d) ≡ Some Finish → FinishesAlike s r
  alike on at quiet is =
      let n = is_finish (register 2 s.d) is in
      let serving : is_serving 66 w ≡ true = rw (on, at, n, quiet) refl in
      finish_alike (generator_of s.d).build (next_choice r) (next_choice s.d.outside.making.row) (register 4 s.d)
      (register 5 s.d) (register 6 s.d) (generator_of s.d) (that serving) (this serving)

  syscall_rowed : is_some w.ending ≡ false → is_at_service s ≡ true →
      IsRowed (checked Syscall (rowed_state r s)) (checked Syscall s)
  syscall_rowed on at = by (is_hazard Syscall s) refl
    where
      by : (b : Bool) → is_hazard Syscall s ≡ b →
          IsRowed (if b then faulted kind.Hazard (rowed_state r s) else act Syscall (rowed_state r s))
          (if b then faulted kind.Hazard s else act Syscall s)
      by true is = (r, refl)
      by false quiet = serve_rowed (service_of (register 2 s.d)) (s.recent - 1) s r (alike on at quiet)

  found_rowed : is_some w.ending ≡ false → is_at_service s ≡ true → (x : Result ℕ MachineKind) → is_service x ≡ true →
      IsRowed (execute (found x) (rowed_state r s)) (execute (found x) s)
  found_rowed on at (Err k) is = absurd (false≢true is)
  found_rowed on at (Ok word) is =
      let e : 12 ≡ word = grind (arith, nat_tests, is) in
      subst (λ k. IsRowed (execute (found (Ok k)) (rowed_state r s)) (execute (found (Ok k)) s)) e (syscall_rowed on at)

  service_rowed : is_at_service s ≡ true → IsRowed (step (rowed r w)) (step w)
  service_rowed at = by (is_some w.ending) refl
    where
      by : (b : Bool) → is_some w.ending ≡ b →
          IsRowed (if b then rowed r w else execute (fetch s.code s.pc) (rowed_state r s))
          (if b then w else execute (fetch s.code s.pc) s)
      by true is = (r, refl)
      by false on = found_rowed on at (word_at s.code s.pc) at

  step_rowed : IsRowed (step (rowed r w)) (step w)
  step_rowed = elim (cases_Bool (is_at_service s)) [
    | inl at ↦ service_rowed at
    | inr other ↦ (let same = ap (λ (v : World). v.state.d.outside) (step_aside w w.state.d.outside other) in (
      r,
      step_aside w (with_choices r w.state.d.outside) other
          ∙ ap (λ (o : Outside). beside (with_choices r o) (step w)) (sym same),
    ))
  ]

-- ---- a run

pub record RunsAlike (n : ℕ) (v w : World) : Type 0 where
  pub last : IsRowed (iterate step n v) (iterate step n w)
  pub steps : steps_within n v ≡ steps_within n w

runs_rowed : (n : ℕ) (w : World) (r : List Choice) → ((i : ℕ) → i < n → IsScannedAt (iterate step i w))
    → ((i : ℕ) → i < n → IsScannedAt (iterate step i (rowed r w))) → RunsAlike n (rowed r w) w
runs_rowed zero w r this that = record { last = (r, refl); steps = refl }
runs_rowed (suc n) w r this that =
    let now = step_rowed w r (this 0 (omega arith)) (that 0 (omega arith)) in
    let later = runs_rowed n (step w) now.0 (λ i less. this (suc i) (omega (arith, less)))
    (λ i less. subst (λ (v : World). IsScannedAt (iterate step i v)) now.1 (that (suc i) (omega (arith, less)))) in
    let rest : RunsAlike n (step (rowed r w)) (step w) =
    subst (λ (v : World). RunsAlike n v (step w)) (sym now.1) later in
    record {
      last = rest.last;
      steps = ap (λ (k : ℕ). if is_some w.ending then 0 else (1 + k)) rest.steps;
    }

abbrev account_with : ℕ → World → Account
account_with steps w = record {
  steps = steps;
  counts = counts_of w.state.d.outside;
  choices = w.state.d.outside.making.generator.choices;
}

-- the run of an image under two rows
pub one_run : (image : ImageParts) (input : Input) (row other : List Choice) (n : ℕ) → IsScannedRun image input row n
    → IsScannedRun image input other n
    → (runs image input row n ≡ runs image input other n)
    × (account_at image input row n ≡ account_at image input other n)
unfolding run
one_run image input row other n this that =
    let r = runs_rowed n (begins image input other) row that this in
    let e = r.last.1 in (
      ap see e,
      ap (λ (k : ℕ). account_with k (iterate step n (begins image input row))) r.steps
          ∙ ap (account_with (steps_within n (begins image input other))) e,
    )
