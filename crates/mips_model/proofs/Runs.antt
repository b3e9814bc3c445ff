-- A run by instructions is one run after another, stays as it is once it has ended, and only adds to its history.
use Rattle.std.proofs.Common.{◌≡◌, inl, inr, ℕ, zero, suc, ◌+◌, ◌-◌, ◌%◌, Bool, true, false, List, [], ◌∷◌, Option}
use Rattle.std.proofs.Common.{None, Some, Result, Ok, Err, refl, sym, ap, ◌∙◌, subst, arith, append-nil, if◌then◌else◌}
use Rattle.std.proofs.Common.{is_some}
use Rattle.std.proofs.lemmas.Bool.{false≢true, cases_Bool}
use Rattle.std.proofs.lemmas.Bool.Decides.{nat_tests}
use Rattle.pace.specs.Pace.{IsPrefix}
use Rattle.pace.specs.Claims.{Grows}
use Rattle.pace.proofs.Runs.{steps_grow}
use Rattle.host_edge.specs.declared.ending.MachineKind.{MachineKind}
use Rattle.host_edge.specs.declared.ending.MachineKind.TheVariants as kind
use Rattle.history.specs.Events.{Item, In, End, Input, Next, Given, AtEnd, Failing, next_byte, number_bytes, outs}
use Rattle.image_file.specs.Image.{ImageParts}
use Rattle.mips_encoder.specs.declared.instruction.Instr.TheVariants.{Syscall}
use Rattle.mips_model.specs.declared.service.Service.{Service}
use Rattle.mips_model.specs.declared.service.Service.TheVariants.{PutInt, Exit, PutByte, GetByte, Begin, Emit, Finish}
use Rattle.mips_model.specs.declared.service.Service.TheVariants.{Flush, Publish}
use Rattle.icode_ir.specs.Decoded.{op_of}
use Rattle.mips_model.specs.Choices.{Choice}
use Rattle.mips_model.specs.CodeServices as services
use Rattle.mips_model.specs.CodeServices.{Outcome, Refused, Does}
use Rattle.mips_model.specs.State.{Making, Outside, State, World, register}
use Rattle.mips_model.specs.Services.{service_of, serve, get, got, read, makes, writes, generator_of}
use Rattle.mips_model.specs.Services.{next_choice, begun_with, issued_with, spent, published_once, flushed_once}
use Rattle.mips_model.specs.Steps.{found, word_at, fetch, faulted, apply, act, is_hazard, checked, execute, step, run}
use Rattle.mips_model.specs.Beside.{is_service, is_at_service}
use Rattle.mips_model.specs.Run.{see, begins, runs}
use Rattle.mips_model.proofs.Aside.{step_aside}

pub run-+ : (m n : ℕ) (w : World) → run (m + n) w ≡ run n (run m w)
unfolding run
run-+ zero n w = let e : 0 + n ≡ n = omega arith in ap (λ k. run k w) e
run-+ (suc m) n w = let e : suc m + n ≡ suc (m + n) = omega arith in ap (λ k. run k w) e ∙ run-+ m n (step w)

-- no instructions, and one
pub run_0 : (w : World) → run 0 w ≡ w
unfolding run
run_0 w = refl

pub run_1 : (w : World) → run 1 w ≡ step w
unfolding run
run_1 w = refl

-- nothing follows an ending
pub step_stays : (w : World) (e : End) → w.ending ≡ Some e → step w ≡ w
step_stays w e is = ap (λ (o : Option End). if is_some o then w else execute (fetch w.state.code w.state.pc) w.state) is

pub run_stays : (k : ℕ) (w : World) (e : End) → w.ending ≡ Some e → run k w ≡ w
unfolding run
run_stays zero w e is = refl
run_stays (suc k) w e is = ap (run k) (step_stays w e is) ∙ run_stays k w e is

pub ends_once : (m n : ℕ) (w : World) (e : End) → (run m w).ending ≡ Some e → run (m + n) w ≡ run m w
ends_once m n w e is = run-+ m n w ∙ run_stays n (run m w) e is

-- the events of a world
abbrev pub events : World → List Item
events w = w.state.d.outside.history

abbrev same : (l : List Item) → IsPrefix l l
same l = ([], append-nil l)

read_grows : (next : Next) (recent : ℕ) (s : State) →
    IsPrefix s.d.outside.history (events (apply (read next s.d) recent s))
read_grows (Given b rest) recent s = (In b ∷ [], refl)
read_grows AtEnd recent s = (In 4294967295 ∷ [], refl)
read_grows Failing recent s = same s.d.outside.history

get_grows : (recent : ℕ) (s : State) → IsPrefix s.d.outside.history (events (apply (get s.d) recent s))
get_grows recent s = by s.d.outside.at_end
  where
    by : (b : Bool) → IsPrefix s.d.outside.history
        (events (apply (if b then got 4294967295 true s.d.outside.input s.d else read (next_byte s.d.outside.input) s.d)
        recent s))
    by true = (In 4294967295 ∷ [], refl)
    by false = read_grows (next_byte s.d.outside.input) recent s

makes_grow : (o : Outcome) (note : Making → Making) (recent : ℕ) (s : State) →
    IsPrefix s.d.outside.history (events (apply (makes o note s.d) recent s))
makes_grow (Refused why) note recent s = same s.d.outside.history
makes_grow (Does v g change set) note recent s = same s.d.outside.history

writes_grow : (o : Outcome) (note : ℕ → Outside → Outside) (recent : ℕ) (s : State) →
    ((v : ℕ) (x : Outside) → (note v x).history ≡ x.history) →
    IsPrefix s.d.outside.history (events (apply (writes o note s.d) recent s))
writes_grow (Refused why) note recent s keeps = same s.d.outside.history
writes_grow (Does v g change set) note recent s keeps = (
  [],
  append-nil s.d.outside.history
      ∙ sym (keeps v (record s.d.outside { making = record s.d.outside.making { generator = g } })),
)

serve_grows : (o : Option Service) (recent : ℕ) (s : State) →
    IsPrefix s.d.outside.history (events (apply (serve o s.d) recent s))
serve_grows None recent s = same s.d.outside.history
serve_grows (Some PutInt) recent s = (outs (number_bytes (register 4 s.d)), refl)
serve_grows (Some Exit) recent s = same s.d.outside.history
serve_grows (Some PutByte) recent s = (outs (register 4 s.d % 256 ∷ []), refl)
serve_grows (Some GetByte) recent s = get_grows recent s
serve_grows (Some Begin) recent s =
    makes_grow (services.begin (register 4 s.d) (generator_of s.d)) (begun_with (register 4 s.d)) recent s
serve_grows (Some Emit) recent s =
    makes_grow (services.emit (register 4 s.d) (register 5 s.d) (register 6 s.d) (generator_of s.d))
    (issued_with (op_of (register 4 s.d) (register 5 s.d) (register 6 s.d))) recent s
serve_grows (Some Finish) recent s =
    writes_grow (services.finish (next_choice s.d.outside.making.row) (register 4 s.d) (register 5 s.d)
    (register 6 s.d) (generator_of s.d)) (spent (register 4 s.d)) recent s (λ v x. refl)
serve_grows (Some Flush) recent s =
    writes_grow (services.flush (register 4 s.d) (register 5 s.d) (generator_of s.d)) flushed_once recent s
    (λ v x. refl)
serve_grows (Some Publish) recent s =
    makes_grow (services.publish (register 4 s.d) (register 5 s.d) (register 6 s.d) (generator_of s.d))
    published_once recent s

syscall_grows : (s : State) → IsPrefix s.d.outside.history (events (checked Syscall s))
syscall_grows s = by (is_hazard Syscall s)
  where
    by : (b : Bool) → IsPrefix s.d.outside.history (events (if b then faulted kind.Hazard s else act Syscall s))
    by true = same s.d.outside.history
    by false = serve_grows (service_of (register 2 s.d)) (s.recent - 1) s

found_grows : (x : Result ℕ MachineKind) (s : State) → is_service x ≡ true →
    IsPrefix s.d.outside.history (events (execute (found x) s))
found_grows (Err k) s is = absurd (false≢true is)
found_grows (Ok w) s is =
    let e : 12 ≡ w = grind (arith, nat_tests, is) in
    subst (λ k. IsPrefix s.d.outside.history (events (execute (found (Ok k)) s))) e (syscall_grows s)

service_grows : (w : World) → is_at_service w.state ≡ true → IsPrefix (events w) (events (step w))
service_grows w is = by (is_some w.ending)
  where
    by : (b : Bool) → IsPrefix (events w) (events (if b then w else execute (fetch w.state.code w.state.pc) w.state))
    by true = same (events w)
    by false = found_grows (word_at w.state.code w.state.pc) w.state is

pub step_grows : (w : World) → IsPrefix (events w) (events (step w))
step_grows w = elim (cases_Bool (is_at_service w.state)) [
  | inl t ↦ service_grows w t
  | inr f ↦ ([], append-nil (events w) ∙ sym (ap events (step_aside w w.state.d.outside f)))
]

pub grows : (image : ImageParts) (input : Input) (choices : List Choice) → Grows (runs image input choices)
unfolding run
grows image input choices = steps_grow step see step_grows (λ w e is. step_stays w e is) (begins image input choices)
