-- Of a run's own history each item passed between the run and the outside: it is a byte that was put out, or an answer
-- to a read.
use Rattle.std.proofs.Common.{◌≡◌, inl, inr, ℕ, zero, suc, ◌-◌, ◌%◌, Bool, true, false, List, [], ◌∷◌, ◌++◌, Option}
use Rattle.std.proofs.Common.{None, Some, Result, Ok, Err, refl, sym, ap, subst, arith, if◌then◌else◌, is_some}
use Rattle.std.specs.Fn.{iterate}
use Rattle.std.proofs.lemmas.Bool.{false≢true, cases_Bool}
use Rattle.std.proofs.lemmas.Bool.Decides.{nat_tests}
use Rattle.host_edge.specs.declared.ending.MachineKind.{MachineKind}
use Rattle.host_edge.specs.declared.ending.MachineKind.TheVariants as kind
use Rattle.history.specs.Events.{Item, Out, In, Made, Entered, Next, Given, AtEnd, Failing, next_byte, number_bytes}
use Rattle.history.specs.Events.{outs}
use Rattle.mips_encoder.specs.declared.instruction.Instr.TheVariants.{Syscall}
use Rattle.icode_ir.specs.Decoded.{op_of}
use Rattle.mips_model.specs.declared.service.Service.{Service}
use Rattle.mips_model.specs.declared.service.Service.TheVariants.{PutInt, Exit, PutByte, GetByte, Begin, Emit, Finish}
use Rattle.mips_model.specs.declared.service.Service.TheVariants.{Flush, Publish}
use Rattle.mips_model.specs.CodeServices as services
use Rattle.mips_model.specs.CodeServices.{Outcome, Refused, Does}
use Rattle.mips_model.specs.State.{Making, Outside, State, World, register}
use Rattle.mips_model.specs.Services.{service_of, serve, get, got, read, makes, writes, generator_of}
use Rattle.mips_model.specs.Services.{next_choice, begun_with, issued_with, spent, published_once, flushed_once}
use Rattle.mips_model.specs.Steps.{found, word_at, fetch, faulted, apply, act, is_hazard, checked, execute, step}
use Rattle.mips_model.specs.Beside.{is_service, is_at_service}
use Rattle.mips_model.proofs.Aside.{step_aside}
use Rattle.mips_model.proofs.Runs.{events}

-- each item passed
abbrev pub AllPass : List Item → Type 0
AllPass [] = Unit {0}
AllPass (Out b ∷ items) = AllPass items
AllPass (In w ∷ items) = AllPass items
AllPass (Made f syntax ∷ items) = ⊥
AllPass (Entered f ∷ items) = ⊥

outs_pass : (xs : List Item) (bytes : List ℕ) → AllPass xs → AllPass (xs ++ outs bytes)
outs_pass [] [] h = tt
outs_pass [] (b ∷ bytes) h = outs_pass [] bytes tt
outs_pass (Out b ∷ xs) bytes h = outs_pass xs bytes h
outs_pass (In w ∷ xs) bytes h = outs_pass xs bytes h
outs_pass (Made f syntax ∷ xs) bytes h = absurd h
outs_pass (Entered f ∷ xs) bytes h = absurd h

in_passes : (xs : List Item) (w : ℕ) → AllPass xs → AllPass (xs ++ In w ∷ [])
in_passes [] w h = tt
in_passes (Out b ∷ xs) w h = in_passes xs w h
in_passes (In v ∷ xs) w h = in_passes xs w h
in_passes (Made f syntax ∷ xs) w h = absurd h
in_passes (Entered f ∷ xs) w h = absurd h

module _ (recent : ℕ) (s : State) (h : AllPass s.d.outside.history) where
  read_passes : (next : Next) → AllPass (events (apply (read next s.d) recent s))
  read_passes (Given b rest) = in_passes s.d.outside.history b h
  read_passes AtEnd = in_passes s.d.outside.history 4294967295 h
  read_passes Failing = h

  get_passes : AllPass (events (apply (get s.d) recent s))
  get_passes = by s.d.outside.at_end
    where
      by : (b : Bool) → AllPass (events (apply
          (if b then got 4294967295 true s.d.outside.input s.d else read (next_byte s.d.outside.input) s.d) recent s))
      by true = in_passes s.d.outside.history 4294967295 h
      by false = read_passes (next_byte s.d.outside.input)

  makes_pass : (o : Outcome) (note : Making → Making) → AllPass (events (apply (makes o note s.d) recent s))
  makes_pass (Refused why) note = h
  makes_pass (Does v g change set) note = h

  writes_pass : (o : Outcome) (note : ℕ → Outside → Outside) → ((v : ℕ) (x : Outside) → (note v x).history ≡ x.history)
      → AllPass (events (apply (writes o note s.d) recent s))
  writes_pass (Refused why) note keeps = h
  writes_pass (Does v g change set) note keeps =
      subst AllPass
      (sym (keeps v (record s.d.outside { making = record s.d.outside.making { generator = g } }))) h

  serve_passes : (o : Option Service) → AllPass (events (apply (serve o s.d) recent s))
  serve_passes None = h
  serve_passes (Some PutInt) = outs_pass s.d.outside.history (number_bytes (register 4 s.d)) h
  serve_passes (Some Exit) = h
  serve_passes (Some PutByte) = outs_pass s.d.outside.history (register 4 s.d % 256 ∷ []) h
  serve_passes (Some GetByte) = get_passes
  serve_passes (Some Begin) =
      makes_pass (services.begin (register 4 s.d) (generator_of s.d)) (begun_with (register 4 s.d))
  serve_passes (Some Emit) =
      makes_pass (services.emit (register 4 s.d) (register 5 s.d) (register 6 s.d) (generator_of s.d))
      (issued_with (op_of (register 4 s.d) (register 5 s.d) (register 6 s.d)))
  serve_passes (Some Finish) =
      writes_pass (services.finish (next_choice s.d.outside.making.row) (register 4 s.d) (register 5 s.d)
      (register 6 s.d) (generator_of s.d)) (spent (register 4 s.d)) (λ v x. refl)
  serve_passes (Some Flush) =
      writes_pass (services.flush (register 4 s.d) (register 5 s.d) (generator_of s.d)) flushed_once (λ v x. refl)
  serve_passes (Some Publish) =
      makes_pass (services.publish (register 4 s.d) (register 5 s.d) (register 6 s.d) (generator_of s.d))
      published_once

syscall_passes : (s : State) → AllPass s.d.outside.history → AllPass (events (checked Syscall s))
syscall_passes s h = by (is_hazard Syscall s)
  where
    by : (b : Bool) → AllPass (events (if b then faulted kind.Hazard s else act Syscall s))
    by true = h
    by false = serve_passes (s.recent - 1) s h (service_of (register 2 s.d))

found_passes : (x : Result ℕ MachineKind) (s : State) → is_service x ≡ true → AllPass s.d.outside.history
    → AllPass (events (execute (found x) s))
found_passes (Err k) s is h = absurd (false≢true is)
found_passes (Ok w) s is h =
    let e : 12 ≡ w = grind (arith, nat_tests, is) in
    subst (λ k. AllPass (events (execute (found (Ok k)) s))) e (syscall_passes s h)

step_passes : (w : World) → AllPass (events w) → AllPass (events (step w))
step_passes w h = elim (cases_Bool (is_at_service w.state)) [
  | inl t ↦ by (is_some w.ending) t
  | inr f ↦ subst AllPass (sym (ap events (step_aside w w.state.d.outside f))) h
]
  where
    by : (b : Bool) → is_at_service w.state ≡ true
        → AllPass (events (if b then w else execute (fetch w.state.code w.state.pc) w.state))
    by true t = h
    by false t = found_passes (word_at w.state.code w.state.pc) w.state t h

pub run_passes : (n : ℕ) (w : World) → AllPass (events w) → AllPass (events (iterate step n w))
run_passes zero w h = h
run_passes (suc n) w h = run_passes n (step w) (step_passes w h)
