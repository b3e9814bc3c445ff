-- The staged machine follows the meaning at a cost of 512 for a unit, and 4,000.
use Rattle.std.proofs.Common.{◌≡◌, ℕ, ◌+◌, ◌*◌, ◌%◌, ◌≤◌, [], Some, None, refl, sym, ap, ◌∙◌, arith, suc}
use Rattle.std.specs.Fn.{iterate}
use Rattle.host_edge.specs.declared.ending.Ending.TheVariants.{Done}
use Rattle.history.specs.Events.{End, Ended, Input}
use Rattle.pace.specs.Claims.{FollowsAtCost}
use Rattle.meaning_state.specs.Shared.{charged, discharged}
use Rattle.staged_meaning.specs.Size.{size_of, charge_of}
use Rattle.staged_meaning.specs.Scope.{IsReadyIn}
use Rattle.staged_meaning.specs.World.{World, Result, Gives, Returns, Ends, Stops}
use Rattle.staged_meaning.specs.Meaning as meaning
use Rattle.staged_meaning.specs.Meaning.{call_body, entered, leaves, charging, finish, main_context, at_start, begins}
use Rattle.staged_meaning.specs.Meaning.{run_program, seen, meant}
use Rattle.icode_meaning.specs.State.{Function, Program, State, Running, Zeroing, Halted, Stuck, Log, nothing, log_of}
use Rattle.icode_meaning.specs.State.{Making, Compiling}
use Rattle.icode_meaning.specs.State.{ending_of, see, least_at, most_at}
use Rattle.icode_meaning.specs.Steps.{left, advance, first, counted}
use Rattle.tick_lower_spec.specs.Lower.{Addresses}
use Rattle.tick_lower_spec.specs.Generated.{AreGenerated}
use Rattle.tick_lower_proof.proofs.Machine.{Goes, goes_none, Here}
use Rattle.tick_lower_proof.proofs.Claims.{BodiesFollow}
use Rattle.tick_lower_proof.proofs.Follow.{From, Follows, EndsAt, IsRunning, follows_then}
use Rattle.tick_lower_proof.proofs.Standing.{IsBack}
use Rattle.tick_lower_proof.proofs.Calls.{IsCode, site, call_run}
use Rattle.tick_lower_proof.proofs.Depths.{AreHeld, calls_at}
use Rattle.typed_tree.specs.declared.expression.CaptureKind.{CaptureKind}
use Rattle.std.specs.Prelude.{List}
use Rattle.limits.specs.declared.program.TheConstants.{SIZE_LIMIT}
use Rattle.tick_lower_proof.proofs.Smalls.{none_small}

module _ (P : Program) (d : Addresses) (program : meaning.Program) (ticks : List (List CaptureKind))
    (input : Input) (main : Function) (ready : IsReadyIn program.functions ticks program.main)
    (held : AreHeld P d program ticks)
    (no_parameters : program.main.parameters ≡ 0) (code : IsCode d program.main main.ops)
    (charge_is : main.charge ≡ charge_of (size_of program.main)) (object_is : main.object ≡ program.main.object)
    (bodies : BodiesFollow P d program ticks)
    (made : (i : ℕ) → AreGenerated d ticks
    (log_of (iterate (advance P) i (first main (at_start program input)))).shared.bodies) where
  abbrev start : State
  start = first main (at_start program input)

  -- main's call, which no call waits for
  abbrev here : Here
  here = record { function = main; parameters = nothing; waiting = [] }

  abbrev log_at : ℕ → Log
  log_at least = record {
    shared = charged main.charge main.object (at_start program input);
    active =
        counted main.compiled 1 0;
    least = least;
    most = 1;
  }

  charge_same : charged main.charge main.object (at_start program input) ≡ charged (charge_of (size_of program.main))
      program.main.object (at_start program input)
  charge_same = ap (λ x. charged x main.object (at_start program input)) charge_is ∙
      ap (λ x. charged (charge_of (size_of program.main)) x (at_start program input)) object_is

  -- the start, with m units
  abbrev begun : ℕ → From
  begun m = record { state = start; units = m; log = log_at 0 }

  whole_run : (m : ℕ) → Follows P (begun m) (λ v w. ⊥) (λ v w. ⊥) (run_program program input m)
  whole_run m =
      let c = main_context program m in
      let w = begins program input m in
      let from = begun m in
      let charge = charge_of (size_of program.main) in
      let object = program.main.object in
      let V : ℕ → World → Type 0 = λ v w1. EndsAt P from (Ended (Done (v % 256))) w1.shared in
      follows_then P from V (λ v w. ⊥) (λ v w. ⊥) (charging charge object (call_body c program.main []) w) finish
      (follows_then P from (IsBack (site P c d ticks here program.main code m (omega arith)) from) V (λ v w. ⊥)
      (call_body c program.main [] (entered charge object w)) (leaves charge object w)
      (call_run P c d ticks here program.main code m (omega arith) ready ready.frames
      (calls_at P d program ticks held bodies (suc m) m (omega arith)) []
      (λ j lt. absurd (omega (arith, lt, no_parameters))) from (log_at 1)
      (entered charge object w) (omega arith)
      (record {
        plain = record {
          few_frames = omega (arith, object_is, ready.short);
          small = none_small P SIZE_LIMIT;
        };
        stacked = (
          (ap (λ x. x % 4) object_is ∙ ready.whole, tt),
          (let sum : 0 + main.object ≡ main.object + 0 = omega arith in sum),
        );
        generated = made;
      })
      (record {
        object_is = sym object_is;
        few_object = omega (arith, object_is, ready.short);
        whole = held.whole;
      }) charge_same (goes_none P start) (omega arith) (omega arith) (omega arith))
      (λ v w1 h. record {
        log = left main h.log;
        goes = h.goes;
        shared_is = ap (discharged main.charge main.object) h.shared_is ∙
            ap (λ x. discharged x main.object w1.shared) charge_is ∙
            ap (λ x. discharged (charge_of (size_of program.main)) x w1.shared) object_is;
        high = omega (arith, h.high);
      }))
      (λ v w1 h. h)

  abbrev after : ℕ → State
  after i = iterate (advance P) i start

  going : (m : ℕ) (o : Result ℕ) → Follows P (begun m) (λ v w. ⊥) (λ v w. ⊥) o → (seen o).ending ≡ None →
      (i : ℕ) × (m ≤ least_at (after i)) × (most_at (after i) ≤ 512 * m + 4000) × ((see (after i)).ending ≡ None) ×
      ((seen o).history ≡ (see (after i)).history)
  going m (Gives v w) h n = absurd h
  going m (Returns v w) h n = absurd h
  going m (Ends e sh) h n = absurd cc
  going m (Stops sh) h n = at h.state h.goes h.on (ap (λ z. z.history) h.shared_is) (omega (arith, h.low))
      (omega (arith, h.high))
    where
      at : (s : State) → Goes P start s → IsRunning s → (log_of s).shared.history ≡ sh.history → m ≤ (log_of s).least →
          (log_of s).most ≤ 512 * m + 4000 →
          (i : ℕ) × (m ≤ least_at (after i)) × (most_at (after i) ≤ 512 * m + 4000) × ((see (after i)).ending ≡ None) ×
          (sh.history ≡ (see (after i)).history)
      at s go on o low high = (
        go.steps,
        rw go.comes low,
        rw go.comes high,
        ap ending_of go.comes ∙ none s on,
        sym o ∙ sym (ap (λ t. (log_of t).shared.history) go.comes),
      )
        where
          none : (s : State) → IsRunning s → ending_of s ≡ None
          none (Running frame arguments answer waiting g) on = refl
          none (Zeroing more address frame waiting g) on = refl
          none (Making draft frame waiting g) on = refl
          none (Compiling more syntax to frame waiting g) on = refl
          none (Halted e g) on = absurd on
          none (Stuck g) on = refl

  ending : (m : ℕ) (e : End) (o : Result ℕ) → Follows P (begun m) (λ v w. ⊥) (λ v w. ⊥) o → (seen o).ending ≡ Some e →
      (i : ℕ) × (most_at (after i) ≤ 512 * m + 4000) × ((see (after i)).ending ≡ Some e) ×
      ((seen o).history ≡ (see (after i)).history)
  ending m e (Gives v w) h is = absurd h
  ending m e (Returns v w) h is = absurd h
  ending m e (Stops sh) h is = absurd cc
  ending m e (Ends e' sh) h is =
      let go = h.goes in (
        go.steps,
        rw go.comes (omega (arith, h.high)),
        ap ending_of go.comes ∙ is,
        sym (ap (λ z. z.history) h.shared_is) ∙ sym (ap (λ t. (log_of t).shared.history) go.comes),
      )

  pub follows_at_cost : FollowsAtCost 512 4000 (meant program input) (λ i. see (after i)) (λ i. least_at (after i))
      (λ i. most_at (after i))
  follows_at_cost = record {
    goes_on = λ m n. going m (run_program program input m) (whole_run m) n;
    ends = λ m e is. ending m e (run_program program input m) (whole_run m) is;
  }
