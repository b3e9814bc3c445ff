-- A call of a compiled function, from behind its caller's op to its return: the event, the limits, the units of the
-- call and of its local variables, its body, and the caller's variables are back.
use Rattle.std.proofs.Common.{◌≡◌, ℕ, zero, suc, ◌+◌, ◌*◌, ◌<◌, ◌≤◌, List, ◌∷◌, Option, Some, None, refl, sym, ap, ◌∙◌}
use Rattle.std.proofs.Common.{subst, arith}
use Rattle.host_edge.specs.declared.ending.TrapKind.{TrapKind}
use Rattle.history.specs.Events.{Entered}
use Rattle.history.specs.Syntax.{Syntax}
use Rattle.icode_ops.specs.declared.op.Op.{Op}
use Rattle.meaning_state.specs.Shared.{happens, limit_trap, charged, discharged}
use Rattle.meaning_state.specs.Rows.{locals_of}
use Rattle.staged_meaning.specs.Size.{charge_of}
use Rattle.staged_meaning.specs.Program.{syntax_size}
use Rattle.staged_meaning.specs.World.{World, Result, Normal, then_do, spend, spend_from, spend_all, with_shared}
use Rattle.staged_meaning.specs.World as meaning
use Rattle.staged_meaning.specs.Meaning.{Context, syntax_value, returned, keys_at_entry, generated_body, call_generated}
use Rattle.staged_meaning.specs.Meaning.{entered, leaves, charging}
use Rattle.icode_meaning.specs.Costs.{least_of, most_of}
use Rattle.icode_meaning.specs.State.{Function, Program, Frame, Log}
use Rattle.icode_meaning.specs.Steps.{paid, enter, moved_on, goes_on, begun, with_event, function_for, back, left}
use Rattle.icode_meaning.specs.Steps as machine
use Rattle.tick_lower_proof.proofs.Machine.{Goes, Here, at_op}
use Rattle.tick_lower_proof.proofs.Follow.{From, Follows, GoesBack, follows_then}
use Rattle.tick_lower_proof.proofs.Callers.{Answered}
use Rattle.tick_lower_proof.proofs.Opening.{blank, Opens, opened_run}

module _ (P : Program) (c : Context) (syntax : Syntax) (address number place : ℕ) (keys : List (ℕ × ℕ))
    (arguments : List ℕ) (passed : ℕ → Option ℕ) (frame : Frame) (waiting : List Frame)
    (same_size : syntax_size c.program syntax ≡ syntax_size P.source syntax) where
  abbrev fn : Function
  fn = function_for P syntax address

  abbrev callee : Here
  callee = record { function = fn; parameters = passed; waiting = moved_on frame ∷ waiting }

  abbrev locals : ℕ
  locals = locals_of syntax

  -- what is asked of the body, behind all units of the entry: 324 of the call's unit and 507 of each variable's are
  -- over
  abbrev BodyRuns : (opens : Opens P callee keys place locals arguments) → From → (limit : ℕ) → Type 0
  BodyRuns opens from limit =
      (w1 : World) (g1 : Log) → w1.units < limit → w1.generated ≡ keys_at_entry arguments →
      (opens.log g1).shared ≡ w1.shared → w1.units ≤ from.units →
      Goes P from.state (at_op callee place opens.regs (opens.log g1)) →
      from.units + from.log.least ≤ w1.units + (opens.log g1).least →
      (opens.log g1).most + 512 * w1.units + 324 + 507 * locals ≤ from.log.most + 512 * from.units →
      Follows P from (GoesBack P callee from) (λ x w. ⊥) (returned (syntax_value c syntax w1))

  -- behind the limits
  entered_run : (opens : Opens P callee keys place locals arguments) (from : From) (limit : ℕ) (w : World)
      (g : Log) → g.shared ≡ w.shared → Goes P from.state (at_op callee 0 blank g) → w.units ≤ from.units →
      from.units + from.log.least + 1 ≤ w.units + g.least →
      g.most + 512 * w.units ≤ from.log.most + 512 * from.units + 128 → w.units ≤ limit → BodyRuns opens from limit →
      Follows P from (GoesBack P callee from) (λ x w1. ⊥) (generated_body c syntax arguments w)
  entered_run opens from limit w g same go fewer low high few body =
      by w.units refl
    where
      w0 : World
      w0 = record w { arguments = arguments; generated = keys_at_entry arguments }

      by : (units : ℕ) → w.units ≡ units →
          Follows P from (GoesBack P callee from) (λ x w1. ⊥)
          (then_do (spend_from units Normal
          (record w { arguments = arguments; generated = keys_at_entry arguments }))
          (λ flow w1. then_do (spend_all (locals_of syntax) w1) (λ flow w2. returned (syntax_value c syntax w2))))
      by zero e = record {
        state = at_op callee 0 blank g;
        goes = go;
        on = tt;
        shared_is = same;
        low = omega (arith, low, e);
        high = omega (arith, high, e);
      }
      by (suc m) e =
          opened_run P from callee keys place locals arguments opens (GoesBack P callee from) (λ x w1. ⊥) g go
          (λ w1. returned (syntax_value c syntax w1))
          (record w { arguments = arguments; generated = keys_at_entry arguments; units = m }) same
          (omega (arith, low, e)) (omega (arith, high, e))
          (λ n le go1 low1 high1.
          body (record w { arguments = arguments; generated = keys_at_entry arguments; units = n }) g
          (omega (arith, le, e, few)) refl
          (opens.shared_is g ∙ same) (omega (arith, le, e, fewer)) go1 low1 high1)

  -- The call, from behind the comparison of the counts.
  pub generated_run : (opens : Opens P callee keys place locals arguments) (from : From) (limit : ℕ) (w : World)
      (g : Log) (o : Op) → g.shared ≡ w.shared →
      Goes P from.state (enter fn frame passed waiting (with_event number (paid o g))) → w.units ≤ from.units →
      from.units + from.log.least + 1 ≤ w.units + g.least + least_of o →
      g.most + most_of o + 512 * w.units ≤ from.log.most + 512 * from.units + 128 → w.units ≤ limit → BodyRuns opens
      from limit →
      Follows P from (Answered P from (moved_on frame ∷ waiting) w) (λ x w1. ⊥)
      (call_generated c number syntax arguments w)
  generated_run opens from limit w g o same go fewer low high few body =
      let w1 = with_shared (happens (Entered number) w.shared) w in
      let sh : (with_event number (paid o g)).shared ≡ w1.shared = ap (happens (Entered number)) same in
      let charge_is : fn.charge ≡ charge_of (syntax_size c.program syntax) = ap charge_of (sym same_size) in
      let trap_is : limit_trap fn.charge 0 (with_event number (paid o g)).shared
      ≡ limit_trap (charge_of (syntax_size c.program syntax)) 0 w1.shared =
      ap (λ x. limit_trap x 0 (with_event number (paid o g)).shared) charge_is
      ∙ ap (limit_trap (charge_of (syntax_size c.program syntax)) 0) sh in
      by (limit_trap (charge_of (syntax_size c.program syntax)) 0 w1.shared)
      (subst (λ t. Goes P from.state (machine.unless t (with_event number (paid o g))
      (goes_on (begun fn passed) (moved_on frame ∷ waiting) (machine.entered fn (with_event number (paid o g))))))
      trap_is go)
    where
      by : (t : Option TrapKind) →
          Goes P from.state (machine.unless t (with_event number (paid o g))
          (goes_on (begun fn passed) (moved_on frame ∷ waiting) (machine.entered fn (with_event number (paid o g))))) →
          Follows P from (Answered P from (moved_on frame ∷ waiting) w) (λ x w2. ⊥)
          (meaning.unless t (with_shared (happens (Entered number) w.shared) w)
          (charging (charge_of (syntax_size c.program syntax)) 0 (generated_body c syntax arguments)
          (with_shared (happens (Entered number) w.shared) w)))
      by (Some kind) go1 = record {
        log = with_event number (paid o g);
        goes = go1;
        shared_is = ap (happens (Entered number)) same;
        high = omega (arith, high, fewer);
      }
      by None go1 =
          let charge = charge_of (syntax_size c.program syntax) in
          let w1 = with_shared (happens (Entered number) w.shared) w in
          let g1 = machine.entered fn (with_event number (paid o g)) in
          let charge_is : fn.charge ≡ charge = ap charge_of (sym same_size) in
          let sh : g1.shared ≡ (entered charge 0 w1).shared =
          ap (λ x. charged x 0 (happens (Entered number) g.shared)) charge_is
          ∙ ap (λ z. charged charge 0 (happens (Entered number) z)) same in
          follows_then P from (GoesBack P callee from) (Answered P from (moved_on frame ∷ waiting) w) (λ x w2. ⊥)
          (generated_body c syntax arguments (entered charge 0 w1)) (leaves charge 0 w1)
          (entered_run opens from limit (entered charge 0 w1) g1 sh go1 fewer (omega (arith, low)) (omega (
            arith,
            high,
          )) few
          body)
          (λ x w2 h. record {
            log = left fn h.log;
            goes = h.goes;
            shared_is = ap (λ y. discharged y 0 h.log.shared) charge_is ∙ ap (discharged charge 0) h.shared_is;
            variables_are = refl;
            generated_are = refl;
            fewer = h.fewer;
            low = h.low;
            high = h.high;
          })
