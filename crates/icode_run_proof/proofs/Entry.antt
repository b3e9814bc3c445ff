-- A compiled function that is entered at its published address tells that it was entered, once and nothing else: where
-- its prologue comes to the first op, and where its frame is over the limit of the stack.
use Rattle.std.proofs.Common.{◌≡◌, ℕ, suc, ◌+◌, ◌/◌, ◌%◌, ◌<◌, ◌≤◌, Bool, true, List, [], ◌∷◌, Some}
use Rattle.std.proofs.Common.{refl, ap, ◌∙◌, arith}
use Rattle.std.specs.Fn.{iterate}
use Rattle.word32.specs.declared.map.TheConstants.{ARENA, FUNCTION_ROWS, GLOBAL_POINTER, STACK}
use Rattle.limits.specs.declared.run.TheConstants.{MOST_FRAME_BYTES}
use Rattle.host_edge.specs.declared.ending.Ending.TheVariants.{Trap}
use Rattle.host_edge.specs.declared.ending.TrapKind.TheVariants.{StackLimit}
use Rattle.history.specs.Events.{Ended}
use Rattle.mips_assembly.specs.Assembly.{lui}
use Rattle.mips_model.specs.State.{Outside, Code, Data, State, World}
use Rattle.mips_model.specs.Steps.{Is, fetch, step, going}
use Rattle.mips_model.specs.Laws.{HasAt, Reaches, at}
use Rattle.mips_model.specs.Told.{Entered, row_from, told}
use Rattle.mips_model_laws.specs.Laws.{only, with_code, StaysIn}
use Rattle.mips_model_laws.specs.Clean.{IsUnspoiled}
use Rattle.mips_model_laws.proofs.Below.{runs_in, runs_carried_in}
use Rattle.mips_model_laws.proofs.Entrances.{AreNoEntries, stays_silent}
use Rattle.mips_model_laws.proofs.Unspoiled.{code_unspoiled}
use Rattle.mips_model_laws.proofs.Ended.{enters_then}
use Rattle.icode_ops.specs.declared.op.Op.{Op}
use Rattle.icode_meaning.specs.State.{Function}
use Rattle.icode_templates_proof.specs.Spots.{pointer}
use Rattle.icode_templates_proof.specs.Moves.{EndsIn}
use Rattle.icode_expand_proof.specs.Standing.{Stands, front_code, op_stands_at}
use Rattle.icode_expand_proof.specs.Runs.{Beginning}
use Rattle.icode_expand_proof.proofs.Codes.{front_stands}
use Rattle.icode_expand_proof.proofs.Entering.{begun_first, first_reaches, rest_of}
use Rattle.icode_expand_proof.proofs.Compiled.{behind_count, begun_data, behind_first, behind_over, made_begins}
use Rattle.icode_expand_proof.proofs.Compiled.{made_count, made_outside}
use Rattle.icode_run_proof.proofs.Ending.{EndsTold, ends_told}

module _ (address charge : ℕ) (ops : List Op) (places : List ℕ) (c : Code) (d : Data) (n : ℕ) (own : ℕ → Bool) where
  abbrev pub made : Function
  made = record { address = address; ops = ops; charge = charge; object = 0; compiled = true }

  -- what is behind its first word stands on the words that are no entries
  module _ (st : Stands c made places) (top : pointer d ≤ 2147483648) (high : ARENA ≤ address)
      (row : row_from FUNCTION_ROWS 0 address d.table ≡ Some n) (none : AreNoEntries own d.table)
      (rest_stands : HasAt (only own c) (address + 4) (rest_of (front_code made places))) where
    abbrev s : State
    s = at c address 0 d

    abbrev s1 : State
    s1 = at c (address + 4) 0 (begun_first charge d)

    first_is : fetch c address ≡ Is (lui 1 (charge / 65536))
    first_is = (front_stands c made places st).0

    first_step : step (going s) ≡ going s1
    first_step = first_reaches charge c address d first_is

    -- it comes to the first op
    module _ (over : charge + STACK ≤ pointer d) (even : pointer d % 4 ≡ 0) (global : d.registers 28 ≡ GLOBAL_POINTER)
      where
        abbrev count : ℕ
        count = behind_count places

        abbrev last : State
        last = at c (op_stands_at made places 0) 0 (begun_data charge places d)

        restricted : Reaches count (with_code (only own c) s1) (with_code (only own c) last)
        restricted = behind_first address charge ops places c d st over top even global (only own c) rest_stands

        outside_is : last.d.outside ≡ s1.d.outside
        outside_is = made_outside address charge ops places c d st over top even global

        stays : StaysIn own count s1
        stays = runs_in own count s1 (with_code (only own c) last) restricted
            (ap (λ (o : Outside). o.flushes) outside_is)

        comes : Reaches count s1 last
        comes = runs_carried_in own count s1 last restricted (ap (λ (o : Outside). o.flushes) outside_is)

        enters : told (suc count) (going s) ≡ Entered n ∷ []
        enters = enters_then n count s s1 (lui 1 (charge / 65536)) [] high first_is row first_step refl
            (stays_silent own count s1 stays none
            (ap (λ (w : World). w.state.d.outside) comes.by ∙ outside_is))

        -- so the law of a function's beginning, with what it tells
        pub begins : Beginning made places c d
        begins = made_begins address charge ops places c d st over top even global

        pub begins_tells : told begins.runs.count (going s) ≡ Entered n ∷ []
        unfolding begins
        begins_tells = ap (λ k. told k (going s))
            (let e = made_count address charge ops places c d st over top even global in
            let same : begins.runs.count ≡ suc count = omega (arith, e) in same) ∙ enters

        pub begins_unspoiled : IsUnspoiled begins.runs.count (going s)
        begins_unspoiled = code_unspoiled begins.runs.count (going s)
            (ap (λ (w : World). w.state.code) begins.runs.reaches.by)

    -- its frame is over the limit of the stack
    module _ (small : charge ≤ MOST_FRAME_BYTES) (from : STACK ≤ pointer d) (over : pointer d < charge + STACK) where
      traps_on : EndsIn 7 7 (Ended (Trap StackLimit)) (at (only own c) (address + 4) 0 (begun_first charge d))
          (only own c) d.outside
      traps_on = behind_over address charge ops places c d (only own c) small from top over rest_stands

      ends : EndsTold 7 7 (Ended (Trap StackLimit)) s1 c d.outside
      ends = ends_told own 7 7 (Ended (Trap StackLimit)) c (address + 4) 0 (begun_first charge d) tt traps_on none

      pub is_over : EndsIn 8 8 (Ended (Trap StackLimit)) s c d.outside
      is_over =
          let x = ends.ends in
          let by : iterate step (suc x.count) (going s) ≡ iterate step x.count (going s1) =
          ap (iterate step x.count) first_step in
          record {
            count = suc x.count;
            over = omega (arith, x.over);
            under = omega (arith, x.under);
            ending = ap (λ (w : World). w.ending) by ∙ x.ending;
            outside_is = ap (λ (w : World). w.state.d.outside) by ∙ x.outside_is;
            code_is = ap (λ (w : World). w.state.code) by ∙ x.code_is;
          }

      pub over_tells : told is_over.count (going s) ≡ Entered n ∷ []
      unfolding is_over
      over_tells = enters_then n ends.ends.count s s1 (lui 1 (charge / 65536)) [] high first_is row first_step refl
          ends.told_none

      pub over_unspoiled : IsUnspoiled is_over.count (going s)
      over_unspoiled = code_unspoiled is_over.count (going s) is_over.code_is
