-- The ops of variables of generated code make their specifications.
use Rattle.std.proofs.Common.{◌≡◌, inl, inr, ℕ, ◌<◌, ◌≤◌, Some, None, refl}
use Rattle.std.proofs.Common.{arith, nat_le}
use Rattle.std.proofs.lemmas.Bool.{cases_Bool}
use Rattle.std.proofs.lemmas.Bool.Decides.{nat_tests}
use Rattle.limits.specs.declared.program.TheConstants.{MOST_ARGUMENTS}
use Rattle.host_edge.specs.declared.ending.TrapKind.TheVariants.{BadParam}
use Rattle.mips_encoder.specs.Addresses.{past}
use Rattle.mips_model.specs.State.{Code, Data}
use Rattle.mips_model.specs.Laws.{at}
use Rattle.icode_ops.specs.declared.kind.RunKind.{RunKind}
use Rattle.icode_ops.specs.declared.kind.RunKind.TheVariants as run
use Rattle.meaning_state.specs.Shared.{Shared, Specification, Local, Param}
use Rattle.meaning_state.specs.Rows.{closure_trap, index_trap, next_number, specified}
use Rattle.icode_templates.specs.Layout.{Spot}
use Rattle.icode_templates_proof.specs.Spots.{Usable}
use Rattle.icode_templates_proof.specs.Moves.{Writes}
use Rattle.icode_templates_proof.specs.Spots.{value}
use Rattle.icode_templates_proof.specs.MallocLaws.{linked, return_address}
use Rattle.icode_templates_proof.specs.Closures.{Head, local_head, parameter_head, appended}
use Rattle.icode_templates_proof.proofs.Called.{local_called, parameter_called}
use Rattle.closures_proof.proofs.Kept.{closures_same}
use Rattle.closures_proof.specs.Relation.{Text, HasSpecifications}
use Rattle.closures_proof.specs.Variables.{run_code, MakesVariable, LocalsAreMade, ParametersAreMade}
use Rattle.closures_proof.proofs.Making.{rows_there, local_made, parameter_made}
use Rattle.closures_proof.proofs.TickSpots.{low_register, specifications_there}
use Rattle.closures_proof.proofs.TickMade.{first_none}

pub linked_there : (text : Text) (shared : Shared) (to : ℕ) (d : Data) → HasSpecifications text shared d →
    HasSpecifications text shared (linked to d)
linked_there text shared to d h = record {
  closures = h.closures;
  memory = closures_same h.closures d (linked to d) refl refl refl refl refl h.memory;
  stand_for = h.stand_for;
  bytes = h.bytes;
}

-- behind an op that has put the number
made_behind : (text : Text) (shared : Shared) (s : Specification) (k : Head) (least most : ℕ) (kind : RunKind)
    (bytes : ℕ) (from to : Spot) (c : Code) (a : ℕ) (d : Data) → Usable bytes to →
    Writes to (next_number shared) least most (at c a 0 d) c (past a (run_code kind from to))
    (appended k 0 (linked (return_address a from) d)) →
    HasSpecifications text (specified s 0 shared) (appended k 0 (linked (return_address a from) d)) →
    MakesVariable text shared s k least most kind from to c a d
made_behind text shared s k least most kind bytes from to c a d u w h = record {
  writes = w;
  specifications = specifications_there text (specified s 0 shared) (appended k 0 (linked (return_address a from) d))
      w.after w.puts.world
      (w.puts.registers 28 (omega arith, omega arith, omega arith)
      (let low = low_register bytes to u in (λ is. omega (arith, low, is)))) h;
}

pub locals_made : LocalsAreMade
locals_made text shared bytes from to c a d g none =
    let link = return_address a from in
    made_behind text shared Local (local_head (next_number shared)) 36 41 run.Local bytes from to c a d g.answer
    (local_called c a bytes d to from g.low g.frame g.answer g.argument g.word shared
    (rows_there text shared d g.specifications) none g.stands g.code)
    (local_made text shared (linked link d) (linked_there text shared link d g.specifications) none)

index_fits : (index : ℕ) → index_trap index ≡ None → index < MOST_ARGUMENTS
index_fits index e = elim (cases_Bool (nat_le index 7)) [
  | inl t ↦ (let l : index ≤ 7 = grind (arith, nat_tests, t) in omega (arith, l))
  | inr t ↦ (let some : index_trap index ≡ Some BadParam = rw t refl in let z : ⊥ = cc in absurd z)
]

pub parameters_made : ParametersAreMade
parameters_made text shared bytes from to c a d g none =
    let link = return_address a from in
    let index = value d from in
    let both = first_none (index_trap index) (closure_trap 0 shared) none in
    made_behind text shared (Param index) (parameter_head index) 37 42 run.Parameter bytes from to c a d g.answer
    (parameter_called c a bytes d to from g.low g.frame g.answer g.argument g.word shared
    (rows_there text shared d g.specifications) none g.stands g.code)
    (parameter_made text shared index (linked link d) (linked_there text shared link d g.specifications)
    (index_fits index both.0) both.1)
