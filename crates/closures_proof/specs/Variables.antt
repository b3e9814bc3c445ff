-- How the specifications of variables of generated code are made on the machine: by the op of a local variable, and by
-- that of a parameter, under any spots. How an op calls a routine is this project's own rule.
use Rattle.std.specs.Prelude.{◌≡◌, ℕ, ◌+◌, ◌<◌, List, ◌++◌, None}
use Rattle.word32.specs.declared.map.TheConstants.{SEGMENT_BYTES}
use Rattle.mips_encoder.specs.declared.instruction.Instr.{Instr}
use Rattle.mips_encoder.specs.Addresses.{past}
use Rattle.mips_model.specs.State.{Code, Data}
use Rattle.mips_model.specs.Laws.{HasAt, at}
use Rattle.icode_ops.specs.Kinds.{run_number}
use Rattle.icode_ops.specs.declared.kind.RunKind.{RunKind}
use Rattle.icode_ops.specs.declared.kind.RunKind.TheVariants as run
use Rattle.meaning_state.specs.Shared.{Shared, Specification, Local, Param}
use Rattle.meaning_state.specs.Rows.{closure_trap, next_number, specified}
use Rattle.icode_templates.specs.Layout.{Spot}
use Rattle.icode_templates.specs.Templates.{in_code, out_code, routine_code, routine_address}
use Rattle.icode_templates_proof.specs.Spots.{pointer, value, Framed, Usable}
use Rattle.icode_templates_proof.specs.Moves.{Writes}
use Rattle.icode_templates_proof.specs.MallocLaws.{linked, return_address}
use Rattle.icode_templates_proof.specs.Closures.{Head, local_head, parameter_head, appended}
use Rattle.icode_templates_proof.specs.Routines.{local_code, parameter_code}
use Rattle.icode_templates_proof.specs.RoutineLaws.{parameter_trap}
use Rattle.closures_proof.specs.Relation.{Text, HasSpecifications}

-- the op's words
abbrev pub run_code : RunKind → (from to : Spot) → List Instr
run_code kind from to = in_code from ++ (routine_code (run_number kind) ++ out_code to)

-- The specification was made, as the meaning appends it, with this closure: its number was put to a spot, and no other
-- spot was written.
pub record MakesVariable (text : Text) (shared : Shared) (s : Specification) (k : Head) (least most : ℕ)
    (kind : RunKind) (from to : Spot) (c : Code) (a : ℕ) (d : Data) : Type 0 where
  pub writes : Writes to (next_number shared) least most (at c a 0 d) c (past a (run_code kind from to))
      (appended k 0 (linked (return_address a from) d))
  pub specifications : HasSpecifications text (specified s 0 shared) writes.after

-- what holds where the op begins
pub record BeforeVariable (text : Text) (shared : Shared) (kind : RunKind) (routine : List Instr) (bytes : ℕ)
    (from to : Spot) (c : Code) (a : ℕ) (d : Data) : Type 0 where
  pub low : past a (in_code from) + 12 < SEGMENT_BYTES
  pub frame : Framed (pointer d) bytes
  pub answer : Usable bytes to
  pub argument : Usable bytes from
  pub word : value d from < 4294967296
  pub specifications : HasSpecifications text shared d
  pub stands : HasAt c (routine_address (run_number kind)) routine
  pub code : HasAt c a (run_code kind from to)

abbrev pub LocalsAreMade : Type 0
LocalsAreMade =
    (text : Text) (shared : Shared) (bytes : ℕ) (from to : Spot) (c : Code) (a : ℕ) (d : Data)
    → BeforeVariable text shared run.Local local_code bytes from to c a d → closure_trap 0 shared ≡ None
    → MakesVariable text shared Local (local_head (next_number shared)) 36 41 run.Local from to c a d

abbrev pub ParametersAreMade : Type 0
ParametersAreMade =
    (text : Text) (shared : Shared) (bytes : ℕ) (from to : Spot) (c : Code) (a : ℕ) (d : Data)
    → BeforeVariable text shared run.Parameter parameter_code bytes from to c a d
    → parameter_trap (value d from) shared ≡ None
    → MakesVariable text shared (Param (value d from)) (parameter_head (value d from)) 37 42 run.Parameter from to c a d
