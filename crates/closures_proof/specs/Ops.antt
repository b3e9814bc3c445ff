-- The ops that make a tick's specification, on the machine: an op for each captured number, which calls the routine
-- that checks it; one that makes the closure; and one that puts each captured word into it. The words are those of the
-- templates.
use Rattle.std.specs.Prelude.{◌≡◌, ℕ, zero, suc, ◌+◌, ◌%◌, ◌≤◌, List, [], ◌∷◌, ◌++◌, length, Some, slice_get}
use Rattle.word32.specs.declared.map.TheConstants.{CLOSURES, CLOSURE_BYTES, CLOSURE_CELL, GLOBAL_POINTER}
use Rattle.mips_encoder.specs.declared.instruction.Instr.{Instr}
use Rattle.mips_model.specs.State.{Data}
use Rattle.icode_ops.specs.Kinds.{closure_number}
use Rattle.icode_ops.specs.declared.kind.RunKind.{RunKind}
use Rattle.icode_ops.specs.declared.kind.RunKind.TheVariants as run
use Rattle.icode_ops.specs.declared.kind.ClosureKind.{ClosureKind}
use Rattle.meaning_state.specs.Rows.{closure_bytes}
use Rattle.icode_templates.specs.Layout.{Spot}
use Rattle.mips_assembly.specs.Assembly.{v0, a0, a1, a2, t8, addu, ori, jal, nop, constant}
use Rattle.icode_templates.specs.Templates.{in_code, out_code, new_address, put_code}
use Rattle.icode_templates_proof.specs.Closures.{Head, Closure, word_at, with_word, closure_of, size_so_far}
use Rattle.icode_templates_proof.specs.Closures.{parameters_so_far}
use Rattle.icode_templates_proof.specs.Closures.{HasClosures}
use Rattle.icode_templates_proof.specs.Routines.{Named, AnExpression, AStatement, AVariable}

-- the routine that checks a number which is named so
abbrev pub check_of : Named → RunKind
check_of AnExpression = run.Expression
check_of AStatement = run.Statement
check_of AVariable = run.Variable

-- ---- the op New

-- what it passes: the address of the function that generates the code, the closure's kind, and how many captures it has
abbrev pub pass_code : (address : ℕ) → ClosureKind → (captures : ℕ) → List Instr
pass_code address kind captures = constant a0 address ++ (ori a1 0 (closure_number kind) ∷ constant a2 captures)

abbrev pub call_new_code : List Instr
call_new_code = jal new_address ∷ nop ∷ []

-- whole
abbrev pub new_op_code : Spot → (address : ℕ) → ClosureKind → (captures : ℕ) → List Instr
new_op_code w address kind captures =
    constant a0 address
    ++ (ori a1 0 (closure_number kind) ∷ constant a2 captures
    ++ jal new_address ∷ nop ∷ addu t8 v0 0 ∷ out_code w)

-- the call returns behind its delay slot
abbrev pub new_return_address : ℕ → ℕ
new_return_address a = a + 4 + 4 + 4 + 4 + 4 + 4 + 4

-- the closure of a tick: size and parameters were added up
abbrev pub tick_head : (address : ℕ) → ClosureKind → Data → Head
tick_head address kind d = record {
  first = address;
  kind = closure_number kind;
  size = size_so_far d;
  parameters = parameters_so_far d;
}

-- ---- the op Put

abbrev pub put_op_code : Spot → (capture : ℕ) → List Instr
put_op_code v capture = in_code v ++ put_code capture

-- the address of the newest closure
abbrev pub newest_closure : Data → ℕ
newest_closure d = word_at d.cells CLOSURE_CELL

-- the place of its captured word of a number is one of the closures' region
pub record HasPlace (capture : ℕ) (d : Data) : Type 0 where
  pub global : d.registers 28 ≡ GLOBAL_POINTER
  pub from : CLOSURES ≤ newest_closure d
  pub to : newest_closure d + closure_bytes (suc capture) ≤ CLOSURES + CLOSURE_BYTES
  pub even : newest_closure d % 4 ≡ 0

-- and it has another word
abbrev pub with_captured : (capture word : ℕ) → Data → Data
with_captured capture word d =
    record d { closures = with_word (newest_closure d + closure_bytes capture) word d.closures }

-- the member of a number becomes another one
abbrev pub replaced : ℕ → ℕ → List ℕ → List ℕ
replaced i word [] = []
replaced zero word (x ∷ xs) = word ∷ xs
replaced (suc i) word (x ∷ xs) = x ∷ replaced i word xs

-- The closures of a run, of which the last is the newest: it stands behind all others, and still gets its captured
-- words.
pub record HasNewest (ks : List Closure) (k : Closure) (d : Data) : Type 0 where
  pub closures : HasClosures (ks ++ k ∷ []) d
  pub newest : newest_closure d ≡ closure_of d (suc (length ks))
  pub before : (n : ℕ) (other : Closure) → slice_get ks n ≡ Some other →
      closure_of d (suc n) + closure_bytes (length other.captured) ≤ newest_closure d
