-- A program as it has a meaning: its functions, its ticks, and the bytes of its globals and strings; what its numbers
-- stand for, and the sizes of generated code. A splice counts one, and the size of the specification that it stands for
-- besides. These are this project's own rules.
use Rattle.std.specs.Prelude.{ℕ, ◌+◌, ◌-◌, Bool, false, nat_eq, nat_le, if◌then◌else◌, List, length, slice_get, Option}
use Rattle.std.specs.Prelude.{Some, None}
use Rattle.host_edge.specs.declared.ending.TrapKind.{TrapKind}
use Rattle.host_edge.specs.declared.ending.TrapKind.TheVariants.{BadCall}
use Rattle.meaning_state.specs.Bodies.{Body}
use Rattle.history.specs.Syntax.{Syntax, Ticked, Captures, NoCapture, Word, Named, Spliced}
use Rattle.meaning_state.specs.Rows.{numbered, parameters_of}
use Rattle.typed_tree.specs.Nodes.{Expr, Stmt, Function, has_value}
use Rattle.staged_meaning.specs.Size.{size_of_expr, size_of_stmt}

-- what stands behind a backquote
pub data Tick : Type 0 where
  OfExpression : Expr → Tick
  OfStatement : Stmt → Tick

-- the function main, the functions in the order of the text, main among them, the ticks, and the bytes of the globals
-- and of the strings
pub record Program : Type 0 where
  pub main : Function
  pub functions : List Function
  pub ticks : List Tick
  pub image : List ℕ

-- ---- functions by their numbers: those of the text from 1 on, and then those that were compiled

pub data Callee : Type 0 where
  Static : Function → Callee
  Generated : Syntax → Callee

abbrev pub static_callee : Option Function → Option Callee
static_callee None = None
static_callee (Some function) = Some (Static function)

abbrev pub generated_callee : Option Body → Option Callee
generated_callee None = None
generated_callee (Some body) = if body.live then Some (Generated body.syntax) else None

-- the live function of a number
abbrev pub callee_at : Program → List Body → ℕ → Option Callee
callee_at program bodies number =
    if nat_le number (length program.functions) then static_callee (numbered number program.functions)
    else generated_callee (numbered (number - length program.functions) bodies)

abbrev pub parameters : Callee → ℕ
parameters (Static function) = function.parameters
parameters (Generated syntax) = parameters_of syntax

-- a call by number is one of a live function that has as many parameters as there are arguments
abbrev pub call_trap : Option Callee → (arguments : ℕ) → Option TrapKind
call_trap None arguments = Some BadCall
call_trap (Some callee) arguments = if nat_eq (parameters callee) arguments then None else Some BadCall

-- ---- sizes

abbrev pub tick_size : Option Tick → ℕ
tick_size None = 0
tick_size (Some (OfExpression e)) = size_of_expr e
tick_size (Some (OfStatement s)) = size_of_stmt s

-- whether a tick is one of an expression that leaves a value; its specification is of a statement otherwise
abbrev pub is_expression : Option Tick → Bool
is_expression None = false
is_expression (Some (OfExpression e)) = has_value e
is_expression (Some (OfStatement s)) = false

abbrev mutual
  pub syntax_size : Program → Syntax → ℕ
  syntax_size program (Ticked tick captures) = tick_size (slice_get program.ticks tick) + captures_size program captures

  pub captures_size : Program → Captures → ℕ
  captures_size program NoCapture = 0
  captures_size program (Word word captures) = captures_size program captures
  captures_size program (Named key captures) = captures_size program captures
  captures_size program (Spliced syntax captures) = syntax_size program syntax + captures_size program captures
