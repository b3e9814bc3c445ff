-- Which closure stands for which specification. The closure of a tick has the address of the function that generates
-- its code, and the size and the parameters of the whole specification; its captured words are the values that were
-- captured, and for what is spliced in, the numbers of earlier specifications. The rules are this project's own.
use Rattle.std.specs.Prelude.{◌≡◌, ℕ, suc, ◌<◌, ◌≤◌, List, [], ◌∷◌, length, slice_get, Option}
use Rattle.std.specs.Prelude.{Some}
use Rattle.limits.specs.declared.program.TheConstants.{MOST_ARGUMENTS, SIZE_LIMIT}
use Rattle.history.specs.Syntax.{Syntax, Ticked, Captures, NoCapture, Word, Named, Spliced}
use Rattle.mips_model.specs.State.{Data}
use Rattle.icode_ops.specs.Kinds.{closure_number}
use Rattle.icode_ops.specs.declared.kind.ClosureKind.{ClosureKind}
use Rattle.icode_ops.specs.declared.kind.ClosureKind.TheVariants as closure
use Rattle.meaning_state.specs.Shared.{Shared, Specification, Expression, Statement, Local, Param}
use Rattle.meaning_state.specs.Rows.{numbered, parameters_of}
use Rattle.staged_meaning.specs.Program.{Program, syntax_size}
use Rattle.staged_meaning.specs.Specifications.{key_in}
use Rattle.icode_templates_proof.specs.Closures.{Head, Closure, local_head, parameter_head, bytes_of, HasClosures}

-- the program, and where the functions that generate the code of its ticks begin, by the numbers of the ticks
pub record Text : Type 0 where
  pub program : Program
  pub generator_at : (tick : ℕ) → ℕ

abbrev pub tick_of : Syntax → ℕ
tick_of (Ticked tick captures) = tick

abbrev pub captures_of_syntax : Syntax → Captures
captures_of_syntax (Ticked tick captures) = captures

-- the first four words of the closure of a whole specification
abbrev pub syntax_head : Text → ClosureKind → Syntax → Head
syntax_head text kind syntax = record {
  first = text.generator_at (tick_of syntax);
  kind = closure_number kind;
  size = syntax_size text.program syntax;
  parameters = parameters_of syntax;
}

-- a specification of this syntax
abbrev pub IsOf : Syntax → Option Specification → Type 0
IsOf syntax (Some (Expression s)) = s ≡ syntax
IsOf syntax (Some (Statement s)) = s ≡ syntax
IsOf syntax _ = ⊥

-- a variable of generated code
abbrev pub IsVariable : Option Specification → Type 0
IsVariable (Some Local) = Unit {0}
IsVariable (Some (Param index)) = Unit {0}
IsVariable _ = ⊥

-- the captured words of the specification with a number: those of specifications are earlier numbers
abbrev pub AreCaptured : List Specification → (number : ℕ) → Captures → List ℕ → Type 0
AreCaptured rows number NoCapture [] = Unit {0}
AreCaptured rows number (Word word captures) (x ∷ xs) = (x ≡ word) × AreCaptured rows number captures xs
AreCaptured rows number (Named key captures) (x ∷ xs) =
    (x < number) × (IsVariable (numbered x rows)) × (key_in x (numbered x rows) ≡ key)
    × AreCaptured rows number captures xs
AreCaptured rows number (Spliced syntax captures) (x ∷ xs) =
    (x < number) × (IsOf syntax (numbered x rows)) × AreCaptured rows number captures xs
AreCaptured rows number _ xs = ⊥

-- the closure of a tick's specification
pub record IsTick (text : Text) (rows : List Specification) (number : ℕ) (kind : ClosureKind) (syntax : Syntax) (k :
    Closure) : Type 0 where
  pub head : k.head ≡ syntax_head text kind syntax
  pub captured : AreCaptured rows number (captures_of_syntax syntax) k.captured
  pub small : syntax_size text.program syntax ≤ SIZE_LIMIT

-- a closure stands for the specification with a number
abbrev pub StandsFor : Text → List Specification → (number : ℕ) → Specification → Closure → Type 0
StandsFor text rows number (Expression syntax) k = IsTick text rows number closure.Expression syntax k
StandsFor text rows number (Statement syntax) k = IsTick text rows number closure.Statement syntax k
StandsFor text rows number Local k = k ≡ record { head = local_head number; captured = [] }
StandsFor text rows number (Param index) k =
    (index < MOST_ARGUMENTS) × (k ≡ record { head = parameter_head index; captured = [] })

-- closures stand for specifications, by their numbers
pub record AllStandFor (text : Text) (rows : List Specification) (ks : List Closure) : Type 0 where
  pub count : length ks ≡ length rows
  pub each : (n : ℕ) (s : Specification) (k : Closure) → slice_get rows n ≡ Some s → slice_get ks n ≡ Some k →
      StandsFor text rows (suc n) s k

-- The specifications of the meaning stand as closures in memory.
pub record HasSpecifications (text : Text) (shared : Shared) (d : Data) : Type 0 where
  pub closures : List Closure
  pub memory : HasClosures closures d
  pub stand_for : AllStandFor text shared.specifications closures
  pub bytes : shared.closures ≡ bytes_of closures
