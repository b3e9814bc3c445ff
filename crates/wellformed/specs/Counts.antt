-- How often a thing stands in the body of a function or tick: the frame objects that a byte belongs to, and the
-- declarations that a register variable has. These are this project's own rules.
use Rattle.std.specs.Prelude.{ℕ, ◌+◌, ◌*◌, ◌==◌, Bool, ◌&&◌, nat_lt, nat_le, if◌then◌else◌, sum}
use Rattle.typed_tree.specs.declared.expression.Stmt.{Stmt}
use Rattle.typed_tree.specs.declared.expression.Expr.TheOpen.{Expr-F}
use Rattle.typed_tree.specs.Folds.{Parts, Rules, fold_statement}
use Rattle.typed_tree.specs.Folds as parts

abbrev pub one_if : Bool → ℕ
one_if b = if b then 1 else 0

-- whether this byte of the frame belongs to the object at this place, of so many words
abbrev pub is_in : ℕ → ℕ → ℕ → Bool
is_in byte off words = nat_le off byte && nat_lt byte (off + 4 * words)

-- an expression counts nothing
abbrev pub nothing : Expr-F (Unit {0}) → Unit {0}
nothing e = tt

abbrev pub object_rule : ℕ → Parts (Unit {0}) ℕ → ℕ
object_rule byte (parts.Object off words) = one_if (is_in byte off words)
object_rule byte (parts.ParameterObject k w off) = one_if (is_in byte off 1)
object_rule byte (parts.Block vs ss) = sum vs + sum ss
object_rule byte (parts.If c s) = s
object_rule byte (parts.IfElse c s t) = s + t
object_rule byte (parts.While c s) = s
object_rule byte (parts.Do s c) = s
object_rule byte (parts.For c s) = s
object_rule byte (parts.ForStep c step s) = s
object_rule byte (parts.Switch e vs ss) = sum vs + sum ss
object_rule byte _ = 0

abbrev pub object_rules : ℕ → Rules (Unit {0}) ℕ
object_rules byte = record { expr = nothing; stmt = object_rule byte }

-- how many frame objects of a body this byte belongs to
unfoldable pub objects_at : ℕ → Stmt → ℕ
objects_at byte = fold_statement (object_rules byte)

abbrev pub declaration_rule : ℕ → Parts (Unit {0}) ℕ → ℕ
declaration_rule i (parts.Variable n) = one_if (i == n)
declaration_rule i (parts.Parameter n w) = one_if (i == n)
declaration_rule i (parts.Block vs ss) = sum vs + sum ss
declaration_rule i (parts.If c s) = s
declaration_rule i (parts.IfElse c s t) = s + t
declaration_rule i (parts.While c s) = s
declaration_rule i (parts.Do s c) = s
declaration_rule i (parts.For c s) = s
declaration_rule i (parts.ForStep c step s) = s
declaration_rule i (parts.Switch e vs ss) = sum vs + sum ss
declaration_rule i _ = 0

abbrev pub declaration_rules : ℕ → Rules (Unit {0}) ℕ
declaration_rules i = record { expr = nothing; stmt = declaration_rule i }

-- how many declarations the register variable of this number has in a body
unfoldable pub declarations_of : ℕ → Stmt → ℕ
declarations_of i = fold_statement (declaration_rules i)
