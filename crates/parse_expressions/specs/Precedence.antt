-- The operator that a token is between operands, and its level of precedence where it is one of some levels.
use Rattle.std.specs.Prelude.{ℕ, ◌&&◌, if◌then◌else◌, nat_le, nat_lt, Option, Some, None}
use Rattle.tick_tree.specs.declared.base.BinaryOp.{BinaryOp}
use Rattle.parse_grammar.specs.declared.kind.Kind.{Kind}
use Rattle.parse_grammar.specs.declared.kind.Kind.TheVariants as k
use Rattle.tick_tree.specs.declared.syntax.Expr.{Expr}
use Rattle.parse_grammar.specs.Expressions.{looseness, binary_of, binary_step, level}
use Rattle.parse_grammar.specs.Input.{Parser}
use Rattle.parse_grammar.specs.Steps.{Room, chain}

unfoldable pub operator_of : Kind → Option BinaryOp
operator_of (k.Operator o) = Some o
operator_of _ = None

-- the looseness of an operator, where it is at least `least` and under `end`
abbrev pub loosely : ℕ → ℕ → Option BinaryOp → Option ℕ
loosely least end None = None
loosely least end (Some o) = if nat_le least (looseness o) && nat_lt (looseness o) end then Some (looseness o) else None

-- the operators of one level, behind their first operand
abbrev pub chain_at : ℕ → Room → Expr → Parser Expr
chain_at n room left = chain (binary_of n) (binary_step (level n)) room left
