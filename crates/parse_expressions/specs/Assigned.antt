-- An assignment, with an operator or without one.
use Rattle.std.specs.Prelude.{ℕ, Option, Some, None}
use Rattle.tick_tree.specs.declared.base.ModifyOp.{ModifyOp}
use Rattle.tick_tree.specs.declared.syntax.Expr.{Expr}
use Rattle.tick_tree.specs.declared.syntax.Expr.TheVariants as e
use Rattle.parse_grammar.specs.Input.{Parser, ◌>>=◌, ◌<$>◌, at_line}
use Rattle.parse_grammar.specs.Steps.{Room, within}

abbrev pub assignment : Option ModifyOp → ℕ → Expr × Expr → Expr
assignment None n pair = e.Assign n pair
assignment (Some o) n pair = e.Modify n o pair

-- at the sign of an assignment
abbrev pub assigned_by : Room → Expr → Option ModifyOp → Parser Expr
assigned_by room left op = at_line >>= (λ n. within room (λ r. (λ x. assignment op n (left, x)) <$> r.assign))
