use Rattle.std.proofs.Common.{◌≡◌, ◌+◌, ◌*◌, max}
use Rattle.typed_tree.specs.declared.expression.Expr.{size-Expr}
use Rattle.tick_lower.specs.Viewed.{addresses_view}
use Rattle.lowering_pieces.specs.Steps.{walk_args}
use Rattle.lowering_pieces.proofs.Lists.{args_left}
use Rattle.tick_lower.proofs.expressions.+expression.Given as goal

-- each function takes the parts of a value, or passes a value on to one of a lower rank
abbrev pub decreases-expression : goal.decreases-expression
decreases-expression l = 3 * size-Expr l.e.now

abbrev pub decreases-then : goal.decreases-then
decreases-then l = 3 * size-Expr l.e.now + 1

abbrev pub decreases-effect : goal.decreases-effect
decreases-effect l = 3 * size-Expr l.e.now + 1

abbrev pub decreases-way : goal.decreases-way
decreases-way l = 3 * size-Expr l.e.now + 1

abbrev pub decreases-set_key : goal.decreases-set_key
decreases-set_key l = 3 * size-Expr l.a.now + 1

abbrev pub decreases-post : goal.decreases-post
decreases-post l = 3 * size-Expr l.a.now + 1

abbrev pub decreases-library : goal.decreases-library
decreases-library l = 3 * size-Expr l.a.now + 1

abbrev pub decreases-capture : goal.decreases-capture
decreases-capture l = 3 * size-Expr l.a.now + 1

abbrev pub decreases-operands : goal.decreases-operands
decreases-operands l = 3 * (max (size-Expr l.a.now) (size-Expr l.b.now)) + 2

abbrev pub decreases-modify : goal.decreases-modify
decreases-modify l = 3 * (max (size-Expr l.a.now) (size-Expr l.b.now)) + 2

abbrev pub decreases-both : goal.decreases-both
decreases-both l = 3 * (max (size-Expr l.a.now) (size-Expr l.b.now)) + 2

abbrev pub decreases-either : goal.decreases-either
decreases-either l = 3 * (max (size-Expr l.a.now) (size-Expr l.b.now)) + 2

abbrev pub decreases-comma : goal.decreases-comma
decreases-comma l = 3 * (max (size-Expr l.a.now) (size-Expr l.b.now)) + 2

abbrev pub decreases-choice : goal.decreases-choice
decreases-choice l =
    3 * (max (size-Expr l.test.now) (max (size-Expr l.a.now) (size-Expr l.b.now))) + 2

abbrev pub decreases-expressions : goal.decreases-expressions
decreases-expressions l = 3 * goal.size-expressions l + 1

abbrev pub decreases-specified : goal.decreases-specified
decreases-specified l = 3 * goal.size-specified l + 2

abbrev pub decreases-call : goal.decreases-call
decreases-call l = 3 * goal.size-call l + 2

abbrev pub decreases-call_number : goal.decreases-call_number
decreases-call_number l =
    3 * (max (size-Expr l.a.now)
    (goal.size-expressions
    (record { the-lifetimes = l.the-lifetimes.1; list = l.args; addresses = l.addresses; out = l.out }))) + 2

abbrev pub invariant-expressions-loop-e : goal.invariant-expressions-loop-e
invariant-expressions-loop-e l =
    walk_args (addresses_view l.addresses) (args_left l.e-index l.list) l.out
    ≡ walk_args (addresses_view l.addresses) (args_left 0 l.list) l.fn.out
