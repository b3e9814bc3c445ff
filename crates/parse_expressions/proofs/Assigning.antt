-- What an assignment reads, by its sign.
use Rattle.std.proofs.Common.{◌≡◌, ℕ}
use Rattle.std.specs.Prelude.{Ok, Option, Some, None}
use Rattle.tick_tree.specs.declared.base.ModifyOp.{ModifyOp}
use Rattle.tick_tree.specs.declared.syntax.Expr.{Expr}
use Rattle.tick_tree.specs.declared.syntax.Expr.TheVariants as e
use Rattle.parse_grammar.specs.Input.{Input, pure}
use Rattle.parse_expressions.specs.Assigned.{assignment}

pub alone : (o : Option ModifyOp) (n m : ℕ) (p q : Expr × Expr) (i : Input) → o ≡ None → m ≡ n → q ≡ p →
    pure (assignment o n p) i ≡ Ok (e.Assign m q, i)
alone o n m p q i h hn hp = cc

pub joined : (o : Option ModifyOp) (op : ModifyOp) (n m : ℕ) (p q : Expr × Expr) (i : Input) → o ≡ Some op → m ≡ n
    → q ≡ p → pure (assignment o n p) i ≡ Ok (e.Modify m op q, i)
joined o op n m p q i h hn hp = cc
