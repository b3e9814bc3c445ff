-- The value of a constant: of a number, or of operators on constants. It is the value that a run would have, and a
-- constant whose division would trap in a run has none. Every other node is no constant.
use Rattle.std.specs.Prelude.{ℕ, Option, Some, None}
use Rattle.icode_ops.specs.declared.kind.BinKind.{BinKind}
use Rattle.icode_ops.specs.declared.kind.UnKind.{UnKind}
use Rattle.meaning_state.specs.Operators.{un_value}
use Rattle.meaning_operators.specs.Values.{binary}
use Rattle.typed_tree.specs.declared.expression.Expr.{Expr}
use Rattle.typed_tree.specs.declared.expression.Expr.TheOpen.{Expr-F}
use Rattle.typed_tree.specs.declared.expression.Expr.TheFolds.{fold-Expr}

-- an operator on two constants
abbrev pub on_both : BinKind → Option ℕ → Option ℕ → Option ℕ
on_both k (Some a) (Some b) = binary k a b
on_both k _ _ = None

-- an operator on one constant
abbrev pub on_one : UnKind → Option ℕ → Option ℕ
on_one k None = None
on_one k (Some a) = Some (un_value k a)

-- the value of a node, by those of its parts
abbrev pub constant_rule : Expr-F (Option ℕ) → Option ℕ
constant_rule (Expr-F.Const w) = Some w
constant_rule (Expr-F.Bin k a b) = on_both k a b
constant_rule (Expr-F.Un k a) = on_one k a
constant_rule _ = None

-- the value of an expression that is constant
unfoldable pub constant : Expr → Option ℕ
constant = fold-Expr (Option ℕ) constant_rule
