-- How often the body of a tick splices what it captured, and names a variable. These are this project's own rules: each
-- place at which a specification is spliced in has a capture of its own, so a specification's size counts all that its
-- code has.
use Rattle.std.specs.Prelude.{◌≡◌, ℕ, ◌+◌, ◌≤◌, ◌==◌, if◌then◌else◌, List, slice_get, Some}
use Rattle.typed_tree.specs.declared.expression.Answer.{Answer}
use Rattle.typed_tree.specs.declared.expression.CaptureKind.{CaptureKind}
use Rattle.typed_tree.specs.declared.expression.CaptureKind.TheVariants as kind
use Rattle.typed_tree.specs.declared.expression.Expr.TheOpen.{Expr-F}
use Rattle.typed_tree.specs.Folds.{Rules, total}
use Rattle.typed_tree.specs.Measures.{together, all_together}
use Rattle.typed_tree.specs.Nodes as node
use Rattle.typed_tree.specs.Nodes.{Expr, Args, Stmt, Items, fold_expr, fold_args, fold_stmt, fold_items}

-- the splices of the capture i
abbrev pub splice_rule : ℕ → Expr-F ℕ → ℕ
splice_rule i (Expr-F.Splice r j) = if i == j then 1 else 0
splice_rule i node = together node

abbrev pub splice_rules : ℕ → Rules ℕ ℕ
splice_rules i = record { expr = splice_rule i; stmt = all_together }

abbrev pub splices_in : ℕ → Expr → ℕ
splices_in i = fold_expr (splice_rule i)

abbrev pub splices_in_args : ℕ → Args → ℕ
splices_in_args i args = total (fold_args (splice_rule i) args)

abbrev pub splices_of : ℕ → Stmt → ℕ
splices_of i = fold_stmt (splice_rules i)

abbrev pub splices_of_items : ℕ → Items → ℕ
splices_of_items i items = total (fold_items (splice_rules i) items)

abbrev pub splices_of_body : ℕ → node.TickBody → ℕ
splices_of_body i (node.Expression e) = splices_in i e
splices_of_body i (node.Statement s) = splices_of i s

-- no tick splices one of its captures twice
abbrev pub SpliceOnce : node.Program → Type 0
SpliceOnce p = (n : ℕ) (t : node.TickBody) → slice_get p.ticks n ≡ Some t → (i : ℕ) → splices_of_body i t ≤ 1

-- the nodes that name the variable i: it is read, set, or counted up or down
abbrev pub mention_rule : ℕ → Expr-F ℕ → ℕ
mention_rule i (Expr-F.VGet j) = if i == j then 1 else 0
mention_rule i (Expr-F.VSet j a) = (if i == j then 1 else 0) + a
mention_rule i (Expr-F.VPost j step) = if i == j then 1 else 0
mention_rule i node = together node

abbrev pub mention_rules : ℕ → Rules ℕ ℕ
mention_rules i = record { expr = mention_rule i; stmt = all_together }

abbrev pub mentions_in : ℕ → Expr → ℕ
mentions_in i = fold_expr (mention_rule i)

abbrev pub mentions_in_args : ℕ → Args → ℕ
mentions_in_args i args = total (fold_args (mention_rule i) args)

abbrev pub mentions_of : ℕ → Stmt → ℕ
mentions_of i = fold_stmt (mention_rules i)

abbrev pub mentions_of_items : ℕ → Items → ℕ
mentions_of_items i items = total (fold_items (mention_rules i) items)

abbrev pub mentions_of_body : ℕ → node.TickBody → ℕ
mentions_of_body i (node.Expression e) = mentions_in i e
mentions_of_body i (node.Statement s) = mentions_of i s

-- a tick splices each specification that it captures, and names each variable
pub record AreNamed (t : node.TickBody) (kinds : List CaptureKind) : Type 0 where
  pub splices : (i : ℕ) (answer : Answer) → slice_get kinds i ≡ Some (kind.Splice answer) → 1 ≤ splices_of_body i t
  pub variables : (i : ℕ) → slice_get kinds i ≡ Some kind.Variable → 1 ≤ mentions_of_body i t
