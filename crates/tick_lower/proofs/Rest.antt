-- What a walk over statements has still before it.
use Rattle.std.proofs.Common.{◌≡◌, ℕ, ◌+◌, ◌<◌, ◌≤◌, List, length, map, drop, get_or, sym, ap, ◌∙◌, add-one}
use Rattle.std.proofs.Math.Seq.{drop-cons}
use Rattle.std.proofs.lemmas.List.{drop_all}
use Rattle.typed_tree.specs.declared.expression.Stmt.{Stmt}
use Rattle.typed_tree.specs.Nodes as node
use Rattle.typed_tree.specs.View.{stmt_view, items_of}

-- the view of the statements from this one on
abbrev pub rest : ℕ → List Stmt → node.Items
rest i ss = items_of (map stmt_view (drop i ss))

pub one_more : (i : ℕ) (ss : List Stmt) (s : Stmt) → i < length ss → s ≡ get_or ss i s →
    rest i ss ≡ node.Item (stmt_view s) (rest (i + 1) ss)
one_more i ss s h at =
    ap (λ xs. items_of (map stmt_view xs)) (drop-cons ss i s h)
    ∙ ap (λ j. node.Item (stmt_view (get_or ss i s)) (rest j ss)) (sym (add-one i))
    ∙ ap (λ x. node.Item (stmt_view x) (rest (i + 1) ss)) (sym at)

pub at_end : (i : ℕ) (ss : List Stmt) → length ss ≤ i → rest i ss ≡ node.NoItem
at_end i ss h = ap (λ xs. items_of (map stmt_view xs)) (drop_all i ss h)
