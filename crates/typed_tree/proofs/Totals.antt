-- Numbers together: `total`, by which rules are written, and `sum`, which contracts name, are the same; and what one
-- part more adds to a sum.
use Rattle.std.proofs.Common.{◌≡◌, ℕ, ◌+◌, ◌<◌, List, [], ◌∷◌, sum, length, take, get_or, ap, sym, ◌∙◌, refl}
use Rattle.std.proofs.lemmas.List.Sums.{sum-map, sum_by-cons, sum_by_more}
use Rattle.typed_tree.specs.declared.expression.Expr.{Expr}
use Rattle.typed_tree.specs.declared.expression.Stmt.{Stmt}
use Rattle.typed_tree.specs.Folds.{total}
use Rattle.typed_tree.specs.Sizes.{size, size_list, statement_size, statements_size}

pub total_is_sum : (ns : List ℕ) → total ns ≡ sum ns
total_is_sum [] = refl
total_is_sum (n ∷ ns) = ap (λ m. n + m) (total_is_sum ns) ∙ sym (sum_by-cons (λ x. x) n ns)

-- the nodes of one expression more
pub one_more : (i : ℕ) (es : List Expr) (e : Expr) → i < length es → e ≡ get_or es i e →
    size_list (take (i + 1) es) ≡ size_list (take i es) + size e
one_more i es e h at =
    sum-map size (take (i + 1) es) ∙ sum_by_more size es i e h
    ∙ ap (λ n. n + size (get_or es i e)) (sym (sum-map size (take i es)))
    ∙ ap (λ x. size_list (take i es) + size x) (sym at)

-- the nodes of one statement more
pub one_statement_more : (i : ℕ) (ss : List Stmt) (s : Stmt) → i < length ss → s ≡ get_or ss i s →
    statements_size (take (i + 1) ss) ≡ statements_size (take i ss) + statement_size s
one_statement_more i ss s h at =
    sum-map statement_size (take (i + 1) ss) ∙ sum_by_more statement_size ss i s h
    ∙ ap (λ n. n + statement_size (get_or ss i s)) (sym (sum-map statement_size (take i ss)))
    ∙ ap (λ x. statements_size (take i ss) + statement_size x) (sym at)
