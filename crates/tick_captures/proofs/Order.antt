-- Where captures are numbered in the order of the text, each is found at the first node that names it, and none is left
-- out.
use Rattle.std.proofs.Common.{◌≡◌, ℕ, zero, suc, ◌+◌, ◌<◌, nat_eq, true, false, if◌then◌else◌, List, [], ◌∷◌, slice_get}
use Rattle.std.proofs.Common.{Option, Some, None, refl, ap, sym, ◌∙◌, ◌⊎◌, inl, inr, arith}
use Rattle.typed_tree.specs.declared.expression.Expr.{Expr}
use Rattle.typed_tree.specs.declared.expression.Stmt.{Stmt}
use Rattle.typed_tree.specs.declared.expression.CaptureKind.{CaptureKind}
use Rattle.typed_tree.specs.Nodes as node
use Rattle.typed_tree.specs.View.{expr_view, stmt_view}
use Rattle.typed_tree.proofs.Fusion.{fusion, statement_fusion}
use Rattle.tick_captures.specs.Captures.{Name, Nothing, Names, names, names_of, expr_rule, rules, captures_from}
use Rattle.tick_captures.specs.declared.capture.Capture.{Capture}

-- what the nodes name is the same of the tree that has a meaning
pub names_viewed : (e : Expr) → names e ≡ node.fold_expr expr_rule (expr_view e)
unfolding names
names_viewed = fusion expr_rule

pub names_of_viewed : (s : Stmt) → names_of s ≡ node.fold_stmt rules (stmt_view s)
unfolding names names_of
names_of_viewed = statement_fusion rules

-- nodes that name captures in the order of their numbers: each names one of those before, or the next
abbrev pub InOrder : (before : ℕ) → List Name → Type 0
InOrder n [] = Unit {0}
InOrder n (Nothing ∷ names) = InOrder n names
InOrder n (Names kind i ∷ names) = ((i < n) × InOrder n names) ⊎ ((i ≡ n) × InOrder (suc n) names)

-- the first node that names a capture, where the row begins with the node of a number
abbrev pub first_of : (capture node : ℕ) → List Name → Option Capture
first_of capture node [] = None
first_of capture node (Nothing ∷ names) = first_of capture (suc node) names
first_of capture node (Names kind i ∷ names) =
    if nat_eq capture i then Some (record { kind = kind; node = node }) else first_of capture (suc node) names

at_next : (n node j i : ℕ) (kind : CaptureKind) (names : List Name) (is : j ≡ n)
    → ((i : ℕ) → slice_get (captures_from (suc n) (suc node) names) i ≡ first_of (suc n + i) (suc node) names)
    → slice_get (captures_from n node (Names kind j ∷ names)) i ≡ first_of (n + i) node (Names kind j ∷ names)
at_next n node j zero kind names is rest =
    let c : Capture = record { kind = kind; node = node } in
    let here : nat_eq n j ≡ true = grind (arith, is) in
    let there : nat_eq (n + 0) j ≡ true = grind (arith, is) in
    ap (λ b. slice_get (if b then c ∷ captures_from (suc n) (suc node) names else captures_from n
    (suc node) names) 0) here
    ∙ ap (λ b. if b then Some c else first_of (n + 0) (suc node) names) (sym there)
at_next n node j (suc i) kind names is rest =
    let c : Capture = record { kind = kind; node = node } in
    let here : nat_eq n j ≡ true = grind (arith, is) in
    let there : nat_eq (n + suc i) j ≡ false = grind (arith, is) in
    let e : suc n + i ≡ n + suc i = omega arith in
    ap (λ b. slice_get (if b then c ∷ captures_from (suc n) (suc node) names else captures_from n (suc node) names)
    (suc i)) here
    ∙ rest i
    ∙ ap (λ m. first_of m (suc node) names) e
    ∙ ap (λ b. if b then Some c else first_of (n + suc i) (suc node) names) (sym there)

at_known : (n node j i : ℕ) (kind : CaptureKind) (names : List Name) (below : j < n)
    → slice_get (captures_from n (suc node) names) i ≡ first_of (n + i) (suc node) names
    → slice_get (captures_from n node (Names kind j ∷ names)) i ≡ first_of (n + i) node (Names kind j ∷ names)
at_known n node j i kind names below rest =
    let c : Capture = record { kind = kind; node = node } in
    let here : nat_eq n j ≡ false = grind (arith, below) in
    let there : nat_eq (n + i) j ≡ false = grind (arith, below) in
    ap (λ b. slice_get (if b then c ∷ captures_from (suc n) (suc node) names else captures_from n
    (suc node) names) i) here
    ∙ rest
    ∙ ap (λ b. if b then Some c else first_of (n + i) (suc node) names) (sym there)

-- then the list has of each capture the first node that names it, and of a number behind its end there is none
pub captures_are_first : (names : List Name) (n node i : ℕ) → InOrder n names
    → slice_get (captures_from n node names) i ≡ first_of (n + i) node names
captures_are_first [] n node i h = refl
captures_are_first (Nothing ∷ names) n node i h = captures_are_first names n (suc node) i h
captures_are_first (Names kind j ∷ names) n node i (inl h) =
    at_known n node j i kind names h.0 (captures_are_first names n (suc node) i h.1)
captures_are_first (Names kind j ∷ names) n node i (inr h) =
    at_next n node j i kind names h.0 (λ i. captures_are_first names (suc n) (suc node) i h.1)
