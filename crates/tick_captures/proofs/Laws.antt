-- What is found behind more nodes.
use Rattle.std.proofs.Common.{◌≡◌, ℕ, suc, ◌+◌, ◌<◌, nat_eq, Bool, true, false, if◌then◌else◌, List, [], ◌∷◌, ◌++◌}
use Rattle.std.proofs.Common.{length, get_or, drop, map, refl, ap, sym, ◌∙◌, append_assoc, arith}
use Rattle.std.proofs.lemmas.List.{at_drop_more, append-nil, length-append}
use Rattle.typed_tree.specs.declared.expression.Expr.{Expr}
use Rattle.typed_tree.specs.declared.expression.Stmt.{Stmt}
use Rattle.typed_tree.specs.declared.expression.CaptureKind.{CaptureKind}
use Rattle.tick_captures.specs.Captures.{Name, Nothing, Names, row, names, names_of, captures_from}
use Rattle.tick_captures.specs.Found.{one, after, behind}
use Rattle.tick_captures.specs.declared.capture.Capture.{Capture}
use Rattle.tick_captures.specs.declared.walk.Found.{Found}
use Rattle.tick_captures.proofs.Equations.{expressions as expression_equations, statements as statement_equations}

pub after_both : (xs ys : List Name) (f : Found) → after (xs ++ ys) f ≡ after ys (after xs f)
after_both [] ys f = refl
after_both (x ∷ xs) ys f = after_both xs ys (one x f)

pub after_row : (xss : List (List Name)) (f : Found) → after (row xss) f ≡ behind xss f
after_row [] f = refl
after_row (xs ∷ xss) f = after_both xs (row xss) f ∙ after_row xss (after xs f)

pub ruleset expressions = (after_both, after_row, expression_equations)

pub ruleset statements = (after_both, after_row, statement_equations)

-- a function of what is left, one step on
next : {A Y : Type 0} (F : List A → Y) (xs : List A) (i : ℕ) (x : A) → i < length xs → x ≡ get_or xs i x
    → F (drop i xs) ≡ F (x ∷ drop (i + 1) xs)
next F xs i x h is = at_drop_more F xs i x h ∙ ap (λ z. F (z ∷ drop (i + 1) xs)) (sym is)

pub one_more : (xs : List Expr) (i : ℕ) (e : Expr) (f : Found) → i < length xs → e ≡ get_or xs i e
    → behind (map names (drop i xs)) f ≡ behind (map names (drop (i + 1) xs)) (after (names e) f)
one_more xs i e f h is = next (λ ys. behind (map names ys) f) xs i e h is

pub one_statement_more : (xs : List Stmt) (i : ℕ) (s : Stmt) (f : Found) → i < length xs → s ≡ get_or xs i s
    → behind (map names_of (drop i xs)) f ≡ behind (map names_of (drop (i + 1) xs)) (after (names_of s) f)
one_statement_more xs i s f h is = next (λ ys. behind (map names_of ys) f) xs i s h is

-- what is found behind some captures
abbrev found : List Name → Found → List Capture
found names f = f.captures ++ captures_from (length f.captures) f.nodes names

named : (kind : CaptureKind) (i : ℕ) (ns : List Name) (f : Found) (is : Bool) → nat_eq (length f.captures) i ≡ is
    → found ns (one (Names kind i) f) ≡ found (Names kind i ∷ ns) f
named kind i ns f true is =
    let c : Capture = record { kind = kind; node = f.nodes } in
    let a : f.nodes + 1 ≡ suc f.nodes = omega arith in
    let l : length (f.captures ++ c ∷ []) ≡ suc (length f.captures) = length-append f.captures (c ∷ []) ∙ omega arith in
    ap (λ b. (if b then f.captures ++ c ∷ [] else f.captures) ++ captures_from
    (length (if b then f.captures ++ c ∷ [] else f.captures)) (f.nodes + 1) ns) is
    ∙ ap (λ n. (f.captures ++ c ∷ []) ++ captures_from n (f.nodes + 1) ns) l
    ∙ ap (λ n. (f.captures ++ c ∷ []) ++ captures_from (suc (length f.captures)) n ns) a
    ∙ append_assoc f.captures (c ∷ []) (captures_from (suc (length f.captures)) (suc f.nodes) ns)
    ∙ ap (λ b. f.captures ++ (if b then c ∷ captures_from (suc (length f.captures))
    (suc f.nodes) ns else captures_from (length f.captures) (suc f.nodes) ns)) (sym is)
named kind i ns f false is =
    let c : Capture = record { kind = kind; node = f.nodes } in
    let a : f.nodes + 1 ≡ suc f.nodes = omega arith in
    ap (λ b. (if b then f.captures ++ c ∷ [] else f.captures) ++ captures_from
    (length (if b then f.captures ++ c ∷ [] else f.captures)) (f.nodes + 1) ns) is
    ∙ ap (λ n. f.captures ++ captures_from (length f.captures) n ns) a
    ∙ ap (λ b. f.captures ++ (if b then c ∷ captures_from (suc (length f.captures))
    (suc f.nodes) ns else captures_from (length f.captures) (suc f.nodes) ns)) (sym is)

all_found : (ns : List Name) (f : Found) → (after ns f).captures ≡ found ns f
all_found [] f = sym (append-nil f.captures)
all_found (Nothing ∷ ns) f =
    let a : f.nodes + 1 ≡ suc f.nodes = omega arith in
    all_found ns (one Nothing f) ∙ ap (λ n. f.captures ++ captures_from (length f.captures) n ns) a
all_found (Names kind i ∷ ns) f = all_found ns (one (Names kind i) f) ∙ named kind i ns f
    (nat_eq (length f.captures) i) refl

-- a whole body
pub found_are_captures : (ns : List Name) → (after ns (record { nodes = 0; captures = [] })).captures
    ≡ captures_from 0 0 ns
found_are_captures ns = all_found ns (record { nodes = 0; captures = [] })
