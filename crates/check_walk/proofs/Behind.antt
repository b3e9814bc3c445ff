-- The walk over the items of a block, where the nodes of each come right behind those so far; and that of a body that
-- is a block.
use Rattle.std.proofs.Common.{◌≡◌, ℕ, ◌+◌, ◌<◌, List, ◌∷◌, ◌++◌, length, get_or, drop, refl, ap, sym, ◌∙◌}
use Rattle.std.proofs.Common.{append_assoc, Ok, Err}
use Rattle.std.proofs.lemmas.List.{at_drop_more}
use Rattle.tick_tree.specs.declared.fault.Fault.{Fault}
use Rattle.tick_tree.specs.declared.syntax.Stmt.{Stmt}
use Rattle.tick_tree.specs.declared.syntax.Stmt.TheVariants as st
use Rattle.tick_tree.specs.Faults.{Checked, ◌>>=◌ as ◌>>>=◌}
use Rattle.typed_tree.specs.declared.expression.Stmt.{Stmt as Act}
use Rattle.check_rules.specs.declared.state.Around.{Around}
use Rattle.check_rules.specs.declared.state.State.{State}
use Rattle.check_rules.specs.StatementRules.{body}
use Rattle.check_rules.specs.Statements as statements
use Rattle.check_rules.specs.Walk as walks
use Rattle.check_laws.proofs.Equations.{item_block}
use Rattle.check_laws.proofs.Loops.{after}
use Rattle.check_walk.specs.Kinds.{item_behind}

-- an answer with its nodes behind these
abbrev behind : List Act → List Act × State → Checked (List Act × State)
behind xs p = Ok (xs ++ p.0, p.1)

abbrev one_node : Act × State → Checked (List Act × State)
one_node p = Ok (statements.one p.0, p.1)

abbrev body_node : List Act × State → Checked (Act × State)
body_node p = Ok (statements.body p.0, p.1)

-- nodes behind these, and all of them behind some: so do both
behind_all : (xs ys : List Act) (r : Checked (List Act × State)) →
    after xs (r >>>= behind ys) ≡ after (xs ++ ys) r
behind_all xs ys (Ok q) = ap (λ z. Ok (z, q.1)) (sym (append_assoc xs ys q.0))
behind_all xs ys (Err e) = refl

-- an answer, and what comes after it
behind_both : (xs : List Act) (r : Checked (List Act × State)) (f : State → Checked (List Act × State)) →
    after xs (r >>>= (λ p. f p.1 >>>= behind p.0)) ≡ ((r >>>= behind xs) >>>= (λ p. after p.0 (f p.1)))
behind_both xs (Ok p) f = behind_all xs p.0 (f p.1)
behind_both xs (Err e) f = refl

-- one item more
turn : (xs : List Stmt) (i : ℕ) (e : Stmt) (found : List Act) (a : Around) (s : State) →
    i < length xs → e ≡ get_or xs i e
    → after found (walks.items (drop i xs) a s) ≡
    (item_behind found (walks.item e) a s >>>= (λ p. after p.0 (walks.items (drop (i + 1) xs) a p.1)))
turn xs i e found a s h is =
    at_drop_more (λ es. after found (walks.items es a s)) xs i e h ∙
    ap (λ z. after found (walks.items (z ∷ drop (i + 1) xs) a s)) (sym is) ∙
    behind_both found ((walks.item e).walk a s) (λ z. walks.items (drop (i + 1) xs) a z)

pub behind_more : (xs : List Stmt) (i : ℕ) (e : Stmt) (found all : List Act) (a : Around) (s z : State) →
    i < length xs → e ≡ get_or xs i e
    → item_behind found (walks.item e) a s ≡ Ok (all, z)
    → after found (walks.items (drop i xs) a s) ≡ after all (walks.items (drop (i + 1) xs) a z)
behind_more xs i e found all a s z h is was =
    turn xs i e found a s h is ∙ ap (λ r. r >>>= (λ p. after p.0 (walks.items (drop (i + 1) xs) a p.1))) was

pub behind_fails : (xs : List Stmt) (i : ℕ) (e : Stmt) (found : List Act) (a : Around) (s : State) (f : Fault) →
    i < length xs → e ≡ get_or xs i e
    → item_behind found (walks.item e) a s ≡ Err f → after found (walks.items (drop i xs) a s) ≡ Err f
behind_fails xs i e found a s f h is was =
    turn xs i e found a s h is ∙ ap (λ r. r >>>= (λ p. after p.0 (walks.items (drop (i + 1) xs) a p.1))) was

-- the body that is a list of one node is that node
sole : (r : Checked (Act × State)) →
    ((r >>>= one_node) >>>= body_node) ≡ r
sole (Ok p) = refl
sole (Err e) = refl

-- a body that is a block is the node of that
pub body_block : (list : List Stmt) (a : Around) (s : State) →
    body (walks.item (st.Block list)) a s ≡ walks.block list (statements.inside a) s
body_block list a s =
    ap (λ r. r >>>= body_node) (item_block list a s) ∙
    sole (walks.block list (statements.inside a) s)
