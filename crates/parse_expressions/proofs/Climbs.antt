-- The levels from one on are the chains of each, and those without an operator are passed over.
use Rattle.std.proofs.Common.{◌≡◌, ℕ, zero, suc, ◌+◌, ◌-◌, ◌<◌, ◌≤◌, ◌⊎◌, inl, inr, true, false, refl, ap, sym, subst}
use Rattle.std.proofs.Common.{◌∙◌, arith, cond}
use Rattle.std.specs.Prelude.{Ok, Err, Option, Some, None, ◌==◌, ◌&&◌, nat_le, nat_lt, if◌then◌else◌}
use Rattle.std.proofs.lemmas.Bool.{ne_eqb, leb-true, ltb-true, and_parts, and_from, cond-true, cond-false, le-leb}
use Rattle.std.proofs.lemmas.Bool.{lt-ltb, cases_eq, cases_Bool}
use Rattle.tick_tree.specs.declared.base.BinaryOp.{BinaryOp}
use Rattle.tick_tree.specs.declared.syntax.Expr.{Expr}
use Rattle.parse_grammar.specs.declared.kind.Kind.{Kind}
use Rattle.parse_grammar.specs.declared.kind.Kind.TheVariants as k
use Rattle.parse_grammar.specs.Input.{Input, Outcome, Parser, kind, and_then, ◌>>=◌, pure}
use Rattle.parse_grammar.specs.Steps.{Room}
use Rattle.parse_grammar.specs.Expressions.{binary_of, level, looseness, unary}
use Rattle.parse_expressions.specs.Precedence.{operator_of, loosely, chain_at}
use Rattle.parse_expressions.proofs.Steps.{level_stops, level_of, level_none}

-- ---- outcomes

and_pure : {A : Type 0} (o : Outcome A) → and_then o (λ a. pure a) ≡ o
and_pure (Ok (a, i)) = refl
and_pure (Err e) = refl

and_assoc : {A B C : Type 0} (o : Outcome A) (f : A → Parser B) (g : B → Parser C) →
    and_then (and_then o f) g ≡ and_then o (λ a. f a >>= g)
and_assoc (Ok p) f g = refl
and_assoc (Err e) f g = refl

-- ---- the chains of so many levels, from one on

abbrev pub up : ℕ → ℕ → Room → Expr → Parser Expr
up zero n room left = pure left
up (suc m) n room left = chain_at n room left >>= up m (suc n) room

level_up : (m n : ℕ) (room : Room) (i : Input) → level (m + n) room i ≡ and_then (level n room i) (up m n room)
level_up zero n room i =
    let e : 0 + n ≡ n = omega arith in
    ap (λ l. level l room i) e ∙ sym (and_pure (level n room i))
level_up (suc m) n room i =
    let e : suc m + n ≡ m + suc n = omega arith in
    ap (λ l. level l room i) e
    ∙ level_up m (suc n) room i
    ∙ ap (λ o. and_then o (up m (suc n) room)) (level_of n room i)
    ∙ and_assoc (level n room i) (chain_at n room) (up m (suc n) room)

-- ---- which levels have an operator

-- the operator of a level is the operator, where that is its level
abbrev pick : ℕ → Option BinaryOp → Option BinaryOp
pick n None = None
pick n (Some o) = if looseness o == n then Some o else None

picked : (n : ℕ) (kd : Kind) → binary_of n kd ≡ pick n (operator_of kd)
unfolding binary_of operator_of looseness
picked n k.End = refl
picked n k.Name = refl
picked n k.Number = refl
picked n k.Character = refl
picked n k.String = refl
picked n (k.Base w) = refl
picked n k.Cspec = refl
picked n k.Vspec = refl
picked n (k.Word w) = refl
picked n k.Sizeof = refl
picked n k.Compile = refl
picked n k.Local = refl
picked n k.Param = refl
picked n (k.Mark m) = refl
picked n (k.Operator o) = refl
picked n (k.Modify o) = refl
picked n (k.Unary o) = refl
picked n (k.Step o) = refl
picked n k.Backquote = refl

not_picked : (n : ℕ) (o : BinaryOp) → (looseness o ≡ n → ⊥) → pick n (Some o) ≡ None
unfolding looseness
not_picked n o h = ap (λ b. cond b (Some o) None) (ne_eqb (looseness o) n h)

-- an operator, and the levels from `n` on, of which `m` are there
up_none : (m n : ℕ) (room : Room) (left : Expr) (i : Input) →
    ((l : ℕ) → n ≤ l → l < n + m → binary_of l (kind i) ≡ None) → up m n room left i ≡ Ok (left, i)
up_none zero n room left i h = refl
up_none (suc m) n room left i h =
    ap (λ o. and_then o (up m (suc n) room)) (level_stops n room left i (h n (omega arith) (omega arith)))
    ∙ up_none m (suc n) room left i (λ l a b. h l (omega (arith, a)) (omega (arith, b)))

up_some : (m n : ℕ) (o : BinaryOp) (room : Room) (left : Expr) (i : Input) → operator_of (kind i) ≡ Some o →
    n ≤ looseness o → looseness o < n + m
    → up m n room left i ≡ and_then (chain_at (looseness o) room left i)
    (up (n + m - suc (looseness o)) (suc (looseness o)) room)
up_some zero n o room left i h low high = absurd (omega (arith, low, high))
up_some (suc m) n o room left i h low high =
    by-case (λ low-2 high-2. up_some m (suc n) o room left i h low-2 high-2) (cases_eq n (looseness o))
  where
    by-case : (suc n ≤ looseness o → looseness o < suc n + m →
        up m (suc n) room left i ≡ and_then (chain_at (looseness o) room left i)
        (up (suc n + m - suc (looseness o)) (suc (looseness o)) room))
        → (n ≡ looseness o) ⊎ (n ≡ looseness o → ⊥)
        → up (suc m) n room left i ≡ and_then (chain_at (looseness o) room left i)
        (up (n + suc m - suc (looseness o)) (suc (looseness o)) room)
    by-case goes (inl e) =
        let rest : m ≡ n + suc m - suc n = omega arith in
        subst (λ l. up (suc m) n room left i ≡ and_then (chain_at l room left i) (up (n + suc m - suc l) (suc l) room))
        e
        (ap (λ c. and_then (chain_at n room left i) (up c (suc n) room)) rest)
    by-case goes (inr d) =
        let none : binary_of n (kind i) ≡ None = picked n (kind i) ∙ ap (pick n) h ∙ not_picked n o (λ e. d (sym e)) in
        let low-2 : suc n ≤ looseness o = omega (arith, low, d) in
        let high-2 : looseness o < suc n + m = omega (arith, high) in
        let count : suc n + m ≡ n + suc m = omega arith in
        ap (λ q. and_then q (up m (suc n) room)) (level_stops n room left i none)
        ∙ goes low-2 high-2
        ∙ ap (λ c. and_then (chain_at (looseness o) room left i) (up (c - suc (looseness o)) (suc (looseness o)) room))
        count

-- ---- the levels from `least` on, under `end`

abbrev pub climb : ℕ → ℕ → Room → Expr → Parser Expr
climb end least room left = up (end - least) least room left

pub climb_starts : (n : ℕ) (room : Room) (i : Input) → level n room i ≡ and_then (unary room i) (climb n 0 room)
climb_starts n room i =
    let more : n ≡ n + 0 = omega arith in
    let all : n ≡ n - 0 = omega arith in
    ap (λ l. level l room i) more
    ∙ level_up n 0 room i
    ∙ ap (λ o. and_then o (up n 0 room)) (level_none room i)
    ∙ ap (λ m. and_then (unary room i) (up m 0 room)) all

-- the operator that was found
abbrev Loose : ℕ → ℕ → ℕ → Option BinaryOp → Type 0
Loose least end next q = (o : BinaryOp) × (q ≡ Some o) × (next ≡ looseness o) × (least ≤ next) × (next < end)

loosely_found : (least end next : ℕ) (q : Option BinaryOp) → loosely least end q ≡ Some next → Loose least end next q
loosely_found least end next None h = let q : ⊥ = cc in absurd q
loosely_found least end next (Some o) h = by-case (cases_Bool (nat_le least (looseness o) && nat_lt (looseness o) end))
  where
    by-case : ((nat_le least (looseness o) && nat_lt (looseness o) end) ≡ true) ⊎
        ((nat_le least (looseness o) && nat_lt (looseness o) end) ≡ false) → Loose least end next (Some o)
    by-case (inl t) =
        let parts = and_parts (nat_le least (looseness o)) (nat_lt (looseness o) end) t in
        let same : Some (looseness o) ≡ Some next = sym (cond-true _ (Some (looseness o)) None t) ∙ h in
        let e : next ≡ looseness o = cc in (
          o,
          refl,
          e,
          omega (arith, e, leb-true least (looseness o) parts.0),
          omega (arith, e, ltb-true (looseness o) end parts.1),
        )
    by-case (inr f) =
        let same : None ≡ Some next = sym (cond-false _ (Some (looseness o)) None f) ∙ h in
        let q : ⊥ = cc in absurd q

pub climb_goes : (least end next : ℕ) (room : Room) (left : Expr) (i : Input) → least ≤ end →
    loosely least end (operator_of (kind i)) ≡ Some next
    → climb end least room left i ≡ and_then (chain_at next room left i) (climb end (next + 1) room)
climb_goes least end next room left i within h = by-operator (loosely_found least end next (operator_of (kind i)) h)
  where
    by-operator : Loose least end next (operator_of (kind i)) →
        climb end least room left i ≡ and_then (chain_at next room left i) (climb end (next + 1) room)
    by-operator (o, here, e, low, high) =
        let low-2 : least ≤ looseness o = omega (arith, e, low) in
        let high-2 : looseness o < least + (end - least) = omega (arith, e, high, within) in
        let count : least + (end - least) - suc (looseness o) ≡ end - (next + 1) = omega (arith, e, within) in
        let after : suc (looseness o) ≡ next + 1 = omega (arith, e) in
        up_some (end - least) least o room left i here low-2 high-2
        ∙ ap (λ c. and_then (chain_at (looseness o) room left i) (up c (suc (looseness o)) room)) count
        ∙ ap (λ c. and_then (chain_at (looseness o) room left i) (up (end - (next + 1)) c room)) after
        ∙ ap (λ c. and_then (chain_at c room left i) (up (end - (next + 1)) (next + 1) room)) (sym e)

none_of : (least end : ℕ) (q : Option BinaryOp) → loosely least end q ≡ None → (l : ℕ) → least ≤ l → l < end →
    pick l q ≡ None
none_of least end None h l low high = refl
none_of least end (Some o) h l low high = not_picked l o (λ e.
    let t = and_from (nat_le least (looseness o)) (nat_lt (looseness o) end)
    (le-leb least (looseness o) (omega (arith, e, low))) (lt-ltb (looseness o) end (omega (arith, e, high))) in
    let same : Some (looseness o) ≡ None = sym (cond-true _ (Some (looseness o)) None t) ∙ h in
    let q : ⊥ = cc in q)

pub climb_stops : (least end : ℕ) (room : Room) (left : Expr) (i : Input) → least ≤ end →
    loosely least end (operator_of (kind i)) ≡ None → climb end least room left i ≡ Ok (left, i)
climb_stops least end room left i within h =
    up_none (end - least) least room left i
    (λ l low high. picked l (kind i) ∙ none_of least end (operator_of (kind i)) h l low (omega (arith, high, within)))

pub ruleset climb_steps = (climb_starts, climb_goes, climb_stops)
