-- Levels, lists and chains spell what they read, where their parts do.
use Rattle.std.proofs.Common.{◌≡◌, ℕ, zero, suc, Bool, true, false, cond, List, [], ◌∷◌, ◌++◌, map, refl, ap, sym, ◌∙◌}
use Rattle.std.proofs.Common.{append_assoc, append-nil}
use Rattle.std.specs.Prelude.{if◌then◌else◌, Option, Some, None, length}
use Rattle.tick_tree.specs.declared.syntax.Expr.{Expr}
use Rattle.tick_tree.specs.declared.syntax.OptionalExpr.{OptionalExpr}
use Rattle.tick_tree.specs.declared.syntax.OptionalExpr.TheVariants as maybe
use Rattle.parse_grammar.specs.declared.kind.Kind.{Kind}
use Rattle.parse_grammar.specs.declared.kind.Mark.{Mark}
use Rattle.parse_grammar.specs.declared.kind.Mark.TheVariants as m
use Rattle.parse_grammar.specs.declared.grammar.Mode.{Mode}
use Rattle.parse_grammar.specs.Input.{Input, Parser, ◌>>=◌, ◌>>◌, pure, expect, kind, line, next, sees}
use Rattle.parse_grammar.specs.Steps.{Inner, Room, descend, enter, enter_paren, optional, following_from, separated}
use Rattle.parse_grammar.specs.Steps.{closed_from, closed, many_from, many, chain, chain_by, ends_by}
use Rattle.parse_spelling.specs.Words.{words}
use Rattle.parse_spelling.specs.Spelling.{Spelling, mark, in_turn, behind_commas, with_commas, spells_expr}
use Rattle.parse_spelling.specs.Spelling.{spells_optional, spells_stmt, spells_declarator}
use Rattle.parse_spelling.proofs.Nodes.{at_optional_absent, at_optional_present}
use Rattle.parse_spelling.proofs.Gives.{Gives, given, refused, after, choose, guard, weaken, Says, taken_mark}
use Rattle.parse_spelling.proofs.Gives.{expect_says}

-- ---- levels

pub record InnerSays (r : Inner) : Type 0 where
  pub expr : Says spells_expr r.expr
  pub assign : Says spells_expr r.assign
  pub cond : Says spells_expr r.cond
  pub unary : Says spells_expr r.unary
  pub stmt : Says spells_stmt r.stmt
  pub declarator : (mode : Mode) → Says spells_declarator (r.declarator mode)

abbrev pub RoomSays : Room → Type 0
RoomSays [] = Unit {0}
RoomSays (r ∷ rs) = InnerSays r × RoomSays rs

pub record Deeper (p : Inner × Room) (i j : Input) : Type 0 where
  pub behind : j ≡ i
  pub inner : InnerSays p.0
  pub rest : RoomSays p.1

pub descend_says : (room : Room) → RoomSays room → (i : Input) → Gives (descend room i) (λ p j. Deeper p i j)
unfolding descend
descend_says [] ok i = refused _ _
descend_says (r ∷ rs) ok i = given _ _ _ (record { behind = refl; inner = ok.0; rest = ok.1 })

pub enter_says : (room : Room) → RoomSays room → (i : Input) → Gives (enter room i) (λ p j. Deeper p (next i) j)
unfolding enter
enter_says room ok i = after _ _ _ _ (descend_says room ok i)
    (λ p j h. given _ _ _ (record { behind = ap next h.behind; inner = h.inner; rest = h.rest }))

-- behind an open parenthesis
pub record InParens (p : Inner × Room) (i j : Input) : Type 0 where
  pub says : words i ≡ mark m.ParenOpen (words j)
  pub inner : InnerSays p.0
  pub rest : RoomSays p.1

pub enter_paren_says : (room : Room) → RoomSays room → (i : Input) → Gives (enter_paren room i) (λ p j. InParens p i j)
unfolding enter_paren
enter_paren_says room ok i =
    guard (sees m.ParenOpen i) _ _ _
    (λ c. weaken _ _ _ (enter_says room ok i)
    (λ p j h. record {
      says = taken_mark m.ParenOpen i c ∙ ap (λ l. mark m.ParenOpen (words l)) (sym h.behind);
      inner =
          h.inner;
      rest = h.rest;
    }))

-- ---- optional expressions

abbrev if_absent : Mark → Parser Expr → Bool → Parser OptionalExpr
if_absent x p b = if b then pure maybe.Absent else (do a ← p; expect x; pure (maybe.Present a))

optional_by : (x : Mark) (p : Parser Expr) → Says spells_expr p → (i : Input) (b : Bool) → sees x i ≡ b →
    Gives ((if_absent x p b) (cond b (next i) i)) (λ a j. words i ≡ spells_optional a (mark x (words j)))
optional_by x p ok i true h =
    given _ _ _ (let e = at_optional_absent (mark x (words (next i))) in let t = taken_mark x i h in cc)
optional_by x p ok i false h =
    after (p i) _ _ _ (ok i) (λ a j g. after _ _ _ _ (expect_says x j)
    (λ u l q. given _ _ _ (let e = at_optional_present a (mark x (words l)) in cc)))

pub optional_says : (x : Mark) (p : Parser Expr) → Says spells_expr p → (i : Input) →
    Gives (optional x p i) (λ a j. words i ≡ spells_optional a (mark x (words j)))
optional_says x p ok i = optional_by x p ok i (sees x i) refl

-- ---- lists

-- xs is what was found and more, and more is spelled by the tokens between
pub record More {A : Type 0} (spelled : List A → Spelling) (found xs : List A) (i j : Input) : Type 0 where
  pub more : List A
  pub all : xs ≡ found ++ more
  pub says : words i ≡ spelled more (words j)

abbrev pub commas : {A : Type 0} → (A → Spelling) → List A → Spelling
commas f xs = behind_commas (map f xs)

abbrev pub turns : {A : Type 0} → (A → Spelling) → List A → Spelling
turns f xs = in_turn (map f xs)

abbrev pub turns_closed : {A : Type 0} → (A → Spelling) → List A → Spelling
turns_closed f xs w = in_turn (map f xs) (mark m.BraceClose w)

pub following_says : {A : Type 0} (item : Parser A) (f : A → Spelling) → Says f item →
    (n : ℕ) (found : List A) (i : Input) → Gives (following_from item n found i) (λ xs j. More (commas f) found xs i j)
unfolding following_from
following_says item f ok zero found i = given _ _ _ (record { more = []; all = sym (append-nil found); says = refl })
following_says item f ok (suc n) found i = choose (sees m.Comma i) _ _ _
    (λ c. after (item (next i)) _ _ _ (ok (next i))
    (λ x j h. weaken _ _ _ (following_says item f ok n (found ++ x ∷ []) j) (λ xs l g. record {
      more = x ∷ g.more;
      all = g.all ∙ append_assoc found (x ∷ []) g.more;
      says = taken_mark m.Comma i c ∙ ap (mark m.Comma) (h ∙ ap (f x) g.says);
    })))
    (λ _. given _ _ _ (record { more = []; all = sym (append-nil found); says = refl }))

pub separated_says : {A : Type 0} (item : Parser A) (f : A → Spelling) → Says f item →
    Says (λ xs. with_commas (map f xs)) (separated item)
unfolding separated
separated_says item f ok i =
    after (item i) _ _ _ (ok i)
    (λ x j h. weaken _ _ _ (following_says item f ok (length j) (x ∷ []) j)
    (λ xs l g. h ∙ ap (f x) g.says ∙ sym (ap (λ ys. with_commas (map f ys) (words l)) g.all)))

pub closed_from_says : {A : Type 0} (item : Parser A) (f : A → Spelling) → Says f item →
    (n : ℕ) (found : List A) (i : Input) →
    Gives (closed_from item n found i) (λ xs j. More (turns_closed f) found xs i j)
unfolding closed_from
closed_from_says item f ok zero found i = refused _ _
closed_from_says item f ok (suc n) found i = choose (sees m.BraceClose i) _ _ _
    (λ c. given _ _ _ (record { more = []; all = sym (append-nil found); says = taken_mark m.BraceClose i c }))
    (λ _. after (item i) _ _ _ (ok i)
    (λ x j h. weaken _ _ _ (closed_from_says item f ok n (found ++ x ∷ []) j) (λ xs l g. record {
      more = x ∷ g.more;
      all = g.all ∙ append_assoc found (x ∷ []) g.more;
      says = h ∙ ap (f x) g.says;
    })))

pub closed_says : {A : Type 0} (item : Parser A) (f : A → Spelling) → Says f item → Says (turns_closed f) (closed item)
unfolding closed
closed_says item f ok i =
    weaken _ _ _ (closed_from_says item f ok (length i) [] i)
    (λ xs j g. g.says ∙ sym (ap (λ ys. turns_closed f ys (words j)) g.all))

-- what a parser reads where its first token begins it
abbrev pub BeginsSays : {A : Type 0} → (Kind → Bool) → (A → Spelling) → Parser A → Type 0
BeginsSays begins f p = (i : Input) → begins (kind i) ≡ true → Gives (p i) (λ a j. words i ≡ f a (words j))

pub many_from_says : {A : Type 0} (begins : Kind → Bool) (item : Parser A) (f : A → Spelling) →
    BeginsSays begins f item → (n : ℕ) (found : List A) (i : Input) →
    Gives (many_from begins item n found i) (λ xs j. More (turns f) found xs i j)
unfolding many_from
many_from_says begins item f ok zero found i =
    given _ _ _ (record { more = []; all = sym (append-nil found); says = refl })
many_from_says begins item f ok (suc n) found i = choose (begins (kind i)) _ _ _
    (λ c. after (item i) _ _ _ (ok i c)
    (λ x j h. weaken _ _ _ (many_from_says begins item f ok n (found ++ x ∷ []) j) (λ xs l g. record {
      more = x ∷ g.more;
      all = g.all ∙ append_assoc found (x ∷ []) g.more;
      says = h ∙ ap (f x) g.says;
    })))
    (λ _. given _ _ _ (record { more = []; all = sym (append-nil found); says = refl }))

pub many_says : {A : Type 0} (begins : Kind → Bool) (item : Parser A) (f : A → Spelling) → BeginsSays begins f item →
    Says (turns f) (many begins item)
unfolding many
many_says begins item f ok i =
    weaken _ _ _ (many_from_says begins item f ok (length i) [] i)
    (λ xs j g. g.says ∙ sym (ap (λ ys. turns f ys (words j)) g.all))

-- ---- chains

-- what was read before i, with the tokens from i to j, is spelled by the new tree
abbrev pub Grows : Expr → Input → Expr → Input → Type 0
Grows left i a j = spells_expr left (words i) ≡ spells_expr a (words j)

abbrev pub StepSays : {Op : Type 0} → (Kind → Option Op) → (Inner → Room → Op → ℕ → Expr → Parser Expr) → Type 0
StepSays {Op} op step = (r : Inner) (rs : Room) → InnerSays r → RoomSays rs →
    (o : Op) (n : ℕ) (left : Expr) (i : Input) → op (kind i) ≡ Some o →
    Gives (step r rs o n left (next i)) (λ a j. Grows left i a j)

ends_says : {Op : Type 0} (o : Option Op) (left : Expr) (i : Input) → Gives (ends_by o left i) (λ a j. Grows left i a j)
ends_says None left i = given _ _ _ refl
ends_says (Some o) left i = refused _ _

by_says : {Op : Type 0} (op : Kind → Option Op) (step : Op → ℕ → Expr → Parser Expr) (goes : Expr → Parser Expr)
    (o : Option Op) (left : Expr) (i : Input) → op (kind i) ≡ o
    → ((o : Op) → op (kind i) ≡ Some o → Gives (step o (line i) left (next i)) (λ a j. Grows left i a j)) →
    ((a : Expr) (j : Input) → Gives (goes a j) (λ b l. Grows a j b l))
    → Gives (chain_by o left step goes i) (λ a j. Grows left i a j)
by_says op step goes None left i is steps on = given _ _ _ refl
by_says op step goes (Some o) left i is steps on =
    after _ _ _ _ (steps o is) (λ a j h. weaken _ _ _ (on a j) (λ b l g. h ∙ g))

pub chain_says : {Op : Type 0} (op : Kind → Option Op) (step : Inner → Room → Op → ℕ → Expr → Parser Expr) →
    StepSays op step → (room : Room) → RoomSays room → (left : Expr) (i : Input) →
    Gives (chain op step room left i) (λ a j. Grows left i a j)
chain_says op step ok [] rooms left i = ends_says (op (kind i)) left i
chain_says op step ok (r ∷ rs) rooms left i =
    by_says op (step r rs) (chain op step rs) (op (kind i)) left i refl
    (λ o is. ok r rs rooms.0 rooms.1 o (line i) left i is) (λ a j. chain_says op step ok rs rooms.1 a j)
