-- Nesting, and the lists and chains that several productions have. The nesting at a token is what is open there; the
-- room is what may still open, a list with one entry for each level: the parsers of what may stand one level deeper. A
-- token that opens a level is refused as too deep only where the grammar takes it.
use Rattle.std.specs.Prelude.{ℕ, zero, suc, Bool, if◌then◌else◌, List, [], ◌∷◌, ◌++◌, length, Option, Some, None}
use Rattle.tick_tree.specs.declared.syntax.Expr.{Expr}
use Rattle.tick_tree.specs.declared.syntax.OptionalExpr.{OptionalExpr}
use Rattle.tick_tree.specs.declared.syntax.OptionalExpr.TheVariants as maybe
use Rattle.tick_tree.specs.declared.syntax.Declarator.{Declarator}
use Rattle.tick_tree.specs.declared.syntax.Stmt.{Stmt}
use Rattle.parse_grammar.specs.declared.kind.Kind.{Kind}
use Rattle.parse_grammar.specs.declared.kind.Mark.{Mark}
use Rattle.parse_grammar.specs.declared.kind.Mark.TheVariants as m
use Rattle.parse_grammar.specs.declared.grammar.Mode.{Mode}
use Rattle.parse_grammar.specs.Input.{Input, Parser, ◌>>=◌, ◌>>◌, ◌<$>◌, pure, refuse, too_deep, peek, at_line}
use Rattle.parse_grammar.specs.Input.{take_token, sees, eat, expect, kind}

-- the parsers of what stands one level deeper
pub record Inner : Type 0 where
  pub expr : Parser Expr
  pub assign : Parser Expr
  pub cond : Parser Expr
  pub unary : Parser Expr
  pub stmt : Parser Stmt
  pub declarator : Mode → Parser Declarator

-- One entry for each level that may still open, the next one first.
abbrev pub Room : Type 0
Room = List Inner

-- one level deeper, if there is room: the parsers there, and the room that is left
unfoldable pub descend : Room → Parser (Inner × Room)
descend [] = too_deep
descend (r ∷ rs) = pure (r, rs)

-- takes the token that opens a level
unfoldable pub enter : Room → Parser (Inner × Room)
enter room = descend room >>= (λ p. take_token >> pure p)

abbrev pub within : {A : Type 0} → Room → (Inner → Parser A) → Parser A
within room f = enter room >>= (λ p. f p.0)

-- what begins with this mark
abbrev pub from : {A : Type 0} → Mark → Parser A → Parser A
from mark p = λ i. if sees mark i then p i else refuse i

-- takes an open parenthesis, which opens a level
unfoldable pub enter_paren : Room → Parser (Inner × Room)
enter_paren room = from m.ParenOpen (enter room)

-- what stands behind an open parenthesis
abbrev pub in_parens : {A : Type 0} → Room → (Inner → Parser A) → Parser A
in_parens room f = enter_paren room >>= (λ p. f p.0)

-- an expression up to this mark, or the mark alone
abbrev pub optional : Mark → Parser Expr → Parser OptionalExpr
optional mark p = do
  is_absent ← eat mark
  if is_absent then pure maybe.Absent else (do x ← p; expect mark; pure (maybe.Present x))

-- ---- lists. The number bounds the turns, and each turn takes a token, so the count of tokens is enough.

-- what follows the first items of a list with commas
unfoldable pub following_from : {A : Type 0} → Parser A → ℕ → List A → Parser (List A)
following_from item zero found = pure found
following_from item (suc n) found =
    λ i. if sees m.Comma i then (take_token >> item >>= (λ x. following_from item n (found ++ x ∷ []))) i else
    pure found i

abbrev pub following : {A : Type 0} → Parser A → List A → Parser (List A)
following item found = λ i. following_from item (length i) found i

-- one item or more, with commas between
unfoldable pub separated : {A : Type 0} → Parser A → Parser (List A)
separated item = item >>= (λ x. following item (x ∷ []))

-- up to a closing brace
unfoldable pub closed_from : {A : Type 0} → Parser A → ℕ → List A → Parser (List A)
closed_from item zero found = refuse
closed_from item (suc n) found =
    λ i. if sees m.BraceClose i then (take_token >> pure found) i else
    (item >>= (λ x. closed_from item n (found ++ x ∷ []))) i

unfoldable pub closed : {A : Type 0} → Parser A → Parser (List A)
closed item = λ i. closed_from item (length i) [] i

-- as many as begin so
unfoldable pub many_from : {A : Type 0} → (Kind → Bool) → Parser A → ℕ → List A → Parser (List A)
many_from begins item zero found = pure found
many_from begins item (suc n) found =
    λ i. if begins (kind i) then (item >>= (λ x. many_from begins item n (found ++ x ∷ []))) i else pure found i

unfoldable pub many : {A : Type 0} → (Kind → Bool) → Parser A → Parser (List A)
many begins item = λ i. many_from begins item (length i) [] i

-- ---- chains, which group to the left: each operator that was read takes a level of the room

abbrev pub chain_by : {Op : Type 0} → Option Op → Expr → (Op → ℕ → Expr → Parser Expr) → (Expr → Parser Expr) →
    Parser Expr
chain_by None left step goes = pure left
chain_by (Some op) left step goes = do
  n ← at_line
  take_token
  more ← step op n left
  goes more

abbrev pub ends_by : {Op : Type 0} → Option Op → Expr → Parser Expr
ends_by None left = pure left
ends_by (Some op) left = too_deep

-- `op` says which operator a token is, `step` reads what follows it, with the rest of the room
abbrev pub chain : {Op : Type 0} → (Kind → Option Op) → (Inner → Room → Op → ℕ → Expr → Parser Expr) → Room → Expr →
    Parser Expr
chain op step [] left = peek >>= (λ kind. ends_by (op kind) left)
chain op step (r ∷ rs) left = peek >>= (λ kind. chain_by (op kind) left (step r rs) (chain op step rs))
