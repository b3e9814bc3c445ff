-- Declarators: prefixes, then a name or an inner declarator in parentheses, then suffixes. One without a name is that
-- of a type name; a parameter's may have a name or none. An inner declarator and each suffix is a level until it is
-- closed.
use Rattle.std.specs.Prelude.{ℕ, Bool, true, false, ◌||◌, ◌&&◌, if◌then◌else◌, List, [], ◌∷◌, ◌++◌, Option, Some, None}
use Rattle.std.specs.Prelude.{Ok}
use Rattle.tick_tree.specs.declared.base.Prefix.{Prefix}
use Rattle.tick_tree.specs.declared.base.Prefix.TheVariants as prefix
use Rattle.tick_tree.specs.declared.base.BinaryOp.TheVariants as op
use Rattle.tick_tree.specs.declared.syntax.Core.{Core}
use Rattle.tick_tree.specs.declared.syntax.Core.TheVariants as core_of
use Rattle.tick_tree.specs.declared.syntax.Declarator.{Declarator, roll-Declarator}
use Rattle.tick_tree.specs.declared.syntax.Parameter.{Parameter, roll-Parameter}
use Rattle.tick_tree.specs.declared.syntax.Suffix.{Suffix}
use Rattle.tick_tree.specs.declared.syntax.Suffix.TheVariants as suffix_of
use Rattle.tick_tree.specs.declared.syntax.Typename.{Typename, roll-Typename}
use Rattle.parse_grammar.specs.declared.kind.Kind.{Kind}
use Rattle.parse_grammar.specs.declared.kind.Kind.TheVariants as k
use Rattle.parse_grammar.specs.declared.kind.Mark.TheVariants as m
use Rattle.parse_grammar.specs.declared.grammar.Mode.{Mode}
use Rattle.parse_grammar.specs.declared.grammar.Mode.TheVariants as mode_of
use Rattle.parse_grammar.specs.Input.{Input, Outcome, Parser, ◌>>=◌, ◌>>◌, ◌<$>◌, pure, refuse, peek, peek_second}
use Rattle.parse_grammar.specs.Input.{at_line, take_token, sees, is_mark, eat, expect, kind, line, text, next}
use Rattle.parse_grammar.specs.Steps.{Inner, Room, within, optional, separated, many}
use Rattle.parse_grammar.specs.Bases.{base, is_void}

unfoldable pub prefix_of : Kind → Option Prefix
prefix_of (k.Operator op.Mul) = Some prefix.Star
prefix_of k.Cspec = Some prefix.Cspec
prefix_of k.Vspec = Some prefix.Vspec
prefix_of _ = None

abbrev pub prefixes_by : Option Prefix → List Prefix → Input → (List Prefix → Outcome (List Prefix)) →
    Outcome (List Prefix)
prefixes_by None found here goes = Ok (found, here)
prefixes_by (Some p) found here goes = goes (found ++ p ∷ [])

-- the prefixes that stand there, behind those that were found
abbrev pub prefixes : List Prefix → Parser (List Prefix)
prefixes found [] = Ok (found, [])
prefixes found (t ∷ i) = prefixes_by (prefix_of t.kind) found (t ∷ i) (λ more. prefixes more i)

-- ---- the core

-- what follows the `(` of an inner declarator that need not have a name
unfoldable pub begins_inner : Kind → Bool
begins_inner k.Cspec = true
begins_inner k.Vspec = true
begins_inner (k.Operator op.Mul) = true
begins_inner (k.Mark m.ParenOpen) = true
begins_inner (k.Mark m.BracketOpen) = true
begins_inner _ = false

-- whether a `(` opens an inner declarator, by the token behind it
unfoldable pub opens : Mode → Kind → Bool
opens mode_of.Named _ = true
opens mode_of.Either k.Name = true
opens mode_of.Either kind = begins_inner kind
opens mode_of.Nameless kind = begins_inner kind

abbrev pub named : Parser Core
named = λ i. Ok (core_of.Name (line i) (text i), next i)

unfoldable pub inner_declarator : Mode → Room → Parser Core
inner_declarator mode room = within room (λ r. do d ← r.declarator mode; expect m.ParenClose; pure (core_of.Paren d))

-- where neither a name nor an inner declarator stands
abbrev pub unnamed : Mode → Parser Core
unnamed mode_of.Named = refuse
unnamed mode_of.Either = pure core_of.Absent
unnamed mode_of.Nameless = pure core_of.Absent

abbrev pub core_by : Mode → Room → Kind → Parser Core
core_by mode_of.Nameless room k.Name = pure core_of.Absent
core_by mode_of.Named room k.Name = named
core_by mode_of.Either room k.Name = named
core_by mode room (k.Mark m.ParenOpen) =
    peek_second >>= (λ kind. if opens mode kind then inner_declarator mode room else unnamed mode)
core_by mode room _ = unnamed mode

unfoldable pub core : Mode → Room → Parser Core
core mode room = peek >>= core_by mode room

-- ---- suffixes

unfoldable pub array : Room → Parser Suffix
array room = within room (λ r. do length ← optional m.BracketClose r.cond; pure (suffix_of.Array length))

unfoldable pub parameter : Inner → Parser Parameter
parameter r = do
  n ← at_line
  words ← base
  d ← r.declarator mode_of.Either
  pure (roll-Parameter (record { line = n; base = words; declarator = d }))

abbrev pub is_nothing : Input → Bool
is_nothing i = is_void (kind i) && sees m.ParenClose (next i)

abbrev pub listed : Inner → Parser Suffix
listed r = do
  found ← separated (parameter r)
  expect m.ParenClose
  pure (suffix_of.Listed found)

-- behind the `(` of a parameter list
unfoldable pub parameters : Inner → Parser Suffix
parameters r = λ i. if sees m.ParenClose i then (take_token >> pure suffix_of.Unlisted) i else
    (if is_nothing i then (take_token >> take_token >> pure suffix_of.Nothing) i else listed r i)

unfoldable pub list : Room → Parser Suffix
list room = within room parameters

unfoldable pub begins_suffix : Kind → Bool
begins_suffix (k.Mark m.BracketOpen) = true
begins_suffix (k.Mark m.ParenOpen) = true
begins_suffix _ = false

unfoldable pub suffix : Room → Parser Suffix
suffix room = λ i. if sees m.BracketOpen i then array room i else list room i

unfoldable pub suffixes : Room → Parser (List Suffix)
suffixes room = many begins_suffix (suffix room)

-- ---- the whole

unfoldable pub behind_prefixes : Mode → Room → List Prefix → Parser Declarator
behind_prefixes mode room found = do
  name ← core mode room
  more ← suffixes room
  pure (roll-Declarator (record { prefixes = found; core = name; suffixes = more }))

unfoldable pub declarator : Mode → Room → Parser Declarator
declarator mode room = prefixes [] >>= behind_prefixes mode room

-- one level deeper
unfoldable pub typename : Inner → Parser Typename
typename r = do
  words ← base
  d ← r.declarator mode_of.Nameless
  pure (roll-Typename (record { base = words; declarator = d }))

unfoldable pub is_name : Kind → Bool
is_name k.Name = true
is_name _ = false

-- whether the first name, which is the declared one, is followed at once by a parameter list
unfoldable pub declares_function : Input → Bool
declares_function [] = false
declares_function (t ∷ i) = if is_name t.kind then sees m.ParenOpen i else declares_function i
