-- Each function of a parsed program has its list at its name.
use Rattle.std.proofs.Common.{◌≡◌, ℕ, zero, suc, Bool, true, false, refl, subst, Ok, List, [], ◌∷◌, ◌++◌, length}
use Rattle.tick_tree.specs.declared.base.Base.{Base}
use Rattle.tick_tree.specs.declared.syntax.Declarator.{Declarator}
use Rattle.tick_tree.specs.declared.syntax.External.{External}
use Rattle.tick_tree.specs.declared.syntax.Init.{roll-Init}
use Rattle.tick_tree.specs.declared.syntax.External.TheVariants as external_of
use Rattle.parse_grammar.specs.declared.kind.Mark.TheVariants as m
use Rattle.parse_grammar.specs.Input.{Input, line, sees, expect, after as behind_mark}
use Rattle.parse_grammar.specs.Steps.{Room, following}
use Rattle.parse_grammar.specs.Declarators.{declares_function}
use Rattle.parse_grammar.specs.Statements.{initializer, init, variables, function_or_variables, first_declared}
use Rattle.parse_grammar.specs.Statements.{external, at_end, program_from, program, room_of}
use Rattle.parse_spelling.proofs.Gives.{Gives, given, taken_from, refused, after, choose, choose_parser}
use Rattle.tick_tree.specs.Named.{EachNamed, is_listed}
use Rattle.tick_parser.proofs.Declared.{anything, past, declared_with_list, deep_room}

abbrev NamedItem : External → Input → Type 0
NamedItem x j = EachNamed (x ∷ [])

variables_are_named : (room : Room) (n : ℕ) (words : Base) (d : Declarator) (i : Input) →
    Gives (variables room n words d i) NamedItem
unfolding variables
variables_are_named room n words d i =
    after _ _ _ _ (anything (initializer room i)) (λ v j u.
    after _ _ _ _ (anything (following (init room) (roll-Init (record { declarator = d; value = v }) ∷ []) j))
    (λ found l w.
    after _ _ _ _ (anything (expect m.Semicolon l)) (λ x y z. given _ _ _ tt)))

by_list : (room : Room) (n : ℕ) (words : Base) (b : Bool) (d : Declarator) (i : Input) →
    (b ≡ true → is_listed d ≡ true) → Gives (function_or_variables room n words b d i) NamedItem
by_list room n words true d i h = choose (sees m.BraceOpen i) _ _ _
    (λ c. past NamedItem _ _ (λ items j. given _ _ _ (h refl, tt)))
    (λ c. variables_are_named room n words d i)
by_list room n words false d i h = variables_are_named room n words d i

declared_by : (n : ℕ) (line : ℕ) (words : Base) (i : Input) (b : Bool) → declares_function i ≡ b →
    Gives (first_declared (room_of n) line words i) NamedItem
unfolding first_declared
declared_by n line words i true e =
    after _ _ _ _ (declared_with_list (room_of n) (deep_room n) i e)
    (λ d j h. by_list (room_of n) line words (declares_function i) d j (λ c. h))
declared_by n line words i false e =
    past NamedItem _ _ (λ d j. by_list (room_of n) line words (declares_function i) d j
    (λ c. let q : ⊥ = cc in absurd q))

external_is_named : (n : ℕ) (i : Input) → Gives (external (room_of n) i) NamedItem
unfolding external
external_is_named n i = past NamedItem _ _ (λ words j.
    choose_parser (sees m.Semicolon j) _ _ (behind_mark m.Semicolon j) _ (λ c. given _ _ _ tt)
    (λ c. declared_by n (line i) words (behind_mark m.Semicolon j) (declares_function (behind_mark m.Semicolon j))
    refl))

one_more : (xs : List External) (x : External) → EachNamed xs → EachNamed (x ∷ []) → EachNamed (xs ++ x ∷ [])
one_more [] x h k = k
one_more (external_of.Function line b d items ∷ xs) x h k = (h.0, one_more xs x h.1 k)
one_more (external_of.Declaration d ∷ xs) x h k = one_more xs x h k

items_are_named : (n turns : ℕ) (found : List External) (i : Input) → EachNamed found →
    Gives (program_from (external (room_of n)) turns found i) (λ xs j. EachNamed xs)
unfolding program_from
items_are_named n zero found i h = choose (at_end i) _ _ _ (λ c. given _ _ _ h) (λ c. refused _ _)
items_are_named n (suc turns) found i h = choose (at_end i) _ _ _ (λ c. given _ _ _ h)
    (λ c. after _ _ _ _ (external_is_named n i)
    (λ x j k. items_are_named n turns (found ++ x ∷ []) j (one_more found x h k)))

pub program_named : (n : ℕ) (i : Input) → Gives (program (room_of n) i) (λ xs j. EachNamed xs)
unfolding program
program_named n i = items_are_named n (length i) [] i tt

pub program_is_named : (n : ℕ) (i rest : Input) (xs : List External) → program (room_of n) i ≡ Ok (xs, rest) →
    EachNamed xs
program_is_named n i rest xs e =
    taken_from xs rest (λ ys j. EachNamed ys) (subst (λ o. Gives o (λ ys j. EachNamed ys)) e (program_named n i))
