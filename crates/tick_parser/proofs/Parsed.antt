-- The tree that the grammar reads from tokens has few nodes, and names its functions.
use Rattle.std.proofs.Common.{◌≡◌, ℕ, ◌+◌, ◌*◌, ◌≤◌, List, [], ◌∷◌, length, map, refl, ap, sym, subst, ◌∙◌, Result, Ok}
use Rattle.std.proofs.Common.{Err, arith}
use Rattle.std.proofs.lemmas.List.{length-map}
use Rattle.limits.specs.declared.text.TheConstants.{MAX_TOKENS}
use Rattle.tick_tree.specs.declared.fault.Fault.{Fault}
use Rattle.tick_tree.specs.declared.syntax.External.{External}
use Rattle.tick_tree.specs.declared.tree.Tree.{Tree}
use Rattle.tick_tree.specs.declared.token.Token.{Token}
use Rattle.parse_grammar.specs.declared.item.Item.{Item}
use Rattle.parse_grammar.specs.declared.stop.Stop.{Stop}
use Rattle.parse_grammar.specs.Input.{Input, Outcome}
use Rattle.parse_grammar.specs.Statements.{room_of, program}
use Rattle.parse_spelling.specs.Spelling.{spells_program}
use Rattle.parse_spelling.specs.Words.{Word, Words, Plain, Name, Number, Character, String, word_by, join_strings, join}
use Rattle.parse_spelling.specs.Words.{words}
use Rattle.parse_spelling.proofs.Gives.{Gives, taken_from}
use Rattle.parse_spelling.proofs.Stated.{program_says}
use Rattle.parse_spelling.specs.Items.{Text, items_of, item_of}
use Rattle.parse_spelling.specs.Trees.{parsed, outcome, judged, items_or_stop, max_nesting}
use Rattle.tick_tree.specs.Named.{EachNamed}
use Rattle.tick_tree.specs.Texts.{IsText}
use Rattle.tick_tree.specs.Weights.{total, item_weight}
use Rattle.tick_parser.specs.Laws.{ParsedAreTexts}
use Rattle.tick_parser.proofs.Programs.{program_named}
use Rattle.tick_parser.proofs.Spelled.{program_few}

-- ---- words are no more than tokens

join_strings_few : (a : List ℕ) (ws : Words) → length (join_strings a ws) ≤ 1 + length ws
join_strings_few a [] = omega arith
join_strings_few a (Plain k ∷ ws) = omega arith
join_strings_few a (Name n ∷ ws) = omega arith
join_strings_few a (Number n u ∷ ws) = omega arith
join_strings_few a (Character n ∷ ws) = omega arith
join_strings_few a (String b ∷ ws) = omega arith

join_few : (w : Word) (ws : Words) → length (join w ws) ≤ 1 + length ws
join_few (Plain k) ws = omega arith
join_few (Name n) ws = omega arith
join_few (Number n u) ws = omega arith
join_few (Character n) ws = omega arith
join_few (String b) ws = join_strings_few b ws

words_few : (i : List Item) → length (words i) ≤ length i
unfolding words
words_few [] = omega arith
words_few (t ∷ i) = omega (arith, join_few (word_by t t.kind) (words i), words_few i)

-- ---- trees

same_items : (xs ys : List External) → ◌≡◌ {A = Result (List External) Stop} (Ok xs) (Ok ys) → xs ≡ ys
same_items xs ys e = cc

same_tree : (t z : Tree) → ◌≡◌ {A = Result Tree Fault} (Ok t) (Ok z) → t ≡ z
same_tree t z e = cc

few_items : (i : List Item) (xs : List External) → words i ≡ spells_program xs [] →
    1 + total (map item_weight xs) ≤ 4 * length i + 1
few_items i xs e = omega (arith, program_few xs [], words_few i, ap length e)

given_named : (r : Outcome (List External)) (xs : List External) → Gives r (λ found j. EachNamed found) →
    items_or_stop r ≡ Ok xs → EachNamed xs
given_named (Ok p) xs g e = subst EachNamed (same_items p.0 xs e) (taken_from p.0 p.1 (λ found j. EachNamed found) g)
given_named (Err k) xs g e = absurd (cc)

outcome_named : (i : Input) (xs : List External) → outcome i ≡ Ok xs → EachNamed xs
unfolding outcome
outcome_named i xs e = given_named (program (room_of max_nesting) i) xs (program_named max_nesting i) e

program_spells : (i : Input) (r : Outcome (List External)) (xs : List External) →
    Gives r (λ found j. words i ≡ spells_program found []) → items_or_stop r ≡ Ok xs → words i ≡ spells_program xs []
program_spells i (Ok p) xs g e =
    taken_from p.0 p.1 (λ found j. words i ≡ spells_program found []) g ∙
    ap (λ l. spells_program l []) (same_items p.0 xs e)
program_spells i (Err k) xs g e = absurd (cc)

outcome_spells : (i : Input) (xs : List External) → outcome i ≡ Ok xs → words i ≡ spells_program xs []
unfolding outcome
outcome_spells i xs e = program_spells i (program (room_of max_nesting) i) xs (program_says max_nesting i) e

-- what the grammar reads of so few tokens
pub outcome_is_text : (i : List Item) (xs : List External) → length i ≤ MAX_TOKENS → outcome i ≡ Ok xs → IsText xs
outcome_is_text i xs few e =
    record { named = outcome_named i xs e; small = omega (arith, few, few_items i xs (outcome_spells i xs e)) }

items_few : (text : Text) (tokens : List Token) → length tokens ≤ MAX_TOKENS →
    length (items_of text tokens) ≤ MAX_TOKENS
items_few text tokens few = subst (λ n. n ≤ MAX_TOKENS) (sym (length-map tokens (item_of text))) few

pub is_text : (text : Text) (tokens : List Token) (i : List Item) (xs : List External) → length tokens ≤ MAX_TOKENS →
    i ≡ items_of text tokens → outcome i ≡ Ok xs → IsText xs
is_text text tokens i xs few same e =
    outcome_is_text i xs (subst (λ (j : List Item). length j ≤ MAX_TOKENS) (sym same) (items_few text tokens few)) e

judged_is_text : (text : Text) (tokens : List Token) (r : Result (List External) Stop) (t : Tree) →
    length tokens ≤ MAX_TOKENS → outcome (items_of text tokens) ≡ r → judged text tokens r ≡ Ok t → IsText t.items
judged_is_text text tokens (Ok xs) t few o e =
    subst (λ (z : Tree). IsText z.items) (same_tree (record { items = xs }) t e)
    (is_text text tokens (items_of text tokens) xs few refl o)
judged_is_text text tokens (Err k) t few o e = absurd (cc)

pub parsed_is_text : ParsedAreTexts
unfolding parsed
parsed_is_text text tokens t few e = judged_is_text text tokens (outcome (items_of text tokens)) t few refl e
