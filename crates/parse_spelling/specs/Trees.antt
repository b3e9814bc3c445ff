-- The tree of a text, by its tokens, or the first token that is wrong: Syntax where the grammar takes no such token
-- there,
-- TooDeep where it nests over 200 levels. The end of the text counts as a token, on the line behind the last byte.
use Rattle.std.specs.Prelude.{ℕ, ◌+◌, ◌-◌, ◌==◌, ◌≡◌, ◌≢◌, List, [], ◌∷◌, length, drop, Result, Ok, Err}
use Rattle.std.specs.List.{count_by}
use Rattle.tick_tree.specs.declared.token.Token.{Token}
use Rattle.tick_tree.specs.declared.fault.Deny.{Deny}
use Rattle.tick_tree.specs.declared.fault.Deny.TheVariants as deny_of
use Rattle.tick_tree.specs.declared.fault.Fault.{Fault}
use Rattle.tick_tree.specs.declared.fault.FaultKind.{FaultKind}
use Rattle.tick_tree.specs.declared.fault.FaultKind.TheVariants as fault
use Rattle.tick_tree.specs.declared.syntax.External.{External}
use Rattle.tick_tree.specs.declared.tree.Tree.{Tree}
use Rattle.parse_grammar.specs.declared.item.Item.{Item}
use Rattle.parse_grammar.specs.declared.stop.Stop.{Stop}
use Rattle.parse_grammar.specs.declared.stop.Stop.TheVariants.{NoMemory, Syntax, TooDeep}
use Rattle.parse_grammar.specs.Input.{Outcome}
use Rattle.parse_grammar.specs.Statements.{room_of, program}
use Rattle.parse_spelling.specs.Items.{Text, items_of}
use Rattle.limits.specs.declared.text.TheConstants.{MAX_NESTING}

-- the greatest nesting
abbrev pub max_nesting : ℕ
max_nesting = MAX_NESTING

-- the line behind the last byte of a text
abbrev pub last_line : Text → ℕ
last_line text = 1 + count_by (λ b. b == 10) text

-- the line of the first of these tokens, or that of the end of the text
abbrev pub first_line : Text → List Token → ℕ
first_line text [] = last_line text
first_line text (t ∷ tokens) = t.line

-- a fault at the token that so many tokens, itself one of them, are left from
abbrev pub fault_at : Text → List Token → FaultKind → ℕ → Fault
fault_at text tokens kind left =
    let n = length tokens - left in
    record { kind = kind; line = first_line text (drop n tokens); token = n }

-- why no tree is read; the definition never wants memory
abbrev pub fault_of : Text → List Token → Stop → Fault
fault_of text tokens (Syntax left) = fault_at text tokens fault.Syntax left
fault_of text tokens (TooDeep left) = fault_at text tokens fault.TooDeep left
fault_of text tokens NoMemory = fault_at text tokens fault.Syntax 0

-- the items of a program that a parser gives, or where it stops
abbrev pub items_or_stop : Outcome (List External) → Result (List External) Stop
items_or_stop (Ok found) = Ok found.0
items_or_stop (Err stop) = Err stop

-- what the grammar reads from tokens
unfoldable pub outcome : List Item → Result (List External) Stop
outcome items = items_or_stop (program (room_of max_nesting) items)

abbrev pub judged : Text → List Token → Result (List External) Stop → Result Tree Fault
judged text tokens (Ok found) = Ok (record { items = found })
judged text tokens (Err stop) = Err (fault_of text tokens stop)

-- the tree of a text by its tokens, or its first fault
unfoldable pub parsed : Text → List Token → Result Tree Fault
parsed text tokens = judged text tokens (outcome (items_of text tokens))

-- ---- what the functions ensure, unless memory fails

abbrev pub Finds : Result (List External) Stop → Result (List External) Stop → Type 0
Finds defined (Ok found) = defined ≡ Ok found
Finds defined (Err stop) = stop ≢ NoMemory → defined ≡ Err stop

abbrev pub Denies : Text → List Token → Stop → Deny → Type 0
Denies text tokens NoMemory deny = deny ≡ deny_of.NoMemory
Denies text tokens (Syntax left) deny = deny ≡ deny_of.Refused (fault_of text tokens (Syntax left))
Denies text tokens (TooDeep left) deny = deny ≡ deny_of.Refused (fault_of text tokens (TooDeep left))
