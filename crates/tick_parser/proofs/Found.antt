-- What follows from the answer of the whole grammar: the tree or the fault, and what the tree spells.
use Rattle.std.proofs.Common.{◌≡◌, ◌≢◌, List, [], ap, sym, ◌∙◌, subst, IfOk}
use Rattle.std.specs.Prelude.{Result, Ok, Err}
use Rattle.tick_tree.specs.Faults.{Answers}
use Rattle.tick_tree.specs.declared.fault.Deny.{Deny}
use Rattle.tick_tree.specs.declared.syntax.External.{External}
use Rattle.tick_tree.specs.declared.token.Token.{Token}
use Rattle.parse_grammar.specs.declared.item.Item.{Item}
use Rattle.parse_grammar.specs.declared.stop.Stop.{Stop}
use Rattle.parse_grammar.specs.declared.stop.Stop.TheVariants.{NoMemory, Syntax, TooDeep}
use Rattle.parse_grammar.specs.Input.{Input, Reads}
use Rattle.parse_grammar.specs.Statements.{room_of}
use Rattle.parse_grammar.specs.Statements as grammar
use Rattle.parse_spelling.specs.Words.{words}
use Rattle.parse_spelling.specs.Spelling.{spells_program}
use Rattle.parse_spelling.proofs.Gives.{Gives, taken_from}
use Rattle.parse_spelling.proofs.Stated.{program_says}
use Rattle.parse_spelling.specs.Items.{Text, items_of}
use Rattle.parse_spelling.specs.Trees.{outcome, items_or_stop, judged, parsed, Finds, Denies}

pub finds : (i j : Input) (r : Result (List External) Stop) → Reads (grammar.program (room_of 200) i) r j →
    Finds (outcome i) r
unfolding outcome
finds i j (Ok found) h = ap items_or_stop h
finds i j (Err stop) h = λ other. ap items_or_stop (h other)

pub spells : (i j : Input) (r : Result (List External) Stop) → Reads (grammar.program (room_of 200) i) r j →
    IfOk r (λ found. words i ≡ spells_program found [])
spells i j (Ok found) h =
    taken_from found j (λ xs k. words i ≡ spells_program xs [])
    (subst (λ o. Gives o (λ xs k. words i ≡ spells_program xs [])) h (program_says 200 i))
spells i j (Err stop) h = tt

pub denied : (text : Text) (tokens : List Token) (items : List Item) (stop : Stop) (deny : Deny) →
    items ≡ items_of text tokens → (stop ≢ NoMemory → outcome items ≡ Err stop) → Denies text tokens stop deny →
    Answers (λ tree. tree) (Err deny) (parsed text tokens)
unfolding parsed
denied text tokens items NoMemory deny same found is =
    subst (λ d. Answers (λ tree. tree) (Err d) (judged text tokens (outcome (items_of text tokens)))) (sym is) tt
denied text tokens items (Syntax left) deny same found is =
    subst (λ d. Answers (λ tree. tree) (Err d) (judged text tokens (outcome (items_of text tokens)))) (sym is)
    (ap (judged text tokens) (ap outcome (sym same) ∙ found (λ e. cc)))
denied text tokens items (TooDeep left) deny same found is =
    subst (λ d. Answers (λ tree. tree) (Err d) (judged text tokens (outcome (items_of text tokens)))) (sym is)
    (ap (judged text tokens) (ap outcome (sym same) ∙ found (λ e. cc)))
