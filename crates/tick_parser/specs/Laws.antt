-- What is known of the tree of each text, as its type keeps it.
use Rattle.std.specs.Prelude.{◌≡◌, ◌≤◌, List, length, Ok}
use Rattle.limits.specs.declared.text.TheConstants.{MAX_TOKENS}
use Rattle.tick_tree.specs.declared.token.Token.{Token}
use Rattle.tick_tree.specs.declared.tree.Tree.{Tree}
use Rattle.tick_tree.specs.Texts.{IsText}
use Rattle.parse_spelling.specs.Items.{Text}
use Rattle.parse_spelling.specs.Trees.{parsed}

-- the tree that is read of at most `MAX_TOKENS` tokens names its functions and is small
abbrev pub ParsedAreTexts : Type 0
ParsedAreTexts = (text : Text) (tokens : List Token) (t : Tree) → length tokens ≤ MAX_TOKENS →
    parsed text tokens ≡ Ok t → IsText t.items
