-- What is known of each syntax tree, since it is read from a text: the grammar takes a body only behind a list of
-- parameters at the name of its function, and a text, which has at most `MAX_TOKENS` tokens, has a tree of at most four
-- nodes a token, and its root. These are this project's own rules.
use Rattle.std.specs.Prelude.{◌+◌, ◌*◌, ◌≤◌, List, map}
use Rattle.limits.specs.declared.text.TheConstants.{MAX_TOKENS}
use Rattle.tick_tree.specs.declared.syntax.External.{External}
use Rattle.tick_tree.specs.Named.{EachNamed}
use Rattle.tick_tree.specs.Weights.{total, item_weight}

-- the items of a text
pub record IsText (items : List External) : Type 0 where
  -- behind the name of each function stands its list at once
  pub named : EachNamed items
  pub small : 1 + total (map item_weight items) ≤ 1 + 4 * MAX_TOKENS
