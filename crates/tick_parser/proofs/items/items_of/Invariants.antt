use Rattle.std.proofs.Common.{◌≡◌, ◌++◌, drop, map}
use Rattle.parse_spelling.specs.Items.{item_of}
use Rattle.tick_parser.proofs.items.items_of.Given as goal

-- the items so far, and those of the tokens to come, are those of all
abbrev pub invariant-loop-token : goal.invariant-loop-token
invariant-loop-token l = l.found.items ++ map (item_of l.text) (drop l.token-index l.tokens) ≡ map (item_of l.text)
    l.tokens
