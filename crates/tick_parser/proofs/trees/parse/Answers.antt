use Rattle.std.proofs.Common.{rules}
use Rattle.tick_parser.proofs.Parsed.{is_text}
use Rattle.tick_parser.proofs.trees.parse.Goals as goal

-- src/trees.rt:101:25
pub new-requires : goal.new-requires
new-requires c =
    is_text c.args.text.now c.args.tokens.now _ c.in-Ok-program.items c.requires.few (search rules)
    c.in-Ok-program.ensures.found
