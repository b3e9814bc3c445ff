use Rattle.tick_parser.proofs.Found.{spells}
use Rattle.tick_parser.proofs.trees.program.Goals as goal
use Rattle.std.proofs.Common.{rules}

pub returns-clause-spells : goal.returns-clause-spells
returns-clause-spells c = spells c.args.items.now c.program.new.tokens c.program.result (search rules)
