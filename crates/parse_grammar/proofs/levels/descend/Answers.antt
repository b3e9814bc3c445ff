use Rattle.std.proofs.Common.{rules, arith}
use Rattle.std.proofs.lemmas.Grind.{common_steps}
use Rattle.parse_grammar.specs.Steps.{descend}
use Rattle.parse_grammar.proofs.Rooms.{some, none}
use Rattle.parse_grammar.proofs.levels.descend.Goals as goal

pub returns-then-room-eq0 : goal.returns-then-room-eq0
unfolding descend
returns-then-room-eq0 c =
    let e = none (λ r. descend r c.args.tokens.now) c.args.room (omega arith) in
    first_of (search rules, grind (arith, common_steps))

pub returns : goal.returns
unfolding descend
returns c = (some (λ r. descend r c.args.tokens.now) c.args.room (omega arith), omega arith)
