use Rattle.std.proofs.Common.{rules, arith}
use Rattle.std.proofs.lemmas.Grind.{common_steps}
use Rattle.parse_grammar.specs.Expressions.{assign}
use Rattle.parse_grammar.specs.Statements.{room_of}
use Rattle.parse_grammar.specs.Steps.{following_from}
use Rattle.parse_grammar.proofs.Rooms.{one_more}
use Rattle.parse_expressions.proofs.primaries.separated.Goals as goal

pub returns-then-not-eat : goal.returns-then-not-eat
unfolding following_from
returns-then-not-eat g c =
    let e = one_more (λ n. following_from (assign (room_of c.args.room)) n c.loop-turn.found c.loop-turn.tokens) _
    c.loop-turn._turn c.loop-turn-test.true c.loop-turn.invariant in
    first_of (search rules, grind (arith, common_steps))

pub returns-in_err-inner-2 : goal.returns-in_err-inner-2
unfolding following_from
returns-in_err-inner-2 g c =
    let e = one_more (λ n. following_from (assign (room_of c.args.room)) n c.loop-turn.found c.loop-turn.tokens) _
    c.loop-turn._turn c.loop-turn-test.true c.loop-turn.invariant in
    first_of (search rules, grind (arith, common_steps))

pub loop-turn-preserved : goal.loop-turn-preserved
unfolding following_from
loop-turn-preserved g c =
    let e = one_more (λ n. following_from (assign (room_of c.args.room)) n c.loop-turn.found c.loop-turn.tokens) _
    c.loop-turn._turn c.loop-turn-test.true c.loop-turn.invariant in
    first_of (search rules, grind (arith, common_steps))
