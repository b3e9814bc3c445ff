use Rattle.std.proofs.Common.{rules, arith}
use Rattle.std.proofs.lemmas.Grind.{common_steps}
use Rattle.parse_grammar.specs.Statements.{room_of, stmt}
use Rattle.parse_grammar.specs.Steps.{closed_from}
use Rattle.parse_grammar.proofs.Rooms.{one_more, no_more}
use Rattle.parse_expressions.proofs.primaries.closed.Goals as goal

pub returns-in_err-inner_stmt : goal.returns-in_err-inner_stmt
unfolding closed_from
returns-in_err-inner_stmt g c =
    let e = one_more (λ n. closed_from (stmt (room_of c.args.room)) n c.loop-turn.found c.loop-turn.tokens) _
    c.loop-turn._turn c.loop-turn-test.true c.loop-turn.invariant in
    first_of (search rules, grind (arith, common_steps))

pub returns-then-eat : goal.returns-then-eat
unfolding closed_from
returns-then-eat g c =
    let e = one_more (λ n. closed_from (stmt (room_of c.args.room)) n c.loop-turn.found c.loop-turn.tokens) _
    c.loop-turn._turn c.loop-turn-test.true c.loop-turn.invariant in
    first_of (search rules, grind (arith, common_steps))

pub loop-turn-preserved : goal.loop-turn-preserved
unfolding closed_from
loop-turn-preserved g c =
    let e = one_more (λ n. closed_from (stmt (room_of c.args.room)) n c.loop-turn.found c.loop-turn.tokens) _
    c.loop-turn._turn c.loop-turn-test.true c.loop-turn.invariant in
    first_of (search rules, grind (arith, common_steps))

pub returns : goal.returns
unfolding closed_from
returns g c =
    let e = no_more (λ n. closed_from (stmt (room_of c.args.room)) n c.loop-turn.found c.loop-turn.tokens) _
    c.loop-turn._turn c.loop-turn-test.false c.loop-turn.invariant in
    first_of (search rules, grind (arith, common_steps))
