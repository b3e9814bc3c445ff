use Rattle.std.proofs.Common.{rules, arith}
use Rattle.std.proofs.lemmas.Grind.{common_steps}
use Rattle.parse_grammar.specs.Expressions.{assign}
use Rattle.parse_grammar.specs.Statements.{room_of, elements_from}
use Rattle.parse_grammar.proofs.Rooms.{one_more, no_more}
use Rattle.parse_statements.proofs.declarations.elements.Goals as goal

pub returns-in_err-inner : goal.returns-in_err-inner
unfolding elements_from
returns-in_err-inner g c =
    let e = one_more (λ n. elements_from (assign (room_of c.args.room)) n c.loop-turn.found c.loop-turn.tokens) _
    c.loop-turn._turn c.loop-turn-test.true c.loop-turn.invariant in
    first_of (search rules, grind (arith, common_steps))

pub returns-then-eat : goal.returns-then-eat
unfolding elements_from
returns-then-eat g c =
    let e = one_more (λ n. elements_from (assign (room_of c.args.room)) n c.loop-turn.found c.loop-turn.tokens) _
    c.loop-turn._turn c.loop-turn-test.true c.loop-turn.invariant in
    first_of (search rules, grind (arith, common_steps))

pub returns-then-not-comma : goal.returns-then-not-comma
unfolding elements_from
returns-then-not-comma g c =
    let e = one_more (λ n. elements_from (assign (room_of c.args.room)) n c.loop-turn.found c.loop-turn.tokens) _
    c.loop-turn._turn c.loop-turn-test.true c.loop-turn.invariant in
    first_of (search rules, grind (arith, common_steps))

pub loop-turn-preserved : goal.loop-turn-preserved
unfolding elements_from
loop-turn-preserved g c =
    let e = one_more (λ n. elements_from (assign (room_of c.args.room)) n c.loop-turn.found c.loop-turn.tokens) _
    c.loop-turn._turn c.loop-turn-test.true c.loop-turn.invariant in
    first_of (search rules, grind (arith, common_steps))

pub returns : goal.returns
unfolding elements_from
returns g c =
    let e = no_more (λ n. elements_from (assign (room_of c.args.room)) n c.loop-turn.found c.loop-turn.tokens) _
    c.loop-turn._turn c.loop-turn-test.false c.loop-turn.invariant in
    first_of (search rules, grind (arith, common_steps))
