use Rattle.std.proofs.Common.{rules, arith}
use Rattle.std.proofs.lemmas.Grind.{common_steps}
use Rattle.parse_grammar.specs.Statements.{room_of, external, program_from}
use Rattle.parse_grammar.proofs.Rooms.{one_more, no_more}
use Rattle.parse_statements.proofs.programs.program.Goals as goal

pub returns-then-is_at_end : goal.returns-then-is_at_end
unfolding program_from
returns-then-is_at_end g c =
    let e = one_more (λ n. program_from (external (room_of c.args.room)) n c.loop-turn.found c.loop-turn.tokens) _
    c.loop-turn._turn c.loop-turn-test.true c.loop-turn.invariant in
    first_of (search rules, grind (arith, common_steps))

pub returns-in_err-external : goal.returns-in_err-external
unfolding program_from
returns-in_err-external g c =
    let e = one_more (λ n. program_from (external (room_of c.args.room)) n c.loop-turn.found c.loop-turn.tokens) _
    c.loop-turn._turn c.loop-turn-test.true c.loop-turn.invariant in
    first_of (search rules, grind (arith, common_steps))

pub loop-turn-preserved : goal.loop-turn-preserved
unfolding program_from
loop-turn-preserved g c =
    let e = one_more (λ n. program_from (external (room_of c.args.room)) n c.loop-turn.found c.loop-turn.tokens) _
    c.loop-turn._turn c.loop-turn-test.true c.loop-turn.invariant in
    first_of (search rules, grind (arith, common_steps))

pub returns-then-is_at_end-2 : goal.returns-then-is_at_end-2
unfolding program_from
returns-then-is_at_end-2 g c =
    let e = no_more (λ n. program_from (external (room_of c.args.room)) n c.loop-turn.found c.loop-turn.tokens) _
    c.loop-turn._turn c.loop-turn-test.false c.loop-turn.invariant in
    first_of (search rules, grind (arith, common_steps))

pub returns-else-is_at_end-2 : goal.returns-else-is_at_end-2
unfolding program_from
returns-else-is_at_end-2 g c =
    let e = no_more (λ n. program_from (external (room_of c.args.room)) n c.loop-turn.found c.loop-turn.tokens) _
    c.loop-turn._turn c.loop-turn-test.false c.loop-turn.invariant in
    first_of (search rules, grind (arith, common_steps))
