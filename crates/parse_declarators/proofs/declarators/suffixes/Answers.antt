use Rattle.std.proofs.Common.{rules, arith, ◌≡◌, suc, ◌-◌, ap, sym, ◌∙◌}
use Rattle.std.proofs.lemmas.Grind.{common_steps}
use Rattle.parse_grammar.specs.Steps.{many_from}
use Rattle.parse_grammar.specs.Declarators.{begins_suffix, suffix}
use Rattle.parse_grammar.specs.Statements.{room_of}
use Rattle.parse_grammar.proofs.Rooms.{one_more}
use Rattle.parse_declarators.proofs.declarators.suffixes.Goals as goal

pub returns-in_err-suffix : goal.returns-in_err-suffix
unfolding many_from
returns-in_err-suffix g c =
    let e = one_more (λ n. many_from begins_suffix (suffix (room_of c.args.room)) n c.loop-turn.found
    c.loop-turn.tokens) _ c.loop-turn._turn c.loop-turn-test.true c.loop-turn.invariant in
    first_of (search rules, grind (arith, common_steps))

pub loop-turn-preserved : goal.loop-turn-preserved
unfolding many_from
loop-turn-preserved g c =
    let e = one_more (λ n. many_from begins_suffix (suffix (room_of c.args.room)) n c.loop-turn.found
    c.loop-turn.tokens) _ c.loop-turn._turn c.loop-turn-test.true c.loop-turn.invariant in
    first_of (search rules, grind (arith, common_steps))
