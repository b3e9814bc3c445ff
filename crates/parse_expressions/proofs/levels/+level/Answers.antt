use Rattle.std.proofs.Common.{rules, arith, ◌≡◌}
use Rattle.std.specs.Prelude.{Some}
use Rattle.std.proofs.lemmas.Grind.{common_steps}
use Rattle.parse_grammar.specs.Expressions.{binary_of}
use Rattle.parse_grammar.specs.Input.{kind}
use Rattle.parse_grammar.specs.Statements.{room_of}
use Rattle.parse_expressions.specs.Precedence.{loosely, operator_of}
use Rattle.parse_expressions.proofs.Steps.{level_goes}
use Rattle.parse_expressions.proofs.Climbs.{climb_starts, climb_goes}
use Rattle.parse_expressions.proofs.levels.+level.Goals as goal

pub chain-returns-in_err-enter : goal.chain-returns-in_err-enter
chain-returns-in_err-enter g t c =
    let h : binary_of c.args.level (kind c.loop-op.tokens) ≡ Some c.in-Some.op = cc in
    let e = level_goes c.args.level c.in-Some.op (room_of c.loop-op.room) c.loop-op.left c.loop-op.tokens h in
    first_of (search rules, grind (arith, common_steps))

pub chain-returns-in_err-right : goal.chain-returns-in_err-right
chain-returns-in_err-right g t c =
    let h : binary_of c.args.level (kind c.loop-op.tokens) ≡ Some c.in-Some.op = cc in
    let e = level_goes c.args.level c.in-Some.op (room_of c.loop-op.room) c.loop-op.left c.loop-op.tokens h in
    first_of (search rules, grind (arith, common_steps))

pub chain-loop-op-preserved : goal.chain-loop-op-preserved
chain-loop-op-preserved g t c =
    let h : binary_of c.args.level (kind c.loop-op.tokens) ≡ Some c.in-Some.op = cc in
    let e = level_goes c.args.level c.in-Some.op (room_of c.loop-op.room) c.loop-op.left c.loop-op.tokens h in
    first_of (search rules, grind (arith, common_steps))

pub climb-returns-in_err-left : goal.climb-returns-in_err-left
climb-returns-in_err-left g t c =
    let e = climb_starts c.args.level (room_of c.args.room) c.args.tokens.now in
    first_of (search rules, grind (arith, common_steps))

pub climb-loop-next-init : goal.climb-loop-next-init
climb-loop-next-init g t c =
    let e = climb_starts c.args.level (room_of c.args.room) c.args.tokens.now in
    first_of (search rules, grind (arith, common_steps))

pub climb-returns-in_err-left-2 : goal.climb-returns-in_err-left-2
climb-returns-in_err-left-2 g t c =
    let h : loosely c.loop-next.least c.args.level (operator_of (kind c.loop-next.tokens)) ≡ Some c.in-Some.next = cc in
    let e = climb_goes c.loop-next.least c.args.level c.in-Some.next (room_of c.args.room) c.loop-next.left
    c.loop-next.tokens c.loop-next.invariant.least h in
    first_of (search rules, grind (arith, common_steps))

pub climb-loop-next-preserved : goal.climb-loop-next-preserved
climb-loop-next-preserved g t c =
    let h : loosely c.loop-next.least c.args.level (operator_of (kind c.loop-next.tokens)) ≡ Some c.in-Some.next = cc in
    let e = climb_goes c.loop-next.least c.args.level c.in-Some.next (room_of c.args.room) c.loop-next.left
    c.loop-next.tokens c.loop-next.invariant.least h in
    first_of (search rules, grind (arith, common_steps))
