use Rattle.std.proofs.Common.{rules, arith, ◌≡◌}
use Rattle.std.specs.Prelude.{Some}
use Rattle.std.proofs.lemmas.Grind.{common_steps}
use Rattle.parse_grammar.specs.Expressions.{postfix_kind}
use Rattle.parse_grammar.specs.Input.{kind}
use Rattle.parse_grammar.specs.Statements.{room_of}
use Rattle.parse_expressions.proofs.Chains.{postfix_goes}
use Rattle.parse_expressions.proofs.postfixes.postfix.Goals as goal

pub returns-in_err-enter : goal.returns-in_err-enter
returns-in_err-enter g c =
    let h : postfix_kind (kind c.loop-op.tokens) ≡ Some c.in-Some.op = cc in
    let e = postfix_goes c.in-Some.op (room_of c.loop-op.room) c.loop-op.left c.loop-op.tokens h in
    first_of (search rules, grind (arith, common_steps))

pub returns-in_err-left-2 : goal.returns-in_err-left-2
returns-in_err-left-2 g c =
    let h : postfix_kind (kind c.loop-op.tokens) ≡ Some c.in-Some.op = cc in
    let e = postfix_goes c.in-Some.op (room_of c.loop-op.room) c.loop-op.left c.loop-op.tokens h in
    first_of (search rules, grind (arith, common_steps))

pub loop-op-preserved : goal.loop-op-preserved
loop-op-preserved g c =
    let h : postfix_kind (kind c.loop-op.tokens) ≡ Some c.in-Some.op = cc in
    let e = postfix_goes c.in-Some.op (room_of c.loop-op.room) c.loop-op.left c.loop-op.tokens h in
    first_of (search rules, grind (arith, common_steps))
