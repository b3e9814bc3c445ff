use Rattle.std.proofs.Common.{◌+◌, ◌^◌, ◌<◌, refl, ap, sym, subst, ◌∙◌, arith}
use Rattle.typed_tree.specs.View.{expr_view, stmt_view}
use Rattle.staged_meaning.specs.Meaning.{eval}
use Rattle.eval_state.specs.Less.{loaded}
use Rattle.eval_state.specs.Pending as pending
use Rattle.eval_state.specs.Rest.{valued}
use Rattle.eval_state.specs.Run.{here, run_of, world}
use Rattle.eval_state.specs.Sound.{calls}
use Rattle.eval_state.specs.Views.{items_view}
use Rattle.eval_state.specs.declared.state.Body.{Body}
use Rattle.eval_state.specs.declared.state.Parts.{Parts}
use Rattle.eval_state.proofs.Bodies.{enters_within}
use Rattle.eval_direct.proofs.Forms.{came_as, is_block, is_call, is_choice, is_eval, is_if, is_other_choice, is_return}
use Rattle.eval_direct.proofs.Forms.{is_return_value, is_setting, is_sum, item_as, none_left, went_as}
use Rattle.eval_direct.proofs.Operands.{came_done, came_is, came_later, came_same, first_came, first_waits, no_memory}
use Rattle.eval_direct.proofs.Operands.{no_memory_is, no_memory_of_statement, none_waits, return_came, return_waits}
use Rattle.eval_direct.proofs.Operands.{second_came, second_waits, setting_came, setting_waits, went_is}
use Rattle.eval_direct.proofs.Called.{body_gave, body_ran, body_rests, body_stopped, call_entered, going_begun}
use Rattle.eval_direct.proofs.Called.{going_pushed, going_waits, gone, gone_empty, gone_heavy, returned_none}
use Rattle.eval_direct.proofs.Called.{returned_within, through_none, through_within}
use Rattle.eval_direct.proofs.Running.{block_goes, block_stops, drop_came, drop_waits, else_fails, else_holds, if_fails}
use Rattle.eval_direct.proofs.Running.{if_holds, item_return, item_returns, item_stays, once_item, once_still}
use Rattle.eval_direct.proofs.Running.{plain_goes, plain_waits, runs_declared, runs_ended, runs_first, runs_otherwise}
use Rattle.eval_direct.proofs.Running.{runs_through, went_later}
use Rattle.eval_direct.proofs.Waiting.{came_behind}
use Rattle.eval_direct.proofs.+direct.Goals as goal

-- ---- expressions

pub expressions::compound-binary-requires : goal.expressions::compound-binary-requires
expressions::compound-binary-requires t c = (omega (arith, c.decreases), c.requires)

pub expressions::compound-call-requires : goal.expressions::compound-call-requires
expressions::compound-call-requires t c = (
  omega (arith, c.decreases),
  (c.requires, is_call _ _ _ _ _ c.in-Call.is c.as_slice.ensures),
)

pub expressions::compound-set_variable-requires : goal.expressions::compound-set_variable-requires
expressions::compound-set_variable-requires t c = (omega (arith, c.decreases), c.requires)

pub expressions::compound-returns-in-Bin : goal.expressions::compound-returns-in-Bin
expressions::compound-returns-in-Bin t c =
    came_as _ _ _ _ _ _ (is_sum _ _ _ _ _ _ c.in-Bin.is c.get.ensures c.get-in-Bin.ensures) c.binary.ensures

pub expressions::compound-returns-in-Call : goal.expressions::compound-returns-in-Call
expressions::compound-returns-in-Call t c = c.call.ensures

pub expressions::compound-returns-in-SetVar : goal.expressions::compound-returns-in-SetVar
expressions::compound-returns-in-SetVar t c =
    came_as _ _ _ _ _ _ (is_setting _ _ _ _ c.in-SetVar.is c.get-in-SetVar.ensures) c.set_variable.ensures

pub expressions::compound-returns-in_default : goal.expressions::compound-returns-in_default
expressions::compound-returns-in_default t c =
    came_is _ _ _ _ _ _ c.later.ensures.came
    (came_later c.later.new.late c.args.e (run_of c.args.m.now) c.later.ensures.told
    (c.later.ensures.still ∙ c.requires))

pub expressions::part-compound-requires : goal.expressions::part-compound-requires
expressions::part-compound-requires t c = (omega (arith, c.decreases), c.requires)

pub expressions::part-returns-then-has_call : goal.expressions::part-returns-then-has_call
expressions::part-returns-then-has_call t c = c.compound.ensures

pub expressions::part-compound-requires-in-None : goal.expressions::part-compound-requires-in-None
expressions::part-compound-requires-in-None t c = (omega (arith, c.decreases), c.requires)

pub expressions::part-returns-in-Some : goal.expressions::part-returns-in-Some
expressions::part-returns-in-Some t c =
    came_done c.args.late.now (expr_view c.args.e.now) c.in-Some.v (run_of c.args.m.now) (run_of c.simple.new.m) _
    c.requires c.in-Some.ensures

pub expressions::part-returns-in-None : goal.expressions::part-returns-in-None
expressions::part-returns-in-None t c =
    came_same c.compound-in-None.result c.compound-in-None.new.late c.args.m.now c.simple.new.m
    (run_of c.compound-in-None.new.m) (λ r. valued (eval (here r) (expr_view c.args.e.now) (world r)))
    (λ r. loaded (pending.Eval (expr_view c.args.e.now)) r) c.in-None.ensures c.compound-in-None.ensures

pub expressions::binary-part-requires : goal.expressions::binary-part-requires
expressions::binary-part-requires t c = (omega (arith, c.decreases), c.requires)

pub expressions::binary-second-requires : goal.expressions::binary-second-requires
expressions::binary-second-requires t c =
    (omega (arith, c.decreases), none_waits _ _ _ _ _ _ c.in-Value.ensures)

pub expressions::binary-returns-in-Value : goal.expressions::binary-returns-in-Value
expressions::binary-returns-in-Value t c =
    first_came c.second.result c.part.new.late c.second.new.late c.args.kind (expr_view c.args.a.now)
    (expr_view c.args.b.now) c.in-Value.x (run_of c.args.m.now) (run_of c.part.new.m) (run_of c.second.new.m)
    c.in-Value.ensures c.second.ensures

pub expressions::binary-returns-in-Later : goal.expressions::binary-returns-in-Later
expressions::binary-returns-in-Later t c =
    first_waits c.waits.result c.part.new.late c.waits.new.late c.args.kind (expr_view c.args.a.now) c.args.b
    (run_of c.args.m.now) (run_of c.part.new.m) c.waits.ensures c.in-Later.ensures

pub expressions::binary-returns-in-NoMemory : goal.expressions::binary-returns-in-NoMemory
expressions::binary-returns-in-NoMemory t c = no_memory _ _ _ _ _

pub expressions::second-part-requires : goal.expressions::second-part-requires
expressions::second-part-requires t c = (omega (arith, c.decreases), c.requires)

pub expressions::second-operated-requires : goal.expressions::second-operated-requires
expressions::second-operated-requires t c = none_waits _ _ _ _ _ _ c.in-Value.ensures

pub expressions::second-returns-in-Value : goal.expressions::second-returns-in-Value
expressions::second-returns-in-Value t c =
    second_came c.operated.result c.part.new.late c.operated.new.late c.args.kind (expr_view c.args.b.now) c.args.x
    c.in-Value.y (run_of c.args.m.now) (run_of c.part.new.m) (run_of c.operated.new.m) c.in-Value.ensures
    c.operated.ensures

pub expressions::second-returns-in-Later : goal.expressions::second-returns-in-Later
expressions::second-returns-in-Later t c =
    second_waits c.waits.result c.part.new.late c.waits.new.late c.args.kind (expr_view c.args.b.now) c.args.x
    (run_of c.args.m.now) (run_of c.part.new.m) c.waits.ensures c.in-Later.ensures

pub expressions::second-returns-in-NoMemory : goal.expressions::second-returns-in-NoMemory
expressions::second-returns-in-NoMemory t c = no_memory _ _ _ _ _

pub expressions::set_variable-part-requires : goal.expressions::set_variable-part-requires
expressions::set_variable-part-requires t c = (omega (arith, c.decreases), c.requires)

pub expressions::set_variable-came-requires : goal.expressions::set_variable-came-requires
expressions::set_variable-came-requires t c = none_waits _ _ _ _ _ _ c.in-Value.ensures

pub expressions::set_variable-returns-in-Ok : goal.expressions::set_variable-returns-in-Ok
expressions::set_variable-returns-in-Ok t c =
    setting_came c.came.result c.part.new.late c.came.new.late c.args.i (expr_view c.args.a.now) c.in-Value.v
    (run_of c.args.m.now) (run_of c.part.new.m) (run_of c.set_variable.new.self) (run_of c.came.new.m)
    c.in-Value.ensures c.in-Ok.ensures c.came.ensures

pub expressions::set_variable-returns-in-Err : goal.expressions::set_variable-returns-in-Err
expressions::set_variable-returns-in-Err t c = no_memory _ _ _ _ _

pub expressions::set_variable-returns-in-Later : goal.expressions::set_variable-returns-in-Later
expressions::set_variable-returns-in-Later t c =
    setting_waits c.waits.result c.part.new.late c.waits.new.late c.args.i (expr_view c.args.a.now)
    (run_of c.args.m.now) (run_of c.part.new.m) c.waits.ensures c.in-Later.ensures

pub expressions::set_variable-returns-in-NoMemory : goal.expressions::set_variable-returns-in-NoMemory
expressions::set_variable-returns-in-NoMemory t c = no_memory _ _ _ _ _

pub expressions::returned-part-requires : goal.expressions::returned-part-requires
expressions::returned-part-requires t c = (omega (arith, c.decreases), c.requires)

pub expressions::returned-returns-in-Value : goal.expressions::returned-returns-in-Value
expressions::returned-returns-in-Value t c =
    return_came c.part.new.late (expr_view c.args.e.now) c.in-Value.v (run_of c.args.m.now) (run_of c.part.new.m)
    c.in-Value.ensures

pub expressions::returned-returns-in-Later : goal.expressions::returned-returns-in-Later
expressions::returned-returns-in-Later t c =
    return_waits c.rests.result c.part.new.late c.rests.new.late (expr_view c.args.e.now) (run_of c.args.m.now)
    (run_of c.part.new.m) c.rests.ensures c.in-Later.ensures

pub expressions::returned-returns-in-NoMemory : goal.expressions::returned-returns-in-NoMemory
expressions::returned-returns-in-NoMemory t c = no_memory_of_statement _ _ _ _ _

-- ---- calls

pub calls::call-loop-a-init : goal.calls::call-loop-a-init
calls::call-loop-a-init t c =
    going_begun _ _ _ _ _ _ _ _ c.requires.0 c.requires.1 c.list-done.ensures.empty c.list-done.ensures.still

pub calls::call-part-requires : goal.calls::call-part-requires
calls::call-part-requires t c = (omega (arith, c.decreases), c.loop-a.invariant.none)

pub calls::call-loop-a-smaller : goal.calls::call-loop-a-smaller
calls::call-loop-a-smaller t c = omega (arith, c.in-Some.ensures.cases.1)

pub calls::call-loop-a-preserved : goal.calls::call-loop-a-preserved
calls::call-loop-a-preserved t c =
    going_pushed _ _ _ _ _ _ _ _ _ _ _ c.loop-a.invariant c.in-Some.ensures.cases.0 c.part.new.late
    (run_of c.part.new.m) c.in-Value.v _ _ c.in-Ok.ensures.ok c.in-Value.ensures

pub calls::call-returns-in-Err : goal.calls::call-returns-in-Err
calls::call-returns-in-Err t c = no_memory _ _ _ _ _

pub calls::call-returns-in-Later : goal.calls::call-returns-in-Later
calls::call-returns-in-Later t c =
    going_waits _ _ _ _ _ _ _ _ _ _ _ c.loop-a.invariant c.in-Some.ensures.cases.0 c.argument_waits.result
    c.part.new.late c.argument_waits.new.late c.in-Some.more (run_of c.part.new.m) refl c.requires.1
    c.argument_waits.ensures c.in-Later.ensures

pub calls::call-returns-in-NoMemory : goal.calls::call-returns-in-NoMemory
calls::call-returns-in-NoMemory t c = no_memory _ _ _ _ _

pub calls::call-called-requires : goal.calls::call-called-requires
calls::call-called-requires t c =
    let none = none_left _ c.in_default.ensures.cases in (
      omega (arith, c.decreases),
      (
        c.loop-a.invariant.none,
        none,
        gone_heavy _ _ _ _ _ _ _ _ _ c.loop-a.invariant none c.requires.1,
        gone_empty _ _ _ _ _ _ _ _ _ c.loop-a.invariant none c.requires.1,
      ),
    )

pub calls::call-returns : goal.calls::call-returns
calls::call-returns t c =
    gone _ _ _ _ _ _ _ _ _ c.loop-a.invariant (none_left _ c.in_default.ensures.cases) c.requires.1 c.called.result
    c.called.new.late (run_of c.called.new.m) c.called.ensures

pub calls::called-other-requires : goal.calls::called-other-requires
calls::called-other-requires t c = c.requires

pub calls::called-entered-requires : goal.calls::called-entered-requires
calls::called-entered-requires t c = (omega (arith, c.decreases), (c.requires.0, c.in-Some.ensures))

pub calls::called-returns-in-None : goal.calls::called-returns-in-None
calls::called-returns-in-None t c = c.other.ensures

pub calls::called-returns-in-Some : goal.calls::called-returns-in-Some
calls::called-returns-in-Some t c =
    came_behind c.entered.result c.entered.new.late (run_of c.args.m.now) (run_of c.args.m.now)
    (run_of c.entered.new.m) _ _ 4 _ c.entered.ensures refl refl (omega arith) (λ e. c.requires.2)

pub calls::entered-enter_body-requires : goal.calls::entered-enter_body-requires
calls::entered-enter_body-requires t c =
    (c.requires.1.deep, c.requires.1.small, c.requires.1.stack, c.requires.1.frames)

pub calls::entered-body-requires : goal.calls::entered-body-requires
calls::entered-body-requires t c = (
  omega (arith, c.decreases),
  (
    c.requires.0,
    ap (λ (b : Body). b.row) c.in-Ok.ensures.0 ∙ c.requires.1.row,
    subst (λ (q : Parts). q.depth + calls q.entries + 1 < 2 ^ 64) (sym c.in-Ok.ensures.1)
        (enters_within c.args.m.now c.args.answer c.args.f c.args.done c.args.function.now c.requires.1
        c.keeps_law.ensures),
    c.requires.1.small,
  ),
)

pub calls::entered-returns-in-Err : goal.calls::entered-returns-in-Err
calls::entered-returns-in-Err t c = no_memory _ _ _ _ _

pub calls::entered-returns-in-Ok : goal.calls::entered-returns-in-Ok
calls::entered-returns-in-Ok t c =
    call_entered c.body.result c.body.new.late c.args.m.now c.enter_body.new.self c.args.answer c.args.f c.args.done
    c.args.function.now c.in-Ok.caller (run_of c.body.new.m) c.requires.1 c.in-Ok.ensures.0 c.in-Ok.ensures.1
    c.body.ensures

pub calls::body-charge_of-requires : goal.calls::body-charge_of-requires
calls::body-charge_of-requires t c = c.requires.3

pub calls::body-charge_of-requires-in-Through : goal.calls::body-charge_of-requires-in-Through
calls::body-charge_of-requires-in-Through t c = c.requires.3

pub calls::body-charge_of-requires-in-Returned : goal.calls::body-charge_of-requires-in-Returned
calls::body-charge_of-requires-in-Returned t c = c.requires.3

pub calls::body-charge_of-requires-in-Later : goal.calls::body-charge_of-requires-in-Later
calls::body-charge_of-requires-in-Later t c = c.requires.3

pub calls::body-statement-requires : goal.calls::body-statement-requires
calls::body-statement-requires t c = (omega (arith, c.decreases), c.requires.0)

pub calls::body-left-requires : goal.calls::body-left-requires
calls::body-left-requires t c = (
  through_none _ _ _ _ _ c.in-Through.ensures,
  c.requires.1,
  through_within _ c.args.m.now c.spend_one.new.self c.statement.new.m _ _ _ c.in-Through.ensures
      (c.spend_one.ensures.some c.if-not-spend_one.false).1 c.requires.2,
)

pub calls::body-left-requires-in-Returned : goal.calls::body-left-requires-in-Returned
calls::body-left-requires-in-Returned t c = (
  returned_none _ _ _ _ _ _ c.in-Returned.ensures,
  c.requires.1,
  returned_within _ c.args.m.now c.spend_one.new.self c.statement.new.m _ _ _ _ c.in-Returned.ensures
      (c.spend_one.ensures.some c.if-not-spend_one.false).1 c.requires.2,
)

pub calls::body-returns-then-not-spend_one : goal.calls::body-returns-then-not-spend_one
calls::body-returns-then-not-spend_one t c =
    body_stopped c.waits.result c.later.new.late c.waits.new.late c.args.answer _ c.charge_of.result c.args.caller _
    c.args.m.now c.spend_one.new.self c.charge_of.ensures c.later.ensures.told (c.later.ensures.still ∙ c.requires.0)
    c.waits.ensures c.requires.1 (c.spend_one.ensures.none c.if-not-spend_one.true)

pub calls::body-returns-in-Through : goal.calls::body-returns-in-Through
calls::body-returns-in-Through t c =
    body_ran c.args.answer _ c.charge_of-in-Through.result c.args.caller _ (stmt_view c.get.result.now)
    c.args.m.now c.spend_one.new.self c.charge_of-in-Through.ensures
    (ap stmt_view c.get.ensures) (c.spend_one.ensures.some c.if-not-spend_one.false)
    c.left.result c.statement.new.late c.left.new.late
    (run_of c.statement.new.m) (run_of c.left.new.m) c.left_by.result _ c.left_by.ensures c.in-Through.ensures
    c.left.ensures

pub calls::body-returns-in-Returned : goal.calls::body-returns-in-Returned
calls::body-returns-in-Returned t c =
    body_gave c.args.answer _ c.charge_of-in-Returned.result c.args.caller _ (stmt_view c.get.result.now)
    c.args.m.now c.spend_one.new.self c.charge_of-in-Returned.ensures
    (ap stmt_view c.get.ensures) (c.spend_one.ensures.some c.if-not-spend_one.false)
    c.left-in-Returned.result c.statement.new.late
    c.left-in-Returned.new.late (run_of c.statement.new.m) (run_of c.left-in-Returned.new.m) c.in-Returned.v
    c.left_by-in-Returned.result _ c.left_by-in-Returned.ensures c.in-Returned.ensures c.left-in-Returned.ensures

pub calls::body-returns-in-Later : goal.calls::body-returns-in-Later
calls::body-returns-in-Later t c =
    body_rests c.args.answer _ c.charge_of-in-Later.result c.args.caller _ (stmt_view c.get.result.now)
    c.args.m.now c.spend_one.new.self c.charge_of-in-Later.ensures
    (ap stmt_view c.get.ensures) (c.spend_one.ensures.some c.if-not-spend_one.false)
    c.waits-in-Later.result c.statement.new.late
    c.waits-in-Later.new.late (run_of c.statement.new.m) _ c.waits-in-Later.ensures c.requires.1
    c.in-Later.ensures

pub calls::body-returns-in-NoMemory : goal.calls::body-returns-in-NoMemory
calls::body-returns-in-NoMemory t c = no_memory_is _ _ _ _ _ _ c.lost.ensures

-- ---- statements

pub statements::statement-block-requires : goal.statements::statement-block-requires
statements::statement-block-requires t c = (omega (arith, c.decreases), c.requires)

pub statements::statement-expression-requires : goal.statements::statement-expression-requires
statements::statement-expression-requires t c = (omega (arith, c.decreases), c.requires)

pub statements::statement-returns-in-Block : goal.statements::statement-returns-in-Block
statements::statement-returns-in-Block t c =
    went_as _ _ _ _ _ _ (is_block _ _ _ _ _ c.in-Block.is c.as_slice.ensures c.as_slice-in-Block.ensures)
    c.block.ensures

pub statements::statement-returns-in-Eval : goal.statements::statement-returns-in-Eval
statements::statement-returns-in-Eval t c =
    went_as _ _ _ _ _ _ (is_eval _ _ _ c.in-Eval.is c.get.ensures) c.expression.ensures

pub statements::statement-returns-in_default : goal.statements::statement-returns-in_default
statements::statement-returns-in_default t c =
    went_is _ _ _ _ _ _ c.later.ensures.went
    (went_later c.later.new.late c.args.s (run_of c.args.m.now) c.later.ensures.told
    (c.later.ensures.still ∙ c.requires))

pub statements::expression-compound-requires : goal.statements::expression-compound-requires
statements::expression-compound-requires t c = (omega (arith, c.decreases), c.requires)

pub statements::expression-returns-in-Value : goal.statements::expression-returns-in-Value
statements::expression-returns-in-Value t c =
    drop_came c.compound.new.late (expr_view c.args.e.now) _ (run_of c.args.m.now) (run_of c.compound.new.m)
    c.in-Value.ensures

pub statements::expression-returns-in-Later : goal.statements::expression-returns-in-Later
statements::expression-returns-in-Later t c =
    drop_waits c.rests.result c.compound.new.late c.rests.new.late (expr_view c.args.e.now) (run_of c.args.m.now)
    (run_of c.compound.new.m) c.rests.ensures c.in-Later.ensures

pub statements::expression-returns-in-NoMemory : goal.statements::expression-returns-in-NoMemory
statements::expression-returns-in-NoMemory t c = no_memory_of_statement _ _ _ _ _

pub statements::block-loop-s-init : goal.statements::block-loop-s-init
statements::block-loop-s-init t c =
    runs_first (items_view c.args.variables.now) c.args.late.now (run_of c.args.m.now) c.requires

pub statements::block-loop-s-smaller : goal.statements::block-loop-s-smaller
statements::block-loop-s-smaller t c = omega (arith, c.in-Some.ensures.cases.1)

pub statements::block-loop-s-preserved : goal.statements::block-loop-s-preserved
statements::block-loop-s-preserved t c =
    runs_declared _ _ _ _ _ _ _ _ c.loop-s.invariant c.in-Some.ensures.cases.0 c.in-Through.ensures

pub statements::block-returns-in-NoMemory : goal.statements::block-returns-in-NoMemory
statements::block-returns-in-NoMemory t c = no_memory_of_statement _ _ _ _ _

pub statements::block-returns-in_default-variable : goal.statements::block-returns-in_default-variable
statements::block-returns-in_default-variable t c =
    block_stops c.items_wait.result _ c.later.new.late c.items_wait.new.late _ c.loop-s.rest c.args.list _ _
    (run_of c.variable.new.m)
    (once_still c.variable.result _ _ _ c.in_default-variable.not-Through c.in_default-variable.not-NoMemory
    c.variable.ensures)
    c.loop-s.invariant c.later.ensures.told c.later.ensures.still c.items_wait.ensures

pub statements::block-items-requires : goal.statements::block-items-requires
statements::block-items-requires t c = (omega (arith, c.decreases), c.loop-s.invariant.none)

pub statements::block-returns : goal.statements::block-returns
statements::block-returns t c =
    block_goes c.items.result _ c.items.new.late _ _ (items_view c.args.list.now) _ _ (run_of c.items.new.m)
    c.loop-s.invariant (ap items_view (none_left _ c.in_default.ensures.cases)) c.items.ensures

pub statements::items-loop-s-init : goal.statements::items-loop-s-init
statements::items-loop-s-init t c =
    runs_first (items_view c.args.list.now) c.args.late.now (run_of c.args.m.now) c.requires

pub statements::items-item-requires : goal.statements::items-item-requires
statements::items-item-requires t c = (omega (arith, c.decreases), c.loop-s.invariant.none)

pub statements::items-loop-s-smaller : goal.statements::items-loop-s-smaller
statements::items-loop-s-smaller t c = omega (arith, c.in-Some.ensures.cases.1)

pub statements::items-loop-s-preserved : goal.statements::items-loop-s-preserved
statements::items-loop-s-preserved t c =
    runs_through _ _ _ _ _ _ _ _ _ c.loop-s.invariant c.in-Some.ensures.cases.0 c.in-Through.ensures

pub statements::items-returns-in_default-item : goal.statements::items-returns-in_default-item
statements::items-returns-in_default-item t c =
    runs_otherwise _ _ _ _ _ c.item.result c.item.new.late _ _ (run_of c.item.new.m) c.loop-s.invariant
    c.in-Some.ensures.cases.0 c.in_default-item.not-Through c.item.ensures

pub statements::items-returns : goal.statements::items-returns
statements::items-returns t c =
    runs_ended _ _ _ _ _ c.loop-s.invariant (ap items_view (none_left _ c.in_default.ensures.cases))

pub statements::item-item-requires : goal.statements::item-item-requires
statements::item-item-requires t c = (omega (arith, c.decreases), c.requires)

pub statements::item-item-requires-in-Some-eq0-simple : goal.statements::item-item-requires-in-Some-eq0-simple
statements::item-item-requires-in-Some-eq0-simple t c = (omega (arith, c.decreases), c.requires)

pub statements::item-item-requires-in-Some-simple : goal.statements::item-item-requires-in-Some-simple
statements::item-item-requires-in-Some-simple t c = (omega (arith, c.decreases), c.requires)

pub statements::item-returned-requires : goal.statements::item-returned-requires
statements::item-returned-requires t c = (omega (arith, c.decreases), c.requires)

pub statements::item-plain-requires : goal.statements::item-plain-requires
statements::item-plain-requires t c = (omega (arith, c.decreases), c.requires)

pub statements::item-returns-in-Some-eq0 : goal.statements::item-returns-in-Some-eq0
statements::item-returns-in-Some-eq0 t c =
    item_as _ _ _ _ _ _ _ (is_if _ _ _ _ _ c.in-If.is c.get.ensures refl)
    (if_fails c.args.late.now (expr_view c.get.result.now) (stmt_view c.in-If.t) (items_view c.args.more.now)
    c.in-Some-eq0.field-0 (run_of c.args.m.now) (run_of c.simple.new.m) c.requires c.in-Some-eq0.field-0-test
    c.in-Some-eq0.ensures)

pub statements::item-returns-in-Some : goal.statements::item-returns-in-Some
statements::item-returns-in-Some t c =
    item_as _ _ _ _ _ _ _ (is_if _ _ _ _ _ c.in-If.is c.get.ensures c.get-in-Some.ensures)
    (if_holds c.item.result c.item.new.late (expr_view c.get.result.now) (stmt_view c.get-in-Some.result.now)
    (items_view c.args.more.now) c.in-Some.field-0 (run_of c.args.m.now) (run_of c.simple.new.m)
    (run_of c.item.new.m) c.in-Some.field-0-test.1 c.in-Some.ensures c.item.ensures)

pub statements::item-returns-in-None : goal.statements::item-returns-in-None
statements::item-returns-in-None t c =
    item_stays c.item_later.result c.args.late.now c.item_later.new.late c.args.s c.args.more c.args.m.now
    c.simple.new.m c.requires c.in-None.ensures c.item_later.ensures

pub statements::item-returns-in-Some-eq0-simple : goal.statements::item-returns-in-Some-eq0-simple
statements::item-returns-in-Some-eq0-simple t c =
    item_as _ _ _ _ _ _ _
    (is_other_choice _ _ _ _ _ _ c.in-IfElse.is c.get-in-IfElse.ensures c.get-in-Some-eq0-simple.ensures)
    (else_fails c.item-in-Some-eq0-simple.result c.item-in-Some-eq0-simple.new.late
    (expr_view c.get-in-IfElse.result.now) (stmt_view c.in-IfElse.t) (stmt_view c.get-in-Some-eq0-simple.result.now)
    (items_view c.args.more.now) c.in-Some-eq0-simple.field-0 (run_of c.args.m.now)
    (run_of c.simple-in-IfElse.new.m) (run_of c.item-in-Some-eq0-simple.new.m) c.in-Some-eq0-simple.field-0-test
    c.in-Some-eq0-simple.ensures c.item-in-Some-eq0-simple.ensures)

pub statements::item-returns-in-Some-simple : goal.statements::item-returns-in-Some-simple
statements::item-returns-in-Some-simple t c =
    item_as _ _ _ _ _ _ _
    (is_choice _ _ _ _ _ _ c.in-IfElse.is c.get-in-IfElse.ensures c.get-in-Some-simple.ensures)
    (else_holds c.item-in-Some-simple.result c.item-in-Some-simple.new.late (expr_view c.get-in-IfElse.result.now)
    (stmt_view c.get-in-Some-simple.result.now) (stmt_view c.in-IfElse.u) (items_view c.args.more.now)
    c.in-Some-simple.field-0 (run_of c.args.m.now) (run_of c.simple-in-IfElse.new.m)
    (run_of c.item-in-Some-simple.new.m) c.in-Some-simple.field-0-test.1 c.in-Some-simple.ensures
    c.item-in-Some-simple.ensures)

pub statements::item-returns-in-None-simple : goal.statements::item-returns-in-None-simple
statements::item-returns-in-None-simple t c =
    item_stays c.item_later-in-None-simple.result c.args.late.now c.item_later-in-None-simple.new.late c.args.s
    c.args.more c.args.m.now c.simple-in-IfElse.new.m c.requires c.in-None-simple.ensures
    c.item_later-in-None-simple.ensures

pub statements::item-returns-in-Return : goal.statements::item-returns-in-Return
statements::item-returns-in-Return t c =
    item_as _ _ _ _ _ _ _ (is_return _ c.in-Return.is)
    (item_return c.args.late.now (items_view c.args.more.now) (run_of c.args.m.now) c.requires)

pub statements::item-returns-in-ReturnValue : goal.statements::item-returns-in-ReturnValue
statements::item-returns-in-ReturnValue t c =
    item_as _ _ _ _ _ _ _ (is_return_value _ _ _ c.in-ReturnValue.is c.get-in-ReturnValue.ensures)
    (item_returns c.returned.result c.returned.new.late (expr_view c.get-in-ReturnValue.result.now)
    (items_view c.args.more.now) (run_of c.args.m.now) (run_of c.returned.new.m) c.returned.ensures)

pub statements::item-returns-in_default : goal.statements::item-returns-in_default
statements::item-returns-in_default t c = c.plain.ensures

pub statements::plain-statement-requires : goal.statements::plain-statement-requires
statements::plain-statement-requires t c = (omega (arith, c.decreases), c.requires)

pub statements::plain-returns-in-Later-statement : goal.statements::plain-returns-in-Later-statement
statements::plain-returns-in-Later-statement t c =
    plain_waits c.items_wait.result c.statement.new.late c.items_wait.new.late (stmt_view c.args.s.now) c.args.more
    (run_of c.args.m.now) (run_of c.whole.new.m) (run_of c.statement.new.m) c.in-Later.ensures c.items_wait.ensures
    c.in-Later-statement.ensures

pub statements::plain-returns-in_default-statement : goal.statements::plain-returns-in_default-statement
statements::plain-returns-in_default-statement t c =
    plain_goes c.statement.result c.statement.new.late (stmt_view c.args.s.now) (items_view c.args.more.now)
    (run_of c.args.m.now) (run_of c.whole.new.m) (run_of c.statement.new.m) c.in-Later.ensures
    c.in_default-statement.not-Later c.statement.ensures

pub statements::plain-returns-in_default : goal.statements::plain-returns-in_default
statements::plain-returns-in_default t c =
    once_item c.whole.result c.args.late.now (stmt_view c.args.s.now) (items_view c.args.more.now)
    (run_of c.args.m.now) (run_of c.whole.new.m) c.requires c.in_default.not-Later c.whole.ensures
