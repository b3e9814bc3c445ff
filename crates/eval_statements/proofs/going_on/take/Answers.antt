-- What each frame makes of a value.
use Rattle.std.proofs.Common.{ap}
use Rattle.eval_state.specs.Views.{statement_frame}
use Rattle.eval_statements.proofs.Taken as done
use Rattle.eval_statements.proofs.going_on.take.Goals as goal

pub returns-in-Drop : goal.returns-in-Drop
returns-in-Drop c = done.dropped _ _ _ (ap statement_frame c.in-Drop.is)

pub returns-then-v-eq0 : goal.returns-then-v-eq0
returns-then-v-eq0 c = done.if_fails _ _ _ _ (ap statement_frame c.in-If.is) c.if-v-eq0.true

pub returns-else-v-eq0 : goal.returns-else-v-eq0
returns-else-v-eq0 c = done.if_holds _ _ _ _ (ap statement_frame c.in-If.is) c.if-v-eq0.false

pub returns-then-v-eq0-2 : goal.returns-then-v-eq0-2
returns-then-v-eq0-2 c =
    done.else_chosen _ _ _ _ _ (ap statement_frame c.in-IfElse.is) c.if-v-eq0-2.true

pub returns-else-v-eq0-2 : goal.returns-else-v-eq0-2
returns-else-v-eq0-2 c = done.then_chosen _ _ _ _ _ (ap statement_frame c.in-IfElse.is) c.if-v-eq0-2.false

pub returns-in-Test : goal.returns-in-Test
returns-in-Test c = done.takes _ _ _ _ _ _ (ap statement_frame c.in-Test.is) c.test.ensures

pub returns-in-Step : goal.returns-in-Step
returns-in-Step c = done.stepped _ _ _ _ _ _ _ _ _ (ap statement_frame c.in-Step.is) c.turned.ensures

pub returns-in-RoundTest : goal.returns-in-RoundTest
returns-in-RoundTest c = done.rounded _ _ _ _ _ _ _ _ (ap statement_frame c.in-RoundTest.is) c.rounded.ensures

pub returns-in-ContinuedTest : goal.returns-in-ContinuedTest
returns-in-ContinuedTest c = done.takes _ _ _ _ _ _ (ap statement_frame c.in-ContinuedTest.is) c.again.ensures

pub returns-in-Switch : goal.returns-in-Switch
returns-in-Switch c =
    done.declares _ _ _ _ _ _ _ (ap statement_frame c.in-Switch.is) c.push.ensures.same c.push.ensures.units
    c.push.ensures.less

pub returns-in-Return : goal.returns-in-Return
returns-in-Return c = done.returned _ _ _ (ap statement_frame c.in-Return.is)
