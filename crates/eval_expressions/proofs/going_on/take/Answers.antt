-- What each frame makes of a value.
use Rattle.std.proofs.Common.{ap}
use Rattle.eval_state.specs.Views.{expression_frame}
use Rattle.eval_expressions.proofs.Frames as frame
use Rattle.eval_expressions.proofs.Taken as done
use Rattle.eval_expressions.proofs.going_on.take.Goals as goal

pub returns-in-SetVar : goal.returns-in-SetVar
returns-in-SetVar c = done.takes _ _ _ _ _ _ (ap expression_frame c.in-SetVar.is) c.set_variable.ensures

pub returns-in-SetGenerated : goal.returns-in-SetGenerated
returns-in-SetGenerated c = done.takes _ _ _ _ _ _ (ap expression_frame c.in-SetGenerated.is) c.set_generated.ensures

pub returns-in-Load : goal.returns-in-Load
returns-in-Load c = done.take _ _ _ _ _ _ (ap expression_frame c.in-Load.is) c.load.ensures

pub returns-in-StoreAddress : goal.returns-in-StoreAddress
returns-in-StoreAddress c =
    done.takes _ _ _ _ _ _ (ap expression_frame c.in-StoreAddress.is) (frame.goes _ _ _ _ _ _ _ (frame.store_value _
    _ _ _) c.wait.ensures)

pub returns-in-StoreValue : goal.returns-in-StoreValue
returns-in-StoreValue c = done.put _ _ _ _ _ _ _ (ap expression_frame c.in-StoreValue.is) c.put.ensures

pub returns-in-ModifyAddress : goal.returns-in-ModifyAddress
returns-in-ModifyAddress c = done.takes _ _ _ _ _ _ (ap expression_frame c.in-ModifyAddress.is) c.modify.ensures

pub returns-in-ModifyValue : goal.returns-in-ModifyValue
returns-in-ModifyValue c = done.take _ _ _ _ _ _ (ap expression_frame c.in-ModifyValue.is) c.modified.ensures

pub returns-in-Post : goal.returns-in-Post
returns-in-Post c = done.take _ _ _ _ _ _ (ap expression_frame c.in-Post.is) c.post.ensures

pub returns-in-First : goal.returns-in-First
returns-in-First c = done.takes _ _ _ _ _ _ (ap expression_frame c.in-First.is) c.first.ensures

pub returns-in-Second : goal.returns-in-Second
returns-in-Second c = done.take _ _ _ _ _ _ (ap expression_frame c.in-Second.is) c.second.ensures

pub returns-in-Un : goal.returns-in-Un
returns-in-Un c = done.unary _ _ _ _ _ _ _ (ap expression_frame c.in-Un.is) c.unary_value.ensures c.give.ensures

pub returns-in-And : goal.returns-in-And
returns-in-And c = done.takes _ _ _ _ _ _ (ap expression_frame c.in-And.is) c.both.ensures

pub returns-in-Or : goal.returns-in-Or
returns-in-Or c = done.takes _ _ _ _ _ _ (ap expression_frame c.in-Or.is) c.either.ensures

pub returns-in-Truth : goal.returns-in-Truth
returns-in-Truth c = done.take _ _ _ _ _ _ (ap expression_frame c.in-Truth.is) c.truth.ensures

pub returns-in-Cond : goal.returns-in-Cond
returns-in-Cond c = done.takes _ _ _ _ _ _ (ap expression_frame c.in-Cond.is) c.choice.ensures

pub returns-in-Spend : goal.returns-in-Spend
returns-in-Spend c = done.standing _ _ _ _ _ (ap expression_frame c.in-Spend.is) c.give-in-Spend.ensures

pub returns-in-Comma : goal.returns-in-Comma
returns-in-Comma c = done.comma _ _ _ _ (ap expression_frame c.in-Comma.is)

pub returns-in-Void : goal.returns-in-Void
returns-in-Void c = done.void _ _ _ (ap expression_frame c.in-Void.is)

pub returns-in-Lib : goal.returns-in-Lib
returns-in-Lib c = done.takes _ _ _ _ _ _ (ap expression_frame c.in-Lib.is) c.library.ensures

pub returns-in-Compile : goal.returns-in-Compile
returns-in-Compile c =
    done.compile _ _ _ _ _ (ap expression_frame c.in-Compile.is) c.compile.ensures.same c.compile.ensures.units
    c.compile.ensures.less

pub returns-in-ParamOf : goal.returns-in-ParamOf
returns-in-ParamOf c =
    done.parameter _ _ _ _ _ (ap expression_frame c.in-ParamOf.is) c.specify_parameter.ensures.same
    c.specify_parameter.ensures.units c.specify_parameter.ensures.less

pub returns-in-Function : goal.returns-in-Function
returns-in-Function c =
    done.function _ _ _ _ _ _ _ (ap expression_frame c.in-Function.is) c.first_argument.ensures

pub returns-in_ok-push-in-Argument : goal.returns-in_ok-push-in-Argument
returns-in_ok-push-in-Argument c =
    done.argument _ _ _ _ _ _ _ _ _ (ap expression_frame c.in-Argument.is) c.in_ok-push-in-Argument.ensures.ok
    c.next_argument.ensures
