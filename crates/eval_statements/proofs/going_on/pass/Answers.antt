-- What each frame makes of the way that a statement was left.
use Rattle.std.proofs.Common.{ap}
use Rattle.eval_state.specs.Run.{run_of}
use Rattle.eval_state.specs.Views.{end_frame, flow_view}
use Rattle.eval_statements.proofs.Ended as done
use Rattle.eval_statements.proofs.going_on.pass.Goals as goal

pub returns-in-Normal : goal.returns-in-Normal
returns-in-Normal c = done.runs _ _ _ _ (ap end_frame c.in-Rest.is) (ap flow_view c.in-Normal.is)

pub returns-in-Broke : goal.returns-in-Broke
returns-in-Broke c =
    done.item_broken _ _ _ _ (ap end_frame c.in-Rest.is) (ap flow_view c.in-Broke.is)

pub returns-in-Continued : goal.returns-in-Continued
returns-in-Continued c =
    done.item_continued _ _ _ _ (ap end_frame c.in-Rest.is) (ap flow_view c.in-Continued.is)

pub returns-in-Normal-left : goal.returns-in-Normal-left
returns-in-Normal-left c =
    done.turn_goes_on _ _ _ _ _ _ _ _ _ (ap end_frame c.in-Turn.is) (ap flow_view c.in-Normal-left.is)
    c.step_on.ensures

pub returns-in-Broke-left : goal.returns-in-Broke-left
returns-in-Broke-left c =
    done.loop_broken _ _ (run_of c.args.m.now) _ (run_of c.spend.new.self) c.spend.ensures.units c.spend.ensures.less
    c.spend.ensures.same _ _ _ _ (ap end_frame c.in-Turn.is) (ap flow_view c.in-Broke-left.is)

pub returns-in-Continued-left : goal.returns-in-Continued-left
returns-in-Continued-left c =
    done.turn_continued _ _ _ _ _ _ _ _ _ (ap end_frame c.in-Turn.is) (ap flow_view c.in-Continued-left.is)
    c.step_on-in-Continued-left.ensures

pub returns-in-Normal-left-2 : goal.returns-in-Normal-left-2
returns-in-Normal-left-2 c =
    done.round_tested _ _ _ _ _ _ _ _ c.push.ensures.same c.push.ensures.units c.push.ensures.less
    (ap end_frame c.in-Round.is) (ap flow_view c.in-Normal-left-2.is)

pub returns-in-Broke-left-2 : goal.returns-in-Broke-left-2
returns-in-Broke-left-2 c =
    done.round_broken _ _ (run_of c.args.m.now) _ (run_of c.spend-in-Broke-left-2.new.self)
    c.spend-in-Broke-left-2.ensures.units c.spend-in-Broke-left-2.ensures.less c.spend-in-Broke-left-2.ensures.same
    _ _ _ (ap end_frame c.in-Round.is) (ap flow_view c.in-Broke-left-2.is)

pub returns-in-Continued-left-2 : goal.returns-in-Continued-left-2
returns-in-Continued-left-2 c =
    done.round_continued _ _ _ _ _ _ _ _ (ap end_frame c.in-Round.is) (ap flow_view c.in-Continued-left-2.is)
    c.continued.ensures

pub returns-in-Normal-left-3 : goal.returns-in-Normal-left-3
returns-in-Normal-left-3 c =
    done.chooses _ _ _ _ _ _ _ (ap end_frame c.in-Chosen.is) (ap flow_view c.in-Normal-left-3.is)
    c.choose.ensures.same c.choose.ensures.units c.choose.ensures.less

pub returns-in-Broke-left-3 : goal.returns-in-Broke-left-3
returns-in-Broke-left-3 c =
    done.choice_broken _ _ _ _ _ (ap end_frame c.in-Chosen.is) (ap flow_view c.in-Broke-left-3.is)

pub returns-in-Continued-left-3 : goal.returns-in-Continued-left-3
returns-in-Continued-left-3 c =
    done.choice_continued _ _ _ _ _ (ap end_frame c.in-Chosen.is) (ap flow_view c.in-Continued-left-3.is)

pub returns-in-Normal-left-4 : goal.returns-in-Normal-left-4
returns-in-Normal-left-4 c =
    done.switch_over _ _ _ (ap end_frame c.in-SwitchEnd.is) (ap flow_view c.in-Normal-left-4.is)

pub returns-in-Broke-left-4 : goal.returns-in-Broke-left-4
returns-in-Broke-left-4 c =
    done.switch_broken _ _ _ (ap end_frame c.in-SwitchEnd.is) (ap flow_view c.in-Broke-left-4.is)

pub returns-in-Continued-left-4 : goal.returns-in-Continued-left-4
returns-in-Continued-left-4 c =
    done.switch_continued _ _ _ (ap end_frame c.in-SwitchEnd.is) (ap flow_view c.in-Continued-left-4.is)
