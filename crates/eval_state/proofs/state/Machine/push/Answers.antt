use Rattle.std.proofs.Common.{◌+◌, ◌≤◌, ap, sym, subst, ◌∙◌}
use Rattle.eval_state.specs.Less.{heft, waiting}
use Rattle.eval_state.specs.Run.{Run, outcome, run_of}
use Rattle.eval_state.specs.Views.{frame_view, now_view}
use Rattle.eval_state.proofs.Runs.{push_leads}
use Rattle.eval_state.proofs.Weighs.{push_weighs}
use Rattle.eval_state.proofs.state.Machine.push.Goals as goal

pub returns-clause-same : goal.returns-clause-same
returns-clause-same c =
    ap (λ (r : Run). outcome (now_view c.args.next) r) c.in_ok-wait.ensures.run
    ∙ push_leads (run_of c.args.self.now) c.args.frame (now_view c.args.next)

pub returns-clause-units : goal.returns-clause-units
returns-clause-units c = ap (λ (r : Run). r.state.units) c.in_ok-wait.ensures.run

pub returns-clause-less : goal.returns-clause-less
returns-clause-less c =
    let old = run_of c.args.self.now in
    let next = now_view c.args.next in
    subst (λ (r : Run). heft next r ≤ heft next old + waiting (frame_view c.args.frame) old)
    (sym c.in_ok-wait.ensures.run) (push_weighs old c.args.frame next)
