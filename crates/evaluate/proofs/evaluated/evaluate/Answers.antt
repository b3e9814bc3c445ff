use Rattle.std.proofs.Common.{◌≡◌, Some, false}
use Rattle.history.specs.Events.{Input}
use Rattle.typed_tree.specs.View.{stmt_view}
use Rattle.staged_meaning.specs.Meaning.{Program}
use Rattle.staged_meaning.specs.Source.{program_view}
use Rattle.eval_state.specs.Begins.{first_run}
use Rattle.eval_state.specs.Run.{run_of}
use Rattle.evaluate.proofs.Ends.{evaluates}
use Rattle.evaluate.proofs.evaluated.evaluate.Goals as goal

pub returns : goal.returns
returns c = λ (p : Program) (h : program_view c.args.typed.now ≡ Some p).
    let input : Input = record { bytes = c.args.input.now; failing = false } in
    let begins : run_of c.in_ok-machine.machine ≡ first_run p input c.args.units = c.in_ok-machine.ensures p h in
    evaluates p input c.args.units (run_of c.in_ok-machine.machine) (run_of c.spend-first.new.self)
    (run_of c.finish.new.m) (stmt_view c.main-main.result.now) c.spend-first.result c.in_ok-last.last begins
    c.main-main.ensures c.spend-first.ensures.same c.in_ok-last.ensures.same c.in_ok-last.ensures.over
