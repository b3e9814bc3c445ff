use Rattle.std.proofs.Common.{ap, sym, ◌∙◌}
use Rattle.eval_state.specs.declared.state.Parts.{Parts}
use Rattle.eval_state.specs.Run.{run_of, world}
use Rattle.eval_state.proofs.Keys.{reads_key}
use Rattle.eval_state.proofs.state.Machine.generated.Goals as goal

pub returns : goal.returns
returns c =
    c.get.ensures
    ∙ sym (reads_key c.self.inside.parts c.key.result)
    ∙ ap (λ (p : Parts). (world (run_of p)).generated c.key.result) c.self.view_is
    ∙ ap (λ k. (world (run_of c.args.self.now)).generated k) c.key.ensures
