use Rattle.std.proofs.Common.{ap, sym, ◌∙◌}
use Rattle.eval_state.specs.declared.state.Parts.{Parts}
use Rattle.eval_state.specs.Run.{run_of, world}
use Rattle.eval_state.proofs.Changes.{units_are}
use Rattle.eval_state.proofs.state.Machine.units.Goals as goal

pub returns : goal.returns
returns c =
    sym (units_are c.self.inside.parts) ∙ ap (λ (p : Parts). (world (run_of p)).units) c.self.view_is
