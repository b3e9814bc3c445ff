use Rattle.std.proofs.Common.{ap, sym, ◌∙◌}
use Rattle.typed_tree.specs.View.{stmt_view}
use Rattle.eval_state.specs.declared.state.Parts.{Parts}
use Rattle.eval_state.specs.Run.{run_of}
use Rattle.eval_state.proofs.Starts.{main_body}
use Rattle.eval_state.proofs.state.Machine.main.Goals as goal

pub returns : goal.returns
returns c =
    ap stmt_view c.get.ensures
    ∙ sym (main_body c.self.inside.parts)
    ∙ ap (λ (p : Parts). (run_of p).program.main.body) c.self.view_is
