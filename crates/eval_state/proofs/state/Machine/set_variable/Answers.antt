use Rattle.std.proofs.Common.{refl, ap, ◌∙◌}
use Rattle.std.proofs.lemmas.Result.{on_ok_weaker}
use Rattle.staged_meaning.specs.World.{with_variable}
use Rattle.eval_state.specs.declared.state.Parts.{Parts}
use Rattle.eval_state.specs.Run.{in_world, run_of, world}
use Rattle.eval_state.proofs.Changes.{sets_variable}
use Rattle.eval_state.proofs.state.Machine.set_variable.Goals as goal

pub returns : goal.returns
returns c =
    let p = c.self.inside.parts in
    on_ok_weaker c.put.result
    (λ k. sets_variable p (record p { body = record p.body { variables = c.put.new.words } }) c.put.new.words c.args.i
    c.args.v refl k
    ∙ ap (λ (p : Parts). in_world (with_variable c.args.i c.args.v (world (run_of p))) (run_of p)) c.self.view_is)
    c.put.ensures
