use Rattle.std.proofs.Common.{refl, ap, ◌∙◌}
use Rattle.std.proofs.lemmas.Result.{on_ok_weaker}
use Rattle.staged_meaning.specs.World.{with_generated}
use Rattle.eval_state.specs.declared.state.Parts.{Parts}
use Rattle.eval_state.specs.Run.{in_world, run_of, world}
use Rattle.eval_state.proofs.Keys.{sets_key}
use Rattle.eval_state.proofs.state.Machine.set_generated.Goals as goal

pub returns : goal.returns
returns c =
    let p = c.self.inside.parts in
    let v = c.args.v in
    on_ok_weaker c.set.result
    (λ k. sets_key p (record p { body = record p.body { generated = c.set.new.self } }) c.set.new.self
    c.key-key.result v refl k
    ∙ ap (λ (p : Parts). in_world (with_generated c.key-key.result v (world (run_of p))) (run_of p)) c.self.view_is
    ∙ ap (λ key. in_world (with_generated key v (world (run_of c.args.self.now))) (run_of c.args.self.now))
    c.key-key.ensures)
    c.set.ensures
