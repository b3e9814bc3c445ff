use Rattle.std.proofs.lemmas.Result.{on_ok_weaker}
use Rattle.eval_state.proofs.Waits.{last_may, settled}
use Rattle.eval_state.proofs.state.Machine.settle_last.Goals as goal

pub wait-requires : goal.wait-requires
wait-requires c =
    last_may c.args.waiting.now c.pop.new.self c.in-Some.entry c.args.self.now c.requires.1 c.requires.2
    c.in-Some.ensures

pub returns-in-Some : goal.returns-in-Some
returns-in-Some c =
    on_ok_weaker c.wait.result
    (λ parts. settled c.args.waiting.now c.pop.new.self c.in-Some.entry c.args.self.now c.requires.1 c.requires.2
    c.in-Some.ensures c.wait.new.self parts)
    c.wait.ensures.parts
