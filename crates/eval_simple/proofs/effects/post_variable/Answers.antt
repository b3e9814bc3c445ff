use Rattle.std.proofs.Common.{refl}
use Rattle.eval_state.specs.Run.{run_of}
use Rattle.eval_simple.proofs.Done.{steps}
use Rattle.eval_simple.proofs.effects.post_variable.Goals as goal

pub returns : goal.returns
returns c =
    steps (run_of c.args.m.now) (run_of c.spend_one.new.self) (run_of c.set_variable.new.self) c.args.i
    c.variable-old.result c.args.step c.narrowed-new.result c.args.width c.variable-old.ensures
    (c.if-not-spend_one.ensures.some refl).0 c.narrowed-new.ensures (c.if-not-spend_one.ensures.some refl).1
    c.in_ok-set_variable.ensures
