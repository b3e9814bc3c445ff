use Rattle.std.proofs.Common.{[]}
use Rattle.check_declarators.specs.Making as spec
use Rattle.check_declarators.proofs.Takes.{step_made, step_worst, step_size}
use Rattle.check_declarators.proofs.making.take.Goals as goal

pub loop-step-preserved : goal.loop-step-preserved
loop-step-preserved c =
    let ss = c.pop.new.self in
    let s = c.in-Some.step in
    let b = c.args.base in
    let l = c.layer_of-layer.result in
    let ls = c.loop-step.layers in
    let next = c.push.new.self in
    record {
      layers = step_made c.loop-step.steps ss s l ls next (spec.made c.args.steps []) c.in-Some.ensures
          c.layer_of-layer.ensures c.in_ok-push.ensures.ok c.loop-step.invariant.layers;
      worst = step_worst c.loop-step.steps ss s b l ls c.as_slice.result.now next c.loop-step.worst c.breaks.result
          c.lower-worst.result (spec.worst c.args.steps b []) c.in-Some.ensures c.layer_of-layer.ensures
          c.as_slice.ensures c.breaks.ensures c.lower-worst.ensures c.in_ok-push.ensures.ok c.loop-step.invariant.worst;
      size = step_size b l ls c.as_slice-in-Some.result.now next c.grown-size.result c.as_slice-in-Some.ensures
          c.grown-size.ensures c.in_ok-push.ensures.ok;
    }
