-- The function of a tick on the machine itself.
use Rattle.std.proofs.Common.{ap, ◌∙◌}
use Rattle.mips_model.specs.State.{Outside}
use Rattle.generator_laws.specs.Calls.{issuing}
use Rattle.generator_laws.specs.Pieces.{syntax_ops}
use Rattle.routine_spec.specs.Generator.{syntax_cost}
use Rattle.generator_laws.specs.Laws.{SpecificationsAreIssued}
use Rattle.generator_laws.proofs.Generating.{generated}
use Rattle.generator_laws.proofs.Makings.{runs_made, ops_obeyed, ops_built, ops_issued, ops_counted}

pub specifications_issued : SpecificationsAreIssued
specifications_issued text pieces ticks c shared syntax number top d b has hs whole is enters there taken =
    let ops = syntax_ops pieces syntax in
    let g = generated text pieces ticks c shared syntax number top d has hs whole is enters in
    let m = runs_made (issuing ops) (syntax_cost pieces syntax) _ _ g.runs (ops_obeyed ops d.outside b there taken) in
    record {
      after = g.after;
      reaches = m.reaches;
      leaves = g.leaves;
      built = ap (λ (o : Outside). o.making.generator.build) m.passed ∙ ops_built ops d.outside b there;
      issued = ap (λ (o : Outside). o.making.issued) m.passed ∙ ops_issued ops d.outside;
      counted = ap (λ (o : Outside). o.making.ops) m.passed ∙ ops_counted ops d.outside;
    }
