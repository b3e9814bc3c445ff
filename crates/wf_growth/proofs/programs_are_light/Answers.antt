use Rattle.wf_growth.proofs.Functions.{parameters_fresh, begun_fresh}
use Rattle.wf_growth.proofs.Given.{parameters_few}
use Rattle.wf_growth.proofs.Programs.{external_light, walk_light}
use Rattle.wf_growth_rules.proofs.Few.{items_light}
use Rattle.wf_growth.proofs.Starts.{start_light, again_light, ticks_few}
use Rattle.wf_growth.proofs.programs_are_light.Goals as goal

pub returns : goal.returns
returns c = record {
  parameters = parameters_fresh;
  given = parameters_few;
  body = λ w. begun_fresh;
  items = items_light;
  external = external_light;
  walk = walk_light;
  start = start_light;
  again = again_light;
  ticks = ticks_few;
}
