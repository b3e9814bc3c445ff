use Rattle.wf_growth_rules.proofs.Expressions.{block_light, call_light, tick_light, tick_block_light, unary_light}
use Rattle.wf_growth_rules.proofs.Expressions.{binary_light, cast_light}
use Rattle.wf_growth_rules.proofs.expressions_are_light.Goals as goal

pub returns : goal.returns
returns c = record {
  block = λ w. block_light;
  call = λ v w. call_light;
  tick = λ w. tick_light;
  tick_block = λ w. tick_block_light;
  unary = λ w. unary_light;
  binary = λ v w. binary_light;
  cast = λ v w. cast_light;
}
