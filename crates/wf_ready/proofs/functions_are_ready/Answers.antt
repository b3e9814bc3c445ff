use Rattle.wf_ready.proofs.Built.{function_built}
use Rattle.wf_ready.proofs.Scoped.{body_scoped}
use Rattle.wf_ready.proofs.Used.{stmt_uses}
use Rattle.wf_ready.proofs.Placed.{body_placed}
use Rattle.wf_ready.proofs.Dense.{variables_few}
use Rattle.wf_ready.proofs.functions_are_ready.Goals as goal

pub returns : goal.returns
returns c = λ p ticks f h. record {
  built = function_built p ticks f h;
  scoped = body_scoped p ticks f h;
  values = stmt_uses f.body h.values;
  placed = body_placed p ticks f h;
  small = h.small;
  dense = variables_few f.body h.numbers;
}
