use Rattle.wf_ready.proofs.Built.{function_built}
use Rattle.wf_ready.proofs.Scoped.{body_scoped}
use Rattle.wf_ready.proofs.Used.{stmt_uses}
use Rattle.wf_ready.proofs.Placed.{body_placed}
use Rattle.wf_ready.proofs.Headed.{body_headed}
use Rattle.wf_ready.proofs.Dense.{variables_few}
use Rattle.wf_ready.proofs.Calls.{function_calls}
use Rattle.wf_ready.proofs.Ticks.{function_ticks}
use Rattle.wf_ready.proofs.Frames.{function_frames}
use Rattle.wf_ready.proofs.Words.{function_whole}
use Rattle.wf_ready.proofs.functions_are_ready_in.Goals as goal

pub returns : goal.returns
returns c = λ p ticks f h. record {
  ready = record {
    built = function_built p ticks f h;
    scoped = body_scoped p ticks f h;
    values = stmt_uses f.body h.values;
    placed = body_placed p ticks f h;
    small = h.small;
    dense = variables_few f.body h.numbers;
  };
  calls = function_calls p ticks f h;
  ticks_are = function_ticks p ticks f h;
  frames = function_frames p ticks f h;
  headed = body_headed p ticks f h;
  few = h.few;
  short = h.short;
  whole = function_whole p ticks f h;
}
