use Rattle.wf_ready.proofs.Frames.{function_frames}
use Rattle.wf_ready.proofs.Words.{function_whole}
use Rattle.wf_ready.proofs.frames_are_within.Goals as goal

pub returns : goal.returns
returns c = λ p ticks f h. (function_frames p ticks f h, function_whole p ticks f h)
