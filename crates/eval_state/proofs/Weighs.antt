-- What is pending gets no heavier where a frame is pushed, a unit is spent, or the world alone changes.
use Rattle.std.proofs.Common.{◌≡◌, ◌+◌, ◌≤◌, ap, ◌∙◌, arith}
use Rattle.eval_state.specs.Pending as pending
use Rattle.eval_state.specs.Pending.{Now}
use Rattle.eval_state.specs.Rest.{place_of}
use Rattle.eval_state.specs.Burden.{weights}
use Rattle.eval_state.proofs.Burdens.{weights_push}
use Rattle.eval_state.specs.declared.parts.Frame.{Frame}
use Rattle.eval_state.specs.Less.{heft, held, waiting}
use Rattle.eval_state.specs.Run.{Run, pushed}
use Rattle.eval_state.specs.Views.{frame_view}
use Rattle.eval_state.proofs.Runs.{inside_stays}

-- a frame more
pub held_pushed : (r : Run) (f : Frame) → held (pushed (frame_view f) r) ≡ held r + waiting (frame_view f) r
held_pushed r f =
    weights_push r.program.ticks (place_of r.state) r.state.frames (frame_view f)
    ∙ ap (λ p. weights r.program.ticks p r.state.frames + waiting (frame_view f) r)
    (inside_stays f (place_of r.state))

pub push_weighs : (r : Run) (f : Frame) (n : Now)
    → heft n (pushed (frame_view f) r) ≤ heft n r + waiting (frame_view f) r
push_weighs r f (pending.Ended e) = omega arith
push_weighs r f pending.Stopped = omega arith
push_weighs r f _ = omega (arith, held_pushed r f)
