-- How much of a run is pending, by its weight. A step of an evaluation makes it less, or spends a unit; so an
-- evaluation with so many units ends.
use Rattle.std.specs.Prelude.{ℕ, ◌+◌}
use Rattle.eval_state.specs.Pending as pending
use Rattle.eval_state.specs.Pending.{Now, Frame}
use Rattle.eval_state.specs.Rest.{place_of}
use Rattle.eval_state.specs.Burden.{capture_weight, weight, load, weights}
use Rattle.eval_state.specs.Run.{Run}

-- what is still to begin of what is done now, in the active body
abbrev pub loaded : Now → Run → ℕ
loaded n r = load (capture_weight r.program.ticks r.state.body.captures) n

-- a frame that waits for it
abbrev pub waiting : Frame → Run → ℕ
waiting f r = weight (capture_weight r.program.ticks r.state.body.captures) f

-- all that is pending
abbrev pub held : Run → ℕ
held r = weights r.program.ticks (place_of r.state) r.state.frames

-- all that is still to begin; of a run that is over, nothing
abbrev pub heft : Now → Run → ℕ
heft (pending.Ended e) r = 0
heft pending.Stopped r = 0
heft n r = loaded n r + held r
