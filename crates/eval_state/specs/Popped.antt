-- What a run is behind what was taken off, where a body was left by its end or with a value, and where a function is
-- left by a return.
use Rattle.std.specs.Prelude.{◌≡◌, ℕ, suc, List}
use Rattle.meaning_state.specs.Shared.{discharged}
use Rattle.staged_meaning.specs.Expressions.{left_by}
use Rattle.staged_meaning.specs.World.{Gives, Returns, spend}
use Rattle.eval_state.specs.Pending.{Body, Frame}
use Rattle.eval_state.specs.Rest.{Signal, Value, valued, value_of}
use Rattle.eval_state.specs.declared.parts.Popped.{Popped}
use Rattle.eval_state.specs.declared.parts.Popped.TheVariants as popped
use Rattle.eval_state.specs.Run.{Run, leads, pushed, world}
use Rattle.eval_state.specs.Views.{frame_view}

abbrev pub IsEnded : Popped → Run → Run → Type 0
IsEnded (popped.Inside f) r s = r ≡ pushed (frame_view f) s
IsEnded (popped.Called a) r s =
    (x : Signal) → leads r (Gives x (world r)) ≡ leads s (valued (spend (left_by a (value_of x)) (world s)))
IsEnded (popped.Spliced a) r s =
    (x : Signal) → leads r (Gives x (world r)) ≡ leads s (Gives (Value (left_by a (value_of x))) (world s))

abbrev pub IsLeft : Popped → Run → Run → Type 0
IsLeft (popped.Inside f) r s = r ≡ pushed (frame_view f) s
IsLeft (popped.Called a) r s =
    (v : ℕ) → leads r (Returns v (world r)) ≡ leads s (valued (spend (left_by a v) (world s)))
IsLeft (popped.Spliced a) r s = (v : ℕ) → leads r (Returns v (world r)) ≡ leads s (Returns v (world s))

-- the caller's body is active again, behind its frames
abbrev pub back_to : (charge : ℕ) → Body → List Frame → Run → Run
back_to charge caller frames r = record r {
  state = record {
    body = caller;
    shared = discharged charge r.state.body.object r.state.shared;
    units = r.state.units;
    depth = suc r.state.depth;
    frames = frames;
  };
}
