-- What becomes of a value, or of the end of a statement, where what waited for it was taken off.
use Rattle.std.specs.Prelude.{ℕ}
use Rattle.staged_meaning.specs.Expressions.{left_by}
use Rattle.staged_meaning.specs.World.{Result, Gives, Returns, spend}
use Rattle.eval_state.specs.Rest.{Signal, Value, after, valued, value_of}
use Rattle.eval_state.specs.declared.parts.Popped.{Popped}
use Rattle.eval_state.specs.declared.parts.Popped.TheVariants as popped
use Rattle.eval_state.specs.Less.{waiting}
use Rattle.eval_state.specs.Run.{Run, here, world}
use Rattle.eval_state.specs.Views.{frame_view}

-- where a body is left by its end, or with a value
abbrev pub arrives : Popped → Signal → Run → Result Signal
arrives (popped.Inside f) x r = after (here r) (frame_view f) (Gives x (world r))
arrives (popped.Called a) x r = valued (spend (left_by a (value_of x)) (world r))
arrives (popped.Spliced a) x r = Gives (Value (left_by a (value_of x))) (world r)

-- where a function is left by a return
abbrev pub returned : Popped → (value : ℕ) → Run → Result Signal
returned (popped.Called a) v r = valued (spend (left_by a v) (world r))
returned _ v r = Returns v (world r)

-- what was pending with it
abbrev pub taken : Popped → Run → ℕ
taken (popped.Inside f) r = waiting (frame_view f) r
taken _ r = 1
