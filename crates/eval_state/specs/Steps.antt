-- What comes of a run in which an expression or a statement begins, and of one in which a frame takes a value or the
-- end of a statement. The names stay closed: what stands on the steps of a kind of node need not look into them.
use Rattle.std.specs.Prelude.{ℕ}
use Rattle.typed_tree.specs.Nodes.{Expr, Stmt}
use Rattle.staged_meaning.specs.World.{Result, Gives, Flow}
use Rattle.eval_state.specs.Pending.{Eval, Exec, Frame}
use Rattle.eval_state.specs.Rest.{Signal, Value, Left, after}
use Rattle.eval_state.specs.Run.{Run, here, world, leads, outcome}

unfoldable pub begun : Expr → Run → Result Signal
begun e r = outcome (Eval e) r

unfoldable pub executed : Stmt → Run → Result Signal
executed s r = outcome (Exec s) r

unfoldable pub taken : Frame → (value : ℕ) → Run → Result Signal
taken f v r = leads r (after (here r) f (Gives (Value v) (world r)))

unfoldable pub ended : Frame → Flow → Run → Result Signal
ended f flow r = leads r (after (here r) f (Gives (Left flow) (world r)))
