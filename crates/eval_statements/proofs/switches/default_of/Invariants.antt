use Rattle.std.proofs.Common.{◌≡◌, ◌≤◌, ℕ, length}
use Rattle.staged_meaning.specs.Meaning.{Context}
use Rattle.staged_meaning.specs.Statements.{exec_default}
use Rattle.staged_meaning.specs.World.{World}
use Rattle.eval_state.specs.Burden.{weight_of_items}
use Rattle.eval_state.specs.Views.{items_view}
use Rattle.eval_statements.proofs.switches.default_of.Given as goal

abbrev pub invariant-loop-s : goal.invariant-loop-s
invariant-loop-s l = record {
  items : (c : Context) (w : World) → exec_default c (items_view l.items) w ≡ exec_default c (items_view l.rest) w;
  tail : (k : ℕ → ℕ) → weight_of_items k (items_view l.rest) ≤ weight_of_items k (items_view l.items);
}

abbrev pub decreases-loop-s : goal.decreases-loop-s
decreases-loop-s l = length l.rest
