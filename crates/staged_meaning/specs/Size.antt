-- The size of a function, in which limits are stated, and what a call is charged. These are this project's own rules.
-- What is counted node by node stands in `typed_tree`.
use Rattle.std.specs.Prelude.{ℕ, ◌+◌, ◌*◌}
use Rattle.typed_tree.specs.Nodes.{Function}
pub use Rattle.typed_tree.specs.Measures.{
  size_of_expr,
  size_of_args,
  size_of_stmt,
  size_of_items,
  labels_in,
  labels_in_args,
  labels,
  labels_of,
  temps_in,
  temps_in_args,
  temps,
  temps_of,
  variables_in,
  variables_of,
}
use Rattle.limits.specs.declared.run.TheConstants.{STACK_OF_A_CALL, STACK_OF_A_NODE}

abbrev pub size_of : Function → ℕ
size_of function = size_of_stmt function.body

-- a call is charged so many bytes of the stack
abbrev pub charge_of : ℕ → ℕ
charge_of size = STACK_OF_A_CALL + STACK_OF_A_NODE * size
