-- Blocks: each has a scope of its own, and the nodes of its variables.
use Rattle.std.specs.Prelude.{ℕ, List, [], ◌∷◌, ◌++◌, length, take, Ok}
use Rattle.typed_tree.specs.declared.expression.Stmt.{Stmt}
use Rattle.check_rules.specs.declared.state.State.{State}
use Rattle.check_rules.specs.Frames as frames
use Rattle.check_rules.specs.Walks.{Rule}

-- how many scopes are open
abbrev pub depth : Rule State ℕ
depth s = Ok (length s.scopes, s)

-- into a block; the nodes of the variables of the block round it
unfoldable pub enter : Rule State (List Stmt)
enter s = Ok (s.frame.nodes, record s { scopes = s.scopes ++ [] ∷ []; frame = frames.entered s.frame })

-- back to the block that so many scopes are open in and whose variables have these nodes; those of the block that is
-- left
unfoldable pub leave : ℕ → List Stmt → Rule State (List Stmt)
leave n outer s = Ok (s.frame.nodes, record s { scopes = take n s.scopes; frame = frames.left outer s.frame })
