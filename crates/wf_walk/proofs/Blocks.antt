-- The states round a block.
use Rattle.std.proofs.Common.{ℕ, List, [], ◌∷◌, ◌++◌, length, take}
use Rattle.typed_tree.specs.declared.expression.Stmt.{Stmt}
use Rattle.check_rules.specs.Frames as frames
use Rattle.check_rules.specs.declared.state.State.{State}

-- in a block that is entered in this state
abbrev pub inside : State → State
inside s = record s { scopes = s.scopes ++ [] ∷ []; frame = frames.entered s.frame }

-- behind it
abbrev pub behind : ℕ → List Stmt → State → State
behind n vs t = record t { scopes = take n t.scopes; frame = frames.left vs t.frame }

abbrev pub back : State → State → State
back s t = behind (length s.scopes) s.frame.nodes t
