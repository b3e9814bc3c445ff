-- What a statement counts: the frame objects of a byte, the declarations of a register variable, and the nodes; among
-- the nodes of the block's variables and those of the statement together.
use Rattle.std.specs.Prelude.{◌≡◌, ℕ, ◌+◌, ◌≤◌, ◌&&◌, nat_le, nat_lt, List, length, map, sum}
use Rattle.typed_tree.specs.declared.expression.Stmt.{Stmt}
use Rattle.typed_tree.specs.Sizes.{statements_size}
use Rattle.check_rules.specs.declared.state.Stage.{Stage}
use Rattle.check_rules.specs.declared.state.Stage.TheVariants as stage
use Rattle.check_rules.specs.declared.state.State.{State}
use Rattle.wellformed.specs.Counts.{one_if, objects_at, declarations_of}

abbrev pub objects_in : ℕ → List Stmt → ℕ
objects_in byte xs = sum (map (objects_at byte) xs)

abbrev pub declarations_in : ℕ → List Stmt → ℕ
declarations_in i xs = sum (map (declarations_of i) xs)

-- whether a number is from the first on and before the second
abbrev pub between : ℕ → ℕ → ℕ → ℕ
between from to n = one_if (nat_le from n && nat_lt n to)

-- how many variables there are: the function's, or the tick's
abbrev pub variables : Stage → State → ℕ
variables stage.Function s = length s.frame.homes
variables stage.Tick s = s.frame.inner
variables stage.Dollar s = s.frame.inner

-- what these nodes count, and those of the variables that were declared with them
pub record Counts (g : Stage) (s new : State) (xs : List Stmt) : Type 0 where
  -- each byte of the new frame objects belongs to one of them
  pub objects : (byte : ℕ) →
      objects_in byte new.frame.nodes + objects_in byte xs ≡ objects_in byte s.frame.nodes + between s.frame.object
      new.frame.object byte
  -- each new register variable is declared once at most
  pub declarations : (i : ℕ) →
      declarations_in i new.frame.nodes + declarations_in i xs ≤ declarations_in i s.frame.nodes + between
      (variables g s)
      (variables g new) i
  -- there are as many nodes as new variables
  pub sizes : statements_size s.frame.nodes + variables g new ≤ statements_size new.frame.nodes + statements_size xs +
      variables g s
