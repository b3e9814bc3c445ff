-- The walk over a program makes nothing grow by more than its weight, and a program has no more ticks than its tree has
-- nodes.
use Rattle.std.specs.Prelude.{◌≡◌, ℕ, ◌≤◌, List, map, length, Ok}
use Rattle.c_types.specs.declared.ctype.CType.{CType}
use Rattle.tick_tree.specs.declared.syntax.Declarator.{Declarator}
use Rattle.tick_tree.specs.declared.syntax.External.{External}
use Rattle.tick_tree.specs.declared.syntax.Stmt.{Stmt}
use Rattle.tick_tree.specs.declared.tree.Tree.{Tree}
use Rattle.typed_tree.specs.declared.program.TypedParts.{TypedParts}
use Rattle.check_rules.specs.ExpressionRules.{Item}
use Rattle.check_globals.specs.Functions as functions
use Rattle.check_globals.specs.Functions.{Given}
use Rattle.check_rules.specs.declared.state.State.{State}
use Rattle.check_rules.specs.Starts as starts
use Rattle.check_globals.specs.Parameters.{parameters_of}
use Rattle.check_globals.specs.Program as program
use Rattle.check_rules.specs.Walk.{item}
use Rattle.wf_growth_rules.specs.Light.{After, Bounded, LightItem, Each}
use Rattle.wf_growth.specs.Fresh.{Fresh}
use Rattle.tick_tree.specs.Weights.{total, weight, statement_weight, declarator_weight, item_weight, tree_weight}

pub record ProgramsAreLight : Type 0 where
  -- a function begins with its parameters as its variables, which are no more than the nodes of its declarator
  pub parameters : (t : CType) (gs : List Given) → Fresh (length gs) 0 (functions.begun t gs)
  pub given : (d : Declarator) → length (parameters_of d) ≤ declarator_weight d
  pub body : (w : ℕ) (t : CType) (gs : List Given) (items : List Item) → Each LightItem w items →
      Fresh (length gs) w (program.begun t gs items)
  pub items : (xs : List Stmt) → Each LightItem (total (map statement_weight xs)) (map item xs)
  pub external : (x : External) → Bounded (item_weight x) (program.external x)
  pub walk : (xs : List External) → Bounded (total (map item_weight xs)) (program.walk xs)
  -- each walk begins with no ticks
  pub start : After 0 starts.empty starts.start
  pub again : (s : State) → After 0 (starts.emptied s) (starts.again s)
  pub ticks : (t : Tree) (p : TypedParts) → program.checked t ≡ Ok p → length p.ticks ≤ tree_weight t
