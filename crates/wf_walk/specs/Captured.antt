-- What is asked of the walks over what stands in a tick: the captures that they make are named by their answers, the
-- first time in their order. Under `$` nothing is captured.
use Rattle.std.specs.Prelude.{◌≡◌, ℕ, ◌≤◌, List, length, map, Option, Some, Ok}
use Rattle.check_scopes.specs.declared.names.Meaning.{Meaning}
use Rattle.check_scopes.specs.declared.names.MeaningKind.{MeaningKind}
use Rattle.check_scopes.specs.declared.names.MeaningKind.TheVariants as kind
use Rattle.typed_tree.specs.declared.expression.CaptureKind.{CaptureKind}
use Rattle.typed_tree.specs.declared.expression.Stmt.{Stmt}
use Rattle.check_operands.specs.declared.operand.Operand.{Operand}
use Rattle.check_operands.specs.Operands.{value_of}
use Rattle.check_rules.specs.declared.state.Stage.TheVariants as stage
use Rattle.check_rules.specs.declared.state.State.{State}
use Rattle.check_rules.specs.Walks.{Rule}
use Rattle.check_rules.specs.Bounds.{count_bound}
use Rattle.check_rules.specs.ExpressionRules.{Node, Item, block, tick_around}
use Rattle.wellformed.specs.Captured.{Naming, none, all, named, named_of}
use Rattle.wf_nodes.specs.Used.{IsLibrary}
use Rattle.wf_walk.specs.Known.{EachScope}
use Rattle.wf_walk.specs.Steps.{kinds}

-- a name of the library has the type of its function
abbrev pub IsOfLibrary : Meaning → MeaningKind → Type 0
IsOfLibrary m kind.Variable = Unit {0}
IsOfLibrary m kind.Parameter = Unit {0}
IsOfLibrary m kind.Global = Unit {0}
IsOfLibrary m kind.Function = Unit {0}
IsOfLibrary m kind.Library = IsLibrary m.index m.ctype

abbrev pub HasLibrary : State → Type 0
HasLibrary s = EachScope (λ name m. IsOfLibrary m m.kind) s.scopes

-- how many captures the tick has so far
abbrev pub taken : State → ℕ
taken s = length s.ticks.captures

-- the nodes of the variables of a block name no capture
abbrev pub AreSilent : List Stmt → Type 0
AreSilent vs = (ks : Option (List CaptureKind)) → all (map named_of vs) ks ≡ ks

-- Between two states: what is known of names stays, and where what was named before are the captures that there were,
-- what is named since makes those that there are. A count that is cut says nothing.
pub record Names (before after : Naming) (s new : State) : Type 0 where
  pub library : HasLibrary new
  pub variables : AreSilent s.frame.nodes → AreSilent new.frame.nodes
  pub grows : taken s ≤ taken new
  pub is : taken new ≤ count_bound → (ks : Option (List CaptureKind)) → before ks ≡ Some (kinds s.ticks.captures) →
      after ks ≡ Some (kinds new.ticks.captures)

-- a step that does so with each answer
abbrev pub NamesFrom : {A : Type 0} → Naming → (A → Naming) → Rule State A → Type 0
NamesFrom {A} before after step =
    (s new : State) (x : A) → step s ≡ Ok (x, new) → HasLibrary s → Names before (after x) s new

-- an expression in a tick, by its value
abbrev pub named_value : Operand → Naming
named_value o = named (value_of o).code

abbrev pub NamesValue : Node → Type 0
NamesValue n = NamesFrom none named_value (n.walk stage.Tick)

-- the block of a tick
abbrev pub named_block : Stmt → Naming
named_block x = named_of x

abbrev pub NamesBlock : List Item → Type 0
NamesBlock items = NamesFrom none named_block (block items tick_around)
