-- What is asked of the walk over each part of what stands in a tick. Under `$` nothing of the tick's own is named.
use Rattle.std.specs.Prelude.{◌≡◌, ℕ, false, List, map, Option, Some, None, Ok}
use Rattle.c_types.specs.declared.ctype.CType.{CType}
use Rattle.check_declarators.specs.declared.steps.Step.{Step}
use Rattle.typed_tree.specs.declared.expression.CaptureKind.TheVariants as capture
use Rattle.typed_tree.specs.declared.expression.Stmt.{Stmt}
use Rattle.check_operands.specs.declared.operand.Operand.{Operand}
use Rattle.check_operands.specs.declared.operand.Place.{Place}
use Rattle.check_operands.specs.declared.operand.Place.TheVariants as place
use Rattle.check_rules.specs.declared.state.Around.{Around}
use Rattle.check_rules.specs.declared.state.Stage.{Stage}
use Rattle.check_rules.specs.declared.state.Stage.TheVariants as stage
use Rattle.check_rules.specs.declared.state.State.{State}
use Rattle.check_rules.specs.Walks.{Rule}
use Rattle.check_rules.specs.ExpressionRules.{Node, Named, Shape, Item}
use Rattle.check_rules.specs.Walk.{Start, Nothing, Value, Values, InitParts, Declarations}
use Rattle.wellformed.specs.Captured.{Naming, next, none, all, named, named_of}
use Rattle.wf_walk.specs.Captured.{HasLibrary, Names, NamesFrom}
use Rattle.wf_walk.specs.Good.{is_computed_step, any_computed}
use Rattle.wf_walk.specs.Parts.{EachPart}
use Rattle.wf_walk.specs.Asked.{Asked}

-- ---- what is named

-- what a place names, as its value does
abbrev pub place_named : Place → Naming
place_named (place.Value e) = named e
place_named (place.Register i) = none
place_named (place.Generated i) = next capture.Variable i
place_named (place.Memory e) = named e
place_named (place.Function f) = none

-- of the body of a tick, at a stage of the walk
abbrev pub at_stage : Stage → Naming → Naming
at_stage stage.Function f = none
at_stage stage.Tick f = f
at_stage stage.Dollar f = none

abbrev pub operand_named : Stage → Operand → Naming
operand_named g o = at_stage g (place_named o.place)

abbrev pub list_named : List Stmt → Naming
list_named xs = all (map named_of xs)

abbrev pub acts_named : Stage → List Stmt → Naming
acts_named g xs = at_stage g (list_named xs)

-- in a tick, or under `$` in one
abbrev pub IsInside : Stage → Type 0
IsInside stage.Function = ⊥
IsInside stage.Tick = Unit {0}
IsInside stage.Dollar = Unit {0}

-- in the block of a tick
abbrev pub IsTickBlock : Stage → Type 0
IsTickBlock stage.Function = ⊥
IsTickBlock stage.Tick = Unit {0}
IsTickBlock stage.Dollar = ⊥

-- ---- what is asked

-- nothing is captured
abbrev pub Quiet : State → State → Type 0
Quiet s new = Names none none s new

abbrev pub nothing : {A : Type 0} → A → Naming
nothing x = none

abbrev pub NamesNode : Node → Type 0
NamesNode n = (g : Stage) → IsInside g → NamesFrom none (operand_named g) (n.walk g)

abbrev pub NamesOptional : Option Node → Type 0
NamesOptional None = Unit {0}
NamesOptional (Some n) = NamesNode n

abbrev pub NamesItem : Item → Type 0
NamesItem i = (a : Around) → IsTickBlock a.stage → NamesFrom none (acts_named a.stage) (i.walk a)

-- a type captures nothing, since its lengths are constants
abbrev pub NamesSuffix : (Stage → Rule State Step) → Type 0
NamesSuffix w = (g : Stage) → IsInside g → (s new : State) (x : Step) → w g s ≡ Ok (x, new) →
    is_computed_step x ≡ false → HasLibrary s → Quiet s new

abbrev pub NamesShape : Shape → Type 0
NamesShape d = (g : Stage) → IsInside g → (s new : State) (xs : List Step) → d.walk g s ≡ Ok (xs, new) →
    any_computed xs ≡ false → HasLibrary s → Quiet s new

abbrev pub NamesParameter : (Stage → Rule State CType) → Type 0
NamesParameter w = (g : Stage) → IsInside g → NamesFrom none nothing (w g)

abbrev pub NamesNamed : Named → Type 0
NamesNamed t = (line : ℕ) (g : Stage) → IsInside g → NamesFrom none nothing (t.walk line g)

abbrev pub NamesStart : Start → Type 0
NamesStart Nothing = Unit {0}
NamesStart (Value e) = NamesNode e
NamesStart (Values es) = EachPart NamesNode es

pub record NamesInit (i : InitParts) : Type 0 where
  pub shape : NamesShape i.shape
  pub start : NamesStart i.start

abbrev pub NamesDeclarations : Declarations → Type 0
NamesDeclarations d = EachPart NamesInit d.inits

abbrev pub names : Asked
names = record {
  shape = NamesShape;
  node = NamesNode;
  start = NamesStart;
  optional = NamesOptional;
  item = NamesItem;
  suffix = λ w. NamesSuffix w.walk;
  declarations = NamesDeclarations;
  init = NamesInit;
  parameter = λ w. NamesParameter w.walk;
  named = NamesNamed;
}
