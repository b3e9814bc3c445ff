-- A step of the walk once more, by what an earlier walk found. Where that marked no variable, and the step leaves the
-- strings as they are, it gives the same answer from what the earlier walk knew and from that with the tables
-- that it found.
use Rattle.std.specs.Prelude.{◌≡◌, ℕ, ◌≤◌, Bool, false, List, [], length, slice_get, Option, Some, None, Ok, Err}
use Rattle.c_types.specs.declared.ctype.CType.{CType}
use Rattle.check_scopes.specs.Scopes.{Scopes}
use Rattle.check_declarators.specs.declared.steps.Step.{Step}
use Rattle.tick_tree.specs.Faults.{Checked}
use Rattle.check_rules.specs.declared.state.Around.{Around}
use Rattle.check_rules.specs.declared.state.Stage.{Stage}
use Rattle.check_rules.specs.declared.state.State.{State}
use Rattle.check_rules.specs.declared.frame.Frame.{Frame}
use Rattle.check_rules.specs.declared.image.Image.{Image}
use Rattle.check_rules.specs.declared.functions.Functions.{Functions}
use Rattle.check_rules.specs.Frames as frames
use Rattle.check_rules.specs.Walks.{Rule}
use Rattle.check_rules.specs.ExpressionRules.{Node, Named, Shape, Item}
use Rattle.wf_walk.specs.Parts.{EachPart}
use Rattle.check_rules.specs.Walk.{Start, Nothing, Value, Values, InitParts, Declarations, SuffixWalk, TypeWalk}

-- what an earlier walk found, where it marked no variable
pub record Found : Type 0 where
  pub objects : List (List Bool)
  pub strings_at : ℕ
  pub earlier : Scopes
  pub unmarked : (at n : ℕ) → frames.mark_in n (slice_get objects at) ≡ false

abbrev pub told_frame : Found → Frame → Frame
told_frame k f = record f { objects = k.objects }

abbrev pub told_image : Found → Image → Image
told_image k i = record i { strings_at = k.strings_at }

abbrev pub told_functions : Found → Functions → Functions
told_functions k f = record f { earlier = k.earlier }

-- with what an earlier walk found
abbrev pub told : Found → State → State
told k s = record s {
  frame = told_frame k s.frame;
  image = told_image k s.image;
  functions = told_functions k s.functions;
}

-- a step takes nothing away
pub record Kept (s new : State) : Type 0 where
  pub objects : new.frame.objects ≡ s.frame.objects
  pub strings : length s.image.strings ≤ length new.image.strings
  pub prototypes : length s.functions.prototypes ≤ length new.functions.prototypes

-- no string and no prototype came
pub record Silent (s new : State) : Type 0 where
  pub strings : length new.image.strings ≡ length s.image.strings
  pub prototypes : length new.functions.prototypes ≡ length s.functions.prototypes

-- what came of a step, and of the same step once more
abbrev pub After : {A : Type 0} → Found → State → Checked (A × State) → Checked (A × State) → Type 0
After k s (Ok x) r = Kept s x.1 × (Silent s x.1 → r ≡ Ok (x.0, told k x.1))
After k s (Err f) r = Unit {0}

-- a step that an earlier walk's tables don't change
pub record Again {A : Type 0} (k : Found) (r : Rule State A) : Type 0 where
  pub at : (s : State) → s.frame.objects ≡ [] → After k s (r s) (r (told k s))

-- ---- the parts of a tree

pub record AgainNode (k : Found) (n : Node) : Type 0 where
  pub at : (g : Stage) → Again k (n.walk g)

pub record AgainNamed (k : Found) (t : Named) : Type 0 where
  pub at : (line : ℕ) (g : Stage) → Again k (t.walk line g)

pub record AgainShape (k : Found) (d : Shape) : Type 0 where
  pub at : (g : Stage) → Again k (d.walk g)

pub record AgainItem (k : Found) (i : Item) : Type 0 where
  pub at : (a : Around) → Again k (i.walk a)

pub record AgainSuffix (k : Found) (r : Stage → Rule State Step) : Type 0 where
  pub at : (g : Stage) → Again k (r g)

pub record AgainType (k : Found) (r : Stage → Rule State CType) : Type 0 where
  pub at : (g : Stage) → Again k (r g)

abbrev pub AgainOptional : Found → Option Node → Type 0
AgainOptional k None = Unit {0}
AgainOptional k (Some n) = AgainNode k n

abbrev pub AgainStart : Found → Start → Type 0
AgainStart k Nothing = Unit {0}
AgainStart k (Value e) = AgainNode k e
AgainStart k (Values es) = EachPart (AgainNode k) es

pub record AgainInit (k : Found) (i : InitParts) : Type 0 where
  pub shape : AgainShape k i.shape
  pub start : AgainStart k i.start

abbrev pub AgainDeclarations : Found → Declarations → Type 0
AgainDeclarations k d = EachPart (AgainInit k) d.inits

abbrev pub AgainSuffixWalk : Found → SuffixWalk → Type 0
AgainSuffixWalk k s = AgainSuffix k s.walk

abbrev pub AgainTypeWalk : Found → TypeWalk → Type 0
AgainTypeWalk k p = AgainType k p.walk
