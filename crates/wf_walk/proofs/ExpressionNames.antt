-- A name where it stands: what it means stands right there, and in a tick what it captures does.
use Rattle.std.proofs.Common.{◌≡◌, ℕ, ◌%◌, ◌==◌, Bool, true, false, if◌then◌else◌, List, [], ◌∷◌, refl, subst, ◌∙◌}
use Rattle.std.proofs.Common.{arith, Option, Some, None}
use Rattle.std.specs.Prelude.{nat_le}
use Rattle.std.specs.Option.{option_or}
use Rattle.std.specs.Str.{bytes_eq}
use Rattle.std.proofs.lemmas.Bool.{leb-true, le-leb}
use Rattle.c_types.specs.declared.ctype.CType.{CType}
use Rattle.check_scopes.specs.declared.names.Meaning.{Meaning}
use Rattle.check_scopes.specs.declared.names.MeaningKind.{MeaningKind}
use Rattle.check_scopes.specs.declared.names.MeaningKind.TheVariants as kind
use Rattle.check_scopes.specs.Scopes.{Name, Scope, Scopes, find, in_scope as said}
use Rattle.check_types.specs.Shapes.{is_void}
use Rattle.typed_tree.specs.declared.expression.CaptureKind.{CaptureKind}
use Rattle.check_operands.specs.declared.operand.Operand.{Operand}
use Rattle.check_operands.specs.Operands.{effect, value_of}
use Rattle.check_rules.specs.declared.frame.Home.{Home}
use Rattle.check_rules.specs.declared.frame.Home.TheVariants as home
use Rattle.check_rules.specs.declared.state.Stage.{Stage}
use Rattle.check_rules.specs.declared.state.State.{State}
use Rattle.check_rules.specs.Names.{operand, place_by, address_by}
use Rattle.wellformed.specs.Places.{Around, in_scope, in_function}
use Rattle.wellformed.proofs.Bools.{first_true, second_true}
use Rattle.wf_nodes.specs.Right.{Stands}
use Rattle.wf_nodes.proofs.NodeScopes.{frame_stands}
use Rattle.wf_nodes.specs.Used.{Leaves}
use Rattle.wf_nodes.proofs.NodeValues.{nodes_use}
use Rattle.wf_nodes.proofs.Declared.{types_use}
use Rattle.wf_walk.specs.Known.{Blocks, has, of_function, HasHome, IsObject, Means, EachEntry, EachScope}
use Rattle.wf_walk.specs.Steps.{Round, Agrees}
use Rattle.wf_walk.specs.Good.{Good}
use Rattle.wf_walk.proofs.Knowing.{each_scope}
use Rattle.wf_walk.proofs.ExpressionNodes.{good_value}

-- ---- what is known of each name is known of the one that is found

either : (P : Meaning → Type 0) (a b : Option Meaning) (m : Meaning) → ((x : Meaning) → a ≡ Some x → P x) →
    ((x : Meaning) → b ≡ Some x → P x) → option_or a b ≡ Some m → P m
either P (Some x) b m h k e = h m e
either P None b m h k e = k m e

chosen : (P : Meaning → Type 0) (c : Bool) (x m : Meaning) (rest : Option Meaning) → P x →
    ((y : Meaning) → rest ≡ Some y → P y) → (if c then Some x else rest) ≡ Some m → P m
chosen P true x m rest h k e = let same : x ≡ m = cc in subst P same h
chosen P false x m rest h k e = k m e

of_entry : (P : Meaning → Type 0) (es : Scope) (name : Name) (m : Meaning) → EachEntry (λ n x. P x) es →
    said es name ≡ Some m → P m
of_entry P [] name m h e = cc
of_entry P (x ∷ es) name m h e =
    chosen P (bytes_eq name x.0) x.1 m (said es name) h.0 (λ y k. of_entry P es name y h.1 k) e

pub of_scope : (P : Meaning → Type 0) (ss : Scopes) (name : Name) (m : Meaning) → EachScope (λ n x. P x) ss →
    find ss name ≡ Some m → P m
of_scope P [] name m h e = cc
of_scope P (s ∷ ss) name m h e =
    either P (find ss name) (said s name) m (λ x k. of_scope P ss name x h.1 k) (λ x k. of_entry P s name x h.0 k) e

-- what a name means doesn't depend on how it is spelled
abbrev Meant : List ℕ → Stage → Blocks → State → Meaning → Type 0
Meant many g b s m = Means many g b s [] m m.kind

means_any : (many : List ℕ) (g : Stage) (b : Blocks) (s : State) (name : Name) (m : Meaning) (k : MeaningKind) →
    Means many g b s name m k → Means many g b s [] m k
means_any many g b s name m kind.Variable h = h
means_any many g b s name m kind.Parameter h = h
means_any many g b s name m kind.Global h = h
means_any many g b s name m kind.Function h = h
means_any many g b s name m kind.Library h = h

pub known_name : (many : List ℕ) (g : Stage) (b : Blocks) (s : State) (name : Name) (m : Meaning) →
    EachScope (λ n x. Means many g b s n x x.kind) s.scopes → find s.scopes name ≡ Some m → Means many g b s [] m m.kind
known_name many g b s name m h e =
    of_scope (λ x. Means many g b s [] x x.kind) s.scopes name m
    (each_scope (λ n x. Means many g b s n x x.kind) (λ n x. Means many g b s [] x x.kind)
    (λ n x k. means_any many g b s n x x.kind k) s.scopes h) e

-- ---- variables of the function

below : (a b c : ℕ) → nat_le a b ≡ true → nat_le b c ≡ true → nat_le a c ≡ true
below a b c h k = let p = leb-true a b h in let q = leb-true b c k in le-leb a c (omega (arith, p, q))

-- what is round it has room for these register variables, and for so many bytes
pub record HasRoom (a : Around) (ns : List ℕ) (size : ℕ) : Type 0 where
  pub visible : (i : ℕ) → has i ns ≡ true → in_scope i a ≡ true
  pub object : nat_le size a.object ≡ true
  pub function : in_function a ≡ true

pub home_good : (a : Around) (visible : List ℕ) (object n : ℕ) (h : Home) (t : CType) → HasRoom a visible object →
    HasHome visible object n h → IsObject t → Good a (operand (place_by n h) t)
home_good a visible object n home.Register t room h k = (room.visible n h, k.type)
home_good a visible object n (home.Object off) t room h k = (
  frame_stands a off room.function
      (below off object a.object (first_true (nat_le off object) (off % 4 == 0) h) room.object)
      (second_true (nat_le off object) (off % 4 == 0) h),
  record { address = nodes_use.frame off; type = k.type },
)

-- the address that a tick captures
pub home_address : (a : Around) (visible : List ℕ) (object n : ℕ) (h : Home) → HasRoom a visible object →
    HasHome visible object n h → Stands a (address_by h)
home_address a visible object n home.Register room h =
    frame_stands a 0 room.function (le-leb 0 a.object (omega arith)) refl
home_address a visible object n (home.Object off) room h =
    frame_stands a off room.function
    (below off object a.object (first_true (nat_le off object) (off % 4 == 0) h) room.object)
    (second_true (nat_le off object) (off % 4 == 0) h)

pub address_left : (h : Home) → Leaves (address_by h)
address_left home.Register = nodes_use.frame 0
address_left (home.Object off) = nodes_use.frame off

pub room_of : {many : List ℕ} {g : Stage} {b : Blocks} {ks : List (List CaptureKind)} {s : State} {r : Round} →
    Agrees many g b ks s r → HasRoom r.function (of_function g b s) s.frame.object
room_of a = record { visible = a.visible; object = a.object; function = a.is_function }

-- the value of what isn't void
pub effect_left : (a : Around) (o : Operand) → Good a o → is_void o.ctype ≡ false → Leaves (effect o)
unfolding value_of
effect_left a o h v = nodes_use.left (value_of o).ctype (value_of o).code (good_value a o h).used
    (types_use.decayed o.ctype ∙ v)
