-- What each kind of name is where it stands.
use Rattle.std.proofs.Common.{◌≡◌, ℕ, true, false, List, [], refl, sym, ap, subst, Option, Some, None, Ok}
use Rattle.std.specs.Prelude.{slice_get}
use Rattle.c_types.specs.declared.ctype.CType.{CType}
use Rattle.check_scopes.specs.declared.names.Meaning.{Meaning}
use Rattle.check_scopes.specs.declared.names.MeaningKind.{MeaningKind}
use Rattle.check_scopes.specs.declared.names.MeaningKind.TheVariants as kind
use Rattle.check_scopes.specs.Scopes.{Name, find}
use Rattle.check_types.specs.Shapes.{is_void, is_cspec, is_vspec}
use Rattle.typed_tree.specs.declared.expression.CaptureKind.{CaptureKind}
use Rattle.typed_tree.specs.declared.expression.Expr.TheVariants as ex
use Rattle.check_operands.specs.declared.operand.Operand.{Operand}
use Rattle.check_operands.specs.declared.operand.Place.TheVariants as place
use Rattle.check_rules.specs.declared.frame.Home.{Home}
use Rattle.check_rules.specs.declared.state.Stage.{Stage}
use Rattle.check_rules.specs.declared.state.Stage.TheVariants as stage
use Rattle.check_rules.specs.declared.state.State.{State}
use Rattle.check_rules.specs.Names.{operand, place_by, in_function, under_dollar, variable, parameter, global, meant}
use Rattle.check_rules.specs.Names.{named_by, named}
use Rattle.wf_nodes.specs.Right.{HasType}
use Rattle.wf_walk.specs.Kept.{KeepsStage, Keeps}
use Rattle.wf_walk.specs.Known.{Blocks, of_function, HasHome, IsVariable, IsParameter, IsObject, Means, Small}
use Rattle.wf_walk.specs.Known.{Known}
use Rattle.wf_walk.specs.Steps.{Round, at, Agrees, Did, Does}
use Rattle.wf_walk.specs.Good.{Good}
use Rattle.wf_walk.proofs.Walks.{pure_same}
use Rattle.wf_walk.proofs.Names.{named_keeps}
use Rattle.wf_walk.proofs.Captures.{Gives, given, stays, did_small}
use Rattle.wf_walk.proofs.ExpressionNames.{known_name, home_good, room_of}
use Rattle.wf_walk.proofs.Named.{in_tick_did, tick_parameter_did, global_right, outer_global_by}
use Rattle.wf_walk.proofs.Steps.{Goes}

module _ {many : List ℕ} {b : Blocks} {ks : List (List CaptureKind)} {s : State} where
  -- ---- where a function runs

  function_home : (n : ℕ) (h : Home) (t : CType) → Known many stage.Function b ks s →
      HasHome (of_function stage.Function b s) s.frame.object n h → IsObject t →
      Gives many stage.Function b ks s (operand (place_by n h) t, s)
  function_home n h t known x k =
      stays (operand (place_by n h) t) known
      (λ r a. home_good r.function (of_function stage.Function b s) s.frame.object n h t (room_of a) x k)

  function_variable : (n : ℕ) (t : CType) (h : Option Home) (x : Operand) (new : State) →
      Known many stage.Function b ks s → IsVariable stage.Function b s n h → IsObject t →
      in_function n t h s ≡ Ok (x, new) → Did many stage.Function b ks s new (λ r. Good r.function x)
  function_variable n t None x new known y k e = cc
  function_variable n t (Some h) x new known y k e =
      given (operand (place_by n h) t, s) (function_home n h t known y k) e

  function_parameter : (n : ℕ) (t : CType) (h : Option Home) (x : Operand) (new : State) →
      Known many stage.Function b ks s → IsParameter stage.Function b s n h → IsObject t →
      in_function n t h s ≡ Ok (x, new) → Did many stage.Function b ks s new (λ r. Good r.function x)
  function_parameter n t None x new known y k e = cc
  function_parameter n t (Some h) x new known y k e =
      given (operand (place_by n h) t, s) (function_home n h t known y k) e

  -- ---- under `$`

  dollar_home : (n : ℕ) (h : Home) (t : CType) → Known many stage.Dollar b ks s →
      HasHome (of_function stage.Dollar b s) s.frame.object n h → IsObject t →
      Gives many stage.Dollar b ks s (operand (place_by n h) t, s)
  dollar_home n h t known x k =
      stays (operand (place_by n h) t) known
      (λ r a. home_good r.function (of_function stage.Dollar b s) s.frame.object n h t (room_of a) x k)

  dollar_variable : (line n : ℕ) (t : CType) (h : Option Home) (x : Operand) (new : State) →
      Known many stage.Dollar b ks s → IsVariable stage.Dollar b s n h → IsObject t →
      under_dollar line n t h s ≡ Ok (x, new) → Did many stage.Dollar b ks s new (λ r. Good r.function x)
  dollar_variable line n t None x new known y k e = cc
  dollar_variable line n t (Some h) x new known y k e =
      given (operand (place_by n h) t, s) (dollar_home n h t known y k) e

  dollar_parameter : (n : ℕ) (t : CType) (h : Option Home) (x : Operand) (new : State) →
      Known many stage.Dollar b ks s → IsParameter stage.Dollar b s n h → IsObject t →
      in_function n t h s ≡ Ok (x, new) →
      Did many stage.Dollar b ks s new (λ r. Good r.function x)
  dollar_parameter n t None x new known y k e = cc
  dollar_parameter n t (Some h) x new known y k e = given (operand (place_by n h) t, s) (dollar_home n h t known y k) e

-- ---- functions

functions_at : {many : List ℕ} {g : Stage} {b : Blocks} {ks : List (List CaptureKind)} {s : State} {r : Round}
    (h : Stage) → Agrees many g b ks s r → (at h r).functions ≡ many
functions_at stage.Function a = a.functions.0
functions_at stage.Tick a = a.functions.1
functions_at stage.Dollar a = a.functions.0

function_good : {many : List ℕ} {g : Stage} {b : Blocks} {ks : List (List CaptureKind)} {s : State} {r : Round} (n : ℕ)
    (t : CType) → HasType many n t → is_void t ≡ false → Agrees many g b ks s r →
    Good (at g r) (operand (place.Function n) t)
function_good {g = g} n t h v a = (subst (λ (counts : List ℕ). HasType counts n t) (sym (functions_at g a)) h, v)

-- ---- each kind

module _ {many : List ℕ} {b : Blocks} {ks : List (List CaptureKind)} {s : State} where
  variable_did : (line : ℕ) (g : Stage) (n : ℕ) (t : CType) (x : Operand) (new : State) → Known many g b ks s →
      IsVariable g b s n (slice_get s.frame.homes n) → IsObject t → variable line g n t s ≡ Ok (x, new) →
      Did many g b ks s new (λ r. Good (at g r) x)
  variable_did line stage.Function n t x new known y k e =
      function_variable n t (slice_get s.frame.homes n) x new known y k e
  variable_did line stage.Tick n t x new known y k e = in_tick_did known n t (slice_get s.frame.homes n) x new y k e
  variable_did line stage.Dollar n t x new known y k e =
      dollar_variable line n t (slice_get s.frame.homes n) x new known y k e

  parameter_did : (g : Stage) (n : ℕ) (t : CType) (x : Operand) (new : State) → Known many g b ks s →
      IsParameter g b s n (slice_get s.frame.homes n) → IsObject t → parameter g n t s ≡ Ok (x, new) →
      Did many g b ks s new (λ r. Good (at g r) x)
  parameter_did stage.Function n t x new known y k e =
      function_parameter n t (slice_get s.frame.homes n) x new known y k e
  parameter_did stage.Tick n t x new known y k e = tick_parameter_did known n t (slice_get s.frame.homes n) x new y k e
  parameter_did stage.Dollar n t x new known y k e = dollar_parameter n t (slice_get s.frame.homes n) x new known y k e

  global_did : (g : Stage) (n : ℕ) (t : CType) → Known many g b ks s → IsObject t → Gives many g b ks s (global g n t s)
  global_did stage.Function n t known k =
      stays (operand (place.Memory (ex.Const n)) t) known (λ r a. global_right n t r.function k)
  global_did stage.Tick n t known k = outer_global_by known (is_cspec t) (is_vspec t) n t refl k
  global_did stage.Dollar n t known k =
      stays (operand (place.Memory (ex.Const n)) t) known (λ r a. global_right n t r.function k)

  meant_did : (line : ℕ) (g : Stage) (m : Meaning) (k : MeaningKind) (x : Operand) (new : State) → Known many g b ks s →
      Means many g b s [] m k → meant line g k m.index m.ctype s ≡ Ok (x, new) →
      Did many g b ks s new (λ r. Good (at g r) x)
  meant_did line g m kind.Variable x new known h e = variable_did line g m.index m.ctype x new known h.0 h.1 e
  meant_did line g m kind.Parameter x new known h e = parameter_did g m.index m.ctype x new known h.0 h.1 e
  meant_did line g m kind.Global x new known h e =
      given (global g m.index m.ctype s) (global_did g m.index m.ctype known h) e
  meant_did line g m kind.Function x new known h e =
      given (operand (place.Function m.index) m.ctype, s)
      (stays (operand (place.Function m.index) m.ctype) known (λ r a. function_good m.index m.ctype h.0 h.1 a)) e
  meant_did line g m kind.Library x new known h e = cc

-- ---- a name, where its meaning is known only if no count is cut

-- where a function runs, a name changes nothing
meant_same : (line : ℕ) (k : MeaningKind) (n : ℕ) (t : CType) (s new : State) (x : Operand) →
    meant line stage.Function k n t s ≡ Ok (x, new) → s ≡ new
meant_same line kind.Variable n t s new x e = pure_same _ x s new e
meant_same line kind.Parameter n t s new x e = pure_same _ x s new e
meant_same line kind.Global n t s new x e = pure_same _ x s new e
meant_same line kind.Function n t s new x e = pure_same _ x s new e
meant_same line kind.Library n t s new x e = cc

-- no name makes a tick
meant_ticks : (line : ℕ) (g : Stage) (m : Meaning) (s new : State) (x : Operand) → KeepsStage g s new →
    meant line g m.kind m.index m.ctype s ≡ Ok (x, new) → new.ticks.all ≡ s.ticks.all
meant_ticks line stage.Function m s new x k e =
    ap (λ (z : State). z.ticks.all) (sym (meant_same line m.kind m.index m.ctype s new x e))
meant_ticks line stage.Tick m s new x k e = k.0.ticks
meant_ticks line stage.Dollar m s new x k e = k.0.ticks

named_by_did : {many : List ℕ} {b : Blocks} {ks : List (List CaptureKind)} {s : State} (line : ℕ) (g : Stage)
    (m : Option Meaning) (x : Operand) (new : State) → Known many g b ks s → Keeps g s new →
    ((y : Meaning) → m ≡ Some y → Small g s → Means many g b s [] y y.kind) → named_by line g m s ≡ Ok (x, new) →
    Did many g b ks s new (λ r. Good (at g r) x)
named_by_did line g None x new known k h e = cc
named_by_did {s = s} line g (Some m) x new known k h e =
    did_small (λ r. Good (at g r) x) k (meant_ticks line g m s new x k.at e) known
    (λ small. meant_did line g m m.kind x new known (h m refl small) e)

named_did : (many : List ℕ) (line : ℕ) (g : Stage) (name : Name) →
    Does many g (λ r o. Good (at g r) o) (named line g name)
unfolding named
named_did many line g name b ks s new x known e =
    named_by_did line g (find s.scopes name) x new known (named_keeps line g name s new x e)
    (λ y h small. known_name many g b s name y (known small).names h) e

pub name_goes : (many : List ℕ) (line : ℕ) (g : Stage) (name : Name) →
    Goes many g (λ r o. Good (at g r) o) (named line g name)
name_goes many line g name = record { keeps = named_keeps line g name; does = named_did many line g name }
