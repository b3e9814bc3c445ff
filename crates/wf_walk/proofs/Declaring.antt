-- What the declaration of a variable did: its name means the variable, whose node stands in the block.
use Rattle.std.proofs.Common.{◌≡◌, ℕ, ◌+◌, ◌-◌, ◌≤◌, ◌%◌, min, Bool, true, false, List, [], ◌∷◌, ◌++◌, length, refl}
use Rattle.std.proofs.Common.{sym, ap, subst, ◌∙◌, append-nil, length-append, arith, Ok}
use Rattle.std.specs.Prelude.{◌==◌, nat_le, slice_get, if◌then◌else◌}
use Rattle.std.proofs.lemmas.Option.{slice_get_past}
use Rattle.limits.specs.declared.program.TheConstants.{FRAME_OBJECT_BYTES}
use Rattle.c_types.specs.declared.ctype.CType.{CType}
use Rattle.check_scopes.specs.declared.names.Meaning.{Meaning}
use Rattle.check_scopes.specs.declared.names.MeaningKind.TheVariants as kind
use Rattle.check_scopes.specs.Scopes.{Name, Scopes, declared, innermost}
use Rattle.typed_tree.specs.declared.expression.CaptureKind.{CaptureKind}
use Rattle.typed_tree.specs.declared.expression.Expr.TheVariants as ex
use Rattle.typed_tree.specs.declared.expression.Stmt.{Stmt}
use Rattle.typed_tree.specs.declared.expression.Stmt.TheVariants as st
use Rattle.check_operands.specs.declared.operand.Operand.{Operand}
use Rattle.check_operands.specs.declared.operand.Place.TheVariants as place
use Rattle.check_rules.specs.declared.frame.Home.{Home}
use Rattle.check_rules.specs.declared.frame.Home.TheVariants as home
use Rattle.check_rules.specs.Frames as frames
use Rattle.check_rules.specs.Frames.{variable, after, count}
use Rattle.check_rules.specs.Bounds.{count_bound}
use Rattle.check_rules.specs.declared.state.Stage.{Stage}
use Rattle.check_rules.specs.declared.state.Stage.TheVariants as stage
use Rattle.check_rules.specs.declared.state.State.{State}
use Rattle.check_rules.specs.Names.{operand, place_by}
use Rattle.check_rules.specs.Locals.{meaning, made_outer, local}
use Rattle.wellformed.proofs.Equations.{act_variable}
use Rattle.wellformed.proofs.Bools.{and_true, le_true, le_less}
use Rattle.wf_nodes.proofs.NodeValues.{nodes_use}
use Rattle.wf_nodes.proofs.NodeScopes.{frame_stands}
use Rattle.wf_walk.specs.Kept.{Grows}
use Rattle.wf_walk.specs.Known.{Blocks, of_tick, has, numbers, HasHome, IsVariable, IsObject, Means, Known}
use Rattle.wf_walk.specs.Steps.{Round, at, Agrees, Did}
use Rattle.wf_walk.specs.Good.{Good}
use Rattle.wf_walk.specs.Items.{InBlock}
use Rattle.wf_walk.proofs.Fronts.{starts_behind}
use Rattle.wf_walk.proofs.Growing.{small_before}
use Rattle.wf_walk.proofs.Locals.{outer_gives, inner_gives, register_grows, object_grows, inner_grows}
use Rattle.wf_walk.proofs.Locals.{after_small, after_grows, aligned_after, named, inner_state}
use Rattle.wf_walk.proofs.Lists.{get_front, get_last, has_back, has_self, has_none, has_starts, numbers_append}
use Rattle.wf_walk.proofs.Lists.{scope_append, scope_at, scopes_set}
use Rattle.wf_walk.proofs.Wider.{Wider, AllMean, names_wider, agrees_wider}
use Rattle.wf_walk.proofs.Joining.{did_only}

-- ---- names

-- one name more
names_more : (many : List ℕ) (g : Stage) (b : Blocks) (new : State) (ss : Scopes) (name : Name) (m : Meaning) →
    AllMean many g b new ss → Means many g b new name m m.kind → AllMean many g b new (declared ss name m)
names_more many g b new ss name m all one =
    scopes_set (λ n k. Means many g b new n k k.kind) ss (length ss - 1) (innermost ss ++ (name, m) ∷ []) all
    (scope_append (λ n k. Means many g b new n k k.kind) (innermost ss) ((name, m) ∷ [])
    (scope_at (λ n k. Means many g b new n k k.kind) ss (length ss - 1) all) (one, tt))

numbers_variable : (n : ℕ) → numbers (st.Variable n ∷ []) ≡ n ∷ []
numbers_variable n = ap (λ a. a.number ++ []) (act_variable n)

-- the number of a new variable is among those of its block
has_variable : (n : ℕ) (ns : List ℕ) (xs : List Stmt) → has n (ns ++ numbers (xs ++ st.Variable n ∷ [])) ≡ true
has_variable n ns xs =
    has_back n ns (numbers (xs ++ st.Variable n ∷ []))
    (subst (λ l. has n l ≡ true) (sym (numbers_append xs (st.Variable n ∷ [])))
    (has_back n (numbers xs) (numbers (st.Variable n ∷ []))
    (subst (λ l. has n l ≡ true) (sym (numbers_variable n)) (has_self n))))

agrees_back : {many : List ℕ} {g : Stage} {b : Blocks} {ks : List (List CaptureKind)} {s new : State} {r : Round} →
    Wider g b s b new → Grows g s new → Agrees many g b ks new r → Agrees many g b ks s r
agrees_back {many} {g} {b} {ks} {s} {new} {r} w k a =
    agrees_wider [] w k (subst (λ l. Agrees many g b l new r) (sym (append-nil ks)) a)

-- ---- a variable of the function

-- the state with a variable at this place, whose node is this
abbrev with_home : Name → CType → Home → Stmt → ℕ → State → State
with_home name t h x object s = record s {
  scopes = declared s.scopes name (meaning kind.Variable t (frames.number s.frame));
  frame = record s.frame {
    homes = s.frame.homes ++ h ∷ [];
    marks = s.frame.marks ++ false ∷ [];
    nodes =
        s.frame.nodes ++ x ∷ [];
    object = object;
  };
}

outer_wider : (b : Blocks) (s : State) (name : Name) (t : CType) (h : Home) (x : Stmt) (object : ℕ) →
    s.frame.object ≤ object → Wider stage.Function b s b (with_home name t h x object s)
outer_wider b s name t h x object o = record {
  homes = λ i k e. get_front s.frame.homes (h ∷ []) i k e;
  own = λ i e k. has_none (i - count s.frame.homes) k;
  function = λ i k. has_starts (starts_behind s.frame.nodes (x ∷ [])) i b.function k;
  tick = λ i k. has_none i k;
  object = o;
  functions = refl;
}

-- the number of the new variable
number_is : (s : State) (h : Home) → length (s.frame.homes ++ h ∷ []) ≤ count_bound →
    frames.number s.frame ≡ length s.frame.homes
number_is s h k = omega (arith, k, length-append s.frame.homes (h ∷ []))

means_new : (many : List ℕ) (b : Blocks) (s : State) (name : Name) (t : CType) (h : Home) (x : Stmt) (object : ℕ) →
    frames.number s.frame ≡ length s.frame.homes → IsObject t
    → HasHome (b.function ++ numbers (s.frame.nodes ++ x ∷ [])) object (frames.number s.frame) h
    → Means many stage.Function b (with_home name t h x object s) name (meaning kind.Variable t (frames.number s.frame))
    kind.Variable
means_new many b s name t h x object e o k = (
  subst (λ m. IsVariable stage.Function b (with_home name t h x object s) (frames.number s.frame) m)
      (sym (ap (λ i. slice_get (s.frame.homes ++ h ∷ []) i) e ∙ get_last s.frame.homes h)) k,
  o,
)

outer_did : {many : List ℕ} (b : Blocks) {ks : List (List CaptureKind)} (s : State) (name : Name) (t : CType) (h : Home)
    (x : Stmt) (object : ℕ) (P : Round → Type 0) → IsObject t
    → Grows stage.Function s (with_home name t h x object s)
    → (object ≤ FRAME_OBJECT_BYTES → s.frame.object ≤ object)
    → (object ≤ FRAME_OBJECT_BYTES → (s.frame.object % 4 == 0) ≡ true → (object % 4 == 0) ≡ true)
    → (object ≤ FRAME_OBJECT_BYTES → (s.frame.object % 4 == 0) ≡ true →
    HasHome (b.function ++ numbers (s.frame.nodes ++ x ∷ [])) object (frames.number s.frame) h)
    → ((r : Round) → (s.frame.object % 4 == 0) ≡ true →
    Agrees many stage.Function b ks (with_home name t h x object s) r → P r)
    → Known many stage.Function b ks s → Did many stage.Function b ks s (with_home name t h x object s) P
outer_did {many} b {ks} s name t h x object P o grows more aligned stands answer known =
    let new : State = with_home name t h x object s in
    did_only P refl refl
    (λ small.
    let k = known (small_before grows small) in
    record {
      names = names_more many stage.Function b new s.scopes name (meaning kind.Variable t (frames.number s.frame))
          (names_wider many (outer_wider b s name t h x object (more small.object)) s.scopes k.names)
          (means_new many b s name t h x object (number_is s h small.homes) o (stands small.object k.object));
      ticks = k.ticks;
      object = aligned small.object k.object;
    })
    (λ r a. agrees_back (outer_wider b s name t h x object (more a.small.object)) grows a)
    (λ r a. answer r (known (small_before grows a.small)).object a)

register_did : {many : List ℕ} (b : Blocks) {ks : List (List CaptureKind)} (s : State) (name : Name) (t : CType) →
    IsObject t → Known many stage.Function b ks s
    → Did many stage.Function b ks s
    (with_home name t home.Register (st.Variable (frames.number s.frame)) s.frame.object s)
    (λ r. Good r.function (operand (place.Register (frames.number s.frame)) t))
register_did b s name t o known =
    outer_did b s name t home.Register (st.Variable (frames.number s.frame)) s.frame.object
    (λ r. Good r.function (operand (place.Register (frames.number s.frame)) t)) o
    (register_grows s name (meaning kind.Variable t (frames.number s.frame)))
    (λ h. omega arith) (λ h k. k) (λ h k. has_variable (frames.number s.frame) b.function s.frame.nodes)
    (λ r k a. (
      a.visible (frames.number s.frame) (has_variable (frames.number s.frame) b.function s.frame.nodes),
      o.type,
    )) known

object_did : {many : List ℕ} (b : Blocks) {ks : List (List CaptureKind)} (s : State) (name : Name) (t : CType) (n : ℕ) →
    IsObject t → Known many stage.Function b ks s
    → Did many stage.Function b ks s
    (with_home name t (home.Object s.frame.object) (st.Object s.frame.object n) (after s.frame.object n) s)
    (λ r. Good r.function (operand (place.Memory (ex.Frame s.frame.object)) t))
object_did b s name t n o known =
    outer_did b s name t (home.Object s.frame.object) (st.Object s.frame.object n) (after s.frame.object n)
    (λ r. Good r.function (operand (place.Memory (ex.Frame s.frame.object)) t)) o
    (object_grows s name (meaning kind.Variable t (frames.number s.frame)) n)
    (λ h. after_grows s.frame.object n h)
    (λ h k. ap (λ m. m % 4 == 0) (after_small s.frame.object n h) ∙ aligned_after s.frame.object n k)
    (λ h k. and_true (nat_le s.frame.object (after s.frame.object n)) (s.frame.object % 4 == 0)
    (le_true s.frame.object (after s.frame.object n) (after_grows s.frame.object n h)) k)
    (λ r k a. (
      frame_stands r.function s.frame.object a.is_function
          (le_less s.frame.object (after s.frame.object n) r.function.object
          (after_grows s.frame.object n a.small.object)
          a.object) k,
      record { address = nodes_use.frame s.frame.object; type = o.type },
    )) known

variable_by : {many : List ℕ} (b : Blocks) {ks : List (List CaptureKind)} (s : State) (name : Name) (t : CType)
    (c : Bool) → IsObject t → Known many stage.Function b ks s
    → Did many stage.Function b ks s
    (record s {
      scopes = declared s.scopes name (meaning kind.Variable t (frames.number s.frame));
      frame =
          if c then frames.object_variable (frames.words t) s.frame else frames.register_variable s.frame;
    })
    (λ r. Good r.function (operand
    (place_by (frames.number s.frame) (if c then home.Object s.frame.object else home.Register)) t))
variable_by b s name t true o known = object_did b s name t (frames.words t) o known
variable_by b s name t false o known = register_did b s name t o known

variable_did : {many : List ℕ} (b : Blocks) {ks : List (List CaptureKind)} (s : State) (name : Name) (t : CType) →
    IsObject t → Known many stage.Function b ks s
    → Did many stage.Function b ks s (made_outer t (named name (meaning kind.Variable t (frames.number s.frame)) s)).1
    (λ r. Good r.function (made_outer t (named name (meaning kind.Variable t (frames.number s.frame)) s)).0)
unfolding variable
variable_did b s name t o known = variable_by b s name t (frames.is_object t s.frame) o known

-- ---- a variable of the tick

tick_has : (b : Blocks) (s : State) → b.in_tick ≡ true → of_tick stage.Tick b s ≡ b.tick ++ numbers s.frame.nodes
tick_has b s e = ap (λ c. if c then b.tick ++ numbers s.frame.nodes else []) e

tick_more : (b : Blocks) (s : State) (name : Name) (t : CType) → b.in_tick ≡ true → (i : ℕ) →
    has i (of_tick stage.Tick b s) ≡ true → has i (of_tick stage.Tick b (inner_state name t s)) ≡ true
tick_more b s name t e i h =
    ap (λ l. has i l) (tick_has b (inner_state name t s) e)
    ∙ has_starts (starts_behind s.frame.nodes (st.Variable s.frame.inner ∷ [])) i b.tick
    (ap (λ l. has i l) (sym (tick_has b s e)) ∙ h)

inner_wider : (b : Blocks) (s : State) (name : Name) (t : CType) → b.in_tick ≡ true →
    Wider stage.Tick b s b (inner_state name t s)
inner_wider b s name t e = record {
  homes = λ i k h. h;
  own = λ i h k. (h, tick_more b s name t e (i - count s.frame.homes) k);
  function = λ i h. h;
  tick = tick_more b s name t e;
  object = omega arith;
  functions = refl;
}

has_inner : (b : Blocks) (s : State) (name : Name) (t : CType) → b.in_tick ≡ true →
    has s.frame.inner (of_tick stage.Tick b (inner_state name t s)) ≡ true
has_inner b s name t e = ap (λ l. has s.frame.inner l) (tick_has b (inner_state name t s) e) ∙
    has_variable s.frame.inner b.tick s.frame.nodes

inner_index : (s : State) → length s.frame.homes ≤ count_bound → min (s.frame.inner + 1) 4294967295 ≤ count_bound →
    frames.inner_number s.frame - count s.frame.homes ≡ s.frame.inner
inner_index s h k = omega (arith, h, k)

inner_past : (s : State) → length s.frame.homes ≤ count_bound → min (s.frame.inner + 1) 4294967295 ≤ count_bound →
    length s.frame.homes ≤ frames.inner_number s.frame
inner_past s h k = omega (arith, h, k)

means_inner : (many : List ℕ) (b : Blocks) (s : State) (name : Name) (t : CType) → b.in_tick ≡ true →
    length s.frame.homes ≤ count_bound → min (s.frame.inner + 1) 4294967295 ≤ count_bound → IsObject t
    → Means many stage.Tick b (inner_state name t s) name (meaning kind.Variable t (frames.inner_number s.frame))
    kind.Variable
means_inner many b s name t e h k o = (
  subst (λ m. IsVariable stage.Tick b (inner_state name t s) (frames.inner_number s.frame) m)
      (sym (slice_get_past s.frame.homes (frames.inner_number s.frame) (inner_past s h k)))
      (ap (λ i. has i (of_tick stage.Tick b (inner_state name t s))) (inner_index s h k) ∙ has_inner b s name t e),
  o,
)

inner_did : {many : List ℕ} (b : Blocks) {ks : List (List CaptureKind)} (s : State) (name : Name) (t : CType) →
    b.in_tick ≡ true → IsObject t → Known many stage.Tick b ks s
    → Did many stage.Tick b ks s (inner_state name t s) (λ r. Good r.tick (operand (place.Register s.frame.inner) t))
inner_did {many} b {ks} s name t e o known =
    let new : State = inner_state name t s in
    let grows = inner_grows s name (meaning kind.Variable t (frames.inner_number s.frame)) in
    did_only (λ r. Good r.tick (operand (place.Register s.frame.inner) t)) refl refl
    (λ small.
    let k = known (small_before grows small) in
    record {
      names = names_more many stage.Tick b new s.scopes name (meaning kind.Variable t (frames.inner_number s.frame))
          (names_wider many (inner_wider b s name t e) s.scopes k.names)
          (means_inner many b s name t e small.homes small.tick.inner o);
      ticks = k.ticks;
      object = k.object;
    })
    (λ r a. agrees_back (inner_wider b s name t e) grows a)
    (λ r a. (a.in_tick.0 s.frame.inner (has_inner b s name t e), o.type))

-- ---- the declaration

pub local_did : {many : List ℕ} (g : Stage) (b : Blocks) {ks : List (List CaptureKind)} (line : ℕ) (name : Name)
    (t : CType) (s new : State) (x : Operand) → InBlock g b → IsObject t → Known many g b ks s →
    local g line name t s ≡ Ok (x, new) → Did many g b ks s new (λ r. Good (at g r) x)
local_did {many} stage.Function b {ks} line name t s new x here o known e =
    let is = outer_gives line name t s new x e in
    subst (λ p. Did many stage.Function b ks s p.1 (λ r. Good r.function p.0)) is (variable_did b s name t o known)
local_did {many} stage.Tick b {ks} line name t s new x here o known e =
    let is = inner_gives line name t s new x e in
    subst (λ p. Did many stage.Tick b ks s p.1 (λ r. Good r.tick p.0)) is (inner_did b s name t here o known)
local_did stage.Dollar b line name t s new x here o known e = cc
