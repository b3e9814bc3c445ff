-- A tick, which makes a specification: its body stands right where its captures are those that it made, and these stand
-- right where the specification is made.
use Rattle.std.proofs.Common.{◌≡◌, ℕ, ◌+◌, ◌≤◌, true, false, ◌&&◌, List, [], ◌∷◌, ◌++◌, length, map, refl, sym, ap}
use Rattle.std.proofs.Common.{subst, ◌∙◌, append_assoc, append-nil, length-append, arith, Option, Some, None}
use Rattle.std.specs.Prelude.{slice_get}
use Rattle.std.specs.List.{list_all}
use Rattle.c_types.specs.declared.ctype.CType.{CType}
use Rattle.check_scopes.specs.declared.names.Meaning.{Meaning}
use Rattle.check_scopes.specs.declared.names.MeaningKind.{MeaningKind}
use Rattle.check_scopes.specs.declared.names.MeaningKind.TheVariants as kind
use Rattle.check_scopes.specs.Scopes.{Name}
use Rattle.check_types.specs.Shapes.{is_void}
use Rattle.typed_tree.specs.declared.expression.CaptureKind.{CaptureKind}
use Rattle.typed_tree.specs.declared.expression.Expr.{Expr, roll-Expr}
use Rattle.typed_tree.specs.declared.expression.Expr.TheOpen.{Expr-F}
use Rattle.typed_tree.specs.declared.expression.Expr.TheFolds.{fold-roll-Expr, ind-Expr, map-Expr}
use Rattle.typed_tree.specs.declared.expression.Expr.TheVariants as ex
use Rattle.typed_tree.specs.declared.program.TickBody.{TickBody}
use Rattle.check_operands.specs.Operands.{made}
use Rattle.check_rules.specs.declared.frame.Home.{Home}
use Rattle.check_rules.specs.Frames.{count}
use Rattle.check_rules.specs.Ticks as ticks
use Rattle.check_rules.specs.Bounds.{count_bound}
use Rattle.check_rules.specs.declared.state.Stage.{Stage}
use Rattle.check_rules.specs.declared.state.Stage.TheVariants as stage
use Rattle.check_rules.specs.declared.state.State.{State}
use Rattle.check_rules.specs.Productions.{tick_entered}
use Rattle.wellformed.specs.Accepted.{IsNumbered}
use Rattle.wellformed.specs.Captured.{none, named_in}
use Rattle.wellformed.specs.Places.{Part, part, expr_rule, Around, in_function, kinds_of, kinds_at, stands_as_tick}
use Rattle.wellformed.specs.Values.{body_uses_values}
use Rattle.wellformed.proofs.Equations.{part_tick}
use Rattle.wellformed.proofs.Bools.{and_true}
use Rattle.wf_nodes.specs.Right.{Stands}
use Rattle.wf_nodes.specs.Used.{EachLeaves}
use Rattle.wf_nodes.proofs.NodeValues.{nodes_use}
use Rattle.wf_walk.specs.Kept.{Starts, KeepsTables, Keeps}
use Rattle.wf_walk.specs.Captured.{IsOfLibrary, HasLibrary, Names}
use Rattle.wf_walk.specs.Known.{Blocks, numbers, has, IsVariable, IsParameter, Means, Small, Knows, Known}
use Rattle.wf_walk.specs.Steps.{Round, Agrees, first_kind, one_kind, kinds, round_tick, TickStands, EachTick}
use Rattle.wf_walk.specs.Steps.{EachCapture, Did}
use Rattle.wf_walk.specs.Good.{Good}
use Rattle.wf_walk.proofs.Fronts.{starts_refl, starts_front, same_rest}
use Rattle.wf_walk.proofs.Knowing.{each_scope, known_kept, agrees_back}
use Rattle.wf_walk.proofs.Captures.{same_kinds_refl, count_small, found, none_of}

-- ---- what the walk over the body of a tick leaves

-- it captures little and has few variables
pub record KeepsBody (s new : State) : Type 0 where
  pub tables : KeepsTables s new
  pub ticks : new.ticks.all ≡ s.ticks.all
  pub captures : length new.ticks.captures ≤ length s.ticks.captures + count_bound
  pub inner : new.frame.inner ≤ s.frame.inner + count_bound

-- ---- the captures of a tick, as parts of its node

-- what is a capture has one kind
abbrev OneKind : Part → Type 0
OneKind p = (a : Around) → p.is_capture a ≡ true → p.capture ≡ first_kind p.capture ∷ []

layer : (x : Expr-F Part) → OneKind (expr_rule x)
layer (Expr-F.Capture k p) a h = refl
layer _ a h = cc

part_open : (x : Expr-F Expr) → part (roll-Expr x) ≡ expr_rule (map-Expr Expr Part part x)
unfolding part
part_open x = fold-roll-Expr Part expr_rule x

one_of_capture : (e : Expr) → OneKind (part e)
one_of_capture = ind-Expr (λ e. OneKind (part e))
    (λ x y is. subst OneKind (sym (part_open x)) (layer (map-Expr Expr Part part x)))

kinds_are : (a : Around) (es : List Expr) → EachCapture a es → kinds_of (map part es) ≡ kinds es
kinds_are a [] h = refl
kinds_are a (e ∷ es) h = ap (λ c. c ++ kinds_of (map part es)) (one_of_capture e a h.0) ∙
    ap (λ l. one_kind e ∷ l) (kinds_are a es h.2)

all_captures : (a : Around) (es : List Expr) → EachCapture a es → list_all (λ p. p.is_capture a) (map part es) ≡ true
all_captures a [] h = refl
all_captures a (e ∷ es) h =
    and_true ((part e).is_capture a) (list_all (λ p. p.is_capture a) (map part es)) h.0 (all_captures a es h.2)

all_left : (a : Around) (es : List Expr) → EachCapture a es → EachLeaves es
all_left a [] h = tt
all_left a (e ∷ es) h = (h.1, all_left a es h.2)

-- the node stands where the list of this tick is that of its captures
node_stands : (a : Around) (t : ℕ) (es : List Expr) → in_function a ≡ true → EachCapture a es →
    slice_get a.ticks t ≡ Some (kinds es) → Stands a (ex.Tick t es)
node_stands a t es f h k =
    ap (λ (p : Part). p.stands a) (part_tick t es)
    ∙ and_true (in_function a && list_all (λ p. p.is_capture a) (map part es))
    (kinds_at (kinds_of (map part es)) (slice_get a.ticks t))
    (and_true (in_function a) (list_all (λ p. p.is_capture a) (map part es)) f (all_captures a es h))
    (ap (λ l. kinds_at l (slice_get a.ticks t)) (kinds_are a es h) ∙ ap (kinds_at (kinds es)) k ∙
    same_kinds_refl (kinds es))

-- ---- into a tick

-- the blocks that are round what stands in a tick
abbrev pub blocks : Blocks → State → Blocks
blocks b s = record { function = b.function ++ numbers s.frame.nodes; tick = []; in_tick = false }

variable_entered : (b : Blocks) (s : State) (n : ℕ) (h : Option Home) → IsVariable stage.Function b s n h →
    IsVariable stage.Tick (blocks b s) (tick_entered s) n h
variable_entered b s n None x = cc
variable_entered b s n (Some h) x = x

parameter_entered : (b : Blocks) (s : State) (n : ℕ) (h : Option Home) → IsParameter stage.Function b s n h →
    IsParameter stage.Tick (blocks b s) (tick_entered s) n h
parameter_entered b s n None x = x
parameter_entered b s n (Some h) x = x

means_entered : (many : List ℕ) (b : Blocks) (s : State) (name : Name) (m : Meaning) (what : MeaningKind) →
    Means many stage.Function b s name m what → Means many stage.Tick (blocks b s) (tick_entered s) name m what
means_entered many b s name m kind.Variable x =
    (variable_entered b s m.index (slice_get s.frame.homes m.index) x.0, x.1)
means_entered many b s name m kind.Parameter x =
    (parameter_entered b s m.index (slice_get s.frame.homes m.index) x.0, x.1)
means_entered many b s name m kind.Global x = x
means_entered many b s name m kind.Function x = x
means_entered many b s name m kind.Library x = x

pub known_entered : {many : List ℕ} {b : Blocks} {ks : List (List CaptureKind)} {s : State} →
    Known many stage.Function b ks s → Known many stage.Tick (blocks b s) ks (tick_entered s)
known_entered {many} {b} {ks} {s} known small =
    let was = known (record { homes = small.homes; object = small.object; ticks = small.ticks; tick = tt }) in
    record {
      names = each_scope (λ name m. Means many stage.Function b s name m m.kind)
          (λ name m. Means many stage.Tick (blocks b s) (tick_entered s) name m m.kind)
          (λ name m h. means_entered many b s name m m.kind h) s.scopes was.names;
      ticks = was.ticks;
      object = was.object;
    }

-- the names of the library are known
of_library : (many : List ℕ) (g : Stage) (b : Blocks) (s : State) (name : Name) (m : Meaning) (what : MeaningKind) →
    Means many g b s name m what → IsOfLibrary m what
of_library many g b s name m kind.Variable x = tt
of_library many g b s name m kind.Parameter x = tt
of_library many g b s name m kind.Global x = tt
of_library many g b s name m kind.Function x = tt
of_library many g b s name m kind.Library x = x

library_known : {many : List ℕ} {g : Stage} {b : Blocks} {ks : List (List CaptureKind)} {s : State} →
    Knows many g b ks s → HasLibrary s
library_known {many} {g} {b} {ks} {s} known =
    each_scope (λ name m. Means many g b s name m m.kind) (λ name m. IsOfLibrary m m.kind)
    (λ name m h. of_library many g b s name m m.kind h) s.scopes known.names

-- ---- out of it

-- after a tick of this body
abbrev pub left : TickBody → State → State
left body s = record s { ticks = ticks.left body s.ticks }

tables_left : (body : TickBody) (s t : State) → KeepsTables (tick_entered s) t → KeepsTables s (left body t)
tables_left body s t k = record {
  scopes = k.scopes;
  result = k.result;
  homes = k.homes;
  nodes = k.nodes;
  object = k.object;
  labels = k.labels;
  functions = k.functions;
  image = record { end = k.image.end; globals = k.image.globals; at = k.image.at };
}

abbrev starts_left : (body : TickBody) (s t : State) → t.ticks.all ≡ s.ticks.all →
    Starts s.ticks.all (left body t).ticks.all
starts_left body s t e = record { rest = ticks.tick_of body ∷ []; is = ap (λ l. l ++ ticks.tick_of body ∷ []) e }

pub keeps_left : (body : TickBody) (s t : State) → KeepsBody (tick_entered s) t → Keeps stage.Function s (left body t)
keeps_left body s t k = record { tables = tables_left body s t k.tables; at = starts_left body s t k.ticks }

-- the body of a tick stands right there, and its values are used
pub record BodyStands (a : Around) (body : TickBody) : Type 0 where
  pub stands : stands_as_tick body a ≡ true
  pub values : body_uses_values body ≡ true

-- what is round the body, where this is round the tick
abbrev inside : Round → List Expr → Round
inside r es = record { function = r.function; tick = round_tick r.function (kinds es) }

small_before : (s t : State) (body : TickBody) → KeepsBody (tick_entered s) t → Small stage.Function (left body t) →
    Small stage.Function s
small_before s t body k x = record {
  homes = omega (arith, ap length k.tables.homes, x.homes);
  object = omega (arith, k.tables.object, x.object);
  ticks = omega (arith, ap length k.ticks, length-append t.ticks.all (ticks.tick_of body ∷ []), x.ticks);
  tick = tt;
}

small_inside : (s t : State) (body : TickBody) → KeepsBody (tick_entered s) t → Small stage.Function (left body t) →
    Small stage.Tick t
small_inside s t body k x = record {
  homes = x.homes;
  object = x.object;
  ticks = omega (arith, length-append t.ticks.all (ticks.tick_of body ∷ []), x.ticks);
  tick = record { inner = omega (arith, k.inner); captures = omega (arith, k.captures) };
}

module _ {many : List ℕ} {b : Blocks} {ks : List (List CaptureKind)} {s t : State} (body : TickBody)
    (known : Known many stage.Function b ks s) (k : KeepsBody (tick_entered s) t)
    (numbered : Small stage.Tick t → IsNumbered body)
    (names : HasLibrary (tick_entered s) → Names none (named_in body) (tick_entered s) t) (P : Round → Type 0)
    (here : (r : Round) → P (inside r t.ticks.captures) →
    BodyStands (round_tick r.function (kinds t.ticks.captures)) body)
    (d : Did many stage.Tick (blocks b s) ks (tick_entered s) t P) where
  -- no tick is made in a tick
  no_more : Small stage.Function (left body t) → d.more ≡ []
  no_more small =
      let after = d.known (small_inside s t body k small) in
      let before = known (small_before s t body k small) in
      none_of d.more (omega (arith, length-append ks d.more, after.ticks, before.ticks, ap length k.ticks))

  agrees_inside : (r : Round) → Agrees many stage.Function b (ks ++ kinds t.ticks.captures ∷ []) (left body t) r →
      Agrees many stage.Tick (blocks b s) (ks ++ d.more) t (inside r t.ticks.captures)
  agrees_inside r a = record {
    small = small_inside s t body k a.small;
    visible = λ i p. a.visible i (subst (λ ns. has i (b.function ++ numbers ns) ≡ true) (sym k.tables.nodes) p);
    object = a.object;
    is_function = a.is_function;
    functions = (a.functions.0, a.functions.0);
    ticks = subst (λ l. Starts l r.function.ticks) (sym (append-nil ks) ∙ ap (λ l. ks ++ l) (sym (no_more a.small)))
        (starts_front ks (kinds t.ticks.captures ∷ []) a.ticks);
    in_tick = (λ i p. cc, starts_refl (kinds t.ticks.captures));
  }

  made_captures : (r : Round) → Agrees many stage.Function b (ks ++ kinds t.ticks.captures ∷ []) (left body t) r →
      EachCapture r.function t.ticks.captures
  made_captures r a = d.captures (inside r t.ticks.captures) (agrees_inside r a)
      (record { rest = t.ticks.captures; is = refl })

  body_stands : (r : Round) → Agrees many stage.Function b (ks ++ kinds t.ticks.captures ∷ []) (left body t) r →
      TickStands r.function (ticks.tick_of body) (kinds t.ticks.captures)
  body_stands r a =
      let x = here r (d.stands (inside r t.ticks.captures) (agrees_inside r a)) in
      let small = small_inside s t body k a.small in
      record {
        stands = x.stands;
        values = x.values;
        captures = (names (library_known (known (small_before s t body k a.small)))).is small.tick.captures (Some [])
            refl;
        numbers = numbered small;
        size = refl;
      }

  its_kinds : (r : Round) → Agrees many stage.Function b (ks ++ kinds t.ticks.captures ∷ []) (left body t) r →
      slice_get r.function.ticks (count t.ticks.all) ≡ Some (kinds t.ticks.captures)
  its_kinds r a =
      let before = known (small_before s t body k a.small) in
      let inner = small_inside s t body k a.small in
      let same = ap length k.ticks in
      let place : count t.ticks.all ≡ length ks = count_small t.ticks.all inner.ticks ∙ same ∙ sym before.ticks in
      ap (slice_get r.function.ticks) place
      ∙ ap (λ l. slice_get l (length ks)) (a.ticks.is ∙ append_assoc ks (kinds t.ticks.captures ∷ []) a.ticks.rest)
      ∙ found ks a.ticks.rest (kinds t.ticks.captures)

  pub tick_did : (ty : CType) → is_void ty ≡ false →
      Did many stage.Function b ks s (left body t) (λ r. Good r.function (made (ticks.node t.ticks) ty))
  tick_did ty v = record {
    more = kinds t.ticks.captures ∷ [];
    known = known_kept (kinds t.ticks.captures ∷ []) (keeps_left body s t k)
        (λ made. sym (ap length (same_rest made (starts_left body s t k.ticks)))) known;
    back = λ r a. agrees_back (kinds t.ticks.captures ∷ []) (keeps_left body s t k) a;
    ticks = λ r a made. subst (λ ts. EachTick r.function ts (kinds t.ticks.captures ∷ []))
        (same_rest (starts_left body s t k.ticks) made) (body_stands r a, tt);
    captures = λ r a. tt;
    stands = λ r a.
        let es = made_captures r a in (
          node_stands r.function (count t.ticks.all) t.ticks.captures a.is_function es (its_kinds r a),
          nodes_use.used ty (ex.Tick (count t.ticks.all) t.ticks.captures)
              (nodes_use.tick (count t.ticks.all) t.ticks.captures (all_left r.function t.ticks.captures es)) v,
        );
  }
