-- What is known before a step that keeps it is known behind it, and who has room for what is known behind it had room
-- before.
use Rattle.std.proofs.Common.{◌≡◌, ℕ, ◌-◌, true, if◌then◌else◌, List, [], ◌∷◌, ◌++◌, length, refl, sym, ap, subst, ◌∙◌}
use Rattle.std.proofs.Common.{length-append, arith, Option, Some, None}
use Rattle.std.specs.Prelude.{◌%◌, ◌==◌, nat_le, slice_get}
use Rattle.check_scopes.specs.declared.names.Meaning.{Meaning}
use Rattle.check_scopes.specs.declared.names.MeaningKind.{MeaningKind}
use Rattle.check_scopes.specs.declared.names.MeaningKind.TheVariants as kind
use Rattle.check_scopes.specs.Scopes.{Name, Scope, Scopes}
use Rattle.typed_tree.specs.declared.expression.CaptureKind.{CaptureKind}
use Rattle.typed_tree.specs.declared.expression.Expr.{Expr}
use Rattle.check_rules.specs.declared.frame.Home.{Home}
use Rattle.check_rules.specs.Frames.{count}
use Rattle.check_rules.specs.Functions.{number}
use Rattle.check_rules.specs.declared.state.Stage.{Stage}
use Rattle.check_rules.specs.declared.state.Stage.TheVariants as stage
use Rattle.check_rules.specs.declared.state.State.{State}
use Rattle.wf_walk.specs.Kept.{Starts, KeepsTables, KeepsTick, KeepsStage, Keeps}
use Rattle.wf_walk.specs.Known.{Blocks, of_function, of_tick, has, numbers, HasHome, IsVariable, IsParameter}
use Rattle.wf_walk.specs.Known.{Means, EachEntry, EachScope, Small, SmallInner, SmallTick, Known}
use Rattle.wf_walk.specs.Steps.{Round, Captures, one_kind, kinds, AgreesTick, Agrees}
use Rattle.wf_walk.proofs.Fronts.{starts_same, starts_front, starts_length}

-- ---- the names

pub of_function_kept : (g : Stage) (b : Blocks) {s new : State} → KeepsTables s new →
    of_function g b new ≡ of_function g b s
of_function_kept stage.Function b k = ap (λ ns. b.function ++ numbers ns) k.nodes
of_function_kept stage.Tick b k = refl
of_function_kept stage.Dollar b k = refl

pub of_tick_kept : (g : Stage) (b : Blocks) {s new : State} → KeepsTables s new → of_tick g b new ≡ of_tick g b s
of_tick_kept stage.Function b k = refl
of_tick_kept stage.Tick b k = ap (λ ns. if b.in_tick then b.tick ++ numbers ns else []) k.nodes
of_tick_kept stage.Dollar b k = ap (λ ns. if b.in_tick then b.tick ++ numbers ns else []) k.nodes

home_kept : (g : Stage) (b : Blocks) {s new : State} → KeepsTables s new → (n : ℕ) (h : Home) →
    HasHome (of_function g b s) s.frame.object n h → HasHome (of_function g b new) new.frame.object n h
home_kept g b {s} {new} k n h x =
    subst (λ o. HasHome (of_function g b new) o n h) (sym k.object)
    (subst (λ v. HasHome v s.frame.object n h) (sym (of_function_kept g b k)) x)

own_kept : (g : Stage) (b : Blocks) {s new : State} → KeepsTables s new → (n : ℕ) →
    has (n - count s.frame.homes) (of_tick g b s) ≡ true → has (n - count new.frame.homes) (of_tick g b new) ≡ true
own_kept g b {s} {new} k n x =
    ap (λ hs. has (n - count hs) (of_tick g b new)) k.homes ∙
    ap (λ ns. has (n - count s.frame.homes) ns) (of_tick_kept g b k) ∙ x

variable_kept : (g : Stage) (b : Blocks) {s new : State} → KeepsTables s new → (n : ℕ) (h : Option Home) →
    IsVariable g b s n h → IsVariable g b new n h
variable_kept g b k n None x = own_kept g b k n x
variable_kept g b k n (Some h) x = home_kept g b k n h x

parameter_kept : (g : Stage) (b : Blocks) {s new : State} → KeepsTables s new → (n : ℕ) (h : Option Home) →
    IsParameter g b s n h → IsParameter g b new n h
parameter_kept g b k n None x = x
parameter_kept g b k n (Some h) x = home_kept g b k n h x

pub means_kept : (many : List ℕ) (g : Stage) (b : Blocks) {s new : State} → KeepsTables s new →
    (name : Name) (m : Meaning) (what : MeaningKind) → Means many g b s name m what → Means many g b new name m what
means_kept many g b {s} {new} k name m kind.Variable x = (
  subst (λ hs. IsVariable g b new m.index (slice_get hs m.index)) (sym k.homes)
      (variable_kept g b k m.index (slice_get s.frame.homes m.index) x.0),
  x.1,
)
means_kept many g b {s} {new} k name m kind.Parameter x = (
  subst (λ hs. IsParameter g b new m.index (slice_get hs m.index)) (sym k.homes)
      (parameter_kept g b k m.index (slice_get s.frame.homes m.index) x.0),
  x.1,
)
means_kept many g b k name m kind.Global x = x
means_kept many g b k name m kind.Function x = x
means_kept many g b k name m kind.Library x = x

pub each_entry : (P Q : Name → Meaning → Type 0) → ((n : Name) (m : Meaning) → P n m → Q n m) → (es : Scope) →
    EachEntry P es → EachEntry Q es
each_entry P Q f [] x = tt
each_entry P Q f (e ∷ es) x = (f e.0 e.1 x.0, each_entry P Q f es x.1)

pub each_scope : (P Q : Name → Meaning → Type 0) → ((n : Name) (m : Meaning) → P n m → Q n m) → (ss : Scopes) →
    EachScope P ss → EachScope Q ss
each_scope P Q f [] x = tt
each_scope P Q f (s ∷ ss) x = (each_entry P Q f s x.0, each_scope P Q f ss x.1)

pub names_kept : (many : List ℕ) (g : Stage) (b : Blocks) {s new : State} → KeepsTables s new →
    EachScope (λ name m. Means many g b s name m m.kind) s.scopes →
    EachScope (λ name m. Means many g b new name m m.kind) new.scopes
names_kept many g b {s} {new} k x =
    subst (λ ss. EachScope (λ name m. Means many g b new name m m.kind) ss) (sym k.scopes)
    (each_scope (λ name m. Means many g b s name m m.kind) (λ name m. Means many g b new name m m.kind)
    (λ name m h. means_kept many g b k name m m.kind h) s.scopes x)

-- ---- counts

pub keeps_ticks : (g : Stage) (s new : State) → KeepsStage g s new → Starts s.ticks.all new.ticks.all
keeps_ticks stage.Function s new k = k
keeps_ticks stage.Tick s new k = starts_same s.ticks.all new.ticks.all k.0.ticks
keeps_ticks stage.Dollar s new k = starts_same s.ticks.all new.ticks.all k.0.ticks

inner_back : {s new : State} → KeepsTick s new → Starts s.ticks.captures new.ticks.captures → SmallInner new →
    SmallInner s
inner_back k c x = let l = starts_length c in
    record { inner = omega (arith, k.inner, x.inner); captures = omega (arith, l, x.captures) }

small_tick_back : (g : Stage) (s new : State) → KeepsStage g s new → SmallTick g new → SmallTick g s
small_tick_back stage.Function s new k x = tt
small_tick_back stage.Tick s new k x = inner_back k.0 k.1 x
small_tick_back stage.Dollar s new k x = inner_back k.0 (starts_same s.ticks.captures new.ticks.captures k.1) x

pub small_back : {g : Stage} {s new : State} → Keeps g s new → Small g new → Small g s
small_back {g} {s} {new} k x =
    let t = starts_length (keeps_ticks g s new k.at) in
    record {
      homes = omega (arith, ap length k.tables.homes, x.homes);
      object = omega (arith, k.tables.object, x.object);
      ticks = omega (arith, t, x.ticks);
      tick = small_tick_back g s new k.at x.tick;
    }

-- what is known behind it, where its ticks are as many as their lists of captures
pub known_kept : {many : List ℕ} {g : Stage} {b : Blocks} {ks : List (List CaptureKind)} {s new : State}
    (more : List (List CaptureKind)) → Keeps g s new →
    ((made : Starts s.ticks.all new.ticks.all) → length more ≡ length made.rest) → Known many g b ks s →
    Known many g b (ks ++ more) new
known_kept {many} {g} {b} {ks} {s} {new} more k each known small =
    let was = known (small_back k small) in
    let made = keeps_ticks g s new k.at in
    let e = each made in
    record {
      names = names_kept many g b k.tables was.names;
      ticks = omega (
        arith,
        length-append ks more,
        length-append s.ticks.all made.rest,
        ap length made.is,
        was.ticks,
        e,
      );
      object = subst (λ o. (o % 4 == 0) ≡ true) (sym k.tables.object) was.object;
    }

-- ---- surroundings

pub kinds_append : (xs ys : List Expr) → kinds (xs ++ ys) ≡ kinds xs ++ kinds ys
kinds_append [] ys = refl
kinds_append (x ∷ xs) ys = ap (λ l. one_kind x ∷ l) (kinds_append xs ys)

pub captures_front : (xs ys : List CaptureKind) (all : Option (List CaptureKind)) → Captures (xs ++ ys) all →
    Captures xs all
captures_front xs ys None x = x
captures_front xs ys (Some all) x = starts_front xs ys x

pub captures_back : (xs ys : List Expr) (all : Option (List CaptureKind)) → Starts xs ys → Captures (kinds ys) all →
    Captures (kinds xs) all
captures_back xs ys all p x =
    captures_front (kinds xs) (kinds p.rest) all
    (subst (λ l. Captures l all) (ap kinds p.is ∙ kinds_append xs p.rest) x)

agrees_tick_back : (g : Stage) (b : Blocks) (s new : State) (r : Round) → KeepsTables s new → KeepsStage g s new →
    AgreesTick g b new r → AgreesTick g b s r
agrees_tick_back stage.Function b s new r k h x = tt
agrees_tick_back stage.Tick b s new r k h x = (
  λ i p. x.0 i (subst (λ ns. has i ns ≡ true) (sym (of_tick_kept stage.Tick b k)) p),
  captures_back s.ticks.captures new.ticks.captures r.tick.captures h.1 x.1,
)
agrees_tick_back stage.Dollar b s new r k h x = (
  λ i p. x.0 i (subst (λ ns. has i ns ≡ true) (sym (of_tick_kept stage.Dollar b k)) p),
  captures_back s.ticks.captures new.ticks.captures r.tick.captures
      (starts_same s.ticks.captures new.ticks.captures h.1) x.1,
)

pub agrees_back : {many : List ℕ} {g : Stage} {b : Blocks} {ks : List (List CaptureKind)} {s new : State} {r : Round}
    (more : List (List CaptureKind)) → Keeps g s new → Agrees many g b (ks ++ more) new r → Agrees many g b ks s r
agrees_back {many} {g} {b} {ks} {s} {new} {r} more k a = record {
  small = small_back k a.small;
  visible = λ i p. a.visible i (subst (λ ns. has i ns ≡ true) (sym (of_function_kept g b k.tables)) p);
  object = subst (λ o. nat_le o r.function.object ≡ true) k.tables.object a.object;
  is_function = a.is_function;
  functions = a.functions;
  ticks = starts_front ks more a.ticks;
  in_tick = agrees_tick_back g b s new r k.tables k.at a.in_tick;
}
