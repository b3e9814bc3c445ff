-- What is known in a block that is entered, and behind it.
use Rattle.std.proofs.Common.{◌≡◌, ℕ, ◌-◌, true, List, [], ◌∷◌, ◌++◌, map, refl, sym, ap, subst, ◌∙◌, arith, None}
use Rattle.std.specs.Prelude.{◌⊎◌, nat_le, slice_get}
use Rattle.std.proofs.Common.{inl, inr}
use Rattle.typed_tree.specs.declared.expression.CaptureKind.{CaptureKind}
use Rattle.typed_tree.specs.declared.expression.Stmt.{Stmt}
use Rattle.typed_tree.specs.declared.program.Tick.{Tick}
use Rattle.check_rules.specs.Frames.{count}
use Rattle.check_rules.specs.declared.state.Stage.{Stage}
use Rattle.check_rules.specs.declared.state.Stage.TheVariants as stage
use Rattle.check_rules.specs.declared.state.State.{State}
use Rattle.wellformed.specs.Places.{Around, act, in_scope, within}
use Rattle.wf_walk.specs.Kept.{GrowsStage, Grows}
use Rattle.wf_walk.specs.Known.{Blocks, of_function, of_tick, has, numbers, Means, Small, Known}
use Rattle.wf_walk.specs.Steps.{Round, AgreesTick, Agrees, EachTick, CapturesStand, Did}
use Rattle.wf_walk.specs.Items.{MayStand, entered}
use Rattle.wf_walk.proofs.Blocks.{inside, back}
use Rattle.wf_walk.proofs.Growing.{small_before, object_grows, homes_grow}
use Rattle.wf_walk.proofs.StatementBlocks.{scopes_back, grows_back, small_inside}
use Rattle.wf_walk.proofs.Lists.{get_starts, has_front, has_back, has_either, has_none, scopes_append}
use Rattle.wf_walk.proofs.Wider.{Wider, AllMean, names_wider, agrees_wider}

-- ---- in the block

-- the number stands among those and none
nothing_more : (i : ℕ) (ns : List ℕ) → has i ns ≡ true → has i (ns ++ []) ≡ true
nothing_more i ns h = has_front i ns [] h

own_inside : (g : Stage) (b : Blocks) (s : State) (i : ℕ) → has i (of_tick g b s) ≡ true →
    has i (of_tick g (entered g b s) (inside s)) ≡ true
own_inside stage.Function b s i h = h
own_inside stage.Tick b s i h = nothing_more i (of_tick stage.Tick b s) h
own_inside stage.Dollar b s i h = nothing_more i (of_tick stage.Dollar b s) h

function_inside : (g : Stage) (b : Blocks) (s : State) (i : ℕ) → has i (of_function g b s) ≡ true →
    has i (of_function g (entered g b s) (inside s)) ≡ true
function_inside stage.Function b s i h = nothing_more i (b.function ++ numbers s.frame.nodes) h
function_inside stage.Tick b s i h = h
function_inside stage.Dollar b s i h = h

inside_wider : (g : Stage) (b : Blocks) (s : State) → Wider g b s (entered g b s) (inside s)
inside_wider g b s = record {
  homes = λ i h e. e;
  own = λ i e h. (e, own_inside g b s (i - count s.frame.homes) h);
  function = λ i h. function_inside g b s i h;
  tick = λ i h. own_inside g b s i h;
  object = omega arith;
  functions = refl;
}

small_entered : (g : Stage) (s : State) → Small g (inside s) → Small g s
small_entered stage.Function s x = record { homes = x.homes; object = x.object; ticks = x.ticks; tick = tt }
small_entered stage.Tick s x =
    record {
      homes = x.homes;
      object = x.object;
      ticks = x.ticks;
      tick =
          record { inner = x.tick.inner; captures = x.tick.captures };
    }
small_entered stage.Dollar s x =
    record {
      homes = x.homes;
      object = x.object;
      ticks = x.ticks;
      tick =
          record { inner = x.tick.inner; captures = x.tick.captures };
    }

pub known_inside : (many : List ℕ) (g : Stage) (b : Blocks) (ks : List (List CaptureKind)) (s : State) →
    Known many g b ks s → Known many g (entered g b s) ks (inside s)
known_inside many g b ks s known small =
    let k = known (small_entered g s small) in
    record {
      names = scopes_append (λ name m. Means many g (entered g b s) (inside s) name m m.kind) s.scopes ([] ∷ [])
          (names_wider many (inside_wider g b s) s.scopes k.names) (tt, tt);
      ticks = k.ticks;
      object = k.object;
    }

-- ---- behind the block

own_back : (g : Stage) (b : Blocks) (s t : State) → MayStand g → GrowsStage g (inside s) t → (i : ℕ) →
    slice_get s.frame.homes i ≡ None → has (i - count s.frame.homes) (of_tick g b s) ≡ true
    → (slice_get t.frame.homes i ≡ None) × (has (i - count t.frame.homes) (of_tick g b (back s t)) ≡ true)
own_back stage.Function b s t may p i e h = has_none (i - count s.frame.homes) h
own_back stage.Tick b s t may p i e h =
    (ap (λ hs. slice_get hs i) p.homes ∙ e, ap (λ hs. has (i - count hs) (of_tick stage.Tick b s)) p.homes ∙ h)
own_back stage.Dollar b s t may p i e h = cc

function_back : (g : Stage) (b : Blocks) (s t : State) (i : ℕ) → has i (of_function g b s) ≡ true →
    has i (of_function g b (back s t)) ≡ true
function_back stage.Function b s t i h = h
function_back stage.Tick b s t i h = h
function_back stage.Dollar b s t i h = h

tick_back : (g : Stage) (b : Blocks) (s t : State) (i : ℕ) → has i (of_tick g b s) ≡ true →
    has i (of_tick g b (back s t)) ≡ true
tick_back stage.Function b s t i h = h
tick_back stage.Tick b s t i h = h
tick_back stage.Dollar b s t i h = h

pub back_wider : (g : Stage) (b : Blocks) (s t : State) → MayStand g → Grows g (inside s) t → Small g t →
    Wider g b s b (back s t)
back_wider g b s t may p small = record {
  homes = λ i h e. get_starts (homes_grow g (inside s) t p.at) i h e;
  own = λ i e h. own_back g b s t may p.at i e h;
  function = λ i h. function_back g b s t i h;
  tick = λ i h. tick_back g b s t i h;
  object = object_grows g (inside s) t p.at small.object;
  functions = p.tables.functions;
}

pub known_back : (many : List ℕ) (g : Stage) (b : Blocks) (ks ms : List (List CaptureKind)) (s t : State) → MayStand g →
    Grows g (inside s) t → Known many g b ks s → Known many g (entered g b s) ms t → Known many g b ms (back s t)
known_back many g b ks ms s t may p known after small =
    let in_block = small_inside g s t small in
    let k = known (small_before (grows_back g s t p) small) in
    let m = after in_block in
    record {
      names = subst (λ ss. AllMean many g b (back s t) ss) (sym (scopes_back g s t p))
          (names_wider many (back_wider g b s t may p in_block) s.scopes k.names);
      ticks = m.ticks;
      object = m.object;
    }

-- ---- surroundings

-- with the block of these variables round it
abbrev pub in_block : Stage → List Stmt → Round → Round
in_block stage.Function vs r = record { function = within (map act vs) r.function; tick = r.tick }
in_block stage.Tick vs r = record { function = r.function; tick = within (map act vs) r.tick }
in_block stage.Dollar vs r = record { function = r.function; tick = within (map act vs) r.tick }

scope_within : (vs : List Stmt) (a : Around) (ns : List ℕ) → ((i : ℕ) → has i ns ≡ true → in_scope i a ≡ true) →
    (i : ℕ) → has i (ns ++ numbers vs) ≡ true → in_scope i (within (map act vs) a) ≡ true
scope_within vs a ns f i h = by (has_either i ns (numbers vs) h)
  where
    by : (has i ns ≡ true) ⊎ (has i (numbers vs) ≡ true) → in_scope i (within (map act vs) a) ≡ true
    by (inl p) = has_front i a.variables (numbers vs) (f i p)
    by (inr p) = has_back i a.variables (numbers vs) p

visible_in : (g : Stage) (b : Blocks) (s t : State) (r : Round) →
    ((i : ℕ) → has i (of_function g b (back s t)) ≡ true → in_scope i r.function ≡ true)
    → (i : ℕ) → has i (of_function g (entered g b s) t) ≡ true → in_scope i (in_block g t.frame.nodes r).function ≡ true
visible_in stage.Function b s t r f i h =
    scope_within t.frame.nodes r.function (b.function ++ numbers s.frame.nodes) f i h
visible_in stage.Tick b s t r f i h = f i h
visible_in stage.Dollar b s t r f i h = f i h

tick_in : (g : Stage) (b : Blocks) (s t : State) (r : Round) → AgreesTick g b (back s t) r →
    AgreesTick g (entered g b s) t (in_block g t.frame.nodes r)
tick_in stage.Function b s t r x = tt
tick_in stage.Tick b s t r x = (λ i h. scope_within t.frame.nodes r.tick (of_tick stage.Tick b s) x.0 i h, x.1)
tick_in stage.Dollar b s t r x = (λ i h. scope_within t.frame.nodes r.tick (of_tick stage.Dollar b s) x.0 i h, x.1)

object_in : (g : Stage) (vs : List Stmt) (n : ℕ) (r : Round) → nat_le n r.function.object ≡ true →
    nat_le n (in_block g vs r).function.object ≡ true
object_in stage.Function vs n r h = h
object_in stage.Tick vs n r h = h
object_in stage.Dollar vs n r h = h

pub agrees_in : {many : List ℕ} {g : Stage} {b : Blocks} {ks : List (List CaptureKind)} (s t : State) {r : Round} →
    Agrees many g b ks (back s t) r → Agrees many g (entered g b s) ks t (in_block g t.frame.nodes r)
agrees_in {g = stage.Function} {b = b} s t {r = r} a = record {
  small = small_inside stage.Function s t a.small;
  visible = visible_in stage.Function b s t r a.visible;
  object = a.object;
  is_function = a.is_function;
  functions = a.functions;
  ticks = a.ticks;
  in_tick = tt;
}
agrees_in {g = stage.Tick} {b = b} s t {r = r} a = record {
  small = small_inside stage.Tick s t a.small;
  visible = visible_in stage.Tick b s t r a.visible;
  object = a.object;
  is_function = a.is_function;
  functions = a.functions;
  ticks = a.ticks;
  in_tick = tick_in stage.Tick b s t r a.in_tick;
}
agrees_in {g = stage.Dollar} {b = b} s t {r = r} a = record {
  small = small_inside stage.Dollar s t a.small;
  visible = visible_in stage.Dollar b s t r a.visible;
  object = a.object;
  is_function = a.is_function;
  functions = a.functions;
  ticks = a.ticks;
  in_tick = tick_in stage.Dollar b s t r a.in_tick;
}

-- ticks and captures stand outside of the block as well
tick_out : (vs : List Stmt) (a : Around) (ts : List Tick) (ks : List (List CaptureKind)) →
    EachTick (within (map act vs) a) ts ks → EachTick a ts ks
tick_out vs a [] [] h = tt
tick_out vs a [] (k ∷ ks) h = h
tick_out vs a (t ∷ ts) [] h = h
tick_out vs a (t ∷ ts) (k ∷ ks) h = (
  record {
    stands = h.0.stands;
    values = h.0.values;
    captures = h.0.captures;
    numbers = h.0.numbers;
    size = h.0.size;
  },
  tick_out vs a ts ks h.1,
)

pub ticks_out : (g : Stage) (vs : List Stmt) (r : Round) (ts : List Tick) (ks : List (List CaptureKind)) →
    EachTick (in_block g vs r).function ts ks → EachTick r.function ts ks
ticks_out stage.Function vs r ts ks h = tick_out vs r.function ts ks h
ticks_out stage.Tick vs r ts ks h = h
ticks_out stage.Dollar vs r ts ks h = h

pub captures_out : (g : Stage) (s t : State) (vs : List Stmt) (r : Round) →
    CapturesStand g (inside s) t (in_block g vs r) → CapturesStand g s (back s t) r
captures_out stage.Function s t vs r h = tt
captures_out stage.Tick s t vs r h = h
captures_out stage.Dollar s t vs r h = tt

-- what the steps in a block did, seen from outside
pub did_block : {many : List ℕ} {g : Stage} {b : Blocks} {ks : List (List CaptureKind)} (s t : State)
    (Q : Round → Type 0) → MayStand g → Grows g (inside s) t → Known many g b ks s →
    Did many g (entered g b s) ks (inside s) t Q
    → Did many g b ks s (back s t) (λ r. Q (in_block g t.frame.nodes r))
did_block {many} {g} {b} {ks} s t Q may p known d = record {
  more = d.more;
  known = known_back many g b ks (ks ++ d.more) s t may p known d.known;
  back = λ r a. agrees_wider d.more (back_wider g b s t may p (small_inside g s t a.small)) (grows_back g s t p) a;
  ticks = λ r a made. ticks_out g t.frame.nodes r made.rest d.more
      (d.ticks (in_block g t.frame.nodes r) (agrees_in s t a) made);
  captures = λ r a. captures_out g s t t.frame.nodes r (d.captures (in_block g t.frame.nodes r) (agrees_in s t a));
  stands = λ r a. d.stands (in_block g t.frame.nodes r) (agrees_in s t a);
}
