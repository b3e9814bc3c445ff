-- What statements leave comes together over statements, and an expression leaves no less.
use Rattle.std.proofs.Common.{◌≡◌, ℕ, ◌≤◌, length, ap, ◌∙◌, arith}
use Rattle.limits.specs.declared.program.TheConstants.{FRAME_OBJECT_BYTES}
use Rattle.check_rules.specs.declared.state.Stage.{Stage}
use Rattle.check_rules.specs.declared.state.Stage.TheVariants as stage
use Rattle.check_rules.specs.declared.state.State.{State}
use Rattle.wf_walk.specs.Kept.{Starts, KeepsTables, KeepsTick, KeepsStage, Keeps, outer, GrowsTables}
use Rattle.wf_walk.specs.Kept.{GrowsFunction, GrowsTick, GrowsStage, Grows}
use Rattle.wf_walk.specs.Known.{Small, SmallTick, SmallInner}
use Rattle.wf_walk.specs.Counts.{variables}
use Rattle.wf_walk.proofs.Fronts.{starts_same, starts_more, starts_length}
use Rattle.wf_walk.proofs.Keeps.{globals_more}
use Rattle.check_rules.specs.Bounds.{count_bound}

chain : (l m n k : ℕ) → (m ≤ k → l ≤ m) → (n ≤ k → m ≤ n) → n ≤ k → l ≤ n
chain l m n k p q h = let b : m ≤ n = q h in let a : l ≤ m = p (omega (arith, b, h)) in omega (arith, a, b)

tables_more : {s t new : State} → GrowsTables s t → GrowsTables t new → GrowsTables s new
tables_more p q = record {
  depth = q.depth ∙ p.depth;
  scopes = q.scopes ∙ p.scopes;
  result = q.result ∙ p.result;
  nodes = starts_more p.nodes q.nodes;
  functions = q.functions ∙ p.functions;
  image = globals_more p.image q.image;
}

function_more : {s t new : State} → GrowsFunction s t → GrowsFunction t new → GrowsFunction s new
function_more {s} {t} {new} p q = record {
  homes = starts_more p.homes q.homes;
  object = λ h. chain s.frame.object t.frame.object new.frame.object FRAME_OBJECT_BYTES p.object q.object h;
  ticks = starts_more p.ticks q.ticks;
}

tick_more : {s t new : State} → GrowsTick s t → GrowsTick t new → GrowsTick s new
tick_more {s} {t} {new} p q = record {
  homes = q.homes ∙ p.homes;
  object = q.object ∙ p.object;
  inner = λ h. chain s.frame.inner t.frame.inner new.frame.inner count_bound p.inner q.inner h;
  ticks = q.ticks ∙ p.ticks;
  captures = starts_more p.captures q.captures;
}

stage_more : (g : Stage) (s t new : State) → GrowsStage g s t → GrowsStage g t new → GrowsStage g s new
stage_more stage.Function s t new p q = function_more p q
stage_more stage.Tick s t new p q = tick_more p q
stage_more stage.Dollar s t new p q = tick_more p q

pub grows_more : {g : Stage} {s t new : State} → Grows g s t → Grows g t new → Grows g s new
grows_more {g} {s} {t} {new} p q =
    record { tables = tables_more p.tables q.tables; at = stage_more g s t new p.at q.at }

-- ---- expressions

same_order : (m n : ℕ) → n ≡ m → m ≤ n
same_order m n e = omega arith

tick_grows : {s new : State} → KeepsTables s new → KeepsTick s new → Starts s.ticks.captures new.ticks.captures →
    GrowsTick s new
tick_grows {s} {new} k t c = record {
  homes = k.homes;
  object = k.object;
  inner = λ h. same_order s.frame.inner new.frame.inner t.inner;
  ticks = t.ticks;
  captures = c;
}

stage_grows : (g : Stage) (s new : State) → KeepsTables s new → KeepsStage g s new → GrowsStage g s new
stage_grows stage.Function s new k h = record {
  homes = starts_same s.frame.homes new.frame.homes k.homes;
  object = λ small. same_order s.frame.object new.frame.object k.object;
  ticks = h;
}
stage_grows stage.Tick s new k h = tick_grows k h.0 h.1
stage_grows stage.Dollar s new k h = tick_grows k h.0 (starts_same s.ticks.captures new.ticks.captures h.1)

pub keeps_grows : {g : Stage} {s new : State} → Keeps g s new → Grows g s new
keeps_grows {g} {s} {new} k = record {
  tables = record {
    depth = ap length k.tables.scopes;
    scopes = ap outer k.tables.scopes;
    result = k.tables.result;
    nodes = starts_same s.frame.nodes new.frame.nodes k.tables.nodes;
    functions = k.tables.functions;
    image = k.tables.image;
  };
  at = stage_grows g s new k.tables k.at;
}

-- ---- what is small behind it was small before

inner_back : {s new : State} → GrowsTick s new → SmallInner new → SmallInner s
inner_back {s} {new} k x =
    let l = starts_length k.captures in
    record {
      inner = let i : s.frame.inner ≤ new.frame.inner = k.inner x.inner in omega (arith, i, x.inner);
      captures =
          omega (arith, l, x.captures);
    }

small_tick : (g : Stage) (s new : State) → GrowsStage g s new → SmallTick g new → SmallTick g s
small_tick stage.Function s new k x = tt
small_tick stage.Tick s new k x = inner_back k x
small_tick stage.Dollar s new k x = inner_back k x

pub homes_grow : (g : Stage) (s new : State) → GrowsStage g s new → Starts s.frame.homes new.frame.homes
homes_grow stage.Function s new k = k.homes
homes_grow stage.Tick s new k = starts_same s.frame.homes new.frame.homes k.homes
homes_grow stage.Dollar s new k = starts_same s.frame.homes new.frame.homes k.homes

pub object_grows : (g : Stage) (s new : State) → GrowsStage g s new → new.frame.object ≤ FRAME_OBJECT_BYTES →
    s.frame.object ≤ new.frame.object
object_grows stage.Function s new k h = k.object h
object_grows stage.Tick s new k h = same_order s.frame.object new.frame.object k.object
object_grows stage.Dollar s new k h = same_order s.frame.object new.frame.object k.object

pub ticks_grow : (g : Stage) (s new : State) → GrowsStage g s new → Starts s.ticks.all new.ticks.all
ticks_grow stage.Function s new k = k.ticks
ticks_grow stage.Tick s new k = starts_same s.ticks.all new.ticks.all k.ticks
ticks_grow stage.Dollar s new k = starts_same s.ticks.all new.ticks.all k.ticks

pub variables_grow : (g : Stage) (s new : State) → GrowsStage g s new → SmallTick g new →
    variables g s ≤ variables g new
variables_grow stage.Function s new k h = starts_length k.homes
variables_grow stage.Tick s new k h = k.inner h.inner
variables_grow stage.Dollar s new k h = k.inner h.inner

pub small_before : {g : Stage} {s new : State} → Grows g s new → Small g new → Small g s
small_before {g} {s} {new} k x =
    let h = starts_length (homes_grow g s new k.at) in
    let o = object_grows g s new k.at x.object in
    let t = starts_length (ticks_grow g s new k.at) in
    record {
      homes = omega (arith, h, x.homes);
      object = omega (arith, o, x.object);
      ticks = omega (arith, t, x.ticks);
      tick = small_tick g s new k.at x.tick;
    }
