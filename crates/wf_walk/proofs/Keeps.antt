-- What steps keep comes together over steps.
use Rattle.std.proofs.Common.{◌≡◌, refl, subst, ◌∙◌}
use Rattle.tick_tree.specs.Faults.{Checked}
use Rattle.check_rules.specs.declared.state.Stage.{Stage}
use Rattle.check_rules.specs.declared.state.Stage.TheVariants as stage
use Rattle.check_rules.specs.declared.state.State.{State}
use Rattle.check_rules.specs.Walks.{Rule, ◌>>=◌, pure, lift}
use Rattle.wf_walk.specs.Kept.{KeepsGlobals, KeepsTables, KeepsTick, KeepsStage, Keeps, IsKeeping}
use Rattle.wf_walk.proofs.Fronts.{starts_refl, starts_same, starts_more}
use Rattle.wf_walk.proofs.Walks.{ran, pure_same, lifted}

abbrev pub globals_refl : (s : State) → KeepsGlobals s s
globals_refl s = record { end = refl; globals = refl; at = refl }

pub globals_more : {s t new : State} → KeepsGlobals s t → KeepsGlobals t new → KeepsGlobals s new
globals_more p q = record { end = q.end ∙ p.end; globals = q.globals ∙ p.globals; at = q.at ∙ p.at }

pub tables_refl : (s : State) → KeepsTables s s
tables_refl s = record {
  scopes = refl;
  result = refl;
  homes = refl;
  nodes = refl;
  object = refl;
  labels = refl;
  functions = refl;
  image = globals_refl s;
}

pub tables_more : {s t new : State} → KeepsTables s t → KeepsTables t new → KeepsTables s new
tables_more p q = record {
  scopes = q.scopes ∙ p.scopes;
  result = q.result ∙ p.result;
  homes = q.homes ∙ p.homes;
  nodes = q.nodes ∙ p.nodes;
  object = q.object ∙ p.object;
  labels = q.labels ∙ p.labels;
  functions = q.functions ∙ p.functions;
  image = globals_more p.image q.image;
}

pub tick_refl : (s : State) → KeepsTick s s
tick_refl s = record { inner = refl; ticks = refl }

pub tick_more : {s t new : State} → KeepsTick s t → KeepsTick t new → KeepsTick s new
tick_more p q = record { inner = q.inner ∙ p.inner; ticks = q.ticks ∙ p.ticks }

stage_refl : (g : Stage) (s : State) → KeepsStage g s s
stage_refl stage.Function s = starts_refl s.ticks.all
stage_refl stage.Tick s = (tick_refl s, starts_refl s.ticks.captures)
stage_refl stage.Dollar s = (tick_refl s, refl)

stage_more : (g : Stage) (s t new : State) → KeepsStage g s t → KeepsStage g t new → KeepsStage g s new
stage_more stage.Function s t new p q = starts_more p q
stage_more stage.Tick s t new p q = (tick_more p.0 q.0, starts_more p.1 q.1)
stage_more stage.Dollar s t new p q = (tick_more p.0 q.0, q.1 ∙ p.1)

pub keeps_refl : (g : Stage) (s : State) → Keeps g s s
keeps_refl g s = record { tables = tables_refl s; at = stage_refl g s }

pub keeps_more : {g : Stage} {s t new : State} → Keeps g s t → Keeps g t new → Keeps g s new
keeps_more {g} {s} {t} {new} p q =
    record { tables = tables_more p.tables q.tables; at = stage_more g s t new p.at q.at }

-- where nothing changed
pub keeps_same : (g : Stage) {s new : State} → s ≡ new → Keeps g s new
keeps_same g {s} e = subst (λ z. Keeps g s z) e (keeps_refl g s)

-- what stands under `$` stands in a tick
pub keeps_dollar : {s new : State} → Keeps stage.Dollar s new → Keeps stage.Tick s new
keeps_dollar {s} {new} k =
    record { tables = k.tables; at = (k.at.0, starts_same s.ticks.captures new.ticks.captures k.at.1) }

-- ---- walks

pub pure_keeps : {A : Type 0} (g : Stage) (x : A) → IsKeeping g (pure {S = State} x)
pure_keeps g x s new y e = keeps_same g (pure_same x y s new e)

pub lift_keeps : {A : Type 0} (g : Stage) (r : Checked A) → IsKeeping g (lift {S = State} r)
lift_keeps g r s new x e = keeps_same g (lifted r s x new e).state

pub bind_keeps : {A B : Type 0} (g : Stage) (p : Rule State A) (f : A → Rule State B) → IsKeeping g p →
    ((x : A) → IsKeeping g (f x)) → IsKeeping g (p >>= f)
bind_keeps g p f h k s new y e =
    let r = ran p f s y new e in
    keeps_more (h s r.state r.value r.first) (k r.value r.state new y r.next)
