-- What is known in a state is known in one where more stands, and who has room for the second has room for the first.
use Rattle.std.proofs.Common.{◌≡◌, ℕ, ◌-◌, ◌≤◌, ◌%◌, true, List, ◌++◌, refl, sym, subst, Option, Some, None}
use Rattle.std.specs.Prelude.{◌==◌, nat_le, slice_get}
use Rattle.check_scopes.specs.declared.names.Meaning.{Meaning}
use Rattle.check_scopes.specs.declared.names.MeaningKind.{MeaningKind}
use Rattle.check_scopes.specs.declared.names.MeaningKind.TheVariants as kind
use Rattle.check_scopes.specs.Scopes.{Name, Scopes}
use Rattle.typed_tree.specs.declared.expression.CaptureKind.{CaptureKind}
use Rattle.check_rules.specs.declared.frame.Home.{Home}
use Rattle.check_rules.specs.declared.frame.Home.TheVariants as home
use Rattle.check_rules.specs.Frames.{count}
use Rattle.check_rules.specs.Functions.{number}
use Rattle.check_rules.specs.declared.state.Stage.{Stage}
use Rattle.check_rules.specs.declared.state.Stage.TheVariants as stage
use Rattle.check_rules.specs.declared.state.State.{State}
use Rattle.wellformed.proofs.Bools.{first_true, second_true, and_true, le_less, le_more}
use Rattle.wf_walk.specs.Kept.{GrowsStage, Grows}
use Rattle.wf_walk.specs.Known.{Blocks, of_function, of_tick, has, HasHome, IsVariable, IsParameter, Means}
use Rattle.wf_walk.specs.Known.{EachScope}
use Rattle.wf_walk.specs.Steps.{Round, AgreesTick, Agrees}
use Rattle.wf_walk.proofs.Fronts.{starts_front}
use Rattle.wf_walk.proofs.Knowing.{each_scope, captures_back}
use Rattle.wf_walk.proofs.Growing.{small_before}

-- where more stands: `b` and `c` are the blocks round
pub record Wider (g : Stage) (b : Blocks) (s : State) (c : Blocks) (new : State) : Type 0 where
  pub homes : (i : ℕ) (h : Home) → slice_get s.frame.homes i ≡ Some h → slice_get new.frame.homes i ≡ Some h
  -- a variable of the tick stays one
  pub own : (i : ℕ) → slice_get s.frame.homes i ≡ None → has (i - count s.frame.homes) (of_tick g b s) ≡ true →
      (slice_get new.frame.homes i ≡ None) × (has (i - count new.frame.homes) (of_tick g c new) ≡ true)
  pub function : (i : ℕ) → has i (of_function g b s) ≡ true → has i (of_function g c new) ≡ true
  pub tick : (i : ℕ) → has i (of_tick g b s) ≡ true → has i (of_tick g c new) ≡ true
  pub object : s.frame.object ≤ new.frame.object
  pub functions : new.functions ≡ s.functions

-- ---- names

home_wider : {g : Stage} {b : Blocks} {s : State} {c : Blocks} {new : State} → Wider g b s c new → (n : ℕ) (h : Home) →
    HasHome (of_function g b s) s.frame.object n h → HasHome (of_function g c new) new.frame.object n h
home_wider w n home.Register x = w.function n x
home_wider {s = s} {new = new} w n (home.Object at) x =
    and_true (nat_le at new.frame.object) (at % 4 == 0)
    (le_more at s.frame.object new.frame.object w.object (first_true (nat_le at s.frame.object) (at % 4 == 0) x))
    (second_true (nat_le at s.frame.object) (at % 4 == 0) x)

variable_wider : {g : Stage} {b : Blocks} {s : State} {c : Blocks} {new : State} → Wider g b s c new →
    (n : ℕ) (h : Option Home) → slice_get s.frame.homes n ≡ h → IsVariable g b s n h →
    IsVariable g c new n (slice_get new.frame.homes n)
variable_wider {g} {b} {s} {c} {new} w n None e x =
    let o = w.own n e x in
    subst (λ h. IsVariable g c new n h) (sym o.0) o.1
variable_wider {g} {b} {s} {c} {new} w n (Some h) e x =
    subst (λ k. IsVariable g c new n k) (sym (w.homes n h e)) (home_wider w n h x)

parameter_wider : {g : Stage} {b : Blocks} {s : State} {c : Blocks} {new : State} → Wider g b s c new →
    (n : ℕ) (h : Option Home) → slice_get s.frame.homes n ≡ h → IsParameter g b s n h →
    IsParameter g c new n (slice_get new.frame.homes n)
parameter_wider w n None e x = cc
parameter_wider {g} {b} {s} {c} {new} w n (Some h) e x =
    subst (λ k. IsParameter g c new n k) (sym (w.homes n h e)) (home_wider w n h x)

means_wider : (many : List ℕ) {g : Stage} {b : Blocks} {s : State} {c : Blocks} {new : State} → Wider g b s c new →
    (name : Name) (m : Meaning) (what : MeaningKind) → Means many g b s name m what → Means many g c new name m what
means_wider many {s = s} w name m kind.Variable x =
    (variable_wider w m.index (slice_get s.frame.homes m.index) refl x.0, x.1)
means_wider many {s = s} w name m kind.Parameter x =
    (parameter_wider w m.index (slice_get s.frame.homes m.index) refl x.0, x.1)
means_wider many w name m kind.Global x = x
means_wider many w name m kind.Function x = x
means_wider many w name m kind.Library x = x

-- what the names of these scopes mean
abbrev pub AllMean : List ℕ → Stage → Blocks → State → Scopes → Type 0
AllMean many g b s ss = EachScope (λ name m. Means many g b s name m m.kind) ss

pub names_wider : (many : List ℕ) {g : Stage} {b : Blocks} {s : State} {c : Blocks} {new : State} → Wider g b s c new →
    (ss : Scopes) → AllMean many g b s ss → AllMean many g c new ss
names_wider many {g} {b} {s} {c} {new} w ss x =
    each_scope (λ name m. Means many g b s name m m.kind) (λ name m. Means many g c new name m m.kind)
    (λ name m h. means_wider many w name m m.kind h) ss x

-- ---- surroundings

tick_wider : (g : Stage) (b : Blocks) (s : State) (c : Blocks) (new : State) (r : Round) → Wider g b s c new →
    GrowsStage g s new → AgreesTick g c new r → AgreesTick g b s r
tick_wider stage.Function b s c new r w k x = tt
tick_wider stage.Tick b s c new r w k x =
    (λ i p. x.0 i (w.tick i p), captures_back s.ticks.captures new.ticks.captures r.tick.captures k.captures x.1)
tick_wider stage.Dollar b s c new r w k x =
    (λ i p. x.0 i (w.tick i p), captures_back s.ticks.captures new.ticks.captures r.tick.captures k.captures x.1)

pub agrees_wider : {many : List ℕ} {g : Stage} {b : Blocks} {ks : List (List CaptureKind)} {s : State} {c : Blocks}
    {new : State} {r : Round} (more : List (List CaptureKind)) → Wider g b s c new → Grows g s new →
    Agrees many g c (ks ++ more) new r → Agrees many g b ks s r
agrees_wider {many} {g} {b} {ks} {s} {c} {new} {r} more w k a = record {
  small = small_before k a.small;
  visible = λ i p. a.visible i (w.function i p);
  object = le_less s.frame.object new.frame.object r.function.object w.object a.object;
  is_function = a.is_function;
  functions = a.functions;
  ticks = starts_front ks more a.ticks;
  in_tick = tick_wider g b s c new r w k.at a.in_tick;
}
