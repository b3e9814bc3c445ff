-- What steps one after the other did, where statements stand among them.
use Rattle.std.proofs.Common.{◌≡◌, ℕ, List, [], ◌++◌, sym, subst, append_assoc, append-nil}
use Rattle.typed_tree.specs.declared.expression.CaptureKind.{CaptureKind}
use Rattle.typed_tree.specs.declared.program.Tick.{Tick}
use Rattle.check_rules.specs.declared.state.Around.{Around as Standing}
use Rattle.check_rules.specs.declared.state.Stage.{Stage}
use Rattle.check_rules.specs.declared.state.Stage.TheVariants as stage
use Rattle.check_rules.specs.declared.state.State.{State}
use Rattle.wellformed.specs.Places.{Around}
use Rattle.wf_walk.specs.Kept.{GrowsStage, Grows}
use Rattle.wf_walk.specs.Known.{Blocks, Known}
use Rattle.wf_walk.specs.Steps.{Round, AgreesTick, Agrees, EachTick, EachCapture, CapturesStand, Did}
use Rattle.wf_walk.specs.Items.{placed_round}
use Rattle.wf_walk.proofs.Fronts.{starts_more, same_rest, no_rest}
use Rattle.wf_walk.proofs.Plain.{each_capture, each_tick}
use Rattle.wf_walk.proofs.Growing.{ticks_grow}

-- ---- two steps

captures_more : (g : Stage) (s t new : State) (r : Round) → GrowsStage g s t → GrowsStage g t new →
    CapturesStand g s t r → CapturesStand g t new r → CapturesStand g s new r
captures_more stage.Function s t new r h k p q = tt
captures_more stage.Tick s t new r h k p q =
    λ more. subst (λ es. EachCapture r.function es) (same_rest (starts_more h.captures k.captures) more)
    (each_capture r.function h.captures.rest k.captures.rest (p h.captures) (q k.captures))
captures_more stage.Dollar s t new r h k p q = tt

-- what two steps did: the first one's answer stands as well
pub did_both : {many : List ℕ} {g : Stage} {b : Blocks} {ks : List (List CaptureKind)} {s t new : State}
    (P Q : Round → Type 0) → Grows g s t → Grows g t new → (d : Did many g b ks s t P) →
    Did many g b (ks ++ d.more) t new Q → Did many g b ks s new (λ r. P r × Q r)
did_both {many} {g} {b} {ks} {s} {t} {new} P Q h k d e =
    let joined = append_assoc ks d.more e.more in
    let back = λ (r : Round) (a : Agrees many g b (ks ++ (d.more ++ e.more)) new r). subst
    (λ l. Agrees many g b l new r) (sym joined) a in
    let first = ticks_grow g s t h.at in
    let next = ticks_grow g t new k.at in
    record {
      more = d.more ++ e.more;
      known = subst (λ l. Known many g b l new) joined e.known;
      back = λ r a. d.back r (e.back r (back r a));
      ticks = λ r a made.
          subst (λ ts. EachTick r.function ts (d.more ++ e.more)) (same_rest (starts_more first next) made)
          (each_tick r.function first.rest next.rest d.more e.more (d.ticks r (e.back r (back r a)) first)
          (e.ticks r (back r a) next));
      captures = λ r a. captures_more g s t new r h.at k.at (d.captures r (e.back r (back r a)))
          (e.captures r (back r a));
      stands = λ r a. (d.stands r (e.back r (back r a)), e.stands r (back r a));
    }

-- what follows of what stands
pub did_so : {many : List ℕ} {g : Stage} {b : Blocks} {ks : List (List CaptureKind)} {s new : State}
    (P Q : Round → Type 0) → Did many g b ks s new P →
    ((ms : List (List CaptureKind)) (r : Round) → Agrees many g b ms new r → P r → Q r) → Did many g b ks s new Q
did_so {ks = ks} P Q d f = record {
  more = d.more;
  known = d.known;
  back = d.back;
  ticks = d.ticks;
  captures = d.captures;
  stands = λ r a. f (ks ++ d.more) r a (d.stands r a);
}

-- ---- surroundings with loops and switches

tick_placed : (g : Stage) (b : Blocks) (s : State) (a : Standing) (r : Round) → AgreesTick g b s r →
    AgreesTick g b s (placed_round a r)
tick_placed stage.Function b s a r x = tt
tick_placed stage.Tick b s a r x = (x.0, x.1)
tick_placed stage.Dollar b s a r x = (x.0, x.1)

pub agrees_placed : {many : List ℕ} {g : Stage} {b : Blocks} {ks : List (List CaptureKind)} {s : State} (a : Standing)
    {r : Round} → Agrees many g b ks s r → Agrees many g b ks s (placed_round a r)
agrees_placed {many} {g} {b} {ks} {s} a {r} x = record {
  small = x.small;
  visible = x.visible;
  object = x.object;
  is_function = x.is_function;
  functions = x.functions;
  ticks = x.ticks;
  in_tick = tick_placed g b s a r x.in_tick;
}

pub did_placed : {many : List ℕ} {g : Stage} {b : Blocks} {ks : List (List CaptureKind)} {s new : State} (a : Standing)
    (P : Round → Type 0) → Did many g b ks s new P → Did many g b ks s new (λ r. P (placed_round a r))
did_placed a P d = record {
  more = d.more;
  known = d.known;
  back = d.back;
  ticks = d.ticks;
  captures = d.captures;
  stands = λ r x. d.stands (placed_round a r) (agrees_placed a x);
}

-- ---- where nothing is done

no_ticks : (a : Around) (ts : List Tick) → ts ≡ [] → EachTick a ts []
no_ticks a ts e = subst (λ us. EachTick a us []) (sym e) tt

no_captures : (g : Stage) (s new : State) (r : Round) → new.ticks.captures ≡ s.ticks.captures → CapturesStand g s new r
no_captures stage.Function s new r e = tt
no_captures stage.Tick s new r e = λ more. subst (λ es. EachCapture r.function es) (sym (no_rest e more)) tt
no_captures stage.Dollar s new r e = tt

-- a step that makes no ticks and captures nothing
pub did_only : {many : List ℕ} {g : Stage} {b : Blocks} {ks : List (List CaptureKind)} {s new : State}
    (P : Round → Type 0) → new.ticks.all ≡ s.ticks.all → new.ticks.captures ≡ s.ticks.captures → Known many g b ks new
    → ((r : Round) → Agrees many g b ks new r → Agrees many g b ks s r) →
    ((r : Round) → Agrees many g b ks new r → P r) → Did many g b ks s new P
did_only {many} {g} {b} {ks} {s} {new} P all captures known back stands =
    let same = append-nil ks in
    let there = λ (r : Round) (a : Agrees many g b (ks ++ []) new r). subst (λ l. Agrees many g b l new r) same a in
    record {
      more = [];
      known = subst (λ l. Known many g b l new) (sym same) known;
      back = λ r a. back r (there r a);
      ticks = λ r a made. no_ticks r.function made.rest (no_rest all made);
      captures = λ r a. no_captures g s new r captures;
      stands = λ r a. stands r (there r a);
    }
