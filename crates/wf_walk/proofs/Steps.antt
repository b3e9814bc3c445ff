-- Steps of the walk one after the other: what each did comes together.
use Rattle.std.proofs.Common.{◌≡◌, ℕ, true, List, ◌++◌, sym, subst, append_assoc, Ok, Err}
use Rattle.typed_tree.specs.declared.expression.CaptureKind.{CaptureKind}
use Rattle.typed_tree.specs.declared.program.Tick.{Tick}
use Rattle.tick_tree.specs.Faults.{Checked}
use Rattle.tick_tree.specs.declared.fault.Fault.{Fault}
use Rattle.check_rules.specs.declared.state.Stage.{Stage}
use Rattle.check_rules.specs.declared.state.Stage.TheVariants as stage
use Rattle.check_rules.specs.declared.state.State.{State}
use Rattle.check_rules.specs.Walks.{Rule, ◌>>=◌, pure, lift}
use Rattle.wellformed.specs.Places.{in_function}
use Rattle.wf_nodes.specs.Right.{Unless}
use Rattle.wf_nodes.proofs.NodeScopes.{unless_ok}
use Rattle.wf_walk.specs.Kept.{KeepsStage, Keeps, IsKeeping}
use Rattle.wf_walk.specs.Known.{Blocks, Known}
use Rattle.wf_walk.specs.Steps.{Round, Agrees, EachTick, EachCapture, CapturesStand, Did, Does}
use Rattle.wf_walk.specs.Good.{Plain}
use Rattle.wf_walk.proofs.Fronts.{starts_more, same_rest}
use Rattle.wf_walk.proofs.Walks.{ran, pure_same, pure_value, lifted}
use Rattle.wf_walk.proofs.Keeps.{pure_keeps, lift_keeps, bind_keeps}
use Rattle.wf_walk.proofs.Knowing.{keeps_ticks}
use Rattle.wf_walk.proofs.Plain.{each_capture, plain_same, plain_did_by, each_tick}

-- ---- two steps

captures_more : (g : Stage) (s t new : State) (r : Round) → KeepsStage g s t → KeepsStage g t new →
    CapturesStand g s t r → CapturesStand g t new r → CapturesStand g s new r
captures_more stage.Function s t new r h k p q = tt
captures_more stage.Tick s t new r h k p q =
    λ more. subst (λ es. EachCapture r.function es) (same_rest (starts_more h.1 k.1) more)
    (each_capture r.function h.1.rest k.1.rest (p h.1) (q k.1))
captures_more stage.Dollar s t new r h k p q = tt

-- what two steps did
pub did_join : {many : List ℕ} {g : Stage} {b : Blocks} {ks : List (List CaptureKind)} {s t new : State}
    (P Q : Round → Type 0) → Keeps g s t → Keeps g t new → (d : Did many g b ks s t P) →
    Did many g b (ks ++ d.more) t new Q → Did many g b ks s new Q
did_join {many} {g} {b} {ks} {s} {t} {new} P Q h k d e =
    let joined = append_assoc ks d.more e.more in
    let back = λ (r : Round) (a : Agrees many g b (ks ++ (d.more ++ e.more)) new r). subst
    (λ l. Agrees many g b l new r) (sym joined) a in
    let first = keeps_ticks g s t h.at in
    let next = keeps_ticks g t new k.at in
    record {
      more = d.more ++ e.more;
      known = subst (λ l. Known many g b l new) joined e.known;
      back = λ r a. d.back r (e.back r (back r a));
      ticks = λ r a made.
          subst (λ ts. EachTick r.function ts (d.more ++ e.more)) (same_rest (starts_more first next) made)
          (each_tick r.function first.rest next.rest d.more e.more (d.ticks r (e.back r (back r a)) first)
          (e.ticks r (back r a) next));
      captures = λ r a. captures_more g s t new r h.at k.at (d.captures r (e.back r (back r a)))
          (e.captures r (back r a));
      stands = λ r a. e.stands r (back r a);
    }

-- where the second one's answer stands by what is known of the first one's
pub did_more : {many : List ℕ} {g : Stage} {b : Blocks} {ks : List (List CaptureKind)} {s t new : State}
    (P Q : Round → Type 0) → Keeps g s t → Keeps g t new → (d : Did many g b ks s t P) →
    Did many g b (ks ++ d.more) t new (λ r. P r → Q r) → Did many g b ks s new Q
did_more P Q h k d e =
    did_join P Q h k d (record {
      more = e.more;
      known = e.known;
      back = e.back;
      ticks = e.ticks;
      captures = e.captures;
      stands =
          λ r a. e.stands r a (d.stands r (e.back r a));
    })

-- ---- rules

-- a rule that keeps what an expression keeps, and whose answers stand right
pub record Goes {A : Type 0} (many : List ℕ) (g : Stage) (P : Round → A → Type 0) (step : Rule State A) : Type 0 where
  pub keeps : IsKeeping g step
  pub does : Does many g P step

pub then : {A B : Type 0} {many : List ℕ} {g : Stage} (P : Round → A → Type 0) (Q : Round → B → Type 0)
    (p : Rule State A) (f : A → Rule State B) → Goes many g P p → ((x : A) → Goes many g (λ r y. P r x → Q r y) (f x)) →
    Goes many g Q (p >>= f)
then {g = g} P Q p f h k = record {
  keeps = bind_keeps g p f h.keeps (λ x. (k x).keeps);
  does = λ b ks s new y known e.
      let w = ran p f s y new e in
      let d = h.does b ks s w.state w.value known w.first in
      did_more (λ r. P r w.value) (λ r. Q r y) (h.keeps s w.state w.value w.first)
      ((k w.value).keeps w.state new y w.next) d
      ((k w.value).does b (ks ++ d.more) w.state new y d.known w.next);
}

-- what is asked of the answers may be less
pub implies : {A : Type 0} {many : List ℕ} {g : Stage} (P Q : Round → A → Type 0) (step : Rule State A) →
    Goes many g P step → ((r : Round) (x : A) → P r x → Q r x) → Goes many g Q step
implies P Q step h k = record {
  keeps = h.keeps;
  does = λ b ks s new x known e.
      let d = h.does b ks s new x known e in
      record {
        more = d.more;
        known = d.known;
        back = d.back;
        ticks = d.ticks;
        captures = d.captures;
        stands =
            λ r a. k r x (d.stands r a);
      };
}

-- a rule that is plain, and whose answers stand right
pub goes_plain : {A : Type 0} {many : List ℕ} {g : Stage} (P : Round → A → Type 0) (step : Rule State A) →
    IsKeeping g step → ((s new : State) (x : A) → step s ≡ Ok (x, new) → Plain g s new) →
    ((s new : State) (x : A) → step s ≡ Ok (x, new) → (r : Round) → in_function r.function ≡ true → P r x) →
    Goes many g P step
goes_plain P step keeps plain stands = record {
  keeps = keeps;
  does = λ b ks s new x known e. plain_did_by (λ r. P r x) (plain s new x e) known
      (λ r a. stands s new x e r a.is_function);
}

pub answers : {A : Type 0} {many : List ℕ} {g : Stage} (P : Round → A → Type 0) (x : A) → ((r : Round) → P r x) →
    Goes many g P (pure x)
answers {g = g} P x h = goes_plain P (pure x) (pure_keeps g x) (λ s new y e. plain_same g (pure_same x y s new e))
    (λ s new y e r f. subst (λ z. P r z) (pure_value x y s new e) (h r))

pub by_premise : {A : Type 0} (P : Type 0) (Q : A → Type 0) (c : Checked A) → (P → Unless Q c) → Unless (λ x. P → Q x) c
by_premise P Q (Ok x) h = h
by_premise P Q (Err f) h = tt

-- a step that only its own rule decides
pub decides : {A : Type 0} {many : List ℕ} {g : Stage} (P : Round → A → Type 0) (c : Checked A) →
    ((r : Round) → in_function r.function ≡ true → Unless (P r) c) → Goes many g P (lift c)
decides {g = g} P c h =
    goes_plain P (lift c) (lift_keeps g c) (λ s new x e. plain_same g (lifted c s x new e).state)
    (λ s new x e r f. unless_ok (P r) c x (lifted c s x new e).value (h r f))

-- a rule that refuses
pub refuses : {A : Type 0} {many : List ℕ} {g : Stage} (P : Round → A → Type 0) (f : Fault) →
    Goes many g P (λ (s : State). Err f)
refuses P f = record { keeps = λ s new x e. cc; does = λ b ks s new x known e. cc }
