-- A step in a tick that makes one capture: it has the number of the captures before it, and what surrounds the tick's
-- body has its kind there.
use Rattle.std.proofs.Common.{◌≡◌, ℕ, ◌≤◌, ◌<◌, Bool, true, List, [], ◌∷◌, ◌++◌, length, refl, sym, ap, subst, ◌∙◌}
use Rattle.std.proofs.Common.{append_assoc, append-nil, length-append, arith, Option, Some, None, Ok}
use Rattle.std.specs.Prelude.{slice_get}
use Rattle.tick_tree.specs.Faults.{Checked}
use Rattle.std.proofs.Math.Nat.{min-eq_left}
use Rattle.std.proofs.Math.Seq.{get_or-append_seam}
use Rattle.std.proofs.lemmas.List.{length-map}
use Rattle.std.proofs.lemmas.Option.{slice_get-get_or}
use Rattle.typed_tree.specs.declared.expression.Answer.{Answer}
use Rattle.typed_tree.specs.declared.expression.Answer.TheVariants as answer
use Rattle.typed_tree.specs.declared.expression.CaptureKind.{CaptureKind}
use Rattle.typed_tree.specs.declared.expression.CaptureKind.TheVariants as capture
use Rattle.typed_tree.specs.declared.expression.Expr.{Expr}
use Rattle.typed_tree.specs.declared.expression.Expr.TheVariants as ex
use Rattle.check_operands.specs.declared.operand.Operand.{Operand}
use Rattle.check_rules.specs.declared.state.Stage.{Stage}
use Rattle.check_rules.specs.declared.state.Stage.TheVariants as stage
use Rattle.check_rules.specs.declared.state.State.{State}
use Rattle.check_rules.specs.Frames.{count}
use Rattle.check_rules.specs.Ticks as ticks
use Rattle.check_rules.specs.Bounds.{count_bound}
use Rattle.wellformed.specs.Places.{Part, part, Around, same_answer, same_kind, same_kinds, kind_at, captured_in}
use Rattle.wellformed.specs.Places.{captured}
use Rattle.wellformed.proofs.Equations.{part_capture}
use Rattle.wellformed.proofs.Bools.{and_true}
use Rattle.wf_nodes.specs.Right.{Stands}
use Rattle.wf_nodes.specs.Used.{Leaves}
use Rattle.wf_nodes.proofs.NodeValues.{nodes_use}
use Rattle.wf_walk.specs.Kept.{Starts, KeepsTables, KeepsTick, Keeps}
use Rattle.wf_walk.specs.Known.{Blocks, Small, Known}
use Rattle.wf_walk.specs.Steps.{Round, at, Agrees, Captures, first_kind, one_kind, kinds, EachTick, EachCapture}
use Rattle.wf_walk.specs.Steps.{Did}
use Rattle.wf_walk.specs.Good.{Good}
use Rattle.wf_walk.proofs.Walks.{ok_same}
use Rattle.wf_walk.proofs.Plain.{plain_refl, plain_did_by}
use Rattle.wf_walk.proofs.Fronts.{same_rest, no_rest}
use Rattle.wf_walk.proofs.Knowing.{kinds_append, known_kept, agrees_back, small_back}

-- ---- kinds

same_answer_refl : (r : Answer) → same_answer r r ≡ true
same_answer_refl answer.Value = refl
same_answer_refl answer.Void = refl

pub same_kind_refl : (k : CaptureKind) → same_kind k k ≡ true
same_kind_refl capture.Dollar = refl
same_kind_refl capture.Address = refl
same_kind_refl (capture.Splice r) = same_answer_refl r
same_kind_refl capture.Variable = refl

pub same_kinds_refl : (ks : List CaptureKind) → same_kinds ks ks ≡ true
same_kinds_refl [] = refl
same_kinds_refl (k ∷ ks) = and_true (same_kind k k) (same_kinds ks ks) (same_kind_refl k) (same_kinds_refl ks)

pub kind_of_capture : (k : CaptureKind) (e : Expr) → one_kind (ex.Capture k e) ≡ k
kind_of_capture k e = ap (λ (p : Part). first_kind p.capture) (part_capture k e)

pub kinds_more : (es : List Expr) (k : CaptureKind) (e : Expr) → kinds (es ++ ex.Capture k e ∷ []) ≡ kinds es ++ k ∷ []
kinds_more es k e = kinds_append es (ex.Capture k e ∷ []) ∙ ap (λ x. kinds es ++ x ∷ []) (kind_of_capture k e)

-- ---- numbers

pub count_small : {A : Type 0} (xs : List A) → length xs ≤ count_bound → count xs ≡ length xs
count_small xs h = let small : length xs ≤ 4294967295 = omega (arith, h) in min-eq_left small

-- what stands behind the first ones
pub found : {A : Type 0} (xs rest : List A) (x : A) → slice_get (xs ++ x ∷ rest) (length xs) ≡ Some x
found xs rest x =
    let here : length xs < length (xs ++ x ∷ rest) = omega (arith, length-append xs (x ∷ rest)) in
    slice_get-get_or (xs ++ x ∷ rest) (length xs) x here ∙ ap Some (get_or-append_seam xs x rest x)

captured_at : (p : CaptureKind → Bool) (k : CaptureKind) (cs : List CaptureKind) (all : Option (List CaptureKind))
    (i : ℕ) → i ≡ length cs → p k ≡ true → Captures (cs ++ k ∷ []) all → captured_in p i all ≡ true
captured_at p k cs None i e h c = cc
captured_at p k cs (Some all) i e h c =
    ap (kind_at p) (ap (slice_get all) e ∙ ap (λ l. slice_get l (length cs)) (c.is ∙ append_assoc cs (k ∷ []) c.rest) ∙
    found cs c.rest k) ∙ h

-- ---- the step

capture_stands : (a : Around) (k : CaptureKind) (e : Expr) → Stands a e → (part (ex.Capture k e)).is_capture a ≡ true
capture_stands a k e h = ap (λ (p : Part). p.is_capture a) (part_capture k e) ∙ h

-- one capture more, of this kind and node
pub record Catches (k : CaptureKind) (e : Expr) (s new : State) : Type 0 where
  pub tables : KeepsTables s new
  pub tick : KeepsTick s new
  pub captures : new.ticks.captures ≡ s.ticks.captures ++ ex.Capture k e ∷ []

abbrev catch_starts : {k : CaptureKind} {e : Expr} {s new : State} → Catches k e s new →
    Starts s.ticks.captures new.ticks.captures
catch_starts {k} {e} c = record { rest = ex.Capture k e ∷ []; is = c.captures }

pub catch_keeps : {k : CaptureKind} {e : Expr} {s new : State} → Catches k e s new → Keeps stage.Tick s new
catch_keeps c = record { tables = c.tables; at = (c.tick, catch_starts c) }

-- what surrounds the body finds a capture of this kind at this number
abbrev pub FindsKind : CaptureKind → ℕ → Round → Type 0
FindsKind k i r = (p : CaptureKind → Bool) → p k ≡ true → captured p i r.tick ≡ true

-- what is captured stands right where the tick is evaluated, and is a value
pub record Caught (e : Expr) (r : Round) : Type 0 where
  pub stands : Stands r.function e
  pub used : Leaves e

agrees_same : {many : List ℕ} {b : Blocks} {ks : List (List CaptureKind)} {s : State} {r : Round} →
    Agrees many stage.Tick b (ks ++ []) s r → Agrees many stage.Tick b ks s r
agrees_same {many} {b} {ks} {s} {r} a = subst (λ l. Agrees many stage.Tick b l s r) (append-nil ks) a

finds : {many : List ℕ} {b : Blocks} {ks : List (List CaptureKind)} {s new : State} {k : CaptureKind} {e : Expr}
    (r : Round) → Catches k e s new → Agrees many stage.Tick b ks new r → Agrees many stage.Tick b ks s r →
    FindsKind k (ticks.place s.ticks) r
finds {s = s} {new} {k} {e} r c after before p h =
    captured_at p k (kinds s.ticks.captures) r.tick.captures (ticks.place s.ticks)
    (count_small s.ticks.captures before.small.tick.captures ∙ sym (length-map s.ticks.captures one_kind)) h
    (subst (λ l. Captures l r.tick.captures) (ap kinds c.captures ∙ kinds_more s.ticks.captures k e) after.in_tick.1)

pub catch_did : {many : List ℕ} {b : Blocks} {ks : List (List CaptureKind)} {s new : State} {k : CaptureKind} {e : Expr}
    (P : Round → Type 0) → Catches k e s new → Known many stage.Tick b ks s →
    ((r : Round) → Agrees many stage.Tick b ks s r → Caught e r) →
    ((r : Round) → Agrees many stage.Tick b ks s r → FindsKind k (ticks.place s.ticks) r → P r) →
    Did many stage.Tick b ks s new P
catch_did {many} {b} {ks} {s} {new} {k} {e} P c known caught stands =
    let none = λ (made : Starts s.ticks.all new.ticks.all). no_rest c.tick.ticks made in
    record {
      more = [];
      known = known_kept [] (catch_keeps c) (λ made. sym (ap length (none made))) known;
      back = λ r a. agrees_back [] (catch_keeps c) a;
      ticks = λ r a made. subst (λ ts. EachTick r.function ts []) (sym (none made)) tt;
      captures = λ r a more.
          let x = caught r (agrees_back [] (catch_keeps c) a) in
          subst (λ es. EachCapture r.function es) (same_rest (catch_starts c) more)
          (capture_stands r.function k e x.stands, nodes_use.capture k e x.used, tt);
      stands = λ r a.
          let before = agrees_back [] (catch_keeps c) a in
          stands r before (finds r c (agrees_same a) before);
    }

-- ---- answers

-- a step that answers this operand and leaves this state
abbrev pub Gives : List ℕ → Stage → Blocks → List (List CaptureKind) → State → Operand × State → Type 0
Gives many g b ks s p = Did many g b ks s p.1 (λ r. Good (at g r) p.0)

pub given : {many : List ℕ} {g : Stage} {b : Blocks} {ks : List (List CaptureKind)} {s new : State} {x : Operand}
    (p : Operand × State) → Gives many g b ks s p → ◌≡◌ {A = Checked (Operand × State)} (Ok p) (Ok (x, new)) →
    Did many g b ks s new (λ r. Good (at g r) x)
given {many} {g} {b} {ks} {s} {new} {x} p d e = subst (λ q. Gives many g b ks s q) (ok_same p (x, new) e) d

-- one that changes nothing
pub stays : {many : List ℕ} {g : Stage} {b : Blocks} {ks : List (List CaptureKind)} {s : State} (o : Operand) →
    Known many g b ks s → ((r : Round) → Agrees many g b ks s r → Good (at g r) o) → Gives many g b ks s (o, s)
stays {g = g} {s = s} o known h = plain_did_by (λ r. Good (at g r) o) (plain_refl g s) known h

-- ---- steps without ticks

pub none_of : {A : Type 0} (xs : List A) → length xs ≡ 0 → xs ≡ []
none_of [] h = refl
none_of (x ∷ xs) h = cc

-- a step that makes no tick, of which this is known where no count is cut
pub did_small : {many : List ℕ} {g : Stage} {b : Blocks} {ks : List (List CaptureKind)} {s new : State}
    (P : Round → Type 0) → Keeps g s new → new.ticks.all ≡ s.ticks.all → Known many g b ks s →
    (Small g s → Did many g b ks s new P) → Did many g b ks s new P
did_small {many} {g} {b} {ks} {s} {new} P k same known h =
    let none = λ (small : Small g new).
    let before = small_back k small in
    none_of (h before).more (omega
    (arith, length-append ks (h before).more, ((h before).known small).ticks, (known before).ticks, ap length same))
    in
    let its = λ (r : Round) (a : Agrees many g b (ks ++ []) new r). subst (λ l. Agrees many g b (ks ++ l) new r)
    (sym (none a.small)) a in
    record {
      more = [];
      known = known_kept [] k (λ made. sym (ap length (no_rest same made))) known;
      back = λ r a. agrees_back [] k a;
      ticks = λ r a made. subst (λ ts. EachTick r.function ts []) (sym (no_rest same made)) tt;
      captures = λ r a. (h (small_back k a.small)).captures r (its r a);
      stands = λ r a. (h (small_back k a.small)).stands r (its r a);
    }
