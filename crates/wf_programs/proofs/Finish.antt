-- What is known of the typed tree from what is checked after the walk.
use Rattle.std.proofs.Common.{◌≡◌, ℕ, zero, suc, ◌+◌, ◌≤◌, Bool, true, false, ◌&&◌, nat_le, if◌then◌else◌, refl, ap}
use Rattle.std.proofs.Common.{sym, ◌∙◌, List, [], ◌∷◌, length, map, sum, sum_by, Option, Some, None, Ok, slice_get}
use Rattle.std.proofs.Common.{arith}
use Rattle.std.proofs.lemmas.List.Sums.{sum-map, sum_by-cons}
use Rattle.tick_tree.specs.declared.fault.FaultKind.TheVariants as fault
use Rattle.tick_tree.specs.Faults.{refuse}
use Rattle.typed_tree.specs.declared.program.Function.{Function}
use Rattle.typed_tree.specs.declared.program.Tick.{Tick}
use Rattle.typed_tree.specs.declared.program.TypedParts.{TypedParts}
use Rattle.check_rules.specs.declared.functions.Prototype.{Prototype}
use Rattle.check_rules.specs.Functions.{undefined}
use Rattle.check_rules.specs.declared.state.State.{State}
use Rattle.check_globals.specs.Programs.{finished, finished_by, has_main, fits, typed, image_fits, functions_fit}
use Rattle.check_globals.specs.Programs.{function_fits, ticks_fit, tick_fits, charges}
use Rattle.wellformed.specs.Accepted as accepted
use Rattle.wellformed.proofs.Bools.{first_true, second_true}
use Rattle.wf_programs.proofs.Bools.{true_le}

pub record Finished (s : State) (p : TypedParts) : Type 0 where
  pub prototypes : undefined s.functions ≡ None
  pub main : has_main s ≡ true
  pub fits : fits s ≡ true
  pub is : p ≡ typed s

by_tests : (s : State) (p : TypedParts) (a b : Bool) →
    (if a then (if b then Ok (typed s) else refuse fault.TooLarge 1) else refuse fault.NoMain 1) ≡ Ok p
    → (a ≡ true) × (b ≡ true) × (p ≡ typed s)
by_tests s p true true is = (refl, refl, cc)
by_tests s p true false is = absurd (cc)
by_tests s p false b is = absurd (cc)

by_prototype : (s : State) (p : TypedParts) (o : Option Prototype) → undefined s.functions ≡ o →
    finished_by o s ≡ Ok p → Finished s p
by_prototype s p None none is =
    let r : (has_main s ≡ true) × (fits s ≡ true) × (p ≡ typed s) = by_tests s p (has_main s) (fits s) is in
    record { prototypes = none; main = r.0; fits = r.1; is = r.2 }
by_prototype s p (Some q) none is = absurd (cc)

pub finished_gives : (s : State) (p : TypedParts) → finished s ≡ Ok p → Finished s p
unfolding finished
finished_gives s p is = by_prototype s p (undefined s.functions) refl is

-- ---- limits

pub record Limits (s : State) : Type 0 where
  pub image : image_fits s.image ≡ true
  pub functions : functions_fit s.functions.all ≡ true
  pub ticks : ticks_fit s.ticks.all ≡ true
  pub words : charges s.functions.all s.ticks.all ≤ 15728640

pub limits : (s : State) → fits s ≡ true → Limits s
limits s h =
    let a : Bool = image_fits s.image in
    let b : Bool = functions_fit s.functions.all in
    let c : Bool = ticks_fit s.ticks.all in
    let d : Bool = nat_le (charges s.functions.all s.ticks.all) 15728640 in
    let abc : (image_fits s.image && functions_fit s.functions.all && ticks_fit s.ticks.all) ≡ true
    = first_true (image_fits s.image && functions_fit s.functions.all && ticks_fit s.ticks.all)
    (nat_le (charges s.functions.all s.ticks.all) 15728640) h in
    let ab : (image_fits s.image && functions_fit s.functions.all) ≡ true
    = first_true (image_fits s.image && functions_fit s.functions.all) (ticks_fit s.ticks.all) abc in
    record {
      image = first_true (image_fits s.image) (functions_fit s.functions.all) ab;
      functions = second_true (image_fits s.image) (functions_fit s.functions.all) ab;
      ticks = second_true (image_fits s.image && functions_fit s.functions.all) (ticks_fit s.ticks.all) abc;
      words = true_le _ _ (second_true (image_fits s.image && functions_fit s.functions.all && ticks_fit s.ticks.all)
          (nat_le (charges s.functions.all s.ticks.all) 15728640) h);
    }

pub function_fit : (fs : List Function) (n : ℕ) (f : Function) → functions_fit fs ≡ true → slice_get fs n ≡ Some f →
    function_fits f ≡ true
function_fit [] n f h at = absurd (cc)
function_fit (g ∷ fs) zero f h at = let same : g ≡ f = cc in
    ap function_fits (sym same) ∙ first_true (function_fits g) (functions_fit fs) h
function_fit (g ∷ fs) (suc n) f h at = function_fit fs n f (second_true (function_fits g) (functions_fit fs) h) at

pub tick_fit : (ts : List Tick) (n : ℕ) (t : Tick) → ticks_fit ts ≡ true → slice_get ts n ≡ Some t → tick_fits t ≡ true
tick_fit [] n t h at = absurd (cc)
tick_fit (u ∷ ts) zero t h at = let same : u ≡ t = cc in
    ap tick_fits (sym same) ∙ first_true (tick_fits u) (ticks_fit ts) h
tick_fit (u ∷ ts) (suc n) t h at = tick_fit ts n t (second_true (tick_fits u) (ticks_fit ts) h) at

-- ---- charges

function_charges : (fs : List Function) →
    sum (map (λ f. accepted.charge (accepted.size_of_function f)) fs) ≡ sum_by (λ f. accepted.charge f.size) fs
function_charges fs = sum-map (λ (f : Function). accepted.charge (accepted.size_of_function f)) fs

tick_charges : (ts : List Tick) →
    sum (map (λ t. accepted.charge (accepted.size_of_tick t)) ts) ≡ sum_by (λ t. accepted.charge t.size) ts
tick_charges ts = sum-map (λ (t : Tick). accepted.charge (accepted.size_of_tick t)) ts

pub words_small : (s : State) → Limits s → accepted.words (typed s) ≤ 15728640
words_small s l =
    let a : sum (map (λ f. accepted.charge (accepted.size_of_function f)) s.functions.all) ≡ sum_by
    (λ f. accepted.charge f.size) s.functions.all = function_charges s.functions.all in
    let b : sum (map (λ t. accepted.charge (accepted.size_of_tick t)) s.ticks.all) ≡ sum_by
    (λ t. accepted.charge t.size) s.ticks.all = tick_charges s.ticks.all in
    let w : charges s.functions.all s.ticks.all ≤ 15728640 = l.words in
    rw (a, b) w

few_by : (ts : List Tick) → length ts ≤ sum_by (λ t. accepted.charge t.size) ts
few_by [] = omega arith
few_by (t ∷ ts) = let e : sum_by (λ u. accepted.charge u.size) (t ∷ ts) ≡ accepted.charge t.size + sum_by
    (λ u. accepted.charge u.size) ts = sum_by-cons (λ (u : Tick). accepted.charge u.size) t ts in
    let h : length ts ≤ sum_by (λ t. accepted.charge t.size) ts = few_by ts in omega arith

-- so few ticks that no count of them is cut
pub few_ticks : (s : State) → Limits s → length s.ticks.all ≤ 15728640
few_ticks s l = let h : length s.ticks.all ≤ sum_by (λ t. accepted.charge t.size) s.ticks.all = few_by s.ticks.all in
    let w : charges s.functions.all s.ticks.all ≤ 15728640 = l.words in omega arith

few_functions_by : (fs : List Function) → length fs ≤ sum_by (λ f. accepted.charge f.size) fs
few_functions_by [] = omega arith
few_functions_by (f ∷ fs) =
    let e : sum_by (λ g. accepted.charge g.size) (f ∷ fs) ≡ accepted.charge f.size + sum_by
    (λ g. accepted.charge g.size)
    fs = sum_by-cons (λ (g : Function). accepted.charge g.size) f fs in
    let h : length fs ≤ sum_by (λ f. accepted.charge f.size) fs = few_functions_by fs in omega arith

pub few_functions : (s : State) → Limits s → length s.functions.all ≤ 15728640
few_functions s l = let h : length s.functions.all ≤ sum_by (λ f. accepted.charge f.size) s.functions.all =
    few_functions_by s.functions.all in let w : charges s.functions.all s.ticks.all ≤ 15728640 = l.words in omega arith
