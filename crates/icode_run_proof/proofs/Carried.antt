-- A run on the words of a setting's code is one on the machine's code, in which nothing is told but what passes, and no
-- flush meets an unwritten word.
use Rattle.std.proofs.Common.{◌≡◌, Bool, ℕ, map, Option, Some, None, refl, sym, ap, ◌∙◌, subst}
use Rattle.std.specs.Fn.{iterate}
use Rattle.history.specs.Events.{End, Ended, ReadFault, Fault}
use Rattle.mips_model.specs.State.{Code, Data, State, World}
use Rattle.mips_model.specs.Steps.{step, going}
use Rattle.mips_model.specs.Laws.{Reaches}
use Rattle.mips_model.specs.Told.{Passed, told, passed}
use Rattle.mips_model_laws.specs.Laws.{only, with_code}
use Rattle.mips_model_laws.specs.Clean.{IsUnspoiled}
use Rattle.mips_model_laws.proofs.Below.{IsNoFault, runs_in, runs_carried_in, ends_in_words}
use Rattle.mips_model_laws.proofs.Entrances.{AreNoEntries, stays_plain, ends_plain}
use Rattle.mips_model_laws.proofs.Unspoiled.{quiet_unspoiled}
use Rattle.icode_templates_proof.specs.Moves.{behind}
use Rattle.icode_expand_proof.specs.Relation.{IsFair}

-- the same world on other code
abbrev pub on_code : Code → World → World
on_code c w = record w { state = with_code c w.state }

pub record Carried (c : Code) (n : ℕ) (y : State) (w : World) : Type 0 where
  pub goes : iterate step n (going y) ≡ on_code c w
  pub plain : told n (going y) ≡ map Passed (passed (told n (going y)))
  pub unspoiled : IsUnspoiled n (going y)

is_no_fault : (e : End) → IsFair (Some e) → IsNoFault e
is_no_fault (Ended x) fair = tt
is_no_fault ReadFault fair = tt
is_no_fault (Fault k at) fair = fair

pub carried : (can : ℕ → Bool) (c : Code) (a recent n : ℕ) (d : Data) (w : World)
    → iterate step n (going (behind (only can c) a recent d)) ≡ w → w.state.code ≡ only can c
    → w.state.d.outside.flushes ≡ d.outside.flushes → w.state.d.outside.making ≡ d.outside.making
    → IsFair w.ending → AreNoEntries can d.table → Carried c n (behind c a recent d) w
carried can c a recent n d w is code flushes making fair none = by w.ending refl
  where
    y : State
    y = behind c a recent d

    last_is : w.state ≡ with_code (only can c) w.state
    last_is = ap (λ (k : Code). with_code k w.state) code

    world_as : (o : Option End) → w.ending ≡ o → w ≡ record { state = with_code (only can c) w.state; ending = o }
    world_as o e =
        ap (λ (x : State). let v : World = record { state = x; ending = w.ending } in v) last_is
        ∙ ap (λ (x : Option End). let v : World = record { state = with_code (only can c) w.state; ending = x } in v) e

    all_is : (o : Option End) → w.ending ≡ o → iterate step n (going y) ≡ record {
      state = with_code c w.state;
      ending = o;
    } → iterate step n (going y) ≡ on_code c w
    all_is o e goes =
        goes ∙ sym (ap (λ (x : Option End). let v : World = record { state = with_code c w.state; ending = x } in v) e)

    flushed : (iterate step n (going y)) ≡ on_code c w
        → (iterate step n (going y)).state.d.outside.flushes ≡ y.d.outside.flushes
    flushed goes = ap (λ (v : World). v.state.d.outside.flushes) goes ∙ flushes

    made : (iterate step n (going y)) ≡ on_code c w
        → (iterate step n (going y)).state.d.outside.making ≡ y.d.outside.making
    made goes = ap (λ (v : World). v.state.d.outside.making) goes ∙ making

    by : (o : Option End) → w.ending ≡ o → Carried c n y w
    by None e =
        let r : Reaches n (with_code (only can y.code) y) (with_code (only can y.code) w.state) =
        record { by = is ∙ world_as None e } in
        let over = runs_carried_in can n y w.state r flushes in
        let goes = all_is None e over.by in
        let stays = runs_in can n y (with_code (only can y.code) w.state) r flushes in
        record {
          goes = goes;
          plain = stays_plain can n y stays none (made goes);
          unspoiled = quiet_unspoiled n (going y) (flushed goes);
        }
    by (Some x) e =
        let r = ends_in_words can n y w.state x (is_no_fault x (subst IsFair e fair)) (is ∙ world_as (Some x) e)
        flushes in
        let goes = all_is (Some x) e r.0 in
        record {
          goes = goes;
          plain = ends_plain can n y r.1 none (made goes);
          unspoiled = quiet_unspoiled n (going y) (flushed goes);
        }
