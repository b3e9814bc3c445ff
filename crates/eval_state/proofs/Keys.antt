-- Variables of generated code by their keys, in the list of those that were set.
use Rattle.std.proofs.Common.{◌≡◌, ℕ, suc, ◌<◌, ◌≤◌, Bool, true, false, if◌then◌else◌, List, [], ◌∷◌, ◌++◌}
use Rattle.std.proofs.Common.{length, get_or, Some, None, refl, ap, sym, ◌∙◌, arith}
use Rattle.std.specs.Prelude.{nat_eq, nat_lt, slice_get, slice_set}
use Rattle.std.proofs.lemmas.Bool.Decides.{nat_tests}
use Rattle.limits.specs.declared.program.TheConstants.{MOST_ARGUMENTS}
use Rattle.word32.specs.Space.{update}
use Rattle.staged_meaning.specs.Meaning.{keys_at_entry}
use Rattle.staged_meaning.specs.Statements.{argument}
use Rattle.staged_meaning.specs.World.{with_generated}
use Rattle.eval_state.specs.declared.state.Generated.{Generated}
use Rattle.eval_state.specs.declared.state.Parts.{Parts}
use Rattle.eval_state.specs.declared.state.Setting.{Setting}
use Rattle.eval_state.specs.Kept.{generated_of, place_of, set_or}
use Rattle.eval_state.specs.Run.{Run, in_world, program_of, run_of, state_of, world}
use Rattle.eval_state.proofs.Changes.{arguments_are}

-- ---- what a function was passed

pub entry_within : (vs : List ℕ) (key : ℕ) → key < MOST_ARGUMENTS → get_or vs key 0 ≡ keys_at_entry vs key
entry_within vs key h =
    let test : nat_lt key MOST_ARGUMENTS ≡ true = grind (arith, nat_tests) in
    sym (arguments_are vs key) ∙ ap (λ b. if b then argument vs key else 0) (sym test)

pub entry_past : (vs : List ℕ) (key : ℕ) → MOST_ARGUMENTS ≤ key → 0 ≡ keys_at_entry vs key
entry_past vs key h =
    let test : nat_lt key MOST_ARGUMENTS ≡ false = grind (arith, nat_tests) in
    ap (λ b. if b then argument vs key else 0) (sym test)

pub ruleset entry = (entry_within, entry_past)

-- ---- what was set

pub is_set : (vs : List Setting) (key other : ℕ) (v : Setting) → slice_get vs (place_of vs key) ≡ Some v
    → set_or vs key other ≡ v.value
is_set [] key other v h = absurd (none_is_some h)
  where
    none_is_some : {A : Type 0} {a : A} → None ≡ Some a → ⊥
    none_is_some e = cc
is_set (w ∷ vs) key other v h = go (nat_eq key w.key) h (is_set vs key other v)
  where
    go : (b : Bool) → slice_get (w ∷ vs) (if b then 0 else suc (place_of vs key)) ≡ Some v
        → (slice_get vs (place_of vs key) ≡ Some v → set_or vs key other ≡ v.value)
        → (if b then w.value else set_or vs key other) ≡ v.value
    go true e rest = ap (λ (s : Setting). s.value) (some_is e)
      where
        some_is : {a b : Setting} → Some a ≡ Some b → a ≡ b
        some_is e = cc
    go false e rest = rest e

pub is_other : (vs : List Setting) (key other : ℕ) → slice_get vs (place_of vs key) ≡ None → set_or vs key other ≡ other
is_other [] key other h = refl
is_other (w ∷ vs) key other h = go (nat_eq key w.key) h (is_other vs key other)
  where
    go : (b : Bool) → slice_get (w ∷ vs) (if b then 0 else suc (place_of vs key)) ≡ None
        → (slice_get vs (place_of vs key) ≡ None → set_or vs key other ≡ other)
        → (if b then w.value else set_or vs key other) ≡ other
    go true e rest = absurd (some_is_none e)
      where
        some_is_none : {A : Type 0} {a : A} → Some a ≡ None → ⊥
        some_is_none e = cc
    go false e rest = rest e

-- ---- what is set

-- the setting of a key
abbrev pub setting : (key value : ℕ) → Setting
setting key value = record { key = key; value = value }

pub sets_there : (vs : List Setting) (key value k other : ℕ) → place_of vs key < length vs
    → set_or (slice_set vs (place_of vs key) (setting key value)) k other
    ≡ (if nat_eq k key then value else set_or vs k other)
sets_there [] key value k other h = absurd (omega (arith, h))
sets_there (w ∷ vs) key value k other h =
    go (nat_eq key w.key) refl h (sets_there vs key value k other)
  where
    go : (b : Bool) → nat_eq key w.key ≡ b → (if b then 0 else suc (place_of vs key)) < length (w ∷ vs)
        → (place_of vs key < length vs
        → set_or (slice_set vs (place_of vs key) (setting key value)) k other
        ≡ (if nat_eq k key then value else set_or vs k other))
        → set_or (slice_set (w ∷ vs) (if b then 0 else suc (place_of vs key)) (setting key value)) k other
        ≡ (if nat_eq k key then value else set_or (w ∷ vs) k other)
    go true t e rest = grind (arith, nat_tests, t)
    go false t e rest =
        ap (λ n. if nat_eq k w.key then w.value else n) (rest (omega (arith, e))) ∙ grind (arith, nat_tests, t)

pub sets_behind : (vs : List Setting) (key value k other : ℕ) → length vs ≤ place_of vs key
    → set_or (vs ++ setting key value ∷ []) k other ≡ (if nat_eq k key then value else set_or vs k other)
sets_behind [] key value k other h = refl
sets_behind (w ∷ vs) key value k other h =
    go (nat_eq key w.key) refl h (sets_behind vs key value k other)
  where
    go : (b : Bool) → nat_eq key w.key ≡ b → length (w ∷ vs) ≤ (if b then 0 else suc (place_of vs key))
        → (length vs ≤ place_of vs key
        → set_or (vs ++ setting key value ∷ []) k other ≡ (if nat_eq k key then value else set_or vs k other))
        → set_or ((w ∷ vs) ++ setting key value ∷ []) k other
        ≡ (if nat_eq k key then value else set_or (w ∷ vs) k other)
    go true t e rest = absurd (omega (arith, e))
    go false t e rest =
        ap (λ n. if nat_eq k w.key then w.value else n) (rest (omega (arith, e))) ∙ grind (arith, nat_tests, t)

-- ---- in a run

pub reads_key : (p : Parts) (key : ℕ) → (world (run_of p)).generated key ≡ generated_of p.body.generated key
unfolding run_of
reads_key p key = refl

-- the same run with other variables of generated code
abbrev keyed : Parts → (ℕ → ℕ) → Run
keyed p f = record {
  program = program_of p;
  turns = suc p.turns;
  state = record (state_of p) { body = record (state_of p).body { generated = f } };
}

pub sets_key : (p q : Parts) (g : Generated) (key v : ℕ)
    → q ≡ record p { body = record p.body { generated = g } }
    → ((k : ℕ) → generated_of g k ≡ update key v (generated_of p.body.generated) k)
    → run_of q ≡ in_world (with_generated key v (world (run_of p))) (run_of p)
unfolding run_of
sets_key p q g key v h k =
    ap run_of h
    ∙ ap (keyed p) (λ j n. k n j)
