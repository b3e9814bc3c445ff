-- Frame objects: where they stand, and how the run changes where words of the object space are set to 0.
use Rattle.std.proofs.Common.{◌≡◌, ◌≢◌, ℕ, suc, ◌+◌, ◌-◌, ◌/◌, ◌<◌, ◌≤◌, ◌⊎◌, inl, inr, List, length, refl, ap, sym}
use Rattle.std.proofs.Common.{◌∙◌, arith, if◌then◌else◌}
use Rattle.std.specs.Prelude.{nat_le, slice_set}
use Rattle.std.proofs.lemmas.Bool.Decides.{nat_tests}
use Rattle.std.proofs.lemmas.List.{get_or_past}
use Rattle.word32.specs.Space.{update, words_from}
use Rattle.word32.proofs.Views.{words_from_inside, words_from_set}
use Rattle.word32.specs.declared.map.TheConstants.{FRAMES, OBJECTS}
use Rattle.meaning_state.specs.Shared.{frame_start, zeroed}
use Rattle.staged_meaning.specs.World.{World, Result, Stops, Flow, Normal, clear_words, spend_from, then_do}
use Rattle.staged_meaning.specs.World.{with_shared}
use Rattle.eval_state.specs.declared.state.Parts.{Parts}
use Rattle.eval_state.specs.Run.{Run, here, in_world, run_of, with_units, world}
use Rattle.eval_state.proofs.Changes.{changes_objects}

-- ---- where a frame object stands

pub frame_stands : (p : Parts) (offset : ℕ) → frame_start (here (run_of p)).object (world (run_of p)).shared + offset
    ≡ FRAMES + (p.frames - p.body.object) + offset
unfolding run_of
frame_stands p offset = refl

-- ---- a word that is 0

-- the object space with 0 in the word at an address
abbrev cleared : (address : ℕ) → (ℕ → ℕ) → ℕ → ℕ
cleared at f n = if nat_le (at / 4) n then (if nat_le (at / 4 + 1) n then f n else 0) else f n

update_clears : (m : ℕ) (f : ℕ → ℕ) (n : ℕ)
    → update m 0 f n ≡ (if nat_le m n then (if nat_le (m + 1) n then f n else 0) else f n)
update_clears m f n = grind (arith, nat_tests)

pub word_clears : (at i : ℕ) (ws : List ℕ) → i < length ws → at / 4 ≡ OBJECTS / 4 + i
    → words_from (OBJECTS / 4) (slice_set ws i 0) ≡ cleared at (words_from (OBJECTS / 4) ws)
word_clears at i ws h e =
    words_from_set (OBJECTS / 4) i 0 ws h
    ∙ ap (λ m. update m 0 (words_from (OBJECTS / 4) ws)) (sym e)
    ∙ (λ p n. update_clears (at / 4) (words_from (OBJECTS / 4) ws) n p)

none_each : (first m : ℕ) (ws : List ℕ) (n : ℕ) → (m < first) ⊎ (first + length ws ≤ m)
    → words_from first ws n
    ≡ (if nat_le m n then (if nat_le (m + 1) n then words_from first ws n else 0) else words_from first ws n)
none_each first m ws n (inl h) = grind (arith, nat_tests)
none_each first m ws n (inr h) =
    let past : first + length ws ≤ n → words_from first ws n ≡ 0 =
    λ e. words_from_inside first ws n (omega (arith, e)) ∙ get_or_past ws (n - first) 0 (omega (arith, e)) in
    grind (arith, nat_tests, past)

-- what is no object's is 0 as it is
pub none_clears : (at : ℕ) (ws : List ℕ) → (at / 4 < OBJECTS / 4) ⊎ (OBJECTS / 4 + length ws ≤ at / 4)
    → words_from (OBJECTS / 4) ws ≡ cleared at (words_from (OBJECTS / 4) ws)
none_clears at ws h = λ p n. none_each (OBJECTS / 4) (at / 4) ws n h p

pub clears : (p q : Parts) (at : ℕ) → q ≡ record p { objects = q.objects }
    → words_from (OBJECTS / 4) q.objects.items ≡ cleared at (words_from (OBJECTS / 4) p.objects.items)
    → run_of q ≡ in_world (with_shared (zeroed at 1 (world (run_of p)).shared) (world (run_of p))) (run_of p)
unfolding run_of
clears p q at h k =
    changes_objects p q h
    ∙ ap (λ (f : ℕ → ℕ). in_world (with_shared (record (world (run_of p)).shared { objects = f }) (world (run_of p)))
    (run_of p)) k

-- ---- several words, at a unit each

-- nothing of a run but its world is another
abbrev pub stays : Run → Run → Type 0
stays r s = s ≡ in_world (world s) r

abbrev pub clearing : (words address : ℕ) → Run → Result Flow
clearing words at r = clear_words words at (world r)

spent_one : {u : ℕ} (w : World) (k at : ℕ) (n : ℕ) → w.units ≡ n → n ≡ suc u
    → clear_words (suc k) at w ≡ clear_words k (at + 4) (record (with_shared (zeroed at 1 w.shared) w) { units = u })
spent_one {u} w k at n h e =
    ap (λ (m : ℕ). then_do {A = Flow} (spend_from m Normal (with_shared (zeroed at 1 w.shared) w))
    (λ flow w. clear_words k (at + 4) w)) (h ∙ e)

spent_none : (w : World) (k at : ℕ) → w.units ≡ 0 → clear_words (suc k) at w ≡ Stops (zeroed at 1 w.shared)
spent_none w k at h =
    ap (λ (m : ℕ). then_do {A = Flow} (spend_from m Normal (with_shared (zeroed at 1 w.shared) w))
    (λ flow w. clear_words k (at + 4) w)) h

-- a word was set to 0, and its unit spent
pub clears_one : (r s t : Run) (k at : ℕ)
    → s ≡ in_world (with_shared (zeroed at 1 (world r).shared) (world r)) r
    → (world s).units ≢ 0 → t ≡ with_units ((world s).units - 1) s
    → clearing (suc k) at r ≡ clearing k (at + 4) t
clears_one r s t k at h some e =
    let same : (world s).units ≡ (world r).units = ap (λ s. (world s).units) h in
    let left : (world r).units ≡ suc ((world r).units - 1) = omega (arith, some, same) in
    spent_one (world r) k at _ refl left
    ∙ ap (λ s. clearing k (at + 4) (with_units ((world r).units - 1) s)) (sym h)
    ∙ ap (λ n. clearing k (at + 4) (with_units (n - 1) s)) (sym same)
    ∙ ap (clearing k (at + 4)) (sym e)

pub still_stays : (old r s t : Run) {w : World} {u : ℕ} → stays old r → s ≡ in_world w r → t ≡ with_units u s
    → stays old t
still_stays old r s t {w} {u} h e k =
    let all : t ≡ in_world (record w { units = u }) old =
    k ∙ ap (with_units u) (e ∙ ap (in_world w) h) in
    all ∙ ap (λ w. in_world w old) (ap world (sym all))
