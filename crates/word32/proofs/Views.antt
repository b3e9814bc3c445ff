-- A list of words seen as a space: a word of the list changed is that word of the space changed.
use Rattle.std.proofs.Common.{◌≡◌, ◌≢◌, inl, inr, ℕ, ◌+◌, ◌-◌, ◌<◌, ◌≤◌, List, length, ap, sym, ◌∙◌, arith}
use Rattle.std.specs.Prelude.{slice_index, slice_set}
use Rattle.std.proofs.lemmas.Bool.{cases_eq}
use Rattle.std.proofs.lemmas.Bool.Decides.{nat_tests}
use Rattle.std.proofs.lemmas.List.{get_or-set_same, get_or-set_other}
use Rattle.word32.specs.Space.{update, words_from, AreWords}
use Rattle.word32.proofs.SpaceLaws.{update_same, update_other}

pub words_from_inside : (first : ℕ) (words : List ℕ) (n : ℕ) → first ≤ n →
    words_from first words n ≡ slice_index words (n - first)
words_from_inside first words n h = grind (arith, nat_tests)

-- the word at a place of the list
pub words_from_index : (first : ℕ) (words : List ℕ) (i : ℕ) → words_from first words (first + i) ≡ slice_index words i
words_from_index first words i =
    words_from_inside first words (first + i) (omega arith) ∙ ap (slice_index words) (omega arith)

set_at :
    (first i w : ℕ) (words : List ℕ) (n : ℕ) → i < length words → n ≡ first + i →
    words_from first (slice_set words i w) n ≡ update (first + i) w (words_from first words) n
set_at first i w words n h e =
    words_from_inside first (slice_set words i w) n (omega arith)
    ∙ (ap (slice_index (slice_set words i w)) (omega arith)
    ∙ (get_or-set_same words i w 0 h ∙ sym (update_same (first + i) w (words_from first words) n e)))

set_away :
    (first i w : ℕ) (words : List ℕ) (n : ℕ) → n ≢ first + i →
    words_from first (slice_set words i w) n ≡ words_from first words n
set_away first i w words n d = grind (arith, nat_tests, get_or-set_other words i (n - first) w 0)

set_each :
    (first i w : ℕ) (words : List ℕ) (n : ℕ) → i < length words →
    words_from first (slice_set words i w) n ≡ update (first + i) w (words_from first words) n
set_each first i w words n h =
    elim (cases_eq n (first + i)) [
      | inl e ↦ set_at first i w words n h e
      | inr d ↦ set_away first i w words n d ∙ sym (update_other (first + i) w (words_from first words) n d)
    ]

pub words_from_set :
    (first i w : ℕ) (words : List ℕ) → i < length words →
    words_from first (slice_set words i w) ≡ update (first + i) w (words_from first words)
words_from_set first i w words h = λ p n. set_each first i w words n h p

-- a space of a list of words has words alone
pub words_from_words :
    (first : ℕ) (words : List ℕ) → ((i : ℕ) → slice_index words i < 4294967296) → AreWords (words_from first words)
words_from_words first words all n = grind (arith, nat_tests, all (n - first))
