-- What stood in code before a compile stands on: outside of the range of its words all is as it was.
use Rattle.std.proofs.Common.{◌≡◌, ◌≢◌, ◌⊎◌, inl, inr, ℕ, ◌+◌, ◌*◌, ◌<◌, ◌≤◌, Bool, true}
use Rattle.std.proofs.Common.{false, List, length, refl, sym, ap, ◌∙◌, arith, nat_lt, if◌then◌else◌}
use Rattle.std.specs.Prelude.{Err}
use Rattle.std.proofs.lemmas.Bool.{cases_lt}
use Rattle.std.proofs.lemmas.Bool.Decides.{nat_tests}
use Rattle.word32.specs.declared.map.TheConstants.{ARENA, ARENA_WORDS}
use Rattle.host_edge.specs.declared.ending.MachineKind.TheVariants as kind
use Rattle.code_arena.specs.Arena.{fetched}
use Rattle.code_arena.specs.declared.arena.WordState.{WordState}
use Rattle.code_arena.specs.declared.arena.WordState.TheVariants.{Unwritten, Written, Flushed}
use Rattle.mips_encoder.specs.declared.instruction.Instr.{Instr}
use Rattle.mips_model.specs.State.{Code}
use Rattle.mips_model.specs.Steps.{Is, found, from_text, from_arena, text_word, is_arena_word, fetch}
use Rattle.meaning_state.specs.Rows.{arena_words}
use Rattle.mips_model.specs.CodeServices.{arena_word}
use Rattle.compile_routine.specs.Places.{place_address, AreApart, KeepsOutside}
use Rattle.compile_routine.specs.Made.{with_words, IsFree, CodeGrows, WordsAreThere, AreThere}
use Rattle.compile_routine.proofs.Made.{are_there}

module _ (place count : ℕ) (words : List ℕ) (c : Code) (few : length words ≤ count)
    (within : place + count ≤ ARENA_WORDS) where
  abbrev after : Code
  after = with_words (place_address place) words c

  there : AreThere (place_address place) words c after
  there = are_there place words c (omega (arith, few, within))

  first_word : arena_word (place_address place) ≡ place
  first_word = omega arith

  -- a word outside of the range, and its state
  same_word : (k : ℕ) → (k < place) ⊎ (place + count ≤ k)
      → (after.arena.words k ≡ c.arena.words k) × (after.arena.states k ≡ c.arena.states k)
  same_word k (inl l) = there.others k (inl (omega (arith, l)))
  same_word k (inr l) = there.others k (inr (omega (arith, l, few)))

  pub same_state : (k : ℕ) → (k < place) ⊎ (place + count ≤ k) → after.arena.states k ≡ c.arena.states k
  same_state k l = (same_word k l).1

  same_found : (k : ℕ) → (k < place) ⊎ (place + count ≤ k)
      → found (from_arena (fetched (after.arena.states k) (after.arena.words k)))
      ≡ found (from_arena (fetched (c.arena.states k) (c.arena.words k)))
  same_found k l =
      let o = same_word k l in
      ap (λ w. found (from_arena (fetched (after.arena.states k) w))) o.0
      ∙ ap (λ s. found (from_arena (fetched s (c.arena.words k)))) o.1

  pub keeps : KeepsOutside (place_address place) (place_address place + 4 * count) c after
  keeps x out = by (nat_lt x ARENA) (is_arena_word x) refl
    where
      by : (t b : Bool) → nat_lt x ARENA ≡ t → found (if t then from_text (text_word after x)
          else (if b then from_arena (fetched (after.arena.states (arena_word x)) (after.arena.words (arena_word x)))
          else Err kind.Fetch))
          ≡ found (if t then from_text (text_word c x)
          else (if b then from_arena (fetched (c.arena.states (arena_word x)) (c.arena.words (arena_word x)))
          else Err kind.Fetch))
      by true b e = refl
      by false false e = refl
      by false true e =
          let high : ARENA ≤ x = grind (arith, nat_tests, e) in
          same_found (arena_word x) (outside high out)
        where
          outside : ARENA ≤ x → (x < place_address place) ⊎ (place_address place + 4 * count ≤ x)
              → (arena_word x < place) ⊎ (place + count ≤ arena_word x)
          outside high (inl l) = inl (omega (arith, high, l))
          outside high (inr l) = inr (omega (arith, high, l))

  -- a word that isn't flushed isn't executed
  not_flushed : (state : WordState) (w : ℕ) (i : Instr) → state ≢ Flushed →
      found (from_arena (fetched state w)) ≡ Is i → ⊥
  not_flushed Flushed w i n is = n refl
  not_flushed Written w i n is = cc
  not_flushed Unwritten w i n is = cc

  module _ (free : IsFree place count c) where
    -- one that is was no word of the range
    executed : (k : ℕ) (i : Instr) → found (from_arena (fetched (c.arena.states k) (c.arena.words k))) ≡ Is i →
        found (from_arena (fetched (after.arena.states k) (after.arena.words k))) ≡ Is i
    executed k i is = elim (cases_lt k place) [
      | inl l ↦ same_found k (inl l) ∙ is
      | inr l ↦ elim (cases_lt k (place + count)) [
        | inl m ↦ absurd (not_flushed (c.arena.states k) (c.arena.words k) i (free k l m) is)
        | inr m ↦ same_found k (inr m) ∙ is
      ]
    ]

    pub stays : (x : ℕ) (i : Instr) → fetch c x ≡ Is i → fetch after x ≡ Is i
    stays x i is = by (nat_lt x ARENA) (is_arena_word x) is
      where
        by : (t b : Bool) → found (if t then from_text (text_word c x)
            else (if b then from_arena (fetched (c.arena.states (arena_word x)) (c.arena.words (arena_word x)))
            else Err kind.Fetch)) ≡ Is i
            → found (if t then from_text (text_word after x)
            else (if b then from_arena (fetched (after.arena.states (arena_word x)) (after.arena.words (arena_word x)))
            else Err kind.Fetch)) ≡ Is i
        by true b is = is
        by false true is = executed (arena_word x) i is
        by false false is = is

  pub free_on : (other more : ℕ) → AreApart place count other more → IsFree other more c → IsFree other more after
  free_on other more (inl l) free k low high is =
      free k low high (sym (same_word k (inr (omega (arith, l, low)))).1 ∙ is)
  free_on other more (inr l) free k low high is =
      free k low high (sym (same_word k (inl (omega (arith, l, high)))).1 ∙ is)

-- so each instruction outside stands on
pub stands_outside : (from to : ℕ) (c k : Code) → KeepsOutside from to c k → (x : ℕ) (i : Instr) →
    (x < from) ⊎ (to ≤ x) → fetch c x ≡ Is i → fetch k x ≡ Is i
stands_outside from to c k same x i out is = same x out ∙ is

pub words_there : WordsAreThere
words_there place count words c few within = are_there place words c (omega (arith, few, within))

pub code_grown : CodeGrows
code_grown place count words c few within = (
  keeps place count words c few within,
  (λ free. record { stays = stays place count words c few within free }),
  free_on place count words c few within,
)
