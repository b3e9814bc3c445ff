-- What stands on the words of a code that can be executed stands on the code; and outside of a range of the arena two
-- such codes are alike, where their words are.
use Rattle.std.proofs.Common.{◌≡◌, ◌⊎◌, inl, inr, ℕ, ◌+◌, ◌*◌, ◌%◌, ◌<◌, ◌≤◌, Bool, true, false, List, [], ◌∷◌}
use Rattle.std.proofs.Common.{length, refl, ap, ◌∙◌, arith, nat_lt, if◌then◌else◌, Err}
use Rattle.std.proofs.lemmas.Bool.Decides.{nat_tests}
use Rattle.word32.specs.declared.map.TheConstants.{ARENA}
use Rattle.host_edge.specs.declared.ending.MachineKind.TheVariants as kind
use Rattle.code_arena.specs.Arena.{fetched}
use Rattle.code_arena.specs.declared.arena.WordState.{WordState}
use Rattle.code_arena.specs.declared.arena.WordState.TheVariants.{Unwritten}
use Rattle.mips_encoder.specs.declared.instruction.Instr.{Instr}
use Rattle.mips_encoder.specs.Addresses.{past}
use Rattle.mips_model.specs.State.{Code}
use Rattle.mips_model.specs.Accesses.{arena_word}
use Rattle.mips_model.specs.Steps.{Is, found, from_text, from_arena, text_word, is_arena_word, fetch}
use Rattle.mips_model.specs.Laws.{HasAt}
use Rattle.mips_model_laws.specs.Laws.{only}
use Rattle.compile_routine.specs.Made.{with_words, AreThere}
use Rattle.compile_routine.specs.Places.{place_address}

full_fetch : (can : ℕ → Bool) (c : Code) (a : ℕ) (i : Instr) → fetch (only can c) a ≡ Is i → fetch c a ≡ Is i
full_fetch can c a i is = by (nat_lt a ARENA) (is_arena_word a) (can (arena_word a)) is
  where
    k : ℕ
    k = arena_word a

    by : (t b may : Bool) → found (if t then from_text (text_word c a)
        else (if b then from_arena (fetched (if may then c.arena.states k else Unwritten) (c.arena.words k))
        else Err kind.Fetch)) ≡ Is i
        → found (if t then from_text (text_word c a)
        else (if b then from_arena (fetched (c.arena.states k) (c.arena.words k)) else Err kind.Fetch)) ≡ Is i
    by true b may e = e
    by false true true e = e
    by false true false e = absurd cc
    by false false may e = absurd cc

pub has_full : (can : ℕ → Bool) (c : Code) (a : ℕ) (is : List Instr) → HasAt (only can c) a is → HasAt c a is
has_full can c a [] h = tt
has_full can c a (i ∷ is) h = (full_fetch can c a i h.0, has_full can c (a + 4) is h.1)

-- ---- inside of one

in_fetch : (can : ℕ → Bool) (c : Code) (a : ℕ) → can (arena_word a) ≡ true → fetch (only can c) a ≡ fetch c a
in_fetch can c a may =
    ap (λ (state : WordState). found (if nat_lt a ARENA then from_text (text_word c a) else
    (if is_arena_word a then from_arena (fetched state (c.arena.words (arena_word a))) else Err kind.Fetch)))
    (ap (λ (b : Bool). if b then c.arena.states (arena_word a) else Unwritten) may)

pub rises : (a : ℕ) (is : List Instr) → a ≤ past a is
rises a [] = omega arith
rises a (i ∷ is) = let r = rises (a + 4) is in omega (arith, r)

pub past_even : (a : ℕ) (is : List Instr) → a % 4 ≡ 0 → past a is % 4 ≡ 0
past_even a [] e = e
past_even a (i ∷ is) e = past_even (a + 4) is (omega (arith, e))

-- what stands behind a word and before another stands on the words between them
pub has_inside : (can : ℕ → Bool) (c : Code) (lo hi : ℕ) → ((k : ℕ) → lo < k → k < hi → can k ≡ true)
    → (a : ℕ) (is : List Instr) → ARENA + 4 * lo + 4 ≤ a → a % 4 ≡ 0 → past a is ≤ ARENA + 4 * hi → HasAt c a is
    → HasAt (only can c) a is
has_inside can c lo hi may a [] from even to h = tt
has_inside can c lo hi may a (i ∷ is) from even to h =
    let r = rises (a + 4) is in (
      in_fetch can c a (may (arena_word a) (omega (arith, from)) (omega (arith, from, even, r, to))) ∙ h.0,
      has_inside can c lo hi may (a + 4) is (omega (arith, from)) (omega (arith, even)) to h.1,
    )

-- ---- outside of a range

module _ (place count : ℕ) (words : List ℕ) (c : Code) (can can' : ℕ → Bool) (few : length words ≤ count)
    (there : AreThere (place_address place) words c (with_words (place_address place) words c))
    (same : (k : ℕ) → (k < place) ⊎ (place + count ≤ k) → can' k ≡ can k) where
  abbrev after : Code
  after = with_words (place_address place) words c

  abbrev state : (b : Bool) → WordState → WordState
  state b s = if b then s else Unwritten

  same_found : (k : ℕ) → (k < place) ⊎ (place + count ≤ k)
      → found (from_arena (fetched (state (can' k) (after.arena.states k)) (after.arena.words k)))
      ≡ found (from_arena (fetched (state (can k) (c.arena.states k)) (c.arena.words k)))
  same_found k out =
      let o = there.others k (by out) in
      ap (λ w. found (from_arena (fetched (state (can' k) (after.arena.states k)) w))) o.0
      ∙ ap (λ s. found (from_arena (fetched (state (can' k) s) (c.arena.words k)))) o.1
      ∙ ap (λ b. found (from_arena (fetched (state b (c.arena.states k)) (c.arena.words k)))) (same k out)
    where
      by : (k < place) ⊎ (place + count ≤ k)
          → (k < arena_word (place_address place)) ⊎ (arena_word (place_address place) + length words ≤ k)
      by (inl l) = inl (omega (arith, l))
      by (inr l) = inr (omega (arith, l, few))

  outside : (x : ℕ) → ARENA ≤ x → (x < place_address place) ⊎ (place_address place + 4 * count ≤ x)
      → (arena_word x < place) ⊎ (place + count ≤ arena_word x)
  outside x high (inl l) = inl (omega (arith, high, l))
  outside x high (inr l) = inr (omega (arith, high, l))

  pub same_outside : (x : ℕ) → (x < place_address place) ⊎ (place_address place + 4 * count ≤ x)
      → fetch (only can' after) x ≡ fetch (only can c) x
  same_outside x out = by (nat_lt x ARENA) (is_arena_word x) refl
    where
      k : ℕ
      k = arena_word x

      by : (t b : Bool) → nat_lt x ARENA ≡ t → found (if t then from_text (text_word after x)
          else (if b then from_arena (fetched (state (can' k) (after.arena.states k)) (after.arena.words k))
          else Err kind.Fetch))
          ≡ found (if t then from_text (text_word c x)
          else (if b then from_arena (fetched (state (can k) (c.arena.states k)) (c.arena.words k))
          else Err kind.Fetch))
      by true b e = refl
      by false false e = refl
      by false true e =
          let high : ARENA ≤ x = grind (arith, nat_tests, e) in same_found k (outside x high out)

  pub has_kept : (a : ℕ) (is : List Instr) → (past a is ≤ place_address place) ⊎ (place_address place + 4 * count ≤ a)
      → HasAt (only can c) a is → HasAt (only can' after) a is
  has_kept a [] out h = tt
  has_kept a (i ∷ is) out h =
      (same_outside a (first out) ∙ h.0, has_kept (a + 4) is (rest out) h.1)
    where
      first : (past (a + 4) is ≤ place_address place) ⊎ (place_address place + 4 * count ≤ a)
          → (a < place_address place) ⊎ (place_address place + 4 * count ≤ a)
      first (inl l) = let r = rises (a + 4) is in inl (omega (arith, r, l))
      first (inr l) = inr l

      rest : (past (a + 4) is ≤ place_address place) ⊎ (place_address place + 4 * count ≤ a)
          → (past (a + 4) is ≤ place_address place) ⊎ (place_address place + 4 * count ≤ a + 4)
      rest (inl l) = inl l
      rest (inr l) = inr (omega (arith, l))
