-- Words of the arena between two addresses: what stands there stands on the code that has these alone, and no row that
-- is published elsewhere is an entry there.
use Rattle.std.proofs.Common.{◌≡◌, ◌≢◌, ◌⊎◌, inl, inr, ℕ, zero, suc, ◌+◌, ◌-◌, ◌*◌, ◌/◌, ◌%◌, ◌<◌, ◌≤◌, Bool, true}
use Rattle.std.proofs.Common.{false}
use Rattle.std.proofs.Common.{◌&&◌, List, [], ◌∷◌, Option, Some, None, refl, sym, ap, ◌∙◌, subst, arith, nat_eq, nat_lt}
use Rattle.std.proofs.Common.{if◌then◌else◌, Err, ◌==◌}
use Rattle.std.proofs.lemmas.Bool.{cases_Bool, cases_lt, false≢true, lt-ltb}
use Rattle.std.proofs.lemmas.Bool.Decides.{nat_tests}
use Rattle.word32.specs.declared.map.TheConstants.{ARENA, FUNCTION_ROWS}
use Rattle.host_edge.specs.declared.ending.MachineKind.TheVariants as kind
use Rattle.code_arena.specs.Arena.{fetched}
use Rattle.code_arena.specs.declared.arena.WordState.{WordState}
use Rattle.code_arena.specs.declared.arena.WordState.TheVariants.{Unwritten}
use Rattle.mips_encoder.specs.declared.instruction.Instr.{Instr}
use Rattle.mips_encoder.specs.Addresses.{past}
use Rattle.mips_model.specs.State.{Code}
use Rattle.mips_model.specs.Accesses.{arena_word}
use Rattle.mips_model.specs.Steps.{fetch, found, from_text, from_arena, text_word, is_arena_word}
use Rattle.mips_model.specs.Laws.{HasAt}
use Rattle.mips_model.specs.Told.{row_from}
use Rattle.mips_model_laws.specs.Laws.{only, IsOf}
use Rattle.mips_model_laws.proofs.Entrances.{AreNoEntries}

-- the arena's words behind an address and before another one
abbrev pub between : (lo hi : ℕ) → ℕ → Bool
between lo hi k = nat_lt (lo / 4) (ARENA / 4 + k) && nat_lt (ARENA / 4 + k) (hi / 4)

both : (x y : Bool) → x && y ≡ true → (x ≡ true) × (y ≡ true)
both true y e = (refl, e)
both false y e = absurd (false≢true e)

-- ---- entries

none_from : (count row at : ℕ) (table : ℕ → ℕ × ℕ) → ((n : ℕ) → n < row + count → (table n).0 ≢ at)
    → row_from count row at table ≡ None
unfolding row_from
none_from zero row at table other = refl
none_from (suc count) row at table other =
    by (nat_eq (table row).0 at) refl (none_from count (suc row) at table (λ n l. other n (omega (arith, l))))
  where
    by : (b : Bool) → nat_eq (table row).0 at ≡ b
        → row_from count (suc row) at table ≡ None
        → (if b then Some row else row_from count (suc row) at table) ≡ None
    by true t rest = absurd (other row (omega arith) (grind (arith, nat_tests, t)))
    by false t rest = rest

-- each row has an address below the arena, or up to the first address, or from the second one on
pub no_entries : (lo hi : ℕ) (table : ℕ → ℕ × ℕ)
    → ((n : ℕ) → n < FUNCTION_ROWS → ((table n).0 < ARENA) ⊎ (((table n).0 ≤ lo) ⊎ (hi ≤ (table n).0)))
    → AreNoEntries (between lo hi) table
no_entries lo hi table rows a high (inl low) = absurd (omega (arith, high, low))
no_entries lo hi table rows a high (inr may) =
    none_from FUNCTION_ROWS 0 a table (λ n l e. apart n e (rows n (omega (arith, l))))
  where
    parts : (nat_lt (lo / 4) (ARENA / 4 + arena_word a) ≡ true) × (nat_lt (ARENA / 4 + arena_word a) (hi / 4) ≡ true)
    parts = both (nat_lt (lo / 4) (ARENA / 4 + arena_word a)) (nat_lt (ARENA / 4 + arena_word a) (hi / 4)) may

    word : ARENA / 4 + arena_word a ≡ a / 4
    word = omega (arith, high)

    above : lo < a
    above = let p : lo / 4 < ARENA / 4 + arena_word a = grind (arith, nat_tests, parts.0) in omega (arith, p, word)

    under : a < hi
    under = let p : ARENA / 4 + arena_word a < hi / 4 = grind (arith, nat_tests, parts.1) in omega (arith, p, word)

    apart : (n : ℕ) → (table n).0 ≡ a → ((table n).0 < ARENA) ⊎ (((table n).0 ≤ lo) ⊎ (hi ≤ (table n).0)) → ⊥
    apart n e (inl low) = omega (arith, high, low, e)
    apart n e (inr (inl low)) = omega (arith, above, low, e)
    apart n e (inr (inr far)) = omega (arith, under, far, e)

-- ---- what stands there

-- at such an address all is fetched as before
same_fetch : (can : ℕ → Bool) (c : Code) (a : ℕ) → IsOf can a → fetch (only can c) a ≡ fetch c a
same_fetch can c a (inl low) =
    let t : nat_lt a ARENA ≡ true = lt-ltb a ARENA low in
    rw t refl
same_fetch can c a (inr may) =
    ap (λ (state : WordState). found (if nat_lt a ARENA then from_text (text_word c a) else
    (if is_arena_word a then from_arena (fetched state (c.arena.words (arena_word a))) else Err kind.Fetch)))
    (ap (λ (b : Bool). if b then c.arena.states (arena_word a) else Unwritten) may)

rises : (a : ℕ) (is : List Instr) → a ≤ past a is
rises a [] = omega arith
rises a (i ∷ is) = let r = rises (a + 4) is in omega (arith, r)

-- code from behind the first address, up to the second
pub has_only : (lo hi : ℕ) (c : Code) (a : ℕ) (is : List Instr) → lo + 4 ≤ a → past a is ≤ hi → lo % 4 ≡ 0 → hi % 4 ≡ 0
    → a % 4 ≡ 0 → HasAt c a is → HasAt (only (between lo hi) c) a is
has_only lo hi c a [] behind before l h e has = tt
has_only lo hi c a (i ∷ is) behind before l h e has =
    let r = rises (a + 4) is in (
      same_fetch (between lo hi) c a (here (omega (arith, r, before))) ∙ has.0,
      has_only lo hi c (a + 4) is (omega (arith, behind)) before l h (omega (arith, e)) has.1,
    )
  where
    here : a + 4 ≤ hi → IsOf (between lo hi) a
    here last = elim (cases_lt a ARENA) [
      | inl low ↦ inl low
      | inr high ↦ inr (let x : nat_lt (lo / 4) (ARENA / 4 + arena_word a) ≡ true =
          lt-ltb (lo / 4) (ARENA / 4 + arena_word a) (omega (arith, high, behind, l, e)) in
          let y : nat_lt (ARENA / 4 + arena_word a) (hi / 4) ≡ true =
          lt-ltb (ARENA / 4 + arena_word a) (hi / 4) (omega (arith, high, last, h, e)) in
          ap (λ (b : Bool). b && nat_lt (ARENA / 4 + arena_word a) (hi / 4)) x ∙ y)
    ]
