-- The check of a signed division: a trap by 0, and one where no word holds the quotient.
use Rattle.std.proofs.Common.{◌≡◌, ◌≢◌, inl, inr, ℕ, ◌+◌, ◌%◌, ◌<◌, ◌≤◌, Bool, true, false, ◌==◌, List, [], ◌∷◌}
use Rattle.std.proofs.Common.{◌++◌, length, Some, None, refl, sym, ap, ◌∙◌, subst, arith, nat_eq}
use Rattle.std.proofs.lemmas.Bool.{cases_eq, ne_eqb, eq-eqb}
use Rattle.word32.specs.declared.map.TheConstants.{SEGMENT_BYTES}
use Rattle.word32.specs.Space.{update}
use Rattle.host_edge.specs.declared.ending.Ending.TheVariants.{Trap}
use Rattle.host_edge.specs.declared.ending.TrapKind.{TrapKind}
use Rattle.host_edge.specs.declared.ending.TrapKind.TheVariants.{DivideByZero, DivideOverflow}
use Rattle.history.specs.Events.{Ended}
use Rattle.mips_encoder.specs.declared.instruction.Instr.{Instr}
use Rattle.mips_encoder.specs.Addresses.{past}
use Rattle.mips_model.specs.State.{Code, Data}
use Rattle.mips_model.specs.Accesses.{Branches}
use Rattle.mips_model.specs.Effects.{effect}
use Rattle.mips_model.specs.Steps.{Is, fetch, going, apply, is_hazard, recent_behind, step, branch_target}
use Rattle.mips_model.specs.Laws.{HasAt, at, Reaches}
use Rattle.mips_model.proofs.Reach.{step_acts, reaches_on, past_append, front, back}
use Rattle.meaning_state.specs.Operators.{signed_trap}
use Rattle.mips_assembly.specs.Assembly.{addiu, bne, lui, nop, trap}
use Rattle.icode_templates.specs.Layout.{Spot}
use Rattle.icode_templates.specs.Templates.{in_two_code, trap_if_zero, division_check}
use Rattle.icode_templates_proof.specs.Spots.{pointer, value, Framed, Usable, KeepsSpots}
use Rattle.icode_templates_proof.specs.Moves.{Comes, EndsIn}
use Rattle.icode_templates_proof.specs.Laws.{DivisionChecksPass, DivisionChecksTrap}
use Rattle.icode_templates_proof.proofs.Leaves.{leaves_run, runs_within, runs_to}
use Rattle.icode_templates_proof.proofs.Keeping.{with_registers, keeps_on, keeps_write, not_1}
use Rattle.icode_templates_proof.proofs.Operands.{two_in, in_two_leaves, keeps_two, first_given, second_given}
use Rattle.icode_templates_proof.proofs.Operands.{in_two_between}
use Rattle.icode_templates_proof.proofs.Jumps.{in_slot, branch_reaches}
use Rattle.icode_templates_proof.proofs.Checks.{ends_by, breaks_zero, breaks_overflow, over_one, other_passes}
use Rattle.icode_templates_proof.proofs.Checks.{zero_stays}

-- where no quotient is, by the words
pub record Divides (a b : ℕ) : Type 0 where
  pub some : b ≢ 0
  pub fits : (a ≡ 2147483648) × (b ≡ 4294967295) → ⊥

trapped : (a b : ℕ) → (b ≡ 0) → signed_trap a b ≡ Some DivideByZero
trapped a b z = let t : (b == 0) ≡ true = eq-eqb b 0 z in rw t refl

overflowing : (a b : ℕ) → (a ≡ 2147483648) → (b ≡ 4294967295) → signed_trap a b ≡ Some DivideOverflow
overflowing a b x y = ap (λ k. signed_trap k b) x ∙ ap (signed_trap 2147483648) y

untrapped : (a b : ℕ) → Divides a b → signed_trap a b ≡ None
untrapped a b d = let t : (b == 0) ≡ false = ne_eqb b 0 d.some in elim (cases_eq a 2147483648) [
  | inl x ↦ let y : b ≢ 4294967295 = λ e. d.fits (x, e) in
      let s : (b == 4294967295) ≡ false = ne_eqb b 4294967295 y in
      let r : (a == 2147483648) ≡ true = eq-eqb a 2147483648 x in rw (t, r, s) refl
  | inr n ↦ let r : (a == 2147483648) ≡ false = ne_eqb a 2147483648 n in rw (t, r) refl
]

-- the least signed number comes to $at in a branch's slot
abbrev high_set : Data → Data
high_set d = with_registers (update 1 2147483648 d.registers) d

branch_sets : (i : Instr) (c : Code) (a offset target : ℕ) (taken : Bool) (d : Data) →
    is_hazard i (at c a 0 d) ≡ false → recent_behind i 0 ≡ 0 → effect i d ≡ Branches taken offset →
    branch_target taken offset (at c a 0 d) ≡ target → fetch c a ≡ Is i → fetch c (a + 4) ≡ Is (lui 1 32768)
    → Reaches 2 (at c a 0 d) (at c target 0 (high_set d))
branch_sets i c a offset target taken d quiet rec does goes h slot =
    let s = at c a 0 d in
    let first : step (going s) ≡ going (in_slot c a target d) =
    step_acts i s h quiet ∙ ap (λ e. apply e (recent_behind i 0) s) does ∙
    ap (λ r. apply (Branches taken offset) r s) rec ∙ ap (λ t. going (in_slot c a t d)) goes in
    record { by = ap step first ∙ step_acts (lui 1 32768) (in_slot c a target d) slot refl }

-- where a branch over four instructions goes
over_four : (a : ℕ) → a < SEGMENT_BYTES → (a + 4 + 16) % 4294967296 ≡ a + 4 + 4 + 4 + 4 + 4
over_four a h = omega arith

abbrev ones : Data → Data
ones d = with_registers (update 1 4294967295 d.registers) d

-- behind the test of the divisor against 0
abbrev second_check : List Instr
second_check = addiu 1 0 65535 ∷ bne 25 1 4 ∷ lui 1 32768 ∷ bne 24 1 2 ∷ nop ∷ trap 6 ∷ []

module _ (c : Code) (a : ℕ) (d : Data) (low : a + 24 < SEGMENT_BYTES) (h : HasAt c a second_check) where
  ones_in : Reaches 1 (at c a 0 d) (at c (a + 4) 0 (ones d))
  ones_in = leaves_run (addiu 1 0 65535 ∷ []) c 0 0 a d (ones d) (λ rest. refl) (h.0, tt)

  -- another divisor than -1
  pub other_divisor : d.registers 25 ≢ 4294967295
      → Reaches 3 (at c a 0 d) (at c (a + 4 + 4 + 4 + 4 + 4 + 4) 0 (high_set (ones d)))
  other_divisor ne =
      let e : nat_eq (d.registers 25) 4294967295 ≡ false = ne_eqb (d.registers 25) 4294967295 ne in
      let t : effect (bne 25 1 4) (ones d) ≡ Branches true 4 = rw e refl in
      reaches_on ones_in
      (branch_sets (bne 25 1 4) c (a + 4) 4 (a + 4 + 4 + 4 + 4 + 4 + 4) true (ones d) refl refl t
      (over_four (a + 4) (omega (arith, low))) h.1.0 h.1.1.0)

  least_in : d.registers 25 ≡ 4294967295 → Reaches 3 (at c a 0 d) (at c (a + 4 + 4 + 4) 0 (high_set (ones d)))
  least_in e =
      let t : effect (bne 25 1 4) (ones d) ≡ Branches false 4 = rw e refl in
      reaches_on ones_in
      (branch_sets (bne 25 1 4) c (a + 4) 4 (a + 4 + 4 + 4) false (ones d) refl refl t refl h.1.0 h.1.1.0)

  pub other_dividend : d.registers 25 ≡ 4294967295 → d.registers 24 ≢ 2147483648
      → Reaches 5 (at c a 0 d) (at c (a + 4 + 4 + 4 + 4 + 4 + 4) 0 (high_set (ones d)))
  other_dividend z ne =
      let e : nat_eq (d.registers 24) 2147483648 ≡ false = ne_eqb (d.registers 24) 2147483648 ne in
      let t : effect (bne 24 1 2) (high_set (ones d)) ≡ Branches true 2 = rw e refl in
      reaches_on (least_in z)
      (branch_reaches (bne 24 1 2) c (a + 4 + 4 + 4) 2 (a + 4 + 4 + 4 + 4 + 4 + 4) true (high_set (ones d)) refl refl t
      (over_one (a + 4 + 4 + 4) (omega (arith, low))) h.1.1.1.0 h.1.1.1.1.0)

  pub overflows : d.registers 25 ≡ 4294967295 → d.registers 24 ≡ 2147483648
      → Reaches 5 (at c a 0 d) (at c (a + 4 + 4 + 4 + 4 + 4) 0 (high_set (ones d)))
  overflows z e =
      let t : effect (bne 24 1 2) (high_set (ones d)) ≡ Branches false 2 = rw e refl in
      reaches_on (least_in z)
      (branch_reaches (bne 24 1 2) c (a + 4 + 4 + 4) 2 (a + 4 + 4 + 4 + 4 + 4) false (high_set (ones d)) refl refl t
      refl h.1.1.1.0 h.1.1.1.1.0)

scratch_kept : (d : Data) → KeepsSpots d (high_set (ones d))
scratch_kept d = keeps_on (keeps_write 1 4294967295 d not_1) (keeps_write 1 2147483648 (ones d) not_1)

module _ (c : Code) (a bytes : ℕ) (d : Data) (v z : Spot)
    (low : past a (in_two_code v z ++ division_check) < SEGMENT_BYTES) (f : Framed (pointer d) bytes)
    (uv : Usable bytes v) (uz : Usable bytes z) (bv : value d v < 4294967296) (bz : value d z < 4294967296)
    (h : HasAt c a (in_two_code v z ++ division_check)) where
  abbrev there : ℕ
  there = past a (in_two_code v z)

  abbrev behind_zero : ℕ
  behind_zero = there + 4 + 4 + 4

  abbrev mid : Data
  mid = two_in v z d

  left_is : mid.registers 24 ≡ value d v
  left_is = first_given v z d

  right_is : mid.registers 25 ≡ value d z
  right_is = second_given bytes v z d uz

  comes_in : Reaches (length (in_two_code v z)) (at c a 0 d) (at c there 0 mid)
  comes_in = leaves_run (in_two_code v z) c 0 0 a d mid (in_two_leaves d bytes v z f uv uz bv bz)
      (front c a (in_two_code v z) _ h)

  code : HasAt c there (trap_if_zero 25 7 ++ second_check)
  code = back c a (in_two_code v z) division_check h

  ends : past a (in_two_code v z ++ division_check) ≡ behind_zero + 4 + 4 + 4 + 4 + 4 + 4
  ends = past_append a (in_two_code v z) division_check

  first_code : HasAt c there (trap_if_zero 25 7)
  first_code = (code.0, (code.1.0, (code.1.1.0, tt)))

  -- the divisor is not 0
  second_at : value d z ≢ 0 → Reaches (length (in_two_code v z) + 2) (at c a 0 d) (at c behind_zero 0 mid)
  second_at ne =
      reaches_on comes_in
      (other_passes 25 7 c there mid refl (omega (arith, low, ends)) first_code (λ e. ne (sym right_is ∙ e)))

  passes : (k : ℕ) → k ≤ 5 → 3 ≤ k → value d z ≢ 0
      → Reaches k (at c behind_zero 0 mid) (at c (behind_zero + 4 + 4 + 4 + 4 + 4 + 4) 0 (high_set (ones mid)))
      → Comes 7 14 (at c a 0 d) c (past a (in_two_code v z ++ division_check)) d
  passes k hi lo ne go =
      let n = in_two_between v z in
      record {
        after = high_set (ones mid);
        runs = runs_to (sym ends)
            (runs_within (omega (arith, n.over, lo)) (omega (arith, n.under, hi)) (reaches_on (second_at ne) go));
        keeps = keeps_on (keeps_two v z d) (scratch_kept mid);
      }

  pub division_check_passes : Divides (value d v) (value d z)
      → Comes 7 14 (at c a 0 d) c (past a (in_two_code v z ++ division_check)) d
  division_check_passes q = elim (cases_eq (value d z) 4294967295) [
    | inl e ↦ passes 5 (omega arith) (omega arith) q.some
        (other_dividend c behind_zero mid (omega (arith, low, ends)) code.1.1.1 (right_is ∙ e)
        (λ x. q.fits (sym left_is ∙ x, e)))
    | inr ne ↦ passes 3 (omega arith) (omega arith) q.some
        (other_divisor c behind_zero mid (omega (arith, low, ends)) code.1.1.1 (λ x. ne (sym right_is ∙ x)))
  ]

  abbrev Ends : TrapKind → Type 0
  Ends kind = EndsIn 5 15 (Ended (Trap kind)) (at c a 0 d) c d.outside

  zero_traps : value d z ≡ 0 → Ends DivideByZero
  zero_traps e =
      let n = in_two_between v z in
      ends_by c (there + 4 + 4) mid DivideByZero d.outside
      (reaches_on comes_in (zero_stays 25 7 c there mid refl (omega (arith, low, ends)) first_code (right_is ∙ e)))
      (breaks_zero c (there + 4 + 4) mid code.1.1.0) ((keeps_two v z d).world.outside)
      (omega (arith, n.over)) (omega (arith, n.under))

  overflow_traps : value d v ≡ 2147483648 → value d z ≡ 4294967295 → Ends DivideOverflow
  overflow_traps x y =
      let n = in_two_between v z in
      let kept = keeps_on (keeps_two v z d) (scratch_kept mid) in
      ends_by c (behind_zero + 4 + 4 + 4 + 4 + 4) (high_set (ones mid)) DivideOverflow d.outside
      (reaches_on (second_at (λ e. absurd (omega (arith, e, y))))
      (overflows c behind_zero mid (omega (arith, low, ends)) code.1.1.1 (right_is ∙ y) (left_is ∙ x)))
      (breaks_overflow c (behind_zero + 4 + 4 + 4 + 4 + 4) (high_set (ones mid)) code.1.1.1.1.1.1.1.1.0)
      (kept.world.outside) (omega (arith, n.over)) (omega (arith, n.under))

-- by the trap of a signed division
pub divides : (a b : ℕ) → signed_trap a b ≡ None → Divides a b
divides a b none = record {
  some = λ z. (let t = trapped a b z in let n : ⊥ = cc in n);
  fits = λ p. (let t = overflowing a b p.0 p.1 in let n : ⊥ = cc in n);
}

pub division_checks_pass : DivisionChecksPass
division_checks_pass c a bytes d v z low f uv uz bv bz none h =
    division_check_passes c a bytes d v z low f uv uz bv bz h (divides (value d v) (value d z) none)

pub division_checks_trap : DivisionChecksTrap
division_checks_trap c a bytes d v z kind low f uv uz bv bz some h = elim (cases_eq (value d z) 0) [
  | inl e ↦ (let t = trapped (value d v) (value d z) e in let k : kind ≡ DivideByZero = cc in
      subst (λ k. EndsIn 5 15 (Ended (Trap k)) (at c a 0 d) c d.outside) (sym k)
      (zero_traps c a bytes d v z low f uv uz bv bz h e))
  | inr ne ↦ elim (cases_eq (value d z) 4294967295) [
    | inl y ↦ elim (cases_eq (value d v) 2147483648) [
      | inl x ↦ (let t = overflowing (value d v) (value d z) x y in let k : kind ≡ DivideOverflow = cc in
          subst (λ k. EndsIn 5 15 (Ended (Trap k)) (at c a 0 d) c d.outside) (sym k)
          (overflow_traps c a bytes d v z low f uv uz bv bz h x y))
      | inr m ↦ (let t = untrapped (value d v) (value d z) (record { some = ne; fits = λ p. m p.0 }) in
          let n : ⊥ = cc in absurd n)
    ]
    | inr m ↦ (let t = untrapped (value d v) (value d z) (record { some = ne; fits = λ p. m p.1 }) in
        let n : ⊥ = cc in absurd n)
  ]
]
