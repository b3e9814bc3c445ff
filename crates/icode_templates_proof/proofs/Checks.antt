-- The checks of divisions: a branch passes over each trap, or the run ends there.
use Rattle.std.proofs.Common.{◌≡◌, ◌≢◌, inl, inr, ℕ, ◌+◌, ◌%◌, ◌<◌, ◌≤◌, true, false}
use Rattle.std.proofs.Common.{◌++◌, length, Some, None, refl, sym, ap, ◌∙◌, subst, arith, nat_eq}
use Rattle.std.specs.Fn.{iterate}
use Rattle.std.proofs.lemmas.Bool.{cases_eq, ne_eqb}
use Rattle.word32.specs.declared.map.TheConstants.{SEGMENT_BYTES}
use Rattle.pace.proofs.Runs.{iterate_add}
use Rattle.host_edge.specs.declared.ending.Ending.TheVariants.{Trap}
use Rattle.host_edge.specs.declared.ending.TrapKind.{TrapKind}
use Rattle.host_edge.specs.declared.ending.TrapKind.TheVariants.{DivideByZero, DivideOverflow}
use Rattle.history.specs.Events.{Ended}
use Rattle.mips_model.specs.State.{Outside, Code, Data, State}
use Rattle.mips_model.specs.Accesses.{Branches}
use Rattle.mips_model.specs.Effects.{effect}
use Rattle.mips_model.specs.Steps.{Is, fetch, going, ended, step}
use Rattle.mips_encoder.specs.Addresses.{past}
use Rattle.mips_model.specs.Laws.{HasAt, at, Reaches}
use Rattle.mips_model.proofs.Reach.{step_acts, reaches_on, past_append, front, back}
use Rattle.meaning_state.specs.Operators.{zero_trap}
use Rattle.mips_assembly.specs.Assembly.{bne, trap}
use Rattle.icode_templates.specs.Layout.{Spot}
use Rattle.icode_templates.specs.Templates.{in_code, trap_if_zero}
use Rattle.icode_templates_proof.specs.Spots.{pointer, value, Framed, Usable}
use Rattle.icode_templates_proof.specs.Moves.{Comes, EndsIn}
use Rattle.icode_templates_proof.specs.Laws.{ZeroChecksPass, ZeroChecksTrap}
use Rattle.icode_templates_proof.proofs.Leaves.{leaves_run, runs_within, runs_to}
use Rattle.icode_templates_proof.proofs.Operands.{one_in, in_leaves, keeps_one, load_gives, in_between}
use Rattle.icode_templates_proof.proofs.Jumps.{branch_reaches}

-- a run comes to a trap
pub ends_by : {k l m : ℕ} {s : State} (c : Code) (a : ℕ) (d : Data) (kind : TrapKind) (outside : Outside)
    → Reaches k s (at c a 0 d) → step (going (at c a 0 d)) ≡ ended (Ended (Trap kind)) (at c a 0 d)
    → d.outside ≡ outside → l ≤ k + 1 → k + 1 ≤ m → EndsIn l m (Ended (Trap kind)) s c outside
ends_by {k} {l} {m} {s} c a d kind history r e h lo hi =
    let all : iterate step (k + 1) (going s) ≡ ended (Ended (Trap kind)) (at c a 0 d) =
    iterate_add step k 1 (going s) ∙ ap step r.by ∙ e in
    record {
      count = k + 1;
      over = lo;
      under = hi;
      ending = ap (λ w. w.ending) all;
      outside_is = ap (λ w. w.state.d.outside) all ∙ h;
      code_is = ap (λ w. w.state.code) all;
    }

pub breaks_zero : (c : Code) (a : ℕ) (d : Data) → fetch c a ≡ Is (trap 7)
    → step (going (at c a 0 d)) ≡ ended (Ended (Trap DivideByZero)) (at c a 0 d)
breaks_zero c a d h = step_acts (trap 7) (at c a 0 d) h refl

pub breaks_overflow : (c : Code) (a : ℕ) (d : Data) → fetch c a ≡ Is (trap 6)
    → step (going (at c a 0 d)) ≡ ended (Ended (Trap DivideOverflow)) (at c a 0 d)
breaks_overflow c a d h = step_acts (trap 6) (at c a 0 d) h refl

-- where a branch over a trap goes
pub over_one : (a : ℕ) → a < SEGMENT_BYTES → (a + 4 + 8) % 4294967296 ≡ a + 4 + 4 + 4
over_one a h = omega arith

-- a register other than 0 is tested against 0
module _ (s code : ℕ) (c : Code) (a : ℕ) (d : Data) (n0 : nat_eq s 0 ≡ false) (low : a < SEGMENT_BYTES)
    (h : HasAt c a (trap_if_zero s code)) where
  pub other_passes : d.registers s ≢ 0 → Reaches 2 (at c a 0 d) (at c (a + 4 + 4 + 4) 0 d)
  other_passes ne =
      let e : nat_eq (d.registers s) 0 ≡ false = ne_eqb (d.registers s) 0 ne in
      let t : effect (bne s 0 2) d ≡ Branches true 2 = rw (n0, e) in
      branch_reaches (bne s 0 2) c a 2 (a + 4 + 4 + 4) true d refl refl t (over_one a low) h.0 h.1.0

  pub zero_stays : d.registers s ≡ 0 → Reaches 2 (at c a 0 d) (at c (a + 4 + 4) 0 d)
  zero_stays z =
      let t : effect (bne s 0 2) d ≡ Branches false 2 = rw (n0, z) in
      branch_reaches (bne s 0 2) c a 2 (a + 4 + 4) false d refl refl t refl h.0 h.1.0

-- the trap by 0, and none
by_none : (b : ℕ) → zero_trap b ≡ None → b ≢ 0
by_none b e z =
    let t : zero_trap b ≡ Some DivideByZero = ap zero_trap z in
    let n : ⊥ = cc in n

by_zero : (b : ℕ) (kind : TrapKind) → zero_trap b ≡ Some kind → (b ≡ 0) × (kind ≡ DivideByZero)
by_zero b kind e = elim (cases_eq b 0) [
  | inl z ↦ (let t : zero_trap b ≡ Some DivideByZero = ap zero_trap z in let k : kind ≡ DivideByZero = cc in (z, k))
  | inr ne ↦ (let t : nat_eq b 0 ≡ false = ne_eqb b 0 ne in
      let none : zero_trap b ≡ None = rw t refl in let n : ⊥ = cc in absurd n)
]

module _ (c : Code) (a bytes : ℕ) (d : Data) (v : Spot) where
  abbrev there : ℕ
  there = past a (in_code v)

  abbrev mid : Data
  mid = one_in v d

  module _ (low : past a (in_code v ++ trap_if_zero 24 7) < SEGMENT_BYTES) (f : Framed (pointer d) bytes)
      (u : Usable bytes v) (b : value d v < 4294967296) (h : HasAt c a (in_code v ++ trap_if_zero 24 7)) where
    comes_in : Reaches (length (in_code v)) (at c a 0 d) (at c there 0 mid)
    comes_in = leaves_run (in_code v) c 0 0 a d mid (in_leaves d bytes v f u b) (front c a (in_code v) _ h)

    code : HasAt c there (trap_if_zero 24 7)
    code = back c a (in_code v) (trap_if_zero 24 7) h

    ends : past a (in_code v ++ trap_if_zero 24 7) ≡ there + 4 + 4 + 4
    ends = past_append a (in_code v) (trap_if_zero 24 7)

    zero_check_passes : zero_trap (value d v) ≡ None
        → Comes 3 6 (at c a 0 d) c (past a (in_code v ++ trap_if_zero 24 7)) d
    zero_check_passes none =
        let n = in_between v in
        let ne : mid.registers 24 ≢ 0 = λ e. by_none (value d v) none (sym (load_gives 24 v d) ∙ e) in
        record {
          after = mid;
          runs = runs_to (sym ends)
              (runs_within (omega (arith, n.over)) (omega (arith, n.under))
              (reaches_on comes_in (other_passes 24 7 c there mid refl (omega (arith, low, ends)) code ne)));
          keeps = keeps_one v d;
        }

    zero_check_traps : (kind : TrapKind) → zero_trap (value d v) ≡ Some kind
        → EndsIn 4 7 (Ended (Trap kind)) (at c a 0 d) c d.outside
    zero_check_traps kind some =
        let n = in_between v in
        let z = by_zero (value d v) kind some in
        subst (λ k. EndsIn 4 7 (Ended (Trap k)) (at c a 0 d) c d.outside) (sym z.1)
        (ends_by c (there + 4 + 4) mid DivideByZero d.outside
        (reaches_on comes_in
        (zero_stays 24 7 c there mid refl (omega (arith, low, ends)) code (load_gives 24 v d ∙ z.0)))
        (breaks_zero c (there + 4 + 4) mid code.1.1.0) ((keeps_one v d).world.outside)
        (omega (arith, n.over)) (omega (arith, n.under)))

pub zero_checks_pass : ZeroChecksPass
zero_checks_pass c a bytes d v low f u b none h = zero_check_passes c a bytes d v low f u b h none

pub zero_checks_trap : ZeroChecksTrap
zero_checks_trap c a bytes d v kind low f u b some h = zero_check_traps c a bytes d v low f u b h kind some
