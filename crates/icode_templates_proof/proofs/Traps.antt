-- When an access traps, and in which region it lies when it doesn't.
use Rattle.std.proofs.Common.{◌≡◌, ◌≢◌, inl, inr, ℕ, ◌/◌, Bool, true, false, Option, Some, None, refl, sym}
use Rattle.std.proofs.Common.{ap, ◌∙◌, if◌then◌else◌}
use Rattle.std.proofs.lemmas.Bool.{cases_eq, ne_eqb, eq-eqb}
use Rattle.word32.specs.Parts.{is_aligned}
use Rattle.word32.specs.declared.width.Width.{Width}
use Rattle.host_edge.specs.declared.ending.TrapKind.{TrapKind}
use Rattle.host_edge.specs.declared.ending.TrapKind.TheVariants.{Range, Misaligned}
use Rattle.meaning_state.specs.Shared.{access_trap}

-- the access is an object's, and aligned
pub record Passes (at : ℕ) (kind : Width) : Type 0 where
  pub inside : at / 16777216 ≡ 16
  pub even : is_aligned at kind ≡ true

-- the trap by the two tests
abbrev trap_by : Bool → Bool → Option TrapKind
trap_by inside even = if inside then (if even then None else Some Misaligned) else Some Range

by_inside : (at : ℕ) (kind : Width) → at / 16777216 ≡ 16 → access_trap at kind ≡ trap_by true (is_aligned at kind)
by_inside at kind e = ap (λ b. trap_by b (is_aligned at kind)) (eq-eqb (at / 16777216) 16 e)

by_outside : (at : ℕ) (kind : Width) → at / 16777216 ≢ 16 → access_trap at kind ≡ Some Range
by_outside at kind ne = ap (λ b. trap_by b (is_aligned at kind)) (ne_eqb (at / 16777216) 16 ne)

no_trap : (b : Bool) → trap_by true b ≡ None → b ≡ true
no_trap true e = refl
no_trap false e = let x : ⊥ = cc in absurd x

pub passes : (at : ℕ) (kind : Width) → access_trap at kind ≡ None → Passes at kind
passes at kind e = elim (cases_eq (at / 16777216) 16) [
  | inl i ↦ record { inside = i; even = no_trap (is_aligned at kind) (sym (by_inside at kind i) ∙ e) }
  | inr ne ↦ (let z : Some Range ≡ None = sym (by_outside at kind ne) ∙ e in let x : ⊥ = cc in absurd x)
]

-- it isn't an object's, or it isn't aligned
pub data Trapping (at : ℕ) (kind : Width) (trap : TrapKind) : Type 0 where
  Outside : at / 16777216 ≢ 16 → trap ≡ Range → Trapping at kind trap
  Odd : at / 16777216 ≡ 16 → is_aligned at kind ≡ false → trap ≡ Misaligned → Trapping at kind trap

a_trap : (b : Bool) (trap : TrapKind) → trap_by true b ≡ Some trap → (b ≡ false) × (trap ≡ Misaligned)
a_trap true trap e = let x : ⊥ = cc in absurd x
a_trap false trap e = (refl, cc)

pub traps : (at : ℕ) (kind : Width) (trap : TrapKind) → access_trap at kind ≡ Some trap → Trapping at kind trap
traps at kind trap e = elim (cases_eq (at / 16777216) 16) [
  | inl i ↦ (let z = a_trap (is_aligned at kind) trap (sym (by_inside at kind i) ∙ e) in Odd i z.0 z.1)
  | inr ne ↦ (let z : Some Range ≡ Some trap = sym (by_outside at kind ne) ∙ e in Outside ne cc)
]
