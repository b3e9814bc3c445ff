-- What the instructions of an operator on one word do with $t8.
use Rattle.std.proofs.Common.{◌≡◌, ℕ, ◌+◌, ◌-◌, ◌*◌, ◌/◌, ◌%◌, ◌<◌, inl, inr, true, false, ◌++◌, refl, sym, ap}
use Rattle.std.proofs.Common.{◌∙◌, arith, append_assoc, nat_eq, nat_lt, bit_and, bit_or}
use Rattle.std.proofs.lemmas.Bool.{cases_eq, cases_lt, ne_eqb}
use Rattle.std.proofs.lemmas.Bool.Decides.{nat_tests}
use Rattle.std.specs.Int.Bits.{or_zero_r}
use Rattle.std.proofs.lemmas.Nat.{and_mask}
use Rattle.word32.specs.Words.{difference, shifted_left, shifted_right_signed, sext8, sext16}
use Rattle.mips_model.specs.State.{Data}
use Rattle.mips_model.specs.Arithmetic.{bit}
use Rattle.icode_ops.specs.declared.kind.UnKind.{UnKind}
use Rattle.icode_ops.specs.declared.kind.UnKind.TheVariants as un
use Rattle.meaning_state.specs.Operators.{un_value, truth}
use Rattle.icode_templates.specs.Templates.{in_code, out_code, un_core}
use Rattle.icode_templates_proof.specs.Spots.{value}
use Rattle.icode_templates_proof.specs.Laws.{OperatorsAreAppliedToOne}
use Rattle.icode_templates_proof.proofs.Leaves.{leaves_on}
use Rattle.icode_templates_proof.proofs.Keeping.{keeps_on}
use Rattle.icode_templates_proof.proofs.Operands.{one_in, in_leaves, keeps_one, load_gives, Between, between_on}
use Rattle.icode_templates_proof.proofs.Operands.{in_between}
use Rattle.icode_templates_proof.proofs.Operators.{Core, by_one, by_two, truth_range}
use Rattle.icode_templates_proof.proofs.Templates.{finish}

is_none : (a : ℕ) → bit (nat_lt a 1) ≡ truth (nat_eq a 0)
is_none a = elim (cases_eq a 0) [
  | inl e ↦ rw e refl
  | inr ne ↦ let t : nat_eq a 0 ≡ false = ne_eqb a 0 ne in let f : nat_lt a 1 ≡ false = grind (arith, nat_tests, ne) in
      rw (t, f) refl
]

-- a byte, or two, shifted up and down again
byte_shifted : (a : ℕ) → shifted_right_signed (shifted_left a 24) 24 ≡ sext8 a
byte_shifted a = elim (cases_lt (a % 256) 128) [
  | inl l ↦ let t : nat_lt (a % 256) 128 ≡ true = grind (arith, nat_tests) in
      let u : nat_lt ((a * 16777216) % 4294967296) 2147483648 ≡ true = grind (arith, nat_tests, l) in
      let v : (a * 16777216) % 4294967296 / 16777216 ≡ a % 256 = omega arith in rw (t, u, v) refl
  | inr g ↦ let t : nat_lt (a % 256) 128 ≡ false = grind (arith, nat_tests) in
      let u : nat_lt ((a * 16777216) % 4294967296) 2147483648 ≡ false = grind (arith, nat_tests, g) in
      let v : 4294967295 - (4294967295 - (a * 16777216) % 4294967296) / 16777216 ≡ a % 256 + 4294967040 =
      omega (arith, g) in rw (t, u, v) refl
]

half_shifted : (a : ℕ) → shifted_right_signed (shifted_left a 16) 16 ≡ sext16 a
half_shifted a = elim (cases_lt (a % 65536) 32768) [
  | inl l ↦ let t : nat_lt (a % 65536) 32768 ≡ true = grind (arith, nat_tests) in
      let u : nat_lt ((a * 65536) % 4294967296) 2147483648 ≡ true = grind (arith, nat_tests, l) in
      let v : (a * 65536) % 4294967296 / 65536 ≡ a % 65536 = omega arith in rw (t, u, v) refl
  | inr g ↦ let t : nat_lt (a % 65536) 32768 ≡ false = grind (arith, nat_tests) in
      let u : nat_lt ((a * 65536) % 4294967296) 2147483648 ≡ false = grind (arith, nat_tests, g) in
      let v : 4294967295 - (4294967295 - (a * 65536) % 4294967296) / 65536 ≡ a % 65536 + 4294901760 =
      omega (arith, g) in rw (t, u, v) refl
]

-- an operator on one word leaves its value in $t8, and keeps all spots
pub core_of_one : (kind : UnKind) (d : Data) → Core (un_core kind) (un_value kind (d.registers 24)) d
core_of_one un.Negate d = by_one (difference 0 (d.registers 24)) _ d (λ rest. refl) refl
core_of_one un.Complement d =
    by_one (4294967295 - bit_or (d.registers 24) 0) _ d (λ rest. refl)
    (ap (λ x. 4294967295 - x) (or_zero_r (d.registers 24)))
core_of_one un.IsZero d = by_one (bit (nat_lt (d.registers 24) 1)) _ d (λ rest. refl) (is_none (d.registers 24))
core_of_one un.SignedByte d =
    let x = shifted_left (d.registers 24) 24 in
    by_two x (shifted_right_signed x 24) _ d (λ rest. refl) (byte_shifted (d.registers 24))
core_of_one un.Byte d = by_one (bit_and (d.registers 24) 255) _ d (λ rest. refl) (and_mask (d.registers 24) 8)
core_of_one un.SignedHalf d =
    let x = shifted_left (d.registers 24) 16 in
    by_two x (shifted_right_signed x 16) _ d (λ rest. refl) (half_shifted (d.registers 24))
core_of_one un.Half d = by_one (bit_and (d.registers 24) 65535) _ d (λ rest. refl) (and_mask (d.registers 24) 16)

core_one_between : (kind : UnKind) → Between 1 (un_core kind) 2
core_one_between un.Negate = record { over = omega arith; under = omega arith }
core_one_between un.Complement = record { over = omega arith; under = omega arith }
core_one_between un.IsZero = record { over = omega arith; under = omega arith }
core_one_between un.SignedByte = record { over = omega arith; under = omega arith }
core_one_between un.Byte = record { over = omega arith; under = omega arith }
core_one_between un.SignedHalf = record { over = omega arith; under = omega arith }
core_one_between un.Half = record { over = omega arith; under = omega arith }

sext8_range : (a : ℕ) → sext8 a < 4294967296
sext8_range a = elim (cases_lt (a % 256) 128) [
  | inl l ↦ let t : nat_lt (a % 256) 128 ≡ true = grind (arith, nat_tests) in rw t (omega arith)
  | inr g ↦ let t : nat_lt (a % 256) 128 ≡ false = grind (arith, nat_tests) in rw t (omega arith)
]

sext16_range : (a : ℕ) → sext16 a < 4294967296
sext16_range a = elim (cases_lt (a % 65536) 32768) [
  | inl l ↦ let t : nat_lt (a % 65536) 32768 ≡ true = grind (arith, nat_tests) in rw t (omega arith)
  | inr g ↦ let t : nat_lt (a % 65536) 32768 ≡ false = grind (arith, nat_tests) in rw t (omega arith)
]

-- and it gives a word
pub un_range : (kind : UnKind) (a : ℕ) → un_value kind a < 4294967296
un_range un.Negate a = omega arith
un_range un.Complement a = omega arith
un_range un.IsZero a = truth_range (nat_eq a 0)
un_range un.SignedByte a = sext8_range a
un_range un.Byte a = omega arith
un_range un.SignedHalf a = sext16_range a
un_range un.Half a = omega arith

-- an operand, an operator and a result
pub un_writes : OperatorsAreAppliedToOne
un_writes kind c a bytes d w v f u uv b h =
    let mid = one_in v d in
    let core = core_of_one kind mid in
    let is = in_code v ++ un_core kind in
    let e : core.after.registers 24 ≡ un_value kind (value d v) =
    core.result ∙ ap (un_value kind) (load_gives 24 v d) in
    finish (in_code v ++ (un_core kind ++ out_code w)) is 2 6 c a bytes d d core.after w (un_value kind (value d v))
    (sym (append_assoc (in_code v) (un_core kind) (out_code w))) f u (un_range kind (value d v))
    (between_on (in_code v) (un_core kind) (in_between v) (core_one_between kind))
    (leaves_on (in_code v) (un_core kind) 0 0 0 d mid core.after (in_leaves d bytes v f uv b) core.leaves)
    (keeps_on (keeps_one v d) core.keeps) e h
