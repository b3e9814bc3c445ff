-- What the instructions of an operator do with $t8 and $t9.
use Rattle.std.proofs.Common.{◌≡◌, ◌≢◌, inl, inr, ℕ, ◌/◌, ◌%◌, ◌<◌, ◌^◌, Bool, true, false, not, List, refl, sym, ap}
use Rattle.std.proofs.Common.{◌∙◌, arith, nat_eq, nat_lt, bit_and, bit_or, bit_xor, ◌-◌, if◌then◌else◌}
use Rattle.std.proofs.Common.{ℤ, pos, negsuc, int_div, int_rem}
use Rattle.std.proofs.lemmas.Bool.{cases_eq, cases_lt, ne_eqb, eq-eqb}
use Rattle.std.proofs.lemmas.Bool.Decides.{nat_tests}
use Rattle.std.proofs.lemmas.Nat.{or_of_32, xor_of_32, and_le_l, and_le_r}
use Rattle.std.proofs.Math.Nat.{div-le_self, mod-le}
use Rattle.std.specs.Int.Bits.{xor_add_and, xor_self}
use Rattle.word32.specs.Words.{sum, difference, is_less_signed, shifted_left, shifted_right, shifted_right_signed}
use Rattle.word32.specs.Words.{signed, word_of}
use Rattle.word32.specs.Space.{update}
use Rattle.mips_encoder.specs.declared.instruction.Instr.{Instr}
use Rattle.mips_model.specs.State.{Data}
use Rattle.mips_model.specs.Arithmetic.{bit}
use Rattle.icode_ops.specs.declared.kind.BinKind.{BinKind}
use Rattle.icode_ops.specs.declared.kind.BinKind.TheVariants as bin
use Rattle.meaning_state.specs.Operators.{bin_value, truth}
use Rattle.icode_templates.specs.Templates.{bin_core}
use Rattle.icode_templates_proof.specs.Spots.{KeepsSpots}
use Rattle.icode_templates_proof.proofs.Leaves.{Leaves}
use Rattle.icode_templates_proof.proofs.Keeping.{with_registers, keeps_on, keeps_write, not_24}
use Rattle.icode_templates_proof.proofs.Operands.{Between}

-- the kinds that use neither HI nor LO
abbrev pub IsStraight : BinKind → Type 0
IsStraight bin.Multiply = ⊥
IsStraight bin.DivideSigned = ⊥
IsStraight bin.DivideUnsigned = ⊥
IsStraight bin.RemainderSigned = ⊥
IsStraight bin.RemainderUnsigned = ⊥
IsStraight kind = Unit {0}

-- the operator's instructions leave its value in $t8, and keep all spots
pub record Core (is : List Instr) (x : ℕ) (d : Data) : Type 0 where
  pub after : Data
  pub leaves : Leaves is 0 d 0 after
  pub keeps : KeepsSpots d after
  pub result : after.registers 24 ≡ x

-- $t8 was written, once and twice
abbrev one : ℕ → Data → Data
one v d = with_registers (update 24 v d.registers) d

abbrev two : ℕ → ℕ → Data → Data
two v v' d = with_registers (update 24 v' (update 24 v d.registers)) d

keeps_t8 : (v : ℕ) (d : Data) → KeepsSpots d (one v d)
keeps_t8 v d = keeps_write 24 v d not_24

keeps_t8_twice : (v v' : ℕ) (d : Data) → KeepsSpots d (two v v' d)
keeps_t8_twice v v' d = keeps_on (keeps_t8 v d) (keeps_write 24 v' (one v d) not_24)

bit_truth : (b : Bool) → bit b ≡ truth b
bit_truth true = refl
bit_truth false = refl

bit_turned : (b : Bool) → bit_xor (bit b) 1 ≡ truth (not b)
bit_turned true = refl
bit_turned false = refl

xor_none : (a b : ℕ) → bit_xor a b ≡ 0 → a ≡ b
xor_none a b e = let s = xor_add_and a b in let l = and_le_l a b in let r = and_le_r a b in omega (arith, e, s, l, r)

is_equal : (a b : ℕ) → bit (nat_lt (bit_xor a b) 1) ≡ truth (nat_eq a b)
is_equal a b = elim (cases_eq a b) [
  | inl e ↦ let t : nat_eq a b ≡ true = eq-eqb a b e in let x : bit_xor a b ≡ 0 = ap (bit_xor a) (sym e) ∙ xor_self a in
      rw (t, x) refl
  | inr ne ↦ let t : nat_eq a b ≡ false = ne_eqb a b ne in let x : bit_xor a b ≢ 0 = λ e. ne (xor_none a b e) in
      let f : nat_lt (bit_xor a b) 1 ≡ false = grind (arith, nat_tests, x) in rw (t, f) refl
]

is_unequal : (a b : ℕ) → bit (nat_lt 0 (bit_xor a b)) ≡ truth (not (nat_eq a b))
is_unequal a b = elim (cases_eq a b) [
  | inl e ↦ let t : nat_eq a b ≡ true = eq-eqb a b e in let x : bit_xor a b ≡ 0 = ap (bit_xor a) (sym e) ∙ xor_self a in
      rw (t, x) refl
  | inr ne ↦ let t : nat_eq a b ≡ false = ne_eqb a b ne in let x : bit_xor a b ≢ 0 = λ e. ne (xor_none a b e) in
      let f : nat_lt 0 (bit_xor a b) ≡ true = grind (arith, nat_tests, x) in rw (t, f) refl
]

-- a value is computed by one instruction, or by two
pub by_one : {is : List Instr} (v x : ℕ) (d : Data) → Leaves is 0 d 0 (one v d) → v ≡ x → Core is x d
by_one v x d leaves e = record { after = one v d; leaves = leaves; keeps = keeps_t8 v d; result = e }

pub by_two : {is : List Instr} (v v' x : ℕ) (d : Data) → Leaves is 0 d 0 (two v v' d) → v' ≡ x → Core is x d
by_two v v' x d leaves e = record { after = two v v' d; leaves = leaves; keeps = keeps_t8_twice v v' d; result = e }

pub core_of : (kind : BinKind) (d : Data) → IsStraight kind →
    Core (bin_core kind) (bin_value kind (d.registers 24) (d.registers 25)) d
core_of bin.Add d s = by_one (sum (d.registers 24) (d.registers 25)) _ d (λ rest. refl) refl
core_of bin.Subtract d s = by_one (difference (d.registers 24) (d.registers 25)) _ d (λ rest. refl) refl
core_of bin.Multiply d s = absurd s
core_of bin.DivideSigned d s = absurd s
core_of bin.DivideUnsigned d s = absurd s
core_of bin.RemainderSigned d s = absurd s
core_of bin.RemainderUnsigned d s = absurd s
core_of bin.And d s = by_one (bit_and (d.registers 24) (d.registers 25)) _ d (λ rest. refl) refl
core_of bin.Or d s = by_one (bit_or (d.registers 24) (d.registers 25)) _ d (λ rest. refl) refl
core_of bin.Xor d s = by_one (bit_xor (d.registers 24) (d.registers 25)) _ d (λ rest. refl) refl
core_of bin.ShiftLeft d s = by_one (shifted_left (d.registers 24) (d.registers 25)) _ d (λ rest. refl) refl
core_of bin.ShiftRightSigned d s =
    by_one (shifted_right_signed (d.registers 24) (d.registers 25)) _ d (λ rest. refl) refl
core_of bin.ShiftRightUnsigned d s = by_one (shifted_right (d.registers 24) (d.registers 25)) _ d (λ rest. refl) refl
core_of bin.Equal d s =
    let v = bit_xor (d.registers 24) (d.registers 25) in
    by_two v (bit (nat_lt v 1)) _ d (λ rest. refl) (is_equal (d.registers 24) (d.registers 25))
core_of bin.NotEqual d s =
    let v = bit_xor (d.registers 24) (d.registers 25) in
    by_two v (bit (nat_lt 0 v)) _ d (λ rest. refl) (is_unequal (d.registers 24) (d.registers 25))
core_of bin.LessSigned d s =
    let b = is_less_signed (d.registers 24) (d.registers 25) in by_one (bit b) _ d (λ rest. refl) (bit_truth b)
core_of bin.LessUnsigned d s =
    let b = nat_lt (d.registers 24) (d.registers 25) in by_one (bit b) _ d (λ rest. refl) (bit_truth b)
core_of bin.LessOrEqualSigned d s =
    let b = is_less_signed (d.registers 25) (d.registers 24) in
    by_two (bit b) (bit_xor (bit b) 1) _ d (λ rest. refl) (bit_turned b)
core_of bin.LessOrEqualUnsigned d s =
    let b = nat_lt (d.registers 25) (d.registers 24) in
    by_two (bit b) (bit_xor (bit b) 1) _ d (λ rest. refl) (bit_turned b)
core_of bin.GreaterSigned d s =
    let b = is_less_signed (d.registers 25) (d.registers 24) in by_one (bit b) _ d (λ rest. refl) (bit_truth b)
core_of bin.GreaterUnsigned d s =
    let b = nat_lt (d.registers 25) (d.registers 24) in by_one (bit b) _ d (λ rest. refl) (bit_truth b)
core_of bin.GreaterOrEqualSigned d s =
    let b = is_less_signed (d.registers 24) (d.registers 25) in
    by_two (bit b) (bit_xor (bit b) 1) _ d (λ rest. refl) (bit_turned b)
core_of bin.GreaterOrEqualUnsigned d s =
    let b = nat_lt (d.registers 24) (d.registers 25) in
    by_two (bit b) (bit_xor (bit b) 1) _ d (λ rest. refl) (bit_turned b)

pub core_between : (kind : BinKind) → Between 1 (bin_core kind) 2
core_between bin.Add = record { over = omega arith; under = omega arith }
core_between bin.Subtract = record { over = omega arith; under = omega arith }
core_between bin.Multiply = record { over = omega arith; under = omega arith }
core_between bin.DivideSigned = record { over = omega arith; under = omega arith }
core_between bin.DivideUnsigned = record { over = omega arith; under = omega arith }
core_between bin.RemainderSigned = record { over = omega arith; under = omega arith }
core_between bin.RemainderUnsigned = record { over = omega arith; under = omega arith }
core_between bin.And = record { over = omega arith; under = omega arith }
core_between bin.Or = record { over = omega arith; under = omega arith }
core_between bin.Xor = record { over = omega arith; under = omega arith }
core_between bin.ShiftLeft = record { over = omega arith; under = omega arith }
core_between bin.ShiftRightSigned = record { over = omega arith; under = omega arith }
core_between bin.ShiftRightUnsigned = record { over = omega arith; under = omega arith }
core_between bin.Equal = record { over = omega arith; under = omega arith }
core_between bin.NotEqual = record { over = omega arith; under = omega arith }
core_between bin.LessSigned = record { over = omega arith; under = omega arith }
core_between bin.LessUnsigned = record { over = omega arith; under = omega arith }
core_between bin.LessOrEqualSigned = record { over = omega arith; under = omega arith }
core_between bin.LessOrEqualUnsigned = record { over = omega arith; under = omega arith }
core_between bin.GreaterSigned = record { over = omega arith; under = omega arith }
core_between bin.GreaterUnsigned = record { over = omega arith; under = omega arith }
core_between bin.GreaterOrEqualSigned = record { over = omega arith; under = omega arith }
core_between bin.GreaterOrEqualUnsigned = record { over = omega arith; under = omega arith }

pub truth_range : (b : Bool) → truth b < 4294967296
truth_range true = omega arith
truth_range false = omega arith

right_range : (a n : ℕ) → a < 4294967296 → a / 2 ^ n < 4294967296
right_range a n h = grind (arith, h)

signed_right_range : (a n : ℕ) → a < 4294967296 →
    (if nat_lt a 2147483648 then a / 2 ^ n else (4294967295 - (4294967295 - a) / 2 ^ n)) < 4294967296
signed_right_range a n h = elim (cases_lt a 2147483648) [
  | inl l ↦ let t : nat_lt a 2147483648 ≡ true = grind (arith, nat_tests) in rw t (right_range a n h)
  | inr l ↦ let t : nat_lt a 2147483648 ≡ false = grind (arith, nat_tests) in rw t (omega arith)
]

pub word_range : (z : ℤ) → word_of z < 4294967296
word_range (pos n) = omega arith
word_range (negsuc n) = omega arith

-- an operator on words gives a word
pub bin_range : (kind : BinKind) (a b : ℕ) → a < 4294967296 → b < 4294967296 →
    bin_value kind a b < 4294967296
bin_range bin.Add a b u v = omega arith
bin_range bin.Subtract a b u v = omega arith
bin_range bin.Multiply a b u v = omega arith
bin_range bin.DivideSigned a b u v = word_range (int_div (signed a) (signed b))
bin_range bin.DivideUnsigned a b u v = omega (arith, div-le_self a b, u)
bin_range bin.RemainderSigned a b u v = word_range (int_rem (signed a) (signed b))
bin_range bin.RemainderUnsigned a b u v = omega (arith, mod-le a b, u)
bin_range bin.And a b u v = omega (arith, and_le_l a b, u)
bin_range bin.Or a b u v = or_of_32 a b u v
bin_range bin.Xor a b u v = xor_of_32 a b u v
bin_range bin.ShiftLeft a b u v = omega arith
bin_range bin.ShiftRightSigned a b u v = signed_right_range a (b % 32) u
bin_range bin.ShiftRightUnsigned a b u v = right_range a (b % 32) u
bin_range bin.Equal a b u v = truth_range (nat_eq a b)
bin_range bin.NotEqual a b u v = truth_range (not (nat_eq a b))
bin_range bin.LessSigned a b u v = truth_range (is_less_signed a b)
bin_range bin.LessUnsigned a b u v = truth_range (nat_lt a b)
bin_range bin.LessOrEqualSigned a b u v = truth_range (not (is_less_signed b a))
bin_range bin.LessOrEqualUnsigned a b u v = truth_range (not (nat_lt b a))
bin_range bin.GreaterSigned a b u v = truth_range (is_less_signed b a)
bin_range bin.GreaterUnsigned a b u v = truth_range (nat_lt b a)
bin_range bin.GreaterOrEqualSigned a b u v = truth_range (not (is_less_signed a b))
bin_range bin.GreaterOrEqualUnsigned a b u v = truth_range (not (nat_lt a b))
