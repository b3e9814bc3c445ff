-- What the instructions of the MIPS R2000 compute from one or two registers, as its architecture manual gives it. A
-- sum or difference that must fit and doesn't is None. Products and quotients are pairs, HI before LO.
use Rattle.std.specs.Prelude.{ℕ, ◌+◌, ◌-◌, ◌*◌, ◌/◌, ◌%◌, Bool, not, true, false, ◌&&◌, ◌||◌, nat_eq, nat_lt, nat_le}
use Rattle.std.specs.Prelude.{if◌then◌else◌, Option, Some, None, Result, Ok, Err, bit_and, bit_or, bit_xor}
use Rattle.word32.specs.Words.{sum, difference, sign_turned, is_less_signed, shifted_left, shifted_right}
use Rattle.word32.specs.Words.{shifted_right_signed, widened_half}
use Rattle.word32.specs.Division.{div_s, div_u}
use Rattle.word32.specs.declared.division.DivFault.{DivFault}
use Rattle.word32.specs.declared.division.DivFault.TheVariants.{Zero, Overflow}
use Rattle.mips_encoder.specs.declared.instruction.ArithmeticOp.{ArithmeticOp}
use Rattle.mips_encoder.specs.declared.instruction.ArithmeticOp.TheVariants.{Add, Addu, Sub, Subu, And, Or, Xor, Nor}
use Rattle.mips_encoder.specs.declared.instruction.ArithmeticOp.TheVariants.{Slt, Sltu}
use Rattle.mips_encoder.specs.declared.instruction.ShiftOp.{ShiftOp}
use Rattle.mips_encoder.specs.declared.instruction.ShiftOp.TheVariants.{Sll, Srl, Sra}
use Rattle.mips_encoder.specs.declared.instruction.ShiftVariableOp.{ShiftVariableOp}
use Rattle.mips_encoder.specs.declared.instruction.ShiftVariableOp.TheVariants.{Sllv, Srlv, Srav}
use Rattle.mips_encoder.specs.declared.instruction.MultiplyDivideOp.{MultiplyDivideOp}
use Rattle.mips_encoder.specs.declared.instruction.MultiplyDivideOp.TheVariants.{Mult, Multu, Div, Divu}
use Rattle.mips_encoder.specs.declared.instruction.SignTest.{SignTest}
use Rattle.mips_encoder.specs.declared.instruction.SignTest.TheVariants.{Negative, NonNegative}
use Rattle.mips_encoder.specs.declared.instruction.EqualityOp.{EqualityOp}
use Rattle.mips_encoder.specs.declared.instruction.EqualityOp.TheVariants.{Beq, Bne}
use Rattle.mips_encoder.specs.declared.instruction.ZeroComparisonOp.{ZeroComparisonOp}
use Rattle.mips_encoder.specs.declared.instruction.ZeroComparisonOp.TheVariants.{Blez, Bgtz}
use Rattle.mips_encoder.specs.declared.instruction.ImmediateOp.{ImmediateOp}
use Rattle.mips_encoder.specs.declared.instruction.ImmediateOp.TheVariants.{Addi, Addiu, Slti, Sltiu, Andi, Ori, Xori}

abbrev pub bit : Bool → ℕ
bit true = 1
bit false = 0

-- A word with its sign bit turned is its signed view and 2 ^ 31 more. So the signed sum of two words fits a word where
-- the sum of these lies from 2 ^ 31 up to, and without, 2 ^ 31 + 2 ^ 32.
abbrev pub fits_sum : ℕ → ℕ → Bool
fits_sum a b =
    nat_le 2147483648 (sign_turned a + sign_turned b) && nat_lt (sign_turned a + sign_turned b) 6442450944

-- and the signed difference, where theirs lies from -(2 ^ 31) up to, and without, 2 ^ 31
abbrev pub fits_difference : ℕ → ℕ → Bool
fits_difference a b =
    nat_le (sign_turned b) (sign_turned a + 2147483648) && nat_lt (sign_turned a) (sign_turned b + 2147483648)

abbrev pub fitting : Bool → ℕ → Option ℕ
fitting fits v = if fits then Some v else None

abbrev pub arithmetic : ArithmeticOp → ℕ → ℕ → Option ℕ
arithmetic Add a b = fitting (fits_sum a b) (sum a b)
arithmetic Addu a b = Some (sum a b)
arithmetic Sub a b = fitting (fits_difference a b) (difference a b)
arithmetic Subu a b = Some (difference a b)
arithmetic And a b = Some (bit_and a b)
arithmetic Or a b = Some (bit_or a b)
arithmetic Xor a b = Some (bit_xor a b)
arithmetic Nor a b = Some (4294967295 - bit_or a b)
arithmetic Slt a b = Some (bit (is_less_signed a b))
arithmetic Sltu a b = Some (bit (nat_lt a b))

-- SLTIU widens its immediate with the sign, and then compares without it
abbrev pub immediate : ImmediateOp → ℕ → ℕ → Option ℕ
immediate Addi a n = arithmetic Add a (widened_half n)
immediate Addiu a n = arithmetic Addu a (widened_half n)
immediate Slti a n = arithmetic Slt a (widened_half n)
immediate Sltiu a n = arithmetic Sltu a (widened_half n)
immediate Andi a n = arithmetic And a n
immediate Ori a n = arithmetic Or a n
immediate Xori a n = arithmetic Xor a n

abbrev pub shifted : ShiftOp → ℕ → ℕ → ℕ
shifted Sll w count = shifted_left w count
shifted Srl w count = shifted_right w count
shifted Sra w count = shifted_right_signed w count

-- a shift by a register has the shift of the same kind by a number
abbrev pub by_number : ShiftVariableOp → ShiftOp
by_number Sllv = Sll
by_number Srlv = Srl
by_number Srav = Sra

-- a word widened to 64 bits with its sign
abbrev pub widened_word : ℕ → ℕ
widened_word w = if nat_lt w 2147483648 then w else (w + 18446744069414584320)

-- the high and the low word of 64 bits
abbrev pub high_low : ℕ → ℕ × ℕ
high_low x = (x / 4294967296, x % 4294967296)

-- a quotient goes to LO and its remainder to HI. Without a divisor both are 0; the one signed quotient that no word
-- holds is the dividend again, with the remainder 0
abbrev pub quotients : Result (ℕ × ℕ) DivFault → ℕ × ℕ
quotients (Ok q) = (q.1, q.0)
quotients (Err Zero) = (0, 0)
quotients (Err Overflow) = (0, 2147483648)

-- HI and LO after a product or a quotient; a signed product is that of the words widened to 64 bits, modulo 2 ^ 64
abbrev pub multiply_divide : MultiplyDivideOp → ℕ → ℕ → ℕ × ℕ
multiply_divide Mult a b = high_low (widened_word a * widened_word b % 18446744073709551616)
multiply_divide Multu a b = high_low (a * b)
multiply_divide Div a b = quotients (div_s a b)
multiply_divide Divu a b = quotients (div_u a b)

-- whether branches are taken
abbrev pub is_negative : ℕ → Bool
is_negative w = nat_le 2147483648 w

abbrev pub equality : EqualityOp → ℕ → ℕ → Bool
equality Beq a b = nat_eq a b
equality Bne a b = not (nat_eq a b)

abbrev pub zero_comparison : ZeroComparisonOp → ℕ → Bool
zero_comparison Blez w = nat_eq w 0 || is_negative w
zero_comparison Bgtz w = not (nat_eq w 0 || is_negative w)

abbrev pub sign_test : SignTest → ℕ → Bool
sign_test Negative w = is_negative w
sign_test NonNegative w = not (is_negative w)
