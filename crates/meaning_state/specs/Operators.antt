-- The values of operators on words, and the traps of divisions. They are those of C on 32-bit words that wrap: a
-- comparison gives 1 or 0, a shift uses the low five bits of its count, and a quotient truncates toward zero. That a
-- division without an answer is a trap is this project's own rule.
use Rattle.std.specs.Prelude.{ℕ, ◌-◌, ◌/◌, ◌%◌, Bool, true, false, not, nat_lt, nat_eq, if◌then◌else◌, Option, Some}
use Rattle.std.specs.Prelude.{None, Result, Ok, Err, bit_and, bit_or, bit_xor}
use Rattle.word32.specs.Words.{sum, difference, product, is_less_signed, shifted_left, shifted_right}
use Rattle.word32.specs.Words.{shifted_right_signed}
use Rattle.word32.specs.Division.{quotient, remainder, div_s}
use Rattle.word32.specs.Parts.{narrowed}
use Rattle.word32.specs.declared.division.DivFault.{DivFault}
use Rattle.word32.specs.declared.division.DivFault.TheVariants.{Zero, Overflow}
use Rattle.word32.specs.declared.width.Width.TheVariants as width
use Rattle.icode_ops.specs.declared.kind.BinKind.{BinKind}
use Rattle.icode_ops.specs.declared.kind.BinKind.TheVariants as bin
use Rattle.icode_ops.specs.declared.kind.UnKind.{UnKind}
use Rattle.icode_ops.specs.declared.kind.UnKind.TheVariants as un
use Rattle.host_edge.specs.declared.ending.TrapKind.{TrapKind}
use Rattle.host_edge.specs.declared.ending.TrapKind.TheVariants.{DivideByZero, DivideOverflow}

-- 1 where it holds
abbrev pub truth : Bool → ℕ
truth true = 1
truth false = 0

-- the value of an operator on two words. Of a division it is this where there is no trap
abbrev pub bin_value : BinKind → ℕ → ℕ → ℕ
bin_value bin.Add a b = sum a b
bin_value bin.Subtract a b = difference a b
bin_value bin.Multiply a b = product a b
bin_value bin.DivideSigned a b = quotient a b
bin_value bin.DivideUnsigned a b = a / b
bin_value bin.RemainderSigned a b = remainder a b
bin_value bin.RemainderUnsigned a b = a % b
bin_value bin.And a b = bit_and a b
bin_value bin.Or a b = bit_or a b
bin_value bin.Xor a b = bit_xor a b
bin_value bin.ShiftLeft a b = shifted_left a b
bin_value bin.ShiftRightSigned a b = shifted_right_signed a b
bin_value bin.ShiftRightUnsigned a b = shifted_right a b
bin_value bin.Equal a b = truth (nat_eq a b)
bin_value bin.NotEqual a b = truth (not (nat_eq a b))
bin_value bin.LessSigned a b = truth (is_less_signed a b)
bin_value bin.LessUnsigned a b = truth (nat_lt a b)
bin_value bin.LessOrEqualSigned a b = truth (not (is_less_signed b a))
bin_value bin.LessOrEqualUnsigned a b = truth (not (nat_lt b a))
bin_value bin.GreaterSigned a b = truth (is_less_signed b a)
bin_value bin.GreaterUnsigned a b = truth (nat_lt b a)
bin_value bin.GreaterOrEqualSigned a b = truth (not (is_less_signed a b))
bin_value bin.GreaterOrEqualUnsigned a b = truth (not (nat_lt a b))

-- the value of an operator on one word, conversions to narrow types among them
abbrev pub un_value : UnKind → ℕ → ℕ
un_value un.Negate a = difference 0 a
un_value un.Complement a = 4294967295 - a
un_value un.IsZero a = truth (nat_eq a 0)
un_value un.SignedByte a = narrowed width.SignedByte a
un_value un.Byte a = narrowed width.Byte a
un_value un.SignedHalf a = narrowed width.SignedHalf a
un_value un.Half a = narrowed width.Half a

-- the trap of a signed division
abbrev pub trap_of : Result (ℕ × ℕ) DivFault → Option TrapKind
trap_of (Ok answers) = None
trap_of (Err Zero) = Some DivideByZero
trap_of (Err Overflow) = Some DivideOverflow

abbrev pub signed_trap : ℕ → ℕ → Option TrapKind
signed_trap a b = trap_of (div_s a b)

-- the trap of an unsigned division by b
abbrev pub zero_trap : ℕ → Option TrapKind
zero_trap b = if nat_eq b 0 then Some DivideByZero else None

-- the trap of an operator on two words
abbrev pub bin_trap : BinKind → ℕ → ℕ → Option TrapKind
bin_trap bin.DivideSigned a b = signed_trap a b
bin_trap bin.DivideUnsigned a b = zero_trap b
bin_trap bin.RemainderSigned a b = signed_trap a b
bin_trap bin.RemainderUnsigned a b = zero_trap b
bin_trap _ a b = None
