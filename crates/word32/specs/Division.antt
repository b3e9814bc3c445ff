-- Quotients and remainders of words. A quotient truncates toward zero and a remainder has the dividend's sign, as in
-- C and by DIV and DIVU of the MIPS R2000. A zero divisor has neither, and the one signed quotient that no word holds,
-- that of -2,147,483,648 by -1, is a fault of its own.
use Rattle.std.specs.Prelude.{ℕ, ◌/◌, ◌%◌, ◌==◌, ◌&&◌, if◌then◌else◌, Result, Ok, Err, int_div, int_rem}
use Rattle.word32.specs.Words.{signed, word_of}
use Rattle.word32.specs.declared.division.DivFault.{DivFault}
use Rattle.word32.specs.declared.division.DivFault.TheVariants.{Zero, Overflow}

-- the quotient of the signed views, toward zero
abbrev pub quotient : ℕ → ℕ → ℕ
quotient a b = word_of (int_div (signed a) (signed b))

-- the remainder of the signed views, with the dividend's sign
abbrev pub remainder : ℕ → ℕ → ℕ
remainder a b = word_of (int_rem (signed a) (signed b))

-- quotient and remainder of the signed views
abbrev pub div_s : ℕ → ℕ → Result (ℕ × ℕ) DivFault
div_s a b =
    if (b == 0) then Err Zero
    else (if ((a == 2147483648) && (b == 4294967295)) then Err Overflow else Ok (quotient a b, remainder a b))

-- quotient and remainder of the words as they are
abbrev pub div_u : ℕ → ℕ → Result (ℕ × ℕ) DivFault
div_u a b = if (b == 0) then Err Zero else Ok (a / b, a % b)
