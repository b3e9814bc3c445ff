-- A program as a list of its functions, and what the machine reads off it: the function at an address, and the row of a
-- number. Numbers are counted from 1, in the order of the text.
use Rattle.std.specs.Prelude.{ℕ, zero, suc, nat_eq, if◌then◌else◌, List, [], ◌∷◌, Option, Some, None, slice_get}
use Rattle.icode_meaning.specs.State.{Function, Program}

-- a function, and how many parameters it has
pub record Published : Type 0 where
  pub function : Function
  pub parameters : ℕ

abbrev pub at_address : List Published → ℕ → Option Function
at_address [] address = None
at_address (p ∷ functions) address =
    if nat_eq p.function.address address then Some p.function else at_address functions address

abbrev pub row_of : Option Published → Option (ℕ × ℕ)
row_of None = None
row_of (Some p) = Some (p.function.address, p.parameters)

abbrev pub row_at : List Published → (number : ℕ) → Option (ℕ × ℕ)
row_at functions zero = None
row_at functions (suc n) = row_of (slice_get functions n)

-- a program of these, whose source and ticks come from elsewhere
abbrev pub program_of : List Published → Program → Program
program_of functions rest = record rest { function_at = at_address functions; row = row_at functions }
