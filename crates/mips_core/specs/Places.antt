-- The place of an address: the number of its word, counted from the text's first word, modulo 2^64. An address that is
-- no multiple of 4 has a number that no word has: the two low bits stand in front.
use Rattle.std.specs.Prelude.{ℕ, ◌≡◌, ◌+◌, ◌-◌, ◌*◌, ◌/◌, ◌%◌, ◌<◌}
use Rattle.std.proofs.Common.{arith}

abbrev pub place_of : ℕ → ℕ
place_of at = (at / 4 + at % 4 * 1073741824 + 18446744073708503040) % 18446744073709551616

abbrev pub word_of_place : ℕ → ℕ
word_of_place place = (place + 1048576) % 18446744073709551616

abbrev pub address_of : ℕ → ℕ
address_of place = word_of_place place % 1073741824 * 4 + word_of_place place / 1073741824

-- it is one of an address of 32 bits
abbrev pub IsPlace : ℕ → Type 0
IsPlace place = (place < 18446744073709551616) × (word_of_place place < 4294967296)

pub same_place : (place : ℕ) → IsPlace place → place_of (address_of place) ≡ place
same_place place h =
    let a = h.0 in
    let b = h.1 in
    omega (arith, a, b)

-- how many instructions are left, where the count is spent at a place if the way is straight
abbrev pub left_to : (end place : ℕ) → ℕ
left_to end place = (end + (18446744073709551616 - place)) % 18446744073709551616

-- the address of the next instruction, how many are left, and to which place the way is that of the text
pub record Way : Type 0 where
  pub pc : ℕ
  pub left : ℕ
  pub reach : ℕ
