-- Registers, as they are written and read.
use Rattle.std.proofs.Common.{◌≡◌, ℕ, ◌<◌, ◌==◌, Bool, true, false, List, ◌++◌, Option, Some, None, refl, ap, ◌∙◌}
use Rattle.std.proofs.Common.{arith, codes, length, get_or, subst}
use Rattle.std.specs.Prelude.{decimal}
use Rattle.std.specs.Fmt.{digits}
use Rattle.std.specs.List.{list_all, range_with_len}
use Rattle.std.proofs.lemmas.List.Sums.{AllPass-from_list_all}
use Rattle.std.proofs.lemmas.List.FromFn.{length-range_with_len, get_or-range_with_len}
use Rattle.std.proofs.lemmas.Bool.{eqb-true}
use Rattle.asm_words.specs.Registers.{register_of}

-- Whether a number is read back as a register.
abbrev is_read : ℕ → Option ℕ → Bool
is_read n None = false
is_read n (Some m) = m == n

all_read : list_all (λ n. is_read n (register_of (codes "$" ++ decimal n))) (range_with_len 0 32) ≡ true
unfolding register_of digits
all_read = refl

read_at : (xs : List ℕ) (k : ℕ) → list_all (λ n. is_read n (register_of (codes "$" ++ decimal n))) xs ≡ true →
    k < length xs →
    is_read (get_or xs k 0) (register_of (codes "$" ++ decimal (get_or xs k 0))) ≡ true
read_at xs k h lt = AllPass-from_list_all (λ n. is_read n (register_of (codes "$" ++ decimal n))) xs h k 0 lt

read_is : (n : ℕ) (o : Option ℕ) → is_read n o ≡ true → o ≡ Some n
read_is n None h = cc
read_is n (Some m) h = ap Some (eqb-true m n h)

-- A register's number is read as the register.
pub register_again : (n : ℕ) → n < 32 → register_of (codes "$" ++ decimal n) ≡ Some n
register_again n h =
    let len = length-range_with_len 0 32 in
    let inside : n < length (range_with_len 0 32) = omega arith in
    let item : get_or (range_with_len 0 32) n 0 ≡ n = get_or-range_with_len 0 32 n 0 h ∙ (omega arith) in
    read_is n (register_of (codes "$" ++ decimal n))
    (subst (λ m. is_read m (register_of (codes "$" ++ decimal m)) ≡ true) item
    (read_at (range_with_len 0 32) n all_read inside))
