-- The registers of assembly text: `$` and a number from 0 to 31 without a leading zero, or `$` and the usual name of
-- the MIPS R2000 architecture's calling convention. Register 0 has its number alone.
use Rattle.std.specs.Prelude.{ℕ, ◌+◌, if◌then◌else◌, ◌==◌, List, [], ◌∷◌, drop, map, slice_index, Option, Some, None}
use Rattle.std.specs.Option.{option_or}
use Rattle.std.specs.Str.{bytes_eq}
use Rattle.asm_words.specs.declared.register.TheConstants.{NUMBERS, USUAL_NAMES}

-- The place of a word in a list, where the list's first place has the number `at`.
abbrev pub place_from : ℕ → List (List ℕ) → List ℕ → Option ℕ
place_from at [] w = None
place_from at (x ∷ xs) w = if bytes_eq x w then Some at else place_from (at + 1) xs w

-- The register that a word names.
unfoldable pub register_of : List ℕ → Option ℕ
register_of w =
    if slice_index w 0 == 36
    then option_or (place_from 0 (map (λ k. k.now) NUMBERS) (drop 1 w))
    (place_from 0 (map (λ k. k.now) USUAL_NAMES) (drop 1 w))
    else None
