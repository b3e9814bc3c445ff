use Rattle.std.proofs.Common.{◌≡◌, drop}
use Rattle.std.specs.List.{list_all}
use Rattle.asm_words.specs.Numbers as spec
use Rattle.asm_words.proofs.number.all_digits.Given as goal

abbrev pub invariant-loop-b : goal.invariant-loop-b
invariant-loop-b l =
    list_all (spec.is_digit l.base) (drop l.b-index l.digits) ≡ list_all (spec.is_digit l.base) l.digits
