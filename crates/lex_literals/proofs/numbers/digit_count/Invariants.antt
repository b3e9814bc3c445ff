use Rattle.std.proofs.Common.{◌≡◌, ◌+◌, ◌-◌, ◌≤◌, length, drop}
use Rattle.std.specs.List.{prefix_len}
use Rattle.lex_literals.specs.Literals.{is_digit}
use Rattle.lex_literals.proofs.numbers.digit_count.Given as goal

abbrev pub invariant-loop-count : goal.invariant-loop-count
invariant-loop-count l =
    (l.count + prefix_len (is_digit l.base) (drop l.count l.text) ≡ prefix_len (is_digit l.base) l.text) ×
    (l.count ≤ length l.text)

abbrev pub decreases-loop-count : goal.decreases-loop-count
decreases-loop-count l = length l.text - l.count
