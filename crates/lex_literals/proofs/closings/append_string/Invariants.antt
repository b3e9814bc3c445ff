use Rattle.std.proofs.Common.{◌≡◌, ◌-◌, ◌++◌, ◌≤◌, length, drop}
use Rattle.lex_literals.specs.Literals.{bytes_from}
use Rattle.lex_literals.proofs.closings.append_string.Given as goal

abbrev pub invariant-loop-at : goal.invariant-loop-at
invariant-loop-at l = record {
  same : l.bytes.items ++ bytes_from 0 (drop l.at l.text) ≡ l.initial.bytes.items ++ bytes_from 0 l.text;
  within : l.at ≤ length l.text;
}

abbrev pub decreases-loop-at : goal.decreases-loop-at
decreases-loop-at l = length l.text - l.at
