use Rattle.std.proofs.Common.{◌≡◌, ◌-◌, ◌≤◌, length, drop}
use Rattle.lex_literals.specs.Literals.{closes}
use Rattle.lex_literals.proofs.closings.closing_of.Given as goal

abbrev pub invariant-loop-at : goal.invariant-loop-at
invariant-loop-at l = record {
  same : closes l.quote l.chars 0 l.at (drop l.at l.text) ≡ closes l.quote 0 0 0 l.text;
  within : l.at ≤ length l.text;
  few : l.chars ≤ l.at;
}

abbrev pub decreases-loop-at : goal.decreases-loop-at
decreases-loop-at l = length l.text - l.at
