use Rattle.std.proofs.Common.{◌≡◌, ◌≤◌, drop}
use Rattle.lex_literals.specs.Literals.{value_of}
use Rattle.lex_literals.proofs.numbers.number.Given as goal

abbrev pub invariant-loop-b : goal.invariant-loop-b
invariant-loop-b l = record {
  same : value_of l.radix l.n (drop l.b-index l.digits) ≡ value_of l.radix 0 l.digits;
  small : l.n ≤ 4294967295;
}
