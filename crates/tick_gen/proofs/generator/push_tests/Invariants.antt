use Rattle.std.proofs.Common.{◌≡◌, ◌++◌}
use Rattle.std.specs.List.{flat_map, range_with_len}
use Rattle.tick_gen.specs.Source as spec
use Rattle.tick_gen.proofs.generator.push_tests.Given as goal

abbrev pub invariant-loop-number : goal.invariant-loop-number
invariant-loop-number l = record {
  pushed : l.text.items ≡ l.fn.text.items ++ flat_map spec.test_line (range_with_len 0 l.number);
}
