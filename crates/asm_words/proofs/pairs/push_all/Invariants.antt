use Rattle.std.proofs.Common.{◌≡◌, ◌++◌, IsTrue, length}
use Rattle.std.specs.Char.{is_ascii_hexdigit}
use Rattle.std.specs.List.{list_all}
use Rattle.asm_words.specs.Data as spec
use Rattle.asm_words.proofs.pairs.push_all.Given as goal

abbrev pub invariant-loop-rest : goal.invariant-loop-rest
invariant-loop-rest l = record {
  pushed : l.out.items ++ spec.bytes_of l.rest ≡ l.fn.out.items ++ spec.bytes_of l.digits;
  digits : IsTrue (list_all is_ascii_hexdigit l.rest);
}

abbrev pub decreases-loop-rest : goal.decreases-loop-rest
decreases-loop-rest l = length l.rest
