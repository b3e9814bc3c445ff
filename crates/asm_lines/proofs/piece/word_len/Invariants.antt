use Rattle.std.proofs.Common.{◌≡◌, ◌+◌, drop}
use Rattle.std.specs.List.{prefix_len}
use Rattle.asm_lines.specs.Pieces as spec
use Rattle.asm_lines.proofs.piece.word_len.Given as goal

abbrev pub invariant-loop-b : goal.invariant-loop-b
invariant-loop-b l = record {
  at : l.len ≡ l.b-index;
  same : l.b-index + prefix_len spec.is_part (drop l.b-index l.line) ≡ prefix_len spec.is_part l.line;
}
