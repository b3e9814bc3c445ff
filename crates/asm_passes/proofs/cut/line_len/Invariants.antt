use Rattle.std.proofs.Common.{◌≡◌, ◌+◌, ◌==◌, not, drop}
use Rattle.std.specs.List.{prefix_len}
use Rattle.asm_passes.proofs.cut.line_len.Given as goal

abbrev pub invariant-loop-b : goal.invariant-loop-b
invariant-loop-b l = record {
  at : l.len ≡ l.b-index;
  same : l.b-index + prefix_len (λ b. not (b == 10)) (drop l.b-index l.text) ≡ prefix_len (λ b. not (b == 10)) l.text;
}
