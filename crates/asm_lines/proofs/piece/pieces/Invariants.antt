use Rattle.std.proofs.Common.{◌≡◌, ◌++◌, length}
use Rattle.asm_lines.specs.Pieces as spec
use Rattle.asm_lines.proofs.piece.pieces.Given as goal

abbrev pub invariant-loop-rest : goal.invariant-loop-rest
invariant-loop-rest l = l.found.items ++ spec.pieces l.rest ≡ spec.pieces l.line

abbrev pub decreases-loop-rest : goal.decreases-loop-rest
decreases-loop-rest l = length l.rest
