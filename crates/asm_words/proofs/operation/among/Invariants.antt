use Rattle.std.proofs.Common.{◌≡◌, drop}
use Rattle.asm_words.specs.Operations as spec
use Rattle.asm_words.proofs.operation.among.Given as goal

abbrev pub invariant-loop-operation : goal.invariant-loop-operation
invariant-loop-operation l =
    spec.named (drop l.operation-index l.operations) l.word ≡ spec.named l.operations l.word
