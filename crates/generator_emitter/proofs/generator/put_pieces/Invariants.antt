use Rattle.std.proofs.Common.{◌≡◌, ◌++◌, drop}
use Rattle.icode_templates.specs.Words.{words}
use Rattle.icode_ir.specs.Sound.{Each}
use Rattle.routine_spec.specs.Written.{HasWords}
use Rattle.routine_spec.specs.Generator.{pieces_code}
use Rattle.generator_emitter.proofs.generator.put_pieces.Given as goal

abbrev pub invariant-loop-p : goal.invariant-loop-p
invariant-loop-p l = record {
  words : l.found ++ words (pieces_code (drop l.p-index l.pieces)) ≡ l.fn.found ++ words (pieces_code l.pieces);
  fits : Each HasWords (drop l.p-index l.pieces) → Each HasWords l.pieces;
}
