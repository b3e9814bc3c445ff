use Rattle.std.proofs.Common.{◌≡◌, take}
use Rattle.std.specs.List.{flat_map}
use Rattle.std.specs.Io.KnownBytes.{Appends}
use Rattle.asm_print.specs.Text as spec
use Rattle.asm_print.proofs.disassembler.write_words.Given as goal

abbrev pub invariant-loop-word : goal.invariant-loop-word
invariant-loop-word g l = record {
  taken : Appends (g.O.Sink.taken l.fn.out) (g.O.Sink.taken l.out)
      (flat_map spec.word_line (take l.word-index l.words));
  faults : g.O.Sink.faults l.out ≡ g.O.Sink.faults l.fn.out;
}
