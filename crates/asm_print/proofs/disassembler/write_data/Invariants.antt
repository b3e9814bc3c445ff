use Rattle.std.proofs.Common.{◌≡◌, length, take}
use Rattle.std.specs.Int.{div_ceil}
use Rattle.std.specs.List.{flat_map, range_with_len}
use Rattle.std.specs.Io.KnownBytes.{Appends}
use Rattle.asm_print.specs.Text as spec
use Rattle.asm_print.proofs.disassembler.write_data.Given as goal

abbrev pub invariant-loop-k : goal.invariant-loop-k
invariant-loop-k g l = record {
  taken :
      Appends (g.O.Sink.taken l.fn.out) (g.O.Sink.taken l.out)
      (flat_map (spec.data_line_at l.bytes) (take l.k (range_with_len 0 (div_ceil (length l.bytes) 32))));
  faults : g.O.Sink.faults l.out ≡ g.O.Sink.faults l.fn.out;
}
