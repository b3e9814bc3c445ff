use Rattle.std.proofs.Common.{◌≡◌, take}
use Rattle.std.specs.List.{flat_map}
use Rattle.std.specs.Io.KnownBytes.{Appends}
use Rattle.asm_print.specs.Text as spec
use Rattle.asm_print.proofs.disassembler.write_functions.Given as goal

abbrev pub invariant-loop-function : goal.invariant-loop-function
invariant-loop-function g l = record {
  taken : Appends (g.O.Sink.taken l.fn.out) (g.O.Sink.taken l.out)
      (flat_map spec.function_line (take l.function-index l.functions));
  faults : g.O.Sink.faults l.out ≡ g.O.Sink.faults l.fn.out;
}
