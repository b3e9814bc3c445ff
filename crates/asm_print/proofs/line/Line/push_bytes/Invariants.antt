use Rattle.std.proofs.Common.{◌≡◌, ◌+◌, ◌*◌, ◌++◌, length, take}
use Rattle.std.specs.List.{flat_map}
use Rattle.asm_print.specs.Numbers as spec
use Rattle.asm_print.proofs.line.Line.push_bytes.Given as goal

abbrev pub invariant-loop-byte : goal.invariant-loop-byte
invariant-loop-byte l = record {
  pushed : l.self ≡ l.fn.self ++ flat_map spec.hex_byte (take l.byte-index l.bytes);
  len : length l.self ≡ length l.fn.self + 2 * l.byte-index;
}
