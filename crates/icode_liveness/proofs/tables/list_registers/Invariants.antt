use Rattle.std.proofs.Common.{◌≡◌, ◌≤◌, ◌*◌, length}
use Rattle.icode_ranges.specs.Tables.{DefinedAt, ExposedAt, IsTable, AreLasts, AreSpans, MentionedAt}
use Rattle.icode_liveness.proofs.tables.list_registers.Given as goal

abbrev pub invariant-loop-p : goal.invariant-loop-p
invariant-loop-p l =
    record {
      definitions : IsTable (DefinedAt l.ops l.p) l.definitions.buckets;
      exposed : IsTable (ExposedAt l.ops l.p) l.exposed.buckets;
      last : AreLasts l.ops l.p l.registers l.lasts;
      each_defined : length l.definitions.buckets ≡ l.registers;
      each_exposed : length l.exposed.buckets ≡ l.registers;
      least_defined : l.definitions.least_slot ≤ 3 * l.p;
      least_exposed : l.exposed.least_slot ≤ 3 * l.p;
      spans : AreSpans (MentionedAt l.ops l.p) l.registers l.lows l.highs;
      lows : length l.lows ≡ length l.fn.lows;
      highs : length l.highs ≡ length l.fn.highs;
      lasts : length l.lasts ≡ length l.fn.lasts;
      definition_buckets : l.definitions.bucket_room ≡ l.fn.definitions.bucket_room;
      definition_slots : l.definitions.slot_room ≡ l.fn.definitions.slot_room;
      exposed_buckets : l.exposed.bucket_room ≡ l.fn.exposed.bucket_room;
      exposed_slots : l.exposed.slot_room ≡ l.fn.exposed.slot_room;
    }
