use Rattle.std.proofs.Common.{◌≡◌, ◌-◌, ◌<◌, length}
use Rattle.icode_ranges.specs.Blocks.{block_of}
use Rattle.icode_ranges.specs.Tables.{AreBlocks}
use Rattle.icode_liveness.proofs.blocks.list_blocks.Given as goal

abbrev pub invariant-loop-p : goal.invariant-loop-p
invariant-loop-p l =
    record {
      blocks : AreBlocks l.ops l.p l.blocks;
      block : l.block ≡ block_of l.ops (l.p - 1);
      room : length l.blocks ≡ length l.fn.blocks;
    }
