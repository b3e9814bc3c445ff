-- What is listed of a finished list of ops.
use Rattle.std.specs.Prelude.{◌≡◌, ◌≤◌, length}
use Rattle.icode_ranges.specs.declared.Code.{Code}
use Rattle.icode_ranges.specs.Tables.{MentionedAt, DefinedAt, ExposedAt, GoesFrom, IsTable, KnowsLabels, AreBlocks}
use Rattle.icode_ranges.specs.Tables.{AreSpans}

pub record IsListed (code : Code) : Type 0 where
  pub blocks : AreBlocks code.ops.now (length code.ops.now) code.blocks.now
  pub block_room : length code.ops.now ≤ length code.blocks.now
  pub jumps : IsTable (GoesFrom code.ops.now (length code.ops.now)) code.jumps.now.buckets
  pub labels : KnowsLabels code.ops.now (length code.jumps.now.buckets)
  pub definitions : IsTable (DefinedAt code.ops.now (length code.ops.now)) code.definitions.now.buckets
  pub exposed : IsTable (ExposedAt code.ops.now (length code.ops.now)) code.exposed.now.buckets
  pub each_exposed : length code.exposed.now.buckets ≡ length code.definitions.now.buckets
  pub spans :
      AreSpans (MentionedAt code.ops.now (length code.ops.now)) (length code.definitions.now.buckets) code.lows.now
      code.highs.now
  pub low_room : length code.definitions.now.buckets ≤ length code.lows.now
  pub high_room : length code.definitions.now.buckets ≤ length code.highs.now
