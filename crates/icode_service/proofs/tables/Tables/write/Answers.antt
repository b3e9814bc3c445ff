use Rattle.std.proofs.Common.{length, ap, arith}
use Rattle.icode_service.proofs.Made.{few_words}
use Rattle.icode_service.proofs.tables.Tables.write.Goals as goal

pub expand_within-requires-clause-room : goal.expand_within-requires-clause-room
expand_within-requires-clause-room c =
    omega (
      arith,
      few_words c.words_are_few.ensures c.args.ops.now c.args.places.now c.args.at c.args.frame
          c.requires.finished.1.few_ops,
      c.self.invariant.words_room,
      ap length c.deref_mut-2.ensures.value,
    )
