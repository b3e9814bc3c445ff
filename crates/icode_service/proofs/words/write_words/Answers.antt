use Rattle.std.proofs.Common.{get_or, refl, arith}
use Rattle.code_arena.specs.Kept.{arena_of}
use Rattle.mips_model.specs.CodeServices.{written_from}
use Rattle.icode_service.proofs.Writes.{write_step, write_end}
use Rattle.icode_service.proofs.words.write_words.Goals as goal

pub loop-word-preserved : goal.loop-word-preserved
loop-word-preserved c =
    let ws = c.args.words.now in
    let i = c.loop-word.word-index in
    record {
      counted = omega (arith, c.loop-word.invariant.counted);
      rest = write_step c.loop-word.at i ws (get_or ws i 0) (arena_of c.loop-word.arena) (arena_of c.write.new.self)
          (written_from c.args.first ws (arena_of c.args.arena.now)) c.loop-word-test.true refl c.write.ensures
          c.loop-word.invariant.rest;
    }

pub returns : goal.returns
returns c =
    let ws = c.args.words.now in
    write_end c.loop-word.at c.loop-word.word-index ws (arena_of c.loop-word.arena)
    (written_from c.args.first ws (arena_of c.args.arena.now)) c.loop-word-test.false c.loop-word.invariant.rest
