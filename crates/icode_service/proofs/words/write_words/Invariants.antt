use Rattle.std.proofs.Common.{◌≡◌, ◌+◌, drop}
use Rattle.code_arena.specs.Kept.{arena_of}
use Rattle.mips_model.specs.CodeServices.{written_from}
use Rattle.icode_service.proofs.words.write_words.Given as goal

abbrev pub invariant-loop-word : goal.invariant-loop-word
invariant-loop-word l = record {
  counted : l.at ≡ l.fn.first + l.word-index;
  rest : written_from l.at (drop l.word-index l.words) (arena_of l.arena) ≡
      written_from l.fn.first l.words (arena_of l.fn.arena);
}
