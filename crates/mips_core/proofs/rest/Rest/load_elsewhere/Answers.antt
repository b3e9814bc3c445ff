use Rattle.std.proofs.Common.{refl, ap, ◌∙◌}
use Rattle.flat_memory.specs.Regions.{spaces_of}
use Rattle.code_arena.specs.Kept.{arena_of}
use Rattle.mips_model.specs.Accesses.{arena_word}
use Rattle.mips_core.specs.Core.{CoreKept, at, state_of}
use Rattle.mips_core.proofs.Elsewhere.{in_arena, in_table, loads_arena, loads_nowhere, loads_table}
use Rattle.mips_core.proofs.Rows.{becomes}
use Rattle.mips_core.proofs.rest.Rest.load_elsewhere.Goals as goal

pub returns-then-in_arena : goal.returns-then-in_arena
returns-then-in_arena g c =
    becomes (loads_arena c.args.r c.args.at c.args.width (state_of (at c.args.pc c.args.self.now))
    (in_arena c.args.at c.is_within-in_arena.ensures c.if-in_arena.true)
    (c.read-word.ensures ∙ ap (λ (k : CoreKept). (arena_of k.arena).words (arena_word c.args.at)) c.self.view_is))
    c.take_part.ensures

pub returns-then-in_table : goal.returns-then-in_table
returns-then-in_table g c =
    becomes (loads_table c.args.r c.args.at c.args.width (state_of (at c.args.pc c.args.self.now))
    (in_table c.args.at c.is_within-in_table.ensures c.if-in_table.true) c.table_word-word.ensures)
    c.take_part-then-in_table.ensures

pub returns-else-in_table : goal.returns-else-in_table
returns-else-in_table g c =
    becomes (loads_nowhere (spaces_of c.args.self.now.memory) c.args.r c.args.at c.args.width
    (state_of (at c.args.pc c.args.self.now)) c.is_within-in_arena.ensures c.if-in_arena.false
    c.is_within-in_table.ensures c.if-in_table.false c.requires.outside refl) (c.end.ensures _)
