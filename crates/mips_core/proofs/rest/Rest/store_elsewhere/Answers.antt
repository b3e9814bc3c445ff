use Rattle.std.proofs.Common.{ℕ, refl, sym, ap, ◌∙◌}
use Rattle.word32.specs.Parts.{stored_part}
use Rattle.code_arena.specs.Arena.{written}
use Rattle.code_arena.specs.Kept.{arena_of}
use Rattle.mips_model.specs.Accesses.{arena_word}
use Rattle.flat_memory.specs.Regions.{spaces_of}
use Rattle.mips_core.specs.Core.{at, state_of}
use Rattle.mips_core.proofs.Elsewhere.{in_arena, in_table, stores_in_arena, stores_in_table, stores_nowhere}
use Rattle.mips_core.proofs.Elsewhere.{stores_word}
use Rattle.mips_core.proofs.Rows.{becomes, goes_on}
use Rattle.mips_core.proofs.rest.Rest.store_elsewhere.Goals as goal

pub returns-then-not-aligned : goal.returns-then-not-aligned
returns-then-not-aligned g c =
    becomes (stores_in_arena c.args.at c.args.width c.args.w (state_of (at c.args.pc c.args.self.now))
    (in_arena c.args.at c.is_within-in_arena.ensures c.if-in_arena.true)
    (sym c.if-not-aligned.true ∙ c.is_aligned-aligned.ensures)) (c.end.ensures _)

pub returns-then-not-aligned-2 : goal.returns-then-not-aligned-2
returns-then-not-aligned-2 g c =
    becomes (stores_in_table c.args.at c.args.width c.args.w (state_of (at c.args.pc c.args.self.now))
    (in_table c.args.at c.is_within-in_table.ensures c.if-in_table.true)
    (sym c.if-not-aligned-2.true ∙ c.is_aligned-aligned.ensures)) (c.end-then-not-aligned-2.ensures _)

pub returns-else-not-aligned-2 : goal.returns-else-not-aligned-2
returns-else-not-aligned-2 g c =
    becomes (stores_in_table c.args.at c.args.width c.args.w (state_of (at c.args.pc c.args.self.now))
    (in_table c.args.at c.is_within-in_table.ensures c.if-in_table.true)
    (sym c.if-not-aligned-2.false ∙ c.is_aligned-aligned.ensures)) (c.end-then-in_table.ensures _)

pub returns-else-in_table : goal.returns-else-in_table
returns-else-in_table g c =
    becomes (stores_nowhere (spaces_of c.args.self.now.memory) c.args.at c.args.width c.args.w
    (state_of (at c.args.pc c.args.self.now)) c.is_within-in_arena.ensures c.if-in_arena.false
    c.is_within-in_table.ensures c.if-in_table.false c.requires.outside refl) (c.end-else-in_table.ensures _)

pub returns-else-not-aligned : goal.returns-else-not-aligned
returns-else-not-aligned g c =
    let x = c.args.at in
    let width = c.args.width in
    becomes (stores_in_arena x width c.args.w (state_of (at c.args.pc c.args.self.now))
    (in_arena x c.is_within-in_arena.ensures c.if-in_arena.true)
    (sym c.if-not-aligned.false ∙ c.is_aligned-aligned.ensures))
    (goes_on c.requires.ready
    (stores_word c.args.pc x width c.args.w c.advance.ensures.world
    (c.write.ensures
    ∙ ap (λ (v : ℕ). written (arena_word x) v (arena_of c.self.inside.arena))
    (c.stored_part-word.ensures ∙ ap (λ (u : ℕ). stored_part u x width c.args.w) c.read.ensures))
    c.self.view_is c.requires.ready.on)
    refl refl refl refl refl)
