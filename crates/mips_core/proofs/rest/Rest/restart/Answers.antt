use Rattle.std.proofs.Common.{◌+◌, ◌∙◌, refl, ap}
use Rattle.flat_memory.specs.Regions.{spaces_of}
use Rattle.code_arena.specs.Kept.{arena_of, rows_of}
use Rattle.mips_core.specs.Core.{CoreKept, begun}
use Rattle.mips_core.proofs.Loops.{begun_with}
use Rattle.mips_core.proofs.rest.Rest.restart.Goals as goal

pub returns-clause-state : goal.returns-clause-state
returns-clause-state c =
    let i = c.self.inside in
    rw c.at-self-inside.ensures (begun_with
    (begun c.args.entry (spaces_of i.memory) (arena_of i.arena) (rows_of i.table))
    (c.args.entry + 4) refl refl
    ∙ ap (λ (k : CoreKept). begun c.args.entry (spaces_of k.memory) (arena_of k.arena) (rows_of k.table))
    c.self.view_is)
