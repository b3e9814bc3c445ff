use Rattle.std.proofs.Common.{◌+◌, refl}
use Rattle.flat_memory.specs.Regions.{spaces_of}
use Rattle.code_arena.specs.Kept.{arena_of, rows_of}
use Rattle.mips_core.specs.Core.{begun}
use Rattle.mips_core.proofs.Loops.{begun_with}
use Rattle.mips_core.proofs.rest.Rest.begun.Goals as goal

pub returns-clause-state : goal.returns-clause-state
returns-clause-state c =
    rw c.at.ensures (begun_with
    (begun c.args.entry (spaces_of c.args.memory) (arena_of c.args.arena) (rows_of c.args.table))
    (c.args.entry + 4) refl refl)
