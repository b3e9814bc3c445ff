use Rattle.std.proofs.Common.{ℕ, List, ap, map, ◌∙◌}
use Rattle.flat_memory.specs.Spaces.{first}
use Rattle.code_arena.specs.Rows.{numbered}
use Rattle.image_file.specs.declared.image.FunctionEntry.{FunctionEntry}
use Rattle.mips_model.specs.Run.{row_of}
use Rattle.mips_core.proofs.Loops.{begins}
use Rattle.mips_core.proofs.core_state.Core.new.Goals as goal

pub returns-clause-state : goal.returns-clause-state
returns-clause-state c =
    let image = c.args.image.now in
    c.begun.ensures.state
    ∙ begins c.entry.ensures.value
    (c.in_ok-memory.ensures
    ∙ ap (λ (words : List ℕ). first words c.bytes.result.now) c.text-2.ensures.value
    ∙ ap (first image.text) c.bytes.ensures.value)
    c.in_ok-arena.ensures
    (c.number.ensures ∙ ap (λ (them : List FunctionEntry). numbered (map row_of them)) c.functions.ensures.value)

pub returns-clause-on : goal.returns-clause-on
returns-clause-on c = c.begun.ensures.on
