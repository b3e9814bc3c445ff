use Rattle.std.proofs.Common.{Ok, ap, sym, ◌∙◌}
use Rattle.asm_passes.specs.Collected.{placed_lines}
use Rattle.asm_passes.specs.Parts.{parts_of}
use Rattle.mips_text.specs.Assembly.{assembled}
use Rattle.mips_text.proofs.Images.{assembled_ok}
use Rattle.mips_text.proofs.assembly.assemble.Goals as goal

pub returns : goal.returns
unfolding assembled
returns c =
    assembled_ok (placed_lines c.args.text.now) (parts_of c.in_ok-parts.parts) c.in_ok-parts.ensures.gives
    ∙ ap Ok (sym c.image_of.ensures)
