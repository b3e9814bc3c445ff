use Rattle.std.proofs.Common.{ℕ, List, length, ap, ◌∙◌, arith}
use Rattle.icode_templates.specs.Words.{words}
use Rattle.icode_templates.specs.Frames.{prologue, epilogue}
use Rattle.icode_expand.proofs.Written.{whole_length}
use Rattle.icode_expand.proofs.expanded_length.Goals as goal

pub returns : goal.returns
returns c at_address =
    let first = c.prologue.ensures.words
    ∙ ap (λ (ks : List ℕ). words (prologue c.args.frame c.args.object ks c.args.compiled)) c.of.ensures in
    let last = c.epilogue.ensures.words
    ∙ ap (λ (ks : List ℕ). words (epilogue c.args.frame c.args.object ks c.args.compiled)) c.of.ensures in
    omega (
      arith,
      ap length first,
      ap length last,
      c.len.ensures.count,
      c.len-2.ensures.count,
      c.ops_words.ensures.count,
      whole_length c.args.ops.now c.args.places.now at_address c.args.frame c.args.object c.args.compiled,
    )
