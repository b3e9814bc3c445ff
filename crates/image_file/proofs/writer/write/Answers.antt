use Rattle.image_file.proofs.Inverse.{written-parsed}
use Rattle.image_file.proofs.writer.write.Goals as goal

pub returns-clause-read_back : goal.returns-clause-read_back
returns-clause-read_back c =
    written-parsed (λ v. v.items) c.spell.result c.args.image.now c.spell.ensures.image c.spell.ensures.spelling
