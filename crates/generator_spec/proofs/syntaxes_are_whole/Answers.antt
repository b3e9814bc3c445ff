use Rattle.generator_spec.proofs.Wholes.{syntax_whole}
use Rattle.generator_spec.proofs.syntaxes_are_whole.Goals as goal

pub returns : goal.returns
returns c =
    λ p accepted addresses pieces syntax good made words known.
    syntax_whole p accepted addresses pieces good made words syntax known
