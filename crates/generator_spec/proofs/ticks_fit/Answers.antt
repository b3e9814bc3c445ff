use Rattle.generator_spec.proofs.Wholes.{fit}
use Rattle.generator_spec.proofs.ticks_fit.Goals as goal

pub returns : goal.returns
returns c =
    λ p ticks t kinds addresses captures h good words has.
    fit p ticks t kinds addresses captures h good words has
