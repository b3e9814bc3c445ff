use Rattle.wf_walk.proofs.Fixed.{constant_fixed, suffix_fixed}
use Rattle.wf_walk.proofs.laws.constants_are_fixed.Goals as goal

pub returns : goal.returns
returns c = record { constants = constant_fixed; suffixes = suffix_fixed }
