use Rattle.generator_spec.proofs.Wholes.{kept}
use Rattle.generator_spec.proofs.captures_keep_kinds.Goals as goal

pub returns : goal.returns
returns c =
    λ ticks rows tick kinds words known own same none. kept ticks rows known tick kinds words own same none
