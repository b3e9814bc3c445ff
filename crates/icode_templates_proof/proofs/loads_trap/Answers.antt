use Rattle.icode_templates_proof.proofs.Loads as lemmas
use Rattle.icode_templates_proof.proofs.loads_trap.Goals as goal

pub returns : goal.returns
returns call kind trap c a bytes d w v low f u b e h =
    lemmas.load_ends kind c a bytes d w v low f u b h trap e
