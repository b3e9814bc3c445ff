use Rattle.icode_templates_proof.proofs.Stores as lemmas
use Rattle.icode_templates_proof.proofs.stores_trap.Goals as goal

pub returns : goal.returns
returns call kind trap c a bytes d v z low f u u' b b' e h =
    lemmas.store_ends kind c a bytes d v z low f u u' b b' h trap e
