use Rattle.icode_templates_proof.proofs.Stores as lemmas
use Rattle.icode_templates_proof.proofs.stores_are_made.Goals as goal

pub returns : goal.returns
returns call kind c a bytes d v z low f u u' b b' ok h =
    lemmas.store_comes kind c a bytes d v z low f u u' b b' h ok
