use Rattle.icode_templates_proof.proofs.Loads as lemmas
use Rattle.icode_templates_proof.proofs.loads_are_made.Goals as goal

pub returns : goal.returns
returns call kind c a bytes d w v low f uw u b words ok h =
    lemmas.load_writes kind c a bytes d w v low f u b h uw words ok
