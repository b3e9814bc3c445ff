use Rattle.wf_programs.proofs.Law.{well_formed_law}
use Rattle.wf_programs.proofs.laws.checked_is_well_formed.Goals as goal

pub returns : goal.returns
returns c = well_formed_law
