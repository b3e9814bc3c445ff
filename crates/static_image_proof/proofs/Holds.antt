-- The headline holds: both seams are proved.
use Rattle.tick_lower_proof.proofs.Following.{lowering}
use Rattle.icode_run_proof.proofs.Whole.{simulated, unspoiled}
use Rattle.static_image_proof.specs.Laws.{HeadlineHolds}
use Rattle.static_image_proof.proofs.Whole.{Seams, headline}

seams : Seams
seams = record { lowering = lowering; simulated = simulated; unspoiled = unspoiled }

pub holds : HeadlineHolds
holds tree accepted program main xs meant imaged own choice =
    headline seams tree accepted program meant main xs imaged own choice
