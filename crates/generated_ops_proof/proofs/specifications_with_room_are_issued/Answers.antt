use Rattle.generated_ops_proof.proofs.Taken.{with_room_issued}
use Rattle.generated_ops_proof.proofs.specifications_with_room_are_issued.Goals as goal

pub returns : goal.returns
returns c = with_room_issued
