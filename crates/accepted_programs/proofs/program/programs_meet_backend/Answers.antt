use Rattle.accepted_programs.proofs.Statics.{meets}
use Rattle.accepted_programs.proofs.Written.{ticks_have_room}
use Rattle.accepted_programs.proofs.program.programs_meet_backend.Goals as goal

pub returns : goal.returns
returns c = meets c.functions_are_ready_in.ensures c.captures_are_few.ensures ticks_have_room
