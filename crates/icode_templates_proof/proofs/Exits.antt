-- The run exits.
use Rattle.std.proofs.Common.{ℕ, ◌%◌, ◌<◌, ◌++◌, refl, ap, ◌∙◌}
use Rattle.host_edge.specs.declared.ending.Ending.TheVariants.{Done}
use Rattle.history.specs.Events.{Ended}
use Rattle.mips_model.specs.State.{Code, Data}
use Rattle.mips_model.specs.Laws.{HasAt, at}
use Rattle.mips_model.specs.Steps.{ended}
use Rattle.mips_model.proofs.Reach.{step_acts}
use Rattle.icode_templates.specs.Layout.{Spot}
use Rattle.mips_assembly.specs.Assembly.{syscall}
use Rattle.icode_templates.specs.Templates.{in_code, out_code, service_code}
use Rattle.icode_templates_proof.specs.Spots.{pointer, value, Framed, Usable}
use Rattle.icode_templates_proof.specs.Moves.{EndsIn}
use Rattle.icode_templates_proof.proofs.Operands.{one_in}
use Rattle.icode_templates_proof.proofs.Serving.{argument_is, asking, service_ends}

pub exit_ends : (c : Code) (a bytes : ℕ) (d : Data) (w v : Spot) → Framed (pointer d) bytes → Usable bytes v →
    value d v < 4294967296 → HasAt c a (in_code v ++ (service_code 10 ++ out_code w))
    → EndsIn 4 7 (Ended (Done (value d v % 256))) (at c a 0 d) c d.outside
exit_ends c a bytes d w v f u small h =
    service_ends 10 (Ended (Done (value d v % 256))) c a bytes d w v f u small (λ rest. refl)
    (λ b s. let there = at c b 0 (asking 10 (one_in v d)) in step_acts syscall there s.0 refl ∙
    ap (λ x. ended (Ended (Done (x % 256))) there) (argument_is v d small)) h
