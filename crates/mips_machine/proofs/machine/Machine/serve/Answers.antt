use Rattle.std.proofs.Common.{ap, sym, ◌∙◌}
use Rattle.mips_core.specs.Core.{state_of, is_service_hazard}
use Rattle.mips_machine.specs.Progress.{Held}
use Rattle.mips_machine.specs.Served.{stop_from}
use Rattle.mips_machine.proofs.Acts.{hazard_ran}
use Rattle.mips_machine.proofs.machine.Machine.serve.Goals as goal

pub returns-then-is_service_hazard-clause-ran : goal.returns-then-is_service_hazard-clause-ran
returns-then-is_service_hazard-clause-ran g c =
    let is = ap (λ (h : Held). is_service_hazard (state_of h.core)) (sym c.self.view_is) ∙
    sym c.is_service_hazard.ensures ∙ c.if-is_service_hazard.true in
    hazard_ran _ _ c.requires.at _ _ _ is (ap stop_from c.refuse.ensures.stopped) c.refuse.ensures.state
