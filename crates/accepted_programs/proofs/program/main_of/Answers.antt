use Rattle.std.proofs.Common.{ap, ◌∙◌}
use Rattle.std.specs.Option.{unwrap_or}
use Rattle.accepted_programs.proofs.Found.{found_number}
use Rattle.accepted_programs.proofs.program.main_of.Goals as goal

pub returns-clause-main : goal.returns-clause-main
returns-clause-main c =
    found_number c.args.program.now c.functions-2.result.now c.main_number.result c.unwrap_or.result
    c.keeps_law.ensures c.functions-2.ensures c.main_number.ensures
    (λ k e. c.unwrap_or.ensures ∙ ap (λ o. unwrap_or o 0) e)
