use Rattle.std.proofs.Common.{ℕ, ◌≢◌}
use Rattle.asm_passes.specs.Collected.{placed_lines}
use Rattle.asm_passes.proofs.Gathering.{all_gathered}
use Rattle.asm_passes.proofs.parts.gathered.Goals as goal

pub returns-clause-gives : goal.returns-clause-gives
returns-clause-gives c =
    let n : ℕ = c.in_ok-survey.survey.words in
    let some : n ≢ 0 = λ e. c.if-survey-eq0.false e in
    all_gathered (placed_lines c.args.text.now) n c.in_ok-survey.survey.labels c.gather.result some
    c.in_ok-survey.ensures c.gather.ensures.gives
