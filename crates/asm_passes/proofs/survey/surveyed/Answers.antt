use Rattle.std.proofs.Common.{◌≡◌, ℕ, List, length, ap, ◌∙◌}
use Rattle.asm_passes.specs.Positions.{behind}
use Rattle.asm_passes.proofs.Rest.{first_of, known_with, known_next, passes}
use Rattle.asm_passes.proofs.survey.surveyed.Goals as goal

pub loop-rest-preserved : goal.loop-rest-preserved
loop-rest-preserved c =
    let p = c.loop-rest.at in
    let rest : List ℕ = c.loop-rest.rest.now in
    let line : List ℕ = c.first_line.result.0.now in
    let more : List ℕ = c.first_line.result.1.now in
    let next : c.in_ok-at.at ≡ behind p (first_of p line) = c.in_ok-at.ensures.next in
    record {
      same =
          ap (λ q. known_with c.noted.new.labels q more) next
          ∙ known_next c.loop-rest.labels c.noted.new.labels p rest line more c.first_line.ensures.lines
          c.in_ok-at.ensures.label
          ∙ c.loop-rest.invariant.same;
      passed =
          passes p c.in_ok-at.at (first_of p line) (length rest) (length more) (length c.args.text.now) next
          c.first_line.ensures.left c.loop-rest.invariant.passed;
    }
