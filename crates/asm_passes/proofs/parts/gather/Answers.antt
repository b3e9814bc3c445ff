use Rattle.std.proofs.Common.{◌≡◌, ℕ, ◌+◌, ◌≤◌, List, length, Ok, ap, sym, subst, ◌∙◌}
use Rattle.asm_lines.specs.Lines.{HasDigits}
use Rattle.asm_passes.specs.Collected.{collected}
use Rattle.asm_passes.specs.Items.{digits_in, Counts}
use Rattle.asm_passes.specs.Parts.{Gathered, with, gathered, parts_of}
use Rattle.asm_passes.specs.Positions.{behind, counted, words}
use Rattle.asm_passes.specs.Values.{Known, known_by, given}
use Rattle.asm_passes.proofs.Rest.{first_of, rest_of, words_next, passes}
use Rattle.asm_passes.proofs.Gathering.{next_item, Sound, stays, counted_digits}
use Rattle.asm_passes.proofs.parts.gather.Goals as goal

pub loop-rest-preserved : goal.loop-rest-preserved
loop-rest-preserved c =
    let p = c.loop-rest.at in
    let rest : List ℕ = c.loop-rest.rest.now in
    let line : List ℕ = c.first_line.result.0.now in
    let more : List ℕ = c.first_line.result.1.now in
    let k : Known = known_by c.args.survey.now.labels c.args.survey.now.words in
    let g : Gathered = parts_of c.loop-rest.parts in
    let i = c.in-Ok.item in
    let here : c.counted-line.result ≡ first_of p line =
    c.counted-line.ensures ∙ ap (counted p) c.in_ok-line_of.ensures.line in
    let next : c.behind-next.result ≡ behind p (first_of p line) = c.behind-next.ensures ∙ ap (behind p) here in
    let gives : given k p (first_of p line) ≡ Ok i = sym (c.in-Ok.ensures.value ∙ ap (given k p) here) in
    let few : HasDigits (length line) c.counted-line.result =
    subst (HasDigits (length line)) (sym c.counted-line.ensures)
    (counted_digits (length line) p c.in_ok-line_of.field-0 c.in_ok-line_of.ensures.digits) in
    let digits : digits_in i ≤ length line = c.in-Ok.ensures.digits (length line) few in
    let counts : Counts p c.behind-next.result i =
    subst (λ q. Counts p q i) (sym c.behind-next.ensures) c.in-Ok.ensures.counts in
    let added : parts_of c.add.new.self ≡ with g i = c.in_ok-add-in-Ok.ensures in
    record {
      same =
          ap (λ h. gathered h (collected k (rest_of c.behind-next.result more))) added
          ∙ ap (λ q. gathered (with g i) (collected k (rest_of q more))) next
          ∙ next_item k g p rest line more i c.first_line.ensures.lines gives
          ∙ c.loop-rest.invariant.same;
      words =
          ap (λ q. q.words + words (rest_of q more)) next
          ∙ words_next p rest line more c.first_line.ensures.lines
          ∙ c.loop-rest.invariant.words;
      sound =
          subst (Sound c.args.survey.now.words c.behind-next.result (length more) (length c.args.text.now)) (sym added)
          (stays c.args.survey.now.words p c.behind-next.result (length rest) (length more) (length line)
          (length c.args.text.now) g i c.in-Ok.ensures.good digits counts c.first_line.ensures.shorter
          c.loop-rest.invariant.sound);
      passed =
          passes p c.behind-next.result (first_of p line) (length rest) (length more) (length c.args.text.now) next
          c.first_line.ensures.left c.loop-rest.invariant.passed;
    }
