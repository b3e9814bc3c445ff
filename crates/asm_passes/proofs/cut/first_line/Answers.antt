use Rattle.std.proofs.Common.{◌≡◌, ℕ, ◌+◌, ◌≤◌, ◌∷◌, List, length, take, drop, ap, sym, ◌∙◌, subst, arith}
use Rattle.std.proofs.lemmas.List.{take_rest, take_all, drop_all}
use Rattle.asm_passes.specs.Cut.{lines}
use Rattle.asm_passes.proofs.CutLines.{cuts, Cuts}
use Rattle.asm_passes.proofs.cut.first_line.Goals as goal

pub returns-then-end-text-clause-lines : goal.returns-then-end-text-clause-lines
returns-then-end-text-clause-lines c =
    let z : List ℕ = c.args.text.now in
    let n : ℕ = c.line_len-end.result in
    subst (Cuts z) (sym c.line_len-end.ensures.value) (cuts z c.requires)
    ∙ ap (λ y. take n z ∷ lines y) (sym (take_rest z (n + 1)))

pub returns-else-end-text-clause-lines : goal.returns-else-end-text-clause-lines
returns-else-end-text-clause-lines c =
    let z : List ℕ = c.args.text.now in
    let n : ℕ = c.line_len-end.result in
    let over : length z ≤ n = c.if-end-text.false in
    let over' : length z ≤ n + 1 = omega (arith, over) in
    let nothing : drop (n + 1) z ≡ drop n z = drop_all (n + 1) z over' ∙ sym (drop_all n z over) in
    subst (Cuts z) (sym c.line_len-end.ensures.value) (cuts z c.requires)
    ∙ ap (λ y. y ∷ lines (drop (n + 1) z)) (take_all n z over)
    ∙ ap (λ y. z ∷ lines y) (nothing ∙ sym (take_rest z n))
