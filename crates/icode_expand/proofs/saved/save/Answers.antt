use Rattle.std.proofs.Common.{ℕ, ◌≡◌, ◌++◌, List, ap, sym, ◌∙◌, append_assoc, arith}
use Rattle.icode_templates.specs.Words.{words}
use Rattle.icode_templates.specs.Frames.{saves}
use Rattle.icode_expand.proofs.Marked.{so_far, so_far_all, saves_more, saves_still}
use Rattle.icode_expand.proofs.saved.save.Goals as goal
use Rattle.icode_expand.proofs.saved.save.Goals.{then-has, else-has}

pub loop-place-preserved : goal.loop-place-preserved
loop-place-preserved c =
    elim c.if-has.branch [
      | then-has w ↦ (
        simp (
          w.code-is,
          w.push.ensures.words,
          w.sw.ensures,
          w.place_register.ensures,
          c.loop-place.invariant.0,
          saves_more c.args.saved.now _ c.loop-place-test.true (sym c.has.ensures ∙ w.if-has.true),
          append_assoc,
        ),
        rw w.code-is (omega arith),
      )
      | else-has w ↦ (
        simp (
          w.code-is,
          c.loop-place.invariant.0,
          saves_still c.args.saved.now _ c.loop-place-test.true (sym c.has.ensures ∙ w.if-has.false),
        ),
        rw w.code-is (omega arith),
      )
    ]

pub returns-clause-words : goal.returns-clause-words
returns-clause-words c =
    let k : c.loop-place.place ≡ 12 = omega arith in
    c.loop-place.invariant.0
    ∙ (ap (λ (p : ℕ). c.args.code.now ++ words (saves (so_far c.args.saved.now p))) k
    ∙ ap (λ (ks : List ℕ). c.args.code.now ++ words (saves ks)) (so_far_all c.args.saved.now ∙ c.keeps_law.ensures))
