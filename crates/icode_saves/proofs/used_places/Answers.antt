use Rattle.std.proofs.Common.{arith, length-set}
use Rattle.std.proofs.lemmas.List.{take_more}
use Rattle.icode_saves.proofs.Marked.{marks_more, marks_still}
use Rattle.icode_saves.proofs.used_places.Goals as goal
use Rattle.icode_saves.proofs.used_places.Goals.{then-place-lt12, else-place-lt12}

pub loop-place-preserved : goal.loop-place-preserved
loop-place-preserved c =
    elim c.if-place-lt12.branch [
      | then-place-lt12 w ↦
          rw (w.used-is, take_more c.args.places.now c.loop-place.place-index 0 c.loop-place-test.true) (
            rw (length-set) c.loop-place.invariant.0,
            marks_more _ _ _ (omega (arith, w.if-place-lt12.true)) c.loop-place.invariant.1,
          )
      | else-place-lt12 w ↦
          rw (w.used-is, take_more c.args.places.now c.loop-place.place-index 0 c.loop-place-test.true)
          (c.loop-place.invariant.0, marks_still _ _ _ w.if-place-lt12.false c.loop-place.invariant.1)
    ]
