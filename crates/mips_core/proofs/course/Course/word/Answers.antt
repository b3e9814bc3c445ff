use Rattle.std.proofs.Common.{◌<◌, arith, subst}
use Rattle.mips_core.specs.Places.{Way}
use Rattle.mips_core.proofs.course.Course.word.Goals as goal

pub returns-then-place-self-clause-some : goal.returns-then-place-self-clause-some
returns-then-place-self-clause-some c =
    let place = c.place-place.ensures.place in
    let lt = c.if-place-self.true in
    let i = c.self.invariant in
    let ends = i.0 in
    let fits = i.1 in
    subst (λ (w : Way). 0 < w.left) c.self.view_is (omega (arith, place, lt, ends, fits))
