use Rattle.std.proofs.Common.{rules, ◌≢◌, ◌⊎◌, inl, inr}
use Rattle.word32.proofs.Signs.{quotient_is, remainder_is, divides}
use Rattle.word32.proofs.division.div_s.Goals.{else-a-eq2147483648-via-then-a-eq2147483648+else-b-eq4294967295}
use Rattle.word32.proofs.division.div_s.Goals.{else-a-eq2147483648-via-else-a-eq2147483648}
use Rattle.word32.proofs.division.div_s.Goals as goal

pub returns-then-b-eq4294967295 : goal.returns-then-b-eq4294967295
returns-then-b-eq4294967295 c = search rules

pub returns : goal.returns
returns c =
    let a = c.args.a in
    let b = c.args.b in
    let first = c.cast_signed-dividend.ensures in
    let second = c.cast_signed-divisor.ensures in
    let fits : (a ≢ 2147483648) ⊎ (b ≢ 4294967295) =
    elim c.else-a-eq2147483648.branch [
      | else-a-eq2147483648-via-then-a-eq2147483648+else-b-eq4294967295 w ↦ inr w.if-b-eq4294967295.false
      | else-a-eq2147483648-via-else-a-eq2147483648 w ↦ inl w.if-a-eq2147483648.false
    ] in
    divides a b _ _ c.if-b-eq0.false fits
    (quotient_is a b _ _ _ c.ranges.a.fits c.ranges.b.fits first second c.cast_unsigned.ensures)
    (remainder_is a b _ _ _ c.ranges.a.fits c.ranges.b.fits first second c.cast_unsigned-2.ensures)
