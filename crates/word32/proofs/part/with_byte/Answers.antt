use Rattle.std.proofs.Common.{◌-◌, ◌*◌, ◌%◌, refl, arith}
use Rattle.word32.specs.Parts.{with_byte}
use Rattle.word32.proofs.Shifts.{byte_fits, byte_is}
use Rattle.word32.proofs.part.with_byte.Goals as goal

pub overflow_add-result : goal.overflow_add-result
overflow_add-result c =
    let place = c.args.at % 4 in
    omega (arith, byte_fits c.args.word c.args.w c.ranges.word.fits (24 - 8 * place) place (omega arith) refl)

pub returns : goal.returns
unfolding with_byte
returns c =
    let place = c.args.at % 4 in
    byte_is c.args.word c.args.w c.ranges.word.fits (24 - 8 * place) place (omega arith) refl
