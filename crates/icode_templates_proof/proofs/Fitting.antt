-- The routine has words, and they fit into a block.
use Rattle.std.proofs.Common.{◌≤◌, ◌++◌, length, arith}
use Rattle.mips_model.proofs.Loaded.{AllFit, all_fit_append}
use Rattle.mips_encoder.specs.Table.{Fits}
use Rattle.mips_assembly.specs.Assembly.{nop}
use Rattle.icode_templates_proof.specs.Malloc.{measure_code, pass_code, take_code, return_code, malloc_code}

nop_fits : Fits nop
nop_fits = (omega arith, omega arith, omega arith)

measure_fits : AllFit measure_code
measure_fits = (
  (omega arith, omega arith, omega arith),
  (
    (omega arith, omega arith),
    (
      (omega arith, omega arith, omega arith),
      (
        (omega arith, omega arith, omega arith),
        ((omega arith, omega arith, omega arith), tt),
      ),
    ),
  ),
)

pass_fits : AllFit pass_code
pass_fits = ((omega arith, omega arith, omega arith), (nop_fits, tt))

take_fits : AllFit take_code
take_fits = (
  (omega arith, omega arith, omega arith),
  (
    (omega arith, omega arith, omega arith),
    (
      (omega arith, omega arith, omega arith),
      (
        (omega arith, omega arith, omega arith),
        (
          (omega arith, omega arith, omega arith),
          ((omega arith, omega arith, omega arith), tt),
        ),
      ),
    ),
  ),
)

return_fits : AllFit return_code
return_fits = (omega arith, (nop_fits, tt))

pub malloc_fits : AllFit malloc_code
malloc_fits =
    all_fit_append measure_code (pass_code ++ (take_code ++ return_code)) measure_fits
    (all_fit_append pass_code (take_code ++ return_code) pass_fits
    (all_fit_append take_code return_code take_fits return_fits))

pub malloc_short : length malloc_code ≤ 64
malloc_short = omega arith
