-- The block of the routine: 64 words, and which of them the branches go to.
use Rattle.std.proofs.Common.{◌≡◌, length, refl}
use Rattle.routine_spec.specs.Compile.{compile_code}

whole_block : length compile_code ≡ 64
whole_block = refl
