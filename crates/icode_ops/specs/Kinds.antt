-- The numbers of kinds, as the services of the machine and the image's code write them. They are the project's own.
use Rattle.std.specs.Prelude.{ℕ}
use Rattle.icode_ops.specs.declared.kind.BinKind.{BinKind}
use Rattle.icode_ops.specs.declared.kind.UnKind.{UnKind}
use Rattle.icode_ops.specs.declared.kind.SysKind.{SysKind}
use Rattle.icode_ops.specs.declared.kind.RunKind.{RunKind}
use Rattle.icode_ops.specs.declared.kind.ClosureKind.{ClosureKind}
use Rattle.icode_ops.specs.declared.kind.BinKind.TheVariants as bin_variants
use Rattle.icode_ops.specs.declared.kind.UnKind.TheVariants as un_variants
use Rattle.icode_ops.specs.declared.kind.SysKind.TheVariants as sys_variants
use Rattle.icode_ops.specs.declared.kind.RunKind.TheVariants as run_variants
use Rattle.icode_ops.specs.declared.kind.ClosureKind.TheVariants as closure_variants

abbrev pub bin_number : BinKind → ℕ
bin_number bin_variants.Add = 1
bin_number bin_variants.Subtract = 2
bin_number bin_variants.Multiply = 3
bin_number bin_variants.DivideSigned = 4
bin_number bin_variants.DivideUnsigned = 5
bin_number bin_variants.RemainderSigned = 6
bin_number bin_variants.RemainderUnsigned = 7
bin_number bin_variants.And = 8
bin_number bin_variants.Or = 9
bin_number bin_variants.Xor = 10
bin_number bin_variants.ShiftLeft = 11
bin_number bin_variants.ShiftRightSigned = 12
bin_number bin_variants.ShiftRightUnsigned = 13
bin_number bin_variants.Equal = 14
bin_number bin_variants.NotEqual = 15
bin_number bin_variants.LessSigned = 16
bin_number bin_variants.LessUnsigned = 17
bin_number bin_variants.LessOrEqualSigned = 18
bin_number bin_variants.LessOrEqualUnsigned = 19
bin_number bin_variants.GreaterSigned = 20
bin_number bin_variants.GreaterUnsigned = 21
bin_number bin_variants.GreaterOrEqualSigned = 22
bin_number bin_variants.GreaterOrEqualUnsigned = 23

abbrev pub un_number : UnKind → ℕ
un_number un_variants.Negate = 1
un_number un_variants.Complement = 2
un_number un_variants.IsZero = 3
un_number un_variants.SignedByte = 4
un_number un_variants.Byte = 5
un_number un_variants.SignedHalf = 6
un_number un_variants.Half = 7

abbrev pub sys_number : SysKind → ℕ
sys_number sys_variants.PutInteger = 1
sys_number sys_variants.Exit = 10
sys_number sys_variants.PutByte = 11
sys_number sys_variants.GetByte = 12

abbrev pub run_number : RunKind → ℕ
run_number run_variants.Malloc = 1
run_number run_variants.Compile = 2
run_number run_variants.Local = 3
run_number run_variants.Parameter = 4
run_number run_variants.Begin = 5
run_number run_variants.Expression = 6
run_number run_variants.Statement = 7
run_number run_variants.Variable = 8

abbrev pub closure_number : ClosureKind → ℕ
closure_number closure_variants.Expression = 1
closure_number closure_variants.Statement = 2
