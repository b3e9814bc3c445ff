-- The instructions of services, of the routine's call, of loads and of stores have words.
use Rattle.std.proofs.Common.{ℕ, [], ◌∷◌, ◌<◌, arith}
use Rattle.word32.specs.declared.width.Width.{Width}
use Rattle.word32.specs.declared.width.Width.TheVariants as width
use Rattle.mips_model.proofs.Loaded.{AllFit}
use Rattle.limits.specs.declared.ops.TheConstants.{MOST_CAPTURES}
use Rattle.icode_ops.specs.Kinds.{sys_number, run_number, closure_number}
use Rattle.icode_ops.specs.declared.kind.SysKind.{SysKind}
use Rattle.icode_ops.specs.declared.kind.SysKind.TheVariants as sys
use Rattle.icode_ops.specs.declared.kind.RunKind.{RunKind}
use Rattle.icode_ops.specs.declared.kind.RunKind.TheVariants as run
use Rattle.icode_ops.specs.declared.kind.ClosureKind.{ClosureKind}
use Rattle.icode_ops.specs.declared.kind.ClosureKind.TheVariants as closure
use Rattle.icode_templates.specs.Templates.{service_code, routine_code, put_code, range_check}
use Rattle.icode_templates.specs.Templates.{load_instruction, store_instruction}

service_low : (kind : SysKind) → sys_number kind < 65536
service_low sys.PutInteger = omega arith
service_low sys.Exit = omega arith
service_low sys.PutByte = omega arith
service_low sys.GetByte = omega arith

pub service_fits : (kind : SysKind) → AllFit (service_code (sys_number kind))
service_fits kind =
    let low = service_low kind in (
      (omega arith, omega arith, omega arith),
      ((omega arith, omega arith, omega (arith, low)), (tt, ((omega arith, omega arith, omega arith), tt))),
    )

pub routine_fits : (routine : RunKind) → AllFit (routine_code (run_number routine))
routine_fits routine =
    let low = routine_low routine in (
      (omega arith, omega arith, omega arith),
      (omega (arith, low), ((omega arith, omega arith, omega arith), ((omega arith, omega arith, omega arith), tt))),
    )
  where
    routine_low : (k : RunKind) → run_number k < 9
    routine_low run.Malloc = omega arith
    routine_low run.Compile = omega arith
    routine_low run.Local = omega arith
    routine_low run.Parameter = omega arith
    routine_low run.Begin = omega arith
    routine_low run.Expression = omega arith
    routine_low run.Statement = omega arith
    routine_low run.Variable = omega arith

-- a closure is made, and gets a word
pub closure_fits : (kind : ClosureKind) → closure_number kind < 3
closure_fits closure.Expression = omega arith
closure_fits closure.Statement = omega arith

pub put_fits : (i : ℕ) → i < MOST_CAPTURES → AllFit (put_code i)
put_fits i l = (
  (omega arith, omega arith, omega arith),
  (
    (omega arith, omega (arith, l)),
    ((omega arith, omega arith, omega arith), ((omega arith, omega arith, omega (arith, l)), tt)),
  ),
)

pub range_fits : (r : ℕ) → r < 32 → AllFit (range_check r)
range_fits r h = (
  (omega (arith, h), omega arith, omega arith),
  (
    (omega (arith, h), omega (arith, h), omega arith),
    ((omega (arith, h), omega arith, omega arith), ((omega arith, omega arith, omega arith), (omega arith, tt))),
  ),
)

pub load_word : (kind : Width) → AllFit (load_instruction kind ∷ [])
load_word width.SignedByte = ((omega arith, omega arith, omega arith), tt)
load_word width.Byte = ((omega arith, omega arith, omega arith), tt)
load_word width.SignedHalf = ((omega arith, omega arith, omega arith), tt)
load_word width.Half = ((omega arith, omega arith, omega arith), tt)
load_word width.Word = ((omega arith, omega arith, omega arith), tt)

pub store_word : (kind : Width) → AllFit (store_instruction kind ∷ [])
store_word width.SignedByte = ((omega arith, omega arith, omega arith), tt)
store_word width.Byte = ((omega arith, omega arith, omega arith), tt)
store_word width.SignedHalf = ((omega arith, omega arith, omega arith), tt)
store_word width.Half = ((omega arith, omega arith, omega arith), tt)
store_word width.Word = ((omega arith, omega arith, omega arith), tt)
