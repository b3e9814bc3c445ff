-- Ops that name functions whose address isn't known yet.
use Rattle.std.specs.Prelude.{◌==◌, Bool, false, List}
use Rattle.std.specs.List.{list_any}
use Rattle.icode_ops.specs.declared.op.Op.{Op}
use Rattle.icode_ops.specs.declared.op.Op.TheVariants as op

-- such a call goes to address 0, where no function stands, and so does the making of a tick's specification
abbrev pub goes_nowhere : Op → Bool
goes_nowhere (op.Call address) = address == 0
goes_nowhere (op.New to address kind captures) = address == 0
goes_nowhere o = false

abbrev pub calls_unknown : List Op → Bool
calls_unknown os = list_any goes_nowhere os
