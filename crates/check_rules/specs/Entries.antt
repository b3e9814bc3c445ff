-- The checks that are made as a node is entered, before its parts: where specifications may be made and handled. A tick
-- stands in a function, `$` in a tick, and `compile`, `local` and `param` outside of ticks. These are `C's rules.
use Rattle.std.specs.Prelude.{ℕ, Ok}
use Rattle.tick_tree.specs.declared.base.UnaryOp.{UnaryOp}
use Rattle.tick_tree.specs.declared.base.UnaryOp.TheVariants as unary_op
use Rattle.tick_tree.specs.declared.fault.FaultKind.TheVariants as fault
use Rattle.tick_tree.specs.Faults.{Checked, refuse}
use Rattle.check_rules.specs.declared.state.Stage.{Stage}
use Rattle.check_rules.specs.declared.state.Stage.TheVariants as stage

-- a backquote
abbrev pub tick_entry : ℕ → Stage → Checked (Unit {0})
tick_entry line stage.Function = Ok tt
tick_entry line stage.Tick = refuse fault.NestedTick line
tick_entry line stage.Dollar = refuse fault.NestedTick line

-- `compile`, `local` and `param`
abbrev pub staging_entry : ℕ → Stage → Checked (Unit {0})
staging_entry line stage.Function = Ok tt
staging_entry line stage.Tick = refuse fault.StageInTick line
staging_entry line stage.Dollar = refuse fault.StageInTick line

-- `$`: the stage of its operand
abbrev pub dollar_entry : ℕ → Stage → Checked Stage
dollar_entry line stage.Function = refuse fault.DollarOutside line
dollar_entry line stage.Tick = Ok stage.Dollar
dollar_entry line stage.Dollar = refuse fault.DollarOutside line

-- an operator before its operand: the stage of the operand
abbrev pub unary_entry : ℕ → UnaryOp → Stage → Checked Stage
unary_entry line unary_op.Dollar g = dollar_entry line g
unary_entry line _ g = Ok g
