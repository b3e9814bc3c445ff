-- What is checked as a production with a type name is entered, and its node, by which production it is.
use Rattle.std.specs.Prelude.{ℕ, Ok}
use Rattle.c_types.specs.declared.ctype.CType.{CType}
use Rattle.tick_tree.specs.Faults.{Checked}
use Rattle.check_operands.specs.declared.operand.Operand.{Operand}
use Rattle.check_operands.specs.Operands as nodes
use Rattle.check_operands.specs.Stages as stages
use Rattle.check_rules.specs.declared.state.Stage.{Stage}
use Rattle.check_rules.specs.Entries.{staging_entry}
use Rattle.check_rules.specs.Productions as productions
use Rattle.check_expressions.specs.declared.named.Naming.{Naming}
use Rattle.check_expressions.specs.declared.named.Naming.TheVariants as namings
use Rattle.check_expressions.specs.declared.named.Typing.{Typing}
use Rattle.check_expressions.specs.declared.named.Typing.TheVariants as typings

-- ---- a type name

abbrev pub naming_entry : ℕ → Naming → Stage → Checked (Unit {0})
naming_entry line namings.Size g = Ok tt
naming_entry line namings.Local g = staging_entry line g

abbrev pub naming_node : ℕ → Naming → CType → Checked Operand
naming_node line namings.Size t = nodes.size line t
naming_node line namings.Local t = stages.local line t

-- ---- a type name, and an operand

abbrev pub typing_entry : ℕ → Typing → Stage → Checked (Unit {0})
typing_entry line typings.Cast g = Ok tt
typing_entry line typings.Parameter g = staging_entry line g

abbrev pub typing_node : ℕ → Typing → CType → Operand → Checked Operand
typing_node line typings.Cast t o = productions.cast_node line t o
typing_node line typings.Parameter t o = productions.parameter_node line t o
