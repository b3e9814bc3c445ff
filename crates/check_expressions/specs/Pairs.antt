-- What a production of two operands is, by which production it is.
use Rattle.std.specs.Prelude.{ℕ, Ok}
use Rattle.tick_tree.specs.Faults.{Checked}
use Rattle.check_operands.specs.declared.operand.Operand.{Operand}
use Rattle.check_rules.specs.declared.state.Stage.{Stage}
use Rattle.check_rules.specs.Productions as productions
use Rattle.check_expressions.specs.declared.pairs.Pair.{Pair}
use Rattle.check_expressions.specs.declared.pairs.Pair.TheVariants as pairs

abbrev pub pair_node : ℕ → Pair → Stage → Operand → Operand → Checked Operand
pair_node line pairs.Index g a b = productions.index_node line g a b
pair_node line (pairs.Binary op) g a b = productions.binary_node line op a b
pair_node line pairs.Assign g a b = productions.assign_node line a b
pair_node line (pairs.Modify op) g a b = productions.modify_node line op a b
pair_node line pairs.Comma g a b = Ok (productions.comma_node a b)
