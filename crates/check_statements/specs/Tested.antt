-- What stands round the body of a statement of a test and a body, and its node, by which statement it is.
use Rattle.std.specs.Prelude.{ℕ, List}
use Rattle.tick_tree.specs.Faults.{Checked}
use Rattle.typed_tree.specs.declared.expression.Stmt.{Stmt}
use Rattle.check_operands.specs.declared.operand.Operand.{Operand}
use Rattle.check_rules.specs.declared.state.Around.{Around}
use Rattle.check_rules.specs.Statements as statements
use Rattle.check_statements.specs.declared.tested.Tested.{Tested}
use Rattle.check_statements.specs.declared.tested.Tested.TheVariants as tests

abbrev pub tested_around : Tested → Around → Around
tested_around tests.If a = statements.inside a
tested_around tests.While a = statements.looped a

abbrev pub tested_node : ℕ → Tested → Operand → Stmt → Checked (List Stmt)
tested_node line tests.If o x = statements.if_node line o x
tested_node line tests.While o x = statements.while_node line o x
