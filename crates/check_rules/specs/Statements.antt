-- What each statement is by its parts, and what is checked as it is entered: `break` and `continue` in a loop of the
-- same function or tick (for `break` also in a switch), `case` and `default` directly in a switch's block. A test comes
-- after all parts of its statement. These are C's rules; the order is this project's own. A statement gives a list of
-- one node.
use Rattle.std.specs.Prelude.{ℕ, Bool, true, false, ◌&&◌, ◌||◌, if◌then◌else◌, List, [], ◌∷◌, Option, Some, None, Ok}
use Rattle.std.specs.Prelude.{Err}
use Rattle.tick_tree.specs.declared.fault.FaultKind.TheVariants as fault
use Rattle.tick_tree.specs.Faults.{Checked, refuse, ◌>>=◌}
use Rattle.typed_tree.specs.declared.expression.Expr.{Expr}
use Rattle.typed_tree.specs.declared.expression.Expr.TheVariants as ex
use Rattle.typed_tree.specs.declared.expression.Stmt.{Stmt}
use Rattle.typed_tree.specs.declared.expression.Stmt.TheVariants as st
use Rattle.check_operands.specs.declared.operand.Operand.{Operand}
use Rattle.check_operands.specs.Operands as nodes
use Rattle.check_operands.specs.Operands.{value_of, effect}
use Rattle.check_operands.specs.Calls as calls
use Rattle.meaning_operators.specs.Constants.{constant}
use Rattle.check_rules.specs.declared.labels.Labels.{Labels}
use Rattle.check_rules.specs.declared.state.Around.{Around}
use Rattle.check_rules.specs.declared.state.Stage.{Stage}
use Rattle.check_rules.specs.declared.state.Stage.TheVariants as stage
use Rattle.check_rules.specs.declared.state.State.{State}
use Rattle.check_rules.specs.Labels as labels
use Rattle.check_rules.specs.Walks.{Rule}

-- ---- what stands round the parts

-- round a part that is no item of a switch's block
abbrev pub inside : Around → Around
inside a = record a { is_direct = false }

-- round the body of a loop
abbrev pub looped : Around → Around
looped a = record a { in_loop = true; is_direct = false }

-- round the items of a switch's block
abbrev pub switched : Around → Around
switched a = record a { in_switch = true; is_direct = true }

-- ---- the node of a statement

-- the one node of a statement
abbrev pub one : Stmt → List Stmt
one x = x ∷ []

-- an expression
abbrev pub alone : Operand → List Stmt
alone o = one (st.Eval (effect o))

-- a body is one node
abbrev pub body : List Stmt → Stmt
body [] = st.Block [] []
body (x ∷ []) = x
body (x ∷ y ∷ rest) = st.Block [] (x ∷ y ∷ rest)

-- ---- what is checked as a statement is entered

abbrev pub break_entry : ℕ → Around → Checked (List Stmt)
break_entry line a = if a.in_loop || a.in_switch then Ok (one st.Break) else refuse fault.BreakOutside line

abbrev pub continue_entry : ℕ → Around → Checked (List Stmt)
continue_entry line a = if a.in_loop then Ok (one st.Continue) else refuse fault.ContinueOutside line

-- a `case` whose value has the form of a constant, or not
abbrev pub case_entry : ℕ → Bool → Around → Checked (Unit {0})
case_entry line form a = if a.is_direct && form then Ok tt else refuse fault.BadCase line

-- ---- labels

abbrev pub with_labels : Labels → State → State
with_labels l s = record s { labels = l }

abbrev pub labelled : Stmt → State → Checked (Unit {0} × Labels) → Checked (List Stmt × State)
labelled node s (Ok r) = Ok (one node, with_labels r.1 s)
labelled node s (Err f) = Err f

abbrev pub case_by : ℕ → Option ℕ → Rule State (List Stmt)
case_by line None s = refuse fault.BadCase line
case_by line (Some n) s = labelled (st.Case n) s (labels.case line n s.labels)

-- a `case` with this value
unfoldable pub case_node : ℕ → Operand → Rule State (List Stmt)
case_node line o s = case_by line (constant (effect o)) s

unfoldable pub default_node : ℕ → Around → Rule State (List Stmt)
default_node line a s = if a.is_direct then labelled st.Default s (labels.default line s.labels) else
    refuse fault.BadCase line

-- into a switch, which has no labels yet; those of the switch round it
unfoldable pub switch_entered : Rule State Labels
switch_entered s = Ok (s.labels, with_labels labels.new s)

-- ---- tests, which come after all parts

abbrev pub condition_node : ℕ → Operand → Checked Expr
condition_node line o = nodes.condition line (value_of o)

unfoldable pub if_node : ℕ → Operand → Stmt → Checked (List Stmt)
if_node line o x = condition_node line o >>= (λ e. Ok (one (st.If e x)))

unfoldable pub if_else_node : ℕ → Operand → Stmt → Stmt → Checked (List Stmt)
if_else_node line o x y = condition_node line o >>= (λ e. Ok (one (st.IfElse e x y)))

unfoldable pub while_node : ℕ → Operand → Stmt → Checked (List Stmt)
while_node line o x = condition_node line o >>= (λ e. Ok (one (st.While e x)))

unfoldable pub do_node : ℕ → Stmt → Operand → Checked (List Stmt)
do_node line x o = condition_node line o >>= (λ e. Ok (one (st.Do x e)))

-- the test of a `for`, which may be absent
abbrev pub for_condition : ℕ → Option Operand → Checked Expr
for_condition line None = Ok (ex.Const 1)
for_condition line (Some o) = condition_node line o

abbrev pub for_by : Expr → Option Operand → Stmt → Stmt
for_by e None x = st.For e x
for_by e (Some p) x = st.ForStep e (effect p) x

-- a `for` behind its first part
unfoldable pub for_node : ℕ → Option Operand → Option Operand → Stmt → Checked Stmt
for_node line o p x = for_condition line o >>= (λ e. Ok (for_by e p x))

abbrev pub switched_node : ℕ → Operand → Checked Expr
switched_node line o = nodes.switched line (value_of o)

-- a switch whose block has these variables and these items
unfoldable pub switch_node : ℕ → Operand → List Stmt → List Stmt → Checked (List Stmt)
switch_node line o vs xs = switched_node line o >>= (λ e. Ok (one (st.Switch e vs xs)))

-- ---- returns

abbrev pub returned_by : ℕ → Stage → Operand → State → Checked Expr
returned_by line stage.Function o s = calls.returned line s.frame.result (value_of o)
returned_by line stage.Tick o s = calls.tick_returned line (value_of o)
returned_by line stage.Dollar o s = calls.tick_returned line (value_of o)

unfoldable pub return_node : ℕ → Stage → Operand → State → Checked (List Stmt)
return_node line g o s = returned_by line g o s >>= (λ e. Ok (one (st.ReturnValue e)))
