-- What is counted in the pure tree: nodes, which limits and charges are stated in, and the labels and variables of
-- their own that nodes take in the code. These are this project's own rules.
use Rattle.std.specs.Prelude.{ℕ, ◌+◌, max}
use Rattle.typed_tree.specs.declared.expression.Expr.TheOpen.{Expr-F}
use Rattle.typed_tree.specs.Folds.{Parts, Rules, total, greatest}
use Rattle.typed_tree.specs.Folds as parts
use Rattle.typed_tree.specs.Nodes.{Expr, Args, Stmt, Items, TickBody, Expression, Statement, fold_expr, fold_args}
use Rattle.typed_tree.specs.Nodes.{fold_stmt, fold_items}
use Rattle.typed_tree.specs.Sizes.{size_rule, size_rules}

-- ---- sizes

abbrev pub size_of_expr : Expr → ℕ
size_of_expr = fold_expr size_rule

abbrev pub size_of_args : Args → ℕ
size_of_args args = total (fold_args size_rule args)

abbrev pub size_of_stmt : Stmt → ℕ
size_of_stmt = fold_stmt size_rules

abbrev pub size_of_items : Items → ℕ
size_of_items items = total (fold_items size_rules items)

-- how many nodes the body of a tick has
abbrev pub size_of_body : TickBody → ℕ
size_of_body (Expression e) = size_of_expr e
size_of_body (Statement s) = size_of_stmt s

-- ---- what the parts of a node have together

abbrev pub together : Expr-F ℕ → ℕ
together (Expr-F.SetVar i a) = a
together (Expr-F.VSet i a) = a
together (Expr-F.Load w a) = a
together (Expr-F.Store w a b) = a + b
together (Expr-F.Modify w k a b) = a + b
together (Expr-F.Post w step a) = a
together (Expr-F.Bin k a b) = a + b
together (Expr-F.Un k a) = a
together (Expr-F.And a b) = a + b
together (Expr-F.Or a b) = a + b
together (Expr-F.Cond c a b) = c + a + b
together (Expr-F.Comma a b) = a + b
together (Expr-F.Void a) = a
together (Expr-F.Call r f list) = total list
together (Expr-F.CallNumber r a list) = a + total list
together (Expr-F.Lib f a) = a
together (Expr-F.Tick t list) = total list
together (Expr-F.Capture k a) = a
together (Expr-F.Compile a) = a
together (Expr-F.ParamOf a) = a
together _ = 0

-- a step stands behind the body of its loop
abbrev pub all_together : Parts ℕ ℕ → ℕ
all_together (parts.Eval e) = e
all_together (parts.Block variables items) = total variables + total items
all_together (parts.If c s) = c + s
all_together (parts.IfElse c s t) = c + s + t
all_together (parts.While c s) = c + s
all_together (parts.Do s c) = s + c
all_together (parts.For c s) = c + s
all_together (parts.ForStep c step s) = c + s + step
all_together (parts.Switch e variables items) = e + total variables + total items
all_together (parts.ReturnValue e) = e
all_together _ = 0

-- ---- labels: those of a node and of those in it

abbrev pub label_rule : Expr-F ℕ → ℕ
label_rule (Expr-F.And a b) = 2 + a + b
label_rule (Expr-F.Or a b) = 2 + a + b
label_rule (Expr-F.Cond c a b) = 2 + c + a + b
label_rule node = together node

abbrev pub statement_label_rule : Parts ℕ ℕ → ℕ
statement_label_rule (parts.If c s) = 1 + c + s
statement_label_rule (parts.IfElse c s t) = 2 + c + s + t
statement_label_rule (parts.While c s) = 2 + c + s
statement_label_rule (parts.Do s c) = 3 + s + c
statement_label_rule (parts.For c s) = 3 + c + s
statement_label_rule (parts.ForStep c step s) = 3 + c + s + step
statement_label_rule (parts.Switch e variables items) = 1 + e + total variables + total items
statement_label_rule (parts.Case value) = 1
statement_label_rule parts.Default = 1
statement_label_rule node = all_together node

abbrev pub label_rules : Rules ℕ ℕ
label_rules = record { expr = label_rule; stmt = statement_label_rule }

abbrev pub labels_in : Expr → ℕ
labels_in = fold_expr label_rule

abbrev pub labels_in_args : Args → ℕ
labels_in_args args = total (fold_args label_rule args)

abbrev pub labels : Stmt → ℕ
labels = fold_stmt label_rules

abbrev pub labels_of : Items → ℕ
labels_of items = total (fold_items label_rules items)

-- ---- the variables that nodes take for themselves, beside those of the text

abbrev pub temp_rule : Expr-F ℕ → ℕ
temp_rule (Expr-F.And a b) = 1 + a + b
temp_rule (Expr-F.Or a b) = 1 + a + b
temp_rule (Expr-F.Cond c a b) = 1 + c + a + b
temp_rule node = together node

abbrev pub statement_temp_rule : Parts ℕ ℕ → ℕ
statement_temp_rule (parts.Switch e variables items) = 1 + e + total variables + total items
statement_temp_rule node = all_together node

abbrev pub temp_rules : Rules ℕ ℕ
temp_rules = record { expr = temp_rule; stmt = statement_temp_rule }

abbrev pub temps_in : Expr → ℕ
temps_in = fold_expr temp_rule

abbrev pub temps_in_args : Args → ℕ
temps_in_args args = total (fold_args temp_rule args)

abbrev pub temps : Stmt → ℕ
temps = fold_stmt temp_rules

abbrev pub temps_of : Items → ℕ
temps_of items = total (fold_items temp_rules items)

-- ---- the register variables of the text: one more than the greatest that is declared

abbrev pub variable_rule : Parts ℕ ℕ → ℕ
variable_rule (parts.Block variables items) = max (greatest variables) (greatest items)
variable_rule (parts.Variable i) = i + 1
variable_rule (parts.Parameter k w) = k + 1
variable_rule (parts.If c s) = s
variable_rule (parts.IfElse c s t) = max s t
variable_rule (parts.While c s) = s
variable_rule (parts.Do s c) = s
variable_rule (parts.For c s) = s
variable_rule (parts.ForStep c step s) = s
variable_rule (parts.Switch e variables items) = max (greatest variables) (greatest items)
variable_rule _ = 0

-- expressions declare none
abbrev pub no_variable : Expr-F ℕ → ℕ
no_variable node = 0

abbrev pub variable_rules : Rules ℕ ℕ
variable_rules = record { expr = no_variable; stmt = variable_rule }

abbrev pub variables_in : Stmt → ℕ
variables_in = fold_stmt variable_rules

abbrev pub variables_of : Items → ℕ
variables_of items = greatest (fold_items variable_rules items)
