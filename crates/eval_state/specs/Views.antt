-- What is done now and what is pending in the code, as the definitions of pending work have it.
use Rattle.std.specs.Prelude.{List, map, Option, Some, None}
use Rattle.typed_tree.specs.declared.expression.Expr.{Expr}
use Rattle.typed_tree.specs.declared.expression.Stmt.{Stmt}
use Rattle.typed_tree.specs.Nodes as node
use Rattle.typed_tree.specs.View.{expr_view, stmt_view, args_of, items_of}
use Rattle.history.specs.Events.{Ended}
use Rattle.staged_meaning.specs.World as world
use Rattle.staged_meaning.specs.Specifications.{kinds_of}
use Rattle.eval_state.specs.Pending as pending
use Rattle.eval_state.specs.declared.parts.Flow.{Flow}
use Rattle.eval_state.specs.declared.parts.Flow.TheVariants as flow
use Rattle.eval_state.specs.declared.parts.Now.{Now}
use Rattle.eval_state.specs.declared.parts.Now.TheVariants as now
use Rattle.eval_state.specs.declared.parts.Target.{Target}
use Rattle.eval_state.specs.declared.parts.Target.TheVariants as target
use Rattle.eval_state.specs.declared.parts.ExpressionFrame.{ExpressionFrame}
use Rattle.eval_state.specs.declared.parts.ExpressionFrame.TheVariants as expression
use Rattle.eval_state.specs.declared.parts.StatementFrame.{StatementFrame}
use Rattle.eval_state.specs.declared.parts.StatementFrame.TheVariants as statement
use Rattle.eval_state.specs.declared.parts.EndFrame.{EndFrame}
use Rattle.eval_state.specs.declared.parts.EndFrame.TheVariants as end
use Rattle.eval_state.specs.declared.parts.Frame.{Frame}
use Rattle.eval_state.specs.declared.parts.Frame.TheVariants as frame
use denote.Ref.{Bor}

-- the items and the arguments that a slice of trees is
abbrev pub items_view : List Stmt → node.Items
items_view list = items_of (map stmt_view list)

abbrev pub args_view : List Expr → node.Args
args_view list = args_of (map expr_view list)

abbrev pub flow_view : Flow → world.Flow
flow_view flow.Normal = world.Normal
flow_view flow.Broke = world.Broke
flow_view flow.Continued = world.Continued

abbrev pub now_view : Now → pending.Now
now_view (now.Eval e) = pending.Eval (expr_view e.now)
now_view (now.Exec s) = pending.Exec (stmt_view s.now)
now_view (now.Run list) = pending.Run (items_view list.now)
now_view (now.Value v) = pending.Value v
now_view (now.Left f) = pending.Left (flow_view f)
now_view (now.Returned v) = pending.Returned v
now_view (now.Ended e) = pending.Ended (Ended e)
now_view now.Stopped = pending.Stopped

abbrev pub target_view : Target → pending.Target
target_view (target.Direct answer f) = pending.Direct answer f
target_view (target.Numbered answer f) = pending.Numbered answer f
target_view (target.Specified tick list) = pending.Specified tick (kinds_of (args_view list.now))

-- the step of a loop, if it has one
abbrev pub step_view : Option (Bor Expr) → Option node.Expr
step_view None = None
step_view (Some e) = Some (expr_view e.now)

abbrev pub expression_frame : ExpressionFrame → pending.Frame
expression_frame (expression.SetVar i) = pending.SetVar i
expression_frame (expression.SetGenerated i) = pending.SetGenerated i
expression_frame (expression.Load width) = pending.Load width
expression_frame (expression.StoreAddress width b) = pending.StoreAddress width (expr_view b.now)
expression_frame (expression.StoreValue width at) = pending.StoreValue width at
expression_frame (expression.ModifyAddress width kind b) = pending.ModifyAddress width kind (expr_view b.now)
expression_frame (expression.ModifyValue place kind old) = pending.ModifyValue place.width kind place.at old
expression_frame (expression.Post width step) = pending.Post width step
expression_frame (expression.First kind b) = pending.First kind (expr_view b.now)
expression_frame (expression.Second kind x) = pending.Second kind x
expression_frame (expression.Un kind) = pending.Un kind
expression_frame (expression.And b) = pending.And (expr_view b.now)
expression_frame (expression.Or b) = pending.Or (expr_view b.now)
expression_frame expression.Truth = pending.Truth
expression_frame (expression.Cond a b) = pending.Cond (expr_view a.now) (expr_view b.now)
expression_frame expression.Spend = pending.Spend
expression_frame (expression.Comma b) = pending.Comma (expr_view b.now)
expression_frame expression.Void = pending.Void
expression_frame (expression.Lib kind) = pending.Lib kind
expression_frame expression.Compile = pending.Compile
expression_frame expression.ParamOf = pending.ParamOf
expression_frame (expression.Function answer list) = pending.Function answer (args_view list.now)
expression_frame (expression.Argument t more done) = pending.Argument (target_view t) (args_view more.now) done

abbrev pub statement_frame : StatementFrame → pending.Frame
statement_frame statement.Drop = pending.Drop
statement_frame (statement.If s) = pending.If (stmt_view s.now)
statement_frame (statement.IfElse s t) = pending.IfElse (stmt_view s.now) (stmt_view t.now)
statement_frame (statement.Test d e step s) = pending.Test d (expr_view e.now) (step_view step) (stmt_view s.now)
statement_frame (statement.Step d e step s) = pending.Step d (expr_view e.now) (expr_view step.now) (stmt_view s.now)
statement_frame (statement.RoundTest d s e) = pending.RoundTest d (stmt_view s.now) (expr_view e.now)
statement_frame (statement.ContinuedTest d s e) = pending.ContinuedTest d (stmt_view s.now) (expr_view e.now)
statement_frame (statement.Switch variables items) = pending.Switch (items_view variables.now) (items_view items.now)
statement_frame statement.Return = pending.Return

abbrev pub end_frame : EndFrame → pending.Frame
end_frame (end.Rest items) = pending.Rest (items_view items.now)
end_frame (end.Turn d e step s) = pending.Turn d (expr_view e.now) (step_view step) (stmt_view s.now)
end_frame (end.Round d s e) = pending.Round d (stmt_view s.now) (expr_view e.now)
end_frame (end.Chosen v items) = pending.Chosen v (items_view items.now)
end_frame end.SwitchEnd = pending.SwitchEnd

abbrev pub frame_view : Frame → pending.Frame
frame_view (frame.Expression f) = expression_frame f
frame_view (frame.Statement f) = statement_frame f
frame_view (frame.End f) = end_frame f
