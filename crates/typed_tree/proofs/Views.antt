-- The equations of the view, one a node. Written by tools/checker/nodes.py.
use Rattle.std.proofs.Common.{◌≡◌, ℕ, List, map}
use Rattle.word32.specs.declared.width.Width.{Width}
use Rattle.icode_ops.specs.declared.kind.BinKind.{BinKind}
use Rattle.icode_ops.specs.declared.kind.UnKind.{UnKind}
use Rattle.typed_tree.specs.declared.expression.Answer.{Answer}
use Rattle.typed_tree.specs.declared.expression.Library.{Library}
use Rattle.typed_tree.specs.declared.expression.CaptureKind.{CaptureKind}
use Rattle.typed_tree.specs.declared.expression.CapturedWord.{CapturedWord}
use Rattle.typed_tree.specs.declared.expression.Expr.{Expr}
use Rattle.typed_tree.specs.declared.expression.Expr.TheOpen.{Expr-F}
use Rattle.typed_tree.specs.declared.expression.Expr.TheVariants as e
use Rattle.typed_tree.proofs.At.{at_const, at_captured, at_var, at_setvar, at_postvar, at_vget, at_vset, at_vpost}
use Rattle.typed_tree.proofs.At.{at_frame, at_load, at_store, at_modify, at_post, at_bin, at_un, at_and, at_or, at_cond}
use Rattle.typed_tree.proofs.At.{at_comma, at_void, at_call, at_callnumber, at_getchar, at_lib, at_tick, at_capture}
use Rattle.typed_tree.proofs.At.{at_splice, at_compile, at_local, at_paramof}
use Rattle.typed_tree.specs.declared.expression.Stmt.{Stmt}
use Rattle.typed_tree.specs.declared.expression.Stmt.TheVariants as st
use Rattle.typed_tree.proofs.At.{on_eval, on_block, on_variable, on_object, on_parameter, on_parameterobject, on_if}
use Rattle.typed_tree.proofs.At.{on_ifelse, on_while, on_do, on_for, on_forstep, on_switch, on_case, on_default}
use Rattle.typed_tree.proofs.At.{on_break, on_continue, on_return, on_returnvalue}
use Rattle.typed_tree.specs.Folds as parts
use Rattle.typed_tree.specs.View.{expr_view, expr_rule, stmt_view, stmt_rule, view_rules}

pub view_const : (a : ℕ) → expr_view (e.Const a) ≡ expr_rule (Expr-F.Const a)
unfolding expr_view
view_const a = at_const expr_rule a

pub view_captured : (a : CapturedWord) (b : ℕ) → expr_view (e.Captured a b) ≡ expr_rule (Expr-F.Captured a b)
unfolding expr_view
view_captured a b = at_captured expr_rule a b

pub view_var : (a : ℕ) → expr_view (e.Var a) ≡ expr_rule (Expr-F.Var a)
unfolding expr_view
view_var a = at_var expr_rule a

pub view_setvar : (a : ℕ) (b : Expr) → expr_view (e.SetVar a b) ≡ expr_rule (Expr-F.SetVar a (expr_view b))
unfolding expr_view
view_setvar a b = at_setvar expr_rule a b

pub view_postvar : (a : ℕ) (b : Width) (c : ℕ) → expr_view (e.PostVar a b c) ≡ expr_rule (Expr-F.PostVar a b c)
unfolding expr_view
view_postvar a b c = at_postvar expr_rule a b c

pub view_vget : (a : ℕ) → expr_view (e.VGet a) ≡ expr_rule (Expr-F.VGet a)
unfolding expr_view
view_vget a = at_vget expr_rule a

pub view_vset : (a : ℕ) (b : Expr) → expr_view (e.VSet a b) ≡ expr_rule (Expr-F.VSet a (expr_view b))
unfolding expr_view
view_vset a b = at_vset expr_rule a b

pub view_vpost : (a : ℕ) (b : ℕ) → expr_view (e.VPost a b) ≡ expr_rule (Expr-F.VPost a b)
unfolding expr_view
view_vpost a b = at_vpost expr_rule a b

pub view_frame : (a : ℕ) → expr_view (e.Frame a) ≡ expr_rule (Expr-F.Frame a)
unfolding expr_view
view_frame a = at_frame expr_rule a

pub view_load : (a : Width) (b : Expr) → expr_view (e.Load a b) ≡ expr_rule (Expr-F.Load a (expr_view b))
unfolding expr_view
view_load a b = at_load expr_rule a b

pub view_store : (a : Width) (b : Expr) (c : Expr) →
    expr_view (e.Store a b c) ≡ expr_rule (Expr-F.Store a (expr_view b) (expr_view c))
unfolding expr_view
view_store a b c = at_store expr_rule a b c

pub view_modify : (a : Width) (b : BinKind) (c : Expr) (d : Expr) →
    expr_view (e.Modify a b c d) ≡ expr_rule (Expr-F.Modify a b (expr_view c) (expr_view d))
unfolding expr_view
view_modify a b c d = at_modify expr_rule a b c d

pub view_post : (a : Width) (b : ℕ) (c : Expr) → expr_view (e.Post a b c) ≡ expr_rule (Expr-F.Post a b (expr_view c))
unfolding expr_view
view_post a b c = at_post expr_rule a b c

pub view_bin : (a : BinKind) (b : Expr) (c : Expr) →
    expr_view (e.Bin a b c) ≡ expr_rule (Expr-F.Bin a (expr_view b) (expr_view c))
unfolding expr_view
view_bin a b c = at_bin expr_rule a b c

pub view_un : (a : UnKind) (b : Expr) → expr_view (e.Un a b) ≡ expr_rule (Expr-F.Un a (expr_view b))
unfolding expr_view
view_un a b = at_un expr_rule a b

pub view_and : (a : Expr) (b : Expr) → expr_view (e.And a b) ≡ expr_rule (Expr-F.And (expr_view a) (expr_view b))
unfolding expr_view
view_and a b = at_and expr_rule a b

pub view_or : (a : Expr) (b : Expr) → expr_view (e.Or a b) ≡ expr_rule (Expr-F.Or (expr_view a) (expr_view b))
unfolding expr_view
view_or a b = at_or expr_rule a b

pub view_cond : (a : Expr) (b : Expr) (c : Expr) →
    expr_view (e.Cond a b c) ≡ expr_rule (Expr-F.Cond (expr_view a) (expr_view b) (expr_view c))
unfolding expr_view
view_cond a b c = at_cond expr_rule a b c

pub view_comma : (a : Expr) (b : Expr) → expr_view (e.Comma a b) ≡ expr_rule (Expr-F.Comma (expr_view a) (expr_view b))
unfolding expr_view
view_comma a b = at_comma expr_rule a b

pub view_void : (a : Expr) → expr_view (e.Void a) ≡ expr_rule (Expr-F.Void (expr_view a))
unfolding expr_view
view_void a = at_void expr_rule a

pub view_call : (a : Answer) (b : ℕ) (c : List Expr) →
    expr_view (e.Call a b c) ≡ expr_rule (Expr-F.Call a b (map expr_view c))
unfolding expr_view
view_call a b c = at_call expr_rule a b c

pub view_callnumber : (a : Answer) (b : Expr) (c : List Expr) →
    expr_view (e.CallNumber a b c) ≡ expr_rule (Expr-F.CallNumber a (expr_view b) (map expr_view c))
unfolding expr_view
view_callnumber a b c = at_callnumber expr_rule a b c

pub view_getchar : expr_view e.Getchar ≡ expr_rule Expr-F.Getchar
unfolding expr_view
view_getchar = at_getchar expr_rule

pub view_lib : (a : Library) (b : Expr) → expr_view (e.Lib a b) ≡ expr_rule (Expr-F.Lib a (expr_view b))
unfolding expr_view
view_lib a b = at_lib expr_rule a b

pub view_tick : (a : ℕ) (b : List Expr) → expr_view (e.Tick a b) ≡ expr_rule (Expr-F.Tick a (map expr_view b))
unfolding expr_view
view_tick a b = at_tick expr_rule a b

pub view_capture : (a : CaptureKind) (b : Expr) → expr_view (e.Capture a b) ≡ expr_rule (Expr-F.Capture a (expr_view b))
unfolding expr_view
view_capture a b = at_capture expr_rule a b

pub view_splice : (a : Answer) (b : ℕ) → expr_view (e.Splice a b) ≡ expr_rule (Expr-F.Splice a b)
unfolding expr_view
view_splice a b = at_splice expr_rule a b

pub view_compile : (a : Expr) → expr_view (e.Compile a) ≡ expr_rule (Expr-F.Compile (expr_view a))
unfolding expr_view
view_compile a = at_compile expr_rule a

pub view_local : expr_view e.Local ≡ expr_rule Expr-F.Local
unfolding expr_view
view_local = at_local expr_rule

pub view_paramof : (a : Expr) → expr_view (e.ParamOf a) ≡ expr_rule (Expr-F.ParamOf (expr_view a))
unfolding expr_view
view_paramof a = at_paramof expr_rule a

pub ruleset expressions = (
  view_const,
  view_captured,
  view_var,
  view_setvar,
  view_postvar,
  view_vget,
  view_vset,
  view_vpost,
  view_frame,
  view_load,
  view_store,
  view_modify,
  view_post,
  view_bin,
  view_un,
  view_and,
  view_or,
  view_cond,
  view_comma,
  view_void,
  view_call,
  view_callnumber,
  view_getchar,
  view_lib,
  view_tick,
  view_capture,
  view_splice,
  view_compile,
  view_local,
  view_paramof,
)

pub stmt_view_eval : (a : Expr) → stmt_view (st.Eval a) ≡ stmt_rule (parts.Eval (expr_view a))
unfolding expr_view stmt_view
stmt_view_eval a = on_eval view_rules a

pub stmt_view_block : (a : List Stmt) (b : List Stmt) →
    stmt_view (st.Block a b) ≡ stmt_rule (parts.Block (map stmt_view a) (map stmt_view b))
unfolding expr_view stmt_view
stmt_view_block a b = on_block view_rules a b

pub stmt_view_variable : (a : ℕ) → stmt_view (st.Variable a) ≡ stmt_rule (parts.Variable a)
unfolding expr_view stmt_view
stmt_view_variable a = on_variable view_rules a

pub stmt_view_object : (a : ℕ) (b : ℕ) → stmt_view (st.Object a b) ≡ stmt_rule (parts.Object a b)
unfolding expr_view stmt_view
stmt_view_object a b = on_object view_rules a b

pub stmt_view_parameter : (a : ℕ) (b : Width) → stmt_view (st.Parameter a b) ≡ stmt_rule (parts.Parameter a b)
unfolding expr_view stmt_view
stmt_view_parameter a b = on_parameter view_rules a b

pub stmt_view_parameterobject : (a : ℕ) (b : Width) (c : ℕ) →
    stmt_view (st.ParameterObject a b c) ≡ stmt_rule (parts.ParameterObject a b c)
unfolding expr_view stmt_view
stmt_view_parameterobject a b c = on_parameterobject view_rules a b c

pub stmt_view_if : (a : Expr) (b : Stmt) → stmt_view (st.If a b) ≡ stmt_rule (parts.If (expr_view a) (stmt_view b))
unfolding expr_view stmt_view
stmt_view_if a b = on_if view_rules a b

pub stmt_view_ifelse : (a : Expr) (b : Stmt) (c : Stmt) →
    stmt_view (st.IfElse a b c) ≡ stmt_rule (parts.IfElse (expr_view a) (stmt_view b) (stmt_view c))
unfolding expr_view stmt_view
stmt_view_ifelse a b c = on_ifelse view_rules a b c

pub stmt_view_while : (a : Expr) (b : Stmt) →
    stmt_view (st.While a b) ≡ stmt_rule (parts.While (expr_view a) (stmt_view b))
unfolding expr_view stmt_view
stmt_view_while a b = on_while view_rules a b

pub stmt_view_do : (a : Stmt) (b : Expr) → stmt_view (st.Do a b) ≡ stmt_rule (parts.Do (stmt_view a) (expr_view b))
unfolding expr_view stmt_view
stmt_view_do a b = on_do view_rules a b

pub stmt_view_for : (a : Expr) (b : Stmt) → stmt_view (st.For a b) ≡ stmt_rule (parts.For (expr_view a) (stmt_view b))
unfolding expr_view stmt_view
stmt_view_for a b = on_for view_rules a b

pub stmt_view_forstep : (a : Expr) (b : Expr) (c : Stmt) →
    stmt_view (st.ForStep a b c) ≡ stmt_rule (parts.ForStep (expr_view a) (expr_view b) (stmt_view c))
unfolding expr_view stmt_view
stmt_view_forstep a b c = on_forstep view_rules a b c

pub stmt_view_switch : (a : Expr) (b : List Stmt) (c : List Stmt) →
    stmt_view (st.Switch a b c) ≡ stmt_rule (parts.Switch (expr_view a) (map stmt_view b) (map stmt_view c))
unfolding expr_view stmt_view
stmt_view_switch a b c = on_switch view_rules a b c

pub stmt_view_case : (a : ℕ) → stmt_view (st.Case a) ≡ stmt_rule (parts.Case a)
unfolding expr_view stmt_view
stmt_view_case a = on_case view_rules a

pub stmt_view_default : stmt_view st.Default ≡ stmt_rule parts.Default
unfolding expr_view stmt_view
stmt_view_default = on_default view_rules

pub stmt_view_break : stmt_view st.Break ≡ stmt_rule parts.Break
unfolding expr_view stmt_view
stmt_view_break = on_break view_rules

pub stmt_view_continue : stmt_view st.Continue ≡ stmt_rule parts.Continue
unfolding expr_view stmt_view
stmt_view_continue = on_continue view_rules

pub stmt_view_return : stmt_view st.Return ≡ stmt_rule parts.Return
unfolding expr_view stmt_view
stmt_view_return = on_return view_rules

pub stmt_view_returnvalue : (a : Expr) → stmt_view (st.ReturnValue a) ≡ stmt_rule (parts.ReturnValue (expr_view a))
unfolding expr_view stmt_view
stmt_view_returnvalue a = on_returnvalue view_rules a

pub ruleset statements = (
  stmt_view_eval,
  stmt_view_block,
  stmt_view_variable,
  stmt_view_object,
  stmt_view_parameter,
  stmt_view_parameterobject,
  stmt_view_if,
  stmt_view_ifelse,
  stmt_view_while,
  stmt_view_do,
  stmt_view_for,
  stmt_view_forstep,
  stmt_view_switch,
  stmt_view_case,
  stmt_view_default,
  stmt_view_break,
  stmt_view_continue,
  stmt_view_return,
  stmt_view_returnvalue,
)
