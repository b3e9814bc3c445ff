-- What the nodes of a tree name of captures, one a node. Written by tools/checker/nodes.py.
use Rattle.std.proofs.Common.{◌≡◌, ℕ, List, map}
use Rattle.word32.specs.declared.width.Width.{Width}
use Rattle.icode_ops.specs.declared.kind.BinKind.{BinKind}
use Rattle.icode_ops.specs.declared.kind.UnKind.{UnKind}
use Rattle.typed_tree.specs.declared.expression.Answer.{Answer}
use Rattle.typed_tree.specs.declared.expression.Library.{Library}
use Rattle.typed_tree.specs.declared.expression.CaptureKind.{CaptureKind}
use Rattle.typed_tree.specs.declared.expression.CapturedWord.{CapturedWord}
use Rattle.typed_tree.specs.declared.expression.Expr.{Expr}
use Rattle.typed_tree.specs.declared.expression.Expr.TheOpen.{Expr-F}
use Rattle.typed_tree.specs.declared.expression.Expr.TheVariants as e
use Rattle.typed_tree.proofs.At.{at_const, at_captured, at_var, at_setvar, at_postvar, at_vget, at_vset, at_vpost}
use Rattle.typed_tree.proofs.At.{at_frame, at_load, at_store, at_modify, at_post, at_bin, at_un, at_and, at_or, at_cond}
use Rattle.typed_tree.proofs.At.{at_comma, at_void, at_call, at_callnumber, at_getchar, at_lib, at_tick, at_capture}
use Rattle.typed_tree.proofs.At.{at_splice, at_compile, at_local, at_paramof}
use Rattle.typed_tree.specs.declared.expression.Stmt.{Stmt}
use Rattle.typed_tree.specs.declared.expression.Stmt.TheVariants as st
use Rattle.typed_tree.proofs.At.{on_eval, on_block, on_variable, on_object, on_parameter, on_parameterobject, on_if}
use Rattle.typed_tree.proofs.At.{on_ifelse, on_while, on_do, on_for, on_forstep, on_switch, on_case, on_default}
use Rattle.typed_tree.proofs.At.{on_break, on_continue, on_return, on_returnvalue}
use Rattle.typed_tree.specs.Folds as parts
use Rattle.tick_captures.specs.Captures.{names, expr_rule, names_of, statement_rule, rules}

pub names_const : (a : ℕ) → names (e.Const a) ≡ expr_rule (Expr-F.Const a)
unfolding names
names_const a = at_const expr_rule a

pub names_captured : (a : CapturedWord) (b : ℕ) → names (e.Captured a b) ≡ expr_rule (Expr-F.Captured a b)
unfolding names
names_captured a b = at_captured expr_rule a b

pub names_var : (a : ℕ) → names (e.Var a) ≡ expr_rule (Expr-F.Var a)
unfolding names
names_var a = at_var expr_rule a

pub names_setvar : (a : ℕ) (b : Expr) → names (e.SetVar a b) ≡ expr_rule (Expr-F.SetVar a (names b))
unfolding names
names_setvar a b = at_setvar expr_rule a b

pub names_postvar : (a : ℕ) (b : Width) (c : ℕ) → names (e.PostVar a b c) ≡ expr_rule (Expr-F.PostVar a b c)
unfolding names
names_postvar a b c = at_postvar expr_rule a b c

pub names_vget : (a : ℕ) → names (e.VGet a) ≡ expr_rule (Expr-F.VGet a)
unfolding names
names_vget a = at_vget expr_rule a

pub names_vset : (a : ℕ) (b : Expr) → names (e.VSet a b) ≡ expr_rule (Expr-F.VSet a (names b))
unfolding names
names_vset a b = at_vset expr_rule a b

pub names_vpost : (a : ℕ) (b : ℕ) → names (e.VPost a b) ≡ expr_rule (Expr-F.VPost a b)
unfolding names
names_vpost a b = at_vpost expr_rule a b

pub names_frame : (a : ℕ) → names (e.Frame a) ≡ expr_rule (Expr-F.Frame a)
unfolding names
names_frame a = at_frame expr_rule a

pub names_load : (a : Width) (b : Expr) → names (e.Load a b) ≡ expr_rule (Expr-F.Load a (names b))
unfolding names
names_load a b = at_load expr_rule a b

pub names_store : (a : Width) (b : Expr) (c : Expr) →
    names (e.Store a b c) ≡ expr_rule (Expr-F.Store a (names b) (names c))
unfolding names
names_store a b c = at_store expr_rule a b c

pub names_modify : (a : Width) (b : BinKind) (c : Expr) (d : Expr) →
    names (e.Modify a b c d) ≡ expr_rule (Expr-F.Modify a b (names c) (names d))
unfolding names
names_modify a b c d = at_modify expr_rule a b c d

pub names_post : (a : Width) (b : ℕ) (c : Expr) → names (e.Post a b c) ≡ expr_rule (Expr-F.Post a b (names c))
unfolding names
names_post a b c = at_post expr_rule a b c

pub names_bin : (a : BinKind) (b : Expr) (c : Expr) → names (e.Bin a b c) ≡ expr_rule (Expr-F.Bin a (names b) (names c))
unfolding names
names_bin a b c = at_bin expr_rule a b c

pub names_un : (a : UnKind) (b : Expr) → names (e.Un a b) ≡ expr_rule (Expr-F.Un a (names b))
unfolding names
names_un a b = at_un expr_rule a b

pub names_and : (a : Expr) (b : Expr) → names (e.And a b) ≡ expr_rule (Expr-F.And (names a) (names b))
unfolding names
names_and a b = at_and expr_rule a b

pub names_or : (a : Expr) (b : Expr) → names (e.Or a b) ≡ expr_rule (Expr-F.Or (names a) (names b))
unfolding names
names_or a b = at_or expr_rule a b

pub names_cond : (a : Expr) (b : Expr) (c : Expr) →
    names (e.Cond a b c) ≡ expr_rule (Expr-F.Cond (names a) (names b) (names c))
unfolding names
names_cond a b c = at_cond expr_rule a b c

pub names_comma : (a : Expr) (b : Expr) → names (e.Comma a b) ≡ expr_rule (Expr-F.Comma (names a) (names b))
unfolding names
names_comma a b = at_comma expr_rule a b

pub names_void : (a : Expr) → names (e.Void a) ≡ expr_rule (Expr-F.Void (names a))
unfolding names
names_void a = at_void expr_rule a

pub names_call : (a : Answer) (b : ℕ) (c : List Expr) → names (e.Call a b c) ≡ expr_rule (Expr-F.Call a b (map names c))
unfolding names
names_call a b c = at_call expr_rule a b c

pub names_callnumber : (a : Answer) (b : Expr) (c : List Expr) →
    names (e.CallNumber a b c) ≡ expr_rule (Expr-F.CallNumber a (names b) (map names c))
unfolding names
names_callnumber a b c = at_callnumber expr_rule a b c

pub names_getchar : names e.Getchar ≡ expr_rule Expr-F.Getchar
unfolding names
names_getchar = at_getchar expr_rule

pub names_lib : (a : Library) (b : Expr) → names (e.Lib a b) ≡ expr_rule (Expr-F.Lib a (names b))
unfolding names
names_lib a b = at_lib expr_rule a b

pub names_tick : (a : ℕ) (b : List Expr) → names (e.Tick a b) ≡ expr_rule (Expr-F.Tick a (map names b))
unfolding names
names_tick a b = at_tick expr_rule a b

pub names_capture : (a : CaptureKind) (b : Expr) → names (e.Capture a b) ≡ expr_rule (Expr-F.Capture a (names b))
unfolding names
names_capture a b = at_capture expr_rule a b

pub names_splice : (a : Answer) (b : ℕ) → names (e.Splice a b) ≡ expr_rule (Expr-F.Splice a b)
unfolding names
names_splice a b = at_splice expr_rule a b

pub names_compile : (a : Expr) → names (e.Compile a) ≡ expr_rule (Expr-F.Compile (names a))
unfolding names
names_compile a = at_compile expr_rule a

pub names_local : names e.Local ≡ expr_rule Expr-F.Local
unfolding names
names_local = at_local expr_rule

pub names_paramof : (a : Expr) → names (e.ParamOf a) ≡ expr_rule (Expr-F.ParamOf (names a))
unfolding names
names_paramof a = at_paramof expr_rule a

pub ruleset expressions = (
  names_const,
  names_captured,
  names_var,
  names_setvar,
  names_postvar,
  names_vget,
  names_vset,
  names_vpost,
  names_frame,
  names_load,
  names_store,
  names_modify,
  names_post,
  names_bin,
  names_un,
  names_and,
  names_or,
  names_cond,
  names_comma,
  names_void,
  names_call,
  names_callnumber,
  names_getchar,
  names_lib,
  names_tick,
  names_capture,
  names_splice,
  names_compile,
  names_local,
  names_paramof,
)

pub names_of_eval : (a : Expr) → names_of (st.Eval a) ≡ statement_rule (parts.Eval (names a))
unfolding names names_of
names_of_eval a = on_eval rules a

pub names_of_block : (a : List Stmt) (b : List Stmt) →
    names_of (st.Block a b) ≡ statement_rule (parts.Block (map names_of a) (map names_of b))
unfolding names names_of
names_of_block a b = on_block rules a b

pub names_of_variable : (a : ℕ) → names_of (st.Variable a) ≡ statement_rule (parts.Variable a)
unfolding names names_of
names_of_variable a = on_variable rules a

pub names_of_object : (a : ℕ) (b : ℕ) → names_of (st.Object a b) ≡ statement_rule (parts.Object a b)
unfolding names names_of
names_of_object a b = on_object rules a b

pub names_of_parameter : (a : ℕ) (b : Width) → names_of (st.Parameter a b) ≡ statement_rule (parts.Parameter a b)
unfolding names names_of
names_of_parameter a b = on_parameter rules a b

pub names_of_parameterobject : (a : ℕ) (b : Width) (c : ℕ) →
    names_of (st.ParameterObject a b c) ≡ statement_rule (parts.ParameterObject a b c)
unfolding names names_of
names_of_parameterobject a b c = on_parameterobject rules a b c

pub names_of_if : (a : Expr) (b : Stmt) → names_of (st.If a b) ≡ statement_rule (parts.If (names a) (names_of b))
unfolding names names_of
names_of_if a b = on_if rules a b

pub names_of_ifelse : (a : Expr) (b : Stmt) (c : Stmt) →
    names_of (st.IfElse a b c) ≡ statement_rule (parts.IfElse (names a) (names_of b) (names_of c))
unfolding names names_of
names_of_ifelse a b c = on_ifelse rules a b c

pub names_of_while : (a : Expr) (b : Stmt) →
    names_of (st.While a b) ≡ statement_rule (parts.While (names a) (names_of b))
unfolding names names_of
names_of_while a b = on_while rules a b

pub names_of_do : (a : Stmt) (b : Expr) → names_of (st.Do a b) ≡ statement_rule (parts.Do (names_of a) (names b))
unfolding names names_of
names_of_do a b = on_do rules a b

pub names_of_for : (a : Expr) (b : Stmt) → names_of (st.For a b) ≡ statement_rule (parts.For (names a) (names_of b))
unfolding names names_of
names_of_for a b = on_for rules a b

pub names_of_forstep : (a : Expr) (b : Expr) (c : Stmt) →
    names_of (st.ForStep a b c) ≡ statement_rule (parts.ForStep (names a) (names b) (names_of c))
unfolding names names_of
names_of_forstep a b c = on_forstep rules a b c

pub names_of_switch : (a : Expr) (b : List Stmt) (c : List Stmt) →
    names_of (st.Switch a b c) ≡ statement_rule (parts.Switch (names a) (map names_of b) (map names_of c))
unfolding names names_of
names_of_switch a b c = on_switch rules a b c

pub names_of_case : (a : ℕ) → names_of (st.Case a) ≡ statement_rule (parts.Case a)
unfolding names names_of
names_of_case a = on_case rules a

pub names_of_default : names_of st.Default ≡ statement_rule parts.Default
unfolding names names_of
names_of_default = on_default rules

pub names_of_break : names_of st.Break ≡ statement_rule parts.Break
unfolding names names_of
names_of_break = on_break rules

pub names_of_continue : names_of st.Continue ≡ statement_rule parts.Continue
unfolding names names_of
names_of_continue = on_continue rules

pub names_of_return : names_of st.Return ≡ statement_rule parts.Return
unfolding names names_of
names_of_return = on_return rules

pub names_of_returnvalue : (a : Expr) → names_of (st.ReturnValue a) ≡ statement_rule (parts.ReturnValue (names a))
unfolding names names_of
names_of_returnvalue a = on_returnvalue rules a

pub ruleset statements = (
  names_of_eval,
  names_of_block,
  names_of_variable,
  names_of_object,
  names_of_parameter,
  names_of_parameterobject,
  names_of_if,
  names_of_ifelse,
  names_of_while,
  names_of_do,
  names_of_for,
  names_of_forstep,
  names_of_switch,
  names_of_case,
  names_of_default,
  names_of_break,
  names_of_continue,
  names_of_return,
  names_of_returnvalue,
)
