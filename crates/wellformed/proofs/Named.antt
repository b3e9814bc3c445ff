-- Which captures a node names, one a node. Written by tools/checker/nodes.py.
use Rattle.std.proofs.Common.{◌≡◌, ℕ, List, map}
use Rattle.word32.specs.declared.width.Width.{Width}
use Rattle.icode_ops.specs.declared.kind.BinKind.{BinKind}
use Rattle.icode_ops.specs.declared.kind.UnKind.{UnKind}
use Rattle.typed_tree.specs.declared.expression.Answer.{Answer}
use Rattle.typed_tree.specs.declared.expression.Library.{Library}
use Rattle.typed_tree.specs.declared.expression.CaptureKind.{CaptureKind}
use Rattle.typed_tree.specs.declared.expression.CapturedWord.{CapturedWord}
use Rattle.typed_tree.specs.declared.expression.Expr.{Expr}
use Rattle.typed_tree.specs.declared.expression.Expr.TheOpen.{Expr-F}
use Rattle.typed_tree.specs.declared.expression.Expr.TheVariants as e
use Rattle.typed_tree.proofs.At.{at_const, at_captured, at_var, at_setvar, at_postvar, at_vget, at_vset, at_vpost}
use Rattle.typed_tree.proofs.At.{at_frame, at_load, at_store, at_modify, at_post, at_bin, at_un, at_and, at_or, at_cond}
use Rattle.typed_tree.proofs.At.{at_comma, at_void, at_call, at_callnumber, at_getchar, at_lib, at_tick, at_capture}
use Rattle.typed_tree.proofs.At.{at_splice, at_compile, at_local, at_paramof}
use Rattle.typed_tree.specs.declared.expression.Stmt.{Stmt}
use Rattle.typed_tree.specs.declared.expression.Stmt.TheVariants as st
use Rattle.typed_tree.proofs.At.{on_eval, on_block, on_variable, on_object, on_parameter, on_parameterobject, on_if}
use Rattle.typed_tree.proofs.At.{on_ifelse, on_while, on_do, on_for, on_forstep, on_switch, on_case, on_default}
use Rattle.typed_tree.proofs.At.{on_break, on_continue, on_return, on_returnvalue}
use Rattle.typed_tree.specs.Folds as parts
use Rattle.wellformed.specs.Captured.{named, expr_rule, named_of, stmt_rule, rules}

pub named_const : (a : ℕ) → named (e.Const a) ≡ expr_rule (Expr-F.Const a)
unfolding named
named_const a = at_const expr_rule a

pub named_captured : (a : CapturedWord) (b : ℕ) → named (e.Captured a b) ≡ expr_rule (Expr-F.Captured a b)
unfolding named
named_captured a b = at_captured expr_rule a b

pub named_var : (a : ℕ) → named (e.Var a) ≡ expr_rule (Expr-F.Var a)
unfolding named
named_var a = at_var expr_rule a

pub named_setvar : (a : ℕ) (b : Expr) → named (e.SetVar a b) ≡ expr_rule (Expr-F.SetVar a (named b))
unfolding named
named_setvar a b = at_setvar expr_rule a b

pub named_postvar : (a : ℕ) (b : Width) (c : ℕ) → named (e.PostVar a b c) ≡ expr_rule (Expr-F.PostVar a b c)
unfolding named
named_postvar a b c = at_postvar expr_rule a b c

pub named_vget : (a : ℕ) → named (e.VGet a) ≡ expr_rule (Expr-F.VGet a)
unfolding named
named_vget a = at_vget expr_rule a

pub named_vset : (a : ℕ) (b : Expr) → named (e.VSet a b) ≡ expr_rule (Expr-F.VSet a (named b))
unfolding named
named_vset a b = at_vset expr_rule a b

pub named_vpost : (a : ℕ) (b : ℕ) → named (e.VPost a b) ≡ expr_rule (Expr-F.VPost a b)
unfolding named
named_vpost a b = at_vpost expr_rule a b

pub named_frame : (a : ℕ) → named (e.Frame a) ≡ expr_rule (Expr-F.Frame a)
unfolding named
named_frame a = at_frame expr_rule a

pub named_load : (a : Width) (b : Expr) → named (e.Load a b) ≡ expr_rule (Expr-F.Load a (named b))
unfolding named
named_load a b = at_load expr_rule a b

pub named_store : (a : Width) (b : Expr) (c : Expr) →
    named (e.Store a b c) ≡ expr_rule (Expr-F.Store a (named b) (named c))
unfolding named
named_store a b c = at_store expr_rule a b c

pub named_modify : (a : Width) (b : BinKind) (c : Expr) (d : Expr) →
    named (e.Modify a b c d) ≡ expr_rule (Expr-F.Modify a b (named c) (named d))
unfolding named
named_modify a b c d = at_modify expr_rule a b c d

pub named_post : (a : Width) (b : ℕ) (c : Expr) → named (e.Post a b c) ≡ expr_rule (Expr-F.Post a b (named c))
unfolding named
named_post a b c = at_post expr_rule a b c

pub named_bin : (a : BinKind) (b : Expr) (c : Expr) → named (e.Bin a b c) ≡ expr_rule (Expr-F.Bin a (named b) (named c))
unfolding named
named_bin a b c = at_bin expr_rule a b c

pub named_un : (a : UnKind) (b : Expr) → named (e.Un a b) ≡ expr_rule (Expr-F.Un a (named b))
unfolding named
named_un a b = at_un expr_rule a b

pub named_and : (a : Expr) (b : Expr) → named (e.And a b) ≡ expr_rule (Expr-F.And (named a) (named b))
unfolding named
named_and a b = at_and expr_rule a b

pub named_or : (a : Expr) (b : Expr) → named (e.Or a b) ≡ expr_rule (Expr-F.Or (named a) (named b))
unfolding named
named_or a b = at_or expr_rule a b

pub named_cond : (a : Expr) (b : Expr) (c : Expr) →
    named (e.Cond a b c) ≡ expr_rule (Expr-F.Cond (named a) (named b) (named c))
unfolding named
named_cond a b c = at_cond expr_rule a b c

pub named_comma : (a : Expr) (b : Expr) → named (e.Comma a b) ≡ expr_rule (Expr-F.Comma (named a) (named b))
unfolding named
named_comma a b = at_comma expr_rule a b

pub named_void : (a : Expr) → named (e.Void a) ≡ expr_rule (Expr-F.Void (named a))
unfolding named
named_void a = at_void expr_rule a

pub named_call : (a : Answer) (b : ℕ) (c : List Expr) → named (e.Call a b c) ≡ expr_rule (Expr-F.Call a b (map named c))
unfolding named
named_call a b c = at_call expr_rule a b c

pub named_callnumber : (a : Answer) (b : Expr) (c : List Expr) →
    named (e.CallNumber a b c) ≡ expr_rule (Expr-F.CallNumber a (named b) (map named c))
unfolding named
named_callnumber a b c = at_callnumber expr_rule a b c

pub named_getchar : named e.Getchar ≡ expr_rule Expr-F.Getchar
unfolding named
named_getchar = at_getchar expr_rule

pub named_lib : (a : Library) (b : Expr) → named (e.Lib a b) ≡ expr_rule (Expr-F.Lib a (named b))
unfolding named
named_lib a b = at_lib expr_rule a b

pub named_tick : (a : ℕ) (b : List Expr) → named (e.Tick a b) ≡ expr_rule (Expr-F.Tick a (map named b))
unfolding named
named_tick a b = at_tick expr_rule a b

pub named_capture : (a : CaptureKind) (b : Expr) → named (e.Capture a b) ≡ expr_rule (Expr-F.Capture a (named b))
unfolding named
named_capture a b = at_capture expr_rule a b

pub named_splice : (a : Answer) (b : ℕ) → named (e.Splice a b) ≡ expr_rule (Expr-F.Splice a b)
unfolding named
named_splice a b = at_splice expr_rule a b

pub named_compile : (a : Expr) → named (e.Compile a) ≡ expr_rule (Expr-F.Compile (named a))
unfolding named
named_compile a = at_compile expr_rule a

pub named_local : named e.Local ≡ expr_rule Expr-F.Local
unfolding named
named_local = at_local expr_rule

pub named_paramof : (a : Expr) → named (e.ParamOf a) ≡ expr_rule (Expr-F.ParamOf (named a))
unfolding named
named_paramof a = at_paramof expr_rule a

pub ruleset expressions = (
  named_const,
  named_captured,
  named_var,
  named_setvar,
  named_postvar,
  named_vget,
  named_vset,
  named_vpost,
  named_frame,
  named_load,
  named_store,
  named_modify,
  named_post,
  named_bin,
  named_un,
  named_and,
  named_or,
  named_cond,
  named_comma,
  named_void,
  named_call,
  named_callnumber,
  named_getchar,
  named_lib,
  named_tick,
  named_capture,
  named_splice,
  named_compile,
  named_local,
  named_paramof,
)

pub named_of_eval : (a : Expr) → named_of (st.Eval a) ≡ stmt_rule (parts.Eval (named a))
unfolding named named_of
named_of_eval a = on_eval rules a

pub named_of_block : (a : List Stmt) (b : List Stmt) →
    named_of (st.Block a b) ≡ stmt_rule (parts.Block (map named_of a) (map named_of b))
unfolding named named_of
named_of_block a b = on_block rules a b

pub named_of_variable : (a : ℕ) → named_of (st.Variable a) ≡ stmt_rule (parts.Variable a)
unfolding named named_of
named_of_variable a = on_variable rules a

pub named_of_object : (a : ℕ) (b : ℕ) → named_of (st.Object a b) ≡ stmt_rule (parts.Object a b)
unfolding named named_of
named_of_object a b = on_object rules a b

pub named_of_parameter : (a : ℕ) (b : Width) → named_of (st.Parameter a b) ≡ stmt_rule (parts.Parameter a b)
unfolding named named_of
named_of_parameter a b = on_parameter rules a b

pub named_of_parameterobject : (a : ℕ) (b : Width) (c : ℕ) →
    named_of (st.ParameterObject a b c) ≡ stmt_rule (parts.ParameterObject a b c)
unfolding named named_of
named_of_parameterobject a b c = on_parameterobject rules a b c

pub named_of_if : (a : Expr) (b : Stmt) → named_of (st.If a b) ≡ stmt_rule (parts.If (named a) (named_of b))
unfolding named named_of
named_of_if a b = on_if rules a b

pub named_of_ifelse : (a : Expr) (b : Stmt) (c : Stmt) →
    named_of (st.IfElse a b c) ≡ stmt_rule (parts.IfElse (named a) (named_of b) (named_of c))
unfolding named named_of
named_of_ifelse a b c = on_ifelse rules a b c

pub named_of_while : (a : Expr) (b : Stmt) → named_of (st.While a b) ≡ stmt_rule (parts.While (named a) (named_of b))
unfolding named named_of
named_of_while a b = on_while rules a b

pub named_of_do : (a : Stmt) (b : Expr) → named_of (st.Do a b) ≡ stmt_rule (parts.Do (named_of a) (named b))
unfolding named named_of
named_of_do a b = on_do rules a b

pub named_of_for : (a : Expr) (b : Stmt) → named_of (st.For a b) ≡ stmt_rule (parts.For (named a) (named_of b))
unfolding named named_of
named_of_for a b = on_for rules a b

pub named_of_forstep : (a : Expr) (b : Expr) (c : Stmt) →
    named_of (st.ForStep a b c) ≡ stmt_rule (parts.ForStep (named a) (named b) (named_of c))
unfolding named named_of
named_of_forstep a b c = on_forstep rules a b c

pub named_of_switch : (a : Expr) (b : List Stmt) (c : List Stmt) →
    named_of (st.Switch a b c) ≡ stmt_rule (parts.Switch (named a) (map named_of b) (map named_of c))
unfolding named named_of
named_of_switch a b c = on_switch rules a b c

pub named_of_case : (a : ℕ) → named_of (st.Case a) ≡ stmt_rule (parts.Case a)
unfolding named named_of
named_of_case a = on_case rules a

pub named_of_default : named_of st.Default ≡ stmt_rule parts.Default
unfolding named named_of
named_of_default = on_default rules

pub named_of_break : named_of st.Break ≡ stmt_rule parts.Break
unfolding named named_of
named_of_break = on_break rules

pub named_of_continue : named_of st.Continue ≡ stmt_rule parts.Continue
unfolding named named_of
named_of_continue = on_continue rules

pub named_of_return : named_of st.Return ≡ stmt_rule parts.Return
unfolding named named_of
named_of_return = on_return rules

pub named_of_returnvalue : (a : Expr) → named_of (st.ReturnValue a) ≡ stmt_rule (parts.ReturnValue (named a))
unfolding named named_of
named_of_returnvalue a = on_returnvalue rules a

pub ruleset statements = (
  named_of_eval,
  named_of_block,
  named_of_variable,
  named_of_object,
  named_of_parameter,
  named_of_parameterobject,
  named_of_if,
  named_of_ifelse,
  named_of_while,
  named_of_do,
  named_of_for,
  named_of_forstep,
  named_of_switch,
  named_of_case,
  named_of_default,
  named_of_break,
  named_of_continue,
  named_of_return,
  named_of_returnvalue,
)
