-- Which values a node uses, one a node. Written by tools/checker/nodes.py.
use Rattle.std.proofs.Common.{◌≡◌, ℕ, List, map}
use Rattle.word32.specs.declared.width.Width.{Width}
use Rattle.icode_ops.specs.declared.kind.BinKind.{BinKind}
use Rattle.icode_ops.specs.declared.kind.UnKind.{UnKind}
use Rattle.typed_tree.specs.declared.expression.Answer.{Answer}
use Rattle.typed_tree.specs.declared.expression.Library.{Library}
use Rattle.typed_tree.specs.declared.expression.CaptureKind.{CaptureKind}
use Rattle.typed_tree.specs.declared.expression.CapturedWord.{CapturedWord}
use Rattle.typed_tree.specs.declared.expression.Expr.{Expr}
use Rattle.typed_tree.specs.declared.expression.Expr.TheOpen.{Expr-F}
use Rattle.typed_tree.specs.declared.expression.Expr.TheVariants as e
use Rattle.typed_tree.proofs.At.{at_const, at_captured, at_var, at_setvar, at_postvar, at_vget, at_vset, at_vpost}
use Rattle.typed_tree.proofs.At.{at_frame, at_load, at_store, at_modify, at_post, at_bin, at_un, at_and, at_or, at_cond}
use Rattle.typed_tree.proofs.At.{at_comma, at_void, at_call, at_callnumber, at_getchar, at_lib, at_tick, at_capture}
use Rattle.typed_tree.proofs.At.{at_splice, at_compile, at_local, at_paramof}
use Rattle.typed_tree.specs.declared.expression.Stmt.{Stmt}
use Rattle.typed_tree.specs.declared.expression.Stmt.TheVariants as st
use Rattle.typed_tree.proofs.At.{on_eval, on_block, on_variable, on_object, on_parameter, on_parameterobject, on_if}
use Rattle.typed_tree.proofs.At.{on_ifelse, on_while, on_do, on_for, on_forstep, on_switch, on_case, on_default}
use Rattle.typed_tree.proofs.At.{on_break, on_continue, on_return, on_returnvalue}
use Rattle.typed_tree.specs.Folds as parts
use Rattle.wellformed.specs.Values.{value_use, expr_rule, uses_values, stmt_rule, rules}

pub value_use_const : (a : ℕ) → value_use (e.Const a) ≡ expr_rule (Expr-F.Const a)
unfolding value_use
value_use_const a = at_const expr_rule a

pub value_use_captured : (a : CapturedWord) (b : ℕ) → value_use (e.Captured a b) ≡ expr_rule (Expr-F.Captured a b)
unfolding value_use
value_use_captured a b = at_captured expr_rule a b

pub value_use_var : (a : ℕ) → value_use (e.Var a) ≡ expr_rule (Expr-F.Var a)
unfolding value_use
value_use_var a = at_var expr_rule a

pub value_use_setvar : (a : ℕ) (b : Expr) → value_use (e.SetVar a b) ≡ expr_rule (Expr-F.SetVar a (value_use b))
unfolding value_use
value_use_setvar a b = at_setvar expr_rule a b

pub value_use_postvar : (a : ℕ) (b : Width) (c : ℕ) → value_use (e.PostVar a b c) ≡ expr_rule (Expr-F.PostVar a b c)
unfolding value_use
value_use_postvar a b c = at_postvar expr_rule a b c

pub value_use_vget : (a : ℕ) → value_use (e.VGet a) ≡ expr_rule (Expr-F.VGet a)
unfolding value_use
value_use_vget a = at_vget expr_rule a

pub value_use_vset : (a : ℕ) (b : Expr) → value_use (e.VSet a b) ≡ expr_rule (Expr-F.VSet a (value_use b))
unfolding value_use
value_use_vset a b = at_vset expr_rule a b

pub value_use_vpost : (a : ℕ) (b : ℕ) → value_use (e.VPost a b) ≡ expr_rule (Expr-F.VPost a b)
unfolding value_use
value_use_vpost a b = at_vpost expr_rule a b

pub value_use_frame : (a : ℕ) → value_use (e.Frame a) ≡ expr_rule (Expr-F.Frame a)
unfolding value_use
value_use_frame a = at_frame expr_rule a

pub value_use_load : (a : Width) (b : Expr) → value_use (e.Load a b) ≡ expr_rule (Expr-F.Load a (value_use b))
unfolding value_use
value_use_load a b = at_load expr_rule a b

pub value_use_store : (a : Width) (b : Expr) (c : Expr) →
    value_use (e.Store a b c) ≡ expr_rule (Expr-F.Store a (value_use b) (value_use c))
unfolding value_use
value_use_store a b c = at_store expr_rule a b c

pub value_use_modify : (a : Width) (b : BinKind) (c : Expr) (d : Expr) →
    value_use (e.Modify a b c d) ≡ expr_rule (Expr-F.Modify a b (value_use c) (value_use d))
unfolding value_use
value_use_modify a b c d = at_modify expr_rule a b c d

pub value_use_post : (a : Width) (b : ℕ) (c : Expr) →
    value_use (e.Post a b c) ≡ expr_rule (Expr-F.Post a b (value_use c))
unfolding value_use
value_use_post a b c = at_post expr_rule a b c

pub value_use_bin : (a : BinKind) (b : Expr) (c : Expr) →
    value_use (e.Bin a b c) ≡ expr_rule (Expr-F.Bin a (value_use b) (value_use c))
unfolding value_use
value_use_bin a b c = at_bin expr_rule a b c

pub value_use_un : (a : UnKind) (b : Expr) → value_use (e.Un a b) ≡ expr_rule (Expr-F.Un a (value_use b))
unfolding value_use
value_use_un a b = at_un expr_rule a b

pub value_use_and : (a : Expr) (b : Expr) → value_use (e.And a b) ≡ expr_rule (Expr-F.And (value_use a) (value_use b))
unfolding value_use
value_use_and a b = at_and expr_rule a b

pub value_use_or : (a : Expr) (b : Expr) → value_use (e.Or a b) ≡ expr_rule (Expr-F.Or (value_use a) (value_use b))
unfolding value_use
value_use_or a b = at_or expr_rule a b

pub value_use_cond : (a : Expr) (b : Expr) (c : Expr) →
    value_use (e.Cond a b c) ≡ expr_rule (Expr-F.Cond (value_use a) (value_use b) (value_use c))
unfolding value_use
value_use_cond a b c = at_cond expr_rule a b c

pub value_use_comma : (a : Expr) (b : Expr) →
    value_use (e.Comma a b) ≡ expr_rule (Expr-F.Comma (value_use a) (value_use b))
unfolding value_use
value_use_comma a b = at_comma expr_rule a b

pub value_use_void : (a : Expr) → value_use (e.Void a) ≡ expr_rule (Expr-F.Void (value_use a))
unfolding value_use
value_use_void a = at_void expr_rule a

pub value_use_call : (a : Answer) (b : ℕ) (c : List Expr) →
    value_use (e.Call a b c) ≡ expr_rule (Expr-F.Call a b (map value_use c))
unfolding value_use
value_use_call a b c = at_call expr_rule a b c

pub value_use_callnumber : (a : Answer) (b : Expr) (c : List Expr) →
    value_use (e.CallNumber a b c) ≡ expr_rule (Expr-F.CallNumber a (value_use b) (map value_use c))
unfolding value_use
value_use_callnumber a b c = at_callnumber expr_rule a b c

pub value_use_getchar : value_use e.Getchar ≡ expr_rule Expr-F.Getchar
unfolding value_use
value_use_getchar = at_getchar expr_rule

pub value_use_lib : (a : Library) (b : Expr) → value_use (e.Lib a b) ≡ expr_rule (Expr-F.Lib a (value_use b))
unfolding value_use
value_use_lib a b = at_lib expr_rule a b

pub value_use_tick : (a : ℕ) (b : List Expr) → value_use (e.Tick a b) ≡ expr_rule (Expr-F.Tick a (map value_use b))
unfolding value_use
value_use_tick a b = at_tick expr_rule a b

pub value_use_capture : (a : CaptureKind) (b : Expr) →
    value_use (e.Capture a b) ≡ expr_rule (Expr-F.Capture a (value_use b))
unfolding value_use
value_use_capture a b = at_capture expr_rule a b

pub value_use_splice : (a : Answer) (b : ℕ) → value_use (e.Splice a b) ≡ expr_rule (Expr-F.Splice a b)
unfolding value_use
value_use_splice a b = at_splice expr_rule a b

pub value_use_compile : (a : Expr) → value_use (e.Compile a) ≡ expr_rule (Expr-F.Compile (value_use a))
unfolding value_use
value_use_compile a = at_compile expr_rule a

pub value_use_local : value_use e.Local ≡ expr_rule Expr-F.Local
unfolding value_use
value_use_local = at_local expr_rule

pub value_use_paramof : (a : Expr) → value_use (e.ParamOf a) ≡ expr_rule (Expr-F.ParamOf (value_use a))
unfolding value_use
value_use_paramof a = at_paramof expr_rule a

pub uses_values_eval : (a : Expr) → uses_values (st.Eval a) ≡ stmt_rule (parts.Eval (value_use a))
unfolding value_use uses_values
uses_values_eval a = on_eval rules a

pub uses_values_block : (a : List Stmt) (b : List Stmt) →
    uses_values (st.Block a b) ≡ stmt_rule (parts.Block (map uses_values a) (map uses_values b))
unfolding value_use uses_values
uses_values_block a b = on_block rules a b

pub uses_values_variable : (a : ℕ) → uses_values (st.Variable a) ≡ stmt_rule (parts.Variable a)
unfolding value_use uses_values
uses_values_variable a = on_variable rules a

pub uses_values_object : (a : ℕ) (b : ℕ) → uses_values (st.Object a b) ≡ stmt_rule (parts.Object a b)
unfolding value_use uses_values
uses_values_object a b = on_object rules a b

pub uses_values_parameter : (a : ℕ) (b : Width) → uses_values (st.Parameter a b) ≡ stmt_rule (parts.Parameter a b)
unfolding value_use uses_values
uses_values_parameter a b = on_parameter rules a b

pub uses_values_parameterobject : (a : ℕ) (b : Width) (c : ℕ) →
    uses_values (st.ParameterObject a b c) ≡ stmt_rule (parts.ParameterObject a b c)
unfolding value_use uses_values
uses_values_parameterobject a b c = on_parameterobject rules a b c

pub uses_values_if : (a : Expr) (b : Stmt) →
    uses_values (st.If a b) ≡ stmt_rule (parts.If (value_use a) (uses_values b))
unfolding value_use uses_values
uses_values_if a b = on_if rules a b

pub uses_values_ifelse : (a : Expr) (b : Stmt) (c : Stmt) →
    uses_values (st.IfElse a b c) ≡ stmt_rule (parts.IfElse (value_use a) (uses_values b) (uses_values c))
unfolding value_use uses_values
uses_values_ifelse a b c = on_ifelse rules a b c

pub uses_values_while : (a : Expr) (b : Stmt) →
    uses_values (st.While a b) ≡ stmt_rule (parts.While (value_use a) (uses_values b))
unfolding value_use uses_values
uses_values_while a b = on_while rules a b

pub uses_values_do : (a : Stmt) (b : Expr) →
    uses_values (st.Do a b) ≡ stmt_rule (parts.Do (uses_values a) (value_use b))
unfolding value_use uses_values
uses_values_do a b = on_do rules a b

pub uses_values_for : (a : Expr) (b : Stmt) →
    uses_values (st.For a b) ≡ stmt_rule (parts.For (value_use a) (uses_values b))
unfolding value_use uses_values
uses_values_for a b = on_for rules a b

pub uses_values_forstep : (a : Expr) (b : Expr) (c : Stmt) →
    uses_values (st.ForStep a b c) ≡ stmt_rule (parts.ForStep (value_use a) (value_use b) (uses_values c))
unfolding value_use uses_values
uses_values_forstep a b c = on_forstep rules a b c

pub uses_values_switch : (a : Expr) (b : List Stmt) (c : List Stmt) →
    uses_values (st.Switch a b c) ≡ stmt_rule (parts.Switch (value_use a) (map uses_values b) (map uses_values c))
unfolding value_use uses_values
uses_values_switch a b c = on_switch rules a b c

pub uses_values_case : (a : ℕ) → uses_values (st.Case a) ≡ stmt_rule (parts.Case a)
unfolding value_use uses_values
uses_values_case a = on_case rules a

pub uses_values_default : uses_values st.Default ≡ stmt_rule parts.Default
unfolding value_use uses_values
uses_values_default = on_default rules

pub uses_values_break : uses_values st.Break ≡ stmt_rule parts.Break
unfolding value_use uses_values
uses_values_break = on_break rules

pub uses_values_continue : uses_values st.Continue ≡ stmt_rule parts.Continue
unfolding value_use uses_values
uses_values_continue = on_continue rules

pub uses_values_return : uses_values st.Return ≡ stmt_rule parts.Return
unfolding value_use uses_values
uses_values_return = on_return rules

pub uses_values_returnvalue : (a : Expr) → uses_values (st.ReturnValue a) ≡ stmt_rule (parts.ReturnValue (value_use a))
unfolding value_use uses_values
uses_values_returnvalue a = on_returnvalue rules a
