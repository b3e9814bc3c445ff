-- The equations of the definitions, one a node. Written by tools/checker/nodes.py.
use Rattle.std.proofs.Common.{◌≡◌, ℕ, List, map}
use Rattle.word32.specs.declared.width.Width.{Width}
use Rattle.icode_ops.specs.declared.kind.BinKind.{BinKind}
use Rattle.icode_ops.specs.declared.kind.UnKind.{UnKind}
use Rattle.typed_tree.specs.declared.expression.Answer.{Answer}
use Rattle.typed_tree.specs.declared.expression.Library.{Library}
use Rattle.typed_tree.specs.declared.expression.CaptureKind.{CaptureKind}
use Rattle.typed_tree.specs.declared.expression.CapturedWord.{CapturedWord}
use Rattle.typed_tree.specs.declared.expression.Expr.{Expr}
use Rattle.typed_tree.specs.declared.expression.Expr.TheOpen.{Expr-F}
use Rattle.typed_tree.specs.declared.expression.Expr.TheVariants as e
use Rattle.typed_tree.proofs.At.{at_const, at_captured, at_var, at_setvar, at_postvar, at_vget, at_vset, at_vpost}
use Rattle.typed_tree.proofs.At.{at_frame, at_load, at_store, at_modify, at_post, at_bin, at_un, at_and, at_or, at_cond}
use Rattle.typed_tree.proofs.At.{at_comma, at_void, at_call, at_callnumber, at_getchar, at_lib, at_tick, at_capture}
use Rattle.typed_tree.proofs.At.{at_splice, at_compile, at_local, at_paramof}
use Rattle.typed_tree.specs.declared.expression.Stmt.{Stmt}
use Rattle.typed_tree.specs.declared.expression.Stmt.TheVariants as st
use Rattle.typed_tree.proofs.At.{on_eval, on_block, on_variable, on_object, on_parameter, on_parameterobject, on_if}
use Rattle.typed_tree.proofs.At.{on_ifelse, on_while, on_do, on_for, on_forstep, on_switch, on_case, on_default}
use Rattle.typed_tree.proofs.At.{on_break, on_continue, on_return, on_returnvalue}
use Rattle.typed_tree.specs.Folds as parts
use Rattle.wellformed.specs.Places.{part, expr_rule, act, stmt_rule, rules}
use Rattle.wellformed.specs.Counts.{objects_at, object_rule, object_rules, declarations_of, declaration_rule}
use Rattle.wellformed.specs.Counts.{declaration_rules}

pub part_const : (a : ℕ) → part (e.Const a) ≡ expr_rule (Expr-F.Const a)
unfolding part
part_const a = at_const expr_rule a

pub part_captured : (a : CapturedWord) (b : ℕ) → part (e.Captured a b) ≡ expr_rule (Expr-F.Captured a b)
unfolding part
part_captured a b = at_captured expr_rule a b

pub part_var : (a : ℕ) → part (e.Var a) ≡ expr_rule (Expr-F.Var a)
unfolding part
part_var a = at_var expr_rule a

pub part_setvar : (a : ℕ) (b : Expr) → part (e.SetVar a b) ≡ expr_rule (Expr-F.SetVar a (part b))
unfolding part
part_setvar a b = at_setvar expr_rule a b

pub part_postvar : (a : ℕ) (b : Width) (c : ℕ) → part (e.PostVar a b c) ≡ expr_rule (Expr-F.PostVar a b c)
unfolding part
part_postvar a b c = at_postvar expr_rule a b c

pub part_vget : (a : ℕ) → part (e.VGet a) ≡ expr_rule (Expr-F.VGet a)
unfolding part
part_vget a = at_vget expr_rule a

pub part_vset : (a : ℕ) (b : Expr) → part (e.VSet a b) ≡ expr_rule (Expr-F.VSet a (part b))
unfolding part
part_vset a b = at_vset expr_rule a b

pub part_vpost : (a : ℕ) (b : ℕ) → part (e.VPost a b) ≡ expr_rule (Expr-F.VPost a b)
unfolding part
part_vpost a b = at_vpost expr_rule a b

pub part_frame : (a : ℕ) → part (e.Frame a) ≡ expr_rule (Expr-F.Frame a)
unfolding part
part_frame a = at_frame expr_rule a

pub part_load : (a : Width) (b : Expr) → part (e.Load a b) ≡ expr_rule (Expr-F.Load a (part b))
unfolding part
part_load a b = at_load expr_rule a b

pub part_store : (a : Width) (b : Expr) (c : Expr) → part (e.Store a b c) ≡ expr_rule (Expr-F.Store a (part b) (part c))
unfolding part
part_store a b c = at_store expr_rule a b c

pub part_modify : (a : Width) (b : BinKind) (c : Expr) (d : Expr) →
    part (e.Modify a b c d) ≡ expr_rule (Expr-F.Modify a b (part c) (part d))
unfolding part
part_modify a b c d = at_modify expr_rule a b c d

pub part_post : (a : Width) (b : ℕ) (c : Expr) → part (e.Post a b c) ≡ expr_rule (Expr-F.Post a b (part c))
unfolding part
part_post a b c = at_post expr_rule a b c

pub part_bin : (a : BinKind) (b : Expr) (c : Expr) → part (e.Bin a b c) ≡ expr_rule (Expr-F.Bin a (part b) (part c))
unfolding part
part_bin a b c = at_bin expr_rule a b c

pub part_un : (a : UnKind) (b : Expr) → part (e.Un a b) ≡ expr_rule (Expr-F.Un a (part b))
unfolding part
part_un a b = at_un expr_rule a b

pub part_and : (a : Expr) (b : Expr) → part (e.And a b) ≡ expr_rule (Expr-F.And (part a) (part b))
unfolding part
part_and a b = at_and expr_rule a b

pub part_or : (a : Expr) (b : Expr) → part (e.Or a b) ≡ expr_rule (Expr-F.Or (part a) (part b))
unfolding part
part_or a b = at_or expr_rule a b

pub part_cond : (a : Expr) (b : Expr) (c : Expr) →
    part (e.Cond a b c) ≡ expr_rule (Expr-F.Cond (part a) (part b) (part c))
unfolding part
part_cond a b c = at_cond expr_rule a b c

pub part_comma : (a : Expr) (b : Expr) → part (e.Comma a b) ≡ expr_rule (Expr-F.Comma (part a) (part b))
unfolding part
part_comma a b = at_comma expr_rule a b

pub part_void : (a : Expr) → part (e.Void a) ≡ expr_rule (Expr-F.Void (part a))
unfolding part
part_void a = at_void expr_rule a

pub part_call : (a : Answer) (b : ℕ) (c : List Expr) → part (e.Call a b c) ≡ expr_rule (Expr-F.Call a b (map part c))
unfolding part
part_call a b c = at_call expr_rule a b c

pub part_callnumber : (a : Answer) (b : Expr) (c : List Expr) →
    part (e.CallNumber a b c) ≡ expr_rule (Expr-F.CallNumber a (part b) (map part c))
unfolding part
part_callnumber a b c = at_callnumber expr_rule a b c

pub part_getchar : part e.Getchar ≡ expr_rule Expr-F.Getchar
unfolding part
part_getchar = at_getchar expr_rule

pub part_lib : (a : Library) (b : Expr) → part (e.Lib a b) ≡ expr_rule (Expr-F.Lib a (part b))
unfolding part
part_lib a b = at_lib expr_rule a b

pub part_tick : (a : ℕ) (b : List Expr) → part (e.Tick a b) ≡ expr_rule (Expr-F.Tick a (map part b))
unfolding part
part_tick a b = at_tick expr_rule a b

pub part_capture : (a : CaptureKind) (b : Expr) → part (e.Capture a b) ≡ expr_rule (Expr-F.Capture a (part b))
unfolding part
part_capture a b = at_capture expr_rule a b

pub part_splice : (a : Answer) (b : ℕ) → part (e.Splice a b) ≡ expr_rule (Expr-F.Splice a b)
unfolding part
part_splice a b = at_splice expr_rule a b

pub part_compile : (a : Expr) → part (e.Compile a) ≡ expr_rule (Expr-F.Compile (part a))
unfolding part
part_compile a = at_compile expr_rule a

pub part_local : part e.Local ≡ expr_rule Expr-F.Local
unfolding part
part_local = at_local expr_rule

pub part_paramof : (a : Expr) → part (e.ParamOf a) ≡ expr_rule (Expr-F.ParamOf (part a))
unfolding part
part_paramof a = at_paramof expr_rule a

pub act_eval : (a : Expr) → act (st.Eval a) ≡ stmt_rule (parts.Eval (part a))
unfolding part act
act_eval a = on_eval rules a

pub act_block : (a : List Stmt) (b : List Stmt) → act (st.Block a b) ≡ stmt_rule (parts.Block (map act a) (map act b))
unfolding part act
act_block a b = on_block rules a b

pub act_variable : (a : ℕ) → act (st.Variable a) ≡ stmt_rule (parts.Variable a)
unfolding part act
act_variable a = on_variable rules a

pub act_object : (a : ℕ) (b : ℕ) → act (st.Object a b) ≡ stmt_rule (parts.Object a b)
unfolding part act
act_object a b = on_object rules a b

pub act_parameter : (a : ℕ) (b : Width) → act (st.Parameter a b) ≡ stmt_rule (parts.Parameter a b)
unfolding part act
act_parameter a b = on_parameter rules a b

pub act_parameterobject : (a : ℕ) (b : Width) (c : ℕ) →
    act (st.ParameterObject a b c) ≡ stmt_rule (parts.ParameterObject a b c)
unfolding part act
act_parameterobject a b c = on_parameterobject rules a b c

pub act_if : (a : Expr) (b : Stmt) → act (st.If a b) ≡ stmt_rule (parts.If (part a) (act b))
unfolding part act
act_if a b = on_if rules a b

pub act_ifelse : (a : Expr) (b : Stmt) (c : Stmt) →
    act (st.IfElse a b c) ≡ stmt_rule (parts.IfElse (part a) (act b) (act c))
unfolding part act
act_ifelse a b c = on_ifelse rules a b c

pub act_while : (a : Expr) (b : Stmt) → act (st.While a b) ≡ stmt_rule (parts.While (part a) (act b))
unfolding part act
act_while a b = on_while rules a b

pub act_do : (a : Stmt) (b : Expr) → act (st.Do a b) ≡ stmt_rule (parts.Do (act a) (part b))
unfolding part act
act_do a b = on_do rules a b

pub act_for : (a : Expr) (b : Stmt) → act (st.For a b) ≡ stmt_rule (parts.For (part a) (act b))
unfolding part act
act_for a b = on_for rules a b

pub act_forstep : (a : Expr) (b : Expr) (c : Stmt) →
    act (st.ForStep a b c) ≡ stmt_rule (parts.ForStep (part a) (part b) (act c))
unfolding part act
act_forstep a b c = on_forstep rules a b c

pub act_switch : (a : Expr) (b : List Stmt) (c : List Stmt) →
    act (st.Switch a b c) ≡ stmt_rule (parts.Switch (part a) (map act b) (map act c))
unfolding part act
act_switch a b c = on_switch rules a b c

pub act_case : (a : ℕ) → act (st.Case a) ≡ stmt_rule (parts.Case a)
unfolding part act
act_case a = on_case rules a

pub act_default : act st.Default ≡ stmt_rule parts.Default
unfolding part act
act_default = on_default rules

pub act_break : act st.Break ≡ stmt_rule parts.Break
unfolding part act
act_break = on_break rules

pub act_continue : act st.Continue ≡ stmt_rule parts.Continue
unfolding part act
act_continue = on_continue rules

pub act_return : act st.Return ≡ stmt_rule parts.Return
unfolding part act
act_return = on_return rules

pub act_returnvalue : (a : Expr) → act (st.ReturnValue a) ≡ stmt_rule (parts.ReturnValue (part a))
unfolding part act
act_returnvalue a = on_returnvalue rules a

pub objects_at_eval : (x : ℕ) (a : Expr) → objects_at x (st.Eval a) ≡ object_rule x (parts.Eval tt)
unfolding objects_at
objects_at_eval x a = on_eval (object_rules x) a

pub objects_at_block : (x : ℕ) (a : List Stmt) (b : List Stmt) →
    objects_at x (st.Block a b) ≡ object_rule x (parts.Block (map (objects_at x) a) (map (objects_at x) b))
unfolding objects_at
objects_at_block x a b = on_block (object_rules x) a b

pub objects_at_variable : (x : ℕ) (a : ℕ) → objects_at x (st.Variable a) ≡ object_rule x (parts.Variable a)
unfolding objects_at
objects_at_variable x a = on_variable (object_rules x) a

pub objects_at_object : (x : ℕ) (a : ℕ) (b : ℕ) → objects_at x (st.Object a b) ≡ object_rule x (parts.Object a b)
unfolding objects_at
objects_at_object x a b = on_object (object_rules x) a b

pub objects_at_parameter : (x : ℕ) (a : ℕ) (b : Width) →
    objects_at x (st.Parameter a b) ≡ object_rule x (parts.Parameter a b)
unfolding objects_at
objects_at_parameter x a b = on_parameter (object_rules x) a b

pub objects_at_parameterobject : (x : ℕ) (a : ℕ) (b : Width) (c : ℕ) →
    objects_at x (st.ParameterObject a b c) ≡ object_rule x (parts.ParameterObject a b c)
unfolding objects_at
objects_at_parameterobject x a b c = on_parameterobject (object_rules x) a b c

pub objects_at_if : (x : ℕ) (a : Expr) (b : Stmt) →
    objects_at x (st.If a b) ≡ object_rule x (parts.If tt (objects_at x b))
unfolding objects_at
objects_at_if x a b = on_if (object_rules x) a b

pub objects_at_ifelse : (x : ℕ) (a : Expr) (b : Stmt) (c : Stmt) →
    objects_at x (st.IfElse a b c) ≡ object_rule x (parts.IfElse tt (objects_at x b) (objects_at x c))
unfolding objects_at
objects_at_ifelse x a b c = on_ifelse (object_rules x) a b c

pub objects_at_while : (x : ℕ) (a : Expr) (b : Stmt) →
    objects_at x (st.While a b) ≡ object_rule x (parts.While tt (objects_at x b))
unfolding objects_at
objects_at_while x a b = on_while (object_rules x) a b

pub objects_at_do : (x : ℕ) (a : Stmt) (b : Expr) →
    objects_at x (st.Do a b) ≡ object_rule x (parts.Do (objects_at x a) tt)
unfolding objects_at
objects_at_do x a b = on_do (object_rules x) a b

pub objects_at_for : (x : ℕ) (a : Expr) (b : Stmt) →
    objects_at x (st.For a b) ≡ object_rule x (parts.For tt (objects_at x b))
unfolding objects_at
objects_at_for x a b = on_for (object_rules x) a b

pub objects_at_forstep : (x : ℕ) (a : Expr) (b : Expr) (c : Stmt) →
    objects_at x (st.ForStep a b c) ≡ object_rule x (parts.ForStep tt tt (objects_at x c))
unfolding objects_at
objects_at_forstep x a b c = on_forstep (object_rules x) a b c

pub objects_at_switch : (x : ℕ) (a : Expr) (b : List Stmt) (c : List Stmt) →
    objects_at x (st.Switch a b c) ≡ object_rule x (parts.Switch tt (map (objects_at x) b) (map (objects_at x) c))
unfolding objects_at
objects_at_switch x a b c = on_switch (object_rules x) a b c

pub objects_at_case : (x : ℕ) (a : ℕ) → objects_at x (st.Case a) ≡ object_rule x (parts.Case a)
unfolding objects_at
objects_at_case x a = on_case (object_rules x) a

pub objects_at_default : (x : ℕ) → objects_at x st.Default ≡ object_rule x parts.Default
unfolding objects_at
objects_at_default x = on_default (object_rules x)

pub objects_at_break : (x : ℕ) → objects_at x st.Break ≡ object_rule x parts.Break
unfolding objects_at
objects_at_break x = on_break (object_rules x)

pub objects_at_continue : (x : ℕ) → objects_at x st.Continue ≡ object_rule x parts.Continue
unfolding objects_at
objects_at_continue x = on_continue (object_rules x)

pub objects_at_return : (x : ℕ) → objects_at x st.Return ≡ object_rule x parts.Return
unfolding objects_at
objects_at_return x = on_return (object_rules x)

pub objects_at_returnvalue : (x : ℕ) (a : Expr) → objects_at x (st.ReturnValue a) ≡ object_rule x (parts.ReturnValue tt)
unfolding objects_at
objects_at_returnvalue x a = on_returnvalue (object_rules x) a

pub declarations_of_eval : (x : ℕ) (a : Expr) → declarations_of x (st.Eval a) ≡ declaration_rule x (parts.Eval tt)
unfolding declarations_of
declarations_of_eval x a = on_eval (declaration_rules x) a

pub declarations_of_block : (x : ℕ) (a : List Stmt) (b : List Stmt) →
    declarations_of x (st.Block a b) ≡ declaration_rule x
    (parts.Block (map (declarations_of x) a) (map (declarations_of x) b))
unfolding declarations_of
declarations_of_block x a b = on_block (declaration_rules x) a b

pub declarations_of_variable : (x : ℕ) (a : ℕ) →
    declarations_of x (st.Variable a) ≡ declaration_rule x (parts.Variable a)
unfolding declarations_of
declarations_of_variable x a = on_variable (declaration_rules x) a

pub declarations_of_object : (x : ℕ) (a : ℕ) (b : ℕ) →
    declarations_of x (st.Object a b) ≡ declaration_rule x (parts.Object a b)
unfolding declarations_of
declarations_of_object x a b = on_object (declaration_rules x) a b

pub declarations_of_parameter : (x : ℕ) (a : ℕ) (b : Width) →
    declarations_of x (st.Parameter a b) ≡ declaration_rule x (parts.Parameter a b)
unfolding declarations_of
declarations_of_parameter x a b = on_parameter (declaration_rules x) a b

pub declarations_of_parameterobject : (x : ℕ) (a : ℕ) (b : Width) (c : ℕ) →
    declarations_of x (st.ParameterObject a b c) ≡ declaration_rule x (parts.ParameterObject a b c)
unfolding declarations_of
declarations_of_parameterobject x a b c = on_parameterobject (declaration_rules x) a b c

pub declarations_of_if : (x : ℕ) (a : Expr) (b : Stmt) →
    declarations_of x (st.If a b) ≡ declaration_rule x (parts.If tt (declarations_of x b))
unfolding declarations_of
declarations_of_if x a b = on_if (declaration_rules x) a b

pub declarations_of_ifelse : (x : ℕ) (a : Expr) (b : Stmt) (c : Stmt) →
    declarations_of x (st.IfElse a b c) ≡ declaration_rule x (parts.IfElse tt (declarations_of x b) (declarations_of x c))
unfolding declarations_of
declarations_of_ifelse x a b c = on_ifelse (declaration_rules x) a b c

pub declarations_of_while : (x : ℕ) (a : Expr) (b : Stmt) →
    declarations_of x (st.While a b) ≡ declaration_rule x (parts.While tt (declarations_of x b))
unfolding declarations_of
declarations_of_while x a b = on_while (declaration_rules x) a b

pub declarations_of_do : (x : ℕ) (a : Stmt) (b : Expr) →
    declarations_of x (st.Do a b) ≡ declaration_rule x (parts.Do (declarations_of x a) tt)
unfolding declarations_of
declarations_of_do x a b = on_do (declaration_rules x) a b

pub declarations_of_for : (x : ℕ) (a : Expr) (b : Stmt) →
    declarations_of x (st.For a b) ≡ declaration_rule x (parts.For tt (declarations_of x b))
unfolding declarations_of
declarations_of_for x a b = on_for (declaration_rules x) a b

pub declarations_of_forstep : (x : ℕ) (a : Expr) (b : Expr) (c : Stmt) →
    declarations_of x (st.ForStep a b c) ≡ declaration_rule x (parts.ForStep tt tt (declarations_of x c))
unfolding declarations_of
declarations_of_forstep x a b c = on_forstep (declaration_rules x) a b c

pub declarations_of_switch : (x : ℕ) (a : Expr) (b : List Stmt) (c : List Stmt) →
    declarations_of x (st.Switch a b c) ≡ declaration_rule x
    (parts.Switch tt (map (declarations_of x) b) (map (declarations_of x) c))
unfolding declarations_of
declarations_of_switch x a b c = on_switch (declaration_rules x) a b c

pub declarations_of_case : (x : ℕ) (a : ℕ) → declarations_of x (st.Case a) ≡ declaration_rule x (parts.Case a)
unfolding declarations_of
declarations_of_case x a = on_case (declaration_rules x) a

pub declarations_of_default : (x : ℕ) → declarations_of x st.Default ≡ declaration_rule x parts.Default
unfolding declarations_of
declarations_of_default x = on_default (declaration_rules x)

pub declarations_of_break : (x : ℕ) → declarations_of x st.Break ≡ declaration_rule x parts.Break
unfolding declarations_of
declarations_of_break x = on_break (declaration_rules x)

pub declarations_of_continue : (x : ℕ) → declarations_of x st.Continue ≡ declaration_rule x parts.Continue
unfolding declarations_of
declarations_of_continue x = on_continue (declaration_rules x)

pub declarations_of_return : (x : ℕ) → declarations_of x st.Return ≡ declaration_rule x parts.Return
unfolding declarations_of
declarations_of_return x = on_return (declaration_rules x)

pub declarations_of_returnvalue : (x : ℕ) (a : Expr) →
    declarations_of x (st.ReturnValue a) ≡ declaration_rule x (parts.ReturnValue tt)
unfolding declarations_of
declarations_of_returnvalue x a = on_returnvalue (declaration_rules x) a
