-- The equations of sizes, one a node. Written by tools/checker/nodes.py.
use Rattle.std.proofs.Common.{◌≡◌, ℕ, List, map}
use Rattle.word32.specs.declared.width.Width.{Width}
use Rattle.icode_ops.specs.declared.kind.BinKind.{BinKind}
use Rattle.icode_ops.specs.declared.kind.UnKind.{UnKind}
use Rattle.typed_tree.specs.declared.expression.Answer.{Answer}
use Rattle.typed_tree.specs.declared.expression.Library.{Library}
use Rattle.typed_tree.specs.declared.expression.CaptureKind.{CaptureKind}
use Rattle.typed_tree.specs.declared.expression.CapturedWord.{CapturedWord}
use Rattle.typed_tree.specs.declared.expression.Expr.{Expr}
use Rattle.typed_tree.specs.declared.expression.Expr.TheOpen.{Expr-F}
use Rattle.typed_tree.specs.declared.expression.Expr.TheVariants as e
use Rattle.typed_tree.proofs.At.{at_const, at_captured, at_var, at_setvar, at_postvar, at_vget, at_vset, at_vpost}
use Rattle.typed_tree.proofs.At.{at_frame, at_load, at_store, at_modify, at_post, at_bin, at_un, at_and, at_or, at_cond}
use Rattle.typed_tree.proofs.At.{at_comma, at_void, at_call, at_callnumber, at_getchar, at_lib, at_tick, at_capture}
use Rattle.typed_tree.proofs.At.{at_splice, at_compile, at_local, at_paramof}
use Rattle.typed_tree.specs.declared.expression.Stmt.{Stmt}
use Rattle.typed_tree.specs.declared.expression.Stmt.TheVariants as st
use Rattle.typed_tree.proofs.At.{on_eval, on_block, on_variable, on_object, on_parameter, on_parameterobject, on_if}
use Rattle.typed_tree.proofs.At.{on_ifelse, on_while, on_do, on_for, on_forstep, on_switch, on_case, on_default}
use Rattle.typed_tree.proofs.At.{on_break, on_continue, on_return, on_returnvalue}
use Rattle.typed_tree.specs.Folds as parts
use Rattle.std.proofs.Common.{◌+◌, sum, ap, ◌∙◌}
use Rattle.typed_tree.specs.Folds.{total}
use Rattle.typed_tree.proofs.Totals.{total_is_sum}
use Rattle.typed_tree.specs.Sizes.{size, size_rule, size_rules, statement_size, statement_rule}

pub size_const : (a : ℕ) → size (e.Const a) ≡ size_rule (Expr-F.Const a)
unfolding size
size_const a = at_const size_rule a

pub size_captured : (a : CapturedWord) (b : ℕ) → size (e.Captured a b) ≡ size_rule (Expr-F.Captured a b)
unfolding size
size_captured a b = at_captured size_rule a b

pub size_var : (a : ℕ) → size (e.Var a) ≡ size_rule (Expr-F.Var a)
unfolding size
size_var a = at_var size_rule a

pub size_setvar : (a : ℕ) (b : Expr) → size (e.SetVar a b) ≡ size_rule (Expr-F.SetVar a (size b))
unfolding size
size_setvar a b = at_setvar size_rule a b

pub size_postvar : (a : ℕ) (b : Width) (c : ℕ) → size (e.PostVar a b c) ≡ size_rule (Expr-F.PostVar a b c)
unfolding size
size_postvar a b c = at_postvar size_rule a b c

pub size_vget : (a : ℕ) → size (e.VGet a) ≡ size_rule (Expr-F.VGet a)
unfolding size
size_vget a = at_vget size_rule a

pub size_vset : (a : ℕ) (b : Expr) → size (e.VSet a b) ≡ size_rule (Expr-F.VSet a (size b))
unfolding size
size_vset a b = at_vset size_rule a b

pub size_vpost : (a : ℕ) (b : ℕ) → size (e.VPost a b) ≡ size_rule (Expr-F.VPost a b)
unfolding size
size_vpost a b = at_vpost size_rule a b

pub size_frame : (a : ℕ) → size (e.Frame a) ≡ size_rule (Expr-F.Frame a)
unfolding size
size_frame a = at_frame size_rule a

pub size_load : (a : Width) (b : Expr) → size (e.Load a b) ≡ size_rule (Expr-F.Load a (size b))
unfolding size
size_load a b = at_load size_rule a b

pub size_store : (a : Width) (b : Expr) (c : Expr) → size (e.Store a b c) ≡ size_rule (Expr-F.Store a (size b) (size c))
unfolding size
size_store a b c = at_store size_rule a b c

pub size_modify : (a : Width) (b : BinKind) (c : Expr) (d : Expr) →
    size (e.Modify a b c d) ≡ size_rule (Expr-F.Modify a b (size c) (size d))
unfolding size
size_modify a b c d = at_modify size_rule a b c d

pub size_post : (a : Width) (b : ℕ) (c : Expr) → size (e.Post a b c) ≡ size_rule (Expr-F.Post a b (size c))
unfolding size
size_post a b c = at_post size_rule a b c

pub size_bin : (a : BinKind) (b : Expr) (c : Expr) → size (e.Bin a b c) ≡ size_rule (Expr-F.Bin a (size b) (size c))
unfolding size
size_bin a b c = at_bin size_rule a b c

pub size_un : (a : UnKind) (b : Expr) → size (e.Un a b) ≡ size_rule (Expr-F.Un a (size b))
unfolding size
size_un a b = at_un size_rule a b

pub size_and : (a : Expr) (b : Expr) → size (e.And a b) ≡ size_rule (Expr-F.And (size a) (size b))
unfolding size
size_and a b = at_and size_rule a b

pub size_or : (a : Expr) (b : Expr) → size (e.Or a b) ≡ size_rule (Expr-F.Or (size a) (size b))
unfolding size
size_or a b = at_or size_rule a b

pub size_cond : (a : Expr) (b : Expr) (c : Expr) →
    size (e.Cond a b c) ≡ size_rule (Expr-F.Cond (size a) (size b) (size c))
unfolding size
size_cond a b c = at_cond size_rule a b c

pub size_comma : (a : Expr) (b : Expr) → size (e.Comma a b) ≡ size_rule (Expr-F.Comma (size a) (size b))
unfolding size
size_comma a b = at_comma size_rule a b

pub size_void : (a : Expr) → size (e.Void a) ≡ size_rule (Expr-F.Void (size a))
unfolding size
size_void a = at_void size_rule a

pub size_call : (a : Answer) (b : ℕ) (c : List Expr) → size (e.Call a b c) ≡ 1 + sum (map size c)
unfolding size
size_call a b c = at_call size_rule a b c ∙ ap (λ n. 1 + n) (total_is_sum (map size c))

pub size_callnumber : (a : Answer) (b : Expr) (c : List Expr) →
    size (e.CallNumber a b c) ≡ 1 + size b + sum (map size c)
unfolding size
size_callnumber a b c = at_callnumber size_rule a b c ∙ ap (λ n. 1 + size b + n) (total_is_sum (map size c))

pub size_getchar : size e.Getchar ≡ size_rule Expr-F.Getchar
unfolding size
size_getchar = at_getchar size_rule

pub size_lib : (a : Library) (b : Expr) → size (e.Lib a b) ≡ size_rule (Expr-F.Lib a (size b))
unfolding size
size_lib a b = at_lib size_rule a b

pub size_tick : (a : ℕ) (b : List Expr) → size (e.Tick a b) ≡ 1 + sum (map size b)
unfolding size
size_tick a b = at_tick size_rule a b ∙ ap (λ n. 1 + n) (total_is_sum (map size b))

pub size_capture : (a : CaptureKind) (b : Expr) → size (e.Capture a b) ≡ size_rule (Expr-F.Capture a (size b))
unfolding size
size_capture a b = at_capture size_rule a b

pub size_splice : (a : Answer) (b : ℕ) → size (e.Splice a b) ≡ size_rule (Expr-F.Splice a b)
unfolding size
size_splice a b = at_splice size_rule a b

pub size_compile : (a : Expr) → size (e.Compile a) ≡ size_rule (Expr-F.Compile (size a))
unfolding size
size_compile a = at_compile size_rule a

pub size_local : size e.Local ≡ size_rule Expr-F.Local
unfolding size
size_local = at_local size_rule

pub size_paramof : (a : Expr) → size (e.ParamOf a) ≡ size_rule (Expr-F.ParamOf (size a))
unfolding size
size_paramof a = at_paramof size_rule a

pub ruleset expressions = (
  size_const,
  size_captured,
  size_var,
  size_setvar,
  size_postvar,
  size_vget,
  size_vset,
  size_vpost,
  size_frame,
  size_load,
  size_store,
  size_modify,
  size_post,
  size_bin,
  size_un,
  size_and,
  size_or,
  size_cond,
  size_comma,
  size_void,
  size_call,
  size_callnumber,
  size_getchar,
  size_lib,
  size_tick,
  size_capture,
  size_splice,
  size_compile,
  size_local,
  size_paramof,
)

pub statement_size_eval : (a : Expr) → statement_size (st.Eval a) ≡ statement_rule (parts.Eval (size a))
unfolding size statement_size
statement_size_eval a = on_eval size_rules a

pub statement_size_block : (a : List Stmt) (b : List Stmt) →
    statement_size (st.Block a b) ≡ 1 + sum (map statement_size a) + sum (map statement_size b)
unfolding size statement_size
statement_size_block a b =
    on_block size_rules a b ∙ ap (λ n. 1 + n + total (map statement_size b)) (total_is_sum (map statement_size a)) ∙
    ap (λ n. 1 + sum (map statement_size a) + n) (total_is_sum (map statement_size b))

pub statement_size_variable : (a : ℕ) → statement_size (st.Variable a) ≡ statement_rule (parts.Variable a)
unfolding size statement_size
statement_size_variable a = on_variable size_rules a

pub statement_size_object : (a : ℕ) (b : ℕ) → statement_size (st.Object a b) ≡ statement_rule (parts.Object a b)
unfolding size statement_size
statement_size_object a b = on_object size_rules a b

pub statement_size_parameter : (a : ℕ) (b : Width) →
    statement_size (st.Parameter a b) ≡ statement_rule (parts.Parameter a b)
unfolding size statement_size
statement_size_parameter a b = on_parameter size_rules a b

pub statement_size_parameterobject : (a : ℕ) (b : Width) (c : ℕ) →
    statement_size (st.ParameterObject a b c) ≡ statement_rule (parts.ParameterObject a b c)
unfolding size statement_size
statement_size_parameterobject a b c = on_parameterobject size_rules a b c

pub statement_size_if : (a : Expr) (b : Stmt) →
    statement_size (st.If a b) ≡ statement_rule (parts.If (size a) (statement_size b))
unfolding size statement_size
statement_size_if a b = on_if size_rules a b

pub statement_size_ifelse : (a : Expr) (b : Stmt) (c : Stmt) →
    statement_size (st.IfElse a b c) ≡ statement_rule (parts.IfElse (size a) (statement_size b) (statement_size c))
unfolding size statement_size
statement_size_ifelse a b c = on_ifelse size_rules a b c

pub statement_size_while : (a : Expr) (b : Stmt) →
    statement_size (st.While a b) ≡ statement_rule (parts.While (size a) (statement_size b))
unfolding size statement_size
statement_size_while a b = on_while size_rules a b

pub statement_size_do : (a : Stmt) (b : Expr) →
    statement_size (st.Do a b) ≡ statement_rule (parts.Do (statement_size a) (size b))
unfolding size statement_size
statement_size_do a b = on_do size_rules a b

pub statement_size_for : (a : Expr) (b : Stmt) →
    statement_size (st.For a b) ≡ statement_rule (parts.For (size a) (statement_size b))
unfolding size statement_size
statement_size_for a b = on_for size_rules a b

pub statement_size_forstep : (a : Expr) (b : Expr) (c : Stmt) →
    statement_size (st.ForStep a b c) ≡ statement_rule (parts.ForStep (size a) (size b) (statement_size c))
unfolding size statement_size
statement_size_forstep a b c = on_forstep size_rules a b c

pub statement_size_switch : (a : Expr) (b : List Stmt) (c : List Stmt) →
    statement_size (st.Switch a b c) ≡ 2 + size a + sum (map statement_size b) + sum (map statement_size c)
unfolding size statement_size
statement_size_switch a b c =
    on_switch size_rules a b c ∙
    ap (λ n. 2 + size a + n + total (map statement_size c)) (total_is_sum (map statement_size b)) ∙
    ap (λ n. 2 + size a + sum (map statement_size b) + n) (total_is_sum (map statement_size c))

pub statement_size_case : (a : ℕ) → statement_size (st.Case a) ≡ statement_rule (parts.Case a)
unfolding size statement_size
statement_size_case a = on_case size_rules a

pub statement_size_default : statement_size st.Default ≡ statement_rule parts.Default
unfolding size statement_size
statement_size_default = on_default size_rules

pub statement_size_break : statement_size st.Break ≡ statement_rule parts.Break
unfolding size statement_size
statement_size_break = on_break size_rules

pub statement_size_continue : statement_size st.Continue ≡ statement_rule parts.Continue
unfolding size statement_size
statement_size_continue = on_continue size_rules

pub statement_size_return : statement_size st.Return ≡ statement_rule parts.Return
unfolding size statement_size
statement_size_return = on_return size_rules

pub statement_size_returnvalue : (a : Expr) →
    statement_size (st.ReturnValue a) ≡ statement_rule (parts.ReturnValue (size a))
unfolding size statement_size
statement_size_returnvalue a = on_returnvalue size_rules a

pub ruleset statements = (
  statement_size_eval,
  statement_size_block,
  statement_size_variable,
  statement_size_object,
  statement_size_parameter,
  statement_size_parameterobject,
  statement_size_if,
  statement_size_ifelse,
  statement_size_while,
  statement_size_do,
  statement_size_for,
  statement_size_forstep,
  statement_size_switch,
  statement_size_case,
  statement_size_default,
  statement_size_break,
  statement_size_continue,
  statement_size_return,
  statement_size_returnvalue,
)
