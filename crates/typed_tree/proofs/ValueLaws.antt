-- Whether a node leaves a value, one a node. Written by tools/checker/nodes.py.
use Rattle.std.proofs.Common.{◌≡◌, ℕ, List, map}
use Rattle.word32.specs.declared.width.Width.{Width}
use Rattle.icode_ops.specs.declared.kind.BinKind.{BinKind}
use Rattle.icode_ops.specs.declared.kind.UnKind.{UnKind}
use Rattle.typed_tree.specs.declared.expression.Answer.{Answer}
use Rattle.typed_tree.specs.declared.expression.Library.{Library}
use Rattle.typed_tree.specs.declared.expression.CaptureKind.{CaptureKind}
use Rattle.typed_tree.specs.declared.expression.CapturedWord.{CapturedWord}
use Rattle.typed_tree.specs.declared.expression.Expr.{Expr}
use Rattle.typed_tree.specs.declared.expression.Expr.TheOpen.{Expr-F}
use Rattle.typed_tree.specs.declared.expression.Expr.TheVariants as e
use Rattle.typed_tree.proofs.At.{at_const, at_captured, at_var, at_setvar, at_postvar, at_vget, at_vset, at_vpost}
use Rattle.typed_tree.proofs.At.{at_frame, at_load, at_store, at_modify, at_post, at_bin, at_un, at_and, at_or, at_cond}
use Rattle.typed_tree.proofs.At.{at_comma, at_void, at_call, at_callnumber, at_getchar, at_lib, at_tick, at_capture}
use Rattle.typed_tree.proofs.At.{at_splice, at_compile, at_local, at_paramof}
use Rattle.typed_tree.specs.Sizes.{has_value, value_rule}

pub value_const : (a : ℕ) → has_value (e.Const a) ≡ value_rule (Expr-F.Const a)
unfolding has_value
value_const a = at_const value_rule a

pub value_captured : (a : CapturedWord) (b : ℕ) → has_value (e.Captured a b) ≡ value_rule (Expr-F.Captured a b)
unfolding has_value
value_captured a b = at_captured value_rule a b

pub value_var : (a : ℕ) → has_value (e.Var a) ≡ value_rule (Expr-F.Var a)
unfolding has_value
value_var a = at_var value_rule a

pub value_setvar : (a : ℕ) (b : Expr) → has_value (e.SetVar a b) ≡ value_rule (Expr-F.SetVar a (has_value b))
unfolding has_value
value_setvar a b = at_setvar value_rule a b

pub value_postvar : (a : ℕ) (b : Width) (c : ℕ) → has_value (e.PostVar a b c) ≡ value_rule (Expr-F.PostVar a b c)
unfolding has_value
value_postvar a b c = at_postvar value_rule a b c

pub value_vget : (a : ℕ) → has_value (e.VGet a) ≡ value_rule (Expr-F.VGet a)
unfolding has_value
value_vget a = at_vget value_rule a

pub value_vset : (a : ℕ) (b : Expr) → has_value (e.VSet a b) ≡ value_rule (Expr-F.VSet a (has_value b))
unfolding has_value
value_vset a b = at_vset value_rule a b

pub value_vpost : (a : ℕ) (b : ℕ) → has_value (e.VPost a b) ≡ value_rule (Expr-F.VPost a b)
unfolding has_value
value_vpost a b = at_vpost value_rule a b

pub value_frame : (a : ℕ) → has_value (e.Frame a) ≡ value_rule (Expr-F.Frame a)
unfolding has_value
value_frame a = at_frame value_rule a

pub value_load : (a : Width) (b : Expr) → has_value (e.Load a b) ≡ value_rule (Expr-F.Load a (has_value b))
unfolding has_value
value_load a b = at_load value_rule a b

pub value_store : (a : Width) (b : Expr) (c : Expr) →
    has_value (e.Store a b c) ≡ value_rule (Expr-F.Store a (has_value b) (has_value c))
unfolding has_value
value_store a b c = at_store value_rule a b c

pub value_modify : (a : Width) (b : BinKind) (c : Expr) (d : Expr) →
    has_value (e.Modify a b c d) ≡ value_rule (Expr-F.Modify a b (has_value c) (has_value d))
unfolding has_value
value_modify a b c d = at_modify value_rule a b c d

pub value_post : (a : Width) (b : ℕ) (c : Expr) → has_value (e.Post a b c) ≡ value_rule (Expr-F.Post a b (has_value c))
unfolding has_value
value_post a b c = at_post value_rule a b c

pub value_bin : (a : BinKind) (b : Expr) (c : Expr) →
    has_value (e.Bin a b c) ≡ value_rule (Expr-F.Bin a (has_value b) (has_value c))
unfolding has_value
value_bin a b c = at_bin value_rule a b c

pub value_un : (a : UnKind) (b : Expr) → has_value (e.Un a b) ≡ value_rule (Expr-F.Un a (has_value b))
unfolding has_value
value_un a b = at_un value_rule a b

pub value_and : (a : Expr) (b : Expr) → has_value (e.And a b) ≡ value_rule (Expr-F.And (has_value a) (has_value b))
unfolding has_value
value_and a b = at_and value_rule a b

pub value_or : (a : Expr) (b : Expr) → has_value (e.Or a b) ≡ value_rule (Expr-F.Or (has_value a) (has_value b))
unfolding has_value
value_or a b = at_or value_rule a b

pub value_cond : (a : Expr) (b : Expr) (c : Expr) →
    has_value (e.Cond a b c) ≡ value_rule (Expr-F.Cond (has_value a) (has_value b) (has_value c))
unfolding has_value
value_cond a b c = at_cond value_rule a b c

pub value_comma : (a : Expr) (b : Expr) →
    has_value (e.Comma a b) ≡ value_rule (Expr-F.Comma (has_value a) (has_value b))
unfolding has_value
value_comma a b = at_comma value_rule a b

pub value_void : (a : Expr) → has_value (e.Void a) ≡ value_rule (Expr-F.Void (has_value a))
unfolding has_value
value_void a = at_void value_rule a

pub value_call : (a : Answer) (b : ℕ) (c : List Expr) →
    has_value (e.Call a b c) ≡ value_rule (Expr-F.Call a b (map has_value c))
unfolding has_value
value_call a b c = at_call value_rule a b c

pub value_callnumber : (a : Answer) (b : Expr) (c : List Expr) →
    has_value (e.CallNumber a b c) ≡ value_rule (Expr-F.CallNumber a (has_value b) (map has_value c))
unfolding has_value
value_callnumber a b c = at_callnumber value_rule a b c

pub value_getchar : has_value e.Getchar ≡ value_rule Expr-F.Getchar
unfolding has_value
value_getchar = at_getchar value_rule

pub value_lib : (a : Library) (b : Expr) → has_value (e.Lib a b) ≡ value_rule (Expr-F.Lib a (has_value b))
unfolding has_value
value_lib a b = at_lib value_rule a b

pub value_tick : (a : ℕ) (b : List Expr) → has_value (e.Tick a b) ≡ value_rule (Expr-F.Tick a (map has_value b))
unfolding has_value
value_tick a b = at_tick value_rule a b

pub value_capture : (a : CaptureKind) (b : Expr) →
    has_value (e.Capture a b) ≡ value_rule (Expr-F.Capture a (has_value b))
unfolding has_value
value_capture a b = at_capture value_rule a b

pub value_splice : (a : Answer) (b : ℕ) → has_value (e.Splice a b) ≡ value_rule (Expr-F.Splice a b)
unfolding has_value
value_splice a b = at_splice value_rule a b

pub value_compile : (a : Expr) → has_value (e.Compile a) ≡ value_rule (Expr-F.Compile (has_value a))
unfolding has_value
value_compile a = at_compile value_rule a

pub value_local : has_value e.Local ≡ value_rule Expr-F.Local
unfolding has_value
value_local = at_local value_rule

pub value_paramof : (a : Expr) → has_value (e.ParamOf a) ≡ value_rule (Expr-F.ParamOf (has_value a))
unfolding has_value
value_paramof a = at_paramof value_rule a

pub ruleset values = (
  value_const,
  value_captured,
  value_var,
  value_setvar,
  value_postvar,
  value_vget,
  value_vset,
  value_vpost,
  value_frame,
  value_load,
  value_store,
  value_modify,
  value_post,
  value_bin,
  value_un,
  value_and,
  value_or,
  value_cond,
  value_comma,
  value_void,
  value_call,
  value_callnumber,
  value_getchar,
  value_lib,
  value_tick,
  value_capture,
  value_splice,
  value_compile,
  value_local,
  value_paramof,
)
