-- The value of each node, where it is constant.
use Rattle.std.proofs.Common.{◌≡◌, ℕ, ap, sym, ◌∙◌, List, map}
use Rattle.std.specs.Prelude.{Option}
use Rattle.word32.specs.declared.width.Width.{Width}
use Rattle.icode_ops.specs.declared.kind.BinKind.{BinKind}
use Rattle.icode_ops.specs.declared.kind.UnKind.{UnKind}
use Rattle.typed_tree.specs.declared.expression.Answer.{Answer}
use Rattle.typed_tree.specs.declared.expression.Library.{Library}
use Rattle.typed_tree.specs.declared.expression.CaptureKind.{CaptureKind}
use Rattle.typed_tree.specs.declared.expression.CapturedWord.{CapturedWord}
use Rattle.typed_tree.specs.declared.expression.Expr.{Expr}
use Rattle.typed_tree.specs.declared.expression.Expr.TheOpen.{Expr-F}
use Rattle.typed_tree.specs.declared.expression.Expr.TheFolds.{fold-roll-Expr}
use Rattle.typed_tree.specs.declared.expression.Expr.TheVariants as e
use Rattle.meaning_operators.specs.Constants.{constant, constant_rule}

pub constant_const : (a : ℕ) → constant (e.Const a) ≡ constant_rule (Expr-F.Const a)
unfolding constant
constant_const a = ap constant (sym (e.rolls-Const a)) ∙ fold-roll-Expr (Option ℕ) constant_rule (Expr-F.Const a)

pub constant_captured : (a : CapturedWord) (b : ℕ) → constant (e.Captured a b) ≡ constant_rule (Expr-F.Captured a b)
unfolding constant
constant_captured a b = ap constant (sym (e.rolls-Captured a b)) ∙
    fold-roll-Expr (Option ℕ) constant_rule (Expr-F.Captured a b)

pub constant_var : (a : ℕ) → constant (e.Var a) ≡ constant_rule (Expr-F.Var a)
unfolding constant
constant_var a = ap constant (sym (e.rolls-Var a)) ∙ fold-roll-Expr (Option ℕ) constant_rule (Expr-F.Var a)

pub constant_setvar : (a : ℕ) (b : Expr) → constant (e.SetVar a b) ≡ constant_rule (Expr-F.SetVar a (constant b))
unfolding constant
constant_setvar a b = ap constant (sym (e.rolls-SetVar a b)) ∙
    fold-roll-Expr (Option ℕ) constant_rule (Expr-F.SetVar a b)

pub constant_postvar : (a : ℕ) (b : Width) (c : ℕ) → constant (e.PostVar a b c) ≡ constant_rule (Expr-F.PostVar a b c)
unfolding constant
constant_postvar a b c = ap constant (sym (e.rolls-PostVar a b c)) ∙
    fold-roll-Expr (Option ℕ) constant_rule (Expr-F.PostVar a b c)

pub constant_vget : (a : ℕ) → constant (e.VGet a) ≡ constant_rule (Expr-F.VGet a)
unfolding constant
constant_vget a = ap constant (sym (e.rolls-VGet a)) ∙ fold-roll-Expr (Option ℕ) constant_rule (Expr-F.VGet a)

pub constant_vset : (a : ℕ) (b : Expr) → constant (e.VSet a b) ≡ constant_rule (Expr-F.VSet a (constant b))
unfolding constant
constant_vset a b = ap constant (sym (e.rolls-VSet a b)) ∙ fold-roll-Expr (Option ℕ) constant_rule (Expr-F.VSet a b)

pub constant_vpost : (a : ℕ) (b : ℕ) → constant (e.VPost a b) ≡ constant_rule (Expr-F.VPost a b)
unfolding constant
constant_vpost a b = ap constant (sym (e.rolls-VPost a b)) ∙ fold-roll-Expr (Option ℕ) constant_rule (Expr-F.VPost a b)

pub constant_frame : (a : ℕ) → constant (e.Frame a) ≡ constant_rule (Expr-F.Frame a)
unfolding constant
constant_frame a = ap constant (sym (e.rolls-Frame a)) ∙ fold-roll-Expr (Option ℕ) constant_rule (Expr-F.Frame a)

pub constant_load : (a : Width) (b : Expr) → constant (e.Load a b) ≡ constant_rule (Expr-F.Load a (constant b))
unfolding constant
constant_load a b = ap constant (sym (e.rolls-Load a b)) ∙ fold-roll-Expr (Option ℕ) constant_rule (Expr-F.Load a b)

pub constant_store : (a : Width) (b : Expr) (c : Expr) →
    constant (e.Store a b c) ≡ constant_rule (Expr-F.Store a (constant b) (constant c))
unfolding constant
constant_store a b c = ap constant (sym (e.rolls-Store a b c)) ∙
    fold-roll-Expr (Option ℕ) constant_rule (Expr-F.Store a b c)

pub constant_modify : (a : Width) (b : BinKind) (c : Expr) (d : Expr) →
    constant (e.Modify a b c d) ≡ constant_rule (Expr-F.Modify a b (constant c) (constant d))
unfolding constant
constant_modify a b c d =
    ap constant (sym (e.rolls-Modify a b c d)) ∙ fold-roll-Expr (Option ℕ) constant_rule (Expr-F.Modify a b c d)

pub constant_post : (a : Width) (b : ℕ) (c : Expr) →
    constant (e.Post a b c) ≡ constant_rule (Expr-F.Post a b (constant c))
unfolding constant
constant_post a b c = ap constant (sym (e.rolls-Post a b c)) ∙
    fold-roll-Expr (Option ℕ) constant_rule (Expr-F.Post a b c)

pub constant_bin : (a : BinKind) (b : Expr) (c : Expr) →
    constant (e.Bin a b c) ≡ constant_rule (Expr-F.Bin a (constant b) (constant c))
unfolding constant
constant_bin a b c = ap constant (sym (e.rolls-Bin a b c)) ∙ fold-roll-Expr (Option ℕ) constant_rule (Expr-F.Bin a b c)

pub constant_un : (a : UnKind) (b : Expr) → constant (e.Un a b) ≡ constant_rule (Expr-F.Un a (constant b))
unfolding constant
constant_un a b = ap constant (sym (e.rolls-Un a b)) ∙ fold-roll-Expr (Option ℕ) constant_rule (Expr-F.Un a b)

pub constant_and : (a : Expr) (b : Expr) → constant (e.And a b) ≡ constant_rule (Expr-F.And (constant a) (constant b))
unfolding constant
constant_and a b = ap constant (sym (e.rolls-And a b)) ∙ fold-roll-Expr (Option ℕ) constant_rule (Expr-F.And a b)

pub constant_or : (a : Expr) (b : Expr) → constant (e.Or a b) ≡ constant_rule (Expr-F.Or (constant a) (constant b))
unfolding constant
constant_or a b = ap constant (sym (e.rolls-Or a b)) ∙ fold-roll-Expr (Option ℕ) constant_rule (Expr-F.Or a b)

pub constant_cond : (a : Expr) (b : Expr) (c : Expr) →
    constant (e.Cond a b c) ≡ constant_rule (Expr-F.Cond (constant a) (constant b) (constant c))
unfolding constant
constant_cond a b c = ap constant (sym (e.rolls-Cond a b c)) ∙
    fold-roll-Expr (Option ℕ) constant_rule (Expr-F.Cond a b c)

pub constant_comma : (a : Expr) (b : Expr) →
    constant (e.Comma a b) ≡ constant_rule (Expr-F.Comma (constant a) (constant b))
unfolding constant
constant_comma a b = ap constant (sym (e.rolls-Comma a b)) ∙ fold-roll-Expr (Option ℕ) constant_rule (Expr-F.Comma a b)

pub constant_void : (a : Expr) → constant (e.Void a) ≡ constant_rule (Expr-F.Void (constant a))
unfolding constant
constant_void a = ap constant (sym (e.rolls-Void a)) ∙ fold-roll-Expr (Option ℕ) constant_rule (Expr-F.Void a)

pub constant_call : (a : Answer) (b : ℕ) (c : List Expr) →
    constant (e.Call a b c) ≡ constant_rule (Expr-F.Call a b (map constant c))
unfolding constant
constant_call a b c = ap constant (sym (e.rolls-Call a b c)) ∙
    fold-roll-Expr (Option ℕ) constant_rule (Expr-F.Call a b c)

pub constant_callnumber : (a : Answer) (b : Expr) (c : List Expr) →
    constant (e.CallNumber a b c) ≡ constant_rule (Expr-F.CallNumber a (constant b) (map constant c))
unfolding constant
constant_callnumber a b c =
    ap constant (sym (e.rolls-CallNumber a b c)) ∙ fold-roll-Expr (Option ℕ) constant_rule (Expr-F.CallNumber a b c)

pub constant_getchar : constant e.Getchar ≡ constant_rule Expr-F.Getchar
unfolding constant
constant_getchar = ap constant (sym e.rolls-Getchar) ∙ fold-roll-Expr (Option ℕ) constant_rule Expr-F.Getchar

pub constant_lib : (a : Library) (b : Expr) → constant (e.Lib a b) ≡ constant_rule (Expr-F.Lib a (constant b))
unfolding constant
constant_lib a b = ap constant (sym (e.rolls-Lib a b)) ∙ fold-roll-Expr (Option ℕ) constant_rule (Expr-F.Lib a b)

pub constant_tick : (a : ℕ) (b : List Expr) → constant (e.Tick a b) ≡ constant_rule (Expr-F.Tick a (map constant b))
unfolding constant
constant_tick a b = ap constant (sym (e.rolls-Tick a b)) ∙ fold-roll-Expr (Option ℕ) constant_rule (Expr-F.Tick a b)

pub constant_capture : (a : CaptureKind) (b : Expr) →
    constant (e.Capture a b) ≡ constant_rule (Expr-F.Capture a (constant b))
unfolding constant
constant_capture a b = ap constant (sym (e.rolls-Capture a b)) ∙
    fold-roll-Expr (Option ℕ) constant_rule (Expr-F.Capture a b)

pub constant_splice : (a : Answer) (b : ℕ) → constant (e.Splice a b) ≡ constant_rule (Expr-F.Splice a b)
unfolding constant
constant_splice a b = ap constant (sym (e.rolls-Splice a b)) ∙
    fold-roll-Expr (Option ℕ) constant_rule (Expr-F.Splice a b)

pub constant_compile : (a : Expr) → constant (e.Compile a) ≡ constant_rule (Expr-F.Compile (constant a))
unfolding constant
constant_compile a = ap constant (sym (e.rolls-Compile a)) ∙ fold-roll-Expr (Option ℕ) constant_rule (Expr-F.Compile a)

pub constant_local : constant e.Local ≡ constant_rule Expr-F.Local
unfolding constant
constant_local = ap constant (sym e.rolls-Local) ∙ fold-roll-Expr (Option ℕ) constant_rule Expr-F.Local

pub constant_paramof : (a : Expr) → constant (e.ParamOf a) ≡ constant_rule (Expr-F.ParamOf (constant a))
unfolding constant
constant_paramof a = ap constant (sym (e.rolls-ParamOf a)) ∙ fold-roll-Expr (Option ℕ) constant_rule (Expr-F.ParamOf a)

pub ruleset constants = (
  constant_const,
  constant_captured,
  constant_var,
  constant_setvar,
  constant_postvar,
  constant_vget,
  constant_vset,
  constant_vpost,
  constant_frame,
  constant_load,
  constant_store,
  constant_modify,
  constant_post,
  constant_bin,
  constant_un,
  constant_and,
  constant_or,
  constant_cond,
  constant_comma,
  constant_void,
  constant_call,
  constant_callnumber,
  constant_getchar,
  constant_lib,
  constant_tick,
  constant_capture,
  constant_splice,
  constant_compile,
  constant_local,
  constant_paramof,
)
