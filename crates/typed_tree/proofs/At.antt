-- What every fold makes of a node, one a variant. Written by tools/checker/nodes.py.
use Rattle.std.proofs.Common.{◌≡◌, ℕ, List, map, ap, sym, ◌∙◌}
use Rattle.word32.specs.declared.width.Width.{Width}
use Rattle.icode_ops.specs.declared.kind.BinKind.{BinKind}
use Rattle.icode_ops.specs.declared.kind.UnKind.{UnKind}
use Rattle.typed_tree.specs.declared.expression.Answer.{Answer}
use Rattle.typed_tree.specs.declared.expression.Library.{Library}
use Rattle.typed_tree.specs.declared.expression.CaptureKind.{CaptureKind}
use Rattle.typed_tree.specs.declared.expression.CapturedWord.{CapturedWord}
use Rattle.typed_tree.specs.declared.expression.Expr.{Expr}
use Rattle.typed_tree.specs.declared.expression.Expr.TheOpen.{Expr-F}
use Rattle.typed_tree.specs.declared.expression.Expr.TheFolds.{fold-Expr, fold-roll-Expr}
use Rattle.typed_tree.specs.declared.expression.Expr.TheVariants as e
use Rattle.typed_tree.specs.declared.expression.Stmt.{Stmt}
use Rattle.typed_tree.specs.declared.expression.Stmt.TheVariants as st
use Rattle.typed_tree.specs.declared.expression.Stmt.TheOpen.{Stmt-F}
use Rattle.typed_tree.specs.declared.expression.Stmt.TheFolds.{fold-roll-Stmt}
use Rattle.typed_tree.specs.Folds.{Rules, layer, fold_statement}
use Rattle.typed_tree.specs.Folds as parts

pub at_const : {R : Type 0} (r : Expr-F R → R) (a : ℕ) → fold-Expr R r (e.Const a) ≡ r (Expr-F.Const a)
at_const {R} r a = ap (fold-Expr R r) (sym (e.rolls-Const a)) ∙ fold-roll-Expr R r (Expr-F.Const a)

pub at_captured : {R : Type 0} (r : Expr-F R → R) (a : CapturedWord) (b : ℕ) →
    fold-Expr R r (e.Captured a b) ≡ r (Expr-F.Captured a b)
at_captured {R} r a b = ap (fold-Expr R r) (sym (e.rolls-Captured a b)) ∙ fold-roll-Expr R r (Expr-F.Captured a b)

pub at_var : {R : Type 0} (r : Expr-F R → R) (a : ℕ) → fold-Expr R r (e.Var a) ≡ r (Expr-F.Var a)
at_var {R} r a = ap (fold-Expr R r) (sym (e.rolls-Var a)) ∙ fold-roll-Expr R r (Expr-F.Var a)

pub at_setvar : {R : Type 0} (r : Expr-F R → R) (a : ℕ) (b : Expr) →
    fold-Expr R r (e.SetVar a b) ≡ r (Expr-F.SetVar a (fold-Expr R r b))
at_setvar {R} r a b = ap (fold-Expr R r) (sym (e.rolls-SetVar a b)) ∙ fold-roll-Expr R r (Expr-F.SetVar a b)

pub at_postvar : {R : Type 0} (r : Expr-F R → R) (a : ℕ) (b : Width) (c : ℕ) →
    fold-Expr R r (e.PostVar a b c) ≡ r (Expr-F.PostVar a b c)
at_postvar {R} r a b c = ap (fold-Expr R r) (sym (e.rolls-PostVar a b c)) ∙ fold-roll-Expr R r (Expr-F.PostVar a b c)

pub at_vget : {R : Type 0} (r : Expr-F R → R) (a : ℕ) → fold-Expr R r (e.VGet a) ≡ r (Expr-F.VGet a)
at_vget {R} r a = ap (fold-Expr R r) (sym (e.rolls-VGet a)) ∙ fold-roll-Expr R r (Expr-F.VGet a)

pub at_vset : {R : Type 0} (r : Expr-F R → R) (a : ℕ) (b : Expr) →
    fold-Expr R r (e.VSet a b) ≡ r (Expr-F.VSet a (fold-Expr R r b))
at_vset {R} r a b = ap (fold-Expr R r) (sym (e.rolls-VSet a b)) ∙ fold-roll-Expr R r (Expr-F.VSet a b)

pub at_vpost : {R : Type 0} (r : Expr-F R → R) (a : ℕ) (b : ℕ) → fold-Expr R r (e.VPost a b) ≡ r (Expr-F.VPost a b)
at_vpost {R} r a b = ap (fold-Expr R r) (sym (e.rolls-VPost a b)) ∙ fold-roll-Expr R r (Expr-F.VPost a b)

pub at_frame : {R : Type 0} (r : Expr-F R → R) (a : ℕ) → fold-Expr R r (e.Frame a) ≡ r (Expr-F.Frame a)
at_frame {R} r a = ap (fold-Expr R r) (sym (e.rolls-Frame a)) ∙ fold-roll-Expr R r (Expr-F.Frame a)

pub at_load : {R : Type 0} (r : Expr-F R → R) (a : Width) (b : Expr) →
    fold-Expr R r (e.Load a b) ≡ r (Expr-F.Load a (fold-Expr R r b))
at_load {R} r a b = ap (fold-Expr R r) (sym (e.rolls-Load a b)) ∙ fold-roll-Expr R r (Expr-F.Load a b)

pub at_store : {R : Type 0} (r : Expr-F R → R) (a : Width) (b : Expr) (c : Expr) →
    fold-Expr R r (e.Store a b c) ≡ r (Expr-F.Store a (fold-Expr R r b) (fold-Expr R r c))
at_store {R} r a b c = ap (fold-Expr R r) (sym (e.rolls-Store a b c)) ∙ fold-roll-Expr R r (Expr-F.Store a b c)

pub at_modify : {R : Type 0} (r : Expr-F R → R) (a : Width) (b : BinKind) (c : Expr) (d : Expr) →
    fold-Expr R r (e.Modify a b c d) ≡ r (Expr-F.Modify a b (fold-Expr R r c) (fold-Expr R r d))
at_modify {R} r a b c d = ap (fold-Expr R r) (sym (e.rolls-Modify a b c d)) ∙ fold-roll-Expr R r (Expr-F.Modify a b c d)

pub at_post : {R : Type 0} (r : Expr-F R → R) (a : Width) (b : ℕ) (c : Expr) →
    fold-Expr R r (e.Post a b c) ≡ r (Expr-F.Post a b (fold-Expr R r c))
at_post {R} r a b c = ap (fold-Expr R r) (sym (e.rolls-Post a b c)) ∙ fold-roll-Expr R r (Expr-F.Post a b c)

pub at_bin : {R : Type 0} (r : Expr-F R → R) (a : BinKind) (b : Expr) (c : Expr) →
    fold-Expr R r (e.Bin a b c) ≡ r (Expr-F.Bin a (fold-Expr R r b) (fold-Expr R r c))
at_bin {R} r a b c = ap (fold-Expr R r) (sym (e.rolls-Bin a b c)) ∙ fold-roll-Expr R r (Expr-F.Bin a b c)

pub at_un : {R : Type 0} (r : Expr-F R → R) (a : UnKind) (b : Expr) →
    fold-Expr R r (e.Un a b) ≡ r (Expr-F.Un a (fold-Expr R r b))
at_un {R} r a b = ap (fold-Expr R r) (sym (e.rolls-Un a b)) ∙ fold-roll-Expr R r (Expr-F.Un a b)

pub at_and : {R : Type 0} (r : Expr-F R → R) (a : Expr) (b : Expr) →
    fold-Expr R r (e.And a b) ≡ r (Expr-F.And (fold-Expr R r a) (fold-Expr R r b))
at_and {R} r a b = ap (fold-Expr R r) (sym (e.rolls-And a b)) ∙ fold-roll-Expr R r (Expr-F.And a b)

pub at_or : {R : Type 0} (r : Expr-F R → R) (a : Expr) (b : Expr) →
    fold-Expr R r (e.Or a b) ≡ r (Expr-F.Or (fold-Expr R r a) (fold-Expr R r b))
at_or {R} r a b = ap (fold-Expr R r) (sym (e.rolls-Or a b)) ∙ fold-roll-Expr R r (Expr-F.Or a b)

pub at_cond : {R : Type 0} (r : Expr-F R → R) (a : Expr) (b : Expr) (c : Expr) →
    fold-Expr R r (e.Cond a b c) ≡ r (Expr-F.Cond (fold-Expr R r a) (fold-Expr R r b) (fold-Expr R r c))
at_cond {R} r a b c = ap (fold-Expr R r) (sym (e.rolls-Cond a b c)) ∙ fold-roll-Expr R r (Expr-F.Cond a b c)

pub at_comma : {R : Type 0} (r : Expr-F R → R) (a : Expr) (b : Expr) →
    fold-Expr R r (e.Comma a b) ≡ r (Expr-F.Comma (fold-Expr R r a) (fold-Expr R r b))
at_comma {R} r a b = ap (fold-Expr R r) (sym (e.rolls-Comma a b)) ∙ fold-roll-Expr R r (Expr-F.Comma a b)

pub at_void : {R : Type 0} (r : Expr-F R → R) (a : Expr) → fold-Expr R r (e.Void a) ≡ r (Expr-F.Void (fold-Expr R r a))
at_void {R} r a = ap (fold-Expr R r) (sym (e.rolls-Void a)) ∙ fold-roll-Expr R r (Expr-F.Void a)

pub at_call : {R : Type 0} (r : Expr-F R → R) (a : Answer) (b : ℕ) (c : List Expr) →
    fold-Expr R r (e.Call a b c) ≡ r (Expr-F.Call a b (map (fold-Expr R r) c))
at_call {R} r a b c = ap (fold-Expr R r) (sym (e.rolls-Call a b c)) ∙ fold-roll-Expr R r (Expr-F.Call a b c)

pub at_callnumber : {R : Type 0} (r : Expr-F R → R) (a : Answer) (b : Expr) (c : List Expr) →
    fold-Expr R r (e.CallNumber a b c) ≡ r (Expr-F.CallNumber a (fold-Expr R r b) (map (fold-Expr R r) c))
at_callnumber {R} r a b c =
    ap (fold-Expr R r) (sym (e.rolls-CallNumber a b c)) ∙ fold-roll-Expr R r (Expr-F.CallNumber a b c)

pub at_getchar : {R : Type 0} (r : Expr-F R → R) → fold-Expr R r e.Getchar ≡ r Expr-F.Getchar
at_getchar {R} r = ap (fold-Expr R r) (sym e.rolls-Getchar) ∙ fold-roll-Expr R r Expr-F.Getchar

pub at_lib : {R : Type 0} (r : Expr-F R → R) (a : Library) (b : Expr) →
    fold-Expr R r (e.Lib a b) ≡ r (Expr-F.Lib a (fold-Expr R r b))
at_lib {R} r a b = ap (fold-Expr R r) (sym (e.rolls-Lib a b)) ∙ fold-roll-Expr R r (Expr-F.Lib a b)

pub at_tick : {R : Type 0} (r : Expr-F R → R) (a : ℕ) (b : List Expr) →
    fold-Expr R r (e.Tick a b) ≡ r (Expr-F.Tick a (map (fold-Expr R r) b))
at_tick {R} r a b = ap (fold-Expr R r) (sym (e.rolls-Tick a b)) ∙ fold-roll-Expr R r (Expr-F.Tick a b)

pub at_capture : {R : Type 0} (r : Expr-F R → R) (a : CaptureKind) (b : Expr) →
    fold-Expr R r (e.Capture a b) ≡ r (Expr-F.Capture a (fold-Expr R r b))
at_capture {R} r a b = ap (fold-Expr R r) (sym (e.rolls-Capture a b)) ∙ fold-roll-Expr R r (Expr-F.Capture a b)

pub at_splice : {R : Type 0} (r : Expr-F R → R) (a : Answer) (b : ℕ) →
    fold-Expr R r (e.Splice a b) ≡ r (Expr-F.Splice a b)
at_splice {R} r a b = ap (fold-Expr R r) (sym (e.rolls-Splice a b)) ∙ fold-roll-Expr R r (Expr-F.Splice a b)

pub at_compile : {R : Type 0} (r : Expr-F R → R) (a : Expr) →
    fold-Expr R r (e.Compile a) ≡ r (Expr-F.Compile (fold-Expr R r a))
at_compile {R} r a = ap (fold-Expr R r) (sym (e.rolls-Compile a)) ∙ fold-roll-Expr R r (Expr-F.Compile a)

pub at_local : {R : Type 0} (r : Expr-F R → R) → fold-Expr R r e.Local ≡ r Expr-F.Local
at_local {R} r = ap (fold-Expr R r) (sym e.rolls-Local) ∙ fold-roll-Expr R r Expr-F.Local

pub at_paramof : {R : Type 0} (r : Expr-F R → R) (a : Expr) →
    fold-Expr R r (e.ParamOf a) ≡ r (Expr-F.ParamOf (fold-Expr R r a))
at_paramof {R} r a = ap (fold-Expr R r) (sym (e.rolls-ParamOf a)) ∙ fold-roll-Expr R r (Expr-F.ParamOf a)

pub on_eval : {E S : Type 0} (r : Rules E S) (a : Expr) →
    fold_statement r (st.Eval a) ≡ r.stmt (parts.Eval (fold-Expr E r.expr a))
on_eval {E} {S} r a = ap (fold_statement r) (sym (st.rolls-Eval a)) ∙ fold-roll-Stmt S (layer r) (Stmt-F.Eval a)

pub on_block : {E S : Type 0} (r : Rules E S) (a : List Stmt) (b : List Stmt) →
    fold_statement r (st.Block a b) ≡ r.stmt (parts.Block (map (fold_statement r) a) (map (fold_statement r) b))
on_block {E} {S} r a b = ap (fold_statement r) (sym (st.rolls-Block a b)) ∙
    fold-roll-Stmt S (layer r) (Stmt-F.Block a b)

pub on_variable : {E S : Type 0} (r : Rules E S) (a : ℕ) → fold_statement r (st.Variable a) ≡ r.stmt (parts.Variable a)
on_variable {E} {S} r a =
    ap (fold_statement r) (sym (st.rolls-Variable a)) ∙ fold-roll-Stmt S (layer r) (Stmt-F.Variable a)

pub on_object : {E S : Type 0} (r : Rules E S) (a : ℕ) (b : ℕ) →
    fold_statement r (st.Object a b) ≡ r.stmt (parts.Object a b)
on_object {E} {S} r a b =
    ap (fold_statement r) (sym (st.rolls-Object a b)) ∙ fold-roll-Stmt S (layer r) (Stmt-F.Object a b)

pub on_parameter : {E S : Type 0} (r : Rules E S) (a : ℕ) (b : Width) →
    fold_statement r (st.Parameter a b) ≡ r.stmt (parts.Parameter a b)
on_parameter {E} {S} r a b =
    ap (fold_statement r) (sym (st.rolls-Parameter a b)) ∙ fold-roll-Stmt S (layer r) (Stmt-F.Parameter a b)

pub on_parameterobject : {E S : Type 0} (r : Rules E S) (a : ℕ) (b : Width) (c : ℕ) →
    fold_statement r (st.ParameterObject a b c) ≡ r.stmt (parts.ParameterObject a b c)
on_parameterobject {E} {S} r a b c =
    ap (fold_statement r) (sym (st.rolls-ParameterObject a b c)) ∙
    fold-roll-Stmt S (layer r) (Stmt-F.ParameterObject a b c)

pub on_if : {E S : Type 0} (r : Rules E S) (a : Expr) (b : Stmt) →
    fold_statement r (st.If a b) ≡ r.stmt (parts.If (fold-Expr E r.expr a) (fold_statement r b))
on_if {E} {S} r a b = ap (fold_statement r) (sym (st.rolls-If a b)) ∙ fold-roll-Stmt S (layer r) (Stmt-F.If a b)

pub on_ifelse : {E S : Type 0} (r : Rules E S) (a : Expr) (b : Stmt) (c : Stmt) →
    fold_statement r (st.IfElse a b c) ≡ r.stmt
    (parts.IfElse (fold-Expr E r.expr a) (fold_statement r b) (fold_statement r c))
on_ifelse {E} {S} r a b c =
    ap (fold_statement r) (sym (st.rolls-IfElse a b c)) ∙ fold-roll-Stmt S (layer r) (Stmt-F.IfElse a b c)

pub on_while : {E S : Type 0} (r : Rules E S) (a : Expr) (b : Stmt) →
    fold_statement r (st.While a b) ≡ r.stmt (parts.While (fold-Expr E r.expr a) (fold_statement r b))
on_while {E} {S} r a b = ap (fold_statement r) (sym (st.rolls-While a b)) ∙
    fold-roll-Stmt S (layer r) (Stmt-F.While a b)

pub on_do : {E S : Type 0} (r : Rules E S) (a : Stmt) (b : Expr) →
    fold_statement r (st.Do a b) ≡ r.stmt (parts.Do (fold_statement r a) (fold-Expr E r.expr b))
on_do {E} {S} r a b = ap (fold_statement r) (sym (st.rolls-Do a b)) ∙ fold-roll-Stmt S (layer r) (Stmt-F.Do a b)

pub on_for : {E S : Type 0} (r : Rules E S) (a : Expr) (b : Stmt) →
    fold_statement r (st.For a b) ≡ r.stmt (parts.For (fold-Expr E r.expr a) (fold_statement r b))
on_for {E} {S} r a b = ap (fold_statement r) (sym (st.rolls-For a b)) ∙ fold-roll-Stmt S (layer r) (Stmt-F.For a b)

pub on_forstep : {E S : Type 0} (r : Rules E S) (a : Expr) (b : Expr) (c : Stmt) →
    fold_statement r (st.ForStep a b c) ≡ r.stmt
    (parts.ForStep (fold-Expr E r.expr a) (fold-Expr E r.expr b) (fold_statement r c))
on_forstep {E} {S} r a b c =
    ap (fold_statement r) (sym (st.rolls-ForStep a b c)) ∙ fold-roll-Stmt S (layer r) (Stmt-F.ForStep a b c)

pub on_switch : {E S : Type 0} (r : Rules E S) (a : Expr) (b : List Stmt) (c : List Stmt) →
    fold_statement r (st.Switch a b c) ≡ r.stmt
    (parts.Switch (fold-Expr E r.expr a) (map (fold_statement r) b) (map (fold_statement r) c))
on_switch {E} {S} r a b c =
    ap (fold_statement r) (sym (st.rolls-Switch a b c)) ∙ fold-roll-Stmt S (layer r) (Stmt-F.Switch a b c)

pub on_case : {E S : Type 0} (r : Rules E S) (a : ℕ) → fold_statement r (st.Case a) ≡ r.stmt (parts.Case a)
on_case {E} {S} r a = ap (fold_statement r) (sym (st.rolls-Case a)) ∙ fold-roll-Stmt S (layer r) (Stmt-F.Case a)

pub on_default : {E S : Type 0} (r : Rules E S) → fold_statement r st.Default ≡ r.stmt parts.Default
on_default {E} {S} r = ap (fold_statement r) (sym st.rolls-Default) ∙ fold-roll-Stmt S (layer r) Stmt-F.Default

pub on_break : {E S : Type 0} (r : Rules E S) → fold_statement r st.Break ≡ r.stmt parts.Break
on_break {E} {S} r = ap (fold_statement r) (sym st.rolls-Break) ∙ fold-roll-Stmt S (layer r) Stmt-F.Break

pub on_continue : {E S : Type 0} (r : Rules E S) → fold_statement r st.Continue ≡ r.stmt parts.Continue
on_continue {E} {S} r = ap (fold_statement r) (sym st.rolls-Continue) ∙ fold-roll-Stmt S (layer r) Stmt-F.Continue

pub on_return : {E S : Type 0} (r : Rules E S) → fold_statement r st.Return ≡ r.stmt parts.Return
on_return {E} {S} r = ap (fold_statement r) (sym st.rolls-Return) ∙ fold-roll-Stmt S (layer r) Stmt-F.Return

pub on_returnvalue : {E S : Type 0} (r : Rules E S) (a : Expr) →
    fold_statement r (st.ReturnValue a) ≡ r.stmt (parts.ReturnValue (fold-Expr E r.expr a))
on_returnvalue {E} {S} r a =
    ap (fold_statement r) (sym (st.rolls-ReturnValue a)) ∙ fold-roll-Stmt S (layer r) (Stmt-F.ReturnValue a)
