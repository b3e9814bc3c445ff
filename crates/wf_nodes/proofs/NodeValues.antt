-- Where the parts of a node are used right, the node leaves its value; one law a node.
use Rattle.std.proofs.Common.{◌≡◌, ℕ, Bool, true, false, not, if◌then◌else◌, refl, ap, sym, ◌∙◌, List, [], ◌∷◌, ◌++◌}
use Rattle.std.proofs.Common.{map}
use Rattle.word32.specs.declared.width.Width.{Width}
use Rattle.icode_ops.specs.declared.kind.BinKind.{BinKind}
use Rattle.icode_ops.specs.declared.kind.UnKind.{UnKind}
use Rattle.c_types.specs.declared.ctype.CType.{CType}
use Rattle.check_types.specs.Shapes.{is_void}
use Rattle.typed_tree.specs.declared.expression.Answer.TheVariants as answer
use Rattle.typed_tree.specs.declared.expression.CaptureKind.{CaptureKind}
use Rattle.typed_tree.specs.declared.expression.CapturedWord.{CapturedWord}
use Rattle.typed_tree.specs.declared.expression.Library.{Library}
use Rattle.typed_tree.specs.declared.expression.Expr.{Expr}
use Rattle.typed_tree.specs.declared.expression.Expr.TheVariants as ex
use Rattle.typed_tree.specs.Sizes.{is_value, answers}
use Rattle.check_operands.specs.Calls.{answer_of}
use Rattle.wellformed.specs.Values.{Use, used, all_used, same, value_use, is_right}
use Rattle.wellformed.proofs.Uses.{value_use_const, value_use_captured, value_use_var, value_use_setvar}
use Rattle.wellformed.proofs.Uses.{value_use_postvar, value_use_vget, value_use_vset, value_use_vpost, value_use_frame}
use Rattle.wellformed.proofs.Uses.{value_use_load, value_use_store, value_use_modify, value_use_post, value_use_bin}
use Rattle.wellformed.proofs.Uses.{value_use_un, value_use_and, value_use_or, value_use_cond, value_use_comma}
use Rattle.wellformed.proofs.Uses.{value_use_void, value_use_call, value_use_callnumber, value_use_getchar}
use Rattle.wellformed.proofs.Uses.{value_use_lib, value_use_tick, value_use_capture, value_use_splice}
use Rattle.wellformed.proofs.Uses.{value_use_compile, value_use_local, value_use_paramof}
use Rattle.wellformed.proofs.Bools.{and_true, first_true, second_true}
use Rattle.wf_nodes.specs.Used.{Leaves, EachLeaves, UsedAs}
use Rattle.wf_nodes.specs.Values.{NodesUse}

along : (u w : Use) → u ≡ w → used w ≡ true → used u ≡ true
along u w e h = ap used e ∙ h

-- ---- an expression of a type, and one that leaves a value

pub right_of : (e : Expr) → Leaves e → is_right e ≡ true
right_of e h = second_true (value_use e).value (value_use e).right h

pub as_used : (t : CType) (e : Expr) → Leaves e → is_void t ≡ false → UsedAs t e
as_used t e h n = record {
  right = right_of e h;
  value =
      first_true (value_use e).value (value_use e).right h ∙ sym (ap not n);
}

pub left_of : (t : CType) (e : Expr) → UsedAs t e → is_void t ≡ false → Leaves e
left_of t e h n = and_true _ _ (h.value ∙ ap not n) h.right

-- as one of a type that is void where the first is
pub retyped : (s t : CType) (e : Expr) → UsedAs s e → is_void t ≡ is_void s → UsedAs t e
retyped s t e h n = record { right = h.right; value = h.value ∙ sym (ap not n) }

by_use : (t : CType) (e : Expr) (u : Use) → value_use e ≡ u → u.right ≡ true → u.value ≡ not (is_void t) → UsedAs t e
by_use t e u p r v = record { right = ap (λ (w : Use). w.right) p ∙ r; value = ap (λ (w : Use). w.value) p ∙ v }

-- ---- nodes without parts

pub const_left : (n : ℕ) → Leaves (ex.Const n)
const_left n = along _ _ (value_use_const n) refl

pub var_left : (i : ℕ) → Leaves (ex.Var i)
var_left i = along _ _ (value_use_var i) refl

pub generated_left : (i : ℕ) → Leaves (ex.VGet i)
generated_left i = along _ _ (value_use_vget i) refl

captured_left : (w : CapturedWord) (i : ℕ) → Leaves (ex.Captured w i)
captured_left w i = along _ _ (value_use_captured w i) refl

frame_left : (off : ℕ) → Leaves (ex.Frame off)
frame_left off = along _ _ (value_use_frame off) refl

pub post_variable_left : (i : ℕ) (w : Width) (n : ℕ) → Leaves (ex.PostVar i w n)
post_variable_left i w n = along _ _ (value_use_postvar i w n) refl

pub post_generated_left : (i n : ℕ) → Leaves (ex.VPost i n)
post_generated_left i n = along _ _ (value_use_vpost i n) refl

pub getchar_left : Leaves ex.Getchar
getchar_left = along _ _ value_use_getchar refl

pub local_left : Leaves ex.Local
local_left = along _ _ value_use_local refl

-- ---- nodes that use the values of their parts

pub set_left : (i : ℕ) (e : Expr) → Leaves e → Leaves (ex.SetVar i e)
set_left i e h = along _ _ (value_use_setvar i e) h

pub set_generated_left : (i : ℕ) (e : Expr) → Leaves e → Leaves (ex.VSet i e)
set_generated_left i e h = along _ _ (value_use_vset i e) h

pub load_left : (w : Width) (e : Expr) → Leaves e → Leaves (ex.Load w e)
load_left w e h = along _ _ (value_use_load w e) h

pub store_left : (w : Width) (x y : Expr) → Leaves x → Leaves y → Leaves (ex.Store w x y)
store_left w x y h k = along _ _ (value_use_store w x y) (and_true _ _ h k)

pub modify_left : (w : Width) (b : BinKind) (x y : Expr) → Leaves x → Leaves y → Leaves (ex.Modify w b x y)
modify_left w b x y h k = along _ _ (value_use_modify w b x y) (and_true _ _ h k)

pub post_left : (w : Width) (n : ℕ) (e : Expr) → Leaves e → Leaves (ex.Post w n e)
post_left w n e h = along _ _ (value_use_post w n e) h

pub bin_left : (b : BinKind) (x y : Expr) → Leaves x → Leaves y → Leaves (ex.Bin b x y)
bin_left b x y h k = along _ _ (value_use_bin b x y) (and_true _ _ h k)

pub un_left : (u : UnKind) (e : Expr) → Leaves e → Leaves (ex.Un u e)
un_left u e h = along _ _ (value_use_un u e) h

pub both_left : (x y : Expr) → Leaves x → Leaves y → Leaves (ex.And x y)
both_left x y h k = along _ _ (value_use_and x y) (and_true _ _ h k)

pub either_left : (x y : Expr) → Leaves x → Leaves y → Leaves (ex.Or x y)
either_left x y h k = along _ _ (value_use_or x y) (and_true _ _ h k)

pub compile_left : (e : Expr) → Leaves e → Leaves (ex.Compile e)
compile_left e h = along _ _ (value_use_compile e) h

pub parameter_left : (e : Expr) → Leaves e → Leaves (ex.ParamOf e)
parameter_left e h = along _ _ (value_use_paramof e) h

capture_left : (k : CaptureKind) (e : Expr) → Leaves e → Leaves (ex.Capture k e)
capture_left k e h = along _ _ (value_use_capture k e) h

each_left : (es : List Expr) → EachLeaves es → all_used (map value_use es) ≡ true
each_left [] h = refl
each_left (e ∷ es) h = and_true _ _ h.0 (each_left es h.1)

one_more : (es : List Expr) (e : Expr) → EachLeaves es → Leaves e → EachLeaves (es ++ e ∷ [])
one_more [] e h k = (k, tt)
one_more (x ∷ es) e h k = (h.0, one_more es e h.1 k)

tick_left : (n : ℕ) (es : List Expr) → EachLeaves es → Leaves (ex.Tick n es)
tick_left n es h = along _ _ (value_use_tick n es) (each_left es h)

-- ---- nodes that leave a value by their types

pub void_used : (t : CType) (e : Expr) → is_right e ≡ true → is_void t ≡ true → UsedAs t (ex.Void e)
void_used t e h n = by_use t _ _ (value_use_void e) h (sym (ap not n))

pub comma_used : (t : CType) (x y : Expr) → is_right x ≡ true → UsedAs t y → UsedAs t (ex.Comma x y)
comma_used t x y h k = by_use t _ _ (value_use_comma x y) (and_true _ _ h k.right) k.value

same_values : (b c d : Bool) → b ≡ d → c ≡ d → same b c ≡ true
same_values true true d p q = refl
same_values false false d p q = refl
same_values true false d p q = cc
same_values false true d p q = cc

pub choice_used : (r s t : CType) (c x y : Expr) → is_void s ≡ is_void r → is_void t ≡ is_void r → Leaves c →
    UsedAs s x → UsedAs t y → UsedAs r (ex.Cond c x y)
choice_used r s t c x y m n h k l =
    by_use r _ _ (value_use_cond c x y)
    (and_true _ _ (and_true _ _ (and_true _ _ h k.right) l.right)
    (same_values _ _ _ (k.value ∙ ap not m) (l.value ∙ ap not n)))
    (k.value ∙ ap not m)

answered : (b : Bool) → is_value (if b then answer.Void else answer.Value) ≡ not b
answered true = refl
answered false = refl

pub call_used : (t : CType) (f : ℕ) (es : List Expr) → EachLeaves es → UsedAs t (ex.Call (answer_of t) f es)
call_used t f es h = by_use t _ _ (value_use_call (answer_of t) f es) (each_left es h) (answered (is_void t))

pub call_number_used : (t : CType) (e : Expr) (es : List Expr) → Leaves e → EachLeaves es →
    UsedAs t (ex.CallNumber (answer_of t) e es)
call_number_used t e es h k =
    by_use t _ _ (value_use_callnumber (answer_of t) e es) (and_true _ _ h (each_left es k)) (answered (is_void t))

pub library_used : (t : CType) (f : Library) (e : Expr) → answers f ≡ not (is_void t) → Leaves e → UsedAs t (ex.Lib f e)
library_used t f e n h = by_use t _ _ (value_use_lib f e) h n

splice_used : (t : CType) (i : ℕ) → UsedAs t (ex.Splice (answer_of t) i)
splice_used t i = by_use t _ _ (value_use_splice (answer_of t) i) refl (answered (is_void t))

pub nodes_use : NodesUse
nodes_use = record {
  left = left_of;
  used = as_used;
  constant = const_left;
  variable = var_left;
  frame = frame_left;
  generated = generated_left;
  captured = captured_left;
  capture = capture_left;
  splice = splice_used;
  more = one_more;
  tick = tick_left;
}
