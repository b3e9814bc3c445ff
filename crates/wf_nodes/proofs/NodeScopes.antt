-- Where the parts of a node stand right, the node does; one law a node.
use Rattle.std.proofs.Common.{◌≡◌, ℕ, ◌%◌, ◌==◌, Bool, true, false, ◌&&◌, nat_le, if◌then◌else◌, refl, ap, subst, ◌∙◌}
use Rattle.std.proofs.Common.{List, [], ◌∷◌, length, map, Option, Some, None, Ok}
use Rattle.std.proofs.lemmas.List.{length-map}
use Rattle.word32.specs.declared.width.Width.{Width}
use Rattle.icode_ops.specs.declared.kind.BinKind.{BinKind}
use Rattle.icode_ops.specs.declared.kind.UnKind.{UnKind}
use Rattle.tick_tree.specs.declared.fault.FaultKind.{FaultKind}
use Rattle.tick_tree.specs.Faults.{Checked}
use Rattle.typed_tree.specs.declared.expression.Answer.{Answer}
use Rattle.typed_tree.specs.declared.expression.Library.{Library}
use Rattle.typed_tree.specs.declared.expression.Expr.{Expr}
use Rattle.typed_tree.specs.declared.expression.Expr.TheVariants as ex
use Rattle.check_operands.specs.Operands.{by}
use Rattle.wellformed.specs.Places.{Around, Part, part, in_scope, in_function, captured, is_variable, is_called}
use Rattle.wellformed.specs.Places.{are_few, each_stands}
use Rattle.wellformed.proofs.Equations.{part_const, part_var, part_setvar, part_postvar, part_vget, part_vset}
use Rattle.wellformed.proofs.Equations.{part_vpost, part_frame, part_load, part_store, part_modify, part_post, part_bin}
use Rattle.wellformed.proofs.Equations.{part_un, part_and, part_or, part_cond, part_comma, part_void, part_call}
use Rattle.wellformed.proofs.Equations.{part_callnumber, part_getchar, part_lib, part_compile, part_local, part_paramof}
use Rattle.wellformed.proofs.Bools.{and_true}
use Rattle.wf_nodes.specs.Right.{Stands, Unless, EachStands}

along : (a : Around) (p q : Part) → p ≡ q → q.stands a ≡ true → p.stands a ≡ true
along a p q e h = ap (λ (r : Part). r.stands a) e ∙ h

pub const_stands : (a : Around) (n : ℕ) → Stands a (ex.Const n)
const_stands a n = along a _ _ (part_const n) refl

pub var_stands : (a : Around) (i : ℕ) → in_scope i a ≡ true → Stands a (ex.Var i)
var_stands a i h = along a _ _ (part_var i) h

pub set_stands : (a : Around) (i : ℕ) (e : Expr) → in_scope i a ≡ true → Stands a e → Stands a (ex.SetVar i e)
set_stands a i e h k = along a _ _ (part_setvar i e) (and_true _ _ h k)

pub post_variable_stands : (a : Around) (i : ℕ) (w : Width) (n : ℕ) → in_scope i a ≡ true → Stands a (ex.PostVar i w n)
post_variable_stands a i w n h = along a _ _ (part_postvar i w n) h

pub generated_stands : (a : Around) (i : ℕ) → captured is_variable i a ≡ true → Stands a (ex.VGet i)
generated_stands a i h = along a _ _ (part_vget i) h

pub set_generated_stands : (a : Around) (i : ℕ) (e : Expr) → captured is_variable i a ≡ true → Stands a e →
    Stands a (ex.VSet i e)
set_generated_stands a i e h k = along a _ _ (part_vset i e) (and_true _ _ h k)

pub post_generated_stands : (a : Around) (i n : ℕ) → captured is_variable i a ≡ true → Stands a (ex.VPost i n)
post_generated_stands a i n h = along a _ _ (part_vpost i n) h

pub frame_stands : (a : Around) (off : ℕ) → in_function a ≡ true → nat_le off a.object ≡ true → (off % 4 == 0) ≡ true →
    Stands a (ex.Frame off)
frame_stands a off f h k =
    along a _ _ (part_frame off)
    (and_true (in_function a && nat_le off a.object) (off % 4 == 0) (and_true (in_function a) (nat_le off a.object) f h)
    k)

pub load_stands : (a : Around) (w : Width) (e : Expr) → Stands a e → Stands a (ex.Load w e)
load_stands a w e h = along a _ _ (part_load w e) h

pub store_stands : (a : Around) (w : Width) (x y : Expr) → Stands a x → Stands a y → Stands a (ex.Store w x y)
store_stands a w x y h k = along a _ _ (part_store w x y) (and_true _ _ h k)

pub modify_stands : (a : Around) (w : Width) (b : BinKind) (x y : Expr) → Stands a x → Stands a y →
    Stands a (ex.Modify w b x y)
modify_stands a w b x y h k = along a _ _ (part_modify w b x y) (and_true _ _ h k)

pub post_stands : (a : Around) (w : Width) (n : ℕ) (e : Expr) → Stands a e → Stands a (ex.Post w n e)
post_stands a w n e h = along a _ _ (part_post w n e) h

pub bin_stands : (a : Around) (b : BinKind) (x y : Expr) → Stands a x → Stands a y → Stands a (ex.Bin b x y)
bin_stands a b x y h k = along a _ _ (part_bin b x y) (and_true _ _ h k)

pub un_stands : (a : Around) (u : UnKind) (e : Expr) → Stands a e → Stands a (ex.Un u e)
un_stands a u e h = along a _ _ (part_un u e) h

pub both_stand : (a : Around) (x y : Expr) → Stands a x → Stands a y → Stands a (ex.And x y)
both_stand a x y h k = along a _ _ (part_and x y) (and_true _ _ h k)

pub either_stands : (a : Around) (x y : Expr) → Stands a x → Stands a y → Stands a (ex.Or x y)
either_stands a x y h k = along a _ _ (part_or x y) (and_true _ _ h k)

pub choice_stands : (a : Around) (c x y : Expr) → Stands a c → Stands a x → Stands a y → Stands a (ex.Cond c x y)
choice_stands a c x y h k l = along a _ _ (part_cond c x y) (and_true _ _ h (and_true _ _ k l))

pub comma_stands : (a : Around) (x y : Expr) → Stands a x → Stands a y → Stands a (ex.Comma x y)
comma_stands a x y h k = along a _ _ (part_comma x y) (and_true _ _ h k)

pub void_stands : (a : Around) (e : Expr) → Stands a e → Stands a (ex.Void e)
void_stands a e h = along a _ _ (part_void e) h

pub compile_stands : (a : Around) (e : Expr) → in_function a ≡ true → Stands a e → Stands a (ex.Compile e)
compile_stands a e h k = along a _ _ (part_compile e) (and_true _ _ h k)

pub local_stands : (a : Around) → in_function a ≡ true → Stands a ex.Local
local_stands a h = along a _ _ part_local h

pub parameter_stands : (a : Around) (e : Expr) → in_function a ≡ true → Stands a e → Stands a (ex.ParamOf e)
parameter_stands a e h k = along a _ _ (part_paramof e) (and_true _ _ h k)

-- ---- calls

each_true : (a : Around) (es : List Expr) → EachStands a es → each_stands (map part es) a ≡ true
each_true a [] h = refl
each_true a (e ∷ es) h = and_true _ _ h.0 (each_true a es h.1)

as_many : (es : List Expr) → length (map part es) ≡ length es
as_many es = length-map es part

pub call_stands : (a : Around) (r : Answer) (f : ℕ) (es : List Expr) → is_called f (length es) a ≡ true →
    EachStands a es → Stands a (ex.Call r f es)
call_stands a r f es h k =
    along a _ _ (part_call r f es) (and_true _ _ (ap (λ (n : ℕ). is_called f n a) (as_many es) ∙ h) (each_true a es k))

pub call_number_stands : (a : Around) (r : Answer) (e : Expr) (es : List Expr) → Stands a e →
    are_few (length es) ≡ true → EachStands a es → Stands a (ex.CallNumber r e es)
call_number_stands a r e es h few k =
    along a _ _ (part_callnumber r e es)
    (and_true ((part e).stands a && are_few (length (map part es))) _ (and_true _ _ h (ap are_few (as_many es) ∙ few))
    (each_true a es k))

pub getchar_stands : (a : Around) → Stands a ex.Getchar
getchar_stands a = along a _ _ part_getchar refl

pub library_stands : (a : Around) (f : Library) (e : Expr) → Stands a e → Stands a (ex.Lib f e)
library_stands a f e h = along a _ _ (part_lib f e) h

-- ---- rules that may be broken

pub unless_by : {A : Type 0} (P : A → Type 0) (line : ℕ) (k : Option FaultKind) (x : A) → P x → Unless P (by line k x)
unless_by P line None x h = h
unless_by P line (Some k) x h = tt

-- where it isn't broken
pub unless_none : {A : Type 0} (P : A → Type 0) (line : ℕ) (k : Option FaultKind) (x : A) → (k ≡ None → P x) →
    Unless P (by line k x)
unless_none P line None x h = h refl
unless_none P line (Some k) x h = tt

pub unless_if : {A : Type 0} (P : A → Type 0) (b : Bool) (r s : Checked A) → Unless P r → Unless P s →
    Unless P (if b then r else s)
unless_if P true r s h k = h
unless_if P false r s h k = k

pub unless_ok : {A : Type 0} (P : A → Type 0) (c : Checked A) (x : A) → c ≡ Ok x → Unless P c → P x
unless_ok P c x e u = subst (λ z. Unless P z) e u
