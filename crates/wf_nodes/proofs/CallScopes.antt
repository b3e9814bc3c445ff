-- The rules on calls and returns. A call has as many arguments as the function that it names has parameters, and 8 at
-- most.
use Rattle.std.proofs.Common.{◌≡◌, ℕ, ◌-◌, ◌==◌, Bool, true, false, ◌&&◌, nat_le, if◌then◌else◌, refl, ap, ◌∙◌, List}
use Rattle.std.proofs.Common.{[], ◌∷◌, ◌++◌, length, slice_get, Option, Some, None}
use Rattle.c_types.specs.declared.ctype.CType.{CType}
use Rattle.c_types.specs.declared.ctype.Layer.{Layer, out-Layer}
use Rattle.c_types.specs.declared.ctype.Layer.TheOpen.{Layer-F}
use Rattle.c_types.specs.Types.{Opened, outermost, is_unlisted_at, is_unlisted, layers_of}
use Rattle.check_types.specs.Shapes.{inner, is_void, is_pointer}
use Rattle.tick_tree.specs.declared.fault.FaultKind.{FaultKind}
use Rattle.tick_tree.specs.declared.fault.FaultKind.TheVariants as fault
use Rattle.typed_tree.specs.declared.expression.Expr.{Expr}
use Rattle.typed_tree.specs.declared.expression.Library.{Library}
use Rattle.check_operands.specs.declared.operand.Operand.{Operand}
use Rattle.check_operands.specs.declared.operand.Place.{Place}
use Rattle.check_operands.specs.declared.operand.Place.TheVariants as place
use Rattle.check_operands.specs.declared.operand.Value.{Value}
use Rattle.check_operands.specs.Operands.{value_of}
use Rattle.check_operands.specs.declared.arguments.Argument.{Argument}
use Rattle.check_operands.specs.declared.arguments.Arguments.{Arguments}
use Rattle.check_operands.specs.declared.arguments.Callee.TheVariants as callee
use Rattle.check_operands.specs.Calls.{with_argument, any_mismatches, any_void, arguments_break, called_breaks_at}
use Rattle.check_operands.specs.Calls.{called_breaks_by, called_breaks, answer_of, called, through, static_number}
use Rattle.check_operands.specs.Calls.{call_by, call, library_kind, library_node, library, returned, tick_returned}
use Rattle.wellformed.specs.Places.{Around, are_few, takes, is_called}
use Rattle.wellformed.proofs.Bools.{and_true}
use Rattle.wf_nodes.specs.Right.{Stands, EachStands, listed_at, listed_by, HasType, RightPlace, IsRight, Unless}
use Rattle.wf_nodes.specs.Scopes.{CallsStand}
use Rattle.wf_nodes.proofs.NodeScopes.{call_stands, call_number_stands, getchar_stands, library_stands, unless_by}
use Rattle.wf_nodes.proofs.NodeScopes.{unless_none, unless_if}
use Rattle.wf_nodes.proofs.OperandScopes.{value_stands, converted_stands}
use Rattle.wf_nodes.proofs.PlaceScopes.{narrowed_stands}

one_more : (a : Around) (es : List Expr) (e : Expr) → EachStands a es → Stands a e → EachStands a (es ++ e ∷ [])
one_more a [] e h k = (k, tt)
one_more a (x ∷ es) e h k = (h.0, one_more a es e h.1 k)

argument_stands : (a : Around) (list : Arguments) (v : Value) → EachStands a list.codes → Stands a v.code →
    EachStands a (with_argument list v).codes
argument_stands a list v h k = one_more a list.codes v.code h k

-- ---- how many arguments a call takes

none_else : (b : Bool) (f : FaultKind) (k : Option FaultKind) → (if b then Some f else k) ≡ None → k ≡ None
none_else true f k h = cc
none_else false f k h = h

none_then : (b : Bool) (f : FaultKind) (k : Option FaultKind) → (if b then k else Some f) ≡ None →
    (b ≡ true) × (k ≡ None)
none_then true f k h = (refl, h)
none_then false f k h = cc

own_few : (as_ : List Argument) → arguments_break as_ ≡ None → are_few (length as_) ≡ true
own_few as_ h = (none_then (nat_le (length as_) 8) fault.TooManyParameters None
    (none_else (any_void as_) fault.VoidValue _ h)).0

few_at : (as_ : List Argument) (l : Opened) → called_breaks_at as_ l ≡ None → are_few (length as_) ≡ true
few_at as_ (Layer-F.Function ts) h =
    own_few as_ (none_else (any_mismatches as_ ts) fault.TypeMismatch _
    (none_then (length as_ == length ts) fault.ArgumentCount _ h).1)
few_at as_ Layer-F.Unlisted h = own_few as_ h
few_at as_ Layer-F.Pointer h = cc
few_at as_ (Layer-F.Array n) h = cc
few_at as_ Layer-F.Cspec h = cc
few_at as_ Layer-F.Vspec h = cc

-- no call has more than 8
few_by : (as_ : List Argument) (l : Option Layer) → called_breaks_by as_ l ≡ None → are_few (length as_) ≡ true
few_by as_ None h = cc
few_by as_ (Some l) h = few_at as_ (out-Layer l) h

taken_at : (a : Around) (f : ℕ) (as_ : List Argument) (l : Opened) → is_unlisted_at l ≡ false →
    ((count : ℕ) → listed_at l ≡ Some count → slice_get a.functions (f - 1) ≡ Some count)
    → called_breaks_at as_ l ≡ None → takes (length as_) (slice_get a.functions (f - 1)) ≡ true
taken_at a f as_ (Layer-F.Function ts) u at h =
    ap (takes (length as_)) (at (length ts) refl) ∙ (none_then (length as_ == length ts) fault.ArgumentCount _ h).0
taken_at a f as_ Layer-F.Unlisted u at h = cc
taken_at a f as_ Layer-F.Pointer u at h = cc
taken_at a f as_ (Layer-F.Array n) u at h = cc
taken_at a f as_ Layer-F.Cspec u at h = cc
taken_at a f as_ Layer-F.Vspec u at h = cc

-- a declared list has as many
taken_by : (a : Around) (f : ℕ) (as_ : List Argument) (l : Option Layer) → is_unlisted l ≡ false →
    ((count : ℕ) → listed_by l ≡ Some count → slice_get a.functions (f - 1) ≡ Some count)
    → called_breaks_by as_ l ≡ None → takes (length as_) (slice_get a.functions (f - 1)) ≡ true
taken_by a f as_ None u at h = cc
taken_by a f as_ (Some l) u at h = taken_at a f as_ (out-Layer l) u at h

-- the function of this number takes the arguments that its type takes
is_taken : (a : Around) (f : ℕ) (t : CType) (list : Arguments) → HasType a.functions f t →
    length list.codes ≡ length list.types → called_breaks t list.types ≡ None
    → is_called f (length list.codes) a ≡ true
is_taken a f t list h many k =
    ap (λ (n : ℕ). is_called f n a) many
    ∙ and_true (nat_le 1 f && takes (length list.types) (slice_get a.functions (f - 1))) (are_few (length list.types))
    (and_true (nat_le 1 f) (takes (length list.types) (slice_get a.functions (f - 1))) h.first
    (taken_by a f list.types (outermost (layers_of t)) h.list h.at k))
    (few_by list.types (outermost (layers_of t)) k)

-- ---- calls

static_stands : (a : Around) (line f : ℕ) (t : CType) (list : Arguments) → HasType a.functions f t →
    length list.codes ≡ length list.types → EachStands a list.codes
    → Unless (IsRight a) (called line (callee.Static f) t list)
unfolding called
static_stands a line f t list h many k =
    unless_none (IsRight a) line _ _
    (λ n. call_stands a (answer_of (inner t)) f list.codes (is_taken a f t list h many n) k)

number_stands : (a : Around) (line : ℕ) (e : Expr) (t : CType) (list : Arguments) → Stands a e →
    length list.codes ≡ length list.types → EachStands a list.codes
    → Unless (IsRight a) (called line (callee.Number e) t list)
unfolding called
number_stands a line e t list h many k =
    unless_none (IsRight a) line _ _ (λ n.
    narrowed_stands a (inner t) _
    (call_number_stands a (answer_of (inner t)) e list.codes h
    (ap are_few many ∙ few_by list.types (outermost (layers_of t)) n) k))

through_stands : (a : Around) (line : ℕ) (v : Value) (list : Arguments) → Stands a v.code →
    length list.codes ≡ length list.types → EachStands a list.codes → Unless (IsRight a) (through line v list)
through_stands a line v list h many k =
    unless_if (IsRight a) (is_pointer v.ctype) _ _ (number_stands a line v.code (inner v.ctype) list h many k) tt

placed_call_stands : (a : Around) (line : ℕ) (p : Place) (o : Operand) (list : Arguments) → RightPlace a p o.ctype →
    IsRight a o → length list.codes ≡ length list.types → EachStands a list.codes →
    Unless (IsRight a) (call_by line o list (static_number p))
placed_call_stands a line (place.Value e) o list h g many k =
    through_stands a line (value_of o) list (value_stands a o g) many k
placed_call_stands a line (place.Register i) o list h g many k =
    through_stands a line (value_of o) list (value_stands a o g) many k
placed_call_stands a line (place.Generated i) o list h g many k =
    through_stands a line (value_of o) list (value_stands a o g) many k
placed_call_stands a line (place.Memory e) o list h g many k =
    through_stands a line (value_of o) list (value_stands a o g) many k
placed_call_stands a line (place.Function f) o list h g many k = static_stands a line f o.ctype list h many k

calling_stands : (a : Around) (line : ℕ) (o : Operand) (list : Arguments) → IsRight a o →
    length list.codes ≡ length list.types → EachStands a list.codes → Unless (IsRight a) (call line o list)
unfolding call
calling_stands a line o list h many k = placed_call_stands a line o.place o list h h many k

library_node_stands : (a : Around) (f : Option Library) (es : List Expr) → EachStands a es →
    Stands a (library_node f (slice_get es 0))
library_node_stands a None es h = getchar_stands a
library_node_stands a (Some f) [] h = getchar_stands a
library_node_stands a (Some f) (e ∷ es) h = library_stands a f e h.0

library_call_stands : (a : Around) (line n : ℕ) (t : CType) (list : Arguments) → EachStands a list.codes →
    Unless (IsRight a) (library line n t list)
unfolding library
library_call_stands a line n t list h =
    unless_by (IsRight a) line _ _ (library_node_stands a (library_kind n) list.codes h)

returned_stands : (a : Around) (line : ℕ) (t : CType) (v : Value) → Stands a v.code →
    Unless (Stands a) (returned line t v)
unfolding returned
returned_stands a line t v h = unless_by (Stands a) line _ _ (converted_stands a v t h)

tick_returned_stands : (a : Around) (line : ℕ) (v : Value) → Stands a v.code → Unless (Stands a) (tick_returned line v)
unfolding tick_returned
tick_returned_stands a line v h = unless_if (Stands a) (is_void v.ctype) _ _ tt h

pub calls_stand : CallsStand
calls_stand = record {
  argument = argument_stands;
  call = calling_stands;
  library = library_call_stands;
  returned = returned_stands;
  tick_returned = tick_returned_stands;
}
