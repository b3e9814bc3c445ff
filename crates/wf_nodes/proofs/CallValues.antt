-- The rules on calls and returns.
use Rattle.std.proofs.Common.{◌≡◌, ℕ, Bool, true, false, not, ◌==◌, refl, List, [], ◌∷◌, ◌++◌, length, Option, Some}
use Rattle.std.proofs.Common.{None, arith}
use Rattle.std.proofs.lemmas.Bool.{eqb-true}
use Rattle.std.specs.Prelude.{slice_get}
use Rattle.c_types.specs.declared.ctype.CType.{CType}
use Rattle.c_types.specs.declared.ctype.Integer.{Integer}
use Rattle.c_types.specs.declared.ctype.Layer.{Layer, out-Layer}
use Rattle.c_types.specs.declared.ctype.Layer.TheOpen.{Layer-F}
use Rattle.c_types.specs.Types.{Opened, outermost, layers_of}
use Rattle.check_types.specs.Shapes.{inner, is_void, is_pointer, integer_of, narrowing}
use Rattle.tick_tree.specs.declared.fault.FaultKind.TheVariants as fault
use Rattle.typed_tree.specs.declared.expression.Expr.{Expr}
use Rattle.typed_tree.specs.declared.expression.Library.{Library}
use Rattle.check_operands.specs.declared.operand.Operand.{Operand}
use Rattle.check_operands.specs.declared.operand.Place.{Place}
use Rattle.check_operands.specs.declared.operand.Place.TheVariants as place
use Rattle.check_operands.specs.declared.operand.Value.{Value}
use Rattle.check_operands.specs.Operands.{value_of}
use Rattle.check_operands.specs.declared.arguments.Argument.{Argument}
use Rattle.check_operands.specs.declared.arguments.Arguments.{Arguments}
use Rattle.check_operands.specs.declared.arguments.Callee.{Callee}
use Rattle.check_operands.specs.declared.arguments.Callee.TheVariants as callee
use Rattle.check_operands.specs.Places.{narrowing_of, narrowed}
use Rattle.check_operands.specs.Calls.{with_argument, any_mismatches, any_void, called_breaks_at, called_breaks_by}
use Rattle.check_operands.specs.Calls.{called_breaks, call_node, called, through, static_number, call_by, call}
use Rattle.check_operands.specs.Calls.{library_kind, library_node, library, returned, tick_returned}
use Rattle.wellformed.proofs.Bools.{first_false, second_false}
use Rattle.wf_nodes.specs.Used.{Leaves, EachLeaves, UsedAs, IsUsedValue, IsUsed, EachUsedAs, AreUsed, library_answers}
use Rattle.wf_nodes.specs.Used.{takes_one_at, takes_one_by, IsLibrary, Unless}
use Rattle.wf_nodes.specs.Values.{CallsUse}
use Rattle.wf_nodes.proofs.Broken.{unless_by, unless_if, no_fault, no_other, is_so, no_first}
use Rattle.wf_nodes.proofs.NodeValues.{as_used, left_of, getchar_left, call_used, call_number_used, library_used}
use Rattle.wf_nodes.proofs.OperandValues.{value_used, converted_by_left, converted_left}
use Rattle.wf_nodes.proofs.Types.{integer_not_void, pointer_not_void}

-- ---- arguments

one_more : (as_ : List Argument) (es : List Expr) (a : Argument) (e : Expr) → EachUsedAs as_ es → UsedAs a.ctype e →
    EachUsedAs (as_ ++ a ∷ []) (es ++ e ∷ [])
one_more [] [] a e h k = (k, tt)
one_more [] (x ∷ es) a e h k = absurd h
one_more (b ∷ as_) [] a e h k = absurd h
one_more (b ∷ as_) (x ∷ es) a e h k = (h.0, one_more as_ es a e h.1 k)

argument_used : (list : Arguments) (v : Value) → AreUsed list → IsUsedValue v → AreUsed (with_argument list v)
argument_used list v h k = one_more list.types list.codes (record { ctype = v.ctype; zero = v.zero }) v.code h k

-- where none is void, each leaves its value
each_value : (as_ : List Argument) (es : List Expr) → any_void as_ ≡ false → EachUsedAs as_ es → EachLeaves es
each_value [] [] n h = tt
each_value [] (e ∷ es) n h = absurd h
each_value (a ∷ as_) [] n h = absurd h
each_value (a ∷ as_) (e ∷ es) n h = (
  left_of a.ctype e h.0 (first_false (is_void a.ctype) (any_void as_) n),
  each_value as_ es (second_false (is_void a.ctype) (any_void as_) n) h.1,
)

-- ---- what a call takes

none_void_at : (as_ : List Argument) (l : Opened) → called_breaks_at as_ l ≡ None → any_void as_ ≡ false
none_void_at as_ (Layer-F.Function ts) h =
    no_fault (any_void as_) fault.VoidValue _
    (no_other (any_mismatches as_ ts) fault.TypeMismatch _ (no_first (length as_ == length ts) fault.ArgumentCount _ h))
none_void_at as_ Layer-F.Unlisted h = no_fault (any_void as_) fault.VoidValue _ h
none_void_at as_ Layer-F.Pointer h = cc
none_void_at as_ (Layer-F.Array n) h = cc
none_void_at as_ Layer-F.Cspec h = cc
none_void_at as_ Layer-F.Vspec h = cc

none_void_by : (as_ : List Argument) (l : Option Layer) → called_breaks_by as_ l ≡ None → any_void as_ ≡ false
none_void_by as_ None h = cc
none_void_by as_ (Some l) h = none_void_at as_ (out-Layer l) h

arguments_left : (t : CType) (list : Arguments) → AreUsed list → called_breaks t list.types ≡ None →
    EachLeaves list.codes
arguments_left t list h k = each_value list.types list.codes (none_void_by list.types (outermost (layers_of t)) k) h

-- ---- calls

narrowing_used : (t : CType) (k : Option Integer) (e : Expr) → integer_of t ≡ k → UsedAs t e →
    UsedAs t (narrowing_of k e)
narrowing_used t None e q h = h
narrowing_used t (Some k) e q h =
    let n : is_void t ≡ false = integer_not_void t k q in
    as_used t _ (converted_by_left (narrowing k) e (left_of t e h n)) n

narrowed_used : (t : CType) (e : Expr) → UsedAs t e → UsedAs t (narrowed t e)
narrowed_used t e h = narrowing_used t (integer_of t) e refl h

abbrev UsedCallee : Callee → Type 0
UsedCallee (callee.Static f) = Unit {0}
UsedCallee (callee.Number e) = Leaves e

node_used : (f : Callee) (t : CType) (es : List Expr) → UsedCallee f → EachLeaves es → UsedAs t (call_node f t es)
node_used (callee.Static f) t es h k = call_used t f es k
node_used (callee.Number e) t es h k = narrowed_used t _ (call_number_used t e es h k)

called_used : (line : ℕ) (f : Callee) (t : CType) (list : Arguments) → UsedCallee f → AreUsed list →
    Unless IsUsed (called line f t list)
unfolding called
called_used line f t list h u =
    unless_by IsUsed line _ _ (λ k. node_used f (inner t) list.codes h (arguments_left t list u k))

through_used : (line : ℕ) (v : Value) (list : Arguments) → IsUsedValue v → AreUsed list →
    Unless IsUsed (through line v list)
through_used line v list h u =
    unless_if IsUsed (is_pointer v.ctype) _ _
    (λ p. called_used line (callee.Number v.code) (inner v.ctype) list
    (left_of v.ctype v.code h (pointer_not_void v.ctype p)) u) (λ p. tt)

placed_call_used : (line : ℕ) (p : Place) (o : Operand) (list : Arguments) → IsUsed o → AreUsed list →
    Unless IsUsed (call_by line o list (static_number p))
placed_call_used line (place.Value e) o list h u = through_used line (value_of o) list (value_used o h) u
placed_call_used line (place.Register i) o list h u = through_used line (value_of o) list (value_used o h) u
placed_call_used line (place.Generated i) o list h u = through_used line (value_of o) list (value_used o h) u
placed_call_used line (place.Memory e) o list h u = through_used line (value_of o) list (value_used o h) u
placed_call_used line (place.Function f) o list h u = called_used line (callee.Static f) o.ctype list tt u

calling_used : (line : ℕ) (o : Operand) (list : Arguments) → IsUsed o → AreUsed list → Unless IsUsed (call line o list)
unfolding call
calling_used line o list h u = placed_call_used line o.place o list h u

-- ---- the library

-- what takes an argument is not called with none
taken_at : (l : Opened) → takes_one_at l ≡ true → called_breaks_at [] l ≡ None → ⊥
taken_at (Layer-F.Function []) h k = cc
taken_at (Layer-F.Function (t ∷ ts)) h k = let e : 0 ≡ length (t ∷ ts) =
    eqb-true 0 (length (t ∷ ts)) (is_so (0 == length (t ∷ ts)) fault.ArgumentCount _ k) in omega arith
taken_at Layer-F.Unlisted h k = cc
taken_at Layer-F.Pointer h k = cc
taken_at (Layer-F.Array n) h k = cc
taken_at Layer-F.Cspec h k = cc
taken_at Layer-F.Vspec h k = cc

taken_by : (l : Option Layer) → takes_one_by l ≡ true → called_breaks_by [] l ≡ None → ⊥
taken_by None h k = cc
taken_by (Some l) h k = taken_at (out-Layer l) h k

-- with no argument it is one that answers
without : (b : Bool) (t : CType) (n : ℕ) → is_void (inner t) ≡ b → IsLibrary n t → called_breaks t [] ≡ None → b ≡ false
without true t n e h k = absurd (taken_by (outermost (layers_of t)) (h.takes e) k)
without false t n e h k = refl

answers_value : (b : Bool) → true ≡ not b → b ≡ false
answers_value true h = cc
answers_value false h = refl

library_node_used : (n : ℕ) (t : CType) (f : Option Library) (as_ : List Argument) (es : List Expr) → IsLibrary n t →
    library_answers f ≡ not (is_void (inner t)) → EachUsedAs as_ es → called_breaks t as_ ≡ None → EachLeaves es →
    UsedAs (inner t) (library_node f (slice_get es 0))
library_node_used n t None as_ es l a u k h = as_used (inner t) _ getchar_left (answers_value (is_void (inner t)) a)
library_node_used n t (Some f) [] [] l a u k h =
    as_used (inner t) _ getchar_left (without (is_void (inner t)) t n refl l k)
library_node_used n t (Some f) (x ∷ as_) [] l a u k h = absurd u
library_node_used n t (Some f) as_ (e ∷ es) l a u k h = library_used (inner t) f e a h.0

library_call_used : (line n : ℕ) (t : CType) (list : Arguments) → IsLibrary n t → AreUsed list →
    Unless IsUsed (library line n t list)
unfolding library
library_call_used line n t list l u =
    unless_by IsUsed line _ _
    (λ k. library_node_used n t (library_kind n) list.types list.codes l l.answer u k (arguments_left t list u k))

-- ---- returns

returned_left : (line : ℕ) (t : CType) (v : Value) → IsUsedValue v → Unless Leaves (returned line t v)
unfolding returned
returned_left line t v h =
    unless_by Leaves line _ _
    (λ k. converted_left v t (left_of v.ctype v.code h (no_fault (is_void v.ctype) fault.VoidValue _ k)))

tick_returned_left : (line : ℕ) (v : Value) → IsUsedValue v → Unless Leaves (tick_returned line v)
unfolding tick_returned
tick_returned_left line v h = unless_if Leaves (is_void v.ctype) _ _ (λ e. tt) (λ e. left_of v.ctype v.code h e)

pub calls_use : CallsUse
calls_use = record {
  none = tt;
  argument = argument_used;
  call = calling_used;
  library = library_call_used;
  returned = returned_left;
  tick_returned = tick_returned_left;
}
