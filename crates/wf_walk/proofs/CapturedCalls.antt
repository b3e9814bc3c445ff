-- The rules on calls: a call names what its arguments name, each behind the one before. A library function has as many
-- arguments as its node.
use Rattle.std.proofs.Common.{◌≡◌, ℕ, ◌==◌, Bool, true, false, if◌then◌else◌, refl, ap, sym, ◌∙◌}
use Rattle.std.proofs.Common.{List, [], ◌∷◌, ◌++◌, length, map, Option, Some, None, Ok, Err, arith}
use Rattle.std.specs.Prelude.{slice_get}
use Rattle.std.proofs.lemmas.Bool.{eqb-true}
use Rattle.c_types.specs.declared.ctype.CType.{CType}
use Rattle.c_types.specs.declared.ctype.Layer.{Layer, out-Layer}
use Rattle.c_types.specs.declared.ctype.Layer.TheOpen.{Layer-F}
use Rattle.c_types.specs.Types.{Opened, outermost, layers_of}
use Rattle.check_types.specs.Shapes.{inner, is_void, is_pointer}
use Rattle.tick_tree.specs.declared.fault.FaultKind.{FaultKind}
use Rattle.tick_tree.specs.declared.fault.FaultKind.TheVariants as fault
use Rattle.tick_tree.specs.Faults.{Checked}
use Rattle.typed_tree.specs.declared.expression.Expr.{Expr}
use Rattle.typed_tree.specs.declared.expression.Expr.TheVariants as ex
use Rattle.typed_tree.specs.declared.expression.Library.{Library}
use Rattle.check_operands.specs.declared.operand.Operand.{Operand}
use Rattle.check_operands.specs.declared.operand.Place.{Place}
use Rattle.check_operands.specs.declared.operand.Place.TheVariants as place
use Rattle.check_operands.specs.declared.operand.Value.{Value}
use Rattle.check_operands.specs.Operands.{value_of}
use Rattle.check_operands.specs.declared.arguments.Argument.{Argument}
use Rattle.check_operands.specs.declared.arguments.Arguments.{Arguments}
use Rattle.check_operands.specs.declared.arguments.Callee.TheVariants as callee
use Rattle.check_operands.specs.Calls.{with_argument, any_mismatches, arguments_break, called_breaks_at}
use Rattle.check_operands.specs.Calls.{called_breaks_by, answer_of, called, through, static_number}
use Rattle.check_operands.specs.Calls.{call_by, call, library_kind, library_node, library, tick_returned}
use Rattle.wellformed.specs.Captured.{Naming, both, all, named}
use Rattle.wellformed.proofs.Named.{named_call, named_callnumber, named_getchar, named_lib}
use Rattle.wf_nodes.specs.Right.{Unless}
use Rattle.wf_nodes.proofs.NodeScopes.{unless_by, unless_none, unless_if}
use Rattle.wf_nodes.specs.Used.{listed_at, listed_by, library_count, IsLibrary}
use Rattle.wf_walk.specs.Named.{place_named}
use Rattle.wf_walk.proofs.CapturedRules.{Same, at, Gives, Holds, value_names, narrowed_names}

abbrev pub codes_named : List Expr → Naming
codes_named es = all (map named es)

-- ---- arguments

pub one_more : (es : List Expr) (e : Expr) → Same (codes_named (es ++ e ∷ [])) (both (codes_named es) (named e))
one_more [] e n = refl
one_more (x ∷ es) e n = one_more es e (named x n)

pub argument_names : (list : Arguments) (v : Value) →
    Same (codes_named (with_argument list v).codes) (both (codes_named list.codes) (named v.code))
argument_names list v = one_more list.codes v.code

-- ---- calls

-- what is called, and the arguments behind it
abbrev pub calling : Operand → Arguments → Naming
calling o list = both (place_named o.place) (codes_named list.codes)

static_names : (line f : ℕ) (t : CType) (list : Arguments) →
    Unless (Gives (codes_named list.codes)) (called line (callee.Static f) t list)
unfolding called
static_names line f t list =
    unless_by (Gives (codes_named list.codes)) line _ _ (λ n. at n (named_call (answer_of (inner t)) f list.codes))

number_call : (line : ℕ) (e : Expr) (t : CType) (list : Arguments) →
    Unless (Gives (both (named e) (codes_named list.codes))) (called line (callee.Number e) t list)
unfolding called
number_call line e t list =
    unless_by (Gives (both (named e) (codes_named list.codes))) line _ _ (λ n.
    narrowed_names (inner t) (ex.CallNumber (answer_of (inner t)) e list.codes) n
    ∙ at n (named_callnumber (answer_of (inner t)) e list.codes))

through_names : (line : ℕ) (v : Value) (list : Arguments) →
    Unless (Gives (both (named v.code) (codes_named list.codes))) (through line v list)
through_names line v list =
    unless_if (Gives (both (named v.code) (codes_named list.codes))) (is_pointer v.ctype) _ _
    (number_call line v.code (inner v.ctype) list) tt

by_value : (line : ℕ) (o : Operand) (list : Arguments) →
    Unless (Gives (calling o list)) (through line (value_of o) list)
by_value line o list = along (through line (value_of o) list) (through_names line (value_of o) list)
  where
    along : (c : Checked Operand) → Unless (Gives (both (named (value_of o).code) (codes_named list.codes))) c →
        Unless (Gives (calling o list)) c
    along (Ok r) h = λ n. h n ∙ ap (codes_named list.codes) (value_names o n)
    along (Err f) h = tt

placed_names : (line : ℕ) (p : Place) (o : Operand) (list : Arguments) → o.place ≡ p →
    Unless (Gives (calling o list)) (call_by line o list (static_number p))
placed_names line (place.Value e) o list is = by_value line o list
placed_names line (place.Register i) o list is = by_value line o list
placed_names line (place.Generated i) o list is = by_value line o list
placed_names line (place.Memory e) o list is = by_value line o list
placed_names line (place.Function f) o list is =
    along (called line (callee.Static f) o.ctype list) (static_names line f o.ctype list)
  where
    along : (c : Checked Operand) → Unless (Gives (codes_named list.codes)) c → Unless (Gives (calling o list)) c
    along (Ok r) h = λ n. h n ∙ ap (λ (p : Place). codes_named list.codes (place_named p n)) (sym is)
    along (Err f) h = tt

pub call_names : (line : ℕ) (o : Operand) (list : Arguments) → Unless (Gives (calling o list)) (call line o list)
unfolding call
call_names line o list = placed_names line o.place o list refl

-- ---- the library

-- a call has as many arguments as the list of its type
many_by : (b : Bool) (k : Option FaultKind) → (if b then k else Some fault.ArgumentCount) ≡ None → b ≡ true
many_by true k h = refl
many_by false k h = absurd (cc)

many_at : (as_ : List Argument) (l : Opened) (n : ℕ) → listed_at l ≡ Some n → called_breaks_at as_ l ≡ None →
    length as_ ≡ n
many_at as_ (Layer-F.Function ts) n h k =
    let same : length ts ≡ n = cc in
    eqb-true (length as_) (length ts)
    (many_by (length as_ == length ts) (if any_mismatches as_ ts then Some fault.TypeMismatch else arguments_break as_)
    k)
    ∙ same
many_at as_ Layer-F.Unlisted n h k = absurd (cc)
many_at as_ Layer-F.Pointer n h k = absurd (cc)
many_at as_ (Layer-F.Array m) n h k = absurd (cc)
many_at as_ Layer-F.Cspec n h k = absurd (cc)
many_at as_ Layer-F.Vspec n h k = absurd (cc)

many : (as_ : List Argument) (l : Option Layer) (n : ℕ) → listed_by l ≡ Some n → called_breaks_by as_ l ≡ None →
    length as_ ≡ n
many as_ None n h k = absurd (cc)
many as_ (Some l) n h k = many_at as_ (out-Layer l) n h k

node_names : (f : Option Library) (es : List Expr) → length es ≡ library_count f →
    Holds (codes_named es) (library_node f (slice_get es 0))
node_names None [] h n = at n named_getchar
node_names None (e ∷ es) h n = absurd (omega (arith, h))
node_names (Some f) [] h n = absurd (omega (arith, h))
node_names (Some f) (e ∷ []) h n = at n (named_lib f e)
node_names (Some f) (e ∷ x ∷ es) h n = absurd (omega (arith, h))

pub library_names : (line i : ℕ) (t : CType) (list : Arguments) → IsLibrary i t →
    length list.codes ≡ length list.types → Unless (Gives (codes_named list.codes)) (library line i t list)
unfolding library
library_names line i t list l m =
    unless_none (Gives (codes_named list.codes)) line _ _ (λ k.
    node_names (library_kind i) list.codes
    (m ∙ many list.types (outermost (layers_of t)) (library_count (library_kind i))
    l.count k))

-- ---- returns

pub returned_names : (line : ℕ) (v : Value) → Unless (Holds (named v.code)) (tick_returned line v)
unfolding tick_returned
returned_names line v = unless_if (Holds (named v.code)) (is_void v.ctype) _ _ tt (λ n. refl)
