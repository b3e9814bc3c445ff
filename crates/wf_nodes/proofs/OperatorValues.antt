-- The rules on operators of two operands, indexes and choices.
use Rattle.std.proofs.Common.{◌≡◌, ℕ, Bool, true, false, ◌==◌, ◌&&◌, ◌||◌, if◌then◌else◌, refl, sym, ◌∙◌, subst, Option}
use Rattle.std.proofs.Common.{Some, None}
use Rattle.icode_ops.specs.declared.kind.BinKind.TheVariants as bin
use Rattle.c_types.specs.declared.ctype.CType.{CType}
use Rattle.c_types.specs.declared.ctype.Integer.{Integer}
use Rattle.c_types.specs.declared.ctype.Integer.TheVariants as kind
use Rattle.c_types.specs.Types.{common, converts}
use Rattle.c_type_refs.specs.Sizes.{pointed_size}
use Rattle.check_types.specs.Shapes.{is_void, is_integer, integer_of}
use Rattle.tick_tree.specs.declared.base.BinaryOp.{BinaryOp}
use Rattle.tick_tree.specs.declared.base.BinaryOp.TheVariants as op
use Rattle.tick_tree.specs.declared.fault.FaultKind.TheVariants as fault
use Rattle.typed_tree.specs.declared.expression.Expr.{Expr}
use Rattle.typed_tree.specs.declared.expression.Expr.TheVariants as ex
use Rattle.check_operands.specs.declared.operand.Value.{Value}
use Rattle.check_operands.specs.declared.combined.Combined.{Combined}
use Rattle.check_operands.specs.declared.combined.Combined.TheVariants as by_form
use Rattle.check_operands.specs.declared.combined.Joined.{Joined}
use Rattle.check_operands.specs.declared.combined.Joined.TheVariants as joined
use Rattle.check_operands.specs.Operands.{comma}
use Rattle.check_operands.specs.Operators.{scaled, built, type_of, binary_by, combine, arithmetic, logic_breaks, both}
use Rattle.check_operands.specs.Operators.{either, binary, index_by, index, joined_by, type_joined, choice_by}
use Rattle.check_operands.specs.Operators.{joined_type, choice}
use Rattle.wellformed.proofs.Bools.{first_false, second_false}
use Rattle.wf_nodes.specs.Used.{Leaves, IsUsedValue, IsUsed, Unless}
use Rattle.wf_nodes.specs.Values.{OperatorsUse}
use Rattle.wf_nodes.proofs.Broken.{unless_by, unless_if, no_fault, value_left}
use Rattle.wf_nodes.proofs.NodeValues.{as_used, left_of, const_left, bin_left, both_left, either_left, choice_used}
use Rattle.wf_nodes.proofs.NodeValues.{comma_used}
use Rattle.wf_nodes.proofs.Types.{integer_type, void_type, pointed_type}

-- ---- on two words

scaled_by : (b : Bool) (e : Expr) (n : ℕ) → Leaves e → Leaves (if b then e else ex.Bin bin.Multiply e (ex.Const n))
scaled_by true e n h = h
scaled_by false e n h = bin_left bin.Multiply e (ex.Const n) h (const_left n)

pub scaled_left : (e : Expr) (n : ℕ) → Leaves e → Leaves (scaled e n)
scaled_left e n h = scaled_by (n == 1) e n h

quotient_by : (b : Bool) (e : Expr) (n : ℕ) → Leaves e →
    Leaves (if b then e else ex.Bin bin.DivideSigned e (ex.Const n))
quotient_by true e n h = h
quotient_by false e n h = bin_left bin.DivideSigned e (ex.Const n) h (const_left n)

pub built_left : (c : Combined) (x y : Expr) → Leaves x → Leaves y → Leaves (built c x y)
built_left (by_form.Words k t) x y h i = bin_left k x y h i
built_left (by_form.ScaledRight k n) x y h i = bin_left k x (scaled y n) h (scaled_left y n i)
built_left (by_form.ScaledLeft n) x y h i = bin_left bin.Add (scaled x n) y (scaled_left x n h) i
built_left (by_form.Divided n) x y h i =
    quotient_by (n == 1) (ex.Bin bin.Subtract x y) n (bin_left bin.Subtract x y h i)

type_not_void : (c : Combined) (s t : CType) → is_void s ≡ false → is_void t ≡ false → is_void (type_of c s t) ≡ false
type_not_void (by_form.Words k i) s t h n = integer_type i
type_not_void (by_form.ScaledRight k size) s t h n = h
type_not_void (by_form.ScaledLeft size) s t h n = n
type_not_void (by_form.Divided size) s t h n = integer_type kind.Int

-- two values that aren't void
record AreLeft (v w : Value) : Type 0 where
  first : is_void v.ctype ≡ false
  second : is_void w.ctype ≡ false
  left : Leaves v.code
  right : Leaves w.code

both_here : (v w : Value) → IsUsedValue v → IsUsedValue w → (is_void v.ctype || is_void w.ctype) ≡ false → AreLeft v w
both_here v w h k e =
    let m : is_void v.ctype ≡ false = first_false (is_void v.ctype) (is_void w.ctype) e in
    let n : is_void w.ctype ≡ false = second_false (is_void v.ctype) (is_void w.ctype) e in
    record { first = m; second = n; left = left_of v.ctype v.code h m; right = left_of w.ctype w.code k n }

binary_by_used : (line : ℕ) (v w : Value) (c : Option Combined) → AreLeft v w → Unless IsUsed (binary_by line v w c)
binary_by_used line v w None h = tt
binary_by_used line v w (Some c) h =
    as_used _ _ (built_left c v.code w.code h.left h.right) (type_not_void c v.ctype w.ctype h.first h.second)

arithmetic_used : (line : ℕ) (o : BinaryOp) (v w : Value) → IsUsedValue v → IsUsedValue w →
    Unless IsUsed (arithmetic line o v w)
unfolding arithmetic
arithmetic_used line o v w h k =
    unless_if IsUsed (is_void v.ctype || is_void w.ctype) _ _ (λ e. tt)
    (λ e. binary_by_used line v w (combine o v.ctype v.zero w.ctype w.zero) (both_here v w h k e))

logic_here : (v w : Value) → IsUsedValue v → IsUsedValue w → logic_breaks v w ≡ None → AreLeft v w
logic_here v w h k e = both_here v w h k (no_fault (is_void v.ctype || is_void w.ctype) fault.VoidValue _ e)

conjunction_used : (line : ℕ) (v w : Value) → IsUsedValue v → IsUsedValue w → Unless IsUsed (both line v w)
unfolding both
conjunction_used line v w h k =
    unless_by IsUsed line _ _
    (λ e. let l = logic_here v w h k e in as_used _ _ (both_left v.code w.code l.left l.right) (integer_type kind.Int))

disjunction_used : (line : ℕ) (v w : Value) → IsUsedValue v → IsUsedValue w → Unless IsUsed (either line v w)
unfolding either
disjunction_used line v w h k =
    unless_by IsUsed line _ _
    (λ e. let l = logic_here v w h k e in
    as_used _ _ (either_left v.code w.code l.left l.right) (integer_type kind.Int))

binary_used : (line : ℕ) (o : BinaryOp) (v w : Value) → IsUsedValue v → IsUsedValue w →
    Unless IsUsed (binary line o v w)
binary_used line op.And v w h k = conjunction_used line v w h k
binary_used line op.Or v w h k = disjunction_used line v w h k
binary_used line o v w h k = arithmetic_used line o v w h k

-- ---- indexes

element_used : (line : ℕ) (v w : Value) (n : Option ℕ) → pointed_size v.ctype ≡ n → AreLeft v w →
    Unless IsUsed (index_by line v w n)
element_used line v w None e h = tt
element_used line v w (Some n) e h =
    record {
      address = bin_left bin.Add v.code (scaled w.code n) h.left (scaled_left w.code n h.right);
      type =
          pointed_type v.ctype n e;
    }

index_used : (line : ℕ) (v w : Value) → IsUsedValue v → IsUsedValue w → Unless IsUsed (index line v w)
unfolding index
index_used line v w h k =
    unless_if IsUsed (is_void v.ctype || is_void w.ctype) _ _ (λ e. tt)
    (λ e. unless_if IsUsed (is_integer w.ctype) _ _
    (λ i. element_used line v w (pointed_size v.ctype) refl (both_here v w h k e)) (λ i. tt))

-- ---- one of two

-- the type of a choice is void where both its values are, and only there
record Joins (s t : CType) (j : Joined) : Type 0 where
  first : is_void s ≡ is_void (type_joined j s t)
  second : is_void t ≡ is_void (type_joined j s t)

joins_value : (s t : CType) (j : Joined) → is_void s ≡ false → is_void t ≡ false → is_void (type_joined j s t) ≡ false →
    Joins s t j
joins_value s t j m n h = record { first = m ∙ sym h; second = n ∙ sym h }

same_joined : (s t : CType) (i j : Joined) → Joins s t i → Some i ≡ Some j → Joins s t j
same_joined s t i j h e = let p : i ≡ j = cc in subst (λ (x : Joined). Joins s t x) p h

values_join : (s t : CType) (p q : Bool) (j : Joined) → is_void s ≡ false → is_void t ≡ false →
    (if p then Some joined.First else (if q then Some joined.Second else None)) ≡ Some j → Joins s t j
values_join s t true q j m n e = same_joined s t joined.First j (joins_value s t joined.First m n m) e
values_join s t false true j m n e = same_joined s t joined.Second j (joins_value s t joined.Second m n n) e
values_join s t false false j m n e = cc

types_join : (v w : Value) (x y : Option Integer) (j : Joined) → is_void v.ctype ≡ false → is_void w.ctype ≡ false →
    joined_by v w x y ≡ Some j → Joins v.ctype w.ctype j
types_join v w (Some x) (Some y) j m n e =
    same_joined v.ctype w.ctype (joined.Common (common x y)) j
    (joins_value v.ctype w.ctype (joined.Common (common x y)) m n (integer_type (common x y))) e
types_join v w (Some x) None j m n e =
    values_join v.ctype w.ctype (converts w.ctype v.ctype w.zero) (converts v.ctype w.ctype v.zero) j m n e
types_join v w None y j m n e =
    values_join v.ctype w.ctype (converts w.ctype v.ctype w.zero) (converts v.ctype w.ctype v.zero) j m n e

joins_by : (v w : Value) (p q : Bool) (j : Joined) → is_void v.ctype ≡ p → is_void w.ctype ≡ q →
    (if p && q then Some joined.Void else
    (if p || q then None else joined_by v w (integer_of v.ctype) (integer_of w.ctype))) ≡ Some j →
    Joins v.ctype w.ctype j
joins_by v w true true j m n e =
    same_joined v.ctype w.ctype joined.Void j (record { first = m ∙ sym void_type; second = n ∙ sym void_type }) e
joins_by v w true false j m n e = cc
joins_by v w false true j m n e = cc
joins_by v w false false j m n e = types_join v w (integer_of v.ctype) (integer_of w.ctype) j m n e

joins : (v w : Value) (j : Joined) → joined_type v w ≡ Some j → Joins v.ctype w.ctype j
unfolding joined_type
joins v w j e = joins_by v w (is_void v.ctype) (is_void w.ctype) j refl refl e

choice_by_used : (line : ℕ) (c v w : Value) (j : Option Joined) → joined_type v w ≡ j → IsUsedValue c → IsUsedValue v →
    IsUsedValue w → Unless IsUsed (choice_by line c v w j)
choice_by_used line c v w None e h k l = tt
choice_by_used line c v w (Some j) e h k l =
    let t = joins v w j e in
    unless_by IsUsed line _ _
    (λ b. choice_used (type_joined j v.ctype w.ctype) v.ctype w.ctype c.code v.code w.code t.first t.second
    (value_left c _ h b) k l)

one_of_two_used : (line : ℕ) (c v w : Value) → IsUsedValue c → IsUsedValue v → IsUsedValue w →
    Unless IsUsed (choice line c v w)
unfolding choice
one_of_two_used line c v w h k l = choice_by_used line c v w (joined_type v w) refl h k l

both_values_used : (v w : Value) → IsUsedValue v → IsUsedValue w → IsUsed (comma v w)
unfolding comma
both_values_used v w h k = comma_used w.ctype v.code w.code h.right k

pub operators_use : OperatorsUse
operators_use = record {
  comma = both_values_used;
  binary = binary_used;
  index = index_used;
  choice = one_of_two_used;
}
