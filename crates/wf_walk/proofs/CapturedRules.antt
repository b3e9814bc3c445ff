-- The rules of single nodes: what an operand names is what those that it is made of name, one behind the other.
use Rattle.std.proofs.Common.{◌≡◌, ℕ, ◌==◌, Bool, true, false, ◌||◌, if◌then◌else◌, nat_eq, refl, ap, ◌∙◌}
use Rattle.std.proofs.Common.{List, [], ◌∷◌, ◌++◌, length, Option, Some, None, Ok, Err, arith}
use Rattle.std.proofs.Common.{length-append}
use Rattle.std.proofs.lemmas.Bool.Decides.{nat_tests}
use Rattle.word32.specs.declared.width.Width.{Width}
use Rattle.icode_ops.specs.declared.kind.BinKind.{BinKind}
use Rattle.icode_ops.specs.declared.kind.BinKind.TheVariants as bin
use Rattle.icode_ops.specs.declared.kind.UnKind.{UnKind}
use Rattle.c_types.specs.declared.ctype.CType.{CType}
use Rattle.c_types.specs.declared.ctype.Integer.{Integer}
use Rattle.c_types.specs.declared.ctype.Integer.TheVariants as kind
use Rattle.c_type_refs.specs.Sizes.{limited_size, pointed_size}
use Rattle.check_types.specs.Shapes.{decays, width_of, conversion, is_void, is_integer, integer_of, narrowing}
use Rattle.tick_tree.specs.declared.base.BinaryOp.{BinaryOp}
use Rattle.tick_tree.specs.declared.base.BinaryOp.TheVariants as op
use Rattle.tick_tree.specs.declared.base.ModifyOp.{ModifyOp}
use Rattle.tick_tree.specs.declared.base.StepOp.{StepOp}
use Rattle.tick_tree.specs.declared.fault.FaultKind.{FaultKind}
use Rattle.tick_tree.specs.declared.fault.FaultKind.TheVariants as fault
use Rattle.tick_tree.specs.Faults.{Checked}
use Rattle.typed_tree.specs.declared.expression.CaptureKind.{CaptureKind}
use Rattle.typed_tree.specs.declared.expression.CaptureKind.TheVariants as capture
use Rattle.typed_tree.specs.declared.expression.Expr.{Expr}
use Rattle.typed_tree.specs.declared.expression.Expr.TheVariants as ex
use Rattle.check_operands.specs.declared.operand.Operand.{Operand}
use Rattle.check_operands.specs.declared.operand.Place.{Place}
use Rattle.check_operands.specs.declared.operand.Place.TheVariants as place
use Rattle.check_operands.specs.declared.operand.Value.{Value}
use Rattle.check_operands.specs.declared.combined.Combined.{Combined}
use Rattle.check_operands.specs.declared.combined.Combined.TheVariants as by_form
use Rattle.check_operands.specs.declared.combined.Joined.{Joined}
use Rattle.check_operands.specs.Operands.{code_of, value_of, as_operand, settled, converted, converted_by, number}
use Rattle.check_operands.specs.Operands.{character, string, size_by, size, condition, switched, plus, on_integer}
use Rattle.check_operands.specs.Operands.{dereferenced, negated, cast, comma}
use Rattle.check_operands.specs.Operators.{scaled, built, binary_by, combine, arithmetic}
use Rattle.check_operands.specs.Operators.{both as conjunction}
use Rattle.check_operands.specs.Operators.{either, binary, index_by, index, choice_by, joined_type, choice}
use Rattle.check_operands.specs.Places.{is_place, stored, place_breaks, mismatches, void_breaks, assign, operator_of}
use Rattle.check_operands.specs.Places.{narrowing_of, narrowed, comes_back, kind_in, right_in, changed, modified}
use Rattle.check_operands.specs.Places.{modify_by, modify, step_of, step_kind, stepped_by, stepped, amount, posted}
use Rattle.check_operands.specs.Places.{post_by, post, address_of, address}
use Rattle.wellformed.specs.Captured.{Naming, next, none, both, named}
use Rattle.wellformed.proofs.Named.{named_const, named_var, named_setvar, named_postvar, named_vget, named_vset}
use Rattle.wellformed.proofs.Named.{named_vpost, named_load, named_store, named_modify, named_post, named_bin, named_un}
use Rattle.wellformed.proofs.Named.{named_and, named_or, named_cond, named_comma, named_void}
use Rattle.wf_nodes.specs.Right.{Unless}
use Rattle.wf_nodes.proofs.NodeScopes.{unless_by, unless_none, unless_if}
use Rattle.wf_walk.specs.Named.{place_named}

-- ---- what is named the same

abbrev pub Same : Naming → Naming → Type 0
Same f g = (n : Option (List CaptureKind)) → f n ≡ g n

pub at : {f g : Naming} (n : Option (List CaptureKind)) → f ≡ g → f n ≡ g n
at n e = ap (λ (h : Naming). h n) e

-- an operand names this
abbrev pub Gives : Naming → Operand → Type 0
Gives f o = Same (place_named o.place) f

abbrev pub Holds : Naming → Expr → Type 0
Holds f e = Same (named e) f

pub unless_map : {A : Type 0} (P Q : A → Type 0) (c : Checked A) → ((x : A) → P x → Q x) → Unless P c → Unless Q c
unless_map P Q (Ok x) f h = f x h
unless_map P Q (Err e) f h = tt

pub behind : (f g h k : Naming) → Same f h → Same g k → Same (both f g) (both h k)
behind f g h k p q n = q (f n) ∙ ap k (p n)

-- a variable that is named twice is named once
next_twice : (i : ℕ) (n : Option (List CaptureKind)) →
    next capture.Variable i (next capture.Variable i n) ≡ next capture.Variable i n
next_twice i None = refl
next_twice i (Some ks) = by (nat_eq (length ks) i) refl
  where
    by : (b : Bool) → nat_eq (length ks) i ≡ b →
        next capture.Variable i (next capture.Variable i (Some ks)) ≡ next capture.Variable i (Some ks)
    by true e =
        let l = length-append ks (capture.Variable ∷ []) in
        let f : nat_eq (length (ks ++ capture.Variable ∷ [])) i ≡ false = grind (arith, nat_tests, e, l) in
        rw (e, f) refl
    by false e = rw e (rw e refl)

-- ---- nodes

un_names : (k : UnKind) (e : Expr) → Holds (named e) (ex.Un k e)
un_names k e n = at n (named_un k e)

bin_names : (k : BinKind) (x y : Expr) → Holds (both (named x) (named y)) (ex.Bin k x y)
bin_names k x y n = at n (named_bin k x y)

bin_const : (k : BinKind) (e : Expr) (m : ℕ) → Holds (named e) (ex.Bin k e (ex.Const m))
bin_const k e m n = bin_names k e (ex.Const m) n ∙ at (named e n) (named_const m)

memory_names : (b : Bool) (w : Width) (e : Expr) → Holds (named e) (if b then e else ex.Load w e)
memory_names true w e n = refl
memory_names false w e n = at n (named_load w e)

-- ---- operands

code_names : (p : Place) (t : CType) → Holds (place_named p) (code_of p t)
code_names (place.Value e) t n = refl
code_names (place.Register i) t n = at n (named_var i)
code_names (place.Generated i) t n = at n (named_vget i)
code_names (place.Memory e) t n = memory_names (decays t) (width_of t) e n
code_names (place.Function f) t n = at n (named_const f)

pub value_names : (o : Operand) → Holds (place_named o.place) (value_of o).code
unfolding value_of
value_names o = code_names o.place o.ctype

settled_by : (b : Bool) (o : Operand) → Gives (place_named o.place) (if b then as_operand (value_of o) else o)
settled_by true o n = value_names o n
settled_by false o n = refl

pub settled_names : (o : Operand) → Gives (place_named o.place) (settled o)
unfolding settled
settled_names o = settled_by (decays o.ctype) o

converted_by_names : (k : Option UnKind) (e : Expr) → Holds (named e) (converted_by k e)
converted_by_names None e n = refl
converted_by_names (Some k) e n = un_names k e n

converted_names : (v : Value) (t : CType) → Holds (named v.code) (converted v t)
unfolding converted
converted_names v t = converted_by_names (conversion v.ctype t) v.code

pub number_names : (n : ℕ) (u : Bool) → Gives none (number n u)
unfolding number
number_names m u n = at n (named_const m)

pub character_names : (n : ℕ) → Gives none (character n)
unfolding character
character_names m n = at n (named_const m)

pub string_names : (n : ℕ) → Gives none (string n)
unfolding string
string_names m n = at n (named_const m)

size_by_names : (line : ℕ) (n : Option ℕ) → Unless (Gives none) (size_by line n)
size_by_names line None = tt
size_by_names line (Some m) = λ n. at n (named_const m)

pub size_names : (line : ℕ) (t : CType) → Unless (Gives none) (size line t)
size_names line t = size_by_names line (limited_size t)

pub condition_names : (line : ℕ) (v : Value) → Unless (Holds (named v.code)) (condition line v)
unfolding condition
condition_names line v = unless_by (Holds (named v.code)) line _ v.code (λ n. refl)

pub switched_names : (line : ℕ) (v : Value) → Unless (Holds (named v.code)) (switched line v)
unfolding switched
switched_names line v = unless_by (Holds (named v.code)) line _ v.code (λ n. refl)

pub plus_names : (line : ℕ) (v : Value) → Unless (Gives (named v.code)) (plus line v)
unfolding plus
plus_names line v = unless_by (Gives (named v.code)) line _ _ (λ n. refl)

pub integer_names : (line : ℕ) (k : UnKind) (v : Value) → Unless (Gives (named v.code)) (on_integer line k v)
unfolding on_integer
integer_names line k v = unless_by (Gives (named v.code)) line _ _ (un_names k v.code)

pub dereferenced_names : (line : ℕ) (v : Value) → Unless (Gives (named v.code)) (dereferenced line v)
unfolding dereferenced
dereferenced_names line v = unless_by (Gives (named v.code)) line _ _ (λ n. refl)

pub negated_names : (line : ℕ) (v : Value) → Unless (Gives (named v.code)) (negated line v)
unfolding negated
negated_names line v = unless_by (Gives (named v.code)) line _ _ (un_names _ v.code)

pub cast_names : (line : ℕ) (t : CType) (v : Value) → Unless (Gives (named v.code)) (cast line t v)
unfolding cast
cast_names line t v =
    unless_if (Gives (named v.code)) (is_void t) _ _ (λ n. at n (named_void v.code))
    (unless_by (Gives (named v.code)) line _ _ (converted_names v t))

-- ---- operators

scaled_by : (b : Bool) (e : Expr) (m : ℕ) → Holds (named e) (if b then e else ex.Bin bin.Multiply e (ex.Const m))
scaled_by true e m n = refl
scaled_by false e m n = bin_const bin.Multiply e m n

scaled_names : (e : Expr) (m : ℕ) → Holds (named e) (scaled e m)
scaled_names e m = scaled_by (m == 1) e m

quotient_by : (b : Bool) (e : Expr) (m : ℕ) → Holds (named e) (if b then e else ex.Bin bin.DivideSigned e (ex.Const m))
quotient_by true e m n = refl
quotient_by false e m n = bin_const bin.DivideSigned e m n

built_names : (c : Combined) (x y : Expr) → Holds (both (named x) (named y)) (built c x y)
built_names (by_form.Words k t) x y n = bin_names k x y n
built_names (by_form.ScaledRight k m) x y n = bin_names k x (scaled y m) n ∙ scaled_names y m (named x n)
built_names (by_form.ScaledLeft m) x y n =
    bin_names bin.Add (scaled x m) y n ∙ ap (named y) (scaled_names x m n)
built_names (by_form.Divided m) x y n =
    quotient_by (m == 1) (ex.Bin bin.Subtract x y) m n ∙ bin_names bin.Subtract x y n

-- two values, one behind the other
abbrev pub pair : Value → Value → Naming
pair v w = both (named v.code) (named w.code)

binary_by_names : (line : ℕ) (v w : Value) (c : Option Combined) → Unless (Gives (pair v w)) (binary_by line v w c)
binary_by_names line v w None = tt
binary_by_names line v w (Some c) = built_names c v.code w.code

arithmetic_names : (line : ℕ) (o : BinaryOp) (v w : Value) → Unless (Gives (pair v w)) (arithmetic line o v w)
unfolding arithmetic
arithmetic_names line o v w =
    unless_if (Gives (pair v w)) (is_void v.ctype || is_void w.ctype) _ _ tt
    (binary_by_names line v w (combine o v.ctype v.zero w.ctype w.zero))

conjunction_names : (line : ℕ) (v w : Value) → Unless (Gives (pair v w)) (conjunction line v w)
unfolding conjunction
conjunction_names line v w = unless_by (Gives (pair v w)) line _ _ (λ n. at n (named_and v.code w.code))

disjunction_names : (line : ℕ) (v w : Value) → Unless (Gives (pair v w)) (either line v w)
unfolding either
disjunction_names line v w = unless_by (Gives (pair v w)) line _ _ (λ n. at n (named_or v.code w.code))

pub binary_names : (line : ℕ) (o : BinaryOp) (v w : Value) → Unless (Gives (pair v w)) (binary line o v w)
binary_names line op.And v w = conjunction_names line v w
binary_names line op.Or v w = disjunction_names line v w
binary_names line o v w = arithmetic_names line o v w

element_names : (line : ℕ) (v w : Value) (n : Option ℕ) → Unless (Gives (pair v w)) (index_by line v w n)
element_names line v w None = tt
element_names line v w (Some m) = λ n.
    bin_names bin.Add v.code (scaled w.code m) n ∙ scaled_names w.code m (named v.code n)

pub index_names : (line : ℕ) (v w : Value) → Unless (Gives (pair v w)) (index line v w)
unfolding index
index_names line v w =
    unless_if (Gives (pair v w)) (is_void v.ctype || is_void w.ctype) _ _ tt
    (unless_if (Gives (pair v w)) (is_integer w.ctype) _ _ (element_names line v w (pointed_size v.ctype)) tt)

choice_by_names : (line : ℕ) (c v w : Value) (j : Option Joined) →
    Unless (Gives (both (named c.code) (pair v w))) (choice_by line c v w j)
choice_by_names line c v w None = tt
choice_by_names line c v w (Some j) =
    unless_by (Gives (both (named c.code) (pair v w))) line _ _ (λ n. at n (named_cond c.code v.code w.code))

pub choice_names : (line : ℕ) (c v w : Value) → Unless (Gives (both (named c.code) (pair v w))) (choice line c v w)
unfolding choice
choice_names line c v w = choice_by_names line c v w (joined_type v w)

pub comma_names : (v w : Value) → Gives (pair v w) (comma v w)
unfolding comma
comma_names v w n = at n (named_comma v.code w.code)

-- ---- places

-- a place, and a value behind it
abbrev pub onto : Operand → Value → Naming
onto o v = both (place_named o.place) (named v.code)

stored_names : (p : Place) (t : CType) (e : Expr) → is_place p ≡ true →
    Holds (both (place_named p) (named e)) (stored p t e)
stored_names (place.Value x) t e h n = absurd (let z : false ≡ true = h in cc)
stored_names (place.Register i) t e h n = at n (named_setvar i e)
stored_names (place.Generated i) t e h n = at n (named_vset i e)
stored_names (place.Memory x) t e h n = at n (named_store (width_of t) x e)
stored_names (place.Function f) t e h n = absurd (let z : false ≡ true = h in cc)

none_else : (b : Bool) (f : FaultKind) (k : Option FaultKind) → (if b then Some f else k) ≡ None → k ≡ None
none_else true f k h = absurd (cc)
none_else false f k h = h

is_so : (b : Bool) (k : Option FaultKind) → (if b then k else Some fault.NotPlace) ≡ None → b ≡ true
is_so true k h = refl
is_so false k h = absurd (cc)

pub assign_names : (line : ℕ) (o : Operand) (v : Value) → Unless (Gives (onto o v)) (assign line o v)
unfolding assign
assign_names line o v =
    unless_none (Gives (onto o v)) line _ _ (λ k n.
    stored_names o.place o.ctype (converted v o.ctype) (is_so (is_place o.place) (void_breaks v)
    (none_else (mismatches o.ctype v) fault.TypeMismatch (place_breaks o (void_breaks v)) k)) n
    ∙ converted_names v o.ctype (place_named o.place n))

narrowing_names : (k : Option Integer) (e : Expr) → Holds (named e) (narrowing_of k e)
narrowing_names None e n = refl
narrowing_names (Some k) e n = converted_by_names (narrowing k) e n

pub narrowed_names : (t : CType) (e : Expr) → Holds (named e) (narrowed t e)
narrowed_names t e = narrowing_names (integer_of t) e

right_names : (c : Combined) (e : Expr) → Holds (named e) (right_in c e)
right_names (by_form.Words k t) e n = refl
right_names (by_form.ScaledRight k m) e n = scaled_names e m n
right_names (by_form.ScaledLeft m) e n = refl
right_names (by_form.Divided m) e n = refl

changed_names : (c : Combined) (p : Place) (t : CType) (e : Expr) → is_place p ≡ true →
    Holds (both (place_named p) (named e)) (changed c p t e)
changed_names c (place.Value x) t e h n = absurd (let z : false ≡ true = h in cc)
changed_names c (place.Register i) t e h n =
    at n (named_setvar i (narrowed t (built c (ex.Var i) e)))
    ∙ narrowed_names t (built c (ex.Var i) e) n
    ∙ built_names c (ex.Var i) e n
    ∙ ap (named e) (at n (named_var i))
changed_names c (place.Generated i) t e h n =
    at n (named_vset i (built c (ex.VGet i) e))
    ∙ built_names c (ex.VGet i) e (next capture.Variable i n)
    ∙ ap (named e) (at (next capture.Variable i n) (named_vget i) ∙ next_twice i n)
changed_names c (place.Memory x) t e h n =
    at n (named_modify (width_of t) (kind_in c) x (right_in c e)) ∙ right_names c e (named x n)
changed_names c (place.Function f) t e h n = absurd (let z : false ≡ true = h in cc)

comes : (b : Bool) (k : Option FaultKind) → (if b then k else Some fault.TypeMismatch) ≡ None → k ≡ None
comes true k h = h
comes false k h = absurd (cc)

modified_names : (line : ℕ) (c : Combined) (o : Operand) (e : Expr) →
    Unless (Gives (both (place_named o.place) (named e))) (modified line c o e)
modified_names line c o e =
    unless_none (Gives (both (place_named o.place) (named e))) line _ _ (λ k.
    changed_names c o.place o.ctype e (is_so (is_place o.place) None (comes (comes_back c) (place_breaks o None) k)))

modify_by_names : (line : ℕ) (o : Operand) (v : Value) (c : Option Combined) →
    Unless (Gives (onto o v)) (modify_by line o v c)
modify_by_names line o v None = tt
modify_by_names line o v (Some c) = modified_names line c o v.code

pub modify_names : (line : ℕ) (m : ModifyOp) (o : Operand) (v : Value) → Unless (Gives (onto o v)) (modify line m o v)
unfolding modify
modify_names line m o v = modify_by_names line o v (combine (operator_of m) o.ctype false v.ctype v.zero)

stepped_by_names : (line : ℕ) (s : StepOp) (o : Operand) (n : Option ℕ) →
    Unless (Gives (place_named o.place)) (stepped_by line s o n)
stepped_by_names line s o None = tt
stepped_by_names line s o (Some m) =
    unless_map (Gives (both (place_named o.place) (named (ex.Const m)))) (Gives (place_named o.place)) _
    (λ r h n. h n ∙ at (place_named o.place n) (named_const m))
    (modified_names line (by_form.Words (step_kind s) kind.Int) o (ex.Const m))

pub stepped_names : (line : ℕ) (s : StepOp) (o : Operand) → Unless (Gives (place_named o.place)) (stepped line s o)
unfolding stepped
stepped_names line s o = stepped_by_names line s o (step_of o.ctype)

posted_names : (p : Place) (t : CType) (m : ℕ) → Holds (place_named p) (posted p t m)
posted_names (place.Value x) t m n = refl
posted_names (place.Register i) t m n = at n (named_postvar i (width_of t) m)
posted_names (place.Generated i) t m n = at n (named_vpost i m)
posted_names (place.Memory x) t m n = at n (named_post (width_of t) m x)
posted_names (place.Function f) t m n = at n (named_const f)

post_by_names : (line : ℕ) (s : StepOp) (o : Operand) (n : Option ℕ) →
    Unless (Gives (place_named o.place)) (post_by line s o n)
post_by_names line s o None = tt
post_by_names line s o (Some m) =
    unless_by (Gives (place_named o.place)) line _ _ (posted_names o.place o.ctype (amount s m))

pub post_names : (line : ℕ) (s : StepOp) (o : Operand) → Unless (Gives (place_named o.place)) (post line s o)
unfolding post
post_names line s o = post_by_names line s o (step_of o.ctype)

address_of_names : (line : ℕ) (p : Place) (t : CType) → Unless (Gives (place_named p)) (address_of line p t)
address_of_names line (place.Value e) t = tt
address_of_names line (place.Register i) t = tt
address_of_names line (place.Generated i) t = tt
address_of_names line (place.Memory e) t = λ n. refl
address_of_names line (place.Function f) t = tt

pub address_names : (line : ℕ) (o : Operand) → Unless (Gives (place_named o.place)) (address line o)
unfolding address
address_names line o = address_of_names line o.place o.ctype
