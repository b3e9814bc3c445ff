-- The value of a constant and the type that a declarator makes don't depend on what is known where a function runs: so
-- both walks over a program give each global the same type.
use Rattle.std.proofs.Common.{◌≡◌, ℕ, Bool, true, false, List, [], ◌∷◌, ◌++◌, length, refl, sym, ap, subst, ◌∙◌, Option}
use Rattle.std.proofs.Common.{Some, None, Ok}
use Rattle.c_types.specs.declared.ctype.Base.{Base}
use Rattle.c_types.specs.declared.ctype.CType.{CType}
use Rattle.check_declarators.specs.declared.steps.Length.TheVariants as len
use Rattle.check_declarators.specs.declared.steps.Role.TheVariants as role
use Rattle.check_declarators.specs.declared.steps.Step.{Step}
use Rattle.check_declarators.specs.declared.steps.Step.TheVariants as step
use Rattle.check_declarators.specs.Making.{declared_type}
use Rattle.check_declarators.specs.Steps.{prefixed}
use Rattle.tick_tree.specs.declared.base.BinaryOp.{BinaryOp}
use Rattle.tick_tree.specs.declared.base.Prefix.{Prefix}
use Rattle.tick_tree.specs.declared.base.UnaryOp.{UnaryOp}
use Rattle.tick_tree.specs.declared.base.UnaryOp.TheVariants as unary_op
use Rattle.tick_tree.specs.Faults.{Checked}
use Rattle.tick_tree.specs.declared.syntax.Core.TheOpen.{Expr-F, Suffix-F}
use Rattle.typed_tree.specs.declared.expression.Stmt.{Stmt as Act}
use Rattle.check_operands.specs.declared.operand.Operand.{Operand}
use Rattle.check_operands.specs.declared.operand.Place.{Place}
use Rattle.check_operands.specs.declared.operand.Place.TheVariants as place
use Rattle.check_operands.specs.Operands as nodes
use Rattle.check_rules.specs.Walks.{Rule, ◌>>=◌, pure, lift}
use Rattle.check_rules.specs.declared.state.Stage.{Stage}
use Rattle.check_rules.specs.declared.state.Stage.TheVariants as stage
use Rattle.check_rules.specs.declared.state.State.{State}
use Rattle.check_rules.specs.Blocks.{enter, leave}
use Rattle.check_rules.specs.Productions
use Rattle.check_rules.specs.ExpressionRules.{Node, Named, Shape, Item, both, unary, cast, size, binary, walk_rule}
use Rattle.check_rules.specs.Declarations.{length_of, declare_parameter}
use Rattle.check_rules.specs.StatementRules.{length_step, each_type, list_step, suffix_rule, each_step}
use Rattle.wf_walk.specs.Parts.{EachPart, HasForm, IsFixed, IsFixedBut, FixedNamed, FixedShape, FixedSuffix}
use Rattle.wf_walk.specs.Parts.{FixedParameter, FixedOptional, FixedParts, FixedSuffixParts}
use Rattle.wf_walk.specs.Good.{is_computed_step, any_computed}
use Rattle.wellformed.proofs.Bools.{first_false}
use Rattle.wf_walk.proofs.Walks.{ok_same, ran, pure_value, lifted}
use Rattle.wf_walk.proofs.Lengths.{has_form, computed_front, computed_rest, computed_prefixed, type_not_computed}

-- ---- steps

pub pure_fixed : {A : Type 0} (x : A) → IsFixed (pure {S = State} x)
pure_fixed x s t m n y z e f = sym (pure_value x y s m e) ∙ pure_value x z t n f

lift_fixed : {A : Type 0} (r : Checked A) → IsFixed (lift {S = State} r)
lift_fixed r s t m n y z e f = ok_same y z (sym (lifted r s y m e).value ∙ (lifted r t z n f).value)

bind_fixed : {A B : Type 0} (p : Rule State A) (k : A → Rule State B) → IsFixed p → ((x : A) → IsFixed (k x)) →
    IsFixed (p >>= k)
bind_fixed p k h g s t m n y z e f =
    let q = ran p k s y m e in
    let r = ran p k t z n f in
    let v = h s t q.state r.state q.value r.value q.first r.first in
    g q.value q.state r.state m n y z q.next (subst (λ x. k x r.state ≡ Ok (z, n)) (sym v) r.next)

-- ---- constants

one_fixed : (a : Node) (f : Operand → Checked Operand) → IsFixed (a.walk stage.Function) →
    IsFixed (a.walk stage.Function >>= (λ o. lift (f o)))
one_fixed a f h = bind_fixed (a.walk stage.Function) (λ o. lift (f o)) h (λ o. lift_fixed (f o))

both_fixed : (a b : Node) → IsFixed (a.walk stage.Function) → IsFixed (b.walk stage.Function) →
    IsFixed (both a b stage.Function)
both_fixed a b h k =
    bind_fixed (a.walk stage.Function) (λ x. b.walk stage.Function >>= (λ y. pure (x, y))) h
    (λ x. bind_fixed (b.walk stage.Function) (λ y. pure (x, y)) k (λ y. pure_fixed (x, y)))

address_value : (line : ℕ) (t : CType) (p : Place) → IsFixed (Productions.address_by line t p)
address_value line t (place.Value e) s r m n y z f g = cc
address_value line t (place.Register i) s r m n y z f g = sym (pure_value _ y _ m f) ∙ pure_value _ z _ n g
address_value line t (place.Generated i) s r m n y z f g = cc
address_value line t (place.Memory e) s r m n y z f g = sym (pure_value _ y s m f) ∙ pure_value _ z r n g
address_value line t (place.Function i) s r m n y z f g = cc

address_fixed : (line : ℕ) (o : Operand) → IsFixed (Productions.address_node line stage.Function o)
unfolding Productions.address_node
address_fixed line o = address_value line o.ctype o.place

unary_fixed : (line : ℕ) (op : UnaryOp) (a : Node) → IsFixed (a.walk stage.Function) →
    IsFixed (unary line op a stage.Function)
unary_fixed line unary_op.Plus a h = one_fixed a (Productions.signed_node line unary_op.Plus) h
unary_fixed line unary_op.Minus a h = one_fixed a (Productions.signed_node line unary_op.Minus) h
unary_fixed line unary_op.Complement a h = one_fixed a (Productions.signed_node line unary_op.Complement) h
unary_fixed line unary_op.Not a h = one_fixed a (Productions.signed_node line unary_op.Not) h
unary_fixed line unary_op.Star a h = one_fixed a (Productions.star_node line stage.Function) h
unary_fixed line unary_op.Address a h =
    bind_fixed (a.walk stage.Function) (Productions.address_node line stage.Function) h (λ o. address_fixed line o)
unary_fixed line unary_op.Dollar a h = λ s t m n y z e f. cc
unary_fixed line unary_op.Increment a h =
    bind_fixed (a.walk stage.Function) (Productions.unary_node line unary_op.Increment stage.Function) h
    (λ o. lift_fixed _)
unary_fixed line unary_op.Decrement a h =
    bind_fixed (a.walk stage.Function) (Productions.unary_node line unary_op.Decrement stage.Function) h
    (λ o. lift_fixed _)

size_fixed : (line : ℕ) (t : Named) → FixedNamed t → IsFixed (size line t stage.Function)
size_fixed line t h = bind_fixed (t.walk line stage.Function) (λ ty. lift (nodes.size line ty)) (h line)
    (λ ty. lift_fixed (nodes.size line ty))

cast_fixed : (line : ℕ) (t : Named) (a : Node) → FixedNamed t → IsFixed (a.walk stage.Function) →
    IsFixed (cast line t a stage.Function)
cast_fixed line t a h k =
    bind_fixed (t.walk line stage.Function)
    (λ ty. a.walk stage.Function >>= (λ o. lift (Productions.cast_node line ty o))) (h line)
    (λ ty. one_fixed a (Productions.cast_node line ty) k)

binary_fixed : (line : ℕ) (op : BinaryOp) (a b : Node) → IsFixed (a.walk stage.Function) →
    IsFixed (b.walk stage.Function) → IsFixed (binary line op a b stage.Function)
binary_fixed line op a b h k =
    bind_fixed (both a b stage.Function) (λ p. lift (Productions.binary_node line op p.0 p.1)) (both_fixed a b h k)
    (λ p. lift_fixed (Productions.binary_node line op p.0 p.1))

pub constant_fixed : {I S D N P : Type 0} (e : Expr-F Shape Node I (Option Node) Item S D Shape N P Named) →
    FixedParts e → HasForm e → IsFixed (walk_rule e stage.Function)
constant_fixed (Expr-F.Number n unsigned) h f = pure_fixed (nodes.number n unsigned)
constant_fixed (Expr-F.Character n) h f = pure_fixed (nodes.character n)
constant_fixed (Expr-F.Expr::Paren a) h f = h f
constant_fixed (Expr-F.Unary line op a) h f = unary_fixed line op a (h f)
constant_fixed (Expr-F.Cast line t a) h f = cast_fixed line t a h.0 (h.1 f)
constant_fixed (Expr-F.Sizeof line t) h f = size_fixed line t h
constant_fixed (Expr-F.Binary line op ab) h f = binary_fixed line op ab.0 ab.1 (h.0 f.0) (h.1 f.1)
constant_fixed (Expr-F.Expr::Name line name) h f = λ s t m n y z d e. cc
constant_fixed (Expr-F.String bytes) h f = λ s t m n y z d e. cc
constant_fixed (Expr-F.Compile line a t) h f = λ s t m n y z d e. cc
constant_fixed (Expr-F.Expr::Local line t) h f = λ s t m n y z d e. cc
constant_fixed (Expr-F.Param line t a) h f = λ s t m n y z d e. cc
constant_fixed (Expr-F.Index line ab) h f = λ s t m n y z d e. cc
constant_fixed (Expr-F.Call line c list) h f = λ s t m n y z d e. cc
constant_fixed (Expr-F.Step line op a) h f = λ s t m n y z d e. cc
constant_fixed (Expr-F.Tick line a) h f = λ s t m n y z d e. cc
constant_fixed (Expr-F.TickBlock line items) h f = λ s t m n y z d e. cc
constant_fixed (Expr-F.Choice line c a b) h f = λ s t m n y z d e. cc
constant_fixed (Expr-F.Assign line ab) h f = λ s t m n y z d e. cc
constant_fixed (Expr-F.Modify line op ab) h f = λ s t m n y z d e. cc
constant_fixed (Expr-F.Comma line ab) h f = λ s t m n y z d e. cc

-- ---- suffixes

weaker : {A : Type 0} (but : A → Bool) (r : Rule State A) → IsFixed r → IsFixedBut but r
weaker but r h s t m n y z e f k = h s t m n y z e f

-- a length that has the form of a constant, or not
length_by_form : (form : Bool) (w : Rule State Operand) → (form ≡ true → IsFixed w) →
    IsFixedBut is_computed_step (w >>= (λ o. pure (step.Array (length_of form o))))
length_by_form form w h s t m n y z e f k =
    let q = ran w (λ o. pure (step.Array (length_of form o))) s y m e in
    let r = ran w (λ o. pure (step.Array (length_of form o))) t z n f in
    let v = pure_value (step.Array (length_of form q.value)) y q.state m q.next in
    let same = h (has_form form q.value (ap is_computed_step v ∙ k)) s t q.state r.state q.value r.value q.first r.first
    in
    sym v ∙ ap (λ o. step.Array (length_of form o)) same ∙
    pure_value (step.Array (length_of form r.value)) z r.state n r.next

length_fixed : (e : Option Node) → FixedOptional e → IsFixedBut is_computed_step (length_step e stage.Function)
length_fixed None h = weaker is_computed_step (length_step None stage.Function) (pure_fixed (step.Array len.Absent))
length_fixed (Some e) h = length_by_form e.written.constant (e.walk stage.Function) h

each_type_fixed : (ps : List (Stage → Rule State CType)) → EachPart FixedParameter ps →
    IsFixed (each_type ps stage.Function)
each_type_fixed [] h = pure_fixed []
each_type_fixed (p ∷ ps) h =
    bind_fixed (p stage.Function) (λ t. each_type ps stage.Function >>= (λ ts. pure (t ∷ ts))) h.0
    (λ t. bind_fixed (each_type ps stage.Function) (λ ts. pure (t ∷ ts)) (each_type_fixed ps h.1)
    (λ ts. pure_fixed (t ∷ ts)))

-- out of a list, whatever was round it
left_value : (ts : List CType) (i j : ℕ) (s t m n : State) (y z : Step) (k l : List Act) →
    (leave i k >>= (λ vs. pure (step.Function ts))) s ≡ Ok (y, m) →
    (leave j l >>= (λ vs. pure (step.Function ts))) t ≡ Ok (z, n) → y ≡ z
unfolding leave
left_value ts i j s t m n y z k l e f =
    sym (pure_value (step.Function ts) y _ m e) ∙ pure_value (step.Function ts) z _ n f

list_fixed : (ps : List (Stage → Rule State CType)) → EachPart FixedParameter ps → IsFixed (list_step ps stage.Function)
unfolding enter
list_fixed ps h s t m n y z e f =
    let q = ran (each_type ps stage.Function)
    (λ ts. leave (length s.scopes) s.frame.nodes >>= (λ vs. pure (step.Function ts))) _ y m e in
    let r = ran (each_type ps stage.Function)
    (λ ts. leave (length t.scopes) t.frame.nodes >>= (λ vs. pure (step.Function ts))) _ z n f in
    let v = each_type_fixed ps h _ _ q.state r.state q.value r.value q.first r.first in
    left_value q.value (length s.scopes) (length t.scopes) q.state r.state m n y z s.frame.nodes t.frame.nodes q.next
    (subst (λ x. (leave (length t.scopes) t.frame.nodes >>= (λ vs. pure (step.Function x))) r.state ≡ Ok (z, n)) (sym v)
    r.next)

pub suffix_fixed : {I D N : Type 0}
    (e : Suffix-F Shape Node I (Option Node) Item (Stage → Rule State Step) D Shape N (Stage → Rule State CType) Named)
    →
    FixedSuffixParts e → FixedSuffix (suffix_rule e)
suffix_fixed (Suffix-F.Array e) h = length_fixed e h
suffix_fixed Suffix-F.Unlisted h = weaker is_computed_step (pure step.Unlisted) (pure_fixed step.Unlisted)
suffix_fixed Suffix-F.Nothing h = weaker is_computed_step (pure (step.Function [])) (pure_fixed (step.Function []))
suffix_fixed (Suffix-F.Listed ps) h = weaker is_computed_step (list_step ps stage.Function) (list_fixed ps h)

-- the steps so far are among all of them
steps_before : (rs : List (Stage → Rule State Step)) (ss : List Step) (s new : State) (xs : List Step) →
    each_step rs ss stage.Function s ≡ Ok (xs, new) → any_computed xs ≡ false → any_computed ss ≡ false
steps_before [] ss s new xs is k = ap any_computed (pure_value ss xs s new is) ∙ k
steps_before (r ∷ rs) ss s new xs is k =
    let q = ran (r stage.Function) (λ x. each_step rs (ss ++ x ∷ []) stage.Function) s xs new is in
    computed_front ss (q.value ∷ []) (steps_before rs (ss ++ q.value ∷ []) q.state new xs q.next k)

each_fixed : (rs : List (Stage → Rule State Step)) → EachPart FixedSuffix rs → (ss : List Step) →
    IsFixedBut any_computed (each_step rs ss stage.Function)
each_fixed [] h ss s t m n y z e f k = pure_fixed ss s t m n y z e f
each_fixed (r ∷ rs) h ss s t m n y z e f k =
    let p = ran (r stage.Function) (λ x. each_step rs (ss ++ x ∷ []) stage.Function) s y m e in
    let q = ran (r stage.Function) (λ x. each_step rs (ss ++ x ∷ []) stage.Function) t z n f in
    let all = steps_before rs (ss ++ p.value ∷ []) p.state m y p.next k in
    let own = first_false (is_computed_step p.value) false (computed_rest ss (p.value ∷ []) all) in
    let v = h.0 s t p.state q.state p.value q.value p.first q.first own in
    each_fixed rs h.1 (ss ++ p.value ∷ []) p.state q.state m n y z p.next
    (subst (λ x. each_step rs (ss ++ x ∷ []) stage.Function q.state ≡ Ok (z, n)) (sym v) q.next) k

-- ---- declarators and what they declare

pub declarator_fixed : (core : Shape) (suffixes : List (Stage → Rule State Step)) (prefixes : List Prefix) →
    FixedShape core → EachPart FixedSuffix suffixes
    → IsFixedBut any_computed
    (core.walk stage.Function >>=
    (λ ss. each_step suffixes ss stage.Function >>= (λ all. pure (prefixed prefixes all))))
declarator_fixed core suffixes prefixes h l s t m n y z e f k =
    let p = ran (core.walk stage.Function)
    (λ ss. each_step suffixes ss stage.Function >>= (λ all. pure (prefixed prefixes all))) s y m e in
    let q = ran (core.walk stage.Function)
    (λ ss. each_step suffixes ss stage.Function >>= (λ all. pure (prefixed prefixes all))) t z n f in
    let a = ran (each_step suffixes p.value stage.Function) (λ all. pure (prefixed prefixes all)) p.state y m p.next in
    let b = ran (each_step suffixes q.value stage.Function) (λ all. pure (prefixed prefixes all)) q.state z n q.next in
    let v = pure_value (prefixed prefixes a.value) y a.state m a.next in
    let all = computed_prefixed prefixes a.value (ap any_computed v ∙ k) in
    let core_same = h s t p.state q.state p.value q.value p.first q.first
    (steps_before suffixes p.value p.state a.state a.value a.first all) in
    let same = each_fixed suffixes l p.value p.state q.state a.state b.state a.value b.value a.first
    (subst (λ ss. each_step suffixes ss stage.Function q.state ≡ Ok (b.value, b.state)) (sym core_same) b.first) all in
    sym v ∙ ap (prefixed prefixes) same ∙ pure_value (prefixed prefixes b.value) z b.state n b.next

-- a type, which no steps make with a length that isn't constant
pub typed_fixed : (d : Shape) (f : List Step → Checked CType) →
    ((ss : List Step) (x : CType) → f ss ≡ Ok x → any_computed ss ≡ false) → FixedShape d
    → IsFixed (d.walk stage.Function >>= (λ ss. lift (f ss)))
typed_fixed d f k h s t m n y z e g =
    let p = ran (d.walk stage.Function) (λ ss. lift (f ss)) s y m e in
    let q = ran (d.walk stage.Function) (λ ss. lift (f ss)) t z n g in
    let l = lifted (f p.value) p.state y m p.next in
    let same = h s t p.state q.state p.value q.value p.first q.first (k p.value y l.value) in
    ok_same y z (sym l.value ∙ ap f same ∙ (lifted (f q.value) q.state z n q.next).value)

-- a step, and then one that doesn't change the answer
kept_fixed : {A : Type 0} (p : Rule State A) (k : A → Rule State (Unit {0})) → IsFixed p →
    IsFixed (p >>= (λ x. k x >>= (λ u. pure x)))
kept_fixed p k h = bind_fixed p (λ x. k x >>= (λ u. pure x)) h
    (λ x. bind_fixed (k x) (λ u. pure x) (λ s t m n y z e f. refl) (λ u. pure_fixed x))

-- the type of a parameter, which gets its name
abbrev parameter_rest : ℕ → Base → Shape → List Step → Rule State CType
parameter_rest line b d ss =
    lift (declared_type role.Parameter line b ss) >>=
    (λ t. declare_parameter stage.Function line d.declared.name t >>= (λ u. pure t))

parameter_rest_fixed : (line : ℕ) (b : Base) (d : Shape) (ss : List Step) → IsFixed (parameter_rest line b d ss)
parameter_rest_fixed line b d ss =
    kept_fixed (lift (declared_type role.Parameter line b ss))
    (λ t. declare_parameter stage.Function line d.declared.name t)
    (lift_fixed (declared_type role.Parameter line b ss))

pub parameter_fixed : (line : ℕ) (b : Base) (d : Shape) → FixedShape d
    → IsFixed (d.walk stage.Function >>=
    (λ ss. lift (declared_type role.Parameter line b ss) >>=
    (λ t. declare_parameter stage.Function line d.declared.name t >>= (λ u. pure t))))
parameter_fixed line b d h s t m n y z e f =
    let p = ran (d.walk stage.Function) (parameter_rest line b d) s y m e in
    let q = ran (d.walk stage.Function) (parameter_rest line b d) t z n f in
    let r = ran (lift (declared_type role.Parameter line b p.value))
    (λ x. declare_parameter stage.Function line d.declared.name x >>= (λ u. pure x)) p.state y m p.next in
    let l = lifted (declared_type role.Parameter line b p.value) p.state r.value r.state r.first in
    let same = h s t p.state q.state p.value q.value p.first q.first
    (type_not_computed role.Parameter line b p.value r.value l.value) in
    parameter_rest_fixed line b d p.value p.state q.state m n y z p.next
    (subst (λ ss. parameter_rest line b d ss q.state ≡ Ok (z, n)) (sym same) q.next)
