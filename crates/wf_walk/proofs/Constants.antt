-- An expression with the form of a constant names nothing and captures only what stands anywhere, and so does its
-- value.
use Rattle.std.proofs.Common.{◌≡◌, ℕ, Bool, true, false, [], ◌∷◌, ◌++◌, ap, subst, Option, None, Ok, Err, List}
use Rattle.c_types.specs.declared.ctype.CType.{CType}
use Rattle.tick_tree.specs.declared.base.BinaryOp.{BinaryOp}
use Rattle.tick_tree.specs.declared.base.StepOp.TheVariants as step_op
use Rattle.tick_tree.specs.declared.base.UnaryOp.{UnaryOp}
use Rattle.tick_tree.specs.declared.base.UnaryOp.TheVariants as unary_op
use Rattle.tick_tree.specs.Faults.{Checked, ◌>>=◌ as ◌>>>=◌}
use Rattle.tick_tree.specs.declared.syntax.Core.TheOpen.{Expr-F}
use Rattle.typed_tree.specs.declared.expression.CaptureKind.TheVariants as capture
use Rattle.typed_tree.specs.declared.expression.Expr.TheVariants as ex
use Rattle.check_operands.specs.declared.operand.Operand.{Operand}
use Rattle.check_operands.specs.declared.operand.Place.{Place}
use Rattle.check_operands.specs.declared.operand.Place.TheVariants as place
use Rattle.check_operands.specs.declared.operand.Value.{Value}
use Rattle.check_operands.specs.Operands as nodes
use Rattle.check_operands.specs.Operands.{value_of}
use Rattle.check_operands.specs.Stages as stages
use Rattle.check_operands.specs.Places as places
use Rattle.check_rules.specs.Walks.{◌>>=◌, pure, lift}
use Rattle.check_rules.specs.declared.state.Stage.{Stage}
use Rattle.check_rules.specs.declared.state.Stage.TheVariants as stage
use Rattle.check_rules.specs.declared.state.State.{State}
use Rattle.check_rules.specs.Names.{captured}
use Rattle.check_rules.specs.Productions
use Rattle.check_rules.specs.ExpressionRules.{Node, Named, Shape, Item, both, unary, cast, size, binary, walk_rule}
use Rattle.wellformed.specs.Places.{Around}
use Rattle.wf_nodes.specs.Right.{Unless}
use Rattle.wf_walk.specs.Kept.{Starts}
use Rattle.wf_walk.specs.Steps.{EachCapture}
use Rattle.wf_walk.specs.Good.{Plain, Good, Anywhere, GoodNamed}
use Rattle.wf_walk.specs.Parts.{GoodParts, HasForm}
use Rattle.wf_walk.proofs.Fronts.{same_rest}
use Rattle.wf_walk.proofs.Walks.{ok_same, ran}
use Rattle.wf_walk.proofs.Plainly.{IsPlain, pure_plain, lift_plain, bind_plain}
use Rattle.wf_walk.proofs.NodeRules.{GoodCapture, good_number, good_character, good_size, good_signed, good_star}
use Rattle.wf_walk.proofs.NodeRules.{good_cast, good_step, good_binary, good_address, good_dollar, one_capture}

true_false : true ≡ false → ⊥
true_false h = cc

false_true : false ≡ true → ⊥
false_true h = cc

-- ---- anywhere

pub anywhere : (g : Stage) (o : Operand) → ((a : Around) → Good a o) → Anywhere g o
anywhere stage.Function o h = h
anywhere stage.Tick o h = tt
anywhere stage.Dollar o h = h

everywhere : (r : Checked Operand) → ((a : Around) → Unless (Good a) r) → Unless (λ o. (a : Around) → Good a o) r
everywhere (Ok o) h = h
everywhere (Err f) h = tt

trivially : (r : Checked Operand) → Unless (Anywhere stage.Tick) r
trivially (Ok o) = tt
trivially (Err f) = tt

-- what a rule makes of no operand, of one, and of two
pub anywhere_none : (g : Stage) (r : Checked Operand) → ((a : Around) → Unless (Good a) r) → Unless (Anywhere g) r
anywhere_none stage.Function r h = everywhere r h
anywhere_none stage.Tick r h = trivially r
anywhere_none stage.Dollar r h = everywhere r h

pub anywhere_one : (g : Stage) (f : Operand → Checked Operand) →
    ((a : Around) (o : Operand) → Good a o → Unless (Good a) (f o)) → (o : Operand) → Anywhere g o →
    Unless (Anywhere g) (f o)
anywhere_one stage.Function f h o x = everywhere (f o) (λ a. h a o (x a))
anywhere_one stage.Tick f h o x = trivially (f o)
anywhere_one stage.Dollar f h o x = everywhere (f o) (λ a. h a o (x a))

pub anywhere_two : (g : Stage) (f : Operand → Operand → Checked Operand) →
    ((a : Around) (o p : Operand) → Good a o → Good a p → Unless (Good a) (f o p)) → (o p : Operand) → Anywhere g o →
    Anywhere g p → Unless (Anywhere g) (f o p)
anywhere_two stage.Function f h o p x y = everywhere (f o p) (λ a. h a o p (x a) (y a))
anywhere_two stage.Tick f h o p x y = trivially (f o p)
anywhere_two stage.Dollar f h o p x y = everywhere (f o p) (λ a. h a o p (x a) (y a))

-- nothing is in scope round nothing
abbrev nowhere : Around
nowhere = record {
  variables = [];
  object = 0;
  functions = [];
  ticks = [];
  captures = None;
  in_loop = false;
  in_switch =
      false;
}

-- ---- parts

abbrev PlainNode : Node → Type 0
PlainNode n = (g : Stage) → IsPlain g (Anywhere g) (n.walk g)

-- a node whose operand is at its own stage
one_plain : (a : Node) (g : Stage) (f : Operand → Checked Operand) → PlainNode a →
    ((b : Around) (o : Operand) → Good b o → Unless (Good b) (f o)) →
    IsPlain g (Anywhere g) (a.walk g >>= (λ o. lift (f o)))
one_plain a g f k h = bind_plain g (Anywhere g) (Anywhere g) (a.walk g) (λ o. lift (f o)) (k g)
    (λ o x. lift_plain g (Anywhere g) (f o) (anywhere_one g f h o x))

both_plain : (a b : Node) (g : Stage) → PlainNode a → PlainNode b →
    IsPlain g (λ p. Anywhere g p.0 × Anywhere g p.1) (both a b g)
both_plain a b g h k =
    bind_plain g (Anywhere g) (λ p. Anywhere g p.0 × Anywhere g p.1) (a.walk g) (λ x. b.walk g >>= (λ y. pure (x, y)))
    (h g)
    (λ x p. bind_plain g (Anywhere g) (λ p. Anywhere g p.0 × Anywhere g p.1) (b.walk g) (λ y. pure (x, y)) (k g)
    (λ y q. pure_plain g (λ p. Anywhere g p.0 × Anywhere g p.1) (x, y) (p, q)))

binary_plain : (line : ℕ) (op : BinaryOp) (a b : Node) (g : Stage) → PlainNode a → PlainNode b →
    IsPlain g (Anywhere g) (binary line op a b g)
binary_plain line op a b g h k =
    bind_plain g (λ p. Anywhere g p.0 × Anywhere g p.1) (Anywhere g) (both a b g)
    (λ p. lift (Productions.binary_node line op p.0 p.1)) (both_plain a b g h k)
    (λ p x. lift_plain g (Anywhere g) (Productions.binary_node line op p.0 p.1)
    (anywhere_two g (Productions.binary_node line op) (λ b o q. good_binary b line op o q) p.0 p.1 x.0 x.1))

-- a type name, whatever type it is
named_plain : (t : Named) → GoodNamed t → (line : ℕ) (g : Stage) → IsPlain g (λ ty. Unit {0}) (t.walk line g)
named_plain t h line g s new x e = (h line g s new x e, tt)

size_plain : (line : ℕ) (t : Named) (g : Stage) → GoodNamed t → IsPlain g (Anywhere g) (size line t g)
size_plain line t g h =
    bind_plain g (λ ty. Unit {0}) (Anywhere g) (t.walk line g) (λ ty. lift (nodes.size line ty))
    (named_plain t h line g)
    (λ ty u. lift_plain g (Anywhere g) (nodes.size line ty)
    (anywhere_none g (nodes.size line ty) (λ a. good_size a line ty)))

cast_plain : (line : ℕ) (t : Named) (a : Node) (g : Stage) → GoodNamed t → PlainNode a →
    IsPlain g (Anywhere g) (cast line t a g)
cast_plain line t a g h k =
    bind_plain g (λ ty. Unit {0}) (Anywhere g) (t.walk line g)
    (λ ty. a.walk g >>= (λ o. lift (Productions.cast_node line ty o))) (named_plain t h line g)
    (λ ty u. one_plain a g (Productions.cast_node line ty) k (λ b o. good_cast b line ty o))

-- ---- addresses

-- no register variable is in scope everywhere
address_by_plain : (g : Stage) (line : ℕ) (t : CType) (z : Bool) (p : Place) →
    ((a : Around) → Good a (record { place = p; ctype = t; zero = z })) →
    IsPlain g (λ o. (a : Around) → Good a o) (Productions.address_by line t p)
address_by_plain g line t z (place.Value e) h s new x q = cc
address_by_plain g line t z (place.Register i) h s new x q = absurd (false_true (h nowhere).0)
address_by_plain g line t z (place.Generated i) h s new x q = cc
address_by_plain g line t z (place.Memory e) h s new x q =
    pure_plain g (λ o. (a : Around) → Good a o) _ (λ a. good_address a e t (h a)) s new x q
address_by_plain g line t z (place.Function f) h s new x q = cc

address_plain : (line : ℕ) (g : Stage) (o : Operand) → Anywhere g o →
    IsPlain g (Anywhere g) (Productions.address_node line g o)
unfolding Productions.address_node
address_plain line stage.Function o h s new x e =
    address_by_plain stage.Function line o.ctype o.zero o.place h s new x e
address_plain line stage.Tick o h s new x e =
    lift_plain stage.Tick (Anywhere stage.Tick) (places.address line o) (trivially (places.address line o)) s new x e
address_plain line stage.Dollar o h s new x e = address_by_plain stage.Dollar line o.ctype o.zero o.place h s new x e

-- ---- captures

captured_plain : (v : Value) (s z : State) → Plain stage.Dollar s z → ((a : Around) → GoodCapture a v) →
    Plain stage.Tick s (captured capture.Dollar v.code z)
captured_plain v s z p h =
    let e : (captured capture.Dollar v.code z).ticks.captures ≡ s.ticks.captures ++ ex.Capture capture.Dollar v.code ∷
    [] = ap (λ l. l ++ ex.Capture capture.Dollar v.code ∷ []) p.at.1 in
    let c : Starts s.ticks.captures (captured capture.Dollar v.code z).ticks.captures =
    record { rest = ex.Capture capture.Dollar v.code ∷ []; is = e } in
    record {
      tables = record {
        scopes = p.tables.scopes;
        result = p.tables.result;
        homes = p.tables.homes;
        nodes = p.tables.nodes;
        object = p.tables.object;
        labels = p.tables.labels;
        functions = p.tables.functions;
        image = record { end = p.tables.image.end; globals = p.tables.image.globals; at = p.tables.image.at };
      };
      captures = c;
      at = (
        record { inner = p.at.0.inner; ticks = p.at.0.ticks },
        λ more a. subst (λ es. EachCapture a es) (same_rest c more)
            (one_capture a capture.Dollar v.code (h a).stands (h a).captured.code),
      );
    }

dollar_by_plain : (r : Checked Value) (s z new : State) (x : Operand) → Plain stage.Dollar s z →
    ((a : Around) → Unless (GoodCapture a) r) →
    ◌≡◌ {A = Checked (Operand × State)} (r >>>= (λ v. Ok (Productions.dollar_by v z))) (Ok (x, new)) →
    Plain stage.Tick s new
dollar_by_plain (Ok v) s z new x p h e =
    subst (λ y. Plain stage.Tick s y) (ap (λ r. r.1) (ok_same (Productions.dollar_by v z) (x, new) e))
    (captured_plain v s z p h)
dollar_by_plain (Err f) s z new x p h e = cc

dollar_node_plain : (line : ℕ) (o : Operand) (s z new : State) (x : Operand) → Plain stage.Dollar s z →
    ((a : Around) → Good a o) → Productions.dollar_node line o z ≡ Ok (x, new) → Plain stage.Tick s new
unfolding Productions.dollar_node
dollar_node_plain line o s z new x p h e =
    dollar_by_plain (stages.dollar line (value_of o)) s z new x p (λ a. good_dollar a line o (h a)) e

dollar_plain : (line : ℕ) (a : Node) (g : Stage) → PlainNode a → IsPlain g (Anywhere g) (unary line unary_op.Dollar a g)
dollar_plain line a stage.Function k s new x e = cc
dollar_plain line a stage.Tick k s new x e =
    let r = ran (a.walk stage.Dollar) (Productions.dollar_node line) s x new e in
    let p = k stage.Dollar s r.state r.value r.first in
    (dollar_node_plain line r.value s r.state new x p.0 p.1 r.next, tt)
dollar_plain line a stage.Dollar k s new x e = cc

-- ---- operators before their operands

unary_plain : (line : ℕ) (op : UnaryOp) (a : Node) (g : Stage) → PlainNode a →
    IsPlain g (Anywhere g) (unary line op a g)
unary_plain line unary_op.Plus a g k =
    one_plain a g (Productions.signed_node line unary_op.Plus) k (λ b o. good_signed b line unary_op.Plus o)
unary_plain line unary_op.Minus a g k =
    one_plain a g (Productions.signed_node line unary_op.Minus) k (λ b o. good_signed b line unary_op.Minus o)
unary_plain line unary_op.Complement a g k =
    one_plain a g (Productions.signed_node line unary_op.Complement) k (λ b o. good_signed b line unary_op.Complement o)
unary_plain line unary_op.Not a g k =
    one_plain a g (Productions.signed_node line unary_op.Not) k (λ b o. good_signed b line unary_op.Not o)
unary_plain line unary_op.Star a g k = one_plain a g (Productions.star_node line g) k (λ b o. good_star b line g o)
unary_plain line unary_op.Address a g k =
    bind_plain g (Anywhere g) (Anywhere g) (a.walk g) (Productions.address_node line g) (k g)
    (λ o h. address_plain line g o h)
unary_plain line unary_op.Dollar a g k = dollar_plain line a g k
unary_plain line unary_op.Increment a g k =
    one_plain a g (Productions.step_node line step_op.Increment) k (λ b o. good_step b line step_op.Increment o)
unary_plain line unary_op.Decrement a g k =
    one_plain a g (Productions.step_node line step_op.Decrement) k (λ b o. good_step b line step_op.Decrement o)

-- ---- the walk over an expression with the form of a constant

pub constant_plain : {I S D N P : Type 0} (many : List ℕ)
    (e : Expr-F Shape Node I (Option Node) Item S D Shape N P Named) → GoodParts many e → HasForm e → (g : Stage) →
    IsPlain g (Anywhere g) (walk_rule e g)
constant_plain many (Expr-F.Number n unsigned) h f g =
    pure_plain g (Anywhere g) (nodes.number n unsigned)
    (anywhere g (nodes.number n unsigned) (λ a. good_number a n unsigned))
constant_plain many (Expr-F.Character n) h f g =
    pure_plain g (Anywhere g) (nodes.character n) (anywhere g (nodes.character n) (λ a. good_character a n))
constant_plain many (Expr-F.Expr::Paren a) h f g = h.constant f g
constant_plain many (Expr-F.Unary line op a) h f g = unary_plain line op a g (h.constant f)
constant_plain many (Expr-F.Cast line t a) h f g = cast_plain line t a g h.0 (h.1.constant f)
constant_plain many (Expr-F.Sizeof line t) h f g = size_plain line t g h
constant_plain many (Expr-F.Binary line op ab) h f g =
    binary_plain line op ab.0 ab.1 g (h.0.constant f.0) (h.1.constant f.1)
constant_plain many (Expr-F.Expr::Name line name) h f g = absurd (true_false f)
constant_plain many (Expr-F.String bytes) h f g = absurd (true_false f)
constant_plain many (Expr-F.Compile line a t) h f g = absurd (true_false f)
constant_plain many (Expr-F.Expr::Local line t) h f g = absurd (true_false f)
constant_plain many (Expr-F.Param line t a) h f g = absurd (true_false f)
constant_plain many (Expr-F.Index line ab) h f g = absurd (true_false f)
constant_plain many (Expr-F.Call line c list) h f g = absurd (true_false f)
constant_plain many (Expr-F.Step line op a) h f g = absurd (true_false f)
constant_plain many (Expr-F.Tick line a) h f g = absurd (true_false f)
constant_plain many (Expr-F.TickBlock line items) h f g = absurd (true_false f)
constant_plain many (Expr-F.Choice line c a b) h f g = absurd (true_false f)
constant_plain many (Expr-F.Assign line ab) h f g = absurd (true_false f)
constant_plain many (Expr-F.Modify line op ab) h f g = absurd (true_false f)
constant_plain many (Expr-F.Comma line ab) h f g = absurd (true_false f)
