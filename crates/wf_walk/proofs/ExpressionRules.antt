-- The walk over each node, of good parts, makes an operand that stands right.
use Rattle.std.proofs.Common.{◌≡◌, ℕ, true, List}
use Rattle.tick_tree.specs.declared.base.StepOp.{StepOp}
use Rattle.tick_tree.specs.declared.base.StepOp.TheVariants as step_op
use Rattle.tick_tree.specs.declared.base.UnaryOp.{UnaryOp}
use Rattle.tick_tree.specs.declared.base.UnaryOp.TheVariants as unary_op
use Rattle.tick_tree.specs.Faults.{Checked}
use Rattle.check_operands.specs.declared.operand.Operand.{Operand}
use Rattle.check_operands.specs.Operands as nodes
use Rattle.check_operands.specs.Stages as stages
use Rattle.check_rules.specs.Walks.{◌>>=◌, pure, lift}
use Rattle.check_rules.specs.declared.state.Stage.{Stage}
use Rattle.check_rules.specs.declared.state.Stage.TheVariants as stage
use Rattle.check_rules.specs.Productions as productions
use Rattle.check_rules.specs.ExpressionRules.{Node, Named, both, compile, local, parameter, unary, cast, choice, post}
use Rattle.check_rules.specs.ExpressionRules.{size}
use Rattle.check_rules.specs.ExpressionRules.{comma}
use Rattle.wellformed.specs.Places.{in_function}
use Rattle.wf_nodes.specs.Right.{Unless}
use Rattle.wf_walk.specs.Steps.{Round, at}
use Rattle.wf_walk.specs.Good.{Good, GoodNode, GoodNamed}
use Rattle.wf_walk.proofs.Plain.{plain_keeps, plain_did}
use Rattle.wf_walk.proofs.NodeRules.{good_size}
use Rattle.wf_walk.proofs.Steps.{Goes, implies, then, answers, decides, refuses, by_premise}
use Rattle.wf_walk.proofs.ExpressionNodes.{good_comma, good_choice, good_cast, good_post, good_step, good_star}
use Rattle.wf_walk.proofs.ExpressionNodes.{good_compile, good_local, good_parameter, good_signed}
use Rattle.wf_walk.proofs.Dollar.{dollar_goes, address_goes}

-- an operand stands right at its stage
abbrev pub Right : Stage → Round → Operand → Type 0
Right g r o = Good (at g r) o

pub part : {many : List ℕ} (n : Node) (g : Stage) → GoodNode many n → Goes many g (Right g) (n.walk g)
part n g h = record { keeps = h.keeps g; does = h.does g }

abbrev Any : {A : Type 0} → Round → A → Type 0
Any r x = Unit {0}

pub named_part : {many : List ℕ} (t : Named) (line : ℕ) (g : Stage) → GoodNamed t → Goes many g Any (t.walk line g)
named_part t line g h = record {
  keeps = λ s new x e. plain_keeps (h line g s new x e);
  does = λ b ks s new x known e. plain_did (λ r. Unit {0}) (h line g s new x e) known (λ r. tt);
}

-- a node's own rule, by what is known of its parts
rule : {many : List ℕ} {g : Stage} (P : Round → Type 0) (c : Checked Operand) →
    ((r : Round) → in_function r.function ≡ true → P r → Unless (Good (at g r)) c) →
    Goes many g (λ r o. P r → Good (at g r) o) (lift c)
rule {g = g} P c h = decides (λ r o. P r → Good (at g r) o) c (λ r f. by_premise (P r) (Good (at g r)) c (h r f))

-- ---- two parts

abbrev Both : Stage → Round → Operand × Operand → Type 0
Both g r p = Right g r p.0 × Right g r p.1

both_go : {many : List ℕ} (a b : Node) (g : Stage) → GoodNode many a → GoodNode many b →
    Goes many g (Both g) (both a b g)
both_go a b g h k =
    then (Right g) (Both g) (a.walk g) (λ x. b.walk g >>= (λ y. pure (x, y))) (part a g h)
    (λ x. then (Right g) (λ r p. Right g r x → Both g r p) (b.walk g) (λ y. pure (x, y)) (part b g k)
    (λ y. answers (λ r p. Right g r y → Right g r x → Both g r p) (x, y) (λ r q p. (p, q))))

pub two : {many : List ℕ} (a b : Node) (g : Stage) (f : Operand → Operand → Checked Operand) → GoodNode many a →
    GoodNode many b → ((r : Round) (x y : Operand) → Right g r x → Right g r y → Unless (Right g r) (f x y)) →
    Goes many g (Right g) (both a b g >>= (λ p. lift (f p.0 p.1)))
two a b g f h k rules =
    then (Both g) (Right g) (both a b g) (λ p. lift (f p.0 p.1)) (both_go a b g h k)
    (λ p. rule (λ r. Both g r p) (f p.0 p.1) (λ r i q. rules r p.0 p.1 q.0 q.1))

pub comma_goes : {many : List ℕ} (a b : Node) (g : Stage) → GoodNode many a → GoodNode many b →
    Goes many g (Right g) (comma a b g)
comma_goes a b g h k =
    then (Both g) (Right g) (both a b g) (λ p. pure (productions.comma_node p.0 p.1)) (both_go a b g h k)
    (λ p. answers (λ r o. Both g r p → Right g r o) (productions.comma_node p.0 p.1)
    (λ r q. good_comma (at g r) p.0 p.1 q.0 q.1))

pub choice_goes : {many : List ℕ} (line : ℕ) (c a b : Node) (g : Stage) → GoodNode many c → GoodNode many a →
    GoodNode many b → Goes many g (Right g) (choice line c a b g)
choice_goes line c a b g l h k =
    then (Right g) (Right g) (c.walk g) (λ x. both a b g >>= (λ p. lift (productions.choice_node line x p.0 p.1)))
    (part c g l)
    (λ x. then (Both g) (λ r o. Right g r x → Right g r o) (both a b g)
    (λ p. lift (productions.choice_node line x p.0 p.1)) (both_go a b g h k)
    (λ p. decides (λ r o. Both g r p → Right g r x → Right g r o) (productions.choice_node line x p.0 p.1)
    (λ r i. by_premise (Both g r p) (λ o. Right g r x → Right g r o) (productions.choice_node line x p.0 p.1)
    (λ q. by_premise (Right g r x) (Right g r) (productions.choice_node line x p.0 p.1)
    (λ w. good_choice (at g r) line x p.0 p.1 w q.0 q.1)))))

-- ---- one part

one : {many : List ℕ} (a : Node) (g : Stage) (f : Operand → Checked Operand) → GoodNode many a →
    ((r : Round) (x : Operand) → Right g r x → Unless (Right g r) (f x)) →
    Goes many g (Right g) (a.walk g >>= (λ o. lift (f o)))
one a g f h rules = then (Right g) (Right g) (a.walk g) (λ o. lift (f o)) (part a g h)
    (λ o. rule (λ r. Right g r o) (f o) (λ r i q. rules r o q))

pub post_goes : {many : List ℕ} (line : ℕ) (op : StepOp) (a : Node) (g : Stage) → GoodNode many a →
    Goes many g (Right g) (post line op a g)
post_goes line op a g h = one a g (productions.post_node line op) h (λ r o q. good_post (at g r) line op o q)

pub size_goes : {many : List ℕ} (line : ℕ) (t : Named) (g : Stage) → GoodNamed t → Goes many g (Right g) (size line t g)
size_goes line t g h =
    then Any (Right g) (t.walk line g) (λ ty. lift (nodes.size line ty)) (named_part t line g h)
    (λ ty. rule (λ r. Unit {0}) (nodes.size line ty) (λ r i q. good_size (at g r) line ty))

pub cast_goes : {many : List ℕ} (line : ℕ) (t : Named) (a : Node) (g : Stage) → GoodNamed t → GoodNode many a →
    Goes many g (Right g) (cast line t a g)
cast_goes line t a g h k =
    then Any (Right g) (t.walk line g) (λ ty. a.walk g >>= (λ o. lift (productions.cast_node line ty o)))
    (named_part t line g h)
    (λ ty. implies (Right g) (λ r o. Unit {0} → Right g r o)
    (a.walk g >>= (λ o. lift (productions.cast_node line ty o)))
    (one a g (productions.cast_node line ty) k (λ r o q. good_cast (at g r) line ty o q)) (λ r x q u. q))

own : {many : List ℕ} (line : ℕ) (op : UnaryOp) (a : Node) (g : Stage) → GoodNode many a →
    ((o : Operand) → Goes many g (λ r x. Right g r o → Right g r x) (productions.unary_node line op g o)) →
    Goes many g (Right g) (a.walk g >>= productions.unary_node line op g)
own line op a g h k = then (Right g) (Right g) (a.walk g) (productions.unary_node line op g) (part a g h) k

signed : {many : List ℕ} (line : ℕ) (op : UnaryOp) (g : Stage) (o : Operand) →
    Goes many g (λ r x. Right g r o → Right g r x) (lift (productions.signed_node line op o))
signed line op g o = rule (λ r. Right g r o) (productions.signed_node line op o)
    (λ r i q. good_signed (at g r) line op o q)

step : {many : List ℕ} (line : ℕ) (op : StepOp) (g : Stage) (o : Operand) →
    Goes many g (λ r x. Right g r o → Right g r x) (lift (productions.step_node line op o))
step line op g o = rule (λ r. Right g r o) (productions.step_node line op o) (λ r i q. good_step (at g r) line op o q)

dollar : {many : List ℕ} (line : ℕ) (a : Node) (g : Stage) → GoodNode many a →
    Goes many g (Right g) (unary line unary_op.Dollar a g)
dollar line a stage.Function h = refuses (Right stage.Function) _
dollar line a stage.Tick h = dollar_goes line (a.walk stage.Dollar) (part a stage.Dollar h)
dollar line a stage.Dollar h = refuses (Right stage.Dollar) _

pub unary_goes : {many : List ℕ} (line : ℕ) (op : UnaryOp) (a : Node) (g : Stage) → GoodNode many a →
    Goes many g (Right g) (unary line op a g)
unary_goes line unary_op.Plus a g h = own line unary_op.Plus a g h (λ o. signed line unary_op.Plus g o)
unary_goes line unary_op.Minus a g h = own line unary_op.Minus a g h (λ o. signed line unary_op.Minus g o)
unary_goes line unary_op.Complement a g h =
    own line unary_op.Complement a g h (λ o. signed line unary_op.Complement g o)
unary_goes line unary_op.Not a g h = own line unary_op.Not a g h (λ o. signed line unary_op.Not g o)
unary_goes line unary_op.Star a g h =
    own line unary_op.Star a g h
    (λ o. rule (λ r. Right g r o) (productions.star_node line g o) (λ r i q. good_star (at g r) line g o q))
unary_goes line unary_op.Address a g h = own line unary_op.Address a g h (λ o. address_goes line g o)
unary_goes line unary_op.Dollar a g h = dollar line a g h
unary_goes line unary_op.Increment a g h = own line unary_op.Increment a g h (λ o. step line step_op.Increment g o)
unary_goes line unary_op.Decrement a g h = own line unary_op.Decrement a g h (λ o. step line step_op.Decrement g o)

-- ---- specifications, which functions alone make

pub compile_goes : {many : List ℕ} (line : ℕ) (a : Node) (t : Named) (g : Stage) → GoodNode many a → GoodNamed t →
    Goes many g (Right g) (compile line a t g)
compile_goes line a t stage.Function h k =
    then (Right stage.Function) (Right stage.Function) (a.walk stage.Function)
    (λ o. t.walk line stage.Function >>= (λ ty. lift (productions.compile_node line ty o))) (part a stage.Function h)
    (λ o. then Any (λ r x. Right stage.Function r o → Right stage.Function r x) (t.walk line stage.Function)
    (λ ty. lift (productions.compile_node line ty o)) (named_part t line stage.Function k)
    (λ ty. implies (λ r x. Right stage.Function r o → Right stage.Function r x)
    (λ r x. Unit {0} → Right stage.Function r o → Right stage.Function r x)
    (lift (productions.compile_node line ty o))
    (rule (λ r. Right stage.Function r o) (productions.compile_node line ty o)
    (λ r i q. good_compile r.function line ty o i q)) (λ r x q u. q)))
compile_goes line a t stage.Tick h k = refuses (Right stage.Tick) _
compile_goes line a t stage.Dollar h k = refuses (Right stage.Dollar) _

pub local_goes : {many : List ℕ} (line : ℕ) (t : Named) (g : Stage) → GoodNamed t →
    Goes many g (Right g) (local line t g)
local_goes line t stage.Function k =
    then Any (Right stage.Function) (t.walk line stage.Function) (λ ty. lift (stages.local line ty))
    (named_part t line stage.Function k)
    (λ ty. rule (λ r. Unit {0}) (stages.local line ty) (λ r i q. good_local r.function line ty i))
local_goes line t stage.Tick k = refuses (Right stage.Tick) _
local_goes line t stage.Dollar k = refuses (Right stage.Dollar) _

pub parameter_goes : {many : List ℕ} (line : ℕ) (t : Named) (a : Node) (g : Stage) → GoodNamed t → GoodNode many a →
    Goes many g (Right g) (parameter line t a g)
parameter_goes line t a stage.Function k h =
    then Any (Right stage.Function) (t.walk line stage.Function)
    (λ ty. a.walk stage.Function >>= (λ o. lift (productions.parameter_node line ty o)))
    (named_part t line stage.Function k)
    (λ ty. implies (Right stage.Function) (λ r x. Unit {0} → Right stage.Function r x)
    (a.walk stage.Function >>= (λ o. lift (productions.parameter_node line ty o)))
    (then (Right stage.Function) (Right stage.Function) (a.walk stage.Function)
    (λ o. lift (productions.parameter_node line ty o)) (part a stage.Function h)
    (λ o. rule (λ r. Right stage.Function r o) (productions.parameter_node line ty o)
    (λ r i q. good_parameter r.function line ty o i q))) (λ r x q u. q))
parameter_goes line t a stage.Tick k h = refuses (Right stage.Tick) _
parameter_goes line t a stage.Dollar k h = refuses (Right stage.Dollar) _
