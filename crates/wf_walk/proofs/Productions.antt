-- What the walk over an expression keeps, where the walks over its parts keep it.
use Rattle.std.proofs.Common.{◌≡◌, ℕ, List, [], ◌∷◌, ◌++◌, ap, Option, Some, None, Ok, Err}
use Rattle.c_types.specs.declared.ctype.CType.{CType}
use Rattle.tick_tree.specs.declared.base.StepOp.{StepOp}
use Rattle.tick_tree.specs.declared.base.UnaryOp.{UnaryOp}
use Rattle.tick_tree.specs.declared.base.UnaryOp.TheVariants as unary_op
use Rattle.tick_tree.specs.Faults.{Checked, ◌>>=◌ as ◌>>>=◌}
use Rattle.tick_tree.specs.declared.syntax.Core.TheOpen.{Expr-F}
use Rattle.typed_tree.specs.declared.expression.CaptureKind.TheVariants as capture
use Rattle.typed_tree.specs.declared.expression.Stmt.{Stmt}
use Rattle.typed_tree.specs.declared.program.TickBody.TheVariants as body
use Rattle.check_operands.specs.declared.operand.Operand.{Operand}
use Rattle.check_operands.specs.declared.operand.Place.{Place}
use Rattle.check_operands.specs.declared.operand.Place.TheVariants as place
use Rattle.check_operands.specs.declared.operand.Value.{Value}
use Rattle.check_operands.specs.Operands as nodes
use Rattle.check_operands.specs.Operands.{value_of}
use Rattle.check_operands.specs.Stages as stages
use Rattle.check_operands.specs.declared.arguments.Arguments.{Arguments}
use Rattle.check_operands.specs.Calls as calls
use Rattle.check_operands.specs.Places as places
use Rattle.check_rules.specs.Walks.{◌>>=◌, pure, lift}
use Rattle.check_rules.specs.Ticks as ticks
use Rattle.check_rules.specs.declared.state.Stage.{Stage}
use Rattle.check_rules.specs.declared.state.Stage.TheVariants as stage
use Rattle.check_rules.specs.declared.state.State.{State}
use Rattle.check_rules.specs.Entries.{staging_entry}
use Rattle.check_rules.specs.Productions
use Rattle.check_rules.specs.ExpressionRules.{Node, Named, Shape, Item, block, tick_around, both, arguments, library_of}
use Rattle.check_rules.specs.ExpressionRules.{library_call, plain_call, call_of, call, tick_expression, tick_block}
use Rattle.check_rules.specs.ExpressionRules.{compile}
use Rattle.check_rules.specs.ExpressionRules.{local, parameter, unary, cast, choice, post, size, comma, walk_rule}
use Rattle.wf_walk.specs.Kept.{Keeps, Grows, IsKeeping}
use Rattle.wf_walk.specs.Good.{GoodNode, GoodNamed}
use Rattle.wf_walk.specs.Items.{KeepsBlock, GoodBlock}
use Rattle.wf_walk.specs.Parts.{EachPart, GoodParts}
use Rattle.wf_walk.proofs.Walks.{ran}
use Rattle.wf_walk.proofs.Keeps.{keeps_refl, keeps_more, keeps_dollar, pure_keeps, lift_keeps, bind_keeps}
use Rattle.wf_walk.proofs.Names.{gives_keeps, captured_keeps, addressed_keeps, string_keeps, named_keeps, tick_keeps}
use Rattle.wf_walk.proofs.Plain.{plain_keeps}

abbrev KeepsNode : Node → Type 0
KeepsNode n = (g : Stage) → IsKeeping g (n.walk g)

abbrev KeepsNamed : Named → Type 0
KeepsNamed t = (line : ℕ) (g : Stage) → IsKeeping g (t.walk line g)

pub named_part : (t : Named) → GoodNamed t → KeepsNamed t
named_part t h line g s new x e = plain_keeps (h line g s new x e)

-- ---- several parts

both_keeps : (a b : Node) (g : Stage) → KeepsNode a → KeepsNode b → IsKeeping g (both a b g)
both_keeps a b g h k =
    bind_keeps g (a.walk g) (λ x. b.walk g >>= (λ y. pure (x, y))) (h g)
    (λ x. bind_keeps g (b.walk g) (λ y. pure (x, y)) (k g) (λ y. pure_keeps g (x, y)))

-- two parts, and a rule of their node
both_node : (a b : Node) (g : Stage) (f : Operand → Operand → Checked Operand) → KeepsNode a → KeepsNode b →
    IsKeeping g (both a b g >>= (λ p. lift (f p.0 p.1)))
both_node a b g f h k = bind_keeps g (both a b g) (λ p. lift (f p.0 p.1)) (both_keeps a b g h k)
    (λ p. lift_keeps g (f p.0 p.1))

arguments_keeps : (many : List ℕ) (list : List Node) (xs : Arguments) (g : Stage) → EachPart (GoodNode many) list →
    IsKeeping g (arguments list xs g)
arguments_keeps many [] xs g h = pure_keeps g xs
arguments_keeps many (a ∷ rest) xs g h =
    bind_keeps g (a.walk g) (λ x. arguments rest (Productions.argument xs x) g) (h.0.keeps g)
    (λ x. arguments_keeps many rest (Productions.argument xs x) g h.1)

-- ---- calls

library_call_keeps : (many : List ℕ) (line n : ℕ) (t : CType) (list : List Node) (g : Stage) →
    EachPart (GoodNode many) list → IsKeeping g (library_call line n t list g)
library_call_keeps many line n t list g h =
    bind_keeps g (arguments list calls.no_arguments g) (λ xs. lift (calls.library line n t xs))
    (arguments_keeps many list calls.no_arguments g h)
    (λ xs. lift_keeps g (calls.library line n t xs))

plain_call_keeps : (many : List ℕ) (line : ℕ) (f : Node) (list : List Node) (g : Stage) → KeepsNode f →
    EachPart (GoodNode many) list → IsKeeping g (plain_call line f list g)
plain_call_keeps many line f list g k h =
    bind_keeps g (f.walk g) (λ o. arguments list calls.no_arguments g >>=
    (λ xs. lift (Productions.call_node line g o xs))) (k g)
    (λ o. bind_keeps g (arguments list calls.no_arguments g) (λ xs. lift (Productions.call_node line g o xs))
    (arguments_keeps many list calls.no_arguments g h)
    (λ xs. lift_keeps g (Productions.call_node line g o xs)))

call_of_keeps : (many : List ℕ) (line : ℕ) (f : Node) (list : List Node) (g : Stage) (l : Option (ℕ × CType)) →
    KeepsNode f → EachPart (GoodNode many) list → IsKeeping g (call_of line f list g l)
call_of_keeps many line f list g (Some l) k h = library_call_keeps many line l.0 l.1 list g h
call_of_keeps many line f list g None k h = plain_call_keeps many line f list g k h

call_keeps : (many : List ℕ) (line : ℕ) (f : Node) (list : List Node) (g : Stage) → KeepsNode f →
    EachPart (GoodNode many) list → IsKeeping g (call line f list g)
call_keeps many line f list g k h s new x e =
    call_of_keeps many line f list g (library_of f.written.name s) k h s new x e

-- ---- specifications

tick_expression_keeps : (line : ℕ) (a : Node) (g : Stage) → KeepsNode a → IsKeeping g (tick_expression line a g)
unfolding Productions.tick_expression
tick_expression_keeps line a stage.Function k s new x e =
    let r = ran (a.walk stage.Tick) (λ o z. Ok (Productions.tick_expression o z)) (Productions.tick_entered s) x new e
    in
    gives_keeps stage.Function s new (Productions.tick_expression r.value r.state) x r.next
    (tick_keeps (body.Expression (value_of r.value).code) (stages.specification (value_of r.value).ctype) s r.state
    (k stage.Tick _ _ _ r.first))
tick_expression_keeps line a stage.Tick k s new x e = cc
tick_expression_keeps line a stage.Dollar k s new x e = cc

block_keeps : (b : Stmt) (s z : State) → Grows stage.Tick (Productions.tick_entered s) z →
    KeepsBlock (Productions.tick_entered s) z → Keeps stage.Function s (Productions.tick_block b z).1
block_keeps b s z h k = record {
  tables = record {
    scopes = k.scopes;
    result = h.tables.result;
    homes = h.at.homes;
    nodes = k.nodes;
    object = h.at.object;
    labels = k.labels;
    functions = h.tables.functions;
    image = record { end = h.tables.image.end; globals = h.tables.image.globals; at = h.tables.image.at };
  };
  at = record {
    rest = ticks.tick_of (body.Statement b) ∷ [];
    is =
        ap (λ l. l ++ ticks.tick_of (body.Statement b) ∷ []) h.at.ticks;
  };
}

tick_block_keeps : (many : List ℕ) (line : ℕ) (items : List Item) (g : Stage) →
    GoodBlock many tick_around (block items tick_around) → IsKeeping g (tick_block line items g)
tick_block_keeps many line items stage.Function k s new x e =
    let r = ran (block items tick_around) (λ b z. Ok (Productions.tick_block b z)) (Productions.tick_entered s) x new e
    in
    gives_keeps stage.Function s new (Productions.tick_block r.value r.state) x r.next
    (block_keeps r.value s r.state (k.grows _ _ _ r.first) (k.keeps _ _ _ r.first))
tick_block_keeps many line items stage.Tick k s new x e = cc
tick_block_keeps many line items stage.Dollar k s new x e = cc

compile_keeps : (line : ℕ) (a : Node) (t : Named) (g : Stage) → KeepsNode a → KeepsNamed t →
    IsKeeping g (compile line a t g)
compile_keeps line a t g h k =
    bind_keeps g (lift (staging_entry line g))
    (λ u. a.walk g >>= (λ o. t.walk line g >>= (λ ty. lift (Productions.compile_node line ty o))))
    (lift_keeps g (staging_entry line g))
    (λ u. bind_keeps g (a.walk g) (λ o. t.walk line g >>= (λ ty. lift (Productions.compile_node line ty o))) (h g)
    (λ o. bind_keeps g (t.walk line g) (λ ty. lift (Productions.compile_node line ty o)) (k line g)
    (λ ty. lift_keeps g (Productions.compile_node line ty o))))

local_keeps : (line : ℕ) (t : Named) (g : Stage) → KeepsNamed t → IsKeeping g (local line t g)
local_keeps line t g k =
    bind_keeps g (lift (staging_entry line g)) (λ u. t.walk line g >>= (λ ty. lift (stages.local line ty)))
    (lift_keeps g (staging_entry line g))
    (λ u. bind_keeps g (t.walk line g) (λ ty. lift (stages.local line ty)) (k line g)
    (λ ty. lift_keeps g (stages.local line ty)))

parameter_keeps : (line : ℕ) (t : Named) (a : Node) (g : Stage) → KeepsNamed t → KeepsNode a →
    IsKeeping g (parameter line t a g)
parameter_keeps line t a g k h =
    bind_keeps g (lift (staging_entry line g))
    (λ u. t.walk line g >>= (λ ty. a.walk g >>= (λ o. lift (Productions.parameter_node line ty o))))
    (lift_keeps g (staging_entry line g))
    (λ u. bind_keeps g (t.walk line g) (λ ty. a.walk g >>= (λ o. lift (Productions.parameter_node line ty o)))
    (k line g)
    (λ ty. bind_keeps g (a.walk g) (λ o. lift (Productions.parameter_node line ty o)) (h g)
    (λ o. lift_keeps g (Productions.parameter_node line ty o))))

-- ---- one part

address_by_keeps : (g : Stage) (line : ℕ) (t : CType) (p : Place) → IsKeeping g (Productions.address_by line t p)
address_by_keeps g line t (place.Value e) s new x h = cc
address_by_keeps g line t (place.Register i) s new x h = gives_keeps g s new _ x h (addressed_keeps g i s)
address_by_keeps g line t (place.Generated i) s new x h = cc
address_by_keeps g line t (place.Memory a) s new x h = gives_keeps g s new _ x h (keeps_refl g s)
address_by_keeps g line t (place.Function f) s new x h = cc

address_keeps : (line : ℕ) (g : Stage) (o : Operand) → IsKeeping g (Productions.address_node line g o)
unfolding Productions.address_node
address_keeps line stage.Function o s new x e = address_by_keeps stage.Function line o.ctype o.place s new x e
address_keeps line stage.Tick o s new x e = lift_keeps stage.Tick (places.address line o) s new x e
address_keeps line stage.Dollar o s new x e = address_by_keeps stage.Dollar line o.ctype o.place s new x e

dollar_by_keeps : (r : Checked Value) (s new : State) (x : Operand) →
    ◌≡◌ {A = Checked (Operand × State)} (r >>>= (λ v. Ok (Productions.dollar_by v s))) (Ok (x, new)) →
    Keeps stage.Tick s new
dollar_by_keeps (Ok v) s new x e =
    gives_keeps stage.Tick s new (Productions.dollar_by v s) x e (captured_keeps capture.Dollar v.code s)
dollar_by_keeps (Err f) s new x e = cc

dollar_node_keeps : (line : ℕ) (o : Operand) → IsKeeping stage.Tick (Productions.dollar_node line o)
unfolding Productions.dollar_node
dollar_node_keeps line o s new x e = dollar_by_keeps (stages.dollar line (value_of o)) s new x e

dollar_keeps : (line : ℕ) (a : Node) (g : Stage) → KeepsNode a → IsKeeping g (unary line unary_op.Dollar a g)
dollar_keeps line a stage.Function k s new x e = cc
dollar_keeps line a stage.Tick k s new x e =
    let r = ran (a.walk stage.Dollar) (Productions.dollar_node line) s x new e in
    keeps_more (keeps_dollar (k stage.Dollar _ _ _ r.first)) (dollar_node_keeps line r.value _ _ _ r.next)
dollar_keeps line a stage.Dollar k s new x e = cc

-- an operator whose operand is at its own stage
own_stage : (line : ℕ) (op : UnaryOp) (a : Node) (g : Stage) → KeepsNode a →
    ((o : Operand) → IsKeeping g (Productions.unary_node line op g o)) →
    IsKeeping g (a.walk g >>= Productions.unary_node line op g)
own_stage line op a g k h = bind_keeps g (a.walk g) (Productions.unary_node line op g) (k g) h

unary_keeps : (line : ℕ) (op : UnaryOp) (a : Node) (g : Stage) → KeepsNode a → IsKeeping g (unary line op a g)
unary_keeps line unary_op.Plus a g k =
    own_stage line unary_op.Plus a g k (λ o. lift_keeps g (Productions.signed_node line unary_op.Plus o))
unary_keeps line unary_op.Minus a g k =
    own_stage line unary_op.Minus a g k (λ o. lift_keeps g (Productions.signed_node line unary_op.Minus o))
unary_keeps line unary_op.Complement a g k =
    own_stage line unary_op.Complement a g k (λ o. lift_keeps g (Productions.signed_node line unary_op.Complement o))
unary_keeps line unary_op.Not a g k =
    own_stage line unary_op.Not a g k (λ o. lift_keeps g (Productions.signed_node line unary_op.Not o))
unary_keeps line unary_op.Star a g k =
    own_stage line unary_op.Star a g k (λ o. lift_keeps g (Productions.star_node line g o))
unary_keeps line unary_op.Address a g k = own_stage line unary_op.Address a g k (λ o. address_keeps line g o)
unary_keeps line unary_op.Dollar a g k = dollar_keeps line a g k
unary_keeps line unary_op.Increment a g k = own_stage line unary_op.Increment a g k (λ o. lift_keeps g _)
unary_keeps line unary_op.Decrement a g k = own_stage line unary_op.Decrement a g k (λ o. lift_keeps g _)

cast_keeps : (line : ℕ) (t : Named) (a : Node) (g : Stage) → KeepsNamed t → KeepsNode a → IsKeeping g (cast line t a g)
cast_keeps line t a g k h =
    bind_keeps g (t.walk line g) (λ ty. a.walk g >>= (λ o. lift (Productions.cast_node line ty o))) (k line g)
    (λ ty. bind_keeps g (a.walk g) (λ o. lift (Productions.cast_node line ty o)) (h g)
    (λ o. lift_keeps g (Productions.cast_node line ty o)))

size_keeps : (line : ℕ) (t : Named) (g : Stage) → KeepsNamed t → IsKeeping g (size line t g)
size_keeps line t g k = bind_keeps g (t.walk line g) (λ ty. lift (nodes.size line ty)) (k line g)
    (λ ty. lift_keeps g (nodes.size line ty))

post_keeps : (line : ℕ) (op : StepOp) (a : Node) (g : Stage) → KeepsNode a → IsKeeping g (post line op a g)
post_keeps line op a g k =
    bind_keeps g (a.walk g) (λ o. lift (Productions.post_node line op o)) (k g)
    (λ o. lift_keeps g (Productions.post_node line op o))

choice_keeps : (line : ℕ) (c a b : Node) (g : Stage) → KeepsNode c → KeepsNode a → KeepsNode b →
    IsKeeping g (choice line c a b g)
choice_keeps line c a b g j h k =
    bind_keeps g (c.walk g) (λ x. both a b g >>= (λ p. lift (Productions.choice_node line x p.0 p.1))) (j g)
    (λ x. both_node a b g (Productions.choice_node line x) h k)

comma_keeps : (a b : Node) (g : Stage) → KeepsNode a → KeepsNode b → IsKeeping g (comma a b g)
comma_keeps a b g h k = bind_keeps g (both a b g) (λ p. pure (Productions.comma_node p.0 p.1)) (both_keeps a b g h k)
    (λ p. pure_keeps g (Productions.comma_node p.0 p.1))

-- ---- the walk over a node

pub walk_keeps : {I S D N P : Type 0} (many : List ℕ) (e : Expr-F Shape Node I (Option Node) Item S D Shape N P Named) →
    GoodParts many e → (g : Stage) → IsKeeping g (walk_rule e g)
walk_keeps many (Expr-F.Expr::Name line name) h g = named_keeps line g name
walk_keeps many (Expr-F.Number n unsigned) h g = pure_keeps g (nodes.number n unsigned)
walk_keeps many (Expr-F.Character n) h g = pure_keeps g (nodes.character n)
walk_keeps many (Expr-F.String bytes) h g = λ s new x e. gives_keeps g s new _ x e (string_keeps g bytes s)
walk_keeps many (Expr-F.Expr::Paren a) h g = h.keeps g
walk_keeps many (Expr-F.Compile line a t) h g = compile_keeps line a t g h.0.keeps (named_part t h.1)
walk_keeps many (Expr-F.Expr::Local line t) h g = local_keeps line t g (named_part t h)
walk_keeps many (Expr-F.Param line t a) h g = parameter_keeps line t a g (named_part t h.0) h.1.keeps
walk_keeps many (Expr-F.Index line ab) h g = both_node ab.0 ab.1 g (Productions.index_node line g) h.0.keeps h.1.keeps
walk_keeps many (Expr-F.Call line f list) h g = call_keeps many line f list g h.0.keeps h.1
walk_keeps many (Expr-F.Step line op a) h g = post_keeps line op a g h.keeps
walk_keeps many (Expr-F.Unary line op a) h g = unary_keeps line op a g h.keeps
walk_keeps many (Expr-F.Tick line a) h g = tick_expression_keeps line a g h.0.keeps
walk_keeps many (Expr-F.TickBlock line items) h g = tick_block_keeps many line items g h.0
walk_keeps many (Expr-F.Cast line t a) h g = cast_keeps line t a g (named_part t h.0) h.1.keeps
walk_keeps many (Expr-F.Sizeof line t) h g = size_keeps line t g (named_part t h)
walk_keeps many (Expr-F.Binary line op ab) h g =
    both_node ab.0 ab.1 g (Productions.binary_node line op) h.0.keeps h.1.keeps
walk_keeps many (Expr-F.Choice line c a b) h g = choice_keeps line c a b g h.0.keeps h.1.keeps h.2.keeps
walk_keeps many (Expr-F.Assign line ab) h g = both_node ab.0 ab.1 g (Productions.assign_node line) h.0.keeps h.1.keeps
walk_keeps many (Expr-F.Modify line op ab) h g =
    both_node ab.0 ab.1 g (Productions.modify_node line op) h.0.keeps h.1.keeps
walk_keeps many (Expr-F.Comma line ab) h g = comma_keeps ab.0 ab.1 g h.0.keeps h.1.keeps
