-- What the walk over an expression makes grow, by its parts.
use Rattle.std.proofs.Common.{ℕ, ◌+◌, List, [], ◌∷◌, Option, Some, None, Ok, arith}
use Rattle.c_types.specs.declared.ctype.CType.{CType}
use Rattle.tick_tree.specs.declared.base.BinaryOp.{BinaryOp}
use Rattle.tick_tree.specs.declared.base.ModifyOp.{ModifyOp}
use Rattle.tick_tree.specs.declared.base.StepOp.{StepOp}
use Rattle.tick_tree.specs.declared.base.UnaryOp.{UnaryOp}
use Rattle.typed_tree.specs.declared.expression.Stmt.{Stmt}
use Rattle.check_operands.specs.declared.arguments.Arguments.{Arguments}
use Rattle.check_operands.specs.Calls as calls
use Rattle.check_rules.specs.declared.state.Around.{Around}
use Rattle.check_rules.specs.declared.state.Stage.{Stage}
use Rattle.check_rules.specs.declared.state.Stage.TheVariants as stage
use Rattle.check_rules.specs.declared.state.State.{State}
use Rattle.check_rules.specs.Blocks.{depth, enter, leave}
use Rattle.check_rules.specs.Walks.{Rule, ◌>>=◌, pure}
use Rattle.check_rules.specs.Productions as productions
use Rattle.check_rules.specs.ExpressionRules as rules
use Rattle.check_rules.specs.ExpressionRules.{Node, Named, Item}
use Rattle.wf_growth_rules.specs.Light.{Bounded, LightNode, LightNamed, LightItem, Each, none, more}
use Rattle.wf_growth_rules.proofs.Walks.{weak, by_after, after, pure_light, lift_light, bind_light, light_first}
use Rattle.wf_growth_rules.proofs.States.{depth_light, enter_light, leave_light, string_node_light, entered_light}
use Rattle.wf_growth_rules.proofs.States.{expression_light, left_light, unary_node_light}

-- ---- several parts

pub both_light : {v w : ℕ} (a b : Node) (g : Stage) → LightNode v a → LightNode w b → Bounded (v + w) (rules.both a b g)
both_light a b g h k = weak _ (bind_light (h.at g) (λ x. bind_light (k.at g) (λ y. pure_light (x, y)))) (omega arith)

pub arguments_light : (list : List Node) {w : ℕ} (xs : Arguments) (g : Stage) → Each LightNode w list →
    Bounded w (rules.arguments list xs g)
arguments_light [] xs g none = pure_light xs
arguments_light (n ∷ ns) xs g (more h hs) =
    bind_light (h.at g) (λ x. arguments_light ns (productions.argument xs x) g hs)

pub each_light : (items : List Item) {w : ℕ} (a : Around) → Each LightItem w items → Bounded w (rules.each items a)
each_light [] a none = pure_light []
each_light (i ∷ is) a (more h hs) =
    weak _ (bind_light (h.at a) (λ x. bind_light (each_light is a hs) (λ xs. pure_light _))) (omega arith)

-- what stands in a scope of its own
pub scope_light : {A B : Type 0} {w : ℕ} {r : Rule State A} (f : A → List Stmt → B) → Bounded w r →
    Bounded w (depth >>= (λ n. enter >>= (λ outer. r >>= (λ xs. leave n outer >>= (λ vs. pure (f xs vs))))))
scope_light f b = weak _ (bind_light depth_light
    (λ n. bind_light enter_light
    (λ outer. bind_light b (λ xs. bind_light (leave_light n outer) (λ vs. pure_light (f xs vs)))))) (omega arith)

pub block_light : {w : ℕ} (items : List Item) (a : Around) → Each LightItem w items → Bounded w (rules.block items a)
block_light items a h = scope_light _ (each_light items a h)

-- ---- calls

call_of_light : {v w : ℕ} (line : ℕ) (f : Node) (list : List Node) (g : Stage) (l : Option (ℕ × CType)) →
    LightNode v f → Each LightNode w list → Bounded (v + w) (rules.call_of line f list g l)
call_of_light line f list g (Some l) h hs =
    weak _ (bind_light (arguments_light list calls.no_arguments g hs) (λ xs. lift_light _)) (omega arith)
call_of_light line f list g None h hs =
    weak _ (bind_light (h.at g) (λ o. bind_light (arguments_light list calls.no_arguments g hs) (λ xs. lift_light _)))
    (omega arith)

pub call_light : {v w : ℕ} (line : ℕ) (f : Node) (list : List Node) (g : Stage) → LightNode v f →
    Each LightNode w list → Bounded (1 + (v + w)) (rules.call line f list g)
call_light line f list g h hs =
    weak _ (by_after (λ s. after (call_of_light line f list g (rules.library_of f.written.name s) h hs) s))
    (omega arith)

-- ---- specifications

pub tick_light : {w : ℕ} (line : ℕ) (a : Node) (g : Stage) → LightNode w a →
    Bounded (1 + w) (rules.tick_expression line a g)
tick_light line a g h = weak _
    (bind_light (lift_light _)
    (λ u. light_first productions.tick_entered entered_light (bind_light (h.at stage.Tick) expression_light)))
    (omega arith)

pub tick_block_light : {w : ℕ} (line : ℕ) (items : List Item) (g : Stage) → Each LightItem w items →
    Bounded (1 + w) (rules.tick_block line items g)
tick_block_light line items g h =
    weak _ (bind_light (lift_light _)
    (λ u. light_first productions.tick_entered entered_light
    (bind_light (block_light items rules.tick_around h) left_light))) (omega arith)

pub compile_light : {v w : ℕ} (line : ℕ) (a : Node) (t : Named) (g : Stage) → LightNode v a → LightNamed w t →
    Bounded (1 + (v + w)) (rules.compile line a t g)
compile_light line a t g h k =
    weak _ (bind_light (lift_light _) (λ u. bind_light (h.at g) (λ o. bind_light (k.at line g) (λ ty. lift_light _))))
    (omega arith)

pub local_light : {w : ℕ} (line : ℕ) (t : Named) (g : Stage) → LightNamed w t → Bounded (1 + w) (rules.local line t g)
local_light line t g k = weak _ (bind_light (lift_light _) (λ u. bind_light (k.at line g) (λ ty. lift_light _)))
    (omega arith)

pub parameter_light : {v w : ℕ} (line : ℕ) (t : Named) (a : Node) (g : Stage) → LightNamed v t → LightNode w a →
    Bounded (1 + (v + w)) (rules.parameter line t a g)
parameter_light line t a g k h =
    weak _ (bind_light (lift_light _) (λ u. bind_light (k.at line g) (λ ty. bind_light (h.at g) (λ o. lift_light _))))
    (omega arith)

-- ---- the other nodes

pub unary_light : {w : ℕ} (line : ℕ) (op : UnaryOp) (a : Node) (g : Stage) → LightNode w a →
    Bounded (1 + w) (rules.unary line op a g)
unary_light line op a g h =
    weak _ (bind_light (lift_light _) (λ k. bind_light (h.at k) (λ o. unary_node_light line op g o))) (omega arith)

pub cast_light : {v w : ℕ} (line : ℕ) (t : Named) (a : Node) (g : Stage) → LightNamed v t → LightNode w a →
    Bounded (1 + (v + w)) (rules.cast line t a g)
cast_light line t a g k h =
    weak _ (bind_light (k.at line g) (λ ty. bind_light (h.at g) (λ o. lift_light _))) (omega arith)

pub choice_light : {u v w : ℕ} (line : ℕ) (c a b : Node) (g : Stage) → LightNode u c → LightNode v a → LightNode w b →
    Bounded (1 + (u + (v + w))) (rules.choice line c a b g)
choice_light line c a b g i h k =
    weak _ (bind_light (i.at g) (λ x. bind_light (both_light a b g h k) (λ p. lift_light _))) (omega arith)

pub index_light : {v w : ℕ} (line : ℕ) (a b : Node) (g : Stage) → LightNode v a → LightNode w b →
    Bounded (1 + (v + w)) (rules.index line a b g)
index_light line a b g h k = weak _ (bind_light (both_light a b g h k) (λ p. lift_light _)) (omega arith)

pub post_light : {w : ℕ} (line : ℕ) (op : StepOp) (a : Node) (g : Stage) → LightNode w a →
    Bounded (1 + w) (rules.post line op a g)
post_light line op a g h = weak _ (bind_light (h.at g) (λ o. lift_light _)) (omega arith)

pub size_light : {w : ℕ} (line : ℕ) (t : Named) (g : Stage) → LightNamed w t → Bounded (1 + w) (rules.size line t g)
size_light line t g k = weak _ (bind_light (k.at line g) (λ ty. lift_light _)) (omega arith)

pub binary_light : {v w : ℕ} (line : ℕ) (op : BinaryOp) (a b : Node) (g : Stage) → LightNode v a → LightNode w b →
    Bounded (1 + (v + w)) (rules.binary line op a b g)
binary_light line op a b g h k = weak _ (bind_light (both_light a b g h k) (λ p. lift_light _)) (omega arith)

pub assign_light : {v w : ℕ} (line : ℕ) (a b : Node) (g : Stage) → LightNode v a → LightNode w b →
    Bounded (1 + (v + w)) (rules.assign line a b g)
assign_light line a b g h k = weak _ (bind_light (both_light a b g h k) (λ p. lift_light _)) (omega arith)

pub modify_light : {v w : ℕ} (line : ℕ) (op : ModifyOp) (a b : Node) (g : Stage) → LightNode v a → LightNode w b →
    Bounded (1 + (v + w)) (rules.modify line op a b g)
modify_light line op a b g h k = weak _ (bind_light (both_light a b g h k) (λ p. lift_light _)) (omega arith)

pub comma_light : {v w : ℕ} (a b : Node) (g : Stage) → LightNode v a → LightNode w b →
    Bounded (1 + (v + w)) (rules.comma a b g)
comma_light a b g h k = weak _ (bind_light (both_light a b g h k) (λ p. pure_light _)) (omega arith)

pub paren_light : {w : ℕ} (a : Node) (g : Stage) → LightNode w a → Bounded (1 + w) (a.walk g)
paren_light a g h = weak _ (h.at g) (omega arith)

pub string_light : (bytes : List ℕ) → Bounded 1 (λ s. Ok (productions.string_node bytes s))
string_light bytes = weak _ (string_node_light bytes) (omega arith)
