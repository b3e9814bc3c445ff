-- What the walk over an expression makes grow, by its parts.
use Rattle.std.proofs.Common.{◌≡◌, ℕ, refl, List, [], ◌∷◌, Option, Some, None, Ok}
use Rattle.c_types.specs.declared.ctype.CType.{CType}
use Rattle.check_scopes.specs.Scopes.{Name}
use Rattle.tick_tree.specs.declared.base.BinaryOp.{BinaryOp}
use Rattle.tick_tree.specs.declared.base.ModifyOp.{ModifyOp}
use Rattle.tick_tree.specs.declared.base.StepOp.{StepOp}
use Rattle.tick_tree.specs.declared.base.UnaryOp.{UnaryOp}
use Rattle.typed_tree.specs.declared.expression.Stmt.{Stmt}
use Rattle.check_operands.specs.declared.arguments.Arguments.{Arguments}
use Rattle.check_operands.specs.Calls as calls
use Rattle.check_rules.specs.declared.state.Around.{Around}
use Rattle.check_rules.specs.declared.state.Stage.{Stage}
use Rattle.check_rules.specs.declared.state.Stage.TheVariants as stage
use Rattle.check_rules.specs.declared.state.State.{State}
use Rattle.check_rules.specs.Blocks.{depth, enter, leave}
use Rattle.check_rules.specs.Walks.{Rule, ◌>>=◌, pure}
use Rattle.check_rules.specs.Productions as productions
use Rattle.check_rules.specs.ExpressionRules as rules
use Rattle.check_rules.specs.ExpressionRules.{Node, Named, Item}
use Rattle.walk_again.proofs.States.{depth_again, enter_again, leave_again, string_node_again, entered_again}
use Rattle.walk_again.proofs.States.{entered_kept}
use Rattle.walk_again.proofs.States.{expression_again, left_again, unary_node_again}
use Rattle.wf_walk.specs.Parts.{EachPart}
use Rattle.walk_again.specs.Again.{Found, Again, AgainNode, AgainNamed, AgainItem}
use Rattle.walk_again.specs.Again.{told}
use Rattle.walk_again.proofs.Steps.{by_after, after, pure_again, lift_again, bind_again, again_first}

-- ---- several parts

pub both_again : {k : Found} (a b : Node) (g : Stage) → AgainNode k a → AgainNode k b → Again k (rules.both a b g)
both_again a b g h k = bind_again (h.at g) (λ x. bind_again (k.at g) (λ y. pure_again (x, y)))

pub arguments_again : {k : Found} (list : List Node) (xs : Arguments) (g : Stage) → EachPart (AgainNode k) list →
    Again k (rules.arguments list xs g)
arguments_again [] xs g u = pure_again xs
arguments_again (n ∷ ns) xs g h =
    bind_again (h.0.at g) (λ x. arguments_again ns (productions.argument xs x) g h.1)

pub each_again : {k : Found} (items : List Item) (a : Around) → EachPart (AgainItem k) items →
    Again k (rules.each items a)
each_again [] a u = pure_again []
each_again (i ∷ is) a h =
    bind_again (h.0.at a) (λ x. bind_again (each_again is a h.1) (λ xs. pure_again _))

-- what stands in a scope of its own
pub scope_again : {k : Found} {A B : Type 0} {r : Rule State A} (f : A → List Stmt → B) → Again k r →
    Again k (depth >>= (λ n. enter >>= (λ outer. r >>= (λ xs. leave n outer >>= (λ vs. pure (f xs vs))))))
scope_again f b = bind_again depth_again
    (λ n. bind_again enter_again
    (λ outer. bind_again b (λ xs. bind_again (leave_again n outer) (λ vs. pure_again (f xs vs)))))

pub block_again : {k : Found} (items : List Item) (a : Around) → EachPart (AgainItem k) items →
    Again k (rules.block items a)
block_again items a h = scope_again _ (each_again items a h)

-- ---- calls

call_of_again : {k : Found} (line : ℕ) (f : Node) (list : List Node) (g : Stage) (l : Option (ℕ × CType)) →
    AgainNode k f → EachPart (AgainNode k) list → Again k (rules.call_of line f list g l)
call_of_again line f list g (Some l) h hs =
    bind_again (arguments_again list calls.no_arguments g hs) (λ xs. lift_again _)
call_of_again line f list g None h hs =
    bind_again (h.at g) (λ o. bind_again (arguments_again list calls.no_arguments g hs) (λ xs. lift_again _))

library_same : (k : Found) (n : Option Name) (s : State) → rules.library_of n (told k s) ≡ rules.library_of n s
library_same k None s = refl
library_same k (Some n) s = refl

pub call_again : {k : Found} (line : ℕ) (f : Node) (list : List Node) (g : Stage) → AgainNode k f →
    EachPart (AgainNode k) list → Again k (rules.call line f list g)
call_again {k = k} line f list g h hs =
    by_after (λ s e. rw (library_same k f.written.name s) (after (call_of_again line f list g (rules.library_of
    f.written.name s) h hs) s e))

-- ---- specifications

pub tick_again : {k : Found} (line : ℕ) (a : Node) (g : Stage) → AgainNode k a →
    Again k (rules.tick_expression line a g)
tick_again {k = k} line a g h = bind_again (lift_again _)
    (λ u. again_first productions.tick_entered entered_kept (entered_again k) (bind_again (h.at stage.Tick)
    expression_again))

pub tick_block_again : {k : Found} (line : ℕ) (items : List Item) (g : Stage) → EachPart (AgainItem k) items →
    Again k (rules.tick_block line items g)
tick_block_again {k = k} line items g h =
    bind_again (lift_again _)
    (λ u. again_first productions.tick_entered entered_kept (entered_again k)
    (bind_again (block_again items rules.tick_around h) left_again))

pub compile_again : {k : Found} (line : ℕ) (a : Node) (t : Named) (g : Stage) → AgainNode k a → AgainNamed k t →
    Again k (rules.compile line a t g)
compile_again line a t g h k =
    bind_again (lift_again _) (λ u. bind_again (h.at g) (λ o. bind_again (k.at line g) (λ ty. lift_again _)))

pub local_again : {k : Found} (line : ℕ) (t : Named) (g : Stage) → AgainNamed k t → Again k (rules.local line t g)
local_again line t g k = bind_again (lift_again _) (λ u. bind_again (k.at line g) (λ ty. lift_again _))

pub parameter_again : {k : Found} (line : ℕ) (t : Named) (a : Node) (g : Stage) → AgainNamed k t → AgainNode k a →
    Again k (rules.parameter line t a g)
parameter_again line t a g k h =
    bind_again (lift_again _) (λ u. bind_again (k.at line g) (λ ty. bind_again (h.at g) (λ o. lift_again _)))

-- ---- the other nodes

pub unary_again : {k : Found} (line : ℕ) (op : UnaryOp) (a : Node) (g : Stage) → AgainNode k a →
    Again k (rules.unary line op a g)
unary_again line op a g h =
    bind_again (lift_again _) (λ k. bind_again (h.at k) (λ o. unary_node_again line op g o))

pub cast_again : {k : Found} (line : ℕ) (t : Named) (a : Node) (g : Stage) → AgainNamed k t → AgainNode k a →
    Again k (rules.cast line t a g)
cast_again line t a g k h =
    bind_again (k.at line g) (λ ty. bind_again (h.at g) (λ o. lift_again _))

pub choice_again : {k : Found} (line : ℕ) (c a b : Node) (g : Stage) → AgainNode k c → AgainNode k a → AgainNode k b →
    Again k (rules.choice line c a b g)
choice_again line c a b g i h k =
    bind_again (i.at g) (λ x. bind_again (both_again a b g h k) (λ p. lift_again _))

pub index_again : {k : Found} (line : ℕ) (a b : Node) (g : Stage) → AgainNode k a → AgainNode k b →
    Again k (rules.index line a b g)
index_again line a b g h k = bind_again (both_again a b g h k) (λ p. lift_again _)

pub post_again : {k : Found} (line : ℕ) (op : StepOp) (a : Node) (g : Stage) → AgainNode k a →
    Again k (rules.post line op a g)
post_again line op a g h = bind_again (h.at g) (λ o. lift_again _)

pub size_again : {k : Found} (line : ℕ) (t : Named) (g : Stage) → AgainNamed k t → Again k (rules.size line t g)
size_again line t g k = bind_again (k.at line g) (λ ty. lift_again _)

pub binary_again : {k : Found} (line : ℕ) (op : BinaryOp) (a b : Node) (g : Stage) → AgainNode k a → AgainNode k b →
    Again k (rules.binary line op a b g)
binary_again line op a b g h k = bind_again (both_again a b g h k) (λ p. lift_again _)

pub assign_again : {k : Found} (line : ℕ) (a b : Node) (g : Stage) → AgainNode k a → AgainNode k b →
    Again k (rules.assign line a b g)
assign_again line a b g h k = bind_again (both_again a b g h k) (λ p. lift_again _)

pub modify_again : {k : Found} (line : ℕ) (op : ModifyOp) (a b : Node) (g : Stage) → AgainNode k a → AgainNode k b →
    Again k (rules.modify line op a b g)
modify_again line op a b g h k = bind_again (both_again a b g h k) (λ p. lift_again _)

pub comma_again : {k : Found} (a b : Node) (g : Stage) → AgainNode k a → AgainNode k b →
    Again k (rules.comma a b g)
comma_again a b g h k = bind_again (both_again a b g h k) (λ p. pure_again _)

pub paren_again : {k : Found} (a : Node) (g : Stage) → AgainNode k a → Again k (a.walk g)
paren_again a g h = h.at g

pub string_again : {k : Found} (bytes : List ℕ) → Again k (λ s. Ok (productions.string_node bytes s))
string_again bytes = string_node_again bytes
