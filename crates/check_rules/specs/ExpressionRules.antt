-- The walk over expressions: what each node is by the walks over its parts. The parts come in the order of the text,
-- then the node itself; what is checked as a node is entered comes before its parts. The order is this project's own
-- rule: it decides which fault is the first.
use Rattle.std.specs.Prelude.{ℕ, Bool, false, List, [], ◌∷◌, ◌++◌, Option, Some, None, Ok}
use Rattle.c_types.specs.declared.ctype.CType.{CType}
use Rattle.check_declarators.specs.declared.steps.Step.{Step}
use Rattle.check_forms.specs.Forms.{Name, Written, Declared}
use Rattle.tick_tree.specs.declared.base.BinaryOp.{BinaryOp}
use Rattle.tick_tree.specs.declared.base.StepOp.{StepOp}
use Rattle.tick_tree.specs.declared.base.ModifyOp.{ModifyOp}
use Rattle.tick_tree.specs.declared.base.UnaryOp.{UnaryOp}
use Rattle.tick_tree.specs.declared.syntax.Core.TheOpen.{Expr-F}
use Rattle.typed_tree.specs.declared.expression.Stmt.{Stmt}
use Rattle.typed_tree.specs.declared.expression.Stmt.TheVariants as st
use Rattle.check_operands.specs.declared.operand.Operand.{Operand}
use Rattle.check_operands.specs.Operands as nodes
use Rattle.check_operands.specs.Stages as stages
use Rattle.check_operands.specs.declared.arguments.Arguments.{Arguments}
use Rattle.check_operands.specs.Calls as calls
use Rattle.check_rules.specs.declared.state.Around.{Around}
use Rattle.check_rules.specs.declared.state.Stage.{Stage}
use Rattle.check_rules.specs.declared.state.Stage.TheVariants as stage
use Rattle.check_rules.specs.declared.state.State.{State}
use Rattle.check_rules.specs.Blocks.{depth, enter, leave}
use Rattle.check_rules.specs.Names.{named, library}
use Rattle.check_rules.specs.Walks.{Rule, ◌>>=◌, pure, lift}
use Rattle.check_rules.specs.Entries.{tick_entry, staging_entry, unary_entry}
use Rattle.check_rules.specs.Productions

-- ---- what is known of the parts of a node

-- an expression: how it is written, and the walk over it
pub record Node : Type 0 where
  pub written : Written
  pub walk : Stage → Rule State Operand

-- a type name: whether it is that of an integer type, and the walk over it, with the line of the node that it is in
pub record Named : Type 0 where
  pub integer : Bool
  pub walk : ℕ → Stage → Rule State CType

-- a declarator: what it declares, and the walk over it, which gives the steps to its type
pub record Shape : Type 0 where
  pub declared : Declared
  pub walk : Stage → Rule State (List Step)

-- a statement: whether it is a `;` alone, and the walk over it. A statement gives one node, a declaration as many as it
-- has initializers.
pub record Item : Type 0 where
  pub is_empty : Bool
  pub walk : Around → Rule State (List Stmt)

-- ---- blocks

abbrev pub each : List Item → Around → Rule State (List Stmt)
each [] a = pure []
each (w ∷ ws) a = w.walk a >>= (λ x. each ws a >>= (λ xs. pure (x ++ xs)))

-- a block, with the nodes of its variables
abbrev pub block : List Item → Around → Rule State Stmt
block items a = depth >>=
    (λ n. enter >>= (λ outer. each items a >>= (λ xs. leave n outer >>= (λ vs. pure (st.Block vs xs)))))

-- what stands round the items of a tick's block
abbrev pub tick_around : Around
tick_around = record { stage = stage.Tick; in_loop = false; in_switch = false; is_direct = false }

-- ---- several parts

abbrev pub both : Node → Node → Stage → Rule State (Operand × Operand)
both a b g = a.walk g >>= (λ x. b.walk g >>= (λ y. pure (x, y)))

abbrev pub arguments : List Node → Arguments → Stage → Rule State Arguments
arguments [] list g = pure list
arguments (a ∷ rest) list g = a.walk g >>= (λ x. arguments rest (Productions.argument list x) g)

-- ---- calls

abbrev pub library_of : Option Name → State → Option (ℕ × CType)
library_of None s = None
library_of (Some name) s = library s.scopes name

-- a call of the library function of this number and type
abbrev pub library_call : ℕ → ℕ → CType → List Node → Stage → Rule State Operand
library_call line n t list g = arguments list calls.no_arguments g >>= (λ xs. lift (calls.library line n t xs))

-- every other call: what is called, then the arguments
abbrev pub plain_call : ℕ → Node → List Node → Stage → Rule State Operand
plain_call line f list g =
    f.walk g >>= (λ o. arguments list calls.no_arguments g >>= (λ xs. lift (Productions.call_node line g o xs)))

abbrev pub call_of : ℕ → Node → List Node → Stage → Option (ℕ × CType) → Rule State Operand
call_of line f list g (Some l) = library_call line l.0 l.1 list g
call_of line f list g None = plain_call line f list g

abbrev pub call : ℕ → Node → List Node → Stage → Rule State Operand
call line f list g = λ s. call_of line f list g (library_of f.written.name s) s

-- ---- specifications

abbrev pub tick_expression : ℕ → Node → Stage → Rule State Operand
tick_expression line a g =
    lift (tick_entry line g) >>=
    (λ u s. (a.walk stage.Tick >>= (λ o z. Ok (Productions.tick_expression o z))) (Productions.tick_entered s))

abbrev pub tick_block : ℕ → List Item → Stage → Rule State Operand
tick_block line items g =
    lift (tick_entry line g) >>=
    (λ u s. (block items tick_around >>= (λ b z. Ok (Productions.tick_block b z))) (Productions.tick_entered s))

abbrev pub compile : ℕ → Node → Named → Stage → Rule State Operand
compile line a t g = lift (staging_entry line g) >>=
    (λ u. a.walk g >>= (λ o. t.walk line g >>= (λ ty. lift (Productions.compile_node line ty o))))

abbrev pub local : ℕ → Named → Stage → Rule State Operand
local line t g = lift (staging_entry line g) >>= (λ u. t.walk line g >>= (λ ty. lift (stages.local line ty)))

abbrev pub parameter : ℕ → Named → Node → Stage → Rule State Operand
parameter line t a g = lift (staging_entry line g) >>=
    (λ u. t.walk line g >>= (λ ty. a.walk g >>= (λ o. lift (Productions.parameter_node line ty o))))

-- ---- the walk over a node

abbrev pub unary : ℕ → UnaryOp → Node → Stage → Rule State Operand
unary line op a g = lift (unary_entry line op g) >>= (λ h. a.walk h >>= Productions.unary_node line op g)

abbrev pub cast : ℕ → Named → Node → Stage → Rule State Operand
cast line t a g = t.walk line g >>= (λ ty. a.walk g >>= (λ o. lift (Productions.cast_node line ty o)))

abbrev pub choice : ℕ → Node → Node → Node → Stage → Rule State Operand
choice line c a b g = c.walk g >>= (λ x. both a b g >>= (λ p. lift (Productions.choice_node line x p.0 p.1)))

abbrev pub index : ℕ → Node → Node → Stage → Rule State Operand
index line a b g = both a b g >>= (λ p. lift (Productions.index_node line g p.0 p.1))

abbrev pub post : ℕ → StepOp → Node → Stage → Rule State Operand
post line op a g = a.walk g >>= (λ o. lift (Productions.post_node line op o))

abbrev pub size : ℕ → Named → Stage → Rule State Operand
size line t g = t.walk line g >>= (λ ty. lift (nodes.size line ty))

abbrev pub binary : ℕ → BinaryOp → Node → Node → Stage → Rule State Operand
binary line op a b g = both a b g >>= (λ p. lift (Productions.binary_node line op p.0 p.1))

abbrev pub assign : ℕ → Node → Node → Stage → Rule State Operand
assign line a b g = both a b g >>= (λ p. lift (Productions.assign_node line p.0 p.1))

abbrev pub modify : ℕ → ModifyOp → Node → Node → Stage → Rule State Operand
modify line op a b g = both a b g >>= (λ p. lift (Productions.modify_node line op p.0 p.1))

abbrev pub comma : Node → Node → Stage → Rule State Operand
comma a b g = both a b g >>= (λ p. pure (Productions.comma_node p.0 p.1))

abbrev pub walk_rule : {I S D N P : Type 0} → Expr-F Shape Node I (Option Node) Item S D Shape N P Named → Stage →
    Rule State Operand
walk_rule (Expr-F.Expr::Name line name) g = named line g name
walk_rule (Expr-F.Number n unsigned) g = pure (nodes.number n unsigned)
walk_rule (Expr-F.Character n) g = pure (nodes.character n)
walk_rule (Expr-F.String bytes) g = λ s. Ok (Productions.string_node bytes s)
walk_rule (Expr-F.Expr::Paren a) g = a.walk g
walk_rule (Expr-F.Compile line a t) g = compile line a t g
walk_rule (Expr-F.Expr::Local line t) g = local line t g
walk_rule (Expr-F.Param line t a) g = parameter line t a g
walk_rule (Expr-F.Index line p) g = index line p.0 p.1 g
walk_rule (Expr-F.Call line f list) g = call line f list g
walk_rule (Expr-F.Step line op a) g = post line op a g
walk_rule (Expr-F.Unary line op a) g = unary line op a g
walk_rule (Expr-F.Tick line a) g = tick_expression line a g
walk_rule (Expr-F.TickBlock line items) g = tick_block line items g
walk_rule (Expr-F.Cast line t a) g = cast line t a g
walk_rule (Expr-F.Sizeof line t) g = size line t g
walk_rule (Expr-F.Binary line op p) g = binary line op p.0 p.1 g
walk_rule (Expr-F.Choice line c a b) g = choice line c a b g
walk_rule (Expr-F.Assign line p) g = assign line p.0 p.1 g
walk_rule (Expr-F.Modify line op p) g = modify line op p.0 p.1 g
walk_rule (Expr-F.Comma line p) g = comma p.0 p.1 g
