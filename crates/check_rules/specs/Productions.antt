-- What each node is by its parts. Of its rules those on types stand in the crates of single nodes; here an operand is
-- given to them as a value, or as a place where the node changes it, and in a tick no specification is left over but a
-- plain name. These are `C's rules.
use Rattle.std.specs.Prelude.{ℕ, Bool, true, false, ◌&&◌, ◌||◌, nat_lt, if◌then◌else◌, List, Ok, Err}
use Rattle.icode_ops.specs.declared.kind.UnKind.TheVariants as un
use Rattle.c_types.specs.declared.ctype.CType.{CType}
use Rattle.c_types.specs.declared.ctype.Layer.TheVariants as layer
use Rattle.check_types.specs.Shapes.{is_cspec, is_vspec, is_pointer, is_function, inner, over, void}
use Rattle.tick_tree.specs.declared.base.BinaryOp.{BinaryOp}
use Rattle.tick_tree.specs.declared.base.ModifyOp.{ModifyOp}
use Rattle.tick_tree.specs.declared.base.StepOp.{StepOp}
use Rattle.tick_tree.specs.declared.base.StepOp.TheVariants as step_op
use Rattle.tick_tree.specs.declared.base.UnaryOp.{UnaryOp}
use Rattle.tick_tree.specs.declared.base.UnaryOp.TheVariants as unary_op
use Rattle.tick_tree.specs.declared.fault.Fault.{Fault}
use Rattle.tick_tree.specs.declared.fault.FaultKind.TheVariants as fault
use Rattle.tick_tree.specs.Faults.{Checked, refuse, number, ◌>>=◌}
use Rattle.typed_tree.specs.declared.expression.CaptureKind.TheVariants as capture
use Rattle.typed_tree.specs.declared.expression.CapturedWord.TheVariants as captured_word
use Rattle.typed_tree.specs.declared.expression.Expr.TheVariants as ex
use Rattle.typed_tree.specs.declared.expression.Stmt.{Stmt}
use Rattle.typed_tree.specs.declared.program.TickBody.{TickBody}
use Rattle.typed_tree.specs.declared.program.TickBody.TheVariants as body
use Rattle.check_operands.specs.declared.operand.Place.{Place}
use Rattle.check_operands.specs.declared.operand.Place.TheVariants as place
use Rattle.check_operands.specs.declared.operand.Operand.{Operand}
use Rattle.check_operands.specs.declared.operand.Value.{Value}
use Rattle.check_operands.specs.Operands as nodes
use Rattle.check_operands.specs.Operands.{value_of, values, settled, made}
use Rattle.check_operands.specs.Operators as operators
use Rattle.check_operands.specs.Stages as stages
use Rattle.check_operands.specs.Places as places
use Rattle.check_operands.specs.Calls as calls
use Rattle.check_operands.specs.declared.arguments.Arguments.{Arguments}
use Rattle.check_rules.specs.declared.state.Stage.{Stage}
use Rattle.check_rules.specs.declared.state.Stage.TheVariants as stage
use Rattle.check_rules.specs.declared.state.State.{State}
use Rattle.check_rules.specs.Names.{captured, addressed}
use Rattle.check_rules.specs.Frames as frames
use Rattle.check_rules.specs.Ticks as ticks
use Rattle.check_rules.specs.Images as images
use Rattle.check_rules.specs.Walks.{Rule, lift}

-- ---- specifications that are left over in a tick

abbrev pub is_tick : Stage → Bool
is_tick stage.Function = false
is_tick stage.Tick = true
is_tick stage.Dollar = false

abbrev pub is_specification : CType → Bool
is_specification t = is_cspec t || is_vspec t

-- in a tick, outside `$`, what is a specification is a plain name, and so no longer one
unfoldable pub left : ℕ → Stage → Operand → Checked Operand
left line g o = if is_tick g && is_specification o.ctype then refuse fault.StageInTick line else Ok o

-- the type of what is called
abbrev pub called_type : CType → CType
called_type t = if is_pointer t then inner t else t

-- whether a call of what has this type answers a specification
abbrev pub answers_specification : CType → Bool
answers_specification t = is_function (called_type t) && is_specification (inner (called_type t))

-- the fault of the lower number where a specification is left over too
abbrev pub lower_at : ℕ → Fault → Fault
lower_at line f = if nat_lt 23 (number f.kind) then record { kind = fault.StageInTick; line = line; token = 0 } else f

abbrev pub left_of : ℕ → Checked Operand → Checked Operand
left_of line (Ok o) = refuse fault.StageInTick line
left_of line (Err f) = Err (lower_at line f)

-- ---- two parts

unfoldable pub binary_node : ℕ → BinaryOp → Operand → Operand → Checked Operand
binary_node line o a b = operators.binary line o (values a b).0 (values a b).1

unfoldable pub index_node : ℕ → Stage → Operand → Operand → Checked Operand
index_node line g a b = operators.index line (values a b).0 (values a b).1 >>= left line g

unfoldable pub assign_node : ℕ → Operand → Operand → Checked Operand
assign_node line a b = places.assign line (settled a) (value_of b)

unfoldable pub modify_node : ℕ → ModifyOp → Operand → Operand → Checked Operand
modify_node line m a b = places.modify line m (settled a) (value_of b)

unfoldable pub comma_node : Operand → Operand → Operand
comma_node a b = nodes.comma (values a b).0 (values a b).1

unfoldable pub choice_node : ℕ → Operand → Operand → Operand → Checked Operand
choice_node line c a b = operators.choice line (value_of c) (values a b).0 (values a b).1

-- ---- one part

unfoldable pub cast_node : ℕ → CType → Operand → Checked Operand
cast_node line t o = nodes.cast line t (value_of o)

unfoldable pub post_node : ℕ → StepOp → Operand → Checked Operand
post_node line s o = places.post line s (settled o)

unfoldable pub step_node : ℕ → StepOp → Operand → Checked Operand
step_node line s o = places.stepped line s (settled o)

unfoldable pub star_node : ℕ → Stage → Operand → Checked Operand
star_node line g o = nodes.dereferenced line (value_of o) >>= left line g

unfoldable pub compile_node : ℕ → CType → Operand → Checked Operand
compile_node line t o = stages.compile line t (value_of o)

unfoldable pub parameter_node : ℕ → CType → Operand → Checked Operand
parameter_node line t o = stages.parameter line t (value_of o)

-- `&`: in a function a variable that is no frame object yet becomes one
abbrev pub address_by : ℕ → CType → Place → Rule State Operand
address_by line t (place.Value e) s = refuse fault.NotPlace line
address_by line t (place.Register i) s = Ok (made (ex.Frame 0) (over layer.Pointer t), addressed i s)
address_by line t (place.Generated i) s = refuse fault.AddressOfRegister line
address_by line t (place.Memory a) s = Ok (made a (over layer.Pointer t), s)
address_by line t (place.Function f) s = refuse fault.NotPlace line

abbrev pub address_at : ℕ → Stage → Operand → Rule State Operand
address_at line stage.Function o s = address_by line o.ctype o.place s
address_at line stage.Tick o s = lift (places.address line o) s
address_at line stage.Dollar o s = address_by line o.ctype o.place s

unfoldable pub address_node : ℕ → Stage → Operand → Rule State Operand
address_node line g o s = address_at line g o s

abbrev pub dollar_by : Value → State → Operand × State
dollar_by v s = (
  made (ex.Captured captured_word.Dollar (ticks.place s.ticks)) v.ctype,
  captured capture.Dollar v.code s,
)

-- `$`: the value is captured as the tick is evaluated
unfoldable pub dollar_node : ℕ → Operand → Rule State Operand
dollar_node line o s = stages.dollar line (value_of o) >>= (λ v. Ok (dollar_by v s))

-- `+`, `-`, `~` and `!`
abbrev pub signed_node : ℕ → UnaryOp → Operand → Checked Operand
signed_node line unary_op.Minus o = nodes.on_integer line un.Negate (value_of o)
signed_node line unary_op.Complement o = nodes.on_integer line un.Complement (value_of o)
signed_node line unary_op.Not o = nodes.negated line (value_of o)
signed_node line _ o = nodes.plus line (value_of o)

-- an operator before its operand
abbrev pub unary_node : ℕ → UnaryOp → Stage → Operand → Rule State Operand
unary_node line unary_op.Plus g o = lift (signed_node line unary_op.Plus o)
unary_node line unary_op.Minus g o = lift (signed_node line unary_op.Minus o)
unary_node line unary_op.Complement g o = lift (signed_node line unary_op.Complement o)
unary_node line unary_op.Not g o = lift (signed_node line unary_op.Not o)
unary_node line unary_op.Star g o = lift (star_node line g o)
unary_node line unary_op.Address g o = address_node line g o
unary_node line unary_op.Dollar g o = dollar_node line o
unary_node line unary_op.Increment g o = lift (step_node line step_op.Increment o)
unary_node line unary_op.Decrement g o = lift (step_node line step_op.Decrement o)

-- ---- calls

-- one argument more
unfoldable pub argument : Arguments → Operand → Arguments
argument list o = calls.with_argument list (value_of o)

unfoldable pub call_node : ℕ → Stage → Operand → Arguments → Checked Operand
call_node line g o list =
    if is_tick g && answers_specification o.ctype then left_of line (calls.call line o list) else calls.call line o list

-- ---- strings and ticks

-- a string, which takes its place behind the strings so far
abbrev pub string_node : List ℕ → State → Operand × State
string_node bytes s = (
  nodes.string (images.string_place s.image),
  record s { image = images.with_string bytes s.image },
)

-- in a tick
abbrev pub tick_entered : State → State
tick_entered s = record s { ticks = ticks.entered s.ticks; frame = frames.ticked s.frame }

abbrev pub tick_left : TickBody → CType → State → Operand × State
tick_left b t s = (made (ticks.node s.ticks) t, record s { ticks = ticks.left b s.ticks })

-- after a tick of an expression: a specification of its promoted type
unfoldable pub tick_expression : Operand → State → Operand × State
tick_expression o s = tick_left (body.Expression (value_of o).code) (stages.specification (value_of o).ctype) s

-- after a tick of a block
abbrev pub tick_block : Stmt → State → Operand × State
tick_block b s = tick_left (body.Statement b) (over layer.Cspec void) s
