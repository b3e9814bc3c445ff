-- Each production's own rule makes of operands that stand right one that stands right. Here the laws on where nodes
-- stand and on the values that they use come together.
use Rattle.std.proofs.Common.{◌≡◌, ℕ, suc, Bool, true, false, ◌&&◌, if◌then◌else◌, refl, ap, List, [], ◌∷◌, length, Ok}
use Rattle.std.proofs.Common.{Err}
use Rattle.icode_ops.specs.declared.kind.UnKind.TheVariants as un
use Rattle.c_types.specs.declared.ctype.CType.{CType}
use Rattle.tick_tree.specs.declared.base.BinaryOp.{BinaryOp}
use Rattle.tick_tree.specs.declared.base.ModifyOp.{ModifyOp}
use Rattle.tick_tree.specs.declared.base.StepOp.{StepOp}
use Rattle.tick_tree.specs.declared.base.UnaryOp.{UnaryOp}
use Rattle.tick_tree.specs.declared.base.UnaryOp.TheVariants as unary_op
use Rattle.tick_tree.specs.declared.fault.FaultKind.TheVariants as fault
use Rattle.tick_tree.specs.Faults.{Checked, refuse, ◌>>=◌}
use Rattle.check_operands.specs.declared.operand.Operand.{Operand}
use Rattle.check_operands.specs.declared.operand.Value.{Value}
use Rattle.check_operands.specs.Operands as nodes
use Rattle.check_operands.specs.Operands.{value_of, values, settled}
use Rattle.check_operands.specs.Operators as operators
use Rattle.check_operands.specs.Stages as stages
use Rattle.check_operands.specs.Places as places
use Rattle.check_operands.specs.Calls as calls
use Rattle.check_operands.specs.declared.arguments.Argument.{Argument}
use Rattle.check_operands.specs.declared.arguments.Arguments.{Arguments}
use Rattle.typed_tree.specs.declared.expression.Expr.{Expr}
use Rattle.check_rules.specs.declared.state.Stage.{Stage}
use Rattle.check_rules.specs.Productions as productions
use Rattle.check_rules.specs.Productions.{is_tick, is_specification, answers_specification}
use Rattle.wellformed.specs.Places.{Around, in_function}
use Rattle.wf_nodes.specs.Right.{Stands, EachStands, IsRight, Unless}
use Rattle.wf_nodes.proofs.OperandScopes.{operands_stand, prefixes_stand, stages_stand}
use Rattle.wf_nodes.proofs.OperatorScopes.{operators_stand}
use Rattle.wf_nodes.proofs.PlaceScopes.{places_stand}
use Rattle.wf_nodes.proofs.CallScopes.{calls_stand}
use Rattle.wf_nodes.specs.Used as used
use Rattle.wf_nodes.specs.Used.{IsUsedValue, IsUsed, EachUsedAs, AreUsed, IsLibrary}
use Rattle.wf_nodes.specs.Values.{IsCaptured}
use Rattle.wf_nodes.proofs.OperandValues.{operands_use, prefixes_use}
use Rattle.wf_nodes.proofs.OperatorValues.{operators_use}
use Rattle.wf_nodes.proofs.PlaceValues.{places_use}
use Rattle.wf_nodes.proofs.CallValues.{calls_use}
use Rattle.wf_nodes.proofs.Stages.{stages_use}
use Rattle.wf_walk.specs.Good.{Good}
use Rattle.wf_walk.proofs.NodeRules.{good_settled}

-- ---- both laws at once

-- a value stands right, and is used as its type says
pub record ValueStands (a : Around) (v : Value) : Type 0 where
  pub code : Stands a v.code
  pub used : IsUsedValue v

pub good_value : (a : Around) (o : Operand) → Good a o → ValueStands a (value_of o)
good_value a o h = record { code = operands_stand.value a o h.0; used = operands_use.value o h.1 }

good_unless : (a : Around) (c : Checked Operand) → Unless (IsRight a) c → used.Unless IsUsed c → Unless (Good a) c
good_unless a (Ok o) h k = (h, k)
good_unless a (Err f) h k = tt

-- ---- operands without parts

pub good_string : (a : Around) (n : ℕ) → Good a (nodes.string n)
good_string a n = (operands_stand.string a n, operands_use.string n)

-- ---- specifications that are left over

left_by : (a : Around) (b : Bool) (line : ℕ) (o : Operand) → Good a o →
    Unless (Good a) (if b then refuse fault.StageInTick line else Ok o)
left_by a true line o h = tt
left_by a false line o h = h

good_left : (a : Around) (line : ℕ) (g : Stage) (o : Operand) → Good a o → Unless (Good a) (productions.left line g o)
unfolding productions.left
good_left a line g o h = left_by a (is_tick g && is_specification o.ctype) line o h

all_left : (a : Around) (line : ℕ) (g : Stage) (c : Checked Operand) → Unless (Good a) c →
    Unless (Good a) (c >>= productions.left line g)
all_left a line g (Ok o) h = good_left a line g o h
all_left a line g (Err f) h = tt

-- ---- two parts

pub good_binary : (a : Around) (line : ℕ) (op : BinaryOp) (x y : Operand) → Good a x → Good a y →
    Unless (Good a) (productions.binary_node line op x y)
unfolding productions.binary_node values
good_binary a line op x y h k =
    let v = good_value a x h in
    let w = good_value a y k in
    good_unless a (operators.binary line op (value_of x) (value_of y))
    (operators_stand.binary a line op (value_of x) (value_of y) v.code w.code)
    (operators_use.binary line op (value_of x) (value_of y) v.used w.used)

pub good_index : (a : Around) (line : ℕ) (g : Stage) (x y : Operand) → Good a x → Good a y →
    Unless (Good a) (productions.index_node line g x y)
unfolding productions.index_node values
good_index a line g x y h k =
    let v = good_value a x h in
    let w = good_value a y k in
    all_left a line g (operators.index line (value_of x) (value_of y))
    (good_unless a (operators.index line (value_of x) (value_of y))
    (operators_stand.index a line (value_of x) (value_of y) v.code w.code)
    (operators_use.index line (value_of x) (value_of y) v.used w.used))

pub good_assign : (a : Around) (line : ℕ) (x y : Operand) → Good a x → Good a y →
    Unless (Good a) (productions.assign_node line x y)
unfolding productions.assign_node
good_assign a line x y h k =
    let o = good_settled a x h in
    let w = good_value a y k in
    good_unless a (places.assign line (settled x) (value_of y))
    (places_stand.assign a line (settled x) (value_of y) o.0 w.code)
    (places_use.assign line (settled x) (value_of y) o.1 w.used)

pub good_modify : (a : Around) (line : ℕ) (m : ModifyOp) (x y : Operand) → Good a x → Good a y →
    Unless (Good a) (productions.modify_node line m x y)
unfolding productions.modify_node
good_modify a line m x y h k =
    let o = good_settled a x h in
    let w = good_value a y k in
    good_unless a (places.modify line m (settled x) (value_of y))
    (places_stand.modify a line m (settled x) (value_of y) o.0 w.code)
    (places_use.modify line m (settled x) (value_of y) o.1 w.used)

pub good_comma : (a : Around) (x y : Operand) → Good a x → Good a y → Good a (productions.comma_node x y)
unfolding productions.comma_node values
good_comma a x y h k =
    let v = good_value a x h in
    let w = good_value a y k in (
      operators_stand.comma a (value_of x) (value_of y) v.code w.code,
      operators_use.comma (value_of x) (value_of y) v.used w.used,
    )

pub good_choice : (a : Around) (line : ℕ) (c x y : Operand) → Good a c → Good a x → Good a y →
    Unless (Good a) (productions.choice_node line c x y)
unfolding productions.choice_node values
good_choice a line c x y l h k =
    let u = good_value a c l in
    let v = good_value a x h in
    let w = good_value a y k in
    good_unless a (operators.choice line (value_of c) (value_of x) (value_of y))
    (operators_stand.choice a line (value_of c) (value_of x) (value_of y) u.code v.code w.code)
    (operators_use.choice line (value_of c) (value_of x) (value_of y) u.used v.used w.used)

-- ---- one part

pub good_cast : (a : Around) (line : ℕ) (t : CType) (o : Operand) → Good a o →
    Unless (Good a) (productions.cast_node line t o)
unfolding productions.cast_node
good_cast a line t o h =
    let v = good_value a o h in
    good_unless a (nodes.cast line t (value_of o)) (prefixes_stand.cast a line t (value_of o) v.code)
    (prefixes_use.cast line t (value_of o) v.used)

pub good_post : (a : Around) (line : ℕ) (s : StepOp) (o : Operand) → Good a o →
    Unless (Good a) (productions.post_node line s o)
unfolding productions.post_node
good_post a line s o h =
    let p = good_settled a o h in
    good_unless a (places.post line s (settled o)) (places_stand.post a line s (settled o) p.0)
    (places_use.post line s (settled o) p.1)

pub good_step : (a : Around) (line : ℕ) (s : StepOp) (o : Operand) → Good a o →
    Unless (Good a) (productions.step_node line s o)
unfolding productions.step_node
good_step a line s o h =
    let p = good_settled a o h in
    good_unless a (places.stepped line s (settled o)) (places_stand.stepped a line s (settled o) p.0)
    (places_use.stepped line s (settled o) p.1)

pub good_star : (a : Around) (line : ℕ) (g : Stage) (o : Operand) → Good a o →
    Unless (Good a) (productions.star_node line g o)
unfolding productions.star_node
good_star a line g o h =
    let v = good_value a o h in
    all_left a line g (nodes.dereferenced line (value_of o))
    (good_unless a (nodes.dereferenced line (value_of o)) (prefixes_stand.dereferenced a line (value_of o) v.code)
    (prefixes_use.dereferenced line (value_of o) v.used))

pub good_compile : (a : Around) (line : ℕ) (t : CType) (o : Operand) → in_function a ≡ true → Good a o →
    Unless (Good a) (productions.compile_node line t o)
unfolding productions.compile_node
good_compile a line t o f h =
    let v = good_value a o h in
    good_unless a (stages.compile line t (value_of o)) (stages_stand.compile a line t (value_of o) f v.code)
    (stages_use.compile line t (value_of o) v.used)

pub good_local : (a : Around) (line : ℕ) (t : CType) → in_function a ≡ true → Unless (Good a) (stages.local line t)
good_local a line t f = good_unless a (stages.local line t) (stages_stand.local a line t f) (stages_use.local line t)

pub good_parameter : (a : Around) (line : ℕ) (t : CType) (o : Operand) → in_function a ≡ true → Good a o →
    Unless (Good a) (productions.parameter_node line t o)
unfolding productions.parameter_node
good_parameter a line t o f h =
    let v = good_value a o h in
    good_unless a (stages.parameter line t (value_of o)) (stages_stand.parameter a line t (value_of o) f v.code)
    (stages_use.parameter line t (value_of o) v.used)

pub good_address : (a : Around) (line : ℕ) (o : Operand) → Good a o → Unless (Good a) (places.address line o)
good_address a line o h =
    good_unless a (places.address line o) (places_stand.address a line o h.0) (places_use.address line o h.1)

good_plus : (a : Around) (line : ℕ) (o : Operand) → Good a o → Unless (Good a) (nodes.plus line (value_of o))
good_plus a line o h =
    let v = good_value a o h in
    good_unless a (nodes.plus line (value_of o)) (prefixes_stand.plus a line (value_of o) v.code)
    (prefixes_use.plus line (value_of o) v.used)

pub good_signed : (a : Around) (line : ℕ) (u : UnaryOp) (o : Operand) → Good a o →
    Unless (Good a) (productions.signed_node line u o)
good_signed a line unary_op.Minus o h =
    let v = good_value a o h in
    good_unless a (nodes.on_integer line un.Negate (value_of o))
    (prefixes_stand.on_integer a line un.Negate (value_of o) v.code)
    (prefixes_use.on_integer line un.Negate (value_of o) v.used)
good_signed a line unary_op.Complement o h =
    let v = good_value a o h in
    good_unless a (nodes.on_integer line un.Complement (value_of o))
    (prefixes_stand.on_integer a line un.Complement (value_of o) v.code)
    (prefixes_use.on_integer line un.Complement (value_of o) v.used)
good_signed a line unary_op.Not o h =
    let v = good_value a o h in
    good_unless a (nodes.negated line (value_of o)) (prefixes_stand.negated a line (value_of o) v.code)
    (prefixes_use.negated line (value_of o) v.used)
good_signed a line _ o h = good_plus a line o h

-- ---- calls

-- arguments stand right, and are used as their types say
pub record ArgumentsStand (a : Around) (list : Arguments) : Type 0 where
  pub codes : EachStands a list.codes
  pub used : AreUsed list

pub good_none : (a : Around) → ArgumentsStand a calls.no_arguments
good_none a = record { codes = tt; used = calls_use.none }

pub good_argument : (a : Around) (list : Arguments) (o : Operand) → ArgumentsStand a list → Good a o →
    ArgumentsStand a (productions.argument list o)
unfolding productions.argument
good_argument a list o h k =
    let v = good_value a o k in
    record {
      codes = calls_stand.argument a list (value_of o) h.codes v.code;
      used =
          calls_use.argument list (value_of o) h.used v.used;
    }

pub good_library : (a : Around) (line n : ℕ) (t : CType) (list : Arguments) → IsLibrary n t → ArgumentsStand a list →
    Unless (Good a) (calls.library line n t list)
good_library a line n t list l h =
    good_unless a (calls.library line n t list) (calls_stand.library a line n t list h.codes)
    (calls_use.library line n t list l h.used)

-- each argument has its type
as_many : (as_ : List Argument) (es : List Expr) → EachUsedAs as_ es → length es ≡ length as_
as_many [] [] h = refl
as_many [] (e ∷ es) h = absurd h
as_many (a ∷ as_) [] h = absurd h
as_many (a ∷ as_) (e ∷ es) h = ap suc (as_many as_ es h.1)

left_of_call : (a : Around) (line : ℕ) (c : Checked Operand) → Unless (Good a) (productions.left_of line c)
left_of_call a line (Ok o) = tt
left_of_call a line (Err f) = tt

call_by : (a : Around) (b : Bool) (line : ℕ) (c : Checked Operand) → Unless (Good a) c →
    Unless (Good a) (if b then productions.left_of line c else c)
call_by a true line c h = left_of_call a line c
call_by a false line c h = h

pub good_call : (a : Around) (line : ℕ) (g : Stage) (o : Operand) (list : Arguments) → Good a o →
    ArgumentsStand a list → Unless (Good a) (productions.call_node line g o list)
unfolding productions.call_node
good_call a line g o list h k =
    call_by a (is_tick g && answers_specification o.ctype) line (calls.call line o list)
    (good_unless a (calls.call line o list)
    (calls_stand.call a line o list h.0 (as_many list.types list.codes k.used) k.codes)
    (calls_use.call line o list h.1 k.used))

-- ---- what `$` captures

pub record CapturedStands (a : Around) (v : Value) : Type 0 where
  pub code : Stands a v.code
  pub captured : IsCaptured v

captured_by : (a : Around) (c : Checked Value) → Unless (λ w. Stands a w.code) c → used.Unless IsCaptured c →
    Unless (CapturedStands a) c
captured_by a (Ok v) h k = record { code = h; captured = k }
captured_by a (Err f) h k = tt

pub good_dollar : (a : Around) (line : ℕ) (o : Operand) → Good a o →
    Unless (CapturedStands a) (stages.dollar line (value_of o))
good_dollar a line o h =
    let v = good_value a o h in
    captured_by a (stages.dollar line (value_of o)) (stages_stand.dollar a line (value_of o) v.code)
    (stages_use.dollar line (value_of o) v.used)
