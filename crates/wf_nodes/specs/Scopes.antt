-- Each rule of single nodes makes of parts that stand right a node that stands right.
use Rattle.std.specs.Prelude.{◌≡◌, ℕ, Bool, true, length}
use Rattle.icode_ops.specs.declared.kind.UnKind.{UnKind}
use Rattle.c_types.specs.declared.ctype.CType.{CType}
use Rattle.tick_tree.specs.declared.base.BinaryOp.{BinaryOp}
use Rattle.tick_tree.specs.declared.base.ModifyOp.{ModifyOp}
use Rattle.tick_tree.specs.declared.base.StepOp.{StepOp}
use Rattle.check_operands.specs.declared.operand.Operand.{Operand}
use Rattle.check_operands.specs.declared.operand.Value.{Value}
use Rattle.check_operands.specs.Operands as nodes
use Rattle.check_operands.specs.Operators as operators
use Rattle.check_operands.specs.Stages as stages
use Rattle.check_operands.specs.declared.arguments.Arguments.{Arguments}
use Rattle.check_operands.specs.Calls as calls
use Rattle.check_operands.specs.Places as places
use Rattle.wellformed.specs.Places.{Around, in_function}
use Rattle.wf_nodes.specs.Right.{Stands, EachStands, IsRight, Unless}

-- ---- operands

pub record OperandsStand : Type 0 where
  pub value : (a : Around) (o : Operand) → IsRight a o → Stands a (nodes.value_of o).code
  pub settled : (a : Around) (o : Operand) → IsRight a o → IsRight a (nodes.settled o)
  pub converted : (a : Around) (v : Value) (t : CType) → Stands a v.code → Stands a (nodes.converted v t)
  pub number : (a : Around) (n : ℕ) (u : Bool) → IsRight a (nodes.number n u)
  pub character : (a : Around) (n : ℕ) → IsRight a (nodes.character n)
  pub string : (a : Around) (n : ℕ) → IsRight a (nodes.string n)
  pub size : (a : Around) (line : ℕ) (t : CType) → Unless (IsRight a) (nodes.size line t)

pub record PrefixesStand : Type 0 where
  pub condition : (a : Around) (line : ℕ) (v : Value) → Stands a v.code → Unless (Stands a) (nodes.condition line v)
  pub switched : (a : Around) (line : ℕ) (v : Value) → Stands a v.code → Unless (Stands a) (nodes.switched line v)
  pub plus : (a : Around) (line : ℕ) (v : Value) → Stands a v.code → Unless (IsRight a) (nodes.plus line v)
  pub on_integer : (a : Around) (line : ℕ) (k : UnKind) (v : Value) → Stands a v.code →
      Unless (IsRight a) (nodes.on_integer line k v)
  pub dereferenced : (a : Around) (line : ℕ) (v : Value) → Stands a v.code →
      Unless (IsRight a) (nodes.dereferenced line v)
  pub negated : (a : Around) (line : ℕ) (v : Value) → Stands a v.code → Unless (IsRight a) (nodes.negated line v)
  pub cast : (a : Around) (line : ℕ) (t : CType) (v : Value) → Stands a v.code →
      Unless (IsRight a) (nodes.cast line t v)

-- ---- operators

pub record OperatorsStand : Type 0 where
  pub comma : (a : Around) (v w : Value) → Stands a v.code → Stands a w.code → IsRight a (nodes.comma v w)
  pub binary : (a : Around) (line : ℕ) (o : BinaryOp) (v w : Value) → Stands a v.code → Stands a w.code →
      Unless (IsRight a) (operators.binary line o v w)
  pub index : (a : Around) (line : ℕ) (v w : Value) → Stands a v.code → Stands a w.code →
      Unless (IsRight a) (operators.index line v w)
  pub choice : (a : Around) (line : ℕ) (c v w : Value) → Stands a c.code → Stands a v.code → Stands a w.code →
      Unless (IsRight a) (operators.choice line c v w)

-- ---- specifications, which functions alone make

pub record StagesStand : Type 0 where
  pub compile : (a : Around) (line : ℕ) (t : CType) (v : Value) → in_function a ≡ true → Stands a v.code →
      Unless (IsRight a) (stages.compile line t v)
  pub local : (a : Around) (line : ℕ) (t : CType) → in_function a ≡ true → Unless (IsRight a) (stages.local line t)
  pub parameter : (a : Around) (line : ℕ) (t : CType) (v : Value) → in_function a ≡ true → Stands a v.code →
      Unless (IsRight a) (stages.parameter line t v)
  pub dollar : (a : Around) (line : ℕ) (v : Value) → Stands a v.code →
      Unless (λ w. Stands a w.code) (stages.dollar line v)

-- ---- places

pub record PlacesStand : Type 0 where
  pub assign : (a : Around) (line : ℕ) (o : Operand) (v : Value) → IsRight a o → Stands a v.code →
      Unless (IsRight a) (places.assign line o v)
  pub modify : (a : Around) (line : ℕ) (m : ModifyOp) (o : Operand) (v : Value) → IsRight a o → Stands a v.code →
      Unless (IsRight a) (places.modify line m o v)
  pub stepped : (a : Around) (line : ℕ) (s : StepOp) (o : Operand) → IsRight a o →
      Unless (IsRight a) (places.stepped line s o)
  pub post : (a : Around) (line : ℕ) (s : StepOp) (o : Operand) → IsRight a o →
      Unless (IsRight a) (places.post line s o)
  pub address : (a : Around) (line : ℕ) (o : Operand) → IsRight a o → Unless (IsRight a) (places.address line o)

-- ---- calls and returns

pub record CallsStand : Type 0 where
  pub argument : (a : Around) (list : Arguments) (v : Value) → EachStands a list.codes → Stands a v.code →
      EachStands a (calls.with_argument list v).codes
  pub call : (a : Around) (line : ℕ) (o : Operand) (list : Arguments) → IsRight a o →
      length list.codes ≡ length list.types → EachStands a list.codes → Unless (IsRight a) (calls.call line o list)
  pub library : (a : Around) (line n : ℕ) (t : CType) (list : Arguments) → EachStands a list.codes →
      Unless (IsRight a) (calls.library line n t list)
  pub returned : (a : Around) (line : ℕ) (t : CType) (v : Value) → Stands a v.code →
      Unless (Stands a) (calls.returned line t v)
  pub tick_returned : (a : Around) (line : ℕ) (v : Value) → Stands a v.code →
      Unless (Stands a) (calls.tick_returned line v)

pub record RulesStand : Type 0 where
  pub operands : OperandsStand
  pub prefixes : PrefixesStand
  pub operators : OperatorsStand
  pub stages : StagesStand
  pub places : PlacesStand
  pub calls : CallsStand
