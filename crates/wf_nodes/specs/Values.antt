-- Each rule of single nodes makes of parts that are used right a node that is used right.
use Rattle.std.specs.Prelude.{◌≡◌, ℕ, Bool, true, false, List, [], ◌∷◌, ◌++◌, Ok}
use Rattle.icode_ops.specs.declared.kind.UnKind.{UnKind}
use Rattle.c_types.specs.declared.ctype.CType.{CType}
use Rattle.c_types.specs.declared.ctype.Base.{Base}
use Rattle.c_types.specs.declared.ctype.Integer.TheVariants as kind
use Rattle.c_types.specs.declared.ctype.Layer.{Layer}
use Rattle.c_types.specs.declared.ctype.Layer.TheVariants as layer
use Rattle.check_declarators.specs.declared.steps.Role.{Role}
use Rattle.check_declarators.specs.declared.steps.Step.{Step}
use Rattle.check_declarators.specs.Making.{decayed, declared_type}
use Rattle.check_types.specs.Shapes.{integer, void, over, inner, is_void, is_vspec}
use Rattle.tick_tree.specs.declared.base.BinaryOp.{BinaryOp}
use Rattle.tick_tree.specs.declared.base.ModifyOp.{ModifyOp}
use Rattle.tick_tree.specs.declared.base.StepOp.{StepOp}
use Rattle.typed_tree.specs.declared.expression.CaptureKind.{CaptureKind}
use Rattle.typed_tree.specs.declared.expression.CapturedWord.{CapturedWord}
use Rattle.typed_tree.specs.declared.expression.Expr.{Expr}
use Rattle.typed_tree.specs.declared.expression.Expr.TheVariants as ex
use Rattle.check_operands.specs.declared.operand.Operand.{Operand}
use Rattle.check_operands.specs.declared.operand.Value.{Value}
use Rattle.check_operands.specs.Operands as nodes
use Rattle.check_operands.specs.Operators as operators
use Rattle.check_operands.specs.Stages as stages
use Rattle.check_operands.specs.declared.arguments.Arguments.{Arguments}
use Rattle.check_operands.specs.Calls as calls
use Rattle.check_operands.specs.Places as places
use Rattle.wellformed.specs.Values.{is_right}
use Rattle.wf_nodes.specs.Used.{declares, Leaves, EachLeaves, UsedAs, IsUsedValue, IsUsed, AreUsed, IsLibrary, Unless}

-- ---- types

pub record TypesUse : Type 0 where
  -- a type with a layer isn't void
  pub layer : (l : Layer) (t : CType) → is_void (over l t) ≡ false
  -- a value's type is void where its place's is
  pub decayed : (t : CType) → is_void (decayed t) ≡ is_void t
  -- the type of a declared name isn't void, and that of a variable of generated code isn't either
  pub declared : (r : Role) (line : ℕ) (b : Base) (ss : List Step) (t : CType) → declares r ≡ true →
      declared_type r line b ss ≡ Ok t → is_void t ≡ false
  pub vspec : (r : Role) (line : ℕ) (b : Base) (ss : List Step) (t : CType) → declared_type r line b ss ≡ Ok t →
      is_vspec t ≡ true → is_void (inner t) ≡ false

-- the types of the library functions, by their numbers
pub record LibraryUses : Type 0 where
  pub getchar : IsLibrary 0 (over (layer.Function []) (integer kind.Int))
  pub putchar : IsLibrary 1 (over (layer.Function (integer kind.Int ∷ [])) (integer kind.Int))
  pub putint : IsLibrary 2 (over (layer.Function (integer kind.Int ∷ [])) void)
  pub malloc : IsLibrary 3 (over (layer.Function (integer kind.Unsigned ∷ [])) (over layer.Pointer void))
  pub exit : IsLibrary 4 (over (layer.Function (integer kind.Int ∷ [])) void)

-- ---- single nodes, which the walk makes itself

pub record NodesUse : Type 0 where
  pub left : (t : CType) (e : Expr) → UsedAs t e → is_void t ≡ false → Leaves e
  pub used : (t : CType) (e : Expr) → Leaves e → is_void t ≡ false → UsedAs t e
  pub constant : (n : ℕ) → Leaves (ex.Const n)
  pub variable : (i : ℕ) → Leaves (ex.Var i)
  pub frame : (off : ℕ) → Leaves (ex.Frame off)
  pub generated : (i : ℕ) → Leaves (ex.VGet i)
  pub captured : (w : CapturedWord) (i : ℕ) → Leaves (ex.Captured w i)
  pub capture : (k : CaptureKind) (e : Expr) → Leaves e → Leaves (ex.Capture k e)
  pub splice : (t : CType) (i : ℕ) → UsedAs t (ex.Splice (calls.answer_of t) i)
  pub more : (es : List Expr) (e : Expr) → EachLeaves es → Leaves e → EachLeaves (es ++ e ∷ [])
  pub tick : (n : ℕ) (es : List Expr) → EachLeaves es → Leaves (ex.Tick n es)

-- ---- operands

pub record OperandsUse : Type 0 where
  pub value : (o : Operand) → IsUsed o → IsUsedValue (nodes.value_of o)
  pub effect : (o : Operand) → IsUsed o → is_right (nodes.effect o) ≡ true
  pub settled : (o : Operand) → IsUsed o → IsUsed (nodes.settled o)
  pub converted : (v : Value) (t : CType) → Leaves v.code → Leaves (nodes.converted v t)
  pub number : (n : ℕ) (u : Bool) → IsUsed (nodes.number n u)
  pub character : (n : ℕ) → IsUsed (nodes.character n)
  pub string : (n : ℕ) → IsUsed (nodes.string n)
  pub size : (line : ℕ) (t : CType) → Unless IsUsed (nodes.size line t)

pub record PrefixesUse : Type 0 where
  pub condition : (line : ℕ) (v : Value) → IsUsedValue v → Unless Leaves (nodes.condition line v)
  pub switched : (line : ℕ) (v : Value) → IsUsedValue v → Unless Leaves (nodes.switched line v)
  pub plus : (line : ℕ) (v : Value) → IsUsedValue v → Unless IsUsed (nodes.plus line v)
  pub on_integer : (line : ℕ) (k : UnKind) (v : Value) → IsUsedValue v → Unless IsUsed (nodes.on_integer line k v)
  pub dereferenced : (line : ℕ) (v : Value) → IsUsedValue v → Unless IsUsed (nodes.dereferenced line v)
  pub negated : (line : ℕ) (v : Value) → IsUsedValue v → Unless IsUsed (nodes.negated line v)
  pub cast : (line : ℕ) (t : CType) (v : Value) → IsUsedValue v → Unless IsUsed (nodes.cast line t v)

-- ---- operators

pub record OperatorsUse : Type 0 where
  pub comma : (v w : Value) → IsUsedValue v → IsUsedValue w → IsUsed (nodes.comma v w)
  pub binary : (line : ℕ) (o : BinaryOp) (v w : Value) → IsUsedValue v → IsUsedValue w →
      Unless IsUsed (operators.binary line o v w)
  pub index : (line : ℕ) (v w : Value) → IsUsedValue v → IsUsedValue w → Unless IsUsed (operators.index line v w)
  pub choice : (line : ℕ) (c v w : Value) → IsUsedValue c → IsUsedValue v → IsUsedValue w →
      Unless IsUsed (operators.choice line c v w)

-- ---- specifications

-- the value that a tick captures: it is left, and has a type
pub record IsCaptured (v : Value) : Type 0 where
  pub code : Leaves v.code
  pub type : is_void v.ctype ≡ false

pub record StagesUse : Type 0 where
  pub specification : (t : CType) → is_void (stages.specification t) ≡ false
  pub compile : (line : ℕ) (t : CType) (v : Value) → IsUsedValue v → Unless IsUsed (stages.compile line t v)
  pub local : (line : ℕ) (t : CType) → Unless IsUsed (stages.local line t)
  pub parameter : (line : ℕ) (t : CType) (v : Value) → IsUsedValue v → Unless IsUsed (stages.parameter line t v)
  pub dollar : (line : ℕ) (v : Value) → IsUsedValue v → Unless IsCaptured (stages.dollar line v)

-- ---- places

pub record PlacesUse : Type 0 where
  pub assign : (line : ℕ) (o : Operand) (v : Value) → IsUsed o → IsUsedValue v → Unless IsUsed (places.assign line o v)
  pub modify : (line : ℕ) (m : ModifyOp) (o : Operand) (v : Value) → IsUsed o → IsUsedValue v →
      Unless IsUsed (places.modify line m o v)
  pub stepped : (line : ℕ) (s : StepOp) (o : Operand) → IsUsed o → Unless IsUsed (places.stepped line s o)
  pub post : (line : ℕ) (s : StepOp) (o : Operand) → IsUsed o → Unless IsUsed (places.post line s o)
  pub address : (line : ℕ) (o : Operand) → IsUsed o → Unless IsUsed (places.address line o)

-- ---- calls and returns

pub record CallsUse : Type 0 where
  pub none : AreUsed calls.no_arguments
  pub argument : (list : Arguments) (v : Value) → AreUsed list → IsUsedValue v → AreUsed (calls.with_argument list v)
  pub call : (line : ℕ) (o : Operand) (list : Arguments) → IsUsed o → AreUsed list →
      Unless IsUsed (calls.call line o list)
  pub library : (line n : ℕ) (t : CType) (list : Arguments) → IsLibrary n t → AreUsed list →
      Unless IsUsed (calls.library line n t list)
  pub returned : (line : ℕ) (t : CType) (v : Value) → IsUsedValue v → Unless Leaves (calls.returned line t v)
  pub tick_returned : (line : ℕ) (v : Value) → IsUsedValue v → Unless Leaves (calls.tick_returned line v)

pub record RulesUse : Type 0 where
  pub types : TypesUse
  pub libraries : LibraryUses
  pub nodes : NodesUse
  pub operands : OperandsUse
  pub prefixes : PrefixesUse
  pub operators : OperatorsUse
  pub stages : StagesUse
  pub places : PlacesUse
  pub calls : CallsUse
