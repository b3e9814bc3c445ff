-- What the walk over a declarator or a declaration makes grow, by its parts.
use Rattle.std.proofs.Common.{ℕ, ◌+◌, List, [], ◌∷◌, ◌++◌, Option, Some, None, arith}
use Rattle.c_types.specs.declared.ctype.CType.{CType}
use Rattle.check_forms.specs.Forms.{Name}
use Rattle.check_operands.specs.declared.operand.Operand.{Operand}
use Rattle.check_types.specs.Shapes.{inner}
use Rattle.tick_tree.specs.declared.base.Base.{Base}
use Rattle.tick_tree.specs.declared.base.Prefix.{Prefix}
use Rattle.tick_tree.specs.declared.fault.FaultKind.{FaultKind}
use Rattle.check_rules.specs.declared.state.Stage.{Stage}
use Rattle.check_rules.specs.ExpressionRules.{Node, Shape}
use Rattle.check_rules.specs.Declarations as declarations
use Rattle.check_rules.specs.Initializers as initializers
use Rattle.check_rules.specs.Walk as walk
use Rattle.check_rules.specs.Walk.{Start, Nothing, Value, Values, InitParts, Declarations, SuffixWalk, TypeWalk}
use Rattle.wf_growth_rules.specs.Light.{Bounded, LightNode, LightShape, LightSuffix, LightNamed, LightType, Each, none}
use Rattle.wf_growth_rules.specs.Light.{more}
use Rattle.wf_growth_rules.proofs.Walks.{weak, pure_light, lift_light, bind_light}
use Rattle.wf_growth_rules.proofs.States.{local_light, list_parameter_light}
use Rattle.wf_growth_rules.proofs.Statements.{each_step_light}
use Rattle.wf_growth_rules.specs.Parts.{LightSuffixWalk, LightTypeWalk, LightStart, nothing, value, values, LightInit}
use Rattle.wf_growth_rules.specs.Parts.{LightDeclarations}

-- ---- declarators

each_suffix : (ss : List SuffixWalk) {w : ℕ} → Each LightSuffixWalk w ss → Each LightSuffix w (walk.suffix_walks ss)
each_suffix [] none = none
each_suffix (s ∷ ss) (more h hs) = more h (each_suffix ss hs)

pub each_parameter : (ps : List TypeWalk) {w : ℕ} → Each LightTypeWalk w ps → Each LightType w (walk.type_walks ps)
each_parameter [] none = none
each_parameter (p ∷ ps) (more h hs) = more h (each_parameter ps hs)

pub declarator_light : {v w : ℕ} (core : Shape) (suffixes : List SuffixWalk) (prefixes : List Prefix) →
    LightShape v core → Each LightSuffixWalk w suffixes →
    LightShape (1 + (v + w)) (walk.declarator_of core suffixes prefixes)
declarator_light core suffixes prefixes h hs = record {
  at = λ g. weak _ (bind_light (h.at g)
      (λ ss. bind_light (each_step_light (walk.suffix_walks suffixes) ss g (each_suffix suffixes hs))
      (λ all. pure_light _))) (omega arith);
}

pub typename_light : {w : ℕ} (b : Base) (d : Shape) → LightShape w d → LightNamed (1 + w) (walk.typename_of b d)
typename_light b d h = record { at = λ line g. weak _ (bind_light (h.at g) (λ ss. lift_light _)) (omega arith) }

declare_parameter_light : (g : Stage) (line : ℕ) (n : Option (ℕ × Name)) (t : CType) →
    Bounded 0 (declarations.declare_parameter g line n t)
declare_parameter_light g line None t = pure_light tt
declare_parameter_light g line (Some p) t = list_parameter_light g line p.1 t

pub parameter_light : {w : ℕ} (line : ℕ) (b : Base) (d : Shape) → LightShape w d →
    LightType (1 + w) (walk.parameter_walk line b d)
parameter_light line b d h = record {
  at = λ g. weak _ (bind_light (h.at g)
      (λ ss. bind_light (lift_light _)
      (λ t. bind_light (declare_parameter_light g line d.declared.name t) (λ u. pure_light t)))) (omega arith);
}

-- ---- initializers

elements_light : (es : List Node) {w : ℕ} (t : CType) (broken : Option FaultKind) (g : Stage) → Each LightNode w es →
    Bounded w (walk.elements es t broken g)
elements_light [] t broken g none = pure_light broken
elements_light (e ∷ es) t broken g (more h hs) =
    bind_light (h.at g) (λ o. elements_light es t (initializers.element o t broken) g hs)

begin_light : {w : ℕ} (line : ℕ) (g : Stage) (p : Operand) (start : Start) → LightStart w start →
    Bounded w (walk.begin line g p start)
begin_light line g p Nothing nothing = weak _ (pure_light []) (omega arith)
begin_light line g p (Value e) (value h) = weak _ (bind_light (h.at g) (λ o. lift_light _)) (omega arith)
begin_light line g p (Values es) (values le hs) =
    weak _ (bind_light (elements_light es (inner p.ctype) None g hs)
    (λ broken. lift_light (initializers.from_list line (initializers.is_array p.ctype) (initializers.has_size p.ctype)
    broken))) (omega arith)

-- ---- declarations in a block

local_type_light : {w : ℕ} (line : ℕ) (b : Base) (g : Stage) (d : Shape) (start : Start) → LightShape w d →
    Bounded w (walk.local_type line b g d start)
local_type_light line b g d start h = weak _ (bind_light (h.at g) (λ ss. lift_light _)) (omega arith)

declare_one_light : {w : ℕ} (line : ℕ) (b : Base) (g : Stage) (i : InitParts) → LightInit w i →
    Bounded w (walk.declare_one line b g i)
declare_one_light line b g i h =
    weak _ (bind_light (lift_light _)
    (λ u. bind_light (local_type_light line b g i.shape i.start h.shape)
    (λ t. bind_light (local_light g line (declarations.name_by i.shape.declared.name) t)
    (λ p. begin_light line g p i.start h.start)))) (omega arith)

declare_each_light : (is : List InitParts) {w : ℕ} (line : ℕ) (b : Base) (g : Stage) → Each LightInit w is →
    Bounded w (walk.declare_each line b g is)
declare_each_light [] line b g none = pure_light []
declare_each_light (i ∷ is) line b g (more h hs) =
    weak _ (bind_light (declare_one_light line b g i h)
    (λ xs. bind_light (declare_each_light is line b g hs) (λ ys. pure_light (xs ++ ys)))) (omega arith)

pub declaration_light : {w : ℕ} (d : Declarations) (g : Stage) → LightDeclarations w d →
    Bounded w (walk.declaration_walk d g)
declaration_light d g h = weak _ (declare_each_light d.inits d.line d.base g h.inits) (omega arith)
