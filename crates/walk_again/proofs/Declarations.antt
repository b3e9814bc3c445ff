-- What the walk over a declarator or a declaration makes grow, by its parts.
use Rattle.std.proofs.Common.{ℕ, List, [], ◌∷◌, ◌++◌, Option, Some, None}
use Rattle.c_types.specs.declared.ctype.CType.{CType}
use Rattle.check_forms.specs.Forms.{Name}
use Rattle.check_operands.specs.declared.operand.Operand.{Operand}
use Rattle.check_types.specs.Shapes.{inner}
use Rattle.tick_tree.specs.declared.base.Base.{Base}
use Rattle.tick_tree.specs.declared.base.Prefix.{Prefix}
use Rattle.tick_tree.specs.declared.fault.FaultKind.{FaultKind}
use Rattle.check_rules.specs.declared.state.Stage.{Stage}
use Rattle.check_rules.specs.ExpressionRules.{Node, Shape}
use Rattle.check_rules.specs.Declarations as declarations
use Rattle.check_rules.specs.Initializers as initializers
use Rattle.check_rules.specs.Walk as walk
use Rattle.check_rules.specs.Walk.{Start, Nothing, Value, Values, InitParts, Declarations, SuffixWalk, TypeWalk}
use Rattle.walk_again.proofs.States.{local_again, list_parameter_again}
use Rattle.walk_again.proofs.Statements.{each_step_again}
use Rattle.wf_walk.specs.Parts.{EachPart}
use Rattle.walk_again.specs.Again.{Found, Again, AgainNode, AgainNamed, AgainShape, AgainSuffix}
use Rattle.walk_again.specs.Again.{AgainType, AgainStart, AgainInit, AgainDeclarations}
use Rattle.walk_again.specs.Again.{AgainSuffixWalk, AgainTypeWalk}
use Rattle.walk_again.proofs.Steps.{pure_again, lift_again, bind_again}

-- ---- declarators

each_suffix : (k : Found) (ss : List SuffixWalk) → EachPart (AgainSuffixWalk k) ss →
    EachPart (AgainSuffix k) (walk.suffix_walks ss)
each_suffix k [] u = tt
each_suffix k (s ∷ ss) h = (h.0, each_suffix k ss h.1)

pub each_parameter : (k : Found) (ps : List TypeWalk) → EachPart (AgainTypeWalk k) ps →
    EachPart (AgainType k) (walk.type_walks ps)
each_parameter k [] u = tt
each_parameter k (p ∷ ps) h = (h.0, each_parameter k ps h.1)

pub declarator_again : {k : Found} (core : Shape) (suffixes : List SuffixWalk) (prefixes : List Prefix) →
    AgainShape k core → EachPart (AgainSuffixWalk k) suffixes →
    AgainShape k (walk.declarator_of core suffixes prefixes)
declarator_again {k = k} core suffixes prefixes h hs = record {
  at = λ g. bind_again (h.at g)
      (λ ss. bind_again (each_step_again (walk.suffix_walks suffixes) ss g (each_suffix k suffixes hs))
      (λ all. pure_again _));
}

pub typename_again : {k : Found} (b : Base) (d : Shape) → AgainShape k d → AgainNamed k (walk.typename_of b d)
typename_again b d h = record { at = λ line g. bind_again (h.at g) (λ ss. lift_again _) }

declare_parameter_again : {k : Found} (g : Stage) (line : ℕ) (n : Option (ℕ × Name)) (t : CType) →
    Again k (declarations.declare_parameter g line n t)
declare_parameter_again g line None t = pure_again tt
declare_parameter_again g line (Some p) t = list_parameter_again g line p.1 t

pub parameter_again : {k : Found} (line : ℕ) (b : Base) (d : Shape) → AgainShape k d →
    AgainType k (walk.parameter_walk line b d)
parameter_again line b d h = record {
  at = λ g. bind_again (h.at g)
      (λ ss. bind_again (lift_again _)
      (λ t. bind_again (declare_parameter_again g line d.declared.name t) (λ u. pure_again t)));
}

-- ---- initializers

elements_again : {k : Found} (es : List Node) (t : CType) (broken : Option FaultKind) (g : Stage) →
    EachPart (AgainNode k) es →
    Again k (walk.elements es t broken g)
elements_again [] t broken g u = pure_again broken
elements_again (e ∷ es) t broken g h =
    bind_again (h.0.at g) (λ o. elements_again es t (initializers.element o t broken) g h.1)

begin_again : {k : Found} (line : ℕ) (g : Stage) (p : Operand) (start : Start) → AgainStart k start →
    Again k (walk.begin line g p start)
begin_again line g p Nothing u = pure_again []
begin_again line g p (Value e) h = bind_again (h.at g) (λ o. lift_again _)
begin_again line g p (Values es) hs =
    bind_again (elements_again es (inner p.ctype) None g hs)
    (λ broken. lift_again (initializers.from_list line (initializers.is_array p.ctype) (initializers.has_size p.ctype)
    broken))

-- ---- declarations in a block

local_type_again : {k : Found} (line : ℕ) (b : Base) (g : Stage) (d : Shape) (start : Start) → AgainShape k d →
    Again k (walk.local_type line b g d start)
local_type_again line b g d start h = bind_again (h.at g) (λ ss. lift_again _)

declare_one_again : {k : Found} (line : ℕ) (b : Base) (g : Stage) (i : InitParts) → AgainInit k i →
    Again k (walk.declare_one line b g i)
declare_one_again line b g i h =
    bind_again (lift_again _)
    (λ u. bind_again (local_type_again line b g i.shape i.start h.shape)
    (λ t. bind_again (local_again g line (declarations.name_by i.shape.declared.name) t)
    (λ p. begin_again line g p i.start h.start)))

declare_each_again : {k : Found} (is : List InitParts) (line : ℕ) (b : Base) (g : Stage) → EachPart (AgainInit k) is →
    Again k (walk.declare_each line b g is)
declare_each_again [] line b g u = pure_again []
declare_each_again (i ∷ is) line b g h =
    bind_again (declare_one_again line b g i h.0)
    (λ xs. bind_again (declare_each_again is line b g h.1) (λ ys. pure_again (xs ++ ys)))

pub declaration_again : {k : Found} (d : Declarations) (g : Stage) → AgainDeclarations k d →
    Again k (walk.declaration_walk d g)
declaration_again d g h = declare_each_again d.inits d.line d.base g h
