-- The walk over a tree: the rules of the productions, tied by the fold over the types of the tree. Each value of the
-- tree becomes what its parent asks of it: how it is written, and the walk over it.
use Rattle.std.specs.Prelude.{◌≡◌, ℕ, ◌+◌, min, Bool, true, false, ◌&&◌, ◌||◌, if◌then◌else◌, List, [], ◌∷◌, ◌++◌}
use Rattle.std.specs.Prelude.{length, map, Option, Some, None, is_some, Result, Ok, Err}
use Rattle.c_types.specs.declared.ctype.CType.{CType}
use Rattle.check_declarators.specs.declared.steps.Role.TheVariants as role
use Rattle.check_declarators.specs.declared.steps.Step.{Step}
use Rattle.check_declarators.specs.Making.{declared_type}
use Rattle.check_declarators.specs.Steps.{prefixed, filled}
use Rattle.check_declarators.specs.Words as words
use Rattle.check_forms.specs.Forms as forms
use Rattle.check_forms.specs.Forms.{Name, Written, Declared}
use Rattle.tick_tree.specs.declared.base.Base.{Base}
use Rattle.tick_tree.specs.declared.base.Prefix.{Prefix}
use Rattle.tick_tree.specs.declared.syntax.Core.{Core}
use Rattle.tick_tree.specs.declared.syntax.Declaration.{Declaration}
use Rattle.tick_tree.specs.declared.syntax.Declarator.{Declarator}
use Rattle.tick_tree.specs.declared.syntax.Expr.{Expr}
use Rattle.tick_tree.specs.declared.syntax.Init.{Init}
use Rattle.tick_tree.specs.declared.syntax.Initializer.{Initializer}
use Rattle.tick_tree.specs.declared.syntax.OptionalExpr.{OptionalExpr}
use Rattle.tick_tree.specs.declared.syntax.Parameter.{Parameter}
use Rattle.tick_tree.specs.declared.syntax.Stmt.{Stmt}
use Rattle.tick_tree.specs.declared.syntax.Suffix.{Suffix}
use Rattle.tick_tree.specs.declared.syntax.Typename.{Typename}
use Rattle.tick_tree.specs.declared.syntax.Core.TheOpen.{Core-F, Declaration-F, Declarator-F, Expr-F, Init-F}
use Rattle.tick_tree.specs.declared.syntax.Core.TheOpen.{Initializer-F, OptionalExpr-F, Parameter-F, Stmt-F, Suffix-F}
use Rattle.tick_tree.specs.declared.syntax.Core.TheOpen.{Typename-F}
use Rattle.tick_tree.specs.declared.syntax.Core.TheFolds.{fold-Core, fold-Declaration, fold-Declarator, fold-Expr}
use Rattle.tick_tree.specs.declared.syntax.Core.TheFolds.{fold-Init, fold-Initializer, fold-OptionalExpr}
use Rattle.tick_tree.specs.declared.syntax.Core.TheFolds.{fold-Parameter, fold-Stmt, fold-Suffix, fold-Typename}
use Rattle.tick_tree.specs.declared.fault.FaultKind.{FaultKind}
use Rattle.tick_tree.specs.Faults.{Checked, refuse, ◌>>=◌ as ◌>>>=◌}
use Rattle.check_types.specs.Shapes.{inner}
use Rattle.check_operands.specs.declared.operand.Operand.{Operand}
use Rattle.check_operands.specs.declared.arguments.Arguments.{Arguments}
use Rattle.check_operands.specs.Calls as calls
use Rattle.typed_tree.specs.declared.expression.Stmt.{Stmt as Act}
use Rattle.check_rules.specs.declared.state.Around.{Around}
use Rattle.check_rules.specs.declared.state.Stage.{Stage}
use Rattle.check_rules.specs.declared.state.State.{State}
use Rattle.check_rules.specs.Walks.{Rule, ◌>>=◌, pure, lift}
use Rattle.check_rules.specs.ExpressionRules as rules
use Rattle.check_rules.specs.ExpressionRules.{Node, Named, Shape, Item, each, walk_rule}
use Rattle.check_rules.specs.Declarations as declarations
use Rattle.check_rules.specs.Initializers as initializers
use Rattle.check_rules.specs.StatementRules.{stmt_walk, suffix_rule, each_step}

-- ---- what is known of the other parts

-- what a declared name begins with: nothing, one value, or a list of values
pub data Start : Type 0 where
  Nothing : Start
  Value : Node → Start
  Values : List Node → Start

pub record InitParts : Type 0 where
  pub shape : Shape
  pub start : Start

-- a declaration in a block
pub record Declarations : Type 0 where
  pub line : ℕ
  pub base : Base
  pub inits : List InitParts

-- a suffix: whether a cspec or vspec is written in its list, and the walk over it, which gives a step
pub record SuffixWalk : Type 0 where
  pub staged : Bool
  pub walk : Stage → Rule State Step

-- a parameter: whether a cspec or vspec is written in it, and the walk over it, which gives its type
pub record TypeWalk : Type 0 where
  pub staged : Bool
  pub walk : Stage → Rule State CType

abbrev pub suffix_walks : List SuffixWalk → List (Stage → Rule State Step)
suffix_walks [] = []
suffix_walks (s ∷ ss) = s.walk ∷ suffix_walks ss

abbrev pub type_walks : List TypeWalk → List (Stage → Rule State CType)
type_walks [] = []
type_walks (p ∷ ps) = p.walk ∷ type_walks ps

abbrev pub any_suffix : List SuffixWalk → Bool
any_suffix [] = false
any_suffix (s ∷ ss) = s.staged || any_suffix ss

abbrev pub any_parameter : List TypeWalk → Bool
any_parameter [] = false
any_parameter (p ∷ ps) = p.staged || any_parameter ps

-- ---- a layer of the tree, with what is known of its parts in their places

abbrev pub Core-W : Type 0
Core-W = Core-F Shape Node Start (Option Node) Item SuffixWalk Declarations Shape InitParts TypeWalk Named

abbrev pub Expr-W : Type 0
Expr-W = Expr-F Shape Node Start (Option Node) Item SuffixWalk Declarations Shape InitParts TypeWalk Named

abbrev pub Initializer-W : Type 0
Initializer-W = Initializer-F Shape Node Start (Option Node) Item SuffixWalk Declarations Shape InitParts TypeWalk Named

abbrev pub OptionalExpr-W : Type 0
OptionalExpr-W = OptionalExpr-F Shape Node Start (Option Node) Item SuffixWalk Declarations Shape InitParts TypeWalk
    Named

abbrev pub Stmt-W : Type 0
Stmt-W = Stmt-F Shape Node Start (Option Node) Item SuffixWalk Declarations Shape InitParts TypeWalk Named

abbrev pub Suffix-W : Type 0
Suffix-W = Suffix-F Shape Node Start (Option Node) Item SuffixWalk Declarations Shape InitParts TypeWalk Named

abbrev pub Declaration-W : Type 0
Declaration-W = Declaration-F Shape Node Start (Option Node) Item SuffixWalk Declarations Shape InitParts TypeWalk Named

abbrev pub Declarator-W : Type 0
Declarator-W = Declarator-F Shape Node Start (Option Node) Item SuffixWalk Declarations Shape InitParts TypeWalk Named

abbrev pub Init-W : Type 0
Init-W = Init-F Shape Node Start (Option Node) Item SuffixWalk Declarations Shape InitParts TypeWalk Named

abbrev pub Parameter-W : Type 0
Parameter-W = Parameter-F Shape Node Start (Option Node) Item SuffixWalk Declarations Shape InitParts TypeWalk Named

abbrev pub Typename-W : Type 0
Typename-W = Typename-F Shape Node Start (Option Node) Item SuffixWalk Declarations Shape InitParts TypeWalk Named

-- ---- the rules

abbrev pub nothing : Rule State (List Step)
nothing = pure []

abbrev pub core_rule : Core-W → Shape
core_rule Core-F.Core::Absent =
    record { declared = record { plain = true; name = None; staged = false }; walk = λ g. nothing }
core_rule (Core-F.Core::Name n text) =
    record { declared = record { plain = true; name = Some (n, text); staged = false }; walk = λ g. nothing }
core_rule (Core-F.Core::Paren d) = d

abbrev pub declarator_walk : Shape → List SuffixWalk → List Prefix → Stage → Rule State (List Step)
declarator_walk core suffixes prefixes g =
    core.walk g >>= (λ ss. each_step (suffix_walks suffixes) ss g >>= (λ all. pure (prefixed prefixes all)))

-- a declarator by its parts
abbrev pub declarator_of : Shape → List SuffixWalk → List Prefix → Shape
declarator_of core suffixes prefixes = record {
  declared = record {
    plain = forms.is_nil prefixes && core.declared.plain && forms.is_nil suffixes;
    name = core.declared.name;
    staged = forms.any_staged_prefix prefixes || core.declared.staged || any_suffix suffixes;
  };
  walk = declarator_walk core suffixes prefixes;
}

abbrev pub declarator_rule : Declarator-W → Shape
declarator_rule d = declarator_of d.core d.suffixes d.prefixes

-- the type that a base and a declarator make, with the line of the node that the type name is in
abbrev pub typename_walk : Base → Shape → ℕ → Stage → Rule State CType
typename_walk b d line g = d.walk g >>= (λ ss. lift (declared_type role.Typename line (words.base_of b) ss))

abbrev pub typename_of : Base → Shape → Named
typename_of b d = record { integer = forms.is_some_type b && d.declared.plain; walk = typename_walk b d }

abbrev pub typename_rule : Typename-W → Named
typename_rule t = typename_of t.base t.declarator

-- the type of a parameter, which gets its name
abbrev pub parameter_walk : ℕ → Base → Shape → Stage → Rule State CType
parameter_walk line b d g =
    d.walk g >>= (λ ss. lift (declared_type role.Parameter line (words.base_of b) ss)
    >>= (λ t. declarations.declare_parameter g line d.declared.name t >>= (λ u. pure t)))

abbrev pub parameter_rule : Parameter-W → TypeWalk
parameter_rule p = record { staged = p.declarator.declared.staged; walk = parameter_walk p.line p.base p.declarator }

abbrev pub written_rule : Expr-W → Written
written_rule (Expr-F.Expr::Name n text) = record { constant = false; name = Some text; string = None }
written_rule (Expr-F.Number value unsigned) = forms.nameless true
written_rule (Expr-F.Character value) = forms.nameless true
written_rule (Expr-F.String bytes) = record { constant = false; name = None; string = Some bytes }
written_rule (Expr-F.Expr::Paren a) = a.written
written_rule (Expr-F.Unary n o a) = forms.nameless a.written.constant
written_rule (Expr-F.Cast n t a) = forms.nameless (t.integer && a.written.constant)
written_rule (Expr-F.Sizeof n t) = forms.nameless true
written_rule (Expr-F.Binary n o p) = forms.nameless (forms.is_strict o && p.0.written.constant && p.1.written.constant)
written_rule _ = forms.nameless false

abbrev pub expr_walk : Expr-W → Stage → Rule State Operand
expr_walk e = walk_rule e

abbrev pub expr_rule : Expr-W → Node
expr_rule e = record { written = written_rule e; walk = expr_walk e }

abbrev pub optional_rule : OptionalExpr-W → Option Node
optional_rule OptionalExpr-F.OptionalExpr::Absent = None
optional_rule (OptionalExpr-F.Present e) = Some e

abbrev pub start_rule : Initializer-W → Start
start_rule Initializer-F.Initializer::Absent = Nothing
start_rule (Initializer-F.Value e) = Value e
start_rule (Initializer-F.List es comma) = Values es

abbrev pub init_rule : Init-W → InitParts
init_rule i = record { shape = i.declarator; start = i.value }

abbrev pub declaration_rule : Declaration-W → Declarations
declaration_rule d = record { line = d.line; base = d.base; inits = d.inits }

-- ---- declarations in a block

-- the steps with the count of an initializer's values, where the array lacks a length
abbrev pub with_start : Start → List Step → List Step
with_start Nothing ss = ss
with_start (Value e) ss = filled (declarations.value_count e.written.string) ss
with_start (Values es) ss = filled (declarations.list_count es) ss

-- what the values of a list break as elements of this type, behind those so far
abbrev pub elements : List Node → CType → Option FaultKind → Stage → Rule State (Option FaultKind)
elements [] t broken g = pure broken
elements (e ∷ es) t broken g = e.walk g >>= (λ o. elements es t (initializers.element o t broken) g)

abbrev pub begin_value : ℕ → Stage → Operand → Node → Rule State (List Act)
begin_value line g p e = e.walk g >>= (λ o. lift (initializers.from_value line p (is_some e.written.string) o))

abbrev pub begin_list : ℕ → Stage → Operand → List Node → Rule State (List Act)
begin_list line g p es =
    elements es (inner p.ctype) None g >>=
    (λ broken. lift (initializers.from_list line (initializers.is_array p.ctype) (initializers.has_size p.ctype)
    broken))

-- a variable begins with this
abbrev pub begin : ℕ → Stage → Operand → Start → Rule State (List Act)
begin line g p Nothing = pure []
begin line g p (Value e) = begin_value line g p e
begin line g p (Values es) = begin_list line g p es

-- the type of a declared variable, after the lengths and lists of its declarator
abbrev pub local_type : ℕ → Base → Stage → Shape → Start → Rule State CType
local_type line b g d start =
    d.walk g >>= (λ ss. lift (declarations.declared_in g line (words.base_of b) (with_start start ss)))

-- its type, its name, its initializer
abbrev pub declare_parts : ℕ → Base → Stage → Shape → Start → Rule State (List Act)
declare_parts line b g d start =
    local_type line b g d start >>= (λ t. declarations.declare g line d.declared.name t >>= (λ p. begin line g p start))

-- what is checked as it is entered comes before
abbrev pub declare_by : ℕ → Base → Stage → Shape → Start → Rule State (List Act)
declare_by line b g d start =
    lift (declarations.entered g line d.declared.staged) >>= (λ u. declare_parts line b g d start)

-- one declarator of a declaration
abbrev pub declare_one : ℕ → Base → Stage → InitParts → Rule State (List Act)
declare_one line b g i = declare_by line b g i.shape i.start

abbrev pub declare_each : ℕ → Base → Stage → List InitParts → Rule State (List Act)
declare_each line b g [] = pure []
declare_each line b g (i ∷ is) = declare_one line b g i >>= (λ xs. declare_each line b g is >>= (λ ys. pure (xs ++ ys)))

-- a declaration in a block
abbrev pub declaration_walk : Declarations → Stage → Rule State (List Act)
declaration_walk d g = declare_each d.line d.base g d.inits

abbrev pub is_empty_rule : Stmt-W → Bool
is_empty_rule Stmt-F.Empty = true
is_empty_rule _ = false

abbrev pub statement_walk : Stmt-W → Around → Rule State (List Act)
statement_walk s = stmt_walk declaration_walk s

abbrev pub stmt_rule : Stmt-W → Item
stmt_rule s = record { is_empty = is_empty_rule s; walk = statement_walk s }

abbrev pub is_staged_suffix : Suffix-W → Bool
is_staged_suffix (Suffix-F.Array e) = false
is_staged_suffix Suffix-F.Unlisted = false
is_staged_suffix Suffix-F.Nothing = false
is_staged_suffix (Suffix-F.Listed ps) = any_parameter ps

-- a suffix with the walks over its parts alone
abbrev pub suffix_of : Suffix-W →
    Suffix-F Shape Node Start (Option Node) Item (Stage → Rule State Step) Declarations Shape InitParts
    (Stage → Rule State CType) Named
suffix_of (Suffix-F.Array e) = Suffix-F.Array e
suffix_of Suffix-F.Unlisted = Suffix-F.Unlisted
suffix_of Suffix-F.Nothing = Suffix-F.Nothing
suffix_of (Suffix-F.Listed ps) = Suffix-F.Listed (type_walks ps)

abbrev pub suffix_steps : Suffix-W → Stage → Rule State Step
suffix_steps s = suffix_rule (suffix_of s)

abbrev pub suffix_walk : Suffix-W → SuffixWalk
suffix_walk s = record { staged = is_staged_suffix s; walk = suffix_steps s }

-- ---- the walk over each type of the tree

unfoldable pub core : Core → Shape
core = fold-Core Shape Node Start (Option Node) Item SuffixWalk Declarations Shape InitParts TypeWalk Named core_rule
    expr_rule start_rule optional_rule stmt_rule suffix_walk declaration_rule declarator_rule init_rule parameter_rule
    typename_rule

unfoldable pub node : Expr → Node
node = fold-Expr Shape Node Start (Option Node) Item SuffixWalk Declarations Shape InitParts TypeWalk Named core_rule
    expr_rule start_rule optional_rule stmt_rule suffix_walk declaration_rule declarator_rule init_rule parameter_rule
    typename_rule

unfoldable pub optional : OptionalExpr → Option Node
optional = fold-OptionalExpr Shape Node Start (Option Node) Item SuffixWalk Declarations Shape InitParts TypeWalk Named
    core_rule expr_rule start_rule optional_rule stmt_rule suffix_walk declaration_rule declarator_rule init_rule
    parameter_rule typename_rule

unfoldable pub item : Stmt → Item
item = fold-Stmt Shape Node Start (Option Node) Item SuffixWalk Declarations Shape InitParts TypeWalk Named core_rule
    expr_rule start_rule optional_rule stmt_rule suffix_walk declaration_rule declarator_rule init_rule parameter_rule
    typename_rule

unfoldable pub suffix : Suffix → SuffixWalk
suffix = fold-Suffix Shape Node Start (Option Node) Item SuffixWalk Declarations Shape InitParts TypeWalk Named
    core_rule expr_rule start_rule optional_rule stmt_rule suffix_walk declaration_rule declarator_rule init_rule
    parameter_rule typename_rule

unfoldable pub declaration : Declaration → Declarations
declaration = fold-Declaration Shape Node Start (Option Node) Item SuffixWalk Declarations Shape InitParts TypeWalk
    Named core_rule expr_rule start_rule optional_rule stmt_rule suffix_walk declaration_rule declarator_rule init_rule
    parameter_rule typename_rule

unfoldable pub shape : Declarator → Shape
shape = fold-Declarator Shape Node Start (Option Node) Item SuffixWalk Declarations Shape InitParts TypeWalk Named
    core_rule expr_rule start_rule optional_rule stmt_rule suffix_walk declaration_rule declarator_rule init_rule
    parameter_rule typename_rule

unfoldable pub init : Init → InitParts
init = fold-Init Shape Node Start (Option Node) Item SuffixWalk Declarations Shape InitParts TypeWalk Named core_rule
    expr_rule start_rule optional_rule stmt_rule suffix_walk declaration_rule declarator_rule init_rule parameter_rule
    typename_rule

unfoldable pub initializer : Initializer → Start
initializer = fold-Initializer Shape Node Start (Option Node) Item SuffixWalk Declarations Shape InitParts TypeWalk
    Named core_rule expr_rule start_rule optional_rule stmt_rule suffix_walk declaration_rule declarator_rule init_rule
    parameter_rule typename_rule

unfoldable pub parameter : Parameter → TypeWalk
parameter = fold-Parameter Shape Node Start (Option Node) Item SuffixWalk Declarations Shape InitParts TypeWalk Named
    core_rule expr_rule start_rule optional_rule stmt_rule suffix_walk declaration_rule declarator_rule init_rule
    parameter_rule typename_rule

unfoldable pub named : Typename → Named
named = fold-Typename Shape Node Start (Option Node) Item SuffixWalk Declarations Shape InitParts TypeWalk Named
    core_rule expr_rule start_rule optional_rule stmt_rule suffix_walk declaration_rule declarator_rule init_rule
    parameter_rule typename_rule

-- ---- lists of these

abbrev pub items : List Stmt → Around → Rule State (List Act)
items ss a = each (map item ss) a

abbrev pub block : List Stmt → Around → Rule State Act
block ss a = rules.block (map item ss) a

abbrev pub arguments : List Expr → Arguments → Stage → Rule State Arguments
arguments es found g = rules.arguments (map node es) found g
