-- A declaration in a block whose declarators are good is good.
use Rattle.std.proofs.Common.{◌≡◌, ℕ, List, [], ◌∷◌, None, Ok, Err}
use Rattle.std.specs.Prelude.{Bool, true, false, is_some}
use Rattle.tick_tree.specs.declared.base.Base.{Base}
use Rattle.check_declarators.specs.declared.steps.Step.{Step}
use Rattle.check_declarators.specs.Words as words
use Rattle.tick_tree.specs.declared.fault.Fault.{Fault}
use Rattle.tick_tree.specs.Faults.{Checked}
use Rattle.typed_tree.specs.declared.expression.Stmt.{Stmt as Act}
use Rattle.check_types.specs.Shapes.{inner}
use Rattle.check_operands.specs.declared.operand.Operand.{Operand}
use Rattle.check_rules.specs.declared.state.Around.{Around as Standing}
use Rattle.check_rules.specs.declared.state.State.{State}
use Rattle.check_rules.specs.Walks.{Rule, ◌>>=◌, lift}
use Rattle.check_rules.specs.ExpressionRules.{Shape}
use Rattle.check_rules.specs.Declarations as declarations
use Rattle.check_rules.specs.Initializers as initializers
use Rattle.check_rules.specs.Walk.{Start, Nothing, Value, Values, InitParts, Declarations, Stmt-W, with_start}
use Rattle.check_rules.specs.Walk.{elements}
use Rattle.check_rules.specs.Walk.{begin, local_type, declare_parts, declare_one, declare_each, declaration_walk}
use Rattle.check_rules.specs.Walk.{stmt_rule}
use Rattle.wf_walk.specs.Good.{GoodShape, any_counted}
use Rattle.wf_walk.specs.Items.{MayStand, GoodStatement, GoodItem}
use Rattle.wf_walk.specs.Parts.{EachPart}
use Rattle.wf_walk.proofs.Declarators.{computed_start}
use Rattle.wf_walk.specs.StatementParts.{GoodDeclaration, GoodStatementParts, GoodBegin}
use Rattle.wf_walk.proofs.Assembly.{walk_good, statement_good}
use Rattle.wf_walk.proofs.Beginning.{nothing_good, value_good, list_good, declared_good, none_good, more_good}
use Rattle.wf_walk.proofs.Typing.{type_good}
use Rattle.wf_programs.specs.Parts.{GoodStart, GoodInit, GoodDeclarators}

-- a variable without an initializer
abbrev is_bare : Start → Bool
is_bare Nothing = true
is_bare _ = false

counted_start : (i : Start) → is_bare i ≡ true → (ss : List Step) → any_counted ss ≡ false →
    any_counted (with_start i ss) ≡ false
counted_start Nothing bare ss h = h
counted_start (Value e) bare ss h = absurd (cc)
counted_start (Values es) bare ss h = absurd (cc)

begin_good : (many : List ℕ) (a : Standing) (line : ℕ) (p : Operand) (i : Start) → GoodStart many i →
    GoodBegin many a (is_bare i) p (begin line a.stage p i)
begin_good many a line p Nothing h = nothing_good many a p
begin_good many a line p (Value e) h = value_good many a line p e (is_some e.written.string) h
begin_good many a line p (Values es) h =
    list_good many a line p (initializers.is_array p.ctype) (initializers.has_size p.ctype)
    (elements es (inner p.ctype) None a.stage)

parts_good : (many : List ℕ) (a : Standing) (line : ℕ) (b : Base) (d : Shape) (i : Start) → MayStand a.stage →
    GoodShape d → GoodStart many i → GoodStatement many a (declare_parts line b a.stage d i)
parts_good many a line b d i may h k =
    declared_good many a line d.declared.name (is_bare i) (local_type line b a.stage d i)
    (λ p. begin line a.stage p i) may
    (type_good a.stage line (words.base_of b) d (is_bare i) (with_start i) h (computed_start i) (counted_start i))
    (λ p. begin_good many a line p i k)

no_answer : {A B : Type 0} (f : Fault) (x : A) → ◌≡◌ {A = Checked A} (Err f) (Ok x) → B
no_answer f x e = cc

-- what is checked as a declarator is entered comes before
entered_good : (many : List ℕ) (a : Standing) (r : Checked (Unit {0})) (p : Rule State (List Act)) →
    GoodStatement many a p → GoodStatement many a (lift r >>= (λ u. p))
entered_good many a (Ok u) p h = h
entered_good many a (Err f) p h =
    statement_good a (◌>>=◌ {A = Unit {0}} (lift (Err f)) (λ u. p)) (λ s new xs e. no_answer f (xs, new) e)
    (λ b ks s new xs here known e. no_answer f (xs, new) e)

each_good : (many : List ℕ) (a : Standing) (line : ℕ) (b : Base) (is : List InitParts) → MayStand a.stage →
    EachPart (GoodInit many) is → GoodStatement many a (declare_each line b a.stage is)
each_good many a line b [] may h = none_good many a
each_good many a line b (i ∷ is) may h =
    more_good many a (declare_one line b a.stage i) (declare_each line b a.stage is) may
    (entered_good many a (declarations.entered a.stage line i.shape.declared.staged)
    (declare_parts line b a.stage i.shape i.start)
    (parts_good many a line b i.shape i.start may h.0.shape h.0.start))
    (each_good many a line b is may h.1)

pub declaration_good : (many : List ℕ) (d : Declarations) → GoodDeclarators many d →
    GoodDeclaration many (declaration_walk d)
declaration_good many d h a may = each_good many a d.line d.base d.inits may h

pub item_good : (many : List ℕ) (s : Stmt-W) → GoodStatementParts many declaration_walk s → GoodItem many (stmt_rule s)
item_good many s h = record { walk = λ a may. walk_good many declaration_walk s h a may }
