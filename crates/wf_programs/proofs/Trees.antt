-- The law on small trees: an induction over their parts, each of which is small. Written by tools/checker/walks.py.
use Rattle.std.proofs.Common.{◌≡◌, ℕ, ◌≤◌, List}
use Rattle.tick_tree.specs.declared.syntax.Core.{roll-Core}
use Rattle.tick_tree.specs.declared.syntax.Expr.{Expr, roll-Expr}
use Rattle.tick_tree.specs.declared.syntax.Initializer.{Initializer, roll-Initializer}
use Rattle.tick_tree.specs.declared.syntax.OptionalExpr.{roll-OptionalExpr}
use Rattle.tick_tree.specs.declared.syntax.Stmt.{Stmt, roll-Stmt}
use Rattle.tick_tree.specs.declared.syntax.Suffix.{roll-Suffix}
use Rattle.tick_tree.specs.declared.syntax.Declaration.{Declaration, roll-Declaration}
use Rattle.tick_tree.specs.declared.syntax.Declarator.{Declarator, roll-Declarator}
use Rattle.tick_tree.specs.declared.syntax.Init.{roll-Init}
use Rattle.tick_tree.specs.declared.syntax.Parameter.{roll-Parameter}
use Rattle.tick_tree.specs.declared.syntax.Typename.{roll-Typename}
use Rattle.check_rules.specs.Walk.{core, node, initializer, optional, item, suffix, declaration, shape, init, parameter}
use Rattle.check_rules.specs.Walk.{named}
use Rattle.tick_tree.specs.Weights.{core_weight, weight, initializer_weight, optional_weight, statement_weight}
use Rattle.tick_tree.specs.Weights.{suffix_weight, declaration_weight, declarator_weight, init_weight, parameter_weight}
use Rattle.tick_tree.specs.Weights.{typename_weight}
use Rattle.syntax_size.proofs.Small.{expr_small, initializer_small, stmt_small, declaration_small, declarator_small}
use Rattle.wf_walk.proofs.Induction.{Core-T, Expr-T, Initializer-T, OptionalExpr-T, Stmt-T, Suffix-T, Declaration-T}
use Rattle.wf_walk.proofs.Induction.{Declarator-T, Init-T, Parameter-T, Typename-T, Core-K, Expr-K, Initializer-K}
use Rattle.wf_walk.proofs.Induction.{OptionalExpr-K, Stmt-K, Suffix-K, Declaration-K, Declarator-K, Init-K, Parameter-K}
use Rattle.wf_walk.proofs.Induction.{Typename-K, firstCore, firstExpr, firstInitializer, firstOptionalExpr, firstStmt}
use Rattle.wf_walk.proofs.Induction.{firstSuffix, firstDeclaration, firstDeclarator, firstInit, firstParameter}
use Rattle.wf_walk.proofs.Induction.{firstTypename, step_core, step_expr, step_initializer, step_optional, step_stmt}
use Rattle.wf_walk.proofs.Induction.{step_suffix, step_declaration, step_declarator, step_init, step_parameter}
use Rattle.wf_walk.proofs.Induction.{step_typename}
use Rattle.check_rules.specs.Bounds.{count_bound}
use Rattle.wf_programs.specs.Good.{good, FewExpr}
use Rattle.wf_programs.specs.Small.{SmallAreGood}
use Rattle.wf_programs.proofs.Few.{few_expr}
use Rattle.wf_programs.proofs.Rules.{good_core, good_expr, good_initializer, good_optional, good_stmt, good_suffix}
use Rattle.wf_programs.proofs.Rules.{good_declaration, good_declarator, good_init, good_parameter, good_typename}

-- ---- a layer of a small tree

at_core : (many : List ℕ) (x : Core-T) (y : Core-K (good many)) → firstCore (good many) y ≡ x →
    core_weight (roll-Core x) ≤ count_bound → (good many).shape (core (roll-Core x))
at_core many x y is h = step_core (good many) (λ w. Unit {0}) (λ w p u. good_core many w p) x y is tt

at_expr : (many : List ℕ) (x : Expr-T) (y : Expr-K (good many)) → firstExpr (good many) y ≡ x →
    weight (roll-Expr x) ≤ count_bound → (good many).node (node (roll-Expr x))
at_expr many x y is h = step_expr (good many) FewExpr (good_expr many) x y is (few_expr x h)

at_initializer : (many : List ℕ) (x : Initializer-T) (y : Initializer-K (good many)) →
    firstInitializer (good many) y ≡ x → initializer_weight (roll-Initializer x) ≤ count_bound →
    (good many).start (initializer (roll-Initializer x))
at_initializer many x y is h =
    step_initializer (good many) (λ w. Unit {0}) (λ w p u. good_initializer many w p) x y is tt

at_optional : (many : List ℕ) (x : OptionalExpr-T) (y : OptionalExpr-K (good many)) →
    firstOptionalExpr (good many) y ≡ x → optional_weight (roll-OptionalExpr x) ≤ count_bound →
    (good many).optional (optional (roll-OptionalExpr x))
at_optional many x y is h = step_optional (good many) (λ w. Unit {0}) (λ w p u. good_optional many w p) x y is tt

at_stmt : (many : List ℕ) (x : Stmt-T) (y : Stmt-K (good many)) → firstStmt (good many) y ≡ x →
    statement_weight (roll-Stmt x) ≤ count_bound → (good many).item (item (roll-Stmt x))
at_stmt many x y is h = step_stmt (good many) (λ w. Unit {0}) (λ w p u. good_stmt many w p) x y is tt

at_suffix : (many : List ℕ) (x : Suffix-T) (y : Suffix-K (good many)) → firstSuffix (good many) y ≡ x →
    suffix_weight (roll-Suffix x) ≤ count_bound → (good many).suffix (suffix (roll-Suffix x))
at_suffix many x y is h = step_suffix (good many) (λ w. Unit {0}) (λ w p u. good_suffix many w p) x y is tt

at_declaration : (many : List ℕ) (x : Declaration-T) (y : Declaration-K (good many)) →
    firstDeclaration (good many) y ≡ x → declaration_weight (roll-Declaration x) ≤ count_bound →
    (good many).declarations (declaration (roll-Declaration x))
at_declaration many x y is h =
    step_declaration (good many) (λ w. Unit {0}) (λ w p u. good_declaration many w p) x y is tt

at_declarator : (many : List ℕ) (x : Declarator-T) (y : Declarator-K (good many)) → firstDeclarator (good many) y ≡ x →
    declarator_weight (roll-Declarator x) ≤ count_bound → (good many).shape (shape (roll-Declarator x))
at_declarator many x y is h = step_declarator (good many) (λ w. Unit {0}) (λ w p u. good_declarator many w p) x y is tt

at_init : (many : List ℕ) (x : Init-T) (y : Init-K (good many)) → firstInit (good many) y ≡ x →
    init_weight (roll-Init x) ≤ count_bound → (good many).init (init (roll-Init x))
at_init many x y is h = step_init (good many) (λ w. Unit {0}) (λ w p u. good_init many w p) x y is tt

at_parameter : (many : List ℕ) (x : Parameter-T) (y : Parameter-K (good many)) → firstParameter (good many) y ≡ x →
    parameter_weight (roll-Parameter x) ≤ count_bound → (good many).parameter (parameter (roll-Parameter x))
at_parameter many x y is h = step_parameter (good many) (λ w. Unit {0}) (λ w p u. good_parameter many w p) x y is tt

at_typename : (many : List ℕ) (x : Typename-T) (y : Typename-K (good many)) → firstTypename (good many) y ≡ x →
    typename_weight (roll-Typename x) ≤ count_bound → (good many).named (named (roll-Typename x))
at_typename many x y is h = step_typename (good many) (λ w. Unit {0}) (λ w p u. good_typename many w p) x y is tt

-- ---- trees

small_expr : (many : List ℕ) (x : Expr) → weight x ≤ count_bound → (good many).node (node x)
small_expr many = expr_small count_bound (λ x. (good many).shape (core x)) (λ x. (good many).node (node x))
    (λ x. (good many).start (initializer x)) (λ x. (good many).optional (optional x)) (λ x. (good many).item (item x))
    (λ x. (good many).suffix (suffix x)) (λ x. (good many).declarations (declaration x))
    (λ x. (good many).shape (shape x)) (λ x. (good many).init (init x)) (λ x. (good many).parameter (parameter x))
    (λ x. (good many).named (named x)) (at_core many) (at_expr many) (at_initializer many) (at_optional many)
    (at_stmt many) (at_suffix many) (at_declaration many) (at_declarator many) (at_init many) (at_parameter many)
    (at_typename many)

small_stmt : (many : List ℕ) (x : Stmt) → statement_weight x ≤ count_bound → (good many).item (item x)
small_stmt many = stmt_small count_bound (λ x. (good many).shape (core x)) (λ x. (good many).node (node x))
    (λ x. (good many).start (initializer x)) (λ x. (good many).optional (optional x)) (λ x. (good many).item (item x))
    (λ x. (good many).suffix (suffix x)) (λ x. (good many).declarations (declaration x))
    (λ x. (good many).shape (shape x)) (λ x. (good many).init (init x)) (λ x. (good many).parameter (parameter x))
    (λ x. (good many).named (named x)) (at_core many) (at_expr many) (at_initializer many) (at_optional many)
    (at_stmt many) (at_suffix many) (at_declaration many) (at_declarator many) (at_init many) (at_parameter many)
    (at_typename many)

small_declarator : (many : List ℕ) (x : Declarator) → declarator_weight x ≤ count_bound → (good many).shape (shape x)
small_declarator many = declarator_small count_bound (λ x. (good many).shape (core x)) (λ x. (good many).node (node x))
    (λ x. (good many).start (initializer x)) (λ x. (good many).optional (optional x)) (λ x. (good many).item (item x))
    (λ x. (good many).suffix (suffix x)) (λ x. (good many).declarations (declaration x))
    (λ x. (good many).shape (shape x)) (λ x. (good many).init (init x)) (λ x. (good many).parameter (parameter x))
    (λ x. (good many).named (named x)) (at_core many) (at_expr many) (at_initializer many) (at_optional many)
    (at_stmt many) (at_suffix many) (at_declaration many) (at_declarator many) (at_init many) (at_parameter many)
    (at_typename many)

small_initializer : (many : List ℕ) (x : Initializer) → initializer_weight x ≤ count_bound →
    (good many).start (initializer x)
small_initializer many = initializer_small count_bound (λ x. (good many).shape (core x))
    (λ x. (good many).node (node x)) (λ x. (good many).start (initializer x)) (λ x. (good many).optional (optional x))
    (λ x. (good many).item (item x)) (λ x. (good many).suffix (suffix x)) (λ x. (good many).declarations (declaration x))
    (λ x. (good many).shape (shape x)) (λ x. (good many).init (init x)) (λ x. (good many).parameter (parameter x))
    (λ x. (good many).named (named x)) (at_core many) (at_expr many) (at_initializer many) (at_optional many)
    (at_stmt many) (at_suffix many) (at_declaration many) (at_declarator many) (at_init many) (at_parameter many)
    (at_typename many)

small_declaration : (many : List ℕ) (x : Declaration) → declaration_weight x ≤ count_bound →
    (good many).declarations (declaration x)
small_declaration many = declaration_small count_bound (λ x. (good many).shape (core x))
    (λ x. (good many).node (node x)) (λ x. (good many).start (initializer x)) (λ x. (good many).optional (optional x))
    (λ x. (good many).item (item x)) (λ x. (good many).suffix (suffix x)) (λ x. (good many).declarations (declaration x))
    (λ x. (good many).shape (shape x)) (λ x. (good many).init (init x)) (λ x. (good many).parameter (parameter x))
    (λ x. (good many).named (named x)) (at_core many) (at_expr many) (at_initializer many) (at_optional many)
    (at_stmt many) (at_suffix many) (at_declaration many) (at_declarator many) (at_init many) (at_parameter many)
    (at_typename many)

pub small_are_good : (many : List ℕ) → SmallAreGood many
small_are_good many = record {
  node = small_expr many;
  item = small_stmt many;
  shape = small_declarator many;
  start = small_initializer many;
  declaration = small_declaration many;
}
