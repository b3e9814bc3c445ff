-- What the walk's fold knows of the way in which a part is written is what check_forms says of it. Written by
-- tools/checker/written.py.
use Rattle.std.proofs.Common.{◌≡◌, Bool, List, [], ◌∷◌, map, refl, ap, sym, ◌∙◌, subst}
use Rattle.std.specs.Prelude.{◌&&◌, ◌||◌, Option}
use Rattle.check_forms.specs.Forms as forms
use Rattle.check_forms.specs.Forms.{Written, Declared, nothing, Name}
use Rattle.tick_tree.specs.declared.syntax.Core.{Core}
use Rattle.tick_tree.specs.declared.syntax.Expr.{Expr}
use Rattle.tick_tree.specs.declared.syntax.Initializer.{Initializer}
use Rattle.tick_tree.specs.declared.syntax.OptionalExpr.{OptionalExpr}
use Rattle.tick_tree.specs.declared.syntax.Stmt.{Stmt}
use Rattle.tick_tree.specs.declared.syntax.Suffix.{Suffix}
use Rattle.tick_tree.specs.declared.syntax.Declaration.{Declaration}
use Rattle.tick_tree.specs.declared.syntax.Declarator.{Declarator}
use Rattle.tick_tree.specs.declared.syntax.Init.{Init}
use Rattle.tick_tree.specs.declared.syntax.Parameter.{Parameter}
use Rattle.tick_tree.specs.declared.syntax.Typename.{Typename}
use Rattle.tick_tree.specs.declared.syntax.Core.TheOpen.{Core-F, Expr-F, Suffix-F, Declarator-F, Parameter-F}
use Rattle.tick_tree.specs.declared.syntax.Core.TheOpen.{Typename-F}
use Rattle.tick_tree.specs.declared.syntax.Core.TheFolds.{ind-Core, ind-Expr, ind-Suffix, ind-Declarator, ind-Parameter}
use Rattle.tick_tree.specs.declared.syntax.Core.TheFolds.{ind-Typename, map-Core, map-Expr, map-Suffix, map-Declarator}
use Rattle.tick_tree.specs.declared.syntax.Core.TheFolds.{map-Parameter, map-Typename, fold-roll-Core, fold-roll-Expr}
use Rattle.tick_tree.specs.declared.syntax.Core.TheFolds.{fold-roll-Suffix, fold-roll-Declarator, fold-roll-Parameter}
use Rattle.tick_tree.specs.declared.syntax.Core.TheFolds.{fold-roll-Typename}
use Rattle.tick_tree.specs.declared.syntax.Core.{roll-Core}
use Rattle.tick_tree.specs.declared.syntax.Expr.{roll-Expr}
use Rattle.tick_tree.specs.declared.syntax.Suffix.{roll-Suffix}
use Rattle.tick_tree.specs.declared.syntax.Declarator.{roll-Declarator}
use Rattle.tick_tree.specs.declared.syntax.Parameter.{roll-Parameter}
use Rattle.tick_tree.specs.declared.syntax.Typename.{roll-Typename}
use Rattle.check_rules.specs.ExpressionRules.{Node, Named, Shape, Item}
use Rattle.check_rules.specs.Walk.{Start, InitParts, Declarations, SuffixWalk, TypeWalk, core_rule, expr_rule}
use Rattle.check_rules.specs.Walk.{start_rule, optional_rule, stmt_rule, suffix_walk, declaration_rule, declarator_rule}
use Rattle.check_rules.specs.Walk.{init_rule, parameter_rule, typename_rule, any_suffix, any_parameter, core, node}
use Rattle.check_rules.specs.Walk.{initializer, optional, item, suffix, declaration, shape, init, parameter, named}

abbrev CoreAgrees : Core → Type 0
CoreAgrees c = (core c).declared ≡ forms.declared_core c

abbrev ExprAgrees : Expr → Type 0
ExprAgrees e = (node e).written ≡ forms.written e

abbrev SuffixAgrees : Suffix → Type 0
SuffixAgrees s = (suffix s).staged ≡ forms.is_staged_suffix s

abbrev ParameterAgrees : Parameter → Type 0
ParameterAgrees p = (parameter p).staged ≡ forms.is_staged_parameter p

abbrev DeclaratorAgrees : Declarator → Type 0
DeclaratorAgrees d = (shape d).declared ≡ forms.declared d

abbrev TypenameAgrees : Typename → Type 0
TypenameAgrees t = (named t).integer ≡ forms.is_integer_name t

abbrev Any : {A : Type 0} → A → Type 0
Any x = Unit {0}

abbrev KnownCore : Type 0
KnownCore = (x : Core) × CoreAgrees x

abbrev KnownExpr : Type 0
KnownExpr = (x : Expr) × ExprAgrees x

abbrev KnownInitializer : Type 0
KnownInitializer = (x : Initializer) × Any x

abbrev KnownOptionalExpr : Type 0
KnownOptionalExpr = (x : OptionalExpr) × Any x

abbrev KnownStmt : Type 0
KnownStmt = (x : Stmt) × Any x

abbrev KnownSuffix : Type 0
KnownSuffix = (x : Suffix) × SuffixAgrees x

abbrev KnownDeclaration : Type 0
KnownDeclaration = (x : Declaration) × Any x

abbrev KnownDeclarator : Type 0
KnownDeclarator = (x : Declarator) × DeclaratorAgrees x

abbrev KnownInit : Type 0
KnownInit = (x : Init) × Any x

abbrev KnownParameter : Type 0
KnownParameter = (x : Parameter) × ParameterAgrees x

abbrev KnownTypename : Type 0
KnownTypename = (x : Typename) × TypenameAgrees x

nil_map : {A B : Type 0} → (f : A → B) (xs : List A) → forms.is_nil (map f xs) ≡ forms.is_nil xs
nil_map f [] = refl
nil_map f (x ∷ xs) = refl

staged_suffixes : (ss : List KnownSuffix) →
    any_suffix (map suffix (map (λ k. k.0) ss)) ≡ forms.any (map forms.is_staged_suffix (map (λ k. k.0) ss))
staged_suffixes [] = refl
staged_suffixes (s ∷ ss) =
    ap (λ b. b || any_suffix (map suffix (map (λ k. k.0) ss))) s.1
    ∙ ap (λ b. forms.is_staged_suffix s.0 || b) (staged_suffixes ss)

staged_parameters : (ps : List KnownParameter) →
    any_parameter (map parameter (map (λ k. k.0) ps)) ≡ forms.any (map forms.is_staged_parameter (map (λ k. k.0) ps))
staged_parameters [] = refl
staged_parameters (p ∷ ps) =
    ap (λ b. b || any_parameter (map parameter (map (λ k. k.0) ps))) p.1
    ∙ ap (λ b. forms.is_staged_parameter p.0 || b) (staged_parameters ps)

walk_core : (x : Core-F Core Expr Initializer OptionalExpr Stmt Suffix Declaration Declarator Init Parameter Typename) →
    core (roll-Core x) ≡ core_rule
    (map-Core Core Expr Initializer OptionalExpr Stmt Suffix Declaration Declarator Init Parameter Typename Shape Node
    Start (Option Node) Item SuffixWalk Declarations Shape InitParts TypeWalk Named core node initializer optional item
    suffix declaration shape init parameter named x)
unfolding core node initializer optional item suffix declaration shape init parameter named forms.written forms.declared
    forms.declared_core forms.is_staged_suffix forms.is_staged_parameter forms.is_integer_name
walk_core x = fold-roll-Core Shape Node Start (Option Node) Item SuffixWalk Declarations Shape InitParts TypeWalk Named
    core_rule expr_rule start_rule optional_rule stmt_rule suffix_walk declaration_rule declarator_rule init_rule
    parameter_rule typename_rule x

form_core : (x : Core-F Core Expr Initializer OptionalExpr Stmt Suffix Declaration Declarator Init Parameter Typename) →
    forms.declared_core (roll-Core x) ≡ forms.core_rule
    (map-Core Core Expr Initializer OptionalExpr Stmt Suffix Declaration Declarator Init Parameter Typename Declared
    Written (Unit {0}) (Unit {0}) (Unit {0}) Bool (Unit {0}) Declared (Unit {0}) Bool Bool forms.declared_core
    forms.written nothing nothing nothing forms.is_staged_suffix nothing forms.declared nothing forms.is_staged_parameter
    forms.is_integer_name x)
unfolding core node initializer optional item suffix declaration shape init parameter named forms.written forms.declared
    forms.declared_core forms.is_staged_suffix forms.is_staged_parameter forms.is_integer_name
form_core x = fold-roll-Core Declared Written (Unit {0}) (Unit {0}) (Unit {0}) Bool (Unit {0}) Declared (Unit {0}) Bool
    Bool forms.core_rule forms.expr_rule nothing nothing nothing forms.suffix_rule nothing forms.declarator_rule nothing
    forms.parameter_rule forms.typename_rule x

core_layer : (y : Core-F KnownCore KnownExpr KnownInitializer KnownOptionalExpr KnownStmt KnownSuffix KnownDeclaration
    KnownDeclarator KnownInit KnownParameter KnownTypename) →
    (core_rule (map-Core Core Expr Initializer OptionalExpr Stmt Suffix Declaration Declarator Init Parameter Typename
    Shape Node Start (Option Node) Item SuffixWalk Declarations Shape InitParts TypeWalk Named core node initializer
    optional item suffix declaration shape init parameter named
    (map-Core KnownCore KnownExpr KnownInitializer KnownOptionalExpr KnownStmt KnownSuffix KnownDeclaration
    KnownDeclarator KnownInit KnownParameter KnownTypename Core Expr Initializer OptionalExpr Stmt Suffix Declaration
    Declarator Init Parameter Typename (λ k. k.0) (λ k. k.0) (λ k. k.0) (λ k. k.0) (λ k. k.0) (λ k. k.0) (λ k. k.0)
    (λ k. k.0) (λ k. k.0) (λ k. k.0) (λ k. k.0) y))).declared ≡ forms.core_rule
    (map-Core Core Expr Initializer OptionalExpr Stmt Suffix Declaration Declarator Init Parameter Typename Declared
    Written (Unit {0}) (Unit {0}) (Unit {0}) Bool (Unit {0}) Declared (Unit {0}) Bool Bool forms.declared_core
    forms.written nothing nothing nothing forms.is_staged_suffix nothing forms.declared nothing forms.is_staged_parameter
    forms.is_integer_name (map-Core KnownCore KnownExpr KnownInitializer KnownOptionalExpr KnownStmt KnownSuffix
    KnownDeclaration KnownDeclarator KnownInit KnownParameter KnownTypename Core Expr Initializer OptionalExpr Stmt Suffix
    Declaration Declarator Init Parameter Typename (λ k. k.0) (λ k. k.0) (λ k. k.0) (λ k. k.0) (λ k. k.0) (λ k. k.0)
    (λ k. k.0) (λ k. k.0) (λ k. k.0) (λ k. k.0) (λ k. k.0) y))
core_layer Core-F.Core::Absent = refl
core_layer (Core-F.Core::Name n x) = refl
core_layer (Core-F.Core::Paren d) = d.1

core_step : (x : Core-F Core Expr Initializer OptionalExpr Stmt Suffix Declaration Declarator Init Parameter Typename)
    (y : Core-F KnownCore KnownExpr KnownInitializer KnownOptionalExpr KnownStmt KnownSuffix KnownDeclaration
    KnownDeclarator KnownInit KnownParameter KnownTypename) →
    (map-Core KnownCore KnownExpr KnownInitializer KnownOptionalExpr KnownStmt KnownSuffix KnownDeclaration
    KnownDeclarator KnownInit KnownParameter KnownTypename Core Expr Initializer OptionalExpr Stmt Suffix Declaration
    Declarator Init Parameter Typename (λ k. k.0) (λ k. k.0) (λ k. k.0) (λ k. k.0) (λ k. k.0) (λ k. k.0) (λ k. k.0)
    (λ k. k.0) (λ k. k.0) (λ k. k.0) (λ k. k.0) y) ≡ x → CoreAgrees (roll-Core x)
core_step x y is = subst (λ z. CoreAgrees (roll-Core z)) is
    (ap (λ w. w.declared) (walk_core
    (map-Core KnownCore KnownExpr KnownInitializer KnownOptionalExpr KnownStmt KnownSuffix KnownDeclaration
    KnownDeclarator KnownInit KnownParameter KnownTypename Core Expr Initializer OptionalExpr Stmt Suffix Declaration
    Declarator Init Parameter Typename (λ k. k.0) (λ k. k.0) (λ k. k.0) (λ k. k.0) (λ k. k.0) (λ k. k.0) (λ k. k.0)
    (λ k. k.0) (λ k. k.0) (λ k. k.0) (λ k. k.0) y)) ∙ core_layer y ∙
    sym (form_core (map-Core KnownCore KnownExpr KnownInitializer KnownOptionalExpr KnownStmt KnownSuffix KnownDeclaration
    KnownDeclarator KnownInit KnownParameter KnownTypename Core Expr Initializer OptionalExpr Stmt Suffix Declaration
    Declarator Init Parameter Typename (λ k. k.0) (λ k. k.0) (λ k. k.0) (λ k. k.0) (λ k. k.0) (λ k. k.0) (λ k. k.0)
    (λ k. k.0) (λ k. k.0) (λ k. k.0) (λ k. k.0) y)))

walk_expr : (x : Expr-F Core Expr Initializer OptionalExpr Stmt Suffix Declaration Declarator Init Parameter Typename) →
    node (roll-Expr x) ≡ expr_rule
    (map-Expr Core Expr Initializer OptionalExpr Stmt Suffix Declaration Declarator Init Parameter Typename Shape Node
    Start (Option Node) Item SuffixWalk Declarations Shape InitParts TypeWalk Named core node initializer optional item
    suffix declaration shape init parameter named x)
unfolding core node initializer optional item suffix declaration shape init parameter named forms.written forms.declared
    forms.declared_core forms.is_staged_suffix forms.is_staged_parameter forms.is_integer_name
walk_expr x = fold-roll-Expr Shape Node Start (Option Node) Item SuffixWalk Declarations Shape InitParts TypeWalk Named
    core_rule expr_rule start_rule optional_rule stmt_rule suffix_walk declaration_rule declarator_rule init_rule
    parameter_rule typename_rule x

form_expr : (x : Expr-F Core Expr Initializer OptionalExpr Stmt Suffix Declaration Declarator Init Parameter Typename) →
    forms.written (roll-Expr x) ≡ forms.expr_rule
    (map-Expr Core Expr Initializer OptionalExpr Stmt Suffix Declaration Declarator Init Parameter Typename Declared
    Written (Unit {0}) (Unit {0}) (Unit {0}) Bool (Unit {0}) Declared (Unit {0}) Bool Bool forms.declared_core
    forms.written nothing nothing nothing forms.is_staged_suffix nothing forms.declared nothing forms.is_staged_parameter
    forms.is_integer_name x)
unfolding core node initializer optional item suffix declaration shape init parameter named forms.written forms.declared
    forms.declared_core forms.is_staged_suffix forms.is_staged_parameter forms.is_integer_name
form_expr x = fold-roll-Expr Declared Written (Unit {0}) (Unit {0}) (Unit {0}) Bool (Unit {0}) Declared (Unit {0}) Bool
    Bool forms.core_rule forms.expr_rule nothing nothing nothing forms.suffix_rule nothing forms.declarator_rule nothing
    forms.parameter_rule forms.typename_rule x

expr_layer : (y : Expr-F KnownCore KnownExpr KnownInitializer KnownOptionalExpr KnownStmt KnownSuffix KnownDeclaration
    KnownDeclarator KnownInit KnownParameter KnownTypename) →
    (expr_rule (map-Expr Core Expr Initializer OptionalExpr Stmt Suffix Declaration Declarator Init Parameter Typename
    Shape Node Start (Option Node) Item SuffixWalk Declarations Shape InitParts TypeWalk Named core node initializer
    optional item suffix declaration shape init parameter named
    (map-Expr KnownCore KnownExpr KnownInitializer KnownOptionalExpr KnownStmt KnownSuffix KnownDeclaration
    KnownDeclarator KnownInit KnownParameter KnownTypename Core Expr Initializer OptionalExpr Stmt Suffix Declaration
    Declarator Init Parameter Typename (λ k. k.0) (λ k. k.0) (λ k. k.0) (λ k. k.0) (λ k. k.0) (λ k. k.0) (λ k. k.0)
    (λ k. k.0) (λ k. k.0) (λ k. k.0) (λ k. k.0) y))).written ≡ forms.expr_rule
    (map-Expr Core Expr Initializer OptionalExpr Stmt Suffix Declaration Declarator Init Parameter Typename Declared
    Written (Unit {0}) (Unit {0}) (Unit {0}) Bool (Unit {0}) Declared (Unit {0}) Bool Bool forms.declared_core
    forms.written nothing nothing nothing forms.is_staged_suffix nothing forms.declared nothing forms.is_staged_parameter
    forms.is_integer_name (map-Expr KnownCore KnownExpr KnownInitializer KnownOptionalExpr KnownStmt KnownSuffix
    KnownDeclaration KnownDeclarator KnownInit KnownParameter KnownTypename Core Expr Initializer OptionalExpr Stmt Suffix
    Declaration Declarator Init Parameter Typename (λ k. k.0) (λ k. k.0) (λ k. k.0) (λ k. k.0) (λ k. k.0) (λ k. k.0)
    (λ k. k.0) (λ k. k.0) (λ k. k.0) (λ k. k.0) (λ k. k.0) y))
expr_layer (Expr-F.Expr::Name n x) = refl
expr_layer (Expr-F.Number n u) = refl
expr_layer (Expr-F.Character n) = refl
expr_layer (Expr-F.String x) = refl
expr_layer (Expr-F.Expr::Paren a) = a.1
expr_layer (Expr-F.Compile n a t) = refl
expr_layer (Expr-F.Expr::Local n t) = refl
expr_layer (Expr-F.Param n t a) = refl
expr_layer (Expr-F.Index n p) = refl
expr_layer (Expr-F.Call n a xs) = refl
expr_layer (Expr-F.Step n o a) = refl
expr_layer (Expr-F.Unary n o a) = ap (λ w. forms.nameless w.constant) a.1
expr_layer (Expr-F.Tick n a) = refl
expr_layer (Expr-F.TickBlock n ss) = refl
expr_layer (Expr-F.Cast n t a) =
    ap (λ w. forms.nameless ((named t.0).integer && w.constant)) a.1 ∙
    ap (λ b. forms.nameless (b && (forms.written a.0).constant)) t.1
expr_layer (Expr-F.Sizeof n t) = refl
expr_layer (Expr-F.Binary n o p) =
    ap (λ w. forms.nameless (forms.is_strict o && w.constant && (node p.1.0).written.constant)) p.0.1
    ∙ ap (λ w. forms.nameless (forms.is_strict o && (forms.written p.0.0).constant && w.constant)) p.1.1
expr_layer (Expr-F.Choice n a c d) = refl
expr_layer (Expr-F.Assign n p) = refl
expr_layer (Expr-F.Modify n o p) = refl
expr_layer (Expr-F.Comma n p) = refl

expr_step : (x : Expr-F Core Expr Initializer OptionalExpr Stmt Suffix Declaration Declarator Init Parameter Typename)
    (y : Expr-F KnownCore KnownExpr KnownInitializer KnownOptionalExpr KnownStmt KnownSuffix KnownDeclaration
    KnownDeclarator KnownInit KnownParameter KnownTypename) →
    (map-Expr KnownCore KnownExpr KnownInitializer KnownOptionalExpr KnownStmt KnownSuffix KnownDeclaration
    KnownDeclarator KnownInit KnownParameter KnownTypename Core Expr Initializer OptionalExpr Stmt Suffix Declaration
    Declarator Init Parameter Typename (λ k. k.0) (λ k. k.0) (λ k. k.0) (λ k. k.0) (λ k. k.0) (λ k. k.0) (λ k. k.0)
    (λ k. k.0) (λ k. k.0) (λ k. k.0) (λ k. k.0) y) ≡ x → ExprAgrees (roll-Expr x)
expr_step x y is = subst (λ z. ExprAgrees (roll-Expr z)) is
    (ap (λ w. w.written) (walk_expr
    (map-Expr KnownCore KnownExpr KnownInitializer KnownOptionalExpr KnownStmt KnownSuffix KnownDeclaration
    KnownDeclarator KnownInit KnownParameter KnownTypename Core Expr Initializer OptionalExpr Stmt Suffix Declaration
    Declarator Init Parameter Typename (λ k. k.0) (λ k. k.0) (λ k. k.0) (λ k. k.0) (λ k. k.0) (λ k. k.0) (λ k. k.0)
    (λ k. k.0) (λ k. k.0) (λ k. k.0) (λ k. k.0) y)) ∙ expr_layer y ∙
    sym (form_expr (map-Expr KnownCore KnownExpr KnownInitializer KnownOptionalExpr KnownStmt KnownSuffix KnownDeclaration
    KnownDeclarator KnownInit KnownParameter KnownTypename Core Expr Initializer OptionalExpr Stmt Suffix Declaration
    Declarator Init Parameter Typename (λ k. k.0) (λ k. k.0) (λ k. k.0) (λ k. k.0) (λ k. k.0) (λ k. k.0) (λ k. k.0)
    (λ k. k.0) (λ k. k.0) (λ k. k.0) (λ k. k.0) y)))

walk_suffix : (x : Suffix-F Core Expr Initializer OptionalExpr Stmt Suffix Declaration Declarator Init Parameter
    Typename) → suffix (roll-Suffix x) ≡ suffix_walk
    (map-Suffix Core Expr Initializer OptionalExpr Stmt Suffix Declaration Declarator Init Parameter Typename Shape Node
    Start (Option Node) Item SuffixWalk Declarations Shape InitParts TypeWalk Named core node initializer optional item
    suffix declaration shape init parameter named x)
unfolding core node initializer optional item suffix declaration shape init parameter named forms.written forms.declared
    forms.declared_core forms.is_staged_suffix forms.is_staged_parameter forms.is_integer_name
walk_suffix x = fold-roll-Suffix Shape Node Start (Option Node) Item SuffixWalk Declarations Shape InitParts TypeWalk
    Named core_rule expr_rule start_rule optional_rule stmt_rule suffix_walk declaration_rule declarator_rule init_rule
    parameter_rule typename_rule x

form_suffix : (x : Suffix-F Core Expr Initializer OptionalExpr Stmt Suffix Declaration Declarator Init Parameter
    Typename) → forms.is_staged_suffix (roll-Suffix x) ≡ forms.suffix_rule
    (map-Suffix Core Expr Initializer OptionalExpr Stmt Suffix Declaration Declarator Init Parameter Typename Declared
    Written (Unit {0}) (Unit {0}) (Unit {0}) Bool (Unit {0}) Declared (Unit {0}) Bool Bool forms.declared_core
    forms.written nothing nothing nothing forms.is_staged_suffix nothing forms.declared nothing forms.is_staged_parameter
    forms.is_integer_name x)
unfolding core node initializer optional item suffix declaration shape init parameter named forms.written forms.declared
    forms.declared_core forms.is_staged_suffix forms.is_staged_parameter forms.is_integer_name
form_suffix x = fold-roll-Suffix Declared Written (Unit {0}) (Unit {0}) (Unit {0}) Bool (Unit {0}) Declared (Unit {0})
    Bool Bool forms.core_rule forms.expr_rule nothing nothing nothing forms.suffix_rule nothing forms.declarator_rule
    nothing forms.parameter_rule forms.typename_rule x

suffix_layer : (y : Suffix-F KnownCore KnownExpr KnownInitializer KnownOptionalExpr KnownStmt KnownSuffix
    KnownDeclaration KnownDeclarator KnownInit KnownParameter KnownTypename) →
    (suffix_walk (map-Suffix Core Expr Initializer OptionalExpr Stmt Suffix Declaration Declarator Init Parameter Typename
    Shape Node Start (Option Node) Item SuffixWalk Declarations Shape InitParts TypeWalk Named core node initializer
    optional item suffix declaration shape init parameter named
    (map-Suffix KnownCore KnownExpr KnownInitializer KnownOptionalExpr KnownStmt KnownSuffix KnownDeclaration
    KnownDeclarator KnownInit KnownParameter KnownTypename Core Expr Initializer OptionalExpr Stmt Suffix Declaration
    Declarator Init Parameter Typename (λ k. k.0) (λ k. k.0) (λ k. k.0) (λ k. k.0) (λ k. k.0) (λ k. k.0) (λ k. k.0)
    (λ k. k.0) (λ k. k.0) (λ k. k.0) (λ k. k.0) y))).staged ≡ forms.suffix_rule
    (map-Suffix Core Expr Initializer OptionalExpr Stmt Suffix Declaration Declarator Init Parameter Typename Declared
    Written (Unit {0}) (Unit {0}) (Unit {0}) Bool (Unit {0}) Declared (Unit {0}) Bool Bool forms.declared_core
    forms.written nothing nothing nothing forms.is_staged_suffix nothing forms.declared nothing forms.is_staged_parameter
    forms.is_integer_name (map-Suffix KnownCore KnownExpr KnownInitializer KnownOptionalExpr KnownStmt KnownSuffix
    KnownDeclaration KnownDeclarator KnownInit KnownParameter KnownTypename Core Expr Initializer OptionalExpr Stmt Suffix
    Declaration Declarator Init Parameter Typename (λ k. k.0) (λ k. k.0) (λ k. k.0) (λ k. k.0) (λ k. k.0) (λ k. k.0)
    (λ k. k.0) (λ k. k.0) (λ k. k.0) (λ k. k.0) (λ k. k.0) y))
suffix_layer (Suffix-F.Array e) = refl
suffix_layer Suffix-F.Unlisted = refl
suffix_layer Suffix-F.Nothing = refl
suffix_layer (Suffix-F.Listed ps) = staged_parameters ps

suffix_step : (x : Suffix-F Core Expr Initializer OptionalExpr Stmt Suffix Declaration Declarator Init Parameter
    Typename) (y : Suffix-F KnownCore KnownExpr KnownInitializer KnownOptionalExpr KnownStmt KnownSuffix KnownDeclaration
    KnownDeclarator KnownInit KnownParameter KnownTypename) →
    (map-Suffix KnownCore KnownExpr KnownInitializer KnownOptionalExpr KnownStmt KnownSuffix KnownDeclaration
    KnownDeclarator KnownInit KnownParameter KnownTypename Core Expr Initializer OptionalExpr Stmt Suffix Declaration
    Declarator Init Parameter Typename (λ k. k.0) (λ k. k.0) (λ k. k.0) (λ k. k.0) (λ k. k.0) (λ k. k.0) (λ k. k.0)
    (λ k. k.0) (λ k. k.0) (λ k. k.0) (λ k. k.0) y) ≡ x → SuffixAgrees (roll-Suffix x)
suffix_step x y is = subst (λ z. SuffixAgrees (roll-Suffix z)) is
    (ap (λ w. w.staged) (walk_suffix
    (map-Suffix KnownCore KnownExpr KnownInitializer KnownOptionalExpr KnownStmt KnownSuffix KnownDeclaration
    KnownDeclarator KnownInit KnownParameter KnownTypename Core Expr Initializer OptionalExpr Stmt Suffix Declaration
    Declarator Init Parameter Typename (λ k. k.0) (λ k. k.0) (λ k. k.0) (λ k. k.0) (λ k. k.0) (λ k. k.0) (λ k. k.0)
    (λ k. k.0) (λ k. k.0) (λ k. k.0) (λ k. k.0) y)) ∙ suffix_layer y ∙
    sym (form_suffix (map-Suffix KnownCore KnownExpr KnownInitializer KnownOptionalExpr KnownStmt KnownSuffix
    KnownDeclaration KnownDeclarator KnownInit KnownParameter KnownTypename Core Expr Initializer OptionalExpr Stmt Suffix
    Declaration Declarator Init Parameter Typename (λ k. k.0) (λ k. k.0) (λ k. k.0) (λ k. k.0) (λ k. k.0) (λ k. k.0)
    (λ k. k.0) (λ k. k.0) (λ k. k.0) (λ k. k.0) (λ k. k.0) y)))

walk_declarator : (x : Declarator-F Core Expr Initializer OptionalExpr Stmt Suffix Declaration Declarator Init Parameter
    Typename) → shape (roll-Declarator x) ≡ declarator_rule
    (map-Declarator Core Expr Initializer OptionalExpr Stmt Suffix Declaration Declarator Init Parameter Typename Shape
    Node Start (Option Node) Item SuffixWalk Declarations Shape InitParts TypeWalk Named core node initializer optional
    item suffix declaration shape init parameter named x)
unfolding core node initializer optional item suffix declaration shape init parameter named forms.written forms.declared
    forms.declared_core forms.is_staged_suffix forms.is_staged_parameter forms.is_integer_name
walk_declarator x = fold-roll-Declarator Shape Node Start (Option Node) Item SuffixWalk Declarations Shape InitParts
    TypeWalk Named core_rule expr_rule start_rule optional_rule stmt_rule suffix_walk declaration_rule declarator_rule
    init_rule parameter_rule typename_rule x

form_declarator : (x : Declarator-F Core Expr Initializer OptionalExpr Stmt Suffix Declaration Declarator Init Parameter
    Typename) → forms.declared (roll-Declarator x) ≡ forms.declarator_rule
    (map-Declarator Core Expr Initializer OptionalExpr Stmt Suffix Declaration Declarator Init Parameter Typename Declared
    Written (Unit {0}) (Unit {0}) (Unit {0}) Bool (Unit {0}) Declared (Unit {0}) Bool Bool forms.declared_core
    forms.written nothing nothing nothing forms.is_staged_suffix nothing forms.declared nothing forms.is_staged_parameter
    forms.is_integer_name x)
unfolding core node initializer optional item suffix declaration shape init parameter named forms.written forms.declared
    forms.declared_core forms.is_staged_suffix forms.is_staged_parameter forms.is_integer_name
form_declarator x = fold-roll-Declarator Declared Written (Unit {0}) (Unit {0}) (Unit {0}) Bool (Unit {0}) Declared
    (Unit {0}) Bool Bool forms.core_rule forms.expr_rule nothing nothing nothing forms.suffix_rule nothing
    forms.declarator_rule nothing forms.parameter_rule forms.typename_rule x

declarator_layer : (y : Declarator-F KnownCore KnownExpr KnownInitializer KnownOptionalExpr KnownStmt KnownSuffix
    KnownDeclaration KnownDeclarator KnownInit KnownParameter KnownTypename) →
    (declarator_rule (map-Declarator Core Expr Initializer OptionalExpr Stmt Suffix Declaration Declarator Init Parameter
    Typename Shape Node Start (Option Node) Item SuffixWalk Declarations Shape InitParts TypeWalk Named core node
    initializer optional item suffix declaration shape init parameter named
    (map-Declarator KnownCore KnownExpr KnownInitializer KnownOptionalExpr KnownStmt KnownSuffix KnownDeclaration
    KnownDeclarator KnownInit KnownParameter KnownTypename Core Expr Initializer OptionalExpr Stmt Suffix Declaration
    Declarator Init Parameter Typename (λ k. k.0) (λ k. k.0) (λ k. k.0) (λ k. k.0) (λ k. k.0) (λ k. k.0) (λ k. k.0)
    (λ k. k.0) (λ k. k.0) (λ k. k.0) (λ k. k.0) y))).declared ≡ forms.declarator_rule
    (map-Declarator Core Expr Initializer OptionalExpr Stmt Suffix Declaration Declarator Init Parameter Typename Declared
    Written (Unit {0}) (Unit {0}) (Unit {0}) Bool (Unit {0}) Declared (Unit {0}) Bool Bool forms.declared_core
    forms.written nothing nothing nothing forms.is_staged_suffix nothing forms.declared nothing forms.is_staged_parameter
    forms.is_integer_name (map-Declarator KnownCore KnownExpr KnownInitializer KnownOptionalExpr KnownStmt KnownSuffix
    KnownDeclaration KnownDeclarator KnownInit KnownParameter KnownTypename Core Expr Initializer OptionalExpr Stmt Suffix
    Declaration Declarator Init Parameter Typename (λ k. k.0) (λ k. k.0) (λ k. k.0) (λ k. k.0) (λ k. k.0) (λ k. k.0)
    (λ k. k.0) (λ k. k.0) (λ k. k.0) (λ k. k.0) (λ k. k.0) y))
declarator_layer y =
    ap (λ c. record {
      plain = forms.is_nil y.prefixes && c.plain && forms.is_nil (map suffix (map (λ k. k.0) y.suffixes));
      name = c.name;
      staged = forms.any_staged_prefix y.prefixes || c.staged || any_suffix (map suffix (map (λ k. k.0) y.suffixes));
    }) y.core.1
    ∙ ap (λ z. record {
      plain = forms.is_nil y.prefixes && (forms.declared_core y.core.0).plain && z;
      name = (forms.declared_core y.core.0).name;
      staged = forms.any_staged_prefix y.prefixes || (forms.declared_core y.core.0).staged || any_suffix
          (map suffix (map (λ k. k.0) y.suffixes));
    }) (nil_map suffix (map (λ k. k.0) y.suffixes) ∙ sym (nil_map forms.is_staged_suffix (map (λ k. k.0) y.suffixes)))
    ∙ ap (λ z. record {
      plain = forms.is_nil y.prefixes && (forms.declared_core y.core.0).plain && forms.is_nil
          (map forms.is_staged_suffix (map (λ k. k.0) y.suffixes));
      name = (forms.declared_core y.core.0).name;
      staged = forms.any_staged_prefix y.prefixes || (forms.declared_core y.core.0).staged || z;
    }) (staged_suffixes y.suffixes)

declarator_step : (x : Declarator-F Core Expr Initializer OptionalExpr Stmt Suffix Declaration Declarator Init Parameter
    Typename) (y : Declarator-F KnownCore KnownExpr KnownInitializer KnownOptionalExpr KnownStmt KnownSuffix
    KnownDeclaration KnownDeclarator KnownInit KnownParameter KnownTypename) →
    (map-Declarator KnownCore KnownExpr KnownInitializer KnownOptionalExpr KnownStmt KnownSuffix KnownDeclaration
    KnownDeclarator KnownInit KnownParameter KnownTypename Core Expr Initializer OptionalExpr Stmt Suffix Declaration
    Declarator Init Parameter Typename (λ k. k.0) (λ k. k.0) (λ k. k.0) (λ k. k.0) (λ k. k.0) (λ k. k.0) (λ k. k.0)
    (λ k. k.0) (λ k. k.0) (λ k. k.0) (λ k. k.0) y) ≡ x → DeclaratorAgrees (roll-Declarator x)
declarator_step x y is = subst (λ z. DeclaratorAgrees (roll-Declarator z)) is
    (ap (λ w. w.declared) (walk_declarator
    (map-Declarator KnownCore KnownExpr KnownInitializer KnownOptionalExpr KnownStmt KnownSuffix KnownDeclaration
    KnownDeclarator KnownInit KnownParameter KnownTypename Core Expr Initializer OptionalExpr Stmt Suffix Declaration
    Declarator Init Parameter Typename (λ k. k.0) (λ k. k.0) (λ k. k.0) (λ k. k.0) (λ k. k.0) (λ k. k.0) (λ k. k.0)
    (λ k. k.0) (λ k. k.0) (λ k. k.0) (λ k. k.0) y)) ∙ declarator_layer y ∙
    sym (form_declarator (map-Declarator KnownCore KnownExpr KnownInitializer KnownOptionalExpr KnownStmt KnownSuffix
    KnownDeclaration KnownDeclarator KnownInit KnownParameter KnownTypename Core Expr Initializer OptionalExpr Stmt Suffix
    Declaration Declarator Init Parameter Typename (λ k. k.0) (λ k. k.0) (λ k. k.0) (λ k. k.0) (λ k. k.0) (λ k. k.0)
    (λ k. k.0) (λ k. k.0) (λ k. k.0) (λ k. k.0) (λ k. k.0) y)))

walk_parameter : (x : Parameter-F Core Expr Initializer OptionalExpr Stmt Suffix Declaration Declarator Init Parameter
    Typename) → parameter (roll-Parameter x) ≡ parameter_rule
    (map-Parameter Core Expr Initializer OptionalExpr Stmt Suffix Declaration Declarator Init Parameter Typename Shape
    Node Start (Option Node) Item SuffixWalk Declarations Shape InitParts TypeWalk Named core node initializer optional
    item suffix declaration shape init parameter named x)
unfolding core node initializer optional item suffix declaration shape init parameter named forms.written forms.declared
    forms.declared_core forms.is_staged_suffix forms.is_staged_parameter forms.is_integer_name
walk_parameter x = fold-roll-Parameter Shape Node Start (Option Node) Item SuffixWalk Declarations Shape InitParts
    TypeWalk Named core_rule expr_rule start_rule optional_rule stmt_rule suffix_walk declaration_rule declarator_rule
    init_rule parameter_rule typename_rule x

form_parameter : (x : Parameter-F Core Expr Initializer OptionalExpr Stmt Suffix Declaration Declarator Init Parameter
    Typename) → forms.is_staged_parameter (roll-Parameter x) ≡ forms.parameter_rule
    (map-Parameter Core Expr Initializer OptionalExpr Stmt Suffix Declaration Declarator Init Parameter Typename Declared
    Written (Unit {0}) (Unit {0}) (Unit {0}) Bool (Unit {0}) Declared (Unit {0}) Bool Bool forms.declared_core
    forms.written nothing nothing nothing forms.is_staged_suffix nothing forms.declared nothing forms.is_staged_parameter
    forms.is_integer_name x)
unfolding core node initializer optional item suffix declaration shape init parameter named forms.written forms.declared
    forms.declared_core forms.is_staged_suffix forms.is_staged_parameter forms.is_integer_name
form_parameter x = fold-roll-Parameter Declared Written (Unit {0}) (Unit {0}) (Unit {0}) Bool (Unit {0}) Declared
    (Unit {0}) Bool Bool forms.core_rule forms.expr_rule nothing nothing nothing forms.suffix_rule nothing
    forms.declarator_rule nothing forms.parameter_rule forms.typename_rule x

parameter_layer : (y : Parameter-F KnownCore KnownExpr KnownInitializer KnownOptionalExpr KnownStmt KnownSuffix
    KnownDeclaration KnownDeclarator KnownInit KnownParameter KnownTypename) →
    (parameter_rule (map-Parameter Core Expr Initializer OptionalExpr Stmt Suffix Declaration Declarator Init Parameter
    Typename Shape Node Start (Option Node) Item SuffixWalk Declarations Shape InitParts TypeWalk Named core node
    initializer optional item suffix declaration shape init parameter named
    (map-Parameter KnownCore KnownExpr KnownInitializer KnownOptionalExpr KnownStmt KnownSuffix KnownDeclaration
    KnownDeclarator KnownInit KnownParameter KnownTypename Core Expr Initializer OptionalExpr Stmt Suffix Declaration
    Declarator Init Parameter Typename (λ k. k.0) (λ k. k.0) (λ k. k.0) (λ k. k.0) (λ k. k.0) (λ k. k.0) (λ k. k.0)
    (λ k. k.0) (λ k. k.0) (λ k. k.0) (λ k. k.0) y))).staged ≡ forms.parameter_rule
    (map-Parameter Core Expr Initializer OptionalExpr Stmt Suffix Declaration Declarator Init Parameter Typename Declared
    Written (Unit {0}) (Unit {0}) (Unit {0}) Bool (Unit {0}) Declared (Unit {0}) Bool Bool forms.declared_core
    forms.written nothing nothing nothing forms.is_staged_suffix nothing forms.declared nothing forms.is_staged_parameter
    forms.is_integer_name (map-Parameter KnownCore KnownExpr KnownInitializer KnownOptionalExpr KnownStmt KnownSuffix
    KnownDeclaration KnownDeclarator KnownInit KnownParameter KnownTypename Core Expr Initializer OptionalExpr Stmt Suffix
    Declaration Declarator Init Parameter Typename (λ k. k.0) (λ k. k.0) (λ k. k.0) (λ k. k.0) (λ k. k.0) (λ k. k.0)
    (λ k. k.0) (λ k. k.0) (λ k. k.0) (λ k. k.0) (λ k. k.0) y))
parameter_layer y = ap (λ c. c.staged) y.declarator.1

parameter_step : (x : Parameter-F Core Expr Initializer OptionalExpr Stmt Suffix Declaration Declarator Init Parameter
    Typename) (y : Parameter-F KnownCore KnownExpr KnownInitializer KnownOptionalExpr KnownStmt KnownSuffix
    KnownDeclaration KnownDeclarator KnownInit KnownParameter KnownTypename) →
    (map-Parameter KnownCore KnownExpr KnownInitializer KnownOptionalExpr KnownStmt KnownSuffix KnownDeclaration
    KnownDeclarator KnownInit KnownParameter KnownTypename Core Expr Initializer OptionalExpr Stmt Suffix Declaration
    Declarator Init Parameter Typename (λ k. k.0) (λ k. k.0) (λ k. k.0) (λ k. k.0) (λ k. k.0) (λ k. k.0) (λ k. k.0)
    (λ k. k.0) (λ k. k.0) (λ k. k.0) (λ k. k.0) y) ≡ x → ParameterAgrees (roll-Parameter x)
parameter_step x y is = subst (λ z. ParameterAgrees (roll-Parameter z)) is
    (ap (λ w. w.staged) (walk_parameter
    (map-Parameter KnownCore KnownExpr KnownInitializer KnownOptionalExpr KnownStmt KnownSuffix KnownDeclaration
    KnownDeclarator KnownInit KnownParameter KnownTypename Core Expr Initializer OptionalExpr Stmt Suffix Declaration
    Declarator Init Parameter Typename (λ k. k.0) (λ k. k.0) (λ k. k.0) (λ k. k.0) (λ k. k.0) (λ k. k.0) (λ k. k.0)
    (λ k. k.0) (λ k. k.0) (λ k. k.0) (λ k. k.0) y)) ∙ parameter_layer y ∙
    sym (form_parameter (map-Parameter KnownCore KnownExpr KnownInitializer KnownOptionalExpr KnownStmt KnownSuffix
    KnownDeclaration KnownDeclarator KnownInit KnownParameter KnownTypename Core Expr Initializer OptionalExpr Stmt Suffix
    Declaration Declarator Init Parameter Typename (λ k. k.0) (λ k. k.0) (λ k. k.0) (λ k. k.0) (λ k. k.0) (λ k. k.0)
    (λ k. k.0) (λ k. k.0) (λ k. k.0) (λ k. k.0) (λ k. k.0) y)))

walk_typename : (x : Typename-F Core Expr Initializer OptionalExpr Stmt Suffix Declaration Declarator Init Parameter
    Typename) → named (roll-Typename x) ≡ typename_rule
    (map-Typename Core Expr Initializer OptionalExpr Stmt Suffix Declaration Declarator Init Parameter Typename Shape Node
    Start (Option Node) Item SuffixWalk Declarations Shape InitParts TypeWalk Named core node initializer optional item
    suffix declaration shape init parameter named x)
unfolding core node initializer optional item suffix declaration shape init parameter named forms.written forms.declared
    forms.declared_core forms.is_staged_suffix forms.is_staged_parameter forms.is_integer_name
walk_typename x = fold-roll-Typename Shape Node Start (Option Node) Item SuffixWalk Declarations Shape InitParts
    TypeWalk Named core_rule expr_rule start_rule optional_rule stmt_rule suffix_walk declaration_rule declarator_rule
    init_rule parameter_rule typename_rule x

form_typename : (x : Typename-F Core Expr Initializer OptionalExpr Stmt Suffix Declaration Declarator Init Parameter
    Typename) → forms.is_integer_name (roll-Typename x) ≡ forms.typename_rule
    (map-Typename Core Expr Initializer OptionalExpr Stmt Suffix Declaration Declarator Init Parameter Typename Declared
    Written (Unit {0}) (Unit {0}) (Unit {0}) Bool (Unit {0}) Declared (Unit {0}) Bool Bool forms.declared_core
    forms.written nothing nothing nothing forms.is_staged_suffix nothing forms.declared nothing forms.is_staged_parameter
    forms.is_integer_name x)
unfolding core node initializer optional item suffix declaration shape init parameter named forms.written forms.declared
    forms.declared_core forms.is_staged_suffix forms.is_staged_parameter forms.is_integer_name
form_typename x = fold-roll-Typename Declared Written (Unit {0}) (Unit {0}) (Unit {0}) Bool (Unit {0}) Declared
    (Unit {0}) Bool Bool forms.core_rule forms.expr_rule nothing nothing nothing forms.suffix_rule nothing
    forms.declarator_rule nothing forms.parameter_rule forms.typename_rule x

typename_layer : (y : Typename-F KnownCore KnownExpr KnownInitializer KnownOptionalExpr KnownStmt KnownSuffix
    KnownDeclaration KnownDeclarator KnownInit KnownParameter KnownTypename) →
    (typename_rule (map-Typename Core Expr Initializer OptionalExpr Stmt Suffix Declaration Declarator Init Parameter
    Typename Shape Node Start (Option Node) Item SuffixWalk Declarations Shape InitParts TypeWalk Named core node
    initializer optional item suffix declaration shape init parameter named
    (map-Typename KnownCore KnownExpr KnownInitializer KnownOptionalExpr KnownStmt KnownSuffix KnownDeclaration
    KnownDeclarator KnownInit KnownParameter KnownTypename Core Expr Initializer OptionalExpr Stmt Suffix Declaration
    Declarator Init Parameter Typename (λ k. k.0) (λ k. k.0) (λ k. k.0) (λ k. k.0) (λ k. k.0) (λ k. k.0) (λ k. k.0)
    (λ k. k.0) (λ k. k.0) (λ k. k.0) (λ k. k.0) y))).integer ≡ forms.typename_rule
    (map-Typename Core Expr Initializer OptionalExpr Stmt Suffix Declaration Declarator Init Parameter Typename Declared
    Written (Unit {0}) (Unit {0}) (Unit {0}) Bool (Unit {0}) Declared (Unit {0}) Bool Bool forms.declared_core
    forms.written nothing nothing nothing forms.is_staged_suffix nothing forms.declared nothing forms.is_staged_parameter
    forms.is_integer_name (map-Typename KnownCore KnownExpr KnownInitializer KnownOptionalExpr KnownStmt KnownSuffix
    KnownDeclaration KnownDeclarator KnownInit KnownParameter KnownTypename Core Expr Initializer OptionalExpr Stmt Suffix
    Declaration Declarator Init Parameter Typename (λ k. k.0) (λ k. k.0) (λ k. k.0) (λ k. k.0) (λ k. k.0) (λ k. k.0)
    (λ k. k.0) (λ k. k.0) (λ k. k.0) (λ k. k.0) (λ k. k.0) y))
typename_layer y = ap (λ c. forms.is_some_type y.base && c.plain) y.declarator.1

typename_step : (x : Typename-F Core Expr Initializer OptionalExpr Stmt Suffix Declaration Declarator Init Parameter
    Typename) (y : Typename-F KnownCore KnownExpr KnownInitializer KnownOptionalExpr KnownStmt KnownSuffix
    KnownDeclaration KnownDeclarator KnownInit KnownParameter KnownTypename) →
    (map-Typename KnownCore KnownExpr KnownInitializer KnownOptionalExpr KnownStmt KnownSuffix KnownDeclaration
    KnownDeclarator KnownInit KnownParameter KnownTypename Core Expr Initializer OptionalExpr Stmt Suffix Declaration
    Declarator Init Parameter Typename (λ k. k.0) (λ k. k.0) (λ k. k.0) (λ k. k.0) (λ k. k.0) (λ k. k.0) (λ k. k.0)
    (λ k. k.0) (λ k. k.0) (λ k. k.0) (λ k. k.0) y) ≡ x → TypenameAgrees (roll-Typename x)
typename_step x y is = subst (λ z. TypenameAgrees (roll-Typename z)) is
    (ap (λ w. w.integer) (walk_typename
    (map-Typename KnownCore KnownExpr KnownInitializer KnownOptionalExpr KnownStmt KnownSuffix KnownDeclaration
    KnownDeclarator KnownInit KnownParameter KnownTypename Core Expr Initializer OptionalExpr Stmt Suffix Declaration
    Declarator Init Parameter Typename (λ k. k.0) (λ k. k.0) (λ k. k.0) (λ k. k.0) (λ k. k.0) (λ k. k.0) (λ k. k.0)
    (λ k. k.0) (λ k. k.0) (λ k. k.0) (λ k. k.0) y)) ∙ typename_layer y ∙
    sym (form_typename (map-Typename KnownCore KnownExpr KnownInitializer KnownOptionalExpr KnownStmt KnownSuffix
    KnownDeclaration KnownDeclarator KnownInit KnownParameter KnownTypename Core Expr Initializer OptionalExpr Stmt Suffix
    Declaration Declarator Init Parameter Typename (λ k. k.0) (λ k. k.0) (λ k. k.0) (λ k. k.0) (λ k. k.0) (λ k. k.0)
    (λ k. k.0) (λ k. k.0) (λ k. k.0) (λ k. k.0) (λ k. k.0) y)))

pub core_agrees : (x : Core) → CoreAgrees x
core_agrees = ind-Core CoreAgrees ExprAgrees Any Any Any SuffixAgrees Any DeclaratorAgrees Any ParameterAgrees
    TypenameAgrees core_step expr_step (λ x y is. tt) (λ x y is. tt) (λ x y is. tt) suffix_step (λ x y is. tt)
    declarator_step (λ x y is. tt) parameter_step typename_step

pub expr_agrees : (x : Expr) → ExprAgrees x
expr_agrees = ind-Expr CoreAgrees ExprAgrees Any Any Any SuffixAgrees Any DeclaratorAgrees Any ParameterAgrees
    TypenameAgrees core_step expr_step (λ x y is. tt) (λ x y is. tt) (λ x y is. tt) suffix_step (λ x y is. tt)
    declarator_step (λ x y is. tt) parameter_step typename_step

pub suffix_agrees : (x : Suffix) → SuffixAgrees x
suffix_agrees = ind-Suffix CoreAgrees ExprAgrees Any Any Any SuffixAgrees Any DeclaratorAgrees Any ParameterAgrees
    TypenameAgrees core_step expr_step (λ x y is. tt) (λ x y is. tt) (λ x y is. tt) suffix_step (λ x y is. tt)
    declarator_step (λ x y is. tt) parameter_step typename_step

pub declarator_agrees : (x : Declarator) → DeclaratorAgrees x
declarator_agrees = ind-Declarator CoreAgrees ExprAgrees Any Any Any SuffixAgrees Any DeclaratorAgrees Any
    ParameterAgrees TypenameAgrees core_step expr_step (λ x y is. tt) (λ x y is. tt) (λ x y is. tt) suffix_step
    (λ x y is. tt) declarator_step (λ x y is. tt) parameter_step typename_step

pub parameter_agrees : (x : Parameter) → ParameterAgrees x
parameter_agrees = ind-Parameter CoreAgrees ExprAgrees Any Any Any SuffixAgrees Any DeclaratorAgrees Any ParameterAgrees
    TypenameAgrees core_step expr_step (λ x y is. tt) (λ x y is. tt) (λ x y is. tt) suffix_step (λ x y is. tt)
    declarator_step (λ x y is. tt) parameter_step typename_step

pub typename_agrees : (x : Typename) → TypenameAgrees x
typename_agrees = ind-Typename CoreAgrees ExprAgrees Any Any Any SuffixAgrees Any DeclaratorAgrees Any ParameterAgrees
    TypenameAgrees core_step expr_step (λ x y is. tt) (λ x y is. tt) (λ x y is. tt) suffix_step (λ x y is. tt)
    declarator_step (λ x y is. tt) parameter_step typename_step

-- as a function asks it
pub constant_agrees : (e : Expr) → (node e).written.constant ≡ forms.has_form e
constant_agrees e = ap (λ w. w.constant) (expr_agrees e)

pub name_agrees : (e : Expr) → (node e).written.name ≡ forms.name_of e
name_agrees e = ap (λ w. w.name) (expr_agrees e)

pub string_agrees : (e : Expr) → (node e).written.string ≡ forms.string_of e
string_agrees e = ap (λ w. w.string) (expr_agrees e)

pub declared_agrees : (d : Declarator) → (shape d).declared.name ≡ forms.declared_name d
declared_agrees d = ap (λ w. w.name) (declarator_agrees d)

pub staged_agrees : (d : Declarator) → (shape d).declared.staged ≡ forms.is_staged d
staged_agrees d = ap (λ w. w.staged) (declarator_agrees d)

pub ruleset forms_of = (constant_agrees, name_agrees, string_agrees, declared_agrees, staged_agrees)
