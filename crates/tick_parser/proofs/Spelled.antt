-- A tree has at most four nodes for each word that it spells, but for its root: an induction over the tree.
use Rattle.std.proofs.Common.{◌≡◌, ℕ, ◌+◌, ◌*◌, ◌≤◌, Bool, true, false, List, [], ◌∷◌, map, length, sym, subst, Some}
use Rattle.std.proofs.Common.{None, arith}
use Rattle.std.specs.Prelude.{Option}
use Rattle.tick_tree.specs.declared.syntax.Core.{Core, roll-Core}
use Rattle.tick_tree.specs.declared.syntax.Expr.{Expr, roll-Expr}
use Rattle.tick_tree.specs.declared.syntax.Initializer.{Initializer, roll-Initializer}
use Rattle.tick_tree.specs.declared.syntax.OptionalExpr.{OptionalExpr, roll-OptionalExpr}
use Rattle.tick_tree.specs.declared.syntax.Stmt.{Stmt, roll-Stmt}
use Rattle.tick_tree.specs.declared.syntax.Suffix.{Suffix, roll-Suffix}
use Rattle.tick_tree.specs.declared.syntax.Declaration.{Declaration, roll-Declaration}
use Rattle.tick_tree.specs.declared.syntax.Declarator.{Declarator, roll-Declarator}
use Rattle.tick_tree.specs.declared.syntax.Init.{Init, roll-Init}
use Rattle.tick_tree.specs.declared.syntax.Parameter.{Parameter, roll-Parameter}
use Rattle.tick_tree.specs.declared.syntax.Typename.{Typename, roll-Typename}
use Rattle.tick_tree.specs.declared.base.Base.{Base}
use Rattle.tick_tree.specs.declared.base.Base.TheVariants as b
use Rattle.tick_tree.specs.declared.base.Prefix.{Prefix}
use Rattle.tick_tree.specs.declared.base.Prefix.TheVariants as prefix
use Rattle.tick_tree.specs.declared.base.Signedness.{Signedness}
use Rattle.tick_tree.specs.declared.base.Signedness.TheVariants as sign
use Rattle.tick_tree.specs.declared.syntax.External.{External}
use Rattle.tick_tree.specs.declared.syntax.External.TheVariants as ext
use Rattle.tick_tree.specs.declared.syntax.Core.TheOpen.{Core-F, Expr-F, Initializer-F, OptionalExpr-F, Stmt-F}
use Rattle.tick_tree.specs.declared.syntax.Core.TheOpen.{Suffix-F, Declaration-F, Declarator-F, Init-F, Parameter-F}
use Rattle.tick_tree.specs.declared.syntax.Core.TheOpen.{Typename-F}
use Rattle.tick_tree.specs.declared.syntax.Core.TheFolds.{map-Core, map-Expr, map-Initializer, map-OptionalExpr}
use Rattle.tick_tree.specs.declared.syntax.Core.TheFolds.{map-Stmt, map-Suffix, map-Declaration, map-Declarator}
use Rattle.tick_tree.specs.declared.syntax.Core.TheFolds.{map-Init, map-Parameter, map-Typename, ind-Stmt}
use Rattle.tick_tree.specs.declared.syntax.Core.TheFolds.{ind-Declaration, ind-Declarator, fold-roll-Core}
use Rattle.tick_tree.specs.declared.syntax.Core.TheFolds.{fold-roll-Expr, fold-roll-Initializer, fold-roll-OptionalExpr}
use Rattle.tick_tree.specs.declared.syntax.Core.TheFolds.{fold-roll-Stmt, fold-roll-Suffix, fold-roll-Declaration}
use Rattle.tick_tree.specs.declared.syntax.Core.TheFolds.{fold-roll-Declarator, fold-roll-Init, fold-roll-Parameter}
use Rattle.tick_tree.specs.declared.syntax.Core.TheFolds.{fold-roll-Typename}
use Rattle.parse_grammar.specs.declared.kind.BaseWord.TheVariants as base_word
use Rattle.parse_grammar.specs.declared.kind.Kind.TheVariants as k
use Rattle.parse_grammar.specs.declared.kind.Mark.TheVariants as m
use Rattle.parse_grammar.specs.declared.kind.Word.TheVariants as keyword
use Rattle.parse_spelling.specs.Words.{Words, Plain}
use Rattle.parse_spelling.specs.Spelling.{Spelling, mark, keyword_word, sign_words, optional_sign, optional_int}
use Rattle.parse_spelling.specs.Spelling.{base_words, prefix_word, prefix_words, in_turn, behind_commas, with_commas}
use Rattle.parse_spelling.specs.Spelling.{braced, core_rule, expr_rule, initializer_rule, optional_rule, stmt_rule}
use Rattle.parse_spelling.specs.Spelling.{suffix_rule, declaration_rule, declarator_rule, init_rule, parameter_rule}
use Rattle.parse_spelling.specs.Spelling.{typename_rule, spells_core, spells_expr, spells_initializer, spells_optional}
use Rattle.parse_spelling.specs.Spelling.{spells_stmt, spells_suffix, spells_declaration, spells_declarator}
use Rattle.parse_spelling.specs.Spelling.{spells_init, spells_parameter, spells_typename, spells_external}
use Rattle.parse_spelling.specs.Spelling.{spells_program}
use Rattle.tick_tree.specs.Weights.{total, item_weight, core_nodes, expr_nodes, initializer_nodes, optional_nodes}
use Rattle.tick_tree.specs.Weights.{statement_nodes, suffix_nodes, declaration_nodes, declarator_nodes, init_nodes}
use Rattle.tick_tree.specs.Weights.{parameter_nodes, typename_nodes, core_weight, weight, initializer_weight}
use Rattle.tick_tree.specs.Weights.{optional_weight, statement_weight, suffix_weight, declaration_weight}
use Rattle.tick_tree.specs.Weights.{declarator_weight, init_weight, parameter_weight, typename_weight}
use Rattle.syntax_size.proofs.Folds.{weigh-Core, weigh-Expr, weigh-Initializer, weigh-OptionalExpr, weigh-Stmt}
use Rattle.syntax_size.proofs.Folds.{weigh-Suffix, weigh-Declaration, weigh-Declarator, weigh-Init, weigh-Parameter}
use Rattle.syntax_size.proofs.Folds.{weigh-Typename}
use Rattle.syntax_size.specs.Layers.{Core-T, Expr-T, Initializer-T, OptionalExpr-T, Stmt-T, Suffix-T, Declaration-T}
use Rattle.syntax_size.specs.Layers.{Declarator-T, Init-T, Parameter-T, Typename-T, weighed-Core, weighed-Expr}
use Rattle.syntax_size.specs.Layers.{weighed-Initializer, weighed-OptionalExpr, weighed-Stmt, weighed-Suffix}
use Rattle.syntax_size.specs.Layers.{weighed-Declaration, weighed-Declarator, weighed-Init, weighed-Parameter}
use Rattle.syntax_size.specs.Layers.{weighed-Typename}

-- so many nodes, but for these, have words enough
abbrev Few : ℕ → ℕ → Spelling → Type 0
Few slack n spell = (w : Words) → n + 4 * length w ≤ 4 * length (spell w) + slack

-- ---- leaves

sign_few : (s : Signedness) (w : Words) → length w + 1 ≤ length (sign_words s w)
sign_few sign.Signed w = omega arith
sign_few sign.Unsigned w = omega arith

optional_sign_few : (s : Option Signedness) (w : Words) → length w ≤ length (optional_sign s w)
optional_sign_few None w = omega arith
optional_sign_few (Some s) w = omega (arith, sign_few s w)

optional_int_few : (f : Bool) (w : Words) → length w ≤ length (optional_int f w)
optional_int_few true w = omega arith
optional_int_few false w = omega arith

base_few : (x : Base) (w : Words) → length w + 1 ≤ length (base_words x w)
unfolding base_words
base_few b.Void w = omega arith
base_few (b.Char s) w = omega (arith, optional_sign_few s (Plain (k.Base base_word.Char) ∷ w))
base_few (b.Short s f) w =
    omega (arith, optional_sign_few s (Plain (k.Base base_word.Short) ∷ optional_int f w), optional_int_few f w)
base_few (b.Long s f) w =
    omega (arith, optional_sign_few s (Plain (k.Base base_word.Long) ∷ optional_int f w), optional_int_few f w)
base_few (b.Int s) w = omega (arith, optional_sign_few s (Plain (k.Base base_word.Int) ∷ w))
base_few (b.Alone s) w = sign_few s w

prefix_few : (p : Prefix) (w : Words) → length w ≤ length (prefix_word p w)
prefix_few prefix.Star w = omega arith
prefix_few prefix.Cspec w = omega arith
prefix_few prefix.Vspec w = omega arith

prefixes_few : (ps : List Prefix) (w : Words) → length w ≤ length (prefix_words ps w)
prefixes_few [] w = omega arith
prefixes_few (p ∷ ps) w = omega (arith, prefix_few p (prefix_words ps w), prefixes_few ps w)

-- ---- lists

turn_few : {A : Type 0} (weigh : A → ℕ) (spell : A → Spelling) (ks : List ((x : A) × Few 0 (weigh x) (spell x)))
    (w : Words) → total (map weigh (map (λ k. k.0) ks)) + 4 * length w ≤ 4 * length
    (in_turn (map spell (map (λ k. k.0) ks)) w)
turn_few weigh spell [] w = omega arith
turn_few weigh spell (k ∷ ks) w =
    omega (arith, k.1 (in_turn (map spell (map (λ k. k.0) ks)) w), turn_few weigh spell ks w)

behind_few : {A : Type 0} (slack : ℕ) → slack ≤ 4 →
    (weigh : A → ℕ) (spell : A → Spelling) (ks : List ((x : A) × Few slack (weigh x) (spell x))) (w : Words) →
    total (map weigh (map (λ k. k.0) ks)) + 4 * length w ≤ 4 * length (behind_commas (map spell (map (λ k. k.0) ks)) w)
behind_few slack h weigh spell [] w = omega arith
behind_few slack h weigh spell (k ∷ ks) w =
    omega (arith, k.1 (behind_commas (map spell (map (λ k. k.0) ks)) w), behind_few slack h weigh spell ks w)

commas_few : {A : Type 0} (slack : ℕ) → slack ≤ 4 →
    (weigh : A → ℕ) (spell : A → Spelling) (ks : List ((x : A) × Few slack (weigh x) (spell x))) (w : Words) →
    total (map weigh (map (λ k. k.0) ks)) + 4 * length w ≤ 4 * length (with_commas (map spell (map (λ k. k.0) ks)) w) +
    slack
commas_few slack h weigh spell [] w = omega arith
commas_few slack h weigh spell (k ∷ ks) w =
    omega (arith, k.1 (behind_commas (map spell (map (λ k. k.0) ks)) w), behind_few slack h weigh spell ks w)

-- ---- what is shown of each part

abbrev SpellsCore : Core → Type 0
SpellsCore x = Few 1 (core_weight x) (spells_core x)

abbrev SpelledCore : Type 0
SpelledCore = (x : Core) × SpellsCore x

abbrev SpellsExpr : Expr → Type 0
SpellsExpr x = Few 0 (weight x) (spells_expr x)

abbrev SpelledExpr : Type 0
SpelledExpr = (x : Expr) × SpellsExpr x

abbrev SpellsInitializer : Initializer → Type 0
SpellsInitializer x = Few 1 (initializer_weight x) (spells_initializer x)

abbrev SpelledInitializer : Type 0
SpelledInitializer = (x : Initializer) × SpellsInitializer x

abbrev SpellsOptionalExpr : OptionalExpr → Type 0
SpellsOptionalExpr x = Few 1 (optional_weight x) (spells_optional x)

abbrev SpelledOptionalExpr : Type 0
SpelledOptionalExpr = (x : OptionalExpr) × SpellsOptionalExpr x

abbrev SpellsStmt : Stmt → Type 0
SpellsStmt x = Few 0 (statement_weight x) (spells_stmt x)

abbrev SpelledStmt : Type 0
SpelledStmt = (x : Stmt) × SpellsStmt x

abbrev SpellsSuffix : Suffix → Type 0
SpellsSuffix x = Few 0 (suffix_weight x) (spells_suffix x)

abbrev SpelledSuffix : Type 0
SpelledSuffix = (x : Suffix) × SpellsSuffix x

abbrev SpellsDeclaration : Declaration → Type 0
SpellsDeclaration x = Few 0 (declaration_weight x + 2) (spells_declaration x)

abbrev SpelledDeclaration : Type 0
SpelledDeclaration = (x : Declaration) × SpellsDeclaration x

abbrev SpellsDeclarator : Declarator → Type 0
SpellsDeclarator x = Few 2 (declarator_weight x) (spells_declarator x)

abbrev SpelledDeclarator : Type 0
SpelledDeclarator = (x : Declarator) × SpellsDeclarator x

abbrev SpellsInit : Init → Type 0
SpellsInit x = Few 4 (init_weight x) (spells_init x)

abbrev SpelledInit : Type 0
SpelledInit = (x : Init) × SpellsInit x

abbrev SpellsParameter : Parameter → Type 0
SpellsParameter x = Few 0 (parameter_weight x) (spells_parameter x)

abbrev SpelledParameter : Type 0
SpelledParameter = (x : Parameter) × SpellsParameter x

abbrev SpellsTypename : Typename → Type 0
SpellsTypename x = Few 0 (typename_weight x) (spells_typename x)

abbrev SpelledTypename : Type 0
SpelledTypename = (x : Typename) × SpellsTypename x

abbrev Core-S : Type 0
Core-S = Core-F SpelledCore SpelledExpr SpelledInitializer SpelledOptionalExpr SpelledStmt SpelledSuffix
    SpelledDeclaration SpelledDeclarator SpelledInit SpelledParameter SpelledTypename

abbrev front-Core : Core-S → Core-T
front-Core = map-Core SpelledCore SpelledExpr SpelledInitializer SpelledOptionalExpr SpelledStmt SpelledSuffix
    SpelledDeclaration SpelledDeclarator SpelledInit SpelledParameter SpelledTypename Core Expr Initializer OptionalExpr
    Stmt Suffix Declaration Declarator Init Parameter Typename (λ k. k.0) (λ k. k.0) (λ k. k.0) (λ k. k.0) (λ k. k.0)
    (λ k. k.0) (λ k. k.0) (λ k. k.0) (λ k. k.0) (λ k. k.0) (λ k. k.0)

abbrev spelled-Core : Core-T →
    Core-F Spelling Spelling Spelling Spelling Spelling Spelling Spelling Spelling Spelling Spelling Spelling
spelled-Core = map-Core Core Expr Initializer OptionalExpr Stmt Suffix Declaration Declarator Init Parameter Typename
    Spelling Spelling Spelling Spelling Spelling Spelling Spelling Spelling Spelling Spelling Spelling spells_core
    spells_expr spells_initializer spells_optional spells_stmt spells_suffix spells_declaration spells_declarator
    spells_init spells_parameter spells_typename

says-Core : (x : Core-T) → spells_core (roll-Core x) ≡ core_rule (spelled-Core x)
unfolding spells_core spells_expr spells_initializer spells_optional spells_stmt spells_suffix spells_declaration
    spells_declarator spells_init spells_parameter spells_typename
says-Core x = fold-roll-Core Spelling Spelling Spelling Spelling Spelling Spelling Spelling Spelling Spelling Spelling
    Spelling core_rule expr_rule initializer_rule optional_rule stmt_rule suffix_rule declaration_rule declarator_rule
    init_rule parameter_rule typename_rule x

abbrev Expr-S : Type 0
Expr-S = Expr-F SpelledCore SpelledExpr SpelledInitializer SpelledOptionalExpr SpelledStmt SpelledSuffix
    SpelledDeclaration SpelledDeclarator SpelledInit SpelledParameter SpelledTypename

abbrev front-Expr : Expr-S → Expr-T
front-Expr = map-Expr SpelledCore SpelledExpr SpelledInitializer SpelledOptionalExpr SpelledStmt SpelledSuffix
    SpelledDeclaration SpelledDeclarator SpelledInit SpelledParameter SpelledTypename Core Expr Initializer OptionalExpr
    Stmt Suffix Declaration Declarator Init Parameter Typename (λ k. k.0) (λ k. k.0) (λ k. k.0) (λ k. k.0) (λ k. k.0)
    (λ k. k.0) (λ k. k.0) (λ k. k.0) (λ k. k.0) (λ k. k.0) (λ k. k.0)

abbrev spelled-Expr : Expr-T →
    Expr-F Spelling Spelling Spelling Spelling Spelling Spelling Spelling Spelling Spelling Spelling Spelling
spelled-Expr = map-Expr Core Expr Initializer OptionalExpr Stmt Suffix Declaration Declarator Init Parameter Typename
    Spelling Spelling Spelling Spelling Spelling Spelling Spelling Spelling Spelling Spelling Spelling spells_core
    spells_expr spells_initializer spells_optional spells_stmt spells_suffix spells_declaration spells_declarator
    spells_init spells_parameter spells_typename

says-Expr : (x : Expr-T) → spells_expr (roll-Expr x) ≡ expr_rule (spelled-Expr x)
unfolding spells_core spells_expr spells_initializer spells_optional spells_stmt spells_suffix spells_declaration
    spells_declarator spells_init spells_parameter spells_typename
says-Expr x = fold-roll-Expr Spelling Spelling Spelling Spelling Spelling Spelling Spelling Spelling Spelling Spelling
    Spelling core_rule expr_rule initializer_rule optional_rule stmt_rule suffix_rule declaration_rule declarator_rule
    init_rule parameter_rule typename_rule x

abbrev Initializer-S : Type 0
Initializer-S = Initializer-F SpelledCore SpelledExpr SpelledInitializer SpelledOptionalExpr SpelledStmt SpelledSuffix
    SpelledDeclaration SpelledDeclarator SpelledInit SpelledParameter SpelledTypename

abbrev front-Initializer : Initializer-S → Initializer-T
front-Initializer = map-Initializer SpelledCore SpelledExpr SpelledInitializer SpelledOptionalExpr SpelledStmt
    SpelledSuffix SpelledDeclaration SpelledDeclarator SpelledInit SpelledParameter SpelledTypename Core Expr
    Initializer
    OptionalExpr Stmt Suffix Declaration Declarator Init Parameter Typename (λ k. k.0) (λ k. k.0) (λ k. k.0) (λ k. k.0)
    (λ k. k.0) (λ k. k.0) (λ k. k.0) (λ k. k.0) (λ k. k.0) (λ k. k.0) (λ k. k.0)

abbrev spelled-Initializer : Initializer-T →
    Initializer-F Spelling Spelling Spelling Spelling Spelling Spelling Spelling Spelling Spelling Spelling Spelling
spelled-Initializer = map-Initializer Core Expr Initializer OptionalExpr Stmt Suffix Declaration Declarator Init
    Parameter Typename Spelling Spelling Spelling Spelling Spelling Spelling Spelling Spelling Spelling Spelling
    Spelling
    spells_core spells_expr spells_initializer spells_optional spells_stmt spells_suffix spells_declaration
    spells_declarator spells_init spells_parameter spells_typename

says-Initializer : (x : Initializer-T) →
    spells_initializer (roll-Initializer x) ≡ initializer_rule (spelled-Initializer x)
unfolding spells_core spells_expr spells_initializer spells_optional spells_stmt spells_suffix spells_declaration
    spells_declarator spells_init spells_parameter spells_typename
says-Initializer x = fold-roll-Initializer Spelling Spelling Spelling Spelling Spelling Spelling Spelling Spelling
    Spelling Spelling Spelling core_rule expr_rule initializer_rule optional_rule stmt_rule suffix_rule declaration_rule
    declarator_rule init_rule parameter_rule typename_rule x

abbrev OptionalExpr-S : Type 0
OptionalExpr-S = OptionalExpr-F SpelledCore SpelledExpr SpelledInitializer SpelledOptionalExpr SpelledStmt SpelledSuffix
    SpelledDeclaration SpelledDeclarator SpelledInit SpelledParameter SpelledTypename

abbrev front-OptionalExpr : OptionalExpr-S → OptionalExpr-T
front-OptionalExpr = map-OptionalExpr SpelledCore SpelledExpr SpelledInitializer SpelledOptionalExpr SpelledStmt
    SpelledSuffix SpelledDeclaration SpelledDeclarator SpelledInit SpelledParameter SpelledTypename Core Expr
    Initializer
    OptionalExpr Stmt Suffix Declaration Declarator Init Parameter Typename (λ k. k.0) (λ k. k.0) (λ k. k.0) (λ k. k.0)
    (λ k. k.0) (λ k. k.0) (λ k. k.0) (λ k. k.0) (λ k. k.0) (λ k. k.0) (λ k. k.0)

abbrev spelled-OptionalExpr : OptionalExpr-T →
    OptionalExpr-F Spelling Spelling Spelling Spelling Spelling Spelling Spelling Spelling Spelling Spelling Spelling
spelled-OptionalExpr = map-OptionalExpr Core Expr Initializer OptionalExpr Stmt Suffix Declaration Declarator Init
    Parameter Typename Spelling Spelling Spelling Spelling Spelling Spelling Spelling Spelling Spelling Spelling
    Spelling
    spells_core spells_expr spells_initializer spells_optional spells_stmt spells_suffix spells_declaration
    spells_declarator spells_init spells_parameter spells_typename

says-OptionalExpr : (x : OptionalExpr-T) →
    spells_optional (roll-OptionalExpr x) ≡ optional_rule (spelled-OptionalExpr x)
unfolding spells_core spells_expr spells_initializer spells_optional spells_stmt spells_suffix spells_declaration
    spells_declarator spells_init spells_parameter spells_typename
says-OptionalExpr x = fold-roll-OptionalExpr Spelling Spelling Spelling Spelling Spelling Spelling Spelling Spelling
    Spelling Spelling Spelling core_rule expr_rule initializer_rule optional_rule stmt_rule suffix_rule declaration_rule
    declarator_rule init_rule parameter_rule typename_rule x

abbrev Stmt-S : Type 0
Stmt-S = Stmt-F SpelledCore SpelledExpr SpelledInitializer SpelledOptionalExpr SpelledStmt SpelledSuffix
    SpelledDeclaration SpelledDeclarator SpelledInit SpelledParameter SpelledTypename

abbrev front-Stmt : Stmt-S → Stmt-T
front-Stmt = map-Stmt SpelledCore SpelledExpr SpelledInitializer SpelledOptionalExpr SpelledStmt SpelledSuffix
    SpelledDeclaration SpelledDeclarator SpelledInit SpelledParameter SpelledTypename Core Expr Initializer OptionalExpr
    Stmt Suffix Declaration Declarator Init Parameter Typename (λ k. k.0) (λ k. k.0) (λ k. k.0) (λ k. k.0) (λ k. k.0)
    (λ k. k.0) (λ k. k.0) (λ k. k.0) (λ k. k.0) (λ k. k.0) (λ k. k.0)

abbrev spelled-Stmt : Stmt-T →
    Stmt-F Spelling Spelling Spelling Spelling Spelling Spelling Spelling Spelling Spelling Spelling Spelling
spelled-Stmt = map-Stmt Core Expr Initializer OptionalExpr Stmt Suffix Declaration Declarator Init Parameter Typename
    Spelling Spelling Spelling Spelling Spelling Spelling Spelling Spelling Spelling Spelling Spelling spells_core
    spells_expr spells_initializer spells_optional spells_stmt spells_suffix spells_declaration spells_declarator
    spells_init spells_parameter spells_typename

says-Stmt : (x : Stmt-T) → spells_stmt (roll-Stmt x) ≡ stmt_rule (spelled-Stmt x)
unfolding spells_core spells_expr spells_initializer spells_optional spells_stmt spells_suffix spells_declaration
    spells_declarator spells_init spells_parameter spells_typename
says-Stmt x = fold-roll-Stmt Spelling Spelling Spelling Spelling Spelling Spelling Spelling Spelling Spelling Spelling
    Spelling core_rule expr_rule initializer_rule optional_rule stmt_rule suffix_rule declaration_rule declarator_rule
    init_rule parameter_rule typename_rule x

abbrev Suffix-S : Type 0
Suffix-S = Suffix-F SpelledCore SpelledExpr SpelledInitializer SpelledOptionalExpr SpelledStmt SpelledSuffix
    SpelledDeclaration SpelledDeclarator SpelledInit SpelledParameter SpelledTypename

abbrev front-Suffix : Suffix-S → Suffix-T
front-Suffix = map-Suffix SpelledCore SpelledExpr SpelledInitializer SpelledOptionalExpr SpelledStmt SpelledSuffix
    SpelledDeclaration SpelledDeclarator SpelledInit SpelledParameter SpelledTypename Core Expr Initializer OptionalExpr
    Stmt Suffix Declaration Declarator Init Parameter Typename (λ k. k.0) (λ k. k.0) (λ k. k.0) (λ k. k.0) (λ k. k.0)
    (λ k. k.0) (λ k. k.0) (λ k. k.0) (λ k. k.0) (λ k. k.0) (λ k. k.0)

abbrev spelled-Suffix : Suffix-T →
    Suffix-F Spelling Spelling Spelling Spelling Spelling Spelling Spelling Spelling Spelling Spelling Spelling
spelled-Suffix = map-Suffix Core Expr Initializer OptionalExpr Stmt Suffix Declaration Declarator Init Parameter
    Typename Spelling Spelling Spelling Spelling Spelling Spelling Spelling Spelling Spelling Spelling Spelling
    spells_core spells_expr spells_initializer spells_optional spells_stmt spells_suffix spells_declaration
    spells_declarator spells_init spells_parameter spells_typename

says-Suffix : (x : Suffix-T) → spells_suffix (roll-Suffix x) ≡ suffix_rule (spelled-Suffix x)
unfolding spells_core spells_expr spells_initializer spells_optional spells_stmt spells_suffix spells_declaration
    spells_declarator spells_init spells_parameter spells_typename
says-Suffix x = fold-roll-Suffix Spelling Spelling Spelling Spelling Spelling Spelling Spelling Spelling Spelling
    Spelling Spelling core_rule expr_rule initializer_rule optional_rule stmt_rule suffix_rule declaration_rule
    declarator_rule init_rule parameter_rule typename_rule x

abbrev Declaration-S : Type 0
Declaration-S = Declaration-F SpelledCore SpelledExpr SpelledInitializer SpelledOptionalExpr SpelledStmt SpelledSuffix
    SpelledDeclaration SpelledDeclarator SpelledInit SpelledParameter SpelledTypename

abbrev front-Declaration : Declaration-S → Declaration-T
front-Declaration = map-Declaration SpelledCore SpelledExpr SpelledInitializer SpelledOptionalExpr SpelledStmt
    SpelledSuffix SpelledDeclaration SpelledDeclarator SpelledInit SpelledParameter SpelledTypename Core Expr
    Initializer
    OptionalExpr Stmt Suffix Declaration Declarator Init Parameter Typename (λ k. k.0) (λ k. k.0) (λ k. k.0) (λ k. k.0)
    (λ k. k.0) (λ k. k.0) (λ k. k.0) (λ k. k.0) (λ k. k.0) (λ k. k.0) (λ k. k.0)

abbrev spelled-Declaration : Declaration-T →
    Declaration-F Spelling Spelling Spelling Spelling Spelling Spelling Spelling Spelling Spelling Spelling Spelling
spelled-Declaration = map-Declaration Core Expr Initializer OptionalExpr Stmt Suffix Declaration Declarator Init
    Parameter Typename Spelling Spelling Spelling Spelling Spelling Spelling Spelling Spelling Spelling Spelling
    Spelling
    spells_core spells_expr spells_initializer spells_optional spells_stmt spells_suffix spells_declaration
    spells_declarator spells_init spells_parameter spells_typename

says-Declaration : (x : Declaration-T) →
    spells_declaration (roll-Declaration x) ≡ declaration_rule (spelled-Declaration x)
unfolding spells_core spells_expr spells_initializer spells_optional spells_stmt spells_suffix spells_declaration
    spells_declarator spells_init spells_parameter spells_typename
says-Declaration x = fold-roll-Declaration Spelling Spelling Spelling Spelling Spelling Spelling Spelling Spelling
    Spelling Spelling Spelling core_rule expr_rule initializer_rule optional_rule stmt_rule suffix_rule declaration_rule
    declarator_rule init_rule parameter_rule typename_rule x

abbrev Declarator-S : Type 0
Declarator-S = Declarator-F SpelledCore SpelledExpr SpelledInitializer SpelledOptionalExpr SpelledStmt SpelledSuffix
    SpelledDeclaration SpelledDeclarator SpelledInit SpelledParameter SpelledTypename

abbrev front-Declarator : Declarator-S → Declarator-T
front-Declarator = map-Declarator SpelledCore SpelledExpr SpelledInitializer SpelledOptionalExpr SpelledStmt
    SpelledSuffix SpelledDeclaration SpelledDeclarator SpelledInit SpelledParameter SpelledTypename Core Expr
    Initializer
    OptionalExpr Stmt Suffix Declaration Declarator Init Parameter Typename (λ k. k.0) (λ k. k.0) (λ k. k.0) (λ k. k.0)
    (λ k. k.0) (λ k. k.0) (λ k. k.0) (λ k. k.0) (λ k. k.0) (λ k. k.0) (λ k. k.0)

abbrev spelled-Declarator : Declarator-T →
    Declarator-F Spelling Spelling Spelling Spelling Spelling Spelling Spelling Spelling Spelling Spelling Spelling
spelled-Declarator = map-Declarator Core Expr Initializer OptionalExpr Stmt Suffix Declaration Declarator Init Parameter
    Typename Spelling Spelling Spelling Spelling Spelling Spelling Spelling Spelling Spelling Spelling Spelling
    spells_core spells_expr spells_initializer spells_optional spells_stmt spells_suffix spells_declaration
    spells_declarator spells_init spells_parameter spells_typename

says-Declarator : (x : Declarator-T) → spells_declarator (roll-Declarator x) ≡ declarator_rule (spelled-Declarator x)
unfolding spells_core spells_expr spells_initializer spells_optional spells_stmt spells_suffix spells_declaration
    spells_declarator spells_init spells_parameter spells_typename
says-Declarator x = fold-roll-Declarator Spelling Spelling Spelling Spelling Spelling Spelling Spelling Spelling
    Spelling Spelling Spelling core_rule expr_rule initializer_rule optional_rule stmt_rule suffix_rule declaration_rule
    declarator_rule init_rule parameter_rule typename_rule x

abbrev Init-S : Type 0
Init-S = Init-F SpelledCore SpelledExpr SpelledInitializer SpelledOptionalExpr SpelledStmt SpelledSuffix
    SpelledDeclaration SpelledDeclarator SpelledInit SpelledParameter SpelledTypename

abbrev front-Init : Init-S → Init-T
front-Init = map-Init SpelledCore SpelledExpr SpelledInitializer SpelledOptionalExpr SpelledStmt SpelledSuffix
    SpelledDeclaration SpelledDeclarator SpelledInit SpelledParameter SpelledTypename Core Expr Initializer OptionalExpr
    Stmt Suffix Declaration Declarator Init Parameter Typename (λ k. k.0) (λ k. k.0) (λ k. k.0) (λ k. k.0) (λ k. k.0)
    (λ k. k.0) (λ k. k.0) (λ k. k.0) (λ k. k.0) (λ k. k.0) (λ k. k.0)

abbrev spelled-Init : Init-T →
    Init-F Spelling Spelling Spelling Spelling Spelling Spelling Spelling Spelling Spelling Spelling Spelling
spelled-Init = map-Init Core Expr Initializer OptionalExpr Stmt Suffix Declaration Declarator Init Parameter Typename
    Spelling Spelling Spelling Spelling Spelling Spelling Spelling Spelling Spelling Spelling Spelling spells_core
    spells_expr spells_initializer spells_optional spells_stmt spells_suffix spells_declaration spells_declarator
    spells_init spells_parameter spells_typename

says-Init : (x : Init-T) → spells_init (roll-Init x) ≡ init_rule (spelled-Init x)
unfolding spells_core spells_expr spells_initializer spells_optional spells_stmt spells_suffix spells_declaration
    spells_declarator spells_init spells_parameter spells_typename
says-Init x = fold-roll-Init Spelling Spelling Spelling Spelling Spelling Spelling Spelling Spelling Spelling Spelling
    Spelling core_rule expr_rule initializer_rule optional_rule stmt_rule suffix_rule declaration_rule declarator_rule
    init_rule parameter_rule typename_rule x

abbrev Parameter-S : Type 0
Parameter-S = Parameter-F SpelledCore SpelledExpr SpelledInitializer SpelledOptionalExpr SpelledStmt SpelledSuffix
    SpelledDeclaration SpelledDeclarator SpelledInit SpelledParameter SpelledTypename

abbrev front-Parameter : Parameter-S → Parameter-T
front-Parameter = map-Parameter SpelledCore SpelledExpr SpelledInitializer SpelledOptionalExpr SpelledStmt SpelledSuffix
    SpelledDeclaration SpelledDeclarator SpelledInit SpelledParameter SpelledTypename Core Expr Initializer OptionalExpr
    Stmt Suffix Declaration Declarator Init Parameter Typename (λ k. k.0) (λ k. k.0) (λ k. k.0) (λ k. k.0) (λ k. k.0)
    (λ k. k.0) (λ k. k.0) (λ k. k.0) (λ k. k.0) (λ k. k.0) (λ k. k.0)

abbrev spelled-Parameter : Parameter-T →
    Parameter-F Spelling Spelling Spelling Spelling Spelling Spelling Spelling Spelling Spelling Spelling Spelling
spelled-Parameter = map-Parameter Core Expr Initializer OptionalExpr Stmt Suffix Declaration Declarator Init Parameter
    Typename Spelling Spelling Spelling Spelling Spelling Spelling Spelling Spelling Spelling Spelling Spelling
    spells_core spells_expr spells_initializer spells_optional spells_stmt spells_suffix spells_declaration
    spells_declarator spells_init spells_parameter spells_typename

says-Parameter : (x : Parameter-T) → spells_parameter (roll-Parameter x) ≡ parameter_rule (spelled-Parameter x)
unfolding spells_core spells_expr spells_initializer spells_optional spells_stmt spells_suffix spells_declaration
    spells_declarator spells_init spells_parameter spells_typename
says-Parameter x = fold-roll-Parameter Spelling Spelling Spelling Spelling Spelling Spelling Spelling Spelling Spelling
    Spelling Spelling core_rule expr_rule initializer_rule optional_rule stmt_rule suffix_rule declaration_rule
    declarator_rule init_rule parameter_rule typename_rule x

abbrev Typename-S : Type 0
Typename-S = Typename-F SpelledCore SpelledExpr SpelledInitializer SpelledOptionalExpr SpelledStmt SpelledSuffix
    SpelledDeclaration SpelledDeclarator SpelledInit SpelledParameter SpelledTypename

abbrev front-Typename : Typename-S → Typename-T
front-Typename = map-Typename SpelledCore SpelledExpr SpelledInitializer SpelledOptionalExpr SpelledStmt SpelledSuffix
    SpelledDeclaration SpelledDeclarator SpelledInit SpelledParameter SpelledTypename Core Expr Initializer OptionalExpr
    Stmt Suffix Declaration Declarator Init Parameter Typename (λ k. k.0) (λ k. k.0) (λ k. k.0) (λ k. k.0) (λ k. k.0)
    (λ k. k.0) (λ k. k.0) (λ k. k.0) (λ k. k.0) (λ k. k.0) (λ k. k.0)

abbrev spelled-Typename : Typename-T →
    Typename-F Spelling Spelling Spelling Spelling Spelling Spelling Spelling Spelling Spelling Spelling Spelling
spelled-Typename = map-Typename Core Expr Initializer OptionalExpr Stmt Suffix Declaration Declarator Init Parameter
    Typename Spelling Spelling Spelling Spelling Spelling Spelling Spelling Spelling Spelling Spelling Spelling
    spells_core spells_expr spells_initializer spells_optional spells_stmt spells_suffix spells_declaration
    spells_declarator spells_init spells_parameter spells_typename

says-Typename : (x : Typename-T) → spells_typename (roll-Typename x) ≡ typename_rule (spelled-Typename x)
unfolding spells_core spells_expr spells_initializer spells_optional spells_stmt spells_suffix spells_declaration
    spells_declarator spells_init spells_parameter spells_typename
says-Typename x = fold-roll-Typename Spelling Spelling Spelling Spelling Spelling Spelling Spelling Spelling Spelling
    Spelling Spelling core_rule expr_rule initializer_rule optional_rule stmt_rule suffix_rule declaration_rule
    declarator_rule init_rule parameter_rule typename_rule x

-- ---- the layers

spell-Core : (y : Core-S) → Few 1 (core_nodes (weighed-Core (front-Core y))) (core_rule (spelled-Core (front-Core y)))
spell-Core Core-F.Core::Absent w = omega arith
spell-Core (Core-F.Core::Name n text) w = omega arith
spell-Core (Core-F.Core::Paren b) w = omega (arith, b.1 (mark m.ParenClose w))

spell-Expr : (y : Expr-S) → Few 0 (expr_nodes (weighed-Expr (front-Expr y))) (expr_rule (spelled-Expr (front-Expr y)))
spell-Expr (Expr-F.Expr::Name n text) w = omega arith
spell-Expr (Expr-F.Number n u) w = omega arith
spell-Expr (Expr-F.Character n) w = omega arith
spell-Expr (Expr-F.String text) w = omega arith
spell-Expr (Expr-F.Expr::Paren a) w = omega (arith, a.1 (mark m.ParenClose w))
spell-Expr (Expr-F.Compile n a t) w =
    omega (arith, t.1 (mark m.ParenClose w), a.1 (mark m.Comma (spells_typename t.0 (mark m.ParenClose w))))
spell-Expr (Expr-F.Expr::Local n t) w = omega (arith, t.1 (mark m.ParenClose w))
spell-Expr (Expr-F.Param n t a) w =
    omega (arith, a.1 (mark m.ParenClose w), t.1 (mark m.Comma (spells_expr a.0 (mark m.ParenClose w))))
spell-Expr (Expr-F.Index n ab) w =
    omega (
      arith,
      ab.1.1 (mark m.BracketClose w),
      ab.0.1 (mark m.BracketOpen (spells_expr ab.1.0 (mark m.BracketClose w))),
    )
spell-Expr (Expr-F.Call n a xs) w =
    omega (
      arith,
      commas_few 0 (omega arith) weight spells_expr xs (mark m.ParenClose w),
      a.1 (mark m.ParenOpen (with_commas (map spells_expr (map (λ k. k.0) xs)) (mark m.ParenClose w))),
    )
spell-Expr (Expr-F.Step n o a) w = omega (arith, a.1 (Plain (k.Step o) ∷ w))
spell-Expr (Expr-F.Unary n o a) w = omega (arith, a.1 w)
spell-Expr (Expr-F.Tick n a) w = omega (arith, a.1 w)
spell-Expr (Expr-F.TickBlock n xs) w = omega (arith, turn_few statement_weight spells_stmt xs (mark m.BraceClose w))
spell-Expr (Expr-F.Cast n t a) w = omega (arith, a.1 w, t.1 (mark m.ParenClose (spells_expr a.0 w)))
spell-Expr (Expr-F.Sizeof n t) w = omega (arith, t.1 (mark m.ParenClose w))
spell-Expr (Expr-F.Binary n o ab) w = omega (arith, ab.1.1 w, ab.0.1 (Plain (k.Operator o) ∷ (spells_expr ab.1.0 w)))
spell-Expr (Expr-F.Choice n a c d) w =
    omega (
      arith,
      d.1 w,
      c.1 (mark m.Colon (spells_expr d.0 w)),
      a.1 (mark m.Question (spells_expr c.0 (mark m.Colon (spells_expr d.0 w)))),
    )
spell-Expr (Expr-F.Assign n ab) w = omega (arith, ab.1.1 w, ab.0.1 (mark m.Assign (spells_expr ab.1.0 w)))
spell-Expr (Expr-F.Modify n o ab) w = omega (arith, ab.1.1 w, ab.0.1 (Plain (k.Modify o) ∷ (spells_expr ab.1.0 w)))
spell-Expr (Expr-F.Comma n ab) w = omega (arith, ab.1.1 w, ab.0.1 (mark m.Comma (spells_expr ab.1.0 w)))

spell-Initializer : (y : Initializer-S) →
    Few 1 (initializer_nodes (weighed-Initializer (front-Initializer y)))
    (initializer_rule (spelled-Initializer (front-Initializer y)))
spell-Initializer Initializer-F.Initializer::Absent w = omega arith
spell-Initializer (Initializer-F.Value a) w = omega (arith, a.1 w)
spell-Initializer (Initializer-F.List xs true) w =
    omega (arith, commas_few 0 (omega arith) weight spells_expr xs (mark m.Comma (mark m.BraceClose w)))
spell-Initializer (Initializer-F.List xs false) w =
    omega (arith, commas_few 0 (omega arith) weight spells_expr xs (mark m.BraceClose w))

spell-OptionalExpr : (y : OptionalExpr-S) →
    Few 1 (optional_nodes (weighed-OptionalExpr (front-OptionalExpr y)))
    (optional_rule (spelled-OptionalExpr (front-OptionalExpr y)))
spell-OptionalExpr OptionalExpr-F.OptionalExpr::Absent w = omega arith
spell-OptionalExpr (OptionalExpr-F.Present a) w = omega (arith, a.1 w)

spell-Stmt : (y : Stmt-S) →
    Few 0 (statement_nodes (weighed-Stmt (front-Stmt y))) (stmt_rule (spelled-Stmt (front-Stmt y)))
spell-Stmt Stmt-F.Empty w = omega arith
spell-Stmt (Stmt-F.Expr a) w = omega (arith, a.1 (mark m.Semicolon w))
spell-Stmt (Stmt-F.Block xs) w = omega (arith, turn_few statement_weight spells_stmt xs (mark m.BraceClose w))
spell-Stmt (Stmt-F.Stmt::Local b) w = omega (arith, b.1 w)
spell-Stmt (Stmt-F.If n a x) w = omega (arith, x.1 w, a.1 (mark m.ParenClose (spells_stmt x.0 w)))
spell-Stmt (Stmt-F.IfElse n a x y) w =
    omega (
      arith,
      y.1 w,
      x.1 (mark m.Else (spells_stmt y.0 w)),
      a.1 (mark m.ParenClose (spells_stmt x.0 (mark m.Else (spells_stmt y.0 w)))),
    )
spell-Stmt (Stmt-F.While n a x) w = omega (arith, x.1 w, a.1 (mark m.ParenClose (spells_stmt x.0 w)))
spell-Stmt (Stmt-F.Do n x a) w =
    omega (
      arith,
      a.1 (mark m.ParenClose (mark m.Semicolon w)),
      x.1 (keyword_word keyword.While (mark m.ParenOpen (spells_expr a.0 (mark m.ParenClose (mark m.Semicolon w))))),
    )
spell-Stmt (Stmt-F.For n f a c x) w =
    omega (
      arith,
      x.1 w,
      c.1 (mark m.ParenClose (spells_stmt x.0 w)),
      a.1 (mark m.Semicolon (spells_optional c.0 (mark m.ParenClose (spells_stmt x.0 w)))),
      f.1 (spells_optional a.0 (mark m.Semicolon (spells_optional c.0 (mark m.ParenClose (spells_stmt x.0 w))))),
    )
spell-Stmt (Stmt-F.Switch n a xs) w =
    omega (
      arith,
      turn_few statement_weight spells_stmt xs (mark m.BraceClose w),
      a.1 (mark m.ParenClose (mark m.BraceOpen (in_turn (map spells_stmt (map (λ k. k.0) xs)) (mark m.BraceClose w)))),
    )
spell-Stmt (Stmt-F.Case n a) w = omega (arith, a.1 (mark m.Colon w))
spell-Stmt (Stmt-F.Default n) w = omega arith
spell-Stmt (Stmt-F.Break n) w = omega arith
spell-Stmt (Stmt-F.Continue n) w = omega arith
spell-Stmt (Stmt-F.Return n a) w = omega (arith, a.1 (mark m.Semicolon w))

spell-Suffix : (y : Suffix-S) →
    Few 0 (suffix_nodes (weighed-Suffix (front-Suffix y))) (suffix_rule (spelled-Suffix (front-Suffix y)))
spell-Suffix (Suffix-F.Array a) w = omega (arith, a.1 (mark m.BracketClose w))
spell-Suffix Suffix-F.Unlisted w = omega arith
spell-Suffix Suffix-F.Nothing w = omega arith
spell-Suffix (Suffix-F.Listed xs) w =
    omega (arith, commas_few 0 (omega arith) parameter_weight spells_parameter xs (mark m.ParenClose w))

spell-Declaration : (y : Declaration-S) →
    Few 0 (declaration_nodes (weighed-Declaration (front-Declaration y)) + 2)
    (declaration_rule (spelled-Declaration (front-Declaration y)))
spell-Declaration r w = omega (
  arith,
  commas_few 4 (omega arith) init_weight spells_init r.inits (mark m.Semicolon w),
  base_few r.base (with_commas (map spells_init (map (λ k. k.0) r.inits)) (mark m.Semicolon w)),
)

spell-Declarator : (y : Declarator-S) →
    Few 2 (declarator_nodes (weighed-Declarator (front-Declarator y)))
    (declarator_rule (spelled-Declarator (front-Declarator y)))
spell-Declarator r w = omega (
  arith,
  turn_few suffix_weight spells_suffix r.suffixes w,
  r.core.1 (in_turn (map spells_suffix (map (λ k. k.0) r.suffixes)) w),
  prefixes_few r.prefixes (spells_core r.core.0 (in_turn (map spells_suffix (map (λ k. k.0) r.suffixes)) w)),
)

spell-Init : (y : Init-S) → Few 4 (init_nodes (weighed-Init (front-Init y))) (init_rule (spelled-Init (front-Init y)))
spell-Init r w = omega (arith, r.value.1 w, r.declarator.1 (spells_initializer r.value.0 w))

spell-Parameter : (y : Parameter-S) →
    Few 0 (parameter_nodes (weighed-Parameter (front-Parameter y)))
    (parameter_rule (spelled-Parameter (front-Parameter y)))
spell-Parameter r w = omega (arith, r.declarator.1 w, base_few r.base (spells_declarator r.declarator.0 w))

spell-Typename : (y : Typename-S) →
    Few 0 (typename_nodes (weighed-Typename (front-Typename y))) (typename_rule (spelled-Typename (front-Typename y)))
spell-Typename r w = omega (arith, r.declarator.1 w, base_few r.base (spells_declarator r.declarator.0 w))

-- ---- the induction

step-Core : (x : Core-T) (y : Core-S) → front-Core y ≡ x → SpellsCore (roll-Core x)
step-Core x y is =
    subst (λ z. SpellsCore (roll-Core z)) is
    (subst (λ (n : ℕ). Few 1 n (spells_core (roll-Core (front-Core y)))) (sym (weigh-Core (front-Core y)))
    (subst (λ (v : Spelling). Few 1 (core_nodes (weighed-Core (front-Core y))) v) (sym (says-Core (front-Core y)))
    (spell-Core y)))

step-Expr : (x : Expr-T) (y : Expr-S) → front-Expr y ≡ x → SpellsExpr (roll-Expr x)
step-Expr x y is =
    subst (λ z. SpellsExpr (roll-Expr z)) is
    (subst (λ (n : ℕ). Few 0 n (spells_expr (roll-Expr (front-Expr y)))) (sym (weigh-Expr (front-Expr y)))
    (subst (λ (v : Spelling). Few 0 (expr_nodes (weighed-Expr (front-Expr y))) v) (sym (says-Expr (front-Expr y)))
    (spell-Expr y)))

step-Initializer : (x : Initializer-T) (y : Initializer-S) → front-Initializer y ≡ x →
    SpellsInitializer (roll-Initializer x)
step-Initializer x y is =
    subst (λ z. SpellsInitializer (roll-Initializer z)) is
    (subst (λ (n : ℕ). Few 1 n (spells_initializer (roll-Initializer (front-Initializer y))))
    (sym (weigh-Initializer (front-Initializer y)))
    (subst (λ (v : Spelling). Few 1 (initializer_nodes (weighed-Initializer (front-Initializer y))) v)
    (sym (says-Initializer (front-Initializer y))) (spell-Initializer y)))

step-OptionalExpr : (x : OptionalExpr-T) (y : OptionalExpr-S) → front-OptionalExpr y ≡ x →
    SpellsOptionalExpr (roll-OptionalExpr x)
step-OptionalExpr x y is =
    subst (λ z. SpellsOptionalExpr (roll-OptionalExpr z)) is
    (subst (λ (n : ℕ). Few 1 n (spells_optional (roll-OptionalExpr (front-OptionalExpr y))))
    (sym (weigh-OptionalExpr (front-OptionalExpr y)))
    (subst (λ (v : Spelling). Few 1 (optional_nodes (weighed-OptionalExpr (front-OptionalExpr y))) v)
    (sym (says-OptionalExpr (front-OptionalExpr y))) (spell-OptionalExpr y)))

step-Stmt : (x : Stmt-T) (y : Stmt-S) → front-Stmt y ≡ x → SpellsStmt (roll-Stmt x)
step-Stmt x y is =
    subst (λ z. SpellsStmt (roll-Stmt z)) is
    (subst (λ (n : ℕ). Few 0 n (spells_stmt (roll-Stmt (front-Stmt y)))) (sym (weigh-Stmt (front-Stmt y)))
    (subst (λ (v : Spelling). Few 0 (statement_nodes (weighed-Stmt (front-Stmt y))) v) (sym (says-Stmt (front-Stmt y)))
    (spell-Stmt y)))

step-Suffix : (x : Suffix-T) (y : Suffix-S) → front-Suffix y ≡ x → SpellsSuffix (roll-Suffix x)
step-Suffix x y is =
    subst (λ z. SpellsSuffix (roll-Suffix z)) is
    (subst (λ (n : ℕ). Few 0 n (spells_suffix (roll-Suffix (front-Suffix y)))) (sym (weigh-Suffix (front-Suffix y)))
    (subst (λ (v : Spelling). Few 0 (suffix_nodes (weighed-Suffix (front-Suffix y))) v)
    (sym (says-Suffix (front-Suffix y))) (spell-Suffix y)))

step-Declaration : (x : Declaration-T) (y : Declaration-S) → front-Declaration y ≡ x →
    SpellsDeclaration (roll-Declaration x)
step-Declaration x y is =
    subst (λ z. SpellsDeclaration (roll-Declaration z)) is
    (subst (λ (n : ℕ). Few 0 (n + 2) (spells_declaration (roll-Declaration (front-Declaration y))))
    (sym (weigh-Declaration (front-Declaration y)))
    (subst (λ (v : Spelling). Few 0 (declaration_nodes (weighed-Declaration (front-Declaration y)) + 2) v)
    (sym (says-Declaration (front-Declaration y))) (spell-Declaration y)))

step-Declarator : (x : Declarator-T) (y : Declarator-S) → front-Declarator y ≡ x → SpellsDeclarator (roll-Declarator x)
step-Declarator x y is =
    subst (λ z. SpellsDeclarator (roll-Declarator z)) is
    (subst (λ (n : ℕ). Few 2 n (spells_declarator (roll-Declarator (front-Declarator y))))
    (sym (weigh-Declarator (front-Declarator y)))
    (subst (λ (v : Spelling). Few 2 (declarator_nodes (weighed-Declarator (front-Declarator y))) v)
    (sym (says-Declarator (front-Declarator y))) (spell-Declarator y)))

step-Init : (x : Init-T) (y : Init-S) → front-Init y ≡ x → SpellsInit (roll-Init x)
step-Init x y is =
    subst (λ z. SpellsInit (roll-Init z)) is
    (subst (λ (n : ℕ). Few 4 n (spells_init (roll-Init (front-Init y)))) (sym (weigh-Init (front-Init y)))
    (subst (λ (v : Spelling). Few 4 (init_nodes (weighed-Init (front-Init y))) v) (sym (says-Init (front-Init y)))
    (spell-Init y)))

step-Parameter : (x : Parameter-T) (y : Parameter-S) → front-Parameter y ≡ x → SpellsParameter (roll-Parameter x)
step-Parameter x y is =
    subst (λ z. SpellsParameter (roll-Parameter z)) is
    (subst (λ (n : ℕ). Few 0 n (spells_parameter (roll-Parameter (front-Parameter y))))
    (sym (weigh-Parameter (front-Parameter y)))
    (subst (λ (v : Spelling). Few 0 (parameter_nodes (weighed-Parameter (front-Parameter y))) v)
    (sym (says-Parameter (front-Parameter y))) (spell-Parameter y)))

step-Typename : (x : Typename-T) (y : Typename-S) → front-Typename y ≡ x → SpellsTypename (roll-Typename x)
step-Typename x y is =
    subst (λ z. SpellsTypename (roll-Typename z)) is
    (subst (λ (n : ℕ). Few 0 n (spells_typename (roll-Typename (front-Typename y))))
    (sym (weigh-Typename (front-Typename y)))
    (subst (λ (v : Spelling). Few 0 (typename_nodes (weighed-Typename (front-Typename y))) v)
    (sym (says-Typename (front-Typename y))) (spell-Typename y)))

pub stmt_few : (x : Stmt) → SpellsStmt x
stmt_few = ind-Stmt SpellsCore SpellsExpr SpellsInitializer SpellsOptionalExpr SpellsStmt SpellsSuffix SpellsDeclaration
    SpellsDeclarator SpellsInit SpellsParameter SpellsTypename step-Core step-Expr step-Initializer step-OptionalExpr
    step-Stmt step-Suffix step-Declaration step-Declarator step-Init step-Parameter step-Typename

pub declarator_few : (x : Declarator) → SpellsDeclarator x
declarator_few = ind-Declarator SpellsCore SpellsExpr SpellsInitializer SpellsOptionalExpr SpellsStmt SpellsSuffix
    SpellsDeclaration SpellsDeclarator SpellsInit SpellsParameter SpellsTypename step-Core step-Expr step-Initializer
    step-OptionalExpr step-Stmt step-Suffix step-Declaration step-Declarator step-Init step-Parameter step-Typename

pub declaration_few : (x : Declaration) → SpellsDeclaration x
declaration_few = ind-Declaration SpellsCore SpellsExpr SpellsInitializer SpellsOptionalExpr SpellsStmt SpellsSuffix
    SpellsDeclaration SpellsDeclarator SpellsInit SpellsParameter SpellsTypename step-Core step-Expr step-Initializer
    step-OptionalExpr step-Stmt step-Suffix step-Declaration step-Declarator step-Init step-Parameter step-Typename

-- ---- programs

items_few : (xs : List Stmt) (w : Words) →
    total (map statement_weight xs) + 4 * length w ≤ 4 * length (in_turn (map spells_stmt xs) w)
items_few [] w = omega arith
items_few (x ∷ xs) w = omega (arith, stmt_few x (in_turn (map spells_stmt xs) w), items_few xs w)

external_few : (x : External) (w : Words) → item_weight x + 4 * length w ≤ 4 * length (spells_external x w)
external_few (ext.Function n words d xs) w =
    omega (
      arith,
      base_few words (spells_declarator d (braced (map spells_stmt xs) w)),
      declarator_few d (braced (map spells_stmt xs) w),
      items_few xs (mark m.BraceClose w),
    )
external_few (ext.Declaration d) w = omega (arith, declaration_few d w)

pub program_few : (xs : List External) (w : Words) →
    total (map item_weight xs) + 4 * length w ≤ 4 * length (spells_program xs w)
program_few [] w = omega arith
program_few (x ∷ xs) w = omega (arith, external_few x (spells_program xs w), program_few xs w)
