-- Induction over the parts of a tree that is small: what is shown of a node by its parts, where the node weighs no more than a limit, holds
-- of each tree that does, since each part weighs less than its node. Written by tools/checker/weights.py.
use Rattle.std.proofs.Common.{◌≡◌, ℕ, ◌≤◌, List, [], ◌∷◌, map, refl, ap, sym, subst, ◌∙◌, arith}
use Rattle.tick_tree.specs.declared.syntax.Core.{Core, roll-Core}
use Rattle.tick_tree.specs.declared.syntax.Expr.{Expr, roll-Expr}
use Rattle.tick_tree.specs.declared.syntax.Initializer.{Initializer, roll-Initializer}
use Rattle.tick_tree.specs.declared.syntax.OptionalExpr.{OptionalExpr, roll-OptionalExpr}
use Rattle.tick_tree.specs.declared.syntax.Stmt.{Stmt, roll-Stmt}
use Rattle.tick_tree.specs.declared.syntax.Suffix.{Suffix, roll-Suffix}
use Rattle.tick_tree.specs.declared.syntax.Declaration.{Declaration, roll-Declaration}
use Rattle.tick_tree.specs.declared.syntax.Declarator.{Declarator, roll-Declarator}
use Rattle.tick_tree.specs.declared.syntax.Init.{Init, roll-Init}
use Rattle.tick_tree.specs.declared.syntax.Parameter.{Parameter, roll-Parameter}
use Rattle.tick_tree.specs.declared.syntax.Typename.{Typename, roll-Typename}
use Rattle.tick_tree.specs.declared.syntax.Core.TheOpen.{Core-F, Expr-F, Initializer-F, OptionalExpr-F, Stmt-F, Suffix-F, Declaration-F, Declarator-F, Init-F, Parameter-F, Typename-F}
use Rattle.tick_tree.specs.declared.syntax.Core.TheFolds.{map-Core, map-Expr, map-Initializer, map-OptionalExpr, map-Stmt, map-Suffix, map-Declaration, map-Declarator, map-Init, map-Parameter, map-Typename, ind-Core, ind-Expr, ind-Initializer, ind-OptionalExpr, ind-Stmt, ind-Suffix, ind-Declaration, ind-Declarator, ind-Init, ind-Parameter, ind-Typename}
use Rattle.tick_tree.specs.Weights.{total, core_nodes, expr_nodes, initializer_nodes, optional_nodes, statement_nodes, suffix_nodes, declaration_nodes, declarator_nodes, init_nodes, parameter_nodes, typename_nodes, core_weight, weight, initializer_weight, optional_weight, statement_weight, suffix_weight, declaration_weight, declarator_weight, init_weight, parameter_weight, typename_weight}
use Rattle.syntax_size.proofs.Folds.{weigh-Core, weigh-Expr, weigh-Initializer, weigh-OptionalExpr, weigh-Stmt, weigh-Suffix, weigh-Declaration, weigh-Declarator, weigh-Init, weigh-Parameter, weigh-Typename}
use Rattle.syntax_size.specs.Layers.{Core-T, Expr-T, Initializer-T, OptionalExpr-T, Stmt-T, Suffix-T, Declaration-T, Declarator-T, Init-T, Parameter-T, Typename-T, weighed-Core, weighed-Expr, weighed-Initializer, weighed-OptionalExpr, weighed-Stmt, weighed-Suffix, weighed-Declaration, weighed-Declarator, weighed-Init, weighed-Parameter, weighed-Typename}

-- parts of a list
pub record Lowered {A : Type 0} (P : A → Type 0) (xs : List A) : Type 0 where
  pub parts : List ((x : A) × P x)
  pub is : map (λ k. k.0) parts ≡ xs

lower : {A : Type 0} (P : A → Type 0) (limit : ℕ) (weigh : A → ℕ) (ks : List ((x : A) × (weigh x ≤ limit → P x))) → total (map weigh (map (λ k. k.0) ks)) ≤ limit → Lowered P (map (λ k. k.0) ks)
lower P limit weigh [] h = record { parts = []; is = refl }
lower P limit weigh (k ∷ ks) h =
    let rest = lower P limit weigh ks (omega arith) in
    record { parts = (k.0, k.1 (omega arith)) ∷ rest.parts; is = ap (λ l. k.0 ∷ l) rest.is }

module _ (limit : ℕ) (PCore : Core → Type 0) (PExpr : Expr → Type 0) (PInitializer : Initializer → Type 0) (POptionalExpr : OptionalExpr → Type 0) (PStmt : Stmt → Type 0) (PSuffix : Suffix → Type 0) (PDeclaration : Declaration → Type 0) (PDeclarator : Declarator → Type 0) (PInit : Init → Type 0) (PParameter : Parameter → Type 0) (PTypename : Typename → Type 0) where
  abbrev pub Core-P : Type 0
  Core-P = Core-F ((x : Core) × PCore x) ((x : Expr) × PExpr x) ((x : Initializer) × PInitializer x) ((x : OptionalExpr) × POptionalExpr x) ((x : Stmt) × PStmt x) ((x : Suffix) × PSuffix x) ((x : Declaration) × PDeclaration x) ((x : Declarator) × PDeclarator x) ((x : Init) × PInit x) ((x : Parameter) × PParameter x) ((x : Typename) × PTypename x)

  abbrev pub parts-Core : Core-F ((x : Core) × PCore x) ((x : Expr) × PExpr x) ((x : Initializer) × PInitializer x) ((x : OptionalExpr) × POptionalExpr x) ((x : Stmt) × PStmt x) ((x : Suffix) × PSuffix x) ((x : Declaration) × PDeclaration x) ((x : Declarator) × PDeclarator x) ((x : Init) × PInit x) ((x : Parameter) × PParameter x) ((x : Typename) × PTypename x) → Core-T
  parts-Core = map-Core ((x : Core) × PCore x) ((x : Expr) × PExpr x) ((x : Initializer) × PInitializer x) ((x : OptionalExpr) × POptionalExpr x) ((x : Stmt) × PStmt x) ((x : Suffix) × PSuffix x) ((x : Declaration) × PDeclaration x) ((x : Declarator) × PDeclarator x) ((x : Init) × PInit x) ((x : Parameter) × PParameter x) ((x : Typename) × PTypename x) Core Expr Initializer OptionalExpr Stmt Suffix Declaration Declarator Init Parameter Typename (λ k. k.0) (λ k. k.0) (λ k. k.0) (λ k. k.0) (λ k. k.0) (λ k. k.0) (λ k. k.0) (λ k. k.0) (λ k. k.0) (λ k. k.0) (λ k. k.0)

  abbrev Core-Q : Type 0
  Core-Q = Core-F ((x : Core) × (core_weight x ≤ limit → PCore x)) ((x : Expr) × (weight x ≤ limit → PExpr x)) ((x : Initializer) × (initializer_weight x ≤ limit → PInitializer x)) ((x : OptionalExpr) × (optional_weight x ≤ limit → POptionalExpr x)) ((x : Stmt) × (statement_weight x ≤ limit → PStmt x)) ((x : Suffix) × (suffix_weight x ≤ limit → PSuffix x)) ((x : Declaration) × (declaration_weight x ≤ limit → PDeclaration x)) ((x : Declarator) × (declarator_weight x ≤ limit → PDeclarator x)) ((x : Init) × (init_weight x ≤ limit → PInit x)) ((x : Parameter) × (parameter_weight x ≤ limit → PParameter x)) ((x : Typename) × (typename_weight x ≤ limit → PTypename x))

  abbrev small-Core : Core-F ((x : Core) × (core_weight x ≤ limit → PCore x)) ((x : Expr) × (weight x ≤ limit → PExpr x)) ((x : Initializer) × (initializer_weight x ≤ limit → PInitializer x)) ((x : OptionalExpr) × (optional_weight x ≤ limit → POptionalExpr x)) ((x : Stmt) × (statement_weight x ≤ limit → PStmt x)) ((x : Suffix) × (suffix_weight x ≤ limit → PSuffix x)) ((x : Declaration) × (declaration_weight x ≤ limit → PDeclaration x)) ((x : Declarator) × (declarator_weight x ≤ limit → PDeclarator x)) ((x : Init) × (init_weight x ≤ limit → PInit x)) ((x : Parameter) × (parameter_weight x ≤ limit → PParameter x)) ((x : Typename) × (typename_weight x ≤ limit → PTypename x)) → Core-T
  small-Core = map-Core ((x : Core) × (core_weight x ≤ limit → PCore x)) ((x : Expr) × (weight x ≤ limit → PExpr x)) ((x : Initializer) × (initializer_weight x ≤ limit → PInitializer x)) ((x : OptionalExpr) × (optional_weight x ≤ limit → POptionalExpr x)) ((x : Stmt) × (statement_weight x ≤ limit → PStmt x)) ((x : Suffix) × (suffix_weight x ≤ limit → PSuffix x)) ((x : Declaration) × (declaration_weight x ≤ limit → PDeclaration x)) ((x : Declarator) × (declarator_weight x ≤ limit → PDeclarator x)) ((x : Init) × (init_weight x ≤ limit → PInit x)) ((x : Parameter) × (parameter_weight x ≤ limit → PParameter x)) ((x : Typename) × (typename_weight x ≤ limit → PTypename x)) Core Expr Initializer OptionalExpr Stmt Suffix Declaration Declarator Init Parameter Typename (λ k. k.0) (λ k. k.0) (λ k. k.0) (λ k. k.0) (λ k. k.0) (λ k. k.0) (λ k. k.0) (λ k. k.0) (λ k. k.0) (λ k. k.0) (λ k. k.0)

  -- what is shown of a node by its parts
  abbrev pub StepCore : Type 0
  StepCore = (x : Core-T) (y : Core-F ((x : Core) × PCore x) ((x : Expr) × PExpr x) ((x : Initializer) × PInitializer x) ((x : OptionalExpr) × POptionalExpr x) ((x : Stmt) × PStmt x) ((x : Suffix) × PSuffix x) ((x : Declaration) × PDeclaration x) ((x : Declarator) × PDeclarator x) ((x : Init) × PInit x) ((x : Parameter) × PParameter x) ((x : Typename) × PTypename x)) → parts-Core y ≡ x → core_weight (roll-Core x) ≤ limit → PCore (roll-Core x)

  abbrev pub Expr-P : Type 0
  Expr-P = Expr-F ((x : Core) × PCore x) ((x : Expr) × PExpr x) ((x : Initializer) × PInitializer x) ((x : OptionalExpr) × POptionalExpr x) ((x : Stmt) × PStmt x) ((x : Suffix) × PSuffix x) ((x : Declaration) × PDeclaration x) ((x : Declarator) × PDeclarator x) ((x : Init) × PInit x) ((x : Parameter) × PParameter x) ((x : Typename) × PTypename x)

  abbrev pub parts-Expr : Expr-F ((x : Core) × PCore x) ((x : Expr) × PExpr x) ((x : Initializer) × PInitializer x) ((x : OptionalExpr) × POptionalExpr x) ((x : Stmt) × PStmt x) ((x : Suffix) × PSuffix x) ((x : Declaration) × PDeclaration x) ((x : Declarator) × PDeclarator x) ((x : Init) × PInit x) ((x : Parameter) × PParameter x) ((x : Typename) × PTypename x) → Expr-T
  parts-Expr = map-Expr ((x : Core) × PCore x) ((x : Expr) × PExpr x) ((x : Initializer) × PInitializer x) ((x : OptionalExpr) × POptionalExpr x) ((x : Stmt) × PStmt x) ((x : Suffix) × PSuffix x) ((x : Declaration) × PDeclaration x) ((x : Declarator) × PDeclarator x) ((x : Init) × PInit x) ((x : Parameter) × PParameter x) ((x : Typename) × PTypename x) Core Expr Initializer OptionalExpr Stmt Suffix Declaration Declarator Init Parameter Typename (λ k. k.0) (λ k. k.0) (λ k. k.0) (λ k. k.0) (λ k. k.0) (λ k. k.0) (λ k. k.0) (λ k. k.0) (λ k. k.0) (λ k. k.0) (λ k. k.0)

  abbrev Expr-Q : Type 0
  Expr-Q = Expr-F ((x : Core) × (core_weight x ≤ limit → PCore x)) ((x : Expr) × (weight x ≤ limit → PExpr x)) ((x : Initializer) × (initializer_weight x ≤ limit → PInitializer x)) ((x : OptionalExpr) × (optional_weight x ≤ limit → POptionalExpr x)) ((x : Stmt) × (statement_weight x ≤ limit → PStmt x)) ((x : Suffix) × (suffix_weight x ≤ limit → PSuffix x)) ((x : Declaration) × (declaration_weight x ≤ limit → PDeclaration x)) ((x : Declarator) × (declarator_weight x ≤ limit → PDeclarator x)) ((x : Init) × (init_weight x ≤ limit → PInit x)) ((x : Parameter) × (parameter_weight x ≤ limit → PParameter x)) ((x : Typename) × (typename_weight x ≤ limit → PTypename x))

  abbrev small-Expr : Expr-F ((x : Core) × (core_weight x ≤ limit → PCore x)) ((x : Expr) × (weight x ≤ limit → PExpr x)) ((x : Initializer) × (initializer_weight x ≤ limit → PInitializer x)) ((x : OptionalExpr) × (optional_weight x ≤ limit → POptionalExpr x)) ((x : Stmt) × (statement_weight x ≤ limit → PStmt x)) ((x : Suffix) × (suffix_weight x ≤ limit → PSuffix x)) ((x : Declaration) × (declaration_weight x ≤ limit → PDeclaration x)) ((x : Declarator) × (declarator_weight x ≤ limit → PDeclarator x)) ((x : Init) × (init_weight x ≤ limit → PInit x)) ((x : Parameter) × (parameter_weight x ≤ limit → PParameter x)) ((x : Typename) × (typename_weight x ≤ limit → PTypename x)) → Expr-T
  small-Expr = map-Expr ((x : Core) × (core_weight x ≤ limit → PCore x)) ((x : Expr) × (weight x ≤ limit → PExpr x)) ((x : Initializer) × (initializer_weight x ≤ limit → PInitializer x)) ((x : OptionalExpr) × (optional_weight x ≤ limit → POptionalExpr x)) ((x : Stmt) × (statement_weight x ≤ limit → PStmt x)) ((x : Suffix) × (suffix_weight x ≤ limit → PSuffix x)) ((x : Declaration) × (declaration_weight x ≤ limit → PDeclaration x)) ((x : Declarator) × (declarator_weight x ≤ limit → PDeclarator x)) ((x : Init) × (init_weight x ≤ limit → PInit x)) ((x : Parameter) × (parameter_weight x ≤ limit → PParameter x)) ((x : Typename) × (typename_weight x ≤ limit → PTypename x)) Core Expr Initializer OptionalExpr Stmt Suffix Declaration Declarator Init Parameter Typename (λ k. k.0) (λ k. k.0) (λ k. k.0) (λ k. k.0) (λ k. k.0) (λ k. k.0) (λ k. k.0) (λ k. k.0) (λ k. k.0) (λ k. k.0) (λ k. k.0)

  -- what is shown of a node by its parts
  abbrev pub StepExpr : Type 0
  StepExpr = (x : Expr-T) (y : Expr-F ((x : Core) × PCore x) ((x : Expr) × PExpr x) ((x : Initializer) × PInitializer x) ((x : OptionalExpr) × POptionalExpr x) ((x : Stmt) × PStmt x) ((x : Suffix) × PSuffix x) ((x : Declaration) × PDeclaration x) ((x : Declarator) × PDeclarator x) ((x : Init) × PInit x) ((x : Parameter) × PParameter x) ((x : Typename) × PTypename x)) → parts-Expr y ≡ x → weight (roll-Expr x) ≤ limit → PExpr (roll-Expr x)

  abbrev pub Initializer-P : Type 0
  Initializer-P = Initializer-F ((x : Core) × PCore x) ((x : Expr) × PExpr x) ((x : Initializer) × PInitializer x) ((x : OptionalExpr) × POptionalExpr x) ((x : Stmt) × PStmt x) ((x : Suffix) × PSuffix x) ((x : Declaration) × PDeclaration x) ((x : Declarator) × PDeclarator x) ((x : Init) × PInit x) ((x : Parameter) × PParameter x) ((x : Typename) × PTypename x)

  abbrev pub parts-Initializer : Initializer-F ((x : Core) × PCore x) ((x : Expr) × PExpr x) ((x : Initializer) × PInitializer x) ((x : OptionalExpr) × POptionalExpr x) ((x : Stmt) × PStmt x) ((x : Suffix) × PSuffix x) ((x : Declaration) × PDeclaration x) ((x : Declarator) × PDeclarator x) ((x : Init) × PInit x) ((x : Parameter) × PParameter x) ((x : Typename) × PTypename x) → Initializer-T
  parts-Initializer = map-Initializer ((x : Core) × PCore x) ((x : Expr) × PExpr x) ((x : Initializer) × PInitializer x) ((x : OptionalExpr) × POptionalExpr x) ((x : Stmt) × PStmt x) ((x : Suffix) × PSuffix x) ((x : Declaration) × PDeclaration x) ((x : Declarator) × PDeclarator x) ((x : Init) × PInit x) ((x : Parameter) × PParameter x) ((x : Typename) × PTypename x) Core Expr Initializer OptionalExpr Stmt Suffix Declaration Declarator Init Parameter Typename (λ k. k.0) (λ k. k.0) (λ k. k.0) (λ k. k.0) (λ k. k.0) (λ k. k.0) (λ k. k.0) (λ k. k.0) (λ k. k.0) (λ k. k.0) (λ k. k.0)

  abbrev Initializer-Q : Type 0
  Initializer-Q = Initializer-F ((x : Core) × (core_weight x ≤ limit → PCore x)) ((x : Expr) × (weight x ≤ limit → PExpr x)) ((x : Initializer) × (initializer_weight x ≤ limit → PInitializer x)) ((x : OptionalExpr) × (optional_weight x ≤ limit → POptionalExpr x)) ((x : Stmt) × (statement_weight x ≤ limit → PStmt x)) ((x : Suffix) × (suffix_weight x ≤ limit → PSuffix x)) ((x : Declaration) × (declaration_weight x ≤ limit → PDeclaration x)) ((x : Declarator) × (declarator_weight x ≤ limit → PDeclarator x)) ((x : Init) × (init_weight x ≤ limit → PInit x)) ((x : Parameter) × (parameter_weight x ≤ limit → PParameter x)) ((x : Typename) × (typename_weight x ≤ limit → PTypename x))

  abbrev small-Initializer : Initializer-F ((x : Core) × (core_weight x ≤ limit → PCore x)) ((x : Expr) × (weight x ≤ limit → PExpr x)) ((x : Initializer) × (initializer_weight x ≤ limit → PInitializer x)) ((x : OptionalExpr) × (optional_weight x ≤ limit → POptionalExpr x)) ((x : Stmt) × (statement_weight x ≤ limit → PStmt x)) ((x : Suffix) × (suffix_weight x ≤ limit → PSuffix x)) ((x : Declaration) × (declaration_weight x ≤ limit → PDeclaration x)) ((x : Declarator) × (declarator_weight x ≤ limit → PDeclarator x)) ((x : Init) × (init_weight x ≤ limit → PInit x)) ((x : Parameter) × (parameter_weight x ≤ limit → PParameter x)) ((x : Typename) × (typename_weight x ≤ limit → PTypename x)) → Initializer-T
  small-Initializer = map-Initializer ((x : Core) × (core_weight x ≤ limit → PCore x)) ((x : Expr) × (weight x ≤ limit → PExpr x)) ((x : Initializer) × (initializer_weight x ≤ limit → PInitializer x)) ((x : OptionalExpr) × (optional_weight x ≤ limit → POptionalExpr x)) ((x : Stmt) × (statement_weight x ≤ limit → PStmt x)) ((x : Suffix) × (suffix_weight x ≤ limit → PSuffix x)) ((x : Declaration) × (declaration_weight x ≤ limit → PDeclaration x)) ((x : Declarator) × (declarator_weight x ≤ limit → PDeclarator x)) ((x : Init) × (init_weight x ≤ limit → PInit x)) ((x : Parameter) × (parameter_weight x ≤ limit → PParameter x)) ((x : Typename) × (typename_weight x ≤ limit → PTypename x)) Core Expr Initializer OptionalExpr Stmt Suffix Declaration Declarator Init Parameter Typename (λ k. k.0) (λ k. k.0) (λ k. k.0) (λ k. k.0) (λ k. k.0) (λ k. k.0) (λ k. k.0) (λ k. k.0) (λ k. k.0) (λ k. k.0) (λ k. k.0)

  -- what is shown of a node by its parts
  abbrev pub StepInitializer : Type 0
  StepInitializer = (x : Initializer-T) (y : Initializer-F ((x : Core) × PCore x) ((x : Expr) × PExpr x) ((x : Initializer) × PInitializer x) ((x : OptionalExpr) × POptionalExpr x) ((x : Stmt) × PStmt x) ((x : Suffix) × PSuffix x) ((x : Declaration) × PDeclaration x) ((x : Declarator) × PDeclarator x) ((x : Init) × PInit x) ((x : Parameter) × PParameter x) ((x : Typename) × PTypename x)) → parts-Initializer y ≡ x → initializer_weight (roll-Initializer x) ≤ limit → PInitializer (roll-Initializer x)

  abbrev pub OptionalExpr-P : Type 0
  OptionalExpr-P = OptionalExpr-F ((x : Core) × PCore x) ((x : Expr) × PExpr x) ((x : Initializer) × PInitializer x) ((x : OptionalExpr) × POptionalExpr x) ((x : Stmt) × PStmt x) ((x : Suffix) × PSuffix x) ((x : Declaration) × PDeclaration x) ((x : Declarator) × PDeclarator x) ((x : Init) × PInit x) ((x : Parameter) × PParameter x) ((x : Typename) × PTypename x)

  abbrev pub parts-OptionalExpr : OptionalExpr-F ((x : Core) × PCore x) ((x : Expr) × PExpr x) ((x : Initializer) × PInitializer x) ((x : OptionalExpr) × POptionalExpr x) ((x : Stmt) × PStmt x) ((x : Suffix) × PSuffix x) ((x : Declaration) × PDeclaration x) ((x : Declarator) × PDeclarator x) ((x : Init) × PInit x) ((x : Parameter) × PParameter x) ((x : Typename) × PTypename x) → OptionalExpr-T
  parts-OptionalExpr = map-OptionalExpr ((x : Core) × PCore x) ((x : Expr) × PExpr x) ((x : Initializer) × PInitializer x) ((x : OptionalExpr) × POptionalExpr x) ((x : Stmt) × PStmt x) ((x : Suffix) × PSuffix x) ((x : Declaration) × PDeclaration x) ((x : Declarator) × PDeclarator x) ((x : Init) × PInit x) ((x : Parameter) × PParameter x) ((x : Typename) × PTypename x) Core Expr Initializer OptionalExpr Stmt Suffix Declaration Declarator Init Parameter Typename (λ k. k.0) (λ k. k.0) (λ k. k.0) (λ k. k.0) (λ k. k.0) (λ k. k.0) (λ k. k.0) (λ k. k.0) (λ k. k.0) (λ k. k.0) (λ k. k.0)

  abbrev OptionalExpr-Q : Type 0
  OptionalExpr-Q = OptionalExpr-F ((x : Core) × (core_weight x ≤ limit → PCore x)) ((x : Expr) × (weight x ≤ limit → PExpr x)) ((x : Initializer) × (initializer_weight x ≤ limit → PInitializer x)) ((x : OptionalExpr) × (optional_weight x ≤ limit → POptionalExpr x)) ((x : Stmt) × (statement_weight x ≤ limit → PStmt x)) ((x : Suffix) × (suffix_weight x ≤ limit → PSuffix x)) ((x : Declaration) × (declaration_weight x ≤ limit → PDeclaration x)) ((x : Declarator) × (declarator_weight x ≤ limit → PDeclarator x)) ((x : Init) × (init_weight x ≤ limit → PInit x)) ((x : Parameter) × (parameter_weight x ≤ limit → PParameter x)) ((x : Typename) × (typename_weight x ≤ limit → PTypename x))

  abbrev small-OptionalExpr : OptionalExpr-F ((x : Core) × (core_weight x ≤ limit → PCore x)) ((x : Expr) × (weight x ≤ limit → PExpr x)) ((x : Initializer) × (initializer_weight x ≤ limit → PInitializer x)) ((x : OptionalExpr) × (optional_weight x ≤ limit → POptionalExpr x)) ((x : Stmt) × (statement_weight x ≤ limit → PStmt x)) ((x : Suffix) × (suffix_weight x ≤ limit → PSuffix x)) ((x : Declaration) × (declaration_weight x ≤ limit → PDeclaration x)) ((x : Declarator) × (declarator_weight x ≤ limit → PDeclarator x)) ((x : Init) × (init_weight x ≤ limit → PInit x)) ((x : Parameter) × (parameter_weight x ≤ limit → PParameter x)) ((x : Typename) × (typename_weight x ≤ limit → PTypename x)) → OptionalExpr-T
  small-OptionalExpr = map-OptionalExpr ((x : Core) × (core_weight x ≤ limit → PCore x)) ((x : Expr) × (weight x ≤ limit → PExpr x)) ((x : Initializer) × (initializer_weight x ≤ limit → PInitializer x)) ((x : OptionalExpr) × (optional_weight x ≤ limit → POptionalExpr x)) ((x : Stmt) × (statement_weight x ≤ limit → PStmt x)) ((x : Suffix) × (suffix_weight x ≤ limit → PSuffix x)) ((x : Declaration) × (declaration_weight x ≤ limit → PDeclaration x)) ((x : Declarator) × (declarator_weight x ≤ limit → PDeclarator x)) ((x : Init) × (init_weight x ≤ limit → PInit x)) ((x : Parameter) × (parameter_weight x ≤ limit → PParameter x)) ((x : Typename) × (typename_weight x ≤ limit → PTypename x)) Core Expr Initializer OptionalExpr Stmt Suffix Declaration Declarator Init Parameter Typename (λ k. k.0) (λ k. k.0) (λ k. k.0) (λ k. k.0) (λ k. k.0) (λ k. k.0) (λ k. k.0) (λ k. k.0) (λ k. k.0) (λ k. k.0) (λ k. k.0)

  -- what is shown of a node by its parts
  abbrev pub StepOptionalExpr : Type 0
  StepOptionalExpr = (x : OptionalExpr-T) (y : OptionalExpr-F ((x : Core) × PCore x) ((x : Expr) × PExpr x) ((x : Initializer) × PInitializer x) ((x : OptionalExpr) × POptionalExpr x) ((x : Stmt) × PStmt x) ((x : Suffix) × PSuffix x) ((x : Declaration) × PDeclaration x) ((x : Declarator) × PDeclarator x) ((x : Init) × PInit x) ((x : Parameter) × PParameter x) ((x : Typename) × PTypename x)) → parts-OptionalExpr y ≡ x → optional_weight (roll-OptionalExpr x) ≤ limit → POptionalExpr (roll-OptionalExpr x)

  abbrev pub Stmt-P : Type 0
  Stmt-P = Stmt-F ((x : Core) × PCore x) ((x : Expr) × PExpr x) ((x : Initializer) × PInitializer x) ((x : OptionalExpr) × POptionalExpr x) ((x : Stmt) × PStmt x) ((x : Suffix) × PSuffix x) ((x : Declaration) × PDeclaration x) ((x : Declarator) × PDeclarator x) ((x : Init) × PInit x) ((x : Parameter) × PParameter x) ((x : Typename) × PTypename x)

  abbrev pub parts-Stmt : Stmt-F ((x : Core) × PCore x) ((x : Expr) × PExpr x) ((x : Initializer) × PInitializer x) ((x : OptionalExpr) × POptionalExpr x) ((x : Stmt) × PStmt x) ((x : Suffix) × PSuffix x) ((x : Declaration) × PDeclaration x) ((x : Declarator) × PDeclarator x) ((x : Init) × PInit x) ((x : Parameter) × PParameter x) ((x : Typename) × PTypename x) → Stmt-T
  parts-Stmt = map-Stmt ((x : Core) × PCore x) ((x : Expr) × PExpr x) ((x : Initializer) × PInitializer x) ((x : OptionalExpr) × POptionalExpr x) ((x : Stmt) × PStmt x) ((x : Suffix) × PSuffix x) ((x : Declaration) × PDeclaration x) ((x : Declarator) × PDeclarator x) ((x : Init) × PInit x) ((x : Parameter) × PParameter x) ((x : Typename) × PTypename x) Core Expr Initializer OptionalExpr Stmt Suffix Declaration Declarator Init Parameter Typename (λ k. k.0) (λ k. k.0) (λ k. k.0) (λ k. k.0) (λ k. k.0) (λ k. k.0) (λ k. k.0) (λ k. k.0) (λ k. k.0) (λ k. k.0) (λ k. k.0)

  abbrev Stmt-Q : Type 0
  Stmt-Q = Stmt-F ((x : Core) × (core_weight x ≤ limit → PCore x)) ((x : Expr) × (weight x ≤ limit → PExpr x)) ((x : Initializer) × (initializer_weight x ≤ limit → PInitializer x)) ((x : OptionalExpr) × (optional_weight x ≤ limit → POptionalExpr x)) ((x : Stmt) × (statement_weight x ≤ limit → PStmt x)) ((x : Suffix) × (suffix_weight x ≤ limit → PSuffix x)) ((x : Declaration) × (declaration_weight x ≤ limit → PDeclaration x)) ((x : Declarator) × (declarator_weight x ≤ limit → PDeclarator x)) ((x : Init) × (init_weight x ≤ limit → PInit x)) ((x : Parameter) × (parameter_weight x ≤ limit → PParameter x)) ((x : Typename) × (typename_weight x ≤ limit → PTypename x))

  abbrev small-Stmt : Stmt-F ((x : Core) × (core_weight x ≤ limit → PCore x)) ((x : Expr) × (weight x ≤ limit → PExpr x)) ((x : Initializer) × (initializer_weight x ≤ limit → PInitializer x)) ((x : OptionalExpr) × (optional_weight x ≤ limit → POptionalExpr x)) ((x : Stmt) × (statement_weight x ≤ limit → PStmt x)) ((x : Suffix) × (suffix_weight x ≤ limit → PSuffix x)) ((x : Declaration) × (declaration_weight x ≤ limit → PDeclaration x)) ((x : Declarator) × (declarator_weight x ≤ limit → PDeclarator x)) ((x : Init) × (init_weight x ≤ limit → PInit x)) ((x : Parameter) × (parameter_weight x ≤ limit → PParameter x)) ((x : Typename) × (typename_weight x ≤ limit → PTypename x)) → Stmt-T
  small-Stmt = map-Stmt ((x : Core) × (core_weight x ≤ limit → PCore x)) ((x : Expr) × (weight x ≤ limit → PExpr x)) ((x : Initializer) × (initializer_weight x ≤ limit → PInitializer x)) ((x : OptionalExpr) × (optional_weight x ≤ limit → POptionalExpr x)) ((x : Stmt) × (statement_weight x ≤ limit → PStmt x)) ((x : Suffix) × (suffix_weight x ≤ limit → PSuffix x)) ((x : Declaration) × (declaration_weight x ≤ limit → PDeclaration x)) ((x : Declarator) × (declarator_weight x ≤ limit → PDeclarator x)) ((x : Init) × (init_weight x ≤ limit → PInit x)) ((x : Parameter) × (parameter_weight x ≤ limit → PParameter x)) ((x : Typename) × (typename_weight x ≤ limit → PTypename x)) Core Expr Initializer OptionalExpr Stmt Suffix Declaration Declarator Init Parameter Typename (λ k. k.0) (λ k. k.0) (λ k. k.0) (λ k. k.0) (λ k. k.0) (λ k. k.0) (λ k. k.0) (λ k. k.0) (λ k. k.0) (λ k. k.0) (λ k. k.0)

  -- what is shown of a node by its parts
  abbrev pub StepStmt : Type 0
  StepStmt = (x : Stmt-T) (y : Stmt-F ((x : Core) × PCore x) ((x : Expr) × PExpr x) ((x : Initializer) × PInitializer x) ((x : OptionalExpr) × POptionalExpr x) ((x : Stmt) × PStmt x) ((x : Suffix) × PSuffix x) ((x : Declaration) × PDeclaration x) ((x : Declarator) × PDeclarator x) ((x : Init) × PInit x) ((x : Parameter) × PParameter x) ((x : Typename) × PTypename x)) → parts-Stmt y ≡ x → statement_weight (roll-Stmt x) ≤ limit → PStmt (roll-Stmt x)

  abbrev pub Suffix-P : Type 0
  Suffix-P = Suffix-F ((x : Core) × PCore x) ((x : Expr) × PExpr x) ((x : Initializer) × PInitializer x) ((x : OptionalExpr) × POptionalExpr x) ((x : Stmt) × PStmt x) ((x : Suffix) × PSuffix x) ((x : Declaration) × PDeclaration x) ((x : Declarator) × PDeclarator x) ((x : Init) × PInit x) ((x : Parameter) × PParameter x) ((x : Typename) × PTypename x)

  abbrev pub parts-Suffix : Suffix-F ((x : Core) × PCore x) ((x : Expr) × PExpr x) ((x : Initializer) × PInitializer x) ((x : OptionalExpr) × POptionalExpr x) ((x : Stmt) × PStmt x) ((x : Suffix) × PSuffix x) ((x : Declaration) × PDeclaration x) ((x : Declarator) × PDeclarator x) ((x : Init) × PInit x) ((x : Parameter) × PParameter x) ((x : Typename) × PTypename x) → Suffix-T
  parts-Suffix = map-Suffix ((x : Core) × PCore x) ((x : Expr) × PExpr x) ((x : Initializer) × PInitializer x) ((x : OptionalExpr) × POptionalExpr x) ((x : Stmt) × PStmt x) ((x : Suffix) × PSuffix x) ((x : Declaration) × PDeclaration x) ((x : Declarator) × PDeclarator x) ((x : Init) × PInit x) ((x : Parameter) × PParameter x) ((x : Typename) × PTypename x) Core Expr Initializer OptionalExpr Stmt Suffix Declaration Declarator Init Parameter Typename (λ k. k.0) (λ k. k.0) (λ k. k.0) (λ k. k.0) (λ k. k.0) (λ k. k.0) (λ k. k.0) (λ k. k.0) (λ k. k.0) (λ k. k.0) (λ k. k.0)

  abbrev Suffix-Q : Type 0
  Suffix-Q = Suffix-F ((x : Core) × (core_weight x ≤ limit → PCore x)) ((x : Expr) × (weight x ≤ limit → PExpr x)) ((x : Initializer) × (initializer_weight x ≤ limit → PInitializer x)) ((x : OptionalExpr) × (optional_weight x ≤ limit → POptionalExpr x)) ((x : Stmt) × (statement_weight x ≤ limit → PStmt x)) ((x : Suffix) × (suffix_weight x ≤ limit → PSuffix x)) ((x : Declaration) × (declaration_weight x ≤ limit → PDeclaration x)) ((x : Declarator) × (declarator_weight x ≤ limit → PDeclarator x)) ((x : Init) × (init_weight x ≤ limit → PInit x)) ((x : Parameter) × (parameter_weight x ≤ limit → PParameter x)) ((x : Typename) × (typename_weight x ≤ limit → PTypename x))

  abbrev small-Suffix : Suffix-F ((x : Core) × (core_weight x ≤ limit → PCore x)) ((x : Expr) × (weight x ≤ limit → PExpr x)) ((x : Initializer) × (initializer_weight x ≤ limit → PInitializer x)) ((x : OptionalExpr) × (optional_weight x ≤ limit → POptionalExpr x)) ((x : Stmt) × (statement_weight x ≤ limit → PStmt x)) ((x : Suffix) × (suffix_weight x ≤ limit → PSuffix x)) ((x : Declaration) × (declaration_weight x ≤ limit → PDeclaration x)) ((x : Declarator) × (declarator_weight x ≤ limit → PDeclarator x)) ((x : Init) × (init_weight x ≤ limit → PInit x)) ((x : Parameter) × (parameter_weight x ≤ limit → PParameter x)) ((x : Typename) × (typename_weight x ≤ limit → PTypename x)) → Suffix-T
  small-Suffix = map-Suffix ((x : Core) × (core_weight x ≤ limit → PCore x)) ((x : Expr) × (weight x ≤ limit → PExpr x)) ((x : Initializer) × (initializer_weight x ≤ limit → PInitializer x)) ((x : OptionalExpr) × (optional_weight x ≤ limit → POptionalExpr x)) ((x : Stmt) × (statement_weight x ≤ limit → PStmt x)) ((x : Suffix) × (suffix_weight x ≤ limit → PSuffix x)) ((x : Declaration) × (declaration_weight x ≤ limit → PDeclaration x)) ((x : Declarator) × (declarator_weight x ≤ limit → PDeclarator x)) ((x : Init) × (init_weight x ≤ limit → PInit x)) ((x : Parameter) × (parameter_weight x ≤ limit → PParameter x)) ((x : Typename) × (typename_weight x ≤ limit → PTypename x)) Core Expr Initializer OptionalExpr Stmt Suffix Declaration Declarator Init Parameter Typename (λ k. k.0) (λ k. k.0) (λ k. k.0) (λ k. k.0) (λ k. k.0) (λ k. k.0) (λ k. k.0) (λ k. k.0) (λ k. k.0) (λ k. k.0) (λ k. k.0)

  -- what is shown of a node by its parts
  abbrev pub StepSuffix : Type 0
  StepSuffix = (x : Suffix-T) (y : Suffix-F ((x : Core) × PCore x) ((x : Expr) × PExpr x) ((x : Initializer) × PInitializer x) ((x : OptionalExpr) × POptionalExpr x) ((x : Stmt) × PStmt x) ((x : Suffix) × PSuffix x) ((x : Declaration) × PDeclaration x) ((x : Declarator) × PDeclarator x) ((x : Init) × PInit x) ((x : Parameter) × PParameter x) ((x : Typename) × PTypename x)) → parts-Suffix y ≡ x → suffix_weight (roll-Suffix x) ≤ limit → PSuffix (roll-Suffix x)

  abbrev pub Declaration-P : Type 0
  Declaration-P = Declaration-F ((x : Core) × PCore x) ((x : Expr) × PExpr x) ((x : Initializer) × PInitializer x) ((x : OptionalExpr) × POptionalExpr x) ((x : Stmt) × PStmt x) ((x : Suffix) × PSuffix x) ((x : Declaration) × PDeclaration x) ((x : Declarator) × PDeclarator x) ((x : Init) × PInit x) ((x : Parameter) × PParameter x) ((x : Typename) × PTypename x)

  abbrev pub parts-Declaration : Declaration-F ((x : Core) × PCore x) ((x : Expr) × PExpr x) ((x : Initializer) × PInitializer x) ((x : OptionalExpr) × POptionalExpr x) ((x : Stmt) × PStmt x) ((x : Suffix) × PSuffix x) ((x : Declaration) × PDeclaration x) ((x : Declarator) × PDeclarator x) ((x : Init) × PInit x) ((x : Parameter) × PParameter x) ((x : Typename) × PTypename x) → Declaration-T
  parts-Declaration = map-Declaration ((x : Core) × PCore x) ((x : Expr) × PExpr x) ((x : Initializer) × PInitializer x) ((x : OptionalExpr) × POptionalExpr x) ((x : Stmt) × PStmt x) ((x : Suffix) × PSuffix x) ((x : Declaration) × PDeclaration x) ((x : Declarator) × PDeclarator x) ((x : Init) × PInit x) ((x : Parameter) × PParameter x) ((x : Typename) × PTypename x) Core Expr Initializer OptionalExpr Stmt Suffix Declaration Declarator Init Parameter Typename (λ k. k.0) (λ k. k.0) (λ k. k.0) (λ k. k.0) (λ k. k.0) (λ k. k.0) (λ k. k.0) (λ k. k.0) (λ k. k.0) (λ k. k.0) (λ k. k.0)

  abbrev Declaration-Q : Type 0
  Declaration-Q = Declaration-F ((x : Core) × (core_weight x ≤ limit → PCore x)) ((x : Expr) × (weight x ≤ limit → PExpr x)) ((x : Initializer) × (initializer_weight x ≤ limit → PInitializer x)) ((x : OptionalExpr) × (optional_weight x ≤ limit → POptionalExpr x)) ((x : Stmt) × (statement_weight x ≤ limit → PStmt x)) ((x : Suffix) × (suffix_weight x ≤ limit → PSuffix x)) ((x : Declaration) × (declaration_weight x ≤ limit → PDeclaration x)) ((x : Declarator) × (declarator_weight x ≤ limit → PDeclarator x)) ((x : Init) × (init_weight x ≤ limit → PInit x)) ((x : Parameter) × (parameter_weight x ≤ limit → PParameter x)) ((x : Typename) × (typename_weight x ≤ limit → PTypename x))

  abbrev small-Declaration : Declaration-F ((x : Core) × (core_weight x ≤ limit → PCore x)) ((x : Expr) × (weight x ≤ limit → PExpr x)) ((x : Initializer) × (initializer_weight x ≤ limit → PInitializer x)) ((x : OptionalExpr) × (optional_weight x ≤ limit → POptionalExpr x)) ((x : Stmt) × (statement_weight x ≤ limit → PStmt x)) ((x : Suffix) × (suffix_weight x ≤ limit → PSuffix x)) ((x : Declaration) × (declaration_weight x ≤ limit → PDeclaration x)) ((x : Declarator) × (declarator_weight x ≤ limit → PDeclarator x)) ((x : Init) × (init_weight x ≤ limit → PInit x)) ((x : Parameter) × (parameter_weight x ≤ limit → PParameter x)) ((x : Typename) × (typename_weight x ≤ limit → PTypename x)) → Declaration-T
  small-Declaration = map-Declaration ((x : Core) × (core_weight x ≤ limit → PCore x)) ((x : Expr) × (weight x ≤ limit → PExpr x)) ((x : Initializer) × (initializer_weight x ≤ limit → PInitializer x)) ((x : OptionalExpr) × (optional_weight x ≤ limit → POptionalExpr x)) ((x : Stmt) × (statement_weight x ≤ limit → PStmt x)) ((x : Suffix) × (suffix_weight x ≤ limit → PSuffix x)) ((x : Declaration) × (declaration_weight x ≤ limit → PDeclaration x)) ((x : Declarator) × (declarator_weight x ≤ limit → PDeclarator x)) ((x : Init) × (init_weight x ≤ limit → PInit x)) ((x : Parameter) × (parameter_weight x ≤ limit → PParameter x)) ((x : Typename) × (typename_weight x ≤ limit → PTypename x)) Core Expr Initializer OptionalExpr Stmt Suffix Declaration Declarator Init Parameter Typename (λ k. k.0) (λ k. k.0) (λ k. k.0) (λ k. k.0) (λ k. k.0) (λ k. k.0) (λ k. k.0) (λ k. k.0) (λ k. k.0) (λ k. k.0) (λ k. k.0)

  -- what is shown of a node by its parts
  abbrev pub StepDeclaration : Type 0
  StepDeclaration = (x : Declaration-T) (y : Declaration-F ((x : Core) × PCore x) ((x : Expr) × PExpr x) ((x : Initializer) × PInitializer x) ((x : OptionalExpr) × POptionalExpr x) ((x : Stmt) × PStmt x) ((x : Suffix) × PSuffix x) ((x : Declaration) × PDeclaration x) ((x : Declarator) × PDeclarator x) ((x : Init) × PInit x) ((x : Parameter) × PParameter x) ((x : Typename) × PTypename x)) → parts-Declaration y ≡ x → declaration_weight (roll-Declaration x) ≤ limit → PDeclaration (roll-Declaration x)

  abbrev pub Declarator-P : Type 0
  Declarator-P = Declarator-F ((x : Core) × PCore x) ((x : Expr) × PExpr x) ((x : Initializer) × PInitializer x) ((x : OptionalExpr) × POptionalExpr x) ((x : Stmt) × PStmt x) ((x : Suffix) × PSuffix x) ((x : Declaration) × PDeclaration x) ((x : Declarator) × PDeclarator x) ((x : Init) × PInit x) ((x : Parameter) × PParameter x) ((x : Typename) × PTypename x)

  abbrev pub parts-Declarator : Declarator-F ((x : Core) × PCore x) ((x : Expr) × PExpr x) ((x : Initializer) × PInitializer x) ((x : OptionalExpr) × POptionalExpr x) ((x : Stmt) × PStmt x) ((x : Suffix) × PSuffix x) ((x : Declaration) × PDeclaration x) ((x : Declarator) × PDeclarator x) ((x : Init) × PInit x) ((x : Parameter) × PParameter x) ((x : Typename) × PTypename x) → Declarator-T
  parts-Declarator = map-Declarator ((x : Core) × PCore x) ((x : Expr) × PExpr x) ((x : Initializer) × PInitializer x) ((x : OptionalExpr) × POptionalExpr x) ((x : Stmt) × PStmt x) ((x : Suffix) × PSuffix x) ((x : Declaration) × PDeclaration x) ((x : Declarator) × PDeclarator x) ((x : Init) × PInit x) ((x : Parameter) × PParameter x) ((x : Typename) × PTypename x) Core Expr Initializer OptionalExpr Stmt Suffix Declaration Declarator Init Parameter Typename (λ k. k.0) (λ k. k.0) (λ k. k.0) (λ k. k.0) (λ k. k.0) (λ k. k.0) (λ k. k.0) (λ k. k.0) (λ k. k.0) (λ k. k.0) (λ k. k.0)

  abbrev Declarator-Q : Type 0
  Declarator-Q = Declarator-F ((x : Core) × (core_weight x ≤ limit → PCore x)) ((x : Expr) × (weight x ≤ limit → PExpr x)) ((x : Initializer) × (initializer_weight x ≤ limit → PInitializer x)) ((x : OptionalExpr) × (optional_weight x ≤ limit → POptionalExpr x)) ((x : Stmt) × (statement_weight x ≤ limit → PStmt x)) ((x : Suffix) × (suffix_weight x ≤ limit → PSuffix x)) ((x : Declaration) × (declaration_weight x ≤ limit → PDeclaration x)) ((x : Declarator) × (declarator_weight x ≤ limit → PDeclarator x)) ((x : Init) × (init_weight x ≤ limit → PInit x)) ((x : Parameter) × (parameter_weight x ≤ limit → PParameter x)) ((x : Typename) × (typename_weight x ≤ limit → PTypename x))

  abbrev small-Declarator : Declarator-F ((x : Core) × (core_weight x ≤ limit → PCore x)) ((x : Expr) × (weight x ≤ limit → PExpr x)) ((x : Initializer) × (initializer_weight x ≤ limit → PInitializer x)) ((x : OptionalExpr) × (optional_weight x ≤ limit → POptionalExpr x)) ((x : Stmt) × (statement_weight x ≤ limit → PStmt x)) ((x : Suffix) × (suffix_weight x ≤ limit → PSuffix x)) ((x : Declaration) × (declaration_weight x ≤ limit → PDeclaration x)) ((x : Declarator) × (declarator_weight x ≤ limit → PDeclarator x)) ((x : Init) × (init_weight x ≤ limit → PInit x)) ((x : Parameter) × (parameter_weight x ≤ limit → PParameter x)) ((x : Typename) × (typename_weight x ≤ limit → PTypename x)) → Declarator-T
  small-Declarator = map-Declarator ((x : Core) × (core_weight x ≤ limit → PCore x)) ((x : Expr) × (weight x ≤ limit → PExpr x)) ((x : Initializer) × (initializer_weight x ≤ limit → PInitializer x)) ((x : OptionalExpr) × (optional_weight x ≤ limit → POptionalExpr x)) ((x : Stmt) × (statement_weight x ≤ limit → PStmt x)) ((x : Suffix) × (suffix_weight x ≤ limit → PSuffix x)) ((x : Declaration) × (declaration_weight x ≤ limit → PDeclaration x)) ((x : Declarator) × (declarator_weight x ≤ limit → PDeclarator x)) ((x : Init) × (init_weight x ≤ limit → PInit x)) ((x : Parameter) × (parameter_weight x ≤ limit → PParameter x)) ((x : Typename) × (typename_weight x ≤ limit → PTypename x)) Core Expr Initializer OptionalExpr Stmt Suffix Declaration Declarator Init Parameter Typename (λ k. k.0) (λ k. k.0) (λ k. k.0) (λ k. k.0) (λ k. k.0) (λ k. k.0) (λ k. k.0) (λ k. k.0) (λ k. k.0) (λ k. k.0) (λ k. k.0)

  -- what is shown of a node by its parts
  abbrev pub StepDeclarator : Type 0
  StepDeclarator = (x : Declarator-T) (y : Declarator-F ((x : Core) × PCore x) ((x : Expr) × PExpr x) ((x : Initializer) × PInitializer x) ((x : OptionalExpr) × POptionalExpr x) ((x : Stmt) × PStmt x) ((x : Suffix) × PSuffix x) ((x : Declaration) × PDeclaration x) ((x : Declarator) × PDeclarator x) ((x : Init) × PInit x) ((x : Parameter) × PParameter x) ((x : Typename) × PTypename x)) → parts-Declarator y ≡ x → declarator_weight (roll-Declarator x) ≤ limit → PDeclarator (roll-Declarator x)

  abbrev pub Init-P : Type 0
  Init-P = Init-F ((x : Core) × PCore x) ((x : Expr) × PExpr x) ((x : Initializer) × PInitializer x) ((x : OptionalExpr) × POptionalExpr x) ((x : Stmt) × PStmt x) ((x : Suffix) × PSuffix x) ((x : Declaration) × PDeclaration x) ((x : Declarator) × PDeclarator x) ((x : Init) × PInit x) ((x : Parameter) × PParameter x) ((x : Typename) × PTypename x)

  abbrev pub parts-Init : Init-F ((x : Core) × PCore x) ((x : Expr) × PExpr x) ((x : Initializer) × PInitializer x) ((x : OptionalExpr) × POptionalExpr x) ((x : Stmt) × PStmt x) ((x : Suffix) × PSuffix x) ((x : Declaration) × PDeclaration x) ((x : Declarator) × PDeclarator x) ((x : Init) × PInit x) ((x : Parameter) × PParameter x) ((x : Typename) × PTypename x) → Init-T
  parts-Init = map-Init ((x : Core) × PCore x) ((x : Expr) × PExpr x) ((x : Initializer) × PInitializer x) ((x : OptionalExpr) × POptionalExpr x) ((x : Stmt) × PStmt x) ((x : Suffix) × PSuffix x) ((x : Declaration) × PDeclaration x) ((x : Declarator) × PDeclarator x) ((x : Init) × PInit x) ((x : Parameter) × PParameter x) ((x : Typename) × PTypename x) Core Expr Initializer OptionalExpr Stmt Suffix Declaration Declarator Init Parameter Typename (λ k. k.0) (λ k. k.0) (λ k. k.0) (λ k. k.0) (λ k. k.0) (λ k. k.0) (λ k. k.0) (λ k. k.0) (λ k. k.0) (λ k. k.0) (λ k. k.0)

  abbrev Init-Q : Type 0
  Init-Q = Init-F ((x : Core) × (core_weight x ≤ limit → PCore x)) ((x : Expr) × (weight x ≤ limit → PExpr x)) ((x : Initializer) × (initializer_weight x ≤ limit → PInitializer x)) ((x : OptionalExpr) × (optional_weight x ≤ limit → POptionalExpr x)) ((x : Stmt) × (statement_weight x ≤ limit → PStmt x)) ((x : Suffix) × (suffix_weight x ≤ limit → PSuffix x)) ((x : Declaration) × (declaration_weight x ≤ limit → PDeclaration x)) ((x : Declarator) × (declarator_weight x ≤ limit → PDeclarator x)) ((x : Init) × (init_weight x ≤ limit → PInit x)) ((x : Parameter) × (parameter_weight x ≤ limit → PParameter x)) ((x : Typename) × (typename_weight x ≤ limit → PTypename x))

  abbrev small-Init : Init-F ((x : Core) × (core_weight x ≤ limit → PCore x)) ((x : Expr) × (weight x ≤ limit → PExpr x)) ((x : Initializer) × (initializer_weight x ≤ limit → PInitializer x)) ((x : OptionalExpr) × (optional_weight x ≤ limit → POptionalExpr x)) ((x : Stmt) × (statement_weight x ≤ limit → PStmt x)) ((x : Suffix) × (suffix_weight x ≤ limit → PSuffix x)) ((x : Declaration) × (declaration_weight x ≤ limit → PDeclaration x)) ((x : Declarator) × (declarator_weight x ≤ limit → PDeclarator x)) ((x : Init) × (init_weight x ≤ limit → PInit x)) ((x : Parameter) × (parameter_weight x ≤ limit → PParameter x)) ((x : Typename) × (typename_weight x ≤ limit → PTypename x)) → Init-T
  small-Init = map-Init ((x : Core) × (core_weight x ≤ limit → PCore x)) ((x : Expr) × (weight x ≤ limit → PExpr x)) ((x : Initializer) × (initializer_weight x ≤ limit → PInitializer x)) ((x : OptionalExpr) × (optional_weight x ≤ limit → POptionalExpr x)) ((x : Stmt) × (statement_weight x ≤ limit → PStmt x)) ((x : Suffix) × (suffix_weight x ≤ limit → PSuffix x)) ((x : Declaration) × (declaration_weight x ≤ limit → PDeclaration x)) ((x : Declarator) × (declarator_weight x ≤ limit → PDeclarator x)) ((x : Init) × (init_weight x ≤ limit → PInit x)) ((x : Parameter) × (parameter_weight x ≤ limit → PParameter x)) ((x : Typename) × (typename_weight x ≤ limit → PTypename x)) Core Expr Initializer OptionalExpr Stmt Suffix Declaration Declarator Init Parameter Typename (λ k. k.0) (λ k. k.0) (λ k. k.0) (λ k. k.0) (λ k. k.0) (λ k. k.0) (λ k. k.0) (λ k. k.0) (λ k. k.0) (λ k. k.0) (λ k. k.0)

  -- what is shown of a node by its parts
  abbrev pub StepInit : Type 0
  StepInit = (x : Init-T) (y : Init-F ((x : Core) × PCore x) ((x : Expr) × PExpr x) ((x : Initializer) × PInitializer x) ((x : OptionalExpr) × POptionalExpr x) ((x : Stmt) × PStmt x) ((x : Suffix) × PSuffix x) ((x : Declaration) × PDeclaration x) ((x : Declarator) × PDeclarator x) ((x : Init) × PInit x) ((x : Parameter) × PParameter x) ((x : Typename) × PTypename x)) → parts-Init y ≡ x → init_weight (roll-Init x) ≤ limit → PInit (roll-Init x)

  abbrev pub Parameter-P : Type 0
  Parameter-P = Parameter-F ((x : Core) × PCore x) ((x : Expr) × PExpr x) ((x : Initializer) × PInitializer x) ((x : OptionalExpr) × POptionalExpr x) ((x : Stmt) × PStmt x) ((x : Suffix) × PSuffix x) ((x : Declaration) × PDeclaration x) ((x : Declarator) × PDeclarator x) ((x : Init) × PInit x) ((x : Parameter) × PParameter x) ((x : Typename) × PTypename x)

  abbrev pub parts-Parameter : Parameter-F ((x : Core) × PCore x) ((x : Expr) × PExpr x) ((x : Initializer) × PInitializer x) ((x : OptionalExpr) × POptionalExpr x) ((x : Stmt) × PStmt x) ((x : Suffix) × PSuffix x) ((x : Declaration) × PDeclaration x) ((x : Declarator) × PDeclarator x) ((x : Init) × PInit x) ((x : Parameter) × PParameter x) ((x : Typename) × PTypename x) → Parameter-T
  parts-Parameter = map-Parameter ((x : Core) × PCore x) ((x : Expr) × PExpr x) ((x : Initializer) × PInitializer x) ((x : OptionalExpr) × POptionalExpr x) ((x : Stmt) × PStmt x) ((x : Suffix) × PSuffix x) ((x : Declaration) × PDeclaration x) ((x : Declarator) × PDeclarator x) ((x : Init) × PInit x) ((x : Parameter) × PParameter x) ((x : Typename) × PTypename x) Core Expr Initializer OptionalExpr Stmt Suffix Declaration Declarator Init Parameter Typename (λ k. k.0) (λ k. k.0) (λ k. k.0) (λ k. k.0) (λ k. k.0) (λ k. k.0) (λ k. k.0) (λ k. k.0) (λ k. k.0) (λ k. k.0) (λ k. k.0)

  abbrev Parameter-Q : Type 0
  Parameter-Q = Parameter-F ((x : Core) × (core_weight x ≤ limit → PCore x)) ((x : Expr) × (weight x ≤ limit → PExpr x)) ((x : Initializer) × (initializer_weight x ≤ limit → PInitializer x)) ((x : OptionalExpr) × (optional_weight x ≤ limit → POptionalExpr x)) ((x : Stmt) × (statement_weight x ≤ limit → PStmt x)) ((x : Suffix) × (suffix_weight x ≤ limit → PSuffix x)) ((x : Declaration) × (declaration_weight x ≤ limit → PDeclaration x)) ((x : Declarator) × (declarator_weight x ≤ limit → PDeclarator x)) ((x : Init) × (init_weight x ≤ limit → PInit x)) ((x : Parameter) × (parameter_weight x ≤ limit → PParameter x)) ((x : Typename) × (typename_weight x ≤ limit → PTypename x))

  abbrev small-Parameter : Parameter-F ((x : Core) × (core_weight x ≤ limit → PCore x)) ((x : Expr) × (weight x ≤ limit → PExpr x)) ((x : Initializer) × (initializer_weight x ≤ limit → PInitializer x)) ((x : OptionalExpr) × (optional_weight x ≤ limit → POptionalExpr x)) ((x : Stmt) × (statement_weight x ≤ limit → PStmt x)) ((x : Suffix) × (suffix_weight x ≤ limit → PSuffix x)) ((x : Declaration) × (declaration_weight x ≤ limit → PDeclaration x)) ((x : Declarator) × (declarator_weight x ≤ limit → PDeclarator x)) ((x : Init) × (init_weight x ≤ limit → PInit x)) ((x : Parameter) × (parameter_weight x ≤ limit → PParameter x)) ((x : Typename) × (typename_weight x ≤ limit → PTypename x)) → Parameter-T
  small-Parameter = map-Parameter ((x : Core) × (core_weight x ≤ limit → PCore x)) ((x : Expr) × (weight x ≤ limit → PExpr x)) ((x : Initializer) × (initializer_weight x ≤ limit → PInitializer x)) ((x : OptionalExpr) × (optional_weight x ≤ limit → POptionalExpr x)) ((x : Stmt) × (statement_weight x ≤ limit → PStmt x)) ((x : Suffix) × (suffix_weight x ≤ limit → PSuffix x)) ((x : Declaration) × (declaration_weight x ≤ limit → PDeclaration x)) ((x : Declarator) × (declarator_weight x ≤ limit → PDeclarator x)) ((x : Init) × (init_weight x ≤ limit → PInit x)) ((x : Parameter) × (parameter_weight x ≤ limit → PParameter x)) ((x : Typename) × (typename_weight x ≤ limit → PTypename x)) Core Expr Initializer OptionalExpr Stmt Suffix Declaration Declarator Init Parameter Typename (λ k. k.0) (λ k. k.0) (λ k. k.0) (λ k. k.0) (λ k. k.0) (λ k. k.0) (λ k. k.0) (λ k. k.0) (λ k. k.0) (λ k. k.0) (λ k. k.0)

  -- what is shown of a node by its parts
  abbrev pub StepParameter : Type 0
  StepParameter = (x : Parameter-T) (y : Parameter-F ((x : Core) × PCore x) ((x : Expr) × PExpr x) ((x : Initializer) × PInitializer x) ((x : OptionalExpr) × POptionalExpr x) ((x : Stmt) × PStmt x) ((x : Suffix) × PSuffix x) ((x : Declaration) × PDeclaration x) ((x : Declarator) × PDeclarator x) ((x : Init) × PInit x) ((x : Parameter) × PParameter x) ((x : Typename) × PTypename x)) → parts-Parameter y ≡ x → parameter_weight (roll-Parameter x) ≤ limit → PParameter (roll-Parameter x)

  abbrev pub Typename-P : Type 0
  Typename-P = Typename-F ((x : Core) × PCore x) ((x : Expr) × PExpr x) ((x : Initializer) × PInitializer x) ((x : OptionalExpr) × POptionalExpr x) ((x : Stmt) × PStmt x) ((x : Suffix) × PSuffix x) ((x : Declaration) × PDeclaration x) ((x : Declarator) × PDeclarator x) ((x : Init) × PInit x) ((x : Parameter) × PParameter x) ((x : Typename) × PTypename x)

  abbrev pub parts-Typename : Typename-F ((x : Core) × PCore x) ((x : Expr) × PExpr x) ((x : Initializer) × PInitializer x) ((x : OptionalExpr) × POptionalExpr x) ((x : Stmt) × PStmt x) ((x : Suffix) × PSuffix x) ((x : Declaration) × PDeclaration x) ((x : Declarator) × PDeclarator x) ((x : Init) × PInit x) ((x : Parameter) × PParameter x) ((x : Typename) × PTypename x) → Typename-T
  parts-Typename = map-Typename ((x : Core) × PCore x) ((x : Expr) × PExpr x) ((x : Initializer) × PInitializer x) ((x : OptionalExpr) × POptionalExpr x) ((x : Stmt) × PStmt x) ((x : Suffix) × PSuffix x) ((x : Declaration) × PDeclaration x) ((x : Declarator) × PDeclarator x) ((x : Init) × PInit x) ((x : Parameter) × PParameter x) ((x : Typename) × PTypename x) Core Expr Initializer OptionalExpr Stmt Suffix Declaration Declarator Init Parameter Typename (λ k. k.0) (λ k. k.0) (λ k. k.0) (λ k. k.0) (λ k. k.0) (λ k. k.0) (λ k. k.0) (λ k. k.0) (λ k. k.0) (λ k. k.0) (λ k. k.0)

  abbrev Typename-Q : Type 0
  Typename-Q = Typename-F ((x : Core) × (core_weight x ≤ limit → PCore x)) ((x : Expr) × (weight x ≤ limit → PExpr x)) ((x : Initializer) × (initializer_weight x ≤ limit → PInitializer x)) ((x : OptionalExpr) × (optional_weight x ≤ limit → POptionalExpr x)) ((x : Stmt) × (statement_weight x ≤ limit → PStmt x)) ((x : Suffix) × (suffix_weight x ≤ limit → PSuffix x)) ((x : Declaration) × (declaration_weight x ≤ limit → PDeclaration x)) ((x : Declarator) × (declarator_weight x ≤ limit → PDeclarator x)) ((x : Init) × (init_weight x ≤ limit → PInit x)) ((x : Parameter) × (parameter_weight x ≤ limit → PParameter x)) ((x : Typename) × (typename_weight x ≤ limit → PTypename x))

  abbrev small-Typename : Typename-F ((x : Core) × (core_weight x ≤ limit → PCore x)) ((x : Expr) × (weight x ≤ limit → PExpr x)) ((x : Initializer) × (initializer_weight x ≤ limit → PInitializer x)) ((x : OptionalExpr) × (optional_weight x ≤ limit → POptionalExpr x)) ((x : Stmt) × (statement_weight x ≤ limit → PStmt x)) ((x : Suffix) × (suffix_weight x ≤ limit → PSuffix x)) ((x : Declaration) × (declaration_weight x ≤ limit → PDeclaration x)) ((x : Declarator) × (declarator_weight x ≤ limit → PDeclarator x)) ((x : Init) × (init_weight x ≤ limit → PInit x)) ((x : Parameter) × (parameter_weight x ≤ limit → PParameter x)) ((x : Typename) × (typename_weight x ≤ limit → PTypename x)) → Typename-T
  small-Typename = map-Typename ((x : Core) × (core_weight x ≤ limit → PCore x)) ((x : Expr) × (weight x ≤ limit → PExpr x)) ((x : Initializer) × (initializer_weight x ≤ limit → PInitializer x)) ((x : OptionalExpr) × (optional_weight x ≤ limit → POptionalExpr x)) ((x : Stmt) × (statement_weight x ≤ limit → PStmt x)) ((x : Suffix) × (suffix_weight x ≤ limit → PSuffix x)) ((x : Declaration) × (declaration_weight x ≤ limit → PDeclaration x)) ((x : Declarator) × (declarator_weight x ≤ limit → PDeclarator x)) ((x : Init) × (init_weight x ≤ limit → PInit x)) ((x : Parameter) × (parameter_weight x ≤ limit → PParameter x)) ((x : Typename) × (typename_weight x ≤ limit → PTypename x)) Core Expr Initializer OptionalExpr Stmt Suffix Declaration Declarator Init Parameter Typename (λ k. k.0) (λ k. k.0) (λ k. k.0) (λ k. k.0) (λ k. k.0) (λ k. k.0) (λ k. k.0) (λ k. k.0) (λ k. k.0) (λ k. k.0) (λ k. k.0)

  -- what is shown of a node by its parts
  abbrev pub StepTypename : Type 0
  StepTypename = (x : Typename-T) (y : Typename-F ((x : Core) × PCore x) ((x : Expr) × PExpr x) ((x : Initializer) × PInitializer x) ((x : OptionalExpr) × POptionalExpr x) ((x : Stmt) × PStmt x) ((x : Suffix) × PSuffix x) ((x : Declaration) × PDeclaration x) ((x : Declarator) × PDeclarator x) ((x : Init) × PInit x) ((x : Parameter) × PParameter x) ((x : Typename) × PTypename x)) → parts-Typename y ≡ x → typename_weight (roll-Typename x) ≤ limit → PTypename (roll-Typename x)

  record SmallCore (x : Core-T) : Type 0 where
    layer : Core-F ((x : Core) × PCore x) ((x : Expr) × PExpr x) ((x : Initializer) × PInitializer x) ((x : OptionalExpr) × POptionalExpr x) ((x : Stmt) × PStmt x) ((x : Suffix) × PSuffix x) ((x : Declaration) × PDeclaration x) ((x : Declarator) × PDeclarator x) ((x : Init) × PInit x) ((x : Parameter) × PParameter x) ((x : Typename) × PTypename x)
    is : parts-Core layer ≡ x

  lower-Core : (y : Core-F ((x : Core) × (core_weight x ≤ limit → PCore x)) ((x : Expr) × (weight x ≤ limit → PExpr x)) ((x : Initializer) × (initializer_weight x ≤ limit → PInitializer x)) ((x : OptionalExpr) × (optional_weight x ≤ limit → POptionalExpr x)) ((x : Stmt) × (statement_weight x ≤ limit → PStmt x)) ((x : Suffix) × (suffix_weight x ≤ limit → PSuffix x)) ((x : Declaration) × (declaration_weight x ≤ limit → PDeclaration x)) ((x : Declarator) × (declarator_weight x ≤ limit → PDeclarator x)) ((x : Init) × (init_weight x ≤ limit → PInit x)) ((x : Parameter) × (parameter_weight x ≤ limit → PParameter x)) ((x : Typename) × (typename_weight x ≤ limit → PTypename x))) → core_nodes (weighed-Core (small-Core y)) ≤ limit → SmallCore (small-Core y)
  lower-Core Core-F.Core::Absent h = record { layer = Core-F.Core::Absent; is = refl }
  lower-Core (Core-F.Core::Name n x) h = record { layer = (Core-F.Core::Name n x); is = refl }
  lower-Core (Core-F.Core::Paren d) h = record { layer = (Core-F.Core::Paren (d.0, d.1 (omega arith))); is = refl }

  step-Core : StepCore → (x : Core-T) (y : Core-F ((x : Core) × (core_weight x ≤ limit → PCore x)) ((x : Expr) × (weight x ≤ limit → PExpr x)) ((x : Initializer) × (initializer_weight x ≤ limit → PInitializer x)) ((x : OptionalExpr) × (optional_weight x ≤ limit → POptionalExpr x)) ((x : Stmt) × (statement_weight x ≤ limit → PStmt x)) ((x : Suffix) × (suffix_weight x ≤ limit → PSuffix x)) ((x : Declaration) × (declaration_weight x ≤ limit → PDeclaration x)) ((x : Declarator) × (declarator_weight x ≤ limit → PDeclarator x)) ((x : Init) × (init_weight x ≤ limit → PInit x)) ((x : Parameter) × (parameter_weight x ≤ limit → PParameter x)) ((x : Typename) × (typename_weight x ≤ limit → PTypename x))) → small-Core y ≡ x → core_weight (roll-Core x) ≤ limit → PCore (roll-Core x)
  step-Core step x y is h =
      let z = lower-Core y (subst (λ w. w ≤ limit) (weigh-Core (small-Core y)) (subst (λ v. core_weight (roll-Core v) ≤ limit) (sym is) h)) in
      step x z.layer (z.is ∙ is) h

  record SmallExpr (x : Expr-T) : Type 0 where
    layer : Expr-F ((x : Core) × PCore x) ((x : Expr) × PExpr x) ((x : Initializer) × PInitializer x) ((x : OptionalExpr) × POptionalExpr x) ((x : Stmt) × PStmt x) ((x : Suffix) × PSuffix x) ((x : Declaration) × PDeclaration x) ((x : Declarator) × PDeclarator x) ((x : Init) × PInit x) ((x : Parameter) × PParameter x) ((x : Typename) × PTypename x)
    is : parts-Expr layer ≡ x

  lower-Expr : (y : Expr-F ((x : Core) × (core_weight x ≤ limit → PCore x)) ((x : Expr) × (weight x ≤ limit → PExpr x)) ((x : Initializer) × (initializer_weight x ≤ limit → PInitializer x)) ((x : OptionalExpr) × (optional_weight x ≤ limit → POptionalExpr x)) ((x : Stmt) × (statement_weight x ≤ limit → PStmt x)) ((x : Suffix) × (suffix_weight x ≤ limit → PSuffix x)) ((x : Declaration) × (declaration_weight x ≤ limit → PDeclaration x)) ((x : Declarator) × (declarator_weight x ≤ limit → PDeclarator x)) ((x : Init) × (init_weight x ≤ limit → PInit x)) ((x : Parameter) × (parameter_weight x ≤ limit → PParameter x)) ((x : Typename) × (typename_weight x ≤ limit → PTypename x))) → expr_nodes (weighed-Expr (small-Expr y)) ≤ limit → SmallExpr (small-Expr y)
  lower-Expr (Expr-F.Expr::Name n x) h = record { layer = (Expr-F.Expr::Name n x); is = refl }
  lower-Expr (Expr-F.Number n u) h = record { layer = (Expr-F.Number n u); is = refl }
  lower-Expr (Expr-F.Character n) h = record { layer = (Expr-F.Character n); is = refl }
  lower-Expr (Expr-F.String x) h = record { layer = (Expr-F.String x); is = refl }
  lower-Expr (Expr-F.Expr::Paren a) h = record { layer = (Expr-F.Expr::Paren (a.0, a.1 (omega arith))); is = refl }
  lower-Expr (Expr-F.Compile n a t) h = record { layer = (Expr-F.Compile n (a.0, a.1 (omega arith)) (t.0, t.1 (omega arith))); is = refl }
  lower-Expr (Expr-F.Expr::Local n t) h = record { layer = (Expr-F.Expr::Local n (t.0, t.1 (omega arith))); is = refl }
  lower-Expr (Expr-F.Param n t a) h = record { layer = (Expr-F.Param n (t.0, t.1 (omega arith)) (a.0, a.1 (omega arith))); is = refl }
  lower-Expr (Expr-F.Index n ab) h = record { layer = (Expr-F.Index n ((ab.0.0, ab.0.1 (omega arith)), (ab.1.0, ab.1.1 (omega arith)))); is = refl }
  lower-Expr (Expr-F.Call n a xs) h = let xsz = lower PExpr limit weight xs (omega arith) in record { layer = (Expr-F.Call n (a.0, a.1 (omega arith)) xsz.parts); is = ap (λ (l : List Expr). Expr-F.Call n a.0 l) xsz.is }
  lower-Expr (Expr-F.Step n o a) h = record { layer = (Expr-F.Step n o (a.0, a.1 (omega arith))); is = refl }
  lower-Expr (Expr-F.Unary n o a) h = record { layer = (Expr-F.Unary n o (a.0, a.1 (omega arith))); is = refl }
  lower-Expr (Expr-F.Tick n a) h = record { layer = (Expr-F.Tick n (a.0, a.1 (omega arith))); is = refl }
  lower-Expr (Expr-F.TickBlock n xs) h = let xsz = lower PStmt limit statement_weight xs (omega arith) in record { layer = (Expr-F.TickBlock n xsz.parts); is = ap (λ (l : List Stmt). Expr-F.TickBlock n l) xsz.is }
  lower-Expr (Expr-F.Cast n t a) h = record { layer = (Expr-F.Cast n (t.0, t.1 (omega arith)) (a.0, a.1 (omega arith))); is = refl }
  lower-Expr (Expr-F.Sizeof n t) h = record { layer = (Expr-F.Sizeof n (t.0, t.1 (omega arith))); is = refl }
  lower-Expr (Expr-F.Binary n o ab) h = record { layer = (Expr-F.Binary n o ((ab.0.0, ab.0.1 (omega arith)), (ab.1.0, ab.1.1 (omega arith)))); is = refl }
  lower-Expr (Expr-F.Choice n a c d) h = record { layer = (Expr-F.Choice n (a.0, a.1 (omega arith)) (c.0, c.1 (omega arith)) (d.0, d.1 (omega arith))); is = refl }
  lower-Expr (Expr-F.Assign n ab) h = record { layer = (Expr-F.Assign n ((ab.0.0, ab.0.1 (omega arith)), (ab.1.0, ab.1.1 (omega arith)))); is = refl }
  lower-Expr (Expr-F.Modify n o ab) h = record { layer = (Expr-F.Modify n o ((ab.0.0, ab.0.1 (omega arith)), (ab.1.0, ab.1.1 (omega arith)))); is = refl }
  lower-Expr (Expr-F.Comma n ab) h = record { layer = (Expr-F.Comma n ((ab.0.0, ab.0.1 (omega arith)), (ab.1.0, ab.1.1 (omega arith)))); is = refl }

  step-Expr : StepExpr → (x : Expr-T) (y : Expr-F ((x : Core) × (core_weight x ≤ limit → PCore x)) ((x : Expr) × (weight x ≤ limit → PExpr x)) ((x : Initializer) × (initializer_weight x ≤ limit → PInitializer x)) ((x : OptionalExpr) × (optional_weight x ≤ limit → POptionalExpr x)) ((x : Stmt) × (statement_weight x ≤ limit → PStmt x)) ((x : Suffix) × (suffix_weight x ≤ limit → PSuffix x)) ((x : Declaration) × (declaration_weight x ≤ limit → PDeclaration x)) ((x : Declarator) × (declarator_weight x ≤ limit → PDeclarator x)) ((x : Init) × (init_weight x ≤ limit → PInit x)) ((x : Parameter) × (parameter_weight x ≤ limit → PParameter x)) ((x : Typename) × (typename_weight x ≤ limit → PTypename x))) → small-Expr y ≡ x → weight (roll-Expr x) ≤ limit → PExpr (roll-Expr x)
  step-Expr step x y is h =
      let z = lower-Expr y (subst (λ w. w ≤ limit) (weigh-Expr (small-Expr y)) (subst (λ v. weight (roll-Expr v) ≤ limit) (sym is) h)) in
      step x z.layer (z.is ∙ is) h

  record SmallInitializer (x : Initializer-T) : Type 0 where
    layer : Initializer-F ((x : Core) × PCore x) ((x : Expr) × PExpr x) ((x : Initializer) × PInitializer x) ((x : OptionalExpr) × POptionalExpr x) ((x : Stmt) × PStmt x) ((x : Suffix) × PSuffix x) ((x : Declaration) × PDeclaration x) ((x : Declarator) × PDeclarator x) ((x : Init) × PInit x) ((x : Parameter) × PParameter x) ((x : Typename) × PTypename x)
    is : parts-Initializer layer ≡ x

  lower-Initializer : (y : Initializer-F ((x : Core) × (core_weight x ≤ limit → PCore x)) ((x : Expr) × (weight x ≤ limit → PExpr x)) ((x : Initializer) × (initializer_weight x ≤ limit → PInitializer x)) ((x : OptionalExpr) × (optional_weight x ≤ limit → POptionalExpr x)) ((x : Stmt) × (statement_weight x ≤ limit → PStmt x)) ((x : Suffix) × (suffix_weight x ≤ limit → PSuffix x)) ((x : Declaration) × (declaration_weight x ≤ limit → PDeclaration x)) ((x : Declarator) × (declarator_weight x ≤ limit → PDeclarator x)) ((x : Init) × (init_weight x ≤ limit → PInit x)) ((x : Parameter) × (parameter_weight x ≤ limit → PParameter x)) ((x : Typename) × (typename_weight x ≤ limit → PTypename x))) → initializer_nodes (weighed-Initializer (small-Initializer y)) ≤ limit → SmallInitializer (small-Initializer y)
  lower-Initializer Initializer-F.Initializer::Absent h = record { layer = Initializer-F.Initializer::Absent; is = refl }
  lower-Initializer (Initializer-F.Value a) h = record { layer = (Initializer-F.Value (a.0, a.1 (omega arith))); is = refl }
  lower-Initializer (Initializer-F.List xs comma) h = let xsz = lower PExpr limit weight xs (omega arith) in record { layer = (Initializer-F.List xsz.parts comma); is = ap (λ (l : List Expr). Initializer-F.List l comma) xsz.is }

  step-Initializer : StepInitializer → (x : Initializer-T) (y : Initializer-F ((x : Core) × (core_weight x ≤ limit → PCore x)) ((x : Expr) × (weight x ≤ limit → PExpr x)) ((x : Initializer) × (initializer_weight x ≤ limit → PInitializer x)) ((x : OptionalExpr) × (optional_weight x ≤ limit → POptionalExpr x)) ((x : Stmt) × (statement_weight x ≤ limit → PStmt x)) ((x : Suffix) × (suffix_weight x ≤ limit → PSuffix x)) ((x : Declaration) × (declaration_weight x ≤ limit → PDeclaration x)) ((x : Declarator) × (declarator_weight x ≤ limit → PDeclarator x)) ((x : Init) × (init_weight x ≤ limit → PInit x)) ((x : Parameter) × (parameter_weight x ≤ limit → PParameter x)) ((x : Typename) × (typename_weight x ≤ limit → PTypename x))) → small-Initializer y ≡ x → initializer_weight (roll-Initializer x) ≤ limit → PInitializer (roll-Initializer x)
  step-Initializer step x y is h =
      let z = lower-Initializer y (subst (λ w. w ≤ limit) (weigh-Initializer (small-Initializer y)) (subst (λ v. initializer_weight (roll-Initializer v) ≤ limit) (sym is) h)) in
      step x z.layer (z.is ∙ is) h

  record SmallOptionalExpr (x : OptionalExpr-T) : Type 0 where
    layer : OptionalExpr-F ((x : Core) × PCore x) ((x : Expr) × PExpr x) ((x : Initializer) × PInitializer x) ((x : OptionalExpr) × POptionalExpr x) ((x : Stmt) × PStmt x) ((x : Suffix) × PSuffix x) ((x : Declaration) × PDeclaration x) ((x : Declarator) × PDeclarator x) ((x : Init) × PInit x) ((x : Parameter) × PParameter x) ((x : Typename) × PTypename x)
    is : parts-OptionalExpr layer ≡ x

  lower-OptionalExpr : (y : OptionalExpr-F ((x : Core) × (core_weight x ≤ limit → PCore x)) ((x : Expr) × (weight x ≤ limit → PExpr x)) ((x : Initializer) × (initializer_weight x ≤ limit → PInitializer x)) ((x : OptionalExpr) × (optional_weight x ≤ limit → POptionalExpr x)) ((x : Stmt) × (statement_weight x ≤ limit → PStmt x)) ((x : Suffix) × (suffix_weight x ≤ limit → PSuffix x)) ((x : Declaration) × (declaration_weight x ≤ limit → PDeclaration x)) ((x : Declarator) × (declarator_weight x ≤ limit → PDeclarator x)) ((x : Init) × (init_weight x ≤ limit → PInit x)) ((x : Parameter) × (parameter_weight x ≤ limit → PParameter x)) ((x : Typename) × (typename_weight x ≤ limit → PTypename x))) → optional_nodes (weighed-OptionalExpr (small-OptionalExpr y)) ≤ limit → SmallOptionalExpr (small-OptionalExpr y)
  lower-OptionalExpr OptionalExpr-F.OptionalExpr::Absent h = record { layer = OptionalExpr-F.OptionalExpr::Absent; is = refl }
  lower-OptionalExpr (OptionalExpr-F.Present a) h = record { layer = (OptionalExpr-F.Present (a.0, a.1 (omega arith))); is = refl }

  step-OptionalExpr : StepOptionalExpr → (x : OptionalExpr-T) (y : OptionalExpr-F ((x : Core) × (core_weight x ≤ limit → PCore x)) ((x : Expr) × (weight x ≤ limit → PExpr x)) ((x : Initializer) × (initializer_weight x ≤ limit → PInitializer x)) ((x : OptionalExpr) × (optional_weight x ≤ limit → POptionalExpr x)) ((x : Stmt) × (statement_weight x ≤ limit → PStmt x)) ((x : Suffix) × (suffix_weight x ≤ limit → PSuffix x)) ((x : Declaration) × (declaration_weight x ≤ limit → PDeclaration x)) ((x : Declarator) × (declarator_weight x ≤ limit → PDeclarator x)) ((x : Init) × (init_weight x ≤ limit → PInit x)) ((x : Parameter) × (parameter_weight x ≤ limit → PParameter x)) ((x : Typename) × (typename_weight x ≤ limit → PTypename x))) → small-OptionalExpr y ≡ x → optional_weight (roll-OptionalExpr x) ≤ limit → POptionalExpr (roll-OptionalExpr x)
  step-OptionalExpr step x y is h =
      let z = lower-OptionalExpr y (subst (λ w. w ≤ limit) (weigh-OptionalExpr (small-OptionalExpr y)) (subst (λ v. optional_weight (roll-OptionalExpr v) ≤ limit) (sym is) h)) in
      step x z.layer (z.is ∙ is) h

  record SmallStmt (x : Stmt-T) : Type 0 where
    layer : Stmt-F ((x : Core) × PCore x) ((x : Expr) × PExpr x) ((x : Initializer) × PInitializer x) ((x : OptionalExpr) × POptionalExpr x) ((x : Stmt) × PStmt x) ((x : Suffix) × PSuffix x) ((x : Declaration) × PDeclaration x) ((x : Declarator) × PDeclarator x) ((x : Init) × PInit x) ((x : Parameter) × PParameter x) ((x : Typename) × PTypename x)
    is : parts-Stmt layer ≡ x

  lower-Stmt : (y : Stmt-F ((x : Core) × (core_weight x ≤ limit → PCore x)) ((x : Expr) × (weight x ≤ limit → PExpr x)) ((x : Initializer) × (initializer_weight x ≤ limit → PInitializer x)) ((x : OptionalExpr) × (optional_weight x ≤ limit → POptionalExpr x)) ((x : Stmt) × (statement_weight x ≤ limit → PStmt x)) ((x : Suffix) × (suffix_weight x ≤ limit → PSuffix x)) ((x : Declaration) × (declaration_weight x ≤ limit → PDeclaration x)) ((x : Declarator) × (declarator_weight x ≤ limit → PDeclarator x)) ((x : Init) × (init_weight x ≤ limit → PInit x)) ((x : Parameter) × (parameter_weight x ≤ limit → PParameter x)) ((x : Typename) × (typename_weight x ≤ limit → PTypename x))) → statement_nodes (weighed-Stmt (small-Stmt y)) ≤ limit → SmallStmt (small-Stmt y)
  lower-Stmt Stmt-F.Empty h = record { layer = Stmt-F.Empty; is = refl }
  lower-Stmt (Stmt-F.Expr a) h = record { layer = (Stmt-F.Expr (a.0, a.1 (omega arith))); is = refl }
  lower-Stmt (Stmt-F.Block xs) h = let xsz = lower PStmt limit statement_weight xs (omega arith) in record { layer = (Stmt-F.Block xsz.parts); is = ap (λ (l : List Stmt). Stmt-F.Block l) xsz.is }
  lower-Stmt (Stmt-F.Stmt::Local d) h = record { layer = (Stmt-F.Stmt::Local (d.0, d.1 (omega arith))); is = refl }
  lower-Stmt (Stmt-F.If n a i) h = record { layer = (Stmt-F.If n (a.0, a.1 (omega arith)) (i.0, i.1 (omega arith))); is = refl }
  lower-Stmt (Stmt-F.IfElse n a i j) h = record { layer = (Stmt-F.IfElse n (a.0, a.1 (omega arith)) (i.0, i.1 (omega arith)) (j.0, j.1 (omega arith))); is = refl }
  lower-Stmt (Stmt-F.While n a i) h = record { layer = (Stmt-F.While n (a.0, a.1 (omega arith)) (i.0, i.1 (omega arith))); is = refl }
  lower-Stmt (Stmt-F.Do n i a) h = record { layer = (Stmt-F.Do n (i.0, i.1 (omega arith)) (a.0, a.1 (omega arith))); is = refl }
  lower-Stmt (Stmt-F.For n i a c j) h = record { layer = (Stmt-F.For n (i.0, i.1 (omega arith)) (a.0, a.1 (omega arith)) (c.0, c.1 (omega arith)) (j.0, j.1 (omega arith))); is = refl }
  lower-Stmt (Stmt-F.Switch n a xs) h = let xsz = lower PStmt limit statement_weight xs (omega arith) in record { layer = (Stmt-F.Switch n (a.0, a.1 (omega arith)) xsz.parts); is = ap (λ (l : List Stmt). Stmt-F.Switch n a.0 l) xsz.is }
  lower-Stmt (Stmt-F.Case n a) h = record { layer = (Stmt-F.Case n (a.0, a.1 (omega arith))); is = refl }
  lower-Stmt (Stmt-F.Default n) h = record { layer = (Stmt-F.Default n); is = refl }
  lower-Stmt (Stmt-F.Break n) h = record { layer = (Stmt-F.Break n); is = refl }
  lower-Stmt (Stmt-F.Continue n) h = record { layer = (Stmt-F.Continue n); is = refl }
  lower-Stmt (Stmt-F.Return n a) h = record { layer = (Stmt-F.Return n (a.0, a.1 (omega arith))); is = refl }

  step-Stmt : StepStmt → (x : Stmt-T) (y : Stmt-F ((x : Core) × (core_weight x ≤ limit → PCore x)) ((x : Expr) × (weight x ≤ limit → PExpr x)) ((x : Initializer) × (initializer_weight x ≤ limit → PInitializer x)) ((x : OptionalExpr) × (optional_weight x ≤ limit → POptionalExpr x)) ((x : Stmt) × (statement_weight x ≤ limit → PStmt x)) ((x : Suffix) × (suffix_weight x ≤ limit → PSuffix x)) ((x : Declaration) × (declaration_weight x ≤ limit → PDeclaration x)) ((x : Declarator) × (declarator_weight x ≤ limit → PDeclarator x)) ((x : Init) × (init_weight x ≤ limit → PInit x)) ((x : Parameter) × (parameter_weight x ≤ limit → PParameter x)) ((x : Typename) × (typename_weight x ≤ limit → PTypename x))) → small-Stmt y ≡ x → statement_weight (roll-Stmt x) ≤ limit → PStmt (roll-Stmt x)
  step-Stmt step x y is h =
      let z = lower-Stmt y (subst (λ w. w ≤ limit) (weigh-Stmt (small-Stmt y)) (subst (λ v. statement_weight (roll-Stmt v) ≤ limit) (sym is) h)) in
      step x z.layer (z.is ∙ is) h

  record SmallSuffix (x : Suffix-T) : Type 0 where
    layer : Suffix-F ((x : Core) × PCore x) ((x : Expr) × PExpr x) ((x : Initializer) × PInitializer x) ((x : OptionalExpr) × POptionalExpr x) ((x : Stmt) × PStmt x) ((x : Suffix) × PSuffix x) ((x : Declaration) × PDeclaration x) ((x : Declarator) × PDeclarator x) ((x : Init) × PInit x) ((x : Parameter) × PParameter x) ((x : Typename) × PTypename x)
    is : parts-Suffix layer ≡ x

  lower-Suffix : (y : Suffix-F ((x : Core) × (core_weight x ≤ limit → PCore x)) ((x : Expr) × (weight x ≤ limit → PExpr x)) ((x : Initializer) × (initializer_weight x ≤ limit → PInitializer x)) ((x : OptionalExpr) × (optional_weight x ≤ limit → POptionalExpr x)) ((x : Stmt) × (statement_weight x ≤ limit → PStmt x)) ((x : Suffix) × (suffix_weight x ≤ limit → PSuffix x)) ((x : Declaration) × (declaration_weight x ≤ limit → PDeclaration x)) ((x : Declarator) × (declarator_weight x ≤ limit → PDeclarator x)) ((x : Init) × (init_weight x ≤ limit → PInit x)) ((x : Parameter) × (parameter_weight x ≤ limit → PParameter x)) ((x : Typename) × (typename_weight x ≤ limit → PTypename x))) → suffix_nodes (weighed-Suffix (small-Suffix y)) ≤ limit → SmallSuffix (small-Suffix y)
  lower-Suffix (Suffix-F.Array a) h = record { layer = (Suffix-F.Array (a.0, a.1 (omega arith))); is = refl }
  lower-Suffix Suffix-F.Unlisted h = record { layer = Suffix-F.Unlisted; is = refl }
  lower-Suffix Suffix-F.Nothing h = record { layer = Suffix-F.Nothing; is = refl }
  lower-Suffix (Suffix-F.Listed xs) h = let xsz = lower PParameter limit parameter_weight xs (omega arith) in record { layer = (Suffix-F.Listed xsz.parts); is = ap (λ (l : List Parameter). Suffix-F.Listed l) xsz.is }

  step-Suffix : StepSuffix → (x : Suffix-T) (y : Suffix-F ((x : Core) × (core_weight x ≤ limit → PCore x)) ((x : Expr) × (weight x ≤ limit → PExpr x)) ((x : Initializer) × (initializer_weight x ≤ limit → PInitializer x)) ((x : OptionalExpr) × (optional_weight x ≤ limit → POptionalExpr x)) ((x : Stmt) × (statement_weight x ≤ limit → PStmt x)) ((x : Suffix) × (suffix_weight x ≤ limit → PSuffix x)) ((x : Declaration) × (declaration_weight x ≤ limit → PDeclaration x)) ((x : Declarator) × (declarator_weight x ≤ limit → PDeclarator x)) ((x : Init) × (init_weight x ≤ limit → PInit x)) ((x : Parameter) × (parameter_weight x ≤ limit → PParameter x)) ((x : Typename) × (typename_weight x ≤ limit → PTypename x))) → small-Suffix y ≡ x → suffix_weight (roll-Suffix x) ≤ limit → PSuffix (roll-Suffix x)
  step-Suffix step x y is h =
      let z = lower-Suffix y (subst (λ w. w ≤ limit) (weigh-Suffix (small-Suffix y)) (subst (λ v. suffix_weight (roll-Suffix v) ≤ limit) (sym is) h)) in
      step x z.layer (z.is ∙ is) h

  record SmallDeclaration (x : Declaration-T) : Type 0 where
    layer : Declaration-F ((x : Core) × PCore x) ((x : Expr) × PExpr x) ((x : Initializer) × PInitializer x) ((x : OptionalExpr) × POptionalExpr x) ((x : Stmt) × PStmt x) ((x : Suffix) × PSuffix x) ((x : Declaration) × PDeclaration x) ((x : Declarator) × PDeclarator x) ((x : Init) × PInit x) ((x : Parameter) × PParameter x) ((x : Typename) × PTypename x)
    is : parts-Declaration layer ≡ x

  lower-Declaration : (y : Declaration-F ((x : Core) × (core_weight x ≤ limit → PCore x)) ((x : Expr) × (weight x ≤ limit → PExpr x)) ((x : Initializer) × (initializer_weight x ≤ limit → PInitializer x)) ((x : OptionalExpr) × (optional_weight x ≤ limit → POptionalExpr x)) ((x : Stmt) × (statement_weight x ≤ limit → PStmt x)) ((x : Suffix) × (suffix_weight x ≤ limit → PSuffix x)) ((x : Declaration) × (declaration_weight x ≤ limit → PDeclaration x)) ((x : Declarator) × (declarator_weight x ≤ limit → PDeclarator x)) ((x : Init) × (init_weight x ≤ limit → PInit x)) ((x : Parameter) × (parameter_weight x ≤ limit → PParameter x)) ((x : Typename) × (typename_weight x ≤ limit → PTypename x))) → declaration_nodes (weighed-Declaration (small-Declaration y)) ≤ limit → SmallDeclaration (small-Declaration y)
  lower-Declaration y h = let z = lower PInit limit init_weight y.inits (omega arith) in record { layer = record { line = y.line; base = y.base; inits = z.parts }; is = ap (λ (l : List Init). record { line = y.line; base = y.base; inits = l }) z.is }

  step-Declaration : StepDeclaration → (x : Declaration-T) (y : Declaration-F ((x : Core) × (core_weight x ≤ limit → PCore x)) ((x : Expr) × (weight x ≤ limit → PExpr x)) ((x : Initializer) × (initializer_weight x ≤ limit → PInitializer x)) ((x : OptionalExpr) × (optional_weight x ≤ limit → POptionalExpr x)) ((x : Stmt) × (statement_weight x ≤ limit → PStmt x)) ((x : Suffix) × (suffix_weight x ≤ limit → PSuffix x)) ((x : Declaration) × (declaration_weight x ≤ limit → PDeclaration x)) ((x : Declarator) × (declarator_weight x ≤ limit → PDeclarator x)) ((x : Init) × (init_weight x ≤ limit → PInit x)) ((x : Parameter) × (parameter_weight x ≤ limit → PParameter x)) ((x : Typename) × (typename_weight x ≤ limit → PTypename x))) → small-Declaration y ≡ x → declaration_weight (roll-Declaration x) ≤ limit → PDeclaration (roll-Declaration x)
  step-Declaration step x y is h =
      let z = lower-Declaration y (subst (λ w. w ≤ limit) (weigh-Declaration (small-Declaration y)) (subst (λ v. declaration_weight (roll-Declaration v) ≤ limit) (sym is) h)) in
      step x z.layer (z.is ∙ is) h

  record SmallDeclarator (x : Declarator-T) : Type 0 where
    layer : Declarator-F ((x : Core) × PCore x) ((x : Expr) × PExpr x) ((x : Initializer) × PInitializer x) ((x : OptionalExpr) × POptionalExpr x) ((x : Stmt) × PStmt x) ((x : Suffix) × PSuffix x) ((x : Declaration) × PDeclaration x) ((x : Declarator) × PDeclarator x) ((x : Init) × PInit x) ((x : Parameter) × PParameter x) ((x : Typename) × PTypename x)
    is : parts-Declarator layer ≡ x

  lower-Declarator : (y : Declarator-F ((x : Core) × (core_weight x ≤ limit → PCore x)) ((x : Expr) × (weight x ≤ limit → PExpr x)) ((x : Initializer) × (initializer_weight x ≤ limit → PInitializer x)) ((x : OptionalExpr) × (optional_weight x ≤ limit → POptionalExpr x)) ((x : Stmt) × (statement_weight x ≤ limit → PStmt x)) ((x : Suffix) × (suffix_weight x ≤ limit → PSuffix x)) ((x : Declaration) × (declaration_weight x ≤ limit → PDeclaration x)) ((x : Declarator) × (declarator_weight x ≤ limit → PDeclarator x)) ((x : Init) × (init_weight x ≤ limit → PInit x)) ((x : Parameter) × (parameter_weight x ≤ limit → PParameter x)) ((x : Typename) × (typename_weight x ≤ limit → PTypename x))) → declarator_nodes (weighed-Declarator (small-Declarator y)) ≤ limit → SmallDeclarator (small-Declarator y)
  lower-Declarator y h = let z = lower PSuffix limit suffix_weight y.suffixes (omega arith) in record { layer = record { prefixes = y.prefixes; core = (y.core.0, y.core.1 (omega arith)); suffixes = z.parts }; is = ap (λ (l : List Suffix). record { prefixes = y.prefixes; core = y.core.0; suffixes = l }) z.is }

  step-Declarator : StepDeclarator → (x : Declarator-T) (y : Declarator-F ((x : Core) × (core_weight x ≤ limit → PCore x)) ((x : Expr) × (weight x ≤ limit → PExpr x)) ((x : Initializer) × (initializer_weight x ≤ limit → PInitializer x)) ((x : OptionalExpr) × (optional_weight x ≤ limit → POptionalExpr x)) ((x : Stmt) × (statement_weight x ≤ limit → PStmt x)) ((x : Suffix) × (suffix_weight x ≤ limit → PSuffix x)) ((x : Declaration) × (declaration_weight x ≤ limit → PDeclaration x)) ((x : Declarator) × (declarator_weight x ≤ limit → PDeclarator x)) ((x : Init) × (init_weight x ≤ limit → PInit x)) ((x : Parameter) × (parameter_weight x ≤ limit → PParameter x)) ((x : Typename) × (typename_weight x ≤ limit → PTypename x))) → small-Declarator y ≡ x → declarator_weight (roll-Declarator x) ≤ limit → PDeclarator (roll-Declarator x)
  step-Declarator step x y is h =
      let z = lower-Declarator y (subst (λ w. w ≤ limit) (weigh-Declarator (small-Declarator y)) (subst (λ v. declarator_weight (roll-Declarator v) ≤ limit) (sym is) h)) in
      step x z.layer (z.is ∙ is) h

  record SmallInit (x : Init-T) : Type 0 where
    layer : Init-F ((x : Core) × PCore x) ((x : Expr) × PExpr x) ((x : Initializer) × PInitializer x) ((x : OptionalExpr) × POptionalExpr x) ((x : Stmt) × PStmt x) ((x : Suffix) × PSuffix x) ((x : Declaration) × PDeclaration x) ((x : Declarator) × PDeclarator x) ((x : Init) × PInit x) ((x : Parameter) × PParameter x) ((x : Typename) × PTypename x)
    is : parts-Init layer ≡ x

  lower-Init : (y : Init-F ((x : Core) × (core_weight x ≤ limit → PCore x)) ((x : Expr) × (weight x ≤ limit → PExpr x)) ((x : Initializer) × (initializer_weight x ≤ limit → PInitializer x)) ((x : OptionalExpr) × (optional_weight x ≤ limit → POptionalExpr x)) ((x : Stmt) × (statement_weight x ≤ limit → PStmt x)) ((x : Suffix) × (suffix_weight x ≤ limit → PSuffix x)) ((x : Declaration) × (declaration_weight x ≤ limit → PDeclaration x)) ((x : Declarator) × (declarator_weight x ≤ limit → PDeclarator x)) ((x : Init) × (init_weight x ≤ limit → PInit x)) ((x : Parameter) × (parameter_weight x ≤ limit → PParameter x)) ((x : Typename) × (typename_weight x ≤ limit → PTypename x))) → init_nodes (weighed-Init (small-Init y)) ≤ limit → SmallInit (small-Init y)
  lower-Init y h = record { layer = record { declarator = (y.declarator.0, y.declarator.1 (omega arith)); value = (y.value.0, y.value.1 (omega arith)) }; is = refl }

  step-Init : StepInit → (x : Init-T) (y : Init-F ((x : Core) × (core_weight x ≤ limit → PCore x)) ((x : Expr) × (weight x ≤ limit → PExpr x)) ((x : Initializer) × (initializer_weight x ≤ limit → PInitializer x)) ((x : OptionalExpr) × (optional_weight x ≤ limit → POptionalExpr x)) ((x : Stmt) × (statement_weight x ≤ limit → PStmt x)) ((x : Suffix) × (suffix_weight x ≤ limit → PSuffix x)) ((x : Declaration) × (declaration_weight x ≤ limit → PDeclaration x)) ((x : Declarator) × (declarator_weight x ≤ limit → PDeclarator x)) ((x : Init) × (init_weight x ≤ limit → PInit x)) ((x : Parameter) × (parameter_weight x ≤ limit → PParameter x)) ((x : Typename) × (typename_weight x ≤ limit → PTypename x))) → small-Init y ≡ x → init_weight (roll-Init x) ≤ limit → PInit (roll-Init x)
  step-Init step x y is h =
      let z = lower-Init y (subst (λ w. w ≤ limit) (weigh-Init (small-Init y)) (subst (λ v. init_weight (roll-Init v) ≤ limit) (sym is) h)) in
      step x z.layer (z.is ∙ is) h

  record SmallParameter (x : Parameter-T) : Type 0 where
    layer : Parameter-F ((x : Core) × PCore x) ((x : Expr) × PExpr x) ((x : Initializer) × PInitializer x) ((x : OptionalExpr) × POptionalExpr x) ((x : Stmt) × PStmt x) ((x : Suffix) × PSuffix x) ((x : Declaration) × PDeclaration x) ((x : Declarator) × PDeclarator x) ((x : Init) × PInit x) ((x : Parameter) × PParameter x) ((x : Typename) × PTypename x)
    is : parts-Parameter layer ≡ x

  lower-Parameter : (y : Parameter-F ((x : Core) × (core_weight x ≤ limit → PCore x)) ((x : Expr) × (weight x ≤ limit → PExpr x)) ((x : Initializer) × (initializer_weight x ≤ limit → PInitializer x)) ((x : OptionalExpr) × (optional_weight x ≤ limit → POptionalExpr x)) ((x : Stmt) × (statement_weight x ≤ limit → PStmt x)) ((x : Suffix) × (suffix_weight x ≤ limit → PSuffix x)) ((x : Declaration) × (declaration_weight x ≤ limit → PDeclaration x)) ((x : Declarator) × (declarator_weight x ≤ limit → PDeclarator x)) ((x : Init) × (init_weight x ≤ limit → PInit x)) ((x : Parameter) × (parameter_weight x ≤ limit → PParameter x)) ((x : Typename) × (typename_weight x ≤ limit → PTypename x))) → parameter_nodes (weighed-Parameter (small-Parameter y)) ≤ limit → SmallParameter (small-Parameter y)
  lower-Parameter y h = record { layer = record { line = y.line; base = y.base; declarator = (y.declarator.0, y.declarator.1 (omega arith)) }; is = refl }

  step-Parameter : StepParameter → (x : Parameter-T) (y : Parameter-F ((x : Core) × (core_weight x ≤ limit → PCore x)) ((x : Expr) × (weight x ≤ limit → PExpr x)) ((x : Initializer) × (initializer_weight x ≤ limit → PInitializer x)) ((x : OptionalExpr) × (optional_weight x ≤ limit → POptionalExpr x)) ((x : Stmt) × (statement_weight x ≤ limit → PStmt x)) ((x : Suffix) × (suffix_weight x ≤ limit → PSuffix x)) ((x : Declaration) × (declaration_weight x ≤ limit → PDeclaration x)) ((x : Declarator) × (declarator_weight x ≤ limit → PDeclarator x)) ((x : Init) × (init_weight x ≤ limit → PInit x)) ((x : Parameter) × (parameter_weight x ≤ limit → PParameter x)) ((x : Typename) × (typename_weight x ≤ limit → PTypename x))) → small-Parameter y ≡ x → parameter_weight (roll-Parameter x) ≤ limit → PParameter (roll-Parameter x)
  step-Parameter step x y is h =
      let z = lower-Parameter y (subst (λ w. w ≤ limit) (weigh-Parameter (small-Parameter y)) (subst (λ v. parameter_weight (roll-Parameter v) ≤ limit) (sym is) h)) in
      step x z.layer (z.is ∙ is) h

  record SmallTypename (x : Typename-T) : Type 0 where
    layer : Typename-F ((x : Core) × PCore x) ((x : Expr) × PExpr x) ((x : Initializer) × PInitializer x) ((x : OptionalExpr) × POptionalExpr x) ((x : Stmt) × PStmt x) ((x : Suffix) × PSuffix x) ((x : Declaration) × PDeclaration x) ((x : Declarator) × PDeclarator x) ((x : Init) × PInit x) ((x : Parameter) × PParameter x) ((x : Typename) × PTypename x)
    is : parts-Typename layer ≡ x

  lower-Typename : (y : Typename-F ((x : Core) × (core_weight x ≤ limit → PCore x)) ((x : Expr) × (weight x ≤ limit → PExpr x)) ((x : Initializer) × (initializer_weight x ≤ limit → PInitializer x)) ((x : OptionalExpr) × (optional_weight x ≤ limit → POptionalExpr x)) ((x : Stmt) × (statement_weight x ≤ limit → PStmt x)) ((x : Suffix) × (suffix_weight x ≤ limit → PSuffix x)) ((x : Declaration) × (declaration_weight x ≤ limit → PDeclaration x)) ((x : Declarator) × (declarator_weight x ≤ limit → PDeclarator x)) ((x : Init) × (init_weight x ≤ limit → PInit x)) ((x : Parameter) × (parameter_weight x ≤ limit → PParameter x)) ((x : Typename) × (typename_weight x ≤ limit → PTypename x))) → typename_nodes (weighed-Typename (small-Typename y)) ≤ limit → SmallTypename (small-Typename y)
  lower-Typename y h = record { layer = record { base = y.base; declarator = (y.declarator.0, y.declarator.1 (omega arith)) }; is = refl }

  step-Typename : StepTypename → (x : Typename-T) (y : Typename-F ((x : Core) × (core_weight x ≤ limit → PCore x)) ((x : Expr) × (weight x ≤ limit → PExpr x)) ((x : Initializer) × (initializer_weight x ≤ limit → PInitializer x)) ((x : OptionalExpr) × (optional_weight x ≤ limit → POptionalExpr x)) ((x : Stmt) × (statement_weight x ≤ limit → PStmt x)) ((x : Suffix) × (suffix_weight x ≤ limit → PSuffix x)) ((x : Declaration) × (declaration_weight x ≤ limit → PDeclaration x)) ((x : Declarator) × (declarator_weight x ≤ limit → PDeclarator x)) ((x : Init) × (init_weight x ≤ limit → PInit x)) ((x : Parameter) × (parameter_weight x ≤ limit → PParameter x)) ((x : Typename) × (typename_weight x ≤ limit → PTypename x))) → small-Typename y ≡ x → typename_weight (roll-Typename x) ≤ limit → PTypename (roll-Typename x)
  step-Typename step x y is h =
      let z = lower-Typename y (subst (λ w. w ≤ limit) (weigh-Typename (small-Typename y)) (subst (λ v. typename_weight (roll-Typename v) ≤ limit) (sym is) h)) in
      step x z.layer (z.is ∙ is) h

  pub core_small : (sCore : StepCore) (sExpr : StepExpr) (sInitializer : StepInitializer) (sOptionalExpr : StepOptionalExpr) (sStmt : StepStmt) (sSuffix : StepSuffix) (sDeclaration : StepDeclaration) (sDeclarator : StepDeclarator) (sInit : StepInit) (sParameter : StepParameter) (sTypename : StepTypename) → (x : Core) → core_weight x ≤ limit → PCore x
  core_small sCore sExpr sInitializer sOptionalExpr sStmt sSuffix sDeclaration sDeclarator sInit sParameter sTypename = ind-Core (λ x. core_weight x ≤ limit → PCore x) (λ x. weight x ≤ limit → PExpr x) (λ x. initializer_weight x ≤ limit → PInitializer x) (λ x. optional_weight x ≤ limit → POptionalExpr x) (λ x. statement_weight x ≤ limit → PStmt x) (λ x. suffix_weight x ≤ limit → PSuffix x) (λ x. declaration_weight x ≤ limit → PDeclaration x) (λ x. declarator_weight x ≤ limit → PDeclarator x) (λ x. init_weight x ≤ limit → PInit x) (λ x. parameter_weight x ≤ limit → PParameter x) (λ x. typename_weight x ≤ limit → PTypename x) (step-Core sCore) (step-Expr sExpr) (step-Initializer sInitializer) (step-OptionalExpr sOptionalExpr) (step-Stmt sStmt) (step-Suffix sSuffix) (step-Declaration sDeclaration) (step-Declarator sDeclarator) (step-Init sInit) (step-Parameter sParameter) (step-Typename sTypename)

  pub expr_small : (sCore : StepCore) (sExpr : StepExpr) (sInitializer : StepInitializer) (sOptionalExpr : StepOptionalExpr) (sStmt : StepStmt) (sSuffix : StepSuffix) (sDeclaration : StepDeclaration) (sDeclarator : StepDeclarator) (sInit : StepInit) (sParameter : StepParameter) (sTypename : StepTypename) → (x : Expr) → weight x ≤ limit → PExpr x
  expr_small sCore sExpr sInitializer sOptionalExpr sStmt sSuffix sDeclaration sDeclarator sInit sParameter sTypename = ind-Expr (λ x. core_weight x ≤ limit → PCore x) (λ x. weight x ≤ limit → PExpr x) (λ x. initializer_weight x ≤ limit → PInitializer x) (λ x. optional_weight x ≤ limit → POptionalExpr x) (λ x. statement_weight x ≤ limit → PStmt x) (λ x. suffix_weight x ≤ limit → PSuffix x) (λ x. declaration_weight x ≤ limit → PDeclaration x) (λ x. declarator_weight x ≤ limit → PDeclarator x) (λ x. init_weight x ≤ limit → PInit x) (λ x. parameter_weight x ≤ limit → PParameter x) (λ x. typename_weight x ≤ limit → PTypename x) (step-Core sCore) (step-Expr sExpr) (step-Initializer sInitializer) (step-OptionalExpr sOptionalExpr) (step-Stmt sStmt) (step-Suffix sSuffix) (step-Declaration sDeclaration) (step-Declarator sDeclarator) (step-Init sInit) (step-Parameter sParameter) (step-Typename sTypename)

  pub initializer_small : (sCore : StepCore) (sExpr : StepExpr) (sInitializer : StepInitializer) (sOptionalExpr : StepOptionalExpr) (sStmt : StepStmt) (sSuffix : StepSuffix) (sDeclaration : StepDeclaration) (sDeclarator : StepDeclarator) (sInit : StepInit) (sParameter : StepParameter) (sTypename : StepTypename) → (x : Initializer) → initializer_weight x ≤ limit → PInitializer x
  initializer_small sCore sExpr sInitializer sOptionalExpr sStmt sSuffix sDeclaration sDeclarator sInit sParameter sTypename = ind-Initializer (λ x. core_weight x ≤ limit → PCore x) (λ x. weight x ≤ limit → PExpr x) (λ x. initializer_weight x ≤ limit → PInitializer x) (λ x. optional_weight x ≤ limit → POptionalExpr x) (λ x. statement_weight x ≤ limit → PStmt x) (λ x. suffix_weight x ≤ limit → PSuffix x) (λ x. declaration_weight x ≤ limit → PDeclaration x) (λ x. declarator_weight x ≤ limit → PDeclarator x) (λ x. init_weight x ≤ limit → PInit x) (λ x. parameter_weight x ≤ limit → PParameter x) (λ x. typename_weight x ≤ limit → PTypename x) (step-Core sCore) (step-Expr sExpr) (step-Initializer sInitializer) (step-OptionalExpr sOptionalExpr) (step-Stmt sStmt) (step-Suffix sSuffix) (step-Declaration sDeclaration) (step-Declarator sDeclarator) (step-Init sInit) (step-Parameter sParameter) (step-Typename sTypename)

  pub optional_small : (sCore : StepCore) (sExpr : StepExpr) (sInitializer : StepInitializer) (sOptionalExpr : StepOptionalExpr) (sStmt : StepStmt) (sSuffix : StepSuffix) (sDeclaration : StepDeclaration) (sDeclarator : StepDeclarator) (sInit : StepInit) (sParameter : StepParameter) (sTypename : StepTypename) → (x : OptionalExpr) → optional_weight x ≤ limit → POptionalExpr x
  optional_small sCore sExpr sInitializer sOptionalExpr sStmt sSuffix sDeclaration sDeclarator sInit sParameter sTypename = ind-OptionalExpr (λ x. core_weight x ≤ limit → PCore x) (λ x. weight x ≤ limit → PExpr x) (λ x. initializer_weight x ≤ limit → PInitializer x) (λ x. optional_weight x ≤ limit → POptionalExpr x) (λ x. statement_weight x ≤ limit → PStmt x) (λ x. suffix_weight x ≤ limit → PSuffix x) (λ x. declaration_weight x ≤ limit → PDeclaration x) (λ x. declarator_weight x ≤ limit → PDeclarator x) (λ x. init_weight x ≤ limit → PInit x) (λ x. parameter_weight x ≤ limit → PParameter x) (λ x. typename_weight x ≤ limit → PTypename x) (step-Core sCore) (step-Expr sExpr) (step-Initializer sInitializer) (step-OptionalExpr sOptionalExpr) (step-Stmt sStmt) (step-Suffix sSuffix) (step-Declaration sDeclaration) (step-Declarator sDeclarator) (step-Init sInit) (step-Parameter sParameter) (step-Typename sTypename)

  pub stmt_small : (sCore : StepCore) (sExpr : StepExpr) (sInitializer : StepInitializer) (sOptionalExpr : StepOptionalExpr) (sStmt : StepStmt) (sSuffix : StepSuffix) (sDeclaration : StepDeclaration) (sDeclarator : StepDeclarator) (sInit : StepInit) (sParameter : StepParameter) (sTypename : StepTypename) → (x : Stmt) → statement_weight x ≤ limit → PStmt x
  stmt_small sCore sExpr sInitializer sOptionalExpr sStmt sSuffix sDeclaration sDeclarator sInit sParameter sTypename = ind-Stmt (λ x. core_weight x ≤ limit → PCore x) (λ x. weight x ≤ limit → PExpr x) (λ x. initializer_weight x ≤ limit → PInitializer x) (λ x. optional_weight x ≤ limit → POptionalExpr x) (λ x. statement_weight x ≤ limit → PStmt x) (λ x. suffix_weight x ≤ limit → PSuffix x) (λ x. declaration_weight x ≤ limit → PDeclaration x) (λ x. declarator_weight x ≤ limit → PDeclarator x) (λ x. init_weight x ≤ limit → PInit x) (λ x. parameter_weight x ≤ limit → PParameter x) (λ x. typename_weight x ≤ limit → PTypename x) (step-Core sCore) (step-Expr sExpr) (step-Initializer sInitializer) (step-OptionalExpr sOptionalExpr) (step-Stmt sStmt) (step-Suffix sSuffix) (step-Declaration sDeclaration) (step-Declarator sDeclarator) (step-Init sInit) (step-Parameter sParameter) (step-Typename sTypename)

  pub suffix_small : (sCore : StepCore) (sExpr : StepExpr) (sInitializer : StepInitializer) (sOptionalExpr : StepOptionalExpr) (sStmt : StepStmt) (sSuffix : StepSuffix) (sDeclaration : StepDeclaration) (sDeclarator : StepDeclarator) (sInit : StepInit) (sParameter : StepParameter) (sTypename : StepTypename) → (x : Suffix) → suffix_weight x ≤ limit → PSuffix x
  suffix_small sCore sExpr sInitializer sOptionalExpr sStmt sSuffix sDeclaration sDeclarator sInit sParameter sTypename = ind-Suffix (λ x. core_weight x ≤ limit → PCore x) (λ x. weight x ≤ limit → PExpr x) (λ x. initializer_weight x ≤ limit → PInitializer x) (λ x. optional_weight x ≤ limit → POptionalExpr x) (λ x. statement_weight x ≤ limit → PStmt x) (λ x. suffix_weight x ≤ limit → PSuffix x) (λ x. declaration_weight x ≤ limit → PDeclaration x) (λ x. declarator_weight x ≤ limit → PDeclarator x) (λ x. init_weight x ≤ limit → PInit x) (λ x. parameter_weight x ≤ limit → PParameter x) (λ x. typename_weight x ≤ limit → PTypename x) (step-Core sCore) (step-Expr sExpr) (step-Initializer sInitializer) (step-OptionalExpr sOptionalExpr) (step-Stmt sStmt) (step-Suffix sSuffix) (step-Declaration sDeclaration) (step-Declarator sDeclarator) (step-Init sInit) (step-Parameter sParameter) (step-Typename sTypename)

  pub declaration_small : (sCore : StepCore) (sExpr : StepExpr) (sInitializer : StepInitializer) (sOptionalExpr : StepOptionalExpr) (sStmt : StepStmt) (sSuffix : StepSuffix) (sDeclaration : StepDeclaration) (sDeclarator : StepDeclarator) (sInit : StepInit) (sParameter : StepParameter) (sTypename : StepTypename) → (x : Declaration) → declaration_weight x ≤ limit → PDeclaration x
  declaration_small sCore sExpr sInitializer sOptionalExpr sStmt sSuffix sDeclaration sDeclarator sInit sParameter sTypename = ind-Declaration (λ x. core_weight x ≤ limit → PCore x) (λ x. weight x ≤ limit → PExpr x) (λ x. initializer_weight x ≤ limit → PInitializer x) (λ x. optional_weight x ≤ limit → POptionalExpr x) (λ x. statement_weight x ≤ limit → PStmt x) (λ x. suffix_weight x ≤ limit → PSuffix x) (λ x. declaration_weight x ≤ limit → PDeclaration x) (λ x. declarator_weight x ≤ limit → PDeclarator x) (λ x. init_weight x ≤ limit → PInit x) (λ x. parameter_weight x ≤ limit → PParameter x) (λ x. typename_weight x ≤ limit → PTypename x) (step-Core sCore) (step-Expr sExpr) (step-Initializer sInitializer) (step-OptionalExpr sOptionalExpr) (step-Stmt sStmt) (step-Suffix sSuffix) (step-Declaration sDeclaration) (step-Declarator sDeclarator) (step-Init sInit) (step-Parameter sParameter) (step-Typename sTypename)

  pub declarator_small : (sCore : StepCore) (sExpr : StepExpr) (sInitializer : StepInitializer) (sOptionalExpr : StepOptionalExpr) (sStmt : StepStmt) (sSuffix : StepSuffix) (sDeclaration : StepDeclaration) (sDeclarator : StepDeclarator) (sInit : StepInit) (sParameter : StepParameter) (sTypename : StepTypename) → (x : Declarator) → declarator_weight x ≤ limit → PDeclarator x
  declarator_small sCore sExpr sInitializer sOptionalExpr sStmt sSuffix sDeclaration sDeclarator sInit sParameter sTypename = ind-Declarator (λ x. core_weight x ≤ limit → PCore x) (λ x. weight x ≤ limit → PExpr x) (λ x. initializer_weight x ≤ limit → PInitializer x) (λ x. optional_weight x ≤ limit → POptionalExpr x) (λ x. statement_weight x ≤ limit → PStmt x) (λ x. suffix_weight x ≤ limit → PSuffix x) (λ x. declaration_weight x ≤ limit → PDeclaration x) (λ x. declarator_weight x ≤ limit → PDeclarator x) (λ x. init_weight x ≤ limit → PInit x) (λ x. parameter_weight x ≤ limit → PParameter x) (λ x. typename_weight x ≤ limit → PTypename x) (step-Core sCore) (step-Expr sExpr) (step-Initializer sInitializer) (step-OptionalExpr sOptionalExpr) (step-Stmt sStmt) (step-Suffix sSuffix) (step-Declaration sDeclaration) (step-Declarator sDeclarator) (step-Init sInit) (step-Parameter sParameter) (step-Typename sTypename)

  pub init_small : (sCore : StepCore) (sExpr : StepExpr) (sInitializer : StepInitializer) (sOptionalExpr : StepOptionalExpr) (sStmt : StepStmt) (sSuffix : StepSuffix) (sDeclaration : StepDeclaration) (sDeclarator : StepDeclarator) (sInit : StepInit) (sParameter : StepParameter) (sTypename : StepTypename) → (x : Init) → init_weight x ≤ limit → PInit x
  init_small sCore sExpr sInitializer sOptionalExpr sStmt sSuffix sDeclaration sDeclarator sInit sParameter sTypename = ind-Init (λ x. core_weight x ≤ limit → PCore x) (λ x. weight x ≤ limit → PExpr x) (λ x. initializer_weight x ≤ limit → PInitializer x) (λ x. optional_weight x ≤ limit → POptionalExpr x) (λ x. statement_weight x ≤ limit → PStmt x) (λ x. suffix_weight x ≤ limit → PSuffix x) (λ x. declaration_weight x ≤ limit → PDeclaration x) (λ x. declarator_weight x ≤ limit → PDeclarator x) (λ x. init_weight x ≤ limit → PInit x) (λ x. parameter_weight x ≤ limit → PParameter x) (λ x. typename_weight x ≤ limit → PTypename x) (step-Core sCore) (step-Expr sExpr) (step-Initializer sInitializer) (step-OptionalExpr sOptionalExpr) (step-Stmt sStmt) (step-Suffix sSuffix) (step-Declaration sDeclaration) (step-Declarator sDeclarator) (step-Init sInit) (step-Parameter sParameter) (step-Typename sTypename)

  pub parameter_small : (sCore : StepCore) (sExpr : StepExpr) (sInitializer : StepInitializer) (sOptionalExpr : StepOptionalExpr) (sStmt : StepStmt) (sSuffix : StepSuffix) (sDeclaration : StepDeclaration) (sDeclarator : StepDeclarator) (sInit : StepInit) (sParameter : StepParameter) (sTypename : StepTypename) → (x : Parameter) → parameter_weight x ≤ limit → PParameter x
  parameter_small sCore sExpr sInitializer sOptionalExpr sStmt sSuffix sDeclaration sDeclarator sInit sParameter sTypename = ind-Parameter (λ x. core_weight x ≤ limit → PCore x) (λ x. weight x ≤ limit → PExpr x) (λ x. initializer_weight x ≤ limit → PInitializer x) (λ x. optional_weight x ≤ limit → POptionalExpr x) (λ x. statement_weight x ≤ limit → PStmt x) (λ x. suffix_weight x ≤ limit → PSuffix x) (λ x. declaration_weight x ≤ limit → PDeclaration x) (λ x. declarator_weight x ≤ limit → PDeclarator x) (λ x. init_weight x ≤ limit → PInit x) (λ x. parameter_weight x ≤ limit → PParameter x) (λ x. typename_weight x ≤ limit → PTypename x) (step-Core sCore) (step-Expr sExpr) (step-Initializer sInitializer) (step-OptionalExpr sOptionalExpr) (step-Stmt sStmt) (step-Suffix sSuffix) (step-Declaration sDeclaration) (step-Declarator sDeclarator) (step-Init sInit) (step-Parameter sParameter) (step-Typename sTypename)

  pub typename_small : (sCore : StepCore) (sExpr : StepExpr) (sInitializer : StepInitializer) (sOptionalExpr : StepOptionalExpr) (sStmt : StepStmt) (sSuffix : StepSuffix) (sDeclaration : StepDeclaration) (sDeclarator : StepDeclarator) (sInit : StepInit) (sParameter : StepParameter) (sTypename : StepTypename) → (x : Typename) → typename_weight x ≤ limit → PTypename x
  typename_small sCore sExpr sInitializer sOptionalExpr sStmt sSuffix sDeclaration sDeclarator sInit sParameter sTypename = ind-Typename (λ x. core_weight x ≤ limit → PCore x) (λ x. weight x ≤ limit → PExpr x) (λ x. initializer_weight x ≤ limit → PInitializer x) (λ x. optional_weight x ≤ limit → POptionalExpr x) (λ x. statement_weight x ≤ limit → PStmt x) (λ x. suffix_weight x ≤ limit → PSuffix x) (λ x. declaration_weight x ≤ limit → PDeclaration x) (λ x. declarator_weight x ≤ limit → PDeclarator x) (λ x. init_weight x ≤ limit → PInit x) (λ x. parameter_weight x ≤ limit → PParameter x) (λ x. typename_weight x ≤ limit → PTypename x) (step-Core sCore) (step-Expr sExpr) (step-Initializer sInitializer) (step-OptionalExpr sOptionalExpr) (step-Stmt sStmt) (step-Suffix sSuffix) (step-Declaration sDeclaration) (step-Declarator sDeclarator) (step-Init sInit) (step-Parameter sParameter) (step-Typename sTypename)
