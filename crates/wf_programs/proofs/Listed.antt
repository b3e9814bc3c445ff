-- A function has as many parameters as the types in its list, where that stands at its name.
use Rattle.std.proofs.Common.{◌≡◌, suc, ◌≤◌, Bool, true, false, not, refl, ap, sym, ◌∙◌, subst, List, [], ◌∷◌, ◌++◌}
use Rattle.std.proofs.Common.{length, map, Ok, arith}
use Rattle.c_types.specs.declared.ctype.CType.{CType}
use Rattle.check_declarators.specs.declared.steps.Step.{Step}
use Rattle.check_declarators.specs.declared.steps.Step.TheVariants as step
use Rattle.check_declarators.specs.Steps.{prefixed}
use Rattle.tick_tree.specs.Named.{is_nil}
use Rattle.tick_tree.specs.declared.base.Prefix.{Prefix}
use Rattle.tick_tree.specs.declared.syntax.Suffix.TheVariants as sx
use Rattle.tick_tree.specs.declared.syntax.Core.{Core, roll-Core}
use Rattle.tick_tree.specs.declared.syntax.Suffix.{Suffix, roll-Suffix, out-Suffix, roll-out-Suffix}
use Rattle.tick_tree.specs.declared.syntax.Declarator.{Declarator, roll-Declarator}
use Rattle.tick_tree.specs.declared.syntax.Expr.{Expr}
use Rattle.tick_tree.specs.declared.syntax.Initializer.{Initializer}
use Rattle.tick_tree.specs.declared.syntax.OptionalExpr.{OptionalExpr}
use Rattle.tick_tree.specs.declared.syntax.Stmt.{Stmt}
use Rattle.tick_tree.specs.declared.syntax.Declaration.{Declaration}
use Rattle.tick_tree.specs.declared.syntax.Init.{Init}
use Rattle.tick_tree.specs.declared.syntax.Parameter.{Parameter}
use Rattle.tick_tree.specs.declared.syntax.Typename.{Typename}
use Rattle.tick_tree.specs.declared.syntax.Core.TheOpen.{Core-F, Suffix-F, Declarator-F}
use Rattle.tick_tree.specs.declared.syntax.Core.TheFolds.{ind-Declarator, map-Core, map-Declarator, fold-roll-Core}
use Rattle.tick_tree.specs.declared.syntax.Core.TheFolds.{fold-roll-Declarator}
use Rattle.tick_tree.specs.Faults.{◌>>=◌ as ◌>>>=◌}
use Rattle.check_rules.specs.Walks.{Rule, ◌>>=◌, pure}
use Rattle.check_rules.specs.declared.state.Stage.TheVariants as stage
use Rattle.check_rules.specs.declared.state.State.{State}
use Rattle.check_rules.specs.ExpressionRules.{Shape}
use Rattle.check_rules.specs.StatementRules.{each_step, each_type}
use Rattle.check_globals.specs.Functions.{Given}
use Rattle.check_globals.specs.Parameters.{Head, Inner, nothing, inner_rule, head_rule, first_of, list_rule}
use Rattle.check_globals.specs.Parameters.{given_rule, inner, head, list, written, parameters_of}
use Rattle.check_rules.specs.Walk.{SuffixWalk, TypeWalk, suffix_walks, type_walks, declarator_walk, core, shape}
use Rattle.check_rules.specs.Walk.{suffix}
use Rattle.check_rules.specs.Walk.{parameter, optional}
use Rattle.check_laws.proofs.Equations.{at_suffix_array, at_suffix_unlisted, at_suffix_nothing, at_suffix_listed}
use Rattle.check_globals.proofs.Heads.{list_listed}
use Rattle.wf_walk.proofs.Walks.{pure_value}
use Rattle.wf_walk.proofs.Induction.{Core-T, Declarator-T, Suffix-T, walk_core, walk_declarator}
use Rattle.tick_tree.specs.Named as rule
use Rattle.tick_tree.specs.Named.{is_listed, is_listed_core}
use Rattle.wf_programs.proofs.Declared.{list_of, first_list}
use Rattle.wf_programs.proofs.Lists.{ListRan, list_ran, length_ran}
use Rattle.wf_programs.proofs.Steps.{Parts, parts}
use Rattle.wf_programs.proofs.Bools.{length_map}

-- ---- what is shown

-- the first step is of a list that is no longer than this
pub record Front (xs : List Step) (gs : List Given) : Type 0 where
  pub first : Step
  pub rest : List Step
  pub is : xs ≡ first ∷ rest
  pub enough : length (list_of first) ≤ length gs

abbrev SuffixListed : Suffix → Type 0
SuffixListed x = (s new : State) (y : Step) → (suffix x).walk stage.Function s ≡ Ok (y, new) →
    length (list_of y) ≤ length (list x)

abbrev CoreListed : Core → Type 0
CoreListed c =
    (ss : List Suffix) → is_listed_core c (not (is_nil ss)) ≡ true → (s new : State) (xs : List Step)
    → ((core c).walk stage.Function >>= (λ zs. each_step (suffix_walks (map suffix ss)) zs stage.Function)) s ≡ Ok
    (xs, new) → Front xs ((inner c).list (first_of (map list ss)))

abbrev DeclaratorListed : Declarator → Type 0
DeclaratorListed d = is_listed d ≡ true → (s new : State) (xs : List Step) →
    (shape d).walk stage.Function s ≡ Ok (xs, new) → Front xs (parameters_of d)

-- ---- suffixes

types_length : (ps : List TypeWalk) (s new : State) (ts : List CType) →
    each_type (type_walks ps) stage.Function s ≡ Ok (ts, new) → length ts ≡ length ps
types_length [] s new ts is = sym (ap (λ (us : List CType). length us) (pure_value [] ts s new is))
types_length (w ∷ ps) s new ts is =
    let p : Parts (w.walk stage.Function) (λ t. each_type (type_walks ps) stage.Function >>= (λ us. pure (t ∷ us))) s
    new ts
    = parts (w.walk stage.Function) (λ t. each_type (type_walks ps) stage.Function >>= (λ us. pure (t ∷ us))) s new ts
    is in
    let q : Parts (each_type (type_walks ps) stage.Function) (λ us. pure (p.answer ∷ us)) p.between new ts =
    parts (each_type (type_walks ps) stage.Function) (λ us. pure (p.answer ∷ us)) p.between new ts p.second in
    sym (ap (λ (us : List CType). length us) (pure_value (p.answer ∷ q.answer) ts q.between new q.second)) ∙
    ap suc (types_length ps p.between q.between q.answer q.first)

none_enough : (y : Step) (gs : List Given) → [] ≡ list_of y → length (list_of y) ≤ length gs
none_enough y gs e = subst (λ (ts : List CType). length ts ≤ length gs) e (omega arith)

suffix_variant : (x : Suffix-T) → SuffixListed (roll-Suffix x)
suffix_variant (Suffix-F.Array e) =
    subst SuffixListed (sym (sx.rolls-Array e))
    (λ s new y is. none_enough y (list (sx.Array e))
    (length_ran (optional e) s new y (ap (λ (w : SuffixWalk). w.walk stage.Function s) (sym (at_suffix_array e)) ∙ is)))
suffix_variant Suffix-F.Unlisted =
    subst SuffixListed (sym sx.rolls-Unlisted)
    (λ s new y is. none_enough y (list sx.Unlisted)
    (ap list_of (pure_value step.Unlisted y s new
    (ap (λ (w : SuffixWalk). w.walk stage.Function s) (sym at_suffix_unlisted) ∙ is))))
suffix_variant Suffix-F.Nothing =
    subst SuffixListed (sym sx.rolls-Nothing)
    (λ s new y is. none_enough y (list sx.Nothing)
    (ap list_of (pure_value (step.Function []) y s new
    (ap (λ (w : SuffixWalk). w.walk stage.Function s) (sym at_suffix_nothing) ∙ is))))
suffix_variant (Suffix-F.Listed ps) = subst SuffixListed (sym (sx.rolls-Listed ps)) (λ s new y is.
    let r : ListRan (map parameter ps) s y =
    list_ran (map parameter ps) s new y
    (ap (λ (w : SuffixWalk). w.walk stage.Function s) (sym (at_suffix_listed ps)) ∙ is) in
    let a : length r.types ≡ length (map parameter ps) = types_length (map parameter ps) r.from r.to r.types r.walked in
    let b : length (map parameter ps) ≡ length ps = length_map parameter ps in
    let c : length (list (sx.Listed ps)) ≡ length (map written ps) =
    ap (λ (gs : List Given). length gs) (list_listed ps) in
    let d : length (map written ps) ≡ length ps = length_map written ps in
    let e : length (list_of y) ≡ length r.types = ap (λ (z : Step). length (list_of z)) r.is in
    omega arith)

suffix_enough : (x : Suffix) → SuffixListed x
suffix_enough x = subst SuffixListed (roll-out-Suffix x) (suffix_variant (out-Suffix x))

-- ---- steps behind a first one

steps_front : (ws : List SuffixWalk) (gs : List Given) (zs xs : List Step) (s new : State) → Front zs gs →
    each_step (suffix_walks ws) zs stage.Function s ≡ Ok (xs, new) → Front xs gs
steps_front [] gs zs xs s new f is = subst (λ (ys : List Step). Front ys gs) (pure_value zs xs s new is) f
steps_front (w ∷ ws) gs zs xs s new f is =
    let p : Parts (w.walk stage.Function) (λ y. each_step (suffix_walks ws) (zs ++ y ∷ []) stage.Function) s new xs =
    parts (w.walk stage.Function) (λ y. each_step (suffix_walks ws) (zs ++ y ∷ []) stage.Function) s new xs is in
    steps_front ws gs (zs ++ p.answer ∷ []) xs p.between new
    (record {
      first = f.first;
      rest = f.rest ++ p.answer ∷ [];
      is = ap (λ l. l ++ p.answer ∷ []) f.is;
      enough =
          f.enough;
    }) p.second

prefixed_front : (ps : List Prefix) (gs : List Given) (xs : List Step) → Front xs gs → Front (prefixed ps xs) gs
prefixed_front [] gs xs f = f
prefixed_front (p ∷ ps) gs xs f =
    let g : Front (prefixed ps xs) gs = prefixed_front ps gs xs f in
    record {
      first = g.first;
      rest = g.rest ++ step.Prefix p ∷ [];
      is = ap (λ l. l ++ step.Prefix p ∷ []) g.is;
      enough =
          g.enough;
    }

-- ---- the layers

abbrev Any : {A : Type 0} → A → Type 0
Any x = Unit {0}

abbrev KnownCore : Type 0
KnownCore = (x : Core) × CoreListed x

abbrev KnownExpr : Type 0
KnownExpr = (x : Expr) × Any x

abbrev KnownInitializer : Type 0
KnownInitializer = (x : Initializer) × Any x

abbrev KnownOptionalExpr : Type 0
KnownOptionalExpr = (x : OptionalExpr) × Any x

abbrev KnownStmt : Type 0
KnownStmt = (x : Stmt) × Any x

abbrev KnownSuffix : Type 0
KnownSuffix = (x : Suffix) × Any x

abbrev KnownDeclaration : Type 0
KnownDeclaration = (x : Declaration) × Any x

abbrev KnownDeclarator : Type 0
KnownDeclarator = (x : Declarator) × DeclaratorListed x

abbrev KnownInit : Type 0
KnownInit = (x : Init) × Any x

abbrev KnownParameter : Type 0
KnownParameter = (x : Parameter) × Any x

abbrev KnownTypename : Type 0
KnownTypename = (x : Typename) × Any x

abbrev Core-K : Type 0
Core-K = Core-F KnownCore KnownExpr KnownInitializer KnownOptionalExpr KnownStmt KnownSuffix KnownDeclaration
    KnownDeclarator KnownInit KnownParameter KnownTypename

abbrev firstCore : Core-K → Core-T
firstCore y = map-Core KnownCore KnownExpr KnownInitializer KnownOptionalExpr KnownStmt KnownSuffix KnownDeclaration
    KnownDeclarator KnownInit KnownParameter KnownTypename Core Expr Initializer OptionalExpr Stmt Suffix Declaration
    Declarator Init Parameter Typename (λ k. k.0) (λ k. k.0) (λ k. k.0) (λ k. k.0) (λ k. k.0) (λ k. k.0) (λ k. k.0)
    (λ k. k.0) (λ k. k.0) (λ k. k.0) (λ k. k.0) y

abbrev Declarator-K : Type 0
Declarator-K = Declarator-F KnownCore KnownExpr KnownInitializer KnownOptionalExpr KnownStmt KnownSuffix
    KnownDeclaration KnownDeclarator KnownInit KnownParameter KnownTypename

abbrev firstDeclarator : Declarator-K → Declarator-T
firstDeclarator y = map-Declarator KnownCore KnownExpr KnownInitializer KnownOptionalExpr KnownStmt KnownSuffix
    KnownDeclaration KnownDeclarator KnownInit KnownParameter KnownTypename Core Expr Initializer OptionalExpr Stmt
    Suffix
    Declaration Declarator Init Parameter Typename (λ k. k.0) (λ k. k.0) (λ k. k.0) (λ k. k.0) (λ k. k.0) (λ k. k.0)
    (λ k. k.0) (λ k. k.0) (λ k. k.0) (λ k. k.0) (λ k. k.0) y

listed_core : (x : Core-T) →
    is_listed_core (roll-Core x) ≡ rule.core_rule
    (map-Core Core Expr Initializer OptionalExpr Stmt Suffix Declaration Declarator Init Parameter Typename
    (Bool → Bool)
    (Unit {0}) (Unit {0}) (Unit {0}) (Unit {0}) (Unit {0}) (Unit {0}) Bool (Unit {0}) (Unit {0}) (Unit {0})
    is_listed_core
    rule.nothing rule.nothing rule.nothing rule.nothing rule.nothing rule.nothing is_listed rule.nothing rule.nothing
    rule.nothing x)
unfolding is_listed is_listed_core
listed_core x = fold-roll-Core (Bool → Bool) (Unit {0}) (Unit {0}) (Unit {0}) (Unit {0}) (Unit {0}) (Unit {0}) Bool
    (Unit {0}) (Unit {0}) (Unit {0}) rule.core_rule rule.nothing rule.nothing rule.nothing rule.nothing rule.nothing
    rule.nothing rule.declarator_rule rule.nothing rule.nothing rule.nothing x

listed_declarator : (x : Declarator-T) →
    is_listed (roll-Declarator x) ≡ rule.declarator_rule
    (map-Declarator Core Expr Initializer OptionalExpr Stmt Suffix Declaration Declarator Init Parameter Typename
    (Bool → Bool) (Unit {0}) (Unit {0}) (Unit {0}) (Unit {0}) (Unit {0}) (Unit {0}) Bool (Unit {0}) (Unit {0})
    (Unit {0})
    is_listed_core rule.nothing rule.nothing rule.nothing rule.nothing rule.nothing rule.nothing is_listed rule.nothing
    rule.nothing rule.nothing x)
unfolding is_listed is_listed_core
listed_declarator x = fold-roll-Declarator (Bool → Bool) (Unit {0}) (Unit {0}) (Unit {0}) (Unit {0}) (Unit {0})
    (Unit {0}) Bool (Unit {0}) (Unit {0}) (Unit {0}) rule.core_rule rule.nothing rule.nothing rule.nothing rule.nothing
    rule.nothing rule.nothing rule.declarator_rule rule.nothing rule.nothing rule.nothing x

head_core : (x : Core-T) →
    inner (roll-Core x) ≡ inner_rule
    (map-Core Core Expr Initializer OptionalExpr Stmt Suffix Declaration Declarator Init Parameter Typename Inner
    (Unit {0}) (Unit {0}) (Unit {0}) (Unit {0}) (List Given) (Unit {0}) Head (Unit {0}) Given (Unit {0}) inner nothing
    nothing nothing nothing list nothing head nothing written nothing x)
unfolding inner head list written
head_core x = fold-roll-Core Inner (Unit {0}) (Unit {0}) (Unit {0}) (Unit {0}) (List Given) (Unit {0}) Head (Unit {0})
    Given (Unit {0}) inner_rule nothing nothing nothing nothing list_rule nothing head_rule nothing given_rule nothing x

head_declarator : (x : Declarator-T) →
    head (roll-Declarator x) ≡ head_rule
    (map-Declarator Core Expr Initializer OptionalExpr Stmt Suffix Declaration Declarator Init Parameter Typename Inner
    (Unit {0}) (Unit {0}) (Unit {0}) (Unit {0}) (List Given) (Unit {0}) Head (Unit {0}) Given (Unit {0}) inner nothing
    nothing nothing nothing list nothing head nothing written nothing x)
unfolding inner head list written
head_declarator x = fold-roll-Declarator Inner (Unit {0}) (Unit {0}) (Unit {0}) (Unit {0}) (List Given) (Unit {0}) Head
    (Unit {0}) Given (Unit {0}) inner_rule nothing nothing nothing nothing list_rule nothing head_rule nothing
    given_rule
    nothing x

-- the walk over the core of a declarator, and the suffixes behind it
abbrev cored : Shape → List Suffix → Rule State (List Step)
cored c ss = c.walk stage.Function >>= (λ zs. each_step (suffix_walks (map suffix ss)) zs stage.Function)

name_front : (ss : List Suffix) → not (is_nil ss) ≡ true → (s new : State) (xs : List Step) →
    (pure [] >>= (λ zs. each_step (suffix_walks (map suffix ss)) zs stage.Function)) s ≡ Ok (xs, new) →
    Front xs (first_of (map list ss))
name_front [] h s new xs is = absurd (cc)
name_front (x ∷ ss) h s new xs is =
    let p : Parts ((suffix x).walk stage.Function)
    (λ y. each_step (suffix_walks (map suffix ss)) (y ∷ []) stage.Function) s new xs =
    parts ((suffix x).walk stage.Function) (λ y. each_step (suffix_walks (map suffix ss)) (y ∷ []) stage.Function) s
    new xs is in
    steps_front (map suffix ss) (list x) (p.answer ∷ []) xs p.between new
    (record { first = p.answer; rest = []; is = refl; enough = suffix_enough x s p.between p.answer p.first })
    p.second

core_holds : (y : Core-K) → CoreListed (roll-Core (firstCore y))
core_holds Core-F.Core::Absent ss h s new xs is =
    let e : false ≡ is_listed_core (roll-Core Core-F.Core::Absent) (not (is_nil ss)) =
    sym (ap (λ (f : Bool → Bool). f (not (is_nil ss))) (listed_core Core-F.Core::Absent)) in
    absurd (let z : false ≡ true = e ∙ h in cc)
core_holds (Core-F.Core::Name n text) ss h s new xs is =
    subst (λ (i : Inner). Front xs (i.list (first_of (map list ss)))) (sym (head_core (Core-F.Core::Name n text)))
    (name_front ss (sym (ap (λ (f : Bool → Bool). f (not (is_nil ss))) (listed_core (Core-F.Core::Name n text))) ∙ h) s
    new xs
    (ap (λ (c : Shape). cored c ss s) (sym (walk_core (Core-F.Core::Name n text))) ∙ is))
core_holds (Core-F.Core::Paren d) ss h s new xs is =
    let inside : is_listed d.0 ≡ true =
    sym (ap (λ (f : Bool → Bool). f (not (is_nil ss))) (listed_core (Core-F.Core::Paren d.0))) ∙ h in
    let p : Parts ((shape d.0).walk stage.Function) (λ zs. each_step (suffix_walks (map suffix ss)) zs stage.Function) s
    new xs
    = parts ((shape d.0).walk stage.Function) (λ zs. each_step (suffix_walks (map suffix ss)) zs stage.Function) s new
    xs (ap (λ (c : Shape). cored c ss s) (sym (walk_core (Core-F.Core::Paren d.0))) ∙ is) in
    subst (λ (i : Inner). Front xs (i.list (first_of (map list ss)))) (sym (head_core (Core-F.Core::Paren d.0)))
    (steps_front (map suffix ss) (parameters_of d.0) p.answer xs p.between new (d.1 inside s p.between p.answer p.first)
    p.second)

core_step : (x : Core-T) (y : Core-K) → firstCore y ≡ x → CoreListed (roll-Core x)
core_step x y is = subst (λ (z : Core-T). CoreListed (roll-Core z)) is (core_holds y)

nil_map : {A B : Type 0} (f : A → B) (xs : List A) → is_nil (map f xs) ≡ is_nil xs
nil_map f [] = refl
nil_map f (x ∷ xs) = refl

of_declarator : (c : Core) (ss : List Suffix) (ps : List Prefix) → CoreListed c →
    is_listed_core c (not (is_nil ss)) ≡ true → (s new : State) (xs : List Step)
    → declarator_walk (core c) (map suffix ss) ps stage.Function s ≡ Ok (xs, new) →
    Front xs ((inner c).list (first_of (map list ss)))
of_declarator c ss ps good h s new xs is =
    let p : Parts ((core c).walk stage.Function)
    (λ zs. each_step (suffix_walks (map suffix ss)) zs stage.Function >>= (λ all. pure (prefixed ps all))) s new xs
    = parts ((core c).walk stage.Function)
    (λ zs. each_step (suffix_walks (map suffix ss)) zs stage.Function >>= (λ all. pure (prefixed ps all))) s new xs is
    in
    let q : Parts (each_step (suffix_walks (map suffix ss)) p.answer stage.Function) (λ all. pure (prefixed ps all))
    p.between new xs
    = parts (each_step (suffix_walks (map suffix ss)) p.answer stage.Function) (λ all. pure (prefixed ps all)) p.between
    new xs p.second in
    let whole : cored (core c) ss s ≡ Ok (q.answer, q.between) =
    ap (λ r. r >>>= (λ z. each_step (suffix_walks (map suffix ss)) z.0 stage.Function z.1)) p.first ∙ q.first in
    subst (λ (ys : List Step). Front ys ((inner c).list (first_of (map list ss))))
    (pure_value (prefixed ps q.answer) xs q.between new q.second)
    (prefixed_front ps ((inner c).list (first_of (map list ss))) q.answer (good ss h s q.between q.answer whole))

declarator_holds : (z : Declarator-T) → CoreListed z.core → DeclaratorListed (roll-Declarator z)
declarator_holds z good h s new xs is =
    let listed : is_listed_core z.core (not (is_nil z.suffixes)) ≡ true
    = sym (ap (λ b. is_listed_core z.core (not b)) (nil_map rule.nothing z.suffixes)) ∙ sym (listed_declarator z) ∙ h in
    subst (λ (i : Head). Front xs i.list) (sym (head_declarator z))
    (of_declarator z.core z.suffixes z.prefixes good listed s new xs
    (ap (λ (c : Shape). c.walk stage.Function s) (sym (walk_declarator z)) ∙ is))

declarator_step : (x : Declarator-T) (y : Declarator-K) → firstDeclarator y ≡ x → DeclaratorListed (roll-Declarator x)
declarator_step x y is = subst (λ (z : Declarator-T). DeclaratorListed (roll-Declarator z)) is
    (declarator_holds (firstDeclarator y) y.core.1)

each_listed : (d : Declarator) → DeclaratorListed d
each_listed = ind-Declarator CoreListed Any Any Any Any Any Any DeclaratorListed Any Any Any core_step (λ x y is. tt)
    (λ x y is. tt) (λ x y is. tt) (λ x y is. tt) (λ x y is. tt) (λ x y is. tt) declarator_step (λ x y is. tt)
    (λ x y is. tt) (λ x y is. tt)

first_front : (xs : List Step) (gs : List Given) → Front xs gs → length (first_list xs) ≤ length gs
first_front xs gs f = subst (λ (ys : List Step). length (first_list ys) ≤ length gs) (sym f.is) f.enough

-- a function's list has no more types than its declarator has parameters
pub enough : (d : Declarator) → is_listed d ≡ true → (s new : State) (xs : List Step) →
    (shape d).walk stage.Function s ≡ Ok (xs, new) → length (first_list xs) ≤ length (parameters_of d)
enough d h s new xs is = first_front xs (parameters_of d) (each_listed d h s new xs is)
