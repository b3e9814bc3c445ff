-- Each rule of the walk makes of good parts a good whole.
use Rattle.std.proofs.Common.{ℕ, refl, List}
use Rattle.tick_tree.specs.declared.syntax.Core.TheOpen.{Core-F, Expr-F, Initializer-F, OptionalExpr-F, Stmt-F}
use Rattle.tick_tree.specs.declared.syntax.Core.TheOpen.{Suffix-F}
use Rattle.check_rules.specs.ExpressionRules.{tick_around}
use Rattle.check_rules.specs.Walk.{Core-W, Expr-W, Initializer-W, OptionalExpr-W, Stmt-W, Suffix-W, Declarator-W}
use Rattle.check_rules.specs.Walk.{Declaration-W, Init-W, Parameter-W, Typename-W, core_rule, expr_rule, start_rule}
use Rattle.check_rules.specs.Walk.{optional_rule, suffix_walk, suffix_of, declarator_rule, declaration_rule}
use Rattle.check_rules.specs.Walk.{init_rule}
use Rattle.check_rules.specs.Walk.{parameter_rule, typename_rule, stmt_rule, declaration_walk}
use Rattle.wf_walk.specs.Good.{GoodNode, GoodShape, GoodSuffix, GoodParameter, GoodNamed}
use Rattle.wf_walk.specs.Items.{GoodItem}
use Rattle.wf_walk.proofs.Walk.{walk_does}
use Rattle.wf_walk.specs.StatementParts.{GoodStatementParts}
use Rattle.wf_walk.proofs.Assembly.{block_good}
use Rattle.wf_programs.specs.Parts.{GoodStart, GoodInit, GoodDeclarators}
use Rattle.wf_programs.proofs.Declarations.{declaration_good, item_good}
use Rattle.wf_walk.specs.Parts.{GoodOptional, GoodParts, GoodSuffixParts}
use Rattle.wf_walk.proofs.Constants.{constant_plain}
use Rattle.wf_walk.proofs.Productions.{walk_keeps}
use Rattle.wf_walk.proofs.Strings.{string_plain}
use Rattle.wf_walk.specs.Asked.{EveryCore, EveryExpr, EveryInitializer, EveryOptionalExpr, EveryStmt, EverySuffix}
use Rattle.wf_walk.specs.Asked.{EveryDeclarator, EveryDeclaration, EveryInit, EveryParameter, EveryTypename}
use Rattle.wf_walk.proofs.Declarators.{each_parameter, good_core as core_of, good_declarator as declarator_of}
use Rattle.wf_walk.proofs.Declarators.{good_typename as typename_of, good_parameter as parameter_of}
use Rattle.wf_walk.proofs.Declarators.{good_suffix as suffix_is_good}
use Rattle.wf_walk.proofs.Forms.{form_of, string_of}
use Rattle.wf_programs.specs.Good.{good, FewParts, FewExpr}

-- ---- expressions

parts : (many : List ℕ) (e : Expr-W) → EveryExpr (good many) e → FewParts e → GoodParts many e
parts many (Expr-F.TickBlock line items) h f = (block_good items tick_around tt refl h f.0, f.1)
parts many (Expr-F.Expr::Name line name) h f = tt
parts many (Expr-F.Number n unsigned) h f = tt
parts many (Expr-F.Character n) h f = tt
parts many (Expr-F.String bytes) h f = tt
parts many (Expr-F.Expr::Paren a) h f = h
parts many (Expr-F.Compile line a t) h f = h
parts many (Expr-F.Expr::Local line t) h f = h
parts many (Expr-F.Param line t a) h f = h
parts many (Expr-F.Index line ab) h f = h
parts many (Expr-F.Call line c list) h f = h
parts many (Expr-F.Step line op a) h f = h
parts many (Expr-F.Unary line op a) h f = h
parts many (Expr-F.Tick line a) h f = (h, f)
parts many (Expr-F.Cast line t a) h f = h
parts many (Expr-F.Sizeof line t) h f = h
parts many (Expr-F.Binary line op ab) h f = h
parts many (Expr-F.Choice line c a b) h f = h
parts many (Expr-F.Assign line ab) h f = h
parts many (Expr-F.Modify line op ab) h f = h
parts many (Expr-F.Comma line ab) h f = h

pub good_expr : (many : List ℕ) (e : Expr-W) → EveryExpr (good many) e → FewExpr e → GoodNode many (expr_rule e)
good_expr many e h f =
    let p = parts many e h f.parts in
    record {
      keeps = walk_keeps many e p;
      does = walk_does many e p;
      string = λ is g s new o r. string_plain many e p (string_of e is) g s new o r;
      few = f.walk;
      constant = λ is g s new o r. constant_plain many e p (form_of e is) g s new o r;
    }

pub good_optional : (many : List ℕ) (x : OptionalExpr-W) → EveryOptionalExpr (good many) x →
    GoodOptional many (optional_rule x)
good_optional many OptionalExpr-F.OptionalExpr::Absent h = tt
good_optional many (OptionalExpr-F.Present e) h = h

pub good_initializer : (many : List ℕ) (x : Initializer-W) → EveryInitializer (good many) x →
    GoodStart many (start_rule x)
good_initializer many Initializer-F.Initializer::Absent h = tt
good_initializer many (Initializer-F.Value e) h = h
good_initializer many (Initializer-F.List es comma) h = h

-- ---- types

pub good_core : (many : List ℕ) (x : Core-W) → EveryCore (good many) x → GoodShape (core_rule x)
good_core many Core-F.Core::Absent h = core_of Core-F.Core::Absent h
good_core many (Core-F.Core::Name n text) h = core_of (Core-F.Core::Name n text) h
good_core many (Core-F.Core::Paren d) h = core_of (Core-F.Core::Paren d) h

suffix_parts : (many : List ℕ) (x : Suffix-W) → EverySuffix (good many) x → GoodSuffixParts many (suffix_of x)
suffix_parts many (Suffix-F.Array e) h = h
suffix_parts many Suffix-F.Unlisted h = tt
suffix_parts many Suffix-F.Nothing h = tt
suffix_parts many (Suffix-F.Listed ps) h = each_parameter GoodParameter ps h

pub good_suffix : (many : List ℕ) (x : Suffix-W) → EverySuffix (good many) x → GoodSuffix (suffix_walk x).walk
good_suffix many x h = suffix_is_good many x (suffix_parts many x h)

pub good_declarator : (many : List ℕ) (x : Declarator-W) → EveryDeclarator (good many) x → GoodShape (declarator_rule x)
good_declarator many x h = declarator_of x h.0 h.1

pub good_parameter : (many : List ℕ) (x : Parameter-W) → EveryParameter (good many) x →
    GoodParameter (parameter_rule x).walk
good_parameter many x h = parameter_of x h

pub good_typename : (many : List ℕ) (x : Typename-W) → EveryTypename (good many) x → GoodNamed (typename_rule x)
good_typename many x h = typename_of x h

-- ---- declarations and statements

pub good_init : (many : List ℕ) (x : Init-W) → EveryInit (good many) x → GoodInit many (init_rule x)
good_init many x h = record { shape = h.0; start = h.1 }

pub good_declaration : (many : List ℕ) (x : Declaration-W) → EveryDeclaration (good many) x →
    GoodDeclarators many (declaration_rule x)
good_declaration many x h = h

statement_parts : (many : List ℕ) (x : Stmt-W) → EveryStmt (good many) x → GoodStatementParts many declaration_walk x
statement_parts many Stmt-F.Empty h = tt
statement_parts many (Stmt-F.Expr e) h = h
statement_parts many (Stmt-F.Block items) h = h
statement_parts many (Stmt-F.Stmt::Local d) h = declaration_good many d h
statement_parts many (Stmt-F.If line c i) h = h
statement_parts many (Stmt-F.IfElse line c i j) h = h
statement_parts many (Stmt-F.While line c i) h = h
statement_parts many (Stmt-F.Do line i c) h = h
statement_parts many (Stmt-F.For line first c s i) h = h
statement_parts many (Stmt-F.Switch line e items) h = h
statement_parts many (Stmt-F.Case line e) h = h
statement_parts many (Stmt-F.Default line) h = tt
statement_parts many (Stmt-F.Break line) h = tt
statement_parts many (Stmt-F.Continue line) h = tt
statement_parts many (Stmt-F.Return line e) h = h

pub good_stmt : (many : List ℕ) (x : Stmt-W) → EveryStmt (good many) x → GoodItem many (stmt_rule x)
good_stmt many x h = item_good many x (statement_parts many x h)
