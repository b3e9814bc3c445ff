-- The rules of the walk keep that constants and declarators don't depend on what is known where a function runs.
use Rattle.std.proofs.Common.{[]}
use Rattle.check_declarators.specs.declared.steps.Role.TheVariants as role
use Rattle.check_declarators.specs.Making.{declared_type}
use Rattle.check_declarators.specs.Words as words
use Rattle.tick_tree.specs.declared.syntax.Core.TheOpen.{Core-F, Expr-F, Suffix-F, OptionalExpr-F}
use Rattle.check_rules.specs.Walk.{Core-W, Expr-W, OptionalExpr-W, Suffix-W, core_rule, expr_rule, optional_rule}
use Rattle.check_rules.specs.Walk.{suffix_walk, suffix_of, suffix_walks}
use Rattle.wf_walk.specs.Parts.{FixedNode, FixedNamed, FixedShape, FixedSuffix, FixedParameter, FixedOptional}
use Rattle.wf_walk.specs.Parts.{FixedParts, FixedSuffixParts}
use Rattle.wf_walk.proofs.Lengths.{type_not_computed}
use Rattle.wf_walk.proofs.Fixed.{pure_fixed, constant_fixed, suffix_fixed, declarator_fixed, typed_fixed}
use Rattle.wf_walk.proofs.Fixed.{parameter_fixed}
use Rattle.wf_walk.specs.Asked.{Asked, EveryCore, EveryExpr, EveryOptionalExpr, EverySuffix, RulesKeep}
use Rattle.wf_walk.specs.FixedLaws.{WalksAreFixed}
use Rattle.wf_walk.proofs.Declarators.{each_suffix, each_parameter}
use Rattle.wf_walk.proofs.Forms.{form_of}
use Rattle.wf_walk.proofs.Induction.{holds_expr, holds_declarator, holds_typename}

abbrev fixed : Asked
fixed = record {
  shape = FixedShape;
  node = FixedNode;
  start = λ x. Unit {0};
  optional = FixedOptional;
  item = λ x. Unit {0};
  suffix = λ w. FixedSuffix w.walk;
  declarations = λ x. Unit {0};
  init = λ x. Unit {0};
  parameter = λ w. FixedParameter w.walk;
  named = FixedNamed;
}

fixed_core : (c : Core-W) → EveryCore fixed c → FixedShape (core_rule c)
fixed_core Core-F.Core::Absent h = λ s t m n x y e f k. pure_fixed [] s t m n x y e f
fixed_core (Core-F.Core::Name n text) h = λ s t m n x y e f k. pure_fixed [] s t m n x y e f
fixed_core (Core-F.Core::Paren d) h = h

fixed_parts : (e : Expr-W) → EveryExpr fixed e → FixedParts e
fixed_parts (Expr-F.Expr::Paren a) h = h
fixed_parts (Expr-F.Unary line op a) h = h
fixed_parts (Expr-F.Cast line t a) h = h
fixed_parts (Expr-F.Sizeof line t) h = h
fixed_parts (Expr-F.Binary line op ab) h = h
fixed_parts (Expr-F.Expr::Name line name) h = tt
fixed_parts (Expr-F.Number n unsigned) h = tt
fixed_parts (Expr-F.Character n) h = tt
fixed_parts (Expr-F.String bytes) h = tt
fixed_parts (Expr-F.Compile line a t) h = tt
fixed_parts (Expr-F.Expr::Local line t) h = tt
fixed_parts (Expr-F.Param line t a) h = tt
fixed_parts (Expr-F.Index line ab) h = tt
fixed_parts (Expr-F.Call line c list) h = tt
fixed_parts (Expr-F.Step line op a) h = tt
fixed_parts (Expr-F.Tick line a) h = tt
fixed_parts (Expr-F.TickBlock line items) h = tt
fixed_parts (Expr-F.Choice line c a b) h = tt
fixed_parts (Expr-F.Assign line ab) h = tt
fixed_parts (Expr-F.Modify line op ab) h = tt
fixed_parts (Expr-F.Comma line ab) h = tt

fixed_expr : (e : Expr-W) → EveryExpr fixed e → FixedNode (expr_rule e)
fixed_expr e h f = constant_fixed e (fixed_parts e h) (form_of e f)

fixed_optional : (o : OptionalExpr-W) → EveryOptionalExpr fixed o → FixedOptional (optional_rule o)
fixed_optional OptionalExpr-F.OptionalExpr::Absent h = tt
fixed_optional (OptionalExpr-F.Present e) h = h

suffix_parts : (e : Suffix-W) → EverySuffix fixed e → FixedSuffixParts (suffix_of e)
suffix_parts (Suffix-F.Array e) h = h
suffix_parts Suffix-F.Unlisted h = tt
suffix_parts Suffix-F.Nothing h = tt
suffix_parts (Suffix-F.Listed ps) h = each_parameter FixedParameter ps h

fixed_suffix : (e : Suffix-W) → EverySuffix fixed e → FixedSuffix (suffix_walk e).walk
fixed_suffix e h = suffix_fixed (suffix_of e) (suffix_parts e h)

rules_fix : RulesKeep fixed
rules_fix = record {
  core = fixed_core;
  expr = fixed_expr;
  initializer = λ x h. tt;
  optional = fixed_optional;
  stmt = λ x h. tt;
  suffix = fixed_suffix;
  declaration = λ x h. tt;
  declarator = λ d h. declarator_fixed d.core (suffix_walks d.suffixes) d.prefixes h.0
      (each_suffix FixedSuffix d.suffixes h.1);
  init = λ x h. tt;
  parameter = λ p h. parameter_fixed p.line (words.base_of p.base) p.declarator h;
  typename = λ t h line. typed_fixed t.declarator (declared_type role.Typename line (words.base_of t.base))
      (λ ss x e. type_not_computed role.Typename line (words.base_of t.base) ss x e) h;
}

pub walks_fixed : WalksAreFixed
walks_fixed = record {
  constants = holds_expr fixed rules_fix;
  declarators = holds_declarator fixed rules_fix;
  names =
      holds_typename fixed rules_fix;
}
