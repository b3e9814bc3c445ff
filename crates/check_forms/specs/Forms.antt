-- What the rules of a node ask of the way in which a part of it is written: whether it has the form of a constant
-- expression,
-- whether it is a plain name or a string, which name a declarator declares, and whether a cspec or vspec is written in
-- it.
use Rattle.std.specs.Prelude.{ℕ, Bool, true, false, ◌&&◌, ◌||◌, List, [], ◌∷◌, Option, Some, None}
use denote.Ref.{Bor}
use Rattle.tick_tree.specs.declared.base.Base.{Base}
use Rattle.tick_tree.specs.declared.base.Base.TheVariants as b
use Rattle.tick_tree.specs.declared.base.Prefix.{Prefix}
use Rattle.tick_tree.specs.declared.base.Prefix.TheVariants as prefix
use Rattle.tick_tree.specs.declared.base.BinaryOp.{BinaryOp}
use Rattle.tick_tree.specs.declared.base.BinaryOp.TheVariants as op
use Rattle.tick_tree.specs.declared.syntax.Expr.{Expr}
use Rattle.tick_tree.specs.declared.syntax.Declarator.{Declarator}
use Rattle.tick_tree.specs.declared.syntax.Core.{Core}
use Rattle.tick_tree.specs.declared.syntax.Suffix.{Suffix}
use Rattle.tick_tree.specs.declared.syntax.Parameter.{Parameter}
use Rattle.tick_tree.specs.declared.syntax.Typename.{Typename}
use Rattle.tick_tree.specs.declared.syntax.Core.TheFolds.{fold-Core, fold-Expr, fold-Declarator, fold-Suffix}
use Rattle.tick_tree.specs.declared.syntax.Core.TheFolds.{fold-Parameter, fold-Typename}
use Rattle.tick_tree.specs.declared.syntax.Core.TheOpen.{Expr-F, OptionalExpr-F, Typename-F, Declarator-F, Core-F}
use Rattle.tick_tree.specs.declared.syntax.Core.TheOpen.{Suffix-F, Parameter-F, Initializer-F, Init-F, Declaration-F}
use Rattle.tick_tree.specs.declared.syntax.Core.TheOpen.{Stmt-F}
pub use Rattle.tick_tree.specs.Named.{is_nil}

abbrev pub Name : Type 0
Name = List ℕ

-- ---- constants

abbrev pub is_some_type : Base → Bool
is_some_type b.Void = false
is_some_type _ = true

-- `&&` and `||` have no place in a constant expression
abbrev pub is_strict : BinaryOp → Bool
is_strict op.And = false
is_strict op.Or = false
is_strict _ = true

-- what is asked of an expression: whether it has the form of a constant expression (numbers, characters, `sizeof`,
-- casts to integers, unary and binary operators but `&&`, `||` and `,`), the plain name that it is, and the string that
-- it is
pub record Written : Type 0 where
  pub constant : Bool
  pub name : Option Name
  pub string : Option (List ℕ)

-- what is asked of a declarator: whether it changes nothing of its base, the name that it declares, with its line, and
-- whether a cspec or vspec is written in it, in its lists of parameters too
pub record Declared : Type 0 where
  pub plain : Bool
  pub name : Option (ℕ × Name)
  pub staged : Bool

-- one layer of a tree, with what is asked of its parts in their places
abbrev pub Core-W : Type 0
Core-W = Core-F Declared Written (Unit {0}) (Unit {0}) (Unit {0}) Bool (Unit {0}) Declared (Unit {0}) Bool Bool

abbrev pub Expr-W : Type 0
Expr-W = Expr-F Declared Written (Unit {0}) (Unit {0}) (Unit {0}) Bool (Unit {0}) Declared (Unit {0}) Bool Bool

abbrev pub Declarator-W : Type 0
Declarator-W = Declarator-F Declared Written (Unit {0}) (Unit {0}) (Unit {0}) Bool (Unit {0}) Declared (Unit {0}) Bool
    Bool

abbrev pub Suffix-W : Type 0
Suffix-W = Suffix-F Declared Written (Unit {0}) (Unit {0}) (Unit {0}) Bool (Unit {0}) Declared (Unit {0}) Bool Bool

abbrev pub Parameter-W : Type 0
Parameter-W = Parameter-F Declared Written (Unit {0}) (Unit {0}) (Unit {0}) Bool (Unit {0}) Declared (Unit {0}) Bool
    Bool

abbrev pub Typename-W : Type 0
Typename-W = Typename-F Declared Written (Unit {0}) (Unit {0}) (Unit {0}) Bool (Unit {0}) Declared (Unit {0}) Bool Bool

-- neither a name nor a string
abbrev pub nameless : Bool → Written
nameless form = record { constant = form; name = None; string = None }

abbrev pub expr_rule : Expr-W → Written
expr_rule (Expr-F.Expr::Name n text) = record { constant = false; name = Some text; string = None }
expr_rule (Expr-F.Number value unsigned) = nameless true
expr_rule (Expr-F.Character value) = nameless true
expr_rule (Expr-F.String bytes) = record { constant = false; name = None; string = Some bytes }
expr_rule (Expr-F.Expr::Paren a) = a
expr_rule (Expr-F.Compile n a t) = nameless false
expr_rule (Expr-F.Expr::Local n t) = nameless false
expr_rule (Expr-F.Param n t a) = nameless false
expr_rule (Expr-F.Index n p) = nameless false
expr_rule (Expr-F.Call n a args) = nameless false
expr_rule (Expr-F.Step n o a) = nameless false
expr_rule (Expr-F.Unary n o a) = nameless a.constant
expr_rule (Expr-F.Tick n a) = nameless false
expr_rule (Expr-F.TickBlock n items) = nameless false
expr_rule (Expr-F.Cast n t a) = nameless (t && a.constant)
expr_rule (Expr-F.Sizeof n t) = nameless true
expr_rule (Expr-F.Binary n o p) = nameless (is_strict o && p.0.constant && p.1.constant)
expr_rule (Expr-F.Choice n a c d) = nameless false
expr_rule (Expr-F.Assign n p) = nameless false
expr_rule (Expr-F.Modify n o p) = nameless false
expr_rule (Expr-F.Comma n p) = nameless false

abbrev pub core_rule : Core-W → Declared
core_rule Core-F.Core::Absent = record { plain = true; name = None; staged = false }
core_rule (Core-F.Core::Name n text) = record { plain = true; name = Some (n, text); staged = false }
core_rule (Core-F.Core::Paren d) = d

abbrev pub is_staged_prefix : Prefix → Bool
is_staged_prefix prefix.Star = false
is_staged_prefix prefix.Cspec = true
is_staged_prefix prefix.Vspec = true

abbrev pub any_staged_prefix : List Prefix → Bool
any_staged_prefix [] = false
any_staged_prefix (p ∷ ps) = is_staged_prefix p || any_staged_prefix ps

abbrev pub any : List Bool → Bool
any [] = false
any (b ∷ bs) = b || any bs

abbrev pub declarator_rule : Declarator-W → Declared
declarator_rule d = record {
  plain = is_nil d.prefixes && d.core.plain && is_nil d.suffixes;
  name = d.core.name;
  staged = any_staged_prefix d.prefixes || d.core.staged || any d.suffixes;
}

-- whether a cspec or vspec is written in a list of parameters
abbrev pub suffix_rule : Suffix-W → Bool
suffix_rule (Suffix-F.Array e) = false
suffix_rule Suffix-F.Unlisted = false
suffix_rule Suffix-F.Nothing = false
suffix_rule (Suffix-F.Listed ps) = any ps

abbrev pub parameter_rule : Parameter-W → Bool
parameter_rule p = p.declarator.staged

-- whether a type name is that of an integer type
abbrev pub typename_rule : Typename-W → Bool
typename_rule t = is_some_type t.base && t.declarator.plain

abbrev pub nothing : {A : Type 0} → A → Unit {0}
nothing x = tt

unfoldable pub written : Expr → Written
written = fold-Expr Declared Written (Unit {0}) (Unit {0}) (Unit {0}) Bool (Unit {0}) Declared (Unit {0}) Bool Bool
    core_rule expr_rule nothing nothing nothing suffix_rule nothing declarator_rule nothing parameter_rule typename_rule

unfoldable pub declared : Declarator → Declared
declared = fold-Declarator Declared Written (Unit {0}) (Unit {0}) (Unit {0}) Bool (Unit {0}) Declared (Unit {0}) Bool
    Bool core_rule expr_rule nothing nothing nothing suffix_rule nothing declarator_rule nothing parameter_rule
    typename_rule

unfoldable pub declared_core : Core → Declared
declared_core = fold-Core Declared Written (Unit {0}) (Unit {0}) (Unit {0}) Bool (Unit {0}) Declared (Unit {0}) Bool
    Bool core_rule expr_rule nothing nothing nothing suffix_rule nothing declarator_rule nothing parameter_rule
    typename_rule

unfoldable pub is_staged_suffix : Suffix → Bool
is_staged_suffix = fold-Suffix Declared Written (Unit {0}) (Unit {0}) (Unit {0}) Bool (Unit {0}) Declared (Unit {0})
    Bool Bool core_rule expr_rule nothing nothing nothing suffix_rule nothing declarator_rule nothing parameter_rule
    typename_rule

unfoldable pub is_staged_parameter : Parameter → Bool
is_staged_parameter = fold-Parameter Declared Written (Unit {0}) (Unit {0}) (Unit {0}) Bool (Unit {0}) Declared
    (Unit {0}) Bool Bool core_rule expr_rule nothing nothing nothing suffix_rule nothing declarator_rule nothing
    parameter_rule typename_rule

unfoldable pub is_integer_name : Typename → Bool
is_integer_name = fold-Typename Declared Written (Unit {0}) (Unit {0}) (Unit {0}) Bool (Unit {0}) Declared (Unit {0})
    Bool Bool core_rule expr_rule nothing nothing nothing suffix_rule nothing declarator_rule nothing parameter_rule
    typename_rule

-- the expression has the form of a constant expression
abbrev pub has_form : Expr → Bool
has_form e = (written e).constant

-- the plain name that an expression is, also in parentheses
abbrev pub name_of : Expr → Option Name
name_of e = (written e).name

-- the string that an expression is, also in parentheses
abbrev pub string_of : Expr → Option (List ℕ)
string_of e = (written e).string

-- the name that a declarator declares, with its line
abbrev pub declared_name : Declarator → Option (ℕ × Name)
declared_name d = (declared d).name

-- whether a cspec or vspec is written in a declarator
abbrev pub is_staged : Declarator → Bool
is_staged d = (declared d).staged

abbrev pub any_staged_suffix : List Suffix → Bool
any_staged_suffix [] = false
any_staged_suffix (s ∷ ss) = is_staged_suffix s || any_staged_suffix ss

abbrev pub any_staged_parameter : List Parameter → Bool
any_staged_parameter [] = false
any_staged_parameter (p ∷ ps) = is_staged_parameter p || any_staged_parameter ps

-- a name that is lent, with its line
abbrev pub lent : Option (ℕ × Bor Name) → Option (ℕ × Name)
lent None = None
lent (Some p) = Some (p.0, p.1.now)
