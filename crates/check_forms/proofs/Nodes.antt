-- What is asked of each node, by what is asked of its parts.
use Rattle.std.proofs.Common.{◌≡◌, ℕ, Bool, true, false, List, [], ◌∷◌, map, refl, ap, sym, ◌∙◌}
use Rattle.std.specs.Prelude.{◌&&◌, ◌||◌, Option, Some, None}
use Rattle.tick_tree.specs.declared.base.BinaryOp.{BinaryOp}
use Rattle.tick_tree.specs.declared.base.ModifyOp.{ModifyOp}
use Rattle.tick_tree.specs.declared.base.StepOp.{StepOp}
use Rattle.tick_tree.specs.declared.base.UnaryOp.{UnaryOp}
use Rattle.tick_tree.specs.declared.syntax.Core.{Core}
use Rattle.tick_tree.specs.declared.syntax.Core.TheVariants as core_of
use Rattle.tick_tree.specs.declared.syntax.Declarator.{Declarator, out-Declarator}
use Rattle.tick_tree.specs.declared.syntax.Expr.{Expr}
use Rattle.tick_tree.specs.declared.syntax.Expr.TheVariants as e
use Rattle.tick_tree.specs.declared.syntax.Stmt.{Stmt}
use Rattle.tick_tree.specs.declared.syntax.OptionalExpr.{OptionalExpr}
use Rattle.tick_tree.specs.declared.syntax.Parameter.{Parameter, out-Parameter}
use Rattle.tick_tree.specs.declared.syntax.Suffix.{Suffix}
use Rattle.tick_tree.specs.declared.syntax.Suffix.TheVariants as sx
use Rattle.tick_tree.specs.declared.syntax.Typename.{Typename, out-Typename}
use Rattle.tick_tree.specs.declared.syntax.Core.TheFolds.{fold-roll-Core, fold-roll-Expr, fold-roll-Suffix}
use Rattle.tick_tree.specs.declared.syntax.Core.TheFolds.{fold_out-Declarator, fold_out-Parameter, fold_out-Typename}
use Rattle.tick_tree.specs.declared.syntax.Core.TheOpen.{Core-F, Expr-F, Suffix-F}
use Rattle.check_forms.specs.Forms.{Name, Written, Declared, written, declared, declared_core, is_integer_name}
use Rattle.check_forms.specs.Forms.{core_rule, expr_rule, declarator_rule, typename_rule, suffix_rule, parameter_rule}
use Rattle.check_forms.specs.Forms.{is_staged_suffix, is_staged_parameter, any, any_staged_prefix, any_staged_suffix}
use Rattle.check_forms.specs.Forms.{any_staged_parameter, nothing, nameless, is_nil, is_some_type}

nil_map : {A B : Type 0} → (f : A → B) (xs : List A) → is_nil (map f xs) ≡ is_nil xs
nil_map f [] = refl
nil_map f (x ∷ xs) = refl

pub at_name : (n : ℕ) (x : List ℕ) → written (e.Name n x) ≡ expr_rule (Expr-F.Expr::Name n x)
unfolding written declared declared_core is_staged_suffix is_staged_parameter is_integer_name
at_name n x = ap written (sym (e.rolls-Name n x)) ∙
    fold-roll-Expr Declared Written (Unit {0}) (Unit {0}) (Unit {0}) Bool (Unit {0}) Declared (Unit {0}) Bool Bool
    core_rule expr_rule nothing nothing nothing suffix_rule nothing declarator_rule nothing parameter_rule typename_rule
    (Expr-F.Expr::Name n x)

pub at_number : (n : ℕ) (u : Bool) → written (e.Number n u) ≡ expr_rule (Expr-F.Number n u)
unfolding written declared declared_core is_staged_suffix is_staged_parameter is_integer_name
at_number n u = ap written (sym (e.rolls-Number n u)) ∙
    fold-roll-Expr Declared Written (Unit {0}) (Unit {0}) (Unit {0}) Bool (Unit {0}) Declared (Unit {0}) Bool Bool
    core_rule expr_rule nothing nothing nothing suffix_rule nothing declarator_rule nothing parameter_rule typename_rule
    (Expr-F.Number n u)

pub at_character : (n : ℕ) → written (e.Character n) ≡ expr_rule (Expr-F.Character n)
unfolding written declared declared_core is_staged_suffix is_staged_parameter is_integer_name
at_character n = ap written (sym (e.rolls-Character n)) ∙
    fold-roll-Expr Declared Written (Unit {0}) (Unit {0}) (Unit {0}) Bool (Unit {0}) Declared (Unit {0}) Bool Bool
    core_rule expr_rule nothing nothing nothing suffix_rule nothing declarator_rule nothing parameter_rule typename_rule
    (Expr-F.Character n)

pub at_string : (x : List ℕ) → written (e.String x) ≡ expr_rule (Expr-F.String x)
unfolding written declared declared_core is_staged_suffix is_staged_parameter is_integer_name
at_string x = ap written (sym (e.rolls-String x)) ∙
    fold-roll-Expr Declared Written (Unit {0}) (Unit {0}) (Unit {0}) Bool (Unit {0}) Declared (Unit {0}) Bool Bool
    core_rule expr_rule nothing nothing nothing suffix_rule nothing declarator_rule nothing parameter_rule typename_rule
    (Expr-F.String x)

pub at_paren : (a : Expr) → written (e.Paren a) ≡ expr_rule (Expr-F.Expr::Paren (written a))
unfolding written declared declared_core is_staged_suffix is_staged_parameter is_integer_name
at_paren a = ap written (sym (e.rolls-Paren a)) ∙
    fold-roll-Expr Declared Written (Unit {0}) (Unit {0}) (Unit {0}) Bool (Unit {0}) Declared (Unit {0}) Bool Bool
    core_rule expr_rule nothing nothing nothing suffix_rule nothing declarator_rule nothing parameter_rule typename_rule
    (Expr-F.Expr::Paren a)

pub at_compile : (n : ℕ) (a : Expr) (t : Typename) →
    written (e.Compile n a t) ≡ expr_rule (Expr-F.Compile n (written a) (is_integer_name t))
unfolding written declared declared_core is_staged_suffix is_staged_parameter is_integer_name
at_compile n a t = ap written (sym (e.rolls-Compile n a t)) ∙
    fold-roll-Expr Declared Written (Unit {0}) (Unit {0}) (Unit {0}) Bool (Unit {0}) Declared (Unit {0}) Bool Bool
    core_rule expr_rule nothing nothing nothing suffix_rule nothing declarator_rule nothing parameter_rule typename_rule
    (Expr-F.Compile n a t)

pub at_local : (n : ℕ) (t : Typename) → written (e.Local n t) ≡ expr_rule (Expr-F.Expr::Local n (is_integer_name t))
unfolding written declared declared_core is_staged_suffix is_staged_parameter is_integer_name
at_local n t = ap written (sym (e.rolls-Local n t)) ∙
    fold-roll-Expr Declared Written (Unit {0}) (Unit {0}) (Unit {0}) Bool (Unit {0}) Declared (Unit {0}) Bool Bool
    core_rule expr_rule nothing nothing nothing suffix_rule nothing declarator_rule nothing parameter_rule typename_rule
    (Expr-F.Expr::Local n t)

pub at_param : (n : ℕ) (t : Typename) (a : Expr) →
    written (e.Param n t a) ≡ expr_rule (Expr-F.Param n (is_integer_name t) (written a))
unfolding written declared declared_core is_staged_suffix is_staged_parameter is_integer_name
at_param n t a = ap written (sym (e.rolls-Param n t a)) ∙
    fold-roll-Expr Declared Written (Unit {0}) (Unit {0}) (Unit {0}) Bool (Unit {0}) Declared (Unit {0}) Bool Bool
    core_rule expr_rule nothing nothing nothing suffix_rule nothing declarator_rule nothing parameter_rule typename_rule
    (Expr-F.Param n t a)

pub at_index : (n : ℕ) (p : Expr × Expr) → written (e.Index n p) ≡ expr_rule (Expr-F.Index n (written p.0, written p.1))
unfolding written declared declared_core is_staged_suffix is_staged_parameter is_integer_name
at_index n p = ap written (sym (e.rolls-Index n p)) ∙
    fold-roll-Expr Declared Written (Unit {0}) (Unit {0}) (Unit {0}) Bool (Unit {0}) Declared (Unit {0}) Bool Bool
    core_rule expr_rule nothing nothing nothing suffix_rule nothing declarator_rule nothing parameter_rule typename_rule
    (Expr-F.Index n p)

pub at_call : (n : ℕ) (a : Expr) (xs : List Expr) → written (e.Call n a xs) ≡ nameless false
unfolding written declared declared_core is_staged_suffix is_staged_parameter is_integer_name
at_call n a xs = ap written (sym (e.rolls-Call n a xs)) ∙
    fold-roll-Expr Declared Written (Unit {0}) (Unit {0}) (Unit {0}) Bool (Unit {0}) Declared (Unit {0}) Bool Bool
    core_rule expr_rule nothing nothing nothing suffix_rule nothing declarator_rule nothing parameter_rule typename_rule
    (Expr-F.Call n a xs)

pub at_step : (n : ℕ) (o : StepOp) (a : Expr) → written (e.Step n o a) ≡ expr_rule (Expr-F.Step n o (written a))
unfolding written declared declared_core is_staged_suffix is_staged_parameter is_integer_name
at_step n o a = ap written (sym (e.rolls-Step n o a)) ∙
    fold-roll-Expr Declared Written (Unit {0}) (Unit {0}) (Unit {0}) Bool (Unit {0}) Declared (Unit {0}) Bool Bool
    core_rule expr_rule nothing nothing nothing suffix_rule nothing declarator_rule nothing parameter_rule typename_rule
    (Expr-F.Step n o a)

pub at_unary : (n : ℕ) (o : UnaryOp) (a : Expr) → written (e.Unary n o a) ≡ expr_rule (Expr-F.Unary n o (written a))
unfolding written declared declared_core is_staged_suffix is_staged_parameter is_integer_name
at_unary n o a = ap written (sym (e.rolls-Unary n o a)) ∙
    fold-roll-Expr Declared Written (Unit {0}) (Unit {0}) (Unit {0}) Bool (Unit {0}) Declared (Unit {0}) Bool Bool
    core_rule expr_rule nothing nothing nothing suffix_rule nothing declarator_rule nothing parameter_rule typename_rule
    (Expr-F.Unary n o a)

pub at_tick : (n : ℕ) (a : Expr) → written (e.Tick n a) ≡ expr_rule (Expr-F.Tick n (written a))
unfolding written declared declared_core is_staged_suffix is_staged_parameter is_integer_name
at_tick n a = ap written (sym (e.rolls-Tick n a)) ∙
    fold-roll-Expr Declared Written (Unit {0}) (Unit {0}) (Unit {0}) Bool (Unit {0}) Declared (Unit {0}) Bool Bool
    core_rule expr_rule nothing nothing nothing suffix_rule nothing declarator_rule nothing parameter_rule typename_rule
    (Expr-F.Tick n a)

pub at_tickblock : (n : ℕ) (ss : List Stmt) → written (e.TickBlock n ss) ≡ nameless false
unfolding written declared declared_core is_staged_suffix is_staged_parameter is_integer_name
at_tickblock n ss = ap written (sym (e.rolls-TickBlock n ss)) ∙
    fold-roll-Expr Declared Written (Unit {0}) (Unit {0}) (Unit {0}) Bool (Unit {0}) Declared (Unit {0}) Bool Bool
    core_rule expr_rule nothing nothing nothing suffix_rule nothing declarator_rule nothing parameter_rule typename_rule
    (Expr-F.TickBlock n ss)

pub at_cast : (n : ℕ) (t : Typename) (a : Expr) →
    written (e.Cast n t a) ≡ expr_rule (Expr-F.Cast n (is_integer_name t) (written a))
unfolding written declared declared_core is_staged_suffix is_staged_parameter is_integer_name
at_cast n t a = ap written (sym (e.rolls-Cast n t a)) ∙
    fold-roll-Expr Declared Written (Unit {0}) (Unit {0}) (Unit {0}) Bool (Unit {0}) Declared (Unit {0}) Bool Bool
    core_rule expr_rule nothing nothing nothing suffix_rule nothing declarator_rule nothing parameter_rule typename_rule
    (Expr-F.Cast n t a)

pub at_sizeof : (n : ℕ) (t : Typename) → written (e.Sizeof n t) ≡ expr_rule (Expr-F.Sizeof n (is_integer_name t))
unfolding written declared declared_core is_staged_suffix is_staged_parameter is_integer_name
at_sizeof n t = ap written (sym (e.rolls-Sizeof n t)) ∙
    fold-roll-Expr Declared Written (Unit {0}) (Unit {0}) (Unit {0}) Bool (Unit {0}) Declared (Unit {0}) Bool Bool
    core_rule expr_rule nothing nothing nothing suffix_rule nothing declarator_rule nothing parameter_rule typename_rule
    (Expr-F.Sizeof n t)

pub at_binary : (n : ℕ) (o : BinaryOp) (p : Expr × Expr) →
    written (e.Binary n o p) ≡ expr_rule (Expr-F.Binary n o (written p.0, written p.1))
unfolding written declared declared_core is_staged_suffix is_staged_parameter is_integer_name
at_binary n o p = ap written (sym (e.rolls-Binary n o p)) ∙
    fold-roll-Expr Declared Written (Unit {0}) (Unit {0}) (Unit {0}) Bool (Unit {0}) Declared (Unit {0}) Bool Bool
    core_rule expr_rule nothing nothing nothing suffix_rule nothing declarator_rule nothing parameter_rule typename_rule
    (Expr-F.Binary n o p)

pub at_choice : (n : ℕ) (a : Expr) (c : Expr) (d : Expr) →
    written (e.Choice n a c d) ≡ expr_rule (Expr-F.Choice n (written a) (written c) (written d))
unfolding written declared declared_core is_staged_suffix is_staged_parameter is_integer_name
at_choice n a c d = ap written (sym (e.rolls-Choice n a c d)) ∙
    fold-roll-Expr Declared Written (Unit {0}) (Unit {0}) (Unit {0}) Bool (Unit {0}) Declared (Unit {0}) Bool Bool
    core_rule expr_rule nothing nothing nothing suffix_rule nothing declarator_rule nothing parameter_rule typename_rule
    (Expr-F.Choice n a c d)

pub at_assign : (n : ℕ) (p : Expr × Expr) →
    written (e.Assign n p) ≡ expr_rule (Expr-F.Assign n (written p.0, written p.1))
unfolding written declared declared_core is_staged_suffix is_staged_parameter is_integer_name
at_assign n p = ap written (sym (e.rolls-Assign n p)) ∙
    fold-roll-Expr Declared Written (Unit {0}) (Unit {0}) (Unit {0}) Bool (Unit {0}) Declared (Unit {0}) Bool Bool
    core_rule expr_rule nothing nothing nothing suffix_rule nothing declarator_rule nothing parameter_rule typename_rule
    (Expr-F.Assign n p)

pub at_modify : (n : ℕ) (o : ModifyOp) (p : Expr × Expr) →
    written (e.Modify n o p) ≡ expr_rule (Expr-F.Modify n o (written p.0, written p.1))
unfolding written declared declared_core is_staged_suffix is_staged_parameter is_integer_name
at_modify n o p = ap written (sym (e.rolls-Modify n o p)) ∙
    fold-roll-Expr Declared Written (Unit {0}) (Unit {0}) (Unit {0}) Bool (Unit {0}) Declared (Unit {0}) Bool Bool
    core_rule expr_rule nothing nothing nothing suffix_rule nothing declarator_rule nothing parameter_rule typename_rule
    (Expr-F.Modify n o p)

pub at_comma : (n : ℕ) (p : Expr × Expr) → written (e.Comma n p) ≡ expr_rule (Expr-F.Comma n (written p.0, written p.1))
unfolding written declared declared_core is_staged_suffix is_staged_parameter is_integer_name
at_comma n p = ap written (sym (e.rolls-Comma n p)) ∙
    fold-roll-Expr Declared Written (Unit {0}) (Unit {0}) (Unit {0}) Bool (Unit {0}) Declared (Unit {0}) Bool Bool
    core_rule expr_rule nothing nothing nothing suffix_rule nothing declarator_rule nothing parameter_rule typename_rule
    (Expr-F.Comma n p)

pub core_absent : declared_core core_of.Absent ≡ core_rule Core-F.Core::Absent
unfolding written declared declared_core is_staged_suffix is_staged_parameter is_integer_name
core_absent = ap declared_core (sym core_of.rolls-Absent) ∙
    fold-roll-Core Declared Written (Unit {0}) (Unit {0}) (Unit {0}) Bool (Unit {0}) Declared (Unit {0}) Bool Bool
    core_rule expr_rule nothing nothing nothing suffix_rule nothing declarator_rule nothing parameter_rule typename_rule
    Core-F.Core::Absent

pub core_name : (n : ℕ) (x : List ℕ) → declared_core (core_of.Name n x) ≡ core_rule (Core-F.Core::Name n x)
unfolding written declared declared_core is_staged_suffix is_staged_parameter is_integer_name
core_name n x = ap declared_core (sym (core_of.rolls-Name n x)) ∙
    fold-roll-Core Declared Written (Unit {0}) (Unit {0}) (Unit {0}) Bool (Unit {0}) Declared (Unit {0}) Bool Bool
    core_rule expr_rule nothing nothing nothing suffix_rule nothing declarator_rule nothing parameter_rule typename_rule
    (Core-F.Core::Name n x)

pub core_paren : (d : Declarator) → declared_core (core_of.Paren d) ≡ core_rule (Core-F.Core::Paren (declared d))
unfolding written declared declared_core is_staged_suffix is_staged_parameter is_integer_name
core_paren d = ap declared_core (sym (core_of.rolls-Paren d)) ∙
    fold-roll-Core Declared Written (Unit {0}) (Unit {0}) (Unit {0}) Bool (Unit {0}) Declared (Unit {0}) Bool Bool
    core_rule expr_rule nothing nothing nothing suffix_rule nothing declarator_rule nothing parameter_rule typename_rule
    (Core-F.Core::Paren d)

suffixes_staged : (ss : List Suffix) → any (map is_staged_suffix ss) ≡ any_staged_suffix ss
suffixes_staged [] = refl
suffixes_staged (s ∷ ss) = ap (λ b. is_staged_suffix s || b) (suffixes_staged ss)

parameters_staged : (ps : List Parameter) → any (map is_staged_parameter ps) ≡ any_staged_parameter ps
parameters_staged [] = refl
parameters_staged (p ∷ ps) = ap (λ b. is_staged_parameter p || b) (parameters_staged ps)

-- what a declarator is by its parts
opened_declarator : (d : Declarator) → declared d ≡ record {
  plain = is_nil (out-Declarator d).prefixes && (declared_core (out-Declarator d).core).plain && is_nil
      (map is_staged_suffix (out-Declarator d).suffixes);
  name = (declared_core (out-Declarator d).core).name;
  staged = any_staged_prefix (out-Declarator d).prefixes || (declared_core (out-Declarator d).core).staged || any
      (map is_staged_suffix (out-Declarator d).suffixes);
}
unfolding written declared declared_core is_staged_suffix is_staged_parameter is_integer_name
opened_declarator d = fold_out-Declarator Declared Written (Unit {0}) (Unit {0}) (Unit {0}) Bool (Unit {0}) Declared
    (Unit {0}) Bool Bool core_rule expr_rule nothing nothing nothing suffix_rule nothing declarator_rule nothing
    parameter_rule typename_rule d

-- a declarator is plain by its parts
pub by_declarator : (r : Bool) (d : Declarator) →
    r ≡ (is_nil (out-Declarator d).prefixes && (declared_core (out-Declarator d).core).plain && is_nil
    (out-Declarator d).suffixes) → r ≡ (declared d).plain
by_declarator r d h =
    h ∙ ap (λ z. is_nil (out-Declarator d).prefixes && (declared_core (out-Declarator d).core).plain && z)
    (sym (nil_map is_staged_suffix (out-Declarator d).suffixes))
    ∙ ap (λ x. x.plain) (sym (opened_declarator d))

-- a cspec or vspec is written in a declarator where it is in its parts
pub staged_declarator : (r : Bool) (d : Declarator) →
    r ≡ (any_staged_prefix (out-Declarator d).prefixes || (declared_core (out-Declarator d).core).staged ||
    any_staged_suffix (out-Declarator d).suffixes) → r ≡ (declared d).staged
staged_declarator r d h =
    h ∙ ap (λ z. any_staged_prefix (out-Declarator d).prefixes || (declared_core (out-Declarator d).core).staged || z)
    (sym (suffixes_staged (out-Declarator d).suffixes))
    ∙ ap (λ x. x.staged) (sym (opened_declarator d))

-- a declarator's name is that of its inner part
pub name_by_core : (r : Option (ℕ × Name)) (d : Declarator) → r ≡ (declared_core (out-Declarator d).core).name →
    r ≡ (declared d).name
name_by_core r d h = h ∙ ap (λ x. x.name) (sym (opened_declarator d))

-- and in a parameter where it is in its declarator
pub staged_parameter : (r : Bool) (p : Parameter) → r ≡ (declared (out-Parameter p).declarator).staged →
    r ≡ is_staged_parameter p
unfolding written declared declared_core is_staged_suffix is_staged_parameter is_integer_name
staged_parameter r p h = h ∙
    sym (fold_out-Parameter Declared Written (Unit {0}) (Unit {0}) (Unit {0}) Bool (Unit {0}) Declared (Unit {0}) Bool
    Bool core_rule expr_rule nothing nothing nothing suffix_rule nothing declarator_rule nothing parameter_rule
    typename_rule p)

pub suffix_array : (e : OptionalExpr) → is_staged_suffix (sx.Array e) ≡ false
unfolding written declared declared_core is_staged_suffix is_staged_parameter is_integer_name
suffix_array e = ap is_staged_suffix (sym (sx.rolls-Array e)) ∙
    fold-roll-Suffix Declared Written (Unit {0}) (Unit {0}) (Unit {0}) Bool (Unit {0}) Declared (Unit {0}) Bool Bool
    core_rule expr_rule nothing nothing nothing suffix_rule nothing declarator_rule nothing parameter_rule typename_rule
    (Suffix-F.Array e)

pub suffix_unlisted : is_staged_suffix sx.Unlisted ≡ false
unfolding written declared declared_core is_staged_suffix is_staged_parameter is_integer_name
suffix_unlisted = ap is_staged_suffix (sym sx.rolls-Unlisted) ∙
    fold-roll-Suffix Declared Written (Unit {0}) (Unit {0}) (Unit {0}) Bool (Unit {0}) Declared (Unit {0}) Bool Bool
    core_rule expr_rule nothing nothing nothing suffix_rule nothing declarator_rule nothing parameter_rule typename_rule
    Suffix-F.Unlisted

pub suffix_nothing : is_staged_suffix sx.Nothing ≡ false
unfolding written declared declared_core is_staged_suffix is_staged_parameter is_integer_name
suffix_nothing = ap is_staged_suffix (sym sx.rolls-Nothing) ∙
    fold-roll-Suffix Declared Written (Unit {0}) (Unit {0}) (Unit {0}) Bool (Unit {0}) Declared (Unit {0}) Bool Bool
    core_rule expr_rule nothing nothing nothing suffix_rule nothing declarator_rule nothing parameter_rule typename_rule
    Suffix-F.Nothing

pub suffix_listed : (ps : List Parameter) → is_staged_suffix (sx.Listed ps) ≡ any_staged_parameter ps
unfolding written declared declared_core is_staged_suffix is_staged_parameter is_integer_name
suffix_listed ps = ap is_staged_suffix (sym (sx.rolls-Listed ps)) ∙
    fold-roll-Suffix Declared Written (Unit {0}) (Unit {0}) (Unit {0}) Bool (Unit {0}) Declared (Unit {0}) Bool Bool
    core_rule expr_rule nothing nothing nothing suffix_rule nothing declarator_rule nothing parameter_rule typename_rule
    (Suffix-F.Listed ps) ∙ parameters_staged ps

-- a type name is that of an integer by its parts
pub by_typename : (r : Bool) (t : Typename) →
    r ≡ (is_some_type (out-Typename t).base && (declared (out-Typename t).declarator).plain) → r ≡ is_integer_name t
unfolding written declared declared_core is_staged_suffix is_staged_parameter is_integer_name
by_typename r t h = h ∙ sym
    (fold_out-Typename Declared Written (Unit {0}) (Unit {0}) (Unit {0}) Bool (Unit {0}) Declared (Unit {0}) Bool Bool
    core_rule expr_rule nothing nothing nothing suffix_rule nothing declarator_rule nothing parameter_rule typename_rule
    t)

pub ruleset expressions = (
  at_name,
  at_number,
  at_character,
  at_string,
  at_paren,
  at_compile,
  at_local,
  at_param,
  at_index,
  at_call,
  at_step,
  at_unary,
  at_tick,
  at_tickblock,
  at_cast,
  at_sizeof,
  at_binary,
  at_choice,
  at_assign,
  at_modify,
  at_comma,
)

pub ruleset suffixes = (suffix_array, suffix_unlisted, suffix_nothing, suffix_listed)

pub ruleset cores = (core_absent, core_name, core_paren)
