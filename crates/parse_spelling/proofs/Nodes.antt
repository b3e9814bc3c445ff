-- What each node spells, by what its parts spell.
use Rattle.std.proofs.Common.{◌≡◌, ℕ, Bool, List, map, ap, sym, ◌∙◌}
use Rattle.tick_tree.specs.declared.base.Base.{Base}
use Rattle.tick_tree.specs.declared.base.Prefix.{Prefix}
use Rattle.tick_tree.specs.declared.base.BinaryOp.{BinaryOp}
use Rattle.tick_tree.specs.declared.base.ModifyOp.{ModifyOp}
use Rattle.tick_tree.specs.declared.base.StepOp.{StepOp}
use Rattle.tick_tree.specs.declared.base.UnaryOp.{UnaryOp}
use Rattle.tick_tree.specs.declared.syntax.Core.{Core}
use Rattle.tick_tree.specs.declared.syntax.Core.TheVariants as core_of
use Rattle.tick_tree.specs.declared.syntax.Declaration.{Declaration, roll-Declaration}
use Rattle.tick_tree.specs.declared.syntax.Declarator.{Declarator, roll-Declarator}
use Rattle.tick_tree.specs.declared.syntax.Expr.{Expr}
use Rattle.tick_tree.specs.declared.syntax.Expr.TheVariants as e
use Rattle.tick_tree.specs.declared.syntax.Init.{Init, roll-Init}
use Rattle.tick_tree.specs.declared.syntax.Initializer.{Initializer}
use Rattle.tick_tree.specs.declared.syntax.Initializer.TheVariants as initializer_of
use Rattle.tick_tree.specs.declared.syntax.OptionalExpr.{OptionalExpr}
use Rattle.tick_tree.specs.declared.syntax.OptionalExpr.TheVariants as maybe
use Rattle.tick_tree.specs.declared.syntax.Parameter.{Parameter, roll-Parameter}
use Rattle.tick_tree.specs.declared.syntax.Stmt.{Stmt}
use Rattle.tick_tree.specs.declared.syntax.Stmt.TheVariants as s
use Rattle.tick_tree.specs.declared.syntax.Suffix.{Suffix}
use Rattle.tick_tree.specs.declared.syntax.Suffix.TheVariants as suffix_of
use Rattle.tick_tree.specs.declared.syntax.Typename.{Typename, roll-Typename}
use Rattle.tick_tree.specs.declared.syntax.Core.TheFolds.{fold-roll-Core, fold-roll-Declaration, fold-roll-Declarator}
use Rattle.tick_tree.specs.declared.syntax.Core.TheFolds.{fold-roll-Expr, fold-roll-Init, fold-roll-Initializer}
use Rattle.tick_tree.specs.declared.syntax.Core.TheFolds.{fold-roll-OptionalExpr, fold-roll-Parameter, fold-roll-Stmt}
use Rattle.tick_tree.specs.declared.syntax.Core.TheFolds.{fold-roll-Suffix, fold-roll-Typename}
use Rattle.tick_tree.specs.declared.syntax.Core.TheOpen.{Core-F, Expr-F, Initializer-F, OptionalExpr-F, Stmt-F}
use Rattle.tick_tree.specs.declared.syntax.Core.TheOpen.{Suffix-F}
use Rattle.parse_spelling.specs.Words.{Words}
use Rattle.parse_spelling.specs.Spelling.{Spelling, core_rule, expr_rule, initializer_rule, optional_rule, stmt_rule}
use Rattle.parse_spelling.specs.Spelling.{suffix_rule, declaration_rule, declarator_rule, init_rule, parameter_rule}
use Rattle.parse_spelling.specs.Spelling.{typename_rule, spells_core, spells_declaration, spells_declarator}
use Rattle.parse_spelling.specs.Spelling.{spells_expr, spells_init, spells_initializer, spells_optional}
use Rattle.parse_spelling.specs.Spelling.{spells_parameter, spells_stmt, spells_suffix, spells_typename}

pub at_expr_name : (n : ℕ) (tx : List ℕ) (w : Words) →
    spells_expr (e.Name n tx) w ≡ expr_rule (Expr-F.Expr::Name n tx) w
unfolding spells_core spells_declaration spells_declarator spells_expr spells_init spells_initializer spells_optional
    spells_parameter spells_stmt spells_suffix spells_typename
at_expr_name n tx w = ap (λ f. f w)
    (ap spells_expr (sym (e.rolls-Name n tx)) ∙
    fold-roll-Expr Spelling Spelling Spelling Spelling Spelling Spelling Spelling Spelling Spelling Spelling Spelling
    core_rule expr_rule initializer_rule optional_rule stmt_rule suffix_rule declaration_rule declarator_rule init_rule
    parameter_rule typename_rule (Expr-F.Expr::Name n tx))

pub at_expr_number : (n : ℕ) (bo : Bool) (w : Words) → spells_expr (e.Number n bo) w ≡ expr_rule (Expr-F.Number n bo) w
unfolding spells_core spells_declaration spells_declarator spells_expr spells_init spells_initializer spells_optional
    spells_parameter spells_stmt spells_suffix spells_typename
at_expr_number n bo w = ap (λ f. f w)
    (ap spells_expr (sym (e.rolls-Number n bo)) ∙
    fold-roll-Expr Spelling Spelling Spelling Spelling Spelling Spelling Spelling Spelling Spelling Spelling Spelling
    core_rule expr_rule initializer_rule optional_rule stmt_rule suffix_rule declaration_rule declarator_rule init_rule
    parameter_rule typename_rule (Expr-F.Number n bo))

pub at_expr_character : (n : ℕ) (w : Words) → spells_expr (e.Character n) w ≡ expr_rule (Expr-F.Character n) w
unfolding spells_core spells_declaration spells_declarator spells_expr spells_init spells_initializer spells_optional
    spells_parameter spells_stmt spells_suffix spells_typename
at_expr_character n w = ap (λ f. f w)
    (ap spells_expr (sym (e.rolls-Character n)) ∙
    fold-roll-Expr Spelling Spelling Spelling Spelling Spelling Spelling Spelling Spelling Spelling Spelling Spelling
    core_rule expr_rule initializer_rule optional_rule stmt_rule suffix_rule declaration_rule declarator_rule init_rule
    parameter_rule typename_rule (Expr-F.Character n))

pub at_expr_string : (tx : List ℕ) (w : Words) → spells_expr (e.String tx) w ≡ expr_rule (Expr-F.String tx) w
unfolding spells_core spells_declaration spells_declarator spells_expr spells_init spells_initializer spells_optional
    spells_parameter spells_stmt spells_suffix spells_typename
at_expr_string tx w = ap (λ f. f w)
    (ap spells_expr (sym (e.rolls-String tx)) ∙
    fold-roll-Expr Spelling Spelling Spelling Spelling Spelling Spelling Spelling Spelling Spelling Spelling Spelling
    core_rule expr_rule initializer_rule optional_rule stmt_rule suffix_rule declaration_rule declarator_rule init_rule
    parameter_rule typename_rule (Expr-F.String tx))

pub at_expr_paren : (x : Expr) (w : Words) →
    spells_expr (e.Paren x) w ≡ expr_rule (Expr-F.Expr::Paren (spells_expr x)) w
unfolding spells_core spells_declaration spells_declarator spells_expr spells_init spells_initializer spells_optional
    spells_parameter spells_stmt spells_suffix spells_typename
at_expr_paren x w = ap (λ f. f w)
    (ap spells_expr (sym (e.rolls-Paren x)) ∙
    fold-roll-Expr Spelling Spelling Spelling Spelling Spelling Spelling Spelling Spelling Spelling Spelling Spelling
    core_rule expr_rule initializer_rule optional_rule stmt_rule suffix_rule declaration_rule declarator_rule init_rule
    parameter_rule typename_rule (Expr-F.Expr::Paren x))

pub at_expr_compile : (n : ℕ) (x : Expr) (t : Typename) (w : Words) →
    spells_expr (e.Compile n x t) w ≡ expr_rule (Expr-F.Compile n (spells_expr x) (spells_typename t)) w
unfolding spells_core spells_declaration spells_declarator spells_expr spells_init spells_initializer spells_optional
    spells_parameter spells_stmt spells_suffix spells_typename
at_expr_compile n x t w =
    ap (λ f. f w) (ap spells_expr (sym (e.rolls-Compile n x t)) ∙
    fold-roll-Expr Spelling Spelling Spelling Spelling Spelling Spelling Spelling Spelling Spelling Spelling Spelling
    core_rule expr_rule initializer_rule optional_rule stmt_rule suffix_rule declaration_rule declarator_rule init_rule
    parameter_rule typename_rule (Expr-F.Compile n x t))

pub at_expr_local : (n : ℕ) (t : Typename) (w : Words) →
    spells_expr (e.Local n t) w ≡ expr_rule (Expr-F.Expr::Local n (spells_typename t)) w
unfolding spells_core spells_declaration spells_declarator spells_expr spells_init spells_initializer spells_optional
    spells_parameter spells_stmt spells_suffix spells_typename
at_expr_local n t w = ap (λ f. f w)
    (ap spells_expr (sym (e.rolls-Local n t)) ∙
    fold-roll-Expr Spelling Spelling Spelling Spelling Spelling Spelling Spelling Spelling Spelling Spelling Spelling
    core_rule expr_rule initializer_rule optional_rule stmt_rule suffix_rule declaration_rule declarator_rule init_rule
    parameter_rule typename_rule (Expr-F.Expr::Local n t))

pub at_expr_param : (n : ℕ) (t : Typename) (x : Expr) (w : Words) →
    spells_expr (e.Param n t x) w ≡ expr_rule (Expr-F.Param n (spells_typename t) (spells_expr x)) w
unfolding spells_core spells_declaration spells_declarator spells_expr spells_init spells_initializer spells_optional
    spells_parameter spells_stmt spells_suffix spells_typename
at_expr_param n t x w = ap (λ f. f w)
    (ap spells_expr (sym (e.rolls-Param n t x)) ∙
    fold-roll-Expr Spelling Spelling Spelling Spelling Spelling Spelling Spelling Spelling Spelling Spelling Spelling
    core_rule expr_rule initializer_rule optional_rule stmt_rule suffix_rule declaration_rule declarator_rule init_rule
    parameter_rule typename_rule (Expr-F.Param n t x))

pub at_expr_index : (n : ℕ) (p : Expr × Expr) (w : Words) →
    spells_expr (e.Index n p) w ≡ expr_rule (Expr-F.Index n (spells_expr p.0, spells_expr p.1)) w
unfolding spells_core spells_declaration spells_declarator spells_expr spells_init spells_initializer spells_optional
    spells_parameter spells_stmt spells_suffix spells_typename
at_expr_index n p w = ap (λ f. f w)
    (ap spells_expr (sym (e.rolls-Index n p)) ∙
    fold-roll-Expr Spelling Spelling Spelling Spelling Spelling Spelling Spelling Spelling Spelling Spelling Spelling
    core_rule expr_rule initializer_rule optional_rule stmt_rule suffix_rule declaration_rule declarator_rule init_rule
    parameter_rule typename_rule (Expr-F.Index n p))

pub at_expr_call : (n : ℕ) (x : Expr) (xs : List Expr) (w : Words) →
    spells_expr (e.Call n x xs) w ≡ expr_rule (Expr-F.Call n (spells_expr x) (map spells_expr xs)) w
unfolding spells_core spells_declaration spells_declarator spells_expr spells_init spells_initializer spells_optional
    spells_parameter spells_stmt spells_suffix spells_typename
at_expr_call n x xs w = ap (λ f. f w)
    (ap spells_expr (sym (e.rolls-Call n x xs)) ∙
    fold-roll-Expr Spelling Spelling Spelling Spelling Spelling Spelling Spelling Spelling Spelling Spelling Spelling
    core_rule expr_rule initializer_rule optional_rule stmt_rule suffix_rule declaration_rule declarator_rule init_rule
    parameter_rule typename_rule (Expr-F.Call n x xs))

pub at_expr_step : (n : ℕ) (so : StepOp) (x : Expr) (w : Words) →
    spells_expr (e.Step n so x) w ≡ expr_rule (Expr-F.Step n so (spells_expr x)) w
unfolding spells_core spells_declaration spells_declarator spells_expr spells_init spells_initializer spells_optional
    spells_parameter spells_stmt spells_suffix spells_typename
at_expr_step n so x w = ap (λ f. f w)
    (ap spells_expr (sym (e.rolls-Step n so x)) ∙
    fold-roll-Expr Spelling Spelling Spelling Spelling Spelling Spelling Spelling Spelling Spelling Spelling Spelling
    core_rule expr_rule initializer_rule optional_rule stmt_rule suffix_rule declaration_rule declarator_rule init_rule
    parameter_rule typename_rule (Expr-F.Step n so x))

pub at_expr_unary : (n : ℕ) (uo : UnaryOp) (x : Expr) (w : Words) →
    spells_expr (e.Unary n uo x) w ≡ expr_rule (Expr-F.Unary n uo (spells_expr x)) w
unfolding spells_core spells_declaration spells_declarator spells_expr spells_init spells_initializer spells_optional
    spells_parameter spells_stmt spells_suffix spells_typename
at_expr_unary n uo x w = ap (λ f. f w)
    (ap spells_expr (sym (e.rolls-Unary n uo x)) ∙
    fold-roll-Expr Spelling Spelling Spelling Spelling Spelling Spelling Spelling Spelling Spelling Spelling Spelling
    core_rule expr_rule initializer_rule optional_rule stmt_rule suffix_rule declaration_rule declarator_rule init_rule
    parameter_rule typename_rule (Expr-F.Unary n uo x))

pub at_expr_tick : (n : ℕ) (x : Expr) (w : Words) →
    spells_expr (e.Tick n x) w ≡ expr_rule (Expr-F.Tick n (spells_expr x)) w
unfolding spells_core spells_declaration spells_declarator spells_expr spells_init spells_initializer spells_optional
    spells_parameter spells_stmt spells_suffix spells_typename
at_expr_tick n x w = ap (λ f. f w)
    (ap spells_expr (sym (e.rolls-Tick n x)) ∙
    fold-roll-Expr Spelling Spelling Spelling Spelling Spelling Spelling Spelling Spelling Spelling Spelling Spelling
    core_rule expr_rule initializer_rule optional_rule stmt_rule suffix_rule declaration_rule declarator_rule init_rule
    parameter_rule typename_rule (Expr-F.Tick n x))

pub at_expr_tickblock : (n : ℕ) (ss : List Stmt) (w : Words) →
    spells_expr (e.TickBlock n ss) w ≡ expr_rule (Expr-F.TickBlock n (map spells_stmt ss)) w
unfolding spells_core spells_declaration spells_declarator spells_expr spells_init spells_initializer spells_optional
    spells_parameter spells_stmt spells_suffix spells_typename
at_expr_tickblock n ss w =
    ap (λ f. f w) (ap spells_expr (sym (e.rolls-TickBlock n ss)) ∙
    fold-roll-Expr Spelling Spelling Spelling Spelling Spelling Spelling Spelling Spelling Spelling Spelling Spelling
    core_rule expr_rule initializer_rule optional_rule stmt_rule suffix_rule declaration_rule declarator_rule init_rule
    parameter_rule typename_rule (Expr-F.TickBlock n ss))

pub at_expr_cast : (n : ℕ) (t : Typename) (x : Expr) (w : Words) →
    spells_expr (e.Cast n t x) w ≡ expr_rule (Expr-F.Cast n (spells_typename t) (spells_expr x)) w
unfolding spells_core spells_declaration spells_declarator spells_expr spells_init spells_initializer spells_optional
    spells_parameter spells_stmt spells_suffix spells_typename
at_expr_cast n t x w = ap (λ f. f w)
    (ap spells_expr (sym (e.rolls-Cast n t x)) ∙
    fold-roll-Expr Spelling Spelling Spelling Spelling Spelling Spelling Spelling Spelling Spelling Spelling Spelling
    core_rule expr_rule initializer_rule optional_rule stmt_rule suffix_rule declaration_rule declarator_rule init_rule
    parameter_rule typename_rule (Expr-F.Cast n t x))

pub at_expr_sizeof : (n : ℕ) (t : Typename) (w : Words) →
    spells_expr (e.Sizeof n t) w ≡ expr_rule (Expr-F.Sizeof n (spells_typename t)) w
unfolding spells_core spells_declaration spells_declarator spells_expr spells_init spells_initializer spells_optional
    spells_parameter spells_stmt spells_suffix spells_typename
at_expr_sizeof n t w = ap (λ f. f w)
    (ap spells_expr (sym (e.rolls-Sizeof n t)) ∙
    fold-roll-Expr Spelling Spelling Spelling Spelling Spelling Spelling Spelling Spelling Spelling Spelling Spelling
    core_rule expr_rule initializer_rule optional_rule stmt_rule suffix_rule declaration_rule declarator_rule init_rule
    parameter_rule typename_rule (Expr-F.Sizeof n t))

pub at_expr_binary : (n : ℕ) (bi : BinaryOp) (p : Expr × Expr) (w : Words) →
    spells_expr (e.Binary n bi p) w ≡ expr_rule (Expr-F.Binary n bi (spells_expr p.0, spells_expr p.1)) w
unfolding spells_core spells_declaration spells_declarator spells_expr spells_init spells_initializer spells_optional
    spells_parameter spells_stmt spells_suffix spells_typename
at_expr_binary n bi p w =
    ap (λ f. f w) (ap spells_expr (sym (e.rolls-Binary n bi p)) ∙
    fold-roll-Expr Spelling Spelling Spelling Spelling Spelling Spelling Spelling Spelling Spelling Spelling Spelling
    core_rule expr_rule initializer_rule optional_rule stmt_rule suffix_rule declaration_rule declarator_rule init_rule
    parameter_rule typename_rule (Expr-F.Binary n bi p))

pub at_expr_choice : (n : ℕ) (x : Expr) (y : Expr) (z : Expr) (w : Words) →
    spells_expr (e.Choice n x y z) w ≡ expr_rule (Expr-F.Choice n (spells_expr x) (spells_expr y) (spells_expr z)) w
unfolding spells_core spells_declaration spells_declarator spells_expr spells_init spells_initializer spells_optional
    spells_parameter spells_stmt spells_suffix spells_typename
at_expr_choice n x y z w =
    ap (λ f. f w) (ap spells_expr (sym (e.rolls-Choice n x y z)) ∙
    fold-roll-Expr Spelling Spelling Spelling Spelling Spelling Spelling Spelling Spelling Spelling Spelling Spelling
    core_rule expr_rule initializer_rule optional_rule stmt_rule suffix_rule declaration_rule declarator_rule init_rule
    parameter_rule typename_rule (Expr-F.Choice n x y z))

pub at_expr_assign : (n : ℕ) (p : Expr × Expr) (w : Words) →
    spells_expr (e.Assign n p) w ≡ expr_rule (Expr-F.Assign n (spells_expr p.0, spells_expr p.1)) w
unfolding spells_core spells_declaration spells_declarator spells_expr spells_init spells_initializer spells_optional
    spells_parameter spells_stmt spells_suffix spells_typename
at_expr_assign n p w = ap (λ f. f w)
    (ap spells_expr (sym (e.rolls-Assign n p)) ∙
    fold-roll-Expr Spelling Spelling Spelling Spelling Spelling Spelling Spelling Spelling Spelling Spelling Spelling
    core_rule expr_rule initializer_rule optional_rule stmt_rule suffix_rule declaration_rule declarator_rule init_rule
    parameter_rule typename_rule (Expr-F.Assign n p))

pub at_expr_modify : (n : ℕ) (mo : ModifyOp) (p : Expr × Expr) (w : Words) →
    spells_expr (e.Modify n mo p) w ≡ expr_rule (Expr-F.Modify n mo (spells_expr p.0, spells_expr p.1)) w
unfolding spells_core spells_declaration spells_declarator spells_expr spells_init spells_initializer spells_optional
    spells_parameter spells_stmt spells_suffix spells_typename
at_expr_modify n mo p w =
    ap (λ f. f w) (ap spells_expr (sym (e.rolls-Modify n mo p)) ∙
    fold-roll-Expr Spelling Spelling Spelling Spelling Spelling Spelling Spelling Spelling Spelling Spelling Spelling
    core_rule expr_rule initializer_rule optional_rule stmt_rule suffix_rule declaration_rule declarator_rule init_rule
    parameter_rule typename_rule (Expr-F.Modify n mo p))

pub at_expr_comma : (n : ℕ) (p : Expr × Expr) (w : Words) →
    spells_expr (e.Comma n p) w ≡ expr_rule (Expr-F.Comma n (spells_expr p.0, spells_expr p.1)) w
unfolding spells_core spells_declaration spells_declarator spells_expr spells_init spells_initializer spells_optional
    spells_parameter spells_stmt spells_suffix spells_typename
at_expr_comma n p w = ap (λ f. f w)
    (ap spells_expr (sym (e.rolls-Comma n p)) ∙
    fold-roll-Expr Spelling Spelling Spelling Spelling Spelling Spelling Spelling Spelling Spelling Spelling Spelling
    core_rule expr_rule initializer_rule optional_rule stmt_rule suffix_rule declaration_rule declarator_rule init_rule
    parameter_rule typename_rule (Expr-F.Comma n p))

pub at_optional_absent : (w : Words) →
    spells_optional maybe.Absent w ≡ optional_rule OptionalExpr-F.OptionalExpr::Absent w
unfolding spells_core spells_declaration spells_declarator spells_expr spells_init spells_initializer spells_optional
    spells_parameter spells_stmt spells_suffix spells_typename
at_optional_absent w = ap (λ f. f w)
    (ap spells_optional (sym maybe.rolls-Absent) ∙
    fold-roll-OptionalExpr Spelling Spelling Spelling Spelling Spelling Spelling Spelling Spelling Spelling Spelling
    Spelling core_rule expr_rule initializer_rule optional_rule stmt_rule suffix_rule declaration_rule declarator_rule
    init_rule parameter_rule typename_rule OptionalExpr-F.OptionalExpr::Absent)

pub at_optional_present : (x : Expr) (w : Words) →
    spells_optional (maybe.Present x) w ≡ optional_rule (OptionalExpr-F.Present (spells_expr x)) w
unfolding spells_core spells_declaration spells_declarator spells_expr spells_init spells_initializer spells_optional
    spells_parameter spells_stmt spells_suffix spells_typename
at_optional_present x w =
    ap (λ f. f w) (ap spells_optional (sym (maybe.rolls-Present x)) ∙
    fold-roll-OptionalExpr Spelling Spelling Spelling Spelling Spelling Spelling Spelling Spelling Spelling Spelling
    Spelling core_rule expr_rule initializer_rule optional_rule stmt_rule suffix_rule declaration_rule declarator_rule
    init_rule parameter_rule typename_rule (OptionalExpr-F.Present x))

pub at_core_absent : (w : Words) → spells_core core_of.Absent w ≡ core_rule Core-F.Core::Absent w
unfolding spells_core spells_declaration spells_declarator spells_expr spells_init spells_initializer spells_optional
    spells_parameter spells_stmt spells_suffix spells_typename
at_core_absent w = ap (λ f. f w)
    (ap spells_core (sym core_of.rolls-Absent) ∙
    fold-roll-Core Spelling Spelling Spelling Spelling Spelling Spelling Spelling Spelling Spelling Spelling Spelling
    core_rule expr_rule initializer_rule optional_rule stmt_rule suffix_rule declaration_rule declarator_rule init_rule
    parameter_rule typename_rule Core-F.Core::Absent)

pub at_core_name : (n : ℕ) (tx : List ℕ) (w : Words) →
    spells_core (core_of.Name n tx) w ≡ core_rule (Core-F.Core::Name n tx) w
unfolding spells_core spells_declaration spells_declarator spells_expr spells_init spells_initializer spells_optional
    spells_parameter spells_stmt spells_suffix spells_typename
at_core_name n tx w = ap (λ f. f w)
    (ap spells_core (sym (core_of.rolls-Name n tx)) ∙
    fold-roll-Core Spelling Spelling Spelling Spelling Spelling Spelling Spelling Spelling Spelling Spelling Spelling
    core_rule expr_rule initializer_rule optional_rule stmt_rule suffix_rule declaration_rule declarator_rule init_rule
    parameter_rule typename_rule (Core-F.Core::Name n tx))

pub at_core_paren : (d : Declarator) (w : Words) →
    spells_core (core_of.Paren d) w ≡ core_rule (Core-F.Core::Paren (spells_declarator d)) w
unfolding spells_core spells_declaration spells_declarator spells_expr spells_init spells_initializer spells_optional
    spells_parameter spells_stmt spells_suffix spells_typename
at_core_paren d w = ap (λ f. f w)
    (ap spells_core (sym (core_of.rolls-Paren d)) ∙
    fold-roll-Core Spelling Spelling Spelling Spelling Spelling Spelling Spelling Spelling Spelling Spelling Spelling
    core_rule expr_rule initializer_rule optional_rule stmt_rule suffix_rule declaration_rule declarator_rule init_rule
    parameter_rule typename_rule (Core-F.Core::Paren d))

pub at_suffix_array : (oe : OptionalExpr) (w : Words) →
    spells_suffix (suffix_of.Array oe) w ≡ suffix_rule (Suffix-F.Array (spells_optional oe)) w
unfolding spells_core spells_declaration spells_declarator spells_expr spells_init spells_initializer spells_optional
    spells_parameter spells_stmt spells_suffix spells_typename
at_suffix_array oe w = ap (λ f. f w)
    (ap spells_suffix (sym (suffix_of.rolls-Array oe)) ∙
    fold-roll-Suffix Spelling Spelling Spelling Spelling Spelling Spelling Spelling Spelling Spelling Spelling Spelling
    core_rule expr_rule initializer_rule optional_rule stmt_rule suffix_rule declaration_rule declarator_rule init_rule
    parameter_rule typename_rule (Suffix-F.Array oe))

pub at_suffix_unlisted : (w : Words) → spells_suffix suffix_of.Unlisted w ≡ suffix_rule Suffix-F.Unlisted w
unfolding spells_core spells_declaration spells_declarator spells_expr spells_init spells_initializer spells_optional
    spells_parameter spells_stmt spells_suffix spells_typename
at_suffix_unlisted w = ap (λ f. f w)
    (ap spells_suffix (sym suffix_of.rolls-Unlisted) ∙
    fold-roll-Suffix Spelling Spelling Spelling Spelling Spelling Spelling Spelling Spelling Spelling Spelling Spelling
    core_rule expr_rule initializer_rule optional_rule stmt_rule suffix_rule declaration_rule declarator_rule init_rule
    parameter_rule typename_rule Suffix-F.Unlisted)

pub at_suffix_nothing : (w : Words) → spells_suffix suffix_of.Nothing w ≡ suffix_rule Suffix-F.Nothing w
unfolding spells_core spells_declaration spells_declarator spells_expr spells_init spells_initializer spells_optional
    spells_parameter spells_stmt spells_suffix spells_typename
at_suffix_nothing w = ap (λ f. f w)
    (ap spells_suffix (sym suffix_of.rolls-Nothing) ∙
    fold-roll-Suffix Spelling Spelling Spelling Spelling Spelling Spelling Spelling Spelling Spelling Spelling Spelling
    core_rule expr_rule initializer_rule optional_rule stmt_rule suffix_rule declaration_rule declarator_rule init_rule
    parameter_rule typename_rule Suffix-F.Nothing)

pub at_suffix_listed : (ps : List Parameter) (w : Words) →
    spells_suffix (suffix_of.Listed ps) w ≡ suffix_rule (Suffix-F.Listed (map spells_parameter ps)) w
unfolding spells_core spells_declaration spells_declarator spells_expr spells_init spells_initializer spells_optional
    spells_parameter spells_stmt spells_suffix spells_typename
at_suffix_listed ps w = ap (λ f. f w)
    (ap spells_suffix (sym (suffix_of.rolls-Listed ps)) ∙
    fold-roll-Suffix Spelling Spelling Spelling Spelling Spelling Spelling Spelling Spelling Spelling Spelling Spelling
    core_rule expr_rule initializer_rule optional_rule stmt_rule suffix_rule declaration_rule declarator_rule init_rule
    parameter_rule typename_rule (Suffix-F.Listed ps))

pub at_initializer_absent : (w : Words) →
    spells_initializer initializer_of.Absent w ≡ initializer_rule Initializer-F.Initializer::Absent w
unfolding spells_core spells_declaration spells_declarator spells_expr spells_init spells_initializer spells_optional
    spells_parameter spells_stmt spells_suffix spells_typename
at_initializer_absent w =
    ap (λ f. f w) (ap spells_initializer (sym initializer_of.rolls-Absent) ∙
    fold-roll-Initializer Spelling Spelling Spelling Spelling Spelling Spelling Spelling Spelling Spelling Spelling
    Spelling core_rule expr_rule initializer_rule optional_rule stmt_rule suffix_rule declaration_rule declarator_rule
    init_rule parameter_rule typename_rule Initializer-F.Initializer::Absent)

pub at_initializer_value : (x : Expr) (w : Words) →
    spells_initializer (initializer_of.Value x) w ≡ initializer_rule (Initializer-F.Value (spells_expr x)) w
unfolding spells_core spells_declaration spells_declarator spells_expr spells_init spells_initializer spells_optional
    spells_parameter spells_stmt spells_suffix spells_typename
at_initializer_value x w =
    ap (λ f. f w) (ap spells_initializer (sym (initializer_of.rolls-Value x)) ∙
    fold-roll-Initializer Spelling Spelling Spelling Spelling Spelling Spelling Spelling Spelling Spelling Spelling
    Spelling core_rule expr_rule initializer_rule optional_rule stmt_rule suffix_rule declaration_rule declarator_rule
    init_rule parameter_rule typename_rule (Initializer-F.Value x))

pub at_initializer_list : (xs : List Expr) (bo : Bool) (w : Words) →
    spells_initializer (initializer_of.List xs bo) w ≡ initializer_rule (Initializer-F.List (map spells_expr xs) bo) w
unfolding spells_core spells_declaration spells_declarator spells_expr spells_init spells_initializer spells_optional
    spells_parameter spells_stmt spells_suffix spells_typename
at_initializer_list xs bo w =
    ap (λ f. f w) (ap spells_initializer (sym (initializer_of.rolls-List xs bo)) ∙
    fold-roll-Initializer Spelling Spelling Spelling Spelling Spelling Spelling Spelling Spelling Spelling Spelling
    Spelling core_rule expr_rule initializer_rule optional_rule stmt_rule suffix_rule declaration_rule declarator_rule
    init_rule parameter_rule typename_rule (Initializer-F.List xs bo))

pub at_stmt_empty : (w : Words) → spells_stmt s.Empty w ≡ stmt_rule Stmt-F.Empty w
unfolding spells_core spells_declaration spells_declarator spells_expr spells_init spells_initializer spells_optional
    spells_parameter spells_stmt spells_suffix spells_typename
at_stmt_empty w = ap (λ f. f w)
    (ap spells_stmt (sym s.rolls-Empty) ∙
    fold-roll-Stmt Spelling Spelling Spelling Spelling Spelling Spelling Spelling Spelling Spelling Spelling Spelling
    core_rule expr_rule initializer_rule optional_rule stmt_rule suffix_rule declaration_rule declarator_rule init_rule
    parameter_rule typename_rule Stmt-F.Empty)

pub at_stmt_expr : (x : Expr) (w : Words) → spells_stmt (s.Expr x) w ≡ stmt_rule (Stmt-F.Expr (spells_expr x)) w
unfolding spells_core spells_declaration spells_declarator spells_expr spells_init spells_initializer spells_optional
    spells_parameter spells_stmt spells_suffix spells_typename
at_stmt_expr x w = ap (λ f. f w)
    (ap spells_stmt (sym (s.rolls-Expr x)) ∙
    fold-roll-Stmt Spelling Spelling Spelling Spelling Spelling Spelling Spelling Spelling Spelling Spelling Spelling
    core_rule expr_rule initializer_rule optional_rule stmt_rule suffix_rule declaration_rule declarator_rule init_rule
    parameter_rule typename_rule (Stmt-F.Expr x))

pub at_stmt_block : (ss : List Stmt) (w : Words) →
    spells_stmt (s.Block ss) w ≡ stmt_rule (Stmt-F.Block (map spells_stmt ss)) w
unfolding spells_core spells_declaration spells_declarator spells_expr spells_init spells_initializer spells_optional
    spells_parameter spells_stmt spells_suffix spells_typename
at_stmt_block ss w = ap (λ f. f w)
    (ap spells_stmt (sym (s.rolls-Block ss)) ∙
    fold-roll-Stmt Spelling Spelling Spelling Spelling Spelling Spelling Spelling Spelling Spelling Spelling Spelling
    core_rule expr_rule initializer_rule optional_rule stmt_rule suffix_rule declaration_rule declarator_rule init_rule
    parameter_rule typename_rule (Stmt-F.Block ss))

pub at_stmt_local : (q : Declaration) (w : Words) →
    spells_stmt (s.Local q) w ≡ stmt_rule (Stmt-F.Stmt::Local (spells_declaration q)) w
unfolding spells_core spells_declaration spells_declarator spells_expr spells_init spells_initializer spells_optional
    spells_parameter spells_stmt spells_suffix spells_typename
at_stmt_local q w = ap (λ f. f w)
    (ap spells_stmt (sym (s.rolls-Local q)) ∙
    fold-roll-Stmt Spelling Spelling Spelling Spelling Spelling Spelling Spelling Spelling Spelling Spelling Spelling
    core_rule expr_rule initializer_rule optional_rule stmt_rule suffix_rule declaration_rule declarator_rule init_rule
    parameter_rule typename_rule (Stmt-F.Stmt::Local q))

pub at_stmt_if : (n : ℕ) (x : Expr) (u : Stmt) (w : Words) →
    spells_stmt (s.If n x u) w ≡ stmt_rule (Stmt-F.If n (spells_expr x) (spells_stmt u)) w
unfolding spells_core spells_declaration spells_declarator spells_expr spells_init spells_initializer spells_optional
    spells_parameter spells_stmt spells_suffix spells_typename
at_stmt_if n x u w = ap (λ f. f w)
    (ap spells_stmt (sym (s.rolls-If n x u)) ∙
    fold-roll-Stmt Spelling Spelling Spelling Spelling Spelling Spelling Spelling Spelling Spelling Spelling Spelling
    core_rule expr_rule initializer_rule optional_rule stmt_rule suffix_rule declaration_rule declarator_rule init_rule
    parameter_rule typename_rule (Stmt-F.If n x u))

pub at_stmt_ifelse : (n : ℕ) (x : Expr) (u : Stmt) (v : Stmt) (w : Words) →
    spells_stmt (s.IfElse n x u v) w ≡ stmt_rule (Stmt-F.IfElse n (spells_expr x) (spells_stmt u) (spells_stmt v)) w
unfolding spells_core spells_declaration spells_declarator spells_expr spells_init spells_initializer spells_optional
    spells_parameter spells_stmt spells_suffix spells_typename
at_stmt_ifelse n x u v w =
    ap (λ f. f w) (ap spells_stmt (sym (s.rolls-IfElse n x u v)) ∙
    fold-roll-Stmt Spelling Spelling Spelling Spelling Spelling Spelling Spelling Spelling Spelling Spelling Spelling
    core_rule expr_rule initializer_rule optional_rule stmt_rule suffix_rule declaration_rule declarator_rule init_rule
    parameter_rule typename_rule (Stmt-F.IfElse n x u v))

pub at_stmt_while : (n : ℕ) (x : Expr) (u : Stmt) (w : Words) →
    spells_stmt (s.While n x u) w ≡ stmt_rule (Stmt-F.While n (spells_expr x) (spells_stmt u)) w
unfolding spells_core spells_declaration spells_declarator spells_expr spells_init spells_initializer spells_optional
    spells_parameter spells_stmt spells_suffix spells_typename
at_stmt_while n x u w = ap (λ f. f w)
    (ap spells_stmt (sym (s.rolls-While n x u)) ∙
    fold-roll-Stmt Spelling Spelling Spelling Spelling Spelling Spelling Spelling Spelling Spelling Spelling Spelling
    core_rule expr_rule initializer_rule optional_rule stmt_rule suffix_rule declaration_rule declarator_rule init_rule
    parameter_rule typename_rule (Stmt-F.While n x u))

pub at_stmt_do : (n : ℕ) (u : Stmt) (x : Expr) (w : Words) →
    spells_stmt (s.Do n u x) w ≡ stmt_rule (Stmt-F.Do n (spells_stmt u) (spells_expr x)) w
unfolding spells_core spells_declaration spells_declarator spells_expr spells_init spells_initializer spells_optional
    spells_parameter spells_stmt spells_suffix spells_typename
at_stmt_do n u x w = ap (λ f. f w)
    (ap spells_stmt (sym (s.rolls-Do n u x)) ∙
    fold-roll-Stmt Spelling Spelling Spelling Spelling Spelling Spelling Spelling Spelling Spelling Spelling Spelling
    core_rule expr_rule initializer_rule optional_rule stmt_rule suffix_rule declaration_rule declarator_rule init_rule
    parameter_rule typename_rule (Stmt-F.Do n u x))

pub at_stmt_for : (n : ℕ) (u : Stmt) (oe : OptionalExpr) (of : OptionalExpr) (v : Stmt) (w : Words) →
    spells_stmt (s.For n u oe of v) w ≡ stmt_rule
    (Stmt-F.For n (spells_stmt u) (spells_optional oe) (spells_optional of) (spells_stmt v)) w
unfolding spells_core spells_declaration spells_declarator spells_expr spells_init spells_initializer spells_optional
    spells_parameter spells_stmt spells_suffix spells_typename
at_stmt_for n u oe of v w =
    ap (λ f. f w) (ap spells_stmt (sym (s.rolls-For n u oe of v)) ∙
    fold-roll-Stmt Spelling Spelling Spelling Spelling Spelling Spelling Spelling Spelling Spelling Spelling Spelling
    core_rule expr_rule initializer_rule optional_rule stmt_rule suffix_rule declaration_rule declarator_rule init_rule
    parameter_rule typename_rule (Stmt-F.For n u oe of v))

pub at_stmt_switch : (n : ℕ) (x : Expr) (ss : List Stmt) (w : Words) →
    spells_stmt (s.Switch n x ss) w ≡ stmt_rule (Stmt-F.Switch n (spells_expr x) (map spells_stmt ss)) w
unfolding spells_core spells_declaration spells_declarator spells_expr spells_init spells_initializer spells_optional
    spells_parameter spells_stmt spells_suffix spells_typename
at_stmt_switch n x ss w =
    ap (λ f. f w) (ap spells_stmt (sym (s.rolls-Switch n x ss)) ∙
    fold-roll-Stmt Spelling Spelling Spelling Spelling Spelling Spelling Spelling Spelling Spelling Spelling Spelling
    core_rule expr_rule initializer_rule optional_rule stmt_rule suffix_rule declaration_rule declarator_rule init_rule
    parameter_rule typename_rule (Stmt-F.Switch n x ss))

pub at_stmt_case : (n : ℕ) (x : Expr) (w : Words) →
    spells_stmt (s.Case n x) w ≡ stmt_rule (Stmt-F.Case n (spells_expr x)) w
unfolding spells_core spells_declaration spells_declarator spells_expr spells_init spells_initializer spells_optional
    spells_parameter spells_stmt spells_suffix spells_typename
at_stmt_case n x w = ap (λ f. f w)
    (ap spells_stmt (sym (s.rolls-Case n x)) ∙
    fold-roll-Stmt Spelling Spelling Spelling Spelling Spelling Spelling Spelling Spelling Spelling Spelling Spelling
    core_rule expr_rule initializer_rule optional_rule stmt_rule suffix_rule declaration_rule declarator_rule init_rule
    parameter_rule typename_rule (Stmt-F.Case n x))

pub at_stmt_default : (n : ℕ) (w : Words) → spells_stmt (s.Default n) w ≡ stmt_rule (Stmt-F.Default n) w
unfolding spells_core spells_declaration spells_declarator spells_expr spells_init spells_initializer spells_optional
    spells_parameter spells_stmt spells_suffix spells_typename
at_stmt_default n w = ap (λ f. f w)
    (ap spells_stmt (sym (s.rolls-Default n)) ∙
    fold-roll-Stmt Spelling Spelling Spelling Spelling Spelling Spelling Spelling Spelling Spelling Spelling Spelling
    core_rule expr_rule initializer_rule optional_rule stmt_rule suffix_rule declaration_rule declarator_rule init_rule
    parameter_rule typename_rule (Stmt-F.Default n))

pub at_stmt_break : (n : ℕ) (w : Words) → spells_stmt (s.Break n) w ≡ stmt_rule (Stmt-F.Break n) w
unfolding spells_core spells_declaration spells_declarator spells_expr spells_init spells_initializer spells_optional
    spells_parameter spells_stmt spells_suffix spells_typename
at_stmt_break n w = ap (λ f. f w)
    (ap spells_stmt (sym (s.rolls-Break n)) ∙
    fold-roll-Stmt Spelling Spelling Spelling Spelling Spelling Spelling Spelling Spelling Spelling Spelling Spelling
    core_rule expr_rule initializer_rule optional_rule stmt_rule suffix_rule declaration_rule declarator_rule init_rule
    parameter_rule typename_rule (Stmt-F.Break n))

pub at_stmt_continue : (n : ℕ) (w : Words) → spells_stmt (s.Continue n) w ≡ stmt_rule (Stmt-F.Continue n) w
unfolding spells_core spells_declaration spells_declarator spells_expr spells_init spells_initializer spells_optional
    spells_parameter spells_stmt spells_suffix spells_typename
at_stmt_continue n w = ap (λ f. f w)
    (ap spells_stmt (sym (s.rolls-Continue n)) ∙
    fold-roll-Stmt Spelling Spelling Spelling Spelling Spelling Spelling Spelling Spelling Spelling Spelling Spelling
    core_rule expr_rule initializer_rule optional_rule stmt_rule suffix_rule declaration_rule declarator_rule init_rule
    parameter_rule typename_rule (Stmt-F.Continue n))

pub at_stmt_return : (n : ℕ) (oe : OptionalExpr) (w : Words) →
    spells_stmt (s.Return n oe) w ≡ stmt_rule (Stmt-F.Return n (spells_optional oe)) w
unfolding spells_core spells_declaration spells_declarator spells_expr spells_init spells_initializer spells_optional
    spells_parameter spells_stmt spells_suffix spells_typename
at_stmt_return n oe w = ap (λ f. f w)
    (ap spells_stmt (sym (s.rolls-Return n oe)) ∙
    fold-roll-Stmt Spelling Spelling Spelling Spelling Spelling Spelling Spelling Spelling Spelling Spelling Spelling
    core_rule expr_rule initializer_rule optional_rule stmt_rule suffix_rule declaration_rule declarator_rule init_rule
    parameter_rule typename_rule (Stmt-F.Return n oe))

pub at_declaration : (n : ℕ) (bs : Base) (is : List Init) (w : Words) →
    spells_declaration (roll-Declaration (record { line = n; base = bs; inits = is })) w ≡ declaration_rule
    (record { line = n; base = bs; inits = (map spells_init is) }) w
unfolding spells_core spells_declaration spells_declarator spells_expr spells_init spells_initializer spells_optional
    spells_parameter spells_stmt spells_suffix spells_typename
at_declaration n bs is w =
    ap (λ f. f w) (fold-roll-Declaration Spelling Spelling Spelling Spelling Spelling Spelling Spelling Spelling
    Spelling
    Spelling Spelling core_rule expr_rule initializer_rule optional_rule stmt_rule suffix_rule declaration_rule
    declarator_rule init_rule parameter_rule typename_rule (record { line = n; base = bs; inits = is }))

pub at_declarator : (fs : List Prefix) (c : Core) (us : List Suffix) (w : Words) →
    spells_declarator (roll-Declarator (record { prefixes = fs; core = c; suffixes = us })) w ≡ declarator_rule
    (record { prefixes = fs; core = (spells_core c); suffixes = (map spells_suffix us) }) w
unfolding spells_core spells_declaration spells_declarator spells_expr spells_init spells_initializer spells_optional
    spells_parameter spells_stmt spells_suffix spells_typename
at_declarator fs c us w =
    ap (λ f. f w) (fold-roll-Declarator Spelling Spelling Spelling Spelling Spelling Spelling Spelling Spelling Spelling
    Spelling Spelling core_rule expr_rule initializer_rule optional_rule stmt_rule suffix_rule declaration_rule
    declarator_rule init_rule parameter_rule typename_rule (record { prefixes = fs; core = c; suffixes = us }))

pub at_init : (d : Declarator) (iv : Initializer) (w : Words) →
    spells_init (roll-Init (record { declarator = d; value = iv })) w ≡ init_rule
    (record { declarator = (spells_declarator d); value = (spells_initializer iv) }) w
unfolding spells_core spells_declaration spells_declarator spells_expr spells_init spells_initializer spells_optional
    spells_parameter spells_stmt spells_suffix spells_typename
at_init d iv w = ap (λ f. f w)
    (fold-roll-Init Spelling Spelling Spelling Spelling Spelling Spelling Spelling Spelling Spelling Spelling Spelling
    core_rule expr_rule initializer_rule optional_rule stmt_rule suffix_rule declaration_rule declarator_rule init_rule
    parameter_rule typename_rule (record { declarator = d; value = iv }))

pub at_parameter : (n : ℕ) (bs : Base) (d : Declarator) (w : Words) →
    spells_parameter (roll-Parameter (record { line = n; base = bs; declarator = d })) w ≡ parameter_rule
    (record { line = n; base = bs; declarator = (spells_declarator d) }) w
unfolding spells_core spells_declaration spells_declarator spells_expr spells_init spells_initializer spells_optional
    spells_parameter spells_stmt spells_suffix spells_typename
at_parameter n bs d w = ap (λ f. f w)
    (fold-roll-Parameter Spelling Spelling Spelling Spelling Spelling Spelling Spelling Spelling Spelling Spelling
    Spelling core_rule expr_rule initializer_rule optional_rule stmt_rule suffix_rule declaration_rule declarator_rule
    init_rule parameter_rule typename_rule (record { line = n; base = bs; declarator = d }))

pub at_typename : (bs : Base) (d : Declarator) (w : Words) →
    spells_typename (roll-Typename (record { base = bs; declarator = d })) w ≡ typename_rule
    (record { base = bs; declarator = (spells_declarator d) }) w
unfolding spells_core spells_declaration spells_declarator spells_expr spells_init spells_initializer spells_optional
    spells_parameter spells_stmt spells_suffix spells_typename
at_typename bs d w = ap (λ f. f w)
    (fold-roll-Typename Spelling Spelling Spelling Spelling Spelling Spelling Spelling Spelling Spelling Spelling
    Spelling
    core_rule expr_rule initializer_rule optional_rule stmt_rule suffix_rule declaration_rule declarator_rule init_rule
    parameter_rule typename_rule (record { base = bs; declarator = d }))
