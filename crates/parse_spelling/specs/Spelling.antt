-- The words that a tree spells, before others: those of its productions, written out from left to right.
use Rattle.std.specs.Prelude.{Bool, if◌then◌else◌, List, [], ◌∷◌, map, Option, Some, None}
use Rattle.tick_tree.specs.declared.base.Base.{Base}
use Rattle.tick_tree.specs.declared.base.Base.TheVariants as b
use Rattle.tick_tree.specs.declared.base.Signedness.{Signedness}
use Rattle.tick_tree.specs.declared.base.Signedness.TheVariants as sign
use Rattle.tick_tree.specs.declared.base.Prefix.{Prefix}
use Rattle.tick_tree.specs.declared.base.Prefix.TheVariants as prefix
use Rattle.tick_tree.specs.declared.base.BinaryOp.TheVariants as op
use Rattle.tick_tree.specs.declared.base.UnaryOp.{UnaryOp}
use Rattle.tick_tree.specs.declared.syntax.Declaration.{Declaration}
use Rattle.tick_tree.specs.declared.syntax.Declarator.{Declarator}
use Rattle.tick_tree.specs.declared.syntax.Expr.{Expr}
use Rattle.tick_tree.specs.declared.syntax.Core.TheFolds.{fold-Expr, fold-OptionalExpr, fold-Typename, fold-Declarator}
use Rattle.tick_tree.specs.declared.syntax.Core.TheFolds.{fold-Core, fold-Suffix, fold-Parameter, fold-Initializer}
use Rattle.tick_tree.specs.declared.syntax.Core.TheFolds.{fold-Init, fold-Declaration, fold-Stmt}
use Rattle.tick_tree.specs.declared.syntax.Core.TheOpen.{Expr-F, OptionalExpr-F, Typename-F, Declarator-F, Core-F}
use Rattle.tick_tree.specs.declared.syntax.Core.TheOpen.{Suffix-F, Parameter-F, Initializer-F, Init-F, Declaration-F}
use Rattle.tick_tree.specs.declared.syntax.Core.TheOpen.{Stmt-F}
use Rattle.tick_tree.specs.declared.syntax.OptionalExpr.{OptionalExpr}
use Rattle.tick_tree.specs.declared.syntax.Typename.{Typename}
use Rattle.tick_tree.specs.declared.syntax.Core.{Core}
use Rattle.tick_tree.specs.declared.syntax.Suffix.{Suffix}
use Rattle.tick_tree.specs.declared.syntax.Parameter.{Parameter}
use Rattle.tick_tree.specs.declared.syntax.Initializer.{Initializer}
use Rattle.tick_tree.specs.declared.syntax.Init.{Init}
use Rattle.tick_tree.specs.declared.syntax.Stmt.{Stmt}
use Rattle.tick_tree.specs.declared.syntax.External.{External}
use Rattle.tick_tree.specs.declared.syntax.External.TheVariants as external_of
use Rattle.parse_grammar.specs.declared.kind.BaseWord.TheVariants as base_word
use Rattle.parse_grammar.specs.declared.kind.Kind.TheVariants as k
use Rattle.parse_grammar.specs.declared.kind.Mark.{Mark}
use Rattle.parse_grammar.specs.declared.kind.Mark.TheVariants as m
use Rattle.parse_grammar.specs.declared.kind.Word.{Word as Keyword}
use Rattle.parse_grammar.specs.declared.kind.Word.TheVariants as keyword
use Rattle.parse_spelling.specs.Words.{Words, sign_kind, Plain, Name, Number, Character, String}

-- the words of a part of a tree, before others
abbrev pub Spelling : Type 0
Spelling = Words → Words

abbrev pub mark : Mark → Spelling
mark found w = Plain (k.Mark found) ∷ w

abbrev pub keyword_word : Keyword → Spelling
keyword_word word w = Plain (k.Word word) ∷ w

-- ---- leaves

abbrev pub sign_words : Signedness → Spelling
sign_words sign.Signed w = Plain (k.Base base_word.Signed) ∷ w
sign_words sign.Unsigned w = Plain (k.Base base_word.Unsigned) ∷ w

abbrev pub optional_sign : Option Signedness → Spelling
optional_sign None w = w
optional_sign (Some s) w = sign_words s w

abbrev pub optional_int : Bool → Spelling
optional_int found w = if found then Plain (k.Base base_word.Int) ∷ w else w

unfoldable pub base_words : Base → Spelling
base_words b.Void w = Plain (k.Base base_word.Void) ∷ w
base_words (b.Char s) w = optional_sign s (Plain (k.Base base_word.Char) ∷ w)
base_words (b.Short s int) w = optional_sign s (Plain (k.Base base_word.Short) ∷ optional_int int w)
base_words (b.Long s int) w = optional_sign s (Plain (k.Base base_word.Long) ∷ optional_int int w)
base_words (b.Int s) w = optional_sign s (Plain (k.Base base_word.Int) ∷ w)
base_words (b.Alone s) w = sign_words s w

abbrev pub prefix_word : Prefix → Spelling
prefix_word prefix.Star w = Plain (k.Operator op.Mul) ∷ w
prefix_word prefix.Cspec w = Plain k.Cspec ∷ w
prefix_word prefix.Vspec w = Plain k.Vspec ∷ w

abbrev pub prefix_words : List Prefix → Spelling
prefix_words [] w = w
prefix_words (p ∷ ps) w = prefix_word p (prefix_words ps w)

abbrev pub unary_word : UnaryOp → Spelling
unary_word o w = Plain (sign_kind o) ∷ w

-- ---- lists

-- one behind the other
abbrev pub in_turn : List Spelling → Spelling
in_turn [] w = w
in_turn (x ∷ xs) w = x (in_turn xs w)

-- each behind a comma
abbrev pub behind_commas : List Spelling → Spelling
behind_commas [] w = w
behind_commas (x ∷ xs) w = mark m.Comma (x (behind_commas xs w))

-- with commas between
abbrev pub with_commas : List Spelling → Spelling
with_commas [] w = w
with_commas (x ∷ xs) w = x (behind_commas xs w)

abbrev pub optional_comma : Bool → Spelling
optional_comma found w = if found then mark m.Comma w else w

-- in braces
abbrev pub braced : List Spelling → Spelling
braced xs w = mark m.BraceOpen (in_turn xs (mark m.BraceClose w))

-- ---- one layer of a tree, with the words of its parts in their places

abbrev pub expr_rule : Expr-F Spelling Spelling Spelling Spelling Spelling Spelling Spelling Spelling Spelling Spelling
    Spelling → Spelling
expr_rule (Expr-F.Expr::Name n text) w = Name text ∷ w
expr_rule (Expr-F.Number value unsigned) w = Number value unsigned ∷ w
expr_rule (Expr-F.Character value) w = Character value ∷ w
expr_rule (Expr-F.String bytes) w = String bytes ∷ w
expr_rule (Expr-F.Expr::Paren a) w = mark m.ParenOpen (a (mark m.ParenClose w))
expr_rule (Expr-F.Compile n a t) w = Plain k.Compile ∷ mark m.ParenOpen (a (mark m.Comma (t (mark m.ParenClose w))))
expr_rule (Expr-F.Expr::Local n t) w = Plain k.Local ∷ mark m.ParenOpen (t (mark m.ParenClose w))
expr_rule (Expr-F.Param n t a) w = Plain k.Param ∷ mark m.ParenOpen (t (mark m.Comma (a (mark m.ParenClose w))))
expr_rule (Expr-F.Index n p) w = p.0 (mark m.BracketOpen (p.1 (mark m.BracketClose w)))
expr_rule (Expr-F.Call n a args) w = a (mark m.ParenOpen (with_commas args (mark m.ParenClose w)))
expr_rule (Expr-F.Step n o a) w = a (Plain (k.Step o) ∷ w)
expr_rule (Expr-F.Unary n o a) w = unary_word o (a w)
expr_rule (Expr-F.Tick n a) w = Plain k.Backquote ∷ a w
expr_rule (Expr-F.TickBlock n items) w = Plain k.Backquote ∷ braced items w
expr_rule (Expr-F.Cast n t a) w = mark m.ParenOpen (t (mark m.ParenClose (a w)))
expr_rule (Expr-F.Sizeof n t) w = Plain k.Sizeof ∷ mark m.ParenOpen (t (mark m.ParenClose w))
expr_rule (Expr-F.Binary n o p) w = p.0 (Plain (k.Operator o) ∷ p.1 w)
expr_rule (Expr-F.Choice n a c d) w = a (mark m.Question (c (mark m.Colon (d w))))
expr_rule (Expr-F.Assign n p) w = p.0 (mark m.Assign (p.1 w))
expr_rule (Expr-F.Modify n o p) w = p.0 (Plain (k.Modify o) ∷ p.1 w)
expr_rule (Expr-F.Comma n p) w = p.0 (mark m.Comma (p.1 w))

abbrev pub optional_rule : OptionalExpr-F Spelling Spelling Spelling Spelling Spelling Spelling Spelling Spelling
    Spelling Spelling Spelling → Spelling
optional_rule OptionalExpr-F.OptionalExpr::Absent w = w
optional_rule (OptionalExpr-F.Present a) w = a w

abbrev pub typename_rule : Typename-F Spelling Spelling Spelling Spelling Spelling Spelling Spelling Spelling Spelling
    Spelling Spelling → Spelling
typename_rule t w = base_words t.base (t.declarator w)

abbrev pub declarator_rule : Declarator-F Spelling Spelling Spelling Spelling Spelling Spelling Spelling Spelling
    Spelling Spelling Spelling → Spelling
declarator_rule d w = prefix_words d.prefixes (d.core (in_turn d.suffixes w))

abbrev pub core_rule : Core-F Spelling Spelling Spelling Spelling Spelling Spelling Spelling Spelling Spelling Spelling
    Spelling → Spelling
core_rule Core-F.Core::Absent w = w
core_rule (Core-F.Core::Name n text) w = Name text ∷ w
core_rule (Core-F.Core::Paren d) w = mark m.ParenOpen (d (mark m.ParenClose w))

abbrev pub suffix_rule : Suffix-F Spelling Spelling Spelling Spelling Spelling Spelling Spelling Spelling Spelling
    Spelling Spelling → Spelling
suffix_rule (Suffix-F.Array a) w = mark m.BracketOpen (a (mark m.BracketClose w))
suffix_rule Suffix-F.Unlisted w = mark m.ParenOpen (mark m.ParenClose w)
suffix_rule Suffix-F.Nothing w = mark m.ParenOpen (Plain (k.Base base_word.Void) ∷ mark m.ParenClose w)
suffix_rule (Suffix-F.Listed ps) w = mark m.ParenOpen (with_commas ps (mark m.ParenClose w))

abbrev pub parameter_rule : Parameter-F Spelling Spelling Spelling Spelling Spelling Spelling Spelling Spelling Spelling
    Spelling Spelling → Spelling
parameter_rule p w = base_words p.base (p.declarator w)

abbrev pub initializer_rule : Initializer-F Spelling Spelling Spelling Spelling Spelling Spelling Spelling Spelling
    Spelling Spelling Spelling → Spelling
initializer_rule Initializer-F.Initializer::Absent w = w
initializer_rule (Initializer-F.Value a) w = mark m.Assign (a w)
initializer_rule (Initializer-F.List xs comma) w =
    mark m.Assign (mark m.BraceOpen (with_commas xs (optional_comma comma (mark m.BraceClose w))))

abbrev pub init_rule : Init-F Spelling Spelling Spelling Spelling Spelling Spelling Spelling Spelling Spelling Spelling
    Spelling → Spelling
init_rule x w = x.declarator (x.value w)

abbrev pub declaration_rule : Declaration-F Spelling Spelling Spelling Spelling Spelling Spelling Spelling Spelling
    Spelling Spelling Spelling → Spelling
declaration_rule d w = base_words d.base (with_commas d.inits (mark m.Semicolon w))

abbrev pub stmt_rule : Stmt-F Spelling Spelling Spelling Spelling Spelling Spelling Spelling Spelling Spelling Spelling
    Spelling → Spelling
stmt_rule Stmt-F.Empty w = mark m.Semicolon w
stmt_rule (Stmt-F.Expr a) w = a (mark m.Semicolon w)
stmt_rule (Stmt-F.Block items) w = braced items w
stmt_rule (Stmt-F.Stmt::Local d) w = d w
stmt_rule (Stmt-F.If n a x) w = keyword_word keyword.If (mark m.ParenOpen (a (mark m.ParenClose (x w))))
stmt_rule (Stmt-F.IfElse n a x y) w =
    keyword_word keyword.If (mark m.ParenOpen (a (mark m.ParenClose (x (mark m.Else (y w))))))
stmt_rule (Stmt-F.While n a x) w = keyword_word keyword.While (mark m.ParenOpen (a (mark m.ParenClose (x w))))
stmt_rule (Stmt-F.Do n x a) w =
    keyword_word keyword.Do (x
    (keyword_word keyword.While (mark m.ParenOpen (a (mark m.ParenClose (mark m.Semicolon w))))))
stmt_rule (Stmt-F.For n first test step x) w =
    keyword_word keyword.For (mark m.ParenOpen (first (test (mark m.Semicolon (step (mark m.ParenClose (x w)))))))
stmt_rule (Stmt-F.Switch n a items) w =
    keyword_word keyword.Switch (mark m.ParenOpen (a (mark m.ParenClose (braced items w))))
stmt_rule (Stmt-F.Case n a) w = keyword_word keyword.Case (a (mark m.Colon w))
stmt_rule (Stmt-F.Default n) w = keyword_word keyword.Default (mark m.Colon w)
stmt_rule (Stmt-F.Break n) w = keyword_word keyword.Break (mark m.Semicolon w)
stmt_rule (Stmt-F.Continue n) w = keyword_word keyword.Continue (mark m.Semicolon w)
stmt_rule (Stmt-F.Return n a) w = keyword_word keyword.Return (a (mark m.Semicolon w))

-- ---- the whole

unfoldable pub spells_expr : Expr → Spelling
spells_expr = fold-Expr Spelling Spelling Spelling Spelling Spelling Spelling Spelling Spelling Spelling Spelling
    Spelling core_rule expr_rule initializer_rule optional_rule stmt_rule suffix_rule declaration_rule declarator_rule
    init_rule parameter_rule typename_rule

unfoldable pub spells_optional : OptionalExpr → Spelling
spells_optional = fold-OptionalExpr Spelling Spelling Spelling Spelling Spelling Spelling Spelling Spelling Spelling
    Spelling Spelling core_rule expr_rule initializer_rule optional_rule stmt_rule suffix_rule declaration_rule
    declarator_rule init_rule parameter_rule typename_rule

unfoldable pub spells_typename : Typename → Spelling
spells_typename = fold-Typename Spelling Spelling Spelling Spelling Spelling Spelling Spelling Spelling Spelling
    Spelling Spelling core_rule expr_rule initializer_rule optional_rule stmt_rule suffix_rule declaration_rule
    declarator_rule init_rule parameter_rule typename_rule

unfoldable pub spells_declarator : Declarator → Spelling
spells_declarator = fold-Declarator Spelling Spelling Spelling Spelling Spelling Spelling Spelling Spelling Spelling
    Spelling Spelling core_rule expr_rule initializer_rule optional_rule stmt_rule suffix_rule declaration_rule
    declarator_rule init_rule parameter_rule typename_rule

unfoldable pub spells_core : Core → Spelling
spells_core = fold-Core Spelling Spelling Spelling Spelling Spelling Spelling Spelling Spelling Spelling Spelling
    Spelling core_rule expr_rule initializer_rule optional_rule stmt_rule suffix_rule declaration_rule declarator_rule
    init_rule parameter_rule typename_rule

unfoldable pub spells_suffix : Suffix → Spelling
spells_suffix = fold-Suffix Spelling Spelling Spelling Spelling Spelling Spelling Spelling Spelling Spelling Spelling
    Spelling core_rule expr_rule initializer_rule optional_rule stmt_rule suffix_rule declaration_rule declarator_rule
    init_rule parameter_rule typename_rule

unfoldable pub spells_parameter : Parameter → Spelling
spells_parameter = fold-Parameter Spelling Spelling Spelling Spelling Spelling Spelling Spelling Spelling Spelling
    Spelling Spelling core_rule expr_rule initializer_rule optional_rule stmt_rule suffix_rule declaration_rule
    declarator_rule init_rule parameter_rule typename_rule

unfoldable pub spells_initializer : Initializer → Spelling
spells_initializer = fold-Initializer Spelling Spelling Spelling Spelling Spelling Spelling Spelling Spelling Spelling
    Spelling Spelling core_rule expr_rule initializer_rule optional_rule stmt_rule suffix_rule declaration_rule
    declarator_rule init_rule parameter_rule typename_rule

unfoldable pub spells_init : Init → Spelling
spells_init = fold-Init Spelling Spelling Spelling Spelling Spelling Spelling Spelling Spelling Spelling Spelling
    Spelling core_rule expr_rule initializer_rule optional_rule stmt_rule suffix_rule declaration_rule declarator_rule
    init_rule parameter_rule typename_rule

unfoldable pub spells_declaration : Declaration → Spelling
spells_declaration = fold-Declaration Spelling Spelling Spelling Spelling Spelling Spelling Spelling Spelling Spelling
    Spelling Spelling core_rule expr_rule initializer_rule optional_rule stmt_rule suffix_rule declaration_rule
    declarator_rule init_rule parameter_rule typename_rule

unfoldable pub spells_stmt : Stmt → Spelling
spells_stmt = fold-Stmt Spelling Spelling Spelling Spelling Spelling Spelling Spelling Spelling Spelling Spelling
    Spelling core_rule expr_rule initializer_rule optional_rule stmt_rule suffix_rule declaration_rule declarator_rule
    init_rule parameter_rule typename_rule

abbrev pub spells_external : External → Spelling
spells_external (external_of.Function n words d items) w =
    base_words words (spells_declarator d (braced (map spells_stmt items) w))
spells_external (external_of.Declaration d) w = spells_declaration d w

-- the words of a program
abbrev pub spells_program : List External → Spelling
spells_program [] w = w
spells_program (x ∷ xs) w = spells_external x (spells_program xs w)
