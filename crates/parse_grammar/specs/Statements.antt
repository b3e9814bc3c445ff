-- Statements, declarations and programs. A statement that is no item of a block is a level of nesting, and so is the
-- brace of a block; the block of a function, of a `switch` or of a backquote is no statement of its own.
use Rattle.std.specs.Prelude.{ℕ, zero, suc, Bool, true, false, ◌||◌, ◌&&◌, if◌then◌else◌, List, [], ◌∷◌, ◌++◌, length}
use Rattle.std.specs.Prelude.{Option, Some, None, Ok}
use Rattle.tick_tree.specs.declared.base.Base.{Base}
use Rattle.tick_tree.specs.declared.base.BinaryOp.TheVariants as op
use Rattle.tick_tree.specs.declared.syntax.Declaration.{Declaration, roll-Declaration}
use Rattle.tick_tree.specs.declared.syntax.Declarator.{Declarator}
use Rattle.tick_tree.specs.declared.syntax.Expr.{Expr}
use Rattle.tick_tree.specs.declared.syntax.External.{External}
use Rattle.tick_tree.specs.declared.syntax.External.TheVariants as external_of
use Rattle.tick_tree.specs.declared.syntax.Init.{Init, roll-Init}
use Rattle.tick_tree.specs.declared.syntax.Initializer.{Initializer}
use Rattle.tick_tree.specs.declared.syntax.Initializer.TheVariants as initializer_of
use Rattle.tick_tree.specs.declared.syntax.OptionalExpr.{OptionalExpr}
use Rattle.tick_tree.specs.declared.syntax.OptionalExpr.TheVariants as maybe
use Rattle.tick_tree.specs.declared.syntax.Stmt.{Stmt}
use Rattle.tick_tree.specs.declared.syntax.Stmt.TheVariants as s
use Rattle.parse_grammar.specs.declared.kind.Kind.{Kind}
use Rattle.parse_grammar.specs.declared.kind.Kind.TheVariants as k
use Rattle.parse_grammar.specs.declared.kind.Mark.TheVariants as m
use Rattle.parse_grammar.specs.declared.kind.Word.{Word}
use Rattle.parse_grammar.specs.declared.kind.Word.TheVariants as w
use Rattle.parse_grammar.specs.declared.grammar.Mode.TheVariants as mode_of
use Rattle.parse_grammar.specs.Input.{Input, Parser, ◌>>=◌, ◌>>◌, ◌<$>◌, pure, refuse, peek, at_line, take_token, sees}
use Rattle.parse_grammar.specs.Input.{eat, expect, expect_word, kind}
use Rattle.parse_grammar.specs.Steps.{Inner, Room, descend, within, enter_paren, optional, following, separated}
use Rattle.parse_grammar.specs.Bases.{base, is_base}
use Rattle.parse_grammar.specs.Declarators.{declarator, declares_function}
use Rattle.parse_grammar.specs.Expressions.{unary_of, behind_word, block, parenthesized, unary, cond, assign, expr}

-- ---- declarations

-- behind an expression of a list in braces: a comma, and the brace or more
unfoldable pub elements_from : Parser Expr → ℕ → List Expr → Parser Initializer
elements_from item zero found = refuse
elements_from item (suc n) found = do
  x ← item
  comma ← eat m.Comma
  is_closed ← eat m.BraceClose
  if is_closed then pure (initializer_of.List (found ++ x ∷ []) comma) else
      (if comma then elements_from item n (found ++ x ∷ []) else refuse)

unfoldable pub elements : Parser Expr → Parser Initializer
elements item = λ i. elements_from item (length i) [] i

-- behind the `=`
unfoldable pub initial : Room → Parser Initializer
initial room = λ i. if sees m.BraceOpen i then within room (λ r. elements r.assign) i else
    (initializer_of.Value <$> assign room) i

unfoldable pub initializer : Room → Parser Initializer
initializer room = λ i. if sees m.Assign i then (take_token >> initial room) i else pure initializer_of.Absent i

unfoldable pub init : Room → Parser Init
init room = do
  d ← declarator mode_of.Named room
  v ← initializer room
  pure (roll-Init (record { declarator = d; value = v }))

unfoldable pub declaration : Room → Parser Declaration
declaration room = do
  n ← at_line
  words ← base
  found ← separated (init room)
  expect m.Semicolon
  pure (roll-Declaration (record { line = n; base = words; inits = found }))

-- ---- statements

-- what an expression begins with
unfoldable pub begins_expr : Kind → Bool
begins_expr k.Name = true
begins_expr k.Number = true
begins_expr k.Character = true
begins_expr k.String = true
begins_expr k.Sizeof = true
begins_expr k.Compile = true
begins_expr k.Local = true
begins_expr k.Param = true
begins_expr k.Backquote = true
begins_expr (k.Mark m.ParenOpen) = true
begins_expr (k.Operator op.Add) = true
begins_expr (k.Operator op.Sub) = true
begins_expr (k.Operator op.Mul) = true
begins_expr (k.Operator op.BitAnd) = true
begins_expr (k.Unary o) = true
begins_expr (k.Step o) = true
begins_expr _ = false

-- what a statement begins with
unfoldable pub begins_stmt : Kind → Bool
begins_stmt (k.Mark m.Semicolon) = true
begins_stmt (k.Mark m.BraceOpen) = true
begins_stmt (k.Word word) = true
begins_stmt kind = begins_expr kind

-- what the first part of a `for` begins with: a declaration, or an expression statement
unfoldable pub begins_first : Kind → Bool
begins_first (k.Mark m.Semicolon) = true
begins_first (k.Base word) = true
begins_first kind = begins_expr kind

-- a statement that is no item of a block: it opens a level at its first token
unfoldable pub part : Room → Parser Stmt
part room = peek >>= (λ kind. if begins_stmt kind then descend room >>= (λ p. p.0.stmt) else refuse)

-- an `else` belongs to the nearest `if`
unfoldable pub else_rest : ℕ → Room → Expr → Stmt → Parser Stmt
else_rest n room test first =
    λ i. if sees m.Else i then (take_token >> s.IfElse n test first <$> part room) i else pure (s.If n test first) i

unfoldable pub if_rest : ℕ → Room → Parser Stmt
if_rest n room = do
  test ← parenthesized room
  first ← part room
  else_rest n room test first

unfoldable pub while_rest : ℕ → Room → Parser Stmt
while_rest n room = do
  test ← parenthesized room
  s.While n test <$> part room

unfoldable pub do_rest : ℕ → Room → Parser Stmt
do_rest n room = do
  body ← part room
  expect_word w.While
  test ← parenthesized room
  expect m.Semicolon
  pure (s.Do n body test)

unfoldable pub for_first : Inner → Parser Stmt
for_first r = peek >>= (λ kind. if begins_first kind then r.stmt else refuse)

unfoldable pub for_parts : Inner → Parser (OptionalExpr × OptionalExpr)
for_parts r = do
  test ← optional m.Semicolon r.expr
  step ← optional m.ParenClose r.expr
  pure (test, step)

unfoldable pub for_body : ℕ → Room → Stmt → OptionalExpr × OptionalExpr → Parser Stmt
for_body n room first parts = s.For n first parts.0 parts.1 <$> part room

unfoldable pub for_tail : ℕ → Room → Inner → Stmt → Parser Stmt
for_tail n room r first = for_parts r >>= for_body n room first

unfoldable pub for_rest : ℕ → Room → Parser Stmt
for_rest n room = do
  p ← enter_paren room
  first ← for_first p.0
  for_tail n room p.0 first

unfoldable pub switch_rest : ℕ → Room → Parser Stmt
switch_rest n room = do
  test ← parenthesized room
  s.Switch n test <$> block room

unfoldable pub case_rest : ℕ → Room → Parser Stmt
case_rest n room = do
  test ← cond room
  expect m.Colon
  pure (s.Case n test)

unfoldable pub return_rest : ℕ → Room → Parser Stmt
return_rest n room = s.Return n <$> optional m.Semicolon (expr room)

unfoldable pub plain : Room → Parser Stmt
plain room = do
  x ← expr room
  expect m.Semicolon
  pure (s.Expr x)

abbrev pub word_by : Room → Word → ℕ → Parser Stmt
word_by room w.If n = if_rest n room
word_by room w.While n = while_rest n room
word_by room w.Do n = do_rest n room
word_by room w.For n = for_rest n room
word_by room w.Switch n = switch_rest n room
word_by room w.Case n = case_rest n room
word_by room w.Default n = expect m.Colon >> pure (s.Default n)
word_by room w.Break n = expect m.Semicolon >> pure (s.Break n)
word_by room w.Continue n = expect m.Semicolon >> pure (s.Continue n)
word_by room w.Return n = return_rest n room

unfoldable pub word_stmt : Word → Room → Parser Stmt
word_stmt word room = behind_word (word_by room word)

abbrev pub stmt_by : Room → Kind → Parser Stmt
stmt_by room (k.Mark m.Semicolon) = take_token >> pure s.Empty
stmt_by room (k.Mark m.BraceOpen) = s.Block <$> block room
stmt_by room (k.Base word) = s.Local <$> declaration room
stmt_by room (k.Word word) = word_stmt word room
stmt_by room _ = plain room

-- an item of a block: a declaration or a statement
unfoldable pub stmt : Room → Parser Stmt
stmt room = peek >>= stmt_by room

-- ---- room for n levels

abbrev pub inner : Room → Inner
inner room = record {
  expr = expr room;
  assign = assign room;
  cond = cond room;
  unary = unary room;
  stmt = stmt room;
  declarator = λ mode. declarator mode room;
}

unfoldable pub room_of : ℕ → Room
room_of zero = []
room_of (suc n) = inner (room_of n) ∷ room_of n

-- ---- programs

unfoldable pub variables : Room → ℕ → Base → Declarator → Parser External
variables room n words d = do
  v ← initializer room
  found ← following (init room) (roll-Init (record { declarator = d; value = v }) ∷ [])
  expect m.Semicolon
  pure (external_of.Declaration (roll-Declaration (record { line = n; base = words; inits = found })))

-- a `{` behind the first declarator is taken only where its name is followed at once by a parameter list
abbrev pub function_or_variables : Room → ℕ → Base → Bool → Declarator → Parser External
function_or_variables room n words is_function d =
    λ i. if is_function && sees m.BraceOpen i then (external_of.Function n words d <$> block room) i else
    variables room n words d i

unfoldable pub first_declared : Room → ℕ → Base → Parser External
first_declared room n words =
    λ i. (declarator mode_of.Named room >>= function_or_variables room n words (declares_function i)) i

unfoldable pub external : Room → Parser External
external room = do
  n ← at_line
  words ← base
  is_empty ← eat m.Semicolon
  if is_empty then pure (external_of.Declaration (roll-Declaration (record { line = n; base = words; inits = [] })))
      else first_declared room n words

unfoldable pub at_end : Input → Bool
at_end [] = true
at_end (t ∷ i) = false

unfoldable pub program_from : Parser External → ℕ → List External → Parser (List External)
program_from item zero found = λ i. if at_end i then pure found i else refuse i
program_from item (suc n) found =
    λ i. if at_end i then pure found i else (item >>= (λ x. program_from item n (found ++ x ∷ []))) i

unfoldable pub program : Room → Parser (List External)
program room = λ i. program_from (external room) (length i) [] i
