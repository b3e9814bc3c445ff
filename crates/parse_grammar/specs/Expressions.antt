-- Expressions, one function for each level of precedence. Unary, assignment and `?` operators are levels of nesting
-- until their expression ends; so are the binary, comma and postfix operators that were read in a chain. A call or an
-- index counts as its bracket until that is closed, a cast as its bracket and then as a unary operator.
use Rattle.std.specs.Prelude.{ℕ, zero, suc, ◌==◌, Bool, true, false, if◌then◌else◌, List, [], ◌∷◌, ◌++◌, Option, Some}
use Rattle.std.specs.Prelude.{None, Ok}
use Rattle.tick_tree.specs.declared.base.UnaryOp.{UnaryOp}
use Rattle.tick_tree.specs.declared.base.UnaryOp.TheVariants as unary_op
use Rattle.tick_tree.specs.declared.base.BinaryOp.{BinaryOp}
use Rattle.tick_tree.specs.declared.base.BinaryOp.TheVariants as op
use Rattle.tick_tree.specs.declared.base.ModifyOp.{ModifyOp}
use Rattle.tick_tree.specs.declared.base.StepOp.{StepOp}
use Rattle.tick_tree.specs.declared.base.StepOp.TheVariants as step_op
use Rattle.tick_tree.specs.declared.syntax.Expr.{Expr}
use Rattle.tick_tree.specs.declared.syntax.Expr.TheVariants as e
use Rattle.tick_tree.specs.declared.syntax.Stmt.{Stmt}
use Rattle.lex_literals.specs.Literals.{string_bytes}
use Rattle.parse_grammar.specs.declared.kind.Kind.{Kind}
use Rattle.parse_grammar.specs.declared.kind.Kind.TheVariants as k
use Rattle.parse_grammar.specs.declared.kind.Mark.TheVariants as m
use Rattle.parse_grammar.specs.declared.grammar.Part.{Part}
use Rattle.parse_grammar.specs.declared.grammar.Part.TheVariants as part
use Rattle.parse_grammar.specs.declared.grammar.Postfix.{Postfix}
use Rattle.parse_grammar.specs.declared.grammar.Postfix.TheVariants as postfix_of
use Rattle.parse_grammar.specs.Input.{Input, Outcome, Parser, ◌>>=◌, ◌>>◌, ◌<$>◌, pure, refuse, peek, peek_second}
use Rattle.parse_grammar.specs.Input.{at_line, take_token, sees, eat, expect, kind, line, value, unsigned, text, next}
use Rattle.parse_grammar.specs.Input.{is_mark}
use Rattle.parse_grammar.specs.Steps.{Inner, Room, within, from, enter, in_parens, separated, closed, chain}
use Rattle.parse_grammar.specs.Bases.{is_base}
use Rattle.parse_grammar.specs.Declarators.{typename}

-- ---- operators

unfoldable pub sign_of : BinaryOp → Option UnaryOp
sign_of op.Add = Some unary_op.Plus
sign_of op.Sub = Some unary_op.Minus
sign_of op.Mul = Some unary_op.Star
sign_of op.BitAnd = Some unary_op.Address
sign_of _ = None

unfoldable pub unary_of : Kind → Option UnaryOp
unary_of (k.Operator o) = sign_of o
unary_of (k.Unary o) = Some o
unary_of (k.Step step_op.Increment) = Some unary_op.Increment
unary_of (k.Step step_op.Decrement) = Some unary_op.Decrement
unary_of _ = None

-- how loosely an operator binds
unfoldable pub looseness : BinaryOp → ℕ
looseness op.Mul = 0
looseness op.Div = 0
looseness op.Rem = 0
looseness op.Add = 1
looseness op.Sub = 1
looseness op.ShiftLeft = 2
looseness op.ShiftRight = 2
looseness op.Less = 3
looseness op.Greater = 3
looseness op.AtMost = 3
looseness op.AtLeast = 3
looseness op.Equal = 4
looseness op.NotEqual = 4
looseness op.BitAnd = 5
looseness op.BitXor = 6
looseness op.BitOr = 7
looseness op.And = 8
looseness op.Or = 9

-- the operator of a level that a token is
unfoldable pub binary_of : ℕ → Kind → Option BinaryOp
binary_of n (k.Operator o) = if looseness o == n then Some o else None
binary_of n _ = None

unfoldable pub postfix_kind : Kind → Option Postfix
postfix_kind (k.Mark m.BracketOpen) = Some postfix_of.Index
postfix_kind (k.Mark m.ParenOpen) = Some postfix_of.Call
postfix_kind (k.Step s) = Some (postfix_of.Step s)
postfix_kind _ = None

unfoldable pub comma_of : Kind → Option (Unit {0})
comma_of (k.Mark m.Comma) = Some tt
comma_of _ = None

-- ---- what needs no room

unfoldable pub is_string : Kind → Bool
is_string k.String = true
is_string _ = false

-- the bytes of the strings that stand there, behind those that were found
abbrev pub strings : List ℕ → Parser (List ℕ)
strings found [] = Ok (found, [])
strings found (t ∷ i) = if is_string t.kind then strings (found ++ string_bytes t.text) i else Ok (found, t ∷ i)

abbrev pub name : Parser Expr
name = λ i. Ok (e.Name (line i) (text i), next i)

abbrev pub number : Parser Expr
number = λ i. Ok (e.Number (value i) (unsigned i), next i)

abbrev pub character : Parser Expr
character = λ i. Ok (e.Character (value i), next i)

-- ---- primary expressions

-- the items of a block, from its brace on; the brace is a level
unfoldable pub block : Room → Parser (List Stmt)
block room = from m.BraceOpen (within room (λ r. closed r.stmt))

unfoldable pub parenthesized : Room → Parser Expr
parenthesized room = in_parens room (λ r. do x ← r.expr; expect m.ParenClose; pure x)

unfoldable pub compile_inner : ℕ → Inner → Parser Expr
compile_inner n r = do
  x ← r.assign
  expect m.Comma
  t ← typename r
  expect m.ParenClose
  pure (e.Compile n x t)

unfoldable pub local_inner : ℕ → Inner → Parser Expr
local_inner n r = do
  t ← typename r
  expect m.ParenClose
  pure (e.Local n t)

unfoldable pub param_inner : ℕ → Inner → Parser Expr
param_inner n r = do
  t ← typename r
  expect m.Comma
  x ← r.assign
  expect m.ParenClose
  pure (e.Param n t x)

-- what follows the word at this place
abbrev pub behind_word : {A : Type 0} → (ℕ → Parser A) → Parser A
behind_word f = do
  n ← at_line
  take_token
  f n

-- a word, and what follows it in parentheses
unfoldable pub worded : (ℕ → Inner → Parser Expr) → Room → Parser Expr
worded f room = behind_word (λ n. in_parens room (f n))

abbrev pub primary_by : Room → Kind → Parser Expr
primary_by room k.Name = name
primary_by room k.Number = number
primary_by room k.Character = character
primary_by room k.String = e.String <$> strings []
primary_by room k.Compile = worded compile_inner room
primary_by room k.Local = worded local_inner room
primary_by room k.Param = worded param_inner room
primary_by room (k.Mark m.ParenOpen) = e.Paren <$> parenthesized room
primary_by room _ = refuse

unfoldable pub primary : Room → Parser Expr
primary room = peek >>= primary_by room

-- ---- postfix operators

-- behind the `(` of a call
unfoldable pub arguments : Parser Expr → Parser (List Expr)
arguments item = λ i. if sees m.ParenClose i then (take_token >> pure []) i else
    (separated item >>= (λ found. expect m.ParenClose >> pure found)) i

-- behind the `[` of an index
unfoldable pub indexed : ℕ → Expr → Inner → Parser Expr
indexed n left r = do
  x ← r.expr
  expect m.BracketClose
  pure (e.Index n (left, x))

unfoldable pub called : ℕ → Expr → Inner → Parser Expr
called n left r = e.Call n left <$> arguments r.assign

abbrev pub postfix_step : Inner → Room → Postfix → ℕ → Expr → Parser Expr
postfix_step r rs postfix_of.Index n left = indexed n left r
postfix_step r rs postfix_of.Call n left = called n left r
postfix_step r rs (postfix_of.Step s) n left = pure (e.Step n s left)

unfoldable pub postfix : Room → Parser Expr
postfix room = primary room >>= chain postfix_kind postfix_step room

-- ---- unary operators

-- behind a backquote, which is a level
abbrev pub ticked : ℕ → Inner → Room → Parser Expr
ticked n r rs = λ i. if sees m.BraceOpen i then (e.TickBlock n <$> block rs) i else (e.Tick n <$> r.unary) i

-- at a backquote
unfoldable pub tick : Room → Parser Expr
tick room = do
  n ← at_line
  p ← enter room
  ticked n p.0 p.1

-- behind the `(` of a cast
unfoldable pub cast_inner : ℕ → Inner → Parser Expr
cast_inner n r = do
  t ← typename r
  expect m.ParenClose
  x ← r.unary
  pure (e.Cast n t x)

unfoldable pub cast : Room → Parser Expr
cast room = at_line >>= (λ n. within room (cast_inner n))

unfoldable pub sizeof_inner : ℕ → Inner → Parser Expr
sizeof_inner n r = do
  t ← typename r
  expect m.ParenClose
  pure (e.Sizeof n t)

abbrev pub prefixed : Room → Option UnaryOp → Parser Expr
prefixed room (Some o) = at_line >>= (λ n. within room (λ r. e.Unary n o <$> r.unary))
prefixed room None = postfix room

-- a `(` begins a cast where a base follows
abbrev pub unary_by : Room → Kind → Parser Expr
unary_by room k.Backquote = tick room
unary_by room k.Sizeof = worded sizeof_inner room
unary_by room (k.Mark m.ParenOpen) = peek_second >>= (λ kind. if is_base kind then cast room else postfix room)
unary_by room kind = prefixed room (unary_of kind)

unfoldable pub unary : Room → Parser Expr
unary room = peek >>= unary_by room

-- ---- levels

abbrev pub binary_step : (Room → Parser Expr) → Inner → Room → BinaryOp → ℕ → Expr → Parser Expr
binary_step operand r rs o n left = (λ x. e.Binary n o (left, x)) <$> operand rs

-- the operators of the levels below this one
unfoldable pub level : ℕ → Room → Parser Expr
level zero room = unary room
level (suc n) room = level n room >>= chain (binary_of n) (binary_step (level n)) room

-- behind the `?`
unfoldable pub choice : ℕ → Expr → Inner → Parser Expr
choice n test r = do
  first ← r.expr
  expect m.Colon
  second ← r.cond
  pure (e.Choice n test first second)

abbrev pub cond_more : Room → Expr → Parser Expr
cond_more room test = λ i. if sees m.Question i then (at_line >>= (λ n. within room (choice n test))) i else pure test i

unfoldable pub cond : Room → Parser Expr
cond room = level 10 room >>= cond_more room

abbrev pub assigned : Room → Expr → Parser Expr
assigned room left = at_line >>= (λ n. within room (λ r. (λ x. e.Assign n (left, x)) <$> r.assign))

abbrev pub modified : Room → Expr → ModifyOp → Parser Expr
modified room left o = at_line >>= (λ n. within room (λ r. (λ x. e.Modify n o (left, x)) <$> r.assign))

abbrev pub assign_by : Room → Expr → Kind → Parser Expr
assign_by room left (k.Mark m.Assign) = assigned room left
assign_by room left (k.Modify o) = modified room left o
assign_by room left _ = pure left

abbrev pub assign_more : Room → Expr → Parser Expr
assign_more room left = peek >>= assign_by room left

unfoldable pub assign : Room → Parser Expr
assign room = cond room >>= assign_more room

abbrev pub comma_step : Inner → Room → Unit {0} → ℕ → Expr → Parser Expr
comma_step r rs _ n left = (λ x. e.Comma n (left, x)) <$> assign rs

unfoldable pub expr : Room → Parser Expr
expr room = assign room >>= chain comma_of comma_step room

-- the production that a part names
abbrev pub at : Part → Room → Parser Expr
at part.Whole room = expr room
at part.Assign room = assign room
at part.Cond room = cond room
at part.Unary room = unary room

-- the part of an inner level
abbrev pub inner_at : Part → Inner → Parser Expr
inner_at part.Whole r = r.expr
inner_at part.Assign r = r.assign
inner_at part.Cond r = r.cond
inner_at part.Unary r = r.unary
