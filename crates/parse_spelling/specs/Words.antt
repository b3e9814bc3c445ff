-- What tokens say: a number or a character is known by its type and value, a name by its bytes, and strings that stand
-- together are one string with the joined bytes. Two texts with the same words have the same tree. This is the
-- project's own rule.
use Rattle.std.specs.Prelude.{ℕ, Bool, List, [], ◌∷◌, ◌++◌}
use Rattle.tick_tree.specs.declared.base.BinaryOp.TheVariants as op
use Rattle.tick_tree.specs.declared.base.StepOp.TheVariants as step_op
use Rattle.tick_tree.specs.declared.base.UnaryOp.{UnaryOp}
use Rattle.tick_tree.specs.declared.base.UnaryOp.TheVariants as unary_op
use Rattle.lex_literals.specs.Literals.{string_bytes}
use Rattle.parse_grammar.specs.declared.kind.Kind.{Kind}
use Rattle.parse_grammar.specs.declared.kind.Kind.TheVariants as k
use Rattle.parse_grammar.specs.declared.item.Item.{Item}

-- a word or sign is known by its kind
pub data Word : Type 0 where
  Plain : Kind → Word
  Name : List ℕ → Word
  Number : ℕ → Bool → Word
  Character : ℕ → Word
  String : List ℕ → Word

abbrev pub Words : Type 0
Words = List Word

-- the kind by which a sign before an operand is known
abbrev pub sign_kind : UnaryOp → Kind
sign_kind unary_op.Plus = k.Operator op.Add
sign_kind unary_op.Minus = k.Operator op.Sub
sign_kind unary_op.Star = k.Operator op.Mul
sign_kind unary_op.Address = k.Operator op.BitAnd
sign_kind unary_op.Increment = k.Step step_op.Increment
sign_kind unary_op.Decrement = k.Step step_op.Decrement
sign_kind unary_op.Complement = k.Unary unary_op.Complement
sign_kind unary_op.Not = k.Unary unary_op.Not
sign_kind unary_op.Dollar = k.Unary unary_op.Dollar

abbrev pub word_by : Item → Kind → Word
word_by t k.Name = Name t.text
word_by t k.Number = Number t.value t.unsigned
word_by t k.Character = Character t.value
word_by t k.String = String (string_bytes t.text)
word_by t (k.Unary o) = Plain (sign_kind o)
word_by t kind = Plain kind

abbrev pub join_strings : List ℕ → Words → Words
join_strings a [] = String a ∷ []
join_strings a (String b ∷ ws) = String (a ++ b) ∷ ws
join_strings a (w ∷ ws) = String a ∷ w ∷ ws

-- a word before others
abbrev pub join : Word → Words → Words
join (String a) ws = join_strings a ws
join w ws = w ∷ ws

unfoldable pub words : List Item → Words
words [] = []
words (t ∷ i) = join (word_by t t.kind) (words i)
