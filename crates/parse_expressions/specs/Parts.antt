-- The parts that several productions are made of.
use Rattle.std.specs.Prelude.{◌≡◌, ℕ, Result, Ok, Err}
use Rattle.parse_grammar.specs.declared.stop.Stop.{Stop}
use Rattle.parse_grammar.specs.Input.{Input, line, next}
use Rattle.parse_grammar.specs.Nests.{Entered}
use Rattle.parse_grammar.specs.Statements.{room_of}
use Rattle.parse_grammar.specs.Steps.{enter_paren}

-- What a step over a word and its open parenthesis ensures: it gives the line of the word.
abbrev pub Opened : ℕ → Input → Result ℕ Stop → Input → Type 0
Opened room old (Ok n) new = Entered (enter_paren (room_of room) (next old)) room (Ok tt) new × (n ≡ line old)
Opened room old (Err e) new = Entered (enter_paren (room_of room) (next old)) room (Err e) new
