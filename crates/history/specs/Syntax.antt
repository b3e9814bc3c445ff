-- Generated code as syntax: a tick of the text, and what each of its captures stands for. A splice stands for the
-- syntax of the specification that was captured, so this is the syntax of a whole specification, expanded. These are
-- this project's own definitions, after the specifications of Poletto, Hsieh, Engler and Kaashoek (TOPLAS 21(2), 1999).
use Rattle.std.specs.Prelude.{ℕ}

mutual
  -- the tick of this number, counted from 0 in the order of the text
  pub data Syntax : Type 0 where
    Ticked : (tick : ℕ) → Captures → Syntax

  -- what the captures stand for, in the order of the text
  pub data Captures : Type 0 where
    NoCapture : Captures
    -- a value, or the address of a frame object
    Word : (word : ℕ) → Captures → Captures
    -- a variable of generated code: a key below 8 is the parameter of that index, and 7 + s is the local variable whose
    -- specification has the number s
    Named : (key : ℕ) → Captures → Captures
    -- a specification
    Spliced : Syntax → Captures → Captures
