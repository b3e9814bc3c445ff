-- The events of a run, its endings and its input, on the source's side and on the machine's alike.
-- A history is a list of events in the order in which they took place. These are this project's own
-- definitions; that both sides use one type makes their agreement an equation.
use Rattle.std.specs.Prelude.{ℕ, ◌-◌, ◌%◌, Bool, true, false, nat_lt, if◌then◌else◌, List, [], ◌∷◌, ◌++◌, codes}
use Rattle.std.specs.Prelude.{decimal}
use Rattle.host_edge.specs.declared.ending.Ending.{Ending}
use Rattle.host_edge.specs.declared.ending.MachineKind.{MachineKind}
use Rattle.history.specs.Syntax.{Syntax}

-- A byte was put out; the input was asked for a byte and answered this word; a function of this number was compiled
-- from this syntax; or the compiled function of this number was entered.
pub data Item : Type 0 where
  Out : ℕ → Item
  In : ℕ → Item
  Made : (function : ℕ) → Syntax → Item
  Entered : (function : ℕ) → Item

-- the bytes that a history put out
abbrev pub output : List Item → List ℕ
output [] = []
output (Out b ∷ items) = b ∷ output items
output (In w ∷ items) = output items
output (Made f syntax ∷ items) = output items
output (Entered f ∷ items) = output items

-- a byte string as the events that put it out
abbrev pub outs : List ℕ → List Item
outs [] = []
outs (b ∷ bytes) = Out b ∷ outs bytes

-- The program ended by its own doing, or the input failed; the machine can also stop at an instruction,
-- whose address is given. No meaning has an ending of the last kind.
pub data End : Type 0 where
  Ended : Ending → End
  ReadFault : End
  Fault : MachineKind → ℕ → End

-- the bytes that are still to come, and whether a fault comes after them in place of the end
pub record Input : Type 0 where
  pub bytes : List ℕ
  pub failing : Bool

-- What the next read of an input comes to: a byte, and what is still to come behind it; or the end, or the fault.
pub data Next : Type 0 where
  Given : (byte : ℕ) → Input → Next
  AtEnd : Next
  Failing : Next

-- a byte is a number modulo 256
abbrev pub next_of : List ℕ → (failing : Bool) → Next
next_of (b ∷ bytes) failing = Given (b % 256) (record { bytes = bytes; failing = failing })
next_of [] false = AtEnd
next_of [] true = Failing

abbrev pub next_byte : Input → Next
next_byte input = next_of input.bytes input.failing

-- the bytes of a word in signed decimal: two's complement from 2 ^ 31 on, behind a minus sign
abbrev pub number_bytes : ℕ → List ℕ
number_bytes w = if nat_lt w 2147483648 then decimal w else (codes "-" ++ decimal (4294967296 - w))
