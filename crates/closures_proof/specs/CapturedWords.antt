-- The words that a specification captured, through all that is spliced into it, are words of 32 bits.
use Rattle.std.specs.Prelude.{ℕ, ◌<◌}
use Rattle.history.specs.Syntax.{Syntax, Ticked, Captures, NoCapture, Word, Named, Spliced}

abbrev mutual
  pub IsOfWords : Syntax → Type 0
  IsOfWords (Ticked tick captures) = AreOfWords captures

  pub AreOfWords : Captures → Type 0
  AreOfWords NoCapture = Unit {0}
  AreOfWords (Word word captures) = (word < 4294967296) × AreOfWords captures
  AreOfWords (Named key captures) = AreOfWords captures
  AreOfWords (Spliced syntax captures) = IsOfWords syntax × AreOfWords captures
