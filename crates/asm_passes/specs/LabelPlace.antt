-- Where a label stands: the number of its line, and how many words of the text stand before it.
use Rattle.std.specs.Prelude.{ℕ}

pub record LabelPlace : Type 0 where
  pub line : ℕ
  pub words : ℕ
