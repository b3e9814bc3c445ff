-- The two registers of a JALR: rd takes the address to return to, and rs holds the target.
-- The form and the names are those of the MIPS R2000 architecture manual.
use Rattle.std.specs.Prelude.{ℕ}

pub record LinkRegisters : Type 0 where
  pub rd : ℕ
  pub rs : ℕ
