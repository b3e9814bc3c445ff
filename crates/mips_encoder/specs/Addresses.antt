-- Where instructions stand that follow one another: each has 4 bytes.
use Rattle.std.specs.Prelude.{ℕ, ◌+◌, List, [], ◌∷◌}
use Rattle.mips_encoder.specs.declared.instruction.Instr.{Instr}

-- the address behind instructions that stand from this address on
abbrev pub past : ℕ → List Instr → ℕ
past at [] = at
past at (i ∷ is) = past (at + 4) is
