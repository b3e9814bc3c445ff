-- The fields of a word, as the MIPS R2000 architecture manual draws them. From the highest bit down they are opcode (6
-- bits),
-- rs, rt, rd, shamt (5 bits each) and funct (6 bits); the last three may be one immediate of 16 bits.
-- A field is the word divided by the weight of the field's lowest bit, cut to the field's width.
use Rattle.std.specs.Prelude.{ℕ, ◌/◌, ◌%◌}

abbrev pub opcode : ℕ → ℕ
opcode w = w / 67108864

abbrev pub rs : ℕ → ℕ
rs w = w / 2097152 % 32

abbrev pub rt : ℕ → ℕ
rt w = w / 65536 % 32

abbrev pub rd : ℕ → ℕ
rd w = w / 2048 % 32

abbrev pub shamt : ℕ → ℕ
shamt w = w / 64 % 32

abbrev pub funct : ℕ → ℕ
funct w = w % 64

abbrev pub immediate : ℕ → ℕ
immediate w = w % 65536
