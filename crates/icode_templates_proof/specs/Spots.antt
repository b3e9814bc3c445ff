-- The value at a spot, which spots the code of a function can use, and what an op's instructions leave as it was. A
-- frame lies in the stack's region from the stack pointer up. These are the project's own rules.
use Rattle.std.specs.Prelude.{◌≡◌, ◌≢◌, ◌⊎◌, ℕ, ◌+◌, ◌/◌, ◌%◌, ◌<◌, ◌≤◌, true, false}
use Rattle.word32.specs.declared.map.TheConstants.{STACK, STACK_BYTES}
use Rattle.mips_model.specs.State.{Data}
use Rattle.icode_templates.specs.Layout.{Spot, InRegister, InSlot}

abbrev pub pointer : Data → ℕ
pointer d = d.registers 29

-- the word at an offset in bytes from the stack pointer
abbrev pub frame_word : Data → ℕ → ℕ
frame_word d offset = d.stack ((pointer d + offset) / 4)

-- the value that stands there
abbrev pub value : Data → Spot → ℕ
value d (InRegister r) = d.registers r
value d (InSlot far offset) = frame_word d offset

-- a frame of so many bytes from the stack pointer up lies in the stack
pub record Framed (sp bytes : ℕ) : Type 0 where
  pub from : STACK ≤ sp
  pub to : sp + bytes ≤ STACK + STACK_BYTES
  pub even : sp % 4 ≡ 0

-- the registers of places: $t0 to $t3 and $s0 to $s7
abbrev pub IsPlace : ℕ → Type 0
IsPlace r = (8 ≤ r) × (r < 24) × ((r < 12) ⊎ (16 ≤ r))

-- a spot that the instructions of a frame of so many bytes can reach
abbrev pub Usable : ℕ → Spot → Type 0
Usable bytes (InRegister r) = IsPlace r
Usable bytes (InSlot false offset) = (offset < 32768) × (offset + 4 ≤ bytes) × (offset % 4 ≡ 0)
Usable bytes (InSlot true offset) = (offset + 4 ≤ bytes) × (offset % 4 ≡ 0)

-- no register that an op's instructions use on their way: not $at, those of services, $t8 and $t9
abbrev pub IsKept : ℕ → Type 0
IsKept r = (8 ≤ r) × (r ≢ 24) × (r ≢ 25)

-- memory but the stack, and the outside, are as they were
pub record SameWorld (d after : Data) : Type 0 where
  pub objects : after.objects ≡ d.objects
  pub closures : after.closures ≡ d.closures
  pub spec_rows : after.spec_rows ≡ d.spec_rows
  pub cells : after.cells ≡ d.cells
  pub emit_stack : after.emit_stack ≡ d.emit_stack
  pub table : after.table ≡ d.table
  pub outside : after.outside ≡ d.outside

-- no place and no slot was written
pub record KeepsSpots (d after : Data) : Type 0 where
  pub registers : (r : ℕ) → IsKept r → after.registers r ≡ d.registers r
  pub stack : after.stack ≡ d.stack
  pub world : SameWorld d after

-- the register of a spot, or one that is not kept
abbrev pub register_of : Spot → ℕ
register_of (InRegister r) = r
register_of (InSlot far offset) = 1

-- the word is not that of the spot, where the stack pointer stands there
abbrev pub IsOther : ℕ → Spot → ℕ → Type 0
IsOther sp (InRegister r) n = Unit {0}
IsOther sp (InSlot far offset) n = n ≢ (sp + offset) / 4

-- the value was put to the spot, and to no other
pub record PutsTo (spot : Spot) (x : ℕ) (d after : Data) : Type 0 where
  pub value_is : value after spot ≡ x
  pub registers : (r : ℕ) → IsKept r → r ≢ register_of spot → after.registers r ≡ d.registers r
  pub stack : (n : ℕ) → IsOther (pointer d) spot n → after.stack n ≡ d.stack n
  pub world : SameWorld d after

-- two spots of one frame that don't share a word
abbrev pub Apart : Spot → Spot → Type 0
Apart (InRegister r) (InRegister q) = r ≢ q
Apart (InRegister r) (InSlot far offset) = Unit {0}
Apart (InSlot far offset) (InRegister r) = Unit {0}
Apart (InSlot far offset) (InSlot far' offset') = offset ≢ offset'
