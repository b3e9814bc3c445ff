-- Where the values of virtual registers stand: in registers of the machine, or in slots of the frame.
-- From the stack pointer up, a frame has 32 bytes for the arguments of calls, 48 for saved registers, the address to
-- return to at 80, nothing up to 127, and then the slots, of a word each. These are the project's own rules.
use Rattle.std.specs.Prelude.{ℕ, ◌+◌, ◌*◌, Bool, not, nat_lt, if◌then◌else◌, List}
use Rattle.icode_ops.specs.Places.{place_of}
use Rattle.limits.specs.declared.run.TheConstants.{STACK_OF_A_CALL}

-- a register of the machine, or the slot at an offset in bytes from $sp; it is far where no load's offset reaches it
pub data Spot : Type 0 where
  InRegister : (number : ℕ) → Spot
  InSlot : (far : Bool) (offset : ℕ) → Spot

-- the register of a place below 12: $s0 to $s7, then $t0 to $t3
abbrev pub place_register : ℕ → ℕ
place_register place = if nat_lt place 8 then (16 + place) else place

-- the offset of a virtual register's slot
abbrev pub slot_offset : ℕ → ℕ
slot_offset v = STACK_OF_A_CALL + 4 * v

abbrev pub slot : ℕ → Spot
slot offset = InSlot (not (nat_lt offset 32768)) offset

-- where the virtual register v stands if it has this place
abbrev pub spot_of : ℕ → ℕ → Spot
spot_of place v = if nat_lt place 12 then InRegister (place_register place) else slot (slot_offset v)

-- a function's registers, the bytes of its frame, and the bytes of the frame's objects
pub record Layout : Type 0 where
  pub spot : ℕ → Spot
  pub frame : ℕ
  pub objects : ℕ

abbrev pub laid : List ℕ → ℕ → ℕ → Layout
laid places frame objects =
    record { spot = λ v. spot_of (place_of places v) v; frame = frame; objects = objects }

-- a parameter stands in the frame of the caller, which lies above this function's
abbrev pub parameter_spot : Layout → ℕ → Spot
parameter_spot layout k = slot (layout.frame + 4 * k)
