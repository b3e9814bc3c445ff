-- The calling convention: what a callee gives back to its caller, and the frames of the calls that wait, one above the
-- other. A call that waits finds all as its callee found it: the callee-saved registers, and the stack from its frame
-- up.
use Rattle.std.specs.Prelude.{◌≡◌, ◌≢◌, ◌⊎◌, ℕ, ◌+◌, ◌-◌, ◌*◌, ◌/◌, ◌<◌, ◌≤◌, Bool, true, false, nat_eq, nat_lt}
use Rattle.std.specs.Prelude.{if◌then◌else◌, List, [], ◌∷◌, length, Some}
use Rattle.word32.specs.Words.{wrap}
use Rattle.word32.specs.Space.{update}
use Rattle.word32.specs.declared.map.TheConstants.{FRAMES, OBJECTS_END, GLOBAL_POINTER, STACK_TOP, ACTIVE_CALLS_CELL}
use Rattle.mips_model.specs.State.{Data}
use Rattle.icode_ops.specs.Live.{Live}
use Rattle.icode_templates.specs.Frames.{save_offset}
use Rattle.icode_saves.specs.Places.{has, saved}
use Rattle.icode_meaning.specs.State.{Function, Frame}
use Rattle.icode_templates_proof.specs.Spots.{pointer, frame_word, value, Framed, IsKept}
use Rattle.icode_expand_proof.specs.Standing.{layout_of, op_stands_at}
use Rattle.icode_expand_proof.specs.Settings.{Setting, places_of}

-- the registers that a callee gives back as it found them: those of places, $k0, $k1, $gp, $sp and $fp
abbrev pub IsCalleeSaved : ℕ → Type 0
IsCalleeSaved r = IsKept r × (r ≢ 31) × ((r < 12) ⊎ (16 ≤ r))

-- the same for a call whose frame begins at the stack pointer
pub record Alike (d after : Data) : Type 0 where
  pub registers : (r : ℕ) → IsCalleeSaved r → after.registers r ≡ d.registers r
  pub stack : (n : ℕ) → pointer d / 4 ≤ n → after.stack n ≡ d.stack n

-- memory but the stack, and the outside, are as they were, but for the count of active calls of compiled functions
abbrev pub counted_cells : Bool → ℕ → (ℕ → ℕ) → ℕ → ℕ
counted_cells false by cells = cells
counted_cells true by cells = update (ACTIVE_CALLS_CELL / 4) (wrap (cells (ACTIVE_CALLS_CELL / 4) + by)) cells

pub record Counted (counts : Bool) (by : ℕ) (d after : Data) : Type 0 where
  pub objects : after.objects ≡ d.objects
  pub closures : after.closures ≡ d.closures
  pub spec_rows : after.spec_rows ≡ d.spec_rows
  pub emit_stack : after.emit_stack ≡ d.emit_stack
  pub table : after.table ≡ d.table
  pub outside : after.outside ≡ d.outside
  pub cells : after.cells ≡ counted_cells counts by d.cells

-- the place whose register this is; 12, which is no place of a register, for the others
abbrev pub place_number : ℕ → ℕ
place_number r =
    if nat_lt r 8 then 12
    else (if nat_lt r 12 then r else (if nat_lt r 16 then 12 else (if nat_lt r 24 then (r - 16) else 12)))

-- What the caller of a function finds when it returns: its frame and its frame's objects are given back, and the
-- registers of its places hold what was saved.
abbrev pub unwound_register : Function → List ℕ → Data → ℕ → ℕ
unwound_register f places d r =
    if nat_eq r 29 then (pointer d + f.charge)
    else (if nat_eq r 30 then (d.registers 30 - f.object)
    else (if has (saved places) (place_number r) then frame_word d (save_offset (place_number r)) else d.registers r))

abbrev pub unwound : Function → List ℕ → Data → Data
unwound f places d = record d { registers = unwound_register f places d }

-- What a call has at its next op, whether it runs or waits: its frame, the values of its registers that are live and
-- set, its parameters in the frame above, $gp, and its frame's objects.
pub record FrameAgrees (s : Setting) (w : Frame) (d : Data) : Type 0 where
  pub framed : Framed (pointer d) w.function.charge
  pub agrees :
      (v : ℕ) → v < length (places_of s w.function) → Live w.function.ops v w.index → w.on v ≡ true →
      value d ((layout_of w.function (places_of s w.function)).spot v) ≡ w.values v
  pub words : (v : ℕ) → w.values v < 4294967296
  pub reach :
      (k x : ℕ) → w.parameters k ≡ Some x →
      (x < 4294967296) × (pointer d + w.function.charge + 4 * k + 4 ≤ STACK_TOP)
  pub stand : (k x : ℕ) → w.parameters k ≡ Some x → frame_word d (w.function.charge + 4 * k) ≡ x
  pub global : d.registers 28 ≡ GLOBAL_POINTER
  pub objects_from : FRAMES + w.function.object ≤ d.registers 30
  pub objects_to : d.registers 30 ≤ OBJECTS_END

-- the call waits at its next op, to which its callee returns
pub record Waits (s : Setting) (w : Frame) (d : Data) (address : ℕ) : Type 0 where
  pub address_is : address ≡ op_stands_at w.function (places_of s w.function) w.index
  pub known : s.program.function_at w.function.address ≡ Some w.function
  pub ready : FrameAgrees s w d

-- the calls wait, where the running function returns with these data to this address
abbrev pub CallersWait : Setting → List Frame → Data → ℕ → Type 0
CallersWait s [] d address = address ≡ s.exit
CallersWait s (w ∷ ws) d address =
    Waits s w d address × CallersWait s ws (unwound w.function (places_of s w.function) d) (frame_word d 80)
