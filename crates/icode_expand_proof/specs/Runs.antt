-- The run from a function's first instruction to its first op, and from its epilogue back to its caller.
use Rattle.std.specs.Prelude.{◌≡◌, ℕ, ◌+◌, ◌-◌, List}
use Rattle.mips_model.specs.State.{Code, Data}
use Rattle.mips_model.specs.Laws.{at}
use Rattle.icode_meaning.specs.State.{Function}
use Rattle.icode_templates_proof.specs.Spots.{pointer, frame_word}
use Rattle.icode_templates_proof.specs.Moves.{Runs}
use Rattle.icode_expand_proof.specs.Standing.{op_stands_at, leave_at}
use Rattle.icode_expand_proof.specs.Frames.{Alike, Counted, unwound}

-- The function has begun: its frame and its frame's objects are taken, its caller will find again what it left, the
-- return address stands in the frame, and the call is counted where the function is compiled.
pub record Beginning (f : Function) (places : List ℕ) (c : Code) (d : Data) : Type 0 where
  pub after : Data
  pub runs : Runs 9 32 (at c f.address 0 d) (at c (op_stands_at f places 0) 0 after)
  pub alike : Alike d (unwound f places after)
  pub pointer_is : pointer after ≡ pointer d - f.charge
  pub objects_is : after.registers 30 ≡ d.registers 30 + f.object
  pub global : after.registers 28 ≡ d.registers 28
  pub address : frame_word after 80 ≡ d.registers 31
  pub world : Counted f.compiled 1 d after

-- The function has left, with the answer in $v0: the caller finds again what it left.
pub record Leaving (f : Function) (places : List ℕ) (c : Code) (d : Data) : Type 0 where
  pub after : Data
  pub runs : Runs 6 25 (at c (leave_at f places) 0 d) (at c (frame_word d 80) 0 after)
  pub alike : Alike (unwound f places d) after
  pub answer : after.registers 2 ≡ d.registers 2
  pub world : Counted f.compiled 4294967295 d after
