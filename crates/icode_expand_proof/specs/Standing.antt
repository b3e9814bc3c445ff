-- The code of a function under places of its registers, when it stands in memory, and when its words do. The rules are
-- this project's own.
use Rattle.std.specs.Prelude.{◌≡◌, ℕ, ◌+◌, ◌*◌, ◌/◌, ◌%◌, ◌<◌, ◌≤◌, List, [], ◌∷◌, ◌++◌, length, Some}
use Rattle.mips_encoder.specs.declared.instruction.Instr.{Instr}
use Rattle.mips_encoder.specs.Addresses.{past}
use Rattle.mips_model.specs.State.{Code}
use Rattle.mips_model.specs.Laws.{HasAt}
use Rattle.icode_ops.specs.Flow.{op_at}
use Rattle.icode_ops.specs.Finished.{InRange}
use Rattle.icode_ops.specs.Places.{IsLegal}
use Rattle.mips_assembly.specs.Assembly.{addu, ori, syscall}
use Rattle.icode_templates.specs.Layout.{Layout, laid}
use Rattle.icode_templates.specs.Templates.{ToEpilogue}
use Rattle.icode_templates.specs.Frames.{prologue, epilogue}
use Rattle.icode_saves.specs.Places.{saved}
use Rattle.icode_templates.specs.Expansion.{op_address, aims, body, expansion}
use Rattle.icode_meaning.specs.State.{Function}
use Rattle.limits.specs.declared.run.TheConstants.{MOST_FRAME_BYTES, STACK_OF_A_CALL}
use Rattle.word32.specs.declared.map.TheConstants.{SEGMENT_BYTES}

-- the spots of a function's registers, and the code before its ops and behind them
abbrev pub layout_of : Function → List ℕ → Layout
layout_of f places = laid places f.charge f.object

abbrev pub front_code : Function → List ℕ → List Instr
front_code f places = prologue f.charge f.object (saved places) f.compiled

abbrev pub back_code : Function → List ℕ → List Instr
back_code f places = epilogue f.charge f.object (saved places) f.compiled

-- its instructions
abbrev pub code_of : Function → List ℕ → List Instr
code_of f places = expansion f.ops places f.address f.charge f.object f.compiled

-- where its ops begin, and where op i stands
abbrev pub ops_at : Function → List ℕ → ℕ
ops_at f places = past f.address (front_code f places)

abbrev pub op_stands_at : Function → List ℕ → ℕ → ℕ
op_stands_at f places i = op_address (layout_of f places) (ops_at f places) f.ops i

-- and its epilogue
abbrev pub leave_at : Function → List ℕ → ℕ
leave_at f places = aims (layout_of f places) (ops_at f places) f.ops ToEpilogue

-- The function suits the places: they are legal, its frame has a word for each register, in whole words, and its code
-- lies in the first segment, where jumps reach. Its charge and its frame objects have a gigabyte each at most.
pub record Suits (f : Function) (places : List ℕ) : Type 0 where
  pub in_range : (p : ℕ) → InRange (length places) (op_at f.ops p)
  pub legal : IsLegal f.ops (length places) places
  pub room : STACK_OF_A_CALL + 4 * length places ≤ f.charge
  pub whole : f.charge % 4 ≡ 0
  pub small : f.charge ≤ MOST_FRAME_BYTES
  pub few : f.object ≤ MOST_FRAME_BYTES
  pub even : f.address % 4 ≡ 0
  pub low : past f.address (code_of f places) < SEGMENT_BYTES

-- and its instructions stand in the code
pub record Stands (c : Code) (f : Function) (places : List ℕ) : Type 0 where
  pub suits : Suits f places
  pub code : HasAt c f.address (code_of f places)

-- Its ops and what is behind them stand: so it runs, once it has begun. What begins it may be an entry, at which a run
-- is told of.
pub record OpsStand (c : Code) (f : Function) (places : List ℕ) : Type 0 where
  pub suits : Suits f places
  pub code : HasAt c (ops_at f places) (body (layout_of f places) (ops_at f places) f.ops ++ back_code f places)

-- words stand in the text, one behind another
abbrev pub WordsAt : Code → ℕ → List ℕ → Type 0
WordsAt c a [] = Unit {0}
WordsAt c a (w ∷ ws) = (c.text (a / 4) ≡ Some w) × WordsAt c (a + 4) ws

-- the start exits with main's answer
abbrev pub exit_code : List Instr
exit_code = addu 4 2 0 ∷ ori 2 0 10 ∷ syscall ∷ []
