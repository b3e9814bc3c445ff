-- When a function stands in memory under places of its registers: its words stand in the text, and the places suit.
use Rattle.std.specs.Prelude.{◌≡◌, ℕ, ◌+◌, ◌*◌, ◌%◌, ◌<◌, ◌≤◌, List, length}
use Rattle.word32.specs.declared.map.TheConstants.{ARENA, SEGMENT_BYTES}
use Rattle.mips_model.specs.State.{Code}
use Rattle.mips_encoder.specs.Addresses.{past}
use Rattle.icode_ops.specs.Flow.{op_at}
use Rattle.icode_ops.specs.Finished.{IsFinished}
use Rattle.icode_ops.specs.Places.{IsLegal}
use Rattle.icode_templates.specs.Expansion.{expanded}
use Rattle.icode_meaning.specs.State.{Function}
use Rattle.icode_expand_proof.specs.Standing.{Suits, Stands, WordsAt, code_of}
use Rattle.icode_expand_proof.specs.Served.{IsServed}
use Rattle.limits.specs.declared.ops.TheConstants.{FRAME_WORDS, OP_WORDS}
use Rattle.limits.specs.declared.run.TheConstants.{MOST_FRAME_BYTES, STACK_OF_A_CALL}

-- A function that suits its places, and whose ops are served, stands where the words of its expansion stand in the
-- text, where they end below the arena.
abbrev pub WordsSuffice : Type 0
WordsSuffice =
    (c : Code) (f : Function) (places : List ℕ) → Suits f places → ((p : ℕ) → IsServed (op_at f.ops p))
    → past f.address (code_of f places) ≤ ARENA
    → WordsAt c f.address (expanded f.ops places f.address f.charge f.object f.compiled) → Stands c f places

-- What a builder and a choice of places give suits, where the frame has room and the code ends where jumps reach.
abbrev pub LegalPlacesSuit : Type 0
LegalPlacesSuit =
    (f : Function) (registers : ℕ) (places : List ℕ) → IsFinished f.ops registers → IsLegal f.ops registers places
    → STACK_OF_A_CALL + 4 * registers ≤ f.charge → f.charge % 4 ≡ 0 → f.charge ≤ MOST_FRAME_BYTES
    → f.object ≤ MOST_FRAME_BYTES → f.address % 4 ≡ 0
    → f.address + 4 * (OP_WORDS * length f.ops + FRAME_WORDS) < SEGMENT_BYTES → Suits f places
