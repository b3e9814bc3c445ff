-- The expansion of a list of ops: the prologue, the templates of the ops one behind another, and the epilogue, with the
-- address of each label filled in. An instruction has 4 bytes, and how many an op has doesn't depend on the labels'
-- addresses, so they are found from templates where each address is 0. These are the project's own rules.
use Rattle.std.specs.Prelude.{ℕ, zero, suc, Bool, List, [], ◌∷◌, ◌++◌}
use Rattle.mips_encoder.specs.declared.instruction.Instr.{Instr}
use Rattle.mips_encoder.specs.Addresses.{past}
use Rattle.icode_ops.specs.Labels.{label_index}
use Rattle.icode_ops.specs.declared.op.Op.{Op}
use Rattle.icode_templates.specs.Layout.{Layout, laid}
use Rattle.icode_templates.specs.Templates.{Aim, ToLabel, ToEpilogue, template}
use Rattle.icode_templates.specs.Words.{words}
use Rattle.icode_templates.specs.Frames.{prologue, epilogue}
use Rattle.icode_saves.specs.Places.{saved}

abbrev pub nowhere : Aim → ℕ
nowhere aim = 0

-- the templates one behind another
abbrev pub templates : Layout → (Aim → ℕ) → List Op → List Instr
templates layout address [] = []
templates layout address (op ∷ ops) = template layout address op ++ templates layout address ops

-- the address of op i, where the first stands at this address
abbrev pub op_address : Layout → ℕ → List Op → ℕ → ℕ
op_address layout start [] i = start
op_address layout start (op ∷ ops) zero = start
op_address layout start (op ∷ ops) (suc i) = op_address layout (past start (template layout nowhere op)) ops i

-- the addresses to which ops go: a label's op, or what follows the last op
abbrev pub aims : Layout → ℕ → List Op → Aim → ℕ
aims layout start ops (ToLabel label) = op_address layout start ops (label_index label ops)
aims layout start ops ToEpilogue = past start (templates layout nowhere ops)

-- the ops from this address on
abbrev pub body : Layout → ℕ → List Op → List Instr
body layout start ops = templates layout (aims layout start ops) ops

-- a function at an address: its ops, the places of its registers, the bytes of its frame and of the frame's objects,
-- and whether it is a compiled one
abbrev pub expansion : (ops : List Op) (places : List ℕ) (address frame objects : ℕ) (compiled : Bool) → List Instr
expansion ops places address frame objects compiled =
    let first = prologue frame objects (saved places) compiled in
    first
    ++ (body (laid places frame objects) (past address first) ops ++ epilogue frame objects (saved places) compiled)

-- its words
abbrev pub expanded : (ops : List Op) (places : List ℕ) (address frame objects : ℕ) (compiled : Bool) → List ℕ
expanded ops places address frame objects compiled = words (expansion ops places address frame objects compiled)
