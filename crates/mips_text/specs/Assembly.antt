-- The image that an assembly text is, or its first fault. The fault of the first line that has one counts; a text
-- without a line that gives a word has a wrong form in its first line. The text's form is this project's own.
use Rattle.std.specs.Prelude.{◌≡◌, ℕ, ◌==◌, if◌then◌else◌, List, [], ◌∷◌, Option, None, unwrap_or, Result, Ok, Err}
use Rattle.std.specs.Option.{option_or}
use Rattle.std.specs.List.{flat_map}
use Rattle.image_file.specs.Image.{ImageParts, image_of}
use Rattle.asm_passes.specs.declared.fault.AsmFault.{AsmFault}
use Rattle.asm_passes.specs.declared.fault.AsmFaultKind.TheVariants.{BadLine}
use Rattle.asm_passes.specs.declared.fault.AsmDeny.{AsmDeny}
use Rattle.asm_passes.specs.declared.fault.AsmDeny.TheVariants.{Refused, NoMemory}
use Rattle.asm_passes.specs.declared.item.Item.{Item}
use Rattle.asm_passes.specs.Items.{entry_of, words_of, data_of, functions_of}
use Rattle.asm_passes.specs.Positions.{Placed, words}
use Rattle.asm_passes.specs.Collected.{collected, known, placed_lines}
use Rattle.word32.specs.declared.map.TheConstants.{START}

-- ---- the image of what all lines give

-- The address that a program is entered at: that of its `.entry`, else the beginning of its text.
abbrev pub entry : List Item → Option ℕ
entry [] = None
entry (i ∷ is) = option_or (entry_of i) (entry is)

abbrev pub image : List Item → ImageParts
image is =
    image_of (unwrap_or (entry is) START) (flat_map words_of is) (flat_map data_of is) (flat_map functions_of is)

-- ---- the whole

abbrev pub image_by : Result (List Item) AsmFault → Result ImageParts AsmFault
image_by (Ok is) = Ok (image is)
image_by (Err f) = Err f

abbrev pub assembled_in : List Placed → Result ImageParts AsmFault
assembled_in ps = if words ps == 0 then Err (record { kind = BadLine; line = 1 }) else
    image_by (collected (known ps) ps)

-- The image that a text is, or its first fault.
unfoldable pub assembled : List ℕ → Result ImageParts AsmFault
assembled text = assembled_in (placed_lines text)

-- An answer is what is defined, the image or the first fault, unless memory was not found.
abbrev pub Answers : Result ImageParts AsmFault → Result ImageParts AsmDeny → Type 0
Answers defined (Ok i) = defined ≡ Ok i
Answers defined (Err (Refused f)) = defined ≡ Err f
Answers defined (Err NoMemory) = Unit {0}
