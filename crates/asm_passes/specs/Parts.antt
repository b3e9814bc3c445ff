-- What the lines of a text gave up to a place, which stands before what the lines behind it give.
use Rattle.std.specs.Prelude.{◌≡◌, ℕ, ◌≤◌, ◌==◌, if◌then◌else◌, IsTrue, List, [], ◌∷◌, ◌++◌, length}
use Rattle.std.specs.Prelude.{Option, Some, None, Result, Ok, Err}
use Rattle.std.specs.List.{list_all}
use Rattle.std.specs.Option.{option_or}
use Rattle.image_file.specs.declared.image.FunctionEntry.{FunctionEntry}
use Rattle.image_file.specs.Image.{is_in_text, is_function_in}
use Rattle.asm_passes.specs.declared.parts.Parts.{Parts}
use Rattle.asm_passes.specs.declared.fault.AsmFault.{AsmFault}
use Rattle.asm_passes.specs.declared.fault.AsmFaultKind.TheVariants.{BadLine}
use Rattle.asm_passes.specs.declared.fault.AsmDeny.{AsmDeny}
use Rattle.asm_passes.specs.declared.fault.AsmDeny.TheVariants.{Refused, NoMemory}
use Rattle.asm_passes.specs.declared.item.Item.{Item}
use Rattle.asm_passes.specs.Items.{entry_of, words_of, data_of, functions_of}
use Rattle.asm_passes.specs.Positions.{Placed, words}
use Rattle.asm_passes.specs.Collected.{collected, known}
use Rattle.limits.specs.declared.program.TheConstants.{MOST_FUNCTIONS}
use Rattle.limits.specs.declared.text.TheConstants.{LONGEST_TEXT}

pub record Gathered : Type 0 where
  pub entry : Option ℕ
  pub text : List ℕ
  pub bytes : List ℕ
  pub functions : List FunctionEntry

abbrev pub none : Gathered
none = record { entry = None; text = []; bytes = []; functions = [] }

abbrev pub gathered_of : Option ℕ → List ℕ → List ℕ → List FunctionEntry → Gathered
gathered_of entry text bytes functions = record { entry = entry; text = text; bytes = bytes; functions = functions }

abbrev pub parts_of : Parts → Gathered
parts_of p = gathered_of p.entry p.text.items p.bytes.items p.functions.items

-- With what one more line gives.
abbrev pub with : Gathered → Item → Gathered
with g i = record {
  entry = option_or g.entry (entry_of i);
  text = g.text ++ words_of i;
  bytes = g.bytes ++ data_of i;
  functions = g.functions ++ functions_of i;
}

-- What all lines give behind it, unless one of them has a fault.
abbrev pub with_all : Gathered → List Item → Gathered
with_all g [] = g
with_all g (i ∷ is) = with_all (with g i) is

abbrev pub gathered : Gathered → Result (List Item) AsmFault → Result Gathered AsmFault
gathered g (Ok is) = Ok (with_all g is)
gathered g (Err f) = Err f

-- What all lines of a text give, or its first fault: without a line that gives a word it has a wrong form in line 1.
abbrev pub gathered_in : List Placed → Result Gathered AsmFault
gathered_in ps = if words ps == 0 then Err (record { kind = BadLine; line = 1 }) else
    gathered none (collected (known ps) ps)

-- The answer is what is defined, unless memory was not found.
abbrev pub Gives : Result Gathered AsmFault → Result Parts AsmDeny → Type 0
Gives defined (Ok p) = defined ≡ Ok (parts_of p)
Gives defined (Err (Refused f)) = defined ≡ Err f
Gives defined (Err NoMemory) = Unit {0}

-- The entry and the functions stand at words of the text, and the parts are within the limits of images.
abbrev pub IsEntry : ℕ → Option ℕ → Type 0
IsEntry words None = Unit {0}
IsEntry words (Some a) = IsTrue (is_in_text words a)

pub record AreSound (words : ℕ) (g : Gathered) : Type 0 where
  pub entry : IsEntry words g.entry
  pub text : length g.text ≡ words
  pub bytes : length g.bytes ≤ LONGEST_TEXT
  pub functions : IsTrue (list_all (is_function_in words) g.functions)
  pub few : length g.functions ≤ MOST_FUNCTIONS
