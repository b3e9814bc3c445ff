-- What is said of an outcome: its exit status and its line on standard error. Statuses and lines are the product's own.
use Rattle.std.specs.Prelude.{ℕ, List, [], ◌++◌, codes, decimal}
use Rattle.asm_print.specs.Numbers.{prefixed_word}
use Rattle.host_edge.specs.Endings.{trap_name, machine_name}
use Rattle.tick_tree.specs.Faults.{number, name}
use Rattle.asm_passes.specs.Faults as asm
use Rattle.image_file.specs.Format.{fault_number}
use Rattle.image_file.specs.declared.fault.ImageFault.{ImageFault}
use Rattle.image_file.specs.declared.fault.ImageFault.TheVariants.{Short, Magic, Version, Counts, Entry, Trailing}
use Rattle.tick_outcome.specs.declared.outcome.Outcome.{Outcome}
use Rattle.tick_outcome.specs.declared.outcome.Outcome.TheVariants.{Done, BadWords, Refused, AsmRefused, LoadFault}
use Rattle.tick_outcome.specs.declared.outcome.Outcome.TheVariants.{TooLong, BadImage, Trap, MachineFault, OutOfSteps}
use Rattle.tick_outcome.specs.declared.outcome.Outcome.TheVariants.{WriteFault, ReadFault, SaveFault}

-- the exit status of an outcome
abbrev pub status_of : Outcome → ℕ
status_of (Done s) = s
status_of (BadWords place) = 64
status_of (Refused fault) = 65
status_of (AsmRefused fault) = 68
status_of LoadFault = 66
status_of TooLong = 67
status_of (BadImage fault) = 69
status_of (Trap k) = 70
status_of (MachineFault k at) = 71
status_of (OutOfSteps n) = 72
status_of WriteFault = 73
status_of ReadFault = 74
status_of SaveFault = 75

-- the name of a rule of the image format
abbrev pub image_fault_name : ImageFault → List ℕ
image_fault_name Short = codes "Short"
image_fault_name Magic = codes "Magic"
image_fault_name Version = codes "Version"
image_fault_name Counts = codes "Counts"
image_fault_name Entry = codes "Entry"
image_fault_name Trailing = codes "Trailing"

-- the line on standard error
abbrev pub line_of : Outcome → List ℕ
line_of (Done s) = []
line_of (BadWords place) = codes "tick: bad words at " ++ decimal place ++ codes "\n"
line_of (Refused fault) =
    codes "tick: line " ++ decimal fault.line ++ codes ": " ++ decimal (number fault.kind) ++ codes " " ++ name
    fault.kind
    ++ codes "\n"
line_of (AsmRefused fault) =
    codes "tick: line " ++ decimal fault.line ++ codes ": asm " ++ decimal (asm.number fault.kind) ++ codes " " ++
    asm.name fault.kind ++ codes "\n"
line_of LoadFault = codes "tick: cannot load\n"
line_of TooLong = codes "tick: too long\n"
line_of (BadImage fault) =
    codes "tick: image " ++ decimal (fault_number fault) ++ codes " " ++ image_fault_name fault ++ codes "\n"
line_of (Trap k) = codes "tick: trap " ++ trap_name k ++ codes "\n"
line_of (MachineFault k at) = codes "tick: machine " ++ machine_name k ++ codes " at " ++ prefixed_word at ++ codes "\n"
line_of (OutOfSteps n) = codes "tick: out of " ++ decimal n ++ codes " steps\n"
line_of WriteFault = codes "tick: write fault\n"
line_of ReadFault = codes "tick: read fault\n"
line_of SaveFault = codes "tick: save fault\n"
