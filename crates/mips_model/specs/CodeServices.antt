-- The services by which code makes code: a function is begun, its ops are built one by one, it is finished into words
-- of the arena, the words are flushed, and the function is published in the function table. Each answers a word, or is
-- refused for the first reason that holds; a refused service changes nothing. These are the project's own rules.
use Rattle.std.specs.Prelude.{ℕ, ◌+◌, ◌-◌, ◌*◌, ◌/◌, ◌%◌, suc, Bool, true, false, ◌&&◌, nat_eq, nat_lt, nat_le}
use Rattle.std.specs.Prelude.{if◌then◌else◌, List, [], ◌∷◌, Option, Some, None, is_some, length}
use Rattle.word32.specs.declared.map.TheConstants.{TEXT, ARENA, ARENA_BYTES, STACK_BYTES, FUNCTION_ROWS}
use Rattle.limits.specs.declared.program.TheConstants.{MOST_ARGUMENTS}
use Rattle.limits.specs.declared.run.TheConstants.{STACK_OF_A_CALL}
use Rattle.code_arena.specs.Arena.{Arena, written, flushed}
use Rattle.code_arena.specs.Rows.{published}
use Rattle.icode_ir.specs.declared.build_op.BuildOp.{BuildOp}
use Rattle.icode_ir.specs.declared.build_op.BuildFault.{BuildFault}
use Rattle.icode_ir.specs.Build.{Build, empty, finished}
use Rattle.icode_ir.specs.Rules.{fault_of, effect}
use Rattle.icode_ir.specs.Decoded.{op_of}
use Rattle.icode_templates.specs.Expansion.{expanded}
use Rattle.mips_model.specs.declared.bad_service.BadService.{BadService}
use Rattle.mips_model.specs.declared.bad_service.BadService.TheVariants.{NoService, Begun, NotBegun}
use Rattle.mips_model.specs.declared.bad_service.BadService.TheVariants.{BadArgument, BadOp, NotEmpty}
use Rattle.mips_model.specs.declared.bad_service.BadService.TheVariants.{OutsideArena, Short, BadFrame, BadRow}
use Rattle.mips_model.specs.Choices.{Choice}

-- what the services keep from one to the next, beside the arena and the function table
pub record Generator : Type 0 where
  -- the builder of the function that is begun, if one is
  pub build : Option Build
  -- the places of the registers of the function that was finished last
  pub choices : List ℕ
  -- how many registers with an interval had a slot, in all functions that were finished
  pub spills : ℕ

-- before the first service
abbrev pub fresh : Generator
fresh = record { build = None; choices = []; spills = 0 }

-- the function table: address and count of parameters of each row
abbrev pub Rows : Type 0
Rows = ℕ → ℕ × ℕ

-- What a service does: it is refused; or it answers, the generator becomes another one, and the arena and the function
-- table change so.
pub data Outcome : Type 0 where
  Refused : BadService → Outcome
  Does : (answer : ℕ) → Generator → (Arena → Arena) → (Rows → Rows) → Outcome

-- only the generator changes, and the answer is 0
abbrev pub builds : Generator → Outcome
builds g = Does 0 g (λ a. a) (λ r. r)

-- refused for the first reason, if there is one
abbrev pub unless : Option BadService → Outcome → Outcome
unless None outcome = outcome
unless (Some why) outcome = Refused why

-- ---- service 64 begins a function of so many parameters

abbrev pub begin_refusal : ℕ → Generator → Option BadService
begin_refusal parameters g =
    if is_some g.build then Some Begun else (if nat_lt MOST_ARGUMENTS parameters then Some BadArgument else None)

abbrev pub begun : ℕ → Generator → Generator
begun parameters g = record g { build = Some (empty parameters) }

abbrev pub begin : ℕ → Generator → Outcome
begin parameters g = unless (begin_refusal parameters g) (builds (begun parameters g))

-- ---- service 65 builds the op of a code and two arguments

abbrev pub built : Option BuildFault → BuildOp → Build → Generator → Outcome
built (Some fault) op b g = Refused BadOp
built None op b g = builds (record g { build = Some (effect op b) })

abbrev pub emit_op : Option BuildOp → Build → Generator → Outcome
emit_op None b g = Refused BadArgument
emit_op (Some op) b g = built (fault_of op b) op b g

abbrev pub emit_in : Option Build → Option BuildOp → Generator → Outcome
emit_in None op g = Refused NotBegun
emit_in (Some b) op g = emit_op op b g

abbrev pub emit : (code first second : ℕ) → Generator → Outcome
emit code first second g = emit_in g.build (op_of code first second) g

-- ---- service 66 finishes the function: its words from an address on, at most so many, with a frame of so many bytes

-- the number of an arena's word
abbrev pub arena_word : ℕ → ℕ
arena_word at = at / 4 - ARENA / 4

-- so many words from an address on are in the arena, and the address is that of one
abbrev pub is_arena_range : ℕ → ℕ → Bool
is_arena_range at count =
    nat_eq (at % 4) 0 && (nat_le ARENA at &&
    (nat_lt at (ARENA + ARENA_BYTES) && nat_le (at + 4 * count) (ARENA + ARENA_BYTES)))

-- a frame has the words of a call and a slot for each register
abbrev pub is_frame : (bytes registers : ℕ) → Bool
is_frame bytes registers =
    nat_le (STACK_OF_A_CALL + 4 * registers) bytes && (nat_le bytes STACK_BYTES && nat_eq (bytes % 4) 0)

abbrev pub is_empty : {X : Type 0} → List X → Bool
is_empty [] = true
is_empty (x ∷ xs) = false

-- no operand and no body is left
abbrev pub is_done : Build → Bool
is_done b = is_empty b.operands && is_empty b.bodies

-- the reasons that don't depend on the choice of places
abbrev pub finish_refusal : Build → (at most frame : ℕ) → Option BadService
finish_refusal b at most frame =
    if is_done b
    then (if is_arena_range at most then (if is_frame frame b.registers then None else Some BadFrame)
    else Some OutsideArena)
    else Some NotEmpty

-- the arena with words from a word on
abbrev pub written_from : ℕ → List ℕ → Arena → Arena
written_from i [] a = a
written_from i (w ∷ ws) a = written_from (suc i) ws (written i w a)

-- the words of the function: the expansion of a compiled function without frame objects
abbrev pub words_of : Build → Choice → (at frame : ℕ) → List ℕ
words_of b choice at frame = expanded (finished b) choice.places at frame 0 true

-- the generator with a function finished
abbrev pub finished_with : Choice → Generator → Generator
finished_with choice g = record { build = None; choices = choice.places; spills = g.spills + choice.spills }

abbrev pub write : List ℕ → Choice → (at most : ℕ) → Generator → Outcome
write words choice at most g =
    if nat_le (length words) most
    then Does (length words) (finished_with choice g) (written_from (arena_word at) words) (λ r. r)
    else Refused Short

abbrev pub finish_in : Option Build → Choice → (at most frame : ℕ) → Generator → Outcome
finish_in None choice at most frame g = Refused NotBegun
finish_in (Some b) choice at most frame g =
    unless (finish_refusal b at most frame) (write (words_of b choice at frame) choice at most g)

abbrev pub finish : Choice → (at most frame : ℕ) → Generator → Outcome
finish choice at most frame g = finish_in g.build choice at most frame g

-- ---- service 67 flushes so many words from an address on

abbrev pub flush : (at count : ℕ) → Generator → Outcome
flush at count g =
    if is_arena_range at count then Does 0 g (flushed (arena_word at) count) (λ r. r) else Refused OutsideArena

-- ---- service 68 publishes the function at an address, of so many parameters, as a row of the function table

abbrev pub is_row : ℕ → Bool
is_row row = nat_lt 0 row && nat_lt row FUNCTION_ROWS

-- an address of the text's region or of the arena, however long the text is
abbrev pub is_code_address : ℕ → Bool
is_code_address at = nat_eq (at % 4) 0 && (nat_le TEXT at && nat_lt at (ARENA + ARENA_BYTES))

abbrev pub is_entry : (row at count : ℕ) → Bool
is_entry row at count = is_row row && (is_code_address at && nat_le count MOST_ARGUMENTS)

abbrev pub publish : (row at count : ℕ) → Generator → Outcome
publish row at count g =
    if is_entry row at count then Does 0 g (λ a. a) (published row at count) else Refused BadRow

-- ---- the service of a number, under a choice of places for a function that it finishes

abbrev pub service : Choice → (number first second third : ℕ) → Generator → Outcome
service choice number first second third g =
    if nat_eq number 64 then begin first g
    else (if nat_eq number 65 then emit first second third g
    else (if nat_eq number 66 then finish choice first second third g
    else (if nat_eq number 67 then flush first second g
    else (if nat_eq number 68 then publish first second third g
    else Refused NoService))))
