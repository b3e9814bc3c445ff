-- One step: an instruction is fetched, and takes effect unless it is a hazard. In this order a step is refused: Fetch
-- where there is no word at the address, Stale where the arena's word isn't flushed, Reserved where the table has no
-- such word, Hazard, and then what the instruction itself refuses. A branch or jump acts after the instruction behind
-- it, its delay slot, whether it is taken or not. The delays and hazards are those of the MIPS R2000 architecture
-- manual, made faults here.
use Rattle.std.specs.Prelude.{ℕ, ◌+◌, ◌-◌, ◌*◌, ◌/◌, ◌%◌, Bool, true, false, ◌&&◌, ◌||◌, ◌==◌, nat_eq, nat_lt}
use Rattle.std.specs.Prelude.{if◌then◌else◌, Option, Some, None, is_some, Result, Ok, Err}
use Rattle.std.specs.Fn.{iterate}
use Rattle.word32.specs.Words.{wrap, widened_half}
use Rattle.word32.specs.Parts.{is_aligned, loaded_part}
use Rattle.word32.specs.declared.width.Width.{Width}
use Rattle.word32.specs.declared.map.TheConstants.{ARENA, ARENA_BYTES, SEGMENT_BYTES}
use Rattle.code_arena.specs.Arena as arena
use Rattle.code_arena.specs.Arena.{Arena}
use Rattle.code_arena.specs.declared.arena.Stale.{Stale}
use Rattle.host_edge.specs.declared.ending.Ending.TheVariants.{Trap}
use Rattle.host_edge.specs.declared.ending.MachineKind.{MachineKind}
use Rattle.host_edge.specs.declared.ending.MachineKind.TheVariants as kind
use Rattle.host_edge.specs.declared.ending.TrapKind.TheVariants as trap
use Rattle.history.specs.Events.{End, Ended, ReadFault, Fault}
use Rattle.mips_encoder.specs.Decoded.{instr_of}
use Rattle.mips_encoder.specs.declared.instruction.Instr.{Instr}
use Rattle.mips_model.specs.State.{Code, Data, State, World, set_register}
use Rattle.mips_model.specs.Accesses.{Effect, Plain, Loads, Changes, ReadsText, ReadsArena, StoresText, Branches}
use Rattle.mips_model.specs.Accesses.{BranchesLinking, Jumps, JumpsLinking, Goes, GoesLinking, Ends, Faults, InputFails}
use Rattle.mips_model.specs.Accesses.{arena_word}
use Rattle.mips_model.specs.Effects.{effect, touches, jumps, reads_hilo, sets_hilo}

-- What is found at an address: an instruction, or why none is executed there.
pub data Fetched : Type 0 where
  Refused : MachineKind → Fetched
  Is : Instr → Fetched

-- the word at an address, below the arena in the text, and else in the arena
abbrev pub text_word : Code → ℕ → Option ℕ
text_word c at = if (at % 4 == 0) then c.text (at / 4) else None

abbrev pub from_text : Option ℕ → Result ℕ MachineKind
from_text None = Err kind.Fetch
from_text (Some w) = Ok w

abbrev pub from_arena : Result ℕ Stale → Result ℕ MachineKind
from_arena (Err stale) = Err kind.Stale
from_arena (Ok w) = Ok w

abbrev pub is_arena_word : ℕ → Bool
is_arena_word at = (at % 4 == 0) && nat_lt at (ARENA + ARENA_BYTES)

abbrev pub word_in_arena : Code → ℕ → Result ℕ MachineKind
word_in_arena c at =
    if is_arena_word at then from_arena (arena.fetch (arena_word at) c.arena) else Err kind.Fetch

abbrev pub word_at : Code → ℕ → Result ℕ MachineKind
word_at c at = if nat_lt at ARENA then from_text (text_word c at) else word_in_arena c at

abbrev pub decoded : Option Instr → Fetched
decoded None = Refused kind.Reserved
decoded (Some i) = Is i

abbrev pub found : Result ℕ MachineKind → Fetched
found (Err k) = Refused k
found (Ok w) = decoded (instr_of w)

abbrev pub fetch : Code → ℕ → Fetched
fetch c at = found (word_at c at)

-- the run goes on, or has ended
abbrev pub going : State → World
going s = record { state = s; ending = None }

abbrev pub ended : End → State → World
ended e s = record { state = s; ending = Some e }

abbrev pub faulted : MachineKind → State → World
faulted k s = ended (Fault k s.pc) s

-- on to the next instruction, where the one behind it stands at `next`; and r more instructions keep from HI and LO
abbrev pub onward : (next loaded recent : ℕ) (slot : Bool) → Code → Data → State → World
onward next loaded recent slot c d s =
    going (record { pc = s.next; next = next; loaded = loaded; recent = recent; slot = slot; code = c; d = d })

-- the word of an address was loaded from text or arena
abbrev pub reads : Option ℕ → (r at : ℕ) → Width → ℕ → State → World
reads None r at width recent s = ended (Ended (Trap trap.Range)) s
reads (Some w) r at width recent s =
    if is_aligned at width
    then onward (s.next + 4) r recent false s.code (set_register r (loaded_part w at width) s.d) s
    else ended (Ended (Trap trap.Misaligned)) s

-- nothing may store to the text
abbrev pub stores_text : Option ℕ → ℕ → Width → State → World
stores_text None at width s = ended (Ended (Trap trap.Range)) s
stores_text (Some w) at width s = ended (Ended (Trap (if is_aligned at width then trap.Range else trap.Misaligned))) s

-- where branches and jumps go, and where linking ones come back to: behind their slot, which stands at `next`
abbrev pub branch_target : Bool → ℕ → State → ℕ
branch_target taken offset s = if taken then wrap (s.next + 4 * widened_half offset) else (s.next + 4)

abbrev pub segment_target : ℕ → State → ℕ
segment_target word s = s.next / SEGMENT_BYTES * SEGMENT_BYTES + 4 * word

abbrev pub link : ℕ → State → Data
link r s = set_register r (wrap (s.next + 4)) s.d

abbrev pub apply : Effect → ℕ → State → World
apply (Plain d) recent s = onward (s.next + 4) 0 recent false s.code d s
apply (Loads r d) recent s = onward (s.next + 4) r recent false s.code d s
apply (Changes f d) recent s = onward (s.next + 4) 0 recent false (record s.code { arena = f s.code.arena }) d s
apply (ReadsText r at width) recent s = reads (s.code.text (at / 4)) r at width recent s
apply (ReadsArena r at width) recent s = reads (Some (s.code.arena.words (arena_word at))) r at width recent s
apply (StoresText at width) recent s = stores_text (s.code.text (at / 4)) at width s
apply (Branches taken offset) recent s = onward (branch_target taken offset s) 0 recent true s.code s.d s
apply (BranchesLinking taken offset) recent s = onward (branch_target taken offset s) 0 recent true s.code (link 31 s) s
apply (Jumps target) recent s = onward target 0 recent true s.code s.d s
apply (JumpsLinking r target) recent s = onward target 0 recent true s.code (link r s) s
apply (Goes word) recent s = onward (segment_target word s) 0 recent true s.code s.d s
apply (GoesLinking word) recent s = onward (segment_target word s) 0 recent true s.code (link 31 s) s
apply (Ends e) recent s = ended (Ended e) s
apply (Faults k) recent s = faulted k s
apply InputFails recent s = ended ReadFault s

-- The register that the last instruction loaded is named; HI or LO is set within two instructions after it was read;
-- a branch or jump stands in a delay slot.
abbrev pub load_hazard : ℕ → Instr → Bool
load_hazard r i = if nat_eq r 0 then false else touches i r

abbrev pub hilo_hazard : ℕ → Instr → Bool
hilo_hazard recent i = if nat_eq recent 0 then false else sets_hilo i

abbrev pub is_hazard : Instr → State → Bool
is_hazard i s = load_hazard s.loaded i || (hilo_hazard s.recent i || (s.slot && jumps i))

abbrev pub recent_behind : Instr → ℕ → ℕ
recent_behind i recent = if reads_hilo i then 2 else (recent - 1)

abbrev pub act : Instr → State → World
act i s = apply (effect i s.d) (recent_behind i s.recent) s

abbrev pub checked : Instr → State → World
checked i s = if is_hazard i s then faulted kind.Hazard s else act i s

abbrev pub execute : Fetched → State → World
execute (Refused k) s = faulted k s
execute (Is i) s = checked i s

-- one instruction, unless the run has ended
abbrev pub step : World → World
step w = if is_some w.ending then w else execute (fetch w.state.code w.state.pc) w.state

-- so many instructions
unfoldable pub run : ℕ → World → World
run n w = iterate step n w
