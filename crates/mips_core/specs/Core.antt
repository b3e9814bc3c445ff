-- What the code keeps of the machine's state, in lists, and the state that it stands for. What passes between a run and
-- the outside is kept by nobody: here the state has none of it, and whoever runs the core says what it is.
use Rattle.std.specs.Prelude.{zero, suc, ◌≢◌, ◌⊎◌, ⊤, ◌≡◌, ℕ, ◌+◌, ◌-◌, ◌/◌, ◌%◌, ◌==◌, ◌<◌, ◌≤◌, Bool, true, false}
use Rattle.std.specs.Prelude.{◌||◌, nat_eq, nat_lt, Result, Ok, Err, if◌then◌else◌, List, [], Option, Some, None}
use Rattle.std.specs.Prelude.{slice_index}
use Rattle.std.specs.Fn.{iterate}
use Rattle.flat_memory.specs.Spaces.{Spaces, text_of}
use Rattle.code_arena.specs.Arena.{Arena}
use Rattle.host_edge.specs.declared.ending.Ending.{Ending}
use Rattle.history.specs.Events.{End}
use Rattle.history.specs.Events as event
use Rattle.flat_memory.specs.Regions.{Regions, spaces_of}
use Rattle.code_arena.specs.Kept.{Kept, arena_of, rows_of}
use Rattle.word32.specs.declared.map.TheConstants.{ARENA}
use Rattle.host_edge.specs.declared.ending.MachineKind.{MachineKind}
use Rattle.host_edge.specs.declared.ending.MachineKind.TheVariants as kind
use Rattle.mips_core.specs.declared.halt.Halt.{Halt}
use Rattle.mips_core.specs.declared.halt.Halt.TheVariants.{Ended, Fault}
use Rattle.mips_core.specs.declared.halt.Went.{Went}
use Rattle.mips_core.specs.declared.halt.Went.TheVariants as went
use Rattle.mips_encoder.specs.declared.instruction.Instr.{Instr}
use Rattle.mips_model.specs.declared.bad_service.BadService.{BadService}
use Rattle.mips_model.specs.CodeServices.{Rows}
use Rattle.mips_model.specs.State.{Outside, Code, Data, State, World, set_register}
use Rattle.mips_model.specs.Run.{first_outside}
use Rattle.mips_encoder.specs.declared.instruction.Instr.TheVariants.{Break, Syscall}
use Rattle.mips_encoder.specs.declared.instruction.MemoryOp.{MemoryOp}
use Rattle.word32.specs.declared.width.Width.{Width}
use Rattle.mips_model.specs.Accesses.{Plain, load, store}
use Rattle.mips_model.specs.Services.{answer}
use Rattle.mips_model.specs.Effects.{gives, access}
use Rattle.mips_model.specs.Steps.{word_in_arena, decoded, execute, apply, onward, step, is_hazard, going, faulted}
use Rattle.mips_model.specs.Beside.{beside, is_at_service}

pub record CoreKept : Type 0 where
  pub registers : List ℕ
  pub hi : ℕ
  pub lo : ℕ
  pub pc : ℕ
  pub next : ℕ
  pub loaded : ℕ
  pub recent : ℕ
  pub slot : Bool
  pub memory : Regions
  pub arena : Kept
  pub table : List (ℕ × ℕ)
  pub stopped : Option Halt

-- a branch's target is an address
pub record IsCore (k : CoreKept) : Type 0 where
  pub is_register : k.loaded < 32
  pub target_is_low : k.slot ≡ true → k.next < 4294967296

-- where nothing is pending, no register was loaded, HI and LO may be set, and no slot is next
pub record IsSettled (pending slot : Bool) (loaded recent : ℕ) : Type 0 where
  pub no_slot : pending ≡ false → slot ≡ false
  pub not_loaded : pending ≡ false → loaded ≡ 0
  pub not_recent : pending ≡ false → recent ≡ 0

-- nothing is pending
pub record IsClear (k : CoreKept) : Type 0 where
  pub no_slot : k.slot ≡ false
  pub not_loaded : k.loaded ≡ 0
  pub not_recent : k.recent ≡ 0

-- what is behind the next instruction: a branch's target or the next word, as the next instruction stands in a slot or
-- doesn't
abbrev pub next_of : (slot : Bool) (target pc : ℕ) → ℕ
next_of slot target pc = if slot then target else (pc + 4)

-- The same with the next instruction at this address. While the loop runs it holds the address itself, and the core's
-- own is that of an earlier instruction.
abbrev pub at : ℕ → CoreKept → CoreKept
at pc k = record k { pc = pc; next = next_of k.slot k.next pc }

-- nothing of the outside
abbrev pub nothing : Outside
nothing = first_outside (record { bytes = []; failing = false }) []

abbrev pub data_of : CoreKept → Data
data_of k = record {
  registers = slice_index k.registers;
  hi = k.hi;
  lo = k.lo;
  objects = (spaces_of k.memory).objects;
  closures = (spaces_of k.memory).closures;
  spec_rows = (spaces_of k.memory).spec_rows;
  cells = (spaces_of k.memory).cells;
  emit_stack = (spaces_of k.memory).emit_stack;
  stack = (spaces_of k.memory).stack;
  table = rows_of k.table;
  outside = nothing;
}

abbrev pub state_of : CoreKept → State
state_of k = record {
  pc = k.pc;
  next = k.next;
  loaded = k.loaded;
  recent = k.recent;
  slot = k.slot;
  code = record { text = (spaces_of k.memory).text; arena = arena_of k.arena };
  d = data_of k;
}

-- the ending of a core that has stopped
abbrev pub ending_of : Halt → End
ending_of (Ended e) = event.Ended e
ending_of (Fault kind at) = event.Fault kind at

abbrev pub ending_from : Option Halt → Option End
ending_from None = None
ending_from (Some halt) = Some (ending_of halt)

abbrev pub world_of : CoreKept → World
world_of k = record { state = state_of k; ending = ending_from k.stopped }

-- a register takes a value; the run goes on behind the next instruction, or branches to an address behind it
abbrev pub wrote : ℕ → ℕ → World → World
wrote r v w = record w { state = record w.state { d = set_register r v w.state.d } }

abbrev pub moved : (next : ℕ) (slot : Bool) → World → World
moved next slot w =
    record w {
      state = record w.state
          { pc = w.state.next; next = next; loaded = 0; recent = w.state.recent - 1; slot = slot };
    }

abbrev pub with_recent : ℕ → World → World
with_recent n w = record w { state = record w.state { recent = n } }

-- HI or LO was read a while ago, if this number isn't 0
abbrev pub is_recent : ℕ → Bool
is_recent n = if nat_eq n 0 then false else true

-- The core with the next instruction in a delay slot, behind which the run goes on at a target; and with this register
-- just loaded.
abbrev pub delayed : (target : ℕ) → CoreKept → CoreKept
delayed target k = record k { next = target; slot = true }

abbrev pub held : (r : ℕ) → CoreKept → CoreKept
held r k = record k { loaded = r }

-- The core as it stands behind an instruction that stood at an address. Where nothing was pending before it, what is
-- pending behind it is in the answer, and not yet in the core.
abbrev pub behind : Went → ℕ → CoreKept → CoreKept
behind (went.On next) pc k = at next k
behind (went.Slot target) pc k = delayed target (at (pc + 4) k)
behind (went.Loaded r) pc k = held r (at (pc + 4) k)
behind (went.Pending next) pc k = at next k
behind went.Stopped pc k = at pc k
behind went.Service pc k = at pc k

-- What an instruction's answer says of the core behind it: whether the run goes on, and where nothing was pending
-- before it, that nothing is again unless the answer says so, and that the next word follows.
abbrev pub Leaves : (aside : Bool) → Went → ℕ → CoreKept → Type 0
Leaves aside (went.On next) pc k = (k.stopped ≡ None) × (aside ≡ false → IsClear k × (next ≡ pc + 4))
Leaves aside (went.Slot target) pc k = (k.stopped ≡ None) × ((aside ≡ false) × IsClear k)
Leaves aside (went.Loaded r) pc k = (k.stopped ≡ None) × ((aside ≡ false) × (IsClear k × (r < 32)))
Leaves aside (went.Pending next) pc k = (k.stopped ≡ None) × (aside ≡ false → next ≡ pc + 4)
Leaves aside went.Stopped pc k = k.stopped ≢ None
Leaves aside went.Service pc k = ⊥

-- the address of a word from which a branch goes to one, without a wrap
pub record IsApart (pc : ℕ) : Type 0 where
  pub whole : pc % 4 ≡ 0
  pub far : 131072 ≤ pc
  pub low : pc < 4294836224

-- What an instruction at an address is told of the core: it hasn't stopped, both words behind the instruction have
-- addresses, a branch needs no wrap there, and nothing is pending unless it is executed aside.
pub record IsReady (aside : Bool) (pc : ℕ) (k : CoreKept) : Type 0 where
  pub on : k.stopped ≡ None
  pub near : pc < 4294967288
  pub apart : IsApart pc
  pub plain : aside ≡ false → IsClear k

-- what an instruction at an address did, by its answer: the world behind it, and what the answer says of the core
pub record Becomes (aside : Bool) (w : World) (r : Went) (pc : ℕ) (k : CoreKept) : Type 0 where
  pub world : world_of (behind r pc k) ≡ w
  pub leaves : Leaves aside r pc k

abbrev pub chosen : Bool → ℕ → ℕ → ℕ
chosen taken target other = if taken then target else other

abbrev pub ends : Ending → End
ends e = event.Ended e

-- one of three registers was loaded by the last instruction
abbrev pub is_loaded : ℕ → ℕ → ℕ → ℕ → Bool
is_loaded loaded a b c = if nat_eq loaded 0 then false else (nat_eq a loaded || (nat_eq b loaded || nat_eq c loaded))

-- what the instruction of a word does, if there is one
abbrev pub does : Option Instr → State → World
does o s = execute (decoded o) s

-- what a word did that the table has or hasn't, whose instruction is a hazard or makes this world
abbrev pub acting : (listed hazard : Bool) → State → World → World
acting listed hazard s w =
    if listed then (if hazard then faulted kind.Hazard s else w) else faulted kind.Reserved s

pub record Acts (aside listed hazard : Bool) (s : State) (w : World) (r : Went) (pc : ℕ) (k : CoreKept) : Type 0 where
  pub becomes : Becomes aside (acting listed hazard s w) r pc k

-- what a word's instruction did, if the table has one; and of a word that may be SYSCALL, which is left
abbrev pub Does : (aside : Bool) → Option Instr → ℕ → CoreKept → Went → CoreKept → Type 0
Does aside o pc old r new = Becomes aside (does o (state_of (at pc old))) r pc new

pub record Executes (aside : Bool) (o : Option Instr) (word pc : ℕ) (old : CoreKept) (r : Went) (new : CoreKept)
    : Type 0 where
  pub service : word ≡ 12 → (r ≡ went.Service) × (new ≡ old)
  pub other : word ≢ 12 → Does aside o pc old r new

-- a register takes a value, where it fits
abbrev pub given : ℕ → Option ℕ → State → World
given r v s = apply (gives r v s.d) (s.recent - 1) s

-- HI and LO take values
abbrev pub halved : (hi lo : ℕ) → State → World
halved hi lo s = apply (Plain (record s.d { hi = hi; lo = lo })) (s.recent - 1) s

-- The run goes on in a delay slot, and behind it at a target, if the branch is taken; and the same with the address
-- behind the slot in a register.
abbrev pub branching : Bool → ℕ → State → World
branching taken target s = onward (chosen taken target (s.next + 4)) 0 (s.recent - 1) true s.code s.d s

abbrev pub linking : (r back : ℕ) → Bool → ℕ → State → World
linking r back taken target s =
    onward (chosen taken target (s.next + 4)) 0 (s.recent - 1) true s.code (set_register r back s.d) s

abbrev pub breaking : ℕ → Instr
breaking code = Break code

-- a value was loaded to a register; a load, a store and either
abbrev pub took : ℕ → ℕ → State → World
took r v s = onward (s.next + 4) r (s.recent - 1) false s.code (set_register r v s.d) s

abbrev pub loading : ℕ → ℕ → Width → State → World
loading r at width s = apply (load r at width s.d) (s.recent - 1) s

abbrev pub storing : ℕ → Width → ℕ → State → World
storing at width w s = apply (store at width w s.d) (s.recent - 1) s

abbrev pub accessing : MemoryOp → ℕ → ℕ → State → World
accessing op r at s = apply (access op r at s.d) (s.recent - 1) s

-- So many instructions, none of them a service, lead from what was kept to what is, whatever the outside is; and the
-- run hadn't ended before the last of them.
pub record GoesOn (count : ℕ) (old new : CoreKept) : Type 0 where
  pub ran : (o : Outside) → iterate step count (beside o (world_of old)) ≡ beside o (world_of new)
  pub alive : (o : Outside) (m : ℕ) → m < count → (iterate step m (beside o (world_of old))).ending ≡ None
  pub others : (o : Outside) (m : ℕ) → m < count →
      is_at_service (iterate step m (beside o (world_of old))).state ≡ false

-- the word at an address, where these are the words of the text
abbrev pub text_fetched : List ℕ → ℕ → Option ℕ
text_fetched words pc = if (pc % 4 == 0) then text_of words (pc / 4) else None

-- the word at an address that has none in the text
abbrev pub word_past_text : Code → ℕ → Result ℕ MachineKind
word_past_text c at = if nat_lt at ARENA then Err kind.Fetch else word_in_arena c at

-- the word that is executed, if one is
abbrev pub word_of : Result ℕ MachineKind → Option ℕ
word_of (Ok w) = Some w
word_of (Err why) = None

-- the loop stops before its count where the machine has stopped, or a service is next
abbrev pub Pauses : ℕ → CoreKept → Type 0
Pauses zero k = ⊤
Pauses (suc left) k = (k.stopped ≢ None) ⊎ ((k.stopped ≡ None) × (is_at_service (state_of k) ≡ true))

-- an instruction that is no service was executed
pub record IsPassed (from : CoreKept) (left pc left' : ℕ) (k : CoreKept) : Type 0 where
  pub some : 0 < left
  pub other : is_at_service (state_of from) ≡ false
  pub world : world_of (at pc k) ≡ step (world_of from)
  pub fewer : left' ≡ left - 1

-- The run went on behind an instruction, from where that left the core (`from`) with so many left (`left`): past a nop
-- too, if one was next while something was pending, or not yet.
pub record Follows (from : CoreKept) (left : ℕ) (none : Bool) (pc left' : ℕ) (k : CoreKept) : Type 0 where
  pub on : k.stopped ≡ None
  pub clear : none ≡ true → IsClear k
  pub went : IsPassed from left pc left' k ⊎ ((at pc k ≡ from) × (left' ≡ left))

-- the first state, but for what its memory, its arena and its table hold
abbrev pub begun : ℕ → Spaces → Arena → (ℕ → ℕ × ℕ) → State
begun entry m arena table = record {
  pc = entry;
  next = entry + 4;
  loaded = 0;
  recent = 0;
  slot = false;
  code = record { text = m.text; arena = arena };
  d = record {
    registers = λ r. 0;
    hi = 0;
    lo = 0;
    objects = m.objects;
    closures = m.closures;
    spec_rows = m.spec_rows;
    cells = m.cells;
    emit_stack = m.emit_stack;
    stack = m.stack;
    table = table;
    outside = nothing;
  };
}

-- a service answered v, and the arena changed
abbrev pub answered : ℕ → Arena → State → World
answered v arena s = onward (s.next + 4) 0 (s.recent - 1) false (record s.code { arena = arena }) (answer v s.d) s

-- a SYSCALL is a hazard
abbrev pub is_service_hazard : State → Bool
is_service_hazard s = is_hazard Syscall s

-- a service answered v, and arena and function table changed
abbrev pub generated : ℕ → Arena → Rows → State → World
generated v arena table s =
    onward (s.next + 4) 0 (s.recent - 1) false (record s.code { arena = arena })
    (answer v (record s.d { table = table })) s

-- the run goes on behind a service that answered, and stands where it stood where the service was refused
abbrev pub IsBehind : Result ℕ BadService → Arena → Rows → State → World → Type 0
IsBehind (Ok v) arena table s w = w ≡ generated v arena table s
IsBehind (Err why) arena table s w = w ≡ going s
