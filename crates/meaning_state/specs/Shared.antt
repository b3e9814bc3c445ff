-- The state that outlives a call, on the source's side and on the staged machine's alike: the events so far, the input
-- that is left, the objects with addresses, the next place of the heap, what the active calls are charged, and the rows
-- of specifications and of bodies that were compiled. How it changes is told once: here, and of the rows in `Rows`.
-- The addresses of the parts of the object space are this project's own.
use Rattle.std.specs.Prelude.{ℕ, ◌+◌, ◌-◌, ◌*◌, ◌/◌, ◌%◌, Bool, false, nat_eq, nat_le, if◌then◌else◌, List, [], ◌∷◌}
use Rattle.std.specs.Prelude.{◌++◌, Option, Some, None}
use Rattle.word32.specs.Parts.{is_aligned}
use Rattle.word32.specs.Space as space
use Rattle.word32.specs.declared.width.Width.{Width}
use Rattle.host_edge.specs.declared.ending.TrapKind.{TrapKind}
use Rattle.host_edge.specs.declared.ending.TrapKind.TheVariants.{Range, Misaligned, StackLimit, FrameLimit}
use Rattle.history.specs.Syntax.{Syntax}
use Rattle.meaning_state.specs.Bodies.{Body}
use Rattle.history.specs.Events.{Item, Out, In, Input, Next, Given, AtEnd, Failing, next_byte, outs, number_bytes}
use Rattle.limits.specs.declared.program.TheConstants.{FRAME_OBJECT_BYTES}
use Rattle.word32.specs.declared.map.TheConstants.{FRAMES, OBJECTS, OBJECTS_END, OBJECT_BYTES, STACK_BYTES}

-- A specification: of an expression, of a statement, a variable of generated code, or its parameter of an index.
pub data Specification : Type 0 where
  Expression : Syntax → Specification
  Statement : Syntax → Specification
  Local : Specification
  Param : (index : ℕ) → Specification

pub record Shared : Type 0 where
  pub history : List Item
  pub input : Input
  -- the object space, by the numbers of its words
  pub objects : ℕ → ℕ
  -- the next address of the heap
  pub heap : ℕ
  -- the bytes that the active calls are charged
  pub used : ℕ
  -- the bytes of the frame objects of the active calls
  pub frames : ℕ
  -- the specifications that were evaluated, the first of which has the number 1, and the bytes of their closures
  pub specifications : List Specification
  pub closures : ℕ
  -- the bodies of the functions that were compiled, whose numbers follow those of the text's
  pub bodies : List Body

-- an event more
abbrev pub happens : Item → Shared → Shared
happens item shared = record shared { history = shared.history ++ item ∷ [] }

-- putchar writes its argument modulo 256 as a byte, and answers that byte
abbrev pub byte_answer : ℕ → ℕ
byte_answer v = v % 256

abbrev pub put_byte : ℕ → Shared → Shared
put_byte v shared = happens (Out (v % 256)) shared

-- putint writes its argument as a signed decimal number
abbrev pub put_number : ℕ → Shared → Shared
put_number v shared = record shared { history = shared.history ++ outs (number_bytes v) }

-- what came of a read: a word, or the input failed
pub data Read : Type 0 where
  Got : (word : ℕ) → Shared → Read
  Failed : Read

-- getchar answers the next byte, or -1 at the end
abbrev pub read : Next → Shared → Read
read (Given b rest) shared = Got b (happens (In b) (record shared { input = rest }))
read AtEnd shared = Got 4294967295 (happens (In 4294967295) shared)
read Failing shared = Failed

abbrev pub get_byte : Shared → Read
get_byte shared = read (next_byte shared.input) shared

-- the trap of an access: an address that is no object's, and then one that isn't aligned
abbrev pub access_trap : ℕ → Width → Option TrapKind
access_trap at width =
    if nat_eq (at / OBJECT_BYTES) (OBJECTS / OBJECT_BYTES) then
    (if is_aligned at width then None else Some Misaligned) else Some Range

abbrev pub loaded : ℕ → Width → Shared → ℕ
loaded at width shared = space.load shared.objects at width

abbrev pub stored : ℕ → Width → ℕ → Shared → Shared
stored at width v shared = record shared { objects = space.store at width v shared.objects }

-- so many words from an address on are objects, and the address is that of a word
abbrev pub are_objects : ℕ → ℕ → Bool
are_objects at words =
    if nat_le OBJECTS at then (if nat_le (at + 4 * words) OBJECTS_END then nat_eq (at % 4) 0 else false) else false

-- so many words from an address on are set to 0
abbrev pub zeroed : ℕ → ℕ → Shared → Shared
zeroed at words shared = record shared {
  objects = λ n. if nat_le (at / 4) n then (if nat_le (at / 4 + words) n then shared.objects n else 0) else
      shared.objects n;
}

-- where the frame objects of the newest call begin, which have so many bytes
abbrev pub frame_start : ℕ → Shared → ℕ
frame_start object shared = FRAMES + (shared.frames - object)

-- a call is charged this, with so many bytes of frame objects; the limits in this order
abbrev pub limit_trap : ℕ → ℕ → Shared → Option TrapKind
limit_trap charge object shared =
    if nat_le (shared.used + charge) STACK_BYTES
    then (if nat_le (shared.frames + object) FRAME_OBJECT_BYTES then None else Some FrameLimit) else Some StackLimit

abbrev pub charged : ℕ → ℕ → Shared → Shared
charged charge object shared = record shared { used = shared.used + charge; frames = shared.frames + object }

-- the call is over
abbrev pub discharged : ℕ → ℕ → Shared → Shared
discharged charge object shared = record shared { used = shared.used - charge; frames = shared.frames - object }

-- malloc answers 0 where the rest of the heap is smaller than its argument, and else the next place of the heap, which
-- moves on in multiples of 8
abbrev pub is_room : ℕ → Shared → Bool
is_room bytes shared = nat_le bytes (FRAMES - shared.heap)

abbrev pub malloc_answer : ℕ → Shared → ℕ
malloc_answer bytes shared = if is_room bytes shared then shared.heap else 0

abbrev pub malloc : ℕ → Shared → Shared
malloc bytes shared = if is_room bytes shared then (record shared { heap = shared.heap + (bytes + 7) / 8 * 8 }) else
    shared
