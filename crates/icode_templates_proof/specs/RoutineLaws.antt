-- What the routines that make specifications do. Each is entered at a block of its own, with the address to return to
-- in $ra. The limits, and the order in which they are tested, are those of the meaning.
use Rattle.std.specs.Prelude.{◌≡◌, ℕ, ◌+◌, ◌*◌, ◌%◌, ◌<◌, ◌≤◌, Bool, true, nat_eq, nat_lt, nat_le, if◌then◌else◌}
use Rattle.std.specs.Prelude.{List, [], ◌∷◌, ◌++◌, length, Option, Some, None}
use Rattle.limits.specs.declared.ops.TheConstants.{MOST_CAPTURES}
use Rattle.limits.specs.declared.run.TheConstants.{CLOSURE_HEAD_BYTES}
use Rattle.word32.specs.declared.map.TheConstants.{CLOSURES, CLOSURE_BYTES, GLOBAL_POINTER, ROUTINE_BYTES}
use Rattle.word32.specs.declared.map.TheConstants.{SEGMENT_BYTES}
use Rattle.host_edge.specs.declared.ending.Ending.TheVariants.{Trap}
use Rattle.host_edge.specs.declared.ending.TrapKind.{TrapKind}
use Rattle.host_edge.specs.declared.ending.TrapKind.TheVariants.{BadSpec}
use Rattle.history.specs.Events.{End, Ended}
use Rattle.mips_encoder.specs.declared.instruction.Instr.{Instr}
use Rattle.mips_encoder.specs.Addresses.{past}
use Rattle.mips_model.specs.State.{Code, Data}
use Rattle.mips_model.specs.Laws.{HasAt, at}
use Rattle.icode_ops.specs.Kinds.{run_number}
use Rattle.icode_ops.specs.declared.kind.RunKind.TheVariants.{Local, Parameter, Begin}
use Rattle.meaning_state.specs.Shared.{Shared}
use Rattle.meaning_state.specs.Rows.{numbered, closure_bytes, closure_trap, size_trap, index_trap, next_number}
use Rattle.icode_templates.specs.Layout.{Spot}
use Rattle.icode_templates.specs.Templates.{in_code, out_code, routine_code, routine_address}
use Rattle.icode_templates_proof.specs.Spots.{pointer, value, Framed, Usable, KeepsSpots}
use Rattle.icode_templates_proof.specs.Moves.{Writes, EndsIn}
use Rattle.icode_templates_proof.specs.MallocLaws.{Answers, linked, return_address}
use Rattle.icode_templates_proof.specs.Closures.{Head, Closure, local_head, parameter_head, row_count, next_closure}
use Rattle.icode_templates_proof.specs.Closures.{size_so_far}
use Rattle.icode_templates_proof.specs.Closures.{parameters_so_far, words_at, with_so_far, appended, bytes_of}
use Rattle.icode_templates_proof.specs.Closures.{HasClosures}
use Rattle.icode_templates_proof.specs.Routines.{new_code, local_code, parameter_code, begin_code, check_code, Named}
use Rattle.icode_templates_proof.specs.Routines.{AnExpression, AStatement, AVariable}

-- a block from this address on is in the segment of code
abbrev pub IsBlock : ℕ → Type 0
IsBlock entry = entry + ROUTINE_BYTES ≤ SEGMENT_BYTES

-- The cells have the count of the specifications and the place behind their closures, which are closures of at least
-- sixteen bytes each.
pub record HasRows (shared : Shared) (d : Data) : Type 0 where
  pub global : d.registers 28 ≡ GLOBAL_POINTER
  pub count : row_count d ≡ length shared.specifications
  pub next : next_closure d ≡ CLOSURES + shared.closures
  pub within : shared.closures ≤ CLOSURE_BYTES
  pub even : shared.closures % 4 ≡ 0
  pub few : CLOSURE_HEAD_BYTES * length shared.specifications ≤ shared.closures

-- ---- specifications that are made

-- the first of two traps
abbrev pub first_trap : Option TrapKind → Option TrapKind → Option TrapKind
first_trap None trap = trap
first_trap (Some kind) trap = Some kind

-- of a tick, the limit of its size comes before that of the closures
abbrev pub new_trap : (size captures : ℕ) → Shared → Option TrapKind
new_trap size captures shared = first_trap (size_trap size) (closure_trap captures shared)

-- of a parameter, that of its index comes first
abbrev pub parameter_trap : (index : ℕ) → Shared → Option TrapKind
parameter_trap index shared = first_trap (index_trap index) (closure_trap 0 shared)

-- the closure of a tick: the address of its function and its kind were passed, size and parameters were added up
abbrev pub new_head : Data → Head
new_head d = record {
  first = d.registers 4;
  kind = d.registers 5;
  size = size_so_far d;
  parameters = parameters_so_far d;
}

-- a tick's specification gets the next number
abbrev pub NewIsAnswered : Type 0
NewIsAnswered =
    (c : Code) (entry : ℕ) (shared : Shared) (d : Data) → IsBlock entry → HasRows shared d
    → d.registers 6 ≤ MOST_CAPTURES
    → new_trap (size_so_far d) (d.registers 6) shared ≡ None → HasAt c entry new_code
    → Answers (next_number shared) 30 30 (at c entry 0 d) c (d.registers 31)
    (appended (new_head d) (d.registers 6) d)

-- or the run ends
abbrev pub NewTraps : Type 0
NewTraps =
    (c : Code) (entry : ℕ) (shared : Shared) (d : Data) (kind : TrapKind) → IsBlock entry → HasRows shared d
    → d.registers 6 ≤ MOST_CAPTURES
    → new_trap (size_so_far d) (d.registers 6) shared ≡ Some kind → HasAt c entry new_code
    → EndsIn 7 15 (Ended (Trap kind)) (at c entry 0 d) c d.outside

-- a variable of generated code
abbrev pub LocalIsAnswered : Type 0
LocalIsAnswered =
    (c : Code) (entry : ℕ) (shared : Shared) (d : Data) → IsBlock entry → HasRows shared d
    → closure_trap 0 shared ≡ None → HasAt c entry local_code
    → Answers (next_number shared) 30 30 (at c entry 0 d) c (d.registers 31)
    (appended (local_head (next_number shared)) 0 d)

abbrev pub LocalTraps : Type 0
LocalTraps =
    (c : Code) (entry : ℕ) (shared : Shared) (d : Data) (kind : TrapKind) → IsBlock entry → HasRows shared d
    → closure_trap 0 shared ≡ Some kind → HasAt c entry local_code
    → EndsIn 15 15 (Ended (Trap kind)) (at c entry 0 d) c d.outside

-- a parameter of generated code
abbrev pub ParameterIsAnswered : Type 0
ParameterIsAnswered =
    (c : Code) (entry : ℕ) (shared : Shared) (d : Data) → IsBlock entry → HasRows shared d
    → parameter_trap (d.registers 4) shared ≡ None → HasAt c entry parameter_code
    → Answers (next_number shared) 31 31 (at c entry 0 d) c (d.registers 31)
    (appended (parameter_head (d.registers 4)) 0 d)

abbrev pub ParameterTraps : Type 0
ParameterTraps =
    (c : Code) (entry : ℕ) (shared : Shared) (d : Data) (kind : TrapKind) → IsBlock entry → HasRows shared d
    → parameter_trap (d.registers 4) shared ≡ Some kind → HasAt c entry parameter_code
    → EndsIn 4 16 (Ended (Trap kind)) (at c entry 0 d) c d.outside

-- ---- the size and the parameters so far

-- a tick's specification is begun with the tick's own size
abbrev pub BeginIsAnswered : Type 0
BeginIsAnswered =
    (c : Code) (entry : ℕ) (d : Data) → d.registers 28 ≡ GLOBAL_POINTER → HasAt c entry begin_code
    → Answers 0 5 5 (at c entry 0 d) c (d.registers 31) (with_so_far (d.registers 4) 0 d)

-- the kinds that a tick may name a captured specification as
abbrev pub is_named : Named → ℕ → Bool
is_named AnExpression kind = nat_eq kind 1
is_named AStatement kind = nat_eq kind 2
is_named AVariable kind = nat_le 3 kind

-- a captured number must be live, and of the kind that is named
abbrev pub named_trap : Named → Option Closure → Option TrapKind
named_trap named None = Some BadSpec
named_trap named (Some k) = if is_named named k.head.kind then None else Some BadSpec

-- its size is added, and its parameters count where they are more
abbrev pub more_of : ℕ → ℕ → ℕ
more_of so_far own = if nat_lt so_far own then own else so_far

abbrev pub added : Head → Data → Data
added k d = with_so_far (size_so_far d + k.size) (more_of (parameters_so_far d) k.parameters) d

abbrev pub CheckIsAnswered : Type 0
CheckIsAnswered =
    (named : Named) (c : Code) (entry : ℕ) (ks : List Closure) (k : Closure) (d : Data) → IsBlock entry
    → HasClosures ks d → d.registers 4 < 4294967296 → numbered (d.registers 4) ks ≡ Some k
    → is_named named k.head.kind ≡ true → size_so_far d + k.head.size < 4294967296
    → HasAt c entry (check_code named)
    → Answers 0 28 29 (at c entry 0 d) c (d.registers 31) (added k.head d)

abbrev pub CheckTraps : Type 0
CheckTraps =
    (named : Named) (c : Code) (entry : ℕ) (ks : List Closure) (d : Data) (kind : TrapKind) → IsBlock entry
    → HasClosures ks d → d.registers 4 < 4294967296
    → named_trap named (numbered (d.registers 4) ks) ≡ Some kind → HasAt c entry (check_code named)
    → EndsIn 6 16 (Ended (Trap kind)) (at c entry 0 d) c d.outside

-- ---- closures one behind another

-- the words of a closure are words
pub record HeadFits (k : Head) : Type 0 where
  pub first : k.first < 4294967296
  pub kind : k.kind < 4294967296
  pub size : k.size < 4294967296
  pub parameters : k.parameters < 4294967296

-- The closures stand on where another one is made, and it stands behind them: its first four words as they were
-- written, and its captured words as they are there.
abbrev pub ClosuresStand : Type 0
ClosuresStand =
    (ks : List Closure) (k : Head) (captures : ℕ) (d : Data) → HasClosures ks d
    → bytes_of ks + closure_bytes captures ≤ CLOSURE_BYTES → HeadFits k
    → HasClosures
    (ks ++ record { head = k; captured = words_at d.closures (next_closure d + closure_bytes 0) captures } ∷ [])
    (appended k captures d)

-- ---- ops that call a routine

-- Where a routine answers x and leaves `base`, whatever the low registers held, an op that calls it puts x to any spot.
abbrev pub RoutinesAreCalled : Type 0
RoutinesAreCalled =
    (number x least most : ℕ) (c : Code) (a bytes : ℕ) (d base : Data) (w v : Spot)
    → past a (in_code v) + 12 < SEGMENT_BYTES → routine_address number < SEGMENT_BYTES
    → Framed (pointer d) bytes → Usable bytes w → Usable bytes v → value d v < 4294967296 → x < 4294967296
    → ((e : Data) → KeepsSpots (linked (return_address a v) d) e → e.registers 4 ≡ value d v
    → Answers x least most (at c (routine_address number) 0 e) c (return_address a v) base)
    → pointer base ≡ pointer d → HasAt c a (in_code v ++ (routine_code number ++ out_code w))
    → Writes w x (least + 6) (most + 11) (at c a 0 d) c (past a (in_code v ++ (routine_code number ++ out_code w))) base

-- and where the routine ends the run, the op does
abbrev pub RoutinesEnd : Type 0
RoutinesEnd =
    (number least most : ℕ) (end : End) (c : Code) (a bytes : ℕ) (d : Data) (v : Spot) (rest : List Instr)
    → past a (in_code v) + 12 < SEGMENT_BYTES → routine_address number < SEGMENT_BYTES
    → Framed (pointer d) bytes → Usable bytes v → value d v < 4294967296
    → ((e : Data) → KeepsSpots (linked (return_address a v) d) e → e.registers 4 ≡ value d v
    → EndsIn least most end (at c (routine_address number) 0 e) c e.outside)
    → HasAt c a (in_code v ++ (routine_code number ++ rest))
    → EndsIn (4 + least) (7 + most) end (at c a 0 d) c d.outside

-- so those that begin a tick's specification
abbrev pub BeginIsCalled : Type 0
BeginIsCalled =
    (c : Code) (a bytes : ℕ) (d : Data) (w v : Spot) → past a (in_code v) + 12 < SEGMENT_BYTES
    → Framed (pointer d) bytes → Usable bytes w → Usable bytes v → value d v < 4294967296
    → d.registers 28 ≡ GLOBAL_POINTER
    → HasAt c (routine_address (run_number Begin)) begin_code
    → HasAt c a (in_code v ++ (routine_code (run_number Begin) ++ out_code w))
    → Writes w 0 11 16 (at c a 0 d) c
    (past a (in_code v ++ (routine_code (run_number Begin) ++ out_code w)))
    (with_so_far (value d v) 0 (linked (return_address a v) d))

-- those that make a variable
abbrev pub LocalIsCalled : Type 0
LocalIsCalled =
    (c : Code) (a bytes : ℕ) (shared : Shared) (d : Data) (w v : Spot) → past a (in_code v) + 12 < SEGMENT_BYTES
    → Framed (pointer d) bytes → Usable bytes w → Usable bytes v → value d v < 4294967296
    → HasRows shared d → closure_trap 0 shared ≡ None
    → HasAt c (routine_address (run_number Local)) local_code
    → HasAt c a (in_code v ++ (routine_code (run_number Local) ++ out_code w))
    → Writes w (next_number shared) 36 41 (at c a 0 d) c
    (past a (in_code v ++ (routine_code (run_number Local) ++ out_code w)))
    (appended (local_head (next_number shared)) 0 (linked (return_address a v) d))

-- and those that make a parameter
abbrev pub ParameterIsCalled : Type 0
ParameterIsCalled =
    (c : Code) (a bytes : ℕ) (shared : Shared) (d : Data) (w v : Spot) → past a (in_code v) + 12 < SEGMENT_BYTES
    → Framed (pointer d) bytes → Usable bytes w → Usable bytes v → value d v < 4294967296
    → HasRows shared d → parameter_trap (value d v) shared ≡ None
    → HasAt c (routine_address (run_number Parameter)) parameter_code
    → HasAt c a (in_code v ++ (routine_code (run_number Parameter) ++ out_code w))
    → Writes w (next_number shared) 37 42 (at c a 0 d) c
    (past a (in_code v ++ (routine_code (run_number Parameter) ++ out_code w)))
    (appended (parameter_head (value d v)) 0 (linked (return_address a v) d))
