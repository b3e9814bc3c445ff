-- What the ops that make a tick's specification do on the machine, under any spots.
use Rattle.std.specs.Prelude.{◌≡◌, ℕ, ◌+◌, ◌<◌, ◌≤◌, true, List, ◌++◌, length, Some, None}
use Rattle.limits.specs.declared.ops.TheConstants.{MOST_CAPTURES}
use Rattle.word32.specs.declared.map.TheConstants.{CLOSURE_BYTES, SEGMENT_BYTES}
use Rattle.host_edge.specs.declared.ending.Ending.TheVariants.{Trap}
use Rattle.host_edge.specs.declared.ending.TrapKind.{TrapKind}
use Rattle.history.specs.Events.{Ended}
use Rattle.mips_encoder.specs.declared.instruction.Instr.{Instr}
use Rattle.mips_model.specs.State.{Code, Data}
use Rattle.mips_model.specs.Laws.{HasAt, at}
use Rattle.mips_encoder.specs.Addresses.{past}
use Rattle.icode_ops.specs.Kinds.{run_number}
use Rattle.icode_ops.specs.declared.kind.ClosureKind.{ClosureKind}
use Rattle.icode_ops.specs.declared.kind.RunKind.TheVariants.{Local, Parameter}
use Rattle.meaning_state.specs.Shared.{Shared}
use Rattle.meaning_state.specs.Rows.{numbered, closure_bytes, closure_trap, next_number}
use Rattle.icode_templates.specs.Layout.{Spot}
use Rattle.icode_templates.specs.Templates.{in_code, out_code, routine_code, routine_address, new_address}
use Rattle.icode_templates_proof.specs.Spots.{pointer, value, Framed, Usable, KeepsSpots}
use Rattle.icode_templates_proof.specs.Moves.{Writes, Comes, EndsIn}
use Rattle.icode_templates_proof.specs.MallocLaws.{linked, return_address}
use Rattle.icode_templates_proof.specs.Closures.{Head, Closure, words_at, size_so_far, next_closure, with_so_far}
use Rattle.icode_templates_proof.specs.Closures.{appended}
use Rattle.icode_templates_proof.specs.Closures.{bytes_of, HasClosures}
use Rattle.icode_templates_proof.specs.Routines.{Named, check_code, new_code, local_code, parameter_code}
use Rattle.icode_templates_proof.specs.RoutineLaws.{HasRows, HeadFits, is_named, named_trap, added, new_trap}
use Rattle.icode_templates_proof.specs.RoutineLaws.{parameter_trap}
use Rattle.closures_proof.specs.Ops.{check_of, new_op_code, new_return_address, tick_head, put_op_code, HasPlace}
use Rattle.closures_proof.specs.Ops.{with_captured, replaced, HasNewest}

-- ---- captured numbers

-- the op that checks a captured number, which is live and of the kind that is named, adds its size and parameters
abbrev pub CheckIsCalled : Type 0
CheckIsCalled =
    (named : Named) (c : Code) (a bytes : ℕ) (ks : List Closure) (k : Closure) (d : Data) (w v : Spot)
    → past a (in_code v) + 12 < SEGMENT_BYTES
    → Framed (pointer d) bytes → Usable bytes w → Usable bytes v → value d v < 4294967296
    → HasClosures ks d → numbered (value d v) ks ≡ Some k → is_named named k.head.kind ≡ true
    → size_so_far d + k.head.size < 4294967296
    → HasAt c (routine_address (run_number (check_of named))) (check_code named)
    → HasAt c a (in_code v ++ (routine_code (run_number (check_of named)) ++ out_code w))
    → Writes w 0 34 40 (at c a 0 d) c
    (past a (in_code v ++ (routine_code (run_number (check_of named)) ++ out_code w)))
    (added k.head (linked (return_address a v) d))

-- any other number ends the run
abbrev pub CheckOpTraps : Type 0
CheckOpTraps =
    (named : Named) (c : Code) (a bytes : ℕ) (ks : List Closure) (d : Data) (v : Spot) (rest : List Instr)
    (kind : TrapKind) → past a (in_code v) + 12 < SEGMENT_BYTES
    → Framed (pointer d) bytes → Usable bytes v → value d v < 4294967296
    → HasClosures ks d → named_trap named (numbered (value d v) ks) ≡ Some kind
    → HasAt c (routine_address (run_number (check_of named))) (check_code named)
    → HasAt c a (in_code v ++ (routine_code (run_number (check_of named)) ++ rest))
    → EndsIn 10 23 (Ended (Trap kind)) (at c a 0 d) c d.outside

-- ---- a tick's specification

-- the op that makes the closure puts the new number to any spot
abbrev pub NewIsCalled : Type 0
NewIsCalled =
    (c : Code) (a bytes address : ℕ) (kind : ClosureKind) (captures : ℕ) (shared : Shared) (d : Data) (w : Spot)
    → new_return_address a < SEGMENT_BYTES → Framed (pointer d) bytes → Usable bytes w → HasRows shared d
    → captures ≤ MOST_CAPTURES → new_trap (size_so_far d) captures shared ≡ None
    → HasAt c new_address new_code → HasAt c a (new_op_code w address kind captures)
    → Writes w (next_number shared) 39 41 (at c a 0 d) c (past a (new_op_code w address kind captures))
    (appended (tick_head address kind d) captures (linked (new_return_address a) d))

-- or the run ends: a size over its limit comes before a closure that there is no room for
abbrev pub NewOpTraps : Type 0
NewOpTraps =
    (c : Code) (a address : ℕ) (kind : ClosureKind) (captures : ℕ) (shared : Shared) (d : Data) (w : Spot)
    (trap : TrapKind) → new_return_address a < SEGMENT_BYTES → HasRows shared d → captures ≤ MOST_CAPTURES
    → new_trap (size_so_far d) captures shared ≡ Some trap
    → HasAt c new_address new_code → HasAt c a (new_op_code w address kind captures)
    → EndsIn 14 22 (Ended (Trap trap)) (at c a 0 d) c d.outside

-- the op that puts a captured word into the newest closure
abbrev pub PutIsDone : Type 0
PutIsDone =
    (c : Code) (a bytes capture : ℕ) (d : Data) (v : Spot)
    → Framed (pointer d) bytes → Usable bytes v → value d v < 4294967296 → HasPlace capture d
    → HasAt c a (put_op_code v capture)
    → Comes 5 8 (at c a 0 d) c (past a (put_op_code v capture)) (with_captured capture (value d v) d)

-- ---- variables of generated code

-- where there is no room for a closure, the op that makes a variable ends the run
abbrev pub LocalOpTraps : Type 0
LocalOpTraps =
    (c : Code) (a bytes : ℕ) (shared : Shared) (d : Data) (v : Spot) (rest : List Instr) (kind : TrapKind)
    → past a (in_code v) + 12 < SEGMENT_BYTES
    → Framed (pointer d) bytes → Usable bytes v → value d v < 4294967296 → HasRows shared d
    → closure_trap 0 shared ≡ Some kind → HasAt c (routine_address (run_number Local)) local_code
    → HasAt c a (in_code v ++ (routine_code (run_number Local) ++ rest))
    → EndsIn 19 22 (Ended (Trap kind)) (at c a 0 d) c d.outside

-- and so does the one that makes a parameter, for its index first
abbrev pub ParameterOpTraps : Type 0
ParameterOpTraps =
    (c : Code) (a bytes : ℕ) (shared : Shared) (d : Data) (v : Spot) (rest : List Instr) (kind : TrapKind)
    → past a (in_code v) + 12 < SEGMENT_BYTES
    → Framed (pointer d) bytes → Usable bytes v → value d v < 4294967296 → HasRows shared d
    → parameter_trap (value d v) shared ≡ Some kind → HasAt c (routine_address (run_number Parameter)) parameter_code
    → HasAt c a (in_code v ++ (routine_code (run_number Parameter) ++ rest))
    → EndsIn 8 23 (Ended (Trap kind)) (at c a 0 d) c d.outside

-- ---- the closures of the run

-- what keeps all spots keeps the closures
abbrev pub ClosuresAreKept : Type 0
ClosuresAreKept = (ks : List Closure) (d e : Data) → KeepsSpots d e → HasClosures ks d → HasClosures ks e

-- so does adding up sizes and parameters
abbrev pub SumsKeepClosures : Type 0
SumsKeepClosures =
    (size parameters : ℕ) (ks : List Closure) (d : Data) → HasClosures ks d
    → HasClosures ks (with_so_far size parameters d)

-- a closure that is made is the newest one
abbrev pub NewestIsMade : Type 0
NewestIsMade =
    (ks : List Closure) (k : Head) (captures : ℕ) (d : Data) → HasClosures ks d
    → bytes_of ks + closure_bytes captures ≤ CLOSURE_BYTES → HeadFits k
    → HasNewest ks (record { head = k; captured = words_at d.closures (next_closure d + closure_bytes 0) captures })
    (appended k captures d)

-- the newest closure gets its captured words, and all others stand on
abbrev pub CapturedWordsArePut : Type 0
CapturedWordsArePut =
    (ks : List Closure) (k : Closure) (capture word : ℕ) (d : Data) → HasNewest ks k d
    → capture < length k.captured → word < 4294967296
    → HasPlace capture d
    × HasNewest ks (record { head = k.head; captured = replaced capture word k.captured }) (with_captured capture word
    d)
