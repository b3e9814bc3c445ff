-- The steps of the staged machine: one op each, and one for each word that a Clear sets and for each node that is
-- compiled. A machine that has ended stays so, and so does one that is stuck.
use Rattle.std.specs.Prelude.{ℕ, zero, suc, ◌+◌, ◌%◌, Bool, true, false, ◌&&◌, List, [], ◌∷◌, Option, Some, None}
use Rattle.std.specs.Prelude.{nat_eq, nat_le, nat_lt, if◌then◌else◌, slice_get, length, max, ◌++◌, ◌-◌, ◌*◌}
use Rattle.word32.specs.Words.{wrap}
use Rattle.word32.specs.Space.{update}
use Rattle.host_edge.specs.declared.ending.Ending.TheVariants.{Done, Trap}
use Rattle.host_edge.specs.declared.ending.TrapKind.{TrapKind}
use Rattle.host_edge.specs.declared.ending.TrapKind.TheVariants.{BadCall, BadSpec}
use Rattle.history.specs.Events.{Ended, ReadFault, Entered}
use Rattle.history.specs.Syntax.{Syntax, Ticked}
use Rattle.meaning_state.specs.Bodies.{Body}
use Rattle.icode_ops.specs.declared.op.Op.{Op}
use Rattle.icode_ops.specs.declared.op.Op.TheVariants.{Const, Move, Bin, CheckDivision, CheckZero, Un, FrameAddress}
use Rattle.icode_ops.specs.declared.op.Op.TheVariants.{Load, Store, Clear, Label, Jump, BranchZero, BranchNonzero}
use Rattle.icode_ops.specs.declared.op.Op.TheVariants.{Argument, GetParameter, Call, CallNumber, Result, Return}
use Rattle.icode_ops.specs.declared.op.Op.TheVariants.{ReturnZero, Sys, Run, New, Put}
use Rattle.icode_ops.specs.declared.kind.SysKind.TheVariants.{PutInteger, PutByte, GetByte, Exit}
use Rattle.icode_ops.specs.declared.kind.RunKind.TheVariants as run
use Rattle.icode_ops.specs.declared.kind.RunKind.{RunKind}
use Rattle.icode_ops.specs.declared.kind.ClosureKind.{ClosureKind}
use Rattle.icode_ops.specs.declared.kind.ClosureKind.TheVariants as closure
use Rattle.icode_ops.specs.Flow.{first_use, second_use}
use Rattle.icode_ops.specs.Labels.{label_index}
use Rattle.meaning_state.specs.Operators.{bin_value, un_value, bin_trap, signed_trap, zero_trap}
use Rattle.meaning_state.specs.Shared.{Shared, Specification, Expression, Statement, Local, Param, happens}
use Rattle.meaning_state.specs.Shared.{byte_answer, put_byte, put_number}
use Rattle.meaning_state.specs.Shared.{malloc_answer, malloc, Read, Got, Failed, get_byte, access_trap, loaded, stored}
use Rattle.meaning_state.specs.Shared.{are_objects, zeroed, frame_start, limit_trap, charged, discharged}
use Rattle.meaning_state.specs.Rows.{closure_trap, index_trap, size_trap, next_number, specified, numbered}
use Rattle.meaning_state.specs.Rows.{specification_at, parameters_of, key_parameters, arena_words, table_trap}
use Rattle.meaning_state.specs.Rows.{arena_trap, next_function, made}
use Rattle.typed_tree.specs.declared.expression.CaptureKind.{CaptureKind}
use Rattle.typed_tree.specs.declared.expression.CaptureKind.TheVariants as kind
use Rattle.typed_tree.specs.declared.expression.Answer.TheVariants as answer
use Rattle.staged_meaning.specs.Size.{charge_of}
use Rattle.staged_meaning.specs.Program as meaning
use Rattle.staged_meaning.specs.Program.{is_expression, syntax_size}
use Rattle.staged_meaning.specs.Specifications.{fits, captures_trap, captures_of, specification_of}
use Rattle.word32.specs.declared.map.TheConstants.{ARENA}
use Rattle.icode_meaning.specs.Costs.{least_of, most_of, word_cost, node_least, node_most}
use Rattle.icode_meaning.specs.State.{Function, Program, Frame, Log, State, Running, Zeroing, Halted, Stuck, nothing}
use Rattle.icode_meaning.specs.State.{Making, Compiling, Draft, Summing, Filling, argued}

-- each register that an op uses is set
abbrev pub is_on : Option ℕ → (ℕ → Bool) → Bool
is_on None on = true
is_on (Some r) on = on r

abbrev pub uses_on : Op → (ℕ → Bool) → Bool
uses_on o on = is_on (first_use o) on && is_on (second_use o) on

-- an op is paid for
abbrev pub paid : Op → Log → Log
paid o log = record log { least = log.least + least_of o; most = log.most + most_of o }

abbrev pub sharing : Shared → Log → Log
sharing shared log = record log { shared = shared }

-- the count of active calls of compiled functions, raised or lowered, as a word
abbrev pub counted : Bool → ℕ → ℕ → ℕ
counted false step count = count
counted true step count = wrap (count + step)

-- a call goes on at another op of its function
abbrev pub moved : ℕ → Frame → Frame
moved index frame = record frame { index = index }

abbrev pub moved_on : Frame → Frame
moved_on frame = moved (suc frame.index) frame

-- a register is set, and the call goes on at the next op
abbrev pub set : ℕ → ℕ → Frame → Frame
set to x frame = record frame {
  index = suc frame.index;
  values = update to x frame.values;
  on = update to true frame.on;
}

-- the newest call goes on, and nothing is passed
abbrev pub goes_on : Frame → List Frame → Log → State
goes_on frame waiting log = Running frame nothing None waiting log

-- goes on where there is no trap
abbrev pub unless : Option TrapKind → Log → State → State
unless None log s = s
unless (Some kind) log s = Halted (Ended (Trap kind)) log

-- an operator has a value where it has no trap; one whose trap was not checked for is stuck
abbrev pub untrapped : Option TrapKind → Log → State → State
untrapped None log s = s
untrapped (Some kind) log s = Stuck log

-- a call begins: none of its registers is set
abbrev pub begun : Function → (ℕ → Option ℕ) → Frame
begun function parameters =
    record { function = function; index = 0; values = λ r. 0; on = λ r. false; parameters = parameters }

abbrev pub entered : Function → Log → Log
entered function log = record log {
  shared = charged function.charge function.object log.shared;
  active = counted function.compiled 1 log.active;
}

abbrev pub enter : Function → Frame → (ℕ → Option ℕ) → List Frame → Log → State
enter function frame arguments waiting log =
    unless (limit_trap function.charge function.object log.shared) log
    (goes_on (begun function arguments) (moved_on frame ∷ waiting) (entered function log))

-- a call of what stands at an address; what is no function is stuck, and pays nothing
abbrev pub call_at : Op → Option Function → Frame → (ℕ → Option ℕ) → List Frame → Log → State
call_at o None frame arguments waiting log = Stuck log
call_at o (Some function) frame arguments waiting log = enter function frame arguments waiting (paid o log)

-- a call of a number that is published with an address and a count of parameters
abbrev pub call_row : Program → Op → ℕ → Option (ℕ × ℕ) → Frame → (ℕ → Option ℕ) → List Frame → Log → State
call_row program o count None frame arguments waiting log = Halted (Ended (Trap BadCall)) (paid o log)
call_row program o count (Some row) frame arguments waiting log =
    if nat_eq row.1 count then call_at o (program.function_at row.0) frame arguments waiting log
    else Halted (Ended (Trap BadCall)) (paid o log)

-- ---- calls of compiled functions

-- the function of a specification, at its place
abbrev pub function_for : Program → Syntax → (address : ℕ) → Function
function_for program syntax address = record {
  address = address;
  ops = program.ops_of syntax;
  charge = charge_of (syntax_size program.source syntax);
  object = 0;
  compiled = true;
}

abbrev pub with_event : ℕ → Log → Log
with_event number log = sharing (happens (Entered number) log.shared) log

-- a call of a compiled function that is live: its entry is an event, and stands before the limits
abbrev pub call_compiled : Program → Op → (number : ℕ) → Option Body → (count : ℕ) → Frame → (ℕ → Option ℕ) →
    List Frame → Log → State
call_compiled program o number None count frame arguments waiting log = Halted (Ended (Trap BadCall)) (paid o log)
call_compiled program o number (Some body) count frame arguments waiting log =
    if body.live && nat_eq (parameters_of body.syntax) count
    then enter (function_for program body.syntax (ARENA + 4 * body.first)) frame arguments waiting
    (with_event number (paid o log))
    else Halted (Ended (Trap BadCall)) (paid o log)

-- a call of a number: those of the text from 1 on, and then those that were compiled
abbrev pub call_number : Program → Op → (number count : ℕ) → Frame → (ℕ → Option ℕ) → List Frame → Log → State
call_number program o number count frame arguments waiting log =
    let functions = length program.source.functions in
    if nat_le number functions
    then call_row program o count (program.row number) frame arguments waiting log
    else call_compiled program o number (numbered (number - functions) log.shared.bodies) count frame arguments waiting
    log

-- a register takes what was passed; what was not passed is stuck
abbrev pub set_from : Op → Option ℕ → ℕ → Frame → List Frame → Log → State
set_from o None to frame waiting log = Stuck log
set_from o (Some x) to frame waiting log = goes_on (set to x frame) waiting (paid o log)

abbrev pub left : Function → Log → Log
left function log = record log {
  shared = discharged function.charge function.object log.shared;
  active = counted function.compiled 4294967295 log.active;
}

-- an answer goes to the newest call that waits, or ends the run
abbrev pub back : ℕ → List Frame → Log → State
back x [] log = Halted (Ended (Done (x % 256))) log
back x (frame ∷ waiting) log = Running frame nothing (Some x) waiting log

-- what the input answered
abbrev pub take : Read → ℕ → Frame → List Frame → Log → State
take (Got x shared) to frame waiting log = goes_on (set to x frame) waiting (sharing shared log)
take Failed to frame waiting log = Halted ReadFault log

-- a variable of generated code is specified, where there is room for its closure
abbrev pub specifies : Specification → ℕ → Frame → List Frame → Log → State
specifies specification to frame waiting log =
    unless (closure_trap 0 log.shared) log
    (goes_on (set to (next_number log.shared) frame) waiting (sharing (specified specification 0 log.shared) log))

-- where control goes by a test
abbrev pub branch : ℕ → ℕ → ℕ → ℕ
branch zero at_nothing on_other = at_nothing
branch (suc n) at_nothing on_other = on_other

abbrev pub target : ℕ → Frame → ℕ
target label frame = label_index label frame.function.ops

abbrev pub address_of : ℕ → Frame → Log → ℕ
address_of offset frame log = wrap (frame_start frame.function.object log.shared + offset)

-- words begin to be set to 0; the loop has its test at its end, so there is none of no words
abbrev pub zeroing : ℕ → ℕ → Frame → List Frame → Log → State
zeroing zero address frame waiting log = Stuck log
zeroing (suc more) address frame waiting log = Zeroing more address frame waiting log

-- a word is set to 0
abbrev pub word_zeroed : ℕ → Log → Log
word_zeroed address log = record log {
  shared = zeroed address 1 log.shared;
  least = log.least + word_cost;
  most = log.most + word_cost;
}

-- behind a word
abbrev pub zeroed_on : ℕ → ℕ → Frame → List Frame → Log → State
zeroed_on zero address frame waiting log = goes_on (moved_on frame) waiting log
zeroed_on (suc more) address frame waiting log = Zeroing more (address + 4) frame waiting log

-- ---- the ops of a tick

-- the size and the parameters of a specification
abbrev pub size_in : Program → Option Specification → ℕ
size_in program (Some (Expression syntax)) = syntax_size program.source syntax
size_in program (Some (Statement syntax)) = syntax_size program.source syntax
size_in program _ = 0

abbrev pub parameters_in : Option Specification → ℕ
parameters_in (Some (Expression syntax)) = parameters_of syntax
parameters_in (Some (Statement syntax)) = parameters_of syntax
parameters_in (Some (Param index)) = key_parameters index
parameters_in _ = 0

-- a number that is checked is added to what was checked before; a sum that is no word is stuck
abbrev pub adds : Program → (o : Op) → (to : ℕ) → CaptureKind → Option Specification → (size parameters : ℕ) →
    Frame → List Frame → Log → State
adds program o to kind row size parameters frame waiting log =
    unless (if fits kind row then None else Some BadSpec) (paid o log)
    (if nat_lt (size + size_in program row) 4294967296
    then Making (Summing (size + size_in program row) (max parameters (parameters_in row))) (set to 0 frame) waiting
    (paid o log)
    else Stuck log)

abbrev pub checks : Program → (o : Op) → RunKind → (to number : ℕ) → (size parameters : ℕ) → Frame → List Frame →
    Log → State
checks program o run.Expression to number size parameters frame waiting log =
    adds program o to (kind.Splice answer.Value) (specification_at number log.shared) size parameters frame waiting log
checks program o run.Statement to number size parameters frame waiting log =
    adds program o to (kind.Splice answer.Void) (specification_at number log.shared) size parameters frame waiting log
checks program o run.Variable to number size parameters frame waiting log =
    adds program o to kind.Variable (specification_at number log.shared) size parameters frame waiting log
checks program o _ to number size parameters frame waiting log = Stuck log

abbrev pub syntax_of : Program → (tick : ℕ) → (words : List ℕ) → Shared → Syntax
syntax_of program tick words shared = Ticked tick (captures_of shared.specifications (program.kinds tick) words)

abbrev pub is_none : {A : Type 0} → Option A → Bool
is_none None = true
is_none (Some x) = false

-- what was checked is what was put
abbrev pub is_right : Program → (tick size parameters : ℕ) → (words : List ℕ) → Shared → Bool
is_right program tick size parameters words shared =
    is_none (captures_trap shared.specifications (program.kinds tick) words)
    && nat_eq size (syntax_size program.source (syntax_of program tick words shared))
    && nat_eq parameters (parameters_of (syntax_of program tick words shared))

-- the specification is there; one that was checked otherwise is stuck
abbrev pub is_there : Program → (tick size parameters : ℕ) → (words : List ℕ) → Frame → List Frame → Log → State
is_there program tick size parameters words frame waiting log =
    if is_right program tick size parameters words log.shared
    then goes_on frame waiting
    (sharing (specified (specification_of (is_expression (slice_get program.source.ticks tick))
    (syntax_of program tick words log.shared)) (length words) log.shared) log)
    else Stuck log

-- a closure that has some of its words: behind the last one the specification is there
abbrev pub filled : Program → (tick size parameters : ℕ) → (words : List ℕ) → Frame → List Frame → Log → State
filled program tick size parameters words frame waiting log =
    if nat_eq (length words) (length (program.kinds tick))
    then is_there program tick size parameters words frame waiting log
    else Making (Filling tick size parameters words) frame waiting log

abbrev pub is_kind : ClosureKind → Bool → Bool
is_kind closure.Expression true = true
is_kind closure.Statement false = true
is_kind _ value = false

-- a closure is made for the tick whose code an address generates
abbrev pub news : Program → (o : Op) → (to : ℕ) → Option ℕ → ClosureKind → (captures size parameters : ℕ) → Frame →
    List Frame → Log → State
news program o to None kind captures size parameters frame waiting log = Stuck log
news program o to (Some tick) kind captures size parameters frame waiting log =
    if is_kind kind (is_expression (slice_get program.source.ticks tick)) && nat_eq captures
    (length (program.kinds tick))
    then unless (size_trap size) (paid o log) (unless (closure_trap captures log.shared) (paid o log)
    (filled program tick size parameters [] (set to (next_number log.shared) frame) waiting (paid o log)))
    else Stuck log

-- an op while a specification is being made
abbrev pub makes : Program → Op → Draft → Frame → List Frame → Log → State
makes program (Run routine to from) (Summing size parameters) frame waiting log =
    checks program (Run routine to from) routine to (frame.values from) size parameters frame waiting log
makes program (New to address kind captures) (Summing size parameters) frame waiting log =
    news program (New to address kind captures) to (program.tick_at address) kind captures size parameters frame waiting
    log
makes program (Put capture from) (Filling tick size parameters words) frame waiting log =
    if nat_eq capture (length words)
    then filled program tick size parameters (words ++ frame.values from ∷ []) (moved_on frame) waiting
    (paid (Put capture from) log)
    else Stuck log
makes program _ draft frame waiting log = Stuck log

abbrev pub making : Program → Option Op → Draft → Frame → List Frame → Log → State
making program None draft frame waiting log = Stuck log
making program (Some o) draft frame waiting log =
    if uses_on o frame.on then makes program o draft frame waiting log else Stuck log

-- ---- compile

-- a node was compiled
abbrev pub node_paid : Log → Log
node_paid log = record log { least = log.least + node_least; most = log.most + node_most }

-- The function is there behind its nodes, and its number goes to the register. The routine's rest is paid.
abbrev pub compiled : Program → Syntax → (to : ℕ) → Frame → List Frame → Log → State
compiled program syntax to frame waiting log =
    let size = syntax_size program.source syntax in
    let function = next_function (length program.source.functions) log.shared in
    goes_on (set to function frame) waiting
    (sharing (made function syntax size log.shared) (paid (Run run.Compile to 0) log))

-- the limits of a specification, and then its nodes; that costs nothing yet
abbrev pub compiles : Program → (o : Op) → (to : ℕ) → Syntax → Frame → List Frame → Log → State
compiles program o to syntax frame waiting log =
    let size = syntax_size program.source syntax in
    unless (table_trap (next_function (length program.source.functions) log.shared)) (paid o log)
    (unless (arena_trap size log.shared) (paid o log) (Compiling size syntax to frame waiting log))

abbrev pub compile_row : Program → (o : Op) → (to : ℕ) → Option Specification → Frame → List Frame → Log → State
compile_row program o to (Some (Expression syntax)) frame waiting log =
    compiles program o to syntax frame waiting log
compile_row program o to (Some (Statement syntax)) frame waiting log = compiles program o to syntax frame waiting log
compile_row program o to _ frame waiting log = Halted (Ended (Trap BadSpec)) (paid o log)

-- ---- all ops

-- one op
abbrev pub act : Program → Op → Frame → (ℕ → Option ℕ) → Option ℕ → List Frame → Log → State
act program (Const to word) frame arguments answer waiting log =
    goes_on (set to word frame) waiting (paid (Const to word) log)
act program (Move to from) frame arguments answer waiting log =
    goes_on (set to (frame.values from) frame) waiting (paid (Move to from) log)
act program (Bin kind to a b) frame arguments answer waiting log =
    untrapped (bin_trap kind (frame.values a) (frame.values b)) log
    (goes_on (set to (bin_value kind (frame.values a) (frame.values b)) frame) waiting (paid (Bin kind to a b) log))
act program (CheckDivision a b) frame arguments answer waiting log =
    unless (signed_trap (frame.values a) (frame.values b)) (paid (CheckDivision a b) log)
    (goes_on (moved_on frame) waiting (paid (CheckDivision a b) log))
act program (CheckZero b) frame arguments answer waiting log =
    unless (zero_trap (frame.values b)) (paid (CheckZero b) log)
    (goes_on (moved_on frame) waiting (paid (CheckZero b) log))
act program (Un kind to from) frame arguments answer waiting log =
    goes_on (set to (un_value kind (frame.values from)) frame) waiting (paid (Un kind to from) log)
act program (FrameAddress to offset) frame arguments answer waiting log =
    goes_on (set to (address_of offset frame log) frame) waiting (paid (FrameAddress to offset) log)
act program (Load width to a) frame arguments answer waiting log =
    unless (access_trap (frame.values a) width) (paid (Load width to a) log)
    (goes_on (set to (loaded (frame.values a) width log.shared) frame) waiting (paid (Load width to a) log))
act program (Store width a v) frame arguments answer waiting log =
    unless (access_trap (frame.values a) width) (paid (Store width a v) log)
    (goes_on (moved_on frame) waiting
    (sharing (stored (frame.values a) width (frame.values v) log.shared) (paid (Store width a v) log)))
act program (Clear offset words) frame arguments answer waiting log =
    if are_objects (address_of offset frame log) words
    then zeroing words (address_of offset frame log) frame waiting (paid (Clear offset words) log)
    else Stuck log
act program (Label label) frame arguments answer waiting log =
    goes_on (moved_on frame) waiting (paid (Label label) log)
act program (Jump label) frame arguments answer waiting log =
    goes_on (moved (target label frame) frame) waiting (paid (Jump label) log)
act program (BranchZero test label) frame arguments answer waiting log =
    goes_on (moved (branch (frame.values test) (target label frame) (suc frame.index)) frame) waiting
    (paid (BranchZero test label) log)
act program (BranchNonzero test label) frame arguments answer waiting log =
    goes_on (moved (branch (frame.values test) (suc frame.index) (target label frame)) frame) waiting
    (paid (BranchNonzero test label) log)
act program (Argument index from) frame arguments answer waiting log =
    Running (moved_on frame) (argued index (frame.values from) arguments) None waiting (paid (Argument index from) log)
act program (GetParameter to index) frame arguments answer waiting log =
    set_from (GetParameter to index) (frame.parameters index) to frame waiting log
act program (Call address) frame arguments answer waiting log =
    call_at (Call address) (program.function_at address) frame arguments waiting log
act program (CallNumber number count) frame arguments answer waiting log =
    call_number program (CallNumber number count) (frame.values number) count frame arguments waiting log
act program (Result to) frame arguments answer waiting log = set_from (Result to) answer to frame waiting log
act program (Return from) frame arguments answer waiting log =
    back (frame.values from) waiting (left frame.function (paid (Return from) log))
act program ReturnZero frame arguments answer waiting log = back 0 waiting (left frame.function (paid ReturnZero log))
act program (Sys PutInteger to from) frame arguments answer waiting log =
    goes_on (set to (frame.values from) frame) waiting
    (sharing (put_number (frame.values from) log.shared) (paid (Sys PutInteger to from) log))
act program (Sys PutByte to from) frame arguments answer waiting log =
    goes_on (set to (byte_answer (frame.values from)) frame) waiting
    (sharing (put_byte (frame.values from) log.shared) (paid (Sys PutByte to from) log))
act program (Sys GetByte to from) frame arguments answer waiting log =
    take (get_byte log.shared) to frame waiting (paid (Sys GetByte to from) log)
act program (Sys Exit to from) frame arguments answer waiting log =
    Halted (Ended (Done (frame.values from % 256))) (paid (Sys Exit to from) log)
act program (Run run.Malloc to from) frame arguments answer waiting log =
    goes_on (set to (malloc_answer (frame.values from) log.shared) frame) waiting
    (sharing (malloc (frame.values from) log.shared) (paid (Run run.Malloc to from) log))
act program (Run run.Local to from) frame arguments answer waiting log =
    specifies Local to frame waiting (paid (Run run.Local to from) log)
act program (Run run.Parameter to from) frame arguments answer waiting log =
    unless (index_trap (frame.values from)) (paid (Run run.Parameter to from) log)
    (specifies (Param (frame.values from)) to frame waiting (paid (Run run.Parameter to from) log))
act program (Run run.Begin to from) frame arguments answer waiting log =
    Making (Summing (frame.values from) 0) (set to 0 frame) waiting (paid (Run run.Begin to from) log)
act program (Run run.Compile to from) frame arguments answer waiting log =
    compile_row program (Run run.Compile to from) to (specification_at (frame.values from) log.shared) frame waiting log
act program _ frame arguments answer waiting log = Stuck log

-- an op that uses a register that is not set is stuck, and so is a call behind its last op
abbrev pub checked : Program → Option Op → Frame → (ℕ → Option ℕ) → Option ℕ → List Frame → Log → State
checked program None frame arguments answer waiting log = Stuck log
checked program (Some o) frame arguments answer waiting log =
    if uses_on o frame.on then act program o frame arguments answer waiting log else Stuck log

-- a step
abbrev pub advance : Program → State → State
advance program (Running frame arguments answer waiting log) =
    checked program (slice_get frame.function.ops frame.index) frame arguments answer waiting log
advance program (Zeroing more address frame waiting log) =
    zeroed_on more address frame waiting (word_zeroed address log)
advance program (Making draft frame waiting log) =
    making program (slice_get frame.function.ops frame.index) draft frame waiting log
advance program (Compiling zero syntax to frame waiting log) = compiled program syntax to frame waiting log
advance program (Compiling (suc more) syntax to frame waiting log) =
    Compiling more syntax to frame waiting (node_paid log)
advance program (Halted end log) = Halted end log
advance program (Stuck log) = Stuck log

-- main's first state: the start has cost one instruction at least
abbrev pub first : Function → Shared → State
first main shared =
    goes_on (begun main nothing) []
    (record {
      shared = charged main.charge main.object shared;
      active = counted main.compiled 1 0;
      least = 1;
      most = 1;
    })
