-- The staged machine never ends with a fault of the machine.
use Rattle.std.proofs.Common.{◌≡◌, ℕ, zero, suc, ◌+◌, ◌-◌, ◌*◌, Bool, true, false, ◌&&◌, List, [], ◌∷◌, ◌++◌}
use Rattle.std.proofs.Common.{Option, None, Some, nat_eq, nat_lt, nat_le, max, length, if◌then◌else◌, slice_get}
use Rattle.std.specs.Fn.{iterate}
use Rattle.host_edge.specs.declared.ending.Ending.TheVariants.{Trap}
use Rattle.host_edge.specs.declared.ending.MachineKind.{MachineKind}
use Rattle.host_edge.specs.declared.ending.TrapKind.{TrapKind}
use Rattle.host_edge.specs.declared.ending.TrapKind.TheVariants.{BadCall, BadSpec}
use Rattle.history.specs.Events.{End, Ended, ReadFault, Fault}
use Rattle.icode_ops.specs.declared.op.Op.{Op}
use Rattle.icode_ops.specs.declared.op.Op.TheVariants.{Const, Move, Bin, CheckDivision, CheckZero, Un, FrameAddress}
use Rattle.icode_ops.specs.declared.op.Op.TheVariants.{Load, Store, Clear, Label, Jump, BranchZero, BranchNonzero}
use Rattle.icode_ops.specs.declared.op.Op.TheVariants.{Argument, GetParameter, Call, CallNumber, Result, Return}
use Rattle.icode_ops.specs.declared.op.Op.TheVariants.{ReturnZero, Sys, Run, New, Put}
use Rattle.icode_ops.specs.declared.kind.SysKind.TheVariants.{PutByte, GetByte, Exit}
use Rattle.icode_ops.specs.declared.kind.RunKind.TheVariants as run
use Rattle.meaning_state.specs.Bodies.{Body}
use Rattle.word32.specs.declared.map.TheConstants.{ARENA}
use Rattle.meaning_state.specs.Operators.{bin_value, bin_trap, signed_trap, zero_trap}
use Rattle.meaning_state.specs.Shared.{Expression, Statement}
use Rattle.meaning_state.specs.Shared.{Specification, Local, Param, Read, Got, Failed, get_byte, access_trap, loaded}
use Rattle.meaning_state.specs.Shared.{stored, are_objects, limit_trap}
use Rattle.meaning_state.specs.Rows.{closure_trap, index_trap, size_trap, next_number, specified, numbered}
use Rattle.meaning_state.specs.Rows.{specification_at, parameters_of, table_trap, arena_trap, next_function}
use Rattle.staged_meaning.specs.Program.{is_expression, syntax_size}
use Rattle.staged_meaning.specs.Specifications.{fits, specification_of}
use Rattle.typed_tree.specs.declared.expression.CaptureKind.{CaptureKind}
use Rattle.typed_tree.specs.declared.expression.CaptureKind.TheVariants as kind
use Rattle.typed_tree.specs.declared.expression.Answer.TheVariants as answer
use Rattle.history.specs.Syntax.{Syntax}
use Rattle.icode_ops.specs.declared.kind.RunKind.{RunKind}
use Rattle.icode_ops.specs.declared.kind.ClosureKind.{ClosureKind}
use Rattle.icode_meaning.specs.State.{Function, Program, Frame, Log, State, Running, Zeroing, Making, Compiling, Halted}
use Rattle.icode_meaning.specs.State.{Stuck, see}
use Rattle.icode_meaning.specs.State.{Draft, Summing, Filling}
use Rattle.icode_meaning.specs.Steps.{uses_on, paid, sharing, moved_on, set, goes_on, unless, begun, entered, call_at}
use Rattle.icode_meaning.specs.Steps.{call_row, set_from, left, back, take, address_of, act, checked, advance, zeroing}
use Rattle.icode_meaning.specs.Steps.{zeroed_on, word_zeroed, specifies, untrapped, enter, call_compiled, call_number}
use Rattle.icode_meaning.specs.Steps.{compiles, compile_row}
use Rattle.icode_meaning.specs.Steps.{function_for, with_event, is_right, is_there, syntax_of, filled}
use Rattle.icode_meaning.specs.Steps.{adds, checks, size_in, parameters_in, is_kind, news, makes, making}

abbrev pub IsNoFault : End → Type 0
IsNoFault (Ended e) = Unit {0}
IsNoFault ReadFault = Unit {0}
IsNoFault (Fault k a) = ⊥

abbrev pub IsFaultless : State → Type 0
IsFaultless (Running frame arguments answer waiting log) = Unit {0}
IsFaultless (Zeroing more address frame waiting log) = Unit {0}
IsFaultless (Making draft frame waiting log) = Unit {0}
IsFaultless (Compiling more syntax to frame waiting log) = Unit {0}
IsFaultless (Halted e log) = IsNoFault e
IsFaultless (Stuck log) = Unit {0}

unless_is : (trap : Option TrapKind) (log : Log) (s : State) → IsFaultless s → IsFaultless (unless trap log s)
unless_is None log s h = h
unless_is (Some k) log s h = tt

untrapped_is : (trap : Option TrapKind) (log : Log) (s : State) → IsFaultless s → IsFaultless (untrapped trap log s)
untrapped_is None log s h = h
untrapped_is (Some k) log s h = tt

enter_is : (f : Function) (frame : Frame) (arguments : ℕ → Option ℕ) (waiting : List Frame) (log : Log) →
    IsFaultless (enter f frame arguments waiting log)
enter_is f frame arguments waiting log =
    unless_is (limit_trap f.charge f.object log.shared) log
    (goes_on (begun f arguments) (moved_on frame ∷ waiting) (entered f log)) tt

call_at_is : (o : Op) (f : Option Function) (frame : Frame) (arguments : ℕ → Option ℕ) (waiting : List Frame)
    (log : Log) → IsFaultless (call_at o f frame arguments waiting log)
call_at_is o None frame arguments waiting log = tt
call_at_is o (Some f) frame arguments waiting log = enter_is f frame arguments waiting (paid o log)

call_row_is : (program : Program) (o : Op) (count : ℕ) (row : Option (ℕ × ℕ)) (frame : Frame) (arguments : ℕ → Option ℕ)
    (waiting : List Frame) (log : Log) → IsFaultless (call_row program o count row frame arguments waiting log)
call_row_is program o count None frame arguments waiting log = tt
call_row_is program o count (Some row) frame arguments waiting log = by (nat_eq row.1 count)
  where
    by : (b : Bool) → IsFaultless
        (if b then call_at o (program.function_at row.0) frame arguments waiting log else
        Halted (Ended (Trap BadCall)) (paid o log))
    by true = call_at_is o (program.function_at row.0) frame arguments waiting log
    by false = tt

call_compiled_is : (program : Program) (o : Op) (number : ℕ) (body : Option Body) (count : ℕ) (frame : Frame)
    (arguments : ℕ → Option ℕ) (waiting : List Frame) (log : Log) →
    IsFaultless (call_compiled program o number body count frame arguments waiting log)
call_compiled_is program o number None count frame arguments waiting log = tt
call_compiled_is program o number (Some body) count frame arguments waiting log =
    by (body.live && nat_eq (parameters_of body.syntax) count)
  where
    by : (b : Bool) → IsFaultless
        (if b then enter (function_for program body.syntax (ARENA + 4 * body.first)) frame arguments
        waiting (with_event number (paid o log)) else Halted (Ended (Trap BadCall)) (paid o log))
    by true = enter_is (function_for program body.syntax (ARENA + 4 * body.first)) frame arguments
        waiting (with_event number (paid o log))
    by false = tt

compiles_is : (program : Program) (o : Op) (to : ℕ) (syntax : Syntax) (frame : Frame) (waiting : List Frame) (log : Log)
    → IsFaultless (compiles program o to syntax frame waiting log)
compiles_is program o to syntax frame waiting log =
    let size : ℕ = syntax_size program.source syntax in
    unless_is (table_trap (next_function (length program.source.functions) log.shared)) (paid o log) _
    (unless_is (arena_trap size log.shared) (paid o log) (Compiling size syntax to frame waiting log) tt)

compile_row_is : (program : Program) (o : Op) (to : ℕ) (row : Option Specification) (frame : Frame)
    (waiting : List Frame) (log : Log) → IsFaultless (compile_row program o to row frame waiting log)
compile_row_is program o to (Some (Expression syntax)) frame waiting log =
    compiles_is program o to syntax frame waiting log
compile_row_is program o to (Some (Statement syntax)) frame waiting log =
    compiles_is program o to syntax frame waiting log
compile_row_is program o to (Some Local) frame waiting log = tt
compile_row_is program o to (Some (Param index)) frame waiting log = tt
compile_row_is program o to None frame waiting log = tt

call_number_is : (program : Program) (o : Op) (number count : ℕ) (frame : Frame) (arguments : ℕ → Option ℕ)
    (waiting : List Frame) (log : Log) → IsFaultless (call_number program o number count frame arguments waiting log)
call_number_is program o number count frame arguments waiting log =
    by (nat_le number (length program.source.functions))
  where
    others : Option Body
    others = numbered (number - length program.source.functions) log.shared.bodies

    by : (b : Bool) → IsFaultless
        (if b then call_row program o count (program.row number) frame arguments waiting log
        else call_compiled program o number others count frame arguments waiting log)
    by true = call_row_is program o count (program.row number) frame arguments waiting log
    by false = call_compiled_is program o number others count frame arguments waiting log

-- ---- ops of ticks

is_there_is : (program : Program) (tick size parameters : ℕ) (words : List ℕ) (frame : Frame) (waiting : List Frame)
    (log : Log) → IsFaultless (is_there program tick size parameters words frame waiting log)
is_there_is program tick size parameters words frame waiting log =
    by (is_right program tick size parameters words log.shared)
  where
    by : (b : Bool) → IsFaultless
        (if b then goes_on frame waiting
        (sharing (specified (specification_of (is_expression (slice_get program.source.ticks tick))
        (syntax_of program tick words log.shared)) (length words) log.shared) log) else Stuck log)
    by true = tt
    by false = tt

filled_is : (program : Program) (tick size parameters : ℕ) (words : List ℕ) (frame : Frame) (waiting : List Frame)
    (log : Log) → IsFaultless (filled program tick size parameters words frame waiting log)
filled_is program tick size parameters words frame waiting log =
    by (nat_eq (length words) (length (program.kinds tick)))
  where
    by : (b : Bool) → IsFaultless
        (if b then is_there program tick size parameters words frame waiting log
        else Making (Filling tick size parameters words) frame waiting log)
    by true = is_there_is program tick size parameters words frame waiting log
    by false = tt

adds_is : (program : Program) (o : Op) (to : ℕ) (kind : CaptureKind) (row : Option Specification)
    (size parameters : ℕ) (frame : Frame) (waiting : List Frame) (log : Log) →
    IsFaultless (adds program o to kind row size parameters frame waiting log)
adds_is program o to kind row size parameters frame waiting log =
    unless_is (if fits kind row then None else Some BadSpec) (paid o log) (added (sum_fits row))
    (by (sum_fits row))
  where
    sum_fits : Option Specification → Bool
    sum_fits row = nat_lt (size + size_in program row) 4294967296

    added : Bool → State
    added b =
        if b
        then Making (Summing (size + size_in program row) (max parameters (parameters_in row))) (set to 0 frame)
        waiting (paid o log)
        else Stuck log

    by : (b : Bool) → IsFaultless (added b)
    by true = tt
    by false = tt

checks_is : (program : Program) (o : Op) (routine : RunKind) (to number size parameters : ℕ) (frame : Frame)
    (waiting : List Frame) (log : Log) →
    IsFaultless (checks program o routine to number size parameters frame waiting log)
checks_is program o run.Expression to number size parameters frame waiting log =
    adds_is program o to (kind.Splice answer.Value) (specification_at number log.shared) size parameters frame waiting
    log
checks_is program o run.Statement to number size parameters frame waiting log =
    adds_is program o to (kind.Splice answer.Void) (specification_at number log.shared) size parameters frame waiting
    log
checks_is program o run.Variable to number size parameters frame waiting log =
    adds_is program o to kind.Variable (specification_at number log.shared) size parameters frame waiting log
checks_is program o _ to number size parameters frame waiting log = tt

news_is : (program : Program) (o : Op) (to : ℕ) (tick : Option ℕ) (kind : ClosureKind)
    (captures size parameters : ℕ) (frame : Frame) (waiting : List Frame) (log : Log) →
    IsFaultless (news program o to tick kind captures size parameters frame waiting log)
news_is program o to None kind captures size parameters frame waiting log = tt
news_is program o to (Some tick) kind captures size parameters frame waiting log =
    by (is_kind kind (is_expression (slice_get program.source.ticks tick))
    && nat_eq captures (length (program.kinds tick)))
  where
    made : State
    made = filled program tick size parameters [] (set to (next_number log.shared) frame) waiting (paid o log)

    by : (b : Bool) → IsFaultless
        (if b then unless (size_trap size) (paid o log) (unless (closure_trap captures log.shared) (paid o log) made)
        else Stuck log)
    by true =
        unless_is (size_trap size) (paid o log) (unless (closure_trap captures log.shared) (paid o log) made)
        (unless_is (closure_trap captures log.shared) (paid o log) made
        (filled_is program tick size parameters [] (set to (next_number log.shared) frame) waiting (paid o log)))
    by false = tt

makes_is : (program : Program) (o : Op) (draft : Draft) (frame : Frame) (waiting : List Frame) (log : Log) →
    IsFaultless (makes program o draft frame waiting log)
makes_is program (Run routine to from) (Summing size parameters) frame waiting log =
    checks_is program (Run routine to from) routine to (frame.values from) size parameters frame waiting log
makes_is program (New to address kind captures) (Summing size parameters) frame waiting log =
    news_is program (New to address kind captures) to (program.tick_at address) kind captures size parameters frame
    waiting log
makes_is program (Put capture from) (Filling tick size parameters words) frame waiting log =
    by (nat_eq capture (length words))
  where
    by : (b : Bool) → IsFaultless
        (if b then filled program tick size parameters (words ++ frame.values from ∷ []) (moved_on frame) waiting
        (paid (Put capture from) log) else Stuck log)
    by true = filled_is program tick size parameters (words ++ frame.values from ∷ []) (moved_on frame) waiting
        (paid (Put capture from) log)
    by false = tt
makes_is program _ draft frame waiting log = tt

making_is : (program : Program) (x : Option Op) (draft : Draft) (frame : Frame) (waiting : List Frame) (log : Log) →
    IsFaultless (making program x draft frame waiting log)
making_is program None draft frame waiting log = tt
making_is program (Some o) draft frame waiting log = by (uses_on o frame.on)
  where
    by : (b : Bool) → IsFaultless (if b then makes program o draft frame waiting log else Stuck log)
    by true = makes_is program o draft frame waiting log
    by false = tt

set_from_is : (o : Op) (x : Option ℕ) (to : ℕ) (frame : Frame) (waiting : List Frame) (log : Log) →
    IsFaultless (set_from o x to frame waiting log)
set_from_is o None to frame waiting log = tt
set_from_is o (Some x) to frame waiting log = tt

back_is : (x : ℕ) (waiting : List Frame) (log : Log) → IsFaultless (back x waiting log)
back_is x [] log = tt
back_is x (frame ∷ waiting) log = tt

take_is : (r : Read) (to : ℕ) (frame : Frame) (waiting : List Frame) (log : Log) →
    IsFaultless (take r to frame waiting log)
take_is (Got x shared) to frame waiting log = tt
take_is Failed to frame waiting log = tt

specifies_is : (specification : Specification) (to : ℕ) (frame : Frame) (waiting : List Frame) (log : Log) →
    IsFaultless (specifies specification to frame waiting log)
specifies_is specification to frame waiting log =
    unless_is (closure_trap 0 log.shared) log
    (goes_on (set to (next_number log.shared) frame) waiting (sharing (specified specification 0 log.shared) log)) tt

clear_is : (b : Bool) (words address : ℕ) (frame : Frame) (waiting : List Frame) (log log' : Log) →
    IsFaultless (if b then zeroing words address frame waiting log else Stuck log')
clear_is true zero address frame waiting log log' = tt
clear_is true (suc more) address frame waiting log log' = tt
clear_is false words address frame waiting log log' = tt

zeroed_on_is : (more address : ℕ) (frame : Frame) (waiting : List Frame) (log : Log) →
    IsFaultless (zeroed_on more address frame waiting log)
zeroed_on_is zero address frame waiting log = tt
zeroed_on_is (suc more) address frame waiting log = tt

module _ (program : Program) where
  act_is : (o : Op) (frame : Frame) (arguments : ℕ → Option ℕ) (answer : Option ℕ) (waiting : List Frame) (log : Log) →
      IsFaultless (act program o frame arguments answer waiting log)
  act_is (Const to word) frame arguments answer waiting log = tt
  act_is (Move to from) frame arguments answer waiting log = tt
  act_is (Bin kind to a b) frame arguments answer waiting log =
      untrapped_is (bin_trap kind (frame.values a) (frame.values b)) log
      (goes_on (set to (bin_value kind (frame.values a) (frame.values b)) frame) waiting (paid (Bin kind to a b) log))
      tt
  act_is (CheckDivision a b) frame arguments answer waiting log =
      unless_is (signed_trap (frame.values a) (frame.values b)) (paid (CheckDivision a b) log)
      (goes_on (moved_on frame) waiting (paid (CheckDivision a b) log)) tt
  act_is (CheckZero b) frame arguments answer waiting log =
      unless_is (zero_trap (frame.values b)) (paid (CheckZero b) log)
      (goes_on (moved_on frame) waiting (paid (CheckZero b) log)) tt
  act_is (Un kind to from) frame arguments answer waiting log = tt
  act_is (FrameAddress to offset) frame arguments answer waiting log = tt
  act_is (Load width to a) frame arguments answer waiting log =
      unless_is (access_trap (frame.values a) width) (paid (Load width to a) log)
      (goes_on (set to (loaded (frame.values a) width log.shared) frame) waiting (paid (Load width to a) log)) tt
  act_is (Store width a v) frame arguments answer waiting log =
      unless_is (access_trap (frame.values a) width) (paid (Store width a v) log)
      (goes_on (moved_on frame) waiting
      (sharing (stored (frame.values a) width (frame.values v) log.shared) (paid (Store width a v) log))) tt
  act_is (Clear offset words) frame arguments answer waiting log =
      clear_is (are_objects (address_of offset frame log) words) words (address_of offset frame log) frame waiting
      (paid (Clear offset words) log) log
  act_is (Label label) frame arguments answer waiting log = tt
  act_is (Jump label) frame arguments answer waiting log = tt
  act_is (BranchZero test label) frame arguments answer waiting log = tt
  act_is (BranchNonzero test label) frame arguments answer waiting log = tt
  act_is (Argument index from) frame arguments answer waiting log = tt
  act_is (GetParameter to index) frame arguments answer waiting log =
      set_from_is (GetParameter to index) (frame.parameters index) to frame waiting log
  act_is (Call address) frame arguments answer waiting log =
      call_at_is (Call address) (program.function_at address) frame arguments waiting log
  act_is (CallNumber number count) frame arguments answer waiting log =
      call_number_is program (CallNumber number count) (frame.values number) count frame arguments waiting log
  act_is (Result to) frame arguments answer waiting log = set_from_is (Result to) answer to frame waiting log
  act_is (Return from) frame arguments answer waiting log =
      back_is (frame.values from) waiting (left frame.function (paid (Return from) log))
  act_is ReturnZero frame arguments answer waiting log = back_is 0 waiting (left frame.function (paid ReturnZero log))
  act_is (Sys PutByte to from) frame arguments answer waiting log = tt
  act_is (Sys GetByte to from) frame arguments answer waiting log =
      take_is (get_byte log.shared) to frame waiting (paid (Sys GetByte to from) log)
  act_is (Sys Exit to from) frame arguments answer waiting log = tt
  act_is (Run run.Local to from) frame arguments answer waiting log =
      specifies_is Local to frame waiting (paid (Run run.Local to from) log)
  act_is (Run run.Parameter to from) frame arguments answer waiting log =
      unless_is (index_trap (frame.values from)) (paid (Run run.Parameter to from) log)
      (specifies (Param (frame.values from)) to frame waiting (paid (Run run.Parameter to from) log))
      (specifies_is (Param (frame.values from)) to frame waiting (paid (Run run.Parameter to from) log))
  act_is (Run run.Compile to from) frame arguments answer waiting log =
      compile_row_is program (Run run.Compile to from) to (specification_at (frame.values from) log.shared) frame
      waiting log
  act_is _ frame arguments answer waiting log = tt

  checked_is : (x : Option Op) (frame : Frame) (arguments : ℕ → Option ℕ) (answer : Option ℕ) (waiting : List Frame)
      (log : Log) → IsFaultless (checked program x frame arguments answer waiting log)
  checked_is None frame arguments answer waiting log = tt
  checked_is (Some o) frame arguments answer waiting log = by (uses_on o frame.on)
    where
      by : (b : Bool) → IsFaultless (if b then act program o frame arguments answer waiting log else Stuck log)
      by true = act_is o frame arguments answer waiting log
      by false = tt

  advance_is : (s : State) → IsFaultless s → IsFaultless (advance program s)
  advance_is (Running frame arguments answer waiting log) h =
      checked_is (slice_get frame.function.ops frame.index) frame arguments answer waiting log
  advance_is (Zeroing more address frame waiting log) h =
      zeroed_on_is more address frame waiting (word_zeroed address log)
  advance_is (Making draft frame waiting log) h =
      making_is program (slice_get frame.function.ops frame.index) draft frame waiting log
  advance_is (Compiling zero syntax to frame waiting log) h = tt
  advance_is (Compiling (suc more) syntax to frame waiting log) h = tt
  advance_is (Halted e log) h = h
  advance_is (Stuck log) h = tt

  pub stays_faultless : (n : ℕ) (s : State) → IsFaultless s → IsFaultless (iterate (advance program) n s)
  stays_faultless zero s h = h
  stays_faultless (suc n) s h = stays_faultless n (advance program s) (advance_is s h)

pub no_fault : (s : State) (k : MachineKind) (a : ℕ) → IsFaultless s → (see s).ending ≡ Some (Fault k a) → ⊥
no_fault (Running frame arguments answer waiting log) k a h e = cc
no_fault (Zeroing more address frame waiting log) k a h e = cc
no_fault (Making draft frame waiting log) k a h e = cc
no_fault (Compiling more syntax to frame waiting log) k a h e = cc
no_fault (Halted (Ended x) log) k a h e = cc
no_fault (Halted ReadFault log) k a h e = cc
no_fault (Halted (Fault x y) log) k a h e = h
no_fault (Stuck log) k a h e = cc
