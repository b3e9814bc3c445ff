-- No step of the staged machine lowers the most that it has cost.
use Rattle.std.specs.Prelude.{◌*◌}
use Rattle.std.proofs.Common.{ℕ, zero, suc, ◌+◌, ◌-◌, ◌≤◌, Bool, true, false, ◌&&◌, if◌then◌else◌, List, [], ◌∷◌, ◌++◌}
use Rattle.std.proofs.Common.{length, Option, Some, None, arith, slice_get, nat_eq, nat_lt, nat_le, max}
use Rattle.host_edge.specs.declared.ending.TrapKind.{TrapKind}
use Rattle.host_edge.specs.declared.ending.TrapKind.TheVariants.{BadSpec, BadCall}
use Rattle.host_edge.specs.declared.ending.Ending.TheVariants.{Trap}
use Rattle.history.specs.Events.{Ended}
use Rattle.history.specs.Syntax.{Syntax}
use Rattle.icode_ops.specs.declared.op.Op.{Op}
use Rattle.icode_ops.specs.declared.op.Op.TheVariants as op
use Rattle.icode_ops.specs.declared.op.Op.TheVariants.{Run, New, Put, Sys}
use Rattle.icode_ops.specs.declared.kind.RunKind.TheVariants as run
use Rattle.icode_ops.specs.declared.kind.SysKind.TheVariants.{PutInteger, PutByte, GetByte, Exit}
use Rattle.icode_ops.specs.declared.kind.ClosureKind.{ClosureKind}
use Rattle.typed_tree.specs.declared.expression.CaptureKind.{CaptureKind}
use Rattle.typed_tree.specs.declared.expression.CaptureKind.TheVariants as kind
use Rattle.typed_tree.specs.declared.expression.Answer.TheVariants as answer
use Rattle.meaning_state.specs.Bodies.{Body}
use Rattle.word32.specs.declared.map.TheConstants.{ARENA}
use Rattle.meaning_state.specs.Operators.{bin_value, bin_trap, signed_trap, zero_trap}
use Rattle.meaning_state.specs.Rows.{closure_trap, index_trap, size_trap, next_number, specification_at, numbered}
use Rattle.meaning_state.specs.Rows.{specified, parameters_of, table_trap, arena_trap, next_function}
use Rattle.meaning_state.specs.Shared.{Specification, Expression, Statement, Local, Param, Read, Got, Failed}
use Rattle.meaning_state.specs.Shared.{get_byte, access_trap, loaded}
use Rattle.meaning_state.specs.Shared.{stored, are_objects, limit_trap}
use Rattle.staged_meaning.specs.Program.{is_expression, syntax_size}
use Rattle.staged_meaning.specs.Specifications.{fits, specification_of}
use Rattle.icode_meaning.specs.State.{Program, Function, Frame, Log, State, Running, Zeroing, Making, Compiling, Halted}
use Rattle.icode_meaning.specs.State.{Stuck, Draft, Summing, Filling, most_at}
use Rattle.icode_meaning.specs.Steps.{advance, act, checked, making, makes, adds, news, filled, is_there, is_right}
use Rattle.icode_meaning.specs.Steps.{unless, untrapped, goes_on, set, moved_on, paid, enter, call_at, call_row}
use Rattle.icode_meaning.specs.Steps.{call_compiled, set_from, back, left, take, specifies, zeroing}
use Rattle.icode_meaning.specs.Steps.{begun, entered, with_event, uses_on, is_kind, size_in, parameters_in}
use Rattle.icode_meaning.specs.Steps.{address_of, function_for, syntax_of, sharing, compiles, compile_row}

unless_rises : (t : Option TrapKind) (log : Log) (x : State) (n : ℕ) → n ≤ log.most → n ≤ most_at x
    → n ≤ most_at (unless t log x)
unless_rises None log x n e1 e2 = e2
unless_rises (Some k) log x n e1 e2 = e1

untrapped_rises : (t : Option TrapKind) (log : Log) (x : State) (n : ℕ) → n ≤ log.most → n ≤ most_at x
    → n ≤ most_at (untrapped t log x)
untrapped_rises None log x n e1 e2 = e2
untrapped_rises (Some k) log x n e1 e2 = e1

if_rises : (b : Bool) (x y : State) (n : ℕ) → n ≤ most_at x → n ≤ most_at y → n ≤ most_at (if b then x else y)
if_rises true x y n e1 e2 = e1
if_rises false x y n e1 e2 = e2

back_rises : (x : ℕ) (waiting : List Frame) (log : Log) (n : ℕ) → n ≤ log.most → n ≤ most_at (back x waiting log)
back_rises x [] log n e = e
back_rises x (w ∷ ws) log n e = e

take_rises : (r : Read) (to : ℕ) (w : Frame) (waiting : List Frame) (log : Log) (n : ℕ) → n ≤ log.most
    → n ≤ most_at (take r to w waiting log)
take_rises (Got x shared) to w waiting log n e = e
take_rises Failed to w waiting log n e = e

set_rises : (o : Op) (x : Option ℕ) (to : ℕ) (w : Frame) (waiting : List Frame) (log : Log)
    → log.most ≤ most_at (set_from o x to w waiting log)
set_rises o None to w waiting log = omega arith
set_rises o (Some x) to w waiting log = omega arith

zeroing_rises : (n address : ℕ) (w : Frame) (waiting : List Frame) (log : Log)
    → log.most ≤ most_at (zeroing n address w waiting log)
zeroing_rises zero address w waiting log = omega arith
zeroing_rises (suc n) address w waiting log = omega arith

enter_rises : (f : Function) (w : Frame) (arguments : ℕ → Option ℕ) (waiting : List Frame) (log : Log) (n : ℕ)
    → n ≤ log.most → n ≤ most_at (enter f w arguments waiting log)
enter_rises f w arguments waiting log n e =
    unless_rises (limit_trap f.charge f.object log.shared) log
    (goes_on (begun f arguments) (moved_on w ∷ waiting) (entered f log)) n e e

call_rises : (o : Op) (x : Option Function) (w : Frame) (arguments : ℕ → Option ℕ) (waiting : List Frame) (log : Log)
    → log.most ≤ most_at (call_at o x w arguments waiting log)
call_rises o None w arguments waiting log = omega arith
call_rises o (Some f) w arguments waiting log = enter_rises f w arguments waiting (paid o log) log.most (omega arith)

module _ (p : Program) where
  row_rises : (o : Op) (count : ℕ) (x : Option (ℕ × ℕ)) (w : Frame) (arguments : ℕ → Option ℕ) (waiting : List Frame)
      (log : Log) → log.most ≤ most_at (call_row p o count x w arguments waiting log)
  row_rises o count None w arguments waiting log = omega arith
  row_rises o count (Some row) w arguments waiting log =
      if_rises (nat_eq row.1 count) (call_at o (p.function_at row.0) w arguments waiting log)
      (Halted (Ended (Trap BadCall)) (paid o log)) log.most
      (call_rises o (p.function_at row.0) w arguments waiting log) (omega arith)

  filled_rises : (t size parameters : ℕ) (words : List ℕ) (w : Frame) (waiting : List Frame) (log : Log) (n : ℕ)
      → n ≤ log.most → n ≤ most_at (filled p t size parameters words w waiting log)
  filled_rises t size parameters words w waiting log n e =
      if_rises (nat_eq (length words) (length (p.kinds t))) (is_there p t size parameters words w waiting log)
      (Making (Filling t size parameters words) w waiting log) n
      (if_rises (is_right p t size parameters words log.shared)
      (goes_on w waiting (sharing (specified (specification_of (is_expression (slice_get p.source.ticks t))
      (syntax_of p t words log.shared)) (length words) log.shared) log)) (Stuck log) n e e) e

  adds_rises : (o : Op) (to : ℕ) (kind : CaptureKind) (row : Option Specification) (size parameters : ℕ) (w : Frame)
      (waiting : List Frame) (log : Log)
      → log.most ≤ most_at (adds p o to kind row size parameters w waiting log)
  adds_rises o to kind row size parameters w waiting log =
      let next = Making (Summing (size + size_in p row) (max parameters (parameters_in row))) (set to 0 w) waiting
      (paid o log) in
      unless_rises (if fits kind row then None else Some BadSpec) (paid o log)
      (if nat_lt (size + size_in p row) 4294967296 then next else Stuck log) log.most (omega arith)
      (if_rises (nat_lt (size + size_in p row) 4294967296) next (Stuck log) log.most (omega arith) (omega arith))

  news_rises : (o : Op) (to : ℕ) (t : Option ℕ) (kind : ClosureKind) (captures size parameters : ℕ) (w : Frame)
      (waiting : List Frame) (log : Log)
      → log.most ≤ most_at (news p o to t kind captures size parameters w waiting log)
  news_rises o to None kind captures size parameters w waiting log = omega arith
  news_rises o to (Some t) kind captures size parameters w waiting log =
      let log' = paid o log in
      let last = filled p t size parameters [] (set to (next_number log.shared) w) waiting log' in
      let room = unless (closure_trap captures log.shared) log' last in
      if_rises (is_kind kind (is_expression (slice_get p.source.ticks t)) && nat_eq captures (length (p.kinds t)))
      (unless (size_trap size) log' room) (Stuck log) log.most
      (unless_rises (size_trap size) log' room log.most (omega arith)
      (unless_rises (closure_trap captures log.shared) log' last log.most (omega arith)
      (filled_rises t size parameters [] (set to (next_number log.shared) w) waiting log' log.most (omega arith))))
      (omega arith)

  makes_rises : (o : Op) (draft : Draft) (w : Frame) (waiting : List Frame) (log : Log)
      → log.most ≤ most_at (makes p o draft w waiting log)
  makes_rises (Run run.Expression to from) (Summing size parameters) w waiting log =
      adds_rises (Run run.Expression to from) to (kind.Splice answer.Value)
      (specification_at (w.values from) log.shared) size parameters w
      waiting log
  makes_rises (Run run.Statement to from) (Summing size parameters) w waiting log =
      adds_rises (Run run.Statement to from) to (kind.Splice answer.Void) (specification_at (w.values from) log.shared)
      size parameters w
      waiting log
  makes_rises (Run run.Variable to from) (Summing size parameters) w waiting log =
      adds_rises (Run run.Variable to from) to kind.Variable (specification_at (w.values from) log.shared) size
      parameters w
      waiting log
  makes_rises (Run run.Malloc to from) (Summing size parameters) w waiting log = omega arith
  makes_rises (Run run.Compile to from) (Summing size parameters) w waiting log = omega arith
  makes_rises (Run run.Local to from) (Summing size parameters) w waiting log = omega arith
  makes_rises (Run run.Parameter to from) (Summing size parameters) w waiting log = omega arith
  makes_rises (Run run.Begin to from) (Summing size parameters) w waiting log = omega arith
  makes_rises (New to address kind captures) (Summing size parameters) w waiting log =
      news_rises (New to address kind captures) to (p.tick_at address) kind captures size parameters w waiting log
  makes_rises (Put capture from) (Filling t size parameters words) w waiting log =
      if_rises (nat_eq capture (length words))
      (filled p t size parameters (words ++ w.values from ∷ []) (moved_on w) waiting (paid (Put capture from) log))
      (Stuck log) log.most
      (filled_rises t size parameters (words ++ w.values from ∷ []) (moved_on w) waiting (paid (Put capture from) log)
      log.most (omega arith)) (omega arith)
  makes_rises (Run routine to from) (Filling t size parameters words) w waiting log = omega arith
  makes_rises (New to address kind captures) (Filling t size parameters words) w waiting log = omega arith
  makes_rises (Put capture from) (Summing size parameters) w waiting log = omega arith
  makes_rises (op.Const to word) draft w waiting log = omega arith
  makes_rises (op.Move to from) draft w waiting log = omega arith
  makes_rises (op.Bin kind to left right) draft w waiting log = omega arith
  makes_rises (op.CheckDivision left right) draft w waiting log = omega arith
  makes_rises (op.CheckZero divisor) draft w waiting log = omega arith
  makes_rises (op.Un kind to from) draft w waiting log = omega arith
  makes_rises (op.FrameAddress to offset) draft w waiting log = omega arith
  makes_rises (op.Load width to address) draft w waiting log = omega arith
  makes_rises (op.Store width address value) draft w waiting log = omega arith
  makes_rises (op.Clear offset words) draft w waiting log = omega arith
  makes_rises (op.Label label) draft w waiting log = omega arith
  makes_rises (op.Jump label) draft w waiting log = omega arith
  makes_rises (op.BranchZero test label) draft w waiting log = omega arith
  makes_rises (op.BranchNonzero test label) draft w waiting log = omega arith
  makes_rises (op.Argument index from) draft w waiting log = omega arith
  makes_rises (op.GetParameter to index) draft w waiting log = omega arith
  makes_rises (op.Call address) draft w waiting log = omega arith
  makes_rises (op.CallNumber number count) draft w waiting log = omega arith
  makes_rises (op.Result to) draft w waiting log = omega arith
  makes_rises (op.Return from) draft w waiting log = omega arith
  makes_rises op.ReturnZero draft w waiting log = omega arith
  makes_rises (op.Sys kind to from) draft w waiting log = omega arith

  compiled_rises : (o : Op) (number : ℕ) (x : Option Body) (count : ℕ) (w : Frame)
      (arguments : ℕ → Option ℕ) (waiting : List Frame) (log : Log)
      → log.most ≤ most_at (call_compiled p o number x count w arguments waiting log)
  compiled_rises o number None count w arguments waiting log = omega arith
  compiled_rises o number (Some x) count w arguments waiting log =
      let f = function_for p x.syntax (ARENA + 4 * x.first) in
      let log' = with_event number (paid o log) in
      if_rises (x.live && nat_eq (parameters_of x.syntax) count) (enter f w arguments waiting log')
      (Halted (Ended (Trap BadCall)) (paid o log)) log.most
      (enter_rises f w arguments waiting log' log.most (omega arith)) (omega arith)

  compiles_rises : (o : Op) (to : ℕ) (syntax : Syntax) (w : Frame) (waiting : List Frame) (log : Log)
      → log.most ≤ most_at (compiles p o to syntax w waiting log)
  compiles_rises o to syntax w waiting log =
      let size = syntax_size p.source syntax in
      let last = Compiling size syntax to w waiting log in
      unless_rises (table_trap (next_function (length p.source.functions) log.shared)) (paid o log)
      (unless (arena_trap size log.shared) (paid o log) last) log.most (omega arith)
      (unless_rises (arena_trap size log.shared) (paid o log) last log.most (omega arith) (omega arith))

  compile_rises : (o : Op) (to : ℕ) (row : Option Specification) (w : Frame) (waiting : List Frame) (log : Log)
      → log.most ≤ most_at (compile_row p o to row w waiting log)
  compile_rises o to (Some (Expression syntax)) w waiting log = compiles_rises o to syntax w waiting log
  compile_rises o to (Some (Statement syntax)) w waiting log = compiles_rises o to syntax w waiting log
  compile_rises o to (Some Local) w waiting log = omega arith
  compile_rises o to (Some (Param index)) w waiting log = omega arith
  compile_rises o to None w waiting log = omega arith

  module _ (w : Frame) (arguments : ℕ → Option ℕ) (answer : Option ℕ) (waiting : List Frame) (log : Log) where
    specifies_rises : (o : Op) (r : Specification) (to : ℕ)
        → log.most ≤ most_at (specifies r to w waiting (paid o log))
    specifies_rises o r to =
        unless_rises (closure_trap 0 log.shared) (paid o log)
        (goes_on (set to (next_number log.shared) w) waiting (sharing (specified r 0 log.shared) (paid o log))) log.most
        (omega arith) (omega arith)

    act_rises : (o : Op) → log.most ≤ most_at (act p o w arguments answer waiting log)
    act_rises (op.Const to word) = omega arith
    act_rises (op.Move to from) = omega arith
    act_rises (op.Bin kind to left right) =
        untrapped_rises (bin_trap kind (w.values left) (w.values right)) log
        (goes_on (set to (bin_value kind (w.values left) (w.values right)) w) waiting
        (paid (op.Bin kind to left right) log)) log.most (omega arith) (omega arith)
    act_rises (op.CheckDivision left right) =
        let log' = paid (op.CheckDivision left right) log in
        unless_rises (signed_trap (w.values left) (w.values right)) log' (goes_on (moved_on w) waiting log') log.most
        (omega arith) (omega arith)
    act_rises (op.CheckZero divisor) =
        let log' = paid (op.CheckZero divisor) log in
        unless_rises (zero_trap (w.values divisor)) log' (goes_on (moved_on w) waiting log') log.most (omega arith)
        (omega arith)
    act_rises (op.Un kind to from) = omega arith
    act_rises (op.FrameAddress to offset) = omega arith
    act_rises (op.Load width to from) =
        let log' = paid (op.Load width to from) log in
        unless_rises (access_trap (w.values from) width) log'
        (goes_on (set to (loaded (w.values from) width log.shared) w) waiting log') log.most (omega arith) (omega arith)
    act_rises (op.Store width to value) =
        let log' = paid (op.Store width to value) log in
        unless_rises (access_trap (w.values to) width) log'
        (goes_on (moved_on w) waiting (sharing (stored (w.values to) width (w.values value) log.shared) log')) log.most
        (omega arith) (omega arith)
    act_rises (op.Clear offset words) =
        let z = zeroing_rises words (address_of offset w log) w waiting (paid (op.Clear offset words) log) in
        if_rises (are_objects (address_of offset w log) words)
        (zeroing words (address_of offset w log) w waiting (paid (op.Clear offset words) log)) (Stuck log) log.most
        (omega (arith, z)) (omega arith)
    act_rises (op.Label label) = omega arith
    act_rises (op.Jump label) = omega arith
    act_rises (op.BranchZero test label) = omega arith
    act_rises (op.BranchNonzero test label) = omega arith
    act_rises (op.Argument index from) = omega arith
    act_rises (op.GetParameter to index) = set_rises (op.GetParameter to index) (w.parameters index) to w waiting log
    act_rises (op.Call address) = call_rises (op.Call address) (p.function_at address) w arguments waiting log
    act_rises (op.CallNumber number count) =
        let o : Op = op.CallNumber number count in
        let n = w.values number in
        let functions = length p.source.functions in
        if_rises (nat_le n functions) (call_row p o count (p.row n) w arguments waiting log)
        (call_compiled p o n (numbered (n - functions) log.shared.bodies) count w arguments
        waiting
        log) log.most (row_rises o count (p.row n) w arguments waiting log)
        (compiled_rises o n (numbered (n - functions) log.shared.bodies) count w arguments waiting
        log)
    act_rises (op.Result to) = set_rises (op.Result to) answer to w waiting log
    act_rises (op.Return from) =
        back_rises (w.values from) waiting (left w.function (paid (op.Return from) log)) log.most (omega arith)
    act_rises op.ReturnZero = back_rises 0 waiting (left w.function (paid op.ReturnZero log)) log.most (omega arith)
    act_rises (Sys PutInteger to from) = omega arith
    act_rises (Sys PutByte to from) = omega arith
    act_rises (Sys GetByte to from) =
        take_rises (get_byte log.shared) to w waiting (paid (Sys GetByte to from) log) log.most (omega arith)
    act_rises (Sys Exit to from) = omega arith
    act_rises (Run run.Malloc to from) = omega arith
    act_rises (Run run.Local to from) = specifies_rises (Run run.Local to from) Local to
    act_rises (Run run.Parameter to from) =
        let o : Op = Run run.Parameter to from in
        unless_rises (index_trap (w.values from)) (paid o log)
        (specifies (Param (w.values from)) to w waiting (paid o log)) log.most (omega arith)
        (specifies_rises o (Param (w.values from)) to)
    act_rises (Run run.Begin to from) = omega arith
    act_rises (Run run.Compile to from) =
        compile_rises (Run run.Compile to from) to (specification_at (w.values from) log.shared) w waiting log
    act_rises (Run run.Expression to from) = omega arith
    act_rises (Run run.Statement to from) = omega arith
    act_rises (Run run.Variable to from) = omega arith
    act_rises (New to address kind captures) = omega arith
    act_rises (Put capture from) = omega arith

  pub rises : (a : State) → most_at a ≤ most_at (advance p a)
  rises (Running w arguments answer waiting log) = by (slice_get w.function.ops w.index)
    where
      by : (o : Option Op) → log.most ≤ most_at (checked p o w arguments answer waiting log)
      by None = omega arith
      by (Some o) =
          if_rises (uses_on o w.on) (act p o w arguments answer waiting log) (Stuck log) log.most
          (act_rises w arguments answer waiting log o) (omega arith)
  rises (Zeroing zero address w waiting log) = omega arith
  rises (Zeroing (suc more) address w waiting log) = omega arith
  rises (Making draft w waiting log) = by (slice_get w.function.ops w.index)
    where
      by : (o : Option Op) → log.most ≤ most_at (making p o draft w waiting log)
      by None = omega arith
      by (Some o) =
          if_rises (uses_on o w.on) (makes p o draft w waiting log) (Stuck log) log.most
          (makes_rises o draft w waiting log) (omega arith)
  rises (Compiling zero syntax to w waiting log) = omega arith
  rises (Compiling (suc more) syntax to w waiting log) = omega arith
  rises (Halted end log) = omega arith
  rises (Stuck log) = omega arith
