-- Each step of the staged machine keeps the rows of specifications known.
use Rattle.std.proofs.Common.{◌≡◌, ℕ, zero, suc, ◌+◌, ◌-◌, ◌<◌, ◌≤◌, Bool, true, false, ◌&&◌, nat_eq, nat_le, nat_lt, List, []}
use Rattle.std.proofs.Common.{◌∷◌, ◌++◌, length, Option, Some, None, slice_get, refl, sym, subst, arith}
use Rattle.std.proofs.Common.{if◌then◌else◌}
use Rattle.std.specs.Fn.{iterate}
use Rattle.std.proofs.lemmas.Bool.Decides.{nat_tests}
use Rattle.limits.specs.declared.program.TheConstants.{MOST_ARGUMENTS, SIZE_LIMIT}
use Rattle.host_edge.specs.declared.ending.TrapKind.{TrapKind}
use Rattle.host_edge.specs.declared.ending.TrapKind.TheVariants.{BadSpec, SizeLimit, BadParam}
use Rattle.history.specs.Events.{Input, Next, Given, AtEnd, Failing, Entered, next_byte}
use Rattle.history.specs.Syntax.{Syntax}
use Rattle.icode_ops.specs.declared.op.Op.{Op}
use Rattle.icode_ops.specs.declared.op.Op.TheVariants as op
use Rattle.icode_ops.specs.declared.kind.SysKind.TheVariants as sys
use Rattle.icode_ops.specs.declared.kind.RunKind.{RunKind}
use Rattle.icode_ops.specs.declared.kind.RunKind.TheVariants as run
use Rattle.icode_ops.specs.declared.kind.ClosureKind.{ClosureKind}
use Rattle.meaning_state.specs.Bodies.{Body}
use Rattle.meaning_state.specs.Operators.{bin_trap, signed_trap, zero_trap}
use Rattle.meaning_state.specs.Shared.{Shared, Specification, Expression, Statement, Local, Param, happens, read}
use Rattle.meaning_state.specs.Shared.{put_byte, put_number, access_trap, stored}
use Rattle.meaning_state.specs.Shared.{are_objects, zeroed, limit_trap, charged, discharged}
use Rattle.meaning_state.specs.Rows.{closure_trap, index_trap, size_trap, numbered, specified, specification_at}
use Rattle.meaning_state.specs.Rows.{parameters_of, arena_trap, table_trap, next_function}
use Rattle.typed_tree.specs.declared.expression.CaptureKind.{CaptureKind}
use Rattle.typed_tree.specs.declared.expression.CaptureKind.TheVariants as kind
use Rattle.typed_tree.specs.declared.expression.Answer.TheVariants as answer
use Rattle.typed_tree.specs.Nodes as node
use Rattle.wellformed.specs.Program.{IsProgram}
use Rattle.staged_meaning.specs.Program as meaning
use Rattle.staged_meaning.specs.Program.{is_expression, syntax_size}
use Rattle.staged_meaning.specs.Specifications.{fits, captures_trap}
use Rattle.staged_meaning.specs.Meaning.{at_start}
use Rattle.icode_meaning.specs.State.{Function, Program, Frame, Log, State, Running, Zeroing, Halted, Stuck, Making}
use Rattle.icode_meaning.specs.State.{Compiling, Draft, Summing, Filling}
use Rattle.icode_meaning.specs.Steps as steps
use Rattle.icode_meaning.specs.Steps.{advance, first, act, makes, making, checked, uses_on}
use Rattle.known_closures_proof.specs.Known.{IsCode, AreKnown}
use Rattle.known_closures_proof.proofs.Making.{known_same, new_row, row_code, tick_known, malloc_known, known_made}
use Rattle.known_closures_proof.specs.States.{HasText, IsFilling, IsDraft, IsKnownState}
use Rattle.known_closures_proof.specs.StateLaws.{StepsKeepRows, RunsKeepRows}

module _ (p : node.Program) (accepted : IsProgram p) (machine : Program) (text : HasText p accepted machine) where
  abbrev Known : Shared → Type 0
  Known = AreKnown p accepted

  abbrev Good : State → Type 0
  Good = IsKnownState p accepted machine

  -- ---- ways in which a step goes on

  goes : (frame : Frame) (waiting : List Frame) (log : Log) → Known log.shared → Good (steps.goes_on frame waiting log)
  goes frame waiting log k = record { known = k; begun = tt }

  unless_good : (o : Option TrapKind) (log : Log) (s : State) → Known log.shared → (o ≡ None → Good s)
      → Good (steps.unless o log s)
  unless_good None log s k f = f refl
  unless_good (Some kind) log s k f = record { known = k; begun = tt }

  untrapped_good : (o : Option TrapKind) (log : Log) (s : State) → Known log.shared → Good s
      → Good (steps.untrapped o log s)
  untrapped_good None log s k good = good
  untrapped_good (Some kind) log s k good = record { known = k; begun = tt }

  -- a test
  if_good : (b : Bool) (s t : State) → (b ≡ true → Good s) → Good t → Good (if b then s else t)
  if_good true s t f good = f refl
  if_good false s t f good = good

  stuck : (log : Log) → Known log.shared → Good (Stuck log)
  stuck log k = record { known = k; begun = tt }

  -- ---- calls

  enter_good : (function : Function) (frame : Frame) (arguments : ℕ → Option ℕ) (waiting : List Frame) (log : Log)
      → Known log.shared → Good (steps.enter function frame arguments waiting log)
  enter_good function frame arguments waiting log k =
      unless_good (limit_trap function.charge function.object log.shared) log _ k
      (λ none. record {
        known = known_same p accepted log.shared (charged function.charge function.object log.shared) refl refl refl k;
        begun = tt;
      })

  call_good : (o : Op) (f : Option Function) (frame : Frame) (arguments : ℕ → Option ℕ) (waiting : List Frame)
      (log : Log) → Known log.shared → Good (steps.call_at o f frame arguments waiting log)
  call_good o None frame arguments waiting log k = stuck log k
  call_good o (Some f) frame arguments waiting log k = enter_good f frame arguments waiting (steps.paid o log) k

  row_good : (o : Op) (count : ℕ) (row : Option (ℕ × ℕ)) (frame : Frame) (arguments : ℕ → Option ℕ)
      (waiting : List Frame) (log : Log) → Known log.shared
      → Good (steps.call_row machine o count row frame arguments waiting log)
  row_good o count None frame arguments waiting log k = record { known = k; begun = tt }
  row_good o count (Some row) frame arguments waiting log k =
      if_good (nat_eq row.1 count) _ _
      (λ is. call_good o (machine.function_at row.0) frame arguments waiting log k)
      (record { known = k; begun = tt })

  compiled_good : (o : Op) (number : ℕ) (body : Option Body) (count : ℕ) (frame : Frame) (arguments : ℕ → Option ℕ)
      (waiting : List Frame) (log : Log) → Known log.shared
      → Good (steps.call_compiled machine o number body count frame arguments waiting log)
  compiled_good o number None count frame arguments waiting log k = record { known = k; begun = tt }
  compiled_good o number (Some body) count frame arguments waiting log k =
      if_good (body.live && nat_eq (parameters_of body.syntax) count) _ _
      (λ is. enter_good _ frame arguments waiting (steps.with_event number (steps.paid o log))
      (known_same p accepted log.shared (happens (Entered number) log.shared) refl refl refl k))
      (record { known = k; begun = tt })

  number_good : (o : Op) (number count : ℕ) (frame : Frame) (arguments : ℕ → Option ℕ) (waiting : List Frame)
      (log : Log) → Known log.shared → Good (steps.call_number machine o number count frame arguments waiting log)
  number_good o number count frame arguments waiting log k =
      let functions : ℕ = length machine.source.functions in
      if_good (nat_le number functions) _ _
      (λ is. row_good o count (machine.row number) frame arguments waiting log k)
      (compiled_good o number (numbered (number - functions) log.shared.bodies) count frame arguments waiting log k)

  set_good : (o : Op) (passed : Option ℕ) (to : ℕ) (frame : Frame) (waiting : List Frame) (log : Log) → Known log.shared
      → Good (steps.set_from o passed to frame waiting log)
  set_good o None to frame waiting log k = stuck log k
  set_good o (Some x) to frame waiting log k = record { known = k; begun = tt }

  back_good : (x : ℕ) (waiting : List Frame) (function : Function) (log : Log) → Known log.shared
      → Good (steps.back x waiting (steps.left function log))
  back_good x [] function log k = record {
    known = known_same p accepted log.shared (discharged function.charge function.object log.shared) refl refl refl k;
    begun = tt;
  }
  back_good x (frame ∷ waiting) function log k = record {
    known = known_same p accepted log.shared (discharged function.charge function.object log.shared) refl refl refl k;
    begun = tt;
  }

  -- ---- services

  take_good : (next : Next) (to : ℕ) (frame : Frame) (waiting : List Frame) (log : Log) → Known log.shared
      → Good (steps.take (read next log.shared) to frame waiting log)
  take_good (Given b rest) to frame waiting log k =
      record { known = known_same p accepted log.shared _ refl refl refl k; begun = tt }
  take_good AtEnd to frame waiting log k =
      record { known = known_same p accepted log.shared _ refl refl refl k; begun = tt }
  take_good Failing to frame waiting log k = record { known = k; begun = tt }

  zeroing_good : (words address : ℕ) (frame : Frame) (waiting : List Frame) (log : Log) → Known log.shared
      → Good (steps.zeroing words address frame waiting log)
  zeroing_good zero address frame waiting log k = stuck log k
  zeroing_good (suc more) address frame waiting log k = record { known = k; begun = tt }

  zeroed_good : (more address : ℕ) (frame : Frame) (waiting : List Frame) (log : Log) → Known log.shared
      → Good (steps.zeroed_on more address frame waiting log)
  zeroed_good zero address frame waiting log k = record { known = k; begun = tt }
  zeroed_good (suc more) address frame waiting log k = record { known = k; begun = tt }

  specifies_good : (s : Specification) (to : ℕ) (frame : Frame) (waiting : List Frame) (log : Log) → Known log.shared
      → (closure_trap 0 log.shared ≡ None → Known (specified s 0 log.shared))
      → Good (steps.specifies s to frame waiting log)
  specifies_good s to frame waiting log k f =
      unless_good (closure_trap 0 log.shared) log _ k (λ none. record { known = f none; begun = tt })

  -- ---- the ops of a tick

  adds_good : (o : Op) (to : ℕ) (k : CaptureKind) (row : Option Specification) (size parameters : ℕ) (frame : Frame)
      (waiting : List Frame) (log : Log) → Known log.shared
      → Good (steps.adds machine o to k row size parameters frame waiting log)
  adds_good o to k row size parameters frame waiting log known =
      unless_good (if fits k row then None else Some BadSpec) (steps.paid o log) _ known
      (λ none. if_good (nat_lt (size + steps.size_in machine row) 4294967296) _ _
      (λ is. record { known = known; begun = tt }) (stuck log known))

  checks_good : (o : Op) (routine : RunKind) (to number size parameters : ℕ) (frame : Frame) (waiting : List Frame)
      (log : Log) → Known log.shared
      → Good (steps.checks machine o routine to number size parameters frame waiting log)
  checks_good o run.Expression to number size parameters frame waiting log k =
      adds_good o to (kind.Splice answer.Value) (specification_at number log.shared) size parameters frame waiting log k
  checks_good o run.Statement to number size parameters frame waiting log k =
      adds_good o to (kind.Splice answer.Void) (specification_at number log.shared) size parameters frame waiting log k
  checks_good o run.Variable to number size parameters frame waiting log k =
      adds_good o to kind.Variable (specification_at number log.shared) size parameters frame waiting log k
  checks_good o run.Malloc to number size parameters frame waiting log k = stuck log k
  checks_good o run.Local to number size parameters frame waiting log k = stuck log k
  checks_good o run.Parameter to number size parameters frame waiting log k = stuck log k
  checks_good o run.Begin to number size parameters frame waiting log k = stuck log k
  checks_good o run.Compile to number size parameters frame waiting log k = stuck log k

  -- what was checked is what was put
  no_trap : (o : Option TrapKind) → steps.is_none o ≡ true → o ≡ None
  no_trap None is = refl
  no_trap (Some kind) is = absurd cc

  parts : (a b c : Bool) → a && b && c ≡ true → (a ≡ true) × (b ≡ true)
  parts true true c is = (refl, refl)
  parts true false c is = absurd cc
  parts false b c is = absurd cc

  small_enough : (n m : ℕ) → n ≤ SIZE_LIMIT → nat_eq n m ≡ true → size_trap m ≡ None
  small_enough n m le same =
      let is : nat_le m SIZE_LIMIT ≡ true = grind (arith, nat_tests, le, same) in rw is refl

  there_good : (tick size parameters : ℕ) (words : List ℕ) (frame : Frame) (waiting : List Frame) (log : Log)
      → IsFilling p accepted machine tick size log.shared → Known log.shared
      → length words ≡ length (machine.kinds tick)
      → Good (steps.is_there machine tick size parameters words frame waiting log)
  there_good tick size parameters words frame waiting log f k same =
      let shared : Shared = log.shared in
      let trap : Option TrapKind = captures_trap shared.specifications (machine.kinds tick) words in
      let syntax : Syntax = steps.syntax_of machine tick words shared in
      if_good (steps.is_right machine tick size parameters words shared) _ _
      (λ is.
      let both = parts (steps.is_none trap) (nat_eq size (syntax_size machine.source syntax)) _ is in record {
        known = tick_known p accepted machine.source text.ticks tick (machine.kinds tick) words shared k f.there same
            (no_trap trap both.0) (small_enough size (syntax_size machine.source syntax) f.small both.1)
            (subst (λ n. closure_trap n shared ≡ None) (sym same) f.room);
        begun = tt;
      })
      (stuck log k)

  filled_good : (tick size parameters : ℕ) (words : List ℕ) (frame : Frame) (waiting : List Frame) (log : Log)
      → IsFilling p accepted machine tick size log.shared → Known log.shared
      → Good (steps.filled machine tick size parameters words frame waiting log)
  filled_good tick size parameters words frame waiting log f k =
      if_good (nat_eq (length words) (length (machine.kinds tick))) _ _
      (λ is. there_good tick size parameters words frame waiting log f k (grind (arith, nat_tests, is)))
      (record { known = k; begun = f })

  is_small : (n : ℕ) → size_trap n ≡ None → n ≤ SIZE_LIMIT
  is_small n none = by (nat_le n SIZE_LIMIT) refl none
    where
      by : (b : Bool) → nat_le n SIZE_LIMIT ≡ b → (if b then None else Some SizeLimit) ≡ None → n ≤ SIZE_LIMIT
      by true is none = grind (arith, nat_tests, is)
      by false is none = absurd cc

  second : (a b : Bool) → a && b ≡ true → b ≡ true
  second true true is = refl
  second true false is = absurd cc
  second false b is = absurd cc

  news_good : (o : Op) (to : ℕ) (tick : Option ℕ) (address : ℕ) (kind : ClosureKind) (captures size parameters : ℕ)
      (frame : Frame) (waiting : List Frame) (log : Log) → machine.tick_at address ≡ tick → Known log.shared
      → Good (steps.news machine o to tick kind captures size parameters frame waiting log)
  news_good o to None address kind captures size parameters frame waiting log at k = stuck log k
  news_good o to (Some tick) address kind captures size parameters frame waiting log at k =
      let right : Bool = steps.is_kind kind (is_expression (slice_get machine.source.ticks tick)) in
      let many : Bool = nat_eq captures (length (machine.kinds tick)) in
      if_good (right && many) _ _
      (λ is. unless_good (size_trap size) (steps.paid o log) _ k
      (λ small. unless_good (closure_trap captures log.shared) (steps.paid o log) _ k
      (λ room.
      let same : captures ≡ length (machine.kinds tick) = grind (arith, nat_tests, second right many is) in
      filled_good tick size parameters [] _ waiting (steps.paid o log)
      (record {
        there = text.there address tick at;
        small = is_small size small;
        room = subst (λ n. closure_trap n log.shared ≡ None) same room;
      })
      k)))
      (stuck log k)

  makes_good : (o : Op) (draft : Draft) (frame : Frame) (waiting : List Frame) (log : Log) → Known log.shared
      → IsDraft p accepted machine draft log.shared → Good (makes machine o draft frame waiting log)
  makes_good (op.Run routine to from) (Summing size parameters) frame waiting log k f =
      checks_good (op.Run routine to from) routine to (frame.values from) size parameters frame waiting log k
  makes_good (op.Run routine to from) (Filling tick size parameters words) frame waiting log k f = stuck log k
  makes_good (op.New to address kind captures) (Summing size parameters) frame waiting log k f =
      news_good (op.New to address kind captures) to (machine.tick_at address) address kind captures size parameters
      frame waiting log refl k
  makes_good (op.New to address kind captures) (Filling tick size parameters words) frame waiting log k f = stuck log k
  makes_good (op.Put capture from) (Summing size parameters) frame waiting log k f = stuck log k
  makes_good (op.Put capture from) (Filling tick size parameters words) frame waiting log k f =
      if_good (nat_eq capture (length words)) _ _
      (λ is. filled_good tick size parameters (words ++ frame.values from ∷ []) (steps.moved_on frame) waiting
      (steps.paid (op.Put capture from) log) f k)
      (stuck log k)
  makes_good (op.Const to word) draft frame waiting log k f = stuck log k
  makes_good (op.Move to from) draft frame waiting log k f = stuck log k
  makes_good (op.Bin kind to a b) draft frame waiting log k f = stuck log k
  makes_good (op.CheckDivision a b) draft frame waiting log k f = stuck log k
  makes_good (op.CheckZero b) draft frame waiting log k f = stuck log k
  makes_good (op.Un kind to from) draft frame waiting log k f = stuck log k
  makes_good (op.FrameAddress to offset) draft frame waiting log k f = stuck log k
  makes_good (op.Load width to a) draft frame waiting log k f = stuck log k
  makes_good (op.Store width a v) draft frame waiting log k f = stuck log k
  makes_good (op.Clear offset words) draft frame waiting log k f = stuck log k
  makes_good (op.Label label) draft frame waiting log k f = stuck log k
  makes_good (op.Jump label) draft frame waiting log k f = stuck log k
  makes_good (op.BranchZero test label) draft frame waiting log k f = stuck log k
  makes_good (op.BranchNonzero test label) draft frame waiting log k f = stuck log k
  makes_good (op.Argument index from) draft frame waiting log k f = stuck log k
  makes_good (op.GetParameter to index) draft frame waiting log k f = stuck log k
  makes_good (op.Call address) draft frame waiting log k f = stuck log k
  makes_good (op.CallNumber number count) draft frame waiting log k f = stuck log k
  makes_good (op.Result to) draft frame waiting log k f = stuck log k
  makes_good (op.Return from) draft frame waiting log k f = stuck log k
  makes_good op.ReturnZero draft frame waiting log k f = stuck log k
  makes_good (op.Sys kind to from) draft frame waiting log k f = stuck log k

  making_good : (o : Option Op) (draft : Draft) (frame : Frame) (waiting : List Frame) (log : Log) → Known log.shared
      → IsDraft p accepted machine draft log.shared → Good (making machine o draft frame waiting log)
  making_good None draft frame waiting log k f = stuck log k
  making_good (Some o) draft frame waiting log k f =
      if_good (uses_on o frame.on) _ _ (λ is. makes_good o draft frame waiting log k f) (stuck log k)

  -- ---- compile

  compiles_good : (o : Op) (to : ℕ) (syntax : Syntax) (frame : Frame) (waiting : List Frame) (log : Log)
      → Known log.shared → IsCode p accepted syntax → Good (steps.compiles machine o to syntax frame waiting log)
  compiles_good o to syntax frame waiting log k is =
      unless_good (table_trap (next_function (length machine.source.functions) log.shared)) (steps.paid o log) _ k
      (λ none. unless_good (arena_trap (syntax_size machine.source syntax) log.shared) (steps.paid o log) _ k
      (λ none. record { known = k; begun = is }))

  compile_good : (o : Op) (to number : ℕ) (row : Option Specification) (frame : Frame) (waiting : List Frame) (log : Log)
      → Known log.shared → numbered number log.shared.specifications ≡ row
      → Good (steps.compile_row machine o to row frame waiting log)
  compile_good o to number (Some (Expression syntax)) frame waiting log k at =
      compiles_good o to syntax frame waiting log k (row_code p accepted log.shared k number true syntax at)
  compile_good o to number (Some (Statement syntax)) frame waiting log k at =
      compiles_good o to syntax frame waiting log k (row_code p accepted log.shared k number false syntax at)
  compile_good o to number (Some Local) frame waiting log k at = record { known = k; begun = tt }
  compile_good o to number (Some (Param index)) frame waiting log k at = record { known = k; begun = tt }
  compile_good o to number None frame waiting log k at = record { known = k; begun = tt }

  -- ---- all ops

  index_small : (n : ℕ) → index_trap n ≡ None → n < MOST_ARGUMENTS
  index_small n none = by (nat_le n 7) refl none
    where
      by : (b : Bool) → nat_le n 7 ≡ b → (if b then None else Some BadParam) ≡ None → n < MOST_ARGUMENTS
      by true is none = grind (arith, nat_tests, is)
      by false is none = absurd cc

  act_good : (o : Op) (frame : Frame) (arguments : ℕ → Option ℕ) (answer : Option ℕ) (waiting : List Frame) (log : Log)
      → Known log.shared → Good (act machine o frame arguments answer waiting log)
  act_good (op.Const to word) frame arguments answer waiting log k = record { known = k; begun = tt }
  act_good (op.Move to from) frame arguments answer waiting log k = record { known = k; begun = tt }
  act_good (op.Bin kind to a b) frame arguments answer waiting log k =
      untrapped_good (bin_trap kind (frame.values a) (frame.values b)) log _ k (record { known = k; begun = tt })
  act_good (op.CheckDivision a b) frame arguments answer waiting log k =
      unless_good (signed_trap (frame.values a) (frame.values b)) (steps.paid (op.CheckDivision a b) log) _ k
      (λ none. record { known = k; begun = tt })
  act_good (op.CheckZero b) frame arguments answer waiting log k =
      unless_good (zero_trap (frame.values b)) (steps.paid (op.CheckZero b) log) _ k
      (λ none. record { known = k; begun = tt })
  act_good (op.Un kind to from) frame arguments answer waiting log k = record { known = k; begun = tt }
  act_good (op.FrameAddress to offset) frame arguments answer waiting log k = record { known = k; begun = tt }
  act_good (op.Load width to a) frame arguments answer waiting log k =
      unless_good (access_trap (frame.values a) width) (steps.paid (op.Load width to a) log) _ k
      (λ none. record { known = k; begun = tt })
  act_good (op.Store width a v) frame arguments answer waiting log k =
      unless_good (access_trap (frame.values a) width) (steps.paid (op.Store width a v) log) _ k
      (λ none. record {
        known = known_same p accepted log.shared (stored (frame.values a) width (frame.values v) log.shared) refl refl
            refl k;
        begun = tt;
      })
  act_good (op.Clear offset words) frame arguments answer waiting log k =
      if_good (are_objects (steps.address_of offset frame log) words) _ _
      (λ is. zeroing_good words (steps.address_of offset frame log) frame waiting (steps.paid (op.Clear offset words) log)
      k)
      (stuck log k)
  act_good (op.Label label) frame arguments answer waiting log k = record { known = k; begun = tt }
  act_good (op.Jump label) frame arguments answer waiting log k = record { known = k; begun = tt }
  act_good (op.BranchZero test label) frame arguments answer waiting log k = record { known = k; begun = tt }
  act_good (op.BranchNonzero test label) frame arguments answer waiting log k = record { known = k; begun = tt }
  act_good (op.Argument index from) frame arguments answer waiting log k = record { known = k; begun = tt }
  act_good (op.GetParameter to index) frame arguments answer waiting log k =
      set_good (op.GetParameter to index) (frame.parameters index) to frame waiting log k
  act_good (op.Call address) frame arguments answer waiting log k =
      call_good (op.Call address) (machine.function_at address) frame arguments waiting log k
  act_good (op.CallNumber number count) frame arguments answer waiting log k =
      number_good (op.CallNumber number count) (frame.values number) count frame arguments waiting log k
  act_good (op.Result to) frame arguments answer waiting log k = set_good (op.Result to) answer to frame waiting log k
  act_good (op.Return from) frame arguments answer waiting log k =
      back_good (frame.values from) waiting frame.function (steps.paid (op.Return from) log) k
  act_good op.ReturnZero frame arguments answer waiting log k =
      back_good 0 waiting frame.function (steps.paid op.ReturnZero log) k
  act_good (op.Sys sys.PutInteger to from) frame arguments answer waiting log k =
      record {
        known = known_same p accepted log.shared (put_number (frame.values from) log.shared) refl refl refl k;
        begun = tt;
      }
  act_good (op.Sys sys.PutByte to from) frame arguments answer waiting log k =
      record {
        known = known_same p accepted log.shared (put_byte (frame.values from) log.shared) refl refl refl k;
        begun = tt;
      }
  act_good (op.Sys sys.GetByte to from) frame arguments answer waiting log k =
      take_good (next_byte log.shared.input) to frame waiting (steps.paid (op.Sys sys.GetByte to from) log) k
  act_good (op.Sys sys.Exit to from) frame arguments answer waiting log k = record { known = k; begun = tt }
  act_good (op.Run run.Malloc to from) frame arguments answer waiting log k =
      record { known = malloc_known p accepted (frame.values from) log.shared k; begun = tt }
  act_good (op.Run run.Local to from) frame arguments answer waiting log k =
      specifies_good Local to frame waiting (steps.paid (op.Run run.Local to from) log) k
      (λ none. new_row p accepted Local 0 log.shared k tt tt none)
  act_good (op.Run run.Parameter to from) frame arguments answer waiting log k =
      unless_good (index_trap (frame.values from)) (steps.paid (op.Run run.Parameter to from) log) _ k
      (λ small. specifies_good (Param (frame.values from)) to frame waiting
      (steps.paid (op.Run run.Parameter to from) log) k
      (λ none. new_row p accepted (Param (frame.values from)) 0 log.shared k (index_small (frame.values from) small) tt
      none))
  act_good (op.Run run.Begin to from) frame arguments answer waiting log k = record { known = k; begun = tt }
  act_good (op.Run run.Compile to from) frame arguments answer waiting log k =
      compile_good (op.Run run.Compile to from) to (frame.values from)
      (numbered (frame.values from) log.shared.specifications) frame waiting log k refl
  act_good (op.Run run.Expression to from) frame arguments answer waiting log k = stuck log k
  act_good (op.Run run.Statement to from) frame arguments answer waiting log k = stuck log k
  act_good (op.Run run.Variable to from) frame arguments answer waiting log k = stuck log k
  act_good (op.New to address kind captures) frame arguments answer waiting log k = stuck log k
  act_good (op.Put index from) frame arguments answer waiting log k = stuck log k

  checked_good : (o : Option Op) (frame : Frame) (arguments : ℕ → Option ℕ) (answer : Option ℕ) (waiting : List Frame)
      (log : Log) → Known log.shared → Good (checked machine o frame arguments answer waiting log)
  checked_good None frame arguments answer waiting log k = stuck log k
  checked_good (Some o) frame arguments answer waiting log k =
      if_good (uses_on o frame.on) _ _ (λ is. act_good o frame arguments answer waiting log k) (stuck log k)

  advance_good : (s : State) → Good s → Good (advance machine s)
  advance_good (Running frame arguments answer waiting log) g =
      checked_good (slice_get frame.function.ops frame.index) frame arguments answer waiting log g.known
  advance_good (Zeroing more address frame waiting log) g =
      zeroed_good more address frame waiting (steps.word_zeroed address log)
      (known_same p accepted log.shared (zeroed address 1 log.shared) refl refl refl g.known)
  advance_good (Making draft frame waiting log) g =
      making_good (slice_get frame.function.ops frame.index) draft frame waiting log g.known g.begun
  advance_good (Compiling zero syntax to frame waiting log) g =
      record { known = known_made p accepted _ _ syntax log.shared g.begun g.known; begun = tt }
  advance_good (Compiling (suc more) syntax to frame waiting log) g = record { known = g.known; begun = g.begun }
  advance_good (Halted end log) g = g
  advance_good (Stuck log) g = g

  at_first : (program : meaning.Program) (input : Input) (main : Function) → Good (first main (at_start program input))
  at_first program input main =
      record {
        known = record { rows = tt; keys = tt; bytes = omega arith; within = omega arith; bodies = tt };
        begun = tt;
      }

  steps_good : (i : ℕ) (s : State) → Good s → Good (iterate (advance machine) i s)
  steps_good zero s g = g
  steps_good (suc i) s g = steps_good i (advance machine s) (advance_good s g)

pub steps_keep : StepsKeepRows
steps_keep p accepted machine state text good = advance_good p accepted machine text state good

pub runs_keep : RunsKeepRows
runs_keep p accepted machine program main input i text =
    steps_good p accepted machine text i (first main (at_start program input))
    (at_first p accepted machine text program input main)
