-- What every run keeps: the frame objects are within their limit, and so is the size of each specification.
use Rattle.std.proofs.Common.{◌≡◌, ℕ, zero, suc, ◌+◌, ◌*◌, ◌/◌, ◌≤◌, List, [], ◌∷◌, Option, Some, None, Bool, true}
use Rattle.std.proofs.Common.{false, refl, subst, arith}
use Rattle.std.specs.Prelude.{nat_le, nat_eq, if◌then◌else◌, slice_get}
use Rattle.std.specs.Fn.{iterate}
use Rattle.std.proofs.lemmas.Bool.{leb-true, and_parts, eqb-true}
use Rattle.host_edge.specs.declared.ending.TrapKind.{TrapKind}
use Rattle.host_edge.specs.declared.ending.TrapKind.TheVariants.{StackLimit, FrameLimit, BadCall}
use Rattle.host_edge.specs.declared.ending.Ending.TheVariants.{Trap}
use Rattle.history.specs.Events.{Ended, Next, Given, AtEnd, Failing, next_byte}
use Rattle.icode_ops.specs.declared.op.Op.{Op}
use Rattle.icode_ops.specs.declared.op.Op.TheVariants as op
use Rattle.icode_ops.specs.declared.kind.SysKind.TheVariants as sys
use Rattle.icode_ops.specs.declared.kind.RunKind.TheVariants as run
use Rattle.limits.specs.declared.program.TheConstants.{FRAME_OBJECT_BYTES, SIZE_LIMIT}
use Rattle.word32.specs.declared.map.TheConstants.{STACK_BYTES}
use Rattle.meaning_state.specs.Bodies.{Body}
use Rattle.word32.specs.declared.map.TheConstants.{ARENA}
use Rattle.meaning_state.specs.Operators.{bin_trap, signed_trap, zero_trap}
use Rattle.meaning_state.specs.Rows.{closure_trap, index_trap, table_trap, arena_trap, next_function}
use Rattle.meaning_state.specs.Shared.{Shared, Specification, Expression, Statement, Local, Param, is_room, malloc}
use Rattle.meaning_state.specs.Shared.{read, access_trap}
use Rattle.meaning_state.specs.Shared.{are_objects}
use Rattle.icode_meaning.specs.State.{Function, Program, Frame, State, Running, Zeroing, Halted, Stuck, Log, log_of}
use Rattle.icode_meaning.specs.Steps.{uses_on, goes_on, moved_on, paid, unless, enter, entered, begun, call_at}
use Rattle.icode_meaning.specs.Steps.{call_row, untrapped}
use Rattle.icode_meaning.specs.Steps.{set_from, left, back, take, specifies, zeroing, zeroed_on, word_zeroed, act}
use Rattle.icode_meaning.specs.Steps.{checked, call_number, call_compiled, function_for, with_event, is_there}
use Rattle.icode_meaning.specs.Steps.{is_none, syntax_of, sharing, compiles, compile_row}
use Rattle.icode_meaning.specs.Steps.{is_right, filled, adds, size_in, checks, news, is_kind, makes, making, set}
use Rattle.icode_meaning.specs.State.{Making, Compiling, Draft, Summing, Filling}
use Rattle.std.specs.Prelude.{length, nat_eq, nat_lt, ◌-◌, ◌&&◌, ◌++◌, slice_get}
use Rattle.history.specs.Syntax.{Syntax}
use Rattle.host_edge.specs.declared.ending.TrapKind.TheVariants.{BadSpec, SizeLimit}
use Rattle.icode_ops.specs.declared.kind.RunKind.{RunKind}
use Rattle.icode_ops.specs.declared.kind.ClosureKind.{ClosureKind}
use Rattle.meaning_state.specs.Rows.{numbered, parameters_of, specification_at, next_number, size_trap, specified}
use Rattle.typed_tree.specs.declared.expression.CaptureKind.{CaptureKind}
use Rattle.typed_tree.specs.declared.expression.CaptureKind.TheVariants as kind
use Rattle.typed_tree.specs.declared.expression.Answer.TheVariants as answer
use Rattle.staged_meaning.specs.Program.{is_expression, syntax_size}
use Rattle.staged_meaning.specs.Specifications.{fits, captures_trap, specification_of}
use Rattle.icode_meaning.specs.Steps.{advance, address_of}
use Rattle.tick_lower_proof.proofs.Machine.{Goes}
use Rattle.tick_lower_proof.proofs.Smalls.{AreSmall, one_small}

-- what every run keeps
pub record IsPlain (P : Program) (shared : Shared) : Type 0 where
  pub few_frames : shared.frames ≤ FRAME_OBJECT_BYTES
  pub small : AreSmall P SIZE_LIMIT shared.specifications

-- of a state: a closure that has some of its words was within the limit too
abbrev pub IsPlainAt : Program → State → Type 0
IsPlainAt P (Making (Filling tick size parameters words) frame waiting g) = IsPlain P g.shared × (size ≤ SIZE_LIMIT)
IsPlainAt P s = IsPlain P (log_of s).shared

module _ (P : Program) where
  unless_plain : (trap : Option TrapKind) (g : Log) (s : State) → IsPlain P g.shared → IsPlainAt P s → IsPlainAt P
      (unless trap g s)
  unless_plain None g s h k = k
  unless_plain (Some kind) g s h k = h

  untrapped_plain : (trap : Option TrapKind) (g : Log) (s : State) → IsPlain P g.shared → IsPlainAt P s →
      IsPlainAt P (untrapped trap g s)
  untrapped_plain None g s h k = k
  untrapped_plain (Some kind) g s h k = h

  if_plain : (b : Bool) (s t : State) → IsPlainAt P s → IsPlainAt P t → IsPlainAt P (if b then s else t)
  if_plain true s t h k = h
  if_plain false s t h k = k

  -- a call that is within the limits is entered
  enter_plain : (fn : Function) (frame : Frame) (arguments : ℕ → Option ℕ) (waiting : List Frame) (g : Log) →
      IsPlain P g.shared → IsPlainAt P (enter fn frame arguments waiting g)
  enter_plain fn frame arguments waiting g h =
      by (nat_le (g.shared.used + fn.charge) STACK_BYTES) (nat_le (g.shared.frames + fn.object) FRAME_OBJECT_BYTES) refl
    where
      by : (a b : Bool) → nat_le (g.shared.frames + fn.object) FRAME_OBJECT_BYTES ≡ b →
          IsPlainAt P (unless (if a then (if b then None else Some FrameLimit) else Some StackLimit) g
          (goes_on (begun fn arguments) (moved_on frame ∷ waiting) (entered fn g)))
      by true true q = record {
        few_frames = leb-true (g.shared.frames + fn.object) FRAME_OBJECT_BYTES q;
        small = h.small;
      }
      by true false q = h
      by false b q = h

  call_plain : (o : Op) (fn : Option Function) (frame : Frame) (arguments : ℕ → Option ℕ) (waiting : List Frame)
      (g : Log) → IsPlain P g.shared → IsPlainAt P (call_at o fn frame arguments waiting g)
  call_plain o None frame arguments waiting g h = h
  call_plain o (Some fn) frame arguments waiting g h = enter_plain fn frame arguments waiting (paid o g) h

  row_plain : (o : Op) (count : ℕ) (row : Option (ℕ × ℕ)) (frame : Frame) (arguments : ℕ → Option ℕ)
      (waiting : List Frame) (g : Log) → IsPlain P g.shared →
      IsPlainAt P (call_row P o count row frame arguments waiting g)
  row_plain o count None frame arguments waiting g h = h
  row_plain o count (Some row) frame arguments waiting g h =
      by (nat_eq row.1 count)
    where
      by : (b : Bool) → IsPlainAt P (if b then call_at o (P.function_at row.0) frame arguments waiting g else
          Halted (Ended (Trap BadCall)) (paid o g))
      by true = call_plain o (P.function_at row.0) frame arguments waiting g h
      by false = h

  set_plain : (o : Op) (x : Option ℕ) (to : ℕ) (frame : Frame) (waiting : List Frame) (g : Log) → IsPlain P g.shared →
      IsPlainAt P (set_from o x to frame waiting g)
  set_plain o None to frame waiting g h = h
  set_plain o (Some x) to frame waiting g h = h

  left_plain : (fn : Function) (g : Log) → IsPlain P g.shared → IsPlain P (left fn g).shared
  left_plain fn g h =
      record { few_frames = omega (arith, h.few_frames); small = h.small }

  back_plain : (x : ℕ) (waiting : List Frame) (g : Log) → IsPlain P g.shared → IsPlainAt P (back x waiting g)
  back_plain x [] g h = h
  back_plain x (frame ∷ waiting) g h = h

  read_plain : (next : Next) (to : ℕ) (frame : Frame) (waiting : List Frame) (g : Log) → IsPlain P g.shared →
      IsPlainAt P (take (read next g.shared) to frame waiting g)
  read_plain (Given b rest) to frame waiting g h =
      record { few_frames = h.few_frames; small = h.small }
  read_plain AtEnd to frame waiting g h =
      record { few_frames = h.few_frames; small = h.small }
  read_plain Failing to frame waiting g h = h

  malloc_plain : (bytes : ℕ) (shared : Shared) → IsPlain P shared → IsPlain P (malloc bytes shared)
  malloc_plain bytes shared h = by (is_room bytes shared)
    where
      by : (b : Bool) →
          IsPlain P (if b then (record shared { heap = shared.heap + (bytes + 7) / 8 * 8 }) else shared)
      by true = record { few_frames = h.few_frames; small = h.small }
      by false = h

  -- a specification more
  specified_plain : (specification : Specification) (captures : ℕ) (shared : Shared) →
      size_in P (Some specification) ≤ SIZE_LIMIT → IsPlain P shared →
      IsPlain P (specified specification captures shared)
  specified_plain specification captures shared is h = record {
    few_frames = h.few_frames;
    small = one_small P SIZE_LIMIT shared.specifications specification h.small is;
  }

  specifies_plain : (specification : Specification) (to : ℕ) (frame : Frame) (waiting : List Frame) (g : Log) →
      size_in P (Some specification) ≤ SIZE_LIMIT → IsPlain P g.shared →
      IsPlainAt P (specifies specification to frame waiting g)
  specifies_plain specification to frame waiting g is h =
      unless_plain (closure_trap 0 g.shared) g _ h (specified_plain specification 0 g.shared is h)

  zeroing_plain : (words address : ℕ) (frame : Frame) (waiting : List Frame) (g : Log) → IsPlain P g.shared →
      IsPlainAt P (zeroing words address frame waiting g)
  zeroing_plain zero address frame waiting g h = h
  zeroing_plain (suc more) address frame waiting g h = h

  -- a call of a number
  number_plain : (o : Op) (number count : ℕ) (frame : Frame) (arguments : ℕ → Option ℕ)
      (waiting : List Frame) (g : Log) → IsPlain P g.shared →
      IsPlainAt P (call_number P o number count frame arguments waiting g)
  number_plain o number count frame arguments waiting g h =
      let functions = length P.source.functions in
      if_plain (nat_le number functions) (call_row P o count (P.row number) frame arguments waiting g)
      (call_compiled P o number (numbered (number - functions) g.shared.bodies) count frame
      arguments waiting g)
      (row_plain o count (P.row number) frame arguments waiting g h)
      (compiled_call (numbered (number - functions) g.shared.bodies))
    where
      compiled_call : (s : Option Body) →
          IsPlainAt P (call_compiled P o number s count frame arguments waiting g)
      compiled_call None = h
      compiled_call (Some body) =
          if_plain (body.live && nat_eq (parameters_of body.syntax) count) _ _
          (enter_plain (function_for P body.syntax (ARENA + 4 * body.first)) frame arguments
          waiting (with_event number (paid o g))
          (record { few_frames = h.few_frames; small = h.small })) h

  -- ---- while a specification is made

  -- what was checked as right has the size that was summed
  right_size : (tick size parameters : ℕ) (words : List ℕ) (shared : Shared) →
      is_right P tick size parameters words shared ≡ true →
      size ≡ syntax_size P.source (syntax_of P tick words shared)
  right_size tick size parameters words shared e =
      let syntax = syntax_of P tick words shared in
      let fit = is_none (captures_trap shared.specifications (P.kinds tick) words) in
      let same = nat_eq size (syntax_size P.source syntax) in
      let one = and_parts (fit && same) (nat_eq parameters (parameters_of syntax)) e in
      eqb-true size (syntax_size P.source syntax) (and_parts fit same one.0).1

  syntax_small : (value : Bool) (syntax : Syntax) (size : ℕ) → size ≡ syntax_size P.source syntax →
      size ≤ SIZE_LIMIT → size_in P (Some (specification_of value syntax)) ≤ SIZE_LIMIT
  syntax_small true syntax size e le = omega (arith, e, le)
  syntax_small false syntax size e le = omega (arith, e, le)

  there_plain : (tick size parameters : ℕ) (words : List ℕ) (frame : Frame) (waiting : List Frame) (g : Log) →
      size ≤ SIZE_LIMIT → IsPlain P g.shared →
      IsPlainAt P (is_there P tick size parameters words frame waiting g)
  there_plain tick size parameters words frame waiting g le h =
      by (is_right P tick size parameters words g.shared) refl
    where
      specification : Specification
      specification = specification_of (is_expression (slice_get P.source.ticks tick))
          (syntax_of P tick words g.shared)

      by : (b : Bool) → is_right P tick size parameters words g.shared ≡ b →
          IsPlainAt P (if b then goes_on frame waiting
          (sharing (specified specification (length words) g.shared) g) else Stuck g)
      by true e = specified_plain specification (length words) g.shared
          (syntax_small (is_expression (slice_get P.source.ticks tick)) (syntax_of P tick words g.shared) size
          (right_size tick size parameters words g.shared e) le) h
      by false e = h

  filled_plain : (tick size parameters : ℕ) (words : List ℕ) (frame : Frame) (waiting : List Frame) (g : Log) →
      size ≤ SIZE_LIMIT → IsPlain P g.shared →
      IsPlainAt P (filled P tick size parameters words frame waiting g)
  filled_plain tick size parameters words frame waiting g le h =
      if_plain (nat_eq (length words) (length (P.kinds tick))) _ _
      (there_plain tick size parameters words frame waiting g le h) (h, le)

  adds_plain : (o : Op) (to : ℕ) (k : CaptureKind) (row : Option Specification) (size parameters : ℕ)
      (frame : Frame) (waiting : List Frame) (g : Log) → IsPlain P g.shared →
      IsPlainAt P (adds P o to k row size parameters frame waiting g)
  adds_plain o to k row size parameters frame waiting g h =
      unless_plain (if fits k row then None else Some BadSpec) (paid o g) _ h
      (if_plain (nat_lt (size + size_in P row) 4294967296) _ (Stuck g) h h)

  checks_plain : (o : Op) (routine : RunKind) (to number size parameters : ℕ) (frame : Frame)
      (waiting : List Frame) (g : Log) → IsPlain P g.shared →
      IsPlainAt P (checks P o routine to number size parameters frame waiting g)
  checks_plain o run.Expression to number size parameters frame waiting g h =
      adds_plain o to (kind.Splice answer.Value) (specification_at number g.shared) size parameters frame waiting g h
  checks_plain o run.Statement to number size parameters frame waiting g h =
      adds_plain o to (kind.Splice answer.Void) (specification_at number g.shared) size parameters frame waiting g h
  checks_plain o run.Variable to number size parameters frame waiting g h =
      adds_plain o to kind.Variable (specification_at number g.shared) size parameters frame waiting g h
  checks_plain o _ to number size parameters frame waiting g h = h

  -- behind the test of a size
  within_limit : (size : ℕ) (g : Log) (s : State) → IsPlain P g.shared → (size ≤ SIZE_LIMIT → IsPlainAt P s) →
      IsPlainAt P (unless (size_trap size) g s)
  within_limit size g s h next = by (nat_le size SIZE_LIMIT) refl
    where
      by : (b : Bool) → nat_le size SIZE_LIMIT ≡ b →
          IsPlainAt P (unless (if b then None else Some SizeLimit) g s)
      by true e = next (leb-true size SIZE_LIMIT e)
      by false e = h

  news_plain : (o : Op) (to : ℕ) (tick : Option ℕ) (k : ClosureKind) (captures size parameters : ℕ)
      (frame : Frame) (waiting : List Frame) (g : Log) → IsPlain P g.shared →
      IsPlainAt P (news P o to tick k captures size parameters frame waiting g)
  news_plain o to None k captures size parameters frame waiting g h = h
  news_plain o to (Some tick) k captures size parameters frame waiting g h =
      let f1 = filled P tick size parameters [] (set to (next_number g.shared) frame) waiting (paid o g) in
      let f2 = unless (closure_trap captures g.shared) (paid o g) f1 in
      if_plain (is_kind k (is_expression (slice_get P.source.ticks tick)) && nat_eq captures (length (P.kinds tick)))
      (unless (size_trap size) (paid o g) f2) (Stuck g)
      (within_limit size (paid o g) f2 h
      (λ le.
      unless_plain (closure_trap captures g.shared) (paid o g) f1 h
      (filled_plain tick size parameters [] (set to (next_number g.shared) frame) waiting (paid o g) le h))) h

  drafted_plain : (draft : Draft) (frame : Frame) (waiting : List Frame) (g : Log) →
      IsPlainAt P (Making draft frame waiting g) → IsPlain P g.shared
  drafted_plain (Summing size parameters) frame waiting g h = h
  drafted_plain (Filling tick size parameters words) frame waiting g h = h.0

  makes_plain : (o : Op) (draft : Draft) (frame : Frame) (waiting : List Frame) (g : Log) →
      IsPlainAt P (Making draft frame waiting g) → IsPlainAt P (makes P o draft frame waiting g)
  makes_plain (op.Run routine to from) (Summing size parameters) frame waiting g h =
      checks_plain (op.Run routine to from) routine to (frame.values from) size parameters frame waiting g h
  makes_plain (op.New to address k captures) (Summing size parameters) frame waiting g h =
      news_plain (op.New to address k captures) to (P.tick_at address) k captures size parameters frame waiting g h
  makes_plain (op.Put capture from) (Filling tick size parameters words) frame waiting g h =
      if_plain (nat_eq capture (length words)) _ (Stuck g)
      (filled_plain tick size parameters (words ++ frame.values from ∷ []) (moved_on frame) waiting
      (paid (op.Put capture from) g) h.1 h.0) h.0
  makes_plain o draft frame waiting g h = drafted_plain draft frame waiting g h

  making_plain : (o : Option Op) (draft : Draft) (frame : Frame) (waiting : List Frame) (g : Log) →
      IsPlainAt P (Making draft frame waiting g) → IsPlainAt P (making P o draft frame waiting g)
  making_plain None draft frame waiting g h = drafted_plain draft frame waiting g h
  making_plain (Some o) draft frame waiting g h =
      if_plain (uses_on o frame.on) _ (Stuck g) (makes_plain o draft frame waiting g h)
      (drafted_plain draft frame waiting g h)

  -- ---- compile

  compiles_plain : (o : Op) (to : ℕ) (syntax : Syntax) (frame : Frame) (waiting : List Frame) (g : Log) →
      IsPlain P g.shared → IsPlainAt P (compiles P o to syntax frame waiting g)
  compiles_plain o to syntax frame waiting g h =
      let c = Compiling (syntax_size P.source syntax) syntax to frame waiting g in
      let t2 = arena_trap (syntax_size P.source syntax) g.shared in
      unless_plain (table_trap (next_function (length P.source.functions) g.shared)) (paid o g)
      (unless t2 (paid o g) c) h (unless_plain t2 (paid o g) c h h)

  compile_plain : (o : Op) (to : ℕ) (row : Option Specification) (frame : Frame) (waiting : List Frame) (g : Log) →
      IsPlain P g.shared → IsPlainAt P (compile_row P o to row frame waiting g)
  compile_plain o to (Some (Expression syntax)) frame waiting g h = compiles_plain o to syntax frame waiting g h
  compile_plain o to (Some (Statement syntax)) frame waiting g h = compiles_plain o to syntax frame waiting g h
  compile_plain o to _ frame waiting g h = h

  -- one op
  act_plain : (o : Op) (frame : Frame) (arguments : ℕ → Option ℕ) (answer : Option ℕ)
      (waiting : List Frame) (g : Log) → IsPlain P g.shared → IsPlainAt P (act P o frame arguments answer waiting g)
  act_plain (op.Const to word) frame arguments answer waiting g h = h
  act_plain (op.Move to from) frame arguments answer waiting g h = h
  act_plain (op.Bin kind to a b) frame arguments answer waiting g h =
      untrapped_plain (bin_trap kind (frame.values a) (frame.values b)) g _ h h
  act_plain (op.CheckDivision a b) frame arguments answer waiting g h =
      unless_plain (signed_trap (frame.values a) (frame.values b)) (paid (op.CheckDivision a b) g) _ h h
  act_plain (op.CheckZero b) frame arguments answer waiting g h =
      unless_plain (zero_trap (frame.values b)) (paid (op.CheckZero b) g) _ h h
  act_plain (op.Un kind to from) frame arguments answer waiting g h = h
  act_plain (op.FrameAddress to offset) frame arguments answer waiting g h = h
  act_plain (op.Load width to a) frame arguments answer waiting g h =
      unless_plain (access_trap (frame.values a) width) (paid (op.Load width to a) g) _ h h
  act_plain (op.Store width a v) frame arguments answer waiting g h =
      unless_plain (access_trap (frame.values a) width) (paid (op.Store width a v) g) _ h
      (record { few_frames = h.few_frames; small = h.small })
  act_plain (op.Clear offset words) frame arguments answer waiting g h =
      if_plain (are_objects (address_of offset frame g) words) _ _
      (zeroing_plain words (address_of offset frame g) frame waiting (paid (op.Clear offset words) g) h) h
  act_plain (op.Label label) frame arguments answer waiting g h = h
  act_plain (op.Jump label) frame arguments answer waiting g h = h
  act_plain (op.BranchZero test label) frame arguments answer waiting g h = h
  act_plain (op.BranchNonzero test label) frame arguments answer waiting g h = h
  act_plain (op.Argument index from) frame arguments answer waiting g h = h
  act_plain (op.GetParameter to index) frame arguments answer waiting g h =
      set_plain (op.GetParameter to index) (frame.parameters index) to frame waiting g h
  act_plain (op.Call address) frame arguments answer waiting g h =
      call_plain (op.Call address) (P.function_at address) frame arguments waiting g h
  act_plain (op.CallNumber number count) frame arguments answer waiting g h =
      number_plain (op.CallNumber number count) (frame.values number) count frame arguments waiting g h
  act_plain (op.Result to) frame arguments answer waiting g h = set_plain (op.Result to) answer to frame waiting g h
  act_plain (op.Return from) frame arguments answer waiting g h =
      back_plain (frame.values from) waiting (left frame.function (paid (op.Return from) g))
      (left_plain frame.function (paid (op.Return from) g) h)
  act_plain op.ReturnZero frame arguments answer waiting g h =
      back_plain 0 waiting (left frame.function (paid op.ReturnZero g))
      (left_plain frame.function (paid op.ReturnZero g) h)
  act_plain (op.Sys sys.PutInteger to from) frame arguments answer waiting g h =
      record { few_frames = h.few_frames; small = h.small }
  act_plain (op.Sys sys.PutByte to from) frame arguments answer waiting g h =
      record { few_frames = h.few_frames; small = h.small }
  act_plain (op.Sys sys.GetByte to from) frame arguments answer waiting g h =
      read_plain (next_byte g.shared.input) to frame waiting (paid (op.Sys sys.GetByte to from) g) h
  act_plain (op.Sys sys.Exit to from) frame arguments answer waiting g h = h
  act_plain (op.Run run.Malloc to from) frame arguments answer waiting g h =
      malloc_plain (frame.values from) g.shared h
  act_plain (op.Run run.Local to from) frame arguments answer waiting g h =
      specifies_plain Local to frame waiting (paid (op.Run run.Local to from) g) (omega arith) h
  act_plain (op.Run run.Parameter to from) frame arguments answer waiting g h =
      unless_plain (index_trap (frame.values from)) (paid (op.Run run.Parameter to from) g) _ h
      (specifies_plain (Param (frame.values from)) to frame waiting (paid (op.Run run.Parameter to from) g)
      (omega arith)
      h)
  act_plain (op.Run run.Begin to from) frame arguments answer waiting g h = h
  act_plain (op.Run run.Compile to from) frame arguments answer waiting g h =
      compile_plain (op.Run run.Compile to from) to (specification_at (frame.values from) g.shared) frame waiting g h
  act_plain _ frame arguments answer waiting g h = h

  checked_plain : (o : Option Op) (frame : Frame) (arguments : ℕ → Option ℕ) (answer : Option ℕ)
      (waiting : List Frame) (g : Log) → IsPlain P g.shared → IsPlainAt P (checked P o frame arguments answer waiting g)
  checked_plain None frame arguments answer waiting g h = h
  checked_plain (Some o) frame arguments answer waiting g h =
      if_plain (uses_on o frame.on) _ _ (act_plain o frame arguments answer waiting g h) h

  zeroed_plain : (more address : ℕ) (frame : Frame) (waiting : List Frame) (g : Log) → IsPlain P g.shared →
      IsPlainAt P (zeroed_on more address frame waiting g)
  zeroed_plain zero address frame waiting g h = h
  zeroed_plain (suc more) address frame waiting g h = h

  advance_plain : (s : State) → IsPlainAt P s → IsPlainAt P (advance P s)
  advance_plain (Running frame arguments answer waiting g) h =
      checked_plain (slice_get frame.function.ops frame.index) frame arguments answer waiting g h
  advance_plain (Zeroing more address frame waiting g) h =
      zeroed_plain more address frame waiting (word_zeroed address g)
      (record { few_frames = h.few_frames; small = h.small })
  advance_plain (Making draft frame waiting g) h =
      making_plain (slice_get frame.function.ops frame.index) draft frame waiting g h
  advance_plain (Compiling zero syntax to frame waiting g) h =
      record { few_frames = h.few_frames; small = h.small }
  advance_plain (Compiling (suc more) syntax to frame waiting g) h = h
  advance_plain (Halted e g) h = h
  advance_plain (Stuck g) h = h

  steps_plain : (n : ℕ) (s : State) → IsPlainAt P s → IsPlainAt P (iterate (advance P) n s)
  steps_plain zero s h = h
  steps_plain (suc n) s h = steps_plain n (advance P s) (advance_plain s h)

pub goes_plain : {P : Program} {s t : State} → Goes P s t → IsPlainAt P s → IsPlainAt P t
goes_plain {P} {s} {t} go h = subst (IsPlainAt P) go.comes (steps_plain P go.steps s h)
