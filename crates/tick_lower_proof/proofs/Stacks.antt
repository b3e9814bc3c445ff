-- What every run keeps of the frame objects: those of the active calls lie one behind the other, each in whole words.
use Rattle.std.proofs.Common.{◌≡◌, ℕ, zero, suc, ◌+◌, ◌-◌, ◌*◌, ◌/◌, ◌%◌, List, [], ◌∷◌, Option, Some, None}
use Rattle.std.proofs.Common.{Bool, true, false, refl, ap, ◌∙◌, subst, arith}
use Rattle.std.specs.Prelude.{nat_eq, if◌then◌else◌, slice_get}
use Rattle.std.specs.Fn.{iterate}
use Rattle.host_edge.specs.declared.ending.TrapKind.{TrapKind}
use Rattle.host_edge.specs.declared.ending.TrapKind.TheVariants.{BadCall}
use Rattle.host_edge.specs.declared.ending.Ending.TheVariants.{Trap}
use Rattle.history.specs.Events.{Ended, Next, Given, AtEnd, Failing, next_byte}
use Rattle.icode_ops.specs.declared.op.Op.{Op}
use Rattle.icode_ops.specs.declared.op.Op.TheVariants as op
use Rattle.icode_ops.specs.declared.kind.SysKind.TheVariants as sys
use Rattle.icode_ops.specs.declared.kind.RunKind.TheVariants as run
use Rattle.meaning_state.specs.Bodies.{Body}
use Rattle.word32.specs.declared.map.TheConstants.{ARENA}
use Rattle.meaning_state.specs.Operators.{bin_trap, signed_trap, zero_trap}
use Rattle.meaning_state.specs.Rows.{closure_trap, index_trap, table_trap, arena_trap, next_function}
use Rattle.meaning_state.specs.Shared.{Shared, Specification, Expression, Statement, Param, is_room, malloc, read}
use Rattle.meaning_state.specs.Shared.{access_trap}
use Rattle.meaning_state.specs.Shared.{are_objects, limit_trap}
use Rattle.icode_meaning.specs.State.{Function, Program, Frame, State, Running, Zeroing, Halted, Stuck, Log, log_of}
use Rattle.icode_meaning.specs.Steps.{uses_on, paid, unless, enter, call_at, call_row, set_from, left, back, take}
use Rattle.icode_meaning.specs.Steps.{specifies, zeroing, zeroed_on, word_zeroed, act, checked, advance, address_of}
use Rattle.tick_lower_spec.specs.Lower.{Addresses}
use Rattle.tick_lower_spec.specs.Generated.{AreGenerated}
use Rattle.tick_lower_proof.proofs.Machine.{Goes, after_add}
use Rattle.tick_lower_proof.proofs.Plain.{IsPlainAt, goes_plain}
use Rattle.icode_meaning.specs.Steps.{untrapped, set, moved_on, compiles, compile_row}
use Rattle.icode_meaning.specs.Steps.{call_number, call_compiled, function_for, with_event, is_there}
use Rattle.icode_meaning.specs.Steps.{is_right, filled, adds, size_in, checks, news, is_kind, makes, making}
use Rattle.icode_meaning.specs.State.{Making, Compiling, Draft, Summing, Filling}
use Rattle.std.specs.Prelude.{length, nat_le, nat_lt, ◌&&◌, ◌++◌}
use Rattle.history.specs.Syntax.{Syntax}
use Rattle.host_edge.specs.declared.ending.TrapKind.TheVariants.{BadSpec}
use Rattle.icode_ops.specs.declared.kind.RunKind.{RunKind}
use Rattle.icode_ops.specs.declared.kind.ClosureKind.{ClosureKind}
use Rattle.meaning_state.specs.Rows.{numbered, parameters_of, specification_at, next_number, size_trap}
use Rattle.typed_tree.specs.declared.expression.CaptureKind.{CaptureKind}
use Rattle.typed_tree.specs.declared.expression.CaptureKind.TheVariants as kind
use Rattle.typed_tree.specs.declared.expression.Answer.TheVariants as answer
use Rattle.staged_meaning.specs.Program.{is_expression, syntax_size}
use Rattle.staged_meaning.specs.Specifications.{fits}

-- the frame objects of a machine's functions are whole words
pub record IsWhole (P : Program) : Type 0 where
  pub at : (address : ℕ) (f : Function) → P.function_at address ≡ Some f → f.object % 4 ≡ 0

-- the bytes of the frame objects of calls
abbrev pub objects_of : List Frame → ℕ
objects_of [] = 0
objects_of (frame ∷ frames) = frame.function.object + objects_of frames

abbrev pub AreWhole : List Frame → Type 0
AreWhole [] = Unit {0}
AreWhole (frame ∷ frames) = (frame.function.object % 4 ≡ 0) × AreWhole frames

-- these calls are active
abbrev pub AreActive : List Frame → Shared → Type 0
AreActive frames shared = AreWhole frames × (shared.frames ≡ objects_of frames)

abbrev pub IsStacked : State → Type 0
IsStacked (Running frame arguments answer waiting g) = AreActive (frame ∷ waiting) g.shared
IsStacked (Zeroing more address frame waiting g) = AreActive (frame ∷ waiting) g.shared
IsStacked (Making draft frame waiting g) = AreActive (frame ∷ waiting) g.shared
IsStacked (Compiling more syntax to frame waiting g) = AreActive (frame ∷ waiting) g.shared
IsStacked (Halted e g) = Unit {0}
IsStacked (Stuck g) = Unit {0}

unless_stacked : (trap : Option TrapKind) (g : Log) (s : State) → IsStacked s → IsStacked (unless trap g s)
unless_stacked None g s h = h
unless_stacked (Some kind) g s h = tt

untrapped_stacked : (trap : Option TrapKind) (g : Log) (s : State) → IsStacked s → IsStacked (untrapped trap g s)
untrapped_stacked None g s h = h
untrapped_stacked (Some kind) g s h = tt

if_stacked : (b : Bool) (s t : State) → IsStacked s → IsStacked t → IsStacked (if b then s else t)
if_stacked true s t h k = h
if_stacked false s t h k = k

enter_stacked : (fn : Function) → fn.object % 4 ≡ 0 → (frame : Frame) (arguments : ℕ → Option ℕ) (waiting : List Frame)
    (g : Log) → AreActive (frame ∷ waiting) g.shared → IsStacked (enter fn frame arguments waiting g)
enter_stacked fn whole frame arguments waiting g h =
    let sum : g.shared.frames + fn.object ≡ fn.object + (frame.function.object + objects_of waiting) =
    omega (arith, h.1) in
    unless_stacked (limit_trap fn.charge fn.object g.shared) g _ ((whole, h.0), sum)

call_stacked : (o : Op) (fn : Option Function) → ((f : Function) → fn ≡ Some f → f.object % 4 ≡ 0) →
    (frame : Frame) (arguments : ℕ → Option ℕ) (waiting : List Frame) (g : Log) →
    AreActive (frame ∷ waiting) g.shared → IsStacked (call_at o fn frame arguments waiting g)
call_stacked o None whole frame arguments waiting g h = tt
call_stacked o (Some fn) whole frame arguments waiting g h =
    enter_stacked fn (whole fn refl) frame arguments waiting (paid o g) h

row_stacked : (P : Program) → IsWhole P → (o : Op) (count : ℕ) (row : Option (ℕ × ℕ)) (frame : Frame)
    (arguments : ℕ → Option ℕ) (waiting : List Frame) (g : Log) → AreActive (frame ∷ waiting) g.shared →
    IsStacked (call_row P o count row frame arguments waiting g)
row_stacked P whole o count None frame arguments waiting g h = tt
row_stacked P whole o count (Some row) frame arguments waiting g h =
    by (nat_eq row.1 count)
  where
    by : (b : Bool) → IsStacked (if b then call_at o (P.function_at row.0) frame arguments waiting g else
        Halted (Ended (Trap BadCall)) (paid o g))
    by true = call_stacked o (P.function_at row.0) (whole.at row.0) frame arguments waiting g h
    by false = tt

set_stacked : (o : Op) (x : Option ℕ) (to : ℕ) (frame : Frame) (waiting : List Frame) (g : Log) →
    AreActive (frame ∷ waiting) g.shared → IsStacked (set_from o x to frame waiting g)
set_stacked o None to frame waiting g h = tt
set_stacked o (Some x) to frame waiting g h = h

-- a call is over
back_stacked : (x : ℕ) (frame : Frame) (waiting : List Frame) (g : Log) → AreActive (frame ∷ waiting) g.shared →
    IsStacked (back x waiting (left frame.function g))
back_stacked x frame [] g h = tt
back_stacked x frame (next ∷ waiting) g h =
    let sum : g.shared.frames - frame.function.object ≡ next.function.object + objects_of waiting =
    omega (arith, h.1) in
    (h.0.1, sum)

read_stacked : (next : Next) (to : ℕ) (frame : Frame) (waiting : List Frame) (g : Log) →
    AreActive (frame ∷ waiting) g.shared → IsStacked (take (read next g.shared) to frame waiting g)
read_stacked (Given b rest) to frame waiting g h = h
read_stacked AtEnd to frame waiting g h = h
read_stacked Failing to frame waiting g h = tt

malloc_frames : (bytes : ℕ) (shared : Shared) → (malloc bytes shared).frames ≡ shared.frames
malloc_frames bytes shared = by (is_room bytes shared)
  where
    by : (b : Bool) →
        (if b then (record shared { heap = shared.heap + (bytes + 7) / 8 * 8 }) else shared).frames ≡ shared.frames
    by true = refl
    by false = refl

zeroing_stacked : (words address : ℕ) (frame : Frame) (waiting : List Frame) (g : Log) →
    AreActive (frame ∷ waiting) g.shared → IsStacked (zeroing words address frame waiting g)
zeroing_stacked zero address frame waiting g h = tt
zeroing_stacked (suc more) address frame waiting g h = h

-- a call of a number
number_stacked : (P : Program) → IsWhole P → (o : Op) (number count : ℕ) (frame : Frame) (arguments : ℕ → Option ℕ)
    (waiting : List Frame) (g : Log) → AreActive (frame ∷ waiting) g.shared →
    IsStacked (call_number P o number count frame arguments waiting g)
number_stacked P whole o number count frame arguments waiting g h =
    let functions = length P.source.functions in
    if_stacked (nat_le number functions) (call_row P o count (P.row number) frame arguments waiting g)
    (call_compiled P o number (numbered (number - functions) g.shared.bodies) count frame
    arguments waiting g)
    (row_stacked P whole o count (P.row number) frame arguments waiting g h)
    (compiled_call (numbered (number - functions) g.shared.bodies))
  where
    compiled_call : (s : Option Body) →
        IsStacked (call_compiled P o number s count frame arguments waiting g)
    compiled_call None = tt
    compiled_call (Some body) =
        if_stacked (body.live && nat_eq (parameters_of body.syntax) count) _ _
        (enter_stacked (function_for P body.syntax (ARENA + 4 * body.first)) refl frame arguments
        waiting (with_event number (paid o g)) h) tt

-- ---- while a specification is made

there_stacked : (P : Program) (tick size parameters : ℕ) (words : List ℕ) (frame : Frame) (waiting : List Frame)
    (g : Log) → AreActive (frame ∷ waiting) g.shared → IsStacked (is_there P tick size parameters words frame waiting g)
there_stacked P tick size parameters words frame waiting g h =
    if_stacked (is_right P tick size parameters words g.shared) _ (Stuck g)
    h tt

filled_stacked : (P : Program) (tick size parameters : ℕ) (words : List ℕ) (frame : Frame) (waiting : List Frame)
    (g : Log) → AreActive (frame ∷ waiting) g.shared → IsStacked (filled P tick size parameters words frame waiting g)
filled_stacked P tick size parameters words frame waiting g h =
    if_stacked (nat_eq (length words) (length (P.kinds tick))) _ _
    (there_stacked P tick size parameters words frame waiting g h) h

adds_stacked : (P : Program) (o : Op) (to : ℕ) (k : CaptureKind) (row : Option Specification) (size parameters : ℕ)
    (frame : Frame) (waiting : List Frame) (g : Log) → AreActive (frame ∷ waiting) g.shared →
    IsStacked (adds P o to k row size parameters frame waiting g)
adds_stacked P o to k row size parameters frame waiting g h =
    unless_stacked (if fits k row then None else Some BadSpec) (paid o g) _
    (if_stacked (nat_lt (size + size_in P row) 4294967296) _ (Stuck g) h tt)

checks_stacked : (P : Program) (o : Op) (routine : RunKind) (to number size parameters : ℕ) (frame : Frame)
    (waiting : List Frame) (g : Log) → AreActive (frame ∷ waiting) g.shared →
    IsStacked (checks P o routine to number size parameters frame waiting g)
checks_stacked P o run.Expression to number size parameters frame waiting g h =
    adds_stacked P o to (kind.Splice answer.Value) (specification_at number g.shared) size parameters frame waiting g h
checks_stacked P o run.Statement to number size parameters frame waiting g h =
    adds_stacked P o to (kind.Splice answer.Void) (specification_at number g.shared) size parameters frame waiting g h
checks_stacked P o run.Variable to number size parameters frame waiting g h =
    adds_stacked P o to kind.Variable (specification_at number g.shared) size parameters frame waiting g h
checks_stacked P o _ to number size parameters frame waiting g h = tt

news_stacked : (P : Program) (o : Op) (to : ℕ) (tick : Option ℕ) (k : ClosureKind) (captures size parameters : ℕ)
    (frame : Frame) (waiting : List Frame) (g : Log) → AreActive (frame ∷ waiting) g.shared →
    IsStacked (news P o to tick k captures size parameters frame waiting g)
news_stacked P o to None k captures size parameters frame waiting g h = tt
news_stacked P o to (Some tick) k captures size parameters frame waiting g h =
    let f1 = filled P tick size parameters [] (set to (next_number g.shared) frame) waiting (paid o g) in
    let f2 = unless (closure_trap captures g.shared) (paid o g) f1 in
    if_stacked (is_kind k (is_expression (slice_get P.source.ticks tick)) && nat_eq captures (length (P.kinds tick)))
    (unless (size_trap size) (paid o g) f2) (Stuck g)
    (unless_stacked (size_trap size) (paid o g) f2
    (unless_stacked (closure_trap captures g.shared) (paid o g) f1
    (filled_stacked P tick size parameters [] (set to (next_number g.shared) frame) waiting (paid o g) h))) tt

makes_stacked : (P : Program) (o : Op) (draft : Draft) (frame : Frame) (waiting : List Frame) (g : Log) →
    AreActive (frame ∷ waiting) g.shared → IsStacked (makes P o draft frame waiting g)
makes_stacked P (op.Run routine to from) (Summing size parameters) frame waiting g h =
    checks_stacked P (op.Run routine to from) routine to (frame.values from) size parameters frame waiting g h
makes_stacked P (op.New to address k captures) (Summing size parameters) frame waiting g h =
    news_stacked P (op.New to address k captures) to (P.tick_at address) k captures size parameters frame waiting g h
makes_stacked P (op.Put capture from) (Filling tick size parameters words) frame waiting g h =
    if_stacked (nat_eq capture (length words)) _ (Stuck g)
    (filled_stacked P tick size parameters (words ++ frame.values from ∷ []) (moved_on frame) waiting
    (paid (op.Put capture from) g) h) tt
makes_stacked P _ draft frame waiting g h = tt

making_stacked : (P : Program) (o : Option Op) (draft : Draft) (frame : Frame) (waiting : List Frame) (g : Log) →
    AreActive (frame ∷ waiting) g.shared → IsStacked (making P o draft frame waiting g)
making_stacked P None draft frame waiting g h = tt
making_stacked P (Some o) draft frame waiting g h =
    if_stacked (uses_on o frame.on) _ (Stuck g) (makes_stacked P o draft frame waiting g h) tt

-- ---- compile

compiles_stacked : (P : Program) (o : Op) (to : ℕ) (syntax : Syntax) (frame : Frame) (waiting : List Frame)
    (g : Log) → AreActive (frame ∷ waiting) g.shared → IsStacked (compiles P o to syntax frame waiting g)
compiles_stacked P o to syntax frame waiting g h =
    let c = Compiling (syntax_size P.source syntax) syntax to frame waiting g in
    let t2 = arena_trap (syntax_size P.source syntax) g.shared in
    unless_stacked (table_trap (next_function (length P.source.functions) g.shared)) (paid o g) (unless t2 (paid o g) c)
    (unless_stacked t2 (paid o g) c h)

compile_stacked : (P : Program) (o : Op) (to : ℕ) (row : Option Specification) (frame : Frame)
    (waiting : List Frame) (g : Log) → AreActive (frame ∷ waiting) g.shared →
    IsStacked (compile_row P o to row frame waiting g)
compile_stacked P o to (Some (Expression syntax)) frame waiting g h = compiles_stacked P o to syntax frame waiting g h
compile_stacked P o to (Some (Statement syntax)) frame waiting g h = compiles_stacked P o to syntax frame waiting g h
compile_stacked P o to _ frame waiting g h = tt

-- one op
act_stacked : (P : Program) → IsWhole P → (o : Op) (frame : Frame) (arguments : ℕ → Option ℕ) (answer : Option ℕ)
    (waiting : List Frame) (g : Log) → AreActive (frame ∷ waiting) g.shared →
    IsStacked (act P o frame arguments answer waiting g)
act_stacked P whole (op.Const to word) frame arguments answer waiting g h = h
act_stacked P whole (op.Move to from) frame arguments answer waiting g h = h
act_stacked P whole (op.Bin kind to a b) frame arguments answer waiting g h =
    untrapped_stacked (bin_trap kind (frame.values a) (frame.values b)) g _ h
act_stacked P whole (op.CheckDivision a b) frame arguments answer waiting g h =
    unless_stacked (signed_trap (frame.values a) (frame.values b)) (paid (op.CheckDivision a b) g) _ h
act_stacked P whole (op.CheckZero b) frame arguments answer waiting g h =
    unless_stacked (zero_trap (frame.values b)) (paid (op.CheckZero b) g) _ h
act_stacked P whole (op.Un kind to from) frame arguments answer waiting g h = h
act_stacked P whole (op.FrameAddress to offset) frame arguments answer waiting g h = h
act_stacked P whole (op.Load width to a) frame arguments answer waiting g h =
    unless_stacked (access_trap (frame.values a) width) (paid (op.Load width to a) g) _ h
act_stacked P whole (op.Store width a v) frame arguments answer waiting g h =
    unless_stacked (access_trap (frame.values a) width) (paid (op.Store width a v) g) _ h
act_stacked P whole (op.Clear offset words) frame arguments answer waiting g h =
    if_stacked (are_objects (address_of offset frame g) words) _ _
    (zeroing_stacked words (address_of offset frame g) frame waiting (paid (op.Clear offset words) g) h) tt
act_stacked P whole (op.Label label) frame arguments answer waiting g h = h
act_stacked P whole (op.Jump label) frame arguments answer waiting g h = h
act_stacked P whole (op.BranchZero test label) frame arguments answer waiting g h = h
act_stacked P whole (op.BranchNonzero test label) frame arguments answer waiting g h = h
act_stacked P whole (op.Argument index from) frame arguments answer waiting g h = h
act_stacked P whole (op.GetParameter to index) frame arguments answer waiting g h =
    set_stacked (op.GetParameter to index) (frame.parameters index) to frame waiting g h
act_stacked P whole (op.Call address) frame arguments answer waiting g h =
    call_stacked (op.Call address) (P.function_at address) (whole.at address) frame arguments waiting g h
act_stacked P whole (op.CallNumber number count) frame arguments answer waiting g h =
    number_stacked P whole (op.CallNumber number count) (frame.values number) count frame arguments waiting g h
act_stacked P whole (op.Result to) frame arguments answer waiting g h =
    set_stacked (op.Result to) answer to frame waiting g h
act_stacked P whole (op.Return from) frame arguments answer waiting g h =
    back_stacked (frame.values from) frame waiting (paid (op.Return from) g) h
act_stacked P whole op.ReturnZero frame arguments answer waiting g h =
    back_stacked 0 frame waiting (paid op.ReturnZero g) h
act_stacked P whole (op.Sys sys.PutInteger to from) frame arguments answer waiting g h = h
act_stacked P whole (op.Sys sys.PutByte to from) frame arguments answer waiting g h = h
act_stacked P whole (op.Sys sys.GetByte to from) frame arguments answer waiting g h =
    read_stacked (next_byte g.shared.input) to frame waiting (paid (op.Sys sys.GetByte to from) g) h
act_stacked P whole (op.Sys sys.Exit to from) frame arguments answer waiting g h = tt
act_stacked P whole (op.Run run.Malloc to from) frame arguments answer waiting g h =
    (h.0, malloc_frames (frame.values from) g.shared ∙ h.1)
act_stacked P whole (op.Run run.Local to from) frame arguments answer waiting g h =
    unless_stacked (closure_trap 0 g.shared) (paid (op.Run run.Local to from) g) _ h
act_stacked P whole (op.Run run.Parameter to from) frame arguments answer waiting g h =
    unless_stacked (index_trap (frame.values from)) (paid (op.Run run.Parameter to from) g)
    (specifies (Param (frame.values from)) to frame waiting (paid (op.Run run.Parameter to from) g))
    (unless_stacked (closure_trap 0 g.shared) (paid (op.Run run.Parameter to from) g) _ h)
act_stacked P whole (op.Run run.Begin to from) frame arguments answer waiting g h = h
act_stacked P whole (op.Run run.Compile to from) frame arguments answer waiting g h =
    compile_stacked P (op.Run run.Compile to from) to (specification_at (frame.values from) g.shared) frame waiting g h
act_stacked P whole _ frame arguments answer waiting g h = tt

checked_stacked : (P : Program) → IsWhole P → (o : Option Op) (frame : Frame) (arguments : ℕ → Option ℕ)
    (answer : Option ℕ) (waiting : List Frame) (g : Log) → AreActive (frame ∷ waiting) g.shared →
    IsStacked (checked P o frame arguments answer waiting g)
checked_stacked P whole None frame arguments answer waiting g h = tt
checked_stacked P whole (Some o) frame arguments answer waiting g h =
    if_stacked (uses_on o frame.on) _ (Stuck g) (act_stacked P whole o frame arguments answer waiting g h) tt

zeroed_stacked : (more address : ℕ) (frame : Frame) (waiting : List Frame) (g : Log) →
    AreActive (frame ∷ waiting) g.shared → IsStacked (zeroed_on more address frame waiting g)
zeroed_stacked zero address frame waiting g h = h
zeroed_stacked (suc more) address frame waiting g h = h

advance_stacked : (P : Program) → IsWhole P → (s : State) → IsStacked s → IsStacked (advance P s)
advance_stacked P whole (Running frame arguments answer waiting g) h =
    checked_stacked P whole (slice_get frame.function.ops frame.index) frame arguments answer waiting g h
advance_stacked P whole (Zeroing more address frame waiting g) h =
    zeroed_stacked more address frame waiting (word_zeroed address g) h
advance_stacked P whole (Making draft frame waiting g) h =
    making_stacked P (slice_get frame.function.ops frame.index) draft frame waiting g h
advance_stacked P whole (Compiling zero syntax to frame waiting g) h = h
advance_stacked P whole (Compiling (suc more) syntax to frame waiting g) h = h
advance_stacked P whole (Halted e g) h = tt
advance_stacked P whole (Stuck g) h = tt

steps_stacked : (P : Program) → IsWhole P → (n : ℕ) (s : State) → IsStacked s → IsStacked (iterate (advance P) n s)
steps_stacked P whole zero s h = h
steps_stacked P whole (suc n) s h = steps_stacked P whole n (advance P s) (advance_stacked P whole s h)

pub goes_stacked : {P : Program} {s t : State} → IsWhole P → Goes P s t → IsStacked s → IsStacked t
goes_stacked {P} {s} {t} whole go h = subst IsStacked go.comes (steps_stacked P whole go.steps s h)

-- whole words in all
pub objects_whole : (frames : List Frame) → AreWhole frames → objects_of frames % 4 ≡ 0
objects_whole [] h = refl
objects_whole (frame ∷ frames) h = omega (arith, h.0, objects_whole frames h.1)

-- What is kept by every run, where the ticks capture this: of each function that is compiled from here on, the code is
-- generated.
pub record IsSound (P : Program) (d : Addresses) (ticks : List (List CaptureKind)) (s : State) : Type 0 where
  pub plain : IsPlainAt P s
  pub stacked : IsStacked s
  pub generated : (i : ℕ) → AreGenerated d ticks (log_of (iterate (advance P) i s)).shared.bodies

pub goes_sound : {P : Program} {d : Addresses} {ticks : List (List CaptureKind)} {s t : State} → IsWhole P →
    Goes P s t → IsSound P d ticks s → IsSound P d ticks t
goes_sound {P} {d} {ticks} {s} {t} whole go h = record {
  plain = goes_plain go h.plain;
  stacked = goes_stacked whole go h.stacked;
  generated = λ i.
      subst (λ u. AreGenerated d ticks (log_of u).shared.bodies)
      (after_add P go.steps i s ∙ ap (iterate (advance P) i) go.comes) (h.generated (go.steps + i));
}
