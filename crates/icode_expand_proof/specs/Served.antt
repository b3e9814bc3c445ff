-- The ops whose simulation is proved: all that a builder takes. What each names is bounded as the ops of a builder are.
use Rattle.std.specs.Prelude.{◌≡◌, ℕ, ◌-◌, ◌<◌, ◌≤◌, Bool, true, false, ◌&&◌, if◌then◌else◌, nat_eq, nat_le, List}
use Rattle.std.specs.Prelude.{Option, Some, None}
use Rattle.word32.specs.declared.map.TheConstants.{SEGMENT_BYTES}
use Rattle.limits.specs.declared.ops.TheConstants.{MOST_CAPTURES}
use Rattle.icode_ops.specs.declared.op.Op.{Op}
use Rattle.icode_ops.specs.declared.op.Op.TheVariants.{Const, Move, Bin, FrameAddress, Load, Store, Clear, Label}
use Rattle.icode_ops.specs.declared.op.Op.TheVariants.{Jump, BranchZero, BranchNonzero, CheckDivision, CheckZero, Un}
use Rattle.icode_ops.specs.declared.op.Op.TheVariants.{Argument, GetParameter, Call, CallNumber, Result, Return}
use Rattle.icode_ops.specs.declared.op.Op.TheVariants.{ReturnZero, Sys, Run, New, Put}
use Rattle.icode_ops.specs.declared.kind.RunKind.TheVariants.{Malloc}
use Rattle.icode_ops.specs.Flow.{op_at}
use Rattle.meaning_state.specs.Bodies.{Body}
use Rattle.meaning_state.specs.Rows.{numbered, parameters_of}
use Rattle.icode_meaning.specs.State.{Function, Frame}
use Rattle.icode_expand_proof.specs.Settings.{Setting}

-- calls have eight arguments at most
abbrev pub IsServed : Op → Type 0
IsServed (Const to word) = word < 4294967296
IsServed (Move to from) = Unit {0}
IsServed (Bin kind to left right) = Unit {0}
IsServed (CheckDivision left right) = Unit {0}
IsServed (CheckZero divisor) = Unit {0}
IsServed (Un kind to from) = Unit {0}
IsServed (FrameAddress to offset) = Unit {0}
IsServed (Load kind to from) = Unit {0}
IsServed (Store kind to from) = Unit {0}
IsServed (Clear offset words) = Unit {0}
IsServed (Label label) = Unit {0}
IsServed (Jump label) = Unit {0}
IsServed (BranchZero test label) = Unit {0}
IsServed (BranchNonzero test label) = Unit {0}
IsServed (Argument index from) = index < 8
IsServed (GetParameter to index) = index < 8
IsServed (Call address) = address < SEGMENT_BYTES
IsServed (CallNumber number count) = count ≤ 8
IsServed (Result to) = Unit {0}
IsServed (Return from) = Unit {0}
IsServed ReturnZero = Unit {0}
IsServed (Sys kind to from) = Unit {0}
IsServed (Run routine to from) = Unit {0}
IsServed (New to address kind captures) = (address < 4294967296) × (captures ≤ MOST_CAPTURES)
IsServed (Put capture from) = capture < MOST_CAPTURES

-- what makes a specification, or a function of one
abbrev pub is_of_ticks : Op → Bool
is_of_ticks (Run Malloc to from) = false
is_of_ticks (Run routine to from) = true
is_of_ticks (New to address kind captures) = true
is_of_ticks (Put capture from) = true
is_of_ticks o = false

-- A call by a number enters a function that was compiled: it is live, and has as many parameters as are passed.
abbrev pub is_body_of : (count : ℕ) → Option Body → Bool
is_body_of count None = false
is_body_of count (Some x) = x.live && nat_eq (parameters_of x.syntax) count

abbrev pub calls_body : (functions : ℕ) → List Body → Op → Frame → Bool
calls_body functions bodies (CallNumber number count) w =
    if nat_le (w.values number) functions then false
    else is_body_of count (numbered (w.values number - functions) bodies)
calls_body functions bodies o w = false

-- each op of each function is served
pub record Serving (s : Setting) : Type 0 where
  pub ops : (a : ℕ) (f : Function) → s.program.function_at a ≡ Some f → (p : ℕ) → IsServed (op_at f.ops p)
