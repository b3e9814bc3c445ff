-- What each instruction does with the data, and which registers it names. The table and the effects are those of the
-- MIPS R2000 architecture manual; the codes of BREAK and the services of SYSCALL are this project's own.
use Rattle.std.specs.Prelude.{ℕ, ◌+◌, ◌*◌, Bool, true, false, ◌||◌, nat_eq, if◌then◌else◌, Option, Some, None}
use Rattle.word32.specs.Words.{wrap, widened_half}
use Rattle.word32.specs.declared.width.Width.TheVariants.{SignedByte, Byte, SignedHalf, Half, Word}
use Rattle.host_edge.specs.declared.ending.Ending.TheVariants.{Trap}
use Rattle.host_edge.specs.declared.ending.MachineKind.TheVariants as kind
use Rattle.host_edge.specs.declared.ending.TrapKind.{TrapKind}
use Rattle.host_edge.specs.declared.ending.TrapKind.TheVariants as trap
use Rattle.mips_encoder.specs.declared.instruction.Instr.{Instr}
use Rattle.mips_encoder.specs.declared.instruction.Instr.TheVariants.{Arithmetic, Shift, ShiftVariable, JumpRegister}
use Rattle.mips_encoder.specs.declared.instruction.Instr.TheVariants.{JumpAndLinkRegister, Syscall, Break, MoveFrom}
use Rattle.mips_encoder.specs.declared.instruction.Instr.TheVariants.{MoveTo, MultiplyDivide, BranchOnSign}
use Rattle.mips_encoder.specs.declared.instruction.Instr.TheVariants.{BranchOnSignAndLink, Jump, BranchOnEquality}
use Rattle.mips_encoder.specs.declared.instruction.Instr.TheVariants.{BranchOnZero, ImmediateArithmetic}
use Rattle.mips_encoder.specs.declared.instruction.Instr.TheVariants.{LoadUpperImmediate, Memory}
use Rattle.mips_encoder.specs.declared.instruction.HiLo.{HiLo}
use Rattle.mips_encoder.specs.declared.instruction.HiLo.TheVariants.{Hi, Lo}
use Rattle.mips_encoder.specs.declared.instruction.JumpOp.{JumpOp}
use Rattle.mips_encoder.specs.declared.instruction.JumpOp.TheVariants.{J, Jal}
use Rattle.mips_encoder.specs.declared.instruction.MemoryOp.{MemoryOp}
use Rattle.mips_encoder.specs.declared.instruction.MemoryOp.TheVariants.{Lb, Lh, Lw, Lbu, Lhu, Sb, Sh, Sw}
use Rattle.mips_model.specs.State.{Data, register, set_register}
use Rattle.mips_model.specs.Arithmetic.{arithmetic, immediate, shifted, by_number, multiply_divide, equality}
use Rattle.mips_model.specs.Arithmetic.{zero_comparison, sign_test}
use Rattle.mips_model.specs.Accesses.{Effect, Plain, Branches, BranchesLinking, Jumps, JumpsLinking, Goes, GoesLinking}
use Rattle.mips_model.specs.Accesses.{Ends, Faults, load, store}
use Rattle.mips_model.specs.Services.{service_of, serve}

-- the trap of a BREAK, by its code
abbrev pub trap_of : ℕ → Option TrapKind
trap_of code =
    if nat_eq code 6 then Some trap.DivideOverflow
    else (if nat_eq code 7 then Some trap.DivideByZero
    else (if nat_eq code 16 then Some trap.Range
    else (if nat_eq code 17 then Some trap.BadCall
    else (if nat_eq code 18 then Some trap.BadSpec
    else (if nat_eq code 19 then Some trap.BadParam
    else (if nat_eq code 20 then Some trap.StackLimit
    else (if nat_eq code 21 then Some trap.FrameLimit
    else (if nat_eq code 22 then Some trap.SpecLimit
    else (if nat_eq code 23 then Some trap.SizeLimit
    else (if nat_eq code 24 then Some trap.ArenaLimit
    else (if nat_eq code 25 then Some trap.TableLimit else None)))))))))))

abbrev pub breaks : Option TrapKind → Effect
breaks None = Faults kind.Reserved
breaks (Some k) = Ends (Trap k)

-- a register takes a value, where it fits
abbrev pub gives : ℕ → Option ℕ → Data → Effect
gives r None d = Faults kind.Overflow
gives r (Some v) d = Plain (set_register r v d)

abbrev pub half_of : HiLo → Data → ℕ
half_of Hi d = d.hi
half_of Lo d = d.lo

abbrev pub set_half : HiLo → ℕ → Data → Data
set_half Hi v d = record d { hi = v }
set_half Lo v d = record d { lo = v }

abbrev pub set_both : ℕ × ℕ → Data → Data
set_both v d = record d { hi = v.0; lo = v.1 }

abbrev pub goes : JumpOp → ℕ → Effect
goes J word = Goes word
goes Jal word = GoesLinking word

abbrev pub access : MemoryOp → ℕ → ℕ → Data → Effect
access Lb r at d = load r at SignedByte d
access Lh r at d = load r at SignedHalf d
access Lw r at d = load r at Word d
access Lbu r at d = load r at Byte d
access Lhu r at d = load r at Half d
access Sb r at d = store at Byte (register r d) d
access Sh r at d = store at Half (register r d) d
access Sw r at d = store at Word (register r d) d

abbrev pub effect : Instr → Data → Effect
effect (Arithmetic op rd rs rt) d = gives rd (arithmetic op (register rs d) (register rt d)) d
effect (Shift op rd rt shamt) d = Plain (set_register rd (shifted op (register rt d) shamt) d)
effect (ShiftVariable op rd rt rs) d =
    Plain (set_register rd (shifted (by_number op) (register rt d) (register rs d)) d)
effect (JumpRegister rs) d = Jumps (register rs d)
effect (JumpAndLinkRegister p) d = JumpsLinking p.rd (register p.rs d)
effect Syscall d = serve (service_of (register 2 d)) d
effect (Break code) d = breaks (trap_of code)
effect (MoveFrom half rd) d = Plain (set_register rd (half_of half d) d)
effect (MoveTo half rs) d = Plain (set_half half (register rs d) d)
effect (MultiplyDivide op rs rt) d = Plain (set_both (multiply_divide op (register rs d) (register rt d)) d)
effect (BranchOnSign test rs offset) d = Branches (sign_test test (register rs d)) offset
effect (BranchOnSignAndLink test rs offset) d = BranchesLinking (sign_test test (register rs d)) offset
effect (Jump op word) d = goes op word
effect (BranchOnEquality op rs rt offset) d = Branches (equality op (register rs d) (register rt d)) offset
effect (BranchOnZero op rs offset) d = Branches (zero_comparison op (register rs d)) offset
effect (ImmediateArithmetic op rt rs n) d = gives rt (immediate op (register rs d) n) d
effect (LoadUpperImmediate rt n) d = Plain (set_register rt (n * 65536) d)
effect (Memory op rt offset rs) d = access op rt (wrap (register rs d + widened_half offset)) d

-- whether an instruction reads or writes a register; a linking jump writes register 31, and SYSCALL reads and writes
-- those of its number, its arguments and its answer, whatever the service
abbrev pub jump_touches : JumpOp → ℕ → Bool
jump_touches J r = false
jump_touches Jal r = nat_eq 31 r

abbrev pub touches : Instr → ℕ → Bool
touches (Arithmetic op rd rs rt) r = nat_eq rd r || (nat_eq rs r || nat_eq rt r)
touches (Shift op rd rt shamt) r = nat_eq rd r || nat_eq rt r
touches (ShiftVariable op rd rt rs) r = nat_eq rd r || (nat_eq rt r || nat_eq rs r)
touches (JumpRegister rs) r = nat_eq rs r
touches (JumpAndLinkRegister p) r = nat_eq p.rd r || nat_eq p.rs r
touches Syscall r = nat_eq 2 r || (nat_eq 4 r || (nat_eq 5 r || nat_eq 6 r))
touches (Break code) r = false
touches (MoveFrom half rd) r = nat_eq rd r
touches (MoveTo half rs) r = nat_eq rs r
touches (MultiplyDivide op rs rt) r = nat_eq rs r || nat_eq rt r
touches (BranchOnSign test rs offset) r = nat_eq rs r
touches (BranchOnSignAndLink test rs offset) r = nat_eq 31 r || nat_eq rs r
touches (Jump op word) r = jump_touches op r
touches (BranchOnEquality op rs rt offset) r = nat_eq rs r || nat_eq rt r
touches (BranchOnZero op rs offset) r = nat_eq rs r
touches (ImmediateArithmetic op rt rs n) r = nat_eq rt r || nat_eq rs r
touches (LoadUpperImmediate rt n) r = nat_eq rt r
touches (Memory op rt offset rs) r = nat_eq rt r || nat_eq rs r

-- the instructions with a delay slot
abbrev pub jumps : Instr → Bool
jumps (JumpRegister rs) = true
jumps (JumpAndLinkRegister p) = true
jumps (BranchOnSign test rs offset) = true
jumps (BranchOnSignAndLink test rs offset) = true
jumps (Jump op word) = true
jumps (BranchOnEquality op rs rt offset) = true
jumps (BranchOnZero op rs offset) = true
jumps i = false

-- those that read HI or LO, and those that set one of them
abbrev pub reads_hilo : Instr → Bool
reads_hilo (MoveFrom half rd) = true
reads_hilo i = false

abbrev pub sets_hilo : Instr → Bool
sets_hilo (MoveTo half rs) = true
sets_hilo (MultiplyDivide op rs rt) = true
sets_hilo i = false
