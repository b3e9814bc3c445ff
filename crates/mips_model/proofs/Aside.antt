-- What passed between a run and the outside matters to services alone: every other instruction does the same, whatever
-- it was, and leaves it as it was.
use Rattle.std.proofs.Common.{◌≡◌, ◌≢◌, ℕ, ◌+◌, ◌/◌, Bool, true, false, Option, None, Some, Result, Ok, Err, refl, sym}
use Rattle.std.proofs.Common.{ap, ◌∙◌, arith, nat_eq, if◌then◌else◌, is_some}
use Rattle.std.proofs.lemmas.Bool.{false≢true}
use Rattle.std.proofs.lemmas.Bool.Decides.{nat_tests}
use Rattle.word32.specs.Words.{wrap, widened_half}
use Rattle.word32.specs.Parts.{is_aligned, loaded_part}
use Rattle.word32.specs.Space as space
use Rattle.word32.specs.declared.width.Width.{Width}
use Rattle.word32.specs.declared.width.Width.TheVariants.{SignedByte, Byte, SignedHalf, Half, Word}
use Rattle.flat_memory.specs.Map.{Region, InText, InArena, InObjects, InClosures, InSpecRows, InCells, InFunctionTable}
use Rattle.flat_memory.specs.Map.{InEmitStack, InStack, Nowhere, region_of}
use Rattle.host_edge.specs.declared.ending.TrapKind.{TrapKind}
use Rattle.host_edge.specs.declared.ending.MachineKind.{MachineKind}
use Rattle.host_edge.specs.declared.ending.MachineKind.TheVariants as kind
use Rattle.host_edge.specs.declared.ending.Ending.TheVariants.{Trap}
use Rattle.host_edge.specs.declared.ending.TrapKind.TheVariants as trap
use Rattle.history.specs.Events.{Ended}
use Rattle.mips_encoder.specs.Decoded.{instr_of}
use Rattle.mips_encoder.proofs.Inverse.{word_of-instr_of}
use Rattle.mips_encoder.specs.declared.instruction.Instr.{Instr}
use Rattle.mips_encoder.specs.declared.instruction.Instr.TheVariants.{Arithmetic, Shift, ShiftVariable, JumpRegister}
use Rattle.mips_encoder.specs.declared.instruction.Instr.TheVariants.{JumpAndLinkRegister, Syscall, Break, MoveFrom}
use Rattle.mips_encoder.specs.declared.instruction.Instr.TheVariants.{MoveTo, MultiplyDivide, BranchOnSign}
use Rattle.mips_encoder.specs.declared.instruction.Instr.TheVariants.{BranchOnSignAndLink, Jump, BranchOnEquality}
use Rattle.mips_encoder.specs.declared.instruction.Instr.TheVariants.{BranchOnZero, ImmediateArithmetic}
use Rattle.mips_encoder.specs.declared.instruction.Instr.TheVariants.{LoadUpperImmediate, Memory}
use Rattle.mips_encoder.specs.declared.instruction.HiLo.TheVariants.{Hi, Lo}
use Rattle.mips_encoder.specs.declared.instruction.JumpOp.{JumpOp}
use Rattle.mips_encoder.specs.declared.instruction.JumpOp.TheVariants.{J, Jal}
use Rattle.mips_encoder.specs.declared.instruction.MemoryOp.{MemoryOp}
use Rattle.mips_encoder.specs.declared.instruction.MemoryOp.TheVariants.{Lb, Lh, Lw, Lbu, Lhu, Sb, Sh, Sw}
use Rattle.mips_model.specs.State.{Outside, Data, State, World, set_register, register}
use Rattle.mips_model.specs.Arithmetic.{arithmetic, immediate}
use Rattle.mips_model.specs.Accesses.{Effect, Plain, Loads, Changes, ReadsText, ReadsArena, StoresText, Branches}
use Rattle.mips_model.specs.Accesses.{BranchesLinking, Jumps, JumpsLinking, Goes, GoesLinking, Ends, Faults, InputFails}
use Rattle.mips_model.specs.Accesses.{aligned, load_in, store_in, arena_word, table_word_at, stored_in_arena}
use Rattle.mips_model.specs.Effects.{gives, breaks, trap_of, goes, access, effect}
use Rattle.mips_model.specs.Steps.{decoded, found, word_at, fetch, onward, ended, reads, stores_text, apply, act}
use Rattle.mips_model.specs.Steps.{is_hazard, checked, execute, step, recent_behind, faulted}
use Rattle.mips_model.specs.Beside.{aside, beside_state, beside, is_service, is_at_service}

-- an effect, with this outside in its data
abbrev with : Outside → Effect → Effect
with o (Plain d) = Plain (aside o d)
with o (Loads r d) = Loads r (aside o d)
with o (Changes f d) = Changes f (aside o d)
with o e = e

reads_aside : (x : Option ℕ) (r at : ℕ) (width : Width) (recent : ℕ) (s : State) (o : Outside) →
    reads x r at width recent (beside_state o s) ≡ beside o (reads x r at width recent s)
reads_aside None r at width recent s o = refl
reads_aside (Some w) r at width recent s o = by (is_aligned at width)
  where
    by : (b : Bool) → (if b then
        onward (s.next + 4) r recent false s.code (set_register r (loaded_part w at width) (aside o s.d))
        (beside_state o s) else ended (Ended (Trap trap.Misaligned)) (beside_state o s)) ≡ beside o
        (if b then onward (s.next + 4) r recent false s.code (set_register r (loaded_part w at width) s.d) s else
        ended (Ended (Trap trap.Misaligned)) s)
    by true = refl
    by false = refl

stores_aside : (x : Option ℕ) (at : ℕ) (width : Width) (s : State) (o : Outside) →
    stores_text x at width (beside_state o s) ≡ beside o (stores_text x at width s)
stores_aside None at width s o = refl
stores_aside (Some w) at width s o = refl

apply_aside : (e : Effect) (recent : ℕ) (s : State) (o : Outside) →
    apply (with o e) recent (beside_state o s) ≡ beside o (apply e recent s)
apply_aside (Plain d) recent s o = refl
apply_aside (Loads r d) recent s o = refl
apply_aside (Changes f d) recent s o = refl
apply_aside (ReadsText r at width) recent s o = reads_aside (s.code.text (at / 4)) r at width recent s o
apply_aside (ReadsArena r at width) recent s o =
    reads_aside (Some (s.code.arena.words (arena_word at))) r at width recent s o
apply_aside (StoresText at width) recent s o = stores_aside (s.code.text (at / 4)) at width s o
apply_aside (Branches taken offset) recent s o = refl
apply_aside (BranchesLinking taken offset) recent s o = refl
apply_aside (Jumps target) recent s o = refl
apply_aside (JumpsLinking r target) recent s o = refl
apply_aside (Goes word) recent s o = refl
apply_aside (GoesLinking word) recent s o = refl
apply_aside (Ends e) recent s o = refl
apply_aside (Faults k) recent s o = refl
apply_aside InputFails recent s o = refl

gives_aside : (x : Option ℕ) (r : ℕ) (d : Data) (o : Outside) → gives r x (aside o d) ≡ with o (gives r x d)
gives_aside None r d o = refl
gives_aside (Some v) r d o = refl

breaks_aside : (x : Option TrapKind) (o : Outside) → breaks x ≡ with o (breaks x)
breaks_aside None o = refl
breaks_aside (Some k) o = refl

aligned_aside : (at : ℕ) (width : Width) (e : Effect) (o : Outside) →
    aligned at width (with o e) ≡ with o (aligned at width e)
aligned_aside at width e o = by (is_aligned at width)
  where
    by : (b : Bool) → (if b then with o e else Ends (Trap trap.Misaligned)) ≡ with o
        (if b then e else Ends (Trap trap.Misaligned))
    by true = refl
    by false = refl

load_aside : (g : Region) (r at : ℕ) (width : Width) (d : Data) (o : Outside) →
    load_in g r at width (aside o d) ≡ with o (load_in g r at width d)
load_aside InText r at width d o = refl
load_aside InArena r at width d o = refl
load_aside InObjects r at width d o =
    aligned_aside at width (Loads r (set_register r (loaded_part (d.objects (at / 4)) at width) d)) o
load_aside InClosures r at width d o =
    aligned_aside at width (Loads r (set_register r (loaded_part (d.closures (at / 4)) at width) d)) o
load_aside InSpecRows r at width d o =
    aligned_aside at width (Loads r (set_register r (loaded_part (d.spec_rows (at / 4)) at width) d)) o
load_aside InCells r at width d o =
    aligned_aside at width (Loads r (set_register r (loaded_part (d.cells (at / 4)) at width) d)) o
load_aside InFunctionTable r at width d o =
    aligned_aside at width (Loads r (set_register r (loaded_part (table_word_at d.table at) at width) d)) o
load_aside InEmitStack r at width d o =
    aligned_aside at width (Loads r (set_register r (loaded_part (d.emit_stack (at / 4)) at width) d)) o
load_aside InStack r at width d o =
    aligned_aside at width (Loads r (set_register r (loaded_part (d.stack (at / 4)) at width) d)) o
load_aside Nowhere r at width d o = refl

store_aside : (g : Region) (at : ℕ) (width : Width) (w : ℕ) (d : Data) (o : Outside) →
    store_in g at width w (aside o d) ≡ with o (store_in g at width w d)
store_aside InText at width w d o = refl
store_aside InArena at width w d o = aligned_aside at width (Changes (stored_in_arena at width w) d) o
store_aside InObjects at width w d o =
    aligned_aside at width (Plain (record d { objects = space.store at width w d.objects })) o
store_aside InClosures at width w d o =
    aligned_aside at width (Plain (record d { closures = space.store at width w d.closures })) o
store_aside InSpecRows at width w d o =
    aligned_aside at width (Plain (record d { spec_rows = space.store at width w d.spec_rows })) o
store_aside InCells at width w d o =
    aligned_aside at width (Plain (record d { cells = space.store at width w d.cells })) o
store_aside InFunctionTable at width w d o = aligned_aside at width (Ends (Trap trap.Range)) o
store_aside InEmitStack at width w d o =
    aligned_aside at width (Plain (record d { emit_stack = space.store at width w d.emit_stack })) o
store_aside InStack at width w d o =
    aligned_aside at width (Plain (record d { stack = space.store at width w d.stack })) o
store_aside Nowhere at width w d o = refl

access_aside : (op : MemoryOp) (r at : ℕ) (d : Data) (o : Outside) →
    access op r at (aside o d) ≡ with o (access op r at d)
access_aside Lb r at d o = load_aside (region_of at) r at SignedByte d o
access_aside Lh r at d o = load_aside (region_of at) r at SignedHalf d o
access_aside Lw r at d o = load_aside (region_of at) r at Word d o
access_aside Lbu r at d o = load_aside (region_of at) r at Byte d o
access_aside Lhu r at d o = load_aside (region_of at) r at Half d o
access_aside Sb r at d o = store_aside (region_of at) at Byte (register r d) d o
access_aside Sh r at d o = store_aside (region_of at) at Half (register r d) d o
access_aside Sw r at d o = store_aside (region_of at) at Word (register r d) d o

goes_aside : (op : JumpOp) (word : ℕ) (o : Outside) → goes op word ≡ with o (goes op word)
goes_aside J word o = refl
goes_aside Jal word o = refl

effect_aside : (i : Instr) (d : Data) (o : Outside) → i ≢ Syscall → effect i (aside o d) ≡ with o (effect i d)
effect_aside (Arithmetic op rd rs rt) d o n = gives_aside (arithmetic op (register rs d) (register rt d)) rd d o
effect_aside (Shift op rd rt shamt) d o n = refl
effect_aside (ShiftVariable op rd rt rs) d o n = refl
effect_aside (JumpRegister rs) d o n = refl
effect_aside (JumpAndLinkRegister p) d o n = refl
effect_aside Syscall d o n = absurd (n refl)
effect_aside (Break code) d o n = breaks_aside (trap_of code) o
effect_aside (MoveFrom Hi rd) d o n = refl
effect_aside (MoveFrom Lo rd) d o n = refl
effect_aside (MoveTo Hi rs) d o n = refl
effect_aside (MoveTo Lo rs) d o n = refl
effect_aside (MultiplyDivide op rs rt) d o n = refl
effect_aside (BranchOnSign test rs offset) d o n = refl
effect_aside (BranchOnSignAndLink test rs offset) d o n = refl
effect_aside (Jump op word) d o n = goes_aside op word o
effect_aside (BranchOnEquality op rs rt offset) d o n = refl
effect_aside (BranchOnZero op rs offset) d o n = refl
effect_aside (ImmediateArithmetic op rt rs n1) d o n = gives_aside (immediate op (register rs d) n1) rt d o
effect_aside (LoadUpperImmediate rt n1) d o n = refl
effect_aside (Memory op rt offset rs) d o n = access_aside op rt (wrap (register rs d + widened_half offset)) d o

act_aside : (i : Instr) (s : State) (o : Outside) → i ≢ Syscall → act i (beside_state o s) ≡ beside o (act i s)
act_aside i s o n =
    ap (λ (e : Effect). apply e (recent_behind i s.recent) (beside_state o s)) (effect_aside i s.d o n)
    ∙ apply_aside (effect i s.d) (recent_behind i s.recent) s o

checked_aside : (i : Instr) (s : State) (o : Outside) → i ≢ Syscall →
    checked i (beside_state o s) ≡ beside o (checked i s)
checked_aside i s o n = by (is_hazard i s)
  where
    by : (b : Bool) → (if b then faulted kind.Hazard (beside_state o s) else act i (beside_state o s)) ≡ beside o
        (if b then faulted kind.Hazard s else act i s)
    by true = refl
    by false = act_aside i s o n

decoded_aside : (x : Option Instr) (s : State) (o : Outside) → x ≢ Some Syscall →
    execute (decoded x) (beside_state o s) ≡ beside o (execute (decoded x) s)
decoded_aside None s o n = refl
decoded_aside (Some i) s o n = checked_aside i s o (λ e. n (ap Some e))

no_syscall : (w : ℕ) → nat_eq w 12 ≡ false → instr_of w ≢ Some Syscall
no_syscall w n e = let back : 12 ≡ w = word_of-instr_of w Syscall e in let same : nat_eq w 12 ≡ true =
    grind (arith, nat_tests) in false≢true (sym n ∙ same)

found_aside : (x : Result ℕ MachineKind) (s : State) (o : Outside) → is_service x ≡ false →
    execute (found x) (beside_state o s) ≡ beside o (execute (found x) s)
found_aside (Err k) s o n = refl
found_aside (Ok w) s o n = decoded_aside (instr_of w) s o (no_syscall w n)

-- a step that is no service's
pub step_aside : (w : World) (o : Outside) → is_at_service w.state ≡ false → step (beside o w) ≡ beside o (step w)
step_aside w o n = by (is_some w.ending)
  where
    by : (b : Bool) → (if b then beside o w else execute (fetch w.state.code w.state.pc) (beside_state o w.state)) ≡
        beside o (if b then w else execute (fetch w.state.code w.state.pc) w.state)
    by true = refl
    by false = found_aside (word_at w.state.code w.state.pc) w.state o n
