-- The function table is as it was behind an instruction, unless that publishes a function.
use Rattle.std.proofs.Common.{◌≡◌, inl, inr, ◌⊎◌, ℕ, suc, ◌+◌, ◌-◌, ◌/◌, ◌<◌, ◌≤◌, zero, Bool, true, false, Option}
use Rattle.std.proofs.Common.{Some, None, Result, Ok, Err}
use Rattle.std.proofs.Common.{refl, sym, ap, ◌∙◌, subst, arith, nat_eq, if◌then◌else◌, is_some}
use Rattle.word32.specs.Words.{wrap, widened_half}
use Rattle.word32.specs.Parts.{is_aligned, loaded_part}
use Rattle.word32.specs.declared.width.Width.{Width}
use Rattle.word32.specs.declared.width.Width.TheVariants.{SignedByte, Byte, SignedHalf, Half, Word}
use Rattle.flat_memory.specs.Map.{Region, InText, InArena, InObjects, InClosures, InSpecRows, InCells, InFunctionTable}
use Rattle.flat_memory.specs.Map.{InEmitStack, InStack, Nowhere, region_of}
use Rattle.host_edge.specs.declared.ending.Ending.TheVariants.{Trap}
use Rattle.host_edge.specs.declared.ending.TrapKind.{TrapKind}
use Rattle.host_edge.specs.declared.ending.TrapKind.TheVariants as trap
use Rattle.history.specs.Events.{End, Ended, Next, Given, AtEnd, Failing, next_byte}
use Rattle.mips_encoder.specs.declared.instruction.Instr.{Instr}
use Rattle.mips_encoder.specs.declared.instruction.Instr.TheVariants.{Arithmetic, Shift, ShiftVariable, JumpRegister}
use Rattle.mips_encoder.specs.declared.instruction.Instr.TheVariants.{JumpAndLinkRegister, Syscall, Break, MoveFrom}
use Rattle.mips_encoder.specs.declared.instruction.Instr.TheVariants.{MoveTo, MultiplyDivide, BranchOnSign}
use Rattle.mips_encoder.specs.declared.instruction.Instr.TheVariants.{BranchOnSignAndLink, Jump, BranchOnEquality}
use Rattle.mips_encoder.specs.declared.instruction.Instr.TheVariants.{BranchOnZero, ImmediateArithmetic}
use Rattle.mips_encoder.specs.declared.instruction.Instr.TheVariants.{LoadUpperImmediate, Memory}
use Rattle.mips_encoder.specs.declared.instruction.HiLo.TheVariants.{Hi, Lo}
use Rattle.mips_encoder.specs.declared.instruction.JumpOp.{JumpOp}
use Rattle.mips_encoder.specs.declared.instruction.JumpOp.TheVariants.{J, Jal}
use Rattle.mips_encoder.specs.declared.instruction.MemoryOp.{MemoryOp}
use Rattle.mips_encoder.specs.declared.instruction.MemoryOp.TheVariants.{Lb, Lh, Lw, Lbu, Lhu, Sb, Sh, Sw}
use Rattle.mips_model.specs.declared.service.Service.{Service}
use Rattle.mips_model.specs.declared.service.Service.TheVariants as service
use Rattle.icode_ir.specs.Build.{Build}
use Rattle.icode_ir.specs.declared.build_op.BuildOp.{BuildOp}
use Rattle.icode_ir.specs.declared.build_op.BuildFault.{BuildFault}
use Rattle.icode_ir.specs.Rules.{fault_of}
use Rattle.icode_ir.specs.Decoded.{op_of}
use Rattle.mips_model.specs.Choices.{Choice}
use Rattle.mips_model.specs.CodeServices as services
use Rattle.mips_model.specs.CodeServices.{Generator, Outcome, Refused, Does}
use Rattle.mips_model.specs.declared.bad_service.BadService.{BadService}
use Rattle.mips_model.specs.State.{Making, Outside, Data, State, World, register, set_register}
use Rattle.mips_model.specs.Services.{service_of, serve, get, got, read, makes, writes, generator_of, next_choice}
use Rattle.mips_model.specs.Services.{spent, flushed_once, begun_with, issued_with, published_once}
use Rattle.mips_model.specs.Arithmetic.{arithmetic, immediate}
use Rattle.mips_model.specs.Accesses.{Effect, Plain, Loads, Changes, ReadsText, ReadsArena, StoresText, Branches}
use Rattle.mips_model.specs.Accesses.{BranchesLinking, Jumps, JumpsLinking, Goes, GoesLinking, Ends, Faults, InputFails}
use Rattle.mips_model.specs.Accesses.{aligned, load_in, store_in, arena_word}
use Rattle.mips_model.specs.Effects.{gives, breaks, trap_of, goes, access, effect}
use Rattle.mips_model.specs.Steps.{Fetched, Is, apply, act, checked, execute, step, fetch, reads, stores_text}
use Rattle.mips_model.specs.Steps.{is_hazard}
use Rattle.mips_model.specs.Steps.{onward, ended, going}
use Rattle.mips_model_laws.proofs.Quiet.{published, run_counts}
use Rattle.std.specs.Fn.{iterate}
use Rattle.host_edge.specs.declared.ending.MachineKind.TheVariants as kind
use Rattle.mips_model.specs.Steps.{recent_behind, faulted}
use Rattle.mips_model.specs.Steps as steps

abbrev Table : Type 0
Table = ℕ → ℕ × ℕ

-- the table of an effect's data is this
abbrev Tabled : Table → Effect → Type 0
Tabled t (Plain d) = d.table ≡ t
Tabled t (Loads r d) = d.table ≡ t
Tabled t (Changes f d) = d.table ≡ t
Tabled t e = Unit {0}

gives_tabled : (x : Option ℕ) (r : ℕ) (d : Data) → Tabled d.table (gives r x d)
gives_tabled None r d = tt
gives_tabled (Some v) r d = refl

breaks_tabled : (t : Table) (x : Option TrapKind) → Tabled t (breaks x)
breaks_tabled t None = tt
breaks_tabled t (Some k) = tt

aligned_tabled : (t : Table) (at : ℕ) (width : Width) (e : Effect) → Tabled t e → Tabled t (aligned at width e)
aligned_tabled t at width e h = by (is_aligned at width)
  where
    by : (b : Bool) → Tabled t (if b then e else Ends (Trap trap.Misaligned))
    by true = h
    by false = tt

load_tabled : (g : Region) (r at : ℕ) (width : Width) (d : Data) → Tabled d.table (load_in g r at width d)
load_tabled InText r at width d = tt
load_tabled InArena r at width d = tt
load_tabled InObjects r at width d = aligned_tabled d.table at width (Loads r _) refl
load_tabled InClosures r at width d = aligned_tabled d.table at width (Loads r _) refl
load_tabled InSpecRows r at width d = aligned_tabled d.table at width (Loads r _) refl
load_tabled InCells r at width d = aligned_tabled d.table at width (Loads r _) refl
load_tabled InFunctionTable r at width d = aligned_tabled d.table at width (Loads r _) refl
load_tabled InEmitStack r at width d = aligned_tabled d.table at width (Loads r _) refl
load_tabled InStack r at width d = aligned_tabled d.table at width (Loads r _) refl
load_tabled Nowhere r at width d = tt

store_tabled : (g : Region) (at : ℕ) (width : Width) (w : ℕ) (d : Data) → Tabled d.table (store_in g at width w d)
store_tabled InText at width w d = tt
store_tabled InArena at width w d = aligned_tabled d.table at width (Changes _ d) refl
store_tabled InObjects at width w d = aligned_tabled d.table at width (Plain _) refl
store_tabled InClosures at width w d = aligned_tabled d.table at width (Plain _) refl
store_tabled InSpecRows at width w d = aligned_tabled d.table at width (Plain _) refl
store_tabled InCells at width w d = aligned_tabled d.table at width (Plain _) refl
store_tabled InFunctionTable at width w d = aligned_tabled d.table at width (Ends _) tt
store_tabled InEmitStack at width w d = aligned_tabled d.table at width (Plain _) refl
store_tabled InStack at width w d = aligned_tabled d.table at width (Plain _) refl
store_tabled Nowhere at width w d = tt

access_tabled : (op : MemoryOp) (r at : ℕ) (d : Data) → Tabled d.table (access op r at d)
access_tabled Lb r at d = load_tabled (region_of at) r at SignedByte d
access_tabled Lh r at d = load_tabled (region_of at) r at SignedHalf d
access_tabled Lw r at d = load_tabled (region_of at) r at Word d
access_tabled Lbu r at d = load_tabled (region_of at) r at Byte d
access_tabled Lhu r at d = load_tabled (region_of at) r at Half d
access_tabled Sb r at d = store_tabled (region_of at) at Byte (register r d) d
access_tabled Sh r at d = store_tabled (region_of at) at Half (register r d) d
access_tabled Sw r at d = store_tabled (region_of at) at Word (register r d) d

goes_tabled : (t : Table) (op : JumpOp) (word : ℕ) → Tabled t (goes op word)
goes_tabled t J word = tt
goes_tabled t Jal word = tt

-- ---- services: publish alone sets a row

read_tabled : (next : Next) (d : Data) → Tabled d.table (read next d)
read_tabled (Given b rest) d = refl
read_tabled AtEnd d = refl
read_tabled Failing d = tt

get_tabled : (d : Data) → Tabled d.table (get d)
get_tabled d = by d.outside.at_end
  where
    by : (b : Bool) → Tabled d.table (if b then got 4294967295 true d.outside.input d else
        read (next_byte d.outside.input) d)
    by true = refl
    by false = read_tabled (next_byte d.outside.input) d

-- an outcome that sets no row
abbrev NoRow : Outcome → Type 0
NoRow (Refused why) = Unit {0}
NoRow (Does v g change set) = (t : Table) → set t ≡ t

makes_tabled : (o : Outcome) (note : Making → Making) (d : Data) → NoRow o → Tabled d.table (makes o note d)
makes_tabled (Refused why) note d h = tt
makes_tabled (Does v g change set) note d h = h d.table

writes_tabled : (o : Outcome) (note : ℕ → Outside → Outside) (d : Data) → Tabled d.table (writes o note d)
writes_tabled (Refused why) note d = tt
writes_tabled (Does v g change set) note d = refl

unless_rowless : (x : Option BadService) (o : Outcome) → NoRow o → NoRow (services.unless x o)
unless_rowless None o h = h
unless_rowless (Some why) o h = tt

built_rowless : (x : Option BuildFault) (op : BuildOp) (b : Build) (g : Generator) → NoRow (services.built x op b g)
built_rowless None op b g = λ t. refl
built_rowless (Some fault) op b g = tt

emit_rowless : (b : Option Build) (op : Option BuildOp) (g : Generator) → NoRow (services.emit_in b op g)
emit_rowless None op g = tt
emit_rowless (Some b) None g = tt
emit_rowless (Some b) (Some op) g = built_rowless (fault_of op b) op b g

-- where a service isn't the one that publishes
serve_tabled : (x : Option Service) (d : Data) → (x ≡ Some service.Publish) ⊎ Tabled d.table (serve x d)
serve_tabled None d = inr tt
serve_tabled (Some service.PutInt) d = inr refl
serve_tabled (Some service.Exit) d = inr tt
serve_tabled (Some service.PutByte) d = inr refl
serve_tabled (Some service.GetByte) d = inr (get_tabled d)
serve_tabled (Some service.Begin) d =
    inr (makes_tabled (services.begin (register 4 d) (generator_of d)) (begun_with (register 4 d)) d
    (unless_rowless (services.begin_refusal (register 4 d) (generator_of d)) _ (λ t. refl)))
serve_tabled (Some service.Emit) d =
    inr (makes_tabled (services.emit (register 4 d) (register 5 d) (register 6 d) (generator_of d))
    (issued_with (op_of (register 4 d) (register 5 d) (register 6 d))) d
    (emit_rowless (generator_of d).build (op_of (register 4 d) (register 5 d) (register 6 d)) (generator_of d)))
serve_tabled (Some service.Finish) d =
    inr (writes_tabled (services.finish (next_choice d.outside.making.row) (register 4 d) (register 5 d) (register 6 d)
    (generator_of d)) (spent (register 4 d)) d)
serve_tabled (Some service.Flush) d =
    inr (writes_tabled (services.flush (register 4 d) (register 5 d) (generator_of d)) flushed_once d)
serve_tabled (Some service.Publish) d = inl refl

-- ---- instructions

effect_tabled : (i : Instr) (d : Data) → ((i ≡ Syscall) × (service_of (register 2 d) ≡ Some service.Publish))
    ⊎ Tabled d.table (effect i d)
effect_tabled (Arithmetic op rd rs rt) d = inr (gives_tabled (arithmetic op (register rs d) (register rt d)) rd d)
effect_tabled (Shift op rd rt shamt) d = inr refl
effect_tabled (ShiftVariable op rd rt rs) d = inr refl
effect_tabled (JumpRegister rs) d = inr tt
effect_tabled (JumpAndLinkRegister p) d = inr tt
effect_tabled Syscall d = by (serve_tabled (service_of (register 2 d)) d)
  where
    by : (service_of (register 2 d) ≡ Some service.Publish) ⊎ Tabled d.table (serve (service_of (register 2 d)) d)
        → ((Syscall ≡ Syscall) × (service_of (register 2 d) ≡ Some service.Publish))
        ⊎ Tabled d.table (serve (service_of (register 2 d)) d)
    by (inl e) = inl (refl, e)
    by (inr h) = inr h
effect_tabled (Break code) d = inr (breaks_tabled d.table (trap_of code))
effect_tabled (MoveFrom Hi rd) d = inr refl
effect_tabled (MoveFrom Lo rd) d = inr refl
effect_tabled (MoveTo Hi rs) d = inr refl
effect_tabled (MoveTo Lo rs) d = inr refl
effect_tabled (MultiplyDivide op rs rt) d = inr refl
effect_tabled (BranchOnSign test rs offset) d = inr tt
effect_tabled (BranchOnSignAndLink test rs offset) d = inr tt
effect_tabled (Jump op word) d = inr (goes_tabled d.table op word)
effect_tabled (BranchOnEquality op rs rt offset) d = inr tt
effect_tabled (BranchOnZero op rs offset) d = inr tt
effect_tabled (ImmediateArithmetic op rt rs n1) d = inr (gives_tabled (immediate op (register rs d) n1) rt d)
effect_tabled (LoadUpperImmediate rt n1) d = inr refl
effect_tabled (Memory op rt offset rs) d = inr (access_tabled op rt (wrap (register rs d + widened_half offset)) d)

abbrev table_of : World → Table
table_of w = w.state.d.table

reads_tabled : (x : Option ℕ) (r at : ℕ) (width : Width) (recent : ℕ) (s : State)
    → table_of (reads x r at width recent s) ≡ s.d.table
reads_tabled None r at width recent s = refl
reads_tabled (Some w) r at width recent s = by (is_aligned at width)
  where
    by : (b : Bool) → table_of (if b then onward (s.next + 4) r recent false s.code
        (set_register r (loaded_part w at width) s.d) s else ended (Ended (Trap trap.Misaligned)) s) ≡ s.d.table
    by true = refl
    by false = refl

stores_tabled : (x : Option ℕ) (at : ℕ) (width : Width) (s : State)
    → table_of (stores_text x at width s) ≡ s.d.table
stores_tabled None at width s = refl
stores_tabled (Some w) at width s = refl

apply_tabled : (e : Effect) (recent : ℕ) (s : State) → Tabled s.d.table e → table_of (apply e recent s) ≡ s.d.table
apply_tabled (Plain d) recent s h = h
apply_tabled (Loads r d) recent s h = h
apply_tabled (Changes f d) recent s h = h
apply_tabled (ReadsText r at width) recent s h = reads_tabled (s.code.text (at / 4)) r at width recent s
apply_tabled (ReadsArena r at width) recent s h =
    reads_tabled (Some (s.code.arena.words (arena_word at))) r at width recent s
apply_tabled (StoresText at width) recent s h = stores_tabled (s.code.text (at / 4)) at width s
apply_tabled (Branches taken offset) recent s h = refl
apply_tabled (BranchesLinking taken offset) recent s h = refl
apply_tabled (Jumps target) recent s h = refl
apply_tabled (JumpsLinking r target) recent s h = refl
apply_tabled (Goes word) recent s h = refl
apply_tabled (GoesLinking word) recent s h = refl
apply_tabled (Ends e) recent s h = refl
apply_tabled (Faults k) recent s h = refl
apply_tabled InputFails recent s h = refl

-- the table is as it was, or more functions are counted
abbrev Either : State → World → Type 0
Either s after = (table_of after ≡ s.d.table) ⊎ (published (going s) < published after)

publishes_or : (o : Outcome) (recent : ℕ) (s : State) → Either s (apply (makes o published_once s.d) recent s)
publishes_or (Refused why) recent s = inl refl
publishes_or (Does v g change set) recent s = inr (omega arith)

served_or : (x : Option Service) (recent : ℕ) (s : State) → x ≡ Some service.Publish
    → Either s (apply (serve x s.d) recent s)
served_or x recent s e =
    subst (λ (y : Option Service). Either s (apply (serve y s.d) recent s)) (sym e)
    (publishes_or (services.publish (register 4 s.d) (register 5 s.d) (register 6 s.d) (generator_of s.d)) recent s)

act_or : (i : Instr) (s : State) → Either s (act i s)
act_or i s = by (effect_tabled i s.d)
  where
    by : ((i ≡ Syscall) × (service_of (register 2 s.d) ≡ Some service.Publish)) ⊎ Tabled s.d.table (effect i s.d)
        → Either s (act i s)
    by (inl e) =
        subst (λ (j : Instr). Either s (act j s)) (sym e.0)
        (served_or (service_of (register 2 s.d)) (recent_behind Syscall s.recent) s e.1)
    by (inr h) = inl (apply_tabled (effect i s.d) (recent_behind i s.recent) s h)

checked_or : (i : Instr) (s : State) → Either s (checked i s)
checked_or i s = by (is_hazard i s)
  where
    by : (b : Bool) → Either s (if b then faulted kind.Hazard s else act i s)
    by true = inl refl
    by false = act_or i s

execute_or : (f : Fetched) (s : State) → Either s (execute f s)
execute_or (steps.Refused k) s = inl refl
execute_or (Is i) s = checked_or i s

pub step_or : (w : World) → (table_of (step w) ≡ table_of w) ⊎ (published w < published (step w))
step_or w = by (is_some w.ending)
  where
    by : (b : Bool) → (table_of (if b then w else execute (fetch w.state.code w.state.pc) w.state) ≡ table_of w)
        ⊎ (published w < published (if b then w else execute (fetch w.state.code w.state.pc) w.state))
    by true = inl refl
    by false = execute_or (fetch w.state.code w.state.pc) w.state

-- where no more functions are counted behind a run, the table is as it was all along
pub table_stays : (n : ℕ) (w : World) → published (iterate step n w) ≡ published w → (i : ℕ) → i ≤ n
    → table_of (iterate step i w) ≡ table_of w
table_stays n w same zero l = refl
table_stays zero w same (suc i) l = absurd (omega (arith, l))
table_stays (suc n) w same (suc i) l =
    let rest = run_counts n (step w) in
    let now = run_counts 1 w in
    elim (step_or w) [
      | inl e ↦ table_stays n (step w) (omega (arith, same, rest, now)) i (omega (arith, l)) ∙ e
      | inr more ↦ absurd (omega (arith, same, rest, more))
    ]
