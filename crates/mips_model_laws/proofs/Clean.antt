-- A word of the arena that isn't unwritten was written since it was unwritten last, where no flush met an unwritten
-- word. So what is executed in such a run is the text's or a clean word.
use Rattle.std.proofs.Common.{◌≡◌, ◌≢◌, ◌⊎◌, inl, inr, ℕ, zero, suc, ◌+◌, ◌-◌, ◌*◌, ◌/◌, ◌%◌, ◌<◌, ◌≤◌, ◌==◌, Bool}
use Rattle.std.proofs.Common.{true}
use Rattle.std.proofs.Common.{false, ◌&&◌, ◌||◌, not, Option, None, Some, Result, Ok, Err, nat_eq, nat_lt, nat_le}
use Rattle.std.proofs.Common.{refl, sym, ap, ◌∙◌, subst, arith, if◌then◌else◌, is_some, List, [], ◌∷◌, length}
use Rattle.std.specs.Fn.{iterate}
use Rattle.pace.proofs.Runs.{iterate_add}
use Rattle.std.proofs.lemmas.Bool.{cases_Bool, false≢true, and_parts}
use Rattle.std.proofs.lemmas.Bool.Decides.{nat_tests}
use Rattle.host_edge.specs.declared.ending.MachineKind.{MachineKind}
use Rattle.history.specs.Events.{End, Fault, Input, Next}
use Rattle.mips_encoder.specs.Decoded.{instr_of}
use Rattle.mips_encoder.specs.Table.{word_of}
use Rattle.mips_encoder.proofs.Inverse.{word_of-instr_of}
use Rattle.word32.specs.declared.map.TheConstants.{ARENA_BYTES, ARENA_WORDS}
use Rattle.mips_model.specs.Beside.{is_service, is_at_service}
use Rattle.mips_model.specs.Run.{begins, is_serving, IsTextWord, IsCleanWord, IsClean}
use Rattle.mips_model.specs.Steps.{word_at, run, checked, decoded}
use Rattle.mips_model.specs.Steps as steps
use Rattle.mips_model.proofs.Runs.{ends_once}
use Rattle.mips_model.proofs.Traces.{text_stays}
use Rattle.mips_model_laws.specs.Clean.{is_written, all_written, is_of_written, spoils, IsUnspoiled}
use Rattle.mips_model_laws.specs.Clean.{UnspoiledRunsAreClean}
use Rattle.mips_model_laws.proofs.Quiet.{serves}
use Rattle.word32.specs.Words.{wrap, widened_half}
use Rattle.word32.specs.Parts.{is_aligned, loaded_part, stored_part}
use Rattle.word32.specs.Space as space
use Rattle.word32.specs.declared.map.TheConstants.{ARENA}
use Rattle.word32.specs.declared.width.Width.{Width}
use Rattle.word32.specs.declared.width.Width.TheVariants.{SignedByte, Byte, SignedHalf, Half, Word}
use Rattle.flat_memory.specs.Map.{Region, InText, InArena, InObjects, InClosures, InSpecRows, InCells, InFunctionTable}
use Rattle.flat_memory.specs.Map.{InEmitStack, InStack, Nowhere, region_of}
use Rattle.flat_memory.specs.Spaces.{text_of}
use Rattle.code_arena.specs.Arena.{Arena, written, flushed, fetched}
use Rattle.code_arena.specs.Arena as arena
use Rattle.code_arena.specs.declared.arena.WordState.{WordState}
use Rattle.code_arena.specs.declared.arena.WordState.TheVariants.{Unwritten, Written, Flushed}
use Rattle.host_edge.specs.declared.ending.MachineKind.TheVariants as kind
use Rattle.host_edge.specs.declared.ending.TrapKind.{TrapKind}
use Rattle.host_edge.specs.declared.ending.TrapKind.TheVariants as trap
use Rattle.host_edge.specs.declared.ending.Ending.TheVariants.{Trap}
use Rattle.history.specs.Events.{Ended, Next, Given, AtEnd, Failing, next_byte}
use Rattle.image_file.specs.Image.{ImageParts}
use Rattle.icode_ir.specs.Build.{Build}
use Rattle.icode_ir.specs.Decoded.{op_of}
use Rattle.mips_model.specs.declared.bad_service.BadService.{BadService}
use Rattle.mips_model.specs.declared.bad_service.BadService.TheVariants.{OutsideArena, Short}
use Rattle.mips_model.specs.Choices.{Choice}
use Rattle.mips_model.specs.CodeServices as services
use Rattle.mips_model.specs.CodeServices.{Generator, Outcome, Does}
use Rattle.mips_encoder.specs.declared.instruction.Instr.{Instr}
use Rattle.mips_encoder.specs.declared.instruction.Instr.TheVariants.{Arithmetic, Shift, ShiftVariable, JumpRegister}
use Rattle.mips_encoder.specs.declared.instruction.Instr.TheVariants.{JumpAndLinkRegister, Syscall, Break, MoveFrom}
use Rattle.mips_encoder.specs.declared.instruction.Instr.TheVariants.{MoveTo, MultiplyDivide, BranchOnSign}
use Rattle.mips_encoder.specs.declared.instruction.Instr.TheVariants.{BranchOnSignAndLink, Jump, BranchOnEquality}
use Rattle.mips_encoder.specs.declared.instruction.Instr.TheVariants.{BranchOnZero, ImmediateArithmetic}
use Rattle.mips_encoder.specs.declared.instruction.Instr.TheVariants.{LoadUpperImmediate, Memory}
use Rattle.mips_encoder.specs.declared.instruction.JumpOp.{JumpOp}
use Rattle.mips_encoder.specs.declared.instruction.JumpOp.TheVariants.{J, Jal}
use Rattle.mips_encoder.specs.declared.instruction.MemoryOp.{MemoryOp}
use Rattle.mips_encoder.specs.declared.instruction.MemoryOp.TheVariants.{Lb, Lh, Lw, Lbu, Lhu, Sb, Sh, Sw}
use Rattle.mips_model.specs.declared.service.Service.{Service}
use Rattle.mips_model.specs.declared.service.Service.TheVariants.{PutInt, Exit, PutByte, GetByte, Begin, Emit, Finish}
use Rattle.mips_model.specs.declared.service.Service.TheVariants.{Flush, Publish}
use Rattle.mips_model.specs.State.{Making, Outside, Code, Data, State, World, register, set_register}
use Rattle.mips_model.specs.Arithmetic.{arithmetic, immediate}
use Rattle.mips_model.specs.Accesses.{Effect, Plain, Loads, Changes, ReadsText, ReadsArena, StoresText, Branches}
use Rattle.mips_model.specs.Accesses.{BranchesLinking, Jumps, JumpsLinking, Goes, GoesLinking, Ends, Faults, InputFails}
use Rattle.mips_model.specs.Accesses.{aligned, load_in, store_in, table_word_at, arena_word, stored_in_arena}
use Rattle.mips_model.specs.Services.{service_of, serve, get, got, read, makes, writes, begun_with, issued_with, spent}
use Rattle.mips_model.specs.Services.{flushed_once, published_once, next_choice, generator_of}
use Rattle.mips_model.specs.Effects.{gives, breaks, trap_of, goes, access, effect}
use Rattle.mips_model.specs.Steps.{Fetched, Is, Refused, fetch, found, from_text, text_word, from_arena, is_arena_word}
use Rattle.mips_model.specs.Steps.{word_in_arena, onward, ended, reads, stores_text, faulted, apply, act, is_hazard}
use Rattle.mips_model.specs.Steps.{recent_behind, execute, step}

-- a change behind which each word's state is as it was, or the word is written
abbrev pub Sets : (Arena → Arena) → Type 0
Sets f = (a : Arena) (k : ℕ) → ((f a).states k ≡ a.states k) ⊎ ((f a).states k ≡ Written)

abbrev pub IsSafe : Effect → Type 0
IsSafe (Changes f d) = Sets f
IsSafe e = Unit {0}

written_sets : (i w : ℕ) → Sets (written i w)
written_sets i w a k = by (nat_eq k i)
  where
    by : (b : Bool) → ((if b then Written else a.states k) ≡ a.states k) ⊎
        ((if b then Written else a.states k) ≡ Written)
    by true = inr refl
    by false = inl refl

stored_sets : (at : ℕ) (width : Width) (w : ℕ) → Sets (stored_in_arena at width w)
stored_sets at width w a k = written_sets (arena_word at) (stored_part (a.words (arena_word at)) at width w) a k

aligned_safe : (at : ℕ) (width : Width) (e : Effect) → IsSafe e → IsSafe (aligned at width e)
aligned_safe at width e safe = by (is_aligned at width)
  where
    by : (b : Bool) → IsSafe (if b then e else Ends (Trap trap.Misaligned))
    by true = safe
    by false = tt

load_safe : (g : Region) (r at : ℕ) (width : Width) (d : Data) → IsSafe (load_in g r at width d)
load_safe InText r at width d = tt
load_safe InArena r at width d = tt
load_safe InObjects r at width d =
    aligned_safe at width (Loads r (set_register r (loaded_part (d.objects (at / 4)) at width) d)) tt
load_safe InClosures r at width d =
    aligned_safe at width (Loads r (set_register r (loaded_part (d.closures (at / 4)) at width) d)) tt
load_safe InSpecRows r at width d =
    aligned_safe at width (Loads r (set_register r (loaded_part (d.spec_rows (at / 4)) at width) d)) tt
load_safe InCells r at width d =
    aligned_safe at width (Loads r (set_register r (loaded_part (d.cells (at / 4)) at width) d)) tt
load_safe InFunctionTable r at width d =
    aligned_safe at width (Loads r (set_register r (loaded_part (table_word_at d.table at) at width) d)) tt
load_safe InEmitStack r at width d =
    aligned_safe at width (Loads r (set_register r (loaded_part (d.emit_stack (at / 4)) at width) d)) tt
load_safe InStack r at width d =
    aligned_safe at width (Loads r (set_register r (loaded_part (d.stack (at / 4)) at width) d)) tt
load_safe Nowhere r at width d = tt

store_safe : (g : Region) (at : ℕ) (width : Width) (w : ℕ) (d : Data) → IsSafe (store_in g at width w d)
store_safe InText at width w d = tt
store_safe InArena at width w d =
    aligned_safe at width (Changes (stored_in_arena at width w) d) (stored_sets at width w)
store_safe InObjects at width w d =
    aligned_safe at width (Plain (record d { objects = space.store at width w d.objects })) tt
store_safe InClosures at width w d =
    aligned_safe at width (Plain (record d { closures = space.store at width w d.closures })) tt
store_safe InSpecRows at width w d =
    aligned_safe at width (Plain (record d { spec_rows = space.store at width w d.spec_rows })) tt
store_safe InCells at width w d = aligned_safe at width (Plain (record d { cells = space.store at width w d.cells })) tt
store_safe InFunctionTable at width w d = aligned_safe at width (Ends (Trap trap.Range)) tt
store_safe InEmitStack at width w d =
    aligned_safe at width (Plain (record d { emit_stack = space.store at width w d.emit_stack })) tt
store_safe InStack at width w d = aligned_safe at width (Plain (record d { stack = space.store at width w d.stack })) tt
store_safe Nowhere at width w d = tt

access_safe : (op : MemoryOp) (r at : ℕ) (d : Data) → IsSafe (access op r at d)
access_safe Lb r at d = load_safe (region_of at) r at SignedByte d
access_safe Lh r at d = load_safe (region_of at) r at SignedHalf d
access_safe Lw r at d = load_safe (region_of at) r at Word d
access_safe Lbu r at d = load_safe (region_of at) r at Byte d
access_safe Lhu r at d = load_safe (region_of at) r at Half d
access_safe Sb r at d = store_safe (region_of at) at Byte (register r d) d
access_safe Sh r at d = store_safe (region_of at) at Half (register r d) d
access_safe Sw r at d = store_safe (region_of at) at Word (register r d) d

gives_safe : (r : ℕ) (x : Option ℕ) (d : Data) → IsSafe (gives r x d)
gives_safe r None d = tt
gives_safe r (Some v) d = tt

breaks_safe : (x : Option TrapKind) → IsSafe (breaks x)
breaks_safe None = tt
breaks_safe (Some k) = tt

goes_safe : (op : JumpOp) (word : ℕ) → IsSafe (goes op word)
goes_safe J word = tt
goes_safe Jal word = tt

read_safe : (next : Next) (d : Data) → IsSafe (read next d)
read_safe (Given b rest) d = tt
read_safe AtEnd d = tt
read_safe Failing d = tt

get_safe : (d : Data) → IsSafe (get d)
get_safe d = by d.outside.at_end
  where
    by : (b : Bool) → IsSafe (if b then got 4294967295 true d.outside.input d else read (next_byte d.outside.input) d)
    by true = tt
    by false = read_safe (next_byte d.outside.input) d

-- a service that makes code, but doesn't write it
makes_safe : (o : Outcome) (note : Making → Making) (d : Data) → IsSafe (makes o note d)
makes_safe (services.Refused why) note d = tt
makes_safe (Does v g change set) note d = tt

-- words are written one after the other
pub words_set : (i : ℕ) (ws : List ℕ) → Sets (services.written_from i ws)
words_set i [] a k = inl refl
words_set i (w ∷ ws) a k = by (written_sets i w a k) (words_set (suc i) ws (written i w a) k)
  where
    by : ((written i w a).states k ≡ a.states k) ⊎ ((written i w a).states k ≡ Written)
        → ((services.written_from (suc i) ws (written i w a)).states k ≡ (written i w a).states k)
        ⊎ ((services.written_from (suc i) ws (written i w a)).states k ≡ Written)
        → ((services.written_from (suc i) ws (written i w a)).states k ≡ a.states k)
        ⊎ ((services.written_from (suc i) ws (written i w a)).states k ≡ Written)
    by first (inr e) = inr e
    by (inl f) (inl e) = inl (e ∙ f)
    by (inr f) (inl e) = inr (e ∙ f)

abbrev SetsBy : Outcome → Type 0
SetsBy (services.Refused why) = Unit {0}
SetsBy (Does v g change set) = Sets change

-- the service isn't the one that flushes
abbrev pub IsNoFlush : Option Service → Type 0
IsNoFlush (Some Flush) = ⊥
IsNoFlush o = Unit {0}

writes_safe : (o : Outcome) (note : ℕ → Outside → Outside) (d : Data) → SetsBy o → IsSafe (writes o note d)
writes_safe (services.Refused why) note d safe = tt
writes_safe (Does v g change set) note d safe = safe

write_sets : (words : List ℕ) (choice : Choice) (at most : ℕ) (g : Generator) →
    SetsBy (services.write words choice at most g)
write_sets words choice at most g = by (nat_le (length words) most)
  where
    by : (b : Bool) →
        SetsBy (if b then
        Does (length words) (services.finished_with choice g)
        (services.written_from (services.arena_word at) words) (λ r. r) else services.Refused Short)
    by true = words_set (services.arena_word at) words
    by false = tt

unless_sets : (why : Option BadService) (o : Outcome) → SetsBy o → SetsBy (services.unless why o)
unless_sets None o safe = safe
unless_sets (Some why) o safe = tt

finish_sets : (b : Option Build) (choice : Choice) (at most frame : ℕ) (g : Generator) →
    SetsBy (services.finish_in b choice at most frame g)
finish_sets None choice at most frame g = tt
finish_sets (Some b) choice at most frame g =
    unless_sets (services.finish_refusal b at most frame)
    (services.write (services.words_of b choice at frame) choice at most g)
    (write_sets (services.words_of b choice at frame) choice at most g)

serve_safe : (o : Option Service) (d : Data) → IsNoFlush o → IsSafe (serve o d)
serve_safe None d calm = tt
serve_safe (Some PutInt) d calm = tt
serve_safe (Some Exit) d calm = tt
serve_safe (Some PutByte) d calm = tt
serve_safe (Some GetByte) d calm = get_safe d
serve_safe (Some Begin) d calm =
    makes_safe (services.begin (register 4 d) (generator_of d)) (begun_with (register 4 d)) d
serve_safe (Some Emit) d calm =
    makes_safe (services.emit (register 4 d) (register 5 d) (register 6 d) (generator_of d))
    (issued_with (op_of (register 4 d) (register 5 d) (register 6 d))) d
serve_safe (Some Finish) d calm =
    let choice = next_choice d.outside.making.row in
    writes_safe (services.finish choice (register 4 d) (register 5 d) (register 6 d) (generator_of d))
    (spent (register 4 d)) d
    (finish_sets (generator_of d).build choice (register 4 d) (register 5 d) (register 6 d) (generator_of d))
serve_safe (Some Flush) d calm = absurd calm
serve_safe (Some Publish) d calm =
    makes_safe (services.publish (register 4 d) (register 5 d) (register 6 d) (generator_of d)) published_once d

effect_safe : (i : Instr) (d : Data) → (i ≡ Syscall → IsNoFlush (service_of (register 2 d))) → IsSafe (effect i d)
effect_safe (Arithmetic op rd rs rt) d calm = gives_safe rd (arithmetic op (register rs d) (register rt d)) d
effect_safe (Shift op rd rt shamt) d calm = tt
effect_safe (ShiftVariable op rd rt rs) d calm = tt
effect_safe (JumpRegister rs) d calm = tt
effect_safe (JumpAndLinkRegister p) d calm = tt
effect_safe Syscall d calm = serve_safe (service_of (register 2 d)) d (calm refl)
effect_safe (Break code) d calm = breaks_safe (trap_of code)
effect_safe (MoveFrom half rd) d calm = tt
effect_safe (MoveTo half rs) d calm = tt
effect_safe (MultiplyDivide op rs rt) d calm = tt
effect_safe (BranchOnSign test rs offset) d calm = tt
effect_safe (BranchOnSignAndLink test rs offset) d calm = tt
effect_safe (Jump op word) d calm = goes_safe op word
effect_safe (BranchOnEquality op rs rt offset) d calm = tt
effect_safe (BranchOnZero op rs offset) d calm = tt
effect_safe (ImmediateArithmetic op rt rs n) d calm = gives_safe rt (immediate op (register rs d) n) d
effect_safe (LoadUpperImmediate rt n) d calm = tt
effect_safe (Memory op rt offset rs) d calm = access_safe op rt (wrap (register rs d + widened_half offset)) d

-- ---- one instruction

abbrev pub arena_of : World → Arena
arena_of w = w.state.code.arena

-- a word's state is as it was, or the word is written
abbrev pub Turns : (before after : Arena) → ℕ → Type 0
Turns before after k = (after.states k ≡ before.states k) ⊎ (after.states k ≡ Written)

read_turns : (x : Option ℕ) (r at : ℕ) (width : Width) (recent k : ℕ) (s : State) →
    Turns s.code.arena (arena_of (reads x r at width recent s)) k
read_turns None r at width recent k s = inl refl
read_turns (Some w) r at width recent k s = by (is_aligned at width)
  where
    by : (b : Bool) → Turns s.code.arena (arena_of (if b then
        onward (s.next + 4) r recent false s.code (set_register r (loaded_part w at width) s.d) s else
        ended (Ended (Trap trap.Misaligned)) s)) k
    by true = inl refl
    by false = inl refl

store_turns : (x : Option ℕ) (at : ℕ) (width : Width) (k : ℕ) (s : State) →
    Turns s.code.arena (arena_of (stores_text x at width s)) k
store_turns None at width k s = inl refl
store_turns (Some w) at width k s = inl refl

apply_turns : (e : Effect) (recent k : ℕ) (s : State) → IsSafe e → Turns s.code.arena (arena_of (apply e recent s)) k
apply_turns (Plain d) recent k s safe = inl refl
apply_turns (Loads r d) recent k s safe = inl refl
apply_turns (Changes f d) recent k s safe = safe s.code.arena k
apply_turns (ReadsText r at width) recent k s safe = read_turns (s.code.text (at / 4)) r at width recent k s
apply_turns (ReadsArena r at width) recent k s safe =
    read_turns (Some (s.code.arena.words (arena_word at))) r at width recent k s
apply_turns (StoresText at width) recent k s safe = store_turns (s.code.text (at / 4)) at width k s
apply_turns (Branches taken offset) recent k s safe = inl refl
apply_turns (BranchesLinking taken offset) recent k s safe = inl refl
apply_turns (Jumps target) recent k s safe = inl refl
apply_turns (JumpsLinking r target) recent k s safe = inl refl
apply_turns (Goes word) recent k s safe = inl refl
apply_turns (GoesLinking word) recent k s safe = inl refl
apply_turns (Ends x) recent k s safe = inl refl
apply_turns (Faults x) recent k s safe = inl refl
apply_turns InputFails recent k s safe = inl refl

-- a number that isn't 67 is no flush's
no_flush : (n : ℕ) → nat_eq n 67 ≡ false → IsNoFlush (service_of n)
no_flush n e =
    by (nat_eq n 1) (nat_eq n 10) (nat_eq n 11) (nat_eq n 12) (nat_eq n 64) (nat_eq n 65) (nat_eq n 66) (nat_eq n 67)
    (nat_eq n 68) e
  where
    by : (b1 b2 b3 b4 b5 b6 b7 b8 b9 : Bool) → b8 ≡ false → IsNoFlush (if b1 then Some PutInt
        else (if b2 then Some Exit else (if b3 then Some PutByte else (if b4 then Some GetByte
        else (if b5 then Some Begin else (if b6 then Some Emit else (if b7 then Some Finish
        else (if b8 then Some Flush else (if b9 then Some Publish else None)))))))))
    by true b2 b3 b4 b5 b6 b7 b8 b9 e = tt
    by false true b3 b4 b5 b6 b7 b8 b9 e = tt
    by false false true b4 b5 b6 b7 b8 b9 e = tt
    by false false false true b5 b6 b7 b8 b9 e = tt
    by false false false false true b6 b7 b8 b9 e = tt
    by false false false false false true b7 b8 b9 e = tt
    by false false false false false false true b8 b9 e = tt
    by false false false false false false false true b9 e = absurd (false≢true (sym e))
    by false false false false false false false false true e = tt
    by false false false false false false false false false e = tt

-- where a SYSCALL is fetched the word is that of SYSCALL
service_there : (x : Result ℕ MachineKind) → found x ≡ Is Syscall → is_service x ≡ true
service_there (Err k) e = absurd cc
service_there (Ok w) e = by (instr_of w) refl e
  where
    by : (o : Option Instr) → instr_of w ≡ o → decoded o ≡ Is Syscall → nat_eq w 12 ≡ true
    by None is e = absurd cc
    by (Some i) is e =
        let same : i ≡ Syscall = ap (λ (f : Fetched). instr_or f) e in
        let word : word_of Syscall ≡ w = word_of-instr_of w Syscall (is ∙ ap (λ (j : Instr). let o : Option Instr =
        Some j in o) same) in
        subst (λ n. nat_eq n 12 ≡ true) word refl
      where
        instr_or : Fetched → Instr
        instr_or (Refused k) = i
        instr_or (Is j) = j

-- an instruction that isn't served as a flush
module _ (w : World) (k : ℕ) (calm : is_serving 67 w ≡ false) where
  serving : Syscall ≡ Syscall → is_some w.ending ≡ false → is_at_service w.state ≡ true
      → is_hazard Syscall w.state ≡ false → nat_eq (register 2 w.state.d) 67 ≡ true → is_serving 67 w ≡ true
  serving same on at quiet is =
      ap (λ (b : Bool). if b then false
      else (is_at_service w.state && (nat_eq (register 2 w.state.d) 67 && not (is_hazard Syscall w.state)))) on
      ∙ ap (λ (b : Bool). b && (nat_eq (register 2 w.state.d) 67 && not (is_hazard Syscall w.state))) at
      ∙ ap (λ (b : Bool). b && not (is_hazard Syscall w.state)) is
      ∙ ap not quiet

  not_67 : is_some w.ending ≡ false → fetch w.state.code w.state.pc ≡ Is Syscall
      → is_hazard Syscall w.state ≡ false → nat_eq (register 2 w.state.d) 67 ≡ false
  not_67 on is quiet = elim (cases_Bool (nat_eq (register 2 w.state.d) 67)) [
    | inr f ↦ f
    | inl t ↦ absurd (false≢true (sym calm ∙ serving refl on (service_there (word_at w.state.code w.state.pc) is)
        quiet t))
  ]

  on_fetch : (f : Fetched) → fetch w.state.code w.state.pc ≡ f → is_some w.ending ≡ false
      → Turns (arena_of w) (arena_of (execute f w.state)) k
  on_fetch (Refused x) is on = inl refl
  on_fetch (Is i) is on = by (is_hazard i w.state) refl
    where
      calm_at : is_hazard i w.state ≡ false → i ≡ Syscall → IsNoFlush (service_of (register 2 w.state.d))
      calm_at quiet same = no_flush (register 2 w.state.d)
          (not_67 on (is ∙ ap (λ (j : Instr). Is j) same)
          (ap (λ (j : Instr). is_hazard j w.state) (sym same) ∙ quiet))

      by : (b : Bool) → is_hazard i w.state ≡ b
          → Turns (arena_of w) (arena_of (if b then faulted kind.Hazard w.state else act i w.state)) k
      by true h = inl refl
      by false h = apply_turns (effect i w.state.d) (recent_behind i w.state.recent) k w.state
          (effect_safe i w.state.d (calm_at h))

  pub calm_turns : Turns (arena_of w) (arena_of (step w)) k
  calm_turns = by (is_some w.ending) refl
    where
      by : (b : Bool) → is_some w.ending ≡ b
          → Turns (arena_of w) (arena_of (if b then w else execute (fetch w.state.code w.state.pc) w.state)) k
      by true e = inl refl
      by false e = on_fetch (fetch w.state.code w.state.pc) refl e

-- ---- a flush of written words

pub written_at : (from count k : ℕ) (a : Arena) → all_written from count a ≡ true → from ≤ k → k < from + count
    → is_written (a.states k) ≡ true
unfolding all_written
written_at from zero k a all low high = absurd (omega (arith, low, high))
written_at from (suc n) k a all low high =
    let p = and_parts (is_written (a.states from)) (all_written (suc from) n a) all in
    elim (cases_Bool (nat_eq from k)) [
      | inl t ↦ (let same : from ≡ k = grind (arith, nat_tests, t) in
          subst (λ j. is_written (a.states j) ≡ true) same p.0)
      | inr f ↦ (let other : from ≢ k =
          λ e. false≢true (sym f ∙ (subst (λ j. nat_eq j k ≡ true) (sym e) (eq_self k))) in
          written_at (suc from) n k a p.1 (omega (arith, low, other)) (omega (arith, high)))
    ]
  where
    eq_self : (k : ℕ) → nat_eq k k ≡ true
    eq_self k = grind (arith, nat_tests)

-- it leaves no word but those that were written
abbrev pub Rises : World → World → ℕ → Type 0
Rises w after k = is_written ((arena_of after).states k) ≡ true
    → (is_written ((arena_of w).states k) ≡ true) ⊎ ((arena_of after).states k ≡ Written)

flushed_rises : (from count k : ℕ) (a : Arena) → all_written from count a ≡ true
    → is_written ((flushed from count a).states k) ≡ true → is_written (a.states k) ≡ true
flushed_rises from count k a all is = by (nat_le from k && nat_lt k (from + count)) refl is
  where
    by : (b : Bool) → (nat_le from k && nat_lt k (from + count)) ≡ b
        → is_written (if b then Flushed else a.states k) ≡ true → is_written (a.states k) ≡ true
    by false e is = is
    by true e is =
        let p = and_parts (nat_le from k) (nat_lt k (from + count)) e in
        written_at from count k a all (grind (arith, nat_tests, p.0)) (grind (arith, nat_tests, p.1))

not_false : (b : Bool) → not b ≡ false → b ≡ true
not_false true e = refl
not_false false e = absurd (false≢true (sym e))

flush_rises : (w : World) (k : ℕ) → is_serving 67 w ≡ true → spoils w ≡ false → Rises w (step w) k
flush_rises w k t fine =
    subst (λ (v : World). Rises w v k) (sym (serves 67 w t)) (by (services.is_arena_range first count) refl)
  where
    first : ℕ
    first = register 4 w.state.d

    count : ℕ
    count = register 5 w.state.d

    made : is_of_written first count (arena_of w) ≡ true
    made = not_false (is_of_written first count (arena_of w))
        (sym (ap (λ (b : Bool). if b then not (is_of_written first count (arena_of w)) else false) t) ∙ fine)

    by : (b : Bool) → services.is_arena_range first count ≡ b
        → Rises w (apply (writes (if b
        then Does 0 (generator_of w.state.d) (flushed (services.arena_word first) count) (λ r. r)
        else services.Refused OutsideArena) flushed_once w.state.d) (w.state.recent - 1) w.state) k
    by false e is = inl is
    by true e is =
        let all : all_written (services.arena_word first) count (arena_of w) ≡ true =
        sym (ap (λ (b : Bool). if b then all_written (services.arena_word first) count (arena_of w) else true) e) ∙ made
        in
        inl (flushed_rises (services.arena_word first) count k (arena_of w) all is)

pub step_rises : (w : World) (k : ℕ) → spoils w ≡ false → Rises w (step w) k
step_rises w k fine is = elim (cases_Bool (is_serving 67 w)) [
  | inl t ↦ flush_rises w k t fine is
  | inr f ↦ by (calm_turns w k f)
]
  where
    by : Turns (arena_of w) (arena_of (step w)) k
        → (is_written ((arena_of w).states k) ≡ true) ⊎ ((arena_of (step w)).states k ≡ Written)
    by (inl e) = inl (sym (ap is_written e) ∙ is)
    by (inr e) = inr e

-- ---- a run

-- the word was written before the first i instructions were over, and wasn't unwritten from then on
pub record Since (w : World) (i k : ℕ) : Type 0 where
  pub since : ℕ
  pub before : since ≤ i
  pub written : (arena_of (iterate step since w)).states k ≡ Written
  pub kept : (j : ℕ) → since ≤ j → j ≤ i → is_written ((arena_of (iterate step j w)).states k) ≡ true

last_step : (n : ℕ) (w : World) → iterate step (suc n) w ≡ step (iterate step n w)
last_step zero w = refl
last_step (suc n) w = last_step n (step w)

-- Where no word is written at first, and no flush meets an unwritten word, a word that isn't unwritten was written.
pub written_since : (w : World) → ((k : ℕ) → (arena_of w).states k ≡ Unwritten) → (i k : ℕ) → IsUnspoiled i w
    → is_written ((arena_of (iterate step i w)).states k) ≡ true → Since w i k
written_since w none zero k fine is = absurd (false≢true (sym (ap is_written (none k)) ∙ is))
written_since w none (suc i) k fine is =
    by (λ e. written_since w none i k (λ j l. fine j (omega (arith, l))) e)
    (subst (λ (v : World). Rises (iterate step i w) v k) (sym (last_step i w))
    (step_rises (iterate step i w) k (fine i (omega arith))) is)
  where
    by : (is_written ((arena_of (iterate step i w)).states k) ≡ true → Since w i k)
        → (is_written ((arena_of (iterate step i w)).states k) ≡ true)
        ⊎ ((arena_of (iterate step (suc i) w)).states k ≡ Written) → Since w (suc i) k
    by on (inr e) = record {
      since = suc i;
      before = omega arith;
      written = e;
      kept = λ j low high. (let same : suc i ≡ j = omega (arith, low, high) in
          subst (λ n. is_written ((arena_of (iterate step n w)).states k) ≡ true) same is);
    }
    by on (inl e) =
        let s = on e in
        record {
          since = s.since;
          before = (let b = s.before in omega (arith, b));
          written = s.written;
          kept = λ j low high. elim (cases_Bool (nat_eq j (suc i))) [
            | inl t ↦ (let same : suc i ≡ j = grind (arith, nat_tests, t) in
                subst (λ n. is_written ((arena_of (iterate step n w)).states k) ≡ true) same is)
            | inr f ↦ s.kept j low (less j high f)
          ];
        }
      where
        less : (j : ℕ) → j ≤ suc i → nat_eq j (suc i) ≡ false → j ≤ i
        less j high f = grind (arith, nat_tests, f, high)

-- ---- what is executed

-- the address is that of a word of the arena that is flushed
pub record IsFlushed (c : Code) (a : ℕ) : Type 0 where
  pub word : ℕ
  pub at : a ≡ ARENA + 4 * word
  pub within : word < ARENA_WORDS
  pub flushed_is : c.arena.states word ≡ Flushed

-- what is fetched is a word of the text, or a word of the arena that can be executed
module _ (image : ImageParts) (c : Code) (same : c.text ≡ text_of image.text) (a : ℕ) (i : Instr) where
  in_text : (even : Bool) (o : Option ℕ) → (a % 4 == 0) ≡ even → c.text (a / 4) ≡ o →
      found (from_text (if even then o else None)) ≡ Is i → IsTextWord image a
  in_text false o even is fetches = let x : ⊥ = cc in absurd x
  in_text true None even is fetches = let x : ⊥ = cc in absurd x
  in_text true (Some w) even is fetches =
      (grind (arith, nat_tests, even), (w, sym (ap (λ (f : ℕ → Option ℕ). f (a / 4)) same) ∙ is))

  from_state : (state : WordState) (word : ℕ) → c.arena.states (arena_word a) ≡ state →
      found (from_arena (fetched state word)) ≡ Is i → c.arena.states (arena_word a) ≡ Flushed
  from_state Unwritten word is fetches = let x : ⊥ = cc in absurd x
  from_state Written word is fetches = let x : ⊥ = cc in absurd x
  from_state Flushed word is fetches = is

  in_arena : (is_word : Bool) → is_arena_word a ≡ is_word → nat_lt a ARENA ≡ false →
      found (if is_word then from_arena (arena.fetch (arena_word a) c.arena) else Err kind.Fetch) ≡ Is i → IsFlushed c a
  in_arena false e high fetches = let x : ⊥ = cc in absurd x
  in_arena true e high fetches =
      let p = and_parts (a % 4 == 0) (nat_lt a (ARENA + ARENA_BYTES)) e in
      let even : a % 4 ≡ 0 = grind (arith, nat_tests, p.0) in
      let below : a < ARENA + ARENA_BYTES = grind (arith, nat_tests, p.1) in
      let from : ARENA ≤ a = grind (arith, nat_tests, high) in
      record {
        word = arena_word a;
        at = omega (arith, even, from);
        within = omega (arith, below, from);
        flushed_is = from_state (c.arena.states (arena_word a)) (c.arena.words (arena_word a)) refl fetches;
      }

  by_region : (low : Bool) → nat_lt a ARENA ≡ low →
      found (if low then from_text (text_word c a) else word_in_arena c a) ≡ Is i → IsTextWord image a ⊎ IsFlushed c a
  by_region true e fetches = inl (in_text (a % 4 == 0) (c.text (a / 4)) refl refl fetches)
  by_region false e fetches = inr (in_arena (is_arena_word a) refl e fetches)

  -- so what is fetched at or behind the arena's first word is such a one
  pub flushed_there : nat_lt a ARENA ≡ false → fetch c a ≡ Is i → IsFlushed c a
  flushed_there high fetches =
      in_arena (is_arena_word a) refl high
      (sym (ap (λ (low : Bool). found (if low then from_text (text_word c a) else word_in_arena c a)) high) ∙ fetches)

  fetched_from : fetch c a ≡ Is i → IsTextWord image a ⊎ IsFlushed c a
  fetched_from fetches = by_region (nat_lt a ARENA) refl fetches

pub run_is : (n : ℕ) (w : World) → run n w ≡ iterate step n w
unfolding run
run_is n w = refl

-- ---- the law

module _ (image : ImageParts) (input : Input) (row : List Choice) (n : ℕ)
    (fine : IsUnspoiled n (begins image input row))
    (faultless : (k : MachineKind) (a : ℕ) → (run n (begins image input row)).ending ≢ Some (Fault k a)) where
  abbrev w0 : World
  w0 = begins image input row

  -- an ending stays
  ends_there : (i : ℕ) (e : End) → i ≤ n → (iterate step i w0).ending ≡ Some e → (run n w0).ending ≡ Some e
  ends_there i e le is =
      let same : i + (n - i) ≡ n = omega (arith, le) in
      let there : (run i w0).ending ≡ Some e = ap (λ (v : World). v.ending) (run_is i w0) ∙ is in
      ap (λ (m : ℕ). (run m w0).ending) (sym same)
      ∙ ap (λ (v : World). v.ending) (ends_once i (n - i) w0 e there) ∙ there

  -- so no fetch is refused
  no_refusal : (i : ℕ) (k : MachineKind) → i < n → (iterate step i w0).ending ≡ None →
      fetch (iterate step i w0).state.code (iterate step i w0).state.pc ≡ Refused k → ⊥
  no_refusal i k l on refused =
      let w = iterate step i w0 in
      let a = w.state.pc in
      let stops : step w ≡ steps.ended (Fault k a) w.state =
      ap (λ o. if is_some o then w else execute (fetch w.state.code w.state.pc) w.state) on ∙
      ap (λ f. execute f w.state) refused in
      let last : iterate step (suc i) w0 ≡ steps.ended (Fault k a) w.state = last_step i w0 ∙ stops in
      faultless k a (ends_there (suc i) (Fault k a) l (ap (λ (z : World). z.ending) last))

  clear : (k : ℕ) → (arena_of w0).states k ≡ Unwritten
  clear k = refl

  clean_word : (i : ℕ) → i < n → (f : IsFlushed (iterate step i w0).state.code (iterate step i w0).state.pc) →
      IsCleanWord image input row i f.word
  clean_word i l f =
      let s = written_since w0 clear i f.word (λ j m. fine j (omega (arith, l, m))) (ap is_written f.flushed_is) in
      record {
        at = ap (λ (v : World). v.state.pc) (run_is i w0) ∙ f.at;
        is_word = f.within;
        flushed = ap (λ (v : World). v.state.code.arena.states f.word) (run_is i w0) ∙ f.flushed_is;
        since = s.since;
        before = s.before;
        written = ap (λ (v : World). v.state.code.arena.states f.word) (run_is s.since w0) ∙ s.written;
        kept = λ j low high e. false≢true (sym (ap is_written (sym (ap (λ (v : World).
            v.state.code.arena.states f.word) (run_is j w0)) ∙ e)) ∙ s.kept j low high);
      }

  clean_at : (i : ℕ) → i < n → (iterate step i w0).ending ≡ None
      → IsTextWord image (iterate step i w0).state.pc ⊎ ((k : ℕ) × IsCleanWord image input row i k)
  clean_at i l on = by (fetch (iterate step i w0).state.code (iterate step i w0).state.pc) refl
    where
      found_there : IsTextWord image (iterate step i w0).state.pc
          ⊎ IsFlushed (iterate step i w0).state.code (iterate step i w0).state.pc
          → IsTextWord image (iterate step i w0).state.pc ⊎ ((k : ℕ) × IsCleanWord image input row i k)
      found_there (inl t) = inl t
      found_there (inr f) = inr (f.word, clean_word i l f)

      by : (f : Fetched) → fetch (iterate step i w0).state.code (iterate step i w0).state.pc ≡ f
          → IsTextWord image (iterate step i w0).state.pc ⊎ ((k : ℕ) × IsCleanWord image input row i k)
      by (Refused k) is = absurd (no_refusal i k l on is)
      by (Is x) is = found_there (fetched_from image (iterate step i w0).state.code (text_stays i w0)
          (iterate step i w0).state.pc x is)

pub unspoiled_clean : UnspoiledRunsAreClean
unspoiled_clean image input row n fine faultless i l on =
    let w0 = begins image input row in
    subst (λ (v : World). IsTextWord image v.state.pc ⊎ ((k : ℕ) × IsCleanWord image input row i k))
    (sym (run_is i w0))
    (clean_at image input row n fine faultless i l (ap (λ (v : World). v.ending) (sym (run_is i w0)) ∙ on))
