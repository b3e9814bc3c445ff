-- Loads and stores of what the memory doesn't have: the arena, the function table, and no region.
use Rattle.std.proofs.Common.{◌≡◌, ℕ, ◌+◌, ◌-◌, ◌/◌, ◌<◌, ◌≤◌, Bool, true, false, Option, Some, None, Result, Ok, Err}
use Rattle.std.proofs.Common.{refl, sym, ap, ◌∙◌, arith, subst, if◌then◌else◌}
use Rattle.std.proofs.lemmas.Bool.Decides.{nat_tests}
use Rattle.word32.specs.Parts.{is_aligned, loaded_part}
use Rattle.word32.specs.declared.width.Width.{Width}
use Rattle.word32.specs.declared.map.TheConstants.{STACK, STACK_BYTES, OBJECTS, OBJECT_BYTES, CELLS, CELL_BYTES}
use Rattle.word32.specs.declared.map.TheConstants.{CLOSURES, CLOSURE_BYTES, SPEC_ROWS, SPEC_ROW_BYTES, EMIT_STACK}
use Rattle.word32.specs.declared.map.TheConstants.{EMIT_STACK_BYTES, TEXT, TEXT_BYTES, ARENA, ARENA_BYTES}
use Rattle.word32.specs.declared.map.TheConstants.{FUNCTION_TABLE, FUNCTION_TABLE_BYTES}
use Rattle.host_edge.specs.declared.ending.Ending.TheVariants.{Trap}
use Rattle.host_edge.specs.declared.ending.TrapKind.TheVariants as trap
use Rattle.flat_memory.specs.Map.{Region, InText, InArena, InObjects, InClosures, InSpecRows, InCells, InFunctionTable}
use Rattle.flat_memory.specs.Map.{InEmitStack, InStack, Nowhere, is_within, region_of}
use Rattle.flat_memory.specs.Spaces as flat
use Rattle.flat_memory.specs.Spaces.{Spaces}
use Rattle.flat_memory.specs.declared.access.Access.{Access}
use Rattle.flat_memory.specs.declared.access.Access.TheVariants.{Outside, Misaligned, ReadOnly}
use Rattle.flat_memory.proofs.RegionLaws as regions
use Rattle.history.specs.Events.{Ended}
use Rattle.mips_model.specs.State.{State, World, set_register}
use Rattle.mips_model.specs.Accesses.{Effect, Changes, Loads, Ends, arena_word, load_in, store_in, stored_in_arena}
use Rattle.mips_model.specs.Accesses.{table_word_at, takes}
use Rattle.mips_model.specs.Steps.{apply, ended, reads, stores_text}
use Rattle.code_arena.specs.Arena.{Arena}
use Rattle.code_arena.specs.Kept.{arena_of}
use Rattle.mips_core.specs.declared.halt.Halt.{Halt}
use Rattle.mips_core.specs.Core.{CoreKept, at, data_of, ending_from, loading, moved, state_of, storing, took}
use Rattle.mips_core.specs.Core.{world_of}

-- the region of an address, from the tests of the code
pub in_arena : (x : ℕ) {b : Bool} → b ≡ is_within ARENA ARENA_BYTES x → b ≡ true → region_of x ≡ InArena
in_arena x is holds =
    let within : is_within ARENA ARENA_BYTES x ≡ true = sym is ∙ holds in
    let low : ARENA ≤ x = grind (arith, nat_tests, within) in
    let high : x < ARENA + ARENA_BYTES = grind (arith, nat_tests, within) in
    regions.in_arena x low high

pub in_table : (x : ℕ) {b : Bool} → b ≡ is_within FUNCTION_TABLE FUNCTION_TABLE_BYTES x → b ≡ true →
    region_of x ≡ InFunctionTable
in_table x is holds =
    let within : is_within FUNCTION_TABLE FUNCTION_TABLE_BYTES x ≡ true = sym is ∙ holds in
    let low : FUNCTION_TABLE ≤ x = grind (arith, nat_tests, within) in
    let high : x < FUNCTION_TABLE + FUNCTION_TABLE_BYTES = grind (arith, nat_tests, within) in
    regions.in_function_table x low high

-- the regions but for these two
abbrev before : (a b c d e f g : Bool) → Region → Region
before a b c d e f g r =
    if a then InStack
    else (if b then InObjects
    else (if c then InCells
    else (if d then InClosures
    else (if e then InSpecRows
    else (if f then InEmitStack
    else (if g then InText else r))))))

abbrev Past : Region → Type 0
Past InArena = ⊥
Past InFunctionTable = ⊥
Past g = Unit {0}

past_all : (a b c d e f g : Bool) → Past (before a b c d e f g Nowhere)
past_all true b c d e f g = tt
past_all false true c d e f g = tt
past_all false false true d e f g = tt
past_all false false false true e f g = tt
past_all false false false false true f g = tt
past_all false false false false false true g = tt
past_all false false false false false false true = tt
past_all false false false false false false false = tt

past : (x : ℕ) {b c : Bool} → b ≡ is_within ARENA ARENA_BYTES x → b ≡ false →
    c ≡ is_within FUNCTION_TABLE FUNCTION_TABLE_BYTES x → c ≡ false → Past (region_of x)
past x is fails so none =
    let P : Bool → Bool → Type 0 = λ a t. Past (
    before (is_within STACK STACK_BYTES x) (is_within OBJECTS OBJECT_BYTES x)
    (is_within CELLS CELL_BYTES x) (is_within CLOSURES CLOSURE_BYTES x) (is_within SPEC_ROWS SPEC_ROW_BYTES x)
    (is_within EMIT_STACK EMIT_STACK_BYTES x) (is_within TEXT TEXT_BYTES x)
    (if a then InArena else (if t then InFunctionTable else Nowhere))) in
    subst (λ (a : Bool). P a (is_within FUNCTION_TABLE FUNCTION_TABLE_BYTES x)) (sym fails ∙ is)
    (subst (P false) (sym none ∙ so) (past_all _ _ _ _ _ _ _))

never_loaded : {A : Type 0} (b : Bool) (v : ℕ) → (if b then Ok v else Err Misaligned) ≡ Err Outside → A
never_loaded true v is = absurd cc
never_loaded false v is = absurd cc

never_stored : {A : Type 0} (b : Bool) (m : Spaces) → (if b then Ok m else Err Misaligned) ≡ Err Outside → A
never_stored true m is = absurd cc
never_stored false m is = absurd cc

no_text : (o : Option ℕ) (r x : ℕ) (width : Width) (s : State) → flat.loaded o x width ≡ Err Outside →
    ended (Ended (Trap trap.Range)) s ≡ reads o r x width (s.recent - 1) s
no_text None r x width s is = refl
no_text (Some word) r x width s is = never_loaded (is_aligned x width) (loaded_part word x width) is

abbrev text_answered : Bool → Result Spaces Access
text_answered b = if b then Err ReadOnly else Err Misaligned

never_refused : {A : Type 0} (b : Bool) → text_answered b ≡ Err Outside → A
never_refused true is = absurd cc
never_refused false is = absurd cc

no_text_stored : (o : Option ℕ) (x : ℕ) (width : Width) (s : State) → flat.refused o x width ≡ Err Outside →
    ended (Ended (Trap trap.Range)) s ≡ stores_text o x width s
no_text_stored None x width s is = refl
no_text_stored (Some word) x width s is = never_refused (is_aligned x width) is

loads_past : (g : Region) (m : Spaces) (r x : ℕ) (width : Width) (s : State) → Past g →
    flat.loaded (flat.word_in g m x) x width ≡ Err Outside → s.code.text ≡ m.text →
    ended (Ended (Trap trap.Range)) s ≡ apply (load_in g r x width s.d) (s.recent - 1) s
loads_past InText m r x width s p is same =
    no_text (s.code.text (x / 4)) r x width s (ap (λ (t : ℕ → Option ℕ). flat.loaded (t (x / 4)) x width) same ∙ is)
loads_past InArena m r x width s p is same = absurd p
loads_past InObjects m r x width s p is same = never_loaded (is_aligned x width) _ is
loads_past InClosures m r x width s p is same = never_loaded (is_aligned x width) _ is
loads_past InSpecRows m r x width s p is same = never_loaded (is_aligned x width) _ is
loads_past InCells m r x width s p is same = never_loaded (is_aligned x width) _ is
loads_past InFunctionTable m r x width s p is same = absurd p
loads_past InEmitStack m r x width s p is same = never_loaded (is_aligned x width) _ is
loads_past InStack m r x width s p is same = never_loaded (is_aligned x width) _ is
loads_past Nowhere m r x width s p is same = refl

stores_past : (g : Region) (m : Spaces) (x : ℕ) (width : Width) (w : ℕ) (s : State) → Past g →
    flat.stored_in g m x width w ≡ Err Outside → s.code.text ≡ m.text →
    ended (Ended (Trap trap.Range)) s ≡ apply (store_in g x width w s.d) (s.recent - 1) s
stores_past InText m x width w s p is same =
    no_text_stored (s.code.text (x / 4)) x width s
    (ap (λ (t : ℕ → Option ℕ). flat.refused (t (x / 4)) x width) same ∙ is)
stores_past InArena m x width w s p is same = absurd p
stores_past InObjects m x width w s p is same = never_stored (is_aligned x width) _ is
stores_past InClosures m x width w s p is same = never_stored (is_aligned x width) _ is
stores_past InSpecRows m x width w s p is same = never_stored (is_aligned x width) _ is
stores_past InCells m x width w s p is same = never_stored (is_aligned x width) _ is
stores_past InFunctionTable m x width w s p is same = absurd p
stores_past InEmitStack m x width w s p is same = never_stored (is_aligned x width) _ is
stores_past InStack m x width w s p is same = never_stored (is_aligned x width) _ is
stores_past Nowhere m x width w s p is same = refl

-- neither in the arena nor in the table
pub loads_nowhere : (m : Spaces) (r x : ℕ) (width : Width) (s : State) {b c : Bool} →
    b ≡ is_within ARENA ARENA_BYTES x → b ≡ false → c ≡ is_within FUNCTION_TABLE FUNCTION_TABLE_BYTES x → c ≡ false →
    flat.load m x width ≡ Err Outside → s.code.text ≡ m.text →
    ended (Ended (Trap trap.Range)) s ≡ loading r x width s
loads_nowhere m r x width s is fails so none outside same =
    loads_past (region_of x) m r x width s (past x is fails so none) outside same

pub stores_nowhere : (m : Spaces) (x : ℕ) (width : Width) (w : ℕ) (s : State) {b c : Bool} →
    b ≡ is_within ARENA ARENA_BYTES x → b ≡ false → c ≡ is_within FUNCTION_TABLE FUNCTION_TABLE_BYTES x → c ≡ false →
    flat.store m x width w ≡ Err Outside → s.code.text ≡ m.text →
    ended (Ended (Trap trap.Range)) s ≡ storing x width w s
stores_nowhere m x width w s is fails so none outside same =
    stores_past (region_of x) m x width w s (past x is fails so none) outside same

-- a word that holds what is loaded: of the arena, or of the table
pub loads_arena : (r x : ℕ) (width : Width) (s : State) {word : ℕ} → region_of x ≡ InArena →
    word ≡ s.code.arena.words (arena_word x) →
    reads (Some word) r x width (s.recent - 1) s ≡ loading r x width s
loads_arena r x width s here is =
    ap (λ (v : ℕ). reads (Some v) r x width (s.recent - 1) s) is
    ∙ ap (λ (g : Region). apply (load_in g r x width s.d) (s.recent - 1) s) (sym here)

pub loads_table : (r x : ℕ) (width : Width) (s : State) {word : ℕ} → region_of x ≡ InFunctionTable →
    word ≡ table_word_at s.d.table x → reads (Some word) r x width (s.recent - 1) s ≡ loading r x width s
loads_table r x width s {word} here is =
    by (is_aligned x width) word
    ∙ ap (λ (v : ℕ). apply (takes r x width v s.d) (s.recent - 1) s) is
    ∙ ap (λ (g : Region). apply (load_in g r x width s.d) (s.recent - 1) s) (sym here)
  where
    by : (b : Bool) (v : ℕ) →
        (if b then took r (loaded_part v x width) s else ended (Ended (Trap trap.Misaligned)) s)
        ≡ apply (if b then Loads r (set_register r (loaded_part v x width) s.d) else Ends (Trap trap.Misaligned))
        (s.recent - 1) s
    by true v = refl
    by false v = refl

pub takes_part : (r x : ℕ) (width : Width) (word : ℕ) (s : State) {b : Bool} {v : ℕ} → b ≡ is_aligned x width →
    b ≡ true → v ≡ loaded_part word x width → took r v s ≡ reads (Some word) r x width (s.recent - 1) s
takes_part r x width word s is holds so =
    ap (λ (u : ℕ). took r u s) so
    ∙ ap (λ (b : Bool). if b then took r (loaded_part word x width) s else ended (Ended (Trap trap.Misaligned)) s)
    (sym holds ∙ is)

pub takes_none : (r x : ℕ) (width : Width) (word : ℕ) (s : State) {b : Bool} → b ≡ is_aligned x width →
    b ≡ false → ended (Ended (Trap trap.Misaligned)) s ≡ reads (Some word) r x width (s.recent - 1) s
takes_none r x width word s is fails =
    ap (λ (b : Bool). if b then took r (loaded_part word x width) s else ended (Ended (Trap trap.Misaligned)) s)
    (sym fails ∙ is)

-- a store by its region and the alignment
abbrev aligned_to : Bool → Effect → Effect
aligned_to b e = if b then e else Ends (Trap trap.Misaligned)

pub stores_in_arena : (x : ℕ) (width : Width) (w : ℕ) (s : State) {b : Bool} → region_of x ≡ InArena →
    b ≡ is_aligned x width → apply (aligned_to b (Changes (stored_in_arena x width w) s.d)) (s.recent - 1) s
    ≡ storing x width w s
stores_in_arena x width w s here is =
    ap (λ (b : Bool). apply (aligned_to b (Changes (stored_in_arena x width w) s.d)) (s.recent - 1) s) is
    ∙ ap (λ (g : Region). apply (store_in g x width w s.d) (s.recent - 1) s) (sym here)

pub stores_in_table : (x : ℕ) (width : Width) (w : ℕ) (s : State) {b : Bool} → region_of x ≡ InFunctionTable →
    b ≡ is_aligned x width → apply (aligned_to b (Ends (Trap trap.Range))) (s.recent - 1) s ≡ storing x width w s
stores_in_table x width w s here is =
    ap (λ (b : Bool). apply (aligned_to b (Ends (Trap trap.Range))) (s.recent - 1) s) is
    ∙ ap (λ (g : Region). apply (store_in g x width w s.d) (s.recent - 1) s) (sym here)

-- the world behind a store to the arena
abbrev with_arena : Arena → ℕ → CoreKept → World
with_arena a pc k =
    let s = state_of (at pc k) in
    moved (s.next + 4) false (
    record (world_of (at pc k)) { state = record s { code = record s.code { arena = a } } })

pub stores_word : {k inside : CoreKept} {world : World} {a : Arena} (pc x : ℕ) (width : Width) (w : ℕ) →
    world ≡ with_arena a pc inside → a ≡ stored_in_arena x width w (arena_of inside.arena) → inside ≡ k →
    k.stopped ≡ None → world ≡
    apply (aligned_to true (Changes (stored_in_arena x width w) (data_of k))) (k.recent - 1) (state_of (at pc k))
stores_word {k} {inside} pc x width w is stored same on =
    is
    ∙ ap (λ (b : Arena). with_arena b pc inside) stored
    ∙ ap (λ (n : CoreKept). with_arena (stored_in_arena x width w (arena_of n.arena)) pc n) same
    ∙ ap (λ (o : Option Halt). record (with_arena (stored_in_arena x width w (arena_of k.arena)) pc k)
    { ending = ending_from o }) on
