-- What the memory answers of an access, and what the instruction does.
use Rattle.std.proofs.Common.{◌≡◌, ◌≢◌, ℕ, ◌+◌, ◌-◌, ◌/◌, Bool, true, false, Option, Some, None, Result, Ok, Err}
use Rattle.std.proofs.Common.{refl, sym, ap, ◌∙◌, if◌then◌else◌}
use Rattle.word32.specs.Parts.{is_aligned, loaded_part}
use Rattle.word32.specs.declared.width.Width.{Width}
use Rattle.host_edge.specs.declared.ending.Ending.TheVariants.{Trap}
use Rattle.host_edge.specs.declared.ending.TrapKind.TheVariants as trap
use Rattle.flat_memory.specs.Map.{Region, InText, InArena, InObjects, InClosures, InSpecRows, InCells, InFunctionTable}
use Rattle.flat_memory.specs.Map.{InEmitStack, InStack, Nowhere, region_of}
use Rattle.flat_memory.specs.Regions.{Regions, spaces_of}
use Rattle.flat_memory.specs.Spaces as flat
use Rattle.flat_memory.specs.Spaces.{Spaces}
use Rattle.flat_memory.specs.declared.access.Access.{Access}
use Rattle.flat_memory.specs.declared.access.Access.TheVariants.{Outside, Misaligned, ReadOnly}
use Rattle.history.specs.Events.{Ended}
use Rattle.mips_model.specs.State.{Data, State, World, set_register}
use Rattle.mips_model.specs.Accesses.{Effect, Plain, Loads, Ends, load_in, store_in, takes}
use Rattle.mips_model.specs.Steps.{apply, ended, onward, reads, stores_text}
use Rattle.mips_core.specs.declared.halt.Halt.{Halt}
use Rattle.mips_core.specs.Core.{CoreKept, at, data_of, ending_from, loading, moved, state_of, storing, took, world_of}

-- what the memory answers by the alignment
abbrev answered : {A : Type 0} → Bool → A → Result A Access
answered b x = if b then Ok x else Err Misaligned

abbrev text_answered : Bool → Result Spaces Access
text_answered b = if b then Err ReadOnly else Err Misaligned

fits : {A B : Type 0} (b : Bool) (x : A) {y : A} (f : A → B) (e : B) → answered b x ≡ Ok y →
    (if b then f x else e) ≡ f y
fits true x {y} f e is = let same : x ≡ y = cc in ap f same
fits false x f e is = absurd cc

misfits : {A B : Type 0} (b : Bool) (x : A) {why : Access} (f e : B) → answered b x ≡ Err why →
    (if b then f else e) ≡ e
misfits true x f e is = absurd cc
misfits false x f e is = refl

-- a word of the text, or none
text_loads : (o : Option ℕ) (r x : ℕ) (width : Width) (v : ℕ) (s : State) → flat.loaded o x width ≡ Ok v →
    reads o r x width (s.recent - 1) s ≡ took r v s
text_loads None r x width v s is = absurd cc
text_loads (Some word) r x width v s is =
    fits (is_aligned x width) (loaded_part word x width) (λ u. took r u s) (ended (Ended (Trap trap.Misaligned)) s) is

text_refuses : (o : Option ℕ) (r x : ℕ) (width : Width) (why : Access) (s : State) →
    flat.loaded o x width ≡ Err why → why ≢ Outside →
    reads o r x width (s.recent - 1) s ≡ ended (Ended (Trap trap.Misaligned)) s
text_refuses None r x width why s is not = absurd (not cc)
text_refuses (Some word) r x width why s is not =
    misfits (is_aligned x width) (loaded_part word x width) (took r (loaded_part word x width) s)
    (ended (Ended (Trap trap.Misaligned)) s) is

word_loads : (word r x : ℕ) (width : Width) (v : ℕ) (s : State) → flat.loaded (Some word) x width ≡ Ok v →
    apply (takes r x width word s.d) (s.recent - 1) s ≡ took r v s
word_loads word r x width v s is =
    ap (λ (e : Effect). apply e (s.recent - 1) s)
    (fits (is_aligned x width) (loaded_part word x width) (λ u. Loads r (set_register r u s.d))
    (Ends (Trap trap.Misaligned)) is)

word_refuses : (word r x : ℕ) (width : Width) (why : Access) (s : State) → flat.loaded (Some word) x width ≡ Err why →
    apply (takes r x width word s.d) (s.recent - 1) s ≡ ended (Ended (Trap trap.Misaligned)) s
word_refuses word r x width why s is =
    ap (λ (e : Effect). apply e (s.recent - 1) s)
    (misfits (is_aligned x width) (loaded_part word x width) (Loads r (set_register r (loaded_part word x width) s.d))
    (Ends (Trap trap.Misaligned)) is)

-- a load, by the region of its address: where the memory answers, and where it refuses what lies in a region
loads_in : (g : Region) (k : CoreKept) (pc r x : ℕ) (width : Width) (v : ℕ) →
    flat.loaded (flat.word_in g (spaces_of k.memory) x) x width ≡ Ok v →
    took r v (state_of (at pc k)) ≡ apply (load_in g r x width (data_of k)) (k.recent - 1) (state_of (at pc k))
loads_in InText k pc r x width v is =
    sym (text_loads ((spaces_of k.memory).text (x / 4)) r x width v (state_of (at pc k)) is)
loads_in InArena k pc r x width v is = absurd cc
loads_in InObjects k pc r x width v is = sym (word_loads _ r x width v (state_of (at pc k)) is)
loads_in InClosures k pc r x width v is = sym (word_loads _ r x width v (state_of (at pc k)) is)
loads_in InSpecRows k pc r x width v is = sym (word_loads _ r x width v (state_of (at pc k)) is)
loads_in InCells k pc r x width v is = sym (word_loads _ r x width v (state_of (at pc k)) is)
loads_in InFunctionTable k pc r x width v is = absurd cc
loads_in InEmitStack k pc r x width v is = sym (word_loads _ r x width v (state_of (at pc k)) is)
loads_in InStack k pc r x width v is = sym (word_loads _ r x width v (state_of (at pc k)) is)
loads_in Nowhere k pc r x width v is = absurd cc

refuses_in : (g : Region) (k : CoreKept) (pc r x : ℕ) (width : Width) (why : Access) →
    flat.loaded (flat.word_in g (spaces_of k.memory) x) x width ≡ Err why → why ≢ Outside →
    ended (Ended (Trap trap.Misaligned)) (state_of (at pc k))
    ≡ apply (load_in g r x width (data_of k)) (k.recent - 1) (state_of (at pc k))
refuses_in InText k pc r x width why is not =
    sym (text_refuses ((spaces_of k.memory).text (x / 4)) r x width why (state_of (at pc k)) is not)
refuses_in InArena k pc r x width why is not = absurd (not cc)
refuses_in InObjects k pc r x width why is not = sym (word_refuses _ r x width why (state_of (at pc k)) is)
refuses_in InClosures k pc r x width why is not = sym (word_refuses _ r x width why (state_of (at pc k)) is)
refuses_in InSpecRows k pc r x width why is not = sym (word_refuses _ r x width why (state_of (at pc k)) is)
refuses_in InCells k pc r x width why is not = sym (word_refuses _ r x width why (state_of (at pc k)) is)
refuses_in InFunctionTable k pc r x width why is not = absurd (not cc)
refuses_in InEmitStack k pc r x width why is not = sym (word_refuses _ r x width why (state_of (at pc k)) is)
refuses_in InStack k pc r x width why is not = sym (word_refuses _ r x width why (state_of (at pc k)) is)
refuses_in Nowhere k pc r x width why is not = absurd (not cc)

pub loads : (k : CoreKept) (pc r x : ℕ) (width : Width) (v : ℕ) → flat.load (spaces_of k.memory) x width ≡ Ok v →
    took r v (state_of (at pc k)) ≡ loading r x width (state_of (at pc k))
loads k pc r x width v is = loads_in (region_of x) k pc r x width v is

pub load_refused : (k : CoreKept) (pc r x : ℕ) (width : Width) (why : Access) →
    flat.load (spaces_of k.memory) x width ≡ Err why → why ≢ Outside →
    ended (Ended (Trap trap.Misaligned)) (state_of (at pc k)) ≡ loading r x width (state_of (at pc k))
load_refused k pc r x width why is not = refuses_in (region_of x) k pc r x width why is not

-- the core after a store, and its world where the run goes on
abbrev pub holding : CoreKept → Regions → CoreKept
holding k m = record k { memory = m }

abbrev placed : Spaces → State → World
placed m s =
    onward (s.next + 4) 0 (s.recent - 1) false (record s.code { text = m.text })
    (record s.d {
      objects = m.objects;
      closures = m.closures;
      spec_rows = m.spec_rows;
      cells = m.cells;
      emit_stack = m.emit_stack;
      stack = m.stack;
    })
    s

-- where the run goes on behind a store
abbrev behind : ℕ → Regions → CoreKept → World
behind pc m k = moved ((at pc k).next + 4) false (world_of (at pc (holding k m)))

goes_on : (k : CoreKept) (pc : ℕ) (m : Regions) → k.stopped ≡ None →
    behind pc m k ≡ placed (spaces_of m) (state_of (at pc k))
goes_on k pc m on =
    ap (λ (o : Option Halt). record (placed (spaces_of m) (state_of (at pc k))) { ending = ending_from o }) on

stored_by : (b : Bool) (x : Spaces) {y : Spaces} (d : Data) (e : Effect) (s : State) → answered b x ≡ Ok y →
    apply (Plain d) (s.recent - 1) s ≡ placed x s →
    placed y s ≡ apply (if b then Plain d else e) (s.recent - 1) s
stored_by true x {y} d e s is so = let same : x ≡ y = cc in sym (so ∙ ap (λ (m : Spaces). placed m s) same)
stored_by false x d e s is so = absurd cc

text_kept : {A : Type 0} (o : Option ℕ) (x : ℕ) (width : Width) (m : Spaces) → flat.refused o x width ≡ Ok m → A
text_kept {A} None x width m is = absurd cc
text_kept {A} (Some word) x width m is = by (is_aligned x width) is
  where
    by : (b : Bool) → text_answered b ≡ Ok m → A
    by true is = absurd cc
    by false is = absurd cc

-- a store, by the region of its address: where the memory takes it, and where it refuses what lies in a region
stores_in : (g : Region) (k : CoreKept) (pc x : ℕ) (width : Width) (w : ℕ) (m : Spaces) →
    flat.stored_in g (spaces_of k.memory) x width w ≡ Ok m →
    placed m (state_of (at pc k)) ≡ apply (store_in g x width w (data_of k)) (k.recent - 1) (state_of (at pc k))
stores_in InText k pc x width w m is = text_kept ((spaces_of k.memory).text (x / 4)) x width m is
stores_in InArena k pc x width w m is = absurd cc
stores_in InObjects k pc x width w m is = stored_by (is_aligned x width) _ _ _ (state_of (at pc k)) is refl
stores_in InClosures k pc x width w m is = stored_by (is_aligned x width) _ _ _ (state_of (at pc k)) is refl
stores_in InSpecRows k pc x width w m is = stored_by (is_aligned x width) _ _ _ (state_of (at pc k)) is refl
stores_in InCells k pc x width w m is = stored_by (is_aligned x width) _ _ _ (state_of (at pc k)) is refl
stores_in InFunctionTable k pc x width w m is = absurd cc
stores_in InEmitStack k pc x width w m is = stored_by (is_aligned x width) _ _ _ (state_of (at pc k)) is refl
stores_in InStack k pc x width w m is = stored_by (is_aligned x width) _ _ _ (state_of (at pc k)) is refl
stores_in Nowhere k pc x width w m is = absurd cc

pub stores : {k now : CoreKept} (pc x : ℕ) (width : Width) (w : ℕ) (m : Regions) → k ≡ now →
    flat.store (spaces_of k.memory) x width w ≡ Ok (spaces_of m) → now.stopped ≡ None →
    behind pc m k ≡ storing x width w (state_of (at pc now))
stores {k} {now} pc x width w m same is on =
    ap (behind pc m) same ∙ goes_on now pc m on
    ∙ stores_in (region_of x) now pc x width w (spaces_of m)
    (ap (λ (c : CoreKept). flat.store (spaces_of c.memory) x width w) (sym same) ∙ is)

-- the text's words may be loaded and not stored
text_misaligned : (o : Option ℕ) (x : ℕ) (width : Width) (s : State) → flat.refused o x width ≡ Err Misaligned →
    ended (Ended (Trap trap.Misaligned)) s ≡ stores_text o x width s
text_misaligned None x width s is = absurd cc
text_misaligned (Some word) x width s is = by (is_aligned x width) is
  where
    by : (b : Bool) → text_answered b ≡ Err Misaligned →
        ended (Ended (Trap trap.Misaligned)) s ≡ ended (Ended (Trap (if b then trap.Range else trap.Misaligned))) s
    by true is = absurd cc
    by false is = refl

text_read_only : (o : Option ℕ) (x : ℕ) (width : Width) (s : State) → flat.refused o x width ≡ Err ReadOnly →
    ended (Ended (Trap trap.Range)) s ≡ stores_text o x width s
text_read_only None x width s is = absurd cc
text_read_only (Some word) x width s is = by (is_aligned x width) is
  where
    by : (b : Bool) → text_answered b ≡ Err ReadOnly →
        ended (Ended (Trap trap.Range)) s ≡ ended (Ended (Trap (if b then trap.Range else trap.Misaligned))) s
    by true is = refl
    by false is = absurd cc

word_misaligned : (b : Bool) (m : Spaces) (d : Data) (s : State) → answered b m ≡ Err Misaligned →
    ended (Ended (Trap trap.Misaligned)) s
    ≡ apply (if b then Plain d else Ends (Trap trap.Misaligned)) (s.recent - 1) s
word_misaligned true m d s is = absurd cc
word_misaligned false m d s is = refl

word_read_only : {A : Type 0} (b : Bool) (m : Spaces) → answered b m ≡ Err ReadOnly → A
word_read_only true m is = absurd cc
word_read_only false m is = absurd cc

misaligned_in : (g : Region) (k : CoreKept) (pc x : ℕ) (width : Width) (w : ℕ) →
    flat.stored_in g (spaces_of k.memory) x width w ≡ Err Misaligned →
    ended (Ended (Trap trap.Misaligned)) (state_of (at pc k))
    ≡ apply (store_in g x width w (data_of k)) (k.recent - 1) (state_of (at pc k))
misaligned_in InText k pc x width w is =
    text_misaligned ((spaces_of k.memory).text (x / 4)) x width (state_of (at pc k)) is
misaligned_in InArena k pc x width w is = absurd cc
misaligned_in InObjects k pc x width w is = word_misaligned (is_aligned x width) _ _ (state_of (at pc k)) is
misaligned_in InClosures k pc x width w is = word_misaligned (is_aligned x width) _ _ (state_of (at pc k)) is
misaligned_in InSpecRows k pc x width w is = word_misaligned (is_aligned x width) _ _ (state_of (at pc k)) is
misaligned_in InCells k pc x width w is = word_misaligned (is_aligned x width) _ _ (state_of (at pc k)) is
misaligned_in InFunctionTable k pc x width w is = absurd cc
misaligned_in InEmitStack k pc x width w is = word_misaligned (is_aligned x width) _ _ (state_of (at pc k)) is
misaligned_in InStack k pc x width w is = word_misaligned (is_aligned x width) _ _ (state_of (at pc k)) is
misaligned_in Nowhere k pc x width w is = absurd cc

read_only_in : (g : Region) (k : CoreKept) (pc x : ℕ) (width : Width) (w : ℕ) →
    flat.stored_in g (spaces_of k.memory) x width w ≡ Err ReadOnly →
    ended (Ended (Trap trap.Range)) (state_of (at pc k))
    ≡ apply (store_in g x width w (data_of k)) (k.recent - 1) (state_of (at pc k))
read_only_in InText k pc x width w is =
    text_read_only ((spaces_of k.memory).text (x / 4)) x width (state_of (at pc k)) is
read_only_in InArena k pc x width w is = absurd cc
read_only_in InObjects k pc x width w is = word_read_only (is_aligned x width) _ is
read_only_in InClosures k pc x width w is = word_read_only (is_aligned x width) _ is
read_only_in InSpecRows k pc x width w is = word_read_only (is_aligned x width) _ is
read_only_in InCells k pc x width w is = word_read_only (is_aligned x width) _ is
read_only_in InFunctionTable k pc x width w is = absurd cc
read_only_in InEmitStack k pc x width w is = word_read_only (is_aligned x width) _ is
read_only_in InStack k pc x width w is = word_read_only (is_aligned x width) _ is
read_only_in Nowhere k pc x width w is = absurd cc

-- where a store is refused the memory is as it was
pub unchanged : {k now : CoreKept} (m : Regions) → k ≡ now → m ≡ k.memory → holding k m ≡ now
unchanged {k} m same kept = ap (holding k) kept ∙ same

pub misaligned : {k now : CoreKept} {why : Access} (pc x : ℕ) (width : Width) (w : ℕ) (m : Regions) → k ≡ now →
    why ≡ Misaligned → (flat.store (spaces_of k.memory) x width w ≡ Err why) × (m ≡ k.memory) →
    ended (Ended (Trap trap.Misaligned)) (state_of (at pc (holding k m))) ≡ storing x width w (state_of (at pc now))
misaligned {k} {now} pc x width w m same is h =
    ap (λ (c : CoreKept). ended (Ended (Trap trap.Misaligned)) (state_of (at pc c))) (unchanged m same h.1)
    ∙ misaligned_in (region_of x) now pc x width w
    (ap (λ (c : CoreKept). flat.store (spaces_of c.memory) x width w) (sym same) ∙ h.0 ∙ ap Err is)

pub read_only : {k now : CoreKept} {why : Access} (pc x : ℕ) (width : Width) (w : ℕ) (m : Regions) → k ≡ now →
    why ≡ ReadOnly → (flat.store (spaces_of k.memory) x width w ≡ Err why) × (m ≡ k.memory) →
    ended (Ended (Trap trap.Range)) (state_of (at pc (holding k m))) ≡ storing x width w (state_of (at pc now))
read_only {k} {now} pc x width w m same is h =
    ap (λ (c : CoreKept). ended (Ended (Trap trap.Range)) (state_of (at pc c))) (unchanged m same h.1)
    ∙ read_only_in (region_of x) now pc x width w
    (ap (λ (c : CoreKept). flat.store (spaces_of c.memory) x width w) (sym same) ∙ h.0 ∙ ap Err is)

pub refused_outside : {k now : CoreKept} (pc x : ℕ) (width : Width) (w : ℕ) (m : Regions) → k ≡ now → m ≡ k.memory →
    storing x width w (state_of (at pc (holding k m))) ≡ storing x width w (state_of (at pc now))
refused_outside pc x width w m same kept =
    ap (λ (c : CoreKept). storing x width w (state_of (at pc c))) (unchanged m same kept)
