-- The saves and restores of a function, and single loads and stores in its frame.
use Rattle.std.proofs.Common.{◌≡◌, ◌≢◌, ◌⊎◌, inl, inr, ℕ, suc, ◌+◌, ◌*◌, ◌/◌, ◌%◌, ◌<◌, ◌≤◌, true, false, List, [], ◌∷◌}
use Rattle.std.proofs.Common.{◌++◌, refl, sym, ◌∙◌, subst, arith, nat_eq, nat_lt, nat_le}
use Rattle.std.proofs.lemmas.Bool.{ne_eqb, cases_Bool}
use Rattle.std.proofs.lemmas.Bool.Decides.{nat_tests}
use Rattle.word32.specs.declared.map.TheConstants.{STACK}
use Rattle.word32.specs.Space.{update}
use Rattle.mips_encoder.specs.declared.instruction.Instr.{Instr}
use Rattle.mips_model.specs.State.{Data}
use Rattle.mips_model.specs.Effects.{touches}
use Rattle.mips_model.specs.Steps.{load_hazard}
use Rattle.icode_templates.specs.Layout.{place_register}
use Rattle.mips_assembly.specs.Assembly.{lw, sw}
use Rattle.icode_templates.specs.Frames.{save_offset, saves, restores}
use Rattle.icode_saves.specs.Laws.{AllPlaces, Rising}
use Rattle.icode_templates_proof.specs.Spots.{pointer, frame_word, Framed, SameWorld}
use Rattle.icode_templates_proof.proofs.Memory.{update_other}
use Rattle.icode_templates_proof.proofs.Leaves.{Leaves}
use Rattle.icode_templates_proof.proofs.Keeping.{with_registers, same_world}
use Rattle.icode_expand_proof.proofs.Places.{place_bounds, place_differs}

-- the word at an offset is another one's
abbrev pub word_put : ℕ → ℕ → Data → Data
word_put offset x d = record d { stack = update ((pointer d + offset) / 4) x d.stack }

pub store_leaves : (r offset bytes : ℕ) (d : Data) → nat_eq r 0 ≡ false → Framed (pointer d) bytes → offset < 32768
    → offset + 4 ≤ bytes → offset % 4 ≡ 0
    → Leaves (sw r offset 29 ∷ []) 0 d 0 (word_put offset (d.registers r) d)
store_leaves r offset bytes d n0 f near room even rest =
    let o : nat_lt offset 32768 ≡ true = grind (arith, nat_tests) in
    let m : (d.registers 29 + offset) % 4294967296 ≡ d.registers 29 + offset = omega (arith, f.to, room) in
    let t1 : nat_le STACK (d.registers 29 + offset) ≡ true = grind (arith, nat_tests, f.from) in
    let t2 : nat_lt (d.registers 29 + offset) 2147483648 ≡ true = grind (arith, nat_tests, f.to, room) in
    let z : nat_eq ((d.registers 29 + offset) % 4) 0 ≡ true = grind (arith, nat_tests, f.even, even) in
    rw (o, m, t1, t2, z, n0)

pub fetch_leaves : (t l offset bytes : ℕ) (d : Data) → nat_eq t 0 ≡ false → load_hazard l (lw t offset 29) ≡ false
    → Framed (pointer d) bytes → offset < 32768 → offset + 4 ≤ bytes → offset % 4 ≡ 0
    → Leaves (lw t offset 29 ∷ []) l d t (with_registers (update t (frame_word d offset) d.registers) d)
fetch_leaves t l offset bytes d n0 hz f near room even rest =
    let o : nat_lt offset 32768 ≡ true = grind (arith, nat_tests) in
    let m : (d.registers 29 + offset) % 4294967296 ≡ d.registers 29 + offset = omega (arith, f.to, room) in
    let t1 : nat_le STACK (d.registers 29 + offset) ≡ true = grind (arith, nat_tests, f.from) in
    let t2 : nat_lt (d.registers 29 + offset) 2147483648 ≡ true = grind (arith, nat_tests, f.to, room) in
    let z : nat_eq ((d.registers 29 + offset) % 4) 0 ≡ true = grind (arith, nat_tests, f.even, even) in
    rw (hz, o, m, t1, t2, z, n0)

-- the saves
abbrev pub save_one : ℕ → Data → Data
save_one p d = word_put (save_offset p) (d.registers (place_register p)) d

abbrev pub saved_all : List ℕ → Data → Data
saved_all [] d = d
saved_all (p ∷ ps) d = saved_all ps (save_one p d)

pub saves_leave : (ps : List ℕ) (bytes : ℕ) (d : Data) → AllPlaces ps → Framed (pointer d) bytes → 128 ≤ bytes
    → Leaves (saves ps) 0 d 0 (saved_all ps d)
saves_leave [] bytes d all f big rest = refl
saves_leave (p ∷ ps) bytes d all f big rest =
    let b = place_bounds p all.0 in
    let n0 : nat_eq (place_register p) 0 ≡ false = ne_eqb (place_register p) 0 (omega (arith, b.0)) in
    store_leaves (place_register p) (save_offset p) bytes d n0 f (omega (arith, all.0)) (omega (arith, all.0, big))
    (omega arith) (saves ps ++ rest)
    ∙ saves_leave ps bytes (save_one p d) all.1 f big rest

-- they keep the registers, and the words above the saved ones
pub saves_registers : (ps : List ℕ) (d : Data) → (saved_all ps d).registers ≡ d.registers
saves_registers [] d = refl
saves_registers (p ∷ ps) d = saves_registers ps (save_one p d)

pub saves_world : (ps : List ℕ) (d : Data) → SameWorld d (saved_all ps d)
saves_world [] d = same_world d
saves_world (p ∷ ps) d =
    let w = saves_world ps (save_one p d) in
    record {
      objects = w.objects;
      closures = w.closures;
      spec_rows = w.spec_rows;
      cells = w.cells;
      emit_stack = w.emit_stack;
      table = w.table;
      outside = w.outside;
    }

pub saves_above : (ps : List ℕ) (d : Data) (n : ℕ) → AllPlaces ps → (pointer d + 80) / 4 ≤ n → (saved_all ps d).stack n
    ≡ d.stack n
saves_above [] d n all h = refl
saves_above (p ∷ ps) d n all h =
    let ne : n ≢ (pointer d + (32 + 4 * p)) / 4 = omega (arith, h, all.0) in
    saves_above ps (save_one p d) n all.1 h ∙ update_other ((pointer d + (32 + 4 * p)) / 4)
    (d.registers (place_register p)) d.stack n ne

-- the restores
abbrev pub restore_one : ℕ → Data → Data
restore_one p d = with_registers (update (place_register p) (frame_word d (save_offset p)) d.registers) d

abbrev pub restored : List ℕ → Data → Data
restored [] d = d
restored (p ∷ ps) d = restored ps (restore_one p d)

pub untouched : (l : ℕ) (i : Instr) → touches i l ≡ false → load_hazard l i ≡ false
untouched l i h = elim (cases_Bool (nat_eq l 0)) [
  | inl t ↦ rw t refl
  | inr f ↦ rw f h
]

pub record Restores (ps : List ℕ) (l : ℕ) (d : Data) : Type 0 where
  pub loaded : ℕ
  pub low : loaded < 24
  pub leaves : Leaves (restores ps) l d loaded (restored ps d)

pub restores_leave : (ps : List ℕ) (n l bytes : ℕ) (d : Data) → AllPlaces ps → Rising n ps
    → ((p : ℕ) → n ≤ p → p < 12 → place_register p ≢ l) → l < 24 → Framed (pointer d) bytes → 128 ≤ bytes
    → Restores ps l d
restores_leave [] n l bytes d all rising free low f big = record { loaded = l; low = low; leaves = λ rest. refl }
restores_leave (p ∷ ps) n l bytes d all rising free low f big =
    let b = place_bounds p all.0 in
    let n0 : nat_eq (place_register p) 0 ≡ false = ne_eqb (place_register p) 0 (omega (arith, b.0)) in
    let n1 : nat_eq (place_register p) l ≡ false = ne_eqb (place_register p) l (free p rising.0 all.0) in
    let n2 : nat_eq 29 l ≡ false = ne_eqb 29 l (omega (arith, low)) in
    let t : touches (lw (place_register p) (save_offset p) 29) l ≡ false = rw (n1, n2) refl in
    let hz = untouched l (lw (place_register p) (save_offset p) 29) t in
    let same : pointer (restore_one p d) ≡ pointer d = update_other (place_register p) (frame_word d (save_offset p))
    d.registers 29 (omega (arith, b.1)) in
    let f' = subst (λ k. Framed k bytes) (sym same) f in
    let more = restores_leave ps (suc p) (place_register p) bytes (restore_one p d) all.1 rising.1
    (λ q ge less e. place_differs q p less all.0 (omega (arith, ge)) e) (omega (arith, b.1)) f' big in
    record {
      loaded = more.loaded;
      low = more.low;
      leaves = λ rest. fetch_leaves (place_register p) l (save_offset p) bytes d n0 hz f (omega (arith, all.0))
          (omega (arith, all.0, big)) (omega arith) (restores ps ++ rest) ∙ more.leaves rest;
    }

-- they keep all but the registers of places
pub restores_other : (ps : List ℕ) (d : Data) (r : ℕ) → AllPlaces ps → (r < 8) ⊎ (24 ≤ r) → (restored ps d).registers r
    ≡ d.registers r
restores_other [] d r all h = refl
restores_other (p ∷ ps) d r all h =
    let b = place_bounds p all.0 in
    let ne : r ≢ place_register p = apart h b.0 b.1 in
    restores_other ps (restore_one p d) r all.1 h ∙ update_other (place_register p) (frame_word d (save_offset p))
    d.registers r ne
  where
    apart : {q : ℕ} → (r < 8) ⊎ (24 ≤ r) → 8 ≤ q → q < 24 → r ≢ q
    apart (inl x) lo hi e = omega (arith, x, lo, e)
    apart (inr x) lo hi e = omega (arith, x, hi, e)

pub restores_stack : (ps : List ℕ) (d : Data) → (restored ps d).stack ≡ d.stack
restores_stack [] d = refl
restores_stack (p ∷ ps) d = restores_stack ps (restore_one p d)

pub restores_world : (ps : List ℕ) (d : Data) → SameWorld d (restored ps d)
restores_world [] d = same_world d
restores_world (p ∷ ps) d =
    let w = restores_world ps (restore_one p d) in
    record {
      objects = w.objects;
      closures = w.closures;
      spec_rows = w.spec_rows;
      cells = w.cells;
      emit_stack = w.emit_stack;
      table = w.table;
      outside = w.outside;
    }
