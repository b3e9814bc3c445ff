-- Spots that are written one after another: what stands elsewhere is kept, and so are the closures.
use Rattle.std.proofs.Common.{◌≡◌, ◌≢◌, inl, inr, ℕ, suc, ◌+◌, ◌/◌, ◌%◌, ◌<◌, ◌≤◌, Bool, true, false, List, [], ◌∷◌}
use Rattle.std.proofs.Common.{refl, sym, ap, ◌∙◌, subst, arith, nat_eq}
use Rattle.std.proofs.lemmas.Bool.{cases_Bool}
use mathlib.Core.Path.{fun_ext}
use Rattle.word32.specs.Space.{update}
use Rattle.word32.specs.declared.map.TheConstants.{SIZE_CELL, PARAMETERS_CELL, CLOSURE_CELL}
use Rattle.word32.specs.declared.map.TheConstants.{NEXT_CLOSURE_CELL, SPEC_COUNT_CELL}
use Rattle.mips_model.specs.State.{Data}
use Rattle.icode_templates.specs.Layout.{Spot, InRegister, InSlot, Layout}
use Rattle.icode_templates_proof.specs.Spots.{pointer, value, Framed, Usable, Apart, IsOther, register_of}
use Rattle.icode_templates_proof.specs.Spots.{SameWorld, KeepsSpots, PutsTo}
use Rattle.icode_templates_proof.proofs.Keeping.{world_on}
use Rattle.meaning_state.specs.Shared.{Shared}
use Rattle.meaning_state.specs.Rows.{closure_bytes}
use Rattle.icode_templates_proof.specs.Closures.{Head, Closure, word_at, with_word, with_head, row_place, row_count}
use Rattle.icode_templates_proof.specs.Closures.{next_closure}
use Rattle.icode_templates_proof.specs.Closures.{with_so_far, appended, HasClosures}
use Rattle.closures_proof.specs.Ops.{newest_closure, HasPlace, with_captured}
use Rattle.closures_proof.proofs.Kept.{closures_same}
use Rattle.closures_proof.specs.Relation.{Text, HasSpecifications}
use Rattle.closures_proof.specs.Ticks.{AreUsable, IsApart, AreApart, HaveWords, IsElsewhere, IsOtherWord, Wrote}

-- ---- spots

-- a usable spot has no register from 24 on
pub low_register : (bytes : ℕ) (s : Spot) → Usable bytes s → register_of s < 24
low_register bytes (InRegister r) u = u.1
low_register bytes (InSlot far offset) u = omega arith

even_slot : (bytes : ℕ) (far : Bool) (offset : ℕ) → Usable bytes (InSlot far offset) → offset % 4 ≡ 0
even_slot bytes false offset u = u.2
even_slot bytes true offset u = u.1

other_slot : (sp offset other : ℕ) → sp % 4 ≡ 0 → offset % 4 ≡ 0 → other % 4 ≡ 0 → offset ≢ other →
    (sp + other) / 4 ≢ (sp + offset) / 4
other_slot sp offset other e e1 e2 ne same = ne (omega (arith, e, e1, e2, same))

-- a register of the machine that no spot has
apart_register : (s : Spot) (q : ℕ) → 8 ≤ q → Apart s (InRegister q) → q ≢ register_of s
apart_register (InRegister r) q l a is = a (sym is)
apart_register (InSlot far offset) q l a is = omega (arith, l, is)

-- a word of the stack that no spot has
apart_word : (bytes : ℕ) (s : Spot) (sp : ℕ) (far : Bool) (offset : ℕ) → sp % 4 ≡ 0 → offset % 4 ≡ 0 → Usable bytes s
    → Apart s (InSlot far offset) → IsOther sp s ((sp + offset) / 4)
apart_word bytes (InRegister r) sp far offset e e' u a = tt
apart_word bytes (InSlot far' offset') sp far offset e e' u a =
    other_slot sp offset' offset e (even_slot bytes far' offset' u) e' a

module _ (layout : Layout) (bytes : ℕ) where
  -- high registers are elsewhere
  pub high_elsewhere : (ws : List ℕ) (q : ℕ) → 24 ≤ q → AreUsable layout bytes ws → IsElsewhere layout ws q
  high_elsewhere [] q l u = tt
  high_elsewhere (w ∷ ws) q l u =
      let low = low_register bytes (layout.spot w) u.0 in
      ((λ is. omega (arith, low, l, is)), high_elsewhere ws q l u.1)

  module _ (v : ℕ) where
    elsewhere_of : (ws : List ℕ) (q : ℕ) → layout.spot v ≡ InRegister q → 8 ≤ q → IsApart layout ws v →
        IsElsewhere layout ws q
    elsewhere_of [] q is l a = tt
    elsewhere_of (w ∷ ws) q is l a =
        (apart_register (layout.spot w) q l (subst (Apart (layout.spot w)) is a.0), elsewhere_of ws q is l a.1)

    beside_of : (ws : List ℕ) (sp : ℕ) (far : Bool) (offset : ℕ) → layout.spot v ≡ InSlot far offset → sp % 4 ≡ 0 →
        offset % 4 ≡ 0 → AreUsable layout bytes ws → IsApart layout ws v →
        IsOtherWord layout sp ws ((sp + offset) / 4)
    beside_of [] sp far offset is e e' u a = tt
    beside_of (w ∷ ws) sp far offset is e e' u a = (
      apart_word bytes (layout.spot w) sp far offset e e' u.0 (subst (Apart (layout.spot w)) is a.0),
      beside_of ws sp far offset is e e' u.1 a.1,
    )

-- ---- what was written

pub pointer_wrote : {layout : Layout} {ws : List ℕ} {b d after : Data} (bytes : ℕ) → AreUsable layout bytes ws →
    Wrote layout ws b d after → pointer after ≡ pointer d
pointer_wrote {layout} {ws} {b} {d} {after} bytes u w =
    w.registers 29 (omega arith, omega arith, omega arith) (omega arith)
    (high_elsewhere layout bytes ws 29 (omega arith) u)

pub global_wrote : {layout : Layout} {ws : List ℕ} {b d after : Data} (bytes : ℕ) → AreUsable layout bytes ws →
    Wrote layout ws b d after → after.registers 28 ≡ d.registers 28
global_wrote {layout} {ws} {b} {d} {after} bytes u w =
    w.registers 28 (omega arith, omega arith, omega arith) (omega arith)
    (high_elsewhere layout bytes ws 28 (omega arith) u)

pub framed_wrote : {layout : Layout} {ws : List ℕ} {b d after : Data} (bytes : ℕ) → AreUsable layout bytes ws →
    Wrote layout ws b d after → Framed (pointer d) bytes → Framed (pointer after) bytes
framed_wrote bytes u w f = subst (λ n. Framed n bytes) (sym (pointer_wrote bytes u w)) f

-- a value that stands elsewhere
pub value_there : (layout : Layout) (bytes : ℕ) (ws : List ℕ) (v : ℕ) (b d after : Data) → Framed (pointer d) bytes →
    AreUsable layout bytes ws → Usable bytes (layout.spot v) → IsApart layout ws v → Wrote layout ws b d after →
    value after (layout.spot v) ≡ value d (layout.spot v)
value_there layout bytes ws v b d after f us u a w = at (layout.spot v) refl
  where
    at : (s : Spot) → layout.spot v ≡ s → value after s ≡ value d s
    at (InRegister q) is =
        let p : Usable bytes (InRegister q) = subst (Usable bytes) is u in
        w.registers q (p.0, (λ e. omega (arith, p.1, e)), (λ e. omega (arith, p.1, e))) (λ e. omega (arith, p.1, e))
        (elsewhere_of layout bytes v ws q is p.0 a)
    at (InSlot far offset) is =
        let p : Usable bytes (InSlot far offset) = subst (Usable bytes) is u in
        let even = even_slot bytes far offset p in
        ap (λ n. after.stack ((n + offset) / 4)) (pointer_wrote bytes us w)
        ∙ w.stack ((pointer d + offset) / 4) (beside_of layout bytes v ws (pointer d) far offset is f.even even us a)

-- all of them
pub words_there : (layout : Layout) (bytes : ℕ) (ws vs words : List ℕ) (b d after : Data) → Framed (pointer d) bytes →
    AreUsable layout bytes ws → AreUsable layout bytes vs → AreApart layout ws vs → Wrote layout ws b d after →
    HaveWords layout d vs words → HaveWords layout after vs words
words_there layout bytes ws [] [] b d after f us u a w h = tt
words_there layout bytes ws [] (x ∷ words) b d after f us u a w h = h
words_there layout bytes ws (v ∷ vs) [] b d after f us u a w h = h
words_there layout bytes ws (v ∷ vs) (x ∷ words) b d after f us u a w h = (
  value_there layout bytes ws v b d after f us u.0 a.0 w ∙ h.0,
  h.1,
  words_there layout bytes ws vs words b d after f us u.1 a.1 w h.2,
)

-- one of the registers that are written
pub record Among (layout : Layout) (w : ℕ) (ws : List ℕ) : Type 0 where
  pub elsewhere : (q : ℕ) → IsElsewhere layout ws q → q ≢ register_of (layout.spot w)
  pub beside : (sp n : ℕ) → IsOtherWord layout sp ws n → IsOther sp (layout.spot w) n

-- one more spot, behind what keeps registers and stack but $ra
pub wrote_put : {layout : Layout} {ws : List ℕ} {b d mid base b' after : Data} (bytes w x : ℕ) →
    AreUsable layout bytes ws → Wrote layout ws b d mid → Among layout w ws →
    ((q : ℕ) → q ≢ 31 → base.registers q ≡ mid.registers q) → base.stack ≡ mid.stack → SameWorld b' base →
    PutsTo (layout.spot w) x base after → Wrote layout ws b' d after
wrote_put {layout} {ws} {b} {d} {mid} {base} {b'} {after} bytes w x us wrote among same stack world puts = record {
  registers = λ q k n e. puts.registers q k (among.elsewhere q e) ∙ same q n ∙ wrote.registers q k n e;
  stack = λ n e.
      let there : pointer base ≡ pointer d = same 29 (omega arith) ∙ pointer_wrote bytes us wrote in
      puts.stack n (subst (λ sp. IsOther sp (layout.spot w) n) (sym there) (among.beside (pointer d) n e))
      ∙ ap (λ (f : ℕ → ℕ). f n) stack ∙ wrote.stack n e;
  world = world_on world puts.world;
}

-- no spot more
pub wrote_kept : {layout : Layout} {ws : List ℕ} {b d mid base b' after : Data} → Wrote layout ws b d mid →
    ((q : ℕ) → q ≢ 31 → base.registers q ≡ mid.registers q) → base.stack ≡ mid.stack → SameWorld b' base →
    KeepsSpots base after → Wrote layout ws b' d after
wrote_kept {layout} {ws} {b} {d} {mid} {base} {b'} {after} wrote same stack world keeps = record {
  registers = λ q k n e. keeps.registers q k ∙ same q n ∙ wrote.registers q k n e;
  stack = λ n e. ap (λ (f : ℕ → ℕ). f n) (keeps.stack ∙ stack) ∙ wrote.stack n e;
  world = world_on world keeps.world;
}

-- ---- memory on both sides

twice : (k v k' v' v2 v2' : ℕ) (f : ℕ → ℕ) →
    update k v (update k' v' (update k v2 (update k' v2' f))) ≡ update k v (update k' v' f)
twice k v k' v' v2 v2' f = fun_ext (λ n. at n)
  where
    at : (n : ℕ) → update k v (update k' v' (update k v2 (update k' v2' f))) n ≡ update k v (update k' v' f) n
    at n = elim (cases_Bool (nat_eq n k)) [
      | inl t ↦ rw t refl
      | inr t ↦ elim (cases_Bool (nat_eq n k')) [
        | inl t' ↦ rw (t, t') refl
        | inr t' ↦ rw (t, t') refl
      ]
    ]

pub so_far_same : (size parameters : ℕ) (d e : Data) → SameWorld d e →
    SameWorld (with_so_far size parameters d) (with_so_far size parameters e)
so_far_same size parameters d e w = record {
  objects = w.objects;
  closures = w.closures;
  spec_rows = w.spec_rows;
  cells = ap (λ (f : ℕ → ℕ). with_word PARAMETERS_CELL parameters (with_word SIZE_CELL size f)) w.cells;
  emit_stack = w.emit_stack;
  table = w.table;
  outside = w.outside;
}

-- what is added up comes in place of what was
pub so_far_again : (size parameters size' parameters' : ℕ) (d e : Data) → SameWorld (with_so_far size parameters d) e →
    SameWorld (with_so_far size' parameters' d) (with_so_far size' parameters' e)
so_far_again size parameters size' parameters' d e w = record {
  objects = w.objects;
  closures = w.closures;
  spec_rows = w.spec_rows;
  cells = ap (λ (f : ℕ → ℕ). with_word PARAMETERS_CELL parameters' (with_word SIZE_CELL size' f)) w.cells
      ∙ twice (PARAMETERS_CELL / 4) parameters' (SIZE_CELL / 4) size' parameters size d.cells;
  emit_stack = w.emit_stack;
  table = w.table;
  outside = w.outside;
}

pub appended_same : (k : Head) (captures : ℕ) (d e : Data) → SameWorld d e →
    SameWorld (appended k captures d) (appended k captures e)
appended_same k captures d e w = record {
  objects = w.objects;
  closures =
      ap (λ (f : ℕ → ℕ). with_head (word_at f NEXT_CLOSURE_CELL) k e.closures) w.cells
      ∙ ap (with_head (next_closure d) k) w.closures;
  spec_rows =
      ap (λ (f : ℕ → ℕ). with_word (row_place (suc (word_at f SPEC_COUNT_CELL))) (word_at f NEXT_CLOSURE_CELL)
      e.spec_rows) w.cells
      ∙ ap (with_word (row_place (suc (row_count d))) (next_closure d)) w.spec_rows;
  cells =
      ap (λ (f : ℕ → ℕ). with_word CLOSURE_CELL (word_at f NEXT_CLOSURE_CELL)
      (with_word NEXT_CLOSURE_CELL (word_at f NEXT_CLOSURE_CELL + closure_bytes captures)
      (with_word SPEC_COUNT_CELL (suc (word_at f SPEC_COUNT_CELL)) f))) w.cells;
  emit_stack = w.emit_stack;
  table = w.table;
  outside = w.outside;
}

pub captured_same : (i x : ℕ) (d e : Data) → SameWorld d e → SameWorld (with_captured i x d) (with_captured i x e)
captured_same i x d e w = record {
  objects = w.objects;
  closures =
      ap (λ (f : ℕ → ℕ). with_word (word_at f CLOSURE_CELL + closure_bytes i) x e.closures) w.cells
      ∙ ap (with_word (newest_closure d + closure_bytes i) x) w.closures;
  spec_rows = w.spec_rows;
  cells = w.cells;
  emit_stack = w.emit_stack;
  table = w.table;
  outside = w.outside;
}

-- the closures of a memory stand where it is the same
pub closures_there : (ks : List Closure) (b e : Data) → SameWorld b e → e.registers 28 ≡ b.registers 28 →
    HasClosures ks b → HasClosures ks e
closures_there ks b e w g has =
    closures_same ks b e g w.closures w.spec_rows (ap (λ (f : ℕ → ℕ). word_at f SPEC_COUNT_CELL) w.cells)
    (ap (λ (f : ℕ → ℕ). word_at f NEXT_CLOSURE_CELL) w.cells) has

pub specifications_there : (text : Text) (shared : Shared) (b e : Data) → SameWorld b e →
    e.registers 28 ≡ b.registers 28 → HasSpecifications text shared b → HasSpecifications text shared e
specifications_there text shared b e w g h = record {
  closures = h.closures;
  memory = closures_there h.closures b e w g h.memory;
  stand_for = h.stand_for;
  bytes = h.bytes;
}

pub place_there : (i : ℕ) (b e : Data) → SameWorld b e → e.registers 28 ≡ b.registers 28 → HasPlace i b → HasPlace i e
place_there i b e w g has =
    let same : newest_closure e ≡ newest_closure b = ap (λ (f : ℕ → ℕ). word_at f CLOSURE_CELL) w.cells in
    record {
      global = g ∙ has.global;
      from = omega (arith, same, has.from);
      to = omega (arith, same, has.to);
      even = ap (λ n. n % 4) same ∙ has.even;
    }
