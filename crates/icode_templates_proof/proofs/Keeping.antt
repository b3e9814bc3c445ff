-- What is kept by one stretch of instructions and then another.
use Rattle.std.proofs.Common.{◌≡◌, ◌≢◌, ℕ, ◌+◌, ◌/◌, ◌%◌, Bool, true, false, refl, sym, ap, ◌∙◌, subst, arith}
use Rattle.word32.specs.Space.{update}
use Rattle.mips_model.specs.State.{Data}
use Rattle.icode_templates.specs.Layout.{Spot, InRegister, InSlot}
use Rattle.icode_templates_proof.specs.Spots.{pointer, value, Framed, Usable, IsKept, SameWorld, KeepsSpots}
use Rattle.icode_templates_proof.specs.Spots.{register_of, IsOther, PutsTo, Apart}
use Rattle.icode_templates_proof.proofs.Memory.{update_other}

abbrev pub with_registers : (ℕ → ℕ) → Data → Data
with_registers f d = record d { registers = f }

pub same_world : (d : Data) → SameWorld d d
same_world d = record {
  objects = refl;
  closures = refl;
  spec_rows = refl;
  cells = refl;
  emit_stack = refl;
  table =
      refl;
  outside = refl;
}

pub world_on : {a b c : Data} → SameWorld a b → SameWorld b c → SameWorld a c
world_on {a} {b} {c} x y = record {
  objects = y.objects ∙ x.objects;
  closures = y.closures ∙ x.closures;
  spec_rows = y.spec_rows ∙ x.spec_rows;
  cells = y.cells ∙ x.cells;
  emit_stack = y.emit_stack ∙ x.emit_stack;
  table = y.table ∙ x.table;
  outside = y.outside ∙ x.outside;
}

pub keeps_same : (d : Data) → KeepsSpots d d
keeps_same d = record { registers = λ r k. refl; stack = refl; world = same_world d }

pub keeps_on : {a b c : Data} → KeepsSpots a b → KeepsSpots b c → KeepsSpots a c
keeps_on {a} {b} {c} x y = record {
  registers = λ r k. y.registers r k ∙ x.registers r k;
  stack = y.stack ∙ x.stack;
  world = world_on x.world y.world;
}

-- a register that is not kept is written
pub keeps_write : (t v : ℕ) (d : Data) → ((r : ℕ) → IsKept r → r ≢ t) →
    KeepsSpots d (with_registers (update t v d.registers) d)
keeps_write t v d h = record {
  registers = λ r k. update_other t v d.registers r (h r k);
  stack = refl;
  world = record {
    objects = refl;
    closures = refl;
    spec_rows = refl;
    cells = refl;
    emit_stack = refl;
    table = refl;
    outside = refl;
  };
}

-- none of these is kept
pub not_1 : (r : ℕ) → IsKept r → r ≢ 1
not_1 r k = omega (arith, k.0)

pub not_24 : (r : ℕ) → IsKept r → r ≢ 24
not_24 r k = k.1

pub not_25 : (r : ℕ) → IsKept r → r ≢ 25
not_25 r k = k.2

pub pointer_kept : {d after : Data} → KeepsSpots d after → pointer after ≡ pointer d
pointer_kept q = q.registers 29 (omega arith, omega arith, omega arith)

pub framed_on : {bytes : ℕ} {d after : Data} → KeepsSpots d after → Framed (pointer d) bytes →
    Framed (pointer after) bytes
framed_on {bytes} {d} {after} q f = subst (λ n. Framed n bytes) (sym (pointer_kept q)) f

-- values stand as they stood
pub value_kept : (bytes : ℕ) (d after : Data) (w : Spot) → Usable bytes w → KeepsSpots d after →
    value after w ≡ value d w
value_kept bytes d after (InRegister r) u q = q.registers r (omega arith, omega arith, omega arith)
value_kept bytes d after (InSlot far offset) u q =
    ap (λ m. m ((pointer after + offset) / 4)) q.stack ∙ ap (λ n. d.stack ((n + offset) / 4)) (pointer_kept q)

-- a value is put behind what keeps all spots
pub puts_after : (bytes : ℕ) {w : Spot} {x : ℕ} {a b c : Data} → Usable bytes w → KeepsSpots a b → PutsTo w x b c →
    PutsTo w x a c
puts_after bytes {w} {x} {a} {b} {c} u q s = record {
  value_is = s.value_is;
  registers = λ r m h. s.registers r m h ∙ q.registers r m;
  stack = λ n h. s.stack n (subst (λ k. IsOther k w n) (sym (pointer_kept q)) h) ∙ ap (λ f. f n) q.stack;
  world = world_on q.world s.world;
}

pub not_pointer : (bytes : ℕ) (w : Spot) → Usable bytes w → 29 ≢ register_of w
not_pointer bytes (InRegister q) u = omega (arith, u.1)
not_pointer bytes (InSlot far offset) u = omega arith

pub pointer_put : (bytes : ℕ) (w : Spot) (x : ℕ) (d after : Data) → Usable bytes w → PutsTo w x d after →
    pointer after ≡ pointer d
pointer_put bytes w x d after u s = s.registers 29 (omega arith, omega arith, omega arith) (not_pointer bytes w u)

even_offset : (bytes : ℕ) (far : Bool) (offset : ℕ) → Usable bytes (InSlot far offset) → offset % 4 ≡ 0
even_offset bytes false offset u = u.2
even_offset bytes true offset u = u.1

other_word : (sp offset other : ℕ) → sp % 4 ≡ 0 → offset % 4 ≡ 0 → other % 4 ≡ 0 → offset ≢ other →
    (sp + other) / 4 ≢ (sp + offset) / 4
other_word sp offset other e e1 e2 ne same = ne (omega (arith, e, e1, e2, same))

-- another spot keeps its value
pub apart_kept : (bytes : ℕ) (w other : Spot) (x : ℕ) (d after : Data) → Framed (pointer d) bytes → Usable bytes w →
    Usable bytes other → Apart w other → PutsTo w x d after → value after other ≡ value d other
apart_kept bytes (InRegister r) (InRegister q) x d after f u u' a s =
    s.registers q (omega arith, omega arith, omega arith) (λ e. a (sym e))
apart_kept bytes (InSlot far offset) (InRegister q) x d after f u u' a s =
    s.registers q (omega arith, omega arith, omega arith) (omega arith)
apart_kept bytes (InRegister r) (InSlot far offset) x d after f u u' a s =
    ap (λ n. after.stack ((n + offset) / 4)) (pointer_put bytes (InRegister r) x d after u s) ∙
    s.stack ((pointer d + offset) / 4) tt
apart_kept bytes (InSlot far offset) (InSlot far' offset') x d after f u u' a s =
    ap (λ n. after.stack ((n + offset') / 4)) (pointer_put bytes (InSlot far offset) x d after u s)
    ∙ s.stack ((pointer d + offset') / 4)
    (other_word (pointer d) offset offset' f.even (even_offset bytes far offset u) (even_offset bytes far' offset' u')
    a)
