-- What stays as it was where registers that no op relies on, the heap's cell, or $ra are written.
use Rattle.std.proofs.Common.{◌≡◌, ◌≢◌, inl, inr, ℕ, ◌+◌, ◌-◌, ◌*◌, ◌/◌, ◌≤◌, true, false, refl, ap, ◌∙◌, arith}
use Rattle.std.proofs.Common.{nat_eq, nat_le, if◌then◌else◌}
use Rattle.std.proofs.lemmas.Bool.{cases_Bool}
use Rattle.word32.specs.Space.{update}
use Rattle.word32.specs.declared.map.TheConstants.{FRAMES, NEXT_HEAP_CELL}
use Rattle.mips_model.specs.State.{Data}
use Rattle.icode_templates_proof.specs.Spots.{IsKept, KeepsSpots}
use Rattle.icode_templates_proof.proofs.Keeping.{with_registers, keeps_on, keeps_write}
use Rattle.icode_templates_proof.specs.Malloc.{heap_of, with_heap, allotted}
use Rattle.icode_templates_proof.specs.MallocLaws.{linked}

-- a register of the low ones, which no op relies on
pub not_low : (t : ℕ) → t ≤ 7 → (r : ℕ) → IsKept r → r ≢ t
not_low t h r k = omega (arith, k.0, h)

-- one more of them is written
pub and_write : (t v : ℕ) {before : Data} (d : Data) → t ≤ 7 → KeepsSpots before d →
    KeepsSpots before (with_registers (update t v d.registers) d)
and_write t v {before} d h k = keeps_on k (keeps_write t v d (not_low t h))

-- the heap's cell is written on both sides
pub heap_keeps : (x y : ℕ) {d after : Data} → y ≡ x → KeepsSpots d after →
    KeepsSpots (with_heap x d) (with_heap y after)
heap_keeps x y {d} {after} e k = record {
  registers = k.registers;
  stack = k.stack;
  world = record {
    objects = k.world.objects;
    closures = k.world.closures;
    spec_rows = k.world.spec_rows;
    cells =
        ap (λ n. update (NEXT_HEAP_CELL / 4) n after.cells) e
        ∙ ap (update (NEXT_HEAP_CELL / 4) x) k.world.cells;
    emit_stack = k.world.emit_stack;
    table = k.world.table;
    outside = k.world.outside;
  };
}

-- so many bytes were taken on both sides
pub allotted_keeps : (x : ℕ) {d after : Data} → KeepsSpots d after → KeepsSpots (allotted x d) (allotted x after)
allotted_keeps x {d} {after} k =
    let e : heap_of after ≡ heap_of d = ap (λ (f : ℕ → ℕ). f (NEXT_HEAP_CELL / 4)) k.world.cells in
    elim (cases_Bool (nat_le x (FRAMES - heap_of d))) [
      | inl t ↦ let t' : nat_le x (FRAMES - heap_of after) ≡ true = ap (λ n. nat_le x (FRAMES - n)) e ∙ t in
          rw (t, t') (heap_keeps (heap_of d + (x + 7) / 8 * 8) (heap_of after + (x + 7) / 8 * 8)
          (ap (λ n. n + (x + 7) / 8 * 8) e) k)
      | inr t ↦ let t' : nat_le x (FRAMES - heap_of after) ≡ false = ap (λ n. nat_le x (FRAMES - n)) e ∙ t in
          rw (t, t') k
    ]

pub allotted_registers : (x : ℕ) (d : Data) → (allotted x d).registers ≡ d.registers
allotted_registers x d = elim (cases_Bool (nat_le x (FRAMES - heap_of d))) [
  | inl t ↦ rw t refl
  | inr t ↦ rw t refl
]

-- and $ra
pub linked_keeps : (to : ℕ) {d after : Data} → KeepsSpots d after → KeepsSpots (linked to d) (linked to after)
linked_keeps to {d} {after} k = record {
  registers = λ r q. ap (λ n. if nat_eq r 31 then to else n) (k.registers r q);
  stack = k.stack;
  world = record {
    objects = k.world.objects;
    closures = k.world.closures;
    spec_rows = k.world.spec_rows;
    cells = k.world.cells;
    emit_stack = k.world.emit_stack;
    table = k.world.table;
    outside = k.world.outside;
  };
}
