-- The test of an address, which stands before a load or a store: the highest byte of an object's address is 16.
use Rattle.std.proofs.Common.{◌≡◌, ◌≢◌, ℕ, ◌+◌, ◌/◌, ◌%◌, ◌<◌, true, false, List, [], ◌∷◌, ◌++◌, refl}
use Rattle.std.proofs.Common.{ap, ◌∙◌, arith, nat_eq, bit_xor}
use Rattle.std.proofs.lemmas.Bool.{ne_eqb, eq-eqb}
use Rattle.std.proofs.lemmas.Nat.{and_le_l, and_le_r}
use Rattle.std.specs.Int.Bits.{xor_add_and}
use Rattle.word32.specs.declared.map.TheConstants.{SEGMENT_BYTES}
use Rattle.word32.specs.Space.{update}
use Rattle.host_edge.specs.declared.ending.Ending.TheVariants.{Trap}
use Rattle.host_edge.specs.declared.ending.TrapKind.TheVariants.{Range}
use Rattle.history.specs.Events.{Ended}
use Rattle.mips_encoder.specs.declared.instruction.Instr.{Instr}
use Rattle.mips_model.specs.State.{Code, Data, register}
use Rattle.mips_model.specs.Accesses.{Branches}
use Rattle.mips_model.specs.Effects.{effect}
use Rattle.mips_model.specs.Steps.{going, ended, step}
use Rattle.mips_model.specs.Laws.{HasAt, at, Reaches}
use Rattle.mips_model.proofs.Reach.{step_acts, reaches_on}
use Rattle.mips_assembly.specs.Assembly.{srl, xori, beq, trap}
use Rattle.icode_templates.specs.Templates.{range_check}
use Rattle.icode_templates_proof.specs.Spots.{IsKept, KeepsSpots}
use Rattle.icode_templates_proof.specs.Moves.{EndsIn}
use Rattle.icode_templates_proof.proofs.Memory.{update_same, update_other}
use Rattle.icode_templates_proof.proofs.Leaves.{Leaves, leaves_run, runs_within}
use Rattle.icode_templates_proof.proofs.Keeping.{with_registers, keeps_on, keeps_write}
use Rattle.icode_templates_proof.proofs.Jumps.{branch_reaches}
use Rattle.icode_templates_proof.proofs.Endings.{ends_now, ends_behind}

-- the highest byte of the address in $t8
abbrev pub highest : Data → ℕ
highest d = d.registers 24 / 16777216

-- register r has the test's value
abbrev pub ranged : ℕ → Data → Data
ranged r d = with_registers (update r (bit_xor (highest d) 16) (update r (highest d) d.registers)) d

ranged_leaves : (r : ℕ) (d : Data) → nat_eq r 0 ≡ false → Leaves (srl r 24 24 ∷ xori r r 16 ∷ []) 0 d 0 (ranged r d)
ranged_leaves r d n0 rest = let same : nat_eq r r ≡ true = eq-eqb r r refl in rw (n0, same) refl

pub ranged_keeps : (r : ℕ) (d : Data) → ((q : ℕ) → IsKept q → q ≢ r) → KeepsSpots d (ranged r d)
ranged_keeps r d h =
    keeps_on (keeps_write r (highest d) d h)
    (keeps_write r (bit_xor (highest d) 16) (with_registers (update r (highest d) d.registers) d) h)

-- another register keeps its value
pub ranged_other : (r q : ℕ) (d : Data) → q ≢ r → (ranged r d).registers q ≡ d.registers q
ranged_other r q d ne =
    update_other r (bit_xor (highest d) 16) (update r (highest d) d.registers) q ne ∙
    update_other r (highest d) d.registers q ne

xor_none : (a b : ℕ) → bit_xor a b ≡ 0 → a ≡ b
xor_none a b e = let s = xor_add_and a b in let l = and_le_l a b in let r = and_le_r a b in omega (arith, e, s, l, r)

test_is : (r : ℕ) (d : Data) → nat_eq r 0 ≡ false → register r (ranged r d) ≡ bit_xor (highest d) 16
test_is r d n0 = rw n0 (update_same r (bit_xor (highest d) 16) (update r (highest d) d.registers))

-- the address is an object's
pub range_passes : (r : ℕ) (c : Code) (a : ℕ) (d : Data) (rest : List Instr) → nat_eq r 0 ≡ false →
    a + 20 < SEGMENT_BYTES → highest d ≡ 16 → HasAt c a (range_check r ++ rest)
    → Reaches 4 (at c a 0 d) (at c (a + 4 + 4 + 4 + 4 + 4) 0 (ranged r d))
range_passes r c a d rest n0 low e h =
    let d1 = ranged r d in
    let b = a + 4 + 4 in
    let zero : register r d1 ≡ 0 = test_is r d n0 ∙ ap (λ x. bit_xor x 16) e in
    let taken : effect (beq r 0 2) d1 ≡ Branches true 2 = ap (λ x. Branches (nat_eq x 0) 2) zero in
    let goes : (b + 4 + 8) % 4294967296 ≡ b + 4 + 4 + 4 = omega (arith, low) in
    reaches_on {k = 2} {n = 2} (leaves_run (srl r 24 24 ∷ xori r r 16 ∷ []) c 0 0 a d d1 (ranged_leaves r d n0)
    (h.0, (h.1.0, tt)))
    (branch_reaches (beq r 0 2) c b 2 (b + 4 + 4 + 4) true d1 refl refl taken goes h.1.1.0 h.1.1.1.0)

-- it isn't
pub range_ends : (r : ℕ) (c : Code) (a : ℕ) (d : Data) (rest : List Instr) → nat_eq r 0 ≡ false →
    highest d ≢ 16 → HasAt c a (range_check r ++ rest)
    → EndsIn 5 5 (Ended (Trap Range)) (at c a 0 d) c d.outside
range_ends r c a d rest n0 ne h =
    let d1 = ranged r d in
    let b = a + 4 + 4 in
    let other : nat_eq (bit_xor (highest d) 16) 0 ≡ false =
    ne_eqb (bit_xor (highest d) 16) 0 (λ e. ne (xor_none (highest d) 16 e)) in
    let falls : effect (beq r 0 2) d1 ≡ Branches false 2 =
    ap (λ x. Branches (nat_eq x 0) 2) (test_is r d n0) ∙ ap (λ t. Branches t 2) other in
    let last = at c (b + 4 + 4) 0 d1 in
    let stops : step (going last) ≡ ended (Ended (Trap Range)) last = step_acts (trap 16) last h.1.1.1.1.0 refl in
    ends_behind {l = 4} {m = 4} (runs_within {k = 4} (omega arith) (omega arith)
    (reaches_on {k = 2} {n = 2} (leaves_run (srl r 24 24 ∷ xori r r 16 ∷ []) c 0 0 a d d1 (ranged_leaves r d n0)
    (h.0, (h.1.0, tt)))
    (branch_reaches (beq r 0 2) c b 2 (b + 4 + 4) false d1 refl refl falls refl h.1.1.0 h.1.1.1.0)))
    (ends_now (Ended (Trap Range)) c (b + 4 + 4) d1 stops)
