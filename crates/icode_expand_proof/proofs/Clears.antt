-- A Clear sets words of the frame's objects to 0: its two addresses, and its loop, a word a round.
use Rattle.std.proofs.Common.{◌≡◌, ◌≢◌, inl, inr, ℕ, ◌+◌, ◌*◌, ◌/◌, ◌%◌, ◌<◌, ◌≤◌, ◌==◌, true, false, List}
use Rattle.std.proofs.Common.{[]}
use Rattle.std.proofs.Common.{◌∷◌, ◌++◌, refl, sym, ap, ◌∙◌, subst, arith, nat_eq, nat_lt, nat_le, if◌then◌else◌}
use Rattle.std.proofs.lemmas.Bool.{cases_eq, cases_lt, eq-eqb, ne_eqb}
use Rattle.std.proofs.lemmas.Bool.Decides.{nat_tests}
use Rattle.word32.specs.declared.map.TheConstants.{OBJECTS, OBJECTS_END, SEGMENT_BYTES, STACK}
use Rattle.word32.specs.Space.{update}
use Rattle.word32.specs.declared.width.Width.TheVariants.{Word}
use Rattle.flat_memory.specs.Map.{InObjects, region_of}
use Rattle.mips_encoder.specs.declared.instruction.Instr.{Instr}
use Rattle.mips_model.specs.State.{Code, Data}
use Rattle.mips_model.specs.Accesses.{Plain, Branches, store, store_in}
use Rattle.mips_model.specs.Effects.{effect}
use Rattle.mips_model.specs.Steps.{branch_target}
use Rattle.mips_model.specs.Laws.{HasAt, at, Reaches}
use Rattle.mips_model.proofs.Reach.{carry, through, reaches_on}
use Rattle.mips_assembly.specs.Assembly.{addu, addiu, sw, bne, constant}
use Rattle.icode_templates.specs.Templates.{clear_loop}
use Rattle.icode_templates_proof.specs.Spots.{KeepsSpots}
use Rattle.icode_templates_proof.proofs.Leaves.{Leaves, leaves_on, leaves_run}
use Rattle.icode_templates_proof.proofs.Keeping.{with_registers, keeps_on, keeps_write, not_24, not_25}
use Rattle.icode_templates_proof.proofs.Jumps.{branch_reaches}
use Rattle.icode_templates_proof.proofs.Templates.{constant_parts}

-- the two addresses, of the first word and of the end, from the end of the frame's objects
abbrev pub both_code : ℕ → ℕ → List Instr
both_code x y = constant 24 x ++ (addu 24 24 30 ∷ (constant 25 y ++ (addu 25 25 30 ∷ [])))

abbrev pub first_in : ℕ → ℕ → Data → Data
first_in h x d = with_registers (update 24 ((x + d.registers 30) % 4294967296) (update 24 x (update 24 h d.registers)))
    d

abbrev last_in : ℕ → ℕ → Data → Data
last_in h y d = with_registers (update 25 ((y + d.registers 30) % 4294967296) (update 25 y (update 25 h d.registers))) d

abbrev pub both_in : ℕ → ℕ → Data → Data
both_in x y d = last_in (y / 65536 * 65536) y (first_in (x / 65536 * 65536) x d)

pub first_leaves : (x : ℕ) (d : Data) → Leaves (constant 24 x ++ (addu 24 24 30 ∷ [])) 0 d 0
    (first_in (x / 65536 * 65536) x d)
first_leaves x d =
    subst (λ z. Leaves (constant 24 x ++ (addu 24 24 30 ∷ [])) 0 d 0 (first_in (x / 65536 * 65536) z d))
    (constant_parts x)
    (λ rest. refl)

last_leaves : (y : ℕ) (d : Data) → Leaves (constant 25 y ++ (addu 25 25 30 ∷ [])) 0 d 0
    (last_in (y / 65536 * 65536) y d)
last_leaves y d =
    subst (λ z. Leaves (constant 25 y ++ (addu 25 25 30 ∷ [])) 0 d 0 (last_in (y / 65536 * 65536) z d))
    (constant_parts y)
    (λ rest. refl)

pub both_leaves : (x y : ℕ) (d : Data) → Leaves (both_code x y) 0 d 0 (both_in x y d)
both_leaves x y d =
    leaves_on (constant 24 x ++ (addu 24 24 30 ∷ [])) (constant 25 y ++ (addu 25 25 30 ∷ [])) 0 0 0 d
    (first_in (x / 65536 * 65536) x d) (both_in x y d) (first_leaves x d)
    (last_leaves y (first_in (x / 65536 * 65536) x d))

pub both_keep : (x y : ℕ) (d : Data) → KeepsSpots d (both_in x y d)
both_keep x y d =
    let h = x / 65536 * 65536 in
    let g = y / 65536 * 65536 in
    let v = (x + d.registers 30) % 4294967296 in
    let d1 = with_registers (update 24 h d.registers) d in
    let d2 = with_registers (update 24 x d1.registers) d in
    let d3 = with_registers (update 24 v d2.registers) d in
    let d4 = with_registers (update 25 g d3.registers) d in
    let d5 = with_registers (update 25 y d4.registers) d in
    keeps_on (keeps_write 24 h d not_24) (keeps_on (keeps_write 24 x d1 not_24) (keeps_on (keeps_write 24 v d2 not_24)
    (keeps_on (keeps_write 25 g d3 not_25) (keeps_on (keeps_write 25 y d4 not_25)
    (keeps_write 25 ((y + d.registers 30) % 4294967296) d5 not_25)))))

region_is : (a : ℕ) → OBJECTS ≤ a → a < OBJECTS_END → region_of a ≡ InObjects
region_is a lo hi =
    let t1 : nat_le STACK a ≡ false = grind (arith, nat_tests) in
    let t2 : nat_le OBJECTS a ≡ true = grind (arith, nat_tests) in
    let t3 : nat_lt a OBJECTS_END ≡ true = grind (arith, nat_tests) in
    rw (t1, t2, t3) refl

-- the data behind a word that is set to 0, and behind a round
abbrev cleared : ℕ → Data → Data
cleared address d = record d { objects = update (address / 4) 0 d.objects }

abbrev pub round : ℕ → Data → Data
round address d =
    record d { objects = update (address / 4) 0 d.objects; registers = update 24 (address + 4) d.registers }

stores : (address : ℕ) (d : Data) → d.registers 24 ≡ address → address % 4 ≡ 0 → OBJECTS ≤ address
    → address < OBJECTS_END
    → effect (sw 0 0 24) d ≡ Plain (cleared address d)
stores address d is even lo hi =
    let m : (d.registers 24 + 0) % 4294967296 ≡ address = omega (arith, is, hi) in
    let z : (address % 4 == 0) ≡ true = grind (arith, nat_tests) in
    ap (λ a. store a Word 0 d) m ∙ ap (λ r. store_in r address Word 0 d) (region_is address lo hi) ∙ rw z refl

store_leaves : (address : ℕ) (d : Data) → effect (sw 0 0 24) d ≡ Plain (cleared address d)
    → Leaves (sw 0 0 24 ∷ []) 0 d 0 (cleared address d)
store_leaves address d e rest = ap (λ x. carry x (through rest)) e

next_leaves : (address : ℕ) (d : Data) → d.registers 24 ≡ address → address < OBJECTS_END
    → Leaves (addiu 24 24 4 ∷ []) 0 d 0 (with_registers (update 24 (address + 4) d.registers) d)
next_leaves address d is hi rest = let m : (d.registers 24 + 4) % 4294967296 ≡ address + 4 =
    omega (arith, is, hi) in rw m refl

module _ (c : Code) (b address end : ℕ) (d : Data) (low : b < SEGMENT_BYTES) (h : HasAt c b clear_loop)
    (from : d.registers 24 ≡ address) (to : d.registers 25 ≡ end) (even : address % 4 ≡ 0) (lo : OBJECTS ≤ address)
    (hi : address < OBJECTS_END) where
  abbrev after : Data
  after = round address d

  sets : Reaches 2 (at c b 0 d) (at c (b + 4 + 4) 0 after)
  sets =
      leaves_run (sw 0 0 24 ∷ addiu 24 24 4 ∷ []) c 0 0 b d after
      (leaves_on (sw 0 0 24 ∷ []) (addiu 24 24 4 ∷ []) 0 0 0 d (cleared address d) after
      (store_leaves address d (stores address d from even lo hi)) (next_leaves address (cleared address d) from hi))
      (h.0, (h.1.0, tt))

  -- there is a further word
  pub goes_round : address + 4 ≢ end → Reaches 4 (at c b 0 d) (at c b 0 after)
  goes_round ne =
      let t : nat_eq (address + 4) (d.registers 25) ≡ false =
      ne_eqb (address + 4) (d.registers 25) (λ e. ne (e ∙ to)) in
      let does : effect (bne 24 25 65533) after ≡ Branches true 65533 = rw t refl in
      let goal : branch_target true 65533 (at c (b + 4 + 4) 0 after) ≡ b = omega (arith, low) in
      reaches_on {k = 2} {n = 2} sets
      (branch_reaches (bne 24 25 65533) c (b + 4 + 4) 65533 b true after refl refl does goal h.1.1.0 h.1.1.1.0)

  -- it was the last one
  pub goes_past : address + 4 ≡ end → Reaches 4 (at c b 0 d) (at c (b + 4 + 4 + 4 + 4) 0 after)
  goes_past e =
      let t : nat_eq (address + 4) (d.registers 25) ≡ true = eq-eqb (address + 4) (d.registers 25) (e ∙ sym to) in
      let does : effect (bne 24 25 65533) after ≡ Branches false 65533 = rw t refl in
      reaches_on {k = 2} {n = 2} sets
      (branch_reaches (bne 24 25 65533) c (b + 4 + 4) 65533 (b + 4 + 4 + 4 + 4) false after refl refl does refl h.1.1.0
      h.1.1.1.0)

-- on the staged machine's side
abbrev zeros : ℕ → (ℕ → ℕ) → ℕ → ℕ
zeros k m n = if nat_le k n then (if nat_le (k + 1) n then m n else 0) else m n

same_word : (k : ℕ) (m : ℕ → ℕ) (n : ℕ) → update k 0 m n ≡ zeros k m n
same_word k m n = elim (cases_eq n k) [
  | inl e ↦ (let t1 : nat_eq n k ≡ true = eq-eqb n k e in
      let t2 : nat_le k n ≡ true = grind (arith, nat_tests, e) in
      let t3 : nat_le (k + 1) n ≡ false = grind (arith, nat_tests, e) in
      rw (t1, t2, t3) refl)
  | inr ne ↦ (let t1 : nat_eq n k ≡ false = ne_eqb n k ne in
      elim (cases_lt n k) [
        | inl less ↦ (let t2 : nat_le k n ≡ false = grind (arith, nat_tests, less) in rw (t1, t2) refl)
        | inr more ↦ (let t2 : nat_le k n ≡ true = grind (arith, nat_tests, more) in
            let t3 : nat_le (k + 1) n ≡ true = grind (arith, nat_tests, more, ne) in
            rw (t1, t2, t3) refl)
      ])
]

pub same_words : (k : ℕ) (m : ℕ → ℕ) → update k 0 m ≡ zeros k m
same_words k m = λ i n. same_word k m n i
