-- What is saved and restored, register by register.
use Rattle.std.proofs.Common.{◌≡◌, ◌≢◌, inl, inr, ℕ, ◌+◌, ◌*◌, ◌/◌, ◌<◌, Bool, true, false, ◌||◌, List, [], ◌∷◌, refl}
use Rattle.std.proofs.Common.{sym, ap}
use Rattle.std.proofs.Common.{◌∙◌, subst, arith, nat_eq, if◌then◌else◌}
use Rattle.std.proofs.lemmas.Bool.{cases_eq, cases_Bool, ne_eqb, eq-eqb}
use Rattle.mips_model.specs.State.{Data}
use Rattle.icode_templates.specs.Layout.{place_register}
use Rattle.icode_templates.specs.Frames.{save_offset}
use Rattle.icode_saves.specs.Places.{has}
use Rattle.icode_saves.specs.Laws.{AllPlaces}
use Rattle.icode_templates_proof.specs.Spots.{pointer, frame_word}
use Rattle.icode_templates_proof.proofs.Memory.{update_same, update_other}
use Rattle.icode_expand_proof.specs.Frames.{place_number}
use Rattle.icode_expand_proof.proofs.Places.{place_bounds, number_of_place, register_of_number}
use Rattle.icode_expand_proof.proofs.Saving.{save_one, saved_all, restore_one, restored}

or_true : (b : Bool) → (b || true) ≡ true
or_true true = refl
or_true false = refl

-- the restores, register by register
pub restored_is : (kept : List ℕ) (d : Data) (r : ℕ) → AllPlaces kept
    → (restored kept d).registers r
    ≡ (if has kept (place_number r) then frame_word d (save_offset (place_number r)) else d.registers r)
restored_is [] d r all = refl
restored_is (p ∷ ps) d r all =
    let n = place_number r in
    let d1 = restore_one p d in
    let b = place_bounds p all.0 in
    let same : pointer d1 ≡ pointer d = update_other (place_register p) (frame_word d (save_offset p)) d.registers 29
    (omega (arith, b.1)) in
    let ih = restored_is ps d1 r all.1 in
    elim (cases_Bool (has ps n)) [
      | inl t ↦ (let whole : has (p ∷ ps) n ≡ true = ap (λ x. nat_eq p n || x) t ∙ or_true (nat_eq p n) in
          ih ∙ ap (λ x. if x then frame_word d1 (save_offset n) else d1.registers r) t
          ∙ ap (λ k. d.stack ((k + save_offset n) / 4)) same
          ∙ sym (ap (λ x. if x then frame_word d (save_offset n) else d.registers r) whole))
      | inr f ↦ (let now = ih ∙ ap (λ x. if x then frame_word d1 (save_offset n) else d1.registers r) f in elim
          (cases_eq p n) [
            | inl e ↦ (let t : nat_eq p n ≡ true = eq-eqb p n e in
                let whole : has (p ∷ ps) n ≡ true = ap (λ x. x || has ps n) t in
                let is : r ≡ place_register p = sym (register_of_number r (subst (λ k. k < 12) e all.0))
                ∙ ap place_register (sym e) in
                now ∙ ap d1.registers is ∙ update_same (place_register p) (frame_word d (save_offset p)) d.registers
                ∙ ap (λ k. frame_word d (save_offset k)) e
                ∙ sym (ap (λ x. if x then frame_word d (save_offset n) else d.registers r) whole))
            | inr ne ↦ (let t : nat_eq p n ≡ false = ne_eqb p n ne in
                let whole : has (p ∷ ps) n ≡ false = ap (λ x. x || has ps n) t ∙ f in
                let other : r ≢ place_register p = λ is. ne (sym (ap place_number is ∙ number_of_place p all.0)) in
                now ∙ update_other (place_register p) (frame_word d (save_offset p)) d.registers r other
                ∙ sym (ap (λ x. if x then frame_word d (save_offset n) else d.registers r) whole))
          ])
    ]

-- a place that is not saved keeps its word
saves_other : (kept : List ℕ) (d : Data) (p : ℕ) → has kept p ≡ false → frame_word (saved_all kept d) (save_offset p)
    ≡ frame_word d (save_offset p)
saves_other [] d p h = refl
saves_other (q ∷ ps) d p h = elim (cases_eq q p) [
  | inl e ↦ (let t : nat_eq q p ≡ true = eq-eqb q p e in let z : true ≡ false = sym (ap (λ b. b || has ps p) t)
      ∙ h in absurd cc)
  | inr ne ↦ (let t : nat_eq q p ≡ false = ne_eqb q p ne in
      let apart : (pointer d + (32 + 4 * p)) / 4 ≢ (pointer d + (32 + 4 * q)) / 4 = λ e. ne (omega (arith, e)) in
      saves_other ps (save_one q d) p (sym (ap (λ b. b || has ps p) t) ∙ h)
      ∙ update_other ((pointer d + (32 + 4 * q)) / 4) (d.registers (place_register q)) d.stack
      ((pointer d + (32 + 4 * p)) / 4) apart)
]

-- and one that is saved has its register's word
pub saved_is : (kept : List ℕ) (d : Data) (p : ℕ) → has kept p ≡ true → frame_word (saved_all kept d) (save_offset p)
    ≡ d.registers (place_register p)
saved_is [] d p h = absurd cc
saved_is (q ∷ ps) d p h = elim (cases_Bool (has ps p)) [
  | inl t ↦ saved_is ps (save_one q d) p t
  | inr f ↦ elim (cases_eq q p) [
    | inl e ↦ saves_other ps (save_one q d) p f
        ∙ ap (λ k. (save_one q d).stack ((pointer d + save_offset k) / 4)) (sym e)
        ∙ update_same ((pointer d + save_offset q) / 4) (d.registers (place_register q)) d.stack
        ∙ ap (λ k. d.registers (place_register k)) e
    | inr ne ↦ (let t : nat_eq q p ≡ false = ne_eqb q p ne in
        let z : false ≡ true = sym (ap (λ b. b || has ps p) t ∙ f) ∙ h in absurd cc)
  ]
]
