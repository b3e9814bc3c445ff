-- Sixteen bits with a sign, as they are written and read.
use Rattle.std.proofs.Common.{◌≡◌, ℕ, ◌-◌, ◌<◌, ◌≤◌, ◌==◌, true, false, not, ◌&&◌, nat_lt, nat_le, cond, ◌++◌, Some}
use Rattle.std.proofs.Common.{None, Ok, sym, ap, ◌∙◌, arith, codes, inl, inr, lt-ltb}
use Rattle.std.specs.Prelude.{decimal}
use Rattle.std.proofs.lemmas.Bool.{ne_eqb, cases_lt, le-ltb}
use Rattle.std.proofs.lemmas.Bool.Decides.{nat_tests}
use Rattle.asm_print.specs.Numbers as print
use Rattle.asm_words.specs.declared.number.Number.{Number}
use Rattle.asm_words.specs.Numbers.{number_of}
use Rattle.asm_passes.specs.Instructions.{fitting, below, signed}
use Rattle.mips_text_proof.proofs.Decimals.{number_decimal, negative_decimal}
use Rattle.mips_text_proof.proofs.Rows.{written}

-- The number that sixteen bits are.
abbrev pub half : ℕ → Number
half n = cond (nat_lt n 32768) (written n) (record { negative = true; magnitude = Some (65536 - n) })

pub number_half : (n : ℕ) → n < 65536 → number_of (print.signed_half n) ≡ Some (half n)
number_half n h =
    elim (cases_lt n 32768) [
      | inl lt ↦
          (ap (λ t. number_of (cond t (decimal n) (codes "-" ++ decimal (65536 - n)))) (lt-ltb n 32768 lt)
          ∙ number_decimal n (omega arith)
          ∙ sym (ap (λ t. Some (cond t (written n) (record { negative = true; magnitude = Some (65536 - n) })))
          (lt-ltb n 32768 lt)))
      | inr le ↦
          (ap (λ t. number_of (cond t (decimal n) (codes "-" ++ decimal (65536 - n)))) (le-ltb n 32768 le)
          ∙ negative_decimal (65536 - n) (omega arith)
          ∙ sym (ap (λ t. Some (cond t (written n) (record { negative = true; magnitude = Some (65536 - n) })))
          (le-ltb n 32768 le)))
    ]

signed_positive : (n : ℕ) → n < 32768 → signed (written n) ≡ Ok n
signed_positive n h = ap (λ t. fitting (cond t (Some n) None)) (lt-ltb n 32768 h)

signed_negative : (m : ℕ) → 0 < m → m ≤ 32768 → signed (record { negative = true; magnitude = Some m }) ≡ Ok (65536 - m)
signed_negative m some small =
    let nonzero : m == 0 ≡ false = ne_eqb m 0 (λ e. omega (arith, e, some)) in
    let fits : nat_le m 32768 ≡ true = grind (arith, nat_tests) in
    ap (λ t. fitting (cond (true && not t) (cond (nat_le m 32768) (Some (65536 - m)) None)
    (cond (nat_lt m 32768) (Some m) None))) nonzero
    ∙ ap (λ t. fitting (cond t (Some (65536 - m)) None)) fits

-- They fit their field as they are.
pub signed_fits : (n : ℕ) → n < 65536 → signed (half n) ≡ Ok n
signed_fits n h =
    elim (cases_lt n 32768) [
      | inl lt ↦ (ap (λ t. signed (cond t (written n) (record { negative = true; magnitude = Some (65536 - n) })))
          (lt-ltb n 32768 lt) ∙ signed_positive n lt)
      | inr le ↦
          (let e : 65536 - (65536 - n) ≡ n = omega arith in
          ap (λ t. signed (cond t (written n) (record { negative = true; magnitude = Some (65536 - n) })))
          (le-ltb n 32768 le)
          ∙ signed_negative (65536 - n) (omega arith) (omega arith) ∙ ap Ok e)
    ]

pub below_fits : (limit n : ℕ) → n < limit → below limit (written n) ≡ Ok n
below_fits limit n h = ap (λ t. fitting (cond t (Some n) None)) (lt-ltb n limit h)
