-- A function whose ops call none but those whose addresses are known has these ops wherever the others stand.
use Rattle.std.proofs.Common.{◌≡◌, ℕ, zero, suc, ◌-◌, ◌==◌, ◌||◌, ◌⊎◌, ⊎_elim, inl, inr, Bool, true, false, List}
use Rattle.std.proofs.Common.{[], ◌∷◌, ◌++◌, map, slice_index, refl, sym, ap, ◌∙◌}
use Rattle.icode_ops.specs.declared.op.Op.{Op}
use Rattle.icode_ops.specs.declared.op.Op.TheVariants as op
use Rattle.typed_tree.specs.Nodes.{Function}
use Rattle.staged_meaning.specs.Program.{Tick}
use Rattle.tick_lower_spec.specs.Lower.{Addresses, listed}
use Rattle.tick_lower_proof.specs.Laws.{code_of}
use Rattle.static_image.proofs.Unaddressed.{sent_op, to_address, by_number, code_sent}
use Rattle.static_backend.specs.Calls.{goes_nowhere, calls_unknown}

-- a function that has an address here has it there too
abbrev pub IsKnown : (ℕ → ℕ) → (ℕ → ℕ) → Type 0
IsKnown a b = (n : ℕ) → (a n ≡ 0) ⊎ (a n ≡ b n)

neither : (p q : Bool) → (p || q) ≡ false → (p ≡ false) × (q ≡ false)
neither false q h = (refl, h)
neither true q h = absurd cc

zero_found : (n : ℕ) → n ≡ 0 → (n == 0) ≡ false → ⊥
zero_found n is h = let same = ap (λ (k : ℕ). k == 0) is in absurd cc

module _ (d e : Addresses) (known : IsKnown d.function_at e.function_at)
    (made : IsKnown d.generator_at e.generator_at) where
  op_known : (o : Op) → goes_nowhere (sent_op (to_address d) o) ≡ false →
      sent_op (to_address d) o ≡ sent_op (to_address e) o
  op_known (op.Call n) h =
      ⊎_elim (λ none. absurd (zero_found (d.function_at n) none h)) (λ same. ap op.Call same) (known n)
  op_known (op.New to tick kind captures) h =
      ⊎_elim (λ none. absurd (zero_found (d.generator_at tick) none h))
      (λ same. ap (λ a. op.New to a kind captures) same)
      (made tick)
  op_known o h = refl

  ops_known : (os : List Op) → calls_unknown (map (sent_op (to_address d)) os) ≡ false →
      map (sent_op (to_address d)) os ≡ map (sent_op (to_address e)) os
  ops_known [] h = refl
  ops_known (o ∷ os) h =
      let here = sent_op (to_address d) in
      let split = neither (goes_nowhere (here o)) (calls_unknown (map here os)) h in
      ap (λ (z : Op). z ∷ map here os) (op_known o split.0)
      ∙ ap (λ (zs : List Op). sent_op (to_address e) o ∷ zs) (ops_known os split.1)

-- where both have the same ticks
pub code_known : (d e : Addresses) → by_number d ≡ by_number e → IsKnown d.function_at e.function_at →
    IsKnown d.generator_at e.generator_at → (f : Function) →
    calls_unknown (code_of d f) ≡ false → code_of d f ≡ code_of e f
code_known d e ticks known made f h =
    let here = code_sent d f in
    sym here
    ∙ ops_known d e known made (code_of (by_number d) f) (ap calls_unknown here ∙ h)
    ∙ ap (λ (a : Addresses). map (sent_op (to_address e)) (code_of a f)) ticks
    ∙ code_sent e f

front_known : (ss ts : List ℕ) (n : ℕ) → (slice_index ss n ≡ 0) ⊎ (slice_index ss n ≡ slice_index (ss ++ ts) n)
front_known [] ts n = inl refl
front_known (s ∷ ss) ts zero = inr refl
front_known (s ∷ ss) ts (suc n) = front_known ss ts n

-- the first addresses of a program are known
pub listed_known : (ss ts gs : List ℕ) (ticks : List Tick) →
    IsKnown (listed ss [] ticks).function_at (listed (ss ++ ts) gs ticks).function_at
listed_known ss ts gs ticks n = front_known ss ts (n - 1)
