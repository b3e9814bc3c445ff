-- Data behind an op that calls a routine, with the callee-saved registers and the stack as they were before it: what
-- the routine leaves beside, and what is put to the result, are two steps.
use Rattle.std.proofs.Common.{◌≡◌, ◌≢◌, inl, inr, ℕ, ◌<◌, ◌≤◌, Bool, true, false}
use Rattle.std.proofs.Common.{refl, sym, ap, ◌∙◌, arith, nat_lt, nat_eq}
use Rattle.std.proofs.Common.{if◌then◌else◌, ◌⊎◌, not}
use Rattle.std.proofs.lemmas.Bool.Decides.{nat_tests}
use Rattle.mips_model.specs.State.{Data}
use Rattle.icode_templates.specs.Layout.{Spot}
use Rattle.icode_templates_proof.specs.Spots.{pointer, value, PutsTo, IsOther, register_of}
use Rattle.icode_expand_proof.specs.Frames.{Alike, IsCalleeSaved}

-- whether a register is callee-saved
abbrev pub is_saved : ℕ → Bool
is_saved r =
    if nat_lt r 8 then false
    else (if nat_lt r 12 then true
    else (if nat_lt r 16 then false
    else (if nat_lt r 24 then true
    else (if nat_lt r 26 then false else not (nat_eq r 31)))))

-- Data behind a step, but with the callee-saved registers and the stack as they were.
abbrev pub mixed : (d after : Data) → ℕ → ℕ
mixed d after r = if is_saved r then d.registers r else after.registers r

abbrev pub between : (d after : Data) → Data
between d after = record after { registers = mixed d after; stack = d.stack }

-- so is each register that the convention names
saved_is : (r : ℕ) → IsCalleeSaved r → is_saved r ≡ true
saved_is r h = first (nat_lt r 8) refl
  where
    last : (b : Bool) → nat_eq r 31 ≡ b → not b ≡ true
    last true t = absurd (h.1 (grind (arith, nat_tests, t)))
    last false t = refl

    fourth : (b : Bool) → nat_lt r 26 ≡ b → nat_lt r 24 ≡ false → (if b then false else not (nat_eq r 31)) ≡ true
    fourth true t u = absurd (neither (grind (arith, nat_tests, t, u)))
      where
        neither : (r ≡ 24) ⊎ (r ≡ 25) → ⊥
        neither (inl e) = h.0.1 e
        neither (inr e) = h.0.2 e
    fourth false t u = last (nat_eq r 31) refl

    third : (b : Bool) → nat_lt r 24 ≡ b
        → (if b then true else (if nat_lt r 26 then false else not (nat_eq r 31))) ≡ true
    third true t = refl
    third false t = fourth (nat_lt r 26) refl t

    second : (b : Bool) → nat_lt r 16 ≡ b → nat_lt r 12 ≡ false
        → (if b then false else (if nat_lt r 24 then true else (if nat_lt r 26 then false else not (nat_eq r 31))))
        ≡ true
    second true t u = absurd (neither h.2)
      where
        neither : (r < 12) ⊎ (16 ≤ r) → ⊥
        neither (inl low) = grind (arith, nat_tests, u, low)
        neither (inr high) = grind (arith, nat_tests, t, high)
    second false t u = third (nat_lt r 24) refl

    within : (b : Bool) → nat_lt r 12 ≡ b
        → (if b then true else (if nat_lt r 16 then false
        else (if nat_lt r 24 then true else (if nat_lt r 26 then false else not (nat_eq r 31))))) ≡ true
    within true t = refl
    within false t = second (nat_lt r 16) refl t

    first : (b : Bool) → nat_lt r 8 ≡ b
        → (if b then false else (if nat_lt r 12 then true else (if nat_lt r 16 then false
        else (if nat_lt r 24 then true else (if nat_lt r 26 then false else not (nat_eq r 31)))))) ≡ true
    first true t = absurd (let low = h.0.0 in grind (arith, nat_tests, t, low))
    first false t = within (nat_lt r 12) refl

-- and no other one
is_so : (r : ℕ) → is_saved r ≡ true → IsCalleeSaved r
is_so r e = first (nat_lt r 8) refl e
  where
    last : (b : Bool) → nat_eq r 31 ≡ b → nat_lt r 26 ≡ false → not b ≡ true → IsCalleeSaved r
    last true t u e = absurd cc
    last false t u e =
        let high : 26 ≤ r = grind (arith, nat_tests, u) in
        let other : r ≢ 31 = grind (arith, nat_tests, t) in
        ((omega (arith, high), omega (arith, high), omega (arith, high)), other, inr (omega (arith, high)))

    fourth : (b : Bool) → nat_lt r 26 ≡ b → (if b then false else not (nat_eq r 31)) ≡ true → IsCalleeSaved r
    fourth true t e = absurd cc
    fourth false t e = last (nat_eq r 31) refl t e

    third : (b : Bool) → nat_lt r 24 ≡ b → nat_lt r 16 ≡ false
        → (if b then true else (if nat_lt r 26 then false else not (nat_eq r 31))) ≡ true → IsCalleeSaved r
    third true t u e =
        let low : r < 24 = grind (arith, nat_tests, t) in
        let high : 16 ≤ r = grind (arith, nat_tests, u) in
        ((omega (arith, high), omega (arith, low), omega (arith, low)), omega (arith, low), inr high)
    third false t u e = fourth (nat_lt r 26) refl e

    second : (b : Bool) → nat_lt r 16 ≡ b
        → (if b then false else (if nat_lt r 24 then true else (if nat_lt r 26 then false else not (nat_eq r 31))))
        ≡ true → IsCalleeSaved r
    second true t e = absurd cc
    second false t e = third (nat_lt r 24) refl t e

    within : (b : Bool) → nat_lt r 12 ≡ b → nat_lt r 8 ≡ false
        → (if b then true else (if nat_lt r 16 then false
        else (if nat_lt r 24 then true else (if nat_lt r 26 then false else not (nat_eq r 31))))) ≡ true
        → IsCalleeSaved r
    within true t u e =
        let low : r < 12 = grind (arith, nat_tests, t) in
        let high : 8 ≤ r = grind (arith, nat_tests, u) in
        ((high, omega (arith, low), omega (arith, low)), omega (arith, low), inl low)
    within false t u e = second (nat_lt r 16) refl e

    first : (b : Bool) → nat_lt r 8 ≡ b
        → (if b then false else (if nat_lt r 12 then true else (if nat_lt r 16 then false
        else (if nat_lt r 24 then true else (if nat_lt r 26 then false else not (nat_eq r 31)))))) ≡ true
        → IsCalleeSaved r
    first true t e = absurd cc
    first false t e = within (nat_lt r 12) refl t e

pub between_alike : (d after : Data) → Alike d (between d after)
between_alike d after = record {
  registers = λ r h. ap (λ (b : Bool). if b then d.registers r else after.registers r) (saved_is r h);
  stack = λ n le. refl;
}

-- what the op writes beside is its result's spot
pub between_put : (spot : Spot) (x : ℕ) (d after : Data) → value after spot ≡ x
    → ((r : ℕ) → IsCalleeSaved r → r ≢ register_of spot → after.registers r ≡ d.registers r)
    → ((n : ℕ) → IsOther (pointer d) spot n → after.stack n ≡ d.stack n) → PutsTo spot x (between d after) after
between_put spot x d after is saved stack = record {
  value_is = is;
  registers = λ r k ne. by r ne (is_saved r) refl;
  stack = λ n o. stack n o;
  world = record {
    objects = refl;
    closures = refl;
    spec_rows = refl;
    cells = refl;
    emit_stack = refl;
    table = refl;
    outside = refl;
  };
}
  where
    by : (r : ℕ) → r ≢ register_of spot → (b : Bool) → is_saved r ≡ b → after.registers r ≡ mixed d after r
    by r ne true t =
        saved r (is_so r t) ne ∙ sym (ap (λ (b : Bool). if b then d.registers r else after.registers r) t)
    by r ne false t = sym (ap (λ (b : Bool). if b then d.registers r else after.registers r) t)
