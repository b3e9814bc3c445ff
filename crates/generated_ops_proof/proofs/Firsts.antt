-- The keys that a builder has mentioned are those that its ops name, each once.
use Rattle.std.proofs.Common.{◌≡◌, ◌⊎◌, inl, inr, ⊎_elim, ℕ, suc, ◌≤◌, ◌==◌, Bool, true, false, List, []}
use Rattle.std.proofs.Common.{◌∷◌, ◌++◌, length, Option, Some, None, refl, sym, ap, ◌∙◌, arith, nat_eq, nat_lt}
use Rattle.std.specs.Prelude.{if◌then◌else◌}
use Rattle.std.proofs.lemmas.Bool.Decides.{nat_tests}
use Rattle.limits.specs.declared.program.TheConstants.{MOST_ARGUMENTS}
use Rattle.meaning_state.specs.Rows.{is_among, count_locals}
use Rattle.icode_ops.specs.declared.kind.BinKind.{BinKind}
use Rattle.icode_ops.specs.declared.kind.BinKind.TheVariants as bin
use Rattle.icode_ops.specs.declared.op.Op.TheVariants as op
use Rattle.icode_ir.specs.declared.build_op.BuildOp.{BuildOp}
use Rattle.icode_ir.specs.declared.build_op.BuildOp.TheVariants.{Bin, GetSpec, SetSpec}
use Rattle.icode_ir.specs.Build.{Build, find, mention, operand}
use Rattle.icode_ir.specs.Rules.{checked, effect}
use Rattle.generator_laws.specs.Laws.{built_of}
use Rattle.generated_ops_proof.specs.Keys.{zeroes, HasKey, told, firsts, AreDistinct}
use Rattle.generated_ops_proof.specs.Room.{in_all}
use Rattle.generated_ops_proof.proofs.Goes.{one_if}
use Rattle.generated_ops_proof.proofs.KeyOps.{among_both}
use Rattle.generated_ops_proof.proofs.Mentions.{names_key}

firsts_both : (ms ns : List (ℕ × ℕ)) → firsts (ms ++ ns) ≡ firsts ms ++ firsts ns
firsts_both [] ns = refl
firsts_both (m ∷ ms) ns = ap (λ z. m.0 ∷ z) (firsts_both ms ns)

pub has_first : (key : ℕ) (ms : List (ℕ × ℕ)) → HasKey key ms → is_among key (firsts ms) ≡ true
has_first key [] h = absurd (no h.found)
  where
    no : None ≡ Some h.register → ⊥
    no e = cc
has_first key (m ∷ ms) h =
    by (key == m.0) refl h.found (λ f. has_first key ms (record { register = h.register; found = f }))
  where
    by : (b : Bool) → (key == m.0) ≡ b → (if b then Some m.1 else find key ms) ≡ Some h.register
        → (find key ms ≡ Some h.register → is_among key (firsts ms) ≡ true)
        → (if nat_eq key m.0 then true else is_among key (firsts ms)) ≡ true
    by true e f rest =
        let same : nat_eq key m.0 ≡ true = grind (arith, nat_tests) in
        ap (λ z. if z then true else is_among key (firsts ms)) same
    by false e f rest = either (nat_eq key m.0) (is_among key (firsts ms)) (rest f)
      where
        either : (b c : Bool) → c ≡ true → (if b then true else c) ≡ true
        either true c e = refl
        either false c e = e

-- ---- none is mentioned that no op names

last_among : (key other r : ℕ) (ms : List (ℕ × ℕ)) → is_among key (firsts (ms ++ (other, r) ∷ [])) ≡ true
    → (is_among key (firsts ms) ≡ true) ⊎ (1 ≤ one_if (key == other))
last_among key other r ms h =
    ⊎_elim
    (λ l. inl l)
    (λ l. inr (by (nat_eq key other) refl l))
    (among_both key (firsts ms) (other ∷ [])
    (sym (ap (λ z. is_among key z) (firsts_both ms ((other, r) ∷ []))) ∙ h))
  where
    by : (b : Bool) → nat_eq key other ≡ b → (if b then true else false) ≡ true → 1 ≤ one_if (key == other)
    by true e l =
        let same : (key == other) ≡ true = grind (arith, nat_tests) in
        let one = ap one_if same in omega (arith, one)
    by false e l = absurd cc

module _ (key : ℕ) where
  abbrev Among : Build → Type 0
  Among b = is_among key (firsts b.keys) ≡ true

  mention_back : (o : Option ℕ) (other : ℕ) (b : Build) → Among (mention o other b)
      → Among b ⊎ (1 ≤ one_if (key == other))
  mention_back (Some r) other b h = inl h
  mention_back None other b h = last_among key other b.registers b.keys h

  checked_back : (kind : BinKind) (x y : ℕ) (b : Build) → Among (checked kind x y b) → Among b
  checked_back bin.DivideSigned x y b h = h
  checked_back bin.DivideUnsigned x y b h = h
  checked_back bin.RemainderSigned x y b h = h
  checked_back bin.RemainderUnsigned x y b h = h
  checked_back _ x y b h = h

  op_back : (o : BuildOp) (b : Build) → Among (effect o b) → Among b ⊎ (1 ≤ names_key key o)
  op_back (Bin kind) b h = inl (checked_back kind (operand 1 b) (operand 0 b) b h)
  op_back (GetSpec other) b h = mention_back (find other b.keys) other b h
  op_back (SetSpec other) b h = mention_back (find other b.keys) other b h
  op_back _ b h = inl h

  pub all_back : (os : List BuildOp) (b : Build) → Among (built_of os b) → Among b ⊎ (1 ≤ in_all (names_key key) os)
  all_back [] b h = inl h
  all_back (o ∷ os) b h =
      ⊎_elim
      (λ l. ⊎_elim (λ a. inl a) (λ s. inr (omega (arith, s))) (op_back o b l))
      (λ s. inr (omega (arith, s)))
      (all_back os (effect o b) h)

-- ---- and each once

last_apart : (x key r : ℕ) (ms : List (ℕ × ℕ)) → is_among x (firsts ms) ≡ false → nat_eq x key ≡ false
    → is_among x (firsts (ms ++ (key, r) ∷ [])) ≡ false
last_apart x key r [] h apart = ap (λ z. if z then true else false) apart
last_apart x key r (m ∷ ms) h apart = by (nat_eq x m.0) h (λ l. last_apart x key r ms l apart)
  where
    by : (b : Bool) → (if b then true else is_among x (firsts ms)) ≡ false
        → (is_among x (firsts ms) ≡ false → is_among x (firsts (ms ++ (key, r) ∷ [])) ≡ false)
        → (if b then true else is_among x (firsts (ms ++ (key, r) ∷ []))) ≡ false
    by true l rest = absurd cc
    by false l rest = rest l

last_distinct : (key r : ℕ) (ms : List (ℕ × ℕ)) → find key ms ≡ None → AreDistinct ms
    → AreDistinct (ms ++ (key, r) ∷ [])
last_distinct key r [] none h = (refl, tt)
last_distinct key r (m ∷ ms) none h = by (key == m.0) refl none (λ l. last_distinct key r ms l h.1)
  where
    by : (b : Bool) → (key == m.0) ≡ b → (if b then Some m.1 else find key ms) ≡ None
        → (find key ms ≡ None → AreDistinct (ms ++ (key, r) ∷ []))
        → (is_among m.0 (firsts (ms ++ (key, r) ∷ [])) ≡ false) × AreDistinct (ms ++ (key, r) ∷ [])
    by true e l rest = absurd cc
    by false e l rest =
        let apart : nat_eq m.0 key ≡ false = grind (arith, nat_tests) in (last_apart m.0 key r ms h.0 apart, rest l)

mention_distinct : (o : Option ℕ) (key : ℕ) (b : Build) → find key b.keys ≡ o → AreDistinct b.keys
    → AreDistinct (mention o key b).keys
mention_distinct (Some r) key b e h = h
mention_distinct None key b e h = last_distinct key b.registers b.keys e h

checked_distinct : (kind : BinKind) (x y : ℕ) (b : Build) → AreDistinct b.keys → AreDistinct (checked kind x y b).keys
checked_distinct bin.DivideSigned x y b h = h
checked_distinct bin.DivideUnsigned x y b h = h
checked_distinct bin.RemainderSigned x y b h = h
checked_distinct bin.RemainderUnsigned x y b h = h
checked_distinct _ x y b h = h

op_distinct : (o : BuildOp) (b : Build) → AreDistinct b.keys → AreDistinct (effect o b).keys
op_distinct (Bin kind) b h = checked_distinct kind (operand 1 b) (operand 0 b) b h
op_distinct (GetSpec key) b h = mention_distinct (find key b.keys) key b refl h
op_distinct (SetSpec key) b h = mention_distinct (find key b.keys) key b refl h
op_distinct _ b h = h

pub all_distinct : (os : List BuildOp) (b : Build) → AreDistinct b.keys → AreDistinct (built_of os b).keys
all_distinct [] b h = h
all_distinct (o ∷ os) b h = all_distinct os (effect o b) (op_distinct o b h)

-- so the prelude sets each local variable, and none twice
pub locals_told : (ms : List (ℕ × ℕ)) → AreDistinct ms → count_locals (firsts ms) ≡ length (zeroes (told ms))
locals_told [] h = refl
locals_told (m ∷ ms) h = by (nat_lt m.0 MOST_ARGUMENTS) (is_among m.0 (firsts ms)) h.0 (locals_told ms h.1)
  where
    by : (b c : Bool) → c ≡ false → count_locals (firsts ms) ≡ length (zeroes (told ms))
        → (if b then count_locals (firsts ms) else (if c then count_locals (firsts ms) else suc (count_locals
        (firsts ms)))) ≡ length (zeroes ((if b then op.GetParameter m.1 m.0 else op.Const m.1 0) ∷ told ms))
    by true c e rest = rest
    by false true e rest = absurd cc
    by false false e rest = omega (arith, rest)
