-- The keys that a builder has mentioned, and its prelude.
use Rattle.std.proofs.Common.{◌≡◌, ℕ, zero, suc, ◌+◌, ◌<◌, ◌≤◌, ◌==◌, Bool, true, false, List, [], ◌∷◌}
use Rattle.std.proofs.Common.{◌++◌, length, Option, Some, None, refl, sym, ap, ◌∙◌, subst, nat_lt, if◌then◌else◌, arith}
use Rattle.std.proofs.lemmas.Bool.Decides.{nat_tests}
use Rattle.limits.specs.declared.program.TheConstants.{MOST_ARGUMENTS}
use Rattle.icode_ops.specs.declared.kind.BinKind.{BinKind}
use Rattle.icode_ops.specs.declared.kind.BinKind.TheVariants as bin
use Rattle.icode_ops.specs.declared.op.Op.TheVariants as op
use Rattle.icode_ir.specs.declared.build_op.BuildOp.{BuildOp}
use Rattle.icode_ir.specs.declared.build_op.BuildOp.TheVariants.{Bin, GetSpec, SetSpec}
use Rattle.icode_ir.specs.Build.{Build, find, first_mention, mention, operand}
use Rattle.icode_ir.specs.Rules.{checked, effect}
use Rattle.generator_laws.specs.Laws.{built_of}
use Rattle.generated_ops_proof.specs.Keys.{upto, zeroes, if_none, unmentioned, HasKey, told, one_low, low_keys}
use Rattle.generated_ops_proof.specs.Room.{in_all}
use Rattle.generated_ops_proof.proofs.Goes.{one_if}

-- ---- the prelude has an op for each key, in their order

told_more : (ms : List (ℕ × ℕ)) (key r : ℕ) → told (ms ++ (key, r) ∷ []) ≡ told ms ++ first_mention key r ∷ []
told_more [] key r = refl
told_more (m ∷ ms) key r = ap (λ z. first_mention m.0 m.1 ∷ z) (told_more ms key r)

abbrev IsTold : Build → Type 0
IsTold b = b.prelude ≡ told b.keys

mention_told : (o : Option ℕ) (key : ℕ) (b : Build) → IsTold b → IsTold (mention o key b)
mention_told (Some r) key b h = h
mention_told None key b h =
    ap (λ z. z ++ first_mention key b.registers ∷ []) h ∙ sym (told_more b.keys key b.registers)

checked_told : (kind : BinKind) (x y : ℕ) (b : Build) → IsTold b → IsTold (checked kind x y b)
checked_told bin.DivideSigned x y b h = h
checked_told bin.DivideUnsigned x y b h = h
checked_told bin.RemainderSigned x y b h = h
checked_told bin.RemainderUnsigned x y b h = h
checked_told _ x y b h = h

op_told : (o : BuildOp) (b : Build) → IsTold b → IsTold (effect o b)
op_told (Bin kind) b h = checked_told kind (operand 1 b) (operand 0 b) b h
op_told (GetSpec key) b h = mention_told (find key b.keys) key b h
op_told (SetSpec key) b h = mention_told (find key b.keys) key b h
op_told _ b h = h

pub all_told : (os : List BuildOp) (b : Build) → IsTold b → IsTold (built_of os b)
all_told [] b h = h
all_told (o ∷ os) b h = all_told os (effect o b) (op_told o b h)

-- ---- a key that an op names is mentioned

front_has : (key : ℕ) (m : ℕ × ℕ) (ms : List (ℕ × ℕ)) → HasKey key ms → HasKey key (m ∷ ms)
front_has key m ms h = by (key == m.0) refl
  where
    by : (b : Bool) → (key == m.0) ≡ b → HasKey key (m ∷ ms)
    by true e = record { register = m.1; found = rw e refl }
    by false e = record { register = h.register; found = rw e h.found }

more_has : (key : ℕ) (ms ns : List (ℕ × ℕ)) → HasKey key ms → HasKey key (ms ++ ns)
more_has key [] ns h = absurd (no h.found)
  where
    no : None ≡ Some h.register → ⊥
    no e = cc
more_has key (m ∷ ms) ns h =
    by (key == m.0) refl h.found (λ f. more_has key ms ns (record { register = h.register; found = f }))
  where
    by : (b : Bool) → (key == m.0) ≡ b → (if b then Some m.1 else find key ms) ≡ Some h.register
        → (find key ms ≡ Some h.register → HasKey key (ms ++ ns)) → HasKey key (m ∷ (ms ++ ns))
    by true e f rest = record { register = m.1; found = rw e refl }
    by false e f rest = front_has key m (ms ++ ns) (rest f)

last_has : (key r : ℕ) (ms : List (ℕ × ℕ)) → HasKey key (ms ++ (key, r) ∷ [])
last_has key r [] =
    let same : (key == key) ≡ true = grind (arith, nat_tests) in record { register = r; found = rw same refl }
last_has key r (m ∷ ms) = front_has key m (ms ++ (key, r) ∷ []) (last_has key r ms)

module _ (key : ℕ) where
  mention_keeps : (o : Option ℕ) (other : ℕ) (b : Build) → HasKey key b.keys → HasKey key (mention o other b).keys
  mention_keeps (Some r) other b h = h
  mention_keeps None other b h = more_has key b.keys ((other, b.registers) ∷ []) h

  mention_has : (o : Option ℕ) (b : Build) → find key b.keys ≡ o → HasKey key (mention o key b).keys
  mention_has (Some r) b e = record { register = r; found = e }
  mention_has None b e = last_has key b.registers b.keys

  checked_keeps : (kind : BinKind) (x y : ℕ) (b : Build) → HasKey key b.keys → HasKey key (checked kind x y b).keys
  checked_keeps bin.DivideSigned x y b h = h
  checked_keeps bin.DivideUnsigned x y b h = h
  checked_keeps bin.RemainderSigned x y b h = h
  checked_keeps bin.RemainderUnsigned x y b h = h
  checked_keeps _ x y b h = h

  op_keeps : (o : BuildOp) (b : Build) → HasKey key b.keys → HasKey key (effect o b).keys
  op_keeps (Bin kind) b h = checked_keeps kind (operand 1 b) (operand 0 b) b h
  op_keeps (GetSpec other) b h = mention_keeps (find other b.keys) other b h
  op_keeps (SetSpec other) b h = mention_keeps (find other b.keys) other b h
  op_keeps _ b h = h

  pub all_keep : (os : List BuildOp) (b : Build) → HasKey key b.keys → HasKey key (built_of os b).keys
  all_keep [] b h = h
  all_keep (o ∷ os) b h = all_keep os (effect o b) (op_keeps o b h)

-- whether an op names the key
abbrev pub names_key : ℕ → BuildOp → ℕ
names_key key (GetSpec other) = one_if (key == other)
names_key key (SetSpec other) = one_if (key == other)
names_key key _ = 0

same_key : (key other : ℕ) → 1 ≤ one_if (key == other) → other ≡ key
same_key key other some = by (key == other) refl some
  where
    by : (b : Bool) → (key == other) ≡ b → 1 ≤ one_if b → other ≡ key
    by true e le = let same : other ≡ key = grind (arith, nat_tests) in same
    by false e le = absurd (omega (arith, le))

pub op_mentions : (key : ℕ) (o : BuildOp) (b : Build) → 1 ≤ names_key key o → HasKey key (effect o b).keys
op_mentions key (GetSpec other) b some =
    subst (λ z. HasKey key (mention (find z b.keys) z b).keys) (sym (same_key key other some))
    (mention_has key (find key b.keys) b refl)
op_mentions key (SetSpec other) b some =
    subst (λ z. HasKey key (mention (find z b.keys) z b).keys) (sym (same_key key other some))
    (mention_has key (find key b.keys) b refl)
op_mentions key _ b some = absurd (omega (arith, some))

pub all_mention : (key : ℕ) (os : List BuildOp) (b : Build) → 1 ≤ in_all (names_key key) os
    → HasKey key (built_of os b).keys
all_mention key [] b some = absurd (omega (arith, some))
all_mention key (o ∷ os) b some = by (names_key key o) refl (all_mention key os (effect o b))
  where
    by : (n : ℕ) → names_key key o ≡ n → (1 ≤ in_all (names_key key) os → HasKey key (built_of os (effect o b)).keys)
        → HasKey key (built_of os (effect o b)).keys
    by zero e rest = rest (omega (arith, some, e))
    by (suc n) e rest = all_keep key os (effect o b) (op_mentions key o b (omega (arith, e)))

-- ---- so many locals, and parameters

pub told_parts : (ms : List (ℕ × ℕ)) → length (told ms) ≡ length (zeroes (told ms)) + low_keys ms
told_parts [] = omega arith
told_parts (m ∷ ms) = by (nat_lt m.0 MOST_ARGUMENTS) refl (told_parts ms)
  where
    by : (b : Bool) → nat_lt m.0 MOST_ARGUMENTS ≡ b → length (told ms) ≡ length (zeroes (told ms)) + low_keys ms
        → suc (length (told ms))
        ≡ length (zeroes ((if b then op.GetParameter m.1 m.0 else op.Const m.1 0) ∷ told ms))
        + (one_low b + low_keys ms)
    by true e rest = omega (arith, rest)
    by false e rest = omega (arith, rest)

pub low_there : (key : ℕ) (ms : List (ℕ × ℕ)) → key < MOST_ARGUMENTS → HasKey key ms → 1 ≤ low_keys ms
low_there key [] low h = absurd (no h.found)
  where
    no : None ≡ Some h.register → ⊥
    no e = cc
low_there key (m ∷ ms) low h =
    by (key == m.0) refl h.found (λ f. low_there key ms low (record { register = h.register; found = f }))
  where
    by : (b : Bool) → (key == m.0) ≡ b → (if b then Some m.1 else find key ms) ≡ Some h.register
        → (find key ms ≡ Some h.register → 1 ≤ low_keys ms)
        → 1 ≤ one_low (nat_lt m.0 MOST_ARGUMENTS) + low_keys ms
    by true e f rest =
        let same : m.0 ≡ key = grind (arith, nat_tests) in
        let is : nat_lt m.0 MOST_ARGUMENTS ≡ true = grind (arith, nat_tests) in
        let one : one_low (nat_lt m.0 MOST_ARGUMENTS) ≡ 1 = ap one_low is in omega (arith, one)
    by false e f rest = let more = rest f in omega (arith, more)

-- ---- the parameters that no op mentions

if_none_most : (o : Option ℕ) (k : ℕ) (ks : List ℕ) → length (if_none o k ks) ≤ 1 + length ks
if_none_most None k ks = omega arith
if_none_most (Some r) k ks = omega arith

pub unmentioned_few : (keys : List (ℕ × ℕ)) (k n : ℕ) → length (unmentioned keys (upto k n)) ≤ n
unmentioned_few keys k zero = omega arith
unmentioned_few keys k (suc n) =
    let most = if_none_most (find k keys) k (unmentioned keys (upto (suc k) n)) in
    omega (arith, most, unmentioned_few keys (suc k) n)

pub one_mentioned : (key : ℕ) (keys : List (ℕ × ℕ)) (k n : ℕ) → k ≤ key → key < k + n → HasKey key keys
    → length (unmentioned keys (upto k n)) + 1 ≤ n
one_mentioned key keys k zero low high h = absurd (omega (arith, low, high))
one_mentioned key keys k (suc n) low high h =
    by (k == key) refl (λ l g. one_mentioned key keys (suc k) n l g h)
  where
    by : (b : Bool) → (k == key) ≡ b
        → (suc k ≤ key → key < suc k + n → length (unmentioned keys (upto (suc k) n)) + 1 ≤ n)
        → length (unmentioned keys (upto k (suc n))) + 1 ≤ suc n
    by true e rest =
        let same : key ≡ k = grind (arith, nat_tests) in
        let here : find k keys ≡ Some h.register = ap (λ z. find z keys) (sym same) ∙ h.found in
        let skipped : length (if_none (find k keys) k (unmentioned keys (upto (suc k) n)))
        ≡ length (unmentioned keys (upto (suc k) n)) =
        ap (λ z. length (if_none z k (unmentioned keys (upto (suc k) n)))) here in
        omega (arith, skipped, unmentioned_few keys (suc k) n)
    by false e rest =
        let other : suc k ≤ key = grind (arith, nat_tests) in
        let more = rest other (omega (arith, high)) in
        let most = if_none_most (find k keys) k (unmentioned keys (upto (suc k) n)) in omega (arith, more, most)
