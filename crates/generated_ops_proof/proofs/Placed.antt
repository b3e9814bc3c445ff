-- The registers of the keys that a builder has mentioned, and how many of these are parameters.
use Rattle.std.proofs.Common.{◌≡◌, ℕ, zero, suc, ◌+◌, ◌<◌, ◌≤◌, Bool, true, false, List, []}
use Rattle.std.proofs.Common.{◌∷◌, ◌++◌, Option, Some, None, refl, ap, arith, nat_eq, nat_lt}
use Rattle.std.specs.Prelude.{if◌then◌else◌}
use Rattle.std.proofs.lemmas.Bool.Decides.{nat_tests}
use Rattle.limits.specs.declared.program.TheConstants.{MOST_ARGUMENTS}
use Rattle.meaning_state.specs.Rows.{is_among}
use Rattle.icode_ops.specs.declared.kind.BinKind.{BinKind}
use Rattle.icode_ops.specs.declared.kind.BinKind.TheVariants as bin
use Rattle.icode_ir.specs.declared.build_op.BuildOp.{BuildOp}
use Rattle.icode_ir.specs.declared.build_op.BuildOp.TheVariants.{Bin, GetSpec, SetSpec}
use Rattle.icode_ir.specs.Build.{Build, find, mention, operand}
use Rattle.icode_ir.specs.Rules.{checked, effect}
use Rattle.generator_laws.specs.Laws.{built_of}
use Rattle.generated_ops_proof.specs.Keys.{firsts, AreDistinct, IsNone, AreOnce, one_low, low_keys}
use Rattle.generated_ops_proof.proofs.Goes.{one_if}
use Rattle.generated_ops_proof.proofs.Sums.{sum_to, sums_agree}
use Rattle.generated_ops_proof.proofs.LocalSums.{sum_point}

abbrev AreBelow : ℕ → List (ℕ × ℕ) → Type 0
AreBelow r [] = Unit {0}
AreBelow r (m ∷ ms) = (m.1 < r) × AreBelow r ms

abbrev IsPlaced : Build → Type 0
IsPlaced b = AreBelow b.registers b.keys × AreOnce b.keys

higher : (r s : ℕ) (ms : List (ℕ × ℕ)) → r ≤ s → AreBelow r ms → AreBelow s ms
higher r s [] le h = tt
higher r s (m ∷ ms) le h = (omega (arith, le, h.0), higher r s ms le h.1)

last_below : (key r : ℕ) (ms : List (ℕ × ℕ)) → AreBelow r ms → AreBelow (r + 1) (ms ++ (key, r) ∷ [])
last_below key r [] h = (omega arith, tt)
last_below key r (m ∷ ms) h = (omega (arith, h.0), last_below key r ms h.1)

last_none : (x key r : ℕ) (ms : List (ℕ × ℕ)) → x < r → IsNone x ms → IsNone x (ms ++ (key, r) ∷ [])
last_none x key r [] low h = (λ e. absurd (omega (arith, low, e)), tt)
last_none x key r (m ∷ ms) low h = (h.0, last_none x key r ms low h.1)

last_once : (key r : ℕ) (ms : List (ℕ × ℕ)) → AreBelow r ms → AreOnce ms → AreOnce (ms ++ (key, r) ∷ [])
last_once key r [] low h = (tt, tt)
last_once key r (m ∷ ms) low h = (last_none m.1 key r ms low.0 h.0, last_once key r ms low.1 h.1)

mention_placed : (o : Option ℕ) (key : ℕ) (b : Build) → IsPlaced b → IsPlaced (mention o key b)
mention_placed (Some r) key b h = h
mention_placed None key b h = (last_below key b.registers b.keys h.0, last_once key b.registers b.keys h.0 h.1)

one_more : (b : Build) → IsPlaced b → AreBelow (b.registers + 1) b.keys × AreOnce b.keys
one_more b h = (higher b.registers (b.registers + 1) b.keys (omega arith) h.0, h.1)

checked_placed : (kind : BinKind) (x y : ℕ) (b : Build) → IsPlaced b → IsPlaced (checked kind x y b)
checked_placed bin.DivideSigned x y b h = h
checked_placed bin.DivideUnsigned x y b h = h
checked_placed bin.RemainderSigned x y b h = h
checked_placed bin.RemainderUnsigned x y b h = h
checked_placed _ x y b h = h

-- whatever else it adds, the registers grow
grown : (b after : Build) → after.keys ≡ b.keys → b.registers ≤ after.registers → IsPlaced b
    → AreBelow after.registers b.keys × AreOnce b.keys
grown b after same le h = (higher b.registers after.registers b.keys le h.0, h.1)

op_placed : (o : BuildOp) (b : Build) → IsPlaced b → IsPlaced (effect o b)
op_placed (Bin kind) b h =
    one_more (checked kind (operand 1 b) (operand 0 b) b) (checked_placed kind (operand 1 b) (operand 0 b) b h)
op_placed (GetSpec key) b h =
    one_more (mention (find key b.keys) key b) (mention_placed (find key b.keys) key b h)
op_placed (SetSpec key) b h = mention_placed (find key b.keys) key b h
op_placed o b h = grown b (effect o b) refl (omega arith) h

pub all_placed : (os : List BuildOp) (b : Build) → IsPlaced b → IsPlaced (built_of os b)
all_placed [] b h = h
all_placed (o ∷ os) b h = all_placed os (effect o b) (op_placed o b h)

-- ---- parameters

abbrev there : List (ℕ × ℕ) → ℕ → ℕ
there ms k = one_if (is_among k (firsts ms))

low_sum : (ms : List (ℕ × ℕ)) → AreDistinct ms → low_keys ms ≡ sum_to (there ms) MOST_ARGUMENTS
low_sum [] h = refl
low_sum (m ∷ ms) h = by (nat_lt m.0 MOST_ARGUMENTS) refl (low_sum ms h.1)
  where
    other : (k : ℕ) → nat_eq k m.0 ≡ false → there (m ∷ ms) k ≡ there ms k
    other k e = ap (λ z. one_if (if z then true else is_among k (firsts ms))) e

    here : there (m ∷ ms) m.0 ≡ 1 + there ms m.0
    here =
        let same : nat_eq m.0 m.0 ≡ true = grind (arith, nat_tests) in
        let one : there (m ∷ ms) m.0 ≡ 1 = ap (λ z. one_if (if z then true else is_among m.0 (firsts ms))) same in
        let none : there ms m.0 ≡ 0 = ap one_if h.0 in omega (arith, one, none)

    by : (b : Bool) → nat_lt m.0 MOST_ARGUMENTS ≡ b → low_keys ms ≡ sum_to (there ms) MOST_ARGUMENTS
        → one_low b + low_keys ms ≡ sum_to (there (m ∷ ms)) MOST_ARGUMENTS
    by true e rest =
        let low : m.0 < MOST_ARGUMENTS = grind (arith, nat_tests) in
        let one = sum_point (there (m ∷ ms)) (there ms) m.0 MOST_ARGUMENTS low other here in omega (arith, rest, one)
    by false e rest =
        let same = sums_agree (there (m ∷ ms)) (there ms) MOST_ARGUMENTS (λ i l. other i
        (let apart : nat_eq i m.0 ≡ false = grind (arith, nat_tests) in apart)) in omega (arith, rest, same)

one_most : (b : Bool) → one_if b ≤ 1
one_most true = omega arith
one_most false = omega arith

sum_most : (ms : List (ℕ × ℕ)) (n : ℕ) → sum_to (there ms) n ≤ n
sum_most ms zero = omega arith
sum_most ms (suc n) = omega (arith, sum_most ms n, one_most (is_among n (firsts ms)))

pub parameters_few : (ms : List (ℕ × ℕ)) → AreDistinct ms → low_keys ms ≤ MOST_ARGUMENTS
parameters_few ms h = omega (arith, low_sum ms h, sum_most ms MOST_ARGUMENTS)
