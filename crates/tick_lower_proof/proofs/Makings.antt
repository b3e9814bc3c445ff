-- The ops that make a specification: where the builder is behind them, and that they name no label.
use Rattle.std.proofs.Common.{◌≡◌, ℕ, suc, ◌+◌, ◌≤◌, List, [], ◌∷◌, ◌++◌, length, Option, Some, None, refl}
use Rattle.std.proofs.Common.{ap, ◌∙◌, arith}
use Rattle.std.specs.Prelude.{slice_get}
use Rattle.icode_ops.specs.declared.kind.RunKind.{RunKind}
use Rattle.icode_ir.specs.declared.build_op.BuildOp.TheVariants as build
use Rattle.typed_tree.specs.declared.expression.CaptureKind.{CaptureKind}
use Rattle.typed_tree.specs.Nodes.{Args, NoArg, Arg, count}
use Rattle.staged_meaning.specs.Program.{is_expression}
use Rattle.staged_meaning.specs.Specifications.{kinds_of}
use Rattle.tick_lower_spec.specs.Lower.{Addresses, check_run, checking, checking_all, putting, nipping, making_ops}
use Rattle.tick_lower_spec.specs.Lower.{kind_of_tick}
use Rattle.tick_lower_proof.proofs.Builder.{View, top, below, dropped, after_op, after_ops, after_append, Pushes, Piles}

-- there is a kind for each capture
pub many_kinds : (args : Args) → length (kinds_of args) ≡ count args
many_kinds NoArg = refl
many_kinds (Arg e args) = ap suc (many_kinds args)

-- how many captures are checked
abbrev pub count_of : Option RunKind → ℕ
count_of None = 0
count_of (Some routine) = 1

abbrev pub checks_in : List CaptureKind → ℕ
checks_in [] = 0
checks_in (k ∷ kinds) = count_of (check_run k) + checks_in kinds

few_of : (r : Option RunKind) → count_of r ≤ 1
few_of None = omega arith
few_of (Some routine) = omega arith

pub few_checked : (kinds : List CaptureKind) → checks_in kinds ≤ length kinds
few_checked [] = omega arith
few_checked (k ∷ kinds) = omega (arith, few_of (check_run k), few_checked kinds)

-- ---- the builder behind them

checks_after : (kinds : List CaptureKind) (v : View) →
    after_ops (checking_all kinds) v
    ≡ record v { place = v.place + checks_in kinds; next = v.next + checks_in kinds }
checks_after [] v =
    let e : v.place ≡ v.place + 0 = omega arith in
    let q : v.next ≡ v.next + 0 = omega arith in
    ap (λ p. record v { place = p }) e ∙ ap (λ n. record v { place = v.place + 0; next = n }) q
checks_after (k ∷ kinds) v = by (λ v1. checks_after kinds v1) (check_run k)
  where
    by : ((v1 : View) → after_ops (checking_all kinds) v1
        ≡ record v1 { place = v1.place + checks_in kinds; next = v1.next + checks_in kinds }) → (ro : Option RunKind) →
        after_ops (checking ro (length kinds) ++ checking_all kinds) v
        ≡ record v {
          place = v.place + (count_of ro + checks_in kinds);
          next = v.next + (count_of ro + checks_in kinds);
        }
    by deeper None =
        let e : v.place + checks_in kinds ≡ v.place + (0 + checks_in kinds) = omega arith in
        let q : v.next + checks_in kinds ≡ v.next + (0 + checks_in kinds) = omega arith in
        deeper v ∙ ap (λ p. record v { place = p; next = v.next + checks_in kinds }) e
        ∙ ap (λ n. record v { place = v.place + (0 + checks_in kinds); next = n }) q
    by deeper (Some routine) =
        let v1 : View = record v { place = suc v.place; next = v.next + 1 } in
        let e : suc v.place + checks_in kinds ≡ v.place + (1 + checks_in kinds) = omega arith in
        let q : v.next + 1 + checks_in kinds ≡ v.next + (1 + checks_in kinds) = omega arith in
        deeper v1 ∙ ap (λ p. record v { place = p; next = v.next + 1 + checks_in kinds }) e
        ∙ ap (λ n. record v { place = v.place + (1 + checks_in kinds); next = n }) q

puts_after : (kinds : List CaptureKind) (i : ℕ) (v : View) →
    after_ops (putting i kinds) v ≡ record v { place = v.place + length kinds }
puts_after [] i v = let e : v.place ≡ v.place + 0 = omega arith in ap (λ p. record v { place = p }) e
puts_after (k ∷ kinds) i v =
    let e : suc v.place + length kinds ≡ v.place + suc (length kinds) = omega arith in
    puts_after kinds (suc i) (record v { place = suc v.place }) ∙ ap (λ p. record v { place = p }) e

-- the words go from below the number
nips_after : (kinds : List CaptureKind) (number : ℕ) (v : View) (operands : List ℕ) →
    v.operands ≡ number ∷ operands →
    after_ops (nipping kinds) v ≡ record v { operands = number ∷ dropped (length kinds) operands }
nips_after [] number v operands e = ap (λ l. record v { operands = l }) e
nips_after (k ∷ kinds) number v operands e =
    nips_after kinds number (after_op build.Nip v) (below operands) (ap (λ l. top l ∷ below (below l)) e)

-- the register of the new number
abbrev pub number_at : List CaptureKind → View → ℕ
number_at kinds v = v.next + 2 + checks_in kinds

pub making_after : (addresses : Addresses) (tick : ℕ) (kinds : List CaptureKind) (v : View) →
    after_ops (making_ops addresses tick kinds) v
    ≡ record v {
      place = v.place + 2 + checks_in kinds + 1 + length kinds;
      next = number_at kinds v + 1;
      operands = number_at kinds v ∷ dropped (length kinds) v.operands;
    }
making_after addresses tick kinds v =
    let kind = kind_of_tick (is_expression (slice_get addresses.ticks tick)) in
    let new = build.New (addresses.generator_at tick) kind (length kinds) in
    let v1 : View = record v { place = suc (suc v.place); next = v.next + 1 + 1 } in
    let rest = new ∷ (putting 0 kinds ++ nipping kinds) in
    let v2 : View = record v1 { place = v1.place + checks_in kinds; next = v1.next + checks_in kinds } in
    let v3 = after_op new v2 in
    let v4 : View = record v3 { place = v3.place + length kinds } in
    let n = v.next + 1 + 1 + checks_in kinds in
    let e : n ≡ number_at kinds v = omega arith in
    let q : suc (suc (suc v.place) + checks_in kinds) + length kinds
    ≡ v.place + 2 + checks_in kinds + 1 + length kinds = omega arith in
    after_append (checking_all kinds) rest v1 ∙ ap (after_ops rest) (checks_after kinds v1)
    ∙ after_append (putting 0 kinds) (nipping kinds) v3 ∙ ap (after_ops (nipping kinds)) (puts_after kinds 0 v3)
    ∙ nips_after kinds n v4 v.operands refl
    ∙ ap (λ m. record v {
      place = suc (suc (suc v.place) + checks_in kinds) + length kinds;
      next = m + 1;
      operands = m ∷ dropped (length kinds) v.operands;
    }) e
    ∙ ap (λ p. record v {
      place = p;
      next = number_at kinds v + 1;
      operands = number_at kinds v ∷ dropped (length kinds) v.operands;
    }) q

-- the captured words become one operand
pub making_push : (addresses : Addresses) (tick n : ℕ) (kinds : List CaptureKind) (v v1 : View) → length kinds ≡ n →
    Piles n v v1 → Pushes v (after_ops (making_ops addresses tick kinds) v1)
making_push addresses tick n kinds v v1 e p =
    let is = making_after addresses tick kinds v1 in
    let many = ap (λ m. number_at kinds v1 ∷ dropped m v1.operands) e in
    let next = ap (λ z. z.next) is in
    record {
      operand = number_at kinds v1;
      operands = ap (λ z. z.operands) is ∙ many ∙ ap (λ l. number_at kinds v1 ∷ l) p.operands;
      fresh = omega (arith, p.next);
      used = omega (arith, next);
      bodies = ap (λ z. z.bodies) is ∙ p.bodies;
    }
