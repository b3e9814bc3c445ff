-- What the builder issues for the making of a specification: the ops of a tick, over the registers of its captured
-- words.
use Rattle.std.proofs.Common.{◌≡◌, ℕ, suc, ◌+◌, List, [], ◌∷◌, ◌++◌, length, Option, Some, None, ap}
use Rattle.std.proofs.Common.{◌∙◌, subst, arith, zero, ◌<◌, ◌≤◌, ◌⊎◌, inl, inr, ⊎_elim}
use Rattle.std.specs.Prelude.{slice_get}
use Rattle.icode_ops.specs.declared.op.Op.{Op}
use Rattle.icode_ops.specs.declared.op.Op.TheVariants as op
use Rattle.icode_ops.specs.declared.kind.RunKind.{RunKind}
use Rattle.icode_ir.specs.declared.build_op.BuildOp.{BuildOp}
use Rattle.icode_ir.specs.declared.build_op.BuildOp.TheVariants as build
use Rattle.typed_tree.specs.declared.expression.CaptureKind.{CaptureKind}
use Rattle.staged_meaning.specs.Program.{is_expression, tick_size}
use Rattle.tick_lower_spec.specs.Lower.{Addresses, check_run, checking, checking_all, putting, nipping, making_ops}
use Rattle.tick_lower_spec.specs.Lower.{kind_of_tick}
use Rattle.tick_lower_proof.proofs.Builder.{View, NotKey, picked, dropped, after_ops, Stands, Has}
use Rattle.tick_lower_proof.proofs.Ticks.{check_op, check_ops, answered, put_ops}
use Rattle.tick_lower_proof.proofs.Makings.{checks_in, count_of, number_at, making_after}
use Rattle.tick_lower_proof.proofs.TickNode.{node_ops}
use Rattle.tick_lower_proof.proofs.Callers.{onto}

picked_onto : (rs operands : List ℕ) (n : ℕ) → picked (length rs + n) (onto rs operands) ≡ picked n operands
picked_onto [] operands n = let e : 0 + n ≡ n = omega arith in ap (λ m. picked m operands) e
picked_onto (r ∷ rs) operands n =
    let e : suc (length rs) + n ≡ length rs + suc n = omega arith in
    ap (λ m. picked m (onto (r ∷ rs) operands)) e ∙ picked_onto rs (r ∷ operands) (suc n)

picked_first : (r : ℕ) (rs operands : List ℕ) (n : ℕ) → length rs ≡ n → picked n (onto (r ∷ rs) operands) ≡ r
picked_first r rs operands n e =
    let q : n ≡ length rs + 0 = omega (arith, e) in
    ap (λ m. picked m (onto (r ∷ rs) operands)) q ∙ picked_onto rs (r ∷ operands) 0

dropped_onto : (rs operands : List ℕ) (n : ℕ) → dropped (length rs + n) (onto rs operands) ≡ dropped n operands
dropped_onto [] operands n = let e : 0 + n ≡ n = omega arith in ap (λ m. dropped m operands) e
dropped_onto (r ∷ rs) operands n =
    let e : suc (length rs) + n ≡ length rs + suc n = omega arith in
    ap (λ m. dropped m (onto (r ∷ rs) operands)) e ∙ dropped_onto rs (r ∷ operands) (suc n)

-- the checks: what they issue, and the builder behind them
module _ (code : List Op) (keys : List (ℕ × ℕ)) (rest : List BuildOp) where
  abbrev Behind : (v : View) → (ℕ → List Op) → Type 0
  Behind v more = (p next : ℕ) → Stands code keys rest (record v { place = p; next = next }) → Has code p (more next)

  checks_stand : (kinds : List CaptureKind) (rs base : List ℕ) (v : View) (more : ℕ → List Op) →
      length rs ≡ length kinds → v.operands ≡ onto rs base → Stands code keys (checking_all kinds ++ rest) v →
      Behind v more → Has code v.place (check_ops kinds rs v.next more)
  checks_stand [] [] base v more e o st last = last v.place v.next st
  checks_stand [] (r ∷ rs) base v more e o st last = absurd (omega (arith, e))
  checks_stand (k ∷ kinds) [] base v more e o st last = absurd (omega (arith, e))
  checks_stand (k ∷ kinds) (r ∷ rs) base v more e o st last =
      by (λ v1 e1 st1 last1. checks_stand kinds rs (r ∷ base) v1 more (omega (arith, e)) e1 st1 last1) (check_run k) st
    where
      by : ((v1 : View) → v1.operands ≡ onto rs (r ∷ base) → Stands code keys (checking_all kinds ++ rest) v1 →
          Behind v1 more → Has code v1.place (check_ops kinds rs v1.next more)) → (ro : Option RunKind) →
          Stands code keys ((checking ro (length kinds) ++ checking_all kinds) ++ rest) v →
          Has code v.place (check_op ro r v.next (check_ops kinds rs (answered ro v.next) more))
      by deeper None st1 = deeper v o st1 last
      by deeper (Some routine) st1 =
          let v1 : View = record v { place = suc v.place; next = v.next + 1 } in
          let q : v.next + 1 ≡ suc v.next = omega arith in
          let at : picked (length kinds) v.operands ≡ r =
          ap (picked (length kinds)) o ∙ picked_first r rs base (length kinds) (omega (arith, e)) in (
            subst (λ a. slice_get code v.place ≡ Some (op.Run routine v.next a)) at st1.1.0.0,
            subst (λ n. Has code (suc v.place) (check_ops kinds rs n more)) q (deeper v1 o st1.1.1.1 last),
          )

-- the words that are put, with the number above them
module _ (code : List Op) (keys : List (ℕ × ℕ)) (rest : List BuildOp) where
  puts_stand : (kinds : List CaptureKind) (rs base : List ℕ) (i number : ℕ) (v : View) (more : List Op) →
      length rs ≡ length kinds → v.operands ≡ number ∷ onto rs base → Stands code keys (putting i kinds ++ rest) v →
      ((p : ℕ) → Stands code keys rest (record v { place = p }) → Has code p more) →
      Has code v.place (put_ops i rs more)
  puts_stand [] [] base i number v more e o st last = last v.place st
  puts_stand [] (r ∷ rs) base i number v more e o st last = absurd (omega (arith, e))
  puts_stand (k ∷ kinds) [] base i number v more e o st last = absurd (omega (arith, e))
  puts_stand (k ∷ kinds) (r ∷ rs) base i number v more e o st last =
      let v1 : View = record v { place = suc v.place } in
      let at : picked (suc (length kinds)) v.operands ≡ r =
      ap (picked (suc (length kinds))) o ∙ picked_first r rs base (length kinds) (omega (arith, e)) in (
        subst (λ a. slice_get code v.place ≡ Some (op.Put i a)) at st.1.0.0,
        puts_stand kinds rs (r ∷ base) (suc i) number v1 more (omega (arith, e)) o st.1.1 last,
      )

-- whole: the builder has the captured words as its topmost operands
pub making_stands : (code : List Op) (keys : List (ℕ × ℕ)) (addresses : Addresses) (tick : ℕ) (kinds : List
    CaptureKind) (rs base : List ℕ)
    (v : View) → length rs ≡ length kinds → v.operands ≡ onto rs base →
    Stands code keys (making_ops addresses tick kinds) v →
    Has code v.place (node_ops (tick_size (slice_get addresses.ticks tick)) (addresses.generator_at tick)
    (is_expression (slice_get addresses.ticks tick)) kinds rs v.next [])
making_stands code keys addresses tick kinds rs base v e o st =
    let address = addresses.generator_at tick in
    let kind = kind_of_tick (is_expression (slice_get addresses.ticks tick)) in
    let v1 : View = record v { place = suc (suc v.place); next = v.next + 1 + 1 } in
    let q : v.next + 1 + 1 ≡ v.next + 2 = omega arith in
    let rest = build.New address kind (length kinds) ∷ (putting 0 kinds ++ nipping kinds) in
    let more = λ (n : ℕ). op.New n address kind (length kinds) ∷ put_ops 0 rs [] in (
      st.0.0,
      (
        st.1.0.0,
        subst (λ n. Has code (suc (suc v.place)) (check_ops kinds rs n more)) q
            (checks_stand code keys rest kinds rs base v1 more e o st.1.1.1
            (λ p n st2. (
              st2.0.0,
              puts_stand code keys (nipping kinds) kinds rs base 0 n
                  (record v { place = suc p; next = n + 1; operands = n ∷ v.operands }) [] e (ap (λ l. n ∷ l) o) st2.1
                  (λ p1 st3. tt),
            ))),
      ),
    )

-- ---- no register that they take is a key's

-- a number that isn't the least is greater
pub next_or : (a x : ℕ) → a ≤ x → (x < a + 1) ⊎ (a + 1 ≤ x)
next_or zero zero le = inl (omega arith)
next_or zero (suc x) le = inr (omega arith)
next_or (suc a) zero le = absurd (omega (arith, le))
next_or (suc a) (suc x) le =
    ⊎_elim (λ h. inl (omega (arith, h))) (λ h. inr (omega (arith, h))) (next_or a x (omega (arith, le)))

checks_apart : (code : List Op) (keys : List (ℕ × ℕ)) (o : BuildOp) (rest : List BuildOp) (kinds : List CaptureKind)
    (v : View) → Stands code keys (checking_all kinds ++ o ∷ rest) v →
    ((v1 : View) → Stands code keys (o ∷ rest) v1 → (x : ℕ) → v1.next ≤ x → x < v1.next + 1 → NotKey keys x) →
    (x : ℕ) → v.next ≤ x → x < v.next + checks_in kinds + 1 → NotKey keys x
checks_apart code keys o rest [] v st last x lo hi = last v st x lo (omega (arith, hi))
checks_apart code keys o rest (k ∷ kinds) v st last x0 lo0 hi0 =
    by (λ v1 st1. checks_apart code keys o rest kinds v1 st1 last) (check_run k) st x0 lo0 hi0
  where
    by : ((v1 : View) → Stands code keys (checking_all kinds ++ o ∷ rest) v1 → (x : ℕ) → v1.next ≤ x →
        x < v1.next + checks_in kinds + 1 → NotKey keys x) → (ro : Option RunKind) →
        Stands code keys ((checking ro (length kinds) ++ checking_all kinds) ++ o ∷ rest) v → (x : ℕ) → v.next ≤ x →
        x < v.next + (count_of ro + checks_in kinds) + 1 → NotKey keys x
    by deeper None st1 x lo hi = deeper v st1 x lo (omega (arith, hi))
    by deeper (Some routine) st1 x lo hi =
        let v1 : View = record v { place = suc v.place; next = v.next + 1 } in
        ⊎_elim (λ h. st1.1.0.1 x lo h) (λ h. deeper v1 st1.1.1.1 x h (omega (arith, hi))) (next_or v.next x lo)

pub making_apart : (code : List Op) (keys : List (ℕ × ℕ)) (addresses : Addresses) (tick : ℕ)
    (kinds : List CaptureKind) (v : View) → Stands code keys (making_ops addresses tick kinds) v → (x : ℕ) →
    v.next ≤ x → x < v.next + 2 + checks_in kinds + 1 → NotKey keys x
making_apart code keys addresses tick kinds v st x lo hi =
    let kind = kind_of_tick (is_expression (slice_get addresses.ticks tick)) in
    let v1 : View = record v { place = suc (suc v.place); next = v.next + 1 + 1 } in
    ⊎_elim (λ h. st.0.1 x lo h)
    (λ h.
    ⊎_elim (λ k. st.1.0.1 x h k)
    (λ k. checks_apart code keys (build.New (addresses.generator_at tick) kind (length kinds))
    (putting 0 kinds ++ nipping kinds) kinds v1 st.1.1.1 (λ v2 st2 y l m. st2.0.1 y l m) x k (omega (arith, hi)))
    (next_or (v.next + 1) x h))
    (next_or v.next x lo)

-- the builder behind them
pub record MakingAfter (addresses : Addresses) (tick : ℕ) (kinds : List CaptureKind) (base : List ℕ) (v : View) :
    Type 0 where
  pub place : (after_ops (making_ops addresses tick kinds) v).place ≡ v.place + 2 + checks_in kinds + 1 + length kinds
  pub operands : (after_ops (making_ops addresses tick kinds) v).operands ≡ (v.next + 2 + checks_in kinds) ∷ base

pub making_leaves : (addresses : Addresses) (tick : ℕ) (kinds : List CaptureKind) (rs base : List ℕ) (v : View) →
    length rs ≡ length kinds → v.operands ≡ onto rs base → MakingAfter addresses tick kinds base v
making_leaves addresses tick kinds rs base v e o =
    let whole = making_after addresses tick kinds v in
    let q : length kinds ≡ length rs + 0 = omega (arith, e) in
    let left : dropped (length kinds) v.operands ≡ base =
    ap (dropped (length kinds)) o ∙ ap (λ n. dropped n (onto rs base)) q ∙ dropped_onto rs base 0 in
    record {
      place = ap (λ z. z.place) whole;
      operands = ap (λ z. z.operands) whole ∙ ap (λ l. number_at kinds v ∷ l) left;
    }
