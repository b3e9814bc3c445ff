-- No row of the function table is inside of a live body: a run on a setting's code enters none.
use Rattle.std.proofs.Common.{◌≡◌, ◌≢◌, ℕ, zero, suc, ◌+◌, ◌-◌, ◌*◌, ◌%◌, ◌<◌, ◌≤◌, Bool, true, false, List}
use Rattle.std.proofs.Common.{Option, Some, None, refl, sym, ap, ◌∙◌, subst, arith, nat_eq, slice_get, if◌then◌else◌}
use Rattle.std.proofs.Common.{inl, inr}
use Rattle.std.proofs.lemmas.Bool.{cases_Bool, cases_lt}
use Rattle.std.proofs.lemmas.Bool.Decides.{nat_tests}
use Rattle.word32.specs.declared.map.TheConstants.{ARENA, FUNCTION_ROWS}
use Rattle.mips_encoder.specs.declared.instruction.Instr.{Instr}
use Rattle.mips_encoder.specs.Addresses.{past}
use Rattle.mips_model.specs.State.{Code}
use Rattle.mips_model.specs.Accesses.{arena_word}
use Rattle.mips_model.specs.Laws.{HasAt}
use Rattle.mips_model.specs.Told.{row_from}
use Rattle.mips_model_laws.proofs.Entrances.{AreNoEntries}
use Rattle.meaning_state.specs.Bodies.{Body}
use Rattle.meaning_state.specs.Rows.{numbered}
use Rattle.icode_expand_proof.specs.Settings.{Setting, Published}
use Rattle.icode_run_proof.proofs.Inside.{is_in}
use Rattle.icode_run_proof.proofs.Kept.{has_inside}
use Rattle.icode_run_proof.specs.Relation.{Base, Stood, functions_of, is_inside, body_address}

none_from : (count row at : ℕ) (table : ℕ → ℕ × ℕ) → ((n : ℕ) → n < row + count → (table n).0 ≢ at)
    → row_from count row at table ≡ None
unfolding row_from
none_from zero row at table other = refl
none_from (suc count) row at table other =
    by (nat_eq (table row).0 at) refl (none_from count (suc row) at table (λ n l. other n (omega (arith, l))))
  where
    by : (b : Bool) → nat_eq (table row).0 at ≡ b
        → row_from count (suc row) at table ≡ None
        → (if b then Some row else row_from count (suc row) at table) ≡ None
    by true t rest = absurd (other row (omega arith) (grind (arith, nat_tests, t)))
    by false t rest = rest

-- where a row stands that is published in the arena
pub record RowOf (b : Base) (s : Setting) (n a : ℕ) : Type 0 where
  pub place : ℕ
  pub body : Body
  pub there : slice_get s.made.bodies place ≡ Some body
  pub live : body.live ≡ true
  pub number : n ≡ suc (functions_of b + place)
  pub at : a ≡ body_address body

module _ (b : Base) (c : Code) (s : Setting) (stood : Stood b c s) where
  -- a row in the arena is that of a live body
  pub row_of_body : (n a k : ℕ) → s.program.row n ≡ Some (a, k) → ARENA ≤ a → RowOf b s n a
  row_of_body n a k is high = elim (cases_lt (functions_of b) n) [
    | inr l ↦ (let low = stood.present.rows n a k l is in absurd (omega (arith, high, low)))
    | inl l ↦ by (n - functions_of b) (numbered (n - functions_of b) s.made.bodies) refl refl l
  ]
    where
      found : (m : ℕ) (x : Body) → n - functions_of b ≡ suc m → functions_of b < n → slice_get s.made.bodies m ≡ Some x
          → RowOf b s n a
      found m x e over there =
          let number : n ≡ suc (functions_of b + m) = omega (arith, e, over) in
          let row_is : s.program.row (suc (functions_of b + m)) ≡ Some (a, k) =
          sym (ap s.program.row number) ∙ is in
          elim (cases_Bool x.live) [
            | inr dead ↦ (let none = stood.present.gone m x there dead in absurd (let z = sym row_is ∙ none in cc))
            | inl live ↦ (let row = (stood.present.each m x there live).row in
                let same = sym row_is ∙ row in
                record {
                  place = m;
                  body = x;
                  there = there;
                  live = live;
                  number = number;
                  at = ap (λ (o : Option (ℕ × ℕ)). address_or o) same;
                })
          ]
        where
          address_or : Option (ℕ × ℕ) → ℕ
          address_or None = 0
          address_or (Some p) = p.0

      by : (m : ℕ) (o : Option Body) → n - functions_of b ≡ m → numbered m s.made.bodies ≡ o → functions_of b < n
          → RowOf b s n a
      by m None e there over =
          let none = stood.extends.others n over (ap (λ (k : ℕ). numbered k s.made.bodies) e ∙ there) in
          absurd (let z = sym is ∙ none in cc)
      by zero (Some x) e there over = absurd (omega (arith, e, over))
      by (suc m) (Some x) e there over = found m x e over there

  outside_entry : (n a k at : ℕ) → s.program.row n ≡ Some (a, k) → ARENA ≤ at
      → is_inside s.made.bodies (arena_word at) ≡ true → a ≢ at
  outside_entry n a k at is high may e =
      let r = row_of_body n a k is (let same = e in omega (arith, same, high)) in
      let entry = (stood.present.each r.place r.body r.there r.live).entry in
      let address = r.at in
      let word : arena_word at ≡ r.body.first = omega (arith, e, address) in
      absurd (let z = sym entry ∙ sym (ap (is_inside s.made.bodies) word) ∙ may in cc)

  pub no_entries : (table : ℕ → ℕ × ℕ) → Published s.program table → AreNoEntries (is_inside s.made.bodies) table
  no_entries table p at high (inl low) = absurd (omega (arith, high, low))
  no_entries table p at high (inr may) =
      none_from FUNCTION_ROWS 0 at table (λ n l. by n l (s.program.row n) refl)
    where
      by : (n : ℕ) → n < FUNCTION_ROWS → (o : Option (ℕ × ℕ)) → s.program.row n ≡ o → (table n).0 ≢ at
      by n l None is e = let far = (p.others n l is).0 in omega (arith, far, e, high)
      by n l (Some row) is e =
          let there = (p.rows n row.0 row.1 is).1 in
          outside_entry n row.0 row.1 at is high may (sym (ap (λ (q : ℕ × ℕ). q.0) there) ∙ e)

  -- what stands behind the first word of a live body's function stands on the setting's code
  pub has_rest : (k : ℕ) (x : Body) → slice_get s.made.bodies k ≡ Some x → x.live ≡ true
      → (a : ℕ) (is : List Instr) → body_address x + 4 ≤ a → a % 4 ≡ 0
      → past a is ≤ ARENA + 4 * (x.first + x.count) → HasAt c a is → HasAt s.code a is
  has_rest k x there live a is from even to h =
      subst (λ (code : Code). HasAt code a is) (sym stood.code_is)
      (has_inside (is_inside s.made.bodies) c x.first (x.first + x.count)
      (λ n low high. is_in s.made.bodies k x n there live low high) a is from even to h)
