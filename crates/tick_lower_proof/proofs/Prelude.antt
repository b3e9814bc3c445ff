-- Ops in front of the body that set the registers of the keys, one for each, in the order of their first mention: they
-- open a call, and so does a list of ops that has them elsewhere.
use Rattle.std.proofs.Common.{◌≡◌, ⊎_elim, ℕ, zero, suc, ◌+◌, ◌*◌, ◌≤◌, List, [], ◌∷◌, length}
use Rattle.std.proofs.Common.{Some, Bool, true, false, refl, sym, ap, ◌∙◌, subst, arith}
use Rattle.std.specs.Prelude.{slice_get, nat_lt, if◌then◌else◌}
use Rattle.icode_ops.specs.declared.op.Op.TheVariants as op
use Rattle.icode_ir.specs.Build.{first_mention}
use Rattle.staged_meaning.specs.Meaning.{keys_at_entry}
use Rattle.staged_meaning.specs.Statements.{argument}
use Rattle.icode_meaning.specs.State.{Program, State, Log, log_of}
use Rattle.icode_meaning.specs.Steps.{paid, set_from}
use Rattle.tick_lower_proof.proofs.Machine.{Goes, goes_none, goes_more, Here, Regs, frame_at, at_op, goes_op, put}
use Rattle.tick_lower_proof.proofs.Machine.{put_same, put_other, IsSet, IsSame, same_set, same_on}
use Rattle.tick_lower_proof.proofs.Follow.{IsRunning}
use Rattle.tick_lower_spec.specs.Keys.{told, low_keys, IsNone, AreOnce}
use Rattle.tick_lower_proof.proofs.Builder.{Has}
use Rattle.tick_lower_proof.proofs.Opening.{blank, AreKeys, Opens}

-- how many are local variables
abbrev pub locals_in : List (ℕ × ℕ) → ℕ
locals_in [] = 0
locals_in (m ∷ keys) = (if nat_lt m.0 8 then 0 else 1) + locals_in keys

-- parameters were passed
abbrev pub ArePassed : Here → List ℕ → List (ℕ × ℕ) → Type 0
ArePassed h arguments [] = Unit {0}
ArePassed h arguments (m ∷ keys) =
    (nat_lt m.0 8 ≡ true → h.parameters m.0 ≡ Some (argument arguments m.0)) × ArePassed h arguments keys

module _ (P : Program) (h : Here) (arguments : List ℕ) where
  -- one key's op
  record One (key register p : ℕ) (r : Regs) (g : Log) : Type 0 where
    log : Log
    goes : Goes P (at_op h p r g) (at_op h (suc p) (put register (keys_at_entry arguments key) r) log)
    shared_is : log.shared ≡ g.shared
    low : g.least + (if nat_lt key 8 then 0 else 1) ≤ log.least
    high : log.most ≤ g.most + 7 * (if nat_lt key 8 then 1 else 0) + 5 * (if nat_lt key 8 then 0 else 1)

  one_key : (key register p : ℕ) (r : Regs) (g : Log) →
      (nat_lt key 8 ≡ true → h.parameters key ≡ Some (argument arguments key)) →
      slice_get h.function.ops p ≡ Some (first_mention key register) → One key register p r g
  one_key key register p r g passed here = by (nat_lt key 8) refl
    where
      by : (b : Bool) → nat_lt key 8 ≡ b → One key register p r g
      by true e =
          let o = op.GetParameter register key in
          let at = here ∙ ap (λ b. Some (if b then op.GetParameter register key else op.Const register 0)) e in
          let go = goes_op P h p r g o at refl in
          let x = argument arguments key in
          let go1 = subst (λ z. Goes P (at_op h p r g) (set_from o z register (frame_at h p r) h.waiting g)) (passed e)
          go
          in
          record {
            log = paid o g;
            goes = subst (λ y. Goes P (at_op h p r g) (at_op h (suc p) (put register y r) (paid o g)))
                (sym (ap (λ b. if b then argument arguments key else 0) e)) go1;
            shared_is = refl;
            low = rw e (omega arith);
            high = rw e (omega arith);
          }
      by false e =
          let o = op.Const register 0 in
          let at = here ∙ ap (λ b. Some (if b then op.GetParameter register key else op.Const register 0)) e in
          let go = goes_op P h p r g o at refl in
          record {
            log = paid o g;
            goes = subst (λ y. Goes P (at_op h p r g) (at_op h (suc p) (put register y r) (paid o g)))
                (sym (ap (λ b. if b then argument arguments key else 0) e)) go;
            shared_is = refl;
            low = rw e (omega arith);
            high = rw e (omega arith);
          }

  -- on the way from here, at which so many more local variables were paid for
  record Way (keys : List (ℕ × ℕ)) (p : ℕ) (r : Regs) (g : Log) (j : ℕ) : Type 0 where
    state : State
    goes : Goes P (at_op h p r g) state
    on : IsRunning state
    shared_is : (log_of state).shared ≡ g.shared
    low : g.least + j ≤ (log_of state).least
    high : (log_of state).most ≤ g.most + 7 * low_keys keys + 5 * j

  way : (keys : List (ℕ × ℕ)) (p : ℕ) (r : Regs) (g : Log) (j : ℕ) → j ≤ locals_in keys →
      ArePassed h arguments keys → Has h.function.ops p (told keys) → Way keys p r g j
  way keys p r g zero le passed has = record {
    state = at_op h p r g;
    goes = goes_none P (at_op h p r g);
    on = tt;
    shared_is = refl;
    low = omega arith;
    high = omega arith;
  }
  way [] p r g (suc j) le passed has = absurd (omega (arith, le))
  way (m ∷ keys) p r g (suc j) le passed has =
      let one = one_key m.0 m.1 p r g passed.0 has.0 in
      by one (nat_lt m.0 8) refl
      (λ i le1. way keys (suc p) (put m.1 (keys_at_entry arguments m.0) r) one.log i le1 passed.1 has.1)
    where
      by : (one : One m.0 m.1 p r g) (b : Bool) → nat_lt m.0 8 ≡ b →
          ((i : ℕ) → i ≤ locals_in keys →
          Way keys (suc p) (put m.1 (keys_at_entry arguments m.0) r) one.log i) → Way (m ∷ keys) p r g (suc j)
      by one true e more =
          let zero_is = ap (λ b. if b then zero else suc zero) e in
          let other_is = ap (λ b. if b then suc zero else zero) e in
          let w = more (suc j) (omega (arith, le, zero_is)) in record {
            state = w.state;
            goes = goes_more one.goes w.goes;
            on = w.on;
            shared_is = w.shared_is ∙ one.shared_is;
            low = let l = one.low in let q = w.low in omega (arith, l, q);
            high = let l = one.high in let q = w.high in omega (arith, l, q, zero_is, other_is);
          }
      by one false e more =
          let one_is = ap (λ b. if b then zero else suc zero) e in
          let other_is = ap (λ b. if b then suc zero else zero) e in
          let w = more j (omega (arith, le, one_is)) in record {
            state = w.state;
            goes = goes_more one.goes w.goes;
            on = w.on;
            shared_is = w.shared_is ∙ one.shared_is;
            low = let l = one.low in let q = w.low in omega (arith, l, q, one_is);
            high = let l = one.high in let q = w.high in omega (arith, l, q, one_is, other_is);
          }

  abbrev puts : List (ℕ × ℕ) → Regs → Regs
  puts [] r = r
  puts (m ∷ keys) r = puts keys (put m.1 (keys_at_entry arguments m.0) r)

  -- behind all of them: each key's register holds its variable, and no other register has changed
  record Set (keys : List (ℕ × ℕ)) (p : ℕ) (r : Regs) (g : Log) : Type 0 where
    log : Log
    goes : Goes P (at_op h p r g) (at_op h (p + length keys) (puts keys r) log)
    set : AreKeys keys (puts keys r) (keys_at_entry arguments)
    same : (x : ℕ) → IsNone x keys → IsSame r (puts keys r) x
    shared_is : log.shared ≡ g.shared
    low : g.least + locals_in keys ≤ log.least
    high : log.most ≤ g.most + 7 * low_keys keys + 5 * locals_in keys

  all_set : (keys : List (ℕ × ℕ)) (p : ℕ) (r : Regs) (g : Log) → AreOnce keys → ArePassed h arguments keys →
      Has h.function.ops p (told keys) → Set keys p r g
  all_set [] p r g once passed has = record {
    log = g;
    goes = subst (λ q. Goes P (at_op h p r g) (at_op h q r g)) (let e : p ≡ p + 0 = omega arith in e)
        (goes_none P (at_op h p r g));
    set = record { at = λ key register among. absurd among };
    same = λ x no'. record { on = refl; value = refl };
    shared_is = refl;
    low = omega arith;
    high = omega arith;
  }
  all_set (m ∷ keys) p r g once passed has =
      let one = one_key m.0 m.1 p r g passed.0 has.0 in
      let x = keys_at_entry arguments m.0 in
      let r1 = put m.1 x r in
      let rest = all_set keys (suc p) r1 one.log once.1 passed.1 has.1 in
      let e : suc p + length keys ≡ p + suc (length keys) = omega arith in
      record {
        log = rest.log;
        goes = subst (λ q. Goes P (at_op h p r g) (at_op h q (puts keys r1) rest.log)) e (goes_more one.goes rest.goes);
        set = record {
          at = λ key register among.
              ⊎_elim
              (λ (z : (m.0 ≡ key) × (m.1 ≡ register)).
              subst (λ k. IsSet (puts keys r1) register (keys_at_entry arguments k)) z.0
              (subst (λ a. IsSet (puts keys r1) a x) z.1
              (same_set r1 (puts keys r1) m.1 x (rest.same m.1 once.0) (put_same m.1 x r))))
              (λ z. rest.set.at key register z)
              among;
        };
        same = λ y no'.
            same_on r r1 (puts keys r1) y (put_other m.1 x y r (λ q. no'.0 (sym q))) (rest.same y no'.1);
        shared_is = rest.shared_is ∙ one.shared_is;
        low = let l = one.low in let q = rest.low in omega (arith, l, q);
        high = let l = one.high in let q = rest.high in omega (arith, l, q);
      }

  -- so a list of ops that begins with them opens a call
  pub prelude_opens : (nil : Log) (keys : List (ℕ × ℕ)) → AreOnce keys → ArePassed h arguments keys → low_keys keys ≤ 8
      →
      Has h.function.ops 0 (told keys) → Opens P h keys (length keys) (locals_in keys) arguments
  prelude_opens nil keys once passed few has =
      record {
        regs = puts keys blank;
        set = (all_set keys 0 blank nil once passed has).set;
        on_the_way = λ g j le.
            let w = way keys 0 blank g j le passed has in record {
              state = w.state;
              goes = w.goes;
              on = w.on;
              shared_is = w.shared_is;
              low = w.low;
              high = let q = w.high in omega (arith, q, few);
            };
        log = λ g. (all_set keys 0 blank g once passed has).log;
        goes = λ g.
            let e : 0 + length keys ≡ length keys = omega arith in
            subst (λ q. Goes P (at_op h 0 blank g)
            (at_op h q (puts keys blank) (all_set keys 0 blank g once passed has).log)) e
            (all_set keys 0 blank g once passed has).goes;
        shared_is = λ g. (all_set keys 0 blank g once passed has).shared_is;
        low = λ g. (all_set keys 0 blank g once passed has).low;
        high = λ g. let q = (all_set keys 0 blank g once passed has).high in omega (arith, q, few);
      }
