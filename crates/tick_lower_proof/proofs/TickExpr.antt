-- The machine follows a tick expression: its captures, a unit for each besides what they evaluate, and the ops that
-- make the specification.
use Rattle.std.proofs.Common.{◌≡◌, ℕ, suc, ◌+◌, ◌*◌, ◌<◌, List, [], ◌∷◌, length, Some, true, sym, ap, ◌∙◌, subst, arith}
use Rattle.std.specs.Prelude.{slice_get}
use Rattle.typed_tree.specs.declared.expression.CaptureKind.{CaptureKind}
use Rattle.typed_tree.specs.Nodes.{Expr, Tick, Capture, Args, Arg, has_value, count}
use Rattle.staged_meaning.specs.Size.{labels_in, temps_in}
use Rattle.staged_meaning.specs.Scope.{Scope}
use Rattle.staged_meaning.specs.World.{World, then_do, spend, with_shared}
use Rattle.staged_meaning.specs.Meaning.{eval, eval_args}
use Rattle.staged_meaning.specs.Program.{is_expression, tick_size}
use Rattle.staged_meaning.specs.Specifications.{kinds_of, specify_tick, specification_of, captures_of}
use Rattle.meaning_state.specs.Rows.{next_number, specified}
use Rattle.tick_lower_spec.specs.Lower.{expr_filled, args_filled, making_ops}
use Rattle.tick_lower_proof.proofs.Machine.{Regs, IsSame, same_set}
use Rattle.tick_lower_proof.proofs.Builder.{top, after_ops, after_append, stands_front}
use Rattle.tick_lower_proof.proofs.Builder.{stands_back, Has}
use Rattle.history.specs.Syntax.{Ticked}
use Rattle.tick_lower_proof.proofs.Pushes.{valued_brings}
use Rattle.tick_lower_proof.proofs.Follow.{From, Follows, follows_then}
use Rattle.tick_lower_proof.proofs.Ticks.{Beside}
use Rattle.tick_lower_proof.proofs.Builder.{NotKey, Among}
use Rattle.std.proofs.lemmas.Bool.Decides.{nat_tests}
use Rattle.std.specs.Prelude.{nat_lt, Bool}
use Rattle.std.proofs.Common.{inl, inr, ◌≤◌, false, refl}
use Rattle.tick_lower_proof.proofs.Machine.{same_on}
use Rattle.tick_lower_proof.proofs.Registers.{not_key, is_held, held_same, Within, AreHeld, AreBetween}
use Rattle.tick_lower_proof.proofs.Standing.{base_of, Site, floor_of, Fits, At, IsBack, Leaves, ExprRuns, Part, at_less}
use Rattle.tick_lower_proof.proofs.Standing.{spend_run, value_run, IsOutset}
use Rattle.tick_lower_proof.proofs.Exprs.{one_run}
use Rattle.tick_lower_proof.proofs.Callers.{onto, paired, Under, AreSet, held_under, held_set, ArgsLeave, ArgsRun}
use Rattle.tick_lower_proof.proofs.Smalls.{AreSmall}
use Rattle.tick_lower_proof.proofs.Makings.{checks_in}
use Rattle.tick_lower_proof.proofs.Ticks as tick
use Rattle.tick_lower_proof.proofs.TickNode.{node_ops, tick_run}
use Rattle.tick_lower_proof.proofs.TickOps.{making_apart, making_stands, making_leaves}

set_below : (n : ℕ) (r : Regs) (rs xs : List ℕ) → length xs ≡ length rs → Under n rs → AreSet r rs xs →
    tick.AreSet n r rs xs
set_below n r [] [] e b h = tt
set_below n r [] (x ∷ xs) e b h = absurd (omega (arith, e))
set_below n r (a ∷ rs) [] e b h = absurd h
set_below n r (a ∷ rs) (x ∷ xs) e b h = (b.0, h.0, set_below n r rs xs (omega (arith, e)) b.1 h.1)

-- registers beside those that were set hold what they held
same_held : (keys : List (ℕ × ℕ)) (high behind low : ℕ) (r r1 : Regs) (stack : List (ℕ × ℕ)) →
    AreBetween low high stack → ((y : ℕ) → Beside high behind y → IsSame r r1 y) → AreHeld keys r stack →
    AreHeld keys r1 stack
same_held keys high behind low r r1 [] b same h = tt
same_held keys high behind low r r1 (m ∷ stack) b same h =
    (held_same keys r r1 m.0 m.1 (same m.0 (inl b.1)) h.0, same_held keys high behind low r r1 stack b.2 same h.1)

-- and so do those of the keys
key_beside : (keys : List (ℕ × ℕ)) (high behind : ℕ) → ((x : ℕ) → high ≤ x → x < behind → NotKey keys x) →
    (key register : ℕ) → Among keys key register → Beside high behind register
key_beside keys high behind apart key register among = by (nat_lt register high) refl
  where
    by : (b : Bool) → nat_lt register high ≡ b → Beside high behind register
    by true e = inl (grind (arith, nat_tests, e))
    by false e = below (nat_lt register behind) refl
      where
        below : (c : Bool) → nat_lt register behind ≡ c → Beside high behind register
        below true f =
            absurd (not_key keys register key register
            (apart register (grind (arith, nat_tests, e)) (grind (arith, nat_tests, f))) among refl)
        below false f = inr (grind (arith, nat_tests, f))

module _ (site : Site) (scope : Scope) (inside : Within scope site.named) where
  -- a capture spends a unit of its own, for which the spare instruction of its expression stands
  pub capture_args : (k : CaptureKind) (a : Expr) (args : Args) → Part site scope a → has_value a ≡ true →
      ArgsRun site scope args → ArgsRun site scope (Arg (Capture k a) args)
  capture_args k a args part is run ok l t st tn v stack fits at from spare credit w lt z =
      let code = site.call.function.ops in
      let ao = expr_filled site.holes site.addresses a l t in
      let ro = args_filled site.holes site.addresses args (l + labels_in a) (t + temps_in a) in
      let v1 = after_ops ao v in
      let v2 = after_ops ro v1 in
      let r = top v1.operands in
      let n = count args in
      let p = valued_brings (has_value a) v v1 is (part.brings l t v) in
      let pushed_is : v1.operands ≡ r ∷ v.operands = p.operands ∙ ap (λ o. o ∷ v.operands) (sym (ap top p.operands)) in
      let B = IsBack site from in
      let V = ArgsLeave site from scope v v2 stack spare credit (suc n) in
      let M : ℕ → World → Type 0 = λ x w1. At site from scope v1.place ((r, x) ∷ stack) spare (credit + 128) 0 w1 in
      subst (λ y. Follows site.machine from (ArgsLeave site from scope v y stack spare credit (suc n)) B
      (eval_args site.context (Arg (Capture k a) args) w)) (sym (after_append ao ro v))
      (follows_then site.machine from (λ x w1. M x w1 × Fits site v1 ((r, x) ∷ stack)) V B
      (then_do (eval site.context a w) spend) _
      (one_run site scope inside a part is ok.0 l t st (omega arith) v stack fits (stands_front code site.keys ao ro v
      at) from
      spare credit w lt z (λ x w1. M x w1 × Fits site v1 ((r, x) ∷ stack)) spend
      (λ x w1 fits1 h.
      spend_run site from scope (λ y w2. M y w2 × Fits site v1 ((r, y) ∷ stack)) x v1.place ((r, x) ∷ stack) (spare + 1)
      (credit + 128) 0 spare (credit + 128) 0 w1 h (omega arith) (omega arith) (omega arith)
      (λ w2 fewer y. (y, fits1))))
      (λ x w1 m.
      follows_then site.machine from (ArgsLeave site from scope v1 v2 ((r, x) ∷ stack) spare (credit + 128) n) V B
      (eval_args site.context args w1) _
      (run ok.1 (l + labels_in a) (t + temps_in a) (omega arith) (omega arith) v1 ((r, x) ∷ stack) m.1
      (stands_back code site.keys ao ro v at) from spare (credit + 128) w1 lt m.0)
      (λ vs w2 y. record {
        registers = r ∷ y.registers;
        many = ap suc y.many;
        values = ap suc y.values;
        operands = y.operands ∙ ap (onto y.registers) pushed_is;
        under = (y.fits.below.1, y.under);
        fits = record { bodies_are = y.fits.bodies_are; free = y.fits.free; below = y.fits.below.2 };
        at = at_less site from scope v2.place (paired y.registers vs ((r, x) ∷ stack)) spare
            (credit + 128 + 128 * n) 0 spare (credit + 128 * suc n) 0 w2 (omega arith) (omega arith) y.at;
      })))

  -- A tick expression: `small` is what every run keeps, that each row is within the limit of sizes.
  pub tick_node : (t most : ℕ) (args : Args) → ArgsRun site scope args →
      site.context.program ≡ site.machine.source → site.machine.kinds t ≡ kinds_of args →
      length (kinds_of args) ≡ count args → site.addresses.ticks ≡ site.machine.source.ticks →
      site.machine.tick_at (site.addresses.generator_at t) ≡ Some t →
      tick_size (slice_get site.machine.source.ticks t) + most * count args < 4294967296 →
      ((from : From) (place : ℕ) (stack : List (ℕ × ℕ)) (spare credit debt : ℕ) (w : World) → IsOutset site from →
      At site from scope place stack spare credit debt w → AreSmall site.machine most w.shared.specifications) →
      ExprRuns site scope (Tick t args)
  tick_node t most args run source kinds_is many ticks_are there few small ok l tt1 st tn v stack fits at from spare
      credit w lt z =
      let P = site.machine in
      let c = site.context in
      let code = site.call.function.ops in
      let ao = args_filled site.holes site.addresses args l tt1 in
      let mo = making_ops site.addresses t (kinds_of args) in
      let v1 = after_ops ao v in
      let v2 = after_ops mo v1 in
      let n = count args in
      let V = Leaves true site from scope v2 stack spare credit in
      let base = base_of site.bodies in
      subst (λ y. Follows P from (Leaves true site from scope y stack spare credit) (IsBack site from)
      (eval c (Tick t args) w)) (sym (after_append ao mo v))
      (follows_then P from (ArgsLeave site from scope v v1 stack spare credit n) V (IsBack site from)
      (eval_args c args w) (specify_tick c.program t (kinds_of args))
      (run ok l tt1 st tn v stack fits (stands_front code site.keys ao mo v at) from spare credit w lt z)
      (λ vs w1 y.
      let rs = y.registers in
      let same : length vs ≡ length rs = y.values ∙ sym y.many in
      let e1 : length rs ≡ length (P.kinds t) = y.many ∙ sym many ∙ ap length (sym kinds_is) in
      let e2 : length vs ≡ length (P.kinds t) = y.values ∙ sym many ∙ ap length (sym kinds_is) in
      let e3 : length rs ≡ length (kinds_of args) = y.many ∙ sym many in
      let next = v1.next in
      let set = set_below next y.at.regs rs vs same y.under
      (held_set site.keys y.at.regs rs vs stack same y.at.held) in
      let has1 = making_stands code site.keys site.addresses t (kinds_of args) rs v.operands v1 e3 y.operands
      (stands_back code site.keys ao mo v at) in
      let has2 = subst (λ ks. Has code v1.place (node_ops (tick_size (slice_get site.addresses.ticks t))
      (site.addresses.generator_at t) (is_expression (slice_get site.addresses.ticks t)) ks rs next [])) (sym kinds_is)
      has1 in
      let has3 = subst (λ ts. Has code v1.place (node_ops (tick_size (slice_get ts t))
      (site.addresses.generator_at t) (is_expression (slice_get ts t)) (P.kinds t) rs next [])) ticks_are has2 in
      let after = making_leaves site.addresses t (kinds_of args) rs v.operands v1 e3 y.operands in
      let held = held_under site.keys y.at.regs rs vs stack y.at.held in
      let not_taken = making_apart code site.keys site.addresses t (kinds_of args) v1
      (stands_back code site.keys ao mo v at) in
      let checks_same0 : checks_in (P.kinds t) ≡ checks_in (kinds_of args) = ap checks_in kinds_is in
      let between = y.fits.below in
      let free = y.fits.free in
      let high = y.at.high in
      let low = y.at.low in
      let kn : length (P.kinds t) ≡ n = ap length kinds_is ∙ many in
      subst (λ p. Follows P from V (IsBack site from) (specify_tick p t (kinds_of args) vs w1)) (sym source)
      (subst (λ ks. Follows P from V (IsBack site from) (specify_tick P.source t ks vs w1)) kinds_is
      (tick_run P from site.call t (site.addresses.generator_at t) most w1 there
      (small from v1.place (paired rs vs stack) spare (credit + 128 * n) 0 w1 lt y.at) V (IsBack site from) rs vs next
      v1.place y.at.regs y.at.log [] e1 e2 set y.at.shared_is
      (subst (λ q. tick_size (slice_get P.source.ticks t) + most * q < 4294967296) (sym kn) few) has3 y.at.goes
      (omega (arith, high, kn))
      (λ m.
      let x = next_number w1.shared in
      let w2 = with_shared (specified (specification_of (is_expression (slice_get P.source.ticks t))
      (Ticked t (captures_of w1.shared.specifications (P.kinds t) vs))) (length vs) w1.shared) w1 in
      let sn = site.few in
      let z2 : At site from scope m.place ((m.register, x) ∷ stack) (spare + 3) (credit + 128 * n) (155 + 83 * n) w2 =
      record {
        regs = m.regs;
        keys = record {
          at = λ key register among.
              same_set y.at.regs m.regs register (w1.generated key)
              (m.same register (key_beside site.keys next (suc m.register) (λ x0 lo hi. not_taken x0 lo
              (let e = m.register_is in omega (arith, hi, e, checks_same0))) key register among))
              (y.at.keys.at key register among);
        };
        kept = record {
          at = λ x0 lt1 n.
              same_on site.outer y.at.regs m.regs x0 (y.at.kept.at x0 lt1 n)
              (m.same x0 (inl (omega (arith, lt1, free))));
        };
        log = m.log;
        goes = m.goes;
        vars = record {
          at = λ i h.
              let lt1 = inside.at i h in
              same_set y.at.regs m.regs (base + i) (w1.variables i)
              (m.same (base + i) (inl (omega (arith, lt1, free, sn)))) (y.at.vars.at i h);
        };
        held = (
          is_held (not_taken m.register (omega (arith, m.fresh)) (let e = m.register_is in omega (
            arith,
            e,
            checks_same0,
          )))
              m.number,
          same_held site.keys next (suc m.register) (floor_of site) y.at.regs m.regs stack between m.same held,
        );
        shared_is = m.shared_is;
        fewer = y.at.fewer;
        low = let q = m.low in omega (arith, q, low);
        high = let q = m.high in omega (arith, q, high, kn);
      } in
      let z3 = at_less site from scope m.place ((m.register, x) ∷ stack) (spare + 3) (credit + 128 * n) (155 + 83 * n)
      (spare + 3) credit 155 w2 (omega arith) (omega arith) z2 in
      let checks_same : checks_in (P.kinds t) ≡ checks_in (kinds_of args) = ap checks_in kinds_is in
      let place_is : m.place ≡ v2.place =
      let a = m.place_is in let b = after.place in omega (arith, a, b, checks_same, y.many, many) in
      let register_is : m.register ≡ top v2.operands =
      m.register_is ∙ ap (λ q. next + 2 + q) checks_same ∙ sym (ap top after.operands) in
      subst (λ q. Follows P from
      (λ u w3. At site from scope q ((top v2.operands, u) ∷ stack) (spare + 1) (credit + 128) 0 w3) (IsBack site from)
      (spend x w2)) place_is
      (subst (λ q. Follows P from
      (λ u w3. At site from scope m.place ((q, u) ∷ stack) (spare + 1) (credit + 128) 0 w3) (IsBack site from)
      (spend x w2)) register_is
      (value_run site from scope x m.place m.register stack (spare + 3) credit 155 spare credit w2 z3 (omega arith)
      (omega arith) (omega arith))))))))
