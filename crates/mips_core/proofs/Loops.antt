-- Instructions one after another.
use Rattle.std.proofs.Common.{◌≡◌, ℕ, ◌+◌, ◌<◌, false, None, refl, sym, ap, ◌∙◌, arith, subst, ⊎_elim}
use Rattle.std.specs.Fn.{iterate}
use Rattle.std.specs.Prelude.{slice_index}
use Rattle.std.proofs.Math.ListN.{replicate}
use Rattle.std.proofs.lemmas.Bool.{cases_lt}
use Rattle.std.proofs.lemmas.List.{get_or-replicate, get_or_past, length-replicate}
use Rattle.pace.proofs.Runs.{iterate_add}
use Rattle.mips_model.specs.State.{State, World}
use Rattle.mips_model.specs.Steps.{step}
use Rattle.mips_model.specs.Beside.{beside, is_at_service}
use Rattle.mips_model.proofs.Aside.{step_aside}
use Rattle.flat_memory.specs.Spaces.{Spaces}
use Rattle.code_arena.specs.Arena.{Arena}
use Rattle.mips_core.specs.Core.{CoreKept, GoesOn, begun, state_of, world_of, ending_from}

pub goes_none : (k : CoreKept) → GoesOn 0 k k
goes_none k = record {
  ran = λ o. refl;
  alive = λ o m lt. absurd (none m lt);
  others = λ o m lt. absurd (none m lt);
}
  where
    none : (m : ℕ) → m < 0 → ⊥
    none m lt = omega (arith, lt)

pub goes_more : {count : ℕ} {old mid new : CoreKept} → GoesOn count old mid → mid.stopped ≡ None →
    is_at_service (state_of mid) ≡ false
    → world_of new ≡ step (world_of mid) → GoesOn (count + 1) old new
goes_more {count} {old} {mid} {new} f on service is = record {
  ran = λ o.
      iterate_add step count 1 (beside o (world_of old))
      ∙ ap step (f.ran o)
      ∙ step_aside (world_of mid) o service
      ∙ ap (beside o) (sym is);
  alive = λ o m lt. ⊎_elim
      (λ le. f.alive o m le)
      (λ le. let e : m ≡ count = omega (arith, lt, le) in
      ap (λ k. (iterate step k (beside o (world_of old))).ending) e ∙ ap (λ (w : World). w.ending) (f.ran o) ∙
      ap ending_from on)
      (cases_lt m count);
  others = λ o m lt. ⊎_elim
      (λ le. f.others o m le)
      (λ le. let e : m ≡ count = omega (arith, lt, le) in
      ap (λ k. is_at_service (iterate step k (beside o (world_of old))).state) e
      ∙ ap (λ (w : World). is_at_service w.state) (f.ran o) ∙ service)
      (cases_lt m count);
}

pub goes_count : {a b : ℕ} {old new : CoreKept} → a ≡ b → GoesOn a old new → GoesOn b old new
goes_count {a} {b} {old} {new} e f = subst (λ k. GoesOn k old new) e f

zero_at : (n r : ℕ) → slice_index (replicate n 0) r ≡ 0
zero_at n r =
    ⊎_elim
    (λ lt. get_or-replicate n r 0 0 lt)
    (λ le. get_or_past (replicate n 0) r 0 (let e = length-replicate {A = ℕ} n 0 in omega (arith, e)))
    (cases_lt r n)

-- a state that begins, with these registers and this next address
abbrev pub with : (ℕ → ℕ) → ℕ → State → State
with f next s = record s { next = next; d = record s.d { registers = f } }

pub begun_with : (s : State) (next : ℕ) → s.d.registers ≡ (λ r. 0) → next ≡ s.next →
    with (slice_index (replicate 32 0)) next s ≡ s
begun_with s next zeros is =
    ap {A = ℕ} {B = State} (λ n. with (slice_index (replicate 32 0)) n s) is
    ∙ ap {A = ℕ → ℕ} {B = State} (λ f. with f s.next s) ((λ i r. zero_at 32 r i) ∙ sym zeros)

-- the same beginning in other words
pub begins : {entry n : ℕ} {m q : Spaces} {a b : Arena} {t u : ℕ → ℕ × ℕ} → entry ≡ n → m ≡ q → a ≡ b → t ≡ u →
    begun entry m a t ≡ begun n q b u
begins {entry} {n} {m} {q} {a} {b} {t} {u} first second third fourth =
    ap (λ (x : ℕ). begun x m a t) first
    ∙ ap (λ (x : Spaces). begun n x a t) second
    ∙ ap (λ (x : Arena). begun n q x t) third
    ∙ ap (begun n q b) fourth
