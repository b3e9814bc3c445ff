-- Runs with calls, one behind another.
use Rattle.std.proofs.Common.{◌≡◌, ℕ, ◌+◌, List, [], ◌∷◌, ◌++◌, refl, ap, ◌∙◌, arith, subst, append-nil}
use Rattle.mips_model.specs.State.{Code, Data, State}
use Rattle.mips_model.specs.Laws.{Reaches, at}
use Rattle.mips_model.proofs.Reach.{reaches_on}
use Rattle.icode_ir.specs.declared.build_op.BuildOp.{BuildOp}
use Rattle.generator_laws.specs.Calls.{Call, Emit, Asks, Own, behind_call, IsRun, RunsWith, issuing}

-- behind a stretch without calls
own_on : {k n : ℕ} {s mid after : State} → Own k s mid → Own n mid after → Own (k + n) s after
own_on p q = record { by = reaches_on p.by q.by; kept = q.kept ∙ p.kept }

is_run_behind : (calls : List Call) (k n : ℕ) (s mid after : State) → Own k s mid → IsRun calls n mid after →
    IsRun calls (k + n) s after
is_run_behind [] k n s mid after first then = own_on first then
is_run_behind (call ∷ calls) k n s mid after first then = record {
  before = k + then.before;
  code = then.code;
  place = then.place;
  loaded = then.loaded;
  found = then.found;
  comes = own_on first then.comes;
  asks = then.asks;
  left = then.left;
  counted = omega (arith, then.counted);
  goes_on = then.goes_on;
}

pub runs_behind : {calls : List Call} {k n : ℕ} {s mid after : State} → Reaches k s mid →
    mid.d.outside ≡ s.d.outside → RunsWith calls n mid after → RunsWith calls (k + n) s after
runs_behind {calls} {k} {n} {s} {mid} {after} first kept then =
    record { by = is_run_behind calls k n s mid after (record { by = first; kept = kept }) then.by }

-- one run and then another
is_run_on : (xs ys : List Call) (m n : ℕ) (s mid after : State) → IsRun xs m s mid → IsRun ys n mid after →
    IsRun (xs ++ ys) (m + n) s after
is_run_on [] ys m n s mid after first then = is_run_behind ys m n s mid after first then
is_run_on (x ∷ xs) ys m n s mid after first then = record {
  before = first.before;
  code = first.code;
  place = first.place;
  loaded = first.loaded;
  found = first.found;
  comes = first.comes;
  asks = first.asks;
  left = first.left + n;
  counted = omega (arith, first.counted);
  goes_on = is_run_on xs ys first.left n (behind_call x first.code first.place first.found) mid after first.goes_on
      then;
}

pub runs_on : {xs ys : List Call} {m n : ℕ} {s mid after : State} → RunsWith xs m s mid → RunsWith ys n mid after →
    RunsWith (xs ++ ys) (m + n) s after
runs_on {xs} {ys} {m} {n} {s} {mid} {after} first then =
    record { by = is_run_on xs ys m n s mid after first.by then.by }

pub issuing_append : (xs ys : List BuildOp) → issuing (xs ++ ys) ≡ issuing xs ++ issuing ys
issuing_append [] ys = refl
issuing_append (x ∷ xs) ys = ap (λ (l : List Call). Emit x ∷ l) (issuing_append xs ys)

-- without a call
pub runs_quiet : {k : ℕ} {s after : State} → Reaches k s after → after.d.outside ≡ s.d.outside → RunsWith [] k s after
runs_quiet r kept = record { by = record { by = r; kept = kept } }

-- one call
pub runs_call : (call : Call) {k a l : ℕ} {c : Code} {d : Data} {s : State} → Reaches k s (at c a l d) →
    d.outside ≡ s.d.outside → Asks call c a l d → RunsWith (call ∷ []) (k + 1) s (behind_call call c a d)
runs_call call {k} {a} {l} {c} {d} {s} comes kept asks = record {
  by = record {
    before = k;
    code = c;
    place = a;
    loaded = l;
    found = d;
    comes = record { by = comes; kept = kept };
    asks = asks;
    left = 0;
    counted = omega arith;
    goes_on = record { by = record { by = refl }; kept = refl };
  };
}

-- then a stretch without calls
pub runs_then : {calls : List Call} {m k : ℕ} {s mid after : State} → RunsWith calls m s mid → Reaches k mid after →
    after.d.outside ≡ mid.d.outside → RunsWith calls (m + k) s after
runs_then {calls} {m} {k} {s} {mid} {after} first then kept =
    subst (λ (xs : List Call). RunsWith xs (m + k) s after) (append-nil calls)
    (runs_on {xs = calls} {ys = []} first (runs_quiet then kept))

pub runs_counted : {calls : List Call} {m n : ℕ} {s after : State} → m ≡ n → RunsWith calls m s after →
    RunsWith calls n s after
runs_counted {calls} {m} {n} {s} {after} e r = subst (λ k. RunsWith calls k s after) e r

pub runs_to : {calls : List Call} {n a b l : ℕ} {s : State} {c : Code} {d : Data} → a ≡ b →
    RunsWith calls n s (at c a l d) → RunsWith calls n s (at c b l d)
runs_to {calls} {n} {a} {b} {l} {s} {c} {d} e r = subst (λ k. RunsWith calls n s (at c k l d)) e r
