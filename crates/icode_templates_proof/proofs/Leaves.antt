-- Straight code, whatever comes behind it, and runs between two counts.
use Rattle.std.proofs.Common.{◌≡◌, ℕ, ◌+◌, ◌≤◌, List, [], ◌++◌, length, Some, sym, ap, ◌∙◌, subst, arith, append_assoc}
use Rattle.std.proofs.Common.{append-nil}
use Rattle.mips_encoder.specs.declared.instruction.Instr.{Instr}
use Rattle.mips_encoder.specs.Addresses.{past}
use Rattle.mips_model.specs.State.{Code, Data, State}
use Rattle.mips_model.specs.Laws.{HasAt, at, Reaches}
use Rattle.mips_model.proofs.Reach.{through, through_runs, reaches_on}
use Rattle.icode_templates_proof.specs.Moves.{Runs}

-- straight code, behind an instruction that loaded register l, leaves this data and register l' loaded
abbrev pub Leaves : List Instr → ℕ → Data → ℕ → Data → Type 0
Leaves is l d l' after = (rest : List Instr) → through (is ++ rest) l d ≡ through rest l' after

pub leaves_on : (is js : List Instr) (l m n : ℕ) (d mid after : Data) → Leaves is l d m mid → Leaves js m mid n after →
    Leaves (is ++ js) l d n after
leaves_on is js l m n d mid after first second rest =
    ap (λ x. through x l d) (append_assoc is js rest) ∙ first (js ++ rest) ∙ second rest

pub leaves_run : (is : List Instr) (c : Code) (l l' a : ℕ) (d after : Data) → Leaves is l d l' after → HasAt c a is →
    Reaches (length is) (at c a l d) (at c (past a is) l' after)
leaves_run is c l l' a d after leaves h =
    let alone : through is l d ≡ Some (l', after) =
    ap (λ (x : List Instr). through x l d) (sym (append-nil is)) ∙ leaves [] in
    through_runs is c l a d (l', after) alone h

pub runs_on : {l m l' m' : ℕ} {s s1 s2 : State} → Runs l m s s1 → Runs l' m' s1 s2 → Runs (l + l') (m + m') s s2
runs_on p q = record {
  count = p.count + q.count;
  over = omega (arith, p.over, q.over);
  under = omega (arith, p.under, q.under);
  reaches = reaches_on p.reaches q.reaches;
}

pub runs_within : {l m k : ℕ} {s after : State} → l ≤ k → k ≤ m → Reaches k s after → Runs l m s after
runs_within {l} {m} {k} {s} {after} lo hi r = record { count = k; over = lo; under = hi; reaches = r }

pub runs_wider : {l m l' m' : ℕ} {s after : State} → l' ≤ l → m ≤ m' → Runs l m s after → Runs l' m' s after
runs_wider p q r = record
    { count = r.count; over = omega (arith, r.over); under = omega (arith, r.under); reaches = r.reaches }

pub runs_to : {l m b b' j : ℕ} {s : State} {c : Code} {d : Data} → b ≡ b' → Runs l m s (at c b j d) →
    Runs l m s (at c b' j d)
runs_to {l} {m} {b} {b'} {j} {s} {c} {d} q r = subst (λ n. Runs l m s (at c n j d)) q r
