-- What is still to come, where a specification is made.
use Rattle.std.proofs.Common.{◌≡◌, ℕ, suc, ◌+◌, ◌<◌, ◌≤◌, length, List, [], ◌∷◌, ◌++◌, refl, ap, sym, ◌∙◌, arith}
use Rattle.std.proofs.Common.{true, false, nat_le, Option, Some, None, if◌then◌else◌}
use Rattle.std.proofs.lemmas.Bool.Decides.{nat_tests}
use Rattle.host_edge.specs.declared.ending.Ending.TheVariants.{Trap}
use Rattle.host_edge.specs.declared.ending.TrapKind.{TrapKind}
use Rattle.host_edge.specs.declared.ending.TrapKind.TheVariants.{SpecLimit}
use Rattle.history.specs.Events.{Ended}
use Rattle.word32.specs.declared.map.TheConstants.{CLOSURE_BYTES}
use Rattle.meaning_state.specs.Rows.{closure_bytes, closure_trap, next_number, specified}
use Rattle.meaning_state.specs.Shared.{Specification, Shared}
use Rattle.staged_meaning.specs.Specifications.{specify}
use Rattle.staged_meaning.specs.World.{World, Result, spend, unless, with_shared}
use Rattle.eval_state.specs.Pending as pending
use Rattle.eval_state.specs.Rest.{spent, valued}
use Rattle.eval_state.proofs.Laws.{spent_value}
use Rattle.eval_state.specs.declared.state.Parts.{Parts}
use Rattle.eval_state.specs.declared.state.Row.{Row}
use Rattle.eval_state.specs.Grown.{specification_in, with_row}
use Rattle.eval_state.specs.Run.{Run, here, in_world, leads, outcome, run_of, world}
use Rattle.eval_state.specs.Sound.{IsSound}
use Rattle.eval_state.proofs.Rows.{count, row_is_added}

pub is_over : (a n : ℕ) → n < a → nat_le a n ≡ false
is_over a n h = grind (arith, nat_tests)

pub is_within : (a n : ℕ) → a ≤ n → nat_le a n ≡ true
is_within a n h = grind (arith, nat_tests)

-- a trap ends the run, and nothing of it changes
pub traps : (r : Run) (t : Option TrapKind) (kind : TrapKind) (x : Result ℕ) → t ≡ Some kind
    → outcome (pending.Ended (Ended (Trap kind))) r ≡ leads r (valued (unless t (world r) x))
traps r t kind x h = ap (λ t. leads r (valued (unless t (world r) x))) (sym h)

pub closure_over : (captures : ℕ) (s : Shared) → CLOSURE_BYTES < s.closures + closure_bytes captures
    → closure_trap captures s ≡ Some SpecLimit
closure_over captures s h =
    ap (λ b. if b then None else Some SpecLimit) (is_over (s.closures + closure_bytes captures) CLOSURE_BYTES h)

pub closure_fits : (captures : ℕ) (s : Shared) → s.closures + closure_bytes captures ≤ CLOSURE_BYTES
    → closure_trap captures s ≡ None
closure_fits captures s h =
    ap (λ b. if b then None else Some SpecLimit) (is_within (s.closures + closure_bytes captures) CLOSURE_BYTES h)

pub no_closure : (p : Parts) (s : Specification) (captures : ℕ) → CLOSURE_BYTES < p.closures + closure_bytes captures
    → outcome (pending.Ended (Ended (Trap SpecLimit))) (run_of p)
    ≡ leads (run_of p) (valued (specify s captures (world (run_of p))))
unfolding run_of
no_closure p s captures h =
    let w = world (run_of p) in
    traps (run_of p) (closure_trap captures w.shared) SpecLimit
    (spend (next_number w.shared) (with_shared (specified s captures w.shared) w))
    (closure_over captures w.shared h)

-- a unit is spent in another world, and then a value is there
pub spent_there : (r : Run) (w : World) (v : ℕ)
    → leads (in_world w r) (spent (here (in_world w r)) (world (in_world w r)).units (pending.Value v)
    (world (in_world w r))) ≡ leads r (valued (spend v w))
spent_there r w v = ap (leads r) (spent_value (here (in_world w r)) w.units v w)

pub makes : (p q : Parts) (row : Row) (captures : ℕ) → IsSound p
    → p.closures + closure_bytes captures ≤ CLOSURE_BYTES
    → q ≡ with_row row (closure_bytes captures) p
    → leads (run_of q) (spent (here (run_of q)) (world (run_of q)).units (pending.Value (length q.rows))
    (world (run_of q)))
    ≡ leads (run_of p) (valued (specify (specification_in p row) captures (world (run_of p))))
unfolding run_of
makes p q row captures sound fits h =
    let r = run_of p in
    let w = world r in
    let s = specification_in p row in
    let there = with_shared (specified s captures w.shared) w in
    let number : length q.rows ≡ next_number w.shared =
    ap (λ (p : Parts). length p.rows) h ∙ longer p.rows row ∙ ap suc (count p.rows) in
    ap (λ n. leads (run_of q) (spent (here (run_of q)) (world (run_of q)).units (pending.Value n) (world (run_of q))))
    number
    ∙ ap (λ (q : Run). leads q (spent (here q) (world q).units (pending.Value (next_number w.shared)) (world q)))
    (row_is_added p q row (p.closures + closure_bytes captures) sound h)
    ∙ spent_there r there (next_number w.shared)
    ∙ ap (λ t. leads r (valued (unless t w (spend (next_number w.shared) there))))
    (sym (closure_fits captures w.shared fits))
  where
    longer : (rows : List Row) (row : Row) → length (rows ++ row ∷ []) ≡ suc (length rows)
    longer [] row = refl
    longer (r ∷ rows) row = ap suc (longer rows row)
