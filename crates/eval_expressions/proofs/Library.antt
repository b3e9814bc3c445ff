-- What calls of the library make of their argument.
use Rattle.std.proofs.Common.{◌≡◌, ◌%◌, ℕ, refl, ap, sym, subst, arith}
use Rattle.host_edge.specs.declared.ending.Ending.TheVariants.{Done}
use Rattle.history.specs.Events.{Ended}
use Rattle.meaning_state.specs.Shared.{malloc, malloc_answer, put_byte, put_number}
use Rattle.typed_tree.specs.declared.expression.Library.{Library}
use Rattle.typed_tree.specs.declared.expression.Library.TheVariants.{Exit, Malloc, Putchar, Putint}
use Rattle.staged_meaning.specs.World.{with_shared}
use Rattle.eval_state.specs.Pending as pending
use Rattle.eval_state.specs.Pending.{Now}
use Rattle.eval_state.specs.Run.{Run, in_world, world}
use Rattle.eval_state.specs.Steps.{taken}
use Rattle.eval_simple.specs.Stepped.{IsStep, IsTaken}
use Rattle.eval_simple.proofs.Stepped.{step_now}
use Rattle.eval_expressions.proofs.Steps.{behind, giving}

by_kind : (k l : Library) (v : ℕ) (n : Now) (r t : Run) → k ≡ l → IsTaken (pending.Lib l) v n r t
    → IsTaken (pending.Lib k) v n r t
by_kind k l v n r t is h = subst (λ q. IsTaken (pending.Lib q) v n r t) (sym is) h

pub putchar : (k : Library) (v : ℕ) (n : Now) (r s t : Run) → k ≡ Putchar
    → s ≡ in_world (with_shared (put_byte v (world r).shared) (world r)) r
    → IsStep (giving (v % 256) (world s) s) 1 n s t → IsTaken (pending.Lib k) v n r t
unfolding taken
putchar k v n r s t is new h =
    by_kind k Putchar v n r t is
    (behind n (v % 256) (with_shared (put_byte v (world r).shared) (world r)) _ _ r s t new (omega arith) refl
    (omega arith) h)

pub putint : (k : Library) (v : ℕ) (n : Now) (r s t : Run) → k ≡ Putint
    → s ≡ in_world (with_shared (put_number v (world r).shared) (world r)) r
    → IsStep (giving 0 (world s) s) 1 n s t → IsTaken (pending.Lib k) v n r t
unfolding taken
putint k v n r s t is new h =
    by_kind k Putint v n r t is
    (behind n 0 (with_shared (put_number v (world r).shared) (world r)) _ _ r s t new (omega arith) refl
    (omega arith) h)

pub exit : (k : Library) (v : ℕ) (r : Run) → k ≡ Exit
    → IsTaken (pending.Lib k) v (pending.Ended (Ended (Done (v % 256)))) r r
unfolding taken
exit k v r is =
    by_kind k Exit v _ r r is (step_now (pending.Ended (Ended (Done (v % 256)))) _ _ r refl (omega arith))

pub malloc_gives : (k : Library) (v at : ℕ) (n : Now) (r s t : Run) → k ≡ Malloc
    → at ≡ malloc_answer v (world r).shared
    → s ≡ in_world (with_shared (malloc v (world r).shared) (world r)) r
    → IsStep (giving at (world s) s) 1 n s t → IsTaken (pending.Lib k) v n r t
unfolding taken
malloc_gives k v at n r s t is answer new h =
    by_kind k Malloc v n r t is
    (behind n at (with_shared (malloc v (world r).shared) (world r)) _ _ r s t new (omega arith)
    (ap (λ at. giving at (with_shared (malloc v (world r).shared) (world r)) r) answer) (omega arith) h)
