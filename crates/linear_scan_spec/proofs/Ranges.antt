-- The registers that are at some op of a finished list are among its registers.
use Rattle.std.proofs.Common.{ℕ, ◌≡◌, ◌<◌, ◌||◌, inl, inr, Bool, true, false, List, [], ◌∷◌, Option, Some, None, refl}
use Rattle.std.proofs.Common.{arith}
use Rattle.std.proofs.lemmas.Bool.Decides.{nat_tests}
use Rattle.icode_ops.specs.declared.interval.Interval.{Interval}
use Rattle.icode_ops.specs.declared.op.Op.{Op}
use Rattle.icode_ops.specs.Flow.{holds, defined, first_use, second_use, uses, op_at}
use Rattle.icode_ops.specs.Live.{Live, Used, Passes, IsAt, IsInterval}
use Rattle.icode_ops.specs.Live.{Each as EachInterval}
use Rattle.icode_ops.specs.Finished.{Below, InRange}
use Rattle.linear_scan_spec.specs.Laws.{IntervalsAreInRange}

named : (v n : ℕ) (o : Option ℕ) → Below n o → holds v o ≡ true → v < n
named v n None b h = absurd (cc)
named v n (Some r) b h = grind (arith, nat_tests)

used : (v n : ℕ) (op : Op) → InRange n op → uses v op ≡ true → v < n
used v n op r h = by-case (holds v (first_use op)) refl h
  where
    by-case : (b : Bool) → holds v (first_use op) ≡ b → (b || holds v (second_use op)) ≡ true → v < n
    by-case true e f = named v n (first_use op) r.1 e
    by-case false e f = named v n (second_use op) r.2 f

live-in-range : (ops : List Op) (v n : ℕ) → ((p : ℕ) → InRange n (op_at ops p)) → (p : ℕ) → Live ops v p → v < n
live-in-range ops v n r _ (Used p h) = used v n (op_at ops p) (r p) h
live-in-range ops v n r _ (Passes p q f d l) = live-in-range ops v n r q l

at-in-range : (ops : List Op) (v n : ℕ) → ((p : ℕ) → InRange n (op_at ops p)) → (p : ℕ) → IsAt ops v p → v < n
at-in-range ops v n r p (inl l) = live-in-range ops v n r p l
at-in-range ops v n r p (inr d) = named v n (defined (op_at ops p)) (r p).0 d

each-in-range : (ops : List Op) (n : ℕ) → ((p : ℕ) → InRange n (op_at ops p)) → (xs : List Interval) →
    EachInterval (λ x. IsInterval ops x.reg x.start x.end) xs → EachInterval (λ x. x.reg < n) xs
each-in-range ops n r [] h = tt
each-in-range ops n r (x ∷ xs) h = (at-in-range ops x.reg n r x.start h.0.first, each-in-range ops n r xs h.1)

pub intervals-are-in-range : IntervalsAreInRange
intervals-are-in-range ops n xs f a = each-in-range ops n f.in_range xs a.each
