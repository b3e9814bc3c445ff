-- A register that is at an op of a finished list is one of its registers.
use Rattle.std.proofs.Common.{ℕ, ◌≡◌, ◌<◌, ◌||◌, inl, inr, Bool, true, false, List, Option, Some, None, refl, arith}
use Rattle.std.proofs.lemmas.Bool.Decides.{nat_tests}
use Rattle.icode_ops.specs.declared.op.Op.{Op}
use Rattle.icode_ops.specs.Finished.{Below, IsFinished}
use Rattle.icode_ops.specs.Flow.{op_at, holds, first_use, second_use, defined, uses}
use Rattle.icode_ops.specs.Live.{Live, Used, Passes, IsAt}

held-below : (n v : ℕ) (o : Option ℕ) → holds v o ≡ true → Below n o → v < n
held-below n v None h b = absurd (cc)
held-below n v (Some r) h b = let same : v ≡ r = grind (arith, nat_tests) in omega arith

used-below : (ops : List Op) (registers v p : ℕ) → IsFinished ops registers → uses v (op_at ops p)
    ≡ true → v < registers
used-below ops registers v p f u = by-case (holds v (first_use (op_at ops p))) refl u
  where
    by-case : (b : Bool) → holds v (first_use (op_at ops p)) ≡ b
        → (holds v (first_use (op_at ops p)) || holds v (second_use (op_at ops p))) ≡ true
        → v < registers
    by-case true e h = held-below registers v (first_use (op_at ops p)) e (f.in_range p).1
    by-case false e h =
        held-below registers v (second_use (op_at ops p)) (rw e at h) (f.in_range p).2

live-below : (ops : List Op) (registers v p : ℕ) → IsFinished ops registers → Live ops v p
    → v < registers
live-below ops registers v p f (Used q u) = used-below ops registers v q f u
live-below ops registers v p f (Passes q t g d l) = live-below ops registers v t f l

-- a register that is at an op is one of the registers
pub at-below : (ops : List Op) (registers v p : ℕ) → IsFinished ops registers → IsAt ops v p
    → v < registers
at-below ops registers v p f (inl l) = live-below ops registers v p f l
at-below ops registers v p f (inr d) =
    held-below registers v (defined (op_at ops p)) d (f.in_range p).0
