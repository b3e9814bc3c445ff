-- Where a register is live, and its interval.
-- A register is live before an op where a path from that op reaches a use of the register before a definition of it.
-- This is liveness by paths, the definition on which the linear scan of Poletto and Sarkar (TOPLAS 1999) stands;
-- their intervals are the smallest ranges that hold it.
use Rattle.std.specs.Prelude.{ℕ, ◌≡◌, ◌<◌, ◌≤◌, ◌⊎◌, true, false, List, [], ◌∷◌}
use Rattle.icode_ops.specs.declared.op.Op.{Op}
use Rattle.icode_ops.specs.declared.interval.Interval.{Interval}
use Rattle.icode_ops.specs.Flow.{defines, uses, op_at, Follows}

-- a path from p reaches a use of v before a definition of v
pub data Live (ops : List Op) (v : ℕ) : ℕ → Type 0 where
  Used : (p : ℕ) → uses v (op_at ops p) ≡ true → Live ops v p
  Passes : (p q : ℕ) → Follows ops p q → defines v (op_at ops p) ≡ false → Live ops v q → Live ops v p

-- v is live before p, or p defines it
abbrev pub IsAt : List Op → ℕ → ℕ → Type 0
IsAt ops v p = Live ops v p ⊎ (defines v (op_at ops p) ≡ true)

-- the smallest range that holds every op that v is at
pub record IsInterval (ops : List Op) (v start end : ℕ) : Type 0 where
  pub first : IsAt ops v start
  pub last : IsAt ops v end
  pub whole : (p : ℕ) → IsAt ops v p → (start ≤ p) × (p ≤ end)

abbrev pub In : Interval → List Interval → Type 0
In x [] = ⊥
In x (y ∷ ys) = (x ≡ y) ⊎ In x ys

abbrev pub Each : (Interval → Type 0) → List Interval → Type 0
Each P [] = Unit {0}
Each P (x ∷ xs) = P x × Each P xs

-- x starts before y, or with it and has the lower register
abbrev pub Before : Interval → Interval → Type 0
Before x y = (x.start < y.start) ⊎ ((x.start ≡ y.start) × (x.reg < y.reg))

-- by start, then by register, no two alike
abbrev pub Sorted : List Interval → Type 0
Sorted [] = Unit {0}
Sorted (x ∷ xs) = Each (Before x) xs × Sorted xs

-- xs are the intervals of exactly the registers that are at some op
pub record AreIntervals (ops : List Op) (xs : List Interval) : Type 0 where
  pub sorted : Sorted xs
  pub each : Each (λ x. IsInterval ops x.reg x.start x.end) xs
  pub all : (v p : ℕ) → IsAt ops v p → (x : Interval) × In x xs × (x.reg ≡ v)
