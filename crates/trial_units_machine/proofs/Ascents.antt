-- A test by which lists of known intervals are seen to be fit for a scan: their starts and registers both rise.
use Rattle.std.proofs.Common.{ℕ, suc, ◌≡◌, ◌≢◌, ◌<◌, ◌≤◌, inl, Bool, true, leb, ltb, ◌&&◌, List, [], ◌∷◌, arith}
use Rattle.std.proofs.lemmas.Bool.Decides.{nat_tests}
use Rattle.icode_ops.specs.declared.interval.Interval.{Interval}
use Rattle.icode_ops.specs.Live.{Each, Before, Sorted}
use Rattle.linear_scan_spec.specs.Laws.{Apart, AreScannable}

-- starts from `start` on and registers from `reg` to below n, both rising
abbrev pub ascends : ℕ → ℕ → ℕ → List Interval → Bool
ascends start reg n [] = true
ascends start reg n (x ∷ xs) =
    leb start x.start && (leb reg x.reg &&
    (ltb x.reg n && (leb x.start x.end && ascends (suc x.start) (suc x.reg) n xs)))

record From (start reg n : ℕ) (xs : List Interval) : Type 0 where
  starts : Each (λ x. start ≤ x.start) xs
  regs : Each (λ x. reg ≤ x.reg) xs
  low : Each (λ x. x.reg < n) xs
  sorted : Sorted xs
  whole : Each (λ x. x.start ≤ x.end) xs
  apart : Apart xs

Each-weaker : (P Q : Interval → Type 0) → ((x : Interval) → P x → Q x) → (xs : List Interval)
    → Each P xs → Each Q xs
Each-weaker P Q f [] h = tt
Each-weaker P Q f (x ∷ xs) h = (f x h.0, Each-weaker P Q f xs h.1)

from : (start reg n : ℕ) (xs : List Interval) → ascends start reg n xs ≡ true → From start reg n xs
from start reg n [] h =
    record { starts = tt; regs = tt; low = tt; sorted = tt; whole = tt; apart = tt }
from start reg n (x ∷ xs) h =
    let s : start ≤ x.start = grind (arith, nat_tests) in
    let r : reg ≤ x.reg = grind (arith, nat_tests) in
    let l : x.reg < n = grind (arith, nat_tests) in
    let e : x.start ≤ x.end = grind (arith, nat_tests) in
    let t : ascends (suc x.start) (suc x.reg) n xs ≡ true = grind arith in
    let f = from (suc x.start) (suc x.reg) n xs t in
    record {
      starts = (
        s,
        Each-weaker (λ y. suc x.start ≤ y.start) (λ y. start ≤ y.start) (λ y h. omega arith)
            xs f.starts,
      );
      regs = (
        r,
        Each-weaker (λ y. suc x.reg ≤ y.reg) (λ y. reg ≤ y.reg) (λ y h. omega arith) xs
            f.regs,
      );
      low = (l, f.low);
      sorted = (
        Each-weaker (λ y. suc x.start ≤ y.start) (Before x) (λ y h. inl (omega arith)) xs
            f.starts,
        f.sorted,
      );
      whole = (e, f.whole);
      apart = (
        Each-weaker (λ y. suc x.reg ≤ y.reg) (λ y. y.reg ≢ x.reg) (λ y h q. omega arith) xs
            f.regs,
        f.apart,
      );
    }

pub scannable : (n : ℕ) (xs : List Interval) → ascends 0 0 n xs ≡ true → AreScannable xs
scannable n xs h =
    let f = from 0 0 n xs h in record { sorted = f.sorted; whole = f.whole; apart = f.apart }

pub low_registers : (n : ℕ) (xs : List Interval) → ascends 0 0 n xs ≡ true
    → Each (λ x. x.reg < n) xs
low_registers n xs h = (from 0 0 n xs h).low
