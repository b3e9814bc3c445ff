use Rattle.std.proofs.Common.{ℕ, zero, suc, ◌-◌, List, [], ◌∷◌, ◌≡◌, ◌<◌, length, refl, sym, subst}
use Rattle.icode_ops.specs.Live.{Each}
use Rattle.icode_ops.specs.declared.interval.Interval.{Interval}
use Rattle.trial_units_machine.proofs.Ascents.{scannable, low_registers}
use Rattle.trial_units_machine.proofs.linear_scan_calls.is_spilled.Goals as goal

-- so many intervals, each of which starts one later and ends one earlier than the one before it
abbrev nested : ℕ → ℕ → ℕ → List Interval
nested zero reg end = []
nested (suc n) reg end = record { reg = reg; start = reg; end = end } ∷ nested n (suc reg) (end - 1)

pub scan-requires-clause-scannable : goal.scan-requires-clause-scannable
scan-requires-clause-scannable c = scannable 14 (nested 13 0 40) refl

pub scan-requires-clause-registers : goal.scan-requires-clause-registers
scan-requires-clause-registers c = low_registers 14 (nested 13 0 40) refl

pub scan-requires-2-clause-scannable : goal.scan-requires-2-clause-scannable
scan-requires-2-clause-scannable c = scannable 14 (nested 12 0 40) refl

pub scan-requires-2-clause-registers : goal.scan-requires-2-clause-registers
scan-requires-2-clause-registers c =
    let n : length c.scan.new.places ≡ 14 = c.scan.auto.places in
    subst (λ m. Each (λ x. x.reg < m) (nested 12 0 40)) (sym n)
    (low_registers 14 (nested 12 0 40) refl)
