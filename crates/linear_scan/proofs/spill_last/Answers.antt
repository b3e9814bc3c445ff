use Rattle.std.proofs.Common.{arith, sym, ◌∙◌, ap, subst, ℕ, ◌≡◌, ◌<◌, true, List, length, set, get_or, Some}
use Rattle.linked_row.specs.Sorted.{SortedList, has, without}
use Rattle.linear_scan_spec.specs.Scan.{Keeper, ScanState, last_of}
use Rattle.linear_scan_spec.proofs.Keepers.{Each-last}
use Rattle.linear_scan.specs.Held.{Holds}
use Rattle.linear_scan.proofs.Holding.{drop-holds, has-last, dropping}
use Rattle.linear_scan.proofs.spill_last.Goals as goal

-- what is known of the last keeper
known : (s : ScanState) (w : Keeper) (row : SortedList) (owners places : List ℕ)
    → Holds s row owners places → last_of s.keepers ≡ Some w → (w.number < 12)
    × (get_or owners w.number 0 ≡ w.interval.reg) × (w.interval.reg < length places)
    × (has w.number row.items ≡ true)
known s w row owners places h e = (
  Each-last (λ k. k.number < 12) s.keepers h.low w e,
  Each-last
      (λ k. get_or owners k.number 0 ≡ k.interval.reg) s.keepers h.owned w e,
  Each-last
      (λ k. k.interval.reg < length places) s.keepers h.regs w e,
  ap (has w.number) h.items ∙
      has-last s.keepers w e,
)

pub remove-requires : goal.remove-requires
remove-requires c =
    let r = c.requires.held in
    subst (λ n. has n c.args.keepers.now.items ≡ true) r.4
    (known r.0 r.1 c.args.keepers.now c.args.owners.now c.args.places.now r.2 r.3).3

pub bounds-owners-number : goal.bounds-owners-number
bounds-owners-number c =
    let r = c.requires.held in
    omega (
      arith,
      (known r.0 r.1 c.args.keepers.now c.args.owners.now c.args.places.now r.2 r.3).0,
      r.4,
      r.2.owners_length,
    )

pub bounds-places-owners : goal.bounds-places-owners
bounds-places-owners c =
    let r = c.requires.held in
    let k = known r.0 r.1 c.args.keepers.now c.args.owners.now c.args.places.now r.2 r.3 in
    subst (λ n. get_or c.args.owners.now n 0 < length c.args.places.now) r.4
    (omega (arith, k.1, k.2))

pub returns : goal.returns
returns c s w h e q =
    let k = known s w c.args.keepers.now c.args.owners.now c.args.places.now h e in
    let d = drop-holds s w c.args.keepers.now c.args.owners.now c.args.places.now h e in
    let o : w.interval.reg ≡ get_or c.args.owners.now c.args.number 0 = sym k.1 ∙ ap
    (λ n. get_or c.args.owners.now n 0) q in
    let d1 = subst (λ (n : ℕ). Holds (dropping s w)
    (record { room = c.args.keepers.now.room; items = without n c.args.keepers.now.items })
    c.args.owners.now (set c.args.places.now w.interval.reg 12)) q d in
    let d2 = subst (λ (v : SortedList). Holds (dropping s w) v c.args.owners.now
    (set c.args.places.now w.interval.reg 12)) (sym c.remove.ensures) d1 in
    subst (λ (r : ℕ). Holds (dropping s w) c.remove.new.self c.args.owners.now
    (set c.args.places.now r 12)) o d2
