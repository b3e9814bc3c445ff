-- A piece after the front of some bytes.
use Rattle.std.proofs.Common.{◌≡◌, ℕ, ◌+◌, ◌-◌, ◌≤◌, List, ◌++◌, length, take, drop, take-append-drop, arith}
use Rattle.std.proofs.lemmas.List.{take_rest, drop-take, take-take}

-- the front, and then the front of the rest, is a longer front
pub front_more : {X : Type 0} (done count : ℕ) (all : List X) →
    take done all ++ take count (take (length all - done) (drop done all)) ≡ take (done + count) all
front_more done count all =
    let le : done ≤ done + count = omega arith in
    rw (take_rest all done, ← drop-take done count all, ← take-take done (done + count) all le)
    (take-append-drop done (take (done + count) all))
