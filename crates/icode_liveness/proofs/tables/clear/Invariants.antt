use Rattle.std.proofs.Common.{◌≡◌, ◌<◌, ℕ, length, get_or}
use Rattle.icode_liveness.proofs.tables.clear.Given as goal

abbrev pub invariant-loop-i : goal.invariant-loop-i
invariant-loop-i l =
    record {
      zeros : (k : ℕ) → k < l.i → get_or l.words k 0 ≡ 0;
      length : length l.words ≡ length l.fn.words;
    }
