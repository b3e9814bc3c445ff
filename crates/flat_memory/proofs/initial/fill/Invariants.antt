use Rattle.std.proofs.Common.{◌≡◌, ℕ, ◌*◌, ◌<◌, ◌≤◌, slice_index}
use Rattle.word32.specs.Bytes.{word_in}
use Rattle.flat_memory.proofs.initial.fill.Given as goal

-- the words before i are filled, and those from i on are still 0
abbrev pub invariant-loop-i : goal.invariant-loop-i
invariant-loop-i l = record {
  filled : (j : ℕ) → j < l.i → slice_index l.words j ≡ word_in l.bytes (4 * j);
  empty : (j : ℕ) → l.i ≤ j → slice_index l.words j ≡ 0;
}
