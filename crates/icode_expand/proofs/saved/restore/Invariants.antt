use Rattle.std.proofs.Common.{◌≡◌, ◌+◌, ◌++◌, ◌≤◌, length}
use Rattle.icode_templates.specs.Words.{words}
use Rattle.icode_templates.specs.Frames.{restores}
use Rattle.icode_expand.proofs.Marked.{so_far}
use Rattle.icode_expand.proofs.saved.restore.Given as goal

abbrev pub invariant-loop-place : goal.invariant-loop-place
invariant-loop-place l =
    (l.code ≡ l.fn.code ++ words (restores (so_far l.fn.saved l.place))) ×
    (length l.code ≤ length l.fn.code + l.place)
