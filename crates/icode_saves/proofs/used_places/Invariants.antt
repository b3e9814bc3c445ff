use Rattle.std.proofs.Common.{◌≡◌, length, take}
use Rattle.icode_saves.proofs.Marked.{Marks}
use Rattle.icode_saves.proofs.used_places.Given as goal

abbrev pub invariant-loop-place : goal.invariant-loop-place
invariant-loop-place l = (length l.used ≡ 12) × Marks l.used (take l.place-index l.places)
