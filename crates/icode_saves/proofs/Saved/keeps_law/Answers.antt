use Rattle.std.proofs.Common.{ℕ, ◌≡◌, List, subst}
use Rattle.icode_saves.specs.Places.{saved}
use Rattle.icode_saves.proofs.Marked.{marked_are_saved}
use Rattle.icode_saves.proofs.Saved.keeps_law.Goals as goal

pub returns : goal.returns
returns c = subst (λ (ps : List ℕ). saved ps ≡ ps) c.self.view_is (marked_are_saved _)
