use Rattle.std.proofs.Common.{ℕ, List, ap, ◌∙◌}
use Rattle.icode_saves.specs.Places.{has}
use Rattle.icode_saves.proofs.Marked.{has_marked}
use Rattle.icode_saves.proofs.Saved.has.Goals as goal

pub returns : goal.returns
returns c = has_marked _ _ c.requires ∙ ap (λ (ps : List ℕ). has ps c.args.place) c.self.view_is
