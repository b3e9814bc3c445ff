-- Each run is clean as far as it is defined, where no run that is defined for long enough flushes an unwritten word in
-- its first instructions, and none ends with a fault.
use Rattle.std.proofs.Common.{◌≡◌, ◌≢◌, ℕ, ◌+◌, ◌*◌, ◌<◌, ◌≤◌, List, refl, sym, subst, arith, Some}
use Rattle.std.specs.Fn.{iterate}
use Rattle.host_edge.specs.declared.ending.MachineKind.{MachineKind}
use Rattle.history.specs.Events.{Input, Fault}
use Rattle.image_file.specs.Image.{ImageParts}
use Rattle.mips_model.specs.Choices.{Choice}
use Rattle.mips_model.specs.State.{World}
use Rattle.mips_model.specs.Steps.{run}
use Rattle.mips_model.specs.Run.{begins, IsDefined, IsWellChosen, IsFine, IsClean}
use Rattle.mips_model_laws.specs.Clean.{IsUnspoiled}
use Rattle.mips_model_laws.proofs.Clean.{unspoiled_clean, run_is}
use Rattle.mips_model_laws.proofs.Unspoiled.{rowed_unspoiled}
use Rattle.mips_model_laws.proofs.Completing.{completed}

pub clean : (image : ImageParts) (input : Input) (each besides : ℕ)
    → ((row : List Choice) (n : ℕ) → IsDefined image input row (each * n + besides)
    → IsUnspoiled n (begins image input row))
    → ((row : List Choice) (n : ℕ) → IsDefined image input row n → (k : MachineKind) (a : ℕ)
    → (run n (begins image input row)).ending ≢ Some (Fault k a))
    → (row : List Choice) (n : ℕ) → IsDefined image input row n → IsClean image input row n
clean image input each besides unspoiled faultless row n defined =
    let bound = each * n + besides in
    let w = begins image input row in
    let fine : IsFine n w = λ i l. subst IsWellChosen (run_is i w) (defined i l) in
    let c = completed n bound w fine in
    let defined' : IsDefined image input c.row bound =
    λ i l. subst IsWellChosen (sym (run_is i (begins image input c.row))) (c.fine i l) in
    unspoiled_clean image input row n (rowed_unspoiled n c.row w c.states (unspoiled c.row n defined'))
    (faultless row n defined)
