-- A run that takes choices is covered, up to each number of instructions for which it is defined: where the second seam
-- pays within what a row of choices is defined for.
use Rattle.std.proofs.Common.{◌≡◌, ℕ, zero, suc, ◌+◌, ◌*◌, ◌<◌, ◌≤◌, List, Option, refl, sym, ap, ◌∙◌, subst, arith}
use Rattle.std.specs.Fn.{iterate}
use Rattle.pace.specs.Pace.{Seen}
use Rattle.pace.specs.Claims.{FollowsAtCost, PaysWithin, IsCovered}
use Rattle.pace.proofs.Seams.{through_within}
use Rattle.history.specs.Events.{End, Input}
use Rattle.image_file.specs.Image.{ImageParts}
use Rattle.mips_model.specs.Choices.{Choice}
use Rattle.mips_model.specs.State.{World}
use Rattle.mips_model.specs.Steps.{step, run}
use Rattle.mips_model.specs.Run.{begins, IsDefined, IsWellChosen, IsFine}
use Rattle.mips_model.specs.Told.{Told, tells, told}
use Rattle.mips_model.proofs.Told.{tells_grow}
use Rattle.mips_model_laws.proofs.Completing.{completed}

run_is : (n : ℕ) (w : World) → run n w ≡ iterate step n w
unfolding run
run_is n w = refl

pub covered : (image : ImageParts) (input : Input) (each besides start : ℕ)
    (meaning upper : ℕ → Seen Told End) (least most : ℕ → ℕ)
    → FollowsAtCost each besides meaning upper least most
    → ((row : List Choice) (bound : ℕ) → IsDefined image input row bound
    → PaysWithin bound start upper least most (tells image input row))
    → (row : List Choice) (n : ℕ) → IsDefined image input row n
    → IsCovered each (besides + start) meaning (tells image input row) n
covered image input each besides start meaning upper least most first second row n defined =
    let bound = each * n + (besides + start) in
    let w = begins image input row in
    let fine : IsFine n w = λ i l. subst IsWellChosen (run_is i w) (defined i l) in
    let c = completed n bound w fine in
    let row' = c.row in
    let defined' : IsDefined image input row' bound =
    λ i l. subst IsWellChosen (sym (run_is i (begins image input row'))) (c.fine i l) in
    let ending : (run n (begins image input row')).ending ≡ (run n w).ending =
    ap (λ (v : World). v.ending) (run_is n (begins image input row')) ∙ c.ending
    ∙ sym (ap (λ (v : World). v.ending) (run_is n w)) in
    record {
      other = tells image input row';
      same = ap (λ (h : List Told). let s : Seen Told End =
          record { history = h; ending = (run n (begins image input row')).ending } in s) c.tells
          ∙ ap (λ (e : Option End). let s : Seen Told End = record { history = told n w; ending = e } in s) ending;
      grows = tells_grow image input row';
      follows = through_within n each besides start meaning upper (tells image input row') least most first
          (second row' bound defined');
    }
