-- Bodies none of which was freed, as one is made: it goes behind all others.
use Rattle.std.proofs.Common.{◌≡◌, ℕ, ◌+◌, ◌<◌, ◌≤◌, true, List, [], ◌∷◌, ◌++◌, arith, nat_le, if◌then◌else◌, ap, ◌∙◌}
use Rattle.std.proofs.Common.{subst, Some, None}
use Rattle.std.proofs.lemmas.Bool.{le-leb}
use Rattle.history.specs.Syntax.{Syntax, Ticked, NoCapture}
use Rattle.meaning_state.specs.Bodies.{Body, place_for, new_body, charged, AreSummed}
use Rattle.meaning_state.proofs.Held.{charged_more, none_freed_is_a_sum}
use Rattle.meaning_state.proofs.Steps.{steps_keep_held}

pub none_summed : (total : ℕ) → AreSummed total []
none_summed total = record {
  held = record { ranges = omega arith; apart = record {} };
  sum = none_freed_is_a_sum.0;
}

module _ (total : ℕ) (bodies : List Body) (count : ℕ) (some : 0 < count) (are : AreSummed total bodies) where
  pub summed_place : place_for count total bodies
      ≡ (if nat_le (charged bodies + count) total then Some (charged bodies) else None)
  summed_place =
      (none_freed_is_a_sum.1 (Ticked 0 NoCapture) bodies count total some are.held.ranges are.sum).0

  pub place_there : charged bodies + count ≤ total → place_for count total bodies ≡ Some (charged bodies)
  place_there most =
      summed_place
      ∙ ap (λ b. if b then Some (charged bodies) else None) (le-leb (charged bodies + count) total most)

  pub summed_more : (syntax : Syntax) → charged bodies + count ≤ total
      → AreSummed total (bodies ++ new_body syntax (charged bodies) count ∷ [])
  summed_more syntax most = record {
    held = (steps_keep_held total bodies are.held).0 syntax count (charged bodies) some (place_there most);
    sum = (none_freed_is_a_sum.1 syntax bodies count total some are.held.ranges are.sum).1;
  }
