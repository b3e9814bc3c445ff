-- What it is that a walk marked no variable and met no string and no prototype, of each variable.
use Rattle.std.proofs.Common.{◌≡◌, ℕ, zero, suc, Bool, true, false, ◌&&◌, not, List, [], ◌∷◌, refl}
use Rattle.std.proofs.Common.{slice_get}
use Rattle.tick_tree.specs.Named.{is_nil}
use Rattle.check_rules.specs.Frames as frames
use Rattle.check_rules.specs.declared.state.State.{State}
use Rattle.wellformed.proofs.Bools.{first_true, second_true, first_false, second_false}
use Rattle.walk_again.specs.Laws.{is_marked, any_marked, is_settled}

-- no string and no prototype came, and none of the variables was marked
pub record Settled (s : State) : Type 0 where
  pub strings : s.image.strings ≡ []
  pub prototypes : s.functions.prototypes ≡ []
  pub unmarked : (at n : ℕ) → frames.mark_in n (slice_get s.frame.done at) ≡ false

nothing : {A : Type 0} (xs : List A) → is_nil xs ≡ true → xs ≡ []
nothing [] h = refl
nothing (x ∷ xs) h = absurd (cc)

unmarked : (marks : List Bool) (n : ℕ) → is_marked marks ≡ false → frames.mark_by (slice_get marks n) ≡ false
unmarked [] n h = refl
unmarked (true ∷ marks) n h = absurd (cc)
unmarked (false ∷ marks) zero h = refl
unmarked (false ∷ marks) (suc n) h = unmarked marks n h

none_marked : (done : List (List Bool)) (at n : ℕ) → any_marked done ≡ false →
    frames.mark_in n (slice_get done at) ≡ false
none_marked [] at n h = refl
none_marked (marks ∷ done) zero n h = unmarked marks n (first_false (is_marked marks) (any_marked done) h)
none_marked (marks ∷ done) (suc at) n h =
    none_marked done at n (second_false (is_marked marks) (any_marked done) h)

not_true : (b : Bool) → not b ≡ true → b ≡ false
not_true true h = absurd (cc)
not_true false h = refl

pub settled : (s : State) → is_settled s ≡ true → Settled s
settled s h =
    let a = is_nil s.image.strings in
    let b = is_nil s.functions.prototypes in
    let c = not (any_marked s.frame.done) in
    let both = first_true (a && b) c h in
    record {
      strings = nothing s.image.strings (first_true a b both);
      prototypes = nothing s.functions.prototypes (second_true a b both);
      unmarked = λ at n. none_marked s.frame.done at n (not_true (any_marked s.frame.done) (second_true (a && b) c h));
    }
