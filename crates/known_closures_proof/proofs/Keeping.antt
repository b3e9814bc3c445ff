-- An evaluation keeps what is so of the state that outlives calls where each of its parts does.
use Rattle.std.proofs.Common.{◌≡◌, ℕ, zero, suc, List, ◌∷◌, length, Option, Some, None, refl, ap}
use Rattle.host_edge.specs.declared.ending.TrapKind.{TrapKind}
use Rattle.meaning_state.specs.Shared.{Shared}
use Rattle.staged_meaning.specs.World.{World, Result, Gives, Returns, Ends, Stops, Normal, then_do, spend, spend_from}
use Rattle.staged_meaning.specs.World.{unless, at_zero, spend_all}

module _ (P : Shared → Type 0) where
  -- it is so of the state behind a thing
  abbrev pub Keeps : {A : Type 0} → Result A → Type 0
  Keeps (Gives a w) = P w.shared
  Keeps (Returns v w) = P w.shared
  Keeps (Ends e shared) = P shared
  Keeps (Stops shared) = P shared

  -- and a list that it gave is so long
  abbrev pub KeepsLength : ℕ → Result (List ℕ) → Type 0
  KeepsLength n (Gives vs w) = (length vs ≡ n) × P w.shared
  KeepsLength n (Returns v w) = P w.shared
  KeepsLength n (Ends e shared) = P shared
  KeepsLength n (Stops shared) = P shared

  pub then_keeps : {A B : Type 0} (r : Result A) (next : A → World → Result B) → Keeps r
      → ((a : A) (w : World) → P w.shared → Keeps (next a w)) → Keeps (then_do r next)
  then_keeps {A} {B} (Gives a w) next k f = f a w k
  then_keeps {A} {B} (Returns v w) next k f = k
  then_keeps {A} {B} (Ends e shared) next k f = k
  then_keeps {A} {B} (Stops shared) next k f = k

  pub lists_keep : {B : Type 0} (n : ℕ) (r : Result (List ℕ)) (next : List ℕ → World → Result B) → KeepsLength n r
      → ((vs : List ℕ) (w : World) → length vs ≡ n → P w.shared → Keeps (next vs w)) → Keeps (then_do r next)
  lists_keep {B} n (Gives vs w) next k f = f vs w k.0 k.1
  lists_keep {B} n (Returns v w) next k f = k
  lists_keep {B} n (Ends e shared) next k f = k
  lists_keep {B} n (Stops shared) next k f = k

  -- a value before a list of values
  pub one_before : (n v : ℕ) (r : Result (List ℕ)) → KeepsLength n r
      → KeepsLength (suc n) (then_do r (λ vs w. Gives (v ∷ vs) w))
  one_before n v (Gives vs w) k = (ap suc k.0, k.1)
  one_before n v (Returns x w) k = k
  one_before n v (Ends e shared) k = k
  one_before n v (Stops shared) k = k

  pub before_list : {A : Type 0} (n : ℕ) (r : Result A) (next : A → World → Result (List ℕ)) → Keeps r
      → ((a : A) (w : World) → P w.shared → KeepsLength n (next a w)) → KeepsLength n (then_do r next)
  before_list {A} n (Gives a w) next k f = f a w k
  before_list {A} n (Returns v w) next k f = k
  before_list {A} n (Ends e shared) next k f = k
  before_list {A} n (Stops shared) next k f = k

  spent : {A : Type 0} (units : ℕ) (a : A) (w : World) → P w.shared → Keeps (spend_from units a w)
  spent {A} zero a w k = k
  spent {A} (suc units) a w k = k

  pub spend_keeps : {A : Type 0} (a : A) (w : World) → P w.shared → Keeps (spend a w)
  spend_keeps {A} a w k = spent w.units a w k

  pub unless_keeps : {A : Type 0} (o : Option TrapKind) (w : World) (r : Result A) → P w.shared
      → (o ≡ None → Keeps r) → Keeps (unless o w r)
  unless_keeps {A} None w r k f = f refl
  unless_keeps {A} (Some kind) w r k f = k

  pub zero_keeps : {A : Type 0} (n : ℕ) (r s : Result A) → Keeps r → Keeps s → Keeps (at_zero n r s)
  zero_keeps {A} zero r s k l = k
  zero_keeps {A} (suc n) r s k l = l

  pub all_spent : (units : ℕ) (w : World) → P w.shared → Keeps (spend_all units w)
  all_spent zero w k = k
  all_spent (suc units) w k =
      then_keeps (spend Normal w) (λ flow w. spend_all units w) (spend_keeps Normal w k)
      (λ flow w k. all_spent units w k)
