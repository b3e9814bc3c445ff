-- Expressions that change more than the units that are left, at once.
use Rattle.std.proofs.Common.{◌≡◌, ◌≢◌, ◌<◌, ℕ, suc, ◌-◌, arith, None, ap, sym, ◌∙◌}
use Rattle.word32.specs.declared.width.Width.{Width}
use Rattle.word32.specs.Parts as word
use Rattle.word32.specs.Words.{sum}
use Rattle.meaning_state.specs.Shared.{access_trap, stored}
use Rattle.staged_meaning.specs.Expressions.{key_of, store_at, stored_with}
use Rattle.staged_meaning.specs.Meaning.{eval}
use Rattle.staged_meaning.specs.World.{World, Result, Gives, spend, unless, then_do}
use Rattle.staged_meaning.specs.World.{with_variable, with_generated, with_shared}
use Rattle.typed_tree.specs.Nodes as node
use Rattle.typed_tree.specs.Nodes.{Expr}
use Rattle.eval_state.specs.Run.{Run, here, world, in_world, with_units}
use Rattle.eval_state.proofs.Changes.{units_are}
use Rattle.eval_simple.specs.Simple.{Came, IsDone, at_units}

-- what follows a part that came to a value
follows : {A : Type 0} (r : Run) (e : Expr) (u v left : ℕ) (next : ℕ → World → Result A) → u ≡ (world r).units
    → Came r e u v left → then_do (eval (here r) e (world r)) next ≡ next v (at_units left r)
unfolding Came
follows r e u v left next is h =
    ap (λ n. then_do (eval (here r) e (at_units n r)) next) (sym is) ∙ ap (λ x. then_do x next) h

goes_on : {A : Type 0} (r : Run) (e : Expr) (u v left : ℕ) (next : ℕ → World → Result A)
    → Came r e u v left → then_do (eval (here r) e (at_units u r)) next ≡ next v (at_units left r)
unfolding Came
goes_on r e u v left next h = ap (λ x. then_do x next) h

-- what is done, by the world behind it
doing : (r s : Run) (e : Expr) (v : ℕ) (w : World) → s ≡ in_world w r → eval (here r) e (world r) ≡ Gives v w
    → w.units < (world r).units → IsDone e v r s
unfolding IsDone
doing r s e v w new h less = (
  new ∙ ap (λ (s : Run). in_world (world s) r) (sym new),
  h ∙ ap (λ (s : Run). Gives v (world s)) (sym new),
  omega (arith, less, ap (λ (s : Run). s.state.units) new),
)

-- ---- variables

pub sets : (r t s : Run) (a : Expr) (i u v left : ℕ) → u ≡ (world r).units → Came r a u v (suc left) → suc left < u
    → t ≡ with_units left r → s ≡ in_world (with_variable i v (world t)) t → IsDone (node.SetVar i a) v r s
sets r t s a i u v left is h less new set =
    doing r s (node.SetVar i a) v (with_variable i v (at_units left r))
    (set ∙ ap (λ t. in_world (with_variable i v (world t)) t) new)
    (follows r a u v (suc left) (λ v w. spend v (with_variable i v w)) is h)
    (omega (arith, less, is))

pub sets_generated : (r t s : Run) (a : Expr) (i u v left : ℕ) → u ≡ (world r).units → Came r a u v (suc left)
    → suc left < u → t ≡ with_units left r
    → s ≡ in_world (with_generated (key_of (here t).captures i) v (world t)) t → IsDone (node.VSet i a) v r s
sets_generated r t s a i u v left is h less new set =
    doing r s (node.VSet i a) v (with_generated (key_of (here r).captures i) v (at_units left r))
    (set ∙ ap (λ t. in_world (with_generated (key_of (here t).captures i) v (world t)) t) new)
    (follows r a u v (suc left) (λ v w. spend v (with_generated (key_of (here r).captures i) v w)) is h)
    (omega (arith, less, is))

one_left : (n : ℕ) → n ≢ 0 → n ≡ suc (n - 1)
one_left n h = omega (arith, h)

pub steps : (r t s : Run) (i old step v : ℕ) (width : Width) → old ≡ (world r).variables i → (world r).units ≢ 0
    → v ≡ word.narrowed width (sum old step)
    → t ≡ with_units ((world r).units - 1) r → s ≡ in_world (with_variable i v (world t)) t
    → IsDone (node.PostVar i width step) old r s
steps r t s i old step v width is some value new set =
    let w = with_variable i (word.narrowed width (sum ((world r).variables i) step)) (world r) in
    doing r s (node.PostVar i width step) old
    (with_variable i (word.narrowed width (sum ((world r).variables i) step)) (at_units ((world r).units - 1) r))
    (set
    ∙ ap (λ t. in_world (with_variable i v (world t)) t) new
    ∙ ap (λ v. in_world (with_variable i v (at_units ((world r).units - 1) r)) r) value
    ∙ ap (λ old. in_world (with_variable i (word.narrowed width (sum old step)) (at_units ((world r).units - 1) r))
    r) is)
    (ap (λ n. spend ((world r).variables i) (with_variable i (word.narrowed width (sum ((world r).variables i) step))
    (at_units n r))) (one_left (world r).units some)
    ∙ ap (λ old. Gives old (with_variable i (word.narrowed width (sum ((world r).variables i) step))
    (at_units ((world r).units - 1) r))) (sym is))
    (omega (arith, some))

-- ---- objects in memory

pub stores : (r t s : Run) (a b : Expr) (width : Width) (u at u1 v left : ℕ) → u ≡ (world r).units
    → Came r a u at u1 → u1 < u → Came r b u1 v (suc left) → suc left < u1
    → access_trap at width ≡ None
    → t ≡ in_world (with_shared (stored at width v (world r).shared) (world r)) r → s ≡ with_units left t
    → IsDone (node.Store width a b) v r s
stores r t s a b width u at u1 v left is h less1 h2 less untrapped set new =
    doing r s (node.Store width a b) v (with_shared (stored at width v (world r).shared) (at_units left r))
    (new ∙ ap (with_units left) set)
    (follows r a u at u1 (λ at w. then_do (eval (here r) b w) (store_at width at)) is h
    ∙ goes_on r b u1 v (suc left) (store_at width at) h2
    ∙ ap (λ t. unless t (at_units (suc left) r) (stored_with width at v v (at_units (suc left) r))) untrapped)
    (omega (arith, less, less1, is))

pub ruleset units = (units_are)
