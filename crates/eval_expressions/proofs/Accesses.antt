-- What accesses and operators come to: a trap, or a value at a unit.
use Rattle.std.proofs.Common.{◌≡◌, ◌≢◌, ◌≤◌, ℕ, zero, suc, Option, None, Some}
use Rattle.std.proofs.Common.{refl, ap, sym, subst, ◌∙◌, arith}
use Rattle.host_edge.specs.declared.ending.TrapKind.{TrapKind}
use Rattle.word32.specs.declared.width.Width.{Width}
use Rattle.word32.specs.Parts.{narrowed}
use Rattle.word32.specs.Words.{sum}
use Rattle.icode_ops.specs.declared.kind.BinKind.{BinKind}
use Rattle.meaning_operators.specs.Values as values
use Rattle.meaning_state.specs.Operators.{bin_trap, bin_value}
use Rattle.meaning_state.specs.Shared.{access_trap, loaded, stored}
use Rattle.staged_meaning.specs.Expressions.{modify_at, store_at, stored_with}
use Rattle.staged_meaning.specs.Meaning.{eval}
use Rattle.staged_meaning.specs.World.{Result, spend, then_do, unless, with_shared}
use Rattle.typed_tree.specs.Nodes.{Expr}
use Rattle.eval_state.specs.Pending as pending
use Rattle.eval_state.specs.Pending.{Now}
use Rattle.eval_state.specs.Rest.{Signal, valued}
use Rattle.eval_state.specs.declared.state.Parts.{Parts}
use Rattle.eval_state.specs.Less.{held}
use Rattle.eval_state.specs.Run.{Run, here, in_world, leads, outcome, run_of, world}
use Rattle.eval_state.specs.Steps.{taken}
use Rattle.eval_simple.specs.Stepped.{IsStep, IsTaken}
use Rattle.eval_simple.proofs.Stepped.{step_as, step_now}
use Rattle.eval_expressions.specs.Values.{trap_at}
use Rattle.eval_expressions.proofs.Steps.{behind, giving}

-- a trap
pub trapped : (n : Now) (kind : TrapKind) (b : Result Signal) (m : ℕ) (r : Run) → n ≡ trap_at kind
    → outcome (trap_at kind) r ≡ b → 1 ≤ m → IsStep b m n r r
trapped n kind b m r is same some =
    subst (λ n. IsStep b m n r r) (sym is) (step_now (trap_at kind) b m r same (omega (arith, some)))

-- nothing changed
pub stays : (n : Now) (b : Result Signal) (m : ℕ) (p q : Parts) → q ≡ p → IsStep b m n (run_of p) (run_of p)
    → IsStep b m n (run_of p) (run_of q)
stays n b m p q is h = subst (λ q. IsStep b m n (run_of p) (run_of q)) (sym is) h

-- ---- loads

pub load_traps : (width : Width) (at : ℕ) (kind : TrapKind) (n : Now) (r : Run) → n ≡ trap_at kind
    → access_trap at width ≡ Some kind → IsTaken (pending.Load width) at n r r
unfolding taken
load_traps width at kind n r is trap =
    trapped n kind _ _ r is (ap (λ t. leads r (valued (unless t (world r) (spend (loaded at width (world r).shared)
    (world r))))) (sym trap)) (omega arith)

pub load_gives : (width : Width) (at v : ℕ) (n : Now) (r t : Run) → access_trap at width ≡ None
    → v ≡ loaded at width (world r).shared → IsStep (giving v (world r) r) 1 n r t
    → IsTaken (pending.Load width) at n r t
unfolding taken
load_gives width at v n r t none is h =
    step_as n _ _ 1 _ r t
    (ap (λ v. giving v (world r) r) is ∙ ap (λ t. leads r (valued (unless t (world r) (spend (loaded at width (world
    r).shared) (world r))))) (sym none))
    (omega arith) h

-- ---- stores

pub put_traps : (width : Width) (at v : ℕ) (kind : TrapKind) (n : Now) (r : Run) → n ≡ trap_at kind
    → access_trap at width ≡ Some kind
    → IsStep (leads r (valued (store_at width at v (world r)))) (suc (held r)) n r r
put_traps width at v kind n r is trap =
    trapped n kind _ _ r is (ap (λ t. leads r (valued (unless t (world r) (stored_with width at v v (world r)))))
    (sym trap)) (omega arith)

pub put_gives : (width : Width) (at v : ℕ) (n : Now) (r s t : Run) → access_trap at width ≡ None
    → s ≡ in_world (with_shared (stored at width v (world r).shared) (world r)) r
    → IsStep (giving v (world s) s) 1 n s t
    → IsStep (leads r (valued (store_at width at v (world r)))) (suc (held r)) n r t
put_gives width at v n r s t none new h =
    behind n v (with_shared (stored at width v (world r).shared) (world r)) _ _ r s t new (omega arith)
    (ap (λ t. leads r (valued (unless t (world r) (stored_with width at v v (world r))))) (sym none)) (omega arith) h

-- ---- a step in place

pub post_traps : (width : Width) (step at : ℕ) (kind : TrapKind) (n : Now) (r : Run) → n ≡ trap_at kind
    → access_trap at width ≡ Some kind → IsTaken (pending.Post width step) at n r r
unfolding taken
post_traps width step at kind n r is trap =
    trapped n kind _ _ r is (ap (λ t. leads r (valued (unless t (world r) (stored_with width at (narrowed width (sum
    (loaded at width (world r).shared) step)) (loaded at width (world r).shared) (world r))))) (sym trap))
    (omega arith)

pub post_gives : (width : Width) (step at old new : ℕ) (n : Now) (r s t : Run) → access_trap at width ≡ None
    → old ≡ loaded at width (world r).shared → new ≡ narrowed width (sum old step)
    → s ≡ in_world (with_shared (stored at width new (world r).shared) (world r)) r
    → IsStep (giving old (world s) s) 1 n s t → IsTaken (pending.Post width step) at n r t
unfolding taken
post_gives width step at old new n r s t none is changed set h =
    behind n old (with_shared (stored at width new (world r).shared) (world r)) _ _ r s t set (omega arith)
    (ap (λ new. leads r (valued (stored_with width at new old (world r)))) changed
    ∙ ap (λ old. leads r (valued (stored_with width at (narrowed width (sum old step)) old (world r)))) is
    ∙ ap (λ t. leads r (valued (unless t (world r) (stored_with width at (narrowed width (sum (loaded at width (world
    r).shared) step)) (loaded at width (world r).shared) (world r))))) (sym none))
    (omega arith) h

-- ---- a change in place

pub modify_traps : (width : Width) (kind : BinKind) (at old v : ℕ) (trap : TrapKind) (n : Now) (r : Run)
    → n ≡ trap_at trap → bin_trap kind old v ≡ Some trap → IsTaken (pending.ModifyValue width kind at old) v n r r
unfolding taken
modify_traps width kind at old v trap n r is traps =
    let new = narrowed width (bin_value kind old v) in
    trapped n trap _ _ r is (ap (λ t. leads r (valued (unless t (world r) (stored_with width at new new (world r)))))
    (sym traps)) (omega arith)

cases : (t : Option TrapKind) (x v : ℕ) → values.unless_trap t x ≡ Some v → (t ≡ None) × (v ≡ x)
cases None x v h = (refl, cc)
cases (Some trap) x v h = absurd (cc)

pub modify_puts : (width : Width) (kind : BinKind) (at old v x new : ℕ) (n : Now) (r t : Run)
    → access_trap at width ≡ None → values.binary kind old v ≡ Some x → new ≡ narrowed width x
    → IsStep (leads r (valued (store_at width at new (world r)))) (suc (held r)) n r t
    → IsTaken (pending.ModifyValue width kind at old) v n r t
unfolding taken
modify_puts width kind at old v x new n r t none some is h =
    let it = cases (bin_trap kind old v) (bin_value kind old v) x some in
    let whole : new ≡ narrowed width (bin_value kind old v) = is ∙ ap (narrowed width) it.1 in
    step_as n _ _ (suc (held r)) _ r t
    (ap (λ t. leads r (valued (unless t (world r) (stored_with width at new new (world r))))) none
    ∙ ap (λ new. leads r (valued (stored_with width at new new (world r)))) whole
    ∙ ap (λ t. leads r (valued (unless t (world r) (stored_with width at (narrowed width (bin_value kind old v))
    (narrowed width (bin_value kind old v)) (world r))))) (sym it.0))
    (omega arith) h

pub load_trap_modifies : (width : Width) (kind : BinKind) (b : Expr) (at : ℕ) (trap : TrapKind) (n : Now) (r : Run)
    → n ≡ trap_at trap → access_trap at width ≡ Some trap → IsTaken (pending.ModifyAddress width kind b) at n r r
unfolding taken
load_trap_modifies width kind b at trap n r is traps =
    trapped n trap _ _ r is (ap (λ t. leads r (valued (unless t (world r) (then_do (eval (here r) b (world r))
    (modify_at width kind at (loaded at width (world r).shared)))))) (sym traps)) (omega arith)

-- ---- operators

pub second_traps : (kind : BinKind) (x y : ℕ) (trap : TrapKind) (n : Now) (r : Run) → n ≡ trap_at trap
    → bin_trap kind x y ≡ Some trap → IsTaken (pending.Second kind x) y n r r
unfolding taken
second_traps kind x y trap n r is traps =
    trapped n trap _ _ r is (ap (λ t. leads r (valued (unless t (world r) (spend (bin_value kind x y) (world r)))))
    (sym traps)) (omega arith)

pub second_gives : (kind : BinKind) (x y v : ℕ) (n : Now) (r t : Run) → values.binary kind x y ≡ Some v
    → IsStep (giving v (world r) r) 1 n r t → IsTaken (pending.Second kind x) y n r t
unfolding taken
second_gives kind x y v n r t some h =
    let it = cases (bin_trap kind x y) (bin_value kind x y) v some in
    step_as n _ _ 1 _ r t
    (ap (λ v. giving v (world r) r) it.1
    ∙ ap (λ t. leads r (valued (unless t (world r) (spend (bin_value kind x y) (world r))))) (sym it.0))
    (omega arith) h

-- ---- an `&&`, an `||`, and the second operand of either

pub and_none : (b : Expr) (v : ℕ) (n : Now) (r t : Run) → v ≡ 0 → IsStep (giving 0 (world r) r) 1 n r t
    → IsTaken (pending.And b) v n r t
unfolding taken
and_none b v n r t none h =
    step_as n _ _ 1 _ r t (ap (λ v. taken (pending.And b) v r) (sym none)) (omega arith) h

pub or_some : (b : Expr) (v : ℕ) (n : Now) (r t : Run) → v ≢ 0 → IsStep (giving 1 (world r) r) 1 n r t
    → IsTaken (pending.Or b) v n r t
unfolding taken
or_some b zero n r t some h = absurd (some refl)
or_some b (suc v) n r t some h = step_as n _ _ 1 _ r t refl (omega arith) h

pub truth_none : (v : ℕ) (n : Now) (r t : Run) → v ≡ 0 → IsStep (giving 0 (world r) r) 1 n r t
    → IsTaken pending.Truth v n r t
unfolding taken
truth_none v n r t none h = step_as n _ _ 1 _ r t (ap (λ v. taken pending.Truth v r) (sym none)) (omega arith) h

pub truth_some : (v : ℕ) (n : Now) (r t : Run) → v ≢ 0 → IsStep (giving 1 (world r) r) 1 n r t
    → IsTaken pending.Truth v n r t
unfolding taken
truth_some zero n r t some h = absurd (some refl)
truth_some (suc v) n r t some h = step_as n _ _ 1 _ r t refl (omega arith) h
