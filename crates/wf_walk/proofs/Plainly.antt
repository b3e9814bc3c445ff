-- Walks that do nothing but capture what stands anywhere, and what their answers are.
use Rattle.std.proofs.Common.{◌≡◌, subst, Ok}
use Rattle.tick_tree.specs.Faults.{Checked}
use Rattle.check_rules.specs.declared.state.Stage.{Stage}
use Rattle.check_rules.specs.declared.state.State.{State}
use Rattle.check_rules.specs.Walks.{Rule, ◌>>=◌, pure, lift}
use Rattle.wf_nodes.specs.Right.{Unless}
use Rattle.wf_walk.specs.Good.{Plain, PlainList}
use Rattle.wf_walk.proofs.Walks.{ran, pure_same, pure_value, lifted}
use Rattle.wf_walk.proofs.Plain.{plain_same, plain_more, plain_list_same, plain_list_more}

-- it names nothing, and what it answers is so
abbrev pub IsPlain : {A : Type 0} → Stage → (A → Type 0) → Rule State A → Type 0
IsPlain {A} g P r = (s new : State) (x : A) → r s ≡ Ok (x, new) → Plain g s new × P x

pub unless_so : {A : Type 0} (P : A → Type 0) (r : Checked A) (x : A) → Unless P r → r ≡ Ok x → P x
unless_so P r x h e = subst (λ c. Unless P c) e h

pub pure_plain : {A : Type 0} (g : Stage) (P : A → Type 0) (x : A) → P x → IsPlain g P (pure {S = State} x)
pure_plain g P x h s new y e = (plain_same g (pure_same x y s new e), subst P (pure_value x y s new e) h)

pub lift_plain : {A : Type 0} (g : Stage) (P : A → Type 0) (r : Checked A) → Unless P r →
    IsPlain g P (lift {S = State} r)
lift_plain g P r h s new x e =
    let l = lifted r s x new e in
    (plain_same g l.state, unless_so P r x h l.value)

pub bind_plain : {A B : Type 0} (g : Stage) (P : A → Type 0) (Q : B → Type 0) (p : Rule State A) (f : A → Rule State B)
    → IsPlain g P p → ((x : A) → P x → IsPlain g Q (f x)) → IsPlain g Q (p >>= f)
bind_plain g P Q p f h k s new y e =
    let r = ran p f s y new e in
    let a = h s r.state r.value r.first in
    let b = k r.value a.1 r.state new y r.next in
    (plain_more a.0 b.0, b.1)

-- ---- walks that name in the innermost scope

abbrev pub IsPlainList : {A : Type 0} → Stage → Rule State A → Type 0
IsPlainList {A} g r = (s new : State) (x : A) → r s ≡ Ok (x, new) → PlainList g s new

pub pure_plain_list : {A : Type 0} (g : Stage) (x : A) → IsPlainList g (pure {S = State} x)
pure_plain_list g x s new y e = plain_list_same g (pure_same x y s new e)

pub bind_plain_list : {A B : Type 0} (g : Stage) (p : Rule State A) (f : A → Rule State B) → IsPlainList g p →
    ((x : A) → IsPlainList g (f x)) → IsPlainList g (p >>= f)
bind_plain_list g p f h k s new y e =
    let r = ran p f s y new e in
    plain_list_more (h s r.state r.value r.first) (k r.value r.state new y r.next)
