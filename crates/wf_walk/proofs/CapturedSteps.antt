-- Steps of the walk one after the other: what their answers name comes one behind the other.
use Rattle.std.proofs.Common.{◌≡◌, Some, length, refl, sym, ap, ◌∙◌, subst, Ok, arith}
use Rattle.tick_tree.specs.Faults.{Checked}
use Rattle.check_rules.specs.declared.state.Stage.{Stage}
use Rattle.check_rules.specs.declared.state.Stage.TheVariants as stage
use Rattle.check_rules.specs.declared.state.State.{State}
use Rattle.check_rules.specs.Walks.{Rule, ◌>>=◌, pure, lift}
use Rattle.check_rules.specs.ExpressionRules.{Node}
use Rattle.wellformed.specs.Captured.{Naming, none, both}
use Rattle.wf_nodes.specs.Right.{Unless}
use Rattle.wf_nodes.proofs.NodeScopes.{unless_ok}
use Rattle.wf_walk.specs.Captured.{HasLibrary, AreSilent, Names, NamesFrom}
use Rattle.wf_walk.specs.Steps.{kinds}
use Rattle.wf_walk.proofs.Walks.{ok_same, ran, pure_same, pure_value, lifted}
use Rattle.wf_walk.specs.Named.{at_stage, operand_named, IsInside, Quiet, NamesNode}
use Rattle.wf_walk.proofs.CapturedRules.{Same}

-- ---- states

pub names_more : {f g h : Naming} {s t new : State} → Names f g s t → Names g h t new → Names f h s new
names_more {s = s} {t} {new} p q = record {
  library = q.library;
  variables = λ h. q.variables (p.variables h);
  grows = let a = p.grows in let b = q.grows in omega (arith, a, b);
  is = λ small n e.
      let b = q.grows in
      q.is small n (p.is (omega (arith, small, b)) n e);
}

-- whatever was named before
pub names_behind : {f g : Naming} {s new : State} (b : Naming) → Names f g s new →
    Names (both b f) (both b g) s new
names_behind b p = record {
  library = p.library;
  variables = p.variables;
  grows = p.grows;
  is = λ small n e. p.is small (b n) e;
}

-- by what is named the same
pub names_as : {f g h k : Naming} {s new : State} → Same f h → Same g k → Names h k s new → Names f g s new
names_as {f} {g} {h} {k} p q r = record {
  library = r.library;
  variables = r.variables;
  grows = r.grows;
  is = λ small n e. q n ∙ r.is small n (sym (p n) ∙ e);
}

-- nothing is changed
pub names_still : {f g : Naming} {s : State} → Same g f → HasLibrary s → Names f g s s
names_still {f} {g} {s} h lib =
    record { library = lib; variables = λ k. k; grows = omega arith; is = λ small n e. h n ∙ e }

pub names_same : {f g : Naming} {s new : State} → s ≡ new → Same g f → HasLibrary s → Names f g s new
names_same {f} {g} {s} e h lib = subst (λ z. Names f g s z) e (names_still h lib)

-- other tables are changed alone
pub names_kept : {s new : State} → new.ticks.captures ≡ s.ticks.captures → HasLibrary new →
    new.frame.nodes ≡ s.frame.nodes → Quiet s new
names_kept {s} {new} same lib nodes = record {
  library = lib;
  variables = λ k. subst AreSilent (sym nodes) k;
  grows = omega (arith, ap length same);
  is = λ small n e. e ∙ ap Some (sym (ap kinds same));
}

pub quiet_refl : {s : State} → HasLibrary s → Quiet s s
quiet_refl lib = names_still (λ n. refl) lib

-- ---- steps

pub joined : {A B : Type 0} (b : Naming) (f : A → Naming) (h : B → Naming) (p : Rule State A) (k : A → Rule State B) →
    NamesFrom b f p → ((x : A) → NamesFrom (f x) h (k x)) → NamesFrom b h (p >>= k)
joined b f h p k first next s new y e lib =
    let w = ran p k s y new e in
    let m = first s w.state w.value w.first lib in
    names_more m (next w.value w.state new y w.next m.library)

pub later : {A : Type 0} (b : Naming) (f : A → Naming) (p : Rule State A) → NamesFrom none f p →
    NamesFrom b (λ x. both b (f x)) p
later b f p h s new x e lib = names_behind b (h s new x e lib)

pub implies : {A : Type 0} (b : Naming) (f h : A → Naming) (p : Rule State A) → NamesFrom b f p →
    ((x : A) → Same (h x) (f x)) → NamesFrom b h p
implies b f h p q same s new x e lib = names_as (λ n. refl) (same x) (q s new x e lib)

pub answers : {A : Type 0} (b : Naming) (h : A → Naming) (x : A) → Same (h x) b → NamesFrom b h (pure x)
answers b h x same s new y e lib =
    subst (λ z. Names b (h z) s new) (pure_value x y s new e) (names_same (pure_same x y s new e) same lib)

pub decides : {A : Type 0} (b : Naming) (h : A → Naming) (c : Checked A) → Unless (λ y. Same (h y) b) c →
    NamesFrom b h (lift c)
decides b h c same s new x e lib =
    let l = lifted c s x new e in
    names_same l.state (unless_ok (λ y. Same (h y) b) c x l.value same) lib

-- a step that answers this and leaves this state
pub given : {A : Type 0} {b : Naming} {s new : State} {x : A} (h : A → Naming) (p : A × State) →
    Names b (h p.0) s p.1 → ◌≡◌ {A = Checked (A × State)} (Ok p) (Ok (x, new)) → Names b (h x) s new
given {A} {b} {s} {new} {x} h p n e = subst (λ (q : A × State). Names b (h q.0) s q.1) (ok_same p (x, new) e) n

-- ---- at a stage

pub staged : (g : Stage) (f h : Naming) → Same f h → Same (at_stage g f) (at_stage g h)
staged stage.Function f h e n = refl
staged stage.Tick f h e n = e n
staged stage.Dollar f h e n = refl

pub staged_none : (g : Stage) (f : Naming) → Same f none → Same (at_stage g f) none
staged_none stage.Function f e n = refl
staged_none stage.Tick f e n = e n
staged_none stage.Dollar f e n = refl

pub staged_both : (g : Stage) (f a b : Naming) → Same f (both a b) →
    Same (at_stage g f) (both (at_stage g a) (at_stage g b))
staged_both stage.Function f a b e n = refl
staged_both stage.Tick f a b e n = e n
staged_both stage.Dollar f a b e n = refl

pub staged_three : (g : Stage) (f a b c : Naming) → Same f (both a (both b c)) →
    Same (at_stage g f) (both (at_stage g a) (both (at_stage g b) (at_stage g c)))
staged_three stage.Function f a b c e n = refl
staged_three stage.Tick f a b c e n = e n
staged_three stage.Dollar f a b c e n = refl

-- ---- nodes

pub part : (b : Naming) (n : Node) (g : Stage) → IsInside g → NamesNode n →
    NamesFrom b (λ o. both b (operand_named g o)) (n.walk g)
part b n g w h = later b (operand_named g) (n.walk g) (h g w)
