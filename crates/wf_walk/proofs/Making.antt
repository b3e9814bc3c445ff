-- What statements make comes together over statements: what they leave, what they count, the variables that they
-- declare, and the labels that they are.
use Rattle.std.proofs.Common.{◌≡◌, ℕ, ◌+◌, ◌≤◌, ◌%◌, Bool, true, List, [], ◌∷◌, ◌++◌, length, map, refl, sym, ap, subst}
use Rattle.std.proofs.Common.{◌∙◌, append_assoc, append-nil, arith}
use Rattle.std.specs.Prelude.{◌==◌}
use Rattle.limits.specs.declared.program.TheConstants.{FRAME_OBJECT_BYTES}
use Rattle.typed_tree.specs.declared.expression.Stmt.{Stmt}
use Rattle.check_rules.specs.declared.state.Stage.{Stage}
use Rattle.check_rules.specs.declared.state.Stage.TheVariants as stage
use Rattle.check_rules.specs.declared.state.State.{State}
use Rattle.wellformed.specs.Places.{act, values_of, defaults_of, all_different}
use Rattle.wellformed.specs.Counts.{one_if}
use Rattle.wellformed.proofs.Bools.{le_less}
use Rattle.wf_walk.specs.Kept.{KeepsTables, KeepsStage, Keeps, Grows}
use Rattle.wf_walk.specs.Known.{Small}
use Rattle.wf_walk.specs.Counts.{variables, Counts}
use Rattle.wf_walk.specs.Items.{EachNode, DeclaresAt, Declared, Labelled}
use Rattle.wf_walk.proofs.Fronts.{starts_more, same_rest, no_rest}
use Rattle.wf_walk.proofs.Growing.{grows_more, keeps_grows, small_before, object_grows}
use Rattle.wf_walk.proofs.Counting.{Nothing, counts_none, counts_more, CountsAs, counts_as}
use Rattle.wf_walk.proofs.StatementNodes.{Unlabelled}

-- ---- nodes of variables

pub each_append : (P : Stmt → Type 0) (xs ys : List Stmt) → EachNode P xs → EachNode P ys → EachNode P (xs ++ ys)
each_append P [] ys p q = q
each_append P (x ∷ xs) ys p q = (p.0, each_append P xs ys p.1 q)

pub each_weaken : (P Q : Stmt → Type 0) → ((x : Stmt) → P x → Q x) → (xs : List Stmt) → EachNode P xs → EachNode Q xs
each_weaken P Q f [] p = tt
each_weaken P Q f (x ∷ xs) p = (f x p.0, each_weaken P Q f xs p.1)

declares_later : (g : Stage) (m n : ℕ) → m ≤ n → (x : Stmt) → DeclaresAt g m x → DeclaresAt g n x
declares_later stage.Function m n p x d = (λ r f h. d.0 r f (le_less m n r.object p h), d.1)
declares_later stage.Tick m n p x d = d
declares_later stage.Dollar m n p x d = d

pub declared_none : {g : Stage} {s new : State} → new.frame.nodes ≡ s.frame.nodes → new.frame.object ≡ s.frame.object →
    (s.frame.object % 4 == 0) ≡ true → Declared g s new
declared_none {g} {s} {new} n o h = record {
  aligned = ap (λ m. m % 4 == 0) o ∙ h;
  nodes = λ more. subst (λ xs. EachNode (DeclaresAt g new.frame.object) xs) (sym (no_rest n more)) tt;
}

pub declared_more : {g : Stage} {s t new : State} → Grows g s t → Grows g t new →
    new.frame.object ≤ FRAME_OBJECT_BYTES →
    Declared g s t → Declared g t new → Declared g s new
declared_more {g} {s} {t} {new} p q small c d = record {
  aligned = d.aligned;
  nodes = λ more.
      subst (λ xs. EachNode (DeclaresAt g new.frame.object) xs)
      (same_rest (starts_more p.tables.nodes q.tables.nodes) more)
      (each_append (DeclaresAt g new.frame.object) p.tables.nodes.rest q.tables.nodes.rest
      (each_weaken (DeclaresAt g t.frame.object) (DeclaresAt g new.frame.object)
      (declares_later g t.frame.object new.frame.object (object_grows g t new q.at small)) p.tables.nodes.rest
      (c.nodes p.tables.nodes))
      (d.nodes q.tables.nodes));
}

-- ---- what is made

pub record Made (g : Stage) (s new : State) (xs : List Stmt) : Type 0 where
  pub grows : Grows g s new
  pub counts : Small g new → Counts g s new xs
  pub declares : Small g new → (s.frame.object % 4 == 0) ≡ true → Declared g s new

variables_kept : (g : Stage) (s new : State) → KeepsTables s new → KeepsStage g s new → variables g new ≡ variables g s
variables_kept stage.Function s new k h = ap (λ hs. length hs) k.homes
variables_kept stage.Tick s new k h = h.0.inner
variables_kept stage.Dollar s new k h = h.0.inner

nothing : Nothing []
nothing = record { objects = λ byte. refl; declarations = λ i. refl }

pub made_kept : {g : Stage} {s new : State} → Keeps g s new → Made g s new []
made_kept {g} {s} {new} k = record {
  grows = keeps_grows k;
  counts = λ small. counts_none k.tables.nodes k.tables.object (variables_kept g s new k.tables k.at) nothing;
  declares = λ small h. declared_none k.tables.nodes k.tables.object h;
}

pub made_more : {g : Stage} {s t new : State} {xs ys : List Stmt} → Made g s t xs → Made g t new ys →
    Made g s new (xs ++ ys)
made_more {g} {s} {t} {new} {xs} {ys} p q = record {
  grows = grows_more p.grows q.grows;
  counts = λ small. counts_more p.grows q.grows small (p.counts (small_before q.grows small)) (q.counts small);
  declares = λ small h. let d = p.declares (small_before q.grows small) h in
      declared_more p.grows q.grows small.object d (q.declares small d.aligned);
}

pub made_behind : {g : Stage} {s t new : State} {xs : List Stmt} → Keeps g s t → Made g t new xs → Made g s new xs
made_behind k q = made_more (made_kept k) q

pub made_before : {g : Stage} {s t new : State} {xs : List Stmt} → Made g s t xs → Keeps g t new → Made g s new xs
made_before {g} {s} {t} {new} {xs} p k = subst (λ ys. Made g s new ys) (append-nil xs) (made_more p (made_kept k))

pub made_as : {g : Stage} {s new : State} {xs : List Stmt} (x : Stmt) → CountsAs x xs → Made g s new xs →
    Made g s new (x ∷ [])
made_as x c m = record { grows = m.grows; counts = λ small. counts_as x c (m.counts small); declares = m.declares }

-- ---- labels

pub values_append : (xs ys : List Stmt) →
    values_of (map act (xs ++ ys)) ≡ values_of (map act xs) ++ values_of (map act ys)
values_append [] ys = refl
values_append (x ∷ xs) ys =
    ap (λ l. (act x).values ++ l) (values_append xs ys) ∙
    sym (append_assoc (act x).values (values_of (map act xs)) (values_of (map act ys)))

pub defaults_append : (xs ys : List Stmt) →
    defaults_of (map act (xs ++ ys)) ≡ defaults_of (map act xs) + defaults_of (map act ys)
defaults_append [] ys = omega arith
defaults_append (x ∷ xs) ys = omega (arith, defaults_append xs ys)

pub labelled_more : {direct : Bool} {s t new : State} {xs ys : List Stmt} → Labelled direct s t xs →
    Labelled direct t new ys → Labelled direct s new (xs ++ ys)
labelled_more {direct} {s} {t} {new} {xs} {ys} p q = record {
  values = q.values ∙ ap (λ l. l ++ values_of (map act ys)) p.values ∙
      append_assoc s.labels.values (values_of (map act xs)) (values_of (map act ys)) ∙
      ap (λ l. s.labels.values ++ l) (sym (values_append xs ys));
  defaults = omega (arith, defaults_append xs ys, p.defaults, q.defaults);
  different = λ h. q.different (p.different h);
  kept = λ h. q.kept h ∙ p.kept h;
}

pub labelled_none : {s new : State} (direct : Bool) → new.labels ≡ s.labels → Labelled direct s new []
labelled_none {s} {new} direct e = record {
  values = ap (λ l. l.values) e ∙ sym (append-nil s.labels.values);
  defaults = omega (arith, ap (λ l. one_if l.has_default) e);
  different = λ h. ap (λ l. all_different l.values) e ∙ h;
  kept = λ h. e;
}

pub labelled_one : {s new : State} (direct : Bool) (x : Stmt) → new.labels ≡ s.labels → Unlabelled x →
    Labelled direct s new (x ∷ [])
labelled_one {s} {new} direct x e u = record {
  values = ap (λ l. l.values) e ∙ sym (append-nil s.labels.values) ∙
      ap (λ l. s.labels.values ++ (l ++ [])) (sym u.values);
  defaults = omega (arith, ap (λ l. one_if l.has_default) e, u.defaults);
  different = λ h. ap (λ l. all_different l.values) e ∙ h;
  kept = λ h. e;
}
