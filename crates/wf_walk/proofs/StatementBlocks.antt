-- What a block makes of what its items make: it has a scope and variables of its own.
use Rattle.std.proofs.Common.{◌≡◌, ◌+◌, ◌-◌, ◌≤◌, List, [], ◌∷◌, ◌++◌, length, take, refl, sym, ap, subst, ◌∙◌}
use Rattle.std.proofs.Common.{length-append, arith}
use Rattle.std.proofs.Math.Seq.{take-append_seam}
use Rattle.check_scopes.specs.Scopes.{Scopes}
use Rattle.typed_tree.specs.declared.expression.Stmt.{Stmt}
use Rattle.typed_tree.specs.Sizes.{statement_size}
use Rattle.check_rules.specs.declared.state.Stage.{Stage}
use Rattle.check_rules.specs.declared.state.Stage.TheVariants as stage
use Rattle.check_rules.specs.declared.state.State.{State}
use Rattle.wellformed.specs.Counts.{objects_at, declarations_of}
use Rattle.wf_walk.specs.Kept.{outer, GrowsStage, Grows}
use Rattle.wf_walk.specs.Known.{Small, SmallTick}
use Rattle.wf_walk.specs.Counts.{declarations_in, between, variables, Counts}
use Rattle.wf_walk.specs.Items.{EachNode, DeclaresAt}
use Rattle.wf_walk.proofs.Fronts.{starts_refl, no_rest}
use Rattle.wf_walk.proofs.Blocks.{inside, back}
use Rattle.wf_walk.proofs.Counting.{sum_one, objects_append, declarations_append, sizes_append, CountsAs}
use Rattle.wf_walk.proofs.Making.{Made}

-- ---- the states round a block

front : (ss : Scopes) → outer (ss ++ [] ∷ []) ≡ ss
front ss = ap (λ n. take n (ss ++ [] ∷ [])) (count ss) ∙ take-append_seam ss ([] ∷ [])
  where
    count : (ss : Scopes) → length (ss ++ [] ∷ []) - 1 ≡ length ss
    count ss = omega (arith, length-append ss ([] ∷ []))

-- the scopes round a block stand again behind it
pub scopes_back : (g : Stage) (s t : State) → Grows g (inside s) t → take (length s.scopes) t.scopes ≡ s.scopes
scopes_back g s t p =
    let e : length t.scopes - 1 ≡ length s.scopes = omega (arith, p.tables.depth, length-append s.scopes ([] ∷ [])) in
    ap (λ n. take n t.scopes) (sym e) ∙ p.tables.scopes ∙ front s.scopes

stage_back : (g : Stage) (s t : State) → GrowsStage g (inside s) t → GrowsStage g s (back s t)
stage_back stage.Function s t p = record { homes = p.homes; object = p.object; ticks = p.ticks }
stage_back stage.Tick s t p =
    record { homes = p.homes; object = p.object; inner = p.inner; ticks = p.ticks; captures = p.captures }
stage_back stage.Dollar s t p =
    record { homes = p.homes; object = p.object; inner = p.inner; ticks = p.ticks; captures = p.captures }

pub grows_back : (g : Stage) (s t : State) → Grows g (inside s) t → Grows g s (back s t)
grows_back g s t p = record {
  tables = record {
    depth = ap length (scopes_back g s t p);
    scopes = ap outer (scopes_back g s t p);
    result = p.tables.result;
    nodes = starts_refl s.frame.nodes;
    functions = p.tables.functions;
    image = record { end = p.tables.image.end; globals = p.tables.image.globals; at = p.tables.image.at };
  };
  at = stage_back g s t p.at;
}

small_tick : (g : Stage) (s t : State) → SmallTick g (back s t) → SmallTick g t
small_tick stage.Function s t x = tt
small_tick stage.Tick s t x = record { inner = x.inner; captures = x.captures }
small_tick stage.Dollar s t x = record { inner = x.inner; captures = x.captures }

pub small_inside : (g : Stage) (s t : State) → Small g (back s t) → Small g t
small_inside g s t x = record { homes = x.homes; object = x.object; ticks = x.ticks; tick = small_tick g s t x.tick }

variables_inside : (g : Stage) (s : State) → variables g (inside s) ≡ variables g s
variables_inside stage.Function s = refl
variables_inside stage.Tick s = refl
variables_inside stage.Dollar s = refl

variables_back : (g : Stage) (s t : State) → variables g (back s t) ≡ variables g t
variables_back stage.Function s t = refl
variables_back stage.Tick s t = refl
variables_back stage.Dollar s t = refl

-- a node that counts as the block's variables and items do
pub counts_back : (g : Stage) (s t : State) (xs : List Stmt) (x : Stmt) → CountsAs x (t.frame.nodes ++ xs) →
    Counts g (inside s) t xs → Counts g s (back s t) (x ∷ [])
counts_back g s t xs x k c = record {
  objects = λ byte. omega (
    arith,
    sum_one (objects_at byte) x,
    k.objects byte,
    objects_append byte t.frame.nodes xs,
    c.objects byte,
  );
  declarations = λ i.
      subst (λ m. declarations_in i s.frame.nodes + declarations_in i (x ∷ []) ≤ declarations_in i s.frame.nodes +
      between m (variables g (back s t)) i) (variables_inside g s)
      (subst (λ m. declarations_in i s.frame.nodes + declarations_in i (x ∷ []) ≤ declarations_in i s.frame.nodes +
      between (variables g (inside s)) m i) (sym (variables_back g s t))
      (omega (
        arith,
        sum_one (declarations_of i) x,
        k.declarations i,
        declarations_append i t.frame.nodes xs,
        c.declarations i,
      )));
  sizes = omega (
    arith,
    sum_one statement_size x,
    k.size,
    sizes_append t.frame.nodes xs,
    c.sizes,
    variables_inside g s,
    variables_back g s t,
  );
}

pub made_back : (g : Stage) (s t : State) (xs : List Stmt) (x : Stmt) → CountsAs x (t.frame.nodes ++ xs) →
    Made g (inside s) t xs → Made g s (back s t) (x ∷ [])
made_back g s t xs x k m = record {
  grows = grows_back g s t m.grows;
  counts = λ small. counts_back g s t xs x k (m.counts (small_inside g s t small));
  declares = λ small h. record {
    aligned = (m.declares (small_inside g s t small) h).aligned;
    nodes =
        λ more. subst (λ ys. EachNode (DeclaresAt g t.frame.object) ys) (sym (no_rest refl more)) tt;
  };
}
