-- The two bodies of a tick: an expression, and a block, whose variables are numbered from 0 on.
use Rattle.std.proofs.Common.{◌≡◌, ℕ, ◌+◌, ◌≤◌, ◌<◌, Bool, true, false, ◌&&◌, List, [], ◌∷◌, length, map, sum, refl, ap}
use Rattle.std.proofs.Common.{◌∙◌, arith, Ok}
use Rattle.std.specs.Prelude.{nat_le, nat_lt}
use Rattle.std.proofs.lemmas.Bool.{ltb-true}
use Rattle.std.proofs.lemmas.List.Sums.{sum-map, sum_by-cons}
use Rattle.c_types.specs.declared.ctype.Layer.TheVariants as layer
use Rattle.check_types.specs.Shapes.{over, void}
use Rattle.typed_tree.specs.declared.expression.Stmt.{Stmt}
use Rattle.typed_tree.specs.declared.program.TickBody.TheVariants as body
use Rattle.typed_tree.specs.Sizes.{statement_size, statements_size}
use Rattle.check_operands.specs.declared.operand.Operand.{Operand}
use Rattle.check_operands.specs.Operands.{value_of}
use Rattle.check_operands.specs.Stages as stages
use Rattle.check_rules.specs.declared.state.Stage.{Stage}
use Rattle.check_rules.specs.declared.state.Stage.TheVariants as stage
use Rattle.check_rules.specs.declared.state.State.{State}
use Rattle.check_rules.specs.Productions as productions
use Rattle.check_rules.specs.Productions.{tick_entered}
use Rattle.check_rules.specs.ExpressionRules.{Node, Item, block, tick_around, tick_expression, tick_block}
use Rattle.wellformed.specs.Accepted.{AreNumbered}
use Rattle.wellformed.specs.Counts.{one_if, declarations_of}
use Rattle.wellformed.specs.Places.{Around, act}
use Rattle.wellformed.specs.Values.{uses_values}
use Rattle.wellformed.proofs.Bools.{second_true}
use Rattle.wf_nodes.proofs.Declared.{types_use}
use Rattle.wf_nodes.proofs.Stages.{stages_use}
use Rattle.wf_walk.specs.Captured.{NamesValue, NamesBlock}
use Rattle.wf_walk.specs.Counts.{declarations_in, between, Counts}
use Rattle.wf_walk.specs.Items.{placed, KeepsBlock, Few, GoodBlock}
use Rattle.wf_walk.specs.Kept.{Keeps, Grows}
use Rattle.wf_walk.specs.Steps.{Round, at, round_tick, kinds, Does}
use Rattle.wf_walk.specs.Good.{Good, GoodNode}
use Rattle.wf_walk.proofs.Walks.{ran}
use Rattle.wf_walk.proofs.Captures.{given}
use Rattle.wf_walk.proofs.ExpressionNodes.{good_value}
use Rattle.wf_walk.proofs.Ticks.{KeepsBody, BodyStands, blocks, known_entered, tick_did}
use Rattle.check_rules.specs.Bounds.{count_bound}

-- ---- an expression

expression_kept : (s t : State) → Keeps stage.Tick s t →
    length t.ticks.captures ≤ length s.ticks.captures + count_bound → KeepsBody s t
expression_kept s t k few =
    record { tables = k.tables; ticks = k.at.0.ticks; captures = few; inner = omega (arith, k.at.0.inner) }

expression_stands : (a : Around) (o : Operand) → Good a o → BodyStands a (body.Expression (value_of o).code)
expression_stands a o h = let v = good_value a o h in record { stands = v.code; values = v.used.right }

pub expression_does : (many : List ℕ) (line : ℕ) (a : Node) (g : Stage) → GoodNode many a → NamesValue a →
    Does many g (λ r o. Good (at g r) o) (tick_expression line a g)
unfolding productions.tick_expression
expression_does many line a stage.Function h names b ks s new x known e =
    let w = ran (a.walk stage.Tick) (λ o z. Ok (productions.tick_expression o z)) (tick_entered s) x new e in
    let k = expression_kept (tick_entered s) w.state (h.keeps stage.Tick (tick_entered s) w.state w.value w.first)
    (h.few stage.Tick (tick_entered s) w.state w.value w.first) in
    let d = h.does stage.Tick (blocks b s) ks (tick_entered s) w.state w.value (known_entered known) w.first in
    given (productions.tick_expression w.value w.state)
    (tick_did (body.Expression (value_of w.value).code) known k (λ small. tt)
    (names (tick_entered s) w.state w.value w.first) (λ r. Good r.tick w.value)
    (λ r q. expression_stands (round_tick r.function (kinds w.state.ticks.captures)) w.value q) d
    (stages.specification (value_of w.value).ctype) (stages_use.specification (value_of w.value).ctype)) w.next
expression_does many line a stage.Tick h names b ks s new x known e = cc
expression_does many line a stage.Dollar h names b ks s new x known e = cc

-- ---- a block

block_kept : (s t : State) → Grows stage.Tick s t → KeepsBlock s t → Few s t → KeepsBody s t
block_kept s t h k few = record {
  tables = record {
    scopes = k.scopes;
    result = h.tables.result;
    homes = h.at.homes;
    nodes = k.nodes;
    object =
        h.at.object;
    labels = k.labels;
    functions = h.tables.functions;
    image = h.tables.image;
  };
  ticks = h.at.ticks;
  captures = few.0;
  inner = few.1;
}

sum_one : {X : Type 0} (f : X → ℕ) (x : X) → sum (map f (x ∷ [])) ≡ f x + 0
sum_one f x = sum-map f (x ∷ []) ∙ sum_by-cons f x []

one_at_most : (b : Bool) → one_if b ≤ 1
one_at_most true = omega arith
one_at_most false = omega arith

is_so : (b : Bool) → 0 < one_if b → b ≡ true
is_so true h = refl
is_so false h = absurd (omega (arith, h))

module _ (s t : State) (x : Stmt) (c : Counts stage.Tick s t (x ∷ [])) (e : t.frame.nodes ≡ s.frame.nodes) where
  each_declared : (i : ℕ) → declarations_of i x ≤ between s.frame.inner t.frame.inner i
  each_declared i =
      let it = c.declarations i in
      let one = sum_one (declarations_of i) x in
      let same = ap (declarations_in i) e in
      omega (arith, it, one, same)

  few_declared : t.frame.inner ≤ statement_size x + s.frame.inner
  few_declared =
      let it = c.sizes in
      let one = sum_one statement_size x in
      let same = ap statements_size e in
      omega (arith, it, one, same)

  is_below : (i : ℕ) → 0 < declarations_of i x → i < t.frame.inner
  is_below i h =
      let p = each_declared i in
      let q : 0 < between s.frame.inner t.frame.inner i = omega (arith, h, p) in
      ltb-true i t.frame.inner (second_true (nat_le s.frame.inner i) (nat_lt i t.frame.inner)
      (is_so (nat_le s.frame.inner i && nat_lt i t.frame.inner) q))

  -- where no variable stood before it
  numbered : s.frame.inner ≡ 0 → AreNumbered x
  numbered z = record {
    once = λ i. let p = each_declared i in let q = one_at_most (nat_le s.frame.inner i && nat_lt i t.frame.inner) in
        omega (arith, p, q);
    dense = λ i h. let p = is_below i h in let q = few_declared in omega (arith, p, q, z);
  }

abbrev Block : Round → Stmt → Type 0
Block r x = ((act x).stands (placed tick_around r.tick) ≡ true) × (uses_values x ≡ true)

pub block_does : (many : List ℕ) (line : ℕ) (items : List Item) (g : Stage) →
    GoodBlock many tick_around (block items tick_around) → NamesBlock items →
    Does many g (λ r o. Good (at g r) o) (tick_block line items g)
block_does many line items stage.Function h names b ks s new x known e =
    let w = ran (block items tick_around) (λ z y. Ok (productions.tick_block z y)) (tick_entered s) x new e in
    let kept = h.keeps (tick_entered s) w.state w.value w.first in
    let k = block_kept (tick_entered s) w.state (h.grows (tick_entered s) w.state w.value w.first) kept
    (h.few (tick_entered s) w.state w.value w.first) in
    let d = h.does (blocks b s) ks (tick_entered s) w.state w.value (known_entered known) w.first in
    given (productions.tick_block w.value w.state)
    (tick_did (body.Statement w.value) known k
    (λ small. numbered (tick_entered s) w.state w.value (h.counts (tick_entered s) w.state w.value w.first small)
    kept.nodes refl)
    (names (tick_entered s) w.state w.value w.first) (λ r. Block r w.value)
    (λ r q. record { stands = q.0; values = q.1 }) d
    (over layer.Cspec void) (types_use.layer layer.Cspec void)) w.next
block_does many line items stage.Tick h names b ks s new x known e = cc
block_does many line items stage.Dollar h names b ks s new x known e = cc
