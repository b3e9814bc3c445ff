-- What blocks, switches and labels did.
use Rattle.std.proofs.Common.{◌≡◌, ℕ, ◌-◌, true, false, List, [], ◌∷◌, ◌++◌, map, refl, ap, subst, ◌∙◌, Option, Ok}
use Rattle.std.proofs.Common.{arith}
use Rattle.std.specs.Prelude.{nat_le}
use Rattle.typed_tree.specs.declared.expression.CaptureKind.{CaptureKind}
use Rattle.typed_tree.specs.declared.expression.Stmt.{Stmt}
use Rattle.typed_tree.specs.declared.expression.Stmt.TheVariants as st
use Rattle.check_rules.specs.declared.labels.Labels.{Labels}
use Rattle.check_rules.specs.Frames.{count}
use Rattle.check_rules.specs.declared.state.Around.{Around as Standing}
use Rattle.check_rules.specs.declared.state.Stage.{Stage}
use Rattle.check_rules.specs.declared.state.Stage.TheVariants as stage
use Rattle.check_rules.specs.declared.state.State.{State}
use Rattle.check_rules.specs.Walks.{◌>>=◌, pure}
use Rattle.check_rules.specs.ExpressionRules.{Node, Item, each, block}
use Rattle.check_rules.specs.StatementRules as rules
use Rattle.check_rules.specs.Statements as statements
use Rattle.check_rules.specs.Statements.{with_labels}
use Rattle.wellformed.specs.Places.{Around, act, in_function, within, all_declare}
use Rattle.wellformed.specs.Values.{uses_values, all_true}
use Rattle.wellformed.proofs.Bools.{and_true}
use Rattle.wf_walk.specs.Known.{Blocks, of_function, of_tick, has, Known}
use Rattle.wf_walk.specs.Steps.{Round, at, AgreesTick, Agrees, CapturesStand, Did}
use Rattle.wf_walk.specs.Items.{MayStand, InBlock, entered, placed_round, EachNode, DeclaresAt, ItemStands}
use Rattle.wf_walk.specs.Items.{ItemsStand, GoodItem}
use Rattle.wf_walk.specs.Parts.{EachPart, GoodOptional}
use Rattle.wf_walk.proofs.Walks.{ran}
use Rattle.wf_walk.proofs.Blocks.{inside, back}
use Rattle.wf_walk.proofs.Growing.{small_before}
use Rattle.wf_walk.proofs.StatementBlocks.{small_inside, grows_back}
use Rattle.wf_walk.proofs.Runs.{followed, for_ran}
use Rattle.wf_walk.proofs.Blocking.{enclosed}
use Rattle.wf_walk.proofs.Making.{Made, made_more}
use Rattle.wf_walk.proofs.Makes.{makes_of, each_makes, for_makes}
use Rattle.wf_walk.proofs.Whole.{blocked, small_without}
use Rattle.wf_walk.proofs.Wider.{Wider, names_wider}
use Rattle.wf_walk.proofs.Entering.{known_inside, in_block, did_block}
use Rattle.wf_walk.proofs.Joining.{did_both, did_so}
use Rattle.wf_walk.proofs.Standing.{Stood, stood_one, block_stood, all_of, values_of_items}
use Rattle.wf_walk.proofs.Making.{each_append}
use Rattle.wf_walk.proofs.Doing.{place_of, may_of, for_did, each_did, DidStand}

-- ---- the variables of a block

pub declares_all : (g : Stage) (object : ℕ) (vs : List Stmt) (r : Around) →
    (g ≡ stage.Function → in_function r ≡ true) → (g ≡ stage.Function → nat_le object r.object ≡ true) →
    EachNode (DeclaresAt g object) vs → all_declare (map act vs) r ≡ true
declares_all g object [] r f o h = refl
declares_all stage.Function object (v ∷ vs) r f o h =
    and_true ((act v).declares r) (all_declare (map act vs) r) (h.0.0 r (f refl) (o refl))
    (declares_all stage.Function object vs r f o h.1)
declares_all stage.Tick object (v ∷ vs) r f o h =
    and_true ((act v).declares r) (all_declare (map act vs) r) (h.0.0 r) (declares_all stage.Tick object vs r f o h.1)
declares_all stage.Dollar object (v ∷ vs) r f o h =
    and_true ((act v).declares r) (all_declare (map act vs) r) (h.0.0 r) (declares_all stage.Dollar object vs r f o h.1)

pub variables_use : (g : Stage) (object : ℕ) (vs : List Stmt) → EachNode (DeclaresAt g object) vs →
    all_true (map uses_values vs) ≡ true
variables_use g object [] h = refl
variables_use g object (v ∷ vs) h =
    and_true (uses_values v) (all_true (map uses_values vs)) h.0.1 (variables_use g object vs h.1)

pub function_round : (g : Stage) (a : Standing) (r : Round) → in_function r.function ≡ true → g ≡ stage.Function →
    in_function (at g (placed_round a r)) ≡ true
function_round stage.Function a r h e = h
function_round stage.Tick a r h e = cc
function_round stage.Dollar a r h e = h

pub object_round : (g : Stage) (a : Standing) (r : Round) (n : ℕ) → nat_le n r.function.object ≡ true →
    g ≡ stage.Function → nat_le n (at g (placed_round a r)).object ≡ true
object_round stage.Function a r n h e = h
object_round stage.Tick a r n h e = cc
object_round stage.Dollar a r n h e = h

-- ---- rounds

round_in : (g : Stage) → MayStand g → (vs : List Stmt) (a : Standing) (r : Round) →
    at g (placed_round a (in_block g vs r)) ≡ within (map act vs) (at g (placed_round a r))
round_in stage.Function may vs a r = refl
round_in stage.Tick may vs a r = refl
round_in stage.Dollar may vs a r = cc

pub in_entered : (g : Stage) (b : Blocks) (s : State) → MayStand g → InBlock g (entered g b s)
in_entered stage.Function b s may = tt
in_entered stage.Tick b s may = refl
in_entered stage.Dollar b s may = may

-- ---- blocks

-- the node of a block
pub block_did : {many : List ℕ} (a : Standing) (b : Blocks) {ks : List (List CaptureKind)} (s t : State)
    (xs : List Stmt) → MayStand a.stage → a.is_direct ≡ false → Made a.stage (inside s) t xs → Known many a.stage b ks s
    → Did many a.stage (entered a.stage b s) ks (inside s) t (λ r. ItemsStand a (place_of a r) xs) →
    Did many a.stage b ks s (back s t) (λ r. Stood (place_of a r) (st.Block t.frame.nodes xs))
block_did {many} a b {ks} s t xs may direct m known d =
    did_so (λ r. ItemsStand a (place_of a (in_block a.stage t.frame.nodes r)) xs)
    (λ r. Stood (place_of a r) (st.Block t.frame.nodes xs))
    (did_block s t (λ r. ItemsStand a (place_of a r) xs) may m.grows known d)
    (λ ms r ag p.
    let small = small_inside a.stage s t ag.small in
    let was = known (small_before (grows_back a.stage s t m.grows) ag.small) in
    let nodes : EachNode (DeclaresAt a.stage t.frame.object) t.frame.nodes =
    (m.declares small was.object).nodes (record { rest = t.frame.nodes; is = refl }) in
    let items : ItemsStand a (within (map act t.frame.nodes) (place_of a r)) xs =
    subst (λ z. ItemsStand a z xs) (round_in a.stage may t.frame.nodes a r) p in
    block_stood (place_of a r) t.frame.nodes xs
    (declares_all a.stage t.frame.object t.frame.nodes (place_of a r) (function_round a.stage a r ag.is_function)
    (object_round a.stage a r t.frame.object ag.object) nodes)
    (variables_use a.stage t.frame.object t.frame.nodes nodes)
    (all_of a (within (map act t.frame.nodes) (place_of a r)) xs direct items)
    (values_of_items a (within (map act t.frame.nodes) (place_of a r)) xs items))

pub whole_block_did : (many : List ℕ) (items : List Item) (a : Standing) → MayStand a.stage → a.is_direct ≡ false →
    EachPart (GoodItem many) items → (b : Blocks) (ks : List (List CaptureKind)) (s new : State) (x : Stmt) →
    Known many a.stage b ks s → block items a s ≡ Ok (x, new)
    → Did many a.stage b ks s new (λ r. Stood (place_of a r) x)
whole_block_did many items a may direct h b ks s new x known e =
    let w = enclosed (each items a) blocked s x new e in
    let m = each_makes many items a may h (inside s) w.state w.value w.walk in
    let d = each_did many items a (entered a.stage b s) ks (inside s) w.state w.value h (in_entered a.stage b s may)
    (known_inside many a.stage b ks s known) w.walk in
    subst (λ z. Did many a.stage b ks s z (λ r. Stood (place_of a r) x)) w.back
    (subst (λ y. Did many a.stage b ks s (back s w.state) (λ r. Stood (place_of a r) y)) w.is
    (block_did a b s w.state w.value may direct m.made known d))

-- ---- a `for` with a first part

pub for_block_did : (many : List ℕ) (line : ℕ) (first : Item) (c step : Option Node) (i : Item) (a : Standing) →
    GoodItem many first → GoodOptional many c → GoodOptional many step → GoodItem many i
    → (b : Blocks) (ks : List (List CaptureKind)) (s new : State) (xs : List Stmt) → InBlock a.stage b →
    Known many a.stage b ks s → rules.for_block line first c step i a s ≡ Ok (xs, new) → DidStand many a b ks s new xs
for_block_did many line first c step i a hf hc hs hi b ks s new xs here known e =
    let may = may_of a.stage b here in
    let w = enclosed (rules.for_items line first c step i a) (λ ys vs. statements.one (st.Block vs ys)) s xs new e in
    let r = ran (first.walk (statements.inside a)) (λ ys. rules.for_rest line c step i a >>= (λ x. pure (ys ++ x ∷ [])))
    (inside s) w.value w.state w.walk in
    let f = followed (rules.for_rest line c step i a) (λ x. r.value ++ x ∷ []) r.state w.value w.state r.next in
    let q = for_ran line c step i a r.state f.value w.state f.walk in
    let one = makes_of (hf.walk (statements.inside a) may) (inside s) r.state r.value r.first in
    let rest = for_makes line c step i a may hc hs hi r.state w.state f.value q in
    let m : Made a.stage (inside s) w.state w.value =
    subst (λ zs. Made a.stage (inside s) w.state zs) f.is (made_more one.made rest.made) in
    let c2 = entered a.stage b s in
    let in2 = in_entered a.stage b s may in
    let d = (hf.walk (statements.inside a) may).does c2 ks (inside s) r.state r.value in2
    (known_inside many a.stage b ks s known) r.first in
    let g = for_did line c step i a c2 (ks ++ d.more) r.state w.state f.value hc hs hi in2 d.known q in
    let two = did_so (λ z. ItemsStand (statements.inside a) (place_of a z) r.value × Stood (place_of a z) f.value)
    (λ z. ItemsStand (statements.inside a) (place_of a z) w.value)
    (did_both (λ z. ItemsStand (statements.inside a) (place_of a z) r.value) (λ z. Stood (place_of a z) f.value)
    one.made.grows rest.made.grows d g)
    (λ ms z ag p. subst (λ ys. ItemsStand (statements.inside a) (place_of a z) ys) f.is
    (each_append (ItemStands (statements.inside a) (place_of a z)) r.value (f.value ∷ []) p.0
    (stood_one (statements.inside a) (place_of a z) f.value p.1))) in
    let whole = block_did (statements.inside a) b s w.state w.value may refl m known two in
    subst (λ z. DidStand many a b ks s z xs) w.back
    (did_so (λ z. Stood (place_of a z) (st.Block w.state.frame.nodes w.value)) (λ z. ItemsStand a (place_of a z) xs)
    whole
    (λ ms z ag p. subst (λ ys. ItemsStand a (place_of a z) ys) w.is
    (stood_one a (place_of a z) (st.Block w.state.frame.nodes w.value) p)))

-- ---- labels are nothing that is known

of_function_relabelled : (g : Stage) (b : Blocks) (l : Labels) (s : State) →
    of_function g b (with_labels l s) ≡ of_function g b s
of_function_relabelled stage.Function b l s = refl
of_function_relabelled stage.Tick b l s = refl
of_function_relabelled stage.Dollar b l s = refl

of_tick_relabelled : (g : Stage) (b : Blocks) (l : Labels) (s : State) → of_tick g b (with_labels l s) ≡ of_tick g b s
of_tick_relabelled stage.Function b l s = refl
of_tick_relabelled stage.Tick b l s = refl
of_tick_relabelled stage.Dollar b l s = refl

labels_wider : (g : Stage) (b : Blocks) (l : Labels) (s : State) → Wider g b s b (with_labels l s)
labels_wider g b l s = record {
  homes = λ i h e. e;
  own = λ i e h. (e, ap (λ ns. has (i - count s.frame.homes) ns) (of_tick_relabelled g b l s) ∙ h);
  function = λ i h. ap (λ ns. has i ns) (of_function_relabelled g b l s) ∙ h;
  tick = λ i h. ap (λ ns. has i ns) (of_tick_relabelled g b l s) ∙ h;
  object = omega arith;
  functions = refl;
}

pub known_relabelled : {many : List ℕ} {g : Stage} {b : Blocks} {ks : List (List CaptureKind)} (l : Labels) (s : State)
    → Known many g b ks s → Known many g b ks (with_labels l s)
known_relabelled {many} {g} {b} {ks} l s known small =
    let k = known (small_without g l s small) in
    record { names = names_wider many (labels_wider g b l s) s.scopes k.names; ticks = k.ticks; object = k.object }

tick_relabelled : (g : Stage) (b : Blocks) (l : Labels) (s : State) (r : Round) → AgreesTick g b (with_labels l s) r →
    AgreesTick g b s r
tick_relabelled stage.Function b l s r x = tt
tick_relabelled stage.Tick b l s r x = (x.0, x.1)
tick_relabelled stage.Dollar b l s r x = (x.0, x.1)

pub agrees_unlabelled : {many : List ℕ} {g : Stage} {b : Blocks} {ks : List (List CaptureKind)} (l : Labels) (s : State)
    {r : Round} → Agrees many g b ks (with_labels l s) r → Agrees many g b ks s r
agrees_unlabelled {many} {g} {b} {ks} l s {r} x = record {
  small = small_without g l s x.small;
  visible = λ i h. x.visible i (ap (λ ns. has i ns) (of_function_relabelled g b l s) ∙ h);
  object = x.object;
  is_function = x.is_function;
  functions = x.functions;
  ticks = x.ticks;
  in_tick = tick_relabelled g b l s r x.in_tick;
}

captures_relabelled : (g : Stage) (l : Labels) (s t : State) (r : Round) → CapturesStand g s t r →
    CapturesStand g s (with_labels l t) r
captures_relabelled stage.Function l s t r h = tt
captures_relabelled stage.Tick l s t r h = h
captures_relabelled stage.Dollar l s t r h = tt

-- the labels behind a step are others
pub did_relabelled : {many : List ℕ} {g : Stage} {b : Blocks} {ks : List (List CaptureKind)} (l : Labels) (s t : State)
    (P : Round → Type 0) → Did many g b ks s t P → Did many g b ks s (with_labels l t) P
did_relabelled {g = g} l s t P d = record {
  more = d.more;
  known = known_relabelled l t d.known;
  back = λ r a. d.back r (agrees_unlabelled l t a);
  ticks = λ r a made. d.ticks r (agrees_unlabelled l t a) made;
  captures = λ r a. captures_relabelled g l s t r (d.captures r (agrees_unlabelled l t a));
  stands = λ r a. d.stands r (agrees_unlabelled l t a);
}
