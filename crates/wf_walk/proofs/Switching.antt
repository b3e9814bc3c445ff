-- What a switch and its labels did.
use Rattle.std.proofs.Common.{◌≡◌, ℕ, ◌+◌, Bool, true, false, List, [], ◌∷◌, ◌++◌, map, refl, sym, ap, subst, ◌∙◌}
use Rattle.std.proofs.Common.{arith}
use Rattle.std.specs.Prelude.{nat_le}
use Rattle.std.proofs.lemmas.Bool.Decides.{nat_tests}
use Rattle.typed_tree.specs.declared.expression.CaptureKind.{CaptureKind}
use Rattle.typed_tree.specs.declared.expression.Stmt.{Stmt}
use Rattle.typed_tree.specs.declared.expression.Stmt.TheVariants as st
use Rattle.check_rules.specs.declared.labels.Labels.{Labels}
use Rattle.check_rules.specs.Labels as labels
use Rattle.check_rules.specs.declared.state.Around.{Around as Standing}
use Rattle.check_rules.specs.declared.state.Stage.{Stage}
use Rattle.check_rules.specs.declared.state.Stage.TheVariants as stage
use Rattle.check_rules.specs.declared.state.State.{State}
use Rattle.check_rules.specs.ExpressionRules.{Node, Item}
use Rattle.check_rules.specs.Statements as statements
use Rattle.check_rules.specs.Statements.{with_labels}
use Rattle.wellformed.specs.Counts.{one_if}
use Rattle.wellformed.specs.Places.{Around, act, within, switched, all_declare, all_items, values_of, defaults_of}
use Rattle.wellformed.specs.Places.{all_different}
use Rattle.wellformed.specs.Values.{uses_values, all_true}
use Rattle.wf_walk.specs.Known.{Blocks, Known}
use Rattle.wf_walk.specs.Steps.{Round, at, CapturesStand, Did}
use Rattle.wf_walk.specs.Good.{Good, GoodNode}
use Rattle.wf_walk.specs.Items.{MayStand, InBlock, entered, placed_round, EachNode, DeclaresAt, ItemsStand}
use Rattle.wf_walk.specs.Items.{GoodItem}
use Rattle.wf_walk.specs.Kept.{Grows}
use Rattle.wf_walk.specs.Parts.{EachPart}
use Rattle.wf_walk.proofs.Plain.{plain_same, plain_did_by}
use Rattle.wf_walk.proofs.Blocks.{inside, back}
use Rattle.wf_walk.proofs.Growing.{keeps_grows, small_before}
use Rattle.wf_walk.proofs.StatementBlocks.{small_inside, grows_back}
use Rattle.wf_walk.proofs.Making.{Made}
use Rattle.wf_walk.proofs.Blocking.{SwitchRan}
use Rattle.wf_walk.proofs.Labelling.{with_value, with_default, CaseRan, DefaultRan}
use Rattle.wf_walk.proofs.Makes.{each_makes}
use Rattle.wf_walk.proofs.Whole.{switch_made}
use Rattle.wf_walk.proofs.Entering.{known_inside, in_block, did_block}
use Rattle.wf_walk.proofs.Joining.{did_both, did_so}
use Rattle.wf_walk.proofs.Standing.{stood_one, switch_stood, all_labelled, values_of_items, case_item}
use Rattle.wf_walk.proofs.Standing.{default_item}
use Rattle.wf_walk.proofs.Doing.{place_of, may_of, node_did, each_did, DidStand, switched_test}
use Rattle.wf_walk.proofs.Within.{declares_all, variables_use, function_round, object_round, in_entered}
use Rattle.wf_walk.proofs.Within.{known_relabelled, agrees_unlabelled, did_relabelled}

-- ---- the block of a switch

-- its variables and its items stand right
pub record Parts (r : Around) (vs xs : List Stmt) : Type 0 where
  pub declare : all_declare (map act vs) r ≡ true
  pub variables : all_true (map uses_values vs) ≡ true
  pub items : all_items (map act xs) (switched (within (map act vs) r)) ≡ true
  pub values : all_true (map uses_values xs) ≡ true

round_in : (g : Stage) → MayStand g → (vs : List Stmt) (a : Standing) (r : Round) →
    at g (placed_round (statements.switched a) (in_block g vs r)) ≡ switched
    (within (map act vs) (at g (placed_round a r)))
round_in stage.Function may vs a r = refl
round_in stage.Tick may vs a r = refl
round_in stage.Dollar may vs a r = cc

pub parts_did : {many : List ℕ} (a : Standing) (b : Blocks) {ks : List (List CaptureKind)} (s t : State)
    (xs : List Stmt) → MayStand a.stage → Made a.stage (inside s) t xs → Known many a.stage b ks s
    → Did many a.stage (entered a.stage b s) ks (inside s) t
    (λ r. ItemsStand (statements.switched a) (place_of (statements.switched a) r) xs) →
    Did many a.stage b ks s (back s t) (λ r. Parts (place_of a r) t.frame.nodes xs)
parts_did {many} a b {ks} s t xs may m known d =
    did_so (λ r. ItemsStand (statements.switched a)
    (place_of (statements.switched a) (in_block a.stage t.frame.nodes r)) xs)
    (λ r. Parts (place_of a r) t.frame.nodes xs)
    (did_block s t (λ r. ItemsStand (statements.switched a) (place_of (statements.switched a) r) xs) may m.grows known
    d)
    (λ ms r ag p.
    let small = small_inside a.stage s t ag.small in
    let was = known (small_before (grows_back a.stage s t m.grows) ag.small) in
    let nodes : EachNode (DeclaresAt a.stage t.frame.object) t.frame.nodes =
    (m.declares small was.object).nodes (record { rest = t.frame.nodes; is = refl }) in
    let items : ItemsStand (statements.switched a) (switched (within (map act t.frame.nodes) (place_of a r))) xs =
    subst (λ z. ItemsStand (statements.switched a) z xs) (round_in a.stage may t.frame.nodes a r) p in
    record {
      declare = declares_all a.stage t.frame.object t.frame.nodes (place_of a r)
          (function_round a.stage a r ag.is_function) (object_round a.stage a r t.frame.object ag.object) nodes;
      variables = variables_use a.stage t.frame.object t.frame.nodes nodes;
      items = all_labelled (statements.switched a) (switched (within (map act t.frame.nodes) (place_of a r))) xs refl
          items;
      values = values_of_items (statements.switched a) (switched (within (map act t.frame.nodes) (place_of a r))) xs
          items;
    })

one_at_most : (b : Bool) (n : ℕ) → one_if b ≡ 0 + n → nat_le n 1 ≡ true
one_at_most true n e = grind (arith, nat_tests)
one_at_most false n e = grind (arith, nat_tests)

-- a step that begins with other labels
captures_from : (g : Stage) (l : Labels) (s t : State) (r : Round) → CapturesStand g (with_labels l s) t r →
    CapturesStand g s t r
captures_from stage.Function l s t r h = tt
captures_from stage.Tick l s t r h = h
captures_from stage.Dollar l s t r h = tt

did_from : {many : List ℕ} {g : Stage} {b : Blocks} {ks : List (List CaptureKind)} (l : Labels) (s t : State)
    (P : Round → Type 0) → Did many g b ks (with_labels l s) t P → Did many g b ks s t P
did_from {g = g} l s t P d = record {
  more = d.more;
  known = d.known;
  back = λ r a. agrees_unlabelled l s (d.back r a);
  ticks = λ r a made. d.ticks r a made;
  captures = λ r a. captures_from g l s t r (d.captures r a);
  stands = d.stands;
}

pub switch_did : {many : List ℕ} (line : ℕ) (c : Node) (items : List Item) (a : Standing) (b : Blocks)
    (ks : List (List CaptureKind)) (s new : State) (xs : List Stmt) → GoodNode many c → EachPart (GoodItem many) items →
    InBlock a.stage b → Known many a.stage b ks s → SwitchRan line c items a s xs new → DidStand many a b ks s new xs
switch_did {many} line c items a b ks s new xs hc h here known w =
    let may = may_of a.stage b here in
    let k = hc.keeps a.stage s w.first w.operand w.walk in
    let s0 : State = with_labels labels.new w.first in
    let t = w.body.state in
    let ys = w.body.value in
    let d = node_did hc a known w.walk in
    let known0 : Known many a.stage b (ks ++ d.more) s0 = known_relabelled labels.new w.first d.known in
    let m = each_makes many items (statements.switched a) may h (inside s0) t ys w.body.walk in
    let e = each_did many items (statements.switched a) (entered a.stage b s0) (ks ++ d.more) (inside s0) t ys h
    (in_entered a.stage b s0 may) (known_inside many a.stage b (ks ++ d.more) s0 known0) w.body.walk in
    let f : Did many a.stage b (ks ++ d.more) s0 (back s0 t) (λ r. Parts (place_of a r) t.frame.nodes ys) =
    parts_did a b s0 t ys may m.made known0 e in
    let g : Did many a.stage b (ks ++ d.more) s0 w.last (λ r. Parts (place_of a r) t.frame.nodes ys) =
    subst (λ z. Did many a.stage b (ks ++ d.more) s0 z (λ r. Parts (place_of a r) t.frame.nodes ys)) w.body.back f in
    let i : Did many a.stage b (ks ++ d.more) w.first new (λ r. Parts (place_of a r) t.frame.nodes ys) =
    subst (λ z. Did many a.stage b (ks ++ d.more) w.first z (λ r. Parts (place_of a r) t.frame.nodes ys)) w.state
    (did_from labels.new w.first (with_labels w.first.labels w.last) (λ r. Parts (place_of a r) t.frame.nodes ys)
    (did_relabelled w.first.labels s0 w.last (λ r. Parts (place_of a r) t.frame.nodes ys) g)) in
    let different : all_different (values_of (map act ys)) ≡ true =
    ap all_different (sym m.labelled.values) ∙ m.labelled.different refl in
    let few : nat_le (defaults_of (map act ys)) 1 ≡ true =
    one_at_most t.labels.has_default (defaults_of (map act ys)) m.labelled.defaults in
    let grown : Grows a.stage w.first new = (switch_made many line c items a may h s new xs w).grows in
    did_so (λ r. Good (place_of a r) w.operand × Parts (place_of a r) t.frame.nodes ys)
    (λ r. ItemsStand a (place_of a r) xs)
    (did_both (λ r. Good (place_of a r) w.operand) (λ r. Parts (place_of a r) t.frame.nodes ys) (keeps_grows k) grown d
    i)
    (λ ms r ag p.
    subst (λ zs. ItemsStand a (place_of a r) zs) (ap (λ q. st.Switch w.test q.0 q.1 ∷ []) w.body.is ∙ w.is)
    (stood_one a (place_of a r) (st.Switch w.test t.frame.nodes ys)
    (switch_stood (place_of a r) w.test t.frame.nodes ys
    (switched_test (place_of a r) line w.operand w.test p.0 w.gives) p.1.declare p.1.variables p.1.items p.1.values
    different few)))

-- ---- labels

pub case_did : {many : List ℕ} (n : Node) (a : Standing) (b : Blocks) (ks : List (List CaptureKind)) (s new : State)
    (xs : List Stmt) → GoodNode many n → Known many a.stage b ks s → CaseRan n a s xs new →
    DidStand many a b ks s new xs
case_did {many} n a b ks s new xs h known w =
    let l = w.label in
    let d = did_so (λ r. Good (place_of a r) w.operand) (λ r. ItemsStand a (place_of a r) xs)
    (node_did h a known w.walk)
    (λ ms r ag p. subst (λ zs. ItemsStand a (place_of a r) zs) l.is (case_item a (place_of a r) l.value w.direct, tt))
    in
    subst (λ z. DidStand many a b ks s z xs) l.state
    (did_relabelled (with_value l.value w.between).labels s w.between (λ r. ItemsStand a (place_of a r) xs) d)

pub default_did : {many : List ℕ} (a : Standing) (b : Blocks) (ks : List (List CaptureKind)) (s new : State)
    (xs : List Stmt) → Known many a.stage b ks s → DefaultRan a s xs new → DidStand many a b ks s new xs
default_did {many} a b ks s new xs known w =
    let d = plain_did_by (λ r. ItemsStand a (place_of a r) xs) (plain_same a.stage refl) known
    (λ r ag. subst (λ zs. ItemsStand a (place_of a r) zs) w.is (default_item a (place_of a r) w.direct, tt)) in
    subst (λ z. DidStand many a b ks s z xs) w.state
    (did_relabelled (with_default s).labels s s (λ r. ItemsStand a (place_of a r) xs) d)
