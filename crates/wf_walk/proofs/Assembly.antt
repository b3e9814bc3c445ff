-- Each statement whose parts are good is good, and so is a block.
use Rattle.std.proofs.Common.{◌≡◌, ℕ, Bool, true, false, List, [], refl, sym, ap, subst, ◌∙◌, Option, Some, None, Ok}
use Rattle.std.specs.Prelude.{◌||◌, if◌then◌else◌}
use Rattle.tick_tree.specs.declared.syntax.Core.TheOpen.{Stmt-F}
use Rattle.typed_tree.specs.declared.expression.CaptureKind.{CaptureKind}
use Rattle.typed_tree.specs.declared.expression.Stmt.{Stmt}
use Rattle.typed_tree.specs.declared.expression.Stmt.TheVariants as st
use Rattle.check_rules.specs.declared.state.Around.{Around as Standing}
use Rattle.check_rules.specs.declared.state.Stage.{Stage}
use Rattle.check_rules.specs.declared.state.Stage.TheVariants as stage
use Rattle.check_rules.specs.declared.state.State.{State}
use Rattle.check_rules.specs.Walks.{Rule, pure, lift}
use Rattle.check_rules.specs.ExpressionRules.{Node, Named, Shape, Item, each, block}
use Rattle.check_rules.specs.StatementRules as rules
use Rattle.check_rules.specs.StatementRules.{stmt_walk}
use Rattle.check_rules.specs.Statements as statements
use Rattle.wellformed.specs.Places.{Around, act}
use Rattle.wellformed.specs.Values.{uses_values}
use Rattle.wf_walk.specs.Known.{Blocks, Known}
use Rattle.wf_walk.specs.Steps.{Round, at}
use Rattle.wf_walk.specs.Items.{MayStand, InBlock, placed_round, ItemsStand, GoodStatement, GoodItem, Few}
use Rattle.wf_walk.specs.Items.{GoodBlock}
use Rattle.wf_walk.specs.Parts.{EachPart, GoodOptional}
use Rattle.wf_walk.proofs.Walks.{pure_same, pure_value}
use Rattle.wf_walk.proofs.Blocks.{inside}
use Rattle.wf_walk.specs.StatementParts.{GoodStatementParts}
use Rattle.wf_walk.proofs.StatementBlocks.{scopes_back}
use Rattle.wf_walk.proofs.StatementNodes.{Unlabelled, as_itself, break_counts, continue_counts, return_counts}
use Rattle.wf_walk.proofs.StatementNodes.{block_counts, break_unlabelled, continue_unlabelled, return_unlabelled}
use Rattle.wf_walk.proofs.StatementNodes.{block_unlabelled}
use Rattle.wf_walk.proofs.Runs.{followed, if_ran, while_ran, do_ran, else_ran, for_ran}
use Rattle.wf_walk.proofs.Blocking.{enclosed, switch_ran}
use Rattle.wf_walk.proofs.Labelling.{break_ran, continue_ran, answer_ran, case_ran, default_ran}
use Rattle.wf_walk.proofs.Makes.{Makes, one_node, if_makes, while_makes, do_makes, else_makes, for_makes}
use Rattle.wf_walk.proofs.Makes.{each_makes}
use Rattle.wf_walk.proofs.Whole.{blocked, block_makes, switch_makes, expr_makes, answer_makes, same_makes}
use Rattle.wf_walk.proofs.Whole.{case_makes, default_makes, for_block_makes}
use Rattle.wf_walk.proofs.Joining.{did_so}
use Rattle.wf_walk.proofs.Standing.{Stood, stood_one, list_stood, break_stood, continue_stood, return_stood}
use Rattle.wf_walk.proofs.Doing.{place_of, DidStand, if_did, while_did, do_did, else_did, for_did, expr_did}
use Rattle.wf_walk.proofs.Doing.{answer_did, same_did, each_did}
use Rattle.wf_walk.proofs.Within.{whole_block_did, for_block_did}
use Rattle.wf_walk.proofs.Switching.{switch_did, case_did, default_did}

-- a step of which both is known is good
pub statement_good : {many : List ℕ} (a : Standing) (step : Rule State (List Stmt)) →
    ((s new : State) (xs : List Stmt) → step s ≡ Ok (xs, new) → Makes a.stage a.is_direct s new xs)
    → ((b : Blocks) (ks : List (List CaptureKind)) (s new : State) (xs : List Stmt) → InBlock a.stage b →
    Known many a.stage b ks s → step s ≡ Ok (xs, new) → DidStand many a b ks s new xs) → GoodStatement many a step
statement_good a step makes did = record {
  grows = λ s new xs e. (makes s new xs e).made.grows;
  counts = λ s new xs e small. (makes s new xs e).made.counts small;
  labels = λ s new xs e. (makes s new xs e).labelled;
  declares = λ s new xs e small h. (makes s new xs e).made.declares small h;
  does = λ b ks s new xs here known e. did b ks s new xs here known e;
}

-- ---- lists and blocks

pub each_good : (many : List ℕ) (items : List Item) (a : Standing) → MayStand a.stage → EachPart (GoodItem many) items →
    GoodStatement many a (each items a)
each_good many items a may h = statement_good a (each items a)
    (λ s new xs e. each_makes many items a may h s new xs e)
    (λ b ks s new xs here known e. each_did many items a b ks s new xs h here known e)

abbrev pub StoodBlock : Around → Stmt → Type 0
StoodBlock r x = ((act x).stands r ≡ true) × (uses_values x ≡ true)

pub block_good : {many : List ℕ} (items : List Item) (a : Standing) → MayStand a.stage → a.is_direct ≡ false →
    EachPart (GoodItem many) items → ((s new : State) (x : Stmt) → block items a s ≡ Ok (x, new) → Few s new) →
    GoodBlock many a (block items a)
block_good {many} items a may direct h few = record {
  grows = λ s new x e. (block_makes many items a may direct h s new x e).made.grows;
  keeps = λ s new x e.
      let w = enclosed (each items a) blocked s x new e in
      let m = each_makes many items a may h (inside s) w.state w.value w.walk in
      record {
        scopes = ap (λ z. z.scopes) (sym w.back) ∙ scopes_back a.stage s w.state m.made.grows;
        nodes = ap (λ z. z.frame.nodes) (sym w.back);
        labels = (block_makes many items a may direct h s new x e).labels;
      };
  counts = λ s new x e small. (block_makes many items a may direct h s new x e).made.counts small;
  aligned = λ s new x e small k. ((block_makes many items a may direct h s new x e).made.declares small k).aligned;
  few = few;
  does = λ b ks s new x known e.
      did_so (λ r. Stood (place_of a r) x) (λ r. StoodBlock (place_of a r) x)
      (whole_block_did many items a may direct h b ks s new x known e) (λ ms r ag p. (p.stands, p.values));
}

-- a block as a statement
inner_block : {many : List ℕ} (items : List Item) (a : Standing) → MayStand a.stage → EachPart (GoodItem many) items →
    GoodStatement many a (rules.block_alone items a)
inner_block {many} items a may h = statement_good a (rules.block_alone items a)
    (λ s new xs e.
    let w = followed (block items (statements.inside a)) (λ x. statements.one x) s xs new e in
    let m = block_makes many items (statements.inside a) may refl h s new w.value w.walk in
    let b = enclosed (each items (statements.inside a)) blocked s w.value new w.walk in
    one_node a.is_direct xs w.value w.is (as_itself w.value)
    (subst (λ y. Unlabelled y) b.is (block_unlabelled b.state.frame.nodes b.value)) m.made m.labels)
    (λ b ks s new xs here known e.
    let w = followed (block items (statements.inside a)) (λ x. statements.one x) s xs new e in
    did_so (λ r. Stood (place_of a r) w.value) (λ r. ItemsStand a (place_of a r) xs)
    (whole_block_did many items (statements.inside a) may refl h b ks s new w.value known w.walk)
    (λ ms r ag p. subst (λ ys. ItemsStand a (place_of a r) ys) w.is (stood_one a (place_of a r) w.value p)))

-- ---- single statements

empty_good : {many : List ℕ} (a : Standing) → GoodStatement many a (pure rules.empty)
empty_good a = statement_good a (pure rules.empty)
    (λ s new xs e. same_makes a.stage a.is_direct s new xs (st.Block [] []) (pure_same rules.empty xs s new e)
    (pure_value rules.empty xs s new e) (block_counts [] []) (block_unlabelled [] []))
    (λ b ks s new xs here known e. same_did a b ks s new xs (st.Block [] []) known (pure_same rules.empty xs s new e)
    (pure_value rules.empty xs s new e) (λ r. list_stood (place_of a r) [] refl refl))

break_good : {many : List ℕ} (line : ℕ) (a : Standing) → GoodStatement many a (lift (statements.break_entry line a))
break_good line a = statement_good a (lift (statements.break_entry line a))
    (λ s new xs e. let w = break_ran line a s xs new e in
    same_makes a.stage a.is_direct s new xs st.Break w.state w.is break_counts break_unlabelled)
    (λ b ks s new xs here known e. let w = break_ran line a s xs new e in
    same_did a b ks s new xs st.Break known w.state w.is
    (λ r. break_stood (place_of a r) (jumps a.stage a r ∙ w.right)))
  where
    jumps : (g : Stage) (a : Standing) (r : Round) →
        ((at g (placed_round a r)).in_loop || (at g (placed_round a r)).in_switch) ≡ (a.in_loop || a.in_switch)
    jumps stage.Function a r = refl
    jumps stage.Tick a r = refl
    jumps stage.Dollar a r = refl

continue_good : {many : List ℕ} (line : ℕ) (a : Standing) →
    GoodStatement many a (lift (statements.continue_entry line a))
continue_good line a = statement_good a (lift (statements.continue_entry line a))
    (λ s new xs e. let w = continue_ran line a s xs new e in
    same_makes a.stage a.is_direct s new xs st.Continue w.state w.is continue_counts continue_unlabelled)
    (λ b ks s new xs here known e. let w = continue_ran line a s xs new e in
    same_did a b ks s new xs st.Continue known w.state w.is
    (λ r. continue_stood (place_of a r) (loops a.stage a r ∙ w.right)))
  where
    loops : (g : Stage) (a : Standing) (r : Round) → (at g (placed_round a r)).in_loop ≡ a.in_loop
    loops stage.Function a r = refl
    loops stage.Tick a r = refl
    loops stage.Dollar a r = refl

return_good : {many : List ℕ} (line : ℕ) (n : Option Node) (a : Standing) → GoodOptional many n →
    GoodStatement many a (rules.returning line n a)
return_good line None a h = statement_good a (pure (statements.one st.Return))
    (λ s new xs e. same_makes a.stage a.is_direct s new xs st.Return (pure_same (statements.one st.Return) xs s new e)
    (pure_value (statements.one st.Return) xs s new e) return_counts return_unlabelled)
    (λ b ks s new xs here known e. same_did a b ks s new xs st.Return known
    (pure_same (statements.one st.Return) xs s new e) (pure_value (statements.one st.Return) xs s new e)
    (λ r. return_stood (place_of a r)))
return_good line (Some n) a h = statement_good a (rules.answered line n a)
    (λ s new xs e. answer_makes line n a h s new xs (answer_ran line n a s xs new e))
    (λ b ks s new xs here known e. answer_did line n a b ks s new xs h known (answer_ran line n a s xs new e))

-- ---- loops

for_alone_good : {many : List ℕ} (line : ℕ) (c step : Option Node) (i : Item) (a : Standing) → MayStand a.stage →
    GoodOptional many c → GoodOptional many step → GoodItem many i →
    GoodStatement many a (rules.for_alone line c step i a)
for_alone_good {many} line c step i a may hc hs hi = statement_good a (rules.for_alone line c step i a)
    (λ s new xs e.
    let w = followed (rules.for_rest line c step i a) (λ x. statements.one x) s xs new e in
    subst (λ ys. Makes a.stage a.is_direct s new ys) w.is
    (for_makes line c step i a may hc hs hi s new w.value (for_ran line c step i a s w.value new w.walk)))
    (λ b ks s new xs here known e.
    let w = followed (rules.for_rest line c step i a) (λ x. statements.one x) s xs new e in
    did_so (λ r. Stood (place_of a r) w.value) (λ r. ItemsStand a (place_of a r) xs)
    (for_did line c step i a b ks s new w.value hc hs hi here known (for_ran line c step i a s w.value new w.walk))
    (λ ms r ag p. subst (λ ys. ItemsStand a (place_of a r) ys) w.is (stood_one a (place_of a r) w.value p)))

for_block_good : {many : List ℕ} (line : ℕ) (first : Item) (c step : Option Node) (i : Item) (a : Standing) →
    MayStand a.stage → GoodItem many first → GoodOptional many c → GoodOptional many step → GoodItem many i →
    GoodStatement many a (rules.for_block line first c step i a)
for_block_good {many} line first c step i a may hf hc hs hi = statement_good a (rules.for_block line first c step i a)
    (λ s new xs e. for_block_makes many line first c step i a may hf hc hs hi s new xs e)
    (λ b ks s new xs here known e. for_block_did many line first c step i a hf hc hs hi b ks s new xs here known e)

for_by : {many : List ℕ} (empty : Bool) (line : ℕ) (first : Item) (c step : Option Node) (i : Item) (a : Standing) →
    MayStand a.stage → GoodItem many first → GoodOptional many c → GoodOptional many step → GoodItem many i
    → GoodStatement many a (if empty then rules.for_alone line c step i a else rules.for_block line first c step i a)
for_by true line first c step i a may hf hc hs hi = for_alone_good line c step i a may hc hs hi
for_by false line first c step i a may hf hc hs hi = for_block_good line first c step i a may hf hc hs hi

-- ---- all

pub walk_good : {I S D N P : Type 0} (many : List ℕ) (declaration : D → Stage → Rule State (List Stmt))
    (s : Stmt-F Shape Node I (Option Node) Item S D Shape N P Named) → GoodStatementParts many declaration s →
    (a : Standing) → MayStand a.stage → GoodStatement many a (stmt_walk declaration s a)
walk_good many declaration Stmt-F.Empty h a may = empty_good a
walk_good many declaration (Stmt-F.Expr n) h a may = statement_good a (rules.alone n a)
    (λ s new xs e. expr_makes n a h s new xs e)
    (λ b ks s new xs here known e. expr_did n a b ks s new xs h known e)
walk_good many declaration (Stmt-F.Block items) h a may = inner_block items a may h
walk_good many declaration (Stmt-F.Stmt::Local d) h a may = h a may
walk_good many declaration (Stmt-F.If line c i) h a may = statement_good a (rules.if_then line c i a)
    (λ s new xs e. if_makes line c i a may h.0 h.1 s new xs (if_ran line c i a s xs new e))
    (λ b ks s new xs here known e. if_did line c i a b ks s new xs h.0 h.1 here known (if_ran line c i a s xs new e))
walk_good many declaration (Stmt-F.IfElse line c i j) h a may = statement_good a (rules.if_else line c i j a)
    (λ s new xs e. else_makes line c i j a may h.0 h.1 h.2 s new xs (else_ran line c i j a s xs new e))
    (λ b ks s new xs here known e. else_did line c i j a b ks s new xs h.0 h.1 h.2 here known
    (else_ran line c i j a s xs new e))
walk_good many declaration (Stmt-F.While line c i) h a may = statement_good a (rules.while_loop line c i a)
    (λ s new xs e. while_makes line c i a may h.0 h.1 s new xs (while_ran line c i a s xs new e))
    (λ b ks s new xs here known e. while_did line c i a b ks s new xs h.0 h.1 here known
    (while_ran line c i a s xs new e))
walk_good many declaration (Stmt-F.Do line i c) h a may = statement_good a (rules.do_loop line i c a)
    (λ s new xs e. do_makes line i c a may h.1 h.0 s new xs (do_ran line i c a s xs new e))
    (λ b ks s new xs here known e. do_did line i c a b ks s new xs h.1 h.0 here known (do_ran line i c a s xs new e))
walk_good many declaration (Stmt-F.For line first c step i) h a may =
    for_by first.is_empty line first c step i a may h.0 h.1 h.2 h.3
walk_good many declaration (Stmt-F.Switch line c items) h a may = statement_good a (rules.switch line c items a)
    (λ s new xs e. switch_makes line c items a may h.0 h.1 s new xs (switch_ran line c items a s xs new e))
    (λ b ks s new xs here known e. switch_did line c items a b ks s new xs h.0 h.1 here known
    (switch_ran line c items a s xs new e))
walk_good many declaration (Stmt-F.Case line n) h a may = statement_good a (rules.case line n a)
    (λ s new xs e. case_makes n a h s new xs (case_ran line n a s xs new e))
    (λ b ks s new xs here known e. case_did n a b ks s new xs h known (case_ran line n a s xs new e))
walk_good many declaration (Stmt-F.Default line) h a may = statement_good a (statements.default_node line a)
    (λ s new xs e. default_makes a s new xs (default_ran line a s xs new e))
    (λ b ks s new xs here known e. default_did a b ks s new xs known (default_ran line a s xs new e))
walk_good many declaration (Stmt-F.Break line) h a may = break_good line a
walk_good many declaration (Stmt-F.Continue line) h a may = continue_good line a
walk_good many declaration (Stmt-F.Return line e) h a may = return_good line e a h
