-- The laws of pending statements: what a frame makes of what it waits for is the meaning of the statement that left it
-- behind.
use Rattle.std.proofs.Common.{◌≡◌, ℕ, suc, Option, Some, None, refl, ap, sym, ◌∙◌}
use Rattle.typed_tree.specs.Nodes as node
use Rattle.typed_tree.specs.Nodes.{Expr, Stmt, Items, NoItem, Item}
use Rattle.staged_meaning.specs.Meaning.{Context, eval, exec, exec_items, then_next, turn_end, round_end, stepped}
use Rattle.staged_meaning.specs.Statements.{switch_end}
use Rattle.staged_meaning.specs.World.{World, Gives, Normal, Broke, Continued, at_zero, then_do, spend}
use Rattle.eval_state.specs.Pending as pending
use Rattle.eval_state.specs.Rest.{Value, Left, valued, left, after, loop_of, rounds_of, switched}
use Rattle.eval_state.proofs.Laws.{left_bind, flow_bind, do_both}

module _ (c : Context) where
  pub dropped : (e : Expr) (w : World) → after c pending.Drop (valued (eval c e w)) ≡ left (exec c (node.Eval e) w)
  dropped e w = left_bind (eval c e w) (λ v w. Gives Normal w)

  pub block : (variables items : Items) (w : World) → after c (pending.Rest items) (left (exec_items c variables w))
      ≡ left (exec c (node.Block variables items) w)
  block variables items w = flow_bind (exec_items c variables w) (then_next (exec_items c items))

  pub item : (s : Stmt) (items : Items) (w : World) → after c (pending.Rest items) (left (exec c s w))
      ≡ left (exec_items c (Item s items) w)
  item s items w = flow_bind (exec c s w) (then_next (exec_items c items))

  pub if_then : (e : Expr) (s : Stmt) (w : World) → after c (pending.If s) (valued (eval c e w))
      ≡ left (exec c (node.If e s) w)
  if_then e s w = left_bind (eval c e w) _

  pub if_else : (e : Expr) (s t : Stmt) (w : World) → after c (pending.IfElse s t) (valued (eval c e w))
      ≡ left (exec c (node.IfElse e s t) w)
  if_else e s t w = left_bind (eval c e w) _

  -- ---- loops: how one begins, a turn's test, its body, its step, and the turns behind it

  pub while_begins : (e : Expr) (s : Stmt) (w : World) → left (loop_of c c.turns e None s w)
      ≡ left (exec c (node.While e s) w)
  while_begins e s w = refl

  pub for_begins : (e : Expr) (s : Stmt) (w : World) → left (loop_of c c.turns e None s w)
      ≡ left (exec c (node.For e s) w)
  for_begins e s w = refl

  pub for_step_begins : (e step : Expr) (s : Stmt) (w : World) → left (loop_of c c.turns e (Some step) s w)
      ≡ left (exec c (node.ForStep e step s) w)
  for_step_begins e step s w = refl

  pub turn_begins : (d : ℕ) (e : Expr) (step : Option Expr) (s : Stmt) (w : World)
      → after c (pending.Test d e step s) (valued (eval c e w)) ≡ left (loop_of c (suc d) e step s w)
  turn_begins d e step s w = left_bind (eval c e w) _

  pub test_holds : (d : ℕ) (e : Expr) (step : Option Expr) (s : Stmt) (v : ℕ) (w : World)
      → after c (pending.Turn d e step s) (left (exec c s w))
      ≡ after c (pending.Test d e step s) (Gives (Value (suc v)) w)
  test_holds d e None s v w = flow_bind (exec c s w) (turn_end (loop_of c d e None s))
  test_holds d e (Some step) s v w =
      flow_bind (exec c s w) (λ flow w. then_do (stepped (eval c step) flow w) (turn_end (loop_of c d e (Some step) s)))
      ∙ ap left (sym (do_both (exec c s w) (stepped (eval c step)) (turn_end (loop_of c d e (Some step) s))))

  pub step_begins : (d : ℕ) (e step : Expr) (s : Stmt) (w : World)
      → after c (pending.Step d e step s) (valued (eval c step w))
      ≡ after c (pending.Turn d e (Some step) s) (Gives (Left Normal) w)
  step_begins d e step s w =
      left_bind (eval c step w) (λ v w. turn_end (loop_of c d e (Some step) s) Normal w)
      ∙ ap left (sym (do_both (eval c step w) (λ v w. Gives Normal w) (turn_end (loop_of c d e (Some step) s))))

  pub step_begins_too : (d : ℕ) (e step : Expr) (s : Stmt) (w : World)
      → after c (pending.Step d e step s) (valued (eval c step w))
      ≡ after c (pending.Turn d e (Some step) s) (Gives (Left Continued) w)
  step_begins_too d e step s w = step_begins d e step s w

  pub loop_broken : (d : ℕ) (e : Expr) (step : Option Expr) (s : Stmt) (w : World)
      → left (spend Normal w) ≡ after c (pending.Turn d e step s) (Gives (Left Broke) w)
  loop_broken d e None s w = refl
  loop_broken d e (Some step) s w = refl

  -- a turn spends its unit, and the loop goes on
  pub turn_ends : (d : ℕ) (e : Expr) (s : Stmt) (w : World)
      → left (then_do (spend Normal w) (λ flow w. loop_of c d e None s w))
      ≡ after c (pending.Turn d e None s) (Gives (Left Normal) w)
  turn_ends d e s w = refl

  pub step_ends : (d : ℕ) (e step : Expr) (s : Stmt) (v : ℕ) (w : World)
      → left (then_do (spend Normal w) (λ flow w. loop_of c d e (Some step) s w))
      ≡ after c (pending.Step d e step s) (Gives (Value v) w)
  step_ends d e step s v w = refl

  -- ---- loops with the test last

  pub do_begins : (s : Stmt) (e : Expr) (w : World) → left (rounds_of c c.turns s e w) ≡ left (exec c (node.Do s e) w)
  do_begins s e w = refl

  pub round_begins : (d : ℕ) (s : Stmt) (e : Expr) (w : World)
      → after c (pending.Round d s e) (left (exec c s w)) ≡ left (rounds_of c (suc d) s e w)
  round_begins d s e w = flow_bind (exec c s w) (round_end (eval c e) (rounds_of c d s e))

  pub round_tested : (d : ℕ) (s : Stmt) (e : Expr) (w : World)
      → after c (pending.RoundTest d s e) (valued (eval c e w)) ≡ after c (pending.Round d s e) (Gives (Left Normal) w)
  round_tested d s e w = left_bind (eval c e w) _

  -- a continue ends the turn, which spends its unit, and then comes the test
  pub round_continued : (d : ℕ) (s : Stmt) (e : Expr) (w : World)
      → left (then_do (spend Normal w)
      (λ flow w. then_do (eval c e w) (λ v w. at_zero v (Gives Normal w) (rounds_of c d s e w))))
      ≡ after c (pending.Round d s e) (Gives (Left Continued) w)
  round_continued d s e w = refl

  pub continued_tested : (d : ℕ) (s : Stmt) (e : Expr) (w : World)
      → after c (pending.ContinuedTest d s e) (valued (eval c e w))
      ≡ left (then_do (eval c e w) (λ v w. at_zero v (Gives Normal w) (rounds_of c d s e w)))
  continued_tested d s e w = left_bind (eval c e w) _

  pub round_broken : (d : ℕ) (s : Stmt) (e : Expr) (w : World) → left (spend Normal w)
      ≡ after c (pending.Round d s e) (Gives (Left Broke) w)
  round_broken d s e w = refl

  -- ---- switches

  pub switch_begins : (e : Expr) (variables items : Items) (w : World)
      → after c (pending.Switch variables items) (valued (eval c e w)) ≡ left (exec c (node.Switch e variables items) w)
  switch_begins e variables items w = left_bind (eval c e w) _

  pub switch_declares : (variables items : Items) (v : ℕ) (w : World)
      → after c (pending.Chosen v items) (left (exec_items c variables w))
      ≡ after c (pending.Switch variables items) (Gives (Value v) w)
  switch_declares variables items v w = flow_bind (exec_items c variables w) (then_next (switched c v items))

  pub switch_chooses : (items : Items) (v : ℕ) (w : World) → left (switched c v items w)
      ≡ after c (pending.Chosen v items) (Gives (Left Normal) w)
  switch_chooses items v w = refl

  pub switch_runs : (items : Items) (w : World) → after c pending.SwitchEnd (left (exec_items c items w))
      ≡ left (then_do (exec_items c items w) switch_end)
  switch_runs items w = flow_bind (exec_items c items w) switch_end

  pub returns : (e : Expr) (w : World) → after c pending.Return (valued (eval c e w))
      ≡ left (exec c (node.ReturnValue e) w)
  returns e w = left_bind (eval c e w) _
