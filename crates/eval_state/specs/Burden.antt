-- How much is pending. Each step of an evaluation makes it less, or spends a unit; so an evaluation with so many units
-- ends. Spliced code begins without a unit, so a splice weighs as much as what it stands for, which is less deep than
-- the code round it.
use Rattle.std.specs.Prelude.{ℕ, zero, suc, ◌+◌, ◌*◌, List, [], ◌∷◌, length, slice_get, Option, Some, None}
use Rattle.history.specs.Syntax.{Syntax, Ticked, Captures, Word, Named, Spliced}
use Rattle.typed_tree.specs.declared.expression.Expr.TheOpen.{Expr-F}
use Rattle.typed_tree.specs.Folds.{Parts, Rules, total}
use Rattle.typed_tree.specs.Folds as parts
use Rattle.typed_tree.specs.Measures.{together, all_together}
use Rattle.typed_tree.specs.Nodes.{Expr, Args, Stmt, Items, fold_expr, fold_args, fold_stmt, fold_items}
use Rattle.staged_meaning.specs.Program.{Tick, OfExpression, OfStatement}
use Rattle.eval_state.specs.Pending as pending
use Rattle.eval_state.specs.Pending.{Now, Frame}
use Rattle.eval_state.specs.Rest.{Place, below}

-- where the splices of each capture weigh this
module _ (k : ℕ → ℕ) where
  -- four for a node, and two for each member of its lists
  abbrev pub expr_rule : Expr-F ℕ → ℕ
  expr_rule (Expr-F.Call answer f list) = 4 + (total list + 2 * length list)
  expr_rule (Expr-F.CallNumber answer a list) = 4 + (a + (total list + 2 * length list))
  expr_rule (Expr-F.Tick tick list) = 4 + (total list + 2 * length list)
  expr_rule (Expr-F.Splice answer i) = 4 + k i
  expr_rule node = 4 + together node

  abbrev pub stmt_rule : Parts ℕ ℕ → ℕ
  stmt_rule (parts.Block variables items) = 4 +
      (total variables + 2 * length variables + (total items + 2 * length items))
  stmt_rule (parts.Switch e variables items) =
      6 + (e + (total variables + 2 * length variables + (total items + 2 * length items)))
  stmt_rule node = 4 + all_together node

  abbrev pub rules : Rules ℕ ℕ
  rules = record { expr = expr_rule; stmt = stmt_rule }

  abbrev pub weight_of : Expr → ℕ
  weight_of = fold_expr expr_rule

  abbrev pub weight_of_args : Args → ℕ
  weight_of_args args = total (fold_args expr_rule args) + 2 * length (fold_args expr_rule args)

  abbrev pub weight_of_stmt : Stmt → ℕ
  weight_of_stmt = fold_stmt rules

  abbrev pub weight_of_items : Items → ℕ
  weight_of_items items = total (fold_items rules items) + 2 * length (fold_items rules items)

  abbrev pub weight_of_step : Option Expr → ℕ
  weight_of_step None = 0
  weight_of_step (Some step) = weight_of step

  abbrev pub weight_of_tick : Option Tick → ℕ
  weight_of_tick None = 0
  weight_of_tick (Some (OfExpression e)) = weight_of e
  weight_of_tick (Some (OfStatement s)) = weight_of_stmt s

  -- a frame weighs what is still to begin behind it, up to the next unit, and something for itself
  abbrev pub weight : Frame → ℕ
  weight (pending.StoreAddress width b) = weight_of b + 2
  weight (pending.ModifyAddress width kind b) = weight_of b + 2
  weight (pending.First kind b) = weight_of b + 2
  weight (pending.And b) = weight_of b + 2
  weight (pending.Or b) = weight_of b + 2
  weight (pending.Cond a b) = weight_of a + (weight_of b + 2)
  weight (pending.Comma b) = weight_of b + 1
  weight (pending.Function answer args) = weight_of_args args + 2
  weight (pending.Argument target more done) = weight_of_args more + 1
  weight (pending.If s) = weight_of_stmt s + 1
  weight (pending.IfElse s t) = weight_of_stmt s + (weight_of_stmt t + 1)
  weight (pending.Test d e step s) = weight_of_step step + (weight_of_stmt s + 3)
  weight (pending.ContinuedTest d s e) = weight_of_stmt s + (weight_of e + 3)
  weight (pending.Switch variables items) = weight_of_items variables + (weight_of_items items + 5)
  weight (pending.Rest items) = weight_of_items items + 2
  weight (pending.Turn d e step s) = weight_of_step step + 2
  weight (pending.Round d s e) = weight_of e + 2
  weight (pending.Chosen v items) = weight_of_items items + 3
  weight _ = 1

  -- what is still to begin of what is done now
  abbrev pub load : Now → ℕ
  load (pending.Eval e) = weight_of e
  load (pending.Exec s) = weight_of_stmt s
  load (pending.Run items) = weight_of_items items + 1
  load _ = 0

-- what generated code weighs, and what is spliced in by the capture of a number
abbrev mutual
  pub code_weight : List Tick → Syntax → ℕ
  code_weight ticks (Ticked tick captures) = weight_of_tick (capture_weight ticks captures) (slice_get ticks tick)

  pub capture_weight : List Tick → Captures → (capture : ℕ) → ℕ
  capture_weight ticks (Spliced syntax captures) zero = code_weight ticks syntax
  capture_weight ticks (Spliced syntax captures) (suc i) = capture_weight ticks captures i
  capture_weight ticks (Word word captures) (suc i) = capture_weight ticks captures i
  capture_weight ticks (Named key captures) (suc i) = capture_weight ticks captures i
  capture_weight ticks _ i = 0

-- all that is pending, the last in a place
abbrev pub weights : List Tick → Place → List Frame → ℕ
weights ticks p [] = 0
weights ticks p (f ∷ fs) = weight (capture_weight ticks (below fs p).captures) f + weights ticks p fs

abbrev pub burden : List Tick → Place → Now → List Frame → ℕ
burden ticks p n fs = load (capture_weight ticks p.captures) n + weights ticks p fs
