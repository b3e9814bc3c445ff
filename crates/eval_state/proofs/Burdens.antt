-- A step that spends no unit leaves less behind than there was: what is done next, with the frames that are pushed,
-- weighs less than what was done, with the frame that was taken off.
use Rattle.std.proofs.Common.{◌≡◌, ℕ, suc, ◌+◌, ◌<◌, List, [], ◌∷◌, ◌++◌, Option, Some, None, slice_get, zero, refl, ap}
use Rattle.std.proofs.Common.{◌∙◌, arith}
use Rattle.word32.specs.declared.width.Width.{Width}
use Rattle.history.specs.Syntax.{Syntax, Ticked, Captures, NoCapture, Word, Named, Spliced}
use Rattle.staged_meaning.specs.Program.{Tick}
use Rattle.icode_ops.specs.declared.kind.BinKind.{BinKind}
use Rattle.icode_ops.specs.declared.kind.UnKind.{UnKind}
use Rattle.typed_tree.specs.declared.expression.Answer.{Answer}
use Rattle.typed_tree.specs.declared.expression.CaptureKind.{CaptureKind}
use Rattle.typed_tree.specs.declared.expression.Library.{Library}
use Rattle.typed_tree.specs.Nodes as node
use Rattle.typed_tree.specs.Nodes.{Expr, Args, NoArg, Arg, Stmt, Items, NoItem, Item}
use Rattle.eval_state.specs.Pending as pending
use Rattle.eval_state.specs.Pending.{Frame, Target}
use Rattle.eval_state.specs.Rest.{Place, under, below}
use Rattle.eval_state.specs.Burden.{weight_of, weight_of_stmt, weight_of_tick, weight, load, code_weight}
use Rattle.eval_state.specs.Burden.{capture_weight, weights}
use Rattle.eval_state.proofs.Laws.{below_push}
use Rattle.eval_state.specs.Moves.{syntax_at}

pub weights_push : (ticks : List Tick) (p : Place) (fs : List Frame) (g : Frame)
    → weights ticks p (fs ++ g ∷ []) ≡ weights ticks (under g p) fs + weight (capture_weight ticks p.captures) g
weights_push ticks p [] g = omega arith
weights_push ticks p (f ∷ fs) g =
    let same : weight (capture_weight ticks (below (fs ++ g ∷ []) p).captures) f
    ≡ weight (capture_weight ticks (below fs (under g p)).captures) f =
    ap (λ (q : Place). weight (capture_weight ticks q.captures) f) (below_push fs g p) in
    let more : weights ticks p (fs ++ g ∷ [])
    ≡ weights ticks (under g p) fs + weight (capture_weight ticks p.captures) g = weights_push ticks p fs g in
    omega (arith, same, more)

module _ (k : ℕ → ℕ) where
  -- ---- an expression begins

  pub set_var : (i : ℕ) (a : Expr) → weight_of k a + weight k (pending.SetVar i) < weight_of k (node.SetVar i a)
  set_var i a = omega arith

  pub set_generated : (i : ℕ) (a : Expr) → weight_of k a + weight k (pending.SetGenerated i)
      < weight_of k (node.VSet i a)
  set_generated i a = omega arith

  pub load_begins : (width : Width) (a : Expr) → weight_of k a + weight k (pending.Load width)
      < weight_of k (node.Load width a)
  load_begins width a = omega arith

  pub store : (width : Width) (a b : Expr) → weight_of k a + weight k (pending.StoreAddress width b)
      < weight_of k (node.Store width a b)
  store width a b = omega arith

  pub store_value : (width : Width) (b : Expr) (at : ℕ) → weight_of k b + weight k (pending.StoreValue width at)
      < weight k (pending.StoreAddress width b)
  store_value width b at = omega arith

  pub modify : (width : Width) (kind : BinKind) (a b : Expr)
      → weight_of k a + weight k (pending.ModifyAddress width kind b) < weight_of k (node.Modify width kind a b)
  modify width kind a b = omega arith

  pub modify_value : (width : Width) (kind : BinKind) (b : Expr) (at old : ℕ)
      → weight_of k b + weight k (pending.ModifyValue width kind at old) < weight k (pending.ModifyAddress width kind b)
  modify_value width kind b at old = omega arith

  pub post : (width : Width) (step : ℕ) (a : Expr) → weight_of k a + weight k (pending.Post width step)
      < weight_of k (node.Post width step a)
  post width step a = omega arith

  pub first : (kind : BinKind) (a b : Expr) → weight_of k a + weight k (pending.First kind b)
      < weight_of k (node.Bin kind a b)
  first kind a b = omega arith

  pub second : (kind : BinKind) (b : Expr) (x : ℕ) → weight_of k b + weight k (pending.Second kind x)
      < weight k (pending.First kind b)
  second kind b x = omega arith

  pub unary : (kind : UnKind) (a : Expr) → weight_of k a + weight k (pending.Un kind) < weight_of k (node.Un kind a)
  unary kind a = omega arith

  pub both : (a b : Expr) → weight_of k a + weight k (pending.And b) < weight_of k (node.And a b)
  both a b = omega arith

  pub either : (a b : Expr) → weight_of k a + weight k (pending.Or b) < weight_of k (node.Or a b)
  either a b = omega arith

  pub and_second : (b : Expr) → weight_of k b + weight k pending.Truth < weight k (pending.And b)
  and_second b = omega arith

  pub or_second : (b : Expr) → weight_of k b + weight k pending.Truth < weight k (pending.Or b)
  or_second b = omega arith

  pub choice : (t a b : Expr) → weight_of k t + weight k (pending.Cond a b) < weight_of k (node.Cond t a b)
  choice t a b = omega arith

  pub chosen_first : (a b : Expr) → weight_of k a + weight k pending.Spend < weight k (pending.Cond a b)
  chosen_first a b = omega arith

  pub chosen_second : (a b : Expr) → weight_of k b + weight k pending.Spend < weight k (pending.Cond a b)
  chosen_second a b = omega arith

  pub comma : (a b : Expr) → weight_of k a + weight k (pending.Comma b) < weight_of k (node.Comma a b)
  comma a b = omega arith

  pub comma_second : (b : Expr) → weight_of k b < weight k (pending.Comma b)
  comma_second b = omega arith

  pub void : (a : Expr) → weight_of k a + weight k pending.Void < weight_of k (node.Void a)
  void a = omega arith

  pub library_call : (kind : Library) (a : Expr) → weight_of k a + weight k (pending.Lib kind)
      < weight_of k (node.Lib kind a)
  library_call kind a = omega arith

  pub capture : (kind : CaptureKind) (a : Expr) → weight_of k a + weight k pending.Spend
      < weight_of k (node.Capture kind a)
  capture kind a = omega arith

  pub compile : (a : Expr) → weight_of k a + weight k pending.Compile < weight_of k (node.Compile a)
  compile a = omega arith

  pub parameter : (a : Expr) → weight_of k a + weight k pending.ParamOf < weight_of k (node.ParamOf a)
  parameter a = omega arith

  -- ---- arguments

  pub call_argument : (answer : Answer) (f : ℕ) (target : Target) (a : Expr) (more : Args) (done : List ℕ)
      → weight_of k a + weight k (pending.Argument target more done) < weight_of k (node.Call answer f (Arg a more))
  call_argument answer f target a more done = omega arith

  pub tick_argument : (tick : ℕ) (target : Target) (a : Expr) (more : Args) (done : List ℕ)
      → weight_of k a + weight k (pending.Argument target more done) < weight_of k (node.Tick tick (Arg a more))
  tick_argument tick target a more done = omega arith

  pub function_number : (answer : Answer) (a : Expr) (args : Args)
      → weight_of k a + weight k (pending.Function answer args) < weight_of k (node.CallNumber answer a args)
  function_number answer a args = omega arith

  pub numbered_argument : (answer : Answer) (target : Target) (a : Expr) (more : Args) (done : List ℕ)
      → weight_of k a + weight k (pending.Argument target more done) < weight k (pending.Function answer (Arg a more))
  numbered_argument answer target a more done = omega arith

  pub next_argument : (target : Target) (a : Expr) (more : Args) (done before : List ℕ)
      → weight_of k a + weight k (pending.Argument target more done)
      < weight k (pending.Argument target (Arg a more) before)
  next_argument target a more done before = omega arith

  -- ---- statements

  pub dropped : (e : Expr) → weight_of k e + weight k pending.Drop < weight_of_stmt k (node.Eval e)
  dropped e = omega arith

  pub block : (variables items : Items) → load k (pending.Run variables) + weight k (pending.Rest items)
      < weight_of_stmt k (node.Block variables items)
  block variables items = omega arith

  pub item : (s : Stmt) (items : Items) → weight_of_stmt k s + weight k (pending.Rest items)
      < load k (pending.Run (Item s items))
  item s items = omega arith

  pub rest : (items : Items) → load k (pending.Run items) < weight k (pending.Rest items)
  rest items = omega arith

  pub if_then : (e : Expr) (s : Stmt) → weight_of k e + weight k (pending.If s) < weight_of_stmt k (node.If e s)
  if_then e s = omega arith

  pub if_else : (e : Expr) (s t : Stmt) → weight_of k e + weight k (pending.IfElse s t)
      < weight_of_stmt k (node.IfElse e s t)
  if_else e s t = omega arith

  pub while_begins : (d : ℕ) (e : Expr) (s : Stmt) → weight_of k e + weight k (pending.Test d e None s)
      < weight_of_stmt k (node.While e s)
  while_begins d e s = omega arith

  pub for_step_begins : (d : ℕ) (e step : Expr) (s : Stmt)
      → weight_of k e + weight k (pending.Test d e (Some step) s) < weight_of_stmt k (node.ForStep e step s)
  for_step_begins d e step s = omega arith

  pub test_holds : (d : ℕ) (e : Expr) (step : Option Expr) (s : Stmt)
      → weight_of_stmt k s + weight k (pending.Turn d e step s) < weight k (pending.Test d e step s)
  test_holds d e step s = omega arith

  pub step_begins : (d : ℕ) (e step : Expr) (s : Stmt) → weight_of k step + weight k (pending.Step d e step s)
      < weight k (pending.Turn d e (Some step) s)
  step_begins d e step s = omega arith

  pub do_begins : (d : ℕ) (s : Stmt) (e : Expr) → weight_of_stmt k s + weight k (pending.Round d s e)
      < weight_of_stmt k (node.Do s e)
  do_begins d s e = omega arith

  pub round_tested : (d : ℕ) (s : Stmt) (e : Expr) → weight_of k e + weight k (pending.RoundTest d s e)
      < weight k (pending.Round d s e)
  round_tested d s e = omega arith

  pub round_again : (d more : ℕ) (s : Stmt) (e : Expr) → weight_of_stmt k s + weight k (pending.Round more s e)
      < weight k (pending.ContinuedTest d s e)
  round_again d more s e = omega arith

  pub switch_begins : (e : Expr) (variables items : Items)
      → weight_of k e + weight k (pending.Switch variables items) < weight_of_stmt k (node.Switch e variables items)
  switch_begins e variables items = omega arith

  pub switch_declares : (variables items : Items) (v : ℕ)
      → load k (pending.Run variables) + weight k (pending.Chosen v items) < weight k (pending.Switch variables items)
  switch_declares variables items v = omega arith

  pub switch_runs : (v : ℕ) (items : Items) → load k (pending.Run items) + weight k pending.SwitchEnd
      < weight k (pending.Chosen v items)
  switch_runs v items = omega arith

  pub returns : (e : Expr) → weight_of k e + weight k pending.Return < weight_of_stmt k (node.ReturnValue e)
  returns e = omega arith

-- ---- spliced code

abbrev weight_at : List Tick → Option Syntax → ℕ
weight_at ticks None = 0
weight_at ticks (Some syntax) = code_weight ticks syntax

capture_weighs : (ticks : List Tick) (captures : Captures) (i : ℕ) → capture_weight ticks captures i
    ≡ weight_at ticks (syntax_at captures i)
capture_weighs ticks NoCapture i = refl
capture_weighs ticks (Spliced inner captures) zero = refl
capture_weighs ticks (Spliced inner captures) (suc i) = capture_weighs ticks captures i
capture_weighs ticks (Word word captures) zero = refl
capture_weighs ticks (Word word captures) (suc i) = capture_weighs ticks captures i
capture_weighs ticks (Named key captures) zero = refl
capture_weighs ticks (Named key captures) (suc i) = capture_weighs ticks captures i

-- the code of a capture weighs less than the splice that names it
pub splice_begins : (ticks : List Tick) (captures inner : Captures) (answer : Answer) (i tick object : ℕ)
    (variables : ℕ → ℕ)
    → syntax_at captures i ≡ Some (Ticked tick inner)
    → weight_of_tick (capture_weight ticks inner) (slice_get ticks tick)
    + weight (capture_weight ticks inner) (pending.Spliced answer variables object captures)
    < weight_of (capture_weight ticks captures) (node.Splice answer i)
splice_begins ticks captures inner answer i tick object variables h =
    let w : capture_weight ticks captures i ≡ weight_of_tick (capture_weight ticks inner) (slice_get ticks tick) =
    capture_weighs ticks captures i ∙ ap (weight_at ticks) h in
    omega (arith, w)
