-- What a frame lets pass that waits for something else.
use Rattle.std.proofs.Common.{◌≡◌, ◌<◌, ◌+◌, ℕ, refl, ap, arith}
use Rattle.staged_meaning.specs.Meaning.{Context}
use Rattle.staged_meaning.specs.World.{World, Flow, Gives}
use Rattle.eval_state.specs.Rest.{Value, Left, after}
use Rattle.eval_state.specs.Burden.{capture_weight, weight}
use Rattle.eval_state.specs.declared.parts.EndFrame.{EndFrame}
use Rattle.eval_state.specs.declared.parts.EndFrame.TheVariants as end
use Rattle.eval_state.specs.declared.parts.ExpressionFrame.{ExpressionFrame}
use Rattle.eval_state.specs.declared.parts.ExpressionFrame.TheVariants as expression
use Rattle.eval_state.specs.declared.parts.StatementFrame.{StatementFrame}
use Rattle.eval_state.specs.declared.parts.StatementFrame.TheVariants as statement
use Rattle.eval_state.specs.Less.{held, waiting}
use Rattle.eval_state.specs.Run.{Run, here, leads, world}
use Rattle.eval_state.specs.Views.{end_frame, expression_frame, statement_frame}

value_stays : (c : Context) (f : EndFrame) (v : ℕ) (w : World)
    → Gives (Value v) w ≡ after c (end_frame f) (Gives (Value v) w)
value_stays c (end.Rest items) v w = refl
value_stays c _ v w = refl

pub end_passes : (r : Run) (f : EndFrame) (v : ℕ)
    → leads r (Gives (Value v) (world r)) ≡ leads r (after (here r) (end_frame f) (Gives (Value v) (world r)))
end_passes r f v = ap (leads r) (value_stays (here r) f v (world r))

expression_stays : (c : Context) (f : ExpressionFrame) (flow : Flow) (w : World)
    → Gives (Left flow) w ≡ after c (expression_frame f) (Gives (Left flow) w)
expression_stays c (expression.SetVar i) flow w = refl
expression_stays c _ flow w = refl

pub expression_passes : (r : Run) (f : ExpressionFrame) (flow : Flow) → leads r (Gives (Left flow) (world r))
    ≡ leads r (after (here r) (expression_frame f) (Gives (Left flow) (world r)))
expression_passes r f flow = ap (leads r) (expression_stays (here r) f flow (world r))

statement_stays : (c : Context) (f : StatementFrame) (flow : Flow) (w : World)
    → Gives (Left flow) w ≡ after c (statement_frame f) (Gives (Left flow) w)
statement_stays c statement.Drop flow w = refl
statement_stays c _ flow w = refl

pub statement_passes : (r : Run) (f : StatementFrame) (flow : Flow) → leads r (Gives (Left flow) (world r))
    ≡ leads r (after (here r) (statement_frame f) (Gives (Left flow) (world r)))
statement_passes r f flow = ap (leads r) (statement_stays (here r) f flow (world r))

-- a frame that is taken off makes it less

end_weighs : (k : ℕ → ℕ) (f : EndFrame) → 0 < weight k (end_frame f)
end_weighs k (end.Rest items) = omega arith
end_weighs k _ = omega arith

expression_weighs : (k : ℕ → ℕ) (f : ExpressionFrame) → 0 < weight k (expression_frame f)
expression_weighs k (expression.SetVar i) = omega arith
expression_weighs k _ = omega arith

statement_weighs : (k : ℕ → ℕ) (f : StatementFrame) → 0 < weight k (statement_frame f)
statement_weighs k statement.Drop = omega arith
statement_weighs k _ = omega arith

pub end_lightens : (r : Run) (f : EndFrame) → held r < waiting (end_frame f) r + held r
end_lightens r f = omega (arith, end_weighs (capture_weight r.program.ticks r.state.body.captures) f)

pub expression_lightens : (r : Run) (f : ExpressionFrame) → held r < waiting (expression_frame f) r + held r
expression_lightens r f = omega (arith, expression_weighs (capture_weight r.program.ticks r.state.body.captures) f)

pub statement_lightens : (r : Run) (f : StatementFrame) → held r < waiting (statement_frame f) r + held r
statement_lightens r f = omega (arith, statement_weighs (capture_weight r.program.ticks r.state.body.captures) f)

pub ruleset passing = (
  end_passes,
  expression_passes,
  statement_passes,
  end_lightens,
  expression_lightens,
  statement_lightens,
)
