-- What is still to come, where a frame is pushed and where a unit is spent.
use Rattle.std.proofs.Common.{◌≡◌, ℕ, suc, List, [], ◌∷◌, ◌++◌, refl, ap, sym, ◌∙◌}
use Rattle.history.specs.Syntax.{Captures}
use Rattle.typed_tree.specs.declared.expression.Answer.{Answer}
use Rattle.staged_meaning.specs.Expressions.{left_by}
use Rattle.staged_meaning.specs.World.{World, Result, Gives, Returns, spend}
use Rattle.eval_state.specs.Pending.{Now, Body, Frame as Pending}
use Rattle.eval_state.specs.Pending as pending
use Rattle.eval_state.specs.Rest.{Signal, Value, Place, under, after, doing, spent, context_at, place_of, through}
use Rattle.eval_state.specs.Rest.{valued, value_of}
use Rattle.eval_state.proofs.Laws.{push_plain, through_push}
use Rattle.eval_state.specs.Popped.{back_to}
use Rattle.eval_state.specs.declared.parts.Frame.{Frame}
use Rattle.eval_state.specs.declared.parts.Frame.TheVariants as frame
use Rattle.eval_state.specs.declared.parts.ExpressionFrame.TheVariants as expression
use Rattle.eval_state.specs.declared.parts.StatementFrame.TheVariants as statement
use Rattle.eval_state.specs.declared.parts.EndFrame.TheVariants as end
use Rattle.eval_state.specs.Views.{frame_view}
use Rattle.eval_state.specs.Run.{Run, here, world, leads, outcome, pushed, with_units, in_world}

-- a frame within a body leaves the place as it is
pub inside_stays : (f : Frame) (p : Place) → under (frame_view f) p ≡ p
inside_stays (frame.Expression (expression.SetVar i)) p = refl
inside_stays (frame.Expression _) p = refl
inside_stays (frame.Statement statement.Drop) p = refl
inside_stays (frame.Statement _) p = refl
inside_stays (frame.End end.SwitchEnd) p = refl
inside_stays (frame.End _) p = refl

pub push_leads : (r : Run) (f : Frame) (n : Now)
    → outcome n (pushed (frame_view f) r) ≡ leads r (after (here r) (frame_view f) (doing (here r) n (world r)))
push_leads r f n =
    push_plain (context_at r.program r.turns) (place_of r.state) r.state.frames (frame_view f)
    (doing (here r) n (world r)) (inside_stays f (place_of r.state))

-- the same, of a frame that is taken off
pub pop_leads : (r : Run) (f : Frame) (x : Result Signal)
    → leads (pushed (frame_view f) r) x ≡ leads r (after (here r) (frame_view f) x)
pop_leads r f x =
    push_plain (context_at r.program r.turns) (place_of r.state) r.state.frames (frame_view f) x
    (inside_stays f (place_of r.state))

pub spends : (r : Run) (n : Now) (u : ℕ) → r.state.units ≡ suc u
    → outcome n (with_units u r) ≡ leads r (spent (here r) r.state.units n (world r))
spends r n u h = ap (λ k. leads r (spent (here r) k n (world r))) (sym h)

pub stops : (r : Run) (n : Now) → r.state.units ≡ 0
    → outcome pending.Stopped r ≡ leads r (spent (here r) r.state.units n (world r))
stops r n h = ap (λ k. leads r (spent (here r) k n (world r))) (sym h)

-- in another world the same is still to come
pub world_leads : (r : Run) (w : World) (x : Result Signal) → leads (in_world w r) x ≡ leads r x
world_leads r w x = refl

pub world_is : (r : Run) (w : World) → world (in_world w r) ≡ w
world_is r w = refl

-- ---- what is taken off

pub call_ends : (r : Run) (fs : List Pending) (a : Answer) (charge : ℕ) (caller : Body) (x : Signal)
    → r.state.frames ≡ fs ++ pending.Called a charge caller ∷ []
    → leads r (Gives x (world r))
    ≡ leads (back_to charge caller fs r) (valued (spend (left_by a (value_of x)) (world (back_to charge caller fs r))))
call_ends r fs a charge caller x h =
    ap (λ gs. through (context_at r.program r.turns) (place_of r.state) gs (Gives x (world r))) h
    ∙ through_push (context_at r.program r.turns) (place_of r.state) fs (pending.Called a charge caller)
    (Gives x (world r))

pub call_left : (r : Run) (fs : List Pending) (a : Answer) (charge : ℕ) (caller : Body) (v : ℕ)
    → r.state.frames ≡ fs ++ pending.Called a charge caller ∷ []
    → leads r (Returns v (world r))
    ≡ leads (back_to charge caller fs r) (valued (spend (left_by a v) (world (back_to charge caller fs r))))
call_left r fs a charge caller v h =
    ap (λ gs. through (context_at r.program r.turns) (place_of r.state) gs (Returns v (world r))) h
    ∙ through_push (context_at r.program r.turns) (place_of r.state) fs (pending.Called a charge caller)
    (Returns v (world r))

-- spliced code that was left by its end, and by a return
abbrev pub spliced_back : (variables : ℕ → ℕ) → (object : ℕ) → Captures → List Pending → Run → Run
spliced_back variables object captures fs r = record r {
  state = record r.state {
    body = record r.state.body { variables = variables; object = object; captures = captures };
    frames = fs;
  };
}

pub splice_ends : (r : Run) (fs : List Pending) (a : Answer) (vs : ℕ → ℕ) (object : ℕ) (captures : Captures)
    (x : Signal)
    → r.state.frames ≡ fs ++ pending.Spliced a vs object captures ∷ []
    → leads r (Gives x (world r))
    ≡ leads (spliced_back vs object captures fs r)
    (Gives (Value (left_by a (value_of x))) (world (spliced_back vs object captures fs r)))
splice_ends r fs a vs object captures x h =
    ap (λ gs. through (context_at r.program r.turns) (place_of r.state) gs (Gives x (world r))) h
    ∙ through_push (context_at r.program r.turns) (place_of r.state) fs (pending.Spliced a vs object captures)
    (Gives x (world r))

pub splice_left : (r : Run) (fs : List Pending) (a : Answer) (vs : ℕ → ℕ) (object : ℕ) (captures : Captures) (v : ℕ)
    → r.state.frames ≡ fs ++ pending.Spliced a vs object captures ∷ []
    → leads r (Returns v (world r))
    ≡ leads (spliced_back r.state.body.variables object captures fs r)
    (Returns v (world (spliced_back r.state.body.variables object captures fs r)))
splice_left r fs a vs object captures v h =
    ap (λ gs. through (context_at r.program r.turns) (place_of r.state) gs (Returns v (world r))) h
    ∙ through_push (context_at r.program r.turns) (place_of r.state) fs (pending.Spliced a vs object captures)
    (Returns v (world r))
