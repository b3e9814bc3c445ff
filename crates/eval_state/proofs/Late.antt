-- An evaluation that keeps what waits on the way out: where it can't go on, each part tells what is done next, and what
-- waits for that between it and the part. What a part comes to is the same then, and a frame that is put in front of
-- what waits makes it what the frame makes of it.
use Rattle.std.proofs.Common.{◌≡◌, ℕ, suc, List, [], ◌∷◌, ◌++◌, Some, None, refl, ap, sym, ◌∙◌}
use Rattle.meaning_state.specs.Shared.{limit_trap}
use Rattle.typed_tree.specs.declared.expression.Answer.{Answer}
use Rattle.typed_tree.specs.Nodes.{Function}
use Rattle.history.specs.Syntax.{Captures}
use Rattle.staged_meaning.specs.Size.{size_of, charge_of}
use Rattle.staged_meaning.specs.Expressions.{left_by}
use Rattle.staged_meaning.specs.Meaning.{Program, Static, callee_at, Context, exec, entered}
use Rattle.staged_meaning.specs.World.{World, Result, Returns, spend}
use Rattle.eval_state.specs.Pending as pending
use Rattle.eval_state.specs.Pending.{Frame}
use Rattle.eval_state.specs.Rest.{Signal, Place, context_at, after, under, below, through, valued, left}
use Rattle.eval_state.specs.Rest.{body_of, resumed, spent, targeted}
use Rattle.eval_state.specs.Late.{IsLate}
use Rattle.eval_state.specs.Moves.{in_function}
use Rattle.eval_state.proofs.CallLaws.{call_starts}

-- nothing waits yet
pub late_now : (at : Place → Context) (p : Place) (x : Result Signal) → IsLate at p [] x x p
late_now at p x = record { same = refl; place = refl }

-- a frame more waits, in front of the others
pub late_waits : (at : Place → Context) (p outer : Place) (fs : List Frame) (f : Frame) (x whole : Result Signal)
    → IsLate at p fs x whole outer → IsLate at p (f ∷ fs) x (after (at outer) f whole) (under f outer)
late_waits at p outer fs f x whole h = record {
  same = ap (λ q. after (at q) f (through at p fs x)) h.place ∙ ap (after (at outer) f) h.same;
  place = ap (under f) h.place;
}

-- the place under frames on frames
pub below_more : (fs gs : List Frame) (p : Place) → below (fs ++ gs) p ≡ below fs (below gs p)
below_more [] gs p = refl
below_more (f ∷ fs) gs p = ap (under f) (below_more fs gs p)

pub through_more : (at : Place → Context) (p : Place) (fs gs : List Frame) (x : Result Signal)
    → through at p (fs ++ gs) x ≡ through at (below gs p) fs (through at p gs x)
through_more at p [] gs x = refl
through_more at p (f ∷ fs) gs x =
    ap (λ q. after (at q) f (through at p (fs ++ gs) x)) (below_more fs gs p)
    ∙ ap (after (at (below fs (below gs p))) f) (through_more at p fs gs x)

-- what waits is pending on what was pending before: the whole leads there
pub late_leads : (at : Place → Context) (p outer : Place) (frames fs : List Frame) (x whole : Result Signal)
    → IsLate at p fs x whole outer → through at p (frames ++ fs) x ≡ through at outer frames whole
late_leads at p outer frames fs x whole h =
    through_more at p frames fs x
    ∙ ap (λ q. through at q frames (through at p fs x)) h.place
    ∙ ap (through at outer frames) h.same

-- ---- a call of a function of the text whose unit is there: its body, and what the call makes of it

module _ (program : Program) (turns d o : ℕ) (captures : Captures) (a : Answer) (f : ℕ) (vs : List ℕ)
    (function : Function) (w : World) (u : ℕ) (some : w.units ≡ suc u)
    (callee : callee_at program w.shared.bodies f ≡ Some (Static function))
    (free : limit_trap (charge_of (size_of function)) function.object w.shared ≡ None) where
  abbrev inner : Context
  inner = context_at program turns (in_function d function.object)

  -- the world in which its body runs
  abbrev pub inside : World
  inside = record (entered (charge_of (size_of function)) function.object w) {
    variables = λ i. 0;
    arguments = vs;
    units = u;
  }

  abbrev waiting : Frame
  waiting = pending.Called a (charge_of (size_of function)) (body_of o captures w)

  pub call_is : after inner waiting (left (exec inner function.body inside))
      ≡ valued (targeted (context_at program turns (record { depth = suc d; object = o; captures = captures }))
      (pending.Direct a f) vs w)
  call_is =
      ap (λ n. after inner waiting (spent inner n (pending.Exec function.body)
      (record (entered (charge_of (size_of function)) function.object w) { variables = λ i. 0; arguments = vs })))
      (sym some)
      ∙ call_starts program turns d o captures a f vs function w callee free

  -- where it returns
  pub call_returns : (v : ℕ) (w1 : World) → left (exec inner function.body inside) ≡ Returns v w1
      → valued (targeted (context_at program turns (record { depth = suc d; object = o; captures = captures }))
      (pending.Direct a f) vs w)
      ≡ valued (spend (left_by a v)
      (resumed (body_of o captures w) (charge_of (size_of function)) function.object w1))
  call_returns v w1 h = sym call_is ∙ ap (after inner waiting) h
