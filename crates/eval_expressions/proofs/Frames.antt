-- What a frame makes of a value: another part is evaluated, and a frame waits for that.
use Rattle.std.proofs.Common.{◌≡◌, ◌≢◌, ◌<◌, ◌+◌, ℕ, zero, suc, None, IfOk, refl, ap, sym, ◌∙◌, arith}
use Rattle.std.proofs.Common as std
use Rattle.word32.specs.declared.width.Width.{Width}
use Rattle.icode_ops.specs.declared.kind.BinKind.{BinKind}
use Rattle.meaning_state.specs.Shared.{access_trap, loaded}
use Rattle.staged_meaning.specs.Expressions.{modify_at}
use Rattle.staged_meaning.specs.Meaning.{eval}
use Rattle.staged_meaning.specs.World.{then_do, unless}
use Rattle.typed_tree.specs.Nodes.{Expr}
use Rattle.eval_state.specs.Pending as pending
use Rattle.eval_state.specs.Pending.{Frame}
use Rattle.eval_state.specs.Rest.{after, valued}
use Rattle.eval_state.proofs.Laws as law
use Rattle.eval_state.specs.declared.parts.Now as code
use Rattle.eval_state.specs.Less.{heft, held, waiting}
use Rattle.eval_state.specs.Run.{Run, here, leads, world}
use Rattle.eval_state.specs.Steps.{taken}
use Rattle.eval_state.specs.Views.{now_view}
use Rattle.eval_simple.specs.Stepped.{IsPushed, IsTaken}
use Rattle.eval_simple.proofs.Stepped.{waits}

pub record Goes (f : Frame) (v : ℕ) (a : Expr) (g : Frame) (r : Run) : Type 0 where
  pub same : leads r (after (here r) g (valued (eval (here r) a (world r)))) ≡ taken f v r
  pub less : heft (pending.Eval a) r + waiting g r < waiting f r + held r

pub goes : {E : Type 0} (result : std.Result code.Now E) (f : Frame) (v : ℕ) (a : Expr) (g : Frame) (r t : Run)
    → Goes f v a g r → IfOk result (λ n. IsPushed g (pending.Eval a) (now_view n) r t)
    → IfOk result (λ n. IsTaken f v (now_view n) r t)
goes result f v a g r t o h =
    waits result g (pending.Eval a) (taken f v r) (waiting f r + held r) r t o.same o.less h

pub second : (kind : BinKind) (b : Expr) (x : ℕ) (r : Run) → Goes (pending.First kind b) x b (pending.Second kind x) r
unfolding taken
second kind b x r =
    record { same = ap (leads r) (law.second (here r) kind b x (world r)); less = omega arith }

pub store_value : (width : Width) (b : Expr) (at : ℕ) (r : Run)
    → Goes (pending.StoreAddress width b) at b (pending.StoreValue width at) r
unfolding taken
store_value width b at r =
    record { same = ap (leads r) (law.store_value (here r) width b at (world r)); less = omega arith }

pub and_second : (b : Expr) (x : ℕ) (r : Run) → x ≢ 0 → Goes (pending.And b) x b pending.Truth r
unfolding taken
and_second b zero r h = absurd (h refl)
and_second b (suc x) r h =
    record { same = ap (leads r) (law.and_second (here r) b x (world r)); less = omega arith }

pub or_second : (b : Expr) (x : ℕ) (r : Run) → x ≡ 0 → Goes (pending.Or b) x b pending.Truth r
unfolding taken
or_second b x r h = record {
  same = ap (leads r) (law.or_second (here r) b (world r)) ∙ ap (λ x. taken (pending.Or b) x r) (sym h);
  less = omega arith;
}

pub chosen_first : (a b : Expr) (x : ℕ) (r : Run) → x ≢ 0 → Goes (pending.Cond a b) x a pending.Spend r
unfolding taken
chosen_first a b zero r h = absurd (h refl)
chosen_first a b (suc x) r h =
    record { same = ap (leads r) (law.chosen_first (here r) a b x (world r)); less = omega arith }

pub chosen_second : (a b : Expr) (x : ℕ) (r : Run) → x ≡ 0 → Goes (pending.Cond a b) x b pending.Spend r
unfolding taken
chosen_second a b x r h = record {
  same = ap (leads r) (law.chosen_second (here r) a b (world r)) ∙ ap (λ x. taken (pending.Cond a b) x r) (sym h);
  less = omega arith;
}

pub modify_value : (width : Width) (kind : BinKind) (b : Expr) (at old : ℕ) (r : Run) → access_trap at width ≡ None
    → old ≡ loaded at width (world r).shared
    → Goes (pending.ModifyAddress width kind b) at b (pending.ModifyValue width kind at old) r
unfolding taken
modify_value width kind b at old r none is = record {
  same =
      ap (leads r) (law.valued_bind (eval (here r) b (world r)) (modify_at width kind at old))
      ∙ ap (λ old. leads r (valued (then_do (eval (here r) b (world r)) (modify_at width kind at old)))) is
      ∙ ap (λ t. leads r (valued (unless t (world r) (then_do (eval (here r) b (world r)) (modify_at width kind at
      (loaded at width (world r).shared)))))) (sym none);
  less = omega arith;
}
