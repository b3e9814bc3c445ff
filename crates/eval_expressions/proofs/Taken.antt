-- What the frames make of a value that is there.
use Rattle.std.proofs.Common.{◌≡◌, ◌≤◌, ◌+◌, ℕ, suc, List, [], ◌∷◌, ◌++◌, IfOk, refl, ap, sym, subst, ◌∙◌, arith}
use Rattle.std.proofs.Common as std
use Rattle.word32.specs.declared.width.Width.{Width}
use Rattle.icode_ops.specs.declared.kind.UnKind.{UnKind}
use Rattle.meaning_state.specs.Operators.{un_value}
use Rattle.typed_tree.specs.declared.expression.Answer.{Answer}
use Rattle.typed_tree.specs.Nodes.{Args, Expr}
use Rattle.staged_meaning.specs.Expressions.{store_at}
use Rattle.staged_meaning.specs.Specifications.{compile_number, specify_parameter}
use Rattle.eval_state.specs.Pending as pending
use Rattle.eval_state.specs.Pending.{Frame, Now, Target}
use Rattle.eval_state.specs.Rest.{valued}
use Rattle.eval_state.specs.declared.parts.Now as code
use Rattle.eval_state.specs.Less.{heft, held}
use Rattle.eval_state.specs.Run.{Run, here, leads, outcome, world}
use Rattle.eval_state.specs.Steps.{taken}
use Rattle.eval_state.specs.Views.{now_view}
use Rattle.eval_simple.specs.Stepped.{IsStep, IsTaken}
use Rattle.eval_simple.proofs.Stepped.{parts_held, step_as, step_now, steps_as}
use Rattle.eval_expressions.specs.Arguments.{IsComing, coming}
use Rattle.eval_expressions.proofs.AtOnce.{one_more}
use Rattle.eval_expressions.proofs.Steps.{giving}

-- by what the frame is
pub take : (f g : Frame) (v : ℕ) (n : Now) (r t : Run) → f ≡ g → IsTaken g v n r t → IsTaken f v n r t
take f g v n r t is h = subst (λ q. IsTaken q v n r t) (sym is) h

pub takes : {E : Type 0} (result : std.Result code.Now E) (f g : Frame) (v : ℕ) (r t : Run) → f ≡ g
    → IfOk result (λ n. IsTaken g v (now_view n) r t) → IfOk result (λ n. IsTaken f v (now_view n) r t)
takes result f g v r t is h = subst (λ q. IfOk result (λ n. IsTaken q v (now_view n) r t)) (sym is) h

pub unary : (f : Frame) (kind : UnKind) (v x : ℕ) (n : Now) (r t : Run) → f ≡ pending.Un kind → x ≡ un_value kind v
    → IsStep (giving x (world r) r) 1 n r t → IsTaken f v n r t
unfolding taken
unary f kind v x n r t is value h =
    take f (pending.Un kind) v n r t is
    (step_as n _ _ 1 _ r t (ap (λ x. giving x (world r) r) value) (omega arith) h)

pub standing : (f : Frame) (v : ℕ) (n : Now) (r t : Run) → f ≡ pending.Spend
    → IsStep (giving v (world r) r) 1 n r t → IsTaken f v n r t
unfolding taken
standing f v n r t is h = take f pending.Spend v n r t is (step_as n _ _ 1 _ r t refl (omega arith) h)

pub put : (f : Frame) (width : Width) (at v : ℕ) (n : Now) (r t : Run) → f ≡ pending.StoreValue width at
    → IsStep (leads r (valued (store_at width at v (world r)))) (suc (held r)) n r t → IsTaken f v n r t
unfolding taken
put f width at v n r t is h =
    take f (pending.StoreValue width at) v n r t is (step_as n _ _ (suc (held r)) _ r t refl (omega arith) h)

pub comma : (f : Frame) (b : Expr) (v : ℕ) (r : Run) → f ≡ pending.Comma b → IsTaken f v (pending.Eval b) r r
unfolding taken
comma f b v r is =
    take f (pending.Comma b) v (pending.Eval b) r r is (step_now (pending.Eval b) _ _ r refl (omega arith))

pub void : (f : Frame) (v : ℕ) (r : Run) → f ≡ pending.Void → IsTaken f v (pending.Value 0) r r
unfolding taken
void f v r is = take f pending.Void v (pending.Value 0) r r is (step_now (pending.Value 0) _ _ r refl (omega arith))

module _ {E : Type 0} (result : std.Result code.Now E) where
  pub compile : (f : Frame) (v : ℕ) (r t : Run) → f ≡ pending.Compile
      → IfOk result (λ n. outcome (now_view n) t ≡ leads r (valued (compile_number (here r).program v (world r))))
      → IfOk result (λ n. t.state.units ≤ r.state.units)
      → IfOk result (λ n. t.state.units ≡ r.state.units → heft (now_view n) t ≤ held r)
      → IfOk result (λ n. IsTaken f v (now_view n) r t)
  unfolding taken
  compile f v r t is same units less =
      takes result f pending.Compile v r t is
      (parts_held result _ _ (held r) _ r t refl (omega arith) same units less)

  pub parameter : (f : Frame) (v : ℕ) (r t : Run) → f ≡ pending.ParamOf
      → IfOk result (λ n. outcome (now_view n) t ≡ leads r (valued (specify_parameter v (world r))))
      → IfOk result (λ n. t.state.units ≤ r.state.units)
      → IfOk result (λ n. t.state.units ≡ r.state.units → heft (now_view n) t ≤ held r)
      → IfOk result (λ n. IsTaken f v (now_view n) r t)
  unfolding taken
  parameter f v r t is same units less =
      takes result f pending.ParamOf v r t is
      (parts_held result _ _ (held r) _ r t refl (omega arith) same units less)

  pub function : (f : Frame) (answer : Answer) (args : Args) (v : ℕ) (r t : Run) → f ≡ pending.Function answer args
      → IfOk result (λ n. IsComing (pending.Numbered answer v) args [] (now_view n) r t)
      → IfOk result (λ n. IsTaken f v (now_view n) r t)
  unfolding taken
  function f answer args v r t is h =
      takes result f (pending.Function answer args) v r t is
      (steps_as result _ _ _ _ r t refl (omega arith) h)

  pub argument : (f : Frame) (target : Target) (args : Args) (done now : List ℕ) (v : ℕ) (r t : Run)
      → f ≡ pending.Argument target args done → now ≡ done ++ v ∷ []
      → IfOk result (λ n. IsComing target args now (now_view n) r t) → IfOk result (λ n. IsTaken f v (now_view n) r t)
  argument f target args done now v r t is more h =
      takes result f (pending.Argument target args done) v r t is
      (steps_as result _ _ _ _ r t (ap (λ l. coming target args l r) more ∙ one_more target args done v r)
      (omega arith) h)
