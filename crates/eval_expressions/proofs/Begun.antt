-- Nodes that begin with no part: what they give, or what else they do.
use Rattle.std.proofs.Common.{◌≡◌, ◌≤◌, ◌<◌, ◌+◌, ℕ, [], IfOk, refl, ap, ◌∙◌, arith}
use Rattle.std.proofs.Common as std
use Rattle.word32.specs.declared.width.Width.{Width}
use Rattle.word32.specs.Parts.{narrowed}
use Rattle.word32.specs.Words.{sum}
use Rattle.meaning_state.specs.Shared as shared
use Rattle.meaning_state.specs.Shared.{Failed, Got, Read, frame_start, get_byte}
use Rattle.typed_tree.specs.declared.expression.Answer.{Answer}
use Rattle.typed_tree.specs.declared.expression.CapturedWord.{CapturedWord}
use Rattle.typed_tree.specs.Nodes as node
use Rattle.typed_tree.specs.Nodes.{Args, Expr}
use Rattle.staged_meaning.specs.Expressions.{answered, key_of, word_of}
use Rattle.staged_meaning.specs.Meaning.{eval}
use Rattle.staged_meaning.specs.Specifications.{kinds_of, specify}
use Rattle.staged_meaning.specs.World.{with_generated, with_shared, with_variable}
use Rattle.eval_state.specs.Pending as pending
use Rattle.eval_state.specs.Pending.{Now}
use Rattle.eval_state.specs.Rest.{valued}
use Rattle.eval_state.specs.declared.parts.Now as code
use Rattle.eval_state.specs.Less.{heft, held}
use Rattle.eval_state.specs.Library.{IsRead}
use Rattle.eval_state.specs.Run.{Run, here, in_world, leads, outcome, world}
use Rattle.eval_state.specs.Steps.{begun}
use Rattle.eval_state.specs.Views.{now_view}
use Rattle.eval_simple.specs.Stepped.{IsBegun, IsStep}
use Rattle.eval_simple.proofs.Stepped.{parts_below, parts_held, steps_as}
use Rattle.eval_expressions.specs.Arguments.{IsComing, coming}
use Rattle.eval_expressions.proofs.Steps.{begins, behind, giving, leaf}

pub constant : (e : Expr) (x : ℕ) (n : Now) (r t : Run) → e ≡ node.Const x → IsStep (giving x (world r) r) 1 n r t
    → IsBegun e n r t
unfolding begun
constant e x n r t is h = leaf e (node.Const x) x x n r t is refl refl (omega arith) h

pub captured : (e : Expr) (kind : CapturedWord) (i x : ℕ) (n : Now) (r t : Run) → e ≡ node.Captured kind i
    → x ≡ word_of (here r).captures i → IsStep (giving x (world r) r) 1 n r t → IsBegun e n r t
unfolding begun
captured e kind i x n r t is value h =
    leaf e (node.Captured kind i) x (word_of (here r).captures i) n r t is value refl (omega arith) h

pub variable : (e : Expr) (i x : ℕ) (n : Now) (r t : Run) → e ≡ node.Var i → x ≡ (world r).variables i
    → IsStep (giving x (world r) r) 1 n r t → IsBegun e n r t
unfolding begun
variable e i x n r t is value h = leaf e (node.Var i) x ((world r).variables i) n r t is value refl (omega arith) h

pub generated : (e : Expr) (i x : ℕ) (n : Now) (r t : Run) → e ≡ node.VGet i
    → x ≡ (world r).generated (key_of (here r).captures i) → IsStep (giving x (world r) r) 1 n r t → IsBegun e n r t
unfolding begun
generated e i x n r t is value h =
    leaf e (node.VGet i) x ((world r).generated (key_of (here r).captures i)) n r t is value refl (omega arith) h

-- ---- nodes that change the world

pub post_variable : (i : ℕ) (width : Width) (step old new : ℕ) (n : Now) (r s t : Run)
    → old ≡ (world r).variables i → new ≡ narrowed width (sum old step)
    → s ≡ in_world (with_variable i new (world r)) r → IsStep (giving old (world s) s) 1 n s t
    → IsBegun (node.PostVar i width step) n r t
unfolding begun
post_variable i width step old new n r s t is changed set h =
    behind n old (with_variable i new (world r)) _ _ r s t set (omega arith)
    (ap (λ new. giving old (with_variable i new (world r)) r) changed
    ∙ ap (λ old. giving old (with_variable i (narrowed width (sum old step)) (world r)) r) is)
    (omega arith) h

pub post_generated : (i step old : ℕ) (n : Now) (r s t : Run)
    → old ≡ (world r).generated (key_of (here r).captures i)
    → s ≡ in_world (with_generated (key_of (here r).captures i) (sum old step) (world r)) r
    → IsStep (giving old (world s) s) 1 n s t → IsBegun (node.VPost i step) n r t
unfolding begun
post_generated i step old n r s t is set h =
    behind n old (with_generated (key_of (here r).captures i) (sum old step) (world r)) _ _ r s t set (omega arith)
    (ap (λ old. giving old (with_generated (key_of (here r).captures i) (sum old step) (world r)) r) is)
    (omega arith) h

pub object : (offset at : ℕ) (n : Now) (r t : Run)
    → at ≡ frame_start (here r).object (world r).shared + offset → IsStep (giving at (world r) r) 1 n r t
    → IsBegun (node.Frame offset) n r t
unfolding begun
object offset at n r t is h =
    leaf (node.Frame offset) (node.Frame offset) at (frame_start (here r).object (world r).shared + offset) n r t refl
    is refl (omega arith) h

reads : (word : ℕ) (read : Read) (n : Now) (m : ℕ) (r s t : Run) → 1 ≤ m → IsRead word read r s
    → IsStep (giving word (world s) s) 1 n s t → IsStep (leads r (valued (answered read (world r)))) m n r t
reads word (Got x shared) n m r s t some it h =
    behind n word (with_shared shared (world r)) _ m r s t it.1 (omega arith)
    (ap (λ word. giving word (with_shared shared (world r)) r) it.0) some h
reads word Failed n m r s t some it h = absurd it

pub getchar : (word : ℕ) (n : Now) (r s t : Run) → IsRead word (get_byte (world r).shared) r s
    → IsStep (giving word (world s) s) 1 n s t → IsBegun node.Getchar n r t
unfolding begun
getchar word n r s t it h = reads word (get_byte (world r).shared) n _ r s t (omega arith) it h

module _ {E : Type 0} (result : std.Result code.Now E) where
  pub splice : (answer : Answer) (i : ℕ) (e : Expr) (r t : Run) → e ≡ node.Splice answer i
      → IfOk result (λ n. outcome (now_view n) t ≡ leads r (valued (eval (here r) (node.Splice answer i) (world r))))
      → IfOk result (λ n. t.state.units ≤ r.state.units)
      → IfOk result (λ n. t.state.units ≡ r.state.units
      → heft (now_view n) t < heft (pending.Eval (node.Splice answer i)) r)
      → IfOk result (λ n. IsBegun e (now_view n) r t)
  unfolding begun
  splice answer i e r t is same units less =
      begins result e (node.Splice answer i) r t is (parts_below result _ _ _ _ r t refl (omega arith) same units less)

  pub specify_local : (e : Expr) (r t : Run) → e ≡ node.Local
      → IfOk result (λ n. outcome (now_view n) t ≡ leads r (valued (specify shared.Local 0 (world r))))
      → IfOk result (λ n. t.state.units ≤ r.state.units)
      → IfOk result (λ n. t.state.units ≡ r.state.units → heft (now_view n) t ≤ held r)
      → IfOk result (λ n. IsBegun e (now_view n) r t)
  unfolding begun
  specify_local e r t is same units less =
      begins result e node.Local r t is (parts_held result _ _ (held r) _ r t refl (omega arith) same units less)

  pub call : (answer : Answer) (f : ℕ) (args : Args) (e : Expr) (r t : Run) → e ≡ node.Call answer f args
      → IfOk result (λ n. IsComing (pending.Direct answer f) args [] (now_view n) r t)
      → IfOk result (λ n. IsBegun e (now_view n) r t)
  unfolding begun
  call answer f args e r t is h =
      begins result e (node.Call answer f args) r t is (steps_as result _ _ _ _ r t refl (omega arith) h)

  pub ticks : (tick : ℕ) (args others : Args) (e : Expr) (r t : Run) → others ≡ args → e ≡ node.Tick tick args
      → IfOk result (λ n. IsComing (pending.Specified tick (kinds_of others)) args [] (now_view n) r t)
      → IfOk result (λ n. IsBegun e (now_view n) r t)
  unfolding begun
  ticks tick args others e r t one is h =
      begins result e (node.Tick tick args) r t is
      (steps_as result _ _ _ _ r t
      (ap (λ args'. coming (pending.Specified tick (kinds_of args')) args [] r) one)
      (omega arith) h)
