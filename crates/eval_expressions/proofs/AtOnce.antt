-- Expressions whose parts are evaluated at once.
use Rattle.std.proofs.Common.{◌≡◌, ◌≤◌, ◌+◌, ℕ, List, [], ◌∷◌, ◌++◌, IfOk, refl, ap, sym, ◌∙◌, arith}
use Rattle.std.proofs.Common.{append_assoc, append-nil, length}
use Rattle.std.proofs.Common as std
use Rattle.icode_ops.specs.declared.kind.BinKind.{BinKind}
use Rattle.typed_tree.specs.Nodes as node
use Rattle.typed_tree.specs.declared.expression.Expr as tree
use Rattle.typed_tree.specs.Nodes.{Expr, Args, Arg, NoArg}
use Rattle.staged_meaning.specs.Meaning.{eval, eval_args}
use Rattle.staged_meaning.specs.World.{World, Result, then_do}
use Rattle.eval_state.specs.Pending.{Target}
use Rattle.eval_state.specs.Pending as pending
use Rattle.eval_state.specs.Rest.{after, targeted, valued}
use Rattle.eval_state.proofs.Laws as law
use Rattle.eval_state.specs.declared.parts.Now as code
use Rattle.eval_state.specs.Less.{heft, held, waiting}
use Rattle.eval_state.specs.Run.{Run, here, leads, outcome, world}
use Rattle.eval_state.specs.Steps.{begun, taken}
use Rattle.eval_state.specs.Views.{now_view}
use Rattle.eval_simple.specs.Simple.{IsDone}
use Rattle.eval_simple.proofs.Going as going
use Rattle.eval_simple.proofs.Stepped.{parts_held, pushes, waits}
use Rattle.eval_expressions.specs.Arguments.{IsComing, coming, weighing}

-- ---- what was found at once

-- units were spent, so nothing need be lighter
pub spends_yet : (r t s : Run) (e : Expr) (v x y : ℕ) → IsDone e v r t → r.state.units ≤ s.state.units
    → t.state.units ≡ s.state.units → x ≤ y
spends_yet r t s e v x y h most same = omega (arith, going.spends r t e v h, most, same)

-- ---- operands

pub first_there : (kind : BinKind) (a b : Expr) (x : ℕ) (r t : Run) → IsDone a x r t
    → taken (pending.First kind b) x t ≡ begun (node.Bin kind a b) r
unfolding begun
first_there kind a b x r t h =
    going.takes r t a x (pending.First kind b) h ∙ ap (leads r) (law.first (here r) kind a b (world r))

pub second_there : (kind : BinKind) (b : Expr) (x y : ℕ) (r t : Run) → IsDone b y r t
    → taken (pending.Second kind x) y t ≡ taken (pending.First kind b) x r
unfolding taken
second_there kind b x y r t h =
    going.takes r t b y (pending.Second kind x) h ∙ ap (leads r) (law.second (here r) kind b x (world r))

-- ---- arguments

-- a value behind those that are done
pub one_more : (target : Target) (list : Args) (before : List ℕ) (v : ℕ) (r : Run)
    → coming target list (before ++ v ∷ []) r ≡ taken (pending.Argument target list before) v r
unfolding taken
one_more target list before v r =
    ap (λ (k : List ℕ → World → Result ℕ). leads r (valued (then_do (eval_args (here r) list (world r)) k)))
    (λ i vs w. ap (λ l. targeted (here r) target l w) (append_assoc before (v ∷ []) vs) i)

pub argument_there : (target : Target) (e : Expr) (more : Args) (before : List ℕ) (v : ℕ) (r t : Run) → IsDone e v r t
    → coming target more (before ++ v ∷ []) t ≡ coming target (Arg e more) before r
argument_there target e more before v r t h =
    one_more target more before v t
    ∙ going.takes r t e v (pending.Argument target more before) h
    ∙ ap (leads r) (law.args_start (here r) e more (world r) (λ vs w. targeted (here r) target (before ++ vs) w))

-- one that isn't evaluated at once: it is pending
pub argument_waits : {E : Type 0} (result : std.Result code.Now E) (target : Target) (e : Expr) (more : Args)
    (done : List ℕ) (r t : Run)
    → IfOk result (λ n. outcome (now_view n) t ≡ leads r (after (here r) (pending.Argument target more done)
    (valued (eval (here r) e (world r)))))
    → IfOk result (λ n. t.state.units ≡ r.state.units)
    → IfOk result (λ n. heft (now_view n) t
    ≤ heft (pending.Eval e) r + waiting (pending.Argument target more done) r)
    → IfOk result (λ n. IsComing target (Arg e more) done (now_view n) r t)
argument_waits result target e more done r t same units less =
    waits result (pending.Argument target more done) (pending.Eval e) _ _ r t
    (ap (leads r) (law.args_start (here r) e more (world r) (λ vs w. targeted (here r) target (done ++ vs) w)))
    (omega arith) (pushes result (pending.Argument target more done) (pending.Eval e) r t same units less)

-- ---- behind those that were evaluated at once

-- no more is pending than before them
pub record IsLeft (target : Target) (rest list : Args) (now done : List ℕ) (r first : Run) : Type 0 where
  pub same : coming target rest now r ≡ coming target list done first
  pub units : r.state.units ≤ first.state.units
  pub less : r.state.units ≡ first.state.units → weighing target rest now r ≤ weighing target list done first

pub comes_on : {E : Type 0} (result : std.Result code.Now E) (target : Target) (rest list : Args) (now done : List ℕ)
    (r first t : Run) → IsLeft target rest list now done r first
    → IfOk result (λ n. IsComing target rest now (now_view n) r t)
    → IfOk result (λ n. IsComing target list done (now_view n) first t)
comes_on (std.Ok n) target rest list now done r first t l h = record {
  same = h.same ∙ l.same;
  units = omega (arith, h.units, l.units);
  less = λ still.
      let before : r.state.units ≡ first.state.units = omega (arith, h.units, l.units, still) in
      let last : t.state.units ≡ r.state.units = omega (arith, h.units, l.units, still) in
      omega (arith, h.less last, l.less before);
}
comes_on (std.Err x) target rest list now done r first t l h = h

-- all are there
pub all_there : {E : Type 0} (result : std.Result code.Now E) (target to : Target) (done : List ℕ) (r t : Run)
    → target ≡ to → IfOk result (λ n. outcome (now_view n) t ≡ leads r (valued (targeted (here r) to done (world r))))
    → IfOk result (λ n. t.state.units ≤ r.state.units)
    → IfOk result (λ n. t.state.units ≡ r.state.units → heft (now_view n) t ≤ held r)
    → IfOk result (λ n. IsComing target NoArg done (now_view n) r t)
all_there result target to done r t is same units less =
    parts_held result _ _ _ _ r t
    (ap (λ to. leads r (valued (targeted (here r) to done (world r)))) (sym is)
    ∙ ap (λ l. leads r (valued (targeted (here r) target l (world r)))) (sym (append-nil done)))
    (omega arith) same units less

-- none is left
pub none_left : (list : List tree.Expr) → length list ≡ 0 → list ≡ []
none_left [] h = refl
none_left (e ∷ list) h = absurd cc
