-- What each node of a statement counts, and that it is no label.
use Rattle.std.proofs.Common.{◌≡◌, ℕ, ◌≤◌, List, [], ◌∷◌, ◌++◌, refl, ap, Option, Some, None, arith}
use Rattle.typed_tree.specs.declared.expression.Expr.{Expr}
use Rattle.typed_tree.specs.declared.expression.Stmt.{Stmt}
use Rattle.typed_tree.specs.declared.expression.Stmt.TheVariants as st
use Rattle.typed_tree.specs.Sizes.{statement_size}
use Rattle.typed_tree.proofs.SizeLaws.{statement_size_block, statement_size_if, statement_size_ifelse}
use Rattle.typed_tree.proofs.SizeLaws.{statement_size_while, statement_size_do, statement_size_for}
use Rattle.typed_tree.proofs.SizeLaws.{statement_size_forstep, statement_size_switch}
use Rattle.check_operands.specs.declared.operand.Operand.{Operand}
use Rattle.check_operands.specs.Operands.{effect}
use Rattle.check_rules.specs.Statements as statements
use Rattle.wellformed.specs.Counts.{objects_at, declarations_of}
use Rattle.wellformed.specs.Places.{act}
use Rattle.wellformed.proofs.Equations.{act_eval, act_block, act_if, act_ifelse, act_while, act_do, act_for}
use Rattle.wellformed.proofs.Equations.{act_forstep, act_switch, act_break, act_continue, act_return, act_returnvalue}
use Rattle.wellformed.proofs.Equations.{objects_at_eval, objects_at_block, objects_at_if, objects_at_ifelse}
use Rattle.wellformed.proofs.Equations.{objects_at_while, objects_at_do, objects_at_for, objects_at_forstep}
use Rattle.wellformed.proofs.Equations.{objects_at_switch, objects_at_case, objects_at_default, objects_at_break}
use Rattle.wellformed.proofs.Equations.{objects_at_continue, objects_at_return, objects_at_returnvalue}
use Rattle.wellformed.proofs.Equations.{declarations_of_eval, declarations_of_block, declarations_of_if}
use Rattle.wellformed.proofs.Equations.{declarations_of_ifelse, declarations_of_while, declarations_of_do}
use Rattle.wellformed.proofs.Equations.{declarations_of_for, declarations_of_forstep, declarations_of_switch}
use Rattle.wellformed.proofs.Equations.{declarations_of_case, declarations_of_default, declarations_of_break}
use Rattle.wellformed.proofs.Equations.{declarations_of_continue, declarations_of_return, declarations_of_returnvalue}
use Rattle.wf_walk.proofs.Counting.{sum_one, sum_cons, objects_append, declarations_append, sizes_append}
use Rattle.wf_walk.proofs.Counting.{CountsAs}

-- ---- counts

-- it counts as much as one other node
as_one : (x y : Stmt) → ((byte : ℕ) → objects_at byte x ≡ objects_at byte y) →
    ((i : ℕ) → declarations_of i x ≡ declarations_of i y) → statement_size y ≤ statement_size x → CountsAs x (y ∷ [])
as_one x y o d n = record {
  objects = λ byte. omega (arith, o byte, sum_one (objects_at byte) y);
  declarations = λ i. omega (arith, d i, sum_one (declarations_of i) y);
  size = omega (arith, n, sum_one statement_size y);
}

-- it counts nothing
as_none : (x : Stmt) → ((byte : ℕ) → objects_at byte x ≡ 0) → ((i : ℕ) → declarations_of i x ≡ 0) → CountsAs x []
as_none x o d = record { objects = o; declarations = d; size = omega arith }

-- a node counts as it does
pub as_itself : (x : Stmt) → CountsAs x (x ∷ [])
as_itself x = as_one x x (λ byte. refl) (λ i. refl) (omega arith)

pub expr_counts : (e : Expr) → CountsAs (st.Eval e) []
expr_counts e = as_none (st.Eval e) (λ byte. objects_at_eval byte e) (λ i. declarations_of_eval i e)

pub break_counts : CountsAs st.Break []
break_counts = as_none st.Break objects_at_break declarations_of_break

pub continue_counts : CountsAs st.Continue []
continue_counts = as_none st.Continue objects_at_continue declarations_of_continue

pub return_counts : CountsAs st.Return []
return_counts = as_none st.Return objects_at_return declarations_of_return

pub answer_counts : (e : Expr) → CountsAs (st.ReturnValue e) []
answer_counts e = as_none (st.ReturnValue e) (λ byte. objects_at_returnvalue byte e)
    (λ i. declarations_of_returnvalue i e)

pub case_counts : (n : ℕ) → CountsAs (st.Case n) []
case_counts n = as_none (st.Case n) (λ byte. objects_at_case byte n) (λ i. declarations_of_case i n)

pub default_counts : CountsAs st.Default []
default_counts = as_none st.Default objects_at_default declarations_of_default

pub if_counts : (e : Expr) (y : Stmt) → CountsAs (st.If e y) (y ∷ [])
if_counts e y = as_one (st.If e y) y (λ byte. objects_at_if byte e y) (λ i. declarations_of_if i e y)
    (omega (arith, statement_size_if e y))

pub while_counts : (e : Expr) (y : Stmt) → CountsAs (st.While e y) (y ∷ [])
while_counts e y = as_one (st.While e y) y (λ byte. objects_at_while byte e y) (λ i. declarations_of_while i e y)
    (omega (arith, statement_size_while e y))

pub do_counts : (y : Stmt) (e : Expr) → CountsAs (st.Do y e) (y ∷ [])
do_counts y e = as_one (st.Do y e) y (λ byte. objects_at_do byte y e) (λ i. declarations_of_do i y e)
    (omega (arith, statement_size_do y e))

pub for_counts : (e : Expr) (p : Option Operand) (y : Stmt) → CountsAs (statements.for_by e p y) (y ∷ [])
for_counts e None y = as_one (st.For e y) y (λ byte. objects_at_for byte e y) (λ i. declarations_of_for i e y)
    (omega (arith, statement_size_for e y))
for_counts e (Some p) y =
    as_one (st.ForStep e (effect p) y) y (λ byte. objects_at_forstep byte e (effect p) y)
    (λ i. declarations_of_forstep i e (effect p) y) (omega (arith, statement_size_forstep e (effect p) y))

pub if_else_counts : (e : Expr) (x y : Stmt) → CountsAs (st.IfElse e x y) (x ∷ y ∷ [])
if_else_counts e x y = record {
  objects = λ byte. omega (
    arith,
    objects_at_ifelse byte e x y,
    sum_cons (objects_at byte) x (y ∷ []),
    sum_one (objects_at byte) y,
  );
  declarations = λ i. omega
      (arith, declarations_of_ifelse i e x y, sum_cons (declarations_of i) x (y ∷ []), sum_one (declarations_of i) y);
  size = omega (arith, statement_size_ifelse e x y, sum_cons statement_size x (y ∷ []), sum_one statement_size y);
}

-- a block counts its variables too
pub block_counts : (vs xs : List Stmt) → CountsAs (st.Block vs xs) (vs ++ xs)
block_counts vs xs = record {
  objects = λ byte. omega (arith, objects_at_block byte vs xs, objects_append byte vs xs);
  declarations = λ i. omega (arith, declarations_of_block i vs xs, declarations_append i vs xs);
  size = omega (arith, statement_size_block vs xs, sizes_append vs xs);
}

pub switch_counts : (e : Expr) (vs xs : List Stmt) → CountsAs (st.Switch e vs xs) (vs ++ xs)
switch_counts e vs xs = record {
  objects = λ byte. omega (arith, objects_at_switch byte e vs xs, objects_append byte vs xs);
  declarations = λ i. omega (arith, declarations_of_switch i e vs xs, declarations_append i vs xs);
  size = omega (arith, statement_size_switch e vs xs, sizes_append vs xs);
}

-- a body counts what its list does
pub body_counts : (xs : List Stmt) → CountsAs (statements.body xs) xs
body_counts [] = block_counts [] []
body_counts (x ∷ []) = as_one x x (λ byte. refl) (λ i. refl) (omega arith)
body_counts (x ∷ y ∷ rest) = block_counts [] (x ∷ y ∷ rest)

-- ---- labels

-- a node that is no label
pub record Unlabelled (x : Stmt) : Type 0 where
  pub values : (act x).values ≡ []
  pub defaults : (act x).defaults ≡ 0

pub expr_unlabelled : (e : Expr) → Unlabelled (st.Eval e)
expr_unlabelled e = record { values = ap (λ a. a.values) (act_eval e); defaults = ap (λ a. a.defaults) (act_eval e) }

pub block_unlabelled : (vs xs : List Stmt) → Unlabelled (st.Block vs xs)
block_unlabelled vs xs = record
    { values = ap (λ a. a.values) (act_block vs xs); defaults = ap (λ a. a.defaults) (act_block vs xs) }

pub if_unlabelled : (e : Expr) (x : Stmt) → Unlabelled (st.If e x)
if_unlabelled e x = record { values = ap (λ a. a.values) (act_if e x); defaults = ap (λ a. a.defaults) (act_if e x) }

pub if_else_unlabelled : (e : Expr) (x y : Stmt) → Unlabelled (st.IfElse e x y)
if_else_unlabelled e x y =
    record { values = ap (λ a. a.values) (act_ifelse e x y); defaults = ap (λ a. a.defaults) (act_ifelse e x y) }

pub while_unlabelled : (e : Expr) (x : Stmt) → Unlabelled (st.While e x)
while_unlabelled e x = record
    { values = ap (λ a. a.values) (act_while e x); defaults = ap (λ a. a.defaults) (act_while e x) }

pub do_unlabelled : (x : Stmt) (e : Expr) → Unlabelled (st.Do x e)
do_unlabelled x e = record { values = ap (λ a. a.values) (act_do x e); defaults = ap (λ a. a.defaults) (act_do x e) }

pub for_unlabelled : (e : Expr) (p : Option Operand) (x : Stmt) → Unlabelled (statements.for_by e p x)
for_unlabelled e None x =
    record { values = ap (λ a. a.values) (act_for e x); defaults = ap (λ a. a.defaults) (act_for e x) }
for_unlabelled e (Some p) x =
    record {
      values = ap (λ a. a.values) (act_forstep e (effect p) x);
      defaults =
          ap (λ a. a.defaults) (act_forstep e (effect p) x);
    }

pub switch_unlabelled : (e : Expr) (vs xs : List Stmt) → Unlabelled (st.Switch e vs xs)
switch_unlabelled e vs xs =
    record { values = ap (λ a. a.values) (act_switch e vs xs); defaults = ap (λ a. a.defaults) (act_switch e vs xs) }

pub break_unlabelled : Unlabelled st.Break
break_unlabelled = record { values = ap (λ a. a.values) act_break; defaults = ap (λ a. a.defaults) act_break }

pub continue_unlabelled : Unlabelled st.Continue
continue_unlabelled = record { values = ap (λ a. a.values) act_continue; defaults = ap (λ a. a.defaults) act_continue }

pub return_unlabelled : Unlabelled st.Return
return_unlabelled = record { values = ap (λ a. a.values) act_return; defaults = ap (λ a. a.defaults) act_return }

pub answer_unlabelled : (e : Expr) → Unlabelled (st.ReturnValue e)
answer_unlabelled e = record
    { values = ap (λ a. a.values) (act_returnvalue e); defaults = ap (λ a. a.defaults) (act_returnvalue e) }
