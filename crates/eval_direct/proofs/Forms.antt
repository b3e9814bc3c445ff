-- Which node the code's tree is, by its form; and what comes of a node comes of the tree.
use Rattle.std.proofs.Common.{◌≡◌, ℕ, List, [], ◌∷◌, length, refl, ap, sym, subst, ◌∙◌, arith}
use Rattle.icode_ops.specs.declared.kind.BinKind.{BinKind}
use Rattle.typed_tree.specs.declared.expression.Answer.{Answer}
use Rattle.typed_tree.specs.declared.expression.Expr as code
use Rattle.typed_tree.specs.declared.expression.Expr.TheVariants as ex
use Rattle.typed_tree.specs.declared.expression.Stmt as stmt
use Rattle.typed_tree.specs.declared.expression.Stmt.TheVariants as st
use Rattle.typed_tree.specs.Nodes as node
use Rattle.typed_tree.specs.Nodes.{Expr, Stmt, Items}
use Rattle.typed_tree.specs.View.{expr_view, stmt_view}
use Rattle.typed_tree.proofs.Views.{view_bin, view_call, view_setvar}
use Rattle.typed_tree.proofs.Views.{stmt_view_block, stmt_view_eval, stmt_view_if, stmt_view_ifelse}
use Rattle.typed_tree.proofs.Views.{stmt_view_return, stmt_view_returnvalue}
use Rattle.staged_meaning.specs.Meaning.{eval, exec}
use Rattle.eval_state.specs.Less.{loaded}
use Rattle.eval_state.specs.Pending as pending
use Rattle.eval_state.specs.Rest.{left, valued}
use Rattle.eval_state.specs.Run.{Run, here, world}
use Rattle.eval_state.specs.Views.{args_view, items_view}
use Rattle.eval_direct.specs.Came.{IsCame, IsItem, IsWent}
use Rattle.eval_direct.specs.declared.came.Came.{Came}
use Rattle.eval_direct.specs.declared.came.Late.{Late}
use Rattle.eval_direct.specs.declared.came.Went.{Went}

-- nothing is left
pub none_left : {A : Type 0} → (xs : List A) → length xs ≡ 0 → xs ≡ []
none_left [] h = refl
none_left (x ∷ xs) h = absurd (omega (arith, h))

-- ---- expressions

pub is_sum : (w : code.Expr) (kind : BinKind) (a b x y : code.Expr) → w ≡ ex.Bin kind a b → x ≡ a → y ≡ b
    → expr_view w ≡ node.Bin kind (expr_view x) (expr_view y)
is_sum w kind a b x y is first second =
    ap expr_view is
    ∙ view_bin kind a b
    ∙ ap (λ z. node.Bin kind (expr_view z) (expr_view b)) (sym first)
    ∙ ap (λ z. node.Bin kind (expr_view x) (expr_view z)) (sym second)

pub is_setting : (w : code.Expr) (i : ℕ) (a x : code.Expr) → w ≡ ex.SetVar i a → x ≡ a
    → expr_view w ≡ node.SetVar i (expr_view x)
is_setting w i a x is same =
    ap expr_view is ∙ view_setvar i a ∙ ap (λ z. node.SetVar i (expr_view z)) (sym same)

pub is_call : (w : code.Expr) (answer : Answer) (f : ℕ) (list given : List code.Expr)
    → w ≡ ex.Call answer f list → given ≡ list → expr_view w ≡ node.Call answer f (args_view given)
is_call w answer f list given is same =
    ap expr_view is ∙ view_call answer f list ∙ ap (λ es. node.Call answer f (args_view es)) (sym same)

pub came_as : (c : Came) (late : Late) (e f : Expr) (r t : Run) → e ≡ f
    → IsCame c late r t (valued (eval (here r) f (world r))) (loaded (pending.Eval f) r)
    → IsCame c late r t (valued (eval (here r) e (world r))) (loaded (pending.Eval e) r)
came_as c late e f r t same h =
    subst (λ e. IsCame c late r t (valued (eval (here r) e (world r))) (loaded (pending.Eval e) r)) (sym same) h

-- ---- statements

pub is_eval : (w : stmt.Stmt) (a x : code.Expr) → w ≡ st.Eval a → x ≡ a → stmt_view w ≡ node.Eval (expr_view x)
is_eval w a x is same = ap stmt_view is ∙ stmt_view_eval a ∙ ap (λ z. node.Eval (expr_view z)) (sym same)

pub is_block : (w : stmt.Stmt) (a b x y : List stmt.Stmt) → w ≡ st.Block a b → x ≡ a → y ≡ b
    → stmt_view w ≡ node.Block (items_view x) (items_view y)
is_block w a b x y is first second =
    ap stmt_view is
    ∙ stmt_view_block a b
    ∙ ap (λ z. node.Block (items_view z) (items_view b)) (sym first)
    ∙ ap (λ z. node.Block (items_view x) (items_view z)) (sym second)

pub is_if : (w : stmt.Stmt) (e x : code.Expr) (a y : stmt.Stmt) → w ≡ st.If e a → x ≡ e → y ≡ a
    → stmt_view w ≡ node.If (expr_view x) (stmt_view y)
is_if w e x a y is test first =
    ap stmt_view is
    ∙ stmt_view_if e a
    ∙ ap (λ z. node.If (expr_view z) (stmt_view a)) (sym test)
    ∙ ap (λ z. node.If (expr_view x) (stmt_view z)) (sym first)

-- of the two, the one that runs is given; the other is as it stands in the tree
pub is_choice : (w : stmt.Stmt) (e x : code.Expr) (a b y : stmt.Stmt) → w ≡ st.IfElse e a b → x ≡ e → y ≡ a
    → stmt_view w ≡ node.IfElse (expr_view x) (stmt_view y) (stmt_view b)
is_choice w e x a b y is test first =
    ap stmt_view is
    ∙ stmt_view_ifelse e a b
    ∙ ap (λ z. node.IfElse (expr_view z) (stmt_view a) (stmt_view b)) (sym test)
    ∙ ap (λ z. node.IfElse (expr_view x) (stmt_view z) (stmt_view b)) (sym first)

pub is_other_choice : (w : stmt.Stmt) (e x : code.Expr) (a b y : stmt.Stmt) → w ≡ st.IfElse e a b → x ≡ e → y ≡ b
    → stmt_view w ≡ node.IfElse (expr_view x) (stmt_view a) (stmt_view y)
is_other_choice w e x a b y is test second =
    ap stmt_view is
    ∙ stmt_view_ifelse e a b
    ∙ ap (λ z. node.IfElse (expr_view z) (stmt_view a) (stmt_view b)) (sym test)
    ∙ ap (λ z. node.IfElse (expr_view x) (stmt_view a) (stmt_view z)) (sym second)

pub is_return : (w : stmt.Stmt) → w ≡ st.Return → stmt_view w ≡ node.Return
is_return w is = ap stmt_view is ∙ stmt_view_return

pub is_return_value : (w : stmt.Stmt) (a x : code.Expr) → w ≡ st.ReturnValue a → x ≡ a
    → stmt_view w ≡ node.ReturnValue (expr_view x)
is_return_value w a x is same =
    ap stmt_view is ∙ stmt_view_returnvalue a ∙ ap (λ z. node.ReturnValue (expr_view z)) (sym same)

pub went_as : (c : Went) (late : Late) (a b : Stmt) (r t : Run) → a ≡ b
    → IsWent c late r t (left (exec (here r) b (world r))) (loaded (pending.Exec b) r)
    → IsWent c late r t (left (exec (here r) a (world r))) (loaded (pending.Exec a) r)
went_as c late a b r t same h =
    subst (λ a. IsWent c late r t (left (exec (here r) a (world r))) (loaded (pending.Exec a) r)) (sym same) h

pub item_as : (c : Went) (late : Late) (a b : Stmt) (more : Items) (r t : Run) → a ≡ b → IsItem c late r t b more
    → IsItem c late r t a more
item_as c late a b more r t same h = subst (λ a. IsItem c late r t a more) (sym same) h
