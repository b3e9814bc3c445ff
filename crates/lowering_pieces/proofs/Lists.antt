-- Lists of ops, of arguments and of items, one after another.
use Rattle.std.proofs.Common.{◌≡◌, ℕ, ◌+◌, ◌<◌, List, [], ◌∷◌, ◌++◌, Option, length, get_or, drop, map}
use Rattle.std.proofs.Common.{refl, ap, sym, ◌∙◌, append_assoc, arith}
use Rattle.std.proofs.lemmas.List.{at_drop_more, length-append}
use Rattle.icode_ir.specs.declared.build_op.BuildOp.{BuildOp}
use Rattle.typed_tree.specs.declared.expression.Expr.{Expr}
use Rattle.typed_tree.specs.declared.expression.Stmt.{Stmt}
use Rattle.typed_tree.specs.Nodes as node
use Rattle.typed_tree.specs.View.{expr_view, stmt_view, args_of, items_of}
use Rattle.tick_lower_spec.specs.Lower.{Addresses, Targets, case_ops}
use Rattle.tick_lower_spec.specs.declared.piece.Piece.{Piece}
use Rattle.tick_lower_spec.specs.TickPieces.{plain}
use Rattle.lowering_pieces.specs.declared.pieces.Pieces.{Pieces}
use Rattle.lowering_pieces.specs.Steps.{put, op, walk, walk_args, walk_stmt, walk_items, walk_tests, walk_default}
use Rattle.lowering_pieces.specs.Steps.{default_of, first_of}

-- as many as the code has
pub counted : (es : List Expr) → node.count (args_of (map expr_view es)) ≡ length es
counted [] = refl
counted (e ∷ es) = omega (arith, counted es)

-- a function of what is left, one step on
next : {A Y : Type 0} (F : List A → Y) (xs : List A) (i : ℕ) (x : A) → i < length xs → x ≡ get_or xs i x
    → F (drop i xs) ≡ F (x ∷ drop (i + 1) xs)
next F xs i x h is = at_drop_more F xs i x h ∙ ap (λ z. F (z ∷ drop (i + 1) xs)) (sym is)

-- the ops that are left, the arguments and the items
abbrev pub ops_left : ℕ → List BuildOp → Pieces → Pieces
ops_left i ops o = put (plain (drop i ops)) o

abbrev pub args_left : ℕ → List Expr → node.Args
args_left i es = args_of (map expr_view (drop i es))

abbrev pub items_left : ℕ → List Stmt → node.Items
items_left i ss = items_of (map stmt_view (drop i ss))

put_rest : (more : BuildOp) (ops : List BuildOp) (o : Pieces) → put (plain (more ∷ ops)) o ≡ put (plain ops) (op more o)
put_rest more ops o =
    sym (ap (λ zs. let p : Pieces = record o { list = zs } in p)
    (append_assoc o.list (plain (more ∷ [])) (plain ops)))

pub one_op_more : (ops : List BuildOp) (i : ℕ) (more : BuildOp) (o : Pieces) → i < length ops → more ≡ get_or ops i more
    → ops_left i ops o ≡ ops_left (i + 1) ops (op more o)
one_op_more ops i more o h is =
    next (λ xs. put (plain xs) o) ops i more h is ∙ put_rest more (drop (i + 1) ops) o

module _ (addresses : Addresses) where
  pub one_more : (es : List Expr) (i : ℕ) (e : Expr) (o : Pieces) → i < length es → e ≡ get_or es i e
      → walk_args addresses (args_left i es) o
      ≡ walk_args addresses (args_left (i + 1) es) (walk addresses (expr_view e) o)
  one_more es i e o h is = next (λ xs. walk_args addresses (args_of (map expr_view xs)) o) es i e h is

  module _ (to : Targets) where
    pub one_statement_more : (ss : List Stmt) (i : ℕ) (s : Stmt) (o : Pieces) → i < length ss → s ≡ get_or ss i s
        → walk_items addresses to (items_left i ss) o
        ≡ walk_items addresses to (items_left (i + 1) ss) (walk_stmt addresses to (stmt_view s) o)
    one_statement_more ss i s o h is = next (λ xs. walk_items addresses to (items_of (map stmt_view xs)) o) ss i s h is

    pub one_test_more : (ss : List Stmt) (i : ℕ) (s : Stmt) (inside o : Pieces) (value : ℕ) → i < length ss
        → s ≡ get_or ss i s
        → walk_tests addresses to (items_left i ss) inside value o
        ≡ walk_tests addresses to (items_left (i + 1) ss) (walk_stmt addresses to (stmt_view s) inside) value
        (put (plain (case_ops (stmt_view s) inside.label value)) o)
    one_test_more ss i s inside o value h is =
        next (λ xs. walk_tests addresses to (items_of (map stmt_view xs)) inside value o) ss i s h is

    pub one_default_more : (ss : List Stmt) (i : ℕ) (s : Stmt) (inside : Pieces) (found : Option ℕ) → i < length ss
        → s ≡ get_or ss i s
        → walk_default addresses to (items_left i ss) inside found
        ≡ walk_default addresses to (items_left (i + 1) ss) (walk_stmt addresses to (stmt_view s) inside)
        (first_of found (default_of (stmt_view s) inside.label))
    one_default_more ss i s inside found h is =
        next (λ xs. walk_default addresses to (items_of (map stmt_view xs)) inside found) ss i s h is

pub ruleset one_case_more = (one_statement_more, one_test_more, one_default_more)

-- without its last piece a list is shorter
pub shorter : (xs ys : List Piece) (y : Piece) → xs ≡ ys ++ y ∷ [] → length ys < length xs
shorter xs ys y h =
    let same : length xs ≡ length ys + 1 = ap length h ∙ length-append ys (y ∷ []) in omega (arith, same)
