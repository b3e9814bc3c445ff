-- What the walk adds for a statement, part by part, are the pieces of the statement.
use Rattle.std.proofs.Common.{◌≡◌, ℕ, ◌+◌, List, [], ◌∷◌, ◌++◌, Some, None, refl, ap, sym, ◌∙◌}
use Rattle.std.proofs.Common.{append_assoc, arith}
use Rattle.std.proofs.lemmas.List.{append-nil}
use Rattle.word32.specs.declared.width.Width.{Width}
use Rattle.icode_ir.specs.declared.build_op.BuildOp.{BuildOp}
use Rattle.icode_ir.specs.declared.build_op.BuildOp.TheVariants as build
use Rattle.typed_tree.specs.Nodes as node
use Rattle.typed_tree.specs.Nodes.{Expr, Stmt, Items, has_value}
use Rattle.staged_meaning.specs.Size.{labels, labels_of, temps, temps_of}
use Rattle.tick_lower_spec.specs.Lower.{Addresses, Targets, narrowing, dropping, case_ops, test_ops, default_or}
use Rattle.tick_lower_spec.specs.Lower.{default_label}
use Rattle.tick_lower_spec.specs.declared.piece.Piece.{Piece}
use Rattle.tick_lower_spec.specs.declared.piece.Piece.TheVariants.{Plain, Nothing}
use Rattle.tick_lower_spec.specs.TickPieces.{plain, own, stmt_pieces, items_pieces}
use Rattle.lowering_pieces.specs.declared.pieces.Pieces.{Pieces}
use Rattle.lowering_pieces.specs.Steps.{put, op, labelled, with_variable, apart, with_apart, or_else, default_of}
use Rattle.lowering_pieces.specs.Steps.{walk, walk_stmt, walk_items, walk_tests, walk_default}
use Rattle.lowering_pieces.proofs.Puts.{put_both}
use Rattle.lowering_pieces.proofs.Whole.{same, behind, walked}

-- ops one behind another
plain_both : (xs ys : List BuildOp) → plain (xs ++ ys) ≡ plain xs ++ plain ys
plain_both [] ys = refl
plain_both (x ∷ xs) ys = ap (λ ps. Plain x ∷ ps) (plain_both xs ys)

-- a default has its own label, and any other statement none
data Defaulting (s : Stmt) (l m : ℕ) : Type 0 where
  Has : default_of s l ≡ Some l → default_or s l m ≡ l → Defaulting s l m
  Lacks : default_of s l ≡ None → default_or s l m ≡ m → Defaulting s l m

defaulting : (s : Stmt) (l m : ℕ) → Defaulting s l m
defaulting node.Default l m = Has refl refl
defaulting _ l m = Lacks refl refl

module _ (addresses : Addresses) where
  unfoldable pub behind_stmt : Targets → Stmt → Pieces → Pieces
  behind_stmt to s o = record o {
    list = o.list ++ stmt_pieces addresses s to o.label o.variable;
    label = o.label + labels s;
    variable = o.variable + temps s;
  }

  unfoldable pub behind_items : Targets → Items → Pieces → Pieces
  behind_items to is o = record o {
    list = o.list ++ items_pieces addresses is to o.label o.variable;
    label = o.label + labels_of is;
    variable = o.variable + temps_of is;
  }

  label_behind : (to : Targets) (s : Stmt) (o : Pieces) → (behind_stmt to s o).label ≡ o.label + labels s
  unfolding behind_stmt
  label_behind to s o = refl

  -- the body of a switch whose variables are behind the ops of its value
  unfoldable switched : Targets → (end value : ℕ) → Items → Pieces → Pieces
  switched to end value is o = record o {
    list =
        o.list
        ++ (plain (test_ops is o.label value)
        ++ Plain (build.Jump (default_label is o.label end))
        ∷ (items_pieces addresses is to o.label o.variable ++ Plain (build.Label end) ∷ []));
    label = o.label + labels_of is;
    variable = o.variable + temps_of is;
  }

  module _ (to : Targets) (o : Pieces) where
    -- no part
    alone : (s : Stmt) (more : List Piece) → stmt_pieces addresses s to o.label o.variable ≡ more
        → labels s ≡ 0 → temps s ≡ 0 → put more o ≡ behind_stmt to s o
    unfolding behind_stmt
    alone s more pieces none mine =
        same o _ _ _ _ _ _ (ap (λ z. o.list ++ z) (sym pieces)) (omega (arith, none)) (omega (arith, mine))

    eval_step : (e : Expr)
        → put (own (dropping (has_value e))) (behind addresses e o) ≡ behind_stmt to (node.Eval e) o
    unfolding behind behind_stmt
    eval_step e = same o _ _ _ _ _ _ (simp append_assoc) refl refl

    block_step : (vs is : Items)
        → behind_items to is (behind_items to vs (put (Nothing ∷ []) o)) ≡ behind_stmt to (node.Block vs is) o
    unfolding behind_items behind_stmt
    block_step vs is = same o _ _ _ _ _ _ (simp append_assoc) (omega arith) (omega arith)

    parameter_step : (k : ℕ) (w : Width)
        → put (plain (build.SetVariable k ∷ build.Drop ∷ []))
        (put (plain (narrowing w)) (op (build.Parameter k) o)) ≡ behind_stmt to (node.Parameter k w) o
    unfolding behind_stmt
    parameter_step k w = same o _ _ _ _ _ _ (simp append_assoc) (omega arith) (omega arith)

    object_step : (k : ℕ) (w : Width) (offset : ℕ)
        → put (plain (build.Store w ∷ build.Drop ∷ [])) (put (plain (narrowing w))
        (put (plain (build.FrameAddress offset ∷ build.Parameter k ∷ [])) o))
        ≡ behind_stmt to (node.ParameterObject k w offset) o
    unfolding behind_stmt
    object_step k w offset = same o _ _ _ _ _ _ (simp append_assoc) (omega arith) (omega arith)

    answer_step : (e : Expr) → op build.Return (behind addresses e o) ≡ behind_stmt to (node.ReturnValue e) o
    unfolding behind behind_stmt
    answer_step e = same o _ _ _ _ _ _ (simp append_assoc) refl refl

    case_step : (value : ℕ) → op (build.Label o.label) (labelled 1 o) ≡ behind_stmt to (node.Case value) o
    unfolding behind_stmt
    case_step value = same o _ _ _ _ _ _ refl (omega arith) (omega arith)

    default_step : op (build.Label o.label) (labelled 1 o) ≡ behind_stmt to node.Default o
    unfolding behind_stmt
    default_step = same o _ _ _ _ _ _ refl (omega arith) (omega arith)

    -- an expression and the branch behind it
    abbrev branched : BuildOp → Expr → Pieces → Pieces
    branched branch e p = op branch (behind addresses e p)

    if_step : (e : Expr) (s : Stmt)
        → op (build.Label o.label) (behind_stmt to s (branched (build.BranchZero o.label) e (labelled 1 o)))
        ≡ behind_stmt to (node.If e s) o
    unfolding behind behind_stmt
    if_step e s = same o _ _ _ _ _ _ (simp append_assoc) (omega arith) (omega arith)

    choice_step : (e : Expr) (s r : Stmt)
        → op (build.Label (o.label + 1)) (behind_stmt to r
        (put (Plain (build.Jump (o.label + 1)) ∷ Plain (build.Label o.label) ∷ [])
        (behind_stmt to s (branched (build.BranchZero o.label) e (labelled 2 o)))))
        ≡ behind_stmt to (node.IfElse e s r) o
    unfolding behind behind_stmt
    choice_step e s r = same o _ _ _ _ _ _ (simp append_assoc) (omega arith) (omega arith)

    -- in a loop: where a break and a continue go
    abbrev around : ℕ → Targets
    around next = record { on_break = o.label; on_continue = next }

    while_step : (e : Expr) (s : Stmt)
        → put (Plain (build.Jump (o.label + 1)) ∷ Plain (build.Label o.label) ∷ [])
        (behind_stmt (around (o.label + 1)) s
        (branched (build.BranchZero o.label) e (op (build.Label (o.label + 1)) (labelled 2 o))))
        ≡ behind_stmt to (node.While e s) o
    unfolding behind behind_stmt
    while_step e s = same o _ _ _ _ _ _ (simp append_assoc) (omega arith) (omega arith)

    do_step : (s : Stmt) (e : Expr)
        → op (build.Label o.label) (branched (build.BranchNonzero (o.label + 1)) e (op (build.Label (o.label + 2))
        (behind_stmt (around (o.label + 2)) s (op (build.Label (o.label + 1)) (labelled 3 o)))))
        ≡ behind_stmt to (node.Do s e) o
    unfolding behind behind_stmt
    do_step s e = same o _ _ _ _ _ _ (simp append_assoc) (omega arith) (omega arith)

    -- the head and the body of a loop with a place of its own for `continue`
    abbrev turned : Expr → Stmt → Pieces
    turned e s =
        op (build.Label (o.label + 2)) (behind_stmt (around (o.label + 2)) s
        (branched (build.BranchZero o.label) e (op (build.Label (o.label + 1)) (labelled 3 o))))

    for_step : (e : Expr) (s : Stmt)
        → put (Plain (build.Jump (o.label + 1)) ∷ Plain (build.Label o.label) ∷ []) (turned e s)
        ≡ behind_stmt to (node.For e s) o
    unfolding behind behind_stmt
    for_step e s = same o _ _ _ _ _ _ (simp append_assoc) (omega arith) (omega arith)

    step_step : (e step : Expr) (s : Stmt)
        → put (Plain (build.Jump (o.label + 1)) ∷ Plain (build.Label o.label) ∷ [])
        (put (plain (dropping (has_value step))) (behind addresses step (turned e s)))
        ≡ behind_stmt to (node.ForStep e step s) o
    unfolding behind behind_stmt
    step_step e step s = same o _ _ _ _ _ _ (simp append_assoc) (omega arith) (omega arith)

    -- behind a switch's variables
    inner_step : (end value : ℕ) (is : Items)
        → op (build.Label end) (with_apart (behind_items to is (apart o))
        (op (build.Jump (default_label is o.label end)) (put (plain (test_ops is o.label value)) o)))
        ≡ switched to end value is o
    unfolding behind_items switched
    inner_step end value is = same o _ _ _ _ _ _ (simp append_assoc) refl refl

    switch_step : (e : Expr) (vs is : Items)
        → switched (around to.on_continue) o.label o.variable is (behind_items to vs
        (put (Nothing ∷ []) (op build.Drop (op (build.SetVariable o.variable)
        (behind addresses e (with_variable (labelled 1 o))))))) ≡ behind_stmt to (node.Switch e vs is) o
    unfolding behind behind_items behind_stmt switched
    switch_step e vs is = same o _ _ _ _ _ _ (simp append_assoc) (omega arith) (omega arith)

    no_item : behind_items to node.NoItem o ≡ o
    unfolding behind_items
    no_item = same o _ _ _ _ _ _ (append-nil o.list) (omega arith) (omega arith)

    one_item : (s : Stmt) (is : Items)
        → behind_items to is (behind_stmt to s o) ≡ behind_items to (node.Item s is) o
    unfolding behind_items behind_stmt
    one_item s is = same o _ _ _ _ _ _ (simp append_assoc) (omega arith) (omega arith)

    no_test : o ≡ put [] o
    no_test = same o _ _ _ _ _ _ (sym (append-nil o.list)) refl refl

  -- ---- every statement

  found : (to : Targets) (is : Items) (inside : Pieces) (l : ℕ) → walk_default addresses to is inside (Some l) ≡ Some l
  found to node.NoItem inside l = refl
  found to (node.Item s is) inside l = found to is (walk_stmt addresses to s inside) l

  default_case : (to : Targets) (s : Stmt) (is : Items) (inside : Pieces) (m : ℕ)
      → or_else m (walk_default addresses to is (walk_stmt addresses to s inside) None)
      ≡ default_label is (inside.label + labels s) m
      → Defaulting s inside.label (default_label is (inside.label + labels s) m)
      → or_else m (walk_default addresses to is (walk_stmt addresses to s inside) (default_of s inside.label))
      ≡ default_or s inside.label (default_label is (inside.label + labels s) m)
  default_case to s is inside m others (Has has mine) =
      let rest = walk_stmt addresses to s inside in
      ap (λ d. or_else m (walk_default addresses to is rest d)) has
      ∙ ap (λ d. or_else m d) (found to is rest inside.label) ∙ sym mine
  default_case to s is inside m others (Lacks lacks mine) =
      let rest = walk_stmt addresses to s inside in
      ap (λ d. or_else m (walk_default addresses to is rest d)) lacks ∙ others ∙ sym mine

  -- a switch behind its variables, of what its items are, its default and its tests
  switch_made : (to : Targets) (end value : ℕ) (is : Items) (o : Pieces)
      → walk_items addresses to is (apart o) ≡ behind_items to is (apart o)
      → or_else end (walk_default addresses to is (apart o) None) ≡ default_label is o.label end
      → walk_tests addresses to is (apart o) value o ≡ put (plain (test_ops is o.label value)) o
      → op (build.Label end) (with_apart (walk_items addresses to is (apart o))
      (op (build.Jump (or_else end (walk_default addresses to is (apart o) None)))
      (walk_tests addresses to is (apart o) value o))) ≡ switched to end value is o
  switch_made to end value is o items default tests =
      ap (λ z. op (build.Label end) (with_apart z
      (op (build.Jump (or_else end (walk_default addresses to is (apart o) None)))
      (walk_tests addresses to is (apart o) value o)))) items
      ∙ ap (λ n. op (build.Label end) (with_apart (behind_items to is (apart o))
      (op (build.Jump n) (walk_tests addresses to is (apart o) value o)))) default
      ∙ ap (λ z. op (build.Label end) (with_apart (behind_items to is (apart o))
      (op (build.Jump (default_label is o.label end)) z))) tests
      ∙ inner_step to o end value is

  mutual
    pub walked_stmt : (to : Targets) (s : Stmt) (o : Pieces) → walk_stmt addresses to s o ≡ behind_stmt to s o
    walked_stmt to (node.Eval e) o =
        ap (λ z. put (own (dropping (has_value e))) z) (walked addresses e o) ∙ eval_step to o e
    walked_stmt to (node.Block vs is) o =
        ap (λ z. walk_items addresses to is z) (walked_items to vs (put (Nothing ∷ []) o))
        ∙ walked_items to is (behind_items to vs (put (Nothing ∷ []) o)) ∙ block_step to o vs is
    walked_stmt to (node.Variable i) o = alone to o (node.Variable i) _ refl refl refl
    walked_stmt to (node.Object offset words) o = alone to o (node.Object offset words) _ refl refl refl
    walked_stmt to (node.Parameter k w) o = parameter_step to o k w
    walked_stmt to (node.ParameterObject k w offset) o = object_step to o k w offset
    walked_stmt to (node.If e s) o =
        let ends : Pieces → Pieces = λ z. op (build.Label o.label) z in
        let test : Pieces → Pieces = λ z. op (build.BranchZero o.label) z in
        ap (λ z. ends (walk_stmt addresses to s (test z))) (walked addresses e (labelled 1 o))
        ∙ ap (λ z. ends z) (walked_stmt to s (test (behind addresses e (labelled 1 o)))) ∙ if_step to o e s
    walked_stmt to (node.IfElse e s r) o =
        let ends : Pieces → Pieces = λ z. op (build.Label (o.label + 1)) z in
        let turn : Pieces → Pieces =
        λ z. put (Plain (build.Jump (o.label + 1)) ∷ Plain (build.Label o.label) ∷ []) z in
        let test : Pieces → Pieces = λ z. op (build.BranchZero o.label) z in
        let tested = test (behind addresses e (labelled 2 o)) in
        ap (λ z. ends (walk_stmt addresses to r (turn (walk_stmt addresses to s (test z)))))
        (walked addresses e (labelled 2 o))
        ∙ ap (λ z. ends (walk_stmt addresses to r (turn z))) (walked_stmt to s tested)
        ∙ ap (λ z. ends z) (walked_stmt to r (turn (behind_stmt to s tested))) ∙ choice_step to o e s r
    walked_stmt to (node.While e s) o =
        let within : Targets = record { on_break = o.label; on_continue = o.label + 1 } in
        let turn : Pieces → Pieces =
        λ z. put (Plain (build.Jump (o.label + 1)) ∷ Plain (build.Label o.label) ∷ []) z in
        let test : Pieces → Pieces = λ z. op (build.BranchZero o.label) z in
        let begun = op (build.Label (o.label + 1)) (labelled 2 o) in
        ap (λ z. turn (walk_stmt addresses within s (test z))) (walked addresses e begun)
        ∙ ap (λ z. turn z) (walked_stmt within s (test (behind addresses e begun))) ∙ while_step to o e s
    walked_stmt to (node.Do s e) o =
        let within : Targets = record { on_break = o.label; on_continue = o.label + 2 } in
        let ends : Pieces → Pieces = λ z. op (build.Label o.label) (op (build.BranchNonzero (o.label + 1)) z) in
        let next : Pieces → Pieces = λ z. op (build.Label (o.label + 2)) z in
        let begun = op (build.Label (o.label + 1)) (labelled 3 o) in
        ap (λ z. ends (walk addresses e (next z))) (walked_stmt within s begun)
        ∙ ap (λ z. ends z) (walked addresses e (next (behind_stmt within s begun))) ∙ do_step to o s e
    walked_stmt to (node.For e s) o =
        let within : Targets = record { on_break = o.label; on_continue = o.label + 2 } in
        let ends : Pieces → Pieces =
        λ z. put (Plain (build.Jump (o.label + 1)) ∷ Plain (build.Label o.label) ∷ [])
        (op (build.Label (o.label + 2)) z) in
        let test : Pieces → Pieces = λ z. op (build.BranchZero o.label) z in
        let begun = op (build.Label (o.label + 1)) (labelled 3 o) in
        ap (λ z. ends (walk_stmt addresses within s (test z))) (walked addresses e begun)
        ∙ ap (λ z. ends z) (walked_stmt within s (test (behind addresses e begun))) ∙ for_step to o e s
    walked_stmt to (node.ForStep e step s) o =
        let within : Targets = record { on_break = o.label; on_continue = o.label + 2 } in
        let ends : Pieces → Pieces =
        λ z. put (Plain (build.Jump (o.label + 1)) ∷ Plain (build.Label o.label) ∷ [])
        (put (plain (dropping (has_value step))) z) in
        let next : Pieces → Pieces = λ z. op (build.Label (o.label + 2)) z in
        let test : Pieces → Pieces = λ z. op (build.BranchZero o.label) z in
        let begun = op (build.Label (o.label + 1)) (labelled 3 o) in
        let tested = test (behind addresses e begun) in
        ap (λ z. ends (walk addresses step (next (walk_stmt addresses within s (test z))))) (walked addresses e begun)
        ∙ ap (λ z. ends (walk addresses step (next z))) (walked_stmt within s tested)
        ∙ ap (λ z. ends z) (walked addresses step (next (behind_stmt within s tested))) ∙ step_step to o e step s
    walked_stmt to (node.Switch e vs is) o =
        let within : Targets = record { on_break = o.label; on_continue = to.on_continue } in
        let valued : Pieces → Pieces =
        λ z. put (Nothing ∷ []) (op build.Drop (op (build.SetVariable o.variable) z)) in
        let begun = with_variable (labelled 1 o) in
        let entered = behind_items to vs (valued (behind addresses e begun)) in
        let inner : Pieces → Pieces =
        λ z. op (build.Label o.label) (with_apart (walk_items addresses within is (apart z))
        (op (build.Jump (or_else o.label (walk_default addresses within is (apart z) None)))
        (walk_tests addresses within is (apart z) o.variable z))) in
        ap (λ z. inner (walk_items addresses to vs (valued z))) (walked addresses e begun)
        ∙ ap (λ z. inner z) (walked_items to vs (valued (behind addresses e begun)))
        ∙ switch_made within o.label o.variable is entered (walked_items within is (apart entered))
        (defaults within is (apart entered) o.label) (tests within is (apart entered) o.variable entered)
        ∙ switch_step to o e vs is
    walked_stmt to (node.Case value) o = case_step to o value
    walked_stmt to node.Default o = default_step to o
    walked_stmt to node.Break o = alone to o node.Break _ refl refl refl
    walked_stmt to node.Continue o = alone to o node.Continue _ refl refl refl
    walked_stmt to node.Return o = alone to o node.Return _ refl refl refl
    walked_stmt to (node.ReturnValue e) o =
        ap (λ z. op build.Return z) (walked addresses e o) ∙ answer_step to o e

    pub walked_items : (to : Targets) (is : Items) (o : Pieces) → walk_items addresses to is o ≡ behind_items to is o
    walked_items to node.NoItem o = sym (no_item to o)
    walked_items to (node.Item s is) o =
        ap (λ z. walk_items addresses to is z) (walked_stmt to s o) ∙ walked_items to is (behind_stmt to s o)
        ∙ one_item to o s is

    tests : (to : Targets) (is : Items) (inside : Pieces) (value : ℕ) (o : Pieces)
        → walk_tests addresses to is inside value o ≡ put (plain (test_ops is inside.label value)) o
    tests to node.NoItem inside value o = no_test to o
    tests to (node.Item s is) inside value o =
        let first = put (plain (case_ops s inside.label value)) o in
        tests to is (walk_stmt addresses to s inside) value first
        ∙ ap (λ (z : Pieces). put (plain (test_ops is z.label value)) first) (walked_stmt to s inside)
        ∙ ap (λ n. put (plain (test_ops is n value)) first) (label_behind to s inside)
        ∙ put_both (plain (case_ops s inside.label value)) (plain (test_ops is (inside.label + labels s) value)) o
        ∙ ap (λ ps. put ps o)
        (sym (plain_both (case_ops s inside.label value) (test_ops is (inside.label + labels s) value)))

    defaults : (to : Targets) (is : Items) (inside : Pieces) (m : ℕ)
        → or_else m (walk_default addresses to is inside None) ≡ default_label is inside.label m
    defaults to node.NoItem inside m = refl
    defaults to (node.Item s is) inside m =
        let rest = walk_stmt addresses to s inside in
        let label : rest.label ≡ inside.label + labels s =
        ap (λ (z : Pieces). z.label) (walked_stmt to s inside) ∙ label_behind to s inside in
        let others : or_else m (walk_default addresses to is rest None) ≡ default_label is (inside.label + labels s) m =
        defaults to is rest m ∙ ap (λ n. default_label is n m) label in
        default_case to s is inside m others (defaulting s inside.label (default_label is (inside.label + labels s) m))
