-- A tick's body with the op that enters it and the op that leaves it.
use Rattle.std.proofs.Common.{◌≡◌, ℕ, ◌+◌, ◌<◌, List, [], ◌∷◌, ◌++◌, length, slice_set, ap, ◌∙◌, arith}
use Rattle.icode_ir.specs.declared.build_op.BuildOp.TheVariants as build
use Rattle.typed_tree.specs.Nodes.{Expr, Stmt}
use Rattle.typed_tree.specs.Measures.{labels_in, labels, temps_in, temps, variables_in}
use Rattle.staged_meaning.specs.Program.{OfExpression, OfStatement}
use Rattle.tick_lower_spec.specs.Lower.{Addresses, nowhere}
use Rattle.tick_lower_spec.specs.declared.piece.Piece.{Piece}
use Rattle.tick_lower_spec.specs.declared.piece.Piece.TheVariants.{Plain, Nothing}
use Rattle.tick_lower_spec.specs.TickPieces.{expr_pieces, stmt_pieces, tick_pieces}
use Rattle.lowering_pieces.specs.declared.pieces.Pieces.{Pieces}
use Rattle.lowering_pieces.specs.Steps.{walk, walk_stmt}
use Rattle.lowering_pieces.proofs.Whole.{behind, walked}
use Rattle.lowering_pieces.proofs.WholeStmts.{behind_stmt, walked_stmt}

-- a body that was begun at this variable, and one that was ended
abbrev pub begun : ℕ → Pieces → Pieces
begun variable o = record o { list = Nothing ∷ []; label = 0; variable = variable }

abbrev pub ended : Pieces → List Piece
ended o = slice_set (o.list ++ Plain build.Leave ∷ []) 0 (Plain (build.Enter o.variable o.label))

module _ (addresses : Addresses) where
  expression_whole : (e : Expr) (o : Pieces)
      → ended (behind addresses e (begun 0 o)) ≡ tick_pieces addresses (OfExpression e)
  unfolding behind
  expression_whole e o =
      let none : 0 + labels_in e ≡ labels_in e = omega arith in
      let own : 0 + temps_in e ≡ temps_in e = omega arith in
      ap (λ n. Plain (build.Enter n (0 + labels_in e)) ∷ (expr_pieces addresses e 0 0 ++ Plain build.Leave ∷ [])) own
      ∙ ap (λ n. Plain (build.Enter (temps_in e) n) ∷ (expr_pieces addresses e 0 0 ++ Plain build.Leave ∷ [])) none

  statement_whole : (s : Stmt) (o : Pieces)
      → ended (behind_stmt addresses nowhere s (begun (variables_in s) o)) ≡ tick_pieces addresses (OfStatement s)
  unfolding behind_stmt
  statement_whole s o =
      let none : 0 + labels s ≡ labels s = omega arith in
      ap (λ n. Plain (build.Enter (variables_in s + temps s) n)
      ∷ (stmt_pieces addresses s nowhere 0 (variables_in s) ++ Plain build.Leave ∷ [])) none

  some_expression : (e : Expr) (o : Pieces) → 0 < length (behind addresses e (begun 0 o)).list
  unfolding behind
  some_expression e o = omega arith

  some_statement : (s : Stmt) (variable : ℕ) (o : Pieces)
      → 0 < length (behind_stmt addresses nowhere s (begun variable o)).list
  unfolding behind_stmt
  some_statement s variable o = omega arith

  module _ (o p q : Pieces) where
    pub expression_there : (e : Expr) → p ≡ begun 0 o → q ≡ walk addresses e p → 0 < length q.list
    expression_there e first done =
        let all = done ∙ ap (λ z. walk addresses e z) first ∙ walked addresses e (begun 0 o) in
        omega (arith, some_expression e o, ap (λ (z : Pieces). length z.list) all)

    pub expression_ended : (e : Expr) (list : List Piece) → p ≡ begun 0 o → q ≡ walk addresses e p
        → list ≡ ended q → list ≡ tick_pieces addresses (OfExpression e)
    expression_ended e list first done last =
        last ∙ ap (λ z. ended z) (done ∙ ap (λ z. walk addresses e z) first ∙ walked addresses e (begun 0 o))
        ∙ expression_whole e o

    pub statement_there : (s : Stmt) (variable : ℕ) → p ≡ begun variable o → q ≡ walk_stmt addresses nowhere s p
        → 0 < length q.list
    statement_there s variable first done =
        let all =
        done ∙ ap (λ z. walk_stmt addresses nowhere s z) first ∙ walked_stmt addresses nowhere s (begun variable o) in
        omega (arith, some_statement s variable o, ap (λ (z : Pieces). length z.list) all)

    pub statement_ended : (s : Stmt) (variable : ℕ) (list : List Piece) → variable ≡ variables_in s
        → p ≡ begun variable o → q ≡ walk_stmt addresses nowhere s p → list ≡ ended q
        → list ≡ tick_pieces addresses (OfStatement s)
    statement_ended s variable list own first done last =
        last ∙ ap (λ z. ended z)
        (done ∙ ap (λ z. walk_stmt addresses nowhere s z) (first ∙ ap (λ n. begun n o) own)
        ∙ walked_stmt addresses nowhere s (begun (variables_in s) o))
        ∙ statement_whole s o
