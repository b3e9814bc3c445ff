-- The walk at a switch: its value, its variables, its items apart while the tests of the cases are made, and these.
use Rattle.std.proofs.Common.{◌≡◌, ℕ, List, [], None, map, refl, ap, ◌∙◌}
use Rattle.icode_ir.specs.declared.build_op.BuildOp.TheVariants as build
use Rattle.typed_tree.specs.declared.expression.Expr.{Expr}
use Rattle.typed_tree.specs.declared.expression.Stmt.{Stmt}
use Rattle.typed_tree.specs.declared.expression.Stmt.TheVariants as st
use Rattle.typed_tree.specs.Nodes.{Items}
use Rattle.typed_tree.specs.View.{expr_view, stmt_view, items_of}
use Rattle.typed_tree.proofs.Views.{stmt_view_switch}
use Rattle.tick_lower_spec.specs.Lower.{Addresses, Targets}
use Rattle.lowering_pieces.specs.declared.pieces.Exits.{Exits}
use Rattle.lowering_pieces.specs.declared.pieces.Pieces.{Pieces}
use Rattle.lowering_pieces.specs.declared.pieces.Selector.{Selector}
use Rattle.lowering_pieces.specs.Steps.{op, targets_of, or_else, valued, with_apart, walk_stmt, walk_items, walk_tests}
use Rattle.lowering_pieces.specs.Steps.{walk_default}

abbrev viewed : List Stmt → Items
viewed ss = items_of (map stmt_view ss)

-- the statement begins where o ends: n is behind its value, and w behind its variables. The items stand behind `apart`
-- in `inside`, and the tests behind w in t.
module _ (addresses : Addresses) (x : Stmt) (exits : Exits) (e p : Expr) (vs us is js : List Stmt)
    (o n w apart inside t q : Pieces) (s : Selector) (label : ℕ) (sees : x ≡ st.Switch e vs is) (of_e : p ≡ e)
    (of_vs : us ≡ vs) (of_is : js ≡ is) where
  abbrev around : Targets
  around = record { on_break = s.end; on_continue = exits.on_continue }

  pub switch_seen : s ≡ (let z : Selector = record { end = o.label; value = o.variable } in z)
      → n ≡ valued addresses (expr_view p) o → w ≡ walk_items addresses (targets_of exits) (viewed us) n
      → apart ≡ (let z : Pieces = record w { list = [] } in z)
      → label ≡ or_else s.end (walk_default addresses around (viewed js) apart None)
      → t ≡ walk_tests addresses around (viewed js) apart s.value w
      → inside ≡ walk_items addresses around (viewed js) apart
      → q ≡ op (build.Label s.end) (with_apart inside (op (build.Jump label) t))
      → q ≡ walk_stmt addresses (targets_of exits) (stmt_view x) o
  switch_seen h1 h2 h3 h4 h5 h6 h7 h8 =
      rw (ap stmt_view sees ∙ stmt_view_switch e vs is, h8, h5, h6, h7, h4, h3, h2, h1, of_e, of_vs, of_is) refl
