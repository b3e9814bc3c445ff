-- The ops of a specification add at most twelve of each a node, so a builder that is begun has room for each that the
-- limit of sizes lets exist.
use Rattle.std.proofs.Common.{◌≡◌, ℕ, zero, suc, ◌+◌, ◌*◌, ◌≤◌, List, [], ◌∷◌, ◌++◌, length, refl}
use Rattle.std.proofs.Common.{Option, Some, None, slice_get, sym, ap, subst, arith}
use Rattle.std.specs.Prelude.{option_map}
use Rattle.std.proofs.lemmas.Option.{slice_get-map}
use Rattle.history.specs.Syntax.{Syntax, Ticked, Captures, NoCapture, Word, Named, Spliced}
use Rattle.typed_tree.specs.declared.expression.CaptureKind.{CaptureKind}
use Rattle.typed_tree.specs.Nodes as node
use Rattle.typed_tree.specs.Nodes.{Expr, Stmt}
use Rattle.wellformed.specs.Program.{IsTick, IsProgram, round_tick}
use Rattle.wf_ready.proofs.Used.{stmt_uses}
use Rattle.wf_ready.proofs.Dense.{variables_few}
use Rattle.icode_ir.specs.declared.build_op.BuildOp.{BuildOp}
use Rattle.icode_ir.specs.declared.build_op.BuildOp.TheVariants.{Const, Enter, Leave}
use Rattle.icode_ir.specs.declared.build_op.BuildOp.TheVariants.{GetSpec, SetSpec}
use Rattle.staged_meaning.specs.Program.{Program, tick_size, syntax_size, captures_size}
use Rattle.staged_meaning.specs.Size.{size_of_expr, size_of_stmt, labels_in, labels, temps_in, temps, variables_in}
use Rattle.tick_lower_spec.specs.Lower.{Addresses, nowhere}
use Rattle.tick_lower_spec.specs.declared.piece.Piece.{Piece}
use Rattle.tick_lower_spec.specs.declared.piece.Piece.TheVariants.{Plain, Captured, GetKey, SetKey, Splice, Nothing}
use Rattle.generator_laws.specs.Pieces.{syntax_ops, spliced_ops}
use Rattle.generator_spec.specs.Laws.{pieces_at}
use Rattle.tick_lower_spec.specs.TickPieces.{tick_pieces, expr_pieces, stmt_pieces}
use Rattle.generator_spec.specs.Kinds.{HasKindsAt, HasTicks, tick_of_body}
use Rattle.generator_spec.specs.FittingLaws.{ticks_of, program_pieces}
use Rattle.generated_ops_proof.specs.Room.{more_ops, more_operands, more_bodies, more_variables, more_labels}
use Rattle.generated_ops_proof.specs.Room.{more_registers}
use Rattle.generated_ops_proof.specs.Room.{in_all}
use Rattle.generated_ops_proof.specs.Laws.{IsFew}
use Rattle.tick_captures_proof.specs.Splices.{splices_of_body, SpliceOnce}
use Rattle.generated_ops_proof.proofs.Steps.{Takes}
use Rattle.generated_ops_proof.proofs.Goes.{Goes, piece_height}
use Rattle.generated_ops_proof.proofs.Costs.{adds, adds_both, splices, splices_both, Small}
use Rattle.generated_ops_proof.proofs.Trees.{expr_small}
use Rattle.generated_ops_proof.proofs.StmtTrees.{stmt_small}
use Rattle.generated_ops_proof.proofs.Registers.{Takes as TakesFew, expr_registers, stmt_registers}
use Rattle.generated_ops_proof.proofs.Ones.{one_expr, one_stmt}
use Rattle.generated_ops_proof.proofs.Counts.{expr_takes, stmt_takes}
use Rattle.generated_ops_proof.proofs.Sums.{sum_to, sum_first, within, Uniform, pieces_count}
use Rattle.generated_ops_proof.proofs.Expressions.{expr_good}
use Rattle.generated_ops_proof.proofs.Statements.{stmt_good}

-- ---- what the pieces of a body enter: nothing

-- a count of bodies, their variables or their labels
record OfBodies (more : BuildOp → ℕ) : Type 0 where
  op : (k n m : ℕ) (o : BuildOp) (h : ℕ) → Takes k n m o h → more o ≡ 0
  const : more (Const 0) ≡ 0
  get : more (GetSpec 0) ≡ 0
  set : more (SetSpec 0) ≡ 0

module _ (more : BuildOp → ℕ) (is : OfBodies more) (k n m : ℕ) (kinds : List CaptureKind) where
  none_entered : (ps : List Piece) (h h' : ℕ) → Goes k n m kinds ps h h' → adds more ps ≡ 0
  none_entered [] h h' g = refl
  none_entered (Plain o ∷ ps) h h' g =
      omega (arith, is.op k n m o h g.0, none_entered ps (piece_height k n m kinds (Plain o) h) h' g.1)
  none_entered (Captured i ∷ ps) h h' g =
      omega (arith, is.const, none_entered ps (piece_height k n m kinds (Captured i) h) h' g.1)
  none_entered (GetKey i ∷ ps) h h' g =
      omega (arith, is.get, none_entered ps (piece_height k n m kinds (GetKey i) h) h' g.1)
  none_entered (SetKey i ∷ ps) h h' g =
      omega (arith, is.set, none_entered ps (piece_height k n m kinds (SetKey i) h) h' g.1)
  none_entered (Splice i ∷ ps) h h' g = omega (arith, none_entered ps (piece_height k n m kinds (Splice i) h) h' g.1)
  none_entered (Nothing ∷ ps) h h' g = omega (arith, none_entered ps (piece_height k n m kinds Nothing h) h' g.1)

no_body : (k n m : ℕ) (o : BuildOp) (h : ℕ) → Takes k n m o h → more_bodies o ≡ 0
no_body k n m (Enter i j) h t = absurd t
no_body k n m _ h t = refl

no_variable : (k n m : ℕ) (o : BuildOp) (h : ℕ) → Takes k n m o h → more_variables o ≡ 0
no_variable k n m (Enter i j) h t = absurd t
no_variable k n m _ h t = refl

no_label : (k n m : ℕ) (o : BuildOp) (h : ℕ) → Takes k n m o h → more_labels o ≡ 0
no_label k n m (Enter i j) h t = absurd t
no_label k n m _ h t = refl

of_bodies : OfBodies more_bodies
of_bodies = record { op = no_body; const = refl; get = refl; set = refl }

of_variables : OfBodies more_variables
of_variables = record { op = no_variable; const = refl; get = refl; set = refl }

of_labels : OfBodies more_labels
of_labels = record { op = no_label; const = refl; get = refl; set = refl }

-- ---- a tick

-- the pieces of a tick of so many nodes
record TickFew (nodes : ℕ) (ps : List Piece) : Type 0 where
  ops : adds more_ops ps ≤ 12 * nodes
  operands : adds more_operands ps ≤ 12 * nodes
  bodies : adds more_bodies ps ≤ 12 * nodes
  variables : adds more_variables ps ≤ 12 * nodes
  labels : adds more_labels ps ≤ 12 * nodes
  registers : adds more_registers ps ≤ 12 * nodes
  once : (i : ℕ) → splices i ps ≤ 1

no_tick_few : TickFew 0 []
no_tick_few = record {
  ops = omega arith;
  operands = omega arith;
  bodies = omega arith;
  variables = omega arith;
  labels = omega arith;
  registers = omega arith;
  once = λ i. omega arith;
}

-- and of ops two less, and of registers seven less
record TickLess (nodes : ℕ) (ps : List Piece) : Type 0 where
  few : TickFew nodes ps
  less : adds more_ops ps + 2 ≤ 12 * nodes
  registers : adds more_registers ps + 7 ≤ 12 * nodes

seven_less : (nodes r : ℕ) → 1 ≤ nodes → r ≤ 8 * nodes → (nodes ≡ 1 → r ≤ 5) → r + 7 ≤ 12 * nodes
seven_less zero r some few one = absurd (omega (arith, some))
seven_less (suc zero) r some few one = let five = one refl in omega (arith, five)
seven_less (suc (suc k)) r some few one = omega (arith, few)

module _ (p : node.Program) (accepted : IsProgram p) (addresses : Addresses) where
  -- one body of n variables and m labels
  body_less : (n m nodes k : ℕ) (kinds : List CaptureKind) (ps : List Piece) (s : ℕ → ℕ) (h : ℕ) → Small nodes s ps
      → Goes k n m kinds ps 0 h → TakesFew (6 * nodes) ps → n ≤ 2 * nodes → m ≤ 12 * nodes → ((i : ℕ) → s i ≤ 1)
      → (nodes ≡ 1 → adds more_registers ps + n ≤ 5)
      → TickLess nodes (Plain (Enter n m) ∷ (ps ++ Plain Leave ∷ []))
  body_less n m nodes k kinds ps s h f g regs vars labs once one =
      let end : List Piece = Plain Leave ∷ [] in
      let all : adds more_registers (Plain (Enter n m) ∷ (ps ++ end)) ≡ adds more_registers ps + n =
      omega (arith, adds_both more_registers ps end) in
      let seven = seven_less nodes (adds more_registers ps + n) (omega (arith, f.ops)) (omega (arith, regs.few, vars))
      one in record {
        few = record {
          ops = omega (arith, adds_both more_ops ps end, f.ops);
          operands = omega (arith, adds_both more_operands ps end, f.operands);
          bodies = omega (
            arith,
            adds_both more_bodies ps end,
            none_entered more_bodies of_bodies k n m kinds ps 0 h g,
            f.ops,
          );
          variables = omega (
            arith,
            adds_both more_variables ps end,
            none_entered more_variables of_variables k n m kinds ps 0 h g,
            vars,
          );
          labels = omega (
            arith,
            adds_both more_labels ps end,
            none_entered more_labels of_labels k n m kinds ps 0 h g,
            labs,
          );
          registers = omega (arith, adds_both more_registers ps end, regs.few, vars);
          once = λ i. omega (arith, splices_both i ps end, f.splices i, once i);
        };
        less = omega (arith, adds_both more_ops ps end, f.ops);
        registers = omega (arith, all, seven);
      }

  tick_less : (t : node.TickBody) (kinds : List CaptureKind) → IsTick p accepted.captures t kinds
      → ((i : ℕ) → splices_of_body i t ≤ 1)
      → TickLess (tick_size (Some (tick_of_body t))) (tick_pieces addresses (tick_of_body t))
  tick_less (node.Expression e) kinds h once =
      let g = expr_good 0 (temps_in e) (labels_in e) kinds addresses (round_tick p accepted.captures kinds) refl
      (λ i no. absurd cc) e 0 0 0 h.stands (stmt_uses (node.Eval e) h.values) (omega arith) (omega arith) in
      let takes = expr_takes e in
      body_less (temps_in e) (labels_in e) (size_of_expr e) 0 kinds (expr_pieces addresses e 0 0) _ _
      (expr_small addresses e 0 0) g.goes (expr_registers addresses e 0 0) (omega (arith, takes.1)) (omega
      (arith, takes.0)) once (λ is. one_expr addresses e 0 0 is)
  tick_less (node.Statement s) kinds h once =
      let n : ℕ = variables_in s + temps s in
      let g = stmt_good 0 n (labels s) (variables_in s) kinds addresses (omega arith)
      (round_tick p accepted.captures kinds) refl (λ i no. absurd cc) s nowhere
      (record { breaks = λ no. absurd cc; continues = λ no. absurd cc }) 0 (variables_in s) 0 h.stands
      (stmt_uses s h.values) (omega arith) (omega arith) (omega arith) in
      let takes = stmt_takes s in
      body_less n (labels s) (size_of_stmt s) 0 kinds (stmt_pieces addresses s nowhere 0 (variables_in s)) _ _
      (stmt_small addresses s nowhere 0 (variables_in s)) g.goes
      (stmt_registers addresses s nowhere 0 (variables_in s)) (omega (arith, takes.1, variables_few s h.numbers))
      (omega (arith, takes.0)) once
      (λ is. let few = one_stmt addresses s nowhere 0 (variables_in s) is in
      omega (arith, few, is, takes.1, variables_few s h.numbers))

  -- ---- each number's pieces

  abbrev pieces : ℕ → List Piece
  pieces = program_pieces addresses p

  kinds_there : {A B : Type 0} (xs : List A) (ys : List B) (n : ℕ) (x : A) → length ys ≡ length xs
      → slice_get xs n ≡ Some x → slice_get ys n ≡ None → ⊥
  kinds_there [] ys n x same h none = absurd cc
  kinds_there (x ∷ xs) [] n y same h none = absurd (omega (arith, same))
  kinds_there (x ∷ xs) (y ∷ ys) zero z same h none = absurd cc
  kinds_there (x ∷ xs) (y ∷ ys) (suc n) z same h none = kinds_there xs ys n z (omega (arith, same)) h none

  module _ (once : SpliceOnce p) where
    by_number : (n : ℕ) (t : Option node.TickBody) (kinds : Option (List CaptureKind)) → slice_get p.ticks n ≡ t
        → slice_get accepted.captures n ≡ kinds
        → TickFew (tick_size (option_map tick_of_body t)) (pieces_at addresses (option_map tick_of_body t))
    by_number n None kinds at own = no_tick_few
    by_number n (Some t) (Some kinds) at own = (tick_less t kinds (accepted.ticks n t kinds at own) (once n t at)).few
    by_number n (Some t) None at own = absurd (kinds_there p.ticks accepted.captures n t accepted.each at own)

    number_few : (n : ℕ) → TickFew (tick_size (slice_get (ticks_of p) n)) (pieces n)
    number_few n =
        subst (λ z. TickFew (tick_size z) (pieces_at addresses z)) (sym (slice_get-map tick_of_body p.ticks n))
        (by_number n (slice_get p.ticks n) (slice_get accepted.captures n) refl refl)

    -- of a tick that is there
    known_less : (n : ℕ) (o : Option (List CaptureKind)) (captures : Captures) → slice_get accepted.captures n ≡ o
        → HasKindsAt o captures → TickLess (tick_size (slice_get (ticks_of p) n)) (pieces n)
    known_less n None captures own has = absurd has
    known_less n (Some kinds) captures own has =
        subst (λ z. TickLess (tick_size z) (pieces_at addresses z)) (sym (slice_get-map tick_of_body p.ticks n))
        (by (slice_get p.ticks n) refl)
      where
        by : (t : Option node.TickBody) → slice_get p.ticks n ≡ t
            → TickLess (tick_size (option_map tick_of_body t)) (pieces_at addresses (option_map tick_of_body t))
        by None at =
            absurd (kinds_there accepted.captures p.ticks n kinds (sym accepted.each) own at)
        by (Some t) at = tick_less t kinds (accepted.ticks n t kinds at own) (once n t at)

    -- ---- whole specifications

    abbrev many : Captures → ℕ
    many NoCapture = 0
    many (Word word captures) = suc (many captures)
    many (Named key captures) = suc (many captures)
    many (Spliced syntax captures) = suc (many captures)

    module _ (program : Program) (ticks : program.ticks ≡ ticks_of p) (more : BuildOp → ℕ) (same : Uniform more)
        (few : (n : ℕ) → adds more (pieces n) ≤ 12 * tick_size (slice_get (ticks_of p) n)) where
      abbrev spliced : Captures → ℕ → ℕ
      spliced captures i = in_all more (spliced_ops pieces captures i)

      beyond : (captures : Captures) (i : ℕ) → many captures ≤ i → spliced captures i ≡ 0
      beyond NoCapture i high = refl
      beyond (Word word captures) zero high = absurd (omega (arith, high))
      beyond (Named key captures) zero high = absurd (omega (arith, high))
      beyond (Spliced syntax captures) zero high = absurd (omega (arith, high))
      beyond (Word word captures) (suc i) high = beyond captures i (omega (arith, high))
      beyond (Named key captures) (suc i) high = beyond captures i (omega (arith, high))
      beyond (Spliced syntax captures) (suc i) high = beyond captures i (omega (arith, high))

      -- a tick's own, and what is spliced in
      with_captures : (tick : ℕ) (captures : Captures)
          → sum_to (spliced captures) (many captures) ≤ 12 * captures_size program captures
          → in_all more (syntax_ops pieces (Ticked tick captures))
          ≤ adds more (pieces tick) + 12 * captures_size program captures
      with_captures tick captures sums =
          omega (
            arith,
            pieces_count more same captures (spliced_ops pieces captures) (pieces tick),
            within (many captures) (spliced captures) (pieces tick) (beyond captures) (number_few tick).once,
            sums,
          )

      size_here : (tick : ℕ) → tick_size (slice_get program.ticks tick) ≡ tick_size (slice_get (ticks_of p) tick)
      size_here tick = ap (λ z. tick_size (slice_get z tick)) ticks

      mutual
        syntax_total : (syntax : Syntax) → in_all more (syntax_ops pieces syntax) ≤ 12 * syntax_size program syntax
        syntax_total (Ticked tick captures) =
            omega (arith, with_captures tick captures (captures_total captures), few tick, size_here tick)

        captures_total : (captures : Captures)
            → sum_to (spliced captures) (many captures) ≤ 12 * captures_size program captures
        captures_total NoCapture = omega arith
        captures_total (Word word captures) =
            omega (arith, sum_first (spliced (Word word captures)) (many captures), captures_total captures)
        captures_total (Named key captures) =
            omega (arith, sum_first (spliced (Named key captures)) (many captures), captures_total captures)
        captures_total (Spliced syntax captures) =
            omega (
              arith,
              sum_first (spliced (Spliced syntax captures)) (many captures),
              syntax_total syntax,
              captures_total captures,
            )

    uniform_ops : Uniform more_ops
    uniform_ops = record { const = λ w. refl; get = λ k. refl; set = λ k. refl }

    uniform_operands : Uniform more_operands
    uniform_operands = record { const = λ w. refl; get = λ k. refl; set = λ k. refl }

    uniform_bodies : Uniform more_bodies
    uniform_bodies = record { const = λ w. refl; get = λ k. refl; set = λ k. refl }

    uniform_variables : Uniform more_variables
    uniform_variables = record { const = λ w. refl; get = λ k. refl; set = λ k. refl }

    uniform_registers : Uniform more_registers
    uniform_registers = record { const = λ w. refl; get = λ k. refl; set = λ k. refl }

    uniform_labels : Uniform more_labels
    uniform_labels = record { const = λ w. refl; get = λ k. refl; set = λ k. refl }

    pub syntax_few : (program : Program) → program.ticks ≡ ticks_of p → (syntax : Syntax)
        → HasTicks accepted.captures syntax → IsFew (syntax_size program syntax) (syntax_ops pieces syntax)
    syntax_few program ticks (Ticked tick captures) known =
        let few_ops = λ (n : ℕ). (number_few n).ops in
        let few_registers = λ (n : ℕ). (number_few n).registers in
        let syntax : Syntax = Ticked tick captures in
        let less = known_less tick (slice_get accepted.captures tick) captures refl known.0 in record {
          ops = omega (
            arith,
            with_captures program ticks more_ops uniform_ops few_ops tick captures
                (captures_total program ticks more_ops uniform_ops few_ops captures),
            less.less,
            size_here program ticks more_ops uniform_ops few_ops tick,
          );
          operands = syntax_total program ticks more_operands uniform_operands (λ n. (number_few n).operands) syntax;
          bodies = syntax_total program ticks more_bodies uniform_bodies (λ n. (number_few n).bodies) syntax;
          variables = syntax_total program ticks more_variables uniform_variables (λ n.
              (number_few n).variables) syntax;
          labels = syntax_total program ticks more_labels uniform_labels (λ n. (number_few n).labels) syntax;
          registers = omega (
            arith,
            with_captures program ticks more_registers uniform_registers few_registers tick captures
                (captures_total program ticks more_registers uniform_registers few_registers captures),
            less.registers,
            size_here program ticks more_registers uniform_registers few_registers tick,
          );
        }
