-- What the functions of the ticks of a made specification take, by its size.
use Rattle.std.proofs.Common.{◌≡◌, ◌⊎◌, inl, inr, ℕ, zero, suc, ◌*◌, ◌≤◌, List, [], ◌∷◌, length}
use Rattle.std.proofs.Common.{Option, Some, None, slice_get, refl, sym, ap, ◌∙◌, subst, arith}
use Rattle.std.specs.Prelude.{option_map}
use Rattle.std.proofs.lemmas.Option.{slice_get-map}
use Rattle.history.specs.Syntax.{Syntax, Ticked, Captures, NoCapture, Word, Named, Spliced}
use Rattle.typed_tree.specs.declared.expression.Answer.{Answer}
use Rattle.typed_tree.specs.declared.expression.CaptureKind.{CaptureKind}
use Rattle.typed_tree.specs.declared.expression.CaptureKind.TheVariants as kind
use Rattle.typed_tree.specs.Nodes as node
use Rattle.wellformed.specs.Program.{IsProgram}
use Rattle.tick_captures_proof.specs.Splices.{splices_of_body, AreNamed}
use Rattle.tick_captures_proof.proofs.Named.{captures_named}
use Rattle.tick_captures_proof.proofs.Once.{splices_once}
use Rattle.icode_ir.specs.declared.build_op.BuildOp.TheVariants.{Leave}
use Rattle.staged_meaning.specs.Program.{Program, tick_size}
use Rattle.staged_meaning.specs.Size.{variables_in}
use Rattle.tick_lower_spec.specs.Lower.{Addresses, nowhere}
use Rattle.tick_lower_spec.specs.declared.piece.Piece.{Piece}
use Rattle.tick_lower_spec.specs.declared.piece.Piece.TheVariants.{Plain, Captured, GetKey, SetKey, Splice, Nothing}
use Rattle.routine_spec.specs.Generator.{spliced_cost}
use Rattle.generator_spec.specs.Laws.{pieces_at}
use Rattle.tick_lower_spec.specs.TickPieces.{tick_pieces, expr_pieces, stmt_pieces}
use Rattle.generator_spec.specs.Kinds.{HasKinds, HasKindsAt, HasTicks, HaveTicks, tick_of_body}
use Rattle.generator_spec.specs.FittingLaws.{ticks_of, program_pieces}
use Rattle.generator_spec.proofs.Counted.{tick_few}
use Rattle.generated_ops_proof.specs.Laws.{SpecificationsAreDear}
use Rattle.generated_ops_proof.proofs.Costs.{splices, splices_both}
use Rattle.generated_ops_proof.proofs.Trees.{expr_small}
use Rattle.generated_ops_proof.proofs.StmtTrees.{stmt_small}
use Rattle.routine_spec.proofs.Dear.{own_cost, cost_both}
use Rattle.routine_spec.proofs.DearTrees.{expr_small as expr_dear}
use Rattle.routine_spec.proofs.DearStmts.{stmt_small as stmt_dear}
use Rattle.generated_ops_proof.proofs.DearSyntax.{AreDear, CapturesAreDear, costs_low, costs_high}

-- each piece takes an instruction at least
long_dear : (ps : List Piece) → length ps ≤ own_cost ps
long_dear [] = omega arith
long_dear (Plain op ∷ ps) = omega (arith, long_dear ps)
long_dear (Captured i ∷ ps) = omega (arith, long_dear ps)
long_dear (GetKey i ∷ ps) = omega (arith, long_dear ps)
long_dear (SetKey i ∷ ps) = omega (arith, long_dear ps)
long_dear (Splice i ∷ ps) = omega (arith, long_dear ps)
long_dear (Nothing ∷ ps) = omega (arith, long_dear ps)

-- one tick of so many nodes
record TickDear (nodes : ℕ) (ps : List Piece) : Type 0 where
  low : nodes ≤ own_cost ps
  high : own_cost ps ≤ 98 * nodes
  some : 1 ≤ nodes

module _ (addresses : Addresses) where
  abbrev end : List Piece
  end = Plain Leave ∷ []

  tick_dear : (t : node.TickBody)
      → TickDear (tick_size (Some (tick_of_body t))) (tick_pieces addresses (tick_of_body t))
  tick_dear (node.Expression e) =
      let d = expr_dear addresses e 0 0 in
      let ps : List Piece = expr_pieces addresses e 0 0 in
      let few = tick_few addresses (tick_of_body (node.Expression e)) in
      let long = long_dear (tick_pieces addresses (tick_of_body (node.Expression e))) in record {
        low = omega (arith, few, long);
        high = omega (arith, d.cost, cost_both ps end);
        some = omega (arith, d.cost);
      }
  tick_dear (node.Statement s) =
      let d = stmt_dear addresses s nowhere 0 (variables_in s) in
      let ps : List Piece = stmt_pieces addresses s nowhere 0 (variables_in s) in
      let few = tick_few addresses (tick_of_body (node.Statement s)) in
      let long = long_dear (tick_pieces addresses (tick_of_body (node.Statement s))) in record {
        low = omega (arith, few, long);
        high = omega (arith, d.cost, cost_both ps end);
        some = omega (arith, d.cost);
      }

  pub tick_splices : (t : node.TickBody) (i : ℕ)
      → splices i (tick_pieces addresses (tick_of_body t)) ≡ splices_of_body i t
  tick_splices (node.Expression e) i =
      let ps : List Piece = expr_pieces addresses e 0 0 in
      omega (arith, splices_both i ps end, (expr_small addresses e 0 0).splices i)
  tick_splices (node.Statement s) i =
      let ps : List Piece = stmt_pieces addresses s nowhere 0 (variables_in s) in
      omega (arith, splices_both i ps end, (stmt_small addresses s nowhere 0 (variables_in s)).splices i)

-- ---- a specification

pub missing : {A B : Type 0} (xs : List A) (ys : List B) (n : ℕ) (x : A) → length ys ≡ length xs
    → slice_get xs n ≡ Some x → slice_get ys n ≡ None → ⊥
missing [] ys n x same h none = absurd cc
missing (x ∷ xs) [] n y same h none = absurd (omega (arith, same))
missing (x ∷ xs) (y ∷ ys) zero z same h none = absurd cc
missing (x ∷ xs) (y ∷ ys) (suc n) z same h none = missing xs ys n z (omega (arith, same)) h none

module _ (p : node.Program) (accepted : IsProgram p) (addresses : Addresses) (program : Program)
    (same : program.ticks ≡ ticks_of p) where
  abbrev pieces : ℕ → List Piece
  pieces = program_pieces addresses p

  -- a capture that takes something is a splice
  is_splice : (kinds : List CaptureKind) (captures : Captures) → HasKinds kinds captures → (i : ℕ)
      → (spliced_cost pieces captures i ≡ 0) ⊎ ((answer : Answer) × (slice_get kinds i ≡ Some (kind.Splice answer)))
  is_splice [] NoCapture has i = inl refl
  is_splice (kind.Dollar ∷ kinds) (Word x captures) has zero = inl refl
  is_splice (kind.Address ∷ kinds) (Word x captures) has zero = inl refl
  is_splice (kind.Variable ∷ kinds) (Named key captures) has zero = inl refl
  is_splice (kind.Splice r ∷ kinds) (Spliced x captures) has zero = inr (r, refl)
  is_splice (kind.Dollar ∷ kinds) (Word x captures) has (suc i) = is_splice kinds captures has i
  is_splice (kind.Address ∷ kinds) (Word x captures) has (suc i) = is_splice kinds captures has i
  is_splice (kind.Variable ∷ kinds) (Named key captures) has (suc i) = is_splice kinds captures has i
  is_splice (kind.Splice r ∷ kinds) (Spliced x captures) has (suc i) = is_splice kinds captures has i
  is_splice _ captures has i = absurd has

  -- what is asked of a tick's own pieces
  record OwnDear (tick : ℕ) (captures : Captures) : Type 0 where
    own : TickDear (tick_size (slice_get program.ticks tick)) (pieces tick)
    once : (i : ℕ) → splices i (pieces tick) ≤ 1
    named : (i : ℕ) → (spliced_cost pieces captures i ≡ 0) ⊎ (1 ≤ splices i (pieces tick))

  there : (tick : ℕ) (kinds : List CaptureKind) (captures : Captures) → slice_get accepted.captures tick ≡ Some kinds
      → HasKinds kinds captures → (t : node.TickBody) → slice_get p.ticks tick ≡ Some t → OwnDear tick captures
  there tick kinds captures own has t at =
      let found : slice_get (ticks_of p) tick ≡ Some (tick_of_body t) =
      slice_get-map tick_of_body p.ticks tick ∙ ap (option_map tick_of_body) at in
      let found_in : slice_get program.ticks tick ≡ Some (tick_of_body t) =
      ap (λ z. slice_get z tick) same ∙ found in
      let ps : pieces tick ≡ tick_pieces addresses (tick_of_body t) = ap (λ z. pieces_at addresses z) found in
      let names = captures_named p accepted tick t kinds at own in record {
        own = subst (λ z. TickDear (tick_size z) (pieces tick)) (sym found_in)
            (subst (λ z. TickDear (tick_size (Some (tick_of_body t))) z) (sym ps) (tick_dear addresses t));
        once = λ i.
            let few = splices_once p accepted tick t at i in
            omega (arith, few, ap (λ z. splices i z) ps, tick_splices addresses t i);
        named = λ i. by i (is_splice kinds captures has i) ps names;
      }
    where
      by : (i : ℕ)
          → (spliced_cost pieces captures i ≡ 0) ⊎ ((answer : Answer) × (slice_get kinds i ≡ Some (kind.Splice answer)))
          → pieces tick ≡ tick_pieces addresses (tick_of_body t) → AreNamed t kinds
          → (spliced_cost pieces captures i ≡ 0) ⊎ (1 ≤ splices i (pieces tick))
      by i (inl none) ps names = inl none
      by i (inr is) ps names =
          let some = names.splices i is.0 is.1 in
          inr (omega (arith, some, ap (λ z. splices i z) ps, tick_splices addresses t i))

  own_dear : (tick : ℕ) (captures : Captures) (o : Option (List CaptureKind)) → slice_get accepted.captures tick ≡ o
      → HasKindsAt o captures → OwnDear tick captures
  own_dear tick captures None own has = absurd has
  own_dear tick captures (Some kinds) own has = by (slice_get p.ticks tick) refl
    where
      by : (t : Option node.TickBody) → slice_get p.ticks tick ≡ t → OwnDear tick captures
      by None at = absurd (missing accepted.captures p.ticks tick kinds (sym accepted.each) own at)
      by (Some t) at = there tick kinds captures own has t at

  mutual
    pub syntax_dear : (syntax : Syntax) → HasTicks accepted.captures syntax → AreDear program pieces syntax
    syntax_dear (Ticked tick captures) has =
        let o = own_dear tick captures (slice_get accepted.captures tick) refl has.0 in
        (o.own.low, o.own.high, o.own.some, o.once, λ i low. o.named i, captures_dear captures has.1)

    captures_dear : (captures : Captures) → HaveTicks accepted.captures captures
        → CapturesAreDear program pieces captures
    captures_dear NoCapture has = tt
    captures_dear (Word word captures) has = captures_dear captures has
    captures_dear (Named key captures) has = captures_dear captures has
    captures_dear (Spliced syntax captures) has = (syntax_dear syntax has.0, captures_dear captures has.1)

pub specifications_dear : SpecificationsAreDear
specifications_dear p accepted addresses program syntax same has =
    let dear = syntax_dear p accepted addresses program same syntax has in
    let pieces : ℕ → List Piece = program_pieces addresses p in
    (costs_low program pieces syntax dear, costs_high program pieces syntax dear)
