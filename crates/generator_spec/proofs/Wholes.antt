-- Ticks whose captures are of their kinds, and whole specifications of such ticks.
use Rattle.std.proofs.Common.{◌≡◌, ℕ, zero, suc, ◌<◌, List, [], ◌∷◌, length}
use Rattle.std.proofs.Common.{if◌then◌else◌, Option, Some, None, slice_get, refl, sym, subst, arith}
use Rattle.history.specs.Syntax.{Syntax, Ticked, Captures, NoCapture, Word, Named, Spliced}
use Rattle.icode_ir.specs.Sound.{Each}
use Rattle.icode_ir.proofs.Sounds.{Each-append}
use Rattle.icode_ir.specs.declared.build_op.BuildOp.TheVariants as build
use Rattle.meaning_state.specs.Shared.{Specification, Expression, Statement, Local, Param}
use Rattle.meaning_state.specs.Rows.{numbered}
use Rattle.host_edge.specs.declared.ending.TrapKind.TheVariants.{BadSpec}
use Rattle.typed_tree.specs.declared.expression.Answer.{Answer}
use Rattle.typed_tree.specs.declared.expression.Answer.TheVariants as answer
use Rattle.typed_tree.specs.declared.expression.CaptureKind.{CaptureKind}
use Rattle.typed_tree.specs.declared.expression.CaptureKind.TheVariants as kind
use Rattle.typed_tree.specs.Nodes as node
use Rattle.wellformed.specs.Program.{IsTick, IsProgram, round_tick}
use Rattle.staged_meaning.specs.Size.{variables_in}
use Rattle.staged_meaning.specs.Specifications.{fits, captures_trap, captures_of, syntax_in}
use Rattle.tick_lower_spec.specs.Lower.{Addresses, nowhere}
use Rattle.tick_lower_spec.specs.declared.piece.Piece.{Piece}
use Rattle.tick_lower_spec.specs.declared.piece.Piece.TheVariants.{Plain, Captured, GetKey, SetKey, Splice, Nothing}
use Rattle.generator_laws.specs.Pieces.{PieceFits, PiecesFit, IsWhole, AreWhole}
use Rattle.tick_lower_spec.specs.TickPieces.{expr_pieces, stmt_pieces, tick_pieces}
use Rattle.generator_spec.specs.Kinds.{HasKinds, HasKindsAt, HasTicks, HaveTicks, IsKnown, HasWords, AreAddresses}
use Rattle.generator_spec.specs.Kinds.{tick_of_body}
use Rattle.generator_spec.proofs.Standing.{Serves, expression_serves, statement_serves}

-- ---- ticks

tick_serves : (p : node.Program) (ticks : List (List CaptureKind)) (t : node.TickBody) (kinds : List CaptureKind)
    (addresses : Addresses) (captures : Captures) → IsTick p ticks t kinds → AreAddresses addresses
    → HasKinds kinds captures → Each (Serves captures) (tick_pieces addresses (tick_of_body t))
tick_serves p ticks (node.Expression e) kinds addresses captures h good has = (
  tt,
  Each-append (Serves captures) (expr_pieces addresses e 0 0) (Plain build.Leave ∷ [])
      (expression_serves addresses good kinds captures has (round_tick p ticks kinds) refl e 0 0 h.stands) (tt, tt),
)
tick_serves p ticks (node.Statement s) kinds addresses captures h good has = (
  tt,
  Each-append (Serves captures) (stmt_pieces addresses s nowhere 0 (variables_in s)) (Plain build.Leave ∷ [])
      (statement_serves addresses good kinds captures has (round_tick p ticks kinds) refl s nowhere 0 (variables_in s)
      h.stands) (tt, tt),
)

piece_fits : (captures : Captures) (p : Piece) → Serves captures p → HasWords p → PieceFits captures p
piece_fits captures (Plain op) h w = (h, w.0, w.1)
piece_fits captures (Captured i) h w = h
piece_fits captures (GetKey i) h w = h
piece_fits captures (SetKey i) h w = h
piece_fits captures (Splice i) h w = h
piece_fits captures Nothing h w = tt

pieces_fit : (captures : Captures) (ps : List Piece) → Each (Serves captures) ps → Each HasWords ps
    → PiecesFit captures ps
pieces_fit captures [] h w = tt
pieces_fit captures (p ∷ ps) h w = (piece_fits captures p h.0 w.0, pieces_fit captures ps h.1 w.1)

pub fit : (p : node.Program) (ticks : List (List CaptureKind)) (t : node.TickBody) (kinds : List CaptureKind)
    (addresses : Addresses) (captures : Captures) → IsTick p ticks t kinds → AreAddresses addresses
    → Each HasWords (tick_pieces addresses (tick_of_body t)) → HasKinds kinds captures
    → PiecesFit captures (tick_pieces addresses (tick_of_body t))
fit p ticks t kinds addresses captures h good words has =
    pieces_fit captures (tick_pieces addresses (tick_of_body t))
    (tick_serves p ticks t kinds addresses captures h good has) words

-- ---- specifications

-- what has a number in a list is there, and so is what has that number in one as long
there : {A : Type 0} (xs : List A) (n : ℕ) (x : A) → slice_get xs n ≡ Some x → n < length xs
there [] n x h = absurd cc
there (y ∷ ys) zero x h = omega arith
there (y ∷ ys) (suc n) x h = omega (arith, there ys n x h)

data At {A : Type 0} (xs : List A) (n : ℕ) : Type 0 where
  Is : (x : A) → slice_get xs n ≡ Some x → At xs n

within : {A : Type 0} (xs : List A) (n : ℕ) → n < length xs → At xs n
within [] n h = absurd (omega (arith, h))
within (x ∷ xs) zero h = Is x refl
within (x ∷ xs) (suc n) h = next (within xs n (omega (arith, h)))
  where
    next : At xs n → At (x ∷ xs) (suc n)
    next (Is y q) = Is y q

module _ (p : node.Program) (accepted : IsProgram p) (addresses : Addresses) (pieces : ℕ → List Piece)
    (good : AreAddresses addresses) (made : (n : ℕ) (t : node.TickBody) → slice_get p.ticks n ≡ Some t → pieces n
    ≡ tick_pieces addresses (tick_of_body t)) (words : (n : ℕ) → Each HasWords (pieces n)) where
  tick_fits : (n : ℕ) (captures : Captures) (t : node.TickBody) (kinds : List CaptureKind)
      → slice_get p.ticks n ≡ Some t → slice_get accepted.captures n ≡ Some kinds → HasKinds kinds captures
      → PiecesFit captures (pieces n)
  tick_fits n captures t kinds tick own has =
      subst (λ ps. PiecesFit captures ps) (sym (made n t tick))
      (fit p accepted.captures t kinds addresses captures (accepted.ticks n t kinds tick own) good
      (subst (λ ps. Each HasWords ps) (made n t tick) (words n)) has)

  by_kinds : (n : ℕ) (captures : Captures) (o : Option (List CaptureKind)) → slice_get accepted.captures n ≡ o
      → HasKindsAt o captures → (n < length p.ticks) × PiecesFit captures (pieces n)
  by_kinds n captures None own has = absurd has
  by_kinds n captures (Some kinds) own has =
      let low : n < length p.ticks =
      omega (arith, there accepted.captures n kinds own, accepted.each) in
      (low, by_tick (within p.ticks n low))
    where
      by_tick : At p.ticks n → PiecesFit captures (pieces n)
      by_tick (Is t tick) = tick_fits n captures t kinds tick own has

  mutual
    pub syntax_whole : (syntax : Syntax) → HasTicks accepted.captures syntax
        → IsWhole pieces (length p.ticks) syntax
    syntax_whole (Ticked n captures) h =
        let tick = by_kinds n captures (slice_get accepted.captures n) refl h.0 in
        (tick.0, tick.1, captures_whole captures h.1)

    captures_whole : (captures : Captures) → HaveTicks accepted.captures captures
        → AreWhole pieces (length p.ticks) captures
    captures_whole NoCapture h = tt
    captures_whole (Word w captures) h = captures_whole captures h
    captures_whole (Named key captures) h = captures_whole captures h
    captures_whole (Spliced syntax captures) h = (syntax_whole syntax h.0, captures_whole captures h.1)

-- ---- new specifications

module _ (ticks : List (List CaptureKind)) (rows : List Specification) (known : Each (IsKnown ticks) rows) where
  known_in : (rs : List Specification) → Each (IsKnown ticks) rs → (n : ℕ) (r : Specification)
      → slice_get rs n ≡ Some r → IsKnown ticks r
  known_in [] h n r e = absurd cc
  known_in (s ∷ rs) h zero r e = subst (λ z. IsKnown ticks z) (let is : s ≡ r = cc in is) h.0
  known_in (s ∷ rs) h (suc n) r e = known_in rs h.1 n r e

  known_at : (v : ℕ) (r : Specification) → numbered v rows ≡ Some r → IsKnown ticks r
  known_at zero r e = absurd cc
  known_at (suc n) r e = known_in rows known n r e

  -- what a splice stands for, where its number is one of a live specification of its kind
  splice_case : (answer : Answer) (o : Option Specification) (v : ℕ) (kinds : List CaptureKind) (words : List ℕ)
      → numbered v rows ≡ o
      → (if fits (kind.Splice answer) o then captures_trap rows kinds words else Some BadSpec) ≡ None
      → HasTicks ticks (syntax_in o) × (captures_trap rows kinds words ≡ None)
  splice_case answer.Value (Some (Expression syntax)) v kinds words e h = (known_at v (Expression syntax) e, h)
  splice_case answer.Void (Some (Statement syntax)) v kinds words e h = (known_at v (Statement syntax) e, h)
  splice_case answer.Value None v kinds words e h = absurd cc
  splice_case answer.Value (Some (Statement syntax)) v kinds words e h = absurd cc
  splice_case answer.Value (Some Local) v kinds words e h = absurd cc
  splice_case answer.Value (Some (Param index)) v kinds words e h = absurd cc
  splice_case answer.Void None v kinds words e h = absurd cc
  splice_case answer.Void (Some (Expression syntax)) v kinds words e h = absurd cc
  splice_case answer.Void (Some Local) v kinds words e h = absurd cc
  splice_case answer.Void (Some (Param index)) v kinds words e h = absurd cc

  variable_case : (o : Option Specification) (kinds : List CaptureKind) (words : List ℕ)
      → (if fits kind.Variable o then captures_trap rows kinds words else Some BadSpec) ≡ None
      → captures_trap rows kinds words ≡ None
  variable_case (Some Local) kinds words h = h
  variable_case (Some (Param index)) kinds words h = h
  variable_case None kinds words h = absurd cc
  variable_case (Some (Expression syntax)) kinds words h = absurd cc
  variable_case (Some (Statement syntax)) kinds words h = absurd cc

  kinds_kept : (kinds : List CaptureKind) (words : List ℕ) → length kinds ≡ length words
      → HasKinds kinds (captures_of rows kinds words)
  kinds_kept [] words same = tt
  kinds_kept (k ∷ kinds) [] same = absurd (omega (arith, same))
  kinds_kept (kind.Dollar ∷ kinds) (v ∷ words) same = kinds_kept kinds words (omega (arith, same))
  kinds_kept (kind.Address ∷ kinds) (v ∷ words) same = kinds_kept kinds words (omega (arith, same))
  kinds_kept (kind.Splice answer ∷ kinds) (v ∷ words) same = kinds_kept kinds words (omega (arith, same))
  kinds_kept (kind.Variable ∷ kinds) (v ∷ words) same = kinds_kept kinds words (omega (arith, same))

  ticks_kept : (kinds : List CaptureKind) (words : List ℕ) → captures_trap rows kinds words ≡ None
      → HaveTicks ticks (captures_of rows kinds words)
  ticks_kept [] words h = tt
  ticks_kept (k ∷ kinds) [] h = tt
  ticks_kept (kind.Dollar ∷ kinds) (v ∷ words) h = ticks_kept kinds words h
  ticks_kept (kind.Address ∷ kinds) (v ∷ words) h = ticks_kept kinds words h
  ticks_kept (kind.Splice answer ∷ kinds) (v ∷ words) h =
      let q = splice_case answer (numbered v rows) v kinds words refl h in (q.0, ticks_kept kinds words q.1)
  ticks_kept (kind.Variable ∷ kinds) (v ∷ words) h =
      ticks_kept kinds words (variable_case (numbered v rows) kinds words h)

  pub kept : (tick : ℕ) (kinds : List CaptureKind) (words : List ℕ) → slice_get ticks tick ≡ Some kinds
      → length kinds ≡ length words → captures_trap rows kinds words ≡ None
      → HasTicks ticks (Ticked tick (captures_of rows kinds words))
  kept tick kinds words own same h = (
    subst (λ o. HasKindsAt o (captures_of rows kinds words)) (sym own) (kinds_kept kinds words same),
    ticks_kept kinds words h,
  )
