-- Each variable that an op of a specification's lowering names is one that the specification captures.
use Rattle.std.proofs.Common.{◌≡◌, ◌⊎◌, inl, inr, ⊎_elim, ℕ, zero, suc, ◌+◌, ◌≤◌, ◌==◌, Bool, true, false, List, []}
use Rattle.std.proofs.Common.{◌∷◌, ◌++◌, Option, Some, None, slice_get, refl, sym, ap, ◌∙◌, subst, arith}
use Rattle.std.specs.Prelude.{option_map}
use Rattle.std.proofs.lemmas.Bool.Decides.{nat_tests}
use Rattle.std.proofs.lemmas.Option.{slice_get-map}
use Rattle.history.specs.Syntax.{Syntax, Ticked, Captures, NoCapture, Word, Named, Spliced}
use Rattle.meaning_state.specs.Rows.{keys_of, keys_in, is_among}
use Rattle.typed_tree.specs.declared.expression.CaptureKind.{CaptureKind}
use Rattle.typed_tree.specs.declared.expression.CaptureKind.TheVariants as kind
use Rattle.typed_tree.specs.Nodes as node
use Rattle.wellformed.specs.Places.{is_variable, kind_at}
use Rattle.wellformed.specs.Program.{IsTick, IsProgram, round_tick}
use Rattle.wf_ready.proofs.Used.{stmt_uses}
use Rattle.icode_ir.specs.declared.build_op.BuildOp.{BuildOp}
use Rattle.icode_ir.specs.declared.build_op.BuildOp.TheVariants.{Enter, Leave, GetSpec, SetSpec}
use Rattle.staged_meaning.specs.Size.{labels_in, labels, temps_in, temps, variables_in}
use Rattle.tick_lower_spec.specs.Lower.{Addresses, nowhere}
use Rattle.tick_lower_spec.specs.declared.piece.Piece.{Piece}
use Rattle.tick_lower_spec.specs.declared.piece.Piece.TheVariants.{Plain, Captured, GetKey, SetKey, Splice, Nothing}
use Rattle.generator_laws.specs.Pieces.{capture_at, key_in_capture, piece_ops, pieces_ops, syntax_ops, spliced_ops}
use Rattle.generator_spec.specs.Laws.{pieces_at}
use Rattle.tick_lower_spec.specs.TickPieces.{tick_pieces, expr_pieces, stmt_pieces}
use Rattle.generator_spec.specs.Kinds.{HasKinds, HasKindsAt, HasTicks, HaveTicks, tick_of_body}
use Rattle.generator_spec.specs.FittingLaws.{ticks_of, program_pieces}
use Rattle.generated_ops_proof.specs.Room.{in_all}
use Rattle.generated_ops_proof.proofs.Rooms.{in_both}
use Rattle.generated_ops_proof.proofs.Goes.{Goes, piece_height, one_if}
use Rattle.generated_ops_proof.proofs.Expressions.{expr_good}
use Rattle.generated_ops_proof.proofs.Statements.{stmt_good}
use Rattle.generated_ops_proof.proofs.Syntaxes.{pieces_both}
use Rattle.generated_ops_proof.proofs.DearTicks.{missing}
use Rattle.generated_ops_proof.proofs.Mentions.{names_key}
use Rattle.generated_ops_proof.proofs.Plains.{keyed, all_keyed, expr_plain, stmt_plain}
use Rattle.generated_ops_proof.proofs.KeyOps.{among_front, among_behind, itself}

-- an op that names no key
no_key : (key : ℕ) (o : BuildOp) → keyed o ≤ 0 → names_key key o ≡ 0
no_key key (GetSpec other) none = absurd (omega (arith, none))
no_key key (SetSpec other) none = absurd (omega (arith, none))
no_key key _ none = refl

same_key : (key other : ℕ) → 1 ≤ one_if (key == other) → other ≡ key
same_key key other some = by (key == other) refl some
  where
    by : (b : Bool) → (key == other) ≡ b → 1 ≤ one_if b → other ≡ key
    by true e le = let same : other ≡ key = grind (arith, nat_tests) in same
    by false e le = absurd (omega (arith, le))

module _ (k n m : ℕ) (kinds : List CaptureKind) (captures : Captures) (splice : ℕ → List BuildOp) (key : ℕ) where
  -- where the key comes from
  pub record Source : Type 0 where
    pub capture : ℕ
    pub is : ((kind_at is_variable (slice_get kinds capture) ≡ true)
        × (key_in_capture (capture_at captures capture) ≡ key)) ⊎ (1 ≤ in_all (names_key key) (splice capture))

  one_of : (a b : ℕ) → 1 ≤ a + b → (1 ≤ a) ⊎ (1 ≤ b)
  one_of zero b h = inr (omega (arith, h))
  one_of (suc a) b h = inl (omega arith)

  piece_back : (p : Piece) (ps : List Piece) (h h' : ℕ) → Goes k n m kinds (p ∷ ps) h h' → all_keyed (p ∷ ps) ≤ 0
      → 1 ≤ in_all (names_key key) (piece_ops captures splice p) → Source
  piece_back (Plain op) ps h h' g none some =
      let no = no_key key op (omega (arith, none)) in absurd (omega (arith, no, some))
  piece_back (Captured i) ps h h' g none some = absurd (omega (arith, some))
  piece_back (GetKey i) ps h h' g none some =
      record { capture = i; is = inl (g.0, same_key key _ (omega (arith, some))) }
  piece_back (SetKey i) ps h h' g none some =
      record { capture = i; is = inl (g.0.1, same_key key _ (omega (arith, some))) }
  piece_back (Splice i) ps h h' g none some = record { capture = i; is = inr some }
  piece_back Nothing ps h h' g none some = absurd (omega (arith, some))

  pub pieces_back : (ps : List Piece) (h h' : ℕ) → Goes k n m kinds ps h h' → all_keyed ps ≤ 0
      → 1 ≤ in_all (names_key key) (pieces_ops captures splice ps) → Source
  pieces_back [] h h' g none some = absurd (omega (arith, some))
  pieces_back (p ∷ ps) h h' g none some =
      ⊎_elim
      (λ here. piece_back p ps h h' g none here)
      (λ later. pieces_back ps (piece_height k n m kinds p h) h' g.1 (omega (arith, none)) later)
      (one_of (in_all (names_key key) (piece_ops captures splice p))
      (in_all (names_key key) (pieces_ops captures splice ps))
      (omega (arith, some, in_both (names_key key) (piece_ops captures splice p) (pieces_ops captures splice ps))))

-- a captured variable is among the keys
variable_back : (kinds : List CaptureKind) (captures : Captures) → HasKinds kinds captures → (i : ℕ)
    → kind_at is_variable (slice_get kinds i) ≡ true
    → is_among (key_in_capture (capture_at captures i)) (keys_in captures) ≡ true
variable_back [] NoCapture has i h = absurd cc
variable_back (kind.Dollar ∷ kinds) (Word x captures) has zero h = absurd cc
variable_back (kind.Address ∷ kinds) (Word x captures) has zero h = absurd cc
variable_back (kind.Splice r ∷ kinds) (Spliced x captures) has zero h = absurd cc
variable_back (kind.Variable ∷ kinds) (Named k captures) has zero h = itself k (keys_in captures)
variable_back (kind.Dollar ∷ kinds) (Word x captures) has (suc i) h = variable_back kinds captures has i h
variable_back (kind.Address ∷ kinds) (Word x captures) has (suc i) h = variable_back kinds captures has i h
variable_back (kind.Splice r ∷ kinds) (Spliced x captures) has (suc i) h =
    among_behind _ (keys_of x) (keys_in captures) (variable_back kinds captures has i h)
variable_back (kind.Variable ∷ kinds) (Named k captures) has (suc i) h =
    among_behind _ (k ∷ []) (keys_in captures) (variable_back kinds captures has i h)
variable_back _ captures has i h = absurd has

module _ (p : node.Program) (accepted : IsProgram p) (addresses : Addresses) where
  abbrev pieces : ℕ → List Piece
  pieces = program_pieces addresses p

  abbrev Names : ℕ → List BuildOp → Type 0
  Names key ops = 1 ≤ in_all (names_key key) ops

  abbrev end : List Piece
  end = Plain Leave ∷ []

  -- what names a key in a body
  within : (captures : Captures) (splice : ℕ → List BuildOp) (key n m : ℕ) (ps : List Piece)
      → Names key (pieces_ops captures splice (Plain (Enter n m) ∷ (ps ++ end)))
      → Names key (pieces_ops captures splice ps)
  within captures splice key n m ps some =
      let both = ap (λ z. in_all (names_key key) z) (pieces_both captures splice ps end) in
      let parts = in_both (names_key key) (pieces_ops captures splice ps) (pieces_ops captures splice end) in
      omega (arith, some, both, parts)

  -- whichever numbers the discipline has
  record From (kinds : List CaptureKind) (captures : Captures) (splice : ℕ → List BuildOp) (key : ℕ) : Type 0 where
    capture : ℕ
    is : ((kind_at is_variable (slice_get kinds capture) ≡ true)
        × (key_in_capture (capture_at captures capture) ≡ key)) ⊎ Names key (splice capture)

  tick_back : (t : node.TickBody) (kinds : List CaptureKind) (captures : Captures) (splice : ℕ → List BuildOp) (key : ℕ)
      → IsTick p accepted.captures t kinds
      → Names key (pieces_ops captures splice (tick_pieces addresses (tick_of_body t))) → From kinds captures splice key
  tick_back (node.Expression e) kinds captures splice key h some =
      let g = expr_good 0 (temps_in e) (labels_in e) kinds addresses (round_tick p accepted.captures kinds) refl
      (λ i no. absurd cc) e 0 0 0 h.stands (stmt_uses (node.Eval e) h.values) (omega arith) (omega arith) in
      let s = pieces_back 0 (temps_in e) (labels_in e) kinds captures splice key (expr_pieces addresses e 0 0) 0 _
      g.goes (expr_plain addresses e 0 0).few
      (within captures splice key (temps_in e) (labels_in e) (expr_pieces addresses e 0 0) some) in
      record { capture = s.capture; is = s.is }
  tick_back (node.Statement s) kinds captures splice key h some =
      let n : ℕ = variables_in s + temps s in
      let g = stmt_good 0 n (labels s) (variables_in s) kinds addresses (omega arith)
      (round_tick p accepted.captures kinds) refl (λ i no. absurd cc) s nowhere
      (record { breaks = λ no. absurd cc; continues = λ no. absurd cc }) 0 (variables_in s) 0 h.stands
      (stmt_uses s h.values) (omega arith) (omega arith) (omega arith) in
      let ps : List Piece = stmt_pieces addresses s nowhere 0 (variables_in s) in
      let f = pieces_back 0 n (labels s) kinds captures splice key ps 0 _ g.goes
      (stmt_plain addresses s nowhere 0 (variables_in s)).few
      (within captures splice key n (labels s) ps some) in
      record { capture = f.capture; is = f.is }

  found : (tick : ℕ) (captures : Captures) (key : ℕ) (o : Option (List CaptureKind))
      → slice_get accepted.captures tick ≡ o → HasKindsAt o captures
      → Names key (syntax_ops pieces (Ticked tick captures))
      → ((i : ℕ) → Names key (spliced_ops pieces captures i) → is_among key (keys_in captures) ≡ true)
      → is_among key (keys_in captures) ≡ true
  found tick captures key None own has some spliced = absurd has
  found tick captures key (Some kinds) own has some spliced = by (slice_get p.ticks tick) refl
    where
      by : (t : Option node.TickBody) → slice_get p.ticks tick ≡ t → is_among key (keys_in captures) ≡ true
      by None at = absurd (missing accepted.captures p.ticks tick kinds (sym accepted.each) own at)
      by (Some t) at =
          let there : slice_get (ticks_of p) tick ≡ Some (tick_of_body t) =
          slice_get-map tick_of_body p.ticks tick ∙ ap (option_map tick_of_body) at in
          let ps : pieces tick ≡ tick_pieces addresses (tick_of_body t) = ap (λ z. pieces_at addresses z) there in
          let f = tick_back t kinds captures (spliced_ops pieces captures) key (accepted.ticks tick t kinds at own)
          (subst (λ z. Names key (pieces_ops captures (spliced_ops pieces captures) z)) ps some) in
          ⊎_elim
          (λ v. subst (λ z. is_among z (keys_in captures) ≡ true) v.1 (variable_back kinds captures has f.capture v.0))
          (λ s. spliced f.capture s)
          f.is

  mutual
    pub syntax_back : (syntax : Syntax) → HasTicks accepted.captures syntax → (key : ℕ)
        → Names key (syntax_ops pieces syntax) → is_among key (keys_of syntax) ≡ true
    syntax_back (Ticked tick captures) has key some =
        found tick captures key (slice_get accepted.captures tick) refl has.0 some
        (λ i s. splice_back captures has.1 key i s)

    splice_back : (captures : Captures) → HaveTicks accepted.captures captures → (key i : ℕ)
        → Names key (spliced_ops pieces captures i) → is_among key (keys_in captures) ≡ true
    splice_back NoCapture has key i some = absurd (omega (arith, some))
    splice_back (Word word captures) has key zero some = absurd (omega (arith, some))
    splice_back (Named k captures) has key zero some = absurd (omega (arith, some))
    splice_back (Spliced syntax captures) has key zero some =
        among_front key (keys_of syntax) (keys_in captures) (syntax_back syntax has.0 key some)
    splice_back (Word word captures) has key (suc i) some = splice_back captures has key i some
    splice_back (Named k captures) has key (suc i) some =
        among_behind key (k ∷ []) (keys_in captures) (splice_back captures has key i some)
    splice_back (Spliced syntax captures) has key (suc i) some =
        among_behind key (keys_of syntax) (keys_in captures) (splice_back captures has.1 key i some)
