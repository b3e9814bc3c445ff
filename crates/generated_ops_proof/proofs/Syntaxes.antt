-- A builder takes the ops of each specification of the ticks of an accepted text.
use Rattle.std.proofs.Common.{◌≡◌, ℕ, zero, suc, ◌+◌, ◌<◌, ◌≤◌, Bool, true, false, List, [], ◌∷◌, ◌++◌, length}
use Rattle.std.proofs.Common.{Option, Some, None, slice_get, refl, sym, ap, ◌∙◌, subst, arith, append_assoc}
use Rattle.std.specs.Prelude.{nat_lt, option_map, if◌then◌else◌}
use Rattle.std.proofs.lemmas.Bool.Decides.{nat_tests}
use Rattle.std.proofs.lemmas.Option.{slice_get-map}
use Rattle.limits.specs.declared.ops.TheConstants.{KEYS}
use Rattle.limits.specs.declared.program.TheConstants.{MOST_ARGUMENTS}
use Rattle.history.specs.Syntax.{Syntax, Ticked, Captures, NoCapture, Word, Named, Spliced}
use Rattle.typed_tree.specs.declared.expression.Answer.{Answer}
use Rattle.typed_tree.specs.declared.expression.Answer.TheVariants as answer
use Rattle.typed_tree.specs.declared.expression.CaptureKind.{CaptureKind}
use Rattle.typed_tree.specs.declared.expression.CaptureKind.TheVariants as kind
use Rattle.typed_tree.specs.Nodes as node
use Rattle.typed_tree.specs.Nodes.{Expr, Stmt, has_value}
use Rattle.typed_tree.specs.Sizes.{is_value}
use Rattle.wellformed.specs.Places.{is_variable, kind_at}
use Rattle.wellformed.specs.Program.{IsTick, IsProgram, round_tick}
use Rattle.wf_ready.proofs.Used.{stmt_uses}
use Rattle.meaning_state.specs.Rows.{parameters_of, parameters_in, keys_of, keys_in, key_parameters}
use Rattle.icode_ir.specs.Sound.{Each}
use Rattle.icode_ir.specs.declared.build_op.BuildOp.{BuildOp}
use Rattle.icode_ir.specs.declared.build_op.BuildOp.TheVariants.{Enter, Leave}
use Rattle.icode_ir.specs.Build.{Build}
use Rattle.icode_ir.specs.Rules.{is_key}
use Rattle.staged_meaning.specs.Program.{is_expression}
use Rattle.staged_meaning.specs.Size.{labels_in, labels, temps_in, temps, variables_in}
use Rattle.tick_lower_spec.specs.Lower.{Addresses, nowhere}
use Rattle.tick_lower_spec.specs.declared.piece.Piece.{Piece}
use Rattle.tick_lower_spec.specs.declared.piece.Piece.TheVariants.{Plain}
use Rattle.generator_laws.specs.Pieces.{capture_at, key_in_capture, piece_ops, pieces_ops, syntax_ops, spliced_ops}
use Rattle.generator_spec.specs.Laws.{pieces_at}
use Rattle.tick_lower_spec.specs.TickPieces.{tick_pieces, expr_pieces, stmt_pieces}
use Rattle.generator_spec.specs.Kinds.{HasKinds, HasKindsAt, HasTicks, HaveTicks, tick_of_body}
use Rattle.generator_spec.specs.FittingLaws.{ticks_of, program_pieces}
use Rattle.generated_ops_proof.specs.Laws.{OwnsLabels}
use Rattle.generated_ops_proof.specs.Room.{HasRoom}
use Rattle.generated_ops_proof.specs.Answers.{leaves, HaveAnswers, HaveAnswersAt, HasAnswers, AllHaveAnswers}
use Rattle.generated_ops_proof.proofs.Rooms.{grown_none}
use Rattle.generated_ops_proof.proofs.Goes.{rise, raised}
use Rattle.generated_ops_proof.proofs.Runs.{Built}
use Rattle.generated_ops_proof.proofs.Bodies.{body_built}
use Rattle.generated_ops_proof.proofs.Good.{Good, span, span_in}
use Rattle.generated_ops_proof.proofs.Expressions.{expr_good}
use Rattle.generated_ops_proof.proofs.Statements.{stmt_good}

pub pieces_both : (captures : Captures) (splice : ℕ → List BuildOp) (ps qs : List Piece)
    → pieces_ops captures splice (ps ++ qs) ≡ pieces_ops captures splice ps ++ pieces_ops captures splice qs
pieces_both captures splice [] qs = refl
pieces_both captures splice (p ∷ ps) qs =
    ap (λ z. piece_ops captures splice p ++ z) (pieces_both captures splice ps qs)
    ∙ sym (append_assoc (piece_ops captures splice p) (pieces_ops captures splice ps) (pieces_ops captures splice qs))

-- ---- the keys of a specification

module _ (k : ℕ) where
  abbrev mutual
    pub HasKeys : Syntax → Type 0
    HasKeys (Ticked tick captures) = HaveKeys captures

    pub HaveKeys : Captures → Type 0
    HaveKeys NoCapture = Unit {0}
    HaveKeys (Word word captures) = HaveKeys captures
    HaveKeys (Named key captures) = (is_key k key ≡ true) × HaveKeys captures
    HaveKeys (Spliced syntax captures) = HasKeys syntax × HaveKeys captures

  front : {A : Type 0} (P : A → Type 0) (xs ys : List A) → Each P (xs ++ ys) → Each P xs
  front P [] ys h = tt
  front P (x ∷ xs) ys h = (h.0, front P xs ys h.1)

  back : {A : Type 0} (P : A → Type 0) (xs ys : List A) → Each P (xs ++ ys) → Each P ys
  back P [] ys h = h
  back P (x ∷ xs) ys h = back P xs ys h.1

  -- one that names no more parameters, and no key that there isn't
  key_good : (key : ℕ) → key_parameters key ≤ k → key < KEYS → is_key k key ≡ true
  key_good key few low = by (nat_lt key MOST_ARGUMENTS) refl
    where
      by : (b : Bool) → nat_lt key MOST_ARGUMENTS ≡ b → (if b then nat_lt key k else nat_lt key KEYS) ≡ true
      by true e =
          let one : key_parameters key ≡ suc key = ap (λ z. if z then suc key else 0) e in
          let fits : key < k = omega (arith, few, one) in grind (arith, nat_tests)
      by false e = grind (arith, nat_tests)

  mutual
    pub keys_good : (syntax : Syntax) → parameters_of syntax ≤ k → Each (λ key. key < KEYS) (keys_of syntax)
        → HasKeys syntax
    keys_good (Ticked tick captures) few low = all_keys_good captures few low

    all_keys_good : (captures : Captures) → parameters_in captures ≤ k → Each (λ key. key < KEYS) (keys_in captures)
        → HaveKeys captures
    all_keys_good NoCapture few low = tt
    all_keys_good (Word word captures) few low = all_keys_good captures few low
    all_keys_good (Named key captures) few low =
        (key_good key (omega (arith, few)) low.0, all_keys_good captures (omega (arith, few)) low.1)
    all_keys_good (Spliced syntax captures) few low = (
      keys_good syntax (omega (arith, few)) (front (λ key. key < KEYS) (keys_of syntax) (keys_in captures) low),
      all_keys_good captures (omega (arith, few)) (back (λ key. key < KEYS) (keys_of syntax) (keys_in captures) low),
    )

  key_in_it : (kinds : List CaptureKind) (captures : Captures) → HasKinds kinds captures → HaveKeys captures → (i : ℕ)
      → kind_at is_variable (slice_get kinds i) ≡ true → is_key k (key_in_capture (capture_at captures i)) ≡ true
  key_in_it [] captures has keys i h = absurd cc
  key_in_it (kind.Dollar ∷ kinds) (Word x captures) has keys zero h = absurd cc
  key_in_it (kind.Address ∷ kinds) (Word x captures) has keys zero h = absurd cc
  key_in_it (kind.Splice r ∷ kinds) (Spliced x captures) has keys zero h = absurd cc
  key_in_it (kind.Variable ∷ kinds) (Named key captures) has keys zero h = keys.0
  key_in_it (kind.Dollar ∷ kinds) (Word x captures) has keys (suc i) h = key_in_it kinds captures has keys i h
  key_in_it (kind.Address ∷ kinds) (Word x captures) has keys (suc i) h = key_in_it kinds captures has keys i h
  key_in_it (kind.Splice r ∷ kinds) (Spliced x captures) has keys (suc i) h = key_in_it kinds captures has keys.1 i h
  key_in_it (kind.Variable ∷ kinds) (Named key captures) has keys (suc i) h = key_in_it kinds captures has keys.1 i h
  key_in_it (k ∷ kinds) captures has keys i h = absurd has

-- ---- no ops, and the same by another height

nothing_built : (g : ℕ → ℕ) (b : Build) → ((h : ℕ) → g h ≡ h) → OwnsLabels b → Built g [] b
nothing_built g b same none = record {
  taken = tt;
  height = sym (same (length b.operands));
  bodies = refl;
  parameters = refl;
  more = omega arith;
  kept = λ z low. refl;
  none = none;
  grown = grown_none b;
}

-- the splice of a value leaves one
answered : (r : Answer) (v : Bool) (ops : List BuildOp) (b : Build) → v ≡ is_value r → Built (rise v) ops b
    → Built (raised (Some (kind.Splice r))) ops b
answered answer.Value v ops b e f = subst (λ z. Built (rise z) ops b) e f
answered answer.Void v ops b e f = subst (λ z. Built (rise z) ops b) e f

-- ---- a tick

module _ (p : node.Program) (accepted : IsProgram p) (addresses : Addresses) (k : ℕ) where
  abbrev pieces : ℕ → List Piece
  pieces = program_pieces addresses p

  module _ (kinds : List CaptureKind) (captures : Captures) (splice : ℕ → List BuildOp)
      (splices : (i : ℕ) (b : Build) → b.parameters ≡ k → OwnsLabels b → HasRoom (splice i) b
      → Built (raised (slice_get kinds i)) (splice i) b) (keys : (i : ℕ)
      → kind_at is_variable (slice_get kinds i) ≡ true → is_key k (key_in_capture (capture_at captures i)) ≡ true) where
    -- one body of these pieces
    whole : (n m : ℕ) (ps : List Piece) (v : Bool) → ((h : ℕ) → Good k n m kinds (span 0 m) h (rise v h) ps)
        → (b : Build)
        → b.parameters ≡ k → OwnsLabels b
        → HasRoom (pieces_ops captures splice (Plain (Enter n m) ∷ (ps ++ Plain Leave ∷ []))) b
        → Built (rise v) (pieces_ops captures splice (Plain (Enter n m) ∷ (ps ++ Plain Leave ∷ []))) b
    whole n m ps v good b is none r =
        let same : pieces_ops captures splice (ps ++ Plain Leave ∷ []) ≡ pieces_ops captures splice ps ++ Leave ∷ [] =
        pieces_both captures splice ps (Plain Leave ∷ []) in
        subst (λ z. Built (rise v) (Enter n m ∷ z) b) (sym same)
        (body_built k n m kinds captures splice splices keys ps (rise v) (λ h. (good h).goes)
        (λ i low. (good 0).marked i ∙ span_in m i low) b is none (subst (λ z. HasRoom (Enter n m ∷ z) b) same r))

    tick_built : (t : node.TickBody) → IsTick p accepted.captures t kinds → (b : Build) → b.parameters ≡ k
        → OwnsLabels b → HasRoom (pieces_ops captures splice (tick_pieces addresses (tick_of_body t))) b
        → Built (rise (is_expression (Some (tick_of_body t))))
        (pieces_ops captures splice (tick_pieces addresses (tick_of_body t))) b
    tick_built (node.Expression e) h b is none r =
        whole (temps_in e) (labels_in e) (expr_pieces addresses e 0 0) (has_value e) (λ x.
        expr_good k (temps_in e) (labels_in e) kinds addresses (round_tick p accepted.captures kinds) refl
        (λ i no. absurd cc) e 0 0 x h.stands (stmt_uses (node.Eval e) h.values) (omega arith) (omega arith)) b is none r
    tick_built (node.Statement s) h b is none r =
        whole (variables_in s + temps s) (labels s) (stmt_pieces addresses s nowhere 0 (variables_in s)) false (λ x.
        stmt_good k (variables_in s + temps s) (labels s) (variables_in s) kinds addresses (omega arith)
        (round_tick p accepted.captures kinds) refl (λ i no. absurd cc) s nowhere
        (record { breaks = λ no. absurd cc; continues = λ no. absurd cc }) 0 (variables_in s) x h.stands
        (stmt_uses s h.values) (omega arith) (omega arith) (omega arith)) b is none r

  -- ---- a specification, by its tick and its captures

  record Found (tick : ℕ) (captures : Captures) : Type 0 where
    kinds : List CaptureKind
    has : HasKinds kinds captures
    answers : HaveAnswers (ticks_of p) kinds captures
    body : node.TickBody
    is_tick : IsTick p accepted.captures body kinds
    made : pieces tick ≡ tick_pieces addresses (tick_of_body body)
    value : is_expression (slice_get (ticks_of p) tick) ≡ is_expression (Some (tick_of_body body))

  data Has {A : Type 0} (xs : List A) (n : ℕ) : Type 0 where
    Is : (x : A) → slice_get xs n ≡ Some x → Has xs n

  there : {A : Type 0} (xs : List A) (n : ℕ) (x : A) → slice_get xs n ≡ Some x → n < length xs
  there [] n x h = absurd cc
  there (y ∷ ys) zero x h = omega arith
  there (y ∷ ys) (suc n) x h = omega (arith, there ys n x h)

  member : {A : Type 0} (xs : List A) (n : ℕ) → n < length xs → Has xs n
  member [] n h = absurd (omega (arith, h))
  member (x ∷ xs) zero h = Is x refl
  member (x ∷ xs) (suc n) h = behind (member xs n (omega (arith, h)))
    where
      behind : Has xs n → Has (x ∷ xs) (suc n)
      behind (Is y q) = Is y q

  found : (tick : ℕ) (captures : Captures) (o : Option (List CaptureKind)) → slice_get accepted.captures tick ≡ o
      → HasKindsAt o captures → HaveAnswersAt (ticks_of p) o captures → Found tick captures
  found tick captures None own has answers = absurd has
  found tick captures (Some kinds) own has answers =
      by (member p.ticks tick (omega (arith, there accepted.captures tick kinds own, accepted.each)))
    where
      by : Has p.ticks tick → Found tick captures
      by (Is t at) =
          let tick_is : slice_get (ticks_of p) tick ≡ Some (tick_of_body t) =
          slice_get-map tick_of_body p.ticks tick ∙ ap (option_map tick_of_body) at in record {
            kinds = kinds;
            has = has;
            answers = answers;
            body = t;
            is_tick = accepted.ticks tick t kinds at own;
            made = ap (pieces_at addresses) tick_is;
            value = ap is_expression tick_is;
          }

  by_tick : (tick : ℕ) (captures : Captures) (f : Found tick captures) → ((i : ℕ) (b : Build) → b.parameters ≡ k
      → OwnsLabels b → HasRoom (spliced_ops pieces captures i) b
      → Built (raised (slice_get f.kinds i)) (spliced_ops pieces captures i) b) → HaveKeys k captures → (b : Build)
      → b.parameters ≡ k → OwnsLabels b → HasRoom (syntax_ops pieces (Ticked tick captures)) b
      → Built (rise (leaves (ticks_of p) (Ticked tick captures))) (syntax_ops pieces (Ticked tick captures)) b
  by_tick tick captures f splices keys b is none r =
      let splice : ℕ → List BuildOp = spliced_ops pieces captures in
      let ops : List Piece → List BuildOp = pieces_ops captures splice in
      subst (λ z. Built (rise z) (ops (pieces tick)) b) (sym f.value)
      (subst (λ z. Built (rise (is_expression (Some (tick_of_body f.body)))) (ops z) b) (sym f.made)
      (tick_built f.kinds captures splice splices (key_in_it k f.kinds captures f.has keys) f.body f.is_tick b is none
      (subst (λ z. HasRoom (ops z) b) f.made r)))

  no_kinds : (x : CaptureKind) (kinds : List CaptureKind) → HasKinds (x ∷ kinds) NoCapture → ⊥
  no_kinds kind.Dollar kinds h = h
  no_kinds kind.Address kinds h = h
  no_kinds (kind.Splice r) kinds h = h
  no_kinds kind.Variable kinds h = h

  mutual
    pub syntax_built : (syntax : Syntax) → HasTicks accepted.captures syntax
        → HasAnswers (ticks_of p) accepted.captures syntax → HasKeys k syntax → (b : Build) → b.parameters ≡ k
        → OwnsLabels b → HasRoom (syntax_ops pieces syntax) b
        → Built (rise (leaves (ticks_of p) syntax)) (syntax_ops pieces syntax) b
    syntax_built (Ticked tick captures) known answers keys b is none r =
        let f = found tick captures (slice_get accepted.captures tick) refl known.0 answers.0 in
        by_tick tick captures f (λ i c same own room.
        captures_built captures f.kinds f.has f.answers known.1 answers.1 keys i c same own room) keys b is none r

    captures_built : (captures : Captures) (kinds : List CaptureKind) → HasKinds kinds captures
        → HaveAnswers (ticks_of p) kinds captures → HaveTicks accepted.captures captures
        → AllHaveAnswers (ticks_of p) accepted.captures captures → HaveKeys k captures → (i : ℕ) (b : Build)
        → b.parameters ≡ k → OwnsLabels b → HasRoom (spliced_ops pieces captures i) b
        → Built (raised (slice_get kinds i)) (spliced_ops pieces captures i) b
    captures_built NoCapture [] has answers known all keys i b is none r = nothing_built _ b (λ h. refl) none
    captures_built NoCapture (x ∷ kinds) has answers known all keys i b is none r = absurd (no_kinds x kinds has)
    captures_built (Word x captures) (kind.Dollar ∷ kinds) has answers known all keys zero b is none r =
        nothing_built _ b (λ h. refl) none
    captures_built (Word x captures) (kind.Address ∷ kinds) has answers known all keys zero b is none r =
        nothing_built _ b (λ h. refl) none
    captures_built (Named x captures) (kind.Variable ∷ kinds) has answers known all keys zero b is none r =
        nothing_built _ b (λ h. refl) none
    captures_built (Spliced x captures) (kind.Splice q ∷ kinds) has answers known all keys zero b is none r =
        answered q (leaves (ticks_of p) x) (syntax_ops pieces x) b answers.0
        (syntax_built x known.0 all.0 keys.0 b is none r)
    captures_built (Word x captures) (kind.Dollar ∷ kinds) has answers known all keys (suc i) b is none r =
        captures_built captures kinds has answers known all keys i b is none r
    captures_built (Word x captures) (kind.Address ∷ kinds) has answers known all keys (suc i) b is none r =
        captures_built captures kinds has answers known all keys i b is none r
    captures_built (Named x captures) (kind.Variable ∷ kinds) has answers known all keys (suc i) b is none r =
        captures_built captures kinds has answers known all keys.1 i b is none r
    captures_built (Spliced x captures) (kind.Splice q ∷ kinds) has answers known all keys (suc i) b is none r =
        captures_built captures kinds has answers.1 known.1 all.1 keys.1 i b is none r
    captures_built captures kinds has answers known all keys i b is none r = absurd has
