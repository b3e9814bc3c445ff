-- Each variable that a specification captures is named by an op of its lowering.
use Rattle.std.proofs.Common.{◌≡◌, ◌⊎◌, inl, inr, ⊎_elim, ℕ, zero, suc, ◌+◌, ◌<◌, ◌≤◌, ◌==◌, Bool, true, false, List}
use Rattle.std.proofs.Common.{[], ◌∷◌, ◌++◌, Option, Some, None, slice_get, refl, sym, ap, ◌∙◌, subst, arith}
use Rattle.std.proofs.Common.{nat_eq, nat_lt}
use Rattle.std.specs.Prelude.{max, option_map, if◌then◌else◌}
use Rattle.std.proofs.lemmas.Bool.Decides.{nat_tests}
use Rattle.std.proofs.lemmas.Option.{slice_get-map}
use Rattle.limits.specs.declared.program.TheConstants.{MOST_ARGUMENTS}
use Rattle.history.specs.Syntax.{Syntax, Ticked, Captures, NoCapture, Word, Named, Spliced}
use Rattle.meaning_state.specs.Rows.{parameters_of, parameters_in, key_parameters, keys_of, keys_in, is_among}
use Rattle.typed_tree.specs.declared.expression.Answer.{Answer}
use Rattle.typed_tree.specs.declared.expression.CaptureKind.{CaptureKind}
use Rattle.typed_tree.specs.declared.expression.CaptureKind.TheVariants as kind
use Rattle.typed_tree.specs.Nodes as node
use Rattle.wellformed.specs.Program.{IsProgram}
use Rattle.tick_captures_proof.specs.Splices.{mentions_of_body}
use Rattle.tick_captures_proof.proofs.Named.{captures_named}
use Rattle.icode_ir.specs.declared.build_op.BuildOp.{BuildOp}
use Rattle.icode_ir.specs.declared.build_op.BuildOp.TheVariants.{Leave}
use Rattle.staged_meaning.specs.Size.{variables_in}
use Rattle.tick_lower_spec.specs.Lower.{Addresses, nowhere}
use Rattle.tick_lower_spec.specs.declared.piece.Piece.{Piece}
use Rattle.tick_lower_spec.specs.declared.piece.Piece.TheVariants.{Plain, Captured, GetKey, SetKey, Splice, Nothing}
use Rattle.generator_laws.specs.Pieces.{capture_at, key_in_capture, piece_ops, pieces_ops, syntax_ops, spliced_ops}
use Rattle.generator_spec.specs.Laws.{pieces_at}
use Rattle.tick_lower_spec.specs.TickPieces.{tick_pieces, expr_pieces, stmt_pieces}
use Rattle.generator_spec.specs.Kinds.{HasKinds, HasKindsAt, HasTicks, HaveTicks, tick_of_body}
use Rattle.generator_spec.specs.FittingLaws.{ticks_of, program_pieces}
use Rattle.generated_ops_proof.specs.Room.{in_all}
use Rattle.generated_ops_proof.proofs.Rooms.{in_both}
use Rattle.generated_ops_proof.proofs.Goes.{one_if}
use Rattle.generated_ops_proof.proofs.Costs.{piece_splices, splices}
use Rattle.generated_ops_proof.proofs.DearTicks.{missing, tick_splices}
use Rattle.generated_ops_proof.proofs.Mentions.{names_key}
use Rattle.generated_ops_proof.proofs.Namings.{piece_names, all_names, names_both, expr_names, stmt_names}

-- ---- what stands in the holes

module _ (captures : Captures) (splice : ℕ → List BuildOp) (i : ℕ) where
  -- a node that names the capture of a key
  same_capture : (key j : ℕ) → key_in_capture (capture_at captures i) ≡ key
      → one_if (i == j) ≤ one_if (key == key_in_capture (capture_at captures j))
  same_capture key j is = by (i == j) refl
    where
      by : (b : Bool) → (i == j) ≡ b → one_if b ≤ one_if (key == key_in_capture (capture_at captures j))
      by false e = omega arith
      by true e =
          let same : i ≡ j = grind (arith, nat_tests) in
          let there : key_in_capture (capture_at captures j) ≡ key =
          ap (λ z. key_in_capture (capture_at captures z)) (sym same) ∙ is in
          let test : (key == key_in_capture (capture_at captures j)) ≡ true = grind (arith, nat_tests) in
          let one : one_if (key == key_in_capture (capture_at captures j)) ≡ 1 = ap one_if test in
          omega (arith, one)

  piece_key : (key : ℕ) → key_in_capture (capture_at captures i) ≡ key → (p : Piece)
      → piece_names i p ≤ in_all (names_key key) (piece_ops captures splice p)
  piece_key key is (Plain op) = omega arith
  piece_key key is (Captured j) = omega arith
  piece_key key is (GetKey j) = let l = same_capture key j is in omega (arith, l)
  piece_key key is (SetKey j) = let l = same_capture key j is in omega (arith, l)
  piece_key key is (Splice j) = omega arith
  piece_key key is Nothing = omega arith

  pieces_key : (key : ℕ) → key_in_capture (capture_at captures i) ≡ key → (ps : List Piece)
      → all_names i ps ≤ in_all (names_key key) (pieces_ops captures splice ps)
  pieces_key key is [] = omega arith
  pieces_key key is (p ∷ ps) =
      omega (
        arith,
        in_both (names_key key) (piece_ops captures splice p) (pieces_ops captures splice ps),
        piece_key key is p,
        pieces_key key is ps,
      )

  -- and one that splices what names it
  piece_spliced : (more : BuildOp → ℕ) → 1 ≤ in_all more (splice i) → (p : Piece) → 1 ≤ piece_splices i p
      → 1 ≤ in_all more (piece_ops captures splice p)
  piece_spliced more some (Splice j) there = by (i == j) refl there
    where
      by : (b : Bool) → (i == j) ≡ b → 1 ≤ one_if b → 1 ≤ in_all more (splice j)
      by true e le = let same : i ≡ j = grind (arith, nat_tests) in subst (λ z. 1 ≤ in_all more (splice z)) same some
      by false e le = absurd (omega (arith, le))
  piece_spliced more some (Plain op) there = absurd (omega (arith, there))
  piece_spliced more some (Captured j) there = absurd (omega (arith, there))
  piece_spliced more some (GetKey j) there = absurd (omega (arith, there))
  piece_spliced more some (SetKey j) there = absurd (omega (arith, there))
  piece_spliced more some Nothing there = absurd (omega (arith, there))

  pieces_spliced : (more : BuildOp → ℕ) → 1 ≤ in_all more (splice i) → (ps : List Piece) → 1 ≤ splices i ps
      → 1 ≤ in_all more (pieces_ops captures splice ps)
  pieces_spliced more some [] there = absurd (omega (arith, there))
  pieces_spliced more some (p ∷ ps) there =
      by (piece_splices i p) refl (pieces_spliced more some ps)
      (in_both more (piece_ops captures splice p) (pieces_ops captures splice ps))
    where
      by : (n : ℕ) → piece_splices i p ≡ n
          → (1 ≤ splices i ps → 1 ≤ in_all more (pieces_ops captures splice ps))
          → in_all more (piece_ops captures splice p ++ pieces_ops captures splice ps)
          ≡ in_all more (piece_ops captures splice p) + in_all more (pieces_ops captures splice ps)
          → 1 ≤ in_all more (piece_ops captures splice p ++ pieces_ops captures splice ps)
      by zero e rest both = let l = rest (omega (arith, there, e)) in omega (arith, l, both)
      by (suc n) e rest both = let l = piece_spliced more some p (omega (arith, e)) in omega (arith, l, both)

-- ---- a tick

module _ (addresses : Addresses) where
  abbrev end : List Piece
  end = Plain Leave ∷ []

  tick_names : (t : node.TickBody) (i : ℕ) → mentions_of_body i t ≤ all_names i (tick_pieces addresses (tick_of_body t))
  tick_names (node.Expression e) i =
      omega (arith, names_both i (expr_pieces addresses e 0 0) end, (expr_names i addresses e 0 0).some)
  tick_names (node.Statement s) i =
      omega (
        arith,
        names_both i (stmt_pieces addresses s nowhere 0 (variables_in s)) end,
        (stmt_names i addresses s nowhere 0 (variables_in s)).some,
      )

-- ---- a specification

pub among_both : (key : ℕ) (xs ys : List ℕ) → is_among key (xs ++ ys) ≡ true
    → (is_among key xs ≡ true) ⊎ (is_among key ys ≡ true)
among_both key [] ys h = inr h
among_both key (x ∷ xs) ys h = by (nat_eq key x) h (among_both key xs ys)
  where
    by : (b : Bool) → (if b then true else is_among key (xs ++ ys)) ≡ true
        → (is_among key (xs ++ ys) ≡ true → (is_among key xs ≡ true) ⊎ (is_among key ys ≡ true))
        → ((if b then true else is_among key xs) ≡ true) ⊎ (is_among key ys ≡ true)
    by true e rest = inl refl
    by false e rest = rest e

module _ (p : node.Program) (accepted : IsProgram p) (addresses : Addresses) where
  abbrev pieces : ℕ → List Piece
  pieces = program_pieces addresses p

  abbrev Names : ℕ → List BuildOp → Type 0
  Names key ops = 1 ≤ in_all (names_key key) ops

  -- which capture has the key: a variable, or what is spliced in
  record Place (kinds : List CaptureKind) (captures : Captures) (key : ℕ) : Type 0 where
    capture : ℕ
    is : ((slice_get kinds capture ≡ Some kind.Variable) × (key_in_capture (capture_at captures capture) ≡ key))
        ⊎ ((answer : Answer) × (slice_get kinds capture ≡ Some (kind.Splice answer))
        × Names key (spliced_ops pieces captures capture))

  there : (tick : ℕ) (kinds : List CaptureKind) (captures : Captures) (key : ℕ)
      → slice_get accepted.captures tick ≡ Some kinds → Place kinds captures key → (t : node.TickBody)
      → slice_get p.ticks tick ≡ Some t → Names key (syntax_ops pieces (Ticked tick captures))
  there tick kinds captures key own place t at =
      let found : slice_get (ticks_of p) tick ≡ Some (tick_of_body t) =
      slice_get-map tick_of_body p.ticks tick ∙ ap (option_map tick_of_body) at in
      let ps : pieces tick ≡ tick_pieces addresses (tick_of_body t) = ap (λ z. pieces_at addresses z) found in
      let names = captures_named p accepted tick t kinds at own in
      ⊎_elim
      (λ v.
      let some = names.variables place.capture v.0 in
      let here = tick_names addresses t place.capture in
      let same = ap (λ z. all_names place.capture z) ps in
      let l = pieces_key captures (spliced_ops pieces captures) place.capture key v.1 (pieces tick) in
      omega (arith, some, here, same, l))
      (λ s.
      let some = names.splices place.capture s.0 s.1 in
      let here = tick_splices addresses t place.capture in
      let same = ap (λ z. splices place.capture z) ps in
      pieces_spliced captures (spliced_ops pieces captures) place.capture (names_key key) s.2 (pieces tick)
      (omega (arith, some, here, same)))
      place.is

  with_kinds : (tick : ℕ) (captures : Captures) (key : ℕ) (o : Option (List CaptureKind))
      → slice_get accepted.captures tick ≡ o → HasKindsAt o captures
      → ((kinds : List CaptureKind) → HasKinds kinds captures → Place kinds captures key)
      → Names key (syntax_ops pieces (Ticked tick captures))
  with_kinds tick captures key None own has place = absurd has
  with_kinds tick captures key (Some kinds) own has place = by (slice_get p.ticks tick) refl
    where
      by : (t : Option node.TickBody) → slice_get p.ticks tick ≡ t
          → Names key (syntax_ops pieces (Ticked tick captures))
      by None at = absurd (missing accepted.captures p.ticks tick kinds (sym accepted.each) own at)
      by (Some t) at = there tick kinds captures key own (place kinds has) t at

  later : (k : CaptureKind) (kinds : List CaptureKind) (first rest : Captures) (key : ℕ)
      → ((i : ℕ) → capture_at first (suc i) ≡ capture_at rest i)
      → ((i : ℕ) → spliced_ops pieces first (suc i) ≡ spliced_ops pieces rest i) → Place kinds rest key
      → Place (k ∷ kinds) first key
  later k kinds first rest key same ops place = record {
    capture = suc place.capture;
    is = ⊎_elim
        (λ v. inl (v.0, ap key_in_capture (same place.capture) ∙ v.1))
        (λ s. inr (s.0, s.1, subst (λ z. Names key z) (sym (ops place.capture)) s.2))
        place.is;
  }

  named_here : (kinds : List CaptureKind) (k : ℕ) (captures : Captures) (key : ℕ) (b : Bool) → nat_eq key k ≡ b
      → (if b then true else is_among key (keys_in captures)) ≡ true
      → (is_among key (keys_in captures) ≡ true → Place (kind.Variable ∷ kinds) (Named k captures) key)
      → Place (kind.Variable ∷ kinds) (Named k captures) key
  named_here kinds k captures key true e among rest =
      let same : k ≡ key = grind (arith, nat_tests) in record { capture = 0; is = inl (refl, same) }
  named_here kinds k captures key false e among rest = rest among

  mutual
    pub syntax_names : (syntax : Syntax) → HasTicks accepted.captures syntax → (key : ℕ)
        → is_among key (keys_of syntax) ≡ true → Names key (syntax_ops pieces syntax)
    syntax_names (Ticked tick captures) has key among =
        with_kinds tick captures key (slice_get accepted.captures tick) refl has.0
        (λ kinds own. place_of kinds captures own has.1 key among)

    place_of : (kinds : List CaptureKind) (captures : Captures) → HasKinds kinds captures
        → HaveTicks accepted.captures captures → (key : ℕ) → is_among key (keys_in captures) ≡ true
        → Place kinds captures key
    place_of [] NoCapture own has key among = absurd cc
    place_of (kind.Dollar ∷ kinds) (Word word captures) own has key among =
        later kind.Dollar kinds (Word word captures) captures key (λ i. refl) (λ i. refl)
        (place_of kinds captures own has key among)
    place_of (kind.Address ∷ kinds) (Word word captures) own has key among =
        later kind.Address kinds (Word word captures) captures key (λ i. refl) (λ i. refl)
        (place_of kinds captures own has key among)
    place_of (kind.Variable ∷ kinds) (Named k captures) own has key among =
        named_here kinds k captures key (nat_eq key k) refl among
        (λ h. later kind.Variable kinds (Named k captures) captures key (λ i. refl) (λ i. refl)
        (place_of kinds captures own has key h))
    place_of (kind.Splice r ∷ kinds) (Spliced syntax captures) own has key among =
        ⊎_elim
        (λ h. record { capture = 0; is = inr (r, refl, syntax_names syntax has.0 key h) })
        (λ h. later (kind.Splice r) kinds (Spliced syntax captures) captures key (λ i. refl) (λ i. refl)
        (place_of kinds captures own has.1 key h))
        (among_both key (keys_of syntax) (keys_in captures) among)
    place_of _ captures own has key among = absurd own

-- ---- a parameter that it names

pub record Parameter (keys : List ℕ) (parameters : ℕ) : Type 0 where
  pub key : ℕ
  pub among : is_among key keys ≡ true
  pub low : key < MOST_ARGUMENTS
  pub is : key < parameters

pub among_front : (key : ℕ) (xs ys : List ℕ) → is_among key xs ≡ true → is_among key (xs ++ ys) ≡ true
among_front key [] ys h = absurd cc
among_front key (x ∷ xs) ys h = by (nat_eq key x) h (among_front key xs ys)
  where
    by : (b : Bool) → (if b then true else is_among key xs) ≡ true
        → (is_among key xs ≡ true → is_among key (xs ++ ys) ≡ true)
        → (if b then true else is_among key (xs ++ ys)) ≡ true
    by true e rest = refl
    by false e rest = rest e

pub among_behind : (key : ℕ) (xs ys : List ℕ) → is_among key ys ≡ true → is_among key (xs ++ ys) ≡ true
among_behind key [] ys h = h
among_behind key (x ∷ xs) ys h = by (nat_eq key x) (among_behind key xs ys h)
  where
    by : (b : Bool) → is_among key (xs ++ ys) ≡ true → (if b then true else is_among key (xs ++ ys)) ≡ true
    by true e = refl
    by false e = e

one_of : (a b : ℕ) → 1 ≤ max a b → (1 ≤ a) ⊎ (1 ≤ b)
one_of zero b h = inr (omega (arith, h))
one_of (suc a) b h = inl (omega arith)

pub itself : (key : ℕ) (keys : List ℕ) → is_among key (key ∷ keys) ≡ true
itself key keys = let same : nat_eq key key ≡ true = grind (arith, nat_tests) in rw same refl

key_low : (key : ℕ) → 1 ≤ key_parameters key → (key < MOST_ARGUMENTS) × (key < key_parameters key)
key_low key some = by (nat_lt key MOST_ARGUMENTS) refl some
  where
    by : (b : Bool) → nat_lt key MOST_ARGUMENTS ≡ b → 1 ≤ (if b then suc key else 0)
        → (key < MOST_ARGUMENTS) × (key < (if b then suc key else 0))
    by true e h = (let low : key < MOST_ARGUMENTS = grind (arith, nat_tests) in low, omega arith)
    by false e h = absurd (omega (arith, h))

mutual
  pub parameter_there : (syntax : Syntax) → 1 ≤ parameters_of syntax → Parameter (keys_of syntax) (parameters_of syntax)
  parameter_there (Ticked tick captures) some = parameter_in captures some

  parameter_in : (captures : Captures) → 1 ≤ parameters_in captures
      → Parameter (keys_in captures) (parameters_in captures)
  parameter_in NoCapture some = absurd (omega (arith, some))
  parameter_in (Word word captures) some = parameter_in captures some
  parameter_in (Named key captures) some =
      ⊎_elim
      (λ h. let low = key_low key h in record {
        key = key;
        among = itself key (keys_in captures);
        low = low.0;
        is = omega (arith, low.1);
      })
      (λ h. let x = parameter_in captures h in record {
        key = x.key;
        among = among_behind x.key (key ∷ []) (keys_in captures) x.among;
        low = x.low;
        is = omega (arith, x.is);
      })
      (one_of (key_parameters key) (parameters_in captures) some)
  parameter_in (Spliced syntax captures) some =
      ⊎_elim
      (λ h. let x = parameter_there syntax h in record {
        key = x.key;
        among = among_front x.key (keys_of syntax) (keys_in captures) x.among;
        low = x.low;
        is = omega (arith, x.is);
      })
      (λ h. let x = parameter_in captures h in record {
        key = x.key;
        among = among_behind x.key (keys_of syntax) (keys_in captures) x.among;
        low = x.low;
        is = omega (arith, x.is);
      })
      (one_of (parameters_of syntax) (parameters_in captures) some)

key_few : (key : ℕ) → key_parameters key ≤ MOST_ARGUMENTS
key_few key = by (nat_lt key MOST_ARGUMENTS) refl
  where
    by : (b : Bool) → nat_lt key MOST_ARGUMENTS ≡ b → (if b then suc key else 0) ≤ MOST_ARGUMENTS
    by true e = let low : key < MOST_ARGUMENTS = grind (arith, nat_tests) in omega (arith, low)
    by false e = omega arith

mutual
  pub parameters_few : (syntax : Syntax) → parameters_of syntax ≤ MOST_ARGUMENTS
  parameters_few (Ticked tick captures) = all_parameters_few captures

  all_parameters_few : (captures : Captures) → parameters_in captures ≤ MOST_ARGUMENTS
  all_parameters_few NoCapture = omega arith
  all_parameters_few (Word word captures) = all_parameters_few captures
  all_parameters_few (Named key captures) = omega (arith, key_few key, all_parameters_few captures)
  all_parameters_few (Spliced syntax captures) = omega (arith, parameters_few syntax, all_parameters_few captures)
