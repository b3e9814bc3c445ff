-- The second pass: what is made of the first functions of a plan grows by the next.
use Rattle.std.proofs.Common.{◌≡◌, ℕ, zero, suc, ◌+◌, ◌*◌, ◌<◌, ◌≤◌, Bool, true, false, List, [], ◌∷◌, ◌++◌}
use Rattle.std.proofs.Common.{length, map, take, drop, append_assoc, append-nil, length-append}
use Rattle.std.proofs.Common.{get_or, slice_index, slice_index_or, refl, sym, ap, ◌∙◌, subst, arith, add-one}
use Rattle.std.proofs.lemmas.List.{get_or-map}
use Rattle.word32.specs.declared.map.TheConstants.{ARENA, FUNCTIONS}
use Rattle.image_file.specs.declared.image.FunctionEntry.{FunctionEntry}
use Rattle.icode_ir.specs.Sound.{Each}
use Rattle.typed_tree.specs.Nodes.{Function}
use Rattle.staged_meaning.specs.Program.{Tick}
use Rattle.typed_tree.specs.declared.expression.CaptureKind.{CaptureKind}
use Rattle.tick_lower_spec.specs.Lower.{Addresses, listed}
use Rattle.static_image.specs.Layout.{Placed, words_of, words_from, rows_of, behind, unknown, functions_of}
use Rattle.static_image.specs.Layout.{ends, function_starts, generator_starts, addresses_of, IsLegalChoice}
use Rattle.static_image.specs.Served.{IsStatic, most_words, AreStatic}
use Rattle.static_image.proofs.Anywhere.{legal_anywhere}
use Rattle.static_image.proofs.Placing.{ends_at, ends_most, each_static, starts_low, length_is}
use Rattle.static_backend.specs.Scanned.{IsPlan, AreWritten}
use Rattle.static_backend.specs.Drafted.{AreDrafted, IsDraft, Rewritten}
use Rattle.static_backend.proofs.Grown.{entry, words_more, rows_more, ends_more, start_at, length_starts}
use Rattle.static_backend.proofs.Grown.{length_functions}
use Rattle.static_backend.proofs.Drafts.{drafted_long}
use Rattle.static_backend.proofs.Planned.{end_at}

-- the words of the first functions, with those of the others as the first pass left them, and the rows of the first,
-- where calls go to these addresses
pub record HasCode (d : Addresses) (i : ℕ) (xs : List Placed) (made : List Bool) (words : List ℕ)
    (rows : List FunctionEntry) : Type 0 where
  pub rest : List ℕ
  pub words_are : words ≡ words_from d FUNCTIONS (take i xs) ++ rest
  pub rest_is : AreDrafted d (ends FUNCTIONS (take i xs)) (drop i xs) (drop i made) rest
  pub rows_are : rows ≡ rows_of FUNCTIONS (take i xs)

legal_all : (d : Addresses) (xs : List Placed) → Each (IsLegalChoice unknown) xs →
    Each (IsLegalChoice d) xs
legal_all d [] h = tt
legal_all d (x ∷ xs) h = (legal_anywhere unknown d x h.0, legal_all d xs h.1)

taken_more : (i : ℕ) (xs : List Placed) (x : Placed) → i < length xs → take (suc i) xs ≡ take i xs ++ get_or xs i x ∷ []
taken_more i [] x low = absurd (omega (arith, low))
taken_more zero (y ∷ ys) x low = refl
taken_more (suc i) (y ∷ ys) x low = ap (λ zs. y ∷ zs) (taken_more i ys x (omega (arith, low)))

dropped : (i : ℕ) (xs : List Placed) (x : Placed) → i < length xs → drop i xs ≡ get_or xs i x ∷ drop (suc i) xs
dropped i [] x low = absurd (omega (arith, low))
dropped zero (y ∷ ys) x low = refl
dropped (suc i) (y ∷ ys) x low = dropped i ys x (omega (arith, low))

dropped_made : (i : ℕ) (ms : List Bool) (m : Bool) → i < length ms → m ≡ get_or ms i m →
    drop i ms ≡ m ∷ drop (suc i) ms
dropped_made i [] m low is = absurd (omega (arith, low))
dropped_made zero (y ∷ ys) m low is = ap (λ (z : Bool). z ∷ ys) (sym is)
dropped_made (suc i) (y ∷ ys) m low is = dropped_made i ys m (omega (arith, low)) is

dropped_all : {A : Type 0} (i : ℕ) (xs : List A) → length xs ≤ i → drop i xs ≡ []
dropped_all zero [] h = refl
dropped_all (suc i) [] h = refl
dropped_all zero (x ∷ xs) h = absurd (omega (arith, h))
dropped_all (suc i) (x ∷ xs) h = dropped_all i xs (omega (arith, h))

front_taken : (xs ys : List ℕ) → take (length xs) (xs ++ ys) ≡ xs
front_taken [] ys = refl
front_taken (x ∷ xs) ys = ap (λ (zs : List ℕ). x ∷ zs) (front_taken xs ys)

front_dropped : (xs ys : List ℕ) → drop (length xs) (xs ++ ys) ≡ ys
front_dropped [] ys = refl
front_dropped (x ∷ xs) ys = front_dropped xs ys

written : (m : Bool) (done piece rest own own' words words' : List ℕ) → words ≡ done ++ (piece ++ rest)
    → length piece ≡ length own → own' ≡ own → (m ≡ true → piece ≡ own)
    → Rewritten m (length done) own' words words' → words' ≡ done ++ (own ++ rest)
written true done piece rest own own' words words' old long is same w =
    w ∙ old ∙ ap (λ (ps : List ℕ). done ++ (ps ++ rest)) (same refl)
written false done piece rest own own' words words' old long is same w =
    let n = length done in
    let tail : drop n words ≡ piece ++ rest =
    ap (λ (ws : List ℕ). drop n ws) old ∙ front_dropped done (piece ++ rest) in
    w ∙ ap (λ (ws : List ℕ). ws ++ (own' ++ drop (length own') (drop n words)))
    (ap (λ (ws : List ℕ). take n ws) old ∙ front_taken done (piece ++ rest))
    ∙ ap (λ (os : List ℕ). done ++ (os ++ drop (length os) (drop n words))) is
    ∙ ap (λ (ws : List ℕ). done ++ (own ++ drop (length own) ws)) tail
    ∙ ap (λ (k : ℕ). done ++ (own ++ drop k (piece ++ rest))) (sym long)
    ∙ ap (λ (ws : List ℕ). done ++ (own ++ ws)) (front_dropped piece rest)

ends_parts : (at i : ℕ) (xs : List Placed) → ends at xs ≡ ends (ends at (take i xs)) (drop i xs)
ends_parts at zero xs = refl
ends_parts at (suc i) [] = refl
ends_parts at (suc i) (x ∷ xs) = ends_parts (behind at x) i xs

-- an element that there is, whatever is said for one that there isn't
read : (i : ℕ) (ms : List Bool) (m : Bool) → i < length ms → get_or ms i m ≡ get_or ms i (get_or ms i m)
read i [] m low = absurd (omega (arith, low))
read zero (y ∷ ys) m low = refl
read (suc i) (y ∷ ys) m low = read i ys m (omega (arith, low))

taken_all : (i : ℕ) (xs : List Placed) → length xs ≤ i → take i xs ≡ xs
taken_all zero [] h = refl
taken_all (suc i) [] h = refl
taken_all zero (x ∷ xs) h = absurd (omega (arith, h))
taken_all (suc i) (x ∷ xs) h = ap (λ ys. x ∷ ys) (taken_all i xs (omega (arith, h)))

module _ (fs : List Function) (xs : List Placed) (addresses : List ℕ) (places : List (List ℕ)) (end : ℕ)
    (functions_are : functions_of xs ≡ fs) (plan : IsPlan xs addresses places end) (ticks : List Tick)
    (made_at : List ℕ)
    (made_are : made_at ≡ generator_starts addresses end ticks) where
  -- all addresses
  abbrev pub all_known : Addresses
  all_known = listed addresses made_at ticks

  all_are : all_known ≡ addresses_of ticks xs
  all_are =
      ap (λ gs. listed addresses gs ticks) made_are
      ∙ ap (λ ss. listed ss (generator_starts ss end ticks) ticks) plan.addresses_are
      ∙ ap (λ e. listed (function_starts xs) (generator_starts (function_starts xs) e ticks) ticks)
      (end_at xs addresses places end plan)

  pub many : length xs ≡ length fs
  many = sym (length_functions xs) ∙ ap length functions_are

  -- there is an address and there are places for each
  pub many_addresses : length addresses ≡ length fs
  many_addresses = ap length plan.addresses_are ∙ length_starts FUNCTIONS xs ∙ many

  length_places : (ys : List Placed) → length (map (λ (y : Placed). y.places) ys) ≡ length ys
  length_places [] = refl
  length_places (y ∷ ys) = ap suc (length_places ys)

  pub many_places : length places ≡ length fs
  many_places = ap length plan.places_are ∙ length_places xs ∙ many

  -- the addresses are low
  pub addresses_low : (i : ℕ) → (captures : List (List CaptureKind)) → AreStatic fs captures ticks →
      slice_index addresses i ≤ ARENA
  addresses_low i captures static =
      let all = each_static fs captures xs (subst (Each (IsStatic fs captures)) (sym functions_are) static.each) in
      let same = ap (λ ss. slice_index ss i) plan.addresses_are in
      omega (
        arith,
        same,
        starts_low FUNCTIONS xs i,
        ends_most fs captures FUNCTIONS xs all,
        ap most_words functions_are,
        static.room,
      )

  abbrev placed_at : ℕ → Function → Placed
  placed_at i f = record { function = f; places = slice_index_or places i [] }

  found : (i : ℕ) (f : Function) → i < length fs → f ≡ get_or fs i f → get_or xs i (placed_at i f) ≡ placed_at i f
  found i f within is =
      let x = get_or xs i (placed_at i f) in
      let i_in : i < length xs = omega (arith, within, many) in
      let function : x.function ≡ f =
      sym (get_or-map (λ (y : Placed). y.function) xs i (placed_at i f) f i_in)
      ∙ ap (λ (gs : List Function). get_or gs i f) functions_are ∙ sym is in
      let place : x.places ≡ slice_index_or places i [] =
      sym (get_or-map (λ (y : Placed). y.places) xs i (placed_at i f) [] i_in)
      ∙ ap (λ (ps : List (List ℕ)). get_or ps i []) (sym plan.places_are) in
      ap (λ g. record { function = g; places = x.places }) function
      ∙ ap (λ ps. record { function = f; places = ps }) place

  front_more : (i : ℕ) (f : Function) → i < length fs → f ≡ get_or fs i f →
      take (suc i) xs ≡ take i xs ++ placed_at i f ∷ []
  front_more i f within is =
      taken_more i xs (placed_at i f) (omega (arith, within, many))
      ∙ ap (λ (y : Placed). take i xs ++ y ∷ []) (found i f within is)

  pub first_code : (made : List Bool) (words : List ℕ) (rows : List FunctionEntry) → IsDraft ticks xs made words →
      rows ≡ []
      → HasCode all_known 0 xs made words rows
  first_code made words rows draft r =
      record {
        rest = words;
        words_are = refl;
        rest_is = subst (λ (d : Addresses). AreDrafted d FUNCTIONS xs made words) (sym all_are)
            (subst (λ (ys : List Placed). AreDrafted (addresses_of ticks ys) FUNCTIONS xs made words) (append-nil xs)
            (draft []));
        rows_are = r;
      }

  -- the piece of the next function, and what is behind it
  abbrev pub Piece : (i : ℕ) (x : Placed) (m : Bool) (made : List Bool) (rest : List ℕ) → Type 0
  Piece i x m made rest = AreDrafted all_known (ends FUNCTIONS (take i xs)) (x ∷ drop (suc i) xs)
      (m ∷ drop (suc i) made) rest

  piece_of : (i : ℕ) (f : Function) (m : Bool) (made : List Bool) (words : List ℕ) (rows : List FunctionEntry)
      → i < length fs → f ≡ get_or fs i f → i < length made → m ≡ get_or made i m
      → (code : HasCode all_known i xs made words rows) → Piece i (placed_at i f) m made code.rest
  piece_of i f m made words rows within is low m_is code =
      let x = placed_at i f in
      let d = all_known in
      let at = ends FUNCTIONS (take i xs) in
      let one : drop i xs ≡ x ∷ drop (suc i) xs =
      dropped i xs x (omega (arith, within, many)) ∙ ap (λ (y : Placed). y ∷ drop (suc i) xs) (found i f within is) in
      subst (λ (ms : List Bool). AreDrafted d at (x ∷ drop (suc i) xs) ms code.rest)
      (dropped_made i made m low m_is)
      (subst (λ (ys : List Placed). AreDrafted d at ys (drop i made) code.rest) one code.rest_is)

  module _ (i : ℕ) (f : Function) (made : List Bool) (words : List ℕ) (rows : List FunctionEntry)
      (within : i < length fs) (is : f ≡ get_or fs i f) (counted : length made ≡ length xs)
      (code : HasCode all_known i xs made words rows) where
    -- where the next function's words begin, counted in words
    abbrev pub first : ℕ
    first = length (words_from all_known FUNCTIONS (take i xs))

    pub first_is : slice_index addresses i ≡ FUNCTIONS + 4 * first
    first_is =
        ap (λ (ss : List ℕ). slice_index ss i) plan.addresses_are
        ∙ start_at FUNCTIONS xs i (omega (arith, within, many)) ∙
        ends_at all_known FUNCTIONS (take i xs)

    pub within_made : i < length made
    within_made = omega (arith, within, many, counted)

    abbrev pub flag : Bool
    flag = slice_index_or made i true

    next_piece : Piece i (placed_at i f) flag made code.rest
    next_piece = piece_of i f flag made words rows within is within_made (read i made true within_made) code

    -- there is room for them
    pub room : first + length (words_of all_known (slice_index addresses i) (placed_at i f)) ≤ length
        words
    room =
        let p = next_piece in
        let d = all_known in
        omega (
          arith,
          ap length code.words_are,
          length-append (words_from d FUNCTIONS (take i xs)) code.rest,
          ap length p.2,
          length-append p.0 p.1,
          p.3,
          length_is d (slice_index addresses i) (placed_at i f),
        )

    -- all words are low
    pub words_low : (captures : List (List CaptureKind)) → AreStatic fs captures ticks →
        FUNCTIONS + 4 * length words ≤ ARENA
    words_low captures static =
        let all = each_static fs captures xs (subst (Each (IsStatic fs captures)) (sym functions_are) static.each) in
        let d = all_known in
        let front = take i xs in
        omega (
          arith,
          ap length code.words_are,
          length-append (words_from d FUNCTIONS front) code.rest,
          ends_at d FUNCTIONS front,
          drafted_long d (ends FUNCTIONS front) (drop i xs) (drop i made) code.rest code.rest_is,
          ends_parts FUNCTIONS i xs,
          ends_most fs captures FUNCTIONS xs all,
          ap most_words functions_are,
          static.room,
        )

  pub next_code : (i : ℕ) (f : Function) (made : List Bool) (words words' : List ℕ) (rows rows' : List FunctionEntry)
      → i < length fs → f ≡ get_or fs i f → length made ≡ length xs
      → Rewritten (slice_index_or made i true) (length (words_from all_known FUNCTIONS (take i xs)))
      (words_of all_known (slice_index addresses i) (placed_at i f)) words words'
      → rows' ≡ rows ++ entry (slice_index addresses i) f.parameters ∷ []
      → HasCode all_known i xs made words rows →
      HasCode all_known (i + 1) xs made words' rows'
  next_code i f made words words' rows rows' within is counted w r code =
      let m = slice_index_or made i true in
      let low : i < length made = omega (arith, within, many, counted) in
      let m_is = read i made true low in
      let x = placed_at i f in
      let d = all_known in
      let front = take i xs in
      let done = words_from d FUNCTIONS front in
      let inside : i < length xs = omega (arith, within, many) in
      let at : slice_index addresses i ≡ ends FUNCTIONS front =
      ap (λ (ss : List ℕ). slice_index ss i) plan.addresses_are ∙ start_at FUNCTIONS xs i inside in
      let own = words_of d (ends FUNCTIONS front) x in
      let p = piece_of i f m made words rows within is low m_is code in
      let own_is : words_of d (slice_index addresses i) x ≡ own = ap (λ (a : ℕ). words_of d a x) at in
      let long : length p.0 ≡ length own = p.3 ∙ sym (length_is d (ends FUNCTIONS front) x) in
      let old : words ≡ done ++ (p.0 ++ p.1) = code.words_are ∙ ap (λ (ws : List ℕ). done ++ ws) p.2 in
      let new : words' ≡ done ++ (own ++ p.1) =
      written m done p.0 p.1 own (words_of d (slice_index addresses i) x) words words' old long own_is
      (λ made_so. p.4 made_so) w in
      let more = front_more i f within is in
      subst (λ n. HasCode d n xs made words' rows') (sym (add-one i)) (record {
        rest = p.1;
        words_are = new ∙ sym (append_assoc done own p.1)
            ∙ ap (λ (ws : List ℕ). ws ++ p.1)
            (sym (words_more d FUNCTIONS front x) ∙ ap (λ (ys : List Placed). words_from d FUNCTIONS ys) (sym more));
        rest_is = subst (λ (a : ℕ). AreDrafted d a (drop (suc i) xs) (drop (suc i) made) p.1)
            (sym (ends_more FUNCTIONS front x) ∙ ap (λ (ys : List Placed). ends FUNCTIONS ys) (sym more)) p.5;
        rows_are = r ∙ ap (λ rs. rs ++ entry (slice_index addresses i) f.parameters ∷ []) code.rows_are
            ∙ ap (λ a. rows_of FUNCTIONS front ++ entry a f.parameters ∷ []) at ∙ sym (rows_more FUNCTIONS front x)
            ∙ ap (λ (ys : List Placed). rows_of FUNCTIONS ys) (sym more);
      })

  pub last_code : (i : ℕ) (made : List Bool) (words : List ℕ) (rows : List FunctionEntry) → length fs ≤ i →
      HasCode all_known i xs made words rows → AreWritten fs ticks addresses words rows
  last_code i made words rows past code =
      let all = taken_all i xs (omega (arith, past, many)) in
      let none = dropped_all i xs (omega (arith, past, many)) in
      let d = all_known in
      let front = words_from d FUNCTIONS (take i xs) in
      let at = ends FUNCTIONS (take i xs) in
      let ended : code.rest ≡ [] =
      subst (λ (ys : List Placed). AreDrafted d at ys (drop i made) code.rest) none code.rest_is in
      record {
        placed = xs;
        each = plan.each;
        choice = record { same = functions_are; legal = legal_all (addresses_of ticks xs) xs plan.legal };
        starts_are = plan.addresses_are;
        words_are = code.words_are ∙ ap (λ (ws : List ℕ). front ++ ws) ended ∙ append-nil front
            ∙ ap (words_from d FUNCTIONS) all ∙ ap (λ a. words_from a FUNCTIONS xs) all_are;
        rows_are = code.rows_are ∙ ap (rows_of FUNCTIONS) all;
      }
