-- What is true of the rows stays true where a specification is added, and is true of it.
use Rattle.std.proofs.Common.{◌≡◌, ℕ, zero, suc, ◌+◌, ◌<◌, ◌≤◌, length, List, [], ◌∷◌, ◌++◌, map, slice_get, refl}
use Rattle.std.proofs.Common.{ap, sym, subst, ◌∙◌, arith, ◌⊎◌, inl, inr, true, false, Some}
use Rattle.std.proofs.lemmas.Option.{slice_get_within}
use Rattle.history.specs.Syntax.{Captures}
use Rattle.history.specs.Syntax as syntax
use Rattle.limits.specs.declared.run.TheConstants.{CLOSURE_HEAD_BYTES}
use Rattle.word32.specs.declared.map.TheConstants.{ARENA_WORDS, CLOSURE_BYTES}
use Rattle.meaning_state.specs.Bodies.{AreSummed, charged}
use Rattle.meaning_state.proofs.Sums.{none_summed}
use Rattle.meaning_state.specs.Rows.{locals_of, numbered, parameters_in}
use Rattle.meaning_state.specs.Shared.{Specification}
use Rattle.staged_meaning.specs.Program.{Program, captures_size, tick_size}
use Rattle.staged_meaning.specs.Specifications.{syntax_in, specification_of}
use Rattle.eval_state.specs.KeptRows.{captures_kept, row_kept}
use Rattle.eval_state.specs.declared.state.Compiled.{Compiled}
use Rattle.eval_state.specs.declared.state.Kept.{Kept}
use Rattle.eval_state.specs.declared.state.Kept.TheVariants as code
use Rattle.eval_state.specs.declared.state.Entry.{Entry}
use Rattle.eval_state.specs.declared.state.Entry.TheVariants as entry
use Rattle.eval_state.specs.declared.state.Event.{Event}
use Rattle.eval_state.specs.declared.state.Event.TheVariants as event
use Rattle.eval_state.specs.declared.state.Parts.{Parts}
use Rattle.eval_state.specs.declared.state.Row.{Row}
use Rattle.eval_state.specs.Grown.{IsNew, with_row}
use Rattle.eval_state.specs.Run.{program_of}
use Rattle.eval_state.specs.Sound.{AreKnown, AreNamed, IsSound}
use Rattle.eval_state.specs.declared.state.RowKind.{RowKind}
use Rattle.eval_state.specs.declared.state.RowKind.TheVariants as kind
use Rattle.eval_state.specs.Kept.{compiled_view, kept_view, row_of, row_view, rows_view}
use Rattle.eval_state.specs.Specified.{AreEarlier, AreMade, AreRows, HasRows, IsCode, IsCounted, IsRow}
use Rattle.eval_state.proofs.Growth.{code_within, compiled_more, numbered_more}
use Rattle.eval_state.proofs.Rows.{count, rows_are}

-- ---- one more at the end of a list

pub got_before : {A : Type 0} (xs : List A) (x : A) (n : ℕ) → n < length xs → slice_get (xs ++ x ∷ []) n
    ≡ slice_get xs n
got_before [] x n h = absurd (omega (arith, h))
got_before (y ∷ xs) x zero h = refl
got_before (y ∷ xs) x (suc n) h = got_before xs x n (omega (arith, h))

pub got_last : {A : Type 0} (xs : List A) (x : A) → slice_get (xs ++ x ∷ []) (length xs) ≡ Some x
got_last [] x = refl
got_last (y ∷ xs) x = got_last xs x

-- a member of the longer list is one of the shorter, or the last
pub got_cases : {A : Type 0} (xs : List A) (x : A) (n : ℕ) (y : A) → slice_get (xs ++ x ∷ []) n ≡ Some y
    → (slice_get xs n ≡ Some y) ⊎ ((n ≡ length xs) × (y ≡ x))
got_cases [] x zero y h = inr (refl, same_some h)
  where
    same_some : {A : Type 0} {x y : A} → Some x ≡ Some y → y ≡ x
    same_some e = cc
got_cases [] x (suc n) y h = absurd (cc)
got_cases (z ∷ xs) x zero y h = inl h
got_cases (z ∷ xs) x (suc n) y h = go (got_cases xs x n y h)
  where
    go : (slice_get xs n ≡ Some y) ⊎ ((n ≡ length xs) × (y ≡ x)) → (slice_get xs n ≡ Some y)
        ⊎ ((suc n ≡ suc (length xs)) × (y ≡ x))
    go (inl e) = inl e
    go (inr e) = inr (ap suc e.0, e.1)

-- ---- what names earlier rows stays as it is

module _ (rows : List Specification) (s : Specification) where
  abbrev more : List Specification
  more = rows ++ s ∷ []

  pub captures_more : (n : ℕ) (kept : List Kept) → n ≤ length rows → AreEarlier rows n kept
      → captures_kept more (map kept_view kept) ≡ captures_kept rows (map kept_view kept)
  captures_more n [] h k = refl
  captures_more n (code.Word w ∷ kept) h k = ap (syntax.Word w) (captures_more n kept h k.1)
  captures_more n (code.Key key ∷ kept) h k = ap (syntax.Named key) (captures_more n kept h k.1)
  captures_more n (code.Number m ∷ kept) h k =
      ap (λ o. syntax.Spliced (syntax_in o) (captures_kept more (map kept_view kept)))
      (numbered_more m rows s (omega (arith, h, k.0.0)))
      ∙ ap (syntax.Spliced (syntax_in (numbered m rows))) (captures_more n kept h k.1)

  row_more : (kind : RowKind) (tick n : ℕ) (kept : List Kept) → n ≤ length rows → AreEarlier rows n kept
      → row_kept more (row_of kind tick (map kept_view kept)) ≡ row_kept rows (row_of kind tick (map kept_view kept))
  row_more kind.Expression tick n kept h k =
      ap (λ c. specification_of true (syntax.Ticked tick c)) (captures_more n kept h k)
  row_more kind.Statement tick n kept h k =
      ap (λ c. specification_of false (syntax.Ticked tick c)) (captures_more n kept h k)
  row_more kind.Local tick n kept h k = refl
  row_more (kind.Param i) tick n kept h k = refl

  is_code_more : (m : ℕ) → m ≤ length rows → IsCode (numbered m rows) → IsCode (numbered m more)
  is_code_more m h k = subst IsCode (sym (numbered_more m rows s h)) k

  earlier_more : (n : ℕ) (kept : List Kept) → n ≤ length rows → AreEarlier rows n kept → AreEarlier more n kept
  earlier_more n [] h k = tt
  earlier_more n (code.Word w ∷ kept) h k = (tt, earlier_more n kept h k.1)
  earlier_more n (code.Key key ∷ kept) h k = (tt, earlier_more n kept h k.1)
  earlier_more n (code.Number m ∷ kept) h k =
      ((k.0.0, is_code_more m (omega (arith, h, k.0.0)) k.0.1), earlier_more n kept h k.1)

  counted_more : (program : Program) (kind : RowKind) (row : Row)
      → captures_kept more (map kept_view row.kept) ≡ captures_kept rows (map kept_view row.kept)
      → IsCounted program rows kind row → IsCounted program more kind row
  counted_more program kind.Expression row e h =
      subst (λ c. (row.size ≡ tick_size (slice_get program.ticks row.tick) + captures_size program c)
      × (row.parameters ≡ parameters_in c)) (sym e) h
  counted_more program kind.Statement row e h =
      subst (λ c. (row.size ≡ tick_size (slice_get program.ticks row.tick) + captures_size program c)
      × (row.parameters ≡ parameters_in c)) (sym e) h
  counted_more program kind.Local row e h = h
  counted_more program (kind.Param i) row e h = h

  is_row_more : (program : Program) (n : ℕ) (row : Row) → n ≤ length rows → IsRow program rows n row
      → IsRow program more n row
  is_row_more program n row h r = record {
    earlier = earlier_more n row.kept h r.earlier;
    counted = counted_more program row.kind row (captures_more n row.kept h r.earlier) r.counted;
    small = r.small;
  }

  made_more : (ms : List Compiled) → AreMade rows ms → AreMade more ms
  made_more [] h = tt
  made_more (m ∷ ms) h =
      let same = numbered_more m.row rows s (code_within m.row rows h.0.0) in
      ((subst IsCode (sym same) h.0.0, h.0.1 ∙ ap (λ o. locals_of (syntax_in o)) (sym same)), made_more ms h.1)

  -- rows that are there, and one more
  each_more : (program : Program) (list : List Row) (row : Row) → length rows ≡ length list
      → s ≡ row_kept rows (row_view row) → IsRow program rows (length rows) row → AreRows program rows list
      → AreRows program more (list ++ row ∷ [])
  each_more program list row l e new h n r k = go (got_cases list row n r k)
    where
      go : (slice_get list n ≡ Some r) ⊎ ((n ≡ length list) × (r ≡ row))
          → (slice_get more n ≡ Some (row_kept more (row_view r))) × IsRow program more n r
      go (inl old) =
          let small : n < length rows = omega (arith, l, slice_get_within list n r old) in
          let old_row = (h n r old).1 in (
            got_before rows s n small ∙ (h n r old).0
                ∙ ap Some (sym (row_more r.kind r.tick n r.kept (omega (arith, small)) old_row.earlier)),
            is_row_more program n r (omega (arith, small)) old_row,
          )
      go (inr last) =
          let at : n ≡ length rows = last.0 ∙ sym l in
          let is_last : slice_get more (length rows) ≡ Some (row_kept more (row_view row)) =
          got_last rows s ∙ ap Some e
          ∙ ap Some (sym (row_more row.kind row.tick (length rows) row.kept (omega arith) new.earlier)) in
          let fresh = is_row_more program (length rows) row (omega arith) new in
          subst (λ (m : ℕ). (slice_get more m ≡ Some (row_kept more (row_view r))) × IsRow program more m r) (sym at)
          (subst (λ (q : Row). (slice_get more (length rows) ≡ Some (row_kept more (row_view q)))
          × IsRow program more (length rows) q) (sym last.1) (is_last, fresh))

length_more : (rows : List Row) (row : Row) → length (rows ++ row ∷ []) ≡ suc (length rows)
length_more [] row = refl
length_more (r ∷ rows) row = ap suc (length_more rows row)

-- a specification more, whose closure has so many bytes
pub has_row_more : (program : Program) (list : List Row) (closures : ℕ) (compiled : List Compiled) (arena : ℕ)
    (row : Row) (bytes : ℕ) → HasRows program list closures compiled arena
    → IsRow program (rows_view list) (length (rows_view list)) row
    → CLOSURE_HEAD_BYTES ≤ bytes → closures + bytes ≤ CLOSURE_BYTES
    → HasRows program (list ++ row ∷ []) (closures + bytes) compiled arena
has_row_more program list closures compiled arena row bytes h new head most =
    let rows = rows_view list in
    let s = row_kept rows (row_view row) in
    let same = sym (rows_are list row) in
    let longer = length_more list row in
    record {
      each = subst (λ (rs : List Specification). AreRows program rs (list ++ row ∷ [])) same
          (each_more rows s program list row (sym (count list)) refl new h.each);
      made = subst (λ (rs : List Specification). AreMade rs compiled) same (made_more rows s compiled h.made);
      count = omega (arith, longer, h.count, head);
      closure_bytes = most;
      arena_words = h.arena_words;
      bodies = subst (λ (rs : List Specification). AreSummed ARENA_WORDS (map (compiled_view rs) compiled)) same
          (subst (AreSummed ARENA_WORDS) (sym (compiled_more compiled rows s h.made)) h.bodies);
      words = ap (λ (rs : List Specification). charged (map (compiled_view rs) compiled)) (rows_are list row)
          ∙ ap charged (compiled_more compiled rows s h.made)
          ∙ h.words;
    }

-- at the beginning there are none
pub first_rows : (program : Program) → HasRows program [] 0 [] 0
first_rows program = record {
  each = λ n row h. absurd (none n row h);
  made = tt;
  count = omega arith;
  closure_bytes = omega arith;
  arena_words = omega arith;
  bodies = none_summed ARENA_WORDS;
  words = refl;
}
  where
    none : (n : ℕ) (row : Row) → slice_get [] n ≡ Some row → ⊥
    none n row h = cc

-- what is named among so many is named among more
named_up : (n m : ℕ) (es : List Entry) → n ≤ m → AreNamed n es → AreNamed m es
named_up n m [] h k = tt
named_up n m (entry.Inside f ∷ es) h k = (tt, named_up n m es h k.1)
named_up n m (entry.Called a charge b ∷ es) h k = (omega (arith, h, k.0), named_up n m es h k.1)
named_up n m (entry.Spliced a vs object row ∷ es) h k = (omega (arith, h, k.0), named_up n m es h k.1)

known_up : (n m : ℕ) (es : List Event) → n ≤ m → AreKnown n es → AreKnown m es
known_up n m [] h k = tt
known_up n m (event.Out b ∷ es) h k = (tt, known_up n m es h k.1)
known_up n m (event.In w ∷ es) h k = (tt, known_up n m es h k.1)
known_up n m (event.Made f row ∷ es) h k = (omega (arith, h, k.0), known_up n m es h k.1)
known_up n m (event.Entered f ∷ es) h k = (tt, known_up n m es h k.1)

-- so the parts are sound with a row more
pub sound_with_row : (p : Parts) (row : Row) (bytes : ℕ) → IsSound p → IsNew p row → CLOSURE_HEAD_BYTES ≤ bytes
    → p.closures + bytes ≤ CLOSURE_BYTES → IsSound (with_row row bytes p)
sound_with_row p row bytes h new head most =
    let n = length p.rows in
    let m = length (p.rows ++ row ∷ []) in
    let more : n ≤ m = omega (arith, length_more p.rows row) in (
      omega (arith, more, h.0),
      named_up n m p.entries more h.1,
      known_up n m p.events more h.2,
      has_row_more (program_of p) p.rows p.closures p.compiled p.arena row bytes h.3 new head most,
      h.4,
      h.5,
    )
