-- What a number names, and what the code that is active captured: it is read off the row that is kept.
use Rattle.std.proofs.Common.{◌≡◌, ℕ, zero, suc, ◌+◌, ◌<◌, ◌≤◌, length, List, [], ◌∷◌, ◌++◌, map, slice_get, refl}
use Rattle.std.proofs.Common.{min, drop, get_or, Bool, if◌then◌else◌}
use Rattle.std.proofs.Common.{ap, sym, ◌∙◌, arith, Option, Some, None, true, false}
use Rattle.std.proofs.lemmas.Option.{slice_get-map, slice_get_past, slice_get_within}
use Rattle.std.specs.Option.{option_map}
use Rattle.typed_tree.specs.declared.expression.CaptureKind.{CaptureKind}
use Rattle.typed_tree.specs.declared.expression.CaptureKind.TheVariants as capture
use Rattle.typed_tree.specs.declared.expression.Answer.TheVariants as answer
use Rattle.meaning_state.specs.Rows.{numbered}
use Rattle.meaning_state.specs.Shared.{Specification}
use Rattle.meaning_state.specs.Shared as shared
use Rattle.typed_tree.specs.declared.expression.Answer.{Answer}
use Rattle.word32.specs.declared.map.TheConstants.{CLOSURE_BYTES}
use Rattle.std.proofs.Common.{◌⊎◌, inl, inr, append_assoc}
use Rattle.std.proofs.lemmas.List.{map-append}
use Rattle.staged_meaning.specs.Expressions.{key_of, word_of}
use Rattle.staged_meaning.specs.Program.{Program}
use Rattle.staged_meaning.specs.Specifications.{captures_trap, fits, key_in, kind_of, kinds_of}
use Rattle.eval_state.specs.KeptRows as kept
use Rattle.host_edge.specs.declared.ending.TrapKind.{TrapKind}
use Rattle.host_edge.specs.declared.ending.TrapKind.TheVariants.{BadSpec}
use Rattle.typed_tree.specs.declared.expression.Expr.{Expr}
use Rattle.typed_tree.specs.View.{expr_view}
use Rattle.eval_state.specs.Views.{args_view}
use Rattle.eval_state.specs.KeptRows.{all_kept, captures_kept, key_kept, kept_of, row_kept, splice_kept, word_kept}
use Rattle.eval_state.specs.Moves as moves
use Rattle.eval_state.proofs.KeptRows.{key_is_kept, splice_is_kept, word_is_kept}
use Rattle.eval_state.specs.declared.state.Kept.{Kept}
use Rattle.eval_state.specs.declared.state.Kept.TheVariants as code
use Rattle.eval_state.specs.declared.state.Parts.{Parts}
use Rattle.eval_state.specs.declared.state.Row.{Row}
use Rattle.eval_state.specs.declared.state.RowKind.{RowKind}
use Rattle.eval_state.specs.declared.state.RowKind.TheVariants as kind
use Rattle.eval_state.specs.Kept.{captures_in, kept_view, row_of, row_view, rows_view}
use Rattle.eval_state.specs.Numbered.{kept_at, kept_in, kind_in, of_kind}
use Rattle.eval_state.specs.Run.{here, program_of, run_of}
use Rattle.eval_state.specs.Sound.{IsSound}
use Rattle.eval_state.specs.Specified.{AreEarlier, AreRows, IsCode, IsCounted, IsEarlier}
use Rattle.eval_state.proofs.Rows.{count}

-- ---- the row of a number is its specification's

pub row_named : (program : Program) (list : List Row) (n : ℕ) (row : Row) → AreRows program (rows_view list) list
    → numbered n list ≡ Some row
    → numbered n (rows_view list) ≡ Some (row_kept (rows_view list) (row_view row))
row_named program list zero row h e = absurd (cc)
row_named program list (suc n) row h e = (h n row e).0

pub row_counted : (program : Program) (list : List Row) (n : ℕ) (row : Row) → AreRows program (rows_view list) list
    → numbered n list ≡ Some row → IsCounted program (rows_view list) row.kind row
row_counted program list zero row h e = absurd (cc)
row_counted program list (suc n) row h e = (h n row e).1.counted

pub none_named : (list : List Row) (n : ℕ) → numbered n list ≡ None → numbered n (rows_view list) ≡ None
none_named list zero e = refl
none_named list (suc n) e = slice_get_past (rows_view list) n (omega (arith, count list, past list n e))
  where
    past : (list : List Row) (n : ℕ) → slice_get list n ≡ None → length list ≤ n
    past [] n e = omega arith
    past (r ∷ list) zero e = absurd (cc)
    past (r ∷ list) (suc n) e = omega (arith, past list n e)

-- ---- its captures

captures_of_kind : (program : Program) (rows : List Specification) (k : RowKind) (row : Row)
    → IsCounted program rows k row
    → captures_in (Some (row_kept rows (row_of k row.tick (map kept_view row.kept))))
    ≡ captures_kept rows (map kept_view row.kept)
captures_of_kind program rows kind.Expression row h = refl
captures_of_kind program rows kind.Statement row h = refl
captures_of_kind program rows kind.Local row h = ap (λ kept. captures_kept rows (map kept_view kept)) (sym h)
captures_of_kind program rows (kind.Param i) row h = ap (λ kept. captures_kept rows (map kept_view kept)) (sym h)

pub captures_named : (program : Program) (list : List Row) (n : ℕ) → AreRows program (rows_view list) list
    → captures_in (numbered n (rows_view list)) ≡ captures_kept (rows_view list)
    (map kept_view (kept_in (numbered n list)))
captures_named program list n h = go (numbered n list) refl
  where
    go : (o : Option Row) → numbered n list ≡ o
        → captures_in (numbered n (rows_view list)) ≡ captures_kept (rows_view list)
        (map kept_view (kept_in (numbered n list)))
    go None e = ap captures_in (none_named list n e)
        ∙ ap (λ o. captures_kept (rows_view list) (map kept_view (kept_in o))) (sym e)
    go (Some row) e = ap captures_in (row_named program list n row h e)
        ∙ captures_of_kind program (rows_view list) row.kind row (row_counted program list n row h e)
        ∙ ap (λ o. captures_kept (rows_view list) (map kept_view (kept_in o))) (sym e)

-- what the code that is active captured
pub captures_here : (p : Parts) → IsSound p
    → (here (run_of p)).captures ≡ captures_kept (rows_view p.rows) (map kept_view
    (kept_in (numbered p.body.row p.rows)))
unfolding run_of
captures_here p sound = captures_named (program_of p) p.rows p.body.row sound.3.each

pub word_here : (p : Parts) (i : ℕ) → IsSound p → word_of (here (run_of p)).captures i
    ≡ word_kept (option_map kept_view (kept_at p i))
word_here p i sound =
    ap (λ c. word_of c i) (captures_here p sound)
    ∙ word_is_kept (rows_view p.rows) (map kept_view (kept_in (numbered p.body.row p.rows))) i
    ∙ ap word_kept (slice_get-map kept_view (kept_in (numbered p.body.row p.rows)) i)

pub key_here : (p : Parts) (i : ℕ) → IsSound p → key_of (here (run_of p)).captures i
    ≡ key_kept (option_map kept_view (kept_at p i))
key_here p i sound =
    ap (λ c. key_of c i) (captures_here p sound)
    ∙ key_is_kept (rows_view p.rows) (map kept_view (kept_in (numbered p.body.row p.rows))) i
    ∙ ap key_kept (slice_get-map kept_view (kept_in (numbered p.body.row p.rows)) i)

pub splice_here : (p : Parts) (i : ℕ) → IsSound p → moves.syntax_at (here (run_of p)).captures i
    ≡ splice_kept (rows_view p.rows) (option_map kept_view (kept_at p i))
splice_here p i sound =
    ap (λ c. moves.syntax_at c i) (captures_here p sound)
    ∙ splice_is_kept (rows_view p.rows) (map kept_view (kept_in (numbered p.body.row p.rows))) i
    ∙ ap (splice_kept (rows_view p.rows)) (slice_get-map kept_view (kept_in (numbered p.body.row p.rows)) i)

-- ---- whether a word may name it

fits_of_kind : (c : CaptureKind) (k : RowKind) (rows : List Specification) (tick : ℕ) (kept : List Kept)
    → fits c (Some (row_kept rows (row_of k tick (map kept_view kept)))) ≡ fits c (Some (of_kind k))
fits_of_kind capture.Dollar k rows tick kept = refl
fits_of_kind capture.Address k rows tick kept = refl
fits_of_kind (capture.Splice answer.Value) kind.Expression rows tick kept = refl
fits_of_kind (capture.Splice answer.Value) kind.Statement rows tick kept = refl
fits_of_kind (capture.Splice answer.Value) kind.Local rows tick kept = refl
fits_of_kind (capture.Splice answer.Value) (kind.Param i) rows tick kept = refl
fits_of_kind (capture.Splice answer.Void) kind.Expression rows tick kept = refl
fits_of_kind (capture.Splice answer.Void) kind.Statement rows tick kept = refl
fits_of_kind (capture.Splice answer.Void) kind.Local rows tick kept = refl
fits_of_kind (capture.Splice answer.Void) (kind.Param i) rows tick kept = refl
fits_of_kind capture.Variable kind.Expression rows tick kept = refl
fits_of_kind capture.Variable kind.Statement rows tick kept = refl
fits_of_kind capture.Variable kind.Local rows tick kept = refl
fits_of_kind capture.Variable (kind.Param i) rows tick kept = refl

fits_in : (program : Program) (c : CaptureKind) (list : List Row) (n : ℕ) → AreRows program (rows_view list) list
    → fits c (numbered n (rows_view list)) ≡ fits c (option_map of_kind (kind_in (numbered n list)))
fits_in program c list n h = go (numbered n list) refl
  where
    go : (o : Option Row) → numbered n list ≡ o
        → fits c (numbered n (rows_view list)) ≡ fits c (option_map of_kind (kind_in (numbered n list)))
    go None e = ap (fits c) (none_named list n e) ∙ ap (λ o. fits c (option_map of_kind (kind_in o))) (sym e)
    go (Some row) e = ap (fits c) (row_named program list n row h e)
        ∙ fits_of_kind c row.kind (rows_view list) row.tick row.kept
        ∙ ap (λ o. fits c (option_map of_kind (kind_in o))) (sym e)

pub fits_named : (p : Parts) (c : CaptureKind) (n : ℕ) → IsSound p
    → fits c (numbered n (rows_view p.rows))
    ≡ fits c (option_map of_kind (kind_in (numbered n p.rows)))
fits_named p c n sound = fits_in (program_of p) c p.rows n sound.3.each

-- ---- what is kept of captures

abbrev pub rest_trap : List Specification → List Expr → List ℕ → (i : ℕ) → Option TrapKind
rest_trap rows list words i = captures_trap rows (kinds_of (args_view (drop i list))) (drop i words)

abbrev pub rest_kept : List Specification → List Expr → List ℕ → (i : ℕ) → List kept.Kept
rest_kept rows list words i = all_kept rows (kinds_of (args_view (drop i list))) (drop i words)

-- nothing is left
pub no_trap_left : (rows : List Specification) (list : List Expr) (words : List ℕ) (i : ℕ)
    → min (length list) (length words) ≤ i → rest_trap rows list words i ≡ None
no_trap_left rows [] words zero h = refl
no_trap_left rows [] words (suc i) h = refl
no_trap_left rows (e ∷ list) [] i h = none (kinds_of (args_view (drop i (e ∷ list)))) i
  where
    none : (kinds : List CaptureKind) (i : ℕ) → captures_trap rows kinds (drop i []) ≡ None
    none [] i = refl
    none (k ∷ kinds) zero = refl
    none (k ∷ kinds) (suc i) = refl
no_trap_left rows (e ∷ list) (v ∷ words) zero h = absurd (grind arith)
no_trap_left rows (e ∷ list) (v ∷ words) (suc i) h = no_trap_left rows list words i (grind arith)

pub none_kept_left : (rows : List Specification) (list : List Expr) (words : List ℕ) (i : ℕ)
    → min (length list) (length words) ≤ i → rest_kept rows list words i ≡ []
none_kept_left rows [] words zero h = refl
none_kept_left rows [] words (suc i) h = refl
none_kept_left rows (e ∷ list) [] i h = none (kinds_of (args_view (drop i (e ∷ list)))) i
  where
    none : (kinds : List CaptureKind) (i : ℕ) → all_kept rows kinds (drop i []) ≡ []
    none [] i = refl
    none (k ∷ kinds) zero = refl
    none (k ∷ kinds) (suc i) = refl
none_kept_left rows (e ∷ list) (v ∷ words) zero h = absurd (grind arith)
none_kept_left rows (e ∷ list) (v ∷ words) (suc i) h = none_kept_left rows list words i (grind arith)

pub kept_next : (rows : List Specification) (list : List Expr) (words : List ℕ) (i : ℕ) (e : Expr)
    → slice_get list i ≡ Some e → i < length words
    → rest_kept rows list words i
    ≡ kept_of (kind_of (expr_view e)) (get_or words i 0) (numbered (get_or words i 0) rows)
    ∷ rest_kept rows list words (suc i)
kept_next rows [] words i e h k = absurd (cc)
kept_next rows (f ∷ list) [] i e h k = absurd (omega (arith, k))
kept_next rows (f ∷ list) (v ∷ words) zero e h k =
    ap (λ f. kept_of (kind_of (expr_view f)) v (numbered v rows) ∷ rest_kept rows list words 0) (same_some h)
  where
    same_some : {x y : Expr} → Some x ≡ Some y → x ≡ y
    same_some e = cc
kept_next rows (f ∷ list) (v ∷ words) (suc i) e h k = kept_next rows list words i e h (omega (arith, k))

pub trap_next : (rows : List Specification) (list : List Expr) (words : List ℕ) (i : ℕ) (e : Expr)
    → slice_get list i ≡ Some e → i < length words → rest_trap rows list words i ≡ None
    → rest_trap rows list words (suc i) ≡ None
trap_next rows [] words i e h k n = absurd (cc)
trap_next rows (f ∷ list) [] i e h k n = absurd (omega (arith, k))
trap_next rows (f ∷ list) (v ∷ words) zero e h k n =
    go (fits (kind_of (expr_view f)) (numbered v rows)) n
  where
    go : (b : Bool) → (if b then captures_trap rows (kinds_of (args_view list)) words else Some BadSpec) ≡ None
        → captures_trap rows (kinds_of (args_view list)) words ≡ None
    go true n = n
    go false n = absurd (cc)
trap_next rows (f ∷ list) (v ∷ words) (suc i) e h k n = trap_next rows list words i e h (omega (arith, k)) n

pub earlier_push : (rows : List Specification) (n : ℕ) (list : List Kept) (k : Kept) → AreEarlier rows n list
    → IsEarlier rows n k → AreEarlier rows n (list ++ k ∷ [])
earlier_push rows n [] k h e = (e, tt)
earlier_push rows n (l ∷ list) k h e = (h.0, earlier_push rows n list k h.1 e)

-- the key of a variable of generated code
key_of_kind : (n : ℕ) (k : RowKind) (rows : List Specification) (tick : ℕ) (kept : List Kept)
    → key_in n (Some (row_kept rows (row_of k tick (map kept_view kept)))) ≡ key_in n (Some (of_kind k))
key_of_kind n kind.Expression rows tick kept = refl
key_of_kind n kind.Statement rows tick kept = refl
key_of_kind n kind.Local rows tick kept = refl
key_of_kind n (kind.Param i) rows tick kept = refl

key_in_row : (program : Program) (list : List Row) (n : ℕ) → AreRows program (rows_view list) list
    → key_in n (numbered n (rows_view list)) ≡ key_in n (option_map of_kind (kind_in (numbered n list)))
key_in_row program list n h = go (numbered n list) refl
  where
    go : (o : Option Row) → numbered n list ≡ o
        → key_in n (numbered n (rows_view list)) ≡ key_in n (option_map of_kind (kind_in (numbered n list)))
    go None e = ap (key_in n) (none_named list n e) ∙ ap (λ o. key_in n (option_map of_kind (kind_in o))) (sym e)
    go (Some row) e = ap (key_in n) (row_named program list n row h e)
        ∙ key_of_kind n row.kind (rows_view list) row.tick row.kept
        ∙ ap (λ o. key_in n (option_map of_kind (kind_in o))) (sym e)

pub key_named : (p : Parts) (n : ℕ) → IsSound p
    → key_in n (numbered n (rows_view p.rows)) ≡ key_in n (option_map of_kind (kind_in (numbered n p.rows)))
key_named p n sound = key_in_row (program_of p) p.rows n sound.3.each

-- what is named of a kind is there, and there are not too many
fits_within : (c : CaptureKind) (rows : List Specification) (n : ℕ) → fits c (numbered n rows) ≡ true
    → (c ≡ capture.Variable) ⊎ ((a : Answer) × (c ≡ capture.Splice a)) → n ≤ length rows
fits_within c rows n h k = go (numbered n rows) refl h
  where
    none_fits : (c : CaptureKind) → (c ≡ capture.Variable) ⊎ ((a : Answer) × (c ≡ capture.Splice a))
        → fits c None ≡ true → ⊥
    none_fits capture.Dollar (inl e) h = absurd (cc)
    none_fits capture.Dollar (inr e) h = let f = e.1 in absurd (cc)
    none_fits capture.Address (inl e) h = absurd (cc)
    none_fits capture.Address (inr e) h = let f = e.1 in absurd (cc)
    none_fits (capture.Splice answer.Value) e h = absurd (cc)
    none_fits (capture.Splice answer.Void) e h = absurd (cc)
    none_fits capture.Variable e h = absurd (cc)

    within : (n : ℕ) (s : Specification) → numbered n rows ≡ Some s → n ≤ length rows
    within zero s e = omega arith
    within (suc n) s e = omega (arith, slice_get_within rows n s e)

    go : (o : Option Specification) → numbered n rows ≡ o → fits c (numbered n rows) ≡ true → n ≤ length rows
    go None e h = absurd (none_fits c k (sym (ap (fits c) e) ∙ h))
    go (Some s) e h = within n s e

fits_splice : (a : Answer) (o : Option Specification) → fits (capture.Splice a) o ≡ true → IsCode o
fits_splice answer.Value (Some (shared.Expression s)) h = tt
fits_splice answer.Value (Some (shared.Statement s)) h = absurd (cc)
fits_splice answer.Value (Some shared.Local) h = absurd (cc)
fits_splice answer.Value (Some (shared.Param i)) h = absurd (cc)
fits_splice answer.Value None h = absurd (cc)
fits_splice answer.Void (Some (shared.Expression s)) h = absurd (cc)
fits_splice answer.Void (Some (shared.Statement s)) h = tt
fits_splice answer.Void (Some shared.Local) h = absurd (cc)
fits_splice answer.Void (Some (shared.Param i)) h = absurd (cc)
fits_splice answer.Void None h = absurd (cc)

pub earlier_splice : (a : Answer) (rows : List Specification) (n : ℕ)
    → fits (capture.Splice a) (numbered n rows) ≡ true → IsEarlier rows (length rows) (code.Number n)
earlier_splice a rows n h =
    (fits_within (capture.Splice a) rows n h (inr (a, refl)), fits_splice a (numbered n rows) h)

pub few_rows : (p : Parts) (n : ℕ) → IsSound p → fits capture.Variable (numbered n (rows_view p.rows)) ≡ true
    → n ≤ CLOSURE_BYTES
few_rows p n sound h =
    let within = fits_within capture.Variable (rows_view p.rows) n h (inl refl) in
    omega (arith, within, count p.rows, sound.3.count, sound.3.closure_bytes)

-- one more is kept
pub keeps_one : (rows : List Specification) (list : List Expr) (words : List ℕ) (i : ℕ) (e : Expr) (old new : List Kept)
    (k : Kept) (all : List kept.Kept) → slice_get list i ≡ Some e → i < length words
    → kept_view k ≡ kept_of (kind_of (expr_view e)) (get_or words i 0) (numbered (get_or words i 0) rows)
    → new ≡ old ++ k ∷ [] → map kept_view old ++ rest_kept rows list words i ≡ all
    → map kept_view new ++ rest_kept rows list words (i + 1) ≡ all
keeps_one rows list words i e old new k all at within is more h =
    let same : i + 1 ≡ suc i = omega arith in
    let rest = rest_kept rows list words (suc i) in
    ap (λ j. map kept_view new ++ rest_kept rows list words j) same
    ∙ ap (λ new. map kept_view new ++ rest) more
    ∙ ap (λ front. front ++ rest) (map-append kept_view old (k ∷ []))
    ∙ append_assoc (map kept_view old) (kept_view k ∷ []) rest
    ∙ ap (λ x. map kept_view old ++ x ∷ rest) is
    ∙ ap (λ rest. map kept_view old ++ rest) (sym (kept_next rows list words i e at within))
    ∙ h

pub keeps_all : (rows : List Specification) (list : List Expr) (words : List ℕ) (i : ℕ) (old : List Kept)
    (all : List kept.Kept) → min (length list) (length words) ≤ i
    → map kept_view old ++ rest_kept rows list words i ≡ all → map kept_view old ≡ all
keeps_all rows list words i old all end h =
    sym (nothing_more (map kept_view old))
    ∙ ap (λ rest. map kept_view old ++ rest) (sym (none_kept_left rows list words i end))
    ∙ h
  where
    nothing_more : (xs : List kept.Kept) → xs ++ [] ≡ xs
    nothing_more [] = refl
    nothing_more (x ∷ xs) = ap (λ ys. x ∷ ys) (nothing_more xs)
