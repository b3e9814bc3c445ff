-- What is kept by numbers is what the meaning has whole.
use Rattle.std.proofs.Common.{◌≡◌, ℕ, zero, suc, ◌+◌, max, List, [], ◌∷◌, ◌++◌, slice_get, refl, ap}
use Rattle.history.specs.Syntax.{Syntax, Ticked, NoCapture}
use Rattle.history.specs.Syntax as syntax
use Rattle.meaning_state.specs.Rows.{numbered, key_parameters, parameters_of, parameters_in}
use Rattle.meaning_state.specs.Shared.{Specification}
use Rattle.typed_tree.specs.declared.expression.CaptureKind.{CaptureKind}
use Rattle.typed_tree.specs.declared.expression.CaptureKind.TheVariants as kind
use Rattle.staged_meaning.specs.Expressions.{word_of, key_of}
use Rattle.staged_meaning.specs.Program.{Program, captures_size, syntax_size}
use Rattle.staged_meaning.specs.Specifications.{captures_of, key_in, syntax_in}
use Rattle.eval_state.specs.KeptRows.{Kept, Word, Key, Number, Row, captures_kept, row_kept, rows_behind, rows_kept}
use Rattle.eval_state.specs.KeptRows.{all_kept, word_kept, key_kept, splice_kept, size_kept, parameters_kept}
use Rattle.eval_state.specs.Moves.{syntax_at}

-- a row more
pub row_more : (rows : List Specification) (more : List Row) (row : Row)
    → rows_behind rows (more ++ row ∷ []) ≡ rows_behind rows more ++ row_kept (rows_behind rows more) row ∷ []
row_more rows [] row = refl
row_more rows (r ∷ more) row = row_more (rows ++ row_kept rows r ∷ []) more row

pub specified_more : (more : List Row) (row : Row) → rows_kept (more ++ row ∷ [])
    ≡ rows_kept more ++ row_kept (rows_kept more) row ∷ []
specified_more more row = row_more [] more row

-- the captures of a tick are kept as it is evaluated
pub captures_are_kept : (rows : List Specification) (kinds : List CaptureKind) (words : List ℕ)
    → captures_kept rows (all_kept rows kinds words) ≡ captures_of rows kinds words
captures_are_kept rows [] words = refl
captures_are_kept rows (k ∷ kinds) [] = refl
captures_are_kept rows (kind.Dollar ∷ kinds) (v ∷ words) = ap (syntax.Word v) (captures_are_kept rows kinds words)
captures_are_kept rows (kind.Address ∷ kinds) (v ∷ words) = ap (syntax.Word v) (captures_are_kept rows kinds words)
captures_are_kept rows (kind.Splice a ∷ kinds) (v ∷ words) = ap (syntax.Spliced (syntax_in (numbered v rows)))
    (captures_are_kept rows kinds words)
captures_are_kept rows (kind.Variable ∷ kinds) (v ∷ words) = ap (syntax.Named (key_in v (numbered v rows)))
    (captures_are_kept rows kinds words)

-- ---- what generated code reads

pub word_is_kept : (rows : List Specification) (kept : List Kept) (i : ℕ) → word_of (captures_kept rows kept) i
    ≡ word_kept (slice_get kept i)
word_is_kept rows [] i = refl
word_is_kept rows (Word w ∷ kept) zero = refl
word_is_kept rows (Word w ∷ kept) (suc i) = word_is_kept rows kept i
word_is_kept rows (Key k ∷ kept) zero = refl
word_is_kept rows (Key k ∷ kept) (suc i) = word_is_kept rows kept i
word_is_kept rows (Number n ∷ kept) zero = refl
word_is_kept rows (Number n ∷ kept) (suc i) = word_is_kept rows kept i

pub key_is_kept : (rows : List Specification) (kept : List Kept) (i : ℕ) → key_of (captures_kept rows kept) i
    ≡ key_kept (slice_get kept i)
key_is_kept rows [] i = refl
key_is_kept rows (Word w ∷ kept) zero = refl
key_is_kept rows (Word w ∷ kept) (suc i) = key_is_kept rows kept i
key_is_kept rows (Key k ∷ kept) zero = refl
key_is_kept rows (Key k ∷ kept) (suc i) = key_is_kept rows kept i
key_is_kept rows (Number n ∷ kept) zero = refl
key_is_kept rows (Number n ∷ kept) (suc i) = key_is_kept rows kept i

pub splice_is_kept : (rows : List Specification) (kept : List Kept) (i : ℕ) → syntax_at (captures_kept rows kept) i
    ≡ splice_kept rows (slice_get kept i)
splice_is_kept rows [] i = refl
splice_is_kept rows (Word w ∷ kept) zero = refl
splice_is_kept rows (Word w ∷ kept) (suc i) = splice_is_kept rows kept i
splice_is_kept rows (Key k ∷ kept) zero = refl
splice_is_kept rows (Key k ∷ kept) (suc i) = splice_is_kept rows kept i
splice_is_kept rows (Number n ∷ kept) zero = refl
splice_is_kept rows (Number n ∷ kept) (suc i) = splice_is_kept rows kept i

-- ---- what is counted once, as a row is made

pub size_is_kept : (program : Program) (rows : List Specification) (kept : List Kept)
    → captures_size program (captures_kept rows kept) ≡ size_kept program rows kept
size_is_kept program rows [] = refl
size_is_kept program rows (Word w ∷ kept) = size_is_kept program rows kept
size_is_kept program rows (Key k ∷ kept) = size_is_kept program rows kept
size_is_kept program rows (Number n ∷ kept) = ap (λ m. syntax_size program (syntax_in (numbered n rows)) + m)
    (size_is_kept program rows kept)

pub parameters_are_kept : (rows : List Specification) (kept : List Kept) → parameters_in (captures_kept rows kept)
    ≡ parameters_kept rows kept
parameters_are_kept rows [] = refl
parameters_are_kept rows (Word w ∷ kept) = parameters_are_kept rows kept
parameters_are_kept rows (Key k ∷ kept) = ap (λ m. max (key_parameters k) m) (parameters_are_kept rows kept)
parameters_are_kept rows (Number n ∷ kept) = ap (λ m. max (parameters_of (syntax_in (numbered n rows))) m)
    (parameters_are_kept rows kept)
