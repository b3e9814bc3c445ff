-- What is counted once, as a row is made: nodes and parameters.
use Rattle.std.proofs.Common.{◌≡◌, ℕ, zero, suc, ◌+◌, ◌<◌, ◌≤◌, length, List, [], ◌∷◌, map, max, drop, refl}
use Rattle.std.proofs.Common.{slice_get, slice_index_or, ap, sym, ◌∙◌, subst, arith, Some, None}
use Rattle.std.proofs.lemmas.Option.{slice_get-map, slice_get_within}
use Rattle.std.specs.Option.{option_map}
use Rattle.limits.specs.declared.program.TheConstants.{SIZE_LIMIT}
use Rattle.typed_tree.specs.declared.expression.Expr.{Expr}
use Rattle.typed_tree.specs.declared.program.Tick.{Tick}
use Rattle.typed_tree.specs.declared.program.TickBody.{TickBody}
use Rattle.typed_tree.specs.declared.program.TickBody.TheVariants as body
use Rattle.typed_tree.specs.declared.program.TypedParts.{TypedParts}
use Rattle.typed_tree.specs.Measures.{size_of_body}
use Rattle.typed_tree.specs.Sizes.{has_value}
use Rattle.typed_tree.specs.View.{expr_view, body_view, program_view}
use Rattle.typed_tree.specs.View as view
use Rattle.typed_tree.proofs.Fusion.{value_viewed}
use Rattle.wellformed.specs.Program.{IsWellFormed}
use Rattle.meaning_state.specs.Rows.{numbered, parameters_of}
use Rattle.meaning_state.specs.Shared.{Specification}
use Rattle.staged_meaning.specs.Program.{syntax_size, tick_size, is_expression}
use Rattle.staged_meaning.specs.Program as meaning
use Rattle.staged_meaning.specs.Source.{tick_view}
use Rattle.staged_meaning.specs.Specifications.{syntax_in}
use Rattle.history.specs.Syntax.{Syntax}
use Rattle.eval_state.specs.KeptRows.{parameters_kept, row_kept, size_kept}
use Rattle.eval_state.specs.declared.state.Kept.{Kept}
use Rattle.eval_state.specs.declared.state.Kept.TheVariants as code
use Rattle.eval_state.specs.declared.state.Parts.{Parts}
use Rattle.eval_state.specs.declared.state.Row.{Row}
use Rattle.eval_state.specs.declared.state.RowKind.{RowKind}
use Rattle.eval_state.specs.declared.state.RowKind.TheVariants as kind
use Rattle.eval_state.specs.Kept.{kept_view, row_of, rows_view, syntax_at}
use Rattle.eval_state.specs.Run.{program_of}
use Rattle.eval_state.specs.Sound.{IsSound}
use Rattle.eval_state.specs.Specified.{AreEarlier, IsCode, IsCounted, IsEarlier}
use Rattle.eval_state.proofs.Named.{none_named, row_counted, row_named}

-- ---- ticks

pub value_is : (e : Expr) → has_value e ≡ is_expression (Some (meaning.OfExpression (expr_view e)))
value_is e = value_viewed e

pub tick_named : (p : Parts) (n : ℕ) → slice_get (program_of p).ticks n
    ≡ option_map (λ t. tick_view t.body) (slice_get p.typed.now.ticks n)
tick_named p n = slice_get-map (λ (t : Tick). tick_view t.body) p.typed.now.ticks n

pub body_size : (b : TickBody) → size_of_body (body_view b) ≡ tick_size (Some (tick_view b))
body_size (body.Expression e) = refl
body_size (body.Statement s) = refl

pub tick_sized : (p : TypedParts) (n : ℕ) (t : Tick) → IsWellFormed p → slice_get p.ticks n ≡ Some t
    → (t.size ≡ tick_size (Some (tick_view t.body))) × (t.size ≤ SIZE_LIMIT)
tick_sized p n t h e =
    let is = h.tick_sizes n t e in
    let within : n < length h.program.captures =
    omega (arith, h.program.each, length_map view.tick_view p.ticks, slice_get_within p.ticks n t e) in
    let k = got h.program.captures n within in
    let there = slice_get-map view.tick_view p.ticks n ∙ ap (option_map view.tick_view) e in
    let small = (h.program.ticks n (body_view t.body) k.0 there k.1).small in
    (is ∙ body_size t.body, omega (arith, is, small))
  where
    length_map : {A B : Type 0} (f : A → B) (xs : List A) → length (map f xs) ≡ length xs
    length_map f [] = refl
    length_map f (x ∷ xs) = ap suc (length_map f xs)

    got : {A : Type 0} (xs : List A) (n : ℕ) → n < length xs → (x : A) × (slice_get xs n ≡ Some x)
    got [] n h = absurd (omega (arith, h))
    got (x ∷ xs) zero h = (x, refl)
    got (x ∷ xs) (suc n) h = got xs n (omega (arith, h))

-- ---- rows

abbrev syntax_of : List Specification → RowKind → Row → Syntax
syntax_of rows k row = syntax_in (Some (row_kept rows (row_of k row.tick (map kept_view row.kept))))

size_of_kind : (program : meaning.Program) (rows : List Specification) (k : RowKind) (row : Row)
    → IsCounted program rows k row
    → IsCode (Some (row_kept rows (row_of k row.tick (map kept_view row.kept))))
    → (row.size ≡ syntax_size program (syntax_of rows k row)) × (row.parameters ≡ parameters_of (syntax_of rows k row))
size_of_kind program rows kind.Expression row h k = h
size_of_kind program rows kind.Statement row h k = h
size_of_kind program rows kind.Local row h k = absurd k
size_of_kind program rows (kind.Param i) row h k = absurd k

pub row_sized : (p : Parts) (n : ℕ) (row : Row) → IsSound p → numbered n p.rows ≡ Some row
    → IsCode (numbered n (rows_view p.rows))
    → (row.size ≡ syntax_size (program_of p) (syntax_at (rows_view p.rows) n))
    × (row.parameters ≡ parameters_of (syntax_at (rows_view p.rows) n))
row_sized p n row sound e h =
    let rows = rows_view p.rows in
    let named = row_named (program_of p) p.rows n row sound.3.each e in
    let counted = row_counted (program_of p) p.rows n row sound.3.each e in
    let code = subst IsCode named h in
    subst (λ o. (row.size ≡ syntax_size (program_of p) (syntax_in o)) × (row.parameters ≡ parameters_of (syntax_in o)))
    (sym named) (size_of_kind (program_of p) rows row.kind row counted code)

pub row_small : (p : Parts) (n : ℕ) (row : Row) → IsSound p → numbered n p.rows ≡ Some row → row.size ≤ SIZE_LIMIT
row_small p zero row sound e = absurd (cc)
row_small p (suc n) row sound e = (sound.3.each n row e).1.small

pub not_code : (p : Parts) (n : ℕ) → numbered n p.rows ≡ None → IsCode (numbered n (rows_view p.rows)) → ⊥
not_code p n e h = subst IsCode (none_named p.rows n e) h

-- ---- what is kept of captures

size_more : (program : meaning.Program) (rows : List Specification) (k : Kept) (kept : List Kept)
    → size_kept program rows (map kept_view (k ∷ kept))
    ≡ size_kept program rows (kept_view k ∷ []) + size_kept program rows (map kept_view kept)
size_more program rows (code.Word w) kept = omega arith
size_more program rows (code.Key key) kept = omega arith
size_more program rows (code.Number n) kept = omega arith

parameters_more : (rows : List Specification) (k : Kept) (kept : List Kept)
    → parameters_kept rows (map kept_view (k ∷ kept))
    ≡ max (parameters_kept rows (kept_view k ∷ [])) (parameters_kept rows (map kept_view kept))
parameters_more rows (code.Word w) kept = grind arith
parameters_more rows (code.Key key) kept = grind arith
parameters_more rows (code.Number n) kept = grind arith

pub drop_next : {A : Type 0} (xs : List A) (i : ℕ) (x : A) → slice_get xs i ≡ Some x → drop i xs ≡ x ∷ drop (suc i) xs
drop_next [] i x h = absurd (cc)
drop_next (y ∷ xs) zero x h = same h
  where
    same : Some y ≡ Some x → y ∷ xs ≡ x ∷ xs
    same e = cc
drop_next (y ∷ xs) (suc i) x h = drop_next xs i x h

pub size_next : (program : meaning.Program) (rows : List Specification) (list : List Kept) (i : ℕ) (k : Kept)
    → slice_get list i ≡ Some k
    → size_kept program rows (map kept_view (drop i list))
    ≡ size_kept program rows (kept_view k ∷ []) + size_kept program rows (map kept_view (drop (suc i) list))
size_next program rows list i k h =
    ap (λ xs. size_kept program rows (map kept_view xs)) (drop_next list i k h)
    ∙ size_more program rows k (drop (suc i) list)

pub parameters_next : (rows : List Specification) (list : List Kept) (i : ℕ) (k : Kept)
    → slice_get list i ≡ Some k
    → parameters_kept rows (map kept_view (drop i list))
    ≡ max (parameters_kept rows (kept_view k ∷ [])) (parameters_kept rows (map kept_view (drop (suc i) list)))
parameters_next rows list i k h =
    ap (λ xs. parameters_kept rows (map kept_view xs)) (drop_next list i k h)
    ∙ parameters_more rows k (drop (suc i) list)

pub earlier_at : (rows : List Specification) (n : ℕ) (list : List Kept) (i : ℕ) (k : Kept) → slice_get list i ≡ Some k
    → AreEarlier rows n list → IsEarlier rows n k
earlier_at rows n [] i k e h = absurd (cc)
earlier_at rows n (l ∷ list) zero k e h = subst (IsEarlier rows n) (same e) h.0
  where
    same : Some l ≡ Some k → l ≡ k
    same e = cc
earlier_at rows n (l ∷ list) (suc i) k e h = earlier_at rows n list i k e h.1

pub earlier_in : (rows : List Specification) (n : ℕ) (list : List Kept) (i : ℕ) (d : Kept) → i < length list
    → AreEarlier rows n list → IsEarlier rows n (slice_index_or list i d)
earlier_in rows n [] i d k h = absurd (omega (arith, k))
earlier_in rows n (l ∷ list) zero d k h = h.0
earlier_in rows n (l ∷ list) (suc i) d k h = earlier_in rows n list i d (omega (arith, k)) h.1

pub tick_size_named : (p : Parts) (n : ℕ) (t : Tick) → IsWellFormed p.typed.now
    → slice_get p.typed.now.ticks n ≡ Some t
    → (t.size ≡ tick_size (slice_get (program_of p).ticks n)) × (t.size ≤ SIZE_LIMIT)
tick_size_named p n t h e =
    let sized = tick_sized p.typed.now n t h e in (
      sized.0
          ∙ ap tick_size (sym (tick_named p n ∙ ap (option_map (λ (t : Tick). tick_view t.body)) e)),
      sized.1,
    )
