-- How much of what is kept of captures is still to be walked, with all that is spliced in.
use Rattle.std.proofs.Common.{◌≡◌, ℕ, suc, ◌+◌, ◌<◌, List, [], ◌∷◌, ◌++◌, map, ap, sym, ◌∙◌, arith, Option}
use Rattle.std.proofs.Common.{Some, None, length, refl, append_assoc, append-nil, subst}
use Rattle.history.specs.Syntax.{Syntax, Ticked, Captures, NoCapture, Word, Named, Spliced}
use Rattle.meaning_state.specs.Rows.{count_locals, keys_in, keys_of, locals_of, numbered}
use Rattle.meaning_state.specs.Shared.{Specification}
use Rattle.meaning_state.specs.Shared as shared
use Rattle.staged_meaning.specs.Specifications.{syntax_in}
use Rattle.eval_state.specs.KeptRows.{captures_kept}
use Rattle.eval_state.specs.declared.state.Kept.{Kept}
use Rattle.eval_state.specs.declared.state.Kept.TheVariants as code
use Rattle.eval_state.specs.declared.state.Parts.{Parts}
use Rattle.eval_state.specs.Kept.{captures_in, kept_view, rows_view, syntax_at}
use Rattle.eval_state.specs.Numbered.{kept_in, noted}
use Rattle.eval_state.specs.Run.{program_of}
use Rattle.eval_state.specs.Sound.{IsSound}
use Rattle.eval_state.proofs.Named.{captures_named}
use Rattle.eval_stages.specs.Walked.{behind, noted_of}
use Rattle.eval_stages.proofs.Notes.{noted_all, noted_count}

abbrev mutual
  pub syntax_weight : Syntax → ℕ
  syntax_weight (Ticked tick captures) = suc (captures_weight captures)

  pub captures_weight : Captures → ℕ
  captures_weight NoCapture = 0
  captures_weight (Word word captures) = suc (captures_weight captures)
  captures_weight (Named key captures) = suc (captures_weight captures)
  captures_weight (Spliced syntax captures) = syntax_weight syntax + captures_weight captures

-- of what is kept
abbrev pub weight : List Specification → List Kept → ℕ
weight rows list = captures_weight (captures_kept rows (map kept_view list))

weight_both : (rows : List Specification) (xs ys : List Kept) → weight rows (xs ++ ys) ≡ weight rows xs + weight rows ys
weight_both rows [] ys = omega arith
weight_both rows (code.Word w ∷ xs) ys = omega (arith, weight_both rows xs ys)
weight_both rows (code.Key k ∷ xs) ys = omega (arith, weight_both rows xs ys)
weight_both rows (code.Number n ∷ xs) ys = omega (arith, weight_both rows xs ys)

less_inside : (o : Option Specification) → captures_weight (captures_in o) < syntax_weight (syntax_in o)
less_inside (Some (shared.Expression (Ticked t c))) = omega arith
less_inside (Some (shared.Statement (Ticked t c))) = omega arith
less_inside (Some shared.Local) = omega arith
less_inside (Some (shared.Param i)) = omega arith
less_inside None = omega arith

-- what was taken off was something
less_behind : (rows : List Specification) (old rest : List Kept) (k : Kept) → old ≡ rest ++ k ∷ []
    → weight rows rest < weight rows old
less_behind rows old rest k h =
    let both = ap (weight rows) h ∙ weight_both rows rest (k ∷ []) in
    omega (arith, both, some k)
  where
    some_syntax : (s : Syntax) → 0 < syntax_weight s
    some_syntax (Ticked t c) = omega arith

    some : (k : Kept) → 0 < weight rows (k ∷ [])
    some (code.Word w) = omega arith
    some (code.Key key) = omega arith
    some (code.Number n) = omega (arith, some_syntax (syntax_at rows n))

-- and the captures of a specification are less than it
less_spliced : (p : Parts) (old rest new : List Kept) (n : ℕ) → IsSound p → old ≡ rest ++ code.Number n ∷ []
    → new ≡ rest ++ kept_in (numbered n p.rows) → weight (rows_view p.rows) new < weight (rows_view p.rows) old
less_spliced p old rest new n sound h k =
    let rows = rows_view p.rows in
    let before = ap (weight rows) h ∙ weight_both rows rest (code.Number n ∷ []) in
    let after = ap (weight rows) k ∙ weight_both rows rest (kept_in (numbered n p.rows)) in
    let inside = ap captures_weight (captures_named (program_of p) p.rows n sound.3.each) in
    omega (arith, before, after, inside, less_inside (numbered n rows))

-- so what is pending behind it is less
pub less_walked : (p : Parts) (old rest new : List Kept) (k : Kept) → IsSound p → old ≡ rest ++ k ∷ []
    → new ≡ rest ++ behind k p.rows → weight (rows_view p.rows) new < weight (rows_view p.rows) old
less_walked p old rest new (code.Word w) sound h n =
    let same = ap (weight (rows_view p.rows)) (n ∙ append-nil rest) in
    omega (arith, same, less_behind (rows_view p.rows) old rest (code.Word w) h)
less_walked p old rest new (code.Key k) sound h n =
    let same = ap (weight (rows_view p.rows)) (n ∙ append-nil rest) in
    omega (arith, same, less_behind (rows_view p.rows) old rest (code.Key k) h)
less_walked p old rest new (code.Number i) sound h n = less_spliced p old rest new i sound h n

-- ---- the keys that are still to come, and those that were noted

abbrev pub keys_pending : List Specification → List Kept → List ℕ
keys_pending rows list = keys_in (captures_kept rows (map kept_view list))

keys_both : (rows : List Specification) (xs ys : List Kept)
    → keys_pending rows (xs ++ ys) ≡ keys_pending rows xs ++ keys_pending rows ys
keys_both rows [] ys = refl
keys_both rows (code.Word w ∷ xs) ys = keys_both rows xs ys
keys_both rows (code.Key k ∷ xs) ys = ap (λ ks. k ∷ ks) (keys_both rows xs ys)
keys_both rows (code.Number n ∷ xs) ys =
    ap (λ ks. keys_of (syntax_at rows n) ++ ks) (keys_both rows xs ys)
    ∙ sym (append_assoc (keys_of (syntax_at rows n)) (keys_pending rows xs) (keys_pending rows ys))

abbrev pub IsWalked : List Specification → (number : ℕ) → List Kept → (seen : List ℕ) → Type 0
IsWalked rows number pending seen =
    (vs : List ℕ) × (keys_pending rows pending ++ vs ≡ keys_of (syntax_at rows number)) × (seen ≡ noted_all vs)

no_more : (xs : List ℕ) → xs ++ [] ≡ xs
no_more [] = refl
no_more (x ∷ xs) = ap (λ ys. x ∷ ys) (no_more xs)

pub walk_begins : (rows : List Specification) (number : ℕ) (pending : List Kept) (seen : List ℕ)
    → pending ≡ code.Number number ∷ [] → seen ≡ [] → IsWalked rows number pending seen
walk_begins rows number pending seen h k =
    ([], no_more (keys_pending rows pending) ∙ ap (keys_pending rows) h ∙ no_more (keys_of (syntax_at rows number)), k)

-- the last is split off
last_off : (rows : List Specification) (old rest : List Kept) (k : Kept) (vs : List ℕ) → old ≡ rest ++ k ∷ []
    → keys_pending rows old ++ vs ≡ keys_pending rows rest ++ (keys_pending rows (k ∷ []) ++ vs)
last_off rows old rest k vs h =
    ap (λ (list : List Kept). keys_pending rows list ++ vs) h
    ∙ ap (λ ks. ks ++ vs) (keys_both rows rest (k ∷ []))
    ∙ append_assoc (keys_pending rows rest) (keys_pending rows (k ∷ [])) vs

walks_word : (rows : List Specification) (number w : ℕ) (old rest : List Kept) (seen : List ℕ)
    → old ≡ rest ++ code.Word w ∷ [] → IsWalked rows number old seen → IsWalked rows number rest seen
walks_word rows number w old rest seen h i = (i.0, sym (last_off rows old rest (code.Word w) i.0 h) ∙ i.1, i.2)

walks_key : (rows : List Specification) (number k : ℕ) (old rest : List Kept) (seen new : List ℕ)
    → old ≡ rest ++ code.Key k ∷ [] → new ≡ noted k seen → IsWalked rows number old seen
    → IsWalked rows number rest new
walks_key rows number k old rest seen new h n i =
    (k ∷ i.0, sym (last_off rows old rest (code.Key k) i.0 h) ∙ i.1, n ∙ ap (noted k) i.2)

keys_inside : (o : Option Specification) → keys_of (syntax_in o) ≡ keys_in (captures_in o)
keys_inside (Some (shared.Expression (Ticked t c))) = refl
keys_inside (Some (shared.Statement (Ticked t c))) = refl
keys_inside (Some shared.Local) = refl
keys_inside (Some (shared.Param i)) = refl
keys_inside None = refl

walks_number : (p : Parts) (number n : ℕ) (old rest new : List Kept) (seen : List ℕ) → IsSound p
    → old ≡ rest ++ code.Number n ∷ [] → new ≡ rest ++ kept_in (numbered n p.rows)
    → IsWalked (rows_view p.rows) number old seen → IsWalked (rows_view p.rows) number new seen
walks_number p number n old rest new seen sound h k i =
    let rows = rows_view p.rows in
    let inside : keys_pending rows (code.Number n ∷ []) ≡ keys_pending rows (kept_in (numbered n p.rows)) =
    no_more (keys_of (syntax_at rows n)) ∙ keys_inside (numbered n rows)
    ∙ ap keys_in (captures_named (program_of p) p.rows n sound.3.each) in
    let now : keys_pending rows new ++ i.0
    ≡ keys_pending rows rest ++ (keys_pending rows (kept_in (numbered n p.rows)) ++ i.0) =
    ap (λ (list : List Kept). keys_pending rows list ++ i.0) k
    ∙ ap (λ ks. ks ++ i.0) (keys_both rows rest (kept_in (numbered n p.rows)))
    ∙ append_assoc (keys_pending rows rest) (keys_pending rows (kept_in (numbered n p.rows))) i.0 in (
      i.0,
      now ∙ ap (λ ks. keys_pending rows rest ++ (ks ++ i.0)) (sym inside)
          ∙ sym (last_off rows old rest (code.Number n) i.0 h) ∙ i.1,
      i.2,
    )

pub walks_on : (p : Parts) (number : ℕ) (k : Kept) (old rest new : List Kept) (seen after : List ℕ) → IsSound p
    → old ≡ rest ++ k ∷ [] → new ≡ rest ++ behind k p.rows → after ≡ noted_of k seen
    → IsWalked (rows_view p.rows) number old seen → IsWalked (rows_view p.rows) number new after
walks_on p number (code.Word w) old rest new seen after sound h n s i =
    let rows = rows_view p.rows in
    subst (λ (list : List Kept). IsWalked rows number list after) (sym (n ∙ append-nil rest))
    (subst (λ (keys : List ℕ). IsWalked rows number rest keys) (sym s) (walks_word rows number w old rest seen h i))
walks_on p number (code.Key k) old rest new seen after sound h n s i =
    let rows = rows_view p.rows in
    subst (λ (list : List Kept). IsWalked rows number list after) (sym (n ∙ append-nil rest))
    (walks_key rows number k old rest seen after h s i)
walks_on p number (code.Number j) old rest new seen after sound h n s i =
    subst (λ (keys : List ℕ). IsWalked (rows_view p.rows) number new keys) (sym s)
    (walks_number p number j old rest new seen sound h n i)

pub walks_all : (rows : List Specification) (number : ℕ) (pending : List Kept) (seen : List ℕ) → pending ≡ []
    → IsWalked rows number pending seen → length seen ≡ locals_of (syntax_at rows number)
walks_all rows number pending seen h i =
    ap length i.2 ∙ noted_count i.0
    ∙ ap count_locals (ap (λ (list : List Kept). keys_pending rows list ++ i.0) (sym h) ∙ i.1)
