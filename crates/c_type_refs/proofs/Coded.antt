-- What is written of a code, where the code of each layer ends, and the code of the first layers.
use Rattle.std.proofs.Common.{◌≡◌, ℕ, zero, suc, ◌+◌, ◌-◌, ◌<◌, inr, ◌≤◌, false, List, [], ◌∷◌, ◌++◌, length, take}
use Rattle.std.proofs.Common.{get_or, nat_eq, refl, sym, ap, ◌∙◌, arith, Some, None}
use Rattle.std.specs.Prelude.{min, slice_get}
use Rattle.std.proofs.lemmas.List.{take-map, take-take, length-take, length-take-le, length-append, length-map}
use Rattle.std.proofs.lemmas.List.{take_all, nil_from_length, append-nil, append_assoc}
use Rattle.c_types.specs.declared.ctype.CType.{CType}
use Rattle.c_types.specs.declared.ctype.Layer.{Layer, out-Layer}
use Rattle.c_types.specs.declared.ctype.Layer.TheFolds.{fold_out-Layer, fold_out-CType, map-Layer}
use Rattle.c_type_refs.specs.declared.code.Code.{Code}
use Rattle.c_types.specs.Types.{Opened, base_of, layers_of, outermost}
use Rattle.c_type_refs.specs.Codes.{base_code, layer_rule, type_rule, layer_code, type_code, codes, closed, ends}
use Rattle.c_type_refs.specs.Codes.{end_of, code_of, codes_in, codes_of_list, codes_of_lists}
use Rattle.c_type_refs.specs.Shared.{AreLent, AreTypes, CodesOf}

-- ---- what is written

pub of_layer : (l : Layer) (o : Opened) (old new : List ℕ) → out-Layer l ≡ o →
    new ≡ old ++ layer_rule (map-Layer Layer CType (List ℕ) (List ℕ) layer_code type_code o) → new ≡ old ++ layer_code l
unfolding layer_code type_code
of_layer l o old new is h =
    h
    ∙ ap (λ o. old ++ layer_rule (map-Layer Layer CType (List ℕ) (List ℕ) layer_code type_code o)) (sym is)
    ∙ ap (λ c. old ++ c) (sym (fold_out-Layer (List ℕ) (List ℕ) layer_rule type_rule l))

pub of_type : (old new : List ℕ) (t : CType) → new ≡ (old ++ base_code (base_of t) ∷ []) ++ closed (layers_of t) →
    new ≡ old ++ type_code t
unfolding layer_code type_code
of_type old new t h = h ∙ append_assoc old (base_code (base_of t) ∷ []) (closed (layers_of t)) ∙
    ap (λ c. old ++ c) (sym (fold_out-CType (List ℕ) (List ℕ) layer_rule type_rule t))

-- ---- where codes end

pub many_ends : (n : ℕ) (row : List Layer) → length (ends n row) ≡ length row
many_ends n [] = refl
many_ends n (x ∷ row) = ap suc (many_ends (n + length (layer_code x)) row)

first_ends : (n : ℕ) (row : List Layer) (k : ℕ) → take k (ends n row) ≡ ends n (take k row)
first_ends n row zero = refl
first_ends n [] (suc k) = refl
first_ends n (x ∷ row) (suc k) =
    ap (λ es. (n + length (layer_code x)) ∷ es) (first_ends (n + length (layer_code x)) row k)

end_at : (n : ℕ) (row : List Layer) (k : ℕ) → k < length row →
    get_or (ends n row) k 0 ≡ n + length (codes (take (suc k) row))
end_at n [] k h = absurd (omega (arith, h))
end_at n (x ∷ row) zero h = ap (λ c. n + length c) (sym (append-nil (layer_code x)))
end_at n (x ∷ row) (suc k) h =
    let more = end_at (n + length (layer_code x)) row k (omega (arith, h)) in
    omega (arith, more, length-append (layer_code x) (codes (take (suc k) row)))

none_more : (n : ℕ) → 0 + n ≡ n
none_more n = omega arith

suc_less : (k : ℕ) → suc k - 1 ≡ k
suc_less k = omega arith

suc_positive : (k : ℕ) → nat_eq (suc k) 0 ≡ false
suc_positive k = grind (arith)

counted : (es : List ℕ) (k : ℕ) → end_of es (suc k) ≡ get_or es k 0
counted es k = rw (suc_less k, suc_positive k) refl

pub end_is : (row : List Layer) (k : ℕ) → k ≤ length row → end_of (ends 0 row) k ≡ length (codes (take k row))
end_is row zero h = refl
end_is row (suc k) h = counted (ends 0 row) k ∙ end_at 0 row k (omega (arith, h)) ∙
    none_more (length (codes (take (suc k) row)))

more_suc : (m n : ℕ) → suc m + n ≡ suc (m + n)
more_suc m n = omega arith

joined_first : (a b : List ℕ) (n : ℕ) → take (length a + n) (a ++ b) ≡ a ++ take n b
joined_first [] b n = ap (λ m. take m b) (omega arith)
joined_first (x ∷ a) b n =
    ap (λ m. take m (x ∷ (a ++ b))) (more_suc (length a) n) ∙ ap (λ c. x ∷ c) (joined_first a b n)

first_code : (row : List Layer) (k : ℕ) → take (length (codes (take k row))) (codes row) ≡ codes (take k row)
first_code row zero = refl
first_code [] (suc k) = refl
first_code (x ∷ row) (suc k) =
    ap (λ n. take n (layer_code x ++ codes row)) (length-append (layer_code x) (codes (take k row)))
    ∙ joined_first (layer_code x) (codes row) (length (codes (take k row)))
    ∙ ap (λ c. layer_code x ++ c) (first_code row k)

within_code : (row : List Layer) (k : ℕ) → length (codes (take k row)) ≤ length (codes row)
within_code row zero = omega arith
within_code [] (suc k) = omega arith
within_code (x ∷ row) (suc k) =
    omega (
      arith,
      within_code row k,
      length-append (layer_code x) (codes (take k row)),
      length-append (layer_code x) (codes row),
    )

-- there is a code of so many
enough_of : (row : List Layer) (symbols es : List ℕ) (k : ℕ) → symbols ≡ codes row → es ≡ ends 0 row → k ≤ length row →
    end_of es k ≤ length symbols
enough_of row symbols es k h e within = rw (h, e, end_is row k within) (within_code row k)

-- the code of the first so many
first_of : (row : List Layer) (symbols es : List ℕ) (k : ℕ) → symbols ≡ codes row → es ≡ ends 0 row →
    k ≤ length row → take (end_of es k) symbols ≡ codes (take k row)
first_of row symbols es k h e within = rw (h, e, end_is row k within) (first_code row k)

-- ---- where the first layers alone have a code

-- no more than there are
pub coded_within : (row : List Layer) (es : List ℕ) → es ≡ ends 0 (take (length es) row) → length es ≤ length row
coded_within row es e =
    omega (arith, ap length e, many_ends 0 (take (length es) row), length-take (length es) row)

within_first : (row : List Layer) (es : List ℕ) (k : ℕ) → es ≡ ends 0 (take (length es) row) → k ≤ length es →
    k ≤ length (take (length es) row)
within_first row es k e h = omega (arith, h, ap length e, many_ends 0 (take (length es) row))

-- there is a code of so many
pub enough : (row : List Layer) (symbols es : List ℕ) (k : ℕ) → symbols ≡ codes (take (length es) row) →
    es ≡ ends 0 (take (length es) row) → k ≤ length es → end_of es k ≤ length symbols
enough row symbols es k h e within =
    enough_of (take (length es) row) symbols es k h e (within_first row es k e within)

-- the code of the first so many
pub first_coded : (row : List Layer) (symbols es : List ℕ) (k : ℕ) → symbols ≡ codes (take (length es) row) →
    es ≡ ends 0 (take (length es) row) → k ≤ length es → take (end_of es k) symbols ≡ codes (take k row)
first_coded row symbols es k h e within =
    first_of (take (length es) row) symbols es k h e (within_first row es k e within)
    ∙ ap codes (take-take k (length es) row within)

lists_cut : (row : List Layer) (lists : List (List Code)) (n k : ℕ) → lists ≡ codes_of_lists (take (length lists) row) →
    k ≡ min (length lists) n → n ≤ length row →
    take k lists ≡ codes_of_lists (take (length (take k lists)) (take n row))
lists_cut row lists n k h e within =
    let long : length (take k lists) ≡ k = length-take-le k lists (omega (arith, e)) in
    ap (take k) h
    ∙ take-map codes_in k (take (length lists) row)
    ∙ ap codes_of_lists (take-take k (length lists) row (omega (arith, e)) ∙
    sym (take-take k n row (omega (arith, e))) ∙ ap (λ m. take m (take n row)) (sym long))

-- of the first layers alone
pub cut_lent : (row : List Layer) (symbols es : List ℕ) (lists : List (List Code)) (n k m : ℕ) →
    AreLent row symbols es lists → n ≤ length row → k ≡ min (length es) n → m ≡ min (length lists) n →
    AreLent (take n row) (take (end_of es k) symbols) (take k es) (take m lists)
cut_lent row symbols es lists n k m h within c e =
    let long : length (take k es) ≡ k = length-take-le k es (omega (arith, c)) in
    let rest : take k row ≡ take (length (take k es)) (take n row) =
    sym (take-take k n row (omega (arith, c))) ∙ ap (λ j. take j (take n row)) (sym long) in
    record {
      coded = first_coded row symbols es k h.coded h.ended (omega (arith, c)) ∙ ap codes rest;
      ended =
          ap (take k) h.ended
          ∙ first_ends 0 (take (length es) row) k
          ∙ ap (ends 0) (take-take k (length es) row (omega (arith, c)) ∙ rest);
      listed = lists_cut row lists n m h.listed e within;
    }

-- of all the layers
pub all_lent : (row : List Layer) (symbols es : List ℕ) (lists : List (List Code)) → symbols ≡ codes row →
    es ≡ ends 0 row → lists ≡ codes_of_lists row → AreLent row symbols es lists
all_lent row symbols es lists h e listed =
    let long : length lists ≡ length row = ap length listed ∙ length-map row codes_in in
    let all : row ≡ take (length es) row =
    sym (take_all (length es) row (omega (arith, ap length e, many_ends 0 row))) in
    record {
      coded = h ∙ ap codes all;
      ended = e ∙ ap (ends 0) all;
      listed = listed ∙ ap codes_of_lists (sym (take_all (length lists) row (omega (arith, long))));
    }

-- of all the layers, without the codes of lists
pub alone_lent : (row : List Layer) (code : Code) → code ≡ code_of row → AreLent row code.symbols code.ends []
alone_lent row code h =
    let e : code.ends ≡ ends 0 row = ap (λ c. c.ends) h in
    let all : row ≡ take (length code.ends) row =
    sym (take_all (length code.ends) row (omega (arith, ap length e, many_ends 0 row))) in
    record { coded = ap (λ c. c.symbols) h ∙ ap codes all; ended = e ∙ ap (ends 0) all; listed = refl }

-- ---- the types of lists

pub same_type : (x y : CType) → Some x ≡ Some y → x ≡ y
same_type x y h = cc

pub no_type : (x : CType) → None ≡ Some x → ⊥
no_type x h = cc

same_code : (x y : Code) → Some x ≡ Some y → x ≡ y
same_code x y h = cc

no_code : (x : Code) → None ≡ Some x → ⊥
no_code x h = cc

code_at : (types : List CType) (n i : ℕ) (t : CType) (code : Code) → slice_get types i ≡ Some t →
    slice_get (codes_of_list (take n types)) i ≡ Some code → code ≡ code_of (layers_of t)
code_at types zero i t code h e = absurd (no_code code e)
code_at [] (suc n) i t code h e = absurd (no_type t h)
code_at (x ∷ types) (suc n) zero t code h e =
    sym (same_code (code_of (layers_of x)) code e) ∙ ap (λ t. code_of (layers_of t)) (same_type x t h)
code_at (x ∷ types) (suc n) (suc i) t code h e = code_at types n i t code h e

-- the code of the type at one place of a list
pub type_coded : (types : List CType) (lists : List Code) (i : ℕ) (t : CType) (code : Code) → AreTypes types lists →
    slice_get types i ≡ Some t → slice_get lists i ≡ Some code → code ≡ code_of (layers_of t)
type_coded types lists i t code h read found =
    code_at types (length lists) i t code read (ap (λ l. slice_get l i) (sym h) ∙ found)

list_at_place : (row : List Layer) (k : ℕ) (cs : List Code) → k < length row → cs ≡ get_or (codes_of_lists row) k cs →
    CodesOf (slice_get row k) cs
list_at_place [] k cs h e = absurd (omega (arith, h))
list_at_place (x ∷ row) zero cs h e = inr e
list_at_place (x ∷ row) (suc k) cs h e = list_at_place row k cs (omega (arith, h)) e

-- the codes of the outermost layer's list
pub last_list : (row more : List Layer) (lists : List (List Code)) (cs : List Code) → length more ≡ 0 → 0 < length row →
    length lists ≡ length row → lists ≡ codes_of_lists (take (length lists) row) →
    cs ≡ get_or lists (length row - 1) cs →
    CodesOf (outermost (row ++ more)) cs
last_list row more lists cs none some long listed read =
    let all : lists ≡ codes_of_lists row =
    listed ∙ ap codes_of_lists (take_all (length lists) row (omega (arith, long))) in
    let alone : row ++ more ≡ row = ap (λ m. row ++ m) (nil_from_length more none) ∙ append-nil row in
    rw alone (list_at_place row (length row - 1) cs (omega (arith, some))
    (read ∙ ap (λ l. get_or l (length row - 1) cs) all))
