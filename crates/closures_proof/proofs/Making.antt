-- New specifications, as the meaning makes them.
use Rattle.std.proofs.Common.{◌≡◌, ◌⊎◌, inl, inr, ℕ, zero, suc, ◌+◌, ◌%◌, ◌<◌, ◌≤◌, Bool, true, false, List, []}
use Rattle.std.proofs.Common.{◌∷◌, ◌++◌, nat_lt}
use Rattle.std.proofs.Common.{length, Option, Some, None, refl, sym, ap, ◌∙◌, subst, arith, slice_get, if◌then◌else◌}
use Rattle.std.proofs.Common.{nat_le}
use Rattle.std.proofs.lemmas.Bool.{cases_Bool}
use Rattle.std.proofs.lemmas.Bool.Decides.{nat_tests}
use Rattle.std.proofs.lemmas.List.{length-append}
use Rattle.std.proofs.lemmas.Option.{slice_get_within}
use Rattle.limits.specs.declared.program.TheConstants.{MOST_ARGUMENTS, SIZE_LIMIT}
use Rattle.word32.specs.declared.map.TheConstants.{CLOSURES, CLOSURE_BYTES}
use Rattle.host_edge.specs.declared.ending.TrapKind.{TrapKind}
use Rattle.host_edge.specs.declared.ending.TrapKind.TheVariants.{BadSpec, SpecLimit}
use Rattle.history.specs.Syntax.{Syntax, Ticked, Captures, NoCapture, Word, Named, Spliced}
use Rattle.mips_model.specs.State.{Data}
use Rattle.icode_ops.specs.Kinds.{closure_number}
use Rattle.icode_ops.specs.declared.kind.ClosureKind.{ClosureKind}
use Rattle.typed_tree.specs.declared.expression.CaptureKind.{CaptureKind}
use Rattle.typed_tree.specs.declared.expression.CaptureKind.TheVariants as kind
use Rattle.typed_tree.specs.declared.expression.Answer.TheVariants as answer
use Rattle.meaning_state.specs.Shared.{Shared, Specification, Expression, Statement, Local, Param}
use Rattle.meaning_state.specs.Rows.{numbered, key_parameters, parameters_of, parameters_in, closure_bytes}
use Rattle.meaning_state.specs.Rows.{closure_trap, next_number, specified}
use Rattle.staged_meaning.specs.Program.{is_expression, syntax_size}
use Rattle.staged_meaning.specs.Specifications.{fits, captures_trap, captures_of, key_in, specification_of}
use Rattle.staged_meaning.specs.Specifications.{syntax_in}
use Rattle.icode_templates_proof.specs.Spots.{KeepsSpots}
use Rattle.icode_templates_proof.specs.Closures.{Head, Closure, local_head, parameter_head, words_at, next_closure}
use Rattle.icode_templates_proof.specs.Closures.{with_so_far, appended, bytes_of, HasClosures}
use Rattle.icode_templates_proof.specs.RoutineLaws.{HasRows, HeadFits}
use Rattle.icode_templates_proof.proofs.Checking.{bytes_least}
use Rattle.icode_templates_proof.proofs.Standing.{closures_stand}
use Rattle.closures_proof.specs.Ops.{with_captured, replaced, HasNewest}
use Rattle.closures_proof.proofs.Kept.{closures_kept, sums_keep}
use Rattle.closures_proof.proofs.Newest.{newest_made, words_put}
use Rattle.closures_proof.specs.Relation.{Text, captures_of_syntax, syntax_head, IsOf, IsVariable, AreCaptured}
use Rattle.closures_proof.specs.Relation.{IsTick, StandsFor, AllStandFor, HasSpecifications}
use Rattle.closures_proof.specs.Laws.{puts, kind_of_tick, AreWordsIn}
use Rattle.closures_proof.proofs.Lookups.{live_stays, in_longer}

-- ---- rows that grow

of_stays : (syntax : Syntax) (rows : List Specification) (more : Specification) (x : ℕ) (o : Option Specification) →
    numbered x rows ≡ o → IsOf syntax o → IsOf syntax (numbered x (rows ++ more ∷ []))
of_stays syntax rows more x None e h = absurd h
of_stays syntax rows more x (Some s) e h = subst (IsOf syntax) (sym (live_stays rows more s x e)) h

variable_stays : (rows : List Specification) (more : Specification) (x : ℕ) (o : Option Specification) →
    numbered x rows ≡ o → IsVariable o →
    IsVariable (numbered x (rows ++ more ∷ [])) × (numbered x (rows ++ more ∷ []) ≡ o)
variable_stays rows more x None e h = absurd h
variable_stays rows more x (Some s) e h =
    let at = live_stays rows more s x e in (subst IsVariable (sym at) h, at)

captured_stay : (rows : List Specification) (more : Specification) (n : ℕ) (cs : Captures) (xs : List ℕ) →
    AreCaptured rows n cs xs → AreCaptured (rows ++ more ∷ []) n cs xs
captured_stay rows more n NoCapture [] h = h
captured_stay rows more n NoCapture (x ∷ xs) h = h
captured_stay rows more n (Word word cs) [] h = h
captured_stay rows more n (Word word cs) (x ∷ xs) h = (h.0, captured_stay rows more n cs xs h.1)
captured_stay rows more n (Named key cs) [] h = h
captured_stay rows more n (Named key cs) (x ∷ xs) h =
    let v = variable_stays rows more x (numbered x rows) refl h.1 in
    (h.0, v.0, ap (key_in x) v.1 ∙ h.2, captured_stay rows more n cs xs h.3)
captured_stay rows more n (Spliced syntax cs) [] h = h
captured_stay rows more n (Spliced syntax cs) (x ∷ xs) h =
    (h.0, of_stays syntax rows more x (numbered x rows) refl h.1, captured_stay rows more n cs xs h.2)

tick_stays : (text : Text) (rows : List Specification) (more : Specification) (n : ℕ) (kind : ClosureKind)
    (syntax : Syntax) (k : Closure) → IsTick text rows n kind syntax k →
    IsTick text (rows ++ more ∷ []) n kind syntax k
tick_stays text rows more n kind syntax k h = record {
  head = h.head;
  captured = captured_stay rows more n (captures_of_syntax syntax) k.captured h.captured;
  small = h.small;
}

stays : (text : Text) (rows : List Specification) (more : Specification) (n : ℕ) (s : Specification) (k : Closure) →
    StandsFor text rows n s k → StandsFor text (rows ++ more ∷ []) n s k
stays text rows more n (Expression syntax) k h = tick_stays text rows more n _ syntax k h
stays text rows more n (Statement syntax) k h = tick_stays text rows more n _ syntax k h
stays text rows more n Local k h = h
stays text rows more n (Param index) k h = h

-- a closure more, which stands for a specification more
one_more : (text : Text) (rows : List Specification) (ks : List Closure) (s : Specification) (k : Closure) →
    AllStandFor text rows ks → StandsFor text (rows ++ s ∷ []) (suc (length rows)) s k →
    AllStandFor text (rows ++ s ∷ []) (ks ++ k ∷ [])
one_more text rows ks s k all h = record {
  count =
      length-append ks (k ∷ []) ∙ ap (λ n. n + 1) all.count ∙ sym (length-append rows (s ∷ []));
  each = λ n s' k' at there. each n s' k' (in_longer rows s s' n at) (in_longer ks k k' n there);
}
  where
    each : (n : ℕ) (s' : Specification) (k' : Closure)
        → ((n < length rows) × (slice_get rows n ≡ Some s')) ⊎ ((n ≡ length rows) × (s ≡ s'))
        → ((n < length ks) × (slice_get ks n ≡ Some k')) ⊎ ((n ≡ length ks) × (k ≡ k'))
        → StandsFor text (rows ++ s ∷ []) (suc n) s' k'
    each n s' k' (inl a) (inl b) = stays text rows s (suc n) s' k' (all.each n s' k' a.1 b.1)
    each n s' k' (inl a) (inr b) = let z : ⊥ = omega (arith, a.0, b.0, all.count) in absurd z
    each n s' k' (inr a) (inl b) = let z : ⊥ = omega (arith, a.0, b.0, all.count) in absurd z
    each n s' k' (inr a) (inr b) =
        subst (λ x. StandsFor text (rows ++ s ∷ []) (suc n) x k') a.1
        (subst (λ y. StandsFor text (rows ++ s ∷ []) (suc n) s y) b.1
        (subst (λ m. StandsFor text (rows ++ s ∷ []) (suc m) s k) (sym a.0) h))

-- ---- the whole relation

pub rows_there : (text : Text) (shared : Shared) (d : Data) → HasSpecifications text shared d → HasRows shared d
rows_there text shared d h =
    let least = bytes_least h.closures in
    let count = h.stand_for.count in
    record {
      global = h.memory.global;
      count = h.memory.count ∙ count;
      next = h.memory.next ∙ ap (λ n. CLOSURES + n) (sym h.bytes);
      within = omega (arith, h.bytes, h.memory.within);
      even = ap (λ n. n % 4) h.bytes ∙ bytes_even h.closures;
      few = omega (arith, least, count, h.bytes);
    }
  where
    bytes_even : (ks : List Closure) → bytes_of ks % 4 ≡ 0
    bytes_even [] = refl
    bytes_even (k ∷ ks) = let ih = bytes_even ks in omega (arith, ih)

pub kept : (text : Text) (shared : Shared) (d e : Data) → KeepsSpots d e → HasSpecifications text shared d →
    HasSpecifications text shared e
kept text shared d e q h = record {
  closures = h.closures;
  memory = closures_kept h.closures d e q h.memory;
  stand_for = h.stand_for;
  bytes = h.bytes;
}

pub kept_by_sums : (text : Text) (shared : Shared) (size parameters : ℕ) (d : Data) →
    HasSpecifications text shared d → HasSpecifications text shared (with_so_far size parameters d)
kept_by_sums text shared size parameters d h = record {
  closures = h.closures;
  memory = sums_keep size parameters h.closures d h.memory;
  stand_for = h.stand_for;
  bytes = h.bytes;
}

-- where there is room in the meaning there is in memory
pub room : (captures : ℕ) (shared : Shared) → closure_trap captures shared ≡ None →
    shared.closures + closure_bytes captures ≤ CLOSURE_BYTES
room captures shared e = elim (cases_Bool (nat_le (shared.closures + closure_bytes captures) CLOSURE_BYTES)) [
  | inl t ↦ grind (arith, nat_tests, t)
  | inr t ↦ (let some : closure_trap captures shared ≡ Some SpecLimit = rw t refl in let x : ⊥ = cc in absurd x)
]

bytes_last : (ks : List Closure) (x : Closure) →
    bytes_of (ks ++ x ∷ []) ≡ bytes_of ks + closure_bytes (length x.captured)
bytes_last [] x = omega arith
bytes_last (k ∷ ks) x = let ih = bytes_last ks x in omega (arith, ih)

-- a variable of generated code
variable_made : (text : Text) (shared : Shared) (s : Specification) (k : Head) (d : Data) → HeadFits k →
    StandsFor text (shared.specifications ++ s ∷ []) (suc (length shared.specifications)) s
    (record { head = k; captured = [] })
    → HasSpecifications text shared d → closure_trap 0 shared ≡ None →
    HasSpecifications text (specified s 0 shared) (appended k 0 d)
variable_made text shared s k d fits stands h none =
    let fit = room 0 shared none in
    let new : Closure = record { head = k; captured = [] } in
    record {
      closures = h.closures ++ new ∷ [];
      memory = closures_stand h.closures k 0 d h.memory (omega (arith, fit, h.bytes)) fits;
      stand_for = one_more text shared.specifications h.closures s new h.stand_for stands;
      bytes = ap (λ n. n + 16) h.bytes ∙ sym (bytes_last h.closures new);
    }

few_rows : (text : Text) (shared : Shared) (d : Data) → HasSpecifications text shared d →
    length shared.specifications < 4194304
few_rows text shared d h =
    let r = rows_there text shared d h in omega (arith, r.few, r.within)

pub local_made : (text : Text) (shared : Shared) (d : Data) → HasSpecifications text shared d →
    closure_trap 0 shared ≡ None →
    HasSpecifications text (specified Local 0 shared) (appended (local_head (next_number shared)) 0 d)
local_made text shared d h none =
    let few = few_rows text shared d h in
    variable_made text shared Local (local_head (next_number shared)) d
    (record { first = omega (arith, few); kind = omega arith; size = omega arith; parameters = omega arith }) refl h
    none

pub parameter_made : (text : Text) (shared : Shared) (index : ℕ) (d : Data) → HasSpecifications text shared d →
    index < MOST_ARGUMENTS → closure_trap 0 shared ≡ None →
    HasSpecifications text (specified (Param index) 0 shared) (appended (parameter_head index) 0 d)
parameter_made text shared index d h low none =
    variable_made text shared (Param index) (parameter_head index) d
    (record { first = omega (arith, low); kind = omega arith; size = omega arith; parameters = omega (arith, low) })
    (low, refl) h none

-- ---- a tick's specification

-- a number that fits is live
fits_live : (k : CaptureKind) (rows : List Specification) (x : ℕ) → fits k None ≡ false →
    fits k (numbered x rows) ≡ true → x < suc (length rows)
fits_live k rows zero none f = omega arith
fits_live k rows (suc n) none f = within (slice_get rows n) refl
  where
    within : (o : Option Specification) → slice_get rows n ≡ o → suc n < suc (length rows)
    within None e = let t = ap (fits k) e in let z : ⊥ = cc in absurd z
    within (Some s) e = let l = slice_get_within rows n s e in omega (arith, l)

value_fits : (o : Option Specification) → fits (kind.Splice answer.Value) o ≡ true → IsOf (syntax_in o) o
value_fits None f = let z : ⊥ = cc in absurd z
value_fits (Some (Expression syntax)) f = refl
value_fits (Some (Statement syntax)) f = let z : ⊥ = cc in absurd z
value_fits (Some Local) f = let z : ⊥ = cc in absurd z
value_fits (Some (Param index)) f = let z : ⊥ = cc in absurd z

void_fits : (o : Option Specification) → fits (kind.Splice answer.Void) o ≡ true → IsOf (syntax_in o) o
void_fits None f = let z : ⊥ = cc in absurd z
void_fits (Some (Expression syntax)) f = let z : ⊥ = cc in absurd z
void_fits (Some (Statement syntax)) f = refl
void_fits (Some Local) f = let z : ⊥ = cc in absurd z
void_fits (Some (Param index)) f = let z : ⊥ = cc in absurd z

variable_fits : (o : Option Specification) → fits kind.Variable o ≡ true → IsVariable o
variable_fits None f = let z : ⊥ = cc in absurd z
variable_fits (Some (Expression syntax)) f = let z : ⊥ = cc in absurd z
variable_fits (Some (Statement syntax)) f = let z : ⊥ = cc in absurd z
variable_fits (Some Local) f = tt
variable_fits (Some (Param index)) f = tt

fits_first : (b : Bool) (rest : Option TrapKind) → (if b then rest else Some BadSpec) ≡ None →
    (b ≡ true) × (rest ≡ None)
fits_first true rest e = (refl, e)
fits_first false rest e = let z : ⊥ = cc in absurd z

all_captured : (rows : List Specification) (kinds : List CaptureKind) (words : List ℕ) →
    captures_trap rows kinds words ≡ None → length kinds ≡ length words →
    AreCaptured rows (suc (length rows)) (captures_of rows kinds words) words
all_captured rows [] [] none same = tt
all_captured rows [] (x ∷ words) none same = let z : ⊥ = omega (arith, same) in absurd z
all_captured rows (k ∷ kinds) [] none same = let z : ⊥ = omega (arith, same) in absurd z
all_captured rows (k ∷ kinds) (x ∷ words) none same =
    let f = fits_first (fits k (numbered x rows)) (captures_trap rows kinds words) none in
    one k f.0 (all_captured rows kinds words f.1 (omega (arith, same)))
  where
    one : (k : CaptureKind) → fits k (numbered x rows) ≡ true →
        AreCaptured rows (suc (length rows)) (captures_of rows kinds words) words →
        AreCaptured rows (suc (length rows)) (captures_of rows (k ∷ kinds) (x ∷ words)) (x ∷ words)
    one kind.Dollar f rest = (refl, rest)
    one kind.Address f rest = (refl, rest)
    one (kind.Splice answer.Value) f rest =
        (fits_live (kind.Splice answer.Value) rows x refl f, value_fits (numbered x rows) f, rest)
    one (kind.Splice answer.Void) f rest =
        (fits_live (kind.Splice answer.Void) rows x refl f, void_fits (numbered x rows) f, rest)
    one kind.Variable f rest = (fits_live kind.Variable rows x refl f, variable_fits (numbered x rows) f, refl, rest)

-- the captured words are put, one by one
abbrev replaced_all : ℕ → List ℕ → List ℕ → List ℕ
replaced_all i [] xs = xs
replaced_all i (w ∷ ws) xs = replaced_all (suc i) ws (replaced i w xs)

behind_first : (i x : ℕ) (ws xs : List ℕ) → replaced_all (suc i) ws (x ∷ xs) ≡ x ∷ replaced_all i ws xs
behind_first i x [] xs = refl
behind_first i x (w ∷ ws) xs = behind_first (suc i) x ws (replaced i w xs)

all_replaced : (ws xs : List ℕ) → length xs ≡ length ws → replaced_all 0 ws xs ≡ ws
all_replaced [] [] same = refl
all_replaced [] (x ∷ xs) same = let z : ⊥ = omega (arith, same) in absurd z
all_replaced (w ∷ ws) [] same = let z : ⊥ = omega (arith, same) in absurd z
all_replaced (w ∷ ws) (x ∷ xs) same =
    behind_first 0 w ws xs ∙ ap (λ l. w ∷ l) (all_replaced ws xs (omega (arith, same)))

pub replaced_length : (i x : ℕ) (xs : List ℕ) → length (replaced i x xs) ≡ length xs
replaced_length i x [] = refl
replaced_length zero x (y ∷ ys) = refl
replaced_length (suc i) x (y ∷ ys) = ap suc (replaced_length i x ys)

pub words_length : (f : ℕ → ℕ) (a count : ℕ) → length (words_at f a count) ≡ count
words_length f a zero = refl
words_length f a (suc count) = ap suc (words_length f (a + 4) count)

abbrev closure_with : Head → List ℕ → Closure
closure_with k xs = record { head = k; captured = xs }

all_put : (ks : List Closure) (k : Head) (xs : List ℕ) (i : ℕ) (ws : List ℕ) (d : Data) →
    HasNewest ks (closure_with k xs) d → length xs ≡ i + length ws → AreWordsIn ws →
    HasNewest ks (closure_with k (replaced_all i ws xs)) (puts i ws d)
all_put ks k xs i [] d h same b = h
all_put ks k xs i (w ∷ ws) d h same b =
    let long = replaced_length i w xs in
    all_put ks k (replaced i w xs) (suc i) ws (with_captured i w d)
    (words_put ks (closure_with k xs) i w d h (omega (arith, same)) b.0) (omega (arith, long, same)) b.1

stands_tick : (text : Text) (rows : List Specification) (is_value : Bool) (syntax : Syntax) (words : List ℕ) →
    AreCaptured rows (suc (length rows)) (captures_of_syntax syntax) words →
    syntax_size text.program syntax ≤ SIZE_LIMIT →
    StandsFor text (rows ++ specification_of is_value syntax ∷ []) (suc (length rows)) (specification_of is_value
    syntax)
    (closure_with (syntax_head text (kind_of_tick is_value) syntax) words)
stands_tick text rows true syntax words h small = record {
  head = refl;
  captured = captured_stay rows (Expression syntax) (suc (length rows)) (captures_of_syntax syntax) words h;
  small = small;
}
stands_tick text rows false syntax words h small = record {
  head = refl;
  captured = captured_stay rows (Statement syntax) (suc (length rows)) (captures_of_syntax syntax) words h;
  small = small;
}

pub kind_word : (is_value : Bool) → closure_number (kind_of_tick is_value) < 4294967296
kind_word true = omega arith
kind_word false = omega arith

-- generated code has at most eight parameters
few_of_key : (key : ℕ) → key_parameters key ≤ 8
few_of_key key = elim (cases_Bool (nat_lt key 8)) [
  | inl t ↦ (let l : key < 8 = grind (arith, nat_tests, t) in rw t (omega (arith, l)))
  | inr t ↦ rw t (omega arith)
]

mutual
  pub few_of : (syntax : Syntax) → parameters_of syntax ≤ 8
  few_of (Ticked tick captures) = few_in captures

  few_in : (captures : Captures) → parameters_in captures ≤ 8
  few_in NoCapture = omega arith
  few_in (Word word captures) = few_in captures
  few_in (Named key captures) = let p = few_of_key key in let q = few_in captures in omega (arith, p, q)
  few_in (Spliced syntax captures) = let p = few_of syntax in let q = few_in captures in omega (arith, p, q)

module _ (text : Text) (shared : Shared) (tick : ℕ) (kinds : List CaptureKind) (words : List ℕ) (d : Data) (h :
    HasSpecifications text shared d) (fit : captures_trap shared.specifications kinds words ≡ None) (same : length kinds
    ≡ length words) (b : AreWordsIn words) (low : text.generator_at tick < 4294967296) where
  abbrev rows : List Specification
  rows = shared.specifications

  abbrev syntax : Syntax
  syntax = Ticked tick (captures_of rows kinds words)

  abbrev is_value : Bool
  is_value = is_expression (slice_get text.program.ticks tick)

  abbrev k : Head
  k = syntax_head text (kind_of_tick is_value) syntax

  pub tick_made : syntax_size text.program syntax ≤ SIZE_LIMIT
      → closure_trap (length words) shared ≡ None
      → HasSpecifications text (specified (specification_of is_value syntax) (length words) shared)
      (puts 0 words (appended k (length words) d))
  tick_made small none =
      let few = few_of syntax in
      let fits = room (length words) shared none in
      let first = newest_made h.closures k (length words) d h.memory (omega (arith, fits, h.bytes))
      (record { first = low; kind = kind_word is_value; size = omega (arith, small); parameters = omega (arith, few) })
      in
      let there = words_at d.closures (next_closure d + 16) (length words) in
      let long = words_length d.closures (next_closure d + 16) (length words) in
      let put = all_put h.closures k there 0 words (appended k (length words) d) first (omega (arith, long)) b in
      let all = all_replaced words there long in
      let new = closure_with k words in
      record {
        closures = h.closures ++ new ∷ [];
        memory = subst (λ xs. HasClosures (h.closures ++ closure_with k xs ∷ []) (puts 0 words (appended k (length
            words)
            d))) all put.closures;
        stand_for = one_more text rows h.closures (specification_of is_value syntax) new h.stand_for
            (stands_tick text rows is_value syntax words (all_captured rows kinds words fit same) small);
        bytes = ap (λ n. n + closure_bytes (length words)) h.bytes ∙ sym (bytes_last h.closures new);
      }
