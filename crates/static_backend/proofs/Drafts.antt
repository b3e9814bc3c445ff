-- The first pass: words that are made, and room for others, grow by those of the next function.
use Rattle.std.proofs.Common.{◌≡◌, ℕ, ◌+◌, ◌*◌, Bool, true, false, List, [], ◌∷◌, ◌++◌, length, inl, refl, sym, ap, ◌∙◌}
use Rattle.std.proofs.Common.{subst, arith, append_assoc, append-nil, length-append}
use Rattle.icode_templates.specs.Expansion.{expanded}
use Rattle.word32.specs.declared.map.TheConstants.{FUNCTIONS}
use Rattle.staged_meaning.specs.Program.{Tick}
use Rattle.tick_lower_spec.specs.Lower.{Addresses, listed}
use Rattle.staged_meaning.specs.Size.{size_of, charge_of}
use Rattle.icode_ops.specs.declared.op.Op.{Op}
use Rattle.static_image.specs.Layout.{Placed, ops_of, words_of, length_of, behind, starts, ends, addresses_of}
use Rattle.static_image.specs.Layout.{function_starts, generator_starts}
use Rattle.static_image.proofs.Placing.{length_is}
use Rattle.static_backend.specs.Calls.{calls_unknown}
use Rattle.static_backend.specs.Drafted.{AreDrafted, IsDraft, IsPiece, known_at}
use Rattle.static_backend.proofs.Known.{code_known, listed_known}

-- one function more
drafted_more : (d : Addresses) (at : ℕ) (xs : List Placed) (x : Placed) (made : List Bool) (m : Bool)
    (words piece : List ℕ) → length made ≡ length xs → length piece ≡ length_of x
    → (m ≡ true → piece ≡ words_of d (ends at xs) x) → AreDrafted d at xs made words
    → AreDrafted d at (xs ++ x ∷ []) (made ++ m ∷ []) (words ++ piece)
drafted_more d at [] x [] m words piece many long same h =
    (piece, [], ap (λ ws. ws ++ piece) h ∙ sym (append-nil piece), long, same, refl)
drafted_more d at [] x (k ∷ made) m words piece many long same h = absurd cc
drafted_more d at (y ∷ ys) x [] m words piece many long same h = absurd h
drafted_more d at (y ∷ ys) x (k ∷ made) m words piece many long same h = (
  h.0,
  h.1 ++ piece,
  ap (λ ws. ws ++ piece) h.2 ∙ append_assoc h.0 h.1 piece,
  h.3,
  h.4,
  drafted_more d (behind at y) ys x made m h.1 piece (omega (arith, many)) long same h.5,
)

starts_append : (at : ℕ) (xs ys : List Placed) → starts at (xs ++ ys) ≡ starts at xs ++ starts (ends at xs) ys
starts_append at [] ys = refl
starts_append at (x ∷ xs) ys = ap (λ (ss : List ℕ). at ∷ ss) (starts_append (behind at x) xs ys)

-- the words of a function that calls none but those that stand so far, itself among them, are its words wherever others
-- will stand
known_words : (ticks : List Tick) (xs : List Placed) (x : Placed) (more : List Placed) →
    calls_unknown (ops_of (known_at ticks (starts FUNCTIONS (xs ++ x ∷ []))) x) ≡ false →
    words_of (known_at ticks (starts FUNCTIONS (xs ++ x ∷ []))) (ends FUNCTIONS xs) x
    ≡ words_of (addresses_of ticks (xs ++ x ∷ more)) (ends FUNCTIONS xs) x
known_words ticks xs x more none =
    let front = xs ++ x ∷ [] in
    let far = front ++ more in
    let made = generator_starts (function_starts far) (ends FUNCTIONS far) ticks in
    let here = starts FUNCTIONS front in
    let rest = starts (ends FUNCTIONS front) more in
    let at = ends FUNCTIONS xs in
    let charge = charge_of (size_of x.function) in
    ap (λ (os : List Op). expanded os x.places at charge x.function.object false)
    (code_known (known_at ticks here) (listed (here ++ rest) made ticks) refl (listed_known here rest made ticks)
    (λ tick. inl refl) x.function none)
    ∙ ap (λ (ss : List ℕ). words_of (listed ss made ticks) at x) (sym (starts_append FUNCTIONS front more))
    ∙ ap (λ (ys : List Placed). words_of (addresses_of ticks ys) at x) (append_assoc xs (x ∷ []) more)

pub first_draft : (ticks : List Tick) (made : List Bool) (words : List ℕ) → words ≡ [] → IsDraft ticks [] made words
first_draft ticks made words w more = w

pub draft_more : (ticks : List Tick) (xs : List Placed) (x : Placed) (made made' : List Bool) (m : Bool)
    (words words' : List ℕ)
    (at : ℕ) (known : List ℕ) → length made ≡ length xs → at ≡ ends FUNCTIONS xs
    → known ≡ starts FUNCTIONS (xs ++ x ∷ []) → made' ≡ made ++ m ∷ []
    → IsPiece (calls_unknown (ops_of (known_at ticks known) x)) (words_of (known_at ticks known) at x) m words words'
    → IsDraft ticks xs made words → IsDraft ticks (xs ++ x ∷ []) made' words'
draft_more ticks xs x made made' m words words' at known many here ss ms p h more =
    let front = xs ++ x ∷ [] in
    let d = addresses_of ticks (xs ++ x ∷ more) in
    let long : length p.piece ≡ length_of x = p.as_long ∙ length_is (known_at ticks known) at x in
    let same : m ≡ true → p.piece ≡ words_of d (ends FUNCTIONS xs) x =
    λ is. let q = p.same is in
    q.1 ∙ ap (λ (a : ℕ). words_of (known_at ticks known) a x) here
    ∙ ap (λ (zs : List ℕ). words_of (known_at ticks zs) (ends FUNCTIONS xs) x) ss
    ∙ known_words ticks xs x more (ap (λ (zs : List ℕ). calls_unknown (ops_of (known_at ticks zs) x)) (sym ss) ∙ q.0) in
    let made_so = drafted_more d FUNCTIONS xs x made m words p.piece many long same (h (x ∷ more)) in
    subst (λ (ys : List Placed). AreDrafted (addresses_of ticks ys) FUNCTIONS front made' words')
    (sym (append_assoc xs (x ∷ []) more))
    (subst (λ (ws : List ℕ). AreDrafted d FUNCTIONS front made' ws) (sym p.added)
    (subst (λ (ks : List Bool). AreDrafted d FUNCTIONS front ks (words ++ p.piece)) (sym ms) made_so))

-- they are as many words as the functions have
pub drafted_long : (d : Addresses) (at : ℕ) (xs : List Placed) (made : List Bool) (words : List ℕ) →
    AreDrafted d at xs made words → ends at xs ≡ at + 4 * length words
drafted_long d at [] made words h = let none = ap length h in omega (arith, none)
drafted_long d at (x ∷ xs) [] words h = absurd h
drafted_long d at (x ∷ xs) (m ∷ made) words h =
    let whole = ap length h.2 in
    let both = length-append h.0 h.1 in
    omega (arith, drafted_long d (behind at x) xs made h.1 h.5, h.3, whole, both)
