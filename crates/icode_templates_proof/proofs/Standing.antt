-- Closures that stand on where another one is made.
use Rattle.std.proofs.Common.{◌≡◌, ◌≢◌, inl, inr, ℕ, zero, suc, ◌+◌, ◌*◌, ◌/◌, ◌%◌, ◌<◌, ◌≤◌, List, [], ◌∷◌}
use Rattle.std.proofs.Common.{◌++◌, length, Some, refl, sym, ap, ◌∙◌, subst, arith, slice_get}
use Rattle.std.proofs.lemmas.Bool.{cases_lt, cases_eq}
use Rattle.std.proofs.lemmas.List.{length-append}
use Rattle.word32.specs.Space.{update, AreWords}
use Rattle.word32.specs.declared.map.TheConstants.{CLOSURES, CLOSURE_BYTES}
use Rattle.mips_model.specs.State.{Data}
use Rattle.meaning_state.specs.Rows.{closure_bytes}
use Rattle.icode_templates_proof.proofs.Memory.{update_same, update_other}
use Rattle.icode_templates_proof.specs.Closures.{Head, Closure, word_at, with_word, words_at, head_at, closure_at}
use Rattle.icode_templates_proof.specs.Closures.{with_head}
use Rattle.icode_templates_proof.specs.Closures.{row_place, closure_of, row_count, next_closure, appended, Stands}
use Rattle.icode_templates_proof.specs.Closures.{bytes_of}
use Rattle.icode_templates_proof.specs.Closures.{HasClosures}
use Rattle.icode_templates_proof.specs.RoutineLaws.{HeadFits}
use Rattle.icode_templates_proof.proofs.Checking.{get_below}

-- ---- spaces that agree on some words

words_below : (f g : ℕ → ℕ) (a count m : ℕ) → ((x : ℕ) → x < m → f x ≡ g x) → a + 4 * count ≤ 4 * m →
    words_at f a count ≡ words_at g a count
words_below f g a zero m same to = refl
words_below f g a (suc count) m same to =
    let e = same (a / 4) (omega (arith, to)) in
    let rest = words_below f g (a + 4) count m same (omega (arith, to)) in
    ap (λ x. x ∷ words_at f (a + 4) count) e ∙ ap (λ xs. g (a / 4) ∷ xs) rest

words_above : (f g : ℕ → ℕ) (a count m : ℕ) → ((x : ℕ) → m ≤ x → f x ≡ g x) → 4 * m ≤ a →
    words_at f a count ≡ words_at g a count
words_above f g a zero m same from = refl
words_above f g a (suc count) m same from =
    let e = same (a / 4) (omega (arith, from)) in
    let rest = words_above f g (a + 4) count m same (omega (arith, from)) in
    ap (λ x. x ∷ words_at f (a + 4) count) e ∙ ap (λ xs. g (a / 4) ∷ xs) rest

abbrev head : (first kind size parameters : ℕ) → Head
head first kind size parameters = record { first = first; kind = kind; size = size; parameters = parameters }

abbrev closure : Head → List ℕ → Closure
closure h ws = record { head = h; captured = ws }

made_head : (a b c e a' b' c' e' : ℕ) → a ≡ a' → b ≡ b' → c ≡ c' → e ≡ e' → head a b c e ≡ head a' b' c' e'
made_head a b c e a' b' c' e' p q r s =
    ap (λ x. head x b c e) p ∙ ap (λ x. head a' x c e) q ∙ ap (λ x. head a' b' x e) r ∙ ap (head a' b' c') s

made_closure : (h h' : Head) (ws ws' : List ℕ) → h ≡ h' → ws ≡ ws' → closure h ws ≡ closure h' ws'
made_closure h h' ws ws' p q = ap (λ x. closure x ws) p ∙ ap (closure h') q

closure_below : (f g : ℕ → ℕ) (a captures m : ℕ) → ((x : ℕ) → x < m → f x ≡ g x) →
    a + closure_bytes captures ≤ 4 * m → closure_at f a captures ≡ closure_at g a captures
closure_below f g a captures m same to =
    made_closure (head_at f a) (head_at g a) (words_at f (a + 16) captures) (words_at g (a + 16) captures)
    (made_head (word_at f a) (word_at f (a + 4)) (word_at f (a + 8)) (word_at f (a + 12)) (word_at g a)
    (word_at g (a + 4)) (word_at g (a + 8)) (word_at g (a + 12)) (same (a / 4) (omega (arith, to)))
    (same ((a + 4) / 4) (omega (arith, to))) (same ((a + 8) / 4) (omega (arith, to)))
    (same ((a + 12) / 4) (omega (arith, to))))
    (words_below f g (a + 16) captures m same (omega (arith, to)))

-- ---- a head that is written

module _ (a : ℕ) (k : Head) (f : ℕ → ℕ) where
  abbrev f1 : ℕ → ℕ
  f1 = with_word a k.first f

  abbrev f2 : ℕ → ℕ
  f2 = with_word (a + 4) k.kind f1

  abbrev f3 : ℕ → ℕ
  f3 = with_word (a + 8) k.size f2

  elsewhere : (x : ℕ) → x ≢ a / 4 → x ≢ (a + 4) / 4 → x ≢ (a + 8) / 4 → x ≢ (a + 12) / 4 → with_head a k f x ≡ f x
  elsewhere x n0 n1 n2 n3 =
      update_other ((a + 12) / 4) k.parameters f3 x n3 ∙ update_other ((a + 8) / 4) k.size f2 x n2
      ∙ update_other ((a + 4) / 4) k.kind f1 x n1 ∙ update_other (a / 4) k.first f x n0

  written_head : head_at (with_head a k f) a ≡ k
  written_head =
      made_head (word_at (with_head a k f) a) (word_at (with_head a k f) (a + 4)) (word_at (with_head a k f) (a + 8))
      (word_at (with_head a k f) (a + 12)) k.first k.kind k.size k.parameters
      (update_other ((a + 12) / 4) k.parameters f3 (a / 4) (omega arith)
      ∙ update_other ((a + 8) / 4) k.size f2 (a / 4) (omega arith)
      ∙ update_other ((a + 4) / 4) k.kind f1 (a / 4) (omega arith) ∙ update_same (a / 4) k.first f)
      (update_other ((a + 12) / 4) k.parameters f3 ((a + 4) / 4) (omega arith)
      ∙ update_other ((a + 8) / 4) k.size f2 ((a + 4) / 4) (omega arith) ∙ update_same ((a + 4) / 4) k.kind f1)
      (update_other ((a + 12) / 4) k.parameters f3 ((a + 8) / 4) (omega arith)
      ∙ update_same ((a + 8) / 4) k.size f2)
      (update_same ((a + 12) / 4) k.parameters f3)

update_words : (n x : ℕ) (f : ℕ → ℕ) → AreWords f → x < 4294967296 → AreWords (update n x f)
update_words n x f words b m = elim (cases_eq m n) [
  | inl e ↦ subst (λ z. update n x f z < 4294967296) (sym e) (subst (λ z. z < 4294967296)
      (sym (update_same n x f)) b)
  | inr ne ↦ subst (λ z. z < 4294967296) (sym (update_other n x f m ne)) (words m)
]

-- ---- lists

get_before : (ks : List Closure) (x : Closure) (n : ℕ) → n < length ks → slice_get (ks ++ x ∷ []) n ≡ slice_get ks n
get_before [] x n l = let z : ⊥ = omega (arith, l) in absurd z
get_before (k ∷ ks) x zero l = refl
get_before (k ∷ ks) x (suc n) l = get_before ks x n (omega (arith, l))

get_last : (ks : List Closure) (x : Closure) → slice_get (ks ++ x ∷ []) (length ks) ≡ Some x
get_last [] x = refl
get_last (k ∷ ks) x = get_last ks x

bytes_append : (ks : List Closure) (x : Closure) →
    bytes_of (ks ++ x ∷ []) ≡ bytes_of ks + closure_bytes (length x.captured)
bytes_append [] x = omega arith
bytes_append (k ∷ ks) x = let ih = bytes_append ks x in omega (arith, ih)

bytes_even : (ks : List Closure) → bytes_of ks % 4 ≡ 0
bytes_even [] = refl
bytes_even (k ∷ ks) = let ih = bytes_even ks in omega (arith, ih)

words_length : (f : ℕ → ℕ) (a count : ℕ) → length (words_at f a count) ≡ count
words_length f a zero = refl
words_length f a (suc count) = ap suc (words_length f (a + 4) count)

same_closure : (k k' : Closure) → Some k ≡ Some k' → k ≡ k'
same_closure k k' e = cc

-- ---- one closure more

module _ (ks : List Closure) (k : Head) (captures : ℕ) (d : Data) (has : HasClosures ks d) (room : bytes_of ks +
    closure_bytes captures ≤ CLOSURE_BYTES) (fits : HeadFits k) where
  abbrev next : ℕ
  next = next_closure d

  abbrev count : ℕ
  count = row_count d

  abbrev d' : Data
  d' = appended k captures d

  abbrev new : Closure
  new = record { head = k; captured = words_at d.closures (next + 16) captures }

  new_length : length new.captured ≡ captures
  new_length = words_length d.closures (next + 16) captures

  next_even : next % 4 ≡ 0
  next_even = let even = bytes_even ks in omega (arith, has.next, even)

  same_below : (x : ℕ) → x < next / 4 → d'.closures x ≡ d.closures x
  same_below x l =
      elsewhere next k d.closures x (omega (arith, l)) (omega (arith, l)) (omega (arith, l)) (omega (arith, l))

  same_above : (x : ℕ) → (next + 16) / 4 ≤ x → d'.closures x ≡ d.closures x
  same_above x l =
      elsewhere next k d.closures x (omega (arith, l)) (omega (arith, l)) (omega (arith, l)) (omega (arith, l))

  old_row : (n : ℕ) → n < length ks → closure_of d' (suc n) ≡ closure_of d (suc n)
  old_row n l =
      update_other (row_place (suc count) / 4) next d.spec_rows (row_place (suc n) / 4) (omega (arith, l, has.count))

  new_row : closure_of d' (suc count) ≡ next
  new_row = update_same (row_place (suc count) / 4) next d.spec_rows

  old_stands : (n : ℕ) (x : Closure) → n < length ks → slice_get ks n ≡ Some x → Stands d' (suc n) x
  old_stands n x l e =
      let s = has.stand n x e in
      let a = closure_of d (suc n) in
      let row = old_row n l in
      record {
        from = subst (λ z. CLOSURES ≤ z) (sym row) s.from;
        to = subst (λ z. z + closure_bytes (length x.captured) ≤ next + closure_bytes captures) (sym row)
            (omega (arith, s.to));
        even = ap (λ z. z % 4) row ∙ s.even;
        reads = ap (λ z. closure_at d'.closures z (length x.captured)) row
            ∙ closure_below d'.closures d.closures a (length x.captured) (next / 4) same_below
            (omega (arith, s.to, next_even)) ∙ s.reads;
      }

  new_stands : Stands d' (suc count) new
  new_stands = record {
    from = subst (λ z. CLOSURES ≤ z) (sym new_row) (omega (arith, has.next));
    to = subst (λ z. z + closure_bytes (length new.captured) ≤ next + closure_bytes captures) (sym new_row)
        (omega (arith, new_length));
    even = ap (λ z. z % 4) new_row ∙ next_even;
    reads = ap (λ z. closure_at d'.closures z (length new.captured)) new_row
        ∙ ap (λ z. closure_at d'.closures next z) new_length
        ∙ made_closure (head_at d'.closures next) k (words_at d'.closures (next + 16) captures) new.captured
        (written_head next k d.closures)
        (words_above d'.closures d.closures (next + 16) captures ((next + 16) / 4) same_above (omega arith));
  }

  long : length (ks ++ new ∷ []) ≡ length ks + 1
  long = length-append ks (new ∷ [])

  stand_on : (n : ℕ) (x : Closure) → slice_get (ks ++ new ∷ []) n ≡ Some x → Stands d' (suc n) x
  stand_on n x e = elim (cases_lt n (length ks)) [
    | inl l ↦ old_stands n x l (sym (get_before ks new n l) ∙ e)
    | inr past ↦ (let l = get_below (ks ++ new ∷ []) n x e in
        let last : n ≡ length ks = omega (arith, past, l, long) in
        let is : new ≡ x =
        same_closure new x (sym (get_last ks new) ∙ ap (slice_get (ks ++ new ∷ [])) (sym last) ∙ e) in
        subst (λ y. Stands d' (suc n) y) is
        (subst (λ m. Stands d' (suc m) new) (has.count ∙ sym last) new_stands))
  ]

  pub closures_stand : HasClosures (ks ++ new ∷ []) d'
  closures_stand =
      let bytes = bytes_append ks new in
      let counted : row_count d' ≡ suc count = refl in
      let behind : next_closure d' ≡ next + closure_bytes captures = refl in
      record {
        global = has.global;
        count = omega (arith, counted, has.count, long);
        next = omega (arith, behind, has.next, bytes, new_length);
        within = omega (arith, bytes, new_length, room);
        stand = stand_on;
        words = update_words ((next + 12) / 4) k.parameters (f3 next k d.closures)
            (update_words ((next + 8) / 4) k.size (f2 next k d.closures)
            (update_words ((next + 4) / 4) k.kind (f1 next k d.closures)
            (update_words (next / 4) k.first d.closures has.words fits.first) fits.kind) fits.size) fits.parameters;
      }
