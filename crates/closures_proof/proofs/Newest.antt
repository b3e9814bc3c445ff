-- The newest closure, and the captured words that it gets.
use Rattle.std.proofs.Common.{◌≡◌, ◌≢◌, inl, inr, ℕ, zero, suc, ◌+◌, ◌*◌, ◌/◌, ◌%◌, ◌<◌, ◌≤◌, List, [], ◌∷◌, ◌++◌}
use Rattle.std.proofs.Common.{length, Some, refl, sym, ap, ◌∙◌, subst, arith, slice_get}
use Rattle.std.proofs.lemmas.Bool.{cases_lt, cases_eq}
use Rattle.std.proofs.lemmas.List.{length-append}
use Rattle.word32.specs.Space.{update, AreWords}
use Rattle.word32.specs.declared.map.TheConstants.{CLOSURES, CLOSURE_BYTES}
use Rattle.mips_model.specs.State.{Data}
use Rattle.meaning_state.specs.Rows.{closure_bytes}
use Rattle.icode_templates_proof.proofs.Memory.{update_same, update_other}
use Rattle.icode_templates_proof.specs.Closures.{Head, Closure, word_at, with_word, words_at, head_at, closure_at}
use Rattle.icode_templates_proof.specs.Closures.{row_place}
use Rattle.icode_templates_proof.specs.Closures.{closure_of, row_count, next_closure, appended, Stands, bytes_of}
use Rattle.icode_templates_proof.specs.Closures.{HasClosures}
use Rattle.icode_templates_proof.specs.RoutineLaws.{HeadFits}
use Rattle.icode_templates_proof.proofs.Checking.{get_below}
use Rattle.icode_templates_proof.proofs.Standing.{closures_stand}
use Rattle.closures_proof.specs.Ops.{newest_closure, HasPlace, with_captured, replaced, HasNewest}

-- ---- words of a space

words_below : (f g : ℕ → ℕ) (a count m : ℕ) → ((x : ℕ) → x < m → f x ≡ g x) → a + 4 * count ≤ 4 * m →
    words_at f a count ≡ words_at g a count
words_below f g a zero m same to = refl
words_below f g a (suc count) m same to =
    let e = same (a / 4) (omega (arith, to)) in
    let rest = words_below f g (a + 4) count m same (omega (arith, to)) in
    ap (λ x. x ∷ words_at f (a + 4) count) e ∙ ap (λ xs. g (a / 4) ∷ xs) rest

words_above : (f g : ℕ → ℕ) (a count m : ℕ) → ((x : ℕ) → m ≤ x → f x ≡ g x) → 4 * m ≤ a →
    words_at f a count ≡ words_at g a count
words_above f g a zero m same from = refl
words_above f g a (suc count) m same from =
    let e = same (a / 4) (omega (arith, from)) in
    let rest = words_above f g (a + 4) count m same (omega (arith, from)) in
    ap (λ x. x ∷ words_at f (a + 4) count) e ∙ ap (λ xs. g (a / 4) ∷ xs) rest

-- one of them is written
words_replaced : (f : ℕ → ℕ) (a count i x : ℕ) → a % 4 ≡ 0 → i < count →
    words_at (with_word (a + 4 * i) x f) a count ≡ replaced i x (words_at f a count)
words_replaced f a zero i x even l = let z : ⊥ = omega (arith, l) in absurd z
words_replaced f a (suc count) zero x even l =
    let g = with_word a x f in
    let here : a + 4 * 0 ≡ a = omega arith in
    let first : g (a / 4) ≡ x = update_same (a / 4) x f in
    let rest = words_above g f (a + 4) count ((a + 4) / 4)
    (λ n h. update_other (a / 4) x f n (omega (arith, h))) (omega arith) in
    ap (λ n. words_at (with_word n x f) a (suc count)) here
    ∙ ap (λ n. n ∷ words_at g (a + 4) count) first ∙ ap (λ ns. x ∷ ns) rest
words_replaced f a (suc count) (suc i) x even l =
    let g = with_word (a + 4 * suc i) x f in
    let first : g (a / 4) ≡ f (a / 4) = update_other ((a + 4 * suc i) / 4) x f (a / 4) (omega (arith, even)) in
    let there : a + 4 * suc i ≡ a + 4 + 4 * i = omega arith in
    let rest : words_at g (a + 4) count ≡ replaced i x (words_at f (a + 4) count) =
    ap (λ n. words_at (with_word n x f) (a + 4) count) there
    ∙ words_replaced f (a + 4) count i x (omega (arith, even)) (omega (arith, l)) in
    ap (λ n. n ∷ words_at g (a + 4) count) first ∙ ap (λ ns. f (a / 4) ∷ ns) rest

replaced_length : (i x : ℕ) (xs : List ℕ) → length (replaced i x xs) ≡ length xs
replaced_length i x [] = refl
replaced_length zero x (y ∷ ys) = refl
replaced_length (suc i) x (y ∷ ys) = ap suc (replaced_length i x ys)

-- ---- closures in spaces

abbrev head : (first kind size parameters : ℕ) → Head
head first kind size parameters = record { first = first; kind = kind; size = size; parameters = parameters }

abbrev closure : Head → List ℕ → Closure
closure h ws = record { head = h; captured = ws }

heads_same : (f g : ℕ → ℕ) (a : ℕ) → f (a / 4) ≡ g (a / 4) → f ((a + 4) / 4) ≡ g ((a + 4) / 4) →
    f ((a + 8) / 4) ≡ g ((a + 8) / 4) → f ((a + 12) / 4) ≡ g ((a + 12) / 4) → head_at f a ≡ head_at g a
heads_same f g a p q r s =
    ap (λ x. head x (f ((a + 4) / 4)) (f ((a + 8) / 4)) (f ((a + 12) / 4))) p
    ∙ ap (λ x. head (g (a / 4)) x (f ((a + 8) / 4)) (f ((a + 12) / 4))) q
    ∙ ap (λ x. head (g (a / 4)) (g ((a + 4) / 4)) x (f ((a + 12) / 4))) r
    ∙ ap (head (g (a / 4)) (g ((a + 4) / 4)) (g ((a + 8) / 4))) s

closures_same : (h h' : Head) (ws ws' : List ℕ) → h ≡ h' → ws ≡ ws' → closure h ws ≡ closure h' ws'
closures_same h h' ws ws' p q = ap (λ x. closure x ws) p ∙ ap (closure h') q

closure_below : (f g : ℕ → ℕ) (a captures m : ℕ) → ((x : ℕ) → x < m → f x ≡ g x) →
    a + closure_bytes captures ≤ 4 * m → closure_at f a captures ≡ closure_at g a captures
closure_below f g a captures m same to =
    closures_same (head_at f a) (head_at g a) (words_at f (a + 16) captures) (words_at g (a + 16) captures)
    (heads_same f g a (same (a / 4) (omega (arith, to))) (same ((a + 4) / 4) (omega (arith, to)))
    (same ((a + 8) / 4) (omega (arith, to))) (same ((a + 12) / 4) (omega (arith, to))))
    (words_below f g (a + 16) captures m same (omega (arith, to)))

update_words : (n x : ℕ) (f : ℕ → ℕ) → AreWords f → x < 4294967296 → AreWords (update n x f)
update_words n x f words b m = elim (cases_eq m n) [
  | inl e ↦ subst (λ z. update n x f z < 4294967296) (sym e) (subst (λ z. z < 4294967296)
      (sym (update_same n x f)) b)
  | inr ne ↦ subst (λ z. z < 4294967296) (sym (update_other n x f m ne)) (words m)
]

-- ---- lists

get_before : (ks : List Closure) (x : Closure) (n : ℕ) → n < length ks → slice_get (ks ++ x ∷ []) n ≡ slice_get ks n
get_before [] x n l = let z : ⊥ = omega (arith, l) in absurd z
get_before (k ∷ ks) x zero l = refl
get_before (k ∷ ks) x (suc n) l = get_before ks x n (omega (arith, l))

get_last : (ks : List Closure) (x : Closure) → slice_get (ks ++ x ∷ []) (length ks) ≡ Some x
get_last [] x = refl
get_last (k ∷ ks) x = get_last ks x

bytes_last : (ks : List Closure) (x : Closure) →
    bytes_of (ks ++ x ∷ []) ≡ bytes_of ks + closure_bytes (length x.captured)
bytes_last [] x = omega arith
bytes_last (k ∷ ks) x = let ih = bytes_last ks x in omega (arith, ih)

same_closure : (k k' : Closure) → Some k ≡ Some k' → k ≡ k'
same_closure k k' e = cc

-- ---- the newest one

pub newest_made : (ks : List Closure) (k : Head) (captures : ℕ) (d : Data) → HasClosures ks d →
    bytes_of ks + closure_bytes captures ≤ CLOSURE_BYTES → HeadFits k →
    HasNewest ks (record { head = k; captured = words_at d.closures (next_closure d + closure_bytes 0) captures })
    (appended k captures d)
newest_made ks k captures d has room fits =
    let e = appended k captures d in
    let count = row_count d in
    let old : (n : ℕ) → n < length ks → closure_of e (suc n) ≡ closure_of d (suc n) =
    λ n l. update_other (row_place (suc count) / 4) (next_closure d) d.spec_rows (row_place (suc n) / 4)
    (omega (arith, l, has.count)) in
    record {
      closures = closures_stand ks k captures d has room fits;
      newest = sym (ap (λ n. word_at e.spec_rows (row_place (suc n))) (sym has.count)
          ∙ update_same (row_place (suc count) / 4) (next_closure d) d.spec_rows);
      before = λ n other is. let s = has.stand n other is in let o = old n (get_below ks n other is) in
          omega (arith, o, s.to);
    }

module _ (ks : List Closure) (k : Closure) (i x : ℕ) (d : Data) (has : HasNewest ks k d) (l : i < length k.captured) (b
    :
    x < 4294967296) where
  abbrev d' : Data
  d' = with_captured i x d

  abbrev a : ℕ
  a = newest_closure d

  abbrev k' : Closure
  k' = closure k.head (replaced i x k.captured)

  abbrev written : ℕ
  written = (a + closure_bytes i) / 4

  s : Stands d (suc (length ks)) k
  s = has.closures.stand (length ks) k (get_last ks k)

  even : a % 4 ≡ 0
  even = ap (λ n. n % 4) has.newest ∙ s.even

  captures : ℕ
  captures = length k.captured

  pub has_place : HasPlace i d
  has_place = record {
    global = has.closures.global;
    from = omega (arith, has.newest, s.from);
    to = omega (arith, has.newest, s.to, has.closures.next, has.closures.within, l);
    even = even;
  }

  elsewhere : (n : ℕ) → n ≢ written → d'.closures n ≡ d.closures n
  elsewhere n h = update_other written x d.closures n h

  old_stands : (n : ℕ) (y : Closure) → slice_get ks n ≡ Some y → slice_get (ks ++ k ∷ []) n ≡ Some y →
      Stands d' (suc n) y
  old_stands n y there is =
      let o = has.closures.stand n y is in
      let before = has.before n y there in
      record {
        from = o.from;
        to = o.to;
        even = o.even;
        reads = closure_below d'.closures d.closures (closure_of d (suc n)) (length y.captured) (a / 4)
            (λ m h. elsewhere m (omega (arith, h, even))) (omega (arith, before, even)) ∙ o.reads;
      }

  read_head : head_at d.closures a ≡ k.head
  read_head = ap (λ n. head_at d.closures n) has.newest ∙ ap (λ (y : Closure). y.head) s.reads

  read_words : words_at d.closures (a + 16) (length k.captured) ≡ k.captured
  read_words =
      ap (λ n. words_at d.closures (n + 16) (length k.captured)) has.newest
      ∙ ap (λ (y : Closure). y.captured) s.reads

  long : length (replaced i x k.captured) ≡ length k.captured
  long = replaced_length i x k.captured

  new_stands : Stands d' (suc (length ks)) k'
  new_stands = record {
    from = s.from;
    to = omega (arith, s.to, long);
    even = s.even;
    reads =
        ap (λ n. closure_at d'.closures n (length (replaced i x k.captured))) (sym has.newest)
        ∙ ap (λ n. closure_at d'.closures a n) long
        ∙ closures_same (head_at d'.closures a) k.head (words_at d'.closures (a + 16) (length k.captured))
        (replaced i x k.captured)
        (heads_same d'.closures d.closures a (elsewhere (a / 4) (omega (arith, even)))
        (elsewhere ((a + 4) / 4) (omega (arith, even))) (elsewhere ((a + 8) / 4) (omega (arith, even)))
        (elsewhere ((a + 12) / 4) (omega (arith, even))) ∙ read_head)
        (ap (λ n. words_at (with_word n x d.closures) (a + 16) (length k.captured)) (omega arith)
        ∙ words_replaced d.closures (a + 16) (length k.captured) i x (omega (arith, even)) l
        ∙ ap (replaced i x) read_words);
  }

  count : length (ks ++ k' ∷ []) ≡ length (ks ++ k ∷ [])
  count = length-append ks (k' ∷ []) ∙ sym (length-append ks (k ∷ []))

  bytes : bytes_of (ks ++ k' ∷ []) ≡ bytes_of (ks ++ k ∷ [])
  bytes =
      bytes_last ks k' ∙ ap (λ n. bytes_of ks + closure_bytes n) long ∙ sym (bytes_last ks k)

  stand : (n : ℕ) (y : Closure) → slice_get (ks ++ k' ∷ []) n ≡ Some y → Stands d' (suc n) y
  stand n y is = elim (cases_lt n (length ks)) [
    | inl below ↦ (let there = sym (get_before ks k' n below) ∙ is in
        old_stands n y there (get_before ks k n below ∙ there))
    | inr past ↦ (let m = get_below (ks ++ k' ∷ []) n y is in
        let all = length-append ks (k' ∷ []) in
        let last : n ≡ length ks = omega (arith, past, m, all) in
        let same : k' ≡ y =
        same_closure k' y (sym (get_last ks k') ∙ ap (slice_get (ks ++ k' ∷ [])) (sym last) ∙ is) in
        subst (λ z. Stands d' (suc n) z) same (subst (λ z. Stands d' (suc z) k') (sym last) new_stands))
  ]

  pub words_put : HasNewest ks k' d'
  words_put = record {
    closures = record {
      global = has.closures.global;
      count = has.closures.count ∙ sym count;
      next = has.closures.next ∙ ap (λ n. CLOSURES + n) (sym bytes);
      within = omega (arith, bytes, has.closures.within);
      stand = stand;
      words = update_words written x d.closures has.closures.words b;
    };
    newest = has.newest;
    before = has.before;
  }
