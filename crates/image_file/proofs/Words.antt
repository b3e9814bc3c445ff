-- Words and functions among bytes, both ways: what is read of the bytes of a list of words is that list, and the
-- bytes of the words that are read are the bytes that they were read from.
use Rattle.std.proofs.Common.{
  ◌≡◌,
  ℕ,
  zero,
  suc,
  ◌+◌,
  ◌*◌,
  ◌/◌,
  ◌%◌,
  ◌<◌,
  ◌≤◌,
  List,
  [],
  ◌∷◌,
  ◌++◌,
  length,
  length-append,
  take,
  drop,
  arith,
  rules,
  refl,
  ap,
  sym,
  ◌∙◌,
  subst,
  add-one,
  add-zero,
  drop-drop,
  append_assoc,
  true,
  false,
  Bool,
}
use Rattle.std.specs.Prelude.{slice_index, ◌&&◌}
use Rattle.std.specs.List.{list_all, flat_map}
use Rattle.std.proofs.Math.Seq.{drop-cons, take-add, drop-append_seam, take-append_seam}
use Rattle.std.proofs.lemmas.List.{get_or-append-add}
use Rattle.std.proofs.lemmas.List.Folds.{list_all-append}
use Rattle.byteorder.specs.Endian.{big_bytes}
use Rattle.image_file.specs.Image.{is_function_in}
use Rattle.word32.specs.Bytes.{word_in}
use Rattle.image_file.specs.Format.{word_bytes, function_bytes, words_in, function_in, functions_in}
use Rattle.image_file.specs.declared.image.FunctionEntry.{FunctionEntry}

-- the four bytes of a word, as byteorder has them
big_word : (w : ℕ) → w < 4294967296 → big_bytes 4 w ≡ word_bytes w
big_word w low =
    let e : w / 16777216 % 256 ≡ w / 16777216 = omega arith in
    search rules

-- the four bytes of a word, of bytes that are bytes
pub four : (a b c d : ℕ) → a < 256 → b < 256 → c < 256 → d < 256 →
    word_bytes (16777216 * a + 65536 * b + 256 * c + d) ≡ a ∷ b ∷ c ∷ d ∷ []
four a b c d ha hb hc hd =
    let w : ℕ = 16777216 * a + 65536 * b + 256 * c + d in
    let e0 : w / 16777216 ≡ a = omega arith in
    let e1 : w / 65536 % 256 ≡ b = omega arith in
    let e2 : w / 256 % 256 ≡ c = omega arith in
    let e3 : w % 256 ≡ d = omega arith in
    cc

take_more : (bytes : List ℕ) (at n j : ℕ) → at < length bytes → j ≡ at + 1 →
    take (suc n) (drop at bytes) ≡ slice_index bytes at ∷ take n (drop j bytes)
take_more bytes at n j h e =
    let same : suc at ≡ j = omega arith in
    ap (take (suc n)) (drop-cons bytes at 0 h) ∙ ap (λ k. slice_index bytes at ∷ take n (drop k bytes)) same

pub take_four : (bytes : List ℕ) (at : ℕ) → at + 4 ≤ length bytes →
    take 4 (drop at bytes) ≡
    slice_index bytes at ∷ slice_index bytes (at + 1) ∷ slice_index bytes (at + 2) ∷ slice_index bytes (at + 3) ∷ []
take_four bytes at h =
    let e0 : take 4 (drop at bytes) ≡ slice_index bytes at ∷ take 3 (drop (at + 1) bytes)
    = take_more bytes at 3 (at + 1) (omega arith) refl in
    let e1 : take 3 (drop (at + 1) bytes) ≡ slice_index bytes (at + 1) ∷ take 2 (drop (at + 2) bytes)
    = take_more bytes (at + 1) 2 (at + 2) (omega arith) (omega arith) in
    let e2 : take 2 (drop (at + 2) bytes) ≡ slice_index bytes (at + 2) ∷ take 1 (drop (at + 3) bytes)
    = take_more bytes (at + 2) 1 (at + 3) (omega arith) (omega arith) in
    let e3 : take 1 (drop (at + 3) bytes) ≡ slice_index bytes (at + 3) ∷ []
    = take_more bytes (at + 3) 0 (at + 4) (omega arith) (omega arith) in
    cc

-- the bytes of the word that is read
pub word_bytes-word_in : (bytes : List ℕ) (at : ℕ) → ((k : ℕ) → slice_index bytes k < 256) → at + 4 ≤ length bytes →
    word_bytes (word_in bytes at) ≡ take 4 (drop at bytes)
word_bytes-word_in bytes at small h =
    four (slice_index bytes at) (slice_index bytes (at + 1)) (slice_index bytes (at + 2)) (slice_index bytes (at + 3))
    (small at) (small (at + 1)) (small (at + 2)) (small (at + 3))
    ∙ sym (take_four bytes at h)

-- the word that is read of a word's bytes
pub word_in-at : (pre : List ℕ) (w : ℕ) (post : List ℕ) (at : ℕ) → w < 4294967296 → length pre ≡ at →
    word_in (pre ++ (word_bytes w ++ post)) at ≡ w
word_in-at pre w post at h e =
    let all : List ℕ = pre ++ (word_bytes w ++ post) in
    let here : (n : ℕ) → slice_index all (at + n) ≡ slice_index (word_bytes w ++ post) n
    = λ n. subst (λ k. slice_index all (k + n) ≡ slice_index (word_bytes w ++ post) n) e
    (get_or-append-add pre (word_bytes w ++ post) n 0) in
    let e0 : slice_index all at ≡ w / 16777216 = subst (λ k. slice_index all k ≡ w / 16777216) (add-zero at) (here 0) in
    let e1 : slice_index all (at + 1) ≡ w / 65536 % 256 = here 1 in
    let e2 : slice_index all (at + 2) ≡ w / 256 % 256 = here 2 in
    let e3 : slice_index all (at + 3) ≡ w % 256 = here 3 in
    omega arith

-- neighbouring parts of a list, joined
pub joined : (bytes : List ℕ) (at n m next all : ℕ) (x y : List ℕ) →
    x ≡ take n (drop at bytes) → y ≡ take m (drop next bytes) → next ≡ at + n → all ≡ n + m
    → x ++ y ≡ take all (drop at bytes)
joined bytes at n m next all x y hx hy e sum =
    let d : List ℕ = drop at bytes in
    let there : drop next bytes ≡ drop n d = ap (λ k. drop k bytes) e ∙ sym (drop-drop n at bytes) in
    let right : y ≡ take m (drop n d) = hy ∙ ap (take m) there in
    let both : x ++ y ≡ take n d ++ take m (drop n d) = ap (λ l. l ++ y) hx ∙ ap (λ l. take n d ++ l) right in
    both ∙ (sym (take-add n m d) ∙ ap (λ k. take k d) (sym sum))

-- one word or one function more
words_in-suc : (bytes : List ℕ) (at n : ℕ) →
    words_in bytes at (suc n) ≡ words_in bytes at n ++ word_in bytes (at + 4 * n) ∷ []
words_in-suc bytes at zero = ap (λ k. word_in bytes k ∷ []) (let e : at ≡ at + 4 * 0 = omega arith in e)
words_in-suc bytes at (suc n) =
    ap (λ l. word_in bytes at ∷ l)
    (words_in-suc bytes (at + 4) n
    ∙ ap (λ k. words_in bytes (at + 4) n ++ word_in bytes k ∷ [])
    (let e : (at + 4) + 4 * n ≡ at + 4 * suc n = omega arith in e))

pub words_in_more : (bytes : List ℕ) (at n : ℕ) →
    words_in bytes at (n + 1) ≡ words_in bytes at n ++ word_in bytes (at + 4 * n) ∷ []
words_in_more bytes at n = ap (words_in bytes at) (add-one n) ∙ words_in-suc bytes at n

functions_in-suc : (bytes : List ℕ) (at n : ℕ) →
    functions_in bytes at (suc n) ≡ functions_in bytes at n ++ function_in bytes (at + 8 * n) ∷ []
functions_in-suc bytes at zero = ap (λ k. function_in bytes k ∷ []) (let e : at ≡ at + 8 * 0 = omega arith in e)
functions_in-suc bytes at (suc n) =
    ap (λ l. function_in bytes at ∷ l)
    (functions_in-suc bytes (at + 8) n
    ∙ ap (λ k. functions_in bytes (at + 8) n ++ function_in bytes k ∷ [])
    (let e : (at + 8) + 8 * n ≡ at + 8 * suc n = omega arith in e))

pub functions_in_more : (bytes : List ℕ) (at n : ℕ) →
    functions_in bytes at (n + 1) ≡ functions_in bytes at n ++ function_in bytes (at + 8 * n) ∷ []
functions_in_more bytes at n = ap (functions_in bytes at) (add-one n) ∙ functions_in-suc bytes at n

pub length_words_in : (bytes : List ℕ) (at n : ℕ) → length (words_in bytes at n) ≡ n
length_words_in bytes at zero = refl
length_words_in bytes at (suc n) = ap suc (length_words_in bytes (at + 4) n)

pub length-functions_in : (bytes : List ℕ) (at n : ℕ) → length (functions_in bytes at n) ≡ n
length-functions_in bytes at zero = refl
length-functions_in bytes at (suc n) = ap suc (length-functions_in bytes (at + 8) n)

-- so many words or functions, as their bytes
pub words_in-bytes : (bytes : List ℕ) (at n : ℕ) → ((k : ℕ) → slice_index bytes k < 256) → at + 4 * n ≤ length bytes →
    flat_map word_bytes (words_in bytes at n) ≡ take (4 * n) (drop at bytes)
words_in-bytes bytes at zero small h = refl
words_in-bytes bytes at (suc n) small h =
    let first : word_bytes (word_in bytes at) ≡ take 4 (drop at bytes)
    = word_bytes-word_in bytes at small (omega arith) in
    let rest : flat_map word_bytes (words_in bytes (at + 4) n) ≡ take (4 * n) (drop (at + 4) bytes)
    = words_in-bytes bytes (at + 4) n small (omega arith) in
    joined bytes at 4 (4 * n) (at + 4) (4 * suc n) _ _ first rest refl (omega arith)

pub functions_in-bytes : (bytes : List ℕ) (at n : ℕ) → ((k : ℕ) → slice_index bytes k < 256) →
    at + 8 * n ≤ length bytes →
    flat_map function_bytes (functions_in bytes at n) ≡ take (8 * n) (drop at bytes)
functions_in-bytes bytes at zero small h = refl
functions_in-bytes bytes at (suc n) small h =
    let address : word_bytes (word_in bytes at) ≡ take 4 (drop at bytes)
    = word_bytes-word_in bytes at small (omega arith) in
    let count : word_bytes (word_in bytes (at + 4)) ≡ take 4 (drop (at + 4) bytes)
    = word_bytes-word_in bytes (at + 4) small (omega arith) in
    let first : function_bytes (function_in bytes at) ≡ take 8 (drop at bytes)
    = joined bytes at 4 4 (at + 4) 8 _ _ address count refl refl in
    let rest : flat_map function_bytes (functions_in bytes (at + 8) n) ≡ take (8 * n) (drop (at + 8) bytes)
    = functions_in-bytes bytes (at + 8) n small (omega arith) in
    joined bytes at 8 (8 * n) (at + 8) (8 * suc n) _ _ first rest refl (omega arith)

-- the parts of a test of two parts
pub and_left : (a b : Bool) → (a && b) ≡ true → a ≡ true
and_left true b h = refl
and_left false b h = h

pub and_right : (a b : Bool) → (a && b) ≡ true → b ≡ true
and_right true b h = h
and_right false b h = cc

and-true : (b : Bool) → (b && true) ≡ b
and-true true = refl
and-true false = refl

-- an address in the text and a count of arguments are words
address_fits : (words : ℕ) (f : FunctionEntry) → words ≤ 15728640 → is_function_in words f ≡ true →
    f.address < 4294967296
address_fits words f few good = grind arith

count_fits : (words : ℕ) (f : FunctionEntry) → is_function_in words f ≡ true → f.count < 4294967296
count_fits words f good = grind arith

abbrev entry : ℕ → ℕ → FunctionEntry
entry a c = record { address = a; count = c }

entry_eq : {a c : ℕ} {f : FunctionEntry} → a ≡ f.address → c ≡ f.count → entry a c ≡ f
entry_eq {a} {c} {f} x y = ap (λ (b : ℕ). entry b c) x ∙ ap (λ (b : ℕ). entry f.address b) y

-- one function more keeps the rules
pub all_functions_more : (words : ℕ) (bytes : List ℕ) (at n : ℕ) →
    list_all (is_function_in words) (functions_in bytes at (n + 1)) ≡
    (list_all (is_function_in words) (functions_in bytes at n) && is_function_in words (function_in bytes (at + 8 * n)))
all_functions_more words bytes at n =
    ap (list_all (is_function_in words)) (functions_in_more bytes at n)
    ∙ (list_all-append (is_function_in words) (functions_in bytes at n) (function_in bytes (at + 8 * n) ∷ [])
    ∙ ap (λ b. list_all (is_function_in words) (functions_in bytes at n) && b)
    (and-true (is_function_in words (function_in bytes (at + 8 * n)))))

-- what is read of the bytes of words and of functions
pub words_in-at : (pre ws post : List ℕ) (at : ℕ) → ((k : ℕ) → slice_index ws k < 4294967296) → length pre ≡ at →
    words_in (pre ++ (flat_map word_bytes ws ++ post)) at (length ws) ≡ ws
words_in-at pre [] post at small e = refl
words_in-at pre (w ∷ ws) post at small e =
    let rest : List ℕ = flat_map word_bytes ws ++ post in
    let same : word_bytes w ++ rest ≡ flat_map word_bytes (w ∷ ws) ++ post
    = sym (append_assoc (word_bytes w) (flat_map word_bytes ws) post) in
    let all : pre ++ (word_bytes w ++ rest) ≡ pre ++ (flat_map word_bytes (w ∷ ws) ++ post) = ap (λ l. pre ++ l) same in
    let long : length (pre ++ word_bytes w) ≡ at + 4 = length-append pre (word_bytes w) ∙ ap (λ n. n + 4) e in
    let first : word_in (pre ++ (word_bytes w ++ rest)) at ≡ w = word_in-at pre w rest at (small 0) e in
    let later : words_in ((pre ++ word_bytes w) ++ rest) (at + 4) (length ws) ≡ ws
    = words_in-at (pre ++ word_bytes w) ws post (at + 4) (λ k. small (suc k)) long in
    let later_there : words_in (pre ++ (word_bytes w ++ rest)) (at + 4) (length ws) ≡ ws
    = ap (λ l. words_in l (at + 4) (length ws)) (sym (append_assoc pre (word_bytes w) rest)) ∙ later in
    let both : words_in (pre ++ (word_bytes w ++ rest)) at (suc (length ws)) ≡ w ∷ ws
    = ap (λ v. v ∷ words_in (pre ++ (word_bytes w ++ rest)) (at + 4) (length ws)) first ∙ ap (λ l. w ∷ l) later_there in
    ap (λ l. words_in l at (suc (length ws))) (sym all) ∙ both

pub functions_in-at : (pre : List ℕ) (fs : List FunctionEntry) (post : List ℕ) (at words : ℕ) → words ≤ 15728640 →
    list_all (is_function_in words) fs ≡ true → length pre ≡ at →
    functions_in (pre ++ (flat_map function_bytes fs ++ post)) at (length fs) ≡ fs
functions_in-at pre [] post at words few good e = refl
functions_in-at pre (f ∷ fs) post at words few good e =
    let good_first : is_function_in words f ≡ true = and_left (is_function_in words f) _ good in
    let good_rest : list_all (is_function_in words) fs ≡ true = and_right (is_function_in words f) _ good in
    let rest : List ℕ = flat_map function_bytes fs ++ post in
    let all : List ℕ = pre ++ (function_bytes f ++ rest) in
    let same : all ≡ pre ++ (flat_map function_bytes (f ∷ fs) ++ post)
    = ap (λ l. pre ++ l) (sym (append_assoc (function_bytes f) (flat_map function_bytes fs) post)) in
    let address : word_in all at ≡ f.address
    = word_in-at pre f.address (word_bytes f.count ++ rest) at (address_fits words f few good_first) e in
    let past_address : length (pre ++ word_bytes f.address) ≡ at + 4
    = length-append pre (word_bytes f.address) ∙ ap (λ n. n + 4) e in
    let count_there : word_in ((pre ++ word_bytes f.address) ++ (word_bytes f.count ++ rest)) (at + 4) ≡ f.count
    = word_in-at (pre ++ word_bytes f.address) f.count rest (at + 4) (count_fits words f good_first) past_address in
    let count : word_in all (at + 4) ≡ f.count
    = ap (λ l. word_in l (at + 4)) (sym (append_assoc pre (word_bytes f.address) (word_bytes f.count ++ rest))) ∙
    count_there in
    let long : length (pre ++ function_bytes f) ≡ at + 8 = length-append pre (function_bytes f) ∙ ap (λ n. n + 8) e in
    let later : functions_in ((pre ++ function_bytes f) ++ rest) (at + 8) (length fs) ≡ fs
    = functions_in-at (pre ++ function_bytes f) fs post (at + 8) words few good_rest long in
    let later_there : functions_in all (at + 8) (length fs) ≡ fs
    = ap (λ l. functions_in l (at + 8) (length fs)) (sym (append_assoc pre (function_bytes f) rest)) ∙ later in
    let first : function_in all at ≡ f = entry_eq address count in
    let both : functions_in all at (suc (length fs)) ≡ f ∷ fs
    = ap (λ g. g ∷ functions_in all (at + 8) (length fs)) first ∙ ap (λ l. f ∷ l) later_there in
    ap (λ l. functions_in l at (suc (length fs))) (sym same) ∙ both

-- the lengths
pub length-words : (ws : List ℕ) → length (flat_map word_bytes ws) ≡ 4 * length ws
length-words [] = refl
length-words (w ∷ ws) = omega (arith, length-append (word_bytes w) (flat_map word_bytes ws), length-words ws)

pub length-functions : (fs : List FunctionEntry) → length (flat_map function_bytes fs) ≡ 8 * length fs
length-functions [] = refl
length-functions (f ∷ fs) =
    omega (arith, length-append (function_bytes f) (flat_map function_bytes fs), length-functions fs)

-- a part behind others
pub part_at : (pre x post : List ℕ) (at n : ℕ) → length pre ≡ at → length x ≡ n
    → take n (drop at (pre ++ (x ++ post))) ≡ x
part_at pre x post at n e f =
    let there : drop at (pre ++ (x ++ post)) ≡ x ++ post
    = ap (λ k. drop k (pre ++ (x ++ post))) (sym e) ∙ drop-append_seam pre (x ++ post) in
    ap (take n) there ∙ (ap (λ k. take k (x ++ post)) (sym f) ∙ take-append_seam x post)

-- the bytes of words, as byteorder writes them
pub big_words : (ws : List ℕ) → ((i : ℕ) → slice_index ws i < 4294967296)
    → flat_map (big_bytes 4) ws ≡ flat_map word_bytes ws
big_words [] fits = refl
big_words (w ∷ ws) fits =
    ap (λ (bytes : List ℕ). bytes ++ flat_map (big_bytes 4) ws) (big_word w (fits 0))
    ∙ ap (λ (bytes : List ℕ). word_bytes w ++ bytes) (big_words ws (λ i. fits (suc i)))
