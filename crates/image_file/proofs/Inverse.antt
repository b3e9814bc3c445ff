-- The format both ways: the spelling of an image is parsed as that image, and bytes that are parsed as an image are
-- its spelling.
use Rattle.std.proofs.Common.{zero, lit<, IfOk}
use Rattle.std.proofs.lemmas.List.{length-take}
use Rattle.word32.specs.Bytes.{word_in}
use Rattle.image_file.specs.Format.{Answers}
use Rattle.image_file.specs.declared.fault.ImageDeny.{ImageDeny}
use Rattle.std.proofs.Common.{
  ◌≡◌,
  ℕ,
  suc,
  ◌+◌,
  ◌*◌,
  ◌<◌,
  ◌≤◌,
  List,
  [],
  ◌∷◌,
  ◌++◌,
  length,
  length-append,
  take,
  drop,
  arith,
  refl,
  ap,
  sym,
  ◌∙◌,
  subst,
  append_assoc,
  append-nil,
  true,
  false,
  Bool,
  Option,
  Some,
  None,
  Result,
  Ok,
  Err,
}
use Rattle.std.specs.Prelude.{slice_index, ◌&&◌, ◌==◌, nat_le}
use Rattle.std.specs.List.{list_all, flat_map}
use Rattle.std.proofs.Math.Seq.{take-length}
use Rattle.std.proofs.lemmas.List.{length-take, length-take-le, length-drop}
use Rattle.std.proofs.lemmas.Bool.{eqb-true}
use Rattle.limits.specs.declared.program.TheConstants.{MOST_FUNCTIONS}
use Rattle.word32.specs.declared.map.TheConstants.{GLOBAL_BYTES, TEXT_WORDS}
use Rattle.image_file.specs.Image.{ImageParts, image_of, IsImage, is_function_in, is_in_text, has_good_entries}
use Rattle.image_file.specs.Format.{
  word_bytes,
  function_bytes,
  header,
  spelling,
  words_in,
  functions_in,
  data_at,
  functions_at,
  end_at,
  parts_in,
  has_small_counts,
  rule,
  fault_of,
  or_fault,
  parsed,
}
use Rattle.image_file.specs.declared.image.FunctionEntry.{FunctionEntry}
use Rattle.image_file.specs.declared.fault.ImageFault.{ImageFault}
use Rattle.image_file.specs.declared.fault.ImageDeny.{ImageDeny}
use Rattle.image_file.specs.declared.fault.ImageFault.TheVariants.{Short, Magic, Version, Counts, Entry, Trailing}
use Rattle.image_file.proofs.Words.{
  word_bytes-word_in,
  joined,
  words_in-bytes,
  functions_in-bytes,
  words_in-at,
  functions_in-at,
  length_words_in,
  length-functions_in,
  length-words,
  length-functions,
  part_at,
  and_right,
}

-- What holds of bytes that break no rule.
pub record Sound (bytes : List ℕ) : Type 0 where
  pub is_long : 24 ≤ length bytes
  pub has_magic : word_in bytes 0 ≡ 0x5449434b
  pub has_version : word_in bytes 4 ≡ 1
  pub text_is_small : word_in bytes 12 ≤ TEXT_WORDS
  pub bytes_are_few : word_in bytes 16 ≤ GLOBAL_BYTES
  pub functions_are_few : word_in bytes 20 ≤ MOST_FUNCTIONS
  pub ends : length bytes ≡ end_at bytes
  pub entries_are_good : has_good_entries (parts_in bytes) ≡ true

rule_holds : (holds : Bool) (f : ImageFault) (later : Option ImageFault) → rule holds f later ≡ None → holds ≡ true
rule_holds true f later h = refl
rule_holds false f later h = cc

rule_later : (holds : Bool) (f : ImageFault) (later : Option ImageFault) → rule holds f later ≡ None → later ≡ None
rule_later true f later h = h
rule_later false f later h = cc

-- seven rules in a row
seven : (a b c d e f g : Bool) (A B C D E F G : ImageFault) →
    rule a A (rule b B (rule c C (rule d D (rule e E (rule f F (rule g G None)))))) ≡ None →
    (a ≡ true) × (b ≡ true) × (c ≡ true) × (d ≡ true) × (e ≡ true) × (f ≡ true) × (g ≡ true)
seven a b c d e f g A B C D E F G h =
    let h1 : rule b B (rule c C (rule d D (rule e E (rule f F (rule g G None))))) ≡ None = rule_later a A _ h in
    let h2 : rule c C (rule d D (rule e E (rule f F (rule g G None)))) ≡ None = rule_later b B _ h1 in
    let h3 : rule d D (rule e E (rule f F (rule g G None))) ≡ None = rule_later c C _ h2 in
    let h4 : rule e E (rule f F (rule g G None)) ≡ None = rule_later d D _ h3 in
    let h5 : rule f F (rule g G None) ≡ None = rule_later e E _ h4 in
    let h6 : rule g G None ≡ None = rule_later f F _ h5 in (
      rule_holds a A _ h,
      rule_holds b B _ h1,
      rule_holds c C _ h2,
      rule_holds d D _ h3,
      rule_holds e E _ h4,
      rule_holds f F _ h5,
      rule_holds g G _ h6,
    )

all_seven : (a b c d e f g : Bool) (A B C D E F G : ImageFault) →
    a ≡ true → b ≡ true → c ≡ true → d ≡ true → e ≡ true → f ≡ true → g ≡ true →
    rule a A (rule b B (rule c C (rule d D (rule e E (rule f F (rule g G None)))))) ≡ None
all_seven a b c d e f g A B C D E F G ha hb hc hd he hf hg = simp (ha, hb, hc, hd, he, hf, hg) refl

pub sound : (bytes : List ℕ) → fault_of bytes ≡ None → Sound bytes
sound bytes h =
    let s = seven _ _ _ _ _ _ _ _ _ _ _ _ _ _ h in
    let long : nat_le 24 (length bytes) ≡ true = s.0 in
    let magic : (word_in bytes 0 == 0x5449434b) ≡ true = s.1 in
    let version : (word_in bytes 4 == 1) ≡ true = s.2 in
    let counts : has_small_counts bytes ≡ true = s.3 in
    let reaches : nat_le (end_at bytes) (length bytes) ≡ true = s.4 in
    let stops : nat_le (length bytes) (end_at bytes) ≡ true = s.6 in
    record {
      is_long = grind arith;
      has_magic = eqb-true (word_in bytes 0) 0x5449434b magic;
      has_version = eqb-true (word_in bytes 4) 1 version;
      text_is_small = grind arith;
      bytes_are_few = grind arith;
      functions_are_few = grind arith;
      ends = grind arith;
      entries_are_good = s.5;
    }

or_fault_ok : (o : Option ImageFault) (p i : ImageParts) → or_fault o p ≡ Ok i → (o ≡ None) × (p ≡ i)
or_fault_ok None p i h = (refl, cc)
or_fault_ok (Some f) p i h = cc

-- the spelling of what is parsed
pub spelling-parts_in : (bytes : List ℕ) → ((k : ℕ) → slice_index bytes k < 256) → Sound bytes
    → spelling (parts_in bytes) ≡ bytes
spelling-parts_in bytes small s =
    let n : ℕ = word_in bytes 12 in
    let d : ℕ = word_in bytes 16 in
    let f : ℕ = word_in bytes 20 in
    let long : 24 ≤ length bytes = s.is_long in
    let ends : length bytes ≡ end_at bytes = s.ends in
    let data_length : length (take d (drop (data_at bytes) bytes)) ≡ d
    = length-take-le d (drop (data_at bytes) bytes) (omega (arith, length-drop (data_at bytes) bytes)) in
    let word : (at : ℕ) → at + 4 ≤ length bytes → word_bytes (word_in bytes at) ≡ take 4 (drop at bytes)
    = λ at h. word_bytes-word_in bytes at small h in
    let w0 : word_bytes 0x5449434b ≡ take 4 (drop 0 bytes) = ap word_bytes (sym s.has_magic) ∙ word 0 (omega arith) in
    let w4 : word_bytes 1 ≡ take 4 (drop 4 bytes) = ap word_bytes (sym s.has_version) ∙ word 4 (omega arith) in
    let w8 : word_bytes (word_in bytes 8) ≡ take 4 (drop 8 bytes) = word 8 (omega arith) in
    let w12 : word_bytes (length (words_in bytes 24 n)) ≡ take 4 (drop 12 bytes)
    = ap word_bytes (length_words_in bytes 24 n) ∙ word 12 (omega arith) in
    let w16 : word_bytes (length (take d (drop (data_at bytes) bytes))) ≡ take 4 (drop 16 bytes)
    = ap word_bytes data_length ∙ word 16 (omega arith) in
    let w20 : word_bytes (length (functions_in bytes (functions_at bytes) f)) ≡ take 4 (drop 20 bytes)
    = ap word_bytes (length-functions_in bytes (functions_at bytes) f) ∙ word 20 (omega arith) in
    let from16 = joined bytes 16 4 4 20 8 _ _ w16 w20 refl refl in
    let from12 = joined bytes 12 4 8 16 12 _ _ w12 from16 refl refl in
    let from8 = joined bytes 8 4 12 12 16 _ _ w8 from12 refl refl in
    let from4 = joined bytes 4 4 16 8 20 _ _ w4 from8 refl refl in
    let from0 = joined bytes 0 4 20 4 24 _ _ w0 from4 refl refl in
    let text : flat_map word_bytes (words_in bytes 24 n) ≡ take (4 * n) (drop 24 bytes)
    = words_in-bytes bytes 24 n small (omega arith) in
    let functions : flat_map function_bytes (functions_in bytes (functions_at bytes) f) ≡ take (8 * f)
    (drop (functions_at bytes) bytes)
    = functions_in-bytes bytes (functions_at bytes) f small (omega arith) in
    let from_data
    = joined bytes (data_at bytes) d (8 * f) (functions_at bytes) (d + 8 * f) _ _ refl functions refl refl in
    let from24 = joined bytes 24 (4 * n) (d + 8 * f) (data_at bytes) (4 * n + (d + 8 * f)) _ _ text from_data refl refl
    in
    joined bytes 0 24 (4 * n + (d + 8 * f)) 24 (length bytes) _ _ from0 from24 refl (omega arith) ∙ take-length bytes

pub spelling-parsed : (bytes : List ℕ) (i : ImageParts) → ((k : ℕ) → slice_index bytes k < 256) → parsed bytes ≡ Ok i
    → spelling i ≡ bytes
spelling-parsed bytes i small h =
    let p : (fault_of bytes ≡ None) × (parts_in bytes ≡ i) = or_fault_ok (fault_of bytes) (parts_in bytes) i h in
    ap spelling (sym p.1) ∙ spelling-parts_in bytes small (sound bytes p.0)

pub parts_eq : {e : ℕ} {t b : List ℕ} {f : List FunctionEntry} {i : ImageParts} →
    e ≡ i.entry → t ≡ i.text → b ≡ i.bytes → f ≡ i.functions → image_of e t b f ≡ i
parts_eq {e} {t} {b} {f} {i} he ht hb hf =
    ap (λ x. image_of x t b f) he
    ∙ (ap (λ x. image_of i.entry x b f) ht
    ∙ (ap (λ x. image_of i.entry i.text x f) hb
    ∙ ap (λ x. image_of i.entry i.text i.bytes x) hf))

nat_le-true : (a b : ℕ) → a ≤ b → nat_le a b ≡ true
nat_le-true a b h = grind arith

and_both : (a b : Bool) → a ≡ true → b ≡ true → (a && b) ≡ true
and_both true b h k = k
and_both false b h k = h

small_counts : (bytes : List ℕ) → word_in bytes 12 ≤ TEXT_WORDS → word_in bytes 16 ≤ GLOBAL_BYTES →
    word_in bytes 20 ≤ MOST_FUNCTIONS →
    has_small_counts bytes ≡ true
small_counts bytes h12 h16 h20 =
    and_both (nat_le (word_in bytes 12) TEXT_WORDS && nat_le (word_in bytes 16) GLOBAL_BYTES)
    (nat_le (word_in bytes 20) MOST_FUNCTIONS)
    (and_both (nat_le (word_in bytes 12) TEXT_WORDS) (nat_le (word_in bytes 16) GLOBAL_BYTES)
    (nat_le-true (word_in bytes 12) TEXT_WORDS h12) (nat_le-true (word_in bytes 16) GLOBAL_BYTES h16))
    (nat_le-true (word_in bytes 20) MOST_FUNCTIONS h20)

-- what is parsed of a spelling
pub parsed-spelling : (i : ImageParts) → IsImage i → parsed (spelling i) ≡ Ok i
parsed-spelling i h =
    let b : List ℕ = spelling i in
    let n : ℕ = length i.text in
    let d : ℕ = length i.bytes in
    let f : ℕ = length i.functions in
    let F : List ℕ = flat_map word_bytes i.text in
    let G : List ℕ = flat_map function_bytes i.functions in
    let w12 : word_in b 12 ≡ n = omega arith in
    let w16 : word_in b 16 ≡ d = omega arith in
    let w20 : word_in b 20 ≡ f = omega arith in
    let at_data : data_at b ≡ 24 + 4 * n = ap (λ k. 24 + 4 * k) w12 in
    let at_functions : functions_at b ≡ 24 + 4 * n + d = omega arith in
    let at_end : end_at b ≡ 24 + 4 * n + d + 8 * f = omega arith in
    let long : length b ≡ 24 + 4 * n + d + 8 * f
    = omega (
      arith,
      length-append F (i.bytes ++ G),
      length-append i.bytes G,
      length-words i.text,
      length-functions i.functions,
    ) in
    let entry_is : word_in b 8 ≡ i.entry = omega arith in
    let text_is : words_in b 24 (word_in b 12) ≡ i.text
    = ap (words_in b 24) w12 ∙ words_in-at (header i) i.text (i.bytes ++ G) 24 h.each_word_fits refl in
    let before_data : length (header i ++ F) ≡ 24 + 4 * n
    = length-append (header i) F ∙ ap (λ k. 24 + k) (length-words i.text) in
    let split : (header i ++ F) ++ (i.bytes ++ G) ≡ b = append_assoc (header i) F (i.bytes ++ G) in
    let bytes_are : take (word_in b 16) (drop (data_at b) b) ≡ i.bytes
    = ap (λ l. take (word_in b 16) (drop (data_at b) l)) (sym split)
    ∙ part_at (header i ++ F) i.bytes G (data_at b) (word_in b 16) (before_data ∙ sym at_data) (sym w16) in
    let before : List ℕ = (header i ++ F) ++ i.bytes in
    let before_functions : length before ≡ 24 + 4 * n + d
    = length-append (header i ++ F) i.bytes ∙ ap (λ k. k + d) before_data in
    let split_last : before ++ (G ++ []) ≡ b
    = ap (λ l. before ++ l) (append-nil G) ∙ (append_assoc (header i ++ F) i.bytes G ∙ split) in
    let good : list_all (is_function_in n) i.functions ≡ true
    = and_right (is_in_text n i.entry) (list_all (is_function_in n) i.functions) h.entries_are_good in
    let functions_are : functions_in b (functions_at b) (word_in b 20) ≡ i.functions
    = ap (functions_in b (functions_at b)) w20
    ∙ (ap (λ l. functions_in l (functions_at b) f) (sym split_last)
    ∙ functions_in-at before i.functions [] (functions_at b) n h.text_is_small good
    (before_functions ∙ sym at_functions)) in
    let parts_are : parts_in b ≡ i = parts_eq entry_is text_is bytes_are functions_are in
    let none : fault_of b ≡ None
    = all_seven _ _ _ _ _ _ _ Short Magic Version Counts Short Entry Trailing
    (nat_le-true 24 (length b) (omega arith)) refl refl
    (small_counts b (omega (arith, h.text_is_small)) (omega (arith, h.bytes_are_few))
    (omega (arith, h.functions_are_few)))
    (nat_le-true (end_at b) (length b) (omega arith))
    (ap has_good_entries parts_are ∙ h.entries_are_good)
    (nat_le-true (length b) (end_at b) (omega arith)) in
    ap (λ o. or_fault o (parts_in b)) none ∙ ap Ok parts_are

-- what an answer says of the bytes
pub answer-spelling : (bytes : List ℕ) (r : Result ImageParts ImageDeny) → ((k : ℕ) → slice_index bytes k < 256) →
    Answers (parsed bytes) r → IfOk r (λ i. spelling i ≡ bytes)
answer-spelling bytes (Ok i) small h = spelling-parsed bytes i small h
answer-spelling bytes (Err e) small h = tt

pub answer-accepts : (bytes : List ℕ) (r : Result ImageParts ImageDeny) → Answers (parsed bytes) r →
    (i : ImageParts) → IsImage i → spelling i ≡ bytes → Answers (Ok i) r
answer-accepts bytes r h i image e =
    let p : parsed bytes ≡ Ok i = ap parsed (sym e) ∙ parsed-spelling i image in
    subst (λ (q : Result ImageParts ImageFault). Answers q r) p h

-- what is written is read back
pub written-parsed : {V E : Type 0} (items : V → List ℕ) (r : Result V E) (i : ImageParts) → IsImage i →
    IfOk r (λ v. items v ≡ spelling i) → IfOk r (λ v. parsed (items v) ≡ Ok i)
written-parsed items (Ok v) i image h = ap parsed h ∙ parsed-spelling i image
written-parsed items (Err e) i image h = tt

-- the parts that bytes spell are an image
take_small : (xs : List ℕ) (n k bound : ℕ) → 0 < bound → ((k : ℕ) → slice_index xs k < bound)
    → slice_index (take n xs) k < bound
take_small xs zero k bound h small = h
take_small [] (suc n) k bound h small = h
take_small (x ∷ xs) (suc n) zero bound h small = small 0
take_small (x ∷ xs) (suc n) (suc k) bound h small = take_small xs n k bound h (λ j. small (suc j))

drop_small : (xs : List ℕ) (n k bound : ℕ) → 0 < bound → ((k : ℕ) → slice_index xs k < bound)
    → slice_index (drop n xs) k < bound
drop_small xs zero k bound h small = small k
drop_small [] (suc n) k bound h small = h
drop_small (x ∷ xs) (suc n) k bound h small = drop_small xs n k bound h (λ j. small (suc j))

word_small : (bytes : List ℕ) (at : ℕ) → ((k : ℕ) → slice_index bytes k < 256) → word_in bytes at < 4294967296
word_small bytes at small =
    let a : slice_index bytes at < 256 = small at in
    let b : slice_index bytes (at + 1) < 256 = small (at + 1) in
    let c : slice_index bytes (at + 2) < 256 = small (at + 2) in
    let d : slice_index bytes (at + 3) < 256 = small (at + 3) in
    omega arith

words_small : (bytes : List ℕ) (at n k : ℕ) → ((k : ℕ) → slice_index bytes k < 256)
    → slice_index (words_in bytes at n) k < 4294967296
words_small bytes at zero k small = lit< tt
words_small bytes at (suc n) zero small = word_small bytes at small
words_small bytes at (suc n) (suc k) small = words_small bytes (at + 4) n k small

pub parts_in-image : (bytes : List ℕ) → ((k : ℕ) → slice_index bytes k < 256) → Sound bytes → IsImage (parts_in bytes)
parts_in-image bytes small s = record {
  each_word_fits = λ k. words_small bytes 24 (word_in bytes 12) k small;
  each_byte_fits = λ k. take_small (drop (data_at bytes) bytes) (word_in bytes 16) k 256 (lit< tt)
      (λ j. drop_small bytes (data_at bytes) j 256 (lit< tt) small);
  text_is_small = omega (arith, s.text_is_small, length_words_in bytes 24 (word_in bytes 12));
  bytes_are_few = omega (arith, s.bytes_are_few, length-take (word_in bytes 16) (drop (data_at bytes) bytes));
  functions_are_few = omega
      (arith, s.functions_are_few, length-functions_in bytes (functions_at bytes) (word_in bytes 20));
  entries_are_good = s.entries_are_good;
}
