-- What the rules of images say of the parts one by one.
use Rattle.std.proofs.Common.{◌≡◌, ℕ, ◌+◌, ◌*◌, ◌%◌, ◌<◌, ◌≤◌, ◌==◌, true, ◌&&◌, nat_lt, nat_le, List, [], ◌∷◌, length}
use Rattle.std.proofs.Common.{ltb-true, leb-true, arith}
use Rattle.std.specs.List.{list_all}
use Rattle.word32.specs.declared.map.TheConstants.{TEXT}
use Rattle.image_file.specs.declared.image.FunctionEntry.{FunctionEntry}
use Rattle.image_file.specs.Image.{ImageParts, IsImage, is_in_text, is_function_in}
use Rattle.mips_text_proof.proofs.Feeds.{both_left, both_right}
use Rattle.mips_text_proof.proofs.Each.{Each, each_from, IsFunction}

-- An address of a word of a small text is a word, and the text has words.
pub record IsInside (words address : ℕ) : Type 0 where
  pub low : address < 4294967296
  pub some : 0 < words

pub inside : (words a : ℕ) → words ≤ 15728640 → is_in_text words a ≡ true → IsInside words a
inside words a small h =
    let bounds : (nat_le TEXT a && nat_lt a (TEXT + 4 * words)) ≡ true =
    both_left (nat_le TEXT a && nat_lt a (TEXT + 4 * words)) (a % 4 == 0) h in
    let begin : TEXT ≤ a =
    leb-true TEXT a (both_left (nat_le TEXT a) (nat_lt a (TEXT + 4 * words)) bounds) in
    let end : a < TEXT + 4 * words =
    ltb-true a (TEXT + 4 * words) (both_right (nat_le TEXT a) (nat_lt a (TEXT + 4 * words)) bounds) in
    record { low = omega (arith, end, small); some = omega (arith, begin, end) }

-- A function that is in the text, whose numbers are words.
pub record IsWritten (words : ℕ) (f : FunctionEntry) : Type 0 where
  pub address : f.address < 4294967296
  pub count : f.count < 4294967296

function_in : (words : ℕ) (f : FunctionEntry) → is_function_in words f ≡ true → IsFunction words f
function_in words f h =
    let few : f.count ≤ 8 = leb-true f.count 8 (both_right (is_in_text words f.address) (nat_le f.count 8) h) in
    record { inside = both_left (is_in_text words f.address) (nat_le f.count 8) h; few = omega (arith, few) }

pub functions_in : (words : ℕ) (fs : List FunctionEntry) → list_all (is_function_in words) fs ≡ true →
    Each (IsFunction words) fs
functions_in words [] h = tt
functions_in words (f ∷ fs) h = (
  function_in words f (both_left (is_function_in words f) (list_all (is_function_in words) fs) h),
  functions_in words fs (both_right (is_function_in words f) (list_all (is_function_in words) fs) h),
)

written_in : (words : ℕ) (f : FunctionEntry) → words ≤ 15728640 → IsFunction words f → IsWritten words f
written_in words f small h =
    let few = h.few in
    record { address = (inside words f.address small h.inside).low; count = omega (arith, few) }

pub functions_written : (words : ℕ) (fs : List FunctionEntry) → words ≤ 15728640 → Each (IsFunction words) fs →
    Each (IsWritten words) fs
functions_written words [] small h = tt
functions_written words (f ∷ fs) small h = (written_in words f small h.0, functions_written words fs small h.1)

pub entry_in : (i : ImageParts) → IsImage i → is_in_text (length i.text) i.entry ≡ true
entry_in i h = both_left (is_in_text (length i.text) i.entry) (list_all (is_function_in (length i.text)) i.functions)
    h.entries_are_good

pub image_functions : (i : ImageParts) → IsImage i → Each (IsFunction (length i.text)) i.functions
image_functions i h =
    functions_in (length i.text) i.functions
    (both_right (is_in_text (length i.text) i.entry) (list_all (is_function_in (length i.text)) i.functions)
    h.entries_are_good)

pub image_words : (i : ImageParts) → IsImage i → Each (λ w. w < 4294967296) i.text
image_words i h = each_from (λ w. w < 4294967296) i.text 0 (λ k lt. h.each_word_fits k)
