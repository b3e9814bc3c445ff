-- What the statements of an image give, together: the image.
use Rattle.std.proofs.Common.{◌≡◌, ℕ, ◌+◌, false, cond, List, [], ◌∷◌, ◌++◌, map, length, refl, ap, ◌∙◌, arith}
use Rattle.std.specs.List.{flat_map, count_by}
use Rattle.std.proofs.lemmas.List.Sums.{sum_by-cons}
use Rattle.image_file.specs.declared.image.FunctionEntry.{FunctionEntry}
use Rattle.image_file.specs.Image.{ImageParts, IsImage, image_of}
use Rattle.asm_words.specs.Data.{bytes_of}
use Rattle.asm_lines.specs.declared.line.Statement.{Statement}
use Rattle.asm_passes.specs.declared.item.Item.{Item}
use Rattle.asm_passes.specs.declared.item.Item.TheVariants as item
use Rattle.asm_passes.specs.Items.{words_of, data_of, functions_of}
use Rattle.asm_passes.specs.Positions.{is_entry, is_word}
use Rattle.asm_passes.specs.Values.{Known}
use Rattle.mips_text.specs.Assembly.{image}
use Rattle.mips_text_proof.proofs.Collected.{NoEntry, Gives, gives_nothing, gives_more, gives_all}
use Rattle.mips_text_proof.proofs.DataRows.{hexes, bytes_again}
use Rattle.mips_text_proof.proofs.WordRows.{word_statement, gives_word, word_no_entry, word_is_word}
use Rattle.mips_text_proof.proofs.Each.{function_statement}
use Rattle.mips_text_proof.proofs.Chunks.{chunk_at, chunks_whole, chunk_bytes}
use Rattle.mips_text_proof.proofs.Statements.{data_statement, places, later, rest}

-- ---- items of lists

abbrev pub data_item : List ℕ → ℕ → Item
data_item bs k = item.Data (hexes (chunk_at bs k))

abbrev pub later_items : ImageParts → List Item
later_items i = map (data_item i.bytes) (places i.bytes) ++ map item.Word i.text

-- All items of an image.
abbrev pub items : ImageParts → List Item
items i = item.Entry i.entry ∷ (map item.Function i.functions ++ later_items i)

-- Items that give nothing, before others.
none_of : {X A : Type 0} (h : Item → List A) (g : X → Item) (xs : List X) (is : List Item) → ((x : X) → h (g x) ≡ []) →
    flat_map h (map g xs ++ is) ≡ flat_map h is
none_of h g [] is e = refl
none_of h g (x ∷ xs) is e = ap (λ l. l ++ flat_map h (map g xs ++ is)) (e x) ∙ none_of h g xs is e

none_last : {X A : Type 0} (h : Item → List A) (g : X → Item) (xs : List X) → ((x : X) → h (g x) ≡ []) →
    flat_map h (map g xs) ≡ []
none_last h g [] e = refl
none_last h g (x ∷ xs) e = ap (λ l. l ++ flat_map h (map g xs)) (e x) ∙ none_last h g xs e

words_again : (ws : List ℕ) → flat_map words_of (map item.Word ws) ≡ ws
words_again [] = refl
words_again (w ∷ ws) = ap (λ l. w ∷ l) (words_again ws)

functions_again : (fs : List FunctionEntry) (is : List Item) → flat_map functions_of is ≡ [] →
    flat_map functions_of (map item.Function fs ++ is) ≡ fs
functions_again [] is e = e
functions_again (f ∷ fs) is e = ap (λ l. f ∷ l) (functions_again fs is e)

data_each : (bs ks : List ℕ) (is : List Item) → ((k : ℕ) → bytes_of (hexes (chunk_at bs k)) ≡ chunk_at bs k) →
    flat_map data_of is ≡ [] →
    flat_map data_of (map (data_item bs) ks ++ is) ≡ flat_map (chunk_at bs) ks
data_each bs [] is again e = e
data_each bs (k ∷ ks) is again e =
    ap (λ l. l ++ flat_map data_of (map (data_item bs) ks ++ is)) (again k)
    ∙ ap (λ l. chunk_at bs k ++ l) (data_each bs ks is again e)

-- ---- the parts

words_whole : (i : ImageParts) → flat_map words_of (items i) ≡ i.text
words_whole i =
    none_of words_of item.Function i.functions (later_items i) (λ f. refl)
    ∙ none_of words_of (data_item i.bytes) (places i.bytes) (map item.Word i.text) (λ k. refl)
    ∙ words_again i.text

data_whole : (i : ImageParts) → IsImage i → flat_map data_of (items i) ≡ i.bytes
data_whole i h =
    none_of data_of item.Function i.functions (later_items i) (λ f. refl)
    ∙ data_each i.bytes (places i.bytes) (map item.Word i.text)
    (λ k. bytes_again (chunk_at i.bytes k) (chunk_bytes i.bytes k h.each_byte_fits))
    (none_last data_of item.Word i.text (λ w. refl))
    ∙ chunks_whole i.bytes

functions_whole : (i : ImageParts) → flat_map functions_of (items i) ≡ i.functions
functions_whole i =
    functions_again i.functions (later_items i)
    (none_of functions_of (data_item i.bytes) (places i.bytes) (map item.Word i.text) (λ k. refl)
    ∙ none_last functions_of item.Word i.text (λ w. refl))

-- The items are the image.
pub image_again : (i : ImageParts) → IsImage i → image (items i) ≡ i
image_again i h =
    ap (λ t. image_of i.entry t (flat_map data_of (items i)) (flat_map functions_of (items i))) (words_whole i)
    ∙ ap (λ b. image_of i.entry i.text b (flat_map functions_of (items i))) (data_whole i h)
    ∙ ap (λ f. image_of i.entry i.text i.bytes f) (functions_whole i)

-- ---- what the statements give

gives_words : (k : Known) (ws : List ℕ) → Gives k (map word_statement ws) (map item.Word ws)
gives_words k [] = gives_nothing k
gives_words k (w ∷ ws) =
    gives_more k (word_statement w) (map word_statement ws) (item.Word w) (map item.Word ws) (word_no_entry w)
    (λ p. gives_word k p w) (gives_words k ws)

pub gives_later : (k : Known) (i : ImageParts) → Gives k (later i) (later_items i)
gives_later k i =
    gives_all k (data_statement i.bytes) (data_item i.bytes) (places i.bytes) (map word_statement i.text)
    (map item.Word i.text)
    (λ k. refl) (λ k p. refl) (gives_words k i.text)

-- ---- no entry, and as many words as the text has

no_entries : {X : Type 0} (f : X → Statement) (xs : List X) (ss : List Statement) → ((x : X) → is_entry (f x) ≡ false) →
    NoEntry ss →
    NoEntry (map f xs ++ ss)
no_entries f [] ss free h = h
no_entries f (x ∷ xs) ss free h = (free x, no_entries f xs ss free h)

no_entries_words : (ws : List ℕ) → NoEntry (map word_statement ws)
no_entries_words [] = tt
no_entries_words (w ∷ ws) = (word_no_entry w, no_entries_words ws)

pub rest_no_entry : (i : ImageParts) → NoEntry (rest i)
rest_no_entry i =
    no_entries function_statement i.functions (later i) (λ f. refl)
    (no_entries (data_statement i.bytes) (places i.bytes) (map word_statement i.text) (λ k. refl)
    (no_entries_words i.text))

no_words : {X : Type 0} (f : X → Statement) (xs : List X) (ss : List Statement) → ((x : X) → is_word (f x) ≡ false) →
    count_by is_word (map f xs ++ ss) ≡ count_by is_word ss
no_words f [] ss e = refl
no_words f (x ∷ xs) ss e =
    sum_by-cons (λ s. cond (is_word s) 1 0) (f x) (map f xs ++ ss)
    ∙ ap (λ t. cond t 1 0 + count_by is_word (map f xs ++ ss)) (e x)
    ∙ (let more = no_words f xs ss e in omega (arith, more))

all_words : (ws : List ℕ) → count_by is_word (map word_statement ws) ≡ length ws
all_words [] = refl
all_words (w ∷ ws) =
    sum_by-cons (λ s. cond (is_word s) 1 0) (word_statement w) (map word_statement ws)
    ∙ ap (λ t. cond t 1 0 + count_by is_word (map word_statement ws)) (word_is_word w)
    ∙ (let more = all_words ws in omega (arith, more))

pub rest_words : (i : ImageParts) → count_by is_word (rest i) ≡ length i.text
rest_words i =
    no_words function_statement i.functions (later i) (λ f. refl)
    ∙ no_words (data_statement i.bytes) (places i.bytes) (map word_statement i.text) (λ k. refl)
    ∙ all_words i.text
