-- The statements of the text of an image, and that its text is these statements.
use Rattle.std.proofs.Common.{◌≡◌, ℕ, ◌<◌, true, List, [], ◌∷◌, ◌++◌, map, length, ◌∙◌, codes}
use Rattle.std.specs.Prelude.{decimal}
use Rattle.std.specs.Int.{div_ceil}
use Rattle.std.specs.List.{list_all, flat_map, range_with_len}
use Rattle.std.proofs.lemmas.List.Folds.{list_all-append}
use Rattle.image_file.specs.declared.image.FunctionEntry.{FunctionEntry}
use Rattle.image_file.specs.Image.{ImageParts, IsImage}
use Rattle.asm_print.specs.Numbers.{prefixed_word}
use Rattle.asm_print.specs.Text.{text_of, entry_line, function_line, data_line_at, data_lines, word_line}
use Rattle.asm_lines.specs.declared.line.Statement.{Statement}
use Rattle.asm_lines.specs.declared.line.Statement.TheVariants as statement
use Rattle.asm_lines.specs.declared.operand.Target.TheVariants as target
use Rattle.mips_text_proof.proofs.Feeds.{in_line, Says, says_line, says_append}
use Rattle.mips_text_proof.proofs.Rows.{written, entry_row, function_row}
use Rattle.mips_text_proof.proofs.Wordy.{wordy_word, wordy_decimal}
use Rattle.mips_text_proof.proofs.DataRows.{hexes, wordy_hexes, data_row, both}
use Rattle.mips_text_proof.proofs.WordRows.{word_statement, says_word}
use Rattle.mips_text_proof.proofs.Each.{each_place, says_each, function_statement}
use Rattle.mips_text_proof.proofs.Chunks.{chunk_at, chunk_some}
use Rattle.mips_text_proof.proofs.Parts.{IsWritten, inside, entry_in, image_functions, functions_written, image_words}

abbrev pub entry_statement : ℕ → Statement
entry_statement a = statement.Entry (target.Number (written a))

-- The line of data with this number.
abbrev pub data_statement : List ℕ → ℕ → Statement
data_statement bs k = statement.Data (hexes (chunk_at bs k))

-- The numbers of the lines of data.
abbrev pub places : List ℕ → List ℕ
places bs = range_with_len 0 (div_ceil (length bs) 32)

abbrev pub later : ImageParts → List Statement
later i = map (data_statement i.bytes) (places i.bytes) ++ map word_statement i.text

-- All statements but the entry.
abbrev pub rest : ImageParts → List Statement
rest i = map function_statement i.functions ++ later i

says_entry : (a : ℕ) → a < 4294967296 → Says (entry_line a) (entry_statement a ∷ [])
says_entry a h = says_line (codes ".entry " ++ prefixed_word a) (entry_statement a) (wordy_word a).feeds (entry_row a h)

function_feeds : (a c : ℕ) → c < 4294967296 →
    list_all in_line (codes ".fn " ++ (prefixed_word a ++ 32 ∷ decimal c)) ≡ true
function_feeds a c h =
    list_all-append in_line (prefixed_word a) (32 ∷ decimal c)
    ∙ both (list_all in_line (prefixed_word a)) (list_all in_line (decimal c)) (wordy_word a).feeds
    (wordy_decimal c h).feeds

says_function : (words : ℕ) (f : FunctionEntry) → IsWritten words f → Says (function_line f) (function_statement f ∷ [])
says_function words f h =
    says_line (codes ".fn " ++ (prefixed_word f.address ++ 32 ∷ decimal f.count)) (function_statement f)
    (function_feeds f.address f.count h.count) (function_row f.address f.count h.address h.count)

says_data : (bs : List ℕ) (k : ℕ) → k < div_ceil (length bs) 32 → Says (data_line_at bs k) (data_statement bs k ∷ [])
says_data bs k h =
    says_line (codes ".data " ++ hexes (chunk_at bs k)) (data_statement bs k) (wordy_hexes (chunk_at bs k)).feeds
    (data_row (chunk_at bs k) (chunk_some bs k h))

says_later : (i : ImageParts) → IsImage i → Says (data_lines i.bytes ++ flat_map word_line i.text) (later i)
says_later i h =
    says_append (data_lines i.bytes) (flat_map word_line i.text) (map (data_statement i.bytes) (places i.bytes))
    (map word_statement i.text)
    (says_each (λ k. k < div_ceil (length i.bytes) 32) (data_line_at i.bytes) (data_statement i.bytes) (places i.bytes)
    (each_place (div_ceil (length i.bytes) 32)) (λ k lt. says_data i.bytes k lt))
    (says_each (λ w. w < 4294967296) word_line word_statement i.text (image_words i h) (λ w lt. says_word w lt))

says_rest : (i : ImageParts) → IsImage i →
    Says (flat_map function_line i.functions ++ (data_lines i.bytes ++ flat_map word_line i.text)) (rest i)
says_rest i h =
    says_append (flat_map function_line i.functions) (data_lines i.bytes ++ flat_map word_line i.text)
    (map function_statement i.functions) (later i)
    (says_each (IsWritten (length i.text)) function_line function_statement i.functions
    (functions_written (length i.text) i.functions h.text_is_small (image_functions i h))
    (λ f w. says_function (length i.text) f w))
    (says_later i h)

pub says_image : (i : ImageParts) → IsImage i → Says (text_of i) (entry_statement i.entry ∷ rest i)
says_image i h =
    says_append (entry_line i.entry)
    (flat_map function_line i.functions ++ (data_lines i.bytes ++ flat_map word_line i.text))
    (entry_statement i.entry ∷ []) (rest i)
    (says_entry i.entry (inside (length i.text) i.entry h.text_is_small (entry_in i h)).low)
    (says_rest i h)
