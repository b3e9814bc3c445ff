-- The text of an image is assembled to this image.
use Rattle.std.proofs.Common.{◌≡◌, ◌==◌, false, cond, List, [], ◌∷◌, map, length, Ok, Err, ap, ◌∙◌, arith}
use Rattle.std.proofs.lemmas.Bool.{ne_eqb}
use Rattle.std.proofs.lemmas.List.Sums.{sum_by-cons}
use Rattle.image_file.specs.Image.{ImageParts, IsImage}
use Rattle.asm_print.specs.Text.{text_of}
use Rattle.asm_passes.specs.declared.fault.AsmFaultKind.TheVariants.{BadLine}
use Rattle.asm_passes.specs.declared.position.Position.{Position}
use Rattle.asm_passes.specs.declared.item.Item.TheVariants as item
use Rattle.asm_passes.specs.Positions.{Placed, placed, start, behind, gives_word_in, words}
use Rattle.asm_passes.specs.Instructions.{◌>>=◌, pure}
use Rattle.asm_passes.specs.Values.{Known, known_by, given}
use Rattle.asm_passes.specs.Collected.{known, collected, before}
use Rattle.mips_text.specs.Assembly.{assembled, assembled_in, image_by}
use Rattle.mips_text_proof.proofs.Feeds.{plain, says_whole}
use Rattle.mips_text_proof.proofs.Collected.{words_plain, labels_none}
use Rattle.mips_text_proof.proofs.Each.{address_again, gives_functions}
use Rattle.mips_text_proof.proofs.Parts.{inside, entry_in, image_functions}
use Rattle.mips_text_proof.proofs.Statements.{entry_statement, later, rest, says_image}
use Rattle.mips_text_proof.proofs.Items.{items, later_items, image_again, gives_later, rest_no_entry, rest_words}

-- The statements of an image at their positions.
abbrev pub lines_at : ImageParts → List Placed
lines_at i = placed start (map plain (entry_statement i.entry ∷ rest i))

-- What an image's statements say together: no labels, and as many words as its text has.
abbrev pub knows : ImageParts → Known
knows i = known_by [] (length i.text)

image_words_are : (i : ImageParts) → words (lines_at i) ≡ length i.text
image_words_are i =
    let p : Position = behind start (plain (entry_statement i.entry)) in
    let one = sum_by-cons (λ q. cond (gives_word_in q.line) 1 0)
    (record { at = start; line = plain (entry_statement i.entry) }) (placed p (map plain (rest i))) in
    let more : words (placed p (map plain (rest i))) ≡ length i.text =
    words_plain p (rest i) (rest_no_entry i) ∙ rest_words i in
    omega (arith, one, more)

image_known : (i : ImageParts) → known (lines_at i) ≡ knows i
image_known i =
    ap (λ l. known_by l (words (lines_at i))) (labels_none start (entry_statement i.entry ∷ rest i))
    ∙ ap (λ n. known_by [] n) (image_words_are i)

entry_again : (i : ImageParts) (p : Position) → IsImage i →
    given (knows i) p (plain (entry_statement i.entry)) ≡ Ok (item.Entry i.entry)
unfolding given
entry_again i p h =
    ap (λ r. r >>= (λ a. pure (item.Entry a)) >>= (λ i. Ok i)) (address_again (knows i) i.entry (entry_in i h))

image_collected : (i : ImageParts) → IsImage i → collected (knows i) (lines_at i) ≡ Ok (items i)
image_collected i h =
    let p : Position = behind start (plain (entry_statement i.entry)) in
    let few = h.functions_are_few in
    ap (λ r. before 1 r (collected (knows i) (placed p (map plain (rest i))))) (entry_again i start h)
    ∙ ap (before 1 (Ok (item.Entry i.entry)))
    (gives_functions (knows i) i.functions (later i) (later_items i) p (omega (arith, few)) (image_functions i h)
    (gives_later (knows i) i))

image_assembled : (i : ImageParts) → IsImage i → assembled_in (lines_at i) ≡ Ok i
image_assembled i h =
    let n = image_words_are i in
    let some = (inside (length i.text) i.entry h.text_is_small (entry_in i h)).some in
    let nonzero : words (lines_at i) == 0 ≡ false = ne_eqb (words (lines_at i)) 0 (λ e. omega (arith, e, n, some)) in
    ap (λ t. cond t (Err (record { kind = BadLine; line = 1 }))
    (image_by (collected (known (lines_at i)) (lines_at i)))) nonzero
    ∙ ap (λ k. image_by (collected k (lines_at i))) (image_known i)
    ∙ ap image_by (image_collected i h)
    ∙ ap Ok (image_again i h)

pub text_reads_back : (i : ImageParts) → IsImage i → assembled (text_of i) ≡ Ok i
unfolding assembled
text_reads_back i h =
    ap (λ ls. assembled_in (placed start ls))
    (says_whole (text_of i) (entry_statement i.entry ∷ rest i) (says_image i h))
    ∙ image_assembled i h
