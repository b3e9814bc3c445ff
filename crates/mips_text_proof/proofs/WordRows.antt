-- The lines of the words of an image, what they say and what they give.
use Rattle.std.proofs.Common.{◌≡◌, ℕ, ◌<◌, true, false, [], ◌∷◌, ◌++◌, Option, Some, None, Ok, refl, ap, ◌∙◌, codes}
use Rattle.mips_encoder.specs.declared.instruction.Instr.{Instr}
use Rattle.mips_encoder.specs.Decoded.{instr_of}
use Rattle.mips_encoder.specs.Table.{word_of}
use Rattle.mips_encoder.proofs.Inverse.{word_of-instr_of}
use Rattle.asm_print.specs.Numbers.{prefixed_word}
use Rattle.asm_print.specs.Text as text
use Rattle.asm_lines.specs.declared.line.Statement.{Statement}
use Rattle.asm_lines.specs.declared.line.Statement.TheVariants as statement
use Rattle.asm_passes.specs.declared.position.Position.{Position}
use Rattle.asm_passes.specs.declared.item.Item.TheVariants as item
use Rattle.asm_passes.specs.Positions.{is_entry, is_word}
use Rattle.asm_passes.specs.Instructions.{◌>>=◌, pure}
use Rattle.asm_passes.specs.Values.{Known, item_of}
use Rattle.mips_text_proof.proofs.Feeds.{Says, says_line}
use Rattle.mips_text_proof.proofs.Rows.{written, word_row}
use Rattle.mips_text_proof.proofs.Wordy.{wordy_word}
use Rattle.mips_text_proof.proofs.Again.{draft_of, again}
use Rattle.mips_text_proof.proofs.Instrs.{says_instr}
use Rattle.mips_text_proof.proofs.Fitting.{fits_back}

abbrev pub statement_by : ℕ → Option Instr → Statement
statement_by w None = statement.Word (written w)
statement_by w (Some i) = statement.Instruction (draft_of i)

-- What the line of a word says.
abbrev pub word_statement : ℕ → Statement
word_statement w = statement_by w (instr_of w)

says_by : (w : ℕ) (o : Option Instr) → w < 4294967296 → instr_of w ≡ o → Says (text.line_of w o) (statement_by w o ∷ [])
says_by w None h e = says_line (codes ".word " ++ prefixed_word w) (statement.Word (written w)) (wordy_word w).feeds
    (word_row w h)
says_by w (Some i) h e = says_instr i (fits_back w i e)

pub says_word : (w : ℕ) → w < 4294967296 → Says (text.word_line w) (word_statement w ∷ [])
unfolding text.word_line
says_word w h = says_by w (instr_of w) h refl

gives_by : (k : Known) (p : Position) (w : ℕ) (o : Option Instr) → instr_of w ≡ o →
    item_of k p (statement_by w o) ≡ Ok (item.Word w)
gives_by k p w None e = refl
gives_by k p w (Some i) e =
    ap (λ r. r >>= (λ i. pure (item.Word (word_of i)))) (again k.find p.words i (fits_back w i e))
    ∙ ap (λ n. Ok (item.Word n)) (word_of-instr_of w i e)

-- A word gives itself, at any position.
pub gives_word : (k : Known) (p : Position) (w : ℕ) → item_of k p (word_statement w) ≡ Ok (item.Word w)
gives_word k p w = gives_by k p w (instr_of w) refl

no_entry_by : (w : ℕ) (o : Option Instr) → is_entry (statement_by w o) ≡ false
no_entry_by w None = refl
no_entry_by w (Some i) = refl

pub word_no_entry : (w : ℕ) → is_entry (word_statement w) ≡ false
word_no_entry w = no_entry_by w (instr_of w)

is_word_by : (w : ℕ) (o : Option Instr) → is_word (statement_by w o) ≡ true
is_word_by w None = refl
is_word_by w (Some i) = refl

pub word_is_word : (w : ℕ) → is_word (word_statement w) ≡ true
word_is_word w = is_word_by w (instr_of w)
