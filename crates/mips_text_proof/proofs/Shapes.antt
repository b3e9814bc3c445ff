-- Lines of instructions, by the marks between their operands.
use Rattle.std.proofs.Common.{◌≡◌, ℕ, ◌<◌, List, [], ◌∷◌, ◌++◌, length, Some, refl, ap, ◌∙◌}
use Rattle.asm_words.specs.declared.operation.Operation.{Operation}
use Rattle.asm_words.specs.Operations.{operation_name}
use Rattle.asm_words.proofs.Found.{found}
use Rattle.asm_lines.specs.declared.piece.Piece.{Piece}
use Rattle.asm_lines.specs.declared.piece.Piece.TheVariants as piece
use Rattle.asm_lines.specs.declared.operand.Operands.{Operands}
use Rattle.asm_lines.specs.declared.operand.Operands.TheVariants as operands
use Rattle.asm_lines.specs.declared.draft.Draft.{Draft}
use Rattle.asm_lines.specs.declared.line.Statement.TheVariants as statement
use Rattle.asm_lines.specs.Pieces.{pieces}
use Rattle.asm_lines.specs.Operands.{◌>>=◌, pure, operands_of}
use Rattle.asm_lines.specs.Drafts.{drafted}
use Rattle.asm_lines.specs.Lines.{instruction, statement_by, line_of, line_in, statement_of}
use Rattle.mips_text_proof.proofs.Feeds.{plain}
use Rattle.mips_text_proof.proofs.Names.{wordy_name, some_name, by_name}
use Rattle.mips_text_proof.proofs.Wordy.{Wordy, pieces_one, pieces_two, pieces_three, word_blank, word_comma}
use Rattle.mips_text_proof.proofs.Wordy.{word_opens, word_closes}

-- The statement of an operation with operands that are a draft.
said : (op : Operation) (z : List Piece) (os : Operands) (d : Draft) → operands_of z ≡ Some os →
    drafted op os ≡ Some d →
    statement_by (operation_name op) z ≡ Some (statement.Instruction d)
said op z os d e f =
    by_name op z
    ∙ ap (λ o. instruction o z) (found op)
    ∙ ap (λ o. o >>= (λ os. drafted op os >>= (λ d. pure (statement.Instruction d)))) e
    ∙ ap (λ o. o >>= (λ d. pure (statement.Instruction d))) f

-- A word that pieces other than a colon follow begins the statement.
statement_line : (op : Operation) (a : List ℕ) (z : List Piece) (os : Operands) (d : Draft) →
    operands_of (piece.Word a ∷ z) ≡ Some os → drafted op os ≡ Some d →
    line_in (piece.Word (operation_name op) ∷ piece.Word a ∷ z) ≡ plain (statement.Instruction d)
unfolding statement_of
statement_line op a z os d e f = ap (λ o. o >>= (λ s. plain s)) (said op (piece.Word a ∷ z) os d e f)

pub row_one : (op : Operation) (a : List ℕ) (d : Draft) → Wordy a → 0 < length a →
    drafted op (operands.One a) ≡ Some d →
    line_of (operation_name op ++ 32 ∷ a) ≡ plain (statement.Instruction d)
unfolding line_of
row_one op a d h h' e =
    ap line_in (pieces_one (operation_name op) a (wordy_name op) (some_name op) h h')
    ∙ statement_line op a [] (operands.One a) d refl e

pub row_two : (op : Operation) (a b : List ℕ) (d : Draft) → Wordy a → 0 < length a → Wordy b → 0 < length b →
    drafted op (operands.Two a b) ≡ Some d →
    line_of (operation_name op ++ 32 ∷ (a ++ 44 ∷ b)) ≡ plain (statement.Instruction d)
unfolding line_of
row_two op a b d h h' i i' e =
    ap line_in (pieces_two (operation_name op) a b (wordy_name op) (some_name op) h h' i i')
    ∙ statement_line op a (piece.Comma ∷ piece.Word b ∷ []) (operands.Two a b) d refl e

pub row_three : (op : Operation) (a b c : List ℕ) (d : Draft) → Wordy a → 0 < length a → Wordy b → 0 < length b →
    Wordy c → 0 < length c → drafted op (operands.Three a b c) ≡ Some d →
    line_of (operation_name op ++ 32 ∷ (a ++ 44 ∷ (b ++ 44 ∷ c))) ≡ plain (statement.Instruction d)
unfolding line_of
row_three op a b c d h h' i i' j j' e =
    ap line_in (pieces_three (operation_name op) a b c (wordy_name op) (some_name op) h h' i i' j j')
    ∙ statement_line op a (piece.Comma ∷ piece.Word b ∷ piece.Comma ∷ piece.Word c ∷ []) (operands.Three a b c) d refl e

based_pieces : (name a b c : List ℕ) → Wordy name → 0 < length name → Wordy a → 0 < length a → Wordy b → 0 < length b →
    Wordy c → 0 < length c →
    pieces (name ++ 32 ∷ (a ++ 44 ∷ (b ++ 40 ∷ (c ++ 41 ∷ []))))
    ≡ piece.Word name ∷ piece.Word a ∷ piece.Comma ∷ piece.Word b ∷ piece.Open ∷ piece.Word c ∷ piece.Close ∷ []
unfolding pieces
based_pieces name a b c n n' h h' i i' j j' =
    word_blank name (a ++ 44 ∷ (b ++ 40 ∷ (c ++ 41 ∷ []))) n n'
    ∙ ap (λ ps. piece.Word name ∷ ps) (word_comma a (b ++ 40 ∷ (c ++ 41 ∷ [])) h h')
    ∙ ap (λ ps. piece.Word name ∷ piece.Word a ∷ piece.Comma ∷ ps) (word_opens b (c ++ 41 ∷ []) i i')
    ∙ ap (λ ps. piece.Word name ∷ piece.Word a ∷ piece.Comma ∷ piece.Word b ∷ piece.Open ∷ ps) (word_closes c [] j j')

pub row_based : (op : Operation) (a b c : List ℕ) (d : Draft) → Wordy a → 0 < length a → Wordy b → 0 < length b →
    Wordy c → 0 < length c → drafted op (operands.Based a b c) ≡ Some d →
    line_of (operation_name op ++ 32 ∷ (a ++ 44 ∷ (b ++ 40 ∷ (c ++ 41 ∷ [])))) ≡ plain (statement.Instruction d)
unfolding line_of
row_based op a b c d h h' i i' j j' e =
    ap line_in (based_pieces (operation_name op) a b c (wordy_name op) (some_name op) h h' i i' j j')
    ∙ statement_line op a (piece.Comma ∷ piece.Word b ∷ piece.Open ∷ piece.Word c ∷ piece.Close ∷ [])
    (operands.Based a b c) d refl e
