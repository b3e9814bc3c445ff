use Rattle.std.proofs.Common.{◌≡◌, ℕ, List, ◌<◌, ◌++◌, ◌∷◌, [], length, take, drop, get_or, arith, ap, sym, ◌∙◌}
use Rattle.std.proofs.Common.{append_assoc}
use Rattle.std.proofs.lemmas.List.{take_rest}
use Rattle.asm_lines.specs.declared.piece.Class.TheVariants as class
use Rattle.asm_lines.specs.declared.piece.Piece.TheVariants as piece
use Rattle.asm_lines.specs.Pieces as spec
use Rattle.asm_lines.proofs.Words.{some_parts, pieces_word}
use Rattle.asm_lines.proofs.piece.pieces.Goals as goal

pub loop-rest-preserved : goal.loop-rest-preserved
loop-rest-preserved c =
    let z : List ℕ = c.loop-rest.rest.now in
    let n = c.word_len-len.result in
    let long : 0 < length z = omega (arith, c.in-len1-up.len_at_least) in
    let part : spec.class_of (get_or z 0 0) ≡ class.Part = sym c.in-Part.ensures in
    let len = c.word_len-len.ensures.value in
    let some : 0 < n = omega (arith, len, some_parts z long part) in
    let front = pieces_word z n len c.word_len-len.ensures.within some in
    let word : c.new.result ≡ take n z = c.new.ensures in
    let items = c.in_ok-push-in-Part.ensures.items in
    ap (λ y. c.push-in-Part.new.self.items ++ spec.pieces y) (take_rest z n)
    ∙ ap (λ f. f ++ spec.pieces (drop n z)) (items ∙ ap (λ w. c.loop-rest.found.items ++ piece.Word w ∷ []) word)
    ∙ append_assoc c.loop-rest.found.items (piece.Word (take n z) ∷ []) (spec.pieces (drop n z))
    ∙ ap (λ ps. c.loop-rest.found.items ++ ps) (sym front)
    ∙ c.loop-rest.invariant
