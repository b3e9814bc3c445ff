-- The words of pieces, one after another.
use Rattle.std.proofs.Common.{ℕ, ◌≡◌, ◌+◌, ◌<◌, List, [], ◌∷◌, ◌++◌, length, get_or, drop, refl, sym, ap, subst, ◌∙◌}
use Rattle.std.proofs.Common.{append_assoc}
use Rattle.std.proofs.lemmas.List.{at_drop_more}
use Rattle.icode_ir.specs.Sound.{Each}
use Rattle.routine_spec.specs.Written.{HasWords}
use Rattle.icode_templates.specs.Words.{words}
use Rattle.icode_templates.proofs.Appended.{words_append}
use Rattle.tick_lower_spec.specs.declared.piece.Piece.{Piece}
use Rattle.routine_spec.specs.Generator.{enter_code, leave_code, piece_code, pieces_code, generator_code}

pub one_more : (base : List ℕ) (p : Piece) (ps : List Piece) →
    (base ++ words (piece_code p)) ++ words (pieces_code ps) ≡ base ++ words (pieces_code (p ∷ ps))
one_more base p ps =
    append_assoc base (words (piece_code p)) (words (pieces_code ps))
    ∙ ap (λ (ws : List ℕ). base ++ ws) (sym (words_append (piece_code p) (pieces_code ps)))

pub whole : (ps : List Piece) →
    (words enter_code ++ words (pieces_code ps)) ++ words leave_code ≡ words (generator_code ps)
whole ps =
    append_assoc (words enter_code) (words (pieces_code ps)) (words leave_code)
    ∙ ap (λ (ws : List ℕ). words enter_code ++ ws) (sym (words_append (pieces_code ps) leave_code))
    ∙ sym (words_append enter_code (pieces_code ps ++ leave_code))

-- each piece's arguments are words, where this one's are and those of the rest
pub one_fits : (ps : List Piece) (i : ℕ) (p : Piece) → i < length ps → p ≡ get_or ps i p → HasWords p →
    (Each HasWords (drop i ps) → Each HasWords ps) → Each HasWords (drop (i + 1) ps) → Each HasWords ps
one_fits ps i p h is fits whole rest =
    whole (subst (λ (qs : List Piece). Each HasWords qs)
    (sym (at_drop_more (λ (qs : List Piece). qs) ps i p h ∙ ap (λ q. q ∷ drop (i + 1) ps) (sym is))) (fits, rest))
