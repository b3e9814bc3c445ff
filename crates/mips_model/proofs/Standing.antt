-- Words that are written one behind another stand so.
use Rattle.std.proofs.Common.{ℕ, zero, suc, ◌+◌, ◌≡◌, ◌≢◌, ◌<◌, ◌≤◌, ◌⊎◌, inl, inr, List, [], ◌∷◌, length}
use Rattle.std.proofs.Common.{refl, ap, ◌∙◌, arith}
use Rattle.std.specs.Prelude.{slice_index}
use Rattle.word32.proofs.SpaceLaws.{update_same, update_other}
use Rattle.code_arena.specs.Arena.{Arena, written}
use Rattle.code_arena.specs.declared.arena.WordState.TheVariants.{Written}
use Rattle.mips_model.specs.CodeServices.{written_from}
use Rattle.mips_model.specs.ServiceLaws.{Stand, WordsStand}

-- the next word's number, in either spelling
next : (first k : ℕ) → first + suc k ≡ suc first + k
next first k = omega arith

-- one word in front of others
one_more :
    (first w : ℕ) (ws : List ℕ) (a after : Arena) → Stand (suc first) ws (written first w a) after →
    Stand first (w ∷ ws) a after
one_more first w ws a after s = record { each = each; written = states; others = others }
  where
    here : (first + 0) < suc first
    here = omega arith

    each : (k : ℕ) → k < suc (length ws) → after.words (first + k) ≡ slice_index (w ∷ ws) k
    each zero h = (s.others (first + 0) (inl here)).0 ∙ update_same first w a.words (first + 0) (omega arith)
    each (suc k) h = ap after.words (next first k) ∙ s.each k (omega arith)

    states : (k : ℕ) → k < suc (length ws) → after.states (first + k) ≡ Written
    states zero h = (s.others (first + 0) (inl here)).1 ∙ update_same first Written a.states (first + 0) (omega arith)
    states (suc k) h = ap after.states (next first k) ∙ s.written k (omega arith)

    apart : (i : ℕ) → (i < first) ⊎ (first + suc (length ws) ≤ i) → i ≢ first
    apart i (inl h) = omega arith
    apart i (inr h) = omega arith

    beyond : (i : ℕ) → (i < first) ⊎ (first + suc (length ws) ≤ i) → (i < suc first) ⊎ (suc first + length ws ≤ i)
    beyond i (inl h) = inl (omega arith)
    beyond i (inr h) = inr (omega arith)

    others :
        (i : ℕ) → (i < first) ⊎ (first + suc (length ws) ≤ i) →
        (after.words i ≡ a.words i) × (after.states i ≡ a.states i)
    others i h =
        let o = s.others i (beyond i h) in
        (o.0 ∙ update_other first w a.words i (apart i h), o.1 ∙ update_other first Written a.states i (apart i h))

pub words-stand : WordsStand
words-stand first [] a = record {
  each = λ k h. absurd (omega arith);
  written = λ k h. absurd (omega arith);
  others = λ i h. (refl, refl);
}
words-stand first (w ∷ ws) a =
    one_more first w ws a (written_from (suc first) ws (written first w a))
    (words-stand (suc first) ws (written first w a))
