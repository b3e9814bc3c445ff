-- The captures of a tick, by their kinds.
use Rattle.std.proofs.Common.{◌≡◌, ℕ, zero, suc, true, List, [], ◌∷◌}
use Rattle.std.proofs.Common.{slice_get}
use Rattle.typed_tree.specs.declared.expression.Answer.{Answer}
use Rattle.typed_tree.specs.declared.expression.CaptureKind.{CaptureKind}
use Rattle.typed_tree.specs.declared.expression.CaptureKind.TheVariants as kind
use Rattle.typed_tree.specs.declared.expression.CapturedWord.{CapturedWord}
use Rattle.typed_tree.specs.declared.expression.CapturedWord.TheVariants as word
use Rattle.history.specs.Syntax.{Captures, Word, Named, Spliced}
use Rattle.wellformed.specs.Places.{is_word, is_variable, is_splice, kind_at}
use Rattle.generator_laws.specs.Pieces.{capture_at, IsWord, IsKey, IsSplice}
use Rattle.generator_spec.specs.Kinds.{HasKinds}

-- what isn't of a kind
no_word_splice : (w : CapturedWord) (r : Answer) → is_word w (kind.Splice r) ≡ true → ⊥
no_word_splice word.Dollar r h = cc
no_word_splice word.Address r h = cc

no_word_variable : (w : CapturedWord) → is_word w kind.Variable ≡ true → ⊥
no_word_variable word.Dollar h = cc
no_word_variable word.Address h = cc

-- the capture of a number is of a kind that the tick has at that number
pub word_there : (w : CapturedWord) (kinds : List CaptureKind) (captures : Captures) (i : ℕ) → HasKinds kinds captures
    → kind_at (is_word w) (slice_get kinds i) ≡ true → IsWord (capture_at captures i)
word_there w [] captures i h q = absurd cc
word_there w (kind.Dollar ∷ kinds) (Word x captures) zero h q = tt
word_there w (kind.Address ∷ kinds) (Word x captures) zero h q = tt
word_there w (kind.Splice r ∷ kinds) (Spliced s captures) zero h q = absurd (no_word_splice w r q)
word_there w (kind.Variable ∷ kinds) (Named k captures) zero h q = absurd (no_word_variable w q)
word_there w (kind.Dollar ∷ kinds) (Word x captures) (suc i) h q = word_there w kinds captures i h q
word_there w (kind.Address ∷ kinds) (Word x captures) (suc i) h q = word_there w kinds captures i h q
word_there w (kind.Splice r ∷ kinds) (Spliced s captures) (suc i) h q = word_there w kinds captures i h q
word_there w (kind.Variable ∷ kinds) (Named k captures) (suc i) h q = word_there w kinds captures i h q
word_there w (k ∷ kinds) captures i h q = absurd h

pub key_there : (kinds : List CaptureKind) (captures : Captures) (i : ℕ) → HasKinds kinds captures
    → kind_at is_variable (slice_get kinds i) ≡ true → IsKey (capture_at captures i)
key_there [] captures i h q = absurd cc
key_there (kind.Dollar ∷ kinds) (Word x captures) zero h q = absurd cc
key_there (kind.Address ∷ kinds) (Word x captures) zero h q = absurd cc
key_there (kind.Splice r ∷ kinds) (Spliced s captures) zero h q = absurd cc
key_there (kind.Variable ∷ kinds) (Named k captures) zero h q = tt
key_there (kind.Dollar ∷ kinds) (Word x captures) (suc i) h q = key_there kinds captures i h q
key_there (kind.Address ∷ kinds) (Word x captures) (suc i) h q = key_there kinds captures i h q
key_there (kind.Splice r ∷ kinds) (Spliced s captures) (suc i) h q = key_there kinds captures i h q
key_there (kind.Variable ∷ kinds) (Named k captures) (suc i) h q = key_there kinds captures i h q
key_there (k ∷ kinds) captures i h q = absurd h

pub splice_there : (r : Answer) (kinds : List CaptureKind) (captures : Captures) (i : ℕ) → HasKinds kinds captures
    → kind_at (is_splice r) (slice_get kinds i) ≡ true → IsSplice (capture_at captures i)
splice_there r [] captures i h q = absurd cc
splice_there r (kind.Dollar ∷ kinds) (Word x captures) zero h q = absurd cc
splice_there r (kind.Address ∷ kinds) (Word x captures) zero h q = absurd cc
splice_there r (kind.Splice s ∷ kinds) (Spliced y captures) zero h q = tt
splice_there r (kind.Variable ∷ kinds) (Named k captures) zero h q = absurd cc
splice_there r (kind.Dollar ∷ kinds) (Word x captures) (suc i) h q = splice_there r kinds captures i h q
splice_there r (kind.Address ∷ kinds) (Word x captures) (suc i) h q = splice_there r kinds captures i h q
splice_there r (kind.Splice s ∷ kinds) (Spliced y captures) (suc i) h q = splice_there r kinds captures i h q
splice_there r (kind.Variable ∷ kinds) (Named k captures) (suc i) h q = splice_there r kinds captures i h q
splice_there r (k ∷ kinds) captures i h q = absurd h
