-- The word at an address, from the text and from what lies past it.
use Rattle.std.proofs.Common.{◌≡◌, ℕ, ◌<◌, ◌/◌, ◌%◌, ◌==◌, Bool, true, List, Option, Some, None, Result, Ok, Err}
use Rattle.std.proofs.Common.{refl, sym, ap, ◌∙◌, arith, nat_lt, if◌then◌else◌, subst, IfSome}
use Rattle.std.proofs.lemmas.Bool.Decides.{nat_tests}
use Rattle.word32.specs.declared.map.TheConstants.{ARENA}
use Rattle.flat_memory.specs.Spaces.{text_of}
use Rattle.host_edge.specs.declared.ending.MachineKind.{MachineKind}
use Rattle.mips_model.specs.State.{Code}
use Rattle.mips_model.specs.Steps.{word_at, word_in_arena, from_text, text_word}
use Rattle.mips_core.specs.Core.{word_past_text, word_of, text_fetched}

same_text : (c : Code) (words : List ℕ) (pc : ℕ) → text_of words ≡ c.text → text_fetched words pc ≡ text_word c pc
same_text c words pc e = ap (λ (f : ℕ → Option ℕ). if (pc % 4 == 0) then f (pc / 4) else None) e

pub from_words : (c : Code) (words : List ℕ) (pc w : ℕ) → text_of words ≡ c.text →
    text_fetched words pc ≡ Some w → pc < ARENA → Ok w ≡ word_at c pc
from_words c words pc w e is low =
    let below : nat_lt pc ARENA ≡ true = grind (arith, nat_tests, low) in
    sym (
    ap (λ (b : Bool). if b then from_text (text_word c pc) else word_in_arena c pc) below
    ∙ ap from_text (sym (same_text c words pc e) ∙ is))

pub past_words : (c : Code) (words : List ℕ) (pc : ℕ) → text_of words ≡ c.text → text_fetched words pc ≡ None →
    word_past_text c pc ≡ word_at c pc
past_words c words pc e is =
    sym (ap (λ (o : Option ℕ). if nat_lt pc ARENA then from_text o else word_in_arena c pc)
    (sym (same_text c words pc e) ∙ is))

-- if this is a word, it is that of the answer
abbrev pub Says : Result ℕ MachineKind → Option ℕ → Type 0
Says r o = IfSome o (λ w. r ≡ Ok w)

pub word_some : (o : Option ℕ) (r : Result ℕ MachineKind) → o ≡ word_of r → Says r o
word_some o (Ok v) e = subst (Says (Ok v)) (sym e) refl
word_some o (Err why) e = subst (Says (Err why)) (sym e) tt
