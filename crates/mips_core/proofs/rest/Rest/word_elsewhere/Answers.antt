use Rattle.std.proofs.Common.{ℕ, ◌≡◌, Ok, sym, ap, ◌∙◌, subst}
use Rattle.mips_model.specs.Steps.{word_at}
use Rattle.mips_core.specs.Core.{state_of, word_of, word_past_text}
use Rattle.mips_core.proofs.Fetched.{from_words, past_words}
use Rattle.mips_core.proofs.rest.Rest.word_elsewhere.Goals as goal

pub returns-in-Some-clause-word : goal.returns-in-Some-clause-word
returns-in-Some-clause-word c =
    let code = (state_of c.args.self.now).code in
    subst (λ (n : ℕ). word_at code n ≡ Ok c.in-Some.w) c.pc.ensures
    (sym (from_words code c.args.text.now c.pc.result c.in-Some.w c.requires.text
    (sym c.in-Some.ensures.word) c.in-Some.ensures.below))

pub returns-in-Ok-clause-word : goal.returns-in-Ok-clause-word
returns-in-Ok-clause-word c =
    let code = (state_of c.args.self.now).code in
    let past = subst (λ (n : ℕ). word_past_text code n ≡ word_at code n) c.pc.ensures
    (past_words code c.args.text.now c.pc.result c.requires.text (sym c.in-None.ensures.word)) in
    sym past ∙ sym (c.fetch_from_arena.ensures ∙ ap (word_past_text code) c.pc-in-None.ensures) ∙ c.in-Ok.is

pub returns-in-Err-clause-none : goal.returns-in-Err-clause-none
returns-in-Err-clause-none c =
    λ none some.
    let code = (state_of c.args.self.now).code in
    let past = subst (λ (n : ℕ). word_past_text code n ≡ word_at code n) c.pc.ensures
    (past_words code c.args.text.now c.pc.result c.requires.text (sym c.in-None.ensures.word)) in
    ap word_of (
    sym past ∙ sym (c.fetch_from_arena.ensures ∙ ap (word_past_text code) c.pc-in-None.ensures) ∙ c.in-Err.is)
