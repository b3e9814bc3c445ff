-- Words of nop, and blocks one behind another.
use Rattle.std.proofs.Common.{◌≡◌, ℕ, suc, ◌+◌, ◌-◌, ◌<◌, ◌≤◌, List, [], ◌∷◌, ◌++◌, length, ap, sym, ◌∙◌}
use Rattle.std.proofs.Common.{append_assoc, arith}
use Rattle.std.proofs.lemmas.List.{append-nil}
use Rattle.mips_encoder.specs.Table.{word_of}
use Rattle.mips_assembly.specs.Assembly.{nop}
use Rattle.icode_templates.specs.Words.{words}
use Rattle.icode_templates.proofs.Appended.{words_append}
use Rattle.routine_spec.specs.Compile.{compile_code, tests_code, build_code, make_code, traps_code}
use Rattle.icode_templates_proof.specs.Routines.{new_code}
use Rattle.routine_spec.specs.Blocks.{nothing_words, filled, no_routines, last_words}

-- a word of nop more, where some are left
pub one_more : (base : List ℕ) (count i : ℕ) → i < count
    → base ++ nothing_words (count - i) ≡ (base ++ word_of nop ∷ []) ++ nothing_words (count - (i + 1))
one_more base count i h =
    let left : count - i ≡ suc (count - (i + 1)) = omega (arith, h) in
    ap (λ n. base ++ nothing_words n) left
    ∙ sym (append_assoc base (word_of nop ∷ []) (nothing_words (count - (i + 1))))

pub all_done : (base : List ℕ) (count i : ℕ) → count ≤ i → base ++ nothing_words (count - i) ≡ base
all_done base count i h =
    let none : count - i ≡ 0 = omega (arith, h) in ap (λ n. base ++ nothing_words n) none ∙ append-nil base

pub ruleset nothing = (one_more, all_done)

pub in_block : (base front : List ℕ) → (base ++ front) ++ nothing_words (64 - length front) ≡ base ++ filled front
in_block base front = append_assoc base front (nothing_words (64 - length front))

pub three : (base a b c : List ℕ) → ((base ++ a) ++ b) ++ c ≡ base ++ (a ++ (b ++ c))
three base a b c = simp append_assoc

pub five : (base a b c d e : List ℕ)
    → ((((base ++ a) ++ b) ++ c) ++ d) ++ e ≡ base ++ (a ++ (b ++ (c ++ (d ++ e))))
five base a b c d e = simp append_assoc

pub compiling : (base : List ℕ)
    → (base ++ words (tests_code ++ build_code)) ++ words (make_code ++ traps_code)
    ≡ base ++ filled (words compile_code)
compiling base = append_assoc base (words (tests_code ++ build_code)) (words (make_code ++ traps_code))

-- new, among blocks without a routine
pub last_seen : (base x s0 s y q : List ℕ) → x ≡ base ++ no_routines 4 → s0 ≡ [] → s ≡ s0 ++ words new_code
    → y ≡ x ++ filled s → q ≡ y ++ no_routines 2 → q ≡ base ++ last_words
last_seen base x s0 s y q h1 h2 h3 h4 h5 =
    let whole : s ≡ words new_code = h3 ∙ ap (λ z. z ++ words new_code) h2 in
    h5
    ∙ ap (λ z. z ++ no_routines 2) (h4 ∙ ap (λ z. z ++ filled s) h1
    ∙ ap (λ z. (base ++ no_routines 4) ++ filled z) whole)
    ∙ three base (no_routines 4) (filled (words new_code)) (no_routines 2)
