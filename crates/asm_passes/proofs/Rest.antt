-- The lines of what is left of a text, at their positions, and what they say behind the lines before.
use Rattle.std.proofs.Common.{◌≡◌, ℕ, ◌+◌, ◌<◌, ◌≤◌, true, false, cond, List, ◌∷◌, ◌++◌, map, Option, Some, None, refl}
use Rattle.std.proofs.Common.{sym, ap, ◌∙◌, arith, append_assoc}
use Rattle.std.proofs.lemmas.List.Sums.{sum_by-cons}
use Rattle.asm_lines.specs.declared.line.Line.{Line}
use Rattle.asm_lines.specs.Lines.{line_of}
use Rattle.asm_passes.specs.declared.position.Position.{Position}
use Rattle.asm_passes.specs.Cut.{lines}
use Rattle.asm_passes.specs.Positions.{Placed, placed, counted, behind, gives_word_in, is_word, is_function, words}
use Rattle.asm_passes.specs.Labels.{Names, find, labels, label_in}
use Rattle.asm_passes.specs.Values.{Known, known_by}
use Rattle.asm_passes.proofs.Lookups.{find_same}

-- The lines of what is left.
abbrev pub rest_of : Position → List ℕ → List Placed
rest_of p rest = placed p (map line_of (lines rest))

-- The first of them, and the others.
abbrev pub first_of : Position → List ℕ → Option Line
first_of p line = counted p (line_of line)

pub rest_cons : (p : Position) (rest line more : List ℕ) → lines rest ≡ line ∷ lines more →
    rest_of p rest ≡ record { at = p; line = first_of p line } ∷ rest_of (behind p (first_of p line)) more
rest_cons p rest line more e = ap (λ ls. placed p (map line_of ls)) e

-- ---- words

words_behind : (p : Position) (m : Option Line) (n : ℕ) →
    (behind p m).words + n ≡ p.words + (cond (gives_word_in m) 1 0 + n)
words_behind p None n = omega arith
words_behind p (Some l) n =
    elim (is_word l.statement) as (λ t. cond t (p.words + 1) p.words + n ≡ p.words + (cond t 1 0 + n)) [
      | true ↦ omega arith
      | false ↦ omega arith
    ]

pub words_next : (p : Position) (rest line more : List ℕ) → lines rest ≡ line ∷ lines more →
    (behind p (first_of p line)).words + words (rest_of (behind p (first_of p line)) more)
    ≡ p.words + words (rest_of p rest)
words_next p rest line more e =
    let m = first_of p line in
    let qs : List Placed = rest_of (behind p m) more in
    words_behind p m (words qs)
    ∙ ap (λ n. p.words + n) (sym (sum_by-cons (λ q. cond (gives_word_in q.line) 1 0) (record { at = p; line = m }) qs))
    ∙ ap (λ ps. p.words + words ps) (sym (rest_cons p rest line more e))

-- ---- what all lines say

-- What is known once the labels so far have those of what is left behind them.
abbrev pub known_with : Names → Position → List ℕ → Known
known_with ls p rest = known_by (ls ++ labels (rest_of p rest)) (p.words + words (rest_of p rest))

pub known_next : (ls ls' : Names) (p : Position) (rest line more : List ℕ) → lines rest ≡ line ∷ lines more →
    find ls' ≡ find (ls ++ label_in p (first_of p line)) →
    known_with ls' (behind p (first_of p line)) more ≡ known_with ls p rest
known_next ls ls' p rest line more e same =
    let p' = behind p (first_of p line) in
    let zs : Names = labels (rest_of p' more) in
    let w : ℕ = p'.words + words (rest_of p' more) in
    let here : Names = label_in p (first_of p line) in
    let finds : find (ls' ++ zs) ≡ find (ls ++ labels (rest_of p rest)) =
    find_same ls' (ls ++ here) zs same
    ∙ ap find (append_assoc ls here zs)
    ∙ sym (ap (λ ps. find (ls ++ labels ps)) (rest_cons p rest line more e)) in
    ap (λ f. record { find = f; words = w }) finds
    ∙ ap (λ n. record { find = find (ls ++ labels (rest_of p rest)); words = n }) (words_next p rest line more e)

-- ---- how far positions go

pub line_behind : (p : Position) (m : Option Line) → (behind p m).line ≡ p.line + 1
line_behind p None = refl
line_behind p (Some l) = refl

pub words_grow : (p : Position) (m : Option Line) → (behind p m).words ≤ p.words + 1
words_grow p None = omega arith
words_grow p (Some l) =
    elim (is_word l.statement) as (λ t. cond t (p.words + 1) p.words ≤ p.words + 1) [
      | true ↦ omega arith
      | false ↦ omega arith
    ]

pub functions_grow : (p : Position) (m : Option Line) → (behind p m).functions ≤ p.functions + 1
functions_grow p None = omega arith
functions_grow p (Some l) =
    elim (is_function l.statement) as (λ t. cond t (p.functions + 1) p.functions ≤ p.functions + 1) [
      | true ↦ omega arith
      | false ↦ omega arith
    ]

-- How far a position has come: a line is a byte at least, and gives a word and a function at most.
pub record Passed (p : Position) (left whole : ℕ) : Type 0 where
  pub line : p.line + left ≤ 1 + whole
  pub words : p.words + 1 ≤ p.line
  pub functions : p.functions + 1 ≤ p.line

pub passes : (p q : Position) (m : Option Line) (left left' whole : ℕ) → q ≡ behind p m → left' < left →
    Passed p left whole → Passed q left' whole
passes p q m left left' whole e h before =
    let line : q.line ≡ p.line + 1 = ap (λ q. q.line) e ∙ line_behind p m in
    let words : q.words ≡ (behind p m).words = ap (λ q. q.words) e in
    let functions : q.functions ≡ (behind p m).functions = ap (λ q. q.functions) e in
    let w = words_grow p m in
    let f = functions_grow p m in
    let b = before in
    record { line = omega arith; words = omega arith; functions = omega arith }
