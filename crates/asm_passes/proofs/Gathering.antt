-- What the lines of a text give, one after another, and what stays true of it.
use Rattle.std.proofs.Common.{◌≡◌, ◌≢◌, ℕ, ◌+◌, ◌≤◌, Bool, true, false, ◌&&◌, cond}
use Rattle.std.proofs.Common.{IsTrue, List, [], ◌∷◌, ◌++◌, length, Option, Some, None, Result, Ok, Err, refl}
use Rattle.std.proofs.Common.{sym, ap, ◌∙◌, arith, subst}
use Rattle.std.specs.Option.{option_or}
use Rattle.std.specs.List.{list_all}
use Rattle.std.proofs.lemmas.Bool.{ne_eqb}
use Rattle.std.proofs.lemmas.List.{length-append}
use Rattle.std.proofs.lemmas.List.Folds.{list_all-append}
use Rattle.image_file.specs.Image.{is_function_in}
use Rattle.asm_words.specs.Data.{bytes_of}
use Rattle.asm_lines.specs.declared.line.Line.{Line}
use Rattle.asm_passes.specs.declared.position.Position.{Position}
use Rattle.asm_passes.specs.declared.fault.AsmFault.{AsmFault}
use Rattle.asm_passes.specs.declared.fault.AsmFaultKind.{AsmFaultKind}
use Rattle.asm_passes.specs.declared.fault.AsmFaultKind.TheVariants.{BadLine}
use Rattle.asm_passes.specs.declared.fault.AsmDeny.{AsmDeny}
use Rattle.asm_passes.specs.declared.parts.Parts.{Parts}
use Rattle.asm_passes.specs.declared.item.Item.{Item}
use Rattle.asm_passes.specs.declared.item.Item.TheVariants as item
use Rattle.asm_passes.specs.Cut.{lines}
use Rattle.asm_passes.specs.Positions.{Placed, behind, counted, is_entry, words}
use Rattle.asm_lines.specs.Lines.{HasDigits}
use Rattle.asm_passes.specs.Values.{Known, known_by, given}
use Rattle.asm_passes.specs.Items.{entry_of, words_of, data_of, functions_of, IsGood, digits_in, Counts}
use Rattle.asm_passes.specs.Labels.{Names}
use Rattle.asm_passes.specs.Collected.{before, collected, known}
use Rattle.asm_passes.specs.Parts.{Gathered, none, with, gathered, gathered_in, Gives, IsEntry}
use Rattle.asm_passes.proofs.Rest.{rest_of, first_of, rest_cons}

-- ---- one line more

before_ok : (g : Gathered) (line : ℕ) (i : Item) (r : Result (List Item) AsmFault) →
    gathered g (before line (Ok i) r) ≡ gathered (with g i) r
before_ok g line i (Ok is) = refl
before_ok g line i (Err f) = refl

pub next_item : (k : Known) (g : Gathered) (p : Position) (rest line more : List ℕ) (i : Item) →
    lines rest ≡ line ∷ lines more → given k p (first_of p line) ≡ Ok i →
    gathered (with g i) (collected k (rest_of (behind p (first_of p line)) more)) ≡ gathered g
    (collected k (rest_of p rest))
next_item k g p rest line more i e here =
    let later = collected k (rest_of (behind p (first_of p line)) more) in
    sym (before_ok g p.line i later)
    ∙ ap (λ r. gathered g (before p.line r later)) (sym here)
    ∙ ap (λ ps. gathered g (collected k ps)) (sym (rest_cons p rest line more e))

pub next_fault : (k : Known) (g : Gathered) (p : Position) (rest line more : List ℕ) (f : AsmFaultKind) →
    lines rest ≡ line ∷ lines more → given k p (first_of p line) ≡ Err f →
    gathered g (collected k (rest_of p rest)) ≡ Err (record { kind = f; line = p.line })
next_fault k g p rest line more f e here =
    let later = collected k (rest_of (behind p (first_of p line)) more) in
    ap (λ ps. gathered g (collected k ps)) (rest_cons p rest line more e)
    ∙ ap (λ r. gathered g (before p.line r later)) here

-- ---- what stays true of it

bytes_fewer : (z : List ℕ) → length (bytes_of z) ≤ length z
bytes_fewer [] = omega arith
bytes_fewer (a ∷ []) = omega arith
bytes_fewer (a ∷ b ∷ z) = let rest = bytes_fewer z in omega (arith, rest)

data_fewer : (i : Item) → length (data_of i) ≤ digits_in i
data_fewer item.Nothing = omega arith
data_fewer (item.Entry a) = omega arith
data_fewer (item.Function f) = omega arith
data_fewer (item.Data d) = bytes_fewer d
data_fewer (item.Word w) = omega arith

pub record Sound (words : ℕ) (p : Position) (left whole : ℕ) (g : Gathered) : Type 0 where
  pub entry : IsEntry words g.entry
  pub text : length g.text ≡ p.words
  pub bytes : length g.bytes + left ≤ whole
  pub functions : IsTrue (list_all (is_function_in words) g.functions)
  pub counted : length g.functions ≤ p.functions
  pub few : length g.functions ≤ 65535

entry_stays : (words : ℕ) (p : Position) (o : Option ℕ) (i : Item) → IsEntry words o → IsGood words p i →
    IsEntry words (option_or o (entry_of i))
entry_stays words p (Some a) i h good = h
entry_stays words p None item.Nothing h good = tt
entry_stays words p None (item.Entry a) h good = good
entry_stays words p None (item.Function f) h good = tt
entry_stays words p None (item.Data d) h good = tt
entry_stays words p None (item.Word w) h good = tt

pub all_and : (a b : Bool) → IsTrue a → IsTrue b → IsTrue (a && b)
all_and true b g h = h
all_and false b g h = g

good_functions : (words : ℕ) (p : Position) (i : Item) → IsGood words p i →
    IsTrue (list_all (is_function_in words) (functions_of i))
good_functions words p item.Nothing good = refl
good_functions words p (item.Entry a) good = refl
good_functions words p (item.Function f) good = all_and (is_function_in words f) true good.0 refl
good_functions words p (item.Data d) good = refl
good_functions words p (item.Word w) good = refl

functions_stay : (words : ℕ) (p : Position) (g : Gathered) (i : Item) →
    IsTrue (list_all (is_function_in words) g.functions) →
    IsGood words p i → IsTrue (list_all (is_function_in words) (g.functions ++ functions_of i))
functions_stay words p g i h good =
    subst IsTrue (sym (list_all-append (is_function_in words) g.functions (functions_of i)))
    (all_and (list_all (is_function_in words) g.functions) _ h (good_functions words p i good))

few_stay : (words : ℕ) (p : Position) (n : ℕ) (i : Item) → n ≤ p.functions → n ≤ 65535 → IsGood words p i →
    n + length (functions_of i) ≤ 65535
few_stay words p n item.Nothing c h good = omega (arith, h)
few_stay words p n (item.Entry a) c h good = omega (arith, h)
few_stay words p n (item.Function f) c h good = let few = good.1 in omega (arith, c, few)
few_stay words p n (item.Data d) c h good = omega (arith, h)
few_stay words p n (item.Word w) c h good = omega (arith, h)

pub stays : (words : ℕ) (p q : Position) (left left' len whole : ℕ) (g : Gathered) (i : Item) →
    IsGood words p i → digits_in i ≤ len → Counts p q i → len + left' ≤ left →
    Sound words p left whole g → Sound words q left' whole (with g i)
stays words p q left left' len whole g i good digits counts shorter before =
    let text = length-append g.text (words_of i) in
    let bytes = length-append g.bytes (data_of i) in
    let functions = length-append g.functions (functions_of i) in
    let fewer = data_fewer i in
    let b = before in
    let c = counts in
    let few = few_stay words p (length g.functions) i before.counted before.few good in
    record {
      entry = entry_stays words p g.entry i before.entry good;
      text = omega (arith, text, b.text, c.words);
      bytes = omega (arith, bytes, fewer, digits, shorter, b.bytes);
      functions = functions_stay words p g i before.functions good;
      counted = omega (arith, functions, b.counted, c.functions);
      few = omega (arith, functions, few);
    }

digits_if : (n : ℕ) (t : Bool) (l : Line) → HasDigits n (Some l) → HasDigits n (cond t None (Some l))
digits_if n true l h = tt
digits_if n false l h = h

pub counted_digits : (n : ℕ) (p : Position) (m : Option Line) → HasDigits n m → HasDigits n (counted p m)
counted_digits n p None h = tt
counted_digits n p (Some l) h = digits_if n (p.entered && is_entry l.statement) l h

-- ---- what all lines give

gives_by : (a b : Result Gathered AsmFault) (r : Result Parts AsmDeny) → a ≡ b → Gives a r → Gives b r
gives_by a b r e g = subst (λ x. Gives x r) e g

-- A text with words, of which something was gathered by what all lines say together.
pub all_gathered : (ps : List Placed) (n : ℕ) (ls : Names) (r : Result Parts AsmDeny) → n ≢ 0 →
    known_by ls n ≡ known ps → Gives (gathered none (collected (known_by ls n) ps)) r → Gives (gathered_in ps) r
all_gathered ps n ls r some e g =
    let count : words ps ≡ n = ap (λ k. k.words) (sym e) in
    let not_none : words ps ≢ 0 = λ z. some (sym count ∙ z) in
    gives_by (gathered none (collected (known_by ls n) ps)) (gathered_in ps) r
    (ap (λ k. gathered none (collected k ps)) e
    ∙ sym (ap (λ t. cond t (Err (record { kind = BadLine; line = 1 })) (gathered none (collected (known ps) ps)))
    (ne_eqb (words ps) 0 not_none))) g
