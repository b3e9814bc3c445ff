-- What holds of the value and the tokens that a parser gives, and how it goes on through the steps of a production.
use Rattle.std.proofs.Common.{◌≡◌, Bool, true, false, cond, [], ◌∷◌, refl, ap, ◌∙◌, rules}
use Rattle.std.specs.Prelude.{Ok, Err}
use denote.Enum.Bare.{same_true}
use Rattle.parse_grammar.specs.contracts.kind.Mark as of_mark
use Rattle.parse_grammar.specs.contracts.kind.Word as of_word
use Rattle.parse_grammar.specs.declared.item.Item.{Item}
use Rattle.parse_grammar.specs.declared.kind.Kind.{Kind}
use Rattle.parse_grammar.specs.declared.kind.Kind.TheVariants as k
use Rattle.parse_grammar.specs.declared.kind.Mark.{Mark}
use Rattle.parse_grammar.specs.declared.kind.Word.{Word as Keyword}
use Rattle.parse_grammar.specs.declared.stop.Stop.{Stop}
use Rattle.parse_grammar.specs.Input.{Input, Outcome, Parser, and_then, kind, next, text, value, unsigned, sees}
use Rattle.parse_grammar.specs.Input.{is_mark, is_word, same_mark, same_word, expect, expect_word}
use Rattle.tick_tree.specs.declared.base.UnaryOp.{UnaryOp}
use Rattle.parse_spelling.specs.Words.{Words, sign_kind, Plain, Name, Number, Character, word_by, join, words}
use Rattle.parse_spelling.specs.Spelling.{Spelling, mark, keyword_word}

pub Gives : {A : Type 0} → Outcome A → (A → Input → Type 0) → Type 0
Gives (Ok p) Q = Q p.0 p.1
Gives (Err s) Q = Unit {0}

pub given : {A : Type 0} (a : A) (j : Input) (Q : A → Input → Type 0) → Q a j → Gives (Ok (a, j)) Q
unfolding Gives
given a j Q h = h

pub taken_from : {A : Type 0} (a : A) (j : Input) (Q : A → Input → Type 0) → Gives (Ok (a, j)) Q → Q a j
unfolding Gives
taken_from a j Q h = h

pub refused : {A : Type 0} (s : Stop) (Q : A → Input → Type 0) → Gives (Err s) Q
unfolding Gives
refused s Q = tt

pub after : {A B : Type 0} (o : Outcome A) (Q : A → Input → Type 0) (f : A → Parser B) (R : B → Input → Type 0) →
    Gives o Q → ((a : A) (j : Input) → Q a j → Gives (f a j) R) → Gives (and_then o f) R
unfolding Gives
after (Ok p) Q f R h go = go p.0 p.1 h
after (Err s) Q f R h go = tt

pub choose : {A : Type 0} (b : Bool) (o p : Outcome A) (Q : A → Input → Type 0) → (b ≡ true → Gives o Q) →
    (b ≡ false → Gives p Q) → Gives (cond b o p) Q
choose true o p Q yes_goes no_goes = yes_goes refl
choose false o p Q yes_goes no_goes = no_goes refl

-- the same for a choice between parsers
pub choose_parser : {A : Type 0} (b : Bool) (p q : Parser A) (i : Input) (Q : A → Input → Type 0) →
    (b ≡ true → Gives (p i) Q) → (b ≡ false → Gives (q i) Q) → Gives ((cond b p q) i) Q
choose_parser true p q i Q yes_goes no_goes = yes_goes refl
choose_parser false p q i Q yes_goes no_goes = no_goes refl

pub guard : {A : Type 0} (b : Bool) (o : Outcome A) (s : Stop) (Q : A → Input → Type 0) → (b ≡ true → Gives o Q) →
    Gives (cond b o (Err s)) Q
guard b o s Q goes = choose b o (Err s) Q goes (λ _. refused s Q)

-- what a parser reads is spelled so
abbrev pub Says : {A : Type 0} → (A → Spelling) → Parser A → Type 0
Says f p = (i : Input) → Gives (p i) (λ a j. words i ≡ f a (words j))

-- ---- single tokens

abbrev pub plain : Kind → Bool
plain k.End = false
plain k.Name = false
plain k.Number = false
plain k.Character = false
plain k.String = false
plain (k.Unary o) = false
plain _ = true

plain_word : (t : Item) (kd : Kind) (ws : Words) → plain kd ≡ true → join (word_by t kd) ws ≡ Plain kd ∷ ws
plain_word t k.End ws h = refl
plain_word t k.Name ws h = cc
plain_word t k.Number ws h = cc
plain_word t k.Character ws h = cc
plain_word t k.String ws h = cc
plain_word t (k.Unary o) ws h = cc
plain_word t _ ws h = refl

pub taken : (kd : Kind) (i : Input) → plain kd ≡ true → kind i ≡ kd → words i ≡ Plain kd ∷ words (next i)
unfolding kind next words
taken kd [] p h = let q = ap plain h in cc
taken kd (t ∷ i) p h = ap (λ q. join (word_by t q) (words i)) h ∙ plain_word t kd (words i) p

pub taken_name : (i : Input) → kind i ≡ k.Name → words i ≡ Name (text i) ∷ words (next i)
unfolding kind next words text
taken_name [] h = cc
taken_name (t ∷ i) h = ap (λ q. join (word_by t q) (words i)) h

pub taken_number : (i : Input) → kind i ≡ k.Number → words i ≡ Number (value i) (unsigned i) ∷ words (next i)
unfolding kind next words value unsigned
taken_number [] h = cc
taken_number (t ∷ i) h = ap (λ q. join (word_by t q) (words i)) h

pub taken_character : (i : Input) → kind i ≡ k.Character → words i ≡ Character (value i) ∷ words (next i)
unfolding kind next words value
taken_character [] h = cc
taken_character (t ∷ i) h = ap (λ q. join (word_by t q) (words i)) h

pub taken_unary : (o : UnaryOp) (i : Input) → kind i ≡ k.Unary o → words i ≡ Plain (sign_kind o) ∷ words (next i)
unfolding kind next words
taken_unary o [] h = cc
taken_unary o (t ∷ i) h = ap (λ q. join (word_by t q) (words i)) h

-- ---- marks and words

pub marked : (x : Mark) (kd : Kind) → is_mark x kd ≡ true → kd ≡ k.Mark x
unfolding is_mark same_mark
marked x (k.Mark y) h = ap (λ z. k.Mark z) (same_true of_mark.the_type (search rules) y x h)
marked x _ h = cc

pub worded : (x : Keyword) (kd : Kind) → is_word x kd ≡ true → kd ≡ k.Word x
unfolding is_word same_word
worded x (k.Word y) h = ap (λ z. k.Word z) (same_true of_word.the_type (search rules) y x h)
worded x _ h = cc

pub taken_mark : (x : Mark) (i : Input) → sees x i ≡ true → words i ≡ mark x (words (next i))
taken_mark x i h = taken (k.Mark x) i refl (marked x (kind i) h)

pub expect_says : (x : Mark) → Says (λ _. mark x) (expect x)
expect_says x i = guard (sees x i) _ _ _ (λ h. given _ _ _ (taken_mark x i h))

pub expect_word_says : (x : Keyword) → Says (λ _. keyword_word x) (expect_word x)
expect_word_says x i = guard (is_word x (kind i)) _ _ _
    (λ h. given _ _ _ (taken (k.Word x) i refl (worded x (kind i) h)))

pub weaken : {A : Type 0} (o : Outcome A) (Q R : A → Input → Type 0) → Gives o Q →
    ((a : A) (j : Input) → Q a j → R a j) → Gives o R
unfolding Gives
weaken (Ok p) Q R h go = go p.0 p.1 h
weaken (Err s) Q R h go = tt
