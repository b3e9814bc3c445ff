-- What stands in memory for a captured number, and which captured word stands for what.
use Rattle.std.proofs.Common.{◌≡◌, inl, inr, ℕ, zero, suc, ◌+◌, ◌*◌, ◌/◌, ◌%◌, ◌<◌, ◌≤◌, List, [], ◌∷◌, length, Option}
use Rattle.std.proofs.Common.{Some, None, refl, ap, ◌∙◌, subst, arith, slice_get}
use Rattle.std.proofs.lemmas.Option.{slice_get_within}
use Rattle.word32.specs.declared.map.TheConstants.{CLOSURES, CLOSURE_BYTES, SPEC_ROW_BYTES}
use Rattle.history.specs.Syntax.{Syntax, Ticked, Captures, NoCapture, Word, Named, Spliced}
use Rattle.mips_model.specs.State.{Data}
use Rattle.meaning_state.specs.Shared.{Shared, Specification, Expression, Statement, Local, Param}
use Rattle.meaning_state.specs.Rows.{numbered, closure_bytes}
use Rattle.staged_meaning.specs.Specifications.{key_in}
use Rattle.icode_templates_proof.specs.Closures.{Head, Closure, word_at, words_at, closure_of, Stands}
use Rattle.icode_templates_proof.proofs.Checking.{bytes_least}
use Rattle.closures_proof.specs.Relation.{Text, tick_of, captures_of_syntax, IsOf, IsVariable, AreCaptured}
use Rattle.closures_proof.specs.Relation.{StandsFor, HasSpecifications}
use Rattle.closures_proof.proofs.Lookups.{members}
use Rattle.generator_laws.specs.Pieces.{capture_at, word_in, key_in_capture, IsWord, IsKey, IsSplice}
use Rattle.generator_laws.proofs.Issuing.{offset, HasPlace}

-- ---- the closure of a live number

pub record Live (text : Text) (shared : Shared) (d : Data) (number : ℕ) (s : Specification) : Type 0 where
  pub closure : Closure
  pub stands : Stands d number closure
  pub stands_for : StandsFor text shared.specifications number s closure
  pub positive : 0 < number
  pub few : number ≤ SPEC_ROW_BYTES / 4
  pub high : closure_of d number + closure_bytes (length closure.captured) ≤ CLOSURES + CLOSURE_BYTES

pub live : (text : Text) (shared : Shared) (d : Data) (number : ℕ) (s : Specification) →
    HasSpecifications text shared d → numbered number shared.specifications ≡ Some s → Live text shared d number s
live text shared d zero s h e = let z : ⊥ = cc in absurd z
live text shared d (suc n) s h e = elim (members shared.specifications h.closures n h.stand_for.count) [
  | inl m ↦ (let stands = h.memory.stand n m.right m.right_is in
      let least = bytes_least h.closures in
      let below = slice_get_within h.closures n m.right m.right_is in
      record {
        closure = m.right;
        stands = stands;
        stands_for = h.stand_for.each n s m.right e m.right_is;
        positive = omega arith;
        few = omega (arith, below, least, h.memory.within);
        high = omega (arith, stands.to, h.memory.next, h.memory.within);
      })
  | inr none ↦ (let x : ⊥ = cc in absurd x)
]

-- its first word, of a variable
variable_first : (text : Text) (rows : List Specification) (number : ℕ) (s : Specification) (k : Closure) →
    StandsFor text rows number s k → IsVariable (Some s) → k.head.first ≡ key_in number (Some s)
variable_first text rows number (Expression syntax) k h v = absurd v
variable_first text rows number (Statement syntax) k h v = absurd v
variable_first text rows number Local k h v = ap (λ (x : Closure). x.head.first) h
variable_first text rows number (Param index) k h v = ap (λ (x : Closure). x.head.first) h.1

-- a captured variable in memory
pub record HasKey (key number : ℕ) (d : Data) : Type 0 where
  pub positive : 0 < number
  pub few : number ≤ SPEC_ROW_BYTES / 4
  pub from : CLOSURES ≤ closure_of d number
  pub to : closure_of d number < CLOSURES + CLOSURE_BYTES
  pub even : closure_of d number % 4 ≡ 0
  pub first : word_at d.closures (closure_of d number) ≡ key

pub key_found : (text : Text) (shared : Shared) (d : Data) (number key : ℕ) (o : Option Specification) →
    HasSpecifications text shared d → numbered number shared.specifications ≡ o → IsVariable o → key_in number o ≡ key →
    HasKey key number d
key_found text shared d number key None h e v is = absurd v
key_found text shared d number key (Some s) h e v is =
    let l = live text shared d number s h e in
    record {
      positive = l.positive;
      few = l.few;
      from = l.stands.from;
      to = omega (arith, l.high);
      even = l.stands.even;
      first = ap (λ (x : Closure). x.head.first) l.stands.reads
          ∙ variable_first text shared.specifications number s l.closure l.stands_for v ∙ is;
    }

-- a captured specification, or the one whose function runs
pub record HasTick (text : Text) (shared : Shared) (syntax : Syntax) (number : ℕ) (d : Data) : Type 0 where
  pub words : List ℕ
  pub captured : AreCaptured shared.specifications number (captures_of_syntax syntax) words
  pub reads : words_at d.closures (closure_of d number + 16) (length words) ≡ words
  pub positive : 0 < number
  pub few : number ≤ SPEC_ROW_BYTES / 4
  pub from : CLOSURES ≤ closure_of d number
  pub to : closure_of d number + closure_bytes (length words) ≤ CLOSURES + CLOSURE_BYTES
  pub even : closure_of d number % 4 ≡ 0
  pub first : word_at d.closures (closure_of d number) ≡ text.generator_at (tick_of syntax)

of_tick : (text : Text) (rows : List Specification) (number : ℕ) (syntax : Syntax) (s : Specification) (k : Closure) →
    StandsFor text rows number s k → IsOf syntax (Some s) →
    (k.head.first ≡ text.generator_at (tick_of syntax)) × AreCaptured rows number (captures_of_syntax syntax) k.captured
of_tick text rows number syntax (Expression own) k h is = (
  ap (λ (x : Head). x.first) h.head ∙ ap (λ x. text.generator_at (tick_of x)) is,
  subst (λ x. AreCaptured rows number (captures_of_syntax x) k.captured) is h.captured,
)
of_tick text rows number syntax (Statement own) k h is = (
  ap (λ (x : Head). x.first) h.head ∙ ap (λ x. text.generator_at (tick_of x)) is,
  subst (λ x. AreCaptured rows number (captures_of_syntax x) k.captured) is h.captured,
)
of_tick text rows number syntax Local k h is = absurd is
of_tick text rows number syntax (Param index) k h is = absurd is

pub tick_found : (text : Text) (shared : Shared) (d : Data) (number : ℕ) (syntax : Syntax) (o : Option Specification) →
    HasSpecifications text shared d → numbered number shared.specifications ≡ o → IsOf syntax o →
    HasTick text shared syntax number d
tick_found text shared d number syntax None h e is = absurd is
tick_found text shared d number syntax (Some s) h e is =
    let l = live text shared d number s h e in
    let t = of_tick text shared.specifications number syntax s l.closure l.stands_for is in
    record {
      words = l.closure.captured;
      captured = t.1;
      reads = ap (λ (x : Closure). x.captured) l.stands.reads;
      positive = l.positive;
      few = l.few;
      from = l.stands.from;
      to = l.high;
      even = l.stands.even;
      first = ap (λ (x : Closure). x.head.first) l.stands.reads ∙ t.0;
    }

-- ---- the word of a capture

-- a word of a list that stands in memory
pub word_reads : (f : ℕ → ℕ) (a count i x : ℕ) → slice_get (words_at f a count) i ≡ Some x → f ((a + 4 * i) / 4) ≡ x
word_reads f a zero i x e = let z : ⊥ = cc in absurd z
word_reads f a (suc count) zero x e =
    let is : f (a / 4) ≡ x = cc in ap (λ n. f (n / 4)) (omega arith) ∙ is
word_reads f a (suc count) (suc i) x e =
    ap (λ n. f (n / 4)) (omega arith) ∙ word_reads f (a + 4) count i x e

pub word_there : (rows : List Specification) (n : ℕ) (cs : Captures) (xs : List ℕ) (i : ℕ) → AreCaptured rows n cs xs →
    IsWord (capture_at cs i) → slice_get xs i ≡ Some (word_in (capture_at cs i))
word_there rows n NoCapture xs i h w = absurd w
word_there rows n (Word word cs) [] i h w = absurd h
word_there rows n (Word word cs) (x ∷ xs) zero h w = ap Some h.0
word_there rows n (Word word cs) (x ∷ xs) (suc i) h w = word_there rows n cs xs i h.1 w
word_there rows n (Named key cs) [] i h w = absurd h
word_there rows n (Named key cs) (x ∷ xs) zero h w = absurd w
word_there rows n (Named key cs) (x ∷ xs) (suc i) h w = word_there rows n cs xs i h.3 w
word_there rows n (Spliced syntax cs) [] i h w = absurd h
word_there rows n (Spliced syntax cs) (x ∷ xs) zero h w = absurd w
word_there rows n (Spliced syntax cs) (x ∷ xs) (suc i) h w = word_there rows n cs xs i h.2 w

-- the number of a captured variable
pub record KeyAt (rows : List Specification) (xs : List ℕ) (i key : ℕ) : Type 0 where
  pub number : ℕ
  pub there : slice_get xs i ≡ Some number
  pub variable : IsVariable (numbered number rows)
  pub key_is : key_in number (numbered number rows) ≡ key

pub key_there : (rows : List Specification) (n : ℕ) (cs : Captures) (xs : List ℕ) (i : ℕ) → AreCaptured rows n cs xs →
    IsKey (capture_at cs i) → KeyAt rows xs i (key_in_capture (capture_at cs i))
key_there rows n NoCapture xs i h w = absurd w
key_there rows n (Word word cs) [] i h w = absurd h
key_there rows n (Word word cs) (x ∷ xs) zero h w = absurd w
key_there rows n (Word word cs) (x ∷ xs) (suc i) h w = let r = key_there rows n cs xs i h.1 w in
    record { number = r.number; there = r.there; variable = r.variable; key_is = r.key_is }
key_there rows n (Named key cs) [] i h w = absurd h
key_there rows n (Named key cs) (x ∷ xs) zero h w =
    record { number = x; there = refl; variable = h.1; key_is = h.2 }
key_there rows n (Named key cs) (x ∷ xs) (suc i) h w = let r = key_there rows n cs xs i h.3 w in
    record { number = r.number; there = r.there; variable = r.variable; key_is = r.key_is }
key_there rows n (Spliced syntax cs) [] i h w = absurd h
key_there rows n (Spliced syntax cs) (x ∷ xs) zero h w = absurd w
key_there rows n (Spliced syntax cs) (x ∷ xs) (suc i) h w = let r = key_there rows n cs xs i h.2 w in
    record { number = r.number; there = r.there; variable = r.variable; key_is = r.key_is }

-- and that of a captured specification
abbrev pub syntax_of : Captures → Syntax
syntax_of (Spliced syntax captures) = syntax
syntax_of _ = Ticked 0 NoCapture

pub record SpliceAt (rows : List Specification) (xs : List ℕ) (i : ℕ) (syntax : Syntax) : Type 0 where
  pub number : ℕ
  pub there : slice_get xs i ≡ Some number
  pub is_of : IsOf syntax (numbered number rows)

pub splice_there : (rows : List Specification) (n : ℕ) (cs : Captures) (xs : List ℕ) (i : ℕ) →
    AreCaptured rows n cs xs → IsSplice (capture_at cs i) → SpliceAt rows xs i (syntax_of (capture_at cs i))
splice_there rows n NoCapture xs i h w = absurd w
splice_there rows n (Word word cs) [] i h w = absurd h
splice_there rows n (Word word cs) (x ∷ xs) zero h w = absurd w
splice_there rows n (Word word cs) (x ∷ xs) (suc i) h w = let r = splice_there rows n cs xs i h.1 w in
    record { number = r.number; there = r.there; is_of = r.is_of }
splice_there rows n (Named key cs) [] i h w = absurd h
splice_there rows n (Named key cs) (x ∷ xs) zero h w = absurd w
splice_there rows n (Named key cs) (x ∷ xs) (suc i) h w = let r = splice_there rows n cs xs i h.3 w in
    record { number = r.number; there = r.there; is_of = r.is_of }
splice_there rows n (Spliced syntax cs) [] i h w = absurd h
splice_there rows n (Spliced syntax cs) (x ∷ xs) zero h w = record { number = x; there = refl; is_of = h.1 }
splice_there rows n (Spliced syntax cs) (x ∷ xs) (suc i) h w = let r = splice_there rows n cs xs i h.2 w in
    record { number = r.number; there = r.there; is_of = r.is_of }

-- the place of a captured word
pub place_there : (text : Text) (shared : Shared) (syntax : Syntax) (number : ℕ) (d : Data) (i x : ℕ) →
    (t : HasTick text shared syntax number d) → slice_get t.words i ≡ Some x → HasPlace (closure_of d number) i
place_there text shared syntax number d i x t e =
    let l = slice_get_within t.words i x e in
    record { from = t.from; to = omega (arith, l, t.to); even = t.even }

pub word_in_memory : (text : Text) (shared : Shared) (syntax : Syntax) (number : ℕ) (d : Data) (i x : ℕ) →
    (t : HasTick text shared syntax number d) → slice_get t.words i ≡ Some x →
    word_at d.closures (closure_of d number + offset i) ≡ x
word_in_memory text shared syntax number d i x t e =
    ap (word_at d.closures) (omega arith)
    ∙ word_reads d.closures (closure_of d number + 16) (length t.words) i x
    (ap (λ (xs : List ℕ). slice_get xs i) t.reads ∙ e)
