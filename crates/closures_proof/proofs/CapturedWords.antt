-- A specification that stands as a closure captured words.
use Rattle.std.proofs.Common.{◌≡◌, ℕ, zero, suc, ◌+◌, ◌<◌, ◌≤◌, List, [], ◌∷◌, length, Option, Some, None, slice_get}
use Rattle.std.proofs.Common.{refl, subst, arith}
use Rattle.word32.specs.Space.{AreWords}
use Rattle.history.specs.Syntax.{Syntax, Ticked, Captures, NoCapture, Word, Named, Spliced}
use Rattle.mips_model.specs.State.{Data}
use Rattle.icode_ops.specs.declared.kind.ClosureKind.{ClosureKind}
use Rattle.meaning_state.specs.Shared.{Shared, Specification, Expression, Statement, Local, Param}
use Rattle.meaning_state.specs.Rows.{numbered, specification_at, closure_bytes}
use Rattle.icode_ir.specs.Sound.{Each}
use Rattle.icode_templates_proof.specs.Closures.{Closure, words_at, closure_of, HasClosures}
use Rattle.closures_proof.specs.Relation.{Text, IsOf, AreCaptured, IsTick, HasSpecifications, captures_of_syntax}
use Rattle.closures_proof.specs.CapturedWords.{IsOfWords, AreOfWords}

abbrev IsWord : ℕ → Type 0
IsWord x = x < 4294967296

are_words : (space : ℕ → ℕ) → AreWords space → (at count : ℕ) → Each IsWord (words_at space at count)
are_words space words at zero = tt
are_words space words at (suc count) = (words _, are_words space words (at + 4) count)

-- a row more is one that is there
missing : {A B : Type 0} (xs : List A) (ys : List B) (n : ℕ) (x : A) → length ys ≡ length xs → slice_get xs n ≡ Some x
    → slice_get ys n ≡ None → ⊥
missing [] ys n x same h none = absurd cc
missing (x ∷ xs) [] n y same h none = absurd (omega (arith, same))
missing (x ∷ xs) (y ∷ ys) zero z same h none = absurd cc
missing (x ∷ xs) (y ∷ ys) (suc n) z same h none = missing xs ys n z (omega (arith, same)) h none

module _ (text : Text) (shared : Shared) (d : Data) (has : HasSpecifications text shared d) where
  -- the captured words of a closure
  captured_words : (n : ℕ) (k : Closure) → slice_get has.closures n ≡ Some k → Each IsWord k.captured
  captured_words n k at =
      let s = has.memory.stand n k at in
      subst (λ (c : Closure). Each IsWord c.captured) s.reads
      (are_words d.closures has.memory.words (closure_of d (suc n) + closure_bytes 0) (length k.captured))

  -- specifications with lower numbers captured words
  abbrev Below : ℕ → Type 0
  Below number =
      (x : ℕ) → x < number → (syntax : Syntax) → IsOf syntax (specification_at x shared) → IsOfWords syntax

  all_words : (number : ℕ) → Below number → (captures : Captures) (words : List ℕ)
      → AreCaptured shared.specifications number captures words → Each IsWord words → AreOfWords captures
  all_words number lower NoCapture words are small = tt
  all_words number lower (Word word captures) (x ∷ xs) are small =
      (subst IsWord are.0 small.0, all_words number lower captures xs are.1 small.1)
  all_words number lower (Named key captures) (x ∷ xs) are small =
      all_words number lower captures xs are.3 small.1
  all_words number lower (Spliced syntax captures) (x ∷ xs) are small =
      (lower x are.0 syntax are.1, all_words number lower captures xs are.2 small.1)
  all_words number lower (Word word captures) [] are small = absurd are
  all_words number lower (Named key captures) [] are small = absurd are
  all_words number lower (Spliced syntax captures) [] are small = absurd are

  by_captures : (number : ℕ) → Below number → (syntax : Syntax) (words : List ℕ)
      → AreCaptured shared.specifications number (captures_of_syntax syntax) words → Each IsWord words
      → IsOfWords syntax
  by_captures number lower (Ticked tick captures) words are small = all_words number lower captures words are small

  by_closure : (n : ℕ) → Below (suc n) → (syntax : Syntax) (s : Specification)
      → slice_get shared.specifications n ≡ Some s → IsOf syntax (Some s) → (k : Option Closure)
      → slice_get has.closures n ≡ k → IsOfWords syntax
  by_closure n lower syntax s at of None none =
      absurd (missing shared.specifications has.closures n s has.stand_for.count at none)
  by_closure n lower syntax (Expression x) at of (Some k) there =
      let is = has.stand_for.each n (Expression x) k at there in
      subst IsOfWords of (by_captures (suc n) lower x k.captured is.captured (captured_words n k there))
  by_closure n lower syntax (Statement x) at of (Some k) there =
      let is = has.stand_for.each n (Statement x) k at there in
      subst IsOfWords of (by_captures (suc n) lower x k.captured is.captured (captured_words n k there))
  by_closure n lower syntax Local at of (Some k) there = absurd of
  by_closure n lower syntax (Param index) at of (Some k) there = absurd of

  by_row : (n : ℕ) → Below (suc n) → (syntax : Syntax) (o : Option Specification)
      → slice_get shared.specifications n ≡ o → IsOf syntax o → IsOfWords syntax
  by_row n lower syntax None at of = absurd of
  by_row n lower syntax (Some s) at of = by_closure n lower syntax s at of (slice_get has.closures n) refl

  all_below : (number : ℕ) → Below number
  all_below zero x low syntax of = absurd (omega (arith, low))
  all_below (suc n) zero low syntax of = absurd of
  all_below (suc n) (suc x) low syntax of =
      by_row x (λ y less. all_below n y (omega (arith, less, low))) syntax (slice_get shared.specifications x) refl of

pub of_words : (text : Text) (shared : Shared) (d : Data) (number : ℕ) (syntax : Syntax)
    → HasSpecifications text shared d → IsOf syntax (specification_at number shared) → IsOfWords syntax
of_words text shared d number syntax has of = all_below text shared d has (suc number) number (omega arith) syntax of
