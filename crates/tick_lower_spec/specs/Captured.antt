-- What the ticks of a specification captured: captures of the kinds that each tick names, and where a specification was
-- captured, one that leaves a value where its kind says so. The second is a rule of `C on what a splice may stand for;
-- the meaning tests it as a specification is made. The rest are this project's own rules.
use Rattle.std.specs.Prelude.{◌≡◌, Bool, List, [], ◌∷◌, Option, Some, None, slice_get}
use Rattle.history.specs.Syntax.{Syntax, Ticked, Captures, NoCapture, Word, Named, Spliced}
use Rattle.typed_tree.specs.declared.expression.CaptureKind.{CaptureKind}
use Rattle.typed_tree.specs.declared.expression.CaptureKind.TheVariants as kind
use Rattle.typed_tree.specs.Sizes.{is_value}
use Rattle.staged_meaning.specs.Program.{Tick, is_expression}

-- captures of these kinds, in their order
abbrev pub HasKinds : List CaptureKind → Captures → Type 0
HasKinds [] NoCapture = Unit {0}
HasKinds (kind.Dollar ∷ kinds) (Word word captures) = HasKinds kinds captures
HasKinds (kind.Address ∷ kinds) (Word word captures) = HasKinds kinds captures
HasKinds (kind.Splice answer ∷ kinds) (Spliced syntax captures) = HasKinds kinds captures
HasKinds (kind.Variable ∷ kinds) (Named key captures) = HasKinds kinds captures
HasKinds _ _ = ⊥

-- those of a tick that is there
abbrev pub HasKindsAt : Option (List CaptureKind) → Captures → Type 0
HasKindsAt None captures = ⊥
HasKindsAt (Some kinds) captures = HasKinds kinds captures

-- a specification whose ticks each have captures of their kinds, where the ticks of the program capture this
module _ (ticks : List (List CaptureKind)) where
  abbrev mutual
    pub HasTicks : Syntax → Type 0
    HasTicks (Ticked tick captures) = HasKindsAt (slice_get ticks tick) captures × HaveTicks captures

    pub HaveTicks : Captures → Type 0
    HaveTicks NoCapture = Unit {0}
    HaveTicks (Word word captures) = HaveTicks captures
    HaveTicks (Named key captures) = HaveTicks captures
    HaveTicks (Spliced syntax captures) = HasTicks syntax × HaveTicks captures

module _ (ticks : List Tick) where
  -- the specification is one of an expression that leaves a value
  abbrev pub leaves : Syntax → Bool
  leaves (Ticked tick captures) = is_expression (slice_get ticks tick)

  -- captures of these kinds: each specification among them leaves a value exactly where its kind says so
  abbrev pub HaveAnswers : List CaptureKind → Captures → Type 0
  HaveAnswers (kind.Splice answer ∷ kinds) (Spliced syntax captures) =
      (leaves syntax ≡ is_value answer) × HaveAnswers kinds captures
  HaveAnswers (k ∷ kinds) (Word word captures) = HaveAnswers kinds captures
  HaveAnswers (k ∷ kinds) (Named key captures) = HaveAnswers kinds captures
  HaveAnswers _ captures = Unit {0}

  abbrev pub HaveAnswersAt : Option (List CaptureKind) → Captures → Type 0
  HaveAnswersAt None captures = Unit {0}
  HaveAnswersAt (Some kinds) captures = HaveAnswers kinds captures

  -- a whole specification, where the ticks capture this
  module _ (captured : List (List CaptureKind)) where
    abbrev mutual
      pub HasAnswers : Syntax → Type 0
      HasAnswers (Ticked tick captures) = HaveAnswersAt (slice_get captured tick) captures × AllHaveAnswers captures

      pub AllHaveAnswers : Captures → Type 0
      AllHaveAnswers NoCapture = Unit {0}
      AllHaveAnswers (Word word captures) = AllHaveAnswers captures
      AllHaveAnswers (Named key captures) = AllHaveAnswers captures
      AllHaveAnswers (Spliced syntax captures) = HasAnswers syntax × AllHaveAnswers captures
