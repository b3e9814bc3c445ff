-- The functions of a program are ready to be lowered.
use Rattle.std.proofs.Common.{◌≡◌, ℕ, List, map, Option, None, Some, refl}
use Rattle.std.specs.Option.{option_map}
use Rattle.wellformed.specs.declared.typed.Typed.{Typed}
use Rattle.wellformed.specs.Program.{IsWellFormed}
use Rattle.typed_tree.specs.declared.expression.CaptureKind.{CaptureKind}
use Rattle.typed_tree.specs.declared.program.Function.{Function}
use Rattle.typed_tree.specs.View.{function_view}
use Rattle.staged_meaning.specs.Program.{Tick}
use Rattle.staged_meaning.specs.Source.{ticks_of}
use Rattle.static_image.specs.Served.{AreStatic}
use Rattle.tick_lower.specs.Sized.{AreSized}
use Rattle.accepted_programs.specs.Mains.{Main, IsOfWords, main_in}
use Rattle.accepted_programs.specs.Laws.{MeetsBackend, ProgramsMeetBackend}

-- with some ticks, which capture something
abbrev pub Static : List Function → Type 0
Static functions =
    (captures : List (List CaptureKind)) × (ticks : List Tick) × AreStatic (map function_view functions) captures ticks

module _ (law : ProgramsMeetBackend) (program : Typed) (n : ℕ) (h : IsWellFormed program) (words : IsOfWords program)
  where
    meets : Some n ≡ option_map (λ (m : Main). m.number) (main_in program) →
        (m : Main) × MeetsBackend program h m
    meets e = by (main_in program) (λ m is. law program m h words is) e
      where
        by : (o : Option Main) → ((m : Main) → o ≡ Some m → MeetsBackend program h m) →
            Some n ≡ option_map (λ (m : Main). m.number) o → (m : Main) × MeetsBackend program h m
        by None meets e = absurd cc
        by (Some m) meets e = (m, meets m refl)

    pub static : Some n ≡ option_map (λ (m : Main). m.number) (main_in program) → Static program.functions
    static e = (h.program.captures, ticks_of program, (meets e).1.static)

    -- and its ticks have their sizes
    pub sized : Some n ≡ option_map (λ (m : Main). m.number) (main_in program) → AreSized program.ticks
    sized e = (meets e).1.sized
