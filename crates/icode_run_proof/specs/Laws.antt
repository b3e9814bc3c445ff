-- The second seam: what the machine does with the words of a program's functions is what the staged machine does with
-- their ops, with the same history and the same ending, and each op pays for the instructions that are executed for it.
use Rattle.std.specs.Prelude.{Bool, ℕ, ◌+◌, ◌*◌}
use Rattle.std.specs.Fn.{iterate}
use Rattle.pace.specs.Pace.{Seen}
use Rattle.pace.specs.Claims.{PaysWithin, FollowsAtCost}
use Rattle.history.specs.Events.{End}
use Rattle.history.specs.Syntax.{Syntax}
use Rattle.mips_model.specs.State.{Code, World}
use Rattle.mips_model.specs.Run.{IsFine}
use Rattle.mips_model.specs.Told.{Told}
use Rattle.mips_model_laws.specs.Tales.{Tale, tell, see_tale}
use Rattle.mips_model_laws.specs.Clean.{IsUnspoiled}
use Rattle.meaning_state.specs.Shared.{Shared}
use Rattle.meaning_state.specs.Rows.{specification_at}
use Rattle.icode_meaning.specs.State.{Function, State, least_at, most_at, log_of}
use Rattle.icode_meaning.specs.Steps.{advance, first}
use Rattle.icode_expand_proof.specs.Settings.{Setting}
use Rattle.icode_expand_proof.specs.Laws.{Arrives}
use Rattle.closures_proof.specs.Relation.{HasSpecifications}
use Rattle.compile_routine.specs.Laws.{IsTickOf}
use Rattle.compile_routine.specs.Below.{GeneratorsAreLow}
use Rattle.icode_run_proof.specs.Ticking.{AreTicks}
use Rattle.icode_run_proof.specs.Relation.{Base, IsCompilable, Stood, StandsFor, text_of, ticks_of, tick_count}
use Rattle.icode_run_proof.specs.Relation.{see_told}

abbrev pub upper : Base → Function → Shared → ℕ → State
upper b main shared i = iterate (advance b.program) i (first main shared)

-- each specification of the staged run can be compiled
abbrev pub AreCompilable : Base → Function → Shared → Type 0
AreCompilable b main shared =
    (i number : ℕ) (value : Bool) (syntax : Syntax)
    → IsTickOf value syntax (specification_at number (log_of (upper b main shared i)).shared)
    → IsCompilable b value syntax

-- A tale has come to main's first word, with what the setting says.
pub record Arrived (b : Base) (c : Code) (s : Setting) (main : Function) (shared : Shared) (t : Tale) : Type 0 where
  pub ticks : AreTicks (ticks_of b)
  pub generators : GeneratorsAreLow (text_of b) b.pieces (tick_count b)
  pub compilable : AreCompilable b main shared
  pub stood : Stood b c s
  pub specifications : HasSpecifications (text_of b) s.made s.written
  pub world : World
  pub arrives : Arrives s main shared 0 world
  pub stands : StandsFor b c (first main shared) world t

abbrev pub ProgramIsSimulated : Type 0
ProgramIsSimulated =
    (b : Base) (c : Code) (s : Setting) (main : Function) (shared : Shared) (n : ℕ) (t : Tale)
    → Arrived b c s main shared (iterate tell n t) → (bound : ℕ) → IsFine bound t.world
    → PaysWithin bound (n + 32) (λ i. see_told b (upper b main shared i)) (λ i. least_at (upper b main shared i))
    (λ i. most_at (upper b main shared i)) (λ k. see_tale (iterate tell k t))

-- and no flush on the way meets an unwritten word, as far as the machine is defined for what the units may take
abbrev pub ProgramIsUnspoiled : Type 0
ProgramIsUnspoiled =
    (b : Base) (c : Code) (s : Setting) (main : Function) (shared : Shared) (n : ℕ) (t : Tale)
    → Arrived b c s main shared (iterate tell n t) → IsUnspoiled n t.world
    → (units each besides : ℕ) (meaning : ℕ → Seen Told End)
    → FollowsAtCost each besides meaning (λ i. see_told b (upper b main shared i))
    (λ i. least_at (upper b main shared i)) (λ i. most_at (upper b main shared i))
    → IsFine (each * units + (besides + (n + 32))) t.world → IsUnspoiled units t.world
