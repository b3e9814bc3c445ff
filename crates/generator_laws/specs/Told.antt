-- What a run that calls services tells as it goes, but for functions that are entered: that a function was made, where
-- one is published, with what was finished at its address last. Nothing passes between such a run and the outside. What
-- is told is this project's own rule.
use Rattle.std.specs.Prelude.{◌≡◌, ℕ, List, [], ◌∷◌, ◌++◌}
use Rattle.mips_model.specs.State.{Outside, State}
use Rattle.mips_model.specs.Steps.{going}
use Rattle.mips_model.specs.Told.{Told, Passed, Made, Entered, built_at, told}
use Rattle.mips_model_laws.specs.Laws.{IsBelow}
use Rattle.generator_laws.specs.Calls.{Call, Publish, outside_behind, RunsWith}
use Rattle.generator_laws.specs.Served.{AreObeyed}

-- what is told but for functions that are entered
abbrev pub without_entries : List Told → List Told
without_entries [] = []
without_entries (Passed item ∷ items) = Passed item ∷ without_entries items
without_entries (Made function built ∷ items) = Made function built ∷ without_entries items
without_entries (Entered function ∷ items) = without_entries items

-- by a call, and by one behind another
abbrev pub told_call : Call → Outside → List Told
told_call (Publish row address count) o = Made row (built_at address o.making.finishes) ∷ []
told_call _ o = []

abbrev pub told_calls : List Call → Outside → List Told
told_calls [] o = []
told_calls (call ∷ calls) o = told_call call o ++ told_calls calls (outside_behind call o)

abbrev pub CallsAreTold : Type 0
CallsAreTold =
    (calls : List Call) (count : ℕ) (s after : State) → RunsWith calls count s after → AreObeyed calls s.d.outside
    → without_entries (told count (going s)) ≡ told_calls calls s.d.outside

-- and below the arena, where no function is entered, that is all
abbrev pub CallsAreToldBelow : Type 0
CallsAreToldBelow =
    (calls : List Call) (count : ℕ) (s after : State) → RunsWith calls count s after → AreObeyed calls s.d.outside
    → IsBelow count s → told count (going s) ≡ told_calls calls s.d.outside
