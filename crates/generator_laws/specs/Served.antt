-- What a call does to the generator, where the service obeys it: the other side of a run that calls services. The
-- services are those of `mips_model/specs/CodeServices`.
use Rattle.std.specs.Prelude.{◌≡◌, ℕ, ◌≤◌, true, List, [], ◌∷◌, length, Some, None}
use Rattle.mips_model.specs.State.{Outside, State}
use Rattle.mips_model.specs.Services.{next_choice}
use Rattle.mips_model.specs.Laws.{Reaches}
use Rattle.icode_ir.specs.Build.{Build}
use Rattle.icode_ir.specs.Rules.{fault_of, effect}
use Rattle.mips_model.specs.Choices.{Choice}
use Rattle.mips_model.specs.CodeServices.{Generator, Does, begin_refusal, begun, finish_refusal, words_of}
use Rattle.mips_model.specs.CodeServices.{finished_with, is_arena_range, is_entry, service}
use Rattle.generator_laws.specs.Calls.{Call, Begin, Emit, Finish, Flush, Publish, IsCalled, answer_to, arena_behind}
use Rattle.generator_laws.specs.Calls.{generator_behind, outside_behind, rows_behind, RunsWith}

-- the builder of the function that is begun takes an op, or is finished
pub record Builds (g : Generator) : Type 0 where
  pub builder : Build
  pub there : g.build ≡ Some builder

-- the service obeys the call, and the generator becomes another one
abbrev pub Obeys : Choice → Call → Generator → Generator → Type 0
Obeys choice (Begin parameters) g after = (begin_refusal parameters g ≡ None) × (after ≡ begun parameters g)
Obeys choice (Emit op) g after =
    (b : Builds g) × (fault_of op b.builder ≡ None) × (after ≡ record g { build = Some (effect op b.builder) })
Obeys choice (Finish address most frame words) g after =
    (b : Builds g) × (finish_refusal b.builder address most frame ≡ None)
    × (words ≡ words_of b.builder choice address frame) × (length words ≤ most) × (after ≡ finished_with choice g)
Obeys choice (Flush address count) g after = (is_arena_range address count ≡ true) × (after ≡ g)
Obeys choice (Publish row address count) g after = (is_entry row address count ≡ true) × (after ≡ g)

-- A call that the service obeys does what `Calls` says of it: its answer, the arena and the function table.
abbrev pub CallsAreServed : Type 0
CallsAreServed =
    (choice : Choice) (call : Call) (number first second third : ℕ) (g after : Generator)
    → IsCalled call number first second third → Obeys choice call g after
    → service choice number first second third g ≡ Does (answer_to call) after (arena_behind call) (rows_behind call)

-- ---- whole runs

-- the service of the next call obeys it, whatever passed before
abbrev pub IsObeyed : Call → Outside → Type 0
IsObeyed call o =
    Obeys (next_choice o.making.row) call o.making.generator
    (generator_behind (next_choice o.making.row) call o.making.generator)

-- and so do those of the others, each behind the one before
abbrev pub AreObeyed : List Call → Outside → Type 0
AreObeyed [] o = Unit {0}
AreObeyed (call ∷ calls) o = IsObeyed call o × AreObeyed calls (outside_behind call o)

abbrev pub outside_after : List Call → Outside → Outside
outside_after [] o = o
outside_after (call ∷ calls) o = outside_after calls (outside_behind call o)

-- the machine itself goes there, and this passed between the run and the outside
pub record Makes (calls : List Call) (count : ℕ) (s after : State) : Type 0 where
  pub reaches : Reaches count s after
  pub passed : after.d.outside ≡ outside_after calls s.d.outside

-- A run that calls services, each of which obeys, is the machine's own run.
abbrev pub RunsAreMade : Type 0
RunsAreMade =
    (calls : List Call) (count : ℕ) (s after : State) → RunsWith calls count s after → AreObeyed calls s.d.outside
    → Makes calls count s after
