-- Growth: functions that are added during the run take nothing away, nor do those that go where no call has one.
use Rattle.std.specs.Prelude.{ℕ, Bool, List, ◌∷◌, Option}
use Rattle.mips_model.specs.State.{Data}
use Rattle.icode_meaning.specs.State.{Frame, Log}
use Rattle.icode_expand_proof.specs.Settings.{Setting, Changed, AllStay}
use Rattle.icode_expand_proof.specs.Relation.{MemoryAgrees, Holds}

-- What holds of the running call and of those that wait holds on in another setting, where their functions stay and the
-- memory agrees.
abbrev pub GrowthKeeps : Type 0
GrowthKeeps =
    (stays : ℕ → Bool) (s s' : Setting) → Changed stays s s'
    → (w : Frame) (arguments : ℕ → Option ℕ) (answer : Option ℕ) (waiting : List Frame) (log : Log) (d : Data)
    → AllStay stays (w ∷ waiting) → MemoryAgrees s' log.shared log.active d
    → Holds s w arguments answer waiting log d → Holds s' w arguments answer waiting log d
