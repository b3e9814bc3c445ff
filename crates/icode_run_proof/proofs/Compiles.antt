-- What the op that compiles comes to: it traps, or the function is being compiled.
use Rattle.std.proofs.Common.{◌≡◌, ℕ, Bool, true, List, Option, Some, slice_get}
use Rattle.history.specs.Syntax.{Syntax}
use Rattle.mips_model.specs.State.{Code, World}
use Rattle.mips_model_laws.specs.Tales.{Tale}
use Rattle.meaning_state.specs.Rows.{specification_at}
use Rattle.icode_ops.specs.declared.op.Op.TheVariants.{Run}
use Rattle.icode_ops.specs.declared.kind.RunKind.TheVariants as run
use Rattle.icode_meaning.specs.State.{Frame, Log, Running}
use Rattle.icode_meaning.specs.Steps.{act, uses_on}
use Rattle.icode_expand_proof.specs.Settings.{Setting}
use Rattle.icode_expand_proof.specs.Relation.{StandsAt}
use Rattle.closures_proof.specs.Relation.{HasSpecifications}
use Rattle.compile_routine.specs.Laws.{IsTickOf}
use Rattle.icode_run_proof.specs.Relation.{Base, IsCompilable, Stood, StandsFor, text_of}
use Rattle.icode_run_proof.proofs.Stepping.{Stepped}

-- each specification of the state can be compiled
abbrev pub AllCompile : Base → Log → Type 0
AllCompile b log =
    (number : ℕ) (value : Bool) (syntax : Syntax) → IsTickOf value syntax (specification_at number log.shared)
    → IsCompilable b value syntax

abbrev pub CompilesStep : Base → Type 0
CompilesStep b =
    (c : Code) (s : Setting) → Stood b c s → HasSpecifications (text_of b) s.made s.written
    → (w : Frame) (arguments : ℕ → Option ℕ) (answer : Option ℕ) (waiting : List Frame) (log : Log) (x : World)
    → StandsAt s w arguments answer waiting log x → (t : Tale)
    → StandsFor b c (Running w arguments answer waiting log) x t → AllCompile b log → (to from : ℕ)
    → slice_get w.function.ops w.index ≡ Some (Run run.Compile to from)
    → uses_on (Run run.Compile to from) w.on ≡ true
    → Stepped b log (act b.program (Run run.Compile to from) w arguments answer waiting log) t
