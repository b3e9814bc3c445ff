-- What the functions of the ticks of a specification of a run take, by its size, and what a builder has of it.
use Rattle.std.proofs.Common.{◌≡◌, ℕ, Option, Some, None, ◌++◌, refl, subst, arith}
use Rattle.history.specs.Syntax.{Syntax}
use Rattle.meaning_state.specs.Rows.{specification_at, parameters_of}
use Rattle.meaning_state.specs.Shared.{Shared, Specification, Expression, Statement, Local, Param}
use Rattle.typed_tree.specs.View.{program_view}
use Rattle.typed_tree.specs.Nodes as node
use Rattle.wellformed.specs.Program.{IsProgram}
use Rattle.icode_ir.specs.Build.{empty}
use Rattle.staged_meaning.specs.Program.{syntax_size}
use Rattle.staged_meaning.specs.Meaning.{run_program}
use Rattle.tick_lower_spec.specs.Specifications.{specification_ops}
use Rattle.closures_proof.specs.Relation.{IsOf}
use Rattle.generator_laws.specs.Laws.{built_of}
use Rattle.compile_routine.specs.Laws.{return_ops}
use Rattle.generator_spec.specs.FittingLaws.{ticks_of}
use Rattle.generated_ops_proof.specs.Laws.{IsFewInOnePass}
use Rattle.generated_ops_proof.proofs.DearTicks.{specifications_dear}
use Rattle.generated_ops_proof.proofs.Passes.{one_pass_few}
use Rattle.generated_ops_proof.proofs.Preludes.{preludes_set}
use Rattle.known_closures_proof.specs.Laws.{KnownSpecificationsAreDear, KnownOnePassIsFew, KnownPreludesSetKeys}
use Rattle.known_closures_proof.specs.Known.{IsSmall, IsRow, AreKnown}
use Rattle.known_closures_proof.specs.Laws.{KnownRowsAreSmall}
use Rattle.known_closures_proof.specs.Laws.{RunsAreDear, state_of}
use Rattle.known_closures_proof.proofs.Making.{row_at}
use Rattle.known_closures_proof.proofs.Rows.{programs_meant, rows_known, rows_made, value_of}

pub known_dear : KnownSpecificationsAreDear
known_dear p accepted addresses program shared syntax number ticks known of =
    specifications_dear p accepted addresses program syntax ticks
    (rows_made p accepted shared syntax number 0 known of).made.ticks

pub runs_dear : RunsAreDear
runs_dear parts accepted program addresses input units syntax number same of =
    let meaning = programs_meant parts program same in
    known_dear (program_view parts) accepted.program addresses program (state_of (run_program program input units))
    syntax number meaning.ticks (rows_known (program_view parts) accepted.program program meaning input units) of

-- a row is within the limit of sizes
module _ (p : node.Program) (accepted : IsProgram p) (shared : Shared) (known : AreKnown p accepted shared)
    (syntax : Syntax) (number : ℕ) where
  small_by : (o : Option Specification) → specification_at number shared ≡ o → IsOf syntax o → IsSmall p syntax
  small_by None at of = absurd of
  small_by (Some Local) at of = absurd of
  small_by (Some (Param index)) at of = absurd of
  small_by (Some (Expression x)) at of =
      subst (λ z. IsSmall p z) of
      (row_at (IsRow p accepted) shared.specifications number (Expression x) known.rows at).2
  small_by (Some (Statement x)) at of =
      subst (λ z. IsSmall p z) of (row_at (IsRow p accepted) shared.specifications number (Statement x) known.rows at).2

pub known_small : KnownRowsAreSmall
known_small p accepted program shared syntax number ticks known of =
    small_by p accepted shared known syntax number (specification_at number shared) refl of program ticks

pub known_few : KnownOnePassIsFew
known_few p accepted addresses program shared value syntax number ticks known of =
    let v = value_of p accepted shared known value (specification_at number shared) syntax number refl of in
    let row = rows_made p accepted shared syntax number (parameters_of syntax) known v.1 in
    subst (λ z. IsFewInOnePass (parameters_of syntax) (syntax_size program syntax)
    (built_of (specification_ops addresses (ticks_of p) syntax ++ return_ops z) (empty (parameters_of syntax)))) v.0
    (one_pass_few p accepted addresses program syntax ticks row.made (row.named (omega arith))
    (known_small p accepted program shared syntax number ticks known v.1))

pub known_set : KnownPreludesSetKeys
known_set p accepted addresses shared value syntax number parameters known of =
    preludes_set p accepted addresses syntax parameters value
    (rows_made p accepted shared syntax number parameters known of).made.ticks
