-- The rows and the laws of a whole call.
use Rattle.std.proofs.Common.{◌≡◌, ◌≢◌, ℕ, true, List, Option, Some, None, refl, sym, subst}
use Rattle.host_edge.specs.declared.ending.Ending.TheVariants as ending
use Rattle.history.specs.Events as event
use Rattle.tick_outcome.specs.declared.outcome.Outcome.{Outcome}
use Rattle.tick_outcome.specs.declared.outcome.Outcome.TheVariants as outcome
use Rattle.tick_outcome.specs.declared.ended.Ended.{Ended}
use Rattle.image_commands.specs.Outside.{Outside, Failures}
use Rattle.image_commands.specs.Does.{Cause}
use Rattle.source_commands.specs.Top.{Ticked}
use Rattle.source_commands.specs.Rows.{RefusedRow, AsmRefusedRow, TooLongRow, BadImageRow, TrapRow, MachineFaultRow}
use Rattle.source_commands.specs.Rows.{OutOfStepsRow}
use Rattle.source_commands.specs.Laws.{IsOfRun, RunMeans, RunCompletes, ShowsRuns, MeanMeans, MeanCompletes}
use Rattle.source_commands.specs.Laws.{CommandsComplete, SourcesComplete}
use Rattle.image_commands.proofs.Outcomes.{is_of_machine}
use Rattle.source_commands.proofs.Rows.{refusal_row, too_long, is_first}
use Rattle.source_commands.proofs.Endings as endings
use Rattle.source_commands.proofs.Complete as complete

-- ---- the rows

module _ (words : List (List ℕ)) (old new : Outside) (before now : Failures) (taken told : Option (List ℕ))
    (err_before err_now : ℕ) (e : Ended) (did : Ticked words old new before now taken told err_before err_now e) where
  pub refused_row : RefusedRow words old e
  refused_row fault = refusal_row words old new before now taken told err_before err_now e did (outcome.Refused fault)
      refl

  pub asm_refused_row : AsmRefusedRow words old e
  asm_refused_row fault = refusal_row words old new before now taken told err_before err_now e did
      (outcome.AsmRefused fault) refl

  pub too_long_row : TooLongRow words old new e
  too_long_row = too_long words old new before now taken told err_before err_now e did

  pub bad_image_row : BadImageRow words old e
  bad_image_row fault = refusal_row words old new before now taken told err_before err_now e did
      (outcome.BadImage fault) refl

  pub trap_row : TrapRow words old new e
  trap_row kind =
      endings.either_row words old new before now taken told err_before err_now e did (λ steps. outcome.Trap kind)
      (Some (event.Ended (ending.Trap kind)))
      (λ n. refl) (λ n. refl)

  pub machine_fault_row : MachineFaultRow words old new e
  machine_fault_row kind at = (
    endings.fault_of_exec words old new before now taken told err_before err_now e did kind at,
    endings.ending_row words old new before now taken told err_before err_now e did
        (λ steps. outcome.MachineFault kind at) (Some (event.Fault kind at)) (λ n. refl) (λ n. refl)
        (endings.meant_faultless words old new before now taken told err_before err_now e did kind at),
  )

  pub cause_row : e.outcome ≢ outcome.WriteFault → Cause e.outcome before now
  cause_row other = subst (λ o. Cause o before now)
      (sym (is_first words old new before now taken told err_before err_now e did other)) did.2

  pub out_of_steps_row : OutOfStepsRow words old new e
  out_of_steps_row = endings.either_row words old new before now taken told err_before err_now e did outcome.OutOfSteps
      None (λ n. refl) (λ n. refl)

-- ---- the laws

of_machine : (o : Outcome) → IsOfRun o → is_of_machine o ≡ true
of_machine (outcome.Done s) is = refl
of_machine (outcome.Trap k) is = refl
of_machine (outcome.MachineFault k at) is = refl
of_machine (outcome.OutOfSteps n) is = refl
of_machine outcome.ReadFault is = refl
of_machine outcome.WriteFault is = refl
of_machine (outcome.BadWords p) is = absurd is
of_machine (outcome.Refused fault) is = absurd is
of_machine (outcome.AsmRefused fault) is = absurd is
of_machine outcome.LoadFault is = absurd is
of_machine outcome.TooLong is = absurd is
of_machine (outcome.BadImage fault) is = absurd is
of_machine outcome.SaveFault is = absurd is

pub run_means : RunMeans
run_means c file steps o did ordered same is =
    endings.run_means c.words c.old c.new c.before c.now c.said_before c.said_now c.err_before c.err_now c.ended did
    file steps o ordered same (of_machine o is)

pub run_completes : RunCompletes
run_completes c file text steps program bytes units end did fine =
    complete.completes c.words c.old c.new c.before c.now c.said_before c.said_now c.err_before c.err_now c.ended did
    fine file text steps program bytes units end

pub shows_runs : ShowsRuns
shows_runs c order steps image did =
    endings.machine_call c.words c.old c.new c.before c.now c.said_before c.said_now c.err_before c.err_now c.ended did
    order steps image

pub mean_means : MeanMeans
mean_means c file units outcome did =
    endings.mean_means c.words c.old c.new c.before c.now c.said_before c.said_now c.err_before c.err_now c.ended did
    file units outcome

pub mean_completes : MeanCompletes
mean_completes c file text units tree program bytes did fine =
    complete.means_so c.words c.old c.new c.before c.now c.said_before c.said_now c.err_before c.err_now c.ended did
    fine file text units tree program bytes

pub commands_complete : CommandsComplete
commands_complete c order file did fine ordered told accepted = (
  complete.is_done_so c.words c.old c.new c.before c.now c.said_before c.said_now c.err_before c.err_now c.ended did
      fine order file ordered told accepted,
  complete.ends_so c.words c.old c.new c.before c.now c.said_before c.said_now c.err_before c.err_now c.ended did fine
      order file ordered told accepted,
)

pub sources_complete : SourcesComplete
sources_complete c number did fine =
    complete.generates c.words c.old c.new c.before c.now c.said_before c.said_now c.err_before c.err_now c.ended did
    fine number
