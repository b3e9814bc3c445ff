-- The services that make code, as runs of one instruction.
use Rattle.std.proofs.Common.{◌≡◌, ◌≢◌, ℕ, ◌-◌, Bool, true, false, nat_le, List, [], ◌∷◌, Option, None, Some}
use Rattle.std.proofs.Common.{length}
use Rattle.std.proofs.Common.{refl, sym, ap, ◌∙◌, subst, if◌then◌else◌}
use Rattle.host_edge.specs.declared.ending.MachineKind.TheVariants as kind
use Rattle.code_arena.specs.Arena.{Arena, flushed}
use Rattle.code_arena.specs.Rows.{published}
use Rattle.history.specs.Events.{End, Input}
use Rattle.history.specs.Events as event
use Rattle.icode_ir.specs.declared.build_op.BuildOp.{BuildOp}
use Rattle.icode_ir.specs.declared.build_op.BuildFault.{BuildFault}
use Rattle.icode_ir.specs.Build.{Build}
use Rattle.icode_ir.specs.Rules.{fault_of}
use Rattle.icode_ir.specs.Decoded.{op_of}
use Rattle.mips_model.specs.declared.bad_service.BadService.{BadService}
use Rattle.mips_model.specs.declared.bad_service.BadService.TheVariants.{OutsideArena, Short, BadRow}
use Rattle.mips_model.specs.Choices.{Choice}
use Rattle.mips_model.specs.CodeServices as services
use Rattle.mips_model.specs.CodeServices.{Generator, Rows, Outcome, Refused, Does}
use Rattle.mips_model.specs.declared.service.Service.{Service}
use Rattle.mips_model.specs.declared.service.Service.TheVariants.{Begin, Emit, Finish, Flush, Publish}
use Rattle.mips_model.specs.State.{Making, register}
use Rattle.mips_model.specs.Accesses.{Effect}
use Rattle.mips_model.specs.Services.{service_of, generator_of, makes, writes, begun_with, with_op, issued_with, spent}
use Rattle.mips_model.specs.Services.{flushed_once, published_once}
use Rattle.mips_model.specs.Steps.{apply, step}
use Rattle.mips_model.specs.Beside.{is_at_service}
use Rattle.mips_core.specs.Core.{is_service_hazard}
use Rattle.mips_machine.specs.declared.stop.Stop.{Stop}
use Rattle.mips_machine.specs.declared.stop.Stop.TheVariants.{Fault, Steps, ReadFault, WriteFault}
use Rattle.mips_machine.specs.Progress.{Progress, Notes, Unkept, is_at_end, choosing, world}
use Rattle.mips_machine.specs.Ran.{Ran, IsScannedAt, ending_of}
use Rattle.mips_machine.specs.Served.{argument, number, made, Makes, Generates}
use Rattle.mips_machine.proofs.Quiet.{making_ran, noting}
use Rattle.mips_machine.proofs.Moves.{IsIdle}
use Rattle.mips_machine.proofs.Idle.{idle_service, service_number}
use Rattle.mips_machine.proofs.Acts.{served, refused_ran}

-- ---- which services leave the code, and which the function table

abbrev KeepsCode : Outcome → Type 0
KeepsCode (Refused why) = Unit {0}
KeepsCode (Does v g change set) = change ≡ (λ a. a)

abbrev KeepsTable : Outcome → Type 0
KeepsTable (Refused why) = Unit {0}
KeepsTable (Does v g change set) = set ≡ (λ r. r)

begin_keeps : (p : ℕ) (g : Generator) → KeepsCode (services.begin p g)
begin_keeps p g = by (services.begin_refusal p g)
  where
    by : (o : Option BadService) → KeepsCode (services.unless o (services.builds (services.begun p g)))
    by None = refl
    by (Some why) = tt

emit_keeps : (a b c : ℕ) (g : Generator) → KeepsCode (services.emit a b c g)
emit_keeps a b c g = by g.build (op_of a b c)
  where
    issued : (f : Option BuildFault) (op : BuildOp) (x : Build) → KeepsCode (services.built f op x g)
    issued None op x = refl
    issued (Some fault) op x = tt

    by : (o : Option Build) (op : Option BuildOp) → KeepsCode (services.emit_in o op g)
    by None op = tt
    by (Some x) None = tt
    by (Some x) (Some op) = issued (fault_of op x) op x

publish_keeps : (row at count : ℕ) (g : Generator) → KeepsCode (services.publish row at count g)
publish_keeps row at count g = by (services.is_entry row at count)
  where
    by : (b : Bool) → KeepsCode (if b then Does 0 g (λ a. a) (published row at count) else Refused BadRow)
    by true = refl
    by false = tt

finish_keeps : (choice : Choice) (at most frame : ℕ) (g : Generator) →
    KeepsTable (services.finish choice at most frame g)
finish_keeps choice at most frame g = by g.build
  where
    fits : (b : Bool) (words : List ℕ) → KeepsTable
        (if b then Does (length words) (services.finished_with choice g)
        (services.written_from (services.arena_word at) words) (λ r. r) else Refused Short)
    fits true words = refl
    fits false words = tt

    taken : (o : Option BadService) (words : List ℕ) →
        KeepsTable (services.unless o (services.write words choice at most g))
    taken None words = fits (nat_le (length words) most) words
    taken (Some why) words = tt

    by : (o : Option Build) → KeepsTable (services.finish_in o choice at most frame g)
    by None = tt
    by (Some b) = taken (services.finish_refusal b at most frame) (services.words_of b choice at frame)

flush_keeps : (at count : ℕ) (g : Generator) → KeepsTable (services.flush at count g)
flush_keeps at count g = by (services.is_arena_range at count)
  where
    by : (b : Bool) → KeepsTable
        (if b then Does 0 g (flushed (services.arena_word at) count) (λ r. r) else Refused OutsideArena)
    by true = refl
    by false = tt

not_read : (stop : Stop) → stop ≡ Steps → stop ≢ ReadFault
not_read stop is e = absurd cc

not_write : (stop : Stop) → stop ≡ Steps → stop ≢ WriteFault
not_write stop is e = absurd cc

-- ---- what a service says of functions

abbrev begun_notes : ℕ → Notes → Notes
begun_notes p n = record n { issued = record { parameters = p; ops = [] } }

abbrev issued_notes : Option BuildOp → Notes → Notes
issued_notes op n = record n { issued = with_op op n.issued }

abbrev finished_notes : ℕ → Notes → Notes
finished_notes at n = record n { finishes = (record { at = at; built = n.issued }) ∷ n.finishes }

module _ (old new : Progress) (left taken : Option (List ℕ)) (stop : Stop) where
  -- the same place under the names of what the call left
  arrives : (p : Progress) (rest : Input) (u : Unkept) → new ≡ p → stop ≡ Steps →
      world p rest u None ≡ world new rest u (ending_of stop)
  arrives p rest u same stops =
      ap (λ (x : Progress). world x rest u None) (sym same)
      ∙ ap (λ (s : Stop). world new rest u (ending_of s)) (sym stops)

  -- what one instruction does that makes code
  abbrev Acts : (Input → Unkept → Effect) → Type 0
  Acts effect = (rest : Input) (u : Unkept) →
      step (world old rest u None) ≡ apply (effect rest u) (old.state.recent - 1) (world old rest u None).state

  -- a service that changes no code
  makes_ran :
      (o : Outcome) → KeepsCode o → (service : Service) (note : Making → Making) (noted : Notes → Notes) →
      ((v : ℕ) (g : Generator) (set : Rows → Rows) (rest : Input) (u : Unkept) →
      apply (makes (Does v g (λ a. a) set) note (world old rest u None).state.d) (old.state.recent - 1)
      (world old rest u None).state ≡ world (made service v g (λ a. a) set old) rest (noting noted u) None)
      → Makes o service old new stop → IsIdle old → Acts (λ rest u. makes o note (world old rest u None).state.d)
      → Ran 1 old new left left taken taken stop
  makes_ran (Refused why) keeps service note noted agrees m idle is =
      refused_ran old new left taken stop kind.BadService m.1 m.0 idle is
  makes_ran (Does v g change set) keeps service note noted agrees m idle is =
      making_ran old new left taken stop (not_read stop m.1) (not_write stop m.1) (ap (λ (p : Progress). p.steps) m.0)
      (ap is_at_end m.0) noted [] [] (λ e. refl) idle
      (λ rest u.
      is rest u
      ∙ (agrees v g set rest u
      ∙ (ap (λ (f : Arena → Arena). world (made service v g f set old) rest (noting noted u) None) (sym keeps)
      ∙ arrives (made service v g change set old) rest (noting noted u) m.0 m.1)))

  -- a service that changes code and no choice
  flush_ran_by :
      (o : Outcome) → KeepsTable o → Makes o Flush old new stop → IsIdle old →
      Acts (λ rest u. writes o flushed_once (world old rest u None).state.d) → Ran 1 old new left left taken taken stop
  flush_ran_by (Refused why) keeps m idle is = refused_ran old new left taken stop kind.BadService m.1 m.0 idle is
  flush_ran_by (Does v g change set) keeps m idle is =
      making_ran old new left taken stop (not_read stop m.1) (not_write stop m.1) (ap (λ (p : Progress). p.steps) m.0)
      (ap is_at_end m.0) (λ n. n) [] [] (λ e. refl) idle
      (λ rest u.
      is rest u
      ∙ (ap (λ (f : Rows → Rows). world (made Flush v g change f old) rest u None) (sym keeps)
      ∙ arrives (made Flush v g change set old) rest u m.0 m.1))

  -- the service that finishes a function takes a choice, or has looked at it where it is refused
  finish_ran_by :
      (o : Outcome) (choice : Choice) → KeepsTable o → Makes o Finish old new stop →
      ((rest : Input) (u : Unkept) → IsScannedAt (world old rest (choosing (choice ∷ []) u) None)) →
      ((rest : Input) (u : Unkept) →
      step (world old rest (choosing (choice ∷ []) u) None) ≡ apply
      (writes o (spent (argument old)) (world old rest (choosing (choice ∷ []) u) None).state.d) (old.state.recent - 1)
      (world old rest (choosing (choice ∷ []) u) None).state)
      → Ran 1 old new left left taken taken stop
  finish_ran_by (Refused why) choice keeps m scan is =
      making_ran old new left taken stop (λ r. no_fault stop m.1 r) (λ w. no_write stop m.1 w)
      (ap (λ (p : Progress). p.steps) m.0) (ap is_at_end m.0) (λ n. n) [] (choice ∷ [])
      (λ e. absurd (no_steps stop m.1 e)) scan
      (λ rest u.
      is rest u
      ∙ (ap (λ (p : Progress). world p rest (choosing (choice ∷ []) u)
      (Some (event.Fault kind.BadService old.state.pc))) (sym m.0)
      ∙ ap (λ (e : Option End). world new rest (choosing (choice ∷ []) u) e) (sym (ap ending_of m.1))))
    where
      no_fault : (s : Stop) → s ≡ Fault kind.BadService old.state.pc → s ≢ ReadFault
      no_fault s is e = absurd cc

      no_write : (s : Stop) → s ≡ Fault kind.BadService old.state.pc → s ≢ WriteFault
      no_write s is e = absurd cc

      no_steps : (s : Stop) → s ≡ Fault kind.BadService old.state.pc → s ≢ Steps
      no_steps s is e = absurd cc
  finish_ran_by (Does v g change set) choice keeps m scan is =
      making_ran old new left taken stop (not_read stop m.1) (not_write stop m.1) (ap (λ (p : Progress). p.steps) m.0)
      (ap is_at_end m.0) (finished_notes (argument old)) (choice ∷ []) [] (λ e. refl) scan
      (λ rest u.
      is rest u
      ∙ (ap (λ (f : Rows → Rows). world (made Finish v g change f old) rest
      (noting (finished_notes (argument old)) u) None) (sym keeps)
      ∙ arrives (made Finish v g change set old) rest (noting (finished_notes (argument old)) u) m.0 m.1))

  module _ (at : is_at_service old.state ≡ true) (quiet : is_service_hazard old.state ≡ false) where
    -- what the service of a number is
    by_number : (n : ℕ) (service : Service) (choice : Choice) → number old ≡ n →
        Makes (services.service choice (number old) (register 4 old.state.d) (register 5 old.state.d)
        (register 6 old.state.d) (generator_of old.state.d)) service old new stop →
        Makes (services.service choice n (register 4 old.state.d) (register 5 old.state.d)
        (register 6 old.state.d) (generator_of old.state.d)) service old new stop
    by_number n service choice e m =
        subst (λ k. Makes (services.service choice k (register 4 old.state.d) (register 5 old.state.d)
        (register 6 old.state.d) (generator_of old.state.d)) service old new stop) e m

    pub begin_ran : service_of (number old) ≡ Some Begin → Generates Begin old new stop →
        Ran 1 old new left left taken taken stop
    begin_ran is made =
        makes_ran (services.begin (argument old) (generator_of old.state.d))
        (begin_keeps (argument old) (generator_of old.state.d)) Begin (begun_with (argument old))
        (begun_notes (argument old)) (λ v g set rest u. refl)
        (by_number 64 Begin made.0 (service_number (number old) Begin is) made.2)
        (idle_service old Begin is refl) (λ rest u. served old new at quiet (Some Begin) is rest u)

    pub emit_ran : service_of (number old) ≡ Some Emit → Generates Emit old new stop →
        Ran 1 old new left left taken taken stop
    emit_ran is made =
        let op = op_of (register 4 old.state.d) (register 5 old.state.d) (register 6 old.state.d) in
        makes_ran (services.emit (register 4 old.state.d) (register 5 old.state.d) (register 6 old.state.d)
        (generator_of old.state.d))
        (emit_keeps (register 4 old.state.d) (register 5 old.state.d) (register 6 old.state.d)
        (generator_of old.state.d))
        Emit (issued_with op) (issued_notes op) (λ v g set rest u. refl)
        (by_number 65 Emit made.0 (service_number (number old) Emit is) made.2)
        (idle_service old Emit is refl) (λ rest u. served old new at quiet (Some Emit) is rest u)

    pub publish_ran : service_of (number old) ≡ Some Publish → Generates Publish old new stop →
        Ran 1 old new left left taken taken stop
    publish_ran is made =
        makes_ran (services.publish (register 4 old.state.d) (register 5 old.state.d) (register 6 old.state.d)
        (generator_of old.state.d))
        (publish_keeps (register 4 old.state.d) (register 5 old.state.d) (register 6 old.state.d)
        (generator_of old.state.d))
        Publish published_once (λ n. n) (λ v g set rest u. refl)
        (by_number 68 Publish made.0 (service_number (number old) Publish is) made.2)
        (idle_service old Publish is refl) (λ rest u. served old new at quiet (Some Publish) is rest u)

    pub flush_ran : service_of (number old) ≡ Some Flush → Generates Flush old new stop →
        Ran 1 old new left left taken taken stop
    flush_ran is made =
        flush_ran_by (services.flush (register 4 old.state.d) (register 5 old.state.d) (generator_of old.state.d))
        (flush_keeps (register 4 old.state.d) (register 5 old.state.d) (generator_of old.state.d))
        (by_number 67 Flush made.0 (service_number (number old) Flush is) made.2)
        (idle_service old Flush is refl) (λ rest u. served old new at quiet (Some Flush) is rest u)

    pub finish_ran : service_of (number old) ≡ Some Finish → Generates Finish old new stop →
        Ran 1 old new left left taken taken stop
    finish_ran is made =
        let n = service_number (number old) Finish is in
        finish_ran_by
        (services.finish made.0 (register 4 old.state.d) (register 5 old.state.d) (register 6 old.state.d)
        (generator_of old.state.d)) made.0
        (finish_keeps made.0 (register 4 old.state.d) (register 5 old.state.d) (register 6 old.state.d)
        (generator_of old.state.d))
        (by_number 66 Finish made.0 n made.2) (λ rest u serving. made.1 n)
        (λ rest u. served old new at quiet (Some Finish) is rest (choosing (made.0 ∷ []) u))
