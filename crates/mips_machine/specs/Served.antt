-- What a single service leaves behind, as its own function in the code says it: how far the run has come, why it stops,
-- if it does, and what was put out or read.
use Rattle.std.specs.Prelude.{◌≡◌, ◌⊎◌, ℕ, ◌+◌, ◌-◌, ◌<◌, true, false, List, [], ◌∷◌, Option, Some, None}
use Rattle.std.specs.Io.KnownBytes.{Keeps, Appends, Consumes, IsAtEnd}
use Rattle.host_edge.specs.Moves.{TakesFront}
use Rattle.host_edge.specs.declared.ending.MachineKind.TheVariants as kind
use Rattle.code_arena.specs.Arena.{Arena}
use Rattle.icode_service.specs.Served.{IsChosen}
use Rattle.mips_model.specs.Choices.{Choice}
use Rattle.mips_model.specs.CodeServices as services
use Rattle.mips_model.specs.CodeServices.{Generator, Rows, Outcome, Refused, Does}
use Rattle.mips_core.specs.declared.halt.Halt.{Halt}
use Rattle.mips_core.specs.declared.halt.Halt.TheVariants as halt
use Rattle.mips_model.specs.State.{Outside, register}
use Rattle.mips_model.specs.declared.service.Service.{Service}
use Rattle.mips_model.specs.Accesses.{Effect, Plain}
use Rattle.mips_model.specs.Services.{answer, with_outside, generator_of}
use Rattle.mips_model.specs.Steps.{apply, onward}
use Rattle.mips_machine.specs.declared.stop.Stop.{Stop}
use Rattle.mips_machine.specs.declared.stop.Stop.TheVariants.{Ended, Fault, Steps, ReadFault, WriteFault}
use Rattle.mips_machine.specs.Tallies.{tallied, tally_of, with_tally}
use Rattle.mips_machine.specs.Progress.{Progress, is_at_end}

-- the stop that the core's halt is, and the stop that is kept, or all instructions were executed
abbrev pub stop_of : Halt → Stop
stop_of (halt.Ended e) = Ended e
stop_of (halt.Fault kind at) = Fault kind at

abbrev pub stop_from : Option Stop → Stop
stop_from None = Steps
stop_from (Some stop) = stop

-- one instruction more, which has ended the run or was refused
abbrev pub counted : Progress → Progress
counted p = record p { steps = p.steps + 1 }

-- one instruction more, of this effect
abbrev pub after : Effect → Progress → Progress
after e p = record { state = (apply e (p.state.recent - 1) p.state).state; steps = p.steps + 1 }

-- a service answered v
abbrev pub answered : ℕ → Progress → Progress
answered v p = after (Plain (answer v p.state.d)) p

-- the end of the input was read, and the answer is -1
abbrev pub ended_outside : Outside → Outside
ended_outside o = record o { at_end = true }

abbrev pub input_ended : Progress → Progress
input_ended p = after (Plain (answer 4294967295 (with_outside (ended_outside p.state.d.outside) p.state.d))) p

-- the arguments of a service, and its number
abbrev pub argument : Progress → ℕ
argument p = register 4 p.state.d

abbrev pub second_argument : Progress → ℕ
second_argument p = register 5 p.state.d

abbrev pub number : Progress → ℕ
number p = register 2 p.state.d

abbrev pub with_generator : Generator → Outside → Outside
with_generator g o = record o { making = record o.making { generator = g } }

-- a service that makes code answered, and changed generator, arena and function table so
abbrev pub made : Service → ℕ → Generator → (Arena → Arena) → (Rows → Rows) → Progress → Progress
made service v g change set p = record {
  state = (onward (p.state.next + 4) 0 (p.state.recent - 1) false
      (record p.state.code { arena = change p.state.code.arena })
      (answer v (with_outside
      (with_tally (tallied service v (tally_of p.state.d.outside)) (with_generator g p.state.d.outside))
      (record p.state.d { table = set p.state.d.table }))) p.state).state;
  steps = p.steps + 1;
}

-- the service of the number in its register, under a choice of places
abbrev pub outcome : Choice → Progress → Outcome
outcome choice p =
    services.service choice (number p) (register 4 p.state.d) (register 5 p.state.d) (register 6 p.state.d)
    (generator_of p.state.d)

-- the service was refused and only the instruction is counted, or it did what it does
abbrev pub Makes : Outcome → Service → Progress → Progress → Stop → Type 0
Makes (Refused why) service old new stop = (new ≡ counted old) × (stop ≡ Fault kind.BadService old.state.pc)
Makes (Does v g change set) service old new stop = (new ≡ made service v g change set old) × (stop ≡ Steps)

-- the same, and the choice is that of linear scan
abbrev pub Generates : Service → Progress → Progress → Stop → Type 0
Generates service old new stop =
    (choice : Choice)
    × IsChosen (number old) (register 4 old.state.d) (register 5 old.state.d) (register 6 old.state.d)
    (generator_of old.state.d) choice
    × Makes (outcome choice old) service old new stop

-- bytes were put out, or the write of them failed
abbrev pub Puts : Stop → Option (List ℕ) → Option (List ℕ) → List ℕ → Type 0
Puts Steps taken told bytes = Appends taken told bytes
Puts WriteFault taken told bytes = TakesFront taken told bytes
Puts (Ended e) taken told bytes = ⊥
Puts (Fault kind at) taken told bytes = ⊥
Puts ReadFault taken told bytes = ⊥

-- the answer is the next byte, or the end, or the read failed
abbrev pub Takes : Stop → Progress → Progress → Option (List ℕ) → Option (List ℕ) → Type 0
Takes Steps old new left later =
    ((is_at_end old ≡ false) ×
    ((byte : ℕ) × (byte < 256) × (new ≡ answered byte old) × Consumes left later (byte ∷ [])))
    ⊎ ((new ≡ input_ended old) × Keeps left later × (is_at_end old ≡ false → IsAtEnd later))
Takes ReadFault old new left later = (is_at_end old ≡ false) × (new ≡ counted old) × Keeps left later
Takes (Ended e) old new left later = ⊥
Takes (Fault kind at) old new left later = ⊥
Takes WriteFault old new left later = ⊥
