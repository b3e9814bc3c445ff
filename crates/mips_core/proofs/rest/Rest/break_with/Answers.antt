use Rattle.std.proofs.Common.{◌-◌, ◌/◌, ◌%◌, ◌∙◌, Option, refl, sym, ap}
use Rattle.host_edge.specs.declared.ending.TrapKind.{TrapKind}
use Rattle.mips_encoder.specs.declared.instruction.Instr.TheVariants.{Break}
use Rattle.mips_model.specs.Effects.{breaks}
use Rattle.mips_model.specs.Steps.{apply}
use Rattle.mips_core.specs.Core.{at, state_of}
use Rattle.mips_core.proofs.Rows.{becomes, names_nothing, no_hazard}
use Rattle.mips_core.proofs.rest.Rest.break_with.Goals as goal

pub returns-in-Some : goal.returns-in-Some
returns-in-Some g c =
    let k = c.args.self.now in
    let s = state_of (at c.args.pc k) in
    becomes (
    ap (λ (o : Option TrapKind). apply (breaks o) (s.recent - 1) s) (sym c.in-Some.is ∙ c.trap_kind.ensures)
    ∙ no_hazard (Break (c.args.w / 64 % 1048576)) s (names_nothing k) refl) (c.end.ensures _)

pub returns-in-None : goal.returns-in-None
returns-in-None g c =
    let k = c.args.self.now in
    let s = state_of (at c.args.pc k) in
    becomes (
    ap (λ (o : Option TrapKind). apply (breaks o) (s.recent - 1) s) (sym c.in-None.is ∙ c.trap_kind.ensures)
    ∙ no_hazard (Break (c.args.w / 64 % 1048576)) s (names_nothing k) refl) (c.fault.ensures.becomes _)
