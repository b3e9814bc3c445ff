use Rattle.std.proofs.Common.{◌≡◌, ℕ, Option, Some, None, ap, sym, ◌∙◌}
use Rattle.mips_model.specs.declared.service.Service.{Service}
use Rattle.mips_model.specs.declared.service.Service.TheVariants.{PutInt, Exit, PutByte, GetByte, Begin, Emit, Finish}
use Rattle.mips_model.specs.declared.service.Service.TheVariants.{Flush, Publish}
use Rattle.mips_model.specs.Services.{service_of}
use Rattle.mips_machine.specs.Progress.{Held, progress_of}
use Rattle.mips_machine.specs.Served.{number, stop_from}
use Rattle.mips_machine.proofs.Acts.{put_int_ran, put_byte_ran, exit_ran, unknown_ran, get_byte_ran}
use Rattle.mips_machine.proofs.Makes.{begin_ran, emit_ran, finish_ran, flush_ran, publish_ran}
use Rattle.mips_machine.proofs.machine.Machine.perform.Goals as goal

-- the service is that of the number in its register
number_is : {inside old : Held} {v : ℕ} {o : Option Service} → inside ≡ old → v ≡ number (progress_of inside) →
    o ≡ service_of v → service_of (number (progress_of old)) ≡ o
number_is {inside} {old} {v} {o} view reg is =
    ap (λ (h : Held). service_of (number (progress_of h))) (sym view) ∙ ap service_of (sym reg) ∙ sym is

pub returns-in-Some-PutInt-clause-ran : goal.returns-in-Some-PutInt-clause-ran
returns-in-Some-PutInt-clause-ran g c =
    let is : service_of (number (progress_of c.args.self.now)) ≡ Some PutInt =
    number_is c.self.view_is c.register.ensures c.from_number.ensures ∙ c.in-Some-PutInt.is ∙
    ap Some c.in-Some-PutInt.field-0-is in
    put_int_ran _ _ c.requires.at c.requires.quiet _ _ _ _ is c.put_int.ensures.state c.put_int.ensures.puts

pub returns-in-Some-Exit-clause-ran : goal.returns-in-Some-Exit-clause-ran
returns-in-Some-Exit-clause-ran g c =
    let is : service_of (number (progress_of c.args.self.now)) ≡ Some Exit =
    number_is c.self.view_is c.register.ensures c.from_number.ensures ∙ c.in-Some-Exit.is ∙
    ap Some c.in-Some-Exit.field-0-is in
    exit_ran _ _ c.requires.at c.requires.quiet _ _ _ is (ap stop_from c.exit.ensures.stopped) c.exit.ensures.state

pub returns-in-Some-PutByte-clause-ran : goal.returns-in-Some-PutByte-clause-ran
returns-in-Some-PutByte-clause-ran g c =
    let is : service_of (number (progress_of c.args.self.now)) ≡ Some PutByte =
    number_is c.self.view_is c.register.ensures c.from_number.ensures ∙ c.in-Some-PutByte.is ∙
    ap Some c.in-Some-PutByte.field-0-is in
    put_byte_ran _ _ c.requires.at c.requires.quiet _ _ _ _ is c.put_byte.ensures.state c.put_byte.ensures.puts

pub returns-in-Some-GetByte-clause-ran : goal.returns-in-Some-GetByte-clause-ran
returns-in-Some-GetByte-clause-ran g c =
    let is : service_of (number (progress_of c.args.self.now)) ≡ Some GetByte =
    number_is c.self.view_is c.register.ensures c.from_number.ensures ∙ c.in-Some-GetByte.is ∙
    ap Some c.in-Some-GetByte.field-0-is in
    get_byte_ran _ _ c.requires.at c.requires.quiet _ _ _ _ is c.get_byte.ensures.takes

pub returns-in-Some-Begin-clause-ran : goal.returns-in-Some-Begin-clause-ran
returns-in-Some-Begin-clause-ran g c =
    let is : service_of (number (progress_of c.args.self.now)) ≡ Some Begin =
    number_is c.self.view_is c.register.ensures c.from_number.ensures ∙ c.in-Some-Begin.is ∙
    ap Some c.in-Some-Begin.field-0-is in
    begin_ran _ _ _ _ _ c.requires.at c.requires.quiet is c.generate.ensures.made

pub returns-in-Some-Emit-clause-ran : goal.returns-in-Some-Emit-clause-ran
returns-in-Some-Emit-clause-ran g c =
    let is : service_of (number (progress_of c.args.self.now)) ≡ Some Emit =
    number_is c.self.view_is c.register.ensures c.from_number.ensures ∙ c.in-Some-Emit.is ∙
    ap Some c.in-Some-Emit.field-0-is in
    emit_ran _ _ _ _ _ c.requires.at c.requires.quiet is c.generate-in-Some-Emit.ensures.made

pub returns-in-Some-Finish-clause-ran : goal.returns-in-Some-Finish-clause-ran
returns-in-Some-Finish-clause-ran g c =
    let is : service_of (number (progress_of c.args.self.now)) ≡ Some Finish =
    number_is c.self.view_is c.register.ensures c.from_number.ensures ∙ c.in-Some-Finish.is ∙
    ap Some c.in-Some-Finish.field-0-is in
    finish_ran _ _ _ _ _ c.requires.at c.requires.quiet is c.generate-in-Some-Finish.ensures.made

pub returns-in-Some-Flush-clause-ran : goal.returns-in-Some-Flush-clause-ran
returns-in-Some-Flush-clause-ran g c =
    let is : service_of (number (progress_of c.args.self.now)) ≡ Some Flush =
    number_is c.self.view_is c.register.ensures c.from_number.ensures ∙ c.in-Some-Flush.is ∙
    ap Some c.in-Some-Flush.field-0-is in
    flush_ran _ _ _ _ _ c.requires.at c.requires.quiet is c.generate-in-Some-Flush.ensures.made

pub returns-in-Some-Publish-clause-ran : goal.returns-in-Some-Publish-clause-ran
returns-in-Some-Publish-clause-ran g c =
    let is : service_of (number (progress_of c.args.self.now)) ≡ Some Publish =
    number_is c.self.view_is c.register.ensures c.from_number.ensures ∙ c.in-Some-Publish.is ∙
    ap Some c.in-Some-Publish.field-0-is in
    publish_ran _ _ _ _ _ c.requires.at c.requires.quiet is c.generate-in-Some-Publish.ensures.made

pub returns-in-None-clause-ran : goal.returns-in-None-clause-ran
returns-in-None-clause-ran g c =
    let is : service_of (number (progress_of c.args.self.now)) ≡ None =
    number_is c.self.view_is c.register.ensures c.from_number.ensures ∙ c.in-None.is in
    unknown_ran _ _ c.requires.at c.requires.quiet _ _ _ is (ap stop_from c.refuse.ensures.stopped)
    c.refuse.ensures.state
