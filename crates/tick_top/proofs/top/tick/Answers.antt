use Rattle.std.proofs.Common.{map}
use Rattle.std.specs.Prelude.{string_bytes}
use Rattle.image_commands.specs.Outside.{outside, failures}
use Rattle.image_commands.proofs.Fronts.{if_ok}
use Rattle.source_commands.proofs.Stated.{refused_row, asm_refused_row, too_long_row, bad_image_row, trap_row}
use Rattle.source_commands.proofs.Stated.{machine_fault_row, out_of_steps_row, cause_row}
use Rattle.tick_top.proofs.top.tick.Goals as goal

pub returns-clause-refused : goal.returns-clause-refused
returns-clause-refused g c =
    if_ok c.call.result
    (refused_row (map string_bytes c.args.words.now)
    (outside (g.S.Store.file c.args.store.now) (g.I.Source.left c.args.input.now) (g.O.Sink.taken c.args.out.now))
    (outside (g.S.Store.file c.call.new.store) (g.I.Source.left c.call.new.input) (g.O.Sink.taken c.call.new.out))
    (failures (g.S.Store.faults c.args.store.now) (g.I.Source.faults c.args.input.now) (g.O.Sink.faults c.args.out.now))
    (failures (g.S.Store.faults c.call.new.store) (g.I.Source.faults c.call.new.input)
    (g.O.Sink.faults c.call.new.out))
    (g.E.Sink.taken c.args.err.now) (g.E.Sink.taken c.call.new.err) (g.E.Sink.faults c.args.err.now)
    (g.E.Sink.faults c.call.new.err))
    c.call.ensures.did

pub returns-clause-asm_refused : goal.returns-clause-asm_refused
returns-clause-asm_refused g c =
    if_ok c.call.result
    (asm_refused_row (map string_bytes c.args.words.now)
    (outside (g.S.Store.file c.args.store.now) (g.I.Source.left c.args.input.now) (g.O.Sink.taken c.args.out.now))
    (outside (g.S.Store.file c.call.new.store) (g.I.Source.left c.call.new.input) (g.O.Sink.taken c.call.new.out))
    (failures (g.S.Store.faults c.args.store.now) (g.I.Source.faults c.args.input.now) (g.O.Sink.faults c.args.out.now))
    (failures (g.S.Store.faults c.call.new.store) (g.I.Source.faults c.call.new.input)
    (g.O.Sink.faults c.call.new.out))
    (g.E.Sink.taken c.args.err.now) (g.E.Sink.taken c.call.new.err) (g.E.Sink.faults c.args.err.now)
    (g.E.Sink.faults c.call.new.err))
    c.call.ensures.did

pub returns-clause-too_long : goal.returns-clause-too_long
returns-clause-too_long g c =
    if_ok c.call.result
    (too_long_row (map string_bytes c.args.words.now)
    (outside (g.S.Store.file c.args.store.now) (g.I.Source.left c.args.input.now) (g.O.Sink.taken c.args.out.now))
    (outside (g.S.Store.file c.call.new.store) (g.I.Source.left c.call.new.input) (g.O.Sink.taken c.call.new.out))
    (failures (g.S.Store.faults c.args.store.now) (g.I.Source.faults c.args.input.now) (g.O.Sink.faults c.args.out.now))
    (failures (g.S.Store.faults c.call.new.store) (g.I.Source.faults c.call.new.input)
    (g.O.Sink.faults c.call.new.out))
    (g.E.Sink.taken c.args.err.now) (g.E.Sink.taken c.call.new.err) (g.E.Sink.faults c.args.err.now)
    (g.E.Sink.faults c.call.new.err))
    c.call.ensures.did

pub returns-clause-bad_image : goal.returns-clause-bad_image
returns-clause-bad_image g c =
    if_ok c.call.result
    (bad_image_row (map string_bytes c.args.words.now)
    (outside (g.S.Store.file c.args.store.now) (g.I.Source.left c.args.input.now) (g.O.Sink.taken c.args.out.now))
    (outside (g.S.Store.file c.call.new.store) (g.I.Source.left c.call.new.input) (g.O.Sink.taken c.call.new.out))
    (failures (g.S.Store.faults c.args.store.now) (g.I.Source.faults c.args.input.now) (g.O.Sink.faults c.args.out.now))
    (failures (g.S.Store.faults c.call.new.store) (g.I.Source.faults c.call.new.input)
    (g.O.Sink.faults c.call.new.out))
    (g.E.Sink.taken c.args.err.now) (g.E.Sink.taken c.call.new.err) (g.E.Sink.faults c.args.err.now)
    (g.E.Sink.faults c.call.new.err))
    c.call.ensures.did

pub returns-clause-trap : goal.returns-clause-trap
returns-clause-trap g c =
    if_ok c.call.result
    (trap_row (map string_bytes c.args.words.now)
    (outside (g.S.Store.file c.args.store.now) (g.I.Source.left c.args.input.now) (g.O.Sink.taken c.args.out.now))
    (outside (g.S.Store.file c.call.new.store) (g.I.Source.left c.call.new.input) (g.O.Sink.taken c.call.new.out))
    (failures (g.S.Store.faults c.args.store.now) (g.I.Source.faults c.args.input.now) (g.O.Sink.faults c.args.out.now))
    (failures (g.S.Store.faults c.call.new.store) (g.I.Source.faults c.call.new.input)
    (g.O.Sink.faults c.call.new.out))
    (g.E.Sink.taken c.args.err.now) (g.E.Sink.taken c.call.new.err) (g.E.Sink.faults c.args.err.now)
    (g.E.Sink.faults c.call.new.err))
    c.call.ensures.did

pub returns-clause-machine_fault : goal.returns-clause-machine_fault
returns-clause-machine_fault g c =
    if_ok c.call.result
    (machine_fault_row (map string_bytes c.args.words.now)
    (outside (g.S.Store.file c.args.store.now) (g.I.Source.left c.args.input.now) (g.O.Sink.taken c.args.out.now))
    (outside (g.S.Store.file c.call.new.store) (g.I.Source.left c.call.new.input) (g.O.Sink.taken c.call.new.out))
    (failures (g.S.Store.faults c.args.store.now) (g.I.Source.faults c.args.input.now) (g.O.Sink.faults c.args.out.now))
    (failures (g.S.Store.faults c.call.new.store) (g.I.Source.faults c.call.new.input)
    (g.O.Sink.faults c.call.new.out))
    (g.E.Sink.taken c.args.err.now) (g.E.Sink.taken c.call.new.err) (g.E.Sink.faults c.args.err.now)
    (g.E.Sink.faults c.call.new.err))
    c.call.ensures.did

pub returns-clause-out_of_steps : goal.returns-clause-out_of_steps
returns-clause-out_of_steps g c =
    if_ok c.call.result
    (out_of_steps_row (map string_bytes c.args.words.now)
    (outside (g.S.Store.file c.args.store.now) (g.I.Source.left c.args.input.now) (g.O.Sink.taken c.args.out.now))
    (outside (g.S.Store.file c.call.new.store) (g.I.Source.left c.call.new.input) (g.O.Sink.taken c.call.new.out))
    (failures (g.S.Store.faults c.args.store.now) (g.I.Source.faults c.args.input.now) (g.O.Sink.faults c.args.out.now))
    (failures (g.S.Store.faults c.call.new.store) (g.I.Source.faults c.call.new.input)
    (g.O.Sink.faults c.call.new.out))
    (g.E.Sink.taken c.args.err.now) (g.E.Sink.taken c.call.new.err) (g.E.Sink.faults c.args.err.now)
    (g.E.Sink.faults c.call.new.err))
    c.call.ensures.did

pub returns-clause-cause : goal.returns-clause-cause
returns-clause-cause g c =
    if_ok c.call.result
    (cause_row (map string_bytes c.args.words.now)
    (outside (g.S.Store.file c.args.store.now) (g.I.Source.left c.args.input.now) (g.O.Sink.taken c.args.out.now))
    (outside (g.S.Store.file c.call.new.store) (g.I.Source.left c.call.new.input) (g.O.Sink.taken c.call.new.out))
    (failures (g.S.Store.faults c.args.store.now) (g.I.Source.faults c.args.input.now) (g.O.Sink.faults c.args.out.now))
    (failures (g.S.Store.faults c.call.new.store) (g.I.Source.faults c.call.new.input)
    (g.O.Sink.faults c.call.new.out))
    (g.E.Sink.taken c.args.err.now) (g.E.Sink.taken c.call.new.err) (g.E.Sink.faults c.args.err.now)
    (g.E.Sink.faults c.call.new.err))
    c.call.ensures.did
