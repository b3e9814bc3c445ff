use Rattle.std.proofs.Common.{rules, ap, refl}
use Rattle.command_words.specs.Orders.{ordered}
use Rattle.image_commands.specs.Outside.{outside}
use Rattle.source_commands.proofs.Fronts.{ordered_build, asked_source}
use Rattle.source_commands.proofs.commands.obey.Goals as goal

pub returns-in-Build-clause-does : goal.returns-in-Build-clause-does
returns-in-Build-clause-does g c =
    ordered_build c.in-Build.file.now c.in-Build.path.now (ordered c.args.command)
    (outside (g.S.Store.file c.args.store.now) (g.I.Source.left c.args.input.now) (g.O.Sink.taken c.args.out.now))
    (outside (g.S.Store.file c.build_file.new.store) (g.I.Source.left c.args.input.now) (g.O.Sink.taken c.args.out.now))
    c.build_file.result (ap ordered c.in-Build.is) (search rules) (search rules)

pub returns-in-Gen-clause-does : goal.returns-in-Gen-clause-does
returns-in-Gen-clause-does g c =
    asked_source c.in-Gen.number (ordered c.args.command)
    (outside (g.S.Store.file c.args.store.now) (g.I.Source.left c.args.input.now) (g.O.Sink.taken c.args.out.now))
    (outside (g.S.Store.file c.args.store.now) (g.I.Source.left c.args.input.now)
    (g.O.Sink.taken c.write_source.new.out))
    c.write_source.result (ap ordered c.in-Gen.is) (λ q. refl) (search rules) c.write_source.ensures.prints
