use Rattle.std.proofs.Common.{rules}
use Rattle.image_commands.proofs.Fronts.{if_ok}
use Rattle.source_commands.proofs.Fronts.{builds, builds_nothing}
use Rattle.source_commands.proofs.commands.build_file.Goals as goal

pub returns-in-Found-clause-does : goal.returns-in-Found-clause-does
returns-in-Found-clause-does g c = if_ok c.save_image.result
    (λ e s. builds c.args.file.now c.args.path.now (g.S.Store.file c.args.store.now)
    (g.S.Store.file c.image_of_text.new.store)
    (g.S.Store.file c.save_image.new.store) e c.in-Found.image (search rules) s (search rules))
    c.save_image.ensures.saves

pub returns-in-Instead-clause-does : goal.returns-in-Instead-clause-does
returns-in-Instead-clause-does g c =
    builds_nothing c.args.file.now c.args.path.now (g.S.Store.file c.args.store.now)
    (g.S.Store.file c.image_of_text.new.store)
    c.bare.result c.in-Instead.outcome (c.bare.ensures, c.image_of_text.ensures.same) (search rules)
