use Rattle.std.proofs.Common.{rules}
use Rattle.image_commands.proofs.Fronts.{if_ok, assembles}
use Rattle.image_commands.proofs.commands.assemble_file.Goals as goal

pub returns-in-Found-clause-does : goal.returns-in-Found-clause-does
returns-in-Found-clause-does g c = if_ok c.save_image.result
    (λ e s. assembles c.args.file.now c.args.path.now (g.S.Store.file c.args.store.now)
    (g.S.Store.file c.image_of_assembly.new.store)
    (g.S.Store.file c.save_image.new.store) e c.in-Found.image (search rules) s (search rules))
    c.save_image.ensures.saves
