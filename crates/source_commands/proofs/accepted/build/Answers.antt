use Rattle.std.proofs.Common.{rules, ◌≡◌}
use Rattle.source_commands.proofs.Mains.{builds, refuses_text}
use Rattle.source_commands.proofs.accepted.build.Goals as goal

pub returns-in_err-program-clause-refused : goal.returns-in_err-program-clause-refused
returns-in_err-program-clause-refused g c =
    refuses_text c.args.text.now c.in_err-program.field-0.0 c.from_residual.result (search rules) (search rules)

pub returns-clause-built : goal.returns-clause-built
returns-clause-built g c =
    builds c.programs_meet_backend.ensures c.programs_are_meant.ensures c.headline_holds.ensures
    c.images_keep_rules.ensures c.args.text.now
    c.in_ok-program.program c.from_program-image.result c.keeps_law.ensures c.from_program-image.ensures.words
    (search rules) c.from_program-image.ensures.image
