use Rattle.std.proofs.Common.{rules}
use Rattle.image_commands.specs.Outside.{outside}
use Rattle.image_commands.specs.Does.{Answered}
use Rattle.source_commands.specs.Does.{MeansProgram}
use Rattle.image_commands.proofs.Fronts.{if_ok}
use Rattle.source_commands.proofs.Evaluations.{with_tree}
use Rattle.source_commands.proofs.means.mean_text.Goals as goal

pub returns-in-Ok-clause-means : goal.returns-in-Ok-clause-means
returns-in-Ok-clause-means g c =
    if_ok c.mean_program-ended.result
    (λ e means old new same. with_tree
    (Answered (outside old (g.I.Source.left c.args.input.now) (g.O.Sink.taken c.args.out.now))
    (outside new (g.I.Source.left c.mean_program-ended.new.input) (g.O.Sink.taken c.mean_program-ended.new.out)) e)
    (MeansProgram c.args.units (outside old (g.I.Source.left c.args.input.now) (g.O.Sink.taken c.args.out.now))
    (outside new (g.I.Source.left c.mean_program-ended.new.input) (g.O.Sink.taken c.mean_program-ended.new.out)) e)
    c.args.text.now c.in-Ok.tree (search rules) (search rules) (λ program is. means program is old new))
    c.mean_program-ended.ensures.means
