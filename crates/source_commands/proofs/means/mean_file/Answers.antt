use Rattle.std.proofs.Common.{rules}
use Rattle.image_commands.specs.Outside.{outside}
use Rattle.image_commands.specs.Answers.{longest_text}
use Rattle.image_commands.specs.Does.{Answered}
use Rattle.source_commands.specs.Does.{WithProgram, MeansProgram}
use Rattle.image_commands.proofs.Fronts.{if_ok, in_file}
use Rattle.source_commands.proofs.means.mean_file.Goals as goal

pub returns-in-Whole-clause-means : goal.returns-in-Whole-clause-means
returns-in-Whole-clause-means g c =
    let old = outside (g.S.Store.file c.args.store.now) (g.I.Source.left c.args.input.now)
    (g.O.Sink.taken c.args.out.now) in
    let new = outside (g.S.Store.file c.load.new.store) (g.I.Source.left c.mean_text.new.input)
    (g.O.Sink.taken c.mean_text.new.out) in
    if_ok c.mean_text.result
    (λ e means. in_file (Answered old new e) (g.S.Store.file c.args.store.now c.args.file.now) longest_text
    (WithProgram (Answered old new e) (MeansProgram c.args.units old new e)) c.deref.result.now (search rules)
    (search rules)
    (means (g.S.Store.file c.args.store.now) (g.S.Store.file c.load.new.store) c.load.ensures.same))
    c.mean_text.ensures.means
