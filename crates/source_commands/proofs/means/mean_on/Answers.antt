use Rattle.std.proofs.Common.{◌∙◌}
use Rattle.source_commands.proofs.Evaluations.{evaluates, stops_short}
use Rattle.source_commands.proofs.means.mean_on.Goals as goal

pub returns-in-Ok-clause-evaluates : goal.returns-in-Ok-clause-evaluates
returns-in-Ok-clause-evaluates g c program means =
    let told = c.in_ok-evaluated.ensures program means in
    evaluates c.args.units program c.args.input.now c.in_ok-evaluated.evaluated.ending c.as_slice.result.now
    (g.O.Sink.taken c.args.out.now) (g.O.Sink.taken c.write_whole.new.out) c.bare.result told.ends
    (c.as_slice.ensures ∙ told.puts) c.outcome_of-outcome.result c.outcome_of-outcome.ensures.is c.bare.ensures
    c.in-Ok.ensures.whole

pub returns-clause-evaluates : goal.returns-clause-evaluates
returns-clause-evaluates g c program means =
    let told = c.in_ok-evaluated.ensures program means in
    stops_short c.args.units program c.args.input.now c.in_ok-evaluated.evaluated.ending c.as_slice.result.now
    (g.O.Sink.taken c.args.out.now) (g.O.Sink.taken c.write_whole.new.out) c.bare-in-Err.result told.ends
    (c.as_slice.ensures ∙ told.puts) c.bare-in-Err.ensures c.in-Err.ensures.front
