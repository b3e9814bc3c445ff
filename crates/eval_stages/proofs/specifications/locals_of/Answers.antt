use Rattle.std.proofs.Common.{subst, ◌∙◌}
use Rattle.eval_state.specs.Kept.{rows_view}
use Rattle.eval_state.specs.Sound.{IsSound}
use Rattle.eval_stages.proofs.Walks.{less_walked, walks_all, walks_on}
use Rattle.eval_stages.proofs.specifications.locals_of.Goals as goal

pub loop-kept-smaller : goal.loop-kept-smaller
loop-kept-smaller c =
    less_walked c.args.m.now c.loop-kept.pending c.pop.new.self c.walk.new.pending c.in-Some.kept
    (subst IsSound c.m.view_is c.m.invariant) c.in-Some.ensures c.in_ok-walk.ensures.rest

pub loop-kept-preserved : goal.loop-kept-preserved
loop-kept-preserved c =
    walks_on c.args.m.now c.args.number c.in-Some.kept c.loop-kept.pending c.pop.new.self c.walk.new.pending
    c.loop-kept.seen.keys c.walk.new.seen.keys (subst IsSound c.m.view_is c.m.invariant) c.in-Some.ensures
    c.in_ok-walk.ensures.rest c.in_ok-walk.ensures.keys c.loop-kept.invariant

pub returns : goal.returns
returns c =
    c.len.ensures.len
    ∙ walks_all (rows_view c.args.m.now.rows) c.args.number c.loop-kept.pending c.loop-kept.seen.keys
    c.in_default.ensures.0 c.loop-kept.invariant
