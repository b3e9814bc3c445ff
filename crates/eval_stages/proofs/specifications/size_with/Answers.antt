use Rattle.std.proofs.Common.{◌<◌, length, arith}
use Rattle.eval_state.specs.Kept.{rows_view}
use Rattle.eval_state.proofs.Sizes.{earlier_in}
use Rattle.eval_stages.proofs.specifications.size_with.Goals as goal

pub size_kept-requires : goal.size_kept-requires
size_kept-requires c =
    let within : c.loop-k.k-index < length c.args.kept.now = grind arith in
    earlier_in (rows_view c.args.m.now.rows) (length (rows_view c.args.m.now.rows)) c.args.kept.now
    c.loop-k.k-index _ within c.requires
