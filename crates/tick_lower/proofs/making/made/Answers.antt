use Rattle.std.proofs.lemmas.Result.{on_ok_weaker}
use Rattle.tick_lower.specs.Viewed.{addresses_view}
use Rattle.tick_lower.proofs.Captures.{kinds, made_of}
use Rattle.tick_lower.proofs.making.made.Goals as goal

pub returns : goal.returns
returns c =
    on_ok_weaker c.nips.result
    (λ made. made_of (addresses_view c.args.addresses.now) c.args.tick (kinds c.args.captures.now) c.args.out.now
    _ _ _ _ _ _ _ _ _ c.size.ensures c.generator.ensures c.kind.ensures c.in_ok-count_of.ensures c.in_ok-ops.ensures
    c.in_ok-checks.ensures c.in_ok-op.ensures c.in_ok-puts.ensures made) c.nips.ensures
