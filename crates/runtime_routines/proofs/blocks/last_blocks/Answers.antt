use Rattle.std.proofs.lemmas.Result.{on_ok_weaker}
use Rattle.runtime_routines.proofs.Nothing.{last_seen}
use Rattle.runtime_routines.proofs.blocks.last_blocks.Goals as goal

pub returns : goal.returns
returns c =
    on_ok_weaker c.fill-2.result
    (λ made. last_seen _ _ _ _ _ _ c.in_ok-fill.ensures c.new-s.ensures c.new.ensures c.in_ok-block.ensures made)
    c.fill-2.ensures
