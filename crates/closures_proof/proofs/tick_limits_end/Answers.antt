use Rattle.closures_proof.proofs.News as lemmas
use Rattle.closures_proof.proofs.tick_limits_end.Goals as goal

pub returns : goal.returns
returns c =
    λ code a address kind captures shared d w trap low has few some stands h.
    lemmas.new_op_ends code a address kind captures shared d w low has few stands h trap some
