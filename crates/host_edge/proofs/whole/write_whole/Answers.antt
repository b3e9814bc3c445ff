use Rattle.std.proofs.Common.{rules, subst, ◌∙◌}
use Rattle.std.proofs.KnownBytes.{Appends-trans}
use Rattle.std.specs.Io.KnownBytes.{Appends}
use Rattle.host_edge.proofs.Pieces.{front_more}
use Rattle.host_edge.proofs.whole.write_whole.Goals as goal

pub loop-done-preserved : goal.loop-done-preserved
loop-done-preserved g c = record {
  within = search rules;
  taken = subst (Appends (g.O.Sink.taken c.args.out.now) (g.O.Sink.taken c.write.new.self))
      (front_more c.loop-done.done c.in_ok-count.count c.args.bytes.now)
      (Appends-trans _ _ _ _ _ c.loop-done.invariant.taken c.in_ok-count.ensures.bytes);
  faults = c.in_ok-count.ensures.cause.ok ∙ c.loop-done.invariant.faults;
}
