use Rattle.tick_gen.specs.Source as spec
use Rattle.tick_gen.proofs.Pieces.{one_more}
use Rattle.tick_gen.proofs.generator.push_turns.Goals as goal

pub loop-number-preserved : goal.loop-number-preserved
loop-number-preserved c = record {
  pushed =
      one_more spec.turn_line c.loop-number.number c.args.text.now.items c.loop-number.text.items
      c.push_turn.new.text.items c.loop-number.invariant.pushed c.in_ok-push_turn.ensures;
}
