use Rattle.std.proofs.Common.{refl, arith}
use Rattle.tick_lower.proofs.Captures.{counted}
use Rattle.tick_lower.proofs.making.checks.Goals as goal

pub loop-capture-init : goal.loop-capture-init
loop-capture-init c = record {
  above = omega (arith, c.in_ok-above.ensures, counted c.args.captures.now);
  checked = refl;
}
