use Rattle.std.proofs.Common.{rules, ◌≡◌, ◌≢◌, suc, ◌+◌, ◌-◌, ap, ◌∙◌, arith}
use Rattle.eval_state.specs.Run.{run_of, with_units, world}
use Rattle.eval_state.proofs.Clearing.{clearing, clears_one, still_stays}
use Rattle.eval_state.proofs.state.Machine.clear.Goals as goal

pub loop-preserved : goal.loop-preserved
loop-preserved c =
    let old = run_of c.args.self.now in
    let r = run_of c.loop.self in
    let s = run_of c.zero.new.self in
    let t = run_of c.spend_one.new.self in
    let n = c.args.words - (c.loop.counter + 1) in
    let more : c.args.words - c.loop.counter ≡ suc n = omega (arith, c.loop-test.true) in
    let spent : ((world s).units ≢ 0) × (t ≡ with_units ((world s).units - 1) s) = search rules in
    let zeroed : (world s).units ≡ (world r).units = ap (λ s. (world s).units) c.zero.ensures in
    let left : (world t).units ≡ (world s).units - 1 = ap (λ t. (world t).units) spent.1 in
    record {
      same = still_stays old r s t c.loop.invariant.same c.zero.ensures spent.1;
      rest = c.loop.invariant.rest
          ∙ ap (λ k. clearing k c.loop.at r) more
          ∙ clears_one r s t n c.loop.at c.zero.ensures spent.0 spent.1;
      units = omega (arith, zeroed, left, c.loop.invariant.units);
      within = omega (arith, c.loop.invariant.within);
    }
