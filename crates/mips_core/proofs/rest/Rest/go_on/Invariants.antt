use Rattle.std.proofs.Common.{◌≡◌, ◌≤◌, ◌-◌, None, true, length}
use Rattle.mips_core.specs.Core.{GoesOn, IsClear, at, state_of}
use Rattle.mips_core.proofs.rest.Rest.go_on.Given as goal

abbrev pub invariant-loop-clear : goal.invariant-loop-clear
invariant-loop-clear l = record {
  within : l.at.left ≤ l.fn.n;
  ran : GoesOn (l.fn.n - l.at.left) l.fn.self (at l.at.pc l.self);
  on : l.self.stopped ≡ None;
  text : (state_of l.self).code.text ≡ (state_of l.fn.self).code.text;
  reach : l.at.reach ≤ length l.text;
  clear : l.clear ≡ true → IsClear l.self;
}

abbrev pub decreases-loop-clear : goal.decreases-loop-clear
decreases-loop-clear l = l.at.left

abbrev pub invariant-loop-clear-2 : goal.invariant-loop-clear-2
invariant-loop-clear-2 l = record {
  within : l.at.left ≤ l.fn.n;
  ran : GoesOn (l.fn.n - l.at.left) l.fn.self (at l.at.pc l.self);
  on : l.self.stopped ≡ None;
  text : (state_of l.self).code.text ≡ (state_of l.fn.self).code.text;
  reach : l.at.reach ≤ length l.text;
  clear : l.clear ≡ true → IsClear l.self;
  fewer : l.at.left ≤ l.initial.at.left;
}

abbrev pub decreases-loop-clear-2 : goal.decreases-loop-clear-2
decreases-loop-clear-2 l = l.at.left
