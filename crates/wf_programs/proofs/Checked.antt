-- What was checked, taken apart: both walks, and what is checked at the end.
use Rattle.std.proofs.Common.{◌≡◌, List, Ok}
use Rattle.tick_tree.specs.declared.syntax.External.{External}
use Rattle.tick_tree.specs.declared.tree.Tree.{Tree}
use Rattle.typed_tree.specs.declared.program.TypedParts.{TypedParts}
use Rattle.check_rules.specs.declared.state.State.{State}
use Rattle.check_rules.specs.Starts.{start, again}
use Rattle.check_globals.specs.Programs.{finished}
use Rattle.check_globals.specs.Program.{walk, first_walk, walk_again, second_walk, checked}
use Rattle.wf_programs.proofs.Steps.{Then, then_by}

pub record Ran (xs : List External) (p : TypedParts) : Type 0 where
  pub begin : Unit {0} × State
  pub one : start ≡ Ok begin
  pub first : Unit {0} × State
  pub two : walk xs begin.1 ≡ Ok first
  pub middle : Unit {0} × State
  pub three : again first.1 ≡ Ok middle
  pub last : Unit {0} × State
  pub four : walk xs middle.1 ≡ Ok last
  pub five : finished last.1 ≡ Ok p

pub ran : (t : Tree) (p : TypedParts) → checked t ≡ Ok p → Ran t.items p
unfolding checked
ran t p is =
    let a : Then start (λ r. first_walk t.items r.1) p = then_by start (λ r. first_walk t.items r.1) p is in
    let b : Then (walk t.items a.answer.1) (λ r. walk_again t.items r.1) p =
    then_by (walk t.items a.answer.1) (λ r. walk_again t.items r.1) p a.second in
    let c : Then (again b.answer.1) (λ r. second_walk t.items r.1) p =
    then_by (again b.answer.1) (λ r. second_walk t.items r.1) p b.second in
    let d : Then (walk t.items c.answer.1) (λ r. finished r.1) p =
    then_by (walk t.items c.answer.1) (λ r. finished r.1) p c.second in
    record {
      begin = a.answer;
      one = a.first;
      first = b.answer;
      two = b.first;
      middle = c.answer;
      three = c.first;
      last = d.answer;
      four = d.first;
      five = d.second;
    }
