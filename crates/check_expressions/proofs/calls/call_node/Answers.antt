use Rattle.std.proofs.Common.{◌≡◌, ◌&&◌, true, ap, sym, ◌∙◌, subst}
use Rattle.std.specs.Prelude.{if◌then◌else◌}
use Rattle.tick_tree.specs.Faults.{Checks}
use Rattle.check_operands.specs.Calls as calls
use Rattle.check_rules.specs.Productions as spec
use Rattle.check_rules.specs.Productions.{call_node}
use Rattle.check_expressions.proofs.calls.call_node.Goals as goal

pub returns-then-branch : goal.returns-then-branch
unfolding call_node
returns-then-branch c =
    let called = calls.call c.args.line c.args.o c.args.list in
    let answers : spec.answers_specification c.args.o.ctype ≡ true =
    sym c.in_ok-answers_specification.ensures ∙ c.if-branch.true in
    let tick : spec.is_tick c.args.stage ≡ true = sym c.is_tick.ensures ∙ c.if-is_tick.true in
    let both : (spec.is_tick c.args.stage && spec.answers_specification c.args.o.ctype) ≡ true =
    ap (λ b. b && spec.answers_specification c.args.o.ctype) tick ∙ answers in
    subst (λ b. Checks c.left_call.result (if b then spec.left_of c.args.line called else called)) (sym both)
    c.left_call.ensures
