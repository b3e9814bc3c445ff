use Rattle.std.proofs.Common.{◌≡◌, ◌∷◌, List, ap, arith, ◌∙◌}
use Rattle.typed_tree.specs.declared.expression.Stmt.{Stmt}
use Rattle.staged_meaning.specs.Statements.{exec_default}
use Rattle.eval_state.specs.Views.{items_view}
use Rattle.eval_statements.proofs.Labels.{default_behind, lighter}
use Rattle.eval_statements.proofs.switches.default_of.Goals as goal

pub returns-then-is_default-clause-tail : goal.returns-then-is_default-clause-tail
returns-then-is_default-clause-tail c = λ k.
    omega (
      arith,
      lighter k c.loop-s.rest.now c.in-Some.s.now c.in-Some.more.now c.in-Some.ensures.cases.0,
      c.loop-s.invariant.tail k,
    )

pub loop-s-preserved : goal.loop-s-preserved
loop-s-preserved c =
    let s = c.in-Some.s.now in
    let more = c.in-Some.more.now in
    let rest : c.loop-s.rest.now ≡ s ∷ more = c.in-Some.ensures.cases.0 in
    record {
      items = λ it w.
          c.loop-s.invariant.items it w
          ∙ ap (λ (l : List Stmt). exec_default it (items_view l) w) rest
          ∙ default_behind s more it w (c.is_default.ensures.another c.if-is_default.false);
      tail = λ k. omega (arith, lighter k c.loop-s.rest.now s more rest, c.loop-s.invariant.tail k);
    }
