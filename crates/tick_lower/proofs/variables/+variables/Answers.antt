use Rattle.std.proofs.Common.{rules, map, ap, sym, ◌∙◌, arith}
use Rattle.typed_tree.specs.declared.expression.Stmt.{the_lemmas}
use Rattle.staged_meaning.specs.Size.{variables_in, variables_of}
use Rattle.typed_tree.specs.View.{stmt_view, items_of}
use Rattle.typed_tree.proofs.Views.{stmt_view_block, stmt_view_if, stmt_view_ifelse, stmt_view_while, stmt_view_do}
use Rattle.typed_tree.proofs.Views.{stmt_view_for, stmt_view_forstep, stmt_view_switch}
use Rattle.tick_lower.proofs.variables.+variables.Goals as goal

pub variables-variables-requires : goal.variables-variables-requires
variables-variables-requires t c = (
  search (rules, the_lemmas),
  omega (
    arith,
    c.requires,
    ap variables_in (ap stmt_view c.in-If.is ∙ stmt_view_if _ _),
    ap (λ z. variables_in (stmt_view z)) c.get.ensures,
  ),
)

pub variables-variables-requires-in-While : goal.variables-variables-requires-in-While
variables-variables-requires-in-While t c = (
  search (rules, the_lemmas),
  omega (
    arith,
    c.requires,
    ap variables_in (ap stmt_view c.in-While.is ∙ stmt_view_while _ _),
    ap (λ z. variables_in (stmt_view z)) c.get-in-While.ensures,
  ),
)

pub variables-variables-requires-in-Do : goal.variables-variables-requires-in-Do
variables-variables-requires-in-Do t c = (
  search (rules, the_lemmas),
  omega (
    arith,
    c.requires,
    ap variables_in (ap stmt_view c.in-Do.is ∙ stmt_view_do _ _),
    ap (λ z. variables_in (stmt_view z)) c.get-in-Do.ensures,
  ),
)

pub variables-variables-requires-in-For : goal.variables-variables-requires-in-For
variables-variables-requires-in-For t c = (
  search (rules, the_lemmas),
  omega (
    arith,
    c.requires,
    ap variables_in (ap stmt_view c.in-For.is ∙ stmt_view_for _ _),
    ap (λ z. variables_in (stmt_view z)) c.get-in-For.ensures,
  ),
)

pub variables-variables-requires-in-ForStep : goal.variables-variables-requires-in-ForStep
variables-variables-requires-in-ForStep t c = (
  search (rules, the_lemmas),
  omega (
    arith,
    c.requires,
    ap variables_in (ap stmt_view c.in-ForStep.is ∙ stmt_view_forstep _ _ _),
    ap (λ z. variables_in (stmt_view z)) c.get-in-ForStep.ensures,
  ),
)

pub variables-variables-requires-in-IfElse : goal.variables-variables-requires-in-IfElse
variables-variables-requires-in-IfElse t c = (
  search (rules, the_lemmas),
  omega (
    arith,
    c.requires,
    ap variables_in (ap stmt_view c.in-IfElse.is ∙ stmt_view_ifelse _ _ _),
    ap (λ z. variables_in (stmt_view z)) c.get-in-IfElse.ensures,
  ),
)

pub variables-variables-requires-in-IfElse-2 : goal.variables-variables-requires-in-IfElse-2
variables-variables-requires-in-IfElse-2 t c = (
  search (rules, the_lemmas),
  omega (
    arith,
    c.requires,
    ap variables_in (ap stmt_view c.in-IfElse.is ∙ stmt_view_ifelse _ _ _),
    ap (λ z. variables_in (stmt_view z)) c.get-in-IfElse-2.ensures,
  ),
)

pub variables-most_variables-requires : goal.variables-most_variables-requires
variables-most_variables-requires t c = (
  search (rules, the_lemmas),
  omega (
    arith,
    c.requires,
    ap variables_in (ap stmt_view c.in-Block.is ∙ stmt_view_block _ _),
    ap (λ z. variables_of (items_of (map stmt_view z))) c.as_slice.ensures,
  ),
)

pub variables-most_variables-requires-in-Block : goal.variables-most_variables-requires-in-Block
variables-most_variables-requires-in-Block t c = (
  search (rules, the_lemmas),
  omega (
    arith,
    c.requires,
    ap variables_in (ap stmt_view c.in-Block.is ∙ stmt_view_block _ _),
    ap (λ z. variables_of (items_of (map stmt_view z))) c.as_slice-in-Block.ensures,
  ),
)

pub variables-most_variables-requires-in-Switch : goal.variables-most_variables-requires-in-Switch
variables-most_variables-requires-in-Switch t c = (
  search (rules, the_lemmas),
  omega (
    arith,
    c.requires,
    ap variables_in (ap stmt_view c.in-Switch.is ∙ stmt_view_switch _ _ _),
    ap (λ z. variables_of (items_of (map stmt_view z))) c.as_slice-in-Switch.ensures,
  ),
)

pub variables-most_variables-requires-in-Switch-2 : goal.variables-most_variables-requires-in-Switch-2
variables-most_variables-requires-in-Switch-2 t c = (
  search (rules, the_lemmas),
  omega (
    arith,
    c.requires,
    ap variables_in (ap stmt_view c.in-Switch.is ∙ stmt_view_switch _ _ _),
    ap (λ z. variables_of (items_of (map stmt_view z))) c.as_slice-in-Switch-2.ensures,
  ),
)

pub variables-returns-in-If : goal.variables-returns-in-If
variables-returns-in-If t c =
    c.variables.ensures
    ∙ ap (λ z. variables_in (stmt_view z)) c.get.ensures
    ∙ sym (ap variables_in (ap stmt_view c.in-If.is ∙ stmt_view_if _ _))

pub variables-returns-in-While : goal.variables-returns-in-While
variables-returns-in-While t c =
    c.variables-in-While.ensures
    ∙ ap (λ z. variables_in (stmt_view z)) c.get-in-While.ensures
    ∙ sym (ap variables_in (ap stmt_view c.in-While.is ∙ stmt_view_while _ _))

pub variables-returns-in-Do : goal.variables-returns-in-Do
variables-returns-in-Do t c =
    c.variables-in-Do.ensures
    ∙ ap (λ z. variables_in (stmt_view z)) c.get-in-Do.ensures
    ∙ sym (ap variables_in (ap stmt_view c.in-Do.is ∙ stmt_view_do _ _))

pub variables-returns-in-For : goal.variables-returns-in-For
variables-returns-in-For t c =
    c.variables-in-For.ensures
    ∙ ap (λ z. variables_in (stmt_view z)) c.get-in-For.ensures
    ∙ sym (ap variables_in (ap stmt_view c.in-For.is ∙ stmt_view_for _ _))

pub variables-returns-in-ForStep : goal.variables-returns-in-ForStep
variables-returns-in-ForStep t c =
    c.variables-in-ForStep.ensures
    ∙ ap (λ z. variables_in (stmt_view z)) c.get-in-ForStep.ensures
    ∙ sym (ap variables_in (ap stmt_view c.in-ForStep.is ∙ stmt_view_forstep _ _ _))
