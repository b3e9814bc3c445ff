-- Which statement is a `;` alone, by its node.
use Rattle.std.proofs.Common.{ap, sym, ◌∙◌}
use Rattle.check_rules.specs.Walk as walks
use Rattle.check_laws.proofs.Equations.{empty_empty, empty_expr, empty_block, empty_local, empty_if, empty_ifelse}
use Rattle.check_laws.proofs.Equations.{empty_while, empty_do, empty_for, empty_switch, empty_case, empty_default}
use Rattle.check_laws.proofs.Equations.{empty_break, empty_continue, empty_return}
use Rattle.check_walk.proofs.statements.is_empty.Goals as goal

pub returns-in-Empty : goal.returns-in-Empty
returns-in-Empty c = sym (ap (λ q. (walks.item q).is_empty) c.in-Empty.is ∙ empty_empty)

pub returns-in-Expr : goal.returns-in-Expr
returns-in-Expr c = sym (ap (λ q. (walks.item q).is_empty) c.in-Expr.is ∙ empty_expr _)

pub returns-in-Block : goal.returns-in-Block
returns-in-Block c = sym (ap (λ q. (walks.item q).is_empty) c.in-Block.is ∙ empty_block _)

pub returns-in-Local : goal.returns-in-Local
returns-in-Local c = sym (ap (λ q. (walks.item q).is_empty) c.in-Local.is ∙ empty_local _)

pub returns-in-If : goal.returns-in-If
returns-in-If c = sym (ap (λ q. (walks.item q).is_empty) c.in-If.is ∙ empty_if _ _ _)

pub returns-in-IfElse : goal.returns-in-IfElse
returns-in-IfElse c = sym (ap (λ q. (walks.item q).is_empty) c.in-IfElse.is ∙ empty_ifelse _ _ _ _)

pub returns-in-While : goal.returns-in-While
returns-in-While c = sym (ap (λ q. (walks.item q).is_empty) c.in-While.is ∙ empty_while _ _ _)

pub returns-in-Do : goal.returns-in-Do
returns-in-Do c = sym (ap (λ q. (walks.item q).is_empty) c.in-Do.is ∙ empty_do _ _ _)

pub returns-in-For : goal.returns-in-For
returns-in-For c = sym (ap (λ q. (walks.item q).is_empty) c.in-For.is ∙ empty_for _ _ _ _ _)

pub returns-in-Switch : goal.returns-in-Switch
returns-in-Switch c = sym (ap (λ q. (walks.item q).is_empty) c.in-Switch.is ∙ empty_switch _ _ _)

pub returns-in-Case : goal.returns-in-Case
returns-in-Case c = sym (ap (λ q. (walks.item q).is_empty) c.in-Case.is ∙ empty_case _ _)

pub returns-in-Default : goal.returns-in-Default
returns-in-Default c = sym (ap (λ q. (walks.item q).is_empty) c.in-Default.is ∙ empty_default _)

pub returns-in-Break : goal.returns-in-Break
returns-in-Break c = sym (ap (λ q. (walks.item q).is_empty) c.in-Break.is ∙ empty_break _)

pub returns-in-Continue : goal.returns-in-Continue
returns-in-Continue c = sym (ap (λ q. (walks.item q).is_empty) c.in-Continue.is ∙ empty_continue _)

pub returns-in-Return : goal.returns-in-Return
returns-in-Return c = sym (ap (λ q. (walks.item q).is_empty) c.in-Return.is ∙ empty_return _ _)
