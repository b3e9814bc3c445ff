use Rattle.check_laws.proofs.Equations
use Rattle.check_laws.proofs.Written
use Rattle.check_walk.proofs.Behind
use Rattle.std.proofs.Common.{arith}
use Rattle.std.proofs.lemmas.Grind.{common_steps}
use borrow.Author.Rules.{get_or_read}
-- What the goals of the walk need, step by step as the code takes them. For the goals that have no line here a tactic
-- finds it.
use Rattle.std.proofs.Common.{ap, map, refl, sym, ◌∙◌}
use Rattle.tick_tree.specs.declared.syntax.Declaration.{out-Declaration}
use Rattle.tick_tree.specs.declared.syntax.Expr.TheVariants as ex
use Rattle.tick_tree.specs.declared.syntax.Stmt.TheVariants as st
use Rattle.check_rules.specs.Blocks as blocks
use Rattle.check_rules.specs.StatementRules as statements
use Rattle.check_rules.specs.Statements as trees
use Rattle.check_rules.specs.Walk as walks
use Rattle.check_laws.proofs.Equations.{node_name, node_number, node_character, node_string, node_paren, node_compile}
use Rattle.check_laws.proofs.Equations.{node_local, node_param, node_index, node_call, node_step, node_unary}
use Rattle.check_laws.proofs.Equations.{node_tick, node_tickblock, node_cast, node_sizeof, node_binary, node_choice}
use Rattle.check_laws.proofs.Equations.{node_assign, node_modify, node_comma, item_empty, item_expr, item_block}
use Rattle.check_laws.proofs.Equations.{item_local, item_if, item_ifelse, item_while, item_do, item_for, item_switch}
use Rattle.check_laws.proofs.Equations.{item_case, item_default, item_break, item_continue, item_return}
use Rattle.check_laws.proofs.Equations.{by_declaration, named_walk, parameter_walk, shape_walk}
use Rattle.check_walk.proofs.Steps.{broken, ends, fails_as, goes, item_as, lift_done, lift_fails, lifted, node_as}
use Rattle.check_walk.proofs.Steps.{onward, past, stops}
use Rattle.check_walk.proofs.+walk.Goals as goal

-- ---- expressions

pub expressions::choice-returns-in_err-test : goal.expressions::choice-returns-in_err-test
expressions::choice-returns-in_err-test t c =
    broken _ _ _ _ c.from_residual.ensures.1 (stops _ _ _ _ c.in_err-test.ensures)

pub expressions::choice-returns-in-Err : goal.expressions::choice-returns-in-Err
expressions::choice-returns-in-Err t c =
    past _ _ _ _ _ c.in_ok-test.ensures (stops _ _ _ _ (stops _ _ _ _ c.in-Err.ensures))

pub expressions::choice-returns-in-Ok-expression : goal.expressions::choice-returns-in-Ok-expression
expressions::choice-returns-in-Ok-expression t c =
    goes _ _ _ _ _ c.in_ok-test.ensures (goes _ _ _ _ _ (onward _ _ _ _ c.in-Ok.ensures (onward _ _ _ _
    c.in-Ok-expression.ensures refl)) (lifted _ _ _ c.choice_node.ensures))

pub expressions::choice-returns-in-Err-expression : goal.expressions::choice-returns-in-Err-expression
expressions::choice-returns-in-Err-expression t c =
    past _ _ _ _ _ c.in_ok-test.ensures (stops _ _ _ _ (past _ _ _ _ _ c.in-Ok.ensures (stops _ _ _ _
    c.in-Err-expression.ensures)))

pub expressions::compile-returns-in_err-staging_entry : goal.expressions::compile-returns-in_err-staging_entry
expressions::compile-returns-in_err-staging_entry t c =
    broken _ _ _ c.args.state.now c.from_residual.ensures.1 (stops _ _ _ _ (lift_fails _ _ _
    c.in_err-staging_entry.ensures))

pub expressions::compile-returns-in_err-o : goal.expressions::compile-returns-in_err-o
expressions::compile-returns-in_err-o t c =
    broken _ _ _ _ c.from_residual-in_err-o.ensures.1 (past _ _ _ _ _ (lift_done _ _ _ c.in_ok-staging_entry.ensures)
    (stops _ _ _ _ c.in_err-o.ensures))

pub expressions::compile-returns-in-Ok : goal.expressions::compile-returns-in-Ok
expressions::compile-returns-in-Ok t c =
    goes _ _ _ _ _ (lift_done _ _ _ c.in_ok-staging_entry.ensures) (goes _ _ _ _ _ c.in_ok-o.ensures (goes _ _ _ _ _
    c.in-Ok.ensures (lifted _ _ _ c.compile_node.ensures)))

pub expressions::compile-returns-in-Err : goal.expressions::compile-returns-in-Err
expressions::compile-returns-in-Err t c =
    past _ _ _ _ _ (lift_done _ _ _ c.in_ok-staging_entry.ensures) (past _ _ _ _ _ c.in_ok-o.ensures (stops _ _ _ _
    c.in-Err.ensures))

pub expressions::expression-returns-in-Name : goal.expressions::expression-returns-in-Name
expressions::expression-returns-in-Name t c =
    node_as _ _ _ _ _ _ _ (c.in-Name.is ∙ ap (λ q. ex.Name c.in-Name.line q) (sym c.as_slice.ensures)) (node_name _ _
    _ _) c.named.ensures

pub expressions::expression-returns-in-Number : goal.expressions::expression-returns-in-Number
expressions::expression-returns-in-Number t c =
    node_as _ _ _ _ _ _ _ (c.in-Number.is) (node_number _ _ _ _) (lifted _ _ _ c.number_leaf.ensures)

pub expressions::expression-returns-in-Character : goal.expressions::expression-returns-in-Character
expressions::expression-returns-in-Character t c =
    node_as _ _ _ _ _ _ _ (c.in-Character.is) (node_character _ _ _) (lifted _ _ _ c.character_leaf.ensures)

pub expressions::expression-returns-in-String : goal.expressions::expression-returns-in-String
expressions::expression-returns-in-String t c =
    node_as _ _ _ _ _ _ _ (c.in-String.is ∙ ap (λ q. ex.String q) (sym c.as_slice-in-String.ensures)) (node_string _ _
    _) c.string_leaf.ensures

pub expressions::expression-returns-in-Paren : goal.expressions::expression-returns-in-Paren
expressions::expression-returns-in-Paren t c =
    node_as _ _ _ _ _ _ _ (c.in-Paren.is ∙ ap (λ q. ex.Paren q) (sym c.get.ensures)) (node_paren _ _ _)
    c.expression.ensures

pub expressions::expression-returns-in-Compile : goal.expressions::expression-returns-in-Compile
expressions::expression-returns-in-Compile t c =
    node_as _ _ _ _ _ _ _ (c.in-Compile.is ∙ ap (λ q. ex.Compile c.in-Compile.line q c.in-Compile.t) (sym
    c.get-in-Compile.ensures) ∙ ap (λ q. ex.Compile c.in-Compile.line c.get-in-Compile.result.now q) (sym
    c.get-in-Compile-2.ensures)) (node_compile _ _ _ _ _) c.compile.ensures

pub expressions::expression-returns-in-Local : goal.expressions::expression-returns-in-Local
expressions::expression-returns-in-Local t c =
    node_as _ _ _ _ _ _ _ (c.in-Local.is ∙ ap (λ q. ex.Local c.in-Local.line q) (sym c.get-in-Local.ensures))
    (node_local _ _ _ _) c.named-in-Local.ensures

pub expressions::expression-returns-in-Param : goal.expressions::expression-returns-in-Param
expressions::expression-returns-in-Param t c =
    node_as _ _ _ _ _ _ _ (c.in-Param.is ∙ ap (λ q. ex.Param c.in-Param.line q c.in-Param.a) (sym
    c.get-in-Param.ensures) ∙ ap (λ q. ex.Param c.in-Param.line c.get-in-Param.result.now q) (sym
    c.get-in-Param-2.ensures)) (node_param _ _ _ _ _) c.typed.ensures

pub expressions::expression-returns-in-Index : goal.expressions::expression-returns-in-Index
expressions::expression-returns-in-Index t c =
    node_as _ _ _ _ _ _ _ (c.in-Index.is ∙ ap (λ q. ex.Index c.in-Index.line q) (sym c.get-in-Index.ensures))
    (node_index _ _ _ _) c.pair.ensures

pub expressions::expression-returns-in-Call : goal.expressions::expression-returns-in-Call
expressions::expression-returns-in-Call t c =
    node_as _ _ _ _ _ _ _ (c.in-Call.is ∙ ap (λ q. ex.Call c.in-Call.line q c.in-Call.list) (sym
    c.get-in-Call.ensures) ∙ ap (λ q. ex.Call c.in-Call.line c.get-in-Call.result.now q) (sym
    c.as_slice-in-Call.ensures)) (node_call _ _ _ _ _) c.call.ensures

pub expressions::expression-returns-in-Step : goal.expressions::expression-returns-in-Step
expressions::expression-returns-in-Step t c =
    node_as _ _ _ _ _ _ _ (c.in-Step.is ∙ ap (λ q. ex.Step c.in-Step.line c.in-Step.op q) (sym c.get-in-Step.ensures))
    (node_step _ _ _ _ _) c.post.ensures

pub expressions::expression-returns-in-Unary : goal.expressions::expression-returns-in-Unary
expressions::expression-returns-in-Unary t c =
    node_as _ _ _ _ _ _ _ (c.in-Unary.is ∙ ap (λ q. ex.Unary c.in-Unary.line c.in-Unary.op q) (sym
    c.get-in-Unary.ensures)) (node_unary _ _ _ _ _) c.unary.ensures

pub expressions::expression-returns-in-Tick : goal.expressions::expression-returns-in-Tick
expressions::expression-returns-in-Tick t c =
    node_as _ _ _ _ _ _ _ (c.in-Tick.is ∙ ap (λ q. ex.Tick c.in-Tick.line q) (sym c.get-in-Tick.ensures)) (node_tick _
    _ _ _) c.tick_expression.ensures

pub expressions::expression-returns-in-TickBlock : goal.expressions::expression-returns-in-TickBlock
expressions::expression-returns-in-TickBlock t c =
    node_as _ _ _ _ _ _ _ (c.in-TickBlock.is ∙ ap (λ q. ex.TickBlock c.in-TickBlock.line q) (sym
    c.as_slice-in-TickBlock.ensures)) (node_tickblock _ _ _ _) c.tick_block.ensures

pub expressions::expression-returns-in-Cast : goal.expressions::expression-returns-in-Cast
expressions::expression-returns-in-Cast t c =
    node_as _ _ _ _ _ _ _ (c.in-Cast.is ∙ ap (λ q. ex.Cast c.in-Cast.line q c.in-Cast.a) (sym c.get-in-Cast.ensures) ∙
    ap (λ q. ex.Cast c.in-Cast.line c.get-in-Cast.result.now q) (sym c.get-in-Cast-2.ensures)) (node_cast _ _ _ _ _)
    c.typed-in-Cast.ensures

pub expressions::expression-returns-in-Sizeof : goal.expressions::expression-returns-in-Sizeof
expressions::expression-returns-in-Sizeof t c =
    node_as _ _ _ _ _ _ _ (c.in-Sizeof.is ∙ ap (λ q. ex.Sizeof c.in-Sizeof.line q) (sym c.get-in-Sizeof.ensures))
    (node_sizeof _ _ _ _) c.named-in-Sizeof.ensures

pub expressions::expression-returns-in-Binary : goal.expressions::expression-returns-in-Binary
expressions::expression-returns-in-Binary t c =
    node_as _ _ _ _ _ _ _ (c.in-Binary.is ∙ ap (λ q. ex.Binary c.in-Binary.line c.in-Binary.op q) (sym
    c.get-in-Binary.ensures)) (node_binary _ _ _ _ _) c.pair-in-Binary.ensures

pub expressions::expression-returns-in-Choice : goal.expressions::expression-returns-in-Choice
expressions::expression-returns-in-Choice t c =
    node_as _ _ _ _ _ _ _ (c.in-Choice.is ∙ ap (λ q. ex.Choice c.in-Choice.line q c.in-Choice.a c.in-Choice.b) (sym
    c.get-in-Choice.ensures) ∙ ap (λ q. ex.Choice c.in-Choice.line c.get-in-Choice.result.now q c.in-Choice.b) (sym
    c.get-in-Choice-2.ensures) ∙ ap (λ q. ex.Choice c.in-Choice.line c.get-in-Choice.result.now
    c.get-in-Choice-2.result.now q) (sym c.get-in-Choice-3.ensures)) (node_choice _ _ _ _ _ _) c.choice.ensures

pub expressions::expression-returns-in-Assign : goal.expressions::expression-returns-in-Assign
expressions::expression-returns-in-Assign t c =
    node_as _ _ _ _ _ _ _ (c.in-Assign.is ∙ ap (λ q. ex.Assign c.in-Assign.line q) (sym c.get-in-Assign.ensures))
    (node_assign _ _ _ _) c.pair-in-Assign.ensures

pub expressions::expression-returns-in-Modify : goal.expressions::expression-returns-in-Modify
expressions::expression-returns-in-Modify t c =
    node_as _ _ _ _ _ _ _ (c.in-Modify.is ∙ ap (λ q. ex.Modify c.in-Modify.line c.in-Modify.op q) (sym
    c.get-in-Modify.ensures)) (node_modify _ _ _ _ _) c.pair-in-Modify.ensures

pub expressions::expression-returns-in-Comma : goal.expressions::expression-returns-in-Comma
expressions::expression-returns-in-Comma t c =
    node_as _ _ _ _ _ _ _ (c.in-Comma.is ∙ ap (λ q. ex.Comma c.in-Comma.line q) (sym c.get-in-Comma.ensures))
    (node_comma _ _ _ _) c.pair-in-Comma.ensures

pub expressions::named-returns-in_err-naming_entry : goal.expressions::named-returns-in_err-naming_entry
expressions::named-returns-in_err-naming_entry t c =
    broken _ _ _ c.args.state.now c.from_residual.ensures.1 (stops _ _ _ _ (lift_fails _ _ _
    c.in_err-naming_entry.ensures))

pub expressions::named-returns-in_err-t : goal.expressions::named-returns-in_err-t
expressions::named-returns-in_err-t t c =
    broken _ _ _ _ c.from_residual-in_err-t.ensures.1 (past _ _ _ _ _ (lift_done _ _ _ c.in_ok-naming_entry.ensures)
    (stops _ _ _ _ c.in_err-t.ensures))

pub expressions::named-returns : goal.expressions::named-returns
expressions::named-returns t c =
    goes _ _ _ _ _ (lift_done _ _ _ c.in_ok-naming_entry.ensures) (goes _ _ _ _ _ c.in_ok-t.ensures (lifted _ _ _
    c.naming_node.ensures))

pub expressions::pair-returns-in-Ok-expression : goal.expressions::pair-returns-in-Ok-expression
expressions::pair-returns-in-Ok-expression t c =
    goes _ _ _ _ _ (onward _ _ _ _ c.in-Ok.ensures (onward _ _ _ _ c.in-Ok-expression.ensures refl)) (lifted _ _ _
    c.pair_node.ensures)

pub expressions::pair-returns-in-Err-expression : goal.expressions::pair-returns-in-Err-expression
expressions::pair-returns-in-Err-expression t c =
    stops _ _ _ _ (past _ _ _ _ _ c.in-Ok.ensures (stops _ _ _ _ c.in-Err-expression.ensures))

pub expressions::pair-returns-in-Err : goal.expressions::pair-returns-in-Err
expressions::pair-returns-in-Err t c =
    stops _ _ _ _ (stops _ _ _ _ c.in-Err.ensures)

pub expressions::plain_call-returns-in_err-o : goal.expressions::plain_call-returns-in_err-o
expressions::plain_call-returns-in_err-o t c =
    broken _ _ _ _ c.from_residual.ensures.1 (stops _ _ _ _ c.in_err-o.ensures)

pub expressions::plain_call-returns-in-Ok : goal.expressions::plain_call-returns-in-Ok
expressions::plain_call-returns-in-Ok t c =
    goes _ _ _ _ _ c.in_ok-o.ensures (goes _ _ _ _ _ c.in-Ok.ensures (lifted _ _ _ c.call_node.ensures))

pub expressions::plain_call-returns-in-Err : goal.expressions::plain_call-returns-in-Err
expressions::plain_call-returns-in-Err t c =
    past _ _ _ _ _ c.in_ok-o.ensures (stops _ _ _ _ c.in-Err.ensures)

pub expressions::post-returns-in_err-o : goal.expressions::post-returns-in_err-o
expressions::post-returns-in_err-o t c =
    broken _ _ _ _ c.from_residual.ensures.1 (stops _ _ _ _ c.in_err-o.ensures)

pub expressions::post-returns : goal.expressions::post-returns
expressions::post-returns t c =
    goes _ _ _ _ _ c.in_ok-o.ensures (lifted _ _ _ c.post_node.ensures)

pub expressions::tick_block-returns-in_err-tick_entry : goal.expressions::tick_block-returns-in_err-tick_entry
expressions::tick_block-returns-in_err-tick_entry t c =
    broken _ _ _ c.args.state.now c.from_residual.ensures.1 (stops _ _ _ _ (lift_fails _ _ _
    c.in_err-tick_entry.ensures))

pub expressions::tick_expression-returns-in_err-tick_entry : goal.expressions::tick_expression-returns-in_err-tick_entry
expressions::tick_expression-returns-in_err-tick_entry t c =
    broken _ _ _ c.args.state.now c.from_residual.ensures.1 (stops _ _ _ _ (lift_fails _ _ _
    c.in_err-tick_entry.ensures))

pub expressions::typed-returns-in_err-typing_entry : goal.expressions::typed-returns-in_err-typing_entry
expressions::typed-returns-in_err-typing_entry t c =
    broken _ _ _ c.args.state.now c.from_residual.ensures.1 (stops _ _ _ _ (lift_fails _ _ _
    c.in_err-typing_entry.ensures))

pub expressions::typed-returns-in_err-t : goal.expressions::typed-returns-in_err-t
expressions::typed-returns-in_err-t t c =
    broken _ _ _ _ c.from_residual-in_err-t.ensures.1 (past _ _ _ _ _ (lift_done _ _ _ c.in_ok-typing_entry.ensures)
    (stops _ _ _ _ c.in_err-t.ensures))

pub expressions::typed-returns-in_err-o : goal.expressions::typed-returns-in_err-o
expressions::typed-returns-in_err-o t c =
    broken _ _ _ _ c.from_residual-in_err-o.ensures.1 (past _ _ _ _ _ (lift_done _ _ _ c.in_ok-typing_entry.ensures)
    (past _ _ _ _ _ c.in_ok-t.ensures (stops _ _ _ _ c.in_err-o.ensures)))

pub expressions::typed-returns : goal.expressions::typed-returns
expressions::typed-returns t c =
    goes _ _ _ _ _ (lift_done _ _ _ c.in_ok-typing_entry.ensures) (goes _ _ _ _ _ c.in_ok-t.ensures (goes _ _ _ _ _
    c.in_ok-o.ensures (lifted _ _ _ c.typing_node.ensures)))

pub expressions::unary-returns-in_err-inner : goal.expressions::unary-returns-in_err-inner
expressions::unary-returns-in_err-inner t c =
    broken _ _ _ c.args.state.now c.from_residual.ensures.1 (stops _ _ _ _ (lift_fails _ _ _ c.in_err-inner.ensures))

pub expressions::unary-returns-in_err-o : goal.expressions::unary-returns-in_err-o
expressions::unary-returns-in_err-o t c =
    broken _ _ _ _ c.from_residual-in_err-o.ensures.1 (past _ _ _ _ _ (lift_done _ _ _ c.in_ok-inner.ensures) (stops _
    _ _ _ c.in_err-o.ensures))

pub expressions::unary-returns : goal.expressions::unary-returns
expressions::unary-returns t c =
    goes _ _ _ _ _ (lift_done _ _ _ c.in_ok-inner.ensures) (goes _ _ _ _ _ c.in_ok-o.ensures c.unary_node.ensures)

-- ---- statements

pub statements::block-returns-in_err-outer : goal.statements::block-returns-in_err-outer
statements::block-returns-in_err-outer t c =
    broken _ _ _ _ c.from_residual.ensures.1 (stops _ _ _ _ c.in_err-outer.ensures)

pub statements::block-returns-in-Err : goal.statements::block-returns-in-Err
statements::block-returns-in-Err t c =
    past _ _ _ _ _ c.in_ok-outer.ensures (stops _ _ _ _ c.in-Err.ensures)

pub statements::block-returns-in_ok-new-in-Ok-leave : goal.statements::block-returns-in_ok-new-in-Ok-leave
statements::block-returns-in_ok-new-in-Ok-leave t c =
    onward _ _ _ _ c.in_ok-outer.ensures (onward _ _ _ _ c.in-Ok.ensures (ends _ _ _ _ _ _ (ap (λ n. blocks.leave n
    c.in_ok-outer.outer c.items.new.state) (sym c.depth-depth.ensures.value) ∙ c.in-Ok-leave.ensures) refl
    c.in_ok-new-in-Ok-leave.ensures))

pub statements::block-returns-in-Err-leave : goal.statements::block-returns-in-Err-leave
statements::block-returns-in-Err-leave t c =
    past _ _ _ _ _ c.in_ok-outer.ensures (past _ _ _ _ _ c.in-Ok.ensures (stops _ _ _ _ (fails_as _ _ _ _ (ap (λ n.
    blocks.leave n c.in_ok-outer.outer c.items.new.state) (sym c.depth-depth.ensures.value)) c.in-Err-leave.ensures)))

pub statements::body_of-returns-in_err-nodes-in_default : goal.statements::body_of-returns-in_err-nodes-in_default
statements::body_of-returns-in_err-nodes-in_default t c =
    broken _ _ _ _ c.from_residual.ensures.1 (stops _ _ _ _ c.in_err-nodes-in_default.ensures)

pub statements::body_of-returns-in_ok-body-in_default : goal.statements::body_of-returns-in_ok-body-in_default
statements::body_of-returns-in_ok-body-in_default t c =
    ends _ _ _ _ _ _ c.in_ok-nodes-in_default.ensures refl c.in_ok-body-in_default.ensures

pub statements::branches-returns-in_err-o : goal.statements::branches-returns-in_err-o
statements::branches-returns-in_err-o t c =
    broken _ _ _ _ c.from_residual.ensures.1 (stops _ _ _ _ c.in_err-o.ensures)

pub statements::branches-returns-in-Err : goal.statements::branches-returns-in-Err
statements::branches-returns-in-Err t c =
    past _ _ _ _ _ c.in_ok-o.ensures (stops _ _ _ _ (stops _ _ _ _ (fails_as _ _ _ _ (ap (λ z. statements.body
    (walks.item c.args.a.now) z c.expression.new.state) (sym c.inside.ensures)) c.in-Err.ensures)))

pub statements::branches-returns-in-Ok-body_of : goal.statements::branches-returns-in-Ok-body_of
statements::branches-returns-in-Ok-body_of t c =
    goes _ _ _ _ _ c.in_ok-o.ensures (goes _ _ _ _ _ (onward _ _ _ _ (ap (λ z. statements.body (walks.item
    c.args.a.now) z c.expression.new.state) (sym c.inside.ensures) ∙ c.in-Ok.ensures) (onward _ _ _ _ (ap (λ z.
    statements.body (walks.item c.args.b.now) z c.body_of.new.state) (sym c.inside-2.ensures) ∙
    c.in-Ok-body_of.ensures) refl)) (lifted _ _ _ c.if_else_node.ensures))

pub statements::branches-returns-in-Err-body_of : goal.statements::branches-returns-in-Err-body_of
statements::branches-returns-in-Err-body_of t c =
    past _ _ _ _ _ c.in_ok-o.ensures (stops _ _ _ _ (past _ _ _ _ _ (ap (λ z. statements.body (walks.item
    c.args.a.now) z c.expression.new.state) (sym c.inside.ensures) ∙ c.in-Ok.ensures) (stops _ _ _ _ (fails_as _ _ _ _
    (ap (λ z. statements.body (walks.item c.args.b.now) z c.body_of.new.state) (sym c.inside-2.ensures))
    c.in-Err-body_of.ensures))))

pub statements::done_first-returns-in_err-x : goal.statements::done_first-returns-in_err-x
statements::done_first-returns-in_err-x t c =
    broken _ _ _ _ c.from_residual.ensures.1 (stops _ _ _ _ (fails_as _ _ _ _ (ap (λ z. statements.body (walks.item
    c.args.a.now) z c.args.state.now) (sym c.looped.ensures)) c.in_err-x.ensures))

pub statements::done_first-returns-in-Ok : goal.statements::done_first-returns-in-Ok
statements::done_first-returns-in-Ok t c =
    goes _ _ _ _ _ (ap (λ z. statements.body (walks.item c.args.a.now) z c.args.state.now) (sym c.looped.ensures) ∙
    c.in_ok-x.ensures) (goes _ _ _ _ _ c.in-Ok.ensures (lifted _ _ _ c.do_node.ensures))

pub statements::done_first-returns-in-Err : goal.statements::done_first-returns-in-Err
statements::done_first-returns-in-Err t c =
    past _ _ _ _ _ (ap (λ z. statements.body (walks.item c.args.a.now) z c.args.state.now) (sym c.looped.ensures) ∙
    c.in_ok-x.ensures) (stops _ _ _ _ c.in-Err.ensures)

pub statements::for_block-returns-in_err-outer : goal.statements::for_block-returns-in_err-outer
statements::for_block-returns-in_err-outer t c =
    broken _ _ _ _ c.from_residual.ensures.1 (stops _ _ _ _ c.in_err-outer.ensures)

pub statements::for_block-returns-in-Err : goal.statements::for_block-returns-in-Err
statements::for_block-returns-in-Err t c =
    past _ _ _ _ _ c.in_ok-outer.ensures (stops _ _ _ _ (stops _ _ _ _ (fails_as _ _ _ _ (ap (λ z. (walks.item
    c.args.first.now).walk z c.enter.new.state) (sym c.inside.ensures)) c.in-Err.ensures)))

pub statements::for_block-returns-in_ok-one-in-Ok-leave : goal.statements::for_block-returns-in_ok-one-in-Ok-leave
statements::for_block-returns-in_ok-one-in-Ok-leave t c =
    onward _ _ _ _ c.in_ok-outer.ensures (onward _ _ _ _ (onward _ _ _ _ (ap (λ z. (walks.item c.args.first.now).walk
    z c.enter.new.state) (sym c.inside.ensures) ∙ c.in-Ok.ensures) (ends _ _ _ _ _ _ c.in-Ok-for_rest.ensures refl
    c.in-Ok-pushed.ensures)) (ends _ _ _ _ _ _ (ap (λ n. blocks.leave n c.in_ok-outer.outer c.for_rest.new.state) (sym
    c.depth-depth.ensures.value) ∙ c.in-Ok-leave.ensures) refl c.in_ok-one-in-Ok-leave.ensures))

pub statements::for_block-returns-in-Err-leave : goal.statements::for_block-returns-in-Err-leave
statements::for_block-returns-in-Err-leave t c =
    past _ _ _ _ _ c.in_ok-outer.ensures (past _ _ _ _ _ (onward _ _ _ _ (ap (λ z. (walks.item c.args.first.now).walk
    z c.enter.new.state) (sym c.inside.ensures) ∙ c.in-Ok.ensures) (ends _ _ _ _ _ _ c.in-Ok-for_rest.ensures refl
    c.in-Ok-pushed.ensures)) (stops _ _ _ _ (fails_as _ _ _ _ (ap (λ n. blocks.leave n c.in_ok-outer.outer
    c.for_rest.new.state) (sym c.depth-depth.ensures.value)) c.in-Err-leave.ensures)))

pub statements::for_block-returns-in-Err-for_rest : goal.statements::for_block-returns-in-Err-for_rest
statements::for_block-returns-in-Err-for_rest t c =
    past _ _ _ _ _ c.in_ok-outer.ensures (stops _ _ _ _ (past _ _ _ _ _ (ap (λ z. (walks.item c.args.first.now).walk z
    c.enter.new.state) (sym c.inside.ensures) ∙ c.in-Ok.ensures) (stops _ _ _ _ c.in-Err-for_rest.ensures)))

pub statements::for_rest-returns-in_err-test : goal.statements::for_rest-returns-in_err-test
statements::for_rest-returns-in_err-test t c =
    broken _ _ _ _ c.from_residual.ensures.1 (stops _ _ _ _ (stops _ _ _ _ c.in_err-test.ensures))

pub statements::for_rest-returns-in-Err : goal.statements::for_rest-returns-in-Err
statements::for_rest-returns-in-Err t c =
    stops _ _ _ _ (past _ _ _ _ _ c.in_ok-test.ensures (stops _ _ _ _ c.in-Err.ensures))

pub statements::for_rest-returns-in-Ok-body_of : goal.statements::for_rest-returns-in-Ok-body_of
statements::for_rest-returns-in-Ok-body_of t c =
    goes _ _ _ _ _ (onward _ _ _ _ c.in_ok-test.ensures (onward _ _ _ _ c.in-Ok.ensures refl)) (goes _ _ _ _ _ (ap (λ
    z. statements.body (walks.item c.args.a.now) z c.optional-2.new.state) (sym c.looped.ensures) ∙
    c.in-Ok-body_of.ensures) (lifted _ _ _ c.for_node.ensures))

pub statements::for_rest-returns-in-Err-body_of : goal.statements::for_rest-returns-in-Err-body_of
statements::for_rest-returns-in-Err-body_of t c =
    past _ _ _ _ _ (onward _ _ _ _ c.in_ok-test.ensures (onward _ _ _ _ c.in-Ok.ensures refl)) (stops _ _ _ _
    (fails_as _ _ _ _ (ap (λ z. statements.body (walks.item c.args.a.now) z c.optional-2.new.state) (sym
    c.looped.ensures)) c.in-Err-body_of.ensures))

pub statements::item_behind-returns-in_ok-appended-in-Ok-statement :
    goal.statements::item_behind-returns-in_ok-appended-in-Ok-statement
statements::item_behind-returns-in_ok-appended-in-Ok-statement t c =
    ends _ _ _ _ _ _ c.in-Ok-statement.ensures refl c.in_ok-appended-in-Ok-statement.ensures

pub statements::item_behind-returns-in-Err-statement : goal.statements::item_behind-returns-in-Err-statement
statements::item_behind-returns-in-Err-statement t c =
    stops _ _ _ _ c.in-Err-statement.ensures

pub statements::statement-returns-in-Empty : goal.statements::statement-returns-in-Empty
statements::statement-returns-in-Empty t c =
    item_as _ _ _ _ _ _ _ (c.in-Empty.is) (item_empty _ _) (lifted _ _ _ c.empty_node.ensures)

pub statements::statement-returns-in-Local : goal.statements::statement-returns-in-Local
statements::statement-returns-in-Local t c =
    item_as _ _ _ _ _ _ _ c.in-Local.is (item_local _ _ _ ∙ by_declaration _ _ _ ∙ ap (λ q. walks.declare_each
    (out-Declaration c.in-Local.d).line (out-Declaration c.in-Local.d).base c.args.around.stage (map walks.init q)
    c.args.state.now) (sym c.as_slice-in-Local.ensures)) c.locals.ensures

pub statements::statement-returns-in-If : goal.statements::statement-returns-in-If
statements::statement-returns-in-If t c =
    item_as _ _ _ _ _ _ _ (c.in-If.is ∙ ap (λ q. st.If c.in-If.line c.in-If.c q) (sym c.get.ensures)) (item_if _ _ _ _
    _) c.tested.ensures

pub statements::statement-returns-in-IfElse : goal.statements::statement-returns-in-IfElse
statements::statement-returns-in-IfElse t c =
    item_as _ _ _ _ _ _ _ (c.in-IfElse.is ∙ ap (λ q. st.IfElse c.in-IfElse.line c.in-IfElse.c q c.in-IfElse.b) (sym
    c.get-in-IfElse.ensures) ∙ ap (λ q. st.IfElse c.in-IfElse.line c.in-IfElse.c c.get-in-IfElse.result.now q) (sym
    c.get-in-IfElse-2.ensures)) (item_ifelse _ _ _ _ _ _) c.branches.ensures

pub statements::statement-returns-in-While : goal.statements::statement-returns-in-While
statements::statement-returns-in-While t c =
    item_as _ _ _ _ _ _ _ (c.in-While.is ∙ ap (λ q. st.While c.in-While.line c.in-While.c q) (sym
    c.get-in-While.ensures)) (item_while _ _ _ _ _) c.tested-in-While.ensures

pub statements::statement-returns-in-Do : goal.statements::statement-returns-in-Do
statements::statement-returns-in-Do t c =
    item_as _ _ _ _ _ _ _ (c.in-Do.is ∙ ap (λ q. st.Do c.in-Do.line q c.in-Do.c) (sym c.get-in-Do.ensures)) (item_do _
    _ _ _ _) c.done_first.ensures

pub statements::statement-returns-in-For : goal.statements::statement-returns-in-For
statements::statement-returns-in-For t c =
    item_as _ _ _ _ _ _ _ (c.in-For.is ∙ ap (λ q. st.For c.in-For.line q c.in-For.c c.in-For.s c.in-For.a) (sym
    c.get-in-For.ensures) ∙ ap (λ q. st.For c.in-For.line c.get-in-For.result.now c.in-For.c c.in-For.s q) (sym
    c.get-in-For-2.ensures)) (item_for _ _ _ _ _ _ _) c.for_all.ensures

pub statements::statement-returns-in-Switch : goal.statements::statement-returns-in-Switch
statements::statement-returns-in-Switch t c =
    item_as _ _ _ _ _ _ _ (c.in-Switch.is ∙ ap (λ q. st.Switch c.in-Switch.line c.in-Switch.e q) (sym
    c.as_slice-in-Switch.ensures)) (item_switch _ _ _ _ _) c.switch.ensures

pub statements::statement-returns-in-Case : goal.statements::statement-returns-in-Case
statements::statement-returns-in-Case t c =
    item_as _ _ _ _ _ _ _ (c.in-Case.is) (item_case _ _ _ _) c.case.ensures

pub statements::statement-returns-in-Default : goal.statements::statement-returns-in-Default
statements::statement-returns-in-Default t c =
    item_as _ _ _ _ _ _ _ (c.in-Default.is) (item_default _ _ _) c.default_node.ensures

pub statements::statement-returns-in-Break : goal.statements::statement-returns-in-Break
statements::statement-returns-in-Break t c =
    item_as _ _ _ _ _ _ _ (c.in-Break.is) (item_break _ _ _) (lifted _ _ _ c.break_entry.ensures)

pub statements::statement-returns-in-Continue : goal.statements::statement-returns-in-Continue
statements::statement-returns-in-Continue t c =
    item_as _ _ _ _ _ _ _ (c.in-Continue.is) (item_continue _ _ _) (lifted _ _ _ c.continue_entry.ensures)

pub statements::statement-returns-in-Return : goal.statements::statement-returns-in-Return
statements::statement-returns-in-Return t c =
    item_as _ _ _ _ _ _ _ (c.in-Return.is) (item_return _ _ _ _) c.returned.ensures

pub statements::statement-returns-in_err-o-in-Expr : goal.statements::statement-returns-in_err-o-in-Expr
statements::statement-returns-in_err-o-in-Expr t c =
    broken _ _ _ _ c.from_residual.ensures.1 (fails_as _ _ _ _ (ap (λ q. (walks.item q).walk c.args.around
    c.args.state.now) c.in-Expr.is ∙ item_expr _ _ _) (stops _ _ _ _ c.in_err-o-in-Expr.ensures))

pub statements::statement-returns-in_ok-alone-in-Expr : goal.statements::statement-returns-in_ok-alone-in-Expr
statements::statement-returns-in_ok-alone-in-Expr t c =
    ap (λ q. (walks.item q).walk c.args.around c.args.state.now) c.in-Expr.is ∙ item_expr _ _ _ ∙ ends _ _ _ _ _ _
    c.in_ok-o-in-Expr.ensures refl c.in_ok-alone-in-Expr.ensures

pub statements::statement-returns-in_err-node-in-Block : goal.statements::statement-returns-in_err-node-in-Block
statements::statement-returns-in_err-node-in-Block t c =
    broken _ _ _ _ c.from_residual-in_err-node-in-Block.ensures.1 (fails_as _ _ _ _ (ap (λ q. (walks.item q).walk
    c.args.around c.args.state.now) (c.in-Block.is ∙ ap st.Block (sym c.as_slice.ensures)) ∙ item_block _ _ _) (stops
    _ _ _ _ (fails_as _ _ _ _ (ap (λ z. walks.block c.as_slice.result.now z c.args.state.now) (sym c.inside.ensures))
    c.in_err-node-in-Block.ensures)))

pub statements::statement-returns-in_ok-one-in-Block : goal.statements::statement-returns-in_ok-one-in-Block
statements::statement-returns-in_ok-one-in-Block t c =
    ap (λ q. (walks.item q).walk c.args.around c.args.state.now) (c.in-Block.is ∙ ap st.Block (sym
    c.as_slice.ensures)) ∙ item_block _ _ _ ∙ ends _ _ _ _ _ _ (ap (λ z. walks.block c.as_slice.result.now z
    c.args.state.now) (sym c.inside.ensures) ∙ c.in_ok-node-in-Block.ensures) refl (c.in_ok-one-in-Block.ensures ∙ ap
    trees.one c.into_inner.ensures)

pub statements::switch-returns-in_err-o : goal.statements::switch-returns-in_err-o
statements::switch-returns-in_err-o t c =
    broken _ _ _ _ c.from_residual.ensures.1 (stops _ _ _ _ c.in_err-o.ensures)

pub statements::switch-returns-in-Ok : goal.statements::switch-returns-in-Ok
statements::switch-returns-in-Ok t c =
    goes _ _ _ _ _ c.in_ok-o.ensures (goes _ _ _ _ _ c.in-Ok.ensures (lifted _ _ _ c.switch_node.ensures))

pub statements::switch-returns-in-Err : goal.statements::switch-returns-in-Err
statements::switch-returns-in-Err t c =
    past _ _ _ _ _ c.in_ok-o.ensures (stops _ _ _ _ c.in-Err.ensures)

pub statements::tested-returns-in_err-o : goal.statements::tested-returns-in_err-o
statements::tested-returns-in_err-o t c =
    broken _ _ _ _ c.from_residual.ensures.1 (stops _ _ _ _ c.in_err-o.ensures)

pub statements::tested-returns-in-Ok : goal.statements::tested-returns-in-Ok
statements::tested-returns-in-Ok t c =
    goes _ _ _ _ _ c.in_ok-o.ensures (goes _ _ _ _ _ (ap (λ z. statements.body (walks.item c.args.a.now) z
    c.expression.new.state) (sym c.tested_around.ensures) ∙ c.in-Ok.ensures) (lifted _ _ _ c.tested_node.ensures))

pub statements::tested-returns-in-Err : goal.statements::tested-returns-in-Err
statements::tested-returns-in-Err t c =
    past _ _ _ _ _ c.in_ok-o.ensures (stops _ _ _ _ (fails_as _ _ _ _ (ap (λ z. statements.body (walks.item
    c.args.a.now) z c.expression.new.state) (sym c.tested_around.ensures)) c.in-Err.ensures))

-- ---- types

pub types::declarator-returns-in_err-steps : goal.types::declarator-returns-in_err-steps
types::declarator-returns-in_err-steps t c =
    broken _ _ _ _ c.from_residual.ensures.1 (fails_as _ _ _ _ (shape_walk _ _ _) (stops _ _ _ _
    c.in_err-steps.ensures))

pub types::parameter-returns-in_err-steps : goal.types::parameter-returns-in_err-steps
types::parameter-returns-in_err-steps t c =
    broken _ _ _ _ c.from_residual.ensures.1 (fails_as _ _ _ _ (parameter_walk _ _ _) (stops _ _ _ _
    c.in_err-steps.ensures))

pub types::parameters-returns-in_err-outer : goal.types::parameters-returns-in_err-outer
types::parameters-returns-in_err-outer t c =
    broken _ _ _ _ c.from_residual.ensures.1 (stops _ _ _ _ c.in_err-outer.ensures)

pub types::parameters-returns-in-Err : goal.types::parameters-returns-in-Err
types::parameters-returns-in-Err t c =
    past _ _ _ _ _ c.in_ok-outer.ensures (stops _ _ _ _ c.in-Err.ensures)

pub types::parameters-returns-in-Ok-leave : goal.types::parameters-returns-in-Ok-leave
types::parameters-returns-in-Ok-leave t c =
    onward _ _ _ _ c.in_ok-outer.ensures (onward _ _ _ _ c.in-Ok.ensures (onward _ _ _ _ (ap (λ n. blocks.leave n
    c.in_ok-outer.outer c.each_parameter.new.state) (sym c.depth-depth.ensures.value) ∙ c.in-Ok-leave.ensures) refl))

pub types::parameters-returns-in-Err-leave : goal.types::parameters-returns-in-Err-leave
types::parameters-returns-in-Err-leave t c =
    past _ _ _ _ _ c.in_ok-outer.ensures (past _ _ _ _ _ c.in-Ok.ensures (stops _ _ _ _ (fails_as _ _ _ _ (ap (λ n.
    blocks.leave n c.in_ok-outer.outer c.each_parameter.new.state) (sym c.depth-depth.ensures.value))
    c.in-Err-leave.ensures)))

pub types::typename-returns-in_err-steps : goal.types::typename-returns-in_err-steps
types::typename-returns-in_err-steps t c =
    broken _ _ _ _ c.from_residual.ensures.1 (fails_as _ _ _ _ (named_walk _ _ _ _) (stops _ _ _ _
    c.in_err-steps.ensures))

pub declarations::begin-returns-in-Absent : goal.declarations::begin-returns-in-Absent
declarations::begin-returns-in-Absent t c = grind (arith, Equations.initializers, Written.forms_of)

pub declarations::begin-returns-in-List : goal.declarations::begin-returns-in-List
declarations::begin-returns-in-List t c = grind (arith, Equations.initializers, Written.forms_of)

pub declarations::elements-returns : goal.declarations::elements-returns
declarations::elements-returns t c = grind (arith, common_steps)

pub declarations::locals-returns : goal.declarations::locals-returns
declarations::locals-returns t c = grind (arith, common_steps)

pub expressions::arguments-returns : goal.expressions::arguments-returns
expressions::arguments-returns t c = grind (arith, common_steps)

pub expressions::optional-returns-in-Absent : goal.expressions::optional-returns-in-Absent
expressions::optional-returns-in-Absent t c = grind (arith, Equations.optionals)

pub statements::body_of-returns-in-Block : goal.statements::body_of-returns-in-Block
statements::body_of-returns-in-Block t c = grind (arith, Behind.body_block)

pub types::core-returns-in-Paren : goal.types::core-returns-in-Paren
types::core-returns-in-Paren t c = grind (arith, Equations.cores, get_or_read)

pub types::core-returns-in-Absent : goal.types::core-returns-in-Absent
types::core-returns-in-Absent t c = grind (arith, Equations.cores)

pub types::each_parameter-returns : goal.types::each_parameter-returns
types::each_parameter-returns t c = grind (arith, common_steps)

pub types::length-returns-in-Absent : goal.types::length-returns-in-Absent
types::length-returns-in-Absent t c = grind (arith, Equations.optionals, Written.forms_of)

pub types::suffix-returns-in-Array : goal.types::suffix-returns-in-Array
types::suffix-returns-in-Array t c = grind (arith, Equations.suffixes)

pub types::suffix-returns-in-Unlisted : goal.types::suffix-returns-in-Unlisted
types::suffix-returns-in-Unlisted t c = grind (arith, Equations.suffixes)

pub types::suffix-returns-in-Nothing : goal.types::suffix-returns-in-Nothing
types::suffix-returns-in-Nothing t c = grind (arith, Equations.suffixes)

pub types::suffix-returns-in-Listed : goal.types::suffix-returns-in-Listed
types::suffix-returns-in-Listed t c = grind (arith, Equations.suffixes)

pub types::suffixes-returns : goal.types::suffixes-returns
types::suffixes-returns t c = grind (arith, common_steps)

pub statements::items-returns : goal.statements::items-returns
statements::items-returns t c = grind (arith, common_steps)
