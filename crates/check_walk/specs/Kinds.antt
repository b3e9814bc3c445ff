-- Productions that have the same parts: each is its entry, the walk over its parts, and its node. These are the rules
-- of `check_rules`, put together by their parts.
use Rattle.std.specs.Prelude.{ℕ, List, ◌++◌}
use Rattle.check_operands.specs.declared.operand.Operand.{Operand}
use Rattle.check_rules.specs.declared.state.Around.{Around}
use Rattle.check_rules.specs.declared.state.Stage.{Stage}
use Rattle.check_rules.specs.declared.state.State.{State}
use Rattle.check_rules.specs.ExpressionRules.{Node, Named, Item, both}
use Rattle.check_rules.specs.StatementRules.{body}
use Rattle.check_rules.specs.Walks.{Rule, ◌>>=◌, pure, lift}
use Rattle.check_expressions.specs.Pairs.{pair_node}
use Rattle.check_expressions.specs.declared.pairs.Pair.{Pair}
use Rattle.check_expressions.specs.Named.{naming_entry, naming_node, typing_entry, typing_node}
use Rattle.check_expressions.specs.declared.named.Naming.{Naming}
use Rattle.check_expressions.specs.declared.named.Typing.{Typing}
use Rattle.check_statements.specs.Tested.{tested_around, tested_node}
use Rattle.check_statements.specs.declared.tested.Tested.{Tested}
use Rattle.typed_tree.specs.declared.expression.Stmt.{Stmt}

-- two operands
abbrev pub pair : ℕ → Pair → Node → Node → Stage → Rule State Operand
pair line k a b g = both a b g >>= (λ p. lift (pair_node line k g p.0 p.1))

-- a type name
abbrev pub named : ℕ → Naming → Named → Stage → Rule State Operand
named line k t g = lift (naming_entry line k g) >>= (λ u. t.walk line g >>= (λ ty. lift (naming_node line k ty)))

-- a type name, and an operand
abbrev pub typed : ℕ → Typing → Named → Node → Stage → Rule State Operand
typed line k t a g = lift (typing_entry line k g) >>=
    (λ u. t.walk line g >>= (λ ty. a.walk g >>= (λ o. lift (typing_node line k ty o))))

-- a test and a body
abbrev pub tested : ℕ → Tested → Node → Item → Around → Rule State (List Stmt)
tested line k c i a =
    c.walk a.stage >>= (λ o. body i (tested_around k a) >>= (λ x. lift (tested_node line k o x)))

-- the nodes, and those of this item of a block behind them
abbrev pub item_behind : List Stmt → Item → Around → Rule State (List Stmt)
item_behind nodes i a = i.walk a >>= (λ found. pure (nodes ++ found))
