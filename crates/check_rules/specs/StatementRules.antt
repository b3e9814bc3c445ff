-- The walk over statements and declarations: what each is by the walks over its parts, in the order of the text. A test
-- is checked after all parts of its statement, and what is checked as a statement is entered comes before them. The
-- order is this project's own rule: it decides which fault is the first.
use Rattle.std.specs.Prelude.{ℕ, if◌then◌else◌, List, [], ◌∷◌, ◌++◌, Option, Some, None, Ok}
use Rattle.c_types.specs.declared.ctype.CType.{CType}
use Rattle.check_declarators.specs.declared.steps.Step.{Step}
use Rattle.check_declarators.specs.declared.steps.Step.TheVariants as step
use Rattle.check_declarators.specs.declared.steps.Length.TheVariants as len
use Rattle.tick_tree.specs.declared.syntax.Core.TheOpen.{Stmt-F, Suffix-F}
use Rattle.typed_tree.specs.declared.expression.Stmt.{Stmt}
use Rattle.typed_tree.specs.declared.expression.Stmt.TheVariants as st
use Rattle.check_operands.specs.declared.operand.Operand.{Operand}
use Rattle.check_rules.specs.declared.state.Around.{Around}
use Rattle.check_rules.specs.declared.state.Stage.{Stage}
use Rattle.check_rules.specs.declared.state.State.{State}
use Rattle.check_rules.specs.Blocks.{depth, enter, leave}
use Rattle.check_rules.specs.Walks.{Rule, ◌>>=◌, pure, lift}
use Rattle.check_rules.specs.ExpressionRules.{Node, Named, Shape, Item, each, block}
use Rattle.check_rules.specs.Declarations.{length_of}
use Rattle.check_rules.specs.Statements

-- ---- statements

-- the body of a statement
abbrev pub body : Item → Around → Rule State Stmt
body i a = i.walk a >>= (λ xs. pure (Statements.body xs))

abbrev pub optional : Option Node → Stage → Rule State (Option Operand)
optional None g = pure None
optional (Some e) g = e.walk g >>= (λ o. pure (Some o))

abbrev pub alone : Node → Around → Rule State (List Stmt)
alone e a = e.walk a.stage >>= (λ o. pure (Statements.alone o))

abbrev pub if_then : ℕ → Node → Item → Around → Rule State (List Stmt)
if_then line c i a = c.walk a.stage >>=
    (λ o. body i (Statements.inside a) >>= (λ x. lift (Statements.if_node line o x)))

abbrev pub bodies : Item → Item → Around → Rule State (Stmt × Stmt)
bodies i j a = body i a >>= (λ x. body j a >>= (λ y. pure (x, y)))

abbrev pub if_else : ℕ → Node → Item → Item → Around → Rule State (List Stmt)
if_else line c i j a = c.walk a.stage >>=
    (λ o. bodies i j (Statements.inside a) >>= (λ p. lift (Statements.if_else_node line o p.0 p.1)))

abbrev pub while_loop : ℕ → Node → Item → Around → Rule State (List Stmt)
while_loop line c i a = c.walk a.stage >>=
    (λ o. body i (Statements.looped a) >>= (λ x. lift (Statements.while_node line o x)))

abbrev pub do_loop : ℕ → Item → Node → Around → Rule State (List Stmt)
do_loop line i c a = body i (Statements.looped a) >>=
    (λ x. c.walk a.stage >>= (λ o. lift (Statements.do_node line x o)))

abbrev pub test_and_step : Option Node → Option Node → Around → Rule State (Option Operand × Option Operand)
test_and_step c s a = optional c a.stage >>= (λ o. optional s a.stage >>= (λ p. pure (o, p)))

-- a `for` behind its first part
abbrev pub for_rest : ℕ → Option Node → Option Node → Item → Around → Rule State Stmt
for_rest line c s i a = test_and_step c s a >>=
    (λ p. body i (Statements.looped a) >>= (λ x. lift (Statements.for_node line p.0 p.1 x)))

abbrev pub for_alone : ℕ → Option Node → Option Node → Item → Around → Rule State (List Stmt)
for_alone line c s i a = for_rest line c s i a >>= (λ x. pure (Statements.one x))

-- the first part and the rest
abbrev pub for_items : ℕ → Item → Option Node → Option Node → Item → Around → Rule State (List Stmt)
for_items line first c s i a =
    first.walk (Statements.inside a) >>= (λ xs. for_rest line c s i a >>= (λ x. pure (xs ++ x ∷ [])))

-- with a first part, a block of it and the rest
abbrev pub for_block : ℕ → Item → Option Node → Option Node → Item → Around → Rule State (List Stmt)
for_block line first c s i a =
    depth >>= (λ n. enter >>=
    (λ outer. for_items line first c s i a >>=
    (λ xs. leave n outer >>= (λ vs. pure (Statements.one (st.Block vs xs))))))

abbrev pub for_loop : ℕ → Item → Option Node → Option Node → Item → Around → Rule State (List Stmt)
for_loop line first c s i a = if first.is_empty then for_alone line c s i a else for_block line first c s i a

-- the variables and the items of a switch's block
abbrev pub switch_block : List Item → Around → Rule State (List Stmt × List Stmt)
switch_block items a = depth >>=
    (λ n. enter >>= (λ outer. each items (Statements.switched a) >>= (λ xs. leave n outer >>= (λ vs. pure (vs, xs)))))

-- with labels of its own
abbrev pub labelled_block : List Item → Around → Rule State (List Stmt × List Stmt)
labelled_block items a = Statements.switch_entered >>=
    (λ outer. switch_block items a >>= (λ p s. Ok (p, Statements.with_labels outer s)))

abbrev pub switch : ℕ → Node → List Item → Around → Rule State (List Stmt)
switch line e items a = e.walk a.stage >>=
    (λ o. labelled_block items a >>= (λ p. lift (Statements.switch_node line o p.0 p.1)))

abbrev pub case : ℕ → Node → Around → Rule State (List Stmt)
case line e a = lift (Statements.case_entry line e.written.constant a) >>=
    (λ u. e.walk a.stage >>= (λ o. Statements.case_node line o))

abbrev pub answered : ℕ → Node → Around → Rule State (List Stmt)
answered line e a = e.walk a.stage >>= (λ o s. lift (Statements.return_node line a.stage o s) s)

abbrev pub returning : ℕ → Option Node → Around → Rule State (List Stmt)
returning line None a = pure (Statements.one st.Return)
returning line (Some e) a = answered line e a

-- a `;` alone
abbrev pub empty : List Stmt
empty = Statements.one (st.Block [] [])

abbrev pub block_alone : List Item → Around → Rule State (List Stmt)
block_alone items a = block items (Statements.inside a) >>= (λ x. pure (Statements.one x))

-- the walk over a statement; `declaration` is that over a declaration in a block
abbrev pub stmt_walk : {I S D N P : Type 0} → (D → Stage → Rule State (List Stmt)) →
    Stmt-F Shape Node I (Option Node) Item S D Shape N P Named → Around → Rule State (List Stmt)
stmt_walk declaration Stmt-F.Empty a = pure empty
stmt_walk declaration (Stmt-F.Expr e) a = alone e a
stmt_walk declaration (Stmt-F.Block items) a = block_alone items a
stmt_walk declaration (Stmt-F.Stmt::Local d) a = declaration d a.stage
stmt_walk declaration (Stmt-F.If line c i) a = if_then line c i a
stmt_walk declaration (Stmt-F.IfElse line c i j) a = if_else line c i j a
stmt_walk declaration (Stmt-F.While line c i) a = while_loop line c i a
stmt_walk declaration (Stmt-F.Do line i c) a = do_loop line i c a
stmt_walk declaration (Stmt-F.For line first c s i) a = for_loop line first c s i a
stmt_walk declaration (Stmt-F.Switch line e items) a = switch line e items a
stmt_walk declaration (Stmt-F.Case line e) a = case line e a
stmt_walk declaration (Stmt-F.Default line) a = Statements.default_node line a
stmt_walk declaration (Stmt-F.Break line) a = lift (Statements.break_entry line a)
stmt_walk declaration (Stmt-F.Continue line) a = lift (Statements.continue_entry line a)
stmt_walk declaration (Stmt-F.Return line e) a = returning line e a

-- ---- types

abbrev pub computed_step : Node → Stage → Rule State Step
computed_step e g = e.walk g >>= (λ o. pure (step.Array (length_of e.written.constant o)))

abbrev pub length_step : Option Node → Stage → Rule State Step
length_step None g = pure (step.Array len.Absent)
length_step (Some e) g = computed_step e g

-- the types of parameters, whose names are in the scope of their list
abbrev pub each_type : List (Stage → Rule State CType) → Stage → Rule State (List CType)
each_type [] g = pure []
each_type (p ∷ ps) g = p g >>= (λ t. each_type ps g >>= (λ ts. pure (t ∷ ts)))

abbrev pub list_step : List (Stage → Rule State CType) → Stage → Rule State Step
list_step ps g = depth >>=
    (λ n. enter >>= (λ outer. each_type ps g >>= (λ ts. leave n outer >>= (λ vs. pure (step.Function ts)))))

abbrev pub suffix_rule : {I D N : Type 0} →
    Suffix-F Shape Node I (Option Node) Item (Stage → Rule State Step) D Shape N (Stage → Rule State CType) Named →
    Stage → Rule State Step
suffix_rule (Suffix-F.Array e) g = length_step e g
suffix_rule Suffix-F.Unlisted g = pure step.Unlisted
suffix_rule Suffix-F.Nothing g = pure (step.Function [])
suffix_rule (Suffix-F.Listed ps) g = list_step ps g

abbrev pub each_step : List (Stage → Rule State Step) → List Step → Stage → Rule State (List Step)
each_step [] ss g = pure ss
each_step (r ∷ rs) ss g = r g >>= (λ s. each_step rs (ss ++ s ∷ []) g)
