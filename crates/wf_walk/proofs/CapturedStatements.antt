-- The walk over each statement of a tick's block, and over each declaration: its nodes name what was captured.
use Rattle.std.proofs.Common.{◌≡◌, ℕ, Bool, true, false, ◌&&◌, ◌||◌, if◌then◌else◌, List, [], ◌∷◌, ◌++◌, length}
use Rattle.std.proofs.Common.{refl}
use Rattle.std.proofs.Common.{ap, sym, ◌∙◌, subst, Option, Some, None, Ok, Err, arith}
use Rattle.std.specs.Prelude.{is_some}
use Rattle.c_types.specs.declared.ctype.CType.{CType}
use Rattle.check_scopes.specs.declared.names.MeaningKind.TheVariants as kind
use Rattle.check_scopes.specs.Scopes.{Name}
use Rattle.check_types.specs.Shapes.{inner}
use Rattle.check_declarators.specs.declared.steps.Step.{Step}
use Rattle.check_declarators.specs.Words as words
use Rattle.tick_tree.specs.declared.base.Base.{Base}
use Rattle.tick_tree.specs.declared.fault.FaultKind.{FaultKind}
use Rattle.tick_tree.specs.declared.fault.FaultKind.TheVariants as fault
use Rattle.tick_tree.specs.Faults.{Checked, refuse, ◌>>=◌ as ◌>>>=◌}
use Rattle.tick_tree.specs.declared.syntax.Core.TheOpen.{Stmt-F}
use Rattle.typed_tree.specs.declared.expression.Expr.{Expr}
use Rattle.typed_tree.specs.declared.expression.Stmt.{Stmt}
use Rattle.typed_tree.specs.declared.expression.Stmt.TheVariants as st
use Rattle.meaning_operators.specs.Constants.{constant}
use Rattle.check_operands.specs.declared.operand.Operand.{Operand}
use Rattle.check_operands.specs.Operands.{value_of, effect}
use Rattle.check_operands.specs.Calls as calls
use Rattle.check_operands.specs.Places as places
use Rattle.check_rules.specs.declared.labels.Labels.{Labels}
use Rattle.check_rules.specs.Frames as frames
use Rattle.check_rules.specs.Labels as labels
use Rattle.check_rules.specs.Walks.{Rule, ◌>>=◌, pure, lift}
use Rattle.check_rules.specs.declared.state.Around.{Around}
use Rattle.check_rules.specs.declared.state.Stage.{Stage}
use Rattle.check_rules.specs.declared.state.Stage.TheVariants as stage
use Rattle.check_rules.specs.declared.state.State.{State}
use Rattle.check_rules.specs.Blocks.{enter, leave}
use Rattle.check_rules.specs.Locals.{meaning, made_inner, inner_local, local}
use Rattle.check_rules.specs.Names.{declare}
use Rattle.check_rules.specs.ExpressionRules.{Node, Shape, Item, each, block}
use Rattle.check_rules.specs.Declarations as declarations
use Rattle.check_rules.specs.Initializers as initializers
use Rattle.check_rules.specs.StatementRules as rules
use Rattle.check_rules.specs.Statements as statements
use Rattle.check_rules.specs.Statements.{if_node, if_else_node, while_node, do_node, for_node, switch_node}
use Rattle.check_rules.specs.Statements.{return_node, case_node, default_node, switch_entered, with_labels}
use Rattle.check_rules.specs.Walk.{Start, Nothing, Value, Values, InitParts, Stmt-W, with_start}
use Rattle.check_rules.specs.Walk.{elements, begin, local_type, declare_parts, declare_one}
use Rattle.check_rules.specs.Walk.{declare_each}
use Rattle.check_rules.specs.Walk.{stmt_rule}
use Rattle.wellformed.specs.Captured.{Naming, none, both, named, named_of}
use Rattle.wellformed.proofs.Named.{named_const, named_of_eval, named_of_block, named_of_if}
use Rattle.wellformed.proofs.Named.{named_of_ifelse, named_of_while, named_of_do, named_of_for, named_of_forstep}
use Rattle.wellformed.proofs.Named.{named_of_switch, named_of_case, named_of_default, named_of_break}
use Rattle.wellformed.proofs.Named.{named_of_continue, named_of_return, named_of_returnvalue, named_of_variable}
use Rattle.wf_nodes.specs.Right.{Unless}
use Rattle.wf_walk.specs.Captured.{HasLibrary, AreSilent, Names, NamesFrom}
use Rattle.wf_walk.specs.Parts.{EachPart}
use Rattle.wf_walk.proofs.Lengths.{local_not_computed}
use Rattle.wf_walk.proofs.Walks.{ran, lifted, ok_same}
use Rattle.wf_walk.proofs.Blocks.{inside, back}
use Rattle.wf_walk.specs.Asked.{EveryStmt}
use Rattle.wf_walk.proofs.Declarators.{computed_start}
use Rattle.wf_walk.specs.Named.{place_named, at_stage, operand_named, list_named, acts_named, IsInside, Quiet}
use Rattle.wf_walk.specs.Named.{IsTickBlock, nothing, NamesNode, NamesOptional, NamesItem, NamesShape, NamesStart}
use Rattle.wf_walk.specs.Named.{NamesInit}
use Rattle.wf_walk.specs.Named.{names}
use Rattle.wf_walk.proofs.CapturedRules.{Same, at, Gives, Holds, unless_map, value_names, condition_names}
use Rattle.wf_walk.proofs.CapturedRules.{switched_names}
use Rattle.wf_walk.proofs.CapturedRules.{assign_names}
use Rattle.wf_walk.proofs.CapturedCalls.{returned_names}
use Rattle.wf_walk.proofs.CapturedSteps.{names_more, names_as, joined, later}
use Rattle.wf_walk.proofs.CapturedSteps.{answers, decides, given, staged, staged_none, staged_both, staged_three, part}
use Rattle.wf_walk.proofs.CapturedTypes.{operand_quiet, declare_names, library_inside, names_back}

-- ---- lists of nodes

pub list_append : (xs ys : List Stmt) → Same (list_named (xs ++ ys)) (both (list_named xs) (list_named ys))
list_append [] ys n = refl
list_append (x ∷ xs) ys n = list_append xs ys (named_of x n)

body_names : (xs : List Stmt) → Same (named_of (statements.body xs)) (list_named xs)
body_names [] n = at n (named_of_block [] [])
body_names (x ∷ []) n = refl
body_names (x ∷ y ∷ rest) n = at n (named_of_block [] (x ∷ y ∷ rest))

-- ---- nodes that a test decides

abbrev of : Operand → Naming
of o = place_named o.place

-- a test, and a statement that is made of it
tested : (f : Naming) (o : Operand) (c : Checked Expr) (k : Expr → List Stmt) →
    Unless (Holds (named (value_of o).code)) c
    → ((e : Expr) → Same (named e) (of o) → Same (list_named (k e)) f) →
    Unless (λ xs. Same (list_named xs) f) (c >>>= (λ e. Ok (k e)))
tested f o (Ok e) k h m = m e (λ n. h n ∙ value_names o n)
tested f o (Err x) k h m = tt

-- at a stage
staged_list : (g : Stage) (f h : Naming) (c : Checked (List Stmt)) → Unless (λ xs. Same (list_named xs) f) c →
    Same (at_stage g f) h → Unless (λ xs. Same (acts_named g xs) h) c
staged_list g f h c u e =
    unless_map (λ xs. Same (list_named xs) f) (λ xs. Same (acts_named g xs) h) c
    (λ xs k n. staged g (list_named xs) f k n ∙ e n) u

condition_of : (line : ℕ) (o : Operand) → Unless (Holds (named (value_of o).code)) (statements.condition_node line o)
condition_of line o = condition_names line (value_of o)

if_rule : (line : ℕ) (o : Operand) (x : Stmt) →
    Unless (λ xs. Same (list_named xs) (both (of o) (named_of x))) (if_node line o x)
unfolding if_node
if_rule line o x =
    tested (both (of o) (named_of x)) o (statements.condition_node line o) (λ e. statements.one (st.If e x))
    (condition_of line o) (λ e h n. at n (named_of_if e x) ∙ ap (named_of x) (h n))

else_rule : (line : ℕ) (o : Operand) (x y : Stmt) →
    Unless (λ xs. Same (list_named xs) (both (of o) (both (named_of x) (named_of y)))) (if_else_node line o x y)
unfolding if_else_node
else_rule line o x y =
    tested (both (of o) (both (named_of x) (named_of y))) o (statements.condition_node line o)
    (λ e. statements.one (st.IfElse e x y)) (condition_of line o)
    (λ e h n. at n (named_of_ifelse e x y) ∙ ap (λ m. named_of y (named_of x m)) (h n))

while_rule : (line : ℕ) (o : Operand) (x : Stmt) →
    Unless (λ xs. Same (list_named xs) (both (of o) (named_of x))) (while_node line o x)
unfolding while_node
while_rule line o x =
    tested (both (of o) (named_of x)) o (statements.condition_node line o) (λ e. statements.one (st.While e x))
    (condition_of line o) (λ e h n. at n (named_of_while e x) ∙ ap (named_of x) (h n))

do_rule : (line : ℕ) (x : Stmt) (o : Operand) →
    Unless (λ xs. Same (list_named xs) (both (named_of x) (of o))) (do_node line x o)
unfolding do_node
do_rule line x o =
    tested (both (named_of x) (of o)) o (statements.condition_node line o) (λ e. statements.one (st.Do x e))
    (condition_of line o) (λ e h n. at n (named_of_do x e) ∙ h (named_of x n))

switch_rule : (line : ℕ) (o : Operand) (vs xs : List Stmt) →
    Unless (λ ys. Same (list_named ys) (both (of o) (both (list_named vs) (list_named xs)))) (switch_node line o vs xs)
unfolding switch_node
switch_rule line o vs xs =
    tested (both (of o) (both (list_named vs) (list_named xs))) o (statements.switched_node line o)
    (λ e. statements.one (st.Switch e vs xs)) (switched_names line (value_of o))
    (λ e h n. at n (named_of_switch e vs xs) ∙ ap (λ m. list_named xs (list_named vs m)) (h n))

-- ---- parts

pub in_block : (g : Stage) → IsTickBlock g → IsInside g
in_block stage.Function w = absurd w
in_block stage.Tick w = tt
in_block stage.Dollar w = absurd w

-- behind what was named before
abbrev acts : Naming → Stage → List Stmt → Naming
acts b g xs = both b (acts_named g xs)

abbrev act : Naming → Stage → Stmt → Naming
act b g x = both b (at_stage g (named_of x))

body_walks : (b : Naming) (i : Item) (a : Around) → IsTickBlock a.stage → NamesItem i →
    NamesFrom b (act b a.stage) (rules.body i a)
body_walks b i a w h =
    joined b (acts b a.stage) (act b a.stage) (i.walk a) (λ xs. pure (statements.body xs))
    (later b (acts_named a.stage) (i.walk a) (h a w))
    (λ xs. answers (acts b a.stage xs) (act b a.stage) (statements.body xs)
    (λ n. staged a.stage (named_of (statements.body xs)) (list_named xs) (body_names xs) (b n)))

abbrev optional_named : Stage → Option Operand → Naming
optional_named g None = none
optional_named g (Some o) = operand_named g o

optional_walks : (b : Naming) (m : Option Node) (g : Stage) → IsInside g → NamesOptional m →
    NamesFrom b (λ o. both b (optional_named g o)) (rules.optional m g)
optional_walks b None g w h = answers b (λ o. both b (optional_named g o)) None (λ n. refl)
optional_walks b (Some e) g w h =
    joined b (λ o. both b (operand_named g o)) (λ o. both b (optional_named g o)) (e.walk g) (λ o. pure (Some o))
    (part b e g w h) (λ o. answers (both b (operand_named g o)) (λ o. both b (optional_named g o)) (Some o) (λ n. refl))

-- ---- statements with one test

abbrev Acts : Around → Rule State (List Stmt) → Type 0
Acts a r = NamesFrom none (acts_named a.stage) r

one_test : (c : Node) (i : Item) (a b : Around) (f : Operand → Stmt → Checked (List Stmt)) → b.stage ≡ a.stage →
    IsTickBlock a.stage → NamesNode c → NamesItem i →
    ((o : Operand) (x : Stmt) → Unless (λ xs. Same (list_named xs) (both (of o) (named_of x))) (f o x)) →
    Acts a (c.walk a.stage >>= (λ o. rules.body i b >>= (λ x. lift (f o x))))
one_test c i a b f is w h k rule =
    joined none (operand_named a.stage) (acts_named a.stage) (c.walk a.stage)
    (λ o. rules.body i b >>= (λ x. lift (f o x))) (part none c a.stage (in_block a.stage w) h)
    (λ o. joined (operand_named a.stage o) (act (operand_named a.stage o) a.stage) (acts_named a.stage) (rules.body i b)
    (λ x. lift (f o x))
    (subst (λ g. NamesFrom (operand_named a.stage o) (act (operand_named a.stage o) g) (rules.body i b)) is
    (body_walks (operand_named a.stage o) i b (subst IsTickBlock (sym is) w) k))
    (λ x. decides (act (operand_named a.stage o) a.stage x) (acts_named a.stage) (f o x)
    (staged_list a.stage (both (of o) (named_of x)) (act (operand_named a.stage o) a.stage x) (f o x) (rule o x)
    (staged_both a.stage (both (of o) (named_of x)) (of o) (named_of x) (λ n. refl)))))

else_walks : (line : ℕ) (c : Node) (i j : Item) (a : Around) → IsTickBlock a.stage → NamesNode c → NamesItem i →
    NamesItem j → Acts a (rules.if_else line c i j a)
else_walks line c i j a w h k m =
    let g = a.stage in
    joined none (operand_named g) (acts_named g) (c.walk g)
    (λ o. rules.bodies i j (statements.inside a) >>= (λ p. lift (if_else_node line o p.0 p.1)))
    (part none c g (in_block g w) h)
    (λ o. joined (operand_named g o) (λ p. both (operand_named g o) (both (at_stage g (named_of p.0))
    (at_stage g (named_of p.1)))) (acts_named g) (rules.bodies i j (statements.inside a))
    (λ p. lift (if_else_node line o p.0 p.1))
    (joined (operand_named g o) (act (operand_named g o) g)
    (λ p. both (operand_named g o) (both (at_stage g (named_of p.0))
    (at_stage g (named_of p.1)))) (rules.body i (statements.inside a))
    (λ x. rules.body j (statements.inside a) >>= (λ y. pure (x, y)))
    (body_walks (operand_named g o) i (statements.inside a) w k)
    (λ x. joined (act (operand_named g o) g x) (act (act (operand_named g o) g x) g)
    (λ p. both (operand_named g o) (both (at_stage g (named_of p.0)) (at_stage g (named_of p.1))))
    (rules.body j (statements.inside a)) (λ y. pure (x, y))
    (body_walks (act (operand_named g o) g x) j (statements.inside a) w m)
    (λ y. answers (act (act (operand_named g o) g x) g y)
    (λ p. both (operand_named g o) (both (at_stage g (named_of p.0)) (at_stage g (named_of p.1)))) (x, y)
    (λ n. refl))))
    (λ p. decides (both (operand_named g o) (both (at_stage g (named_of p.0)) (at_stage g (named_of p.1))))
    (acts_named g) (if_else_node line o p.0 p.1)
    (staged_list g (both (of o) (both (named_of p.0) (named_of p.1)))
    (both (operand_named g o) (both (at_stage g (named_of p.0)) (at_stage g (named_of p.1))))
    (if_else_node line o p.0 p.1) (else_rule line o p.0 p.1)
    (staged_three g (both (of o) (both (named_of p.0) (named_of p.1))) (of o) (named_of p.0) (named_of p.1)
    (λ n. refl)))))

do_walks : (line : ℕ) (i : Item) (c : Node) (a : Around) → IsTickBlock a.stage → NamesItem i → NamesNode c →
    Acts a (rules.do_loop line i c a)
do_walks line i c a w k h =
    let g = a.stage in
    joined none (λ x. at_stage g (named_of x)) (acts_named g) (rules.body i (statements.looped a))
    (λ x. c.walk g >>= (λ o. lift (do_node line x o))) (body_walks none i (statements.looped a) w k)
    (λ x. joined (at_stage g (named_of x)) (λ o. both (at_stage g (named_of x)) (operand_named g o)) (acts_named g)
    (c.walk g) (λ o. lift (do_node line x o)) (part (at_stage g (named_of x)) c g (in_block g w) h)
    (λ o. decides (both (at_stage g (named_of x)) (operand_named g o)) (acts_named g) (do_node line x o)
    (staged_list g (both (named_of x) (of o)) (both (at_stage g (named_of x)) (operand_named g o)) (do_node line x o)
    (do_rule line x o) (staged_both g (both (named_of x) (of o)) (named_of x) (of o) (λ n. refl)))))

-- ---- loops with parts that may be absent

abbrev option_of : Option Operand → Naming
option_of None = none
option_of (Some o) = of o

option_at : (g : Stage) (o : Option Operand) → Same (optional_named g o) (at_stage g (option_of o))
option_at g None n = sym (staged_none g none (λ n. refl) n)
option_at g (Some o) n = refl

for_condition : (line : ℕ) (o : Option Operand) → Unless (Holds (option_of o)) (statements.for_condition line o)
for_condition line None = λ n. at n (named_const 1)
for_condition line (Some o) =
    unless_map (Holds (named (value_of o).code)) (Holds (of o)) (statements.condition_node line o)
    (λ e h n. h n ∙ value_names o n) (condition_of line o)

for_by_names : (e : Expr) (p : Option Operand) (x : Stmt) →
    Same (named_of (statements.for_by e p x)) (both (named e) (both (option_of p) (named_of x)))
for_by_names e None x n = at n (named_of_for e x)
for_by_names e (Some p) x n =
    at n (named_of_forstep e (effect p) x) ∙ ap (named_of x) (value_names p (named e n))

for_made : (o p : Option Operand) (x : Stmt) (c : Checked Expr) → Unless (Holds (option_of o)) c →
    Unless (λ y. Same (named_of y) (both (option_of o) (both (option_of p) (named_of x))))
    (c >>>= (λ e. Ok (statements.for_by e p x)))
for_made o p x (Ok e) h = λ n. for_by_names e p x n ∙ ap (λ m. named_of x (option_of p m)) (h n)
for_made o p x (Err f) h = tt

for_rule : (line : ℕ) (o p : Option Operand) (x : Stmt) →
    Unless (λ y. Same (named_of y) (both (option_of o) (both (option_of p) (named_of x)))) (for_node line o p x)
unfolding for_node
for_rule line o p x = for_made o p x (statements.for_condition line o) (for_condition line o)

for_rest_walks : (b : Naming) (line : ℕ) (c s : Option Node) (i : Item) (a : Around) → IsTickBlock a.stage →
    NamesOptional c → NamesOptional s → NamesItem i → NamesFrom b (act b a.stage) (rules.for_rest line c s i a)
for_rest_walks b line c s i a w h k m =
    let g = a.stage in
    joined b (λ p. both b (both (optional_named g p.0) (optional_named g p.1))) (act b g) (rules.test_and_step c s a)
    (λ p. rules.body i (statements.looped a) >>= (λ x. lift (for_node line p.0 p.1 x)))
    (joined b (λ o. both b (optional_named g o)) (λ p. both b (both (optional_named g p.0) (optional_named g p.1)))
    (rules.optional c g) (λ o. rules.optional s g >>= (λ p. pure (o, p))) (optional_walks b c g (in_block g w) h)
    (λ o. joined (both b (optional_named g o)) (λ p. both (both b (optional_named g o)) (optional_named g p))
    (λ p. both b (both (optional_named g p.0) (optional_named g p.1))) (rules.optional s g) (λ p. pure (o, p))
    (optional_walks (both b (optional_named g o)) s g (in_block g w) k)
    (λ p. answers (both (both b (optional_named g o)) (optional_named g p))
    (λ p. both b (both (optional_named g p.0) (optional_named g p.1))) (o, p) (λ n. refl))))
    (λ p. joined (both b (both (optional_named g p.0) (optional_named g p.1)))
    (act (both b (both (optional_named g p.0) (optional_named g p.1))) g) (act b g)
    (rules.body i (statements.looped a)) (λ x. lift (for_node line p.0 p.1 x))
    (body_walks (both b (both (optional_named g p.0) (optional_named g p.1))) i (statements.looped a) w m)
    (λ x. decides (act (both b (both (optional_named g p.0) (optional_named g p.1))) g x) (act b g)
    (for_node line p.0 p.1 x)
    (unless_map (λ y. Same (named_of y) (both (option_of p.0) (both (option_of p.1) (named_of x))))
    (λ y. Same (act b g y) (act (both b (both (optional_named g p.0) (optional_named g p.1))) g x))
    (for_node line p.0 p.1 x)
    (λ y q n. staged_three g (named_of y) (option_of p.0) (option_of p.1) (named_of x) q (b n)
    ∙ ap (λ l. at_stage g (named_of x) (at_stage g (option_of p.1) l)) (sym (option_at g p.0 (b n)))
    ∙ ap (at_stage g (named_of x)) (sym (option_at g p.1 (optional_named g p.0 (b n)))))
    (for_rule line p.0 p.1 x))))

for_alone_walks : (line : ℕ) (c s : Option Node) (i : Item) (a : Around) → IsTickBlock a.stage → NamesOptional c →
    NamesOptional s → NamesItem i → Acts a (rules.for_alone line c s i a)
for_alone_walks line c s i a w h k m =
    joined none (act none a.stage) (acts_named a.stage) (rules.for_rest line c s i a) (λ x. pure (statements.one x))
    (for_rest_walks none line c s i a w h k m)
    (λ x. answers (act none a.stage x) (acts_named a.stage) (statements.one x)
    (staged a.stage (list_named (statements.one x)) (named_of x) (λ n. refl)))

-- ---- blocks

-- the nodes of variables name nothing
abbrev Silent : List Stmt → Type 0
Silent vs = Same (list_named vs) none

pub each_walks : (items : List Item) (a : Around) → IsTickBlock a.stage → EachPart NamesItem items →
    (b : Naming) → NamesFrom b (acts b a.stage) (each items a)
each_walks [] a w h b =
    answers b (acts b a.stage) [] (λ n. staged_none a.stage (list_named []) (λ m. refl) (b n))
each_walks (i ∷ items) a w h b =
    let g = a.stage in
    joined b (acts b g) (acts b g) (i.walk a) (λ x. each items a >>= (λ xs. pure (x ++ xs)))
    (later b (acts_named g) (i.walk a) (h.0 a w))
    (λ x. joined (acts b g x) (acts (acts b g x) g) (acts b g) (each items a) (λ xs. pure (x ++ xs))
    (each_walks items a w h.1 (acts b g x))
    (λ xs. answers (acts (acts b g x) g xs) (acts b g) (x ++ xs)
    (λ n. staged_both g (list_named (x ++ xs)) (list_named x) (list_named xs) (list_append x xs) (b n))))

-- a block of what a step makes, whose variables are those declared in it
enclosed : (g : Stage) (f : Naming) (vs xs : List Stmt) → AreSilent vs → Same f (list_named xs) →
    Same (at_stage g (named_of (st.Block vs xs))) (at_stage g f)
enclosed g f vs xs silent h =
    staged g (named_of (st.Block vs xs)) f
    (λ n. at n (named_of_block vs xs) ∙ ap (list_named xs) (silent n) ∙ sym (h n))

block_of : (p : Rule State (List Stmt)) (g : Stage) → NamesFrom none (acts_named g) p → (s new : State) (x : Stmt) →
    (p >>= (λ xs. leave (length s.scopes) s.frame.nodes >>= (λ vs. pure (st.Block vs xs)))) (inside s) ≡ Ok (x, new) →
    HasLibrary s → Names none (at_stage g (named_of x)) s new
unfolding leave
block_of p g h s new x e lib =
    let r = ran p (λ xs. leave (length s.scopes) s.frame.nodes >>= (λ vs. pure (st.Block vs xs))) (inside s) x new e in
    let n = h (inside s) r.state r.value r.first (library_inside s lib) in
    given (λ y. at_stage g (named_of y)) (st.Block r.state.frame.nodes r.value, back s r.state)
    (names_as (λ m. refl)
    (enclosed g (list_named r.value) r.state.frame.nodes r.value (n.variables (λ m. refl)) (λ m. refl)) (names_back n))
    r.next

pub block_walks : (items : List Item) (a : Around) → IsTickBlock a.stage → EachPart NamesItem items →
    NamesFrom none (λ x. at_stage a.stage (named_of x)) (block items a)
unfolding enter
block_walks items a w h s new x e lib = block_of (each items a) a.stage (each_walks items a w h none) s new x e lib

alone_walks : (g : Stage) (p : Rule State Stmt) → NamesFrom none (λ x. at_stage g (named_of x)) p →
    NamesFrom none (acts_named g) (p >>= (λ x. pure (statements.one x)))
alone_walks g p h =
    joined none (λ x. at_stage g (named_of x)) (acts_named g) p (λ x. pure (statements.one x)) h
    (λ x. answers (at_stage g (named_of x)) (acts_named g) (statements.one x)
    (staged g (list_named (statements.one x)) (named_of x) (λ n. refl)))

-- ---- a `for` with a first part

for_items_walks : (line : ℕ) (first : Item) (c s : Option Node) (i : Item) (a : Around) → IsTickBlock a.stage →
    NamesItem first → NamesOptional c → NamesOptional s → NamesItem i → Acts a (rules.for_items line first c s i a)
for_items_walks line first c s i a w f h k m =
    let g = a.stage in
    joined none (acts_named g) (acts_named g) (first.walk (statements.inside a))
    (λ xs. rules.for_rest line c s i a >>= (λ x. pure (xs ++ x ∷ []))) (f (statements.inside a) w)
    (λ xs. joined (acts_named g xs) (act (acts_named g xs) g) (acts_named g) (rules.for_rest line c s i a)
    (λ x. pure (xs ++ x ∷ [])) (for_rest_walks (acts_named g xs) line c s i a w h k m)
    (λ x. answers (act (acts_named g xs) g x) (acts_named g) (xs ++ x ∷ [])
    (staged_both g (list_named (xs ++ x ∷ [])) (list_named xs) (named_of x) (list_append xs (x ∷ [])))))

for_block_walks : (line : ℕ) (first : Item) (c s : Option Node) (i : Item) (a : Around) → IsTickBlock a.stage →
    NamesItem first → NamesOptional c → NamesOptional s → NamesItem i → Acts a (rules.for_block line first c s i a)
unfolding enter leave
for_block_walks line first c s i a w f h k m z new xs e lib =
    let r = ran (rules.for_items line first c s i a)
    (λ xs. leave (length z.scopes) z.frame.nodes >>= (λ vs. pure (statements.one (st.Block vs xs)))) (inside z) xs new e
    in
    let n = for_items_walks line first c s i a w f h k m (inside z) r.state r.value r.first (library_inside z lib) in
    given (acts_named a.stage) (statements.one (st.Block r.state.frame.nodes r.value), back z r.state)
    (names_as (λ q. refl)
    (λ q. staged a.stage (list_named (statements.one (st.Block r.state.frame.nodes r.value)))
    (named_of (st.Block r.state.frame.nodes r.value)) (λ q. refl) q
    ∙ enclosed a.stage (list_named r.value) r.state.frame.nodes r.value (n.variables (λ m. refl)) (λ m. refl) q)
    (names_back n)) r.next

for_by : (b : Bool) (line : ℕ) (first : Item) (c s : Option Node) (i : Item) (a : Around) → IsTickBlock a.stage →
    NamesItem first → NamesOptional c → NamesOptional s → NamesItem i →
    Acts a (if b then rules.for_alone line c s i a else rules.for_block line first c s i a)
for_by true line first c s i a w f h k m = for_alone_walks line c s i a w h k m
for_by false line first c s i a w f h k m = for_block_walks line first c s i a w f h k m

-- ---- switches and labels

names_labels : {f h : Naming} {s z : State} (l m : Labels) → Names f h (with_labels l s) z →
    Names f h s (with_labels m z)
names_labels l m p = record { library = p.library; variables = p.variables; grows = p.grows; is = p.is }

-- the variables and the items of a switch
abbrev switched : Stage → List Stmt × List Stmt → Naming
switched g p = at_stage g (both (list_named p.0) (list_named p.1))

switch_block_walks : (items : List Item) (a : Around) → IsTickBlock a.stage → EachPart NamesItem items →
    NamesFrom none (switched a.stage) (rules.switch_block items a)
unfolding enter leave
switch_block_walks items a w h s new p e lib =
    let g = a.stage in
    let r = ran (each items (statements.switched a))
    (λ xs. leave (length s.scopes) s.frame.nodes >>= (λ vs. pure (vs, xs))) (inside s) p new e in
    let n = each_walks items (statements.switched a) w h none (inside s) r.state r.value r.first (library_inside s lib)
    in
    let silent = n.variables (λ m. refl) in
    given (switched g) ((r.state.frame.nodes, r.value), back s r.state)
    (names_as (λ m. refl)
    (staged g (both (list_named r.state.frame.nodes) (list_named r.value)) (list_named r.value)
    (λ m. ap (list_named r.value) (silent m))) (names_back n)) r.next

labelled_walks : (items : List Item) (a : Around) → IsTickBlock a.stage → EachPart NamesItem items →
    NamesFrom none (switched a.stage) (rules.labelled_block items a)
unfolding switch_entered
labelled_walks items a w h s new p e lib =
    let r = ran (rules.switch_block items a) (λ q z. Ok (q, with_labels s.labels z)) (with_labels labels.new s) p new e
    in
    given (switched a.stage) (r.value, with_labels s.labels r.state)
    (names_labels labels.new s.labels
    (switch_block_walks items a w h (with_labels labels.new s) r.state r.value r.first lib)) r.next

switch_walks : (line : ℕ) (c : Node) (items : List Item) (a : Around) → IsTickBlock a.stage → NamesNode c →
    EachPart NamesItem items → Acts a (rules.switch line c items a)
switch_walks line c items a w h k =
    let g = a.stage in
    joined none (operand_named g) (acts_named g) (c.walk g)
    (λ o. rules.labelled_block items a >>= (λ p. lift (switch_node line o p.0 p.1))) (part none c g (in_block g w) h)
    (λ o. joined (operand_named g o) (λ p. both (operand_named g o) (switched g p)) (acts_named g)
    (rules.labelled_block items a) (λ p. lift (switch_node line o p.0 p.1))
    (later (operand_named g o) (switched g) (rules.labelled_block items a) (labelled_walks items a w k))
    (λ p. decides (both (operand_named g o) (switched g p)) (acts_named g) (switch_node line o p.0 p.1)
    (staged_list g (both (of o) (both (list_named p.0) (list_named p.1))) (both (operand_named g o) (switched g p))
    (switch_node line o p.0 p.1) (switch_rule line o p.0 p.1)
    (staged_both g (both (of o) (both (list_named p.0) (list_named p.1))) (of o)
    (both (list_named p.0) (list_named p.1)) (λ n. refl)))))

labelled_names : (g : Stage) (x : Stmt) (s new : State) (xs : List Stmt) (c : Checked (Unit {0} × Labels)) →
    Same (named_of x) none → statements.labelled x s c ≡ Ok (xs, new) → HasLibrary s →
    Names none (acts_named g xs) s new
labelled_names g x s new xs (Ok r) h e lib =
    given (acts_named g) (statements.one x, with_labels r.1 s)
    (record {
      library = lib;
      variables = λ k. k;
      grows = omega arith;
      is = λ small n k. staged_none g (list_named (statements.one x)) h n ∙ k;
    }) e
labelled_names g x s new xs (Err f) h e lib = absurd (cc)

case_by_names : (line : ℕ) (g : Stage) (o : Operand) (v : Option ℕ) → constant (effect o) ≡ v →
    NamesFrom (operand_named g o) (acts_named g) (statements.case_by line v)
case_by_names line g o None is s new xs e lib = absurd (cc)
case_by_names line g o (Some v) is s new xs e lib =
    names_as (operand_quiet g o v is) (λ n. refl)
    (labelled_names g (st.Case v) s new xs (labels.case line v s.labels) (λ n. at n (named_of_case v)) e lib)

case_node_names : (line : ℕ) (g : Stage) (o : Operand) → NamesFrom (operand_named g o) (acts_named g) (case_node line o)
unfolding case_node
case_node_names line g o s new xs e lib = case_by_names line g o (constant (effect o)) refl s new xs e lib

case_walks : (line : ℕ) (c : Node) (a : Around) → IsTickBlock a.stage → NamesNode c → Acts a (rules.case line c a)
case_walks line c a w h =
    let g = a.stage in
    joined none nothing (acts_named g) (lift (statements.case_entry line c.written.constant a))
    (λ u. c.walk g >>= (λ o. case_node line o))
    (decides none nothing (statements.case_entry line c.written.constant a) (entry (a.is_direct && c.written.constant)))
    (λ u. joined none (operand_named g) (acts_named g) (c.walk g) (λ o. case_node line o)
    (part none c g (in_block g w) h)
    (λ o. case_node_names line g o))
  where
    entry : (b : Bool) → Unless {A = Unit {0}} (λ y. Same (nothing y) none)
        (if b then Ok tt else refuse fault.BadCase line)
    entry true = λ n. refl
    entry false = tt

default_by : (b : Bool) (line : ℕ) (g : Stage) (s new : State) (xs : List Stmt) →
    (if b then statements.labelled st.Default s (labels.default line s.labels) else refuse fault.BadCase line)
    ≡ Ok (xs, new) → HasLibrary s → Names none (acts_named g xs) s new
default_by true line g s new xs e lib =
    labelled_names g st.Default s new xs (labels.default line s.labels) (λ n. at n named_of_default) e lib
default_by false line g s new xs e lib = absurd (cc)

default_walks : (line : ℕ) (a : Around) → Acts a (default_node line a)
unfolding default_node
default_walks line a s new xs e lib = default_by a.is_direct line a.stage s new xs e lib

-- ---- jumps and returns

silent_node : (g : Stage) (x : Stmt) → Same (named_of x) none → Same (acts_named g (statements.one x)) none
silent_node g x h = staged_none g (list_named (statements.one x)) h

entered_names : (g : Stage) (b : Bool) (x : Stmt) (k : FaultKind) (line : ℕ) → Same (named_of x) none →
    Unless (λ xs. Same (acts_named g xs) none) (if b then Ok (statements.one x) else refuse k line)
entered_names g true x k line h = silent_node g x h
entered_names g false x k line h = tt

break_walks : (line : ℕ) (a : Around) → Acts a (lift (statements.break_entry line a))
break_walks line a =
    decides none (acts_named a.stage) (statements.break_entry line a)
    (entered_names a.stage (a.in_loop || a.in_switch) st.Break fault.BreakOutside line (λ n. at n named_of_break))

continue_walks : (line : ℕ) (a : Around) → Acts a (lift (statements.continue_entry line a))
continue_walks line a =
    decides none (acts_named a.stage) (statements.continue_entry line a)
    (entered_names a.stage a.in_loop st.Continue fault.ContinueOutside line (λ n. at n named_of_continue))

tick_returned : (line : ℕ) (o : Operand) →
    Unless (λ xs. Same (list_named xs) (of o)) (calls.tick_returned line (value_of o) >>>=
    (λ e. Ok (statements.one (st.ReturnValue e))))
tick_returned line o =
    tested (of o) o (calls.tick_returned line (value_of o)) (λ e. statements.one (st.ReturnValue e))
    (returned_names line (value_of o)) (λ e h n. at n (named_of_returnvalue e) ∙ h n)

return_rule : (line : ℕ) (g : Stage) (o : Operand) (s : State) → IsInside g →
    Unless (λ xs. Same (acts_named g xs) (operand_named g o)) (return_node line g o s)
unfolding return_node
return_rule line stage.Function o s w = absurd w
return_rule line stage.Tick o s w =
    staged_list stage.Tick (of o) (of o) _ (tick_returned line o) (λ n. refl)
return_rule line stage.Dollar o s w =
    staged_list stage.Dollar (of o) none _ (tick_returned line o) (λ n. refl)

answered_walks : (line : ℕ) (e : Node) (a : Around) → IsTickBlock a.stage → NamesNode e →
    Acts a (rules.answered line e a)
answered_walks line e a w h =
    let g = a.stage in
    joined none (operand_named g) (acts_named g) (e.walk g) (λ o s. lift (return_node line g o s) s)
    (part none e g (in_block g w) h)
    (λ o s new xs is lib. decides (operand_named g o) (acts_named g) (return_node line g o s)
    (return_rule line g o s (in_block g w)) s
    new xs is lib)

return_walks : (line : ℕ) (e : Option Node) (a : Around) → IsTickBlock a.stage → NamesOptional e →
    Acts a (rules.returning line e a)
return_walks line None a w h =
    answers none (acts_named a.stage) (statements.one st.Return)
    (silent_node a.stage st.Return (λ n. at n named_of_return))
return_walks line (Some e) a w h = answered_walks line e a w h

alone_expression : (e : Node) (a : Around) → IsTickBlock a.stage → NamesNode e → Acts a (rules.alone e a)
alone_expression e a w h =
    let g = a.stage in
    joined none (operand_named g) (acts_named g) (e.walk g) (λ o. pure (statements.alone o))
    (part none e g (in_block g w) h)
    (λ o. answers (operand_named g o) (acts_named g) (statements.alone o)
    (staged g (list_named (statements.alone o)) (of o) (λ n. at n (named_of_eval (effect o)) ∙ value_names o n)))

-- ---- declarations

one_silent : (vs : List Stmt) (x : Stmt) → AreSilent vs → Same (named_of x) none → AreSilent (vs ++ x ∷ [])
one_silent vs x h k n = list_append vs (x ∷ []) n ∙ k (list_named vs n) ∙ h n

-- a variable of a tick's block
pub record Declared (g : Stage) (s new : State) (p : Operand) : Type 0 where
  pub quiet : Quiet s new
  pub silent : Same (operand_named g p) none

inner_declared : (line : ℕ) (name : Name) (t : CType) (s new : State) (p : Operand) →
    inner_local line name t s ≡ Ok (p, new) → HasLibrary s → Declared stage.Tick s new p
unfolding inner_local
inner_declared line name t s new p e lib =
    let r = ran (declare line name (meaning kind.Variable t (frames.inner_number s.frame)))
    (λ u z. Ok (made_inner t z)) s p new e in
    let n = declare_names line name (meaning kind.Variable t (frames.inner_number s.frame)) tt s r.state r.value r.first
    lib in
    let m : Quiet r.state (made_inner t r.state).1 = record {
      library = n.library;
      variables = λ k. one_silent r.state.frame.nodes (st.Variable r.state.frame.inner) k
          (λ i. at i (named_of_variable r.state.frame.inner));
      grows = omega arith;
      is = λ small i k. k;
    } in
    subst (λ (q : Operand × State). Declared stage.Tick s q.1 q.0) (ok_same (made_inner t r.state) (p, new) r.next)
    (record { quiet = names_more n m; silent = λ i. refl })

local_declared : (g : Stage) (line : ℕ) (name : Name) (t : CType) (s new : State) (p : Operand) → IsTickBlock g →
    local g line name t s ≡ Ok (p, new) → HasLibrary s → Declared g s new p
local_declared stage.Function line name t s new p w e lib = absurd w
local_declared stage.Tick line name t s new p w e lib = inner_declared line name t s new p e lib
local_declared stage.Dollar line name t s new p w e lib = absurd w

initialized_rule : (line : ℕ) (p o : Operand) →
    Unless (λ xs. Same (list_named xs) (both (of p) (of o))) (initializers.initialized line p o)
unfolding initializers.initialized
initialized_rule line p o = made (places.assign line p (value_of o)) (assign_names line p (value_of o))
  where
    made : (c : Checked Operand) → Unless (Gives (both (of p) (named (value_of o).code))) c →
        Unless (λ xs. Same (list_named xs) (both (of p) (of o))) (c >>>= (λ r. Ok (st.Eval (effect r) ∷ [])))
    made (Ok r) h = λ n.
        at n (named_of_eval (effect r)) ∙ value_names r n ∙ h n ∙ value_names o (of p n)
    made (Err f) h = tt

value_rule : (line : ℕ) (p : Operand) (b string : Bool) (o : Operand) →
    Unless (λ xs. Same (list_named xs) (both (of p) (of o)))
    (if b then refuse (initializers.array_breaks string (value_of o) p.ctype) line else
    initializers.initialized line p o)
value_rule line p true string o = tt
value_rule line p false string o = initialized_rule line p o

from_value_rule : (line : ℕ) (p : Operand) (string : Bool) (o : Operand) →
    Unless (λ xs. Same (list_named xs) (both (of p) (of o))) (initializers.from_value line p string o)
unfolding initializers.from_value
from_value_rule line p string o = value_rule line p (initializers.is_array p.ctype) string o

begin_walks : (line : ℕ) (g : Stage) (p : Operand) (i : Start) → IsInside g → Same (operand_named g p) none →
    NamesStart i → NamesFrom none (acts_named g) (begin line g p i)
begin_walks line g p Nothing w q h s new xs r lib =
    answers none (acts_named g) [] (staged_none g (list_named []) (λ n. refl)) s new xs r lib
begin_walks line g p (Value e) w q h s new xs r lib =
    joined none (operand_named g) (acts_named g) (e.walk g)
    (λ o. lift (initializers.from_value line p (is_some e.written.string) o)) (part none e g w h)
    (λ o. decides (operand_named g o) (acts_named g) (initializers.from_value line p (is_some e.written.string) o)
    (staged_list g (both (of p) (of o)) (operand_named g o)
    (initializers.from_value line p (is_some e.written.string) o)
    (from_value_rule line p (is_some e.written.string) o)
    (λ n. staged_both g (both (of p) (of o)) (of p) (of o) (λ m. refl) n ∙ ap (operand_named g o) (q n)))) s new xs r
    lib
begin_walks line g p (Values es) w q h s new xs e lib =
    let r = ran (elements es (inner p.ctype) None g)
    (λ broken. lift (initializers.from_list line (initializers.is_array p.ctype) (initializers.has_size p.ctype)
    broken))
    s xs new e in
    absurd (refused (initializers.list_breaks (initializers.is_array p.ctype) (initializers.has_size p.ctype) r.value)
    r.state r.next)
  where
    refused : (k : FaultKind) (z : State) → lift {S = State} (refuse {A = List Stmt} k line) z ≡ Ok (xs, new) → ⊥
    refused k z h = cc

local_type_names : (line : ℕ) (b : Base) (g : Stage) (d : Shape) (i : Start) → IsInside g → NamesShape d →
    NamesFrom none nothing (local_type line b g d i)
local_type_names line b g d i w h s new t e lib =
    let f = λ (ss : List Step). declarations.declared_in g line (words.base_of b) (with_start i ss) in
    let q = ran (d.walk g) (λ ss. lift (f ss)) s t new e in
    let l = lifted (f q.value) q.state t new q.next in
    subst (λ z. Quiet s z) l.state
    (h g w s q.state q.value q.first
    (computed_start i q.value
    (local_not_computed g line (words.base_of b) (with_start i q.value) t l.value)) lib)

parts_walks : (line : ℕ) (b : Base) (g : Stage) (d : Shape) (i : Start) → IsTickBlock g → NamesShape d →
    NamesStart i → NamesFrom none (acts_named g) (declare_parts line b g d i)
parts_walks line b g d i w h k s new xs e lib =
    let name = d.declared.name in
    let r = ran (local_type line b g d i)
    (λ t. declarations.declare g line name t >>= (λ p. begin line g p i)) s xs new e in
    let one = local_type_names line b g d i (in_block g w) h s r.state r.value r.first lib in
    let q = ran (declarations.declare g line name r.value) (λ p. begin line g p i) r.state xs new r.next in
    let two = local_declared g line (declarations.name_by name) r.value r.state q.state q.value w q.first one.library in
    names_more (names_more one two.quiet)
    (begin_walks line g q.value i (in_block g w) two.silent k q.state new xs q.next two.quiet.library)

entered_walks : (g : Stage) (c : Checked (Unit {0})) (p : Rule State (List Stmt)) → NamesFrom none (acts_named g) p →
    NamesFrom none (acts_named g) (lift c >>= (λ u. p))
entered_walks g (Ok u) p h s new xs e lib = h s new xs e lib
entered_walks g (Err f) p h s new xs e lib = absurd (cc)

each_declared : (line : ℕ) (b : Base) (g : Stage) (is : List InitParts) → IsTickBlock g → EachPart NamesInit is →
    NamesFrom none (acts_named g) (declare_each line b g is)
each_declared line b g [] w h = answers none (acts_named g) [] (staged_none g (list_named []) (λ n. refl))
each_declared line b g (i ∷ is) w h =
    joined none (acts_named g) (acts_named g) (declare_one line b g i)
    (λ xs. declare_each line b g is >>= (λ ys. pure (xs ++ ys)))
    (entered_walks g (declarations.entered g line i.shape.declared.staged) (declare_parts line b g i.shape i.start)
    (parts_walks line b g i.shape i.start w h.0.shape h.0.start))
    (λ xs. joined (acts_named g xs) (λ ys. both (acts_named g xs) (acts_named g ys)) (acts_named g)
    (declare_each line b g is) (λ ys. pure (xs ++ ys))
    (later (acts_named g xs) (acts_named g) (declare_each line b g is) (each_declared line b g is w h.1))
    (λ ys. answers (both (acts_named g xs) (acts_named g ys)) (acts_named g) (xs ++ ys)
    (staged_both g (list_named (xs ++ ys)) (list_named xs) (list_named ys) (list_append xs ys))))

-- ---- each statement

pub statement_names : (x : Stmt-W) → EveryStmt names x → NamesItem (stmt_rule x)
statement_names Stmt-F.Empty h a w =
    answers none (acts_named a.stage) rules.empty
    (silent_node a.stage (st.Block [] []) (λ n. at n (named_of_block [] [])))
statement_names (Stmt-F.Expr e) h a w = alone_expression e a w h
statement_names (Stmt-F.Block items) h a w =
    alone_walks a.stage (block items (statements.inside a)) (block_walks items (statements.inside a) w h)
statement_names (Stmt-F.Stmt::Local d) h a w = each_declared d.line d.base a.stage d.inits w h
statement_names (Stmt-F.If line c i) h a w =
    one_test c i a (statements.inside a) (if_node line) refl w h.0 h.1 (if_rule line)
statement_names (Stmt-F.IfElse line c i j) h a w = else_walks line c i j a w h.0 h.1 h.2
statement_names (Stmt-F.While line c i) h a w =
    one_test c i a (statements.looped a) (while_node line) refl w h.0 h.1 (while_rule line)
statement_names (Stmt-F.Do line i c) h a w = do_walks line i c a w h.0 h.1
statement_names (Stmt-F.For line first c s i) h a w = for_by first.is_empty line first c s i a w h.0 h.1 h.2 h.3
statement_names (Stmt-F.Switch line e items) h a w = switch_walks line e items a w h.0 h.1
statement_names (Stmt-F.Case line e) h a w = case_walks line e a w h
statement_names (Stmt-F.Default line) h a w = default_walks line a
statement_names (Stmt-F.Break line) h a w = break_walks line a
statement_names (Stmt-F.Continue line) h a w = continue_walks line a
statement_names (Stmt-F.Return line e) h a w = return_walks line e a w h
