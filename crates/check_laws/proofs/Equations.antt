-- What the walk over each node is, by the walks over its parts. Written by tools/checker/equations.py.
use Rattle.std.proofs.Common.{◌≡◌, ℕ, Bool, true, false, ap, sym, ◌∙◌, List, map}
use Rattle.std.specs.Prelude.{Option}
use Rattle.tick_tree.specs.declared.base.Base.{Base}
use Rattle.tick_tree.specs.declared.base.BinaryOp.{BinaryOp}
use Rattle.tick_tree.specs.declared.base.ModifyOp.{ModifyOp}
use Rattle.tick_tree.specs.declared.base.StepOp.{StepOp}
use Rattle.tick_tree.specs.declared.base.UnaryOp.{UnaryOp}
use Rattle.tick_tree.specs.declared.syntax.Core.{Core}
use Rattle.tick_tree.specs.declared.syntax.Core.TheVariants as co
use Rattle.tick_tree.specs.declared.syntax.Declaration.{Declaration, out-Declaration}
use Rattle.tick_tree.specs.declared.syntax.Declarator.{Declarator, out-Declarator}
use Rattle.tick_tree.specs.declared.syntax.Expr.{Expr}
use Rattle.tick_tree.specs.declared.syntax.Expr.TheVariants as e
use Rattle.tick_tree.specs.declared.syntax.Init.{Init, out-Init}
use Rattle.tick_tree.specs.declared.syntax.Initializer.{Initializer}
use Rattle.tick_tree.specs.declared.syntax.Initializer.TheVariants as iz
use Rattle.tick_tree.specs.declared.syntax.OptionalExpr.{OptionalExpr}
use Rattle.tick_tree.specs.declared.syntax.OptionalExpr.TheVariants as oe
use Rattle.tick_tree.specs.declared.syntax.Parameter.{Parameter, out-Parameter}
use Rattle.tick_tree.specs.declared.syntax.Stmt.{Stmt}
use Rattle.tick_tree.specs.declared.syntax.Stmt.TheVariants as st
use Rattle.tick_tree.specs.declared.syntax.Suffix.TheVariants as sx
use Rattle.tick_tree.specs.declared.syntax.Typename.{Typename, out-Typename}
use Rattle.tick_tree.specs.declared.syntax.Core.TheFolds.{fold-roll-Core, fold-roll-Expr, fold-roll-Initializer}
use Rattle.tick_tree.specs.declared.syntax.Core.TheFolds.{fold-roll-OptionalExpr, fold-roll-Stmt, fold-roll-Suffix}
use Rattle.tick_tree.specs.declared.syntax.Core.TheFolds.{fold_out-Declaration, fold_out-Declarator, fold_out-Init}
use Rattle.tick_tree.specs.declared.syntax.Core.TheFolds.{fold_out-Parameter, fold_out-Typename}
use Rattle.tick_tree.specs.declared.syntax.Core.TheOpen.{Core-F, Expr-F, Initializer-F, OptionalExpr-F, Stmt-F}
use Rattle.tick_tree.specs.declared.syntax.Core.TheOpen.{Suffix-F}
use Rattle.check_rules.specs.declared.state.Around.{Around}
use Rattle.check_rules.specs.declared.state.Stage.{Stage}
use Rattle.check_rules.specs.declared.state.State.{State}
use Rattle.check_rules.specs.ExpressionRules.{Node, Named, Shape, Item}
use Rattle.check_rules.specs.Walk.{Start, InitParts, Declarations, SuffixWalk, TypeWalk, core_rule, expr_rule}
use Rattle.check_rules.specs.Walk.{start_rule, optional_rule, stmt_rule, declaration_rule, declarator_rule, init_rule}
use Rattle.check_rules.specs.Walk.{parameter_rule, typename_rule, declaration_walk, declare_one, declare_by}
use Rattle.check_rules.specs.Walk.{declare_each, suffix_walk, suffix_steps, expr_walk, statement_walk, declarator_of}
use Rattle.check_rules.specs.Walk.{typename_of, typename_walk, parameter_walk as parameter_steps, declarator_walk, core}
use Rattle.check_rules.specs.Walk.{node, optional, item, suffix, declaration, shape, init, initializer, parameter}
use Rattle.check_rules.specs.Walk.{named}

pub at_node_name : (a : ℕ) (b : (List ℕ)) → node (e.Name a b) ≡ expr_rule (Expr-F.Expr::Name a b)
unfolding core node optional item suffix declaration shape init initializer parameter named
at_node_name a b = ap node (sym (e.rolls-Name a b)) ∙
    fold-roll-Expr Shape Node Start (Option Node) Item SuffixWalk Declarations Shape InitParts TypeWalk Named core_rule
    expr_rule start_rule optional_rule stmt_rule suffix_walk declaration_rule declarator_rule init_rule parameter_rule
    typename_rule (Expr-F.Expr::Name a b)

pub node_name : (a : ℕ) (b : (List ℕ)) (g : Stage) (s : State) →
    (node (e.Name a b)).walk g s ≡ expr_walk (Expr-F.Expr::Name a b) g s
node_name a b g s = ap (λ w. w.walk g s) (at_node_name a b)

pub at_node_number : (a : ℕ) (b : Bool) → node (e.Number a b) ≡ expr_rule (Expr-F.Number a b)
unfolding core node optional item suffix declaration shape init initializer parameter named
at_node_number a b = ap node (sym (e.rolls-Number a b)) ∙
    fold-roll-Expr Shape Node Start (Option Node) Item SuffixWalk Declarations Shape InitParts TypeWalk Named core_rule
    expr_rule start_rule optional_rule stmt_rule suffix_walk declaration_rule declarator_rule init_rule parameter_rule
    typename_rule (Expr-F.Number a b)

pub node_number : (a : ℕ) (b : Bool) (g : Stage) (s : State) →
    (node (e.Number a b)).walk g s ≡ expr_walk (Expr-F.Number a b) g s
node_number a b g s = ap (λ w. w.walk g s) (at_node_number a b)

pub at_node_character : (a : ℕ) → node (e.Character a) ≡ expr_rule (Expr-F.Character a)
unfolding core node optional item suffix declaration shape init initializer parameter named
at_node_character a = ap node (sym (e.rolls-Character a)) ∙
    fold-roll-Expr Shape Node Start (Option Node) Item SuffixWalk Declarations Shape InitParts TypeWalk Named core_rule
    expr_rule start_rule optional_rule stmt_rule suffix_walk declaration_rule declarator_rule init_rule parameter_rule
    typename_rule (Expr-F.Character a)

pub node_character : (a : ℕ) (g : Stage) (s : State) →
    (node (e.Character a)).walk g s ≡ expr_walk (Expr-F.Character a) g s
node_character a g s = ap (λ w. w.walk g s) (at_node_character a)

pub at_node_string : (a : (List ℕ)) → node (e.String a) ≡ expr_rule (Expr-F.String a)
unfolding core node optional item suffix declaration shape init initializer parameter named
at_node_string a = ap node (sym (e.rolls-String a)) ∙
    fold-roll-Expr Shape Node Start (Option Node) Item SuffixWalk Declarations Shape InitParts TypeWalk Named core_rule
    expr_rule start_rule optional_rule stmt_rule suffix_walk declaration_rule declarator_rule init_rule parameter_rule
    typename_rule (Expr-F.String a)

pub node_string : (a : (List ℕ)) (g : Stage) (s : State) →
    (node (e.String a)).walk g s ≡ expr_walk (Expr-F.String a) g s
node_string a g s = ap (λ w. w.walk g s) (at_node_string a)

pub at_node_paren : (a : Expr) → node (e.Paren a) ≡ expr_rule (Expr-F.Expr::Paren (node a))
unfolding core node optional item suffix declaration shape init initializer parameter named
at_node_paren a = ap node (sym (e.rolls-Paren a)) ∙
    fold-roll-Expr Shape Node Start (Option Node) Item SuffixWalk Declarations Shape InitParts TypeWalk Named core_rule
    expr_rule start_rule optional_rule stmt_rule suffix_walk declaration_rule declarator_rule init_rule parameter_rule
    typename_rule (Expr-F.Expr::Paren a)

pub node_paren : (a : Expr) (g : Stage) (s : State) →
    (node (e.Paren a)).walk g s ≡ expr_walk (Expr-F.Expr::Paren (node a)) g s
node_paren a g s = ap (λ w. w.walk g s) (at_node_paren a)

pub at_node_compile : (a : ℕ) (b : Expr) (c : Typename) →
    node (e.Compile a b c) ≡ expr_rule (Expr-F.Compile a (node b) (named c))
unfolding core node optional item suffix declaration shape init initializer parameter named
at_node_compile a b c = ap node (sym (e.rolls-Compile a b c)) ∙
    fold-roll-Expr Shape Node Start (Option Node) Item SuffixWalk Declarations Shape InitParts TypeWalk Named core_rule
    expr_rule start_rule optional_rule stmt_rule suffix_walk declaration_rule declarator_rule init_rule parameter_rule
    typename_rule (Expr-F.Compile a b c)

pub node_compile : (a : ℕ) (b : Expr) (c : Typename) (g : Stage) (s : State) →
    (node (e.Compile a b c)).walk g s ≡ expr_walk (Expr-F.Compile a (node b) (named c)) g s
node_compile a b c g s = ap (λ w. w.walk g s) (at_node_compile a b c)

pub at_node_local : (a : ℕ) (b : Typename) → node (e.Local a b) ≡ expr_rule (Expr-F.Expr::Local a (named b))
unfolding core node optional item suffix declaration shape init initializer parameter named
at_node_local a b = ap node (sym (e.rolls-Local a b)) ∙
    fold-roll-Expr Shape Node Start (Option Node) Item SuffixWalk Declarations Shape InitParts TypeWalk Named core_rule
    expr_rule start_rule optional_rule stmt_rule suffix_walk declaration_rule declarator_rule init_rule parameter_rule
    typename_rule (Expr-F.Expr::Local a b)

pub node_local : (a : ℕ) (b : Typename) (g : Stage) (s : State) →
    (node (e.Local a b)).walk g s ≡ expr_walk (Expr-F.Expr::Local a (named b)) g s
node_local a b g s = ap (λ w. w.walk g s) (at_node_local a b)

pub at_node_param : (a : ℕ) (b : Typename) (c : Expr) →
    node (e.Param a b c) ≡ expr_rule (Expr-F.Param a (named b) (node c))
unfolding core node optional item suffix declaration shape init initializer parameter named
at_node_param a b c = ap node (sym (e.rolls-Param a b c)) ∙
    fold-roll-Expr Shape Node Start (Option Node) Item SuffixWalk Declarations Shape InitParts TypeWalk Named core_rule
    expr_rule start_rule optional_rule stmt_rule suffix_walk declaration_rule declarator_rule init_rule parameter_rule
    typename_rule (Expr-F.Param a b c)

pub node_param : (a : ℕ) (b : Typename) (c : Expr) (g : Stage) (s : State) →
    (node (e.Param a b c)).walk g s ≡ expr_walk (Expr-F.Param a (named b) (node c)) g s
node_param a b c g s = ap (λ w. w.walk g s) (at_node_param a b c)

pub at_node_index : (a : ℕ) (b : (Expr × Expr)) → node (e.Index a b) ≡ expr_rule (Expr-F.Index a (node b.0, node b.1))
unfolding core node optional item suffix declaration shape init initializer parameter named
at_node_index a b = ap node (sym (e.rolls-Index a b)) ∙
    fold-roll-Expr Shape Node Start (Option Node) Item SuffixWalk Declarations Shape InitParts TypeWalk Named core_rule
    expr_rule start_rule optional_rule stmt_rule suffix_walk declaration_rule declarator_rule init_rule parameter_rule
    typename_rule (Expr-F.Index a b)

pub node_index : (a : ℕ) (b : (Expr × Expr)) (g : Stage) (s : State) →
    (node (e.Index a b)).walk g s ≡ expr_walk (Expr-F.Index a (node b.0, node b.1)) g s
node_index a b g s = ap (λ w. w.walk g s) (at_node_index a b)

pub at_node_call : (a : ℕ) (b : Expr) (c : (List Expr)) →
    node (e.Call a b c) ≡ expr_rule (Expr-F.Call a (node b) (map node c))
unfolding core node optional item suffix declaration shape init initializer parameter named
at_node_call a b c = ap node (sym (e.rolls-Call a b c)) ∙
    fold-roll-Expr Shape Node Start (Option Node) Item SuffixWalk Declarations Shape InitParts TypeWalk Named core_rule
    expr_rule start_rule optional_rule stmt_rule suffix_walk declaration_rule declarator_rule init_rule parameter_rule
    typename_rule (Expr-F.Call a b c)

pub node_call : (a : ℕ) (b : Expr) (c : (List Expr)) (g : Stage) (s : State) →
    (node (e.Call a b c)).walk g s ≡ expr_walk (Expr-F.Call a (node b) (map node c)) g s
node_call a b c g s = ap (λ w. w.walk g s) (at_node_call a b c)

pub at_node_step : (a : ℕ) (b : StepOp) (c : Expr) → node (e.Step a b c) ≡ expr_rule (Expr-F.Step a b (node c))
unfolding core node optional item suffix declaration shape init initializer parameter named
at_node_step a b c = ap node (sym (e.rolls-Step a b c)) ∙
    fold-roll-Expr Shape Node Start (Option Node) Item SuffixWalk Declarations Shape InitParts TypeWalk Named core_rule
    expr_rule start_rule optional_rule stmt_rule suffix_walk declaration_rule declarator_rule init_rule parameter_rule
    typename_rule (Expr-F.Step a b c)

pub node_step : (a : ℕ) (b : StepOp) (c : Expr) (g : Stage) (s : State) →
    (node (e.Step a b c)).walk g s ≡ expr_walk (Expr-F.Step a b (node c)) g s
node_step a b c g s = ap (λ w. w.walk g s) (at_node_step a b c)

pub at_node_unary : (a : ℕ) (b : UnaryOp) (c : Expr) → node (e.Unary a b c) ≡ expr_rule (Expr-F.Unary a b (node c))
unfolding core node optional item suffix declaration shape init initializer parameter named
at_node_unary a b c = ap node (sym (e.rolls-Unary a b c)) ∙
    fold-roll-Expr Shape Node Start (Option Node) Item SuffixWalk Declarations Shape InitParts TypeWalk Named core_rule
    expr_rule start_rule optional_rule stmt_rule suffix_walk declaration_rule declarator_rule init_rule parameter_rule
    typename_rule (Expr-F.Unary a b c)

pub node_unary : (a : ℕ) (b : UnaryOp) (c : Expr) (g : Stage) (s : State) →
    (node (e.Unary a b c)).walk g s ≡ expr_walk (Expr-F.Unary a b (node c)) g s
node_unary a b c g s = ap (λ w. w.walk g s) (at_node_unary a b c)

pub at_node_tick : (a : ℕ) (b : Expr) → node (e.Tick a b) ≡ expr_rule (Expr-F.Tick a (node b))
unfolding core node optional item suffix declaration shape init initializer parameter named
at_node_tick a b = ap node (sym (e.rolls-Tick a b)) ∙
    fold-roll-Expr Shape Node Start (Option Node) Item SuffixWalk Declarations Shape InitParts TypeWalk Named core_rule
    expr_rule start_rule optional_rule stmt_rule suffix_walk declaration_rule declarator_rule init_rule parameter_rule
    typename_rule (Expr-F.Tick a b)

pub node_tick : (a : ℕ) (b : Expr) (g : Stage) (s : State) →
    (node (e.Tick a b)).walk g s ≡ expr_walk (Expr-F.Tick a (node b)) g s
node_tick a b g s = ap (λ w. w.walk g s) (at_node_tick a b)

pub at_node_tickblock : (a : ℕ) (b : (List Stmt)) → node (e.TickBlock a b) ≡ expr_rule (Expr-F.TickBlock a (map item b))
unfolding core node optional item suffix declaration shape init initializer parameter named
at_node_tickblock a b = ap node (sym (e.rolls-TickBlock a b)) ∙
    fold-roll-Expr Shape Node Start (Option Node) Item SuffixWalk Declarations Shape InitParts TypeWalk Named core_rule
    expr_rule start_rule optional_rule stmt_rule suffix_walk declaration_rule declarator_rule init_rule parameter_rule
    typename_rule (Expr-F.TickBlock a b)

pub node_tickblock : (a : ℕ) (b : (List Stmt)) (g : Stage) (s : State) →
    (node (e.TickBlock a b)).walk g s ≡ expr_walk (Expr-F.TickBlock a (map item b)) g s
node_tickblock a b g s = ap (λ w. w.walk g s) (at_node_tickblock a b)

pub at_node_cast : (a : ℕ) (b : Typename) (c : Expr) →
    node (e.Cast a b c) ≡ expr_rule (Expr-F.Cast a (named b) (node c))
unfolding core node optional item suffix declaration shape init initializer parameter named
at_node_cast a b c = ap node (sym (e.rolls-Cast a b c)) ∙
    fold-roll-Expr Shape Node Start (Option Node) Item SuffixWalk Declarations Shape InitParts TypeWalk Named core_rule
    expr_rule start_rule optional_rule stmt_rule suffix_walk declaration_rule declarator_rule init_rule parameter_rule
    typename_rule (Expr-F.Cast a b c)

pub node_cast : (a : ℕ) (b : Typename) (c : Expr) (g : Stage) (s : State) →
    (node (e.Cast a b c)).walk g s ≡ expr_walk (Expr-F.Cast a (named b) (node c)) g s
node_cast a b c g s = ap (λ w. w.walk g s) (at_node_cast a b c)

pub at_node_sizeof : (a : ℕ) (b : Typename) → node (e.Sizeof a b) ≡ expr_rule (Expr-F.Sizeof a (named b))
unfolding core node optional item suffix declaration shape init initializer parameter named
at_node_sizeof a b = ap node (sym (e.rolls-Sizeof a b)) ∙
    fold-roll-Expr Shape Node Start (Option Node) Item SuffixWalk Declarations Shape InitParts TypeWalk Named core_rule
    expr_rule start_rule optional_rule stmt_rule suffix_walk declaration_rule declarator_rule init_rule parameter_rule
    typename_rule (Expr-F.Sizeof a b)

pub node_sizeof : (a : ℕ) (b : Typename) (g : Stage) (s : State) →
    (node (e.Sizeof a b)).walk g s ≡ expr_walk (Expr-F.Sizeof a (named b)) g s
node_sizeof a b g s = ap (λ w. w.walk g s) (at_node_sizeof a b)

pub at_node_binary : (a : ℕ) (b : BinaryOp) (c : (Expr × Expr)) →
    node (e.Binary a b c) ≡ expr_rule (Expr-F.Binary a b (node c.0, node c.1))
unfolding core node optional item suffix declaration shape init initializer parameter named
at_node_binary a b c = ap node (sym (e.rolls-Binary a b c)) ∙
    fold-roll-Expr Shape Node Start (Option Node) Item SuffixWalk Declarations Shape InitParts TypeWalk Named core_rule
    expr_rule start_rule optional_rule stmt_rule suffix_walk declaration_rule declarator_rule init_rule parameter_rule
    typename_rule (Expr-F.Binary a b c)

pub node_binary : (a : ℕ) (b : BinaryOp) (c : (Expr × Expr)) (g : Stage) (s : State) →
    (node (e.Binary a b c)).walk g s ≡ expr_walk (Expr-F.Binary a b (node c.0, node c.1)) g s
node_binary a b c g s = ap (λ w. w.walk g s) (at_node_binary a b c)

pub at_node_choice : (a : ℕ) (b : Expr) (c : Expr) (d : Expr) →
    node (e.Choice a b c d) ≡ expr_rule (Expr-F.Choice a (node b) (node c) (node d))
unfolding core node optional item suffix declaration shape init initializer parameter named
at_node_choice a b c d = ap node (sym (e.rolls-Choice a b c d)) ∙
    fold-roll-Expr Shape Node Start (Option Node) Item SuffixWalk Declarations Shape InitParts TypeWalk Named core_rule
    expr_rule start_rule optional_rule stmt_rule suffix_walk declaration_rule declarator_rule init_rule parameter_rule
    typename_rule (Expr-F.Choice a b c d)

pub node_choice : (a : ℕ) (b : Expr) (c : Expr) (d : Expr) (g : Stage) (s : State) →
    (node (e.Choice a b c d)).walk g s ≡ expr_walk (Expr-F.Choice a (node b) (node c) (node d)) g s
node_choice a b c d g s = ap (λ w. w.walk g s) (at_node_choice a b c d)

pub at_node_assign : (a : ℕ) (b : (Expr × Expr)) →
    node (e.Assign a b) ≡ expr_rule (Expr-F.Assign a (node b.0, node b.1))
unfolding core node optional item suffix declaration shape init initializer parameter named
at_node_assign a b = ap node (sym (e.rolls-Assign a b)) ∙
    fold-roll-Expr Shape Node Start (Option Node) Item SuffixWalk Declarations Shape InitParts TypeWalk Named core_rule
    expr_rule start_rule optional_rule stmt_rule suffix_walk declaration_rule declarator_rule init_rule parameter_rule
    typename_rule (Expr-F.Assign a b)

pub node_assign : (a : ℕ) (b : (Expr × Expr)) (g : Stage) (s : State) →
    (node (e.Assign a b)).walk g s ≡ expr_walk (Expr-F.Assign a (node b.0, node b.1)) g s
node_assign a b g s = ap (λ w. w.walk g s) (at_node_assign a b)

pub at_node_modify : (a : ℕ) (b : ModifyOp) (c : (Expr × Expr)) →
    node (e.Modify a b c) ≡ expr_rule (Expr-F.Modify a b (node c.0, node c.1))
unfolding core node optional item suffix declaration shape init initializer parameter named
at_node_modify a b c = ap node (sym (e.rolls-Modify a b c)) ∙
    fold-roll-Expr Shape Node Start (Option Node) Item SuffixWalk Declarations Shape InitParts TypeWalk Named core_rule
    expr_rule start_rule optional_rule stmt_rule suffix_walk declaration_rule declarator_rule init_rule parameter_rule
    typename_rule (Expr-F.Modify a b c)

pub node_modify : (a : ℕ) (b : ModifyOp) (c : (Expr × Expr)) (g : Stage) (s : State) →
    (node (e.Modify a b c)).walk g s ≡ expr_walk (Expr-F.Modify a b (node c.0, node c.1)) g s
node_modify a b c g s = ap (λ w. w.walk g s) (at_node_modify a b c)

pub at_node_comma : (a : ℕ) (b : (Expr × Expr)) → node (e.Comma a b) ≡ expr_rule (Expr-F.Comma a (node b.0, node b.1))
unfolding core node optional item suffix declaration shape init initializer parameter named
at_node_comma a b = ap node (sym (e.rolls-Comma a b)) ∙
    fold-roll-Expr Shape Node Start (Option Node) Item SuffixWalk Declarations Shape InitParts TypeWalk Named core_rule
    expr_rule start_rule optional_rule stmt_rule suffix_walk declaration_rule declarator_rule init_rule parameter_rule
    typename_rule (Expr-F.Comma a b)

pub node_comma : (a : ℕ) (b : (Expr × Expr)) (g : Stage) (s : State) →
    (node (e.Comma a b)).walk g s ≡ expr_walk (Expr-F.Comma a (node b.0, node b.1)) g s
node_comma a b g s = ap (λ w. w.walk g s) (at_node_comma a b)

pub ruleset expressions = (
  node_name,
  node_number,
  node_character,
  node_string,
  node_paren,
  node_compile,
  node_local,
  node_param,
  node_index,
  node_call,
  node_step,
  node_unary,
  node_tick,
  node_tickblock,
  node_cast,
  node_sizeof,
  node_binary,
  node_choice,
  node_assign,
  node_modify,
  node_comma,
)

pub at_item_empty : item st.Empty ≡ stmt_rule Stmt-F.Empty
unfolding core node optional item suffix declaration shape init initializer parameter named
at_item_empty = ap item (sym st.rolls-Empty) ∙
    fold-roll-Stmt Shape Node Start (Option Node) Item SuffixWalk Declarations Shape InitParts TypeWalk Named core_rule
    expr_rule start_rule optional_rule stmt_rule suffix_walk declaration_rule declarator_rule init_rule parameter_rule
    typename_rule Stmt-F.Empty

pub item_empty : (g : Around) (s : State) → (item st.Empty).walk g s ≡ statement_walk Stmt-F.Empty g s
item_empty g s = ap (λ w. w.walk g s) (at_item_empty)

pub at_item_expr : (a : Expr) → item (st.Expr a) ≡ stmt_rule (Stmt-F.Expr (node a))
unfolding core node optional item suffix declaration shape init initializer parameter named
at_item_expr a = ap item (sym (st.rolls-Expr a)) ∙
    fold-roll-Stmt Shape Node Start (Option Node) Item SuffixWalk Declarations Shape InitParts TypeWalk Named core_rule
    expr_rule start_rule optional_rule stmt_rule suffix_walk declaration_rule declarator_rule init_rule parameter_rule
    typename_rule (Stmt-F.Expr a)

pub item_expr : (a : Expr) (g : Around) (s : State) →
    (item (st.Expr a)).walk g s ≡ statement_walk (Stmt-F.Expr (node a)) g s
item_expr a g s = ap (λ w. w.walk g s) (at_item_expr a)

pub at_item_block : (a : (List Stmt)) → item (st.Block a) ≡ stmt_rule (Stmt-F.Block (map item a))
unfolding core node optional item suffix declaration shape init initializer parameter named
at_item_block a = ap item (sym (st.rolls-Block a)) ∙
    fold-roll-Stmt Shape Node Start (Option Node) Item SuffixWalk Declarations Shape InitParts TypeWalk Named core_rule
    expr_rule start_rule optional_rule stmt_rule suffix_walk declaration_rule declarator_rule init_rule parameter_rule
    typename_rule (Stmt-F.Block a)

pub item_block : (a : (List Stmt)) (g : Around) (s : State) →
    (item (st.Block a)).walk g s ≡ statement_walk (Stmt-F.Block (map item a)) g s
item_block a g s = ap (λ w. w.walk g s) (at_item_block a)

pub at_item_local : (a : Declaration) → item (st.Local a) ≡ stmt_rule (Stmt-F.Stmt::Local (declaration a))
unfolding core node optional item suffix declaration shape init initializer parameter named
at_item_local a = ap item (sym (st.rolls-Local a)) ∙
    fold-roll-Stmt Shape Node Start (Option Node) Item SuffixWalk Declarations Shape InitParts TypeWalk Named core_rule
    expr_rule start_rule optional_rule stmt_rule suffix_walk declaration_rule declarator_rule init_rule parameter_rule
    typename_rule (Stmt-F.Stmt::Local a)

pub item_local : (a : Declaration) (g : Around) (s : State) →
    (item (st.Local a)).walk g s ≡ statement_walk (Stmt-F.Stmt::Local (declaration a)) g s
item_local a g s = ap (λ w. w.walk g s) (at_item_local a)

pub at_item_if : (a : ℕ) (b : Expr) (c : Stmt) → item (st.If a b c) ≡ stmt_rule (Stmt-F.If a (node b) (item c))
unfolding core node optional item suffix declaration shape init initializer parameter named
at_item_if a b c = ap item (sym (st.rolls-If a b c)) ∙
    fold-roll-Stmt Shape Node Start (Option Node) Item SuffixWalk Declarations Shape InitParts TypeWalk Named core_rule
    expr_rule start_rule optional_rule stmt_rule suffix_walk declaration_rule declarator_rule init_rule parameter_rule
    typename_rule (Stmt-F.If a b c)

pub item_if : (a : ℕ) (b : Expr) (c : Stmt) (g : Around) (s : State) →
    (item (st.If a b c)).walk g s ≡ statement_walk (Stmt-F.If a (node b) (item c)) g s
item_if a b c g s = ap (λ w. w.walk g s) (at_item_if a b c)

pub at_item_ifelse : (a : ℕ) (b : Expr) (c : Stmt) (d : Stmt) →
    item (st.IfElse a b c d) ≡ stmt_rule (Stmt-F.IfElse a (node b) (item c) (item d))
unfolding core node optional item suffix declaration shape init initializer parameter named
at_item_ifelse a b c d = ap item (sym (st.rolls-IfElse a b c d)) ∙
    fold-roll-Stmt Shape Node Start (Option Node) Item SuffixWalk Declarations Shape InitParts TypeWalk Named core_rule
    expr_rule start_rule optional_rule stmt_rule suffix_walk declaration_rule declarator_rule init_rule parameter_rule
    typename_rule (Stmt-F.IfElse a b c d)

pub item_ifelse : (a : ℕ) (b : Expr) (c : Stmt) (d : Stmt) (g : Around) (s : State) →
    (item (st.IfElse a b c d)).walk g s ≡ statement_walk (Stmt-F.IfElse a (node b) (item c) (item d)) g s
item_ifelse a b c d g s = ap (λ w. w.walk g s) (at_item_ifelse a b c d)

pub at_item_while : (a : ℕ) (b : Expr) (c : Stmt) → item (st.While a b c) ≡ stmt_rule (Stmt-F.While a (node b) (item c))
unfolding core node optional item suffix declaration shape init initializer parameter named
at_item_while a b c = ap item (sym (st.rolls-While a b c)) ∙
    fold-roll-Stmt Shape Node Start (Option Node) Item SuffixWalk Declarations Shape InitParts TypeWalk Named core_rule
    expr_rule start_rule optional_rule stmt_rule suffix_walk declaration_rule declarator_rule init_rule parameter_rule
    typename_rule (Stmt-F.While a b c)

pub item_while : (a : ℕ) (b : Expr) (c : Stmt) (g : Around) (s : State) →
    (item (st.While a b c)).walk g s ≡ statement_walk (Stmt-F.While a (node b) (item c)) g s
item_while a b c g s = ap (λ w. w.walk g s) (at_item_while a b c)

pub at_item_do : (a : ℕ) (b : Stmt) (c : Expr) → item (st.Do a b c) ≡ stmt_rule (Stmt-F.Do a (item b) (node c))
unfolding core node optional item suffix declaration shape init initializer parameter named
at_item_do a b c = ap item (sym (st.rolls-Do a b c)) ∙
    fold-roll-Stmt Shape Node Start (Option Node) Item SuffixWalk Declarations Shape InitParts TypeWalk Named core_rule
    expr_rule start_rule optional_rule stmt_rule suffix_walk declaration_rule declarator_rule init_rule parameter_rule
    typename_rule (Stmt-F.Do a b c)

pub item_do : (a : ℕ) (b : Stmt) (c : Expr) (g : Around) (s : State) →
    (item (st.Do a b c)).walk g s ≡ statement_walk (Stmt-F.Do a (item b) (node c)) g s
item_do a b c g s = ap (λ w. w.walk g s) (at_item_do a b c)

pub at_item_for : (a : ℕ) (b : Stmt) (c : OptionalExpr) (d : OptionalExpr) (h : Stmt) →
    item (st.For a b c d h) ≡ stmt_rule (Stmt-F.For a (item b) (optional c) (optional d) (item h))
unfolding core node optional item suffix declaration shape init initializer parameter named
at_item_for a b c d h = ap item (sym (st.rolls-For a b c d h)) ∙
    fold-roll-Stmt Shape Node Start (Option Node) Item SuffixWalk Declarations Shape InitParts TypeWalk Named core_rule
    expr_rule start_rule optional_rule stmt_rule suffix_walk declaration_rule declarator_rule init_rule parameter_rule
    typename_rule (Stmt-F.For a b c d h)

pub item_for : (a : ℕ) (b : Stmt) (c : OptionalExpr) (d : OptionalExpr) (h : Stmt) (g : Around) (s : State) →
    (item (st.For a b c d h)).walk g s ≡ statement_walk (Stmt-F.For a (item b) (optional c) (optional d) (item h)) g s
item_for a b c d h g s = ap (λ w. w.walk g s) (at_item_for a b c d h)

pub at_item_switch : (a : ℕ) (b : Expr) (c : (List Stmt)) →
    item (st.Switch a b c) ≡ stmt_rule (Stmt-F.Switch a (node b) (map item c))
unfolding core node optional item suffix declaration shape init initializer parameter named
at_item_switch a b c = ap item (sym (st.rolls-Switch a b c)) ∙
    fold-roll-Stmt Shape Node Start (Option Node) Item SuffixWalk Declarations Shape InitParts TypeWalk Named core_rule
    expr_rule start_rule optional_rule stmt_rule suffix_walk declaration_rule declarator_rule init_rule parameter_rule
    typename_rule (Stmt-F.Switch a b c)

pub item_switch : (a : ℕ) (b : Expr) (c : (List Stmt)) (g : Around) (s : State) →
    (item (st.Switch a b c)).walk g s ≡ statement_walk (Stmt-F.Switch a (node b) (map item c)) g s
item_switch a b c g s = ap (λ w. w.walk g s) (at_item_switch a b c)

pub at_item_case : (a : ℕ) (b : Expr) → item (st.Case a b) ≡ stmt_rule (Stmt-F.Case a (node b))
unfolding core node optional item suffix declaration shape init initializer parameter named
at_item_case a b = ap item (sym (st.rolls-Case a b)) ∙
    fold-roll-Stmt Shape Node Start (Option Node) Item SuffixWalk Declarations Shape InitParts TypeWalk Named core_rule
    expr_rule start_rule optional_rule stmt_rule suffix_walk declaration_rule declarator_rule init_rule parameter_rule
    typename_rule (Stmt-F.Case a b)

pub item_case : (a : ℕ) (b : Expr) (g : Around) (s : State) →
    (item (st.Case a b)).walk g s ≡ statement_walk (Stmt-F.Case a (node b)) g s
item_case a b g s = ap (λ w. w.walk g s) (at_item_case a b)

pub at_item_default : (a : ℕ) → item (st.Default a) ≡ stmt_rule (Stmt-F.Default a)
unfolding core node optional item suffix declaration shape init initializer parameter named
at_item_default a = ap item (sym (st.rolls-Default a)) ∙
    fold-roll-Stmt Shape Node Start (Option Node) Item SuffixWalk Declarations Shape InitParts TypeWalk Named core_rule
    expr_rule start_rule optional_rule stmt_rule suffix_walk declaration_rule declarator_rule init_rule parameter_rule
    typename_rule (Stmt-F.Default a)

pub item_default : (a : ℕ) (g : Around) (s : State) →
    (item (st.Default a)).walk g s ≡ statement_walk (Stmt-F.Default a) g s
item_default a g s = ap (λ w. w.walk g s) (at_item_default a)

pub at_item_break : (a : ℕ) → item (st.Break a) ≡ stmt_rule (Stmt-F.Break a)
unfolding core node optional item suffix declaration shape init initializer parameter named
at_item_break a = ap item (sym (st.rolls-Break a)) ∙
    fold-roll-Stmt Shape Node Start (Option Node) Item SuffixWalk Declarations Shape InitParts TypeWalk Named core_rule
    expr_rule start_rule optional_rule stmt_rule suffix_walk declaration_rule declarator_rule init_rule parameter_rule
    typename_rule (Stmt-F.Break a)

pub item_break : (a : ℕ) (g : Around) (s : State) → (item (st.Break a)).walk g s ≡ statement_walk (Stmt-F.Break a) g s
item_break a g s = ap (λ w. w.walk g s) (at_item_break a)

pub at_item_continue : (a : ℕ) → item (st.Continue a) ≡ stmt_rule (Stmt-F.Continue a)
unfolding core node optional item suffix declaration shape init initializer parameter named
at_item_continue a = ap item (sym (st.rolls-Continue a)) ∙
    fold-roll-Stmt Shape Node Start (Option Node) Item SuffixWalk Declarations Shape InitParts TypeWalk Named core_rule
    expr_rule start_rule optional_rule stmt_rule suffix_walk declaration_rule declarator_rule init_rule parameter_rule
    typename_rule (Stmt-F.Continue a)

pub item_continue : (a : ℕ) (g : Around) (s : State) →
    (item (st.Continue a)).walk g s ≡ statement_walk (Stmt-F.Continue a) g s
item_continue a g s = ap (λ w. w.walk g s) (at_item_continue a)

pub at_item_return : (a : ℕ) (b : OptionalExpr) → item (st.Return a b) ≡ stmt_rule (Stmt-F.Return a (optional b))
unfolding core node optional item suffix declaration shape init initializer parameter named
at_item_return a b = ap item (sym (st.rolls-Return a b)) ∙
    fold-roll-Stmt Shape Node Start (Option Node) Item SuffixWalk Declarations Shape InitParts TypeWalk Named core_rule
    expr_rule start_rule optional_rule stmt_rule suffix_walk declaration_rule declarator_rule init_rule parameter_rule
    typename_rule (Stmt-F.Return a b)

pub item_return : (a : ℕ) (b : OptionalExpr) (g : Around) (s : State) →
    (item (st.Return a b)).walk g s ≡ statement_walk (Stmt-F.Return a (optional b)) g s
item_return a b g s = ap (λ w. w.walk g s) (at_item_return a b)

pub ruleset statements = (
  item_empty,
  item_expr,
  item_block,
  item_local,
  item_if,
  item_ifelse,
  item_while,
  item_do,
  item_for,
  item_switch,
  item_case,
  item_default,
  item_break,
  item_continue,
  item_return,
)

pub optional_absent : optional oe.Absent ≡ optional_rule OptionalExpr-F.OptionalExpr::Absent
unfolding core node optional item suffix declaration shape init initializer parameter named
optional_absent = ap optional (sym oe.rolls-Absent) ∙
    fold-roll-OptionalExpr Shape Node Start (Option Node) Item SuffixWalk Declarations Shape InitParts TypeWalk Named
    core_rule expr_rule start_rule optional_rule stmt_rule suffix_walk declaration_rule declarator_rule init_rule
    parameter_rule typename_rule OptionalExpr-F.OptionalExpr::Absent

pub optional_present : (a : Expr) → optional (oe.Present a) ≡ optional_rule (OptionalExpr-F.Present (node a))
unfolding core node optional item suffix declaration shape init initializer parameter named
optional_present a = ap optional (sym (oe.rolls-Present a)) ∙
    fold-roll-OptionalExpr Shape Node Start (Option Node) Item SuffixWalk Declarations Shape InitParts TypeWalk Named
    core_rule expr_rule start_rule optional_rule stmt_rule suffix_walk declaration_rule declarator_rule init_rule
    parameter_rule typename_rule (OptionalExpr-F.Present a)

pub ruleset optionals = (optional_absent, optional_present)

pub initializer_absent : initializer iz.Absent ≡ start_rule Initializer-F.Initializer::Absent
unfolding core node optional item suffix declaration shape init initializer parameter named
initializer_absent = ap initializer (sym iz.rolls-Absent) ∙
    fold-roll-Initializer Shape Node Start (Option Node) Item SuffixWalk Declarations Shape InitParts TypeWalk Named
    core_rule expr_rule start_rule optional_rule stmt_rule suffix_walk declaration_rule declarator_rule init_rule
    parameter_rule typename_rule Initializer-F.Initializer::Absent

pub initializer_value : (a : Expr) → initializer (iz.Value a) ≡ start_rule (Initializer-F.Value (node a))
unfolding core node optional item suffix declaration shape init initializer parameter named
initializer_value a = ap initializer (sym (iz.rolls-Value a)) ∙
    fold-roll-Initializer Shape Node Start (Option Node) Item SuffixWalk Declarations Shape InitParts TypeWalk Named
    core_rule expr_rule start_rule optional_rule stmt_rule suffix_walk declaration_rule declarator_rule init_rule
    parameter_rule typename_rule (Initializer-F.Value a)

pub initializer_list : (a : (List Expr)) (b : Bool) →
    initializer (iz.List a b) ≡ start_rule (Initializer-F.List (map node a) b)
unfolding core node optional item suffix declaration shape init initializer parameter named
initializer_list a b = ap initializer (sym (iz.rolls-List a b)) ∙
    fold-roll-Initializer Shape Node Start (Option Node) Item SuffixWalk Declarations Shape InitParts TypeWalk Named
    core_rule expr_rule start_rule optional_rule stmt_rule suffix_walk declaration_rule declarator_rule init_rule
    parameter_rule typename_rule (Initializer-F.List a b)

pub ruleset initializers = (initializer_absent, initializer_value, initializer_list)

pub at_suffix_array : (a : OptionalExpr) → suffix (sx.Array a) ≡ suffix_walk (Suffix-F.Array (optional a))
unfolding core node optional item suffix declaration shape init initializer parameter named
at_suffix_array a = ap suffix (sym (sx.rolls-Array a)) ∙
    fold-roll-Suffix Shape Node Start (Option Node) Item SuffixWalk Declarations Shape InitParts TypeWalk Named core_rule
    expr_rule start_rule optional_rule stmt_rule suffix_walk declaration_rule declarator_rule init_rule parameter_rule
    typename_rule (Suffix-F.Array a)

pub suffix_array : (a : OptionalExpr) (g : Stage) (s : State) →
    (suffix (sx.Array a)).walk g s ≡ suffix_steps (Suffix-F.Array (optional a)) g s
suffix_array a g s = ap (λ w. w.walk g s) (at_suffix_array a)

pub at_suffix_unlisted : suffix sx.Unlisted ≡ suffix_walk Suffix-F.Unlisted
unfolding core node optional item suffix declaration shape init initializer parameter named
at_suffix_unlisted = ap suffix (sym sx.rolls-Unlisted) ∙
    fold-roll-Suffix Shape Node Start (Option Node) Item SuffixWalk Declarations Shape InitParts TypeWalk Named core_rule
    expr_rule start_rule optional_rule stmt_rule suffix_walk declaration_rule declarator_rule init_rule parameter_rule
    typename_rule Suffix-F.Unlisted

pub suffix_unlisted : (g : Stage) (s : State) → (suffix sx.Unlisted).walk g s ≡ suffix_steps Suffix-F.Unlisted g s
suffix_unlisted g s = ap (λ w. w.walk g s) (at_suffix_unlisted)

pub at_suffix_nothing : suffix sx.Nothing ≡ suffix_walk Suffix-F.Nothing
unfolding core node optional item suffix declaration shape init initializer parameter named
at_suffix_nothing = ap suffix (sym sx.rolls-Nothing) ∙
    fold-roll-Suffix Shape Node Start (Option Node) Item SuffixWalk Declarations Shape InitParts TypeWalk Named core_rule
    expr_rule start_rule optional_rule stmt_rule suffix_walk declaration_rule declarator_rule init_rule parameter_rule
    typename_rule Suffix-F.Nothing

pub suffix_nothing : (g : Stage) (s : State) → (suffix sx.Nothing).walk g s ≡ suffix_steps Suffix-F.Nothing g s
suffix_nothing g s = ap (λ w. w.walk g s) (at_suffix_nothing)

pub at_suffix_listed : (a : (List Parameter)) → suffix (sx.Listed a) ≡ suffix_walk (Suffix-F.Listed (map parameter a))
unfolding core node optional item suffix declaration shape init initializer parameter named
at_suffix_listed a = ap suffix (sym (sx.rolls-Listed a)) ∙
    fold-roll-Suffix Shape Node Start (Option Node) Item SuffixWalk Declarations Shape InitParts TypeWalk Named core_rule
    expr_rule start_rule optional_rule stmt_rule suffix_walk declaration_rule declarator_rule init_rule parameter_rule
    typename_rule (Suffix-F.Listed a)

pub suffix_listed : (a : (List Parameter)) (g : Stage) (s : State) →
    (suffix (sx.Listed a)).walk g s ≡ suffix_steps (Suffix-F.Listed (map parameter a)) g s
suffix_listed a g s = ap (λ w. w.walk g s) (at_suffix_listed a)

pub ruleset suffixes = (suffix_array, suffix_unlisted, suffix_nothing, suffix_listed)

pub core_absent : core co.Absent ≡ core_rule Core-F.Core::Absent
unfolding core node optional item suffix declaration shape init initializer parameter named
core_absent = ap core (sym co.rolls-Absent) ∙
    fold-roll-Core Shape Node Start (Option Node) Item SuffixWalk Declarations Shape InitParts TypeWalk Named core_rule
    expr_rule start_rule optional_rule stmt_rule suffix_walk declaration_rule declarator_rule init_rule parameter_rule
    typename_rule Core-F.Core::Absent

pub core_name : (a : ℕ) (b : (List ℕ)) → core (co.Name a b) ≡ core_rule (Core-F.Core::Name a b)
unfolding core node optional item suffix declaration shape init initializer parameter named
core_name a b = ap core (sym (co.rolls-Name a b)) ∙
    fold-roll-Core Shape Node Start (Option Node) Item SuffixWalk Declarations Shape InitParts TypeWalk Named core_rule
    expr_rule start_rule optional_rule stmt_rule suffix_walk declaration_rule declarator_rule init_rule parameter_rule
    typename_rule (Core-F.Core::Name a b)

pub core_paren : (a : Declarator) → core (co.Paren a) ≡ core_rule (Core-F.Core::Paren (shape a))
unfolding core node optional item suffix declaration shape init initializer parameter named
core_paren a = ap core (sym (co.rolls-Paren a)) ∙
    fold-roll-Core Shape Node Start (Option Node) Item SuffixWalk Declarations Shape InitParts TypeWalk Named core_rule
    expr_rule start_rule optional_rule stmt_rule suffix_walk declaration_rule declarator_rule init_rule parameter_rule
    typename_rule (Core-F.Core::Paren a)

pub ruleset cores = (core_absent, core_name, core_paren)

-- a declarator
pub at_shape : (x : Declarator) →
    shape x ≡ declarator_of (core (out-Declarator x).core) (map suffix (out-Declarator x).suffixes)
    (out-Declarator x).prefixes
unfolding core node optional item suffix declaration shape init initializer parameter named
at_shape x = fold_out-Declarator Shape Node Start (Option Node) Item SuffixWalk Declarations Shape InitParts TypeWalk
    Named core_rule expr_rule start_rule optional_rule stmt_rule suffix_walk declaration_rule declarator_rule init_rule
    parameter_rule typename_rule x

pub shape_walk : (x : Declarator) (g : Stage) (s : State) →
    (shape x).walk g s ≡ declarator_walk (core (out-Declarator x).core) (map suffix (out-Declarator x).suffixes)
    (out-Declarator x).prefixes g s
shape_walk x g s = ap (λ w. w.walk g s) (at_shape x)

-- a type name
pub at_named : (x : Typename) → named x ≡ typename_of (out-Typename x).base (shape (out-Typename x).declarator)
unfolding core node optional item suffix declaration shape init initializer parameter named
at_named x = fold_out-Typename Shape Node Start (Option Node) Item SuffixWalk Declarations Shape InitParts TypeWalk
    Named core_rule expr_rule start_rule optional_rule stmt_rule suffix_walk declaration_rule declarator_rule init_rule
    parameter_rule typename_rule x

pub named_walk : (x : Typename) (line : ℕ) (g : Stage) (s : State) →
    (named x).walk line g s ≡ typename_walk (out-Typename x).base (shape (out-Typename x).declarator) line g s
named_walk x line g s = ap (λ w. w.walk line g s) (at_named x)

-- a parameter
pub at_parameter : (x : Parameter) →
    parameter x ≡ record {
      staged = (shape (out-Parameter x).declarator).declared.staged;
      walk =
          parameter_steps (out-Parameter x).line (out-Parameter x).base (shape (out-Parameter x).declarator);
    }
unfolding core node optional item suffix declaration shape init initializer parameter named
at_parameter x = fold_out-Parameter Shape Node Start (Option Node) Item SuffixWalk Declarations Shape InitParts TypeWalk
    Named core_rule expr_rule start_rule optional_rule stmt_rule suffix_walk declaration_rule declarator_rule init_rule
    parameter_rule typename_rule x

pub parameter_walk : (x : Parameter) (g : Stage) (s : State) →
    (parameter x).walk g s ≡ parameter_steps (out-Parameter x).line (out-Parameter x).base
    (shape (out-Parameter x).declarator) g s
parameter_walk x g s = ap (λ w. w.walk g s) (at_parameter x)

-- a declarator and its initializer
pub at_init : (x : Init) →
    init x ≡ record { shape = shape (out-Init x).declarator; start = initializer (out-Init x).value }
unfolding core node optional item suffix declaration shape init initializer parameter named
at_init x = fold_out-Init Shape Node Start (Option Node) Item SuffixWalk Declarations Shape InitParts TypeWalk Named
    core_rule expr_rule start_rule optional_rule stmt_rule suffix_walk declaration_rule declarator_rule init_rule
    parameter_rule typename_rule x

-- a declaration
pub at_declaration : (x : Declaration) →
    declaration x ≡ record {
      line = (out-Declaration x).line;
      base = (out-Declaration x).base;
      inits =
          map init (out-Declaration x).inits;
    }
unfolding core node optional item suffix declaration shape init initializer parameter named
at_declaration x = fold_out-Declaration Shape Node Start (Option Node) Item SuffixWalk Declarations Shape InitParts
    TypeWalk Named core_rule expr_rule start_rule optional_rule stmt_rule suffix_walk declaration_rule declarator_rule
    init_rule parameter_rule typename_rule x

-- one declarator, by its parts
pub by_init : (line : ℕ) (b : Base) (g : Stage) (x : Init) (s : State)
    → declare_one line b g (init x) s ≡ declare_by line b g (shape (out-Init x).declarator)
    (initializer (out-Init x).value) s
by_init line b g x s = ap (λ i. declare_one line b g i s) (at_init x)

pub by_declaration : (x : Declaration) (g : Stage) (s : State)
    → declaration_walk (declaration x) g s ≡ declare_each (out-Declaration x).line (out-Declaration x).base g
    (map init (out-Declaration x).inits) s
by_declaration x g s = ap (λ d. declaration_walk d g s) (at_declaration x)

pub ruleset types = (shape_walk, named_walk, parameter_walk, by_init, by_declaration)

pub empty_empty : (item st.Empty).is_empty ≡ true
empty_empty = ap (λ w. w.is_empty) (at_item_empty)

pub empty_expr : (a : Expr) → (item (st.Expr a)).is_empty ≡ false
empty_expr a = ap (λ w. w.is_empty) (at_item_expr a)

pub empty_block : (a : (List Stmt)) → (item (st.Block a)).is_empty ≡ false
empty_block a = ap (λ w. w.is_empty) (at_item_block a)

pub empty_local : (a : Declaration) → (item (st.Local a)).is_empty ≡ false
empty_local a = ap (λ w. w.is_empty) (at_item_local a)

pub empty_if : (a : ℕ) (b : Expr) (c : Stmt) → (item (st.If a b c)).is_empty ≡ false
empty_if a b c = ap (λ w. w.is_empty) (at_item_if a b c)

pub empty_ifelse : (a : ℕ) (b : Expr) (c : Stmt) (d : Stmt) → (item (st.IfElse a b c d)).is_empty ≡ false
empty_ifelse a b c d = ap (λ w. w.is_empty) (at_item_ifelse a b c d)

pub empty_while : (a : ℕ) (b : Expr) (c : Stmt) → (item (st.While a b c)).is_empty ≡ false
empty_while a b c = ap (λ w. w.is_empty) (at_item_while a b c)

pub empty_do : (a : ℕ) (b : Stmt) (c : Expr) → (item (st.Do a b c)).is_empty ≡ false
empty_do a b c = ap (λ w. w.is_empty) (at_item_do a b c)

pub empty_for : (a : ℕ) (b : Stmt) (c : OptionalExpr) (d : OptionalExpr) (h : Stmt) →
    (item (st.For a b c d h)).is_empty ≡ false
empty_for a b c d h = ap (λ w. w.is_empty) (at_item_for a b c d h)

pub empty_switch : (a : ℕ) (b : Expr) (c : (List Stmt)) → (item (st.Switch a b c)).is_empty ≡ false
empty_switch a b c = ap (λ w. w.is_empty) (at_item_switch a b c)

pub empty_case : (a : ℕ) (b : Expr) → (item (st.Case a b)).is_empty ≡ false
empty_case a b = ap (λ w. w.is_empty) (at_item_case a b)

pub empty_default : (a : ℕ) → (item (st.Default a)).is_empty ≡ false
empty_default a = ap (λ w. w.is_empty) (at_item_default a)

pub empty_break : (a : ℕ) → (item (st.Break a)).is_empty ≡ false
empty_break a = ap (λ w. w.is_empty) (at_item_break a)

pub empty_continue : (a : ℕ) → (item (st.Continue a)).is_empty ≡ false
empty_continue a = ap (λ w. w.is_empty) (at_item_continue a)

pub empty_return : (a : ℕ) (b : OptionalExpr) → (item (st.Return a b)).is_empty ≡ false
empty_return a b = ap (λ w. w.is_empty) (at_item_return a b)

pub ruleset empties = (
  empty_empty,
  empty_expr,
  empty_block,
  empty_local,
  empty_if,
  empty_ifelse,
  empty_while,
  empty_do,
  empty_for,
  empty_switch,
  empty_case,
  empty_default,
  empty_break,
  empty_continue,
  empty_return,
)
