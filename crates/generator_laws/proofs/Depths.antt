-- No more functions are entered at a time than the specification has nodes.
use Rattle.std.proofs.Common.{ℕ, zero, suc, ◌<◌, ◌≤◌, List, [], ◌∷◌, length, Some}
use Rattle.std.proofs.Common.{arith, slice_get}
use Rattle.history.specs.Syntax.{Syntax, Ticked, Captures, NoCapture, Word, Named, Spliced}
use Rattle.typed_tree.specs.Nodes as node
use Rattle.typed_tree.specs.Nodes.{Const, Var, SetVar, PostVar, VGet, VSet, VPost, Frame, Load, Store, Modify, Post}
use Rattle.typed_tree.specs.Nodes.{Bin, Un, And, Or, Cond, Comma, Void, Call, CallNumber, Getchar, Lib, Capture}
use Rattle.typed_tree.specs.Nodes.{Compile, Local, ParamOf, Expr, Args, Stmt, Eval, Block, Variable, Object}
use Rattle.typed_tree.specs.Nodes.{Parameter, ParameterObject, If, IfElse, While, Do, For, ForStep, Switch, Case}
use Rattle.typed_tree.specs.Nodes.{Default, Break, Continue, Return, ReturnValue, Items}
use Rattle.staged_meaning.specs.Size.{size_of_expr, size_of_stmt}
use Rattle.staged_meaning.specs.Program.{Program, Tick, OfExpression, OfStatement, tick_size, syntax_size}
use Rattle.staged_meaning.specs.Program.{captures_size}
use Rattle.tick_lower_spec.specs.declared.piece.Piece.{Piece}
use Rattle.tick_lower_spec.specs.declared.piece.Piece.TheVariants.{Plain, Captured, GetKey, SetKey, Splice, Nothing}
use Rattle.generator_laws.specs.Pieces.{IsWhole, AreWhole}
use Rattle.routine_spec.specs.Generator.{piece_depth, pieces_depth, syntax_depth, spliced_depth}

some_node : (e : Expr) → 1 ≤ size_of_expr e
some_node (Const word) = omega arith
some_node (node.Captured w i) = omega arith
some_node (Var i) = omega arith
some_node (SetVar i a) = omega arith
some_node (PostVar i width step) = omega arith
some_node (VGet i) = omega arith
some_node (VSet i a) = omega arith
some_node (VPost i step) = omega arith
some_node (Frame offset) = omega arith
some_node (Load width a) = omega arith
some_node (Store width a b) = omega arith
some_node (Modify width kind a b) = omega arith
some_node (Post width step a) = omega arith
some_node (Bin kind a b) = omega arith
some_node (Un kind a) = omega arith
some_node (And a b) = omega arith
some_node (Or a b) = omega arith
some_node (Cond c a b) = omega arith
some_node (Comma a b) = omega arith
some_node (Void a) = omega arith
some_node (Call answer f args) = omega arith
some_node (CallNumber answer a args) = omega arith
some_node Getchar = omega arith
some_node (Lib f a) = omega arith
some_node (node.Tick tick args) = omega arith
some_node (Capture kind a) = omega arith
some_node (node.Splice answer i) = omega arith
some_node (Compile a) = omega arith
some_node Local = omega arith
some_node (ParamOf a) = omega arith

some_statement : (s : Stmt) → 1 ≤ size_of_stmt s
some_statement (Eval e) = omega arith
some_statement (Block variables items) = omega arith
some_statement (Variable i) = omega arith
some_statement (Object offset words) = omega arith
some_statement (Parameter k width) = omega arith
some_statement (ParameterObject k width offset) = omega arith
some_statement (If e s) = omega arith
some_statement (IfElse e s r) = omega arith
some_statement (While e s) = omega arith
some_statement (Do s e) = omega arith
some_statement (For e s) = omega arith
some_statement (ForStep e step s) = omega arith
some_statement (Switch e variables items) = omega arith
some_statement (Case value) = omega arith
some_statement Default = omega arith
some_statement Break = omega arith
some_statement Continue = omega arith
some_statement Return = omega arith
some_statement (ReturnValue e) = omega arith

tick_nodes : (t : Tick) → 1 ≤ tick_size (Some t)
tick_nodes (OfExpression e) = some_node e
tick_nodes (OfStatement s) = some_statement s

-- a tick that is there has a node
some_tick : (ticks : List Tick) (n : ℕ) → n < length ticks → 1 ≤ tick_size (slice_get ticks n)
some_tick [] n l = let z : ⊥ = omega (arith, l) in absurd z
some_tick (t ∷ ts) zero l = tick_nodes t
some_tick (t ∷ ts) (suc n) l = some_tick ts n (omega (arith, l))

within : (f : ℕ → ℕ) (m : ℕ) → ((i : ℕ) → f i ≤ m) → (ps : List Piece) → pieces_depth f ps ≤ m
within f m h [] = omega arith
within f m h (p ∷ ps) =
    let first = one p in
    let rest = within f m h ps in
    omega (arith, first, rest)
  where
    one : (p : Piece) → piece_depth f p ≤ m
    one (Plain op) = omega arith
    one (Captured i) = omega arith
    one (GetKey i) = omega arith
    one (SetKey i) = omega arith
    one (Splice i) = h i
    one Nothing = omega arith

module _ (program : Program) (pieces : ℕ → List Piece) where
  mutual
    pub depth_small : (syntax : Syntax) → IsWhole pieces (length program.ticks) syntax →
        syntax_depth pieces syntax ≤ syntax_size program syntax
    depth_small (Ticked tick cs) w =
        let node = some_tick program.ticks tick w.0 in
        let deep = within (spliced_depth pieces cs) (captures_size program cs) (depth_in cs w.2) (pieces tick) in
        omega (arith, node, deep)

    depth_in : (cs : Captures) → AreWhole pieces (length program.ticks) cs → (i : ℕ) →
        spliced_depth pieces cs i ≤ captures_size program cs
    depth_in NoCapture w i = omega arith
    depth_in (Word word cs) w zero = omega arith
    depth_in (Word word cs) w (suc i) = depth_in cs w i
    depth_in (Named key cs) w zero = omega arith
    depth_in (Named key cs) w (suc i) = depth_in cs w i
    depth_in (Spliced syntax cs) w zero = let d = depth_small syntax w.0 in omega (arith, d)
    depth_in (Spliced syntax cs) w (suc i) = let d = depth_in cs w.1 i in omega (arith, d)
