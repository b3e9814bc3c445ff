-- Which values are used, and that the nodes that are to give them do: a void expression leaves none. A checked tree
-- keeps this. These are C's rules on void, as far as they concern nodes.
use Rattle.std.specs.Prelude.{◌≡◌, true}
use Rattle.typed_tree.specs.Nodes.{Expr, SetVar, VSet, Load, Store, Modify, Post, Bin, Un, And, Or, Cond, Comma, Void}
use Rattle.typed_tree.specs.Nodes.{Call, CallNumber, Lib, Tick, Capture, Compile, ParamOf, Args, NoArg, Arg, has_value}
use Rattle.typed_tree.specs.Nodes.{Stmt, Eval, Block, If, IfElse, While, Do, For, ForStep, Switch, ReturnValue, Items}
use Rattle.typed_tree.specs.Nodes.{NoItem, Item}

-- an expression leaves a value
abbrev pub Leaves : Expr → Type 0
Leaves e = has_value e ≡ true

abbrev mutual
  -- each value that is used within an expression is left
  pub UsesValues : Expr → Type 0
  UsesValues (SetVar i a) = Leaves a × UsesValues a
  UsesValues (VSet c a) = Leaves a × UsesValues a
  UsesValues (Load width a) = Leaves a × UsesValues a
  UsesValues (Store width a b) = Leaves a × UsesValues a × Leaves b × UsesValues b
  UsesValues (Modify width k a b) = Leaves a × UsesValues a × Leaves b × UsesValues b
  UsesValues (Post width step a) = Leaves a × UsesValues a
  UsesValues (Bin k a b) = Leaves a × UsesValues a × Leaves b × UsesValues b
  UsesValues (Un k a) = Leaves a × UsesValues a
  UsesValues (And a b) = Leaves a × UsesValues a × Leaves b × UsesValues b
  UsesValues (Or a b) = Leaves a × UsesValues a × Leaves b × UsesValues b
  UsesValues (Cond c a b) =
      Leaves c × UsesValues c × UsesValues a × UsesValues b × (has_value b ≡ has_value a)
  UsesValues (Comma a b) = UsesValues a × UsesValues b
  UsesValues (Void a) = UsesValues a
  UsesValues (Call answer f args) = UseValues args
  UsesValues (CallNumber answer a args) = Leaves a × UsesValues a × UseValues args
  UsesValues (Lib library a) = Leaves a × UsesValues a
  UsesValues (Tick tick args) = UseValues args
  UsesValues (Capture kind a) = Leaves a × UsesValues a
  UsesValues (Compile a) = Leaves a × UsesValues a
  UsesValues (ParamOf a) = Leaves a × UsesValues a
  UsesValues _ = Unit {0}

  -- each argument leaves its value
  pub UseValues : Args → Type 0
  UseValues NoArg = Unit {0}
  UseValues (Arg a args) = Leaves a × UsesValues a × UseValues args

abbrev mutual
  pub UsesValuesStmt : Stmt → Type 0
  UsesValuesStmt (Eval e) = UsesValues e
  UsesValuesStmt (Block variables items) = UseValuesItems variables × UseValuesItems items
  UsesValuesStmt (If e s) = Leaves e × UsesValues e × UsesValuesStmt s
  UsesValuesStmt (IfElse e s t) = Leaves e × UsesValues e × UsesValuesStmt s × UsesValuesStmt t
  UsesValuesStmt (While e s) = Leaves e × UsesValues e × UsesValuesStmt s
  UsesValuesStmt (Do s e) = UsesValuesStmt s × Leaves e × UsesValues e
  UsesValuesStmt (For e s) = Leaves e × UsesValues e × UsesValuesStmt s
  UsesValuesStmt (ForStep e step s) = Leaves e × UsesValues e × UsesValues step × UsesValuesStmt s
  UsesValuesStmt (Switch e variables items) =
      Leaves e × UsesValues e × UseValuesItems variables × UseValuesItems items
  UsesValuesStmt (ReturnValue e) = Leaves e × UsesValues e
  UsesValuesStmt _ = Unit {0}

  pub UseValuesItems : Items → Type 0
  UseValuesItems NoItem = Unit {0}
  UseValuesItems (Item s items) = UsesValuesStmt s × UseValuesItems items
