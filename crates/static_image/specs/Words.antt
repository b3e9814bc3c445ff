-- Each number in a tree is a word: constants, steps, and the values of a switch's labels.
use Rattle.std.specs.Prelude.{◌<◌}
use Rattle.typed_tree.specs.Nodes.{Expr, Const, SetVar, PostVar, Load, Store, Modify, Post, Bin, Un, And, Or, Cond}
use Rattle.typed_tree.specs.Nodes.{Comma, Void, Call, CallNumber, Lib, Tick, Capture, ParamOf, Compile, Args, NoArg}
use Rattle.typed_tree.specs.Nodes.{Arg, Stmt, Eval, Block, If, IfElse}
use Rattle.typed_tree.specs.Nodes.{While, Do, For, ForStep, Switch, Case, ReturnValue, Items, NoItem, Item}

abbrev mutual
  pub HasWords : Expr → Type 0
  HasWords (Const word) = word < 4294967296
  HasWords (SetVar i a) = HasWords a
  HasWords (PostVar i width step) = step < 4294967296
  HasWords (Load width a) = HasWords a
  HasWords (Store width a b) = HasWords a × HasWords b
  HasWords (Modify width kind a b) = HasWords a × HasWords b
  HasWords (Post width step a) = (step < 4294967296) × HasWords a
  HasWords (Bin kind a b) = HasWords a × HasWords b
  HasWords (Un kind a) = HasWords a
  HasWords (And a b) = HasWords a × HasWords b
  HasWords (Or a b) = HasWords a × HasWords b
  HasWords (Cond c a b) = HasWords c × HasWords a × HasWords b
  HasWords (Comma a b) = HasWords a × HasWords b
  HasWords (Void a) = HasWords a
  HasWords (Call answer f args) = HaveWordsArgs args
  HasWords (CallNumber answer a args) = HasWords a × HaveWordsArgs args
  HasWords (Lib library a) = HasWords a
  HasWords (Tick tick args) = HaveWordsArgs args
  HasWords (Capture kind a) = HasWords a
  HasWords (ParamOf a) = HasWords a
  HasWords (Compile a) = HasWords a
  HasWords _ = Unit {0}

  pub HaveWordsArgs : Args → Type 0
  HaveWordsArgs NoArg = Unit {0}
  HaveWordsArgs (Arg a args) = HasWords a × HaveWordsArgs args

abbrev mutual
  pub HasWordsStmt : Stmt → Type 0
  HasWordsStmt (Eval e) = HasWords e
  HasWordsStmt (Block variables items) = HaveWords variables × HaveWords items
  HasWordsStmt (If e s) = HasWords e × HasWordsStmt s
  HasWordsStmt (IfElse e s t) = HasWords e × HasWordsStmt s × HasWordsStmt t
  HasWordsStmt (While e s) = HasWords e × HasWordsStmt s
  HasWordsStmt (Do s e) = HasWordsStmt s × HasWords e
  HasWordsStmt (For e s) = HasWords e × HasWordsStmt s
  HasWordsStmt (ForStep e step s) = HasWords e × HasWords step × HasWordsStmt s
  HasWordsStmt (Switch e variables items) = HasWords e × HaveWords variables × HaveWords items
  HasWordsStmt (Case value) = value < 4294967296
  HasWordsStmt (ReturnValue e) = HasWords e
  HasWordsStmt _ = Unit {0}

  pub HaveWords : Items → Type 0
  HaveWords NoItem = Unit {0}
  HaveWords (Item s items) = HasWordsStmt s × HaveWords items
