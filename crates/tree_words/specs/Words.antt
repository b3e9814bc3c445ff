-- That each number in a typed tree is a word: constants, steps and the values of labels. It is so by their type.
use Rattle.std.specs.Prelude.{ℕ, Bool, true, false, ◌&&◌, nat_lt}
use Rattle.typed_tree.specs.Nodes as node

abbrev pub is_word : ℕ → Bool
is_word n = nat_lt n 4294967296

-- each number in an expression, and in each argument
abbrev mutual
  pub has_words_expr : node.Expr → Bool
  has_words_expr (node.Const word) = is_word word
  has_words_expr (node.Var i) = true
  has_words_expr (node.SetVar i a) = has_words_expr a
  has_words_expr (node.PostVar i width step) = is_word step
  has_words_expr (node.Frame offset) = true
  has_words_expr (node.Load width a) = has_words_expr a
  has_words_expr (node.Store width a b) = has_words_expr a && has_words_expr b
  has_words_expr (node.Modify width k a b) = has_words_expr a && has_words_expr b
  has_words_expr (node.Post width step a) = is_word step && has_words_expr a
  has_words_expr (node.Bin k a b) = has_words_expr a && has_words_expr b
  has_words_expr (node.Un k a) = has_words_expr a
  has_words_expr (node.And a b) = has_words_expr a && has_words_expr b
  has_words_expr (node.Or a b) = has_words_expr a && has_words_expr b
  has_words_expr (node.Cond c a b) = has_words_expr c && has_words_expr a && has_words_expr b
  has_words_expr (node.Comma a b) = has_words_expr a && has_words_expr b
  has_words_expr (node.Void a) = has_words_expr a
  has_words_expr (node.Call answer f args) = have_words_args args
  has_words_expr (node.CallNumber answer a args) = has_words_expr a && have_words_args args
  has_words_expr node.Getchar = true
  has_words_expr (node.Lib library a) = has_words_expr a
  has_words_expr (node.Tick tick args) = have_words_args args
  has_words_expr (node.Capture kind a) = has_words_expr a
  has_words_expr node.Local = true
  has_words_expr (node.Captured w i) = true
  has_words_expr (node.VGet i) = true
  has_words_expr (node.VSet i a) = has_words_expr a
  has_words_expr (node.VPost i step) = is_word step
  has_words_expr (node.Splice answer i) = true
  has_words_expr (node.ParamOf a) = has_words_expr a
  has_words_expr (node.Compile a) = has_words_expr a

  pub have_words_args : node.Args → Bool
  have_words_args node.NoArg = true
  have_words_args (node.Arg a args) = has_words_expr a && have_words_args args

-- the same of a statement, and of a list of them
abbrev mutual
  pub has_words_stmt : node.Stmt → Bool
  has_words_stmt (node.Eval e) = has_words_expr e
  has_words_stmt (node.Block variables items) = have_words variables && have_words items
  has_words_stmt (node.Variable i) = true
  has_words_stmt (node.Object offset words) = true
  has_words_stmt (node.Parameter k width) = true
  has_words_stmt (node.ParameterObject k width offset) = true
  has_words_stmt (node.If e s) = has_words_expr e && has_words_stmt s
  has_words_stmt (node.IfElse e s t) = has_words_expr e && has_words_stmt s && has_words_stmt t
  has_words_stmt (node.While e s) = has_words_expr e && has_words_stmt s
  has_words_stmt (node.Do s e) = has_words_stmt s && has_words_expr e
  has_words_stmt (node.For e s) = has_words_expr e && has_words_stmt s
  has_words_stmt (node.ForStep e step s) = has_words_expr e && has_words_expr step && has_words_stmt s
  has_words_stmt (node.Switch e variables items) = has_words_expr e && have_words variables && have_words items
  has_words_stmt (node.Case value) = is_word value
  has_words_stmt node.Default = true
  has_words_stmt node.Break = true
  has_words_stmt node.Continue = true
  has_words_stmt node.Return = true
  has_words_stmt (node.ReturnValue e) = has_words_expr e

  pub have_words : node.Items → Bool
  have_words node.NoItem = true
  have_words (node.Item s items) = has_words_stmt s && have_words items

abbrev pub has_words : node.Function → Bool
has_words function = has_words_stmt function.body

-- the same of what stands behind a backquote
abbrev pub has_words_body : node.TickBody → Bool
has_words_body (node.Expression e) = has_words_expr e
has_words_body (node.Statement s) = has_words_stmt s
