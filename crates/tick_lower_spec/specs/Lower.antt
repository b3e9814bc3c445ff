-- The lowering: the builder's ops of a typed tree, by cases on its nodes. A node's labels are numbered from `l` on and
-- its own variables from `t` on, and a child's behind those of the children before it; so `labels_in` and `temps_in` of
-- the tree say which numbers it takes. An expression leaves its value as one operand, a void one leaves none.
-- This is the project's own rule; the docs have it as a table.
use Rattle.std.specs.Prelude.{ℕ, suc, ◌+◌, ◌-◌, Bool, true, false, if◌then◌else◌, List, [], ◌∷◌, ◌++◌, length}
use Rattle.std.specs.Prelude.{slice_index, slice_get, Option, Some, None}
use Rattle.word32.specs.declared.width.Width.{Width}
use Rattle.word32.specs.declared.width.Width.TheVariants as width
use Rattle.icode_ops.specs.declared.kind.BinKind.TheVariants.{Add, NotEqual}
use Rattle.icode_ops.specs.declared.kind.UnKind.TheVariants.{SignedByte, Byte, SignedHalf, Half}
use Rattle.icode_ops.specs.declared.kind.SysKind.TheVariants as sys
use Rattle.icode_ops.specs.declared.kind.RunKind.TheVariants as run
use Rattle.icode_ir.specs.declared.build_op.BuildOp.{BuildOp}
use Rattle.icode_ir.specs.declared.build_op.BuildOp.TheVariants as build
use Rattle.typed_tree.specs.Nodes as node
use Rattle.typed_tree.specs.Nodes.{Expr, Const, Var, SetVar, PostVar, Frame, Load, Store, Modify, Post, Bin, Un, And}
use Rattle.typed_tree.specs.Nodes.{Or, Cond, Comma, Void, Call, CallNumber, Getchar, Lib, Capture, Compile, Local}
use Rattle.typed_tree.specs.Nodes.{ParamOf, Tick, VGet, VSet, VPost}
use Rattle.typed_tree.specs.Nodes.{Args, NoArg, Arg, Stmt, Eval, Block, Variable, Object, Parameter}
use Rattle.typed_tree.specs.Nodes.{ParameterObject, If, IfElse, While, Do, For, ForStep, Switch, Case, Default, Break}
use Rattle.typed_tree.specs.Nodes.{Continue, Return, ReturnValue, Items, NoItem, Item, has_value, count, Function}
use Rattle.typed_tree.specs.declared.expression.Answer.{Answer}
use Rattle.typed_tree.specs.Sizes.{is_value}
use Rattle.typed_tree.specs.declared.expression.Library.TheVariants.{Putchar, Putint, Exit, Malloc}
use Rattle.icode_ops.specs.declared.kind.RunKind.{RunKind}
use Rattle.icode_ops.specs.declared.kind.ClosureKind.{ClosureKind}
use Rattle.icode_ops.specs.declared.kind.ClosureKind.TheVariants as closure
use Rattle.typed_tree.specs.declared.expression.CaptureKind.{CaptureKind}
use Rattle.typed_tree.specs.declared.expression.CaptureKind.TheVariants as kind
use Rattle.typed_tree.specs.declared.expression.Answer.TheVariants as answer
use Rattle.staged_meaning.specs.Program.{Tick as TickOf, tick_size, is_expression}
use Rattle.staged_meaning.specs.Specifications.{kinds_of}
use Rattle.staged_meaning.specs.Size.{labels_in, labels, labels_of, temps_in, temps, temps_of, variables_in}

-- what stands in the holes of a tick, by the numbers of its captures: the ops of a word, of a variable's value and of
-- its change, and of what is spliced in
pub record Holes : Type 0 where
  pub captured : ℕ → List BuildOp
  pub get_key : ℕ → List BuildOp
  pub set_key : ℕ → List BuildOp
  pub splice : ℕ → List BuildOp

-- a function of the text has no holes
abbrev pub no_holes : Holes
no_holes = record { captured = λ i. []; get_key = λ i. []; set_key = λ i. []; splice = λ i. [] }

-- Where the image has its static functions, by their numbers, and the functions that generate the code of ticks; and
-- the ticks, of which a tick expression tells size and kind.
pub record Addresses : Type 0 where
  pub function_at : ℕ → ℕ
  pub generator_at : (tick : ℕ) → ℕ
  pub ticks : List TickOf

-- a list of them, in the order of the text; the first function has the number 1
abbrev pub listed : List ℕ → List ℕ → List TickOf → Addresses
listed starts generators ticks = record {
  function_at = λ number. slice_index starts (number - 1);
  generator_at = λ tick. slice_index generators tick;
  ticks = ticks;
}

-- a conversion to a width; a word is none
abbrev pub narrowing : Width → List BuildOp
narrowing width.SignedByte = build.Un SignedByte ∷ []
narrowing width.Byte = build.Un Byte ∷ []
narrowing width.SignedHalf = build.Un SignedHalf ∷ []
narrowing width.Half = build.Un Half ∷ []
narrowing width.Word = []

-- takes away what is left, if anything is
abbrev pub dropping : Bool → List BuildOp
dropping true = build.Drop ∷ []
dropping false = []

-- a call of a void function leaves an operand too
abbrev pub dropping_call : Answer → List BuildOp
dropping_call answer = if is_value answer then [] else (build.Drop ∷ [])

-- the value goes to a variable where there is one
abbrev pub keeping : Bool → ℕ → List BuildOp
keeping true t = build.SetVariable t ∷ build.Drop ∷ []
keeping false t = []

abbrev pub kept : Bool → ℕ → List BuildOp
kept true t = build.GetVariable t ∷ []
kept false t = []

-- the rest of a step that leaves the old value: `old` and its copy are operands
abbrev pub step_ops : ℕ → Width → List BuildOp
step_ops step width = build.Const step ∷ build.Bin Add ∷ narrowing width

-- the two ways of `&&` and `||`, which set variable t to `first` or `other` and join at label m
abbrev pub joins : (first other l m t : ℕ) → List BuildOp
joins first other l m t =
    build.Const first
    ∷ build.SetVariable t
    ∷ build.Drop
    ∷ build.Jump m
    ∷ build.Label l
    ∷ build.Const other
    ∷ build.SetVariable t
    ∷ build.Drop
    ∷ build.Label m
    ∷ build.GetVariable t
    ∷ []

-- ---- the making of a specification, once its captured words are operands, the first of them deepest

-- what a captured number is checked as; a value or an address is not checked
abbrev pub check_run : CaptureKind → Option RunKind
check_run (kind.Splice answer.Value) = Some run.Expression
check_run (kind.Splice answer.Void) = Some run.Statement
check_run kind.Variable = Some run.Variable
check_run _ = None

-- one that lies so deep is checked, and the answer is dropped
abbrev pub checking : Option RunKind → (depth : ℕ) → List BuildOp
checking None depth = []
checking (Some routine) depth = build.Pick depth ∷ build.Run routine ∷ build.Drop ∷ []

abbrev pub checking_all : List CaptureKind → List BuildOp
checking_all [] = []
checking_all (k ∷ kinds) = checking (check_run k) (length kinds) ++ checking_all kinds

-- the words are put, with the new number above them
abbrev pub putting : (capture : ℕ) → List CaptureKind → List BuildOp
putting i [] = []
putting i (k ∷ kinds) = build.Pick (suc (length kinds)) ∷ build.Put i ∷ putting (suc i) kinds

-- and go from below it
abbrev pub nipping : List CaptureKind → List BuildOp
nipping [] = []
nipping (k ∷ kinds) = build.Nip ∷ nipping kinds

abbrev pub kind_of_tick : Bool → ClosureKind
kind_of_tick true = closure.Expression
kind_of_tick false = closure.Statement

-- whole: of the tick's own size, with the address of the function that generates its code
abbrev pub making_ops : Addresses → (tick : ℕ) → List CaptureKind → List BuildOp
making_ops addresses tick kinds =
    build.Const (tick_size (slice_get addresses.ticks tick)) ∷ build.Run run.Begin ∷ build.Drop
    ∷ (checking_all kinds
    ++ build.New (addresses.generator_at tick) (kind_of_tick (is_expression (slice_get addresses.ticks tick)))
    (length kinds)
    ∷ (putting 0 kinds ++ nipping kinds))

-- where a break and a continue go
pub record Targets : Type 0 where
  pub on_break : ℕ
  pub on_continue : ℕ

-- the test of a case that stands at label l, against variable t
abbrev pub case_ops : Stmt → (l t : ℕ) → List BuildOp
case_ops (Case value) l t = build.GetVariable t ∷ build.Const value ∷ build.Bin NotEqual ∷ build.BranchZero l ∷ []
case_ops _ l t = []

abbrev pub test_ops : Items → (l t : ℕ) → List BuildOp
test_ops NoItem l t = []
test_ops (Item s items) l t = case_ops s l t ++ test_ops items (l + labels s) t

-- the label of the default, or m where there is none
abbrev pub default_or : Stmt → (l m : ℕ) → ℕ
default_or Default l m = l
default_or _ l m = m

abbrev pub default_label : Items → (l m : ℕ) → ℕ
default_label NoItem l m = m
default_label (Item s items) l m = default_or s l (default_label items (l + labels s) m)

-- outside of loops: a break or a continue has no place there
abbrev pub nowhere : Targets
nowhere = record { on_break = 0; on_continue = 0 }

-- what the lowering is made of: ops of the generated code themselves, or pieces that stand for them
pub record Sink (A : Type 0) : Type 0 where
  pub op : BuildOp → A
  -- ops that no capture is named in, as many as there are
  pub ops : List BuildOp → List A
  -- those that a node adds, which may be none
  pub own : List BuildOp → List A
  -- what stands in a hole
  pub captured : ℕ → List A
  pub get_key : ℕ → List A
  pub set_key : ℕ → List A
  pub splice : ℕ → List A

-- ops, with this in the holes
abbrev pub ops_with : Holes → Sink BuildOp
ops_with holes = record {
  op = λ op. op;
  ops = λ ops. ops;
  own = λ ops. ops;
  captured = holes.captured;
  get_key = holes.get_key;
  set_key = holes.set_key;
  splice = holes.splice;
}

-- the lowering of a body under these addresses
module _ {A : Type 0} (sink : Sink A) (addresses : Addresses) where
  abbrev mutual
    pub expr_into : Expr → (l t : ℕ) → List A
    expr_into (Const word) l t = sink.op (build.Const word) ∷ []
    expr_into (Var i) l t = sink.op (build.GetVariable i) ∷ []
    expr_into (SetVar i a) l t = expr_into a l t ++ sink.op (build.SetVariable i) ∷ []
    expr_into (PostVar i width step) l t =
        sink.op (build.GetVariable i) ∷ sink.op (build.Pick 0) ∷ (sink.ops (step_ops step width)
        ++ sink.op (build.SetVariable i) ∷ sink.op build.Drop ∷ [])
    expr_into (Frame offset) l t = sink.op (build.FrameAddress offset) ∷ []
    expr_into (Load width a) l t = expr_into a l t ++ sink.op (build.Load width) ∷ []
    expr_into (Store width a b) l t =
        expr_into a l t ++ (expr_into b (l + labels_in a) (t + temps_in a) ++ sink.op (build.Store width) ∷ [])
    expr_into (Modify width kind a b) l t =
        expr_into a l t ++ sink.op (build.Pick 0) ∷ sink.op (build.Load width)
        ∷ (expr_into b (l + labels_in a) (t + temps_in a) ++ sink.op (build.Bin kind) ∷ (sink.ops (narrowing width)
        ++ sink.op (build.Store width) ∷ []))
    expr_into (Post width step a) l t =
        expr_into a l t ++ sink.op (build.Pick 0) ∷ sink.op (build.Load width) ∷ sink.op (build.Pick 1)
        ∷ sink.op (build.Pick 1) ∷ (sink.ops (step_ops step width) ++ sink.op (build.Store width) ∷ sink.op build.Drop
        ∷ sink.op build.Nip ∷ [])
    expr_into (Bin kind a b) l t =
        expr_into a l t ++ (expr_into b (l + labels_in a) (t + temps_in a) ++ sink.op (build.Bin kind) ∷ [])
    expr_into (Un kind a) l t = expr_into a l t ++ sink.op (build.Un kind) ∷ []
    expr_into (And a b) l t =
        expr_into a (l + 2) (t + 1) ++ sink.op (build.BranchZero l)
        ∷ (expr_into b (l + 2 + labels_in a) (t + 1 + temps_in a) ++ sink.op (build.BranchZero l)
        ∷ sink.ops (joins 1 0 l (l + 1) t))
    expr_into (Or a b) l t =
        expr_into a (l + 2) (t + 1) ++ sink.op (build.BranchNonzero l)
        ∷ (expr_into b (l + 2 + labels_in a) (t + 1 + temps_in a) ++ sink.op (build.BranchNonzero l)
        ∷ sink.ops (joins 0 1 l (l + 1) t))
    expr_into (Cond c a b) l t =
        expr_into c (l + 2) (t + 1) ++ sink.op (build.BranchZero l)
        ∷ (expr_into a (l + 2 + labels_in c) (t + 1 + temps_in c) ++ (sink.ops (keeping (has_value a) t)
        ++ sink.op (build.Jump (l + 1)) ∷ sink.op (build.Label l)
        ∷ (expr_into b (l + 2 + labels_in c + labels_in a) (t + 1 + temps_in c + temps_in a)
        ++ (sink.ops (keeping (has_value a) t) ++ sink.op (build.Label (l + 1)) ∷ sink.ops (kept (has_value a) t)))))
    expr_into (Comma a b) l t =
        expr_into a l t ++ (sink.own (dropping (has_value a)) ++ expr_into b (l + labels_in a) (t + temps_in a))
    expr_into (Void a) l t = expr_into a l t ++ sink.own (dropping (has_value a))
    expr_into (Call answer f args) l t =
        args_into args l t ++ sink.op (build.Call (addresses.function_at f) (count args)) ∷ sink.ops
        (dropping_call answer)
    expr_into (CallNumber answer a args) l t =
        expr_into a l t ++ (args_into args (l + labels_in a) (t + temps_in a)
        ++ sink.op (build.CallNumber (count args)) ∷ sink.ops (dropping_call answer))
    expr_into Getchar l t = sink.op (build.Const 0) ∷ sink.op (build.Sys sys.GetByte) ∷ []
    expr_into (Lib Putchar a) l t = expr_into a l t ++ sink.op (build.Sys sys.PutByte) ∷ []
    expr_into (Lib Putint a) l t = expr_into a l t ++ sink.op (build.Sys sys.PutInteger) ∷ sink.op build.Drop ∷ []
    expr_into (Lib Exit a) l t = expr_into a l t ++ sink.op (build.Sys sys.Exit) ∷ sink.op build.Drop ∷ []
    expr_into (Lib Malloc a) l t = expr_into a l t ++ sink.op (build.Run run.Malloc) ∷ []
    expr_into (Capture kind a) l t = sink.own [] ++ expr_into a l t
    expr_into (Compile a) l t = expr_into a l t ++ sink.op (build.Run run.Compile) ∷ []
    expr_into Local l t = sink.op (build.Const 0) ∷ sink.op (build.Run run.Local) ∷ []
    expr_into (ParamOf a) l t = expr_into a l t ++ sink.op (build.Run run.Parameter) ∷ []
    expr_into (node.Captured w i) l t = sink.captured i
    expr_into (VGet i) l t = sink.get_key i
    expr_into (VSet i a) l t = expr_into a l t ++ sink.set_key i
    expr_into (VPost i step) l t =
        sink.get_key i ++ sink.op (build.Pick 0) ∷ sink.op (build.Const step) ∷ sink.op (build.Bin Add)
        ∷ (sink.set_key i ++ sink.op build.Drop ∷ [])
    expr_into (node.Splice answer i) l t = sink.splice i
    expr_into (Tick tick args) l t = args_into args l t ++ sink.ops (making_ops addresses tick (kinds_of args))

    pub args_into : Args → (l t : ℕ) → List A
    args_into NoArg l t = []
    args_into (Arg a args) l t = expr_into a l t ++ args_into args (l + labels_in a) (t + temps_in a)

  abbrev mutual
    pub stmt_into : Stmt → Targets → (l t : ℕ) → List A
    stmt_into (Eval e) to l t = expr_into e l t ++ sink.own (dropping (has_value e))
    stmt_into (Block variables items) to l t =
        sink.own [] ++ (items_into variables to l t
        ++ items_into items to (l + labels_of variables) (t + temps_of variables))
    stmt_into (Variable i) to l t = sink.op (build.Const 0) ∷ sink.op (build.SetVariable i) ∷ sink.op build.Drop ∷ []
    stmt_into (Object offset words) to l t = sink.op (build.Clear offset words) ∷ []
    stmt_into (Parameter k width) to l t =
        sink.op (build.Parameter k) ∷
        (sink.ops (narrowing width) ++ sink.op (build.SetVariable k) ∷ sink.op build.Drop ∷ [])
    stmt_into (ParameterObject k width offset) to l t =
        sink.op (build.FrameAddress offset) ∷ sink.op (build.Parameter k) ∷ (sink.ops (narrowing width)
        ++ sink.op (build.Store width) ∷ sink.op build.Drop ∷ [])
    stmt_into (If e s) to l t =
        expr_into e (l + 1) t ++ sink.op (build.BranchZero l)
        ∷ (stmt_into s to (l + 1 + labels_in e) (t + temps_in e) ++ sink.op (build.Label l) ∷ [])
    stmt_into (IfElse e s r) to l t =
        expr_into e (l + 2) t ++ sink.op (build.BranchZero l)
        ∷ (stmt_into s to (l + 2 + labels_in e) (t + temps_in e) ++ sink.op (build.Jump (l + 1))
        ∷ sink.op (build.Label l) ∷ (stmt_into r to (l + 2 + labels_in e + labels s) (t + temps_in e + temps s)
        ++ sink.op (build.Label (l + 1)) ∷ []))
    stmt_into (While e s) to l t =
        sink.op (build.Label (l + 1)) ∷ (expr_into e (l + 2) t ++ sink.op (build.BranchZero l)
        ∷ (stmt_into s (record { on_break = l; on_continue = l + 1 }) (l + 2 + labels_in e) (t + temps_in e)
        ++ sink.op (build.Jump (l + 1)) ∷ sink.op (build.Label l) ∷ []))
    stmt_into (Do s e) to l t =
        sink.op (build.Label (l + 1)) ∷ (stmt_into s (record { on_break = l; on_continue = l + 2 }) (l + 3) t
        ++ sink.op (build.Label (l + 2)) ∷ (expr_into e (l + 3 + labels s) (t + temps s)
        ++ sink.op (build.BranchNonzero (l + 1)) ∷ sink.op (build.Label l) ∷ []))
    stmt_into (For e s) to l t =
        sink.op (build.Label (l + 1)) ∷ (expr_into e (l + 3) t ++ sink.op (build.BranchZero l)
        ∷ (stmt_into s (record { on_break = l; on_continue = l + 2 }) (l + 3 + labels_in e) (t + temps_in e)
        ++ sink.op (build.Label (l + 2)) ∷ sink.op (build.Jump (l + 1)) ∷ sink.op (build.Label l) ∷ []))
    stmt_into (ForStep e step s) to l t =
        sink.op (build.Label (l + 1)) ∷ (expr_into e (l + 3) t ++ sink.op (build.BranchZero l)
        ∷ (stmt_into s (record { on_break = l; on_continue = l + 2 }) (l + 3 + labels_in e) (t + temps_in e)
        ++ sink.op (build.Label (l + 2))
        ∷ (expr_into step (l + 3 + labels_in e + labels s) (t + temps_in e + temps s)
        ++ (sink.ops (dropping (has_value step)) ++ sink.op (build.Jump (l + 1)) ∷ sink.op (build.Label l) ∷ []))))
    stmt_into (Switch e variables items) to l t =
        expr_into e (l + 1) (t + 1) ++ sink.op (build.SetVariable t) ∷ sink.op build.Drop ∷
        ((sink.own [] ++ items_into variables to (l + 1 + labels_in e) (t + 1 + temps_in e))
        ++ (sink.ops (test_ops items (l + 1 + labels_in e + labels_of variables) t)
        ++ sink.op (build.Jump (default_label items (l + 1 + labels_in e + labels_of variables) l))
        ∷ (items_into items (record { on_break = l; on_continue = to.on_continue }) (l + 1 + labels_in e + labels_of
        variables) (t + 1 + temps_in e + temps_of variables) ++ sink.op (build.Label l) ∷ [])))
    stmt_into (Case value) to l t = sink.op (build.Label l) ∷ []
    stmt_into Default to l t = sink.op (build.Label l) ∷ []
    stmt_into Break to l t = sink.op (build.Jump to.on_break) ∷ []
    stmt_into Continue to l t = sink.op (build.Jump to.on_continue) ∷ []
    stmt_into Return to l t = sink.op build.ReturnZero ∷ []
    stmt_into (ReturnValue e) to l t = expr_into e l t ++ sink.op build.Return ∷ []

    pub items_into : Items → Targets → (l t : ℕ) → List A
    items_into NoItem to l t = []
    items_into (Item s items) to l t = stmt_into s to l t ++ items_into items to (l + labels s) (t + temps s)

-- the ops of a body with this in its holes
abbrev pub expr_filled : Holes → Addresses → Expr → (l t : ℕ) → List BuildOp
expr_filled holes addresses e l t = expr_into (ops_with holes) addresses e l t

abbrev pub args_filled : Holes → Addresses → Args → (l t : ℕ) → List BuildOp
args_filled holes addresses args l t = args_into (ops_with holes) addresses args l t

abbrev pub stmt_filled : Holes → Addresses → Stmt → Targets → (l t : ℕ) → List BuildOp
stmt_filled holes addresses s to l t = stmt_into (ops_with holes) addresses s to l t

abbrev pub items_filled : Holes → Addresses → Items → Targets → (l t : ℕ) → List BuildOp
items_filled holes addresses items to l t = items_into (ops_with holes) addresses items to l t

-- those of a body without holes, as in the functions of the text
abbrev pub expr_ops : Addresses → Expr → (l t : ℕ) → List BuildOp
expr_ops addresses e l t = expr_filled no_holes addresses e l t

abbrev pub args_ops : Addresses → Args → (l t : ℕ) → List BuildOp
args_ops addresses args l t = args_filled no_holes addresses args l t

abbrev pub stmt_ops : Addresses → Stmt → Targets → (l t : ℕ) → List BuildOp
stmt_ops addresses s to l t = stmt_filled no_holes addresses s to l t

abbrev pub items_ops : Addresses → Items → Targets → (l t : ℕ) → List BuildOp
items_ops addresses items to l t = items_filled no_holes addresses items to l t

-- a function's ops: one body with its variables and labels
abbrev pub function_ops : Addresses → Function → List BuildOp
function_ops addresses function =
    build.Enter (variables_in function.body + temps function.body) (labels function.body)
    ∷ (stmt_ops addresses function.body nowhere 0 (variables_in function.body) ++ build.Leave ∷ [])
