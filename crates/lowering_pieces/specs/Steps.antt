-- What a walk over a tree makes of the pieces before a node: those, and behind them what the node adds, part by part in
-- the order in which they stand. That these are the pieces of the tree is a lemma (`proofs/Whole`).
use Rattle.std.specs.Prelude.{ℕ, ◌+◌, List, [], ◌∷◌, ◌++◌, Option, Some, None}
use Rattle.icode_ops.specs.declared.kind.BinKind.TheVariants.{Add}
use Rattle.icode_ops.specs.declared.kind.SysKind.TheVariants as sys
use Rattle.icode_ops.specs.declared.kind.RunKind.TheVariants as run
use Rattle.icode_ir.specs.declared.build_op.BuildOp.{BuildOp}
use Rattle.icode_ir.specs.declared.build_op.BuildOp.TheVariants as build
use Rattle.typed_tree.specs.declared.expression.Library.{Library}
use Rattle.typed_tree.specs.declared.expression.Library.TheVariants.{Putchar, Putint, Exit, Malloc}
use Rattle.typed_tree.specs.Nodes as node
use Rattle.typed_tree.specs.Nodes.{Expr, Args, NoArg, Arg, Stmt, Items, NoItem, Item, has_value, count}
use Rattle.staged_meaning.specs.Specifications.{kinds_of}
use Rattle.tick_lower_spec.specs.Lower.{making_ops}
use Rattle.tick_lower_spec.specs.Lower.{Addresses, Targets, narrowing, dropping, dropping_call, keeping, kept}
use Rattle.tick_lower_spec.specs.Lower.{step_ops, joins, case_ops}
use Rattle.tick_lower_spec.specs.declared.piece.Piece.{Piece}
use Rattle.tick_lower_spec.specs.declared.piece.Piece.TheVariants.{Plain, Captured, GetKey, SetKey, Splice, Nothing}
use Rattle.tick_lower_spec.specs.TickPieces.{plain, own}
use Rattle.lowering_pieces.specs.declared.pieces.Pieces.{Pieces}
use Rattle.lowering_pieces.specs.declared.pieces.Exits.{Exits}

-- more pieces behind those of the nodes so far
abbrev pub put : List Piece → Pieces → Pieces
put more o = record o { list = o.list ++ more }

abbrev pub op : BuildOp → Pieces → Pieces
op more o = put (Plain more ∷ []) o

-- so many labels are taken, or variables
abbrev pub labelled : ℕ → Pieces → Pieces
labelled n o = record o { label = o.label + n }

abbrev pub with_variable : Pieces → Pieces
with_variable o = record o { variable = o.variable + 1 }

-- where a break and a continue go, as the lowering has it
abbrev pub targets_of : Exits → Targets
targets_of exits = record { on_break = exits.on_break; on_continue = exits.on_continue }

-- what a library function does with its argument
abbrev pub library_pieces : Library → List Piece
library_pieces Putchar = Plain (build.Sys sys.PutByte) ∷ []
library_pieces Putint = Plain (build.Sys sys.PutInteger) ∷ Plain build.Drop ∷ []
library_pieces Exit = Plain (build.Sys sys.Exit) ∷ Plain build.Drop ∷ []
library_pieces Malloc = Plain (build.Run run.Malloc) ∷ []

-- the label of a switch's default, where the statement at this label is that
abbrev pub default_of : Stmt → ℕ → Option ℕ
default_of node.Default l = Some l
default_of _ l = None

-- the first of two that is there
abbrev pub first_of : Option ℕ → Option ℕ → Option ℕ
first_of (Some l) other = Some l
first_of None other = other

abbrev pub or_else : ℕ → Option ℕ → ℕ
or_else m (Some l) = l
or_else m None = m

-- no pieces, with the numbers of these
abbrev pub apart : Pieces → Pieces
apart o = record o { list = [] }

-- pieces that stood apart, behind these
abbrev pub with_apart : Pieces → Pieces → Pieces
with_apart more o = record o { list = o.list ++ more.list; label = more.label; variable = more.variable }

module _ (addresses : Addresses) where
  abbrev mutual
    pub walk : Expr → Pieces → Pieces
    walk (node.Const word) o = op (build.Const word) o
    walk (node.Captured word i) o = put (Captured i ∷ []) o
    walk (node.Var i) o = op (build.GetVariable i) o
    walk (node.SetVar i a) o = op (build.SetVariable i) (walk a o)
    walk (node.PostVar i width step) o =
        put (plain (build.SetVariable i ∷ build.Drop ∷ [])) (put (plain (step_ops step width))
        (put (plain (build.GetVariable i ∷ build.Pick 0 ∷ [])) o))
    walk (node.VGet i) o = put (GetKey i ∷ []) o
    walk (node.VSet i a) o = put (SetKey i ∷ []) (walk a o)
    walk (node.VPost i step) o =
        op build.Drop (put (SetKey i ∷ [])
        (put (plain (build.Pick 0 ∷ build.Const step ∷ build.Bin Add ∷ [])) (put (GetKey i ∷ []) o)))
    walk (node.Frame offset) o = op (build.FrameAddress offset) o
    walk (node.Load width a) o = op (build.Load width) (walk a o)
    walk (node.Store width a b) o = op (build.Store width) (walk b (walk a o))
    walk (node.Modify width kind a b) o =
        op (build.Store width) (put (plain (narrowing width)) (op (build.Bin kind) (walk b
        (put (plain (build.Pick 0 ∷ build.Load width ∷ [])) (walk a o)))))
    walk (node.Post width step a) o =
        put (plain (build.Store width ∷ build.Drop ∷ build.Nip ∷ [])) (put (plain (step_ops step width))
        (put (plain (build.Pick 0 ∷ build.Load width ∷ build.Pick 1 ∷ build.Pick 1 ∷ [])) (walk a o)))
    walk (node.Bin kind a b) o = op (build.Bin kind) (walk b (walk a o))
    walk (node.Un kind a) o = op (build.Un kind) (walk a o)
    walk (node.And a b) o =
        put (plain (joins 1 0 o.label (o.label + 1) o.variable)) (op (build.BranchZero o.label) (walk b
        (op (build.BranchZero o.label) (walk a (with_variable (labelled 2 o))))))
    walk (node.Or a b) o =
        put (plain (joins 0 1 o.label (o.label + 1) o.variable)) (op (build.BranchNonzero o.label) (walk b
        (op (build.BranchNonzero o.label) (walk a (with_variable (labelled 2 o))))))
    walk (node.Cond c a b) o =
        put (plain (kept (has_value a) o.variable)) (op (build.Label (o.label + 1))
        (put (plain (keeping (has_value a) o.variable)) (walk b
        (put (Plain (build.Jump (o.label + 1)) ∷ Plain (build.Label o.label) ∷ [])
        (put (plain (keeping (has_value a) o.variable)) (walk a
        (op (build.BranchZero o.label) (walk c (with_variable (labelled 2 o))))))))))
    walk (node.Comma a b) o = walk b (put (own (dropping (has_value a))) (walk a o))
    walk (node.Void a) o = put (own (dropping (has_value a))) (walk a o)
    walk (node.Call answer f args) o =
        put (plain (dropping_call answer)) (op (build.Call (addresses.function_at f) (count args)) (walk_args args o))
    walk (node.CallNumber answer a args) o =
        put (plain (dropping_call answer)) (op (build.CallNumber (count args)) (walk_args args (walk a o)))
    walk node.Getchar o = put (plain (build.Const 0 ∷ build.Sys sys.GetByte ∷ [])) o
    walk (node.Lib f a) o = put (library_pieces f) (walk a o)
    walk (node.Tick tick args) o = put (plain (making_ops addresses tick (kinds_of args))) (walk_args args o)
    walk (node.Capture kind a) o = walk a (put (Nothing ∷ []) o)
    walk (node.Splice answer i) o = put (Splice i ∷ []) o
    walk (node.Compile a) o = op (build.Run run.Compile) (walk a o)
    walk node.Local o = put (plain (build.Const 0 ∷ build.Run run.Local ∷ [])) o
    walk (node.ParamOf a) o = op (build.Run run.Parameter) (walk a o)

    pub walk_args : Args → Pieces → Pieces
    walk_args NoArg o = o
    walk_args (Arg a args) o = walk_args args (walk a o)

  -- the value of a switch, in a variable, and the piece of the switch's block
  abbrev pub valued : Expr → Pieces → Pieces
  valued e o =
      put (Nothing ∷ []) (op build.Drop (op (build.SetVariable o.variable) (walk e (with_variable (labelled 1 o)))))

  abbrev mutual
    pub walk_stmt : Targets → Stmt → Pieces → Pieces
    walk_stmt to (node.Eval e) o = put (own (dropping (has_value e))) (walk e o)
    walk_stmt to (node.Block variables items) o = walk_items to items (walk_items to variables (put (Nothing ∷ []) o))
    walk_stmt to (node.Variable i) o = put (plain (build.Const 0 ∷ build.SetVariable i ∷ build.Drop ∷ [])) o
    walk_stmt to (node.Object offset words) o = op (build.Clear offset words) o
    walk_stmt to (node.Parameter k width) o =
        put (plain (build.SetVariable k ∷ build.Drop ∷ [])) (put (plain (narrowing width)) (op (build.Parameter k) o))
    walk_stmt to (node.ParameterObject k width offset) o =
        put (plain (build.Store width ∷ build.Drop ∷ [])) (put (plain (narrowing width))
        (put (plain (build.FrameAddress offset ∷ build.Parameter k ∷ [])) o))
    walk_stmt to (node.If e s) o =
        op (build.Label o.label) (walk_stmt to s (op (build.BranchZero o.label) (walk e (labelled 1 o))))
    walk_stmt to (node.IfElse e s r) o =
        op (build.Label (o.label + 1)) (walk_stmt to r
        (put (Plain (build.Jump (o.label + 1)) ∷ Plain (build.Label o.label) ∷ [])
        (walk_stmt to s (op (build.BranchZero o.label) (walk e (labelled 2 o))))))
    walk_stmt to (node.While e s) o =
        put (Plain (build.Jump (o.label + 1)) ∷ Plain (build.Label o.label) ∷ [])
        (walk_stmt (record { on_break = o.label; on_continue = o.label + 1 }) s
        (op (build.BranchZero o.label) (walk e (op (build.Label (o.label + 1)) (labelled 2 o)))))
    walk_stmt to (node.Do s e) o =
        op (build.Label o.label) (op (build.BranchNonzero (o.label + 1)) (walk e (op (build.Label (o.label + 2))
        (walk_stmt (record { on_break = o.label; on_continue = o.label + 2 }) s
        (op (build.Label (o.label + 1)) (labelled 3 o))))))
    walk_stmt to (node.For e s) o =
        put (Plain (build.Jump (o.label + 1)) ∷ Plain (build.Label o.label) ∷ []) (op (build.Label (o.label + 2))
        (walk_stmt (record { on_break = o.label; on_continue = o.label + 2 }) s
        (op (build.BranchZero o.label) (walk e (op (build.Label (o.label + 1)) (labelled 3 o))))))
    walk_stmt to (node.ForStep e step s) o =
        put (Plain (build.Jump (o.label + 1)) ∷ Plain (build.Label o.label) ∷ [])
        (put (plain (dropping (has_value step))) (walk step (op (build.Label (o.label + 2))
        (walk_stmt (record { on_break = o.label; on_continue = o.label + 2 }) s
        (op (build.BranchZero o.label) (walk e (op (build.Label (o.label + 1)) (labelled 3 o))))))))
    -- the items stand apart at first, while the tests of the cases are made
    walk_stmt to (node.Switch e variables items) o =
        let begun = walk_items to variables (valued e o) in
        let within : Targets = record { on_break = o.label; on_continue = to.on_continue } in
        op (build.Label o.label) (with_apart (walk_items within items (apart begun))
        (op (build.Jump (or_else o.label (walk_default within items (apart begun) None)))
        (walk_tests within items (apart begun) o.variable begun)))
    walk_stmt to (node.Case value) o = op (build.Label o.label) (labelled 1 o)
    walk_stmt to node.Default o = op (build.Label o.label) (labelled 1 o)
    walk_stmt to node.Break o = op (build.Jump to.on_break) o
    walk_stmt to node.Continue o = op (build.Jump to.on_continue) o
    walk_stmt to node.Return o = op build.ReturnZero o
    walk_stmt to (node.ReturnValue e) o = op build.Return (walk e o)

    pub walk_items : Targets → Items → Pieces → Pieces
    walk_items to NoItem o = o
    walk_items to (Item s items) o = walk_items to items (walk_stmt to s o)

    -- the tests of the cases among items that stand behind `inside`
    pub walk_tests : Targets → Items → (inside : Pieces) → (value : ℕ) → Pieces → Pieces
    walk_tests to NoItem inside value o = o
    walk_tests to (Item s items) inside value o =
        walk_tests to items (walk_stmt to s inside) value (put (plain (case_ops s inside.label value)) o)

    -- the label of the first default among them, if none was found before
    pub walk_default : Targets → Items → (inside : Pieces) → Option ℕ → Option ℕ
    walk_default to NoItem inside found = found
    walk_default to (Item s items) inside found =
        walk_default to items (walk_stmt to s inside) (first_of found (default_of s inside.label))
