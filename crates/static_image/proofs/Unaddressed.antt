-- The ops of a function under a list of addresses are those that name functions and ticks by their numbers, each sent
-- to the address of its number. Under any two lists of addresses they differ in the addresses of calls, in those of the
-- functions of ticks with the kinds of these, and in constants, and their templates are as long.
use Rattle.std.proofs.Common.{◌≡◌, ℕ, ◌+◌, ◌-◌, nat_lt, List, [], ◌∷◌, ◌++◌, Bool, true, false, Option, Some, None}
use Rattle.std.proofs.Common.{suc, slice_get}
use Rattle.std.proofs.Common.{refl, sym, ap, ◌∙◌, map, length, drop, length-append, arith, if◌then◌else◌}
use Rattle.std.proofs.lemmas.List.{map-append}
use Rattle.word32.specs.declared.width.Width.{Width}
use Rattle.word32.specs.declared.width.Width.TheVariants as width
use Rattle.icode_ops.specs.declared.op.Op.{Op}
use Rattle.icode_ops.specs.declared.op.Op.TheVariants as op
use Rattle.icode_ops.specs.declared.kind.BinKind.{BinKind}
use Rattle.icode_ops.specs.declared.kind.BinKind.TheVariants as bin
use Rattle.icode_ir.specs.declared.build_op.BuildOp.{BuildOp}
use Rattle.icode_ir.specs.declared.build_op.BuildOp.TheVariants as build
use Rattle.icode_ir.specs.Build.{Build, empty, operand, variable, label, arguments, finished, find, mention, mentioned}
use Rattle.icode_ir.specs.Build.{key_register, yield, pass, first_mention}
use Rattle.icode_ir.specs.Rules.{effect, checked}
use Rattle.icode_ir.specs.Runs.{run_ops}
use Rattle.icode_templates.specs.Layout.{Layout}
use Rattle.icode_templates.specs.Templates.{Aim, template}
use Rattle.icode_templates.specs.Expansion.{templates}
use Rattle.typed_tree.specs.Nodes as node
use Rattle.typed_tree.specs.Nodes.{Expr, Args, Stmt, Items, has_value, count}
use Rattle.typed_tree.specs.declared.expression.Answer.{Answer}
use Rattle.typed_tree.specs.declared.expression.Library.TheVariants as library
use Rattle.typed_tree.specs.Sizes.{is_value}
use Rattle.typed_tree.specs.declared.expression.CaptureKind.{CaptureKind}
use Rattle.icode_ops.specs.declared.kind.ClosureKind.{ClosureKind}
use Rattle.icode_ops.specs.declared.kind.ClosureKind.TheVariants as closure
use Rattle.icode_ops.specs.declared.kind.RunKind.{RunKind}
use Rattle.icode_ops.specs.declared.kind.RunKind.TheVariants as run
use Rattle.staged_meaning.specs.Program.{tick_size, is_expression}
use Rattle.staged_meaning.specs.Specifications.{kinds_of}
use Rattle.staged_meaning.specs.Size.{labels_in, labels, labels_of, temps_in, temps, temps_of, variables_in}
use Rattle.tick_lower_spec.specs.Lower.{Addresses, expr_ops, args_ops, Targets, stmt_ops, items_ops, nowhere}
use Rattle.tick_lower_spec.specs.Lower.{function_ops, dropping, dropping_call, keeping, kept, narrowing}
use Rattle.tick_lower_spec.specs.Lower.{case_ops, test_ops, default_label, making_ops, check_run, checking}
use Rattle.tick_lower_spec.specs.Lower.{checking_all, putting, nipping, kind_of_tick}
use Rattle.tick_lower_proof.specs.Laws.{code_of, registers_of}
use Rattle.limits.specs.declared.program.TheConstants.{MOST_ARGUMENTS}

-- where the number of a function is sent, and that of a tick; and what becomes of constants, and of the kinds of ticks
pub record Sending : Type 0 where
  pub call : ℕ → ℕ
  pub generator : ℕ → ℕ
  pub constant : ℕ → ℕ
  pub kind : ClosureKind → ClosureKind

-- a builder's op, and an op, with each number sent
abbrev pub sent : Sending → BuildOp → BuildOp
sent m (build.Call address n) = build.Call (m.call address) n
sent m (build.Const word) = build.Const (m.constant word)
sent m (build.New address kind captures) = build.New (m.generator address) (m.kind kind) captures
sent m o = o

abbrev pub sent_op : Sending → Op → Op
sent_op m (op.Call address) = op.Call (m.call address)
sent_op m (op.Const to word) = op.Const to (m.constant word)
sent_op m (op.New to address kind captures) = op.New to (m.generator address) (m.kind kind) captures
sent_op m o = o

-- each number goes to the address; all else is as it is
abbrev pub to_address : Addresses → Sending
to_address d = record {
  call = d.function_at;
  generator = d.generator_at;
  constant = λ word. word;
  kind = λ kind. kind;
}

-- where the address of each function is its number, and that of each tick's
abbrev pub by_number : Addresses → Addresses
by_number d = record { function_at = λ number. number; generator_at = λ tick. tick; ticks = d.ticks }

-- ---- the ops of a function under two lists of addresses, which are sent to the same

module _ (constant : ℕ → ℕ) (kind : ClosureKind → ClosureKind) (call generator call' generator' : ℕ → ℕ)
    (here there : Addresses) (calls : (f : ℕ) → call (here.function_at f) ≡ call' (there.function_at f))
    (made : (tick : ℕ) → generator (here.generator_at tick) ≡ generator' (there.generator_at tick))
    (sizes : (tick : ℕ) → constant (tick_size (slice_get here.ticks tick))
    ≡ constant (tick_size (slice_get there.ticks tick)))
    (kinds : (tick : ℕ) → kind (kind_of_tick (is_expression (slice_get here.ticks tick)))
    ≡ kind (kind_of_tick (is_expression (slice_get there.ticks tick)))) where
  abbrev All : List BuildOp → List BuildOp
  All os = map (sent (record { call = call; generator = generator; constant = constant; kind = kind })) os

  abbrev All' : List BuildOp → List BuildOp
  All' os = map (sent (record { call = call'; generator = generator'; constant = constant; kind = kind })) os

  both : (xs ys xs' ys' : List BuildOp) → All xs ≡ All' xs' → All ys ≡ All' ys' → All (xs ++ ys) ≡ All' (xs' ++ ys')
  both xs ys xs' ys' ex ey =
      map-append (sent (record { call = call; generator = generator; constant = constant; kind = kind })) xs ys
      ∙ ap (λ os. os ++ All ys) ex ∙ ap (λ os. All' xs' ++ os) ey
      ∙ sym (map-append (sent (record { call = call'; generator = generator'; constant = constant; kind = kind })) xs'
      ys')

  -- ---- lists of ops that name no function

  narrowing_same : (w : Width) → All (narrowing w) ≡ All' (narrowing w)
  narrowing_same width.SignedByte = refl
  narrowing_same width.Byte = refl
  narrowing_same width.SignedHalf = refl
  narrowing_same width.Half = refl
  narrowing_same width.Word = refl

  dropping_same : (b : Bool) → All (dropping b) ≡ All' (dropping b)
  dropping_same true = refl
  dropping_same false = refl

  dropping_call_same : (a : Answer) → All (dropping_call a) ≡ All' (dropping_call a)
  dropping_call_same a = by (is_value a)
    where
      by : (b : Bool) → All (if b then [] else (build.Drop ∷ [])) ≡ All' (if b then [] else (build.Drop ∷ []))
      by true = refl
      by false = refl

  keeping_same : (b : Bool) (t : ℕ) → All (keeping b t) ≡ All' (keeping b t)
  keeping_same true t = refl
  keeping_same false t = refl

  kept_same : (b : Bool) (t : ℕ) → All (kept b t) ≡ All' (kept b t)
  kept_same true t = refl
  kept_same false t = refl

  case_same : (s : Stmt) (l t : ℕ) → All (case_ops s l t) ≡ All' (case_ops s l t)
  case_same (node.Case value) l t = refl
  case_same _ l t = refl

  test_same : (is : Items) (l t : ℕ) → All (test_ops is l t) ≡ All' (test_ops is l t)
  test_same node.NoItem l t = refl
  test_same (node.Item s is) l t = both (case_ops s l t) (test_ops is (l + labels s) t) _ _ (case_same s l t)
      (test_same is (l + labels s) t)

  checking_same : (r : Option RunKind) (depth : ℕ) → All (checking r depth) ≡ All' (checking r depth)
  checking_same None depth = refl
  checking_same (Some routine) depth = refl

  checks_same : (ks : List CaptureKind) → All (checking_all ks) ≡ All' (checking_all ks)
  checks_same [] = refl
  checks_same (k ∷ ks) =
      both (checking (check_run k) (length ks)) (checking_all ks) _ _ (checking_same (check_run k) (length ks))
      (checks_same ks)

  putting_same : (i : ℕ) (ks : List CaptureKind) → All (putting i ks) ≡ All' (putting i ks)
  putting_same i [] = refl
  putting_same i (k ∷ ks) = ap (λ os. build.Pick (suc (length ks)) ∷ build.Put i ∷ os) (putting_same (suc i) ks)

  nipping_same : (ks : List CaptureKind) → All (nipping ks) ≡ All' (nipping ks)
  nipping_same [] = refl
  nipping_same (k ∷ ks) = ap (λ os. build.Nip ∷ os) (nipping_same ks)

  making_same : (tick : ℕ) (ks : List CaptureKind) → All (making_ops here tick ks) ≡ All' (making_ops there tick ks)
  making_same tick ks =
      let this = slice_get here.ticks tick in
      let that = slice_get there.ticks tick in
      let new : ℕ → ClosureKind → BuildOp = λ address kind. build.New address kind (length ks) in
      ap (λ size. build.Const size ∷ build.Run run.Begin ∷ build.Drop ∷ All (checking_all ks
      ++ new (here.generator_at tick) (kind_of_tick (is_expression this)) ∷ (putting 0 ks ++ nipping ks))) (sizes tick)
      ∙ ap (λ os. build.Const (constant (tick_size that)) ∷ build.Run run.Begin ∷ build.Drop ∷ os)
      (both (checking_all ks) _ _ _ (checks_same ks)
      (ap (λ address. new address (kind (kind_of_tick (is_expression this))) ∷ All (putting 0 ks ++ nipping ks))
      (made tick)
      ∙ ap (λ k. new (generator' (there.generator_at tick)) k ∷ All (putting 0 ks ++ nipping ks)) (kinds tick)
      ∙ ap (λ os. new (generator' (there.generator_at tick)) (kind (kind_of_tick (is_expression that))) ∷ os)
      (both (putting 0 ks) _ _ _ (putting_same 0 ks) (nipping_same ks))))

  -- ---- trees

  mutual
    expr_same : (e : Expr) (l t : ℕ) → All (expr_ops here e l t) ≡ All' (expr_ops there e l t)
    expr_same (node.SetVar i a) l t = both (expr_ops here a l t) _ _ _ (expr_same a l t) refl
    expr_same (node.PostVar i w step) l t =
        ap (λ os. build.GetVariable i ∷ build.Pick 0 ∷ build.Const (constant step) ∷ build.Bin bin.Add ∷ os)
        (both (narrowing w) _ _ _ (narrowing_same w) refl)
    expr_same (node.Load w a) l t = both (expr_ops here a l t) _ _ _ (expr_same a l t) refl
    expr_same (node.Store w a b) l t =
        both (expr_ops here a l t) _ _ _ (expr_same a l t)
        (both (expr_ops here b (l + labels_in a) (t + temps_in a)) _ _ _
        (expr_same b (l + labels_in a) (t + temps_in a))
        refl)
    expr_same (node.Modify w k a b) l t =
        both (expr_ops here a l t) _ _ _ (expr_same a l t)
        (ap (λ os. build.Pick 0 ∷ build.Load w ∷ os)
        (both (expr_ops here b (l + labels_in a) (t + temps_in a)) _ _ _
        (expr_same b (l + labels_in a) (t + temps_in a))
        (ap (λ os. build.Bin k ∷ os) (both (narrowing w) _ _ _ (narrowing_same w) refl))))
    expr_same (node.Post w step a) l t =
        both (expr_ops here a l t) _ _ _ (expr_same a l t)
        (ap (λ os. build.Pick 0 ∷ build.Load w ∷ build.Pick 1 ∷ build.Pick 1 ∷ build.Const (constant step) ∷ build.Bin
        bin.Add ∷
        os)
        (both (narrowing w) _ _ _ (narrowing_same w) refl))
    expr_same (node.Bin k a b) l t =
        both (expr_ops here a l t) _ _ _ (expr_same a l t)
        (both (expr_ops here b (l + labels_in a) (t + temps_in a)) _ _ _
        (expr_same b (l + labels_in a) (t + temps_in a))
        refl)
    expr_same (node.Un k a) l t = both (expr_ops here a l t) _ _ _ (expr_same a l t) refl
    expr_same (node.And a b) l t =
        both (expr_ops here a (l + 2) (t + 1)) _ _ _ (expr_same a (l + 2) (t + 1))
        (ap (λ os. build.BranchZero l ∷ os)
        (both (expr_ops here b (l + 2 + labels_in a) (t + 1 + temps_in a)) _ _ _
        (expr_same b (l + 2 + labels_in a) (t + 1 + temps_in a)) refl))
    expr_same (node.Or a b) l t =
        both (expr_ops here a (l + 2) (t + 1)) _ _ _ (expr_same a (l + 2) (t + 1))
        (ap (λ os. build.BranchNonzero l ∷ os)
        (both (expr_ops here b (l + 2 + labels_in a) (t + 1 + temps_in a)) _ _ _
        (expr_same b (l + 2 + labels_in a) (t + 1 + temps_in a)) refl))
    expr_same (node.Cond c a b) l t =
        let la = l + 2 + labels_in c in
        let ta = t + 1 + temps_in c in
        let v = has_value a in
        both (expr_ops here c (l + 2) (t + 1)) _ _ _ (expr_same c (l + 2) (t + 1))
        (ap (λ os. build.BranchZero l ∷ os)
        (both (expr_ops here a la ta) _ _ _ (expr_same a la ta)
        (both (keeping v t) _ _ _ (keeping_same v t)
        (ap (λ os. build.Jump (l + 1) ∷ build.Label l ∷ os)
        (both (expr_ops here b (la + labels_in a) (ta + temps_in a)) _ _ _
        (expr_same b (la + labels_in a) (ta + temps_in a))
        (both (keeping v t) _ _ _ (keeping_same v t)
        (ap (λ os. build.Label (l + 1) ∷ os) (kept_same v t))))))))
    expr_same (node.Comma a b) l t =
        both (expr_ops here a l t) _ _ _ (expr_same a l t)
        (both (dropping (has_value a)) _ _ _ (dropping_same (has_value a))
        (expr_same b (l + labels_in a) (t + temps_in a)))
    expr_same (node.Void a) l t =
        both (expr_ops here a l t) _ _ _ (expr_same a l t) (dropping_same (has_value a))
    expr_same (node.Call answer f args) l t =
        both (args_ops here args l t) _ _ _ (args_same args l t)
        (ap (λ a. build.Call a (count args) ∷ All (dropping_call answer)) (calls f)
        ∙ ap (λ os. build.Call (call' (there.function_at f)) (count args) ∷ os) (dropping_call_same answer))
    expr_same (node.CallNumber answer a args) l t =
        both (expr_ops here a l t) _ _ _ (expr_same a l t)
        (both (args_ops here args (l + labels_in a) (t + temps_in a)) _ _ _
        (args_same args (l + labels_in a) (t + temps_in a))
        (ap (λ os. build.CallNumber (count args) ∷ os) (dropping_call_same answer)))
    expr_same (node.Lib library.Putchar a) l t = both (expr_ops here a l t) _ _ _ (expr_same a l t) refl
    expr_same (node.Lib library.Putint a) l t = both (expr_ops here a l t) _ _ _ (expr_same a l t) refl
    expr_same (node.Lib library.Exit a) l t = both (expr_ops here a l t) _ _ _ (expr_same a l t) refl
    expr_same (node.Lib library.Malloc a) l t = both (expr_ops here a l t) _ _ _ (expr_same a l t) refl
    expr_same (node.Tick tick args) l t =
        both (args_ops here args l t) _ _ _ (args_same args l t) (making_same tick (kinds_of args))
    expr_same (node.Capture kind a) l t = expr_same a l t
    expr_same (node.Compile a) l t = both (expr_ops here a l t) _ _ _ (expr_same a l t) refl
    expr_same (node.ParamOf a) l t = both (expr_ops here a l t) _ _ _ (expr_same a l t) refl
    expr_same (node.VSet i a) l t = both (expr_ops here a l t) _ _ _ (expr_same a l t) refl
    expr_same _ l t = refl

    args_same : (args : Args) (l t : ℕ) → All (args_ops here args l t) ≡ All' (args_ops there args l t)
    args_same node.NoArg l t = refl
    args_same (node.Arg a args) l t =
        both (expr_ops here a l t) _ _ _ (expr_same a l t) (args_same args (l + labels_in a) (t + temps_in a))

  mutual
    stmt_same : (s : Stmt) (to : Targets) (l t : ℕ) → All (stmt_ops here s to l t) ≡ All' (stmt_ops there s to l t)
    stmt_same (node.Eval e) to l t =
        both (expr_ops here e l t) _ _ _ (expr_same e l t) (dropping_same (has_value e))
    stmt_same (node.Block vs is) to l t =
        both (items_ops here vs to l t) _ _ _ (items_same vs to l t)
        (items_same is to (l + labels_of vs) (t + temps_of vs))
    stmt_same (node.Parameter k w) to l t =
        ap (λ os. build.Parameter k ∷ os) (both (narrowing w) _ _ _ (narrowing_same w) refl)
    stmt_same (node.ParameterObject k w offset) to l t =
        ap (λ os. build.FrameAddress offset ∷ build.Parameter k ∷ os)
        (both (narrowing w) _ _ _ (narrowing_same w) refl)
    stmt_same (node.If e s) to l t =
        let l1 = l + 1 + labels_in e in
        let t1 = t + temps_in e in
        both (expr_ops here e (l + 1) t) _ _ _ (expr_same e (l + 1) t)
        (ap (λ os. build.BranchZero l ∷ os) (both (stmt_ops here s to l1 t1) _ _ _ (stmt_same s to l1 t1) refl))
    stmt_same (node.IfElse e s r) to l t =
        let l2 = l + 2 + labels_in e in
        let t2 = t + temps_in e in
        both (expr_ops here e (l + 2) t) _ _ _ (expr_same e (l + 2) t)
        (ap (λ os. build.BranchZero l ∷ os)
        (both (stmt_ops here s to l2 t2) _ _ _ (stmt_same s to l2 t2)
        (ap (λ os. build.Jump (l + 1) ∷ build.Label l ∷ os)
        (both (stmt_ops here r to (l2 + labels s) (t2 + temps s)) _ _ _
        (stmt_same r to (l2 + labels s) (t2 + temps s)) refl))))
    stmt_same (node.While e s) to l t =
        let in_loop : Targets = record { on_break = l; on_continue = l + 1 } in
        let l2 = l + 2 + labels_in e in
        let t2 = t + temps_in e in
        ap (λ os. build.Label (l + 1) ∷ os)
        (both (expr_ops here e (l + 2) t) _ _ _ (expr_same e (l + 2) t)
        (ap (λ os. build.BranchZero l ∷ os)
        (both (stmt_ops here s in_loop l2 t2) _ _ _ (stmt_same s in_loop l2 t2) refl)))
    stmt_same (node.Do s e) to l t =
        let in_loop : Targets = record { on_break = l; on_continue = l + 2 } in
        ap (λ os. build.Label (l + 1) ∷ os)
        (both (stmt_ops here s in_loop (l + 3) t) _ _ _ (stmt_same s in_loop (l + 3) t)
        (ap (λ os. build.Label (l + 2) ∷ os)
        (both (expr_ops here e (l + 3 + labels s) (t + temps s)) _ _ _
        (expr_same e (l + 3 + labels s) (t + temps s))
        refl)))
    stmt_same (node.For e s) to l t =
        let in_loop : Targets = record { on_break = l; on_continue = l + 2 } in
        let l3 = l + 3 + labels_in e in
        let t3 = t + temps_in e in
        ap (λ os. build.Label (l + 1) ∷ os)
        (both (expr_ops here e (l + 3) t) _ _ _ (expr_same e (l + 3) t)
        (ap (λ os. build.BranchZero l ∷ os)
        (both (stmt_ops here s in_loop l3 t3) _ _ _ (stmt_same s in_loop l3 t3) refl)))
    stmt_same (node.ForStep e step s) to l t =
        let in_loop : Targets = record { on_break = l; on_continue = l + 2 } in
        let l3 = l + 3 + labels_in e in
        let t3 = t + temps_in e in
        let ls = l3 + labels s in
        let ts = t3 + temps s in
        ap (λ os. build.Label (l + 1) ∷ os)
        (both (expr_ops here e (l + 3) t) _ _ _ (expr_same e (l + 3) t)
        (ap (λ os. build.BranchZero l ∷ os)
        (both (stmt_ops here s in_loop l3 t3) _ _ _ (stmt_same s in_loop l3 t3)
        (ap (λ os. build.Label (l + 2) ∷ os)
        (both (expr_ops here step ls ts) _ _ _ (expr_same step ls ts)
        (both (dropping (has_value step)) _ _ _ (dropping_same (has_value step)) refl))))))
    stmt_same (node.Switch e vs is) to l t =
        let l1 = l + 1 + labels_in e in
        let t1 = t + 1 + temps_in e in
        let l2 = l1 + labels_of vs in
        let t2 = t1 + temps_of vs in
        let in_switch : Targets = record { on_break = l; on_continue = to.on_continue } in
        both (expr_ops here e (l + 1) (t + 1)) _ _ _ (expr_same e (l + 1) (t + 1))
        (ap (λ os. build.SetVariable t ∷ build.Drop ∷ os)
        (both (items_ops here vs to l1 t1) _ _ _ (items_same vs to l1 t1)
        (both (test_ops is l2 t) _ _ _ (test_same is l2 t)
        (ap (λ os. build.Jump (default_label is l2 l) ∷ os)
        (both (items_ops here is in_switch l2 t2) _ _ _ (items_same is in_switch l2 t2) refl)))))
    stmt_same (node.ReturnValue e) to l t = both (expr_ops here e l t) _ _ _ (expr_same e l t) refl
    stmt_same _ to l t = refl

    items_same : (is : Items) (to : Targets) (l t : ℕ) →
        All (items_ops here is to l t) ≡ All' (items_ops there is to l t)
    items_same node.NoItem to l t = refl
    items_same (node.Item s is) to l t =
        both (stmt_ops here s to l t) _ _ _ (stmt_same s to l t) (items_same is to (l + labels s) (t + temps s))

  ops_same : (f : node.Function) → All (function_ops here f) ≡ All' (function_ops there f)
  ops_same f =
      ap (λ os. build.Enter (variables_in f.body + temps f.body) (labels f.body) ∷ os)
      (both (stmt_ops here f.body nowhere 0 (variables_in f.body)) _ _ _
      (stmt_same f.body nowhere 0 (variables_in f.body)) refl)

-- ---- the builder

module _ (m : Sending) (zero : m.constant 0 ≡ 0) where
  abbrev moved : List Op → List Op
  moved os = map (sent_op m) os

  abbrev pub cleared : Build → Build
  cleared b = record b { ops = moved b.ops; prelude = moved b.prelude }

  yield_same : (o : Op) (n : ℕ) (b : Build) → yield (sent_op m o) n (cleared b) ≡ cleared (yield o n b)
  yield_same o n b =
      ap (λ (os : List Op). record (yield o n b) { ops = os; prelude = moved b.prelude })
      (sym (map-append (sent_op m) b.ops (o ∷ [])))

  added : (o : Op) (b after : Build) →
      record after { ops = moved b.ops ++ sent_op m o ∷ []; prelude = moved after.prelude }
      ≡ cleared (record after { ops = b.ops ++ o ∷ [] })
  added o b after =
      ap (λ (os : List Op). record after { ops = os; prelude = moved after.prelude })
      (sym (map-append (sent_op m) b.ops (o ∷ [])))

  checked_same : (kind : BinKind) (l r : ℕ) (b : Build) → checked kind l r (cleared b) ≡ cleared (checked kind l r b)
  checked_same bin.DivideSigned l r b = added (op.CheckDivision l r) b b
  checked_same bin.DivideUnsigned l r b = added (op.CheckZero r) b b
  checked_same bin.RemainderSigned l r b = added (op.CheckDivision l r) b b
  checked_same bin.RemainderUnsigned l r b = added (op.CheckZero r) b b
  checked_same kind l r b = refl

  arguments_same : (k : ℕ) (rs : List ℕ) → moved (arguments k rs) ≡ arguments k rs
  arguments_same k [] = refl
  arguments_same k (r ∷ rs) = ap (λ os. op.Argument k r ∷ os) (arguments_same (k + 1) rs)

  pass_same : (n : ℕ) (b : Build) → pass n (cleared b) ≡ cleared (pass n b)
  pass_same n b =
      let rs = drop (length b.operands - n) b.operands in
      ap (λ (os : List Op). record (pass n b) { ops = os; prelude = moved b.prelude })
      (ap (λ os. moved b.ops ++ os) (sym (arguments_same 0 rs)) ∙
      sym (map-append (sent_op m) b.ops (arguments 0 rs)))

  first_same : (key r : ℕ) → first_mention key r ≡ sent_op m (first_mention key r)
  first_same key r = by (nat_lt key MOST_ARGUMENTS)
    where
      by : (low : Bool) → (if low then op.GetParameter r key else op.Const r 0) ≡
          sent_op m (if low then op.GetParameter r key else op.Const r 0)
      by true = refl
      by false = ap (op.Const r) (sym zero)

  mention_same : (o : Option ℕ) (key : ℕ) (b : Build) → mention o key (cleared b) ≡ cleared (mention o key b)
  mention_same (Some r) key b = refl
  mention_same None key b =
      ap (λ (os : List Op). record (mention None key b) { ops = moved b.ops; prelude = os })
      (ap (λ (o : Op). moved b.prelude ++ o ∷ []) (first_same key b.registers)
      ∙ sym (map-append (sent_op m) b.prelude (first_mention key b.registers ∷ [])))

  mentioned_same : (key : ℕ) (b : Build) → mentioned key (cleared b) ≡ cleared (mentioned key b)
  mentioned_same key b = mention_same (find key b.keys) key b

  effect_same : (o : BuildOp) (b : Build) → effect (sent m o) (cleared b) ≡ cleared (effect o b)
  effect_same (build.Const word) b = yield_same (op.Const b.registers word) 0 b
  effect_same (build.Bin kind) b =
      ap (λ (c : Build). yield (op.Bin kind b.registers (operand 1 b) (operand 0 b)) 2 c)
      (checked_same kind (operand 1 b) (operand 0 b) b)
      ∙ yield_same (op.Bin kind b.registers (operand 1 b) (operand 0 b)) 2
      (checked kind (operand 1 b) (operand 0 b) b)
  effect_same (build.Un kind) b = yield_same (op.Un kind b.registers (operand 0 b)) 1 b
  effect_same (build.Enter n m) b = refl
  effect_same build.Leave b = refl
  effect_same (build.GetVariable i) b = yield_same (op.Move b.registers (variable i b)) 0 b
  effect_same (build.SetVariable i) b = added (op.Move (variable i b) (operand 0 b)) b b
  effect_same build.Drop b = refl
  effect_same (build.Pick i) b = refl
  effect_same build.Nip b = refl
  effect_same (build.Load w) b = yield_same (op.Load w b.registers (operand 0 b)) 1 b
  effect_same (build.Store w) b =
      added (op.Store w (operand 1 b) (operand 0 b)) b (record (effect (build.Store w) b) { ops = b.ops })
  effect_same (build.Label i) b = added (op.Label (label i b)) b b
  effect_same (build.Jump i) b = added (op.Jump (label i b)) b b
  effect_same (build.BranchZero i) b =
      added (op.BranchZero (operand 0 b) (label i b)) b (record (effect (build.BranchZero i) b) { ops = b.ops })
  effect_same (build.BranchNonzero i) b =
      added (op.BranchNonzero (operand 0 b) (label i b)) b (record (effect (build.BranchNonzero i) b) { ops = b.ops })
  effect_same (build.Call address n) b =
      let c = pass n b in
      ap (λ (x : Build). yield (op.Result b.registers) 0 (record x { ops = x.ops ++ op.Call (m.call address) ∷ [] }))
      (pass_same n b)
      ∙ ap (λ (x : Build). yield (op.Result b.registers) 0 x) (added (op.Call address) c c)
      ∙ yield_same (op.Result b.registers) 0 (record c { ops = c.ops ++ op.Call address ∷ [] })
  effect_same (build.CallNumber n) b =
      let c = pass n b in
      let o = op.CallNumber (operand n b) n in
      ap (λ (x : Build). yield (op.Result b.registers) 1 (record x { ops = x.ops ++ o ∷ [] })) (pass_same n b)
      ∙ ap (λ (x : Build). yield (op.Result b.registers) 1 x) (added o c c)
      ∙ yield_same (op.Result b.registers) 1 (record c { ops = c.ops ++ o ∷ [] })
  effect_same build.Return b =
      added (op.Return (operand 0 b)) b (record (effect build.Return b) { ops = b.ops })
  effect_same build.ReturnZero b = added op.ReturnZero b b
  effect_same (build.GetSpec key) b =
      ap (λ (x : Build). yield (op.Move x.registers (key_register key b)) 0 x) (mentioned_same key b)
      ∙ yield_same (op.Move (mentioned key b).registers (key_register key b)) 0 (mentioned key b)
  effect_same (build.SetSpec key) b =
      let o = op.Move (key_register key b) (operand 0 b) in
      ap (λ (x : Build). record x { ops = x.ops ++ o ∷ [] }) (mentioned_same key b)
      ∙ added o (mentioned key b) (mentioned key b)
  effect_same (build.Sys kind) b = yield_same (op.Sys kind b.registers (operand 0 b)) 1 b
  effect_same (build.Run routine) b = yield_same (op.Run routine b.registers (operand 0 b)) 1 b
  effect_same (build.FrameAddress offset) b = yield_same (op.FrameAddress b.registers offset) 0 b
  effect_same (build.Clear offset words) b = added (op.Clear offset words) b b
  effect_same (build.New address kind captures) b = yield_same (op.New b.registers address kind captures) 0 b
  effect_same (build.Put i) b =
      added (op.Put i (operand 0 b)) b (record (effect (build.Put i) b) { ops = b.ops })
  effect_same (build.Parameter k) b = yield_same (op.GetParameter b.registers k) 0 b

  pub run_same : (os : List BuildOp) (b : Build) → run_ops (map (sent m) os) (cleared b) ≡ cleared (run_ops os b)
  run_same [] b = refl
  run_same (o ∷ os) b = ap (run_ops (map (sent m) os)) (effect_same o b) ∙ run_same os (effect o b)

  pub finished_sent : (b : Build) → moved (finished b) ≡ finished (cleared b)
  finished_sent b =
      let last = op.ReturnZero ∷ [] in
      map-append (sent_op m) (b.prelude ++ b.ops) last
      ∙ ap (λ (zs : List Op). zs ++ last) (map-append (sent_op m) b.prelude b.ops)

-- ---- two lists of addresses

module _ (constant : ℕ → ℕ) (kind : ClosureKind → ClosureKind) (zero : constant 0 ≡ 0)
    (call generator call' generator' : ℕ → ℕ) (here there : Addresses)
    (calls : (f : ℕ) → call (here.function_at f) ≡ call' (there.function_at f))
    (made : (tick : ℕ) → generator (here.generator_at tick) ≡ generator' (there.generator_at tick))
    (sizes : (tick : ℕ) → constant (tick_size (slice_get here.ticks tick))
    ≡ constant (tick_size (slice_get there.ticks tick)))
    (kinds : (tick : ℕ) → kind (kind_of_tick (is_expression (slice_get here.ticks tick)))
    ≡ kind (kind_of_tick (is_expression (slice_get there.ticks tick)))) (f : node.Function) where
  abbrev this : Sending
  this = record { call = call; generator = generator; constant = constant; kind = kind }

  abbrev that : Sending
  that = record { call = call'; generator = generator'; constant = constant; kind = kind }

  built : cleared this zero (run_ops (function_ops here f) (empty f.parameters))
      ≡ cleared that zero (run_ops (function_ops there f) (empty f.parameters))
  built =
      sym (run_same this zero (function_ops here f) (empty f.parameters))
      ∙ ap (λ os. run_ops os (empty f.parameters))
      (ops_same constant kind call generator call' generator' here there calls made sizes kinds f)
      ∙ run_same that zero (function_ops there f) (empty f.parameters)

  pub moved_code : map (sent_op this) (code_of here f) ≡ map (sent_op that) (code_of there f)
  moved_code =
      finished_sent this zero (run_ops (function_ops here f) (empty f.parameters)) ∙ ap finished built
      ∙ sym (finished_sent that zero (run_ops (function_ops there f) (empty f.parameters)))

  pub as_many : registers_of here f ≡ registers_of there f
  as_many = ap (λ b. b.registers) built

-- what is sent to itself
abbrev stays : Sending
stays = record { call = λ a. a; generator = λ a. a; constant = λ w. w; kind = λ k. k }

stays_same : (os : List Op) → map (sent_op stays) os ≡ os
stays_same [] = refl
stays_same (o ∷ os) = ap (λ (z : Op). z ∷ map (sent_op stays) os) (once o) ∙
    ap (λ (zs : List Op). o ∷ zs) (stays_same os)
  where
    once : (o : Op) → sent_op stays o ≡ o
    once (op.Call address) = refl
    once (op.Const to word) = refl
    once (op.New to address kind captures) = refl
    once o = refl

-- the code of a function is the one that names functions and ticks by their numbers, each sent to the address
pub code_sent : (d : Addresses) (f : node.Function) →
    map (sent_op (to_address d)) (code_of (by_number d) f) ≡ code_of d f
code_sent d f =
    moved_code (λ w. w) (λ k. k) refl d.function_at d.generator_at (λ a. a) (λ a. a) (by_number d) d (λ f. refl)
    (λ tick. refl) (λ tick. refl) (λ tick. refl) f
    ∙ stays_same (code_of d f)

-- all is sent to one place
abbrev pub nowhere_sent : Sending
nowhere_sent =
    record { call = λ a. 0; generator = λ a. 0; constant = λ w. 0; kind = λ k. closure.Expression }

abbrev pub aimless_op : Op → Op
aimless_op = sent_op nowhere_sent

-- The code is the same under any addresses, but for the addresses of calls and of the functions of ticks, and for
-- constants and kinds; and it has as many registers.
pub code_same : (d e : Addresses) (f : node.Function) → map aimless_op (code_of d f) ≡ map aimless_op (code_of e f)
code_same d e f =
    moved_code (λ w. 0) (λ k. closure.Expression) refl (λ a. 0) (λ a. 0) (λ a. 0) (λ a. 0) d e (λ f. refl)
    (λ tick. refl) (λ tick. refl) (λ tick. refl) f

pub registers_same : (d e : Addresses) (f : node.Function) → registers_of d f ≡ registers_of e f
registers_same d e f =
    as_many (λ w. 0) (λ k. closure.Expression) refl (λ a. 0) (λ a. 0) (λ a. 0) (λ a. 0) d e (λ f. refl)
    (λ tick. refl) (λ tick. refl) (λ tick. refl) f

-- ---- lengths

aimless_length : (l : Layout) (a : Aim → ℕ) (o : Op) → length (template l a (aimless_op o)) ≡ length (template l a o)
aimless_length l a (op.Call address) = refl
aimless_length l a (op.Const to word) = refl
aimless_length l a (op.New to address kind captures) = refl
aimless_length l a o = refl

aimless_lengths : (l : Layout) (a : Aim → ℕ) (os : List Op) →
    length (templates l a (map aimless_op os)) ≡ length (templates l a os)
aimless_lengths l a [] = refl
aimless_lengths l a (o ∷ os) =
    let x = length-append (template l a (aimless_op o)) (templates l a (map aimless_op os)) in
    let y = length-append (template l a o) (templates l a os) in
    omega (arith, x, y, aimless_length l a o, aimless_lengths l a os)

-- so it has as many instructions
pub code_length : (d e : Addresses) (f : node.Function) (l : Layout) (a : Aim → ℕ) →
    length (templates l a (code_of d f)) ≡ length (templates l a (code_of e f))
code_length d e f l a =
    sym (aimless_lengths l a (code_of d f)) ∙ ap (λ os. length (templates l a os)) (code_same d e f)
    ∙ aimless_lengths l a (code_of e f)
