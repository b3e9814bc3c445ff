-- The ops of a function of words are of the kinds whose simulation is proved.
use Rattle.std.proofs.Common.{◌≡◌, ℕ, zero, suc, ◌+◌, ◌-◌, ◌<◌, ◌≤◌, Bool, true, false, List, [], ◌∷◌, ◌++◌, length}
use Rattle.std.proofs.Common.{drop, refl, sym, ◌∙◌, arith, if◌then◌else◌, slice_get, Option, Some, None}
use Rattle.std.proofs.lemmas.List.{length-drop}
use Rattle.word32.specs.declared.map.TheConstants.{SEGMENT_BYTES}
use Rattle.limits.specs.declared.ops.TheConstants.{MOST_CAPTURES}
use Rattle.limits.specs.declared.program.TheConstants.{MOST_ARGUMENTS, SIZE_LIMIT}
use Rattle.word32.specs.declared.width.Width.{Width}
use Rattle.word32.specs.declared.width.Width.TheVariants as width
use Rattle.icode_ops.specs.declared.op.Op.{Op}
use Rattle.icode_ops.specs.declared.op.Op.TheVariants as op
use Rattle.icode_ops.specs.declared.kind.BinKind.{BinKind}
use Rattle.icode_ops.specs.declared.kind.BinKind.TheVariants as bin
use Rattle.icode_ops.specs.declared.kind.SysKind.TheVariants as sys
use Rattle.icode_ops.specs.declared.kind.RunKind.{RunKind}
use Rattle.icode_ops.specs.declared.kind.RunKind.TheVariants as run
use Rattle.icode_ops.specs.Flow.{op_at}
use Rattle.icode_ir.specs.declared.build_op.BuildOp.{BuildOp}
use Rattle.icode_ir.specs.declared.build_op.BuildOp.TheVariants as build
use Rattle.icode_ir.specs.Build.{Build, empty, operand, variable, label, arguments, add, pass, finished}
use Rattle.icode_ir.specs.Rules.{effect, checked}
use Rattle.icode_ir.specs.Runs.{run_ops}
use Rattle.icode_ir.specs.Sound.{Each}
use Rattle.icode_ir.proofs.Sounds.{Each-append}
use Rattle.icode_expand_proof.specs.Served.{IsServed}
use Rattle.typed_tree.specs.Nodes as node
use Rattle.typed_tree.specs.declared.expression.Library.TheVariants as library
use Rattle.typed_tree.specs.declared.expression.Answer.{Answer}
use Rattle.typed_tree.specs.Nodes.{Expr, Args, Stmt, Items, has_value}
use Rattle.typed_tree.specs.Sizes.{is_value}
use Rattle.staged_meaning.specs.Scope.{IsBuilt, AreBuilt, IsBuiltStmt, AreBuiltItems}
use Rattle.staged_meaning.specs.Calls.{HasCalls, HaveCalls, HasCallsStmt, HaveCallsItems}
use Rattle.staged_meaning.specs.Ticks.{AreCaptures, HasTicks, HaveTicks, HaveTicksCaptures, HasTicksStmt}
use Rattle.staged_meaning.specs.Ticks.{HaveTicksItems}
use Rattle.staged_meaning.specs.Program.{tick_size}
use Rattle.staged_meaning.specs.Specifications.{kinds_of}
use Rattle.typed_tree.specs.declared.expression.CaptureKind.{CaptureKind}
use Rattle.typed_tree.specs.declared.expression.CaptureKind.TheVariants as kind
use Rattle.staged_meaning.specs.Placed.{Allowed, outside, nested, looped, switched, below, AreDeclarations, IsPlaced}
use Rattle.staged_meaning.specs.Placed.{IsDeclaration, ArePlaced, IsParameter, AreHeaded, IsHeaded}
use Rattle.staged_meaning.specs.Size.{labels_in, labels, labels_of, temps_in, temps, temps_of, variables_in}
use Rattle.tick_lower_spec.specs.Lower.{Addresses, expr_ops, args_ops, Targets, stmt_ops, items_ops, nowhere}
use Rattle.tick_lower_spec.specs.Lower.{function_ops, dropping, dropping_call, keeping, kept, narrowing, step_ops}
use Rattle.tick_lower_spec.specs.Lower.{case_ops, test_ops, check_run, checking, checking_all, putting, nipping}
use Rattle.tick_lower_spec.specs.Lower.{making_ops}
use Rattle.tick_lower_proof.specs.Laws.{code_of}
use Rattle.static_image.specs.Words.{HasWords, HaveWordsArgs, HasWordsStmt, HaveWords}
use Rattle.static_image.specs.Served.{IsStatic}

-- the builder's ops from which only such ops come
abbrev pub IsPlain : BuildOp → Type 0
IsPlain (build.Const word) = word < 4294967296
IsPlain (build.Bin kind) = Unit {0}
IsPlain (build.Un kind) = Unit {0}
IsPlain (build.Enter n m) = Unit {0}
IsPlain build.Leave = Unit {0}
IsPlain (build.GetVariable i) = Unit {0}
IsPlain (build.SetVariable i) = Unit {0}
IsPlain build.Drop = Unit {0}
IsPlain (build.Pick i) = Unit {0}
IsPlain build.Nip = Unit {0}
IsPlain (build.Label i) = Unit {0}
IsPlain (build.Jump i) = Unit {0}
IsPlain (build.BranchZero i) = Unit {0}
IsPlain (build.BranchNonzero i) = Unit {0}
IsPlain build.Return = Unit {0}
IsPlain build.ReturnZero = Unit {0}
IsPlain (build.Sys kind) = Unit {0}
IsPlain (build.Load width) = Unit {0}
IsPlain (build.Store width) = Unit {0}
IsPlain (build.FrameAddress offset) = Unit {0}
IsPlain (build.Clear offset words) = Unit {0}
IsPlain (build.Parameter k) = k < MOST_ARGUMENTS
IsPlain (build.Call address n) = (address < SEGMENT_BYTES) × (n ≤ MOST_ARGUMENTS)
IsPlain (build.CallNumber n) = n ≤ MOST_ARGUMENTS
IsPlain (build.Run routine) = Unit {0}
IsPlain (build.New address kind captures) = (address < 4294967296) × (captures ≤ MOST_CAPTURES)
IsPlain (build.Put i) = i < MOST_CAPTURES
IsPlain _ = ⊥

-- all of them are
abbrev ArePlain : List BuildOp → Type 0
ArePlain ops = Each IsPlain ops

one : (xs : List BuildOp) (o : BuildOp) → ArePlain xs → IsPlain o → ArePlain (xs ++ o ∷ [])
one xs o h p = Each-append IsPlain xs (o ∷ []) h (p, tt)

then_plain : (xs ys : List BuildOp) → ArePlain xs → ArePlain ys → ArePlain (xs ++ ys)
then_plain xs ys h g = Each-append IsPlain xs ys h g

narrowing_plain : (w : Width) → ArePlain (narrowing w)
narrowing_plain width.SignedByte = (tt, tt)
narrowing_plain width.Byte = (tt, tt)
narrowing_plain width.SignedHalf = (tt, tt)
narrowing_plain width.Half = (tt, tt)
narrowing_plain width.Word = tt

dropping_plain : (b : Bool) → ArePlain (dropping b)
dropping_plain true = (tt, tt)
dropping_plain false = tt

dropping_call_plain : (a : Answer) → ArePlain (dropping_call a)
dropping_call_plain a = by (is_value a)
  where
    by : (b : Bool) → ArePlain (if b then [] else (build.Drop ∷ []))
    by true = tt
    by false = (tt, tt)

keeping_plain : (b : Bool) (t : ℕ) → ArePlain (keeping b t)
keeping_plain true t = (tt, (tt, tt))
keeping_plain false t = tt

kept_plain : (b : Bool) (t : ℕ) → ArePlain (kept b t)
kept_plain true t = (tt, tt)
kept_plain false t = tt

case_plain : (s : Stmt) → HasWordsStmt s → (l t : ℕ) → ArePlain (case_ops s l t)
case_plain (node.Case value) words l t = (tt, (words, (tt, (tt, tt))))
case_plain (node.Eval e) words l t = tt
case_plain (node.Block variables items) words l t = tt
case_plain (node.Variable i) words l t = tt
case_plain (node.Object offset n) words l t = tt
case_plain (node.Parameter k w) words l t = tt
case_plain (node.ParameterObject k w offset) words l t = tt
case_plain (node.If e s) words l t = tt
case_plain (node.IfElse e s r) words l t = tt
case_plain (node.While e s) words l t = tt
case_plain (node.Do s e) words l t = tt
case_plain (node.For e s) words l t = tt
case_plain (node.ForStep e step s) words l t = tt
case_plain (node.Switch e variables items) words l t = tt
case_plain node.Default words l t = tt
case_plain node.Break words l t = tt
case_plain node.Continue words l t = tt
case_plain node.Return words l t = tt
case_plain (node.ReturnValue e) words l t = tt

test_plain : (is : Items) → HaveWords is → (l t : ℕ) → ArePlain (test_ops is l t)
test_plain node.NoItem words l t = tt
test_plain (node.Item s is) words l t =
    then_plain (case_ops s l t) (test_ops is (l + labels s) t) (case_plain s words.0 l t)
    (test_plain is words.1 (l + labels s) t)

-- declarations are no parameters
declared : (is : Items) → AreDeclarations is → ArePlaced (below outside) is
declared node.NoItem h = tt
declared (node.Item s is) h = (one_of s h.0, declared is h.1)
  where
    one_of : (s : Stmt) → IsDeclaration s → IsPlaced (below outside) s
    one_of (node.Variable i) h = refl
    one_of (node.Object offset n) h = tt
    one_of _ h = absurd h

-- Functions have these addresses, which jumps reach, and so have those that generate the code of ticks; the sizes of
-- ticks are words, and a closure has room for what each captures.
pub record AreLow (d : Addresses) (kinds : List (List CaptureKind)) : Type 0 where
  pub functions : (number : ℕ) → d.function_at number < SEGMENT_BYTES
  pub generators : (tick : ℕ) → d.generator_at tick < SEGMENT_BYTES
  pub sizes : (tick : ℕ) → tick_size (slice_get d.ticks tick) ≤ SIZE_LIMIT
  pub captures : (tick : ℕ) (ks : List CaptureKind) → slice_get kinds tick ≡ Some ks → length ks ≤ MOST_CAPTURES

-- ---- the making of a specification

checking_plain : (k : Option RunKind) (depth : ℕ) → ArePlain (checking k depth)
checking_plain None depth = tt
checking_plain (Some routine) depth = (tt, (tt, (tt, tt)))

checks_plain : (ks : List CaptureKind) → ArePlain (checking_all ks)
checks_plain [] = tt
checks_plain (k ∷ ks) =
    then_plain (checking (check_run k) (length ks)) (checking_all ks) (checking_plain (check_run k) (length ks))
    (checks_plain ks)

putting_plain : (i : ℕ) (ks : List CaptureKind) → i + length ks ≤ MOST_CAPTURES → ArePlain (putting i ks)
putting_plain i [] few = tt
putting_plain i (k ∷ ks) few = (tt, (omega (arith, few), putting_plain (suc i) ks (omega (arith, few))))

nipping_plain : (ks : List CaptureKind) → ArePlain (nipping ks)
nipping_plain [] = tt
nipping_plain (k ∷ ks) = (tt, nipping_plain ks)

module _ (fs : List node.Function) (d : Addresses) (kinds : List (List CaptureKind)) (low : AreLow d kinds) where
  making_plain : (tick : ℕ) (ks : List CaptureKind) → slice_get kinds tick ≡ Some ks →
      ArePlain (making_ops d tick ks)
  making_plain tick ks is =
      let few = low.captures tick ks is in (
        omega (arith, low.sizes tick),
        (
          tt,
          (
            tt,
            then_plain (checking_all ks) _ (checks_plain ks) (
              (omega (arith, low.generators tick), few),
              then_plain (putting 0 ks) (nipping ks) (putting_plain 0 ks (omega (arith, few))) (nipping_plain ks),
            ),
          ),
        ),
      )

  mutual
    expr_plain : (e : Expr) → IsBuilt [] e → HasWords e → HasCalls fs e → HasTicks kinds e → (l t : ℕ) →
        ArePlain (expr_ops d e l t)
    expr_plain (node.Const word) built words calls ticks l t = (words, tt)
    expr_plain (node.Var i) built words calls ticks l t = (tt, tt)
    expr_plain (node.SetVar i a) built words calls ticks l t =
        one (expr_ops d a l t) (build.SetVariable i) (expr_plain a built words calls ticks l t) tt
    expr_plain (node.PostVar i w step) built words calls ticks l t = (
      tt,
      (
        tt,
        then_plain (step_ops step w) (build.SetVariable i ∷ build.Drop ∷ []) (words, (tt, narrowing_plain w))
            (tt, (tt, tt)),
      ),
    )
    expr_plain (node.Bin k x y) built words calls ticks l t =
        then_plain (expr_ops d x l t) _ (expr_plain x built.0 words.0 calls.0 ticks.0 l t)
        (one (expr_ops d y (l + labels_in x) (t + temps_in x)) (build.Bin k)
        (expr_plain y built.1 words.1 calls.1 ticks.1 (l + labels_in x) (t + temps_in x)) tt)
    expr_plain (node.Frame offset) built words calls ticks l t = (tt, tt)
    expr_plain (node.Load w x) built words calls ticks l t =
        one (expr_ops d x l t) (build.Load w) (expr_plain x built words calls ticks l t) tt
    expr_plain (node.Store w x y) built words calls ticks l t =
        then_plain (expr_ops d x l t) _ (expr_plain x built.0 words.0 calls.0 ticks.0 l t)
        (one (expr_ops d y (l + labels_in x) (t + temps_in x)) (build.Store w)
        (expr_plain y built.1 words.1 calls.1 ticks.1 (l + labels_in x) (t + temps_in x)) tt)
    expr_plain (node.Modify w k x y) built words calls ticks l t =
        then_plain (expr_ops d x l t) _ (expr_plain x built.0 words.0 calls.0 ticks.0 l t) (
          tt,
          (
            tt,
            then_plain (expr_ops d y (l + labels_in x) (t + temps_in x)) _
                (expr_plain y built.1 words.1 calls.1 ticks.1 (l + labels_in x) (t + temps_in x))
                (tt, one (narrowing w) (build.Store w) (narrowing_plain w) tt),
          ),
        )
    expr_plain (node.Post w step x) built words calls ticks l t =
        then_plain (expr_ops d x l t) _ (expr_plain x built words.1 calls ticks l t) (
          tt,
          (
            tt,
            (
              tt,
              (
                tt,
                then_plain (step_ops step w) (build.Store w ∷ build.Drop ∷ build.Nip ∷ [])
                    (words.0, (tt, narrowing_plain w)) (tt, (tt, (tt, tt))),
              ),
            ),
          ),
        )
    expr_plain (node.Call answer f args) built words calls ticks l t =
        then_plain (args_ops d args l t) _ (args_plain args built words calls.1 ticks l t)
        ((low.functions f, calls.0.few), dropping_call_plain answer)
    expr_plain (node.CallNumber answer x args) built words calls ticks l t =
        then_plain (expr_ops d x l t) _ (expr_plain x built.0 words.0 calls.1 ticks.0 l t)
        (then_plain (args_ops d args (l + labels_in x) (t + temps_in x)) _
        (args_plain args built.1 words.1 calls.2 ticks.1 (l + labels_in x) (t + temps_in x))
        (calls.0, dropping_call_plain answer))
    expr_plain (node.Un k x) built words calls ticks l t =
        one (expr_ops d x l t) (build.Un k) (expr_plain x built words calls ticks l t) tt
    expr_plain (node.And x y) built words calls ticks l t =
        then_plain (expr_ops d x (l + 2) (t + 1)) _ (expr_plain x built.0 words.0 calls.0 ticks.0 (l + 2) (t + 1)) (
          tt,
          then_plain (expr_ops d y (l + 2 + labels_in x) (t + 1 + temps_in x)) _
              (expr_plain y built.1 words.1 calls.1 ticks.1 (l + 2 + labels_in x) (t + 1 + temps_in x))
              (tt, (omega arith, (tt, (tt, (tt, (tt, (omega arith, (tt, (tt, (tt, (tt, tt))))))))))),
        )
    expr_plain (node.Or x y) built words calls ticks l t =
        then_plain (expr_ops d x (l + 2) (t + 1)) _ (expr_plain x built.0 words.0 calls.0 ticks.0 (l + 2) (t + 1)) (
          tt,
          then_plain (expr_ops d y (l + 2 + labels_in x) (t + 1 + temps_in x)) _
              (expr_plain y built.1 words.1 calls.1 ticks.1 (l + 2 + labels_in x) (t + 1 + temps_in x))
              (tt, (omega arith, (tt, (tt, (tt, (tt, (omega arith, (tt, (tt, (tt, (tt, tt))))))))))),
        )
    expr_plain (node.Cond c x y) built words calls ticks l t =
        let lx = l + 2 + labels_in c in
        let tx = t + 1 + temps_in c in
        let ly = lx + labels_in x in
        let ty = tx + temps_in x in
        let v = has_value x in
        then_plain (expr_ops d c (l + 2) (t + 1)) _ (expr_plain c built.0 words.0 calls.0 ticks.0 (l + 2) (t + 1)) (
          tt,
          then_plain (expr_ops d x lx tx) _ (expr_plain x built.1 words.1 calls.1 ticks.1 lx tx)
              (then_plain (keeping v t) _ (keeping_plain v t) (
                tt,
                (
                  tt,
                  then_plain (expr_ops d y ly ty) _ (expr_plain y built.2 words.2 calls.2 ticks.2 ly ty)
                      (then_plain (keeping v t) _ (keeping_plain v t) (tt, kept_plain v t)),
                ),
              )),
        )
    expr_plain (node.Comma x y) built words calls ticks l t =
        then_plain (expr_ops d x l t) _ (expr_plain x built.0 words.0 calls.0 ticks.0 l t)
        (then_plain (dropping (has_value x)) _ (dropping_plain (has_value x))
        (expr_plain y built.1 words.1 calls.1 ticks.1 (l + labels_in x) (t + temps_in x)))
    expr_plain (node.Void x) built words calls ticks l t =
        then_plain (expr_ops d x l t) (dropping (has_value x)) (expr_plain x built words calls ticks l t)
        (dropping_plain (has_value x))
    expr_plain node.Getchar built words calls ticks l t = (omega arith, (tt, tt))
    expr_plain (node.Lib library.Putchar a) built words calls ticks l t =
        one (expr_ops d a l t) (build.Sys sys.PutByte) (expr_plain a built words calls ticks l t) tt
    expr_plain (node.Lib library.Putint a) built words calls ticks l t =
        then_plain (expr_ops d a l t) _ (expr_plain a built words calls ticks l t) (tt, (tt, tt))
    expr_plain (node.Lib library.Exit a) built words calls ticks l t =
        then_plain (expr_ops d a l t) _ (expr_plain a built words calls ticks l t) (tt, (tt, tt))
    expr_plain (node.Lib library.Malloc a) built words calls ticks l t =
        one (expr_ops d a l t) (build.Run run.Malloc) (expr_plain a built words calls ticks l t) tt
    expr_plain (node.Tick tick args) built words calls ticks l t =
        then_plain (args_ops d args l t) _ (captures_plain args built.0 built.1 words calls ticks.1 l t)
        (making_plain tick (kinds_of args) ticks.0)
    expr_plain node.Local built words calls ticks l t = (omega arith, (tt, tt))
    expr_plain (node.ParamOf a) built words calls ticks l t =
        one (expr_ops d a l t) (build.Run run.Parameter) (expr_plain a built words calls ticks l t) tt
    expr_plain (node.Capture kind a) built words calls ticks l t = absurd ticks
    expr_plain (node.Compile a) built words calls ticks l t =
        one (expr_ops d a l t) (build.Run run.Compile) (expr_plain a built words calls ticks l t) tt
    -- no node of a function names a capture
    expr_plain (node.Captured w i) built words calls ticks l t = absurd cc
    expr_plain (node.VGet i) built words calls ticks l t = absurd cc
    expr_plain (node.VSet i a) built words calls ticks l t = let none : None ≡ Some kind.Variable = built.0 in absurd cc
    expr_plain (node.VPost i step) built words calls ticks l t = absurd cc
    expr_plain (node.Splice answer i) built words calls ticks l t = absurd cc

    captures_plain : (args : Args) → AreCaptures args → AreBuilt [] args → HaveWordsArgs args → HaveCalls fs args →
        HaveTicksCaptures kinds args → (l t : ℕ) → ArePlain (args_ops d args l t)
    captures_plain node.NoArg are built words calls ticks l t = tt
    captures_plain (node.Arg (node.Capture k x) args) are built words calls ticks l t =
        then_plain (expr_ops d x l t) _ (expr_plain x built.0 words.0 calls.0 ticks.0 l t)
        (captures_plain args are built.1 words.1 calls.1 ticks.1 (l + labels_in x) (t + temps_in x))
    captures_plain (node.Arg x args) are built words calls ticks l t = absurd are

    args_plain : (args : Args) → AreBuilt [] args → HaveWordsArgs args → HaveCalls fs args → HaveTicks kinds args →
        (l t : ℕ) →
        ArePlain (args_ops d args l t)
    args_plain node.NoArg built words calls ticks l t = tt
    args_plain (node.Arg x args) built words calls ticks l t =
        then_plain (expr_ops d x l t) _ (expr_plain x built.0 words.0 calls.0 ticks.0 l t)
        (args_plain args built.1 words.1 calls.1 ticks.1 (l + labels_in x) (t + temps_in x))

  mutual
    stmt_plain : (a : Allowed) (s : Stmt) → a.parameters ≡ false → IsPlaced a s → IsBuiltStmt [] s → HasWordsStmt s →
        HasCallsStmt fs s → HasTicksStmt kinds s → (to : Targets) (l t : ℕ) → ArePlain (stmt_ops d s to l t)
    stmt_plain a (node.Eval e) bare placed built words calls ticks to l t =
        then_plain (expr_ops d e l t) (dropping (has_value e)) (expr_plain e built words calls ticks l t)
        (dropping_plain (has_value e))
    stmt_plain a (node.Block vars items) bare placed built words calls ticks to l t =
        then_plain (items_ops d vars to l t) _
        (items_plain (nested a) vars bare placed.0 built.0 words.0 calls.0 ticks.0 to l t)
        (items_plain (nested a) items bare placed.1 built.1 words.1 calls.1 ticks.1 to (l + labels_of vars)
        (t + temps_of vars))
    stmt_plain a (node.Variable i) bare placed built words calls ticks to l t = (omega arith, (tt, (tt, tt)))
    stmt_plain a (node.Object offset n) bare placed built words calls ticks to l t = (tt, tt)
    stmt_plain a (node.Parameter k w) bare placed built words calls ticks to l t =
        let x : false ≡ true = sym bare ∙ placed.1 in absurd cc
    stmt_plain a (node.ParameterObject k w offset) bare placed built words calls ticks to l t =
        let x : false ≡ true = sym bare ∙ placed in absurd cc
    stmt_plain a (node.If e s) bare placed built words calls ticks to l t =
        let l1 = l + 1 + labels_in e in
        let t1 = t + temps_in e in
        then_plain (expr_ops d e (l + 1) t) _ (expr_plain e built.0 words.0 calls.0 ticks.0 (l + 1) t) (
          tt,
          one (stmt_ops d s to l1 t1) (build.Label l)
              (stmt_plain (nested a) s bare placed built.1 words.1 calls.1 ticks.1 to l1 t1) tt,
        )
    stmt_plain a (node.IfElse e s r) bare placed built words calls ticks to l t =
        let l2 = l + 2 + labels_in e in
        let t2 = t + temps_in e in
        then_plain (expr_ops d e (l + 2) t) _ (expr_plain e built.0 words.0 calls.0 ticks.0 (l + 2) t) (
          tt,
          then_plain (stmt_ops d s to l2 t2) _
              (stmt_plain (nested a) s bare placed.0 built.1 words.1 calls.1 ticks.1 to l2 t2) (
                tt,
                (
                  tt,
                  one (stmt_ops d r to (l2 + labels s) (t2 + temps s)) (build.Label (l + 1))
                      (stmt_plain (nested a) r bare placed.1 built.2 words.2 calls.2 ticks.2 to (l2 + labels s)
                      (t2 + temps s)) tt,
                ),
              ),
        )
    stmt_plain a (node.While e s) bare placed built words calls ticks to l t =
        let in_loop : Targets = record { on_break = l; on_continue = l + 1 } in
        let l2 = l + 2 + labels_in e in
        let t2 = t + temps_in e in (
          tt,
          then_plain (expr_ops d e (l + 2) t) _ (expr_plain e built.0 words.0 calls.0 ticks.0 (l + 2) t) (
            tt,
            then_plain (stmt_ops d s in_loop l2 t2) _
                (stmt_plain looped s refl placed built.1 words.1 calls.1 ticks.1 in_loop l2 t2) (tt, (tt, tt)),
          ),
        )
    stmt_plain a (node.Do s e) bare placed built words calls ticks to l t =
        let in_loop : Targets = record { on_break = l; on_continue = l + 2 } in (
          tt,
          then_plain (stmt_ops d s in_loop (l + 3) t) _
              (stmt_plain looped s refl placed built.0 words.0 calls.0 ticks.0 in_loop (l + 3) t) (
                tt,
                then_plain (expr_ops d e (l + 3 + labels s) (t + temps s)) _
                    (expr_plain e built.1 words.1 calls.1 ticks.1 (l + 3 + labels s) (t + temps s)) (tt, (tt, tt)),
              ),
        )
    stmt_plain a (node.For e s) bare placed built words calls ticks to l t =
        let in_loop : Targets = record { on_break = l; on_continue = l + 2 } in
        let l3 = l + 3 + labels_in e in
        let t3 = t + temps_in e in (
          tt,
          then_plain (expr_ops d e (l + 3) t) _ (expr_plain e built.0 words.0 calls.0 ticks.0 (l + 3) t) (
            tt,
            then_plain (stmt_ops d s in_loop l3 t3) _
                (stmt_plain looped s refl placed built.1 words.1 calls.1 ticks.1 in_loop l3 t3)
                (tt, (tt, (tt, tt))),
          ),
        )
    stmt_plain a (node.ForStep e step s) bare placed built words calls ticks to l t =
        let in_loop : Targets = record { on_break = l; on_continue = l + 2 } in
        let l3 = l + 3 + labels_in e in
        let t3 = t + temps_in e in
        let ls = l3 + labels s in
        let ts = t3 + temps s in (
          tt,
          then_plain (expr_ops d e (l + 3) t) _ (expr_plain e built.0 words.0 calls.0 ticks.0 (l + 3) t) (
            tt,
            then_plain (stmt_ops d s in_loop l3 t3) _
                (stmt_plain looped s refl placed built.2 words.2 calls.2 ticks.2 in_loop l3 t3) (
                  tt,
                  then_plain (expr_ops d step ls ts) _ (expr_plain step built.1 words.1 calls.1 ticks.1 ls ts)
                      (then_plain (dropping (has_value step)) _ (dropping_plain (has_value step)) (tt, (tt, tt))),
                ),
          ),
        )
    stmt_plain a (node.Switch e vars items) bare placed built words calls ticks to l t =
        let l1 = l + 1 + labels_in e in
        let t1 = t + 1 + temps_in e in
        let l2 = l1 + labels_of vars in
        let t2 = t1 + temps_of vars in
        let in_switch : Targets = record { on_break = l; on_continue = to.on_continue } in
        then_plain (expr_ops d e (l + 1) (t + 1)) _ (expr_plain e built.0 words.0 calls.0 ticks.0 (l + 1) (t + 1)) (
          tt,
          (
            tt,
            then_plain (items_ops d vars to l1 t1) _
                (items_plain (below outside) vars refl (declared vars placed.0) built.1 words.1 calls.1 ticks.1 to l1
                t1)
                (then_plain (test_ops items l2 t) _ (test_plain items words.2 l2 t) (
                  tt,
                  one (items_ops d items in_switch l2 t2) (build.Label l)
                      (items_plain (switched a) items refl placed.1 built.2 words.2 calls.2 ticks.2 in_switch l2 t2) tt,
                )),
          ),
        )
    stmt_plain a (node.Case value) bare placed built words calls ticks to l t = (tt, tt)
    stmt_plain a node.Default bare placed built words calls ticks to l t = (tt, tt)
    stmt_plain a node.Break bare placed built words calls ticks to l t = (tt, tt)
    stmt_plain a node.Continue bare placed built words calls ticks to l t = (tt, tt)
    stmt_plain a node.Return bare placed built words calls ticks to l t = (tt, tt)
    stmt_plain a (node.ReturnValue e) bare placed built words calls ticks to l t =
        one (expr_ops d e l t) build.Return (expr_plain e built words calls ticks l t) tt

    items_plain : (a : Allowed) (is : Items) → a.parameters ≡ false → ArePlaced a is → AreBuiltItems [] is → HaveWords is →
        HaveCallsItems fs is → HaveTicksItems kinds is → (to : Targets) (l t : ℕ) → ArePlain (items_ops d is to l t)
    items_plain a node.NoItem bare placed built words calls ticks to l t = tt
    items_plain a (node.Item s is) bare placed built words calls ticks to l t =
        then_plain (stmt_ops d s to l t) _ (stmt_plain a s bare placed.0 built.0 words.0 calls.0 ticks.0 to l t)
        (items_plain a is bare placed.1 built.1 words.1 calls.1 ticks.1 to (l + labels s) (t + temps s))

  -- the parameters at a function's head, the first of which has this number
  headed_plain : (n k : ℕ) (is : Items) → n + k ≤ MOST_ARGUMENTS → AreHeaded n k is → AreBuiltItems [] is → HaveWords is →
      HaveCallsItems fs is → HaveTicksItems kinds is → (to : Targets) (l t : ℕ) → ArePlain (items_ops d is to l t)
  headed_plain zero k is few headed built words calls ticks to l t =
      items_plain (below outside) is refl headed built words calls ticks to l t
  headed_plain (suc n) k node.NoItem few headed built words calls ticks to l t = absurd headed
  headed_plain (suc n) k (node.Item s is) few headed built words calls ticks to l t =
      then_plain (stmt_ops d s to l t) _ (first s headed.0)
      (headed_plain n (suc k) is (omega (arith, few)) headed.1 built.1 words.1 calls.1 ticks.1 to (l + labels s)
      (t + temps s))
    where
      first : (s : Stmt) → IsParameter k s → ArePlain (stmt_ops d s to l t)
      first (node.Parameter j w) is =
          (omega (arith, is, few), then_plain (narrowing w) _ (narrowing_plain w) (tt, (tt, tt)))
      first (node.ParameterObject j w offset) is =
          (tt, (omega (arith, is, few), then_plain (narrowing w) _ (narrowing_plain w) (tt, (tt, tt))))
      first _ is = absurd is

  body_plain : (n : ℕ) (s : Stmt) → n ≤ MOST_ARGUMENTS → IsHeaded n s → IsBuiltStmt [] s → HasWordsStmt s →
      HasCallsStmt fs s → HasTicksStmt kinds s → (to : Targets) (l t : ℕ) → ArePlain (stmt_ops d s to l t)
  body_plain n (node.Block vars items) few headed built words calls ticks to l t =
      then_plain (items_ops d vars to l t) _
      (headed_plain n 0 vars (omega (arith, few)) headed.0 built.0 words.0 calls.0 ticks.0 to l t)
      (items_plain (below outside) items refl headed.1 built.1 words.1 calls.1 ticks.1 to (l + labels_of vars)
      (t + temps_of vars))
  body_plain n s few headed built words calls ticks to l t =
      stmt_plain (below outside) s refl headed.1 built words calls ticks to l t

-- what a builder has issued
pub record HasServed (b : Build) : Type 0 where
  pub prelude : Each IsServed b.prelude
  pub ops : Each IsServed b.ops

more : (b : Build) (o : Op) → HasServed b → IsServed o → Each IsServed (b.ops ++ o ∷ [])
more b o h s = Each-append IsServed b.ops (o ∷ []) h.ops (s, tt)

checked_served : (kind : BinKind) (left right : ℕ) (b : Build) → HasServed b → HasServed (checked kind left right b)
checked_served bin.DivideSigned left right b h =
    record { prelude = h.prelude; ops = more b (op.CheckDivision left right) h tt }
checked_served bin.DivideUnsigned left right b h =
    record { prelude = h.prelude; ops = more b (op.CheckZero right) h tt }
checked_served bin.RemainderSigned left right b h =
    record { prelude = h.prelude; ops = more b (op.CheckDivision left right) h tt }
checked_served bin.RemainderUnsigned left right b h =
    record { prelude = h.prelude; ops = more b (op.CheckZero right) h tt }
checked_served kind left right b h = h

-- what is passed: eight arguments at most
arguments_served : (k : ℕ) (rs : List ℕ) → k + length rs ≤ 8 → Each IsServed (arguments k rs)
arguments_served k [] le = tt
arguments_served k (r ∷ rs) le = (omega (arith, le), arguments_served (k + 1) rs (omega (arith, le)))

pass_served : (n : ℕ) (b : Build) → n ≤ MOST_ARGUMENTS → HasServed b → HasServed (pass n b)
pass_served n b few h =
    let rs = drop (length b.operands - n) b.operands in
    let long = length-drop (length b.operands - n) b.operands in
    record {
      prelude = h.prelude;
      ops = Each-append IsServed b.ops (arguments 0 rs) h.ops (arguments_served 0 rs (omega (arith, few, long)));
    }

effect_served : (o : BuildOp) (b : Build) → IsPlain o → HasServed b → HasServed (effect o b)
effect_served (build.Const word) b plain h =
    record { prelude = h.prelude; ops = more b (op.Const b.registers word) h plain }
effect_served (build.Bin kind) b plain h =
    let c = checked kind (operand 1 b) (operand 0 b) b in
    let g = checked_served kind (operand 1 b) (operand 0 b) b h in
    record { prelude = g.prelude; ops = more c (op.Bin kind b.registers (operand 1 b) (operand 0 b)) g tt }
effect_served (build.Un kind) b plain h =
    record { prelude = h.prelude; ops = more b (op.Un kind b.registers (operand 0 b)) h tt }
effect_served (build.Enter n m) b plain h = record { prelude = h.prelude; ops = h.ops }
effect_served build.Leave b plain h = record { prelude = h.prelude; ops = h.ops }
effect_served (build.GetVariable i) b plain h =
    record { prelude = h.prelude; ops = more b (op.Move b.registers (variable i b)) h tt }
effect_served (build.SetVariable i) b plain h =
    record { prelude = h.prelude; ops = more b (op.Move (variable i b) (operand 0 b)) h tt }
effect_served build.Drop b plain h = record { prelude = h.prelude; ops = h.ops }
effect_served (build.Pick i) b plain h = record { prelude = h.prelude; ops = h.ops }
effect_served build.Nip b plain h = record { prelude = h.prelude; ops = h.ops }
effect_served (build.Label i) b plain h = record { prelude = h.prelude; ops = more b (op.Label (label i b)) h tt }
effect_served (build.Jump i) b plain h = record { prelude = h.prelude; ops = more b (op.Jump (label i b)) h tt }
effect_served (build.BranchZero i) b plain h =
    record { prelude = h.prelude; ops = more b (op.BranchZero (operand 0 b) (label i b)) h tt }
effect_served (build.BranchNonzero i) b plain h =
    record { prelude = h.prelude; ops = more b (op.BranchNonzero (operand 0 b) (label i b)) h tt }
effect_served build.Return b plain h = record { prelude = h.prelude; ops = more b (op.Return (operand 0 b)) h tt }
effect_served build.ReturnZero b plain h = record { prelude = h.prelude; ops = more b op.ReturnZero h tt }
effect_served (build.Sys kind) b plain h =
    record { prelude = h.prelude; ops = more b (op.Sys kind b.registers (operand 0 b)) h tt }
effect_served (build.Load w) b plain h =
    record { prelude = h.prelude; ops = more b (op.Load w b.registers (operand 0 b)) h tt }
effect_served (build.Store w) b plain h =
    record { prelude = h.prelude; ops = more b (op.Store w (operand 1 b) (operand 0 b)) h tt }
effect_served (build.FrameAddress offset) b plain h =
    record { prelude = h.prelude; ops = more b (op.FrameAddress b.registers offset) h tt }
effect_served (build.Clear offset words) b plain h =
    record { prelude = h.prelude; ops = more b (op.Clear offset words) h tt }
effect_served (build.Parameter k) b plain h =
    record { prelude = h.prelude; ops = more b (op.GetParameter b.registers k) h plain }
effect_served (build.Call address n) b plain h =
    let c = pass n b in
    let g = pass_served n b plain.1 h in
    let called : HasServed (add (op.Call address) c) =
    record { prelude = g.prelude; ops = more c (op.Call address) g plain.0 } in
    record { prelude = h.prelude; ops = more (add (op.Call address) c) (op.Result b.registers) called tt }
effect_served (build.CallNumber n) b plain h =
    let c = pass n b in
    let g = pass_served n b plain h in
    let o = op.CallNumber (operand n b) n in
    let called : HasServed (add o c) = record { prelude = g.prelude; ops = more c o g plain } in
    record { prelude = h.prelude; ops = more (add o c) (op.Result b.registers) called tt }
effect_served (build.Run routine) b plain h =
    record { prelude = h.prelude; ops = more b (op.Run routine b.registers (operand 0 b)) h tt }
effect_served (build.New address kind captures) b plain h =
    record { prelude = h.prelude; ops = more b (op.New b.registers address kind captures) h plain }
effect_served (build.Put i) b plain h =
    record { prelude = h.prelude; ops = more b (op.Put i (operand 0 b)) h plain }
effect_served _ b plain h = absurd plain

run_served : (os : List BuildOp) (b : Build) → ArePlain os → HasServed b → HasServed (run_ops os b)
run_served [] b plain h = h
run_served (o ∷ os) b plain h = run_served os (effect o b) plain.1 (effect_served o b plain.0 h)

served_at : (ops : List Op) (p : ℕ) → Each IsServed ops → IsServed (op_at ops p)
served_at [] p h = tt
served_at (o ∷ ops) zero h = h.0
served_at (o ∷ ops) (suc p) h = served_at ops p h.1

pub ops_served : (fs : List node.Function) (d : Addresses) (kinds : List (List CaptureKind)) → AreLow d kinds →
    (function : node.Function) → IsStatic fs kinds function → (p : ℕ) → IsServed (op_at (code_of d function) p)
ops_served fs d kinds low function static p =
    let r = static.ready in
    let vars = variables_in function.body in
    let plain : ArePlain (function_ops d function) = (
      tt,
      one (stmt_ops d function.body nowhere 0 vars) build.Leave
          (body_plain fs d kinds low function.parameters function.body r.few r.headed r.ready.built static.words r.calls
          r.ticks_are nowhere 0 vars) tt,
    ) in
    let b = run_ops (function_ops d function) (empty function.parameters) in
    let h = run_served (function_ops d function) (empty function.parameters) plain (record { prelude = tt; ops = tt })
    in
    served_at (finished b) p (Each-append IsServed (b.prelude ++ b.ops) (op.ReturnZero ∷ [])
    (Each-append IsServed b.prelude b.ops h.prelude h.ops) (tt, tt))
