-- What a tick's lowering asks of addresses is where functions stand, and nothing else: a tick makes no specification.
use Rattle.std.proofs.Common.{◌≡◌, ℕ, zero, suc, ◌+◌, ◌-◌, ◌<◌, Bool, true, false, ◌&&◌, ◌||◌, List, [], ◌∷◌, ◌++◌}
use Rattle.std.proofs.Common.{length, Option, Some, None, slice_get, refl, sym, ap, ◌∙◌, subst, arith}
use Rattle.std.specs.List.{list_all}
use Rattle.std.specs.Prelude.{option_map}
use Rattle.std.proofs.lemmas.Bool.{false≢true}
use Rattle.std.proofs.lemmas.Option.{slice_get-map}
use Rattle.history.specs.Syntax.{Syntax, Ticked, Captures, NoCapture, Word, Named, Spliced}
use Rattle.icode_ir.specs.declared.build_op.BuildOp.{BuildOp}
use Rattle.typed_tree.specs.declared.expression.CaptureKind.{CaptureKind}
use Rattle.typed_tree.specs.declared.expression.Library.TheVariants.{Putchar, Putint, Exit, Malloc}
use Rattle.typed_tree.specs.Nodes as node
use Rattle.typed_tree.specs.Nodes.{Expr, Args, Stmt, Items, fold_args, fold_items}
use Rattle.wellformed.specs.Places.{Around, in_function, are_few, is_called, expr_rule, rules, values_of}
use Rattle.wellformed.specs.Places.{all_different, all_declare, all_stand, is_label, all_items, within, looped, switched}
use Rattle.wellformed.specs.Program.{IsProgram, IsTick, round_tick}
use Rattle.wellformed.proofs.Bools.{first_true, second_true}
use Rattle.wf_ready.proofs.Scoped.{part, act, two, IsHead, AreHeads, declared_heads}
use Rattle.wf_ready.proofs.Calls.{all_stand_in, all_captured_in}
use Rattle.staged_meaning.specs.Size.{labels_in, labels, labels_of, temps_in, temps, temps_of, variables_in}
use Rattle.tick_lower_spec.specs.Lower.{Sink, Addresses, Targets, expr_into, args_into, stmt_into, items_into, nowhere}
use Rattle.staged_meaning.specs.Program.{Tick as TickOf}
use Rattle.tick_lower_spec.specs.Lower.{Holes, ops_with}
use Rattle.tick_lower_spec.specs.Specifications.{tick_into, tick_ops, filled, specification_ops, spliced_ops}
use Rattle.tick_lower_spec.specs.TickPieces.{pieces_sink}
use Rattle.generator_spec.specs.Kinds.{tick_of_body}
use Rattle.generator_spec.specs.Laws.{pieces_at}
use Rattle.generator_spec.specs.FittingLaws.{ticks_of, PiecesAreAlike}
use Rattle.generator_spec.proofs.Lowered.{tick_at, spliced}

module _ {A : Type 0} (sink : Sink A) (d e : Addresses) (same : (f : ℕ) → d.function_at f ≡ e.function_at f) where
  mutual
    expr_same : (a : Around) → in_function a ≡ false → (x : Expr) → (part x).stands a ≡ true → (l t : ℕ)
        → expr_into sink d x l t ≡ expr_into sink e x l t
    expr_same a tick (node.Const w) h l t = refl
    expr_same a tick (node.Captured w i) h l t = refl
    expr_same a tick (node.Var i) h l t = refl
    expr_same a tick (node.SetVar i x) h l t = rw (expr_same a tick x (second_true _ ((part x).stands a) h) l t) refl
    expr_same a tick (node.PostVar i w step) h l t = refl
    expr_same a tick (node.VGet i) h l t = refl
    expr_same a tick (node.VSet i x) h l t = rw (expr_same a tick x (second_true _ ((part x).stands a) h) l t) refl
    expr_same a tick (node.VPost i step) h l t = refl
    expr_same a tick (node.Frame off) h l t = refl
    expr_same a tick (node.Load w x) h l t = rw (expr_same a tick x h l t) refl
    expr_same a tick (node.Store w x y) h l t =
        let q = two ((part x).stands a) ((part y).stands a) h in
        rw (expr_same a tick x q.0 l t, expr_same a tick y q.1 (l + labels_in x) (t + temps_in x)) refl
    expr_same a tick (node.Modify w k x y) h l t =
        let q = two ((part x).stands a) ((part y).stands a) h in
        rw (expr_same a tick x q.0 l t, expr_same a tick y q.1 (l + labels_in x) (t + temps_in x)) refl
    expr_same a tick (node.Post w step x) h l t = rw (expr_same a tick x h l t) refl
    expr_same a tick (node.Bin k x y) h l t =
        let q = two ((part x).stands a) ((part y).stands a) h in
        rw (expr_same a tick x q.0 l t, expr_same a tick y q.1 (l + labels_in x) (t + temps_in x)) refl
    expr_same a tick (node.Un k x) h l t = rw (expr_same a tick x h l t) refl
    expr_same a tick (node.And x y) h l t =
        let q = two ((part x).stands a) ((part y).stands a) h in
        rw (
          expr_same a tick x q.0 (l + 2) (t + 1),
          expr_same a tick y q.1 (l + 2 + labels_in x) (t + 1 + temps_in x),
        )
        refl
    expr_same a tick (node.Or x y) h l t =
        let q = two ((part x).stands a) ((part y).stands a) h in
        rw (
          expr_same a tick x q.0 (l + 2) (t + 1),
          expr_same a tick y q.1 (l + 2 + labels_in x) (t + 1 + temps_in x),
        )
        refl
    expr_same a tick (node.Cond c x y) h l t =
        let q = two ((part c).stands a) ((part x).stands a && (part y).stands a) h in
        let r = two ((part x).stands a) ((part y).stands a) q.1 in
        rw (
          expr_same a tick c q.0 (l + 2) (t + 1),
          expr_same a tick x r.0 (l + 2 + labels_in c) (t + 1 + temps_in c),
          expr_same a tick y r.1 (l + 2 + labels_in c + labels_in x) (t + 1 + temps_in c + temps_in x),
        )
        refl
    expr_same a tick (node.Comma x y) h l t =
        let q = two ((part x).stands a) ((part y).stands a) h in
        rw (expr_same a tick x q.0 l t, expr_same a tick y q.1 (l + labels_in x) (t + temps_in x)) refl
    expr_same a tick (node.Void x) h l t = rw (expr_same a tick x h l t) refl
    expr_same a tick (node.Call r f args) h l t =
        let q = two (is_called f (length (fold_args expr_rule args)) a) (all_stand_in a args) h in
        rw (args_same a tick args q.1 l t, same f) refl
    expr_same a tick (node.CallNumber r x args) h l t =
        let q = two ((part x).stands a && are_few (length (fold_args expr_rule args))) (all_stand_in a args) h in
        let s = two ((part x).stands a) (are_few (length (fold_args expr_rule args))) q.0 in
        rw (expr_same a tick x s.0 l t, args_same a tick args q.1 (l + labels_in x) (t + temps_in x)) refl
    expr_same a tick node.Getchar h l t = refl
    expr_same a tick (node.Lib Putchar x) h l t = rw (expr_same a tick x h l t) refl
    expr_same a tick (node.Lib Putint x) h l t = rw (expr_same a tick x h l t) refl
    expr_same a tick (node.Lib Exit x) h l t = rw (expr_same a tick x h l t) refl
    expr_same a tick (node.Lib Malloc x) h l t = rw (expr_same a tick x h l t) refl
    expr_same a tick (node.Tick n args) h l t =
        let in_one = first_true (in_function a) (all_captured_in a args)
        (first_true (in_function a && all_captured_in a args) _ h) in absurd (false≢true (sym tick ∙ in_one))
    expr_same a tick (node.Capture k x) h l t = absurd cc
    expr_same a tick (node.Splice r i) h l t = refl
    expr_same a tick (node.Compile x) h l t = rw (expr_same a tick x (second_true _ ((part x).stands a) h) l t) refl
    expr_same a tick node.Local h l t = refl
    expr_same a tick (node.ParamOf x) h l t = rw (expr_same a tick x (second_true _ ((part x).stands a) h) l t) refl

    args_same : (a : Around) → in_function a ≡ false → (args : Args) → all_stand_in a args ≡ true → (l t : ℕ)
        → args_into sink d args l t ≡ args_into sink e args l t
    args_same a tick node.NoArg h l t = refl
    args_same a tick (node.Arg x args) h l t =
        let q = two ((part x).stands a) (all_stand_in a args) h in
        rw (expr_same a tick x q.0 l t, args_same a tick args q.1 (l + labels_in x) (t + temps_in x)) refl

  -- ---- statements

  head_same : (s : Stmt) → IsHead s → (to : Targets) (l t : ℕ) → stmt_into sink d s to l t ≡ stmt_into sink e s to l t
  head_same (node.Variable i) h to l t = refl
  head_same (node.Object off words) h to l t = refl
  head_same (node.Parameter k w) h to l t = refl
  head_same (node.ParameterObject k w off) h to l t = refl
  head_same _ h to l t = absurd h

  heads_same : (vs : Items) → AreHeads vs → (to : Targets) (l t : ℕ)
      → items_into sink d vs to l t ≡ items_into sink e vs to l t
  heads_same node.NoItem h to l t = refl
  heads_same (node.Item s vs) h to l t =
      rw (head_same s h.0 to l t, heads_same vs h.1 to (l + labels s) (t + temps s)) refl

  label_or : (a : Around) (s : Stmt) (to : Targets) (l t : ℕ) → (is_label (act s) || (act s).stands a) ≡ true
      → ((act s).stands a ≡ true → stmt_into sink d s to l t ≡ stmt_into sink e s to l t)
      → stmt_into sink d s to l t ≡ stmt_into sink e s to l t
  label_or a (node.Case v) to l t h f = refl
  label_or a node.Default to l t h f = refl
  label_or a _ to l t h f = f h

  mutual
    stmt_same : (a : Around) → in_function a ≡ false → (s : Stmt) → (act s).stands a ≡ true → (to : Targets) (l t : ℕ)
        → stmt_into sink d s to l t ≡ stmt_into sink e s to l t
    stmt_same a tick (node.Eval x) h to l t = rw (expr_same a tick x h l t) refl
    stmt_same a tick (node.Block vs xs) h to l t =
        let q = two (all_declare (fold_items rules vs) a)
        (all_stand (fold_items rules xs) (within (fold_items rules vs) a)) h in
        rw (
          heads_same vs (declared_heads a vs q.0) to l t,
          items_same (within (fold_items rules vs) a) tick xs q.1 to (l + labels_of vs) (t + temps_of vs),
        )
        refl
    stmt_same a tick (node.If x s) h to l t =
        let q = two ((part x).stands a) ((act s).stands a) h in
        rw (expr_same a tick x q.0 (l + 1) t, stmt_same a tick s q.1 to (l + 1 + labels_in x) (t + temps_in x)) refl
    stmt_same a tick (node.IfElse x s r) h to l t =
        let q = two ((part x).stands a && (act s).stands a) ((act r).stands a) h in
        let p = two ((part x).stands a) ((act s).stands a) q.0 in
        rw (
          expr_same a tick x p.0 (l + 2) t,
          stmt_same a tick s p.1 to (l + 2 + labels_in x) (t + temps_in x),
          stmt_same a tick r q.1 to (l + 2 + labels_in x + labels s) (t + temps_in x + temps s),
        )
        refl
    stmt_same a tick (node.While x s) h to l t =
        let q = two ((part x).stands a) ((act s).stands (looped a)) h in
        rw (
          expr_same a tick x q.0 (l + 2) t,
          stmt_same (looped a) tick s q.1 (record { on_break = l; on_continue = l + 1 }) (l + 2 + labels_in x)
              (t + temps_in x),
        )
        refl
    stmt_same a tick (node.Do s x) h to l t =
        let q = two ((act s).stands (looped a)) ((part x).stands a) h in
        rw (
          stmt_same (looped a) tick s q.0 (record { on_break = l; on_continue = l + 2 }) (l + 3) t,
          expr_same a tick x q.1 (l + 3 + labels s) (t + temps s),
        )
        refl
    stmt_same a tick (node.For x s) h to l t =
        let q = two ((part x).stands a) ((act s).stands (looped a)) h in
        rw (
          expr_same a tick x q.0 (l + 3) t,
          stmt_same (looped a) tick s q.1 (record { on_break = l; on_continue = l + 2 }) (l + 3 + labels_in x)
              (t + temps_in x),
        )
        refl
    stmt_same a tick (node.ForStep x step s) h to l t =
        let q = two ((part x).stands a && (part step).stands a) ((act s).stands (looped a)) h in
        let p = two ((part x).stands a) ((part step).stands a) q.0 in
        rw (
          expr_same a tick x p.0 (l + 3) t,
          stmt_same (looped a) tick s q.1 (record { on_break = l; on_continue = l + 2 }) (l + 3 + labels_in x)
              (t + temps_in x),
          expr_same a tick step p.1 (l + 3 + labels_in x + labels s) (t + temps_in x + temps s),
        )
        refl
    stmt_same a tick (node.Switch x vs xs) h to l t =
        let inner : Around = switched (within (fold_items rules vs) a) in
        let front : Bool = (part x).stands a && all_declare (fold_items rules vs) a in
        let whole : Bool = front && all_items (fold_items rules xs) inner in
        let apart : Bool = whole && all_different (values_of (fold_items rules xs)) in
        let q = two front (all_items (fold_items rules xs) inner) (first_true whole _ (first_true apart _ h)) in
        let p = two ((part x).stands a) (all_declare (fold_items rules vs) a) q.0 in
        rw (
          expr_same a tick x p.0 (l + 1) (t + 1),
          heads_same vs (declared_heads a vs p.1) to (l + 1 + labels_in x) (t + 1 + temps_in x),
          labelled_same inner tick xs q.1 (record { on_break = l; on_continue = to.on_continue })
              (l + 1 + labels_in x + labels_of vs) (t + 1 + temps_in x + temps_of vs),
        )
        refl
    stmt_same a tick (node.ReturnValue x) h to l t = rw (expr_same a tick x h l t) refl
    stmt_same a tick (node.Variable i) h to l t = refl
    stmt_same a tick (node.Object off words) h to l t = refl
    stmt_same a tick (node.Parameter k w) h to l t = refl
    stmt_same a tick (node.ParameterObject k w off) h to l t = refl
    stmt_same a tick (node.Case v) h to l t = refl
    stmt_same a tick node.Default h to l t = refl
    stmt_same a tick node.Break h to l t = refl
    stmt_same a tick node.Continue h to l t = refl
    stmt_same a tick node.Return h to l t = refl

    items_same : (a : Around) → in_function a ≡ false → (xs : Items) → all_stand (fold_items rules xs) a ≡ true
        → (to : Targets) (l t : ℕ) → items_into sink d xs to l t ≡ items_into sink e xs to l t
    items_same a tick node.NoItem h to l t = refl
    items_same a tick (node.Item s xs) h to l t =
        let q = two ((act s).stands a) (all_stand (fold_items rules xs) a) h in
        rw (stmt_same a tick s q.0 to l t, items_same a tick xs q.1 to (l + labels s) (t + temps s)) refl

    labelled_same : (a : Around) → in_function a ≡ false → (xs : Items) → all_items (fold_items rules xs) a ≡ true
        → (to : Targets) (l t : ℕ) → items_into sink d xs to l t ≡ items_into sink e xs to l t
    labelled_same a tick node.NoItem h to l t = refl
    labelled_same a tick (node.Item s xs) h to l t =
        let q = two (is_label (act s) || (act s).stands a) (all_items (fold_items rules xs) a) h in
        rw (
          label_or a s to l t q.0 (λ k. stmt_same a tick s k to l t),
          labelled_same a tick xs q.1 to (l + labels s) (t + temps s),
        )
        refl

  pub tick_alike : (p : node.Program) (ticks : List (List CaptureKind)) (t : node.TickBody) (kinds : List CaptureKind)
      → IsTick p ticks t kinds → tick_into sink d (tick_of_body t) ≡ tick_into sink e (tick_of_body t)
  tick_alike p ticks (node.Expression x) kinds is =
      rw (expr_same (round_tick p ticks kinds) refl x is.stands 0 0) refl
  tick_alike p ticks (node.Statement s) kinds is =
      rw (stmt_same (round_tick p ticks kinds) refl s is.stands nowhere 0 (variables_in s)) refl

-- ---- of a whole program

missing : {A B : Type 0} (xs : List A) (ys : List B) (n : ℕ) (x : A) → length ys ≡ length xs → slice_get xs n ≡ Some x
    → slice_get ys n ≡ None → ⊥
missing [] ys n x many h none = absurd cc
missing (x ∷ xs) [] n y many h none = absurd (omega (arith, many))
missing (x ∷ xs) (y ∷ ys) zero z many h none = absurd cc
missing (x ∷ xs) (y ∷ ys) (suc n) z many h none = missing xs ys n z (omega (arith, many)) h none

module _ (p : node.Program) (accepted : IsProgram p) (d e : Addresses)
    (same : (f : ℕ) → d.function_at f ≡ e.function_at f) where
  abbrev Alike : {A : Type 0} → Sink A → Option TickOf → Type 0
  Alike {A} sink None = Unit {0}
  Alike {A} sink (Some tick) = tick_into sink d tick ≡ tick_into sink e tick

  alike_at : {A : Type 0} (sink : Sink A) (n : ℕ) (t : Option node.TickBody) (kinds : Option (List CaptureKind))
      → slice_get p.ticks n ≡ t → slice_get accepted.captures n ≡ kinds → Alike sink (option_map tick_of_body t)
  alike_at {A} sink n None kinds at own = tt
  alike_at {A} sink n (Some t) None at own = absurd (missing p.ticks accepted.captures n t accepted.each at own)
  alike_at {A} sink n (Some t) (Some kinds) at own =
      tick_alike sink d e same p accepted.captures t kinds (accepted.ticks n t kinds at own)

  -- a tick's that is there
  there : {A : Type 0} (sink : Sink A) (n : ℕ) → Alike sink (slice_get (ticks_of p) n)
  there {A} sink n =
      subst (Alike sink) (sym (slice_get-map tick_of_body p.ticks n))
      (alike_at sink n (slice_get p.ticks n) (slice_get accepted.captures n) refl refl)

  pieces_of : (t : Option TickOf) → Alike pieces_sink t → pieces_at d t ≡ pieces_at e t
  pieces_of None h = refl
  pieces_of (Some tick) h = h

  pub pieces_alike : PiecesAreAlike p d e
  pieces_alike n = pieces_of (slice_get (ticks_of p) n) (there pieces_sink n)

  ops_of : (holes : Holes) (t : Option TickOf) → Alike (ops_with holes) t → tick_ops holes d t ≡ tick_ops holes e t
  ops_of holes None h = refl
  ops_of holes (Some tick) h = h

  mutual
    pub ops_alike : (syntax : Syntax)
        → specification_ops d (ticks_of p) syntax ≡ specification_ops e (ticks_of p) syntax
    ops_alike (Ticked tick captures) =
        let own = ops_of (filled captures (spliced_ops d (ticks_of p) captures)) (slice_get (ticks_of p) tick)
        (there (ops_with (filled captures (spliced_ops d (ticks_of p) captures))) tick) in
        own
        ∙ sym (tick_at e (ticks_of p) captures (spliced_ops d (ticks_of p) captures) tick
        (slice_get (ticks_of p) tick) refl)
        ∙ spliced e (ticks_of p) captures (spliced_ops d (ticks_of p) captures) (spliced_ops e (ticks_of p) captures)
        (pieces_at e (slice_get (ticks_of p) tick)) (λ i. splices_alike captures i)
        ∙ tick_at e (ticks_of p) captures (spliced_ops e (ticks_of p) captures) tick
        (slice_get (ticks_of p) tick) refl

    splices_alike : (captures : Captures) (i : ℕ)
        → spliced_ops d (ticks_of p) captures i ≡ spliced_ops e (ticks_of p) captures i
    splices_alike NoCapture i = refl
    splices_alike (Word word captures) zero = refl
    splices_alike (Named key captures) zero = refl
    splices_alike (Spliced syntax captures) zero = ops_alike syntax
    splices_alike (Word word captures) (suc i) = splices_alike captures i
    splices_alike (Named key captures) (suc i) = splices_alike captures i
    splices_alike (Spliced syntax captures) (suc i) = splices_alike captures i
