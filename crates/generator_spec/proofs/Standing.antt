-- What stands right in a tick has pieces that name captures of their kinds, and ops that code may ask for.
use Rattle.std.proofs.Common.{◌≡◌, ℕ, suc, ◌+◌, ◌-◌, ◌≤◌, Bool, true, false, ◌&&◌, ◌||◌, nat_le, List, []}
use Rattle.std.proofs.Common.{◌∷◌, ◌++◌, length}
use Rattle.std.proofs.Common.{Some, slice_get, refl, sym, ap, ◌∙◌, arith}
use Rattle.std.specs.List.{list_all}
use Rattle.std.proofs.lemmas.Bool.Decides.{nat_tests}
use Rattle.limits.specs.declared.program.TheConstants.{MOST_ARGUMENTS}
use Rattle.word32.specs.declared.width.Width.{Width}
use Rattle.word32.specs.declared.width.Width.TheVariants as width
use Rattle.icode_ir.specs.declared.build_op.BuildOp.{BuildOp}
use Rattle.icode_ir.specs.Sound.{Each}
use Rattle.icode_ir.proofs.Sounds.{Each-append}
use Rattle.icode_ir.specs.Codes.{IsServed}
use Rattle.typed_tree.specs.declared.expression.Answer.{Answer}
use Rattle.typed_tree.specs.declared.expression.Answer.TheVariants as answer
use Rattle.typed_tree.specs.declared.expression.CaptureKind.{CaptureKind}
use Rattle.typed_tree.specs.declared.expression.Library.TheVariants as library
use Rattle.typed_tree.specs.Nodes as node
use Rattle.typed_tree.specs.Nodes.{Expr, Args, Stmt, Items, fold_args, fold_items, has_value, count}
use Rattle.wellformed.specs.Places.{Around, in_function, is_function, are_few, takes, captured, captured_in, is_word}
use Rattle.wellformed.specs.Places.{is_variable, is_splice, expr_rule, rules, values_of, all_different, all_declare}
use Rattle.wellformed.specs.Places.{all_stand, is_label, all_items, within, looped, switched}
use Rattle.wellformed.proofs.Bools.{first_true, second_true}
use Rattle.wf_ready.proofs.Scoped.{part, act, two}
use Rattle.history.specs.Syntax.{Captures}
use Rattle.staged_meaning.specs.Size.{labels_in, labels, labels_of, temps_in, temps, temps_of}
use Rattle.tick_lower_spec.specs.Lower.{Addresses, Targets, narrowing, dropping, dropping_call, keeping, kept}
use Rattle.tick_lower_spec.specs.Lower.{joins, case_ops, test_ops}
use Rattle.tick_lower_spec.specs.declared.piece.Piece.{Piece}
use Rattle.tick_lower_spec.specs.declared.piece.Piece.TheVariants.{Plain, Captured, GetKey, SetKey, Splice, Nothing}
use Rattle.generator_laws.specs.Pieces.{capture_at, IsWord, IsKey, IsSplice}
use Rattle.tick_lower_spec.specs.TickPieces.{plain, own, expr_pieces, args_pieces, stmt_pieces, items_pieces}
use Rattle.generator_spec.specs.Kinds.{HasKinds, AreAddresses}
use Rattle.generator_spec.proofs.Captured.{word_there, key_there, splice_there}

-- a piece fits these captures, whatever the arguments of its op are
abbrev pub Serves : Captures → Piece → Type 0
Serves captures (Plain op) = IsServed op
Serves captures (Captured i) = IsWord (capture_at captures i)
Serves captures (GetKey i) = IsKey (capture_at captures i)
Serves captures (SetKey i) = IsKey (capture_at captures i)
Serves captures (Splice i) = IsSplice (capture_at captures i)
Serves captures Nothing = Unit {0}

as_many : (args : Args) → length (fold_args expr_rule args) ≡ count args
as_many node.NoArg = refl
as_many (node.Arg e args) = ap suc (as_many args)

few_of : (n : ℕ) → are_few n ≡ true → n ≤ MOST_ARGUMENTS
few_of n h = grind (arith, nat_tests)

few_args : (args : Args) → are_few (length (fold_args expr_rule args)) ≡ true → count args ≤ MOST_ARGUMENTS
few_args args h = few_of (count args) (ap are_few (sym (as_many args)) ∙ h)

-- ---- pieces that name no part

module _ (captures : Captures) where
  abbrev Serve : List Piece → Type 0
  Serve ps = Each (Serves captures) ps

  beside : (ps qs : List Piece) → Serve ps → Serve qs → Serve (ps ++ qs)
  beside ps qs f g = Each-append (Serves captures) ps qs f g

  narrow : (w : Width) → Serve (plain (narrowing w))
  narrow width.SignedByte = (tt, tt)
  narrow width.Byte = (tt, tt)
  narrow width.SignedHalf = (tt, tt)
  narrow width.Half = (tt, tt)
  narrow width.Word = tt

  drops : (left : Bool) → Serve (plain (dropping left))
  drops true = (tt, tt)
  drops false = tt

  own_drops : (left : Bool) → Serve (own (dropping left))
  own_drops true = (tt, tt)
  own_drops false = (tt, tt)

  call_drops : (r : Answer) → Serve (plain (dropping_call r))
  call_drops answer.Value = tt
  call_drops answer.Void = (tt, tt)

  keeps : (left : Bool) (t : ℕ) → Serve (plain (keeping left t))
  keeps true t = (tt, (tt, tt))
  keeps false t = tt

  back : (left : Bool) (t : ℕ) → Serve (plain (kept left t))
  back true t = (tt, tt)
  back false t = tt

  meets : (first other l m t : ℕ) → Serve (plain (joins first other l m t))
  meets first other l m t = (tt, (tt, (tt, (tt, (tt, (tt, (tt, (tt, (tt, (tt, tt))))))))))

  plain_beside : (xs ys : List BuildOp) → Serve (plain xs) → Serve (plain ys) → Serve (plain (xs ++ ys))
  plain_beside [] ys f g = g
  plain_beside (x ∷ xs) ys f g = (f.0, plain_beside xs ys f.1 g)

  tested : (s : Stmt) (l t : ℕ) → Serve (plain (case_ops s l t))
  tested (node.Case v) l t = (tt, (tt, (tt, (tt, tt))))
  tested _ l t = tt

  tests : (items : Items) (l t : ℕ) → Serve (plain (test_ops items l t))
  tests node.NoItem l t = tt
  tests (node.Item s items) l t =
      plain_beside (case_ops s l t) (test_ops items (l + labels s) t) (tested s l t) (tests items (l + labels s) t)

-- ---- in a tick

module _ (addresses : Addresses) (good : AreAddresses addresses) (kinds : List CaptureKind) (captures : Captures)
    (has : HasKinds kinds captures) where
  no_function : (a : Around) → a.captures ≡ Some kinds → in_function a ≡ true → ⊥
  no_function a is h = let none : in_function a ≡ false = ap is_function is in cc

  named : (p : CaptureKind → Bool) (i : ℕ) (a : Around) → a.captures ≡ Some kinds → captured p i a ≡ true
      → captured_in p i (Some kinds) ≡ true
  named p i a is h = ap (captured_in p i) (sym is) ∙ h

  mutual
    expr_serves : (a : Around) → a.captures ≡ Some kinds → (e : Expr) (l t : ℕ) → (part e).stands a ≡ true
        → Serve captures (expr_pieces addresses e l t)
    expr_serves a is (node.Const w) l t h = (tt, tt)
    expr_serves a is (node.Captured w i) l t h = (word_there w kinds captures i has (named (is_word w) i a is h), tt)
    expr_serves a is (node.Var i) l t h = (tt, tt)
    expr_serves a is (node.SetVar i e) l t h =
        beside captures _ _ (expr_serves a is e l t (second_true _ ((part e).stands a) h)) (tt, tt)
    expr_serves a is (node.PostVar i w step) l t h =
        (tt, (tt, (tt, (tt, beside captures (plain (narrowing w)) _ (narrow captures w) (tt, (tt, tt))))))
    expr_serves a is (node.VGet i) l t h = (key_there kinds captures i has (named is_variable i a is h), tt)
    expr_serves a is (node.VSet i e) l t h =
        let q = two (captured is_variable i a) ((part e).stands a) h in
        beside captures _ _ (expr_serves a is e l t q.1)
        (key_there kinds captures i has (named is_variable i a is q.0), tt)
    expr_serves a is (node.VPost i step) l t h =
        let key = key_there kinds captures i has (named is_variable i a is h) in
        (key, (tt, (tt, (tt, (key, (tt, tt))))))
    expr_serves a is (node.Frame offset) l t h =
        absurd (no_function a is (first_true (in_function a) _ (first_true _ _ h)))
    expr_serves a is (node.Load w e) l t h = beside captures _ _ (expr_serves a is e l t h) (tt, tt)
    expr_serves a is (node.Store w e f) l t h =
        let q = two ((part e).stands a) ((part f).stands a) h in
        beside captures _ _ (expr_serves a is e l t q.0)
        (beside captures _ _ (expr_serves a is f (l + labels_in e) (t + temps_in e) q.1) (tt, tt))
    expr_serves a is (node.Modify w k e f) l t h =
        let q = two ((part e).stands a) ((part f).stands a) h in
        beside captures _ _ (expr_serves a is e l t q.0) (
          tt,
          (
            tt,
            beside captures _ _ (expr_serves a is f (l + labels_in e) (t + temps_in e) q.1)
                (tt, beside captures (plain (narrowing w)) _ (narrow captures w) (tt, tt)),
          ),
        )
    expr_serves a is (node.Post w step e) l t h =
        beside captures _ _ (expr_serves a is e l t h) (
          tt,
          (
            tt,
            (
              tt,
              (
                tt,
                (
                  tt,
                  (
                    tt,
                    beside captures (plain (narrowing w)) _ (narrow captures w) (tt, (tt, (tt, tt))),
                  ),
                ),
              ),
            ),
          ),
        )
    expr_serves a is (node.Bin k e f) l t h =
        let q = two ((part e).stands a) ((part f).stands a) h in
        beside captures _ _ (expr_serves a is e l t q.0)
        (beside captures _ _ (expr_serves a is f (l + labels_in e) (t + temps_in e) q.1) (tt, tt))
    expr_serves a is (node.Un k e) l t h = beside captures _ _ (expr_serves a is e l t h) (tt, tt)
    expr_serves a is (node.And e f) l t h =
        let q = two ((part e).stands a) ((part f).stands a) h in
        beside captures _ _ (expr_serves a is e (l + 2) (t + 1) q.0) (
          tt,
          beside captures _ _ (expr_serves a is f (l + 2 + labels_in e) (t + 1 + temps_in e) q.1)
              (tt, meets captures 1 0 l (l + 1) t),
        )
    expr_serves a is (node.Or e f) l t h =
        let q = two ((part e).stands a) ((part f).stands a) h in
        beside captures _ _ (expr_serves a is e (l + 2) (t + 1) q.0) (
          tt,
          beside captures _ _ (expr_serves a is f (l + 2 + labels_in e) (t + 1 + temps_in e) q.1)
              (tt, meets captures 0 1 l (l + 1) t),
        )
    expr_serves a is (node.Cond c e f) l t h =
        let q = two ((part c).stands a) ((part e).stands a && (part f).stands a) h in
        let r = two ((part e).stands a) ((part f).stands a) q.1 in
        beside captures _ _ (expr_serves a is c (l + 2) (t + 1) q.0) (
          tt,
          beside captures _ _ (expr_serves a is e (l + 2 + labels_in c) (t + 1 + temps_in c) r.0)
              (beside captures (plain (keeping (has_value e) t)) _ (keeps captures (has_value e) t) (
                tt,
                (
                  tt,
                  beside captures _ _
                      (expr_serves a is f (l + 2 + labels_in c + labels_in e) (t + 1 + temps_in c + temps_in e) r.1)
                      (beside captures (plain (keeping (has_value e) t)) _ (keeps captures (has_value e) t)
                      (tt, back captures (has_value e) t)),
                ),
              )),
        )
    expr_serves a is (node.Comma e f) l t h =
        let q = two ((part e).stands a) ((part f).stands a) h in
        beside captures _ _ (expr_serves a is e l t q.0)
        (beside captures (own (dropping (has_value e))) _ (own_drops captures (has_value e))
        (expr_serves a is f (l + labels_in e) (t + temps_in e) q.1))
    expr_serves a is (node.Void e) l t h =
        beside captures _ _ (expr_serves a is e l t h) (own_drops captures (has_value e))
    expr_serves a is (node.Call r f args) l t h =
        let n : ℕ = length (fold_args expr_rule args) in
        let front : Bool = nat_le 1 f && takes n (slice_get a.functions (f - 1)) in
        let q = two (front && are_few n) (list_all (λ p. p.stands a) (fold_args expr_rule args)) h in
        let few : are_few n ≡ true = second_true front (are_few n) q.0 in
        beside captures _ _ (args_serve a is args l t q.1)
        (((good f).0, (good f).1, few_args args few), call_drops captures r)
    expr_serves a is (node.CallNumber r e args) l t h =
        let n : ℕ = length (fold_args expr_rule args) in
        let q = two ((part e).stands a && are_few n) (list_all (λ p. p.stands a) (fold_args expr_rule args)) h in
        let s = two ((part e).stands a) (are_few n) q.0 in
        beside captures _ _ (expr_serves a is e l t s.0)
        (beside captures _ _ (args_serve a is args (l + labels_in e) (t + temps_in e) q.1)
        (few_args args s.1, call_drops captures r))
    expr_serves a is node.Getchar l t h = (tt, (tt, tt))
    expr_serves a is (node.Lib library.Putchar e) l t h = beside captures _ _ (expr_serves a is e l t h) (tt, tt)
    expr_serves a is (node.Lib library.Putint e) l t h = beside captures _ _ (expr_serves a is e l t h) (tt, (tt, tt))
    expr_serves a is (node.Lib library.Exit e) l t h = beside captures _ _ (expr_serves a is e l t h) (tt, (tt, tt))
    expr_serves a is (node.Lib library.Malloc e) l t h = beside captures _ _ (expr_serves a is e l t h) (tt, tt)
    expr_serves a is (node.Tick n args) l t h =
        let all : Bool = list_all (λ p. p.is_capture a) (fold_args expr_rule args) in
        absurd (no_function a is (first_true (in_function a) all (first_true (in_function a && all) _ h)))
    expr_serves a is (node.Capture k e) l t h = absurd cc
    expr_serves a is (node.Splice r i) l t h = (splice_there r kinds captures i has (named (is_splice r) i a is h), tt)
    expr_serves a is (node.Compile e) l t h = absurd (no_function a is (first_true (in_function a) _ h))
    expr_serves a is node.Local l t h = absurd (no_function a is h)
    expr_serves a is (node.ParamOf e) l t h = absurd (no_function a is (first_true (in_function a) _ h))

    args_serve : (a : Around) → a.captures ≡ Some kinds → (args : Args) (l t : ℕ)
        → list_all (λ p. p.stands a) (fold_args expr_rule args) ≡ true
        → Serve captures (args_pieces addresses args l t)
    args_serve a is node.NoArg l t h = tt
    args_serve a is (node.Arg e args) l t h =
        let q = two ((part e).stands a) (list_all (λ p. p.stands a) (fold_args expr_rule args)) h in
        beside captures _ _ (expr_serves a is e l t q.0) (args_serve a is args (l + labels_in e) (t + temps_in e) q.1)

  -- ---- statements

  -- a variable of a block; frame objects and parameters stand in functions alone
  declares : (a : Around) → a.captures ≡ Some kinds → (s : Stmt) (to : Targets) (l t : ℕ)
      → (act s).declares a ≡ true → Serve captures (stmt_pieces addresses s to l t)
  declares a is (node.Variable i) to l t h = (tt, (tt, (tt, tt)))
  declares a is (node.Object off words) to l t h =
      absurd (no_function a is (second_true (nat_le 1 words) (in_function a)
      (first_true (nat_le 1 words && in_function a) _ (first_true _ _ h))))
  declares a is _ to l t h = absurd cc

  all_declared : (a : Around) → a.captures ≡ Some kinds → (vs : Items) (to : Targets) (l t : ℕ)
      → all_declare (fold_items rules vs) a ≡ true → Serve captures (items_pieces addresses vs to l t)
  all_declared a is node.NoItem to l t h = tt
  all_declared a is (node.Item s vs) to l t h =
      let q = two ((act s).declares a) (all_declare (fold_items rules vs) a) h in
      beside captures _ _ (declares a is s to l t q.0)
      (all_declared a is vs to (l + labels s) (t + temps s) q.1)

  -- an item of a switch's block
  label_or : (a : Around) (s : Stmt) (to : Targets) (l t : ℕ) → (is_label (act s) || (act s).stands a) ≡ true
      → ((act s).stands a ≡ true → Serve captures (stmt_pieces addresses s to l t))
      → Serve captures (stmt_pieces addresses s to l t)
  label_or a (node.Case v) to l t h f = (tt, tt)
  label_or a node.Default to l t h f = (tt, tt)
  label_or a _ to l t h f = f h

  mutual
    stmt_serves : (a : Around) → a.captures ≡ Some kinds → (s : Stmt) (to : Targets) (l t : ℕ)
        → (act s).stands a ≡ true → Serve captures (stmt_pieces addresses s to l t)
    stmt_serves a is (node.Eval e) to l t h =
        beside captures _ _ (expr_serves a is e l t h) (own_drops captures (has_value e))
    stmt_serves a is (node.Block vs xs) to l t h =
        let q = two (all_declare (fold_items rules vs) a)
        (all_stand (fold_items rules xs) (within (fold_items rules vs) a)) h in (
          tt,
          beside captures _ _ (all_declared a is vs to l t q.0)
              (items_serve (within (fold_items rules vs) a) is xs to (l + labels_of vs) (t + temps_of vs) q.1),
        )
    stmt_serves a is (node.If e s) to l t h =
        let q = two ((part e).stands a) ((act s).stands a) h in
        beside captures _ _ (expr_serves a is e (l + 1) t q.0)
        (tt, beside captures _ _ (stmt_serves a is s to (l + 1 + labels_in e) (t + temps_in e) q.1) (tt, tt))
    stmt_serves a is (node.IfElse e s r) to l t h =
        let q = two ((part e).stands a && (act s).stands a) ((act r).stands a) h in
        let p = two ((part e).stands a) ((act s).stands a) q.0 in
        beside captures _ _ (expr_serves a is e (l + 2) t p.0) (
          tt,
          beside captures _ _ (stmt_serves a is s to (l + 2 + labels_in e) (t + temps_in e) p.1) (
            tt,
            (
              tt,
              beside captures _ _
                  (stmt_serves a is r to (l + 2 + labels_in e + labels s) (t + temps_in e + temps s) q.1) (tt, tt),
            ),
          ),
        )
    stmt_serves a is (node.While e s) to l t h =
        let q = two ((part e).stands a) ((act s).stands (looped a)) h in
        let inner : Targets = record { on_break = l; on_continue = l + 1 } in (
          tt,
          beside captures _ _ (expr_serves a is e (l + 2) t q.0) (
            tt,
            beside captures _ _
                (stmt_serves (looped a) is s inner (l + 2 + labels_in e) (t + temps_in e) q.1) (tt, (tt, tt)),
          ),
        )
    stmt_serves a is (node.Do s e) to l t h =
        let q = two ((act s).stands (looped a)) ((part e).stands a) h in
        let inner : Targets = record { on_break = l; on_continue = l + 2 } in (
          tt,
          beside captures _ _ (stmt_serves (looped a) is s inner (l + 3) t q.0)
              (tt, beside captures _ _ (expr_serves a is e (l + 3 + labels s) (t + temps s) q.1) (tt, (tt, tt))),
        )
    stmt_serves a is (node.For e s) to l t h =
        let q = two ((part e).stands a) ((act s).stands (looped a)) h in
        let inner : Targets = record { on_break = l; on_continue = l + 2 } in (
          tt,
          beside captures _ _ (expr_serves a is e (l + 3) t q.0) (
            tt,
            beside captures _ _
                (stmt_serves (looped a) is s inner (l + 3 + labels_in e) (t + temps_in e) q.1) (tt, (tt, (tt, tt))),
          ),
        )
    stmt_serves a is (node.ForStep e step s) to l t h =
        let q = two ((part e).stands a && (part step).stands a) ((act s).stands (looped a)) h in
        let p = two ((part e).stands a) ((part step).stands a) q.0 in
        let inner : Targets = record { on_break = l; on_continue = l + 2 } in (
          tt,
          beside captures _ _ (expr_serves a is e (l + 3) t p.0) (
            tt,
            beside captures _ _
                (stmt_serves (looped a) is s inner (l + 3 + labels_in e) (t + temps_in e) q.1) (
                  tt,
                  beside captures _ _
                      (expr_serves a is step (l + 3 + labels_in e + labels s) (t + temps_in e + temps s) p.1)
                      (beside captures (plain (dropping (has_value step))) _ (drops captures (has_value step))
                      (tt, (tt, tt))),
                ),
          ),
        )
    stmt_serves a is (node.Switch e vs xs) to l t h =
        let inner : Around = switched (within (fold_items rules vs) a) in
        let front : Bool = (part e).stands a && all_declare (fold_items rules vs) a in
        let whole : Bool = front && all_items (fold_items rules xs) inner in
        let apart : Bool = whole && all_different (values_of (fold_items rules xs)) in
        let q = two front (all_items (fold_items rules xs) inner) (first_true whole _ (first_true apart _ h)) in
        let p = two ((part e).stands a) (all_declare (fold_items rules vs) a) q.0 in
        let m : ℕ = l + 1 + labels_in e in
        let u : ℕ = t + 1 + temps_in e in
        let in_it : Targets = record { on_break = l; on_continue = to.on_continue } in
        beside captures _ _ (expr_serves a is e (l + 1) (t + 1) p.0) (
          tt,
          (
            tt,
            (
              tt,
              beside captures _ _ (all_declared a is vs to m u p.1)
                  (beside captures (plain (test_ops xs (m + labels_of vs) t)) _ (tests captures xs (m + labels_of vs) t) (
                    tt,
                    beside captures _ _
                        (labelled_serve inner is xs in_it (m + labels_of vs) (u + temps_of vs) q.1) (tt, tt),
                  )),
            ),
          ),
        )
    stmt_serves a is node.Break to l t h = (tt, tt)
    stmt_serves a is node.Continue to l t h = (tt, tt)
    stmt_serves a is node.Return to l t h = (tt, tt)
    stmt_serves a is (node.ReturnValue e) to l t h = beside captures _ _ (expr_serves a is e l t h) (tt, tt)
    stmt_serves a is _ to l t h = absurd cc

    items_serve : (a : Around) → a.captures ≡ Some kinds → (xs : Items) (to : Targets) (l t : ℕ)
        → all_stand (fold_items rules xs) a ≡ true → Serve captures (items_pieces addresses xs to l t)
    items_serve a is node.NoItem to l t h = tt
    items_serve a is (node.Item s xs) to l t h =
        let q = two ((act s).stands a) (all_stand (fold_items rules xs) a) h in
        beside captures _ _ (stmt_serves a is s to l t q.0) (items_serve a is xs to (l + labels s) (t + temps s) q.1)

    labelled_serve : (a : Around) → a.captures ≡ Some kinds → (xs : Items) (to : Targets) (l t : ℕ)
        → all_items (fold_items rules xs) a ≡ true → Serve captures (items_pieces addresses xs to l t)
    labelled_serve a is node.NoItem to l t h = tt
    labelled_serve a is (node.Item s xs) to l t h =
        let q = two (is_label (act s) || (act s).stands a) (all_items (fold_items rules xs) a) h in
        beside captures _ _ (label_or a s to l t q.0 (λ k. stmt_serves a is s to l t k))
        (labelled_serve a is xs to (l + labels s) (t + temps s) q.1)

  pub expression_serves : (a : Around) → a.captures ≡ Some kinds → (e : Expr) (l t : ℕ) → (part e).stands a ≡ true
      → Each (Serves captures) (expr_pieces addresses e l t)
  expression_serves a is e l t h = expr_serves a is e l t h

  pub statement_serves : (a : Around) → a.captures ≡ Some kinds → (s : Stmt) (to : Targets) (l t : ℕ)
      → (act s).stands a ≡ true → Each (Serves captures) (stmt_pieces addresses s to l t)
  statement_serves a is s to l t h = stmt_serves a is s to l t h
