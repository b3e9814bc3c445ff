-- The pieces of an expression that stands right in a tick: they leave its value, name its body's variables and labels,
-- and each of its labels stands once.
use Rattle.std.proofs.Common.{◌≡◌, ℕ, suc, ◌+◌, ◌-◌, ◌<◌, ◌≤◌, ◌==◌, Bool, true, false, ◌&&◌, nat_le, List, [], ◌∷◌}
use Rattle.std.proofs.Common.{◌++◌, length}
use Rattle.std.proofs.Common.{Some, refl, sym, ap, ◌∙◌, arith}
use Rattle.std.specs.Prelude.{slice_get}
use Rattle.std.specs.List.{list_all}
use Rattle.icode_ops.specs.declared.kind.BinKind.TheVariants.{Add}
use Rattle.icode_ops.specs.declared.kind.RunKind.TheVariants as run
use Rattle.icode_ops.specs.declared.kind.SysKind.TheVariants as sys
use Rattle.icode_ir.specs.declared.build_op.BuildOp.TheVariants as build
use Rattle.typed_tree.specs.declared.expression.CaptureKind.{CaptureKind}
use Rattle.typed_tree.specs.declared.expression.Library.TheVariants as library
use Rattle.typed_tree.specs.Sizes.{is_value}
use Rattle.typed_tree.specs.Nodes as node
use Rattle.typed_tree.specs.Nodes.{Expr, Args, fold_args, has_value, count}
use Rattle.wellformed.specs.Places.{Around, in_function, is_function, in_scope, are_few, takes, captured, captured_in}
use Rattle.wellformed.specs.Places.{is_variable, is_splice, expr_rule}
use Rattle.wellformed.proofs.Bools.{first_true}
use Rattle.wf_ready.proofs.Scoped.{part, two}
use Rattle.staged_meaning.specs.Size.{labels_in, labels_in_args, temps_in, temps_in_args}
use Rattle.staged_meaning.specs.Values.{Leaves, UsesValues, UseValues}
use Rattle.tick_lower_spec.specs.Lower.{Addresses}
use Rattle.tick_lower_spec.specs.declared.piece.Piece.{Piece}
use Rattle.tick_lower_spec.specs.declared.piece.Piece.TheVariants.{Plain, Captured, GetKey, SetKey, Splice}
use Rattle.tick_lower_spec.specs.TickPieces.{expr_pieces, args_pieces}
use Rattle.generated_ops_proof.proofs.Goes.{rise, raised, one_if, piece_mark, Allows, piece_height}
use Rattle.generated_ops_proof.proofs.Good.{Good, span, span_none, span_first, span_both, splice_raised, ends, next}
use Rattle.generated_ops_proof.proofs.Good.{beside}
use Rattle.generated_ops_proof.proofs.Good.{counts, from, upto, valued, narrow, own_drops, call_drops, keeps, back}
use Rattle.generated_ops_proof.proofs.Good.{meets}

-- two labels of a node's own, and those of its parts
pub two_own : (l x y i : ℕ) → one_if (i == l) + one_if (i == l + 1) + span (l + 2) x i + span (l + 2 + x) y i
    ≡ span l (2 + x + y) i
two_own l x y i =
    omega (
      arith,
      span_first (l + 1) (l + 2) x i (omega arith),
      span_first l (l + 1) (1 + x) i refl,
      span_both l (l + 2 + x) (1 + (1 + x)) y i (omega arith),
      ap (λ z. span l z i) (let same : 1 + (1 + x) + y ≡ 2 + x + y = omega arith in same),
    )

module _ (k n m : ℕ) (kinds : List CaptureKind) (addresses : Addresses) (a : Around) (is : a.captures ≡ Some kinds)
    (seen : (i : ℕ) → in_scope i a ≡ true → i < n) where
  no_function : in_function a ≡ true → ⊥
  no_function h = let none : in_function a ≡ false = ap is_function is in cc

  named : (p : CaptureKind → Bool) (i : ℕ) → captured p i a ≡ true → captured_in p i (Some kinds) ≡ true
  named p i h = ap (captured_in p i) (sym is) ∙ h

  -- what is promised of an expression whose labels begin at l and whose variables begin at t
  abbrev Stands : Expr → (l t h : ℕ) → Type 0
  Stands e l t h = Good k n m kinds (span l (labels_in e)) h (rise (has_value e) h) (expr_pieces addresses e l t)

  -- pieces before others, and the end of them
  put : {c : ℕ → ℕ} {h h' : ℕ} {ps : List Piece} (p : Piece) → Allows k n m kinds p h
      → Good k n m kinds c (piece_height k n m kinds p h) h' ps
      → Good k n m kinds (λ i. piece_mark i p + c i) h h' (p ∷ ps)
  put {c} {h} {h'} {ps} p may rest = next k n m kinds p may rest

  pair : {c d : ℕ → ℕ} {h h1 h' : ℕ} {ps qs : List Piece} → Good k n m kinds c h h1 ps → Good k n m kinds d h1 h' qs
      → Good k n m kinds (λ i. c i + d i) h h' (ps ++ qs)
  pair {c} {d} {h} {h1} {h'} {ps} {qs} f g = beside k n m kinds f g

  end : (h : ℕ) → Good k n m kinds (λ i. 0) h h []
  end h = ends k n m kinds h

  -- their labels are those from l on
  spanning : {c : ℕ → ℕ} {h h' : ℕ} {ps : List Piece} (l j : ℕ) → Good k n m kinds c h h' ps
      → ((i : ℕ) → c i ≡ span l j i) → Good k n m kinds (span l j) h h' ps
  spanning {c} {h} {h'} {ps} l j f e = counts k n m kinds (span l j) f e

  -- a leaf has none
  leaf : {c : ℕ → ℕ} {h h' : ℕ} {ps : List Piece} (l : ℕ) → Good k n m kinds c h h' ps → ((i : ℕ) → c i ≡ 0)
      → Good k n m kinds (span l 0) h h' ps
  leaf {c} {h} {h'} {ps} l f none = spanning l 0 f (λ i. none i ∙ sym (span_none l i))

  -- a value that is used
  used : {c : ℕ → ℕ} {h : ℕ} {ps : List Piece} (e : Expr) → Leaves e → Good k n m kinds c h (rise (has_value e) h) ps
      → Good k n m kinds c h (suc h) ps
  used {c} {h} {ps} e v f = valued k n m kinds (has_value e) v f

  mutual
    pub expr_good : (e : Expr) (l t h : ℕ) → (part e).stands a ≡ true → UsesValues e → l + labels_in e ≤ m
        → t + temps_in e ≤ n → Stands e l t h
    expr_good (node.Const w) l t h s u low few = leaf l (put (Plain (build.Const w)) tt (end (suc h)))
        (λ i. omega arith)
    expr_good (node.Captured w j) l t h s u low few = leaf l (put (Captured j) tt (end (suc h))) (λ i. omega arith)
    expr_good (node.Var j) l t h s u low few =
        leaf l (put (Plain (build.GetVariable j)) (seen j s) (end (suc h))) (λ i. omega arith)
    expr_good (node.SetVar j e) l t h s u low few =
        let q = two (in_scope j a) ((part e).stands a) s in
        spanning l (labels_in e)
        (pair (used e u.0 (expr_good e l t h q.1 u.1 low few))
        (put (Plain (build.SetVariable j)) (tt, seen j q.0) (end (suc h))))
        (λ i. omega arith)
    expr_good (node.PostVar j w step) l t h s u low few =
        leaf l
        (put (Plain (build.GetVariable j)) (seen j s)
        (put (Plain (build.Pick 0)) tt
        (put (Plain (build.Const step)) tt
        (put (Plain (build.Bin Add)) tt
        (pair (narrow k n m kinds w (suc h))
        (put (Plain (build.SetVariable j)) (tt, seen j s) (put (Plain build.Drop) tt (end (suc h)))))))))
        (λ i. omega arith)
    expr_good (node.VGet j) l t h s u low few =
        leaf l (put (GetKey j) (named is_variable j s) (end (suc h))) (λ i. omega arith)
    expr_good (node.VSet j e) l t h s u low few =
        let q = two (captured is_variable j a) ((part e).stands a) s in
        spanning l (labels_in e)
        (pair (used e u.0 (expr_good e l t h q.1 u.1 low few))
        (put (SetKey j) (tt, named is_variable j q.0) (end (suc h))))
        (λ i. omega arith)
    expr_good (node.VPost j step) l t h s u low few =
        let key = named is_variable j s in
        leaf l
        (put (GetKey j) key
        (put (Plain (build.Pick 0)) tt
        (put (Plain (build.Const step)) tt
        (put (Plain (build.Bin Add)) tt (put (SetKey j) (tt, key) (put (Plain build.Drop) tt (end (suc h))))))))
        (λ i. omega arith)
    expr_good (node.Frame offset) l t h s u low few =
        absurd (no_function (first_true (in_function a) _ (first_true _ _ s)))
    expr_good (node.Load w e) l t h s u low few =
        spanning l (labels_in e)
        (pair (used e u.0 (expr_good e l t h s u.1 low few)) (put (Plain (build.Load w)) tt (end (suc h))))
        (λ i. omega arith)
    expr_good (node.Store w e f) l t h s u low few =
        let q = two ((part e).stands a) ((part f).stands a) s in
        spanning l (labels_in e + labels_in f)
        (pair (used e u.0 (expr_good e l t h q.0 u.1 (omega (arith, low)) (omega (arith, few))))
        (pair
        (used f u.2 (expr_good f (l + labels_in e) (t + temps_in e) (suc h) q.1 u.3 (omega (arith, low)) (omega
        (arith, few))))
        (put (Plain (build.Store w)) tt (end (suc h)))))
        (λ i. omega (arith, span_both l (l + labels_in e) (labels_in e) (labels_in f) i refl))
    expr_good (node.Modify w op e f) l t h s u low few =
        let q = two ((part e).stands a) ((part f).stands a) s in
        spanning l (labels_in e + labels_in f)
        (pair (used e u.0 (expr_good e l t h q.0 u.1 (omega (arith, low)) (omega (arith, few))))
        (put (Plain (build.Pick 0)) tt
        (put (Plain (build.Load w)) tt
        (pair
        (used f u.2
        (expr_good f (l + labels_in e) (t + temps_in e) (suc (suc h)) q.1 u.3 (omega (arith, low)) (omega
        (arith, few))))
        (put (Plain (build.Bin op)) tt
        (pair (narrow k n m kinds w (suc h)) (put (Plain (build.Store w)) tt (end (suc h)))))))))
        (λ i. omega (arith, span_both l (l + labels_in e) (labels_in e) (labels_in f) i refl))
    expr_good (node.Post w step e) l t h s u low few =
        spanning l (labels_in e)
        (pair (used e u.0 (expr_good e l t h s u.1 low few))
        (put (Plain (build.Pick 0)) tt
        (put (Plain (build.Load w)) tt
        (put (Plain (build.Pick 1)) tt
        (put (Plain (build.Pick 1)) tt
        (put (Plain (build.Const step)) tt
        (put (Plain (build.Bin Add)) tt
        (pair (narrow k n m kinds w (suc (suc (suc h))))
        (put (Plain (build.Store w)) tt (put (Plain build.Drop) tt (put (Plain build.Nip) tt (end (suc h)))))))))))))
        (λ i. omega arith)
    expr_good (node.Bin op e f) l t h s u low few =
        let q = two ((part e).stands a) ((part f).stands a) s in
        spanning l (labels_in e + labels_in f)
        (pair (used e u.0 (expr_good e l t h q.0 u.1 (omega (arith, low)) (omega (arith, few))))
        (pair
        (used f u.2 (expr_good f (l + labels_in e) (t + temps_in e) (suc h) q.1 u.3 (omega (arith, low)) (omega
        (arith, few))))
        (put (Plain (build.Bin op)) tt (end (suc h)))))
        (λ i. omega (arith, span_both l (l + labels_in e) (labels_in e) (labels_in f) i refl))
    expr_good (node.Un op e) l t h s u low few =
        spanning l (labels_in e)
        (pair (used e u.0 (expr_good e l t h s u.1 low few)) (put (Plain (build.Un op)) tt (end (suc h))))
        (λ i. omega arith)
    expr_good (node.And e f) l t h s u low few =
        let q = two ((part e).stands a) ((part f).stands a) s in
        let here : l < m = omega (arith, low) in
        let there : l + 1 < m = omega (arith, low) in
        let mine : t < n = omega (arith, few) in
        spanning l (2 + labels_in e + labels_in f)
        (pair (used e u.0 (expr_good e (l + 2) (t + 1) h q.0 u.1 (omega (arith, low)) (omega (arith, few))))
        (put (Plain (build.BranchZero l)) (tt, here)
        (pair
        (used f u.2
        (expr_good f (l + 2 + labels_in e) (t + 1 + temps_in e) h q.1 u.3 (omega (arith, low)) (omega (arith, few))))
        (put (Plain (build.BranchZero l)) (tt, here) (meets k n m kinds 1 0 l (l + 1) t h here there mine)))))
        (λ i. omega (arith, two_own l (labels_in e) (labels_in f) i))
    expr_good (node.Or e f) l t h s u low few =
        let q = two ((part e).stands a) ((part f).stands a) s in
        let here : l < m = omega (arith, low) in
        let there : l + 1 < m = omega (arith, low) in
        let mine : t < n = omega (arith, few) in
        spanning l (2 + labels_in e + labels_in f)
        (pair (used e u.0 (expr_good e (l + 2) (t + 1) h q.0 u.1 (omega (arith, low)) (omega (arith, few))))
        (put (Plain (build.BranchNonzero l)) (tt, here)
        (pair
        (used f u.2
        (expr_good f (l + 2 + labels_in e) (t + 1 + temps_in e) h q.1 u.3 (omega (arith, low)) (omega (arith, few))))
        (put (Plain (build.BranchNonzero l)) (tt, here) (meets k n m kinds 0 1 l (l + 1) t h here there mine)))))
        (λ i. omega (arith, two_own l (labels_in e) (labels_in f) i))
    expr_good (node.Cond c e f) l t h s u low few =
        let q = two ((part c).stands a) ((part e).stands a && (part f).stands a) s in
        let r = two ((part e).stands a) ((part f).stands a) q.1 in
        let here : l < m = omega (arith, low) in
        let there : l + 1 < m = omega (arith, low) in
        let mine : t < n = omega (arith, few) in
        let v : Bool = has_value e in
        spanning l (2 + labels_in c + labels_in e + labels_in f)
        (pair (used c u.0 (expr_good c (l + 2) (t + 1) h q.0 u.1 (omega (arith, low)) (omega (arith, few))))
        (put (Plain (build.BranchZero l)) (tt, here)
        (pair (expr_good e (l + 2 + labels_in c) (t + 1 + temps_in c) h r.0 u.2 (omega (arith, low)) (omega
        (arith, few)))
        (pair (keeps k n m kinds v t h mine)
        (put (Plain (build.Jump (l + 1))) there
        (put (Plain (build.Label l)) here
        (pair
        (upto k n m kinds (rise v h) (ap (λ z. rise z h) u.4)
        (expr_good f (l + 2 + labels_in c + labels_in e) (t + 1 + temps_in c + temps_in e) h r.1 u.3 (omega
        (arith, low))
        (omega (arith, few))))
        (pair (keeps k n m kinds v t h mine)
        (put (Plain (build.Label (l + 1))) there (back k n m kinds v t h mine))))))))))
        (λ i. omega (
          arith,
          two_own l (labels_in c) (labels_in e) i,
          span_both l (l + 2 + labels_in c + labels_in e) (2 + labels_in c + labels_in e) (labels_in f) i (omega arith),
        ))
    expr_good (node.Comma e f) l t h s u low few =
        let q = two ((part e).stands a) ((part f).stands a) s in
        spanning l (labels_in e + labels_in f)
        (pair (expr_good e l t h q.0 u.0 (omega (arith, low)) (omega (arith, few)))
        (pair (own_drops k n m kinds (has_value e) h)
        (expr_good f (l + labels_in e) (t + temps_in e) h q.1 u.1 (omega (arith, low)) (omega (arith, few)))))
        (λ i. omega (arith, span_both l (l + labels_in e) (labels_in e) (labels_in f) i refl))
    expr_good (node.Void e) l t h s u low few =
        spanning l (labels_in e) (pair (expr_good e l t h s u low few) (own_drops k n m kinds (has_value e) h))
        (λ i. omega arith)
    expr_good (node.Call r f args) l t h s u low few =
        let c : ℕ = count args in
        let many : Bool = nat_le 1 f && takes (length (fold_args expr_rule args)) (slice_get a.functions (f - 1))
        && are_few (length (fold_args expr_rule args)) in
        let q = two many (list_all (λ p. p.stands a) (fold_args expr_rule args)) s in
        spanning l (labels_in_args args)
        (pair (args_good args l t h q.1 u low few)
        (put (Plain (build.Call (addresses.function_at f) c)) (omega arith)
        (from k n m kinds (suc (h + c - c)) (omega arith) (call_drops k n m kinds r h))))
        (λ i. omega arith)
    expr_good (node.CallNumber r e args) l t h s u low few =
        let c : ℕ = count args in
        let q = two ((part e).stands a && are_few (length (fold_args expr_rule args)))
        (list_all (λ p. p.stands a) (fold_args expr_rule args)) s in
        let p = two ((part e).stands a) (are_few (length (fold_args expr_rule args))) q.0 in
        spanning l (labels_in e + labels_in_args args)
        (pair (used e u.0 (expr_good e l t h p.0 u.1 (omega (arith, low)) (omega (arith, few))))
        (pair
        (args_good args (l + labels_in e) (t + temps_in e) (suc h) q.1 u.2 (omega (arith, low)) (omega (arith, few)))
        (put (Plain (build.CallNumber c)) (omega arith)
        (from k n m kinds (suc (suc h + c - suc c)) (omega arith) (call_drops k n m kinds r h)))))
        (λ i. omega (arith, span_both l (l + labels_in e) (labels_in e) (labels_in_args args) i refl))
    expr_good node.Getchar l t h s u low few =
        leaf l (put (Plain (build.Const 0)) tt (put (Plain (build.Sys sys.GetByte)) tt (end (suc h))))
        (λ i. omega arith)
    expr_good (node.Lib library.Putchar e) l t h s u low few =
        spanning l (labels_in e)
        (pair (used e u.0 (expr_good e l t h s u.1 low few)) (put (Plain (build.Sys sys.PutByte)) tt (end (suc h))))
        (λ i. omega arith)
    expr_good (node.Lib library.Putint e) l t h s u low few =
        spanning l (labels_in e)
        (pair (used e u.0 (expr_good e l t h s u.1 low few))
        (put (Plain (build.Sys sys.PutInteger)) tt (put (Plain build.Drop) tt (end h))))
        (λ i. omega arith)
    expr_good (node.Lib library.Exit e) l t h s u low few =
        spanning l (labels_in e)
        (pair (used e u.0 (expr_good e l t h s u.1 low few))
        (put (Plain (build.Sys sys.Exit)) tt (put (Plain build.Drop) tt (end h))))
        (λ i. omega arith)
    expr_good (node.Lib library.Malloc e) l t h s u low few =
        spanning l (labels_in e)
        (pair (used e u.0 (expr_good e l t h s u.1 low few)) (put (Plain (build.Run run.Malloc)) tt (end (suc h))))
        (λ i. omega arith)
    expr_good (node.Tick j args) l t h s u low few =
        let all : Bool = list_all (λ p. p.is_capture a) (fold_args expr_rule args) in
        absurd (no_function (first_true (in_function a) all (first_true (in_function a && all) _ s)))
    expr_good (node.Capture j e) l t h s u low few = absurd cc
    expr_good (node.Splice r j) l t h s u low few =
        leaf l
        (put (Splice j) tt
        (from k n m kinds (raised (slice_get kinds j) h)
        (splice_raised r (slice_get kinds j) h (named (is_splice r) j s)) (end (rise (is_value r) h))))
        (λ i. omega arith)
    expr_good (node.Compile e) l t h s u low few = absurd (no_function (first_true (in_function a) _ s))
    expr_good node.Local l t h s u low few = absurd (no_function s)
    expr_good (node.ParamOf e) l t h s u low few = absurd (no_function (first_true (in_function a) _ s))

    args_good : (args : Args) (l t h : ℕ) → list_all (λ p. p.stands a) (fold_args expr_rule args) ≡ true
        → UseValues args → l + labels_in_args args ≤ m → t + temps_in_args args ≤ n
        → Good k n m kinds (span l (labels_in_args args)) h (h + count args) (args_pieces addresses args l t)
    args_good node.NoArg l t h s u low few =
        leaf l (upto k n m kinds (h + 0) (omega arith) (end h)) (λ i. omega arith)
    args_good (node.Arg e args) l t h s u low few =
        let q = two ((part e).stands a) (list_all (λ p. p.stands a) (fold_args expr_rule args)) s in
        spanning l (labels_in e + labels_in_args args)
        (pair (used e u.0 (expr_good e l t h q.0 u.1 (omega (arith, low)) (omega (arith, few))))
        (upto k n m kinds (h + suc (count args)) (omega arith)
        (args_good args (l + labels_in e) (t + temps_in e) (suc h) q.1 u.2 (omega (arith, low)) (omega (arith, few)))))
        (λ i. omega (arith, span_both l (l + labels_in e) (labels_in e) (labels_in_args args) i refl))
