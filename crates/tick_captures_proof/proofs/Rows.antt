-- The row of what the nodes of a tree name, and the kinds of the captures that they name: two folds over one tree.
use Rattle.std.proofs.Common.{◌≡◌, ℕ, suc, ◌+◌, ◌≤◌, Bool, true, false, if◌then◌else◌, nat_eq, List, [], ◌∷◌, ◌++◌}
use Rattle.std.proofs.Common.{length, Option, Some, None}
use Rattle.std.proofs.Common.{map, refl, ap, sym, ◌∙◌, append_assoc, append-nil, length-append, arith}
use Rattle.typed_tree.specs.declared.expression.CaptureKind.{CaptureKind}
use Rattle.typed_tree.specs.declared.expression.CaptureKind.TheVariants as kind
use Rattle.typed_tree.specs.declared.expression.CapturedWord.{CapturedWord}
use Rattle.typed_tree.specs.declared.expression.CapturedWord.TheVariants as word
use Rattle.typed_tree.specs.Folds.{total}
use Rattle.typed_tree.specs.Nodes as node
use Rattle.typed_tree.specs.Nodes.{Const, Var, SetVar, PostVar, VGet, VSet, VPost, Frame, Load, Store, Modify, Post}
use Rattle.typed_tree.specs.Nodes.{Bin, Un, And, Or, Cond, Comma, Void, Call, CallNumber, Getchar, Lib, Tick, Capture}
use Rattle.typed_tree.specs.Nodes.{Compile, Local, ParamOf, Expr, Args, NoArg, Arg, Stmt, Eval, Block, Variable}
use Rattle.typed_tree.specs.Nodes.{Object, Parameter, ParameterObject, If, IfElse, While, Do, For, ForStep, Switch}
use Rattle.typed_tree.specs.Nodes.{Case, Default, Break, Continue, Return, ReturnValue, Items, NoItem, Item}
use Rattle.typed_tree.specs.Nodes.{fold_expr, fold_args, fold_stmt, fold_items}
use Rattle.typed_tree.specs.Measures.{size_of_expr, size_of_stmt}
use Rattle.typed_tree.specs.Sizes.{size_rule, size_rules}
use Rattle.tick_captures.specs.Kinds.{word_kind}
use Rattle.tick_captures.specs.Captures.{Name, Nothing, Names, row, captures_from}
use Rattle.tick_captures.specs.Captures as captures
use Rattle.tick_captures.specs.declared.capture.Capture.{Capture as CaptureOf}
use Rattle.wellformed.specs.Captured.{Naming, again, next, all}
use Rattle.wellformed.specs.Captured as captured
use Rattle.tick_captures_proof.specs.Laws.{kind_of}

-- what the nodes of an expression name, by both
abbrev pub names : Expr → List Name
names e = fold_expr captures.expr_rule e

abbrev pub naming : Expr → Naming
naming e = fold_expr captured.expr_rule e

abbrev pub names_of : Stmt → List Name
names_of s = fold_stmt captures.rules s

abbrev pub naming_of : Stmt → Naming
naming_of s = fold_stmt captured.rules s

-- ---- a row of names

-- the kinds that are named behind it
abbrev pub behind : List Name → Naming
behind [] ks = ks
behind (Nothing ∷ ns) ks = behind ns ks
behind (Names k i ∷ ns) ks = behind ns (next k i ks)

behind_both : (ms ns : List Name) (ks : Option (List CaptureKind)) → behind (ms ++ ns) ks ≡ behind ns (behind ms ks)
behind_both [] ns ks = refl
behind_both (Nothing ∷ ms) ns ks = behind_both ms ns ks
behind_both (Names k i ∷ ms) ns ks = behind_both ms ns (next k i ks)

-- behind a splice of a capture that was named, nothing has an answer
pub behind_none : (ns : List Name) → behind ns None ≡ None
behind_none [] = refl
behind_none (Nothing ∷ ns) = behind_none ns
behind_none (Names k i ∷ ns) = behind_none ns

-- a name that is no new one
pub again_same : (k : CaptureKind) (ns : List Name) (ks kinds : List CaptureKind) →
    behind ns (again k ks) ≡ Some kinds → behind ns (Some ks) ≡ Some kinds
again_same kind.Dollar ns ks kinds h = h
again_same kind.Address ns ks kinds h = h
again_same kind.Variable ns ks kinds h = h
again_same (kind.Splice r) ns ks kinds h =
    let no : None ≡ Some kinds = sym (behind_none ns) ∙ h in absurd cc

named_there : (k : CaptureKind) (i node : ℕ) (ns : List Name) (ks kinds : List CaptureKind) (b : Bool) →
    nat_eq (length ks) i ≡ b → ((ms : List CaptureKind) (m : ℕ) →
    behind ns (Some ms) ≡ Some kinds → kinds ≡ ms ++ map kind_of (captures_from (length ms) m ns)) →
    behind ns (if b then Some (ks ++ k ∷ []) else again k ks) ≡ Some kinds →
    kinds ≡ ks ++ map kind_of (captures_from (length ks) node (Names k i ∷ ns))
named_there k i node ns ks kinds true is rest h =
    let l : length (ks ++ k ∷ []) ≡ suc (length ks) = length-append ks (k ∷ []) ∙ omega arith in
    let c : CaptureOf = record { kind = k; node = node } in
    rest (ks ++ k ∷ []) (suc node) h
    ∙ append_assoc ks (k ∷ []) (map kind_of (captures_from (length (ks ++ k ∷ [])) (suc node) ns))
    ∙ ap (λ n. ks ++ (k ∷ map kind_of (captures_from n (suc node) ns))) l
    ∙ ap (λ b. ks ++ map kind_of (if b then c ∷ captures_from (suc (length ks)) (suc node) ns
    else captures_from (length ks) (suc node) ns)) (sym is)
named_there k i node ns ks kinds false is rest h =
    let c : CaptureOf = record { kind = k; node = node } in
    rest ks (suc node) (again_same k ns ks kinds h)
    ∙ ap (λ b. ks ++ map kind_of (if b then c ∷ captures_from (suc (length ks)) (suc node) ns
    else captures_from (length ks) (suc node) ns)) (sym is)

-- they are the kinds of the captures in it
pub behind_captures : (ns : List Name) (ks kinds : List CaptureKind) (node : ℕ) → behind ns (Some ks) ≡ Some kinds →
    kinds ≡ ks ++ map kind_of (captures_from (length ks) node ns)
behind_captures [] ks kinds node h = let same : ks ≡ kinds = cc in sym same ∙ sym (append-nil ks)
behind_captures (Nothing ∷ ns) ks kinds node h = behind_captures ns ks kinds (suc node) h
behind_captures (Names k i ∷ ns) ks kinds node h =
    named_there k i node ns ks kinds (nat_eq (length ks) i) refl (λ ms m g. behind_captures ns ms kinds m g) h

captures_by : (k : CaptureKind) (n i node : ℕ) (ns : List Name) (b : Bool) → nat_eq n i ≡ b →
    ((m p : ℕ) → length (captures_from m p ns) ≤ length ns) →
    length (captures_from n node (Names k i ∷ ns)) ≤ suc (length ns)
captures_by k n i node ns true is h = let l = h (suc n) (suc node) in rw is (omega (arith, l))
captures_by k n i node ns false is h = let l = h n (suc node) in rw is (omega (arith, l))

-- and no more than nodes
pub captures_few : (ns : List Name) (n node : ℕ) → length (captures_from n node ns) ≤ length ns
captures_few [] n node = omega arith
captures_few (Nothing ∷ ns) n node = let l = captures_few ns n (suc node) in omega (arith, l)
captures_few (Names k i ∷ ns) n node = captures_by k n i node ns (nat_eq n i) refl (captures_few ns)

-- ---- trees

same_word : (w : CapturedWord) → captured.word_kind w ≡ word_kind w
same_word word.Dollar = refl
same_word word.Address = refl

two : (a b : Expr) → ((ks : Option (List CaptureKind)) → naming a ks ≡ behind (names a) ks) →
    ((ks : Option (List CaptureKind)) → naming b ks ≡ behind (names b) ks) → (ks : Option (List CaptureKind)) →
    naming b (naming a ks) ≡ behind (names a ++ names b) ks
two a b h k ks = k (naming a ks) ∙ ap (behind (names b)) (h ks) ∙ sym (behind_both (names a) (names b) ks)

mutual
  pub expr_named : (e : Expr) (ks : Option (List CaptureKind)) → naming e ks ≡ behind (names e) ks
  expr_named (Const w) ks = refl
  expr_named (node.Captured w i) ks = ap (λ k. next k i ks) (same_word w)
  expr_named (Var i) ks = refl
  expr_named (SetVar i a) ks = expr_named a ks
  expr_named (PostVar i w s) ks = refl
  expr_named (VGet i) ks = refl
  expr_named (VSet i a) ks = expr_named a (next kind.Variable i ks)
  expr_named (VPost i s) ks = refl
  expr_named (Frame o) ks = refl
  expr_named (Load w a) ks = expr_named a ks
  expr_named (Store w a b) ks = two a b (expr_named a) (expr_named b) ks
  expr_named (Modify w k a b) ks = two a b (expr_named a) (expr_named b) ks
  expr_named (Post w s a) ks = expr_named a ks
  expr_named (Bin k a b) ks = two a b (expr_named a) (expr_named b) ks
  expr_named (Un k a) ks = expr_named a ks
  expr_named (And a b) ks = two a b (expr_named a) (expr_named b) ks
  expr_named (Or a b) ks = two a b (expr_named a) (expr_named b) ks
  expr_named (Cond c a b) ks =
      two a b (expr_named a) (expr_named b) (naming c ks)
      ∙ ap (behind (names a ++ names b)) (expr_named c ks) ∙ sym (behind_both (names c) (names a ++ names b) ks)
  expr_named (Comma a b) ks = two a b (expr_named a) (expr_named b) ks
  expr_named (Void a) ks = expr_named a ks
  expr_named (Call r f as_) ks = args_named as_ ks
  expr_named (CallNumber r a as_) ks =
      args_named as_ (naming a ks) ∙ ap (behind (row (fold_args captures.expr_rule as_))) (expr_named a ks)
      ∙ sym (behind_both (names a) (row (fold_args captures.expr_rule as_)) ks)
  expr_named Getchar ks = refl
  expr_named (Lib f a) ks = expr_named a ks
  expr_named (Tick t as_) ks = args_named as_ ks
  expr_named (Capture k a) ks = expr_named a ks
  expr_named (node.Splice r i) ks = refl
  expr_named (Compile a) ks = expr_named a ks
  expr_named Local ks = refl
  expr_named (ParamOf a) ks = expr_named a ks

  args_named : (as_ : Args) (ks : Option (List CaptureKind)) →
      all (fold_args captured.expr_rule as_) ks ≡ behind (row (fold_args captures.expr_rule as_)) ks
  args_named NoArg ks = refl
  args_named (Arg a as_) ks =
      args_named as_ (naming a ks) ∙ ap (behind (row (fold_args captures.expr_rule as_))) (expr_named a ks)
      ∙ sym (behind_both (names a) (row (fold_args captures.expr_rule as_)) ks)

-- one row behind another
joined : (ms ns : List Name) (f g : Naming) → ((ks : Option (List CaptureKind)) → f ks ≡ behind ms ks) →
    ((ks : Option (List CaptureKind)) → g ks ≡ behind ns ks) → (ks : Option (List CaptureKind))
    → g (f ks) ≡ behind (ms ++ ns) ks
joined ms ns f g h k ks = k (f ks) ∙ ap (behind ns) (h ks) ∙ sym (behind_both ms ns ks)

abbrev rows : Items → List Name
rows is = row (fold_items captures.rules is)

abbrev alls : Items → Naming
alls is = all (fold_items captured.rules is)

mutual
  pub stmt_named : (s : Stmt) (ks : Option (List CaptureKind)) → naming_of s ks ≡ behind (names_of s) ks
  stmt_named (Eval e) ks = expr_named e ks
  stmt_named (Block vs is) ks = joined (rows vs) (rows is) (alls vs) (alls is) (items_named vs) (items_named is) ks
  stmt_named (Variable i) ks = refl
  stmt_named (Object o w) ks = refl
  stmt_named (Parameter k w) ks = refl
  stmt_named (ParameterObject k w o) ks = refl
  stmt_named (If e a) ks = joined (names e) (names_of a) (naming e) (naming_of a) (expr_named e) (stmt_named a) ks
  stmt_named (IfElse e a b) ks =
      joined (names e) (names_of a ++ names_of b) (naming e) (λ ms. naming_of b (naming_of a ms)) (expr_named e)
      (joined (names_of a) (names_of b) (naming_of a) (naming_of b) (stmt_named a) (stmt_named b)) ks
  stmt_named (While e a) ks = joined (names e) (names_of a) (naming e) (naming_of a) (expr_named e) (stmt_named a) ks
  stmt_named (Do a e) ks = joined (names_of a) (names e) (naming_of a) (naming e) (stmt_named a) (expr_named e) ks
  stmt_named (For e a) ks = joined (names e) (names_of a) (naming e) (naming_of a) (expr_named e) (stmt_named a) ks
  stmt_named (ForStep e f a) ks =
      joined (names e) (names f ++ names_of a) (naming e) (λ ms. naming_of a (naming f ms)) (expr_named e)
      (joined (names f) (names_of a) (naming f) (naming_of a) (expr_named f) (stmt_named a)) ks
  stmt_named (Switch e vs is) ks =
      joined (names e) (Nothing ∷ (rows vs ++ rows is)) (naming e) (λ ms. alls is (alls vs ms)) (expr_named e)
      (joined (rows vs) (rows is) (alls vs) (alls is) (items_named vs) (items_named is)) ks
  stmt_named (Case c) ks = refl
  stmt_named Default ks = refl
  stmt_named Break ks = refl
  stmt_named Continue ks = refl
  stmt_named Return ks = refl
  stmt_named (ReturnValue e) ks = expr_named e ks

  items_named : (is : Items) (ks : Option (List CaptureKind)) → alls is ks ≡ behind (rows is) ks
  items_named NoItem ks = refl
  items_named (Item s is) ks = joined (names_of s) (rows is) (naming_of s) (alls is) (stmt_named s) (items_named is) ks

-- ---- a name for each node

two_nodes : (a b : Expr) → length (names a) ≡ size_of_expr a → length (names b) ≡ size_of_expr b →
    suc (length (names a ++ names b)) ≡ 1 + size_of_expr a + size_of_expr b
two_nodes a b h k = let l = length-append (names a) (names b) in omega (arith, l, h, k)

mutual
  pub expr_nodes : (e : Expr) → length (names e) ≡ size_of_expr e
  expr_nodes (Const w) = refl
  expr_nodes (node.Captured w i) = refl
  expr_nodes (Var i) = refl
  expr_nodes (SetVar i a) = omega (arith, expr_nodes a)
  expr_nodes (PostVar i w s) = refl
  expr_nodes (VGet i) = refl
  expr_nodes (VSet i a) = omega (arith, expr_nodes a)
  expr_nodes (VPost i s) = refl
  expr_nodes (Frame o) = refl
  expr_nodes (Load w a) = omega (arith, expr_nodes a)
  expr_nodes (Store w a b) = two_nodes a b (expr_nodes a) (expr_nodes b)
  expr_nodes (Modify w k a b) = two_nodes a b (expr_nodes a) (expr_nodes b)
  expr_nodes (Post w s a) = omega (arith, expr_nodes a)
  expr_nodes (Bin k a b) = two_nodes a b (expr_nodes a) (expr_nodes b)
  expr_nodes (Un k a) = omega (arith, expr_nodes a)
  expr_nodes (And a b) = two_nodes a b (expr_nodes a) (expr_nodes b)
  expr_nodes (Or a b) = two_nodes a b (expr_nodes a) (expr_nodes b)
  expr_nodes (Cond c a b) =
      let l = length-append (names c) (names a ++ names b) in
      let m = length-append (names a) (names b) in
      omega (arith, l, m, expr_nodes c, expr_nodes a, expr_nodes b)
  expr_nodes (Comma a b) = two_nodes a b (expr_nodes a) (expr_nodes b)
  expr_nodes (Void a) = omega (arith, expr_nodes a)
  expr_nodes (Call r f as_) = omega (arith, args_nodes as_)
  expr_nodes (CallNumber r a as_) =
      let l = length-append (names a) (row (fold_args captures.expr_rule as_)) in
      omega (arith, l, expr_nodes a, args_nodes as_)
  expr_nodes Getchar = refl
  expr_nodes (Lib f a) = omega (arith, expr_nodes a)
  expr_nodes (Tick t as_) = omega (arith, args_nodes as_)
  expr_nodes (Capture k a) = omega (arith, expr_nodes a)
  expr_nodes (node.Splice r i) = refl
  expr_nodes (Compile a) = omega (arith, expr_nodes a)
  expr_nodes Local = refl
  expr_nodes (ParamOf a) = omega (arith, expr_nodes a)

  args_nodes : (as_ : Args) → length (row (fold_args captures.expr_rule as_)) ≡ total (fold_args size_rule as_)
  args_nodes NoArg = refl
  args_nodes (Arg a as_) =
      let l = length-append (names a) (row (fold_args captures.expr_rule as_)) in
      omega (arith, l, expr_nodes a, args_nodes as_)

mutual
  pub stmt_nodes : (s : Stmt) → length (names_of s) ≡ size_of_stmt s
  stmt_nodes (Eval e) = omega (arith, expr_nodes e)
  stmt_nodes (Block vs is) =
      let l = length-append (rows vs) (rows is) in omega (arith, l, items_nodes vs, items_nodes is)
  stmt_nodes (Variable i) = refl
  stmt_nodes (Object o w) = refl
  stmt_nodes (Parameter k w) = refl
  stmt_nodes (ParameterObject k w o) = refl
  stmt_nodes (If e a) =
      let l = length-append (names e) (names_of a) in omega (arith, l, expr_nodes e, stmt_nodes a)
  stmt_nodes (IfElse e a b) =
      let l = length-append (names e) (names_of a ++ names_of b) in
      let m = length-append (names_of a) (names_of b) in
      omega (arith, l, m, expr_nodes e, stmt_nodes a, stmt_nodes b)
  stmt_nodes (While e a) =
      let l = length-append (names e) (names_of a) in omega (arith, l, expr_nodes e, stmt_nodes a)
  stmt_nodes (Do a e) =
      let l = length-append (names_of a) (names e) in omega (arith, l, expr_nodes e, stmt_nodes a)
  stmt_nodes (For e a) =
      let l = length-append (names e) (names_of a) in omega (arith, l, expr_nodes e, stmt_nodes a)
  stmt_nodes (ForStep e f a) =
      let l = length-append (names e) (names f ++ names_of a) in
      let m = length-append (names f) (names_of a) in
      omega (arith, l, m, expr_nodes e, expr_nodes f, stmt_nodes a)
  stmt_nodes (Switch e vs is) =
      let l = length-append (names e) (Nothing ∷ (rows vs ++ rows is)) in
      let m = length-append (rows vs) (rows is) in
      omega (arith, l, m, expr_nodes e, items_nodes vs, items_nodes is)
  stmt_nodes (Case c) = refl
  stmt_nodes Default = refl
  stmt_nodes Break = refl
  stmt_nodes Continue = refl
  stmt_nodes Return = refl
  stmt_nodes (ReturnValue e) = omega (arith, expr_nodes e)

  items_nodes : (is : Items) → length (rows is) ≡ total (fold_items size_rules is)
  items_nodes NoItem = refl
  items_nodes (Item s is) =
      let l = length-append (names_of s) (rows is) in omega (arith, l, stmt_nodes s, items_nodes is)
