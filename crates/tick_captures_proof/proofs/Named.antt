-- Each specification that a tick of an accepted text captures is spliced in, and each variable is named.
use Rattle.std.proofs.Common.{◌≡◌, ℕ, ◌+◌, ◌≤◌, ◌==◌, true, List, [], Some, refl, sym, ◌∙◌, arith}
use Rattle.std.proofs.lemmas.Bool.Decides.{nat_tests}
use Rattle.typed_tree.specs.declared.expression.CaptureKind.{CaptureKind}
use Rattle.typed_tree.specs.declared.expression.CaptureKind.TheVariants as kind
use Rattle.typed_tree.specs.declared.expression.CapturedWord.TheVariants as word
use Rattle.typed_tree.specs.declared.expression.Expr.TheOpen.{Expr-F}
use Rattle.typed_tree.specs.Measures.{together}
use Rattle.typed_tree.specs.Nodes as node
use Rattle.tick_captures.specs.Captures.{Name, Names, own}
use Rattle.wellformed.specs.Program.{named_in}
use Rattle.tick_captures_proof.specs.Laws.{CapturesAreNamed}
use Rattle.tick_captures_proof.specs.Splices.{splice_rule, mention_rule, AreNamed}
use Rattle.tick_captures_proof.proofs.Rows.{names, names_of, expr_named, stmt_named}
use Rattle.tick_captures_proof.proofs.Counted.{each_named, expr_counted, stmt_counted}
use Rattle.tick_captures_proof.proofs.Once.{one_if, spliced, by_splices}

abbrev mentioned : ℕ → Name → ℕ
mentioned i (Names kind.Variable j) = one_if (i == j)
mentioned i _ = 0

by_mentions : (i : ℕ) (e : Expr-F ℕ) → mention_rule i e ≡ mentioned i (own e) + together e
by_mentions i (Expr-F.Captured word.Dollar j) = omega arith
by_mentions i (Expr-F.Captured word.Address j) = omega arith
by_mentions i (Expr-F.VGet j) = omega arith
by_mentions i (Expr-F.VSet j a) = omega arith
by_mentions i (Expr-F.VPost j step) = omega arith
by_mentions i _ = omega arith

itself : (i : ℕ) → 1 ≤ one_if (i == i)
itself i = let same : (i == i) ≡ true = grind (arith, nat_tests) in rw same (omega arith)

body_named : (t : node.TickBody) (kinds : List CaptureKind) → named_in t (Some []) ≡ Some kinds → AreNamed t kinds
body_named (node.Expression e) kinds h =
    let row = sym (expr_named e (Some [])) ∙ h in record {
      splices = λ i answer at.
          let some = each_named (spliced i) (kind.Splice answer) i (itself i) (names e) [] kinds row at (omega arith) in
          omega (arith, some, expr_counted (spliced i) refl (splice_rule i) (by_splices i) e);
      variables = λ i at.
          let some = each_named (mentioned i) kind.Variable i (itself i) (names e) [] kinds row at (omega arith) in
          omega (arith, some, expr_counted (mentioned i) refl (mention_rule i) (by_mentions i) e);
    }
body_named (node.Statement s) kinds h =
    let row = sym (stmt_named s (Some [])) ∙ h in record {
      splices = λ i answer at.
          let some = each_named (spliced i) (kind.Splice answer) i (itself i) (names_of s) [] kinds row at
          (omega arith) in
          omega (arith, some, stmt_counted (spliced i) refl (splice_rule i) (by_splices i) s);
      variables = λ i at.
          let some = each_named (mentioned i) kind.Variable i (itself i) (names_of s) [] kinds row at (omega arith) in
          omega (arith, some, stmt_counted (mentioned i) refl (mention_rule i) (by_mentions i) s);
    }

pub captures_named : CapturesAreNamed
captures_named p accepted n t kinds at own = body_named t kinds (accepted.ticks n t kinds at own).captures
