-- The size that is counted up to a limit is the size of a function that is ready, which is far below.
use Rattle.std.proofs.Common.{◌≡◌, ℕ, min, arith, ap}
use Rattle.typed_tree.specs.declared.expression.Stmt.{Stmt}
use Rattle.typed_tree.specs.declared.program.Function.{Function}
use Rattle.typed_tree.specs.Sizes.{statement_size}
use Rattle.typed_tree.specs.View.{function_view}
use Rattle.typed_tree.proofs.Fusion.{statement_size_viewed}
use Rattle.staged_meaning.specs.Size.{size_of}
use Rattle.staged_meaning.specs.Scope.{IsReady}

-- b is what the code has for the body
pub counted : (f : Function) (b : Stmt) (n : ℕ) → IsReady (function_view f) → b ≡ f.body →
    n ≡ min (statement_size b) 65536 → n ≡ size_of (function_view f)
counted f b n ready at e = omega (arith, e, ap statement_size at, statement_size_viewed f.body, ready.small)
