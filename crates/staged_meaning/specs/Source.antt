-- The program that a checked text is: its functions, its ticks and the bytes of its globals and strings, as they have a
-- meaning. The run begins with the function named main.
use Rattle.std.specs.Prelude.{List, [], ◌∷◌, map, Option, Some, None, codes, nat_eq, if◌then◌else◌}
use Rattle.std.specs.Cmp.Lexicographic.{pointwise}
use Rattle.typed_tree.specs.declared.program.Function.{Function}
use Rattle.typed_tree.specs.declared.program.TickBody.{TickBody}
use Rattle.typed_tree.specs.declared.program.TickBody.TheVariants as body
use Rattle.typed_tree.specs.declared.program.TypedParts.{TypedParts}
use Rattle.typed_tree.specs.View.{expr_view, stmt_view, function_view}
use Rattle.staged_meaning.specs.Program.{Tick, OfExpression, OfStatement, Program}

abbrev pub tick_view : TickBody → Tick
tick_view (body.Expression e) = OfExpression (expr_view e)
tick_view (body.Statement s) = OfStatement (stmt_view s)

-- the function named main
abbrev pub main_of : List Function → Option Function
main_of [] = None
main_of (f ∷ functions) = if pointwise nat_eq f.name (codes "main") then Some f else main_of functions

abbrev pub ticks_of : TypedParts → List Tick
ticks_of typed = map (λ t. tick_view t.body) typed.ticks

abbrev pub program_from : Option Function → TypedParts → Option Program
program_from None typed = None
program_from (Some main) typed = Some (record {
  main = function_view main;
  functions = map function_view typed.functions;
  ticks = ticks_of typed;
  image = typed.image;
})

abbrev pub program_view : TypedParts → Option Program
program_view typed = program_from (main_of typed.functions) typed
