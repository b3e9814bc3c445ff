-- The ticks of a program, as the code has them.
use Rattle.std.specs.Prelude.{ℕ, ◌<◌, ◌^◌, List, map}
use Rattle.icode_ir.specs.Sound.{Each}
use Rattle.typed_tree.specs.declared.program.Tick.{Tick}
use Rattle.typed_tree.specs.declared.program.TickBody.{TickBody}
use Rattle.typed_tree.specs.declared.program.TickBody.TheVariants as body
use Rattle.typed_tree.specs.View.{stmt_view}
use Rattle.staged_meaning.specs.Program.{Tick as TickOf}
use Rattle.staged_meaning.specs.Size.{variables_in}
use Rattle.staged_meaning.specs.Source.{tick_view}

-- as they have a meaning
abbrev pub ticks_view : List Tick → List TickOf
ticks_view ticks = map (λ t. tick_view t.body) ticks

-- a word has room for the numbers of the register variables
abbrev pub HasNumbers : TickBody → Type 0
HasNumbers (body.Expression e) = Unit {0}
HasNumbers (body.Statement s) = variables_in (stmt_view s) < 2 ^ 32

abbrev pub HaveNumbers : List Tick → Type 0
HaveNumbers ticks = Each (λ t. HasNumbers t.body) ticks
