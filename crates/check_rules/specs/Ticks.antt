-- What a tick captures, in the order of the text, one capture for each occurrence; and the ticks of the program so far.
-- A tick has the number of the ticks before it. These are this project's own rules.
use Rattle.std.specs.Prelude.{ℕ, min, [], ◌∷◌, ◌++◌}
use Rattle.limits.specs.declared.program.TheConstants.{NODE_TOP}
use Rattle.typed_tree.specs.declared.expression.CaptureKind.{CaptureKind}
use Rattle.typed_tree.specs.declared.expression.Expr.{Expr}
use Rattle.typed_tree.specs.declared.expression.Expr.TheVariants as ex
use Rattle.typed_tree.specs.declared.program.Tick.{Tick}
use Rattle.typed_tree.specs.declared.program.TickBody.{TickBody}
use Rattle.typed_tree.specs.Sizes.{body_size}
use Rattle.check_rules.specs.declared.ticks.Ticks.{Ticks}
use Rattle.check_rules.specs.Frames.{count}

abbrev pub new : Ticks
new = record { captures = []; all = [] }

-- the number of the next capture
abbrev pub place : Ticks → ℕ
place s = count s.captures

-- one capture more
abbrev pub captured : CaptureKind → Expr → Ticks → Ticks
captured k e s = record s { captures = s.captures ++ ex.Capture k e ∷ [] }

-- in a tick, which has captured nothing yet
abbrev pub entered : Ticks → Ticks
entered s = record s { captures = [] }

abbrev pub tick_of : TickBody → Tick
tick_of b = record { size = min (body_size b) NODE_TOP; body = b }

-- the node that makes a specification of the tick that ends
abbrev pub node : Ticks → Expr
node s = ex.Tick (count s.all) s.captures

-- after a tick of this body
abbrev pub left : TickBody → Ticks → Ticks
left b s = record { captures = []; all = s.all ++ tick_of b ∷ [] }
