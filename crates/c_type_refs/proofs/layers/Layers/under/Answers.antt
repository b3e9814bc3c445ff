use Rattle.std.proofs.Common.{arith}
use Rattle.std.proofs.lemmas.Grind.{common_steps}
use Rattle.std.proofs.Common.{ap, ◌∙◌, arith}
use Rattle.c_types.specs.Types.{under}
use Rattle.c_type_refs.proofs.ExtentLaws.{under_more}
use Rattle.c_type_refs.proofs.Coded.{cut_lent, enough}
use Rattle.c_type_refs.proofs.layers.Layers.under.Goals as goal

pub returns-then-on_top-gt0 : goal.returns-then-on_top-gt0
returns-then-on_top-gt0 c =
    under_more c.self.inside.row.now c.self.inside.more.now (omega (arith, c.if-on_top-gt0.true)) ∙
    ap under c.self.view_is

pub first-requires-clause-within : goal.first-requires-clause-within
first-requires-clause-within c =
    enough c.self.inside.row.now c.self.inside.code c.self.inside.ends.now c.min-coded.result
    c.self.invariant.coded c.self.invariant.ended (omega (arith, c.min-coded.ensures))

pub invariant_of-result-2 : goal.invariant_of-result-2
invariant_of-result-2 c =
    rw c.first.ensures (cut_lent c.self.inside.row.now c.self.inside.code c.self.inside.ends.now
    c.self.inside.lists.now c.saturating_sub-below.result c.min-coded.result c.min.result c.self.invariant
    (omega (arith, c.saturating_sub-below.ensures)) c.min-coded.ensures c.min.ensures)

pub returns : goal.returns
returns c = grind (arith, common_steps)
