-- What is asked of the declarators of a declaration in a block.
use Rattle.std.specs.Prelude.{ℕ, List}
use Rattle.check_rules.specs.Walk.{Start, Nothing, Value, Values, InitParts, Declarations}
use Rattle.wf_walk.specs.Good.{GoodNode, GoodShape}
use Rattle.wf_walk.specs.Parts.{EachPart}

abbrev pub GoodStart : List ℕ → Start → Type 0
GoodStart many Nothing = Unit {0}
GoodStart many (Value e) = GoodNode many e
GoodStart many (Values es) = EachPart (GoodNode many) es

pub record GoodInit (many : List ℕ) (i : InitParts) : Type 0 where
  pub shape : GoodShape i.shape
  pub start : GoodStart many i.start

abbrev pub GoodDeclarators : List ℕ → Declarations → Type 0
GoodDeclarators many d = EachPart (GoodInit many) d.inits
