-- What ends an inner declarator.
use Rattle.std.proofs.Common.{◌≡◌, subst}
use Rattle.std.specs.Prelude.{Result}
use Rattle.tick_tree.specs.declared.syntax.Core.{Core}
use Rattle.tick_tree.specs.declared.syntax.Core.TheVariants as core_of
use Rattle.tick_tree.specs.declared.syntax.Declarator.{Declarator}
use Rattle.parse_grammar.specs.declared.kind.Mark.TheVariants as m
use Rattle.parse_grammar.specs.declared.stop.Stop.{Stop}
use Rattle.parse_grammar.specs.Ends.{before}
use Rattle.parse_grammar.specs.Input.{Input, Reads, and_then, expect, pure}

-- the declarator in a box is the one that was read
pub closes : (x d : Declarator) (i z : Input) (r : Result Core Stop) → x ≡ d →
    Reads (before m.ParenClose (pure (core_of.Paren x)) i) r z →
    Reads (and_then (expect m.ParenClose i) (λ _. pure (core_of.Paren d))) r z
closes x d i z r same was =
    subst (λ q. Reads (and_then (expect m.ParenClose i) (λ _. pure (core_of.Paren q))) r z) same was
