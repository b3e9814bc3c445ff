-- The walk over the items of a program makes nothing grow by more than their weight.
use Rattle.std.proofs.Common.{List, [], ◌∷◌, map, arith}
use Rattle.tick_tree.specs.declared.syntax.External.{External}
use Rattle.tick_tree.specs.declared.syntax.External.TheVariants as ext
use Rattle.check_globals.specs.Parameters.{parameters_of}
use Rattle.check_globals.specs.Program as program
use Rattle.check_rules.specs.Walk.{item, shape, declaration}
use Rattle.wf_growth_rules.specs.Light.{Bounded}
use Rattle.wf_growth_rules.proofs.Walks.{weak, pure_light, bind_light}
use Rattle.tick_tree.specs.Weights.{total, item_weight}
use Rattle.wf_growth.proofs.Functions.{function_light}
use Rattle.wf_growth.proofs.Given.{parameters_few}
use Rattle.wf_growth.proofs.Globals.{declared_light}
use Rattle.wf_growth_rules.proofs.Few.{items_light}
use Rattle.wf_growth_rules.proofs.Tree.{declarator_light, declaration_light}

pub external_light : (x : External) → Bounded (item_weight x) (program.external x)
external_light (ext.Function line b d xs) =
    weak _ (function_light line b (shape d) (parameters_of d) (map item xs) (declarator_light d) (parameters_few d)
    (items_light xs)) (omega arith)
external_light (ext.Declaration d) = weak _ (declared_light (declaration d) (declaration_light d)) (omega arith)

pub walk_light : (xs : List External) → Bounded (total (map item_weight xs)) (program.walk xs)
walk_light [] = pure_light tt
walk_light (x ∷ xs) = bind_light (external_light x) (λ u. walk_light xs)
