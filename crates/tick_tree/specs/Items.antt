-- The items of a text: what contracts see of a syntax tree.
use Rattle.std.specs.Prelude.{List, refl}
use Rattle.std.specs.Coded.{Coded, code_by, coded_list}
use Rattle.tick_tree.specs.declared.syntax.External.{External}
use Rattle.tick_tree.specs.contracts.syntax.External as external

pub record TreeItems : Type 0 where
  -- from first to last
  pub items : List External

-- they are stored as their list
abbrev pub items_code : Coded TreeItems
items_code = code_by (List External) (coded_list external.the_row.coded) (λ t. t.items) (λ xs. record { items = xs })
    (λ _. refl)
