use Rattle.std.proofs.Common.{◌≡◌, None}
use Rattle.tick_lower.specs.Viewed.{addresses_view}
use Rattle.lowering_pieces.specs.Steps.{walk_items, walk_tests, walk_default, targets_of}
use Rattle.lowering_pieces.proofs.Lists.{items_left}
use Rattle.tick_lower.proofs.statements.+statement.Given as goal

abbrev pub invariant-statements-loop-s : goal.invariant-statements-loop-s
invariant-statements-loop-s l =
    walk_items (addresses_view l.addresses) (targets_of l.exits) (items_left l.s-index l.list) l.out
    ≡ walk_items (addresses_view l.addresses) (targets_of l.exits) (items_left 0 l.list) l.fn.out

-- the default, the tests and the items
abbrev pub invariant-cases-loop-s : goal.invariant-cases-loop-s
invariant-cases-loop-s l = record {
  label :
      walk_default (addresses_view l.addresses) (targets_of l.exits) (items_left l.s-index l.items) l.inside l.default
      ≡ walk_default (addresses_view l.addresses) (targets_of l.exits) (items_left 0 l.items) l.fn.inside None;
  tests :
      walk_tests (addresses_view l.addresses) (targets_of l.exits) (items_left l.s-index l.items) l.inside l.value l.out
      ≡ walk_tests (addresses_view l.addresses) (targets_of l.exits) (items_left 0 l.items) l.fn.inside l.value
      l.fn.out;
  pieces :
      walk_items (addresses_view l.addresses) (targets_of l.exits) (items_left l.s-index l.items) l.inside
      ≡ walk_items (addresses_view l.addresses) (targets_of l.exits) (items_left 0 l.items) l.fn.inside;
}
