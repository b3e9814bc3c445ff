-- The cases of the innermost switch so far: no value and no `default` stands twice in one switch.
use Rattle.std.specs.Prelude.{ℕ, true, false, [], ◌∷◌, ◌++◌, if◌then◌else◌, Ok}
use Rattle.tick_tree.specs.declared.fault.FaultKind.TheVariants.{DuplicateCase}
use Rattle.tick_tree.specs.Faults.{refuse}
use Rattle.check_rules.specs.declared.labels.Labels.{Labels}
use Rattle.check_rules.specs.Members.{is_member}
use Rattle.check_rules.specs.Walks.{Rule}

abbrev pub new : Labels
new = record { values = []; has_default = false }

-- the label of a `case`: its value stands in no earlier case of the switch
unfoldable pub case : ℕ → ℕ → Rule Labels (Unit {0})
case line n s =
    if is_member n s.values then refuse DuplicateCase line
    else Ok (tt, record s { values = s.values ++ n ∷ [] })

-- the label of a `default`: the switch has none so far
unfoldable pub default : ℕ → Rule Labels (Unit {0})
default line s = if s.has_default then refuse DuplicateCase line else Ok (tt, record s { has_default = true })
