-- What the typed tree of each accepted text is known to be: a law on the definition of the checker alone.
use Rattle.std.specs.Prelude.{◌≡◌, Ok}
use Rattle.tick_tree.specs.declared.tree.Tree.{Tree}
use Rattle.tick_tree.specs.Texts.{IsText}
use Rattle.typed_tree.specs.declared.program.TypedParts.{TypedParts}
use Rattle.check_globals.specs.Program.{checked}
use Rattle.wellformed.specs.Program.{IsWellFormed}

-- what the checker makes of a text's tree is well-formed
abbrev pub CheckedIsWellFormed : Type 0
CheckedIsWellFormed = (t : Tree) (p : TypedParts) → IsText t.items → checked t ≡ Ok p → IsWellFormed p
