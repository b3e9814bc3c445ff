-- What `check` seals is well-formed.
use Rattle.std.proofs.Common.{◌≡◌, Ok}
use Rattle.tick_tree.specs.declared.tree.Tree.{Tree}
use Rattle.tick_tree.specs.Texts.{IsText}
use Rattle.typed_tree.specs.declared.program.TypedParts.{TypedParts}
use Rattle.check_globals.specs.Program.{checked}
use Rattle.wellformed.specs.Program.{IsWellFormed}
use Rattle.wf_programs.proofs.Law.{well_formed_law}

pub sealed : (t : Tree) (p : TypedParts) → IsText t.items → checked t ≡ Ok p → IsWellFormed p
sealed = well_formed_law
