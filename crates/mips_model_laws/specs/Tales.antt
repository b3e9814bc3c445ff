-- A world, and what was told on the way to it: what a run tells leaves nothing behind in the world itself.
use Rattle.std.specs.Prelude.{◌≡◌, false, List, [], ◌∷◌, ◌++◌, map, Some}
use Rattle.pace.specs.Pace.{Seen}
use Rattle.history.specs.Events.{Item, End}
use Rattle.history.specs.Events as item
use Rattle.history.specs.Syntax.{Syntax}
use Rattle.mips_model.specs.State.{Built, World}
use Rattle.mips_model.specs.Steps.{step}
use Rattle.mips_model.specs.Told.{Told, Passed, Made, Entered, entered, said, made}
use Rattle.mips_model_laws.specs.Clean.{spoils}

pub record Tale : Type 0 where
  pub world : World
  pub told : List Told

abbrev pub tell : Tale → Tale
tell t = record {
  world = step t.world;
  told = t.told ++ (entered t.world ++ (map Passed (said t.world) ++ made t.world));
}

abbrev pub see_tale : Tale → Seen Told End
see_tale t = record { history = t.told; ending = t.world.ending }

-- the next instruction flushes no unwritten word
abbrev pub IsCalm : Tale → Type 0
IsCalm t = spoils t.world ≡ false

-- Agreement: what a machine tells that did as meant. What passed, and which function was entered, is told alike on both
-- sides; of a function that was made the meaning tells the syntax, and the machine what it was built of, which is this.
abbrev pub told_as : (Syntax → Built) → Item → List Told
told_as built (item.Out b) = Passed (item.Out b) ∷ []
told_as built (item.In w) = Passed (item.In w) ∷ []
told_as built (item.Made f syntax) = Made f (Some (built syntax)) ∷ []
told_as built (item.Entered f) = Entered f ∷ []
