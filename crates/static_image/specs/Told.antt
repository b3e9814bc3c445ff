-- How a machine tells what is meant. What passed between a run and the outside, and which function was entered, is told
-- alike on both sides. Of a function that was compiled the meaning tells the specification, and the machine the builder
-- ops that were issued: they are to be the lowering of the specification, whose calls go where the image has its
-- functions, with the return of its value where it has one. This is the project's own rule.
use Rattle.std.specs.Prelude.{List, [], map}
use Rattle.history.specs.Events.{Item}
use Rattle.history.specs.Syntax.{Syntax}
use Rattle.image_file.specs.Image.{ImageParts}
use Rattle.meaning_state.specs.Rows.{parameters_of}
use Rattle.mips_model.specs.State.{Built}
use Rattle.mips_model.specs.Told.{Told}
use Rattle.mips_model_laws.specs.Tales.{told_as}
use Rattle.staged_meaning.specs.Program.{Program}
use Rattle.tick_lower_spec.specs.Lower.{Addresses, listed}
use Rattle.tick_lower_spec.specs.Generated.{generated_ops}

-- where the functions of an image stand; a specification has no ticks of its own
abbrev pub called_in : Program → ImageParts → Addresses
called_in program image = listed (map (λ f. f.address) image.functions) [] program.ticks

-- what the function of a specification is built of
abbrev pub built_for : Program → ImageParts → Syntax → Built
built_for program image syntax =
    record { parameters = parameters_of syntax; ops = generated_ops (called_in program image) syntax }

abbrev pub told_of : Program → ImageParts → Item → List Told
told_of program image = told_as (built_for program image)
