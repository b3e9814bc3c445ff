-- How far a machine has come in a run, and the worlds of the definition that this stands for. A machine keeps neither
-- the input nor the events, nor of what functions were built, nor the choices of places; so a world is made of what it
-- keeps, what is to come and what took place. That a machine stores no history is this project's own choice.
use Rattle.std.specs.Prelude.{◌≡◌, ◌≢◌, ℕ, ◌*◌, ◌≤◌, Bool, false, List, [], ◌++◌, Option, Some, None}
use Rattle.word32.specs.declared.map.TheConstants.{ARENA_WORDS}
use Rattle.limits.specs.declared.ops.TheConstants.{MOST_REGISTERS}
use Rattle.history.specs.Events.{Item, End, Input}
use Rattle.image_file.specs.Image.{ImageParts}
use Rattle.mips_model.specs.Choices.{Choice}
use Rattle.mips_model.specs.CodeServices.{Generator}
use Rattle.mips_model.specs.State.{Built, Finish, Making, Outside, State, World}
use Rattle.mips_model.specs.Beside.{beside_state}
use Rattle.mips_model.specs.Run.{first_making, first_outside, first_state}
use Rattle.mips_core.specs.Core.{CoreKept, state_of}
use Rattle.host_edge.specs.declared.ending.Counts.{Counts}
use Rattle.mips_machine.specs.declared.stop.Stop.{Stop}
use Rattle.mips_machine.specs.declared.tally.Tally.{Tally}
use Rattle.mips_machine.specs.declared.stop.Stop.TheVariants.{Steps}
use Rattle.mips_machine.specs.Tallies.{with_tally}

-- The state, in which no input is left, no event took place, no choice is to come and nothing is said of functions; and
-- how many instructions were executed.
pub record Progress : Type 0 where
  pub state : State
  pub steps : ℕ

-- no input
abbrev pub no_input : Input
no_input = record { bytes = []; failing = false }

-- before the first instruction of an image
abbrev pub first_progress : ImageParts → Progress
first_progress image = record { state = first_state image no_input []; steps = 0 }

-- whether the end of the input was read
abbrev pub is_at_end : Progress → Bool
is_at_end p = p.state.d.outside.at_end

-- what is said of functions: what the one that was begun last is built of, and the finishes, the newest first
pub record Notes : Type 0 where
  pub issued : Built
  pub finishes : List Finish

-- what no machine keeps, beside the input: the events so far, what is said of functions, and the choices of places that
-- are still to come
pub record Unkept : Type 0 where
  pub history : List Item
  pub notes : Notes
  pub row : List Choice

-- before the first instruction, with these choices to come
abbrev pub first_unkept : List Choice → Unkept
first_unkept row = record {
  history = [];
  notes = record { issued = (first_making []).issued; finishes = [] };
  row = row;
}

-- with these choices in front of those that are to come
abbrev pub choosing : List Choice → Unkept → Unkept
choosing choices u = record u { row = choices ++ u.row }

-- with these events more
abbrev pub more : List Item → Unkept → Unkept
more events u = record u { history = u.history ++ events }

abbrev pub making_with : Unkept → Making → Making
making_with u m = record m { issued = u.notes.issued; finishes = u.notes.finishes; row = u.row }

abbrev pub outside_with : Input → Unkept → Outside → Outside
outside_with input u o = record o { input = input; history = u.history; making = making_with u o.making }

-- so far, with this input still to come and what no machine keeps, and ended so, if at all
abbrev pub world : Progress → Input → Unkept → Option End → World
world p input u ending = record {
  state = beside_state (outside_with input u p.state.d.outside) p.state;
  ending = ending;
}

-- what the services were asked for, refused ones aside
abbrev pub counts_of : Outside → Counts
counts_of o = record {
  ops = o.making.ops;
  functions = o.making.functions;
  words = o.making.words;
  flushes = o.flushes;
  spills = o.making.generator.spills;
}

-- what the code keeps: the core, the generator, whether the end of the input was read, what services are counted as,
-- how many instructions were executed, and why the machine has stopped, if it has
pub record Held : Type 0 where
  pub core : CoreKept
  pub generator : Generator
  pub at_end : Bool
  pub tally : Tally
  pub steps : ℕ
  pub stopped : Option Stop

-- A core that has stopped belongs to a machine that has, and another stop than Steps is kept. An instruction counts for
-- at most one op, function and flush, for no more words than the arena has, and for no more spills than a function has
-- registers.
pub record IsMachine (h : Held) : Type 0 where
  pub alive : h.stopped ≡ None → h.core.stopped ≡ None
  pub stays : h.stopped ≢ Some Steps
  pub ops_are_steps : h.tally.ops ≤ h.steps
  pub functions_are_steps : h.tally.functions ≤ h.steps
  pub flushes_are_steps : h.tally.flushes ≤ h.steps
  pub words_are_few : h.tally.words ≤ ARENA_WORDS * h.steps
  pub spills_are_few : h.generator.spills ≤ MOST_REGISTERS * h.steps

-- what the outside has of all this; nothing of what no machine keeps
abbrev pub outside_of : Held → Outside
outside_of h = record (with_tally h.tally (first_outside no_input [])) {
  at_end = h.at_end;
  making = record (with_tally h.tally (first_outside no_input [])).making { generator = h.generator };
}

abbrev pub progress_of : Held → Progress
progress_of h = record { state = beside_state (outside_of h) (state_of h.core); steps = h.steps }
