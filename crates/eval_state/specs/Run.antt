-- The code's state as a run from within, and how a run changes.
use Rattle.std.specs.Prelude.{ℕ, suc, false, ◌/◌, [], ◌∷◌, ◌++◌, map}
use Rattle.word32.specs.Space.{words_from}
use Rattle.word32.specs.declared.map.TheConstants.{OBJECTS}
use Rattle.typed_tree.specs.View.{function_view}
use Rattle.staged_meaning.specs.Program.{Program}
use Rattle.staged_meaning.specs.Source.{tick_view}
use Rattle.staged_meaning.specs.World.{World, Result}
use Rattle.staged_meaning.specs.Meaning.{Context}
use Rattle.eval_state.specs.Pending.{Frame, Now}
use Rattle.eval_state.specs.Rest as rest
use Rattle.eval_state.specs.Rest.{Signal, State, context_at, place_of, world_of}
use Rattle.eval_state.specs.declared.state.Parts.{Parts}
use Rattle.eval_state.specs.Kept.{body_view, rows_view, compiled_view, entry_view, event_view}

-- a program with a state of its run
pub record Run : Type 0 where
  pub program : Program
  pub turns : ℕ
  pub state : State

abbrev pub program_of : Parts → Program
program_of p = record {
  main = function_view p.main.now;
  functions = map function_view p.typed.now.functions;
  ticks = map (λ t. tick_view t.body) p.typed.now.ticks;
  image = p.typed.now.image;
}

abbrev pub state_of : Parts → State
state_of p =
    let rows = rows_view p.rows in
    record {
      body = body_view rows p.body;
      shared = record {
        history = map (event_view rows) p.events;
        input = record { bytes = p.input.now; failing = false };
        objects = words_from (OBJECTS / 4) p.objects.items;
        heap = p.heap;
        used = p.used;
        frames = p.frames;
        specifications = rows;
        closures = p.closures;
        bodies = map (compiled_view rows) p.compiled;
      };
      units = p.units;
      depth = p.depth;
      frames = map (entry_view rows) p.entries;
    }

unfoldable pub run_of : Parts → Run
run_of p = record { program = program_of p; turns = suc p.turns; state = state_of p }

-- ---- what is still to come

abbrev pub here : Run → Context
here r = context_at r.program r.turns (place_of r.state)

abbrev pub world : Run → World
world r = world_of r.state

abbrev pub leads : Run → Result Signal → Result Signal
leads r x = rest.leads r.program r.turns r.state x

abbrev pub outcome : Now → Run → Result Signal
outcome n r = rest.outcome r.program r.turns n r.state

-- ---- changes

-- a frame more is pending
abbrev pub pushed : Frame → Run → Run
pushed f r = record r { state = record r.state { frames = r.state.frames ++ f ∷ [] } }

-- so many units are left
abbrev pub with_units : ℕ → Run → Run
with_units units r = record r { state = record r.state { units = units } }

-- another world, in the same place
abbrev pub in_world : World → Run → Run
in_world w r = record r {
  state = record r.state {
    body = record r.state.body { variables = w.variables; arguments = w.arguments; generated = w.generated };
    shared = w.shared;
    units = w.units;
  };
}
