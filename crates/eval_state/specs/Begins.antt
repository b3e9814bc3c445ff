-- The run as the body of main is entered, before the unit of its call.
use Rattle.std.specs.Prelude.{ℕ, suc, []}
use Rattle.history.specs.Syntax.{NoCapture}
use Rattle.history.specs.Events.{Input}
use Rattle.staged_meaning.specs.Program.{Program}
use Rattle.eval_state.specs.Moves.{entered_main}
use Rattle.eval_state.specs.Run.{Run}

abbrev pub first_run : Program → Input → (units : ℕ) → Run
first_run program input units =
    let w = entered_main program input units in
    record {
      program = program;
      turns = suc units;
      state = record {
        body = record {
          variables = w.variables;
          arguments = w.arguments;
          generated = w.generated;
          object = program.main.object;
          captures = NoCapture;
        };
        shared = w.shared;
        units = units;
        depth = units;
        frames = [];
      };
    }
