-- The meaning of a program: a big-step evaluation by cases on typed nodes, with units of work as fuel. Here are calls,
-- of the functions of the text and of those that were compiled; generated code, in which each spliced body has
-- variables of its own; and a whole run, with its history and its ending. These are this project's own rules.
use Rattle.std.specs.Prelude.{ℕ, zero, suc, ◌/◌, ◌%◌, nat_lt, if◌then◌else◌, List, [], Option, Some, None, slice_get}
use Rattle.word32.specs.Space.{bytes_from}
use Rattle.host_edge.specs.declared.ending.Ending.TheVariants.{Done, Trap}
use Rattle.host_edge.specs.declared.ending.TrapKind.TheVariants.{BadCall}
use Rattle.history.specs.Syntax.{Syntax, Ticked, Captures, NoCapture, Word, Named, Spliced}
use Rattle.history.specs.Events as event
use Rattle.history.specs.Events.{End, Ended, Entered, Input}
use Rattle.pace.specs.Pace.{Seen}
use Rattle.meaning_state.specs.Shared.{Shared, happens, limit_trap, charged, discharged}
use Rattle.meaning_state.specs.Rows.{locals_of}
use Rattle.typed_tree.specs.Nodes.{Function}
use Rattle.staged_meaning.specs.Size.{size_of, charge_of}
use Rattle.staged_meaning.specs.World.{World, Result, Gives, Returns, Ends, Stops, Flow, Normal, then_do, spend}
use Rattle.staged_meaning.specs.World.{spend_all, with_shared, unless}
pub use Rattle.staged_meaning.specs.Program.{
  Tick,
  OfExpression,
  OfStatement,
  Program,
  Callee,
  Static,
  Generated,
  callee_at,
  syntax_size,
}
pub use Rattle.staged_meaning.specs.Expressions.{Context, eval, eval_args}
pub use Rattle.staged_meaning.specs.Statements.{
  argument,
  exec,
  exec_items,
  then_next,
  turn_end,
  turns,
  round_end,
  rounds,
  stepped,
}
use Rattle.word32.specs.declared.map.TheConstants.{HEAP, OBJECTS}
use Rattle.limits.specs.declared.program.TheConstants.{MOST_ARGUMENTS}

-- ---- calls

-- the value of a body that was left: one that runs off its end answers 0
abbrev pub answer : Result Flow → Result ℕ
answer (Gives flow w) = Gives 0 w
answer (Returns v w) = Gives v w
answer (Ends e shared) = Ends e shared
answer (Stops shared) = Stops shared

-- a call of a charge, and of so many bytes of frame objects, is over: the caller's variables are back
abbrev pub leaves : (charge object : ℕ) → (caller : World) → ℕ → World → Result ℕ
leaves charge object caller v w =
    Gives v
    (record caller { shared = discharged charge object w.shared; units = w.units })

-- a call is charged while it is active
abbrev pub entered : (charge object : ℕ) → World → World
entered charge object w = with_shared (charged charge object w.shared) w

-- a body runs within a charge
abbrev pub charging : (charge object : ℕ) → (body : World → Result ℕ) → World → Result ℕ
charging charge object body w = then_do (body (entered charge object w)) (leaves charge object w)

-- and where no limit is met
abbrev pub limited : (charge object : ℕ) → (body : World → Result ℕ) → World → Result ℕ
limited charge object body w = unless (limit_trap charge object w.shared) w (charging charge object body w)

-- a function's body runs, with no variable in scope, once the call has spent its unit
abbrev pub call_body : Context → Function → List ℕ → World → Result ℕ
call_body c function arguments w =
    then_do (spend Normal (record w { variables = λ i. 0; arguments = arguments }))
    (λ flow w. answer (exec c function.body w))

abbrev pub call_function : Context → Function → List ℕ → World → Result ℕ
call_function c function arguments w =
    limited (charge_of (size_of function)) function.object (call_body c function arguments) w

-- ---- generated code

-- the value of a tick's body; of a statement, 0
abbrev pub tick_value : Context → Option Tick → World → Result ℕ
tick_value c None w = Gives 0 w
tick_value c (Some (OfExpression e)) w = eval c e w
tick_value c (Some (OfStatement s)) w = then_do (exec c s w) (λ flow w. Gives 0 w)

-- a body with variables of its own: behind its end those round it are back
abbrev pub apart : (World → Result ℕ) → World → Result ℕ
apart body w =
    then_do (body (record w { variables = λ i. 0 })) (λ v w1. Gives v (record w1 { variables = w.variables }))

-- the context of a tick's body: it has no frame objects
abbrev pub within : Context → Captures → (splice : ℕ → World → Result ℕ) → Context
within c captures splice = record c { object = 0; captures = captures; splice = splice }

abbrev mutual
  -- what generated code does; a return in it leaves the function that was compiled
  pub syntax_value : Context → Syntax → World → Result ℕ
  syntax_value c (Ticked tick captures) w =
      apart (tick_value (within c captures (spliced_value c captures)) (slice_get c.program.ticks tick)) w

  -- and what is spliced in by the capture of a number
  pub spliced_value : Context → Captures → (capture : ℕ) → World → Result ℕ
  spliced_value c (Spliced syntax captures) zero w = syntax_value c syntax w
  spliced_value c (Spliced syntax captures) (suc i) w = spliced_value c captures i w
  spliced_value c (Word word captures) (suc i) w = spliced_value c captures i w
  spliced_value c (Named key captures) (suc i) w = spliced_value c captures i w
  spliced_value c _ i w = Gives 0 w

-- the value of generated code that was left, with or without a return
abbrev pub returned : Result ℕ → Result ℕ
returned (Gives v w) = Gives v w
returned (Returns v w) = Gives v w
returned (Ends e shared) = Ends e shared
returned (Stops shared) = Stops shared

-- the variables of generated code as a function is entered: its parameters have its arguments, and the others are 0
abbrev pub keys_at_entry : List ℕ → ℕ → ℕ
keys_at_entry arguments key = if nat_lt key MOST_ARGUMENTS then argument arguments key else 0

-- a compiled function's body runs once the call has spent its unit, and one for each local variable of its code
abbrev pub generated_body : Context → Syntax → List ℕ → World → Result ℕ
generated_body c syntax arguments w =
    then_do (spend Normal (record w { arguments = arguments; generated = keys_at_entry arguments }))
    (λ flow w. then_do (spend_all (locals_of syntax) w) (λ flow w. returned (syntax_value c syntax w)))

-- the entry is an event, and stands before the limits
abbrev pub call_generated : Context → (number : ℕ) → Syntax → List ℕ → World → Result ℕ
call_generated c number syntax arguments w =
    limited (charge_of (syntax_size c.program syntax)) 0 (generated_body c syntax arguments)
    (with_shared (happens (Entered number) w.shared) w)

-- ---- calls by numbers

-- in a function of the text nothing is captured
abbrev pub nothing_spliced : (capture : ℕ) → World → Result ℕ
nothing_spliced capture w = Gives 0 w

abbrev pub around : Program → (turns : ℕ) → (call : ℕ → List ℕ → World → Result ℕ) → (object : ℕ) → Context
around program turns call object = record {
  program = program;
  call = call;
  turns = turns;
  object = object;
  captures = NoCapture;
  splice = nothing_spliced;
}

-- a call of what a number stands for
abbrev pub call_callee : Program → (turns : ℕ) → (call : ℕ → List ℕ → World → Result ℕ) → (number : ℕ) → Option Callee →
    List ℕ → World → Result ℕ
call_callee program turns call number None arguments w = Ends (Ended (Trap BadCall)) w.shared
call_callee program turns call number (Some (Static function)) arguments w =
    call_function (around program turns call function.object) function arguments w
call_callee program turns call number (Some (Generated syntax)) arguments w =
    call_generated (around program turns call 0) number syntax arguments w

-- calls that are nested less than d deep; there are more than units
abbrev pub call_at : Program → (turns d : ℕ) → (number : ℕ) → List ℕ → World → Result ℕ
call_at program turns zero number arguments w = Stops w.shared
call_at program turns (suc d) number arguments w =
    call_callee program turns (call_at program turns d) number (callee_at program w.shared.bodies number) arguments w

-- ---- a run

-- the end of a run
abbrev pub finish : ℕ → World → Result ℕ
finish v w = Ends (Ended (Done (v % 256))) w.shared

-- What outlives a call, as a run begins: nothing happened yet, no call is active, and the heap and the rows are empty.
-- The globals and strings stand from the first address of the object space on.
abbrev pub at_start : Program → Input → Shared
at_start program input = record {
  history = [];
  input = input;
  objects = bytes_from (OBJECTS / 4) program.image;
  heap = HEAP;
  used = 0;
  frames = 0;
  specifications = [];
  closures = 0;
  bodies = [];
}

-- the world as a run begins
abbrev pub begins : Program → Input → ℕ → World
begins program input units = record {
  variables = λ i. 0;
  arguments = [];
  generated = λ key. 0;
  shared = at_start program input;
  units = units;
}

-- what stands round the body of main
abbrev pub main_context : Program → (units : ℕ) → Context
main_context program units =
    around program (suc units) (call_at program (suc units) units) program.main.object

-- What came of a run within so many units. `main` is within the limits: a program with a greater one is refused.
abbrev pub run_program : Program → Input → ℕ → Result ℕ
run_program program input units =
    then_do
    (charging (charge_of (size_of program.main)) program.main.object
    (call_body (main_context program units) program.main []) (begins program input units))
    finish

-- what is seen of it
abbrev pub seen : Result ℕ → Seen event.Item End
seen (Gives v w) = record { history = w.shared.history; ending = None }
seen (Returns v w) = record { history = w.shared.history; ending = None }
seen (Ends e shared) = record { history = shared.history; ending = Some e }
seen (Stops shared) = record { history = shared.history; ending = None }

-- the history and the ending, if there is one, of a program on an input within so many units
abbrev pub meant : Program → Input → ℕ → Seen event.Item End
meant program input units = seen (run_program program input units)
