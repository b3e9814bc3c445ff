-- Short lists of ops, computed: what they leave, and what they cost at the least and at the most.
use Rattle.std.proofs.Common.{◌≡◌, ℕ, zero, suc, ◌+◌, ◌-◌, List, [], ◌∷◌, ◌++◌, Option, Some, None, Bool, true, false}
use Rattle.std.proofs.Common.{refl}
use Rattle.std.specs.Prelude.{decimal, nat_eq, if◌then◌else◌}
use Rattle.std.specs.Fn.{iterate}
use Rattle.host_edge.specs.declared.ending.Ending.TheVariants.{Done, Trap}
use Rattle.host_edge.specs.declared.ending.TrapKind.TheVariants.{BadCall, BadSpec, BadParam, SizeLimit, SpecLimit}
use Rattle.host_edge.specs.declared.ending.TrapKind.TheVariants.{StackLimit}
use Rattle.history.specs.Events.{Out, outs, Ended, Entered}
use Rattle.icode_ops.specs.declared.op.Op.{Op}
use Rattle.icode_ops.specs.declared.op.Op.TheVariants.{Const, Clear, Argument, GetParameter, Call, CallNumber, Result}
use Rattle.icode_ops.specs.declared.op.Op.TheVariants.{Return, Sys, Run, New, Put}
use Rattle.icode_ops.specs.declared.kind.SysKind.TheVariants.{PutInteger}
use Rattle.icode_ops.specs.declared.kind.RunKind.{RunKind}
use Rattle.icode_ops.specs.declared.kind.RunKind.TheVariants.{Malloc, Begin, Parameter}
use Rattle.icode_ops.specs.declared.kind.RunKind.TheVariants as run
use Rattle.icode_ops.specs.declared.kind.ClosureKind.TheVariants as closure
use Rattle.history.specs.Syntax.{Syntax, Ticked, NoCapture, Word, Spliced}
use Rattle.word32.specs.declared.map.TheConstants.{ARENA, CLOSURE_BYTES, STACK_BYTES}
use Rattle.meaning_state.specs.Bodies.{Body}
use Rattle.meaning_state.specs.Shared.{Shared, Specification, Expression, Local, Param}
use Rattle.typed_tree.specs.declared.expression.CaptureKind.{CaptureKind}
use Rattle.typed_tree.specs.declared.expression.CaptureKind.TheVariants as kind
use Rattle.typed_tree.specs.declared.expression.CapturedWord.TheVariants as captured
use Rattle.typed_tree.specs.declared.expression.Answer.TheVariants as answer
use Rattle.staged_meaning.specs.Program.{OfExpression}
use Rattle.typed_tree.specs.Nodes as node
use Rattle.icode_meaning.specs.State.{Function, Program, State, Running, Stuck, see, least_at, most_at, log_of}
use Rattle.icode_meaning.specs.Steps.{advance, first}
use Rattle.icode_meaning.specs.Functions.{Published, program_of}

abbrev at_first : Shared
at_first = record {
  history = [];
  input = record { bytes = []; failing = false };
  objects = λ n. 7;
  heap = 272629760;
  used = 0;
  frames = 0;
  specifications = [];
  closures = 0;
  bodies = [];
}

abbrev function_of : (address : ℕ) → List Op → (object : ℕ) → Function
function_of address ops object =
    record { address = address; ops = ops; charge = 128; object = object; compiled = false }

-- a program of two functions: its second has one parameter, and answers it
abbrev identity : Function
identity = function_of 4198400 (GetParameter 0 0 ∷ Return 0 ∷ []) 0

-- two functions of the text, and no tick
abbrev plain_function : node.Function
plain_function = record { parameters = 0; object = 0; body = node.Return }

abbrev plain : Program
plain = record {
  function_at = λ address. None;
  row = λ number. None;
  source = record {
    main = plain_function;
    functions = plain_function ∷ plain_function ∷ [];
    ticks = [];
    image = [];
  };
  tick_at = λ address. None;
  kinds = λ tick. [];
  ops_of = λ syntax. [];
}

abbrev after : ℕ → List Op → (object : ℕ) → State
after steps ops object =
    let main = function_of 4198144 ops object in
    iterate
    (advance (program_of (record { function = main; parameters = 0 } ∷ record { function = identity; parameters = 1 } ∷
    []) plain))
    steps (first main at_first)

-- two words of the frame are set to 0: a step for the loop's setup, and one for each word
abbrev clearing : List Op
clearing = Clear 0 2 ∷ Const 0 5 ∷ Return 0 ∷ []

setup_costs_six : most_at (after 1 clearing 8) ≡ 7
setup_costs_six = refl

words_cost_four_each : most_at (after 3 clearing 8) ≡ 15
words_cost_four_each = refl

one_word_is_zero : (log_of (after 2 clearing 8)).shared.objects 70254592 ≡ 0
one_word_is_zero = refl

the_other_is_not_yet : (log_of (after 2 clearing 8)).shared.objects 70254593 ≡ 7
the_other_is_not_yet = refl

both_are_zero : (log_of (after 3 clearing 8)).shared.objects 70254593 ≡ 0
both_are_zero = refl

-- a call by its address, and by its number
abbrev calling : List Op
calling = Const 0 9 ∷ Argument 0 0 ∷ Call 4198400 ∷ Result 1 ∷ Return 1 ∷ []

call_answers : (see (after 7 calling 0)).ending ≡ Some (Ended (Done 9))
call_answers = refl

abbrev by_number : (number count : ℕ) → List Op
by_number number count = Const 0 number ∷ Argument 0 0 ∷ CallNumber 0 count ∷ Result 1 ∷ Return 1 ∷ []

call_by_number_answers : (see (after 7 (by_number 2 1) 0)).ending ≡ Some (Ended (Done 2))
call_by_number_answers = refl

no_such_number : (see (after 3 (by_number 3 1) 0)).ending ≡ Some (Ended (Trap BadCall))
no_such_number = refl

other_count : (see (after 3 (by_number 2 0) 0)).ending ≡ Some (Ended (Trap BadCall))
other_count = refl

-- a number is put out in decimal, as a signed one
minus_five_is_written : (see (after 2 (Const 0 4294967291 ∷ Sys PutInteger 1 0 ∷ []) 0)).history ≡ Out 45 ∷ outs
    (decimal 5)
minus_five_is_written = refl

-- a place of the heap, and none where it has no room
abbrev taking : (bytes : ℕ) → List Op
taking bytes = Const 0 bytes ∷ Run Malloc 1 0 ∷ Return 1 ∷ []

the_heap_moves_on : (log_of (after 2 (taking 5) 0)).shared.heap ≡ 272629768
the_heap_moves_on = refl

no_room : (see (after 3 (taking 8388609) 0)).ending ≡ Some (Ended (Done 0))
no_room = refl

-- ---- specifications

-- Two ticks, with a node each: one has a captured word, and one has what is spliced in. The functions that generate
-- their code stand at two addresses.
abbrev tick_at : (address : ℕ) → Option ℕ
tick_at address =
    if nat_eq address 4202496 then Some 0 else (if nat_eq address 4202560 then Some 1 else None)

abbrev kinds_of : (tick : ℕ) → List CaptureKind
kinds_of zero = kind.Dollar ∷ []
kinds_of (suc tick) = kind.Splice answer.Value ∷ []

abbrev ticking : Program
ticking = record plain {
  source = record {
    main = plain_function;
    functions = plain_function ∷ [];
    ticks = OfExpression (node.Captured captured.Dollar 0) ∷ OfExpression (node.Splice answer.Value 0) ∷ [];
    image = [];
  };
  tick_at = tick_at;
  kinds = kinds_of;
}

abbrev made_from : (steps : ℕ) → List Op → (closures : ℕ) → State
made_from steps ops closures =
    iterate (advance ticking) steps (first (function_of 4198144 ops 0) (record at_first { closures = closures }))

-- the first tick, of the word 9, and the second, of what came of the first
abbrev of_word : List Op
of_word = Const 0 9 ∷ Const 1 1 ∷ Run Begin 2 1 ∷ New 3 4202496 closure.Expression 1 ∷ Put 0 0 ∷ []

abbrev both_made : List Op
both_made =
    of_word ++ Const 4 1 ∷ Run Begin 5 4 ∷ Run run.Expression 6 3 ∷ New 7 4202560 closure.Expression 1 ∷ Put 0 3
    ∷ Return 7 ∷ []

abbrev rows : State → List Specification
rows s = (log_of s).shared.specifications

abbrev nine : Syntax
nine = Ticked 0 (Word 9 NoCapture)

no_row_before_the_last_word : rows (made_from 4 both_made 0) ≡ []
no_row_before_the_last_word = refl

one_row : rows (made_from 5 both_made 0) ≡ Expression nine ∷ []
one_row = refl

it_costs_little : most_at (made_from 5 both_made 0) ≡ 169
it_costs_little = refl

two_rows : rows (made_from 10 both_made 0) ≡ Expression nine ∷ Expression (Ticked 1 (Spliced nine NoCapture)) ∷ []
two_rows = refl

the_number_is_answered : (see (made_from 11 both_made 0)).ending ≡ Some (Ended (Done 2))
the_number_is_answered = refl

-- its two closures have twenty bytes each
bytes_are_counted : (log_of (made_from 10 both_made 0)).shared.closures ≡ 40
bytes_are_counted = refl

-- a number that is none, and one of another kind
abbrev checked_as : (number : ℕ) → RunKind → List Op
checked_as number routine = Const 0 number ∷ Const 1 1 ∷ Run Begin 2 1 ∷ Run routine 3 0 ∷ []

no_such_specification : (see (made_from 4 (checked_as 1 run.Expression) 0)).ending ≡ Some (Ended (Trap BadSpec))
no_such_specification = refl

no_statement : (see (made_from 9 (of_word ++ checked_as 1 run.Statement) 0)).ending ≡ Some (Ended (Trap BadSpec))
no_statement = refl

-- a sum of sizes that is too large stands before the bytes of closures
abbrev of_size : (size : ℕ) → List Op
of_size size = Const 0 9 ∷ Const 1 size ∷ Run Begin 2 1 ∷ New 3 4202496 closure.Expression 1 ∷ Put 0 0 ∷ []

too_large : (see (made_from 4 (of_size 16385) CLOSURE_BYTES)).ending ≡ Some (Ended (Trap SizeLimit))
too_large = refl

no_bytes_left : (see (made_from 4 (of_size 1) (CLOSURE_BYTES - 19))).ending ≡ Some (Ended (Trap SpecLimit))
no_bytes_left = refl

just_enough : rows (made_from 5 (of_size 1) (CLOSURE_BYTES - 20)) ≡ Expression nine ∷ []
just_enough = refl

-- what was summed must be what is put, and no other op stands between
abbrev is_stuck : State → Bool
is_stuck (Stuck log) = true
is_stuck s = false

other_size : is_stuck (made_from 5 (of_size 2) 0) ≡ true
other_size = refl

other_op : is_stuck (made_from 4 (Const 0 9 ∷ Const 1 1 ∷ Run Begin 2 1 ∷ Const 3 4 ∷ []) 0) ≡ true
other_op = refl

-- variables of generated code: a local one, a parameter, and an index that is none
abbrev variables : (index : ℕ) → List Op
variables index = Const 0 index ∷ Run run.Local 1 0 ∷ Run Parameter 2 0 ∷ Return 2 ∷ []

variables_have_rows : rows (made_from 3 (variables 7) 0) ≡ Local ∷ Param 7 ∷ []
variables_have_rows = refl

no_such_parameter : (see (made_from 3 (variables 8) 0)).ending ≡ Some (Ended (Trap BadParam))
no_such_parameter = refl

-- ---- calls of functions that were compiled: this one answers 7, and stands from the sixth word of the arena on

abbrev called_in : (steps : ℕ) → List Op → Body → (used : ℕ) → State
called_in steps ops body used =
    iterate (advance (record ticking { ops_of = λ syntax. Const 0 7 ∷ Return 0 ∷ [] })) steps
    (first (function_of 4198144 ops 0) (record at_first { bodies = body ∷ []; used = used }))

abbrev seventh : (live : Bool) → Body
seventh live = record { syntax = nine; first = 5; count = 256; live = live }

-- behind the one function of the text it has the number 2
abbrev calling_it : List Op
calling_it = Const 0 2 ∷ CallNumber 0 0 ∷ Result 1 ∷ Return 1 ∷ []

abbrev standing : State → ℕ
standing (Running frame arguments answer waiting log) = frame.function.address
standing s = 0

it_answers : (see (called_in 6 calling_it (seventh true) 0)).ending ≡ Some (Ended (Done 7))
it_answers = refl

its_entry_is_told : (see (called_in 6 calling_it (seventh true) 0)).history ≡ Entered 2 ∷ []
its_entry_is_told = refl

it_stands_there : standing (called_in 2 calling_it (seventh true) 0) ≡ ARENA + 20
it_stands_there = refl

-- one that was freed, and a call of another count of arguments, are no calls
freed_is_none : see (called_in 2 calling_it (seventh false) 0) ≡ record
    { history = []; ending = Some (Ended (Trap BadCall)) }
freed_is_none = refl

it_has_no_parameter : see (called_in 3 (Const 0 2 ∷ Argument 0 0 ∷ CallNumber 0 1 ∷ []) (seventh true) 0)
    ≡ record { history = []; ending = Some (Ended (Trap BadCall)) }
it_has_no_parameter = refl

-- the entry stands before the limits
entered_and_over : see (called_in 2 calling_it (seventh true) (STACK_BYTES - 128))
    ≡ record { history = Entered 2 ∷ []; ending = Some (Ended (Trap StackLimit)) }
entered_and_over = refl
