-- The routine that compiles, run at the beginning of the text up to its first service, computed: at each limit and one
-- beside it.
use Rattle.std.proofs.Common.{◌≡◌, ℕ, ◌+◌, List, [], ◌∷◌, map, false, Option, Some, refl}
use Rattle.std.specs.Fn.{iterate}
use Rattle.word32.specs.Space.{update}
use Rattle.word32.specs.declared.map.TheConstants.{TEXT, CLOSURES, SPEC_ROWS, GLOBAL_POINTER, SPEC_COUNT_CELL}
use Rattle.word32.specs.declared.map.TheConstants.{NEXT_FUNCTION_CELL, NEXT_ARENA_CELL, EMIT_STACK}
use Rattle.host_edge.specs.declared.ending.Ending.TheVariants.{Trap}
use Rattle.host_edge.specs.declared.ending.TrapKind.TheVariants.{BadSpec, TableLimit, ArenaLimit}
use Rattle.history.specs.Events.{End, Ended}
use Rattle.mips_encoder.specs.Table.{word_of}
use Rattle.mips_model.specs.State.{Data, World}
use Rattle.mips_model.specs.Steps.{going, step}
use Rattle.mips_model.specs.Laws.{at}
use Rattle.mips_model.specs.Run.{first_outside}
use Rattle.mips_model.proofs.Loaded.{loaded}
use Rattle.icode_templates_proof.specs.Closures.{with_word, word_at}
use Rattle.routine_spec.specs.Compile.{compile_code}

-- called with a number, to return to 4,198,400, with two specifications, this next function and this next address;
-- specification 1 is an expression's of size 5 with 2 parameters, whose function stands at 4,198,656, and 2 is
-- parameter 6
abbrev called : (number function next : ℕ) → Data
called number function next = record {
  registers = update 4 number (update 28 GLOBAL_POINTER (update 31 4198400 (λ r. 0)));
  hi = 0;
  lo = 0;
  objects = λ n. 0;
  closures = with_word CLOSURES 4198656 (with_word (CLOSURES + 4) 1 (with_word (CLOSURES + 8) 5
      (with_word (CLOSURES + 12) 2 (with_word (CLOSURES + 24) 6 (with_word (CLOSURES + 28) 4
      (with_word (CLOSURES + 36) 7 (λ n. 0)))))));
  spec_rows = with_word SPEC_ROWS CLOSURES (with_word (SPEC_ROWS + 4) (CLOSURES + 24) (λ n. 0));
  cells = with_word SPEC_COUNT_CELL 2 (with_word NEXT_FUNCTION_CELL function (with_word NEXT_ARENA_CELL next
      (λ n. 0)));
  emit_stack = λ n. 0;
  stack = λ n. 0;
  table = λ n. (0, 0);
  outside = first_outside (record { bytes = []; failing = false }) [];
}

abbrev ran : (count number function next : ℕ) → World
ran count number function next =
    iterate step count (going (at (loaded (map word_of compile_code)) TEXT 0 (called number function next)))

abbrev ended_as : World → Option End
ended_as w = w.ending

-- where it came to, the service and its argument, the closure, the function that is called next, and the emit stack
abbrev seen : World → List ℕ
seen w =
    let d = w.state.d in
    w.state.pc ∷ d.registers 2 ∷ d.registers 4 ∷ d.registers 12 ∷ d.registers 25 ∷ word_at d.emit_stack EMIT_STACK
    ∷ word_at d.emit_stack (EMIT_STACK + 4) ∷ []

-- the service that begins a function of two parameters is called with the charge of size 5 on the emit stack
abbrev at_begin : List ℕ
at_begin = (TEXT + 120) ∷ 64 ∷ 2 ∷ CLOSURES ∷ 4198656 ∷ 4198400 ∷ 4096 ∷ []

of_an_expression : seen (ran 30 1 7 67108864) ≡ at_begin
of_an_expression = refl

of_no_number : ended_as (ran 6 0 7 67108864) ≡ Some (Ended (Trap BadSpec))
of_no_number = refl

of_no_row : ended_as (ran 6 3 7 67108864) ≡ Some (Ended (Trap BadSpec))
of_no_row = refl

of_the_largest : ended_as (ran 6 4294967295 7 67108864) ≡ Some (Ended (Trap BadSpec))
of_the_largest = refl

of_a_variable : ended_as (ran 15 2 7 67108864) ≡ Some (Ended (Trap BadSpec))
of_a_variable = refl

-- the last row of the function table, and one behind it
of_the_last_row : seen (ran 30 1 65535 67108864) ≡ at_begin
of_the_last_row = refl

behind_the_last_row : ended_as (ran 17 1 65536 67108864) ≡ Some (Ended (Trap TableLimit))
behind_the_last_row = refl

-- the last place of the arena with room for the charge, and a word behind it
of_the_last_place : seen (ran 30 1 7 100659200) ≡ at_begin
of_the_last_place = refl

behind_the_last_place : ended_as (ran 26 1 7 100659204) ≡ Some (Ended (Trap ArenaLimit))
behind_the_last_place = refl

-- of several limits the first
of_all : ended_as (ran 15 2 65536 100663296) ≡ Some (Ended (Trap BadSpec))
of_all = refl

of_two : ended_as (ran 17 1 65536 100663296) ≡ Some (Ended (Trap TableLimit))
of_two = refl
