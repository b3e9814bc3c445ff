-- The routines that make specifications, run at the beginning of the text, computed: at each limit and one beside it.
use Rattle.std.proofs.Common.{◌≡◌, ℕ, ◌+◌, List, [], ◌∷◌, map, false, Option, Some, refl}
use Rattle.std.specs.Fn.{iterate}
use Rattle.limits.specs.declared.program.TheConstants.{SIZE_LIMIT}
use Rattle.word32.specs.Space.{update}
use Rattle.word32.specs.declared.map.TheConstants.{TEXT, CLOSURES, SPEC_ROWS, GLOBAL_POINTER, NEXT_CLOSURE_CELL}
use Rattle.word32.specs.declared.map.TheConstants.{SPEC_COUNT_CELL, SIZE_CELL, PARAMETERS_CELL, CLOSURE_CELL}
use Rattle.host_edge.specs.declared.ending.Ending.TheVariants.{Trap}
use Rattle.host_edge.specs.declared.ending.TrapKind.TheVariants.{BadSpec, BadParam, SizeLimit, SpecLimit}
use Rattle.history.specs.Events.{End, Ended}
use Rattle.mips_encoder.specs.Table.{word_of}
use Rattle.mips_encoder.specs.declared.instruction.Instr.{Instr}
use Rattle.mips_model.specs.State.{Data, World}
use Rattle.mips_model.specs.Steps.{going, step}
use Rattle.mips_model.specs.Laws.{at}
use Rattle.mips_model.specs.Run.{first_outside}
use Rattle.mips_model.proofs.Loaded.{loaded}
use Rattle.icode_templates_proof.specs.Closures.{Head, Closure, with_word, word_at, closure_at, closure_of, row_count}
use Rattle.icode_templates_proof.specs.Closures.{next_closure, size_so_far, parameters_so_far}
use Rattle.icode_templates_proof.specs.Routines.{new_code, local_code, parameter_code, begin_code, check_code}
use Rattle.icode_templates_proof.specs.Routines.{AnExpression}
use Rattle.icode_templates_proof.specs.Routines.{AStatement, AVariable}

-- called with these arguments, to return to 4,198,400, with so many specifications, this next closure, and this size
-- and these parameters so far; specification 1 is an expression's of size 5 with 2 parameters, and 2 is parameter 6
abbrev called : (a0 a1 a2 count next size parameters : ℕ) → Data
called a0 a1 a2 count next size parameters = record {
  registers = update 4 a0 (update 5 a1 (update 6 a2 (update 28 GLOBAL_POINTER (update 31 4198400 (λ r. 0)))));
  hi = 0;
  lo = 0;
  objects = λ n. 0;
  closures = with_word CLOSURES 4198656 (with_word (CLOSURES + 4) 1 (with_word (CLOSURES + 8) 5
      (with_word (CLOSURES + 12) 2 (with_word (CLOSURES + 24) 6 (with_word (CLOSURES + 28) 4
      (with_word (CLOSURES + 36) 7 (with_word (CLOSURES + 56) 77 (λ n. 0))))))));
  spec_rows = with_word SPEC_ROWS CLOSURES (with_word (SPEC_ROWS + 4) (CLOSURES + 24) (λ n. 0));
  cells = with_word SPEC_COUNT_CELL count (with_word NEXT_CLOSURE_CELL next (with_word SIZE_CELL size
      (with_word PARAMETERS_CELL parameters (λ n. 0))));
  emit_stack = λ n. 0;
  stack = λ n. 0;
  table = λ n. (0, 0);
  outside = first_outside (record { bytes = []; failing = false }) [];
}

abbrev ran : ℕ → List Instr → Data → World
ran count code d = iterate step count (going (at (loaded (map word_of code)) TEXT 0 d))

-- the answer, where it came to, the cells, and the closure of specification 3 with a word behind its first four, which
-- is as it was before
pub record Made : Type 0 where
  pub answer : ℕ
  pub place : ℕ
  pub rows : ℕ
  pub next : ℕ
  pub newest : ℕ
  pub closure : Closure

abbrev made : World → Made
made w = let d = w.state.d in record {
  answer = d.registers 2;
  place = w.state.pc;
  rows = row_count d;
  next = next_closure d;
  newest = word_at d.cells CLOSURE_CELL;
  closure = closure_at d.closures (closure_of d 3) 1;
}

abbrev third : ℕ → Head → (captured : ℕ) → Made
third bytes head captured = record {
  answer = 3;
  place = 4198400;
  rows = 3;
  next = CLOSURES + 40 + bytes;
  newest = CLOSURES + 40;
  closure = record { head = head; captured = captured ∷ [] };
}

abbrev ended_as : World → Option End
ended_as w = w.ending

-- ---- a tick's specification

abbrev tick : (count captures next size : ℕ) → World
tick count captures next size = ran count new_code (called 4199000 2 captures 2 next size 3)

of_a_tick : made (tick 30 1 (CLOSURES + 40) SIZE_LIMIT) ≡
    third 20 (record { first = 4199000; kind = 2; size = SIZE_LIMIT; parameters = 3 }) 77
of_a_tick = refl

of_no_capture : made (tick 30 0 (CLOSURES + 40) 1) ≡
    third 16 (record { first = 4199000; kind = 2; size = 1; parameters = 3 }) 77
of_no_capture = refl

too_large : ended_as (tick 7 1 (CLOSURES + 40) 16385) ≡ Some (Ended (Trap SizeLimit))
too_large = refl

-- the last closure that there is room for, and one with a word more
of_the_last : next_closure (tick 30 2 541065192 5).state.d ≡ 541065216
of_the_last = refl

no_room : ended_as (tick 15 3 541065192 5) ≡ Some (Ended (Trap SpecLimit))
no_room = refl

none_left : ended_as (tick 15 0 541065216 5) ≡ Some (Ended (Trap SpecLimit))
none_left = refl

-- both limits: the size comes first
both : ended_as (tick 7 3 541065192 16385) ≡ Some (Ended (Trap SizeLimit))
both = refl

-- ---- variables

of_a_local : made (ran 30 local_code (called 9 9 9 2 (CLOSURES + 40) 7 7)) ≡
    third 16 (record { first = 10; kind = 3; size = 0; parameters = 0 }) 77
of_a_local = refl

no_local : ended_as (ran 15 local_code (called 9 9 9 2 541065204 7 7)) ≡ Some (Ended (Trap SpecLimit))
no_local = refl

abbrev parameter : (count index next : ℕ) → World
parameter count index next = ran count parameter_code (called index 9 9 2 next 7 7)

of_the_first : made (parameter 31 0 (CLOSURES + 40)) ≡
    third 16 (record { first = 0; kind = 4; size = 0; parameters = 1 }) 77
of_the_first = refl

of_the_eighth : made (parameter 31 7 (CLOSURES + 40)) ≡
    third 16 (record { first = 7; kind = 4; size = 0; parameters = 8 }) 77
of_the_eighth = refl

no_ninth : ended_as (parameter 4 8 (CLOSURES + 40)) ≡ Some (Ended (Trap BadParam))
no_ninth = refl

-- the index is unsigned, and comes before the room
no_negative : ended_as (parameter 4 4294967295 541065216) ≡ Some (Ended (Trap BadParam))
no_negative = refl

no_parameter : ended_as (parameter 16 7 541065216) ≡ Some (Ended (Trap SpecLimit))
no_parameter = refl

-- ---- the size and the parameters so far

abbrev so_far : World → List ℕ
so_far w =
    w.state.d.registers 2 ∷ w.state.pc ∷ size_so_far w.state.d ∷ parameters_so_far w.state.d ∷ []

of_begin : so_far (ran 5 begin_code (called 12 9 9 2 (CLOSURES + 40) 7 7)) ≡ 0 ∷ 4198400 ∷ 12 ∷ 0 ∷ []
of_begin = refl

abbrev expression : (count number parameters : ℕ) → World
expression count number parameters =
    ran count (check_code AnExpression) (called number 9 9 2 (CLOSURES + 40) 7 parameters)

of_more_parameters : so_far (expression 29 1 1) ≡ 0 ∷ 4198400 ∷ 12 ∷ 2 ∷ []
of_more_parameters = refl

of_as_many : so_far (expression 28 1 2) ≡ 0 ∷ 4198400 ∷ 12 ∷ 2 ∷ []
of_as_many = refl

of_fewer : so_far (expression 28 1 8) ≡ 0 ∷ 4198400 ∷ 12 ∷ 8 ∷ []
of_fewer = refl

of_a_variable : so_far (ran 29 (check_code AVariable) (called 2 9 9 2 (CLOSURES + 40) 7 0)) ≡
    0 ∷ 4198400 ∷ 7 ∷ 7 ∷ []
of_a_variable = refl

-- numbers that aren't live, and those of another kind
of_none : ended_as (expression 6 0 0) ≡ Some (Ended (Trap BadSpec))
of_none = refl

of_the_next : ended_as (expression 6 3 0) ≡ Some (Ended (Trap BadSpec))
of_the_next = refl

of_any : ended_as (expression 6 4294967295 0) ≡ Some (Ended (Trap BadSpec))
of_any = refl

of_a_parameter : ended_as (expression 16 2 0) ≡ Some (Ended (Trap BadSpec))
of_a_parameter = refl

no_statement : ended_as (ran 16 (check_code AStatement) (called 1 9 9 2 (CLOSURES + 40) 7 0)) ≡
    Some (Ended (Trap BadSpec))
no_statement = refl

no_variable : ended_as (ran 16 (check_code AVariable) (called 1 9 9 2 (CLOSURES + 40) 7 0)) ≡
    Some (Ended (Trap BadSpec))
no_variable = refl
