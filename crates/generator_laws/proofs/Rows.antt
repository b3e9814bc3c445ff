-- The function of a tick with an op, a captured word, a captured variable and nothing, run at the beginning of the text
-- up to each service that it calls, computed.
use Rattle.std.proofs.Common.{◌≡◌, ℕ, ◌+◌, List, [], ◌∷◌, map, false, refl}
use Rattle.std.specs.Fn.{iterate}
use Rattle.word32.specs.Space.{update}
use Rattle.word32.specs.declared.map.TheConstants.{TEXT, CLOSURES, SPEC_ROWS, GLOBAL_POINTER, EMIT_STACK}
use Rattle.mips_encoder.specs.Table.{word_of}
use Rattle.mips_model.specs.State.{Data, State}
use Rattle.mips_model.specs.Steps.{going, step}
use Rattle.mips_model.specs.Laws.{at}
use Rattle.mips_model.specs.Run.{first_outside}
use Rattle.mips_model.proofs.Loaded.{loaded}
use Rattle.icode_ops.specs.declared.kind.BinKind.TheVariants.{Add}
use Rattle.icode_ir.specs.declared.build_op.BuildOp.TheVariants.{Enter, Bin}
use Rattle.icode_templates_proof.specs.Closures.{with_word}
use Rattle.tick_lower_spec.specs.declared.piece.Piece.{Piece}
use Rattle.tick_lower_spec.specs.declared.piece.Piece.TheVariants.{Plain, Captured, GetKey, Nothing}
use Rattle.routine_spec.specs.Generator.{generator_code}

abbrev pieces : List Piece
pieces = Plain (Enter 3 70000) ∷ Captured 0 ∷ GetKey 1 ∷ Nothing ∷ Plain (Bin Add) ∷ []

-- specification 1 is parameter 6, and 2 the tick's, which captured the word 305,419,896 and parameter 6
abbrev called : Data
called = record {
  registers = update 12 (CLOSURES + 16) (update 15 EMIT_STACK (update 28 GLOBAL_POINTER (update 31 4198400 (λ r. 0))));
  hi = 0;
  lo = 0;
  objects = λ n. 0;
  closures = with_word CLOSURES 6 (with_word (CLOSURES + 4) 4 (with_word (CLOSURES + 12) 7
      (with_word (CLOSURES + 16) TEXT (with_word (CLOSURES + 20) 1 (with_word (CLOSURES + 32) 305419896
      (with_word (CLOSURES + 36) 1 (λ n. 0)))))));
  spec_rows = with_word SPEC_ROWS CLOSURES (with_word (SPEC_ROWS + 4) (CLOSURES + 16) (λ n. 0));
  cells = λ n. 0;
  emit_stack = λ n. 0;
  stack = λ n. 0;
  table = λ n. (0, 0);
  outside = first_outside (record { bytes = []; failing = false }) [];
}

-- so many instructions from a state, and the state behind a service that answered 0
abbrev ran : ℕ → State → State
ran count s = (iterate step count (going s)).state

abbrev answered : State → State
answered s = at s.code (s.pc + 4) 0 (record s.d { registers = update 2 0 s.d.registers })

-- the service, its arguments, and how far the function came
abbrev asked : State → List ℕ
asked s = s.d.registers 2 ∷ s.d.registers 4 ∷ s.d.registers 5 ∷ s.d.registers 6 ∷ s.pc ∷ []

abbrev first : State
first = ran 9 (at (loaded (map word_of (generator_code pieces))) TEXT 0 called)

abbrev second : State
second = ran 5 (answered first)

abbrev third : State
third = ran 12 (answered second)

abbrev fourth : State
fourth = ran 7 (answered third)

abbrev last : State
last = ran 4 (answered fourth)

of_enter : asked first ≡ (65 ∷ 4 ∷ 3 ∷ 70000 ∷ (TEXT + 36) ∷ [])
of_enter = refl

of_a_word : asked second ≡ (65 ∷ 1 ∷ 305419896 ∷ 70000 ∷ (TEXT + 60) ∷ [])
of_a_word = refl

of_a_variable : asked third ≡ (65 ∷ 21 ∷ 6 ∷ 70000 ∷ (TEXT + 112) ∷ [])
of_a_variable = refl

of_a_sum : asked fourth ≡ (65 ∷ 2 ∷ 1 ∷ 0 ∷ (TEXT + 144) ∷ [])
of_a_sum = refl

-- back, with the closure's address, the emit stack's top and the address to return to as they were
of_the_return : (last.pc ∷ last.d.registers 12 ∷ last.d.registers 15 ∷ last.d.registers 31 ∷ [])
    ≡ (4198400 ∷ (CLOSURES + 16) ∷ EMIT_STACK ∷ 4198400 ∷ [])
of_the_return = refl
