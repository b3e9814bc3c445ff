-- The function that a compile makes suits each legal choice of places, and stands where its words are.
use Rattle.std.proofs.Common.{◌≡◌, ℕ, suc, ◌+◌, ◌*◌, ◌<◌, ◌≤◌, Bool, true, false, List, [], ◌∷◌, length, Some, None}
use Rattle.std.proofs.Common.{refl, sym, ap, ◌∙◌, subst, arith, nat_lt, slice_index, Ok, if◌then◌else◌}
use Rattle.std.proofs.lemmas.Bool.Decides.{nat_tests}
use Rattle.word32.specs.declared.map.TheConstants.{ARENA, ARENA_WORDS, FUNCTION_ROWS}
use Rattle.host_edge.specs.declared.ending.TrapKind.TheVariants.{TableLimit}
use Rattle.history.specs.Syntax.{Syntax}
use Rattle.mips_encoder.specs.declared.instruction.Instr.{Instr}
use Rattle.mips_encoder.specs.Addresses.{past}
use Rattle.mips_model.specs.State.{Built, Code, Making}
use Rattle.mips_model.specs.Choices.{Choice}
use Rattle.mips_model.specs.Steps.{word_at}
use Rattle.icode_ops.specs.declared.op.Op.{Op}
use Rattle.icode_ops.specs.Flow.{op_at}
use Rattle.icode_ops.specs.Finished.{InRange}
use Rattle.icode_ops.specs.Places.{IsLegal}
use Rattle.icode_ir.specs.Build.{finished}
use Rattle.icode_templates.specs.Words.{words}
use Rattle.icode_templates.specs.Expansion.{expanded}
use Rattle.icode_expand.proofs.Lengths.{past_is}
use Rattle.meaning_state.specs.Bodies.{Body, new_body, place_for}
use Rattle.meaning_state.specs.Shared.{Shared}
use Rattle.meaning_state.specs.Rows.{arena_words, table_trap, next_function, next_place}
use Rattle.staged_meaning.specs.Program.{syntax_size}
use Rattle.icode_expand_proof.specs.Settings.{Setting}
use Rattle.icode_expand_proof.specs.Standing.{Suits, Stands, code_of}
use Rattle.icode_expand_proof.proofs.Fitting.{function_found}
use Rattle.closures_proof.specs.CapturedWords.{IsOfWords}
use Rattle.compile_routine.specs.Laws.{frame_bytes}
use Rattle.compile_routine.specs.Made.{FitsServices, function_built, builder_of, function_words, with_words, AreThere}
use Rattle.compile_routine.specs.Places.{place_address}
use Rattle.compile_routine.proofs.Grown.{words_there}
use Rattle.icode_run_proof.specs.Relation.{Base, IsCompilable, functions_of, body_address, function_of, is_idle}
use Rattle.icode_run_proof.proofs.Behind.{IsNew}

words_long : (is : List Instr) → length (words is) ≡ length is
words_long [] = refl
words_long (i ∷ is) = ap suc (words_long is)

module _ (b : Base) (value : Bool) (syntax : Syntax) (ok : IsCompilable b value syntax) (place : ℕ) (choice : Choice)
  where
    abbrev pub size : ℕ
    size = syntax_size b.program.source syntax

    abbrev pub x : Body
    x = new_body syntax place (arena_words size)

    abbrev pub built : Built
    built = function_built b.pieces value syntax

    abbrev ops : List Op
    ops = b.program.ops_of syntax

    abbrev pub made_words : List ℕ
    made_words = function_words built choice (place_address place) size

    -- they are those of the function's code
    words_are : made_words ≡ words (code_of (function_of b x) choice.places)
    words_are = ap (λ (l : List Op). expanded l choice.places (place_address place) (frame_bytes size) 0 true) (sym
        ok.ops)

    module _ (few : length made_words ≤ arena_words size) (room : place + arena_words size ≤ ARENA_WORDS) where
      abbrev is : List Instr
      is = code_of (function_of b x) choice.places

      within : past (body_address x) is ≤ ARENA + 4 * (x.first + x.count)
      within =
          let long = words_long is in
          let same : length made_words ≡ length (words is) = ap length words_are in
          let behind = past_is (body_address x) is in
          omega (arith, behind, long, same, few)

      module _ (m : Making) (idle : is_idle m)
          (legal : IsLegal (finished (builder_of built)) (builder_of built).registers choice.places) where
        suits : Suits (function_of b x) choice.places
        suits =
            let fit : FitsServices built size m = ok.fits m idle in
            let n : (builder_of built).registers ≡ length choice.places = sym legal.one_each in
            let registers = fit.registers in
            let small = ok.small in
            let low = within in
            record {
              in_range = λ p. subst (λ r. InRange r (op_at ops p)) n (ok.in_range p);
              legal = subst (λ (l : List Op). IsLegal l (length choice.places) choice.places) (sym ok.ops)
                  (subst (λ r. IsLegal (finished (builder_of built)) r choice.places) n legal);
              room = omega (arith, n, registers);
              whole = omega arith;
              small = omega (arith, small);
              few = omega arith;
              even = omega arith;
              low = omega (arith, low, room);
            }

        stands : (c : Code) → IsOfWords syntax
            → Stands (with_words (body_address x) made_words c) (function_of b x) choice.places
        stands c captured =
            let there = words_there place (arena_words size) made_words c few room in
            function_found (with_words (body_address x) made_words c) (function_of b x) choice.places suits
            (ok.served captured) (λ k l. each k l there)
          where
            each : (k : ℕ) → k < length (words is)
                → AreThere (place_address place) made_words c (with_words (place_address place) made_words c)
                → word_at (with_words (body_address x) made_words c) (body_address x + 4 * k)
                ≡ Ok (slice_index (words is) k)
            each k l there =
                there.each k (subst (λ (ws : List ℕ). k < length ws) (sym words_are) l)
                ∙ ap (λ (ws : List ℕ). Ok (slice_index ws k)) words_are

        pub is_new : (c : Code) (s : Setting) (shared : Shared) → shared.bodies ≡ s.made.bodies
            → next_place (arena_words size) shared ≡ Some place
            → table_trap (next_function (functions_of b) shared) ≡ None → IsOfWords syntax
            → IsNew b c s x choice.places made_words
        is_new c s shared same place_is table captured = record {
          live = refl;
          there = ap (λ (l : List Body). place_for (arena_words size) ARENA_WORDS l) (sym same) ∙ place_is;
          some = omega arith;
          few = few;
          row = row_fits (nat_lt (next_function (functions_of b) shared) FUNCTION_ROWS) refl table;
          stands = stands c captured;
          within = within;
          served = ok.served captured;
          plain = ok.plain;
        }
          where
            row_fits : (t : Bool) → nat_lt (next_function (functions_of b) shared) FUNCTION_ROWS ≡ t
                → (if t then None else Some TableLimit) ≡ None → suc (functions_of b + length s.made.bodies) <
                FUNCTION_ROWS
            row_fits false t e = absurd cc
            row_fits true t e =
                let low : next_function (functions_of b) shared < FUNCTION_ROWS = grind (arith, nat_tests, t) in
                let long : length shared.bodies ≡ length s.made.bodies = ap length same in
                omega (arith, low, long)
