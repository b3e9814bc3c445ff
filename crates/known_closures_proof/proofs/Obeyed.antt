-- The services obey each call of a compile.
use Rattle.std.proofs.Common.{◌≡◌, ℕ, suc, ◌+◌, ◌*◌, ◌%◌, ◌<◌, ◌≤◌, Bool, true, false, List, [], ◌∷◌, ◌++◌, length}
use Rattle.std.proofs.Common.{Some, None, refl, sym, ap, subst, arith, nat_eq, nat_le, nat_lt}
use Rattle.std.proofs.Common.{if◌then◌else◌}
use Rattle.std.proofs.lemmas.Bool.Decides.{nat_tests}
use Rattle.word32.specs.declared.map.TheConstants.{TEXT, ARENA, ARENA_BYTES, ARENA_WORDS, FUNCTION_ROWS}
use Rattle.limits.specs.declared.program.TheConstants.{MOST_ARGUMENTS}
use Rattle.host_edge.specs.declared.ending.TrapKind.{TrapKind}
use Rattle.host_edge.specs.declared.ending.TrapKind.TheVariants.{TableLimit}
use Rattle.history.specs.Syntax.{Syntax, Ticked, Captures, NoCapture, Word, Named, Spliced}
use Rattle.mips_model.specs.State.{Outside}
use Rattle.mips_model.specs.Services.{next_choice}
use Rattle.meaning_state.specs.Rows.{parameters_of, parameters_in, key_parameters, arena_words, table_trap}
use Rattle.staged_meaning.specs.Program.{syntax_size}
use Rattle.icode_ir.specs.declared.build_op.BuildOp.{BuildOp}
use Rattle.icode_ir.specs.Build.{Build, empty}
use Rattle.mips_model.specs.Choices.{Choice}
use Rattle.mips_model.specs.CodeServices.{begin_refusal, finish_refusal, is_arena_range, is_entry, words_of}
use Rattle.tick_lower_spec.specs.Specifications.{specification_ops}
use Rattle.generator_laws.specs.Calls.{Call, Begin, Emit, issuing, outside_behind}
use Rattle.generator_laws.specs.Laws.{AreTaken, built_of}
use Rattle.generator_laws.specs.Pieces.{syntax_ops}
use Rattle.generator_laws.specs.Served.{AreObeyed, outside_after}
use Rattle.generator_laws.proofs.Makings.{ops_obeyed, ops_built}
use Rattle.compile_routine.specs.Places.{place_address}
use Rattle.compile_routine.specs.Laws.{return_ops, frame_bytes}
use Rattle.generator_spec.proofs.Lowered.{lowered}
use Rattle.generator_spec.specs.FittingLaws.{ticks_of, program_pieces}
use Rattle.known_closures_proof.specs.Laws.{CompilesAreObeyed}
use Rattle.known_closures_proof.proofs.Rows.{known_taken, known_finished, known_words}

obeyed_both : (xs ys : List Call) (o : Outside) → AreObeyed xs o → AreObeyed ys (outside_after xs o)
    → AreObeyed (xs ++ ys) o
obeyed_both [] ys o p q = q
obeyed_both (x ∷ xs) ys o p q = (p.0, obeyed_both xs ys (outside_behind x o) p.1 q)

-- an op that is issued spends no choice
row_kept : (ops : List BuildOp) (o : Outside) → (outside_after (issuing ops) o).making.row ≡ o.making.row
row_kept [] o = refl
row_kept (op ∷ ops) o = row_kept ops (outside_behind (Emit op) o)

-- no code names more parameters than there may be
key_low : (key : ℕ) → key_parameters key ≤ MOST_ARGUMENTS
key_low key = by (nat_lt key MOST_ARGUMENTS) refl
  where
    by : (b : Bool) → nat_lt key MOST_ARGUMENTS ≡ b → (if b then suc key else 0) ≤ MOST_ARGUMENTS
    by true e = let low : key < MOST_ARGUMENTS = grind (arith, nat_tests) in omega (arith, low)
    by false e = omega arith

mutual
  parameters_low : (syntax : Syntax) → parameters_of syntax ≤ MOST_ARGUMENTS
  parameters_low (Ticked tick captures) = captures_low captures

  captures_low : (captures : Captures) → parameters_in captures ≤ MOST_ARGUMENTS
  captures_low NoCapture = omega arith
  captures_low (Word word captures) = captures_low captures
  captures_low (Named key captures) = omega (arith, key_low key, captures_low captures)
  captures_low (Spliced syntax captures) = omega (arith, parameters_low syntax, captures_low captures)

trapless : (k : TrapKind) (b : Bool) → (if b then None else Some k) ≡ None → b ≡ true
trapless k true e = refl
trapless k false e = absurd cc

module _ (place size : ℕ) (room : place + arena_words size ≤ ARENA_WORDS) where
  -- so many words are in the arena
  range : (count : ℕ) → count ≤ arena_words size → is_arena_range (place_address place) count ≡ true
  range count few =
      let there = room in
      let at : ℕ = place_address place in
      let even : nat_eq (at % 4) 0 ≡ true = grind (arith, nat_tests) in
      let above : nat_le ARENA at ≡ true = grind (arith, nat_tests) in
      let below : nat_lt at (ARENA + ARENA_BYTES) ≡ true = grind (arith, nat_tests) in
      let ends : nat_le (at + 4 * count) (ARENA + ARENA_BYTES) ≡ true = grind (arith, nat_tests) in
      rw (even, above, below, ends) refl

  -- and the function's row is one of the table
  entry : (function parameters : ℕ) → 0 < function → table_trap function ≡ None → parameters ≤ MOST_ARGUMENTS
      → is_entry function (place_address place) parameters ≡ true
  entry function parameters some last few =
      let there = room in
      let at : ℕ = place_address place in
      let first : nat_lt 0 function ≡ true = grind (arith, nat_tests) in
      let before : nat_lt function FUNCTION_ROWS ≡ true = trapless TableLimit _ last in
      let even : nat_eq (at % 4) 0 ≡ true = grind (arith, nat_tests) in
      let above : nat_le TEXT at ≡ true = grind (arith, nat_tests) in
      let below : nat_lt at (ARENA + ARENA_BYTES) ≡ true = grind (arith, nat_tests) in
      let count : nat_le parameters MOST_ARGUMENTS ≡ true = grind (arith, nat_tests) in
      rw (first, before, even, above, below, count) refl

pub compiles_obeyed : CompilesAreObeyed
compiles_obeyed p accepted addresses text shared value syntax number function place d o ticks known memory of room some
    last idle =
    let size : ℕ = syntax_size text.program syntax in
    let parameters : ℕ = parameters_of syntax in
    let address : ℕ = place_address place in
    let made : List BuildOp = syntax_ops (program_pieces addresses p) syntax in
    let ops : List BuildOp = made ++ return_ops value in
    let same : specification_ops addresses (ticks_of p) syntax ≡ made =
    sym (lowered addresses (ticks_of p) syntax) in
    let low : parameters ≤ MOST_ARGUMENTS = parameters_low syntax in
    let taken : AreTaken ops (empty parameters) =
    subst (λ z. AreTaken (z ++ return_ops value) (empty parameters)) same
    (known_taken p accepted addresses text shared value syntax number parameters d ticks known memory of
    (omega arith)).taken in
    let choice : Choice = next_choice o.making.row in
    let words : List ℕ = words_of (built_of ops (empty parameters)) choice address (frame_bytes size) in
    let few : length words ≤ arena_words size =
    subst (λ z. length (words_of (built_of (z ++ return_ops value) (empty parameters)) choice address
    (frame_bytes size))
    ≤ arena_words size) same
    (known_words p accepted addresses text shared value syntax number parameters d choice address
    (frame_bytes size)
    ticks known memory of (omega arith)) in
    let free : begin_refusal parameters o.making.generator ≡ None =
    let fits : nat_lt MOST_ARGUMENTS parameters ≡ false = grind (arith, nat_tests) in rw (idle, fits) refl in
    let begun : Outside = outside_behind (Begin parameters) o in
    let issued : Outside = outside_after (issuing ops) begun in
    let there = ops_built ops begun (empty parameters) refl in
    let kept : issued.making.row ≡ o.making.row = row_kept ops begun in
    let after : Build = built_of ops (empty parameters) in
    let fine : finish_refusal after address (arena_words size) (frame_bytes size) ≡ None =
    subst (λ z. finish_refusal (built_of (z ++ return_ops value) (empty parameters)) address (arena_words size)
    (frame_bytes size) ≡ None) same
    (known_finished p accepted addresses text shared value syntax number parameters place d ticks known memory of
    (omega arith) room) in
    let exact : words ≡ words_of after (next_choice issued.making.row) address (frame_bytes size) =
    ap (λ r. words_of after (next_choice r) address (frame_bytes size)) (sym kept) in (
      (free, refl),
      obeyed_both (issuing ops) _ begun (ops_obeyed ops begun (empty parameters) refl taken) (
        (record { builder = after; there = there }, fine, exact, few, refl),
        (
          (range place size room (length words) few, refl),
          (
            (
              entry place size room function parameters some last
                  low,
              refl,
            ),
            tt,
          ),
        ),
      ),
    )
