-- The routine that compiles, on the machine itself.
use Rattle.std.proofs.Common.{◌≡◌, ◌≢◌, ◌⊎◌, inl, inr, ℕ, suc, ◌+◌, ◌*◌, ◌/◌, ◌%◌, ◌<◌, ◌≤◌, ◌==◌, Bool, true, false}
use Rattle.std.proofs.Common.{List, [], ◌++◌, subst, append_assoc}
use Rattle.std.proofs.Common.{◌∷◌, length, None, refl, sym, ap, ◌∙◌, arith, nat_lt, nat_le}
use Rattle.std.specs.Prelude.{slice_index, Ok}
use Rattle.std.proofs.lemmas.Bool.{cases_Bool}
use Rattle.std.proofs.lemmas.Bool.Decides.{nat_tests}
use Rattle.std.proofs.lemmas.List.{length-append}
use Rattle.limits.specs.declared.program.TheConstants.{SIZE_LIMIT}
use Rattle.word32.specs.declared.map.TheConstants.{ARENA, ARENA_BYTES, ARENA_WORDS}
use Rattle.word32.specs.declared.map.TheConstants.{NEXT_FUNCTION_CELL, NEXT_ARENA_CELL}
use Rattle.word32.specs.declared.map.TheConstants.{SPEC_COUNT_CELL, NEXT_CLOSURE_CELL}
use Rattle.history.specs.Syntax.{Syntax}
use Rattle.mips_model.specs.State.{Built, Code, Data, State}
use Rattle.mips_model.specs.Services.{next_choice}
use Rattle.mips_model.specs.Steps.{word_at as fetched_word}
use Rattle.mips_model.specs.Laws.{HasAt, at}
use Rattle.meaning_state.specs.Bodies.{Body, charged, new_body, AreSummed}
use Rattle.meaning_state.proofs.Held.{charged_more}
use Rattle.meaning_state.proofs.Sums.{summed_more}
use Rattle.meaning_state.specs.Shared.{Shared}
use Rattle.meaning_state.specs.Rows.{specification_at, parameters_of, arena_words, table_trap, arena_trap}
use Rattle.meaning_state.specs.Rows.{next_function, made}
use Rattle.staged_meaning.specs.Program.{syntax_size}
use Rattle.icode_templates_proof.proofs.Memory.{update_same, update_other}
use Rattle.mips_model.specs.CodeServices.{arena_word, written_from}
use Rattle.mips_model.specs.ServiceLaws.{Stand}
use Rattle.mips_model.proofs.Standing.{words-stand}
use Rattle.icode_templates_proof.specs.Closures.{word_at, with_word}
use Rattle.closures_proof.proofs.Kept.{closures_same}
use Rattle.closures_proof.specs.Relation.{Text, HasSpecifications}
use Rattle.closures_proof.proofs.Making.{few_of}
use Rattle.tick_lower_spec.specs.declared.piece.Piece.{Piece}
use Rattle.generator_laws.specs.Pieces.{IsWhole}
use Rattle.routine_spec.specs.Generator.{syntax_cost}
use Rattle.generator_laws.specs.Calls.{Call, Begin, Finish, Flush, Publish, code_behind, RunsWith, issuing}
use Rattle.generator_laws.specs.Served.{Makes}
use Rattle.generator_laws.specs.Laws.{HasGenerators}
use Rattle.generator_laws.proofs.Makings.{runs_made}
use Rattle.generator_laws.proofs.Runs.{runs_call, runs_on, runs_then}
use Rattle.generator_laws.proofs.Told.{calls_told}
use Rattle.generator_laws.proofs.Chosen.{choices_met}
use Rattle.routine_spec.specs.Compile.{compile_code}
use Rattle.compile_routine.proofs.Places.{made_behind}
use Rattle.compile_routine.specs.Laws.{HasArena, IsTickOf, arena_address, compile_calls, compile_cost, made_data}
use Rattle.compile_routine.specs.Laws.{Compiles}
use Rattle.compile_routine.specs.Laws.{frame_bytes}
use Rattle.compile_routine.specs.Made.{function_built, FitsServices, function_words, with_words, AreThere}
use Rattle.compile_routine.specs.Made.{MakesFunction, outside_with}
use Rattle.compile_routine.proofs.Compiled.{tick_there, in_table, in_arena, compile_answered, Split, compile_split}
use Rattle.compile_routine.proofs.Unspoiled.{compile_unspoiled}
use Rattle.compile_routine.proofs.Obeyed.{few_words, compile_obeyed, compile_leaves, compile_tells, front_obeyed}
use Rattle.compile_routine.proofs.Obeyed.{front_told}
use Rattle.compile_routine.proofs.Obeyed.{choice_met}

-- ---- the words in the arena

module _ (arena : ℕ) (words : List ℕ) (c : Code) (within : arena + length words ≤ ARENA_WORDS) where
  abbrev address : ℕ
  address = ARENA + 4 * arena

  abbrev after : Code
  after = with_words address words c

  first_word : arena_word address ≡ arena
  first_word = omega arith

  stand : Stand (arena_word address) words c.arena (written_from (arena_word address) words c.arena)
  stand = words-stand (arena_word address) words c.arena

  is_there : (k : ℕ) → k < length words → fetched_word after (address + 4 * k) ≡ Ok (slice_index words k)
  is_there k l =
      let x = address + 4 * k in
      let low : nat_lt x ARENA ≡ false = grind (arith, nat_tests) in
      let even : (x % 4 == 0) ≡ true = grind (arith, nat_tests) in
      let high : nat_lt x (ARENA + ARENA_BYTES) ≡ true = below x (omega (arith, l, within)) in
      let from : nat_le (arena_word address) (arena_word x) ≡ true = at_most (arena_word address) (arena_word x)
      (omega arith) in
      let to : nat_lt (arena_word x) (arena_word address + length words) ≡ true =
      below_of (arena_word x) (arena_word address + length words) (omega (arith, l)) in
      let number : arena_word address + k ≡ arena_word x = omega arith in
      let word = ap (written_from (arena_word address) words c.arena).words (sym number) ∙ stand.each k l in
      rw (low, even, high, from, to) (ap Ok word)
    where
      below : (x : ℕ) → x < ARENA + ARENA_BYTES → nat_lt x (ARENA + ARENA_BYTES) ≡ true
      below x l = grind (arith, nat_tests, l)

      below_of : (x y : ℕ) → x < y → nat_lt x y ≡ true
      below_of x y l = grind (arith, nat_tests, l)

      at_most : (x y : ℕ) → x ≤ y → nat_le x y ≡ true
      at_most x y l = grind (arith, nat_tests, l)

  stays : (k : ℕ) → (k < arena_word address) ⊎ (arena_word address + length words ≤ k) →
      (after.arena.words k ≡ c.arena.words k) × (after.arena.states k ≡ c.arena.states k)
  stays k (inl l) =
      let t : nat_le (arena_word address) k ≡ false = past (arena_word address) k l in
      let o = stand.others k (inl l) in
      (o.0, (rw t refl) ∙ o.1)
    where
      past : (x y : ℕ) → y < x → nat_le x y ≡ false
      past x y l = grind (arith, nat_tests, l)
  stays k (inr l) =
      let t : nat_lt k (arena_word address + length words) ≡ false = past k (arena_word address + length words) l in
      let o = stand.others k (inr l) in (
        o.0,
        elim (cases_Bool (nat_le (arena_word address) k)) [
          | inl a ↦ rw (a, t) o.1
          | inr a ↦ rw a o.1
        ],
      )
    where
      past : (x y : ℕ) → y ≤ x → nat_lt x y ≡ false
      past x y l = grind (arith, nat_tests, l)

  pub are_there : AreThere address words c after
  are_there = record { each = is_there; others = stays; text = refl }

-- ---- whole

module _ (text : Text) (pieces : ℕ → List Piece) (functions : ℕ) (c : Code) (entry : ℕ) (shared : Shared)
    (is_value : Bool) (syntax : Syntax) (d : Data) (low : entry + 256 ≤ ARENA) (has : HasGenerators text
    pieces (length text.program.ticks) c) (hs : HasSpecifications text shared d) (ha : HasArena functions shared d)
    (whole : IsWhole pieces (length text.program.ticks) syntax) (is : IsTickOf is_value syntax (specification_at
    (d.registers 4) shared)) (b : d.registers 4 < 4294967296) (table : table_trap (next_function functions shared) ≡
    None) (arena : arena_trap (syntax_size text.program syntax) shared ≡ None) (taken : FitsServices
    (function_built pieces is_value syntax) (syntax_size text.program syntax) d.outside.making)
    (h : HasAt c entry compile_code) where
  abbrev function : Built
  function = function_built pieces is_value syntax

  abbrev row : ℕ
  row = next_function functions shared

  abbrev size : ℕ
  size = syntax_size text.program syntax

  abbrev words : List ℕ
  words = function_words function (next_choice d.outside.making.row) (arena_address shared) size

  small : size ≤ SIZE_LIMIT
  small =
      (tick_there text shared d (d.registers 4) is_value syntax (specification_at (d.registers 4) shared) hs refl
      is).small

  within : charged shared.bodies + arena_words size ≤ ARENA_WORDS
  within = in_arena size shared ha.summed arena

  few : length words ≤ arena_words size
  few =
      few_words function (charged shared.bodies) row size d.outside taken (few_of syntax) small within (omega arith)
      (in_table row table)

  compiled : Compiles (compile_calls row (arena_address shared) (parameters_of syntax) size function.ops words) row
      (made_data row (arena_address shared) (parameters_of syntax) size d)
      (compile_cost is_value (syntax_cost pieces syntax)) c (with_words (arena_address shared) words c) entry d
  compiled =
      compile_answered text pieces functions c entry shared is_value syntax words d low has hs ha whole is b table
      arena few h

  ran : Makes (compile_calls row (arena_address shared) (parameters_of syntax) size function.ops words)
      (compile_cost is_value (syntax_cost pieces syntax)) (at c entry 0 d)
      (at (with_words (arena_address shared) words c) (d.registers 31) 0 compiled.after)
  ran =
      runs_made (compile_calls row (arena_address shared) (parameters_of syntax) size function.ops words)
      (compile_cost is_value (syntax_cost pieces syntax)) (at c entry 0 d)
      (at (with_words (arena_address shared) words c) (d.registers 31) 0 compiled.after) compiled.runs
      (compile_obeyed function (charged shared.bodies) row size d.outside taken (few_of syntax) small within
      (omega arith) (in_table row table))

  passes : compiled.after.outside ≡ outside_with (arena_address shared) function (length words) d.outside
  passes =
      ran.passed
      ∙ compile_leaves function (charged shared.bodies) row size d.outside taken (few_of syntax) small within
      (omega arith) (in_table row table)

  -- cells of the data behind
  abbrev cells : ℕ → ℕ
  cells = with_word NEXT_FUNCTION_CELL (suc row) (with_word NEXT_ARENA_CELL (arena_address shared
      + 4 * arena_words size) d.cells)

  cells_are : compiled.after.cells ≡ cells
  cells_are = ap (λ (x : Data). x.cells) compiled.rest

  same_cell : (cell : ℕ) → cell / 4 ≢ NEXT_FUNCTION_CELL / 4 → cell / 4 ≢ NEXT_ARENA_CELL / 4 →
      word_at compiled.after.cells cell ≡ word_at d.cells cell
  same_cell cell n m =
      let f1 = with_word NEXT_ARENA_CELL (arena_address shared + 4 * arena_words size) d.cells in
      ap (λ (f : ℕ → ℕ). word_at f cell) cells_are
      ∙ update_other (NEXT_FUNCTION_CELL / 4) (suc row) f1 (cell / 4) n
      ∙ update_other (NEXT_ARENA_CELL / 4) (arena_address shared + 4 * arena_words size) d.cells (cell / 4) m

  specifications : HasSpecifications text (made row syntax size shared) compiled.after
  specifications = record {
    closures = hs.closures;
    memory = closures_same hs.closures d compiled.after
        (compiled.registers 28 (inr (inr (omega arith, omega arith))))
        (ap (λ (x : Data). x.closures) compiled.rest) (ap (λ (x : Data). x.spec_rows) compiled.rest)
        (same_cell SPEC_COUNT_CELL (omega arith) (omega arith))
        (same_cell NEXT_CLOSURE_CELL (omega arith) (omega arith)) hs.memory;
    stand_for = hs.stand_for;
    bytes = hs.bytes;
  }

  abbrev body : Body
  body = new_body syntax (charged shared.bodies) (arena_words size)

  bodies_are : (made row syntax size shared).bodies ≡ shared.bodies ++ body ∷ []
  bodies_are = made_behind size shared ha.summed within row syntax

  more_charged : charged (shared.bodies ++ body ∷ []) ≡ charged shared.bodies + arena_words size
  more_charged = charged_more shared.bodies syntax (charged shared.bodies) (arena_words size)

  arena_stands : HasArena functions (made row syntax size shared) compiled.after
  arena_stands = record {
    function = ap (λ (f : ℕ → ℕ). word_at f NEXT_FUNCTION_CELL) cells_are
        ∙ update_same (NEXT_FUNCTION_CELL / 4) (suc row) (with_word NEXT_ARENA_CELL (arena_address shared
        + 4 * arena_words size) d.cells)
        ∙ (let more = length-append shared.bodies (body ∷ []) in omega (arith, more))
        ∙ ap (λ bs. suc (functions + length bs)) (sym bodies_are);
    next = ap (λ (f : ℕ → ℕ). word_at f NEXT_ARENA_CELL) cells_are
        ∙ update_other (NEXT_FUNCTION_CELL / 4) (suc row) (with_word NEXT_ARENA_CELL (arena_address shared
        + 4 * arena_words size) d.cells) (NEXT_ARENA_CELL / 4) (omega arith)
        ∙ update_same (NEXT_ARENA_CELL / 4) (arena_address shared + 4 * arena_words size) d.cells
        ∙ omega (arith, more_charged)
        ∙ ap (λ bs. ARENA + 4 * charged bs) (sym bodies_are);
    within = subst (λ bs. charged bs ≤ ARENA_WORDS) (sym bodies_are) (omega (arith, more_charged, within));
    summed = subst (AreSummed ARENA_WORDS) (sym bodies_are)
        (summed_more ARENA_WORDS shared.bodies (arena_words size) (omega arith) ha.summed syntax within);
  }

  -- ---- the run up to the service that publishes

  abbrev finishing : Call
  finishing = Finish (arena_address shared) (arena_words size) (frame_bytes size) words

  abbrev flushing : Call
  flushing = Flush (arena_address shared) (length words)

  abbrev behind : Code
  behind = with_words (arena_address shared) words c

  split : Split text pieces functions c entry shared is_value syntax words d low has hs ha whole is b table arena few h
  split =
      compile_split text pieces functions c entry shared is_value syntax words d low has hs ha whole is b table arena
      few h

  abbrev asking : State
  asking = at behind (split.place + 4 + 4 + 4 + 4 + 4 + 4 + 4) 0 split.asked

  to_publish : RunsWith (Begin (parameters_of syntax) ∷ (issuing function.ops ++ finishing ∷ flushing ∷ []))
      (split.count + (1 + 6)) (at c entry 0 d) asking
  to_publish =
      let flush = runs_call flushing {k = 0} {a = split.place} {l = 0} {c = code_behind finishing c} {d = split.found}
      {s = at (code_behind finishing c) split.place 0 split.found} (record { by = refl }) refl split.asks in
      let own = split.publishes behind split.stands in
      let rest = runs_then {m = 1} {k = 6} flush own.by own.kept in
      subst (λ (xs : List Call). RunsWith (Begin (parameters_of syntax) ∷ xs) (split.count + (1 + 6)) (at c entry 0 d)
      asking) (append_assoc (issuing function.ops) (finishing ∷ []) (flushing ∷ []))
      (runs_on {m = split.count} {n = 1 + 6} split.runs rest)

  pub function_made : MakesFunction text functions syntax function words shared
      (compile_cost is_value (syntax_cost pieces syntax)) c entry d
  function_made = record {
    after = compiled.after;
    reaches = ran.reaches;
    answer = compiled.answer;
    link = compiled.link;
    registers = compiled.registers;
    rest = compiled.rest;
    passed = passes;
    told = calls_told (compile_calls row (arena_address shared) (parameters_of syntax) size function.ops words)
        (compile_cost is_value (syntax_cost pieces syntax)) (at c entry 0 d)
        (at (with_words (arena_address shared) words c) (d.registers 31) 0 compiled.after) compiled.runs
        (compile_obeyed function (charged shared.bodies) row size d.outside taken (few_of syntax) small within
        (omega arith)
        (in_table row table))
        ∙ compile_tells function (charged shared.bodies) row size d.outside taken (few_of syntax) small within
        (omega arith)
        (in_table row table);
    unspoiled = compile_unspoiled row (arena_address shared) (parameters_of syntax) size function.ops words
        (compile_cost is_value (syntax_cost pieces syntax)) (at c entry 0 d)
        (at (with_words (arena_address shared) words c) (d.registers 31) 0 compiled.after) compiled.runs
        (compile_obeyed function (charged shared.bodies) row size d.outside taken (few_of syntax) small within
        (omega arith)
        (in_table row table));
    before = split.count + (1 + 6);
    counted = (let e = split.counted in omega (arith, e));
    quiet = calls_told (Begin (parameters_of syntax) ∷ (issuing function.ops ++ finishing ∷ flushing ∷ []))
        (split.count + (1 + 6)) (at c entry 0 d) asking to_publish
        (front_obeyed function (charged shared.bodies) row size d.outside taken (few_of syntax) small within
        (omega arith)
        (in_table row table))
        ∙ front_told function (charged shared.bodies) row size d.outside taken (few_of syntax) small within
        (omega arith)
        (in_table row table);
    chosen = λ fine. choice_met function (charged shared.bodies) row size d.outside taken (few_of syntax) small within
        (omega arith) (in_table row table)
        (choices_met (Begin (parameters_of syntax) ∷ issuing function.ops)
        (flushing ∷ Publish row (arena_address shared) (parameters_of syntax) ∷ []) (arena_address shared)
        (arena_words size) (frame_bytes size) words (compile_cost is_value (syntax_cost pieces syntax))
        (at c entry 0 d) (at behind (d.registers 31) 0 compiled.after) compiled.runs
        (compile_obeyed function (charged shared.bodies) row size d.outside taken (few_of syntax) small within
        (omega arith)
        (in_table row table)) fine);
    fits = few;
    specifications = specifications;
    arena = arena_stands;
  }
