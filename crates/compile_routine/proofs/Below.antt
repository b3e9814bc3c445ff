-- The routine runs below the arena, and tells that a function was made, and nothing else.
use Rattle.std.proofs.Common.{◌≡◌, inl, inr, ℕ, zero, suc, ◌+◌, ◌-◌, ◌<◌, ◌≤◌, Bool, List, [], ◌∷◌}
use Rattle.std.proofs.Common.{◌++◌, length, Some, None, refl, sym, ap, ◌∙◌, subst, arith, append_assoc}
use Rattle.std.specs.Fn.{iterate}
use Rattle.std.proofs.lemmas.Bool.{cases_lt}
use Rattle.pace.proofs.Runs.{iterate_add}
use Rattle.limits.specs.declared.program.TheConstants.{SIZE_LIMIT}
use Rattle.word32.specs.declared.map.TheConstants.{ARENA, ARENA_WORDS}
use Rattle.history.specs.Syntax.{Syntax}
use Rattle.mips_model.specs.State.{Built, Outside, Code, Data, State, World}
use Rattle.mips_model.specs.Services.{next_choice}
use Rattle.mips_model.specs.Steps.{step, going}
use Rattle.mips_model.specs.Laws.{HasAt, at, Reaches}
use Rattle.mips_model.specs.Told.{Made, told}
use Rattle.mips_model_laws.specs.Laws.{bare, IsBelow}
use Rattle.mips_model_laws.proofs.Standing.{text_there}
use Rattle.mips_model_laws.proofs.Below.{none_entered, runs_below}
use Rattle.meaning_state.specs.Bodies.{charged}
use Rattle.meaning_state.specs.Shared.{Shared}
use Rattle.meaning_state.specs.Rows.{specification_at, parameters_of, arena_words, table_trap, arena_trap}
use Rattle.meaning_state.specs.Rows.{next_function}
use Rattle.staged_meaning.specs.Program.{syntax_size}
use Rattle.icode_ir.specs.declared.build_op.BuildOp.{BuildOp}
use Rattle.closures_proof.specs.Relation.{Text, HasSpecifications}
use Rattle.closures_proof.proofs.Making.{few_of}
use Rattle.generator_laws.specs.Calls.{Call, Begin, Emit, Finish, Flush, Publish, outside_behind, code_behind}
use Rattle.generator_laws.specs.Calls.{data_behind, issuing}
use Rattle.tick_lower_spec.specs.declared.piece.Piece.{Piece}
use Rattle.generator_laws.specs.Pieces.{IsWhole}
use Rattle.routine_spec.specs.Generator.{generator_code, syntax_cost}
use Rattle.generator_laws.specs.Served.{AreObeyed, outside_after, Makes}
use Rattle.generator_laws.specs.Laws.{HasGenerators}
use Rattle.generator_laws.proofs.Makings.{runs_made, call_made}
use Rattle.generator_laws.proofs.Told.{none_left_out}
use Rattle.routine_spec.specs.Compile.{compile_code}
use Rattle.compile_routine.specs.Laws.{HasArena, IsTickOf, frame_bytes, arena_address, compile_cost}
use Rattle.compile_routine.specs.Made.{function_built, FitsServices, function_words}
use Rattle.compile_routine.specs.Below.{GeneratorsAreLow}
use Rattle.compile_routine.proofs.Compiled.{Split, tick_there, in_table, in_arena, compile_split}
use Rattle.compile_routine.proofs.Obeyed.{few_words, compile_obeyed}
use Rattle.compile_routine.proofs.Finishing.{tail_code}
use Rattle.compile_routine.proofs.Made.{function_made}

-- ---- one stretch and then another

pub below_on : (m n : ℕ) (s mid : State) → Reaches m s mid → IsBelow m s → IsBelow n mid → IsBelow (m + n) s
below_on m n s mid r first second i l = elim (cases_lt i m) [
  | inl less ↦ first i less
  | inr more ↦ (let k = i - m in
      let e : i ≡ m + k = omega (arith, more) in
      let way : iterate step i (going s) ≡ iterate step k (going mid) =
      ap (λ n. iterate step n (going s)) e ∙ iterate_add step m k (going s) ∙ ap (iterate step k) r.by in
      subst (λ (w : World). w.state.pc < ARENA) (sym way) (second k (omega (arith, l, more))))
]

-- one instruction
below_one : (s : State) → s.pc < ARENA → IsBelow 1 s
below_one s low zero l = low
below_one s low (suc i) l = absurd (omega (arith, l))

-- ---- calls

obeyed_front : (xs ys : List Call) (o : Outside) → AreObeyed (xs ++ ys) o → AreObeyed xs o
obeyed_front [] ys o h = tt
obeyed_front (x ∷ xs) ys o h = (h.0, obeyed_front xs ys (outside_behind x o) h.1)

obeyed_back : (xs ys : List Call) (o : Outside) → AreObeyed (xs ++ ys) o → AreObeyed ys (outside_after xs o)
obeyed_back [] ys o h = h
obeyed_back (x ∷ xs) ys o h = obeyed_back xs ys (outside_behind x o) h.1

-- ops and the finish flush nothing
no_flush : (ops : List BuildOp) (address most frame : ℕ) (words : List ℕ) (o : Outside) →
    (outside_after (issuing ops ++ Finish address most frame words ∷ []) o).flushes ≡ o.flushes
no_flush [] address most frame words o = refl
no_flush (op ∷ ops) address most frame words o = no_flush ops address most frame words (outside_behind (Emit op) o)

-- ---- the routine

-- the functions of the ticks stand in bare code too
bare_generators : (text : Text) (pieces : ℕ → List Piece) (ticks : ℕ) (c : Code) → HasGenerators text pieces ticks c →
    GeneratorsAreLow text pieces ticks → HasGenerators text pieces ticks (bare c)
bare_generators text pieces ticks c has low = record {
  stands = λ tick l. text_there c (bare c) (text.generator_at tick) (generator_code (pieces tick)) (low tick l) refl
      (has.stands tick l);
  low = has.low;
}

module _ (text : Text) (pieces : ℕ → List Piece) (functions : ℕ) (c : Code) (entry : ℕ) (shared : Shared)
    (is_value : Bool) (syntax : Syntax) (d : Data) (low : entry + 256 ≤ ARENA) (has : HasGenerators text
    pieces (length text.program.ticks) c) (has_low : GeneratorsAreLow text pieces (length text.program.ticks))
    (hs : HasSpecifications text shared d) (ha : HasArena functions shared d)
    (whole : IsWhole pieces (length text.program.ticks) syntax) (is : IsTickOf is_value syntax (specification_at
    (d.registers 4) shared)) (b : d.registers 4 < 4294967296) (table : table_trap (next_function functions shared) ≡
    None) (arena : arena_trap (syntax_size text.program syntax) shared ≡ None) (taken : FitsServices
    (function_built pieces is_value syntax) (syntax_size text.program syntax) d.outside.making)
    (h : HasAt c entry compile_code) where
  abbrev function : Built
  function = function_built pieces is_value syntax

  abbrev row : ℕ
  row = next_function functions shared

  abbrev size : ℕ
  size = syntax_size text.program syntax

  abbrev address : ℕ
  address = arena_address shared

  abbrev words : List ℕ
  words = function_words function (next_choice d.outside.making.row) address size

  abbrev cost : ℕ
  cost = compile_cost is_value (syntax_cost pieces syntax)

  small : size ≤ SIZE_LIMIT
  small =
      (tick_there text shared d (d.registers 4) is_value syntax (specification_at (d.registers 4) shared) hs refl
      is).small

  within : charged shared.bodies + arena_words size ≤ ARENA_WORDS
  within = in_arena size shared ha.summed arena

  few : length words ≤ arena_words size
  few =
      few_words function (charged shared.bodies) row size d.outside taken (few_of syntax) small within (omega arith)
      (in_table row table)

  -- the calls up to the finish, and behind it
  abbrev finishing : Call
  finishing = Finish address (arena_words size) (frame_bytes size) words

  abbrev flushing : Call
  flushing = Flush address (length words)

  abbrev publishing : Call
  publishing = Publish row address (parameters_of syntax)

  abbrev first : List Call
  first = Begin (parameters_of syntax) ∷ (issuing function.ops ++ finishing ∷ [])

  abbrev last : List Call
  last = flushing ∷ publishing ∷ []

  obeyed : AreObeyed (first ++ last) d.outside
  obeyed =
      subst (λ (xs : List Call). AreObeyed (Begin (parameters_of syntax) ∷ xs) d.outside)
      (sym (append_assoc (issuing function.ops) (finishing ∷ []) last))
      (compile_obeyed function (charged shared.bodies) row size d.outside taken (few_of syntax) small within
      (omega arith)
      (in_table row table))

  -- the run is split where the words are flushed, on bare code too
  splits : (k : Code) (generators : HasGenerators text pieces (length text.program.ticks) k)
      (stands : HasAt k entry compile_code) →
      Split text pieces functions k entry shared is_value syntax words d low generators hs ha whole is b table arena few
      stands
  splits k generators stands =
      compile_split text pieces functions k entry shared is_value syntax words d low generators hs ha whole is b table
      arena few stands

  abbrev bare_has : HasGenerators text pieces (length text.program.ticks) (bare c)
  bare_has = bare_generators text pieces (length text.program.ticks) c has has_low

  abbrev bare_stands : HasAt (bare c) entry compile_code
  bare_stands = text_there c (bare c) entry compile_code (omega (arith, low)) refl h

  bare_split : Split text pieces functions (bare c) entry shared is_value syntax words d low bare_has hs ha whole is b
      table arena few bare_stands
  bare_split = splits (bare c) bare_has bare_stands

  split : Split text pieces functions c entry shared is_value syntax words d low has hs ha whole is b table arena few h
  split = splits c has h

  front_obeyed : AreObeyed first d.outside
  front_obeyed = obeyed_front first last d.outside obeyed

  -- up to the flush
  bare_front : Makes first bare_split.count (at (bare c) entry 0 d)
      (at (code_behind finishing (bare c)) bare_split.place 0 bare_split.found)
  bare_front =
      runs_made first bare_split.count (at (bare c) entry 0 d)
      (at (code_behind finishing (bare c)) bare_split.place 0 bare_split.found) bare_split.runs front_obeyed

  front_below : IsBelow bare_split.count (at c entry 0 d)
  front_below =
      runs_below bare_split.count (at c entry 0 d)
      (at (code_behind finishing (bare c)) bare_split.place 0 bare_split.found) bare_front.reaches
      (ap (λ (o : Outside). o.flushes) bare_front.passed
      ∙ no_flush function.ops address (arena_words size) (frame_bytes size) words
      (outside_behind (Begin (parameters_of syntax)) d.outside))

  front : Makes first split.count (at c entry 0 d) (at (code_behind finishing c) split.place 0 split.found)
  front =
      runs_made first split.count (at c entry 0 d) (at (code_behind finishing c) split.place 0 split.found) split.runs
      front_obeyed

  last_obeyed : AreObeyed last split.found.outside
  last_obeyed = subst (AreObeyed last) (sym front.passed) (obeyed_back first last d.outside obeyed)

  -- the flush
  abbrev after : Code
  after = code_behind flushing (code_behind finishing c)

  abbrev flushed_data : Data
  flushed_data = data_behind flushing split.found

  flush_made : Reaches 1 (at (code_behind finishing c) split.place 0 split.found)
      (at after (split.place + 4) 0 flushed_data)
  flush_made =
      call_made flushing (code_behind finishing c) split.place 0 split.found split.asks last_obeyed.0

  -- and behind it
  bare_tail : Makes (publishing ∷ []) 12 (at (bare after) (split.place + 4) 0 flushed_data)
      (at (bare after) (d.registers 31) 0 split.ends)
  bare_tail =
      runs_made (publishing ∷ []) 12 (at (bare after) (split.place + 4) 0 flushed_data)
      (at (bare after) (d.registers 31) 0 split.ends)
      (split.tail (bare after)
      (text_there after (bare after) (split.place + 4) tail_code split.tail_low refl split.stands))
      (last_obeyed.1.0, tt)

  tail_below : IsBelow 12 (at after (split.place + 4) 0 flushed_data)
  tail_below =
      runs_below 12 (at after (split.place + 4) 0 flushed_data) (at (bare after) (d.registers 31) 0 split.ends)
      bare_tail.reaches (ap (λ (o : Outside). o.flushes) bare_tail.passed)

  counts : (bare_split.count ≡ split.count) × (split.count + (1 + 12) ≡ cost)
  counts = (omega (arith, bare_split.counted, split.counted), omega (arith, split.counted))

  pub compile_below : IsBelow cost (at c entry 0 d)
  compile_below =
      subst (λ n. IsBelow n (at c entry 0 d)) counts.1
      (below_on split.count (1 + 12) (at c entry 0 d) (at (code_behind finishing c) split.place 0 split.found)
      front.reaches (subst (λ n. IsBelow n (at c entry 0 d)) counts.0 front_below)
      (below_on 1 12 (at (code_behind finishing c) split.place 0 split.found)
      (at after (split.place + 4) 0 flushed_data) flush_made
      (below_one (at (code_behind finishing c) split.place 0 split.found) split.below) tail_below))

  pub compile_told : told cost (going (at c entry 0 d)) ≡ Made row (Some function) ∷ []
  compile_told =
      none_left_out cost (going (at c entry 0 d)) (none_entered cost (at c entry 0 d) compile_below)
      ∙ (function_made text pieces functions c entry shared is_value syntax d low has hs ha whole is b table arena taken
      h).told
