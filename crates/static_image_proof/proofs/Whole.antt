-- The headline holds for the image of an accepted text, under any legal places of the registers of its functions.
use Rattle.std.proofs.Common.{◌≡◌, ◌≢◌, ℕ, zero, suc, ◌+◌, ◌-◌, ◌*◌, ◌%◌, ◌<◌, ◌≤◌, inl, inr, Bool, true, false}
use Rattle.std.proofs.Common.{List}
use Rattle.std.proofs.Common.{[], ◌∷◌, ◌++◌, length, map, Option, None, Some, append_assoc, length-append}
use Rattle.std.proofs.Common.{refl, sym, ap, ◌∙◌, subst, arith, slice_get, replicate, nat_eq}
use Rattle.std.proofs.Common.{if◌then◌else◌}
use Rattle.std.specs.Fn.{iterate}
use Rattle.std.specs.List.{flat_map}
use Rattle.std.specs.Option.{option_map}
use Rattle.pace.specs.Pace.{Seen, FourParts}
use Rattle.pace.specs.Claims.{FollowsAtCost, FollowsWithin, PaysWithin, IsCovered}
use Rattle.pace.proofs.Promises.{four_parts_where_defined}
use Rattle.word32.specs.declared.map.TheConstants.{ARENA, FUNCTIONS, TEXT}
use Rattle.host_edge.specs.declared.ending.MachineKind.{MachineKind}
use Rattle.history.specs.Events.{End, Fault, Input}
use Rattle.mips_encoder.specs.Table.{word_of}
use Rattle.mips_encoder.specs.declared.instruction.Instr.{Instr}
use Rattle.mips_model.specs.State.{Code, Data, World}
use Rattle.mips_model.specs.Steps.{step, run, going}
use Rattle.mips_model.specs.Laws.{HasAt, at}
use Rattle.mips_model.specs.Told.{Told, told, tells}
use Rattle.mips_model.specs.Run as machine
use Rattle.mips_model.specs.Run.{row_of, runs, IsDefined, IsWellChosen, IsFine, IsClean}
use Rattle.mips_model.proofs.Loaded.{loaded}
use Rattle.mips_model_laws.specs.Tales.{Tale, tell, see_tale}
use Rattle.mips_model_laws.specs.Clean.{IsUnspoiled}
use Rattle.mips_model_laws.proofs.Below.{runs_in}
use Rattle.mips_model_laws.proofs.Unspoiled.{code_unspoiled}
use Rattle.mips_model_laws.proofs.Seam.{world_of_tale}
use Rattle.mips_model_laws.proofs.Completing.{complete}
use Rattle.mips_model_laws.proofs.Covered as cover
use Rattle.mips_model_laws.proofs.Headline as clean
use Rattle.icode_templates.specs.Words.{words}
use Rattle.icode_templates_proof.specs.Malloc.{malloc_code}
use Rattle.icode_templates_proof.specs.Routines.{Named, AnExpression, AStatement, AVariable, check_code}
use Rattle.icode_templates.specs.Templates.{routine_address}
use Rattle.icode_ops.specs.Kinds.{run_number}
use Rattle.mips_assembly.specs.Assembly.{nop}
use Rattle.image_file.specs.Image.{ImageParts}
use Rattle.mips_model.specs.Choices.{Choice}
use Rattle.icode_meaning.specs.State.{Function, Program, State, see, least_at, most_at}
use Rattle.icode_meaning.specs.Steps.{first}
use Rattle.meaning_state.specs.Shared.{Shared}
use Rattle.typed_tree.specs.declared.expression.CaptureKind.{CaptureKind}
use Rattle.typed_tree.specs.Nodes as node
use Rattle.meaning_state.specs.Rows.{numbered}
use Rattle.staged_meaning.specs.Program as meaning
use Rattle.staged_meaning.specs.Program.{Tick}
use Rattle.staged_meaning.specs.Meaning.{at_start, meant}
use Rattle.tick_lower_spec.specs.Lower.{Addresses}
use Rattle.icode_expand_proof.specs.Standing as standing
use Rattle.icode_expand_proof.specs.Standing.{WordsAt}
use Rattle.icode_expand_proof.specs.Settings.{Setting, Standing, Published, Extends}
use Rattle.icode_expand_proof.proofs.Codes.{ops_of, front_stands}
use Rattle.icode_expand_proof.proofs.Fitting.{words_stand}
use Rattle.closures_proof.specs.Relation.{HasSpecifications}
use Rattle.closures_proof.specs.Ops.{check_of}
use Rattle.icode_run_proof.proofs.Tales.{tale_told}
use Rattle.limits.specs.declared.cost.TheConstants.{START_INSTRUCTIONS, START_OPS_INSTRUCTIONS, UNIT_INSTRUCTIONS}
use Rattle.limits.specs.declared.program.TheConstants.{MOST_FUNCTIONS}
use Rattle.routine_spec.specs.Blocks.{routine_words}
use Rattle.static_image.specs.Layout.{Placed, start_code, start_block, front, behind, rows_of, ends}
use Rattle.static_image.specs.Layout.{words_from, generators}
use Rattle.static_image.specs.Layout.{IsChoice}
use Rattle.static_image.proofs.Arriving as start
use Rattle.static_image.proofs.Blocks.{routines, routine_stands}
use Rattle.std.proofs.lemmas.Bool.{false≢true}
use Rattle.word32.specs.declared.map.TheConstants.{NEXT_FUNCTION_CELL}
use Rattle.meaning_state.specs.Rows.{next_function}
use Rattle.staged_meaning.specs.Scope.{IsReadyIn}
use Rattle.icode_templates_proof.specs.Closures.{word_at}
use Rattle.icode_templates_proof.proofs.Templates.{constant_parts}
use Rattle.tick_lower_proof.specs.Laws.{Stands}
use Rattle.tick_lower_spec.specs.TickPieces.{tick_pieces}
use Rattle.tick_lower_spec.specs.declared.piece.Piece.{Piece}
use Rattle.generator_spec.specs.Laws.{pieces_at}
use Rattle.static_image.specs.Layout.{functions_at}
use Rattle.static_image.proofs.Placing.{some_words}
use Rattle.mips_encoder.specs.Addresses.{past}
use Rattle.mips_model_laws.specs.Laws.{IsOf}
use Rattle.mips_model_laws.proofs.Entrances.{stays_silent}
use Rattle.wellformed.specs.Program.{IsProgram}
use Rattle.generator_laws.specs.Laws.{HasGenerators}
use Rattle.routine_spec.specs.Compile.{compile_code}
use Rattle.routine_spec.specs.Generator.{generator_code}
use Rattle.compile_routine.specs.Laws.{HasArena}
use Rattle.generator_spec.specs.FittingLaws.{program_pieces}
use Rattle.tick_lower_proof.specs.Laws.{row_for, HasFunctions, LoweringFollows}
use Rattle.known_closures_proof.specs.Known.{IsMeaning}
use Rattle.icode_run_proof.specs.Relation.{Base, HasCompiler, IsPresent, Stood, see_told, text_of}
use Rattle.icode_run_proof.specs.Relation.{tick_count, functions_of as count_of}
use Rattle.icode_run_proof.specs.Laws.{Arrived, upper, ProgramIsSimulated, ProgramIsUnspoiled}
use Rattle.static_image.specs.Served.{IsImaged}
use Rattle.static_image.specs.Told.{told_of}
use Rattle.static_image.specs.Headline.{Headline, told_meaning}
use Rattle.static_image.proofs.Bounds as bounds
use Rattle.static_image.proofs.Bounds.{length_functions}
use Rattle.static_image.proofs.Placing.{staged, function_in, places_in, IsThere, all_stand, IsFound, ends_at}
use Rattle.static_image_proof.proofs.Faultless.{stays_faultless, no_fault}
use Rattle.static_image_proof.proofs.Generators as generators_stand
use Rattle.static_image_proof.proofs.Generators.{Generates}
use Rattle.static_image_proof.proofs.Machine as machine_is
use Rattle.static_image_proof.proofs.Tables.{row_is, published}

length_rows : (at : ℕ) (xs : List Placed) → length (map row_of (rows_of at xs)) ≡ length xs
length_rows at [] = refl
length_rows at (x ∷ xs) = ap suc (length_rows (behind at x) xs)

-- an ending is told as it is
same_ending : (o e : Option End) → option_map (λ (e : End). e) o ≡ e → o ≡ e
same_ending None e is = is
same_ending (Some x) e is = is

-- a claim within more instructions besides
weaker : {A E : Type 0} (n each less more : ℕ) (meaning run : ℕ → Seen A E) → less ≤ more →
    FollowsWithin n each less meaning run → FollowsWithin n each more meaning run
weaker n each less more meaning run le f = record {
  goes_on = λ m low none. let a = f.goes_on m low none in (a.0, a.1, omega (arith, a.2, le), a.3, a.4);
  ends = λ m e low is. let a = f.ends m e low is in (a.0, omega (arith, a.1, le), a.2, a.3);
}

covered_more : {A E : Type 0} (n each less more : ℕ) (meaning run : ℕ → Seen A E) → less ≤ more →
    IsCovered each less meaning run n → IsCovered each more meaning run n
covered_more n each less more meaning run le c = record {
  other = c.other;
  same = c.same;
  grows = c.grows;
  follows = weaker n each less more meaning c.other le c.follows;
}

-- the lower seam of a run is one of a run that is the same at each number of instructions
pays_alike : {A E : Type 0} (bound start : ℕ) (upper : ℕ → Seen A E) (least most : ℕ → ℕ) (this that : ℕ → Seen A E) →
    ((n : ℕ) → this n ≡ that n) → PaysWithin bound start upper least most this →
    PaysWithin bound start upper least most that
pays_alike bound start upper least most this that same p = record {
  goes_on = λ i low none.
      let a = p.goes_on i low none in
      let e = same a.0 in
      (a.0, a.1, a.2, ap (λ s. s.ending) (sym e) ∙ a.3, a.4 ∙ ap (λ s. s.history) e);
  ends = λ i x low is.
      let a = p.ends i x low is in
      let e = same a.0 in
      (a.0, a.1, ap (λ s. s.ending) (sym e) ∙ a.2, a.3 ∙ ap (λ s. s.history) e);
}

-- a tale that told nothing, and tells nothing
told_by : (n : ℕ) (t : Tale) → t.told ≡ [] → told n t.world ≡ [] → (iterate tell n t).told ≡ []
told_by n t none silent = tale_told n t ∙ ap (λ (xs : List Told). xs ++ told n t.world) none ∙ silent

-- the address that a row has
row_address : (address : ℕ) (f : node.Function) (a k : ℕ) → row_for address (Some f) ≡ Some (a, k) → address ≡ a
row_address address f a k e = ap first_of e
  where
    first_of : Option (ℕ × ℕ) → ℕ
    first_of None = 0
    first_of (Some row) = row.0

-- no word of the arena
abbrev no_words : ℕ → Bool
no_words k = false

no_word : (a : ℕ) → ARENA ≤ a → IsOf no_words a → ⊥
no_word a high (inl low) = omega (arith, high, low)
no_word a high (inr is) = cc

-- the claims of both seams
pub record Seams : Type 0 where
  pub lowering : LoweringFollows
  pub simulated : ProgramIsSimulated
  pub unspoiled : ProgramIsUnspoiled

module _ (seams : Seams) (tree : node.Program) (accepted : IsProgram tree) (program : meaning.Program)
    (meant_is : IsMeaning tree program) (number : ℕ) (xs : List Placed) (imaged : IsImaged program number)
    (own : imaged.captures ≡ accepted.captures) (choice : IsChoice program.functions program.ticks xs) where
  abbrev ts : List Tick
  ts = machine_is.ts tree accepted program meant_is number xs imaged own choice

  abbrev kinds : List (List CaptureKind)
  kinds = machine_is.kinds tree accepted program meant_is number xs imaged own choice

  abbrev d : Addresses
  d = machine_is.d tree accepted program meant_is number xs imaged own choice

  abbrev fs : List node.Function
  fs = machine_is.fs tree accepted program meant_is number xs imaged own choice

  abbrev image : ImageParts
  image = machine_is.image tree accepted program meant_is number xs imaged own choice

  abbrev all_starts : List ℕ
  all_starts = machine_is.all_starts tree accepted program meant_is number xs imaged own choice

  abbrev main_at : ℕ
  main_at = machine_is.main_at tree accepted program meant_is number xs imaged own choice

  found : IsFound d FUNCTIONS xs (number - 1) program.main
  found = machine_is.found tree accepted program meant_is number xs imaged own choice

  abbrev main : Function
  main = machine_is.main tree accepted program meant_is number xs imaged own choice

  abbrev machine_rows : List (ℕ × ℕ)
  machine_rows = machine_is.machine_rows tree accepted program meant_is number xs imaged own choice

  abbrev machine_of : Program
  machine_of = machine_is.machine_of tree accepted program meant_is number xs imaged own choice

  abbrev base : Base
  base = machine_is.base tree accepted program meant_is number xs imaged own choice

  main_stands : Stands d program.main main
  main_stands = machine_is.main_stands tree accepted program meant_is number xs imaged own choice

  main_ready : IsReadyIn fs kinds program.main
  main_ready = (machine_is.ready tree accepted program meant_is number xs imaged own choice).main

  main_even : main_at % 4 ≡ 0
  main_even = bounds.main_even program number xs imaged choice

  main_low : main_at < ARENA
  main_low = bounds.main_low program number xs imaged choice

  few : length xs ≤ MOST_FUNCTIONS
  few = bounds.few program number xs imaged choice

  -- ---- what stands in the text

  abbrev pub behind_front : List ℕ
  behind_front = words_from d FUNCTIONS xs ++ generators all_starts ts

  abbrev pub text : List ℕ
  text = front main_at (length xs) ++ behind_front

  abbrev c : Code
  c = loaded text

  start_stands : HasAt c TEXT (start_code main_at (length xs))
  start_stands =
      words_stand c TEXT (start_code main_at (length xs)) (bounds.fits program number xs imaged choice) refl (omega arith)
      (subst (λ (ws : List ℕ). WordsAt (loaded ws) TEXT (words (start_code main_at (length xs))))
      (sym (append_assoc (start_block main_at (length xs)) routine_words behind_front))
      (start.first_words (words (start_code main_at (length xs)))
      (replicate (64 - length (words (start_code main_at (length xs)))) (word_of nop))
      (routine_words ++ behind_front)))

  -- the routine of each block stands there
  routine_there : (k : ℕ) (is : List Instr) (a : ℕ) → k < 15 → slice_get routines k ≡ Some is →
      a ≡ TEXT + 256 + 256 * k → HasAt c a is
  routine_there k is a low found at =
      subst (λ (ws : List ℕ). HasAt (loaded ws) a is)
      (sym (append_assoc (start_block main_at (length xs)) routine_words behind_front))
      (routine_stands (start_block main_at (length xs)) behind_front k is a
      (bounds.block_long program number xs imaged choice) low found at)

  check_there : (named : Named) → HasAt c (routine_address (run_number (check_of named))) (check_code named)
  check_there AnExpression = routine_there 5 (check_code AnExpression) _ (omega arith) refl refl
  check_there AStatement = routine_there 6 (check_code AStatement) _ (omega arith) refl refl
  check_there AVariable = routine_there 7 (check_code AVariable) _ (omega arith) refl refl

  pub there : (a : ℕ) (f : Function) → machine_of.function_at a ≡ Some f → IsThere c a f (places_in FUNCTIONS xs a)
  there =
      all_stand fs kinds d (bounds.low program number xs imaged choice) (generators all_starts ts)
      (front main_at (length xs)) FUNCTIONS xs (omega (arith, bounds.front_length program number xs imaged choice))
      (bounds.static program number xs imaged choice) choice.legal
      (omega (arith, bounds.room program number xs imaged choice))

  static_function : (at : ℕ) (ys : List Placed) (a : ℕ) (f : Function) → function_in d at ys a ≡ Some f →
      f.compiled ≡ false
  static_function at [] a f e = absurd cc
  static_function at (y ∷ ys) a f e = by (λ later. static_function (behind at y) ys a f later) (nat_eq a at) e
    where
      by : (function_in d (behind at y) ys a ≡ Some f → f.compiled ≡ false) → (b : Bool)
          → (if b then Some (staged d at y) else function_in d (behind at y) ys a) ≡ Some f → f.compiled ≡ false
      by rest true is = let same : staged d at y ≡ f = cc in ap (λ (g : Function). g.compiled) (sym same)
      by rest false is = rest is

  -- each function of the program is one of the staged machine's, and has a row
  have_functions : HasFunctions machine_of d fs
  have_functions = record {
    at = λ n f e. (
        let x = bounds.found_at program number xs imaged choice n f e in
        record {
          has = staged d (d.function_at n) x.placed;
          is = x.found;
          stands = machine_is.stands_for tree accepted program meant_is number xs imaged own choice (d.function_at n) x.placed f x.function;
        });
    rows = λ n. row_is FUNCTIONS xs n ∙
        ap (λ (gs : List node.Function). row_for (d.function_at n) (numbered n gs)) choice.same;
    source = refl;
    whole = λ a f known. (there a f known).whole;
  }

  -- each row has the address of a function below the arena
  row_low : (n a k : ℕ) → machine_of.row n ≡ Some (a, k) → a < ARENA
  row_low n a k e = by (numbered n fs) refl (sym (have_functions.rows n) ∙ e)
    where
      by : (o : Option node.Function) → numbered n fs ≡ o → row_for (d.function_at n) o ≡ Some (a, k) → a < ARENA
      by None at e = absurd cc
      by (Some f) is e =
          let x = bounds.found_at program number xs imaged choice n f is in
          omega (
            arith,
            row_address (d.function_at n) f a k e,
            x.to,
            bounds.room program number xs imaged choice,
            some_words x.placed,
          )

  -- the functions that generate the code of ticks stand behind all functions
  abbrev before : List ℕ
  before = front main_at (length xs) ++ words_from d FUNCTIONS xs

  pub record IsGenerator (tick : ℕ) : Type 0 where
    pub stands : HasAt c (d.generator_at tick) (generator_code (program_pieces d tree tick))
    pub low : past (d.generator_at tick) (generator_code (program_pieces d tree tick)) ≤ ARENA

  generates : (tick : ℕ) → tick < length ts → IsGenerator tick
  generates tick low = by (slice_get ts tick) refl
    where
      behind_all : ends FUNCTIONS xs ≡ TEXT + 4 * length before
      behind_all =
          omega (
            arith,
            length-append (front main_at (length xs)) (words_from d FUNCTIONS xs),
            ends_at d FUNCTIONS xs,
            bounds.front_length program number xs imaged choice,
          )

      by : (o : Option Tick) → slice_get ts tick ≡ o → IsGenerator tick
      by None none = absurd (machine_is.none_below ts tick low none)
      by (Some t) at =
          let g : Generates all_starts (loaded (before ++ generators all_starts ts)) (d.generator_at tick) t =
          generators_stand.generate all_starts before (ends FUNCTIONS xs) ts behind_all
          (imaged.static.written all_starts (bounds.start_low program number xs imaged choice)) (bounds.room program number xs imaged choice) tick t at in
          let whole : Generates all_starts c (d.generator_at tick) t =
          subst (λ (words : List ℕ). Generates all_starts (loaded words) (d.generator_at tick) t)
          (append_assoc (front main_at (length xs)) (words_from d FUNCTIONS xs) (generators all_starts ts)) g in
          let same : tick_pieces (functions_at all_starts) t ≡ program_pieces d tree tick =
          sym (machine_is.pieces_are tree accepted program meant_is number xs imaged own choice tick
          ∙ ap (pieces_at (functions_at all_starts)) at) in
          record {
            stands = subst (λ (ps : List Piece). HasAt c (d.generator_at tick) (generator_code ps)) same whole.stands;
            low = subst (λ (ps : List Piece). past (d.generator_at tick) (generator_code ps) ≤ ARENA) same whole.low;
          }

  have_generators : HasGenerators (text_of base) (program_pieces d tree) (tick_count base) c
  have_generators = record {
    stands = λ tick low. (generates tick low).stands;
    low = λ tick low. omega (arith, (generates tick low).low);
  }

  module _ (input : Input) (row : List Choice) where
    abbrev set : Data
    set = start.called main_at (length xs) main_even (omega (arith, main_low)) program.image (rows_of FUNCTIONS xs) c
        input row start_stands

    abbrev shared : Shared
    shared = at_start program input

    abbrev setting : Setting
    setting = record {
      code = c;
      program = machine_of;
      places_at = places_in FUNCTIONS xs;
      exit = start.exit_at;
      making = machine.first_making row;
      flushes = 0;
      written = set;
      made = shared;
      history = [];
    }

    stands_there : Standing setting
    stands_there = record {
      functions = λ a f known. (let h = there a f known in (h.address, ops_of h.stands));
      fronts = λ a f known unmade.
          let h = there a f known in
          subst (λ (n : ℕ). HasAt c n (standing.front_code f (places_in FUNCTIONS xs a))) h.address
          (front_stands c f (places_in FUNCTIONS xs a) h.stands);
      routines = routine_there 0 malloc_code _ (omega arith) refl refl;
      exits = start.waits main_at (length xs) main_even (omega (arith, main_low)) program.image (rows_of FUNCTIONS xs) c
          input row start_stands;
    }

    rows_published : Published machine_of set.table
    rows_published = published machine_rows (omega (arith, few, length_rows FUNCTIONS xs)) machine_of (λ n. refl)

    -- no more rows than functions
    extends : Extends machine_of setting
    extends = record {
      functions = λ a f known. (known, static_function FUNCTIONS xs a f known);
      rows = λ n le. refl;
      others = λ n lt none. beyond machine_rows n
          (omega (arith, lt, length_rows FUNCTIONS xs, length_functions xs, ap length choice.same));
    }
      where
        beyond : (rs : List (ℕ × ℕ)) (n : ℕ) → length rs < n → numbered n rs ≡ None
        beyond rs zero lt = absurd (omega (arith, lt))
        beyond [] (suc k) lt = refl
        beyond (r ∷ rs) (suc zero) lt = absurd (omega (arith, lt))
        beyond (r ∷ rs) (suc (suc k)) lt = beyond rs (suc k) (omega (arith, lt))

    compiler : HasCompiler base setting
    compiler = record { routine = routine_there 1 compile_code _ (omega arith) refl refl; generators = have_generators }

    -- nothing is compiled yet
    present : IsPresent base c setting
    present = record {
      each = λ k x at live. absurd cc;
      gone = λ k x at dead. absurd cc;
      known = λ a f known compiled. absurd (false≢true (sym (static_function FUNCTIONS xs a f known) ∙ compiled));
      low = λ a f known static. (there a f known).below;
      rows = λ n a k le e. row_low n a k e;
    }

    arena : HasArena (count_of base) shared set
    arena = record {
      function = next_number;
      next = refl;
      within = omega arith;
      summed = record {
        held = record { ranges = omega arith; apart = tt };
        sum = record { packed = tt; words = refl };
      };
    }
      where
        here : word_at set.cells NEXT_FUNCTION_CELL ≡ length xs + 1
        here = constant_parts (length xs + 1)

        next_number : word_at set.cells NEXT_FUNCTION_CELL ≡ next_function (length fs) shared
        next_number = omega (arith, here, length_functions xs, ap length choice.same)

    stood : Stood base c setting
    stood = record {
      code_is = refl;
      standing = stands_there;
      extends = extends;
      serving = record { ops = λ a f known. (there a f known).served };
      routines = record {
        begin = routine_there 4 _ _ (omega arith) refl refl;
        check = check_there;
        new = routine_there 12 _ _ (omega arith) refl refl;
      };
      variables = record {
        local = routine_there 2 _ _ (omega arith) refl refl;
        parameter = routine_there 3 _ _ (omega arith) refl refl;
      };
      compiler = compiler;
      present = present;
      arena = arena;
      idle = refl;
    }

    specifications : HasSpecifications (text_of base) shared set
    specifications = record {
      closures = [];
      memory = start.no_closures main_at (length xs) main_even (omega (arith, main_low)) program.image
          (rows_of FUNCTIONS xs) c input row start_stands;
      stand_for = record { count = refl; each = λ n s k a b. absurd cc };
      bytes = refl;
    }

    abbrev begins : World
    begins = machine.begins image input row

    abbrev tale : Tale
    tale = record { world = begins; told = [] }

    abbrev there_now : World
    there_now = going (at c main_at 0 set)

    comes : iterate step 17 begins ≡ there_now
    comes = start.comes main_at (length xs) main_even (omega (arith, main_low)) program.image (rows_of FUNCTIONS xs)
        c input row start_stands

    -- the start tells nothing
    silent : told 17 begins ≡ []
    silent =
        stays_silent no_words 17 (machine.first_state image input row)
        (runs_in no_words 17 (machine.first_state image input row) (at c main_at 0 set)
        (start.reaches main_at (length xs) main_even (omega (arith, main_low)) program.image (rows_of FUNCTIONS xs)
        c input row start_stands) refl)
        (λ a high is. absurd (no_word a high is)) (ap (λ (w : World). w.state.d.outside) comes)

    arrived : Arrived base c setting main shared (iterate tell 17 tale)
    unfolding found
    arrived = record {
      ticks = machine_is.ticks tree accepted program meant_is number xs imaged own choice;
      generators = λ tick low. (generates tick low).low;
      compilable = machine_is.compilable tree accepted program meant_is number xs imaged own choice input;
      stood = stood;
      specifications = specifications;
      world = there_now;
      arrives = record {
        d = set;
        arrives = refl;
        known = found.found;
        returns_to = refl;
        global = refl;
        memory = start.agrees main_at (length xs) main_even (omega (arith, main_low)) program.image
            (rows_of FUNCTIONS xs) c input row start_stands setting program refl imaged.each_byte_fits
            rows_published refl refl refl
            (record { closures = refl; spec_rows = refl; emit_stack = refl; cells = λ n a b. refl })
            (record { specifications = refl; closures = refl; bodies = refl });
        extents = start.extents main_at (length xs) main_even (omega (arith, main_low)) program.image
            (rows_of FUNCTIONS xs) c input row start_stands program;
        unused = refl;
        none = refl;
        fits = omega (arith, main_stands.charge, main_ready.ready.small);
        static = refl;
        objects_fit = omega (arith, main_stands.object, main_ready.short);
      };
      stands = record {
        world_is = world_of_tale 17 tale ∙ comes;
        told_is = told_by 17 tale refl silent;
      };
    }

    abbrev above : ℕ → State
    above i = upper base main shared i

    follows : FollowsAtCost UNIT_INSTRUCTIONS START_OPS_INSTRUCTIONS (meant program input) (λ i. see (above i))
        (λ i. least_at (above i)) (λ i. most_at (above i))
    follows =
        seams.lowering machine_of d program kinds input main (machine_is.ready tree accepted program meant_is number xs imaged own choice) main_stands have_functions
        (machine_is.has_program tree accepted program meant_is number xs imaged own choice)
        (machine_is.compiles_generated tree accepted program meant_is number xs imaged own choice input)

    -- the same of what is told
    told_follows : FollowsAtCost UNIT_INSTRUCTIONS START_OPS_INSTRUCTIONS (told_meaning program image input)
        (λ i. see_told base (above i)) (λ i. least_at (above i)) (λ i. most_at (above i))
    told_follows = record {
      goes_on = λ m none.
          let a = follows.goes_on m (same_ending (meant program input m).ending None none) in
          (a.0, a.1, a.2, ap (option_map (λ (e : End). e)) a.3, ap (flat_map (told_of program image)) a.4);
      ends = λ m e is.
          let a = follows.ends m e (same_ending (meant program input m).ending (Some e) is) in
          (a.0, a.1, ap (option_map (λ (e : End). e)) a.2, ap (flat_map (told_of program image)) a.3);
    }

    -- what is seen of the tale is what the run tells
    seen_alike : (n : ℕ) → see_tale (iterate tell n tale) ≡ tells image input row n
    unfolding run
    seen_alike n =
        ap (λ (w : World). let s : Seen Told End = record { history = (iterate tell n tale).told; ending = w.ending } in
        s)
        (world_of_tale n tale)
        ∙ ap (λ (h : List Told). let s : Seen Told End =
        record { history = h; ending = (iterate step n begins).ending } in s) (tale_told n tale)

    fine_for : (n : ℕ) → IsDefined image input row n → IsFine n begins
    unfolding run
    fine_for n defined i l = defined i l

    pays : (bound : ℕ) → IsDefined image input row bound
        → PaysWithin bound 49 (λ i. see_told base (above i)) (λ i. least_at (above i)) (λ i. most_at (above i))
        (tells image input row)
    pays bound defined =
        pays_alike bound 49 (λ i. see_told base (above i)) (λ i. least_at (above i)) (λ i. most_at (above i))
        (λ n. see_tale (iterate tell n tale)) (tells image input row) seen_alike
        (seams.simulated base c setting main shared 17 tale arrived bound (fine_for bound defined))

    pub unspoiled_run : (n : ℕ) → IsDefined image input row (UNIT_INSTRUCTIONS * n + (START_OPS_INSTRUCTIONS + 49))
        → IsUnspoiled n begins
    unspoiled_run n defined =
        seams.unspoiled base c setting main shared 17 tale arrived (code_unspoiled 17 begins
        (ap (λ (w : World). w.state.code) comes)) n UNIT_INSTRUCTIONS START_OPS_INSTRUCTIONS
        (told_meaning program image input) told_follows
        (fine_for (UNIT_INSTRUCTIONS * n + (START_OPS_INSTRUCTIONS + 49)) defined)

    -- the meaning doesn't end with a fault of the machine
    pub no_end : (m : ℕ) (k : MachineKind) (a : ℕ) → (told_meaning program image input m).ending ≡ Some (Fault k a) → ⊥
    no_end m k a is =
        let f = follows.ends m (Fault k a) (same_ending (meant program input m).ending (Some (Fault k a)) is) in
        no_fault (above f.0) k a (stays_faultless machine_of f.0 (first main shared) tt) f.2

  module _ (input : Input) where
    -- a run is covered as far as it is defined
    covered : (row : List Choice) (n : ℕ) → IsDefined image input row n
        → IsCovered UNIT_INSTRUCTIONS START_INSTRUCTIONS (told_meaning program image input) (tells image input row) n
    covered row n defined =
        covered_more n UNIT_INSTRUCTIONS (START_OPS_INSTRUCTIONS + 49) START_INSTRUCTIONS
        (told_meaning program image input) (tells image input row) (omega arith)
        (cover.covered image input UNIT_INSTRUCTIONS START_OPS_INSTRUCTIONS 49 (told_meaning program image input)
        (λ i. see_told base (above input row i)) (λ i. least_at (above input row i)) (λ i. most_at (above input row i))
        (told_follows input row) (λ r bound defined. pays input r bound defined) row n defined)

    faithful : (row : List Choice)
        → FourParts (IsDefined image input row) (told_meaning program image input) (tells image input row)
        UNIT_INSTRUCTIONS START_INSTRUCTIONS
    faithful row =
        four_parts_where_defined UNIT_INSTRUCTIONS START_INSTRUCTIONS (told_meaning program image input)
        (tells image input row) (IsDefined image input row) (omega arith) (covered row)

    faultless : (row : List Choice) (n : ℕ) → IsDefined image input row n
        → (k : MachineKind) (a : ℕ) → (runs image input row n).ending ≢ Some (Fault k a)
    faultless row n defined k a is =
        no_end input row n k a ((faithful row).ends_only_so n (Fault k a) defined is).ending

    is_clean : (row : List Choice) (n : ℕ) → IsDefined image input row n → IsClean image input row n
    is_clean row n defined =
        clean.clean image input UNIT_INSTRUCTIONS (START_OPS_INSTRUCTIONS + 49)
        (λ r k defined. unspoiled_run input r k defined) (λ r k defined. faultless r k defined) row n defined

    some : (n : ℕ) → (row : List Choice) × IsDefined image input row n
    unfolding run
    some n = let r = complete n (machine.begins image input []) in (r.row, λ i l. r.fine i l)

  pub headline : Headline program image
  headline = record {
    faithful = faithful;
    clean = is_clean;
    faultless = faultless;
    some = some;
  }
