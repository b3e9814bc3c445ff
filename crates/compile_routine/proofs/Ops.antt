-- The op that compiles.
use Rattle.std.proofs.Common.{◌≡◌, ◌≢◌, ◌⊎◌, inl, inr, ℕ, suc, ◌+◌, ◌-◌, ◌*◌, ◌/◌, ◌%◌, ◌<◌, ◌≤◌, Bool, List, [], ◌∷◌}
use Rattle.std.proofs.Common.{◌++◌, length, Some, None, refl, sym, ap, ◌∙◌, subst, arith}
use Rattle.std.specs.Fn.{iterate}
use Rattle.std.proofs.lemmas.Bool.{cases_lt}
use Rattle.word32.specs.Space.{update}
use Rattle.word32.specs.declared.map.TheConstants.{ARENA, SEGMENT_BYTES, NEXT_FUNCTION_CELL, NEXT_ARENA_CELL}
use Rattle.host_edge.specs.declared.ending.Ending.TheVariants.{Trap}
use Rattle.host_edge.specs.declared.ending.TrapKind.{TrapKind}
use Rattle.history.specs.Events.{Ended}
use Rattle.history.specs.Syntax.{Syntax}
use Rattle.mips_encoder.specs.declared.instruction.Instr.{Instr}
use Rattle.mips_encoder.specs.Addresses.{past}
use Rattle.mips_model.specs.State.{Built, Outside, Code, Data, World}
use Rattle.mips_model.specs.Services.{next_choice}
use Rattle.mips_model.specs.Steps.{going, run, step}
use Rattle.mips_model.specs.Laws.{HasAt, Reaches, at}
use Rattle.mips_model.specs.Told.{Told, Made, told}
use Rattle.mips_model.proofs.Reach.{front, back, past_append, reaches_on}
use Rattle.mips_model.proofs.Told.{told-+}
use Rattle.mips_model_laws.specs.Laws.{bare, IsBelow}
use Rattle.mips_model_laws.specs.Clean.{IsUnspoiled}
use Rattle.mips_model_laws.proofs.Unspoiled.{quiet_unspoiled, unspoiled_on}
use Rattle.mips_model_laws.proofs.Standing.{text_there}
use Rattle.mips_model_laws.proofs.Below.{none_entered, runs_below, runs_carried}
use Rattle.meaning_state.specs.Bodies.{charged}
use Rattle.meaning_state.specs.Shared.{Shared}
use Rattle.meaning_state.specs.Rows.{specification_at, arena_words, table_trap, arena_trap, next_function}
use Rattle.staged_meaning.specs.Program.{syntax_size}
use Rattle.icode_templates.specs.Layout.{Spot}
use Rattle.mips_assembly.specs.Assembly.{addu}
use Rattle.icode_templates.specs.Templates.{in_code, out_code, routine_code, routine_address}
use Rattle.icode_templates_proof.specs.Spots.{pointer, value, Framed, Usable, KeepsSpots, IsOther, IsKept}
use Rattle.icode_templates_proof.specs.Moves.{Runs, Writes, EndsIn}
use Rattle.icode_templates_proof.proofs.Memory.{update_other}
use Rattle.icode_templates_proof.proofs.Leaves.{Leaves, leaves_run, runs_on, runs_within}
use Rattle.icode_templates_proof.proofs.Keeping.{with_registers, keeps_write, not_24}
use Rattle.icode_templates_proof.proofs.Operands.{one_in, in_leaves, keeps_one, in_between}
use Rattle.icode_templates_proof.proofs.Serving.{argument, argument_is}
use Rattle.icode_templates_proof.proofs.Templates.{finish}
use Rattle.icode_templates_proof.specs.MallocLaws.{linked, return_address}
use Rattle.icode_templates_proof.specs.Closures.{word_at}
use Rattle.icode_templates_proof.proofs.Kept.{and_write, linked_keeps}
use Rattle.icode_templates_proof.proofs.Calls.{call_reaches, brought}
use Rattle.icode_templates_proof.proofs.Calling.{routine_ends}
use Rattle.closures_proof.proofs.Kept.{returns_to}
use Rattle.closures_proof.specs.Relation.{Text, HasSpecifications}
use Rattle.closures_proof.proofs.Making.{kept}
use Rattle.closures_proof.proofs.TickSpots.{low_register, specifications_there}
use Rattle.closures_proof.proofs.Variables.{linked_there}
use Rattle.generator_laws.specs.Calls.{Finish, Flush, code_behind}
use Rattle.tick_lower_spec.specs.declared.piece.Piece.{Piece}
use Rattle.generator_laws.specs.Pieces.{IsWhole}
use Rattle.routine_spec.specs.Generator.{syntax_cost}
use Rattle.generator_laws.specs.Laws.{HasGenerators}
use Rattle.generator_laws.specs.Told.{without_entries}
use Rattle.mips_model.specs.Run.{IsFine}
use Rattle.generator_laws.proofs.Chosen.{fine_behind}
use Rattle.icode_ops.specs.Places.{IsLegal}
use Rattle.icode_ir.specs.Build.{finished}
use Rattle.generator_laws.proofs.Told.{own_tells, without-++, run_is, none_left_out}
use Rattle.routine_spec.specs.Compile.{compile_code}
use Rattle.compile_routine.specs.Laws.{HasArena, IsTickOf, arena_address, frame_bytes, compile_trap, compile_cost}
use Rattle.compile_routine.specs.Laws.{KeepsRegister}
use Rattle.compile_routine.specs.Made.{function_built, FitsServices, builder_of, function_words, with_words}
use Rattle.compile_routine.specs.Made.{MakesFunction}
use Rattle.compile_routine.specs.Ops.{compile_number, compile_op_code, OpMakes, OpsMakeFunctions, OpsTellFunctions}
use Rattle.compile_routine.proofs.Traps.{compile_ends}
use Rattle.compile_routine.proofs.Finishing.{text_stays}
use Rattle.compile_routine.specs.Places.{place_address}
use Rattle.compile_routine.proofs.Places.{place_is, no_trap}
use Rattle.compile_routine.proofs.Compiled.{in_table, in_arena}
use Rattle.compile_routine.proofs.Made.{function_made}
use Rattle.compile_routine.specs.Below.{GeneratorsAreLow}
use Rattle.compile_routine.proofs.Below.{below_on, compile_below}

-- the routine finds specifications and arena as they stood before the op
specifications_found : (text : Text) (shared : Shared) (to : ℕ) (d e : Data) → HasSpecifications text shared d →
    KeepsSpots (linked to d) e → HasSpecifications text shared e
specifications_found text shared to d e h q =
    kept text shared (linked to d) e q (linked_there text shared to d h)

arena_found : (functions : ℕ) (shared : Shared) (to : ℕ) (d e : Data) → HasArena functions shared d →
    KeepsSpots (linked to d) e → HasArena functions shared e
arena_found functions shared to d e h q = record {
  function = ap (λ (f : ℕ → ℕ). word_at f NEXT_FUNCTION_CELL) q.world.cells ∙ h.function;
  next = ap (λ (f : ℕ → ℕ). word_at f NEXT_ARENA_CELL) q.world.cells ∙ h.next;
  within = h.within;
  summed = h.summed;
}

pub compile_op_ends : (text : Text) (functions : ℕ) (c : Code) (a bytes : ℕ) (shared : Shared) (d : Data) (from : Spot)
    (rest : List Instr) (kind : TrapKind) → past a (in_code from) + 12 < SEGMENT_BYTES →
    Framed (pointer d) bytes → Usable bytes from → value d from < 4294967296 →
    HasSpecifications text shared d → HasArena functions shared d →
    compile_trap text.program (next_function functions shared) (specification_at (value d from) shared) shared
    ≡ Some kind → HasAt c (routine_address compile_number) compile_code →
    HasAt c a (in_code from ++ (routine_code compile_number ++ rest)) →
    EndsIn 10 33 (Ended (Trap kind)) (at c a 0 d) c d.outside
compile_op_ends text functions c a bytes shared d from rest kind low f u b hs ha some stands h =
    let to = return_address a from in
    routine_ends compile_number 6 26 (Ended (Trap kind)) c a bytes d from rest low (omega arith) f u b
    (λ e q is.
    compile_ends text functions shared e (specifications_found text shared to d e hs q)
    (arena_found functions shared to d e ha q) (subst (λ n. n < 4294967296) (sym is) b) c
    (routine_address compile_number) (omega arith) stands kind
    (ap (λ n. compile_trap text.program (next_function functions shared) (specification_at n shared) shared) is ∙ some))
    h

-- ---- a compile

module _ (text : Text) (pieces : ℕ → List Piece) (functions : ℕ) (c : Code) (a bytes : ℕ) (shared : Shared)
    (is_value : Bool) (syntax : Syntax) (d : Data) (from w : Spot) (low : past a (compile_op_code from w) ≤ ARENA)
    (f : Framed (pointer d) bytes) (u : Usable bytes w) (u' : Usable bytes from) (b : value d from < 4294967296)
    (has : HasGenerators text pieces (length text.program.ticks) c) (hs : HasSpecifications text shared d)
    (ha : HasArena functions shared d) (whole : IsWhole pieces (length text.program.ticks) syntax)
    (is : IsTickOf is_value syntax (specification_at (value d from) shared))
    (table : table_trap (next_function functions shared) ≡ None)
    (arena : arena_trap (syntax_size text.program syntax) shared ≡ None)
    (taken : FitsServices (function_built pieces is_value syntax) (syntax_size text.program syntax) d.outside.making)
    (stands : HasAt c (routine_address compile_number) compile_code) (h : HasAt c a (compile_op_code from w)) where
  abbrev to : ℕ
  to = return_address a from

  abbrev here : ℕ
  here = past a (in_code from)

  abbrev block : ℕ
  block = routine_address compile_number

  abbrev function : Built
  function = function_built pieces is_value syntax

  abbrev size : ℕ
  size = syntax_size text.program syntax

  abbrev row : ℕ
  row = next_function functions shared

  abbrev address : ℕ
  address = arena_address shared

  abbrev words : List ℕ
  words = function_words function (next_choice d.outside.making.row) address size

  abbrev cost : ℕ
  cost = compile_cost is_value (syntax_cost pieces syntax)

  abbrev behind : Code
  behind = with_words address words c

  -- the argument came in, and then to $a0, and the routine is entered
  abbrev mid : Data
  mid = one_in from d

  abbrev passed : Data
  passed = with_registers (update 4 (argument mid) mid.registers) mid

  abbrev e : Data
  e = linked to passed

  pub keeps : KeepsSpots (linked to d) e
  keeps = linked_keeps to (and_write 4 (argument mid) mid (omega arith) (keeps_one from d))

  given : e.registers 4 ≡ value d from
  given = argument_is from d b

  pub way : past a (compile_op_code from w) ≡ past (to + 4) (out_code w)
  way = past_append a (in_code from) (routine_code compile_number ++ out_code w)

  near : to + 4 ≤ ARENA
  near = let r = rises (to + 4) (out_code w) in omega (arith, way, r, low)
    where
      rises : (x : ℕ) (is : List Instr) → x ≤ past x is
      rises x [] = omega arith
      rises x (i ∷ is) = let r = rises (x + 4) is in omega (arith, r)

  tail : (k : Code) → HasAt k a (compile_op_code from w) → HasAt k here (routine_code compile_number ++ out_code w)
  tail k h = back k a (in_code from) (routine_code compile_number ++ out_code w) h

  moves : Leaves (addu 4 24 0 ∷ []) 0 mid 0 passed
  moves more = refl

  -- on any code that has the op
  comes_in : (k : Code) → HasAt k a (compile_op_code from w) → Runs 4 7 (at k a 0 d) (at k block 0 e)
  comes_in k h =
      let n = in_between from in
      let behind_in = tail k h in
      let first = leaves_run (in_code from) k 0 0 a d mid (in_leaves d bytes from f u' b)
      (front k a (in_code from) (routine_code compile_number ++ out_code w) h) in
      let second = leaves_run (addu 4 24 0 ∷ []) k 0 0 here mid passed moves (behind_in.0, tt) in
      let third = call_reaches k (here + 4) block passed (omega (arith, near)) (omega arith) refl
      (behind_in.1.0, (behind_in.1.1.0, tt)) in
      runs_on {l = 2} {m = 5}
      (runs_on {l = 1} {m = 4} (runs_within n.over n.under first)
      (runs_within {l = 1} {m = 1} (omega arith) (omega arith) second))
      (runs_within {l = 2} {m = 2} (omega arith) (omega arith) third)

  -- so on bare code, and then on the code itself
  pub bare_comes : Runs 4 7 (at (bare c) a 0 d) (at (bare c) block 0 e)
  bare_comes = comes_in (bare c) (text_there c (bare c) a (compile_op_code from w) low refl h)

  abbrev comes : Runs 4 7 (at c a 0 d) (at c block 0 e)
  comes = record {
    count = bare_comes.count;
    over = bare_comes.over;
    under = bare_comes.under;
    reaches = runs_carried bare_comes.count (at c a 0 d) (at c block 0 e) bare_comes.reaches refl;
  }

  pub y : MakesFunction text functions syntax function words shared cost c block e
  y =
      function_made text pieces functions c block shared is_value syntax e (omega arith) has
      (specifications_found text shared to d e hs keeps) (arena_found functions shared to d e ha keeps) whole
      (subst (λ n. IsTickOf is_value syntax (specification_at n shared)) (sym given) is)
      (subst (λ n. n < 4294967296) (sym given) b) table arena taken stands

  abbrev last : Data
  last = y.after

  -- the answer to its spot, in the code that has the new words
  abbrev after_code : List Instr
  after_code = addu 24 2 0 ∷ out_code w

  there : HasAt behind to after_code
  there =
      let finish_call = Finish address (arena_words size) (frame_bytes size) words in
      text_stays (Flush address (length words)) (code_behind finish_call c) to after_code (omega (arith, way, low))
      (text_stays finish_call c to after_code (omega (arith, way, low)) (tail c h).1.1.1)

  row_word : row < 4294967296
  row_word = let t = in_table row table in omega (arith, t)

  pub pointer_same : pointer last ≡ pointer d
  pointer_same =
      y.registers 29 (inr (inr (omega arith, omega arith)))
      ∙ keeps.registers 29 (omega arith, omega arith, omega arith)

  done_in : (k : Code) → HasAt k to after_code → Writes w row 2 4 (at k to 0 last) k (past to after_code) last
  done_in k there =
      let leaves : Leaves (addu 24 2 0 ∷ []) 0 last 0 (brought last) = λ more. refl in
      let same : (last.registers 2 + 0) % 4294967296 ≡ row = omega (arith, y.answer, row_word) in
      finish after_code (addu 24 2 0 ∷ []) 1 1 k to bytes last last (brought last) w row refl
      (subst (λ n. Framed n bytes) (sym pointer_same) f) u row_word
      (record { over = omega arith; under = omega arith }) leaves
      (keeps_write 24 ((last.registers 2 + 0) % 4294967296) last not_24) same there

  pub bare_done : Writes w row 2 4 (at (bare behind) to 0 last) (bare behind) (past to after_code) last
  bare_done =
      done_in (bare behind)
      (text_there behind (bare behind) to after_code (omega (arith, way, low)) refl there)

  abbrev done : Writes w row 2 4 (at behind to 0 last) behind (past to after_code) last
  done = record {
    after = bare_done.after;
    runs = record {
      count = bare_done.runs.count;
      over = bare_done.runs.over;
      under = bare_done.runs.under;
      reaches = runs_carried bare_done.runs.count (at behind to 0 last)
          (at behind (past to after_code) 0 bare_done.after) bare_done.runs.reaches
          (ap (λ (o : Outside). o.flushes) bare_done.puts.world.outside);
    };
    puts = bare_done.puts;
  }

  -- what is told on the way
  pub tells : without_entries (told (comes.count + (cost + done.runs.count)) (going (at c a 0 d)))
      ≡ Made row (Some function) ∷ []
  tells =
      let s = at c a 0 d in
      let s1 = at c block 0 e in
      let s2 = at behind to 0 last in
      let to1 : run comes.count (going s) ≡ going s1 = run_is comes.count (going s) ∙ comes.reaches.by in
      let to2 : run cost (going s1) ≡ going s2 =
      run_is cost (going s1) ∙ y.reaches.by ∙ ap (λ n. going (at behind n 0 last)) back_to in
      let first = own_tells comes.count s s1 (record { by = comes.reaches; kept = refl }) in
      let third = own_tells done.runs.count s2 (at behind (past to after_code) 0 done.after)
      (record { by = done.runs.reaches; kept = done.puts.world.outside }) in
      ap without_entries (told-+ comes.count (cost + done.runs.count) (going s))
      ∙ without-++ (told comes.count (going s)) (told (cost + done.runs.count) (run comes.count (going s)))
      ∙ ap (λ (xs : List Told). xs ++ without_entries (told (cost + done.runs.count) (run comes.count (going s)))) first
      ∙ ap (λ (x : World). without_entries (told (cost + done.runs.count) x)) to1
      ∙ ap without_entries (told-+ cost done.runs.count (going s1))
      ∙ without-++ (told cost (going s1)) (told done.runs.count (run cost (going s1)))
      ∙ ap (λ (xs : List Told). xs ++ without_entries (told done.runs.count (run cost (going s1)))) y.told
      ∙ ap (λ (x : World). Made row (Some function) ∷ without_entries (told done.runs.count x)) to2
      ∙ ap (λ (xs : List Told). Made row (Some function) ∷ xs) third
    where
      back_to : e.registers 31 ≡ to
      back_to = returns_to to d e keeps

  -- nor is an unwritten word flushed
  pub unspoiled : IsUnspoiled (comes.count + (cost + done.runs.count)) (going (at c a 0 d))
  unspoiled =
      let s = at c a 0 d in
      let s1 = at c block 0 e in
      let s2 = at behind to 0 last in
      let there : iterate step cost (going s1) ≡ going s2 =
      y.reaches.by ∙ ap (λ n. going (at behind n 0 last)) (returns_to to d e keeps) in
      let out : IsUnspoiled done.runs.count (going s2) =
      quiet_unspoiled done.runs.count (going s2)
      (ap (λ (x : World). x.state.d.outside.flushes) done.runs.reaches.by
      ∙ ap (λ (o : Outside). o.flushes) done.puts.world.outside) in
      let into : IsUnspoiled comes.count (going s) =
      quiet_unspoiled comes.count (going s) (ap (λ (x : World). x.state.d.outside.flushes) comes.reaches.by) in
      unspoiled_on comes.count (cost + done.runs.count) (going s) into
      (subst (IsUnspoiled (cost + done.runs.count)) (sym comes.reaches.by)
      (unspoiled_on cost done.runs.count (going s1) y.unspoiled
      (subst (IsUnspoiled done.runs.count) (sym there) out)))

  -- nothing is told up to the service that publishes
  pub quiet : without_entries (told (comes.count + y.before) (going (at c a 0 d))) ≡ []
  quiet =
      let s = at c a 0 d in
      let s1 = at c block 0 e in
      let to1 : run comes.count (going s) ≡ going s1 = run_is comes.count (going s) ∙ comes.reaches.by in
      let first = own_tells comes.count s s1 (record { by = comes.reaches; kept = refl }) in
      ap without_entries (told-+ comes.count y.before (going s))
      ∙ without-++ (told comes.count (going s)) (told y.before (run comes.count (going s)))
      ∙ ap (λ (xs : List Told). xs ++ without_entries (told y.before (run comes.count (going s)))) first
      ∙ ap (λ (x : World). without_entries (told y.before x)) to1 ∙ y.quiet

  abbrev pub left : ℕ
  left = 6 + done.runs.count

  pub up_to : comes.count + (cost + done.runs.count) - left ≡ comes.count + y.before
  up_to = let e = y.counted in omega (arith, e)

  -- the choice that is met in the routine
  pub chosen : IsFine (comes.count + (cost + done.runs.count)) (going (at c a 0 d)) →
      IsLegal (finished (builder_of function)) (builder_of function).registers (next_choice d.outside.making.row).places
  chosen fine =
      let there : IsFine (cost + done.runs.count) (going (at c block 0 e)) =
      fine_behind comes.count (cost + done.runs.count) (at c a 0 d) (at c block 0 e) comes.reaches fine in
      y.chosen (λ i l. there i (omega (arith, l)))

  abbrev pub op_makes :
      OpMakes text functions syntax function words shared (charged shared.bodies) w cost c a
      (past a (compile_op_code from w)) d
  op_makes =
      let global : done.after.registers 28 ≡ last.registers 28 =
      done.puts.registers 28 (omega arith, omega arith, omega arith)
      (let low = low_register bytes w u in (λ is. omega (arith, low, is))) in
      record {
        after = done.after;
        count = comes.count + (cost + done.runs.count);
        over = omega (arith, comes.over, done.runs.over);
        under = omega (arith, comes.under, done.runs.under);
        reaches = subst (λ n. Reaches (comes.count + (cost + done.runs.count)) (at c a 0 d) (at behind n 0 done.after))
            (sym way)
            (reaches_on comes.reaches (reaches_on (reaches_back y.reaches) done.runs.reaches));
        number = done.puts.value_is;
        registers = λ r k n. done.puts.registers r (is_kept r k) n ∙ y.registers r k ∙ keeps.registers r (is_kept r k)
            ∙ update_other 31 to d.registers r (not_link r k);
        stack = λ n o. done.puts.stack n (subst (λ p. IsOther p w n) (sym pointer_same) o)
            ∙ ap (λ (x : Data). x.stack n) y.rest;
        objects = done.puts.world.objects ∙ ap (λ (x : Data). x.objects) y.rest;
        closures = done.puts.world.closures ∙ ap (λ (x : Data). x.closures) y.rest;
        spec_rows = done.puts.world.spec_rows ∙ ap (λ (x : Data). x.spec_rows) y.rest;
        cells = λ n x z. ap (λ (k : ℕ → ℕ). k n) done.puts.world.cells
            ∙ ap (λ (k : Data). k.cells n) y.rest
            ∙ update_other (NEXT_FUNCTION_CELL / 4) (suc row)
            (update (NEXT_ARENA_CELL / 4) (address + 4 * arena_words size) d.cells) n x
            ∙ update_other (NEXT_ARENA_CELL / 4) (address + 4 * arena_words size) d.cells n z;
        table = done.puts.world.table ∙ ap (λ (x : Data). x.table) y.rest;
        passed = done.puts.world.outside ∙ y.passed;
        told = tells;
        unspoiled = unspoiled;
        left = left;
        least = omega (arith, done.runs.over);
        most = omega (arith, done.runs.under);
        few = (let e = y.counted in omega (arith, e, comes.over));
        quiet = ap (λ n. without_entries (told n (going (at c a 0 d)))) up_to ∙ quiet;
        chosen = chosen;
        fits = y.fits;
        within = in_arena size shared ha.summed arena;
        specifications = specifications_there text _ last done.after done.puts.world global y.specifications;
        arena = record {
          function = ap (λ (g : ℕ → ℕ). word_at g NEXT_FUNCTION_CELL) done.puts.world.cells ∙ y.arena.function;
          next = ap (λ (g : ℕ → ℕ). word_at g NEXT_ARENA_CELL) done.puts.world.cells ∙ y.arena.next;
          within = y.arena.within;
          summed = y.arena.summed;
        };
      }
    where
      reaches_back : Reaches cost (at c block 0 e) (at behind (e.registers 31) 0 last) →
          Reaches cost (at c block 0 e) (at behind to 0 last)
      reaches_back r =
          subst (λ n. Reaches cost (at c block 0 e) (at behind n 0 last)) (returns_to to d e keeps) r

      is_kept : (r : ℕ) → KeepsRegister r → IsKept r
      is_kept r (inl k) = (k.0, (λ x. omega (arith, k.1, x)), (λ x. omega (arith, k.1, x)))
      is_kept r (inr (inl k)) =
          (omega (arith, k.0), (λ x. omega (arith, k.1, x)), (λ x. omega (arith, k.1, x)))
      is_kept r (inr (inr k)) =
          (omega (arith, k.0), (λ x. omega (arith, k.0, x)), (λ x. omega (arith, k.0, x)))

      not_link : (r : ℕ) → KeepsRegister r → r ≢ 31
      not_link r (inl k) x = omega (arith, k.1, x)
      not_link r (inr (inl k)) x = omega (arith, k.1, x)
      not_link r (inr (inr k)) x = k.1 x

  -- where the functions of the ticks stand below the arena, the machine stays there
  module _ (generators : GeneratorsAreLow text pieces (length text.program.ticks)) where
    pub op_below : IsBelow (comes.count + (cost + done.runs.count)) (at c a 0 d)
    op_below =
        let into = runs_below bare_comes.count (at c a 0 d) (at (bare c) block 0 e) bare_comes.reaches refl in
        let routine = compile_below text pieces functions c block shared is_value syntax e (omega arith) has generators
        (specifications_found text shared to d e hs keeps) (arena_found functions shared to d e ha keeps) whole
        (subst (λ n. IsTickOf is_value syntax (specification_at n shared)) (sym given) is)
        (subst (λ n. n < 4294967296) (sym given) b) table arena taken stands in
        let out = runs_below bare_done.runs.count (at behind to 0 last)
        (at (bare behind) (past to after_code) 0 bare_done.after) bare_done.runs.reaches
        (ap (λ (o : Outside). o.flushes) bare_done.puts.world.outside) in
        let back_to = returns_to to d e keeps in
        below_on comes.count (cost + done.runs.count) (at c a 0 d) (at c block 0 e) comes.reaches into
        (below_on cost done.runs.count (at c block 0 e) (at behind to 0 last)
        (subst (λ n. Reaches cost (at c block 0 e) (at behind n 0 last)) back_to y.reaches) routine out)

    pub op_tells : told (comes.count + (cost + done.runs.count)) (going (at c a 0 d)) ≡ Made row (Some function) ∷ []
    op_tells =
        let count = comes.count + (cost + done.runs.count) in
        none_left_out count (going (at c a 0 d)) (none_entered count (at c a 0 d) op_below) ∙ tells

    pub op_silent : told (comes.count + (cost + done.runs.count) - left) (going (at c a 0 d)) ≡ []
    op_silent =
        let n = comes.count + (cost + done.runs.count) - left in
        none_left_out n (going (at c a 0 d)) (none_entered n (at c a 0 d) (λ i l. op_below i (omega (arith, l))))
        ∙ ap (λ m. without_entries (told m (going (at c a 0 d)))) up_to ∙ quiet

-- ---- the registers that a call saves

-- each is kept: of what the convention says of a callee-saved register, in its own terms
pub saved_kept : (r : ℕ) → IsKept r → r ≢ 31 → (r < 12) ⊎ (16 ≤ r) → KeepsRegister r
saved_kept r kept other (inl low) = inl (kept.0, low)
saved_kept r kept other (inr high) = elim (cases_lt r 24) [
  | inl l ↦ inr (inl (high, l))
  | inr l ↦ (let a = kept.1 in let b = kept.2 in
      inr (inr (
        elim (cases_lt r 25) [
          | inl m ↦ absurd (a (omega (arith, l, m)))
          | inr m ↦ elim (cases_lt r 26) [
            | inl n ↦ absurd (b (omega (arith, m, n)))
            | inr n ↦ n
          ]
        ],
        other,
      )))
]

-- ---- at the place that there is

pub ops_made : OpsMakeFunctions
ops_made text pieces functions c a bytes shared place is_value syntax d from to low f u u2 b has hs ha whole is table
    placed taken stands h =
    let size = syntax_size text.program syntax in
    let function = function_built pieces is_value syntax in
    let behind = past a (compile_op_code from to) in
    let cost = compile_cost is_value (syntax_cost pieces syntax) in
    subst (λ n. OpMakes text functions syntax function
    (function_words function (next_choice d.outside.making.row) (place_address n) size) shared n to cost c a behind d)
    (sym (place_is size shared ha.summed place placed).is)
    (op_makes text pieces functions c a bytes shared is_value syntax d from to low f u u2 b has hs ha whole is table
    (no_trap size shared place placed) taken stands h)

pub ops_tell : OpsTellFunctions
ops_tell text pieces functions c a bytes shared place is_value syntax d from to low f u u2 b has generators hs ha whole
    is table placed taken stands h =
    let size = syntax_size text.program syntax in
    let function = function_built pieces is_value syntax in
    let behind = past a (compile_op_code from to) in
    let cost = compile_cost is_value (syntax_cost pieces syntax) in
    let arena = no_trap size shared place placed in
    subst (λ n. (m : OpMakes text functions syntax function
    (function_words function (next_choice d.outside.making.row) (place_address n) size) shared n to cost c a behind d)
    × IsBelow m.count (at c a 0 d)
    × (told m.count (going (at c a 0 d)) ≡ Made (next_function functions shared) (Some function) ∷ [])
    × (told (m.count - m.left) (going (at c a 0 d)) ≡ []))
    (sym (place_is size shared ha.summed place placed).is) (
      op_makes text pieces functions c a bytes shared is_value syntax d from to low f u u2 b has hs ha whole is table
          arena taken stands h,
      op_below text pieces functions c a bytes shared is_value syntax d from to low f u u2 b has hs ha whole is table
          arena taken stands h generators,
      op_tells text pieces functions c a bytes shared is_value syntax d from to low f u u2 b has hs ha whole is table
          arena taken stands h generators,
      op_silent text pieces functions c a bytes shared is_value syntax d from to low f u u2 b has hs ha whole is table
          arena taken stands h generators,
    )
