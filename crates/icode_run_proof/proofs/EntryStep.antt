-- The call of a function that was compiled, as a step of a tale: what is told is that it is entered, and then its frame
-- is taken, or the run ends at the limit of the stack.
use Rattle.std.proofs.Common.{◌≡◌, inl, inr, ℕ, suc, ◌+◌, ◌<◌, ◌≤◌, true, false, List, [], ◌∷◌}
use Rattle.std.proofs.Common.{◌++◌, Option, Some, None, refl, sym, ap, ◌∙◌, subst, arith, nat_eq, nat_le, slice_get}
use Rattle.std.proofs.Common.{flat_map}
use Rattle.std.specs.Fn.{iterate}
use Rattle.std.proofs.lemmas.Bool.{cases_lt, eq-eqb}
use Rattle.std.proofs.lemmas.Bool.Decides.{nat_tests}
use Rattle.std.proofs.lemmas.Grind.{flat_map-append}
use Rattle.pace.proofs.Runs.{iterate_add}
use Rattle.pace.proofs.OnWay.{way_on}
use Rattle.word32.specs.declared.map.TheConstants.{FUNCTION_ROWS, STACK, STACK_BYTES}
use Rattle.limits.specs.declared.program.TheConstants.{FRAME_OBJECT_BYTES}
use Rattle.host_edge.specs.declared.ending.Ending.TheVariants.{Trap}
use Rattle.host_edge.specs.declared.ending.TrapKind.TheVariants.{StackLimit}
use Rattle.history.specs.Events.{Item, Ended}
use Rattle.history.specs.Events as item
use Rattle.mips_encoder.specs.Addresses.{past}
use Rattle.mips_model.specs.State.{Code, Data, World}
use Rattle.mips_model.specs.Steps.{step, going}
use Rattle.mips_model.specs.Laws.{HasAt, at}
use Rattle.mips_model.specs.Told.{Told, Entered, row_from, told}
use Rattle.mips_model.proofs.Reach.{past_append}
use Rattle.mips_model_laws.specs.Laws.{only, with_code}
use Rattle.mips_model_laws.specs.Tales.{Tale, tell, IsCalm}
use Rattle.mips_model_laws.specs.Clean.{IsUnspoiled}
use Rattle.mips_model_laws.proofs.Entrances.{AreNoEntries}
use Rattle.mips_model_laws.proofs.Seam.{world_of_tale, unspoiled_tale}
use Rattle.meaning_state.specs.Bodies.{Body}
use Rattle.meaning_state.specs.Rows.{parameters_of}
use Rattle.icode_ops.specs.declared.op.Op.{Op}
use Rattle.icode_ops.specs.declared.op.Op.TheVariants.{CallNumber}
use Rattle.icode_templates_proof.specs.Spots.{pointer}
use Rattle.icode_templates_proof.specs.Moves.{behind}
use Rattle.icode_meaning.specs.State.{Function, Frame, Log, State, Running, Halted, nothing, least_at, most_at}
use Rattle.icode_meaning.specs.Steps.{uses_on, paid, moved_on, begun, entered, enter, with_event, call_compiled}
use Rattle.icode_expand_proof.specs.Settings.{Setting, places_of}
use Rattle.icode_expand_proof.specs.Standing.{front_code, op_stands_at}
use Rattle.icode_expand_proof.specs.Relation.{StandsAt, Holds}
use Rattle.icode_expand_proof.proofs.Addresses.{past_rises}
use Rattle.icode_expand_proof.proofs.Codes.{front_stands, body_of}
use Rattle.icode_expand_proof.proofs.Entering.{rest_of}
use Rattle.icode_expand_proof.specs.Standing.{back_code}
use Rattle.icode_expand_proof.proofs.Entrance.{Enters, Arriving, holds_behind}
use Rattle.icode_expand_proof.proofs.Whole.{call_arrives}
use Rattle.closures_proof.specs.Relation.{HasSpecifications}
use Rattle.icode_run_proof.specs.Relation.{Base, told_of, text_of, functions_of, body_address, function_of, is_inside}
use Rattle.icode_run_proof.specs.Relation.{HasBody, Stood, StandsFor, Related}
use Rattle.icode_run_proof.proofs.Entering.{number_is, rows_of, with_history, stood_told, enters_told}
use Rattle.icode_run_proof.proofs.Entry.{begins, begins_tells, begins_unspoiled, is_over, over_tells, over_unspoiled}
use Rattle.icode_run_proof.proofs.Lifted.{Lifted, lifted, going_facts}
use Rattle.icode_run_proof.proofs.Present.{no_entries, has_rest}
use Rattle.icode_run_proof.proofs.Stepping.{Stepped, looks}
use Rattle.icode_run_proof.proofs.Tales.{tale_told}

module _ (b : Base) (c : Code) (s : Setting) (stood : Stood b c s)
    (has : HasSpecifications (text_of b) s.made s.written) (w : Frame) (arguments : ℕ → Option ℕ) (answer : Option ℕ)
    (waiting : List Frame) (log : Log) (x : World) (z : StandsAt s w arguments answer waiting log x) (t : Tale)
    (stands : StandsFor b c (Running w arguments answer waiting log) x t) (number n : ℕ)
    (i : slice_get w.function.ops w.index ≡ Some (CallNumber number n)) (u : uses_on (CallNumber number n) w.on ≡ true)
    (k : ℕ) (y : Body) (there : slice_get s.made.bodies k ≡ Some y) (live : y.live ≡ true)
    (takes : parameters_of y.syntax ≡ n) (value : w.values number ≡ suc (functions_of b + k)) where
  abbrev o : Op
  o = CallNumber number n

  abbrev f : Function
  f = function_of b y

  abbrev address : ℕ
  address = body_address y

  abbrev places : List ℕ
  places = s.places_at address

  abbrev a : ℕ
  a = op_stands_at w.function (places_of s w.function) w.index

  body : HasBody b c s k y
  body = stood.present.each k y there live

  -- ---- to the function's address

  arriving : Arriving s w arguments waiting log o (behind s.code a z.recent z.d) address
  arriving = call_arrives b.program s stood.standing stood.extends stood.serving (rows_of b c s stood) w arguments
      answer waiting log z.d z.holds z.recent z.few number n i u address
      (ap s.program.row value ∙ body.row ∙ ap (λ m. Some (address, m)) takes)

  abbrev d1 : Data
  d1 = arriving.after

  abbrev first : ℕ
  first = arriving.runs.count

  at_z : t.world ≡ going (behind c a z.recent z.d)
  at_z = stands.world_is ∙ ap (λ (v : World). let r : World = record v { state = with_code c v.state } in r) z.is

  abbrev way : World
  way = iterate step first (going (behind s.code a z.recent z.d))

  there_yet : Lifted b c (Running w arguments answer waiting log) way first t
  there_yet = lifted b c s stood a z.recent z.d log.shared.history z.holds.memory.table z.holds.memory.history
      z.holds.memory.making t at_z stands.told_is (Running w arguments answer waiting log) first
      (going_facts s (Running w arguments answer waiting log) way (at s.code address 0 d1) arriving.runs.reaches.by refl
      refl arriving.enters.memory.history arriving.enters.memory.making)

  abbrev t1 : Tale
  t1 = iterate tell first t

  at_entry : t1.world ≡ going (at c address 0 d1)
  at_entry = there_yet.stands.world_is
      ∙ ap (λ (v : World). let r : World = record v { state = with_code c v.state } in r) arriving.runs.reaches.by

  -- ---- what is told from there

  abbrev log1 : Log
  log1 = with_event (w.values number) (paid o log)

  abbrev s' : Setting
  s' = with_history log1.shared.history s

  stood' : Stood b c s'
  stood' = stood_told b c log1.shared.history s stood

  entering : Enters s' arguments (moved_on w ∷ waiting) log1 d1
  entering = enters_told (w.values number) s arguments (moved_on w ∷ waiting) (paid o log) d1 arriving.enters

  row_is : row_from FUNCTION_ROWS 0 address d1.table ≡ Some (w.values number)
  row_is = number_is b c s stood k y there live d1.table arriving.enters.memory.table
      ∙ ap (λ (m : ℕ). Some m) (sym value)

  none : AreNoEntries (is_inside s.made.bodies) d1.table
  none = no_entries b c s stood d1.table arriving.enters.memory.table

  rest_stands : HasAt (only (is_inside s.made.bodies) c) (address + 4) (rest_of (front_code f places))
  rest_stands =
      let rest = body_of f places ++ back_code f places in
      let e = past_append address (front_code f places) rest in
      let r = past_rises (past address (front_code f places)) rest in
      subst (λ (code : Code). HasAt code (address + 4) (rest_of (front_code f places))) stood.code_is
      (has_rest b c s stood k y there live (address + 4) (rest_of (front_code f places)) (omega arith) (omega arith)
      (omega (arith, e, r, body.within)) (front_stands c f places body.stands).1)

  tells : (m : ℕ) → told m (going (at c address 0 d1)) ≡ Entered (w.values number) ∷ []
      → (iterate tell m t1).told ≡ flat_map (told_of b) log1.shared.history
  tells m e =
      tale_told m t1
      ∙ ap (λ (l : List Told). l ++ told m t1.world) there_yet.stands.told_is
      ∙ ap (λ (v : World). flat_map (told_of b) log.shared.history ++ told m v) at_entry
      ∙ ap (λ (l : List Told). flat_map (told_of b) log.shared.history ++ l) e
      ∙ sym (flat_map-append (told_of b) log.shared.history (item.Entered (w.values number) ∷ []))

  -- so many instructions from there on
  on : (m : ℕ) (state : State) → least_at state ≤ log.least + (12 + m) → log.most + (15 + m) ≤ most_at state
      → Related b state (iterate tell m t1) → IsUnspoiled m (going (at c address 0 d1)) → Stepped b log state t
  on m state lo hi r fine =
      let runs = arriving.runs in
      record {
        count = first + m;
        low = omega (arith, lo, runs.over);
        high = omega (arith, hi, runs.under);
        related = subst (Related b state) (sym (iterate_add tell first m t)) r;
        calm = way_on tell IsCalm first m t there_yet.calm
            (unspoiled_tale m t1 (subst (IsUnspoiled m) (sym at_entry) fine));
      }

  top : pointer d1 ≤ 2147483648
  top = let e = entering.extents.used in omega (arith, e)

  is_ended : STACK_BYTES < log.shared.used + f.charge → Stepped b log (Halted (Ended (Trap StackLimit)) log1) t
  is_ended over =
      let e = entering.extents.used in
      let x = is_over address f.charge f.ops places c d1 (w.values number) (is_inside s.made.bodies) body.stands top
      (omega arith) row_is none rest_stands body.stands.suits.small entering.from (omega (arith, e, over)) in
      let state : State = Halted (Ended (Trap StackLimit)) log1 in
      let t2 = iterate tell x.count t1 in
      let world : t2.world ≡ iterate step x.count (going (at c address 0 d1)) =
      world_of_tale x.count t1 ∙ ap (iterate step x.count) at_entry in
      let code : t2.world.state.code ≡ c = ap (λ (v : World). v.state.code) world ∙ x.code_is in
      on x.count state (omega (arith, x.over)) (omega (arith, x.under))
      (looks b c state t2.world t2 (sym (ap (λ (v : World). v.ending) world ∙ x.ending))
      (record {
        world_is = ap (λ (k : Code). let r : World = record t2.world { state = with_code k t2.world.state } in r) code;
        told_is = tells x.count (over_tells address f.charge f.ops places c d1 (w.values number)
            (is_inside s.made.bodies) body.stands top (omega arith) row_is none rest_stands body.stands.suits.small
            entering.from (omega (arith, e, over)));
      }))
      (over_unspoiled address f.charge f.ops places c d1 (w.values number) (is_inside s.made.bodies) body.stands top
      (omega arith) row_is none rest_stands body.stands.suits.small entering.from (omega (arith, e, over)))

  goes_in : log.shared.used + f.charge ≤ STACK_BYTES → log.shared.frames + f.object ≤ FRAME_OBJECT_BYTES
      → Stepped b log (Running (begun f arguments) nothing None (moved_on w ∷ waiting) (entered f log1)) t
  goes_in room space =
      let e = entering.extents.used in
      let fits : f.charge + STACK ≤ pointer d1 = omega (arith, e, room) in
      let x = begins address f.charge f.ops places c d1 (w.values number) (is_inside s.made.bodies) body.stands top
      (omega arith) row_is none rest_stands fits entering.even entering.global in
      let state : State = Running (begun f arguments) nothing None (moved_on w ∷ waiting) (entered f log1) in
      let holds : Holds s' (begun f arguments) nothing None (moved_on w ∷ waiting) (entered f log1) x.after =
      holds_behind s' stood'.standing f body.known c arguments (moved_on w ∷ waiting) log1 d1 entering room space x in
      let m = x.runs.count in
      on m state (omega (arith, x.runs.over)) (omega (arith, x.runs.under))
      (record {
        code = c;
        setting = s';
        stood = stood';
        specifications = has;
        world = going (at s'.code (op_stands_at f places 0) 0 x.after);
        related = (stood'.standing, record { d = x.after; holds = holds; recent = 0; few = omega arith; is = refl });
        stands = record {
          world_is = world_of_tale m t1 ∙ ap (iterate step m) at_entry ∙ x.runs.reaches.by;
          told_is = tells m (begins_tells address f.charge f.ops places c d1 (w.values number)
              (is_inside s.made.bodies) body.stands top (omega arith) row_is none rest_stands fits entering.even
              entering.global);
        };
      })
      (begins_unspoiled address f.charge f.ops places c d1 (w.values number) (is_inside s.made.bodies) body.stands top
      (omega arith) row_is none rest_stands fits entering.even entering.global)

  enters_step : Stepped b log (enter f w arguments waiting log1) t
  enters_step = elim (cases_lt STACK_BYTES (log.shared.used + f.charge)) [
    | inl over ↦ (let out : nat_le (log.shared.used + f.charge) STACK_BYTES ≡ false = grind (arith, nat_tests, over) in
        rw out (is_ended over))
    | inr fits ↦ (let within : nat_le (log.shared.used + f.charge) STACK_BYTES ≡ true =
        grind (arith, nat_tests, fits) in
        let frames = entering.extents.frames in
        let space : log.shared.frames + f.object ≤ FRAME_OBJECT_BYTES = omega (arith, frames, entering.objects_to) in
        let room : nat_le (log.shared.frames + f.object) FRAME_OBJECT_BYTES ≡ true =
        grind (arith, nat_tests, space) in
        rw (within, room) (goes_in fits space))
  ]

  pub call_step : Stepped b log (call_compiled b.program o (w.values number) (Some y) n w arguments waiting log) t
  call_step =
      let same : nat_eq (parameters_of y.syntax) n ≡ true = eq-eqb (parameters_of y.syntax) n takes in
      rw (live, same) enters_step
