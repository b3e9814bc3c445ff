-- The op that compiles, where there is no trap: the machine is on its way to the function that it makes, and behind
-- that comes to the next op, in the setting that has the function.
use Rattle.std.proofs.Common.{◌≡◌, ℕ, suc, ◌+◌, ◌-◌, ◌<◌, ◌≤◌, Bool, true, false, List, [], ◌∷◌, ◌++◌, Option, Some}
use Rattle.std.proofs.Common.{None}
use Rattle.std.proofs.Common.{refl, sym, ap, ◌∙◌, subst, arith, slice_get, append_assoc, append-nil, flat_map, drop}
use Rattle.std.proofs.Common.{inl, inr}
use Rattle.std.proofs.lemmas.Bool.{cases_Bool, false≢true}
use Rattle.std.proofs.lemmas.Option.{get_or_from_slice_get}
use Rattle.std.proofs.lemmas.Grind.{flat_map-append}
use Rattle.std.specs.Fn.{iterate}
use Rattle.word32.specs.declared.map.TheConstants.{ARENA}
use Rattle.history.specs.Syntax.{Syntax}
use Rattle.history.specs.Events as item
use Rattle.mips_encoder.specs.declared.instruction.Instr.{Instr}
use Rattle.mips_encoder.specs.Addresses.{past}
use Rattle.mips_model.specs.State.{Built, Code, World}
use Rattle.mips_model.specs.Choices.{Choice}
use Rattle.mips_model.specs.Services.{next_choice}
use Rattle.mips_model.specs.Steps.{step, going}
use Rattle.mips_model.specs.Laws.{at, HasAt}
use Rattle.mips_model.specs.Run.{IsFine}
use Rattle.mips_model.specs.Told.{Made, told}
use Rattle.mips_model.proofs.Reach.{past_append}
use Rattle.mips_model_laws.specs.Laws.{with_code}
use Rattle.mips_model_laws.specs.Tales.{Tale, tell}
use Rattle.mips_model_laws.specs.Clean.{IsUnspoiled}
use Rattle.mips_model_laws.proofs.Seam.{world_of_tale}
use Rattle.meaning_state.specs.Bodies.{new_body}
use Rattle.meaning_state.specs.Shared.{Specification, Expression, Statement, Local, Param}
use Rattle.meaning_state.specs.Rows.{specification_at, table_trap, next_function, next_place}
use Rattle.meaning_state.specs.Rows.{arena_words, made}
use Rattle.staged_meaning.specs.Program.{syntax_size}
use Rattle.icode_ops.specs.declared.op.Op.{Op}
use Rattle.icode_ops.specs.declared.op.Op.TheVariants.{Run, ReturnZero}
use Rattle.icode_ops.specs.Flow.{op_at}
use Rattle.icode_ops.specs.declared.kind.RunKind.TheVariants as run
use Rattle.icode_templates.specs.Layout.{Spot}
use Rattle.icode_templates.specs.Templates.{load_code, wait_code, routine_code, out_code, routine_address}
use Rattle.icode_templates_proof.specs.Spots.{Usable}
use Rattle.icode_templates_proof.specs.Moves.{behind}
use Rattle.icode_meaning.specs.State.{Function, Frame, Log, Running}
use Rattle.icode_meaning.specs.Steps.{uses_on, compiled}
use Rattle.icode_expand_proof.specs.Settings.{Setting, places_of}
use Rattle.icode_expand_proof.specs.Standing.{code_of, front_code, back_code, layout_of, ops_at, op_stands_at}
use Rattle.icode_expand_proof.specs.Relation.{StandsAt}
use Rattle.icode_expand_proof.specs.Served.{is_of_ticks}
use Rattle.icode_expand_proof.proofs.Addresses.{past_rises, address_low}
use Rattle.icode_expand_proof.proofs.Codes.{op_code, body_of, aims_of, one_stands, next_at}
use Rattle.icode_expand_proof.proofs.Paying.{Operand}
use Rattle.icode_expand_proof.proofs.Recent.{IsGentle, load_gentle}
use Rattle.closures_proof.specs.Relation.{HasSpecifications, IsOf}
use Rattle.closures_proof.specs.CapturedWords.{IsOfWords}
use Rattle.closures_proof.proofs.CapturedWords.{of_words}
use Rattle.routine_spec.specs.Compile.{compile_code}
use Rattle.routine_spec.specs.Generator.{syntax_cost, generator_code}
use Rattle.generator_laws.specs.Laws.{HasGenerators}
use Rattle.compile_routine.specs.Laws.{HasArena, IsTickOf, compile_cost}
use Rattle.compile_routine.specs.Below.{GeneratorsAreLow}
use Rattle.compile_routine.specs.Made.{function_built, function_words, with_words}
use Rattle.compile_routine.specs.Ops.{OpMakes, compile_number, compile_op_code}
use Rattle.compile_routine.specs.Places.{place_address}
use Rattle.compile_routine.proofs.Ops.{ops_tell}
use Rattle.icode_run_proof.specs.Making.{Nothing}
use Rattle.icode_run_proof.specs.Relation.{Base, IsCompilable, text_of, functions_of, tick_count, told_of, is_idle}
use Rattle.icode_run_proof.specs.Relation.{is_inside, Stood, StandsFor, OnWay, CompilesAt}
use Rattle.icode_run_proof.proofs.Called.{op_stands, operand_of, usable_operand, usable_result}
use Rattle.icode_run_proof.proofs.Drafts.{draft_now, arena_now}
use Rattle.icode_run_proof.proofs.Kept.{has_full}
use Rattle.icode_run_proof.proofs.Tales.{tale_told, quiet_before, going_before}
use Rattle.icode_run_proof.proofs.First.{IsPlain, load_plain, over, goes_any, told_any, unspoiled_any, fine_any}
use Rattle.icode_run_proof.proofs.Behind.{IsNew, changed, stood', standing'}
use Rattle.icode_run_proof.proofs.CompileNew.{is_new}
use Rattle.icode_run_proof.proofs.CompileHolds.{bodies_is, number_is, after, holds_compiled}

-- an op's code is part of its function's
op_before : (f : Function) (places : List ℕ) (i : ℕ) (o : Op) → slice_get f.ops i ≡ Some o
    → past (op_stands_at f places i) (op_code f places o) ≤ past f.address (code_of f places)
op_before f places i o h =
    let front = front_code f places in
    let is = body_of f places in
    let e1 = past_append f.address front (is ++ back_code f places) in
    let e2 = past_append (past f.address front) is (back_code f places) in
    let r = past_rises (past (past f.address front) is) (back_code f places) in
    let low = address_low (layout_of f places) (aims_of f places) (ops_at f places) f.ops i o h in
    omega (arith, low, r, e1, e2)

module _ (b : Base) (generators : GeneratorsAreLow (text_of b) b.pieces (tick_count b)) (c : Code) (s : Setting)
    (stood : Stood b c s) (has : HasSpecifications (text_of b) s.made s.written) (w : Frame)
    (arguments : ℕ → Option ℕ) (answer : Option ℕ) (waiting : List Frame) (log : Log) (x : World)
    (z : StandsAt s w arguments answer waiting log x) (t : Tale)
    (stands : StandsFor b c (Running w arguments answer waiting log) x t) (to from : ℕ)
    (i : slice_get w.function.ops w.index ≡ Some (Run run.Compile to from))
    (u : uses_on (Run run.Compile to from) w.on ≡ true) where
  abbrev o : Op
  o = Run run.Compile to from

  abbrev f : Function
  f = w.function

  abbrev places : List ℕ
  places = places_of s f

  abbrev a : ℕ
  a = op_stands_at f places w.index

  abbrev spot : ℕ → Spot
  spot = (layout_of f places).spot

  abbrev function : ℕ
  function = next_function (functions_of b) log.shared

  on_full : (n : ℕ) (is : List Instr) → HasAt s.code n is → HasAt c n is
  on_full n is h =
      has_full (is_inside s.made.bodies) c n is (subst (λ (k : Code). HasAt k n is) stood.code_is h)

  -- a function that compiles is the text's
  static : f.compiled ≡ false
  static = elim (cases_Bool f.compiled) [
    | inr e ↦ e
    | inl e ↦ (let k = stood.present.known f.address f z.holds.known e in
        let has = stood.present.each k.0 k.1 k.2 k.3 in
        let same = sym z.holds.known ∙ ap s.program.function_at k.4 ∙ has.known in
        let ops : f.ops ≡ b.program.ops_of k.1.syntax = ap (λ (q : Option Function). ops_or q) same in
        let here : op_at f.ops w.index ≡ o = get_or_from_slice_get f.ops w.index o ReturnZero i in
        let plain : is_of_ticks (op_at f.ops w.index) ≡ false =
        ap (λ (l : List Op). is_of_ticks (op_at l w.index)) ops ∙ has.plain w.index in
        absurd (false≢true (sym plain ∙ ap is_of_ticks here)))
  ]
    where
      ops_or : Option Function → List Op
      ops_or None = []
      ops_or (Some g) = g.ops

  op_low : past a (compile_op_code (spot from) (spot to)) ≤ ARENA
  op_low =
      let low = stood.present.low f.address f z.holds.known static in
      let before = op_before f places w.index o i in
      omega (arith, low, before)

  code_there : HasAt c a (compile_op_code (spot from) (spot to))
  code_there = on_full a (compile_op_code (spot from) (spot to))
      (one_stands s.code f places (op_stands s stood.standing w arguments answer waiting log z.d z.holds) w.index o i)

  operand : Operand s w z.d from
  operand = operand_of s stood.standing w arguments answer waiting log z.d z.holds run.Compile to from i u

  usable_from : Usable f.charge (spot from)
  usable_from = usable_operand s stood.standing w arguments answer waiting log z.d z.holds from operand

  abbrev rest_of_op : List Instr
  rest_of_op = wait_code (spot from) ++ (routine_code compile_number ++ out_code (spot to))

  loads : HasAt c a (load_code 24 (spot from) ++ rest_of_op)
  loads = subst (HasAt c a) (append_assoc (load_code 24 (spot from)) (wait_code (spot from))
      (routine_code compile_number ++ out_code (spot to))) code_there

  gentle : IsGentle c a z.d
  gentle = load_gentle c a f.charge z.d (spot from) rest_of_op z.holds.ready.framed usable_from loads

  plain : IsPlain c a
  plain = load_plain c a (spot from) rest_of_op loads

  a_low : a < ARENA
  a_low = by (spot from) op_low
    where
      by : (v : Spot) → past a (compile_op_code v (spot to)) ≤ ARENA → a < ARENA
      by v low =
          let front = load_code 24 v ++ wait_code v in
          let call = routine_code compile_number ++ out_code (spot to) in
          let e = past_append a front call in
          let q = past_rises (past a front + 4) (drop 1 call) in
          let k = past_rises a front in
          omega (arith, low, e, q, k)

  at_z : t.world ≡ going (behind c a z.recent z.d)
  at_z = stands.world_is ∙ ap (λ (v : World). let r : World = record v { state = with_code c v.state } in r) z.is

  now : HasSpecifications (text_of b) log.shared z.d
  now = draft_now (text_of b) Nothing s w arguments answer waiting log z.d z.holds has

  arena : HasArena (functions_of b) log.shared z.d
  arena = arena_now (functions_of b) s log.shared z.d z.holds.memory.written z.holds.memory.made stood.arena

  has_generators : HasGenerators (text_of b) b.pieces (tick_count b) c
  has_generators = record {
    stands = λ tick l. on_full (b.generator_at tick) (generator_code (b.pieces tick))
        (stood.compiler.generators.stands tick l);
    low = stood.compiler.generators.low;
  }

  idle : is_idle z.d.outside.making
  idle = subst is_idle (sym z.holds.memory.making.making) stood.idle

  module _ (value_left : Bool) (syntax : Syntax)
      (tick_is : IsTickOf value_left syntax (specification_at (w.values from) log.shared))
      (table : table_trap function ≡ None) (ok : IsCompilable b value_left syntax) (place : ℕ)
      (place_is : next_place (arena_words (syntax_size b.program.source syntax)) log.shared ≡ Some place) where
    abbrev size : ℕ
    size = syntax_size b.program.source syntax

    abbrev built : Built
    built = function_built b.pieces value_left syntax

    abbrev choice : Choice
    choice = next_choice z.d.outside.making.row

    abbrev words : List ℕ
    words = function_words built choice (place_address place) size

    abbrev cost : ℕ
    cost = compile_cost value_left (syntax_cost b.pieces syntax)

    abbrev next : ℕ
    next = past a (compile_op_code (spot from) (spot to))

    abbrev Makes : Type 0
    Makes =
        OpMakes (text_of b) (functions_of b) syntax built words log.shared place (spot to) cost c a next z.d

    captured : IsOfWords syntax
    captured =
        of_words (text_of b) log.shared z.d (w.values from) syntax now
        (is_of value_left (specification_at (w.values from) log.shared) tick_is)
      where
        is_of : (v : Bool) (row : Option Specification) → IsTickOf v syntax row → IsOf syntax row
        is_of true (Some (Expression y)) h = h
        is_of false (Some (Statement y)) h = h
        is_of true (Some (Statement y)) h = absurd h
        is_of false (Some (Expression y)) h = absurd h
        is_of true (Some Local) h = absurd h
        is_of false (Some Local) h = absurd h
        is_of true (Some (Param k)) h = absurd h
        is_of false (Some (Param k)) h = absurd h
        is_of true None h = absurd h
        is_of false None h = absurd h

    -- what the law of the op says
    record Told : Type 0 where
      makes : Makes
      told_is : told makes.count (going (at c a 0 z.d)) ≡ Made function (Some built) ∷ []
      quiet : told (makes.count - makes.left) (going (at c a 0 z.d)) ≡ []

    tells : Told
    tells =
        let r = ops_tell (text_of b) b.pieces (functions_of b) c a f.charge log.shared place value_left syntax z.d
        (spot from) (spot to) op_low z.holds.ready.framed
        (usable_result s stood.standing w arguments answer waiting log z.d z.holds o to i refl) usable_from operand.word
        has_generators generators now arena ok.whole
        (subst (λ n. IsTickOf value_left syntax (specification_at n log.shared)) (sym operand.value_is) tick_is) table
        place_is (ok.fits z.d.outside.making idle)
        (on_full (routine_address compile_number) compile_code stood.compiler.routine) code_there in
        record { makes = r.0; told_is = r.2; quiet = r.3 }

    abbrev m : Makes
    m = tells.makes

    abbrev base : World
    base = going (behind c a 0 z.d)

    abbrev many : ℕ
    many = m.count

    -- ---- behind the op

    -- behind that many instructions of the tale, where the choices that are met are legal
    module _ (fine : IsFine m.count t.world) where
      fine_base : IsFine m.count base
      fine_base =
          fine_any c a z.recent z.d z.few gentle plain a_low m.count (subst (IsFine m.count) at_z fine)

      new : IsNew b c s (new_body syntax place (arena_words size)) choice.places words
      new = is_new b value_left syntax ok place choice m.fits m.within z.d.outside.making idle (m.chosen fine_base) c s
          log.shared z.holds.memory.made.bodies place_is table captured

      abbrev setting : Setting
      setting =
          after b c s stood w arguments answer waiting log z.d z.holds to from i syntax place place_is built
          choice.places
          words cost a next m new

      small : function < 4294967296
      small =
          let row = new.row in
          let e = number_is b c s stood w arguments answer waiting log z.d z.holds to from i syntax place place_is built
          choice.places words cost a next m in
          omega (arith, row, e)

      same_places : places_of setting f ≡ places_of s f
      same_places =
          (changed b c s stood (new_body syntax place (arena_words size)) choice.places words built m.after
          (made function syntax size log.shared)
          (bodies_is b c s stood w arguments answer waiting log z.d z.holds to from i syntax place place_is built
          choice.places words cost a next m) new).places f.address f refl z.holds.known

      abbrev there : World
      there = going (behind setting.code (op_stands_at f (places_of setting f) (suc w.index)) 0 m.after)

      runs : iterate step m.count t.world
          ≡ going (behind (with_words (place_address place) words c) (op_stands_at f (places_of setting f) (suc
          w.index)) 0
          m.after)
      runs =
          let over_5 = m.over in
          ap (iterate step m.count) at_z
          ∙ over c a z.recent z.d z.few gentle plain a_low m.count (omega (arith, over_5))
          ∙ m.reaches.by
          ∙ ap (λ n. going (behind (with_words (place_address place) words c) n 0 m.after))
          (sym (next_at f places w.index o i))
          ∙ ap (λ (p : List ℕ). going (behind (with_words (place_address place) words c) (op_stands_at f p (suc
          w.index)) 0
          m.after)) (sym same_places)

      tells_made : (iterate tell m.count t).told ≡ flat_map (told_of b)
          (log.shared.history ++ item.Made function syntax ∷ [])
      tells_made =
          tale_told m.count t
          ∙ ap (λ (v : World). t.told ++ told m.count v) at_z
          ∙ ap (λ l. t.told ++ l) (told_any c a z.recent z.d z.few gentle plain a_low m.count ∙ tells.told_is)
          ∙ ap (λ l. l ++ Made function (Some built) ∷ []) stands.told_is
          ∙ ap (λ (k : Built). flat_map (told_of b) log.shared.history ++ Made function (Some k) ∷ []) (sym ok.built)
          ∙ sym (flat_map-append (told_of b) log.shared.history (item.Made function syntax ∷ []))

      comes : (least most : ℕ)
          → OnWay b (compiled b.program syntax to w waiting (record log { least = least; most = most }))
          (iterate tell m.count t)
      comes least most = record {
        code = with_words (place_address place) words c;
        setting = setting;
        stood = stood' b c s stood (new_body syntax place (arena_words size)) choice.places words built m.after
            (made function syntax size log.shared)
            (bodies_is b c s stood w arguments answer waiting log z.d z.holds to from i syntax place place_is built
            choice.places words cost a next m) new m.arena;
        specifications = m.specifications;
        world = there;
        related = (
          standing' b c s stood (new_body syntax place (arena_words size)) choice.places words built m.after
              (made function syntax size log.shared)
              (bodies_is b c s stood w arguments answer waiting log z.d z.holds to from i syntax place place_is built
              choice.places words cost a next m) new,
          record {
            d = m.after;
            holds = holds_compiled b c s stood w arguments answer waiting log z.d z.holds to from i syntax place
                place_is
                built choice.places words cost a next m new least most small;
            recent = 0;
            few = omega arith;
            is = refl;
          },
        );
        stands = record {
          world_is = world_of_tale m.count t ∙ runs;
          told_is = tells_made;
        };
      }

    -- ---- on the way

    abbrev rest : ℕ
    rest = m.count - m.left

    whole : rest + m.left ≡ m.count
    whole = let few = m.few in omega (arith, few)

    cost_is : 59 + syntax_cost b.pieces syntax ≤ cost
    cost_is = by value_left
      where
        by : (v : Bool) → 59 + syntax_cost b.pieces syntax ≤ compile_cost v (syntax_cost b.pieces syntax)
        by true = omega arith
        by false = omega arith

    cost_most : cost ≤ 61 + syntax_cost b.pieces syntax
    cost_most = by value_left
      where
        by : (v : Bool) → compile_cost v (syntax_cost b.pieces syntax) ≤ 61 + syntax_cost b.pieces syntax
        by true = omega arith
        by false = omega arith

    base_goes : (k : ℕ) → k ≤ rest → (iterate step k base).ending ≡ None
    base_goes k l =
        let few = m.few in
        going_before k m.count base (at (with_words (place_address place) words c) next 0 m.after) m.reaches.by
        (omega (arith, l, few))

    pub goes : CompilesAt b size syntax to w waiting log t
    goes =
        let few = m.few in
        let up = m.over in
        let down = m.under in
        let least = m.least in
        let most = m.most in
        let low = ok.least in
        let high = ok.most in
        let some = ok.some in
        let over_59 = cost_is in
        let under_61 = cost_most in
        record {
          told_is = stands.told_is;
          rest = rest;
          low = omega (arith, few, up, most, over_59, low);
          high = omega (arith, few, down, least, under_61, high, some);
          goes = λ k l. ap (λ (v : World). v.ending) (world_of_tale k t ∙ ap (iterate step k) at_z)
              ∙ goes_any c a z.recent z.d z.few gentle plain a_low k (base_goes k l);
          quiet = λ k l. tale_told k t ∙ ap (λ (v : World). t.told ++ told k v) at_z
              ∙ ap (λ q. t.told ++ q) (told_any c a z.recent z.d z.few gentle plain a_low k
              ∙ quiet_before k rest base tells.quiet l) ∙ append-nil t.told;
          after = m.left;
          unspoiled = subst (λ n. IsUnspoiled n t.world) (sym whole)
              (subst (IsUnspoiled m.count) (sym at_z)
              (unspoiled_any c a z.recent z.d z.few gentle plain a_low m.count m.unspoiled));
          least = least;
          most = omega (arith, most);
          comes = λ fine cheap dear. subst (λ n. OnWay b (compiled b.program syntax to w waiting
              (record log { least = cheap; most = dear })) (iterate tell n t)) (sym whole)
              (comes (subst (λ n. IsFine n t.world) whole fine) cheap dear);
        }
