-- The whole run of the routine.
use Rattle.std.proofs.Common.{◌≡◌, ◌≢◌, ◌⊎◌, inl, inr, ℕ, zero, suc, ◌+◌, ◌*◌, ◌/◌, ◌%◌, ◌<◌, ◌≤◌, Bool, true, false}
use Rattle.std.proofs.Common.{List, [], ◌∷◌}
use Rattle.std.proofs.Common.{◌++◌, length, Option, Some, None, refl, sym, ap, ◌∙◌, subst, arith, nat_lt, nat_le}
use Rattle.std.proofs.lemmas.Bool.{cases_Bool, lt-ltb, ne_eqb}
use Rattle.std.proofs.lemmas.Bool.Decides.{nat_tests}
use Rattle.std.proofs.lemmas.Option.{slice_get_within}
use Rattle.limits.specs.declared.program.TheConstants.{SIZE_LIMIT}
use Rattle.word32.specs.declared.map.TheConstants.{ARENA, ARENA_BYTES, ARENA_WORDS, EMIT_STACK, EMIT_STACK_BYTES}
use Rattle.word32.specs.declared.map.TheConstants.{FUNCTION_ROWS, SPEC_ROW_BYTES}
use Rattle.word32.specs.declared.map.TheConstants.{NEXT_FUNCTION_CELL, NEXT_ARENA_CELL}
use Rattle.host_edge.specs.declared.ending.TrapKind.TheVariants.{TableLimit, ArenaLimit}
use Rattle.history.specs.Syntax.{Syntax, Ticked}
use Rattle.code_arena.specs.Rows.{published}
use Rattle.mips_model.specs.State.{Code, Data}
use Rattle.mips_model.specs.Laws.{HasAt, at, Reaches}
use Rattle.mips_encoder.specs.Addresses.{past}
use Rattle.mips_model.proofs.Reach.{front, back}
use Rattle.icode_ops.specs.Kinds.{closure_number}
use Rattle.icode_ops.specs.declared.kind.ClosureKind.{ClosureKind}
use Rattle.icode_ops.specs.declared.kind.ClosureKind.TheVariants as closure
use Rattle.meaning_state.specs.Bodies.{charged, AreSummed}
use Rattle.meaning_state.specs.Shared.{Shared, Specification, Expression, Statement, Local, Param}
use Rattle.meaning_state.specs.Rows.{numbered, specification_at, parameters_of, arena_words, table_trap, arena_trap}
use Rattle.meaning_state.specs.Rows.{next_function}
use Rattle.staged_meaning.specs.Program.{syntax_size}
use Rattle.icode_templates_proof.specs.Closures.{Head, Closure, word_at, with_word, closure_of, row_count}
use Rattle.icode_templates_proof.proofs.Checking.{bytes_least}
use Rattle.closures_proof.specs.Relation.{Text, tick_of, syntax_head, IsOf, HasSpecifications}
use Rattle.closures_proof.specs.Laws.{kind_of_tick}
use Rattle.generator_laws.specs.Calls.{Call, Begin, Finish, Flush, Publish, Asks, Own, code_behind, data_behind}
use Rattle.generator_laws.specs.Calls.{RunsWith}
use Rattle.generator_laws.specs.Calls.{issuing}
use Rattle.tick_lower_spec.specs.declared.piece.Piece.{Piece}
use Rattle.generator_laws.specs.Pieces.{syntax_ops, IsWhole}
use Rattle.routine_spec.specs.Generator.{syntax_cost, syntax_depth}
use Rattle.generator_laws.specs.Laws.{HasGenerators, others, Enters, Generates}
use Rattle.icode_ir.specs.declared.build_op.BuildOp.{BuildOp}
use Rattle.generator_laws.proofs.Runs.{runs_on, runs_behind, runs_counted}
use Rattle.generator_laws.proofs.Found.{Live, live}
use Rattle.generator_laws.proofs.Depths.{depth_small}
use Rattle.generator_laws.proofs.Generating.{generated, specifications_stay}
use Rattle.routine_spec.specs.Compile.{build_code, make_code, traps_code, compile_code}
use Rattle.compile_routine.proofs.Places.{limit_is}
use Rattle.compile_routine.specs.Laws.{HasArena, IsTickOf, return_ops, arena_address, compile_calls, made_data}
use Rattle.compile_routine.specs.Laws.{frame_bytes, compile_cost}
use Rattle.compile_routine.specs.Laws.{KeepsRegister, Compiles}
use Rattle.compile_routine.proofs.Tests.{less, Sees, p25, at25, m15, passes}
use Rattle.compile_routine.proofs.Traps.{sees}
use Rattle.compile_routine.proofs.Building.{Tested, Built, built_value, built_statement}
use Rattle.compile_routine.proofs.Finishing.{Ready, make_goes, f4, f10, f15, kept, left, p8, tail_code, finish_goes}
use Rattle.compile_routine.proofs.Finishing.{flush_asks}
use Rattle.compile_routine.proofs.Finishing.{tail_stands, publish_comes, tail_goes}

-- the specification of a tick, whichever it is
is_of : (is_value : Bool) (syntax : Syntax) (o : Option Specification) → IsTickOf is_value syntax o → IsOf syntax o
is_of true syntax None h = absurd h
is_of false syntax None h = absurd h
is_of true syntax (Some (Expression s)) h = h
is_of false syntax (Some (Expression s)) h = absurd h
is_of true syntax (Some (Statement s)) h = absurd h
is_of false syntax (Some (Statement s)) h = h
is_of true syntax (Some Local) h = absurd h
is_of false syntax (Some Local) h = absurd h
is_of true syntax (Some (Param index)) h = absurd h
is_of false syntax (Some (Param index)) h = absurd h

-- its closure
pub record Tick (text : Text) (shared : Shared) (d : Data) (number : ℕ) (kind : ClosureKind) (syntax : Syntax) : Type 0
  where
    pub specification : Specification
    pub closure : Live text shared d number specification
    pub head_is : closure.closure.head ≡ syntax_head text kind syntax
    pub small : syntax_size text.program syntax ≤ SIZE_LIMIT

pub tick_there : (text : Text) (shared : Shared) (d : Data) (number : ℕ) (is_value : Bool) (syntax : Syntax)
    (o : Option Specification) → HasSpecifications text shared d → specification_at number shared ≡ o →
    IsTickOf is_value syntax o → Tick text shared d number (kind_of_tick is_value) syntax
tick_there text shared d number true syntax None hs e h = absurd h
tick_there text shared d number false syntax None hs e h = absurd h
tick_there text shared d number true syntax (Some (Expression s)) hs e h =
    let l = live text shared d number (Expression s) hs e in
    record {
      specification = Expression s;
      closure = l;
      head_is = l.stands_for.head ∙ ap (syntax_head text closure.Expression) h;
      small = subst (λ x. syntax_size text.program x ≤ SIZE_LIMIT) h l.stands_for.small;
    }
tick_there text shared d number false syntax (Some (Expression s)) hs e h = absurd h
tick_there text shared d number true syntax (Some (Statement s)) hs e h = absurd h
tick_there text shared d number false syntax (Some (Statement s)) hs e h =
    let l = live text shared d number (Statement s) hs e in
    record {
      specification = Statement s;
      closure = l;
      head_is = l.stands_for.head ∙ ap (syntax_head text closure.Statement) h;
      small = subst (λ x. syntax_size text.program x ≤ SIZE_LIMIT) h l.stands_for.small;
    }
tick_there text shared d number true syntax (Some Local) hs e h = absurd h
tick_there text shared d number false syntax (Some Local) hs e h = absurd h
tick_there text shared d number true syntax (Some (Param index)) hs e h = absurd h
tick_there text shared d number false syntax (Some (Param index)) hs e h = absurd h

-- a live number passes the first test
live_passes : (number count : ℕ) → 0 < number → number ≤ count → count ≤ SPEC_ROW_BYTES / 4 →
    nat_lt ((number + 4294967295) % 4294967296) count ≡ true
live_passes number count positive few most =
    lt-ltb ((number + 4294967295) % 4294967296) count (omega (arith, positive, few, most))

-- within the limits
pub in_table : (function : ℕ) → table_trap function ≡ None → function < FUNCTION_ROWS
in_table function e = elim (cases_Bool (nat_lt function FUNCTION_ROWS)) [
  | inl t ↦ grind (arith, nat_tests, t)
  | inr t ↦ (let some : table_trap function ≡ Some TableLimit = rw t refl in let x : ⊥ = cc in absurd x)
]

pub in_arena : (size : ℕ) (shared : Shared) → AreSummed ARENA_WORDS shared.bodies → arena_trap size shared ≡ None →
    charged shared.bodies + arena_words size ≤ ARENA_WORDS
in_arena size shared are e = elim (cases_Bool (nat_le (charged shared.bodies + arena_words size) ARENA_WORDS)) [
  | inl t ↦ grind (arith, nat_tests, t)
  | inr t ↦ (let some : arena_trap size shared ≡ Some ArenaLimit = limit_is size shared are false t in let x : ⊥ = cc in
      absurd x)
]

not_over : (arena size : ℕ) → arena + arena_words size ≤ ARENA_WORDS →
    nat_lt (ARENA + ARENA_BYTES) (ARENA + 4 * arena + (768 * size + 256)) ≡ false
not_over arena size h = not_less (ARENA + ARENA_BYTES) (ARENA + 4 * arena + (768 * size + 256)) (omega (arith, h))
  where
    not_less : (x y : ℕ) → y ≤ x → nat_lt x y ≡ false
    not_less x y l = grind (arith, nat_tests, l)

deep : (pieces : ℕ → List Piece) (syntax : Syntax) → 0 < syntax_depth pieces syntax
deep pieces (Ticked tick captures) = omega arith

kind_is_tick : (is_value : Bool) → nat_lt (closure_number (kind_of_tick is_value)) 3 ≡ true
kind_is_tick true = refl
kind_is_tick false = refl

-- the part that builds, of either kind
built : (is_value : Bool) (c : Code) (p a parameters charge g ra number depth cost : ℕ) (ops : List BuildOp) (t : Data)
    (w : Tested a (closure_number (kind_of_tick is_value)) parameters charge g ra t) → (low : p + 64 ≤ ARENA) →
    (place : closure_of t number ≡ a) → (more : 0 < depth) → (room : 8 + 8 * depth ≤ EMIT_STACK_BYTES) →
    (callee : (e : Data) → others e ≡ others t → e.registers 28 ≡ t.registers 28 →
    Enters number (EMIT_STACK + 8) depth e → Generates ops cost (EMIT_STACK + 8) c g e) → (h : HasAt c p build_code) →
    Built c p a (closure_number (kind_of_tick is_value)) parameters charge g ra number depth cost ops t w low place more
    room callee h is_value
built true c p a parameters charge g ra number depth cost ops t w low place more room callee h =
    built_value c p a 1 parameters charge g ra number depth cost ops t w low place more room callee h refl
built false c p a parameters charge g ra number depth cost ops t w low place more room callee h =
    built_statement c p a 2 parameters charge g ra number depth cost ops t w low place more room callee h refl

module _ (text : Text) (pieces : ℕ → List Piece) (functions : ℕ) (c : Code) (entry : ℕ) (shared : Shared)
    (is_value : Bool) (syntax : Syntax) (words : List ℕ) (d : Data) (low : entry + 256 ≤ ARENA) (has : HasGenerators
    text
    pieces (length text.program.ticks) c) (hs : HasSpecifications text shared d) (ha : HasArena functions shared d)
    (whole : IsWhole pieces (length text.program.ticks) syntax) (is : IsTickOf is_value syntax (specification_at
    (d.registers 4) shared)) (b : d.registers 4 < 4294967296) (table : table_trap (next_function functions shared) ≡
    None) (arena : arena_trap (syntax_size text.program syntax) shared ≡ None) (few : length words ≤
    arena_words (syntax_size text.program syntax)) (h : HasAt c entry compile_code) where
  abbrev number : ℕ
  number = d.registers 4

  abbrev function : ℕ
  function = next_function functions shared

  abbrev size : ℕ
  size = syntax_size text.program syntax

  abbrev next : ℕ
  next = arena_address shared

  abbrev a : ℕ
  a = closure_of d number

  abbrev kind : ℕ
  kind = closure_number (kind_of_tick is_value)

  abbrev parameters : ℕ
  parameters = parameters_of syntax

  abbrev g : ℕ
  g = text.generator_at (tick_of syntax)

  tick : Tick text shared d number (kind_of_tick is_value) syntax
  tick = tick_there text shared d number is_value syntax (specification_at number shared) hs refl is

  -- there is room on the emit stack, since no more functions are entered at a time than there are nodes
  room : 8 + 8 * syntax_depth pieces syntax ≤ EMIT_STACK_BYTES
  room = let deep = depth_small text.program pieces syntax whole in omega (arith, deep, tick.small)

  seen : Sees d a kind size function next
  seen = sees text functions shared d hs ha b tick.specification tick.closure kind size
      (ap (λ (x : Head). x.kind) tick.head_is) (ap (λ (x : Head). x.size) tick.head_is)

  alive : nat_lt (less d) (row_count d) ≡ true
  alive =
      let least = bytes_least hs.closures in
      let most : row_count d ≤ SPEC_ROW_BYTES / 4 = omega (arith, least, hs.memory.count, hs.memory.within) in
      live_passes number (row_count d) tick.closure.positive (counted number refl) most
    where
      counted : (n : ℕ) → number ≡ n → n ≤ row_count d
      counted n e = at_most n (specification_at number shared) e refl
        where
          at_most : (n : ℕ) (o : Option Specification) → number ≡ n → specification_at number shared ≡ o →
              n ≤ row_count d
          at_most zero o e s = omega arith
          at_most (suc m) None e s =
              let none = ap (λ x. numbered x shared.specifications) (sym e) ∙ s in
              absurd (is_of is_value syntax None (subst (IsTickOf is_value syntax) s is))
          at_most (suc m) (Some x) e s =
              let some = ap (λ x. numbered x shared.specifications) (sym e) ∙ s in
              let below = slice_get_within shared.specifications m x some in
              omega (arith, below, hs.memory.count, hs.stand_for.count)

  table_zero : function / 65536 ≡ 0
  table_zero = let l = in_table function table in omega (arith, l)

  near : next ≤ (ARENA + ARENA_BYTES)
  near = let l = in_arena size shared ha.summed arena in omega (arith, l)

  fits : nat_lt (ARENA + ARENA_BYTES) (next + (768 * size + 256)) ≡ false
  fits = not_over (charged shared.bodies) size (in_arena size shared ha.summed arena)

  abbrev tested : Data
  tested = m15 c entry low h d hs.memory.global alive a kind size function next seen

  tests : Reaches 25 (at c entry 0 d) (at c (p25 c entry h) 0 tested)
  tests =
      passes c entry low h d hs.memory.global alive a kind size function next seen (kind_is_tick is_value) table_zero
      tick.small near fits

  word_of_head : (f : Head → ℕ) → f tick.closure.closure.head ≡ f (syntax_head text (kind_of_tick is_value) syntax)
  word_of_head f = ap f tick.head_is

  state : Tested a kind parameters (768 * size + 256) g (d.registers 31) tested
  state = record {
    closure = refl;
    charge_is = refl;
    pointer = refl;
    link = refl;
    parameters_is = ap (λ (x : Closure). x.head.parameters) tick.closure.stands.reads
        ∙ word_of_head (λ x. x.parameters);
    first = ap (λ (x : Closure). x.head.first) tick.closure.stands.reads ∙ word_of_head (λ x. x.first);
    kind_is = ap (λ (x : Closure). x.head.kind) tick.closure.stands.reads ∙ word_of_head (λ x. x.kind);
    from = tick.closure.stands.from;
    to = omega (arith, tick.closure.high);
    even = tick.closure.stands.even;
  }

  generates : (e : Data) → others e ≡ others tested → e.registers 28 ≡ tested.registers 28 →
      Enters number (EMIT_STACK + 8) (syntax_depth pieces syntax) e →
      Generates (syntax_ops pieces syntax) (syntax_cost pieces syntax) (EMIT_STACK + 8) c g e
  generates e o r enters =
      generated text pieces (length text.program.ticks) c shared syntax number (EMIT_STACK + 8) e has
      (specifications_stay text shared d e o r hs) whole (is_of is_value syntax (specification_at number shared) is)
      enters

  tail : HasAt c (p25 c entry h) (build_code ++ (make_code ++ traps_code))
  tail = at25 c entry h

  made : Built c (p25 c entry h) a kind parameters (768 * size + 256) g (d.registers 31) number
      (syntax_depth pieces syntax) (syntax_cost pieces syntax) (syntax_ops pieces syntax) tested state
      (omega (arith, low)) refl (deep pieces syntax) room generates
      (front c (p25 c entry h) build_code (make_code ++ traps_code) tail) is_value
  made =
      built is_value c (p25 c entry h) a parameters (768 * size + 256) g (d.registers 31) number
      (syntax_depth pieces syntax) (syntax_cost pieces syntax) (syntax_ops pieces syntax) tested state
      (omega (arith, low)) refl (deep pieces syntax) room generates
      (front c (p25 c entry h) build_code (make_code ++ traps_code) tail)

  ready : Ready a function next size parameters (d.registers 31) made.e
  ready = record {
    closure = made.closure_is;
    charge = made.charge_there;
    pointer = made.pointer_there;
    global = made.registers 28 (inr (omega arith, omega arith, omega arith)) ∙ hs.memory.global;
    link = made.link_there;
    function_is = ap (λ (x : Data). word_at x.cells NEXT_FUNCTION_CELL) made.rest ∙ ha.function;
    next_is = ap (λ (x : Data). word_at x.cells NEXT_ARENA_CELL) made.rest ∙ ha.next;
    parameters_is = ap (λ (x : Data). word_at x.closures (a + 12)) made.rest ∙ state.parameters_is;
    from = state.from;
    to = state.to;
    even = state.even;
    small = tick.small;
    near = (let l = in_arena size shared ha.summed arena in omega (arith, l));
    row = in_table function table;
  }

  same_made : made_data function next parameters size made.e ≡ made_data function next parameters size d
  same_made =
      ap (λ (x : Data). record x {
        cells = with_word NEXT_FUNCTION_CELL (suc function)
            (with_word NEXT_ARENA_CELL (next + 4 * arena_words size) x.cells);
        table = published function next parameters x.table;
        outside = record x.outside { flushes = x.outside.flushes + 1 };
      }) made.rest

  as_before : (q : ℕ) → KeepsRegister q → made.e.registers q ≡ tested.registers q
  as_before q (inl k) = made.registers q (inl k)
  as_before q (inr (inl k)) = made.registers q (inr (k.0, omega (arith, k.1), omega (arith, k.1)))
  as_before q (inr (inr k)) = made.registers q (inr (omega (arith, k.0), omega (arith, k.0), k.1))

  tested_keeps : (q : ℕ) → KeepsRegister q → tested.registers q ≡ d.registers q
  tested_keeps q k =
      let e1 = ne_eqb q 1 (apart 1 k (inl (omega arith))) in
      let e5 = ne_eqb q 5 (apart 5 k (inl (omega arith))) in
      let e6 = ne_eqb q 6 (apart 6 k (inl (omega arith))) in
      let e7 = ne_eqb q 7 (apart 7 k (inl (omega arith))) in
      let e12 = ne_eqb q 12 (apart 12 k (inr (omega arith, omega arith))) in
      let e15 = ne_eqb q 15 (apart 15 k (inr (omega arith, omega arith))) in
      rw (e1, e5, e6, e7, e12, e15) refl
    where
      apart : (t : ℕ) → KeepsRegister q → (t < 8) ⊎ ((12 ≤ t) × (t < 16)) → q ≢ t
      apart t (inl x) (inl l) e = omega (arith, x.0, l, e)
      apart t (inl x) (inr l) e = omega (arith, x.1, l.0, e)
      apart t (inr (inl x)) (inl l) e = omega (arith, x.0, l, e)
      apart t (inr (inl x)) (inr l) e = omega (arith, x.0, l.1, e)
      apart t (inr (inr x)) (inl l) e = omega (arith, x.0, l, e)
      apart t (inr (inr x)) (inr l) e = omega (arith, x.0, l.1, e)

  pub compile_answered :
      Compiles (compile_calls function next parameters size (syntax_ops pieces syntax ++ return_ops is_value) words)
      function (made_data function next parameters size d) (compile_cost is_value (syntax_cost pieces syntax))
      c
      (code_behind (Flush next (length words)) (code_behind (Finish next (arena_words size) (frame_bytes size) words)
      c))
      entry d
  compile_answered =
      let p40 = past (p25 c entry h) build_code in
      let stands = front c p40 make_code traps_code (back c (p25 c entry h) build_code (make_code
      ++ traps_code) tail) in
      let m = make_goes a function next size parameters (d.registers 31) words made.e ready few c p40 stands
      (omega (arith, low)) in
      record {
        after = f15 a function next size parameters (d.registers 31) words made.e ready few;
        runs = runs_counted made.counted
            (runs_behind {k = 25} {n = made.count + 21} tests refl (runs_on {m = made.count} {n = 21} made.runs m));
        answer = refl;
        link = refl;
        registers = λ q k. kept a function next size parameters (d.registers 31) words made.e ready few q k
            ∙ as_before q k ∙ tested_keeps q k;
        rest = left a function next size parameters (d.registers 31) words made.e ready few ∙ same_made;
      }

  -- ---- the run up to the service that flushes, and behind it

  abbrev pub flushing : Call
  flushing = Flush next (length words)

  abbrev pub finishing : Call
  finishing = Finish next (arena_words size) (frame_bytes size) words

  abbrev pub publishing : Call
  publishing = Publish function next parameters

  pub record Split : Type 0 where
    pub count : ℕ
    pub counted : count + 13 ≡ compile_cost is_value (syntax_cost pieces syntax)
    pub place : ℕ
    pub below : place < ARENA
    pub found : Data
    pub runs : RunsWith (Begin parameters ∷ (issuing (syntax_ops pieces syntax ++ return_ops is_value)
        ++ finishing ∷ [])) count (at c entry 0 d) (at (code_behind finishing c) place 0 found)
    pub asks : Asks flushing (code_behind finishing c) place 0 found
    pub stands : HasAt (code_behind flushing (code_behind finishing c)) (place + 4) tail_code
    pub tail_low : past (place + 4) tail_code ≤ ARENA
    pub asked : Data
    pub publishes : (k : Code) → HasAt k (place + 4) tail_code →
        Own 6 (at k (place + 4) 0 (data_behind flushing found)) (at k (place + 4 + 4 + 4 + 4 + 4 + 4 + 4) 0 asked)
    pub ends : Data
    pub tail : (k : Code) → HasAt k (place + 4) tail_code →
        RunsWith (publishing ∷ []) 12 (at k (place + 4) 0 (data_behind flushing found)) (at k (d.registers 31) 0 ends)

  pub compile_split : Split
  compile_split =
      let p40 = past (p25 c entry h) build_code in
      let stands = front c p40 make_code traps_code (back c (p25 c entry h) build_code (make_code
      ++ traps_code) tail) in
      let ra = d.registers 31 in
      record {
        count = 25 + (made.count + 8);
        counted = (let e = made.counted in omega (arith, e));
        place = p8 a function next size parameters ra words made.e ready few p40;
        below = omega (arith, low);
        found = f4 a function next size parameters ra words made.e ready few;
        runs = runs_behind {k = 25} {n = made.count + 8} tests refl
            (runs_on {m = made.count} {n = 8} made.runs
            (finish_goes a function next size parameters ra words made.e ready few c p40 stands (omega (arith, low))));
        asks = flush_asks a function next size parameters ra words made.e ready few c p40 stands (omega (arith, low));
        stands = tail_stands a function next size parameters ra words made.e ready few c p40 stands
            (omega (arith, low));
        tail_low = omega (arith, low);
        asked = f10 a function next size parameters ra words made.e ready few;
        publishes = λ k there. publish_comes a function next size parameters ra words made.e ready few k
            (p8 a function next size parameters ra words made.e ready few p40 + 4) there;
        ends = f15 a function next size parameters ra words made.e ready few;
        tail = λ k there. tail_goes a function next size parameters ra words made.e ready few k
            (p8 a function next size parameters ra words made.e ready few p40 + 4) there;
      }
