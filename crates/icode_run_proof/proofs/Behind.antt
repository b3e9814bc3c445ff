-- The setting behind a compile: the function that was made is known and published, and stands in it, under the places
-- that the choice gave it; and what stood before stands on.
use Rattle.std.proofs.Common.{◌≡◌, ◌≢◌, ◌⊎◌, inl, inr, ℕ, suc, ◌+◌, ◌-◌, ◌*◌, ◌<◌, ◌≤◌, Bool, true, false}
use Rattle.std.proofs.Common.{List, [], ◌∷◌, ◌++◌, length, Option, Some, None, refl, sym, ap, ◌∙◌, subst, arith}
use Rattle.std.proofs.Common.{drop, nat_eq, nat_lt, slice_get, if◌then◌else◌, Err}
use Rattle.std.proofs.lemmas.Option.{slice_get_within}
use Rattle.std.proofs.lemmas.Bool.{cases_Bool, cases_lt}
use Rattle.std.proofs.lemmas.Bool.Decides.{nat_tests}
use Rattle.word32.specs.declared.map.TheConstants.{ARENA, ARENA_WORDS, FUNCTION_ROWS, UNPUBLISHED}
use Rattle.host_edge.specs.declared.ending.MachineKind.TheVariants as kind
use Rattle.code_arena.specs.Arena.{fetched}
use Rattle.code_arena.specs.Rows.{published}
use Rattle.code_arena.specs.declared.arena.WordState.TheVariants.{Unwritten}
use Rattle.mips_encoder.specs.declared.instruction.Instr.{Instr}
use Rattle.mips_encoder.specs.Addresses.{past}
use Rattle.mips_model.specs.State.{Built, Code, Data}
use Rattle.mips_model.specs.Accesses.{arena_word}
use Rattle.mips_model.specs.Steps.{Is, fetch, found, from_text, from_arena, text_word, is_arena_word}
use Rattle.mips_model.specs.Laws.{HasAt, Grows}
use Rattle.mips_model.proofs.Reach.{has_grown, past_append}
use Rattle.mips_model_laws.specs.Laws.{only}
use Rattle.icode_ops.specs.Kinds.{run_number}
use Rattle.icode_ops.specs.Flow.{op_at}
use Rattle.icode_ops.specs.declared.kind.RunKind.TheVariants as run
use Rattle.icode_templates.specs.Templates.{routine_address, new_address}
use Rattle.icode_templates.specs.Expansion.{body}
use Rattle.icode_templates_proof.specs.Malloc.{malloc_code}
use Rattle.icode_templates_proof.specs.Routines.{local_code, parameter_code, begin_code, check_code, new_code}
use Rattle.meaning_state.specs.Bodies.{Body, place_for, AreHeld}
use Rattle.meaning_state.specs.Shared.{Shared}
use Rattle.meaning_state.specs.Rows.{numbered, parameters_of}
use Rattle.icode_meaning.specs.State.{Function, Program}
use Rattle.icode_expand_proof.specs.Settings.{Setting, Standing, Published, Extends, Changed}
use Rattle.icode_expand_proof.specs.Standing.{Stands, OpsStand, code_of, front_code, back_code, layout_of, ops_at}
use Rattle.icode_expand_proof.specs.Standing.{exit_code}
use Rattle.icode_expand_proof.specs.Served.{Serving, IsServed, is_of_ticks}
use Rattle.icode_expand_proof.proofs.Codes.{ops_of}
use Rattle.closures_proof.specs.Ticks.{HasRoutines}
use Rattle.closures_proof.specs.Ops.{check_of}
use Rattle.routine_spec.specs.Compile.{compile_code}
use Rattle.routine_spec.specs.Generator.{generator_code}
use Rattle.compile_routine.specs.Laws.{HasArena}
use Rattle.compile_routine.specs.Made.{with_words, making_with, AreThere}
use Rattle.compile_routine.specs.Ops.{compile_number}
use Rattle.compile_routine.specs.Places.{AreApart, place_address}
use Rattle.compile_routine.proofs.Bodies.{apart, within as room}
use Rattle.compile_routine.proofs.Grown.{words_there}
use Rattle.icode_run_proof.specs.Relation.{Base, functions_of, Stood, HasBody, IsPresent}
use Rattle.icode_run_proof.specs.Relation.{HasCompiler, HasVariableRoutines, is_inside, body_address}
use Rattle.icode_run_proof.specs.Relation.{function_of}
use Rattle.icode_run_proof.proofs.Inside.{inside_of, is_in, inside_outside}
use Rattle.icode_run_proof.proofs.Kept.{same_outside, has_kept, has_inside, rises, past_even}
use Rattle.icode_run_proof.proofs.Rows.{row_there, row_on, row_or_new, none_before}

-- A body's function that was made, under places of its registers: its range was free, its words fit it and stand there.
pub record IsNew (b : Base) (c : Code) (s : Setting) (x : Body) (places words : List ℕ) : Type 0 where
  pub live : x.live ≡ true
  pub there : place_for x.count ARENA_WORDS s.made.bodies ≡ Some x.first
  pub some : 0 < x.count
  pub few : length words ≤ x.count
  pub row : suc (functions_of b + length s.made.bodies) < FUNCTION_ROWS
  pub stands : Stands (with_words (body_address x) words c) (function_of b x) places
  pub within : past (body_address x) (code_of (function_of b x) places) ≤ ARENA + 4 * (x.first + x.count)
  pub served : (p : ℕ) → IsServed (op_at (b.program.ops_of x.syntax) p)
  pub plain : (p : ℕ) → is_of_ticks (op_at (b.program.ops_of x.syntax) p) ≡ false

module _ (b : Base) (c : Code) (s : Setting) (stood : Stood b c s) (x : Body) (places words : List ℕ) (built : Built)
    (d' : Data) (shared' : Shared) (bodies_is : shared'.bodies ≡ s.made.bodies ++ x ∷ [])
    (new : IsNew b c s x places words) where
  abbrev pub address : ℕ
  address = body_address x

  abbrev pub number : ℕ
  number = suc (functions_of b + length s.made.bodies)

  abbrev pub c' : Code
  c' = with_words address words c

  abbrev pub can : ℕ → Bool
  can = is_inside s.made.bodies

  abbrev pub can' : ℕ → Bool
  can' = is_inside shared'.bodies

  abbrev pub program' : Program
  program' = record s.program {
    function_at = λ a. if nat_eq a address then Some (function_of b x) else s.program.function_at a;
    row = λ n. if nat_eq n number then Some (address, parameters_of x.syntax) else s.program.row n;
  }

  abbrev pub s' : Setting
  s' = record {
    code = only can' c';
    program = program';
    places_at = λ a. if nat_eq a address then places else s.places_at a;
    exit = s.exit;
    making = making_with address built (length words) s.making;
    flushes = s.flushes + 1;
    written = d';
    made = shared';
    history = shared'.history;
  }

  -- ---- the range

  held : AreHeld ARENA_WORDS s.made.bodies
  held = stood.arena.summed.held

  -- the words of no other body are in it
  range_apart : (k : ℕ) (y : Body) → slice_get s.made.bodies k ≡ Some y → y.live ≡ true → 0 < y.count
      → AreApart x.first x.count y.first y.count
  range_apart k y e live some =
      apart x.syntax s.made.bodies x.count x.first [] (only (λ k. false) c) held (λ k l n q. absurd cc) new.some
      (omega arith) new.there k y e live some

  can_on : (k : ℕ) → (k < x.first) ⊎ (x.first + x.count ≤ k) → can' k ≡ can k
  can_on k out = ap (λ (l : List Body). is_inside l k) bodies_is ∙ inside_outside s.made.bodies x k (by out)
    where
      by : (k < x.first) ⊎ (x.first + x.count ≤ k) → (k < x.first + 1) ⊎ (x.first + x.count ≤ k)
      by (inl l) = inl (omega (arith, l))
      by (inr l) = inr l

  -- no word of it could be executed before
  can_none : (k : ℕ) → x.first ≤ k → k < x.first + x.count → can k ≡ false
  can_none k low high = elim (cases_Bool (can k)) [
    | inr f ↦ f
    | inl t ↦ (let r = inside_of s.made.bodies k t in
        let l = r.low in
        let h = r.high in
        absurd (by r.body.first r.body.count (omega (arith, l)) h
        (range_apart r.place r.body r.there r.live (omega (arith, l, h)))))
  ]
    where
      by : (m n : ℕ) → m ≤ k → k < m + n → AreApart x.first x.count m n → ⊥
      by m n l h (inl q) = omega (arith, high, l, q)
      by m n l h (inr q) = omega (arith, low, h, q)

  within_arena : x.first + x.count ≤ ARENA_WORDS
  within_arena = room x.syntax s.made.bodies x.count x.first [] (only (λ k. false) c) held (λ k l n q. absurd cc)
      new.some
      (omega arith) new.there

  there : AreThere (place_address x.first) words c c'
  there = words_there x.first x.count words c new.few within_arena

  pub grows : Grows s.code (only can' c')
  grows = record { stays = λ a i is. stays a i (ap (λ (k : Code). fetch k a) (sym stood.code_is) ∙ is) }
    where
      not_here : (a : ℕ) (i : Instr) → ARENA ≤ a → can (arena_word a) ≡ false → fetch (only can c) a ≡ Is i → ⊥
      not_here a i high none is =
          by (nat_lt a ARENA) (is_arena_word a) (can (arena_word a)) refl none is
        where
          by : (t u may : Bool) → nat_lt a ARENA ≡ t → may ≡ false → found (if t then from_text (text_word c a)
              else (if u then from_arena (fetched (if may then c.arena.states (arena_word a) else Unwritten)
              (c.arena.words (arena_word a))) else Err kind.Fetch)) ≡ Is i → ⊥
          by true u may e n is = (let low : a < ARENA = grind (arith, nat_tests, e) in omega (arith, low, high))
          by false true true e n is = absurd cc
          by false true false e n is = absurd cc
          by false false may e n is = absurd cc

      stays : (a : ℕ) (i : Instr) → fetch (only can c) a ≡ Is i → fetch (only can' c') a ≡ Is i
      stays a i is = elim (cases_lt a (place_address x.first)) [
        | inl l ↦ same_outside x.first x.count words c can can' new.few there can_on a (inl l) ∙ is
        | inr l ↦ elim (cases_lt a (place_address x.first + 4 * x.count)) [
          | inr h ↦ same_outside x.first x.count words c can can' new.few there can_on a (inr h) ∙ is
          | inl h ↦ absurd (not_here a i (omega (arith, l)) (can_none (arena_word a) (omega (arith, l))
              (omega (arith, l, h))) is)
        ]
      ]

  -- ---- the functions

  address_other : (a : ℕ) (f : Function) → s.program.function_at a ≡ Some f → a ≢ address
  address_other a f known e = by f.compiled refl
    where
      both : (m n : ℕ) → a ≡ ARENA + 4 * m → 0 < n → AreApart x.first x.count m n → ⊥
      both m n at more (inl q) = let some = new.some in omega (arith, e, at, q, some)
      both m n at more (inr q) = omega (arith, e, at, q, more)

      by : (t : Bool) → f.compiled ≡ t → ⊥
      by true t =
          let k = stood.present.known a f known t in
          let some = (stood.present.each k.0 k.1 k.2 k.3).some in
          both k.1.first k.1.count k.4 some (range_apart k.0 k.1 k.2 k.3 some)
      by false t =
          let low = stood.present.low a f known t in
          let r = rises (a + 4) (drop 1 (code_of f (s.places_at a))) in
          omega (arith, low, r, e)

  pub known_apart : (a : ℕ) (f : Function) → s.program.function_at a ≡ Some f → nat_eq a address ≡ false
  known_apart a f known = elim (cases_Bool (nat_eq a address)) [
    | inr e ↦ e
    | inl t ↦ absurd (address_other a f known (grind (arith, nat_tests, t)))
  ]

  pub function_on : (a : ℕ) (f : Function) → s.program.function_at a ≡ Some f → s'.program.function_at a ≡ Some f
  function_on a f known = ap (λ (b' : Bool). if b' then Some (function_of b x) else s.program.function_at a)
      (known_apart a f known) ∙ known

  pub places_on : (a : ℕ) (f : Function) → s.program.function_at a ≡ Some f → s'.places_at a ≡ s.places_at a
  places_on a f known = ap (λ (b' : Bool). if b' then places else s.places_at a) (known_apart a f known)

  pub changed : Changed (λ a. true) s s'
  changed = record {
    functions = λ a f t known. function_on a f known;
    places = λ a f t known. places_on a f known;
    exit = refl;
  }

  address_is : nat_eq address address ≡ true
  address_is = grind (arith, nat_tests)

  pub new_function : s'.program.function_at address ≡ Some (function_of b x)
  new_function = ap (λ (b' : Bool). if b' then Some (function_of b x) else s.program.function_at address) address_is

  pub new_places : s'.places_at address ≡ places
  new_places = ap (λ (b' : Bool). if b' then places else s.places_at address) address_is

  abbrev f' : Function
  f' = function_of b x

  new_ops : OpsStand (only can' c') f' places
  new_ops = record {
    suits = new.stands.suits;
    code =
        let front = front_code f' places in
        let rest = body (layout_of f' places) (ops_at f' places) f'.ops ++ back_code f' places in
        let r = rises (address + 4) (drop 1 front) in
        let to = new.within in
        let whole = past_append address front rest in
        has_inside can' c' x.first (x.first + x.count) may (ops_at f' places) rest (omega (arith, r))
        (past_even address front (omega arith)) (omega (arith, to, whole)) (ops_of new.stands).code;
  }
    where
      may : (k : ℕ) → x.first < k → k < x.first + x.count → can' k ≡ true
      may k low high =
          ap (λ (l : List Body). is_inside l k) bodies_is
          ∙ is_in (s.made.bodies ++ x ∷ []) (length s.made.bodies) x k (row_there s.made.bodies x) new.live low high

  -- what is so of the functions known before, and of the new one, is so of each
  by_function : (P : (a : ℕ) → Function → List ℕ → Type 0) → P address f' places
      → ((a : ℕ) (f : Function) → s.program.function_at a ≡ Some f → P a f (s.places_at a))
      → (a : ℕ) (f : Function) → s'.program.function_at a ≡ Some f → P a f (s'.places_at a)
  by_function P here old a f known = by (nat_eq a address) refl known
    where
      some_or : Option Function → Function
      some_or None = f'
      some_or (Some g) = g

      by : (t : Bool) → nat_eq a address ≡ t → (if t then Some f' else s.program.function_at a) ≡ Some f
          → P a f (s'.places_at a)
      by true t is =
          let same : a ≡ address = grind (arith, nat_tests, t) in
          let f_is : f' ≡ f = ap (λ (o : Option Function). some_or o) is in
          subst (λ n. P n f (s'.places_at n)) (sym same)
          (subst (λ (p : List ℕ). P address f p) (sym new_places) (subst (λ (g : Function). P address g places) f_is
          here))
      by false t is = subst (λ (p : List ℕ). P a f p) (sym (places_on a f is)) (old a f is)

  pub standing' : Standing s'
  standing' = record {
    functions = by_function (λ a f p. (f.address ≡ a) × OpsStand s'.code f p) (refl, new_ops) (λ a f known.
        let h = stood.standing.functions a f known in (
          h.0,
          record {
            suits = h.1.suits;
            code = has_grown grows (ops_at f (s.places_at a))
                (body (layout_of f (s.places_at a)) (ops_at f (s.places_at a)) f.ops ++ back_code f (s.places_at a))
                h.1.code;
          },
        ));
    fronts = by_function (λ a f p. f.compiled ≡ false → HasAt s'.code a (front_code f p)) (λ no. absurd cc)
        (λ a f known static. has_grown grows a (front_code f (s.places_at a))
        (stood.standing.fronts a f known static));
    routines = has_grown grows (routine_address (run_number run.Malloc)) malloc_code stood.standing.routines;
    exits = has_grown grows s.exit exit_code stood.standing.exits;
  }

  serving' : Serving s'
  serving' = record {
    ops = by_function (λ a f p. (q : ℕ) → IsServed (op_at f.ops q)) new.served (λ a f known. stood.serving.ops a f
        known);
  }

  routines' : HasRoutines s'.code
  routines' = record {
    begin = has_grown grows (routine_address (run_number run.Begin)) begin_code stood.routines.begin;
    check = λ named. has_grown grows (routine_address (run_number (check_of named))) (check_code named)
        (stood.routines.check named);
    new = has_grown grows new_address new_code stood.routines.new;
  }

  variables' : HasVariableRoutines s'
  variables' = record {
    local = has_grown grows (routine_address (run_number run.Local)) local_code stood.variables.local;
    parameter = has_grown grows (routine_address (run_number run.Parameter)) parameter_code stood.variables.parameter;
  }

  compiler' : HasCompiler b s'
  compiler' = record {
    routine = has_grown grows (routine_address compile_number) compile_code stood.compiler.routine;
    generators = record {
      stands = λ tick l. has_grown grows (b.generator_at tick) (generator_code (b.pieces tick))
          (stood.compiler.generators.stands tick l);
      low = stood.compiler.generators.low;
    };
  }

  -- ---- the rows

  row_is : (n : ℕ) → n ≢ number → s'.program.row n ≡ s.program.row n
  row_is n other = elim (cases_Bool (nat_eq n number)) [
    | inl t ↦ absurd (other (grind (arith, nat_tests, t)))
    | inr t ↦ ap (λ (b' : Bool). if b' then Some (address, parameters_of x.syntax) else s.program.row n) t
  ]

  new_row : s'.program.row number ≡ Some (address, parameters_of x.syntax)
  new_row =
      let t : nat_eq number number ≡ true = grind (arith, nat_tests) in
      ap (λ (b' : Bool). if b' then Some (address, parameters_of x.syntax) else s.program.row number) t

  extends' : Extends b.program s'
  extends' = record {
    functions = λ a f is. (let h = stood.extends.functions a f is in (function_on a f h.0, h.1));
    rows = λ n l. row_is n (λ e. omega (arith, l, e)) ∙ stood.extends.rows n l;
    others = λ n over none. others n over
        (none_before s.made.bodies x (n - functions_of b)
        (sym (ap (λ (l : List Body). numbered (n - functions_of b) l) bodies_is) ∙ none));
  }
    where
      others : (n : ℕ) → functions_of b < n → (numbered (n - functions_of b) s.made.bodies ≡ None)
          × (n - functions_of b ≢ suc (length s.made.bodies)) → s'.program.row n ≡ None
      others n over h =
          let other : n ≢ number = λ e. h.1 (omega (arith, e)) in
          row_is n other ∙ stood.extends.others n over h.0

  pub published' : (table : ℕ → ℕ × ℕ) → Published s.program table
      → Published s'.program (published number address (parameters_of x.syntax) table)
  published' table p = record {
    rows = λ n a k is. row n a k (nat_eq n number) refl is;
    others = λ n l is. other n l (nat_eq n number) refl is;
  }
    where
      pair : (o : Option (ℕ × ℕ)) → ℕ × ℕ
      pair None = (0, 0)
      pair (Some y) = y

      new_or : Bool → ℕ → ℕ × ℕ
      new_or t n = if t then (address, parameters_of x.syntax) else table n

      row : (n a k : ℕ) (t : Bool) → nat_eq n number ≡ t
          → (if t then Some (address, parameters_of x.syntax) else s.program.row n) ≡ Some (a, k)
          → (n < FUNCTION_ROWS) × (published number address (parameters_of x.syntax) table n ≡ (a, k))
      row n a k true t is =
          let same : n ≡ number = grind (arith, nat_tests, t) in
          let fits = new.row in
          (omega (arith, same, fits), ap (λ c. new_or c n) t ∙ ap pair is)
      row n a k false t is =
          let old = p.rows n a k is in
          (old.0, ap (λ c. new_or c n) t ∙ old.1)

      other : (n : ℕ) → n < FUNCTION_ROWS → (t : Bool) → nat_eq n number ≡ t
          → (if t then Some (address, parameters_of x.syntax) else s.program.row n) ≡ None
          → ((published number address (parameters_of x.syntax) table n).0 < ARENA)
          × ((published number address (parameters_of x.syntax) table n).1 ≡ UNPUBLISHED)
      other n l true t is = absurd cc
      other n l false t is =
          subst (λ (q : ℕ × ℕ). (q.0 < ARENA) × (q.1 ≡ UNPUBLISHED)) (sym (ap (λ c. new_or c n) t)) (p.others n l is)

  -- ---- the bodies

  -- what stood outside of the range stands on in the machine's code
  stands_on : (y : Body) (f : Function) (p : List ℕ) → Stands c f p → f.address ≡ body_address y
      → past (body_address y) (code_of f p) ≤ ARENA + 4 * (y.first + y.count)
      → AreApart x.first x.count y.first y.count → Stands c' f p
  stands_on y f p h at within out = record {
    suits = h.suits;
    code = has_kept x.first x.count words c (λ k. true) (λ k. true) new.few there (λ k l. refl) f.address (code_of f p)
        (by out) h.code;
  }
    where
      to : past f.address (code_of f p) ≤ ARENA + 4 * (y.first + y.count)
      to = subst (λ n. past n (code_of f p) ≤ ARENA + 4 * (y.first + y.count)) (sym at) within

      by : AreApart x.first x.count y.first y.count
          → (past f.address (code_of f p) ≤ place_address x.first) ⊎ (place_address x.first + 4 * x.count ≤ f.address)
      by (inl l) = inr (omega (arith, l, at))
      by (inr l) = inl (omega (arith, l, to))

  old_body : (k : ℕ) (y : Body) → slice_get s.made.bodies k ≡ Some y → y.live ≡ true → HasBody b c' s' k y
  old_body k y e live =
      let h = stood.present.each k y e live in
      let low = slice_get_within s.made.bodies k y e in
      let out = range_apart k y e live h.some in
      let same = places_on (body_address y) (function_of b y) h.known in
      record {
        known = function_on (body_address y) (function_of b y) h.known;
        row = row_is (suc (functions_of b + k)) (λ q. omega (arith, low, q)) ∙ h.row;
        stands = subst (λ (p : List ℕ). Stands c' (function_of b y) p) (sym same)
            (stands_on y (function_of b y) (s.places_at (body_address y)) h.stands refl h.within out);
        within = subst (λ (p : List ℕ). past (body_address y) (code_of (function_of b y) p)
            ≤ ARENA + 4 * (y.first + y.count)) (sym same) h.within;
        some = h.some;
        entry = can_on y.first (by h.some out) ∙ h.entry;
        plain = h.plain;
      }
    where
      by : 0 < y.count → AreApart x.first x.count y.first y.count
          → (y.first < x.first) ⊎ (x.first + x.count ≤ y.first)
      by some (inl l) = inr l
      by some (inr l) = inl (omega (arith, l, some))

  new_body : HasBody b c' s' (length s.made.bodies) x
  new_body = record {
    known = new_function;
    row = new_row;
    stands = subst (λ (p : List ℕ). Stands c' (function_of b x) p) (sym new_places) new.stands;
    within = subst (λ (p : List ℕ). past (body_address x) (code_of (function_of b x) p)
        ≤ ARENA + 4 * (x.first + x.count)) (sym new_places) new.within;
    some = new.some;
    entry = ap (λ (l : List Body). is_inside l x.first) bodies_is
        ∙ inside_outside s.made.bodies x x.first (inl (omega arith))
        ∙ can_none x.first (omega arith) (let some = new.some in omega (arith, some));
    plain = new.plain;
  }

  body_or_new : (k : ℕ) (y : Body) → slice_get shared'.bodies k ≡ Some y
      → (slice_get s.made.bodies k ≡ Some y) ⊎ ((k ≡ length s.made.bodies) × (x ≡ y))
  body_or_new k y e =
      row_or_new s.made.bodies x y k (sym (ap (λ (l : List Body). slice_get l k) bodies_is) ∙ e)

  present' : IsPresent b c' s'
  present' = record {
    each = λ k y e live. each k y live (body_or_new k y e);
    gone = λ k y e dead. gone k y dead (body_or_new k y e);
    known = by_function (λ a f p. f.compiled ≡ true → (k : ℕ) × (y : Body) × (slice_get shared'.bodies k ≡ Some y)
        × (y.live ≡ true) × (a ≡ body_address y)) (λ t. (
          length s.made.bodies,
          x,
          ap (λ (l : List Body). slice_get l (length s.made.bodies)) bodies_is ∙ row_there s.made.bodies x,
          new.live,
          refl,
        ))
        (λ a f known t. (let h = stood.present.known a f known t in (
          h.0,
          h.1,
          ap (λ (l : List Body). slice_get l h.0) bodies_is ∙ row_on s.made.bodies x h.1 h.0 h.2,
          h.3,
          h.4,
        )));
    low = by_function (λ a f p. f.compiled ≡ false → past a (code_of f p) ≤ ARENA) (λ no. absurd cc)
        (λ a f known static. stood.present.low a f known static);
    rows = λ n a k l is. stood.present.rows n a k l (sym (row_is n (λ e. omega (arith, l, e))) ∙ is);
  }
    where
      each : (k : ℕ) (y : Body) → y.live ≡ true
          → (slice_get s.made.bodies k ≡ Some y) ⊎ ((k ≡ length s.made.bodies) × (x ≡ y)) → HasBody b c' s' k y
      each k y live (inl e) = old_body k y e live
      each k y live (inr e) =
          subst (λ n. HasBody b c' s' n y) (sym e.0)
          (subst (λ (z : Body). HasBody b c' s' (length s.made.bodies) z) e.1 new_body)

      gone : (k : ℕ) (y : Body) → y.live ≡ false
          → (slice_get s.made.bodies k ≡ Some y) ⊎ ((k ≡ length s.made.bodies) × (x ≡ y))
          → s'.program.row (suc (functions_of b + k)) ≡ None
      gone k y dead (inl e) =
          let low = slice_get_within s.made.bodies k y e in
          row_is (suc (functions_of b + k)) (λ q. omega (arith, low, q)) ∙ stood.present.gone k y e dead
      gone k y dead (inr e) =
          absurd (let z = sym new.live ∙ ap (λ (w : Body). w.live) e.1 ∙ dead in cc)

  -- so all that is so of a setting is so of the one behind the compile
  pub stood' : HasArena (functions_of b) shared' d' → Stood b c' s'
  stood' arena = record {
    code_is = refl;
    standing = standing';
    extends = extends';
    serving = serving';
    routines = routines';
    variables = variables';
    compiler = compiler';
    present = present';
    arena = arena;
    idle = refl;
  }
