-- The traps of a compile are those of the meaning.
use Rattle.std.proofs.Common.{◌/◌, ◌≡◌, inl, inr, ℕ, zero, suc, ◌+◌, ◌*◌, ◌<◌, ◌≤◌, true, false, List, []}
use Rattle.std.proofs.Common.{◌∷◌, length, Option, Some, None, refl, sym, ap, ◌∙◌, subst, arith, nat_lt, nat_le}
use Rattle.std.proofs.Common.{slice_get}
use Rattle.std.proofs.lemmas.Bool.{cases_Bool, lt-ltb}
use Rattle.std.proofs.lemmas.Bool.Decides.{nat_tests}
use Rattle.std.proofs.lemmas.Option.{slice_get_past}
use Rattle.limits.specs.declared.program.TheConstants.{SIZE_LIMIT}
use Rattle.word32.specs.declared.map.TheConstants.{ARENA, ARENA_BYTES, ARENA_WORDS, FUNCTION_ROWS, SPEC_ROW_BYTES}
use Rattle.host_edge.specs.declared.ending.Ending.TheVariants.{Trap}
use Rattle.host_edge.specs.declared.ending.TrapKind.{TrapKind}
use Rattle.host_edge.specs.declared.ending.TrapKind.TheVariants.{BadSpec, TableLimit, ArenaLimit}
use Rattle.history.specs.Events.{Ended}
use Rattle.history.specs.Syntax.{Syntax}
use Rattle.mips_model.specs.State.{Code, Data}
use Rattle.mips_model.specs.Laws.{HasAt, at}
use Rattle.icode_ops.specs.Kinds.{closure_number}
use Rattle.icode_ops.specs.declared.kind.ClosureKind.{ClosureKind}
use Rattle.icode_ops.specs.declared.kind.ClosureKind.TheVariants as closure
use Rattle.meaning_state.specs.Bodies.{charged}
use Rattle.meaning_state.specs.Shared.{Shared, Specification, Expression, Statement, Local, Param}
use Rattle.meaning_state.specs.Rows.{table_trap, numbered, specification_at, arena_words, next_function}
use Rattle.staged_meaning.specs.Program.{syntax_size}
use Rattle.icode_templates_proof.specs.Moves.{EndsIn}
use Rattle.icode_templates_proof.proofs.Endings.{ends_wider}
use Rattle.icode_templates_proof.specs.Closures.{Head, Closure, closure_of, row_count}
use Rattle.icode_templates_proof.proofs.Checking.{bytes_least}
use Rattle.closures_proof.specs.Relation.{Text, HasSpecifications}
use Rattle.generator_laws.proofs.Found.{Live, live}
use Rattle.routine_spec.specs.Compile.{compile_code}
use Rattle.compile_routine.proofs.Places.{limit_is}
use Rattle.icode_templates_proof.specs.RoutineLaws.{first_trap}
use Rattle.compile_routine.specs.Laws.{HasArena, size_traps, compile_trap}
use Rattle.compile_routine.proofs.Tests.{less, Sees, dead_ends, kind_ends, table_ends, arena_ends}

-- a member below the length of a list is there
there : {A : Type 0} (xs : List A) (n : ℕ) → n < length xs → slice_get xs n ≡ None → ⊥
there [] n l e = omega (arith, l)
there (x ∷ xs) zero l e = cc
there (x ∷ xs) (suc n) l e = there xs n (omega (arith, l)) e

-- the charge in bytes is over the end of the arena where it is in words
is_over : (arena size : ℕ) → ARENA_WORDS < arena + arena_words size →
    nat_lt (ARENA + ARENA_BYTES) (ARENA + 4 * arena + (768 * size + 256)) ≡ true
is_over arena size more = lt-ltb (ARENA + ARENA_BYTES) (ARENA + 4 * arena + (768 * size + 256)) (omega (arith, more))

same_trap : (a b : TrapKind) → Some a ≡ Some b → a ≡ b
same_trap a b e = cc

module _ (text : Text) (functions : ℕ) (shared : Shared) (d : Data) (hs : HasSpecifications text shared d) (ha :
    HasArena functions shared d) (b : d.registers 4 < 4294967296) where
  abbrev number : ℕ
  number = d.registers 4

  abbrev function : ℕ
  function = next_function functions shared

  abbrev next : ℕ
  next = ARENA + 4 * charged shared.bodies

  few_rows : row_count d ≤ SPEC_ROW_BYTES / 4
  few_rows = let least = bytes_least hs.closures in omega (arith, least, hs.memory.count, hs.memory.within)

  counted : row_count d ≡ length shared.specifications
  counted = hs.memory.count ∙ hs.stand_for.count

  -- the number is live where the test says so
  dead_number : (n : ℕ) → number ≡ n → nat_lt (less d) (row_count d) ≡ false → numbered n shared.specifications ≡ None
  dead_number zero is t = refl
  dead_number (suc n) is t =
      let past : row_count d ≤ less d = grind (arith, nat_tests, t) in
      slice_get_past shared.specifications n (omega (arith, past, is, b, counted))

  live_number : (n : ℕ) → number ≡ n → nat_lt (less d) (row_count d) ≡ true → numbered n shared.specifications ≡ None →
      ⊥
  live_number zero is t e =
      let below : less d < row_count d = grind (arith, nat_tests, t) in omega (arith, below, is, few_rows)
  live_number (suc n) is t e =
      let below : less d < row_count d = grind (arith, nat_tests, t) in
      there shared.specifications n (omega (arith, below, is, b, counted)) e

  -- what the routine finds
  pub sees : (s : Specification) (l : Live text shared d number s) (kind size : ℕ) → l.closure.head.kind ≡ kind →
      l.closure.head.size ≡ size → Sees d (closure_of d number) kind size function next
  sees s l kind size k z = record {
    from = l.stands.from;
    to = omega (arith, l.high);
    even = l.stands.even;
    kind_is = ap (λ (x : Closure). x.head.kind) l.stands.reads ∙ k;
    size_is = ap (λ (x : Closure). x.head.size) l.stands.reads ∙ z;
    function_is = ha.function;
    next_is = ha.next;
    positive = l.positive;
    few = l.few;
    place = refl;
  }

  module _ (c : Code) (entry : ℕ) (low : entry + 256 ≤ ARENA) (h : HasAt c entry compile_code) (kind : TrapKind) where
    abbrev EndsAs : TrapKind → Type 0
    EndsAs k = EndsIn 6 26 (Ended (Trap k)) (at c entry 0 d) c d.outside

    ends_dead : nat_lt (less d) (row_count d) ≡ false → EndsAs BadSpec
    ends_dead t =
        ends_wider {l = 6} {m = 6} (omega arith) (omega arith) (dead_ends c entry low h d hs.memory.global t)

    module _ (t : nat_lt (less d) (row_count d) ≡ true) (s : Specification) (l : Live text shared d number s) where
      ends_variable : (k size : ℕ) → l.closure.head.kind ≡ k → l.closure.head.size ≡ size → nat_lt k 3 ≡ false →
          EndsAs BadSpec
      ends_variable k size is z over =
          ends_wider {l = 15} {m = 15} (omega arith) (omega arith)
          (kind_ends c entry low h d hs.memory.global t (closure_of d number) k size function next
          (sees s l k size is z) over)

      ends_tick : (k : ClosureKind) (syntax : Syntax) → l.closure.head.kind ≡ closure_number k →
          l.closure.head.size ≡ syntax_size text.program syntax → syntax_size text.program syntax ≤ SIZE_LIMIT
          → nat_lt (closure_number k) 3 ≡ true
          → size_traps function (syntax_size text.program syntax) shared ≡ Some kind → EndsAs kind
      ends_tick k syntax is z small tick some = elim (cases_Bool (nat_lt function FUNCTION_ROWS)) [
        | inl fits ↦ elim (cases_Bool (nat_le (charged shared.bodies + arena_words size) ARENA_WORDS)) [
          | inl room ↦ (let none : size_traps function size shared ≡ None =
              ap (first_trap (table_trap function)) (limit_is size shared ha.summed true room) ∙ rw fits refl in
              let x : ⊥ = cc in absurd x)
          | inr full ↦ (let is_arena : size_traps function size shared ≡ Some ArenaLimit =
              ap (first_trap (table_trap function)) (limit_is size shared ha.summed false full) ∙ rw fits refl in
              let more : ARENA_WORDS < charged shared.bodies + arena_words size = grind (arith, nat_tests, full) in
              let less : function < FUNCTION_ROWS = grind (arith, nat_tests, fits) in
              let over = is_over (charged shared.bodies) size more in
              subst EndsAs (same_trap ArenaLimit kind (sym is_arena ∙ some))
              (ends_wider {l = 26} {m = 26} (omega arith) (omega arith)
              (arena_ends c entry low h d hs.memory.global t (closure_of d number) (closure_number k) size function next
              seen tick (omega (arith, less)) small (omega (arith, ha.within)) over)))
        ]
        | inr past ↦ (let is_table : size_traps function size shared ≡ Some TableLimit = rw past refl in
            let more : FUNCTION_ROWS ≤ function = grind (arith, nat_tests, past) in
            subst EndsAs (same_trap TableLimit kind (sym is_table ∙ some))
            (ends_wider {l = 17} {m = 17} (omega arith) (omega arith)
            (table_ends c entry low h d hs.memory.global t (closure_of d number) (closure_number k) size function next
            seen
            tick (omega (arith, more)))))
      ]
        where
          size : ℕ
          size = syntax_size text.program syntax

          seen : Sees d (closure_of d number) (closure_number k) size function next
          seen = sees s l (closure_number k) size is z

    by_specification : nat_lt (less d) (row_count d) ≡ true → (s : Specification) → Live text shared d number s →
        compile_trap text.program function (Some s) shared ≡ Some kind → EndsAs kind
    by_specification t (Expression syntax) l some =
        let is = l.stands_for.head in
        ends_tick t (Expression syntax) l closure.Expression syntax (ap (λ (x : Head). x.kind) is)
        (ap (λ (x : Head). x.size) is) l.stands_for.small refl some
    by_specification t (Statement syntax) l some =
        let is = l.stands_for.head in
        ends_tick t (Statement syntax) l closure.Statement syntax (ap (λ (x : Head). x.kind) is)
        (ap (λ (x : Head). x.size) is) l.stands_for.small refl some
    by_specification t Local l some =
        let is = l.stands_for in
        subst EndsAs (same_trap BadSpec kind some)
        (ends_variable t Local l 3 0 (ap (λ (x : Closure). x.head.kind) is) (ap (λ (x : Closure). x.head.size) is) refl)
    by_specification t (Param index) l some =
        let is = l.stands_for.1 in
        subst EndsAs (same_trap BadSpec kind some)
        (ends_variable t (Param index) l 4 0 (ap (λ (x : Closure). x.head.kind) is) (ap (λ (x : Closure). x.head.size)
        is)
        refl)

    by_row : nat_lt (less d) (row_count d) ≡ true → (o : Option Specification) → specification_at number shared ≡ o →
        compile_trap text.program function o shared ≡ Some kind → EndsAs kind
    by_row t None e some = absurd (live_number number refl t e)
    by_row t (Some s) e some = by_specification t s (live text shared d number s hs e) some

    pub compile_ends :
        compile_trap text.program function (specification_at number shared) shared ≡ Some kind → EndsAs kind
    compile_ends some = elim (cases_Bool (nat_lt (less d) (row_count d))) [
      | inl t ↦ by_row t (specification_at number shared) refl some
      | inr t ↦ (let none = dead_number number refl t in
          let bad = ap (λ o. compile_trap text.program function o shared) none in
          subst EndsAs (same_trap BadSpec kind (sym bad ∙ some)) (ends_dead t))
    ]
