-- All ops of a tick make its specification, or end the run, as the meaning does.
use Rattle.std.proofs.Common.{◌≡◌, inl, inr, ℕ, suc, ◌+◌, ◌*◌, ◌<◌, ◌≤◌, List, [], ◌∷◌}
use Rattle.std.proofs.Common.{◌++◌, length, Option, Some, None, refl, sym, ap, ◌∙◌, subst, arith, slice_get, nat_le}
use Rattle.std.proofs.lemmas.Bool.{cases_Bool}
use Rattle.std.proofs.lemmas.Bool.Decides.{nat_tests}
use Rattle.limits.specs.declared.program.TheConstants.{SIZE_LIMIT}
use Rattle.word32.specs.declared.map.TheConstants.{SEGMENT_BYTES}
use Rattle.host_edge.specs.declared.ending.Ending.TheVariants.{Trap}
use Rattle.host_edge.specs.declared.ending.TrapKind.{TrapKind}
use Rattle.host_edge.specs.declared.ending.TrapKind.TheVariants.{SizeLimit}
use Rattle.history.specs.Events.{Ended}
use Rattle.history.specs.Syntax.{Syntax}
use Rattle.mips_encoder.specs.declared.instruction.Instr.{Instr}
use Rattle.mips_encoder.specs.Addresses.{past}
use Rattle.mips_model.specs.State.{Code, Data}
use Rattle.mips_model.specs.Laws.{HasAt, at}
use Rattle.mips_model.proofs.Reach.{front, back, past_append}
use Rattle.icode_ops.specs.declared.op.Op.{Op}
use Rattle.icode_ops.specs.declared.op.Op.TheVariants as op
use Rattle.icode_ops.specs.declared.kind.RunKind.TheVariants as run
use Rattle.icode_ops.specs.declared.kind.ClosureKind.{ClosureKind}
use Rattle.meaning_state.specs.Shared.{Shared}
use Rattle.meaning_state.specs.Rows.{closure_bytes, closure_trap, size_trap, next_number, parameters_of, specified}
use Rattle.staged_meaning.specs.Program.{is_expression, tick_size, syntax_size}
use Rattle.staged_meaning.specs.Specifications.{captures_trap, specification_of}
use Rattle.staged_meaning.specs.World.{World, Result, with_shared, spend, unless}
use Rattle.icode_templates.specs.Layout.{Layout}
use Rattle.icode_templates.specs.Templates.{Aim, template}
use Rattle.icode_templates.specs.Expansion.{templates}
use Rattle.icode_expand.proofs.Lengths.{templates_append}
use Rattle.icode_templates_proof.specs.Moves.{EndsIn}
use Rattle.icode_templates_proof.proofs.Endings.{ends_wider}
use Rattle.icode_templates_proof.specs.Closures.{Head, Closure, with_so_far, appended, words_at, next_closure}
use Rattle.icode_templates_proof.specs.RoutineLaws.{first_trap, new_trap}
use Rattle.closures_proof.specs.Ops.{HasNewest, replaced, with_captured}
use Rattle.closures_proof.proofs.Kept.{sums_keep}
use Rattle.closures_proof.proofs.Newest.{newest_made, has_place, words_put}
use Rattle.closures_proof.specs.Relation.{Text, syntax_head}
use Rattle.closures_proof.specs.Laws.{Sums, puts, kind_of_tick, AreWordsIn}
use Rattle.closures_proof.specs.Ticks.{TickCapture, TickRegisters, check_ops, new_ops, put_ops, kinds_in}
use Rattle.closures_proof.specs.Ticks.{words_in, answers_in, written, checks_in, HaveWords}
use Rattle.closures_proof.specs.Ticks.{tick_syntax, tick_trap, tick_code, Specifies, BeforeTick}
use Rattle.closures_proof.specs.Ticks.{TicksAreMeant}
use Rattle.closures_proof.proofs.Sums.{sums_exact}
use Rattle.closures_proof.proofs.Making.{kept_by_sums, tick_made, room, few_of, kind_word, replaced_length}
use Rattle.closures_proof.proofs.Making.{words_length}
use Rattle.closures_proof.proofs.TickSpots.{Among, specifications_there, global_wrote}
use Rattle.closures_proof.proofs.TickSteps.{AllAmong, Placed, At, AtWith, at_wider, rises, const_goes, begin_goes}
use Rattle.closures_proof.proofs.TickSteps.{checks_go, checks_end, new_goes, new_refused, puts_go}

-- ---- lists of registers

all_words : (layout : Layout) (d : Data) (vs words : List ℕ) → HaveWords layout d vs words → AreWordsIn words
all_words layout d [] [] h = tt
all_words layout d [] (x ∷ words) h = absurd h
all_words layout d (v ∷ vs) [] h = absurd h
all_words layout d (v ∷ vs) (x ∷ words) h = (h.1, all_words layout d vs words h.2)

same_length : (layout : Layout) (d : Data) (xs : List TickCapture) (words : List ℕ) →
    HaveWords layout d (words_in xs) words → length xs ≡ length words
same_length layout d [] [] h = refl
same_length layout d [] (x ∷ words) h = absurd h
same_length layout d (v ∷ vs) [] h = absurd h
same_length layout d (v ∷ vs) (x ∷ words) h = ap suc (same_length layout d vs words h.2)

kinds_length : (xs : List TickCapture) → length (kinds_in xs) ≡ length xs
kinds_length [] = refl
kinds_length (x ∷ xs) = ap suc (kinds_length xs)

-- the members of a list behind others are among all
behind_all : (layout : Layout) (front vs : List ℕ) → AllAmong layout vs (front ++ vs)
behind_all layout front [] = tt
behind_all layout front (v ∷ vs) =
    (there front, subst (AllAmong layout vs) (one_by_one front) (behind_all layout (front ++ v ∷ []) vs))
  where
    there : (front : List ℕ) → Among layout v (front ++ v ∷ vs)
    there [] = record { elsewhere = λ q e. e.0; beside = λ sp n e. e.0 }
    there (w ∷ front) =
        let rest = there front in
        record { elsewhere = λ q e. rest.elsewhere q e.1; beside = λ sp n e. rest.beside sp n e.1 }

    one_by_one : (front : List ℕ) → (front ++ v ∷ []) ++ vs ≡ front ++ v ∷ vs
    one_by_one [] = refl
    one_by_one (w ∷ front) = ap (λ (l : List ℕ). w ∷ l) (one_by_one front)

-- ---- places of the captured words

all_placed : (ks : List Closure) (k : Closure) (i : ℕ) (words : List ℕ) (b : Data) → HasNewest ks k b →
    length k.captured ≡ i + length words → AreWordsIn words → Placed i words b
all_placed ks k i [] b h same small = tt
all_placed ks k i (x ∷ words) b h same small =
    let long = replaced_length i x k.captured in (
      has_place ks k i x b h (omega (arith, same)) small.0,
      all_placed ks (record { head = k.head; captured = replaced i x k.captured }) (suc i) words (with_captured i x b)
          (words_put ks k i x b h (omega (arith, same)) small.0) (omega (arith, long, same)) small.1,
    )

puts_registers : (i : ℕ) (words : List ℕ) (b : Data) → (puts i words b).registers ≡ b.registers
puts_registers i [] b = refl
puts_registers i (x ∷ words) b = puts_registers (suc i) words (with_captured i x b)

-- ---- traps in their order

pub first_none : (x y : Option TrapKind) → first_trap x y ≡ None → (x ≡ None) × (y ≡ None)
first_none None y e = (refl, e)
first_none (Some k) y e = let z : ⊥ = cc in absurd z

size_fits : (size : ℕ) → size_trap size ≡ None → size ≤ SIZE_LIMIT
size_fits size e = elim (cases_Bool (nat_le size SIZE_LIMIT)) [
  | inl t ↦ grind (arith, nat_tests, t)
  | inr t ↦ (let some : size_trap size ≡ Some SizeLimit = rw t refl in let z : ⊥ = cc in absurd z)
]

module _ (text : Text) (shared : Shared) (tick : ℕ) (r : TickRegisters) (xs : List TickCapture) (words : List ℕ)
    (layout : Layout) (address : Aim → ℕ) (bytes : ℕ) (c : Code) (a : ℕ) (d : Data)
    (g : BeforeTick text shared tick r xs words layout address bytes c a d) where
  abbrev ws : List ℕ
  ws = written r xs

  abbrev size : ℕ
  size = tick_size (slice_get text.program.ticks tick)

  abbrev kind : ClosureKind
  kind = kind_of_tick (is_expression (slice_get text.program.ticks tick))

  abbrev codes : List Op → List Instr
  codes ops = templates layout address ops

  abbrev first : Op
  first = op.Const r.size size

  abbrev second : Op
  second = op.Run run.Begin r.begun r.size

  abbrev one : List Instr
  one = template layout address first

  abbrev two : List Instr
  two = template layout address second

  abbrev checks : List Instr
  checks = codes (check_ops xs)

  abbrev last : List Instr
  last = codes (new_ops text tick r xs)

  abbrev p1 : ℕ
  p1 = past a one

  abbrev p2 : ℕ
  p2 = past p1 two

  abbrev p3 : ℕ
  p3 = past p2 checks

  -- where they stand
  h1 : HasAt c p1 (two ++ codes (check_ops xs ++ new_ops text tick r xs))
  h1 = back c a one (two ++ codes (check_ops xs ++ new_ops text tick r xs)) g.stands

  h2 : HasAt c p2 (checks ++ last)
  h2 =
      subst (HasAt c p2) (templates_append layout address (check_ops xs) (new_ops text tick r xs))
      (back c p1 two (codes (check_ops xs ++ new_ops text tick r xs)) h1)

  h3 : HasAt c p3 last
  h3 = back c p2 checks last h2

  way : past a (tick_code text tick r xs layout address) ≡ past p3 last
  way =
      past_append a one (two ++ codes (check_ops xs ++ new_ops text tick r xs))
      ∙ past_append p1 two (codes (check_ops xs ++ new_ops text tick r xs))
      ∙ ap (past p2) (templates_append layout address (check_ops xs) (new_ops text tick r xs))
      ∙ past_append p2 checks last

  -- before each op's end comes that of all
  low3 : p3 < SEGMENT_BYTES
  low3 = let e = rises p3 last in omega (arith, e, way, g.low)

  low2 : p2 < SEGMENT_BYTES
  low2 = let e = rises p2 checks in omega (arith, e, low3)

  abbrev new_op : Op
  new_op = op.New r.number (text.generator_at tick) kind (length xs)

  -- ---- up to the checks

  has : HaveWords layout d (words_in xs) words
  has = g.spots.values

  count : length xs ≡ length words
  count = same_length layout d xs words has

  among : AllAmong layout ws ws
  among = behind_all layout [] ws

  among_answers : AllAmong layout (answers_in xs) ws
  among_answers = behind_all layout (r.size ∷ r.begun ∷ r.number ∷ []) (answers_in xs)

  abbrev StateAt : (l m p : ℕ) → Data → Type 0
  StateAt l m p b = At layout address bytes ws c a d g.spots.frame g.spots.results g.routines l m p b

  begun_at : StateAt 14 21 p2 (with_so_far size 0 d)
  begun_at =
      let u = g.spots.results in
      let small : size < 4294967296 = omega (arith, g.size) in
      let s = const_goes layout address bytes ws c a d g.spots.frame u g.routines r.size size u.0 among.0 small
      (front c a one (two ++ codes (check_ops xs ++ new_ops text tick r xs)) g.stands) in
      begin_goes layout address bytes ws c a d g.spots.frame u g.routines {l = 3} {m = 5} {p = p1} r.begun r.size size
      s.state s.value_is small u.1.0 u.0 among.1.0 g.specifications.memory.global
      (front c p1 two (codes (check_ops xs ++ new_ops text tick r xs)) h1) low2

  abbrev syntax : Syntax
  syntax = tick_syntax tick xs words shared

  abbrev begun : Sums
  begun = record { size = size; parameters = 0 }

  few : size + SIZE_LIMIT * length xs < 4294967296
  few = omega (arith, g.size, g.few)

  -- ---- where a captured number is refused

  pub captures_end : (trap : TrapKind) → captures_trap shared.specifications (kinds_in xs) words ≡ Some trap →
      EndsIn 24 (43 + 40 * checks_in xs) (Ended (Trap trap)) (at c a 0 d) c d.outside
  captures_end trap some =
      ends_wider (omega arith) (omega arith)
      (checks_end layout address bytes ws c a d g.spots.frame g.spots.results g.routines text shared g.specifications xs
      words trap has g.spots.captured g.spots.apart some 14 21 p2 begun begun_at g.spots.results.1.1.1 among_answers
      (front c p2 checks last h2) low3 few)

  -- ---- where none is

  module _ (fit : captures_trap shared.specifications (kinds_in xs) words ≡ None) where
    kinds : length (kinds_in xs) ≡ length words
    kinds = kinds_length xs ∙ count

    abbrev whole : Sums
    whole = record { size = syntax_size text.program syntax; parameters = parameters_of syntax }

    abbrev with_sums : Data
    with_sums = with_so_far whole.size whole.parameters d

    checked_at : StateAt (14 + 34 * checks_in xs) (21 + 40 * checks_in xs) p3 with_sums
    checked_at =
        let exact = sums_exact text shared.specifications g.specifications.closures tick (kinds_in xs) words
        g.specifications.stand_for fit kinds in
        subst (λ (sums : Sums). StateAt (14 + 34 * checks_in xs) (21 + 40 * checks_in xs) p3
        (with_so_far sums.size sums.parameters d)) exact
        (checks_go layout address bytes ws c a d g.spots.frame g.spots.results g.routines text shared g.specifications
        xs words has g.spots.captured g.spots.apart fit 14 21 p2 begun begun_at g.spots.results.1.1.1 among_answers
        (front c p2 checks last h2) low3 few)

    abbrev new : List Instr
    new = template layout address new_op

    new_stands : HasAt c p3 new
    new_stands = front c p3 new (codes (put_ops 0 xs)) h3

    new_low : past p3 new < SEGMENT_BYTES
    new_low =
        let e = past_append p3 new (codes (put_ops 0 xs)) in
        let r = rises (past p3 new) (codes (put_ops 0 xs)) in
        omega (arith, e, r, way, g.low)

    pub new_end : (trap : TrapKind) → new_trap whole.size (length words) shared ≡ Some trap →
        EndsIn 24 (43 + 40 * checks_in xs) (Ended (Trap trap)) (at c a 0 d) c d.outside
    new_end trap some =
        ends_wider (omega arith) (omega arith)
        (new_refused layout address bytes ws c a d g.spots.frame g.spots.results g.routines text shared g.specifications
        {l = 14 + 34 * checks_in xs} {m = 21 + 40 * checks_in xs} r.number (text.generator_at tick) kind (length xs)
        trap whole checked_at g.few (ap (λ n. new_trap whole.size n shared) count ∙ some) new_stands new_low)

    -- ---- within the limits

    module _ (none : new_trap whole.size (length words) shared ≡ None) where
      limits : (size_trap whole.size ≡ None) × (closure_trap (length words) shared ≡ None)
      limits = first_none (size_trap whole.size) (closure_trap (length words) shared) none

      small : whole.size ≤ SIZE_LIMIT
      small = size_fits whole.size limits.0

      abbrev head : Head
      head = syntax_head text kind syntax

      abbrev memory : Data
      memory = appended head (length words) with_sums

      abbrev StateWith : (l m p : ℕ) → Data → Type 0
      StateWith l m p b =
          AtWith layout address bytes ws c a d g.spots.frame g.spots.results g.routines l m p b r.number
          (next_number shared)

      new_at : StateWith (53 + 34 * checks_in xs) (62 + 40 * checks_in xs) (past p3 new) memory
      new_at =
          let s = new_goes layout address bytes ws c a d g.spots.frame g.spots.results g.routines text shared
          g.specifications {l = 14 + 34 * checks_in xs} {m = 21 + 40 * checks_in xs} r.number (text.generator_at tick)
          kind (length xs) whole checked_at g.spots.results.1.1.0 among.1.1.0 g.few
          (ap (λ n. new_trap whole.size n shared) count ∙ none) new_stands new_low in
          subst (λ n. StateWith (53 + 34 * checks_in xs) (62 + 40 * checks_in xs) (past p3 new)
          (appended head n with_sums)) count
          (record {
            state = at_wider layout address bytes ws c a d g.spots.frame g.spots.results g.routines (omega arith)
                (omega arith) refl s.state;
            value_is = s.value_is;
          })

      placed : Placed 0 words memory
      placed =
          let parameters = few_of syntax in
          let space = room (length words) shared limits.1 in
          let number = kind_word (is_expression (slice_get text.program.ticks tick)) in
          let h = newest_made g.specifications.closures head (length words) with_sums
          (sums_keep whole.size whole.parameters g.specifications.closures d g.specifications.memory)
          (omega (arith, space, g.specifications.bytes))
          (record {
            first = g.generator;
            kind = number;
            size = omega (arith, small);
            parameters = omega (arith, parameters);
          }) in
          let there = words_at with_sums.closures (next_closure with_sums + closure_bytes 0) (length words) in
          let long = words_length with_sums.closures (next_closure with_sums + closure_bytes 0) (length words) in
          all_placed g.specifications.closures (record { head = head; captured = there }) 0 words memory h
          (omega (arith, long)) (all_words layout d (words_in xs) words has)

      put_at : StateWith (53 + 34 * checks_in xs + 5 * length xs) (62 + 40 * checks_in xs + 8 * length xs)
          (past a (tick_code text tick r xs layout address)) (puts 0 words memory)
      put_at =
          let s = puts_go layout address bytes ws c a d g.spots.frame g.spots.results g.routines text shared
          g.specifications xs words 0 r.number (next_number shared) has g.spots.captured g.spots.apart
          g.spots.results.1.1.0 (53 + 34 * checks_in xs) (62 + 40 * checks_in xs) (past p3 new) memory new_at refl
          placed (back c p3 new (codes (put_ops 0 xs)) h3) in
          record {
            state = at_wider layout address bytes ws c a d g.spots.frame g.spots.results g.routines (omega arith)
                (omega arith) (sym (way ∙ past_append p3 new (codes (put_ops 0 xs)))) s.state;
            value_is = s.value_is;
          }

      pub tick_specified : Specifies text shared tick r xs words layout (tick_code text tick r xs layout address) c a d
      tick_specified = record {
        after = put_at.state.after;
        runs = put_at.state.runs;
        number = put_at.value_is;
        specifications =
            specifications_there text _ (puts 0 words memory) put_at.state.after put_at.state.wrote.world
            (global_wrote bytes g.spots.results put_at.state.wrote
            ∙ sym (ap (λ (f : ℕ → ℕ). f 28) (puts_registers 0 words memory)))
            (tick_made text shared tick (kinds_in xs) words with_sums
            (kept_by_sums text shared whole.size whole.parameters d g.specifications) fit kinds
            (all_words layout d (words_in xs) words has) g.generator small limits.1);
        left = put_at.state.wrote;
      }

-- ---- the laws

pub ticks_made : (text : Text) (shared : Shared) (tick : ℕ) (r : TickRegisters) (xs : List TickCapture)
    (words : List ℕ) (layout : Layout) (address : Aim → ℕ) (bytes : ℕ) (c : Code) (a : ℕ) (d : Data) →
    BeforeTick text shared tick r xs words layout address bytes c a d → tick_trap text tick xs words shared ≡ None →
    Specifies text shared tick r xs words layout (tick_code text tick r xs layout address) c a d
ticks_made text shared tick r xs words layout address bytes c a d g none =
    let both = first_none (captures_trap shared.specifications (kinds_in xs) words)
    (new_trap (syntax_size text.program (tick_syntax tick xs words shared)) (length words) shared) none in
    tick_specified text shared tick r xs words layout address bytes c a d g both.0 both.1

pub ticks_trap : (text : Text) (shared : Shared) (tick : ℕ) (r : TickRegisters) (xs : List TickCapture)
    (words : List ℕ) (layout : Layout) (address : Aim → ℕ) (bytes : ℕ) (c : Code) (a : ℕ) (d : Data)
    (trap : TrapKind) → BeforeTick text shared tick r xs words layout address bytes c a d →
    tick_trap text tick xs words shared ≡ Some trap →
    EndsIn 24 (43 + 40 * checks_in xs) (Ended (Trap trap)) (at c a 0 d) c d.outside
ticks_trap text shared tick r xs words layout address bytes c a d trap g some =
    by (captures_trap shared.specifications (kinds_in xs) words) refl some
  where
    by : (o : Option TrapKind) → captures_trap shared.specifications (kinds_in xs) words ≡ o →
        first_trap o (new_trap (syntax_size text.program (tick_syntax tick xs words shared)) (length words) shared)
        ≡ Some trap →
        EndsIn 24 (43 + 40 * checks_in xs) (Ended (Trap trap)) (at c a 0 d) c d.outside
    by None is some = new_end text shared tick r xs words layout address bytes c a d g is trap some
    by (Some k) is some =
        captures_end text shared tick r xs words layout address bytes c a d g trap (is ∙ some)

-- what is left where there is a trap, one behind another
unless_first : {A : Type 0} (x y : Option TrapKind) (w : World) (result : Result A) →
    unless x w (unless y w result) ≡ unless (first_trap x y) w result
unless_first None y w result = refl
unless_first (Some k) y w result = refl

pub ticks_meant : TicksAreMeant
ticks_meant text tick xs words w =
    let shared = w.shared in
    let syntax = tick_syntax tick xs words shared in
    let captured = captures_trap shared.specifications (kinds_in xs) words in
    let size = size_trap (syntax_size text.program syntax) in
    let room = closure_trap (length words) shared in
    let result = spend (next_number shared) (with_shared
    (specified (specification_of (is_expression (slice_get text.program.ticks tick)) syntax) (length words) shared) w)
    in
    ap (unless captured w) (unless_first size room w result)
    ∙ unless_first captured (first_trap size room) w result
