-- A specification that is made is known where the earlier ones are.
use Rattle.std.proofs.Common.{◌≡◌, ℕ, zero, suc, ◌+◌, ◌*◌, ◌/◌, ◌<◌, ◌≤◌, Bool, true, false, List, [], ◌∷◌, ◌++◌, length}
use Rattle.std.proofs.Common.{Option, Some, None, slice_get, refl, sym, ap, ◌∙◌, subst, arith}
use Rattle.std.specs.Prelude.{nat_le, if◌then◌else◌}
use Rattle.std.proofs.lemmas.Bool.Decides.{nat_tests}
use Rattle.std.proofs.lemmas.List.{length-append}
use Rattle.limits.specs.declared.ops.TheConstants.{KEYS}
use Rattle.limits.specs.declared.program.TheConstants.{MOST_ARGUMENTS, SIZE_LIMIT}
use Rattle.word32.specs.declared.map.TheConstants.{CLOSURE_BYTES}
use Rattle.host_edge.specs.declared.ending.TrapKind.{TrapKind}
use Rattle.host_edge.specs.declared.ending.TrapKind.TheVariants.{BadSpec, SpecLimit, SizeLimit, BadParam}
use Rattle.history.specs.Syntax.{Syntax, Ticked, Captures, NoCapture, Word, Named, Spliced}
use Rattle.meaning_state.specs.Shared.{Shared, Specification, Expression, Statement, Local, Param, malloc, is_room}
use Rattle.meaning_state.specs.Rows.{numbered, closure_trap, closure_bytes, size_trap, index_trap, next_number}
use Rattle.meaning_state.specs.Rows.{specified, arena_words, next_place, placed, made}
use Rattle.meaning_state.specs.Rows.{keys_of, keys_in}
use Rattle.typed_tree.specs.declared.expression.Answer.{Answer}
use Rattle.typed_tree.specs.declared.expression.Answer.TheVariants as answer
use Rattle.typed_tree.specs.declared.expression.CaptureKind.{CaptureKind}
use Rattle.typed_tree.specs.declared.expression.CaptureKind.TheVariants as kind
use Rattle.typed_tree.specs.Nodes as node
use Rattle.typed_tree.specs.Sizes.{is_value}
use Rattle.meaning_state.specs.Bodies.{Body, new_body}
use Rattle.wellformed.specs.Program.{IsProgram}
use Rattle.icode_ir.specs.Sound.{Each}
use Rattle.icode_ir.proofs.Sounds.{Each-append, Each-weaker}
use Rattle.staged_meaning.specs.Program.{Program, is_expression, tick_size, syntax_size, captures_size}
use Rattle.staged_meaning.specs.World.{World, with_shared, spend}
use Rattle.staged_meaning.specs.Specifications.{fits, captures_trap, captures_of, key_in, syntax_in, specification_of}
use Rattle.staged_meaning.specs.Specifications.{specify, specify_syntax, specify_tick, specify_parameter}
use Rattle.generator_spec.specs.Kinds.{IsKnown}
use Rattle.generator_spec.specs.FittingLaws.{ticks_of}
use Rattle.generator_spec.proofs.Wholes.{kept}
use Rattle.generated_ops_proof.specs.Answers.{leaves, HaveAnswers, HaveAnswersAt, HasAnswers, AllHaveAnswers}
use Rattle.generated_ops_proof.specs.Laws.{IsMade}
use Rattle.known_closures_proof.specs.Known.{IsSmall, IsRow, IsCode, keys_of_row, AreEarlier, AreKnown}
use Rattle.known_closures_proof.proofs.Keeping.{Keeps, unless_keeps, spend_keeps}

each_at : {A : Type 0} (Q : A → Type 0) (xs : List A) (n : ℕ) (x : A) → Each Q xs → slice_get xs n ≡ Some x → Q x
each_at Q [] n x h e = absurd cc
each_at Q (y ∷ ys) zero x h e = subst Q (let is : y ≡ x = cc in is) h.0
each_at Q (y ∷ ys) (suc n) x h e = each_at Q ys n x h.1 e

pub row_at : {A : Type 0} (Q : A → Type 0) (xs : List A) (v : ℕ) (x : A) → Each Q xs → numbered v xs ≡ Some x → Q x
row_at Q xs zero x h e = absurd cc
row_at Q xs (suc n) x h e = each_at Q xs n x h e

-- the number of a row that is there
at_most : {A : Type 0} (xs : List A) (v : ℕ) (x : A) → numbered v xs ≡ Some x → v ≤ length xs
at_most xs zero x e = omega arith
at_most [] (suc n) x e = absurd cc
at_most (y ∷ ys) (suc zero) x e = omega arith
at_most (y ∷ ys) (suc (suc n)) x e = omega (arith, at_most ys (suc n) x e)

no_trap : (k : TrapKind) (b : Bool) → (if b then None else Some k) ≡ None → b ≡ true
no_trap k true e = refl
no_trap k false e = absurd cc

module _ (p : node.Program) (accepted : IsProgram p) where
  abbrev Known : Shared → Type 0
  Known = AreKnown p accepted

  -- what changes no row keeps them
  pub known_same : (s t : Shared) → t.specifications ≡ s.specifications → t.closures ≡ s.closures
      → t.bodies ≡ s.bodies → Known s → Known t
  known_same s t e f g k = record {
    rows = subst (λ z. Each (IsRow p accepted) z) (sym e) k.rows;
    keys = subst (λ z. AreEarlier 0 z) (sym e) k.keys;
    bytes = omega (arith, k.bytes, ap length e, f);
    within = omega (arith, k.within, f);
    bodies = subst (λ z. Each (λ (b : Body). IsCode p accepted b.syntax) z) (sym g) k.bodies;
  }

  -- a row more
  abbrev pub Low : ℕ → List ℕ → Type 0
  Low n keys = Each (λ key. key < MOST_ARGUMENTS + n) keys

  lower : (n m : ℕ) (keys : List ℕ) → n ≤ m → Low n keys → Low m keys
  lower n m keys le low =
      Each-weaker (λ key. key < MOST_ARGUMENTS + n) (λ key. key < MOST_ARGUMENTS + m) (λ key h. omega
      (arith, h, le)) keys
      low

  -- a row behind others
  one_more : (before : ℕ) (rows : List Specification) (row : Specification) → AreEarlier before rows
      → Low (before + length rows) (keys_of_row row) → AreEarlier before (rows ++ row ∷ [])
  one_more before [] row h low = (lower (before + 0) before (keys_of_row row) (omega arith) low, tt)
  one_more before (r ∷ rows) row h low = (
    h.0,
    one_more (before + 1) rows row h.1
        (lower (before + suc (length rows)) (before + 1 + length rows) (keys_of_row row) (omega arith) low),
  )

  -- all of them name rows that are there
  pub all_low : (before n : ℕ) (rows : List Specification) → before + length rows ≤ n → AreEarlier before rows
      → Each (λ row. Low n (keys_of_row row)) rows
  all_low before n [] le h = tt
  all_low before n (r ∷ rows) le h = (
    lower before n (keys_of_row r) (omega (arith, le)) h.0,
    all_low (before + 1) n rows (omega (arith, le)) h.1,
  )

  -- a row is what code may be made of
  pub row_code : (s : Shared) → Known s → (number : ℕ) (v : Bool) (syntax : Syntax)
      → numbered number s.specifications ≡ Some (specification_of v syntax) → IsCode p accepted syntax
  row_code s k number v syntax at =
      let rows : List Specification = s.specifications in
      let is = is_code v (row_at (IsRow p accepted) rows number (specification_of v syntax) k.rows at) in
      let low = row_at (λ row. Low (length rows) (keys_of_row row)) rows number (specification_of v syntax)
      (all_low 0 (length rows) rows (omega arith) k.keys) at in record {
        made = is.0;
        small = is.1;
        keys = Each-weaker (λ key. key < MOST_ARGUMENTS + length rows) (λ key. key < KEYS)
            (λ key h. omega (arith, h, k.bytes, k.within)) (keys_of syntax) (its_keys v low);
      }
    where
      is_code : (v : Bool) → IsRow p accepted (specification_of v syntax) → IsMade p accepted syntax × IsSmall p syntax
      is_code true is = (is.0, is.2)
      is_code false is = (is.0, is.2)

      its_keys : (v : Bool) → Low (length s.specifications) (keys_of_row (specification_of v syntax))
          → Low (length s.specifications) (keys_of syntax)
      its_keys true low = low
      its_keys false low = low

  pub new_row : (row : Specification) (captures : ℕ) (s : Shared) → Known s → IsRow p accepted row
      → Low (length s.specifications) (keys_of_row row) → closure_trap captures s ≡ None
      → Known (specified row captures s)
  new_row row captures s k is low none =
      let rows : List Specification = s.specifications in
      let now : List Specification = rows ++ row ∷ [] in
      let more : length now ≡ length rows + 1 = length-append rows (row ∷ []) in
      let fits : nat_le (s.closures + closure_bytes captures) CLOSURE_BYTES ≡ true = no_trap SpecLimit _ none in
      let room : s.closures + closure_bytes captures ≤ CLOSURE_BYTES = grind (arith, nat_tests) in record {
        rows = Each-append (IsRow p accepted) rows (row ∷ []) k.rows (is, tt);
        keys = one_more 0 rows row k.keys (lower (length rows) (0 + length rows) (keys_of_row row) (omega arith) low);
        bytes = omega (arith, k.bytes, more);
        within = room;
        bodies = k.bodies;
      }

  pub specify_keeps : (row : Specification) (captures : ℕ) (w : World) → Known w.shared → IsRow p accepted row
      → Low (length w.shared.specifications) (keys_of_row row) → Keeps Known (specify row captures w)
  specify_keeps row captures w k is low =
      unless_keeps Known (closure_trap captures w.shared) w
      (spend (next_number w.shared) (with_shared (specified row captures w.shared) w)) k
      (λ none. spend_keeps Known (next_number w.shared) (with_shared (specified row captures w.shared) w)
      (new_row row captures w.shared k is low none))

  pub parameter_keeps : (index : ℕ) (w : World) → Known w.shared → Keeps Known (specify_parameter index w)
  parameter_keeps index w k =
      unless_keeps Known (index_trap index) w (specify (Param index) 0 w) k
      (λ none.
      let fits : nat_le index 7 ≡ true = no_trap BadParam _ none in
      let low : index < MOST_ARGUMENTS = grind (arith, nat_tests) in specify_keeps (Param index) 0 w k low tt)

  -- ---- a tick's

  known_row : (r : Specification) → IsRow p accepted r → IsKnown accepted.captures r
  known_row (Expression syntax) is = is.0.ticks
  known_row (Statement syntax) is = is.0.ticks
  known_row Local is = tt
  known_row (Param index) is = tt

  module _ (rows : List Specification) (are : Each (IsRow p accepted) rows)
      (low : Each (λ row. Low (length rows) (keys_of_row row)) rows) where
    -- what is promised of a specification that is spliced in, and of what is captured
    record Splices (answer : Answer) (syntax : Syntax) : Type 0 where
      value : leaves (ticks_of p) syntax ≡ is_value answer
      answers : HasAnswers (ticks_of p) accepted.captures syntax
      keys : Low (length rows) (keys_of syntax)

    splice_case : (answer : Answer) (o : Option Specification) (v : ℕ) (kinds : List CaptureKind) (words : List ℕ)
        → numbered v rows ≡ o
        → (if fits (kind.Splice answer) o then captures_trap rows kinds words else Some BadSpec) ≡ None
        → Splices answer (syntax_in o) × (captures_trap rows kinds words ≡ None)
    splice_case answer.Value (Some (Expression syntax)) v kinds words e h =
        let is = row_at (IsRow p accepted) rows v (Expression syntax) are e in
        (record { value = is.1; answers = is.0.answers; keys = row_at _ rows v (Expression syntax) low e }, h)
    splice_case answer.Void (Some (Statement syntax)) v kinds words e h =
        let is = row_at (IsRow p accepted) rows v (Statement syntax) are e in
        (record { value = is.1; answers = is.0.answers; keys = row_at _ rows v (Statement syntax) low e }, h)
    splice_case answer.Value None v kinds words e h = absurd cc
    splice_case answer.Value (Some (Statement syntax)) v kinds words e h = absurd cc
    splice_case answer.Value (Some Local) v kinds words e h = absurd cc
    splice_case answer.Value (Some (Param index)) v kinds words e h = absurd cc
    splice_case answer.Void None v kinds words e h = absurd cc
    splice_case answer.Void (Some (Expression syntax)) v kinds words e h = absurd cc
    splice_case answer.Void (Some Local) v kinds words e h = absurd cc
    splice_case answer.Void (Some (Param index)) v kinds words e h = absurd cc

    variable_case : (o : Option Specification) (v : ℕ) (kinds : List CaptureKind) (words : List ℕ) → numbered v rows ≡ o
        → (if fits kind.Variable o then captures_trap rows kinds words else Some BadSpec) ≡ None
        → (key_in v o < MOST_ARGUMENTS + length rows) × (captures_trap rows kinds words ≡ None)
    variable_case (Some Local) v kinds words e h =
        (let high = at_most rows v Local e in omega (arith, high), h)
    variable_case (Some (Param index)) v kinds words e h =
        (let is = row_at (IsRow p accepted) rows v (Param index) are e in omega (arith, is), h)
    variable_case None v kinds words e h = absurd cc
    variable_case (Some (Expression syntax)) v kinds words e h = absurd cc
    variable_case (Some (Statement syntax)) v kinds words e h = absurd cc

    record Captured (kinds : List CaptureKind) (captures : Captures) : Type 0 where
      answers : HaveAnswers (ticks_of p) kinds captures
      all : AllHaveAnswers (ticks_of p) accepted.captures captures
      keys : Low (length rows) (keys_in captures)

    captured : (kinds : List CaptureKind) (words : List ℕ) → captures_trap rows kinds words ≡ None
        → Captured kinds (captures_of rows kinds words)
    captured [] words h = record { answers = tt; all = tt; keys = tt }
    captured (k ∷ kinds) [] h = nothing k kinds
      where
        nothing : (k : CaptureKind) (kinds : List CaptureKind) → Captured (k ∷ kinds) NoCapture
        nothing kind.Dollar kinds = record { answers = tt; all = tt; keys = tt }
        nothing kind.Address kinds = record { answers = tt; all = tt; keys = tt }
        nothing (kind.Splice r) kinds = record { answers = tt; all = tt; keys = tt }
        nothing kind.Variable kinds = record { answers = tt; all = tt; keys = tt }
    captured (kind.Dollar ∷ kinds) (v ∷ words) h =
        let c = captured kinds words h in record { answers = c.answers; all = c.all; keys = c.keys }
    captured (kind.Address ∷ kinds) (v ∷ words) h =
        let c = captured kinds words h in record { answers = c.answers; all = c.all; keys = c.keys }
    captured (kind.Splice r ∷ kinds) (v ∷ words) h =
        let q = splice_case r (numbered v rows) v kinds words refl h in
        let c = captured kinds words q.1 in record {
          answers = (q.0.value, c.answers);
          all = (q.0.answers, c.all);
          keys = Each-append (λ key. key < MOST_ARGUMENTS + length rows) (keys_of (syntax_in (numbered v rows)))
              (keys_in (captures_of rows kinds words)) q.0.keys c.keys;
        }
    captured (kind.Variable ∷ kinds) (v ∷ words) h =
        let q = variable_case (numbered v rows) v kinds words refl h in
        let c = captured kinds words q.1 in record { answers = c.answers; all = c.all; keys = (q.0, c.keys) }

    -- a new specification
    record New (syntax : Syntax) : Type 0 where
      made : IsMade p accepted syntax
      keys : Low (length rows) (keys_of syntax)

    new : (tick : ℕ) (kinds : List CaptureKind) (words : List ℕ) → slice_get accepted.captures tick ≡ Some kinds
        → length kinds ≡ length words → captures_trap rows kinds words ≡ None
        → New (Ticked tick (captures_of rows kinds words))
    new tick kinds words own same none =
        let c = captured kinds words none in record {
          made = record {
            ticks = kept accepted.captures rows
                (Each-weaker (IsRow p accepted) (IsKnown accepted.captures) known_row rows are) tick kinds words own
                same none;
            answers = (
              subst (λ o. HaveAnswersAt (ticks_of p) o (captures_of rows kinds words)) (sym own) c.answers,
              c.all,
            );
          };
          keys = c.keys;
        }

  row_of : (v : Bool) (syntax : Syntax) → IsMade p accepted syntax → leaves (ticks_of p) syntax ≡ v → IsSmall p syntax
      → IsRow p accepted (specification_of v syntax)
  row_of true syntax made e small = (made, e, small)
  row_of false syntax made e small = (made, e, small)

  -- a size is one by the ticks alone
  mutual
    size_same : (q r : Program) → q.ticks ≡ r.ticks → (syntax : Syntax) → syntax_size q syntax ≡ syntax_size r syntax
    size_same q r same (Ticked tick captures) =
        let own = ap (λ z. tick_size (slice_get z tick)) same in omega (arith, own, sizes_same q r same captures)

    sizes_same : (q r : Program) → q.ticks ≡ r.ticks → (captures : Captures)
        → captures_size q captures ≡ captures_size r captures
    sizes_same q r same NoCapture = refl
    sizes_same q r same (Word word captures) = sizes_same q r same captures
    sizes_same q r same (Named key captures) = sizes_same q r same captures
    sizes_same q r same (Spliced syntax captures) =
        omega (arith, size_same q r same syntax, sizes_same q r same captures)

  small_by : (program : Program) (syntax : Syntax) → program.ticks ≡ ticks_of p
      → size_trap (syntax_size program syntax) ≡ None → IsSmall p syntax
  small_by program syntax ticks none other same =
      let fits : nat_le (syntax_size program syntax) SIZE_LIMIT ≡ true = no_trap SizeLimit _ none in
      let few : syntax_size program syntax ≤ SIZE_LIMIT = grind (arith, nat_tests) in
      omega (arith, few, size_same other program (same ∙ sym ticks) syntax)

  keys_same : (v : Bool) (syntax : Syntax) → keys_of_row (specification_of v syntax) ≡ keys_of syntax
  keys_same true syntax = refl
  keys_same false syntax = refl

  -- a tick's specification, of captures that it may have, is a row, and names variables that are there
  tick_row : (program : Program) → program.ticks ≡ ticks_of p → (tick : ℕ) (kinds : List CaptureKind)
      (words : List ℕ) (s : Shared) → Known s → slice_get accepted.captures tick ≡ Some kinds
      → length words ≡ length kinds → captures_trap s.specifications kinds words ≡ None
      → let syntax = Ticked tick (captures_of s.specifications kinds words) in
      let row = specification_of (is_expression (slice_get program.ticks tick)) syntax in
      size_trap (syntax_size program syntax) ≡ None
      → IsRow p accepted row × Low (length s.specifications) (keys_of_row row)
  tick_row program ticks tick kinds words s k own same none small =
      let rows : List Specification = s.specifications in
      let syntax : Syntax = Ticked tick (captures_of rows kinds words) in
      let v : Bool = is_expression (slice_get program.ticks tick) in
      let it = new rows k.rows (all_low 0 (length rows) rows (omega arith) k.keys) tick kinds words own
      (sym same) none in (
        row_of v syntax it.made (ap (λ z. is_expression (slice_get z tick)) (sym ticks))
            (small_by program syntax ticks small),
        subst (λ z. Low (length rows) z) (sym (keys_same v syntax)) it.keys,
      )

  pub tick_keeps : (program : Program) → program.ticks ≡ ticks_of p → (tick : ℕ) (kinds : List CaptureKind)
      (words : List ℕ) (w : World) → Known w.shared → slice_get accepted.captures tick ≡ Some kinds
      → length words ≡ length kinds → Keeps Known (specify_tick program tick kinds words w)
  tick_keeps program ticks tick kinds words w k own same =
      let rows : List Specification = w.shared.specifications in
      let syntax : Syntax = Ticked tick (captures_of rows kinds words) in
      let v : Bool = is_expression (slice_get program.ticks tick) in
      unless_keeps Known (captures_trap rows kinds words) w (specify_syntax program tick syntax (length words) w) k
      (λ none. unless_keeps Known (size_trap (syntax_size program syntax)) w
      (specify (specification_of v syntax) (length words) w) k
      (λ small.
      let it = tick_row program ticks tick kinds words w.shared k own same none small in
      specify_keeps (specification_of v syntax) (length words) w k it.0 it.1))

  -- the row is there
  pub tick_known : (program : Program) → program.ticks ≡ ticks_of p → (tick : ℕ) (kinds : List CaptureKind)
      (words : List ℕ) (s : Shared) → Known s → slice_get accepted.captures tick ≡ Some kinds
      → length words ≡ length kinds → captures_trap s.specifications kinds words ≡ None
      → let syntax = Ticked tick (captures_of s.specifications kinds words) in
      size_trap (syntax_size program syntax) ≡ None → closure_trap (length words) s ≡ None
      → Known (specified (specification_of (is_expression (slice_get program.ticks tick)) syntax) (length words) s)
  tick_known program ticks tick kinds words s k own same none small room =
      let it = tick_row program ticks tick kinds words s k own same none small in
      new_row (specification_of (is_expression (slice_get program.ticks tick))
      (Ticked tick (captures_of s.specifications kinds words))) (length words) s k it.0 it.1 room

  -- ---- memory and functions

  pub malloc_known : (bytes : ℕ) (s : Shared) → Known s → Known (malloc bytes s)
  malloc_known bytes s k = by (is_room bytes s)
    where
      more : Shared
      more = record s { heap = s.heap + (bytes + 7) / 8 * 8 }

      by : (b : Bool) → Known (if b then more else s)
      by true = known_same s more refl refl refl k
      by false = k

  -- a function more
  pub known_made : (function size : ℕ) (syntax : Syntax) (s : Shared) → IsCode p accepted syntax → Known s
      → Known (made function syntax size s)
  known_made function size syntax s is k = record {
    rows = k.rows;
    keys = k.keys;
    bytes = k.bytes;
    within = k.within;
    bodies = by (next_place (arena_words size) s);
  }
    where
      by : (place : Option ℕ) → Each (λ (b : Body). IsCode p accepted b.syntax)
          (placed place syntax (arena_words size) s.bodies)
      by None = k.bodies
      by (Some place) =
          Each-append (λ (b : Body). IsCode p accepted b.syntax) s.bodies
          (new_body syntax place (arena_words size) ∷ []) k.bodies (is, tt)
