-- The ops of a tick, one behind another: each goes on from where the one before came to.
use Rattle.std.proofs.Common.{◌≡◌, ◌≢◌, inl, inr, ℕ, zero, suc, ◌+◌, ◌*◌, ◌/◌, ◌<◌, ◌≤◌, Bool, true, false, List, []}
use Rattle.std.proofs.Common.{◌∷◌, ◌++◌, length, Option, Some, None, refl, sym, ap, ◌∙◌, subst, arith}
use Rattle.std.proofs.Common.{if◌then◌else◌}
use Rattle.std.proofs.lemmas.Bool.{cases_Bool}
use Rattle.limits.specs.declared.ops.TheConstants.{MOST_CAPTURES}
use Rattle.limits.specs.declared.program.TheConstants.{SIZE_LIMIT}
use Rattle.word32.specs.declared.map.TheConstants.{SEGMENT_BYTES, SIZE_CELL, PARAMETERS_CELL, GLOBAL_POINTER}
use Rattle.host_edge.specs.declared.ending.Ending.TheVariants.{Trap}
use Rattle.host_edge.specs.declared.ending.TrapKind.{TrapKind}
use Rattle.host_edge.specs.declared.ending.TrapKind.TheVariants.{BadSpec}
use Rattle.history.specs.Events.{Ended}
use Rattle.mips_encoder.specs.declared.instruction.Instr.{Instr}
use Rattle.mips_encoder.specs.Addresses.{past}
use Rattle.mips_model.specs.State.{Code, Data}
use Rattle.mips_model.specs.Laws.{HasAt, at}
use Rattle.mips_model.proofs.Reach.{front, back, past_append}
use Rattle.icode_ops.specs.Kinds.{run_number, closure_number}
use Rattle.icode_ops.specs.declared.op.Op.{Op}
use Rattle.icode_ops.specs.declared.op.Op.TheVariants as op
use Rattle.icode_ops.specs.declared.kind.RunKind.TheVariants as run
use Rattle.icode_ops.specs.declared.kind.ClosureKind.{ClosureKind}
use Rattle.typed_tree.specs.declared.expression.CaptureKind.{CaptureKind}
use Rattle.typed_tree.specs.declared.expression.CaptureKind.TheVariants as kind
use Rattle.typed_tree.specs.declared.expression.Answer.TheVariants as answer
use Rattle.meaning_state.specs.Shared.{Shared, Specification, Expression, Statement, Local, Param}
use Rattle.meaning_state.specs.Rows.{numbered, next_number}
use Rattle.staged_meaning.specs.Specifications.{fits, captures_trap}
use Rattle.icode_templates.specs.Layout.{Spot, InRegister, InSlot, Layout}
use Rattle.icode_templates.specs.Templates.{Aim, template, in_code, out_code, routine_code}
use Rattle.icode_templates.specs.Expansion.{templates}
use Rattle.icode_expand.proofs.Lengths.{past_is}
use Rattle.icode_templates_proof.specs.Spots.{pointer, value, Framed, Usable, SameWorld}
use Rattle.icode_templates_proof.specs.Moves.{Runs, Writes, EndsIn}
use Rattle.icode_templates_proof.proofs.Memory.{update_same, update_other}
use Rattle.icode_templates_proof.proofs.Leaves.{runs_on, runs_to, runs_wider}
use Rattle.icode_templates_proof.proofs.Endings.{ends_behind, ends_wider, ends_with}
use Rattle.icode_templates_proof.proofs.Keeping.{value_kept}
use Rattle.icode_templates_proof.proofs.Templates.{const_writes}
use Rattle.icode_templates_proof.specs.MallocLaws.{linked, return_address}
use Rattle.icode_templates_proof.specs.Closures.{Head, Closure, word_at, with_word, with_so_far, appended, size_so_far}
use Rattle.icode_templates_proof.specs.Closures.{parameters_so_far, HasClosures}
use Rattle.icode_templates_proof.specs.Routines.{Named}
use Rattle.icode_templates_proof.specs.RoutineLaws.{HasRows, named_trap, is_named, more_of, added, new_trap}
use Rattle.icode_templates_proof.proofs.Called.{begin_called}
use Rattle.closures_proof.specs.Ops.{check_of, new_op_code, new_return_address, tick_head, HasPlace, with_captured}
use Rattle.closures_proof.proofs.Kept.{sums_keep}
use Rattle.closures_proof.proofs.OpChecks.{check_called, check_op_ends}
use Rattle.closures_proof.proofs.News.{new_called, new_op_ends}
use Rattle.closures_proof.proofs.Puts.{put_done}
use Rattle.closures_proof.specs.Relation.{Text, StandsFor, AllStandFor, HasSpecifications}
use Rattle.closures_proof.specs.Laws.{named_by, Sums, plus_named, summed, puts}
use Rattle.closures_proof.specs.Ticks.{TickCapture, check_op, check_ops, put_ops, kinds_in, words_in, answer_in}
use Rattle.closures_proof.specs.Ticks.{answers_in, checks_in, AreUsable, IsApart, AreApart, HaveWords, Wrote}
use Rattle.closures_proof.specs.Ticks.{HasRoutines}
use Rattle.closures_proof.proofs.Lookups.{members}
use Rattle.closures_proof.proofs.Checks.{checks_agree}
use Rattle.closures_proof.proofs.TickSpots.{Among, wrote_put, wrote_kept, global_wrote, framed_wrote}
use Rattle.closures_proof.proofs.TickSpots.{value_there, so_far_same, so_far_again, appended_same, captured_same}
use Rattle.closures_proof.proofs.TickSpots.{closures_there, specifications_there, place_there}
use Rattle.closures_proof.proofs.Making.{rows_there, kept_by_sums}

-- ---- the size of a closure that stands for a specification

size_small : (text : Text) (rows : List Specification) (n : ℕ) (s : Specification) (k : Closure) →
    StandsFor text rows n s k → k.head.size ≤ SIZE_LIMIT
size_small text rows n (Expression syntax) k h =
    let e = ap (λ (x : Head). x.size) h.head in omega (arith, e, h.small)
size_small text rows n (Statement syntax) k h =
    let e = ap (λ (x : Head). x.size) h.head in omega (arith, e, h.small)
size_small text rows n Local k h = let e = ap (λ (x : Closure). x.head.size) h in omega (arith, e)
size_small text rows n (Param index) k h = let e = ap (λ (x : Closure). x.head.size) h.1 in omega (arith, e)

live_small : (text : Text) (rows : List Specification) (ks : List Closure) (x : ℕ) (k : Closure) →
    AllStandFor text rows ks → numbered x ks ≡ Some k → k.head.size ≤ SIZE_LIMIT
live_small text rows ks zero k all is = let z : ⊥ = cc in absurd z
live_small text rows ks (suc n) k all is = elim (members rows ks n all.count) [
  | inl m ↦ size_small text rows (suc n) m.left k (all.each n m.left k m.left_is is)
  | inr none ↦ (let z : ⊥ = cc in absurd z)
]

-- the closure of a number that isn't refused
record Passed (named : Named) (o : Option Closure) : Type 0 where
  pub closure : Closure
  pub live : o ≡ Some closure
  pub kind : is_named named closure.head.kind ≡ true

passed : (named : Named) (o : Option Closure) → named_trap named o ≡ None → Passed named o
passed named None none = let z : ⊥ = cc in absurd z
passed named (Some k) none = record { closure = k; live = refl; kind = by (is_named named k.head.kind) none }
  where
    by : (b : Bool) → (if b then None else Some BadSpec) ≡ None → b ≡ true
    by true e = refl
    by false e = let z : ⊥ = cc in absurd z

-- ---- addresses

pub rises : (a : ℕ) (is : List Instr) → a ≤ past a is
rises a is = let e = past_is a is in omega (arith, e)

-- the op's call stands before the end of its words
call_low : (p x : ℕ) (is rest : List Instr) → past p (is ++ (routine_code x ++ rest)) < SEGMENT_BYTES →
    past p is + 12 < SEGMENT_BYTES
call_low p x is rest low =
    let e = past_append p is (routine_code x ++ rest) in
    let r = rises (past p is + 4 + 4 + 4 + 4) rest in
    omega (arith, e, r, low)

new_low : (p address : ℕ) (kind : ClosureKind) (captures : ℕ) (w : Spot) →
    past p (new_op_code w address kind captures) < SEGMENT_BYTES → new_return_address p < SEGMENT_BYTES
new_low p address kind captures w low =
    let r = rises (new_return_address p + 4) (out_code w) in omega (arith, r, low)

linked_same : (to : ℕ) (b e : Data) → SameWorld b e → SameWorld b (linked to e)
linked_same to b e w = record {
  objects = w.objects;
  closures = w.closures;
  spec_rows = w.spec_rows;
  cells = w.cells;
  emit_stack = w.emit_stack;
  table = w.table;
  outside = w.outside;
}

captured_value : (i x : ℕ) (e : Data) (w : Spot) → value (with_captured i x e) w ≡ value e w
captured_value i x e (InRegister r) = refl
captured_value i x e (InSlot far offset) = refl

-- each of the registers is one of those that are written
abbrev pub AllAmong : Layout → List ℕ → List ℕ → Type 0
AllAmong layout [] ws = Unit {0}
AllAmong layout (v ∷ vs) ws = Among layout v ws × AllAmong layout vs ws

-- each captured word has a place when it is put
abbrev pub Placed : (capture : ℕ) → List ℕ → Data → Type 0
Placed i [] b = Unit {0}
Placed i (x ∷ words) b = HasPlace i b × Placed (suc i) words (with_captured i x b)

fits_first : (b : Bool) (rest : Option TrapKind) → (if b then rest else Some BadSpec) ≡ None →
    (b ≡ true) × (rest ≡ None)
fits_first true rest e = (refl, e)
fits_first false rest e = let z : ⊥ = cc in absurd z

-- what isn't checked fits
unnamed_fits : (k : CaptureKind) (o : Option Specification) → named_by k ≡ None → fits k o ≡ true
unnamed_fits kind.Dollar o e = refl
unnamed_fits kind.Address o e = refl
unnamed_fits (kind.Splice answer.Value) o e = let z : ⊥ = cc in absurd z
unnamed_fits (kind.Splice answer.Void) o e = let z : ⊥ = cc in absurd z
unnamed_fits kind.Variable o e = let z : ⊥ = cc in absurd z

module _ (layout : Layout) (address : Aim → ℕ) (bytes : ℕ) (ws : List ℕ) (c : Code) (a : ℕ) (d : Data) (f : Framed
    (pointer d) bytes) (us : AreUsable layout bytes ws) (routines : HasRoutines c) where
  -- between two ops: so many instructions came to this address, with this memory
  pub record At (l m p : ℕ) (b : Data) : Type 0 where
    pub after : Data
    pub runs : Runs l m (at c a 0 d) (at c p 0 after)
    pub wrote : Wrote layout ws b d after

  abbrev pub CodeOf : Op → List Instr
  CodeOf o = template layout address o

  abbrev pub at_wider : {l m l' m' p p' : ℕ} {b : Data} → l' ≤ l → m ≤ m' → p ≡ p' → At l m p b → At l' m' p' b
  at_wider {l} {m} {l'} {m'} {p} {p'} {b} lo hi e s = record {
    after = s.after;
    runs = runs_to e (runs_wider lo hi s.runs);
    wrote = s.wrote;
  }

  -- and with a value at the spot of a register
  pub record AtWith (l m p : ℕ) (b : Data) (w x : ℕ) : Type 0 where
    pub state : At l m p b
    pub value_is : value state.after (layout.spot w) ≡ x

  framed_at : {l m p : ℕ} {b : Data} (s : At l m p b) → Framed (pointer s.after) bytes
  framed_at s = framed_wrote bytes us s.wrote f

  -- the tick's own size to its register
  pub const_goes : (w x : ℕ) → Usable bytes (layout.spot w) → Among layout w ws → x < 4294967296 →
      HasAt c a (CodeOf (op.Const w x)) → AtWith 3 5 (past a (CodeOf (op.Const w x))) d w x
  const_goes w x u among small h =
      let y = const_writes c a bytes x d (layout.spot w) f u small h in
      record {
        state = record {
          after = y.after;
          runs = y.runs;
          wrote = record {
            registers = λ q k n e. y.puts.registers q k (among.elsewhere q e);
            stack = λ n e. y.puts.stack n (among.beside (pointer d) n e);
            world = y.puts.world;
          };
        };
        value_is = y.puts.value_is;
      }

  -- an op that calls a routine, and puts its answer to a spot
  called : {l m l' m' p p' : ℕ} {b b' base : Data} (w x : ℕ) (s : At l m p b) → Among layout w ws →
      Writes (layout.spot w) x l' m' (at c p 0 s.after) c p' base →
      ((q : ℕ) → q ≢ 31 → base.registers q ≡ s.after.registers q) → base.stack ≡ s.after.stack → SameWorld b' base →
      AtWith (l + l') (m + m') p' b' w x
  called {l} {m} {l'} {m'} {p} {p'} {b} {b'} {base} w x s among y same stack world = record {
    state = record {
      after = y.after;
      runs = runs_on s.runs y.runs;
      wrote = wrote_put bytes w x us s.wrote among same stack world y.puts;
    };
    value_is = y.puts.value_is;
  }

  -- the specification is begun with the value of a register
  pub begin_goes : {l m p : ℕ} (w v x : ℕ) (s : At l m p d) → value s.after (layout.spot v) ≡ x → x < 4294967296 →
      Usable bytes (layout.spot w) → Usable bytes (layout.spot v) → Among layout w ws →
      d.registers 28 ≡ GLOBAL_POINTER → HasAt c p (CodeOf (op.Run run.Begin w v)) →
      past p (CodeOf (op.Run run.Begin w v)) < SEGMENT_BYTES →
      At (l + 11) (m + 16) (past p (CodeOf (op.Run run.Begin w v))) (with_so_far x 0 d)
  begin_goes {l} {m} {p} w v x s is small u u' among global h low =
      let e = s.after in
      let to = return_address p (layout.spot v) in
      let y = begin_called c p bytes e (layout.spot w) (layout.spot v)
      (call_low p (run_number run.Begin) (in_code (layout.spot v)) (out_code (layout.spot w)) low) (framed_at s) u u'
      (subst (λ n. n < 4294967296) (sym is) small) (global_wrote bytes us s.wrote ∙ global) routines.begin h in
      let same : SameWorld (with_so_far x 0 d) (with_so_far (value e (layout.spot v)) 0 (linked to e)) =
      subst (λ n. SameWorld (with_so_far x 0 d) (with_so_far n 0 (linked to e))) (sym is)
      (so_far_same x 0 d (linked to e) (linked_same to d e s.wrote.world)) in
      (called w 0 s among y (λ q n. update_other 31 to e.registers q n) refl same).state

  module _ (text : Text) (shared : Shared) (hs : HasSpecifications text shared d) where
    abbrev ks : List Closure
    ks = hs.closures

    abbrev rows : List Specification
    rows = shared.specifications

    -- with what was added up so far
    abbrev pub summing : Sums → Data
    summing sums = with_so_far sums.size sums.parameters d

    closures_at : {l m p : ℕ} (sums : Sums) (s : At l m p (summing sums)) → HasClosures ks s.after
    closures_at sums s =
        closures_there ks (summing sums) s.after s.wrote.world (global_wrote bytes us s.wrote)
        (sums_keep sums.size sums.parameters ks d hs.memory)

    size_at : {l m p : ℕ} (sums : Sums) (s : At l m p (summing sums)) → size_so_far s.after ≡ sums.size
    size_at sums s =
        ap (λ (g : ℕ → ℕ). word_at g SIZE_CELL) s.wrote.world.cells
        ∙ update_other (PARAMETERS_CELL / 4) sums.parameters (with_word SIZE_CELL sums.size d.cells) (SIZE_CELL / 4)
        (omega arith) ∙ update_same (SIZE_CELL / 4) sums.size d.cells

    parameters_at : {l m p : ℕ} (sums : Sums) (s : At l m p (summing sums)) →
        parameters_so_far s.after ≡ sums.parameters
    parameters_at sums s =
        ap (λ (g : ℕ → ℕ). word_at g PARAMETERS_CELL) s.wrote.world.cells
        ∙ update_same (PARAMETERS_CELL / 4) sums.parameters (with_word SIZE_CELL sums.size d.cells)

    abbrev more : Sums → Head → Sums
    more sums k =
        record { size = sums.size + k.size; parameters = more_of sums.parameters k.parameters }

    -- one captured number is checked
    check_goes : {l m p : ℕ} (named : Named) (w v x : ℕ) (k : Closure) (sums : Sums) (s : At l m p (summing sums)) →
        value s.after (layout.spot v) ≡ x → x < 4294967296 → Usable bytes (layout.spot w) →
        Usable bytes (layout.spot v) → Among layout w ws → numbered x ks ≡ Some k → is_named named k.head.kind ≡ true →
        sums.size + k.head.size < 4294967296 → HasAt c p (CodeOf (op.Run (check_of named) w v)) →
        past p (CodeOf (op.Run (check_of named) w v)) < SEGMENT_BYTES →
        At (l + 34) (m + 40) (past p (CodeOf (op.Run (check_of named) w v))) (summing (more sums k.head))
    check_goes {l} {m} {p} named w v x k sums s is small u u' among live kind few h low =
        let e = s.after in
        let to = return_address p (layout.spot v) in
        let size = size_at sums s in
        let parameters = parameters_at sums s in
        let y = check_called named c p bytes ks e (layout.spot v)
        (call_low p (run_number (check_of named)) (in_code (layout.spot v)) (out_code (layout.spot w)) low)
        (framed_at s) u' (subst (λ n. n < 4294967296) (sym is) small) (closures_at sums s) (routines.check named) k
        (layout.spot w) u (ap (λ n. numbered n ks) is ∙ live) kind
        (subst (λ n. n + k.head.size < 4294967296) (sym size) few) h in
        let again = linked_same to (summing (more sums k.head))
        (with_so_far (sums.size + k.head.size) (more_of sums.parameters k.head.parameters) e)
        (so_far_again sums.size sums.parameters (sums.size + k.head.size)
        (more_of sums.parameters k.head.parameters) d e s.wrote.world) in
        let same : SameWorld (summing (more sums k.head)) (added k.head (linked to e)) =
        subst (λ n. SameWorld (summing (more sums k.head))
        (with_so_far (n + k.head.size) (more_of (parameters_so_far e) k.head.parameters) (linked to e))) (sym size)
        (subst (λ n. SameWorld (summing (more sums k.head))
        (with_so_far (sums.size + k.head.size) (more_of n k.head.parameters) (linked to e))) (sym parameters) again) in
        (called w 0 s among y (λ q n. update_other 31 to e.registers q n) refl same).state

    -- and where it is refused the run ends
    check_refused : {l m p : ℕ} (named : Named) (w v x : ℕ) (trap : TrapKind) (sums : Sums)
        (s : At l m p (summing sums)) → value s.after (layout.spot v) ≡ x → x < 4294967296 →
        Usable bytes (layout.spot v) → named_trap named (numbered x ks) ≡ Some trap →
        HasAt c p (CodeOf (op.Run (check_of named) w v)) →
        past p (CodeOf (op.Run (check_of named) w v)) < SEGMENT_BYTES →
        EndsIn (l + 10) (m + 23) (Ended (Trap trap)) (at c a 0 d) c d.outside
    check_refused {l} {m} {p} named w v x trap sums s is small u' some h low =
        let e = s.after in
        ends_with s.wrote.world.outside
        (ends_behind s.runs
        (check_op_ends named c p bytes ks e (layout.spot v)
        (call_low p (run_number (check_of named)) (in_code (layout.spot v)) (out_code (layout.spot w)) low)
        (framed_at s) u' (subst (λ n. n < 4294967296) (sym is) small) (closures_at sums s) (routines.check named)
        (out_code (layout.spot w)) trap (ap (λ n. named_trap named (numbered n ks)) is ∙ some) h))

    -- the captured word of a register, wherever the ops have come to
    word_at_spot : {l m p : ℕ} {b : Data} (s : At l m p b) (v x : ℕ) → value d (layout.spot v) ≡ x →
        Usable bytes (layout.spot v) → IsApart layout ws v → value s.after (layout.spot v) ≡ x
    word_at_spot {l} {m} {p} {b} s v x is u apart =
        value_there layout bytes ws v b d s.after f us u apart s.wrote ∙ is

    abbrev ops_code : List Op → List Instr
    ops_code ops = templates layout address ops

    -- the checks of these captures go on from anywhere, or the first that is refused ends the run
    abbrev AreChecked : List TickCapture → List ℕ → Type 0
    AreChecked xs words =
        (l m p : ℕ) (sums : Sums) → At l m p (summing sums) → AreUsable layout bytes (answers_in xs) →
        AllAmong layout (answers_in xs) ws → HasAt c p (ops_code (check_ops xs)) →
        past p (ops_code (check_ops xs)) < SEGMENT_BYTES → sums.size + SIZE_LIMIT * length xs < 4294967296 →
        At (l + 34 * checks_in xs) (m + 40 * checks_in xs) (past p (ops_code (check_ops xs)))
        (summing (summed ks (kinds_in xs) words sums))

    abbrev AreRefused : TrapKind → List TickCapture → Type 0
    AreRefused trap xs =
        (l m p : ℕ) (sums : Sums) → At l m p (summing sums) → AreUsable layout bytes (answers_in xs) →
        AllAmong layout (answers_in xs) ws → HasAt c p (ops_code (check_ops xs)) →
        past p (ops_code (check_ops xs)) < SEGMENT_BYTES → sums.size + SIZE_LIMIT * length xs < 4294967296 →
        EndsIn (l + 10) (m + 40 * checks_in xs) (Ended (Trap trap)) (at c a 0 d) c d.outside

    -- one more in front of them
    module _ (x : TickCapture) (xs : List TickCapture) (v : ℕ) (words : List ℕ) (is : value d (layout.spot x.word) ≡ v)
        (small : v < 4294967296) (u : Usable bytes (layout.spot x.word)) (apart : IsApart layout ws x.word)
        (l m p : ℕ) (sums : Sums) (s : At l m p (summing sums))
        (few : sums.size + SIZE_LIMIT * suc (length xs) < 4294967296) where
      check_first : (o : Option Named) → named_by x.kind ≡ o → fits x.kind (numbered v rows) ≡ true →
          AreChecked xs words → AreUsable layout bytes (answer_in o x ++ answers_in xs) →
          AllAmong layout (answer_in o x ++ answers_in xs) ws → HasAt c p (ops_code (check_op o x ++ check_ops xs)) →
          past p (ops_code (check_op o x ++ check_ops xs)) < SEGMENT_BYTES →
          At (l + 34 * length (answer_in o x ++ answers_in xs)) (m + 40 * length (answer_in o x ++ answers_in xs))
          (past p (ops_code (check_op o x ++ check_ops xs)))
          (summing (summed ks (kinds_in xs) words (plus_named o (numbered v ks) sums)))
      check_first None named fit rest u' among h low = rest l m p sums s u' among h low (omega (arith, few))
      check_first (Some a_named) named fit rest u' among h low =
          let one : Op = op.Run (check_of a_named) x.answer x.word in
          let code = ops_code (check_ops xs) in
          let way = past_append p (CodeOf one) code in
          let high = rises (past p (CodeOf one)) code in
          let pass = passed a_named (numbered v ks)
          (checks_agree text rows ks x.kind a_named v hs.stand_for named
          ∙ ap (λ (b : Bool). if b then None else Some BadSpec) fit) in
          let k = pass.closure in
          let size = live_small text rows ks v k hs.stand_for pass.live in
          let next = check_goes a_named x.answer x.word v k sums s (word_at_spot s x.word v is u apart) small u'.0 u
          among.0 pass.live pass.kind (omega (arith, few, size)) (front c p (CodeOf one) code h)
          (omega (arith, way, high, low)) in
          let all = rest (l + 34) (m + 40) (past p (CodeOf one)) (more sums k.head) next u'.1 among.1
          (back c p (CodeOf one) code h) (subst (λ n. n < SEGMENT_BYTES) way low) (omega (arith, few, size)) in
          subst (λ o. At (l + 34 * suc (checks_in xs)) (m + 40 * suc (checks_in xs)) (past p (CodeOf one ++ code))
          (summing (summed ks (kinds_in xs) words (plus_named (Some a_named) o sums)))) (sym pass.live)
          (at_wider (omega arith) (omega arith) (sym way) all)

      refuse_first : (o : Option Named) → named_by x.kind ≡ o → (trap : TrapKind) →
          captures_trap rows (kinds_in (x ∷ xs)) (v ∷ words) ≡ Some trap →
          (captures_trap rows (kinds_in xs) words ≡ Some trap → AreRefused trap xs) →
          AreUsable layout bytes (answer_in o x ++ answers_in xs) →
          AllAmong layout (answer_in o x ++ answers_in xs) ws → HasAt c p (ops_code (check_op o x ++ check_ops xs)) →
          past p (ops_code (check_op o x ++ check_ops xs)) < SEGMENT_BYTES →
          EndsIn (l + 10) (m + 40 * length (answer_in o x ++ answers_in xs)) (Ended (Trap trap)) (at c a 0 d) c
          d.outside
      refuse_first None named trap some rest u' among h low =
          let fine = unnamed_fits x.kind (numbered v rows) named in
          rest (sym (ap (λ (b : Bool). if b then captures_trap rows (kinds_in xs) words else Some BadSpec) fine) ∙ some)
          l m p sums s u' among h low (omega (arith, few))
      refuse_first (Some a_named) named trap some rest u' among h low =
          let one : Op = op.Run (check_of a_named) x.answer x.word in
          let code = ops_code (check_ops xs) in
          let way = past_append p (CodeOf one) code in
          let high = rises (past p (CodeOf one)) code in
          let here = word_at_spot s x.word v is u apart in
          let one_low : past p (CodeOf one) < SEGMENT_BYTES = omega (arith, way, high, low) in
          let stands = front c p (CodeOf one) code h in
          let agree = checks_agree text rows ks x.kind a_named v hs.stand_for named in
          elim (cases_Bool (fits x.kind (numbered v rows))) [
            | inl t ↦ (let pass = passed a_named (numbered v ks)
                (agree ∙ ap (λ (b : Bool). if b then None else Some BadSpec) t) in
                let k = pass.closure in
                let size = live_small text rows ks v k hs.stand_for pass.live in
                let next = check_goes a_named x.answer x.word v k sums s here small u'.0 u among.0 pass.live pass.kind
                (omega (arith, few, size)) stands one_low in
                let later : captures_trap rows (kinds_in xs) words ≡ Some trap =
                sym (ap (λ (b : Bool). if b then captures_trap rows (kinds_in xs) words else Some BadSpec) t) ∙ some in
                ends_wider (omega arith) (omega arith)
                (rest later (l + 34) (m + 40) (past p (CodeOf one)) (more sums k.head) next u'.1 among.1
                (back c p (CodeOf one) code h) (subst (λ n. n < SEGMENT_BYTES) way low) (omega (arith, few, size))))
            | inr t ↦ (let bad : Some BadSpec ≡ Some trap =
                sym (ap (λ (b : Bool). if b then captures_trap rows (kinds_in xs) words else Some BadSpec) t) ∙ some in
                ends_wider (omega arith) (omega arith)
                (check_refused a_named x.answer x.word v trap sums s here small u
                (agree ∙ ap (λ (b : Bool). if b then None else Some BadSpec) t ∙ bad) stands one_low))
          ]

    -- all of them, one behind another
    pub checks_go : (xs : List TickCapture) (words : List ℕ) → HaveWords layout d (words_in xs) words →
        AreUsable layout bytes (words_in xs) → AreApart layout ws (words_in xs) →
        captures_trap rows (kinds_in xs) words ≡ None → AreChecked xs words
    checks_go [] [] have u apart none l m p sums s u' among h low few = at_wider (omega arith) (omega arith) refl s
    checks_go [] (v ∷ words) have u apart none l m p sums s u' among h low few = absurd have
    checks_go (x ∷ xs) [] have u apart none l m p sums s u' among h low few = absurd have
    checks_go (x ∷ xs) (v ∷ words) have u apart none l m p sums s u' among h low few =
        let fit = fits_first (fits x.kind (numbered v rows)) (captures_trap rows (kinds_in xs) words) none in
        check_first x xs v words have.0 have.1 u.0 apart.0 l m p sums s few (named_by x.kind) refl fit.0
        (checks_go xs words have.2 u.1 apart.1 fit.1) u' among h low

    pub checks_end : (xs : List TickCapture) (words : List ℕ) (trap : TrapKind) →
        HaveWords layout d (words_in xs) words → AreUsable layout bytes (words_in xs) →
        AreApart layout ws (words_in xs) → captures_trap rows (kinds_in xs) words ≡ Some trap → AreRefused trap xs
    checks_end [] words trap have u apart some l m p sums s u' among h low few = let z : ⊥ = cc in absurd z
    checks_end (x ∷ xs) [] trap have u apart some l m p sums s u' among h low few = absurd have
    checks_end (x ∷ xs) (v ∷ words) trap have u apart some l m p sums s u' among h low few =
        refuse_first x xs v words have.0 have.1 u.0 apart.0 l m p sums s few (named_by x.kind) refl trap some
        (checks_end xs words trap have.2 u.1 apart.1) u' among h low

    -- ---- the closure is made

    abbrev made_head : (code : ℕ) → ClosureKind → Sums → Head
    made_head code kind sums = record {
      first = code;
      kind = closure_number kind;
      size = sums.size;
      parameters = sums.parameters;
    }

    rows_at : {l m p : ℕ} (sums : Sums) (s : At l m p (summing sums)) → HasRows shared s.after
    rows_at sums s =
        rows_there text shared s.after
        (specifications_there text shared (summing sums) s.after s.wrote.world (global_wrote bytes us s.wrote)
        (kept_by_sums text shared sums.size sums.parameters d hs))

    pub new_goes : {l m p : ℕ} (w code : ℕ) (kind : ClosureKind) (captures : ℕ) (sums : Sums)
        (s : At l m p (summing sums)) → Usable bytes (layout.spot w) → Among layout w ws → captures ≤ MOST_CAPTURES →
        new_trap sums.size captures shared ≡ None → HasAt c p (CodeOf (op.New w code kind captures)) →
        past p (CodeOf (op.New w code kind captures)) < SEGMENT_BYTES →
        AtWith (l + 39) (m + 41) (past p (CodeOf (op.New w code kind captures)))
        (appended (made_head code kind sums) captures (summing sums)) w (next_number shared)
    new_goes {l} {m} {p} w code kind captures sums s u among few none h low =
        let e = s.after in
        let to = new_return_address p in
        let size = size_at sums s in
        let parameters = parameters_at sums s in
        let y = new_called c p code kind captures shared e (layout.spot w)
        (new_low p code kind captures (layout.spot w) low) (rows_at sums s) few routines.new h bytes (framed_at s) u
        (ap (λ n. new_trap n captures shared) size ∙ none) in
        let base = appended_same (made_head code kind sums) captures (summing sums) (linked to e)
        (linked_same to (summing sums) e s.wrote.world) in
        let same : SameWorld (appended (made_head code kind sums) captures (summing sums))
        (appended (tick_head code kind e) captures (linked to e)) =
        subst (λ n. SameWorld (appended (made_head code kind sums) captures (summing sums))
        (appended (record {
          first = code;
          kind = closure_number kind;
          size = n;
          parameters = parameters_so_far e;
        }) captures (linked to e))) (sym size)
        (subst (λ n. SameWorld (appended (made_head code kind sums) captures (summing sums))
        (appended (record {
          first = code;
          kind = closure_number kind;
          size = sums.size;
          parameters = n;
        }) captures (linked to e))) (sym parameters) base) in
        called w (next_number shared) s among y (λ q n. update_other 31 to e.registers q n) refl same

    pub new_refused : {l m p : ℕ} (w code : ℕ) (kind : ClosureKind) (captures : ℕ) (trap : TrapKind) (sums : Sums)
        (s : At l m p (summing sums)) → captures ≤ MOST_CAPTURES →
        new_trap sums.size captures shared ≡ Some trap → HasAt c p (CodeOf (op.New w code kind captures)) →
        past p (CodeOf (op.New w code kind captures)) < SEGMENT_BYTES →
        EndsIn (l + 14) (m + 22) (Ended (Trap trap)) (at c a 0 d) c d.outside
    new_refused {l} {m} {p} w code kind captures trap sums s few some h low =
        ends_with s.wrote.world.outside
        (ends_behind s.runs
        (new_op_ends c p code kind captures shared s.after (layout.spot w)
        (new_low p code kind captures (layout.spot w) low) (rows_at sums s) few routines.new h trap
        (ap (λ n. new_trap n captures shared) (size_at sums s) ∙ some)))

    -- ---- and gets its words

    put_goes : {l m p : ℕ} {b : Data} (v x i w n : ℕ) (s : AtWith l m p b w n) →
        value s.state.after (layout.spot v) ≡ x → x < 4294967296 → Usable bytes (layout.spot v) →
        Usable bytes (layout.spot w) → b.registers 28 ≡ d.registers 28 → HasPlace i b →
        HasAt c p (CodeOf (op.Put i v)) →
        AtWith (l + 5) (m + 8) (past p (CodeOf (op.Put i v))) (with_captured i x b) w n
    put_goes {l} {m} {p} {b} v x i w n s is small u u' global place h =
        let e = s.state.after in
        let wrote = s.state.wrote in
        let y = put_done c p bytes i e (layout.spot v) (framed_at s.state) u
        (subst (λ k. k < 4294967296) (sym is) small)
        (place_there i b e wrote.world (global_wrote bytes us wrote ∙ sym global) place) h in
        let same : SameWorld (with_captured i x b) (with_captured i (value e (layout.spot v)) e) =
        subst (λ k. SameWorld (with_captured i x b) (with_captured i k e)) (sym is)
        (captured_same i x b e wrote.world) in
        record {
          state = record {
            after = y.after;
            runs = runs_on s.state.runs y.runs;
            wrote = wrote_kept {base = with_captured i (value e (layout.spot v)) e} wrote (λ q k. refl) refl same
                y.keeps;
          };
          value_is = value_kept bytes (with_captured i (value e (layout.spot v)) e) y.after (layout.spot w) u' y.keeps
              ∙ captured_value i (value e (layout.spot v)) e (layout.spot w) ∙ s.value_is;
        }

    pub puts_go : (xs : List TickCapture) (words : List ℕ) (i w n : ℕ) → HaveWords layout d (words_in xs) words →
        AreUsable layout bytes (words_in xs) → AreApart layout ws (words_in xs) → Usable bytes (layout.spot w) →
        (l m p : ℕ) (b : Data) → AtWith l m p b w n → b.registers 28 ≡ d.registers 28 → Placed i words b →
        HasAt c p (ops_code (put_ops i xs)) →
        AtWith (l + 5 * length xs) (m + 8 * length xs) (past p (ops_code (put_ops i xs))) (puts i words b) w n
    puts_go [] [] i w n have u apart u' l m p b s global placed h =
        record { state = at_wider (omega arith) (omega arith) refl s.state; value_is = s.value_is }
    puts_go [] (x ∷ words) i w n have u apart u' l m p b s global placed h = absurd have
    puts_go (x ∷ xs) [] i w n have u apart u' l m p b s global placed h = absurd have
    puts_go (x ∷ xs) (v ∷ words) i w n have u apart u' l m p b s global placed h =
        let one = CodeOf (op.Put i x.word) in
        let rest = ops_code (put_ops (suc i) xs) in
        let next = put_goes x.word v i w n s (word_at_spot s.state x.word v have.0 u.0 apart.0) have.1 u.0 u' global
        placed.0 (front c p one rest h) in
        let all = puts_go xs words (suc i) w n have.2 u.1 apart.1 u' (l + 5) (m + 8) (past p one)
        (with_captured i v b) next global placed.1 (back c p one rest h) in
        record {
          state = at_wider (omega arith) (omega arith) (sym (past_append p one rest)) all.state;
          value_is = all.value_is;
        }
