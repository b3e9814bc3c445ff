-- The services obey the calls of the routine, where the builder takes the function's ops.
use Rattle.std.proofs.Common.{◌≡◌, ℕ, ◌+◌, ◌*◌, ◌%◌, ◌<◌, ◌≤◌, true, false, List, []}
use Rattle.std.proofs.Common.{◌∷◌, ◌++◌, length, Some, None, refl, sym, ap, ◌∙◌, subst, arith, nat_eq, nat_lt, nat_le}
use Rattle.std.proofs.Common.{append_assoc, append-nil}
use Rattle.std.proofs.lemmas.Bool.Decides.{nat_tests}
use Rattle.limits.specs.declared.program.TheConstants.{SIZE_LIMIT}
use Rattle.word32.specs.declared.map.TheConstants.{ARENA, ARENA_BYTES, ARENA_WORDS, FUNCTION_ROWS, TEXT}
use Rattle.mips_encoder.specs.declared.instruction.Instr.{Instr}
use Rattle.mips_model.specs.State.{Built, Outside}
use Rattle.mips_model.specs.Services.{next_choice}
use Rattle.mips_model.specs.Told.{Told, Made}
use Rattle.mips_model.specs.Run.{IsLegalFor}
use Rattle.icode_ops.specs.Places.{IsLegal}
use Rattle.meaning_state.specs.Rows.{arena_words}
use Rattle.icode_ir.specs.declared.build_op.BuildOp.{BuildOp}
use Rattle.icode_ir.specs.Build.{Build, empty, finished}
use Rattle.icode_ir.specs.Rules.{effect as built_effect}
use Rattle.icode_templates.specs.Words.{words as template_words}
use Rattle.icode_templates.specs.Expansion.{expansion}
use Rattle.icode_expand.proofs.Most.{words_most}
use Rattle.mips_model.specs.Choices.{Choice}
use Rattle.mips_model.specs.CodeServices.{begin_refusal, finish_refusal, is_frame, is_arena_range}
use Rattle.mips_model.specs.CodeServices.{is_entry}
use Rattle.generator_laws.specs.Calls.{Call, Begin, Emit, Finish, Flush, Publish, outside_behind, issuing}
use Rattle.generator_laws.specs.Served.{AreObeyed, outside_after}
use Rattle.generator_laws.specs.Told.{told_call, told_calls}
use Rattle.generator_laws.specs.Laws.{built_of}
use Rattle.generator_laws.proofs.Makings.{ops_obeyed}
use Rattle.compile_routine.specs.Laws.{frame_bytes, compile_calls}
use Rattle.compile_routine.specs.Made.{builder_of, FitsServices, function_words, outside_with}

-- ---- calls one behind another

obeyed_on : (xs ys : List Call) (o : Outside) → AreObeyed xs o → AreObeyed ys (outside_after xs o) →
    AreObeyed (xs ++ ys) o
obeyed_on [] ys o first then = then
obeyed_on (x ∷ xs) ys o first then = (first.0, obeyed_on xs ys (outside_behind x o) first.1 then)

after_on : (xs ys : List Call) (o : Outside) → outside_after (xs ++ ys) o ≡ outside_after ys (outside_after xs o)
after_on [] ys o = refl
after_on (x ∷ xs) ys o = after_on xs ys (outside_behind x o)

-- of ops that are issued and three calls, all but the last one: they are obeyed too
front_of : (ops : List BuildOp) (x y z : Call) (o : Outside) → AreObeyed (issuing ops ++ x ∷ y ∷ z ∷ []) o →
    AreObeyed (issuing ops ++ x ∷ y ∷ []) o
front_of [] x y z o h = (h.0, (h.1.0, tt))
front_of (op ∷ ops) x y z o h = (h.0, front_of ops x y z (outside_behind (Emit op) o) h.1)

-- and where a function is finished and flushed, nothing is told of them
front_tells : (ops : List BuildOp) (at most frame to count : ℕ) (words : List ℕ) (o : Outside) →
    told_calls (issuing ops ++ Finish at most frame words ∷ Flush to count ∷ []) o ≡ []
front_tells [] at most frame to count words o = refl
front_tells (op ∷ ops) at most frame to count words o =
    front_tells ops at most frame to count words (outside_behind (Emit op) o)

-- what ops that are issued leave
abbrev with_ops : List BuildOp → Build → Outside → Outside
with_ops ops b o = record o {
  making = record o.making {
    generator = record o.making.generator { build = Some (built_of ops b) };
    issued = record o.making.issued { ops = o.making.issued.ops ++ ops };
    ops = o.making.ops + length ops;
  };
}

ops_leave : (ops : List BuildOp) (b : Build) (o : Outside) → o.making.generator.build ≡ Some b →
    outside_after (issuing ops) o ≡ with_ops ops b o
ops_leave [] b o there =
    let m = o.making in
    ap (λ x. record o { making = record m { generator = record m.generator { build = x } } }) there
    ∙ ap (λ (xs : List BuildOp). record o {
      making = record m {
        generator = record m.generator { build = Some b };
        issued = record m.issued { ops = xs };
      };
    }) (sym (append-nil m.issued.ops))
    ∙ ap (λ n. record o {
      making = record m {
        generator = record m.generator { build = Some b };
        issued = record m.issued { ops = m.issued.ops ++ [] };
        ops = n;
      };
    }) (omega arith)
ops_leave (op ∷ ops) b o there =
    let m = o.making in
    let more = outside_behind (Emit op) o in
    let built = Some (built_of ops (built_effect op b)) in
    ops_leave ops (built_effect op b) more (rw there refl)
    ∙ ap (λ (xs : List BuildOp). record o {
      making = record m {
        generator = record m.generator { build = built };
        issued = record m.issued { ops = xs };
        ops = m.ops + 1 + length ops;
      };
    }) (append_assoc m.issued.ops (op ∷ []) ops)
    ∙ ap (λ n. record o {
      making = record m {
        generator = record m.generator { build = built };
        issued = record m.issued { ops = m.issued.ops ++ op ∷ ops };
        ops = n;
      };
    }) (omega arith)

-- ---- the tests of the services

words_length : (is : List Instr) → length (template_words is) ≡ length is
words_length [] = refl
words_length (i ∷ is) = let rest = words_length is in omega (arith, rest)

is_at_most : (x y : ℕ) → x ≤ y → nat_le x y ≡ true
is_at_most x y l = grind (arith, nat_tests, l)

is_below : (x y : ℕ) → x < y → nat_lt x y ≡ true
is_below x y l = grind (arith, nat_tests, l)

is_not_below : (x y : ℕ) → y ≤ x → nat_lt x y ≡ false
is_not_below x y l = grind (arith, nat_tests, l)

is_same : (x y : ℕ) → x ≡ y → nat_eq x y ≡ true
is_same x y e = grind (arith, nat_tests, e)

pub in_range : (arena count : ℕ) → arena < ARENA_WORDS → arena + count ≤ ARENA_WORDS →
    is_arena_range (ARENA + 4 * arena) count ≡ true
in_range arena count some within =
    let at = ARENA + 4 * arena in
    let t1 = is_same (at % 4) 0 (omega arith) in
    let t2 = is_at_most ARENA at (omega arith) in
    let t3 = is_below at (ARENA + ARENA_BYTES) (omega (arith, some)) in
    let t4 = is_at_most (at + 4 * count) (ARENA + ARENA_BYTES) (omega (arith, within)) in
    rw (t1, t2, t3, t4) refl

frame_fits : (size registers : ℕ) → size ≤ SIZE_LIMIT → registers ≤ 12 * size →
    is_frame (frame_bytes size) registers ≡ true
frame_fits size registers small few =
    let t1 = is_at_most (128 + 4 * registers) (frame_bytes size) (omega (arith, few)) in
    let t2 = is_at_most (frame_bytes size) 16777216 (omega (arith, small)) in
    let t3 = is_same (frame_bytes size % 4) 0 (omega arith) in
    rw (t1, t2, t3) refl

module _ (function : Built) (arena row size : ℕ) (o : Outside) (taken : FitsServices function size o.making)
    (few_parameters : function.parameters ≤ 8) (small : size ≤ SIZE_LIMIT)
    (within : arena + arena_words size ≤ ARENA_WORDS) (positive : 0 < row) (in_table : row < FUNCTION_ROWS) where
  abbrev address : ℕ
  address = ARENA + 4 * arena

  abbrev choice : Choice
  choice = next_choice o.making.row

  abbrev b : Build
  b = builder_of function

  abbrev pub words : List ℕ
  words = function_words function choice address size

  pub few_words : length words ≤ arena_words size
  few_words =
      let code = expansion (finished b) choice.places address (frame_bytes size) 0 true in
      let most = words_most (finished b) choice.places address (frame_bytes size) 0 true in
      let same = words_length code in
      omega (arith, most, same, taken.few)

  begin_taken : begin_refusal function.parameters o.making.generator ≡ None
  begin_taken =
      let unbegun = taken.unbegun in
      let t = is_not_below 8 function.parameters few_parameters in
      rw (unbegun, t) refl

  finish_taken : finish_refusal b address (arena_words size) (frame_bytes size) ≡ None
  finish_taken =
      let operands = taken.operands in
      let bodies = taken.bodies in
      let r = in_range arena (arena_words size) (omega (arith, within)) within in
      let f = frame_fits size b.registers small taken.registers in
      rw (operands, bodies, r, f) refl

  publish_taken : is_entry row address function.parameters ≡ true
  publish_taken =
      let t1 = is_below 0 row positive in
      let t2 = is_below row FUNCTION_ROWS in_table in
      let t3 = is_same (address % 4) 0 (omega arith) in
      let t4 = is_at_most TEXT address (omega arith) in
      let t5 = is_below address (ARENA + ARENA_BYTES) (omega (arith, within)) in
      let t6 = is_at_most function.parameters 8 few_parameters in
      rw (t1, t2, t3, t4, t5, t6) refl

  abbrev begun : Outside
  begun = outside_behind (Begin function.parameters) o

  abbrev last : List Call
  last =
      Finish address (arena_words size) (frame_bytes size) words ∷ Flush address (length words)
      ∷ Publish row address function.parameters ∷ []

  last_obeyed : AreObeyed last (with_ops function.ops (empty function.parameters) begun)
  last_obeyed = (
    (record { builder = b; there = refl }, finish_taken, refl, few_words, refl),
    (
      (in_range arena (length words) (omega (arith, within)) (let f = few_words in omega (arith, within, f)), refl),
      ((publish_taken, refl), tt),
    ),
  )

  pub compile_obeyed :
      AreObeyed (compile_calls row address function.parameters size function.ops words) o
  compile_obeyed = (
    (begin_taken, refl),
    obeyed_on (issuing function.ops) last begun
        (ops_obeyed function.ops begun (empty function.parameters) refl taken.taken)
        (subst (AreObeyed last) (sym (ops_leave function.ops (empty function.parameters) begun refl)) last_obeyed),
  )

  pub compile_leaves : outside_after (compile_calls row address function.parameters size function.ops words) o
      ≡ outside_with address function (length words) o
  compile_leaves =
      after_on (issuing function.ops) last begun
      ∙ ap (outside_after last) (ops_leave function.ops (empty function.parameters) begun refl)

  -- what is told by the calls, one behind another
  told_on : (xs ys : List Call) (o : Outside) →
      told_calls (xs ++ ys) o ≡ told_calls xs o ++ told_calls ys (outside_after xs o)
  told_on [] ys o = refl
  told_on (x ∷ xs) ys o =
      ap (λ (l : List Told). told_call x o ++ l) (told_on xs ys (outside_behind x o))
      ∙ sym (append_assoc (told_call x o) (told_calls xs (outside_behind x o))
      (told_calls ys (outside_after xs (outside_behind x o))))

  issuing_tells : (ops : List BuildOp) (o : Outside) → told_calls (issuing ops) o ≡ []
  issuing_tells [] o = refl
  issuing_tells (op ∷ ops) o = issuing_tells ops (outside_behind (Emit op) o)

  pub compile_tells : told_calls (compile_calls row address function.parameters size function.ops words) o
      ≡ Made row (Some function) ∷ []
  compile_tells =
      let same = is_same address address refl in
      told_on (issuing function.ops) last begun
      ∙ ap (λ (xs : List Told). xs ++ told_calls last (outside_after (issuing function.ops) begun))
      (issuing_tells function.ops begun)
      ∙ ap (told_calls last) (ops_leave function.ops (empty function.parameters) begun refl)
      ∙ (rw same refl)

  -- the calls before the one that publishes
  abbrev pub before_last : List Call
  before_last =
      Begin function.parameters
      ∷ (issuing function.ops
      ++ Finish address (arena_words size) (frame_bytes size) words ∷ Flush address (length words) ∷ [])

  pub front_obeyed : AreObeyed before_last o
  front_obeyed = (
    (begin_taken, refl),
    front_of function.ops (Finish address (arena_words size) (frame_bytes size) words) (Flush address (length words))
        (Publish row address function.parameters) begun compile_obeyed.1,
  )

  pub front_told : told_calls before_last o ≡ []
  front_told = front_tells function.ops address (arena_words size) (frame_bytes size) address (length words) words begun

  -- the choice that is met at the finish is legal for the function
  pub choice_met : (let x = outside_after (Begin function.parameters ∷ issuing function.ops) o in
      IsLegalFor x.making.generator.build address (arena_words size) (frame_bytes size) (next_choice x.making.row)) →
      IsLegal (finished b) b.registers choice.places
  choice_met legal =
      subst (λ (x : Outside). IsLegalFor x.making.generator.build address (arena_words size) (frame_bytes size)
      (next_choice x.making.row)) (ops_leave function.ops (empty function.parameters) begun refl) legal
      finish_taken
