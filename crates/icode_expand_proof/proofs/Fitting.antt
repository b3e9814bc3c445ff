-- The instructions of an expansion have words, so where its words stand in the text, its instructions stand.
use Rattle.std.proofs.Common.{◌≡◌, ℕ, zero, suc, ◌+◌, ◌*◌, ◌/◌, ◌%◌, ◌<◌, ◌≤◌, Bool, true, false, List, [], ◌∷◌, ◌++◌}
use Rattle.std.proofs.Common.{length, Some, refl, sym, ap, ◌∙◌, subst, arith, nat_eq, if◌then◌else◌, slice_get}
use Rattle.std.proofs.Common.{slice_index, Ok}
use Rattle.word32.specs.declared.map.TheConstants.{ARENA}
use Rattle.mips_encoder.specs.Table.{Fits, word_of}
use Rattle.mips_encoder.specs.declared.instruction.Instr.{Instr}
use Rattle.mips_encoder.proofs.Inverse.{instr_of-word_of}
use Rattle.mips_encoder.specs.Addresses.{past}
use Rattle.mips_model.specs.State.{Code}
use Rattle.mips_model.specs.Laws.{HasAt}
use Rattle.mips_model.proofs.Reach.{fetch_text, past_append}
use Rattle.mips_model.proofs.Loaded.{AllFit, all_fit_append}
use Rattle.icode_ops.specs.declared.op.Op.{Op}
use Rattle.icode_ops.specs.declared.op.Op.TheVariants.{Const, Move, Bin, FrameAddress, Load, Store, Clear, Label}
use Rattle.icode_ops.specs.declared.op.Op.TheVariants.{Jump, BranchZero, BranchNonzero, CheckDivision, CheckZero, Un}
use Rattle.icode_ops.specs.declared.op.Op.TheVariants.{Argument, GetParameter, Call, CallNumber, Result, Return}
use Rattle.icode_ops.specs.declared.op.Op.TheVariants.{ReturnZero, Sys, Run, New, Put}
use Rattle.icode_ops.specs.declared.kind.BinKind.{BinKind}
use Rattle.icode_ops.specs.declared.kind.BinKind.TheVariants as bin
use Rattle.icode_ops.specs.declared.kind.UnKind.{UnKind}
use Rattle.icode_ops.specs.declared.kind.UnKind.TheVariants as un
use Rattle.icode_ops.specs.Flow.{op_at}
use Rattle.icode_ops.specs.Labels.{label_index}
use Rattle.icode_ops.specs.Kinds.{sys_number, run_number, closure_number}
use Rattle.icode_ops.specs.Finished.{InRange}
use Rattle.icode_ops.specs.Places.{place_of}
use Rattle.mips_assembly.specs.Assembly.{jal, ori, addu, subu, sltu, lui, bne, beq, j, nop, trap, constant}
use Rattle.icode_templates.specs.Words.{words}
use Rattle.icode_templates.specs.Layout.{Spot, InRegister, InSlot, Layout, parameter_spot}
use Rattle.icode_templates.specs.Templates.{Aim, ToLabel, ToEpilogue, load_code, wait_code, in_code, in_two_code}
use Rattle.icode_templates.specs.Templates.{out_code, bin_core, range_check, load_instruction, store_instruction}
use Rattle.icode_templates.specs.Templates.{un_core, trap_if_zero, division_check, object_address, clear_loop}
use Rattle.icode_templates.specs.Templates.{service_code, routine_code, new_address, put_code, number_call, template}
use Rattle.icode_templates.specs.Frames.{saves, restores, take_frame, free_frame, take_objects, free_objects}
use Rattle.icode_saves.specs.Places.{saved}
use Rattle.icode_templates.specs.Frames.{enter_count, leave_count}
use Rattle.icode_saves.specs.Laws.{AllPlaces}
use Rattle.icode_templates.specs.Expansion.{expanded, nowhere, templates, op_address, aims}
use Rattle.icode_saves.proofs.Kept.{saved_are}
use Rattle.icode_meaning.specs.State.{Function}
use Rattle.icode_templates_proof.specs.Spots.{Usable}
use Rattle.limits.specs.declared.run.TheConstants.{MOST_FRAME_BYTES}
use Rattle.mips_model.specs.Steps.{word_at, found, decoded}
use Rattle.icode_expand_proof.specs.Standing.{Suits, Stands, WordsAt, layout_of, front_code, back_code, code_of}
use Rattle.icode_expand_proof.proofs.Addresses.{past_templates, past_rises}
use Rattle.icode_expand_proof.proofs.Places.{place_bounds, spot_usable, slot_usable}
use Rattle.icode_expand_proof.proofs.Liveness.{op_found}
use Rattle.icode_expand_proof.specs.Served.{IsServed}
use Rattle.icode_expand_proof.specs.WordLaws.{WordsSuffice}
use Rattle.icode_expand_proof.proofs.FittingAccesses.{service_fits, routine_fits, closure_fits, put_fits, range_fits}
use Rattle.icode_expand_proof.proofs.FittingAccesses.{load_word, store_word}

-- instructions that have words stand where their words stand
pub words_stand : (c : Code) (a : ℕ) (is : List Instr) → AllFit is → a % 4 ≡ 0 → past a is ≤ ARENA
    → WordsAt c a (words is) → HasAt c a is
words_stand c a [] fit even low at = tt
words_stand c a (i ∷ is) fit even low at =
    let r = past_rises (a + 4) is in (
      fetch_text c a (word_of i) i even (omega (arith, r, low)) at.0 (instr_of-word_of i fit.0),
      words_stand c (a + 4) is fit.1 (omega (arith, even)) low at.1,
    )

load_fits : (t bytes : ℕ) (w : Spot) → t < 32 → bytes ≤ 2147483648 → Usable bytes w → AllFit (load_code t w)
load_fits t bytes (InRegister r) h small u = ((h, omega (arith, u.1), omega arith), tt)
load_fits t bytes (InSlot false offset) h small u = ((h, omega (arith, u.0), omega arith), tt)
load_fits t bytes (InSlot true offset) h small u = (
  (omega arith, omega (arith, u.0, small)),
  ((omega arith, omega arith, omega arith), ((h, omega arith, omega arith), tt)),
)

wait_fits : (w : Spot) → AllFit (wait_code w)
wait_fits (InRegister r) = tt
wait_fits (InSlot far offset) = ((omega arith, omega arith, omega arith), tt)

in_fits : (bytes : ℕ) (w : Spot) → bytes ≤ 2147483648 → Usable bytes w → AllFit (in_code w)
in_fits bytes w small u = all_fit_append (load_code 24 w) (wait_code w) (load_fits 24 bytes w (omega arith) small u)
    (wait_fits w)

in_two_fits : (bytes : ℕ) (v w : Spot) → bytes ≤ 2147483648 → Usable bytes v → Usable bytes w → AllFit (in_two_code v w)
in_two_fits bytes v w small u u' =
    all_fit_append (load_code 24 v) (load_code 25 w ++ wait_code w) (load_fits 24 bytes v (omega arith) small u)
    (all_fit_append (load_code 25 w) (wait_code w) (load_fits 25 bytes w (omega arith) small u') (wait_fits w))

out_fits : (bytes : ℕ) (w : Spot) → bytes ≤ 2147483648 → Usable bytes w → AllFit (out_code w)
out_fits bytes (InRegister r) small u = ((omega (arith, u.1), omega arith, omega arith), tt)
out_fits bytes (InSlot false offset) small u = ((omega arith, omega (arith, u.0), omega arith), tt)
out_fits bytes (InSlot true offset) small u = (
  (omega arith, omega (arith, u.0, small)),
  ((omega arith, omega arith, omega arith), ((omega arith, omega arith, omega arith), tt)),
)

core_fits : (kind : BinKind) → AllFit (bin_core kind)
core_fits bin.Add = ((omega arith, omega arith, omega arith), tt)
core_fits bin.Subtract = ((omega arith, omega arith, omega arith), tt)
core_fits bin.And = ((omega arith, omega arith, omega arith), tt)
core_fits bin.Or = ((omega arith, omega arith, omega arith), tt)
core_fits bin.Xor = ((omega arith, omega arith, omega arith), tt)
core_fits bin.ShiftLeft = ((omega arith, omega arith, omega arith), tt)
core_fits bin.ShiftRightSigned = ((omega arith, omega arith, omega arith), tt)
core_fits bin.ShiftRightUnsigned = ((omega arith, omega arith, omega arith), tt)
core_fits bin.LessSigned = ((omega arith, omega arith, omega arith), tt)
core_fits bin.LessUnsigned = ((omega arith, omega arith, omega arith), tt)
core_fits bin.GreaterSigned = ((omega arith, omega arith, omega arith), tt)
core_fits bin.GreaterUnsigned = ((omega arith, omega arith, omega arith), tt)
core_fits bin.Multiply = ((omega arith, omega arith), (omega arith, tt))
core_fits bin.DivideSigned = ((omega arith, omega arith), (omega arith, tt))
core_fits bin.DivideUnsigned = ((omega arith, omega arith), (omega arith, tt))
core_fits bin.RemainderSigned = ((omega arith, omega arith), (omega arith, tt))
core_fits bin.RemainderUnsigned = ((omega arith, omega arith), (omega arith, tt))
core_fits bin.Equal = ((omega arith, omega arith, omega arith), ((omega arith, omega arith, omega arith), tt))
core_fits bin.NotEqual = ((omega arith, omega arith, omega arith), ((omega arith, omega arith, omega arith), tt))
core_fits bin.LessOrEqualSigned =
    ((omega arith, omega arith, omega arith), ((omega arith, omega arith, omega arith), tt))
core_fits bin.LessOrEqualUnsigned =
    ((omega arith, omega arith, omega arith), ((omega arith, omega arith, omega arith), tt))
core_fits bin.GreaterOrEqualSigned =
    ((omega arith, omega arith, omega arith), ((omega arith, omega arith, omega arith), tt))
core_fits bin.GreaterOrEqualUnsigned =
    ((omega arith, omega arith, omega arith), ((omega arith, omega arith, omega arith), tt))

core_of_one_fits : (kind : UnKind) → AllFit (un_core kind)
core_of_one_fits un.Negate = ((omega arith, omega arith, omega arith), tt)
core_of_one_fits un.Complement = ((omega arith, omega arith, omega arith), tt)
core_of_one_fits un.IsZero = ((omega arith, omega arith, omega arith), tt)
core_of_one_fits un.Byte = ((omega arith, omega arith, omega arith), tt)
core_of_one_fits un.Half = ((omega arith, omega arith, omega arith), tt)
core_of_one_fits un.SignedByte =
    ((omega arith, omega arith, omega arith), ((omega arith, omega arith, omega arith), tt))
core_of_one_fits un.SignedHalf =
    ((omega arith, omega arith, omega arith), ((omega arith, omega arith, omega arith), tt))

constant_fits : (t x : ℕ) → t < 32 → x < 4294967296 → AllFit (constant t x)
constant_fits t x h word = ((h, omega (arith, word)), ((h, h, omega arith), tt))

nop_fits : Fits nop
nop_fits = (omega arith, omega arith, omega arith)

-- the checks of divisions
zero_check_fits : AllFit (trap_if_zero 24 7)
zero_check_fits = ((omega arith, omega arith, omega arith), (nop_fits, (omega arith, tt)))

division_check_fits : AllFit division_check
division_check_fits = (
  (omega arith, omega arith, omega arith),
  (
    nop_fits,
    (
      omega arith,
      (
        (omega arith, omega arith, omega arith),
        (
          (omega arith, omega arith, omega arith),
          (
            (omega arith, omega arith),
            ((omega arith, omega arith, omega arith), (nop_fits, (omega arith, tt))),
          ),
        ),
      ),
    ),
  ),
)

-- a call by a number
number_call_fits : (count : ℕ) → count ≤ 8 → AllFit (number_call count)
number_call_fits count few = (
  (omega arith, omega arith, omega arith),
  (
    (omega arith, omega arith, omega arith),
    (
      (omega arith, omega arith, omega arith),
      (
        (omega arith, omega arith, omega arith),
        (
          (omega arith, omega arith, omega arith),
          (
            (omega arith, omega arith, omega arith),
            (
              (omega arith, omega arith, omega (arith, few)),
              (
                (omega arith, omega arith, omega arith),
                (
                  (omega arith, omega arith, omega arith),
                  (
                    omega arith,
                    (
                      (omega arith, omega arith, λ e. absurd (omega (arith, e))),
                      ((omega arith, omega arith, omega arith), tt),
                    ),
                  ),
                ),
              ),
            ),
          ),
        ),
      ),
    ),
  ),
)

-- the parts of prologue and epilogue that not each function has
enter_count_fits : (b : Bool) → AllFit (enter_count b)
enter_count_fits true = (
  (omega arith, omega arith, omega arith),
  (
    (omega arith, omega arith, omega arith),
    ((omega arith, omega arith, omega arith), ((omega arith, omega arith, omega arith), tt)),
  ),
)
enter_count_fits false = tt

leave_count_fits : (b : Bool) → AllFit (leave_count b)
leave_count_fits true = (
  (omega arith, omega arith, omega arith),
  (
    (omega arith, omega arith, omega arith),
    ((omega arith, omega arith, omega arith), ((omega arith, omega arith, omega arith), tt)),
  ),
)
leave_count_fits false = tt

take_objects_fit : (n : ℕ) → n ≤ MOST_FRAME_BYTES → AllFit (take_objects n)
take_objects_fit n few = by (nat_eq n 0)
  where
    by : (b : Bool) → AllFit
        (if b then [] else (constant 24 n ++ (addu 30 30 24 ∷ lui 24 4352 ∷ sltu 25 24 30 ∷ beq 25 0 2 ∷ nop ∷ trap
        21 ∷ [])))
    by true = tt
    by false = (
      (omega arith, omega (arith, few)),
      (
        (omega arith, omega arith, omega arith),
        (
          (omega arith, omega arith, omega arith),
          (
            (omega arith, omega arith),
            (
              (omega arith, omega arith, omega arith),
              ((omega arith, omega arith, omega arith), ((omega arith, omega arith, omega arith), (omega arith, tt))),
            ),
          ),
        ),
      ),
    )

free_objects_fit : (n : ℕ) → n ≤ MOST_FRAME_BYTES → AllFit (free_objects n)
free_objects_fit n few = by (nat_eq n 0)
  where
    by : (b : Bool) → AllFit (if b then [] else (constant 24 n ++ (subu 30 30 24 ∷ [])))
    by true = tt
    by false = (
      (omega arith, omega (arith, few)),
      ((omega arith, omega arith, omega arith), ((omega arith, omega arith, omega arith), tt)),
    )

-- each place that an op goes to lies in the code
address_within : (pl : Layout) (a : ℕ) (ops : List Op) (i : ℕ) → op_address pl a ops i ≤ past a
    (templates pl nowhere ops)
address_within pl a [] i = omega arith
address_within pl a (o ∷ os) zero = past_rises a (templates pl nowhere (o ∷ os))
address_within pl a (o ∷ os) (suc i) =
    let ih = address_within pl (past a (template pl nowhere o)) os i in
    let e = sym (past_append a (template pl nowhere o) (templates pl nowhere os)) in
    subst (λ n. op_address pl a (o ∷ os) (suc i) ≤ n) e ih

module _ (f : Function) (places : List ℕ) (st : Suits f places) where
  abbrev pl : Layout
  pl = layout_of f places

  abbrev start : ℕ
  start = past f.address (front_code f places)

  small : f.charge ≤ 2147483648
  small = omega (arith, st.small)

  abbrev lab : Aim → ℕ
  lab = aims pl start f.ops

  abbrev registers : ℕ
  registers = length places

  usable : (v : ℕ) → v < registers → Usable f.charge (pl.spot v)
  usable v inside = spot_usable f.charge registers (place_of places v) v inside st.room

  ends_low : past start (templates pl nowhere f.ops) < 268435456
  ends_low =
      let is = templates pl lab f.ops in
      let e1 = past_append f.address (front_code f places) (is ++ back_code f places) in
      let e2 = past_append (past f.address (front_code f places)) is (back_code f places) in
      let e4 = past_templates pl nowhere lab start f.ops in
      let r = past_rises (past (past f.address (front_code f places)) is) (back_code f places) in
      let short = st.low in
      omega (arith, e1, e2, e4, r, short)

  aim_low : (aim : Aim) → lab aim / 4 < 67108864
  aim_low (ToLabel label) = let w = address_within pl start f.ops (label_index label f.ops) in omega
      (arith, w, ends_low)
  aim_low ToEpilogue = omega (arith, ends_low)

  branch_fits : (label : ℕ) → AllFit (bne 24 0 3 ∷ nop ∷ j (lab (ToLabel label)) ∷ nop ∷ [])
  branch_fits label = ((omega arith, omega arith, omega arith), (nop_fits, (aim_low (ToLabel label), (nop_fits, tt))))

  parameter_fits : (index : ℕ) → index < 8 → AllFit (in_code (parameter_spot pl index))
  parameter_fits index l =
      let bytes = f.charge + 4 * index + 4 in
      in_fits bytes (parameter_spot pl index) (omega (arith, l, st.small))
      (slot_usable bytes (f.charge + 4 * index) (omega arith) (omega (arith, st.whole)))

  address_fits : (t offset : ℕ) → t < 32 → AllFit (object_address pl t offset)
  address_fits t offset h = ((h, omega arith), ((h, h, omega arith), ((h, h, omega arith), tt)))

  template_fits : (o : Op) → IsServed o → InRange registers o → AllFit (template pl lab o)
  template_fits (Const to word) s r = all_fit_append (constant 24 word) (out_code (pl.spot to))
      (constant_fits 24 word (omega arith) s) (out_fits f.charge (pl.spot to) small (usable to r.0))
  template_fits (Move to from) s r = all_fit_append (in_code (pl.spot from)) (out_code (pl.spot to))
      (in_fits f.charge (pl.spot from) small (usable from r.1)) (out_fits f.charge (pl.spot to) small (usable to r.0))
  template_fits (Bin kind to left right) s r =
      all_fit_append (in_two_code (pl.spot left) (pl.spot right)) (bin_core kind ++ out_code (pl.spot to))
      (in_two_fits f.charge (pl.spot left) (pl.spot right) small (usable left r.1) (usable right r.2))
      (all_fit_append (bin_core kind) (out_code (pl.spot to)) (core_fits kind)
      (out_fits f.charge (pl.spot to) small (usable to r.0)))
  template_fits (CheckDivision left right) s r =
      all_fit_append (in_two_code (pl.spot left) (pl.spot right)) division_check
      (in_two_fits f.charge (pl.spot left) (pl.spot right) small (usable left r.1) (usable right r.2))
      division_check_fits
  template_fits (CheckZero divisor) s r =
      all_fit_append (in_code (pl.spot divisor)) (trap_if_zero 24 7)
      (in_fits f.charge (pl.spot divisor) small (usable divisor r.1)) zero_check_fits
  template_fits (Un kind to from) s r =
      all_fit_append (in_code (pl.spot from)) (un_core kind ++ out_code (pl.spot to))
      (in_fits f.charge (pl.spot from) small (usable from r.1))
      (all_fit_append (un_core kind) (out_code (pl.spot to)) (core_of_one_fits kind)
      (out_fits f.charge (pl.spot to) small (usable to r.0)))
  template_fits (FrameAddress to offset) s r =
      all_fit_append (object_address pl 24 offset) (out_code (pl.spot to)) (address_fits 24 offset (omega arith))
      (out_fits f.charge (pl.spot to) small (usable to r.0))
  template_fits (Load kind to from) s r =
      all_fit_append (in_code (pl.spot from)) (range_check 25 ++ load_instruction kind ∷ nop ∷ out_code (pl.spot to))
      (in_fits f.charge (pl.spot from) small (usable from r.1))
      (all_fit_append (range_check 25) (load_instruction kind ∷ nop ∷ out_code (pl.spot to))
      (range_fits 25 (omega arith))
      ((load_word kind).0, (nop_fits, out_fits f.charge (pl.spot to) small (usable to r.0))))
  template_fits (Store kind to from) s r =
      all_fit_append (in_two_code (pl.spot to) (pl.spot from)) (range_check 1 ++ store_instruction kind ∷ [])
      (in_two_fits f.charge (pl.spot to) (pl.spot from) small (usable to r.1) (usable from r.2))
      (all_fit_append (range_check 1) (store_instruction kind ∷ []) (range_fits 1 (omega arith)) (store_word kind))
  template_fits (Clear offset words) s r =
      all_fit_append (object_address pl 24 offset) (object_address pl 25 (offset + 4 * words) ++ clear_loop)
      (address_fits 24 offset (omega arith))
      (all_fit_append (object_address pl 25 (offset + 4 * words)) clear_loop
      (address_fits 25 (offset + 4 * words) (omega arith)) (
        (omega arith, omega arith, omega arith),
        (
          (omega arith, omega arith, omega arith),
          ((omega arith, omega arith, omega arith), (nop_fits, tt)),
        ),
      ))
  template_fits (Label label) s r = tt
  template_fits (Jump label) s r = (aim_low (ToLabel label), (nop_fits, tt))
  template_fits (BranchZero test label) s r =
      all_fit_append (in_code (pl.spot test)) _ (in_fits f.charge (pl.spot test) small (usable test r.1))
      (branch_fits label)
  template_fits (BranchNonzero test label) s r =
      all_fit_append (in_code (pl.spot test)) _ (in_fits f.charge (pl.spot test) small (usable test r.1))
      (branch_fits label)
  template_fits (Return from) s r =
      all_fit_append (in_code (pl.spot from)) _ (in_fits f.charge (pl.spot from) small (usable from r.1))
      ((omega arith, omega arith, omega arith), (aim_low ToEpilogue, (nop_fits, tt)))
  template_fits ReturnZero s r = ((omega arith, omega arith, omega arith), (aim_low ToEpilogue, (nop_fits, tt)))
  template_fits (Sys kind to from) s r =
      all_fit_append (in_code (pl.spot from)) (service_code (sys_number kind) ++ out_code (pl.spot to))
      (in_fits f.charge (pl.spot from) small (usable from r.1))
      (all_fit_append (service_code (sys_number kind)) (out_code (pl.spot to)) (service_fits kind)
      (out_fits f.charge (pl.spot to) small (usable to r.0)))
  template_fits (Run routine to from) s r =
      all_fit_append (in_code (pl.spot from)) (routine_code (run_number routine) ++ out_code (pl.spot to))
      (in_fits f.charge (pl.spot from) small (usable from r.1))
      (all_fit_append (routine_code (run_number routine)) (out_code (pl.spot to)) (routine_fits routine)
      (out_fits f.charge (pl.spot to) small (usable to r.0)))
  template_fits (New to address kind captures) s r =
      let number = closure_fits kind in
      let most = s.1 in
      let call = jal new_address ∷ nop ∷ addu 24 2 0 ∷ out_code (pl.spot to) in
      let call_fits : AllFit call = (
        omega arith,
        (
          nop_fits,
          (
            (omega arith, omega arith, omega arith),
            out_fits f.charge (pl.spot to) small (usable to r.0),
          ),
        ),
      ) in
      let rest_fits : AllFit (ori 5 0 (closure_number kind) ∷ constant 6 captures ++ call) = (
        (omega arith, omega arith, omega (arith, number)),
        all_fit_append (constant 6 captures) call (constant_fits 6 captures (omega arith) (omega (arith, most)))
            call_fits,
      ) in
      all_fit_append (constant 4 address) (ori 5 0 (closure_number kind) ∷ constant 6 captures ++ call)
      (constant_fits 4 address (omega arith) s.0) rest_fits
  template_fits (Put capture from) s r =
      all_fit_append (in_code (pl.spot from)) (put_code capture)
      (in_fits f.charge (pl.spot from) small (usable from r.1)) (put_fits capture s)
  template_fits (Argument index from) s r =
      all_fit_append (in_code (pl.spot from)) _ (in_fits f.charge (pl.spot from) small (usable from r.1))
      ((omega arith, omega (arith, s), omega arith), tt)
  template_fits (GetParameter to index) s r =
      all_fit_append (in_code (parameter_spot pl index)) (out_code (pl.spot to)) (parameter_fits index s)
      (out_fits f.charge (pl.spot to) small (usable to r.0))
  template_fits (Call address) s r = (omega (arith, s), (nop_fits, tt))
  template_fits (CallNumber number count) s r =
      all_fit_append (in_code (pl.spot number)) (number_call count)
      (in_fits f.charge (pl.spot number) small (usable number r.1))
      (number_call_fits count s)
  template_fits (Result to) s r =
      ((omega arith, omega arith, omega arith), out_fits f.charge (pl.spot to) small (usable to r.0))

  templates_fit : (ops : List Op) → ((p : ℕ) (o : Op) → slice_get ops p ≡ Some o → IsServed o × InRange registers o)
      → AllFit (templates pl lab ops)
  templates_fit [] all = tt
  templates_fit (o ∷ ops) all =
      let here = all 0 o refl in
      all_fit_append (template pl lab o) (templates pl lab ops) (template_fits o here.0 here.1)
      (templates_fit ops (λ p x h. all (suc p) x h))

  saves_fit : (ps : List ℕ) → AllPlaces ps → AllFit (saves ps)
  saves_fit [] all = tt
  saves_fit (p ∷ ps) all = let b =
      place_bounds p all.0 in ((omega (arith, b.1), omega (arith, all.0), omega arith), saves_fit ps all.1)

  restores_fit : (ps : List ℕ) → AllPlaces ps → AllFit (restores ps)
  restores_fit [] all = tt
  restores_fit (p ∷ ps) all = let b =
      place_bounds p all.0 in ((omega (arith, b.1), omega (arith, all.0), omega arith), restores_fit ps all.1)

  take_fits : AllFit (take_frame f.charge)
  take_fits = (
    (omega arith, omega (arith, small)),
    (
      (omega arith, omega arith, omega arith),
      (
        (omega arith, omega arith, omega arith),
        (
          (omega arith, omega arith),
          (
            (omega arith, omega arith, omega arith),
            (
              (omega arith, omega arith, omega arith),
              (
                nop_fits,
                (
                  omega arith,
                  ((omega arith, omega arith, omega arith), ((omega arith, omega arith, omega arith), tt)),
                ),
              ),
            ),
          ),
        ),
      ),
    ),
  )

  free_fits : AllFit (free_frame f.charge)
  free_fits = (
    (omega arith, omega (arith, small)),
    ((omega arith, omega arith, omega arith), ((omega arith, omega arith, omega arith), (omega arith, (nop_fits, tt)))),
  )

  front_fits : AllFit (front_code f places)
  front_fits =
      all_fit_append (take_frame f.charge) (saves (saved places) ++ (enter_count f.compiled ++ take_objects f.object))
      take_fits
      (all_fit_append (saves (saved places)) (enter_count f.compiled ++ take_objects f.object)
      (saves_fit (saved places) (saved_are places).low)
      (all_fit_append (enter_count f.compiled) (take_objects f.object) (enter_count_fits f.compiled)
      (take_objects_fit f.object st.few)))

  back_fits : AllFit (back_code f places)
  back_fits =
      all_fit_append (leave_count f.compiled) _ (leave_count_fits f.compiled)
      (all_fit_append (restores (saved places)) _ (restores_fit (saved places) (saved_are places).low) (
        (omega arith, omega arith, omega arith),
        all_fit_append (free_objects f.object) (free_frame f.charge)
            (free_objects_fit f.object st.few) free_fits,
      ))

  pub code_fits : ((p : ℕ) → IsServed (op_at f.ops p)) → AllFit (code_of f places)
  code_fits served =
      all_fit_append (front_code f places) (templates pl lab f.ops ++ back_code f places) front_fits
      (all_fit_append (templates pl lab f.ops) (back_code f places)
      (templates_fit f.ops
      (λ p o h. (
        subst IsServed (op_found f.ops p o h).is (served p),
        subst (InRange registers)
            (op_found f.ops p o h).is (st.in_range p),
      ))) back_fits)

-- so a function whose words stand in the text stands there
pub function_stands : WordsSuffice
function_stands c f places st served short at = record {
  suits = st;
  code = words_stand c f.address (code_of f places) (code_fits f places st served) st.even short at;
}

-- words that are found there, in the text or in the arena
pub found_stand : (c : Code) (a : ℕ) (is : List Instr) → AllFit is
    → ((k : ℕ) → k < length (words is) → word_at c (a + 4 * k) ≡ Ok (slice_index (words is) k)) → HasAt c a is
found_stand c a [] fit at = tt
found_stand c a (i ∷ is) fit at =
    let here : word_at c a ≡ Ok (word_of i) = ap (word_at c) (let e : a ≡ a + 4 * 0 = omega arith in e)
    ∙ at 0 (omega arith) in (
      ap found here ∙ ap decoded (instr_of-word_of i fit.0),
      found_stand c (a + 4) is fit.1 (λ k l. ap (word_at c) (let e : a + 4 + 4 * k ≡ a + 4 * suc k = omega arith in e)
          ∙ at (suc k) (omega (arith, l))),
    )

-- so a function whose words are found at its address stands there, wherever that is
pub function_found : (c : Code) (f : Function) (places : List ℕ) → Suits f places
    → ((p : ℕ) → IsServed (op_at f.ops p))
    → ((k : ℕ) → k < length (expanded f.ops places f.address f.charge f.object f.compiled)
    → word_at c (f.address + 4 * k)
    ≡ Ok (slice_index (expanded f.ops places f.address f.charge f.object f.compiled) k))
    → Stands c f places
function_found c f places st served at = record {
  suits = st;
  code = found_stand c f.address (code_of f places) (code_fits f places st served) at;
}
