-- What each op's instructions do, under any spots.
use Rattle.std.proofs.Common.{◌≡◌, ◌≢◌, ℕ, ◌+◌, ◌*◌, ◌/◌, ◌%◌, ◌<◌, List, [], ◌∷◌, ◌++◌, refl, sym, ap, ◌∙◌, subst}
use Rattle.std.proofs.Common.{arith, append_assoc, bit_or}
use Rattle.std.proofs.lemmas.Nat.{or_shifted}
use Rattle.word32.specs.declared.map.TheConstants.{SEGMENT_BYTES}
use Rattle.word32.specs.Space.{update}
use Rattle.mips_encoder.specs.declared.instruction.Instr.{Instr}
use Rattle.mips_encoder.specs.Addresses.{past}
use Rattle.mips_model.specs.State.{Code, Data}
use Rattle.mips_model.specs.Laws.{HasAt, at}
use Rattle.mips_model.proofs.Reach.{front, back, past_append}
use Rattle.icode_ops.specs.declared.kind.BinKind.{BinKind}
use Rattle.meaning_state.specs.Operators.{bin_value}
use Rattle.icode_templates.specs.Layout.{Spot}
use Rattle.mips_assembly.specs.Assembly.{j, nop, constant}
use Rattle.icode_templates.specs.Templates.{in_code, in_two_code, out_code, bin_core}
use Rattle.icode_templates_proof.specs.Spots.{pointer, value, Framed, Usable, KeepsSpots, PutsTo}
use Rattle.icode_templates_proof.specs.Moves.{Runs, Writes, Comes}
use Rattle.icode_templates_proof.proofs.Leaves.{Leaves, leaves_on, leaves_run, runs_on, runs_within, runs_to}
use Rattle.icode_templates_proof.proofs.Keeping.{with_registers, keeps_same, keeps_on, keeps_write, not_24, framed_on}
use Rattle.icode_templates_proof.proofs.Keeping.{puts_after}
use Rattle.icode_templates_proof.proofs.Operands.{one_in, two_in, in_leaves, in_two_leaves, keeps_one, keeps_two}
use Rattle.icode_templates_proof.proofs.Operands.{load_gives, first_given, second_given, put_out, out_leaves, out_puts}
use Rattle.icode_templates_proof.proofs.Operands.{Between, between_on, in_between, in_two_between, out_between}
use Rattle.icode_templates_proof.specs.Laws.{zero_code, nonzero_code}
use Rattle.icode_templates_proof.proofs.Operators.{IsStraight, core_of, core_between, bin_range}
use Rattle.icode_templates_proof.proofs.Jumps.{jump_reaches, bne_over, bne_to, beq_over, beq_to}

-- $t8 holds the value, and its template ends with bringing it out
pub finish : (whole is : List Instr) (l m : ℕ) (c : Code) (a bytes : ℕ) (d before mid : Data) (w : Spot) (x : ℕ) →
    whole ≡ is ++ out_code w
    → Framed (pointer before) bytes → Usable bytes w → x < 4294967296 → Between l is m → Leaves is 0 d 0 mid →
    KeepsSpots before mid → mid.registers 24 ≡ x
    → HasAt c a whole → Writes w x (l + 1) (m + 3) (at c a 0 d) c (past a whole) before
finish whole is l m c a bytes d before mid w x same f u b n leaves keeps e h =
    let b' = subst (λ y. y < 4294967296) (sym e) b in
    let all = leaves_on is (out_code w) 0 0 0 d mid (put_out w mid) leaves
    (out_leaves mid bytes w (framed_on keeps f) u b') in
    let go = leaves_run (is ++ out_code w) c 0 0 a d (put_out w mid) all (subst (HasAt c a) same h) in
    let k = between_on is (out_code w) n (out_between w) in
    record {
      after = put_out w mid;
      runs = runs_to (ap (past a) (sym same)) (runs_within k.over k.under go);
      puts = puts_after bytes u keeps (subst (λ y. PutsTo w y mid (put_out w mid)) e (out_puts w mid));
    }

pub constant_parts : (x : ℕ) → bit_or (x / 65536 * 65536) (x % 65536) ≡ x
constant_parts x = or_shifted (x / 65536) 16 (x % 65536) (omega arith) ∙ omega arith

-- $t8 with a constant
abbrev pub constant_in : ℕ → Data → Data
constant_in x d = with_registers
    (update 24 (bit_or (x / 65536 * 65536) (x % 65536)) (update 24 (x / 65536 * 65536) d.registers)) d

pub constant_leaves : (x : ℕ) (d : Data) → Leaves (constant 24 x) 0 d 0 (constant_in x d)
constant_leaves x d rest = refl

pub constant_keeps : (x : ℕ) (d : Data) → KeepsSpots d (constant_in x d)
constant_keeps x d =
    let h = x / 65536 * 65536 in
    keeps_on (keeps_write 24 h d not_24)
    (keeps_write 24 (bit_or h (x % 65536)) (with_registers (update 24 h d.registers) d) not_24)

pub const_writes : (c : Code) (a bytes x : ℕ) (d : Data) (w : Spot) → Framed (pointer d) bytes → Usable bytes w →
    x < 4294967296
    → HasAt c a (constant 24 x ++ out_code w) → Writes w x 3 5 (at c a 0 d) c (past a (constant 24 x ++ out_code w)) d
const_writes c a bytes x d w f u b h =
    finish (constant 24 x ++ out_code w) (constant 24 x) 2 2 c a bytes d d (constant_in x d) w x refl f u b
    (record { over = omega arith; under = omega arith }) (constant_leaves x d) (constant_keeps x d) (constant_parts x)
    h

pub move_writes : (c : Code) (a bytes : ℕ) (d : Data) (w v : Spot) → Framed (pointer d) bytes → Usable bytes w →
    Usable bytes v → value d v < 4294967296
    → HasAt c a (in_code v ++ out_code w) → Writes w (value d v) 2 7 (at c a 0 d) c (past a (in_code v ++ out_code w)) d
move_writes c a bytes d w v f u u' b h =
    finish (in_code v ++ out_code w) (in_code v) 1 4 c a bytes d d (one_in v d) w (value d v) refl f u b (in_between v)
    (in_leaves d bytes v f u' b) (keeps_one v d) (load_gives 24 v d) h

-- two operands, an operator and a result
pub bin_writes : (kind : BinKind) → IsStraight kind → (c : Code) (a bytes : ℕ) (d : Data) (w v z : Spot) →
    Framed (pointer d) bytes → Usable bytes w → Usable bytes v → Usable bytes z
    → value d v < 4294967296 → value d z < 4294967296 → HasAt c a (in_two_code v z ++ (bin_core kind ++ out_code w))
    → Writes w (bin_value kind (value d v) (value d z)) 4 12 (at c a 0 d) c
    (past a (in_two_code v z ++ (bin_core kind ++ out_code w))) d
bin_writes kind straight c a bytes d w v z f u uv uz bv bz h =
    let mid = two_in v z d in
    let core = core_of kind mid straight in
    let is = in_two_code v z ++ bin_core kind in
    let e : core.after.registers 24 ≡ bin_value kind (value d v) (value d z) =
    core.result ∙ ap (λ x. bin_value kind x (mid.registers 25)) (first_given v z d) ∙
    ap (bin_value kind (value d v)) (second_given bytes v z d uz) in
    finish (in_two_code v z ++ (bin_core kind ++ out_code w)) is 3 9 c a bytes d d core.after w
    (bin_value kind (value d v) (value d z)) (sym (append_assoc (in_two_code v z) (bin_core kind) (out_code w)))
    f u (bin_range kind (value d v) (value d z) bv bz)
    (between_on (in_two_code v z) (bin_core kind) (in_two_between v z) (core_between kind))
    (leaves_on (in_two_code v z) (bin_core kind) 0 0 0 d mid core.after (in_two_leaves d bytes v z f uv uz bv bz)
    core.leaves)
    (keeps_on (keeps_two v z d) core.keeps) e h

-- a jump
pub jump_comes : (c : Code) (a target : ℕ) (d : Data) → a + 4 < SEGMENT_BYTES → target % 4 ≡ 0 →
    HasAt c a (j target ∷ nop ∷ []) → Comes 2 2 (at c a 0 d) c target d
jump_comes c a target d low even h =
    record {
      after = d;
      runs = runs_within (omega arith) (omega arith) (jump_reaches c a target d low even h);
      keeps =
          keeps_same d;
    }

-- an operand came in, and then the code goes on from there
tested : (l m : ℕ) (is : List Instr) (c : Code) (a bytes target : ℕ) (d : Data) (v : Spot) → Framed (pointer d) bytes →
    Usable bytes v → value d v < 4294967296 → HasAt c a (in_code v ++ is)
    → Runs l m (at c (past a (in_code v)) 0 (one_in v d)) (at c target 0 (one_in v d)) →
    Comes (1 + l) (4 + m) (at c a 0 d) c target d
tested l m is c a bytes target d v f u b h go =
    let n = in_between v in
    record {
      after = one_in v d;
      runs = runs_on (runs_within n.over n.under
          (leaves_run (in_code v) c 0 0 a d (one_in v d) (in_leaves d bytes v f u b) (front c a (in_code v) is h))) go;
      keeps = keeps_one v d;
    }

-- a branch on 0 goes to the label, and else on
pub zero_goes : (c : Code) (a bytes target : ℕ) (d : Data) (v : Spot) → past a (in_code v) + 12 < SEGMENT_BYTES →
    target % 4 ≡ 0 → Framed (pointer d) bytes → Usable bytes v → value d v ≡ 0
    → HasAt c a (in_code v ++ zero_code target) → Comes 5 8 (at c a 0 d) c target d
zero_goes c a bytes target d v low even f u z h =
    tested 4 4 (zero_code target) c a bytes target d v f u (omega (arith, z)) h
    (runs_within (omega arith) (omega arith)
    (bne_to c (past a (in_code v)) target (one_in v d) low even (load_gives 24 v d ∙ z)
    (back c a (in_code v) (zero_code target) h)))

pub zero_passes : (c : Code) (a bytes target : ℕ) (d : Data) (v : Spot) → past a (in_code v) + 12 < SEGMENT_BYTES →
    Framed (pointer d) bytes → Usable bytes v → value d v < 4294967296 → value d v ≢ 0
    → HasAt c a (in_code v ++ zero_code target) → Comes 3 6 (at c a 0 d) c (past a (in_code v ++ zero_code target)) d
zero_passes c a bytes target d v low f u b ne h =
    tested 2 2 (zero_code target) c a bytes (past a (in_code v ++ zero_code target)) d v f u b h
    (runs_to (sym (past_append a (in_code v) (zero_code target)))
    (runs_within (omega arith) (omega arith)
    (bne_over c (past a (in_code v)) target (one_in v d) (omega (arith, low)) (λ e. ne (sym (load_gives 24 v d) ∙ e))
    (back c a (in_code v) (zero_code target) h))))

-- a branch on other numbers than 0
pub nonzero_goes : (c : Code) (a bytes target : ℕ) (d : Data) (v : Spot) → past a (in_code v) + 12 < SEGMENT_BYTES →
    target % 4 ≡ 0 → Framed (pointer d) bytes → Usable bytes v → value d v < 4294967296 → value d v ≢ 0
    → HasAt c a (in_code v ++ nonzero_code target) → Comes 5 8 (at c a 0 d) c target d
nonzero_goes c a bytes target d v low even f u b ne h =
    tested 4 4 (nonzero_code target) c a bytes target d v f u b h
    (runs_within (omega arith) (omega arith)
    (beq_to c (past a (in_code v)) target (one_in v d) low even (λ e. ne (sym (load_gives 24 v d) ∙ e))
    (back c a (in_code v) (nonzero_code target) h)))

pub nonzero_passes : (c : Code) (a bytes target : ℕ) (d : Data) (v : Spot) → past a (in_code v) + 12 < SEGMENT_BYTES →
    Framed (pointer d) bytes → Usable bytes v → value d v ≡ 0
    → HasAt c a (in_code v ++ nonzero_code target) →
    Comes 3 6 (at c a 0 d) c (past a (in_code v ++ nonzero_code target)) d
nonzero_passes c a bytes target d v low f u z h =
    tested 2 2 (nonzero_code target) c a bytes (past a (in_code v ++ nonzero_code target)) d v f u (omega (arith, z)) h
    (runs_to (sym (past_append a (in_code v) (nonzero_code target)))
    (runs_within (omega arith) (omega arith)
    (beq_over c (past a (in_code v)) target (one_in v d) (omega (arith, low)) (load_gives 24 v d ∙ z)
    (back c a (in_code v) (nonzero_code target) h))))
