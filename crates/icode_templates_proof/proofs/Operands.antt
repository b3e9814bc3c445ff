-- How an operand comes to a register, and a result to its spot, under any spots.
use Rattle.std.proofs.Common.{◌≡◌, ◌≢◌, inl, inr, ℕ, ◌+◌, ◌*◌, ◌/◌, ◌%◌, ◌<◌, ◌≤◌, true, false, List, ◌++◌, length}
use Rattle.std.proofs.Common.{refl, sym, ◌∙◌, subst, arith, nat_eq, nat_lt, nat_le}
use Rattle.std.proofs.lemmas.Bool.{cases_lt}
use Rattle.std.proofs.lemmas.List.{length-append}
use Rattle.std.proofs.lemmas.Bool.Decides.{nat_tests}
use Rattle.word32.specs.declared.map.TheConstants.{STACK}
use Rattle.word32.specs.Words.{wrap, widened_half}
use Rattle.word32.specs.Space.{update}
use Rattle.mips_encoder.specs.declared.instruction.Instr.{Instr}
use Rattle.mips_model.specs.State.{Data}
use Rattle.mips_model.specs.Steps.{load_hazard}
use Rattle.icode_templates.specs.Layout.{Spot, InRegister, InSlot}
use Rattle.mips_assembly.specs.Assembly.{addu, lw, lui, nop}
use Rattle.icode_templates.specs.Templates.{upper, lower, load_code, wait_code, in_code, in_two_code, out_code}
use Rattle.icode_templates_proof.specs.Spots.{pointer, frame_word, value, Framed, Usable, IsKept, KeepsSpots, PutsTo}
use Rattle.icode_templates_proof.proofs.Memory.{update_same, update_other}
use Rattle.icode_templates_proof.proofs.Leaves.{Leaves, leaves_on}
use Rattle.icode_templates_proof.proofs.Keeping.{with_registers, keeps_on, keeps_write, not_1, not_24, not_25}
use Rattle.icode_templates_proof.proofs.Keeping.{framed_on, value_kept}

-- $at, where a far slot is reached from it
abbrev pub reached : ℕ → Data → ℕ → ℕ
reached offset d = update 1 (wrap (upper offset * 65536 + pointer d)) (update 1 (upper offset * 65536) d.registers)

-- the registers behind a load to t
abbrev pub loaded_registers : ℕ → Spot → Data → ℕ → ℕ
loaded_registers t (InRegister r) d = update t (d.registers r) d.registers
loaded_registers t (InSlot false offset) d = update t (frame_word d offset) d.registers
loaded_registers t (InSlot true offset) d = update t (frame_word d offset) (reached offset d)

abbrev pub loaded : ℕ → Spot → Data → Data
loaded t w d = with_registers (loaded_registers t w d) d

-- the register that the last of these instructions loads
abbrev pub load_of : ℕ → Spot → ℕ
load_of t (InRegister r) = 0
load_of t (InSlot far offset) = t

-- the first instruction of a load
abbrev pub first_of_load : ℕ → Spot → Instr
first_of_load t (InRegister r) = addu t r 0
first_of_load t (InSlot false offset) = lw t offset 29
first_of_load t (InSlot true offset) = lui 1 (upper offset)

far_address : (sp offset : ℕ) → sp + offset < 2147483648 →
    (wrap (upper offset * 65536 + sp) + widened_half (lower offset)) % 4294967296 ≡ sp + offset
far_address sp offset h =
    elim (cases_lt (lower offset) 32768) [
      | inl l ↦ let o : nat_lt (lower offset) 32768 ≡ true = grind (arith, nat_tests) in rw o (omega arith)
      | inr l ↦ let o : nat_lt (lower offset) 32768 ≡ false = grind (arith, nat_tests) in rw o (omega arith)
    ]

pub load_leaves : (t l : ℕ) (d : Data) (bytes : ℕ) (w : Spot) → nat_eq t 0 ≡ false →
    load_hazard l (first_of_load t w) ≡ false → Framed (pointer d) bytes → Usable bytes w → value d w < 4294967296
    → Leaves (load_code t w) l d (load_of t w) (loaded t w d)
load_leaves t l d bytes (InRegister r) n0 hz f u b rest =
    let e : nat_eq r 0 ≡ false = grind (arith, nat_tests) in
    let m : (d.registers r + 0) % 4294967296 ≡ d.registers r = omega arith in
    rw (hz, n0, e, m)
load_leaves t l d bytes (InSlot false offset) n0 hz f u b rest =
    let o : nat_lt offset 32768 ≡ true = grind (arith, nat_tests) in
    let m : (d.registers 29 + offset) % 4294967296 ≡ d.registers 29 + offset = omega (arith, f.to, u.1) in
    let t1 : nat_le STACK (d.registers 29 + offset) ≡ true = grind (arith, nat_tests, f.from) in
    let t2 : nat_lt (d.registers 29 + offset) 2147483648 ≡ true = grind (arith, nat_tests, f.to, u.1) in
    let z : nat_eq ((d.registers 29 + offset) % 4) 0 ≡ true = grind (arith, nat_tests, f.even, u.2) in
    rw (hz, o, m, t1, t2, z, n0)
load_leaves t l d bytes (InSlot true offset) n0 hz f u b rest =
    let e1 : (wrap (upper offset * 65536 + d.registers 29) + widened_half (lower offset)) % 4294967296 ≡ d.registers 29
    + offset = far_address (d.registers 29) offset (omega (arith, f.to, u.0)) in
    let t1 : nat_le STACK (d.registers 29 + offset) ≡ true = grind (arith, nat_tests, f.from) in
    let t2 : nat_lt (d.registers 29 + offset) 2147483648 ≡ true = grind (arith, nat_tests, f.to, u.0) in
    let z : nat_eq ((d.registers 29 + offset) % 4) 0 ≡ true = grind (arith, nat_tests, f.even, u.1) in
    rw (hz, e1, t1, t2, z, n0)

-- what a load is waited for with
wait_leaves : (t : ℕ) (d : Data) (w : Spot) → load_hazard t nop ≡ false → Leaves (wait_code w) (load_of t w) d 0 d
wait_leaves t d (InRegister r) hz rest = refl
wait_leaves t d (InSlot far offset) hz rest = rw hz

pub waited_leaves : (t l : ℕ) (d : Data) (bytes : ℕ) (w : Spot) → nat_eq t 0 ≡ false → load_hazard t nop ≡ false →
    load_hazard l (first_of_load t w) ≡ false → Framed (pointer d) bytes → Usable bytes w → value d w < 4294967296
    → Leaves (load_code t w ++ wait_code w) l d 0 (loaded t w d)
waited_leaves t l d bytes w n0 tz hz f u b =
    leaves_on (load_code t w) (wait_code w) l (load_of t w) 0 d (loaded t w d) (loaded t w d)
    (load_leaves t l d bytes w n0 hz f u b) (wait_leaves t (loaded t w d) w tz)

-- the value that a load brings, and what it keeps
pub load_gives : (t : ℕ) (w : Spot) (d : Data) → (loaded t w d).registers t ≡ value d w
load_gives t (InRegister r) d = update_same t (d.registers r) d.registers
load_gives t (InSlot false offset) d = update_same t (frame_word d offset) d.registers
load_gives t (InSlot true offset) d = update_same t (frame_word d offset) (reached offset d)

reach_keeps : (offset : ℕ) (d : Data) → KeepsSpots d (with_registers (reached offset d) d)
reach_keeps offset d =
    keeps_on (keeps_write 1 (upper offset * 65536) d not_1)
    (keeps_write 1 (wrap (upper offset * 65536 + pointer d))
    (with_registers (update 1 (upper offset * 65536) d.registers) d) not_1)

pub keeps_load : (t : ℕ) (w : Spot) (d : Data) → ((r : ℕ) → IsKept r → r ≢ t) → KeepsSpots d (loaded t w d)
keeps_load t (InRegister r) d h = keeps_write t (d.registers r) d h
keeps_load t (InSlot false offset) d h = keeps_write t (frame_word d offset) d h
keeps_load t (InSlot true offset) d h =
    keeps_on (reach_keeps offset d) (keeps_write t (frame_word d offset) (with_registers (reached offset d) d) h)

-- one operand to $t8
abbrev pub one_in : Spot → Data → Data
one_in a d = loaded 24 a d

pub in_leaves : (d : Data) (bytes : ℕ) (a : Spot) → Framed (pointer d) bytes → Usable bytes a → value d a < 4294967296 →
    Leaves (in_code a) 0 d 0 (one_in a d)
in_leaves d bytes a f u b = waited_leaves 24 0 d bytes a refl refl refl f u b

pub keeps_one : (a : Spot) (d : Data) → KeepsSpots d (one_in a d)
keeps_one a d = keeps_load 24 a d not_24

-- two operands to $t8 and $t9
abbrev pub two_in : Spot → Spot → Data → Data
two_in a b d = loaded 25 b (one_in a d)

-- the second load names no register that the first one loaded
no_hazard : (bytes : ℕ) (a b : Spot) → Usable bytes b → load_hazard (load_of 24 a) (first_of_load 25 b) ≡ false
no_hazard bytes (InRegister r) b u = refl
no_hazard bytes (InSlot far offset) (InRegister r) u = let e : nat_eq r 24 ≡ false = grind (arith, nat_tests, u.1) in
    rw e
no_hazard bytes (InSlot far offset) (InSlot false other) u = refl
no_hazard bytes (InSlot far offset) (InSlot true other) u = refl

pub keeps_two : (a b : Spot) (d : Data) → KeepsSpots d (two_in a b d)
keeps_two a b d = keeps_on (keeps_one a d) (keeps_load 25 b (one_in a d) not_25)

pub in_two_leaves : (d : Data) (bytes : ℕ) (a b : Spot) → Framed (pointer d) bytes → Usable bytes a → Usable bytes b →
    value d a < 4294967296 → value d b < 4294967296
    → Leaves (in_two_code a b) 0 d 0 (two_in a b d)
in_two_leaves d bytes a b f u v wa wb =
    let kept = keeps_one a d in
    let wb' = subst (λ n. n < 4294967296) (sym (value_kept bytes d (one_in a d) b v kept)) wb in
    leaves_on (load_code 24 a) (load_code 25 b ++ wait_code b) 0 (load_of 24 a) 0 d (one_in a d) (two_in a b d)
    (load_leaves 24 0 d bytes a refl refl f u wa)
    (waited_leaves 25 (load_of 24 a) (one_in a d) bytes b refl refl (no_hazard bytes a b v) (framed_on kept f) v wb')

second_keeps : (b : Spot) (d : Data) → (loaded 25 b d).registers 24 ≡ d.registers 24
second_keeps (InRegister r) d = refl
second_keeps (InSlot false offset) d = refl
second_keeps (InSlot true offset) d = refl

pub first_given : (a b : Spot) (d : Data) → (two_in a b d).registers 24 ≡ value d a
first_given a b d = second_keeps b (one_in a d) ∙ load_gives 24 a d

pub second_given : (bytes : ℕ) (a b : Spot) (d : Data) → Usable bytes b → (two_in a b d).registers 25 ≡ value d b
second_given bytes a b d u = load_gives 25 b (one_in a d) ∙ value_kept bytes d (one_in a d) b u (keeps_one a d)

-- $t8 at its spot
abbrev pub put_registers : Spot → Data → ℕ → ℕ
put_registers (InRegister r) d = update r (d.registers 24) d.registers
put_registers (InSlot false offset) d = d.registers
put_registers (InSlot true offset) d = reached offset d

abbrev pub put_stack : Spot → Data → ℕ → ℕ
put_stack (InRegister r) d = d.stack
put_stack (InSlot far offset) d = update ((pointer d + offset) / 4) (d.registers 24) d.stack

abbrev pub put_out : Spot → Data → Data
put_out w d = record d { registers = put_registers w d; stack = put_stack w d }

pub out_leaves : (d : Data) (bytes : ℕ) (w : Spot) → Framed (pointer d) bytes → Usable bytes w →
    d.registers 24 < 4294967296 → Leaves (out_code w) 0 d 0 (put_out w d)
out_leaves d bytes (InRegister r) f u b rest =
    let e : nat_eq r 0 ≡ false = grind (arith, nat_tests) in
    let m : (d.registers 24 + 0) % 4294967296 ≡ d.registers 24 = omega arith in
    rw (e, m)
out_leaves d bytes (InSlot false offset) f u b rest =
    let o : nat_lt offset 32768 ≡ true = grind (arith, nat_tests) in
    let m : (d.registers 29 + offset) % 4294967296 ≡ d.registers 29 + offset = omega (arith, f.to, u.1) in
    let t1 : nat_le STACK (d.registers 29 + offset) ≡ true = grind (arith, nat_tests, f.from) in
    let t2 : nat_lt (d.registers 29 + offset) 2147483648 ≡ true = grind (arith, nat_tests, f.to, u.1) in
    let z : nat_eq ((d.registers 29 + offset) % 4) 0 ≡ true = grind (arith, nat_tests, f.even, u.2) in
    rw (o, m, t1, t2, z)
out_leaves d bytes (InSlot true offset) f u b rest =
    let e1 : (wrap (upper offset * 65536 + d.registers 29) + widened_half (lower offset)) % 4294967296 ≡ d.registers 29
    + offset = far_address (d.registers 29) offset (omega (arith, f.to, u.0)) in
    let t1 : nat_le STACK (d.registers 29 + offset) ≡ true = grind (arith, nat_tests, f.from) in
    let t2 : nat_lt (d.registers 29 + offset) 2147483648 ≡ true = grind (arith, nat_tests, f.to, u.0) in
    let z : nat_eq ((d.registers 29 + offset) % 4) 0 ≡ true = grind (arith, nat_tests, f.even, u.1) in
    rw (e1, t1, t2, z)

pub out_puts : (w : Spot) (d : Data) → PutsTo w (d.registers 24) d (put_out w d)
out_puts (InRegister r) d = record {
  value_is = update_same r (d.registers 24) d.registers;
  registers = λ q k h. update_other r (d.registers 24) d.registers q h;
  stack = λ n h. refl;
  world = record {
    objects = refl;
    closures = refl;
    spec_rows = refl;
    cells = refl;
    emit_stack = refl;
    table = refl;
    outside = refl;
  };
}
out_puts (InSlot false offset) d = record {
  value_is = update_same ((pointer d + offset) / 4) (d.registers 24) d.stack;
  registers = λ q k h. refl;
  stack = λ n h. update_other ((pointer d + offset) / 4) (d.registers 24) d.stack n h;
  world = record {
    objects = refl;
    closures = refl;
    spec_rows = refl;
    cells = refl;
    emit_stack = refl;
    table = refl;
    outside = refl;
  };
}
out_puts (InSlot true offset) d = record {
  value_is = update_same ((pointer d + offset) / 4) (d.registers 24) d.stack;
  registers = λ q k h. (reach_keeps offset d).registers q k;
  stack = λ n h. update_other ((pointer d + offset) / 4) (d.registers 24) d.stack n h;
  world = record {
    objects = refl;
    closures = refl;
    spec_rows = refl;
    cells = refl;
    emit_stack = refl;
    table = refl;
    outside = refl;
  };
}

-- how many instructions there are
pub record Between (least : ℕ) (is : List Instr) (most : ℕ) : Type 0 where
  pub over : least ≤ length is
  pub under : length is ≤ most

pub between_on : {l m l' m' : ℕ} (is js : List Instr) → Between l is m → Between l' js m' →
    Between (l + l') (is ++ js) (m + m')
between_on is js p q =
    let e = length-append is js in
    record { over = omega (arith, e, p.over, q.over); under = omega (arith, e, p.under, q.under) }

load_between : (t : ℕ) (w : Spot) → Between 1 (load_code t w) 3
load_between t (InRegister r) = record { over = omega arith; under = omega arith }
load_between t (InSlot false offset) = record { over = omega arith; under = omega arith }
load_between t (InSlot true offset) = record { over = omega arith; under = omega arith }

wait_between : (w : Spot) → Between 0 (wait_code w) 1
wait_between (InRegister r) = record { over = omega arith; under = omega arith }
wait_between (InSlot far offset) = record { over = omega arith; under = omega arith }

pub in_between : (a : Spot) → Between 1 (in_code a) 4
in_between a = between_on (load_code 24 a) (wait_code a) (load_between 24 a) (wait_between a)

pub in_two_between : (a b : Spot) → Between 2 (in_two_code a b) 7
in_two_between a b =
    between_on (load_code 24 a) (load_code 25 b ++ wait_code b) (load_between 24 a)
    (between_on (load_code 25 b) (wait_code b) (load_between 25 b) (wait_between b))

pub out_between : (w : Spot) → Between 1 (out_code w) 3
out_between (InRegister r) = record { over = omega arith; under = omega arith }
out_between (InSlot false offset) = record { over = omega arith; under = omega arith }
out_between (InSlot true offset) = record { over = omega arith; under = omega arith }
