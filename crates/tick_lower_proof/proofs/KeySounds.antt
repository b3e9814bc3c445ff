-- A builder stays sound also where its ops mention keys, so what it hands out is a finished list: each label stands
-- where it is.
use Rattle.std.proofs.Common.{◌≡◌, ℕ, zero, suc, ◌+◌, ◌<◌, ◌≤◌, Bool, true, false, List, [], ◌∷◌, length, Option}
use Rattle.std.proofs.Common.{Some, None, refl, sym, ap, ◌∙◌, arith, ⊎_elim, length-append}
use Rattle.std.specs.Prelude.{slice_get, nat_lt, nat_eq, ◌==◌, if◌then◌else◌}
use Rattle.std.proofs.lemmas.Bool.Decides.{nat_tests, eqb_tells}
use Rattle.icode_ops.specs.declared.op.Op.{Op}
use Rattle.icode_ops.specs.declared.op.Op.TheVariants as op
use Rattle.icode_ops.specs.Flow.{label_of, op_at, holds}
use Rattle.icode_ops.specs.Labels.{label_index}
use Rattle.icode_ops.specs.Finished.{IsFinished}
use Rattle.icode_ir.specs.declared.build_op.BuildOp.{BuildOp}
use Rattle.icode_ir.specs.declared.build_op.BuildOp.TheVariants.{GetSpec, SetSpec}
use Rattle.icode_ir.specs.declared.build_op.BuildFault.{BuildFault}
use Rattle.icode_ir.specs.declared.build_op.BuildFault.TheVariants.{BadVariable}
use Rattle.icode_ir.specs.Build.{Build, operand, find, mention, mentioned, or_next, key_register, first_mention}
use Rattle.icode_ir.specs.Rules.{fits, keyed, is_key, news, fault_of, effect}
use Rattle.icode_ir.specs.Runs.{run_ops, AreTaken}
use Rattle.icode_ir.specs.Sound.{Each, IsPlain, IsSound}
use Rattle.limits.specs.declared.ops.TheConstants.{OP_LIMIT, KEYS}
use Rattle.limits.specs.declared.program.TheConstants.{MOST_ARGUMENTS}
use Rattle.icode_ir.proofs.Enclosing.{mention-sound}
use Rattle.tick_lower_proof.proofs.Sounds.{room_of, needs_of, operand_low, yield_sound, add_sound, left_few}
use Rattle.tick_lower_proof.proofs.Sounds.{effect_sound}
use Rattle.tick_lower_proof.proofs.Ways.{Labelled}

-- an op of the prelude
first_plain : (key r : ℕ) → IsPlain (r + 1) (first_mention key r)
first_plain key r = by (nat_lt key MOST_ARGUMENTS)
  where
    by : (b : Bool) → IsPlain (r + 1) (if b then op.GetParameter r key else op.Const r 0)
    by true = record { registers_low = (omega arith, tt, tt); no_label = refl; no_jump = refl }
    by false = record { registers_low = (omega arith, tt, tt); no_label = refl; no_jump = refl }

key_low : (parameters key : ℕ) → is_key parameters key ≡ true → key < KEYS
key_low parameters key e = by (nat_lt key MOST_ARGUMENTS) refl e
  where
    by : (b : Bool) → nat_lt key MOST_ARGUMENTS ≡ b → (if b then nat_lt key parameters else nat_lt key KEYS) ≡ true →
        key < KEYS
    by true lt h = grind (arith, nat_tests, lt)
    by false lt h = grind (arith, nat_tests, h)

keyed_of : (key : ℕ) (b : Build) (x : Option BuildFault) → keyed key b x ≡ None → (key < KEYS) × (x ≡ None)
keyed_of key b x e = by (is_key b.parameters key) refl e
  where
    by : (t : Bool) → is_key b.parameters key ≡ t → (if t then x else Some BadVariable) ≡ None →
        (key < KEYS) × (x ≡ None)
    by true is h = (key_low b.parameters key is, h)
    by false is h = absurd cc

-- a key that was mentioned has a register of the builder
found_low : (key r n : ℕ) (keys : List (ℕ × ℕ)) → Each (λ m. (m.0 < KEYS) × (m.1 < n)) keys → find key keys ≡ Some r →
    r < n
found_low key r n [] each e = absurd cc
found_low key r n (m ∷ keys) each e = by (λ h. found_low key r n keys each.1 h) (key == m.0) e
  where
    by : (find key keys ≡ Some r → r < n) → (t : Bool) → (if t then Some m.1 else find key keys) ≡ Some r → r < n
    by rest true h = let same : m.1 ≡ r = cc in omega (arith, each.0.1, same)
    by rest false h = rest h

-- the builder behind a mention
record Mentions (key : ℕ) (o : Option ℕ) (b : Build) : Type 0 where
  sound : IsSound (mention o key b)
  low : or_next o b.registers < (mention o key b).registers
  few : length (mention o key b).prelude + length (mention o key b).ops + 1 ≤ OP_LIMIT
  operands : (mention o key b).operands ≡ b.operands
  more : b.registers ≤ (mention o key b).registers

mentions : (key : ℕ) (b : Build) → IsSound b → key < KEYS → (o : Option ℕ) → find key b.keys ≡ o →
    length b.prelude + length b.ops + (news o + 1) ≤ OP_LIMIT → Mentions key o b
mentions key b i lt (Some r) e few = record {
  sound = i;
  low = found_low key r b.registers b.keys i.keys e;
  few = omega (arith, few);
  operands = refl;
  more = omega arith;
}
mentions key b i lt None e few = record {
  sound = mention-sound b key (first_mention key b.registers) i (first_plain key b.registers) lt (omega (arith, few));
  low = omega arith;
  few = omega (arith, few, length-append b.prelude (first_mention key b.registers ∷ []));
  operands = refl;
  more = omega arith;
}

every_sound : (o : BuildOp) (b : Build) → IsSound b → fault_of o b ≡ None → IsSound (effect o b)
every_sound (GetSpec key) b i e =
    let o = find key b.keys in
    let k = keyed_of key b (fits (news o + 1) (length b.operands + 1) b) e in
    let room = room_of (news o + 1) (length b.operands + 1) b k.1 in
    let m = mentions key b i k.0 o refl room.0 in
    let b1 = mentioned key b in
    let few : length b1.operands + 1 ≤ OP_LIMIT = omega (arith, room.1, ap length m.operands) in
    yield_sound b1 m.sound (op.Move b1.registers (key_register key b)) 0
    (record {
      registers_low = (
        omega arith,
        let low = m.low in let wide : key_register key b < b1.registers + 1 =
            omega (arith, low) in wide,
        tt,
      );
      no_label = refl;
      no_jump = refl;
    }) m.few
    (left_few b1 m.sound 0 (length b1.operands + 1) (omega arith) few)
every_sound (SetSpec key) b i e =
    let o = find key b.keys in
    let one = needs_of 1 b (keyed key b (fits (news o + 1) (length b.operands) b)) e in
    let k = keyed_of key b (fits (news o + 1) (length b.operands) b) one.1 in
    let room = room_of (news o + 1) (length b.operands) b k.1 in
    let m = mentions key b i k.0 o refl room.0 in
    let b1 = mentioned key b in
    let from_low = operand_low b i 0 (omega (arith, one.0)) in
    add_sound b1 m.sound (op.Move (key_register key b) (operand 0 b))
    (record {
      registers_low = (
        m.low,
        let more = m.more in let wide : operand 0 b < b1.registers = omega (arith, from_low, more) in
            wide,
        tt,
      );
      no_label = refl;
      no_jump = refl;
    }) m.few
every_sound o b i e = effect_sound o b tt i e

pub all_sound : (os : List BuildOp) (b : Build) → AreTaken os b → IsSound b → IsSound (run_ops os b)
all_sound [] b taken i = i
all_sound (o ∷ os) b taken i = all_sound os (effect o b) taken.1 (every_sound o b i taken.0)

-- ---- labels of a finished list

got_at : (ops : List Op) (p : ℕ) (o : Op) → slice_get ops p ≡ Some o → op_at ops p ≡ o
got_at [] p o e = absurd cc
got_at (x ∷ ops) zero o e = cc
got_at (x ∷ ops) (suc p) o e = got_at ops p o e

-- no label stands at two places
abbrev Once : List Op → Type 0
Once ops = (p q l : ℕ) → label_of (op_at ops p) ≡ Some l → label_of (op_at ops q) ≡ Some l → p ≡ q

found : (ops : List Op) → Once ops → (p l : ℕ) → slice_get ops p ≡ Some (op.Label l) → label_index l ops ≡ p
found [] once p l e = absurd cc
found (o ∷ ops) once zero l e =
    let is : o ≡ op.Label l = cc in
    let held : nat_eq l l ≡ true = ⊎_elim (λ y. y.0) (λ n. absurd (n.1 refl)) (eqb_tells l l) in
    ap (λ x. if holds l (label_of x) then 0 else suc (label_index l ops)) is
    ∙ ap (λ t. if t then 0 else suc (label_index l ops)) held
found (o ∷ ops) once (suc p) l e =
    let there : label_of (op_at (o ∷ ops) (suc p)) ≡ Some l = ap label_of (got_at ops p (op.Label l) e) in
    by (λ same. let z : zero ≡ suc p = once zero (suc p) l same there in absurd (omega (arith, z))) (label_of o) refl
    (found ops (λ a b k x y. let z : suc a ≡ suc b = once (suc a) (suc b) k x y in omega (arith, z)) p l e)
  where
    by : (label_of o ≡ Some l → ⊥) → (x : Option ℕ) → label_of o ≡ x → label_index l ops ≡ p →
        (if holds l (label_of o) then 0 else suc (label_index l ops)) ≡ suc p
    by no' None h rest = ap (λ x. if holds l x then 0 else suc (label_index l ops)) h ∙ ap suc rest
    by no' (Some k) h rest =
        ⊎_elim
        (λ y. absurd (no' (h ∙ ap Some (sym y.1))))
        (λ n. ap (λ x. if holds l x then 0 else suc (label_index l ops)) h
        ∙ ap (λ t. if t then 0 else suc (label_index l ops)) n.0 ∙ ap suc rest)
        (eqb_tells l k)

pub finished_labelled : (ops : List Op) (registers : ℕ) → IsFinished ops registers → Labelled ops
finished_labelled ops registers h = record { at = found ops h.once }
