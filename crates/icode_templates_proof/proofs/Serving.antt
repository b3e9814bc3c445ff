-- The frame of a service's instructions: its argument comes in, the service answers, and the answer goes to its spot.
use Rattle.std.proofs.Common.{◌≡◌, ℕ, ◌+◌, ◌%◌, ◌<◌, [], ◌∷◌, ◌++◌, sym, ◌∙◌, arith, append_assoc}
use Rattle.word32.specs.Space.{update}
use Rattle.history.specs.Events.{End}
use Rattle.mips_model.specs.State.{Code, Data, Outside}
use Rattle.mips_model.specs.Services.{with_outside}
use Rattle.mips_model.specs.Steps.{going, ended, step}
use Rattle.mips_encoder.specs.Addresses.{past}
use Rattle.mips_model.specs.Laws.{HasAt, at}
use Rattle.mips_model.proofs.Reach.{front, back}
use Rattle.icode_templates.specs.Layout.{Spot}
use Rattle.mips_assembly.specs.Assembly.{addu, ori, syscall}
use Rattle.icode_templates.specs.Templates.{in_code, out_code, service_code}
use Rattle.icode_templates_proof.specs.Spots.{pointer, value, Framed, Usable, KeepsSpots}
use Rattle.icode_templates_proof.specs.Moves.{Writes}
use Rattle.icode_templates_proof.specs.Moves.{EndsIn}
use Rattle.icode_templates_proof.proofs.Memory.{update_other}
use Rattle.icode_templates_proof.proofs.Leaves.{Leaves, leaves_on, leaves_run, runs_on, runs_within}
use Rattle.icode_templates_proof.proofs.Keeping.{with_registers, not_24}
use Rattle.icode_templates_proof.proofs.Operands.{one_in, in_leaves, keeps_one, load_gives, Between, between_on}
use Rattle.icode_templates_proof.proofs.Operands.{in_between}
use Rattle.icode_templates_proof.proofs.Templates.{finish}
use Rattle.icode_templates_proof.proofs.Endings.{ends_now, ends_behind}

-- the argument of a service, where its value is in $t8
abbrev pub argument : Data → ℕ
argument d = (d.registers 24 + 0) % 4294967296

-- the service has its number and its argument
abbrev pub asking : ℕ → Data → Data
asking number d = with_registers (update 2 number (update 4 (argument d) d.registers)) d

-- it answered y, and that came to $t8
abbrev pub answered : ℕ → Outside → ℕ → Data → Data
answered number o y d =
    record d {
      outside = o;
      registers = update 24 ((y + 0) % 4294967296) (update 2 y (update 2 number (update 4 (argument d) d.registers)));
    }

pub answered_keeps : (number y : ℕ) (o o' : Outside) (before d : Data) → o ≡ o' → KeepsSpots before d →
    KeepsSpots (with_outside o' before) (answered number o y d)
answered_keeps number y o o' before d e k =
    let f1 = update 4 (argument d) d.registers in
    let f2 = update 2 number f1 in
    let f3 = update 2 y f2 in
    record {
      registers = λ r q. update_other 24 ((y + 0) % 4294967296) f3 r (not_24 r q) ∙
          update_other 2 y f2 r (omega (arith, q.0)) ∙ update_other 2 number f1 r (omega (arith, q.0)) ∙
          update_other 4 (argument d) d.registers r (omega (arith, q.0)) ∙ k.registers r q;
      stack = k.stack;
      world = record {
        objects = k.world.objects;
        closures = k.world.closures;
        spec_rows = k.world.spec_rows;
        cells = k.world.cells;
        emit_stack = k.world.emit_stack;
        table = k.world.table;
        outside = e;
      };
    }

pub argument_is : (v : Spot) (d : Data) → value d v < 4294967296 → argument (one_in v d) ≡ value d v
argument_is v d b = let g : (one_in v d).registers 24 ≡ value d v = load_gives 24 v d in omega (arith, g, b)

-- a service that answers
pub service_writes : (number y : ℕ) (o o' : Outside) (c : Code) (a bytes : ℕ) (d : Data) (w v : Spot) →
    Framed (pointer d) bytes → Usable bytes w → Usable bytes v → value d v < 4294967296 → y < 4294967296 → o ≡ o'
    → Leaves (service_code number) 0 (one_in v d) 0 (answered number o y (one_in v d))
    → HasAt c a (in_code v ++ (service_code number ++ out_code w))
    → Writes w y 6 11 (at c a 0 d) c (past a (in_code v ++ (service_code number ++ out_code w))) (with_outside o' d)
service_writes number y o o' c a bytes d w v f u u' b by e leaves h =
    let mid = one_in v d in
    let last = answered number o y mid in
    let four : Between 4 (service_code number) 4 = record { over = omega arith; under = omega arith } in
    let same : (y + 0) % 4294967296 ≡ y = omega (arith, by) in
    finish (in_code v ++ (service_code number ++ out_code w)) (in_code v ++ service_code number) 5 8 c a bytes d
    (with_outside o' d) last w y
    (sym (append_assoc (in_code v) (service_code number) (out_code w))) f u by
    (between_on (in_code v) (service_code number) (in_between v) four)
    (leaves_on (in_code v) (service_code number) 0 0 0 d mid last (in_leaves d bytes v f u' b) leaves)
    (answered_keeps number y o o' d mid e (keeps_one v d)) same h

-- one that ends the run
pub service_ends : (number : ℕ) (end : End) (c : Code) (a bytes : ℕ) (d : Data) (w v : Spot) →
    Framed (pointer d) bytes → Usable bytes v → value d v < 4294967296
    → Leaves (addu 4 24 0 ∷ ori 2 0 number ∷ []) 0 (one_in v d) 0 (asking number (one_in v d))
    → ((b : ℕ) → HasAt c b (syscall ∷ []) → step (going (at c b 0 (asking number (one_in v d)))) ≡
    ended end (at c b 0 (asking number (one_in v d))))
    → HasAt c a (in_code v ++ (service_code number ++ out_code w))
    → EndsIn 4 7 end (at c a 0 d) c d.outside
service_ends number end c a bytes d w v f u b leaves stops h =
    let mid = one_in v d in
    let n = in_between v in
    let here = past a (in_code v) in
    let tail = back c a (in_code v) (service_code number ++ out_code w) h in
    let first = leaves_run (in_code v) c 0 0 a d mid (in_leaves d bytes v f u b)
    (front c a (in_code v) (service_code number ++ out_code w) h) in
    let second = leaves_run (addu 4 24 0 ∷ ori 2 0 number ∷ []) c 0 0 here mid (asking number mid) leaves
    (tail.0, (tail.1.0, tt)) in
    ends_behind {l = 3} {m = 6} (runs_on (runs_within n.over n.under first)
    (runs_within {l = 2} {m = 2} (omega arith) (omega arith) second))
    (ends_now end c (here + 4 + 4) (asking number mid) (stops (here + 4 + 4) (tail.1.1.0, tt)))
