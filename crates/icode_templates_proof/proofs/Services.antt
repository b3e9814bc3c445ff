-- What the instructions of a service do, under any spots.
use Rattle.std.proofs.Common.{◌≡◌, ℕ, ◌+◌, ◌%◌, ◌<◌, [], ◌∷◌, ◌++◌, refl, sym, ap, ◌∙◌, arith, append_assoc}
use Rattle.word32.specs.Space.{update}
use Rattle.mips_model.specs.State.{Code, Data}
use Rattle.mips_encoder.specs.Addresses.{past}
use Rattle.mips_model.specs.Laws.{HasAt, at}
use Rattle.mips_model.specs.Services.{says}
use Rattle.icode_templates.specs.Layout.{Spot}
use Rattle.icode_templates.specs.Templates.{in_code, out_code, service_code}
use Rattle.icode_templates_proof.specs.Spots.{pointer, value, Framed, Usable, KeepsSpots}
use Rattle.icode_templates_proof.specs.Laws.{said}
use Rattle.icode_templates_proof.specs.Moves.{Writes}
use Rattle.icode_templates_proof.proofs.Memory.{update_other}
use Rattle.icode_templates_proof.proofs.Leaves.{Leaves, leaves_on}
use Rattle.icode_templates_proof.proofs.Keeping.{not_24}
use Rattle.icode_templates_proof.proofs.Operands.{one_in, in_leaves, keeps_one, load_gives, Between, between_on}
use Rattle.icode_templates_proof.proofs.Operands.{in_between}
use Rattle.icode_templates_proof.proofs.Templates.{finish}

-- what the service leaves, where $t8 held x; y is in $t8
abbrev asked : ℕ → ℕ → Data → Data
asked x y d = record (said x d) { registers = update 24 y (update 2 (x % 256) (update 2 11 (update 4 x d.registers))) }

abbrev argument : Data → ℕ
argument d = (d.registers 24 + 0) % 4294967296

abbrev byte_back : Data → ℕ
byte_back d = (argument d % 256 + 0) % 4294967296

put_leaves : (d : Data) → Leaves (service_code 11) 0 d 0 (asked (argument d) (byte_back d) d)
put_leaves d rest = refl

put_keeps : (x y b : ℕ) (before d : Data) → x % 256 ≡ b % 256 → KeepsSpots before d →
    KeepsSpots (said b before) (asked x y d)
put_keeps x y b before d e k =
    let f1 = update 4 x d.registers in
    let f2 = update 2 11 f1 in
    let f3 = update 2 (x % 256) f2 in
    record {
      registers = λ r q. update_other 24 y f3 r (not_24 r q) ∙ update_other 2 (x % 256) f2 r (omega (arith, q.0)) ∙
          update_other 2 11 f1 r (omega (arith, q.0)) ∙ update_other 4 x d.registers r (omega (arith, q.0)) ∙
          k.registers r q;
      stack = k.stack;
      world = record {
        objects = k.world.objects;
        closures = k.world.closures;
        spec_rows = k.world.spec_rows;
        cells = k.world.cells;
        emit_stack = k.world.emit_stack;
        table = k.world.table;
        outside = ap (λ z. says (z ∷ []) d.outside) e ∙ ap (says (b % 256 ∷ [])) k.world.outside;
      };
    }

pub put_writes : (c : Code) (a bytes : ℕ) (d : Data) (w v : Spot) → Framed (pointer d) bytes → Usable bytes w →
    Usable bytes v → value d v < 4294967296
    → HasAt c a (in_code v ++ (service_code 11 ++ out_code w))
    → Writes w (value d v % 256) 6 11 (at c a 0 d) c (past a (in_code v ++ (service_code 11 ++ out_code w)))
    (said (value d v) d)
put_writes c a bytes d w v f u u' b h =
    let mid = one_in v d in
    let g : mid.registers 24 ≡ value d v = load_gives 24 v d in
    let e : argument mid % 256 ≡ value d v % 256 = omega (arith, g, b) in
    let e' : byte_back mid ≡ value d v % 256 = omega (arith, e) in
    let four : Between 4 (service_code 11) 4 = record { over = omega arith; under = omega arith } in
    finish (in_code v ++ (service_code 11 ++ out_code w)) (in_code v ++ service_code 11) 5 8 c a bytes d
    (said (value d v) d) (asked (argument mid) (byte_back mid) mid) w (value d v % 256)
    (sym (append_assoc (in_code v) (service_code 11) (out_code w))) f u (omega arith)
    (between_on (in_code v) (service_code 11) (in_between v) four)
    (leaves_on (in_code v) (service_code 11) 0 0 0 d mid (asked (argument mid) (byte_back mid) mid)
    (in_leaves d bytes v f u' b) (put_leaves mid))
    (put_keeps (argument mid) (byte_back mid) (value d v) d mid e (keeps_one v d)) e' h
