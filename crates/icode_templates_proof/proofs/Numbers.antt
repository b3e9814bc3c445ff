-- A number is put out.
use Rattle.std.proofs.Common.{ℕ, ◌<◌, ◌++◌, refl, ap, subst}
use Rattle.history.specs.Events.{number_bytes}
use Rattle.mips_model.specs.State.{Code, Data}
use Rattle.mips_model.specs.Services.{says}
use Rattle.mips_encoder.specs.Addresses.{past}
use Rattle.mips_model.specs.Laws.{HasAt, at}
use Rattle.icode_templates.specs.Layout.{Spot}
use Rattle.icode_templates.specs.Templates.{in_code, out_code, service_code}
use Rattle.icode_templates_proof.specs.Spots.{pointer, value, Framed, Usable}
use Rattle.icode_templates_proof.specs.Laws.{told}
use Rattle.icode_templates_proof.specs.Moves.{Writes}
use Rattle.icode_templates_proof.proofs.Leaves.{Leaves}
use Rattle.icode_templates_proof.proofs.Operands.{one_in}
use Rattle.icode_templates_proof.proofs.Serving.{argument, answered, argument_is, service_writes}

number_leaves : (d : Data) →
    Leaves (service_code 1) 0 d 0 (answered 1 (says (number_bytes (argument d)) d.outside) (argument d) d)
number_leaves d rest = refl

pub number_writes : (c : Code) (a bytes : ℕ) (d : Data) (w v : Spot) → Framed (pointer d) bytes → Usable bytes w →
    Usable bytes v → value d v < 4294967296
    → HasAt c a (in_code v ++ (service_code 1 ++ out_code w))
    → Writes w (value d v) 6 11 (at c a 0 d) c (past a (in_code v ++ (service_code 1 ++ out_code w)))
    (told (value d v) d)
number_writes c a bytes d w v f u u' b h =
    let mid = one_in v d in
    let e = argument_is v d b in
    let leaves : Leaves (service_code 1) 0 mid 0
    (answered 1 (says (number_bytes (argument mid)) mid.outside) (value d v) mid) =
    subst (λ y. Leaves (service_code 1) 0 mid 0
    (answered 1 (says (number_bytes (argument mid)) mid.outside) y mid)) e (number_leaves mid) in
    service_writes 1 (value d v) (says (number_bytes (argument mid)) mid.outside)
    (says (number_bytes (value d v)) d.outside) c a bytes d w v f u u' b b
    (ap (λ n. says (number_bytes n) d.outside) e) leaves h
