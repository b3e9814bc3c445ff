use Rattle.std.proofs.Common.{rules, ◌≡◌, length, ap, sym, ◌∙◌, subst, arith}
use Rattle.icode_ops.specs.Places.{IsLegal}
use Rattle.static_backend.proofs.Slices.{whole}
use Rattle.static_backend.proofs.places.scanned_places.Goals as goal

pub returns-clause-legal : goal.returns-clause-legal
returns-clause-legal c =
    let new = c.scan_places.new.places in
    let old = c.in_ok-made.made.items in
    let many : length old ≡ c.args.registers = search rules in
    let same : length c.deref_mut-2.result.now ≡ length old = ap length c.deref_mut-2.ensures.value in
    let legal : IsLegal c.args.ops.now c.args.registers new =
    subst (λ n. IsLegal c.args.ops.now n new) (same ∙ many) c.scan_places.ensures.legal in
    subst (IsLegal c.args.ops.now c.args.registers)
    (sym (whole new old c.in_ok-made.made.len (legal.one_each ∙ sym many)
    (omega (arith, same, c.deref_mut-2.ensures.len)))) legal
