use Rattle.std.proofs.Common.{◌≡◌, List, ap, ◌∙◌, subst}
use Rattle.icode_ops.specs.declared.op.Op.{Op}
use Rattle.icode_ops.specs.Live.{AreIntervals}
use Rattle.icode_ops.specs.Places.{IsLegal}
use Rattle.icode_ir.specs.Build.{finished}
use Rattle.linear_scan_spec.specs.Scan.{places_of}
use Rattle.typed_tree.specs.View.{function_view}
use Rattle.tick_lower.specs.Viewed.{addresses_view}
use Rattle.tick_lower_proof.specs.Laws.{code_of, registers_of}
use Rattle.static_image.specs.Layout.{unknown}
use Rattle.static_image.proofs.Unaddressed.{registers_same}
use Rattle.static_image.proofs.Anywhere.{intervals_anywhere, legal_anywhere}
use Rattle.static_backend.proofs.Results.{if_ok}
use Rattle.static_backend.proofs.plan.scanned.Goals as goal

pub returns-clause-scan : goal.returns-clause-scan
returns-clause-scan c =
    let f = function_view c.args.function.now in
    let d = addresses_view c.args.addresses.now in
    let op : c.ops-ops.result.now ≡ code_of d f =
    c.ops-ops.ensures.ops ∙ ap (λ b. finished b.build) c.in_ok-build_ops.ensures in
    let many : c.registers-registers.result ≡ registers_of d f =
    c.registers-registers.ensures ∙ ap (λ b. b.build.registers) c.in_ok-build_ops.ensures in
    if_ok c.scanned_places.result
    (λ made h. record {
      intervals = h.0;
      found = intervals_anywhere d unknown (record { function = f; places = made.items }) h.0
          (subst (λ (os : List Op). AreIntervals os h.0) op h.1);
      same = h.2 ∙ ap (λ n. places_of n h.0) (many ∙ registers_same d unknown f);
    })
    c.scanned_places.ensures.scanned

pub returns-clause-legal : goal.returns-clause-legal
returns-clause-legal c =
    let f = function_view c.args.function.now in
    let d = addresses_view c.args.addresses.now in
    let op : c.ops-ops.result.now ≡ code_of d f =
    c.ops-ops.ensures.ops ∙ ap (λ b. finished b.build) c.in_ok-build_ops.ensures in
    let many : c.registers-registers.result ≡ registers_of d f =
    c.registers-registers.ensures ∙ ap (λ b. b.build.registers) c.in_ok-build_ops.ensures in
    if_ok c.scanned_places.result
    (λ made h. legal_anywhere d unknown (record { function = f; places = made.items })
    (subst (λ (os : List Op). IsLegal os (registers_of d f) made.items) op
    (subst (λ n. IsLegal c.ops-ops.result.now n made.items) many h)))
    c.scanned_places.ensures.legal
