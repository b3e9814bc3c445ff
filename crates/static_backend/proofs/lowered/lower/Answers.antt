use Rattle.std.proofs.Common.{◌≡◌, List, ap, sym, ◌∙◌, subst}
use Rattle.icode_ir.specs.declared.build_op.BuildOp.{BuildOp}
use Rattle.icode_ir.specs.Build.{empty}
use Rattle.icode_ir.specs.Runs.{EmitsAll, AreTaken, IsRefused, run_ops}
use Rattle.tick_lower_spec.specs.TickPieces.{pieces_with}
use Rattle.staged_meaning.specs.Program.{OfStatement}
use Rattle.tick_lower_spec.specs.Lower.{no_holes, function_ops}
use Rattle.tick_lower.specs.Viewed.{addresses_view}
use Rattle.tick_lower_spec.specs.TickPieces.{tick_pieces}
use Rattle.typed_tree.specs.View.{function_view, stmt_view}
use Rattle.static_backend.proofs.Filled.{function_filled}
use Rattle.static_backend.proofs.Taken.{not_refused}
use Rattle.static_backend.proofs.lowered.lower.Goals as goal

pub unreachable-requires : goal.unreachable-requires
unreachable-requires c =
    let function = function_view c.args.function.now in
    let os : List BuildOp = pieces_with no_holes c.as_slice.result.now in
    let b = c.args.builder.now.build in
    let f = c.in-Err.field-0 in
    let same : os ≡ function_ops (addresses_view c.args.addresses.now) function =
    ap (λ ps. pieces_with no_holes ps) (c.as_slice.ensures ∙ c.in_ok-statement_body.ensures
    ∙ ap (λ s. tick_pieces (addresses_view c.args.addresses.now) (OfStatement (stmt_view s))) c.get.ensures)
    ∙ function_filled (addresses_view c.args.addresses.now) function in
    let begun : b ≡ empty c.args.function.now.params = ap (λ x. x.build) c.requires.begun in
    let first : AreTaken os (empty c.args.function.now.params) =
    subst (λ xs. AreTaken xs (empty c.args.function.now.params)) (sym same)
    (c.lowering_is_accepted.ensures (addresses_view c.args.addresses.now) function c.requires.ready).taken in
    let taken : AreTaken os b = subst (AreTaken os) (sym begun) first in
    let refused : IsRefused os b c.take.new.builder.build f =
    subst (λ r. EmitsAll os b c.take.new.builder.build r) c.in-Err.is c.take.ensures.emits in
    not_refused os b c.take.new.builder.build f taken refused

pub returns-clause-taken : goal.returns-clause-taken
returns-clause-taken c =
    let function = function_view c.args.function.now in
    let same : pieces_with no_holes c.as_slice.result.now ≡ function_ops (addresses_view c.args.addresses.now) function
    =
    ap (λ ps. pieces_with no_holes ps) (c.as_slice.ensures ∙ c.in_ok-statement_body.ensures
    ∙ ap (λ s. tick_pieces (addresses_view c.args.addresses.now) (OfStatement (stmt_view s))) c.get.ensures)
    ∙ function_filled (addresses_view c.args.addresses.now) function in
    c.in-Ok.ensures.emits.1 ∙ ap (λ ops. run_ops ops c.args.builder.now.build) same
