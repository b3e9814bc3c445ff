-- The function of a tick of an accepted text issues the lowering of its specification.
use Rattle.std.proofs.Common.{◌≡◌, ℕ, length, Some, slice_get, sym, ap, ◌∙◌}
use Rattle.std.proofs.Common.{subst}
use Rattle.std.specs.Prelude.{option_map}
use Rattle.std.proofs.lemmas.Option.{slice_get-map}
use Rattle.typed_tree.specs.Nodes as node
use Rattle.tick_lower_spec.specs.Lower.{Addresses}
use Rattle.tick_lower_spec.specs.Specifications.{specification_ops}
use Rattle.generator_laws.specs.Laws.{AreTaken, Issues}
use Rattle.generator_laws.specs.Pieces.{syntax_ops}
use Rattle.routine_spec.specs.Generator.{syntax_cost}
use Rattle.generator_laws.proofs.Issued.{specifications_issued}
use Rattle.closures_proof.specs.Relation.{tick_of}
use Rattle.generator_spec.specs.Laws.{pieces_at}
use Rattle.tick_lower_spec.specs.TickPieces.{tick_pieces}
use Rattle.generator_spec.proofs.Lowered.{lowered}
use Rattle.generator_spec.specs.Kinds.{tick_of_body}
use Rattle.generator_spec.specs.FittingLaws.{ticks_of, program_pieces, LoweringsAreIssued}
use Rattle.generator_spec.proofs.Wholes.{syntax_whole}

pieces_made : (addresses : Addresses) (p : node.Program) (n : ℕ) (t : node.TickBody) → slice_get p.ticks n ≡ Some t →
    program_pieces addresses p n ≡ tick_pieces addresses (tick_of_body t)
pieces_made addresses p n t at =
    ap (pieces_at addresses) (slice_get-map tick_of_body p.ticks n ∙ ap (option_map tick_of_body) at)

pub lowerings_issued : LoweringsAreIssued
lowerings_issued p accepted addresses text c shared syntax number top d b good words has stands memory is enters there
    taken =
    let pieces = program_pieces addresses p in
    let same : syntax_ops pieces syntax ≡ specification_ops addresses (ticks_of p) syntax =
    lowered addresses (ticks_of p) syntax in
    let whole = syntax_whole p accepted addresses pieces good (pieces_made addresses p) words syntax has in
    subst (λ ops. Issues ops (syntax_cost pieces syntax) top c (text.generator_at (tick_of syntax)) d b) same
    (specifications_issued text pieces (length p.ticks) c shared syntax number top d b stands memory whole is enters
    there
    (subst (λ ops. AreTaken ops b) (sym same) taken))
