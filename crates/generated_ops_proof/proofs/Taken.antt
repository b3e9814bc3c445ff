-- The builder takes the ops of a specification, so the function of its tick issues them.
use Rattle.std.proofs.Common.{◌≡◌, ℕ, ◌+◌, Bool, true, false, length, refl, sym, ◌∙◌, subst, arith}
use Rattle.history.specs.Syntax.{Syntax}
use Rattle.typed_tree.specs.Nodes as node
use Rattle.wellformed.specs.Program.{IsProgram}
use Rattle.icode_ir.specs.Build.{Build}
use Rattle.tick_lower_spec.specs.Lower.{Addresses}
use Rattle.tick_lower_spec.specs.Specifications.{specification_ops}
use Rattle.generator_laws.specs.Pieces.{syntax_ops}
use Rattle.generator_spec.proofs.Lowered.{lowered}
use Rattle.generator_spec.specs.FittingLaws.{ticks_of, program_pieces}
use Rattle.generator_spec.proofs.Issued.{lowerings_issued}
use Rattle.generated_ops_proof.specs.Room.{HasRoom}
use Rattle.generated_ops_proof.specs.Answers.{leaves}
use Rattle.generated_ops_proof.specs.Laws.{OwnsLabels, IsMade, IsNamed, values, SpecificationsAreTaken}
use Rattle.generated_ops_proof.specs.Laws.{SpecificationsWithRoomAreIssued}
use Rattle.generated_ops_proof.proofs.Goes.{rise}
use Rattle.generated_ops_proof.proofs.Runs.{Built}
use Rattle.generated_ops_proof.proofs.Syntaxes.{keys_good, syntax_built}

rises : (v : Bool) (h : ℕ) → rise v h ≡ h + values v
rises true h = omega arith
rises false h = omega arith

pub lowering_built : (p : node.Program) (accepted : IsProgram p) (addresses : Addresses) (syntax : Syntax) (b : Build)
    → IsMade p accepted syntax → IsNamed syntax b → OwnsLabels b
    → HasRoom (specification_ops addresses (ticks_of p) syntax) b
    → Built (rise (leaves (ticks_of p) syntax)) (specification_ops addresses (ticks_of p) syntax) b
lowering_built p accepted addresses syntax b is named none room =
    let same : syntax_ops (program_pieces addresses p) syntax ≡ specification_ops addresses (ticks_of p) syntax =
    lowered addresses (ticks_of p) syntax in
    subst (λ ops. Built (rise (leaves (ticks_of p) syntax)) ops b) same
    (syntax_built p accepted addresses b.parameters syntax is.ticks is.answers
    (keys_good b.parameters syntax named.parameters named.keys) b refl none
    (subst (λ ops. HasRoom ops b) (sym same) room))

pub specifications_taken : SpecificationsAreTaken
specifications_taken p accepted addresses syntax b is named none room =
    let built = lowering_built p accepted addresses syntax b is named none room in record {
      taken = built.taken;
      operands = built.height ∙ rises (leaves (ticks_of p) syntax) (length b.operands);
      bodies = built.bodies;
    }

pub with_room_issued : SpecificationsWithRoomAreIssued
with_room_issued p accepted addresses text c shared syntax number top d b good words is stands memory of_it enters there
    named none room =
    lowerings_issued p accepted addresses text c shared syntax number top d b good words is.ticks stands memory of_it
    enters there (lowering_built p accepted addresses syntax b is named none room).taken
