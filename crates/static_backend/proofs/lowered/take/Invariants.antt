use Rattle.std.proofs.Common.{◌≡◌, drop, Result}
use Rattle.icode_ir.specs.declared.build_op.BuildFault.{BuildFault}
use Rattle.icode_ir.specs.declared.builder.Phase.TheVariants.{Begun}
use Rattle.icode_ir.specs.Build.{Build}
use Rattle.icode_ir.specs.Runs.{EmitsAll}
use Rattle.tick_lower_spec.specs.TickPieces.{pieces_with}
use Rattle.tick_lower_spec.specs.Lower.{no_holes}
use Rattle.static_backend.proofs.lowered.take.Given as goal

abbrev pub invariant-loop-piece : goal.invariant-loop-piece
invariant-loop-piece l = record {
  phase : l.builder.phase ≡ Begun;
  rest : (new : Build) (r : Result (Unit {0}) BuildFault) →
      EmitsAll (pieces_with no_holes (drop l.piece-index l.pieces)) l.builder.build new r
      → EmitsAll (pieces_with no_holes l.pieces) l.initial.builder.build new r;
}
