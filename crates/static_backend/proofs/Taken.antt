-- Ops that are all taken are not refused.
use Rattle.std.proofs.Common.{◌≡◌, List, [], ◌∷◌, Some, None, sym, ◌∙◌, inl, inr}
use Rattle.icode_ir.specs.declared.build_op.BuildOp.{BuildOp}
use Rattle.icode_ir.specs.declared.build_op.BuildFault.{BuildFault}
use Rattle.icode_ir.specs.Build.{Build}
use Rattle.icode_ir.specs.Rules.{effect}
use Rattle.icode_ir.specs.Runs.{AreTaken, IsRefused}

differ : (f : BuildFault) → Some f ≡ None → ⊥
differ f e = cc

pub not_refused : (os : List BuildOp) (b c : Build) (f : BuildFault) → AreTaken os b → IsRefused os b c f → ⊥
not_refused [] b c f taken refused = refused
not_refused (o ∷ os) b c f taken refused =
    elim refused [
      | inl h ↦ differ f (sym h.0 ∙ taken.0)
      | inr h ↦ not_refused os (effect o b) c f taken.1 h.1
    ]
