-- The code of a function that is compiled during a run: what a builder hands out that took the lowering of a
-- specification, and the return of its value. These are this project's own rules.
use Rattle.std.specs.Prelude.{◌≡◌, Bool, true, false, List, [], ◌∷◌, ◌++◌}
use Rattle.history.specs.Syntax.{Syntax}
use Rattle.icode_ops.specs.declared.op.Op.{Op}
use Rattle.icode_ir.specs.declared.build_op.BuildOp.{BuildOp}
use Rattle.icode_ir.specs.declared.build_op.BuildOp.TheVariants.{Return}
use Rattle.icode_ir.specs.Build.{Build, empty, finished}
use Rattle.icode_ir.specs.Runs.{run_ops, AreTaken}
use Rattle.icode_ir.specs.Sound.{Each}
use Rattle.meaning_state.specs.Bodies.{Body}
use Rattle.meaning_state.specs.Rows.{parameters_of}
use Rattle.typed_tree.specs.declared.expression.CaptureKind.{CaptureKind}
use Rattle.tick_lower_spec.specs.Captured.{HasTicks, leaves, HasAnswers}
use Rattle.tick_lower_spec.specs.Keys.{SetsKeys}
use Rattle.tick_lower_spec.specs.Lower.{Addresses}
use Rattle.tick_lower_spec.specs.Specifications.{specification_ops}

-- the return of a value, where there is one
abbrev pub return_ops : Bool → List BuildOp
return_ops true = Return ∷ []
return_ops false = []

module _ (addresses : Addresses) where
  -- what the builder takes, which is begun for the parameters that the specification names
  abbrev pub generated_ops : Syntax → List BuildOp
  generated_ops syntax =
      specification_ops addresses addresses.ticks syntax ++ return_ops (leaves addresses.ticks syntax)

  abbrev pub generated_build : Syntax → Build
  generated_build syntax = run_ops (generated_ops syntax) (empty (parameters_of syntax))

  abbrev pub generated_code : Syntax → List Op
  generated_code syntax = finished (generated_build syntax)

  -- A specification of which a function was compiled, where the ticks capture this: its ticks are there with captures
  -- of their kinds, a builder takes all of its ops and has no body left, and the builder's prelude sets the variables
  -- that it names.
  module _ (captured : List (List CaptureKind)) where
    pub record IsGenerated (syntax : Syntax) : Type 0 where
      pub kinds : HasTicks captured syntax
      pub answers : HasAnswers addresses.ticks captured syntax
      pub taken : AreTaken (generated_ops syntax) (empty (parameters_of syntax))
      pub no_bodies : (generated_build syntax).bodies ≡ []
      pub keys : SetsKeys syntax (generated_build syntax)

    abbrev pub AreGenerated : List Body → Type 0
    AreGenerated bodies = Each (λ (b : Body). IsGenerated b.syntax) bodies
