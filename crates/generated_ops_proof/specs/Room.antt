-- Room in a builder for a list of ops: what each op adds at most to the five counts that a builder tests. These are
-- this project's own rules.
use Rattle.std.specs.Prelude.{ℕ, ◌+◌, ◌≤◌, List, [], ◌∷◌, length}
use Rattle.limits.specs.declared.ops.TheConstants.{OP_LIMIT}
use Rattle.icode_ir.specs.Build.{Build}
use Rattle.icode_ir.specs.declared.build_op.BuildOp.{BuildOp}
use Rattle.icode_ir.specs.declared.build_op.BuildOp.TheVariants.{Const, Bin, Enter, Leave, GetVariable, Drop, Pick}
use Rattle.icode_ir.specs.declared.build_op.BuildOp.TheVariants.{Nip, Call, CallNumber, GetSpec, SetSpec}
use Rattle.icode_ir.specs.declared.build_op.BuildOp.TheVariants.{FrameAddress, Load, New, Parameter, Run, Sys, Un}

-- ops, with those of the prelude: a division is checked before, a call passes each argument, and a key that is
-- mentioned first gets its register in the prelude
abbrev pub more_ops : BuildOp → ℕ
more_ops (Bin kind) = 2
more_ops (Enter n m) = 0
more_ops Leave = 0
more_ops Drop = 0
more_ops (Pick i) = 0
more_ops Nip = 0
more_ops (Call address n) = n + 2
more_ops (CallNumber n) = n + 2
more_ops (GetSpec key) = 2
more_ops (SetSpec key) = 2
more_ops _ = 1

-- operands
abbrev pub more_operands : BuildOp → ℕ
more_operands (Const word) = 1
more_operands (GetVariable i) = 1
more_operands (Pick i) = 1
more_operands (Call address n) = 1
more_operands (GetSpec key) = 1
more_operands (FrameAddress offset) = 1
more_operands (New address kind captures) = 1
more_operands (Parameter k) = 1
more_operands _ = 0

-- bodies that are entered, their variables and their labels
abbrev pub more_bodies : BuildOp → ℕ
more_bodies (Enter n m) = 1
more_bodies _ = 0

abbrev pub more_variables : BuildOp → ℕ
more_variables (Enter n m) = n
more_variables _ = 0

abbrev pub more_labels : BuildOp → ℕ
more_labels (Enter n m) = m
more_labels _ = 0

-- the virtual registers: a key that is mentioned first gets one, and a body's variables have theirs
abbrev pub more_registers : BuildOp → ℕ
more_registers (Const word) = 1
more_registers (Bin kind) = 1
more_registers (Un kind) = 1
more_registers (Enter n m) = n
more_registers (GetVariable i) = 1
more_registers (Load width) = 1
more_registers (Call address n) = 1
more_registers (CallNumber n) = 1
more_registers (GetSpec key) = 2
more_registers (SetSpec key) = 1
more_registers (Sys kind) = 1
more_registers (Run routine) = 1
more_registers (FrameAddress offset) = 1
more_registers (New address kind captures) = 1
more_registers (Parameter k) = 1
more_registers _ = 0

-- of a whole list
abbrev pub in_all : (BuildOp → ℕ) → List BuildOp → ℕ
in_all more [] = 0
in_all more (o ∷ os) = more o + in_all more os

-- no count comes over its limit by these ops
pub record HasRoom (os : List BuildOp) (b : Build) : Type 0 where
  pub ops : length b.prelude + length b.ops + in_all more_ops os ≤ OP_LIMIT
  pub operands : length b.operands + in_all more_operands os ≤ OP_LIMIT
  pub bodies : length b.bodies + in_all more_bodies os ≤ OP_LIMIT
  pub variables : b.variables + in_all more_variables os ≤ OP_LIMIT
  pub labels : b.labels + in_all more_labels os ≤ OP_LIMIT
