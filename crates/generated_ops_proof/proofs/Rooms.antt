-- What ops add to a builder is no more than room was asked for.
use Rattle.std.proofs.Common.{◌≡◌, ℕ, ◌+◌, ◌≤◌, List, [], ◌∷◌, ◌++◌, length, arith}
use Rattle.icode_ir.specs.declared.build_op.BuildOp.{BuildOp}
use Rattle.icode_ir.specs.Build.{Build}
use Rattle.generated_ops_proof.specs.Room.{HasRoom, more_ops, more_operands, more_bodies, more_variables, more_labels}
use Rattle.generated_ops_proof.specs.Room.{in_all}

-- a builder has at most this more than another
pub record Grown (os : List BuildOp) (b after : Build) : Type 0 where
  pub ops : length after.prelude + length after.ops ≤ length b.prelude + length b.ops + in_all more_ops os
  pub operands : length after.operands ≤ length b.operands + in_all more_operands os
  pub bodies : length after.bodies ≤ length b.bodies + in_all more_bodies os
  pub variables : after.variables ≤ b.variables + in_all more_variables os
  pub labels : after.labels ≤ b.labels + in_all more_labels os

pub in_both : (more : BuildOp → ℕ) (xs ys : List BuildOp) → in_all more (xs ++ ys) ≡ in_all more xs + in_all more ys
in_both more [] ys = omega arith
in_both more (x ∷ xs) ys = omega (arith, in_both more xs ys)

module _ (xs ys : List BuildOp) where
  pub room_front : (b : Build) → HasRoom (xs ++ ys) b → HasRoom xs b
  room_front b r = record {
    ops = omega (arith, r.ops, in_both more_ops xs ys);
    operands = omega (arith, r.operands, in_both more_operands xs ys);
    bodies = omega (arith, r.bodies, in_both more_bodies xs ys);
    variables = omega (arith, r.variables, in_both more_variables xs ys);
    labels = omega (arith, r.labels, in_both more_labels xs ys);
  }

  pub room_behind : (b after : Build) → HasRoom (xs ++ ys) b → Grown xs b after → HasRoom ys after
  room_behind b after r g = record {
    ops = omega (arith, r.ops, in_both more_ops xs ys, g.ops);
    operands = omega (arith, r.operands, in_both more_operands xs ys, g.operands);
    bodies = omega (arith, r.bodies, in_both more_bodies xs ys, g.bodies);
    variables = omega (arith, r.variables, in_both more_variables xs ys, g.variables);
    labels = omega (arith, r.labels, in_both more_labels xs ys, g.labels);
  }

  pub grown_both : (b mid after : Build) → Grown xs b mid → Grown ys mid after → Grown (xs ++ ys) b after
  grown_both b mid after g h = record {
    ops = omega (arith, in_both more_ops xs ys, g.ops, h.ops);
    operands = omega (arith, in_both more_operands xs ys, g.operands, h.operands);
    bodies = omega (arith, in_both more_bodies xs ys, g.bodies, h.bodies);
    variables = omega (arith, in_both more_variables xs ys, g.variables, h.variables);
    labels = omega (arith, in_both more_labels xs ys, g.labels, h.labels);
  }

pub grown_none : (b : Build) → Grown [] b b
grown_none b = record {
  ops = omega arith;
  operands = omega arith;
  bodies = omega arith;
  variables = omega arith;
  labels = omega arith;
}
