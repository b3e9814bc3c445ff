use Rattle.std.proofs.Common.{◌≡◌, arith}
use Rattle.std.proofs.lemmas.Grind.{common_steps}
use Rattle.host_edge.specs.declared.ending.MachineKind.TheVariants as kind
use Rattle.mips_encoder.specs.Decoded.{of_regimm}
use Rattle.mips_model.specs.Steps.{faulted}
use Rattle.mips_core.specs.Core.{at, does, state_of}
use Rattle.mips_core.proofs.Rows.{becomes}
use Rattle.mips_core.proofs.Dispatched.{by_register}
use Rattle.mips_core.proofs.rest.Rest.execute_regimm.Goals as goal

pub returns-in-0 : goal.returns-in-0
returns-in-0 g c = by_register c.args.self.now c.args.w c.in-0.is c.branch_on_sign.ensures

pub returns-in-1 : goal.returns-in-1
returns-in-1 g c = by_register c.args.self.now c.args.w c.in-1.is c.branch_on_sign-in-1.ensures

pub returns-in-16 : goal.returns-in-16
returns-in-16 g c = by_register c.args.self.now c.args.w c.in-16.is c.branch_on_sign_and_link.ensures

pub returns-in-17 : goal.returns-in-17
returns-in-17 g c = by_register c.args.self.now c.args.w c.in-17.is c.branch_on_sign_and_link-in-17.ensures

pub returns-in_default : goal.returns-in_default
returns-in_default g c =
    let s = state_of (at c.args.pc c.args.self.now) in
    let none : faulted kind.Reserved s ≡ does (of_regimm c.args.w) s = grind (arith, common_steps) in
    becomes none (c.fault.ensures.becomes _)
