use Rattle.icode_ir.proofs.Inverse.{ops-are-served}
use Rattle.icode_ir.proofs.code_laws.ops_are_served.Goals as goal

pub returns : goal.returns
returns c = ops-are-served
