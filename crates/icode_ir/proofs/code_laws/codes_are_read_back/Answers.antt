use Rattle.icode_ir.proofs.Inverse.{codes-are-read-back}
use Rattle.icode_ir.proofs.code_laws.codes_are_read_back.Goals as goal

pub returns : goal.returns
returns c = codes-are-read-back
