use Rattle.std.proofs.Common.{ap, ◌∙◌}
use Rattle.asm_words.specs.Operations as spec
use Rattle.asm_words.proofs.Found.{found}
use Rattle.asm_words.proofs.operation.Operation.name.Goals as goal

pub returns-clause-found : goal.returns-clause-found
returns-clause-found c = ap spec.operation_of c.spelling.ensures ∙ found c.args.self
