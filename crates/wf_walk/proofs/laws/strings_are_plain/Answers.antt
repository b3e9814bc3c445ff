use Rattle.wf_walk.proofs.Strings.{string_plain}
use Rattle.wf_walk.proofs.laws.strings_are_plain.Goals as goal

pub returns : goal.returns
returns c = string_plain
