use Rattle.std.proofs.Common.{◌≡◌, drop}
use Rattle.std.specs.List.{list_all}
use Rattle.asm_words.specs.Names as spec
use Rattle.asm_words.proofs.name.all_continue.Given as goal

abbrev pub invariant-loop-b : goal.invariant-loop-b
invariant-loop-b l = list_all spec.continues_name (drop l.b-index l.word) ≡ list_all spec.continues_name l.word
