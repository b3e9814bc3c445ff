use Rattle.std.proofs.Common.{rules}
use Rattle.command_words.proofs.Digits.{always_read}
use Rattle.command_words.proofs.arguments.number_of.Goals as goal

pub returns-in-Err : goal.returns-in-Err
returns-in-Err c = absurd (always_read c.args.word.now c.in-Err.field-0 (search rules) c.in-Err.ensures.value.0)
