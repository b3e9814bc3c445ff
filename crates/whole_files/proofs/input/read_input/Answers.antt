-- What reading the whole input gives, at each of its ends.
use Rattle.std.proofs.Common.{rules, arith, length}
use Rattle.std.proofs.lemmas.Bool.{lt-ltb, le-ltb}
use Rattle.whole_files.specs.Input.{longest_text}
use Rattle.whole_files.proofs.input.read_input.Goals as goal

pub returns-clause-read : goal.returns-clause-read
returns-clause-read g c = (
  c.loop-piece.bytes.items,
  c.loop-piece.invariant.read,
  lt-ltb longest_text (length c.loop-piece.bytes.items) (omega arith),
)

pub returns-clause-cause : goal.returns-clause-cause
returns-clause-cause g c = c.loop-piece.invariant.faults

pub returns-in-Err-clause-read : goal.returns-in-Err-clause-read
returns-in-Err-clause-read g c = (
  c.loop-piece.bytes.items,
  search rules,
  le-ltb longest_text (length c.loop-piece.bytes.items) (omega arith),
)

pub returns-in-Err-clause-cause : goal.returns-in-Err-clause-cause
returns-in-Err-clause-cause g c = search rules

pub returns-in-Ok-eq0-clause-read : goal.returns-in-Ok-eq0-clause-read
returns-in-Ok-eq0-clause-read g c = (
  search rules,
  search rules,
  le-ltb longest_text (length c.loop-piece.bytes.items) (omega arith),
)

pub returns-in-Ok-eq0-clause-cause : goal.returns-in-Ok-eq0-clause-cause
returns-in-Ok-eq0-clause-cause g c = search rules
