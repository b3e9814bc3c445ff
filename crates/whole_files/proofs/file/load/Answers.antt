-- What a load of a whole file gives, at each of its ends.
use Rattle.std.proofs.Common.{arith, length, refl}
use Rattle.std.proofs.lemmas.Bool.{lt-ltb, le-ltb}
use Rattle.whole_files.proofs.file.load.Goals as goal

pub returns-then-len-longest-clause-loaded : goal.returns-then-len-longest-clause-loaded
returns-then-len-longest-clause-loaded g c = (
  c.load.new.into.items,
  c.in-Ok.ensures.loaded,
  lt-ltb c.args.longest (length c.load.new.into.items) (omega arith),
)

pub returns-then-len-longest-clause-cause : goal.returns-then-len-longest-clause-cause
returns-then-len-longest-clause-cause g c = c.in-Ok.ensures.cause.ok

pub returns-in-Ok-clause-loaded : goal.returns-in-Ok-clause-loaded
returns-in-Ok-clause-loaded g c =
    (c.in-Ok.ensures.loaded, le-ltb c.args.longest (length c.load.new.into.items) (omega arith))

pub returns-in-Ok-clause-cause : goal.returns-in-Ok-clause-cause
returns-in-Ok-clause-cause g c = c.in-Ok.ensures.cause.ok

pub returns-in-Err-Failed-clause-loaded : goal.returns-in-Err-Failed-clause-loaded
returns-in-Err-Failed-clause-loaded g c = tt

pub returns-in-Err-Failed-clause-cause : goal.returns-in-Err-Failed-clause-cause
returns-in-Err-Failed-clause-cause g c =
    c.in-Err-Failed.ensures.cause.failed (rw c.in-Err-Failed.field-0-is refl)
