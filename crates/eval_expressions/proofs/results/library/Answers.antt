use Rattle.eval_state.specs.Run.{run_of}
use Rattle.eval_expressions.proofs.Library as library
use Rattle.eval_expressions.proofs.results.library.Goals as goal

pub returns-in_ok-put_byte-in-Putchar : goal.returns-in_ok-put_byte-in-Putchar
returns-in_ok-put_byte-in-Putchar c =
    library.putchar _ c.args.v _ (run_of c.args.m.now) (run_of c.put_byte.new.self) (run_of c.give.new.m)
    c.in-Putchar.is c.in_ok-put_byte-in-Putchar.ensures c.give.ensures

pub returns-in_ok-put_number-in-Putint : goal.returns-in_ok-put_number-in-Putint
returns-in_ok-put_number-in-Putint c =
    library.putint _ c.args.v _ (run_of c.args.m.now) (run_of c.put_number.new.self) (run_of c.give-in-Putint.new.m)
    c.in-Putint.is c.in_ok-put_number-in-Putint.ensures c.give-in-Putint.ensures

pub returns-in-Exit : goal.returns-in-Exit
returns-in-Exit c = library.exit _ c.args.v (run_of c.args.m.now) c.in-Exit.is

pub returns-in-Malloc : goal.returns-in-Malloc
returns-in-Malloc c =
    library.malloc_gives _ c.args.v c.malloc-at.result _ (run_of c.args.m.now) (run_of c.malloc-at.new.self)
    (run_of c.give-in-Malloc.new.m) c.in-Malloc.is c.malloc-at.ensures.answer c.malloc-at.ensures.state
    c.give-in-Malloc.ensures
