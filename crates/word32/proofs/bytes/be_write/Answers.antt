use Rattle.std.proofs.Common.{arith, take, drop, ◌-◌, ◌+◌}
use Rattle.std.proofs.lemmas.List.{length-take}
use Rattle.word32.proofs.Written.{written_at}
use Rattle.word32.proofs.bytes.be_write.Goals as goal

pub returns-clause-written : goal.returns-clause-written
returns-clause-written c =
    let n = c.args.at + 4 - c.args.at in
    written_at c.args.at n c.args.w c.args.bytes.now _ (take n (drop c.args.at c.args.bytes.now))
    (omega (arith, c.requires)) (omega arith)
    (omega (arith, c.ranges.w.fits)) (omega (arith, length-take n (drop c.args.at c.args.bytes.now)))
    c.write_u32.ensures
