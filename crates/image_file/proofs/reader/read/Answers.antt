use Rattle.std.proofs.Common.{◌<◌, ℕ, arith, Fits, w8}
use Rattle.std.specs.Prelude.{slice_index}
use Rattle.image_file.proofs.Inverse.{answer-spelling, answer-accepts}
use Rattle.image_file.proofs.reader.read.Goals as goal

pub returns-clause-spelling : goal.returns-clause-spelling
returns-clause-spelling c =
    let small : (k : ℕ) → slice_index c.args.bytes.now k < 256
    = λ k. (let h : Fits w8 (slice_index c.args.bytes.now k) = c.type_inv.bytes k in omega arith) in
    answer-spelling c.args.bytes.now c.parse.result small c.parse.ensures

pub returns-clause-accepts : goal.returns-clause-accepts
returns-clause-accepts c = answer-accepts c.args.bytes.now c.parse.result c.parse.ensures
