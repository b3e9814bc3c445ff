use Rattle.std.proofs.Common.{◌<◌, ℕ, arith, Fits, w8}
use Rattle.std.specs.Prelude.{slice_index}
use Rattle.accepted_programs.proofs.Statics.{all_bytes}
use Rattle.accepted_programs.proofs.program.read_bytes.Goals as goal

pub returns : goal.returns
returns c =
    let small : (k : ℕ) → slice_index c.args.image.now k < 256
    = λ k. (let h : Fits w8 (slice_index c.args.image.now k) = c.type_inv.image k in omega arith) in
    all_bytes c.args.image.now small
