-- What code has read from a list of ops is the op that definitions see there.
use Rattle.std.proofs.Common.{ℕ, ◌≡◌, ◌<◌, List, length, get_or, sym}
use Rattle.std.proofs.lemmas.List.{get_or_read}
use Rattle.icode_ops.specs.declared.op.Op.{Op}
use Rattle.icode_ops.specs.declared.op.Op.TheVariants.{ReturnZero}
use Rattle.icode_ops.specs.Flow.{op_at}

pub op_at-read : (ops : List Op) (p : ℕ) (op : Op) → p < length ops → op ≡ get_or ops p op → op_at ops p ≡ op
op_at-read ops p op h e = sym (get_or_read ops p op h e ReturnZero)
