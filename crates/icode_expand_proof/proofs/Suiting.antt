-- What a builder and a choice of places give suits.
use Rattle.std.proofs.Common.{◌≡◌, ℕ, ◌+◌, ◌*◌, ◌≤◌, List, length, sym, subst, arith}
use Rattle.mips_encoder.specs.Addresses.{past}
use Rattle.icode_ops.specs.Flow.{op_at}
use Rattle.icode_ops.specs.Finished.{InRange}
use Rattle.icode_ops.specs.Places.{IsLegal}
use Rattle.icode_expand.proofs.Lengths.{past_is}
use Rattle.icode_expand.proofs.Most.{words_most}
use Rattle.icode_meaning.specs.State.{Function}
use Rattle.icode_expand_proof.specs.Standing.{code_of}
use Rattle.icode_expand_proof.specs.WordLaws.{LegalPlacesSuit}

-- the most words that a function has
pub code_ends : (f : Function) (places : List ℕ)
    → past f.address (code_of f places) ≤ f.address + 4 * (16 * length f.ops + 64)
code_ends f places =
    let is = code_of f places in
    let most = words_most f.ops places f.address f.charge f.object f.compiled in
    let behind = past_is f.address is in
    omega (arith, most, behind)

pub suit : LegalPlacesSuit
suit f registers places finished legal room whole small few even below =
    let n : registers ≡ length places = sym legal.one_each in
    let ends = code_ends f places in
    record {
      in_range = λ p. subst (λ k. InRange k (op_at f.ops p)) n (finished.in_range p);
      legal = subst (λ k. IsLegal f.ops k places) n legal;
      room = subst (λ k. 128 + 4 * k ≤ f.charge) n room;
      whole = whole;
      small = small;
      few = few;
      even = even;
      low = omega (arith, ends, below);
    }
