-- Every operator on two spots, where it has no trap. (Behind a division by 0 HI has 0, and the operator's remainder is
-- the dividend.)
use Rattle.std.proofs.Common.{◌≡◌, ℕ, ◌/◌, ◌%◌, Bool, true, false, ◌&&◌, ◌==◌, Some, None, Ok, Err}
use Rattle.std.proofs.Common.{refl, ap, arith, if◌then◌else◌}
use Rattle.word32.specs.Division.{quotient, remainder, div_s, div_u}
use Rattle.word32.specs.declared.division.DivFault.TheVariants.{Zero, Overflow}
use Rattle.mips_encoder.specs.declared.instruction.HiLo.TheVariants.{Hi, Lo}
use Rattle.mips_encoder.specs.declared.instruction.MultiplyDivideOp.TheVariants.{Mult, Div, Divu}
use Rattle.host_edge.specs.declared.ending.TrapKind.TheVariants.{DivideByZero}
use Rattle.mips_model.specs.State.{Code, Data}
use Rattle.mips_model.specs.Arithmetic.{quotients}
use Rattle.mips_model.specs.Laws.{at}
use Rattle.icode_ops.specs.declared.kind.BinKind.TheVariants as bin
use Rattle.meaning_state.specs.Operators.{bin_value, trap_of, signed_trap, zero_trap}
use Rattle.icode_templates.specs.Layout.{Spot}
use Rattle.icode_templates_proof.specs.Spots.{value}
use Rattle.icode_templates_proof.specs.Moves.{Writes, Computes}
use Rattle.icode_templates_proof.specs.Laws.{OperatorsAreApplied}
use Rattle.icode_templates_proof.proofs.Operators.{bin_range}
use Rattle.icode_templates_proof.proofs.Templates.{bin_writes}
use Rattle.icode_templates_proof.proofs.Products.{half_part, product_computes, product_low}

-- HI and LO behind a division that has no trap
signed_answers : (a b : ℕ) → signed_trap a b ≡ None → quotients (div_s a b) ≡ (remainder a b, quotient a b)
signed_answers a b = by (b == 0) ((a == 2147483648) && (b == 4294967295))
  where
    by : (x y : Bool)
        → trap_of (if x then Err Zero else (if y then Err Overflow else Ok (quotient a b, remainder a b))) ≡ None
        → quotients (if x then Err Zero else (if y then Err Overflow else Ok (quotient a b, remainder a b)))
        ≡ (remainder a b, quotient a b)
    by true y e = let n : ⊥ = cc in absurd n
    by false true e = let n : ⊥ = cc in absurd n
    by false false e = refl

unsigned_answers : (a b : ℕ) → zero_trap b ≡ None → quotients (div_u a b) ≡ (a % b, a / b)
unsigned_answers a b = by (b == 0)
  where
    by : (x : Bool) → (if x then Some DivideByZero else None) ≡ None
        → quotients (if x then Err Zero else Ok (a / b, a % b)) ≡ (a % b, a / b)
    by true e = let n : ⊥ = cc in absurd n
    by false e = refl

-- what was written is computed
pub computed : {w : Spot} {x l m : ℕ} {c c' : Code} {a b : ℕ} {d d' : Data} → Writes w x l m (at c' b 0 d') c a d
    → Computes w x l m (at c' b 0 d') c a d
computed r = record { after = r.after; recent = 0; few = omega arith; runs = r.runs; puts = r.puts }

pub bin_computes : OperatorsAreApplied
bin_computes bin.Multiply c a bytes d w v z f u uv uz bv bz none h =
    product_computes Mult Lo c a bytes d w v z (bin_value bin.Multiply (value d v) (value d z)) f u uv uz bv bz
    (product_low (value d v) (value d z)) (bin_range bin.Multiply (value d v) (value d z) bv bz) h
bin_computes bin.DivideSigned c a bytes d w v z f u uv uz bv bz none h =
    product_computes Div Lo c a bytes d w v z (bin_value bin.DivideSigned (value d v) (value d z)) f u uv uz bv bz
    (ap (half_part Lo) (signed_answers (value d v) (value d z) none))
    (bin_range bin.DivideSigned (value d v) (value d z) bv bz) h
bin_computes bin.DivideUnsigned c a bytes d w v z f u uv uz bv bz none h =
    product_computes Divu Lo c a bytes d w v z (bin_value bin.DivideUnsigned (value d v) (value d z)) f u uv uz bv bz
    (ap (half_part Lo) (unsigned_answers (value d v) (value d z) none))
    (bin_range bin.DivideUnsigned (value d v) (value d z) bv bz) h
bin_computes bin.RemainderSigned c a bytes d w v z f u uv uz bv bz none h =
    product_computes Div Hi c a bytes d w v z (bin_value bin.RemainderSigned (value d v) (value d z)) f u uv uz bv bz
    (ap (half_part Hi) (signed_answers (value d v) (value d z) none))
    (bin_range bin.RemainderSigned (value d v) (value d z) bv bz) h
bin_computes bin.RemainderUnsigned c a bytes d w v z f u uv uz bv bz none h =
    product_computes Divu Hi c a bytes d w v z (bin_value bin.RemainderUnsigned (value d v) (value d z)) f u uv uz bv
    bz (ap (half_part Hi) (unsigned_answers (value d v) (value d z) none))
    (bin_range bin.RemainderUnsigned (value d v) (value d z) bv bz) h
bin_computes kind c a bytes d w v z f u uv uz bv bz none h =
    computed (bin_writes kind tt c a bytes d w v z f u uv uz bv bz h)
