-- The routines that make specifications have words, and each fits into its block of 64.
use Rattle.std.proofs.Common.{◌≡◌, ℕ, ◌<◌, ◌≤◌, Bool, true, false, ◌&&◌, not, List, [], ◌∷◌, length, refl, arith}
use Rattle.std.proofs.Common.{nat_lt, nat_eq}
use Rattle.std.proofs.lemmas.Bool.{and_parts}
use Rattle.std.proofs.lemmas.Bool.Decides.{nat_tests}
use Rattle.mips_encoder.specs.Table.{Fits}
use Rattle.mips_encoder.specs.declared.instruction.Instr.{Instr}
use Rattle.mips_encoder.specs.declared.instruction.Instr.TheVariants.{Arithmetic, Shift, JumpRegister, Break}
use Rattle.mips_encoder.specs.declared.instruction.Instr.TheVariants.{BranchOnEquality, ImmediateArithmetic}
use Rattle.mips_encoder.specs.declared.instruction.Instr.TheVariants.{LoadUpperImmediate, Memory, ShiftVariable}
use Rattle.mips_encoder.specs.declared.instruction.Instr.TheVariants.{JumpAndLinkRegister, Syscall, MoveFrom, MoveTo}
use Rattle.mips_encoder.specs.declared.instruction.Instr.TheVariants.{MultiplyDivide, BranchOnSign}
use Rattle.mips_encoder.specs.declared.instruction.Instr.TheVariants.{BranchOnSignAndLink, Jump, BranchOnZero}
use Rattle.mips_model.proofs.Loaded.{AllFit}
use Rattle.icode_templates_proof.specs.Routines.{new_code, local_code, parameter_code, begin_code, check_code, Named}
use Rattle.icode_templates_proof.specs.Routines.{AnExpression, AStatement, AVariable}

-- the forms that the routines use, with operands that fit
abbrev fitting : Instr → Bool
fitting (Arithmetic op rd rs rt) = nat_lt rd 32 && (nat_lt rs 32 && nat_lt rt 32)
fitting (Shift op rd rt bits) = nat_lt rd 32 && (nat_lt rt 32 && nat_lt bits 32)
fitting (JumpRegister rs) = nat_lt rs 32
fitting (Break code) = nat_lt code 1048576
fitting (BranchOnEquality op rs rt offset) = nat_lt rs 32 && (nat_lt rt 32 && nat_lt offset 65536)
fitting (ImmediateArithmetic op rt rs n) = nat_lt rt 32 && (nat_lt rs 32 && nat_lt n 65536)
fitting (LoadUpperImmediate rt n) = nat_lt rt 32 && nat_lt n 65536
fitting (Memory op rt offset rs) = nat_lt rt 32 && (nat_lt offset 65536 && nat_lt rs 32)
fitting (JumpAndLinkRegister p) = nat_lt p.rd 32 && (nat_lt p.rs 32 && not (nat_eq p.rd p.rs))
fitting Syscall = true
fitting i = false

abbrev all_fitting : List Instr → Bool
all_fitting [] = true
all_fitting (i ∷ is) = fitting i && all_fitting is

below : (x n : ℕ) → nat_lt x n ≡ true → x < n
below x n e = grind (arith, nat_tests, e)

three : (a b c m n o : ℕ) → (nat_lt a m && (nat_lt b n && nat_lt c o)) ≡ true → (a < m) × (b < n) × (c < o)
three a b c m n o e =
    let first = and_parts (nat_lt a m) (nat_lt b n && nat_lt c o) e in
    let rest = and_parts (nat_lt b n) (nat_lt c o) first.1 in
    (below a m first.0, below b n rest.0, below c o rest.1)

fits : (i : Instr) → fitting i ≡ true → Fits i
fits (Arithmetic op rd rs rt) e = three rd rs rt 32 32 32 e
fits (Shift op rd rt bits) e = three rd rt bits 32 32 32 e
fits (JumpRegister rs) e = below rs 32 e
fits (Break code) e = below code 1048576 e
fits (BranchOnEquality op rs rt offset) e = three rs rt offset 32 32 65536 e
fits (ImmediateArithmetic op rt rs n) e = three rt rs n 32 32 65536 e
fits (LoadUpperImmediate rt n) e =
    let x = and_parts (nat_lt rt 32) (nat_lt n 65536) e in (below rt 32 x.0, below n 65536 x.1)
fits (Memory op rt offset rs) e = three rt offset rs 32 65536 32 e
fits (ShiftVariable op rd rt rs) e = let x : ⊥ = cc in absurd x
fits (JumpAndLinkRegister p) e =
    let first = and_parts (nat_lt p.rd 32) (nat_lt p.rs 32 && not (nat_eq p.rd p.rs)) e in
    let rest = and_parts (nat_lt p.rs 32) (not (nat_eq p.rd p.rs)) first.1 in
    (below p.rd 32 first.0, below p.rs 32 rest.0, λ same. grind (arith, nat_tests, rest.1, same))
fits (MoveFrom half rd) e = let x : ⊥ = cc in absurd x
fits (MoveTo half rs) e = let x : ⊥ = cc in absurd x
fits (MultiplyDivide op rs rt) e = let x : ⊥ = cc in absurd x
fits (BranchOnSign sign rs offset) e = let x : ⊥ = cc in absurd x
fits (BranchOnSignAndLink sign rs offset) e = let x : ⊥ = cc in absurd x
fits (Jump op word) e = let x : ⊥ = cc in absurd x
fits (BranchOnZero op rs offset) e = let x : ⊥ = cc in absurd x
fits Syscall e = tt

pub all_fit : (is : List Instr) → all_fitting is ≡ true → AllFit is
all_fit [] e = tt
all_fit (i ∷ is) e = let x = and_parts (fitting i) (all_fitting is) e in (fits i x.0, all_fit is x.1)

pub new_fits : AllFit new_code × (length new_code ≤ 64)
new_fits = (all_fit new_code refl, omega arith)

pub local_fits : AllFit local_code × (length local_code ≤ 64)
local_fits = (all_fit local_code refl, omega arith)

pub parameter_fits : AllFit parameter_code × (length parameter_code ≤ 64)
parameter_fits = (all_fit parameter_code refl, omega arith)

pub begin_fits : AllFit begin_code × (length begin_code ≤ 64)
begin_fits = (all_fit begin_code refl, omega arith)

pub check_fits : (named : Named) → AllFit (check_code named) × (length (check_code named) ≤ 64)
check_fits AnExpression = (all_fit (check_code AnExpression) refl, omega arith)
check_fits AStatement = (all_fit (check_code AStatement) refl, omega arith)
check_fits AVariable = (all_fit (check_code AVariable) refl, omega arith)
