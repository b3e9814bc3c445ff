-- What an op does to the operand stack of a body, where the builder is behind it, and how many ops it issues.
use Rattle.std.proofs.Common.{◌≡◌, ℕ, zero, suc, ◌+◌, ◌≤◌, List, [], ◌∷◌, ◌++◌, length}
use Rattle.std.proofs.Common.{refl, sym, ap, ◌∙◌, subst, arith, ◌-◌}
use Rattle.icode_ir.specs.declared.build_op.BuildOp.{BuildOp}
use Rattle.icode_ir.specs.declared.build_op.BuildOp.TheVariants.{Const, Bin, Un, GetVariable, SetVariable, Drop, Pick}
use Rattle.icode_ir.specs.declared.build_op.BuildOp.TheVariants.{Label, Jump, BranchZero, BranchNonzero, Return}
use Rattle.icode_ir.specs.declared.build_op.BuildOp.TheVariants.{ReturnZero, Sys}
use Rattle.tick_lower_proof.proofs.Builder.{View, below, Check, NoCheck, SignedCheck, ZeroCheck, check_of, past_check}
use Rattle.tick_lower_proof.proofs.Builder.{after_op, dropped}
use Rattle.tick_lower_proof.proofs.Takes.{Takes}
use Rattle.icode_ir.specs.declared.build_op.BuildOp.TheVariants.{Nip, Load, Store, Call, CallNumber, Run, FrameAddress}
use Rattle.icode_ir.specs.declared.build_op.BuildOp.TheVariants.{Clear, Parameter, New, Put}

abbrev pub less : ℕ → ℕ
less zero = zero
less (suc h) = h

-- the operands behind an op
abbrev pub height : BuildOp → ℕ → ℕ
height (Const word) h = suc h
height (Bin kind) h = suc (less (less h))
height (Un kind) h = suc (less h)
height (GetVariable i) h = suc h
height Drop h = less h
height (Pick i) h = suc h
height (BranchZero i) h = less h
height (BranchNonzero i) h = less h
height Return h = less h
height (Sys kind) h = suc (less h)
height Nip h = suc (less (less h))
height (Load width) h = suc (less h)
height (Store width) h = suc (less (less h))
height (Call address k) h = suc (h - k)
height (CallNumber k) h = suc (h - suc k)
height (Run routine) h = suc (less h)
height (FrameAddress offset) h = suc h
height (Clear offset words) h = h
height (Parameter k) h = suc h
height (New address kind captures) h = suc h
height (Put i) h = less h
height _ h = h

-- ops of a body of n variables and m labels, with h operands before and h' behind
abbrev pub DeepTo : (n m : ℕ) → List BuildOp → (h h' : ℕ) → Type 0
DeepTo n m [] h h' = h ≡ h'
DeepTo n m (o ∷ os) h h' = Takes n m o h × DeepTo n m os (height o h) h'

pub deep_append : (n m : ℕ) (xs ys : List BuildOp) (h h1 h2 : ℕ) → DeepTo n m xs h h1 → DeepTo n m ys h1 h2 →
    DeepTo n m (xs ++ ys) h h2
deep_append n m [] ys h h1 h2 p q = subst (λ z. DeepTo n m ys z h2) (sym p) q
deep_append n m (o ∷ xs) ys h h1 h2 p q = (p.0, deep_append n m xs ys (height o h) h1 h2 p.1 q)

-- The ops that are issued, at most: a copy of an operand is counted too, so that there are no more operands than ops.
abbrev pub checks_by : Check → ℕ
checks_by NoCheck = 0
checks_by SignedCheck = 1
checks_by ZeroCheck = 1

abbrev pub cost : BuildOp → ℕ
cost (Const word) = 1
cost (Bin kind) = checks_by (check_of kind) + 1
cost (Un kind) = 1
cost (GetVariable i) = 1
cost (SetVariable i) = 1
cost (Pick i) = 1
cost (Label i) = 1
cost (Jump i) = 1
cost (BranchZero i) = 1
cost (BranchNonzero i) = 1
cost Return = 1
cost ReturnZero = 1
cost (Sys kind) = 1
cost Nip = 0
cost (Load width) = 1
cost (Store width) = 1
cost (Call address k) = k + 2
cost (CallNumber k) = k + 2
cost (Run routine) = 1
cost (FrameAddress offset) = 1
cost (Clear offset words) = 1
cost (Parameter k) = 1
cost (New address kind captures) = 1
cost (Put i) = 1
cost _ = 0

abbrev pub total : List BuildOp → ℕ
total [] = 0
total (o ∷ os) = cost o + total os

pub total_append : (xs ys : List BuildOp) → total (xs ++ ys) ≡ total xs + total ys
total_append [] ys = omega arith
total_append (o ∷ xs) ys = omega (arith, total_append xs ys)

pub few_checks : (c : Check) → checks_by c ≤ 1
few_checks NoCheck = omega arith
few_checks SignedCheck = omega arith
few_checks ZeroCheck = omega arith

past_is : (c : Check) (p : ℕ) → past_check c p ≡ p + checks_by c
past_is NoCheck p = omega arith
past_is SignedCheck p = omega arith
past_is ZeroCheck p = omega arith

pub length_dropped : (k : ℕ) (xs : List ℕ) → length (dropped k xs) ≡ length xs - k
length_dropped zero xs = omega arith
length_dropped (suc k) [] = omega (arith, length_dropped k [])
length_dropped (suc k) (x ∷ xs) = omega (arith, length_dropped k xs)

less_dropped : (k : ℕ) (xs : List ℕ) → less (length (dropped k xs)) ≡ length xs - suc k
less_dropped k xs = ap less (length_dropped k xs) ∙ lesser (length xs - k) (length xs) refl
  where
    lesser : (d n : ℕ) → d ≡ n - k → less d ≡ n - suc k
    lesser zero n e = omega (arith, e)
    lesser (suc d) n e = omega (arith, e)

-- where the builder is behind an op
pub place_is : (n m : ℕ) (o : BuildOp) (h : ℕ) (v : View) → Takes n m o h → (after_op o v).place ≤ v.place + cost o
place_is n m (Const word) h v ok = omega arith
place_is n m (Bin kind) h v ok = omega (arith, past_is (check_of kind) v.place)
place_is n m (Un kind) h v ok = omega arith
place_is n m (GetVariable i) h v ok = omega arith
place_is n m (SetVariable i) h v ok = omega arith
place_is n m Drop h v ok = omega arith
place_is n m (Pick i) h v ok = omega arith
place_is n m (Label i) h v ok = omega arith
place_is n m (Jump i) h v ok = omega arith
place_is n m (BranchZero i) h v ok = omega arith
place_is n m (BranchNonzero i) h v ok = omega arith
place_is n m Return h v ok = omega arith
place_is n m ReturnZero h v ok = omega arith
place_is n m (Sys kind) h v ok = omega arith
place_is n m Nip h v ok = omega arith
place_is n m (Load width) h v ok = omega arith
place_is n m (Store width) h v ok = omega arith
place_is n m (Call address k) h v ok = omega arith
place_is n m (CallNumber k) h v ok = omega arith
place_is n m (Run routine) h v ok = omega arith
place_is n m (FrameAddress offset) h v ok = omega arith
place_is n m (Clear offset words) h v ok = omega arith
place_is n m (Parameter k) h v ok = omega arith
place_is n m (New address kind captures) h v ok = omega arith
place_is n m (Put i) h v ok = omega arith
place_is n m _ h v ok = absurd ok

length_below : (xs : List ℕ) → length (below xs) ≡ less (length xs)
length_below [] = refl
length_below (x ∷ xs) = refl

pub height_of : (n m : ℕ) (o : BuildOp) (h : ℕ) (v : View) → Takes n m o h →
    length (after_op o v).operands ≡ height o (length v.operands)
height_of n m (Const word) h v ok = refl
height_of n m (Bin kind) h v ok = ap suc (length_below (below v.operands) ∙ ap less (length_below v.operands))
height_of n m (Un kind) h v ok = ap suc (length_below v.operands)
height_of n m (GetVariable i) h v ok = refl
height_of n m (SetVariable i) h v ok = refl
height_of n m Drop h v ok = length_below v.operands
height_of n m (Pick i) h v ok = refl
height_of n m (Label i) h v ok = refl
height_of n m (Jump i) h v ok = refl
height_of n m (BranchZero i) h v ok = length_below v.operands
height_of n m (BranchNonzero i) h v ok = length_below v.operands
height_of n m Return h v ok = length_below v.operands
height_of n m ReturnZero h v ok = refl
height_of n m (Sys kind) h v ok = ap suc (length_below v.operands)
height_of n m Nip h v ok = ap suc (length_below (below v.operands) ∙ ap less (length_below v.operands))
height_of n m (Load width) h v ok = ap suc (length_below v.operands)
height_of n m (Store width) h v ok = ap suc (length_below (below v.operands) ∙ ap less (length_below v.operands))
height_of n m (Call address k) h v ok = ap suc (length_dropped k v.operands)
height_of n m (CallNumber k) h v ok = ap suc (length_below (dropped k v.operands) ∙ less_dropped k v.operands)
height_of n m (Run routine) h v ok = ap suc (length_below v.operands)
height_of n m (FrameAddress offset) h v ok = refl
height_of n m (Clear offset words) h v ok = refl
height_of n m (Parameter k) h v ok = refl
height_of n m (New address kind captures) h v ok = refl
height_of n m (Put i) h v ok = length_below v.operands
height_of n m _ h v ok = absurd ok

less_le : (h : ℕ) → less h ≤ h
less_le zero = omega arith
less_le (suc h) = omega arith

less_two : (h : ℕ) → 2 ≤ h → suc (less (less h)) ≤ h
less_two zero le = omega (arith, le)
less_two (suc zero) le = omega arith
less_two (suc (suc h)) le = omega arith

-- no more operands than ops
pub still_tall : (n m : ℕ) (o : BuildOp) (h p : ℕ) → Takes n m o h → h ≤ p → height o h ≤ p + cost o
still_tall n m (Const word) h p ok le = omega arith
still_tall n m (Bin kind) h p ok le = omega (arith, less_le (less h), less_le h)
still_tall n m (Un kind) h p ok le = omega (arith, less_le h)
still_tall n m (GetVariable i) h p ok le = omega arith
still_tall n m (SetVariable i) h p ok le = omega arith
still_tall n m Drop h p ok le = omega (arith, less_le h)
still_tall n m (Pick i) h p ok le = omega arith
still_tall n m (Label i) h p ok le = omega arith
still_tall n m (Jump i) h p ok le = omega arith
still_tall n m (BranchZero i) h p ok le = omega (arith, less_le h)
still_tall n m (BranchNonzero i) h p ok le = omega (arith, less_le h)
still_tall n m Return h p ok le = omega (arith, less_le h)
still_tall n m ReturnZero h p ok le = omega arith
still_tall n m (Sys kind) h p ok le = omega (arith, less_le h)
still_tall n m Nip h p ok le = omega (arith, less_two h ok)
still_tall n m (Load width) h p ok le = omega (arith, less_le h)
still_tall n m (Store width) h p ok le = omega (arith, less_le (less h), less_le h, ok)
still_tall n m (Call address k) h p ok le = omega arith
still_tall n m (CallNumber k) h p ok le = omega arith
still_tall n m (Run routine) h p ok le = omega (arith, less_le h)
still_tall n m (FrameAddress offset) h p ok le = omega arith
still_tall n m (Clear offset words) h p ok le = omega arith
still_tall n m (Parameter k) h p ok le = omega arith
still_tall n m (New address kind captures) h p ok le = omega arith
still_tall n m (Put i) h p ok le = omega (arith, less_le h)
still_tall n m _ h p ok le = absurd ok

pub bodies_same : (n m : ℕ) (o : BuildOp) (h : ℕ) (v : View) → Takes n m o h → (after_op o v).bodies ≡ v.bodies
bodies_same n m (Const word) h v ok = refl
bodies_same n m (Bin kind) h v ok = refl
bodies_same n m (Un kind) h v ok = refl
bodies_same n m (GetVariable i) h v ok = refl
bodies_same n m (SetVariable i) h v ok = refl
bodies_same n m Drop h v ok = refl
bodies_same n m (Pick i) h v ok = refl
bodies_same n m (Label i) h v ok = refl
bodies_same n m (Jump i) h v ok = refl
bodies_same n m (BranchZero i) h v ok = refl
bodies_same n m (BranchNonzero i) h v ok = refl
bodies_same n m Return h v ok = refl
bodies_same n m ReturnZero h v ok = refl
bodies_same n m (Sys kind) h v ok = refl
bodies_same n m Nip h v ok = refl
bodies_same n m (Load width) h v ok = refl
bodies_same n m (Store width) h v ok = refl
bodies_same n m (Call address k) h v ok = refl
bodies_same n m (CallNumber k) h v ok = refl
bodies_same n m (Run routine) h v ok = refl
bodies_same n m (FrameAddress offset) h v ok = refl
bodies_same n m (Clear offset words) h v ok = refl
bodies_same n m (Parameter k) h v ok = refl
bodies_same n m (New address kind captures) h v ok = refl
bodies_same n m (Put i) h v ok = refl
bodies_same n m _ h v ok = absurd ok
