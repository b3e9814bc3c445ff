-- What is so where a rule isn't broken.
use Rattle.std.proofs.Common.{◌≡◌, ℕ, Bool, true, false, not, ◌&&◌, if◌then◌else◌, refl, Option, Some, None}
use Rattle.check_types.specs.Shapes.{is_void}
use Rattle.tick_tree.specs.declared.fault.FaultKind.{FaultKind}
use Rattle.tick_tree.specs.declared.fault.FaultKind.TheVariants as fault
use Rattle.tick_tree.specs.Faults.{Checked}
use Rattle.check_operands.specs.declared.operand.Value.{Value}
use Rattle.check_operands.specs.Operands.{by, unless_void}
use Rattle.wf_nodes.specs.Used.{Leaves, IsUsedValue, Unless}
use Rattle.wf_nodes.proofs.NodeValues.{left_of}

pub unless_by : {A : Type 0} (P : A → Type 0) (line : ℕ) (k : Option FaultKind) (x : A) → (k ≡ None → P x) →
    Unless P (by line k x)
unless_by P line None x h = h refl
unless_by P line (Some k) x h = tt

pub unless_if : {A : Type 0} (P : A → Type 0) (b : Bool) (r s : Checked A) → (b ≡ true → Unless P r) →
    (b ≡ false → Unless P s) → Unless P (if b then r else s)
unless_if P true r s h k = h refl
unless_if P false r s h k = k refl

-- ---- a fault that comes first

pub no_fault : (b : Bool) (f : FaultKind) (k : Option FaultKind) → (if b then Some f else k) ≡ None → b ≡ false
no_fault true f k h = cc
no_fault false f k h = refl

pub no_other : (b : Bool) (f : FaultKind) (k : Option FaultKind) → (if b then Some f else k) ≡ None → k ≡ None
no_other true f k h = cc
no_other false f k h = h

-- ---- a fault that comes last

pub is_so : (b : Bool) (f : FaultKind) (k : Option FaultKind) → (if b then k else Some f) ≡ None → b ≡ true
is_so true f k h = refl
is_so false f k h = cc

pub no_first : (b : Bool) (f : FaultKind) (k : Option FaultKind) → (if b then k else Some f) ≡ None → k ≡ None
no_first true f k h = h
no_first false f k h = cc

-- ---- a value that isn't void

pub not_void : (v : Value) (k : Option FaultKind) → unless_void v k ≡ None → is_void v.ctype ≡ false
not_void v k h = no_fault (is_void v.ctype) fault.VoidValue k h

pub value_left : (v : Value) (k : Option FaultKind) → IsUsedValue v → unless_void v k ≡ None → Leaves v.code
value_left v k u h = left_of v.ctype v.code u (not_void v k h)

-- ---- tests

pub but_not : (b c : Bool) → (b && not (b && c)) ≡ true → c ≡ false
but_not true true h = cc
but_not true false h = refl
but_not false c h = cc
