-- What an op defines and uses, and where control goes from it.
-- An op defines one register at most and uses two at most. Control goes on to the next op from all ops but a jump and
-- the two returns, so it goes on from the service that ends the program too. These are the project's own rules.
use Rattle.std.specs.Prelude.{ℕ, ◌+◌, ◌≡◌, ◌<◌, ◌==◌, ◌||◌, ◌⊎◌, Bool, true, false, List, Option, Some, None, length}
use Rattle.std.specs.Prelude.{slice_index_or}
use Rattle.icode_ops.specs.declared.op.Op.{Op}
use Rattle.icode_ops.specs.declared.op.Op.TheVariants.{Const, Move, Bin, CheckDivision, CheckZero, Un, FrameAddress}
use Rattle.icode_ops.specs.declared.op.Op.TheVariants.{Load, Store, Label, Jump, BranchZero, BranchNonzero, Argument}
use Rattle.icode_ops.specs.declared.op.Op.TheVariants.{GetParameter, CallNumber, Result, Return, ReturnZero, Sys, Run}
use Rattle.icode_ops.specs.declared.op.Op.TheVariants.{New, Put}

-- the register that an op defines
abbrev pub defined : Op → Option ℕ
defined (Const to word) = Some to
defined (Move to from) = Some to
defined (Bin kind to left right) = Some to
defined (Un kind to from) = Some to
defined (FrameAddress to offset) = Some to
defined (Load width to address) = Some to
defined (GetParameter to index) = Some to
defined (Result to) = Some to
defined (Sys kind to from) = Some to
defined (Run routine to from) = Some to
defined (New to address kind captures) = Some to
defined _ = None

-- the first register that an op uses
abbrev pub first_use : Op → Option ℕ
first_use (Move to from) = Some from
first_use (Bin kind to left right) = Some left
first_use (CheckDivision left right) = Some left
first_use (CheckZero divisor) = Some divisor
first_use (Un kind to from) = Some from
first_use (Load width to address) = Some address
first_use (Store width address value) = Some address
first_use (BranchZero test label) = Some test
first_use (BranchNonzero test label) = Some test
first_use (Argument index from) = Some from
first_use (CallNumber function count) = Some function
first_use (Return from) = Some from
first_use (Sys kind to from) = Some from
first_use (Run routine to from) = Some from
first_use (Put index from) = Some from
first_use _ = None

-- the second register that an op uses
abbrev pub second_use : Op → Option ℕ
second_use (Bin kind to left right) = Some right
second_use (CheckDivision left right) = Some right
second_use (Store width address value) = Some value
second_use _ = None

abbrev pub holds : ℕ → Option ℕ → Bool
holds v None = false
holds v (Some r) = v == r

-- whether an op defines the register v
abbrev pub defines : ℕ → Op → Bool
defines v op = holds v (defined op)

-- whether an op uses the register v
abbrev pub uses : ℕ → Op → Bool
uses v op = holds v (first_use op) || holds v (second_use op)

-- whether control may go on to the next op
abbrev pub falls : Op → Bool
falls (Jump label) = false
falls (Return from) = false
falls ReturnZero = false
falls _ = true

-- the label to which control may go
abbrev pub goes_to : Op → Option ℕ
goes_to (Jump label) = Some label
goes_to (BranchZero test label) = Some label
goes_to (BranchNonzero test label) = Some label
goes_to _ = None

-- the label that stands at an op
abbrev pub label_of : Op → Option ℕ
label_of (Label label) = Some label
label_of _ = None

-- op p of a list; past its end, a return that defines, uses and names nothing
abbrev pub op_at : List Op → ℕ → Op
op_at ops p = slice_index_or ops p ReturnZero

-- control may go from op p to op q
abbrev pub Follows : List Op → ℕ → ℕ → Type 0
Follows ops p q =
    (p < length ops) × (q < length ops) ×
    (((falls (op_at ops p) ≡ true) × (q ≡ p + 1)) ⊎
    ((l : ℕ) × (goes_to (op_at ops p) ≡ Some l) × (label_of (op_at ops q) ≡ Some l)))
