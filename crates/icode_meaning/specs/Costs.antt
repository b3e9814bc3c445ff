-- What each op costs in instructions, the least and the most: the bounds of its template, where each register that it
-- names stands in a far slot. A call pays for the prologue of the function that it enters, and a return for the
-- epilogue, and for the exit behind `main`. Nothing here says how the templates look; that they keep to these bounds
-- is proved of them. A label costs nothing.
use Rattle.std.specs.Prelude.{ℕ, ◌+◌, ◌*◌}
use Rattle.limits.specs.declared.cost.TheConstants.{UNIT_INSTRUCTIONS}
use Rattle.icode_ops.specs.declared.op.Op.{Op}
use Rattle.icode_ops.specs.declared.op.Op.TheVariants.{Const, Move, Bin, CheckDivision, CheckZero, Un, FrameAddress}
use Rattle.icode_ops.specs.declared.op.Op.TheVariants.{Load, Store, Clear, Label, Jump, BranchZero, BranchNonzero}
use Rattle.icode_ops.specs.declared.op.Op.TheVariants.{Argument, GetParameter, Call, CallNumber, Result, Return}
use Rattle.icode_ops.specs.declared.op.Op.TheVariants.{ReturnZero, Sys, Run, New, Put}

-- An operand from a register takes 1 instruction, and so does a result. An op that traps, or ends the run, pays too, so
-- the least of a check, an access, a call or a service is that of its shortest way to its trap or end.
abbrev pub least_of : Op → ℕ
least_of (Const to word) = 3
least_of (Move to from) = 2
least_of (Bin kind to left right) = 4
least_of (CheckDivision left right) = 5
least_of (CheckZero divisor) = 3
least_of (Un kind to from) = 3
least_of (FrameAddress to offset) = 4
least_of (Load width to address) = 6
least_of (Store width address value) = 7
least_of (Clear offset words) = 6
least_of (Label label) = 0
least_of (Jump label) = 2
least_of (BranchZero test label) = 3
least_of (BranchNonzero test label) = 3
least_of (Argument index from) = 2
least_of (GetParameter to index) = 3
least_of (Call address) = 10
least_of (CallNumber function count) = 5
least_of (Result to) = 2
least_of (Return from) = 10
least_of ReturnZero = 9
least_of (Sys kind to from) = 4
least_of (Run routine to from) = 8
least_of (New to address kind captures) = 11
least_of (Put index from) = 5

-- an operand from a far slot takes 4 instructions, two take 7, and a result 3
abbrev pub most_of : Op → ℕ
most_of (Const to word) = 5
most_of (Move to from) = 7
most_of (Bin kind to left right) = 12
most_of (CheckDivision left right) = 16
most_of (CheckZero divisor) = 7
most_of (Un kind to from) = 9
most_of (FrameAddress to offset) = 6
most_of (Load width to address) = 14
most_of (Store width address value) = 13
most_of (Clear offset words) = 6
most_of (Label label) = 0
most_of (Jump label) = 2
most_of (BranchZero test label) = 8
most_of (BranchNonzero test label) = 8
most_of (Argument index from) = 5
most_of (GetParameter to index) = 7
most_of (Call address) = 36
most_of (CallNumber function count) = 52
most_of (Result to) = 4
most_of (Return from) = 36
most_of ReturnZero = 32
most_of (Sys kind to from) = 11
-- a routine has 64 instructions at most; one that takes longer is paid for by steps of its own
most_of (Run routine to from) = 75
most_of (New to address kind captures) = 75
most_of (Put index from) = 8

-- a word that a Clear sets to 0 is a step of its own: the four instructions of its loop
abbrev pub word_cost : ℕ
word_cost = 4

-- a node that is compiled is a step of its own, which takes what a unit of work may take; what is left of the routine
-- is paid by its op
abbrev pub node_least : ℕ
node_least = 1

abbrev pub node_most : ℕ
node_most = UNIT_INSTRUCTIONS
