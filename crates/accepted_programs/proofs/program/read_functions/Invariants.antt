use Rattle.std.proofs.Common.{◌≡◌, drop}
use Rattle.accepted_programs.specs.Mains.{functions_have_words}
use Rattle.accepted_programs.proofs.program.read_functions.Given as goal

-- the functions still to come settle it
abbrev pub invariant-loop-function : goal.invariant-loop-function
invariant-loop-function l =
    functions_have_words (drop l.function-index l.functions) ≡ functions_have_words l.functions
