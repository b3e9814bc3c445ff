-- The line of counts of a run, which stands on standard error before that of the outcome where the words ask for it:
-- what the services for generated code were asked for, and how many instructions were executed. Its form is the
-- product's own.
use Rattle.std.specs.Prelude.{ℕ, List, ◌++◌, codes, decimal}
use Rattle.host_edge.specs.declared.ending.Counts.{Counts}

-- what was generated
abbrev pub counts_front : Counts → List ℕ
counts_front c =
    codes "ops=" ++ decimal c.ops ++ codes " functions=" ++ decimal c.functions ++ codes " words=" ++ decimal c.words

-- what it took
abbrev pub counts_end : Counts → (steps : ℕ) → List ℕ
counts_end c steps =
    codes " flushes=" ++ decimal c.flushes ++ codes " spills=" ++ decimal c.spills ++ codes " steps=" ++ decimal steps
    ++ codes "\n"

-- the whole line, with its line feed
abbrev pub counts_line : Counts → (steps : ℕ) → List ℕ
counts_line c steps = counts_front c ++ counts_end c steps
