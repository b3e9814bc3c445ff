-- A bound for laws on what is counted in a text.
use Rattle.std.specs.Prelude.{ℕ}

-- more than a text of at most 262,144 tokens has of anything that is counted: nodes, variables, ticks, captures; sums
-- that stay under it don't reach 2 ^ 32
abbrev pub count_bound : ℕ
count_bound = 1000000000
