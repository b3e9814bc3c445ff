-- What an evaluation changes, and what may come of it. A thing first takes place and then spends its unit of work;
-- where no unit is left the evaluation stops, and what the thing did stands. These are this project's own rules.
use Rattle.std.specs.Prelude.{ℕ, zero, suc, ◌+◌, List, Option, Some, None}
use Rattle.word32.specs.Space.{update}
use Rattle.host_edge.specs.declared.ending.TrapKind.{TrapKind}
use Rattle.host_edge.specs.declared.ending.Ending.TheVariants.{Trap}
use Rattle.history.specs.Events.{End, Ended}
use Rattle.meaning_state.specs.Shared.{Shared, zeroed}

-- The register variables of the active body, what its call was passed, the variables of generated code that a compiled
-- function has, by their keys, what outlives a call, and the units that are left.
pub record World : Type 0 where
  pub variables : ℕ → ℕ
  pub arguments : List ℕ
  pub generated : ℕ → ℕ
  pub shared : Shared
  pub units : ℕ

-- what came of a thing: it gave a value, the function was left with a value, the run ended, or it stopped for want of
-- units
pub data Result (A : Type 0) : Type 0 where
  Gives : A → World → Result A
  Returns : ℕ → World → Result A
  Ends : End → Shared → Result A
  Stops : Shared → Result A

-- how a statement was left
pub data Flow : Type 0 where
  Normal : Flow
  Broke : Flow
  Continued : Flow

-- one thing after another
abbrev pub then_do : {A B : Type 0} → Result A → (A → World → Result B) → Result B
then_do (Gives a w) next = next a w
then_do (Returns v w) next = Returns v w
then_do (Ends e shared) next = Ends e shared
then_do (Stops shared) next = Stops shared

-- spends a unit, where one is left
abbrev pub spend_from : {A : Type 0} → ℕ → A → World → Result A
spend_from zero a w = Stops w.shared
spend_from (suc units) a w = Gives a (record w { units = units })

abbrev pub spend : {A : Type 0} → A → World → Result A
spend a w = spend_from w.units a w

-- a variable is set
abbrev pub with_variable : ℕ → ℕ → World → World
with_variable i v w = record w { variables = update i v w.variables }

abbrev pub with_generated : ℕ → ℕ → World → World
with_generated key v w = record w { generated = update key v w.generated }

abbrev pub with_shared : Shared → World → World
with_shared shared w = record w { shared = shared }

-- a thing is done where there is no trap, which spends nothing
abbrev pub unless : {A : Type 0} → Option TrapKind → World → Result A → Result A
unless None w r = r
unless (Some kind) w r = Ends (Ended (Trap kind)) w.shared

-- the first at 0, and else the second
abbrev pub at_zero : {A : Type 0} → ℕ → A → A → A
at_zero zero on_zero on_other = on_zero
at_zero (suc n) on_zero on_other = on_other

-- words from an address on are set to 0, one after the other, at a unit each
abbrev pub clear_words : (words address : ℕ) → World → Result Flow
clear_words zero address w = Gives Normal w
clear_words (suc words) address w =
    then_do {A = Flow} (spend Normal (with_shared (zeroed address 1 w.shared) w))
    (λ flow w. clear_words words (address + 4) w)

-- several units are spent, one after the other, and nothing is done
abbrev pub spend_all : (units : ℕ) → World → Result Flow
spend_all zero w = Gives Normal w
spend_all (suc units) w = then_do {A = Flow} (spend Normal w) (λ flow w. spend_all units w)
