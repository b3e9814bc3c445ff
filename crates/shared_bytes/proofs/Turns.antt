-- A function that opens a cell is walked with the thread's own token in hand, though its contract names none: the token
-- stands beside memory wherever ordinary code runs.
--     in_turn          such a walk, at any tables, shows that a call of the function's code meets the contract
-- Assumes `Logic`.
use mathlib.Core.Path.{subst}
use seplogic.Ra.Ura.{Ura}
use mir.Syntax.{Fn}
use base.Logic.{SProp}
use base.Mask.{every}
use prog.Model.{Model}
use prog.Routine.{Callee, over, ◌≼⁺◌}
use prog.Wp.{Tables, WpFn}
use types.Logic.{Logic}
use contract.Beside.{Carries}
use contract.Named.{bare_unfolds}
use contract.Running.{Running, tables_of, bare_tables}
use denote.Triple.Clauses.{Clauses, Ended, closing}
use denote.Triple.Handed.{holding, hands}
use denote.Triple.Spec.{Meets, triple_of}
use denote.Triple.Statement.{Contract}
use denote.Triple.Table.{entered}

module _ {M : Type 1} {𝓤 : Ura M} (𝓛 : Logic 𝓤) (E : Ended) (c : Clauses 𝓤 E) where
  abbrev turn : SProp 𝓤
  turn = 𝓛.A.tok every

  -- the contract with the token in both its clauses
  abbrev pub Turned : Clauses 𝓤 E
  Turned = holding 𝓤 E turn c

  abbrev whole : Contract 𝓤
  whole = triple_of 𝓛 E.signature (closing 𝓛 E Turned)

  module _ (𝓜 : Model 𝓤 𝓛.H) (𝓡 : Running 𝓤 𝓛.H 𝓜) (k : Callee) (code : Fn) (runs : over 𝓡.env code ≼⁺ 𝓡.env k) where
    without : Carries 𝓤 𝓛.H 𝓜 turn
    without = subst (Carries 𝓤 𝓛.H 𝓜) 𝓛.turn_is 𝓡.carries

    pub in_turn : ((𝓣 : Tables 𝓤 𝓛.H) → Meets 𝓛 E.signature (WpFn 𝓤 𝓛.H 𝓣.C 𝓣.Λ code) (closing 𝓛 E Turned))
        → Meets 𝓛 E.signature (𝓡.run (𝓡.env k)) (closing 𝓛 E c)
    unfolding tables_of
    in_turn walked =
        let alone : Model 𝓤 𝓛.H = without.inner in
        let bare = bare_tables 𝓤 𝓛.H alone 𝓡.allowed 𝓡.how 𝓡.env in
        let closed = bare_unfolds 𝓤 𝓛.H alone 𝓡.allowed 𝓡.how 𝓡.env k code runs in
        let met = entered 𝓤 𝓛.H whole bare.C bare.Λ k code closed (walked (tables_of 𝓤 𝓛.H alone bare)) in
        hands 𝓛 E turn c 𝓜 without 𝓡 (𝓡.env k) met
