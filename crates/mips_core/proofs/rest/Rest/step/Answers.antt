use Rattle.std.proofs.Common.{sym, false, true, ◌≡◌, ◌∙◌, arith}
use Rattle.mips_core.proofs.Stepped.{executed_at, halted_leaves, halted_world}
use Rattle.mips_core.proofs.rest.Rest.step.Goals as goal

pub returns-in-Some-clause-spent : goal.returns-in-Some-clause-spent
returns-in-Some-clause-spent c =
    λ none. let some = c.in-Some.ensures.some in absurd (omega (arith, none, some))

pub returns-in-Some-clause-service : goal.returns-in-Some-clause-service
returns-in-Some-clause-service c =
    λ some. (executed_at c.pc.ensures c.in-Some.ensures.word c.requires.on c.execute.ensures).0

pub returns-in-Some-clause-other : goal.returns-in-Some-clause-other
returns-in-Some-clause-other c =
    λ some. (executed_at c.pc.ensures c.in-Some.ensures.word c.requires.on c.execute.ensures).1

pub returns-in-None-clause-spent : goal.returns-in-None-clause-spent
returns-in-None-clause-spent c = c.refuse.ensures.spent

pub returns-in-None-clause-service : goal.returns-in-None-clause-service
returns-in-None-clause-service c =
    λ some is. let not : true ≡ false = sym is ∙ c.refuse.ensures.service some in absurd cc

pub returns-in-None-clause-other : goal.returns-in-None-clause-other
returns-in-None-clause-other c =
    λ some not.
    let e = c.refuse.ensures in
    let went = e.went some in
    let pc = c.args.at.now.pc in (
      halted_world c.refuse.result pc c.refuse.new.self _ (e.world some) went,
      halted_leaves false c.refuse.result pc c.refuse.new.self went,
    )

pub returns-in-None-clause-near : goal.returns-in-None-clause-near
returns-in-None-clause-near c =
    λ not some. absurd (not (c.refuse.ensures.went some).0)
