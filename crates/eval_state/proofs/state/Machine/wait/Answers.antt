use Rattle.std.proofs.Common.{List, [], ap, sym, subst, ◌∙◌, arith}
use Rattle.std.proofs.lemmas.Result.{on_ok_weaker}
use Rattle.eval_state.specs.declared.state.Entry.{Entry}
use Rattle.eval_state.specs.declared.state.Parts.{Parts}
use Rattle.eval_state.specs.Kept.{entry_view}
use Rattle.eval_state.specs.Late.{MayWait}
use Rattle.eval_state.specs.Run.{pushed, run_of}
use Rattle.eval_state.proofs.Changes.{named_after}
use Rattle.eval_state.proofs.Entries.{calls_most}
use Rattle.eval_state.proofs.Waits.{local_pushed, waits_named, waits_within}
use Rattle.eval_state.proofs.state.Machine.wait.Goals as goal

pub invariant_of-self : goal.invariant_of-self
invariant_of-self c =
    let p = c.self.inside.parts in
    let i = c.self.invariant in
    let e = c.args.entry in
    let may : MayWait e p = subst (MayWait e) (sym c.self.view_is) c.requires in
    let most = calls_most c.push.result p.entries c.push.new.self e c.push.ensures.ok c.push.ensures.err in
    let within = waits_within p e may i.5 in (
      i.0,
      named_after c.push.result _ p.entries c.push.new.self e c.push.ensures.ok c.push.ensures.err i.1
          (waits_named p e _ may),
      i.2,
      i.3,
      i.4,
      omega (arith, most, within),
    )

pub returns-clause-run : goal.returns-clause-run
returns-clause-run c =
    let p = c.self.inside.parts in
    on_ok_weaker c.push.result
    (λ e. local_pushed p (record p { entries = c.push.new.self }) c.args.entry
    (subst (MayWait c.args.entry) (sym c.self.view_is) c.requires)
    (ap (λ (es : List Entry). record c.self.inside.parts { entries = es }) e)
    ∙ ap (λ (p : Parts). pushed (entry_view [] c.args.entry) (run_of p)) c.self.view_is)
    c.push.ensures.ok
