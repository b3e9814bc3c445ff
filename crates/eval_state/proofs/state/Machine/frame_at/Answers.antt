use Rattle.std.proofs.Common.{rules, ◌≡◌, ◌+◌, ◌-◌, ap, sym, ◌∙◌, arith}
use Rattle.word32.specs.declared.map.TheConstants.{FRAMES}
use Rattle.meaning_state.specs.Shared.{frame_start}
use Rattle.eval_state.specs.declared.state.Parts.{Parts}
use Rattle.eval_state.specs.Run.{here, run_of, world}
use Rattle.eval_state.proofs.Clearing.{frame_stands}
use Rattle.eval_state.proofs.state.Machine.frame_at.Goals as goal

pub returns-clause-place : goal.returns-clause-place
returns-clause-place c =
    let p = c.self.inside.parts in
    let o = c.args.offset in
    let sum : c.from.result + c.from-2.result + c.from-3.result ≡ FRAMES + (p.frames - p.body.object) + o =
    search (rules, arith) in
    sum
    ∙ sym (frame_stands p o)
    ∙ ap (λ (p : Parts). frame_start (here (run_of p)).object (world (run_of p)).shared + o) c.self.view_is
