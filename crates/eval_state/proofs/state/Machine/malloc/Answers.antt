use Rattle.std.proofs.Common.{◌-◌, ◌<◌, ◌≤◌, refl, ap, sym, ◌∙◌, arith}
use Rattle.word32.specs.declared.map.TheConstants.{FRAMES}
use Rattle.meaning_state.specs.Shared.{malloc_answer}
use Rattle.eval_state.specs.declared.state.Parts.{Parts}
use Rattle.eval_state.specs.Run.{run_of, world}
use Rattle.eval_state.proofs.Puts.{behind_malloc, keeps_heap, lacks_room, takes_heap, takes_room}
use Rattle.eval_state.proofs.state.Machine.malloc.Goals as goal

pub returns-then-saturating_sub-bytes-clause-answer : goal.returns-then-saturating_sub-bytes-clause-answer
returns-then-saturating_sub-bytes-clause-answer c =
    let p = c.self.inside.parts in
    let over : FRAMES - p.heap < c.args.bytes =
    omega (arith, c.saturating_sub.ensures, c.if-saturating_sub-bytes.true) in
    sym (lacks_room p c.args.bytes over)
    ∙ ap (λ (p : Parts). malloc_answer c.args.bytes (world (run_of p)).shared) c.self.view_is

pub returns-then-saturating_sub-bytes-clause-state : goal.returns-then-saturating_sub-bytes-clause-state
returns-then-saturating_sub-bytes-clause-state c =
    let p = c.self.inside.parts in
    let over : FRAMES - p.heap < c.args.bytes =
    omega (arith, c.saturating_sub.ensures, c.if-saturating_sub-bytes.true) in
    ap run_of (sym c.self.view_is)
    ∙ keeps_heap p c.args.bytes over
    ∙ ap (λ (p : Parts). behind_malloc c.args.bytes (run_of p)) c.self.view_is

pub returns-then-bytes-ne0-clause-answer : goal.returns-then-bytes-ne0-clause-answer
returns-then-bytes-ne0-clause-answer c =
    let p = c.self.inside.parts in
    let room : c.args.bytes ≤ FRAMES - p.heap =
    omega (arith, c.saturating_sub.ensures, c.if-saturating_sub-bytes.false) in
    sym (takes_room p c.args.bytes room)
    ∙ ap (λ (p : Parts). malloc_answer c.args.bytes (world (run_of p)).shared) c.self.view_is

pub returns-then-bytes-ne0-clause-state : goal.returns-then-bytes-ne0-clause-state
returns-then-bytes-ne0-clause-state c =
    let p = c.self.inside.parts in
    let room : c.args.bytes ≤ FRAMES - p.heap =
    omega (arith, c.saturating_sub.ensures, c.if-saturating_sub-bytes.false) in
    takes_heap p _ c.args.bytes room refl
    ∙ ap (λ (p : Parts). behind_malloc c.args.bytes (run_of p)) c.self.view_is

pub returns-else-bytes-ne0-clause-answer : goal.returns-else-bytes-ne0-clause-answer
returns-else-bytes-ne0-clause-answer c =
    let p = c.self.inside.parts in
    let room : c.args.bytes ≤ FRAMES - p.heap =
    omega (arith, c.saturating_sub.ensures, c.if-saturating_sub-bytes.false) in
    sym (takes_room p c.args.bytes room)
    ∙ ap (λ (p : Parts). malloc_answer c.args.bytes (world (run_of p)).shared) c.self.view_is
