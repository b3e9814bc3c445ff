use Rattle.std.proofs.Common.{rules, ◌≡◌, ◌↔◌, [], IsTrue, IsFalse, Bool, true, false, not, ap, sym, ◌∙◌}
use Rattle.eval_state.specs.declared.state.Parts.{Parts}
use Rattle.eval_state.specs.Run.{run_of}
use Rattle.eval_state.proofs.Starts.{none_pending, some_pending}
use Rattle.eval_state.proofs.state.Machine.is_pending.Goals as goal

is_so : (b : Bool) → IsFalse (not b) → IsTrue b
is_so true h = search rules
is_so false h = search rules

is_not : (b : Bool) → IsTrue b → IsFalse (not b)
is_not true h = search rules
is_not false h = search rules

pub returns : goal.returns
returns c =
    let p = c.self.inside.parts in
    let empty : IsTrue c.is_empty.result ↔ (p.entries ≡ []) = c.is_empty.ensures in
    let frames = ap (λ (p : Parts). (run_of p).state.frames) c.self.view_is in (
      λ h. sym frames ∙ none_pending p (empty.0 (is_so c.is_empty.result h)),
      λ h. is_not c.is_empty.result (empty.1 (some_pending p (frames ∙ h))),
    )
