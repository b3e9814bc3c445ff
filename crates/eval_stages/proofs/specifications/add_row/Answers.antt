use Rattle.std.proofs.Common.{◌+◌, ◌≤◌, List, sym, subst}
use Rattle.word32.specs.declared.map.TheConstants.{CLOSURE_BYTES}
use Rattle.eval_state.specs.declared.state.Parts.{Parts}
use Rattle.eval_state.specs.declared.state.Row.{Row}
use Rattle.eval_state.specs.Grown.{IsNew}
use Rattle.eval_state.specs.Sound.{IsSound}
use Rattle.eval_stages.proofs.Counted.{sound_with_row}
use Rattle.eval_stages.proofs.specifications.add_row.Goals as goal

pub invariant_of-m-2 : goal.invariant_of-m-2
invariant_of-m-2 c =
    let p = c.m.inside.parts in
    let new = subst (λ (q : Parts). IsNew q c.args.row) (sym c.m.view_is) c.requires.0 in
    let most = subst (λ (q : Parts). q.closures + c.args.bytes ≤ CLOSURE_BYTES) (sym c.m.view_is) c.requires.2 in
    subst (λ (rows : List Row). IsSound (record p { rows = rows; closures = p.closures + c.args.bytes }))
    (sym c.in_ok-push.ensures.ok) (sound_with_row p c.args.row c.args.bytes c.m.invariant new c.requires.1 most)
