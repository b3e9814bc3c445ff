use Rattle.std.proofs.Common.{rules, ◌≡◌, Some, None, sym, ◌∙◌}
use Rattle.std.specs.Prelude.{slice_get}
use Rattle.staged_meaning.specs.Meaning.{keys_at_entry}
use Rattle.eval_state.specs.Kept.{place_of}
use Rattle.eval_state.proofs.Keys.{is_other, is_set}
use Rattle.eval_state.proofs.state.Generated.get.Goals as goal

pub returns-in-Some : goal.returns-in-Some
returns-in-Some c =
    let g = c.args.self.now in
    let k = c.args.key in
    let there : slice_get g.values (place_of g.values k) ≡ Some c.in-Some.set.now = search rules in
    sym (is_set g.values k (keys_at_entry g.arguments k) c.in-Some.set.now there)

pub returns-in-None : goal.returns-in-None
returns-in-None c =
    let g = c.args.self.now in
    let k = c.args.key in
    let none : slice_get g.values (place_of g.values k) ≡ None = search rules in
    let entry : c.at_entry.result ≡ keys_at_entry g.arguments k = search rules in
    entry ∙ sym (is_other g.values k (keys_at_entry g.arguments k) none)
