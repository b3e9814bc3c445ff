use Rattle.std.proofs.Common.{◌<◌, ◌≤◌, length, ap, ◌∙◌, arith}
use Rattle.std.specs.Prelude.{slice_set}
use Rattle.std.proofs.lemmas.Result.{on_ok_weaker}
use Rattle.staged_meaning.specs.Meaning.{keys_at_entry}
use Rattle.eval_state.specs.Kept.{place_of, set_or}
use Rattle.eval_state.proofs.Keys.{sets_behind, sets_there, setting}
use Rattle.eval_state.proofs.state.Generated.set.Goals as goal

pub returns-then-i-len : goal.returns-then-i-len
returns-then-i-len c = λ k.
    let g = c.args.self.now in
    let key = c.args.key in
    let other = keys_at_entry g.arguments k in
    let within : place_of g.values key < length g.values =
    omega (arith, c.if-i-len.true, c.len.ensures, c.place-i.ensures) in
    ap (λ vs. set_or vs k other) c.set.ensures
    ∙ ap (λ i. set_or (slice_set g.values i (setting key c.args.v)) k other) c.place-i.ensures
    ∙ sets_there g.values key c.args.v k other within

pub returns : goal.returns
returns c =
    let g = c.args.self.now in
    let key = c.args.key in
    let past : length g.values ≤ place_of g.values key =
    omega (arith, c.if-i-len.false, c.len.ensures, c.place-i.ensures) in
    on_ok_weaker c.push.result
    (λ e k. ap (λ vs. set_or vs k (keys_at_entry g.arguments k)) e
    ∙ sets_behind g.values key c.args.v k (keys_at_entry g.arguments k) past)
    c.push.ensures.ok
