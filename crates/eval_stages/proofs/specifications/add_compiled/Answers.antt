use Rattle.std.proofs.Common.{◌+◌, ◌≤◌, List, [], ◌∷◌, ◌++◌, sym, subst}
use Rattle.eval_state.specs.declared.state.Compiled.{Compiled}
use Rattle.eval_state.specs.declared.state.Event.{Event}
use Rattle.eval_state.specs.declared.state.Parts.{Parts}
use Rattle.eval_state.specs.Kept.{rows_view}
use Rattle.eval_state.specs.Sound.{IsSound}
use Rattle.eval_state.specs.Specified.{IsMade, IsNext}
use Rattle.eval_stages.proofs.Compiles.{sound_event, sound_made}
use Rattle.eval_stages.proofs.specifications.add_compiled.Goals as goal

pub invariant_of-m-in_err-push-2 : goal.invariant_of-m-in_err-push-2
invariant_of-m-in_err-push-2 c =
    let p = c.m.inside.parts in
    let made = subst (λ (q : Parts). IsMade (rows_view q.rows) c.args.made) (sym c.m.view_is) c.requires.0 in
    subst (λ (ms : List Compiled). IsSound (record c.m.inside.parts { events = c.push.new.self; compiled = ms }))
    (sym c.in_err-push-2.ensures.err)
    (subst (λ (es : List Event). IsSound (record c.m.inside.parts { events = es }))
    (sym c.in_ok-push.ensures.ok) (sound_event p c.args.function c.args.made c.m.invariant made))

pub invariant_of-m-2 : goal.invariant_of-m-2
invariant_of-m-2 c =
    let p = c.m.inside.parts in
    let made = subst (λ (q : Parts). IsMade (rows_view q.rows) c.args.made) (sym c.m.view_is) c.requires.0 in
    let next = subst (λ (q : Parts). IsNext c.args.made q.arena) (sym c.m.view_is) c.requires.1 in
    subst (λ (ms : List Compiled). IsSound (record c.m.inside.parts {
      events = c.push.new.self;
      compiled = ms;
      arena = c.m.inside.parts.arena + c.args.made.words;
    })) (sym c.in_ok-push-2.ensures.ok)
    (subst (λ (es : List Event). IsSound (record c.m.inside.parts {
      events = es;
      compiled = c.m.inside.parts.compiled ++ c.args.made ∷ [];
      arena = c.m.inside.parts.arena + c.args.made.words;
    })) (sym c.in_ok-push.ensures.ok)
    (sound_made p c.args.function c.args.made c.m.invariant made next))
