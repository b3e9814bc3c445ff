use Rattle.std.proofs.Common.{rules, ◌≡◌, ◌<◌, List, [], ◌∷◌, ◌++◌, refl, ap, sym, subst, ◌∙◌}
use Rattle.meaning_state.specs.Shared.{get_byte}
use Rattle.eval_state.specs.declared.state.Event.{Event}
use Rattle.eval_state.specs.declared.state.Event.TheVariants as event
use Rattle.eval_state.specs.declared.state.Parts.{Parts}
use Rattle.eval_state.specs.Library.{IsRead}
use Rattle.eval_state.specs.Run.{run_of, world}
use Rattle.eval_state.proofs.Puts.{known_after}
use Rattle.eval_state.proofs.Asking.{no_bytes, reads_byte, reads_end}
use Rattle.eval_state.proofs.state.Machine.get_byte.Goals as goal

pub invariant_of-self-in-Some : goal.invariant_of-self-in-Some
invariant_of-self-in-Some c =
    let p = c.self.inside.parts in
    let i = c.self.invariant in (
      i.0,
      i.1,
      known_after c.push.result _ p.events c.push.new.self _ c.push.ensures.ok c.push.ensures.err i.2 tt,
      i.3,
      i.4,
      i.5,
    )

pub invariant_of-self-in-None : goal.invariant_of-self-in-None
invariant_of-self-in-None c =
    let p = c.self.inside.parts in
    let i = c.self.invariant in (
      i.0,
      i.1,
      known_after c.push-in-None.result _ p.events c.push-in-None.new.self _ c.push-in-None.ensures.ok
          c.push-in-None.ensures.err i.2 tt,
      i.3,
      i.4,
      i.5,
    )

pub returns-in_ok-push-in-Some : goal.returns-in_ok-push-in-Some
returns-in_ok-push-in-Some c =
    let p = c.self.inside.parts in
    let b = c.in-Some.b.now in
    let rest = c.in-Some.rest.now in
    let first : p.input.now ≡ b ∷ rest = search rules in
    let fits : b < 256 = search rules in
    let q : Parts = record p { events = c.push.new.self; input = c.in-Some.rest } in
    let word : c.from-word.result ≡ b = c.from-word.ensures in
    let pushed : c.push.new.self ≡ p.events ++ event.In b ∷ [] =
    c.in_ok-push-in-Some.ensures.ok ∙ ap (λ n. p.events ++ event.In n ∷ []) word in
    subst (λ n. IsRead n (get_byte (world (run_of c.args.self.now)).shared) (run_of c.args.self.now) (run_of q))
    (sym word)
    (subst (λ (p : Parts). IsRead b (get_byte (world (run_of p)).shared) (run_of p) (run_of q)) c.self.view_is
    (reads_byte p q b rest first fits
    (ap (λ (es : List Event). record c.self.inside.parts { events = es; input = c.in-Some.rest }) pushed) refl))

pub returns-in_ok-push-in-None : goal.returns-in_ok-push-in-None
returns-in_ok-push-in-None c =
    let p = c.self.inside.parts in
    let none : p.input.now ≡ [] = no_bytes p.input.now (search rules) in
    let q : Parts = record p { events = c.push-in-None.new.self } in
    subst (λ (p : Parts). IsRead 4294967295 (get_byte (world (run_of p)).shared) (run_of p) (run_of q))
    c.self.view_is
    (reads_end p q none
    (ap (λ (es : List Event). record c.self.inside.parts { events = es }) c.in_ok-push-in-None.ensures.ok))
