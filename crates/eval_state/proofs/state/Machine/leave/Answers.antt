use Rattle.std.proofs.Common.{◌≡◌, ◌+◌, ◌^◌, ◌<◌, [], List, refl, ap, sym, subst, ◌∙◌, arith}
use Rattle.eval_state.specs.declared.parts.Popped.TheVariants as popped
use Rattle.eval_state.specs.declared.state.Entry.{Entry}
use Rattle.eval_state.specs.declared.state.Entry.TheVariants as entry
use Rattle.eval_state.specs.declared.state.Parts.{Parts}
use Rattle.eval_state.specs.Popped.{IsLeft}
use Rattle.eval_state.specs.Run.{run_of}
use Rattle.eval_state.specs.Sound.{calls}
use Rattle.eval_state.proofs.Taken.{leaves_call, leaves_splice, fewer_calls, last_named, none_pending}
use Rattle.eval_state.proofs.Lightens.{Lighter, called_lightens, inside_lightens, left_lightens}
use Rattle.eval_state.proofs.Taken.{sound_without, takes_frame, was}
use Rattle.eval_state.proofs.state.Machine.leave.Goals as goal

pub invariant_of-self-in-Some-Inside : goal.invariant_of-self-in-Some-Inside
invariant_of-self-in-Some-Inside c =
    let p = c.self.inside.parts in
    sound_without p c.pop.new.self (entry.Inside c.in-Some-Inside.frame) c.self.invariant
    (was c.pop.new.self c.in-Some-Inside.ensures c.in-Some-Inside.field-0-is)

pub invariant_of-self-in-Some-Called : goal.invariant_of-self-in-Some-Called
invariant_of-self-in-Some-Called c =
    let e = entry.Called c.in-Some-Called.answer c.in-Some-Called.charge c.in-Some-Called.caller in
    sound_without c.self.inside.parts c.pop.new.self e c.self.invariant
    (was c.pop.new.self c.in-Some-Called.ensures c.in-Some-Called.field-0-is)

pub back-requires : goal.back-requires
back-requires c =
    let p = c.self.inside.parts in
    let e = entry.Called c.in-Some-Called.answer c.in-Some-Called.charge c.in-Some-Called.caller in
    let fewer : p.depth + (calls c.pop.new.self + 1) < 2 ^ 64 =
    fewer_calls p c.pop.new.self e c.self.invariant (was c.pop.new.self c.in-Some-Called.ensures
    c.in-Some-Called.field-0-is) in (
      last_named p c.pop.new.self e c.self.invariant (was c.pop.new.self c.in-Some-Called.ensures
          c.in-Some-Called.field-0-is),
      omega (arith, fewer),
    )

pub invariant_of-self-in-Some-Spliced : goal.invariant_of-self-in-Some-Spliced
invariant_of-self-in-Some-Spliced c =
    let p = c.self.inside.parts in
    let s = c.in-Some-Spliced in
    let e = entry.Spliced s.answer s.field-0-1 s.object s.row in
    let rest = sound_without p c.pop.new.self e c.self.invariant (was c.pop.new.self s.ensures s.field-0-is) in (
      last_named p c.pop.new.self e c.self.invariant (was c.pop.new.self s.ensures s.field-0-is),
      rest.1,
      rest.2,
      rest.3,
      rest.4,
      rest.5,
    )

pub returns-in-None-clause-same : goal.returns-in-None-clause-same
returns-in-None-clause-same c =
    let p = c.self.inside.parts in
    let none : p.entries ≡ [] = c.in-None.ensures.0 in (
      none_pending c.args.self.now (ap (λ (p : Parts). p.entries) (sym c.self.view_is) ∙ none),
      ap (λ (es : List Entry). record c.self.inside.parts { entries = es }) (c.in-None.ensures.1 ∙ sym none)
          ∙ c.self.view_is,
    )

pub returns-in-Some-Inside-clause-same : goal.returns-in-Some-Inside-clause-same
returns-in-Some-Inside-clause-same c =
    let p = c.self.inside.parts in
    ap run_of (sym c.self.view_is)
    ∙ takes_frame p (record p { entries = c.pop.new.self }) c.pop.new.self c.in-Some-Inside.frame
    (was c.pop.new.self c.in-Some-Inside.ensures c.in-Some-Inside.field-0-is) refl

pub returns-in-Some-Called-clause-same : goal.returns-in-Some-Called-clause-same
returns-in-Some-Called-clause-same c =
    let p = c.self.inside.parts in
    let s = c.in-Some-Called in
    subst (λ (p : Parts). IsLeft (popped.Called c.in-Some-Called.answer) (run_of p) (run_of c.back.new.self))
    c.self.view_is
    (leaves_call p c.back.new.self c.pop.new.self s.answer s.charge s.caller
    (was c.pop.new.self s.ensures s.field-0-is) c.back.ensures)

pub returns-clause-same : goal.returns-clause-same
returns-clause-same c =
    let p = c.self.inside.parts in
    let s = c.in-Some-Spliced in
    let b = record p.body { object = s.object; row = s.row } in
    subst (λ (p : Parts). IsLeft (popped.Spliced c.in-Some-Spliced.answer) (run_of p) (run_of
    (record c.self.inside.parts {
      entries = c.pop.new.self;
      body = record c.self.inside.parts.body {
        object = c.in-Some-Spliced.object;
        row = c.in-Some-Spliced.row;
      };
    })))
    c.self.view_is
    (leaves_splice p (record p { entries = c.pop.new.self; body = b }) c.pop.new.self s.answer s.field-0-1 s.object
    s.row
    (was c.pop.new.self s.ensures s.field-0-is) refl)

pub returns-in-Some-Inside-clause-less : goal.returns-in-Some-Inside-clause-less
returns-in-Some-Inside-clause-less c = λ some.
    let p = c.self.inside.parts in
    let q = record p { entries = c.pop.new.self } in
    subst (λ (p : Parts). Lighter (run_of p) (run_of q)) c.self.view_is
    (inside_lightens p q c.pop.new.self c.in-Some-Inside.frame
    (was c.pop.new.self c.in-Some-Inside.ensures c.in-Some-Inside.field-0-is) refl)

pub returns-in-Some-Called-clause-less : goal.returns-in-Some-Called-clause-less
returns-in-Some-Called-clause-less c = λ some.
    let p = c.self.inside.parts in
    let s = c.in-Some-Called in
    subst (λ (p : Parts). Lighter (run_of p) (run_of c.back.new.self)) c.self.view_is
    (called_lightens p c.back.new.self c.pop.new.self s.answer s.charge s.caller
    (was c.pop.new.self s.ensures s.field-0-is) c.back.ensures)

pub returns-clause-less : goal.returns-clause-less
returns-clause-less c = λ some.
    let p = c.self.inside.parts in
    let s = c.in-Some-Spliced in
    let q = record p { entries = c.pop.new.self; body = record p.body { object = s.object; row = s.row } } in
    subst (λ (p : Parts). Lighter (run_of p) (run_of q)) c.self.view_is
    (left_lightens p q c.pop.new.self s.answer s.field-0-1 s.object s.row (was c.pop.new.self s.ensures s.field-0-is)
    refl)
