use Rattle.std.proofs.Common.{rules, ◌≡◌, ◌+◌, ◌-◌, ◌/◌, ◌<◌, ◌≤◌, ◌⊎◌, inl, inr, length, refl, ap, sym, ◌∙◌, arith}
use Rattle.std.specs.Vec.{with_item}
use Rattle.word32.specs.declared.map.TheConstants.{OBJECTS}
use Rattle.meaning_state.specs.Shared.{zeroed}
use Rattle.staged_meaning.specs.World.{with_shared}
use Rattle.eval_state.specs.declared.state.Parts.{Parts}
use Rattle.eval_state.specs.Run.{in_world, run_of, world}
use Rattle.eval_state.proofs.Clearing.{clears, none_clears, word_clears}
use Rattle.eval_state.proofs.state.Machine.zero.Goals as goal
use Rattle.eval_state.proofs.state.Machine.zero.Goals.{else-first-i-via-then-first-i+else-i-first}
use Rattle.eval_state.proofs.state.Machine.zero.Goals.{else-first-i-via-else-first-i}

pub returns-then-i-first : goal.returns-then-i-first
returns-then-i-first c =
    let p = c.self.inside.parts in
    let at = c.args.at in
    let i = at / 4 - c.from-first.result in
    let q : Parts = record p { objects = with_item p.objects i 0 } in
    let within : i < length p.objects.items = search rules in
    let place : at / 4 ≡ OBJECTS / 4 + i = omega (arith, c.if-first-i.true, c.from-first.ensures) in
    clears p q at refl (word_clears at i p.objects.items within place)
    ∙ ap (λ (p : Parts). in_world (with_shared (zeroed at 1 (world (run_of p)).shared) (world (run_of p))) (run_of p))
    c.self.view_is

pub returns-else-first-i : goal.returns-else-first-i
returns-else-first-i c =
    let p = c.self.inside.parts in
    let at = c.args.at in
    let none : (at / 4 < OBJECTS / 4) ⊎ (OBJECTS / 4 + length p.objects.items ≤ at / 4) =
    elim c.else-first-i.branch [
      | else-first-i-via-then-first-i+else-i-first w ↦
          let count : w.len.result ≡ length p.objects.items = search rules in
          inr (omega (arith, count, w.if-first-i.true, w.if-i-first.false, c.from-first.ensures))
      | else-first-i-via-else-first-i w ↦ inl (omega (arith, w.if-first-i.false, c.from-first.ensures))
    ] in
    ap run_of (sym c.self.view_is)
    ∙ clears p p at refl (none_clears at p.objects.items none)
    ∙ ap (λ (p : Parts). in_world (with_shared (zeroed at 1 (world (run_of p)).shared) (world (run_of p))) (run_of p))
    c.self.view_is
